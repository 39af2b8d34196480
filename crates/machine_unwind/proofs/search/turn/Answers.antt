-- `turn` meets its contract: a handler taken, or the frame left. Assumes nothing.
use mathlib.Core.Path.{◌≡◌, sym, ◌∙◌}
use Rattle.model.specs.World.{World}
use Rattle.memory_world.specs.Memory.{Lent, Beside, Rep, on_setup}
use Rattle.memory_world.specs.Lendings.{six_setup, plain}
use Rattle.machine_unwind.specs.Turns.{handler_in}
use Rattle.machine_unwind.proofs.Handlers.{handler-fits, catch-fits}
use Rattle.machine_unwind.proofs.Turning.{turn-takes, turn-leaves}
use Rattle.machine_unwind.proofs.search.turn.Lts as lts
use Rattle.machine_unwind.proofs.search.turn.Reads as reads
use Rattle.machine_unwind.proofs.search.turn.Tie as tie
use Rattle.machine_unwind.proofs.search.turn.Goals as goal

abbrev Start : Type 0
Start = lts.Start tie.the-claims reads.Pre reads.Post

abbrev After-handler_in : Type 0
After-handler_in = lts.After-handler_in tie.the-claims reads.Pre reads.Post

-- `turn` meets its contract: a handler taken, or the frame left. Assumes nothing.
abbrev mem : Start → Beside → Lent
mem c b =
    let a = c.args in
    six_setup a.stack.now a.frames.now a.chain.now a.slots.now a.saved_stack.now a.saved_frames.now a.setup.now plain b

-- the handler that the words tell is the world's
read : (c : After-handler_in) (w : World) (b : Beside) → Rep c.args.sizes w (mem c.before.before.before.before.before.before.before.before b) c.args.m c.args.fuel → c.handler_in.result ≡ handler_in w
read c w b rep = c.handler_in.ensures c.args.sizes w (record { words = mem c.before.before.before.before.before.before.before.before b; fuel = c.args.fuel }) rep

pub handler_in-requires : goal.handler_in-requires
handler_in-requires c =
    let a = c.args in
    let o = c.requires.ok in
    handler-fits a.sizes (mem c.before.before.before.before.before.before.before.before o.beside) a.m a.fuel o.world o.rep o.sound c.requires.some o.room

pub take_handler-requires : goal.take_handler-requires
take_handler-requires c =
    let a = c.args in
    let o = c.requires.ok in
    catch-fits a.sizes (mem c.before.before.before.before.before.before.before.before.before.before.before.before o.beside) a.m a.fuel o.world o.rep o.sound c.requires.some c.in-Some.h
    (sym c.in-Some.is ∙ read c.before.before.before.before o.world o.beside o.rep)

pub leave-requires : goal.leave-requires
leave-requires c =
    let a = c.args in
    let o = c.requires.ok in
    let beside : Beside = record { words = on_setup a.setup.now o.beside.words; fuel = o.beside.fuel } in
    record { ok = record { world = o.world; beside = beside; rep = o.rep; sound = o.sound; room = o.room }; some = c.requires.some }

pub shape_of-stack-in-Some : goal.shape_of-stack-in-Some
shape_of-stack-in-Some c = c.take_handler.auto.stack

pub shape_of-frames-in-Some : goal.shape_of-frames-in-Some
shape_of-frames-in-Some c = c.take_handler.auto.frames

pub returns-in-Some : goal.returns-in-Some
returns-in-Some c =
    let a = c.args in let t = c.take_handler in let e = t.new in
    λ w b rep snd.
    turn-takes a.sizes (six_setup e.stack e.frames a.chain.now a.slots.now a.saved_stack.now a.saved_frames.now a.setup.now plain b) t.result.machine t.result.fuel w
    a.value a.func a.pc t.result.answer c.in-Some.h (sym c.in-Some.is ∙ read c.before.before.before.before.before.before.before.before.before w b rep)
    (t.ensures a.sizes w (record { words = mem c.before.before.before.before.before.before.before.before.before.before.before.before.before.before.before.before.before b; fuel = b.fuel }) rep)

pub shape_of-stack-in-None : goal.shape_of-stack-in-None
shape_of-stack-in-None c = c.leave.auto.stack

pub shape_of-frames-in-None : goal.shape_of-frames-in-None
shape_of-frames-in-None c = c.leave.auto.frames

pub shape_of-chain : goal.shape_of-chain
shape_of-chain c = c.leave.auto.chain

pub shape_of-slots : goal.shape_of-slots
shape_of-slots c = c.leave.auto.slots

pub shape_of-saved_stack : goal.shape_of-saved_stack
shape_of-saved_stack c = c.leave.auto.saved_stack

pub shape_of-saved_frames : goal.shape_of-saved_frames
shape_of-saved_frames c = c.leave.auto.saved_frames

pub returns-in-None : goal.returns-in-None
returns-in-None c =
    let a = c.args in let t = c.leave in let e = t.new in
    λ w b rep snd.
    turn-leaves a.sizes (six_setup e.stack e.frames e.chain e.slots e.saved_stack e.saved_frames a.setup.now plain b) t.result.machine t.result.fuel w
    a.value a.func a.pc t.result.answer (sym c.in-None.is ∙ read c.before.before.before.before.before.before.before.before.before.before.before.before.before.before.before.before.before.before.before.before.before w b rep)
    (t.ensures w (record { words = on_setup a.setup.now b.words; fuel = b.fuel }) rep snd)
