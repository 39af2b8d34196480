-- `raise` meets its contract: where and what is raised, and the search. Assumes nothing.
use mathlib.Core.Path.{refl, ◌∙◌}
use Rattle.model.specs.World.{World}
use Rattle.memory_world.specs.Memory.{Lent, Beside, Rep}
use Rattle.memory_world.specs.Lendings.{six_setup, plain}
use Rattle.memory_world.specs.Contract.{Does}
use Rattle.machine_state.proofs.Allocation.{heap-room}
use Rattle.machine_unwind.specs.Turns.{thrown}
use Rattle.machine_unwind.proofs.Raising.{thrown-good, raised-fits, raise-refused, raise-searched}
use Rattle.machine_unwind.proofs.unwind.raise.Lts as lts
use Rattle.machine_unwind.proofs.unwind.raise.Reads as reads
use Rattle.machine_unwind.proofs.unwind.raise.Tie as tie
use Rattle.machine_unwind.proofs.unwind.raise.Goals as goal

abbrev Start : Type 0
Start = lts.Start tie.the-claims reads.Pre reads.Post

abbrev After-thrown-did : Type 0
After-thrown-did = lts.After-thrown tie.the-claims reads.Pre reads.Post

-- `raise` meets its contract: where and what is raised, and the search. Assumes nothing.
abbrev mem : Start → Beside → Lent
mem c b =
    let a = c.args in
    six_setup a.stack.now a.frames.now a.chain.now a.slots.now a.saved_stack.now a.saved_frames.now a.setup.now plain b

-- the words with what was made
abbrev after-made : After-thrown-did → Beside → Lent
after-made c b =
    let a = c.args in
    six_setup a.stack.now a.frames.now a.chain.now c.thrown-did.new.slots a.saved_stack.now a.saved_frames.now a.setup.now plain b

told : (c : After-thrown-did) (w : World) (b : Beside) → Rep c.args.sizes w (mem c.before.before.before.before.before.before.before.before.before.before b) c.args.m c.args.fuel
    → Does c.args.sizes (thrown c.args.fault w) (after-made c b) c.thrown-did.result.machine c.args.fuel c.thrown-did.result.answer
told c w b rep =
    let a = c.args in
    let beside : Beside = record { words = mem c.before.before.before.before.before.before.before.before.before.before b; fuel = a.fuel } in
    c.thrown-did.ensures w beside rep (c.origin-at.ensures a.sizes w beside rep)

pub thrown-did-requires : goal.thrown-did-requires
thrown-did-requires c = let o = c.requires.ok in heap-room o.rep o.sound o.room

pub search-requires : goal.search-requires
search-requires c =
    let a = c.args in let o = c.requires.ok in
    raised-fits a.sizes (mem c.before.before.before.before.before.before.before.before.before.before.before.before.before.before.before.before.before.before.before.before.before) (after-made c.before.before.before.before.before.before.before.before.before.before.before) a.m c.thrown-did.result.machine a.fuel o a.fault c.requires.raises c.origin-at.result
    (c.origin-at.ensures a.sizes o.world (record { words = mem c.before.before.before.before.before.before.before.before.before.before.before.before.before.before.before.before.before.before.before.before.before o.beside; fuel = a.fuel }) o.rep)
    (record { stack = refl; frames = refl; chain = refl; slots = c.thrown-did.auto.slots; saved_stack = refl; saved_frames = refl; ready = refl; finalize = refl; setup = refl })
    (told c.before.before.before.before.before.before.before.before.before.before.before o.world o.beside o.rep).world

pub returns-in-Err : goal.returns-in-Err
returns-in-Err c =
    let a = c.args in
    λ w b rep snd.
    raise-refused a.fault w a.sizes (after-made c.before.before.before.before.before b) c.thrown-did.result.machine a.fuel c.in-Err.f c.thrown-did.result.answer c.in-Err.is (told c.before.before.before.before.before w b rep)

pub shape_of-stack : goal.shape_of-stack
shape_of-stack c = c.search.auto.stack

pub shape_of-frames-in-Ok : goal.shape_of-frames-in-Ok
shape_of-frames-in-Ok c = c.search.auto.frames

pub shape_of-chain : goal.shape_of-chain
shape_of-chain c = c.search.auto.chain

pub shape_of-slots-in-Ok : goal.shape_of-slots-in-Ok
shape_of-slots-in-Ok c = c.search.auto.slots ∙ c.thrown-did.auto.slots

pub shape_of-saved_stack : goal.shape_of-saved_stack
shape_of-saved_stack c = c.search.auto.saved_stack

pub shape_of-saved_frames : goal.shape_of-saved_frames
shape_of-saved_frames c = c.search.auto.saved_frames

pub returns-in-Ok : goal.returns-in-Ok
returns-in-Ok c =
    let a = c.args in let r = c.search in let e = r.new in
    λ w b rep snd.
    let u = (thrown a.fault w).world in
    let g = thrown-good a.fault w snd c.requires.raises in
    let d = told c.before.before.before.before.before.before.before.before.before.before.before.before.before.before.before.before.before.before.before.before.before.before.before.before w b rep in
    raise-searched a.fault w a.sizes (six_setup e.stack e.frames e.chain e.slots e.saved_stack e.saved_frames a.setup.now plain b)
    r.result.machine r.result.fuel c.in-Ok.v c.thrown-did.result.answer c.origin-at.result c.in-Ok.is d.answer
    (c.origin-at.ensures a.sizes w (record { words = mem c.before.before.before.before.before.before.before.before.before.before.before.before.before.before.before.before.before.before.before.before.before.before.before.before.before.before.before.before.before.before.before.before.before.before b; fuel = a.fuel }) rep) g.still.frames r.result.answer (r.ensures u b d.world g.sound)
