-- `end_call` meets the definition of a call's frame: it goes, the result lands, the caller goes on. Assumes nothing.
use mathlib.Core.Path.{refl}
use Rattle.model.specs.World.{World}
use Rattle.model.specs.Machine.{apply_cont}
use Rattle.memory_world.specs.Memory.{Lent, Beside, Rep, on_stack, on_slots}
use Rattle.memory_world.specs.Lendings.{top_table, plain}
use Rattle.machine_state.specs.Frame.{pop_top}
use Rattle.machine_finish.proofs.Ends.{on-top, may-pop, end-applies, end-steps, call_ends}
use Rattle.machine_finish.proofs.finish.end_call.Lts as lts
use Rattle.machine_finish.proofs.finish.end_call.Reads as reads
use Rattle.machine_finish.proofs.finish.end_call.Tie as tie
use Rattle.machine_finish.proofs.finish.end_call.Goals as goal

abbrev Start : Type 0
Start = lts.Start tie.the-claims reads.Pre reads.Post

abbrev After-pop-n : Type 0
After-pop-n = lts.After-pop tie.the-claims reads.Pre reads.Post

-- `end_call` meets the definition of a call's frame: it goes, the result lands, the caller goes on. Assumes nothing.
abbrev mem : Start → Beside → Lent
mem s = top_table s.args.stack.now s.args.frames.now s.args.slots.now plain

abbrev left : After-pop-n → Beside → Lent
left c = top_table c.pop-n.new.stack c.pop-n.new.frames c.args.slots.now plain

popped : (c : After-pop-n) (w : World) (b : Beside) → Rep c.args.sizes w (mem c.before.before.before.before.before.before b) c.args.m b.fuel → Rep c.args.sizes (pop_top w) (left c b) c.pop-n.result b.fuel
popped c w b rep = let a = c.args in c.pop-n.ensures a.sizes w (record { words = on_slots a.slots.now b.words; fuel = b.fuel }) rep

pub pop-n-requires : goal.pop-n-requires
pop-n-requires c = may-pop c.args.sizes (mem c.before.before.before.before.before.before) c.args.m c.requires.on.ok c.requires.on.some

pub apply_cont-did-requires : goal.apply_cont-did-requires
apply_cont-did-requires c =
    let a = c.args in
    let o = c.requires.on.ok in
    let k = c.pop-n.auto in
    end-applies a.sizes (mem c.before.before.before.before.before.before.before.before.before.before.before.before) a.m a.cont c.requires (left c.before.before.before.before.before.before) c.pop-n.result (popped c.before.before.before.before.before.before o.world o.beside o.rep)
    (record { stack = k.stack; frames = k.frames; chain = refl; slots = refl; saved_stack = refl; saved_frames = refl; ready = refl; finalize = refl; setup = refl })

pub resume_in-answer-requires : goal.resume_in-answer-requires
resume_in-answer-requires c =
    let a = c.args in
    let o = c.requires.on.ok in
    let f = c.apply_cont-did in
    let rep = popped c.before.before.before.before.before.before.before.before.before.before.before.before.before.before o.world o.beside o.rep in
    end-steps a.sizes (mem c.before.before.before.before.before.before.before.before.before.before.before.before.before.before.before.before.before.before.before.before) a.m a.cont c.requires (left c.before.before.before.before.before.before.before.before.before.before.before.before.before.before) c.pop-n.result rep a.kind a.v
    (top_table f.new.stack c.pop-n.new.frames f.new.slots plain o.beside) f.result.machine (f.ensures (pop_top o.world) o.beside rep).world

pub returns : goal.returns
returns c =
    let a = c.args in
    let f = c.apply_cont-did in
    let g = c.resume_in-answer in
    λ w b rep.
    let d = f.ensures (pop_top w) b (popped c.before.before.before.before.before.before.before.before.before.before.before.before.before.before.before.before.before w b rep) in
    call_ends a.sizes (top_table f.new.stack g.new.frames f.new.slots plain b) f.result.machine b.fuel w a.cont a.kind a.v
    (on-top a.sizes (mem c.before.before.before.before.before.before.before.before.before.before.before.before.before.before.before.before.before.before.before.before.before.before.before b) a.m b.fuel w rep c.requires.on.some a.cont c.requires.on.top) c.requires.call f.result.answer g.result d.answer
    (g.ensures a.sizes (apply_cont a.cont a.kind a.v (pop_top w)).world (record { words = on_stack f.new.stack (on_slots f.new.slots b.words); fuel = b.fuel }) d.world)
