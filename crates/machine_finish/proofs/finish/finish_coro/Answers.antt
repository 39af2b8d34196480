-- `finish_coro` meets the definition of a body's frame: the result converts and goes to the driver, or the frame stays. Assumes nothing.
use mathlib.Core.Path.{sym, ◌∙◌}
use mathlib.Core.List.{List}
use Prim.Native.Nat.{ℕ}
use Rattle.model.specs.World.{World}
use Rattle.model.specs.Frames.{pop_to}
use Rattle.model.specs.Heap.{to_dyn}
use Rattle.model.specs.declared.machine.Cont.{Cont}
use Rattle.memory_world.specs.Memory.{Lent, Beside, Rep, on_stack, on_frames, on_chain, on_slots, on_saved}
use Rattle.memory_world.specs.Lendings.{lent}
use Rattle.machine_state.proofs.Allocation.{heap-room}
use Rattle.coro_end.proofs.Ending.{sound-rowed}
use Rattle.machine_finish.proofs.Ends.{On, on-top, dyn-sounds, dyn-top, popped-to, body-pops, body-asks, body_refused, body-returns}
use Rattle.machine_finish.proofs.finish.finish_coro.Lts as lts
use Rattle.machine_finish.proofs.finish.finish_coro.Reads as reads
use Rattle.machine_finish.proofs.finish.finish_coro.Tie as tie
use Rattle.machine_finish.proofs.finish.finish_coro.Goals as goal

abbrev Start : Type 0
Start = lts.Start tie.the-claims reads.Pre reads.Post

-- `finish_coro` meets the definition of a body's frame: the result converts and goes to the driver, or the frame stays. Assumes nothing.
-- the words, with other slots
abbrev mem : Start → List ℕ → Beside → Lent
mem s slots = let a = s.args in lent a.stack.now a.frames.now a.chain.now slots a.saved_stack.now a.saved_frames.now

-- what the conversion is not lent, and what the pop is not
abbrev around : Start → Beside → Beside
around s b =
    let a = s.args in
    record { words = on_stack a.stack.now (on_frames a.frames.now (on_chain a.chain.now (on_saved a.saved_stack.now a.saved_frames.now b.words))); fuel = b.fuel }

abbrev under : Start → List ℕ → Beside → Beside
under s slots b = record { words = on_chain s.args.chain.now (on_slots slots (on_saved s.args.saved_stack.now s.args.saved_frames.now b.words)); fuel = b.fuel }

top : (s : Start) (w : World) (b : Beside) → Rep s.args.sizes w (mem s s.args.slots.now b) s.args.m s.args.fuel → On w.frames Cont.Coro
top s w b rep = on-top s.args.sizes (mem s s.args.slots.now b) s.args.m s.args.fuel w rep s.requires.some Cont.Coro s.requires.top

pub to_dyn-did-requires : goal.to_dyn-did-requires
to_dyn-did-requires c = let o = c.requires.ok in heap-room o.rep o.sound o.room

pub pop-k-requires : goal.pop-k-requires
pop-k-requires c =
    let a = c.args in let o = c.requires.ok in let f = c.to_dyn-did in
    body-pops a.sizes (mem c.before.before.before.before.before.before.before.before.before.before.before.before.before.before.before a.slots.now) a.m c.requires a.kind a.v (mem c.before.before.before.before.before.before.before.before.before.before.before.before.before.before.before f.new.slots o.beside) f.result.machine
    (f.ensures o.world (around c.before.before.before.before.before.before.before.before.before.before.before.before.before.before.before o.beside) o.rep).world

pub coro_returned-told-requires : goal.coro_returned-told-requires
coro_returned-told-requires c =
    let a = c.args in
    let o = c.requires.ok in let f = c.to_dyn-did in let p = c.pop-k in
    body-asks a.sizes (mem c.before.before.before.before.before.before.before.before.before.before.before.before.before.before.before.before.before.before.before.before.before.before.before.before.before a.slots.now) a.m c.requires a.kind a.v
    (lent p.new.stack p.new.frames a.chain.now f.new.slots a.saved_stack.now a.saved_frames.now) p.result
    (p.ensures a.sizes (to_dyn a.kind a.v o.world).world (under c.before.before.before.before.before.before.before.before.before.before.before.before.before.before.before.before.before.before.before.before.before.before.before.before.before f.new.slots o.beside) (f.ensures o.world (around c.before.before.before.before.before.before.before.before.before.before.before.before.before.before.before.before.before.before.before.before.before.before.before.before.before o.beside) o.rep).world)

pub returns-in-Err : goal.returns-in-Err
returns-in-Err c =
    let a = c.args in let f = c.to_dyn-did in
    λ w b rep snd.
    let d = f.ensures w (around c.before.before.before.before.before.before.before.before.before.before.before.before.before (record { words = b.words; fuel = a.fuel })) rep in
    body_refused a.sizes (mem c.before.before.before.before.before.before.before.before.before.before.before.before.before f.new.slots b) f.result.machine a.fuel w a.kind a.v (top c.before.before.before.before.before.before.before.before.before.before.before.before.before w b rep) c.in-Err.e (sym c.in-Err.is ∙ d.answer) d.world

pub shape_of-slots-in-Ok : goal.shape_of-slots-in-Ok
shape_of-slots-in-Ok c = c.coro_returned-told.auto.slots ∙ c.to_dyn-did.auto.slots

pub returns-in-Ok : goal.returns-in-Ok
returns-in-Ok c =
    let a = c.args in let f = c.to_dyn-did in let p = c.pop-k in let g = c.coro_returned-told in
    λ w b rep snd.
    let u = (to_dyn a.kind a.v w).world in
    let t = top c.before.before.before.before.before.before.before.before.before.before.before.before.before.before.before.before.before.before.before.before.before.before.before.before.before.before.before.before.before.before.before.before.before.before.before.before.before.before.before.before.before w b rep in
    let fed : Beside = record { words = b.words; fuel = a.fuel } in
    let d = f.ensures w (around c.before.before.before.before.before.before.before.before.before.before.before.before.before.before.before.before.before.before.before.before.before.before.before.before.before.before.before.before.before.before.before.before.before.before.before.before.before.before.before.before.before fed) rep in
    let r = p.ensures a.sizes u (under c.before.before.before.before.before.before.before.before.before.before.before.before.before.before.before.before.before.before.before.before.before.before.before.before.before.before.before.before.before.before.before.before.before.before.before.before.before.before.before.before.before f.new.slots fed) d.world in
    let N = lent p.new.stack p.new.frames a.chain.now f.new.slots a.saved_stack.now a.saved_frames.now b in
    let q = popped-to a.sizes N p.result a.fuel u t.top t.rest (dyn-top a.kind a.v w snd t) r in
    let L = g.new in
    body-returns a.sizes (lent L.stack L.frames L.chain L.slots L.saved_stack L.saved_frames b) g.result.machine g.result.fuel w a.kind a.v t
    c.in-Ok.x (sym c.in-Ok.is ∙ d.answer) (g.ensures (pop_to t.top t.rest u) b q (sound-rowed u (dyn-sounds a.kind a.v w snd)))
