-- `hand_over` meets the definition: no coroutine, one that is not suspended, one handed over before, a new one. Assumes nothing.
use mathlib.Core.Path.{◌≡◌, sym, ◌∙◌}
use mathlib.Core.Path.{ap}
use Prim.Native.Nat.{ℕ, ◌<◌}
use lib.ListN.{length}
use native.Mathlib.Omega.{arith}
use borrow.Author.Tests.{not-true, not-false}
use Rattle.heap.specs.Heap.{SlotFits, coro_in, slots_of, coro_of}
use Rattle.heap.proofs.Place.{none-there, stands-words}
use Rattle.memory_world.specs.Memory.{Lent, Beside, Rep}
use Rattle.memory_world.specs.declared.machine.Sizes.{Sizes}
use Rattle.model.specs.World.{World}
use Rattle.model.specs.declared.machine.Fuel.{Fuel}
use Rattle.heap.specs.State.{is_suspended}
use Rattle.memory_world.specs.Memory.{on_slots, on_finalize}
use Rattle.memory_world.specs.Lendings.{cleanups, plain}
use Rattle.coro_clean.proofs.Joins.{Hands, hand-refused, hands-at}
use Rattle.coro_clean.proofs.join.hand_over.Lts as lts
use Rattle.coro_clean.proofs.join.hand_over.Reads as reads
use Rattle.coro_clean.proofs.join.hand_over.Tie as tie
use Rattle.coro_clean.proofs.join.hand_over.Goals as goal

abbrev Start : Type 0
Start = lts.Start tie.the-claims reads.Pre reads.Post

abbrev In-At : Type 0
In-At = lts.Past-After-known_told2 tie.the-claims reads.Pre reads.Post

abbrev After-is_suspended : Type 0
After-is_suspended = lts.After-is_suspended tie.the-claims reads.Pre reads.Post

abbrev Else-finalized_at : Type 0
Else-finalized_at = lts.Else2 tie.the-claims reads.Pre reads.Post

abbrev mem : Start → Beside → Lent
mem c b = cleanups c.args.slots.now c.args.finalize.now plain b

-- where a coroutine was found
abbrev slot : In-At → ℕ
slot c = c.in-Ok.i

fits : (c : In-At) → SlotFits c.args.slots.now (slot c)
fits c =
    stands-words c.args.m.count c.args.slots.now c.args.v.0 (slot c) (sym c.in-Ok.is ∙ c.coro_place.ensures) c.requires.ok.rep.slots.within

found : (c : In-At) (l : Sizes) (w : World) (b : Beside) (f : Fuel) →
    Rep l w (mem c.before.before.before.before b) c.args.m f → Hands l (mem c.before.before.before.before b) c.args.m f c.args.v.0 w (slot c)
found c l w b f rep =
    hands-at l (mem c.before.before.before.before b) c.args.m f c.args.v.0 w rep (slot c) (sym c.in-Ok.is ∙ c.coro_place.ensures)

-- it is suspended or not, and handed over before or not
suspended-at : (c : After-is_suspended) → is_suspended (coro_in c.args.slots.now (slot c.before.before)).state ≡ c.is_suspended.result
suspended-at c = ap is_suspended (sym c.state_at-s.ensures) ∙ sym c.is_suspended.ensures

-- the cleanup queue has room for it
room : (c : Else-finalized_at) → c.args.m.finalize < length c.args.finalize.now
room c =
    let p = c.requires in let o = p.ok in
    (found c.before.before.before.before.before p.sizes o.world o.beside o.beside.fuel o.rep).room o.sound o.room (sym c.finalized_at.ensures ∙ c.if-finalized_at.false)

pub coro_place-requires : goal.coro_place-requires
coro_place-requires c = c.requires.ok.rep.slots.within

pub state_at-s-requires : goal.state_at-s-requires
state_at-s-requires c = fits c.before

pub returns-then-not-is_suspended : goal.returns-then-not-is_suspended
returns-then-not-is_suspended c = λ l w b rep. (found c.before.before.before.before l w b c.args.fuel rep).not-suspended (suspended-at c.before.before ∙ c.if-not-is_suspended.true)

pub finalized_at-requires : goal.finalized_at-requires
finalized_at-requires c = fits c.before.before.before.before

pub returns-then-finalized_at : goal.returns-then-finalized_at
returns-then-finalized_at c =
    λ l w b rep. (found c.before.before.before.before.before.before l w b c.args.fuel rep).twice (suspended-at c.before.before.before.before ∙ c.if-not-is_suspended.false)
    (sym c.finalized_at.ensures ∙ c.if-finalized_at.true)

pub put_finalized-requires : goal.put_finalized-requires
put_finalized-requires c = fits c.before.before.before.before.before.before.before

pub push_back-requires : goal.push_back-requires
push_back-requires c = room c.before.before.before.before.before.before

pub overflow_add-n : goal.overflow_add-n
overflow_add-n c = omega (arith, room c.before.before.before.before.before.before.before.before.before.before, c.well_formed)

pub returns-in-Err : goal.returns-in-Err
returns-in-Err c =
    λ l w b rep.
    hand-refused l (mem c.before.before.before.before.before b) c.args.m c.args.fuel c.args.v.0 w rep _
    (none-there (coro_of (slots_of c.args.m.count c.args.slots.now) c.args.v.0) _ (sym c.in-Err.is ∙ c.coro_place.ensures))

pub returns-else-finalized_at : goal.returns-else-finalized_at
returns-else-finalized_at c =
    λ l w b rep.
    (found c.before.before.before.before.before.before.before.before.before.before.before.before.before.before.before.before.before.before l w b c.args.fuel rep).joins (suspended-at c.before.before.before.before.before.before.before.before.before.before.before.before.before.before.before.before ∙ c.if-not-is_suspended.false) (sym c.finalized_at.ensures ∙ c.if-finalized_at.false)
    _ _ c.put_finalized.ensures c.push_back.ensures _ _
    (λ u r. c.set_finalizing-did.ensures l u
    (record { words = on_slots c.put_finalized.new.slots (on_finalize c.push_back.new.queue (mem c.before.before.before.before.before.before.before.before.before.before.before.before.before.before.before.before.before.before.before.before.before.before b)); fuel = c.args.fuel }) r)
