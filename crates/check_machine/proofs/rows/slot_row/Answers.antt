-- `slot_row` meets its contract, by the kind of the slot. Assumes nothing.
use mathlib.Core.Path.{◌≡◌, refl, sym, ap, ◌∙◌, subst}
use Prim.Native.Nat.{ℕ}
use mathlib.Core.Bool.{Bool}
use mathlib.Core.List.{List}
use lib.ListN.{get_or}
use borrow.Author.Tests.{eqb-true, eqb-false}
use Rattle.lists.specs.Chunks.{chunk_at}
use Rattle.heap.specs.Slot.{object_at}
use Rattle.heap.specs.Heap.{as_coro}
use Rattle.heap.specs.declared.fault.Fault.TheVariants as F
use Rattle.std.specs.Prelude.{Result, Ok, Err}
use Rattle.heap.specs.declared.object.CoroObj.{CoroObj}
use Rattle.heap.specs.declared.fault.Fault.{Fault}
use Rattle.heap.specs.declared.object.Object as H
use Rattle.heap.specs.declared.object.Object.TheVariants as O
use Rattle.heap.proofs.Slots.{coro-kind, other-kind}
use Rattle.model.specs.Program.{Setup}
use Rattle.memory_world.specs.declared.machine.Sizes.{Sizes}
use Rattle.memory_world.specs.Decode.{setup_of}
use Rattle.check_tables.specs.Queue.{in_set}
use Rattle.check_machine.specs.Rows.{coro_row, object_row}
use Rattle.check_machine.proofs.rows.slot_row.Goals as goal

-- `slot_row` meets its contract, by the kind of the slot. Assumes nothing.
abbrev told : Result (ℕ × CoroObj) Fault → Type 0
told (Ok (i, c)) = Unit {0}
told (Err f) = ⊥

-- what is no coroutine holds no row
none-held : (l : Sizes) (s : Setup) (stack frames : List ℕ) (chained : ℕ → Bool) (i : ℕ) (o : H.Object) → as_coro i o ≡ Err F.TypeError → 64 ≡ object_row l s stack frames chained i o
none-held l s stack frames chained i O.Empty e = refl
none-held l s stack frames chained i (O.Func f) e = refl
none-held l s stack frames chained i (O.Int n) e = refl
none-held l s stack frames chained i (O.Iter c d k) e = refl
none-held l s stack frames chained i (O.Error k f p v) e = refl
none-held l s stack frames chained i (O.Coro c) e = absurd (subst told e tt)

pub is_coro-requires : goal.is_coro-requires
is_coro-requires c = c.requires.1.0

pub coro_at-c-requires : goal.coro_at-c-requires
coro_at-c-requires c = c.requires.1.0

pub coro_row-requires : goal.coro_row-requires
coro_row-requires c = (c.requires.0, c.requires.1.1)

pub returns-then-is_coro : goal.returns-then-is_coro
returns-then-is_coro c =
    let a = c.args in
    let ws = chunk_at 20 a.slots.now a.i in
    c.coro_row.ensures
    ∙ ap (coro_row a.sizes (setup_of a.setup.now) a.saved_stack.now a.saved_frames.now (in_set a.set.now) a.i) c.coro_at-c.ensures
    ∙ sym
    (ap (object_row a.sizes (setup_of a.setup.now) a.saved_stack.now a.saved_frames.now (in_set a.set.now) a.i)
    (coro-kind ws (eqb-true (get_or ws 1 0) 6 (sym c.is_coro.ensures ∙ c.if-is_coro.true))))

pub returns : goal.returns
returns c =
    let a = c.args in
    let ws = chunk_at 20 a.slots.now a.i in
    none-held a.sizes (setup_of a.setup.now) a.saved_stack.now a.saved_frames.now (in_set a.set.now) a.i (object_at ws)
    (other-kind ws a.i (eqb-false (get_or ws 1 0) 6 (sym c.is_coro.ensures ∙ c.if-is_coro.false)))
