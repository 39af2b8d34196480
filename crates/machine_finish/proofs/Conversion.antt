-- A result as a dynamic word, on the world, kind by kind. Assumes nothing.
use mathlib.Core.Path.{◌≡◌, refl, sym, ap, ap₂, ◌∙◌, subst, subst₂}
use mathlib.Core.List.{List}
use Prim.Native.Nat.{ℕ, ◌*◌, ◌≤◌}
use lib.ListN.{length}
use Rattle.lists.proofs.Tests.{never}
use Rattle.heap.specs.Word.{nil}
use Rattle.heap.specs.Coding.{of_bits}
use Rattle.heap.specs.Int.{inline_of, exactly, value_of}
use Rattle.heap.specs.Heap as Heaped
use Rattle.heap.specs.Heap.{Out, out, int_by, TableFits}
use Rattle.heap.specs.declared.fault.Fault.{Fault}
use Rattle.heap.specs.declared.heap.Heap.{Heap}
use Rattle.std.specs.Prelude.{Option, Result, Some, None, Ok, Err}
use Rattle.heap.specs.declared.heap.ResultKind.{ResultKind}
use Rattle.heap.specs.declared.int.IntTy.{IntTy}
use Rattle.heap.specs.declared.value.Word.{Word}
use Rattle.model.specs.World.{World}
use Rattle.model.specs.Heap.{refuse, encode_exact, to_dyn}
use Rattle.model.specs.declared.machine.Fuel.{Fuel}
use Rattle.memory_world.specs.Memory.{Lent, on_slots, Rep}
use Rattle.memory_world.specs.Contract.{Does}
use Rattle.memory_world.specs.declared.machine.Machine.{Machine}
use Rattle.memory_world.specs.declared.machine.Sizes.{Sizes}
use Rattle.machine_state.specs.Numbers.{heap_of, allocated}
use Rattle.machine_state.proofs.Integers.{int-cost, int-refused, int-made}

module _ (l : Sizes) (M : Lent) (m : Machine) (fu : Fuel) (w : World) (rep : Rep l w M m fu) (slots' : List ℕ) where
  abbrev cost : ℕ
  cost = w.setup.costs.int

  -- ---- an integer of 64 bits, or one above them

  exact-refused : (x : Option ℕ) (g : Fault) → out (Err g) slots' ≡ int_by x M.slots (heap_of m l) cost → Does l (encode_exact x w) (on_slots slots' M) m fu (Err g)
  exact-refused (Some n) g e = int-refused l M m fu w rep n slots' (inline_of (of_bits 63 n)) g e
  exact-refused None g e =
      let made = ap (λ (y : Out). y.made) e in
      let eg : Fault.ArithOverflow ≡ g = cc in
      subst₂ (λ z y. Does l (refuse w Fault.ArithOverflow) (on_slots z M) m fu (Err y)) (sym (ap (λ (y : Out). y.words) e)) eg (record { world = rep; answer = refl })

  exact-made : (x : Option ℕ) (v : Word) (h' : Heap) → TableFits M.slots l.slots → out (Ok (v, h')) slots' ≡ int_by x M.slots (heap_of m l) cost
      → Does l (encode_exact x w) (on_slots slots' M) (allocated m h') fu (Ok v.0)
  exact-made (Some n) v h' room e = int-made l M m fu w rep n slots' (inline_of (of_bits 63 n)) v h' room e
  exact-made None v h' room e = let made = ap (λ (y : Out). y.made) e in never cc

  -- ---- by the kind; a word that is given is as one that stands inline

  refused-by : (kind : ResultKind) (n : ℕ) (g : Fault) → out (Err g) slots' ≡ Heaped.to_dyn kind M.slots (heap_of m l) cost n
      → Does l (to_dyn kind n w) (on_slots slots' M) m fu (Err g)
  unfolding to_dyn
  refused-by ResultKind.None n g e = int-refused l M m fu w rep 0 slots' (Some (record { 0 = nil })) g e
  refused-by ResultKind.Dyn n g e = int-refused l M m fu w rep 0 slots' (Some (record { 0 = n })) g e
  refused-by ResultKind.I64 n g e = exact-refused (exactly (value_of IntTy.I64 n)) g e
  refused-by ResultKind.U64 n g e = exact-refused (exactly (value_of IntTy.U64 n)) g e

  made_by : (kind : ResultKind) (n : ℕ) (v : Word) (h' : Heap) → TableFits M.slots l.slots → out (Ok (v, h')) slots' ≡ Heaped.to_dyn kind M.slots (heap_of m l) cost n
      → Does l (to_dyn kind n w) (on_slots slots' M) (allocated m h') fu (Ok v.0)
  unfolding to_dyn
  made_by ResultKind.None n v h' room e = int-made l M m fu w rep 0 slots' (Some (record { 0 = nil })) v h' room e
  made_by ResultKind.Dyn n v h' room e = int-made l M m fu w rep 0 slots' (Some (record { 0 = n })) v h' room e
  made_by ResultKind.I64 n v h' room e = exact-made (exactly (value_of IntTy.I64 n)) v h' room e
  made_by ResultKind.U64 n v h' room e = exact-made (exactly (value_of IntTy.U64 n)) v h' room e

  module _ (kind : ResultKind) (n : ℕ) (h : Heap) (r : Result (Word × Heap) Fault) (told : out r slots' ≡ Heaped.to_dyn kind M.slots h l.costs.int n) (is-heap : h ≡ heap_of m l) where
    answered : (r₀ : Result (Word × Heap) Fault) → r ≡ r₀ → out r₀ slots' ≡ Heaped.to_dyn kind M.slots (heap_of m l) cost n
    answered r₀ e = ap (λ x. out x slots') (sym e) ∙ told ∙ ap₂ (λ x c. Heaped.to_dyn kind M.slots x c n) is-heap (int-cost l M m fu w rep)

    pub dyn-refused : (g : Fault) → r ≡ Err g → Does l (to_dyn kind n w) (on_slots slots' M) m fu (Err g)
    dyn-refused g e = refused-by kind n g (answered (Err g) e)

    pub dyn-made : TableFits M.slots l.slots → (v : Word) (h' : Heap) (m' : Machine) → r ≡ Ok (v, h') → m' ≡ allocated m h'
        → Does l (to_dyn kind n w) (on_slots slots' M) m' fu (Ok v.0)
    dyn-made room v h' m' e em =
        subst (λ y. Does l (to_dyn kind n w) (on_slots slots' M) y fu (Ok v.0)) (sym em) (made_by kind n v h' room (answered (Ok (v, h')) e))
