-- An integer's word on the world: inline, or that of a new object. Assumes nothing.
use mathlib.Core.Path.{◌≡◌, refl, sym, ap, subst₂}
use mathlib.Core.List.{List}
use Prim.Native.Nat.{ℕ, ◌*◌, ◌≤◌}
use lib.ListN.{length}
use Rattle.lists.proofs.Results.{ok-same}
use Rattle.lists.proofs.Tests.{never}
use Rattle.heap.specs.Heap.{Out, out, encode_by, TableFits}
use Rattle.heap.specs.declared.fault.Fault.{Fault}
use Rattle.heap.specs.declared.heap.Heap.{Heap}
use Rattle.std.specs.Prelude.{Option, Result, Some, None, Ok, Err}
use Rattle.heap.specs.declared.value.Word.{Word}
use Rattle.model.specs.Object.{Object}
use Rattle.model.specs.World.{World, after}
use Rattle.model.specs.Heap.{encode_at}
use Rattle.model.specs.declared.machine.Fuel.{Fuel}
use Rattle.memory_world.specs.Memory.{Lent, on_slots, Rep}
use Rattle.memory_world.specs.Contract.{Does}
use Rattle.memory_world.specs.declared.machine.Machine.{Machine}
use Rattle.memory_world.specs.declared.machine.Sizes.{Sizes}
use Rattle.memory_world.proofs.Does.{does}
use Rattle.machine_state.specs.Numbers.{heap_of, allocated}
use Rattle.machine_state.proofs.Allocation.{plain-refused, plain-made}

module _ (l : Sizes) (M : Lent) (m : Machine) (fu : Fuel) (w : World) (rep : Rep l w M m fu) where
  pub int-cost : l.costs.int ≡ w.setup.costs.int
  int-cost = ap (λ c. c.int) rep.sizes.costs

  module _ (n : ℕ) (slots' : List ℕ) where
    pub int-refused : (i : Option Word) (g : Fault) → out (Err g) slots' ≡ encode_by i M.slots (heap_of m l) w.setup.costs.int n → Does l (encode_at i n w) (on_slots slots' M) m fu (Err g)
    int-refused (Some x) g e = let made = ap (λ (y : Out). y.made) e in never cc
    int-refused None g e = plain-refused l M m fu w rep w.setup.costs.int (Object.Int n) refl slots' (heap_of m l) (Err g) e refl g refl

    pub int-made : (i : Option Word) (v : Word) (h' : Heap) → TableFits M.slots l.slots → out (Ok (v, h')) slots' ≡ encode_by i M.slots (heap_of m l) w.setup.costs.int n
        → Does l (encode_at i n w) (on_slots slots' M) (allocated m h') fu (Ok v.0)
    int-made (Some x) v h' room e =
        let made = ok-same (ap (λ (y : Out). y.made) e) in
        let ev : v ≡ x = ap (λ (p : Word × Heap). p.0) made in
        let eh : heap_of m l ≡ h' = sym (ap (λ (p : Word × Heap). p.1) made) in
        let ew : M.slots ≡ slots' = sym (ap (λ (y : Out). y.words) e) in
        subst₂ (λ z y. Does {A = Result ℕ Fault} l (after w (Ok x.0)) (on_slots z M) (allocated m y) fu (Ok v.0)) ew eh
        (does l M m fu (after w (Ok x.0)) w (Ok v.0) (ap (λ (y : Word). after w (Ok y.0)) (sym ev)) rep)
    int-made None v h' room e = plain-made l M m fu w rep w.setup.costs.int (Object.Int n) refl slots' (heap_of m l) (Ok (v, h')) e refl room v h' (allocated m h') refl refl
