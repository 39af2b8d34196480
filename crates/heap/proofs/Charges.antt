-- An allocation's answers, from what the code knows at each. Assumes nothing.
use mathlib.Core.Path.{◌≡◌, refl, ap, ◌∙◌}
use mathlib.Core.Bool.{Bool, true, false}
use mathlib.Core.List.{List}
use Prim.Native.Nat.{ℕ, ◌+◌, ◌*◌, ◌≤◌, ◌<◌}
use native.Mathlib.Omega.{arith}
use borrow.Author.Tests.{ltb-true}
use lib.Dec.{ltb}
use lib.ListN.{length}
use Rattle.lists.specs.Pick.{pick}
use Rattle.lists.proofs.Tests.{never}
use Rattle.heap.specs.Word.{reference}
use Rattle.heap.specs.Charge.{fits, sat_add, with_used, with_count}
use Rattle.heap.specs.Table.{slot}
use Rattle.heap.specs.Heap.{Room, out, lacks_of, alloc_by, alloc_of, put_slot}
use Rattle.heap.specs.declared.fault.Fault.{Fault}
use Rattle.heap.specs.declared.fault.Fault.TheVariants as F
use Rattle.heap.specs.declared.value.Word.{Word}
use Rattle.heap.specs.declared.object.Object.{Object}
use Rattle.heap.specs.declared.heap.Heap.{Heap}
use Rattle.std.specs.Prelude.{Result, Ok, Err}

abbrev tests : Bool → Bool → Result Unit Fault
tests a b = pick a (pick b (Ok tt) (Err F.Full)) (Err F.OutOfMemory)

by_tests : (a b : Bool) (u : Unit) → Ok u ≡ tests a b → b ≡ true
unfolding pick
by_tests true true u e = refl
by_tests true false u e = never cc
by_tests false true u e = refl
by_tests false false u e = never cc

module _ (ws : List ℕ) (h : Heap) (bytes : ℕ) (o : Object) where
  pub refused : (f : Fault) → Err f ≡ lacks_of h bytes → out (Err f) ws ≡ alloc_of ws h bytes o
  refused f is = ap (λ (x : Result Unit Fault). alloc_by x ws h bytes o) is

  module _ (u : Unit) (is : Ok u ≡ lacks_of h bytes) where
    -- where nothing is lacking there is a slot
    pub slot-left : h.count < h.slots
    slot-left = ltb-true h.count h.slots (by_tests (fits h.used h.limit bytes) (ltb h.count h.slots) u is)

    pub slot-words : Room ws h → h.count * 20 + 20 ≤ length ws
    slot-words r = let k = slot-left in let m = r.words in omega arith

    pub done : (w : Word) (used : ℕ) (ws' : List ℕ) → w.0 ≡ reference h.count 0 → used ≡ sat_add h.used bytes → ws' ≡ put_slot ws h.count (slot 0 o)
        → out (Ok (w, with_count (h.count + 1) (with_used used h))) ws' ≡ alloc_of ws h bytes o
    done w used ws' p q r =
        let v : w ≡ record { 0 = reference h.count 0 } = ap (λ (x : ℕ). record { 0 = x }) p in
        made v ∙ ap (λ (x : Result Unit Fault). alloc_by x ws h bytes o) is
      where
        made : w ≡ record { 0 = reference h.count 0 } → out (Ok (w, with_count (h.count + 1) (with_used used h))) ws' ≡ alloc_by (Ok u) ws h bytes o
        made v = rw (v, q, r)
