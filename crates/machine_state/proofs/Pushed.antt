-- What an allocation on the words tells. Assumes nothing.
use mathlib.Core.Path.{◌≡◌, refl, sym, ap, ap₂, ◌∙◌}
use mathlib.Core.Bool.{Bool, true, false}
use mathlib.Core.List.{List}
use Prim.Native.Nat.{ℕ, ◌+◌}
use lib.Dec.{ltb}
use Rattle.lists.specs.Pick.{pick}
use Rattle.lists.specs.Chunks.{words}
use Rattle.lists.proofs.Tests.{never}
use Rattle.lists.proofs.Results.{ok-same}
use Rattle.heap.specs.Word.{reference}
use Rattle.heap.specs.Charge.{fits, sat_add, with_used, with_count}
use Rattle.heap.specs.Table.{slot}
use Rattle.heap.specs.Heap.{Out, out, lacks_of, alloc_by, alloc_of, put_slot}
use Rattle.heap.specs.declared.fault.Fault.{Fault}
use Rattle.heap.specs.declared.fault.Fault.TheVariants as F
use Rattle.heap.specs.declared.heap.Heap.{Heap}
use Rattle.std.specs.Prelude.{Result, Ok, Err}
use Rattle.heap.specs.declared.object.Object as H
use Rattle.heap.specs.declared.value.Word.{Word}

-- ---- what an allocation tells

pub record Done (ws ws' : List ℕ) (h h' : Heap) (bytes : ℕ) (o : H.Object) (v : Word) : Type 0 where
  pub fit : fits h.used h.limit bytes ≡ true
  pub left : ltb h.count h.slots ≡ true
  pub word : v.0 ≡ reference h.count 0
  pub count : h'.count ≡ h.count + 1
  pub used : h'.used ≡ sat_add h.used bytes
  pub words : ws' ≡ put_slot ws h.count (slot 0 o)

pub record Lacking (ws ws' : List ℕ) (h : Heap) (bytes : ℕ) (g : Fault) : Type 0 where
  pub fault : Err g ≡ lacks_of h bytes
  pub words : ws' ≡ ws

module _ (ws : List ℕ) (h : Heap) (bytes : ℕ) (o : H.Object) (ws' : List ℕ) where
  abbrev by : Bool → Bool → Result Unit Fault
  by a b = pick a (pick b (Ok tt) (Err F.Full)) (Err F.OutOfMemory)

  pub alloc-done : (v : Word) (h' : Heap) → out (Ok (v, h')) ws' ≡ alloc_of ws h bytes o → Done ws ws' h h' bytes o v
  unfolding pick
  alloc-done v h' = go (fits h.used h.limit bytes) (ltb h.count h.slots) refl refl
    where
      go : (a b : Bool) → fits h.used h.limit bytes ≡ a → ltb h.count h.slots ≡ b → out (Ok (v, h')) ws' ≡ alloc_by (by a b) ws h bytes o → Done ws ws' h h' bytes o v
      go true true p q e =
          let made = ok-same (ap (λ (x : Out). x.made) e) in
          let v₀ : Word = record { 0 = reference h.count 0 } in
          let h₀ : Heap = with_count (h.count + 1) (with_used (sat_add h.used bytes) h) in
          let ev : v ≡ v₀ = ap (λ (p : Word × Heap). p.0) made in
          let eh : h' ≡ h₀ = ap (λ (p : Word × Heap). p.1) made in
          record { fit = p; left = q; word = ap (λ (x : Word). x.0) ev; count = ap (λ (x : Heap). x.count) eh; used = ap (λ (x : Heap). x.used) eh; words = ap (λ (x : Out). x.words) e }
      go true false p q e = let made = ap (λ (x : Out). x.made) e in never cc
      go false b p q e = let made = ap (λ (x : Out). x.made) e in never cc

  pub alloc-lacks : (g : Fault) → out (Err g) ws' ≡ alloc_of ws h bytes o → Lacking ws ws' h bytes g
  unfolding pick
  alloc-lacks g = go (fits h.used h.limit bytes) (ltb h.count h.slots) refl refl
    where
      go : (a b : Bool) → fits h.used h.limit bytes ≡ a → ltb h.count h.slots ≡ b → out (Err g) ws' ≡ alloc_by (by a b) ws h bytes o → Lacking ws ws' h bytes g
      go true true p q e = let made = ap (λ (x : Out). x.made) e in never cc
      go true false p q e =
          let made = ap (λ (x : Out). x.made) e in
          let eg : g ≡ F.Full = cc in
          record { fault = ap Err eg ∙ sym (ap₂ by p q); words = ap (λ (x : Out). x.words) e }
      go false b p q e =
          let made = ap (λ (x : Out). x.made) e in
          let eg : g ≡ F.OutOfMemory = cc in
          record { fault = ap Err eg ∙ sym (ap₂ by p q); words = ap (λ (x : Out). x.words) e }
