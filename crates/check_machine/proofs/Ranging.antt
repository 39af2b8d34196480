-- The slots from the last to the first: their words lie in the ranges of their kind. Assumes nothing.
use mathlib.Core.Path.{◌≡◌, refl, sym, ap, ◌∙◌, subst}
use mathlib.Core.Bool.{Bool, true, false, ◌&&◌}
use mathlib.Core.List.{List}
use Prim.Native.Nat.{ℕ, ◌-◌, ◌≤◌, ◌<◌}
use native.Mathlib.Omega.{arith}
use lib.Dec.{eqb}
use borrow.Author.Tests.{eqb-true, eqb-false}
use Rattle.lists.specs.Chunks.{chunk_at}
use Rattle.lists.proofs.Tests.{and-false, fails-at, holds-all}
use Rattle.heap.specs.Slot.{width}
use Rattle.heap.specs.Ranges.{slot_ok}
use Rattle.check_machine.specs.Table.{ranges_test}

module _ (slots : List ℕ) (count : ℕ) where
  abbrev fine : ℕ → Bool
  fine j = slot_ok (chunk_at width slots j)

  -- those from i on
  abbrev pub Ranged : ℕ → Type 0
  Ranged i = (j : ℕ) → i ≤ j → j < count → fine j ≡ true

  pub none_yet : Ranged count
  none_yet j h k = absurd (omega arith)

  pub one_more : (i : ℕ) → Ranged i → fine (i - 1) ≡ true → Ranged (i - 1)
  one_more i p e j h k = go (eqb j (i - 1)) refl
    where
      go : (t : Bool) → eqb j (i - 1) ≡ t → fine j ≡ true
      go true q = subst (λ n. fine n ≡ true) (sym (eqb-true j (i - 1) q)) e
      go false q = p j (let d = eqb-false j (i - 1) q in omega arith) k

  -- beside another test
  module _ (r : Bool) where
    pub out_of_range : (i : ℕ) → 0 < i → i ≤ count → fine (i - 1) ≡ false → false ≡ (ranges_test slots count && r)
    out_of_range i h k e = sym (ap (λ b. b && r) (fails-at count (i - 1) fine (omega arith) e))

    pub fails-beside : false ≡ r → false ≡ (ranges_test slots count && r)
    fails-beside e = sym (ap (λ b. ranges_test slots count && b) (sym e) ∙ and-false (ranges_test slots count))

    pub all-ranged : (i : ℕ) (b : Bool) → i ≤ 0 → Ranged i → b ≡ r → b ≡ (ranges_test slots count && r)
    all-ranged i b h p e = e ∙ sym (ap (λ t. t && r) (holds-all count fine (λ j k. p j (omega arith) k)))
