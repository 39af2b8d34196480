-- Words beyond the end of a list, and words that are compared one by one. Assumes nothing.
use Rattle.std.proofs.Common.{◌≡◌, ℕ, suc, ◌+◌, ◌-◌, ◌<◌, ◌≤◌, Bool, true, false, not, ◌&&◌, eqb, ltb, leb, List, [], ◌∷◌, length, get_or, take, drop, set, sym, refl, ap, ◌∙◌, subst, ap₂, add-one, arith, length-drop, length-set, drop_of_length-le, take_all, drop-cons, get_or-set_other, get_or-set_same, ltb-false, ltb-true, le-ltb, lt-ltb, eq-eqb, ne_eqb, le-leb, leb-false, leb-true}
use Rattle.std.specs.Prelude.{Option, None, Some}
use borrow.Author.Tests.{lt-leb}
use lib.ListN.{get_or-eq_default}
use lib.Seq.{take-nil}
use Rattle.std.specs.Prelude.{min}
use Rattle.std.proofs.Math.Nat.{min-eq_left, min-eq_right}
use Rattle.lists.specs.Pick.{pick, pick_true, pick-false}
use Rattle.lists.specs.Parts.{part}
use Rattle.heap.specs.Word.{nil}
use Rattle.claims_sound.proofs.Tests.{and_left, and_right}
use Rattle.memory_calls.specs.Codes.{same}
use Rattle.furnace.specs.Watch.{coro_in, innermost, at_most, note_of, note_fits, sent_to, all_equal}

pub beyond : (xs : List ℕ) (n : ℕ) → length xs ≤ n → 0 ≡ get_or xs n 0
beyond xs n h = sym (get_or-eq_default xs 0 h)

-- ---- the word sent

pub sent-long : (s : Option ℕ) (p : ℕ) (xs : List ℕ) → length (sent_to s p xs) ≡ length xs
sent-long (Some x) p xs = length-set xs p x
sent-long None p xs = refl

pub sent-there : (s : Option ℕ) (p x i : ℕ) (xs : List ℕ) → s ≡ Some x → i ≡ p → i < length xs → x ≡ get_or (sent_to s p xs) i 0
sent-there s p x i xs h e k = sym (ap (λ (o : Option ℕ). get_or (sent_to o p xs) i 0) h ∙ ap (λ (n : ℕ). get_or (set xs n x) i 0) (sym e) ∙ get_or-set_same xs i x 0 k)

pub sent-elsewhere : (s : Option ℕ) (p i : ℕ) (xs : List ℕ) → (i ≡ p → ⊥) → get_or xs i 0 ≡ get_or (sent_to s p xs) i 0
sent-elsewhere (Some x) p i xs n = sym (get_or-set_other xs p i x 0 n)
sent-elsewhere None p i xs n = refl

pub sent-none : (s : Option ℕ) (p i : ℕ) (xs : List ℕ) → s ≡ None → get_or xs i 0 ≡ get_or (sent_to s p xs) i 0
sent-none s p i xs h = ap (λ (o : Option ℕ). get_or (sent_to o p xs) i 0) (sym h)

-- ---- the same words, one by one

pub shorter : (xs ys : List ℕ) → (length xs ≡ length ys → ⊥) → false ≡ same xs ys
shorter [] [] h = absurd (h refl)
shorter [] (y ∷ ys) h = refl
shorter (x ∷ xs) [] h = refl
shorter (x ∷ xs) (y ∷ ys) h = go (eqb x y) (shorter xs ys (λ e. h (ap suc e))) where
  go : (b : Bool) → false ≡ same xs ys → false ≡ (b && same xs ys)
  go true k = k
  go false k = refl

at : (xs ys : List ℕ) (i : ℕ) → i < length xs → i < length ys
    → same (drop i xs) (drop i ys) ≡ eqb (get_or xs i 0) (get_or ys i 0) && same (drop (suc i) xs) (drop (suc i) ys)
at xs ys i h k = ap₂ same (drop-cons xs i 0 h) (drop-cons ys i 0 k)

pub differ : (xs ys : List ℕ) (i : ℕ) → i < length xs → i < length ys → same xs ys ≡ same (drop i xs) (drop i ys) → (get_or xs i 0 ≡ get_or ys i 0 → ⊥) → false ≡ same xs ys
differ xs ys i h k e n = sym (e ∙ at xs ys i h k ∙ (rw (ne_eqb (get_or xs i 0) (get_or ys i 0) n)))

pub go_on : (xs ys : List ℕ) (i : ℕ) → i < length xs → i < length ys → same xs ys ≡ same (drop i xs) (drop i ys) → get_or xs i 0 ≡ get_or ys i 0
    → same xs ys ≡ same (drop (i + 1) xs) (drop (i + 1) ys)
go_on xs ys i h k e z = rw add-one (e ∙ at xs ys i h k ∙ (rw (eq-eqb (get_or xs i 0) (get_or ys i 0) z)))

pub all_same : (xs ys : List ℕ) (i : ℕ) → length xs ≤ i → length ys ≤ i → same xs ys ≡ same (drop i xs) (drop i ys) → true ≡ same xs ys
all_same xs ys i h k e = sym (e ∙ ap₂ same (drop_of_length-le xs h) (drop_of_length-le ys k))

-- ---- all wakes equal

pub none-woken : (w e : ℕ) → w ≡ 0 → not (eqb w 0) ≡ all_equal w e
none-woken w e h = rw h

pub some-woken : (w e : ℕ) → (w ≡ 0 → ⊥) → eqb e w ≡ all_equal w e
some-woken w e h = rw (ne_eqb w 0 h)

-- ---- the innermost running coroutine

pub none_runs : (chain : List ℕ) (n : ℕ) → n ≡ 0 → nil ≡ innermost chain n
none_runs chain n h = sym (ap (λ (b : Bool). pick b nil (coro_in chain (n - 1))) (eq-eqb n 0 h) ∙ pick_true nil (coro_in chain (n - 1)))

pub one-runs : (chain : List ℕ) (n : ℕ) → (n ≡ 0 → ⊥) → coro_in chain (n - 1) ≡ innermost chain n
one-runs chain n h = sym (ap (λ (b : Bool). pick b nil (coro_in chain (n - 1))) (ne_eqb n 0 h) ∙ pick-false nil (coro_in chain (n - 1)))

-- ---- at most

pub at-most-less : (most n : ℕ) → n ≤ most → n ≡ at_most most n
at-most-less most n h = sym (ap (λ (b : Bool). pick b n most) (le-leb n most h) ∙ pick_true n most)

pub at-most-more : (most n : ℕ) → most < n → most ≡ at_most most n
at-most-more most n h = sym (ap (λ (b : Bool). pick b n most) (lt-leb n most h) ∙ pick-false n most)

pub at-most-min : (most n : ℕ) → min n most ≡ at_most most n
at-most-min most n = go (leb n most) refl where
  go : (b : Bool) → leb n most ≡ b → min n most ≡ at_most most n
  go true e = let h = leb-true n most e in min-eq_left h ∙ at-most-less most n h
  go false e = let h = leb-false n most e in let k : most ≤ n = omega (arith, h) in min-eq_right k ∙ at-most-more most n h

pub at-most : (most n : ℕ) → at_most most n ≤ most
at-most most n = go (leb n most) refl where
  go : (b : Bool) → leb n most ≡ b → pick b n most ≤ most
  go true e = subst (λ (x : ℕ). x ≤ most) (sym (pick_true n most)) (leb-true n most e)
  go false e = subst (λ (x : ℕ). x ≤ most) (sym (pick-false n most)) (omega arith)

-- a part that ends within the list
pub clamped : (xs : List ℕ) (own h s e : ℕ) → e ≡ at_most (length xs) h → s ≡ at_most e own → take (e - s) (drop s xs) ≡ part own (h - own) xs
clamped xs own h s e p q = inner (leb h (length xs)) refl (leb own e) refl where
  inner : (a : Bool) → leb h (length xs) ≡ a → (b : Bool) → leb own e ≡ b → take (e - s) (drop s xs) ≡ part own (h - own) xs
  inner true l true k =
      let i = p ∙ sym (at-most-less (length xs) h (leb-true h (length xs) l)) in
      let j = q ∙ sym (at-most-less e own (leb-true own e k)) in
      ap₂ (λ (x y : ℕ). take (x - y) (drop y xs)) i j
  inner true l false k =
      let i = p ∙ sym (at-most-less (length xs) h (leb-true h (length xs) l)) in
      let j = q ∙ sym (at-most-more e own (leb-false own e k)) in
      let d = leb-false own e k in
      let n : e - s ≡ 0 = omega (arith, j) in
      let m : h - own ≡ 0 = omega (arith, i, d) in
      ap (λ (x : ℕ). take x (drop s xs)) n ∙ sym (ap (λ (x : ℕ). take x (drop own xs)) m)
  inner false l true k =
      let g = leb-false h (length xs) l in
      let i = p ∙ sym (at-most-more (length xs) h g) in
      let j = q ∙ sym (at-most-less e own (leb-true own e k)) in
      let z = length-drop own xs in
      let less : length (drop own xs) ≤ e - own = omega (arith, i, z) in
      let more : length (drop own xs) ≤ h - own = omega (arith, g, z) in
      ap (λ (x : ℕ). take (e - x) (drop x xs)) j ∙ take_all (e - own) (drop own xs) less ∙ sym (take_all (h - own) (drop own xs) more)
  inner false l false k =
      let g = leb-false h (length xs) l in
      let d = leb-false own e k in
      let i = p ∙ sym (at-most-more (length xs) h g) in
      let j = q ∙ sym (at-most-more e own d) in
      let n : e - s ≡ 0 = omega (arith, j) in
      let far : length xs ≤ own = omega (arith, i, d) in
      ap (λ (x : ℕ). take x (drop s xs)) n ∙ sym (ap (take (h - own)) (drop_of_length-le xs {i = own} far) ∙ take-nil (h - own))

-- ---- a note

pub note-below : (w : ℕ) → note_of w ≤ 96
note-below w = omega arith

pub record Fits (stack : List ℕ) (own top height r : ℕ) : Type 0 where
  pub above : own ≤ height
  pub within : height ≤ length stack
  pub few : height - own ≤ 13
  pub among : top - own + r < height - own

pub fitting : (stack : List ℕ) (own top height r : ℕ) → note_fits stack own top height r ≡ true → Fits stack own top height r
fitting stack own top height r h =
    let rest = and_right (leb own height) _ h in
    let last = and_right (leb height (length stack)) _ rest in
    record {
      above = leb-true own height (and_left (leb own height) _ h);
      within = leb-true height (length stack) (and_left (leb height (length stack)) _ rest);
      few = leb-true (height - own) 13 (and_left (leb (height - own) 13) _ last);
      among = ltb-true (top - own + r) (height - own) (and_right (leb (height - own) 13) _ last);
    }

-- each test fails the whole, and the last decides it
module _ (stack : List ℕ) (own top height r : ℕ) where
  pub below-own : height < own → false ≡ note_fits stack own top height r
  below-own h = rw (lt-leb own height h)

  pub beyond-stack : own ≤ height → length stack < height → false ≡ note_fits stack own top height r
  beyond-stack a h = rw (le-leb own height a, lt-leb height (length stack) h)

  pub too_many : own ≤ height → height ≤ length stack → 13 < height - own → false ≡ note_fits stack own top height r
  too_many a b h = rw (le-leb own height a, le-leb height (length stack) b, lt-leb (height - own) 13 h)

  pub not-among : own ≤ height → height ≤ length stack → height - own ≤ 13 → height - own ≤ top - own + r → false ≡ note_fits stack own top height r
  not-among a b c h = rw (le-leb own height a, le-leb height (length stack) b, le-leb (height - own) 13 c, le-ltb (top - own + r) (height - own) h)

  pub is_among : own ≤ height → height ≤ length stack → height - own ≤ 13 → ltb (top - own + r) (height - own) ≡ note_fits stack own top height r
  is_among a b c = rw (le-leb own height a, le-leb height (length stack) b, le-leb (height - own) 13 c)

pub among-last : (height own place q r : ℕ) → place < height - own → place ≡ q → ltb r (height - own - place) ≡ ltb (q + r) (height - own)
among-last height own place q r h e = go (ltb r (height - own - place)) refl where
  go : (t : Bool) → ltb r (height - own - place) ≡ t → t ≡ ltb (q + r) (height - own)
  go true k = let z = ltb-true r (height - own - place) k in sym (lt-ltb (q + r) (height - own) (omega (arith, z, h, e)))
  go false k = let z = ltb-false r (height - own - place) k in sym (le-ltb (q + r) (height - own) (omega (arith, z, h, e)))
