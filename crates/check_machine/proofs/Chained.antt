-- The words of the chain from the bottom up, with the set of their slots. Assumes nothing.
use mathlib.Core.Path.{◌≡◌, refl, sym, ap, ap₂, ◌∙◌, subst}
use mathlib.Core.Bool.{Bool, true, false, not, ◌&&◌, ◌||◌}
use mathlib.Core.List.{List, ◌∷◌, map}
use Prim.Native.Nat.{ℕ, zero, suc, ◌+◌, ◌*◌, ◌-◌, ◌≤◌, ◌<◌}
use native.Mathlib.Omega.{arith}
use native.Mathlib.Numerals.{add-one}
use native.Mathlib.Nat.{add-zero}
use lib.Dec.{eqb}
use borrow.Author.Tests.{eqb-true, eqb-false}
use lib.ListN.{length, get_or}
use Rattle.lists.proofs.Tests.{and-false}
use Rattle.lists.proofs.Tables.{chunk-get}
use Rattle.heap.specs.Word.{slot_of, reference}
use Rattle.heap.specs.Table.{Slot, slot}
use Rattle.heap.specs.Heap.{coro_of}
use Rattle.heap.specs.declared.object.Object as H
use Rattle.heap.specs.declared.object.Object.TheVariants as O
use Rattle.model.specs.Lists.{each, among, distinct}
use Rattle.claims_sound.proofs.Tests.{both, each_at}
use Rattle.check_tables.specs.Queue.{by_coro, in_set}
use Rattle.check_tables.proofs.Seen.{Told, among-slots}
use Rattle.check_tables.proofs.Named.{word-named}
use Rattle.check_machine.specs.Running.{running, active_words, running_test}

module _ (chain : List ℕ) where
  -- the next one's word
  pub next_word : (k : ℕ) → active_words chain (suc k) ≡ get_or chain (k * 6) 0 ∷ active_words chain k
  next_word k = ap (λ (v : ℕ). v ∷ active_words chain k) (chunk-get 6 k 0 chain (omega arith) ∙ ap (λ (i : ℕ). get_or chain i 0) (add-zero (k * 6)))

  -- what fails of the lower ones fails of all
  module _ (p : List ℕ → Bool) (up : (x : ℕ) (xs : List ℕ) → p xs ≡ false → p (x ∷ xs) ≡ false) where
    one_up : (k n : ℕ) (b : Bool) → eqb k (suc n) ≡ b → k ≤ suc n → p (active_words chain k) ≡ false → (k ≤ n → p (active_words chain n) ≡ false) → p (active_words chain (suc n)) ≡ false
    one_up k n true q h e f = subst (λ m. p (active_words chain m) ≡ false) (eqb-true k (suc n) q) e
    one_up k n false q h e f = let d = eqb-false k (suc n) q in up _ (active_words chain n) (f (omega arith))

    pub of-lower : (k n : ℕ) → k ≤ n → p (active_words chain k) ≡ false → p (active_words chain n) ≡ false
    of-lower k zero h e = let z : k ≡ 0 = omega arith in subst (λ m. p (active_words chain m) ≡ false) z e
    of-lower k (suc n) h e = one_up k n (eqb k (suc n)) refl h e (λ g. of-lower k n g e)

module _ (xs : List (Slot H.Object)) where
  abbrev pub runs : ℕ → Bool
  runs v = by_coro running (coro_of xs v)

  abbrev pub word_of : ℕ → ℕ
  word_of i = reference i (get_or xs i (slot 0 O.Empty)).tag

  -- words that name coroutines are told by their slots
  pub named : (vs : List ℕ) → each runs vs ≡ true → Told word_of vs
  named vs e k h = (word-named running xs (get_or vs k 0) (each_at runs vs k 0 e h)).made

  pub word-slot : (v : ℕ) → runs v ≡ true → v ≡ word_of (slot_of v)
  word-slot v e = (word-named running xs v e).made

  pub word-inside : (v : ℕ) → runs v ≡ true → slot_of v < length xs
  word-inside v e = (word-named running xs v e).inside

  module _ (chain : List ℕ) where
    -- k of them passed
    pub record Passed (n k : ℕ) (set : List ℕ) : Type 0 where
      pub within : k ≤ n
      pub fine : each runs (active_words chain k) ≡ true
      pub own : distinct (active_words chain k) ≡ true
      pub holds : (x : ℕ) → in_set set x ≡ among x (map slot_of (active_words chain k))
      pub long : length set ≡ 64

    abbrev v : ℕ → ℕ
    v k = get_or chain (k * 6) 0

    each-up : (x : ℕ) (ys : List ℕ) → each runs ys ≡ false → each runs (x ∷ ys) ≡ false
    each-up x ys e = ap (λ b. runs x && b) e ∙ and-false (runs x)

    own-up : (x : ℕ) (ys : List ℕ) → distinct ys ≡ false → distinct (x ∷ ys) ≡ false
    own-up x ys e = ap (λ b. not (among x ys) && b) e ∙ and-false (not (among x ys))

    -- one that does not run
    pub stops : (n k : ℕ) → k < n → runs (v k) ≡ false → false ≡ running_test chain n xs
    stops n k h e =
        sym (ap (λ b. b && distinct (active_words chain n))
        (of-lower chain (each runs) each-up (suc k) n h
        (ap (each runs) (next_word chain k) ∙ ap (λ b. b && each runs (active_words chain k)) e)))

    module _ (n k : ℕ) (set : List ℕ) (p : Passed n k set) (more : k < n) (here : runs (v k) ≡ true) where
      seen-word : among (slot_of (v k)) (map slot_of (active_words chain k)) ≡ among (v k) (active_words chain k)
      seen-word = among-slots word_of (v k) (active_words chain k) (word-slot (v k) here) (named (active_words chain k) p.fine)

      -- one that stands there already
      pub twice : in_set set (slot_of (v k)) ≡ true → false ≡ running_test chain n xs
      twice e =
          sym (ap (λ b. each runs (active_words chain n) && b)
          (of-lower chain distinct own-up (suc k) n more
          (ap distinct (next_word chain k) ∙ ap (λ b. not b && distinct (active_words chain k)) (sym seen-word ∙ sym (p.holds (slot_of (v k))) ∙ e)))
          ∙ and-false (each runs (active_words chain n)))

      pub passes : (set' : List ℕ) → in_set set (slot_of (v k)) ≡ false → ((y : ℕ) → in_set set' y ≡ eqb y (slot_of (v k)) || in_set set y) → length set' ≡ 64 → Passed n (k + 1) set'
      passes set' e f g =
          rw add-one
          (record {
            within = omega arith;
            fine = ap (each runs) (next_word chain k) ∙ both here p.fine;
            own =
                ap distinct (next_word chain k)
                ∙ ap₂ (λ a b. not a && b) (sym seen-word ∙ sym (p.holds (slot_of (v k))) ∙ e) p.own;
            holds = λ y. f y ∙ ap (λ b. eqb y (slot_of (v k)) || b) (p.holds y) ∙ sym (ap (λ (ws : List ℕ). among y (map slot_of ws)) (next_word chain k));
            long = g;
          })

    -- all passed
    pub all-run : (n k : ℕ) (set : List ℕ) → Passed n k set → n ≤ k → true ≡ running_test chain n xs
    all-run n k set p h =
        let q : k ≡ n = let w = p.within in omega arith in
        sym (subst (λ m. running_test chain m xs ≡ true) q (both p.fine p.own))

    pub set-of : (n k : ℕ) (set : List ℕ) → Passed n k set → n ≤ k → (x : ℕ) → in_set set x ≡ among x (map slot_of (active_words chain n))
    set-of n k set p h x = let q : k ≡ n = let w = p.within in omega arith in p.holds x ∙ ap (λ m. among x (map slot_of (active_words chain m))) q
