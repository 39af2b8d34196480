-- The slots from the last to the first, with the set of the rows that they hold. Assumes nothing.
use mathlib.Core.Path.{◌≡◌, refl, sym, ap, ap₂, ◌∙◌, subst}
use mathlib.Core.Bool.{Bool, true, false, not, ◌&&◌, ◌||◌}
use mathlib.Core.List.{List, [], ◌∷◌}
use Prim.Native.Nat.{ℕ, zero, suc, ◌-◌, ◌≤◌, ◌<◌}
use native.Mathlib.Omega.{arith}
use lib.Dec.{eqb, ltb}
use lib.ListN.{length, drop, drop_of_length-le}
use lib.Seq.{drop-cons}
use borrow.Author.Tests.{ltb-true, ltb-false, lt-ltb, le-ltb, ne_eqb, eqb-true, eqb-false}
use Rattle.lists.specs.Pick.{pick, pick_true, pick-false}
use Rattle.lists.specs.Chunks.{chunk_at}
use Rattle.lists.specs.Tests.{all_below}
use Rattle.lists.proofs.Tests.{and-false, fails-at, holds-all}
use Rattle.lists.proofs.Tables.{length-chunks, chunks-at}
use Rattle.heap.specs.State.{is_running, is_finished}
use Rattle.heap.specs.Table.{Slot, slot}
use Rattle.heap.specs.Slot.{width, slot_of_words}
use Rattle.heap.specs.Heap.{slot_in, slots_of}
use Rattle.heap.specs.declared.object.CoroObj.{CoroObj}
use Rattle.heap.specs.declared.object.Object as H
use Rattle.heap.specs.declared.object.Object.TheVariants as O
use Rattle.model.specs.Lists.{among, distinct}
use Rattle.model.specs.Program.{Setup}
use Rattle.memory_world.specs.declared.machine.Sizes.{Sizes}
use Rattle.claims_sound.proofs.Tests.{and_left, both, picked}
use Rattle.memory_sound.specs.Words.{rest_ok}
use Rattle.check_tables.specs.Queue.{bit_at}
use Rattle.check_tables.proofs.Bits.{no-bit}
use Rattle.check_machine.specs.Saved.{sizes_in, nothing_saved, coro_test}
use Rattle.check_machine.specs.Rows.{coro_fine, object_fine, coro_row, object_row, slot_row, row_free, free_test, rows_of, rows_held, rows_test, held_bit}
use Rattle.check_machine.proofs.Coros.{in_row, live, passed, refused}

-- tests that agree below a bound
pub below-same : (n : ℕ) (p q : ℕ → Bool) → ((i : ℕ) → i < n → p i ≡ q i) → all_below n p ≡ all_below n q
below-same zero p q f = refl
below-same (suc n) p q f = ap₂ (λ a b. a && b) (below-same n p q (λ i h. f i (omega arith))) (f n (omega arith))

-- rows that are not distinct stay so with more before them
more_rows : (o : H.Object) (rs : List ℕ) → distinct rs ≡ false → distinct (rows_of o rs) ≡ false
more_rows O.Empty rs e = e
more_rows (O.Func f) rs e = e
more_rows (O.Int n) rs e = e
more_rows (O.Iter s d k) rs e = e
more_rows (O.Error x f p v) rs e = e
more_rows (O.Coro c) rs e =
    picked (λ (ws : List ℕ). distinct ws ≡ false) (is_finished c.state) (λ _. e) (λ _. ap (λ b. not (among c.row rs) && b) e ∙ and-false (not (among c.row rs)))

of-drop : (k : ℕ) (xs : List (Slot H.Object)) → distinct (rows_held (drop k xs)) ≡ false → distinct (rows_held xs) ≡ false
of-drop zero xs e = e
of-drop (suc k) [] e = e
of-drop (suc k) (x ∷ xs) e = more_rows x.object (rows_held xs) (of-drop k xs e)

module _ (l : Sizes) (s : Setup) (stack frames : List ℕ) (chained : ℕ → Bool) where
  abbrev fine : ℕ → H.Object → Bool
  fine i o = object_fine l s stack frames chained i o

  -- ---- the row of one slot

  record Stepped (i : ℕ) (o : H.Object) (row : ℕ) : Type 0 where
    good : fine i o ≡ true
    rows : (rs : List ℕ) → rows_of o rs ≡ pick (ltb row 64) (row ∷ rs) rs

  none : (row : ℕ) (rs : List ℕ) → row ≡ 64 → rs ≡ pick (ltb row 64) (row ∷ rs) rs
  none row rs e = sym (ap (λ b. pick b (row ∷ rs) rs) (le-ltb row 64 (omega arith)) ∙ pick-false _ _)

  module _ (few : l.rows ≤ 64) (i : ℕ) (c : CoroObj) where
    abbrev ok : Bool
    ok = coro_fine l s stack frames chained i c

    -- an unfinished one's row is in range
    row_small : ok ≡ true → is_finished c.state ≡ false → c.row < 64
    row_small e f =
        let t = coro_test l s stack frames c in
        let p = and_left t (not (is_running c.state) || chained i) e in
        let z = and_left (sizes_in l c) (pick (is_finished c.state) (nothing_saved c) (in_row l s stack frames c)) p in
        let q = live l s stack frames c z f ∙ p in
        let a = ltb c.row l.rows in
        let b = rest_ok (chunk_at l.width stack c.row) c.regs in
        let r = and_left a b (and_left (a && b) _ q) in
        let h = ltb-true c.row l.rows r in
        omega arith

    row_is : (row : ℕ) → row ≡ coro_row l s stack frames chained i c → ok ≡ true → (b : Bool) → is_finished c.state ≡ b → row ≡ pick b 64 c.row
    row_is row e g b f = e ∙ passed l s stack frames c chained i g ∙ ap (λ t. pick t 64 c.row) f

    coro-step : (row : ℕ) → row ≡ coro_row l s stack frames chained i c → (b : Bool) → ok ≡ b → (row ≡ 65 → ⊥) → Stepped i (O.Coro c) row
    coro-step row e false g h = absurd (h (e ∙ sym (refused l s stack frames c chained i g)))
    coro-step row e true g h = go (is_finished c.state) refl
      where
        go : (b : Bool) → is_finished c.state ≡ b → Stepped i (O.Coro c) row
        go true f =
            record {
              good = g;
              rows = λ rs. ap (λ t. pick t rs (c.row ∷ rs)) f ∙ pick_true _ _ ∙ none row rs (row_is row e g true f ∙ pick_true _ _);
            }
        go false f =
            let q : row ≡ c.row = row_is row e g false f ∙ pick-false _ _ in
            let k = row_small g f in
            record {
              good = g;
              rows = λ rs. ap (λ t. pick t rs (c.row ∷ rs)) f ∙ pick-false _ _ ∙ ap (λ (n : ℕ). n ∷ rs) (sym q) ∙ sym (ap (λ b. pick b (row ∷ rs) rs) (lt-ltb row 64 (omega arith)) ∙ pick_true _ _);
            }

    coro-bad : (row : ℕ) → row ≡ coro_row l s stack frames chained i c → (b : Bool) → ok ≡ b → row ≡ 65 → ok ≡ false
    coro-bad row e false g h = g
    coro-bad row e true g h = go (is_finished c.state) refl
      where
        go : (b : Bool) → is_finished c.state ≡ b → ok ≡ false
        go true f = let q : row ≡ 64 = row_is row e g true f ∙ pick_true _ _ in absurd (omega arith)
        go false f = let q : row ≡ c.row = row_is row e g false f ∙ pick-false _ _ in let k = row_small g f in absurd (omega arith)

  step_of : l.rows ≤ 64 → (i : ℕ) (o : H.Object) (row : ℕ) → row ≡ object_row l s stack frames chained i o → (row ≡ 65 → ⊥) → Stepped i o row
  step_of few i O.Empty row e h = record { good = refl; rows = λ rs. none row rs e }
  step_of few i (O.Func f) row e h = record { good = refl; rows = λ rs. none row rs e }
  step_of few i (O.Int n) row e h = record { good = refl; rows = λ rs. none row rs e }
  step_of few i (O.Iter c d k) row e h = record { good = refl; rows = λ rs. none row rs e }
  step_of few i (O.Error x f p v) row e h = record { good = refl; rows = λ rs. none row rs e }
  step_of few i (O.Coro c) row e h = coro-step few i c row e (coro_fine l s stack frames chained i c) refl h

  bad-of : l.rows ≤ 64 → (i : ℕ) (o : H.Object) (row : ℕ) → row ≡ object_row l s stack frames chained i o → row ≡ 65 → fine i o ≡ false
  bad-of few i O.Empty row e h = absurd (omega arith)
  bad-of few i (O.Func f) row e h = absurd (omega arith)
  bad-of few i (O.Int n) row e h = absurd (omega arith)
  bad-of few i (O.Iter c d k) row e h = absurd (omega arith)
  bad-of few i (O.Error x f p v) row e h = absurd (omega arith)
  bad-of few i (O.Coro c) row e h = coro-bad few i c row e (coro_fine l s stack frames chained i c) refl h

  -- ---- the slots

  module _ (slots : List ℕ) (count : ℕ) where
    abbrev xs : List (Slot H.Object)
    xs = slots_of count slots

    abbrev object : ℕ → H.Object
    object i = (slot_in slots i).object

    -- those from i on passed; the set has their rows
    pub record RowsSoFar (mask i : ℕ) : Type 0 where
      pub within : i ≤ count
      pub passed : (j : ℕ) → i ≤ j → j < count → fine j (object j) ≡ true
      pub own : distinct (rows_held (drop i xs)) ≡ true
      pub holds : (n : ℕ) → n < 64 → bit_at mask n ≡ among n (rows_held (drop i xs))

    nothing_left : drop count xs ≡ []
    nothing_left = drop_of_length-le xs {i = count} (let h = length-chunks width slot_of_words count slots in omega arith)

    pub begin : RowsSoFar 0 count
    begin =
        record {
          within = omega arith;
          passed = λ j h k. absurd (omega arith);
          own = ap (λ (ys : List (Slot H.Object)). distinct (rows_held ys)) nothing_left;
          holds = λ n h. no-bit n ∙ sym (ap (λ (ys : List (Slot H.Object)). among n (rows_held ys)) nothing_left);
        }

    -- the next slot
    module _ (few : l.rows ≤ 64) (mask i row : ℕ) (p : RowsSoFar mask i) (more : 0 < i) (is : row ≡ slot_row l s stack frames chained slots (i - 1)) where
      abbrev rs : List ℕ
      rs = rows_held (drop i xs)

      down : drop (i - 1) xs ≡ slot_in slots (i - 1) ∷ drop i xs
      down =
          let w = p.within in
          let h : i - 1 < length xs = let q = length-chunks width slot_of_words count slots in omega arith in
          let k : i - 1 < count = omega arith in
          let e : suc (i - 1) ≡ i = omega arith in
          drop-cons xs (i - 1) (slot 0 O.Empty) h
          ∙ ap₂ (λ (y : Slot H.Object) (n : ℕ). y ∷ drop n xs) (chunks-at width slot_of_words count (i - 1) slots (slot 0 O.Empty) k) e

      pub refuses : row ≡ 65 → false ≡ rows_test l s stack frames chained slots count
      refuses e =
          let w = p.within in
          let held = rows_held xs in
          sym (ap (λ b. b && distinct held && free_test l stack frames (λ n. among n held))
          (fails-at count (i - 1) (λ j. fine j (object j)) (omega arith) (bad-of few (i - 1) (object (i - 1)) row is e)))

      module _ (good : row ≡ 65 → ⊥) where
        rows_next : rows_held (drop (i - 1) xs) ≡ pick (ltb row 64) (row ∷ rs) rs
        rows_next = ap rows_held down ∙ (step_of few (i - 1) (object (i - 1)) row is good).rows rs

        bit-of : (b : Bool) → held_bit mask row ≡ b → ltb row 64 ≡ true → among row rs ≡ b
        bit-of b e f = sym (p.holds row (ltb-true row 64 f)) ∙ sym (ap (λ t. t && bit_at mask row) f) ∙ e

        pub twice : held_bit mask row ≡ true → false ≡ rows_test l s stack frames chained slots count
        twice e =
            let held = rows_held xs in
            let all = all_below count (λ j. fine j (object j)) in
            let f = and_left (ltb row 64) (bit_at mask row) e in
            let d : distinct (rows_held (drop (i - 1) xs)) ≡ false = ap distinct (rows_next ∙ ap (λ t. pick t (row ∷ rs) rs) f ∙ pick_true _ _) ∙ ap (λ b. not b && distinct rs) (bit-of true e f) in
            sym (ap (λ b. all && b && free_test l stack frames (λ n. among n held)) (of-drop (i - 1) xs d)
            ∙ ap (λ b. b && free_test l stack frames (λ n. among n held)) (and-false all))

        pub next : (mask' : ℕ) → held_bit mask row ≡ false → ((j : ℕ) → j < 64 → bit_at mask' j ≡ eqb j row || bit_at mask j) → RowsSoFar mask' (i - 1)
        next mask' e f = go (ltb row 64) refl
          where
            through : (j : ℕ) → i - 1 ≤ j → j < count → fine j (object j) ≡ true
            through j a b = at (eqb j (i - 1)) refl
              where
                at : (t : Bool) → eqb j (i - 1) ≡ t → fine j (object j) ≡ true
                at true q = subst (λ k. fine k (object k) ≡ true) (sym (eqb-true j (i - 1) q)) (step_of few (i - 1) (object (i - 1)) row is good).good
                at false q = p.passed j (let d = eqb-false j (i - 1) q in omega arith) b

            go : (t : Bool) → ltb row 64 ≡ t → RowsSoFar mask' (i - 1)
            go true q =
                let r : rows_held (drop (i - 1) xs) ≡ row ∷ rs = rows_next ∙ ap (λ b. pick b (row ∷ rs) rs) q ∙ pick_true _ _ in
                record {
                  within = let w = p.within in omega arith;
                  passed = through;
                  own = ap distinct r ∙ both (ap not (bit-of false e q)) p.own;
                  holds = λ n h. f n h ∙ ap (λ b. eqb n row || b) (p.holds n h) ∙ sym (ap (among n) r);
                }
            go false q =
                let r : rows_held (drop (i - 1) xs) ≡ rs = rows_next ∙ ap (λ b. pick b (row ∷ rs) rs) q ∙ pick-false _ _ in
                let k = ltb-false row 64 q in
                record {
                  within = let w = p.within in omega arith;
                  passed = through;
                  own = ap distinct r ∙ p.own;
                  holds = λ n h. f n h ∙ ap (λ b. b || bit_at mask n) (ne_eqb n row (λ z. omega arith)) ∙ p.holds n h ∙ sym (ap (among n) r);
                }

    -- all passed
    pub end : l.rows ≤ 64 → (mask i : ℕ) (b : Bool) → RowsSoFar mask i → i ≤ 0 → b ≡ free_test l stack frames (λ n. bit_at mask n) → b ≡ rows_test l s stack frames chained slots count
    end few mask zero b p h e =
        let held = rows_held xs in
        e
        ∙ below-same l.rows (λ n. bit_at mask n || row_free l stack frames n) (λ n. among n held || row_free l stack frames n) (λ n k. ap (λ t. t || row_free l stack frames n) (p.holds n (omega arith)))
        ∙ sym (ap (λ t. t && free_test l stack frames (λ n. among n held)) (both (holds-all count (λ j. fine j (object j)) (λ j k. p.passed j (omega arith) k)) p.own))
    end few mask (suc i) b p h e = absurd (omega arith)
