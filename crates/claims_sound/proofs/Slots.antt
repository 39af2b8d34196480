-- The rules on slots: of each slot by itself, of those that run, of the rows held. What fills a slot anew, or adds one, keeps them.
use mathlib.Core.Logic.{◌≢◌}
use mathlib.Core.Path.{◌≡◌, refl, sym, ap, ◌∙◌, subst}
use mathlib.Core.Bool.{Bool, true, false, not, ◌||◌}
use mathlib.Core.List.{List, [], ◌∷◌}
use Prim.Native.Nat.{ℕ, ◌+◌, ◌^◌, ◌≤◌, ◌<◌}
use native.Mathlib.Omega.{arith}
use lib.ListN.{length, length-append, length-set, get_or-append}
use lib.Seq.{get_or-set_same, get_or-set_other, get_or-append_seam}
use lib.Dec.{eqb, ltb}
use borrow.Author.Tests.{ltb-true, eqb-true, eqb-false, eq-eqb}
use Rattle.heap.specs.Word.{reference, slot_of}
use Rattle.heap.specs.Table.{Slot, slot, push_object}
use Rattle.model.specs.Lists.{each, among, distinct}
use Rattle.model.specs.State.{is_running, is_finished}
use Rattle.model.specs.Object.{Core, Rest, Object, is_filled, Coroutine, Absent, Is, as_coro}
use Rattle.model.specs.Rows.{held_by}
use Rattle.model.specs.Program.{Setup}
use Rattle.model.specs.Sound.{saved_sizes, saved_in, runs, unused_in, rowless, object_range}
use Rattle.claims_sound.specs.Exact.{exact_in}
use Rattle.claims_sound.proofs.Tests.{no_true, and_left, and_right, both, or_left, or_right, or_else, negate, unnegate, among-all, among-each}
use Rattle.claims_sound.proofs.Point.{at, coro_in, Points, finds, found, word-of, put, put-here, put_other, push-other}
use Rattle.claims_sound.proofs.Held.{Rows, rows_as, rows-gone, held_same, held-push-none, free_of, row-of}

-- the rules of one object; if `ex`, its saved frames are exactly as wide as their functions
pub record ObjectOk (ex : Bool) (s : Setup) (o : Object) : Type 0 where
  pub sizes : saved_sizes s (as_coro o) ≡ true
  pub saved : saved_in s (as_coro o) ≡ true
  pub rowless : rowless (as_coro o) ≡ true
  pub range : object_range o ≡ true
  pub wide : ex ≡ true → exact_in s (as_coro o) ≡ true

-- the rules of the slot x at i, where the words vs run
pub record SlotOk (ex : Bool) (s : Setup) (vs : List ℕ) (i : ℕ) (x : Slot Object) : Type 0 where
  pub object : ObjectOk ex s x.object
  pub unused : unused_in x ≡ true
  pub tag : ltb x.tag (2 ^ 16) ≡ true
  pub running : (not (runs (as_coro x.object)) || among (reference i x.tag) vs) ≡ true

pub record Heap (ex : Bool) (s : Setup) (vs : List ℕ) (xs : List (Slot Object)) : Type 0 where
  pub small : s.limits.slots ≤ 4096
  pub count : length xs ≤ s.limits.slots
  pub slots : (i : ℕ) → i < length xs → SlotOk ex s vs i (at xs i)
  pub running : each (λ v. runs (coro_in xs v)) vs ≡ true
  pub apart : distinct vs ≡ true
  pub rows : Rows s xs

-- a test that only a coroutine passes
module _ (test : Coroutine → Bool) (absent : test Absent ≡ false) where
  by-coro : (c : Coroutine) {A : Type 0} → test c ≡ true → ((k : Core) (r : Rest) → c ≡ Is k r → A) → A
  by-coro Absent t f = no_true (sym t ∙ absent)
  by-coro (Is k r) t f = f k r refl

  -- what another word names passes still
  pub test-other : {xs : List (Slot Object)} {v : ℕ} {o : Object} (p : Points xs v o) (n : Object) {u : ℕ} → u ≢ v → test (coro_in xs u) ≡ true → test (coro_in (put p n) u) ≡ true
  test-other {xs} {v} {o} p n {u} d t = by-coro (coro_in xs u) t (λ k r e. ap test (found (put p n) u k r (put_other p n d (finds xs u k r e))) ∙ sym (ap test e) ∙ t)

  -- what a word names passes still after one was added
  pub test-push : (xs : List (Slot Object)) (n : Object) (u : ℕ) → test (coro_in xs u) ≡ true → test (coro_in (push_object xs n) u) ≡ true
  test-push xs n u t = by-coro (coro_in xs u) t (λ k r e. ap test (found (push_object xs n) u k r (push-other n (finds xs u k r e))) ∙ sym (ap test e) ∙ t)

  -- what does not hold of the word that was filled holds of the others
  pub test_plain : {xs : List (Slot Object)} {v : ℕ} {o : Object} (p : Points xs v o) (n : Object) (u : ℕ) → as_coro o ≡ Absent → test (coro_in xs u) ≡ true → test (coro_in (put p n) u) ≡ true
  test_plain {xs} {v} {o} p n u a t = by-coro (coro_in xs u) t (λ k r e. test-other p n (λ z. apart k r e z) t)
    where
      apart : (k : Core) (r : Rest) → coro_in xs u ≡ Is k r → u ≡ v → ⊥
      apart k r e z =
          let q : Points xs v (Object.Coro k r) = finds xs v k r (ap (coro_in xs) (sym z) ∙ e) in
          let w : Is k r ≡ Absent = ap as_coro (sym q.here ∙ p.here) ∙ a in
          let one : ◌≡◌ {A = ℕ} 0 1 = cc in
          omega arith

-- ---- one slot filled anew

module _ {ex : Bool} {s : Setup} {vs : List ℕ} {xs : List (Slot Object)} {v : ℕ} {o : Object} (h : Heap ex s vs xs) (p : Points xs v o) (n : Object) where
  -- the words that run may change by v
  slot-still : (vs' : List ℕ) → ((u : ℕ) → u ≢ v → among u vs ≡ true → among u vs' ≡ true) → (i : ℕ) → i < length xs → i ≢ slot_of v → SlotOk ex s vs' i (at xs i)
  slot-still vs' more i l d =
      let x = h.slots i l in
      record {
        object = x.object;
        unused = x.unused;
        tag = x.tag;
        running =
            or_else (not (runs (as_coro (at xs i).object))) (among (reference i (at xs i).tag) vs) x.running (λ q. or_left _ _ q)
            (λ q. or_right (not (runs (as_coro (at xs i).object))) _ (more (reference i (at xs i).tag)
            (λ z. d (let t = ltb-true (at xs i).tag (2 ^ 16) x.tag in let a = h.small in let b = h.count in let y : slot_of (reference i (at xs i).tag) ≡ slot_of v = ap slot_of z in omega arith)) q));
      }

  pub put-heap : (vs' : List ℕ) → ((u : ℕ) → u ≢ v → among u vs ≡ true → among u vs' ≡ true) → ObjectOk ex s n → is_filled n ≡ true → (not (runs (as_coro n)) || among v vs') ≡ true
      → each (λ u. runs (coro_in (put p n) u)) vs' ≡ true → distinct vs' ≡ true → Rows s (put p n) → Heap ex s vs' (put p n)
  put-heap vs' more ok f run running apart rows =
      let len = length-set xs (slot_of v) (slot (at xs (slot_of v)).tag n) in
      record {
        small = h.small;
        count = subst (λ k. k ≤ s.limits.slots) (sym len) h.count;
        slots = λ i l. each-slot i (subst (λ k. i < k) len l);
        running = running;
        apart = apart;
        rows = rows;
      }
    where
      at_slot : (i : ℕ) → (b : Bool) → eqb i (slot_of v) ≡ b → i < length xs → SlotOk ex s vs' i (at (put p n) i)
      at_slot i true e l =
          let z : i ≡ slot_of v = eqb-true i (slot_of v) e in
          let g : at (put p n) i ≡ slot (at xs (slot_of v)).tag n =
          ap (at (put p n)) z ∙ get_or-set_same xs (slot_of v) (slot (at xs (slot_of v)).tag n) (slot 0 Object.Empty) p.inside in
          let w : reference i (at xs (slot_of v)).tag ≡ v = ap (λ j. reference j (at xs (slot_of v)).tag) z ∙ ap (reference (slot_of v)) p.tag ∙ word-of v p.top in
          subst (SlotOk ex s vs' i) (sym g)
          (record {
            object = ok;
            unused = or_left (is_filled n) _ f;
            tag = (h.slots (slot_of v) p.inside).tag;
            running = subst (λ u. (not (runs (as_coro n)) || among u vs') ≡ true) (sym w) run;
          })
      at_slot i false e l =
          let d : i ≢ slot_of v = eqb-false i (slot_of v) e in
          subst (SlotOk ex s vs' i) (sym (get_or-set_other xs (slot_of v) i (slot (at xs (slot_of v)).tag n) (slot 0 Object.Empty) d)) (slot-still vs' more i l d)

      each-slot : (i : ℕ) → i < length xs → SlotOk ex s vs' i (at (put p n) i)
      each-slot i l = at_slot i (eqb i (slot_of v)) refl l

  -- the word itself runs if its slot does
  pub runs-among : runs (as_coro o) ≡ true → among v vs ≡ true
  runs-among e =
      let x = (h.slots (slot_of v) p.inside).running in
      let w : reference (slot_of v) (at xs (slot_of v)).tag ≡ v = ap (reference (slot_of v)) p.tag ∙ word-of v p.top in
      or_else (not (runs (as_coro (at xs (slot_of v)).object))) (among (reference (slot_of v) (at xs (slot_of v)).tag) vs) x
      (λ q. no_true (sym e ∙ sym (ap (λ (z : Object). runs (as_coro z)) p.here) ∙ unnegate (runs (as_coro (at xs (slot_of v)).object)) q)) (λ q. subst (λ u. among u vs ≡ true) w q)

-- ---- a coroutine changed, entered, left

abbrev pub put_coro : {xs : List (Slot Object)} {v : ℕ} {k : Core} {r : Rest} → Points xs v (Object.Coro k r) → Core → Rest → List (Slot Object)
put_coro p k r = put p (Object.Coro k r)

module _ {s : Setup} {xs : List (Slot Object)} {v : ℕ} {k : Core} {r : Rest} (p : Points xs v (Object.Coro k r)) (k' : Core) (r' : Rest) where
  -- it runs as it did
  pub change-heap : {ex : Bool} {vs : List ℕ} → Heap ex s vs xs → ObjectOk ex s (Object.Coro k' r') → is_running k'.state ≡ is_running k.state → Rows s (put_coro p k' r') → Heap ex s vs (put_coro p k' r')
  change-heap {vs} h ok e rows =
      put-heap h p (Object.Coro k' r') vs (λ u d q. q) ok refl (here (is_running k'.state) e) (among-all (λ u. runs (coro_in (put_coro p k' r') u)) vs (λ u m. go u (eqb u v) refl m)) h.apart rows
    where
      here : (b : Bool) → b ≡ is_running k.state → (not b || among v vs) ≡ true
      here false q = refl
      here true q = runs-among h p (Object.Coro k' r') (sym q)

      was : (u : ℕ) → among u vs ≡ true → runs (coro_in xs u) ≡ true
      was u m = among-each (λ x. runs (coro_in xs x)) u vs h.running m

      go : (u : ℕ) (b : Bool) → eqb u v ≡ b → among u vs ≡ true → runs (coro_in (put_coro p k' r') u) ≡ true
      go u true q m =
          let z : u ≡ v = eqb-true u v q in
          ap (λ x. runs (coro_in (put_coro p k' r') x)) z ∙ ap runs (found (put_coro p k' r') v k' r' (put-here p (Object.Coro k' r') refl)) ∙ e ∙ sym (ap runs (found xs v k r p)) ∙ sym (ap (λ x. runs (coro_in xs x)) z) ∙ was u m
      go u false q m = test-other runs refl p (Object.Coro k' r') (eqb-false u v q) (was u m)

  -- it did not run, and does now
  pub enter-heap : {ex : Bool} {vs : List ℕ} → Heap ex s vs xs → ObjectOk ex s (Object.Coro k' r') → is_running k.state ≡ false → is_running k'.state ≡ true → Rows s (put_coro p k' r') → Heap ex s (v ∷ vs) (put_coro p k' r')
  enter-heap {vs} h ok e e' rows =
      put-heap h p (Object.Coro k' r') (v ∷ vs) (λ u d q. or_right (eqb u v) _ q) ok refl (or_right (not (is_running k'.state)) _ (or_left (eqb v v) _ (eq-eqb v v refl)))
      (both (ap runs (found (put_coro p k' r') v k' r' (put-here p (Object.Coro k' r') refl)) ∙ e') (among-all (λ u. runs (coro_in (put_coro p k' r') u)) vs (λ u m. test-other runs refl p (Object.Coro k' r') (apart u m) (was u m))))
      (both (negate (alone (among v vs) refl)) h.apart) rows
    where
      was : (u : ℕ) → among u vs ≡ true → runs (coro_in xs u) ≡ true
      was u m = among-each (λ x. runs (coro_in xs x)) u vs h.running m

      apart : (u : ℕ) → among u vs ≡ true → u ≢ v
      apart u m z = no_true (sym (was u m) ∙ ap (λ x. runs (coro_in xs x)) z ∙ ap runs (found xs v k r p) ∙ e)

      alone : (b : Bool) → among v vs ≡ b → b ≡ false
      alone true q = absurd (apart v q refl)
      alone false q = refl

  -- it ran last, and does not now
  pub leave-heap : {ex : Bool} {vs : List ℕ} → Heap ex s (v ∷ vs) xs → ObjectOk ex s (Object.Coro k' r') → is_running k'.state ≡ false → Rows s (put_coro p k' r') → Heap ex s vs (put_coro p k' r')
  leave-heap {vs} h ok e rows =
      put-heap h p (Object.Coro k' r') vs (λ u d q. or_else (eqb u v) _ q (λ z. absurd (d (eqb-true u v z))) (λ z. z)) ok refl (or_left (not (is_running k'.state)) _ (negate e))
      (among-all (λ u. runs (coro_in (put_coro p k' r') u)) vs (λ u m. test-other runs refl p (Object.Coro k' r') (apart u m) (was u m))) (and_right (not (among v vs)) _ h.apart) rows
    where
      was : (u : ℕ) → among u vs ≡ true → runs (coro_in xs u) ≡ true
      was u m = among-each (λ x. runs (coro_in xs x)) u (v ∷ vs) h.running (or_right (eqb u v) _ m)

      apart : (u : ℕ) → among u vs ≡ true → u ≢ v
      apart u m z = no_true (sym m ∙ ap (λ x. among x vs) z ∙ unnegate (among v vs) (and_left (not (among v vs)) _ h.apart))

  -- the rows, if its row stays or is given back
  pub same_rows : Rows s xs → is_finished k'.state ≡ is_finished k.state → r'.row ≡ r.row → Rows s (put_coro p k' r')
  same_rows h e f =
      rows_as s xs (put_coro p k' r') (held_same xs (slot_of v) (slot (at xs (slot_of v)).tag (Object.Coro k' r')) (λ rows. as_before rows ∙ ap (λ (x : Object). held_by (as_coro x) rows) (sym p.here))) h
    where
      as_before : (rows : List ℕ) → held_by (Is k' r') rows ≡ held_by (Is k r) rows
      as_before rows = go (is_finished k.state) refl
        where
          go : (b : Bool) → is_finished k.state ≡ b → held_by (Is k' r') rows ≡ held_by (Is k r) rows
          go true q = free_of k' r' (e ∙ q) rows ∙ sym (free_of k r q rows)
          go false q = row-of k' r' (e ∙ q) rows ∙ ap (λ x. x ∷ rows) f ∙ sym (row-of k r q rows)

  pub freed-rows : Rows s xs → is_finished k'.state ≡ true → Rows s (put_coro p k' r')
  freed-rows h e = rows-gone s xs (slot_of v) (slot (at xs (slot_of v)).tag (Object.Coro k' r')) (free_of k' r' e) h

-- ---- an object that is no coroutine changed

no_rows : (o : Object) → as_coro o ≡ Absent → (rows : List ℕ) → held_by (as_coro o) rows ≡ rows
no_rows o e rows = ap (λ c. held_by c rows) e

pub plain-heap : {ex : Bool} {s : Setup} {vs : List ℕ} {xs : List (Slot Object)} {v : ℕ} {o : Object} → Heap ex s vs xs → (p : Points xs v o) (n : Object) → as_coro o ≡ Absent → as_coro n ≡ Absent → is_filled n ≡ true
    → ObjectOk ex s n → Heap ex s vs (put p n)
plain-heap {s} {vs} {xs} {v} {o} h p n a b f ok =
    put-heap h p n vs (λ u d q. q) ok f (or_left (not (runs (as_coro n))) _ (ap (λ c. not (runs c)) b))
    (among-all (λ u. runs (coro_in (put p n) u)) vs (λ u m. test_plain runs refl p n u a (among-each (λ x. runs (coro_in xs x)) u vs h.running m))) h.apart
    (rows_as s xs (put p n) (held_same xs (slot_of v) (slot (at xs (slot_of v)).tag n) (λ rows. no_rows n b rows ∙ sym (no_rows o a rows) ∙ ap (λ (x : Object). held_by (as_coro x) rows) (sym p.here))) h.rows)

-- ---- an object added

pub push-heap : {ex : Bool} {s : Setup} {vs : List ℕ} {xs : List (Slot Object)} → Heap ex s vs xs → (n : Object) → ObjectOk ex s n → is_filled n ≡ true → runs (as_coro n) ≡ false → length xs < s.limits.slots
    → Rows s (push_object xs n) → Heap ex s vs (push_object xs n)
push-heap {ex} {s} {vs} {xs} h n ok f run room rows =
    let len = length-append xs (slot 0 n ∷ []) in
    record {
      small = h.small;
      count = omega arith;
      slots = λ i l. each-slot i (eqb i (length xs)) refl (subst (λ k. i < k) len l);
      running = among-all (λ u. runs (coro_in (push_object xs n) u)) vs (λ u m. test-push runs refl xs n u (among-each (λ x. runs (coro_in xs x)) u vs h.running m));
      apart = h.apart;
      rows = rows;
    }
  where
    each-slot : (i : ℕ) (b : Bool) → eqb i (length xs) ≡ b → i < length xs + 1 → SlotOk ex s vs i (at (push_object xs n) i)
    each-slot i true e l =
        let z : i ≡ length xs = eqb-true i (length xs) e in
        subst (SlotOk ex s vs i) (sym (ap (at (push_object xs n)) z ∙ get_or-append_seam xs (slot 0 n) [] (slot 0 Object.Empty)))
        (record { object = ok; unused = or_left (is_filled n) _ f; tag = refl; running = or_left (not (runs (as_coro n))) _ (negate run) })
    each-slot i false e l =
        let d : i ≢ length xs = eqb-false i (length xs) e in
        let m : i < length xs = omega arith in
        subst (SlotOk ex s vs i) (sym (get_or-append xs (slot 0 n ∷ []) (slot 0 Object.Empty) i m)) (h.slots i m)

pub plain_rows : (s : Setup) (xs : List (Slot Object)) (n : Object) → as_coro n ≡ Absent → Rows s xs → Rows s (push_object xs n)
plain_rows s xs n e h = rows_as s xs (push_object xs n) (held-push-none xs (slot 0 n) (no_rows n e)) h
