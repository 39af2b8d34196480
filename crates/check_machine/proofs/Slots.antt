-- Slots that pass are those that the rules ask for, and the other way round. Assumes nothing.
use mathlib.Core.Path.{◌≡◌, refl, sym, ap, ◌∙◌}
use mathlib.Core.Bool.{Bool, true, false, not, ◌&&◌, ◌||◌}
use mathlib.Core.List.{List, map}
use Prim.Native.Nat.{ℕ, ◌*◌, ◌^◌, ◌≤◌, ◌<◌}
use native.Mathlib.Omega.{arith}
use lib.Dec.{eqb, ltb}
use lib.ListN.{length, get_or}
use Rattle.heap.specs.Object as HO
use Rattle.heap.specs.State.{is_running}
use Rattle.heap.specs.Word.{reference, slot_of}
use Rattle.heap.specs.Table.{Slot, slot}
use Rattle.heap.specs.Heap.{coro_of, as_coro}
use Rattle.heap.specs.declared.object.Object as H
use Rattle.heap.specs.declared.object.Object.TheVariants as O
use Rattle.model.specs.Lists.{each, among}
use Rattle.model.specs.Program.{Setup}
use Rattle.model.specs.Object.{Object, is_filled}
use Rattle.model.specs.Object as MO
use Rattle.model.specs.Sound.{row_words, runs, object_range, rowless}
use Rattle.claims_sound.proofs.Tests.{no_false, and_left, and_right, both}
use Rattle.claims_sound.proofs.Point.{coro_in}
use Rattle.claims_sound.proofs.Slots.{SlotOk}
use Rattle.memory_tables.specs.Sizes.{frames_size}
use Rattle.memory_world.specs.Memory.{Lent}
use Rattle.memory_world.specs.Words.{sizes_of}
use Rattle.memory_world.specs.Decode.{object_of, objects_of}
use Rattle.check_tables.specs.Queue.{by_coro}
use Rattle.check_tables.proofs.Named.{test-same}
use Rattle.check_tables.proofs.Deciding.{filled, each_same}
use Rattle.check_tables.proofs.Seen.{among-slots}
use Rattle.check_machine.specs.Table.{object_fits, slot_fits}
use Rattle.check_machine.specs.Running.{running}
use Rattle.check_machine.specs.Saved.{coro_test}
use Rattle.check_machine.specs.Rows.{object_fine}
use Rattle.check_machine.proofs.Chained.{word_of, named}
use Rattle.check_machine.proofs.Keeping.{Kept, kept, tested}

module _ (s : Setup) (M : Lent) where
  -- ---- running

  runs_same : (o : H.Object) → runs (MO.as_coro (object_of s M o)) ≡ by_coro running (as_coro 0 o)
  runs_same O.Empty = refl
  runs_same (O.Func f) = refl
  runs_same (O.Int n) = refl
  runs_same (O.Iter c d k) = refl
  runs_same (O.Error e f p v) = refl
  runs_same (O.Coro c) = refl

  pub each-runs : (ys : List (Slot H.Object)) (vs : List ℕ) → each (λ v. runs (coro_in (objects_of s M ys) v)) vs ≡ each (λ v. by_coro running (coro_of ys v)) vs
  each-runs ys vs =
      each_same (λ v. runs (coro_in (objects_of s M ys) v)) (λ v. by_coro running (coro_of ys v))
      (λ v. test-same (object_of s M) (filled s M) refl running runs runs_same refl ys v) vs

  -- a slot that the chain names is named by its word
  pub chain-word : (ys : List (Slot H.Object)) (vs : List ℕ) (i : ℕ) → each (λ v. by_coro running (coro_of ys v)) vs ≡ true → i < 2 ^ 32
      → among i (map slot_of vs) ≡ among (reference i (get_or ys i (slot 0 O.Empty)).tag) vs
  chain-word ys vs i e h =
      let x = word_of ys i in
      let t = (get_or ys i (slot 0 O.Empty)).tag in
      let q : slot_of x ≡ i = omega arith in
      ap (λ k. among k (map slot_of vs)) (sym q) ∙ among-slots (word_of ys) x vs (sym (ap (word_of ys) q)) (named ys vs e)

  -- ---- ranges

  range_same : (o : H.Object) → object_range (object_of s M o) ≡ object_fits o
  range_same O.Empty = refl
  range_same (O.Func f) = refl
  range_same (O.Int n) = refl
  range_same (O.Iter c d k) = refl
  range_same (O.Error e f p v) = refl
  range_same (O.Coro c) = refl

  module _ (on_stack : s.limits.rows * row_words s ≤ length M.saved_stack) (on-frames : s.limits.rows * frames_size s ≤ length M.saved_frames) (one : 1 ≤ s.limits.rows) (chained : ℕ → Bool) (i : ℕ) where
    abbrev fine : H.Object → Bool
    fine o = object_fine (sizes_of s) s M.saved_stack M.saved_frames chained i o

    pub kept_of : (o : H.Object) → fine o ≡ true → Kept s M o
    kept_of O.Empty e = record { sizes = refl; saved = refl; unrowed = refl; fits = refl; row = λ n q. no_false q }
    kept_of (O.Func f) e = record { sizes = refl; saved = refl; unrowed = refl; fits = refl; row = λ n q. no_false q }
    kept_of (O.Int n) e = record { sizes = refl; saved = refl; unrowed = refl; fits = refl; row = λ n q. no_false q }
    kept_of (O.Iter c d k) e = record { sizes = refl; saved = refl; unrowed = refl; fits = refl; row = λ n q. no_false q }
    kept_of (O.Error x f p v) e = record { sizes = refl; saved = refl; unrowed = refl; fits = refl; row = λ n q. no_false q }
    kept_of (O.Coro c) e = kept s M on_stack on-frames one c (and_left (coro_test (sizes_of s) s M.saved_stack M.saved_frames c) (not (is_running c.state) || chained i) e)

    pub runs_of : (o : H.Object) → fine o ≡ true → (not (runs (MO.as_coro (object_of s M o))) || chained i) ≡ true
    runs_of O.Empty e = refl
    runs_of (O.Func f) e = refl
    runs_of (O.Int n) e = refl
    runs_of (O.Iter c d k) e = refl
    runs_of (O.Error x f p v) e = refl
    runs_of (O.Coro c) e = and_right (coro_test (sizes_of s) s M.saved_stack M.saved_frames c) (not (is_running c.state) || chained i) e

    pub fine_of : (o : H.Object) → Kept s M o → (not (runs (MO.as_coro (object_of s M o))) || chained i) ≡ true → fine o ≡ true
    fine_of O.Empty q e = refl
    fine_of (O.Func f) q e = refl
    fine_of (O.Int n) q e = refl
    fine_of (O.Iter c d k) q e = refl
    fine_of (O.Error x f p v) q e = refl
    fine_of (O.Coro c) q e = both (tested s M on_stack on-frames one c q) e

  -- ---- one slot

  module _ (vs : List ℕ) (i : ℕ) (y : Slot H.Object) where
    abbrev x : Slot Object
    x = slot y.tag (object_of s M y.object)

    pub slot_ok : Kept s M y.object → slot_fits y ≡ true → (not (runs (MO.as_coro x.object)) || among (reference i y.tag) vs) ≡ true → SlotOk false s vs i x
    slot_ok q e r =
        let a = ltb y.tag (2 ^ 16) in
        let b = object_fits y.object in
        let c = HO.is_filled y.object || eqb y.tag 0 in
        let e₁ = and_left (a && b) c e in
        record {
          object = record { sizes = q.sizes; saved = q.saved; rowless = q.unrowed; range = range_same y.object ∙ and_right a b e₁; wide = λ z. no_false z };
          unused = ap (λ t. t || eqb y.tag 0) (filled s M y.object) ∙ and_right (a && b) c e;
          tag = and_left a b e₁;
          running = r;
        }

    pub slot-fits : SlotOk false s vs i x → slot_fits y ≡ true
    slot-fits o =
        both (both o.tag (sym (range_same y.object) ∙ o.object.range)) (sym (ap (λ t. t || eqb y.tag 0) (filled s M y.object)) ∙ o.unused)
