-- The object that a word names, and what it is after a slot was filled anew or one was added.
use mathlib.Core.Logic.{◌≢◌}
use mathlib.Core.Path.{◌≡◌, sym, ap, ◌∙◌, subst}
use mathlib.Core.Bool.{true}
use mathlib.Core.List.{List, [], ◌∷◌}
use Prim.Native.Nat.{ℕ, ◌<◌}
use native.Mathlib.Omega.{arith}
use lib.ListN.{length-append, length-set, get_or-append}
use lib.Seq.{get_or-set_same, get_or-set_other}
use Rattle.heap.specs.Word.{reference, slot_of, tag_of}
use Rattle.heap.specs.Table.{Slot, slot, put_object, push_object}
use Rattle.model.specs.Object.{Object, is_filled}
pub use Rattle.model.proofs.Point.{at, object_in, coro_in, Points, points, pointed, finds, found, word-of}

pub same_word : {xs : List (Slot Object)} {v u : ℕ} {o p : Object} → Points xs v o → Points xs u p → slot_of u ≡ slot_of v → u ≡ v
same_word {xs} {v} {u} {o} {p} a b e =
    let t : tag_of u ≡ tag_of v = sym b.tag ∙ ap (λ i. (at xs i).tag) e ∙ a.tag in
    sym (word-of u b.top) ∙ ap (λ i. reference i (tag_of u)) e ∙ ap (reference (slot_of v)) t ∙ word-of v a.top

-- ---- one slot filled anew

module _ {xs : List (Slot Object)} {v : ℕ} {o : Object} (p : Points xs v o) (n : Object) where
  abbrev pub put : List (Slot Object)
  put = put_object Object.Empty xs (slot_of v) n

  pub put-here : is_filled n ≡ true → Points put v n
  put-here f =
      let e = get_or-set_same xs (slot_of v) (slot (at xs (slot_of v)).tag n) (slot 0 Object.Empty) p.inside in
      let l = length-set xs (slot_of v) (slot (at xs (slot_of v)).tag n) in
      let i = p.inside in
      record {
        inside = subst (λ k. slot_of v < k) (sym l) i;
        here = ap (λ (x : Slot Object). x.object) e;
        tag = ap (λ (x : Slot Object). x.tag) e ∙ p.tag;
        top = p.top;
        filled = f;
      }

  pub put_other : {u : ℕ} {m : Object} → u ≢ v → Points xs u m → Points put u m
  put_other {u} {m} d q =
      let e = get_or-set_other xs (slot_of v) (slot_of u) (slot (at xs (slot_of v)).tag n) (slot 0 Object.Empty) (λ z. d (same_word p q z)) in
      let l = length-set xs (slot_of v) (slot (at xs (slot_of v)).tag n) in
      record {
        inside = subst (λ k. slot_of u < k) (sym l) q.inside;
        here = ap (λ (x : Slot Object). x.object) e ∙ q.here;
        tag = ap (λ (x : Slot Object). x.tag) e ∙ q.tag;
        top = q.top;
        filled = q.filled;
      }

-- ---- one slot added

pub push-other : {xs : List (Slot Object)} {u : ℕ} {m : Object} (n : Object) → Points xs u m → Points (push_object xs n) u m
push-other {xs} {u} {m} n q =
    let e = get_or-append xs (slot 0 n ∷ []) (slot 0 Object.Empty) (slot_of u) q.inside in
    let l = length-append xs (slot 0 n ∷ []) in
    let i = q.inside in
    record {
      inside = omega arith;
      here = ap (λ (x : Slot Object). x.object) e ∙ q.here;
      tag = ap (λ (x : Slot Object). x.tag) e ∙ q.tag;
      top = q.top;
      filled = q.filled;
    }
