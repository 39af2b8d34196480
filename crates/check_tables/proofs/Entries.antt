-- A queue read from its end: what has been read is marked, and stands there once. Assumes nothing.
use mathlib.Core.Path.{◌≡◌, refl, sym, ap, ◌∙◌}
use mathlib.Core.Bool.{Bool, true, false, ◌&&◌, ◌||◌}
use mathlib.Core.List.{List, map}
use Prim.Native.Nat.{ℕ, zero, suc, ◌-◌, ◌≤◌, ◌<◌}
use native.Mathlib.Omega.{arith}
use borrow.Author.Tests.{eqb-true, eqb-false}
use lib.Dec.{eqb}
use lib.ListN.{length, get_or, set, take, replicate}
use lib.Seq.{get_or-set_same, get_or-set_other}
use Rattle.lists.proofs.Tests.{fails-at, holds-all}
use Rattle.lists.proofs.Tables.{length-chunks}
use Rattle.heap.specs.Word.{slot_of}
use Rattle.heap.specs.Slot.{width, slot_of_words}
use Rattle.heap.specs.Table.{Slot}
use Rattle.heap.specs.Heap.{slots_of, coro_of}
use Rattle.heap.specs.declared.object.Object as H
use Rattle.model.specs.Lists.{distinct}
use Rattle.check_tables.specs.Queue.{by_coro, mark_of, marks_ok, entries_ok, QueueAsks}
use Rattle.check_tables.proofs.Seen.{Seen, begin, next, found, end, slots_length, slots_at, queue-words}
use Rattle.check_tables.proofs.Named.{word-named, mark-at, marks-below, queue-fits}

-- ---- a mark for each slot

abbrev pub has : List Bool → ℕ → Bool
has seen x = get_or seen x false

no-mark : (k n : ℕ) → has (replicate {A = Bool} n false) k ≡ false
no-mark k zero = refl
no-mark zero (suc n) = refl
no-mark (suc k) (suc n) = no-mark k n

pub put-mark : (seen : List Bool) (x y : ℕ) → x < length seen → has (set seen x true) y ≡ eqb y x || has seen y
put-mark seen x y h = go (eqb y x) refl
  where
    go : (b : Bool) → eqb y x ≡ b → has (set seen x true) y ≡ b || has seen y
    go true e = ap (has (set seen x true)) (eqb-true y x e) ∙ get_or-set_same seen x true false h
    go false e = get_or-set_other seen x y true false (eqb-false y x e)

-- ---- the words

-- from word i on each is marked, and their slots are seen
pub record Entries (task : Bool) (slots q : List ℕ) (n count : ℕ) (seen : List Bool) (i : ℕ) : Type 0 where
  pub once : Seen (map slot_of (take n q)) n (has seen) i
  pub long : length seen ≡ 4096
  pub marked : (k : ℕ) → i ≤ k → k < n → by_coro (mark_of task) (coro_of (slots_of count slots) (get_or q k 0)) ≡ true

module _ (task : Bool) (slots q : List ℕ) (n count : ℕ) (asks : QueueAsks q slots n count) where
  abbrev xs : List (Slot H.Object)
  xs = slots_of count slots

  abbrev mark : ℕ → Bool
  mark = mark-at task xs q n asks.within

  len : length (map slot_of (take n q)) ≡ n
  len = slots_length q n asks.within

  pub first : Entries task slots q n count (replicate 4096 false) n
  first = record {
    once = begin (map slot_of (take n q)) n len (has (replicate 4096 false)) (λ x. no-mark x 4096);
    long = refl;
    marked = λ k h g. absurd (omega arith);
  }

  -- a marked word's slot is in range
  pub small : (k : ℕ) → mark k ≡ true → slot_of (get_or q k 0) < 4096
  small k h =
      let i = (word-named (mark_of task) xs (get_or q k 0) h).inside in let l = length-chunks width slot_of_words count slots in let f = asks.few in
      omega arith

  pub unmarked : (k : ℕ) → k < n → mark k ≡ false → false ≡ entries_ok task xs (take n q)
  unmarked k h e = sym (ap (λ (b : Bool). b && distinct (take n q)) (marks-below task xs q n asks.within ∙ fails-at n k mark h e))

  twice : false ≡ distinct (map slot_of (take n q)) → false ≡ entries_ok task xs (take n q)
  twice d = go (marks_ok task xs (take n q)) refl
    where
      go : (b : Bool) → marks_ok task xs (take n q) ≡ b → false ≡ (b && distinct (take n q))
      go true e = d ∙ queue-words q n (queue-fits task slots q n count asks e)
      go false e = refl

  module _ (seen : List Bool) (i : ℕ) (s : Entries task slots q n count seen i) where
    module _ (more : 0 < i) where
      here : get_or (map slot_of (take n q)) (i - 1) 0 ≡ slot_of (get_or q (i - 1) 0)
      here = let h = s.once.within in slots_at q n (i - 1) (omega arith)

      pub again : has seen (slot_of (get_or q (i - 1) 0)) ≡ true → false ≡ entries_ok task xs (take n q)
      again b = twice (found (map slot_of (take n q)) n len (has seen) i (slot_of (get_or q (i - 1) 0)) s.once more here b)

      pub one_more : (seen' : List Bool) → mark (i - 1) ≡ true → has seen (slot_of (get_or q (i - 1) 0)) ≡ false
          → ((y : ℕ) → has seen' y ≡ eqb y (slot_of (get_or q (i - 1) 0)) || has seen y) → length seen' ≡ 4096 → Entries task slots q n count seen' (i - 1)
      one_more seen' m new put l = record {
        once = next (map slot_of (take n q)) n len (has seen) i (slot_of (get_or q (i - 1) 0)) s.once more here (has seen') new put;
        long = l;
        marked = λ k g f. go k f g (eqb k (i - 1)) refl;
      }
        where
          go : (k : ℕ) → k < n → i - 1 ≤ k → (b : Bool) → eqb k (i - 1) ≡ b → mark k ≡ true
          go k f g true e = ap mark (eqb-true k (i - 1) e) ∙ m
          go k f g false e = let d = eqb-false k (i - 1) e in s.marked k (omega arith) f

    pub all : i ≤ 0 → true ≡ entries_ok task xs (take n q)
    all h =
        let m : marks_ok task xs (take n q) ≡ true = marks-below task xs q n asks.within ∙ holds-all n mark (λ k g. s.marked k (omega arith) g) in
        end (map slot_of (take n q)) n (has seen) i s.once h ∙ queue-words q n (queue-fits task slots q n count asks m)
        ∙ sym (ap (λ (b : Bool). b && distinct (take n q)) m)
