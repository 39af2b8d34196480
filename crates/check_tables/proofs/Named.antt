-- A word that names a coroutine in the words names it in what they decode to, and is made of its slot and its tag. Assumes nothing.
use mathlib.Core.Path.{◌≡◌, refl, sym, ap, ◌∙◌}
use mathlib.Core.Bool.{Bool, true, false}
use mathlib.Core.List.{List, [], ◌∷◌, map}
use Prim.Native.Nat.{ℕ, zero, suc, ◌≤◌, ◌<◌}
use native.Mathlib.Omega.{arith}
use lib.ListN.{length, get_or, take, length-map}
use lib.Seq.{length-take-le, get_or-take}
use Rattle.lists.specs.Pick.{pick}
use Rattle.lists.specs.Tests.{all_below}
use Rattle.lists.proofs.Tests.{holds_at, holds-all}
use Rattle.heap.specs.Word.{reference, slot_of, class_of}
use Rattle.heap.specs.Object as HO
use Rattle.heap.specs.Table.{Slot, slot, names, get_in, get}
use Rattle.heap.specs.Heap.{slots_of, as_coro, coro_by, coro_of}
use Rattle.heap.specs.declared.value.Class.{Class}
use Rattle.std.specs.Prelude.{Option, Result, Some, None, Ok, Err}
use Rattle.heap.specs.declared.fault.Fault.{Fault}
use Rattle.heap.specs.declared.object.CoroObj.{CoroObj}
use Rattle.heap.specs.declared.object.Object as H
use Rattle.heap.specs.declared.object.Object.TheVariants as O
use Rattle.model.specs.Object.{Object, is_filled, Coroutine, Absent, Is}
use Rattle.model.specs.Object as M
use Rattle.model.specs.Heap.{object_at}
use Rattle.claims_sound.proofs.Tests.{no_false, each_at, at_each}
use Rattle.claims_sound.proofs.Point.{coro_in, finds, word-of}
use Rattle.memory_world.specs.Decode.{rest_of}
use Rattle.check_tables.specs.Queue.{by_coro, mark_of, marks_ok, QueueAsks}
use Rattle.check_tables.proofs.Seen.{QueueFits}
use Rattle.check_tables.proofs.Bools.{iff}

-- ---- objects mapped one by one

module _ (f : H.Object → Object) (filled : (o : H.Object) → is_filled (f o) ≡ HO.is_filled o) (empty : f O.Empty ≡ Object.Empty) where
  abbrev pub mapped : List (Slot H.Object) → List (Slot Object)
  mapped ys = map (λ y. slot y.tag (f y.object)) ys

  pub at-mapped : (ys : List (Slot H.Object)) (i : ℕ) → get_or (mapped ys) i (slot 0 Object.Empty) ≡ slot (get_or ys i (slot 0 O.Empty)).tag (f (get_or ys i (slot 0 O.Empty)).object)
  at-mapped [] i = ap (slot 0) (sym empty)
  at-mapped (y ∷ ys) zero = refl
  at-mapped (y ∷ ys) (suc i) = at-mapped ys i

  names-mapped : (ys : List (Slot H.Object)) (v : ℕ) → names Object.Empty is_filled (mapped ys) v ≡ names O.Empty HO.is_filled ys v
  names-mapped ys v = rw (length-map ys (λ y. slot y.tag (f y.object)), at-mapped ys (slot_of v), filled (get_or ys (slot_of v) (slot 0 O.Empty)).object)

  in-mapped : (ys : List (Slot H.Object)) (k : Class) → get_in Object.Empty is_filled (mapped ys) k ≡ get_in O.Empty HO.is_filled ys k
  in-mapped ys Class.Nil = refl
  in-mapped ys (Class.Ref o) = ap (λ (b : Bool). pick b (Some (slot_of o.0)) None) (names-mapped ys o.0)
  in-mapped ys (Class.Int n) = refl
  in-mapped ys Class.Opaque = refl

  -- a test of coroutines, of both kinds
  module _ (test : CoroObj → Bool) (as-test : Coroutine → Bool) (agree : (o : H.Object) → as-test (M.as_coro (f o)) ≡ by_coro test (as_coro 0 o)) (absent : as-test Absent ≡ false) where
    by-object : (i : ℕ) (o : H.Object) → by_coro test (as_coro i o) ≡ by_coro test (as_coro 0 o)
    by-object i O.Empty = refl
    by-object i (O.Func g) = refl
    by-object i (O.Int n) = refl
    by-object i (O.Iter s d k) = refl
    by-object i (O.Error e g p v) = refl
    by-object i (O.Coro c) = refl

    by_place : (ys : List (Slot H.Object)) (v : ℕ) (p : Option ℕ) → as-test (M.as_coro (object_at (mapped ys) p)) ≡ by_coro test (coro_by ys v p)
    by_place ys v None = absent
    by_place ys v (Some i) =
        ap (λ (x : Slot Object). as-test (M.as_coro x.object)) (at-mapped ys i) ∙ agree (get_or ys i (slot 0 O.Empty)).object
        ∙ sym (by-object i (get_or ys i (slot 0 O.Empty)).object)

    pub test-same : (ys : List (Slot H.Object)) (v : ℕ) → as-test (coro_in (mapped ys) v) ≡ by_coro test (coro_of ys v)
    test-same ys v =
        ap (λ (p : Option ℕ). as-test (M.as_coro (object_at (mapped ys) p))) (in-mapped ys (class_of v)) ∙ by_place ys v (get O.Empty HO.is_filled ys v)

-- ---- without what is saved

abbrev bare : H.Object → Object
bare O.Empty = Object.Empty
bare (O.Func f) = Object.Func f
bare (O.Int n) = Object.Int n
bare (O.Iter c d k) = Object.Iter c d k
bare (O.Error e f p v) = Object.Error e f p v
bare (O.Coro c) = Object.Coro (record { state = c.state; regs = []; frames = []; waiting = c.waiting }) (rest_of c)

bare-filled : (o : H.Object) → is_filled (bare o) ≡ HO.is_filled o
bare-filled O.Empty = refl
bare-filled (O.Func f) = refl
bare-filled (O.Int n) = refl
bare-filled (O.Iter c d k) = refl
bare-filled (O.Error e f p v) = refl
bare-filled (O.Coro c) = refl

bare-empty : bare O.Empty ≡ Object.Empty
bare-empty = refl

-- a coroutine is there
abbrev named : Coroutine → Bool
named Absent = false
named (Is k r) = true

bare-named : (o : H.Object) → named (M.as_coro (bare o)) ≡ by_coro (λ c. true) (as_coro 0 o)
bare-named O.Empty = refl
bare-named (O.Func f) = refl
bare-named (O.Int n) = refl
bare-named (O.Iter c d k) = refl
bare-named (O.Error e f p v) = refl
bare-named (O.Coro c) = refl

none_named : named Absent ≡ false
none_named = refl

-- what passes a test is there
is-there : (test : CoroObj → Bool) (ys : List (Slot H.Object)) (v : ℕ) → by_coro test (coro_of ys v) ≡ true → by_coro (λ c. true) (coro_of ys v) ≡ true
is-there test ys v h = go (coro_of ys v) h
  where
    go : (c : Result (ℕ × CoroObj) Fault) → by_coro test c ≡ true → by_coro (λ x. true) c ≡ true
    go (Ok (i, c)) e = refl
    go (Err g) e = no_false e

-- a word that names a coroutine: its slot, and its tag
pub record Word (ys : List (Slot H.Object)) (v : ℕ) : Type 0 where
  pub inside : slot_of v < length ys
  pub made : v ≡ reference (slot_of v) (get_or ys (slot_of v) (slot 0 O.Empty)).tag

pub word-named : (test : CoroObj → Bool) (ys : List (Slot H.Object)) (v : ℕ) → by_coro test (coro_of ys v) ≡ true → Word ys v
word-named test ys v h =
    go (coro_in (mapped bare bare-filled bare-empty ys) v) refl
    (test-same bare bare-filled bare-empty (λ c. true) named bare-named none_named ys v ∙ is-there test ys v h)
  where
    go : (c : Coroutine) → coro_in (mapped bare bare-filled bare-empty ys) v ≡ c → named c ≡ true → Word ys v
    go Absent e t = no_false t
    go (Is k r) e t =
        let p = finds (mapped bare bare-filled bare-empty ys) v k r e in
        let l = length-map ys (λ y. slot y.tag (bare y.object)) in
        let i = p.inside in
        record {
          inside = omega arith;
          made =
              sym (word-of v p.top)
              ∙ ap (reference (slot_of v)) (sym p.tag ∙ ap (λ (x : Slot Object). x.tag) (at-mapped bare bare-filled bare-empty ys (slot_of v)));
        }

-- ---- a queue

module _ (task : Bool) (ys : List (Slot H.Object)) (q : List ℕ) (n : ℕ) (within : n ≤ length q) where
  abbrev pub mark-at : ℕ → Bool
  mark-at i = by_coro (mark_of task) (coro_of ys (get_or q i 0))

  pub marks-below : marks_ok task ys (take n q) ≡ all_below n mark-at
  marks-below =
      iff (marks_ok task ys (take n q)) (all_below n mark-at)
      (λ e. holds-all n mark-at (λ i h. sym (ap (λ v. by_coro (mark_of task) (coro_of ys v)) (get_or-take n q i 0 h)) ∙ each_at (λ v. by_coro (mark_of task) (coro_of ys v)) (take n q) i 0 e (let l = length-take-le n q within in omega arith)))
      (λ e. at_each (λ v. by_coro (mark_of task) (coro_of ys v)) (take n q) 0
      (λ i h. let k : i < n = (let l = length-take-le n q within in omega arith) in ap (λ v. by_coro (mark_of task) (coro_of ys v)) (get_or-take n q i 0 k) ∙ holds_at n i mark-at k e))

pub queue-fits : (task : Bool) (slots q : List ℕ) (n count : ℕ) → QueueAsks q slots n count → marks_ok task (slots_of count slots) (take n q) ≡ true → QueueFits q n
queue-fits task slots q n count asks e =
    let ys = slots_of count slots in
    let here : (k : ℕ) → k < n → Word ys (get_or q k 0) = λ k h. word-named (mark_of task) ys (get_or q k 0) (holds_at n k (mark-at task ys q n asks.within) h (sym (marks-below task ys q n asks.within) ∙ e)) in
    record {
      within = asks.within;
      word_of = λ i. reference i (get_or ys i (slot 0 O.Empty)).tag;
      told = λ k h. (here k h).made;
    }
