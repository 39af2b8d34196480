-- The tests of slots and of running coroutines say yes exactly if their rules of `WellFormed` hold, rule by rule. Assumes nothing.
use mathlib.Core.Logic.{◌↔◌}
use mathlib.Core.Path.{◌≡◌, refl, sym, ap, ◌∙◌, subst}
use mathlib.Core.Bool.{Bool, true, false, not, ◌&&◌, ◌||◌}
use mathlib.Core.List.{List, [], ◌∷◌}
use Prim.Native.Nat.{ℕ, zero, suc, ◌+◌, ◌≤◌, ◌<◌}
use native.Mathlib.Omega.{arith}
use lib.Dec.{leb}
use lib.ListN.{length}
use borrow.Author.Tests.{leb-true, leb-false, le-leb}
use Rattle.heap.specs.Word.{reference, slot_of, tag_of}
use Rattle.heap.specs.Table.{Slot, slot}
use Rattle.heap.specs.declared.object.CoroState.{CoroState}
use Rattle.heap.proofs.Words.{slot-of, tag-of}
use Rattle.model.specs.Lists.{each, among, distinct}
use Rattle.model.specs.State.{is_running, is_suspended, is_resumable, is_finished}
use Rattle.model.specs.Program.{Func, Setup}
use Rattle.model.specs.Object.{Core, Rest, Object, Coroutine, Absent, Is, as_coro}
use Rattle.model.specs.World.{World}
use Rattle.model.specs.Heap as Heap
use Rattle.model.specs.Sound.{sizes_ok, widest, row_words, saved_sizes, saved_sizes_ok, runs, coros, runs_among}
use Rattle.model.specs.WellFormed.{At, ◌∈◌, resumable, suspended, finished, Coro, word_of, Names, Sizes, FitsRow, like-stack, like-function, SavedSizes}
use Rattle.model.specs.declared.machine.Active.{Active}
use Rattle.model.proofs.Tests.{no_false, no_true, and_left, and_right, both, or_else, unnegate}
use Rattle.model.proofs.Places.{each-place, place-each, among_in, in-among, distinct-once, once-distinct}
use Rattle.model.proofs.Point.{at, finds, found, word-of}

-- ---- states

pub resumable-exactly : (s : CoroState) → (is_resumable s ≡ true) ↔ (s ∈ resumable)
resumable-exactly s = (yes s, λ h. back h.0 h.1)
  where
    yes : (s : CoroState) → is_resumable s ≡ true → s ∈ resumable
    yes CoroState.Created e = (0, refl)
    yes CoroState.Running e = no_false e
    yes CoroState.Yielded e = (1, refl)
    yes CoroState.Awaiting e = (2, refl)
    yes CoroState.Returned e = no_false e
    yes CoroState.Failed e = no_false e

    back : (i : ℕ) → At i s resumable → is_resumable s ≡ true
    back zero e = ap is_resumable e
    back (suc zero) e = ap is_resumable e
    back (suc (suc zero)) e = ap is_resumable e
    back (suc (suc (suc i))) e = absurd e

pub suspended-exactly : (s : CoroState) → (is_suspended s ≡ true) ↔ (s ∈ suspended)
suspended-exactly s = (yes s, λ h. back h.0 h.1)
  where
    yes : (s : CoroState) → is_suspended s ≡ true → s ∈ suspended
    yes CoroState.Created e = no_false e
    yes CoroState.Running e = no_false e
    yes CoroState.Yielded e = (0, refl)
    yes CoroState.Awaiting e = (1, refl)
    yes CoroState.Returned e = no_false e
    yes CoroState.Failed e = no_false e

    back : (i : ℕ) → At i s suspended → is_suspended s ≡ true
    back zero e = ap is_suspended e
    back (suc zero) e = ap is_suspended e
    back (suc (suc i)) e = absurd e

pub finished-exactly : (s : CoroState) → (is_finished s ≡ true) ↔ (s ∈ finished)
finished-exactly s = (yes s, λ h. back h.0 h.1)
  where
    yes : (s : CoroState) → is_finished s ≡ true → s ∈ finished
    yes CoroState.Created e = no_false e
    yes CoroState.Running e = no_false e
    yes CoroState.Yielded e = no_false e
    yes CoroState.Awaiting e = no_false e
    yes CoroState.Returned e = (0, refl)
    yes CoroState.Failed e = (1, refl)

    back : (i : ℕ) → At i s finished → is_finished s ≡ true
    back zero e = ap is_finished e
    back (suc zero) e = ap is_finished e
    back (suc (suc i)) e = absurd e

pub running-is : (s : CoroState) → is_running s ≡ true → s ≡ CoroState.Running
running-is CoroState.Created e = no_false e
running-is CoroState.Running e = refl
running-is CoroState.Yielded e = no_false e
running-is CoroState.Awaiting e = no_false e
running-is CoroState.Returned e = no_false e
running-is CoroState.Failed e = no_false e

pub unfinished : (s : CoroState) → (s ∈ finished → ⊥) → is_finished s ≡ false
unfinished s h = go (is_finished s) refl
  where
    go : (b : Bool) → is_finished s ≡ b → b ≡ false
    go true e = absurd (h ((finished-exactly s).0 e))
    go false e = refl

-- ---- each coroutine

pub as-slot : (x : Slot Object) (o : Object) → x.object ≡ o → x ≡ slot x.tag o
as-slot x o e = λ i. record { tag = x.tag; object = e i }

-- what a slot's object may be, by its kind
pub each-coro : (t : Coroutine → Bool) → t Absent ≡ true → (xs : List (Slot Object))
    → (each (λ x. t (as_coro x.object)) xs ≡ true) ↔ ((i g : ℕ) (k : Core) (r : Rest) → At i (slot g (Object.Coro k r)) xs → t (Is k r) ≡ true)
each-coro t z xs = (
  λ e i g k r h. each-place (λ x. t (as_coro x.object)) xs e i (slot g (Object.Coro k r)) h,
  λ q. place-each (λ x. t (as_coro x.object)) xs
      (λ i x h. go x.object (λ k r e. q i x.tag k r (subst (λ (y : Slot Object). At i y xs) (as-slot x (Object.Coro k r) e) h))),
)
  where
    go : (o : Object) → ((k : Core) (r : Rest) → o ≡ Object.Coro k r → t (Is k r) ≡ true) → t (as_coro o) ≡ true
    go Object.Empty q = z
    go (Object.Func f) q = z
    go (Object.Int n) q = z
    go (Object.Iter s d k) q = z
    go (Object.Error e f p v) q = z
    go (Object.Coro k r) q = q k r refl

-- ---- sizes

pub sizes-exactly : (w : World) → (sizes_ok w ≡ true) ↔ Sizes w
unfolding sizes_ok
sizes-exactly w =
    let l = w.setup.limits in
    let a = leb (length w.frames) l.depth in
    let b = leb (length w.stack) l.stack in
    let c = leb (length w.slots) l.slots in
    let d = leb w.used l.memory in (
      λ e. record {
        frames = leb-true (length w.frames) l.depth (and_left a b (and_left (a && b) c (and_left (a && b && c) d e)));
        stack = leb-true (length w.stack) l.stack (and_right a b (and_left (a && b) c (and_left (a && b && c) d e)));
        slots = leb-true (length w.slots) l.slots (and_right (a && b) c (and_left (a && b && c) d e));
        memory = leb-true w.used l.memory (and_right (a && b && c) d e);
      },
      λ q. both
          (both (both (le-leb (length w.frames) l.depth q.frames) (le-leb (length w.stack) l.stack q.stack)) (le-leb (length w.slots) l.slots q.slots))
          (le-leb w.used l.memory q.memory),
    )

widest-some : (n : ℕ) (fs : List Func) → 0 < n → n ≤ widest fs → (f : Func) × (f ∈ fs) × (n ≤ f.regs)
widest-some n [] z h = absurd (omega arith)
widest-some n (f ∷ fs) z h = go (leb n f.regs) refl (λ g. widest-some n fs z g)
  where
    go : (b : Bool) → leb n f.regs ≡ b → (n ≤ widest fs → (g : Func) × (g ∈ fs) × (n ≤ g.regs)) → (g : Func) × (g ∈ f ∷ fs) × (n ≤ g.regs)
    go true e k = (f, (0, refl), leb-true n f.regs e)
    go false e k = let l = leb-false n f.regs e in let (g, m, q) = k (omega arith) in (g, (suc m.0, m.1), q)

widest-at : (fs : List Func) (i : ℕ) (f : Func) → At i f fs → f.regs ≤ widest fs
widest-at [] i f h = absurd h
widest-at (g ∷ fs) zero f h = let e = ap (λ (z : Func). z.regs) h in omega arith
widest-at (g ∷ fs) (suc i) f h = let e = widest-at fs i f h in omega arith

pub row-exactly : (s : Setup) (n : ℕ) → (leb n (row_words s) ≡ true) ↔ FitsRow s n
row-exactly s n = (λ e. go (leb n s.limits.stack) refl (leb-true n (row_words s) e), back)
  where
    go : (b : Bool) → leb n s.limits.stack ≡ b → n ≤ row_words s → FitsRow s n
    go true e h = like-stack (leb-true n s.limits.stack e)
    go false e h = let l = leb-false n s.limits.stack e in let (f, m, q) = widest-some n s.functions (omega arith) (omega arith) in like-function f m q

    back : FitsRow s n → leb n (row_words s) ≡ true
    back (like-stack h) = le-leb n (row_words s) (omega arith)
    back (like-function f m h) = let l = widest-at s.functions m.0 f m.1 in le-leb n (row_words s) (omega arith)

saved-sizes : (s : Setup) (k : Core) (r : Rest) → (saved_sizes s (Is k r) ≡ true) ↔ SavedSizes s k r
saved-sizes s k r =
    let a = leb (length k.regs) (row_words s) in
    let b = leb (length k.frames) s.limits.depth in
    let c = leb r.maxregs (row_words s) in
    let d = leb r.maxframes s.limits.depth in (
      λ e. record {
        words = (row-exactly s (length k.regs)).0 (and_left a b (and_left (a && b) c (and_left (a && b && c) d e)));
        frames = leb-true (length k.frames) s.limits.depth (and_right a b (and_left (a && b) c (and_left (a && b && c) d e)));
        most-words = (row-exactly s r.maxregs).0 (and_right (a && b) c (and_left (a && b && c) d e));
        most-frames = leb-true r.maxframes s.limits.depth (and_right (a && b && c) d e);
      },
      λ q. both
          (both (both ((row-exactly s (length k.regs)).1 q.words) (le-leb (length k.frames) s.limits.depth q.frames)) ((row-exactly s r.maxregs).1 q.most-words))
          (le-leb r.maxframes s.limits.depth q.most-frames),
    )

pub saved-sizes-exactly : (w : World) → (saved_sizes_ok w ≡ true) ↔ ((i t : ℕ) (k : Core) (r : Rest) → Coro w i t k r → SavedSizes w.setup k r)
unfolding saved_sizes_ok
saved-sizes-exactly w =
    let c = each-coro (saved_sizes w.setup) refl w.slots in
    (λ e i t k r h. (saved-sizes w.setup k r).0 (c.0 e i t k r h), λ q. c.1 (λ i t k r h. (saved-sizes w.setup k r).1 (q i t k r h)))

-- ---- the coroutine that a word names

at_here : (xs : List (Slot Object)) (i : ℕ) → i < length xs → At i (at xs i) xs
at_here [] i h = absurd (omega arith)
at_here (x ∷ xs) zero h = refl
at_here (x ∷ xs) (suc i) h = at_here xs i (omega arith)

at-is : (xs : List (Slot Object)) (i : ℕ) (x : Slot Object) → At i x xs → (i < length xs) × (at xs i ≡ x)
at-is [] i x h = absurd h
at-is (y ∷ xs) zero x h = (omega arith, sym h)
at-is (y ∷ xs) (suc i) x h = let (l, e) = at-is xs i x h in (omega arith, e)

pub lookup-exactly : (w : World) (v : ℕ) (k : Core) (r : Rest) → (Heap.coro w v ≡ Is k r) ↔ Names w v k r
lookup-exactly w v k r = (to, back)
  where
    to : Heap.coro w v ≡ Is k r → Names w v k r
    to e =
        let p = finds w.slots v k r e in
        record {
          slot = slot_of v;
          tag = tag_of v;
          low = omega arith;
          high = omega arith;
          word = sym (word-of v p.top);
          holds =
              subst (λ (y : Slot Object). At (slot_of v) y w.slots) (λ i. record { tag = p.tag i; object = p.here i }) (at_here w.slots (slot_of v) p.inside);
        }

    back : Names w v k r → Heap.coro w v ≡ Is k r
    back n =
        let (l, e) = at-is w.slots n.slot (slot n.tag (Object.Coro k r)) n.holds in
        let p : slot_of v ≡ n.slot = ap slot_of n.word ∙ slot-of n.slot n.tag n.low n.high in
        let q : tag_of v ≡ n.tag = ap tag_of n.word ∙ tag-of n.slot n.tag n.low n.high in
        let z : v ≡ word_of n.slot n.tag = n.word in
        let a = n.low in
        let b = n.high in
        let f : at w.slots (slot_of v) ≡ slot n.tag (Object.Coro k r) = ap (at w.slots) p ∙ e in
        found w.slots v k r
        (record {
          inside = subst (λ i. i < length w.slots) (sym p) l;
          here = ap (λ (x : Slot Object). x.object) f;
          tag = ap (λ (x : Slot Object). x.tag) f ∙ sym q;
          top = omega arith;
          filled = refl;
        })

-- ---- running coroutines

runs-is : (c : Coroutine) → runs c ≡ true → (k : Core) × (r : Rest) × (c ≡ Is k r) × (k.state ≡ CoroState.Running)
runs-is Absent e = no_false e
runs-is (Is k r) e = (k, r, refl, running-is k.state e)

pub runs-exactly : (w : World) → (each (λ a. runs (Heap.coro w a.coro)) w.chain ≡ true)
    ↔ ((a : Active) → a ∈ w.chain → (k : Core) × (r : Rest) × Names w a.coro k r × (k.state ≡ CoroState.Running))
runs-exactly w = (
  λ e a h. let (k, r, q, s) = runs-is (Heap.coro w a.coro) (each-place (λ (x : Active). runs (Heap.coro w x.coro)) w.chain e h.0 a h.1) in (k, r, (lookup-exactly w a.coro k r).0 q, s),
  λ q. place-each (λ (x : Active). runs (Heap.coro w x.coro)) w.chain
      (λ i a h. let (k, r, n, s) = q a (i, h) in ap runs ((lookup-exactly w a.coro k r).1 n) ∙ ap is_running s),
)

coros-at : (xs : List Active) (i v : ℕ) → At i v (coros xs) → (a : Active) × At i a xs × (v ≡ a.coro)
coros-at [] i v h = absurd h
coros-at (x ∷ xs) zero v h = (x, refl, h)
coros-at (x ∷ xs) (suc i) v h = coros-at xs i v h

at-coros : (xs : List Active) (i : ℕ) (a : Active) → At i a xs → At i a.coro (coros xs)
at-coros [] i a h = absurd h
at-coros (x ∷ xs) zero a h = ap (λ (z : Active). z.coro) h
at-coros (x ∷ xs) (suc i) a h = at-coros xs i a h

pub own-exactly : (xs : List Active) → (distinct (coros xs) ≡ true) ↔ ((i j : ℕ) (a b : Active) → At i a xs → At j b xs → a.coro ≡ b.coro → i ≡ j)
own-exactly xs = (
  λ e i j a b h g q. distinct-once (coros xs) e i j a.coro (at-coros xs i a h) (subst (λ v. At j v (coros xs)) (sym q) (at-coros xs j b g)),
  λ f. once-distinct (coros xs) (λ i j v h g. let (a, p, e) = coros-at xs i v h in let (b, q, d) = coros-at xs j v g in f i j a b p q (sym e ∙ d)),
)

module _ (vs : List ℕ) where
  abbrev Listed : ℕ → List (Slot Object) → Type 0
  Listed n xs = (i t : ℕ) (k : Core) (r : Rest) → At i (slot t (Object.Coro k r)) xs → k.state ≡ CoroState.Running → word_of (n + i) t ∈ vs

  listed : (n : ℕ) (xs : List (Slot Object)) → runs_among vs n xs ≡ true → Listed n xs
  listed n [] e i t k r h s = absurd h
  listed n (x ∷ xs) e zero t k r h s =
      let p : x ≡ slot t (Object.Coro k r) = sym h in
      let a = and_left (not (runs (as_coro x.object)) || among (reference n x.tag) vs) (runs_among vs (suc n) xs) e in
      let u : runs (as_coro x.object) ≡ true = ap (λ (y : Slot Object). runs (as_coro y.object)) p ∙ ap is_running s in
      or_else (not (runs (as_coro x.object))) (among (reference n x.tag) vs) a
      (λ q. no_true (sym u ∙ unnegate (runs (as_coro x.object)) q))
      (λ q. let (j, m) = among_in (reference n x.tag) vs q in
      let d : reference n x.tag ≡ word_of (n + 0) t = ap (λ (y : Slot Object). reference n y.tag) p ∙ ap (λ z. reference z t) (omega arith) in
      (j, subst (λ z. At j z vs) d m))
  listed n (x ∷ xs) e (suc i) t k r h s =
      let (j, m) = listed (suc n) xs (and_right (not (runs (as_coro x.object)) || among (reference n x.tag) vs) (runs_among vs (suc n) xs) e) i t k r h s in
      (j, subst (λ z. At j (word_of z t) vs) (omega arith) m)

  one-listed : (n t : ℕ) (o : Object) → ((k : Core) (r : Rest) → o ≡ Object.Coro k r → k.state ≡ CoroState.Running → reference n t ∈ vs) → (not (runs (as_coro o)) || among (reference n t) vs) ≡ true
  one-listed n t Object.Empty q = refl
  one-listed n t (Object.Func f) q = refl
  one-listed n t (Object.Int m) q = refl
  one-listed n t (Object.Iter s d k) q = refl
  one-listed n t (Object.Error e f p v) q = refl
  one-listed n t (Object.Coro k r) q = go (is_running k.state) refl
    where
      go : (b : Bool) → is_running k.state ≡ b → (not b || among (reference n t) vs) ≡ true
      go true e = let (j, m) = q k r refl (running-is k.state e) in in-among (reference n t) vs j m
      go false e = refl

  unlisted : (n : ℕ) (xs : List (Slot Object)) → Listed n xs → runs_among vs n xs ≡ true
  unlisted n [] q = refl
  unlisted n (x ∷ xs) q =
      both
      (one-listed n x.tag x.object
      (λ k r e s. let (j, m) = q 0 x.tag k r (sym (as-slot x (Object.Coro k r) e)) s in
      (j, subst (λ z. At j (word_of z x.tag) vs) (omega arith) m)))
      (unlisted (suc n) xs (λ i t k r h s. let (j, m) = q (suc i) t k r h s in (j, subst (λ z. At j (word_of z t) vs) (omega arith) m)))

pub others-exactly : (w : World) → (runs_among (coros w.chain) 0 w.slots ≡ true)
    ↔ ((i t : ℕ) (k : Core) (r : Rest) → Coro w i t k r → k.state ≡ CoroState.Running → (a : Active) × (a ∈ w.chain) × (a.coro ≡ word_of i t))
others-exactly w = (
  λ e i t k r h s. let (j, m) = listed (coros w.chain) 0 w.slots e i t k r h s in
      let (a, p, q) = coros-at w.chain j (word_of (0 + i) t) m in (a, (j, p), sym q ∙ ap (λ z. word_of z t) (omega arith)),
  λ f. unlisted (coros w.chain) 0 w.slots
      (λ i t k r h s. let (a, m, q) = f i t k r h s in
      (m.0, subst (λ z. At m.0 z (coros w.chain)) (q ∙ ap (λ z. word_of z t) (omega arith)) (at-coros w.chain m.0 a m.1))),
)
