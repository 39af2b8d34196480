-- The tests of frames say yes exactly if their rules of `WellFormed` hold, rule by rule. Assumes nothing.
use mathlib.Core.Logic.{◌↔◌}
use mathlib.Core.Path.{◌≡◌, refl, sym, ap, ◌∙◌, subst}
use mathlib.Core.Bool.{Bool, true, false, not, ◌&&◌, ◌||◌}
use mathlib.Core.List.{List, [], ◌∷◌}
use Prim.Native.Nat.{ℕ, zero, suc, ◌+◌, ◌^◌, ◌≤◌}
use native.Mathlib.Omega.{arith}
use lib.Dec.{eqb, ltb, leb}
use lib.ListN.{length, get_or}
use borrow.Author.Tests.{eqb-true, eq-eqb, leb-true, le-leb, ltb-true, lt-ltb}
use Rattle.lists.specs.Pick.{pick}
use Rattle.lists.proofs.Tests.{never}
use Rattle.model.specs.Lists.{is_nil, each}
use Rattle.model.specs.Program.{Func, Setup, no_func, func, is_function}
use Rattle.model.specs.Frames.{is_entry, is_coro}
use Rattle.model.specs.Sound.{bases_ok, frame_names, lies_under, cont_lies, conts_lie, catches_lie, entry_last, body_last}
use Rattle.model.specs.WellFormed.{At, ◌∈◌, ◌ends_in◌, Bases, NamesFunction, LiesBelow, cont_registers, Continuations, Catches, CatchesLie, Body}
use Rattle.model.specs.declared.program.Handler.{Handler}
use Rattle.model.specs.declared.machine.Cont.{Cont}
use Rattle.model.specs.declared.machine.Frame.{Frame}
use Rattle.model.proofs.Tests.{no_false, no_true, and_left, and_right, both, or_else, negate, unnegate}
use Rattle.model.proofs.Places.{each-place, place-each, at-end, later, whole}

-- ---- continuations by their tests

pub entry-is : (c : Cont) → is_entry c ≡ true → c ≡ Cont.Entry
entry-is Cont.Entry e = refl
entry-is (Cont.Write r) e = no_false e
entry-is (Cont.Dyn r) e = no_false e
entry-is (Cont.Value r) e = no_false e
entry-is Cont.Discard e = no_false e
entry-is Cont.Coro e = no_false e

pub coro-is : (c : Cont) → is_coro c ≡ true → c ≡ Cont.Coro
coro-is Cont.Entry e = no_false e
coro-is (Cont.Write r) e = no_false e
coro-is (Cont.Dyn r) e = no_false e
coro-is (Cont.Value r) e = no_false e
coro-is Cont.Discard e = no_false e
coro-is Cont.Coro e = refl

-- a test that is no
pub refuted : (b : Bool) → (b ≡ true → ⊥) → b ≡ false
refuted true f = absurd (f refl)
refuted false f = refl

pub nil_is : {A : Type 0} (xs : List A) → is_nil xs ≡ true → xs ≡ []
nil_is [] e = refl
nil_is (x ∷ xs) e = no_false e

-- ---- bases

abbrev SomeBases : List Frame → Type 0
SomeBases fs = (n : ℕ) × (bases_ok n fs ≡ true)

bases-down : (f : Frame) (fs : List Frame) → SomeBases (f ∷ fs) → SomeBases fs
bases-down f fs h = (f.base, and_right (leb f.base h.0) (bases_ok f.base fs) h.1)

base-within : (n : ℕ) (fs : List Frame) → bases_ok n fs ≡ true → (i : ℕ) (f : Frame) → At i f fs → f.base ≤ n
base-within n [] e i f h = absurd h
base-within n (g ∷ fs) e zero f h = subst (λ (z : Frame). z.base ≤ n) (sym h) (leb-true g.base n (and_left (leb g.base n) (bases_ok g.base fs) e))
base-within n (g ∷ fs) e (suc i) f h =
    let a = base-within g.base fs (and_right (leb g.base n) (bases_ok g.base fs) e) i f h in
    let b = leb-true g.base n (and_left (leb g.base n) (bases_ok g.base fs) e) in
    omega arith

bases-are : (n : ℕ) (fs : List Frame) → bases_ok n fs ≡ true → Bases n fs
unfolding bases-down
bases-are n fs e =
    record {
      begin =
          λ f h. let r = at-end SomeBases bases-down fs (f ∷ []) h (n, e) in
          eqb-true f.base 0 (and_right (leb f.base r.0) (eqb f.base 0) r.1);
      never-fall =
          λ g f below h. let r = at-end SomeBases bases-down fs (g ∷ f ∷ below) h (n, e) in
          leb-true f.base g.base (and_left (leb f.base g.base) (bases_ok f.base below) (bases-down g (f ∷ below) r).1);
      within = λ f h. base-within n fs e h.0 f h.1;
      empty = λ h. eqb-true n 0 (subst (λ (z : List Frame). bases_ok n z ≡ true) h e);
    }

-- bases that never fall: none passes that of the frame on top
none-higher : (f : Frame) (fs : List Frame) → ((g h : Frame) (below : List Frame) → (f ∷ fs) ends_in (g ∷ h ∷ below) → h.base ≤ g.base)
    → (i : ℕ) (g : Frame) → At i g fs → g.base ≤ f.base
none-higher f [] fall i g h = absurd h
none-higher f (x ∷ fs) fall zero g h = subst (λ (z : Frame). z.base ≤ f.base) (sym h) (fall f x fs (whole (f ∷ x ∷ fs)))
none-higher f (x ∷ fs) fall (suc i) g h =
    let a = none-higher x fs (λ y z below q. fall y z below (later f (x ∷ fs) (y ∷ z ∷ below) q)) i g h in
    let b = fall f x fs (whole (f ∷ x ∷ fs)) in
    omega arith

are-bases : (n : ℕ) (fs : List Frame) → Bases n fs → bases_ok n fs ≡ true
are-bases n [] b = eq-eqb n 0 (b.empty refl)
are-bases n (f ∷ fs) b =
    both (le-leb f.base n (b.within f (0, refl)))
    (are-bases f.base fs
    (record {
      begin = λ g h. b.begin g (later f fs (g ∷ []) h);
      never-fall = λ g x below h. b.never-fall g x below (later f fs (g ∷ x ∷ below) h);
      within = λ g h. none-higher f fs b.never-fall h.0 g h.1;
      empty = λ h. b.begin f ([], ap (λ (z : List Frame). f ∷ z) h);
    }))

pub bases-exactly : (n : ℕ) (fs : List Frame) → (bases_ok n fs ≡ true) ↔ Bases n fs
bases-exactly n fs = (bases-are n fs, are-bases n fs)

-- ---- functions

pub names-exactly : (s : Setup) (fs : List Frame) → (each (frame_names s) fs ≡ true) ↔ ((f : Frame) → f ∈ fs → NamesFunction s f)
names-exactly s fs = (
  λ e f h. let t = each-place (frame_names s) fs e h.0 f h.1 in
      record {
        function = ltb-true f.func (length s.functions) (and_left (is_function s f.func) (ltb f.pc (2 ^ 32)) t);
        pc = ltb-true f.pc (2 ^ 32) (and_right (is_function s f.func) (ltb f.pc (2 ^ 32)) t);
      },
  λ q. place-each (frame_names s) fs (λ i f h. let n = q f (i, h) in both (lt-ltb f.func (length s.functions) n.function) (lt-ltb f.pc (2 ^ 32) n.pc)),
)

-- ---- continuations' registers

pub lies-exactly : (f : Frame) (below : List Frame) (r : ℕ) → (lies_under r f.base below ≡ true) ↔ LiesBelow f below r
lies-exactly f [] r = (λ e. no_false e, λ h. absurd h)
lies-exactly f (g ∷ below) r = (λ e. ltb-true (g.base + r) f.base e, λ h. lt-ltb (g.base + r) f.base h)

-- one register, and none
pub one_lies : (f : Frame) (below : List Frame) (r : ℕ) → (lies_under r f.base below ≡ true) ↔ ((q : ℕ) → q ∈ r ∷ [] → LiesBelow f below q)
one_lies f below r = (λ e q h. go q h.0 h.1 ((lies-exactly f below r).0 e), λ h. (lies-exactly f below r).1 (h r (0, refl)))
  where
    go : (q i : ℕ) → At i q (r ∷ []) → LiesBelow f below r → LiesBelow f below q
    go q zero e l = subst (λ z. LiesBelow f below z) (sym e) l
    go q (suc i) e l = absurd e

pub none-lies : (f : Frame) (below : List Frame) → (true ≡ true) ↔ ((q : ℕ) → q ∈ [] → LiesBelow f below q)
none-lies f below = (λ e q h. absurd h.1, λ h. refl)

pub cont-exactly : (c : Cont) (f : Frame) (below : List Frame) → (cont_lies c f.base below ≡ true) ↔ ((r : ℕ) → r ∈ cont_registers c → LiesBelow f below r)
cont-exactly Cont.Entry f below = none-lies f below
cont-exactly (Cont.Write r) f below = one_lies f below r
cont-exactly (Cont.Dyn r) f below = one_lies f below r
cont-exactly (Cont.Value r) f below = one_lies f below r
cont-exactly Cont.Discard f below = none-lies f below
cont-exactly Cont.Coro f below = none-lies f below

conts-lie : (fs : List Frame) → conts_lie fs ≡ true → Continuations fs
conts-lie fs e f below r h q =
    let t = at-end (λ (z : List Frame). conts_lie z ≡ true) (λ x xs. and_right (cont_lies x.cont x.base xs) (conts_lie xs)) fs (f ∷ below) h e in
    (cont-exactly f.cont f below).0 (and_left (cont_lies f.cont f.base below) (conts_lie below) t) r q

lie-conts : (fs : List Frame) → Continuations fs → conts_lie fs ≡ true
lie-conts [] q = refl
lie-conts (f ∷ fs) q =
    both ((cont-exactly f.cont f fs).1 (λ r h. q f fs r (whole (f ∷ fs)) h)) (lie-conts fs (λ g below r h. q g below r (later f fs (g ∷ below) h)))

pub conts-exactly : (fs : List Frame) → (conts_lie fs ≡ true) ↔ Continuations fs
conts-exactly fs = (conts-lie fs, lie-conts fs)

-- ---- catch registers

-- the handlers of a function, by its number
module _ (t : Handler → Bool) where
  func-at : (ps : List Func) (i : ℕ) (p : Func) (h : Handler) → At i p ps → h ∈ p.handlers → each t (get_or ps i no_func).handlers ≡ true → t h ≡ true
  func-at [] i p h a m e = absurd a
  func-at (x ∷ ps) zero p h a m e = each-place t p.handlers (subst (λ (z : Func). each t z.handlers ≡ true) (sym a) e) m.0 h m.1
  func-at (x ∷ ps) (suc i) p h a m e = func-at ps i p h a m e

  at-func : (ps : List Func) (i : ℕ) → ((p : Func) (h : Handler) → At i p ps → h ∈ p.handlers → t h ≡ true) → each t (get_or ps i no_func).handlers ≡ true
  at-func [] i q = refl
  at-func (x ∷ ps) zero q = place-each t x.handlers (λ j h m. q x h refl (j, m))
  at-func (x ∷ ps) (suc i) q = at-func ps i q

abbrev catch_in : Setup → Frame → ℕ → Bool
catch_in s f n = each (λ h. ltb (f.base + h.catch) n) (func s f.func).handlers

pub catch-exactly : (s : Setup) (f : Frame) (n : ℕ) → (catch_in s f n ≡ true) ↔ Catches s f n
catch-exactly s f n = (
  λ e p h a m. ltb-true (f.base + h.catch) n (func-at (λ z. ltb (f.base + z.catch) n) s.functions f.func p h a m e),
  λ q. at-func (λ z. ltb (f.base + z.catch) n) s.functions f.func (λ p h a m. lt-ltb (f.base + h.catch) n (q p h a m)),
)

abbrev SomeCatches : Setup → List Frame → Type 0
SomeCatches s fs = (n : ℕ) × (catches_lie s n fs ≡ true)

catches-lie : (s : Setup) (n : ℕ) (fs : List Frame) → catches_lie s n fs ≡ true → CatchesLie s n fs
catches-lie s n fs e =
    record {
      top =
          λ f below h.
          (catch-exactly s f n).0 (and_left (catch_in s f n) (catches_lie s f.base below) (subst (λ (z : List Frame). catches_lie s n z ≡ true) h e));
      under =
          λ g f below h.
          let r = at-end (SomeCatches s) (λ x xs q. (x.base, and_right (catch_in s x q.0) (catches_lie s x.base xs) q.1)) fs (g ∷ f ∷ below) h (n, e) in
          (catch-exactly s f g.base).0
          (and_left (catch_in s f g.base) (catches_lie s f.base below) (and_right (catch_in s g r.0) (catches_lie s g.base (f ∷ below)) r.1));
    }

lie-catches : (s : Setup) (n : ℕ) (fs : List Frame) → CatchesLie s n fs → catches_lie s n fs ≡ true
lie-catches s n [] q = refl
lie-catches s n (f ∷ fs) q =
    both ((catch-exactly s f n).1 (q.top f fs refl))
    (lie-catches s f.base fs
    (record {
      top = λ g below h. q.under f g below ([], ap (λ (z : List Frame). f ∷ z) h);
      under = λ g x below h. q.under g x below (later f fs (g ∷ x ∷ below) h);
    }))

pub catches-exactly : (s : Setup) (n : ℕ) (fs : List Frame) → (catches_lie s n fs ≡ true) ↔ CatchesLie s n fs
catches-exactly s n fs = (catches-lie s n fs, lie-catches s n fs)

-- ---- Entry

abbrev pub EntryLast : List Frame → Type 0
EntryLast fs = (f : Frame) (below : List Frame) → fs ends_in (f ∷ below) → f.cont ≡ Cont.Entry → below ≡ []

entry-last : (fs : List Frame) → entry_last fs ≡ true → EntryLast fs
entry-last fs e f below h c =
    let t = at-end (λ (z : List Frame). entry_last z ≡ true) (λ x xs. and_right (not (is_entry x.cont) || is_nil xs) (entry_last xs)) fs (f ∷ below) h e in
    or_else (not (is_entry f.cont)) (is_nil below) (and_left (not (is_entry f.cont) || is_nil below) (entry_last below) t)
    (λ n. no_true (sym (ap is_entry c) ∙ unnegate (is_entry f.cont) n)) (λ n. nil_is below n)

last_entry : (fs : List Frame) → EntryLast fs → entry_last fs ≡ true
last_entry [] q = refl
last_entry (f ∷ fs) q = both (go (is_entry f.cont) refl) (last_entry fs (λ g below h. q g below (later f fs (g ∷ below) h)))
  where
    go : (b : Bool) → is_entry f.cont ≡ b → (not b || is_nil fs) ≡ true
    go true e = ap is_nil (q f fs (whole (f ∷ fs)) (entry-is f.cont e))
    go false e = refl

pub entry-exactly : (fs : List Frame) → (entry_last fs ≡ true) ↔ EntryLast fs
entry-exactly fs = (entry-last fs, last_entry fs)

-- ---- a body at the bottom

abbrev BodyLast : List Frame → Type 0
BodyLast [] = Unit {0}
BodyLast (f ∷ fs) = body_last (f ∷ fs) ≡ true

body-down : (f : Frame) (fs : List Frame) → BodyLast (f ∷ fs) → BodyLast fs
unfolding pick
body-down f [] e = tt
body-down f (g ∷ fs) e = and_right (not (is_coro f.cont) && not (is_entry f.cont)) (body_last (g ∷ fs)) e

as-body : (fs : List Frame) → body_last fs ≡ true → BodyLast fs
as-body [] e = tt
as-body (f ∷ fs) e = e

neither-kind : (f g : Frame) (below : List Frame) → BodyLast (f ∷ g ∷ below) → (is_coro f.cont ≡ false) × (is_entry f.cont ≡ false)
unfolding pick
neither-kind f g below e =
    let a = not (is_coro f.cont) in
    let b = not (is_entry f.cont) in
    let l = and_left (a && b) (body_last (g ∷ below)) e in
    (unnegate (is_coro f.cont) (and_left a b l), unnegate (is_entry f.cont) (and_right a b l))

body_is : (fs : List Frame) → body_last fs ≡ true → Body fs
unfolding pick
body_is fs e =
    record {
      some = λ h. no_false (subst (λ (z : List Frame). body_last z ≡ true) h e);
      first = λ f h. coro-is f.cont (at-end BodyLast body-down fs (f ∷ []) h (as-body fs e));
      no-coro = λ g f below h c. no_true (sym (ap is_coro c) ∙ (neither-kind g f below (at-end BodyLast body-down fs (g ∷ f ∷ below) h (as-body fs e))).0);
      no-entry = λ g f below h c. no_true (sym (ap is_entry c) ∙ (neither-kind g f below (at-end BodyLast body-down fs (g ∷ f ∷ below) h (as-body fs e))).1);
    }

is_body : (fs : List Frame) → Body fs → body_last fs ≡ true
unfolding pick
is_body [] b = absurd (b.some refl)
is_body (f ∷ []) b = ap is_coro (b.first f (whole (f ∷ [])))
is_body (f ∷ g ∷ fs) b =
    both
    (both (negate (refuted (is_coro f.cont) (λ e. b.no-coro f g fs (whole (f ∷ g ∷ fs)) (coro-is f.cont e))))
    (negate (refuted (is_entry f.cont) (λ e. b.no-entry f g fs (whole (f ∷ g ∷ fs)) (entry-is f.cont e)))))
    (is_body (g ∷ fs)
    (record {
      some = λ e. never cc;
      first = λ x h. b.first x (later f (g ∷ fs) (x ∷ []) h);
      no-coro = λ x y below h. b.no-coro x y below (later f (g ∷ fs) (x ∷ y ∷ below) h);
      no-entry = λ x y below h. b.no-entry x y below (later f (g ∷ fs) (x ∷ y ∷ below) h);
    }))

pub body-exactly : (fs : List Frame) → (body_last fs ≡ true) ↔ Body fs
body-exactly fs = (body_is fs, is_body fs)
