-- The tests of the chain beside the frames say yes exactly if their rules of `WellFormed` hold. Assumes nothing.
use mathlib.Core.Logic.{◌↔◌}
use mathlib.Core.Path.{◌≡◌, refl, sym, ap, ◌∙◌, subst}
use mathlib.Core.Bool.{Bool, true, false, ◌&&◌}
use mathlib.Core.List.{List, [], ◌∷◌, ◌++◌}
use Prim.Native.Nat.{ℕ, zero, suc, ◌≤◌, ◌<◌}
use native.Mathlib.Omega.{arith}
use lib.Dec.{eqb}
use lib.ListN.{length}
use borrow.Author.Tests.{eqb-true, eq-eqb}
use Rattle.lists.proofs.Tests.{never}
use Rattle.model.specs.World.{World}
use Rattle.model.specs.Frames.{is_coro}
use Rattle.model.specs.Sound.{lies_under, beside, matches, floors_ok, driver_lies, drivers_ok}
use Rattle.model.specs.WellFormed.{At, ◌∈◌, ◌ends_in◌, LiesBelow, driver_registers, Floors, Drivers}
use Rattle.model.specs.declared.machine.Cont.{Cont}
use Rattle.model.specs.declared.machine.Driver.{Driver}
use Rattle.model.specs.declared.machine.Active.{Active}
use Rattle.model.specs.declared.machine.Frame.{Frame}
use Rattle.model.proofs.Tests.{no_false, no_true, and_left, and_right, both}
use Rattle.model.proofs.Places.{later, whole, split, end_short}
use Rattle.model.proofs.FrameRules.{coro-is, lies-exactly, one_lies, none-lies}

-- ---- frames and chain, one Coro frame beside each active coroutine

abbrev Test : Type 0
Test = Frame → List Frame → Active → Bool

data Match (test : Test) : List Frame → List Active → Type 0 where
  none : Match test [] []
  plain : {f : Frame} {fs : List Frame} {chain : List Active} → is_coro f.cont ≡ false → Match test fs chain → Match test (f ∷ fs) chain
  coro : {f : Frame} {fs : List Frame} {a : Active} {chain : List Active} → is_coro f.cont ≡ true → test f fs a ≡ true → Match test fs chain
      → Match test (f ∷ fs) (a ∷ chain)

match-step : (test : Test) (f : Frame) (fs : List Frame) (b : Bool) → is_coro f.cont ≡ b
    → ((chain : List Active) → matches test fs chain ≡ true → Match test fs chain)
    → (chain : List Active) → beside b test f fs chain (matches test fs) ≡ true → Match test (f ∷ fs) chain
match-step test f fs false e rest chain h = plain e (rest chain h)
match-step test f fs true e rest [] h = no_false h
match-step test f fs true e rest (a ∷ chain) h =
    coro e (and_left (test f fs a) (matches test fs chain) h) (rest chain (and_right (test f fs a) (matches test fs chain) h))

matched : (test : Test) (fs : List Frame) (chain : List Active) → matches test fs chain ≡ true → Match test fs chain
matched test [] [] h = none
matched test [] (a ∷ chain) h = no_false h
matched test (f ∷ fs) chain h = match-step test f fs (is_coro f.cont) refl (λ rest q. matched test fs rest q) chain h

matching : {test : Test} {fs : List Frame} {chain : List Active} → Match test fs chain → matches test fs chain ≡ true
matching none = refl
matching {test} {chain = c} (plain {f = f} {fs = fs} e m) = subst (λ b. beside b test f fs c (matches test fs) ≡ true) (sym e) (matching m)
matching {test} (coro {f = f} {fs = fs} {a = a} {chain = c} e t m) = subst (λ b. beside b test f fs (a ∷ c) (matches test fs) ≡ true) (sym e) (both t (matching m))

-- ---- floors

abbrev floor_at : Test
floor_at f fs a = eqb a.floor (length fs)

abbrev Rises : List Active → Type 0
Rises chain = (b a : Active) (rest : List Active) → chain ends_in (b ∷ a ∷ rest) → a.floor < b.floor

abbrev CoroAt : List Frame → Active → Type 0
CoroAt fs a = (f : Frame) × (below : List Frame) × (fs ends_in (f ∷ below)) × (f.cont ≡ Cont.Coro) × (a.floor ≡ length below)

abbrev ActiveAt : List Active → List Frame → Type 0
ActiveAt chain below = (a : Active) × (a ∈ chain) × (a.floor ≡ length below)

nil-ends : {A : Type 0} {C : Type 0} (x : A) (xs : List A) → [] ends_in (x ∷ xs) → C
nil-ends {A} {C} x xs h = go h.0 h.1
  where
    go : (before : List A) → [] ≡ before ++ (x ∷ xs) → C
    go [] e = never cc
    go (y ∷ before) e = never cc

floor-below : {fs : List Frame} {chain : List Active} → Match floor_at fs chain → (i : ℕ) (a : Active) → At i a chain → a.floor < length fs
floor-below none i a h = absurd h
floor-below (plain e m) i a h = let r = floor-below m i a h in omega (arith, r)
floor-below (coro {fs = fs} {a = b} e t m) zero a h = let q = ap (λ (z : Active). z.floor) h in let p = eqb-true b.floor (length fs) t in omega arith
floor-below (coro e t m) (suc i) a h = let r = floor-below m i a h in omega (arith, r)

floors-rise : {fs : List Frame} {chain : List Active} → Match floor_at fs chain → Rises chain
floors-rise none b a rest h = nil-ends b (a ∷ rest) h
floors-rise (plain e m) b a rest h = floors-rise m b a rest h
floors-rise (coro {fs = fs} {a = c} {chain = chain} e t m) b a rest h =
    let p = eqb-true c.floor (length fs) t in
    split c b chain (a ∷ rest) h
    (λ q r. let l = floor-below m 0 a (subst (λ (z : List Active). At 0 a z) r refl) in let k = ap (λ (z : Active). z.floor) q in omega arith)
    (λ k. floors-rise m b a rest k)

floors-coro : {fs : List Frame} {chain : List Active} → Match floor_at fs chain → (i : ℕ) (a : Active) → At i a chain → CoroAt fs a
floors-coro none i a h = absurd h
floors-coro (plain {f = f} {fs = fs} e m) i a h = let (g, below, k, c, l) = floors-coro m i a h in (g, below, later f fs (g ∷ below) k, c, l)
floors-coro (coro {f = f} {fs = fs} {a = b} e t m) zero a h = (f, fs, whole (f ∷ fs), coro-is f.cont e, ap (λ (z : Active). z.floor) h ∙ eqb-true b.floor (length fs) t)
floors-coro (coro {f = f} {fs = fs} e t m) (suc i) a h = let (g, below, k, c, l) = floors-coro m i a h in (g, below, later f fs (g ∷ below) k, c, l)

floors-all : {fs : List Frame} {chain : List Active} → Match floor_at fs chain → (f : Frame) (below : List Frame) → fs ends_in (f ∷ below) → f.cont ≡ Cont.Coro → ActiveAt chain below
floors-all none f below h c = nil-ends f below h
floors-all (plain {f = g} {fs = fs} e m) f below h c =
    split g f fs below h (λ q r. no_true (sym (ap is_coro c) ∙ ap (λ (z : Frame). is_coro z.cont) q ∙ e)) (λ k. floors-all m f below k c)
floors-all (coro {f = g} {fs = fs} {a = a} e t m) f below h c =
    split g f fs below h
    (λ q r. (a, (0, refl), eqb-true a.floor (length fs) t ∙ ap length (sym r)))
    (λ k. let r = floors-all m f below k c in (r.0, (suc r.1.0, r.1.1), r.2))

-- floors that rise: none passes that of the active coroutine on top
none-higher : (a : Active) (chain : List Active) → Rises (a ∷ chain) → (i : ℕ) (b : Active) → At i b chain → b.floor < a.floor
none-higher a [] q i b h = absurd h
none-higher a (c ∷ chain) q zero b h = let r = q a c chain (whole (a ∷ c ∷ chain)) in let k = ap (λ (z : Active). z.floor) h in omega arith
none-higher a (c ∷ chain) q (suc i) b h =
    let r = q a c chain (whole (a ∷ c ∷ chain)) in
    let l = none-higher c chain (λ x y rest k. q x y rest (later a (c ∷ chain) (x ∷ y ∷ rest) k)) i b h in
    omega arith

module _ (f : Frame) (fs : List Frame) where
  abbrev Rest : Type 0
  Rest = (chain : List Active) → Rises chain → ((a : Active) → a ∈ chain → CoroAt fs a)
      → ((g : Frame) (below : List Frame) → fs ends_in (g ∷ below) → g.cont ≡ Cont.Coro → ActiveAt chain below) → Match floor_at fs chain

  module _ (rest : Rest) where
    -- the frame is no Coro frame
    plain_step : (chain : List Active) → is_coro f.cont ≡ false → Rises chain → ((a : Active) → a ∈ chain → CoroAt (f ∷ fs) a)
        → ((g : Frame) (below : List Frame) → (f ∷ fs) ends_in (g ∷ below) → g.cont ≡ Cont.Coro → ActiveAt chain below) → Match floor_at (f ∷ fs) chain
    plain_step chain e rises at all =
        plain e
        (rest chain rises
        (λ a m. let (g, below, k, c, l) = at a m in split f g fs below k (λ q r. absurd (no_true (sym (ap is_coro c) ∙ ap (λ (z : Frame). is_coro z.cont) q ∙ e))) (λ j. (g, below, j, c, l)))
        (λ g below k c. all g below (later f fs (g ∷ below) k) c))

    -- it is one: the active coroutine on top has its floor there
    top-floor : (a : Active) (chain : List Active) → Rises (a ∷ chain) → CoroAt (f ∷ fs) a → ActiveAt (a ∷ chain) fs → a.floor ≡ length fs
    top-floor a chain rises at all =
        let (g, below, k, c, l) = at in
        let (b, m, q) = all in
        let s = end_short (f ∷ fs) (g ∷ below) k in
        let h = go b m.0 m.1 in
        omega arith
      where
        go : (b : Active) (i : ℕ) → At i b (a ∷ chain) → b.floor ≤ a.floor
        go b zero h = let k = ap (λ (z : Active). z.floor) h in omega arith
        go b (suc i) h = let k = none-higher a chain rises i b h in omega arith

    coro-step : (chain : List Active) → is_coro f.cont ≡ true → Rises chain → ((a : Active) → a ∈ chain → CoroAt (f ∷ fs) a)
        → ((g : Frame) (below : List Frame) → (f ∷ fs) ends_in (g ∷ below) → g.cont ≡ Cont.Coro → ActiveAt chain below) → Match floor_at (f ∷ fs) chain
    coro-step [] e rises at all = absurd (all f fs (whole (f ∷ fs)) (coro-is f.cont e)).1.1
    coro-step (a ∷ chain) e rises at all =
        let p = top-floor a chain rises (at a (0, refl)) (all f fs (whole (f ∷ fs)) (coro-is f.cont e)) in
        coro e (eq-eqb a.floor (length fs) p)
        (rest chain (λ x y z k. rises x y z (later a chain (x ∷ y ∷ z) k))
        (λ b m. let (g, below, k, c, l) = at b (suc m.0, m.1) in
        let n = none-higher a chain rises m.0 b m.1 in
        split f g fs below k (λ q r. let s = ap length r in absurd (omega arith)) (λ j. (g, below, j, c, l)))
        (λ g below k c. let (b, m, l) = all g below (later f fs (g ∷ below) k) c in other g below k b m.0 m.1 l p))
      where
        other : (g : Frame) (below : List Frame) → fs ends_in (g ∷ below) → (b : Active) (i : ℕ) → At i b (a ∷ chain) → b.floor ≡ length below → a.floor ≡ length fs → ActiveAt chain below
        other g below k b zero h l p = let s = end_short fs (g ∷ below) k in let q = ap (λ (z : Active). z.floor) h in absurd (omega arith)
        other g below k b (suc i) h l p = (b, (i, h), l)

    frame_step : (b : Bool) → is_coro f.cont ≡ b → (chain : List Active) → Rises chain → ((a : Active) → a ∈ chain → CoroAt (f ∷ fs) a)
        → ((g : Frame) (below : List Frame) → (f ∷ fs) ends_in (g ∷ below) → g.cont ≡ Cont.Coro → ActiveAt chain below) → Match floor_at (f ∷ fs) chain
    frame_step true e chain = coro-step chain e
    frame_step false e chain = plain_step chain e

floors-match : (fs : List Frame) (chain : List Active) → Rises chain → ((a : Active) → a ∈ chain → CoroAt fs a)
    → ((g : Frame) (below : List Frame) → fs ends_in (g ∷ below) → g.cont ≡ Cont.Coro → ActiveAt chain below) → Match floor_at fs chain
floors-match [] [] rises at all = none
floors-match [] (a ∷ chain) rises at all = let (g, below, k, c, l) = at a (0, refl) in nil-ends g below k
floors-match (f ∷ fs) chain rises at all = frame_step f fs (λ rest. floors-match fs rest) (is_coro f.cont) refl chain rises at all

pub floors-exactly : (w : World) → (floors_ok w ≡ true) ↔ Floors w
unfolding floors_ok
floors-exactly w = (
  λ e. let m = matched floor_at w.frames w.chain e in
      record { rise = floors-rise m; at-coro = λ a h. floors-coro m h.0 a h.1; no_other = floors-all m },
  λ q. matching (floors-match w.frames w.chain q.rise q.at-coro q.no_other),
)

-- ---- drivers

two-lie : (f : Frame) (below : List Frame) (r q : ℕ) → ((lies_under r f.base below && lies_under q f.base below) ≡ true) ↔ ((x : ℕ) → x ∈ r ∷ q ∷ [] → LiesBelow f below x)
two-lie f below r q = (
  λ e x h. go (and_left (lies_under r f.base below) (lies_under q f.base below) e) (and_right (lies_under r f.base below) (lies_under q f.base below) e) x h.0 h.1,
  λ h. both ((lies-exactly f below r).1 (h r (0, refl))) ((lies-exactly f below q).1 (h q (1, refl))),
)
  where
    go : lies_under r f.base below ≡ true → lies_under q f.base below ≡ true → (x i : ℕ) → At i x (r ∷ q ∷ []) → LiesBelow f below x
    go a b x zero e = subst (λ z. LiesBelow f below z) (sym e) ((lies-exactly f below r).0 a)
    go a b x (suc zero) e = subst (λ z. LiesBelow f below z) (sym e) ((lies-exactly f below q).0 b)
    go a b x (suc (suc i)) e = absurd e

pub driver-exactly : (d : Driver) (f : Frame) (below : List Frame) → (driver_lies d f.base below ≡ true) ↔ ((r : ℕ) → r ∈ driver_registers d → LiesBelow f below r)
driver-exactly (Driver.Resume r) f below = one_lies f below r
driver-exactly (Driver.Iter has val iter) f below = two-lie f below has val
driver-exactly Driver.Host f below = none-lies f below
driver-exactly Driver.Finalize f below = none-lies f below

abbrev driver_at : Test
driver_at f fs a = driver_lies a.driver f.base fs

abbrev DriversIn : List Frame → List Active → Type 0
DriversIn fs chain =
    (a : Active) (f : Frame) (below : List Frame) (r : ℕ) → a ∈ chain → fs ends_in (f ∷ below) → a.floor ≡ length below → r ∈ driver_registers a.driver → LiesBelow f below r

drivers-lie : {fs : List Frame} {chain : List Active} → Match floor_at fs chain → matches driver_at fs chain ≡ true
    → (a : Active) (f : Frame) (below : List Frame) (r i : ℕ) → At i a chain → fs ends_in (f ∷ below) → a.floor ≡ length below → r ∈ driver_registers a.driver → LiesBelow f below r
drivers-lie none e a f below r i m h l q = absurd m
drivers-lie {chain = chain} (plain {f = g} {fs = fs} p n) e a f below r i m h l q =
    let t : matches driver_at fs chain ≡ true = subst (λ b. beside b driver_at g fs chain (matches driver_at fs) ≡ true) p e in
    let k = floor-below n i a m in
    split g f fs below h (λ x y. let z = ap length y in absurd (omega arith)) (λ j. drivers-lie n t a f below r i m j l q)
drivers-lie (coro {f = g} {fs = fs} {a = b} {chain = chain} p s n) e a f below r zero m h l q =
    let t : (driver_at g fs b && matches driver_at fs chain) ≡ true = subst (λ x. beside x driver_at g fs (b ∷ chain) (matches driver_at fs) ≡ true) p e in
    let d = (driver-exactly b.driver g fs).0 (and_left (driver_at g fs b) (matches driver_at fs chain) t) in
    let k = eqb-true b.floor (length fs) s in
    let o = ap (λ (z : Active). z.floor) m in
    split g f fs below h
    (λ x y. subst (λ (z : List Frame). LiesBelow f z r) (sym y) (subst (λ (z : Frame). LiesBelow z fs r) (sym x) (d r (subst (λ (z : Active). r ∈ driver_registers z.driver) m q))))
    (λ j. let z = end_short fs (f ∷ below) j in absurd (omega arith))
drivers-lie (coro {f = g} {fs = fs} {a = b} {chain = chain} p s n) e a f below r (suc i) m h l q =
    let t : (driver_at g fs b && matches driver_at fs chain) ≡ true = subst (λ x. beside x driver_at g fs (b ∷ chain) (matches driver_at fs) ≡ true) p e in
    let k = floor-below n i a m in
    split g f fs below h (λ x y. let z = ap length y in absurd (omega arith)) (λ j. drivers-lie n (and_right (driver_at g fs b) (matches driver_at fs chain) t) a f below r i m j l q)

lie-drivers : {fs : List Frame} {chain : List Active} → Match floor_at fs chain → DriversIn fs chain → Match driver_at fs chain
lie-drivers none q = none
lie-drivers (plain {f = f} {fs = fs} e m) q = plain e (lie-drivers m (λ a g below r i h. q a g below r i (later f fs (g ∷ below) h)))
lie-drivers (coro {f = f} {fs = fs} {a = a} e t m) q =
    coro e ((driver-exactly a.driver f fs).1 (λ r h. q a f fs r (0, refl) (whole (f ∷ fs)) (eqb-true a.floor (length fs) t) h))
    (lie-drivers m (λ b g below r i h. q b g below r (suc i.0, i.1) (later f fs (g ∷ below) h)))

pub drivers-exactly : (w : World) → floors_ok w ≡ true → (drivers_ok w ≡ true) ↔ Drivers w
unfolding floors_ok drivers_ok
drivers-exactly w t =
    let m = matched floor_at w.frames w.chain t in
    (λ e a f below r h. drivers-lie m e a f below r h.0 h.1, λ q. matching (lie-drivers m q))
