-- Frames over n words, and the chain beside them, as relations: `Stands` of those on the stack, `Lifts` of saved ones.
use mathlib.Core.Path.{◌≡◌, refl, sym, ◌∙◌, subst}
use mathlib.Core.Bool.{Bool, true, false, not, ◌&&◌, ◌||◌}
use mathlib.Core.List.{List, [], ◌∷◌}
use Prim.Native.Nat.{ℕ, ◌+◌, ◌≤◌}
use native.Mathlib.Omega.{arith}
use lib.ListN.{length}
use lib.Dec.{eqb, ltb, leb}
use borrow.Author.Tests.{leb-true, le-leb, eqb-true, eq-eqb}
use Rattle.lists.specs.Pick.{pick_true, pick-false}
use Rattle.model.specs.Lists.{is_nil, each}
use Rattle.model.specs.Program.{Setup, func}
use Rattle.model.specs.Frames.{is_entry, is_coro}
use Rattle.model.specs.Sound.{bases_ok, frame_names, cont_lies, conts_lie, catches_lie, frames_over, entry_last, beside, matches, driver_lies, body_last}
use Rattle.model.specs.declared.machine.Cont.{Cont}
use Rattle.model.specs.declared.machine.Frame.{Frame}
use Rattle.model.specs.declared.machine.Active.{Active}
use Rattle.claims_sound.specs.Exact.{rooted, exact}
use Rattle.claims_sound.proofs.Tests.{no_false, and_left, and_right, both, unnegate, negate}

-- the catch registers of a frame's function lie below n
abbrev pub catches : Setup → ℕ → Frame → Bool
catches s n f = each (λ h. ltb (f.base + h.catch) n) (func s f.func).handlers

-- the frame f, over fs, ends at word n; if `ex` (exact), it is as wide as its function, and Entry or Coro at the bottom
pub record Fits (ex : Bool) (s : Setup) (n : ℕ) (f : Frame) (fs : List Frame) : Type 0 where
  pub within : f.base ≤ n
  pub named : frame_names s f ≡ true
  pub lies : cont_lies f.cont f.base fs ≡ true
  pub catch : catches s n f ≡ true
  pub wide : ex ≡ true → n ≡ f.base + (func s f.func).regs
  pub root : ex ≡ true → rooted f.cont fs ≡ true

pub data Stands (ex : Bool) (s : Setup) : ℕ → List Frame → List Active → Type 0 where
  ground : {n : ℕ} → n ≡ 0 → Stands ex s n [] []
  plain : {n : ℕ} {f : Frame} {fs : List Frame} {chain : List Active} → is_coro f.cont ≡ false → (not (is_entry f.cont) || is_nil fs) ≡ true → Fits ex s n f fs
      → Stands ex s f.base fs chain → Stands ex s n (f ∷ fs) chain
  body : {n : ℕ} {f : Frame} {fs : List Frame} {a : Active} {chain : List Active} → is_coro f.cont ≡ true → Fits ex s n f fs → a.floor ≡ length fs
      → driver_lies a.driver f.base fs ≡ true → Stands ex s f.base fs chain → Stands ex s n (f ∷ fs) (a ∷ chain)

pub data Lifts (ex : Bool) (s : Setup) : ℕ → List Frame → Type 0 where
  l-body : {n : ℕ} {f : Frame} → is_coro f.cont ≡ true → f.base ≡ 0 → Fits ex s n f [] → Lifts ex s n (f ∷ [])
  l-plain : {n : ℕ} {f g : Frame} {fs : List Frame} → is_coro f.cont ≡ false → is_entry f.cont ≡ false → Fits ex s n f (g ∷ fs) → Lifts ex s f.base (g ∷ fs)
      → Lifts ex s n (f ∷ g ∷ fs)

-- no more running coroutines than frames
pub chained : {ex : Bool} {s : Setup} {n : ℕ} {fs : List Frame} {chain : List Active} → Stands ex s n fs chain → length chain ≤ length fs
chained (ground e) = omega arith
chained (plain a b c d) = let h = chained d in omega arith
chained (body a b c d e) = let h = chained e in omega arith

-- ---- from the tests

abbrev pub floor_test : Frame → List Frame → Active → Bool
floor_test f fs a = eqb a.floor (length fs)

abbrev pub driver_test : Frame → List Frame → Active → Bool
driver_test f fs a = driver_lies a.driver f.base fs

module _ (s : Setup) where
  fits : {ex : Bool} (n : ℕ) (f : Frame) (fs : List Frame) → bases_ok n (f ∷ fs) ≡ true → each (frame_names s) (f ∷ fs) ≡ true → conts_lie (f ∷ fs) ≡ true → catches_lie s n (f ∷ fs) ≡ true → (ex ≡ true → exact s n (f ∷ fs) ≡ true) → Fits ex s n f fs
  fits n f fs b m c t y =
      record {
        within = leb-true f.base n (and_left (leb f.base n) (bases_ok f.base fs) b);
        named = and_left (frame_names s f) (each (frame_names s) fs) m;
        lies = and_left (cont_lies f.cont f.base fs) (conts_lie fs) c;
        catch = and_left (catches s n f) (catches_lie s f.base fs) t;
        wide = λ z. eqb-true n (f.base + (func s f.func).regs) (and_left (eqb n (f.base + (func s f.func).regs)) (rooted f.cont fs) (and_left (eqb n (f.base + (func s f.func).regs) && rooted f.cont fs) (exact s f.base fs) (y z)));
        root = λ z. and_right (eqb n (f.base + (func s f.func).regs)) (rooted f.cont fs) (and_left (eqb n (f.base + (func s f.func).regs) && rooted f.cont fs) (exact s f.base fs) (y z));
      }

  pub stands : {ex : Bool} (n : ℕ) (fs : List Frame) (chain : List Active) → bases_ok n fs ≡ true → each (frame_names s) fs ≡ true → conts_lie fs ≡ true → catches_lie s n fs ≡ true → (ex ≡ true → exact s n fs ≡ true)
      → entry_last fs ≡ true → matches floor_test fs chain ≡ true → matches driver_test fs chain ≡ true → Stands ex s n fs chain
  stands n [] [] b m c t y e k d = ground (eqb-true n 0 b)
  stands n [] (a ∷ chain) b m c t y e k d = no_false k
  stands {ex} n (f ∷ fs) chain b m c t y e k d =
      go (is_coro f.cont) refl chain k d
      (λ ch k' d'. stands f.base fs ch (and_right (leb f.base n) _ b) (and_right (frame_names s f) _ m) (and_right (cont_lies f.cont f.base fs) _ c)
      (and_right (catches s n f) _ t) (λ z. and_right (eqb n (f.base + (func s f.func).regs) && rooted f.cont fs) _ (y z)) (and_right (not (is_entry f.cont) || is_nil fs) _ e) k' d')
    where
      go : (q : Bool) → is_coro f.cont ≡ q → (ch : List Active) → beside q floor_test f fs ch (matches floor_test fs) ≡ true → beside q driver_test f fs ch (matches driver_test fs) ≡ true
          → ((ch' : List Active) → matches floor_test fs ch' ≡ true → matches driver_test fs ch' ≡ true → Stands ex s f.base fs ch') → Stands ex s n (f ∷ fs) ch
      go false q ch k' d' next = plain q (and_left (not (is_entry f.cont) || is_nil fs) (entry_last fs) e) (fits n f fs b m c t y) (next ch k' d')
      go true q [] k' d' next = no_false k'
      go true q (a ∷ ch) k' d' next =
          body q (fits n f fs b m c t y) (eqb-true a.floor (length fs) (and_left (floor_test f fs a) (matches floor_test fs ch) k'))
          (and_left (driver_test f fs a) (matches driver_test fs ch) d') (next ch (and_right (floor_test f fs a) _ k') (and_right (driver_test f fs a) _ d'))

  -- ---- and back

  pub bases-of : {ex : Bool} {n : ℕ} {fs : List Frame} {chain : List Active} → Stands ex s n fs chain → bases_ok n fs ≡ true
  bases-of {n} (ground z) = eq-eqb n 0 z
  bases-of {n} (plain {f} q e t r) = both (le-leb f.base n t.within) (bases-of r)
  bases-of {n} (body {f} q t k d r) = both (le-leb f.base n t.within) (bases-of r)

  pub names_of : {ex : Bool} {n : ℕ} {fs : List Frame} {chain : List Active} → Stands ex s n fs chain → each (frame_names s) fs ≡ true
  names_of (ground z) = refl
  names_of (plain q e t r) = both t.named (names_of r)
  names_of (body q t k d r) = both t.named (names_of r)

  pub conts-of : {ex : Bool} {n : ℕ} {fs : List Frame} {chain : List Active} → Stands ex s n fs chain → conts_lie fs ≡ true
  conts-of (ground z) = refl
  conts-of (plain q e t r) = both t.lies (conts-of r)
  conts-of (body q t k d r) = both t.lies (conts-of r)

  pub catches-of : {ex : Bool} {n : ℕ} {fs : List Frame} {chain : List Active} → Stands ex s n fs chain → catches_lie s n fs ≡ true
  catches-of (ground z) = refl
  catches-of (plain q e t r) = both t.catch (catches-of r)
  catches-of (body q t k d r) = both t.catch (catches-of r)

  pub widths-of : {n : ℕ} {fs : List Frame} {chain : List Active} → Stands true s n fs chain → exact s n fs ≡ true
  widths-of (ground z) = refl
  widths-of {n} (plain {f} q e t r) = both (both (eq-eqb n (f.base + (func s f.func).regs) (t.wide refl)) (t.root refl)) (widths-of r)
  widths-of {n} (body {f} q t k d r) = both (both (eq-eqb n (f.base + (func s f.func).regs) (t.wide refl)) (t.root refl)) (widths-of r)

  coro-no-entry : (c : Cont) (b : Bool) → is_coro c ≡ true → (not (is_entry c) || b) ≡ true
  coro-no-entry Cont.Entry b e = no_false e
  coro-no-entry (Cont.Write r) b e = refl
  coro-no-entry (Cont.Dyn r) b e = refl
  coro-no-entry (Cont.Value r) b e = refl
  coro-no-entry Cont.Discard b e = refl
  coro-no-entry Cont.Coro b e = refl

  pub entry_of : {ex : Bool} {n : ℕ} {fs : List Frame} {chain : List Active} → Stands ex s n fs chain → entry_last fs ≡ true
  entry_of (ground z) = refl
  entry_of (plain q e t r) = both e (entry_of r)
  entry_of (body {f} {fs} q t k d r) = both (coro-no-entry f.cont (is_nil fs) q) (entry_of r)

  pub floors-of : {ex : Bool} {n : ℕ} {fs : List Frame} {chain : List Active} → Stands ex s n fs chain → matches floor_test fs chain ≡ true
  floors-of (ground z) = refl
  floors-of {chain} (plain {f} {fs} q e t r) = subst (λ b. beside b floor_test f fs chain (matches floor_test fs) ≡ true) (sym q) (floors-of r)
  floors-of (body {f} {fs} {a} {chain} q t k d r) =
      subst (λ b. beside b floor_test f fs (a ∷ chain) (matches floor_test fs) ≡ true) (sym q) (both (eq-eqb a.floor (length fs) k) (floors-of r))

  pub drivers-of : {ex : Bool} {n : ℕ} {fs : List Frame} {chain : List Active} → Stands ex s n fs chain → matches driver_test fs chain ≡ true
  drivers-of (ground z) = refl
  drivers-of {chain} (plain {f} {fs} q e t r) = subst (λ b. beside b driver_test f fs chain (matches driver_test fs) ≡ true) (sym q) (drivers-of r)
  drivers-of (body {f} {fs} {a} {chain} q t k d r) =
      subst (λ b. beside b driver_test f fs (a ∷ chain) (matches driver_test fs) ≡ true) (sym q) (both d (drivers-of r))

  -- ---- saved frames

  pub lifts : {ex : Bool} (n : ℕ) (fs : List Frame) → body_last fs ≡ true → bases_ok n fs ≡ true → each (frame_names s) fs ≡ true → conts_lie fs ≡ true → catches_lie s n fs ≡ true → (ex ≡ true → exact s n fs ≡ true) → Lifts ex s n fs
  lifts n [] l b m c t y = no_false l
  lifts n (f ∷ []) l b m c t y = l-body (sym (pick_true _ _) ∙ l) (eqb-true f.base 0 (and_right (leb f.base n) _ b)) (fits n f [] b m c t y)
  lifts n (f ∷ g ∷ fs) l b m c t y =
      let l' : (not (is_coro f.cont) && not (is_entry f.cont) && body_last (g ∷ fs)) ≡ true = sym (pick-false _ _) ∙ l in
      let l'' : (not (is_coro f.cont) && not (is_entry f.cont)) ≡ true = and_left (not (is_coro f.cont) && not (is_entry f.cont)) (body_last (g ∷ fs)) l' in
      l-plain (unnegate (is_coro f.cont) (and_left (not (is_coro f.cont)) _ l'')) (unnegate (is_entry f.cont) (and_right (not (is_coro f.cont)) _ l'')) (fits n f (g ∷ fs) b m c t y)
      (lifts f.base (g ∷ fs) (and_right (not (is_coro f.cont) && not (is_entry f.cont)) _ l') (and_right (leb f.base n) _ b) (and_right (frame_names s f) _ m)
      (and_right (cont_lies f.cont f.base (g ∷ fs)) _ c) (and_right (catches s n f) _ t) (λ z. and_right (eqb n (f.base + (func s f.func).regs) && rooted f.cont (g ∷ fs)) _ (y z)))

  pub last_of : {ex : Bool} {n : ℕ} {fs : List Frame} → Lifts ex s n fs → body_last fs ≡ true
  last_of (l-body q z t) = pick_true _ _ ∙ q
  last_of (l-plain q e t r) = pick-false _ _ ∙ both (both (negate q) (negate e)) (last_of r)

  pub over-of : {ex : Bool} {n : ℕ} {fs : List Frame} → Lifts ex s n fs → frames_over s n fs ≡ true
  over-of {n} (l-body {f} q z t) =
      both (both (both (both (le-leb f.base n t.within) (eq-eqb f.base 0 z)) (both t.named refl)) (both t.lies refl)) (both t.catch refl)
  over-of {n} (l-plain {f} {g} {fs} q e t r) = go (over-of r)
    where
      go : frames_over s f.base (g ∷ fs) ≡ true → frames_over s n (f ∷ g ∷ fs) ≡ true
      go h =
          let abc : (bases_ok f.base (g ∷ fs) && each (frame_names s) (g ∷ fs) && conts_lie (g ∷ fs)) ≡ true =
          and_left (bases_ok f.base (g ∷ fs) && each (frame_names s) (g ∷ fs) && conts_lie (g ∷ fs)) (catches_lie s f.base (g ∷ fs)) h in
          let ab : (bases_ok f.base (g ∷ fs) && each (frame_names s) (g ∷ fs)) ≡ true = and_left (bases_ok f.base (g ∷ fs) && each (frame_names s) (g ∷ fs)) (conts_lie (g ∷ fs)) abc in
          both
          (both
          (both (both (le-leb f.base n t.within) (and_left (bases_ok f.base (g ∷ fs)) _ ab)) (both t.named (and_right (bases_ok f.base (g ∷ fs)) _ ab)))
          (both t.lies (and_right (bases_ok f.base (g ∷ fs) && each (frame_names s) (g ∷ fs)) _ abc)))
          (both t.catch (and_right (bases_ok f.base (g ∷ fs) && each (frame_names s) (g ∷ fs) && conts_lie (g ∷ fs)) _ h))

  pub widths-saved : {ex : Bool} {n : ℕ} {fs : List Frame} → Lifts ex s n fs → ex ≡ true → exact s n fs ≡ true
  widths-saved {n} (l-body {f} q z t) e = both (both (eq-eqb n (f.base + (func s f.func).regs) (t.wide e)) (t.root e)) refl
  widths-saved {n} (l-plain {f} q i t r) e = both (both (eq-eqb n (f.base + (func s f.func).regs) (t.wide e)) (t.root e)) (widths-saved r e)
