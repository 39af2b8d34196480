-- On a sound machine the innermost running coroutine's body is a frame.
use Prim.Native.Nat.{ℕ, suc, ◌<◌, ◌≤◌}
use mathlib.Core.Path.{◌≡◌, refl, sym, subst}
use mathlib.Core.Bool.{Bool, true, false, false≢true}
use mathlib.Core.List.{List, [], ◌∷◌}
use native.Mathlib.Omega.{arith}
use lib.ListN.{length}
use lib.Dec.{eqb, leb, leb→le, T}
use Rattle.model.specs.World.{World}
use Rattle.model.specs.Frames.{is_coro}
use Rattle.model.specs.Sound.{beside, matches, floors_ok, sound}
use Rattle.model.specs.declared.machine.Active.{Active}
use Rattle.model.specs.declared.machine.Frame.{Frame}
use Rattle.claims_sheet.proofs.Rules.{floors}
use Rattle.claims_sheet.proofs.Among.{same, and_left}

abbrev pub stuck : List Active → List Frame → Bool
stuck [] fs = true
stuck (a ∷ chain) fs = leb (length fs) a.floor

under : (fs : List Frame) (a : Active) (chain : List Active) → matches (λ f fs a. eqb a.floor (length fs)) fs (a ∷ chain) ≡ true → a.floor < length fs
under [] a chain h = absurd (false≢true h)
under (f ∷ fs) a chain h = go (is_coro f.cont) (under fs a chain) h
  where
    go : (b : Bool) → (matches (λ f fs a. eqb a.floor (length fs)) fs (a ∷ chain) ≡ true → a.floor < length fs) →
        beside b (λ f fs a. eqb a.floor (length fs)) f fs (a ∷ chain) (matches (λ f fs a. eqb a.floor (length fs)) fs) ≡ true → a.floor < suc (length fs)
    go true more k =
        let e : a.floor ≡ length fs = same a.floor (length fs) (and_left _ (matches (λ f fs a. eqb a.floor (length fs)) fs chain) k) in
        omega arith
    go false more k =
        let l : a.floor < length fs = more k in
        omega arith

pub not-le : (m n : ℕ) → n < m → leb m n ≡ false
not-le m n h = go (leb m n) refl
  where
    go : (b : Bool) → leb m n ≡ b → b ≡ false
    go true e =
        let l : m ≤ n = leb→le m n (subst (λ x. T x) (sym e) tt) in
        absurd (omega arith)
    go false e = refl

by_chain : (w : World) (chain : List Active) → matches (λ f fs a. eqb a.floor (length fs)) w.frames chain ≡ true → (a : Active) (rest : List Active) → chain ≡ a ∷ rest → stuck (a ∷ rest) w.frames ≡ false
by_chain w chain h a rest e = not-le (length w.frames) a.floor (under w.frames a rest (subst (λ c. matches (λ f fs a. eqb a.floor (length fs)) w.frames c ≡ true) e h))

pub not_stuck : (w : World) → sound w ≡ true → (a : Active) (rest : List Active) → w.chain ≡ a ∷ rest → stuck (a ∷ rest) w.frames ≡ false
unfolding floors_ok
not_stuck w h a rest e = by_chain w w.chain (floors w h) a rest e
