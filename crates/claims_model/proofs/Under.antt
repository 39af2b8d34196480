-- What lies below an entry of c: bs, bf and bc are the stack, the frames and the chain under it. While c runs they stay, and when
-- it yields, awaits or returns they are what is left, but for the delivery.
use Prim.Native.Nat.{ℕ, suc, ◌+◌, ◌-◌, ◌≤◌, ◌<◌}
use native.Mathlib.Omega.{arith}
use mathlib.Core.Path.{◌≡◌, refl, sym, ap, ◌∙◌, subst}
use mathlib.Core.Logic.{◌≢◌}
use mathlib.Core.Bool.{true, false}
use mathlib.Core.List.{List, [], ◌∷◌, ◌++◌, map}
use lib.ListN.{length, get_or, take, drop, length-take}
use lib.Seq.{take-set-le}
use Rattle.heap.specs.Word.{nil}
use Rattle.model.specs.Frames.{is_coro, frame, on_top, set_pc, step_pc, raise, below, base_at, put_at}
use Rattle.model.specs.Coro.{active}
use Rattle.model.specs.declared.machine.Cont.{Cont}
use Rattle.model.specs.declared.machine.Driver.{Driver}
use Rattle.model.specs.declared.machine.Active.{Active}
use Rattle.model.specs.declared.machine.Frame.{Frame}
use Rattle.claims_model.specs.Says.{Sent, nothing, gets, closes}
use Rattle.claims_model.proofs.Held.{Seat, frames_with}
use Rattle.claims_model.proofs.Shape.{Keeps, Apart}

-- saved frames: plain ones over one Coro frame at base 0
pub data Lift : List Frame → Type 0 where
  l-body : {f : Frame} → is_coro f.cont ≡ true → f.base ≡ 0 → Lift (f ∷ [])
  l-plain : {f : Frame} {fs : List Frame} → is_coro f.cont ≡ false → Lift fs → Lift (f ∷ fs)

lift-step : {fs : List Frame} → Lift fs → Lift (on_top step_pc fs)
lift-step (l-body e z) = l-body e z
lift-step (l-plain e l) = l-plain e l

pub lift-with : (sent : Sent) (s : Seat) → Lift s.frames → Lift (frames_with sent s)
lift-with nothing s l = l
lift-with (gets v) s l = lift-step l
lift-with (closes v) s l = l

pub keeps-pc : (p : ℕ) → Keeps (set_pc p)
keeps-pc p = record { base = λ f. refl; cont = λ f. refl }

pub keeps-step : Keeps step_pc
keeps-step = record { base = λ f. refl; cont = λ f. refl }

-- frames and chain over the body of c, under which stand the frames bf, the chain bc and n words
pub data Ext (c : ℕ) (d : Driver) (bf : List Frame) (bc : List Active) (n : ℕ) : List Frame → List Active → Type 0 where
  x-here : {f : Frame} → is_coro f.cont ≡ true → f.base ≡ n → Ext c d bf bc n (f ∷ bf) (active c (length bf) d ∷ bc)
  x-plain : {f : Frame} {fs : List Frame} {rs : List Active} → is_coro f.cont ≡ false → n ≤ f.base → Ext c d bf bc n fs rs → Ext c d bf bc n (f ∷ fs) rs
  x-coro : {f : Frame} {fs : List Frame} {a : Active} {rs : List Active} → is_coro f.cont ≡ true → n ≤ f.base → a.floor ≡ length fs → a.coro ≢ c → Ext c d bf bc n fs rs → Ext c d bf bc n (f ∷ fs) (a ∷ rs)

abbrev dummy : Frame
dummy = frame 0 0 nil Cont.Discard

pub below-cons : (floor : ℕ) (f : Frame) (fs : List Frame) → floor ≤ length fs → below floor (f ∷ fs) ≡ below floor fs
below-cons floor f fs h = ap (λ n. drop n (f ∷ fs)) go
  where
    go : suc (length fs) - floor ≡ suc (length fs - floor)
    go = omega arith

pub below-here : (f : Frame) (fs : List Frame) → below (length fs) (f ∷ fs) ≡ fs
below-here f fs = ap (λ n. drop n (f ∷ fs)) go
  where
    go : suc (length fs) - length fs ≡ 1
    go = omega arith

pub base-cons : (floor : ℕ) (f : Frame) (fs : List Frame) → floor < length fs → base_at floor (f ∷ fs) ≡ base_at floor fs
base-cons floor f fs h = ap (λ n. (get_or (f ∷ fs) n dummy).base) go
  where
    go : suc (length fs) - suc floor ≡ suc (length fs - suc floor)
    go = omega arith

pub base-here : (f : Frame) (fs : List Frame) → base_at (length fs) (f ∷ fs) ≡ f.base
base-here f fs = ap (λ n. (get_or (f ∷ fs) n dummy).base) go
  where
    go : suc (length fs) - suc (length fs) ≡ 0
    go = omega arith

module _ {c : ℕ} {d : Driver} {bf : List Frame} {bc : List Active} {n : ℕ} where
  pub ext_top : {g : Frame → Frame} → Keeps g → {fs : List Frame} {rs : List Active} → Ext c d bf bc n fs rs → Ext c d bf bc n (on_top g fs) rs
  ext_top {g} k (x-here {f} e b) = x-here (ap is_coro (k.cont f) ∙ e) (k.base f ∙ b)
  ext_top {g} k (x-plain {f} e b x) = x-plain {f = g f} (ap is_coro (k.cont f) ∙ e) (rw (k.base f) b) x
  ext_top {g} k (x-coro {f} e b q m x) = x-coro {f = g f} (ap is_coro (k.cont f) ∙ e) (rw (k.base f) b) q m x

  pub ext-put : (r v : ℕ) (s : List ℕ) {fs : List Frame} {rs : List Active} → Ext c d bf bc n fs rs → take n (put_at fs r v s) ≡ take n s
  ext-put r v s (x-here {f} e b) = take-set-le n s (f.base + r) v (omega arith)
  ext-put r v s (x-plain {f} e b x) = take-set-le n s (f.base + r) v (omega arith)
  ext-put r v s (x-coro {f} e b q m x) = take-set-le n s (f.base + r) v (omega arith)

  ext-floor : {fs : List Frame} {a : Active} {rs : List Active} → Ext c d bf bc n fs (a ∷ rs) → a.floor < length fs
  ext-floor (x-here e b) = omega arith
  ext-floor (x-plain e b x) = omega (arith, ext-floor x)
  ext-floor (x-coro e b q m x) = omega arith

  -- the frames of an entry over c
  pub ext-join : {h : ℕ} {up fs : List Frame} {a : Active} {rs : List Active} → Lift up → n ≤ h → a.floor ≡ length fs → a.coro ≢ c → Ext c d bf bc n fs rs → Ext c d bf bc n (map (raise h) up ++ fs) (a ∷ rs)
  ext-join {h} (l-body {f} e z) b q m x = x-coro {f = raise h f} e (omega arith) q m x
  ext-join {h} (l-plain {f} e l) b q m x = x-plain {f = raise h f} e (omega arith) (ext-join l b q m x)

  -- c stands in the chain
  pub ext-in : {fs : List Frame} {rs : List Active} {A : Type 0} → Ext c d bf bc n fs rs → Apart c rs → A
  ext-in (x-here e b) m = absurd (m.0 refl)
  ext-in (x-plain e b x) m = ext-in x m
  ext-in (x-coro e b q y x) m = ext-in x m.1

-- the innermost coroutine a goes: it is c, or c stays below it
pub data CutFate (c : ℕ) (d : Driver) (bf : List Frame) (bc : List Active) (n : ℕ) (fs : List Frame) (a : Active) (rs : List Active) : Type 0 where
  c-left : a.coro ≡ c → a.driver ≡ d → rs ≡ bc → below a.floor fs ≡ bf → base_at a.floor fs ≡ n → CutFate c d bf bc n fs a rs
  c-stays : a.coro ≢ c → Ext c d bf bc n (below a.floor fs) rs → n ≤ base_at a.floor fs → CutFate c d bf bc n fs a rs

pub ext_cut : {c : ℕ} {d : Driver} {bf : List Frame} {bc : List Active} {n : ℕ} {fs : List Frame} {a : Active} {rs : List Active} → Ext c d bf bc n fs (a ∷ rs) → CutFate c d bf bc n fs a rs
ext_cut {bf = bf} (x-here {f} e b) = c-left refl refl refl (below-here f bf) (base-here f bf ∙ b)
ext_cut {c} {d} {bf} {bc} {n} {a = a} {rs = rs} (x-plain {f} {fs} e b x) = go (ext_cut x)
  where
    lt : a.floor < length fs
    lt = ext-floor x

    go : CutFate c d bf bc n fs a rs → CutFate c d bf bc n (f ∷ fs) a rs
    go (c-left p q r s t) = c-left p q r (below-cons a.floor f fs (omega (arith, lt)) ∙ s) (base-cons a.floor f fs lt ∙ t)
    go (c-stays m y l) = c-stays m (subst (λ z. Ext c d bf bc n z rs) (sym (below-cons a.floor f fs (omega (arith, lt)))) y) (subst (λ z. n ≤ z) (sym (base-cons a.floor f fs lt)) l)
ext_cut {c} {d} {bf} {bc} {n} (x-coro {f} {fs} {a} {rs} e b q m x) =
    c-stays m (subst (λ z. Ext c d bf bc n z rs) (sym (ap (λ y. below y (f ∷ fs)) q ∙ below-here f fs)) x) (subst (λ z. n ≤ z) (sym (ap (λ y. base_at y (f ∷ fs)) q ∙ base-here f fs)) b)

pub words-le : (bs s : List ℕ) → take (length bs) s ≡ bs → length bs ≤ length s
words-le bs s h = omega (arith, length-take (length bs) s, ap length h)
