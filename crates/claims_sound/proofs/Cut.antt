-- The frames of the innermost running coroutine, from its body up: lowered, they can be saved; the others stand.
use mathlib.Core.Path.{◌≡◌, refl, sym, ap, ◌∙◌, subst}
use mathlib.Core.Bool.{Bool, true, false, not, ◌||◌}
use mathlib.Core.List.{List, [], ◌∷◌, ◌++◌, map, append_assoc}
use Prim.Native.Nat.{ℕ, suc, ◌+◌, ◌-◌, ◌≤◌, ◌<◌}
use native.Mathlib.Nat.{le_refl}
use native.Mathlib.Omega.{arith}
use lib.ListN.{length, get_or, take, drop, length-append}
use lib.Seq.{take_at, drop_at, get_or_at}
use lib.Dec.{ltb}
use borrow.Author.Tests.{ltb-true, lt-ltb}
use Rattle.heap.specs.Word.{nil}
use Rattle.model.specs.Lists.{is_nil}
use Rattle.model.specs.Program.{Setup, func}
use Rattle.model.specs.Frames.{frame, is_entry, is_coro, lower, top_base, above, below, base_at}
use Rattle.model.specs.Sound.{lies_under, cont_lies, driver_lies}
use Rattle.model.specs.declared.machine.Cont.{Cont}
use Rattle.model.specs.declared.machine.Frame.{Frame}
use Rattle.model.specs.declared.machine.Active.{Active}
use Rattle.model.specs.declared.program.Handler.{Handler}
use Rattle.claims_sound.specs.Exact.{rooted}
use Rattle.claims_sound.proofs.Tests.{no_false, each-imp, or_else, unnegate, or_right}
use Rattle.claims_sound.proofs.Stand.{Fits, Stands, plain, body, Lifts, l-body, l-plain, catches}
use Rattle.claims_sound.proofs.Raise.{coro-lies, coro-rooted}

lowered-under : (r seam e : ℕ) (up : List Frame) (b : Frame) (low : List Frame) → lies_under r e (up ++ (b ∷ low)) ≡ true → seam ≤ top_base (up ++ (b ∷ low))
    → lies_under r (e - seam) (map (lower seam) (up ++ (b ∷ []))) ≡ true
lowered-under r seam e [] b low t h = lt-ltb (b.base - seam + r) (e - seam) (omega (arith, ltb-true (b.base + r) e t))
lowered-under r seam e (g ∷ up) b low t h = lt-ltb (g.base - seam + r) (e - seam) (omega (arith, ltb-true (g.base + r) e t))

lowered-lies : (c : Cont) (seam e : ℕ) (up : List Frame) (b : Frame) (low : List Frame) → cont_lies c e (up ++ (b ∷ low)) ≡ true → seam ≤ top_base (up ++ (b ∷ low))
    → cont_lies c (e - seam) (map (lower seam) (up ++ (b ∷ []))) ≡ true
lowered-lies Cont.Entry seam e up b low t h = refl
lowered-lies (Cont.Write r) seam e up b low t h = lowered-under r seam e up b low t h
lowered-lies (Cont.Dyn r) seam e up b low t h = lowered-under r seam e up b low t h
lowered-lies (Cont.Value r) seam e up b low t h = lowered-under r seam e up b low t h
lowered-lies Cont.Discard seam e up b low t h = refl
lowered-lies Cont.Coro seam e up b low t h = refl

not-nil : (up : List Frame) (b : Frame) (low : List Frame) → is_nil (up ++ (b ∷ low)) ≡ false
not-nil [] b low = refl
not-nil (g ∷ up) b low = refl

some-lower : (seam : ℕ) (up : List Frame) (b : Frame) → not (is_nil (map (lower seam) (up ++ (b ∷ [])))) ≡ true
some-lower seam [] b = refl
some-lower seam (g ∷ up) b = refl

top-lower : (seam : ℕ) (up : List Frame) (b : Frame) (low : List Frame) → top_base (map (lower seam) (up ++ (b ∷ []))) ≡ top_base (up ++ (b ∷ low)) - seam
top-lower seam [] b low = refl
top-lower seam (g ∷ up) b low = refl

-- the frames fs over n words: `up` and the body b of the coroutine a, over those below
pub record Cut (ex : Bool) (s : Setup) (n : ℕ) (fs : List Frame) (a : Active) (chain : List Active) : Type 0 where
  pub up : List Frame
  pub b : Frame
  pub low : List Frame
  pub split : fs ≡ up ++ (b ∷ low)
  pub floor : a.floor ≡ length low
  pub within : b.base ≤ n
  pub top : b.base ≤ top_base fs
  pub driver : driver_lies a.driver b.base low ≡ true
  pub lows : Stands ex s b.base low chain
  pub lifted : Lifts ex s (n - b.base) (map (lower b.base) (up ++ (b ∷ [])))

module _ (s : Setup) where
  lowered-catch : (seam n : ℕ) (f : Frame) → seam ≤ f.base → catches s n f ≡ true → catches s (n - seam) (lower seam f) ≡ true
  lowered-catch seam n f h t =
      each-imp (λ (x : Handler). ltb (f.base + x.catch) n) (λ (x : Handler). ltb (f.base - seam + x.catch) (n - seam))
      (λ x q. lt-ltb (f.base - seam + x.catch) (n - seam) (omega (arith, ltb-true (f.base + x.catch) n q))) (func s f.func).handlers t

  lowered-fits : {ex : Bool} (seam n : ℕ) (f : Frame) (fs ys : List Frame) → seam ≤ f.base → Fits ex s n f fs → cont_lies f.cont (f.base - seam) ys ≡ true → rooted f.cont ys ≡ true → Fits ex s (n - seam) (lower seam f) ys
  lowered-fits seam n f fs ys h t l b = record { within = omega (arith, t.within); named = t.named; lies = l; catch = lowered-catch seam n f h t.catch; wide = λ z. let e = t.wide z in omega arith; root = λ _. b }

  l_cons : {ex : Bool} {n : ℕ} {f : Frame} {fs : List Frame} → is_coro f.cont ≡ false → is_entry f.cont ≡ false → Fits ex s n f fs → Lifts ex s f.base fs → Lifts ex s n (f ∷ fs)
  l_cons q e t (l-body x y z) = l-plain q e t (l-body x y z)
  l_cons q e t (l-plain x y z r) = l-plain q e t (l-plain x y z r)

  pub cut : {ex : Bool} {n : ℕ} {fs : List Frame} {a : Active} {chain : List Active} → Stands ex s n fs (a ∷ chain) → Cut ex s n fs a chain
  cut {ex} {n} {fs} {a} {chain} (plain {f} {fs = gs} q e t r) = go (cut r)
    where
      go : Cut ex s f.base gs a chain → Cut ex s n (f ∷ gs) a chain
      go c =
          let t₀ = t.within in
          let c₀ = c.within in
          let l : cont_lies f.cont f.base (c.up ++ (c.b ∷ c.low)) ≡ true = subst (λ x. cont_lies f.cont f.base x ≡ true) c.split t.lies in
          let h : c.b.base ≤ top_base (c.up ++ (c.b ∷ c.low)) = subst (λ x. c.b.base ≤ top_base x) c.split c.top in
          let i : is_entry f.cont ≡ false =
          or_else (not (is_entry f.cont)) (is_nil gs) e (λ z. unnegate (is_entry f.cont) z)
          (λ z. no_false (sym (not-nil c.up c.b c.low) ∙ ap is_nil (sym c.split) ∙ z)) in
          record {
            up = f ∷ c.up;
            b = c.b;
            low = c.low;
            split = ap (λ x. f ∷ x) c.split;
            floor = c.floor;
            within = omega arith;
            top = c₀;
            driver = c.driver;
            lows = c.lows;
            lifted =
                l_cons {n = n - c.b.base} {f = lower c.b.base f} q i
                (lowered-fits c.b.base n f gs (map (lower c.b.base) (c.up ++ (c.b ∷ []))) c₀ t
                (lowered-lies f.cont c.b.base f.base c.up c.b c.low l h)
                (or_right (is_entry f.cont || is_coro f.cont) _ (some-lower c.b.base c.up c.b)))
                c.lifted;
          }
  cut {n} {fs} {a} {chain} (body {f} {fs = gs} q t k d r) =
      record {
        up = [];
        b = f;
        low = gs;
        split = refl;
        floor = k;
        within = t.within;
        top = le_refl f.base;
        driver = d;
        lows = r;
        lifted = l-body {n = n - f.base} {f = lower f.base f} q (omega arith) (lowered-fits f.base n f gs [] (le_refl f.base) t (coro-lies f.cont (f.base - f.base) [] q) (coro-rooted f.cont [] q));
      }

  module _ {ex : Bool} {n : ℕ} {fs : List Frame} {a : Active} {chain : List Active} (c : Cut ex s n fs a chain) where
    whole : fs ≡ (c.up ++ (c.b ∷ [])) ++ c.low
    whole = c.split ∙ sym (append_assoc c.up (c.b ∷ []) c.low)

    count : length (c.up ++ (c.b ∷ [])) ≡ length fs - a.floor
    count = let e = ap length c.split in let p = length-append c.up (c.b ∷ []) in let q = length-append c.up (c.b ∷ c.low) in let k = c.floor in omega arith

    pub above-cut : above a.floor fs ≡ c.up ++ (c.b ∷ [])
    above-cut = subst (λ (x : List Frame). take (length fs - a.floor) x ≡ c.up ++ (c.b ∷ [])) (sym whole) (take_at (c.up ++ (c.b ∷ [])) c.low (length fs - a.floor) count)

    pub below-cut : below a.floor fs ≡ c.low
    below-cut = subst (λ (x : List Frame). drop (length fs - a.floor) x ≡ c.low) (sym whole) (drop_at (c.up ++ (c.b ∷ [])) c.low (length fs - a.floor) count)

    pub base-cut : base_at a.floor fs ≡ c.b.base
    base-cut =
        let p : length c.up ≡ length fs - suc a.floor =
        let e = ap length c.split in let q = length-append c.up (c.b ∷ c.low) in let k = c.floor in omega arith in
        subst (λ (x : List Frame). (get_or x (length fs - suc a.floor) (frame 0 0 nil Cont.Discard)).base ≡ c.b.base) (sym c.split)
        (ap (λ (x : Frame). x.base) (get_or_at c.up c.b c.low (frame 0 0 nil Cont.Discard) (length fs - suc a.floor) p))

    pub top-cut : top_base (map (lower c.b.base) (c.up ++ (c.b ∷ []))) ≡ top_base fs - c.b.base
    top-cut = top-lower c.b.base c.up c.b c.low ∙ ap (λ x. top_base x - c.b.base) (sym c.split)

    -- a coroutine that runs has its body among the frames
    pub floor-below : a.floor < length fs
    floor-below = let e = ap length c.split in let q = length-append c.up (c.b ∷ c.low) in let k = c.floor in omega arith
