-- Saved frames put on the stack: raised, over the frames that stand there.
use mathlib.Core.Path.{◌≡◌, refl, subst}
use mathlib.Core.Bool.{Bool, true, ◌||◌}
use mathlib.Core.List.{List, [], ◌∷◌, ◌++◌, map}
use Prim.Native.Nat.{ℕ, ◌+◌}
use native.Mathlib.Omega.{arith}
use lib.ListN.{length}
use lib.Dec.{ltb}
use borrow.Author.Tests.{ltb-true, lt-ltb}
use Rattle.model.specs.Program.{Setup, func}
use Rattle.model.specs.Frames.{is_coro, raise, is_entry}
use Rattle.model.specs.Sound.{cont_lies, driver_lies}
use Rattle.model.specs.declared.machine.Cont.{Cont}
use Rattle.model.specs.declared.machine.Frame.{Frame}
use Rattle.model.specs.declared.machine.Active.{Active}
use Rattle.model.specs.declared.program.Handler.{Handler}
use Rattle.claims_sound.specs.Exact.{rooted}
use Rattle.claims_sound.proofs.Tests.{no_false, each-imp, or_left, negate, or_right}
use Rattle.claims_sound.proofs.Stand.{Fits, Stands, plain, body, Lifts, l-body, l-plain, catches}

pub coro-lies : (c : Cont) (e : ℕ) (fs : List Frame) → is_coro c ≡ true → cont_lies c e fs ≡ true
coro-lies Cont.Entry e fs q = no_false q
coro-lies (Cont.Write r) e fs q = no_false q
coro-lies (Cont.Dyn r) e fs q = no_false q
coro-lies (Cont.Value r) e fs q = no_false q
coro-lies Cont.Discard e fs q = refl
coro-lies Cont.Coro e fs q = refl

pub coro-rooted : (c : Cont) (fs : List Frame) → is_coro c ≡ true → rooted c fs ≡ true
coro-rooted c fs q = or_left (is_entry c || is_coro c) _ (or_right (is_entry c) _ q)

pub raised-lies : (c : Cont) (h e : ℕ) (g : Frame) (fs ys : List Frame) → cont_lies c e (g ∷ fs) ≡ true → cont_lies c (e + h) (raise h g ∷ ys) ≡ true
raised-lies Cont.Entry h e g fs ys t = refl
raised-lies (Cont.Write r) h e g fs ys t = lt-ltb (g.base + h + r) (e + h) (omega (arith, ltb-true (g.base + r) e t))
raised-lies (Cont.Dyn r) h e g fs ys t = lt-ltb (g.base + h + r) (e + h) (omega (arith, ltb-true (g.base + r) e t))
raised-lies (Cont.Value r) h e g fs ys t = lt-ltb (g.base + h + r) (e + h) (omega (arith, ltb-true (g.base + r) e t))
raised-lies Cont.Discard h e g fs ys t = refl
raised-lies Cont.Coro h e g fs ys t = refl

module _ (s : Setup) where
  raised-catch : (h n : ℕ) (f : Frame) → catches s n f ≡ true → catches s (n + h) (raise h f) ≡ true
  raised-catch h n f t =
      each-imp (λ (x : Handler). ltb (f.base + x.catch) n) (λ (x : Handler). ltb (f.base + h + x.catch) (n + h))
      (λ x q. lt-ltb (f.base + h + x.catch) (n + h) (omega (arith, ltb-true (f.base + x.catch) n q))) (func s f.func).handlers t

  raised-fits : {ex : Bool} (h n : ℕ) (f : Frame) (fs ys : List Frame) → Fits ex s n f fs → cont_lies f.cont (f.base + h) ys ≡ true → rooted f.cont ys ≡ true → Fits ex s (n + h) (raise h f) ys
  raised-fits h n f fs ys t l b = record { within = omega (arith, t.within); named = t.named; lies = l; catch = raised-catch h n f t.catch; wide = λ z. let e = t.wide z in omega arith; root = λ _. b }

  pub enters : {ex : Bool} {n h : ℕ} {up fs : List Frame} {a : Active} {chain : List Active} → Lifts ex s n up → Stands ex s h fs chain → a.floor ≡ length fs → driver_lies a.driver h fs ≡ true
      → Stands ex s (n + h) (map (raise h) up ++ fs) (a ∷ chain)
  enters {ex} {n} {h} {up} {fs} {a} {chain} (l-body {f} q z t) r k d =
      let e : h ≡ f.base + h = omega arith in
      body q (raised-fits h n f [] fs t (coro-lies f.cont (f.base + h) fs q) (coro-rooted f.cont fs q)) k (subst (λ b. driver_lies a.driver b fs ≡ true) e d) (subst (λ b. Stands ex s b fs chain) e r)
  enters {n} {h} {up} {fs} {a} {chain} (l-plain {f} {g} {fs = gs} q e t l) r k d =
      plain q (or_left _ _ (negate e)) (raised-fits h n f (g ∷ gs) (raise h g ∷ (map (raise h) gs ++ fs)) t (raised-lies f.cont h f.base g gs (map (raise h) gs ++ fs) t.lies) (or_right (is_entry f.cont || is_coro f.cont) _ refl))
      (enters l r k d)
