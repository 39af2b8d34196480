-- The engines in which nobody is seen to be held as `Held` says it: a field of it refuses each.
use Prim.Native.Nat.{ℕ}
use native.Mathlib.Omega.{arith}
use mathlib.Core.Path.{◌≡◌, refl, sym, ap, ◌∙◌}
use mathlib.Core.Logic.{◌⊎◌, inl, inr}
use mathlib.Core.List.{List, [], ◌∷◌, ◌++◌, map}
use lib.ListN.{length, length-append}
use Rattle.model.specs.Call.{as_call}
use Rattle.model.specs.Compute.{computed}
use Rattle.model.specs.declared.machine.Cont.{Cont}
use Rattle.model.specs.declared.machine.Driver.{Driver}
use Rattle.model.specs.declared.machine.Active.{Active}
use Rattle.model.specs.declared.machine.Frame.{Frame}
use Rattle.model.specs.declared.call.Op.{Op}
use Rattle.claims_model.specs.Story.{c}
use Rattle.claims_model.specs.Witness.{frame}
use Rattle.claims_model.specs.Refuted.{RefutedOn, held, thirds, splits, linked}
use Rattle.claims_model.specs.Altered.{seeing}
use Rattle.claims_model.specs.WrongRestored as W
use Rattle.claims_model.specs.WrongRestored.{unchained, framed, discards}
use Rattle.claims_model.proofs.Places.{begun}
use Rattle.claims_model.proofs.WrongEntries.{code_of, some_one, one_of, next-entry-at}

held-frames : RefutedOn held thirds (λ e a g. (e.view a.s).frames ≡ g.0 ++ (g.1 ∷ g.2)) (λ e a r. r.frames) (seeing (framed (λ fs. [])))
unfolding computed begun
held-frames = (
  next-entry-at c begun (as_call (Op.Yield 8 3 1) refl) [] (as_call (Op.Resume 9 1 0 2) refl) refl refl refl refl refl,
  ([], frame 0 0 4 0 Cont.Coro, []),
  λ g h.
      let n = ap length h in let m = length-append g.0 (g.1 ∷ g.2) in
      absurd (omega (arith, n, m)),
)

held-its-own : RefutedOn held splits (λ e a g. g.body.cont ≡ Cont.Coro) (λ e a r. r.its_own) (seeing (framed (map discards)))
unfolding computed begun
held-its-own = (
  next-entry-at c begun (as_call (Op.Yield 8 3 1) refl) [] (as_call (Op.Resume 9 1 0 2) refl) refl refl refl refl refl,
  record { over = []; body = frame 0 0 4 0 Cont.Discard; under = frame 0 2 0 0 Cont.Discard ∷ []; frames = refl },
  λ g h.
      go g.body h (one_of g.over g.body g.under (frame 0 0 4 0 Cont.Discard) (frame 0 2 0 0 Cont.Discard) g.frames),
)
  where
    go : (b : Frame) → b.cont ≡ Cont.Coro → (b ≡ frame 0 0 4 0 Cont.Discard) ⊎ (b ≡ frame 0 2 0 0 Cont.Discard) → ⊥
    go b h (inl e) = let q : ◌≡◌ {A = ℕ} 4 5 = ap (λ f. code_of f.cont) (sym e) ∙ ap code_of h in absurd (omega (arith, q))
    go b h (inr e) = let q : ◌≡◌ {A = ℕ} 4 5 = ap (λ f. code_of f.cont) (sym e) ∙ ap code_of h in absurd (omega (arith, q))

held-chain : RefutedOn held linked (λ e a g. (e.view a.s).chain ≡ record { coro = a.c; floor = length g.0; driver = g.1 } ∷ g.2) (λ e a r. r.chain) (seeing unchained)
unfolding computed begun
held-chain = (
  next-entry-at c begun (as_call (Op.Yield 8 3 1) refl) [] (as_call (Op.Resume 9 1 0 2) refl) refl refl refl refl refl,
  ([], Driver.Host, []),
  λ g h.
      let n : ◌≡◌ {A = ℕ} 0 1 = ap (λ (l : List Active). some_one l) h in
      absurd (omega (arith, n)),
)

-- NONE OF THEM
pub refuted-held : W.RefutedHeld
refuted-held = record { frames = held-frames; its_own = held-its-own; chain = held-chain }
