-- The test of a set-up is 01's closing list, and the machine that it leaves is fresh.
use Prim.Native.Nat.{ℕ, suc}
use mathlib.Core.Path.{refl}
use mathlib.Core.List.{List, [], ◌∷◌}
use Rattle.model.specs.Program.{Func}
use Rattle.model.specs.World.{function_objects}
use Rattle.model.proofs.ClosingList.{allowed, accepted}
use Rattle.claims_sheet.specs.SetUps.{Objects, SetUps}

objects : (n : ℕ) (fs : List Func) → Objects n fs (function_objects n fs)
objects n [] = tt
objects n (f ∷ fs) = (refl, refl, objects (suc n) fs)

pub set-ups : SetUps
set-ups =
    record {
      allowed = allowed;
      accepted = accepted;
      fresh = λ s. record {
        setup = refl;
        stack = refl;
        frames = refl;
        chain = refl;
        slots = objects 0 s.functions;
        ready = refl;
        finalize = refl;
        finalizing = refl;
        outcome = refl;
        used = refl;
        seq = refl;
        fuel = refl;
        bank = refl;
        cleanups = refl;
      };
    }
