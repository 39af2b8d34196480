-- The registers of a driver that lie in the top frame of a world lie in the words. Assumes nothing.
use mathlib.Core.Path.{◌≡◌, sym, ap, ◌∙◌, subst}
use mathlib.Core.Bool.{true}
use mathlib.Core.List.{List, [], ◌∷◌}
use Prim.Native.Nat.{ℕ, ◌*◌, ◌^◌, ◌≤◌, ◌<◌}
use native.Mathlib.Omega.{arith}
use lib.ListN.{length}
use borrow.Author.Tests.{ltb-true}
use Rattle.heap.specs.Heap.{TableFits}
use Rattle.model.specs.Frames.{top_pc}
use Rattle.model.specs.Sound.{lies_under, driver_lies}
use Rattle.model.specs.declared.machine.Driver.{Driver}
use Rattle.model.specs.declared.machine.Frame.{Frame}
use Rattle.claims_sound.proofs.Tests.{no_false, and_left, and_right}
use Rattle.memory_tables.specs.Layout.{frame_words}
use Rattle.memory_tables.specs.Parts.{Stack, Frames}
use Rattle.memory_tables.specs.Does.{RegFits}
use Rattle.memory_tables.proofs.Codes.{length-frame}
use Rattle.memory_tables.proofs.Parts.{top-get}
use Rattle.memory_tables.proofs.Doing.{reg-fits}
use Rattle.memory_world.specs.declared.machine.Machine.{Machine}
use Rattle.machine_state.specs.Send.{SendFits}
use Rattle.coro_end.specs.Deliver.{DriverFits}

module _ (xs stack frames : List ℕ) (height depth r : ℕ) (s : Stack xs stack height) where
  lies-reg : (fs : List Frame) → Frames fs frames depth → lies_under r (length xs) fs ≡ true → RegFits stack frames height depth r
  lies-reg [] p e = no_false e
  lies-reg (f ∷ fs) p e = reg-fits xs (f ∷ fs) stack frames height depth r s p (omega arith) (ltb-true _ (length xs) e)

  lies-send : (fs : List Frame) → Frames fs frames depth → lies_under r (length xs) fs ≡ true → top_pc fs < 2 ^ 32 → SendFits stack frames height depth r
  lies-send [] p e h = no_false e
  lies-send (f ∷ fs) p e h =
      record { reg = lies-reg (f ∷ fs) p e; pc = subst (λ z. z < 2 ^ 32) (sym (top-get frame_words 6 length-frame f fs frames depth p 1 (omega arith))) h }

-- what a delivery asks, from a world whose top frame is the driver's
pub driver-fits : (xs : List ℕ) (fs : List Frame) (stack frames slots : List ℕ) (m : Machine) (d : Driver) → Stack xs stack m.height → Frames fs frames m.depth
    → TableFits slots m.count → driver_lies d (length xs) fs ≡ true → top_pc fs < 2 ^ 32 → DriverFits stack frames slots m d
driver-fits xs fs stack frames slots m d s p n e h =
    record {
      resumes = λ dst q. lies-send xs stack frames m.height m.depth dst s fs p (ap (λ x. driver_lies x (length xs) fs) (sym q) ∙ e) h;
      iterates = λ has val iter q.
          let z = ap (λ x. driver_lies x (length xs) fs) (sym q) ∙ e in
          record {
            table = n;
            flag = lies-send xs stack frames m.height m.depth has s fs p (and_left (lies_under has (length xs) fs) (lies_under val (length xs) fs) z) h;
            word = lies-reg xs stack frames m.height m.depth val s fs p (and_right (lies_under has (length xs) fs) (lies_under val (length xs) fs) z);
          };
    }
