-- PEP 342: deletion, which is a hand over by the host and a close at a later charge. The table of PEP 342's sentences is docs/rules/PEP342.md.
use Rattle.std.specs.Prelude.{ℕ, ◌≡◌, Bool, true, false, not, ◌||◌, List, [], ◌∷◌, ◌++◌, None}
use Rattle.heap.specs.declared.fault.Fault.{Fault}
use Rattle.model.specs.Lists.{is_nil}
use Rattle.model.specs.Object.{Object}
use Rattle.model.specs.World.{World, after}
use Rattle.model.specs.Sound.{sound}
use Rattle.model.specs.Call.{Operation, typed}
use Rattle.model.specs.declared.machine.Driver.{Driver}
use Rattle.model.specs.declared.exec.Step.{Step}
use Rattle.model.specs.declared.call.Op.{Op}
use Rattle.model.specs.declared.call.Answer.{Answer}
use Rattle.claims_sheet.specs.Setters.{with_finalized, with_finalize, with_finalizing}
use Rattle.claims_sheet.specs.Lines.{Lines}
use Rattle.claims_sheet.specs.Does.{does, operation}
use Rattle.claims_sheet.specs.Words.{found, is_coroutine, core_of, rest_of, state, suspended}
use Rattle.claims_sheet.specs.Moves.{pc_stored, replaced, entered_closing}
use Rattle.claims_sheet.specs.Charging.{reserve, fuelled, used_up, searches, queue_from, taken, instruction}
use Rattle.claims_sheet.specs.Suspending.{cleaning}
use Rattle.claims_sheet.specs.Sheet.{table_of}

pub record Deletion : Type 0 where
  -- a suspended coroutine that nobody holds any more joins the cleanup queue ..
  pub hand-over : (w : World) (v : ℕ) (t : typed (Op.HandOver v) ≡ true) → sound w ≡ true → is_coroutine (found w v) ≡ true → suspended (state w v) ≡ true → (rest_of (found w v)).finalized ≡ false →
      does w (operation (Op.HandOver v) t)
      ≡ after (cleaning w.finalizing (replaced v (Object.Coro (core_of (found w v)) (with_finalized true (rest_of (found w v)))) (with_finalize (w.finalize ++ (v ∷ [])) w))) Answer.Accepted
  -- .. once; and others have nothing to close
  pub hand-over-refused : (w : World) (v : ℕ) (t : typed (Op.HandOver v) ≡ true) → sound w ≡ true → is_coroutine (found w v) ≡ true → not (suspended (state w v)) || (rest_of (found w v)).finalized ≡ true →
      does w (operation (Op.HandOver v) t) ≡ after w (Answer.Refused Fault.InvalidCoroState)
  -- the charge of a later instruction closes it: it is entered by the cleanup's driver, marked closing with nil, and nil is raised
  -- where it is suspended; the cleanup takes no unit
  pub cleanup-starts : (w : World) (o : Operation) (pc : ℕ) (ok : Bool) (own : World → Lines Step) (c : ℕ) (queue : List ℕ) → table_of o.op w ≡ instruction pc ok own w →
      sound w ≡ true → is_nil w.frames ≡ false → ok ≡ true → used_up w ≡ false → searches w ≡ true → queue_from (pc_stored pc w) w.finalize ≡ c ∷ queue →
      does w o
      ≡ after (fuelled (reserve w) None false (with_finalizing true (entered_closing 0 c Driver.Finalize (with_finalize queue (pc_stored pc w))))) (Answer.Cleanup (taken (pc_stored pc w) w.finalize))
