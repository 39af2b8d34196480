-- 01: "reports how many queue words it took off": the count in an instruction's answer is the cleanup queue's loss, and the
-- number of words that the search for a cleanup looks at.
use Rattle.std.specs.Prelude.{ℕ, ◌+◌, ◌≡◌, Bool, true, not, ◌&&◌, length}
use Rattle.lists.specs.Pick.{pick}
use Rattle.model.specs.Lists.{is_nil}
use Rattle.model.specs.World.{World}
use Rattle.model.specs.Sound.{sound}
use Rattle.model.specs.Answer.{taken_off}
use Rattle.model.specs.Call.{Do, Operation}
use Rattle.model.specs.Step.{step}
use Rattle.model.specs.declared.exec.Step.{Step}
use Rattle.claims_sheet.specs.Lines.{Lines}
use Rattle.claims_sheet.specs.Moves.{pc_stored}
use Rattle.claims_sheet.specs.Charging.{used_up, searches, taken, instruction}
use Rattle.claims_sheet.specs.Sheet.{table_of}
use Rattle.claims_sheet.specs.Answers.{is_instruction}

pub record Queue : Type 0 where
  -- the queue's loss; no instruction puts a word on that queue
  pub loss : (w : World) (o : Operation) → is_instruction o.op ≡ true → length w.finalize ≡ taken_off (step w (Do o)).answer + length (step w (Do o)).world.finalize
  -- one word after another, up to the first that can be closed
  pub count : (w : World) (o : Operation) (pc : ℕ) (ok : Bool) (own : World → Lines Step) → table_of o.op w ≡ instruction pc ok own w →
      taken_off (step w (Do o)).answer ≡ pick (sound w && (not (is_nil w.frames) && (ok && (not (used_up w) && searches w)))) (taken (pc_stored pc w) w.finalize) 0
