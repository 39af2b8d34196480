-- PEP 342: what this machine does otherwise, over more than one call. The table of departures is docs/rules/PEP342.md.
use Rattle.std.specs.Prelude.{ℕ, ◌-◌, ◌≡◌, Bool, true, false, ◌&&◌, List, [], ◌∷◌, ◌++◌, drop, Option, None}
use Rattle.heap.specs.declared.fault.Fault.{Fault}
use Rattle.heap.specs.declared.object.CoroState.{CoroState}
use Rattle.model.specs.Lists.{is_nil, among}
use Rattle.model.specs.World.{World, after}
use Rattle.model.specs.Sound.{sound}
use Rattle.model.specs.Call.{Operation, typed}
use Rattle.model.specs.declared.machine.Active.{Active}
use Rattle.model.specs.declared.machine.Cont.{Cont}
use Rattle.model.specs.declared.machine.Driver.{Driver}
use Rattle.model.specs.declared.machine.Frame.{Frame}
use Rattle.model.specs.declared.exec.Step.{Step}
use Rattle.model.specs.declared.call.Op.{Op}
use Rattle.model.specs.declared.call.Answer.{Answer}
use Rattle.claims_sheet.specs.Setters.{with_chain}
use Rattle.claims_sheet.specs.Lines.{Lines}
use Rattle.claims_sheet.specs.Does.{does, operation}
use Rattle.claims_sheet.specs.Words.{found, is_coroutine, rest_of, state, suspended, too_high}
use Rattle.claims_sheet.specs.Moves.{pc_stored, sent, finished_with}
use Rattle.claims_sheet.specs.Charging.{fuelled, used_up, bank_back, searches, queue_from, starts, charged, instruction}
use Rattle.claims_sheet.specs.Endings.{popped}
use Rattle.claims_sheet.specs.Unwinding.{takers, own_signal}
use Rattle.claims_sheet.specs.Sheet.{table_of, lie}
use Rattle.claims_sheet.specs.Answers.{is_instruction}
use Rattle.claims_sheet.specs.Pep342.{at, held, enters, any_suspended, Passes}
use Rattle.claims_sheet.specs.Pep342Ends.{thrown, Comes}

-- ---- a close that awaited

pub record Later : Type 0 where
  -- a coroutine that awaited inside its close is still closing once it is resumed, with its signal
  pub still-closing : (pc dst c src : ℕ) (w : World) → Passes pc dst c src w → (t : typed (Op.Resume pc dst c src) ≡ true) →
      let v = held c pc w in let u = (does w (operation (Op.Resume pc dst c src) t)).world in
      enters any_suspended v (at pc w) ≡ true → ((rest_of (found u v)).closing ≡ (rest_of (found (at pc w) v)).closing) × ((rest_of (found u v)).signal ≡ (rest_of (found (at pc w) v)).signal)

pub record Escaped : Type 0 where
  -- where it then lets the signal escape, who resumed it last gets nil and a step
  pub signal-later : (e : Fault) (pc : Option ℕ) (w : World) (t : typed (Op.Unwind e pc) ≡ true) (above : List Frame) (x : Frame) (xs : List Frame) (u : World) → Comes e pc w above x xs u →
      (a : Active) (chain : List Active) (dst : ℕ) → is_nil (takers x u) ≡ true → x.cont ≡ Cont.Coro → u.chain ≡ a ∷ chain → a.driver ≡ Driver.Resume dst → own_signal u.chain (thrown e pc w) u ≡ true →
      does w (operation (Op.Unwind e pc) t) ≡ after (sent dst 0 (finished_with a.coro CoroState.Returned 0 (with_chain chain (popped x xs u)))) Answer.Stopped

-- ---- cleanups that do not come

pub record Missed : Type 0 where
  -- a coroutine that was handed over, and does not fit when a charge searches, is off the queue and as it was; a hand over again is 3
  pub never-closed : (w : World) (pc dst c : ℕ) (t : typed (Op.CoroCurrent pc dst) ≡ true) (s : typed (Op.HandOver c) ≡ true) →
      sound w ≡ true → is_nil w.frames ≡ false → lie (dst ∷ []) w ≡ true → used_up w ≡ false → searches w ≡ true → w.finalize ≡ c ∷ [] →
      is_coroutine (found w c) ≡ true → (rest_of (found w c)).finalized ≡ true → too_high (pc_stored pc w) c ≡ true →
      let u = (does w (operation (Op.CoroCurrent pc dst) t)).world in
      (u.finalize ≡ []) × (found u c ≡ found w c) × (sound u ≡ true → does u (operation (Op.HandOver c) s) ≡ after u (Answer.Refused Fault.InvalidCoroState))
  -- a suspended coroutine of the queue that a charge comes to, no word before it can be closed, and that does not fit: after the call, whichever instruction it is and
  -- whether or not a cleanup behind it starts, it is off the queue and as it was; a hand over again is 3
  pub never-passed : (w : World) (o : Operation) (pc : ℕ) (ok : Bool) (own : World → Lines Step) (before : List ℕ) (c : ℕ) (behind : List ℕ) (t : typed (Op.HandOver c) ≡ true) →
      is_instruction o.op ≡ true → table_of o.op w ≡ instruction pc ok own w → sound w ≡ true → is_nil w.frames ≡ false → ok ≡ true → used_up w ≡ false → searches w ≡ true →
      let z = pc_stored pc w in w.finalize ≡ before ++ (c ∷ behind) → is_nil (queue_from z before) ≡ true → suspended (state z c) ≡ true → too_high z c ≡ true → let u = (does w o).world in
      (u.finalize ≡ drop 1 (queue_from z behind)) × (among c u.finalize ≡ false) × (found u c ≡ found w c)
      × (sound u ≡ true → does u (operation (Op.HandOver c) t) ≡ after u (Answer.Refused Fault.InvalidCoroState))
  -- a 10 takes the bank back, and the queue stays ..
  pub spent : (w : World) (o : Operation) (pc : ℕ) (ok : Bool) (own : World → Lines Step) → table_of o.op w ≡ instruction pc ok own w →
      sound w ≡ true → is_nil w.frames ≡ false → ok ≡ true → used_up w ≡ true → does w o ≡ after (bank_back w) (Answer.Stepped (Step.Fault Fault.OutOfFuel) 0)
  -- .. and without a bank a charge takes a unit, and neither starts a cleanup nor touches the queue
  pub unarmed : (w : World) (pc : ℕ) → w.fuel.bank ≡ None → used_up w ≡ false → (starts pc w ≡ false) × (charged pc w ≡ fuelled (w.fuel.fuel - 1) None w.fuel.ready w)
