-- No line of the table is dead: for each call, machines at which it stops at each of its lines, one after the other, by computation.
-- All but one are reached by calls from a set-up.
use Rattle.std.specs.Prelude.{ℕ, zero, suc, ◌-◌, ◌^◌, ◌≡◌, List, [], ◌∷◌, length, Some, None}
use Rattle.lists.specs.Pick.{pick}
use Rattle.heap.specs.declared.fault.Fault.{Fault}
use Rattle.heap.specs.declared.heap.ResultKind.{ResultKind}
use Rattle.model.specs.World.{World}
use Rattle.model.specs.declared.machine.Cont.{Cont}
use Rattle.model.specs.declared.call.Op.{Op}
use Rattle.model.specs.declared.call.Answer.{Answer}
use Rattle.claims_sheet.specs.Lines.{Line}
use Rattle.claims_sheet.specs.Sheet.{sheet}
use Rattle.claims_sheet.specs.SmallRuns.{small, f0, c, reached, begun, holding, running, yielded, ignoring, looping, itself, tall, given_key, hooked, little_memory, few_slots, wide, run, holding_function, nameless, deeper, converting, closed, throws_nil}

-- ---- the line that stops a call: how many tests it passes

abbrev pub passed_in : List (Line Answer) → ℕ
passed_in [] = 0
passed_in (t ∷ ts) = pick t.stops 0 (suc (passed_in ts))

abbrev pub passed : World → Op → ℕ
passed w o = passed_in (sheet o w).tests

-- all lines of a call's table from the k-th on, the last being what is done
abbrev pub count_up : ℕ → ℕ → List ℕ
count_up k zero = []
count_up k (suc n) = k ∷ count_up (suc k) n

abbrev pub lines_from : ℕ → World → Op → List ℕ
lines_from k w o = count_up k (suc (length (sheet o w).tests) - k)

pub record Attained : Type 0 where
  -- 11, 12, 13, 10, a cleanup; these five stand before the lines of every instruction
  pub gate : passed (reached (small 0 8 4096 None) []) (Op.CoroCurrent 1 0) ∷ passed (run []) (Op.CoroCurrent 1 0) ∷ passed (run (begun 9 [])) (Op.CoroCurrent 1 6) ∷ passed (run (begun 0 [])) (Op.CoroCurrent 1 0)
      ∷ passed (run (yielded 1 (Op.HandOver c ∷ []))) (Op.CoroCurrent 4 0) ∷ passed (run (begun 9 [])) (Op.CoroCurrent 1 0) ∷ [] ≡ lines_from 0 (run []) (Op.CoroCurrent 1 0)
  -- 9, 14, 9
  pub coro-new : passed (little_memory 151 (begun 9 [])) (Op.CoroNew 1 0 1 0) ∷ passed (few_slots 4 (begun 9 [])) (Op.CoroNew 1 0 1 0) ∷ passed (little_memory 207 (begun 9 [])) (Op.CoroNew 1 0 1 0) ∷ passed (run (begun 9 [])) (Op.CoroNew 1 0 1 0) ∷ []
      ≡ lines_from 5 (run []) (Op.CoroNew 1 0 1 0)
  pub rows_taken : passed (reached (small 1 8 4096 None) (holding 1 [])) (Op.CoroNew 2 1 1 0) ≡ 6
  -- 1, 2, 2, 2, 9, 14, 9
  pub coro-new-indirect : passed (run (begun 9 [])) (Op.CoroNewIndirect 1 0 0 0) ∷ passed (run (holding 1 [])) (Op.CoroNewIndirect 1 0 0 0) ∷ passed (nameless (run holding_function)) (Op.CoroNewIndirect 1 0 0 0)
      ∷ passed (run holding_function) (Op.CoroNewIndirect 1 0 0 3) ∷ passed (little_memory 143 holding_function) (Op.CoroNewIndirect 1 0 0 0) ∷ passed (few_slots 4 holding_function) (Op.CoroNewIndirect 1 0 0 0) ∷ passed (little_memory 199 holding_function) (Op.CoroNewIndirect 1 0 0 0)
      ∷ passed (run holding_function) (Op.CoroNewIndirect 1 0 0 0) ∷ [] ≡ lines_from 5 (run []) (Op.CoroNewIndirect 1 0 0 0)
  -- 8, 1, 2, 2, 2, 9, 14, 9, 10, 4
  pub spawn : passed (run holding_function) (Op.Spawn 1 0 0 0) ∷ passed (hooked 0 (begun 9 [])) (Op.Spawn 1 0 0 0) ∷ passed (hooked 0 (holding 1 [])) (Op.Spawn 1 0 0 0) ∷ passed (nameless (hooked 0 holding_function)) (Op.Spawn 1 0 0 0)
      ∷ passed (hooked 0 holding_function) (Op.Spawn 1 0 0 3) ∷ passed (reached (small 2 8 143 (Some 0)) holding_function) (Op.Spawn 1 0 0 0) ∷ passed (reached (small 2 4 4096 (Some 0)) holding_function) (Op.Spawn 1 0 0 0)
      ∷ passed (reached (small 2 8 199 (Some 0)) holding_function) (Op.Spawn 1 0 0 0) ∷ passed (hooked 0 (begun 1 (Op.PutWord 0 f0 ∷ []))) (Op.Spawn 1 0 0 0) ∷ passed (hooked 2 holding_function) (Op.Spawn 1 0 0 0)
      ∷ passed (hooked 0 holding_function) (Op.Spawn 1 0 0 0) ∷ [] ≡ lines_from 5 (run []) (Op.Spawn 1 0 0 0)
  -- 5, 7, 9, 14, 9, 6
  pub yield : passed (run (begun 9 [])) (Op.Yield 8 0 0) ∷ passed (run (given_key (2 ^ 63 - 1))) (Op.Yield 8 0 0) ∷ passed (little_memory 300 (given_key (2 ^ 47))) (Op.Yield 8 0 0) ∷ passed (few_slots 6 (given_key (2 ^ 47))) (Op.Yield 8 0 0)
      ∷ passed (little_memory 208 deeper) (Op.Yield 8 0 0) ∷ passed (run (ignoring [])) (Op.Yield 60 0 0) ∷ passed (run (running 1 [])) (Op.Yield 8 0 0) ∷ [] ≡ lines_from 5 (run []) (Op.Yield 8 0 0)
  -- 5, 9, 6; 5, 9, 2
  pub yield-kv : passed (run (begun 9 [])) (Op.YieldKv 8 0 0 0) ∷ passed (little_memory 208 deeper) (Op.YieldKv 8 0 0 0) ∷ passed (run (ignoring [])) (Op.YieldKv 60 0 0 1) ∷ passed (run (running 1 [])) (Op.YieldKv 8 0 0 0) ∷ []
      ≡ lines_from 5 (run []) (Op.YieldKv 8 0 0 0)
  pub await : passed (run (begun 9 [])) (Op.Await 8 0 0) ∷ passed (little_memory 208 deeper) (Op.Await 8 0 0) ∷ passed (run (looping [])) (Op.Await 8 0 0) ∷ passed (run (running 1 [])) (Op.Await 8 0 0) ∷ [] ≡ lines_from 5 (run []) (Op.Await 8 0 0)
  -- 1, 2, 3, 4
  pub resume : passed (run (begun 9 [])) (Op.Resume 2 1 0 2) ∷ passed (run holding_function) (Op.Resume 2 1 0 2) ∷ passed (run itself) (Op.Resume 4 1 0 1) ∷ passed (run (holding 2 [])) (Op.Resume 2 1 0 2) ∷ passed (run (holding 1 [])) (Op.Resume 2 1 0 2) ∷ []
      ≡ lines_from 5 (run []) (Op.Resume 2 1 0 2)
  -- 1, 2, 17 at a new one, 3, 4
  pub resume-throw : passed (run (begun 9 [])) (Op.ResumeThrow 2 1 0 2) ∷ passed (run holding_function) (Op.ResumeThrow 2 1 0 2) ∷ passed (run (holding 1 [])) (Op.ResumeThrow 2 1 0 2) ∷ passed (run itself) (Op.ResumeThrow 4 1 0 1)
      ∷ passed (run tall) (Op.ResumeThrow 3 0 0 0) ∷ passed (run (yielded 1 [])) (Op.ResumeThrow 3 1 0 2) ∷ [] ≡ lines_from 5 (run []) (Op.ResumeThrow 2 1 0 2)
  -- 1, 2, 3, 0 of a new one, 0 of a finished one, 4
  pub coro-close : passed (run (begun 9 [])) (Op.CoroClose 2 1 0 2) ∷ passed (run holding_function) (Op.CoroClose 2 1 0 2) ∷ passed (run itself) (Op.CoroClose 4 1 0 1) ∷ passed (run (holding 1 [])) (Op.CoroClose 2 1 0 2)
      ∷ passed (run (running 1 (Op.Finish ResultKind.Dyn 7 ∷ []))) (Op.CoroClose 3 1 0 2) ∷ passed (run tall) (Op.CoroClose 3 0 0 0) ∷ passed (run (yielded 1 [])) (Op.CoroClose 3 1 0 2) ∷ [] ≡ lines_from 5 (run []) (Op.CoroClose 2 1 0 2)
  -- 1, 2
  pub coro-status : passed (run (begun 9 [])) (Op.CoroStatus 2 1 0) ∷ passed (run holding_function) (Op.CoroStatus 2 1 0) ∷ passed (run (holding 1 [])) (Op.CoroStatus 2 1 0) ∷ [] ≡ lines_from 5 (run []) (Op.CoroStatus 2 1 0)
  pub coro-key : passed (run (begun 9 [])) (Op.CoroKey 2 1 0) ∷ passed (run holding_function) (Op.CoroKey 2 1 0) ∷ passed (run (holding 1 [])) (Op.CoroKey 2 1 0) ∷ [] ≡ lines_from 5 (run []) (Op.CoroKey 2 1 0)
  -- 1, 2, 3
  pub coro-result : passed (run (begun 9 [])) (Op.CoroResult 2 1 0) ∷ passed (run holding_function) (Op.CoroResult 2 1 0) ∷ passed (run (holding 1 [])) (Op.CoroResult 2 1 0) ∷ passed (run (running 1 (Op.Finish ResultKind.Dyn 7 ∷ []))) (Op.CoroResult 3 1 0) ∷ []
      ≡ lines_from 5 (run []) (Op.CoroResult 2 1 0)
  -- 1, 2, 0 where the loop ends, 2 of one that awaits, 3, 4
  pub iter-next : passed (run (begun 9 [])) (Op.IterNext 2 2 1 3 0) ∷ passed (run holding_function) (Op.IterNext 2 2 1 3 0) ∷ passed (run (running 1 (Op.Finish ResultKind.Dyn 7 ∷ []))) (Op.IterNext 3 2 1 3 0)
      ∷ passed (run (running 1 (Op.Await 8 0 0 ∷ []))) (Op.IterNext 3 2 1 3 0) ∷ passed (run itself) (Op.IterNext 4 1 1 1 0) ∷ passed (run (holding 2 [])) (Op.IterNext 2 2 1 3 0) ∷ passed (run (holding 1 [])) (Op.IterNext 2 2 1 3 0) ∷ []
      ≡ lines_from 5 (run []) (Op.IterNext 2 2 1 3 0)
  -- 7, 9, 14: through Dyn, and of a body
  pub finish : passed (run converting) (Op.Finish ResultKind.U64 (2 ^ 63)) ∷ passed (little_memory 55 converting) (Op.Finish ResultKind.I64 (2 ^ 47)) ∷ passed (few_slots 4 converting) (Op.Finish ResultKind.I64 (2 ^ 47))
      ∷ passed (run converting) (Op.Finish ResultKind.I64 (2 ^ 47)) ∷ [] ≡ lines_from 1 (run converting) (Op.Finish ResultKind.I64 0)
  pub finish-body : passed (run (running 1 [])) (Op.Finish ResultKind.U64 (2 ^ 63)) ∷ passed (little_memory 208 (running 1 [])) (Op.Finish ResultKind.I64 (2 ^ 47)) ∷ passed (few_slots 5 (running 1 [])) (Op.Finish ResultKind.I64 (2 ^ 47))
      ∷ passed (run (running 1 [])) (Op.Finish ResultKind.Dyn 7) ∷ [] ≡ lines_from 1 (run (running 1 [])) (Op.Finish ResultKind.I64 0)
  -- 11, a 9 that passes, 9, 14; in the top frame 10, caught, 17 out of the host's, its own signal, a failure to the host; then the next frame's
  pub unwind : passed (run []) (Op.Unwind Fault.Full None) ∷ passed (run []) (Op.Unwind Fault.OutOfMemory None) ∷ passed (little_memory 55 (begun 9 [])) (Op.Unwind Fault.TypeError None) ∷ passed (few_slots 4 (begun 9 [])) (Op.Unwind Fault.TypeError None)
      ∷ passed (run (Op.HostCall 3 ∷ [])) throws_nil ∷ passed (run (Op.Grant 9 ∷ Op.HostCall 3 ∷ [])) throws_nil ∷ passed (run (begun 9 [])) throws_nil ∷ passed (run closed) throws_nil ∷ passed (run (holding 1 (Op.StopRun ∷ Op.HostEntry c 0 ∷ []))) throws_nil ∷ []
      ≡ count_up 1 9
  pub unwind-on : passed (run (running 1 [])) throws_nil ∷ passed (run []) throws_nil ∷ [] ≡ 12 ∷ 5 ∷ []
  pub spawn-task : passed (run []) (Op.SpawnTask 0) ∷ passed (run (holding 1 [])) (Op.SpawnTask c) ∷ [] ≡ lines_from 1 (run []) (Op.SpawnTask c)
  -- 15, 13, 4
  pub host-call : passed (run (begun 9 [])) (Op.HostCall 0) ∷ passed (run []) (Op.HostCall 4) ∷ passed (reached wide []) (Op.HostCall 1) ∷ passed (run []) (Op.HostCall 0) ∷ [] ≡ lines_from 1 (run []) (Op.HostCall 0)
  -- 15, 1, 2, 3, 4
  pub host-entry : passed (run (begun 9 [])) (Op.HostEntry c 0) ∷ passed (run []) (Op.HostEntry 0 0) ∷ passed (run []) (Op.HostEntry f0 0) ∷ passed (run (holding 1 (Op.CoroClose 2 1 0 2 ∷ Op.StopRun ∷ []))) (Op.HostEntry c 0)
      ∷ passed (reached wide (Op.Grant 9 ∷ Op.HostCall 0 ∷ Op.CoroNew 1 0 1 0 ∷ Op.StopRun ∷ [])) (Op.HostEntry 0x1_0000_0000_0002 0) ∷ passed (run (holding 1 (Op.StopRun ∷ []))) (Op.HostEntry c 0) ∷ [] ≡ lines_from 1 (run []) (Op.HostEntry c 0)
  -- 12, 13, 4
  pub function-call : passed (run []) (Op.FunctionCall 1 0 Cont.Discard) ∷ passed (run (begun 9 [])) (Op.FunctionCall 1 0 Cont.Entry) ∷ passed (run (begun 9 [])) (Op.FunctionCall 1 2 Cont.Discard) ∷ passed (run (begun 9 [])) (Op.FunctionCall 1 0 Cont.Discard) ∷ []
      ≡ lines_from 1 (run []) (Op.FunctionCall 1 0 Cont.Discard)
  pub put_word : passed (run []) (Op.PutWord 0 1) ∷ passed (run (begun 9 [])) (Op.PutWord 6 1) ∷ passed (run (begun 9 [])) (Op.PutWord 0 1) ∷ [] ≡ lines_from 1 (run []) (Op.PutWord 0 1)
  -- 1, 2, 9, 14
  pub make-iterator : passed (run []) (Op.MakeIterator 0) ∷ passed (run []) (Op.MakeIterator f0) ∷ passed (little_memory 208 (holding 1 [])) (Op.MakeIterator c) ∷ passed (few_slots 5 (holding 1 [])) (Op.MakeIterator c) ∷ passed (run (holding 1 [])) (Op.MakeIterator c) ∷ []
      ≡ lines_from 1 (run []) (Op.MakeIterator c)
  pub take-outcome : passed (run []) Op.TakeOutcome ∷ [] ≡ lines_from 1 (run []) Op.TakeOutcome
  -- 1, 2, 3
  pub hand-over : passed (run []) (Op.HandOver 0) ∷ passed (run []) (Op.HandOver f0) ∷ passed (run (yielded 1 (Op.HandOver c ∷ []))) (Op.HandOver c) ∷ passed (run (yielded 1 [])) (Op.HandOver c) ∷ [] ≡ lines_from 1 (run []) (Op.HandOver c)
  pub grant : passed (run (Op.Grant 1 ∷ [])) (Op.Grant (2 ^ 64 - 1)) ∷ passed (run []) (Op.Grant 1) ∷ [] ≡ lines_from 1 (run []) (Op.Grant 1)
  pub stop-run : passed (run (running 1 [])) Op.StopRun ∷ [] ≡ lines_from 1 (run []) Op.StopRun
  pub look : passed (run []) Op.Look ∷ [] ≡ lines_from 1 (run []) Op.Look
