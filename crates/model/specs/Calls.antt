-- THE TABLE of the calls: which pc and operands a call has, and what it does behind its gate.
use Rattle.std.specs.Prelude.{ℕ, Bool, true, ◌&&◌, [], ◌∷◌, Option}
use Rattle.heap.specs.declared.fault.Fault.{Fault}
use Rattle.model.specs.Program.{is_function}
use Rattle.model.specs.World.{World, After, and_then}
use Rattle.model.specs.Cleanup.{spawn_task}
use Rattle.model.specs.Machine.{finish}
use Rattle.model.specs.Exec.{coro_new, coro_new_indirect, spawn, yield, yield_kv, await, resume, resume_throw, coro_close, coro_status, coro_current, coro_key, coro_result, iter_next}
use Rattle.model.specs.Gate.{in_frame, all_in, window_in}
use Rattle.model.specs.Added.{answer_made, host_call, host_entry, cont_allowed, function_call, put_word, make_iterator, take_outcome, hand_over, stop_run}
use Rattle.model.specs.declared.exec.Step.{Step}
use Rattle.model.specs.declared.call.Op.{Op}
use Rattle.model.specs.declared.call.Answer.{Answer}

pub data Row : Type 0 where
  -- an instruction: its pc, whether its operands pass, and what it does once its charge is taken
  Instruction : ℕ → (World → Bool) → (World → After Step) → Row
  -- put word, function call: whether the operands pass, and what it does then
  OnFrame : (World → Bool) → (World → After Answer) → Row
  -- host call, host entry
  OnHost : (World → Bool) → (World → After Answer) → Row
  -- unwind: the fault, and the pc to store
  Unwinds : Fault → Option ℕ → Row
  -- grant: the sum may be too large
  Grants : ℕ → Row
  -- look: nothing is done
  Looks : Row
  -- no gate
  Other : (World → After Answer) → Row

abbrev pub table : Op → Row
table (Op.CoroNew pc dst f argc) = Instruction pc (λ w. in_frame w dst && window_in w dst argc && is_function w.setup f) (coro_new dst f argc)
table (Op.CoroNewIndirect pc dst callee argc) = Instruction pc (λ w. all_in (dst ∷ callee ∷ []) w && window_in w dst argc) (coro_new_indirect dst callee argc)
table (Op.Spawn pc dst callee argc) = Instruction pc (λ w. all_in (dst ∷ callee ∷ []) w && window_in w dst argc) (spawn pc dst callee argc)
table (Op.Yield pc dst src) = Instruction pc (all_in (dst ∷ src ∷ [])) (yield pc dst src)
table (Op.YieldKv pc dst src key) = Instruction pc (all_in (dst ∷ src ∷ key ∷ [])) (yield_kv pc dst src key)
table (Op.Await pc dst src) = Instruction pc (all_in (dst ∷ src ∷ [])) (await pc dst src)
table (Op.Resume pc dst c src) = Instruction pc (all_in (dst ∷ c ∷ src ∷ [])) (resume pc dst c src)
table (Op.ResumeThrow pc dst c src) = Instruction pc (all_in (dst ∷ c ∷ src ∷ [])) (resume_throw pc dst c src)
table (Op.CoroClose pc dst c src) = Instruction pc (all_in (dst ∷ c ∷ src ∷ [])) (coro_close pc dst c src)
table (Op.CoroStatus pc dst c) = Instruction pc (all_in (dst ∷ c ∷ [])) (coro_status dst c)
table (Op.CoroCurrent pc dst) = Instruction pc (all_in (dst ∷ [])) (coro_current dst)
table (Op.CoroKey pc dst c) = Instruction pc (all_in (dst ∷ c ∷ [])) (coro_key dst c)
table (Op.CoroResult pc dst c) = Instruction pc (all_in (dst ∷ c ∷ [])) (coro_result dst c)
table (Op.IterNext pc has iter val src) = Instruction pc (all_in (has ∷ iter ∷ val ∷ src ∷ [])) (iter_next pc has iter val src)
table (Op.Finish kind v) = Other (finish kind v)
table (Op.Unwind f pc) = Unwinds f pc
table (Op.SpawnTask v) = Other (λ w. and_then (spawn_task v w) answer_made)
table (Op.HostCall f) = OnHost (λ w. is_function w.setup f) (host_call f)
table (Op.HostEntry c v) = OnHost (λ w. true) (host_entry c v)
table (Op.FunctionCall pc f cont) = OnFrame (λ w. is_function w.setup f && cont_allowed w cont) (function_call pc f cont)
table (Op.PutWord r v) = OnFrame (all_in (r ∷ [])) (put_word r v)
table (Op.MakeIterator v) = Other (make_iterator v)
table Op.TakeOutcome = Other take_outcome
table (Op.HandOver v) = Other (hand_over v)
table (Op.Grant n) = Grants n
table Op.StopRun = Other stop_run
table Op.Look = Looks
