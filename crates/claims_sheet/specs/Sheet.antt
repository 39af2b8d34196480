-- 01: "Fault sheet", whole. THE TABLE: of each call its gate and its tests in the Rust's order, each with its number and with the
-- world as it stands there; and ONE THEOREM: a call answers the first that stops it, and leaves what stood there.
-- It shares types, the coding of integers and the numbers of answers with the model, and no definition of a call: a wrong one would change both alike.
use Rattle.std.specs.Prelude.{ℕ, ◌+◌, ◌≡◌, Bool, true, not, ◌&&◌, List, [], ◌∷◌, map, length, leb}
use Rattle.lists.specs.Pick.{pick}
use Rattle.heap.specs.Fault as Faults
use Rattle.model.specs.Lists.{each}
use Rattle.model.specs.Program.{Setup, setup_ok}
use Rattle.model.specs.World.{World, fresh}
use Rattle.model.specs.Sound.{sound}
use Rattle.model.specs.Call.{Operation, SetUp, Do}
use Rattle.model.specs.Step.{told, step}
use Rattle.model.specs.declared.call.Op.{Op}
use Rattle.model.specs.declared.call.Answer.{Answer}
use Rattle.claims_sheet.specs.Lines.{Lines, lines, leads, says, faults, refuse, accept}
use Rattle.claims_sheet.specs.Does.{does, number}
use Rattle.claims_sheet.specs.Words.{base, lies}
use Rattle.claims_sheet.specs.Charging.{instruction}
use Rattle.claims_sheet.specs.Instructions as Instructions
use Rattle.claims_sheet.specs.Makings as Makings
use Rattle.claims_sheet.specs.Yields as Yields
use Rattle.claims_sheet.specs.Endings as Endings
use Rattle.claims_sheet.specs.Unwinding as Unwinding
use Rattle.claims_sheet.specs.OtherCalls as Others

-- every register lies in the frame; for creations the argument window too: "The last register passes."
abbrev pub lie : List ℕ → World → Bool
lie rs w = each (lies w) rs

abbrev pub window_lies : ℕ → ℕ → World → Bool
window_lies dst argc w = leb (base w.frames + dst + 1 + argc) (length w.stack)

abbrev pub table_of : Op → World → Lines Answer
table_of (Op.CoroNew pc dst f argc) w = instruction pc (lies w dst && window_lies dst argc w && Makings.is_function w f) (Makings.coro_new dst f argc) w
table_of (Op.CoroNewIndirect pc dst c argc) w = instruction pc (lie (dst ∷ c ∷ []) w && window_lies dst argc w) (Makings.coro_new_indirect dst c argc) w
table_of (Op.Spawn pc dst c argc) w = instruction pc (lie (dst ∷ c ∷ []) w && window_lies dst argc w) (Makings.spawn pc dst c argc) w
table_of (Op.Yield pc dst src) w = instruction pc (lie (dst ∷ src ∷ []) w) (Yields.yield pc dst src) w
table_of (Op.YieldKv pc dst src key) w = instruction pc (lie (dst ∷ src ∷ key ∷ []) w) (Yields.yield_kv pc dst src key) w
table_of (Op.Await pc dst src) w = instruction pc (lie (dst ∷ src ∷ []) w) (Yields.await pc dst src) w
table_of (Op.Resume pc dst c src) w = instruction pc (lie (dst ∷ c ∷ src ∷ []) w) (Instructions.resume pc dst c src) w
table_of (Op.ResumeThrow pc dst c src) w = instruction pc (lie (dst ∷ c ∷ src ∷ []) w) (Instructions.resume_throw pc dst c src) w
table_of (Op.CoroClose pc dst c src) w = instruction pc (lie (dst ∷ c ∷ src ∷ []) w) (Instructions.coro_close pc dst c src) w
table_of (Op.CoroStatus pc dst c) w = instruction pc (lie (dst ∷ c ∷ []) w) (Instructions.coro_status dst c) w
table_of (Op.CoroCurrent pc dst) w = instruction pc (lie (dst ∷ []) w) (Instructions.coro_current dst) w
table_of (Op.CoroKey pc dst c) w = instruction pc (lie (dst ∷ c ∷ []) w) (Instructions.coro_key dst c) w
table_of (Op.CoroResult pc dst c) w = instruction pc (lie (dst ∷ c ∷ []) w) (Instructions.coro_result dst c) w
table_of (Op.IterNext pc has iter val src) w = instruction pc (lie (has ∷ iter ∷ val ∷ src ∷ []) w) (Instructions.iter_next pc has iter val src) w
table_of (Op.Finish kind v) w = Endings.finish kind v w
table_of (Op.Unwind f pc) w = Unwinding.unwind f pc w
table_of (Op.SpawnTask v) w = Others.spawn_task v w
table_of (Op.HostCall f) w = Others.host_call f w
table_of (Op.HostEntry c v) w = Others.host_entry c v w
table_of (Op.FunctionCall pc f cont) w = Others.function_call pc f cont w
table_of (Op.PutWord r v) w = Others.put_word r v w
table_of (Op.MakeIterator v) w = Others.make_iterator v w
table_of Op.TakeOutcome w = Others.take_outcome w
table_of (Op.HandOver v) w = Others.hand_over v w
table_of (Op.Grant n) w = Others.grant n w
table_of Op.StopRun w = Others.stop_run w
table_of Op.Look w = Others.look w

-- "Each tests 11 first"
abbrev pub sheet : Op → World → Lines Answer
sheet o w = lines (refuse 11 (not (sound w)) w ∷ (table_of o w).tests) (table_of o w).done

abbrev pub set_up : Setup → World → Lines Answer
set_up s w = lines (refuse 11 (not (setup_ok s)) w ∷ []) (accept true Answer.Accepted (fresh s))

pub record FaultSheet : Type 0 where
  -- THE THEOREM: the answer is that of the first test that stops the call, and the world is what stood there; else what is done
  pub leads-to : (w : World) (o : Operation) → does w o ≡ leads (sheet o.op w)
  pub set-up : (w : World) (s : Setup) → step w (SetUp s) ≡ told (leads (set_up s w))
  -- "given exactly if": the answer's number is that test's, 0 to 17
  pub says-number : (w : World) (o : Operation) → number w o ≡ says (sheet o.op w)
  -- the words that a look sees; no other call sees any
  pub sees : (w : World) (o : Operation) → o.op ≡ Op.Look → (step w (Do o)).seen ≡ pick (sound w) (Others.registers w.frames w.stack) []
  pub sees-nothing : (w : World) (o : Operation) → (o.op ≡ Op.Look → ⊥) → (step w (Do o)).seen ≡ []
  -- 01's numbers
  pub numbers : map Faults.number_of faults ≡ 0 ∷ 1 ∷ 2 ∷ 3 ∷ 4 ∷ 5 ∷ 6 ∷ 7 ∷ 8 ∷ 9 ∷ 10 ∷ 11 ∷ 12 ∷ 13 ∷ 14 ∷ 15 ∷ 16 ∷ []
