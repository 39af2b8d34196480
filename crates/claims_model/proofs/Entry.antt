-- Who is entered by a call, by which driver, and with what word. 01: "An entry, from any driver, is accepted exactly if
-- `coro_enter` accepts, also where the call then answers a fault".
use Prim.Native.Nat.{ℕ, ◌+◌}
use mathlib.Core.Path.{◌≡◌, refl, ap, ◌∙◌}
use mathlib.Core.Bool.{Bool, true, false, not, ◌&&◌}
use mathlib.Core.List.{List, [], ◌∷◌}
use lib.ListN.{length}
use lib.Dec.{ltb, leb}
use Rattle.lists.specs.Pick.{pick}
use Rattle.heap.specs.Word.{nil}
use Rattle.heap.specs.declared.fault.Fault.{Fault}
use Rattle.heap.specs.declared.object.CoroState.{CoroState}
use Rattle.model.specs.Lists.{is_nil}
use Rattle.model.specs.State.{is_created, is_awaiting, is_resumable}
use Rattle.model.specs.Object.{Coroutine, Absent, Is, is_done}
use Rattle.model.specs.Program.{is_function}
use Rattle.model.specs.World.{World, After}
use Rattle.model.specs.Frames.{top_base, reg}
use Rattle.model.specs.Heap.{object, coro, dyn_int}
use Rattle.model.specs.Coro.{overflows}
use Rattle.model.specs.Gate.{in_frame, all_in, window_in}
use Rattle.model.specs.Cleanup.{coro_suspended, charge}
use Rattle.model.specs.Sound.{sound}
use Rattle.model.specs.Call.{Call, SetUp, Do}
use Rattle.model.specs.Calls.{Row, Instruction, OnFrame, OnHost, Unwinds, Grants, Looks, Other, table}
use Rattle.model.specs.Exec.{largest_in, larger_of, auto_key}
use Rattle.std.specs.Prelude.{Option, Some, None}
use Rattle.claims_invariant.specs.Kept.{raises}
use Rattle.claims_model.specs.Says as Says
use Rattle.claims_model.specs.Steps.{view_of}
use Rattle.claims_model.specs.Says.{Sent, nothing, gets, closes}
use Rattle.claims_model.proofs.Tries.{tries, keyed, in_body}
use Rattle.model.specs.declared.exec.Step.{Step}
use Rattle.model.specs.declared.machine.Driver.{Driver}
use Rattle.model.specs.declared.machine.Frame.{Frame}
use Rattle.model.specs.declared.machine.Charge.{Charge}
use Rattle.heap.specs.declared.heap.ResultKind.{ResultKind}
use Rattle.model.specs.declared.call.Op.{Op}

-- ---- what the calls are after

pub data Aim : Type 0 where
  -- to enter the coroutine that a word names, if a further test passes: driver, sent word or none
  enters : ℕ → Driver → Sent → Bool → Aim
  -- to suspend: the new state, the waiting register, the payload
  suspends : CoroState → ℕ → ℕ → Aim
  neither : Aim

pub data Act : Type 0 where
  -- an instruction: its pc, whether its operands pass the gate, and what it is after
  at : ℕ → Bool → Aim → Act
  -- host entry: coroutine and word
  by_host : ℕ → ℕ → Act
  finishes : ResultKind → ℕ → Act
  unwinds : Act
  other : Act

-- an Awaiting source refuses a loop
abbrev pub awaits : Coroutine → Bool
awaits Absent = false
awaits (Is k r) = is_awaiting k.state

-- the instructions that are to suspend, and those that are to enter
pub data Suspending : Op → Type 0 where
  yields : (pc dst src : ℕ) → Suspending (Op.Yield pc dst src)
  yields_kv : (pc dst src key : ℕ) → Suspending (Op.YieldKv pc dst src key)
  waits : (pc dst src : ℕ) → Suspending (Op.Await pc dst src)

pub data Entering : Op → Type 0 where
  resumes : (pc dst c src : ℕ) → Entering (Op.Resume pc dst c src)
  throws : (pc dst c src : ℕ) → Entering (Op.ResumeThrow pc dst c src)
  shuts : (pc dst c src : ℕ) → Entering (Op.CoroClose pc dst c src)
  turns : (pc has iter val src : ℕ) → Entering (Op.IterNext pc has iter val src)

-- THE CALLS, as the theorems go by them: those that some theorem has something of its own to say of, and all others
pub data Plan : Op → Type 0 where
  suspending : {o : Op} → Suspending o → Plan o
  entering : {o : Op} → Entering o → Plan o
  -- host entry
  hosting : (c v : ℕ) → Plan (Op.HostEntry c v)
  finishing : (kind : ResultKind) (v : ℕ) → Plan (Op.Finish kind v)
  unwinding : (f : Fault) (pc : Option ℕ) → Plan (Op.Unwind f pc)
  -- an instruction that is after neither, and says so; and a call that is no instruction
  asking : {o : Op} {pc : ℕ} {ok : World → Bool} {arm : World → After Step} → table o ≡ Instruction pc ok arm → ((w : World) → Says.announced (view_of w) o ≡ Says.instr pc (ok w) Says.neither) → Plan o
  idle : {o : Op} → raises (table o) ≡ true → ((w : World) → Says.announced (view_of w) o ≡ Says.other) → Plan o

pub base-top : (fs : List Frame) → Says.first_register fs ≡ top_base fs
base-top [] = refl
base-top (f ∷ fs) = refl

and-unit : (a : Bool) → (a && true) ≡ a
and-unit true = refl
and-unit false = refl

lie-in : (w : World) (rs : List ℕ) → Says.lie (view_of w) rs ≡ all_in rs w
lie-in w [] = refl
lie-in w (r ∷ rs) = λ i. ltb (base-top w.frames i + r) (length w.stack) && lie-in w rs i

window-in : (w : World) (dst argc : ℕ) → Says.window (view_of w) dst argc ≡ window_in w dst argc
window-in w dst argc = ap (λ b. leb (b + dst + 1 + argc) (length w.stack)) (base-top w.frames)

-- an instruction's operands pass in the claim's words where they pass in the model's
pub in_frame_lem : (w : World) (pc : ℕ) (rs : List ℕ) → Says.instr pc (Says.lie (view_of w) rs) Says.neither ≡ Says.instr pc (all_in rs w) Says.neither
in_frame_lem w pc rs = ap (λ b. Says.instr pc b Says.neither) (lie-in w rs)

pub in_window : (w : World) (pc dst callee argc : ℕ)
    → Says.instr pc (Says.lie (view_of w) (dst ∷ callee ∷ []) && Says.window (view_of w) dst argc) Says.neither ≡ Says.instr pc (all_in (dst ∷ callee ∷ []) w && window_in w dst argc) Says.neither
in_window w pc dst callee argc = λ i. Says.instr pc (lie-in w (dst ∷ callee ∷ []) i && window-in w dst argc i) Says.neither

pub new_in : (w : World) (pc dst f argc : ℕ) → Says.announced (view_of w) (Op.CoroNew pc dst f argc) ≡ Says.instr pc (in_frame w dst && window_in w dst argc && is_function w.setup f) Says.neither
new_in w pc dst f argc = λ i. Says.instr pc ((lie-in w (dst ∷ []) ∙ and-unit (in_frame w dst)) i && window-in w dst argc i && is_function w.setup f) Says.neither

abbrev pub plan : (o : Op) → Plan o
plan (Op.CoroNew pc dst f argc) = asking refl (λ w. new_in w pc dst f argc)
plan (Op.CoroNewIndirect pc dst callee argc) = asking refl (λ w. in_window w pc dst callee argc)
plan (Op.Spawn pc dst callee argc) = asking refl (λ w. in_window w pc dst callee argc)
plan (Op.Yield pc dst src) = suspending (yields pc dst src)
plan (Op.YieldKv pc dst src key) = suspending (yields_kv pc dst src key)
plan (Op.Await pc dst src) = suspending (waits pc dst src)
plan (Op.Resume pc dst c src) = entering (resumes pc dst c src)
plan (Op.ResumeThrow pc dst c src) = entering (throws pc dst c src)
plan (Op.CoroClose pc dst c src) = entering (shuts pc dst c src)
plan (Op.CoroStatus pc dst c) = asking refl (λ w. in_frame_lem w pc (dst ∷ c ∷ []))
plan (Op.CoroCurrent pc dst) = asking refl (λ w. in_frame_lem w pc (dst ∷ []))
plan (Op.CoroKey pc dst c) = asking refl (λ w. in_frame_lem w pc (dst ∷ c ∷ []))
plan (Op.CoroResult pc dst c) = asking refl (λ w. in_frame_lem w pc (dst ∷ c ∷ []))
plan (Op.IterNext pc has iter val src) = entering (turns pc has iter val src)
plan (Op.Finish kind v) = finishing kind v
plan (Op.Unwind f pc) = unwinding f pc
plan (Op.SpawnTask v) = idle refl (λ w. refl)
plan (Op.HostCall f) = idle refl (λ w. refl)
plan (Op.HostEntry c v) = hosting c v
plan (Op.FunctionCall pc f cont) = idle refl (λ w. refl)
plan (Op.PutWord r v) = idle refl (λ w. refl)
plan (Op.MakeIterator v) = idle refl (λ w. refl)
plan Op.TakeOutcome = idle refl (λ w. refl)
plan (Op.HandOver v) = idle refl (λ w. refl)
plan (Op.Grant n) = idle refl (λ w. refl)
plan Op.StopRun = idle refl (λ w. refl)
plan Op.Look = idle refl (λ w. refl)

-- what they are after, read at the world where the call is made
abbrev pub suspend_aim : {o : Op} → Suspending o → World → Aim
suspend_aim (yields pc dst src) w = suspends CoroState.Yielded dst (reg w src)
suspend_aim (yields_kv pc dst src key) w = suspends CoroState.Yielded dst (reg w src)
suspend_aim (waits pc dst src) w = suspends CoroState.Awaiting dst (reg w src)

abbrev pub enter_aim : {o : Op} → Entering o → World → Aim
enter_aim (resumes pc dst c src) w = enters (reg w c) (Driver.Resume dst) (gets (reg w src)) true
enter_aim (throws pc dst c src) w = enters (reg w c) (Driver.Resume dst) nothing (coro_suspended (coro w (reg w c)))
enter_aim (shuts pc dst c src) w = enters (reg w c) (Driver.Resume dst) (closes (reg w src)) (coro_suspended (coro w (reg w c)))
enter_aim (turns pc has iter val src) w = enters (reg w src) (Driver.Iter has val (reg w iter)) (gets nil) (not (is_done (object w (reg w iter))) && not (awaits (coro w (reg w src))))

-- whether coro_suspend accepts, at the world that the charge left
abbrev pub suspend_ok : {o : Op} → Suspending o → World → Bool
suspend_ok (yields pc dst src) w =
    in_body w.chain (λ a. keyed (tries pc CoroState.Yielded dst (reg w src)) (auto_key (largest_in (coro w a.coro)) w).world (auto_key (largest_in (coro w a.coro)) w).answer)
suspend_ok (yields_kv pc dst src key) w = in_body w.chain (λ a. tries pc CoroState.Yielded dst (reg w src) w (Some (reg w key, larger_of (largest_in (coro w a.coro)) (dyn_int w (reg w key)))))
suspend_ok (waits pc dst src) w = in_body w.chain (λ a. tries pc CoroState.Awaiting dst (reg w src) w None)

-- pc and operands are those of the instruction's row
abbrev pub at_row : Row → World → Aim → Act
at_row (Instruction pc operands arm) w a = at pc (operands w) a
at_row (OnFrame operands body) w a = other
at_row (OnHost operands body) w a = other
at_row (Unwinds f pc) w a = other
at_row (Grants n) w a = other
at_row Looks w a = other
at_row (Other body) w a = other

abbrev pub act_by : {o : Op} → Plan o → World → Act
act_by {o} (suspending i) w = at_row (table o) w (suspend_aim i w)
act_by {o} (entering i) w = at_row (table o) w (enter_aim i w)
act_by (hosting c v) w = by_host c v
act_by (finishing kind v) w = finishes kind v
act_by (unwinding f pc) w = unwinds
act_by (asking {pc = pc} {ok} e d) w = at pc (ok w) neither
act_by (idle e d) w = other

abbrev pub act : World → Op → Act
act w o = act_by (plan o) w

-- ---- who is entered

pub data Entry : Type 0 where
  nobody : Entry
  -- a coroutine, its driver, and the word that it gets in its waiting register, or none
  entry : ℕ → Driver → Sent → Entry

-- coro_enter accepts. 01: "not a coroutine (1 or 2); not Created, Yielded or Awaiting (3); frames plus saved frames above the
-- depth limit, or stack plus saved registers above the stack limit (4; equality passes)"
abbrev pub accepts_as : Coroutine → World → Bool
accepts_as Absent w = false
accepts_as (Is k r) w = is_resumable k.state && not (is_nil k.frames) && not (overflows k w)

abbrev pub accepts : World → ℕ → Bool
accepts w c = accepts_as (coro w c) w

-- 01: "A Created one ignores the sent word."
abbrev pub sent_to : Coroutine → Sent → Sent
sent_to Absent v = nothing
sent_to (Is k r) v = pick (is_created k.state) nothing v

abbrev pub aimed : Aim → World → Entry
aimed (enters c d v may) w = pick (may && accepts w c) (entry c d (sent_to (coro w c) v)) nobody
aimed (suspends s dst v) w = nobody
aimed neither w = nobody

-- a cleanup: the first of the queue that is suspended and fits
abbrev pub cleaned : List ℕ → World → Entry
cleaned [] w = nobody
cleaned (c ∷ queue) w = pick (coro_suspended (coro w c) && accepts w c) (entry c Driver.Finalize (closes nil)) (cleaned queue w)

-- a charge that starts a cleanup enters that coroutine, whatever the instruction is after
abbrev pub charged : Charge → World → Entry → Entry
charged (Charge.Done n) w e = e
charged Charge.Spent w e = nobody
charged (Charge.Close n) w e = cleaned w.finalize w

abbrev pub entry_by : Act → World → Entry
entry_by (at pc ok a) w = pick (is_nil w.frames) nobody (pick (not ok) nobody (charged (charge (Some pc) w).answer w (aimed a w)))
entry_by (by_host c v) w = pick (not (is_nil w.frames)) nobody (aimed (enters c Driver.Host (gets v) true) w)
entry_by (finishes kind v) w = nobody
entry_by unwinds w = nobody
entry_by other w = nobody

-- who is entered by a call at the world w
abbrev pub entry_of : World → Call → Entry
entry_of w (SetUp s) = nobody
entry_of w (Do o) = pick (sound w) (entry_by (act w o.op) w) nobody

-- the driver of an entry, and its word
abbrev pub driver_of : Entry → Driver
driver_of nobody = Driver.Host
driver_of (entry c d v) = d

abbrev pub sent_of : Entry → Sent
sent_of nobody = nothing
sent_of (entry c d v) = v

-- the pc that a call stores in the frame that it was made from
abbrev pub pc_by : Act → ℕ
pc_by (at pc ok a) = pc
pc_by (by_host c v) = 0
pc_by (finishes kind v) = 0
pc_by unwinds = 0
pc_by other = 0

abbrev pub pc_of : World → Call → ℕ
pc_of w (SetUp s) = 0
pc_of w (Do o) = pc_by (act w o.op)
