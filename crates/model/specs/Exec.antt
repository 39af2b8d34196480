-- coro.rs: exec, its arms in order; auto_key, indirect, iter_next. Each is what the instruction does after its charge.
use Rattle.std.specs.Prelude.{ℕ, ◌+◌, not, ◌||◌, List, [], ◌∷◌, negsuc, take, drop, set, eqb, Option, Result, Some, None, Ok, Err}
use Rattle.lists.specs.Pick.{pick}
use Rattle.heap.specs.Word.{nil}
use Rattle.heap.specs.Coding.{bits_of}
use Rattle.heap.specs.Int.{next_key, less_bits}
use Rattle.heap.specs.Object.{code_of}
use Rattle.heap.specs.declared.fault.Fault.{Fault}
use Rattle.model.specs.declared.coro.Entered.{Entered}
use Rattle.model.specs.declared.coro.Event.{Event}
use Rattle.heap.specs.declared.object.CoroState.{CoroState}
use Rattle.model.specs.State.{is_created, is_awaiting, is_returned}
use Rattle.model.specs.Program.{func, is_function}
use Rattle.model.specs.Object.{Object, Coroutine, Absent, Is, is_done}
use Rattle.model.specs.World.{World, After, after, and_then, with_stack}
use Rattle.model.specs.Frames.{top_base, reg, put_reg, store_pc}
use Rattle.model.specs.Heap.{object, coro, not_a, change_coro, set_done, refuse, encode_int, dyn_int}
use Rattle.model.specs.Coro.{coro_create, coro_state, coro_enter, coro_send, coro_suspend, deliver, finish_coroutine}
use Rattle.model.specs.Cleanup.{close, charge}
use Rattle.model.specs.Machine.{push_frame}
use Rattle.model.specs.declared.machine.Cont.{Cont}
use Rattle.model.specs.declared.machine.Driver.{Driver}
use Rattle.model.specs.declared.machine.Active.{Active}
use Rattle.model.specs.declared.machine.Charge.{Charge}
use Rattle.model.specs.declared.exec.Step.{Step}

abbrev pub fault : World → Fault → After Step
fault w f = after w (Step.Fault f)

-- r!(dst) = v; Step::Next
abbrev pub put : ℕ → ℕ → World → After Step
put dst v w = after (put_reg dst v w) Step.Next

-- r!(dst) = t!(made); Step::Next
abbrev pub put_made : ℕ → World → Result ℕ Fault → After Step
put_made dst w (Ok v) = put dst v w
put_made dst w (Err f) = fault w f

-- ---- CoroNew, CoroNewIndirect

-- the argument window: argc words after register dst
abbrev pub window : ℕ → ℕ → World → List ℕ
window dst argc w = take argc (drop (top_base w.frames + dst + 1) w.stack)

-- coro.rs: exec, CoroNew
unfoldable pub coro_new : ℕ → ℕ → ℕ → World → After Step
coro_new dst f argc w = and_then (coro_create f nil (window dst argc w) w) (put_made dst)

abbrev pub indirect_to : Object → ℕ → ℕ → ℕ → World → After (Result ℕ Fault)
indirect_to Object.Empty v dst argc w = refuse w (not_a w v)
indirect_to (Object.Func f) v dst argc w =
    pick (not (is_function w.setup f)) (refuse w Fault.TypeError)
    (pick (not (eqb (func w.setup f).params argc)) (refuse w Fault.TypeError)
    (coro_create f v (window dst argc w) w))
indirect_to (Object.Int n) v dst argc w = refuse w (not_a w v)
indirect_to (Object.Iter s d k) v dst argc w = refuse w (not_a w v)
indirect_to (Object.Error e f p x) v dst argc w = refuse w (not_a w v)
indirect_to (Object.Coro k r) v dst argc w = refuse w (not_a w v)

-- coro.rs: indirect, a coroutine of the function that a register holds
unfoldable pub indirect : ℕ → ℕ → ℕ → World → After (Result ℕ Fault)
indirect dst callee argc w = indirect_to (object w (reg w callee)) (reg w callee) dst argc w

-- coro.rs: exec, CoroNewIndirect
unfoldable pub coro_new_indirect : ℕ → ℕ → ℕ → World → After Step
coro_new_indirect dst callee argc w = and_then (indirect dst callee argc w) (put_made dst)

-- ---- Spawn

-- the hook's frame stands over w, with the coroutine c in its first register; refused, w is as it was: pc is not stored either
abbrev pub hooked : World → ℕ → World → Result ℕ Fault → After Step
hooked w c u (Ok base) = after (with_stack (set u.stack base c) u) Step.Frame
hooked w c u (Err f) = fault w f

-- Spawn's second unit, taken for the call of the hook; c is the coroutine's word
abbrev pub call_hook : ℕ → ℕ → ℕ → ℕ → World → Charge → After Step
call_hook hook pc dst c w (Charge.Done n) = and_then (push_frame hook nil (Cont.Value dst) (store_pc pc w)) (hooked w c)
call_hook hook pc dst c w Charge.Spent = fault w Fault.OutOfFuel
call_hook hook pc dst c w (Charge.Close n) = and_then (push_frame hook nil (Cont.Value dst) (store_pc pc w)) (hooked w c)

abbrev pub spawn_made : ℕ → ℕ → ℕ → World → Result ℕ Fault → After Step
spawn_made hook pc dst w (Ok c) = and_then (charge None w) (call_hook hook pc dst c)
spawn_made hook pc dst w (Err f) = fault w f

-- 01, fault 8: "Spawn without a hook"
abbrev pub spawn_with : Option ℕ → ℕ → ℕ → ℕ → ℕ → World → After Step
spawn_with None pc dst callee argc w = fault w Fault.NoScheduler
spawn_with (Some hook) pc dst callee argc w = and_then (indirect dst callee argc w) (spawn_made hook pc dst)

-- coro.rs: exec, Spawn
unfoldable pub spawn : ℕ → ℕ → ℕ → ℕ → World → After Step
spawn pc dst callee argc w = spawn_with w.setup.hook pc dst callee argc w

-- ---- Yield, YieldKv, Await

abbrev pub delivered : World → Result Unit Fault → After Step
delivered w (Ok u) = after w Step.Frame
delivered w (Err f) = after w (Step.Unwind f)

abbrev pub deliver_all : World → Result (Driver × Event) Fault → After Step
deliver_all w (Ok (d, e)) = and_then (deliver d e w) delivered
deliver_all w (Err f) = fault w f

-- pc is stored, then coro_suspend, which charges and may answer 9
abbrev pub suspend : ℕ → CoroState → ℕ → ℕ → Option (ℕ × ℕ) → World → After Step
suspend pc state dst payload keys w = and_then (coro_suspend state dst payload keys (store_pc pc w)) deliver_all

-- 01: "the largest integer key so far .., the start being -1"
abbrev pub largest_in : Coroutine → ℕ
largest_in Absent = bits_of 63 (negsuc 0)
largest_in (Is k r) = r.largest

abbrev pub key_at : ℕ → World → Result ℕ Fault → After (Result (ℕ × ℕ) Fault)
key_at n w (Ok k) = after w (Ok (k, n))
key_at n w (Err f) = after w (Err f)

-- 01: "at 2^63 - 1 it answers 7 and does not suspend"; pc is not stored
abbrev pub key_exact : Option ℕ → World → After (Result (ℕ × ℕ) Fault)
key_exact (Some n) w = and_then (encode_int n w) (key_at n)
key_exact None w = after w (Err Fault.ArithOverflow)

-- coro.rs: auto_key. 01: "the largest integer key so far plus 1"
unfoldable pub auto_key : ℕ → World → After (Result (ℕ × ℕ) Fault)
auto_key largest w = key_exact (next_key largest) w

-- the key, and its object where it needs one, are made before the suspension. 01: "A key object made before that 9 stays."
abbrev pub yield_key : ℕ → ℕ → ℕ → World → Result (ℕ × ℕ) Fault → After Step
yield_key pc dst payload w (Ok (key, largest)) = suspend pc CoroState.Yielded dst payload (Some (key, largest)) w
yield_key pc dst payload w (Err f) = fault w f

-- 01: "No active coroutine: 5, pc not stored by the instruction."
abbrev pub yield_on : List Active → ℕ → ℕ → ℕ → World → After Step
yield_on [] pc dst src w = fault w Fault.CannotSuspend
yield_on (a ∷ chain) pc dst src w = and_then (auto_key (largest_in (coro w a.coro)) w) (yield_key pc dst (reg w src))

-- coro.rs: exec, Yield
unfoldable pub yield : ℕ → ℕ → ℕ → World → After Step
yield pc dst src w = yield_on w.chain pc dst src w

-- 01: "raises the largest if the key is a greater integer"
abbrev pub larger_of : ℕ → Option ℕ → ℕ
larger_of largest None = largest
larger_of largest (Some n) = pick (less_bits largest n) n largest

-- 01: "No active coroutine: 5, pc not stored by the instruction."; "YieldKv keeps its own key"
abbrev pub yield_kv_on : List Active → ℕ → ℕ → ℕ → ℕ → World → After Step
yield_kv_on [] pc dst src key w = fault w Fault.CannotSuspend
yield_kv_on (a ∷ chain) pc dst src key w =
    suspend pc CoroState.Yielded dst (reg w src) (Some (reg w key, larger_of (largest_in (coro w a.coro)) (dyn_int w (reg w key)))) w

-- coro.rs: exec, YieldKv
unfoldable pub yield_kv : ℕ → ℕ → ℕ → ℕ → World → After Step
yield_kv pc dst src key w = yield_kv_on w.chain pc dst src key w

-- 01: "No active coroutine: 5, pc not stored by the instruction."; "Await leaves key and largest."
abbrev pub await_on : List Active → ℕ → ℕ → ℕ → World → After Step
await_on [] pc dst src w = fault w Fault.CannotSuspend
await_on (a ∷ chain) pc dst src w = suspend pc CoroState.Awaiting dst (reg w src) None w

-- coro.rs: exec, Await
unfoldable pub await : ℕ → ℕ → ℕ → World → After Step
await pc dst src w = await_on w.chain pc dst src w

-- ---- Resume, ResumeThrow, CoroClose

-- 01: "A suspended coroutine then gets the sent word in its waiting register .. A Created one ignores the sent word."
abbrev pub arrive : ℕ → World → Result Entered Fault → After Step
arrive sent w (Ok Entered.Fresh) = after w Step.Frame
arrive sent w (Ok (Entered.Suspended d)) = after (coro_send d sent w) Step.Frame
arrive sent w (Err f) = fault w f

-- coro.rs: exec, Resume. 01: "stores pc in the top frame, then coro_enter"
unfoldable pub resume : ℕ → ℕ → ℕ → ℕ → World → After Step
resume pc dst c src w = and_then (coro_enter (reg w c) (Driver.Resume dst) (store_pc pc w)) (arrive (reg w src))

-- the word thrown is raised where the entered coroutine was suspended
abbrev pub throw_entered : ℕ → World → Result Entered Fault → After Step
throw_entered v w (Ok a) = after w (Step.Unwind (Fault.Throw v))
throw_entered v w (Err f) = fault w f

-- c is the coroutine's word, err the thrown word
abbrev pub throw_to : Result CoroState Fault → ℕ → ℕ → ℕ → ℕ → World → After Step
throw_to (Err f) pc dst c err w = fault w f
throw_to (Ok s) pc dst c err w =
    pick (is_created s) (fault (finish_coroutine c CoroState.Failed err w) (Fault.Throw err))
    (and_then (coro_enter c (Driver.Resume dst) (store_pc pc w)) (throw_entered err))

-- coro.rs: exec, ResumeThrow
unfoldable pub resume_throw : ℕ → ℕ → ℕ → ℕ → World → After Step
resume_throw pc dst c src w = throw_to (coro_state w (reg w c)) pc dst (reg w c) (reg w src) w

abbrev pub close_entered : ℕ → ℕ → World → Result Entered Fault → After Step
close_entered c signal w (Ok a) = after (change_coro c (λ k. k) (close signal) w) (Step.Unwind (Fault.Throw signal))
close_entered c signal w (Err f) = fault w f

-- c is the coroutine's word, signal the word that it is closed by
abbrev pub close_in : ℕ → ℕ → ℕ → ℕ → World → After Step
close_in pc dst c signal w = and_then (coro_enter c (Driver.Resume dst) (store_pc pc w)) (close_entered c signal)

abbrev pub close_to : Result CoroState Fault → ℕ → ℕ → ℕ → ℕ → World → After Step
close_to (Err f) pc dst c signal w = fault w f
close_to (Ok CoroState.Created) pc dst c signal w = put dst nil (finish_coroutine c CoroState.Returned nil w)
close_to (Ok CoroState.Running) pc dst c signal w = fault w Fault.InvalidCoroState
close_to (Ok CoroState.Yielded) pc dst c signal w = close_in pc dst c signal w
close_to (Ok CoroState.Awaiting) pc dst c signal w = close_in pc dst c signal w
close_to (Ok CoroState.Returned) pc dst c signal w = put dst nil w
close_to (Ok CoroState.Failed) pc dst c signal w = put dst nil w

-- coro.rs: exec, CoroClose
unfoldable pub coro_close : ℕ → ℕ → ℕ → ℕ → World → After Step
coro_close pc dst c src w = close_to (coro_state w (reg w c)) pc dst (reg w c) (reg w src) w

-- ---- CoroStatus, CoroCurrent, CoroKey, CoroResult

abbrev pub status_of : Result CoroState Fault → ℕ → World → After Step
status_of (Ok s) dst w = put dst (code_of s) w
status_of (Err f) dst w = fault w f

-- coro.rs: exec, CoroStatus
unfoldable pub coro_status : ℕ → ℕ → World → After Step
coro_status dst c w = status_of (coro_state w (reg w c)) dst w

abbrev pub current : List Active → ℕ
current [] = nil
current (a ∷ chain) = a.coro

-- coro.rs: exec, CoroCurrent
unfoldable pub coro_current : ℕ → World → After Step
coro_current dst w = put dst (current w.chain) w

abbrev pub key_of : Coroutine → Fault → ℕ → World → After Step
key_of Absent f dst w = fault w f
key_of (Is k r) f dst w = put dst r.key w

-- coro.rs: exec, CoroKey
unfoldable pub coro_key : ℕ → ℕ → World → After Step
coro_key dst c w = key_of (coro w (reg w c)) (not_a w (reg w c)) dst w

abbrev pub result_in : Coroutine → Fault → ℕ → World → After Step
result_in Absent f dst w = fault w f
result_in (Is k r) f dst w = pick (is_returned k.state) (put dst r.result w) (fault w Fault.InvalidCoroState)

-- coro.rs: exec, CoroResult
unfoldable pub coro_result : ℕ → ℕ → World → After Step
coro_result dst c w = result_in (coro w (reg w c)) (not_a w (reg w c)) dst w

-- ---- iter_next

-- has and val are registers, iter and src the words found in theirs
abbrev pub iter_on : Result CoroState Fault → ℕ → ℕ → ℕ → ℕ → ℕ → World → After Step
iter_on (Err f) pc has iter val src w = fault w f
iter_on (Ok s) pc has iter val src w =
    pick (is_done (object w iter) || is_returned s) (put has 0 (set_done iter w))
    (pick (is_awaiting s) (fault w Fault.TypeError)
    (and_then (coro_enter src (Driver.Iter has val iter) (store_pc pc w)) (arrive nil)))

-- coro.rs: iter_next, with the words found in `iter` and `src`
unfoldable pub iter_next : ℕ → ℕ → ℕ → ℕ → ℕ → World → After Step
iter_next pc has iter val src w = iter_on (coro_state w (reg w src)) pc has (reg w iter) val (reg w src) w
