-- 01: "Added calls": what each does behind its gate (Gate, Calls).
use Rattle.std.specs.Prelude.{ℕ, ◌+◌, ◌^◌, Bool, true, false, not, ◌||◌, List, [], ◌∷◌, ◌++◌, drop, leb, Option, Result, Some, None, Ok, Err}
use Rattle.lists.specs.Pick.{pick}
use Rattle.heap.specs.Word.{nil}
use Rattle.heap.specs.declared.fault.Fault.{Fault}
use Rattle.model.specs.declared.coro.Entered.{Entered}
use Rattle.model.specs.State.{is_suspended}
use Rattle.model.specs.Object.{Object, Coroutine, Absent, Is, with_finalized}
use Rattle.model.specs.World.{World, After, after, and_then, with_stack, with_frames, with_finalize, with_outcome, with_fuel}
use Rattle.model.specs.Frames.{put_reg, store_pc}
use Rattle.model.specs.Heap.{coro, not_a, set_coro, alloc}
use Rattle.model.specs.Fuel.{fuel_of, set_finalizing}
use Rattle.model.specs.Coro.{coro_enter, coro_send, abort_coros}
use Rattle.model.specs.Machine.{push_frame}
use Rattle.model.specs.Gate.{refused, in_frame}
use Rattle.model.specs.declared.machine.Cont.{Cont}
use Rattle.model.specs.declared.machine.Driver.{Driver}
use Rattle.model.specs.declared.machine.Frame.{Frame}
use Rattle.model.specs.declared.machine.Fuel.{Fuel}
use Rattle.model.specs.declared.call.Answer.{Answer}

abbrev pub accepted : World → After Answer
accepted w = after w Answer.Accepted

-- the word made is the answer
abbrev pub answer_made : World → Result ℕ Fault → After Answer
answer_made w (Ok v) = after w (Answer.Word v)
answer_made w (Err f) = refused w f

-- a frame was pushed; refused, the world is w
abbrev pub pushed_or : World → World → Result ℕ Fault → After Answer
pushed_or w u (Ok base) = accepted u
pushed_or w u (Err f) = refused w f

-- "Host call: an Entry frame."; "Frames made by a host call or function call have a nil closure."
-- It takes no arguments, since put word fills registers. Neither host call nor host entry resets anything.
unfoldable pub host_call : ℕ → World → After Answer
host_call f w = and_then (push_frame f nil Cont.Entry w) (pushed_or w)

abbrev pub host_arrive : ℕ → World → Result Entered Fault → After Answer
host_arrive v w (Ok Entered.Fresh) = accepted w
host_arrive v w (Ok (Entered.Suspended d)) = accepted (coro_send d v w)
host_arrive v w (Err f) = refused w f

-- "Host entry: `coro_enter` with the host driver, then the word delivered if suspended."
unfoldable pub host_entry : ℕ → ℕ → World → After Answer
host_entry c v w = and_then (coro_enter c Driver.Host w) (host_arrive v)

-- "with Write, Dyn, Value or Discard (another continuation, or its register outside the frame, is 13)"
abbrev pub cont_allowed : World → Cont → Bool
cont_allowed w Cont.Entry = false
cont_allowed w (Cont.Write r) = in_frame w r
cont_allowed w (Cont.Dyn r) = in_frame w r
cont_allowed w (Cont.Value r) = in_frame w r
cont_allowed w Cont.Discard = true
cont_allowed w Cont.Coro = false

-- "Function call: `push_frame` .., pc stored only if accepted."
unfoldable pub function_call : ℕ → ℕ → Cont → World → After Answer
function_call pc f cont w = and_then (push_frame f nil cont (store_pc pc w)) (pushed_or w)

-- "Put word: one register of the top frame."
unfoldable pub put_word : ℕ → ℕ → World → After Answer
put_word r v w = accepted (put_reg r v w)

-- "Make iterator: over a coroutine (else 1 or 2), not done, no key." It costs T.
abbrev pub iterator_over : Coroutine → ℕ → World → After Answer
iterator_over Absent v w = refused w (not_a w v)
iterator_over (Is k r) v w = and_then (alloc w.setup.costs.iter (Object.Iter v false None) w) answer_made

unfoldable pub make_iterator : ℕ → World → After Answer
make_iterator v w = iterator_over (coro w v) v w

-- "Take outcome: reads and clears it, or answers none."
unfoldable pub take_outcome : World → After Answer
take_outcome w = after (with_outcome None w) (Answer.Took w.outcome)

-- "Hand over: a Yielded or Awaiting coroutine not handed over before joins the cleanup queue and is marked finalized, then
-- `set_finalizing` with the present value; others answer 1, 2 or 3."
abbrev pub hand_over_as : Coroutine → ℕ → World → After Answer
hand_over_as Absent v w = refused w (not_a w v)
hand_over_as (Is k r) v w =
    pick (not (is_suspended k.state) || r.finalized) (refused w Fault.InvalidCoroState)
    (accepted (set_finalizing w.finalizing (set_coro v k (with_finalized true r) (with_finalize (w.finalize ++ (v ∷ [])) w))))

unfoldable pub hand_over : ℕ → World → After Answer
hand_over v w = hand_over_as (coro w v) v w

-- "Grant: adds to the bank if there is one, else to fuel."
abbrev pub reserve : Option ℕ → Fuel → ℕ
reserve None f = f.fuel
reserve (Some n) f = n

abbrev pub refuel : Option ℕ → ℕ → Fuel → Fuel
refuel None n f = fuel_of n f.bank f.ready
refuel (Some b) n f = fuel_of f.fuel (Some n) f.ready

abbrev pub granted : ℕ → World → ℕ
granted n w = reserve w.fuel.bank w.fuel + n

-- "grant's sum above 2^64 - 1"
abbrev pub grant_too_large : ℕ → World → Bool
grant_too_large n w = leb (2 ^ 64) (granted n w)

unfoldable pub grant : ℕ → World → After Answer
grant n w = pick (grant_too_large n w) (refused w Fault.GrantTooLarge) (accepted (with_fuel (refuel w.fuel.bank (granted n w) w.fuel) w))

-- "Stop run: `abort_coros`, then frames and stack emptied."
unfoldable pub stop_run : World → After Answer
stop_run w = accepted (with_stack [] (with_frames [] (abort_coros w)))

-- "Look: a look at the top frame hands back its registers"; "without a frame .. an empty part"
abbrev pub registers_on : List Frame → List ℕ → List ℕ
registers_on [] xs = []
registers_on (f ∷ fs) xs = drop f.base xs

unfoldable pub registers : World → List ℕ
registers w = registers_on w.frames w.stack
