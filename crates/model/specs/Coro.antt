-- coro.rs: impl Machine, in its order, up to a coroutine's end.
use Rattle.std.specs.Prelude.{ℕ, ◌+◌, ◌-◌, ◌*◌, ◌%◌, ◌^◌, max, Bool, true, false, not, ◌&&◌, ◌||◌, List, [], ◌∷◌, ◌++◌, map, negsuc, length, take, drop, replicate, eqb, ltb, leb, Option, Result, Some, None, Ok, Err}
use Rattle.lists.specs.Pick.{pick}
use Rattle.heap.specs.Word.{nil}
use Rattle.heap.specs.Coding.{bits_of}
use Rattle.heap.specs.Charge.{sat_add}
use Rattle.heap.specs.declared.fault.Fault.{Fault}
use Rattle.heap.specs.declared.object.CoroState.{CoroState}
use Rattle.model.specs.Lists.{is_nil}
use Rattle.model.specs.State.{is_created, is_awaiting, is_resumable}
use Rattle.model.specs.Program.{func}
use Rattle.model.specs.Object.{Core, Rest, Object, Coroutine, Absent, Is, with_closing, with_row, with_maxregs, with_maxframes, with_payload, with_key, with_largest, with_result, with_signal}
use Rattle.model.specs.World.{World, After, after, with_stack, with_frames, with_chain, with_outcome, with_used, with_seq}
use Rattle.model.specs.Frames.{frame, raise, lower, above, below, base_at, put_reg, next_pc}
use Rattle.model.specs.Heap.{coro, not_a, set_coro, change_coro, set_done, set_key, fits, slots_full, refuse, alloc}
use Rattle.model.specs.Rows.{free_row, rows_full}
use Rattle.model.specs.Fuel.{set_finalizing}
use Rattle.model.specs.declared.machine.Active.{Active}
use Rattle.model.specs.declared.machine.Driver.{Driver}
use Rattle.model.specs.declared.coro.Event.{Event}
use Rattle.model.specs.declared.coro.Entered.{Entered}
use Rattle.model.specs.declared.machine.Cont.{Cont}
use Rattle.model.specs.declared.machine.Stop.{Stop}

-- ---- coro_create

-- 01: "More arguments than registers: all registers 0."
abbrev pub new_regs : ℕ → List ℕ → List ℕ
new_regs n args = pick (leb (length args) n) (args ++ replicate (n - length args) 0) (replicate n 0)

abbrev pub new_core : ℕ → ℕ → List ℕ → Core
new_core f closure regs = record { state = CoroState.Created; regs = regs; frames = frame f 0 closure Cont.Coro ∷ []; waiting = 0 }

-- 01: "the largest integer key so far .., the start being -1"; "creation's registers and one frame included"
abbrev pub new_rest : ℕ → ℕ → ℕ → Rest
new_rest seq row n = record { closing = false; finalized = false; task = false; seq = seq; row = row; maxregs = n; maxframes = 1; payload = nil; key = nil; largest = bits_of 63 (negsuc 0); result = nil; signal = nil }

-- coro.rs: coro_create. 01: "Creation tests 8 times registers + C + F against the limit (9), then 14, then advances the
-- 64-bit sequence number, wrapping, then charges 8 times registers + A + F (9; the number has moved)."
unfoldable pub coro_create : ℕ → ℕ → List ℕ → World → After (Result ℕ Fault)
coro_create f closure args w =
    let n = (func w.setup f).regs in
    pick (not (fits w (8 * n + w.setup.costs.coro + w.setup.costs.frame))) (refuse w Fault.OutOfMemory)
    (pick (slots_full w || rows_full w) (refuse w Fault.Full)
    (alloc (8 * n + w.setup.costs.object + w.setup.costs.frame)
    (Object.Coro (new_core f closure (new_regs n args)) (new_rest w.seq (free_row w) n))
    (with_seq ((w.seq + 1) % 2 ^ 64) w)))

-- coro.rs: coro_state
abbrev pub state_as : Coroutine → Fault → Result CoroState Fault
state_as Absent f = Err f
state_as (Is k r) f = Ok k.state

abbrev pub coro_state : World → ℕ → Result CoroState Fault
coro_state w v = state_as (coro w v) (not_a w v)

-- ---- coro_enter

abbrev pub active : ℕ → ℕ → Driver → Active
active v floor d = record { coro = v; floor = floor; driver = d }

-- nothing is saved any more
abbrev pub in_state : CoroState → Core → Core
in_state s k = record { state = s; regs = []; frames = []; waiting = k.waiting }

-- 01: "the coroutine's largest saved sizes so far": what is saved is such a size
abbrev pub sized : Core → Rest → Rest
sized k r = with_maxregs (max r.maxregs (length k.regs)) (with_maxframes (max r.maxframes (length k.frames)) r)

-- 01: "It appends the saved words and frames, adds the old stack height to every base, sets Running and pushes the driver."
abbrev pub entered : ℕ → Driver → Core → Rest → World → World
entered v d k r w =
    set_coro v (in_state CoroState.Running k) (sized k r)
    (with_chain (active v (length w.frames) d ∷ w.chain)
    (with_frames (map (raise (length w.stack)) k.frames ++ w.frames)
    (with_stack (w.stack ++ k.regs) w)))

-- 01: "frames plus saved frames above the depth limit, or stack plus saved registers above the stack limit"
abbrev pub overflows : Core → World → Bool
overflows k w =
    ltb w.setup.limits.depth (length w.frames + length k.frames) || ltb w.setup.limits.stack (length w.stack + length k.regs)

-- 01: "not a coroutine (1 or 2); not Created, Yielded or Awaiting (3)"
abbrev pub enter_as : Coroutine → ℕ → Driver → World → After (Result Entered Fault)
enter_as Absent v d w = after w (Err (not_a w v))
enter_as (Is k r) v d w =
    pick (not (is_resumable k.state) || is_nil k.frames) (after w (Err Fault.InvalidCoroState))
    (pick (overflows k w) (after w (Err Fault.StackOverflow))
    (after (entered v d k r w) (pick (is_created k.state) (Ok Entered.Fresh) (Ok (Entered.Suspended k.waiting)))))

-- coro.rs: coro_enter
unfoldable pub coro_enter : ℕ → Driver → World → After (Result Entered Fault)
coro_enter v d w = enter_as (coro w v) v d w

-- coro.rs: coro_send
abbrev pub coro_send : ℕ → ℕ → World → World
coro_send dst v w = next_pc (put_reg dst v w)

-- ---- coro_suspend

-- the words and frames of a running coroutine, from its body up, with bases from 0
abbrev pub saved : CoroState → ℕ → ℕ → World → Core
saved state dst floor w =
    let s = base_at floor w.frames in
    record { state = state; regs = drop s w.stack; frames = map (lower s) (above floor w.frames); waiting = dst }

-- 01: "8 bytes per register and F per frame beyond the coroutine's largest saved sizes so far"
abbrev pub growth : World → Core → Rest → ℕ
growth w k r = (length k.regs - r.maxregs) * 8 + (length k.frames - r.maxframes) * w.setup.costs.frame

abbrev pub set_keys : Option (ℕ × ℕ) → Rest → Rest
set_keys None r = r
set_keys (Some (key, largest)) r = with_key key (with_largest largest r)

-- 01: "A yield while closing clears closing .. an Await leaves closing set."
abbrev pub unclose : CoroState → Rest → Rest
unclose s r = pick (not (is_awaiting s) && r.closing) (with_closing false (with_signal nil r)) r

abbrev pub event_of : CoroState → ℕ → Rest → Event
event_of s payload r = pick (is_awaiting s) (Event.Awaiting payload) (pick r.closing Event.CloseIgnored (Event.Yielded payload r.key))

abbrev pub put_to_sleep : Active → List Active → Core → ℕ → Option (ℕ × ℕ) → Rest → World → World
put_to_sleep a chain k payload key r w =
    set_coro a.coro k (unclose k.state (set_keys key (with_payload payload (sized k r))))
    (with_chain chain
    (with_frames (below a.floor w.frames)
    (with_stack (take (base_at a.floor w.frames) w.stack)
    (with_used (sat_add w.used (growth w k r)) w))))

abbrev pub suspend_coroutine : Coroutine → Active → List Active → Core → ℕ → Option (ℕ × ℕ) → World → After (Result (Driver × Event) Fault)
suspend_coroutine Absent a chain k payload key w = after w (Err Fault.TypeError)
suspend_coroutine (Is _ r) a chain k payload key w =
    pick (not (fits w (growth w k r))) (after w (Err Fault.OutOfMemory))
    (after (put_to_sleep a chain k payload key r w) (Ok (a.driver, event_of k.state payload (set_keys key r))))

abbrev pub suspend_innermost : List Active → CoroState → ℕ → ℕ → Option (ℕ × ℕ) → World → After (Result (Driver × Event) Fault)
suspend_innermost [] state dst payload key w = after w (Err Fault.CannotSuspend)
suspend_innermost (a ∷ chain) state dst payload key w =
    pick (leb (length w.frames) a.floor) (after w (Err Fault.CannotSuspend))
    (suspend_coroutine (coro w a.coro) a chain (saved state dst a.floor w) payload key w)

-- coro.rs: coro_suspend. The Rust charges a growth above 0 only; a growth of 0 fits.
unfoldable pub coro_suspend : CoroState → ℕ → ℕ → Option (ℕ × ℕ) → World → After (Result (Driver × Event) Fault)
coro_suspend state dst payload key w = suspend_innermost w.chain state dst payload key w

-- ---- deliver

abbrev pub outcome_of : Event → Stop
outcome_of (Event.Yielded payload key) = Stop.Yielded payload
outcome_of (Event.Awaiting payload) = Stop.Awaiting payload
outcome_of Event.CloseIgnored = Stop.CloseIgnored

-- coro.rs: deliver. 01: "Iterator driver: iterator key, val register, then has = 1 and pc step; an Await
-- there is 2, after suspending. Host driver: the outcome. Cleanup driver: finalizing ends. A yield while closing .. answers 6 to a
-- Resume or iterator driver"
unfoldable pub deliver : Driver → Event → World → After (Result Unit Fault)
deliver (Driver.Resume dst) (Event.Yielded payload key) w = after (coro_send dst payload w) (Ok tt)
deliver (Driver.Resume dst) (Event.Awaiting payload) w = after (coro_send dst payload w) (Ok tt)
deliver (Driver.Resume dst) Event.CloseIgnored w = after w (Err Fault.CloseIgnored)
deliver (Driver.Iter has val iter) (Event.Yielded payload key) w = after (coro_send has 1 (put_reg val payload (set_key iter key w))) (Ok tt)
deliver (Driver.Iter has val iter) (Event.Awaiting payload) w = after w (Err Fault.TypeError)
deliver (Driver.Iter has val iter) Event.CloseIgnored w = after w (Err Fault.CloseIgnored)
deliver Driver.Host event w = after (with_outcome (Some (outcome_of event)) w) (Ok tt)
deliver Driver.Finalize event w = after (set_finalizing false w) (Ok tt)

-- ---- the end of a coroutine

-- coro.rs: finish, of a coroutine: its row is given back
abbrev pub ended : ℕ → Rest → Rest
ended result r = with_result result (with_closing false (with_signal nil (with_maxregs 0 (with_maxframes 0 (with_row 0 r)))))

abbrev pub finish_coroutine : ℕ → CoroState → ℕ → World → World
finish_coroutine v s result w = change_coro v (in_state s) (ended result) w

-- coro.rs: deliver_return
abbrev pub deliver_return : Driver → ℕ → World → World
deliver_return (Driver.Resume dst) value w = coro_send dst value w
deliver_return (Driver.Iter has val iter) value w = coro_send has 0 (set_done iter w)
deliver_return Driver.Host value w = with_outcome (Some (Stop.Returned value)) w
deliver_return Driver.Finalize value w = set_finalizing false w

-- coro.rs: coro_returned
abbrev pub returned_on : List Active → ℕ → World → World
returned_on [] value w = w
returned_on (a ∷ chain) value w = deliver_return a.driver value (finish_coroutine a.coro CoroState.Returned value (with_chain chain w))

unfoldable pub coro_returned : ℕ → World → World
coro_returned value w = returned_on w.chain value w

-- 01: "A closing coroutine that lets its own signal escape is Returned with nil; any other escape makes it Failed."
abbrev pub closed_by : Coroutine → ℕ → Bool
closed_by Absent value = false
closed_by (Is k r) value = r.closing && eqb value r.signal

abbrev pub fail_to : Driver → Stop → World → After Bool
fail_to (Driver.Resume dst) s w = after w false
fail_to (Driver.Iter has val iter) s w = after w false
fail_to Driver.Host s w = after (with_outcome (Some s) w) true
fail_to Driver.Finalize s w = after (set_finalizing false w) true

-- coro.rs: coro_escaped, whether the unwinding stops here; func and pc are where the word was raised
abbrev pub escaped_on : List Active → ℕ → ℕ → ℕ → World → After Bool
escaped_on [] value f pc w = after w false
escaped_on (a ∷ chain) value f pc w =
    pick (closed_by (coro w a.coro) value)
    (after (deliver_return a.driver nil (finish_coroutine a.coro CoroState.Returned nil (with_chain chain w))) true)
    (fail_to a.driver (Stop.Failed value f pc) (finish_coroutine a.coro CoroState.Failed value (with_chain chain w)))

unfoldable pub coro_escaped : ℕ → ℕ → ℕ → World → After Bool
coro_escaped value f pc w = escaped_on w.chain value f pc w

-- coro.rs: abort_coros. The Rust goes from the outermost one on; each is a coroutine of its own, so that no order shows.
abbrev pub fail_all : List Active → World → World
fail_all [] w = w
fail_all (a ∷ chain) w = fail_all chain (finish_coroutine a.coro CoroState.Failed nil w)

unfoldable pub abort_coros : World → World
abort_coros w = with_outcome None (set_finalizing false (with_chain [] (fail_all w.chain w)))
