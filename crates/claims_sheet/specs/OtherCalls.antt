-- THE SHEET of `spawn_task` and the added calls. 01: "Each tests 11 first, then 12 or 15, then 13 or 16, then what its Rust
-- function tests."
use Rattle.std.specs.Prelude.{ℕ, ◌+◌, ◌^◌, Bool, true, false, not, ◌&&◌, ◌||◌, List, [], ◌∷◌, ◌++◌, drop, leb, Option, Some, None}
use Rattle.lists.specs.Pick.{pick}
use Rattle.heap.specs.declared.object.CoroState.{CoroState}
use Rattle.model.specs.Lists.{is_nil}
use Rattle.model.specs.Object.{Object}
use Rattle.model.specs.World.{World}
use Rattle.model.specs.declared.machine.Active.{Active}
use Rattle.model.specs.declared.machine.Cont.{Cont}
use Rattle.model.specs.declared.machine.Driver.{Driver}
use Rattle.model.specs.declared.machine.Frame.{Frame}
use Rattle.model.specs.declared.call.Answer.{Answer}
use Rattle.claims_sheet.specs.Setters.{with_task, with_finalized, with_stack, with_frames, with_chain, with_ready, with_finalize, with_outcome}
use Rattle.claims_sheet.specs.Lines.{Lines, lines, refuse, accept}
use Rattle.claims_sheet.specs.Words.{lies, found, dead, no_coroutine, core_of, rest_of, state, resumable, suspended, too_high, lacks_memory, no_slot}
use Rattle.claims_sheet.specs.Moves.{pc_stored, put, replaced, entered, sent_unless_created, finished_with}
use Rattle.claims_sheet.specs.Charging.{reserve, fuelled}
use Rattle.claims_sheet.specs.Makings.{is_function, stored, new_word, no_room, pushed}
use Rattle.claims_sheet.specs.Suspending.{cleaning}

-- "`spawn_task` gives 2 for both"; a task, or one that can't be resumed, stays as it is
abbrev pub spawn_task : ℕ → World → Lines Answer
spawn_task v w =
    let k = core_of (found w v) in
    let r = rest_of (found w v) in
    lines (refuse 2 (no_coroutine w v) w ∷ [])
    (accept true (Answer.Word v) (pick (not r.task && resumable k.state) (replaced v (Object.Coro k (with_task true r)) (with_ready (w.ready ++ (v ∷ [])) w)) w))

-- "Host call: an Entry frame."
abbrev pub host_call : ℕ → World → Lines Answer
host_call f w = lines (refuse 15 (not (is_nil w.frames)) w ∷ refuse 13 (not (is_function w f)) w ∷ refuse 4 (no_room f w) w ∷ []) (accept true Answer.Accepted (pushed f Cont.Entry w))

-- "Host entry: `coro_enter` with the host driver, then the word delivered if suspended."
abbrev pub host_entry : ℕ → ℕ → World → Lines Answer
host_entry v sent w =
    lines
    (refuse 15 (not (is_nil w.frames)) w ∷ refuse 1 (dead w v) w ∷ refuse 2 (no_coroutine w v) w ∷ refuse 3 (not (resumable (state w v))) w ∷ refuse 4 (too_high w v) w ∷ [])
    (accept true Answer.Accepted (sent_unless_created (state w v) (core_of (found w v)).waiting sent (entered v Driver.Host w)))

-- "with Write, Dyn, Value or Discard (another continuation, or its register outside the frame, is 13)"
abbrev pub allowed : World → Cont → Bool
allowed w Cont.Entry = false
allowed w (Cont.Write r) = lies w r
allowed w (Cont.Dyn r) = lies w r
allowed w (Cont.Value r) = lies w r
allowed w Cont.Discard = true
allowed w Cont.Coro = false

-- "pc stored only if accepted"
abbrev pub function_call : ℕ → ℕ → Cont → World → Lines Answer
function_call pc f cont w =
    let z = pc_stored pc w in
    lines (refuse 12 (is_nil w.frames) w ∷ refuse 13 (not (is_function w f && allowed w cont)) w ∷ refuse 4 (no_room f z) w ∷ []) (accept true Answer.Accepted (pushed f cont z))

abbrev pub put_word : ℕ → ℕ → World → Lines Answer
put_word r v w = lines (refuse 12 (is_nil w.frames) w ∷ refuse 13 (not (lies w r)) w ∷ []) (accept true Answer.Accepted (put r v w))

-- "Make iterator: over a coroutine (else 1 or 2), not done, no key."
abbrev pub make_iterator : ℕ → World → Lines Answer
make_iterator v w =
    let bytes = w.setup.costs.iter in
    lines (refuse 1 (dead w v) w ∷ refuse 2 (no_coroutine w v) w ∷ refuse 9 (lacks_memory w bytes) w ∷ refuse 14 (no_slot w) w ∷ [])
    (accept true (Answer.Word (new_word w)) (stored (Object.Iter v false None) bytes w))

-- "Take outcome: reads and clears it, or answers none."
abbrev pub take_outcome : World → Lines Answer
take_outcome w = lines [] (accept true (Answer.Took w.outcome) (with_outcome None w))

-- "Hand over: a Yielded or Awaiting coroutine not handed over before joins the cleanup queue and is marked finalized, then
-- `set_finalizing` with the present value"
abbrev pub hand_over : ℕ → World → Lines Answer
hand_over v w =
    let r = rest_of (found w v) in
    lines (refuse 1 (dead w v) w ∷ refuse 2 (no_coroutine w v) w ∷ refuse 3 (not (suspended (state w v)) || r.finalized) w ∷ [])
    (accept true Answer.Accepted (cleaning w.finalizing (replaced v (Object.Coro (core_of (found w v)) (with_finalized true r)) (with_finalize (w.finalize ++ (v ∷ [])) w))))

-- "Grant: adds to the bank if there is one, else to fuel."
abbrev pub granted : Option ℕ → ℕ → World → World
granted None n w = fuelled n w.fuel.bank w.fuel.ready w
granted (Some b) n w = fuelled w.fuel.fuel (Some n) w.fuel.ready w

abbrev pub grant : ℕ → World → Lines Answer
grant n w = lines (refuse 16 (leb (2 ^ 64) (reserve w + n)) w ∷ []) (accept true Answer.Accepted (granted w.fuel.bank (reserve w + n) w))

-- "Stop run: `abort_coros`, then frames and stack emptied."
abbrev pub stopped : List Active → World → World
stopped [] w = w
stopped (a ∷ chain) w = stopped chain (finished_with a.coro CoroState.Failed 0 w)

abbrev pub stop_run : World → Lines Answer
stop_run w = lines [] (accept true Answer.Accepted (with_stack [] (with_frames [] (with_outcome None (cleaning false (with_chain [] (stopped w.chain w)))))))

abbrev pub look : World → Lines Answer
look w = lines [] (accept true Answer.Accepted w)

-- "a look at the top frame hands back its registers"; "without a frame .. an empty part"
abbrev pub registers : List Frame → List ℕ → List ℕ
registers [] xs = []
registers (f ∷ fs) xs = drop f.base xs
