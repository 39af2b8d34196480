-- THE SHEET of the instructions: each one's own tests, behind its gate and its charge, which left u. Order: as in coro.rs, exec.
use Rattle.std.specs.Prelude.{ℕ, not, true, ◌||◌, List, [], ◌∷◌}
use Rattle.heap.specs.declared.fault.Fault.{Fault}
use Rattle.heap.specs.declared.object.CoroState.{CoroState}
use Rattle.model.specs.World.{World}
use Rattle.model.specs.declared.machine.Active.{Active}
use Rattle.model.specs.declared.machine.Driver.{Driver}
use Rattle.model.specs.declared.exec.Step.{Step}
use Rattle.claims_sheet.specs.Lines.{Lines, lines, line, stop, accept}
use Rattle.claims_sheet.specs.Words.{word, found, dead, no_coroutine, is_done, core_of, rest_of, code, is_in, state, resumable, suspended, too_high}
use Rattle.claims_sheet.specs.Moves.{pc_stored, put, iterator_done, entered, entered_closing, sent_unless_created, finished_with}

-- ---- Resume, ResumeThrow, CoroClose, iter_next

-- pc is stored first
abbrev pub resume : ℕ → ℕ → ℕ → ℕ → World → Lines Step
resume pc dst c src u =
    let z = pc_stored pc u in
    let v = word u c in
    lines
    (stop 1 (dead z v) z ∷ stop 2 (no_coroutine z v) z ∷ stop 3 (not (resumable (state z v))) z ∷ stop 4 (too_high z v) z ∷ [])
    (accept true Step.Frame (sent_unless_created (state z v) (core_of (found z v)).waiting (word u src) (entered v (Driver.Resume dst) z)))

-- pc is stored before 3 and 4; a Created one fails at once
abbrev pub resume_throw : ℕ → ℕ → ℕ → ℕ → World → Lines Step
resume_throw pc dst c src u =
    let z = pc_stored pc u in
    let v = word u c in
    lines
    (stop 1 (dead u v) u ∷ stop 2 (no_coroutine u v) u
    ∷ line 17 (is_in (CoroState.Created ∷ []) (state u v)) (Step.Fault (Fault.Throw (word u src))) (finished_with v CoroState.Failed (word u src) u)
    ∷ stop 3 (not (resumable (state z v))) z ∷ stop 4 (too_high z v) z ∷ [])
    (line 17 true (Step.Unwind (Fault.Throw (word u src))) (entered v (Driver.Resume dst) z))

-- pc is stored before 4; a Created one has finished, a finished one stays, and both answer nil
abbrev pub coro_close : ℕ → ℕ → ℕ → ℕ → World → Lines Step
coro_close pc dst c src u =
    let z = pc_stored pc u in
    let v = word u c in
    lines
    (stop 1 (dead u v) u ∷ stop 2 (no_coroutine u v) u ∷ stop 3 (is_in (CoroState.Running ∷ []) (state u v)) u
    ∷ accept (is_in (CoroState.Created ∷ []) (state u v)) Step.Next (put dst 0 (finished_with v CoroState.Returned 0 u))
    ∷ accept (not (suspended (state u v))) Step.Next (put dst 0 u)
    ∷ stop 4 (too_high z v) z ∷ [])
    (line 17 true (Step.Unwind (Fault.Throw (word u src))) (entered_closing (word u src) v (Driver.Resume dst) z))

-- pc is stored before 3 and 4; an iterator that is done, or a source that has returned, ends the loop
abbrev pub iter_next : ℕ → ℕ → ℕ → ℕ → ℕ → World → Lines Step
iter_next pc has iter val src u =
    let z = pc_stored pc u in
    let v = word u src in
    lines
    (stop 1 (dead u v) u ∷ stop 2 (no_coroutine u v) u
    ∷ accept (is_done (found u (word u iter)) || is_in (CoroState.Returned ∷ []) (state u v)) Step.Next (put has 0 (iterator_done (word u iter) u))
    ∷ stop 2 (is_in (CoroState.Awaiting ∷ []) (state u v)) u
    ∷ stop 3 (not (resumable (state z v))) z ∷ stop 4 (too_high z v) z ∷ [])
    (accept true Step.Frame (sent_unless_created (state z v) (core_of (found z v)).waiting 0 (entered v (Driver.Iter has val (word u iter)) z)))

-- ---- CoroStatus, CoroCurrent, CoroKey, CoroResult

abbrev pub coro_status : ℕ → ℕ → World → Lines Step
coro_status dst c u =
    let v = word u c in
    lines (stop 1 (dead u v) u ∷ stop 2 (no_coroutine u v) u ∷ []) (accept true Step.Next (put dst (code (state u v)) u))

abbrev pub innermost : List Active → ℕ
innermost [] = 0
innermost (a ∷ chain) = a.coro

abbrev pub coro_current : ℕ → World → Lines Step
coro_current dst u = lines [] (accept true Step.Next (put dst (innermost u.chain) u))

abbrev pub coro_key : ℕ → ℕ → World → Lines Step
coro_key dst c u =
    let v = word u c in
    lines (stop 1 (dead u v) u ∷ stop 2 (no_coroutine u v) u ∷ []) (accept true Step.Next (put dst (rest_of (found u v)).key u))

abbrev pub coro_result : ℕ → ℕ → World → Lines Step
coro_result dst c u =
    let v = word u c in
    lines (stop 1 (dead u v) u ∷ stop 2 (no_coroutine u v) u ∷ stop 3 (not (is_in (CoroState.Returned ∷ []) (state u v))) u ∷ [])
    (accept true Step.Next (put dst (rest_of (found u v)).result u))
