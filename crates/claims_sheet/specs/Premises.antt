-- The premises of the PEP 342 theorems, and of the three mistakes, can be met: calls after which all premises of a theorem hold. A field has
-- the name of its theorem; but `caught-at` is for `caught`, `yield-kv` for `yields-kv`, `sizes` for `size-kept` and `size-once`, `yield-5` for its two
-- neighbours too, and a theorem with the premises of another has that one's (docs/rules/PEP342.md).
use Rattle.std.specs.Prelude.{ℕ, ◌+◌, ◌-◌, ◌^◌, ◌≡◌, Bool, true, false, not, ◌&&◌, List, [], ◌∷◌, ◌++◌, length, get_or, take, drop, eqb, leb, None}
use Rattle.heap.specs.Coding.{in_range}
use Rattle.heap.specs.declared.fault.Fault.{Fault}
use Rattle.heap.specs.declared.heap.ResultKind.{ResultKind}
use Rattle.heap.specs.declared.object.CoroState.{CoroState}
use Rattle.model.specs.Lists.{is_nil, each}
use Rattle.model.specs.World.{World}
use Rattle.model.specs.Sound.{sound, is_none}
use Rattle.model.specs.Step.{tested}
use Rattle.model.specs.declared.machine.Cont.{Cont}
use Rattle.model.specs.declared.machine.Driver.{Driver}
use Rattle.model.specs.declared.machine.Frame.{Frame}
use Rattle.model.specs.declared.call.Op.{Op}
use Rattle.claims_sheet.specs.Words.{found, is_coroutine, is_done, core_of, rest_of, state, suspended, too_high, lacks_memory, no_slot}
use Rattle.claims_sheet.specs.Moves.{pc_stored, finished_with}
use Rattle.claims_sheet.specs.Charging.{used_up, searches, closable, queue_from, charged}
use Rattle.claims_sheet.specs.Suspending.{asks, is_loop}
use Rattle.claims_sheet.specs.Yields.{next_key, keyed}
use Rattle.claims_sheet.specs.Endings.{too_large, is_object}
use Rattle.claims_sheet.specs.Unwinding.{takers, is_entry, is_body, own_signal, driven}
use Rattle.claims_sheet.specs.Sheet.{lie}
use Rattle.claims_sheet.specs.Pep342.{pays, at, held, finds, enters, only_created, any_suspended, any_resumable, any_finished, forbidden}
use Rattle.claims_sheet.specs.Pep342Yields.{suspends, closing, driver, keyable}
use Rattle.claims_sheet.specs.Pep342Ends.{raises, thrown, risen, lets_all, arrived}
use Rattle.claims_sheet.specs.SmallRuns as Runs
use Rattle.claims_sheet.specs.SmallRuns.{c, d, run, begun, holding, running, yielded, ignoring, looping, itself, tall}

-- ---- send, throw, close: dst, c and src, and what else; next

abbrev pub into : List Op → ℕ → ℕ → ℕ → ℕ → (ℕ → World → World → Bool) → Bool
into os pc dst c src more = let w = run os in pays pc (lie (dst ∷ c ∷ src ∷ []) w) w && more (held c pc w) (charged pc w) (at pc w)

abbrev pub loop : List Op → ℕ → (ℕ → World → World → Bool) → Bool
loop os pc more = let w = run os in (pays pc (lie (2 ∷ 1 ∷ 3 ∷ 0 ∷ []) w) w && not (is_done (found (charged pc w) (held 1 pc w)))) && more (held 0 pc w) (charged pc w) (at pc w)

-- a finished one, a failed one
abbrev pub returned_run : List Op
returned_run = running 1 (Op.Finish ResultKind.Dyn 7 ∷ [])

abbrev pub failed_run : List Op
failed_run = holding 1 (Op.ResumeThrow 2 1 0 2 ∷ [])

-- ---- yields and awaits, from register 0 to register 0

abbrev pub yield_suspends : List Op → ℕ → (World → Bool) → Bool
yield_suspends os pc more =
    let w = run os in
    let u = charged pc w in
    (pays pc (lie (0 ∷ 0 ∷ []) w) w && (not (is_nil u.chain) && keyable u)) && (suspends (pc_stored pc (keyed u)) && more (pc_stored pc (keyed u)))

abbrev pub yield_kv_suspends : List Op → ℕ → (World → Bool) → Bool
yield_kv_suspends os pc more = let w = run os in pays pc (lie (0 ∷ 0 ∷ 0 ∷ []) w) w && (suspends (at pc w) && more (at pc w))

abbrev pub await_suspends : List Op → ℕ → (World → Bool) → Bool
await_suspends os pc more = let w = run os in pays pc (lie (0 ∷ 0 ∷ []) w) w && (suspends (at pc w) && more (at pc w))

abbrev pub is_host : Driver → Bool
is_host (Driver.Resume dst) = false
is_host (Driver.Iter has val iter) = false
is_host Driver.Host = true
is_host Driver.Finalize = false

abbrev pub one_register : Driver → Bool
one_register (Driver.Resume dst) = false
one_register (Driver.Iter has val iter) = eqb has val
one_register Driver.Host = false
one_register Driver.Finalize = false

-- the host goes on with it; it is handed over, and a charge starts its cleanup
abbrev pub hosted : List Op → List Op
hosted os = Op.StopRun ∷ Op.HostEntry c 0 ∷ os

abbrev pub cleaned : List Op → List Op
cleaned os = Op.HandOver c ∷ Op.CoroCurrent 4 1 ∷ os

-- ---- a word is raised, and leaves n frames

abbrev pub top_of : List Frame → Frame
top_of [] = record { func = 0; pc = 0; base = 0; closure = 0; cont = Cont.Discard }
top_of (f ∷ fs) = f

abbrev pub comes : List Op → Fault → ℕ → (ℕ → Frame → World → Bool) → Bool
comes os e n more =
    let w = run os in
    let r = risen e None w in
    let v = thrown e None w in
    let above = take n r.frames in
    let below = drop n r.frames in
    (raises e None w && lets_all above below v r) && more v (top_of below) (arrived above below v r)

-- a coroutine of function f that is suspended inside a call
abbrev pub within : ℕ → List Op → List Op
within f os = running f (Op.FunctionCall 5 1 Cont.Discard ∷ Op.Yield 8 0 0 ∷ os)

-- .. of a caller that catches
abbrev pub caught : List Op
caught = Op.Grant 100 ∷ Op.HostCall 3 ∷ Op.CoroNew 1 0 1 0 ∷ Op.Resume 2 1 0 1 ∷ Op.FunctionCall 5 1 Cont.Discard ∷ Op.Yield 8 0 0 ∷ []

-- it is suspended, fits, and catches nothing
abbrev pub uncaught_in : ℕ → World → Bool
uncaught_in v z = enters any_suspended v z && each (λ f. is_nil (takers f z)) (core_of (found z v)).frames

-- two that wait with more words than fit; one such, and behind it one that fits: all are handed over
abbrev pub tallest : List Op
tallest = running 1 (Op.FunctionCall 5 1 Cont.Discard ∷ Op.Yield 8 0 0 ∷ Op.CoroNew 3 1 1 0 ∷ Op.Resume 4 2 1 2 ∷ Op.FunctionCall 5 1 Cont.Discard ∷ Op.Yield 8 0 0 ∷ Op.FunctionCall 6 0 Cont.Discard ∷ Op.HandOver c ∷ Op.HandOver d ∷ [])

abbrev pub tall_and_low : List Op
tall_and_low = running 1 (Op.FunctionCall 5 1 Cont.Discard ∷ Op.Yield 8 0 0 ∷ Op.CoroNew 3 1 0 0 ∷ Op.Resume 4 2 1 2 ∷ Op.Yield 8 0 0 ∷ Op.FunctionCall 6 0 Cont.Discard ∷ Op.HandOver c ∷ Op.HandOver d ∷ [])

-- the charge of CoroCurrent passes v, which stands in the queue behind n words, as it does not fit; `left` words stand from the next that can be closed on
abbrev pub missed : List Op → ℕ → ℕ → ℕ → Bool
missed os n v left =
    let w = run os in let z = pc_stored 4 w in
    (sound w && (not (is_nil w.frames) && (lie (0 ∷ []) w && (not (used_up w) && searches w))))
    && ((eqb (get_or w.finalize n 0) v && (is_nil (queue_from z (take n w.finalize)) && (suspended (state z v) && too_high z v))) && eqb (length (queue_from z (drop (n + 1) w.finalize))) left)

-- three units, all used, and a coroutine in the cleanup queue
abbrev pub fuel_used_up : List Op
fuel_used_up = begun 3 (Op.CoroNew 1 0 1 0 ∷ Op.Resume 2 1 0 2 ∷ Op.Yield 8 0 0 ∷ Op.HandOver c ∷ [])

abbrev pub returns : ResultKind → ℕ → Bool
returns kind v =
    let w = run (running 1 []) in
    sound w && (is_body (top_of w.frames).cont && (not (too_large kind v) && (not (is_object kind v && lacks_memory w w.setup.costs.int) && not (is_object kind v && no_slot w))))

pub record Premises : Type 0 where
  -- Pep342
  pub send-suspended : into (yielded 1 []) 3 1 0 2 (λ v u z. enters any_suspended v z) ≡ true
  pub send-created : into (holding 1 []) 2 1 0 2 (λ v u z. enters only_created v z) ≡ true
  pub send-refused : into itself 4 1 0 1 (λ v u z. finds forbidden v z) && (into returned_run 3 1 0 2 (λ v u z. finds forbidden v z) && into failed_run 3 1 0 2 (λ v u z. finds forbidden v z)) ≡ true
  pub send-overflow : into tall 3 0 0 0 (λ v u z. finds any_resumable v z && too_high z v) && into (holding 2 []) 2 1 0 2 (λ v u z. finds any_resumable v z && too_high z v) ≡ true
  pub throw-created : into (holding 1 []) 2 1 0 2 (λ v u z. finds only_created v u) ≡ true
  pub throw-overflow : into tall 3 0 0 0 (λ v u z. finds any_suspended v z && too_high z v) ≡ true
  pub close-finished : into returned_run 3 1 0 2 (λ v u z. finds any_finished v u) ≡ true
  pub close-running : into itself 4 1 0 1 (λ v u z. finds (CoroState.Running ∷ []) v u) ≡ true
  pub next-suspended : loop (looping (Op.Yield 8 0 0 ∷ [])) 3 (λ v u z. enters (CoroState.Yielded ∷ []) v z) ≡ true
  pub next-created : loop (holding 1 (Op.MakeIterator c ∷ Op.PutWord 1 d ∷ [])) 2 (λ v u z. enters only_created v z) ≡ true
  pub next-returned : loop returned_run 3 (λ v u z. finds (CoroState.Returned ∷ []) v u) ≡ true
  pub next-failed : loop failed_run 3 (λ v u z. finds (CoroState.Failed ∷ []) v z) ≡ true
  pub next-overflow : loop (holding 2 (Op.MakeIterator c ∷ Op.PutWord 1 d ∷ [])) 2 (λ v u z. finds (CoroState.Created ∷ CoroState.Yielded ∷ []) v z && too_high z v) ≡ true
  -- Pep342Yields: to Resume and a loop; while closing, to Resume, to the host (it awaited while it was closed) and to a cleanup
  pub yield-delivers : yield_suspends (running 1 []) 8 (λ z. not (closing z)) && yield_suspends (looping []) 8 (λ z. not (closing z) && is_loop (driver z)) ≡ true
  pub yield-closing : yield_suspends (ignoring []) 60 (λ z. closing z && asks (driver z)) ≡ true
  pub yield-closing-quiet : yield_suspends (ignoring (Op.Await 60 0 0 ∷ hosted [])) 61 (λ z. closing z && is_host (driver z)) && yield_suspends (yielded 3 (cleaned (Op.Unwind (Fault.Throw 0) None ∷ []))) 60 (λ z. closing z && (not (asks (driver z)) && not (is_host (driver z)))) ≡ true
  pub yield-kv : yield_kv_suspends (running 1 []) 8 (λ z. not (closing z)) && yield_kv_suspends (ignoring []) 60 (λ z. closing z && asks (driver z)) ≡ true
  pub await-delivers : await_suspends (ignoring []) 60 (λ z. closing z && not (is_loop (driver z))) ≡ true
  pub await-in-loop : await_suspends (looping []) 8 (λ z. is_loop (driver z)) ≡ true
  pub return-delivers : returns ResultKind.None 0 && (returns ResultKind.Dyn 7 && (returns ResultKind.I64 (2 ^ 47) && returns ResultKind.U64 5)) ≡ true
  -- Pep342Ends: in the top frame, and below a call; an error object too
  pub caught-at : comes (yielded 3 (Op.CoroClose 3 1 0 2 ∷ [])) (Fault.Throw 9) 0 (λ v x u. not (is_nil (takers x u)) && not (used_up u)) && comes (within 3 (Op.CoroClose 3 1 0 2 ∷ [])) Fault.TypeError 1 (λ v x u. not (is_nil (takers x u)) && not (used_up u)) ≡ true
  pub caught-unpaid : comes (Op.HostCall 3 ∷ []) (Fault.Throw 9) 0 (λ v x u. not (is_nil (takers x u)) && used_up u) ≡ true
  pub signal-escapes : comes (within 1 (Op.CoroClose 3 1 0 2 ∷ [])) (Fault.Throw 0) 1 (λ v x u. is_nil (takers x u) && (is_body x.cont && own_signal u.chain v u)) ≡ true
  pub escapes-driven : comes (holding 1 (hosted [])) (Fault.Throw 7) 0 (λ v x u. is_nil (takers x u) && (is_body x.cont && (not (own_signal u.chain v u) && driven u.chain)))
      && comes (yielded 1 (cleaned [])) (Fault.Throw 7) 0 (λ v x u. not (own_signal u.chain v u) && driven u.chain) ≡ true
  pub uncaught : comes (running 1 []) (Fault.Throw 7) 1 (λ v x u. is_nil (takers x u) && is_entry x.cont) ≡ true
  -- Pep342Closes: it is suspended inside a call
  pub close-uncaught : into (within 1 []) 3 1 0 2 (λ v u z. uncaught_in v z && sound (tested (run (within 1 [])) (Op.CoroClose 3 1 0 2)).world) ≡ true
  pub throw-uncaught : into caught 3 1 0 1 (λ v u z. (uncaught_in v z && not (rest_of (found z v)).closing) && (sound (tested (run caught) (Op.ResumeThrow 3 1 0 1)).world
      && (not (is_nil (takers (top_of z.frames) (finished_with v CoroState.Failed 0 z))) && not (used_up z)))) ≡ true
  -- Pep342Deletion
  pub hand-over : let w = run (yielded 1 []) in is_coroutine (found w c) && (suspended (state w c) && not (rest_of (found w c)).finalized) ≡ true
  pub hand-over-refused : let w = run (yielded 1 (Op.HandOver c ∷ [])) in let x = run (holding 1 []) in (suspended (state w c) && (rest_of (found w c)).finalized) && not (suspended (state x c)) ≡ true
  pub cleanup-starts : let w = run (yielded 1 (Op.HandOver c ∷ [])) in (not (is_nil w.frames) && not (used_up w)) && (searches w && closable (pc_stored 4 w) c) ≡ true
  -- Pep342Departs: it awaited inside its close, and is resumed; it is suspended with more than fits above the caller's frames; no unit is left, and then there are two
  pub still-closing : into (ignoring (Op.Await 60 0 0 ∷ [])) 4 1 0 2 (λ v u z. enters any_suspended v z && (rest_of (found z v)).closing) ≡ true
  pub signal-later : comes (ignoring (Op.Await 200 0 0 ∷ Op.Resume 4 1 0 2 ∷ [])) (Fault.Throw 9) 0 (λ v x u. is_nil (takers x u) && (is_body x.cont && (own_signal u.chain v u && (asks (driver u) && not (is_loop (driver u)))))) ≡ true
  pub never-closed : let w = run (running 1 (Op.FunctionCall 5 1 Cont.Discard ∷ Op.Yield 8 0 0 ∷ Op.FunctionCall 6 0 Cont.Discard ∷ Op.HandOver c ∷ [])) in
      (not (is_nil w.frames) && (lie (0 ∷ []) w && (not (used_up w) && searches w))) && ((eqb (length w.finalize) 1 && eqb (get_or w.finalize 0 0) c)
      && (is_coroutine (found w c) && ((rest_of (found w c)).finalized && too_high (pc_stored 4 w) c))) ≡ true
  pub never-passed : missed tallest 0 c 0 && (missed tallest 1 d 0 && missed tall_and_low 0 c 1) ≡ true
  pub spent : let w = run fuel_used_up in sound w && (not (is_nil w.frames) && (used_up w && not (is_nil w.finalize))) ≡ true
  pub unarmed : let w = run (fuel_used_up ++ (Op.CoroCurrent 4 1 ∷ Op.Grant 2 ∷ [])) in is_none w.fuel.bank && (not (used_up w) && (w.fuel.ready && not (is_nil w.finalize))) ≡ true
  -- Mistakes: a body that has its creation's registers; a loop with one register for both
  pub sizes : let w = run (running 1 []) in let r = rest_of (found w c) in (pays 8 (lie (0 ∷ 0 ∷ []) w) w && suspends (at 8 w))
      && (is_body (top_of w.frames).cont && (leb (length (drop (top_of w.frames).base w.stack)) r.maxregs && leb 1 r.maxframes)) ≡ true
  pub val-first : yield_kv_suspends (holding 1 (Op.MakeIterator c ∷ Op.PutWord 1 d ∷ Op.IterNext 2 2 1 2 0 ∷ [])) 8 (λ z. not (closing z) && one_register (driver z)) ≡ true
  pub yield-5 : let w = run (begun 9 []) in pays 1 (lie (0 ∷ 0 ∷ 0 ∷ []) w) w && is_nil (charged 1 w).chain ≡ true
  pub yield-7 : let w = run (Runs.given_key (2 ^ 63 - 1)) in (pays 8 (lie (0 ∷ 0 ∷ []) w) w && not (is_nil (charged 8 w).chain)) && not (in_range 63 (next_key (charged 8 w))) ≡ true
