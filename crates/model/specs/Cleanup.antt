-- coro.rs: spawn_task, start_finalizer, charge_slow; exec.rs: charge.
use Rattle.std.specs.Prelude.{ℕ, suc, Bool, true, false, not, ◌&&◌, List, [], ◌∷◌, ◌++◌, eqb, Option, Result, Some, None, Ok, Err}
use Rattle.lists.specs.Pick.{pick}
use Rattle.heap.specs.Word.{nil}
use Rattle.heap.specs.declared.fault.Fault.{Fault}
use Rattle.model.specs.State.{is_resumable, is_suspended}
use Rattle.model.specs.Object.{Rest, Coroutine, Absent, Is, with_closing, with_signal, with_task}
use Rattle.model.specs.World.{World, After, after, with_ready, with_finalize}
use Rattle.model.specs.Frames.{store_pc}
use Rattle.model.specs.Heap.{coro, set_coro, change_coro, refuse}
use Rattle.model.specs.Fuel.{unbank, arm_close, set_finalizing, spend}
use Rattle.model.specs.Coro.{coro_enter}
use Rattle.model.specs.declared.machine.Driver.{Driver}
use Rattle.model.specs.declared.machine.Charge.{Charge}
use Rattle.model.specs.declared.coro.Entered.{Entered}
use Rattle.model.specs.declared.coro.Started.{Started}

-- ---- tasks

abbrev pub join_ready : Coroutine → ℕ → World → After (Result ℕ Fault)
join_ready Absent v w = refuse w Fault.TypeError
join_ready (Is k r) v w =
    pick (not r.task && is_resumable k.state) (after (set_coro v k (with_task true r) (with_ready (w.ready ++ (v ∷ [])) w)) (Ok v))
    (after w (Ok v))

-- coro.rs: spawn_task. 01: "gives 2 for both"
unfoldable pub spawn_task : ℕ → World → After (Result ℕ Fault)
spawn_task v w = join_ready (coro w v) v w

-- ---- cleanups

abbrev pub coro_suspended : Coroutine → Bool
coro_suspended Absent = false
coro_suspended (Is k r) = is_suspended k.state

abbrev pub is_entered : Result Entered Fault → Bool
is_entered (Ok a) = true
is_entered (Err f) = false

-- co.closing = true, co.signal = signal
abbrev pub close : ℕ → Rest → Rest
close signal r = with_closing true (with_signal signal r)

abbrev pub started : Bool → ℕ → Started
started b n = record { entered = b; taken = n }

-- coro.rs: start_finalizer, with n words taken off so far: the first of the queue that is suspended and fits is entered
abbrev pub start_from : ℕ → List ℕ → World → After Started
start_from n [] w = after (set_finalizing false (with_finalize [] w)) (started false n)
start_from n (c ∷ queue) w =
    let next = start_from (suc n) queue w in
    let e = coro_enter c Driver.Finalize (with_finalize queue w) in
    pick (coro_suspended (coro w c) && is_entered e.answer)
    (after (set_finalizing true (change_coro c (λ k. k) (close nil) e.world)) (started true (suc n)))
    next

unfoldable pub start_finalizer : World → After Started
start_finalizer w = start_from 0 w.finalize (unbank w)

-- ---- charges

abbrev pub charge_done : ℕ → World → After Charge
charge_done taken w = after (arm_close (spend w)) (Charge.Done taken)

-- 01: "A charge that starts a cleanup takes no unit and answers 17 with nil, as an unwinding." (Close; Answer.antt gives the 17)
abbrev pub charge_or : After Started → After Charge
charge_or s = pick s.answer.entered (after s.world (Charge.Close s.answer.taken)) (charge_done s.answer.taken s.world)

-- 01: "Where charge_slow has fuel, a pc and cleanups ready, it stores pc first, even if no cleanup then starts."
abbrev pub charge_at : Option ℕ → World → After Charge
charge_at None w = charge_done 0 w
charge_at (Some pc) w = pick w.fuel.ready (charge_or (start_finalizer (store_pc pc w))) (charge_done 0 w)

-- coro.rs: charge_slow; without a pc no cleanup starts. 01, fault 10: "bank and fuel both used up"
unfoldable pub charge_slow : Option ℕ → World → After Charge
charge_slow pc w = pick (eqb (unbank w).fuel.fuel 0) (after (unbank w) Charge.Spent) (charge_at pc (unbank w))

-- exec.rs: charge, one unit of fuel
unfoldable pub charge : Option ℕ → World → After Charge
charge pc w = pick (eqb w.fuel.fuel 0) (charge_slow pc w) (after (spend w) (Charge.Done 0))
