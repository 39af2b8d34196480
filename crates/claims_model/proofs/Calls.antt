-- Every call has the shape. A call that is added owes its clauses of `plan` (Entry.antt), by which the theorems go, of `as-typed`
-- (Operands.antt) and of `shape`; what is claimed of lists follows.
use Prim.Native.Nat.{ℕ, ◌+◌}
use mathlib.Core.Path.{◌≡◌, refl, sym, ap, ◌∙◌, subst}
use mathlib.Core.Bool.{Bool, true, false, not, ◌&&◌, ◌||◌}
use mathlib.Core.List.{List, [], ◌∷◌, ◌++◌}
use mathlib.Core.Option.{Option, none, some}
use lib.ListN.{get_or}
use Rattle.lists.specs.Pick.{pick}
use Rattle.heap.specs.Word.{nil}
use Rattle.heap.specs.Table.{Slot}
use Rattle.heap.specs.declared.fault.Fault.{Fault}
use Rattle.std.specs.Prelude.{Result, None, Ok, Err}
use Rattle.model.specs.declared.coro.Entered.{Entered}
use Rattle.heap.specs.declared.object.CoroState.{CoroState}
use Rattle.model.specs.Lists.{is_nil}
use Rattle.model.specs.State.{is_suspended, is_resumable}
use Rattle.model.specs.Program.{is_function}
use Rattle.model.specs.Object.{Core, Rest, Object, Coroutine, Absent, Is, is_done, with_task, with_finalized}
use Rattle.model.specs.World.{World, After, after, and_then, with_ready, with_finalize, with_fuel}
use Rattle.model.specs.Frames.{is_coro, on_top, set_pc, store_pc}
use Rattle.model.specs.Heap.{coro, set_coro, alloc}
use Rattle.model.specs.Fuel.{set_finalizing}
use Rattle.model.specs.Coro.{coro_enter}
use Rattle.model.specs.Cleanup.{coro_suspended, join_ready, spawn_task}
use Rattle.model.specs.Machine.{push_frame, finish, unwind}
use Rattle.model.specs.Exec.{coro_new, coro_new_indirect, spawn, yield, yield_kv, await, resume, resume_throw, coro_close, coro_status, coro_current, coro_key, coro_result, iter_next}
use Rattle.model.specs.Gate.{refused, all_in, on_frame, on_host}
use Rattle.model.specs.Added.{accepted, answer_made, pushed_or, host_call, host_arrive, host_entry, cont_allowed, function_call, put_word, iterator_over, make_iterator, take_outcome, hand_over_as, hand_over, refuel, grant, granted, grant_too_large}
use Rattle.model.specs.Step.{call}
use Rattle.model.specs.declared.call.Answer.{Answer}
use Rattle.model.specs.declared.machine.Cont.{Cont}
use Rattle.model.specs.declared.machine.Driver.{Driver}
use Rattle.model.specs.declared.machine.Frame.{Frame}
use Rattle.model.specs.declared.call.Op.{Op}
use Rattle.claims_model.specs.Says.{nothing, gets, closes}
use Rattle.claims_model.specs.Touches.{May, may, may_touch}
use Rattle.claims_model.specs.Steps.{seen_of}
use Rattle.claims_model.proofs.Entry.{Aim, enters, suspends, neither, awaits, act, nobody, entry, accepts, sent_to, entry_by}
use Rattle.claims_model.proofs.Held.{Returns, event_by}
use Rattle.claims_model.proofs.Cores.{no_both, cores, coro_in, object_in, set_rest, m-plain, m-ending}
use Rattle.claims_model.proofs.Shape as S
use Rattle.claims_model.proofs.Shape.{view, Worked, done, tops, puts, Shape}
use Rattle.claims_model.proofs.Under.{keeps-pc}
use Rattle.claims_model.proofs.Instr.{instr-shape}
use Rattle.claims_model.proofs.Quiet.{Calm, calm-worked, alloc_same, same-worked}
use Rattle.claims_model.proofs.Arms.{PushCase, p-in, p-out, push_case, push-worked, new-arm, indirect-arm, spawn-arm, status-arm, current-arm, key-arm, result-arm}
use Rattle.claims_model.proofs.Deliver.{yield-arm, yield_kv-arm, await-arm}
use Rattle.claims_model.proofs.Switches.{sent_w, Tried, t-in, t-out, try-at, resume-arm, throw-arm, close-arm, iter-arm}
use Rattle.claims_model.proofs.Endings.{Done, d-works, d-returns, finish-done, unwind-done, stop-stops}

-- ---- calls that are no instructions

rest-calm : (v : ℕ) (k : Core) (r s : Rest) (w u : World) → coro w v ≡ Is k r → seen_of (Is k s) ≡ seen_of (Is k r) → u.setup ≡ w.setup → u.stack ≡ w.stack → u.frames ≡ w.frames → u.chain ≡ w.chain → u.slots ≡ (set_coro v k s w).slots → Calm w u
rest-calm v k r s w u e m a b c d f = record { setup = a; stack = b; frames = c; chain = d; cores = λ x. ap (λ xs. cores xs x) f ∙ set_rest w.slots v e s m x }

made-world : (w : World) (m : Result ℕ Fault) → (answer_made w m).world ≡ w
made-world w (Ok v) = refl
made-world w (Err f) = refl

-- nothing is touched
abbrev touchless : Option May
touchless = may none none false

task-worked : (v : ℕ) (w : World) → Worked touchless m-plain (view w) (view (and_then (spawn_task v w) answer_made).world)
unfolding spawn_task pick
task-worked v w = go (coro w v) refl
  where
    test : (k : Core) (r : Rest) → coro w v ≡ Is k r → (b : Bool) → Worked touchless m-plain (view w) (view (and_then (pick b (after (set_coro v k (with_task true r) (with_ready (w.ready ++ (v ∷ [])) w)) (Ok v)) (after w (Ok v))) answer_made).world)
    test k r e true = calm-worked (rest-calm v k r (with_task true r) w (set_coro v k (with_task true r) (with_ready (w.ready ++ (v ∷ [])) w)) e refl refl refl refl refl refl) done
    test k r e false = done

    go : (y : Coroutine) → coro w v ≡ y → Worked touchless m-plain (view w) (view (and_then (join_ready y v w) answer_made).world)
    go Absent e = done
    go (Is k r) e = test k r e (not r.task && is_resumable k.state)

-- behind a gate
on-host : {m : Option May} (ok : Bool) (body : World → After Answer) (w : World) → Worked m m-plain (view w) (view (body w).world) → Worked m m-plain (view w) (view (on_host ok body w).world)
unfolding on_host pick
on-host {m} ok body w t = go (is_nil w.frames) ok
  where
    go : (none ok : Bool) → Worked m m-plain (view w) (view (pick (not none) (refused w Fault.Busy) (pick (not ok) (refused w Fault.BadOperand) (body w))).world)
    go false ok = done
    go true false = done
    go true true = t

on-frame : {m : Option May} (ok : Bool) (body : World → After Answer) (w : World) → (ok ≡ true → Worked m m-plain (view w) (view (body w).world)) → Worked m m-plain (view w) (view (on_frame ok body w).world)
unfolding on_frame pick
on-frame {m} ok body w t = go (is_nil w.frames) ok refl
  where
    go : (none b : Bool) → ok ≡ b → Worked m m-plain (view w) (view (pick none (refused w Fault.NoFrame) (pick (not b) (refused w Fault.BadOperand) (body w))).world)
    go true b e = done
    go false false e = done
    go false true e = t e

host-worked : (f : ℕ) (w : World) → Worked (may none none true) m-plain (view w) (view (host_call f w).world)
unfolding host_call
host-worked f w = pushed (push_frame f nil Cont.Entry w) (push_case f nil Cont.Entry w)
  where
    pushed : (o : After (Result ℕ Fault)) → PushCase f nil Cont.Entry w o → Worked (may none none true) m-plain (view w) (view (pushed_or w o.world o.answer).world)
    pushed o (p-in n) = push-worked f nil Cont.Entry n w refl refl
    pushed o (p-out e) = done

allowed-plain : (w : World) (c : Cont) → cont_allowed w c ≡ true → is_coro c ≡ false
allowed-plain w Cont.Entry h = refl
allowed-plain w (Cont.Write r) h = refl
allowed-plain w (Cont.Dyn r) h = refl
allowed-plain w (Cont.Value r) h = refl
allowed-plain w Cont.Discard h = refl
allowed-plain w Cont.Coro h = sym h

second-true : (a b : Bool) → (a && b) ≡ true → b ≡ true
second-true true b h = h
second-true false b h = no_both h refl

function-worked : (pc f : ℕ) (cont : Cont) (w : World) → (is_function w.setup f && cont_allowed w cont) ≡ true → Worked (may (some pc) none true) m-plain (view w) (view (function_call pc f cont w).world)
unfolding function_call
function-worked pc f cont w ok = pushed (allowed-plain w cont (second-true (is_function w.setup f) (cont_allowed w cont) ok)) (push_frame f nil cont u) (push_case f nil cont u)
  where
    u : World
    u = store_pc pc w

    pushed : is_coro cont ≡ false → (o : After (Result ℕ Fault)) → PushCase f nil cont u o → Worked (may (some pc) none true) m-plain (view w) (view (pushed_or w o.world o.answer).world)
    pushed e o (p-in n) = tops (set_pc pc) (keeps-pc pc) (pc, refl, refl) (push-worked f nil cont n u refl e)
    pushed e o (p-out x) = done

put-worked : (r v : ℕ) (w : World) → Worked (may none (some r) false) m-plain (view w) (view (put_word r v w).world)
unfolding put_word
put-worked r v w = puts r v refl done

iterator-worked : (v : ℕ) (w : World) → Worked touchless m-plain (view w) (view (make_iterator v w).world)
unfolding make_iterator
iterator-worked v w = go (coro w v)
  where
    made : After (Result ℕ Fault)
    made = alloc w.setup.costs.iter (Object.Iter v false None) w

    go : (y : Coroutine) → Worked touchless m-plain (view w) (view (iterator_over y v w).world)
    go Absent = done
    go (Is k r) = same-worked (alloc_same w.setup.costs.iter (Object.Iter v false None) w refl) (subst (λ z. Worked touchless m-plain (view made.world) (view z)) (sym (made-world made.world made.answer)) done)

hand-worked : (v : ℕ) (w : World) → Worked touchless m-plain (view w) (view (hand_over v w).world)
unfolding hand_over pick
hand-worked v w = go (coro w v) refl
  where
    test : (k : Core) (r : Rest) → coro w v ≡ Is k r → (b : Bool) → Worked touchless m-plain (view w) (view (pick b (refused w Fault.InvalidCoroState) (accepted (set_finalizing w.finalizing (set_coro v k (with_finalized true r) (with_finalize (w.finalize ++ (v ∷ [])) w))))).world)
    test k r e true = done
    test k r e false = calm-worked (rest-calm v k r (with_finalized true r) w (set_finalizing w.finalizing (set_coro v k (with_finalized true r) (with_finalize (w.finalize ++ (v ∷ [])) w))) e refl refl refl refl refl refl) done

    go : (y : Coroutine) → coro w v ≡ y → Worked touchless m-plain (view w) (view (hand_over_as y v w).world)
    go Absent e = done
    go (Is k r) e = test k r e (not (is_suspended k.state) || r.finalized)

grant-worked : (n : ℕ) (w : World) → Worked touchless m-plain (view w) (view (grant n w).world)
unfolding grant pick
grant-worked n w = go (grant_too_large n w)
  where
    go : (b : Bool) → Worked touchless m-plain (view w) (view (pick b (refused w Fault.GrantTooLarge) (accepted (with_fuel (refuel w.fuel.bank (granted n w) w.fuel) w))).world)
    go true = done
    go false = done

-- ---- host entry

hosted-world : (x : ℕ) (w : World) (e : Result Entered Fault) → sent_w x w e ≡ (host_arrive x w e).world
hosted-world x w (Ok Entered.Fresh) = refl
hosted-world x w (Ok (Entered.Suspended d)) = refl
hosted-world x w (Err f) = refl

entry-shape : (c v : ℕ) (w : World) → Shape w (Op.HostEntry c v) (on_host true (host_entry c v) w).world
unfolding on_host host_entry pick
entry-shape c v w = go (is_nil w.frames) refl
  where
    e : After (Result Entered Fault)
    e = coro_enter c Driver.Host w

    by : (b : Bool) → is_nil w.frames ≡ b → entry_by (act w (Op.HostEntry c v)) w ≡ pick (not b) nobody (pick (accepts w c) (entry c Driver.Host (sent_to (coro w c) (gets v))) nobody)
    by b h = ap (λ x. pick (not x) nobody (pick (accepts w c) (entry c Driver.Host (sent_to (coro w c) (gets v))) nobody)) h

    top : (fs : List Frame) → is_nil fs ≡ true → fs ≡ on_top (set_pc 0) fs
    top [] h = refl
    top (f ∷ fs) h = no_both h refl

    tried : (z : World) → is_nil w.frames ≡ true → Tried touchless w 0 c Driver.Host (gets v) z → Shape w (Op.HostEntry c v) z
    tried z h (t-in a r t) = S.enters c Driver.Host (sent_to (coro w c) (gets v)) (record { entry = by true h ∙ ap (λ b. pick b (entry c Driver.Host (sent_to (coro w c) (gets v))) nobody) a; takes = refl }) t
    tried z h (t-out a t) = S.works (record { entry = by true h ∙ ap (λ b. pick b (entry c Driver.Host (sent_to (coro w c) (gets v))) nobody) a; takes = refl }) m-plain refl t

    go : (b : Bool) → is_nil w.frames ≡ b → Shape w (Op.HostEntry c v) (pick (not b) (refused w Fault.Busy) (and_then e (host_arrive v))).world
    go false h = S.works (record { entry = by false h; takes = refl }) m-plain refl done
    go true h =
        tried (host_arrive v e.world e.answer).world h
        (subst (Tried touchless w 0 c Driver.Host (gets v)) (hosted-world v e.world e.answer)
        (try-at w 0 c Driver.Host v w (record { setup = refl; stack = refl; frames = top w.frames h; chain = refl; slots = refl; used = refl }) done))

-- ---- finish and unwind

done-shape : (w : World) (o : Op) (x : ℕ) (z : World) → S.Says w o nobody false → (S.is_ending (act w o) ≡ true) × (may_touch o ≡ none) → S.mode_of (act w o) ≡ m-ending → ((c : ℕ) → event_by (act w o) w c ≡ Returns x) → Done x (view w) z → Shape w o z
done-shape w o x z e n i g (d-works t) = S.works e m-ending i (subst (λ m. Worked m m-ending (view w) (view z)) (sym n.1) t)
done-shape w o x z e n i g (d-returns u f fs a chain t r) = S.returns u x f fs a chain e n g t r

-- ---- the table

plain : ℕ → List ℕ → List (Slot Object) → Aim
plain b s xs = neither

pub shape : (w : World) (o : Op) → Shape w o (call o w).world
unfolding call plain take_outcome
shape w (Op.CoroNew pc dst f argc) = instr-shape w (Op.CoroNew pc dst f argc) pc _ plain (coro_new dst f argc) refl (pc, refl, refl) (new-arm pc dst f argc)
shape w (Op.CoroNewIndirect pc dst callee argc) = instr-shape w (Op.CoroNewIndirect pc dst callee argc) pc _ plain (coro_new_indirect dst callee argc) refl (pc, refl, refl) (indirect-arm pc dst callee argc)
shape w (Op.Spawn pc dst callee argc) = instr-shape w (Op.Spawn pc dst callee argc) pc _ plain (spawn pc dst callee argc) refl (pc, refl, refl) (spawn-arm pc dst callee argc)
shape w (Op.Yield pc dst src) = instr-shape w (Op.Yield pc dst src) pc _ (λ b s xs. suspends CoroState.Yielded dst (get_or s (b + src) 0)) (yield pc dst src) refl (pc, refl, refl) (yield-arm pc dst src)
shape w (Op.YieldKv pc dst src key) = instr-shape w (Op.YieldKv pc dst src key) pc _ (λ b s xs. suspends CoroState.Yielded dst (get_or s (b + src) 0)) (yield_kv pc dst src key) refl (pc, refl, refl) (yield_kv-arm pc dst src key)
shape w (Op.Await pc dst src) = instr-shape w (Op.Await pc dst src) pc _ (λ b s xs. suspends CoroState.Awaiting dst (get_or s (b + src) 0)) (await pc dst src) refl (pc, refl, refl) (await-arm pc dst src)
shape w (Op.Resume pc dst c src) = instr-shape w (Op.Resume pc dst c src) pc _ (λ b s xs. enters (get_or s (b + c) 0) (Driver.Resume dst) (gets (get_or s (b + src) 0)) true) (resume pc dst c src) refl (pc, refl, refl) (resume-arm pc dst c src)
shape w (Op.ResumeThrow pc dst c src) = instr-shape w (Op.ResumeThrow pc dst c src) pc _ (λ b s xs. enters (get_or s (b + c) 0) (Driver.Resume dst) nothing (coro_suspended (coro_in xs (get_or s (b + c) 0)))) (resume_throw pc dst c src) refl (pc, refl, refl) (throw-arm pc dst c src)
shape w (Op.CoroClose pc dst c src) = instr-shape w (Op.CoroClose pc dst c src) pc _ (λ b s xs. enters (get_or s (b + c) 0) (Driver.Resume dst) (closes (get_or s (b + src) 0)) (coro_suspended (coro_in xs (get_or s (b + c) 0)))) (coro_close pc dst c src) refl (pc, refl, refl) (close-arm pc dst c src)
shape w (Op.CoroStatus pc dst c) = instr-shape w (Op.CoroStatus pc dst c) pc _ plain (coro_status dst c) refl (pc, refl, refl) (status-arm pc dst c)
shape w (Op.CoroCurrent pc dst) = instr-shape w (Op.CoroCurrent pc dst) pc _ plain (coro_current dst) refl (pc, refl, refl) (current-arm pc dst)
shape w (Op.CoroKey pc dst c) = instr-shape w (Op.CoroKey pc dst c) pc _ plain (coro_key dst c) refl (pc, refl, refl) (key-arm pc dst c)
shape w (Op.CoroResult pc dst c) = instr-shape w (Op.CoroResult pc dst c) pc _ plain (coro_result dst c) refl (pc, refl, refl) (result-arm pc dst c)
shape w (Op.IterNext pc has iter val src) =
    instr-shape w (Op.IterNext pc has iter val src) pc _
    (λ b s xs. enters (get_or s (b + src) 0) (Driver.Iter has val (get_or s (b + iter) 0)) (gets nil) (not (is_done (object_in xs (get_or s (b + iter) 0))) && not (awaits (coro_in xs (get_or s (b + src) 0))))) (iter_next pc has iter val src) refl (pc, refl, refl) (iter-arm pc has iter val src)
shape w (Op.Finish kind v) = done-shape w (Op.Finish kind v) _ (finish kind v w).world (record { entry = refl; takes = refl }) (refl, refl) refl (λ c. refl) (finish-done kind v w)
shape w (Op.Unwind f pc) = done-shape w (Op.Unwind f pc) nil (unwind f pc w).world (record { entry = refl; takes = refl }) (refl, refl) refl (λ c. refl) (unwind-done f pc w)
shape w (Op.SpawnTask v) = S.works (record { entry = refl; takes = refl }) m-plain refl (task-worked v w)
shape w (Op.HostCall f) = S.works (record { entry = refl; takes = refl }) m-plain refl (on-host (is_function w.setup f) (host_call f) w (host-worked f w))
shape w (Op.HostEntry c v) = entry-shape c v w
shape w (Op.FunctionCall pc f cont) = S.works (record { entry = refl; takes = refl }) m-plain refl (on-frame (is_function w.setup f && cont_allowed w cont) (function_call pc f cont) w (function-worked pc f cont w))
shape w (Op.PutWord r v) = S.works (record { entry = refl; takes = refl }) m-plain refl (on-frame (all_in (r ∷ []) w) (put_word r v) w (λ _. put-worked r v w))
shape w (Op.MakeIterator v) = S.works (record { entry = refl; takes = refl }) m-plain refl (iterator-worked v w)
shape w Op.TakeOutcome = S.works (record { entry = refl; takes = refl }) m-plain refl done
shape w (Op.HandOver v) = S.works (record { entry = refl; takes = refl }) m-plain refl (hand-worked v w)
shape w (Op.Grant n) = S.works (record { entry = refl; takes = refl }) m-plain refl (grant-worked n w)
shape w Op.StopRun = S.stops (record { entry = refl; takes = refl }) refl (stop-stops w)
shape w Op.Look = S.works (record { entry = refl; takes = refl }) m-plain refl done
