-- The arms that neither enter nor suspend: CoroNew, CoroNewIndirect, Spawn, CoroStatus, CoroCurrent, CoroKey, CoroResult.
use Prim.Native.Nat.{ℕ, ◌+◌}
use native.Mathlib.Omega.{arith}
use mathlib.Core.Path.{◌≡◌, refl, sym, subst}
use mathlib.Core.Bool.{Bool, true, false, ◌||◌}
use mathlib.Core.List.{List, ◌∷◌, ◌++◌}
use mathlib.Core.Option.{Option, none, some}
use lib.ListN.{length, set, replicate}
use lib.Dec.{leb, ltb}
use Rattle.lists.specs.Pick.{pick}
use Rattle.heap.specs.Word.{nil}
use Rattle.heap.specs.Object.{code_of}
use Rattle.heap.specs.declared.fault.Fault.{Fault}
use Rattle.std.specs.Prelude.{Option as RustOption, Result, Some, None, Ok, Err}
use Rattle.heap.specs.declared.object.CoroState.{CoroState}
use Rattle.model.specs.State.{is_returned}
use Rattle.model.specs.Program.{func}
use Rattle.model.specs.Object.{Rest, Coroutine, Absent, Is}
use Rattle.model.specs.World.{World, After, after, and_then, with_stack, with_frames}
use Rattle.model.specs.Frames.{is_coro, frame, set_pc, reg, store_pc}
use Rattle.model.specs.Heap.{coro, not_a, refuse}
use Rattle.model.specs.Coro.{coro_create, coro_state}
use Rattle.model.specs.Cleanup.{charge}
use Rattle.model.specs.Machine.{push_frame}
use Rattle.model.specs.Exec as Exec
use Rattle.model.specs.Exec.{fault, put_made, window, coro_new, indirect, coro_new_indirect, hooked, call_hook, spawn_made, spawn_with, spawn, status_of, coro_status, coro_current, key_of, coro_key, result_in, coro_result}
use Rattle.model.specs.declared.machine.Cont.{Cont}
use Rattle.model.specs.declared.machine.Frame.{Frame}
use Rattle.model.specs.declared.machine.Charge.{Charge}
use Rattle.claims_model.specs.Touches.{May, may}
use Rattle.claims_model.proofs.Entry.{neither}
use Rattle.claims_model.proofs.Cores.{m-plain}
use Rattle.claims_model.proofs.Shape.{View, view, Calls, Worked, done, tops, puts, pushes}
use Rattle.claims_model.proofs.Under.{keeps-pc}
use Rattle.claims_model.proofs.Enters.{set-append-at, charge-none}
use Rattle.claims_model.proofs.Instr.{Arm, a-works}
use Rattle.claims_model.proofs.Quiet.{same-worked, grown-worked, create-grown, indirect-grown}

-- ---- push_frame

pub data PushCase (f closure : ℕ) (cont : Cont) (w : World) : After (Result ℕ Fault) → Type 0 where
  p-in : (n : ℕ) → PushCase f closure cont w (after (with_frames (frame f (length w.stack) closure cont ∷ w.frames) (with_stack (w.stack ++ replicate n 0) w)) (Ok (length w.stack)))
  p-out : (e : Fault) → PushCase f closure cont w (after w (Err e))

pub push_case : (f closure : ℕ) (cont : Cont) (w : World) → PushCase f closure cont w (push_frame f closure cont w)
unfolding push_frame pick
push_case f closure cont w = go (leb w.setup.limits.depth (length w.frames) || ltb w.setup.limits.stack (length w.stack + n))
  where
    n : ℕ
    n = (func w.setup f).regs

    go : (b : Bool) → PushCase f closure cont w (pick b (refuse w Fault.StackOverflow) (after (with_frames (frame f (length w.stack) closure cont ∷ w.frames) (with_stack (w.stack ++ replicate n 0) w)) (Ok (length w.stack))))
    go true = p-out Fault.StackOverflow
    go false = p-in n

-- a frame that is no body goes on top
pub push-worked : {m : Option May} (f closure : ℕ) (cont : Cont) (n : ℕ) (w : World) → Calls m → is_coro cont ≡ false → Worked m m-plain (view w) (view (with_frames (frame f (length w.stack) closure cont ∷ w.frames) (with_stack (w.stack ++ replicate n 0) w)))
push-worked f closure cont n w c e = pushes (frame f (length w.stack) closure cont) (replicate n 0) c e refl

-- ---- the arms

put-made : {p : Option ℕ} {b : Bool} (dst : ℕ) (w : World) (m : Result ℕ Fault) → Worked (may p (some dst) b) m-plain (view w) (view (put_made dst w m).world)
put-made dst w (Ok v) = puts dst v refl done
put-made dst w (Err f) = done

pub new-arm : (p dst f argc : ℕ) (v : World) → Arm (may (some p) (some dst) false) v p neither false (coro_new dst f argc v).world
unfolding coro_new
new-arm p dst f argc v = let o = coro_create f nil (window dst argc v) v in a-works refl refl (grown-worked (create-grown f nil (window dst argc v) v) (put-made dst o.world o.answer))

pub indirect-arm : (p dst callee argc : ℕ) (v : World) → Arm (may (some p) (some dst) false) v p neither false (coro_new_indirect dst callee argc v).world
unfolding coro_new_indirect
indirect-arm p dst callee argc v = let o = indirect dst callee argc v in a-works refl refl (grown-worked (indirect-grown dst callee argc v) (put-made dst o.world o.answer))

-- the hook's frame, with the coroutine c in its first register
hook-worked : (hook pc dst c : ℕ) (w : World) → Worked (may (some pc) none true) m-plain (view w) (view (and_then (push_frame hook nil (Cont.Value dst) (store_pc pc w)) (hooked w c)).world)
hook-worked hook pc dst c w = go (push_frame hook nil (Cont.Value dst) (store_pc pc w)) (push_case hook nil (Cont.Value dst) (store_pc pc w))
  where
    u : World
    u = store_pc pc w

    top : Frame
    top = frame hook (length u.stack) nil (Cont.Value dst)

    left : List ℕ → View
    left xs = record { setup = u.setup; stack = xs; frames = top ∷ u.frames; chain = u.chain; cores = (view u).cores }

    go : (o : After (Result ℕ Fault)) → PushCase hook nil (Cont.Value dst) u o → Worked (may (some pc) none true) m-plain (view w) (view (hooked w c o.world o.answer).world)
    go o (p-in n) =
        tops (set_pc pc) (keeps-pc pc) (pc, refl, refl)
        (subst (λ xs. Worked (may (some pc) none true) m-plain (view u) (left xs)) (sym (set-append-at u.stack (replicate n 0) (length u.stack) 0 c (omega arith))) (pushes top (set (replicate n 0) 0 c) refl refl refl))
    go o (p-out e) = done

pub spawn-arm : (p dst callee argc : ℕ) (v : World) → Arm (may (some p) none true) v p neither false (spawn p dst callee argc v).world
unfolding spawn
spawn-arm p dst callee argc v = a-works refl refl (by v.setup.hook)
  where
    paid : (hook c : ℕ) (w : World) (x : Charge) → Worked (may (some p) none true) m-plain (view w) (view (call_hook hook p dst c w x).world)
    paid hook c w (Charge.Done n) = hook-worked hook p dst c w
    paid hook c w Charge.Spent = done
    paid hook c w (Charge.Close n) = hook-worked hook p dst c w

    made : (hook : ℕ) (w : World) (m : Result ℕ Fault) → Worked (may (some p) none true) m-plain (view w) (view (spawn_made hook p dst w m).world)
    made hook w (Ok c) = same-worked (charge-none w) (paid hook c (charge None w).world (charge None w).answer)
    made hook w (Err f) = done

    by : (h : RustOption ℕ) → Worked (may (some p) none true) m-plain (view v) (view (spawn_with h p dst callee argc v).world)
    by None = done
    by (Some hook) = let o = indirect dst callee argc v in grown-worked (indirect-grown dst callee argc v) (made hook o.world o.answer)

pub status-arm : (p dst c : ℕ) (v : World) → Arm (may (some p) (some dst) false) v p neither false (coro_status dst c v).world
unfolding coro_status
status-arm p dst c v = a-works refl refl (go (coro_state v (reg v c)))
  where
    go : (s : Result CoroState Fault) → Worked (may (some p) (some dst) false) m-plain (view v) (view (status_of s dst v).world)
    go (Ok s) = puts dst (code_of s) refl done
    go (Err f) = done

pub current-arm : (p dst : ℕ) (v : World) → Arm (may (some p) (some dst) false) v p neither false (coro_current dst v).world
unfolding coro_current
current-arm p dst v = a-works refl refl (puts dst (Exec.current v.chain) refl done)

pub key-arm : (p dst c : ℕ) (v : World) → Arm (may (some p) (some dst) false) v p neither false (coro_key dst c v).world
unfolding coro_key
key-arm p dst c v = a-works refl refl (go (coro v (reg v c)))
  where
    go : (x : Coroutine) → Worked (may (some p) (some dst) false) m-plain (view v) (view (key_of x (not_a v (reg v c)) dst v).world)
    go Absent = done
    go (Is k r) = puts dst r.key refl done

pub result-arm : (p dst c : ℕ) (v : World) → Arm (may (some p) (some dst) false) v p neither false (coro_result dst c v).world
unfolding coro_result pick
result-arm p dst c v = a-works refl refl (go (coro v (reg v c)))
  where
    test : (r : Rest) (b : Bool) → Worked (may (some p) (some dst) false) m-plain (view v) (view (pick b (Exec.put dst r.result v) (fault v Fault.InvalidCoroState)).world)
    test r true = puts dst r.result refl done
    test r false = done

    go : (x : Coroutine) → Worked (may (some p) (some dst) false) m-plain (view v) (view (result_in x (not_a v (reg v c)) dst v).world)
    go Absent = done
    go (Is k r) = test r (is_returned k.state)
