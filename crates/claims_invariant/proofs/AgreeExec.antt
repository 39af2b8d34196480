-- Ready, bank and finalizing agree after the instructions.
use mathlib.Core.Path.{refl}
use mathlib.Core.Bool.{not, ◌||◌}
use mathlib.Core.List.{List, [], ◌∷◌}
use Prim.Native.Nat.{ℕ}
use lib.Dec.{eqb}
use Rattle.heap.specs.Word.{nil}
use Rattle.heap.specs.Int.{next_key}
use Rattle.std.specs.Prelude.{Option, Result, Some, None, Ok, Err}
use Rattle.model.specs.declared.coro.Entered.{Entered}
use Rattle.model.specs.declared.coro.Event.{Event}
use Rattle.heap.specs.declared.fault.Fault.{Fault}
use Rattle.heap.specs.declared.object.CoroState.{CoroState}
use Rattle.model.specs.State.{is_created, is_awaiting, is_returned}
use Rattle.model.specs.Program.{func, is_function}
use Rattle.model.specs.Object.{Object, is_done}
use Rattle.model.specs.World.{World}
use Rattle.model.specs.Frames.{reg, store_pc}
use Rattle.model.specs.Heap.{object, coro, encode_int, dyn_int}
use Rattle.model.specs.Coro.{coro_create, coro_state, coro_enter, coro_suspend, deliver, in_state, ended}
use Rattle.model.specs.Cleanup.{close, charge}
use Rattle.model.specs.Machine.{push_frame}
use Rattle.model.specs.Exec.{put_made, window, coro_new, indirect_to, indirect, coro_new_indirect, hooked, call_hook, spawn_made, spawn_with, spawn, delivered, deliver_all, suspend, largest_in, key_at, key_exact, auto_key, yield_key, yield_on, yield, larger_of}
use Rattle.model.specs.Exec.{yield_kv_on, yield_kv, await_on, await, arrive, resume, throw_entered, throw_to, resume_throw, close_entered, close_in, close_to, coro_close, iter_on, iter_next}
use Rattle.model.specs.Added.{answer_made}
use Rattle.model.specs.declared.machine.Cont.{Cont}
use Rattle.model.specs.declared.machine.Driver.{Driver}
use Rattle.model.specs.declared.machine.Active.{Active}
use Rattle.model.specs.declared.machine.Charge.{Charge}
use Rattle.claims_invariant.specs.Reachable.{Agree}
use Rattle.claims_sound.proofs.Tests.{picked}
use Rattle.claims_invariant.proofs.Agree.{Ag, Suspended, change-owing, done-agree, int-agree, create-agree, enter-agree, suspend-agree, deliver-agree, charge-agree}
use Rattle.claims_invariant.proofs.AgreeMachine.{then-ag, push-agree}

-- ---- the instructions

put-made : (dst : ℕ) (u : World) (m : Result ℕ Fault) → Agree u → Ag (put_made dst u m)
put-made dst u (Ok v) h = h
put-made dst u (Err f) h = h

indirect-agree : (dst callee argc : ℕ) (w : World) → Agree w → Ag (indirect dst callee argc w)
unfolding indirect
indirect-agree dst callee argc w h = go (object w (reg w callee))
  where
    go : (o : Object) → Ag (indirect_to o (reg w callee) dst argc w)
    go Object.Empty = h
    go (Object.Func f) =
        picked Ag (not (is_function w.setup f)) (λ _. h) (λ _. picked Ag (not (eqb (func w.setup f).params argc)) (λ _. h) (λ _. create-agree f (reg w callee) (window dst argc w) w h))
    go (Object.Int n) = h
    go (Object.Iter s d k) = h
    go (Object.Error e f p x) = h
    go (Object.Coro k r) = h

hooked-agree : (w : World) (c : ℕ) (u : World) (m : Result ℕ Fault) → Agree w → Agree u → Ag (hooked w c u m)
hooked-agree w c u (Ok base) h k = k
hooked-agree w c u (Err f) h k = h

hook-agree : (hook pc dst c : ℕ) (w : World) (x : Charge) → Agree w → Ag (call_hook hook pc dst c w x)
hook-agree hook pc dst c w (Charge.Done n) h = then-ag (push_frame hook nil (Cont.Value dst) (store_pc pc w)) (hooked w c) (push-agree hook nil (Cont.Value dst) (store_pc pc w) h) (λ u m k. hooked-agree w c u m h k)
hook-agree hook pc dst c w Charge.Spent h = h
hook-agree hook pc dst c w (Charge.Close n) h = then-ag (push_frame hook nil (Cont.Value dst) (store_pc pc w)) (hooked w c) (push-agree hook nil (Cont.Value dst) (store_pc pc w) h) (λ u m k. hooked-agree w c u m h k)

spawn-made : (hook pc dst : ℕ) (w : World) (m : Result ℕ Fault) → Agree w → Ag (spawn_made hook pc dst w m)
spawn-made hook pc dst w (Ok c) h = then-ag (charge None w) (call_hook hook pc dst c) (charge-agree None w h) (hook-agree hook pc dst c)
spawn-made hook pc dst w (Err f) h = h

delivered-ag : (u : World) (r : Result Unit Fault) → Agree u → Ag (delivered u r)
delivered-ag u (Ok x) h = h
delivered-ag u (Err f) h = h

deliver-all : (u : World) (s : Result (Driver × Event) Fault) → Suspended u s → Ag (deliver_all u s)
deliver-all u (Ok (d, e)) h = then-ag (deliver d e u) delivered (deliver-agree d e u h) delivered-ag
deliver-all u (Err f) h = h

suspend-step : (pc : ℕ) (st : CoroState) (dst payload : ℕ) (keys : Option (ℕ × ℕ)) (w : World) → Agree w → Ag (suspend pc st dst payload keys w)
suspend-step pc st dst payload keys w h = let o = coro_suspend st dst payload keys (store_pc pc w) in deliver-all o.world o.answer (suspend-agree st dst payload keys (store_pc pc w) h)

key-at : (n : ℕ) (u : World) (m : Result ℕ Fault) → Agree u → Ag (key_at n u m)
key-at n u (Ok k) h = h
key-at n u (Err f) h = h

auto-agree : (largest : ℕ) (w : World) → Agree w → Ag (auto_key largest w)
unfolding auto_key
auto-agree largest w h = go (next_key largest)
  where
    go : (x : Option ℕ) → Ag (key_exact x w)
    go (Some n) = then-ag (encode_int n w) (key_at n) (int-agree n w h) (key-at n)
    go None = h

yield-key : (pc dst payload : ℕ) (u : World) (k : Result (ℕ × ℕ) Fault) → Agree u → Ag (yield_key pc dst payload u k)
yield-key pc dst payload u (Ok (key, n)) h = suspend-step pc CoroState.Yielded dst payload (Some (key, n)) u h
yield-key pc dst payload u (Err f) h = h

arrive-agree : (sent : ℕ) (u : World) (e : Result Entered Fault) → Agree u → Ag (arrive sent u e)
arrive-agree sent u (Ok Entered.Fresh) h = h
arrive-agree sent u (Ok (Entered.Suspended d)) h = h
arrive-agree sent u (Err f) h = h

thrown-agree : (v : ℕ) (u : World) (e : Result Entered Fault) → Agree u → Ag (throw_entered v u e)
thrown-agree v u (Ok Entered.Fresh) h = h
thrown-agree v u (Ok (Entered.Suspended d)) h = h
thrown-agree v u (Err f) h = h

closing-agree : (c signal : ℕ) (u : World) (e : Result Entered Fault) → Agree u → Ag (close_entered c signal u e)
closing-agree c signal u (Ok Entered.Fresh) h = change-owing 0 c (λ k. k) (close signal) u h
closing-agree c signal u (Ok (Entered.Suspended d)) h = change-owing 0 c (λ k. k) (close signal) u h
closing-agree c signal u (Err f) h = h

pub answer-made : (u : World) (m : Result ℕ Fault) → Agree u → Ag (answer_made u m)
answer-made u (Ok v) h = h
answer-made u (Err f) h = h

module _ (w : World) (h : Agree w) where
  pub new-agree : (dst f argc : ℕ) → Ag (coro_new dst f argc w)
  unfolding coro_new
  new-agree dst f argc = then-ag (coro_create f nil (window dst argc w) w) (put_made dst) (create-agree f nil (window dst argc w) w h) (put-made dst)

  pub new-indirect-agree : (dst callee argc : ℕ) → Ag (coro_new_indirect dst callee argc w)
  unfolding coro_new_indirect
  new-indirect-agree dst callee argc = then-ag (indirect dst callee argc w) (put_made dst) (indirect-agree dst callee argc w h) (put-made dst)

  pub spawn-agree : (pc dst callee argc : ℕ) → Ag (spawn pc dst callee argc w)
  unfolding spawn
  spawn-agree pc dst callee argc = go w.setup.hook
    where
      go : (o : Option ℕ) → Ag (spawn_with o pc dst callee argc w)
      go None = h
      go (Some hook) = then-ag (indirect dst callee argc w) (spawn_made hook pc dst) (indirect-agree dst callee argc w h) (spawn-made hook pc dst)

  pub yield-agree : (pc dst src : ℕ) → Ag (yield pc dst src w)
  unfolding yield
  yield-agree pc dst src = go w.chain
    where
      go : (chain : List Active) → Ag (yield_on chain pc dst src w)
      go [] = h
      go (a ∷ chain) = then-ag (auto_key (largest_in (coro w a.coro)) w) (yield_key pc dst (reg w src)) (auto-agree (largest_in (coro w a.coro)) w h) (yield-key pc dst (reg w src))

  pub yield_kv-agree : (pc dst src key : ℕ) → Ag (yield_kv pc dst src key w)
  unfolding yield_kv
  yield_kv-agree pc dst src key = go w.chain
    where
      go : (chain : List Active) → Ag (yield_kv_on chain pc dst src key w)
      go [] = h
      go (a ∷ chain) = suspend-step pc CoroState.Yielded dst (reg w src) (Some (reg w key, larger_of (largest_in (coro w a.coro)) (dyn_int w (reg w key)))) w h

  pub await-agree : (pc dst src : ℕ) → Ag (await pc dst src w)
  unfolding await
  await-agree pc dst src = go w.chain
    where
      go : (chain : List Active) → Ag (await_on chain pc dst src w)
      go [] = h
      go (a ∷ chain) = suspend-step pc CoroState.Awaiting dst (reg w src) None w h

  pub resume-agree : (pc dst c src : ℕ) → Ag (resume pc dst c src w)
  unfolding resume
  resume-agree pc dst c src = then-ag (coro_enter (reg w c) (Driver.Resume dst) (store_pc pc w)) (arrive (reg w src)) (enter-agree (reg w c) (Driver.Resume dst) (store_pc pc w) h refl refl) (arrive-agree (reg w src))

  pub throw-agree : (pc dst c src : ℕ) → Ag (resume_throw pc dst c src w)
  unfolding resume_throw
  throw-agree pc dst c src = go (coro_state w (reg w c))
    where
      go : (s : Result CoroState Fault) → Ag (throw_to s pc dst (reg w c) (reg w src) w)
      go (Err f) = h
      go (Ok s) =
          picked Ag (is_created s) (λ _. change-owing 0 (reg w c) (in_state CoroState.Failed) (ended (reg w src)) w h)
          (λ _. then-ag (coro_enter (reg w c) (Driver.Resume dst) (store_pc pc w)) (throw_entered (reg w src)) (enter-agree (reg w c) (Driver.Resume dst) (store_pc pc w) h refl refl) (thrown-agree (reg w src)))

  pub close-agree : (pc dst c src : ℕ) → Ag (coro_close pc dst c src w)
  unfolding coro_close
  close-agree pc dst c src = go (coro_state w (reg w c))
    where
      enter : Ag (close_in pc dst (reg w c) (reg w src) w)
      enter = then-ag (coro_enter (reg w c) (Driver.Resume dst) (store_pc pc w)) (close_entered (reg w c) (reg w src)) (enter-agree (reg w c) (Driver.Resume dst) (store_pc pc w) h refl refl) (closing-agree (reg w c) (reg w src))

      go : (s : Result CoroState Fault) → Ag (close_to s pc dst (reg w c) (reg w src) w)
      go (Err f) = h
      go (Ok CoroState.Created) = change-owing 0 (reg w c) (in_state CoroState.Returned) (ended nil) w h
      go (Ok CoroState.Running) = h
      go (Ok CoroState.Yielded) = enter
      go (Ok CoroState.Awaiting) = enter
      go (Ok CoroState.Returned) = h
      go (Ok CoroState.Failed) = h

  pub iter-agree : (pc has iter val src : ℕ) → Ag (iter_next pc has iter val src w)
  unfolding iter_next
  iter-agree pc has iter val src = go (coro_state w (reg w src))
    where
      go : (s : Result CoroState Fault) → Ag (iter_on s pc has (reg w iter) val (reg w src) w)
      go (Err f) = h
      go (Ok s) =
          picked Ag (is_done (object w (reg w iter)) || is_returned s) (λ _. done-agree (reg w iter) w h)
          (λ _. picked Ag (is_awaiting s) (λ _. h) (λ _. then-ag (coro_enter (reg w src) (Driver.Iter has val (reg w iter)) (store_pc pc w)) (arrive nil) (enter-agree (reg w src) (Driver.Iter has val (reg w iter)) (store_pc pc w) h refl refl) (arrive-agree nil)))
