-- The fourteen instructions, after their charge, keep a sound world sound.
use mathlib.Core.Path.{◌≡◌, refl, sym, ap, ◌∙◌, subst}
use mathlib.Core.Bool.{Bool, true, false, ◌||◌}
use mathlib.Core.List.{List, [], ◌∷◌}
use Prim.Native.Nat.{ℕ, ◌^◌}
use lib.ListN.{set, length-set}
use lib.Dec.{ltb}
use Rattle.heap.specs.Word.{nil}
use Rattle.heap.specs.Object.{code_of}
use Rattle.heap.specs.declared.fault.Fault.{Fault}
use Rattle.std.specs.Prelude.{Option, Result, Some, None, Ok, Err}
use Rattle.model.specs.declared.coro.Entered.{Entered}
use Rattle.model.specs.declared.coro.Event.{Event}
use Rattle.heap.specs.declared.object.CoroState.{CoroState}
use Rattle.model.specs.State.{is_created, is_awaiting, is_returned, is_running, is_suspended, is_finished}
use Rattle.model.specs.Program.{is_function, hook_ok}
use Rattle.model.specs.Object.{Core, Rest, Coroutine, Absent, Is, is_done}
use Rattle.model.specs.World.{World, After, and_then}
use Rattle.model.specs.Frames.{reg, store_pc}
use Rattle.model.specs.Heap.{object, coro, not_a, dyn_int}
use Rattle.model.specs.Coro.{state_as, coro_enter, finish_coroutine, in_state, ended}
use Rattle.model.specs.Machine.{push_frame}
use Rattle.model.specs.Exec.{fault, put, put_made, window, coro_new, coro_new_indirect, hooked, call_hook, spawn_made, spawn_with, spawn, delivered, deliver_all, suspend, largest_in, yield_key, yield_on, yield, larger_of, yield_kv_on, yield_kv, await_on}
use Rattle.model.specs.Exec.{await, arrive, resume, throw_entered, throw_to, resume_throw, close_entered, close_in, close_to, coro_close, status_of, coro_status, current, coro_current, key_of, coro_key, result_in, coro_result, iter_on, iter_next}
use Rattle.model.specs.Sound.{runs}
use Rattle.model.specs.declared.machine.Cont.{Cont}
use Rattle.model.specs.declared.machine.Driver.{Driver}
use Rattle.model.specs.declared.machine.Active.{Active}
use Rattle.model.specs.declared.machine.Charge.{Charge}
use Rattle.model.specs.declared.exec.Step.{Step}
use Rattle.claims_sound.proofs.Tests.{no_false, and_left, both, picked, negate}
use Rattle.claims_sound.proofs.Sound.{Sound, facts}
use Rattle.claims_sound.proofs.Tower.{tower-move, tower-stack, put-sound, store-sound}
use Rattle.claims_sound.proofs.Coros.{changed, idle-sound, done-sound}
use Rattle.claims_sound.proofs.Make.{create-good}
use Rattle.claims_sound.proofs.Made.{indirect-good, Keyed, auto-good}
use Rattle.claims_sound.proofs.Enter.{enter-good, send-sound}
use Rattle.claims_invariant.proofs.Leave.{suspend-good}
use Rattle.claims_sound.proofs.End.{deliver-good}
use Rattle.claims_sound.proofs.Charge.{Charging, charge-good, close-sound, calm-store}
use Rattle.claims_invariant.specs.Reachable.{Agree}
use Rattle.claims_invariant.proofs.Unwind.{push-good}
use Rattle.claims_invariant.proofs.Agree.{Ag}
use Rattle.claims_sound.proofs.Good.{Good, good, then-good, fine, made_fine, passed_fine, entered_fine, suspension_fine, step_fine, fine-not_a, still, Calm, still-calm, InTop, calm-top, top-under}

abbrev pub Stepping : World → Step → Type 0
Stepping w s = step_fine s ≡ true

put-good : {ex : Bool} (dst v : ℕ) (w : World) → Sound ex w → Good ex Stepping (put dst v w)
put-good dst v w h = good (put-sound dst v w h) refl

made-good : {ex : Bool} (dst : ℕ) (u : World) (m : Result ℕ Fault) → Sound ex u → made_fine m ≡ true → Good ex Stepping (put_made dst u m)
made-good dst u (Ok v) h e = put-good dst v u h
made-good dst u (Err f) h e = good h e

-- ---- CoroNew, CoroNewIndirect

pub new-good : {ex : Bool} (dst f argc : ℕ) (w : World) → Sound ex w → is_function w.setup f ≡ true → Good ex Stepping (coro_new dst f argc w)
unfolding coro_new
new-good dst f argc w h e = then-good (put_made dst) (create-good f nil (window dst argc w) w h e) (λ u m k p. made-good dst u m k p.fine)

pub new-indirect-good : {ex : Bool} (dst callee argc : ℕ) (w : World) → Sound ex w → Good ex Stepping (coro_new_indirect dst callee argc w)
unfolding coro_new_indirect
new-indirect-good dst callee argc w h = then-good (put_made dst) (indirect-good dst callee argc w h) (λ u m k p. made-good dst u m k p.fine)

-- ---- Spawn

hooked-good : {ex : Bool} (w : World) (c : ℕ) (u : World) (m : Result ℕ Fault) → Sound ex w → Sound ex u → made_fine m ≡ true → Good ex Stepping (hooked w c u m)
hooked-good w c u (Ok base) h k e = good (tower-move u (set u.stack base c) u.frames k (tower-stack (length-set u.stack base c) k.tower)) refl
hooked-good w c u (Err f) h k e = good h e

pushed-hook : {ex : Bool} (hook pc dst c : ℕ) (w : World) → Sound ex w → ltb pc (2 ^ 32) ≡ true → is_function w.setup hook ≡ true → InTop w dst
    → Good ex Stepping (and_then (push_frame hook nil (Cont.Value dst) (store_pc pc w)) (hooked w c))
pushed-hook hook pc dst c w h p e t =
    then-good (hooked w c) (push-good hook nil (Cont.Value dst) (store_pc pc w) (store-sound pc w p h) e refl refl (top-under (store_pc pc w) dst (calm-top dst (calm-store pc w) t))
    (negate (calm-top dst (calm-store pc w) t).some))
    (λ u m k f. hooked-good w c u m h k f)

hook-good : {ex : Bool} (hook pc dst c : ℕ) (w : World) (x : Charge) → Sound ex w → ltb pc (2 ^ 32) ≡ true → is_function w.setup hook ≡ true → InTop w dst → Good ex Stepping (call_hook hook pc dst c w x)
hook-good hook pc dst c w (Charge.Done n) h p e t = pushed-hook hook pc dst c w h p e t
hook-good hook pc dst c w Charge.Spent h p e t = good h refl
hook-good hook pc dst c w (Charge.Close n) h p e t = pushed-hook hook pc dst c w h p e t

none-calm : (w u : World) (x : Charge) → Charging None w u x → Calm w u
none-calm w u (Charge.Done n) c = c
none-calm w u Charge.Spent c = c
none-calm w u (Charge.Close n) c = c

spawn-made : {ex : Bool} (hook pc dst : ℕ) (w : World) (m : Result ℕ Fault) → Sound ex w → made_fine m ≡ true → ltb pc (2 ^ 32) ≡ true → is_function w.setup hook ≡ true → InTop w dst → Good ex Stepping (spawn_made hook pc dst w m)
spawn-made hook pc dst w (Ok c) h f p e t =
    then-good (call_hook hook pc dst c) (charge-good None w refl h)
    (λ u x k q. let l = none-calm w u x q in hook-good hook pc dst c u x k p (ap (λ s. is_function s hook) l.setup ∙ e) (calm-top dst l t))
spawn-made hook pc dst w (Err x) h f p e t = good h f

pub spawn-good : {ex : Bool} (pc dst callee argc : ℕ) (w : World) → Sound ex w → ltb pc (2 ^ 32) ≡ true → InTop w dst → Good ex Stepping (spawn pc dst callee argc w)
unfolding spawn
spawn-good {ex} pc dst callee argc w h p t = go w.setup.hook refl
  where
    go : (o : Option ℕ) → w.setup.hook ≡ o → Good ex Stepping (spawn_with o pc dst callee argc w)
    go None e = good h refl
    go (Some hook) e =
        let is : is_function w.setup hook ≡ true = and_left (is_function w.setup hook) _ (subst (λ o. hook_ok w.setup o ≡ true) e (facts w.setup h.setup).hook) in
        then-good (spawn_made hook pc dst) (indirect-good dst callee argc w h)
        (λ u m k q. spawn-made hook pc dst u m k q.fine p (ap (λ s. is_function s hook) q.still.setup ∙ is) (calm-top dst (still-calm q.still) t))

-- ---- Yield, YieldKv, Await

delivered-good : {ex : Bool} (u : World) (r : Result Unit Fault) → Sound ex u → passed_fine r ≡ true → Good ex Stepping (delivered u r)
delivered-good u (Ok x) h e = good h refl
delivered-good u (Err f) h e = good h e

deliver-all : {ex : Bool} (u : World) (s : Result (Driver × Event) Fault) → Sound ex u → suspension_fine s ≡ true → Good ex Stepping (deliver_all u s)
deliver-all u (Ok (d, e)) h f = then-good delivered (deliver-good d e u h) (λ t x k p. delivered-good t x k p)
deliver-all u (Err x) h f = good h f

suspend-step : {ex : Bool} (pc : ℕ) (st : CoroState) (dst payload : ℕ) (keys : Option (ℕ × ℕ)) (w : World) → Sound ex w → ltb pc (2 ^ 32) ≡ true → is_suspended st ≡ true → ltb dst (2 ^ 16) ≡ true → InTop w dst
    → Good ex Stepping (suspend pc st dst payload keys w)
suspend-step pc st dst payload keys w h p is small t =
    then-good deliver_all (suspend-good st dst payload keys (store_pc pc w) (store-sound pc w p h) is small (calm-top dst (calm-store pc w) t).inside) (λ u s k f. deliver-all u s k f)

module _ {ex : Bool} (pc dst : ℕ) (w : World) (h : Sound ex w) (p : ltb pc (2 ^ 32) ≡ true) (small : ltb dst (2 ^ 16) ≡ true) (t : InTop w dst) where
  yield-key : (payload : ℕ) (u : World) (k : Result (ℕ × ℕ) Fault) → Sound ex u → Keyed w u k → Good ex Stepping (yield_key pc dst payload u k)
  yield-key payload u (Ok (key, n)) k q = suspend-step pc CoroState.Yielded dst payload (Some (key, n)) u k p refl small (calm-top dst (still-calm q.still) t)
  yield-key payload u (Err f) k q = good k q.fine

  pub yield-good : (src : ℕ) → Good ex Stepping (yield pc dst src w)
  unfolding yield
  yield-good src = go w.chain
    where
      go : (chain : List Active) → Good ex Stepping (yield_on chain pc dst src w)
      go [] = good h refl
      go (a ∷ chain) = then-good (yield_key pc dst (reg w src)) (auto-good (largest_in (coro w a.coro)) w h) (λ u k s q. yield-key (reg w src) u k s q)

  pub yield_kv-good : (src key : ℕ) → Good ex Stepping (yield_kv pc dst src key w)
  unfolding yield_kv
  yield_kv-good src key = go w.chain
    where
      go : (chain : List Active) → Good ex Stepping (yield_kv_on chain pc dst src key w)
      go [] = good h refl
      go (a ∷ chain) =
          suspend-step pc CoroState.Yielded dst (reg w src) (Some (reg w key, larger_of (largest_in (coro w a.coro)) (dyn_int w (reg w key)))) w h p refl small t

  pub await-good : (src : ℕ) → Good ex Stepping (await pc dst src w)
  unfolding await
  await-good src = go w.chain
    where
      go : (chain : List Active) → Good ex Stepping (await_on chain pc dst src w)
      go [] = good h refl
      go (a ∷ chain) = suspend-step pc CoroState.Awaiting dst (reg w src) None w h p refl small t

-- ---- Resume, ResumeThrow, CoroClose

arrive-good : {ex : Bool} (sent : ℕ) (u : World) (e : Result Entered Fault) → Sound ex u → entered_fine e ≡ true → Good ex Stepping (arrive sent u e)
arrive-good sent u (Ok Entered.Fresh) h f = good h refl
arrive-good sent u (Ok (Entered.Suspended d)) h f = good (send-sound d sent u h) refl
arrive-good sent u (Err x) h f = good h f

thrown-good : {ex : Bool} (v : ℕ) (u : World) (e : Result Entered Fault) → Sound ex u → entered_fine e ≡ true → Good ex Stepping (throw_entered v u e)
thrown-good v u (Ok Entered.Fresh) h f = good h refl
thrown-good v u (Ok (Entered.Suspended d)) h f = good h refl
thrown-good v u (Err x) h f = good h f

closing-good : {ex : Bool} (c signal : ℕ) (u : World) (e : Result Entered Fault) → Sound ex u → entered_fine e ≡ true → Good ex Stepping (close_entered c signal u e)
closing-good c signal u (Ok Entered.Fresh) h f = good (close-sound signal c u h) refl
closing-good c signal u (Ok (Entered.Suspended d)) h f = good (close-sound signal c u h) refl
closing-good c signal u (Err x) h f = good h f

-- what the state of a word says
stated : (c : Coroutine) (f : Fault) (P : Result CoroState Fault → Type 0) → (fine f ≡ true → P (Err f)) → fine f ≡ true → ((k : Core) (r : Rest) → c ≡ Is k r → P (Ok k.state)) → P (state_as c f)
stated Absent f P a e b = a e
stated (Is k r) f P a e b = b k r refl

created-idle : (st : CoroState) → is_created st ≡ true → is_running st ≡ false
created-idle CoroState.Created e = refl
created-idle CoroState.Running e = no_false e
created-idle CoroState.Yielded e = refl
created-idle CoroState.Awaiting e = refl
created-idle CoroState.Returned e = refl
created-idle CoroState.Failed e = refl

module _ {ex : Bool} (pc dst : ℕ) (w : World) (h : Sound ex w) (p : ltb pc (2 ^ 32) ≡ true) (t : InTop w dst) where
  resumes : (c : ℕ) → Good ex (λ _ e. entered_fine e ≡ true) (coro_enter c (Driver.Resume dst) (store_pc pc w))
  resumes c = enter-good c (Driver.Resume dst) (store_pc pc w) (store-sound pc w p h) (top-under (store_pc pc w) dst (calm-top dst (calm-store pc w) t))

  pub resume-good : (c src : ℕ) → Good ex Stepping (resume pc dst c src w)
  unfolding resume
  resume-good c src = then-good (arrive (reg w src)) (resumes (reg w c)) (λ u e k f. arrive-good (reg w src) u e k f)

  -- a coroutine that was found idle ends
  idle-end : (c : ℕ) (st : CoroState) (result : ℕ) (k : Core) (r : Rest) → coro w c ≡ Is k r → is_running k.state ≡ false → is_finished st ≡ true → Sound ex (finish_coroutine c st result w)
  idle-end c st result k r e i f = changed (Sound ex) w c (in_state st) (ended result) h (λ k' r' e'. idle-sound w c k' r' h e' st result (ap (λ x. runs x) (sym e' ∙ e) ∙ i) f)

  pub throw-good : (c src : ℕ) → Good ex Stepping (resume_throw pc dst c src w)
  unfolding resume_throw
  throw-good c src =
      stated (coro w (reg w c)) (not_a w (reg w c)) (λ s. Good ex Stepping (throw_to s pc dst (reg w c) (reg w src) w)) (λ f. good h f) (fine-not_a w (reg w c))
      (λ k r e.
      picked (Good ex Stepping) (is_created k.state) (λ i. good (idle-end (reg w c) CoroState.Failed (reg w src) k r e (created-idle k.state i) refl) refl)
      (λ _. then-good (throw_entered (reg w src)) (resumes (reg w c)) (λ u x s f. thrown-good (reg w src) u x s f)))

  close-in : (c signal : ℕ) → Good ex Stepping (close_in pc dst c signal w)
  close-in c signal = then-good (close_entered c signal) (resumes c) (λ u x s f. closing-good c signal u x s f)

  close-to : (c signal : ℕ) (k : Core) (r : Rest) → coro w c ≡ Is k r → (st : CoroState) → k.state ≡ st → Good ex Stepping (close_to (Ok st) pc dst c signal w)
  close-to c signal k r e CoroState.Created q = put-good dst nil _ (idle-end c CoroState.Returned nil k r e (ap is_running q) refl)
  close-to c signal k r e CoroState.Running q = good h refl
  close-to c signal k r e CoroState.Yielded q = close-in c signal
  close-to c signal k r e CoroState.Awaiting q = close-in c signal
  close-to c signal k r e CoroState.Returned q = put-good dst nil w h
  close-to c signal k r e CoroState.Failed q = put-good dst nil w h

  pub close-good : (c src : ℕ) → Good ex Stepping (coro_close pc dst c src w)
  unfolding coro_close
  close-good c src =
      stated (coro w (reg w c)) (not_a w (reg w c)) (λ s. Good ex Stepping (close_to s pc dst (reg w c) (reg w src) w)) (λ f. good h f) (fine-not_a w (reg w c))
      (λ k r e. close-to (reg w c) (reg w src) k r e k.state refl)

-- ---- CoroStatus, CoroCurrent, CoroKey, CoroResult: they ask, which is a fault or a word put into dst, and no more

pub data Asks (dst : ℕ) (w : World) : After Step → Type 0 where
  faults : {f : Fault} → fine f ≡ true → Asks dst w (fault w f)
  puts : (v : ℕ) → Asks dst w (put dst v w)

pub asks-good : {ex : Bool} {dst : ℕ} {w : World} {o : After Step} → Asks dst w o → Sound ex w → Good ex Stepping o
asks-good (faults e) h = good h e
asks-good {ex} {dst} {w} (puts v) h = put-good dst v w h

pub asks-agree : {dst : ℕ} {w : World} {o : After Step} → Asks dst w o → Agree w → Ag o
asks-agree (faults e) h = h
asks-agree (puts v) h = h

module _ (dst : ℕ) (w : World) where
  pub status-asks : (c : ℕ) → Asks dst w (coro_status dst c w)
  unfolding coro_status
  status-asks c = stated (coro w (reg w c)) (not_a w (reg w c)) (λ s. Asks dst w (status_of s dst w)) (λ f. faults f) (fine-not_a w (reg w c)) (λ k r e. puts (code_of k.state))

  pub current-asks : Asks dst w (coro_current dst w)
  unfolding coro_current
  current-asks = puts (current w.chain)

  pub key-asks : (c : ℕ) → Asks dst w (coro_key dst c w)
  unfolding coro_key
  key-asks c = go (coro w (reg w c))
    where
      go : (o : Coroutine) → Asks dst w (key_of o (not_a w (reg w c)) dst w)
      go Absent = faults (fine-not_a w (reg w c))
      go (Is k r) = puts r.key

  pub result-asks : (c : ℕ) → Asks dst w (coro_result dst c w)
  unfolding coro_result
  result-asks c = go (coro w (reg w c))
    where
      go : (o : Coroutine) → Asks dst w (result_in o (not_a w (reg w c)) dst w)
      go Absent = faults (fine-not_a w (reg w c))
      go (Is k r) = picked (λ o. Asks dst w o) (is_returned k.state) (λ _. puts r.result) (λ _. faults refl)

-- ---- iter_next

pub iter-good : {ex : Bool} (pc has iter val src : ℕ) (w : World) → Sound ex w → ltb pc (2 ^ 32) ≡ true → InTop w has → InTop w val → Good ex Stepping (iter_next pc has iter val src w)
unfolding iter_next
iter-good {ex} pc has iter val src w h p t v =
    stated (coro w (reg w src)) (not_a w (reg w src)) (λ s. Good ex Stepping (iter_on s pc has (reg w iter) val (reg w src) w)) (λ f. good h f) (fine-not_a w (reg w src))
    (λ k r e.
    picked (Good ex Stepping) (is_done (object w (reg w iter)) || is_returned k.state) (λ _. put-good has 0 _ (done-sound (reg w iter) w h))
    (λ _.
    picked (Good ex Stepping) (is_awaiting k.state) (λ _. good h refl)
    (λ _.
    then-good (arrive nil)
    (enter-good (reg w src) (Driver.Iter has val (reg w iter)) (store_pc pc w) (store-sound pc w p h)
    (both (top-under (store_pc pc w) has (calm-top has (calm-store pc w) t)) (top-under (store_pc pc w) val (calm-top val (calm-store pc w) v))))
    (λ u x s f. arrive-good nil u x s f))))
