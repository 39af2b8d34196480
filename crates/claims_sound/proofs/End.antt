-- deliver; the end of a coroutine: coro_returned, coro_escaped, abort_coros keep a sound world sound.
use mathlib.Core.Path.{◌≡◌, refl, sym, ap, ◌∙◌, subst}
use mathlib.Core.Bool.{Bool, true, false}
use mathlib.Core.List.{List, [], ◌∷◌}
use Prim.Native.Nat.{ℕ, ◌^◌, ◌≤◌}
use native.Mathlib.Omega.{arith}
use lib.ListN.{length, take}
use lib.Dec.{ltb}
use Rattle.heap.specs.Word.{nil}
use Rattle.heap.specs.declared.object.CoroState.{CoroState}
use Rattle.model.specs.State.{is_finished}
use Rattle.model.specs.Program.{Setup, setup_ok}
use Rattle.model.specs.Object.{Coroutine, Absent, Is}
use Rattle.model.specs.World.{World, with_stack, with_frames, with_chain}
use Rattle.model.specs.Frames.{is_coro, pop_to}
use Rattle.model.specs.Heap.{coro, change_as}
use Rattle.model.specs.Coro.{in_state, outcome_of, deliver, ended, finish_coroutine, deliver_return, returned_on, coro_returned, closed_by, fail_to, escaped_on, coro_escaped, fail_all, abort_coros}
use Rattle.model.specs.Sound.{runs, coros, stop_range, outcome_range}
use Rattle.model.specs.declared.machine.Active.{Active}
use Rattle.model.specs.declared.machine.Driver.{Driver}
use Rattle.model.specs.declared.machine.Frame.{Frame}
use Rattle.std.specs.Prelude.{Some, None}
use Rattle.model.specs.declared.machine.Stop.{Stop}
use Rattle.model.specs.declared.coro.Event.{Event}
use Rattle.claims_sound.proofs.Tests.{no_true, and_left, both, picked}
use Rattle.claims_sound.proofs.Stand.{Stands, ground, plain, body}
use Rattle.claims_sound.proofs.Point.{finds}
use Rattle.claims_sound.proofs.Slots.{Heap, leave-heap, freed-rows}
use Rattle.claims_sound.proofs.Queue.{Queue, queue-put}
use Rattle.claims_sound.proofs.Sound.{Tower, Sound}
use Rattle.claims_sound.proofs.Tower.{put-sound, stands-within, tower-take}
use Rattle.claims_sound.proofs.Coros.{object-ok, ended-ok, done-still, last_runs, left-sound, changed, done-sound, key-sound, finalizing-sound, outcome-sound, bank_ok}
use Rattle.claims_sound.proofs.Enter.{send-sound}
use Rattle.claims_sound.proofs.Good.{Good, good, passed_fine}

-- ---- deliver

outcome-range : (e : Event) → stop_range (outcome_of e) ≡ true
outcome-range (Event.Yielded p k) = refl
outcome-range (Event.Awaiting p) = refl
outcome-range Event.CloseIgnored = refl

pub deliver-good : {ex : Bool} (d : Driver) (e : Event) (w : World) → Sound ex w → Good ex (λ _ r. passed_fine r ≡ true) (deliver d e w)
unfolding deliver
deliver-good (Driver.Resume dst) (Event.Yielded p k) w h = good (send-sound dst p w h) refl
deliver-good (Driver.Resume dst) (Event.Awaiting p) w h = good (send-sound dst p w h) refl
deliver-good (Driver.Resume dst) Event.CloseIgnored w h = good h refl
deliver-good (Driver.Iter has val iter) (Event.Yielded p k) w h = good (send-sound has 1 _ (put-sound val p _ (key-sound iter k w h))) refl
deliver-good (Driver.Iter has val iter) (Event.Awaiting p) w h = good h refl
deliver-good (Driver.Iter has val iter) Event.CloseIgnored w h = good h refl
deliver-good Driver.Host e w h = good (outcome-sound (Some (outcome_of e)) w (outcome-range e) h) refl
deliver-good Driver.Finalize e w h = good (finalizing-sound false w h) refl

return-sound : {ex : Bool} (d : Driver) (value : ℕ) (w : World) → Sound ex w → Sound ex (deliver_return d value w)
return-sound (Driver.Resume dst) value w h = send-sound dst value w h
return-sound (Driver.Iter has val iter) value w h = send-sound has 0 _ (done-sound iter w h)
return-sound Driver.Host value w h = outcome-sound (Some (Stop.Returned value)) w refl h
return-sound Driver.Finalize value w h = finalizing-sound false w h

-- ---- the body frame goes, and its coroutine ends

stands-leave : {ex : Bool} {s : Setup} {n : ℕ} {f : Frame} {fs : List Frame} {a : Active} {chain : List Active} → is_coro f.cont ≡ true → Stands ex s n (f ∷ fs) (a ∷ chain) → Stands ex s f.base fs chain
stands-leave c (plain q e t r) = no_true (sym c ∙ q)
stands-leave c (body q t k d r) = r

stands-chain : {ex : Bool} {A : Type 0} {s : Setup} {n : ℕ} {f : Frame} {fs : List Frame} → is_coro f.cont ≡ true → Stands ex s n (f ∷ fs) [] → A
stands-chain c (plain q e t r) = no_true (sym c ∙ q)

module _ {ex : Bool} (w : World) (x : Frame) (xs : List Frame) (h : Sound ex w) (f : w.frames ≡ x ∷ xs) (c : is_coro x.cont ≡ true) where
  no-chain : {A : Type 0} → w.chain ≡ [] → A
  no-chain e = stands-chain c (subst (Stands ex w.setup (length w.stack) (x ∷ xs)) e (subst (λ fs. Stands ex w.setup (length w.stack) fs w.chain) f h.tower.stands))

  module _ (a : Active) (chain : List Active) (q : w.chain ≡ a ∷ chain) where
    stood : Stands ex w.setup (length w.stack) (x ∷ xs) (a ∷ chain)
    stood = subst (Stands ex w.setup (length w.stack) (x ∷ xs)) q (subst (λ fs. Stands ex w.setup (length w.stack) fs w.chain) f h.tower.stands)

    popped : Tower ex w.setup (take x.base w.stack) xs chain
    popped = let e = ap length f in tower-take x.base h.tower (stands-within stood).within xs chain (omega arith) (stands-leave c stood)

    pub end-sound : (st : CoroState) (result : ℕ) → is_finished st ≡ true → Sound ex (finish_coroutine a.coro st result (with_chain chain (pop_to x xs w)))
    end-sound st result fin = go (coro w a.coro) refl
      where
        go : (o : Coroutine) → coro w a.coro ≡ o → Sound ex (change_as o a.coro (in_state st) (ended result) (with_chain chain (pop_to x xs w)))
        go Absent e = no_true (sym (last_runs w a chain h q) ∙ ap runs e)
        go (Is k r) e =
            let p = finds w.slots a.coro k r e in
            left-sound w a chain h q k r p (in_state st k) (ended result r) (take x.base w.stack) xs w.used (ended-ok w.setup st result k r fin (object-ok h.heap p)) (done-still st fin)
            (freed-rows p (in_state st k) (ended result r) h.heap.rows fin) (λ z. z) (λ z. z) popped h.room

  returned-on : (value : ℕ) (chain : List Active) → w.chain ≡ chain → Sound ex (returned_on chain value (pop_to x xs w))
  returned-on value [] q = no-chain q
  returned-on value (a ∷ chain) q = return-sound a.driver value _ (end-sound a chain q CoroState.Returned value refl)

  pub returned-sound : (value : ℕ) → Sound ex (coro_returned value (pop_to x xs w))
  unfolding coro_returned
  returned-sound value = returned-on value w.chain refl

  -- an unwinding that goes on finds the frames below
  abbrev pub Onward : World → Bool → Type 0
  Onward u stops = stops ≡ false → u.frames ≡ xs

  frames-ended : (v : ℕ) (st : CoroState) (result : ℕ) (chain : List Active) → (finish_coroutine v st result (with_chain chain (pop_to x xs w))).frames ≡ xs
  frames-ended v st result chain = changed (λ u. u.frames ≡ xs) (with_chain chain (pop_to x xs w)) v (in_state st) (ended result) refl (λ k r e. refl)

  fail-good : (d : Driver) (s : Stop) (u : World) → Sound ex u → u.frames ≡ xs → stop_range s ≡ true → Good ex Onward (fail_to d s u)
  fail-good (Driver.Resume dst) s u k e t = good k (λ _. e)
  fail-good (Driver.Iter has val iter) s u k e t = good k (λ _. e)
  fail-good Driver.Host s u k e t = good (outcome-sound (Some s) u t k) (λ z. no_true z)
  fail-good Driver.Finalize s u k e t = good (finalizing-sound false u k) (λ z. no_true z)

  escaped-on : (value fn pc : ℕ) → ltb fn (2 ^ 32) ≡ true → ltb pc (2 ^ 32) ≡ true → (chain : List Active) → w.chain ≡ chain → Good ex Onward (escaped_on chain value fn pc (pop_to x xs w))
  escaped-on value fn pc a b [] q = no-chain q
  escaped-on value fn pc a b (t ∷ chain) q =
      picked (Good ex Onward) (closed_by (coro w t.coro) value) (λ _. good (return-sound t.driver nil _ (end-sound t chain q CoroState.Returned nil refl)) (λ z. no_true z))
      (λ _. fail-good t.driver (Stop.Failed value fn pc) _ (end-sound t chain q CoroState.Failed value refl) (frames-ended t.coro CoroState.Failed value chain) (both a b))

  pub escaped-good : (value fn pc : ℕ) → ltb fn (2 ^ 32) ≡ true → ltb pc (2 ^ 32) ≡ true → Good ex Onward (coro_escaped value fn pc (pop_to x xs w))
  unfolding coro_escaped
  escaped-good value fn pc a b = escaped-on value fn pc a b w.chain refl

-- ---- abort_coros, and the frames and the stack emptied

-- the objects and queues of a machine, apart from its frames
record Loose (ex : Bool) (w : World) (vs : List ℕ) : Type 0 where
  heap : Heap ex w.setup vs w.slots
  tasks : Queue (λ r. r.task) w.slots w.ready
  cleanups : Queue (λ r. r.finalized) w.slots w.finalize

-- what abort_coros leaves alone
record Rest' (w u : World) : Type 0 where
  setup : u.setup ≡ w.setup
  used : u.used ≡ w.used
  fuel : u.fuel ≡ w.fuel
  outcome : u.outcome ≡ w.outcome

fail-one : {ex : Bool} (v : ℕ) (vs : List ℕ) (w : World) → Loose ex w (v ∷ vs) → Loose ex (finish_coroutine v CoroState.Failed nil w) vs
fail-one {ex} v vs w l = go (coro w v) refl
  where
    go : (o : Coroutine) → coro w v ≡ o → Loose ex (change_as o v (in_state CoroState.Failed) (ended nil) w) vs
    go Absent e = no_true (sym (and_left (runs (coro w v)) _ l.heap.running) ∙ ap runs e)
    go (Is k r) e =
        let p = finds w.slots v k r e in
        let k' = in_state CoroState.Failed k in
        let r' = ended nil r in
        record {
          heap = leave-heap p k' r' l.heap (ended-ok w.setup CoroState.Failed nil k r refl (object-ok l.heap p)) refl (freed-rows p k' r' l.heap.rows refl);
          tasks = queue-put (λ x. x.task) p k' r' (λ z. z) l.tasks;
          cleanups = queue-put (λ x. x.finalized) p k' r' (λ z. z) l.cleanups;
        }

fail-rest : (v : ℕ) (w : World) → Rest' w (finish_coroutine v CoroState.Failed nil w)
fail-rest v w =
    changed (Rest' w) w v (in_state CoroState.Failed) (ended nil) (record { setup = refl; used = refl; fuel = refl; outcome = refl })
    (λ k r e. record { setup = refl; used = refl; fuel = refl; outcome = refl })

fail-all : {ex : Bool} (chain : List Active) (w : World) → Loose ex w (coros chain) → Loose ex (fail_all chain w) []
fail-all [] w l = l
fail-all (a ∷ chain) w l = fail-all chain (finish_coroutine a.coro CoroState.Failed nil w) (fail-one a.coro (coros chain) w l)

rest_then : {w u t : World} → Rest' w u → Rest' u t → Rest' w t
rest_then a b = record { setup = b.setup ∙ a.setup; used = b.used ∙ a.used; fuel = b.fuel ∙ a.fuel; outcome = b.outcome ∙ a.outcome }

rest_all : (chain : List Active) (w : World) → Rest' w (fail_all chain w)
rest_all [] w = record { setup = refl; used = refl; fuel = refl; outcome = refl }
rest_all (a ∷ chain) w = rest_then (fail-rest a.coro w) (rest_all chain (finish_coroutine a.coro CoroState.Failed nil w))

pub abort-sound : {ex : Bool} (w : World) → Sound ex w → Sound ex (with_stack [] (with_frames [] (abort_coros w)))
unfolding abort_coros
abort-sound {ex} w h =
    let u = fail_all w.chain w in
    let l = fail-all w.chain w (record { heap = h.heap; tasks = h.tasks; cleanups = h.cleanups }) in
    let r = rest_all w.chain w in
    let empty : Sound ex (with_stack [] (with_frames [] (with_chain [] u))) =
    record {
      setup = ap setup_ok r.setup ∙ h.setup;
      tower = record { depth = omega arith; height = omega arith; stands = ground refl };
      heap = l.heap;
      tasks = l.tasks;
      cleanups = l.cleanups;
      room = subst (λ n. n ≤ u.setup.limits.memory) (sym r.used) (subst (λ s. w.used ≤ s.limits.memory) (sym r.setup) h.room);
      banked = ap bank_ok r.fuel ∙ h.banked;
      outcome = ap outcome_range r.outcome ∙ h.outcome;
    } in
    outcome-sound None _ refl (finalizing-sound false _ empty)
