-- spawn_task, start_finalizer, charge keep a sound world sound; a charge that starts no cleanup leaves the top frame where it was.
use mathlib.Core.Path.{◌≡◌, refl}
use mathlib.Core.Bool.{Bool, true, false, not, ◌&&◌}
use mathlib.Core.List.{List, [], ◌∷◌}
use Prim.Native.Nat.{ℕ, suc}
use lib.Dec.{eqb}
use borrow.Author.Tests.{not-true}
use Rattle.heap.specs.Word.{nil}
use Rattle.model.specs.Lists.{is_nil}
use Rattle.model.specs.State.{is_resumable}
use Rattle.model.specs.Object.{Coroutine, Absent, Is}
use Rattle.model.specs.World.{World, After, with_finalize}
use Rattle.model.specs.Frames.{set_pc, on_top, top_base, store_pc}
use Rattle.model.specs.Heap.{coro, change_coro}
use Rattle.model.specs.Fuel.{unbank}
use Rattle.model.specs.Coro.{coro_enter}
use Rattle.model.specs.Cleanup.{join_ready, spawn_task, coro_suspended, is_entered, close, start_from, start_finalizer, charge_done, charge_or, charge_at, charge_slow, charge}
use Rattle.model.specs.Call.{opt_pc}
use Rattle.model.specs.declared.machine.Driver.{Driver}
use Rattle.model.specs.declared.machine.Frame.{Frame}
use Rattle.model.specs.declared.machine.Charge.{Charge}
use Rattle.model.specs.declared.coro.Started.{Started}
use Rattle.std.specs.Prelude.{Option, Some, None}
use Rattle.claims_sound.proofs.Tests.{no_true, and_left, picked}
use Rattle.claims_sound.proofs.Queue.{Queue, queue-tail}
use Rattle.claims_sound.proofs.Sound.{Sound}
use Rattle.claims_sound.proofs.Tower.{store-sound}
use Rattle.claims_sound.proofs.Coros.{changed, rest-sound, task-sound, unbank-sound, arm-sound, finalizing-sound, spend-sound, cleanups-sound}
use Rattle.claims_sound.proofs.Enter.{enter-good}
use Rattle.claims_sound.proofs.Good.{Good, good, made_fine, Calm, calm-then}

-- ---- spawn_task

pub task-good : {ex : Bool} (v : ℕ) (w : World) → Sound ex w → Good ex (λ _ m. made_fine m ≡ true) (spawn_task v w)
unfolding spawn_task
task-good {ex} v w h = go (coro w v) refl
  where
    go : (c : Coroutine) → coro w v ≡ c → Good ex (λ _ m. made_fine m ≡ true) (join_ready c v w)
    go Absent e = good h refl
    go (Is k r) e =
        picked (Good ex (λ _ m. made_fine m ≡ true)) (not r.task && is_resumable k.state)
        (λ t. good (task-sound w v k r h e (not-true r.task (and_left (not r.task) _ t))) refl) (λ _. good h refl)

-- ---- cleanups

-- co.closing = true, co.signal = signal
pub close-sound : {ex : Bool} (signal c : ℕ) (w : World) → Sound ex w → Sound ex (change_coro c (λ k. k) (close signal) w)
close-sound {ex} signal c w h =
    changed (Sound ex) w c (λ k. k) (close signal) h
    (λ k r e. rest-sound w c k r h e (close signal r) (record { row = refl; maxregs = refl; maxframes = refl; task = λ z. z; finalized = λ z. z }))

start-good : {ex : Bool} (queue : List ℕ) (n : ℕ) (w : World) → Sound ex w → Queue (λ r. r.finalized) w.slots queue → Good ex (λ u s. s.entered ≡ false → Calm w u) (start_from n queue w)
start-good [] n w h q = good (finalizing-sound false _ (cleanups-sound [] w q h)) (λ _. record { setup = refl; height = refl; base = refl; some = refl })
start-good {ex} (c ∷ queue) n w h q =
    let q' = queue-tail (λ r. r.finalized) q in
    let e = enter-good c Driver.Finalize (with_finalize queue w) (cleanups-sound queue w q' h) refl in
    picked (Good ex (λ u s. s.entered ≡ false → Calm w u)) (coro_suspended (coro w c) && is_entered (coro_enter c Driver.Finalize (with_finalize queue w)).answer)
    (λ _. good (finalizing-sound true _ (close-sound nil c _ e.sound)) (λ z. no_true z)) (λ _. start-good queue (suc n) w h q')

-- ---- charges

-- only a charge that starts a cleanup, which one without a pc does not, moves the frames
abbrev pub Charging : Option ℕ → World → World → Charge → Type 0
Charging pc w u (Charge.Done n) = Calm w u
Charging pc w u Charge.Spent = Calm w u
Charging None w u (Charge.Close n) = Calm w u
Charging (Some pc) w u (Charge.Close n) = Unit {0}

pub calm-store : (pc : ℕ) (w : World) → Calm w (store_pc pc w)
calm-store pc w = record { setup = refl; height = refl; base = base w.frames; some = some w.frames }
  where
    base : (fs : List Frame) → top_base (on_top (set_pc pc) fs) ≡ top_base fs
    base [] = refl
    base (f ∷ fs) = refl

    some : (fs : List Frame) → is_nil (on_top (set_pc pc) fs) ≡ is_nil fs
    some [] = refl
    some (f ∷ fs) = refl

done-good : {ex : Bool} (pc : Option ℕ) (n : ℕ) (w u : World) → Calm w u → Sound ex u → Good ex (Charging pc w) (charge_done n u)
done-good pc n w u c h = good (arm-sound _ (spend-sound u h)) (calm-then c (record { setup = refl; height = refl; base = refl; some = refl }))

or-good : {ex : Bool} (pc : ℕ) (w u : World) (s : After Started) → Calm w u → Good ex (λ t x. x.entered ≡ false → Calm u t) s → Good ex (Charging (Some pc) w) (charge_or s)
or-good {ex} pc w u s c g =
    picked (Good ex (Charging (Some pc) w)) s.answer.entered (λ _. good g.sound tt) (λ e. done-good (Some pc) s.answer.taken w s.world (calm-then c (g.fact e)) g.sound)

at-good : {ex : Bool} (pc : Option ℕ) (w u : World) → opt_pc pc ≡ true → Calm w u → Sound ex u → Good ex (Charging pc w) (charge_at pc u)
unfolding start_finalizer
at-good None w u e c h = done-good None 0 w u c h
at-good {ex} (Some pc) w u e c h =
    let t = store_pc pc u in
    let k = store-sound pc u e h in
    picked (Good ex (Charging (Some pc) w)) u.fuel.ready
    (λ _. or-good pc w (unbank t) (start_finalizer t) (calm-then (calm-then c (calm-store pc u)) (record { setup = refl; height = refl; base = refl; some = refl })) (start-good t.finalize 0 (unbank t) (unbank-sound t k) k.cleanups)) (λ _. done-good (Some pc) 0 w u c h)

slow-good : {ex : Bool} (pc : Option ℕ) (w : World) → opt_pc pc ≡ true → Sound ex w → Good ex (Charging pc w) (charge_slow pc w)
unfolding charge_slow
slow-good {ex} pc w e h =
    picked (Good ex (Charging pc w)) (eqb (unbank w).fuel.fuel 0) (λ _. good (unbank-sound w h) (record { setup = refl; height = refl; base = refl; some = refl }))
    (λ _. at-good pc w (unbank w) e (record { setup = refl; height = refl; base = refl; some = refl }) (unbank-sound w h))

pub charge-good : {ex : Bool} (pc : Option ℕ) (w : World) → opt_pc pc ≡ true → Sound ex w → Good ex (Charging pc w) (charge pc w)
unfolding charge
charge-good {ex} pc w e h =
    picked (Good ex (Charging pc w)) (eqb w.fuel.fuel 0) (λ _. slow-good pc w e h) (λ _. good (spend-sound w h) (record { setup = refl; height = refl; base = refl; some = refl }))
