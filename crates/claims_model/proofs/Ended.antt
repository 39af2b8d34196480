-- What is seen of a coroutine that finish, an escape or the end of the run has ended.
use Prim.Native.Nat.{ℕ}
use native.Mathlib.Decide.{ℕ_discrete}
use mathlib.Core.Path.{◌≡◌, refl, sym, ap, ◌∙◌}
use mathlib.Core.Logic.{◌⊎◌, inl, inr}
use mathlib.Core.Bool.{true, false}
use mathlib.Core.List.{List, [], ◌∷◌}
use mathlib.Core.Option.{Option, none, some}
use Rattle.heap.specs.Word.{nil}
use Rattle.heap.specs.declared.object.CoroState.{CoroState}
use Rattle.model.specs.State.{is_running, is_resumable}
use Rattle.model.specs.Object.{Core, Rest, Coroutine, Absent, Is}
use Rattle.model.specs.World.{World}
use Rattle.model.specs.Heap.{coro, change_as}
use Rattle.model.specs.Coro.{in_state, ended, finish_coroutine, fail_all}
use Rattle.model.specs.declared.machine.Active.{Active}
use Rattle.claims_model.specs.Engine.{Seen, seen_in}
use Rattle.claims_model.specs.Events.{ended_as}
use Rattle.claims_model.specs.Steps.{waits_of}
use Rattle.claims_model.proofs.Held.{Seat, core_in, core_at}
use Rattle.claims_model.proofs.Cores.{no_both, set-mine}
use Rattle.claims_model.proofs.Shape.{Apart}
use Rattle.claims_model.proofs.Quiet.{finish-ends}

-- nothing waits any more
waits-over : (s : CoroState) (r : ℕ) → is_resumable s ≡ false → waits_of s r ≡ 0
waits-over CoroState.Created r h = no_both refl h
waits-over CoroState.Running r h = refl
waits-over CoroState.Yielded r h = no_both refl h
waits-over CoroState.Awaiting r h = no_both refl h
waits-over CoroState.Returned r h = refl
waits-over CoroState.Failed r h = refl

-- one that is there is seen as ended
pub there-seen : (v : ℕ) (s : CoroState) (x : ℕ) (w : World) {k : Core} {r : Rest} → is_resumable s ≡ false → coro w v ≡ Is k r → (core_at (finish_coroutine v s x w) v).seen ≡ ended_as s x
there-seen v s x w {k} {r} h e =
    ap (λ y. (core_at (change_as y v (in_state s) (ended x) w) v).seen) e ∙ ap (λ y. (core_in y).seen) (set-mine w.slots v e (in_state s k) (ended x r))
    ∙ (λ i. some (record { state = s; words = []; frames = []; waits = waits-over s k.waiting h i; most_words = 0; most_frames = 0; closing = false; signal = 0; result = x }))

pub run-seen : (v : ℕ) (s : CoroState) (x : ℕ) (w : World) → is_resumable s ≡ false → is_running (core_at w v).state ≡ true → (core_at (finish_coroutine v s x w) v).seen ≡ ended_as s x
run-seen v s x w n h = go (coro w v) refl
  where
    go : (y : Coroutine) → coro w v ≡ y → (core_at (finish_coroutine v s x w) v).seen ≡ ended_as s x
    go Absent e = no_both h (ap (λ y. is_running (core_in y).state) e)
    go (Is k r) e = there-seen v s x w n e

fail-seen : (v : ℕ) (w : World) → ((core_at w v).seen ≡ none) ⊎ ((core_at (finish_coroutine v CoroState.Failed nil w) v).seen ≡ ended_as CoroState.Failed nil)
fail-seen v w = go (coro w v) refl
  where
    go : (y : Coroutine) → coro w v ≡ y → ((core_at w v).seen ≡ none) ⊎ ((core_at (finish_coroutine v CoroState.Failed nil w) v).seen ≡ ended_as CoroState.Failed nil)
    go Absent e = inl (ap (λ y. (core_in y).seen) e)
    go (Is k r) e = inr (there-seen v CoroState.Failed nil w refl e)

-- ---- the end of the run

no_none : {A : Type 0} {y : Option Seen} {s : CoroState} {x : ℕ} → y ≡ none → y ≡ ended_as s x → A
no_none p q = no_both (ap (seen_in (λ _. true)) q) (ap (seen_in (λ _. true)) p)

fail-stays : (chain : List Active) (w : World) (c : ℕ) → (core_at w c).seen ≡ ended_as CoroState.Failed nil → (core_at (fail_all chain w) c).seen ≡ ended_as CoroState.Failed nil
fail-stays [] w c h = h
fail-stays (a ∷ chain) w c h = fail-stays chain (finish_coroutine a.coro CoroState.Failed nil w) c (go (ℕ_discrete c a.coro))
  where
    y : World
    y = finish_coroutine a.coro CoroState.Failed nil w

    mine : c ≡ a.coro → ((core_at w a.coro).seen ≡ none) ⊎ ((core_at y a.coro).seen ≡ ended_as CoroState.Failed nil) → (core_at y c).seen ≡ ended_as CoroState.Failed nil
    mine q (inl n) = no_none n (ap (λ u. (core_at w u).seen) (sym q) ∙ h)
    mine q (inr e) = ap (λ u. (core_at y u).seen) q ∙ e

    go : Dec (c ≡ a.coro) → (core_at y c).seen ≡ ended_as CoroState.Failed nil
    go (yes q) = mine q (fail-seen a.coro w)
    go (no q) = ap (λ (k : Seat). k.seen) ((finish-ends a.coro CoroState.Failed nil w).others c q) ∙ h

-- each of the chain that is there is seen as failed
pub stop-seen : (chain : List Active) (w : World) (c : ℕ) → Apart c chain ⊎ (((core_at w c).seen ≡ none) ⊎ ((core_at (fail_all chain w) c).seen ≡ ended_as CoroState.Failed nil))
stop-seen [] w c = inl tt
stop-seen (a ∷ chain) w c = go (ℕ_discrete c a.coro) (stop-seen chain y c)
  where
    y : World
    y = finish_coroutine a.coro CoroState.Failed nil w

    z : World
    z = fail_all chain y

    mine : c ≡ a.coro → ((core_at w a.coro).seen ≡ none) ⊎ ((core_at y a.coro).seen ≡ ended_as CoroState.Failed nil) → Apart c (a ∷ chain) ⊎ (((core_at w c).seen ≡ none) ⊎ ((core_at z c).seen ≡ ended_as CoroState.Failed nil))
    mine q (inl n) = inr (inl (ap (λ u. (core_at w u).seen) q ∙ n))
    mine q (inr e) = inr (inr (fail-stays chain y c (ap (λ u. (core_at y u).seen) q ∙ e)))

    go : Dec (c ≡ a.coro) → Apart c chain ⊎ (((core_at y c).seen ≡ none) ⊎ ((core_at z c).seen ≡ ended_as CoroState.Failed nil)) → Apart c (a ∷ chain) ⊎ (((core_at w c).seen ≡ none) ⊎ ((core_at z c).seen ≡ ended_as CoroState.Failed nil))
    go (yes q) s = mine q (fail-seen a.coro w)
    go (no q) (inl n) = inl (q, n)
    go (no q) (inr (inl n)) = inr (inl (ap (λ (k : Seat). k.seen) (sym ((finish-ends a.coro CoroState.Failed nil w).others c q)) ∙ n))
    go (no q) (inr (inr e)) = inr (inr e)
