-- The sheet's lines for Yield, YieldKv and Await: the suspension and what is delivered.
use Prim.Native.Nat.{ℕ, zero, suc, ◌+◌, ◌-◌, ◌*◌, max}
use mathlib.Core.Path.{◌≡◌, refl, ap, ◌∙◌}
use mathlib.Core.Bool.{Bool, true, false, not, ◌&&◌, true≢false}
use mathlib.Core.List.{List, [], ◌∷◌, map}
use lib.ListN.{length, get_or, take, drop}
use lib.Dec.{leb}
use Rattle.lists.specs.Pick.{pick, pick-false}
use Rattle.heap.specs.Charge.{sat_add}
use Rattle.heap.specs.declared.fault.Fault.{Fault}
use Rattle.std.specs.Prelude.{Option, Result, Some, None, Ok, Err}
use Rattle.heap.specs.declared.object.CoroState.{CoroState}
use Rattle.model.specs.Lists.{is_nil}
use Rattle.model.specs.Object.{Core, Rest, Is, with_payload, with_maxregs, with_maxframes}
use Rattle.model.specs.World.{World, After, after, and_then, with_stack, with_frames, with_chain, with_finalizing, with_used, with_fuel}
use Rattle.model.specs.Frames.{frame, lower, above, base_at}
use Rattle.model.specs.Frames as Frames
use Rattle.model.specs.Heap as Heaps
use Rattle.model.specs.Heap.{coro, set_coro, fits}
use Rattle.model.specs.Fuel.{fuel_of, arm_at, set_finalizing}
use Rattle.model.specs.Coro as Coros
use Rattle.model.specs.Exec as Exec
use Rattle.model.specs.declared.machine.Active.{Active}
use Rattle.model.specs.declared.machine.Cont.{Cont}
use Rattle.model.specs.declared.machine.Driver.{Driver}
use Rattle.model.specs.declared.machine.Frame.{Frame}
use Rattle.model.specs.declared.machine.Stop.{Stop}
use Rattle.model.specs.declared.coro.Event.{Event}
use Rattle.model.specs.declared.exec.Step.{Step}
use Rattle.claims_sheet.specs.Lines.{leads_from}
use Rattle.claims_sheet.specs.Words.{found, is_coroutine, core_of, lacks_memory}
use Rattle.claims_sheet.specs.Moves.{pc_stored, sent, put, marked}
use Rattle.claims_sheet.specs.Suspending.{innermost_active, rest_here, held_frames, floor_base, saved_core, growth, saved_rest, suspended_with, armed, cleaning, asks, is_loop, delivered}
use Rattle.claims_sheet.specs.Yields.{suspended_by_yield, yields, yield_ends, suspended_by_await, awaits, await_ends}
use Rattle.claims_sheet.proofs.Moved.{below, stored, put_is, sent_is, coro-is, marked-is, coroutine, then_one, length_at}

-- what a sound machine has: the innermost running coroutine is found, and its body is among the frames
pub record Sane (w : World) : Type 0 where
  pub runs : is_nil w.chain ≡ false → is_coroutine (found w (innermost_active w.chain).coro) ≡ true
  pub inside : is_nil w.chain ≡ false → leb (length w.frames) (innermost_active w.chain).floor ≡ false

-- ---- the held frames

base-at : (fs : List Frame) (i : ℕ) → (get_or fs i (frame 0 0 0 Cont.Discard)).base ≡ get_or (map (λ f. f.base) fs) i 0
base-at [] i = refl
base-at (f ∷ fs) zero = refl
base-at (f ∷ fs) (suc i) = base-at fs i

length-map : (g : Frame → Frame) (fs : List Frame) → length (map g fs) ≡ length fs
length-map g [] = refl
length-map g (f ∷ fs) = ap suc (length-map g fs)

-- ---- deliveries

armed-is : (b : Option ℕ) (n : ℕ) (rd : Bool) → arm_at b (fuel_of n b rd) ≡ armed b n rd
armed-is None n rd = refl
armed-is (Some m) n rd = refl

pub cleaning-is : (b : Bool) (w : World) → set_finalizing b w ≡ cleaning b w
cleaning-is b w = ap (λ f. with_fuel f (with_finalizing b w)) (armed-is w.fuel.bank w.fuel.fuel (not b && not (is_nil w.finalize)))

loop-is : (has val it payload key : ℕ) (S : World) → Coros.coro_send has 1 (Frames.put_reg val payload (Heaps.set_key it key S)) ≡ sent has 1 (put val payload (marked it (λ d. d) (λ k. Some key) S))
loop-is has val it payload key S =
    let m = marked it (λ d. d) (λ k. Some key) S in
    ap (λ w. Coros.coro_send has 1 (Frames.put_reg val payload w)) (marked-is it (λ d. d) (λ k. Some key) S)
    ∙ (ap (λ w. Coros.coro_send has 1 w) (put_is val payload m) ∙ sent_is has 1 (put val payload m))

yields-to : (d : Driver) (cl : Bool) (payload key : ℕ) (S : World) →
    and_then (Coros.deliver d (pick false (Event.Awaiting payload) (pick cl Event.CloseIgnored (Event.Yielded payload key))) S) Exec.delivered
    ≡ pick (cl && asks d) (after S (Step.Unwind Fault.CloseIgnored)) (after (delivered d payload key (pick cl Stop.CloseIgnored (Stop.Yielded payload)) S) Step.Frame)
unfolding pick Coros.deliver
yields-to (Driver.Resume r) true payload key S = refl
yields-to (Driver.Resume r) false payload key S = ap (λ w. after w Step.Frame) (sent_is r payload S)
yields-to (Driver.Iter has val it) true payload key S = refl
yields-to (Driver.Iter has val it) false payload key S = ap (λ w. after w Step.Frame) (loop-is has val it payload key S)
yields-to Driver.Host true payload key S = refl
yields-to Driver.Host false payload key S = refl
yields-to Driver.Finalize true payload key S = ap (λ w. after w Step.Frame) (cleaning-is false S)
yields-to Driver.Finalize false payload key S = ap (λ w. after w Step.Frame) (cleaning-is false S)

awaits-to : (d : Driver) (payload : ℕ) (e : Event) (S : World) →
    and_then (Coros.deliver d (pick true (Event.Awaiting payload) e) S) Exec.delivered
    ≡ pick (is_loop d) (after S (Step.Unwind Fault.TypeError)) (after (delivered d payload 0 (Stop.Awaiting payload) S) Step.Frame)
unfolding pick Coros.deliver
awaits-to (Driver.Resume r) payload e S = ap (λ w. after w Step.Frame) (sent_is r payload S)
awaits-to (Driver.Iter has val it) payload e S = refl
awaits-to Driver.Host payload e S = refl
awaits-to Driver.Finalize payload e S = ap (λ w. after w Step.Frame) (cleaning-is false S)

-- ---- the suspension

module _ (st : CoroState) (dst payload : ℕ) (keys : Option (ℕ × ℕ)) (a : Active) (chain : List Active) (r : Rest) (z : World) where
  -- with the base of its floor and the number of its frames
  abbrev body : ℕ → ℕ → After (Result (Driver × Event) Fault)
  body s n =
      let grown = (length (drop s z.stack) - r.maxregs) * 8 + (n - r.maxframes) * z.setup.costs.frame in
      let k : Core = record { state = st; regs = drop s z.stack; frames = map (lower s) (above a.floor z.frames); waiting = dst } in
      pick (not (fits z grown)) (after z (Err Fault.OutOfMemory))
      (after
      (set_coro a.coro k (Coros.unclose st (Coros.set_keys keys (with_payload payload (with_maxregs (max r.maxregs (length (drop s z.stack))) (with_maxframes (max r.maxframes n) r)))))
      (with_chain chain (with_frames (Frames.below a.floor z.frames) (with_stack (take s z.stack) (with_used (sat_add z.used grown) z)))))
      (Ok (a.driver, Coros.event_of st payload (Coros.set_keys keys r))))

  suspends-as : (k : Core) → Coros.suspend_coroutine (Is k r) a chain (Coros.saved st dst a.floor z) payload keys z ≡ body (base_at a.floor z.frames) (length (map (lower (base_at a.floor z.frames)) (above a.floor z.frames)))
  suspends-as k = refl

module _ (st : CoroState) (dst payload : ℕ) (keys : Option (ℕ × ℕ)) (a : Active) (chain : List Active) (w : World) (sane : Sane (with_chain (a ∷ chain) w)) where
  abbrev z₀ : World
  z₀ = with_chain (a ∷ chain) w

  suspends : Coros.coro_suspend st dst payload keys z₀ ≡ body st dst payload keys a chain (rest_here z₀) z₀ (floor_base z₀) (length (held_frames z₀))
  unfolding Coros.coro_suspend
  suspends =
      ap (λ b. pick b (after z₀ (Err Fault.CannotSuspend)) (Coros.suspend_coroutine (coro z₀ a.coro) a chain (Coros.saved st dst a.floor z₀) payload keys z₀)) (sane.inside refl)
      ∙ (pick-false _ (Coros.suspend_coroutine (coro z₀ a.coro) a chain (Coros.saved st dst a.floor z₀) payload keys z₀)
      ∙ (ap (λ x. Coros.suspend_coroutine x a chain (Coros.saved st dst a.floor z₀) payload keys z₀) (coro-is z₀ a.coro ∙ coroutine (found z₀ a.coro) (sane.runs refl))
      ∙ (suspends-as st dst payload keys a chain (rest_here z₀) z₀ (core_of (found z₀ a.coro))
      ∙ (λ i. body st dst payload keys a chain (rest_here z₀) z₀ (base-at w.frames (length w.frames - suc a.floor) i) (length-map (lower (base_at a.floor w.frames)) (above a.floor w.frames) i)))))

-- what is left suspended, however closing and keys are seen to
module _ (st : CoroState) (dst : ℕ) (a : Active) (chain : List Active) (w : World) where
  left_is : (payload : ℕ) (keys : Option (ℕ × ℕ)) → body st dst payload keys a chain (rest_here (with_chain (a ∷ chain) w)) (with_chain (a ∷ chain) w) (floor_base (with_chain (a ∷ chain) w)) (length (held_frames (with_chain (a ∷ chain) w)))
      ≡ pick (lacks_memory (with_chain (a ∷ chain) w) (growth (with_chain (a ∷ chain) w))) (after (with_chain (a ∷ chain) w) (Err Fault.OutOfMemory))
      (after (suspended_with (saved_core st dst (with_chain (a ∷ chain) w)) (Coros.unclose st (Coros.set_keys keys (saved_rest (with_chain (a ∷ chain) w) payload (rest_here (with_chain (a ∷ chain) w))))) (with_chain (a ∷ chain) w))
      (Ok (a.driver, Coros.event_of st payload (Coros.set_keys keys (rest_here (with_chain (a ∷ chain) w))))))
  left_is payload keys = refl

pub sane-stored : (pc : ℕ) (w : World) → Sane w → Sane (pc_stored pc w)
sane-stored pc w sane =
    record { runs = sane.runs; inside = λ h. ap (λ n. leb n (innermost_active w.chain).floor) (length_at pc w.frames) ∙ sane.inside h }

pub yields-is : (cs : List Active) (pc dst payload key largest : ℕ) (k : World) → is_nil cs ≡ false → Sane (with_chain cs k) →
    Exec.suspend pc CoroState.Yielded dst payload (Some (key, largest)) (with_chain cs k) ≡ leads_from (yields pc dst payload key largest (with_chain cs k)) (yield_ends pc dst payload key largest (with_chain cs k))
yields-is [] pc dst payload key largest k h sane = absurd (true≢false h)
yields-is (a ∷ chain) pc dst payload key largest k h sane =
    let z = pc_stored pc (with_chain (a ∷ chain) k) in
    ap (λ x. and_then (Coros.coro_suspend CoroState.Yielded dst payload (Some (key, largest)) x) Exec.deliver_all) (stored pc (with_chain (a ∷ chain) k))
    ∙ (ap (λ (x : After (Result (Driver × Event) Fault)). and_then x Exec.deliver_all) (suspends CoroState.Yielded dst payload (Some (key, largest)) a chain (pc_stored pc k) (sane-stored pc (with_chain (a ∷ chain) k) sane))
    ∙ (then_one Exec.deliver_all (lacks_memory z (growth z)) (after z (Err Fault.OutOfMemory)) _
    ∙ below _ _ (yields-to a.driver (rest_here z).closing payload key (suspended_by_yield dst payload key largest z))))

pub awaits-is : (cs : List Active) (pc dst payload : ℕ) (k : World) → is_nil cs ≡ false → Sane (with_chain cs k) →
    Exec.suspend pc CoroState.Awaiting dst payload None (with_chain cs k) ≡ leads_from (awaits pc dst payload (with_chain cs k)) (await_ends pc dst payload (with_chain cs k))
awaits-is [] pc dst payload k h sane = absurd (true≢false h)
awaits-is (a ∷ chain) pc dst payload k h sane =
    let z = pc_stored pc (with_chain (a ∷ chain) k) in
    ap (λ x. and_then (Coros.coro_suspend CoroState.Awaiting dst payload None x) Exec.deliver_all) (stored pc (with_chain (a ∷ chain) k))
    ∙ (ap (λ (x : After (Result (Driver × Event) Fault)). and_then x Exec.deliver_all) (suspends CoroState.Awaiting dst payload None a chain (pc_stored pc k) (sane-stored pc (with_chain (a ∷ chain) k) sane))
    ∙ (then_one Exec.deliver_all (lacks_memory z (growth z)) (after z (Err Fault.OutOfMemory)) _
    ∙ below _ _ (ap (λ r. and_then (Coros.deliver a.driver (Coros.event_of CoroState.Awaiting payload (rest_here z)) (suspended_with (saved_core CoroState.Awaiting dst z) r z)) Exec.delivered) (pick-false _ (saved_rest z payload (rest_here z)))
    ∙ awaits-to a.driver payload _ (suspended_by_await dst payload z))))
