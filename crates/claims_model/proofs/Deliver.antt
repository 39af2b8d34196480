-- deliver and deliver_return write what deliver_to says, and touch no core; coro_suspend's outcome; Yield, YieldKv, Await.
use Prim.Native.Nat.{ℕ}
use mathlib.Core.Path.{◌≡◌, refl, sym, ap, ◌∙◌, subst}
use mathlib.Core.Bool.{Bool, true, false, not, ◌&&◌}
use mathlib.Core.List.{List, [], ◌∷◌}
use mathlib.Core.Option.{none, some}
use lib.ListN.{length, take}
use lib.Dec.{leb}
use Rattle.lists.specs.Pick.{pick, pick_true, pick-false}
use Rattle.heap.specs.Word.{nil}
use Rattle.heap.specs.declared.fault.Fault.{Fault}
use Rattle.heap.specs.declared.object.CoroState.{CoroState}
use Rattle.model.specs.State.{is_awaiting, is_suspended}
use Rattle.model.specs.Object.{Core, Rest, Coroutine, Absent, Is, with_closing, with_signal, with_payload}
use Rattle.model.specs.World.{World, After, after}
use Rattle.model.specs.Frames.{on_top, set_pc, below, base_at, reg, store_pc}
use Rattle.model.specs.Heap.{coro, dyn_int, fits}
use Rattle.model.specs.Coro as Coro
use Rattle.model.specs.Coro.{saved, sized, growth, set_keys, unclose, suspend_coroutine, suspend_innermost, coro_suspend, deliver, deliver_return}
use Rattle.model.specs.Sound.{marked}
use Rattle.model.specs.Exec.{delivered, deliver_all, suspend, largest_in, auto_key, yield_key, yield_on, yield, larger_of, yield_kv_on, yield_kv, await_on, await}
use Rattle.model.specs.declared.machine.Driver.{Driver}
use Rattle.model.specs.declared.machine.Active.{Active}
use Rattle.model.specs.declared.coro.Event as M
use Rattle.std.specs.Prelude.{Option, Result, Some, None, Ok, Err}
use Rattle.model.specs.declared.exec.Step.{Step}
use Rattle.model.specs.declared.call.Op.{Op}
use Rattle.claims_model.specs.Touches.{may}
use Rattle.claims_model.specs.Steps.{seen_of}
use Rattle.claims_model.proofs.Entry.{suspends}
use Rattle.claims_model.proofs.Tries.{taken, tries, keyed, in_body}
use Rattle.claims_model.proofs.Suspension.{suspends_in}
use Rattle.claims_model.proofs.Held.{Seat, closing_of, core_in, core_at, held_as, Event, Yields, Awaits, Ignores, Returns, event_as, mem, put, send, deliver_to}
use Rattle.claims_model.proofs.Cores.{kept, set-mine, set_other}
use Rattle.claims_model.proofs.Shape.{done, tops, Suspend}
use Rattle.claims_model.proofs.Under.{keeps-pc}
use Rattle.claims_model.proofs.Instr.{Arm, a-works, a-suspends}
use Rattle.claims_model.proofs.Quiet.{Same, same_none, same-worked, key-same, key-calm, done-calm}

pub record Delivered (d : Driver) (e : Event) (w z : World) : Type 0 where
  pub setup : z.setup ≡ w.setup
  pub under : mem z.stack z.frames ≡ deliver_to d e (mem w.stack w.frames)
  pub chain : z.chain ≡ w.chain
  pub cores : (c : ℕ) → core_at z c ≡ core_at w c

abbrev pub told : M.Event → Event
told (M.Event.Yielded payload key) = Yields payload
told (M.Event.Awaiting payload) = Awaits payload
told M.Event.CloseIgnored = Ignores

pub deliver-told : (d : Driver) (e : M.Event) (w : World) → Delivered d (told e) w (deliver d e w).world
unfolding deliver
deliver-told (Driver.Resume dst) (M.Event.Yielded payload key) w = record { setup = refl; under = refl; chain = refl; cores = λ c. refl }
deliver-told (Driver.Resume dst) (M.Event.Awaiting payload) w = record { setup = refl; under = refl; chain = refl; cores = λ c. refl }
deliver-told (Driver.Resume dst) M.Event.CloseIgnored w = record { setup = refl; under = refl; chain = refl; cores = λ c. refl }
deliver-told (Driver.Iter has val iter) (M.Event.Yielded payload key) w =
    let g = key-calm iter key w in
    record { setup = g.setup; under = λ i. send has 1 (put val payload (mem (g.stack i) (g.frames i))); chain = g.chain; cores = g.cores }
deliver-told (Driver.Iter has val iter) (M.Event.Awaiting payload) w = record { setup = refl; under = refl; chain = refl; cores = λ c. refl }
deliver-told (Driver.Iter has val iter) M.Event.CloseIgnored w = record { setup = refl; under = refl; chain = refl; cores = λ c. refl }
deliver-told Driver.Host e w = record { setup = refl; under = refl; chain = refl; cores = λ c. refl }
deliver-told Driver.Finalize e w = record { setup = refl; under = refl; chain = refl; cores = λ c. refl }

pub return-told : (d : Driver) (x : ℕ) (w : World) → Delivered d (Returns x) w (deliver_return d x w)
return-told (Driver.Resume dst) x w = record { setup = refl; under = refl; chain = refl; cores = λ c. refl }
return-told (Driver.Iter has val iter) x w =
    let g = done-calm iter w in
    record { setup = g.setup; under = λ i. send has 0 (mem (g.stack i) (g.frames i)); chain = g.chain; cores = g.cores }
return-told Driver.Host x w = record { setup = refl; under = refl; chain = refl; cores = λ c. refl }
return-told Driver.Finalize x w = record { setup = refl; under = refl; chain = refl; cores = λ c. refl }

-- ---- coro_suspend

pub data SuspendCase (s : CoroState) (dst x : ℕ) (keys : Option (ℕ × ℕ)) (t : World) : After (Result (Driver × M.Event) Fault) → Type 0 where
  z-in : (a : Active) (chain : List Active) (k : Core) (r : Rest) → t.chain ≡ a ∷ chain → coro t a.coro ≡ Is k r
      → SuspendCase s dst x keys t (after (Coro.put_to_sleep a chain (saved s dst a.floor t) x keys r t) (Ok (a.driver, Coro.event_of s x (set_keys keys r))))
  z-out : (f : Fault) → SuspendCase s dst x keys t (after t (Err f))

pub suspend-case : (s : CoroState) (dst x : ℕ) (keys : Option (ℕ × ℕ)) (t : World) → SuspendCase s dst x keys t (coro_suspend s dst x keys t)
unfolding coro_suspend pick
suspend-case s dst x keys t = go t.chain refl
  where
    fit : (a : Active) (chain : List Active) (k : Core) (r : Rest) → t.chain ≡ a ∷ chain → coro t a.coro ≡ Is k r → (b : Bool)
        → SuspendCase s dst x keys t (pick b (after t (Err Fault.OutOfMemory)) (after (Coro.put_to_sleep a chain (saved s dst a.floor t) x keys r t) (Ok (a.driver, Coro.event_of s x (set_keys keys r)))))
    fit a chain k r e h true = z-out Fault.OutOfMemory
    fit a chain k r e h false = z-in a chain k r e h

    there : (a : Active) (chain : List Active) → t.chain ≡ a ∷ chain → (y : Coroutine) → coro t a.coro ≡ y → SuspendCase s dst x keys t (suspend_coroutine y a chain (saved s dst a.floor t) x keys t)
    there a chain e Absent h = z-out Fault.TypeError
    there a chain e (Is k r) h = fit a chain k r e h (not (fits t (growth t (saved s dst a.floor t) r)))

    deep : (a : Active) (chain : List Active) → t.chain ≡ a ∷ chain → (b : Bool) → SuspendCase s dst x keys t (pick b (after t (Err Fault.CannotSuspend)) (suspend_coroutine (coro t a.coro) a chain (saved s dst a.floor t) x keys t))
    deep a chain e true = z-out Fault.CannotSuspend
    deep a chain e false = there a chain e (coro t a.coro) refl

    go : (cs : List Active) → t.chain ≡ cs → SuspendCase s dst x keys t (suspend_innermost cs s dst x keys t)
    go [] e = z-out Fault.CannotSuspend
    go (a ∷ chain) e = deep a chain e (leb (length t.frames) a.floor)

pub keys-closing : (keys : Option (ℕ × ℕ)) (r : Rest) → (set_keys keys r).closing ≡ r.closing
keys-closing None r = refl
keys-closing (Some (key, largest)) r = refl

-- a yield ends a closing
unclosed-by : (await closing : Bool) (r : Rest) → r.closing ≡ closing → closing_of (pick (not await && closing) (with_closing false (with_signal nil r)) r) ≡ pick await (closing_of r) none
unfolding pick
unclosed-by true b r e = refl
unclosed-by false true r e = refl
unclosed-by false false r e = ap (λ b. pick b (some r.signal) none) e

unclosed : (s : CoroState) (keys : Option (ℕ × ℕ)) (r : Rest) → closing_of (unclose s (set_keys keys r)) ≡ pick (is_awaiting s) (closing_of r) none
unclosed s None r = unclosed-by (is_awaiting s) r.closing r refl
unclosed s (Some (key, largest)) r = unclosed-by (is_awaiting s) r.closing (set_keys (Some (key, largest)) r) refl

pick-told : (a b : Bool) (x key : ℕ) → told (pick a (M.Event.Awaiting x) (pick b M.Event.CloseIgnored (M.Event.Yielded x key))) ≡ pick a (Awaits x) (pick b Ignores (Yields x))
unfolding pick
pick-told true b x key = refl
pick-told false true x key = refl
pick-told false false x key = refl

told-event : (s : CoroState) (x : ℕ) (keys : Option (ℕ × ℕ)) (r : Rest) → told (Coro.event_of s x (set_keys keys r)) ≡ event_as r.closing s x
told-event s x keys r = pick-told (is_awaiting s) (set_keys keys r).closing x (set_keys keys r).key ∙ ap (λ b. pick (is_awaiting s) (Awaits x) (pick b Ignores (Yields x))) (keys-closing keys r)

told-world : (w : World) (r : Result Unit Fault) → (delivered w r).world ≡ w
told-world w (Ok u) = refl
told-world w (Err f) = refl

-- a suspension at v, the key's object made before it at u
pub suspend-arm : (p : ℕ) (s : CoroState) → is_suspended s ≡ true → (dst x : ℕ) (keys : Option (ℕ × ℕ)) (v u : World) → Same v u → Arm (may (some p) none false) v p (suspends s dst x) (tries p s dst x u keys) (suspend p s dst x keys u).world
suspend-arm p s h dst x keys v u g = go (coro_suspend s dst x keys t) (suspend-case s dst x keys t)
  where
    t : World
    t = store_pc p u

    go : (o : After (Result (Driver × M.Event) Fault)) → SuspendCase s dst x keys t o → Arm (may (some p) none false) v p (suspends s dst x) (taken o.answer) (deliver_all o.world o.answer).world
    go o (z-out f) = a-works refl refl (same-worked g (tops (set_pc p) (keeps-pc p) (p, refl, refl) done))
    go o (z-in a chain k r e c) = a-suspends refl s dst x a chain refl (subst (Suspend v p s dst x a chain) (sym (told-world (deliver a.driver m y).world (deliver a.driver m y).answer)) it)
      where
        m : M.Event
        m = Coro.event_of s x (set_keys keys r)

        y : World
        y = Coro.put_to_sleep a chain (saved s dst a.floor t) x keys r t

        d : Delivered a.driver (told m) y (deliver a.driver m y).world
        d = deliver-told a.driver m y

        k₁ : Core
        k₁ = saved s dst a.floor t

        r₁ : Rest
        r₁ = unclose s (set_keys keys (with_payload x (sized (saved s dst a.floor t) r)))

        ends : closing_of (unclose s (set_keys keys (with_payload x (sized (saved s dst a.floor t) r)))) ≡ pick (is_awaiting s) (core_at v a.coro).closing none
        ends = unclosed s keys (with_payload x (sized (saved s dst a.floor t) r)) ∙ ap (λ y. pick (is_awaiting s) (core_in y).closing none) (sym c ∙ g.coros a.coro)

        event : told (Coro.event_of s x (set_keys keys r)) ≡ event_as (marked (λ r. r.closing) (coro v a.coro)) s x
        event = told-event s x keys r ∙ ap (λ b. event_as (marked (λ r. r.closing) b) s x) (sym c ∙ g.coros a.coro)

        mine : core_at (deliver a.driver m y).world a.coro ≡ held_as (seen_of (Is k₁ r₁)) (core_at v a.coro).closing s dst a.floor (base_at a.floor (on_top (set_pc p) v.frames)) (on_top (set_pc p) v.frames) v.stack
        mine = d.cores a.coro ∙ ap core_in (set-mine t.slots a.coro c k₁ r₁)
            ∙ (λ i. record { state = s; regs = k₁.regs; frames = k₁.frames; waiting = dst; closing = ends i; seen = seen_of (Is k₁ r₁) })
            ∙ (λ i. held_as (seen_of (Is k₁ r₁)) (core_at v a.coro).closing s dst a.floor (base_at a.floor (on_top (set_pc p) (g.frames i))) (on_top (set_pc p) (g.frames i)) (g.stack i))

        it : Suspend v p s dst x a chain (deliver a.driver m y).world
        it =
            record {
              setup = d.setup ∙ g.setup;
              inmost = sym g.chain ∙ e;
              is-suspended = h;
              mine = mine ∙ ap (λ x. held_as x (core_at v a.coro).closing s dst a.floor (base_at a.floor (on_top (set_pc p) v.frames)) (on_top (set_pc p) v.frames) v.stack) (sym (ap (λ (y : Seat). y.seen) mine));
              others = λ n q. kept (d.cores n ∙ set_other t.slots a.coro c k₁ r₁ n q ∙ ap core_in (g.coros n));
              under = d.under ∙ (λ i. deliver_to a.driver (event i) (mem (take (base_at a.floor (on_top (set_pc p) (g.frames i))) (g.stack i)) (below a.floor (on_top (set_pc p) (g.frames i)))));
              outer = d.chain;
            }

-- ---- Yield, YieldKv, Await

pub yield-arm : (p dst src : ℕ) (v : World) → Arm (may (some p) none false) v p (suspends CoroState.Yielded dst (reg v src)) (suspends_in (Op.Yield p dst src) v) (yield p dst src v).world
unfolding yield
yield-arm p dst src v = go v.chain
  where
    made : (o : After (Result (ℕ × ℕ) Fault)) → Same v o.world → Arm (may (some p) none false) v p (suspends CoroState.Yielded dst (reg v src)) (keyed (tries p CoroState.Yielded dst (reg v src)) o.world o.answer) (yield_key p dst (reg v src) o.world o.answer).world
    made o g = cases o.answer
      where
        cases : (k : Result (ℕ × ℕ) Fault) → Arm (may (some p) none false) v p (suspends CoroState.Yielded dst (reg v src)) (keyed (tries p CoroState.Yielded dst (reg v src)) o.world k) (yield_key p dst (reg v src) o.world k).world
        cases (Ok (key, largest)) = suspend-arm p CoroState.Yielded refl dst (reg v src) (Some (key, largest)) v o.world g
        cases (Err f) = a-works refl refl (same-worked g done)

    go : (cs : List Active)
        → Arm (may (some p) none false) v p (suspends CoroState.Yielded dst (reg v src)) (in_body cs (λ a. keyed (tries p CoroState.Yielded dst (reg v src)) (auto_key (largest_in (coro v a.coro)) v).world (auto_key (largest_in (coro v a.coro)) v).answer)) (yield_on cs p dst src v).world
    go [] = a-works refl refl done
    go (a ∷ chain) = made (auto_key (largest_in (coro v a.coro)) v) (key-same (largest_in (coro v a.coro)) v)

pub yield_kv-arm : (p dst src key : ℕ) (v : World) → Arm (may (some p) none false) v p (suspends CoroState.Yielded dst (reg v src)) (suspends_in (Op.YieldKv p dst src key) v) (yield_kv p dst src key v).world
unfolding yield_kv
yield_kv-arm p dst src key v = go v.chain
  where
    keys : Active → Option (ℕ × ℕ)
    keys a = Some (reg v key, larger_of (largest_in (coro v a.coro)) (dyn_int v (reg v key)))

    go : (cs : List Active) → Arm (may (some p) none false) v p (suspends CoroState.Yielded dst (reg v src)) (in_body cs (λ a. tries p CoroState.Yielded dst (reg v src) v (keys a))) (yield_kv_on cs p dst src key v).world
    go [] = a-works refl refl done
    go (a ∷ chain) = suspend-arm p CoroState.Yielded refl dst (reg v src) (keys a) v v same_none

pub await-arm : (p dst src : ℕ) (v : World) → Arm (may (some p) none false) v p (suspends CoroState.Awaiting dst (reg v src)) (suspends_in (Op.Await p dst src) v) (await p dst src v).world
unfolding await
await-arm p dst src v = go v.chain
  where
    go : (cs : List Active) → Arm (may (some p) none false) v p (suspends CoroState.Awaiting dst (reg v src)) (in_body cs (λ a. tries p CoroState.Awaiting dst (reg v src) v None)) (await_on cs p dst src v).world
    go [] = a-works refl refl done
    go (a ∷ chain) = suspend-arm p CoroState.Awaiting refl dst (reg v src) None v v same_none
