-- Lists of the host's turns, from the calls' shapes: a suspended one stays so; what lies below an entry.
use Prim.Native.Nat.{ℕ, zero, suc}
use mathlib.Core.Path.{◌≡◌, refl, sym, ap, ◌∙◌}
use mathlib.Core.Bool.{Bool, true, false}
use mathlib.Core.List.{List, [], ◌∷◌}
use lib.ListN.{get_or}
use Rattle.lists.specs.Pick.{pick, pick_true}
use Rattle.heap.specs.Table.{slot}
use Rattle.std.specs.Prelude.{Option, Some, None}
use Rattle.heap.specs.declared.fault.Fault.{Fault}
use Rattle.heap.specs.declared.object.CoroState.{CoroState}
use Rattle.model.specs.State.{is_created, is_running, is_resumable}
use Rattle.model.specs.Program.{Func, Setup, setup_ok}
use Rattle.model.specs.Object.{Object, Absent, as_coro}
use Rattle.model.specs.World.{World, fresh, function_objects}
use Rattle.model.specs.Heap.{place, object_at, coro}
use Rattle.model.specs.Gate.{refused}
use Rattle.model.specs.Added.{accepted}
use Rattle.model.specs.Sound.{sound}
use Rattle.model.specs.Call.{Call, SetUp, Do, Operation}
use Rattle.model.specs.Step.{told, call, step, tested}
use Rattle.model.specs.declared.machine.Active.{Active}
use Rattle.model.specs.declared.machine.Frame.{Frame}
use Rattle.model.specs.declared.machine.Driver.{Driver}
use Rattle.claims_model.specs.Engine.{Turn, turn_call, turn_fuel, run_turns}
use Rattle.claims_model.specs.Says.{Sent}
use Rattle.claims_model.specs.Steps.{steps}
use Rattle.claims_model.proofs.Entry.{nobody, entry, act, entry_by, entry_of, driver_of, pc_of}
use Rattle.claims_model.proofs.Held.{Seat, core_in, core_at, calling, event_of, mem, deliver_to}
use Rattle.claims_model.proofs.Split.{next, has_left, Enters, Stops, restarts, Waits, Goes, SuspendedAs, Left}
use Rattle.claims_model.proofs.Cores.{no_both, m-plain, m-ending}
use Rattle.claims_model.proofs.Shape.{view, Enter, Apart, mode_of}
use Rattle.claims_model.proofs.Events.{susp-run, susp-born, entered-one, Firm, suspended-still}
use Rattle.claims_model.proofs.Fate as F
use Rattle.claims_model.proofs.Fate.{Under, landed}
use Rattle.claims_model.proofs.Sounds.{apart, lifts}
use Rattle.claims_model.proofs.Calls.{shape}

-- ---- one call: a set-up that is accepted, one that does nothing, or one on a sound machine

pub data StepCase (w : World) : Call → World → Type 0 where
  anew : (s : Setup) → setup_ok s ≡ true → StepCase w (SetUp s) (fresh s)
  same : (k : Call) → entry_of w k ≡ nobody → StepCase w k w
  does : (o : Operation) → sound w ≡ true → StepCase w (Do o) (call o.op w).world

pub step_case : (w : World) (k : Call) → StepCase w k (next w k)
unfolding step tested pick
step_case w (SetUp s) = go (setup_ok s) refl
  where
    go : (b : Bool) → setup_ok s ≡ b → StepCase w (SetUp s) (pick b (accepted (fresh s)) (refused w Fault.Unsound)).world
    go true e = anew s e
    go false e = same (SetUp s) refl
step_case w (Do o) = go (sound w) refl
  where
    go : (b : Bool) → sound w ≡ b → StepCase w (Do o) (pick b (call o.op w) (told (refused w Fault.Unsound))).world
    go true e = does o e
    go false e = same (Do o) (ap (λ b. pick b (entry_by (act w o.op) w) nobody) e)

pub next-sound : (w : World) (o : Operation) → sound w ≡ true → next w (Do o) ≡ (call o.op w).world
unfolding step tested pick
next-sound w o e = ap (λ b. (pick b (call o.op w) (told (refused w Fault.Unsound))).world) e

-- nobody is there after a set-up
absent-at : (n : ℕ) (fs : List Func) (i : ℕ) → as_coro (get_or (function_objects n fs) i (slot 0 Object.Empty)).object ≡ Absent
absent-at n [] i = refl
absent-at n (f ∷ fs) zero = refl
absent-at n (f ∷ fs) (suc i) = absent-at (suc n) fs i

pub fresh-absent : (s : Setup) (c : ℕ) → coro (fresh s) c ≡ Absent
fresh-absent s c = go (place (fresh s) c)
  where
    go : (p : Option ℕ) → as_coro (object_at (function_objects 0 s.functions) p) ≡ Absent
    go None = refl
    go (Some i) = absent-at 0 s.functions i

pub entry-sound : (w : World) (o : Operation) → sound w ≡ true → entry_of w (Do o) ≡ entry_by (act w o.op) w
entry-sound w o h = ap (λ b. pick b (entry_by (act w o.op) w) nobody) h ∙ pick_true (entry_by (act w o.op) w) nobody

-- ---- a suspended one stays so, and one that has ended stays so

pub stays-firm : (c : ℕ) (w : World) (k : Call) (s : Seat) → Firm c s m-plain → Firm c s m-ending → ((o : Operation) → k ≡ Do o → Firm c s (mode_of (act w o.op))) → is_running s.state ≡ false → restarts k ≡ false
    → is_running (core_at (next w k) c).state ≡ false → core_at w c ≡ s → core_at (next w k) c ≡ s
stays-firm c w k s f g i r n a h = go (next w k) (step_case w k) i n a
  where
    go : {k : Call} (z : World) → StepCase w k z → ((o : Operation) → k ≡ Do o → Firm c s (mode_of (act w o.op))) → restarts k ≡ false → is_running (core_at z c).state ≡ false → core_at z c ≡ s
    go z (anew x e) i n a = no_both e n
    go z (same k e) i n a = h
    go z (does o e) i n a = suspended-still c s f g (i o refl) (shape w o.op) (apart w e c (ap (λ x. is_running x.state) h ∙ r)) h a

pub stays : (c : ℕ) (w : World) (k : Call) (s : Seat) → is_created s.state ≡ false → is_running s.state ≡ false → restarts k ≡ false → is_running (core_at (next w k) c).state ≡ false → core_at w c ≡ s → core_at (next w k) c ≡ s
stays c w k s b r n a h = stays-firm c w k s (λ x _. no_both x b) (λ x _. no_both x b) (λ o e x _. no_both x b) r n a h

pub stays-suspended : (c : ℕ) (s : Seat) (w : World) (ts : List (Turn Call)) → SuspendedAs w c s → Waits c w ts → SuspendedAs (run_turns steps w ts) c s
stays-suspended c s w [] h q = h
stays-suspended c s w (turn_fuel f ∷ ts) h q = stays-suspended c s (steps.refuel w f) ts (record { is-suspended = h.is-suspended; holds = h.holds }) q
stays-suspended c s w (turn_call k ∷ ts) h q = go (is_running (core_at (next w k) c).state) refl (stays-suspended c s (next w k) ts)
  where
    still : is_running s.state ≡ false
    still = susp-run s.state h.is-suspended

    go : (b : Bool) → is_running (core_at (next w k) c).state ≡ b → (SuspendedAs (next w k) c s → Waits c (next w k) ts → SuspendedAs (run_turns steps (next w k) ts) c s) → SuspendedAs (run_turns steps (next w k) ts) c s
    go true e rest = absurd (q.1 (record { before = ap (λ x. is_running x.state) h.holds ∙ still; after = e }))
    go false e rest = rest (record { is-suspended = h.is-suspended; holds = stays c w k s (susp-born s.state h.is-suspended) still q.0 e h.holds }) q.2

-- ---- entries

-- the entry of a call, with the sound world's shape
pub record Entering (c : ℕ) (w : World) (k : Call) (z : World) : Type 0 where
  pub healthy : sound w ≡ true
  pub driver : Driver
  pub sent : Sent
  pub by : entry_of w k ≡ entry c driver sent
  pub enter : Enter w (pc_of w k) c driver sent z

pub entering : (c : ℕ) (w : World) (k : Call) → Enters c w k → Entering c w k (next w k)
entering c w k h = go (next w k) (step_case w k) h.after
  where
    go : {k : Call} (z : World) → StepCase w k z → is_running (core_at z c).state ≡ true → Entering c w k z
    go z (anew s e) a = no_both a (ap (λ x. is_running (core_in x).state) (fresh-absent s c))
    go z (same k e) a = no_both a h.before
    go z (does o e) a =
        let t = entered-one c (shape w o.op) h.before a in
        record { healthy = e; driver = t.driver; sent = t.sent; by = entry-sound w o e ∙ t.by; enter = t.enter }

-- ---- what lies below an entry

pub run-left : (s : CoroState) → is_running s ≡ true → has_left s ≡ false
run-left CoroState.Created e = refl
run-left CoroState.Running e = refl
run-left CoroState.Yielded e = sym e
run-left CoroState.Awaiting e = sym e
run-left CoroState.Returned e = sym e
run-left CoroState.Failed e = refl

-- what has failed stays so
lost-on : (c : ℕ) (s : Seat) → s.state ≡ CoroState.Failed → (w : World) (ts : List (Turn Call)) → core_at w c ≡ s → Goes c w ts → core_at (run_turns steps w ts) c ≡ s
lost-on c s f w [] h q = h
lost-on c s f w (turn_fuel x ∷ ts) h q = lost-on c s f (steps.refuel w x) ts h q
lost-on c s f w (turn_call k ∷ ts) h q = lost-on c s f (next w k) ts (stays c w k s (ap is_created f) (ap is_running f) q.0 (out (is_running (core_at (next w k) c).state) refl) h) q.2
  where
    out : (b : Bool) → is_running (core_at (next w k) c).state ≡ b → is_running (core_at (next w k) c).state ≡ false
    out false e = e
    out true e = no_both (entering c w k (record { before = ap (λ x. is_running x.state) h ∙ ap is_running f; after = e })).enter.ready (ap (λ x. is_resumable x.state) h ∙ ap is_resumable f)

module _ (c : ℕ) (d : Driver) (bs : List ℕ) (bf : List Frame) (bc : List Active) (away : Apart c bc) where
  -- what a call does to what lies below c
  pub data Fate (w : World) (k : Call) (z : World) : Type 0 where
    goes : Under c d bs bf bc (view z) → Fate w k z
    left : mem z.stack z.frames ≡ deliver_to d (event_of w k c) (mem bs bf) → z.chain ≡ bc → has_left (core_at z c).state ≡ true → Fate w k z
    lost : (core_at z c).state ≡ CoroState.Failed → Fate w k z
    over : restarts k ≡ true → has_left (core_at z c).state ≡ false → Fate w k z

  fate-one : (w : World) (k : Call) → Under c d bs bf bc (view w) → Fate w k (next w k)
  fate-one w k u = go (next w k) (step_case w k)
    where
      cases : (o : Operation) (z : World) → F.Fate c d bs bf bc away w o.op z → Fate w (Do o) z
      cases o z (F.goes x) = goes x
      cases o z (F.left x y e) = left x y e
      cases o z (F.lost x) = lost x

      go : {k : Call} (z : World) → StepCase w k z → Fate w k z
      go z (anew s e) = over e (ap (λ x. has_left (core_in x).state) (fresh-absent s c))
      go z (same k e) = goes u
      go z (does o e) = cases o z (F.fate c d bs bf bc away (shape w o.op) (lifts w e) u)

  goes_on : (w : World) (ts : List (Turn Call)) → Under c d bs bf bc (view w) → Goes c w ts → is_running (core_at (run_turns steps w ts) c).state ≡ true → Under c d bs bf bc (view (run_turns steps w ts))
  goes_on w [] u q r = u
  goes_on w (turn_fuel f ∷ ts) u q r = goes_on (steps.refuel w f) ts u q r
  goes_on w (turn_call k ∷ ts) u q r = go (fate-one w k u) (goes_on (next w k) ts)
    where
      go : Fate w k (next w k) → (Under c d bs bf bc (view (next w k)) → Goes c (next w k) ts → is_running (core_at (run_turns steps (next w k) ts) c).state ≡ true → Under c d bs bf bc (view (run_turns steps (next w k) ts)))
          → Under c d bs bf bc (view (run_turns steps (next w k) ts))
      go (goes x) rest = rest x q.2 r
      go (left x y e) rest = absurd (q.1 (record { before = u.runs; after = e }))
      go (lost x) rest = no_both r (ap (λ n. is_running n.state) (lost-on c (core_at (next w k) c) x (next w k) ts refl q.2) ∙ ap is_running x)
      go (over x e) rest = no_both x q.0

  pub leaving : (w : World) (ts : List (Turn Call)) (l : Call) → Under c d bs bf bc (view w) → Goes c w ts → let v = run_turns steps w ts in Stops c v l
      → (mem (next v l).stack (next v l).frames ≡ deliver_to d (event_of v l c) (mem bs bf)) × ((next v l).chain ≡ bc)
  leaving w ts l u q h = go (fate-one v l (goes_on w ts u q h.before))
    where
      v : World
      v = run_turns steps w ts

      go : Fate v l (next v l) → (mem (next v l).stack (next v l).frames ≡ deliver_to d (event_of v l c) (mem bs bf)) × ((next v l).chain ≡ bc)
      go (goes x) = no_both h.after (run-left (core_at (next v l) c).state x.runs)
      go (left x y e) = (x, y)
      go (lost x) = no_both h.after (ap has_left x)
      go (over x e) = no_both h.after e

pub untouched : (c : ℕ) (w : World) (k : Call) (ts : List (Turn Call)) (l : Call) → Enters c w k → Goes c (next w k) ts → let v = run_turns steps (next w k) ts in Stops c v l → Left w k c v l (next v l)
untouched c w k ts l h q e =
    let t = entering c w k h in
    let u = landed w (pc_of w k) c t.driver t.sent (next w k) (lifts w t.healthy c t.enter.ready t.enter.solid) t.enter in
    let x = leaving c t.driver w.stack (calling w k) w.chain (apart w t.healthy c h.before) (next w k) ts l u q e in
    record { under = x.0 ∙ ap (λ d. deliver_to d (event_of (run_turns steps (next w k) ts) l c) (mem w.stack (calling w k))) (sym (ap driver_of t.by)); chain = x.1 }
