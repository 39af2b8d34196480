-- The engines in which no list of calls meets every premise of demand 3: each lacks the field that WrongLists.antt names.
use Prim.Native.Nat.{ℕ}
use native.Mathlib.Omega.{arith}
use mathlib.Core.Path.{◌≡◌, refl, sym, ap, ◌∙◌}
use mathlib.Core.Logic.{◌⊎◌, inl, inr}
use mathlib.Core.Bool.{Bool, true, false, not, ◌&&◌, ◌||◌}
use mathlib.Core.List.{List, [], ◌∷◌, map}
use mathlib.Core.Option.{Option, none, some}
use lib.ListN.{take}
use lib.Dec.{eqb}
use borrow.Author.Tests.{eqb-true}
use Rattle.lists.specs.Pick.{pick}
use Rattle.heap.specs.declared.object.CoroState.{CoroState}
use Rattle.model.specs.World.{World, fresh, with_fuel}
use Rattle.model.specs.Answer.{number_of}
use Rattle.model.specs.Call.{Call, SetUp, as_call}
use Rattle.model.specs.Step.{step}
use Rattle.model.specs.Compute.{computed}
use Rattle.model.specs.declared.call.Op.{Op}
use Rattle.claims_model.specs.Engine.{Seen, Turn, turn_call, turn_fuel, run_turns, seen_running, seen_suspended, seen_returned, seen_in, state_is}
use Rattle.claims_model.specs.Demand3.{Enters, Stops, Restarts, Waits, Goes}
use Rattle.claims_model.specs.Events.{rests}
use Rattle.claims_model.specs.Promise.{Roomy, IntFits, NotEmpty}
use Rattle.claims_model.specs.Premises.{is_set_up}
use Rattle.claims_model.specs.Steps.{view_of, model_op, steps}
use Rattle.claims_model.specs.Story.{wide, c}
use Rattle.claims_model.specs.Refuted.{RefutedIn, Listed, listed, before_x, before_y, before_z, Suspended, Waited, EnteredBy, Gone, LeftBy, but_waits, but_enters, but_goes, but_leaves}
use Rattle.claims_model.specs.Altered as Altered
use Rattle.claims_model.specs.Altered.{is_a, seeing, answering_at, refusing}
use Rattle.claims_model.specs.WrongRestored.{was_suspended}
use Rattle.claims_model.specs.WrongLists as W
use Rattle.claims_model.specs.WrongLists.{full_seen, as_created, all_as_created, enters_no_sleeper, Halting, sets_up, halts_after_reentry}
use Rattle.claims_model.proofs.Cores.{no_both, and_left, and_right}
use Rattle.claims_model.proofs.Premises.{goes-true}
use Rattle.claims_model.proofs.Exactly.{events, demand3}
use Rattle.claims_model.proofs.Promise.{promise}
use Rattle.claims_model.proofs.Places.{begun}

-- ---- of any list

abbrev some-list : Listed World Call
some-list = record { start = fresh wide; first = SetUp wide; before = []; x = SetUp wide; waiting = []; y = SetUp wide; going = []; z = SetUp wide; c = c }

not-empty-accepted : RefutedIn NotEmpty listed (λ e l. Restarts e l.start l.first) (λ e v. v.accepted) (refusing Altered.set_up 11)
unfolding pick
not-empty-accepted = (
  some-list,
  λ l h.
      let q : ◌≡◌ {A = ℕ} 11 0 = sym (ap (λ o. pick (is_a Altered.set_up o) 11 (number_of (step l.start l.first).answer)) h.sets-up) ∙ h.accepted in
      absurd (omega (arith, q)),
)

never-suspended : (x : Option Seen) → seen_in (λ y. seen_suspended y.state) (as_created x) ≡ true → ⊥
never-suspended none h = no_both h refl
never-suspended (some x) h = go x.state h
  where
    go : (s : CoroState) → seen_suspended (W.unbegun s) ≡ true → ⊥
    go CoroState.Created h = no_both h refl
    go CoroState.Running h = no_both h refl
    go CoroState.Yielded h = no_both h refl
    go CoroState.Awaiting h = no_both h refl
    go CoroState.Returned h = no_both h refl
    go CoroState.Failed h = no_both h refl

not-empty-suspends : RefutedIn NotEmpty listed Suspended (λ e v. v.suspends) (seeing all_as_created)
not-empty-suspends = (some-list, λ l h. never-suspended ((view_of (step (before_x (seeing all_as_created) l) l.x).world).coro l.c) h.after)

not-empty-roomy : RefutedIn NotEmpty listed (λ e l. let s = before_x e l in Roomy e (e.view s).rules.int_cost l.c s) (λ e v. v.roomy) (answering_at Altered.look 11)
unfolding computed
not-empty-roomy = (some-list, λ l h. let q : ◌≡◌ {A = ℕ} 11 0 = h.healthy (as_call Op.Look refl) refl in absurd (omega (arith, q)))

not-empty-makes : RefutedIn NotEmpty listed (λ e l. IntFits (e.view (before_x e l))) (λ e v. v.makes) (seeing full_seen)
not-empty-makes = (some-list, λ l h. no_both refl h.slot)

-- ---- who is suspended stays so

-- who runs is neither suspended nor Returned
runs-only : (x : Option Seen) → seen_in (λ y. seen_running y.state) x ≡ true → seen_in (λ y. seen_suspended y.state || seen_returned y.state) x ≡ true → ⊥
runs-only none h k = no_both h refl
runs-only (some x) h k = go x.state h k
  where
    go : (s : CoroState) → seen_running s ≡ true → (seen_suspended s || seen_returned s) ≡ true → ⊥
    go CoroState.Created h k = no_both h refl
    go CoroState.Running h k = no_both k refl
    go CoroState.Yielded h k = no_both h refl
    go CoroState.Awaiting h k = no_both h refl
    go CoroState.Returned h k = no_both h refl
    go CoroState.Failed h k = no_both h refl

suspended-rests : (x : Option Seen) → seen_in (λ y. seen_suspended y.state) x ≡ true → seen_in (λ y. rests y.state) x ≡ true
suspended-rests none h = no_both h refl
suspended-rests (some x) h = go x.state h
  where
    go : (s : CoroState) → seen_suspended s ≡ true → rests s ≡ true
    go CoroState.Created h = no_both h refl
    go CoroState.Running h = no_both h refl
    go CoroState.Yielded h = refl
    go CoroState.Awaiting h = refl
    go CoroState.Returned h = refl
    go CoroState.Failed h = refl

either : {A : Type 0} (b : Bool) (x y : A) → (pick b x y ≡ x) ⊎ (pick b x y ≡ y)
unfolding pick
either true x y = inl refl
either false x y = inr refl

-- where a call is not done, or is `step`'s and does not enter it
suspended-after : (u : ℕ) (w : World) (k : Call) (z : World) → (z ≡ w) ⊎ (z ≡ (step w k).world) → state_is (view_of w) seen_suspended u ≡ true → (Restarts steps w k → ⊥) → (state_is (view_of w) seen_running u ≡ false → state_is (view_of z) seen_running u ≡ true → ⊥)
    → state_is (view_of z) seen_suspended u ≡ true
suspended-after u w k z (inl e) h r n = ap (λ x. state_is (view_of x) seen_suspended u) e ∙ h
suspended-after u w k z (inr e) h r n =
    let q = events.still u w k r (λ g. n g.before (ap (λ x. state_is (view_of x) seen_running u) e ∙ g.after)) (suspended-rests ((view_of w).coro u) h) in
    ap (λ x. state_is (view_of x) seen_suspended u) e ∙ ap (seen_in (λ y. seen_suspended y.state)) q ∙ h

-- ---- no suspended one is entered

suspended-on : (u : ℕ) (ts : List (Turn Call)) (w : World) → state_is (view_of w) seen_suspended u ≡ true → Waits enters_no_sleeper u w ts → state_is (view_of (run_turns enters_no_sleeper w ts)) seen_suspended u ≡ true
suspended-on u [] w h g = h
suspended-on u (turn_fuel f ∷ ts) w h g = suspended-on u ts (with_fuel f w) h g
suspended-on u (turn_call k ∷ ts) w h g =
    let z = (step w k).world in
    suspended-on u ts (enters_no_sleeper.next w k) (suspended-after u w k (enters_no_sleeper.next w k) (either (was_suspended w z.chain) w z) h (λ r. g.0 (record { sets-up = r.sets-up; accepted = r.accepted })) (λ p q. g.1 (record { before = p; after = q }))) g.2

no-sleeper-entered : (u : ℕ) (w : World) (k : Call) → state_is (view_of w) seen_suspended u ≡ true → Enters enters_no_sleeper u w k → ⊥
unfolding pick
no-sleeper-entered u w k h g = go (was_suspended w (step w k).world.chain) refl
  where
    go : (b : Bool) → was_suspended w (step w k).world.chain ≡ b → ⊥
    go true e = let same = ap (λ b. state_is (view_of (pick b w (step w k).world)) seen_running u) e in no_both (sym same ∙ g.after) g.before
    go false e =
        let same = ap (λ b. state_is (view_of (pick b w (step w k).world)) seen_running u) e in
        let t = demand3.entered u w k (record { before = g.before; after = sym same ∙ g.after }) in
        no_both h (sym (ap (was_suspended w) t.chain) ∙ e)

-- the calls that make c anew after a set-up, and resume it
anew : List (Turn Call)
unfolding computed
anew = map turn_call (as_call (Op.Grant 1000) refl ∷ as_call (Op.HostCall 0) refl ∷ as_call (Op.CoroNew 1 0 0 0) refl ∷ as_call (Op.Resume 2 1 0 2) refl ∷ [])

not-empty-waits : RefutedIn NotEmpty but_waits (λ e g. Waited e g.0) (λ e v. v.waits) enters_no_sleeper
unfolding computed begun anew
not-empty-waits = (
  (
    record { start = begun; first = as_call Op.Look refl; before = []; x = as_call (Op.Yield 8 3 1) refl; waiting = turn_call (SetUp wide) ∷ take 3 anew; y = as_call (Op.Resume 2 1 0 2) refl; going = []; z = as_call (Op.Yield 8 3 1) refl; c = c },
    record { before = refl; after = refl },
    record { before = refl; after = refl },
    tt,
    record { before = refl; after = refl },
  ),
  λ g h.
      let l = g.0 in
      no-sleeper-entered l.c (before_y enters_no_sleeper l) l.y (suspended-on l.c l.waiting (enters_no_sleeper.next (before_x enters_no_sleeper l) l.x) g.1.after h) g.2,
)

not-empty-enters : RefutedIn NotEmpty but_enters (λ e g. EnteredBy e g.0) (λ e v. v.enters) enters_no_sleeper
unfolding computed begun anew
not-empty-enters = (
  (
    record {
      start = begun;
      first = as_call Op.Look refl;
      before = [];
      x = as_call (Op.Yield 8 3 1) refl;
      waiting = [];
      y = SetUp wide;
      going = anew;
      z = as_call (Op.Yield 8 3 1) refl;
      c = c;
    },
    record { before = refl; after = refl },
    tt,
    goes-true enters_no_sleeper c (enters_no_sleeper.next (enters_no_sleeper.next (enters_no_sleeper.next begun (as_call Op.Look refl)) (as_call (Op.Yield 8 3 1) refl)) (SetUp wide)) anew refl,
    record { before = refl; after = refl },
  ),
  λ g h.
      let l = g.0 in
      no-sleeper-entered l.c (before_y enters_no_sleeper l) l.y (suspended-on l.c l.waiting (enters_no_sleeper.next (before_x enters_no_sleeper l) l.x) g.1.after g.2) h,
)

-- ---- who is entered again is halted

-- what a call leaves, where it is done
abbrev done : Halting → Call → Halting
done s k = let z = (step s.world k).world in record { world = z; halted = was_suspended s.world z.chain }

world-either : (s : Halting) (k : Call) → ((halts_after_reentry.next s k).world ≡ s.world) ⊎ ((halts_after_reentry.next s k).world ≡ (step s.world k).world)
world-either s k = go (either (s.halted && not (sets_up s.world k)) s (done s k))
  where
    go : (halts_after_reentry.next s k ≡ s) ⊎ (halts_after_reentry.next s k ≡ done s k) → ((halts_after_reentry.next s k).world ≡ s.world) ⊎ ((halts_after_reentry.next s k).world ≡ (step s.world k).world)
    go (inl e) = inl (ap (λ (x : Halting). x.world) e)
    go (inr e) = inr (ap (λ (x : Halting). x.world) e)

suspended-halted : (u : ℕ) (ts : List (Turn Call)) (s : Halting) → state_is (view_of s.world) seen_suspended u ≡ true → Waits halts_after_reentry u s ts → state_is (view_of (run_turns halts_after_reentry s ts).world) seen_suspended u ≡ true
suspended-halted u [] s h g = h
suspended-halted u (turn_fuel f ∷ ts) s h g = suspended-halted u ts (halts_after_reentry.refuel s f) h g
suspended-halted u (turn_call k ∷ ts) s h g =
    suspended-halted u ts (halts_after_reentry.next s k) (suspended-after u s.world k (halts_after_reentry.next s k).world (world-either s k) h (λ r. g.0 (record { sets-up = r.sets-up; accepted = r.accepted })) (λ p q. g.1 (record { before = p; after = q }))) g.2

now-halted : (u : ℕ) (s : Halting) (k : Call) → state_is (view_of s.world) seen_suspended u ≡ true → Enters halts_after_reentry u s k → (halts_after_reentry.next s k).halted ≡ true
now-halted u s k h g = go (either (s.halted && not (sets_up s.world k)) s (done s k))
  where
    go : (halts_after_reentry.next s k ≡ s) ⊎ (halts_after_reentry.next s k ≡ done s k) → (halts_after_reentry.next s k).halted ≡ true
    go (inl e) = no_both (sym (ap (λ (x : Halting). state_is (view_of x.world) seen_running u) e) ∙ g.after) g.before
    go (inr e) =
        let t = demand3.entered u s.world k (record { before = g.before; after = sym (ap (λ (x : Halting). state_is (view_of x.world) seen_running u) e) ∙ g.after }) in
        ap (λ (x : Halting). x.halted) e ∙ ap (was_suspended s.world) t.chain ∙ h

no-op : (o : Option Op) → is_set_up o ≡ true → o ≡ none
no-op none h = refl
no-op (some o) h = no_both h refl

-- a test for an accepted set-up
sets-up-by : (w : World) (k : Call) → sets_up w k ≡ true → Restarts steps w k
sets-up-by w k h =
    let a = is_set_up (model_op k) in
    let n = number_of (step w k).answer in
    record { sets-up = no-op (model_op k) (and_left a (eqb n 0) h); accepted = eqb-true n 0 (and_right a (eqb n 0) h) }

-- a call that is none leaves all as it was
stays : (s : Halting) (k : Call) → s.halted ≡ true → sets_up s.world k ≡ false → halts_after_reentry.next s k ≡ s
unfolding pick
stays s k p q = λ i. pick (p i && not (q i)) s (done s k)

stay-halted : (u : ℕ) (ts : List (Turn Call)) (s : Halting) → s.halted ≡ true → Goes halts_after_reentry u s ts → (run_turns halts_after_reentry s ts).halted ≡ true
stay-halted u [] s h g = h
stay-halted u (turn_fuel f ∷ ts) s h g = stay-halted u ts (halts_after_reentry.refuel s f) h g
stay-halted u (turn_call k ∷ ts) s h g = stay-halted u ts (halts_after_reentry.next s k) (go (sets_up s.world k) refl) g.2
  where
    go : (b : Bool) → sets_up s.world k ≡ b → (halts_after_reentry.next s k).halted ≡ true
    go true e = let r = sets-up-by s.world k e in absurd (g.0 (record { sets-up = r.sets-up; accepted = r.accepted }))
    go false e = ap (λ (x : Halting). x.halted) (stays s k h e) ∙ h

halted-leaves : (u : ℕ) (s : Halting) (k : Call) → s.halted ≡ true → Stops halts_after_reentry u s k → ⊥
unfolding pick
halted-leaves u s k h g = go (sets_up s.world k) refl
  where
    go : (b : Bool) → sets_up s.world k ≡ b → ⊥
    go false e = runs-only ((view_of s.world).coro u) g.before (sym (ap (λ (x : Halting). state_is (view_of x.world) (λ y. seen_suspended y || seen_returned y) u) (stays s k h e)) ∙ g.after)
    go true e =
        let done-so : halts_after_reentry.next s k ≡ done s k = λ i. pick (h i && not (e i)) s (done s k) in
        let gone = (promise.set-ups.begun s.world k (sets-up-by s.world k e)).coros u in
        no_both (sym (ap (λ (x : Halting). state_is (view_of x.world) (λ y. seen_suspended y || seen_returned y) u) done-so) ∙ g.after) (ap (seen_in (λ y. seen_suspended y.state || seen_returned y.state)) gone)

abbrev at-yield : Halting
at-yield = record { world = begun; halted = false }

not-empty-goes : RefutedIn NotEmpty but_goes (λ e g. Gone e g.0) (λ e v. v.goes) halts_after_reentry
unfolding computed begun anew
not-empty-goes = (
  (
    record {
      start = at-yield;
      first = as_call Op.Look refl;
      before = [];
      x = as_call (Op.Yield 8 3 1) refl;
      waiting = [];
      y = as_call (Op.Resume 9 1 0 2) refl;
      going = turn_call (SetUp wide) ∷ anew;
      z = as_call (Op.Yield 8 3 1) refl;
      c = c;
    },
    record { before = refl; after = refl },
    tt,
    record { before = refl; after = refl },
    record { before = refl; after = refl },
  ),
  λ g h.
      let l = g.0 in
      let is-suspended = suspended-halted l.c l.waiting (halts_after_reentry.next (before_x halts_after_reentry l) l.x) g.1.after g.2 in
      halted-leaves l.c (before_z halts_after_reentry l) l.z (stay-halted l.c l.going (halts_after_reentry.next (before_y halts_after_reentry l) l.y) (now-halted l.c (before_y halts_after_reentry l) l.y is-suspended g.3) h) g.4,
)

not-empty-stops : RefutedIn NotEmpty but_leaves (λ e g. LeftBy e g.0) (λ e v. v.stops) halts_after_reentry
unfolding computed begun
not-empty-stops = (
  (
    record { start = at-yield; first = as_call Op.Look refl; before = []; x = as_call (Op.Yield 8 3 1) refl; waiting = []; y = as_call (Op.Resume 9 1 0 2) refl; going = []; z = as_call (Op.Yield 8 3 1) refl; c = c },
    record { before = refl; after = refl },
    tt,
    record { before = refl; after = refl },
    tt,
  ),
  λ g h.
      let l = g.0 in
      let is-suspended = suspended-halted l.c l.waiting (halts_after_reentry.next (before_x halts_after_reentry l) l.x) g.1.after g.2 in
      halted-leaves l.c (before_z halts_after_reentry l) l.z (stay-halted l.c l.going (halts_after_reentry.next (before_y halts_after_reentry l) l.y) (now-halted l.c (before_y halts_after_reentry l) l.y is-suspended g.3) g.4) h,
)

-- NONE OF THEM
pub refuted-not-empty : W.RefutedNotEmpty
refuted-not-empty =
    record {
      accepted = not-empty-accepted;
      suspends = not-empty-suspends;
      roomy = not-empty-roomy;
      makes = not-empty-makes;
      waits = not-empty-waits;
      enters = not-empty-enters;
      goes = not-empty-goes;
      stops = not-empty-stops;
    }
