-- The engines that are wrong in set-ups or looks: one call tells each, by the field that WrongPromise.antt names.
use Prim.Native.Nat.{ℕ}
use native.Mathlib.Omega.{arith}
use mathlib.Core.Path.{◌≡◌, refl, ap}
use mathlib.Core.List.{List, [], ◌∷◌}
use mathlib.Core.Option.{Option, none, some}
use lib.ListN.{length}
use Rattle.model.specs.World.{fresh, with_stack, with_frames, with_chain, with_slots, with_finalize, with_used, with_fuel}
use Rattle.model.specs.Call.{SetUp, as_call}
use Rattle.model.specs.Compute.{computed}
use Rattle.model.specs.declared.machine.Active.{Active}
use Rattle.model.specs.declared.machine.Fuel.{Fuel}
use Rattle.model.specs.declared.call.Op.{Op}
use Rattle.claims_model.specs.Engine.{Rules, View, seen_created, state_is, seen_in}
use Rattle.claims_model.specs.Promise.{sets-up, SetUps, Looks}
use Rattle.claims_model.specs.Steps.{view_of}
use Rattle.claims_model.specs.Story.{wide, bad, c}
use Rattle.claims_model.specs.Refuted as R
use Rattle.claims_model.specs.Refuted.{Refuted, RefutedAt}
use Rattle.claims_model.specs.Altered as Altered
use Rattle.claims_model.specs.Altered.{leaving_at}
use Rattle.claims_model.specs.WrongPromise as W
use Rattle.claims_model.specs.WrongPromise.{sets_depth1, loop_left, shows_stack, set_up_answers12}
use Rattle.claims_model.proofs.Cores.{no_both}
use Rattle.claims_model.proofs.Exact.{sound-healthy}
use Rattle.claims_model.proofs.Places.{waiting, begun, queued, unsound}

-- ---- set-ups

abbrev depth_in : Option Rules → ℕ
depth_in none = 0
depth_in (some r) = r.depth

abbrev some_one : List Active → ℕ
some_one [] = 0
some_one (a ∷ chain) = 1

set-ups-begun : Refuted SetUps (λ e v. v.begun) (leaving_at Altered.set_up (λ w z. with_fuel w.fuel z))
unfolding computed begun
set-ups-begun h = let q : ◌≡◌ {A = ℕ} 998 0 = ap (λ (f : Fuel). f.fuel) (h begun (SetUp wide) (record { sets-up = refl; accepted = refl })).fuel in absurd (omega (arith, q))

pub set-ups-given : Refuted SetUps (λ e v. v.given) sets_depth1
unfolding computed begun
set-ups-given h = let q : ◌≡◌ {A = ℕ} 6 1 = ap depth_in (h begun (SetUp wide) (record { sets-up = refl; accepted = refl })) in absurd (omega (arith, q))

set-ups-refused : Refuted SetUps (λ e v. v.refused) (leaving_at Altered.set_up (λ w z. with_stack [] z))
unfolding computed begun
set-ups-refused h = let q : ◌≡◌ {A = ℕ} 0 8 = ap (λ (v : View). length v.stack) (h begun (SetUp bad) refl (λ e. absurd (omega (arith, e)))).1 in absurd (omega (arith, q))

fresh-stack : RefutedAt R.fresh (λ e a r. r.stack) (leaving_at Altered.set_up (λ w z. with_stack w.stack z))
unfolding computed begun
fresh-stack = (
  record { s = begun; k = SetUp wide; restarts = record { sets-up = refl; accepted = refl } },
  λ h.
      let q : ◌≡◌ {A = ℕ} 8 0 = ap length h in
      absurd (omega (arith, q)),
)

fresh-frames : RefutedAt R.fresh (λ e a r. r.frames) (leaving_at Altered.set_up (λ w z. with_frames w.frames z))
unfolding computed begun
fresh-frames = (
  record { s = begun; k = SetUp wide; restarts = record { sets-up = refl; accepted = refl } },
  λ h.
      let q : ◌≡◌ {A = ℕ} 2 0 = ap length h in
      absurd (omega (arith, q)),
)

fresh-chain : RefutedAt R.fresh (λ e a r. r.chain) (leaving_at Altered.set_up (λ w z. with_chain w.chain z))
unfolding computed begun
fresh-chain = (
  record { s = begun; k = SetUp wide; restarts = record { sets-up = refl; accepted = refl } },
  λ h.
      let q : ◌≡◌ {A = ℕ} 1 0 = ap some_one h in
      absurd (omega (arith, q)),
)

fresh-coros : RefutedAt R.fresh (λ e a r. r.coros) (leaving_at Altered.set_up (λ w z. with_slots w.slots z))
unfolding computed waiting
fresh-coros = (
  record { s = waiting; k = SetUp wide; restarts = record { sets-up = refl; accepted = refl } },
  λ h.
      no_both {b = state_is (view_of waiting) seen_created c} refl (ap (seen_in (λ x. seen_created x.state)) (h c)),
)

fresh-loops : RefutedAt R.fresh (λ e a r. r.loops) (leaving_at Altered.set_up loop_left)
unfolding computed
fresh-loops = (record { s = fresh wide; k = SetUp wide; restarts = record { sets-up = refl; accepted = refl } }, λ h. no_both refl (h c))

fresh-queue : RefutedAt R.fresh (λ e a r. r.queue) (leaving_at Altered.set_up (λ w z. with_finalize w.finalize z))
unfolding computed queued
fresh-queue = (
  record { s = queued; k = SetUp wide; restarts = record { sets-up = refl; accepted = refl } },
  λ h.
      let q : ◌≡◌ {A = ℕ} 2 0 = ap length h in
      absurd (omega (arith, q)),
)

fresh-fuel : RefutedAt R.fresh (λ e a r. r.fuel) (leaving_at Altered.set_up (λ w z. with_fuel w.fuel z))
unfolding computed begun
fresh-fuel = (
  record { s = begun; k = SetUp wide; restarts = record { sets-up = refl; accepted = refl } },
  λ h.
      let q : ◌≡◌ {A = ℕ} 998 0 = ap (λ (f : Fuel). f.fuel) h in
      absurd (omega (arith, q)),
)

fresh-used : RefutedAt R.fresh (λ e a r. r.used) (leaving_at Altered.set_up (λ w z. with_used w.used z))
unfolding computed waiting
fresh-used = (record { s = waiting; k = SetUp wide; restarts = record { sets-up = refl; accepted = refl } }, λ h. absurd (no-used h))
  where
    no-used : (view_of waiting).used ≡ 0 → ⊥
    no-used e = absurd (omega (arith, e))

pub looks-sees : Refuted Looks (λ e v. v.sees) shows_stack
unfolding computed begun
looks-sees h = let q : ◌≡◌ {A = ℕ} 8 4 = ap length (h begun (sound-healthy begun refl)) in absurd (omega (arith, q))

looks-unseen : Refuted Looks (λ e v. v.unseen) shows_stack
unfolding computed
looks-unseen h =
    let q : ◌≡◌ {A = ℕ} 1 0 = ap length (h unsound (λ g. let e : ◌≡◌ {A = ℕ} 11 0 = g (as_call Op.Look refl) refl in
    absurd (omega (arith, e)))) in
    absurd (omega (arith, q))

looks-unmoved : Refuted Looks (λ e v. v.unmoved) (leaving_at Altered.look (λ w z. with_stack [] z))
unfolding computed begun
looks-unmoved h = let q : ◌≡◌ {A = ℕ} 0 8 = ap (λ (v : View). length v.stack) (h begun (as_call Op.Look refl) refl) in absurd (omega (arith, q))

-- ---- more of them

pub set-up-answers-12 : SetUps set_up_answers12 → ⊥
unfolding computed begun
set-up-answers-12 v = let q : ◌≡◌ {A = ℕ} 12 11 = (v.refused begun (SetUp bad) refl (λ e. absurd (omega (arith, e)))).0 in absurd (omega (arith, q))

-- NONE OF THEM
pub refuted-set-ups : W.RefutedSetUps
refuted-set-ups = record { begun = set-ups-begun; given = set-ups-given; refused = set-ups-refused }

pub refuted-fresh : W.RefutedFresh
refuted-fresh = record { stack = fresh-stack; frames = fresh-frames; chain = fresh-chain; coros = fresh-coros; loops = fresh-loops; queue = fresh-queue; fuel = fresh-fuel; used = fresh-used }

pub refuted-looks : W.RefutedLooks
refuted-looks = record { sees = looks-sees; unseen = looks-unseen; unmoved = looks-unmoved }
