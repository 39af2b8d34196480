-- The events are exact: the claim, of `step`.
use Prim.Native.Nat.{ℕ}
use native.Mathlib.Omega.{arith}
use mathlib.Core.Path.{◌≡◌, refl}
use mathlib.Core.Option.{Option, none, some}
use Rattle.model.specs.Answer.{number_of}
use Rattle.model.specs.Step.{step}
use Rattle.claims_model.specs.Engine.{View}
use Rattle.claims_model.specs.Says.{Announced, instr, hosts, finishes, raises, other, announced_by, Entry, whom_by}
use Rattle.claims_model.specs.Demand3.{Demand3}
use Rattle.claims_model.specs.Events.{who_suspends, who_returns, Events}
use Rattle.claims_model.specs.Steps.{view_of, model_op, steps}
use Rattle.claims_model.specs.Refuted.{Said}
use Rattle.claims_model.proofs.EntryNumbers.{entry-answers}
use Rattle.claims_model.proofs.Acceptance.{exactly}
use Rattle.claims_model.proofs.Restores as Restores
use Rattle.claims_model.proofs.Restores.{enters-old, suspends-old}
use Rattle.claims_model.proofs.Untouched.{untouched}
use Rattle.claims_model.proofs.Exact.{healthy-sound, no-some, entered, suspends, suspended-by}
use Rattle.claims_model.proofs.Resumed.{resumed, hosted, turned}
use Rattle.claims_model.proofs.Thrown.{threw, closed_in}
use Rattle.claims_model.proofs.Heard.{heard}
use Rattle.claims_model.proofs.Returned.{returns, returned-by, closed}
use Rattle.claims_model.proofs.Losses.{fails_by, failed-by}
use Rattle.claims_model.proofs.Results.{spoilt, stopped}
use Rattle.claims_model.proofs.Values.{integer, word}
use Rattle.claims_model.proofs.Closing.{closing, yielded, awaited, fixed}
use Rattle.claims_model.proofs.Still.{still, unbegun}
use Rattle.claims_model.proofs.Undone.{closes-created, throws-created, comes}
use Rattle.claims_model.proofs.States.{runs_on}

-- a call that lets one return enters nobody, and suspends nobody
not-whom : (v : View) (d : Announced) (n u : ℕ) → who_returns v d n ≡ some u → whom_by v d ≡ none
not-whom v (instr pc ok a) n u h = no-some refl h
not-whom v (hosts c x) n u h = no-some refl h
not-whom v (finishes kind x) n u h = refl
not-whom v (raises f pc) n u h = refl
not-whom v other n u h = no-some refl h

not-suspended : (v : View) (d : Announced) (n c u : ℕ) → who_suspends v d n ≡ some c → who_returns v d n ≡ some u → ⊥
not-suspended v (instr pc ok a) n c u p q = no-some refl q
not-suspended v (hosts x y) n c u p q = no-some refl q
not-suspended v (finishes kind x) n c u p q = no-some refl p
not-suspended v (raises f pc) n c u p q = no-some refl p
not-suspended v other n c u p q = no-some refl p

no-entry : {x : Option Entry} {y : Entry} → x ≡ none → x ≡ some y → ⊥
no-entry p q = let z : ◌≡◌ {A = ℕ} 0 1 = cc in absurd (omega arith)

-- theorems of other files, as the fields say them
unbegun-said : Said Events (λ e v. v.unbegun) steps
unbegun-said = unbegun

integer-said : Said Events (λ e v. v.integer) steps
integer-said = integer

word-said : Said Events (λ e v. v.word) steps
word-said = word

still-said : Said Events (λ e v. v.still) steps
still-said = still

yielded-said : Said Events (λ e v. v.yielded) steps
yielded-said = yielded

pub events : Events steps
events =
    record {
      enters = λ c w k h. (Restores.entered c w k h).by;
      entered = entered;
      answered = entry-answers;
      resumed = resumed;
      hosted = hosted;
      turned = turned;
      threw = threw;
      closed_in = closed_in;
      suspends = suspends;
      suspended = suspended-by;
      heard = heard;
      returns = returns;
      returned = λ c w k h e. returned-by c w k (healthy-sound w h) e;
      fails = fails_by;
      failed = λ c w k h r l. failed-by c w k (healthy-sound w h) r l;
      spoilt = spoilt;
      stopped = stopped;
      integer = integer-said;
      word = word-said;
      closed = closed;
      yielded = yielded-said;
      closing = closing;
      awaited = awaited;
      still = still-said;
      unbegun = unbegun-said;
      closes-created = closes-created;
      throws-created = throws-created;
      runs_on = runs_on;
      comes = comes;
      fixed = fixed;
      one-switch = λ c u w k h g. (exactly w k c).one-switch u (enters-old c w k h) (suspends-old u w k g);
      no_return = λ c u w k h g. no-entry (not-whom (view_of w) (announced_by (view_of w) (model_op k)) (number_of (step w k).answer) u (returns u w k g)) (Restores.entered c w k h).by.says;
      one-leaves = λ c u w k h g. not-suspended (view_of w) (announced_by (view_of w) (model_op k)) (number_of (step w k).answer) c u (suspends c w k h) (returns u w k g);
    }

-- DEMAND 3
pub demand3 : Demand3 steps
demand3 = record { entered = Restores.entered; restored = Restores.restored; untouched = untouched }
