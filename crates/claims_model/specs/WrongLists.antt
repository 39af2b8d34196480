-- Engines in which no list of calls meets every premise of demand 3, and that else are `step`; and the field of `NotEmpty` that refuses each
-- (`proofs/WrongLists.antt`).
use Rattle.std.specs.Prelude.{Bool, true, not, ◌&&◌, eqb}
use Rattle.std.proofs.Math.Option.{Option, none, some}
use Rattle.lists.specs.Pick.{pick}
use Rattle.heap.specs.declared.object.CoroState.{CoroState}
use Rattle.model.specs.World.{World, with_fuel}
use Rattle.model.specs.Answer.{number_of}
use Rattle.model.specs.Call.{Call}
use Rattle.model.specs.Step.{step}
use Rattle.claims_model.specs.Engine.{Seen, View, Engine}
use Rattle.claims_model.specs.Demand3.{Restarts}
use Rattle.claims_model.specs.Promise.{Roomy, IntFits, NotEmpty}
use Rattle.claims_model.specs.Premises.{is_set_up}
use Rattle.claims_model.specs.Steps.{view_of, model_op, model_asks, looks}
use Rattle.claims_model.specs.Refuted.{RefutedIn, listed, before_x, Suspended, Waited, EnteredBy, Gone, LeftBy, but_waits, but_enters, but_goes, but_leaves}
use Rattle.claims_model.specs.Altered as Altered
use Rattle.claims_model.specs.Altered.{leaving, seeing, answering_at, refusing}
use Rattle.claims_model.specs.WrongRestored.{was_suspended}

-- it is seen to have no slot
abbrev pub full_seen : View → View
full_seen v = record { stack = v.stack; frames = v.frames; chain = v.chain; coro = v.coro; done = v.done; queue = v.queue; fuel = v.fuel; rules = v.rules; fresh = v.fresh; full = true; integer = v.integer; used = v.used }

-- a suspended one is seen as Created
abbrev pub unbegun : CoroState → CoroState
unbegun CoroState.Created = CoroState.Created
unbegun CoroState.Running = CoroState.Running
unbegun CoroState.Yielded = CoroState.Created
unbegun CoroState.Awaiting = CoroState.Created
unbegun CoroState.Returned = CoroState.Returned
unbegun CoroState.Failed = CoroState.Failed

abbrev pub as_created : Option Seen → Option Seen
as_created none = none
as_created (some x) = some (record { state = unbegun x.state; words = x.words; frames = x.frames; waits = x.waits; most_words = x.most_words; most_frames = x.most_frames; closing = x.closing; signal = x.signal; result = x.result })

abbrev pub all_as_created : View → View
all_as_created v = record { stack = v.stack; frames = v.frames; chain = v.chain; coro = λ u. as_created (v.coro u); done = v.done; queue = v.queue; fuel = v.fuel; rules = v.rules; fresh = v.fresh; full = v.full; integer = v.integer; used = v.used }

-- a call that would enter a suspended one is not done
abbrev pub enters_no_sleeper : Engine
enters_no_sleeper = leaving (λ w k. let z = (step w k).world in pick (was_suspended w z.chain) w z)

-- where a suspended one was entered, no call is done until a set-up is accepted
pub record Halting : Type 0 where
  pub world : World
  pub halted : Bool

abbrev pub sets_up : World → Call → Bool
sets_up w k = is_set_up (model_op k) && eqb (number_of (step w k).answer) 0

abbrev pub halts_after_reentry : Engine
halts_after_reentry =
    record {
      State = Halting;
      Call = Call;
      op = model_op;
      asks = model_asks;
      view = λ s. view_of s.world;
      next = λ s k. let w = s.world in let z = (step w k).world in pick (s.halted && not (sets_up w k)) s (record { world = z; halted = was_suspended w z.chain });
      refuel = λ s f. record { world = with_fuel f s.world; halted = s.halted };
      number = λ s k. number_of (step s.world k).answer;
      look = λ s. looks s.world;
    }

pub record RefutedNotEmpty : Type 0 where
  -- every set-up is refused; every look is answered 11
  pub accepted : RefutedIn NotEmpty listed (λ e l. Restarts e l.start l.first) (λ e v. v.accepted) (refusing Altered.set_up 11)
  pub suspends : RefutedIn NotEmpty listed Suspended (λ e v. v.suspends) (seeing all_as_created)
  pub roomy : RefutedIn NotEmpty listed (λ e l. let s = before_x e l in Roomy e (e.view s).rules.int_cost l.c s) (λ e v. v.roomy) (answering_at Altered.look 11)
  pub makes : RefutedIn NotEmpty listed (λ e l. IntFits (e.view (before_x e l))) (λ e v. v.makes) (seeing full_seen)
  -- a set-up comes between: who is entered, or leaves, is another of the same word
  pub waits : RefutedIn NotEmpty but_waits (λ e g. Waited e g.0) (λ e v. v.waits) enters_no_sleeper
  pub enters : RefutedIn NotEmpty but_enters (λ e g. EnteredBy e g.0) (λ e v. v.enters) enters_no_sleeper
  pub goes : RefutedIn NotEmpty but_goes (λ e g. Gone e g.0) (λ e v. v.goes) halts_after_reentry
  pub stops : RefutedIn NotEmpty but_leaves (λ e g. LeftBy e g.0) (λ e v. v.stops) halts_after_reentry
