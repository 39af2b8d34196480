-- Engines that are wrong in what they accept, in set-ups, looks, fuel records or calls, or lose their soundness, and else are `step`; and the
-- field that refuses each (`proofs/WrongPromise.antt`).
use Rattle.std.specs.Prelude.{ℕ, ◌-◌, Bool, true, ◌&&◌, [], ◌∷◌, ◌++◌, length, replicate, eqb, ltb, None}
use Rattle.std.proofs.Math.Option.{Option, none, some}
use Rattle.lists.specs.Pick.{pick}
use Rattle.heap.specs.Table.{slot}
use Rattle.model.specs.Object.{Object}
use Rattle.model.specs.World.{World, with_stack, with_frames, with_chain, with_slots, with_finalize, with_used, with_fuel}
use Rattle.model.specs.Answer.{number_of}
use Rattle.model.specs.Call.{Call, SetUp, Do}
use Rattle.model.specs.Step.{step}
use Rattle.model.specs.declared.call.Op.{Op}
use Rattle.claims_model.specs.Engine.{Engine}
use Rattle.claims_model.specs.Demand3.{Demand3}
use Rattle.claims_model.specs.Promise.{Accepts, Soundness, SetUps, Looks, Promise}
use Rattle.claims_model.specs.Steps.{view_of, model_op, model_asks, looks}
use Rattle.claims_model.specs.Refuted.{Refuted, RefutedAt, fresh}
use Rattle.claims_model.specs.Altered as Altered
use Rattle.claims_model.specs.Altered.{altered_by, answering, is_a, leaving_at, answering_at, answering_for, refusing}
use Rattle.claims_model.specs.WrongRestored.{grant_resumes, moves_once}
use Rattle.claims_model.specs.WrongEvents.{depth1}
use Rattle.claims_model.specs.WrongCalls.{fives, creates as creating}

-- ---- what is accepted

-- at fuel 0 a suspension is answered 10, and is not done, whatever the bank holds
abbrev pub unpaid : World → World → Bool
unpaid w z = eqb w.fuel.fuel 0 && ltb (length z.chain) (length w.chain)

abbrev pub bank_unused : Engine
bank_unused = altered_by (λ w k. let z = (step w k).world in pick (unpaid w z) w z) (λ w k. pick (unpaid w (step w k).world) 10 (number_of (step w k).answer))

pub record RefutedAccepts : Type 0 where
  pub await : Refuted Accepts (λ e v. v.await) bank_unused
  pub yield-kv : Refuted Accepts (λ e v. v.yield-kv) bank_unused
  pub yield : Refuted Accepts (λ e v. v.yield) bank_unused
  -- 01: "answering 10 or 9 before trying": 10 above, 9 here
  pub await-untried : Refuted Accepts (λ e v. v.await) (refusing Altered.await 9)
  pub yield-kv-untried : Refuted Accepts (λ e v. v.yield-kv) (refusing Altered.yield_kv 9)
  pub yield-untried : Refuted Accepts (λ e v. v.yield) (refusing Altered.yield 9)
  pub close-created : Refuted Accepts (λ e v. v.close-created) (refusing Altered.coro_close 9)
  pub throw-created : Refuted Accepts (λ e v. v.throw-created) (refusing Altered.resume_throw 9)
  pub integer : Refuted Accepts (λ e v. v.integer) (refusing Altered.finish 9)
  pub finish : Refuted Accepts (λ e v. v.finish) (refusing Altered.finish 9)
  -- an unwind is answered 17, though the word is caught, and where a fault passes through it; or 9, though there is room
  pub throw : Refuted Accepts (λ e v. v.throw) (answering_at Altered.unwind 17)
  pub raise : Refuted Accepts (λ e v. v.raise) (answering_at Altered.unwind 9)
  pub pass : Refuted Accepts (λ e v. v.pass) (answering_at Altered.unwind 17)

-- ---- soundness

-- a look is answered 11 where a test says so: without a frame; with fuel 500
abbrev pub refuses_looks : (World → Bool) → Engine
refuses_looks p = answering (λ w k a. pick (is_a Altered.look k && p w) 11 a)

pub record RefutedSoundness : Type 0 where
  pub begun : Refuted Soundness (λ e v. v.begun) (refuses_looks (λ w. eqb (length w.frames) 0))
  pub kept : Refuted Soundness (λ e v. v.kept) (refuses_looks (λ w. eqb (length w.frames) 0))
  pub refuelled : Refuted Soundness (λ e v. v.refuelled) (refuses_looks (λ w. eqb w.fuel.fuel 500))
  -- what a coroutine's state forbids is answered 11
  pub eleven : Refuted Soundness (λ e v. v.eleven) (answering_for 3 11)

-- ---- set-ups

-- a set-up gives depth 1, whatever was asked for
abbrev pub call_depth1 : Call → Call
call_depth1 (SetUp s) = SetUp (depth1 s)
call_depth1 (Do o) = Do o

abbrev pub sets_depth1 : Engine
sets_depth1 = altered_by (λ w k. (step w (call_depth1 k)).world) (λ w k. number_of (step w (call_depth1 k)).answer)

pub record RefutedSetUps : Type 0 where
  pub begun : Refuted SetUps (λ e v. v.begun) (leaving_at Altered.set_up (λ w z. with_fuel w.fuel z))
  pub given : Refuted SetUps (λ e v. v.given) sets_depth1
  -- one that is refused empties the stack
  pub refused : Refuted SetUps (λ e v. v.refused) (leaving_at Altered.set_up (λ w z. with_stack [] z))

-- it makes a loop that is done
abbrev pub loop_left : World → World → World
loop_left w z = with_slots (z.slots ++ (slot 0 (Object.Iter 0 true None) ∷ [])) z

-- a set-up leaves one thing as it was, or a loop
pub record RefutedFresh : Type 0 where
  pub stack : RefutedAt fresh (λ e a r. r.stack) (leaving_at Altered.set_up (λ w z. with_stack w.stack z))
  pub frames : RefutedAt fresh (λ e a r. r.frames) (leaving_at Altered.set_up (λ w z. with_frames w.frames z))
  pub chain : RefutedAt fresh (λ e a r. r.chain) (leaving_at Altered.set_up (λ w z. with_chain w.chain z))
  pub coros : RefutedAt fresh (λ e a r. r.coros) (leaving_at Altered.set_up (λ w z. with_slots w.slots z))
  pub loops : RefutedAt fresh (λ e a r. r.loops) (leaving_at Altered.set_up loop_left)
  pub queue : RefutedAt fresh (λ e a r. r.queue) (leaving_at Altered.set_up (λ w z. with_finalize w.finalize z))
  pub fuel : RefutedAt fresh (λ e a r. r.fuel) (leaving_at Altered.set_up (λ w z. with_fuel w.fuel z))
  pub used : RefutedAt fresh (λ e a r. r.used) (leaving_at Altered.set_up (λ w z. with_used w.used z))

-- ---- looks

-- a look hands back the whole stack
abbrev pub shows_stack : Engine
shows_stack = record { State = World; Call = Call; op = model_op; asks = model_asks; view = view_of; next = λ w k. (step w k).world; refuel = λ w f. with_fuel f w; number = λ w k. number_of (step w k).answer; look = λ w. w.stack }

pub record RefutedLooks : Type 0 where
  pub sees : Refuted Looks (λ e v. v.sees) shows_stack
  pub unseen : Refuted Looks (λ e v. v.unseen) shows_stack
  -- a look empties the stack
  pub unmoved : Refuted Looks (λ e v. v.unmoved) (leaving_at Altered.look (λ w z. with_stack [] z))

-- ---- other fuel records, and calls

-- it goes on with its own fuel
abbrev pub keeps_fuel : Engine
keeps_fuel = record { State = World; Call = Call; op = model_op; asks = model_asks; view = view_of; next = λ w k. (step w k).world; refuel = λ w f. w; number = λ w k. number_of (step w k).answer; look = looks }

-- every operation is taken for a look
abbrev pub as_look : Option Op → Option Op
as_look none = none
as_look (some o) = some Op.Look

abbrev pub takes_all_for_looks : Engine
takes_all_for_looks = record { State = World; Call = Call; op = λ k. as_look (model_op k); asks = model_asks; view = view_of; next = λ w k. (step w k).world; refuel = λ w f. with_fuel f w; number = λ w k. number_of (step w k).answer; look = looks }

-- ---- all that is promised

-- 01: "doing nothing", "always refusing"
abbrev pub does_nothing : Engine
does_nothing = altered_by (λ w k. w) (λ w k. 11)

pub record RefutedPromise : Type 0 where
  pub demand3 : Refuted Promise (λ e v. v.demand3) moves_once
  pub events : Refuted Promise (λ e v. v.events) grant_resumes
  pub touches : Refuted Promise (λ e v. v.touches) (leaving_at Altered.put_word (λ w z. w))
  pub creates : Refuted Promise (λ e v. v.creates) (creating fives)
  pub asks : Refuted Promise (λ e v. v.asks) (answering_for 1 0)
  pub accepts : Refuted Promise (λ e v. v.accepts) (refusing Altered.finish 9)
  pub soundness : Refuted Promise (λ e v. v.soundness) (answering_for 3 11)
  pub set-ups : Refuted Promise (λ e v. v.set-ups) sets_depth1
  pub looks : Refuted Promise (λ e v. v.looks) shows_stack
  pub refuels : Refuted Promise (λ e v. v.refuels) keeps_fuel
  pub speaks : Refuted Promise (λ e v. v.speaks) takes_all_for_looks
  pub not-empty : Refuted Promise (λ e v. v.not-empty) does_nothing

-- ---- more of them

-- it knows the fuel that its last call left, and who is entered with other fuel gets zeros for the words that it held: as long as the host
-- puts no other record, it is `step`
pub record Fuelled : Type 0 where
  pub world : World
  pub left : ℕ

abbrev pub zeroed : World → World → World
zeroed w z = pick (ltb (length w.chain) (length z.chain)) (with_stack (w.stack ++ replicate (length z.stack - length w.stack) 0) z) z

abbrev pub after_refuel : Engine
after_refuel =
    record {
      State = Fuelled;
      Call = Call;
      op = model_op;
      asks = model_asks;
      view = λ s. view_of s.world;
      next = λ s k. let w = s.world in let z = (step w k).world in record { world = pick (eqb w.fuel.fuel s.left) z (zeroed w z); left = z.fuel.fuel };
      refuel = λ s f. record { world = with_fuel f s.world; left = s.left };
      number = λ s k. number_of (step s.world k).answer;
      look = λ s. looks s.world;
    }

-- a set-up that is refused is answered 12
abbrev pub set_up_answers12 : Engine
set_up_answers12 = answering (λ w k a. pick (is_a Altered.set_up k && eqb a 11) 12 a)

pub record WrongPromise : Type 0 where
  pub set-up-answers-12 : SetUps set_up_answers12 → ⊥
  pub zeros-after-refuel : Demand3 after_refuel → ⊥
