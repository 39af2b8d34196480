-- Engines that touch the script that runs, make another coroutine, or answer wrongly what is asked, and else are `step`; and the field that
-- refuses each (`proofs/WrongCalls.antt`).
use Rattle.std.specs.Prelude.{ℕ, ◌-◌, ◌≡◌, not, ◌&&◌, [], ◌∷◌, ◌++◌, map, length, take, replicate}
use Rattle.lists.specs.Pick.{pick}
use Rattle.heap.specs.Table.{next_word}
use Rattle.model.specs.Object.{Core}
use Rattle.model.specs.World.{World, with_frames, with_chain, with_slots, with_fuel}
use Rattle.model.specs.Frames.{put_reg, store_pc}
use Rattle.model.specs.Heap.{change_coro}
use Rattle.model.specs.Answer.{number_of}
use Rattle.model.specs.Call.{Call}
use Rattle.model.specs.Step.{step}
use Rattle.model.specs.declared.machine.Cont.{Cont}
use Rattle.claims_model.specs.Engine.{View, Engine, seen_created, state_is}
use Rattle.claims_model.specs.Says.{register_word}
use Rattle.claims_model.specs.Held.{at}
use Rattle.claims_model.specs.Touches.{writing, target, Touches}
use Rattle.claims_model.specs.Made.{arguments, made, Came, Creates}
use Rattle.claims_model.specs.Asks.{Asks}
use Rattle.claims_model.specs.Steps.{view_of, model_op, model_asks, looks}
use Rattle.claims_model.specs.Story.{c}
use Rattle.claims_model.specs.Refuted.{Refuted, RefutedAt, RefutedOn, touched, FramesThere, StoredThere, CallsThere, but_stored, but_frames, but_calls, written, finished, called, named, came, hooked, admits, pays}
use Rattle.claims_model.specs.Altered as Altered
use Rattle.claims_model.specs.Altered.{leaving, leaving_at, answering_at, answering_for, refusing}
use Rattle.claims_model.specs.WrongRestored.{without_closure, first_word5}

-- ---- the script that runs

-- 5 is put into the first register of the top frame; 9 is its pc; a frame is put on top
abbrev pub writes5 : World → World → World
writes5 w z = put_reg 0 5 z

abbrev pub stores_pc9 : World → World → World
stores_pc9 w z = store_pc 9 z

abbrev pub calls_one : World → World → World
calls_one w z = with_frames (record { func = 0; pc = 0; base = length z.stack; closure = 0; cont = Cont.Discard } ∷ z.frames) z

-- nobody is in the chain
abbrev pub empties_chain : World → World → World
empties_chain w z = with_chain [] z

pub record RefutedTouches : Type 0 where
  pub touched : Refuted Touches (λ e v. v.touched) (leaving_at Altered.grant writes5)
  pub finished : Refuted Touches (λ e v. v.finished) (leaving_at Altered.finish writes5)
  pub called : Refuted Touches (λ e v. v.called) (leaving_at Altered.function_call first_word5)
  pub host_called : Refuted Touches (λ e v. v.host_called) (leaving_at Altered.host_call first_word5)
  -- a put word is answered as ever, and not done
  pub put : Refuted Touches (λ e v. v.put) (leaving_at Altered.put_word (λ w z. w))

pub record RefutedTouched : Type 0 where
  pub stored : RefutedOn touched but_stored (λ e a g. StoredThere e a g.0) (λ e a r. r.stored) (leaving_at Altered.grant stores_pc9)
  pub frames : RefutedOn touched but_frames (λ e a g. FramesThere e a g.0 g.1) (λ e a r. r.frames) (leaving_at Altered.grant stores_pc9)
  pub stack : RefutedOn touched written (λ e a g. let v = e.view a.s in (e.view (e.next a.s a.k)).stack ≡ writing a.m.register v.frames g.0 v.stack ++ g.1) (λ e a r. r.stack)
      (leaving_at Altered.grant writes5)
  pub calls : RefutedOn touched but_calls (λ e a g. CallsThere e a g.1 g.2) (λ e a r. r.calls) (leaving_at Altered.grant calls_one)
  pub chain : RefutedAt touched (λ e a r. r.chain) (leaving_at Altered.grant empties_chain)

pub record RefutedFinished : Type 0 where
  pub frames : RefutedAt finished (λ e a r. r.frames) (leaving_at Altered.finish stores_pc9)
  pub stack : RefutedOn finished (λ e a r. r.word) (λ e a g. (e.view (e.next a.s a.k)).stack ≡ writing (target a.f.cont) a.fs g (take a.f.base (e.view a.s).stack)) (λ e a r. r.stack)
      (leaving_at Altered.finish writes5)
  pub chain : RefutedAt finished (λ e a r. r.chain) (leaving_at Altered.finish empties_chain)

pub record RefutedCalled : Type 0 where
  pub frames : RefutedAt called (λ e a r. r.frames) (leaving_at Altered.function_call stores_pc9)
  pub stack : RefutedAt called (λ e a r. r.stack) (leaving_at Altered.function_call first_word5)

-- ---- creations

-- where c comes, f
abbrev pub creating : (World → World → World) → Engine
creating f = leaving (λ w k. let z = (step w k).world in pick (not (state_is (view_of w) seen_created c) && state_is (view_of z) seen_created c) (f w z) z)

-- what it begins with is altered: 5 in every register; frames without their closure; frames of function 1
abbrev pub fives : Core → Core
fives k = record { state = k.state; regs = map (λ x. 5) k.regs; frames = k.frames; waiting = k.waiting }

abbrev pub without_closures : Core → Core
without_closures k = record { state = k.state; regs = k.regs; frames = map without_closure k.frames; waiting = k.waiting }

abbrev pub of_one : Core → Core
of_one k = record { state = k.state; regs = k.regs; frames = map (λ f. record { func = 1; pc = f.pc; base = f.base; closure = f.closure; cont = f.cont }) k.frames; waiting = k.waiting }

abbrev pub creates : (Core → Core) → Engine
creates g = creating (λ w z. change_coro c g (λ r. r) z)

-- the first register of the top frame is nil; nobody is made
abbrev pub unnamed : World → World → World
unnamed w z = put_reg 0 0 z

abbrev pub unmade : World → World → World
unmade w z = with_slots w.slots z

-- while c has not begun, its word is the next one: a creation makes nobody, and gives c's word again in the first register
abbrev pub next_is : ℕ → View → View
next_is x v = record { stack = v.stack; frames = v.frames; chain = v.chain; coro = v.coro; done = v.done; queue = v.queue; fuel = v.fuel; rules = v.rules; fresh = x; full = v.full; integer = v.integer; used = v.used }

abbrev pub creates_again : Engine
creates_again =
    record {
      State = World;
      Call = Call;
      op = model_op;
      asks = model_asks;
      view = λ w. next_is (pick (state_is (view_of w) seen_created c) c (next_word w.slots)) (view_of w);
      next = λ w k. let z = (step w k).world in pick (state_is (view_of w) seen_created c && state_is (view_of z) seen_created (next_word w.slots)) (put_reg 0 c (with_slots w.slots z)) z;
      refuel = λ w f. with_fuel f w;
      number = λ w k. number_of (step w k).answer;
      look = looks;
    }

pub record RefutedCreates : Type 0 where
  pub new : Refuted Creates (λ e v. v.new) (creates fives)
  pub indirect : Refuted Creates (λ e v. v.indirect) (creates without_closures)
  pub spawned : Refuted Creates (λ e v. v.spawned) (creates without_closures)
  pub named : Refuted Creates (λ e v. v.named) (creating unnamed)
  pub named-indirect : Refuted Creates (λ e v. v.named-indirect) (creating unnamed)
  pub hooked : Refuted Creates (λ e v. v.hooked) (creating unmade)

pub record RefutedCame : Type 0 where
  pub unused : RefutedAt came (λ e a r. r.unused) creates_again
  pub there : RefutedAt came (λ e a r. r.there) (creating unmade)

pub record RefutedNamed : Type 0 where
  pub came : RefutedAt named (λ e a r. r.came) (creating unmade)
  pub names : RefutedAt named (λ e a r. r.names) (creating unnamed)

pub record RefutedHooked : Type 0 where
  pub came : RefutedOn hooked (λ e a r. r.0) (λ e a g. let v = e.view a.s in Came v (made v.rules g (register_word v a.r) (arguments v a.dst a.argc)) (e.view (e.next a.s a.k))) (λ e a r. r.1.came)
      (creating unmade)
  pub frames : RefutedOn hooked (λ e a r. r.1.hook)
      (λ e a g. let v = e.view a.s in (e.view (e.next a.s a.k)).frames ≡ record { func = g; pc = 0; base = length v.stack; closure = 0; cont = Cont.Value a.dst } ∷ at a.pc v.frames) (λ e a r. r.1.frames)
      (leaving_at Altered.spawn stores_pc9)
  pub stack : RefutedOn hooked (λ e a r. r.1.hook) (λ e a g. let v = e.view a.s in (e.view (e.next a.s a.k)).stack ≡ v.stack ++ (v.fresh ∷ replicate (v.rules.registers g - 1) 0)) (λ e a r. r.1.stack)
      (leaving_at Altered.spawn first_word5)

-- ---- the asking calls

-- such a call writes 9
abbrev pub writing9 : ℕ → Engine
writing9 n = leaving_at n (λ w z. put_reg 1 9 z)

pub record RefutedAsks : Type 0 where
  -- 0 is answered only then: a word that names nobody (1), or one that has not returned (3), is no hindrance; or the call is answered 0 whatever stands there
  pub status-if : Refuted Asks (λ e v. v.status-if) (answering_for 1 0)
  pub current-if : Refuted Asks (λ e v. v.current-if) (answering_at Altered.coro_current 0)
  pub key-if : Refuted Asks (λ e v. v.key-if) (answering_for 1 0)
  pub result-if : Refuted Asks (λ e v. v.result-if) (answering_for 3 0)
  pub status : Refuted Asks (λ e v. v.status) (writing9 Altered.coro_status)
  pub current : Refuted Asks (λ e v. v.current) (writing9 Altered.coro_current)
  pub result : Refuted Asks (λ e v. v.result) (writing9 Altered.coro_result)

-- 0 is answered then: the call is refused
pub record RefusedAsks : Type 0 where
  pub status-if : Refuted Asks (λ e v. v.status-if) (refusing Altered.coro_status 9)
  pub current-if : Refuted Asks (λ e v. v.current-if) (refusing Altered.coro_current 9)
  pub key-if : Refuted Asks (λ e v. v.key-if) (refusing Altered.coro_key 9)
  pub result-if : Refuted Asks (λ e v. v.result-if) (refusing Altered.coro_result 9)

-- CoroStatus is answered 0 whatever stands there
pub record RefutedAdmits : Type 0 where
  pub pays : RefutedAt admits (λ e a r. r.pays) (answering_at Altered.coro_status 0)
  pub lies : RefutedAt admits (λ e a r. r.lies) (answering_at Altered.coro_status 0)
  pub passes : RefutedAt admits (λ e a r. r.passes) (answering_at Altered.coro_status 0)

pub record RefutedPays : Type 0 where
  pub healthy : RefutedAt pays (λ e a r. r.healthy) (answering_at Altered.coro_status 0)
  pub stands : RefutedAt pays (λ e a r. r.stands) (answering_at Altered.coro_status 0)
  pub paid : RefutedAt pays (λ e a r. r.paid) (answering_at Altered.coro_status 0)

-- ---- more of them

pub record WrongCalls : Type 0 where
  pub other-function : Creates (creates of_one) → ⊥
  pub status-writes-two : Touches (leaving_at Altered.coro_status (λ w z. put_reg 2 5 z)) → ⊥
