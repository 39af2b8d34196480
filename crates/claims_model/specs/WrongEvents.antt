-- Engines whose events are wrong in one thing, and else are `step`; and the field of `Events` that refuses each (`proofs/WrongEvents.antt`).
use Rattle.std.specs.Prelude.{ℕ, Bool, true, false, not, ◌&&◌, List, [], ◌∷◌, length, ltb}
use Rattle.lists.specs.Pick.{pick}
use Rattle.heap.specs.declared.object.CoroState.{CoroState}
use Rattle.heap.specs.declared.heap.ResultKind.{ResultKind}
use Rattle.model.specs.Program.{Setup}
use Rattle.model.specs.Object.{with_closing, with_result}
use Rattle.model.specs.World.{World}
use Rattle.model.specs.Heap.{change_coro}
use Rattle.model.specs.Answer.{number_of}
use Rattle.model.specs.Step.{step}
use Rattle.model.specs.declared.machine.Active.{Active}
use Rattle.claims_model.specs.Engine.{Engine, seen_created, seen_running, seen_awaiting, seen_returned, state_is}
use Rattle.claims_model.specs.Says.{Announced, instr, hosts, finishes, raises, other, announced_by}
use Rattle.claims_model.specs.Events.{seen_failed, Events}
use Rattle.claims_model.specs.Steps.{view_of, model_op}
use Rattle.claims_model.specs.Story.{c}
use Rattle.claims_model.specs.Refuted.{Refuted}
use Rattle.claims_model.specs.Altered as Altered
use Rattle.claims_model.specs.Altered.{altered_by, leaving, leaving_at, answering_at, answering_for, entering, making}
use Rattle.claims_model.specs.WrongRestored.{grant_resumes, closing_ends}

-- an entry is left undone, where a test says so: always; or while two coroutines wait for a cleanup
abbrev pub enters_nobody : (World → Bool) → Engine
enters_nobody p = entering (λ w z. pick (p w) w z)

abbrev pub two : World → Bool
two w = ltb 1 (length w.finalize)

-- every entry answers 0: a word that is thrown into a suspended coroutine is lost
abbrev pub entries_answer0 : Engine
entries_answer0 = altered_by (λ w k. (step w k).world) (λ w k. pick (ltb (length w.chain) (length (step w k).world.chain)) 0 (number_of (step w k).answer))

-- what becomes of the innermost of those that ran is altered
abbrev pub changed : (World → ℕ → World → World) → List Active → World → World → World
changed f [] w z = z
changed f (a ∷ chain) w z = f w a.coro z

abbrev pub changing : (World → ℕ → World → World) → Engine
changing f = leaving (λ w k. changed f w.chain w (step w k).world)

-- who returns is made Failed; who fails is made Returned; who awaits is made Yielded
abbrev pub return_fails : Engine
return_fails = changing (λ w c z. pick (state_is (view_of z) seen_returned c) (making c CoroState.Failed z) z)

abbrev pub failure_returns : Engine
failure_returns = changing (λ w c z. pick (state_is (view_of z) seen_failed c) (making c CoroState.Returned z) z)

abbrev pub await_yields : Engine
await_yields = changing (λ w c z. pick (state_is (view_of z) seen_awaiting c) (making c CoroState.Yielded z) z)

-- who returns has the result 5
abbrev pub returns5 : Engine
returns5 = changing (λ w c z. pick (state_is (view_of z) seen_returned c) (change_coro c (λ k. k) (with_result 5) z) z)

-- where c comes to a state, it is changed
abbrev pub reaching : (CoroState → Bool) → (World → World) → Engine
reaching p f = leaving (λ w k. let z = (step w k).world in pick (not (state_is (view_of w) p c) && state_is (view_of z) p c) (f z) z)

-- where c is in a state, it is changed by the next call
abbrev pub being : (CoroState → Bool) → (World → World) → Engine
being p f = leaving (λ w k. pick (state_is (view_of w) p c) (f (step w k).world) (step w k).world)

abbrev pub result5 : World → World
result5 z = change_coro c (λ k. k) (with_result 5) z

-- a close has it fail, where it has not begun
abbrev pub close_of_created_fails : Engine
close_of_created_fails = leaving (λ w k. let z = (step w k).world in pick (state_is (view_of w) seen_created c && state_is (view_of z) seen_returned c) (making c CoroState.Failed z) z)

-- the machine of a set-up with depth 1
abbrev pub depth1 : Setup → Setup
depth1 s = let l = s.limits in record { limits = record { depth = 1; stack = l.stack; rows = l.rows; slots = l.slots; memory = l.memory }; costs = s.costs; hook = s.hook; functions = s.functions }

abbrev pub world_depth1 : World → World
world_depth1 w = record { setup = depth1 w.setup; stack = w.stack; frames = w.frames; chain = w.chain; slots = w.slots; ready = w.ready; finalize = w.finalize; finalizing = w.finalizing; outcome = w.outcome; used = w.used; seq = w.seq; fuel = w.fuel }

-- c has the result 5 where a call finishes with a result of one kind: I64, U64
abbrev pub signed : ResultKind → Bool
signed ResultKind.None = false
signed ResultKind.Dyn = false
signed ResultKind.I64 = true
signed ResultKind.U64 = false

abbrev pub unsigned : ResultKind → Bool
unsigned ResultKind.None = false
unsigned ResultKind.Dyn = false
unsigned ResultKind.I64 = false
unsigned ResultKind.U64 = true

abbrev pub finishes_with : (ResultKind → Bool) → Announced → Bool
finishes_with p (instr pc ok a) = false
finishes_with p (hosts u x) = false
finishes_with p (finishes kind x) = p kind
finishes_with p (raises f pc) = false
finishes_with p other = false

abbrev pub finishing5 : (ResultKind → Bool) → Engine
finishing5 p = leaving (λ w k. let z = (step w k).world in pick (finishes_with p (announced_by (view_of w) (model_op k))) (result5 z) z)

pub record RefutedEvents : Type 0 where
  pub enters : Refuted Events (λ e v. v.enters) grant_resumes
  pub entered : Refuted Events (λ e v. v.entered) (enters_nobody (λ w. true))
  pub answered : Refuted Events (λ e v. v.answered) entries_answer0
  -- what a coroutine's state forbids (3) is answered 0, or 17, as if a word had been raised in it
  pub resumed : Refuted Events (λ e v. v.resumed) (answering_for 3 0)
  pub hosted : Refuted Events (λ e v. v.hosted) (answering_for 3 0)
  pub turned : Refuted Events (λ e v. v.turned) (answering_for 3 0)
  pub threw : Refuted Events (λ e v. v.threw) (answering_for 3 17)
  pub closed_in : Refuted Events (λ e v. v.closed_in) (answering_for 3 17)
  -- a Yield is done, and answered 9; it is answered as ever, and not done
  pub suspends : Refuted Events (λ e v. v.suspends) (answering_at Altered.yield 9)
  pub suspended : Refuted Events (λ e v. v.suspended) (leaving_at Altered.yield (λ w z. w))
  -- a yield while closing is answered 0
  pub heard : Refuted Events (λ e v. v.heard) (answering_for 6 0)
  pub returns : Refuted Events (λ e v. v.returns) failure_returns
  pub returned : Refuted Events (λ e v. v.returned) return_fails
  pub fails : Refuted Events (λ e v. v.fails) return_fails
  pub failed : Refuted Events (λ e v. v.failed) failure_returns
  pub spoilt : Refuted Events (λ e v. v.spoilt) (reaching seen_failed result5)
  pub stopped : Refuted Events (λ e v. v.stopped) (reaching seen_failed result5)
  pub closes-created : Refuted Events (λ e v. v.closes-created) close_of_created_fails
  pub throws-created : Refuted Events (λ e v. v.throws-created) (reaching seen_failed result5)
  pub integer : Refuted Events (λ e v. v.integer) (finishing5 signed)
  pub integer-unsigned : Refuted Events (λ e v. v.integer) (finishing5 unsigned)
  pub word : Refuted Events (λ e v. v.word) returns5
  pub closed : Refuted Events (λ e v. v.closed) returns5
  -- a Yield marks c as being closed
  pub yielded : Refuted Events (λ e v. v.yielded) (leaving_at Altered.yield (λ w z. change_coro c (λ k. k) (with_closing true) z))
  pub closing : Refuted Events (λ e v. v.closing) closing_ends
  pub awaited : Refuted Events (λ e v. v.awaited) await_yields
  pub still : Refuted Events (λ e v. v.still) (being seen_returned result5)
  pub unbegun : Refuted Events (λ e v. v.unbegun) (being seen_created (making c CoroState.Failed))
  pub runs_on : Refuted Events (λ e v. v.runs_on) (being seen_running (making c CoroState.Created))
  pub comes : Refuted Events (λ e v. v.comes) (reaching seen_created (making c CoroState.Failed))
  -- a grant changes the depth limit
  pub fixed : Refuted Events (λ e v. v.fixed) (leaving_at Altered.grant (λ w z. world_depth1 z))
  -- who resumes another is suspended too; or has returned. Where another yields, c has returned
  pub one-switch : Refuted Events (λ e v. v.one-switch) (leaving_at Altered.resume (λ w z. making c CoroState.Yielded z))
  pub no_return : Refuted Events (λ e v. v.no_return) (leaving_at Altered.resume (λ w z. making c CoroState.Returned z))
  pub one-leaves : Refuted Events (λ e v. v.one-leaves) (leaving_at Altered.yield (λ w z. making c CoroState.Returned z))

-- ---- more of them

-- where the innermost would fail it answers 9, as if an error object could not be made, and does nothing
abbrev pub lost_in : List Active → World → Bool
lost_in [] z = false
lost_in (a ∷ chain) z = state_is (view_of z) seen_failed a.coro

abbrev pub failure_answers9 : Engine
failure_answers9 = altered_by (λ w k. let z = (step w k).world in pick (lost_in w.chain z) w z) (λ w k. pick (lost_in w.chain (step w k).world) 9 (number_of (step w k).answer))

pub record WrongEvents : Type 0 where
  pub no-cleanup : Events (enters_nobody two) → ⊥
  pub failure-answers-9 : Events failure_answers9 → ⊥
