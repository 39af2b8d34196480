-- 01: "Which engine would sneak past?" What is asked of an engine is the table, at every world and call, set-ups and looks too: so one that
-- differs at ONE place does not keep it, wherever that is.
use Rattle.std.specs.Prelude.{ℕ, ◌+◌, ◌≡◌, Bool, true, false, ◌&&◌, List, [], ◌∷◌, ◌++◌, length, set, eqb, ltb}
use Rattle.lists.specs.Pick.{pick}
use Rattle.heap.specs.declared.fault.Fault.{Fault}
use Rattle.model.specs.Program.{Setup}
use Rattle.model.specs.Object.{Core}
use Rattle.model.specs.World.{World, after, fresh}
use Rattle.model.specs.Sound.{sound}
use Rattle.model.specs.Answer.{number_of, taken_off}
use Rattle.model.specs.Call.{Operation, Call, SetUp, Do, typed}
use Rattle.model.specs.Gate.{refused}
use Rattle.model.specs.Step.{Out, out, told, step}
use Rattle.model.specs.declared.machine.Active.{Active}
use Rattle.model.specs.declared.call.Op.{Op}
use Rattle.model.specs.declared.call.Answer.{Answer}
use Rattle.claims_sheet.specs.Setters.{with_stack, with_frames, with_fuel}
use Rattle.model.specs.ClosingList.{ClosingList}
use Rattle.claims_sheet.specs.SetUps.{Fresh}
use Rattle.claims_sheet.specs.Lines.{leads, says}
use Rattle.claims_sheet.specs.Does.{operation}
use Rattle.claims_sheet.specs.Words.{found, core_of, state, suspended}
use Rattle.claims_sheet.specs.OtherCalls.{registers}
use Rattle.claims_sheet.specs.Sheet.{sheet}
use Rattle.claims_sheet.specs.Sentences.{gives}
use Rattle.claims_sheet.specs.Answers.{is_instruction}
use Rattle.claims_sheet.specs.Pep342.{Passes, at, held, enters, any_suspended}

abbrev pub Engine : Type 0
Engine = World → Call → Out

-- it keeps the table
pub record Keeps (e : Engine) : Type 0 where
  pub does : (w : World) (o : Operation) → after (e w (Do o)).world (e w (Do o)).answer ≡ leads (sheet o.op w)
  -- a set-up that breaks the closing list changes nothing; any other leaves a fresh machine
  pub refuses : (w : World) (s : Setup) → (ClosingList s → ⊥) → e w (SetUp s) ≡ told (refused w Fault.Unsound)
  pub begins : (w : World) (s : Setup) → ClosingList s → Fresh s (e w (SetUp s)).world
  pub accepts : (w : World) (s : Setup) → ClosingList s → (e w (SetUp s)).answer ≡ Answer.Accepted
  -- a look sees the words from the top base to the stack's end; without a frame, or on 11, none; and no other call sees any
  pub sees : (w : World) (o : Operation) → o.op ≡ Op.Look → (e w (Do o)).seen ≡ pick (sound w) (registers w.frames w.stack) []
  pub sees-nothing : (w : World) (o : Operation) → (o.op ≡ Op.Look → ⊥) → (e w (Do o)).seen ≡ []

-- "answering 10 or 9 before trying": at one place it gives n, and no test of that number is the first to stop the call
pub record Answers-untried (n : ℕ) (e : Engine) : Type 0 where
  pub w : World
  pub o : Operation
  pub says : number_of (e w (Do o)).answer ≡ n
  pub unfounded : gives n (sheet o.op w) ≡ false

-- a coroutine with the core k stands on the caller's frames and words, but for the one word that is sent
pub record Restored (k : Core) (before after : World) : Type 0 where
  pub place : ℕ
  pub sent : ℕ
  pub words : after.stack ≡ set (before.stack ++ k.regs) place sent
  pub frames : length after.frames ≡ length k.frames + length before.frames

-- "moving rows at the first entry and later only changing states": at one place a suspended coroutine is resumed, and does not
-- come back
pub record Moves-once (e : Engine) : Type 0 where
  pub w : World
  pub pc : ℕ
  pub dst : ℕ
  pub c : ℕ
  pub src : ℕ
  pub fits : typed (Op.Resume pc dst c src) ≡ true
  pub passes : Passes pc dst c src w
  pub is-suspended : enters any_suspended (held c pc w) (at pc w) ≡ true
  pub lost : Restored (core_of (found (at pc w) (held c pc w))) w (e w (Do (operation (Op.Resume pc dst c src) fits))).world → ⊥

-- "inventing the number of queue words": at some instruction the count is not the queue's loss
pub record Invents (e : Engine) : Type 0 where
  pub w : World
  pub o : Operation
  pub instruction : is_instruction o.op ≡ true
  pub untrue : length w.finalize ≡ taken_off (e w (Do o)).answer + length (e w (Do o)).world.finalize → ⊥

-- "doing nothing": at some call that changes the machine
pub record Does-nothing (e : Engine) : Type 0 where
  pub w : World
  pub o : Operation
  pub unchanged : (e w (Do o)).world ≡ w
  pub changes : (leads (sheet o.op w)).world ≡ w → ⊥

-- "with a constant answer": at two calls whose answers differ
pub record Repeats (e : Engine) : Type 0 where
  pub w : World
  pub o : Operation
  pub p : Operation
  pub alike : (e w (Do o)).answer ≡ (e w (Do p)).answer
  pub apart : eqb (says (sheet o.op w)) (says (sheet p.op w)) ≡ false

-- "always refusing": at some call that is accepted
pub record Refuses (e : Engine) : Type 0 where
  pub w : World
  pub o : Operation
  pub refusal : eqb (number_of (e w (Do o)).answer) 0 ≡ false
  pub accepted : says (sheet o.op w) ≡ 0

-- ---- such engines there are

-- it answers f at every call, and tries nothing
abbrev pub always : Fault → Engine
always f w c = told (refused w f)

-- it moves rows at the first entry, and later only changes states: where a suspended coroutine is entered, stack and frames stay
abbrev pub was_suspended : World → List Active → Bool
was_suspended w [] = false
was_suspended w (a ∷ chain) = suspended (state w a.coro)

abbrev pub once : Engine
once w c =
    let z = (step w c).world in
    out (after (pick (ltb (length w.chain) (length z.chain) && was_suspended w z.chain) (with_stack w.stack (with_frames w.frames z)) z) (step w c).answer) (step w c).seen

-- set-ups: any is accepted; the fuel stays. Looks: they see the whole stack
abbrev pub accepting : Engine
accepting w (SetUp s) = told (after (fresh s) Answer.Accepted)
accepting w (Do o) = step w (Do o)

abbrev pub refuelling : Engine
refuelling w (SetUp s) = told (after (with_fuel w.fuel (step w (SetUp s)).world) (step w (SetUp s)).answer)
refuelling w (Do o) = step w (Do o)

abbrev pub showing : Engine
showing w c = out (after (step w c).world (step w c).answer) w.stack

pub record RefusedEngines : Type 0 where
  pub keeps : Keeps step
  pub no-answer-untried : (n : ℕ) (e : Engine) → Keeps e → Answers-untried n e → ⊥
  pub no-first-only : (e : Engine) → Keeps e → Moves-once e → ⊥
  pub no-invention : (e : Engine) → Keeps e → Invents e → ⊥
  pub no-inactive : (e : Engine) → Keeps e → Does-nothing e → ⊥
  pub no-constant : (e : Engine) → Keeps e → Repeats e → ⊥
  pub no-refuser : (e : Engine) → Keeps e → Refuses e → ⊥
  pub untried-10 : Answers-untried 10 (always Fault.OutOfFuel)
  pub untried-9 : Answers-untried 9 (always Fault.OutOfMemory)
  pub moves-once : Moves-once once
  -- and at a first entry it does what `step` does
  pub moves-first : (w : World) (o : Operation) → was_suspended w (step w (Do o)).world.chain ≡ false → once w (Do o) ≡ step w (Do o)
  pub no-accepting : Keeps accepting → ⊥
  pub no-refuelling : Keeps refuelling → ⊥
  pub no-showing : Keeps showing → ⊥
