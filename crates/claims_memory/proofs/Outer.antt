-- Outer calls on lent words follow `step` on worlds. Words that are not sound follow a world that is not sound either and is seen alike;
-- a set-up that is refused, for its words or for lack of room, follows one that is refused. Assumes nothing.
use Prim.Native.Nat.{ℕ, ◌^◌}
use native.Mathlib.Omega.{arith}
use mathlib.Core.Path.{◌≡◌, refl, sym, ap, ◌∙◌}
use mathlib.Core.Bool.{Bool, true, false, ◌&&◌}
use mathlib.Core.List.{List, []}
use mathlib.Core.Option.{none, some}
use Rattle.lists.specs.Pick.{pick, pick_true, pick-false}
use Rattle.heap.specs.declared.fault.Fault.{Fault}
use Rattle.model.specs.Program.{Setup, setup_ok}
use Rattle.model.specs.World.{World, with_fuel, with_outcome, fresh}
use Rattle.model.specs.Sound.{sound}
use Rattle.model.specs.Gate.{refused}
use Rattle.model.specs.Added.{accepted, registers}
use Rattle.model.specs.Answer.{number_of}
use Rattle.model.specs.Call.{Operation}
use Rattle.model.specs.Call as Model
use Rattle.model.specs.Step.{Out, told, call, tested, step}
use Rattle.model.specs.Compute.{computed}
use Rattle.model.specs.declared.machine.Fuel.{Fuel}
use Rattle.model.specs.declared.machine.Stop.{Stop}
use Rattle.std.specs.Prelude.{Some}
use Rattle.model.specs.declared.call.Op.{Op}
use Rattle.claims_sound.proofs.Tests.{no_false, and_left, picked}
use Rattle.claims_sound.proofs.Sound.{sound→}
use Rattle.memory_world.specs.Decode.{setup_of}
use Rattle.memory_sound.specs.Words.{setup_held, words_ok, sound_words}
use Rattle.claims_model.specs.Demand3.{Restarts}
use Rattle.claims_model.specs.Steps as Steps
use Rattle.claims_model.specs.Steps.{view_of, steps}
use Rattle.claims_model.specs.Story.{bad}
use Rattle.memory_step.specs.Step.{MemoryState, Left, is_sound, decoded, step_words, looked, set_up_ok, set_up_words, MemoryCall, SetUp, Do}
use Rattle.memory_step.proofs.Kept.{words-kept, untested, stepped, refused-words, set-up, given-ok, refused-set-up}
use Rattle.claims_memory.specs.Engine.{memory_op, memory_asks, memory_engine}
use Rattle.claims_memory.proofs.Follows.{Follows}

-- ---- states

-- an outcome that no machine has, and no view shows
abbrev spoiled : World → World
spoiled w = with_outcome (Some (Stop.Failed 0 (2 ^ 32) 0)) w

spoiled-unsound : (w : World) → sound (spoiled w) ≡ false
spoiled-unsound w = go (sound (spoiled w)) refl
  where
    go : (b : Bool) → sound (spoiled w) ≡ b → b ≡ false
    go true e = no_false (sound→ {ex = false} (spoiled w) e (λ z. no_false z)).outcome
    go false e = refl

-- the words are those of a world, sound or not; no such rule reads the fuel
abbrev held_in : MemoryState → Bool
held_in s = setup_held s.words.setup && words_ok (setup_of s.words.setup) (decoded s) s.words s.machine

abbrev pub to : MemoryState → World
to s = pick (held_in s) (decoded s) (spoiled (decoded s))

pub sound-to : (s : MemoryState) → is_sound s ≡ true → to s ≡ decoded s
unfolding sound_words
sound-to s e = ap (λ b. pick b (decoded s) (spoiled (decoded s))) (and_left (held_in s) (sound (decoded s)) e) ∙ pick_true _ _

unsound-to : (s : MemoryState) → is_sound s ≡ false → sound (to s) ≡ false
unfolding sound_words pick
unsound-to s e = go (held_in s) e
  where
    go : (b : Bool) → (b && sound (decoded s)) ≡ false → sound (pick b (decoded s) (spoiled (decoded s))) ≡ false
    go true q = q
    go false q = spoiled-unsound (decoded s)

pub view : (s : MemoryState) → view_of (to s) ≡ memory_engine.view s
view s = picked (λ (w : World). view_of w ≡ memory_engine.view s) (held_in s) (λ _. refl) (λ _. refl)

pub refuel : (s : MemoryState) (f : Fuel) → with_fuel f (to s) ≡ to (memory_engine.refuel s f)
unfolding pick
refuel s f = go (held_in s)
  where
    go : (b : Bool) → with_fuel f (pick b (decoded s) (spoiled (decoded s))) ≡ pick b (decoded (memory_engine.refuel s f)) (spoiled (decoded (memory_engine.refuel s f)))
    go true = refl
    go false = refl

-- ---- operations

-- worlds that are not sound stay
stays : (w : World) (o : Operation) → sound w ≡ false → step w (Model.Do o) ≡ told (refused w Fault.Unsound)
unfolding step tested
stays w o e = ap (λ b. pick b (call o.op w) (told (refused w Fault.Unsound))) e ∙ pick-false _ _

module _ (s : MemoryState) (o : Operation) where
  next-do : (b : Bool) → is_sound s ≡ b → (step (to s) (Model.Do o)).world ≡ to (step_words s o.op).state
  next-do true e =
      ap (λ (w : World). (step w (Model.Do o)).world) (sound-to s e)
      ∙ ap (λ (x : Out). x.world) (untested (decoded s) o (words-kept.stands s e))
      ∙ sym (words-kept.leaves s o e)
      ∙ sym (sound-to (step_words s o.op).state (words-kept.kept s o e))
  next-do false e = ap (λ (x : Out). x.world) (stays (to s) o (unsound-to s e)) ∙ ap (λ (x : Left). to x.state) (sym (refused-words s o e))

  number-do : (b : Bool) → is_sound s ≡ b → number_of (step (to s) (Model.Do o)).answer ≡ number_of (step_words s o.op).answer
  number-do true e =
      ap (λ (w : World). number_of (step w (Model.Do o)).answer) (sound-to s e)
      ∙ ap (λ (x : Out). number_of x.answer) (untested (decoded s) o (words-kept.stands s e))
      ∙ ap (λ (x : Left). number_of x.answer) (sym (stepped s o e))
  number-do false e = ap (λ (x : Out). number_of x.answer) (stays (to s) o (unsound-to s e)) ∙ ap (λ (x : Left). number_of x.answer) (sym (refused-words s o e))

-- ---- set-ups

taken : (w : World) (u : Setup) → setup_ok u ≡ true → step w (Model.SetUp u) ≡ told (accepted (fresh u))
unfolding step
taken w u e = ap (λ b. told (pick b (accepted (fresh u)) (refused w Fault.Unsound))) e ∙ ap told (pick_true _ _)

bad-refused : (w : World) → step w (Model.SetUp bad) ≡ told (refused w Fault.Unsound)
unfolding computed
bad-refused w = refl

abbrev setting : Bool → List ℕ → Model.Call
setting b given = pick b (Model.SetUp (setup_of given)) (Model.SetUp bad)

module _ (s : MemoryState) (given : List ℕ) where
  -- what the set-up that is followed does
  did : (b : Bool) → set_up_ok given s.words ≡ b → step (to s) (setting (set_up_ok given s.words) given) ≡ told (pick b (accepted (fresh (setup_of given))) (refused (to s) Fault.Unsound))
  did true e =
      ap (λ b. step (to s) (setting b given)) e ∙ ap (step (to s)) (pick_true _ _) ∙ taken (to s) (setup_of given) (given-ok s given e) ∙ ap told (sym (pick_true _ _))
  did false e = ap (λ b. step (to s) (setting b given)) e ∙ ap (step (to s)) (pick-false _ _) ∙ bad-refused (to s) ∙ ap told (sym (pick-false _ _))

  next-set-up : (b : Bool) → set_up_ok given s.words ≡ b → (step (to s) (setting (set_up_ok given s.words) given)).world ≡ to (set_up_words s given).state
  unfolding pick
  next-set-up true e = ap (λ (x : Out). x.world) (did true e) ∙ sym (words-kept.anew s given e) ∙ sym (sound-to (set_up_words s given).state (words-kept.begun s given e))
  next-set-up false e = ap (λ (x : Out). x.world) (did false e) ∙ ap (λ (x : Left). to x.state) (sym (refused-set-up s given e))

  number-set-up : (b : Bool) → set_up_ok given s.words ≡ b → number_of (step (to s) (setting (set_up_ok given s.words) given)).answer ≡ number_of (set_up_words s given).answer
  unfolding pick
  number-set-up true e = ap (λ (x : Out). number_of x.answer) (did true e) ∙ ap (λ (x : Left). number_of x.answer) (sym (set-up s given e))
  number-set-up false e = ap (λ (x : Out). number_of x.answer) (did false e) ∙ ap (λ (x : Left). number_of x.answer) (sym (refused-set-up s given e))

-- ---- calls

abbrev pub by : MemoryState → MemoryCall → Model.Call
by s (SetUp given) = setting (set_up_ok given s.words) given
by s (Do o) = Model.Do o

pub op : (s : MemoryState) (k : MemoryCall) → Steps.model_op (by s k) ≡ memory_op k
op s (SetUp given) = picked (λ (c : Model.Call). Steps.model_op c ≡ none) (set_up_ok given s.words) (λ _. refl) (λ _. refl)
op s (Do o) = refl

pub next : (s : MemoryState) (k : MemoryCall) → (step (to s) (by s k)).world ≡ to (memory_engine.next s k)
next s (SetUp given) = next-set-up s given (set_up_ok given s.words) refl
next s (Do o) = next-do s o (is_sound s) refl

pub number : (s : MemoryState) (k : MemoryCall) → number_of (step (to s) (by s k)).answer ≡ memory_engine.number s k
number s (SetUp given) = number-set-up s given (set_up_ok given s.words) refl
number s (Do o) = number-do s o (is_sound s) refl

pub asks : (s : MemoryState) (k : MemoryCall) → Restarts memory_engine s k → Steps.model_asks (by s k) ≡ memory_asks k
asks s (Do o) r = refl
asks s (SetUp given) r = go (set_up_ok given s.words) refl
  where
    go : (b : Bool) → set_up_ok given s.words ≡ b → Steps.model_asks (setting (set_up_ok given s.words) given) ≡ some (Steps.rules_of (setup_of given))
    go true e = ap (λ b. Steps.model_asks (setting b given)) e ∙ ap Steps.model_asks (pick_true _ _)
    go false e =
        let z : ◌≡◌ {A = ℕ} 11 0 = ap (λ (x : Left). number_of x.answer) (sym (refused-set-up s given e)) ∙ r.accepted in
        absurd (omega (arith, z))

pub some-call : (s : MemoryState) (k : Model.Call) (o : Op) → Steps.model_op k ≡ some o → (j : MemoryCall) × (by s j ≡ k)
some-call s (Model.SetUp u) o q = let z : ◌≡◌ {A = ℕ} 0 1 = cc in absurd (omega arith)
some-call s (Model.Do p) o q = (Do p, refl)

-- ---- looks

look-call : (w : World) → (call Op.Look w).seen ≡ registers w
unfolding call
look-call w = refl

pub look : (s : MemoryState) → Steps.looks (to s) ≡ looked s
look s = go (is_sound s) refl
  where
    go : (b : Bool) → is_sound s ≡ b → Steps.looks (to s) ≡ pick (is_sound s) (registers (decoded s)) []
    go true e =
        ap (λ (w : World). Steps.looks w) (sound-to s e) ∙ ap (λ (x : Out). x.seen) (untested (decoded s) (record { op = Op.Look; within = Steps.look-typed }) (words-kept.stands s e))
        ∙ look-call (decoded s) ∙ sym (ap (λ b. pick b (registers (decoded s)) []) e ∙ pick_true _ _)
    go false e =
        ap (λ (x : Out). x.seen) (stays (to s) (record { op = Op.Look; within = Steps.look-typed }) (unsound-to s e)) ∙ sym (ap (λ b. pick b (registers (decoded s)) []) e ∙ pick-false _ _)

abbrev pub follows : Follows memory_engine steps
follows = record { to = to; by = by; view = view; op = op; asks = asks; next = next; refuel = refuel; number = number; look = look; some-call = some-call }
