-- What each field of the records over memory refuses: calls on memory that are wrong at one place. A record stands as a hypothesis: so a field that says less
-- is refused at its own theorem.
use Prim.Native.Nat.{ℕ, suc}
use native.Mathlib.Omega.{arith}
use mathlib.Core.Path.{◌≡◌, refl, sym, ap, subst, ◌∙◌}
use mathlib.Core.Bool.{Bool, true, false, true≢false}
use mathlib.Core.Option.{some}
use mathlib.Core.List.{List}
use lib.ListN.{take, drop}
use Rattle.lists.specs.Tests.{zeros}
use Rattle.model.specs.declared.call.Op.{Op}
use Rattle.claims_model.specs.Engine.{Turn, run_turns}
use Rattle.claims_model.specs.Says.{announced_by}
use Rattle.claims_model.specs.Held.{at, Held, By}
use Rattle.claims_model.specs.Delivery.{event_given, stack_frames, delivered_to}
use Rattle.claims_model.specs.Demand3.{Enters, Suspends, Stops, Waits, Goes}
use Rattle.claims_model.specs.Events.{Healthy}
use Rattle.memory_step.specs.Step.{MemoryState, is_sound, set_up_ok, MemoryCall, SetUp, memory_step}
use Rattle.memory_step.specs.Sentences.{answer_number}
use Rattle.claims_memory.specs.Engine.{memory_op, memory_engine}
use Rattle.claims_memory.specs.Claim.{in_use, Stacked, RestoredStack, UntouchedStack, OwnFault, fuels_sound, Claim}

module _ (p : Claim) where
  -- a look of a well-formed machine is refused; a machine that is not is looked at
  sound : (s : MemoryState) (k : MemoryCall) → is_sound s ≡ true → memory_op k ≡ some Op.Look → memory_engine.number s k ≡ 11 → ⊥
  sound s k e l n = let z : ◌≡◌ {A = ℕ} 11 0 = sym n ∙ p.sound s e k l in omega (arith, z)

  healthy : (s : MemoryState) → is_sound s ≡ false → Healthy memory_engine s → ⊥
  healthy s e h = true≢false (sym (p.healthy s h) ∙ e)

  -- 11 for no fault of the call's own
  eleven : (s : MemoryState) (given : List ℕ) (ts : List (Turn MemoryCall)) (k : MemoryCall) → set_up_ok given s.words ≡ true → fuels_sound ts ≡ true
      → let t = run_turns memory_engine (memory_step s (SetUp given)).state ts in answer_number t k ≡ 11 → (OwnFault t.words k → ⊥) → ⊥
  eleven s given ts k e f n wrong = wrong (p.eleven s given ts k e f n)

-- ---- calls that leave these states

module _ (p : Claim) (next : MemoryState → MemoryCall → MemoryState) (same : (s : MemoryState) (k : MemoryCall) → next s k ≡ (memory_step s k).state) where
  stacked : (c : ℕ) (s : MemoryState) (y : MemoryCall) → Enters memory_engine c s y → Stacked s (next s y)
  stacked c s y h = subst (λ (z : MemoryState). Stacked s z) (sym (same s y)) (p.entered c s y h)

  -- an entry changes a word below, or leaves one beyond
  entered_below : (c : ℕ) (s : MemoryState) (y : MemoryCall) → Enters memory_engine c s y → (take s.machine.height (next s y).words.stack ≡ in_use s → ⊥) → ⊥
  entered_below c s y h wrong = wrong (stacked c s y h).below

  entered-beyond : (c : ℕ) (s : MemoryState) (y : MemoryCall) → Enters memory_engine c s y → zeros (drop (next s y).machine.height (next s y).words.stack) ≡ false → ⊥
  entered-beyond c s y h e = true≢false (sym (stacked c s y h).beyond ∙ e)

  -- c is suspended by x, others run, and y enters it
  module _ (c : ℕ) (s : MemoryState) (x : MemoryCall) (waiting : List (Turn MemoryCall)) (y : MemoryCall) (h : Suspends memory_engine c s x) (w : Waits memory_engine c (memory_step s x).state waiting) (g : Enters memory_engine c (run_turns memory_engine (memory_step s x).state waiting) y) where
    abbrev t : MemoryState
    t = run_turns memory_engine (memory_step s x).state waiting

    restored : RestoredStack s x t y c (next t y)
    restored = subst (λ (z : MemoryState). RestoredStack s x t y c z) (sym (same t y)) (p.restored c s x waiting y h w g)

    -- it changes a word below; c held nothing; y does not enter c
    restored-stacked : (take t.machine.height (next t y).words.stack ≡ in_use t → ⊥) → ⊥
    restored-stacked wrong = wrong restored.stacked.below

    restored-held : (Held (memory_engine.view s) c → ⊥) → ⊥
    restored-held wrong = wrong restored.held

    restored_by : (By (memory_engine.view t) (memory_op y) c → ⊥) → ⊥
    restored_by wrong = wrong restored.by

  -- y enters c, it goes on, and z is where it stops
  module _ (c : ℕ) (s : MemoryState) (y : MemoryCall) (going : List (Turn MemoryCall)) (z : MemoryCall) (h : Enters memory_engine c s y) (w : Goes memory_engine c (memory_step s y).state going) (g : Stops memory_engine c (run_turns memory_engine (memory_step s y).state going) z) where
    abbrev u : MemoryState
    u = run_turns memory_engine (memory_step s y).state going

    untouched : UntouchedStack s y c u z (next u z)
    untouched = subst (λ (v : MemoryState). UntouchedStack s y c u z v) (sym (same u z)) (p.untouched c s y going z h w g)

    -- y does not enter c; one word too many stays; a word below is another; a word stays beyond
    untouched-by : (By (memory_engine.view s) (memory_op y) c → ⊥) → ⊥
    untouched-by wrong = wrong untouched.by

    untouched-height : (next u z).machine.height ≡ suc s.machine.height → ⊥
    untouched-height e = let n = untouched.height in omega (arith, n, e)

    untouched-below : ((b : By (memory_engine.view s) (memory_op y) c) →
        in_use (next u z) ≡ (delivered_to b.driver (event_given (memory_engine.view u) (announced_by (memory_engine.view u) (memory_op z)) c (memory_engine.view (next u z))) (stack_frames (in_use s) (at b.pc (memory_engine.view s).frames))).stack → ⊥) → ⊥
    untouched-below wrong = wrong untouched.by untouched.below

    untouched-beyond : zeros (drop (next u z).machine.height (next u z).words.stack) ≡ false → ⊥
    untouched-beyond e = true≢false (sym untouched.beyond ∙ e)
