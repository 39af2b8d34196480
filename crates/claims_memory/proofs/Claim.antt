-- THE CLAIM OVER LENT WORDS. Assumes nothing.
use Prim.Native.Nat.{ℕ}
use native.Mathlib.Omega.{arith}
use mathlib.Core.Path.{◌≡◌, refl, sym, ap, ◌∙◌, subst}
use mathlib.Core.Logic.{◌⊎◌, inl, inr}
use mathlib.Core.Bool.{Bool, true, false}
use mathlib.Core.List.{List, [], ◌∷◌}
use Rattle.model.specs.Call.{typed, Operation}
use Rattle.model.specs.declared.call.Op.{Op}
use Rattle.claims_sound.proofs.Tests.{and_left, and_right, no_true}
use Rattle.claims_model.specs.Engine.{Turn, turn_call, turn_fuel, run_turns}
use Rattle.claims_model.specs.Events.{Healthy}
use Rattle.claims_model.specs.Promise.{fuel_sound, Promise}
use Rattle.claims_model.specs.Steps.{steps}
use Rattle.claims_model.proofs.Operands.{as-typed}
use Rattle.claims_model.proofs.Exact as Exact
use Rattle.claims_model.proofs.Promise as Steps
use Rattle.memory_step.specs.Step.{MemoryState, Left, is_sound, decoded, set_up_ok, set_up_words, MemoryCall, SetUp, Do, memory_step}
use Rattle.memory_step.specs.Sentences.{answer_number, NoSuchFault}
use Rattle.memory_step.proofs.Kept.{words-kept, refused-set-up}
use Rattle.memory_step.proofs.Sentences.{sentences}
use Rattle.claims_memory.specs.Engine.{memory_engine}
use Rattle.claims_memory.specs.Claim.{OwnFault, bad-set-up, no-fault, fuels_sound, Claim}
use Rattle.claims_memory.proofs.Fuel.{any_fuel}
use Rattle.claims_memory.proofs.Follows.{down-healthy}
use Rattle.claims_memory.proofs.Carried as Carried
use Rattle.claims_memory.proofs.Outer.{sound-to, follows}
use Rattle.claims_memory.proofs.NotEmpty.{not-empty}
use Rattle.claims_memory.proofs.Stack.{stacked, restored}
use Rattle.claims_memory.proofs.Untouched.{untouched}

pub promise : Promise memory_engine
promise =
    let p = Steps.promise in
    record {
      demand3 = Carried.demand3 memory_engine steps follows p.demand3;
      events = Carried.events memory_engine steps follows p.events;
      touches = Carried.touches memory_engine steps follows p.touches;
      creates = Carried.creates memory_engine steps follows p.creates;
      asks = Carried.asks memory_engine steps follows p.asks;
      accepts = Carried.accepts memory_engine steps follows p.accepts;
      soundness = Carried.soundness memory_engine steps follows p.soundness;
      set-ups = Carried.set-ups memory_engine steps follows p.set-ups;
      looks = Carried.looks memory_engine steps follows p.looks;
      refuels = Carried.refuels memory_engine steps follows p.refuels;
      speaks = λ o h. (Do (record { op = o; within = as-typed o ∙ h }), refl);
      not-empty = not-empty;
    }

-- ---- sound words are not refused, and no others

sound-healthy : (s : MemoryState) → is_sound s ≡ true → Healthy memory_engine s
sound-healthy s e = down-healthy memory_engine steps follows s (subst (Healthy steps) (sym (sound-to s e)) (Exact.sound-healthy (decoded s) (words-kept.stands s e)))

a-look : Operation
unfolding typed
a-look = record { op = Op.Look; within = refl }

healthy-sound : (s : MemoryState) → Healthy memory_engine s → is_sound s ≡ true
unfolding a-look
healthy-sound s h = go (is_sound s) refl
  where
    go : (b : Bool) → is_sound s ≡ b → is_sound s ≡ true
    go true e = e
    go false e =
        let z : ◌≡◌ {A = ℕ} 11 0 = sym (sentences.unsound s a-look e) ∙ h (Do a-look) refl in
        absurd (omega (arith, z))

-- ---- lists of turns

keeps : (s : MemoryState) (k : MemoryCall) → is_sound s ≡ true → is_sound (memory_step s k).state ≡ true
keeps s (Do o) e = words-kept.kept s o e
keeps s (SetUp given) e = go (set_up_ok given s.words) refl
  where
    go : (b : Bool) → set_up_ok given s.words ≡ b → is_sound (set_up_words s given).state ≡ true
    go true q = words-kept.begun s given q
    go false q = ap (λ (x : Left). is_sound x.state) (refused-set-up s given q) ∙ e

runs_on : (s : MemoryState) (ts : List (Turn MemoryCall)) → fuels_sound ts ≡ true → is_sound s ≡ true → is_sound (run_turns memory_engine s ts) ≡ true
runs_on s [] q e = e
runs_on s (turn_call k ∷ ts) q e = runs_on (memory_step s k).state ts q (keeps s k e)
runs_on s (turn_fuel f ∷ ts) q e = runs_on (memory_engine.refuel s f) ts (and_right (fuel_sound f) (fuels_sound ts) q) (any_fuel.any s f e (and_left (fuel_sound f) (fuels_sound ts) q))

own-fault : (t : MemoryState) (k : MemoryCall) → is_sound t ≡ true → answer_number t k ≡ 11 → OwnFault t.words k
own-fault t (SetUp given) e n = go (set_up_ok given t.words) refl
  where
    go : (b : Bool) → set_up_ok given t.words ≡ b → OwnFault t.words (SetUp given)
    go true q =
        let z : ◌≡◌ {A = ℕ} 0 11 = sym (sentences.set-up t given q) ∙ n in
        absurd (omega (arith, z))
    go false q = bad-set-up given q
own-fault t (Do o) e n = go (sentences.eleven t o n)
  where
    go : (is_sound t ≡ false) ⊎ NoSuchFault o.op → OwnFault t.words (Do o)
    go (inl q) = no_true (sym e ∙ q)
    go (inr q) = no-fault o q

pub claim : Claim
claim =
    let d = promise.demand3 in
    record {
      promise = promise;
      sound = sound-healthy;
      healthy = healthy-sound;
      entered = λ c s y h. stacked c s y h (d.entered c s y h);
      restored = λ c s x waiting y h w g. restored c s x (run_turns memory_engine (memory_step s x).state waiting) y g (d.restored c s x waiting y h w g);
      untouched = λ c s y going z h w g. untouched c s y (run_turns memory_engine (memory_step s y).state going) z h g (d.untouched c s y going z h w g);
      lasts = λ s given ts e q. runs_on (memory_step s (SetUp given)).state ts q (words-kept.begun s given e);
      eleven = λ s given ts k e q n. own-fault (run_turns memory_engine (memory_step s (SetUp given)).state ts) k (runs_on (memory_step s (SetUp given)).state ts q (words-kept.begun s given e)) n;
    }
