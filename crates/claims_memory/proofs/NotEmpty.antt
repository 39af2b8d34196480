-- The claim over lent words is not empty: the split that claims/specs/Witness.antt shows as lists, in slices that held 7 everywhere.
use Prim.Native.Nat.{ℕ}
use mathlib.Core.Path.{◌≡◌, refl, sym, ap, ◌∙◌, subst}
use mathlib.Core.Bool.{true, false}
use mathlib.Core.List.{List, map}
use lib.ListN.{replicate}
use Rattle.lists.specs.Pick.{pick}
use Rattle.model.specs.World.{fresh}
use Rattle.model.specs.Call as Model
use Rattle.model.specs.Compute.{computed}
use Rattle.std.specs.Prelude.{None}
use Rattle.memory_tables.specs.Sizes.{setup_words, stack_size, frames_size, chain_size, saved_stack_size, saved_frames_size, slots_size, queue_size, setup_size}
use Rattle.memory_world.specs.Memory.{Lent}
use Rattle.memory_world.specs.Words.{numbers_of}
use Rattle.memory_world.specs.Decode.{setup_of}
use Rattle.claims_model.specs.Engine.{Turn, turn_call, turn_fuel, run_turns}
use Rattle.claims_model.specs.Promise.{Roomy, IntFits, NotEmpty}
use Rattle.claims_model.specs.Premises.{premises}
use Rattle.claims_model.specs.Steps.{steps}
use Rattle.claims_model.specs.Story.{wide, c, with_refused_set_up}
use Rattle.claims_model.specs.Witness.{nth, between, waiting}
use Rattle.claims_model.proofs.Premises.{Premises, premises-met}
use Rattle.claims_model.proofs.Promise.{before, roomy-met, makes-met}
use Rattle.memory_step.specs.Step.{MemoryState, set_up_ok, set_up_words, MemoryCall, SetUp, Do}
use Rattle.memory_step.proofs.Kept.{words-kept}
use Rattle.memory_step.proofs.Sentences as Sentences
use Rattle.claims_memory.specs.Engine.{memory_engine}
use Rattle.claims_memory.proofs.Follows.{along, ran}
use Rattle.claims_memory.proofs.Carried as Carried
use Rattle.claims_memory.proofs.Outer.{to, sound-to, follows}

-- a call on worlds as one on words
abbrev own : Model.Call → MemoryCall
own (Model.SetUp s) = SetUp (setup_words s)
own (Model.Do o) = Do o

abbrev turn : Turn Model.Call → Turn MemoryCall
turn (turn_call k) = turn_call (own k)
turn (turn_fuel f) = turn_fuel f

abbrev sevens : ℕ → List ℕ
sevens n = replicate n 7

-- as many words as the set-up needs
abbrev slices : Lent
slices =
    record {
      stack = sevens (stack_size wide);
      frames = sevens (frames_size wide);
      chain = sevens (chain_size wide);
      slots = sevens (slots_size wide);
      saved_stack = sevens (saved_stack_size wide);
      saved_frames = sevens (saved_frames_size wide);
      ready = sevens (queue_size wide);
      finalize = sevens (queue_size wide);
      setup = sevens (setup_size wide);
    }

abbrev start : MemoryState
start = record { words = slices; machine = numbers_of (fresh wide); fuel = record { fuel = 7; bank = None; ready = false } }

abbrev first : MemoryCall
first = SetUp (setup_words wide)

taken : set_up_ok (setup_words wide) slices ≡ true
unfolding computed
taken = refl

read : setup_of (setup_words wide) ≡ wide
unfolding pick
read = refl

begins : to (memory_engine.next start first) ≡ fresh wide
begins = sound-to (set_up_words start (setup_words wide)).state (words-kept.begun start (setup_words wide) taken) ∙ words-kept.anew start (setup_words wide) taken ∙ ap fresh read

split-met : premises steps c (run_turns steps (fresh wide) before) (nth with_refused_set_up 13) waiting (nth with_refused_set_up 23) (between with_refused_set_up 23 26) (nth with_refused_set_up 26) ≡ true
unfolding computed before
split-met = refl

has_room : let w = run_turns steps (fresh wide) before in Roomy steps (steps.view w).rules.int_cost c w × IntFits (steps.view w)
unfolding computed before
has_room = (roomy-met, makes-met)

-- on words they follow these, whatever the state
module _ (s : MemoryState) where
  follow-before : along memory_engine steps follows s (map turn before) ≡ before
  unfolding computed before
  follow-before = refl

  follow-waiting : along memory_engine steps follows s (map turn waiting) ≡ waiting
  unfolding computed
  follow-waiting = refl

  follow-going : along memory_engine steps follows s (map turn (between with_refused_set_up 23 26)) ≡ between with_refused_set_up 23 26
  unfolding computed
  follow-going = refl

abbrev s₁ : MemoryState
s₁ = run_turns memory_engine (memory_engine.next start first) (map turn before)

reached : run_turns steps (fresh wide) before ≡ to s₁
reached =
    let s = memory_engine.next start first in
    ap (λ w. run_turns steps w before) (sym begins) ∙ ap (run_turns steps (to s)) (sym (follow-before s)) ∙ ran memory_engine steps follows s (map turn before)

pub not-empty : NotEmpty memory_engine
unfolding computed
not-empty =
    let waits = map turn waiting in
    let going = map turn (between with_refused_set_up 23 26) in
    let s₂ = memory_engine.next s₁ (own (nth with_refused_set_up 13)) in
    let s₄ = memory_engine.next (run_turns memory_engine s₂ waits) (own (nth with_refused_set_up 23)) in
    let met = premises-met steps c (run_turns steps (fresh wide) before) (nth with_refused_set_up 13) waiting (nth with_refused_set_up 23) (between with_refused_set_up 23 26) (nth with_refused_set_up 26) split-met in
    let p = subst (λ w. Premises steps c w (nth with_refused_set_up 13) waiting (nth with_refused_set_up 23) (between with_refused_set_up 23 26) (nth with_refused_set_up 26)) reached met in
    let q = subst (λ ws. Premises steps c (to s₁) (nth with_refused_set_up 13) ws (nth with_refused_set_up 23) (between with_refused_set_up 23 26) (nth with_refused_set_up 26)) (sym (follow-waiting s₂)) p in
    let r = subst (λ gs. Premises steps c (to s₁) (nth with_refused_set_up 13) (along memory_engine steps follows s₂ waits) (nth with_refused_set_up 23) gs (nth with_refused_set_up 26)) (sym (follow-going s₄)) q in
    Carried.not-empty memory_engine steps follows start first (map turn before) (own (nth with_refused_set_up 13)) waits (own (nth with_refused_set_up 23)) going (own (nth with_refused_set_up 26)) c
    (record { sets-up = refl; accepted = (Sentences.sentences).set-up start (setup_words wide) taken }) (subst (λ w. Roomy steps (steps.view w).rules.int_cost c w) reached has_room.0) (subst (λ w. IntFits (steps.view w)) reached has_room.1) r
