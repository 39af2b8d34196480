-- A sound machine with another fuel record. Assumes nothing.
use mathlib.Core.Path.{◌≡◌, refl, sym, ap, ◌∙◌}
use mathlib.Core.Bool.{true, false, ◌&&◌, ◌||◌}
use lib.Dec.{eqb}
use Rattle.std.specs.Prelude.{Option, ℕ, Some, None}
use Rattle.model.specs.Sound.{is_none, sound}
use Rattle.model.specs.declared.machine.Fuel.{Fuel}
use Rattle.claims_sound.proofs.Tests.{and_left, both, no_false}
use Rattle.claims_sound.proofs.Sound.{Sound, sound→, →sound}
use Rattle.claims_sound.proofs.Coros.{fuel-move}
use Rattle.claims_model.specs.Promise.{unbanked, fuel_sound}
use Rattle.memory_world.specs.Decode.{setup_of}
use Rattle.memory_sound.specs.Words.{setup_held, words_ok, sound_words}
use Rattle.memory_step.specs.Step.{MemoryState, is_sound, decoded}
use Rattle.memory_step.proofs.Kept.{words-kept}
use Rattle.claims_memory.specs.Fuel.{fuelled, AnyFuel}

unpacked : (s : MemoryState) → is_sound s ≡ true → Sound false (decoded s)
unpacked s e = sound→ (decoded s) (words-kept.stands s e) (λ z. no_false z)

-- the test of a fuel record is the machine's
bankless : (o : Option ℕ) → unbanked o ≡ is_none o
bankless None = refl
bankless (Some n) = refl

same_test : (f : Fuel) → fuel_sound f ≡ (is_none f.bank || eqb f.fuel 0)
same_test f = ap (λ b. b || eqb f.fuel 0) (bankless f.bank)

-- no rule on the words reads the fuel
any : (s : MemoryState) (f : Fuel) → is_sound s ≡ true → fuel_sound f ≡ true → is_sound (fuelled s f) ≡ true
unfolding sound_words
any s f e h =
    let w = decoded s in
    let words = setup_held s.words.setup && words_ok (setup_of s.words.setup) w s.words s.machine in
    both (and_left words (sound w) e) (→sound (decoded (fuelled s f)) (fuel-move w f s.machine.finalizing (unpacked s e) (sym (same_test f) ∙ h)))

pub any_fuel : AnyFuel
any_fuel = record { own = λ s e. same_test s.fuel ∙ (unpacked s e).banked; any = any }
