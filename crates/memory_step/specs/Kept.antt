-- Lent words and worlds: a sound world in slices with room comes back from them, sound words are those of what they decode to, and
-- every call keeps them sound.
use Rattle.std.specs.Prelude.{◌≡◌, true, List, ℕ}
use Rattle.model.specs.World.{World, fresh}
use Rattle.model.specs.Sound.{sound}
use Rattle.model.specs.Call.{Operation}
use Rattle.model.specs.Step.{call}
use Rattle.memory_world.specs.Memory.{Lent, Room}
use Rattle.memory_world.specs.Words.{lengths_of}
use Rattle.memory_world.specs.Decode.{setup_of}
use Rattle.memory_step.specs.Step.{MemoryState, state_in, is_sound, decoded, step_sound, step_words, set_up_ok, set_up_words, MemoryCall, memory_step}

pub record Kept : Type 0 where
  -- a sound world in slices with room: it comes back, its words pass the test, and the slices are as long as said
  pub back : (w : World) (M : Lent) → sound w ≡ true → Room w.setup M → decoded (state_in (lengths_of M) w) ≡ w
  pub passes : (w : World) (M : Lent) → sound w ≡ true → Room w.setup M → is_sound (state_in (lengths_of M) w) ≡ true
  pub long : (w : World) (M : Lent) → sound w ≡ true → Room w.setup M → lengths_of (state_in (lengths_of M) w).words ≡ lengths_of M
  -- sound words stand for a sound world, have room for it, and are its words
  pub stands : (s : MemoryState) → is_sound s ≡ true → sound (decoded s) ≡ true
  pub room : (s : MemoryState) → is_sound s ≡ true → Room (decoded s).setup s.words
  pub own : (s : MemoryState) → is_sound s ≡ true → state_in (lengths_of s.words) (decoded s) ≡ s
  -- a call on sound words leaves sound words, of what the call leaves
  pub kept : (s : MemoryState) (o : Operation) → is_sound s ≡ true → is_sound (step_words s o.op).state ≡ true
  pub leaves : (s : MemoryState) (o : Operation) → is_sound s ≡ true → decoded (step_words s o.op).state ≡ (call o.op (decoded s)).world
  -- and so one test is enough for many calls: it does the same without it
  pub once : (s : MemoryState) (o : Operation) → is_sound s ≡ true → step_words s o.op ≡ step_sound s o.op
  -- an accepted set-up leaves sound words, whatever stood there
  pub begun : (s : MemoryState) (given : List ℕ) → set_up_ok given s.words ≡ true → is_sound (set_up_words s given).state ≡ true
  pub anew : (s : MemoryState) (given : List ℕ) → set_up_ok given s.words ≡ true → decoded (set_up_words s given).state ≡ fresh (setup_of given)
  -- every slice keeps its length
  pub lengths : (s : MemoryState) (k : MemoryCall) → lengths_of (memory_step s k).state.words ≡ lengths_of s.words
