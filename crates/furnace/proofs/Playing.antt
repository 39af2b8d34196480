-- A call as it is watched; and the story's loop: what is left of it, done to the present, is the whole done to the start. Assumes nothing.
use Rattle.std.proofs.Common.{◌≡◌, ℕ, suc, ◌+◌, ◌<◌, ◌≤◌, List, length, get_or, drop, sym, refl, ap, ◌∙◌, ap₂, arith, drop_of_length-le, drop-cons}
use Rattle.model.specs.declared.call.Op.{Op}
use Rattle.memory_world.specs.Memory.{Lent}
use Rattle.memory_world.proofs.Does.{SameLengths, alike, then-alike}
use Rattle.memory_world.specs.declared.machine.Machine.{Machine}
use Rattle.model.specs.declared.machine.Fuel.{Fuel}
use Rattle.outer_call.specs.State.{state}
use Rattle.memory_step.specs.Step.{MemoryState, Left, step_words, set_up_words}
use Rattle.furnace.specs.Story.{story, blank, empty}
use Rattle.furnace.specs.declared.note.Seen.{Seen}
use Rattle.furnace.specs.declared.note.Count.{Count}
use Rattle.furnace.specs.Watch.{Watched, watched, notes_at, seen_at, counted_at, watch, watches, none}

pub watched-is : (s : MemoryState) (notes : List ℕ) (c : Count) (o : Op) (d : Left) (was : Seen) (ns : List ℕ) (t : Count) → d ≡ step_words s o → was ≡ seen_at s o → ns ≡ notes_at s o notes
    → t ≡ counted_at d was ns c → watched d.state ns t ≡ watch (watched s notes c) o
unfolding watch
watched-is s notes c o d was ns t e f g h =
    let r = h ∙ ap (λ (x : Left). counted_at x was ns c) e ∙ ap₂ (λ (x : Seen) (y : List ℕ). counted_at (step_words s o) x y c) f g in
    λ k. record { state = (e k).state; notes = g k; count = r k }

module _ (s₀ : Watched) where
  pub record Along (s : Watched) (i : ℕ) : Type 0 where
    pub lengths : SameLengths s₀.state.words s.state.words
    pub long : length s.notes ≡ length s₀.notes
    pub left : watches s (drop i story) ≡ watches s₀ story

  pub along-start : Along s₀ 0
  along-start =
      record {
        lengths = alike s₀.state.words;
        long = refl;
        left = refl;
      }

  pub along-more : (s d : Watched) (i : ℕ) → Along s i → i < 58 → (o : Op) → o ≡ get_or story i Op.Look → d ≡ watch s o
      → SameLengths s.state.words d.state.words → length d.notes ≡ length s.notes → Along d (i + 1)
  along-more s d i a h o e q k l =
      let up : suc i ≡ i + 1 = omega arith in
      record {
        lengths = then-alike s₀.state.words s.state.words d.state.words a.lengths k;
        long = l ∙ a.long;
        left =
            ap (λ (x : Watched). watches x (drop (i + 1) story)) q
            ∙ ap (λ (x : Op). watches (watch s x) (drop (i + 1) story)) e
            ∙ sym (ap (λ (n : ℕ). watches (watch s (get_or story i Op.Look)) (drop n story)) up)
            ∙ sym (ap (watches s) (drop-cons story i Op.Look h))
            ∙ a.left;
      }

  pub along-end : (s : Watched) (i : ℕ) → 58 ≤ i → Along s i → s ≡ watches s₀ story
  along-end s i h a = sym (ap (watches s) (drop_of_length-le story {i = i} h)) ∙ a.left

-- the set-up, and the story from there
pub begun-and-played : (M : Lent) (given notes : List ℕ) (m : Machine) (f : Fuel) (d : Left) (z : Watched) → m ≡ blank → f ≡ empty → d ≡ set_up_words (state M m f) given
    → z ≡ watches (watched d.state notes none) story → z.count ≡ (watches (watched (set_up_words (state M blank empty) given).state notes none) story).count
begun-and-played M given notes m f d z p q e h =
    ap (λ (x : Watched). x.count) h
    ∙ ap (λ (x : Left). (watches (watched x.state notes none) story).count) (e ∙ ap₂ (λ (x : Machine) (y : Fuel). set_up_words (state M x y) given) p q)
