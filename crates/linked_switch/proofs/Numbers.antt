-- Numbers and fuel come back from their words, and those that stay as they were need not be written. Assumes nothing.
use mathlib.Core.Path.{◌≡◌, sym, ap, ◌∙◌}
use mathlib.Core.Bool.{Bool}
use mathlib.Core.List.{List, ◌∷◌, ◌++◌}
use Prim.Native.Nat.{ℕ}
use lib.ListN.{drop}
use Rattle.lists.specs.Parts.{splice}
use Rattle.heap.specs.Slot.{flag}
use Rattle.heap.proofs.Slots.{set-flag}
use Rattle.memory_world.specs.declared.machine.Machine.{Machine}
use Rattle.memory_world.specs.declared.machine.Told.{Told}
use Rattle.linked_calls.specs.Words.{machine_in, machine_words}
use Rattle.linked_switch.specs.Words.{entered_over, Numbers}

machine-back : (ws : List ℕ) (m : Machine) → machine_in (splice ws 0 (machine_words m)) ≡ m
machine-back ws m = rw (set-flag m.finalizing)

module _ (ms ms' : List ℕ) (n : Machine) (e : ms' ≡ splice ms 0 (machine_words n)) where
  pub back : machine_in ms' ≡ n
  back = ap machine_in e ∙ machine-back ms n

  pub numbers : Numbers ms ms'
  numbers = e ∙ ap (λ (k : Machine). splice ms 0 (machine_words k)) (sym back)

-- what a switch leaves of the numbers
pub record Stays (m n : Machine) : Type 0 where
  pub count : n.count ≡ m.count
  pub ready : n.ready ≡ m.ready
  pub finalize : n.finalize ≡ m.finalize
  pub finalizing : n.finalizing ≡ m.finalizing
  pub used : n.used ≡ m.used
  pub outcome : n.outcome ≡ m.outcome
  pub seq : n.seq ≡ m.seq

module _ (ms : List ℕ) (n : Machine) (tell : Numbers ms ms) (s : Stays (machine_in ms) n) where
  abbrev row : ℕ → ℕ → ℕ → Bool → ℕ → ℕ → Told → List ℕ
  row c r f z u k o = n.height ∷ n.depth ∷ n.active ∷ c ∷ r ∷ f ∷ flag z ∷ u ∷ k ∷ o.0 ∷ o.1 ∷ o.2 ∷ o.3 ∷ drop 13 ms

  pub entered-words : entered_over n ms ≡ splice ms 0 (machine_words n)
  entered-words =
      ap (entered_over n) tell ∙ sym (λ i. row (s.count i) (s.ready i) (s.finalize i) (s.finalizing i) (s.used i) (s.seq i) (s.outcome i))
