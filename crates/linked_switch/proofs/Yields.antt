-- A Yield that nothing refuses, past its gate and its charge, and the words of its numbers. Assumes nothing.
use mathlib.Core.Path.{◌≡◌, refl, ◌∙◌}
use mathlib.Core.Bool.{true}
use mathlib.Core.List.{List, [], ◌∷◌}
use Prim.Native.Nat.{ℕ, ◌+◌, ◌-◌, ◌*◌, ◌^◌, ◌≤◌, ◌<◌}
use lib.ListN.{get_or}
use Rattle.lists.specs.Parts.{splice}
use Rattle.model.specs.World.{World}
use Rattle.model.specs.Gate.{all_in, instruction}
use Rattle.model.specs.Exec.{yield}
use Rattle.model.specs.Sound.{sound}
use Rattle.model.specs.declared.call.Op.{Op}
use Rattle.std.specs.Prelude.{Some}
use Rattle.model.specs.declared.exec.Step.{Step}
use Rattle.model.specs.declared.machine.Fuel.{Fuel}
use Rattle.memory_world.specs.Memory.{Lent, Rep}
use Rattle.memory_world.specs.Contract.{Does}
use Rattle.memory_world.specs.declared.machine.Machine.{Machine}
use Rattle.memory_world.specs.declared.machine.Sizes.{Sizes}
use Rattle.coro_clean.specs.Charge.{spent}
use Rattle.coro_clean.proofs.Paid.{charge-fast}
use Rattle.exec_instruction.specs.Operands.{Based}
use Rattle.exec_instruction.proofs.Gated.{some-frames, numbered, done}
use Rattle.machine_step.specs.Kept.{did}
use Rattle.machine_step.proofs.Calls.{as-instruction}
use Rattle.linked_calls.specs.Words.{machine_in, machine_words}
use Rattle.linked_switch.specs.Words.{entered_over, Numbers}
use Rattle.linked_switch.specs.Went.{goes_on}
use Rattle.linked_switch.specs.Leave.{left_in}
use Rattle.linked_switch.proofs.Numbers.{entered-words, back, numbers}
use Rattle.linked_switch.proofs.Resuming.{in_frame_lem, of_row, paid}

module _ (frames chain ms ms' : List ℕ) (tell : Numbers ms ms) (e : ms' ≡ entered_over (left_in frames chain ms) ms) where
  over : ms' ≡ splice ms 0 (machine_words (left_in frames chain ms))
  over = e ∙ entered-words ms (left_in frames chain ms) tell (record { count = refl; ready = refl; finalize = refl; finalizing = refl; used = refl; outcome = refl; seq = refl })

  pub left_in_lem : machine_in ms' ≡ left_in frames chain ms
  left_in_lem = back ms ms' (left_in frames chain ms) over

  pub left-words : Numbers ms ms'
  left-words = numbers ms ms' (left_in frames chain ms) over

module _ (l : Sizes) (M : Lent) (m : Machine) (f : Fuel) (w : World) (rep : Rep l w M m f) (snd : sound w ≡ true) (pc dst src : ℕ) (narrow : pc < 2 ^ 32) (some : 1 ≤ m.depth)
    (rich : f.fuel ≡ 0 → ⊥) where
  abbrev base : ℕ
  base = get_or M.frames ((m.depth - 1) * 6 + 2) 0

  pub yield-done : base + dst < m.height → base + src < m.height → (M' : Lent) (n : Machine)
      → Does l (yield pc dst src (paid l M m f w rep snd pc dst dst src narrow some rich)) M' n (spent f) Step.Frame → Does l (did (Op.Yield pc dst src) w) M' n (spent f) goes_on
  yield-done p q M' n d =
      let o = Op.Yield pc dst src in
      let k : Based w base m.height = (numbered l w M m f _ base rep some refl refl).based in
      let pass : all_in (dst ∷ src ∷ []) w ≡ true = rw (in_frame_lem w base m.height dst k p, in_frame_lem w base m.height src k q) in
      as-instruction l M' n (spent f) w o goes_on refl
      (of_row o (λ pc operands arm. Does l (instruction pc (operands w) arm w) M' n (spent f) goes_on) pc (all_in (dst ∷ src ∷ [])) (yield pc dst src) refl
      (done l M' n (spent f) w pc (all_in (dst ∷ src ∷ []) w) (yield pc dst src) (some-frames w.frames M.frames m.depth rep.frames some) pass pc refl 0 Step.Frame
      goes_on (charge-fast l M m f w rep (Some pc) (spent f) rich refl).answer d refl))
