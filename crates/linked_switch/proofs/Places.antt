-- Where a coroutine's row stands, by the numbers that are read. Assumes nothing.
use mathlib.Core.Path.{◌≡◌, sym, ap, subst}
use mathlib.Core.List.{List}
use Prim.Native.Nat.{ℕ, ◌*◌}
use Rattle.memory_tables.specs.Does.{EntersStack, EntersFrames, EnterFits}
use Rattle.linked_calls.specs.Words.{machine_in, sizes_in}
use Rattle.linked_switch.specs.Words.{record_at}

module _ (slots ms : List ℕ) (i r : ℕ) (row : r ≡ (record_at slots i).row) where
  pub regs-place : r * (sizes_in ms).width ≡ (record_at slots i).row * (sizes_in ms).width
  regs-place = ap (λ x. x * (sizes_in ms).width) row

  pub frames-place : r * ((sizes_in ms).depth * 6) ≡ (record_at slots i).row * ((sizes_in ms).depth * 6)
  frames-place = ap (λ x. x * ((sizes_in ms).depth * 6)) row

  pub at_regs : (stack saved stack' saved' : List ℕ) (n : ℕ) → n ≡ (record_at slots i).regs → EntersStack stack saved stack' saved' (machine_in ms).height (r * (sizes_in ms).width) n
      → EntersStack stack saved stack' saved' (machine_in ms).height ((record_at slots i).row * (sizes_in ms).width) (record_at slots i).regs
  at_regs stack saved stack' saved' n e d =
      subst (λ x. EntersStack stack saved stack' saved' (machine_in ms).height x (record_at slots i).regs) regs-place
      (subst (λ x. EntersStack stack saved stack' saved' (machine_in ms).height (r * (sizes_in ms).width) x) e d)

  pub at-frames : (frames saved frames' saved' : List ℕ) (n : ℕ) → n ≡ (record_at slots i).frames
      → EntersFrames frames saved frames' saved' (machine_in ms).depth (r * ((sizes_in ms).depth * 6)) n (machine_in ms).height
      → EntersFrames frames saved frames' saved' (machine_in ms).depth ((record_at slots i).row * ((sizes_in ms).depth * 6)) (record_at slots i).frames (machine_in ms).height
  at-frames frames saved frames' saved' n e d =
      subst (λ x. EntersFrames frames saved frames' saved' (machine_in ms).depth x (record_at slots i).frames (machine_in ms).height) frames-place
      (subst (λ x. EntersFrames frames saved frames' saved' (machine_in ms).depth (r * ((sizes_in ms).depth * 6)) x (machine_in ms).height) e d)

  pub frames-fit : (frames saved : List ℕ) (n : ℕ) → n ≡ (record_at slots i).frames
      → EnterFits frames saved (machine_in ms).depth ((record_at slots i).row * ((sizes_in ms).depth * 6)) (record_at slots i).frames (machine_in ms).height
      → EnterFits frames saved (machine_in ms).depth (r * ((sizes_in ms).depth * 6)) n (machine_in ms).height
  frames-fit frames saved n e d =
      subst (λ x. EnterFits frames saved (machine_in ms).depth x n (machine_in ms).height) (sym frames-place)
      (subst (λ x. EnterFits frames saved (machine_in ms).depth ((record_at slots i).row * ((sizes_in ms).depth * 6)) x (machine_in ms).height) (sym e) d)
