-- A frame pushed by a call: refused, nothing is stored. Assumes nothing.
use mathlib.Core.Path.{◌≡◌, refl, sym, ap, ◌∙◌, subst}
use mathlib.Core.Bool.{true, false, ◌||◌}
use mathlib.Core.List.{List, [], ◌∷◌}
use Prim.Native.Nat.{ℕ, ◌+◌, ◌<◌}
use lib.ListN.{length, get_or}
use lib.Dec.{ltb, leb}
use Rattle.heap.specs.declared.fault.Fault.{Fault}
use Rattle.model.specs.Program.{func}
use Rattle.model.specs.World.{World, After, and_then}
use Rattle.model.specs.Frames.{on_top, set_pc, store_pc}
use Rattle.model.specs.Machine.{push_frame}
use Rattle.model.specs.Sound.{sound}
use Rattle.std.specs.Prelude.{Result, Err}
use Rattle.model.specs.declared.machine.Cont.{Cont}
use Rattle.model.specs.declared.machine.Frame.{Frame}
use Rattle.model.specs.declared.machine.Fuel.{Fuel}
use Rattle.memory_tables.specs.Layout.{function_in}
use Rattle.memory_world.specs.Memory.{Lent, Rep}
use Rattle.memory_world.specs.Contract.{Does}
use Rattle.memory_world.specs.declared.machine.Machine.{Machine}
use Rattle.memory_world.specs.declared.machine.Sizes.{Sizes}
use Rattle.memory_world.proofs.Does.{does}
use Rattle.machine_state.specs.Frame.{overflowing, pushed_or, push_at}
use Rattle.machine_state.proofs.Frames.{chosen, passed, same_test}

same-depth : (g : Frame → Frame) (fs : List Frame) → length (on_top g fs) ≡ length fs
same-depth g [] = refl
same-depth g (f ∷ fs) = refl

module _ (l : Sizes) (w : World) (M : Lent) (m : Machine) (fuel : Fuel) (rep : Rep l w M m fuel) (snd : sound w ≡ true) (f : ℕ) (function : f < get_or M.setup 13 0)
    (closure : ℕ) (cont : Cont) (pc : ℕ) where
  -- the stored pc does not change the test
  tested : (leb w.setup.limits.depth (length (store_pc pc w).frames) || ltb w.setup.limits.stack (length w.stack + (func w.setup f).regs))
      ≡ overflowing m l (function_in M.setup f).regs
  tested =
      ap (λ k. leb w.setup.limits.depth k || ltb w.setup.limits.stack (length w.stack + (func w.setup f).regs)) (same-depth (set_pc pc) w.frames)
      ∙ same_test l w M m fuel rep snd f function closure cont

  pub call-refused : overflowing m l (function_in M.setup f).regs ≡ true → Does l (push_at pc f closure cont w) M m fuel (Err Fault.StackOverflow)
  unfolding push_frame push_at
  call-refused e =
      does l M m fuel (push_at pc f closure cont w) w (Err Fault.StackOverflow) (ap (λ (o : After (Result ℕ Fault)). and_then o (pushed_or w)) (chosen _ _ _ (tested ∙ e))) rep

  pub call-done : (M' : Lent) (m' : Machine) (a : Result ℕ Fault) → overflowing m l (function_in M.setup f).regs ≡ false → Does l (push_frame f closure cont (store_pc pc w)) M' m' fuel a
      → Does l (push_at pc f closure cont w) M' m' fuel a
  unfolding push_frame push_at
  call-done M' m' a e d =
      let p = passed _ _ _ (tested ∙ e) in
      subst (λ (o : After (Result ℕ Fault)). Does l o M' m' fuel a) (p ∙ sym (ap (λ (o : After (Result ℕ Fault)). and_then o (pushed_or w)) p)) d
