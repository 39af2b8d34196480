-- One call in words. Assumes nothing.
use mathlib.Core.Path.{◌≡◌, refl, sym, ap, ap₂, ◌∙◌}
use mathlib.Core.Bool.{Bool, true}
use mathlib.Core.List.{List, [], ◌∷◌}
use lib.ListN.{length}
use lib.Dec.{eqb}
use native.Mathlib.Omega.{arith}
use borrow.Author.Tests.{ne_eqb}
use Rattle.lists.specs.Pick.{pick, pick_true}
use Rattle.heap.specs.declared.fault.Fault.{Fault}
use Rattle.model.specs.Lists.{is_nil}
use Rattle.model.specs.declared.call.Op.{Op}
use Rattle.model.specs.declared.machine.Frame.{Frame}
use Rattle.model.specs.declared.machine.Fuel.{Fuel}
use Rattle.memory_world.specs.Memory.{Lent}
use Rattle.memory_world.specs.declared.machine.Machine.{Machine}
use Rattle.memory_calls.specs.Call.{refusal}
use Rattle.memory_calls.specs.declared.call.Gate.{Gate}
use Rattle.std.specs.Prelude.{Result, Ok, Err}
use Rattle.memory_step.specs.Step.{MemoryState, Left, refuses, is_sound, decoded}
use Rattle.outer_call.specs.State.{state, Steps}
use Rattle.outer_call.proofs.Stepping.{stands}
use Rattle.outer_run.specs.Run.{do_words, Reads}

-- no frame stands exactly if there are none of them
nil-length : (fs : List Frame) → eqb (length fs) 0 ≡ is_nil fs
nil-length [] = refl
nil-length (f ∷ fs) = ne_eqb (length (f ∷ fs)) 0 (λ z. omega arith)

module _ (M : Lent) (m : Machine) (f : Fuel) (e : is_sound (state M m f) ≡ true) where
  pub no_frames : eqb m.depth 0 ≡ is_nil (decoded (state M m f)).frames
  no_frames = ap (λ k. eqb k 0) (stands M m f e).rep.frames.count ∙ nil-length (decoded (state M m f)).frames

  -- no call
  pub no_read : (r : Result Op Gate) (g : Gate) (x : Fault) → r ≡ Err g → x ≡ refusal g (eqb m.depth 0) → Reads (state M m f) r (refuses (state M m f) x)
  no_read r g x q k =
      let s = state M m f in
      let y = refusal g (is_nil (decoded s).frames) in
      record { is = ap (refuses s) (k ∙ ap (refusal g) no_frames ∙ sym (ap (λ b. pick b y Fault.Unsound) e ∙ pick_true _ _)) ∙ ap (do_words s) (sym q); again = e }

-- a call
pub call-read : (s : MemoryState) (r : Result Op Gate) (o : Op) (d : Left) → r ≡ Ok o → Steps s o d → Reads s r d
call-read s r o d e k = record { is = k.is ∙ ap (do_words s) (sym e); again = k.again }
