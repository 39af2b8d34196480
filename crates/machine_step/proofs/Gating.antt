-- What the gates find, and what the calls behind them ask. Assumes nothing.
use mathlib.Core.Path.{◌≡◌, sym, ap, ◌∙◌, subst}
use mathlib.Core.Bool.{Bool, true, ◌&&◌}
use mathlib.Core.List.{List, [], ◌∷◌}
use Prim.Native.Nat.{ℕ, ◌+◌, ◌^◌, ◌≤◌, ◌<◌}
use native.Mathlib.Omega.{arith}
use lib.ListN.{length, get_or}
use lib.Dec.{ltb}
use borrow.Author.Tests.{ltb-true}
use Rattle.model.specs.Program.{is_function}
use Rattle.model.specs.World.{World}
use Rattle.model.specs.Frames.{top_base}
use Rattle.model.specs.Gate.{in_frame}
use Rattle.model.specs.Added.{cont_allowed}
use Rattle.model.specs.Calls.{table}
use Rattle.model.specs.declared.call.Op.{Op}
use Rattle.model.specs.declared.machine.Cont.{Cont}
use Rattle.model.specs.declared.machine.Fuel.{Fuel}
use Rattle.claims_sound.proofs.Tests.{and_left}
use Rattle.memory_tables.specs.Sizes.{functions_of}
use Rattle.memory_tables.specs.Does.{RegFits}
use Rattle.memory_tables.proofs.Doing.{reg-fits}
use Rattle.memory_tables.proofs.Setups.{functions-in}
use Rattle.memory_world.specs.Memory.{Lent, Rep}
use Rattle.memory_world.specs.Lendings.{top_setup, plain}
use Rattle.memory_world.specs.Contract.{Ok, only}
use Rattle.memory_world.specs.declared.machine.Machine.{Machine}
use Rattle.memory_world.specs.declared.machine.Sizes.{Sizes}
use Rattle.machine_state.specs.Frame.{PushFits, CallFits}
use Rattle.exec_instruction.specs.Operands.{operands_of}

-- a function number, in the words and in the world
pub function-told : (l : Sizes) (M : Lent) (m : Machine) (f : Fuel) (w : World) (g : ℕ) (t : Bool) → Rep l w M m f → t ≡ ltb g (functions_of M.setup) → is_function w.setup g ≡ t
function-told l M m f w g t rep e = sym (e ∙ ap (ltb g) (functions-in w.setup M.setup rep.setup))

module _ (l : Sizes) (s f u : List ℕ) (m : Machine) (ok : Ok l (top_setup s f u plain) (only m)) where
  abbrev w : World
  w = ok.world

  pub push-fits : (g : ℕ) → true ≡ ltb g (functions_of u) → PushFits l s f u m g
  push-fits g e = record { ok = ok; function = ltb-true g (functions_of u) (sym e) }

  pub call_fits : (pc g : ℕ) (k : Cont) → 1 ≤ m.depth → pc < 2 ^ 32 → operands_of (table (Op.FunctionCall pc g k)) w ≡ true → CallFits l s f u m pc g
  call_fits pc g k some narrow t =
      let e = functions-in w.setup u ok.rep.setup in
      let h = ltb-true g (length w.setup.functions) (and_left (is_function w.setup g) (cont_allowed w k) t) in
      record { push = record { ok = ok; function = subst (λ n. g < n) (sym e) h }; some = some; narrow = narrow }

  pub word_fits : (r v : ℕ) → 1 ≤ m.depth → operands_of (table (Op.PutWord r v)) w ≡ true → RegFits s f m.height m.depth r
  word_fits r v some t =
      let c = ok.rep.frames.count in
      reg-fits w.stack w.frames s f m.height m.depth r ok.rep.stack ok.rep.frames (omega arith)
      (ltb-true (top_base w.frames + r) (length w.stack) (and_left (in_frame w r) true t))
