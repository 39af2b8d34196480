-- coro.rs: indirect; exec, CoroNewIndirect, on the lent words.
use Rattle.std.specs.Prelude.{not, List, ℕ, ◌+◌, ◌-◌, ◌*◌, ◌≤◌, length, get_or, eqb, Result, Err}
use Rattle.lists.specs.Pick.{pick}
use Rattle.heap.specs.Heap.{TableFits}
use Rattle.heap.specs.declared.fault.Fault.{Fault}
use Rattle.model.specs.Program.{Setup, func, is_function}
use Rattle.model.specs.Object.{Object}
use Rattle.model.specs.World.{World}
use Rattle.model.specs.Heap.{object, not_a}
use Rattle.memory_tables.specs.Layout.{base_in}
use Rattle.memory_tables.specs.Does.{RegFits}
use Rattle.memory_world.specs.Memory.{Lent, Beside, on_slots, on_setup}
use Rattle.memory_world.specs.Lendings.{top_making, plain}
use Rattle.memory_world.specs.Contract.{Ok, only}
use Rattle.memory_world.specs.declared.machine.Machine.{Machine}
use Rattle.memory_world.specs.declared.machine.Sizes.{Sizes}

-- ---- which function a word calls

-- the function that an object is; of another object, the fault
abbrev pub callee_in : Object → Fault → Result ℕ Fault
callee_in Object.Empty g = Err g
callee_in (Object.Func f) g = Result.Ok f
callee_in (Object.Int n) g = Err g
callee_in (Object.Iter s d k) g = Err g
callee_in (Object.Error e f p x) g = Err g
callee_in (Object.Coro k r) g = Err g

-- it is one of the set-up's, and takes argc arguments
abbrev pub taking : Setup → ℕ → Result ℕ Fault → Result ℕ Fault
taking s argc (Err g) = Err g
taking s argc (Result.Ok f) =
    pick (not (is_function s f)) (Err Fault.TypeError)
    (pick (not (eqb (func s f).params argc)) (Err Fault.TypeError)
    (Result.Ok f))

abbrev pub called : ℕ → ℕ → World → Result ℕ Fault
called v argc w = taking w.setup argc (callee_in (object w v) (not_a w v))

-- the slots and the set-up are lent
module _ {X : Type 0} where
  abbrev pub table_setup : X → X → (X → List ℕ) → Beside → Lent
  table_setup o u t b = on_slots (t o) (on_setup (t u) b.words)

-- the slots lie in the words, and so do the functions, whose number is word 13 of a set-up
pub record CalledFits (slots setup : List ℕ) (count : ℕ) : Type 0 where
  pub table : TableFits slots count
  pub functions : 14 + get_or setup 13 0 * 35 ≤ length setup

-- ---- the creation

-- a sound world, two registers of the top frame, and the argument window after the first on the stack
pub record IndirectFits (sizes : Sizes) (stack frames slots saved_stack saved_frames setup : List ℕ) (m : Machine) (dst callee argc : ℕ) : Type 0 where
  pub ok : Ok sizes (top_making stack frames slots saved_stack saved_frames setup plain) (only m)
  pub few : argc ≤ 255
  pub reg : RegFits stack frames m.height m.depth dst
  pub holder : RegFits stack frames m.height m.depth callee
  pub window : base_in frames (m.depth - 1) + dst + 1 + argc ≤ m.height
