-- coro.rs: exec, the instructions that ask, on the lent words.
use Rattle.std.specs.Prelude.{◌≡◌, List, ℕ, ◌*◌, ◌≤◌, length}
use Rattle.heap.specs.Heap.{TableFits}
use Rattle.model.specs.Exec.{current}
use Rattle.model.specs.declared.machine.Active.{Active}
use Rattle.memory_tables.specs.Parts.{Chain}
use Rattle.memory_tables.specs.Does.{RegFits}
use Rattle.memory_world.specs.declared.machine.Machine.{Machine}

-- two registers of the top frame, and the slots in the words
pub record AskFits (stack frames slots : List ℕ) (m : Machine) (dst c : ℕ) : Type 0 where
  pub table : TableFits slots m.count
  pub result : RegFits stack frames m.height m.depth dst
  pub coro : RegFits stack frames m.height m.depth c

-- a register of the top frame, and the chain in the words
pub record CurrentFits (stack frames chain : List ℕ) (m : Machine) (dst : ℕ) : Type 0 where
  pub running : m.active * 6 ≤ length chain
  pub result : RegFits stack frames m.height m.depth dst

-- of every chain that the words hold, v is the innermost coroutine, or nil
abbrev pub Current : List ℕ → ℕ → ℕ → Type 0
Current chain n v = (cs : List Active) → Chain cs chain n → v ≡ current cs
