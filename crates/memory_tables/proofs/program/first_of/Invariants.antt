-- `first_of` meets its contract: no handler passed covers the pc. Assumes nothing.
use Rattle.std.proofs.Common.{◌≡◌, drop}
use Rattle.model.specs.Program.{first_of}
use Rattle.memory_tables.proofs.program.first_of.Given as goal

abbrev pub invariant-loop-h : goal.invariant-loop-h
invariant-loop-h l = first_of l.pc l.h-items ≡ first_of l.pc (drop l.h-index l.h-items)
