-- 01: take outcome, on the numbers.
use Rattle.std.specs.Prelude.{None}
use Rattle.memory_world.specs.Told.{told}
use Rattle.memory_world.specs.Numbers.{with_told}
use Rattle.memory_world.specs.declared.machine.Machine.{Machine}

-- the numbers with no outcome
abbrev pub untold : Machine → Machine
untold m = with_told (told None) m
