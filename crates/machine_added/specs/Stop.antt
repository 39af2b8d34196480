-- 01: stop run, on the numbers.
use Rattle.memory_world.specs.Numbers.{with_height, with_depth}
use Rattle.memory_world.specs.declared.machine.Machine.{Machine}

-- no frame, and no word on the stack
abbrev pub emptied : Machine → Machine
emptied m = with_height 0 (with_depth 0 m)
