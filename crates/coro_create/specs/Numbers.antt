-- The sequence number among the machine's numbers.
use Rattle.std.specs.Prelude.{◌+◌, ◌%◌, ◌^◌}
use Rattle.memory_world.specs.Numbers.{with_number}
use Rattle.memory_world.specs.declared.machine.Machine.{Machine}

-- 01: "advances the 64-bit sequence number, wrapping"
abbrev pub sequenced : Machine → Machine
sequenced m = with_number ((m.seq + 1) % 2 ^ 64) m
