-- The numbers of the heap among the machine's.
use Rattle.heap.specs.declared.heap.Heap.{Heap}
use Rattle.memory_world.specs.Numbers.{with_count, with_charged}
use Rattle.memory_world.specs.declared.machine.Machine.{Machine}
use Rattle.memory_world.specs.declared.machine.Sizes.{Sizes}

abbrev pub heap_of : Machine → Sizes → Heap
heap_of m sizes = record { count = m.count; slots = sizes.slots; used = m.used; limit = sizes.memory }

-- after an allocation
abbrev pub allocated : Machine → Heap → Machine
allocated m h = with_count h.count (with_charged h.used m)
