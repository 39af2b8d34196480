-- heap.rs: alloc, of an object that has no row.
use Rattle.std.specs.Prelude.{◌≡◌, ℕ, Result}
use Rattle.heap.specs.declared.object.Object as H
use Rattle.model.specs.Object.{Object, Absent, as_coro}
use Rattle.model.specs.Heap.{alloc}
use Rattle.heap.specs.declared.fault.Fault.{Fault}
use Rattle.memory_world.specs.Slots.{to_object}
use Rattle.memory_world.specs.Contract.{Numbers, Lending, Met, any}
use Rattle.memory_world.specs.declared.machine.Sizes.{Sizes}

-- o in the slots is such an object of the world
abbrev pub Allocates : Sizes → ℕ → H.Object → Lending → Numbers → Numbers → Result ℕ Fault → Type 0
Allocates sizes bytes o L n n' a = (x : Object) → to_object x ≡ o → as_coro x ≡ Absent → Met any sizes (alloc bytes x) L n n' a
