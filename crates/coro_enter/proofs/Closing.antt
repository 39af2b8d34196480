-- A coroutine marked as closing, on the world. Assumes nothing.
use mathlib.Core.Path.{◌≡◌, refl}
use mathlib.Core.List.{List}
use Prim.Native.Nat.{ℕ}
use Rattle.lists.specs.Chunks.{chunk_at, put_chunk}
use Rattle.heap.specs.Object.{as_closing}
use Rattle.heap.specs.Word.{tag_of}
use Rattle.heap.specs.Slot.{width, closing_words}
use Rattle.heap.specs.Heap.{coro_in, slots_of, place_of, coro_of}
use Rattle.std.specs.Prelude.{Ok}
use Rattle.heap.proofs.Fields.{closes}
use Rattle.model.specs.World.{World}
use Rattle.model.specs.Heap.{change_coro}
use Rattle.model.specs.Cleanup.{close}
use Rattle.model.specs.declared.machine.Fuel.{Fuel}
use Rattle.memory_world.specs.Memory.{Lent, Rep, on_slots}
use Rattle.memory_world.specs.declared.machine.Machine.{Machine}
use Rattle.memory_world.specs.declared.machine.Sizes.{Sizes}
use Rattle.memory_world.proofs.Slotted.{placed-words, marks-changed}

pub closing-rep : (l : Sizes) (M : Lent) (m : Machine) (f : Fuel) (v : ℕ) (w : World) → Rep l w M m f → (i : ℕ) → Ok i ≡ place_of (coro_of (slots_of m.count M.slots) v)
    → (signal : ℕ) (slots' : List ℕ) → slots' ≡ put_chunk width M.slots i (closing_words signal (chunk_at width M.slots i))
    → Rep l (change_coro v (λ k. k) (close signal) w) (on_slots slots' M) m f
closing-rep l M m f v w rep i at signal slots' e =
    marks-changed l M m f v w rep i at (close signal) (as_closing signal) (λ k r. refl) (λ r. refl) slots'
    (closes M.slots i (tag_of v) (coro_in M.slots i) (placed-words l M m f v w rep i at) slots' signal e)
