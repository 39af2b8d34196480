-- 01: "reports how many queue words it took off": the count in the answer is that of the definition, which counts its steps, and
-- the cleanup queue's loss.
use Rattle.std.specs.Prelude.{◌≡◌, ℕ, ◌+◌, length, take, drop}
use Rattle.lists.specs.Parts.{pad}
use Rattle.model.specs.World.{World}
use Rattle.model.specs.Cleanup.{start_finalizer}
use Rattle.model.specs.declared.coro.Started.{Started}
use Rattle.model.specs.declared.machine.Fuel.{Fuel}
use Rattle.memory_world.specs.Memory.{Lent, Rep}
use Rattle.memory_world.specs.Contract.{Does}
use Rattle.memory_world.specs.declared.machine.Machine.{Machine}
use Rattle.memory_world.specs.declared.machine.Sizes.{Sizes}

-- of the definition: the words counted, and no others, have left the queue
pub record Lost (w : World) : Type 0 where
  pub rest : (start_finalizer w).world.finalize ≡ drop (start_finalizer w).answer.taken w.finalize
  pub count : length w.finalize ≡ (start_finalizer w).answer.taken + length (start_finalizer w).world.finalize

-- of the words and numbers that a search for a cleanup leaves, with its answer a
pub record LostWords (M M' : Lent) (m m' : Machine) (a : Started) : Type 0 where
  pub words : M'.finalize ≡ pad (length M'.finalize) (drop a.taken (take m.finalize M.finalize))
  pub count : m.finalize ≡ a.taken + m'.finalize

pub record Loss : Type 0 where
  pub world : (w : World) → Lost w
  pub words : (sizes : Sizes) (w : World) (M M' : Lent) (m m' : Machine) (f f' : Fuel) (a : Started) → Rep sizes w M m f → Does sizes (start_finalizer w) M' m' f' a → LostWords M M' m m' a
