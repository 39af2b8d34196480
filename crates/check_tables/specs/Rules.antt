-- What the code tests, table by table, are the rules of `sound_words`.
use Rattle.std.specs.Prelude.{◌≡◌, true, false, ◌&&◌, ◌≤◌, leb, length}
use Rattle.heap.specs.Heap.{slots_of}
use Rattle.model.specs.Sound.{frames_ok, entry_ok, floors_ok, drivers_ok, queue_ok}
use Rattle.model.specs.declared.machine.Fuel.{Fuel}
use Rattle.memory_world.specs.Memory.{Lent}
use Rattle.memory_world.specs.declared.machine.Machine.{Machine}
use Rattle.memory_world.specs.Words.{sizes_of}
use Rattle.memory_world.specs.Decode.{setup_of, world_of}
use Rattle.memory_sound.specs.Words.{rest_ok, room_ok, counts_ok, frames_held, chain_held}
use Rattle.check_tables.specs.Frames.{stack_frames_ok}
use Rattle.check_tables.specs.Chain.{chain_ok}
use Rattle.check_tables.specs.Queue.{queue_held}
use Rattle.check_tables.specs.Room.{room_test, counts_test}

module _ (M : Lent) (m : Machine) (f : Fuel) where
  pub record Decided : Type 0 where
    pub room : room_test (sizes_of (setup_of M.setup)) (length M.stack) (length M.frames) (length M.chain) (length M.slots) (length M.saved_stack) (length M.saved_frames) (length M.ready) (length M.finalize) ≡ room_ok (setup_of M.setup) M
    pub counts : counts_test (sizes_of (setup_of M.setup)) m ≡ (counts_ok (setup_of M.setup) m && leb m.used (setup_of M.setup).limits.memory)
    pub frames : m.height ≤ length M.stack → stack_frames_ok (setup_of M.setup) M.frames m.depth m.height ≡ (frames_held M.frames m.depth && frames_ok (world_of M m f) && entry_ok (world_of M m f))
    pub chain : chain_ok M.chain m.active M.frames m.depth ≡ (chain_held M.chain m.active && floors_ok (world_of M m f) && drivers_ok (world_of M m f))
    pub ready : queue_held true (slots_of m.count M.slots) M.ready m.ready ≡ (queue_ok (λ r. r.task) (world_of M m f) (world_of M m f).ready && rest_ok M.ready m.ready)
    pub finalize : queue_held false (slots_of m.count M.slots) M.finalize m.finalize ≡ (queue_ok (λ r. r.finalized) (world_of M m f) (world_of M m f).finalize && rest_ok M.finalize m.finalize)
