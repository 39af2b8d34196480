-- coro.rs: deliver, deliver_return: what they ask of the words, and their parts.
use Rattle.std.specs.Prelude.{◌≡◌, List, ℕ, ◌*◌, ◌≤◌, length, Some}
use Rattle.heap.specs.Heap.{TableFits}
use Rattle.model.specs.World.{World}
use Rattle.model.specs.Frames.{put_reg}
use Rattle.model.specs.Heap.{set_key, set_done}
use Rattle.model.specs.Coro.{coro_send}
use Rattle.model.specs.declared.machine.Driver.{Driver}
use Rattle.model.specs.declared.machine.Stop.{Stop}
use Rattle.memory_tables.specs.Does.{RegFits}
use Rattle.memory_world.specs.Told.{told}
use Rattle.memory_world.specs.declared.machine.Machine.{Machine}
use Rattle.machine_state.specs.Send.{SendFits}

-- iter_next's two registers lie in the top frame, and the slots in the words
pub record IterFits (stack frames slots : List ℕ) (m : Machine) (has val : ℕ) : Type 0 where
  pub table : TableFits slots m.count
  pub flag : SendFits stack frames m.height m.depth has
  pub word : RegFits stack frames m.height m.depth val

-- the driver's registers lie in the top frame
pub record DriverFits (stack frames slots : List ℕ) (m : Machine) (d : Driver) : Type 0 where
  pub resumes : (dst : ℕ) → d ≡ Driver.Resume dst → SendFits stack frames m.height m.depth dst
  pub iterates : (has val iter : ℕ) → d ≡ Driver.Iter has val iter → IterFits stack frames slots m has val

-- iter_next gets a word and its key
abbrev pub iter_yielded : ℕ → ℕ → ℕ → ℕ → ℕ → World → World
iter_yielded has val iter payload key w = coro_send has 1 (put_reg val payload (set_key iter key w))

-- iter_next hears that there is none
abbrev pub iter_returned : ℕ → ℕ → World → World
iter_returned has iter w = coro_send has 0 (set_done iter w)

-- the numbers with an outcome for the host
abbrev pub stopped : Stop → Machine → Machine
stopped s m =
    record {
      height = m.height;
      depth = m.depth;
      active = m.active;
      count = m.count;
      ready = m.ready;
      finalize = m.finalize;
      finalizing = m.finalizing;
      outcome = told (Some s);
      used = m.used;
      seq = m.seq;
    }
