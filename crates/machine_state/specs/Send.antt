-- coro.rs: coro_send, what it asks of the words.
use Rattle.std.specs.Prelude.{List, ℕ, ◌+◌, ◌-◌, ◌*◌, ◌^◌, ◌<◌, get_or}
use Rattle.memory_tables.specs.Does.{RegFits}

-- the register lies in the top frame, whose pc has 32 bits
pub record SendFits (stack frames : List ℕ) (height depth r : ℕ) : Type 0 where
  pub reg : RegFits stack frames height depth r
  pub pc : get_or frames ((depth - 1) * 6 + 1) 0 < 2 ^ 32
