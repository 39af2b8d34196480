-- What the code tests, part by part, is `sound_words`. Each rule of `sound_words` and of `sound` with the test that decides it:
--   setup_held, setup_ok                          setup_test (sound_test/specs/Setup)
--   room_ok, counts_ok, sizes_ok                   room_test, counts_test (sound_test/specs/Room)
--   outcome_held, ranges_ok of the outcome        outcome_test
--   fuel_ok                                      fuel_test
--   frames_held, frames_ok, entry_ok               stack_frames_ok (sound_test/specs/Frames)
--   chain_held, floors_ok, drivers_ok              chain_ok (sound_test/specs/Chain)
--   slots_held, ranges_ok, unused_ok               table_test; of a finished coroutine's row, coro_test
--   running_ok                                   running_test of the chain; coro_fine of every other slot
--   fits_rows, saved_sizes_ok, saved_ok             coro_test, with saved_frames_ok on the words of its row
--   rows_ok                                      coro_test that the row is one; distinct rows_held
--   saved_stack_held, saved_frames_held             coro_test of a row that is held, row_free of the others; rest_ok after the rows
--   runs_held, queues_ok                          rest_ok of the stack, queue_held (sound_test/specs/Queue)
-- Tests that need an earlier one to have passed come after it, so the parts are equal to the rules only together.
use Rattle.std.specs.Prelude.{◌≡◌, ◌&&◌}
use Rattle.model.specs.Sound.{outcome_range, fuel_ok}
use Rattle.model.specs.declared.machine.Fuel.{Fuel}
use Rattle.memory_world.specs.Memory.{Lent}
use Rattle.memory_world.specs.declared.machine.Machine.{Machine}
use Rattle.memory_world.specs.Decode.{world_of}
use Rattle.memory_sound.specs.Words.{outcome_held, sound_words}
use Rattle.check_machine.specs.Numbers.{outcome_test, fuel_test}
use Rattle.check_machine.specs.Whole.{whole_test}

module _ (M : Lent) (m : Machine) (f : Fuel) where
  pub record Decided : Type 0 where
    pub outcome : outcome_test m.outcome ≡ (outcome_held m.outcome && outcome_range (world_of M m f).outcome)
    pub fuel : fuel_test f ≡ fuel_ok (world_of M m f)
    pub whole : whole_test M m f ≡ sound_words M m f
