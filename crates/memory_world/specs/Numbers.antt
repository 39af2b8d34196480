-- A machine's numbers with one replaced.
use Rattle.std.specs.Prelude.{ℕ, Bool}
use Rattle.memory_world.specs.declared.machine.Told.{Told}
use Rattle.memory_world.specs.declared.machine.Machine.{Machine}

abbrev pub with_height : ℕ → Machine → Machine
with_height x m = record { height = x; depth = m.depth; active = m.active; count = m.count; ready = m.ready; finalize = m.finalize; finalizing = m.finalizing; outcome = m.outcome; used = m.used; seq = m.seq }

abbrev pub with_depth : ℕ → Machine → Machine
with_depth x m = record { height = m.height; depth = x; active = m.active; count = m.count; ready = m.ready; finalize = m.finalize; finalizing = m.finalizing; outcome = m.outcome; used = m.used; seq = m.seq }

abbrev pub with_active : ℕ → Machine → Machine
with_active x m = record { height = m.height; depth = m.depth; active = x; count = m.count; ready = m.ready; finalize = m.finalize; finalizing = m.finalizing; outcome = m.outcome; used = m.used; seq = m.seq }

abbrev pub with_count : ℕ → Machine → Machine
with_count x m = record { height = m.height; depth = m.depth; active = m.active; count = x; ready = m.ready; finalize = m.finalize; finalizing = m.finalizing; outcome = m.outcome; used = m.used; seq = m.seq }

abbrev pub with_waiting : ℕ → Machine → Machine
with_waiting x m = record { height = m.height; depth = m.depth; active = m.active; count = m.count; ready = x; finalize = m.finalize; finalizing = m.finalizing; outcome = m.outcome; used = m.used; seq = m.seq }

abbrev pub with_cleanups : ℕ → Machine → Machine
with_cleanups x m = record { height = m.height; depth = m.depth; active = m.active; count = m.count; ready = m.ready; finalize = x; finalizing = m.finalizing; outcome = m.outcome; used = m.used; seq = m.seq }

abbrev pub with_running : Bool → Machine → Machine
with_running x m = record { height = m.height; depth = m.depth; active = m.active; count = m.count; ready = m.ready; finalize = m.finalize; finalizing = x; outcome = m.outcome; used = m.used; seq = m.seq }

abbrev pub with_told : Told → Machine → Machine
with_told x m = record { height = m.height; depth = m.depth; active = m.active; count = m.count; ready = m.ready; finalize = m.finalize; finalizing = m.finalizing; outcome = x; used = m.used; seq = m.seq }

abbrev pub with_charged : ℕ → Machine → Machine
with_charged x m = record { height = m.height; depth = m.depth; active = m.active; count = m.count; ready = m.ready; finalize = m.finalize; finalizing = m.finalizing; outcome = m.outcome; used = x; seq = m.seq }

abbrev pub with_number : ℕ → Machine → Machine
with_number x m = record { height = m.height; depth = m.depth; active = m.active; count = m.count; ready = m.ready; finalize = m.finalize; finalizing = m.finalizing; outcome = m.outcome; used = m.used; seq = x }
