-- The whole state of a machine. Frames and chain stand top first, the stack bottom first.
use Rattle.std.specs.Prelude.{ℕ, suc, Bool, false, List, [], ◌∷◌, Option, None}
use Rattle.heap.specs.Table.{Slot, slot}
use Rattle.model.specs.declared.machine.Stop.{Stop}
use Rattle.model.specs.Program.{Func, Setup}
use Rattle.model.specs.Object.{Object}
use Rattle.model.specs.declared.machine.Frame.{Frame}
use Rattle.model.specs.declared.machine.Active.{Active}
use Rattle.model.specs.declared.machine.Fuel.{Fuel}

pub record World : Type 0 where
  pub setup : Setup
  pub stack : List ℕ
  pub frames : List Frame
  -- coros: the running coroutines
  pub chain : List Active
  pub slots : List (Slot Object)
  -- sched.ready: the tasks that wait to run
  pub ready : List ℕ
  -- the cleanup queue, and whether a cleanup runs
  pub finalize : List ℕ
  pub finalizing : Bool
  pub outcome : Option Stop
  -- the bytes charged
  pub used : ℕ
  -- coro_seq: the next coroutine's number
  pub seq : ℕ
  pub fuel : Fuel

-- what a function leaves, and what it answers
pub record After (A : Type 0) : Type 0 where
  pub world : World
  pub answer : A

abbrev pub after : {A : Type 0} → World → A → After A
after w a = record { world = w; answer = a }

-- f, and then g with what f left and answered
abbrev pub and_then : {A B : Type 0} → After A → (World → A → After B) → After B
and_then o g = g o.world o.answer

-- 01: "functions .. (each a function object, slots from 0, uncharged)"
abbrev pub function_objects : ℕ → List Func → List (Slot Object)
function_objects i [] = []
function_objects i (f ∷ fs) = slot 0 (Object.Func i) ∷ function_objects (suc i) fs

-- 01: "Set-up (fuel 0)"
abbrev pub fresh : Setup → World
fresh s =
    record {
      setup = s;
      stack = [];
      frames = [];
      chain = [];
      slots = function_objects 0 s.functions;
      ready = [];
      finalize = [];
      finalizing = false;
      outcome = None;
      used = 0;
      seq = 0;
      fuel = record { fuel = 0; bank = None; ready = false };
    }

-- ---- the world with one field replaced

abbrev pub with_stack : List ℕ → World → World
with_stack x w = record { setup = w.setup; stack = x; frames = w.frames; chain = w.chain; slots = w.slots; ready = w.ready; finalize = w.finalize; finalizing = w.finalizing; outcome = w.outcome; used = w.used; seq = w.seq; fuel = w.fuel }

abbrev pub with_frames : List Frame → World → World
with_frames x w = record { setup = w.setup; stack = w.stack; frames = x; chain = w.chain; slots = w.slots; ready = w.ready; finalize = w.finalize; finalizing = w.finalizing; outcome = w.outcome; used = w.used; seq = w.seq; fuel = w.fuel }

abbrev pub with_chain : List Active → World → World
with_chain x w = record { setup = w.setup; stack = w.stack; frames = w.frames; chain = x; slots = w.slots; ready = w.ready; finalize = w.finalize; finalizing = w.finalizing; outcome = w.outcome; used = w.used; seq = w.seq; fuel = w.fuel }

abbrev pub with_slots : List (Slot Object) → World → World
with_slots x w = record { setup = w.setup; stack = w.stack; frames = w.frames; chain = w.chain; slots = x; ready = w.ready; finalize = w.finalize; finalizing = w.finalizing; outcome = w.outcome; used = w.used; seq = w.seq; fuel = w.fuel }

abbrev pub with_ready : List ℕ → World → World
with_ready x w = record { setup = w.setup; stack = w.stack; frames = w.frames; chain = w.chain; slots = w.slots; ready = x; finalize = w.finalize; finalizing = w.finalizing; outcome = w.outcome; used = w.used; seq = w.seq; fuel = w.fuel }

abbrev pub with_finalize : List ℕ → World → World
with_finalize x w = record { setup = w.setup; stack = w.stack; frames = w.frames; chain = w.chain; slots = w.slots; ready = w.ready; finalize = x; finalizing = w.finalizing; outcome = w.outcome; used = w.used; seq = w.seq; fuel = w.fuel }

abbrev pub with_finalizing : Bool → World → World
with_finalizing x w = record { setup = w.setup; stack = w.stack; frames = w.frames; chain = w.chain; slots = w.slots; ready = w.ready; finalize = w.finalize; finalizing = x; outcome = w.outcome; used = w.used; seq = w.seq; fuel = w.fuel }

abbrev pub with_outcome : Option Stop → World → World
with_outcome x w = record { setup = w.setup; stack = w.stack; frames = w.frames; chain = w.chain; slots = w.slots; ready = w.ready; finalize = w.finalize; finalizing = w.finalizing; outcome = x; used = w.used; seq = w.seq; fuel = w.fuel }

abbrev pub with_used : ℕ → World → World
with_used x w = record { setup = w.setup; stack = w.stack; frames = w.frames; chain = w.chain; slots = w.slots; ready = w.ready; finalize = w.finalize; finalizing = w.finalizing; outcome = w.outcome; used = x; seq = w.seq; fuel = w.fuel }

abbrev pub with_seq : ℕ → World → World
with_seq x w = record { setup = w.setup; stack = w.stack; frames = w.frames; chain = w.chain; slots = w.slots; ready = w.ready; finalize = w.finalize; finalizing = w.finalizing; outcome = w.outcome; used = w.used; seq = x; fuel = w.fuel }

abbrev pub with_fuel : Fuel → World → World
with_fuel x w = record { setup = w.setup; stack = w.stack; frames = w.frames; chain = w.chain; slots = w.slots; ready = w.ready; finalize = w.finalize; finalizing = w.finalizing; outcome = w.outcome; used = w.used; seq = w.seq; fuel = x }
