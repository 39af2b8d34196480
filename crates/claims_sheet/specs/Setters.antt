-- The sheet's own words: a world, or what is kept of a coroutine beside its core, with one field replaced. They are written out here, so
-- that a wrong one of the machine's does not make the table wrong with it.
use Rattle.std.specs.Prelude.{ℕ, Bool, List, Option}
use Rattle.heap.specs.Table.{Slot}
use Rattle.model.specs.Object.{Rest, Object}
use Rattle.model.specs.World.{World}
use Rattle.model.specs.declared.machine.Active.{Active}
use Rattle.model.specs.declared.machine.Frame.{Frame}
use Rattle.model.specs.declared.machine.Fuel.{Fuel}
use Rattle.model.specs.declared.machine.Stop.{Stop}

-- ---- a world

abbrev pub with_stack : List ℕ → World → World
with_stack x w = record { setup = w.setup; stack = x; frames = w.frames; chain = w.chain; slots = w.slots; ready = w.ready; finalize = w.finalize; finalizing = w.finalizing; outcome = w.outcome; used = w.used; seq = w.seq; fuel = w.fuel }

abbrev pub with_frames : List Frame → World → World
with_frames x w = record { setup = w.setup; stack = w.stack; frames = x; chain = w.chain; slots = w.slots; ready = w.ready; finalize = w.finalize; finalizing = w.finalizing; outcome = w.outcome; used = w.used; seq = w.seq; fuel = w.fuel }

abbrev pub with_chain : List Active → World → World
with_chain x w = record { setup = w.setup; stack = w.stack; frames = w.frames; chain = x; slots = w.slots; ready = w.ready; finalize = w.finalize; finalizing = w.finalizing; outcome = w.outcome; used = w.used; seq = w.seq; fuel = w.fuel }

abbrev pub with_slots : List (Slot Object) → World → World
with_slots x w = record { setup = w.setup; stack = w.stack; frames = w.frames; chain = w.chain; slots = x; ready = w.ready; finalize = w.finalize; finalizing = w.finalizing; outcome = w.outcome; used = w.used; seq = w.seq; fuel = w.fuel }

abbrev pub with_ready : List ℕ → World → World
with_ready x w = record { setup = w.setup; stack = w.stack; frames = w.frames; chain = w.chain; slots = w.slots; ready = x; finalize = w.finalize; finalizing = w.finalizing; outcome = w.outcome; used = w.used; seq = w.seq; fuel = w.fuel }

abbrev pub with_finalize : List ℕ → World → World
with_finalize x w = record { setup = w.setup; stack = w.stack; frames = w.frames; chain = w.chain; slots = w.slots; ready = w.ready; finalize = x; finalizing = w.finalizing; outcome = w.outcome; used = w.used; seq = w.seq; fuel = w.fuel }

abbrev pub with_finalizing : Bool → World → World
with_finalizing x w = record { setup = w.setup; stack = w.stack; frames = w.frames; chain = w.chain; slots = w.slots; ready = w.ready; finalize = w.finalize; finalizing = x; outcome = w.outcome; used = w.used; seq = w.seq; fuel = w.fuel }

abbrev pub with_outcome : Option Stop → World → World
with_outcome x w = record { setup = w.setup; stack = w.stack; frames = w.frames; chain = w.chain; slots = w.slots; ready = w.ready; finalize = w.finalize; finalizing = w.finalizing; outcome = x; used = w.used; seq = w.seq; fuel = w.fuel }

abbrev pub with_used : ℕ → World → World
with_used x w = record { setup = w.setup; stack = w.stack; frames = w.frames; chain = w.chain; slots = w.slots; ready = w.ready; finalize = w.finalize; finalizing = w.finalizing; outcome = w.outcome; used = x; seq = w.seq; fuel = w.fuel }

abbrev pub with_seq : ℕ → World → World
with_seq x w = record { setup = w.setup; stack = w.stack; frames = w.frames; chain = w.chain; slots = w.slots; ready = w.ready; finalize = w.finalize; finalizing = w.finalizing; outcome = w.outcome; used = w.used; seq = x; fuel = w.fuel }

abbrev pub with_fuel : Fuel → World → World
with_fuel x w = record { setup = w.setup; stack = w.stack; frames = w.frames; chain = w.chain; slots = w.slots; ready = w.ready; finalize = w.finalize; finalizing = w.finalizing; outcome = w.outcome; used = w.used; seq = w.seq; fuel = x }

-- ---- a coroutine's rest

abbrev pub with_closing : Bool → Rest → Rest
with_closing x r = record { closing = x; finalized = r.finalized; task = r.task; seq = r.seq; row = r.row; maxregs = r.maxregs; maxframes = r.maxframes; payload = r.payload; key = r.key; largest = r.largest; result = r.result; signal = r.signal }

abbrev pub with_finalized : Bool → Rest → Rest
with_finalized x r = record { closing = r.closing; finalized = x; task = r.task; seq = r.seq; row = r.row; maxregs = r.maxregs; maxframes = r.maxframes; payload = r.payload; key = r.key; largest = r.largest; result = r.result; signal = r.signal }

abbrev pub with_task : Bool → Rest → Rest
with_task x r = record { closing = r.closing; finalized = r.finalized; task = x; seq = r.seq; row = r.row; maxregs = r.maxregs; maxframes = r.maxframes; payload = r.payload; key = r.key; largest = r.largest; result = r.result; signal = r.signal }

abbrev pub with_row : ℕ → Rest → Rest
with_row x r = record { closing = r.closing; finalized = r.finalized; task = r.task; seq = r.seq; row = x; maxregs = r.maxregs; maxframes = r.maxframes; payload = r.payload; key = r.key; largest = r.largest; result = r.result; signal = r.signal }

abbrev pub with_maxregs : ℕ → Rest → Rest
with_maxregs x r = record { closing = r.closing; finalized = r.finalized; task = r.task; seq = r.seq; row = r.row; maxregs = x; maxframes = r.maxframes; payload = r.payload; key = r.key; largest = r.largest; result = r.result; signal = r.signal }

abbrev pub with_maxframes : ℕ → Rest → Rest
with_maxframes x r = record { closing = r.closing; finalized = r.finalized; task = r.task; seq = r.seq; row = r.row; maxregs = r.maxregs; maxframes = x; payload = r.payload; key = r.key; largest = r.largest; result = r.result; signal = r.signal }

abbrev pub with_payload : ℕ → Rest → Rest
with_payload x r = record { closing = r.closing; finalized = r.finalized; task = r.task; seq = r.seq; row = r.row; maxregs = r.maxregs; maxframes = r.maxframes; payload = x; key = r.key; largest = r.largest; result = r.result; signal = r.signal }

abbrev pub with_key : ℕ → Rest → Rest
with_key x r = record { closing = r.closing; finalized = r.finalized; task = r.task; seq = r.seq; row = r.row; maxregs = r.maxregs; maxframes = r.maxframes; payload = r.payload; key = x; largest = r.largest; result = r.result; signal = r.signal }

abbrev pub with_largest : ℕ → Rest → Rest
with_largest x r = record { closing = r.closing; finalized = r.finalized; task = r.task; seq = r.seq; row = r.row; maxregs = r.maxregs; maxframes = r.maxframes; payload = r.payload; key = r.key; largest = x; result = r.result; signal = r.signal }

abbrev pub with_result : ℕ → Rest → Rest
with_result x r = record { closing = r.closing; finalized = r.finalized; task = r.task; seq = r.seq; row = r.row; maxregs = r.maxregs; maxframes = r.maxframes; payload = r.payload; key = r.key; largest = r.largest; result = x; signal = r.signal }

abbrev pub with_signal : ℕ → Rest → Rest
with_signal x r = record { closing = r.closing; finalized = r.finalized; task = r.task; seq = r.seq; row = r.row; maxregs = r.maxregs; maxframes = r.maxframes; payload = r.payload; key = r.key; largest = r.largest; result = r.result; signal = x }
