-- Outer calls on lent words as an engine, and what is seen of the caller's slices: the stack as far as the height, the frames, chain,
-- coroutines and queues as what they decode to.
use Rattle.std.proofs.Math.Option.{Option, none, some}
use Rattle.model.specs.Answer.{number_of}
use Rattle.model.specs.declared.call.Op.{Op}
use Rattle.memory_world.specs.Decode.{setup_of}
use Rattle.claims_model.specs.Engine.{Rules, Engine}
use Rattle.claims_model.specs.Steps.{rules_of, view_of}
use Rattle.memory_step.specs.Step.{MemoryState, decoded, looked, MemoryCall, SetUp, Do, memory_step}
use Rattle.claims_memory.specs.Fuel.{fuelled}

abbrev pub memory_op : MemoryCall → Option Op
memory_op (SetUp given) = none
memory_op (Do o) = some o.op

abbrev pub memory_asks : MemoryCall → Option Rules
memory_asks (SetUp given) = some (rules_of (setup_of given))
memory_asks (Do o) = none

abbrev pub memory_engine : Engine
memory_engine = record { State = MemoryState; Call = MemoryCall; op = memory_op; asks = memory_asks; view = λ s. view_of (decoded s); next = λ s k. (memory_step s k).state; refuel = fuelled; number = λ s k. number_of (memory_step s k).answer; look = looked }
