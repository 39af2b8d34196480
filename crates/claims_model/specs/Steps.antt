-- `step` as an engine: the machine that the definitions describe, and what is seen of it.
use Rattle.std.specs.Prelude.{ℕ, ◌≡◌, refl, true, List, length}
use Rattle.std.proofs.Math.Option.{Option, none, some}
use Rattle.heap.specs.Table.{next_word}
use Rattle.heap.specs.declared.object.CoroState.{CoroState}
use Rattle.model.specs.Program.{Setup, func}
use Rattle.model.specs.Object.{Coroutine, Absent, Is, is_done}
use Rattle.model.specs.World.{World, with_fuel}
use Rattle.model.specs.Heap.{object, coro, slots_full, dyn_int}
use Rattle.model.specs.Answer.{number_of}
use Rattle.model.specs.Call.{Call, SetUp, Do, typed, as_call}
use Rattle.model.specs.Step.{step}
use Rattle.model.specs.declared.call.Op.{Op}
use Rattle.claims_model.specs.Engine.{Seen, Rules, View, Engine}

-- the register that waits, of one that can be entered
abbrev pub waits_of : CoroState → ℕ → ℕ
waits_of CoroState.Created r = r
waits_of CoroState.Running r = 0
waits_of CoroState.Yielded r = r
waits_of CoroState.Awaiting r = r
waits_of CoroState.Returned r = 0
waits_of CoroState.Failed r = 0

abbrev pub seen_of : Coroutine → Option Seen
seen_of Absent = none
seen_of (Is k r) = some (record { state = k.state; words = k.regs; frames = k.frames; waits = waits_of k.state k.waiting; most_words = r.maxregs; most_frames = r.maxframes; closing = r.closing; signal = r.signal; result = r.result })

abbrev pub rules_of : Setup → Rules
rules_of s =
    record {
      depth = s.limits.depth;
      height = s.limits.stack;
      functions = length s.functions;
      registers = λ f. (func s f).regs;
      handlers = λ f. (func s f).handlers;
      memory = s.limits.memory;
      frame_cost = s.costs.frame;
      int_cost = s.costs.int;
      error_cost = s.costs.error;
    }

abbrev pub view_of : World → View
view_of w =
    record {
      stack = w.stack;
      frames = w.frames;
      chain = w.chain;
      coro = λ c. seen_of (coro w c);
      done = λ x. is_done (object w x);
      queue = w.finalize;
      fuel = w.fuel;
      rules = rules_of w.setup;
      fresh = next_word w.slots;
      full = slots_full w;
      integer = dyn_int w;
      used = w.used;
    }

abbrev pub model_op : Call → Option Op
model_op (SetUp s) = none
model_op (Do o) = some o.op

abbrev pub model_asks : Call → Option Rules
model_asks (SetUp s) = some (rules_of s)
model_asks (Do o) = none

pub look-typed : typed Op.Look ≡ true
unfolding typed
look-typed = refl

abbrev pub looks : World → List ℕ
looks w = (step w (as_call Op.Look look-typed)).seen

abbrev pub steps : Engine
steps = record { State = World; Call = Call; op = model_op; asks = model_asks; view = view_of; next = λ w k. (step w k).world; refuel = λ w f. with_fuel f w; number = λ w k. number_of (step w k).answer; look = looks }
