-- What a coroutine gives its driver where it yields, awaits or returns, and what is left of stack and frames.
use Rattle.std.specs.Prelude.{ℕ, ◌≡◌, List, [], ◌∷◌}
use Rattle.std.proofs.Math.Option.{Option, none, some}
use Rattle.lists.specs.Pick.{pick}
use Rattle.heap.specs.declared.heap.ResultKind.{ResultKind}
use Rattle.model.specs.declared.machine.Driver.{Driver}
use Rattle.model.specs.declared.machine.Frame.{Frame}
use Rattle.model.specs.declared.call.Op.{Op}
use Rattle.claims_model.specs.Engine.{Seen, View, seen_in}
use Rattle.claims_model.specs.Says.{Aim, enter, suspend, neither, Announced, instr, hosts, finishes, raises, other, announced_by}
use Rattle.claims_model.specs.Held.{at, pc_after, into, By}

pub data Event : Type 0 where
  YieldOf : ℕ → Event
  AwaitOf : ℕ → Event
  -- a yield while closing
  Ignores : Event
  ReturnOf : ℕ → Event

-- what is seen as the coroutine's result after the call; nil, which is 0, where it is gone
abbrev pub recorded : Option Seen → ℕ
recorded none = 0
recorded (some x) = x.result

-- the word that is returned. Which word stands for an integer is the call's choice, seen in what is recorded; that it stands for this integer,
-- Events.integer says
abbrev pub result_of : ResultKind → ℕ → ℕ → ℕ
result_of ResultKind.None x r = 0
result_of ResultKind.Dyn x r = x
result_of ResultKind.I64 x r = r
result_of ResultKind.U64 x r = r

-- what c gives in a call at v that leaves z; a close that its own signal ends gives nil. Only a suspension, a finish or an unwind gives
-- (Events.suspends, Events.returns): the other cases do not occur
abbrev pub event_given : View → Announced → ℕ → View → Event
event_given v (instr pc ok (enter u d x may)) c z = ReturnOf 0
event_given v (instr pc ok (suspend await dst x)) c z = pick await (AwaitOf x) (pick (seen_in (λ k. k.closing) (v.coro c)) Ignores (YieldOf x))
event_given v (instr pc ok neither) c z = ReturnOf 0
event_given v (hosts u x) c z = ReturnOf 0
event_given v (finishes kind x) c z = ReturnOf (result_of kind x (recorded (z.coro c)))
event_given v (raises f pc) c z = ReturnOf 0
event_given v other c z = ReturnOf 0

pub record StackFrames : Type 0 where
  pub stack : List ℕ
  pub frames : List Frame

abbrev pub stack_frames : List ℕ → List Frame → StackFrames
stack_frames stack frames = record { stack = stack; frames = frames }

-- a word into a register of the top frame
abbrev pub put : ℕ → ℕ → StackFrames → StackFrames
put r x m = stack_frames (into m.frames r x m.stack) m.frames

-- a step of the top frame's pc
abbrev pub onward : List Frame → List Frame
onward [] = []
onward (f ∷ fs) = at (pc_after f.pc) (f ∷ fs)

abbrev pub step_top : StackFrames → StackFrames
step_top m = stack_frames m.stack (onward m.frames)

-- 01: "what `deliver` writes to registers the entering call named and to the calling frame's pc"
abbrev pub delivered_to : Driver → Event → StackFrames → StackFrames
delivered_to (Driver.Resume r) (YieldOf x) m = step_top (put r x m)
delivered_to (Driver.Resume r) (AwaitOf x) m = step_top (put r x m)
delivered_to (Driver.Resume r) Ignores m = m
delivered_to (Driver.Resume r) (ReturnOf x) m = step_top (put r x m)
delivered_to (Driver.Iter has val iter) (YieldOf x) m = step_top (put has 1 (put val x m))
delivered_to (Driver.Iter has val iter) (AwaitOf x) m = m
delivered_to (Driver.Iter has val iter) Ignores m = m
delivered_to (Driver.Iter has val iter) (ReturnOf x) m = step_top (put has 0 m)
delivered_to Driver.Host e m = m
delivered_to Driver.Finalize e m = m

-- 01: "the stack and frames below are meant before any unwinding that follows".
-- y at w entered c; k at v lets it yield, await or return, and leaves z: the whole stack, all frames and the chain
pub record LeftBelow (w : View) (y : Option Op) (c : ℕ) (v : View) (k : Option Op) (z : View) : Type 0 where
  pub by : By w y c
  pub under : stack_frames z.stack z.frames ≡ delivered_to by.driver (event_given v (announced_by v k) c z) (stack_frames w.stack (at by.pc w.frames))
  pub chain : z.chain ≡ w.chain
