-- Runs that fix a rule of 01 at its edge: each would come out otherwise under one wrong definition (must-fail).
use Rattle.std.specs.Prelude.{ℕ, ◌≡◌, refl, true, false, List, [], ◌∷◌, ◌++◌, map, Some, None, Ok}
use Rattle.heap.specs.Table.{slot}
use Rattle.heap.specs.declared.fault.Fault.{Fault}
use Rattle.heap.specs.declared.object.CoroState.{CoroState}
use Rattle.heap.specs.declared.heap.ResultKind.{ResultKind}
use Rattle.model.specs.Object.{Object}
use Rattle.model.specs.World.{World, with_stack, with_frames, with_slots, with_ready}
use Rattle.model.specs.Heap.{object}
use Rattle.model.specs.Coro.{coro_state}
use Rattle.model.specs.Sound.{sound}
use Rattle.model.specs.Compute.{computed}
use Rattle.model.specs.Example.{c, d, holding, reached, number, look}
use Rattle.model.specs.Runs.{caller, body, begun, handed}
use Rattle.model.specs.declared.machine.Cont.{Cont}
use Rattle.model.specs.declared.machine.Frame.{Frame}
use Rattle.model.specs.declared.call.Op.{Op}

-- ---- calls

-- a run of the function that catches at a pc below 100
abbrev pub catches : List Op
catches = Op.Grant 9 ∷ Op.HostCall 5 ∷ []

-- the host's coroutine has yielded
abbrev pub hosted : List Op
hosted = holding 1 1 ++ (Op.StopRun ∷ Op.HostEntry c 0 ∷ Op.Yield 8 0 0 ∷ [])

-- it waits at an Await
abbrev pub waiting : List Op
waiting = begun ++ (Op.Await 8 1 0 ∷ [])

abbrev pub failed : List Op
failed = holding 1 1 ++ (Op.ResumeThrow 2 1 0 1 ∷ [])

-- a coroutine with a closure calls, and yields there; it is resumed from one frame and one word higher
abbrev pub restored : List Op
restored =
    Op.Grant 1000 ∷ Op.HostCall 1 ∷ Op.PutWord 0 0x1_0000_0000_0001 ∷ Op.CoroNewIndirect 1 0 0 0 ∷ Op.Resume 2 1 0 1 ∷ Op.FunctionCall 5 1 (Cont.Write 1) ∷ Op.Yield 8 0 0
    ∷ Op.FunctionCall 6 0 Cont.Discard ∷ Op.PutWord 0 c ∷ Op.Resume 3 0 0 0 ∷ []

-- two are suspended, and are handed over; the next instruction starts a cleanup
abbrev pub queued : List Op
queued =
    Op.Grant 1000 ∷ Op.HostCall 2 ∷ Op.CoroNew 1 0 1 0 ∷ Op.CoroNew 2 1 1 0 ∷ Op.Resume 3 2 0 3 ∷ Op.Yield 8 0 0 ∷ Op.Resume 4 2 1 3 ∷ Op.Yield 8 0 0
    ∷ Op.HandOver c ∷ Op.HandOver d ∷ Op.CoroCurrent 5 2 ∷ []

-- ---- what they do

-- "start ≤ pc < end"
pub inside : number catches (Op.Unwind (Fault.Throw 9) (Some 99)) ≡ 0
unfolding computed
inside = refl

pub at-end : number catches (Op.Unwind (Fault.Throw 9) (Some 100)) ≡ 17
unfolding computed
at-end = refl

-- CoroResult wants a Returned one
pub failed-result : number failed (Op.CoroResult 3 1 0) ≡ 3
unfolding computed
failed-result = refl

-- "adds to the bank if there is one"
pub banked : (reached (handed ++ (Op.Grant 5 ∷ []))).fuel ≡ record { fuel = 0; bank = Some 1002; ready = true }
unfolding computed
banked = refl

-- "Take outcome: reads and clears it"; stop run clears it too
pub taken : (reached (hosted ++ (Op.TakeOutcome ∷ []))).outcome ≡ None
unfolding computed
taken = refl

pub stopped : (reached (hosted ++ (Op.StopRun ∷ []))).outcome ≡ None
unfolding computed
stopped = refl

-- an error object has function and pc of the top frame, once the given pc is stored
pub error : object (reached (holding 1 1 ++ (Op.Unwind Fault.TypeError (Some 7) ∷ []))) d ≡ Object.Error 2 1 7 0
unfolding computed
error = refl

-- no result leaves it as it was
pub nothing_written : look (holding 1 1 ++ (Op.PutWord 1 5 ∷ Op.FunctionCall 4 0 (Cont.Write 1) ∷ Op.Finish ResultKind.None 0 ∷ [])) ≡ c ∷ 5 ∷ []
unfolding computed
nothing_written = refl

-- pc is not stored by ResumeThrow's 1, nor by iter_next's 2 on an Awaiting source
pub throws-at-nil : (reached (holding 1 1 ++ (Op.ResumeThrow 9 1 1 1 ∷ []))).frames ≡ caller 0 ∷ []
unfolding computed
throws-at-nil = refl

pub source-awaits : (reached (waiting ++ (Op.IterNext 9 1 1 1 0 ∷ []))).frames ≡ caller 3 ∷ []
unfolding computed
source-awaits = refl

-- a word that equals the signal of one that is not closing is no signal
pub no-signal : coro_state (reached (begun ++ (Op.Unwind (Fault.Throw 0) None ∷ []))) c ≡ Ok CoroState.Failed
unfolding computed
no-signal = refl

-- what was held is put back: function, pc one on, one distance for both frames, closure, continuation
pub restored-functions : map (λ f. f.func) (reached restored).frames ≡ 1 ∷ 1 ∷ 0 ∷ 1 ∷ []
unfolding computed
restored-functions = refl

pub restored-pcs : map (λ f. f.pc) (reached restored).frames ≡ 9 ∷ 5 ∷ 3 ∷ 6 ∷ []
unfolding computed
restored-pcs = refl

pub restored-bases : map (λ f. f.base) (reached restored).frames ≡ 5 ∷ 3 ∷ 2 ∷ 0 ∷ []
unfolding computed
restored-bases = refl

pub restored-closures : map (λ f. f.closure) (reached restored).frames ≡ 0 ∷ 0x1_0000_0000_0001 ∷ 0 ∷ 0 ∷ []
unfolding computed
restored-closures = refl

pub restored-continuations : map (λ f. f.cont) (reached restored).frames ≡ Cont.Write 1 ∷ Cont.Coro ∷ Cont.Discard ∷ Cont.Entry ∷ []
unfolding computed
restored-continuations = refl

pub restored-words : (reached restored).stack ≡ c ∷ 0 ∷ c ∷ 0 ∷ 0 ∷ c ∷ 0 ∷ []
unfolding computed
restored-words = refl

-- .. and returns: Returned, the words below as they were, the result in its register
pub returned-words : (reached (restored ++ (Op.Finish ResultKind.None 0 ∷ Op.Finish ResultKind.Dyn 7 ∷ []))).stack ≡ c ∷ 0 ∷ 7 ∷ []
unfolding computed
returned-words = refl

pub returned : coro_state (reached (restored ++ (Op.Finish ResultKind.None 0 ∷ Op.Finish ResultKind.Dyn 7 ∷ []))) c ≡ Ok CoroState.Returned
unfolding computed
returned = refl

-- the host enters it again: it stands where it was suspended, at the bottom
pub restored-below : (reached (hosted ++ (Op.HostEntry c 0 ∷ []))).frames ≡ body 9 0 ∷ []
unfolding computed
restored-below = refl

-- a cleanup starts while two wait
pub cleaned : (reached queued).finalize ≡ d ∷ []
unfolding computed
cleaned = refl

-- ---- 01: "Sound", each rule broken alone

abbrev pub held : World
held = reached (holding 1 1)

abbrev pub above : Cont → World
above cont = with_frames (record { func = 1; pc = 0; base = 2; closure = 0; cont = cont } ∷ held.frames) (with_stack (held.stack ++ (0 ∷ 0 ∷ [])) held)

abbrev pub more : ℕ → Object → World
more tag o = with_slots (held.slots ++ (slot tag o ∷ [])) held

pub record Rules : Type 0 where
  pub discards : sound (above Cont.Discard) ≡ true
  -- "Entry only at the bottom"
  pub entry : sound (above Cont.Entry) ≡ false
  -- "the ready queue only tasks"
  pub no-task : sound (with_ready (c ∷ []) held) ≡ false
  -- an empty slot is all 0
  pub empty : sound (more 0 Object.Empty) ≡ true
  pub tagged : sound (more 3 Object.Empty) ≡ false
  -- an error's number is 1 to 8
  pub eight : sound (more 0 (Object.Error 8 1 0 0)) ≡ true
  pub nine : sound (more 0 (Object.Error 9 1 0 0)) ≡ false

pub rules : Rules
unfolding computed
rules = record { discards = refl; entry = refl; no-task = refl; empty = refl; tagged = refl; eight = refl; nine = refl }
