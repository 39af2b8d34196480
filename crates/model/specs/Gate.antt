-- 01: "Gate. Order: 11, 12, 13, then `exec::charge` (10), then the instruction's own tests as the Rust orders them." And the
-- added calls: "Each tests 11 first, then 12 or 15, then 13 or 16, then what its Rust function tests."
use Rattle.std.specs.Prelude.{ℕ, ◌+◌, Bool, not, List, length, eqb, ltb, leb, Some}
use Rattle.lists.specs.Pick.{pick}
use Rattle.heap.specs.Fault.{number_of}
use Rattle.heap.specs.declared.fault.Fault.{Fault}
use Rattle.model.specs.Lists.{is_nil, each}
use Rattle.model.specs.World.{World, After, after, and_then}
use Rattle.model.specs.Frames.{top_base}
use Rattle.model.specs.Cleanup.{charge}
use Rattle.model.specs.declared.machine.Charge.{Charge}
use Rattle.model.specs.declared.exec.Step.{Step}
use Rattle.model.specs.declared.call.Answer.{Answer}

abbrev pub refused : World → Fault → After Answer
refused w f = after w (Answer.Refused f)

-- "Every register operand must lie between the top frame's base and the stack's end"
abbrev pub in_frame : World → ℕ → Bool
in_frame w r = ltb (top_base w.frames + r) (length w.stack)

abbrev pub all_in : List ℕ → World → Bool
all_in rs w = each (in_frame w) rs

-- "for CoroNew, CoroNewIndirect and Spawn the argument window too. The last register passes."
abbrev pub window_in : World → ℕ → ℕ → Bool
window_in w dst argc = leb (top_base w.frames + dst + 1 + argc) (length w.stack)

-- n queue words were taken off; once its charge is done, only Spawn can answer 10, at its hook
abbrev pub answer_of : ℕ → Step → Answer
answer_of n Step.Next = Answer.Stepped Step.Next n
answer_of n Step.Frame = Answer.Stepped Step.Frame n
answer_of n (Step.Fault f) = pick (eqb (number_of f) 10) (Answer.Unpaid n) (Answer.Stepped (Step.Fault f) n)
answer_of n (Step.Unwind f) = Answer.Stepped (Step.Unwind f) n

abbrev pub stepped : ℕ → World → Step → After Answer
stepped n w s = after w (answer_of n s)

abbrev pub charged : (World → After Step) → World → Charge → After Answer
charged arm w (Charge.Done n) = and_then (arm w) (stepped n)
charged arm w Charge.Spent = after w (Answer.Stepped (Step.Fault Fault.OutOfFuel) 0)
charged arm w (Charge.Close n) = after w (Answer.Cleanup n)

-- an instruction at pc, whose operands pass or not, and which then does `arm`
unfoldable pub instruction : ℕ → Bool → (World → After Step) → World → After Answer
instruction pc operands arm w =
    pick (is_nil w.frames) (refused w Fault.NoFrame)
    (pick (not operands) (refused w Fault.BadOperand)
    (and_then (charge (Some pc) w) (charged arm)))

-- put word or function call, whose operands pass or not, and which then does `body`
unfoldable pub on_frame : Bool → (World → After Answer) → World → After Answer
on_frame operands body w =
    pick (is_nil w.frames) (refused w Fault.NoFrame)
    (pick (not operands) (refused w Fault.BadOperand)
    (body w))

-- host call or host entry. 01, fault 15: "host call or entry while a frame stands"
unfoldable pub on_host : Bool → (World → After Answer) → World → After Answer
on_host operands body w =
    pick (not (is_nil w.frames)) (refused w Fault.Busy)
    (pick (not operands) (refused w Fault.BadOperand)
    (body w))
