-- machine.rs: push_frame, finish, apply_cont, unwind.
use Rattle.std.specs.Prelude.{ℕ, ◌+◌, Bool, ◌||◌, List, [], ◌∷◌, ◌++◌, length, replicate, eqb, ltb, leb, Option, Result, Some, None, Ok, Err}
use Rattle.lists.specs.Pick.{pick}
use Rattle.heap.specs.Word.{nil}
use Rattle.heap.specs.Fault.{number_of, word_of}
use Rattle.heap.specs.declared.fault.Fault.{Fault}
use Rattle.model.specs.Program.{func, first_of, between}
use Rattle.model.specs.Object.{Object}
use Rattle.model.specs.World.{World, After, after, and_then, with_stack, with_frames}
use Rattle.model.specs.Frames.{frame, top_func, top_pc, put_reg, store_pc, next_pc, pop_to}
use Rattle.model.specs.Heap.{refuse, alloc, to_dyn}
use Rattle.model.specs.Coro.{coro_returned, coro_escaped}
use Rattle.model.specs.Cleanup.{charge}
use Rattle.model.specs.declared.program.Handler.{Handler}
use Rattle.model.specs.declared.machine.Cont.{Cont}
use Rattle.model.specs.declared.machine.Frame.{Frame}
use Rattle.model.specs.declared.machine.Charge.{Charge}
use Rattle.heap.specs.declared.heap.ResultKind.{ResultKind}
use Rattle.model.specs.declared.call.Answer.{Answer}

-- machine.rs: push_frame; the answer is the new frame's base
unfoldable pub push_frame : ℕ → ℕ → Cont → World → After (Result ℕ Fault)
push_frame f closure cont w =
    let n = (func w.setup f).regs in
    let base = length w.stack in
    pick (leb w.setup.limits.depth (length w.frames) || ltb w.setup.limits.stack (base + n)) (refuse w Fault.StackOverflow)
    (after (with_frames (frame f base closure cont ∷ w.frames) (with_stack (w.stack ++ replicate n 0) w)) (Ok base))

-- ---- finish

-- Option<u64>: the word, unless the kind is none
abbrev pub result_of : ResultKind → ℕ → Option ℕ
result_of ResultKind.None v = None
result_of ResultKind.Dyn v = Some v
result_of ResultKind.I64 v = Some v
result_of ResultKind.U64 v = Some v

abbrev pub or_nil : Option ℕ → ℕ
or_nil None = nil
or_nil (Some v) = v

abbrev pub write_result : ℕ → Option ℕ → World → World
write_result dst None w = w
write_result dst (Some v) w = put_reg dst v w

abbrev pub write_made : ℕ → World → Result ℕ Fault → After (Result Unit Fault)
write_made dst w (Ok v) = after (put_reg dst v w) (Ok tt)
write_made dst w (Err f) = after w (Err f)

-- machine.rs: apply_cont, a result into the top frame
unfoldable pub apply_cont : Cont → ResultKind → ℕ → World → After (Result Unit Fault)
apply_cont Cont.Entry kind v w = after w (Ok tt)
apply_cont (Cont.Write dst) kind v w = after (write_result dst (result_of kind v) w) (Ok tt)
apply_cont (Cont.Dyn dst) kind v w = and_then (to_dyn kind v w) (write_made dst)
apply_cont (Cont.Value dst) kind v w = after (put_reg dst (or_nil (result_of kind v)) w) (Ok tt)
apply_cont Cont.Discard kind v w = after w (Ok tt)
apply_cont Cont.Coro kind v w = after w (Ok tt)

abbrev pub resume_in : World → Result Unit Fault → After Answer
resume_in w (Ok u) = after (next_pc w) Answer.Resume
resume_in w (Err f) = after w (Answer.Refused f)

-- machine.rs: finish_coro, of the body frame f over fs; a result that does not convert leaves the frame
abbrev pub return_made : Frame → List Frame → World → Result ℕ Fault → After Answer
return_made f fs w (Ok v) = after (coro_returned v (pop_to f fs w)) Answer.Resume
return_made f fs w (Err e) = after w (Answer.Refused e)

abbrev pub finish_coro : Frame → List Frame → ResultKind → ℕ → World → After Answer
finish_coro f fs kind v w = and_then (to_dyn kind v w) (return_made f fs)

abbrev pub finish_as : Cont → Frame → List Frame → ResultKind → ℕ → World → After Answer
finish_as Cont.Entry f fs kind v w = after (pop_to f fs w) (Answer.Exit (result_of kind v))
finish_as (Cont.Write dst) f fs kind v w = and_then (apply_cont (Cont.Write dst) kind v (pop_to f fs w)) resume_in
finish_as (Cont.Dyn dst) f fs kind v w = and_then (apply_cont (Cont.Dyn dst) kind v (pop_to f fs w)) resume_in
finish_as (Cont.Value dst) f fs kind v w = and_then (apply_cont (Cont.Value dst) kind v (pop_to f fs w)) resume_in
finish_as Cont.Discard f fs kind v w = and_then (apply_cont Cont.Discard kind v (pop_to f fs w)) resume_in
finish_as Cont.Coro f fs kind v w = finish_coro f fs kind v w

-- 01: "`finish` answers exit, with its word or none, or resume."
abbrev pub finish_on : List Frame → ResultKind → ℕ → World → After Answer
finish_on [] kind v w = after w (Answer.Exit (result_of kind v))
finish_on (f ∷ fs) kind v w = finish_as f.cont f fs kind v w

-- machine.rs: finish, of the top frame
unfoldable pub finish : ResultKind → ℕ → World → After Answer
finish kind v w = finish_on w.frames kind v w

-- ---- unwind

abbrev pub caught : Handler → ℕ → World → Charge → After Answer
caught h value w (Charge.Done n) = after (put_reg h.catch value (store_pc h.target w)) Answer.Caught
caught h value w Charge.Spent = after w (Answer.Refused Fault.OutOfFuel)
caught h value w (Charge.Close n) = after (put_reg h.catch value (store_pc h.target w)) Answer.Caught

-- 01: "if nobody catches, it answers 17 with the error object or thrown word"
abbrev pub uncaught : ℕ → World → After Answer
uncaught value w = after w (Answer.Refused (Fault.Throw value))

abbrev pub stop_or : (World → After Answer) → World → Bool → After Answer
stop_or next w stops = pick stops (after w Answer.Stopped) (next w)

-- the word `value`, raised at `pc` of function `f`, leaves a frame that is gone already
abbrev pub escape : Cont → ℕ → ℕ → ℕ → (World → After Answer) → World → After Answer
escape Cont.Entry value f pc next w = uncaught value w
escape (Cont.Write r) value f pc next w = next w
escape (Cont.Dyn r) value f pc next w = next w
escape (Cont.Value r) value f pc next w = next w
escape Cont.Discard value f pc next w = next w
escape Cont.Coro value f pc next w = and_then (coro_escaped value f pc w) (stop_or next)

-- 01: "taking one costs one unit"
abbrev pub take_handler : Handler → ℕ → World → After Answer
take_handler h value w = and_then (charge None w) (caught h value)

abbrev pub search_as : Option Handler → Frame → List Frame → ℕ → ℕ → ℕ → (World → After Answer) → World → After Answer
search_as None x xs value f pc next w = escape x.cont value f pc next (pop_to x xs w)
search_as (Some h) x xs value f pc next w = take_handler h value w

-- program.rs: the first handler of a frame's function that covers its pc
abbrev pub handler_of : Frame → World → Option Handler
handler_of x w = first_of x.pc (func w.setup x.func).handlers

-- machine.rs: unwind's loop, from the top frame down
abbrev pub search : List Frame → ℕ → ℕ → ℕ → World → After Answer
search [] value f pc w = uncaught value w
search (x ∷ xs) value f pc w = search_as (handler_of x w) x xs value f pc (search xs value f pc) w

abbrev pub search_frames : ℕ → World → After Answer
search_frames value w = search w.frames value (top_func w.frames) (top_pc w.frames) w

abbrev pub search_made : World → Result ℕ Fault → After Answer
search_made w (Ok v) = search_frames v w
search_made w (Err f) = after w (Answer.Refused f)

abbrev pub error_of : Fault → World → Object
error_of f w = Object.Error (number_of f) (top_func w.frames) (top_pc w.frames) nil

-- 1 to 8 are raised as an error object (which costs E), 17 as its word. 01: "Faults 9 and 10 pass through it unchanged." `next` is told
-- which
abbrev pub raised_to : {A : Type 0} → (World → Result ℕ Fault → After A) → Fault → World → After A
raised_to next f w =
    pick (eqb (number_of f) 17) (next w (Ok (word_of f)))
    (pick (leb (number_of f) 8) (and_then (alloc w.setup.costs.error (error_of f w) w) next)
    (next w (Err f)))

abbrev pub unwind_fault : Fault → World → After Answer
unwind_fault f w = raised_to search_made f w

abbrev pub store_some : Option ℕ → World → World
store_some None w = w
store_some (Some pc) w = store_pc pc w

-- 01: "`unwind` takes a fault 1 to 10, or 17 with its word (else 11)"
abbrev pub raisable : Fault → Bool
raisable f = between 1 10 (number_of f) || eqb (number_of f) 17

-- machine.rs: unwind. 01: "may be given a pc to store in the top frame first"
unfoldable pub unwind : Fault → Option ℕ → World → After Answer
unwind f pc w = pick (raisable f) (unwind_fault f (store_some pc w)) (after w (Answer.Refused Fault.Unsound))
