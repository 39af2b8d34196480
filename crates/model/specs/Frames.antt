-- machine.rs: Frame. Moves of the stack and of the frames.
use Rattle.std.specs.Prelude.{ℕ, suc, ◌+◌, ◌-◌, ◌%◌, ◌^◌, Bool, true, false, List, [], ◌∷◌, length, get_or, take, drop, set}
use Rattle.heap.specs.Word.{nil}
use Rattle.model.specs.World.{World, with_stack, with_frames}
use Rattle.model.specs.declared.machine.Cont.{Cont}
use Rattle.model.specs.declared.machine.Frame.{Frame}

abbrev pub is_entry : Cont → Bool
is_entry Cont.Entry = true
is_entry (Cont.Write r) = false
is_entry (Cont.Dyn r) = false
is_entry (Cont.Value r) = false
is_entry Cont.Discard = false
is_entry Cont.Coro = false

abbrev pub is_coro : Cont → Bool
is_coro Cont.Entry = false
is_coro (Cont.Write r) = false
is_coro (Cont.Dyn r) = false
is_coro (Cont.Value r) = false
is_coro Cont.Discard = false
is_coro Cont.Coro = true

-- ---- one frame

-- a frame where a function begins
abbrev pub frame : ℕ → ℕ → ℕ → Cont → Frame
frame func base closure cont = record { func = func; pc = 0; base = base; closure = closure; cont = cont }

abbrev pub set_pc : ℕ → Frame → Frame
set_pc p f = record { func = f.func; pc = p; base = f.base; closure = f.closure; cont = f.cont }

-- 01: "its pc steps by 1, wrapping at 2^32"
abbrev pub step_pc : Frame → Frame
step_pc f = set_pc ((f.pc + 1) % 2 ^ 32) f

abbrev pub set_base : ℕ → Frame → Frame
set_base b f = record { func = f.func; pc = f.pc; base = b; closure = f.closure; cont = f.cont }

-- its base h words higher, or lower
abbrev pub raise : ℕ → Frame → Frame
raise h f = set_base (f.base + h) f

abbrev pub lower : ℕ → Frame → Frame
lower h f = set_base (f.base - h) f

-- ---- frames, top first

abbrev pub on_top : (Frame → Frame) → List Frame → List Frame
on_top g [] = []
on_top g (f ∷ fs) = g f ∷ fs

abbrev pub top_base : List Frame → ℕ
top_base [] = 0
top_base (f ∷ fs) = f.base

abbrev pub top_func : List Frame → ℕ
top_func [] = 0
top_func (f ∷ fs) = f.func

abbrev pub top_pc : List Frame → ℕ
top_pc [] = 0
top_pc (f ∷ fs) = f.pc

-- the frames from index floor up, and those below it
abbrev pub above : ℕ → List Frame → List Frame
above floor fs = take (length fs - floor) fs

abbrev pub below : ℕ → List Frame → List Frame
below floor fs = drop (length fs - floor) fs

-- the base of the frame at index floor
abbrev pub base_at : ℕ → List Frame → ℕ
base_at floor fs = (get_or fs (length fs - suc floor) (frame 0 0 nil Cont.Discard)).base

-- v in register r of the top frame
abbrev pub put_at : List Frame → ℕ → ℕ → List ℕ → List ℕ
put_at [] r v xs = xs
put_at (f ∷ fs) r v xs = set xs (f.base + r) v

-- ---- the world

-- the word in a register of the top frame
abbrev pub reg : World → ℕ → ℕ
reg w r = get_or w.stack (top_base w.frames + r) 0

abbrev pub put_reg : ℕ → ℕ → World → World
put_reg r v w = with_stack (put_at w.frames r v w.stack) w

abbrev pub store_pc : ℕ → World → World
store_pc pc w = with_frames (on_top (set_pc pc) w.frames) w

abbrev pub next_pc : World → World
next_pc w = with_frames (on_top step_pc w.frames) w

-- the top frame f goes, with its words
abbrev pub pop_to : Frame → List Frame → World → World
pop_to f fs w = with_frames fs (with_stack (take f.base w.stack) w)
