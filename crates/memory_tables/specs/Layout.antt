-- Records in lent words. A frame and an active coroutine have six words each, a handler four, a function 35.
use Rattle.std.specs.Prelude.{ℕ, zero, suc, ◌+◌, ◌*◌, List, [], ◌∷◌, ◌++◌, length, replicate, ◌==◌, slice_index}
use Rattle.lists.specs.Pick.{pick}
use Rattle.lists.specs.Chunks.{chunk_at}
use Rattle.model.specs.Program.{Func}
use Rattle.model.specs.declared.machine.Cont.{Cont}
use Rattle.model.specs.declared.machine.Driver.{Driver}
use Rattle.model.specs.declared.machine.Frame.{Frame}
use Rattle.model.specs.declared.machine.Active.{Active}
use Rattle.model.specs.declared.program.Handler.{Handler}
use Rattle.model.specs.declared.program.Function.{Function}

-- ---- a frame: func, pc, base, closure, continuation code, its register

abbrev pub cont_code : Cont → ℕ
cont_code Cont.Entry = 0
cont_code (Cont.Write r) = 1
cont_code (Cont.Dyn r) = 2
cont_code (Cont.Value r) = 3
cont_code Cont.Discard = 4
cont_code Cont.Coro = 5

abbrev pub cont_reg : Cont → ℕ
cont_reg Cont.Entry = 0
cont_reg (Cont.Write r) = r
cont_reg (Cont.Dyn r) = r
cont_reg (Cont.Value r) = r
cont_reg Cont.Discard = 0
cont_reg Cont.Coro = 0

abbrev pub cont_of : ℕ → ℕ → Cont
cont_of n r =
    pick (n == 0) Cont.Entry
    (pick (n == 1) (Cont.Write r)
    (pick (n == 2) (Cont.Dyn r)
    (pick (n == 3) (Cont.Value r)
    (pick (n == 4) Cont.Discard
    Cont.Coro))))

abbrev pub frame_words : Frame → List ℕ
frame_words f = f.func ∷ f.pc ∷ f.base ∷ f.closure ∷ cont_code f.cont ∷ cont_reg f.cont ∷ []

abbrev pub frame_of : List ℕ → Frame
frame_of ws =
    record {
      func = slice_index ws 0;
      pc = slice_index ws 1;
      base = slice_index ws 2;
      closure = slice_index ws 3;
      cont = cont_of (slice_index ws 4) (slice_index ws 5);
    }

-- the frame at place i of the words
abbrev pub frame_in : List ℕ → ℕ → Frame
frame_in ws i = frame_of (chunk_at 6 ws i)

-- its function, pc, base and continuation, word by word
abbrev pub func_in : List ℕ → ℕ → ℕ
func_in ws i = slice_index ws (i * 6)

abbrev pub pc_in : List ℕ → ℕ → ℕ
pc_in ws i = slice_index ws (i * 6 + 1)

abbrev pub base_in : List ℕ → ℕ → ℕ
base_in ws i = slice_index ws (i * 6 + 2)

abbrev pub cont_in : List ℕ → ℕ → Cont
cont_in ws i = cont_of (slice_index ws (i * 6 + 4)) (slice_index ws (i * 6 + 5))

-- ---- an active coroutine: its word, floor, driver code, three numbers

abbrev pub driver_code : Driver → ℕ
driver_code (Driver.Resume r) = 0
driver_code (Driver.Iter has val iter) = 1
driver_code Driver.Host = 2
driver_code Driver.Finalize = 3

abbrev pub driver_first : Driver → ℕ
driver_first (Driver.Resume r) = r
driver_first (Driver.Iter has val iter) = has
driver_first Driver.Host = 0
driver_first Driver.Finalize = 0

abbrev pub driver_second : Driver → ℕ
driver_second (Driver.Resume r) = 0
driver_second (Driver.Iter has val iter) = val
driver_second Driver.Host = 0
driver_second Driver.Finalize = 0

abbrev pub driver_third : Driver → ℕ
driver_third (Driver.Resume r) = 0
driver_third (Driver.Iter has val iter) = iter
driver_third Driver.Host = 0
driver_third Driver.Finalize = 0

abbrev pub driver_of : ℕ → ℕ → ℕ → ℕ → Driver
driver_of n a b c =
    pick (n == 0) (Driver.Resume a)
    (pick (n == 1) (Driver.Iter a b c)
    (pick (n == 2) Driver.Host
    Driver.Finalize))

abbrev pub active_words : Active → List ℕ
active_words a = a.coro ∷ a.floor ∷ driver_code a.driver ∷ driver_first a.driver ∷ driver_second a.driver ∷ driver_third a.driver ∷ []

abbrev pub active_of : List ℕ → Active
active_of ws =
    record {
      coro = slice_index ws 0;
      floor = slice_index ws 1;
      driver = driver_of (slice_index ws 2) (slice_index ws 3) (slice_index ws 4) (slice_index ws 5);
    }

abbrev pub active_in : List ℕ → ℕ → Active
active_in ws i = active_of (chunk_at 6 ws i)

-- ---- a function: registers, parameters, number of handlers, eight handlers of start, end, target, catch

abbrev pub handler_words : Handler → List ℕ
handler_words h = h.start ∷ h.end ∷ h.target ∷ h.catch ∷ []

-- the handler in the four words from index at
abbrev pub handler_from : List ℕ → ℕ → Handler
handler_from ws at = record { start = slice_index ws at; end = slice_index ws (at + 1); target = slice_index ws (at + 2); catch = slice_index ws (at + 3) }

-- n handlers from index at on
abbrev pub handlers_from : ℕ → List ℕ → ℕ → List Handler
handlers_from zero ws at = []
handlers_from (suc n) ws at = handler_from ws at ∷ handlers_from n ws (at + 4)

-- the words of handlers with room for n
abbrev pub handlers_words : ℕ → List Handler → List ℕ
handlers_words zero hs = []
handlers_words (suc n) [] = replicate 4 0 ++ handlers_words n []
handlers_words (suc n) (h ∷ hs) = handler_words h ++ handlers_words n hs

abbrev pub function_words : Func → List ℕ
function_words f = f.regs ∷ f.params ∷ length f.handlers ∷ handlers_words 8 f.handlers

-- the function in the 35 words from index at
abbrev pub function_from : List ℕ → ℕ → Function
function_from ws at = record { regs = slice_index ws at; params = slice_index ws (at + 1); handlers = handlers_from 8 ws (at + 3); count = slice_index ws (at + 2) }

-- the set-up's numbers stand before its functions
abbrev pub numbers_width : ℕ
numbers_width = 14

abbrev pub function_in : List ℕ → ℕ → Function
function_in ws i = function_from ws (numbers_width + i * 35)
