-- THE SHEET of `unwind`: its tests, then those of each frame, from the top down.
use Rattle.std.specs.Prelude.{ℕ, Bool, true, false, not, ◌&&◌, ◌||◌, List, [], ◌∷◌, eqb, ltb, leb, Option, Some, None}
use Rattle.lists.specs.Pick.{pick}
use Rattle.heap.specs.Fault.{number_of, word_of}
use Rattle.heap.specs.declared.fault.Fault.{Fault}
use Rattle.heap.specs.declared.object.CoroState.{CoroState}
use Rattle.model.specs.Lists.{is_nil}
use Rattle.model.specs.Object.{Object}
use Rattle.model.specs.World.{World}
use Rattle.model.specs.declared.program.Handler.{Handler}
use Rattle.model.specs.declared.machine.Active.{Active}
use Rattle.model.specs.declared.machine.Cont.{Cont}
use Rattle.model.specs.declared.machine.Driver.{Driver}
use Rattle.model.specs.declared.machine.Frame.{Frame}
use Rattle.model.specs.declared.machine.Stop.{Stop}
use Rattle.model.specs.declared.call.Answer.{Answer}
use Rattle.claims_sheet.specs.Setters.{with_outcome}
use Rattle.claims_sheet.specs.Lines.{Line, Lines, lines, line, refuse, accept}
use Rattle.claims_sheet.specs.Words.{lacks_memory, no_slot}
use Rattle.claims_sheet.specs.Moves.{pc_stored, put}
use Rattle.claims_sheet.specs.Charging.{used_up, bank_back}
use Rattle.claims_sheet.specs.Makings.{function, stored, new_word, paid}
use Rattle.claims_sheet.specs.Suspending.{innermost_active, rest_here, cleaning, asks}
use Rattle.claims_sheet.specs.Endings.{popped, innermost_finished, returned}

-- ---- handlers: "the first in program order with start ≤ pc < end"

abbrev pub covering : ℕ → List Handler → List Handler
covering pc [] = []
covering pc (h ∷ hs) = pick (leb h.start pc && ltb pc h.end) (h ∷ hs) (covering pc hs)

-- the handlers from the one that takes the word on, in frame x of world w
abbrev pub takers : Frame → World → List Handler
takers x w = covering x.pc (function w x.func).handlers

abbrev pub taker : List Handler → Handler
taker [] = record { start = 0; end = 0; target = 0; catch = 0 }
taker (h ∷ hs) = h

-- ---- a frame that is gone: the word leaves it

abbrev pub is_entry : Cont → Bool
is_entry Cont.Entry = true
is_entry (Cont.Write r) = false
is_entry (Cont.Dyn r) = false
is_entry (Cont.Value r) = false
is_entry Cont.Discard = false
is_entry Cont.Coro = false

abbrev pub is_body : Cont → Bool
is_body Cont.Entry = false
is_body (Cont.Write r) = false
is_body (Cont.Dyn r) = false
is_body (Cont.Value r) = false
is_body Cont.Discard = false
is_body Cont.Coro = true

-- the innermost coroutine is closed by this word
abbrev pub own_signal : List Active → ℕ → World → Bool
own_signal [] value w = false
own_signal (a ∷ chain) value w = (rest_here w).closing && eqb value (rest_here w).signal

-- it was driven by the host or a cleanup
abbrev pub driven : List Active → Bool
driven [] = false
driven (a ∷ chain) = not (asks a.driver)

-- .. which gets the failure
abbrev pub failed_to : Driver → Stop → World → World
failed_to (Driver.Resume dst) s w = w
failed_to (Driver.Iter has val iter) s w = w
failed_to Driver.Host s w = with_outcome (Some s) w
failed_to Driver.Finalize s w = cleaning false w

abbrev pub failed : List Active → ℕ → ℕ → ℕ → World → World
failed chain value f pc w = failed_to (innermost_active chain).driver (Stop.Failed value f pc) (innermost_finished chain CoroState.Failed value w)

-- 01: "A closing coroutine that lets its own signal escape is Returned with nil; any other escape makes it Failed."
abbrev pub left : Frame → List Frame → ℕ → World → World
left x xs value w = pick (is_body x.cont) (innermost_finished w.chain CoroState.Failed value (popped x xs w)) (popped x xs w)

-- ---- the word value, raised at pc of function f, from the top frame down

abbrev pub search : List Frame → ℕ → ℕ → ℕ → World → List (Line Answer)
search [] value f pc w = line 17 true (Answer.Refused (Fault.Throw value)) w ∷ []
search (x ∷ xs) value f pc w =
    let h = taker (takers x w) in
    let catches = not (is_nil (takers x w)) in
    let p = popped x xs w in
    refuse 10 (catches && used_up w) (bank_back w)
    ∷ accept catches Answer.Caught (put h.catch value (pc_stored h.target (paid w)))
    ∷ line 17 (is_entry x.cont) (Answer.Refused (Fault.Throw value)) p
    ∷ accept (is_body x.cont && own_signal w.chain value w) Answer.Stopped (returned w.chain 0 p)
    ∷ accept (is_body x.cont && driven w.chain) Answer.Stopped (failed w.chain value f pc p)
    ∷ search xs value f pc (left x xs value w)

-- ---- 11; the pc is stored; 1 to 8 as an error object, 17 as its word; 9 and 10 pass

abbrev pub given_pc_stored : Option ℕ → World → World
given_pc_stored None w = w
given_pc_stored (Some pc) w = pc_stored pc w

abbrev pub top_func : List Frame → ℕ
top_func [] = 0
top_func (f ∷ fs) = f.func

abbrev pub top_pc : List Frame → ℕ
top_pc [] = 0
top_pc (f ∷ fs) = f.pc

abbrev pub search_from_top : ℕ → World → List (Line Answer)
search_from_top value w = search w.frames value (top_func w.frames) (top_pc w.frames) w

-- an error object holds number, function and pc of the top frame at the start (0 and 0 without one) and nil
abbrev pub error_stored : ℕ → World → World
error_stored n z = stored (Object.Error n (top_func z.frames) (top_pc z.frames) 0) z.setup.costs.error z

abbrev pub unwind : Fault → Option ℕ → World → Lines Answer
unwind e pc w =
    let n = number_of e in
    let z = given_pc_stored pc w in
    lines
    (refuse 11 (eqb n 0 || (leb 11 n && not (eqb n 17))) w
    ∷ line n (eqb n 9 || eqb n 10) (Answer.Refused e) z
    ∷ refuse 9 (leb n 8 && lacks_memory z z.setup.costs.error) z
    ∷ refuse 14 (leb n 8 && no_slot z) z
    ∷ pick (leb n 8) (search_from_top (new_word z) (error_stored n z)) (search_from_top (word_of e) z))
    (line n true (Answer.Refused e) z)
