-- The sheet's own words: what is done to a world. None of them is the machine's.
use Rattle.std.specs.Prelude.{ℕ, ◌+◌, ◌%◌, ◌^◌, max, Bool, true, false, List, [], ◌∷◌, ◌++◌, map, length, get_or, set, eqb, Option}
use Rattle.lists.specs.Pick.{pick}
use Rattle.heap.specs.Table.{slot}
use Rattle.heap.specs.declared.object.CoroState.{CoroState}
use Rattle.model.specs.Object.{Core, Rest, Object}
use Rattle.model.specs.World.{World}
use Rattle.model.specs.declared.machine.Driver.{Driver}
use Rattle.model.specs.declared.machine.Frame.{Frame}
use Rattle.claims_sheet.specs.Setters.{with_closing, with_signal, with_result, with_row, with_maxregs, with_maxframes, with_stack, with_frames, with_chain, with_slots}
use Rattle.claims_sheet.specs.Words.{found, kind, is_coroutine, core_of, rest_of, is_in}

-- ---- the top frame, if there is one

abbrev pub at_pc : ℕ → List Frame → List Frame
at_pc pc [] = []
at_pc pc (f ∷ fs) = record { func = f.func; pc = pc; base = f.base; closure = f.closure; cont = f.cont } ∷ fs

abbrev pub pc_stored : ℕ → World → World
pc_stored pc w = with_frames (at_pc pc w.frames) w

-- "its pc steps by 1, wrapping at 2^32"
abbrev pub onward : List Frame → List Frame
onward [] = []
onward (f ∷ fs) = record { func = f.func; pc = (f.pc + 1) % 2 ^ 32; base = f.base; closure = f.closure; cont = f.cont } ∷ fs

abbrev pub in_register : List Frame → ℕ → ℕ → List ℕ → List ℕ
in_register [] r v xs = xs
in_register (f ∷ fs) r v xs = set xs (f.base + r) v

abbrev pub put : ℕ → ℕ → World → World
put r v w = with_stack (in_register w.frames r v w.stack) w

-- a word in a register, and on to the next instruction
abbrev pub sent : ℕ → ℕ → World → World
sent r v w = with_frames (onward w.frames) (put r v w)

-- ---- objects

-- another object under the same word
abbrev pub replaced : ℕ → Object → World → World
replaced v o w = with_slots (set w.slots (v % 2 ^ 32) (slot (get_or w.slots (v % 2 ^ 32) (slot 0 Object.Empty)).tag o)) w

-- an iterator's mark and key, if v finds one
abbrev pub iterator : (Bool → Bool) → ((Option ℕ) → Option ℕ) → Object → Object
iterator f g Object.Empty = Object.Empty
iterator f g (Object.Func n) = Object.Func n
iterator f g (Object.Int n) = Object.Int n
iterator f g (Object.Iter s d k) = Object.Iter s (f d) (g k)
iterator f g (Object.Error e n p x) = Object.Error e n p x
iterator f g (Object.Coro k r) = Object.Coro k r

abbrev pub marked : ℕ → (Bool → Bool) → ((Option ℕ) → Option ℕ) → World → World
marked v f g w = pick (eqb (kind (found w v)) 3) (replaced v (iterator f g (found w v)) w) w

abbrev pub iterator_done : ℕ → World → World
iterator_done v w = marked v (λ d. true) (λ k. k) w

-- nothing is saved any more
abbrev pub emptied : CoroState → Core → Core
emptied s k = record { state = s; regs = []; frames = []; waiting = k.waiting }

-- ---- entries

-- "the coroutine's largest saved sizes so far": what is saved is such a size
abbrev pub at_least : Core → Rest → Rest
at_least k r = with_maxregs (max r.maxregs (length k.regs)) (with_maxframes (max r.maxframes (length k.frames)) r)

-- "It appends the saved words and frames, adds the old stack height to every base, sets Running and pushes the driver."
abbrev pub entered_as : Rest → ℕ → Driver → World → World
entered_as r v d w =
    let k = core_of (found w v) in
    replaced v (Object.Coro (emptied CoroState.Running k) (at_least k r))
    (with_chain (record { coro = v; floor = length w.frames; driver = d } ∷ w.chain)
    (with_frames (map (λ f. record { func = f.func; pc = f.pc; base = f.base + length w.stack; closure = f.closure; cont = f.cont }) k.frames ++ w.frames)
    (with_stack (w.stack ++ k.regs) w)))

abbrev pub entered : ℕ → Driver → World → World
entered v d w = entered_as (rest_of (found w v)) v d w

-- .. to be closed with a signal
abbrev pub entered_closing : ℕ → ℕ → Driver → World → World
entered_closing signal v d w = entered_as (with_closing true (with_signal signal (rest_of (found w v)))) v d w

-- "A suspended coroutine then gets the sent word in its waiting register .. A Created one ignores the sent word."
abbrev pub sent_unless_created : CoroState → ℕ → ℕ → World → World
sent_unless_created s r v w = pick (is_in (CoroState.Created ∷ []) s) w (sent r v w)

-- ---- ends: it has finished with a result, if v finds a coroutine

abbrev pub finished_rest : ℕ → Rest → Rest
finished_rest result r = with_result result (with_closing false (with_signal 0 (with_maxregs 0 (with_maxframes 0 (with_row 0 r)))))

abbrev pub finished_with : ℕ → CoroState → ℕ → World → World
finished_with v s result w =
    pick (is_coroutine (found w v)) (replaced v (Object.Coro (emptied s (core_of (found w v))) (finished_rest result (rest_of (found w v)))) w) w
