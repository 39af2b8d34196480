-- THE SHEET of the instructions that make a coroutine: CoroNew, CoroNewIndirect, Spawn. The charge left u.
use Rattle.std.specs.Prelude.{ℕ, zero, suc, ◌+◌, ◌-◌, ◌*◌, ◌%◌, ◌^◌, Bool, true, false, not, ◌&&◌, ◌||◌, List, [], ◌∷◌, ◌++◌, length, get_or, replicate, set, eqb, ltb, leb, Option, Some, None}
use Rattle.lists.specs.Pick.{pick}
use Rattle.heap.specs.Table.{Slot, slot}
use Rattle.heap.specs.declared.object.CoroState.{CoroState}
use Rattle.model.specs.Program.{Func, no_func}
use Rattle.model.specs.Object.{Core, Rest, Object}
use Rattle.model.specs.World.{World}
use Rattle.model.specs.declared.machine.Cont.{Cont}
use Rattle.model.specs.declared.exec.Step.{Step}
use Rattle.claims_sheet.specs.Setters.{with_stack, with_frames, with_slots, with_used, with_seq}
use Rattle.claims_sheet.specs.Lines.{Line, Lines, lines, stop, accept}
use Rattle.claims_sheet.specs.Words.{word, arguments, found, kind, is_coroutine, dead, function_of, core_of, rest_of, is_in, used_with, lacks_memory, no_slot}
use Rattle.claims_sheet.specs.Moves.{pc_stored, put}
use Rattle.claims_sheet.specs.Charging.{amount, reserve, fuelled, used_up, bank_back}

-- ---- functions

abbrev pub function : World → ℕ → Func
function w f = get_or w.setup.functions f no_func

abbrev pub is_function : World → ℕ → Bool
is_function w f = ltb f (length w.setup.functions)

-- ---- rows: 14, "every row held by an unfinished coroutine"

abbrev pub holds : ℕ → Object → Bool
holds n o = is_coroutine o && (not (is_in (CoroState.Returned ∷ CoroState.Failed ∷ []) (core_of o).state) && eqb n (rest_of o).row)

abbrev pub row_held : ℕ → List (Slot Object) → Bool
row_held n [] = false
row_held n (x ∷ xs) = holds n x.object || row_held n xs

-- k rows from n on: each is held; the lowest that is not
abbrev pub held_from : ℕ → ℕ → List (Slot Object) → Bool
held_from zero n xs = true
held_from (suc k) n xs = row_held n xs && held_from k (suc n) xs

abbrev pub lowest : ℕ → ℕ → List (Slot Object) → ℕ
lowest zero n xs = n
lowest (suc k) n xs = pick (row_held n xs) (lowest k (suc n) xs) n

abbrev pub no_row : World → Bool
no_row w = held_from w.setup.limits.rows 0 w.slots

-- ---- creation

-- a new object stands in the next slot; its bytes are charged
abbrev pub stored : Object → ℕ → World → World
stored o bytes w = with_used (used_with w bytes) (with_slots (w.slots ++ (slot 0 o ∷ [])) w)

abbrev pub new_word : World → ℕ
new_word w = 2 ^ 48 + length w.slots

-- "then advances the 64-bit sequence number, wrapping"
abbrev pub numbered : World → World
numbered w = with_seq ((w.seq + 1) % 2 ^ 64) w

-- "8 times registers + C + F", "8 times registers + A + F"
abbrev pub fit_bytes : World → ℕ → ℕ
fit_bytes w f = 8 * (function w f).regs + w.setup.costs.coro + w.setup.costs.frame

abbrev pub bytes : World → ℕ → ℕ
bytes w f = 8 * (function w f).regs + w.setup.costs.object + w.setup.costs.frame

-- "More arguments than registers: all registers 0."
abbrev pub filled : ℕ → List ℕ → List ℕ
filled n args = pick (leb (length args) n) (args ++ replicate (n - length args) 0) (replicate n 0)

abbrev pub new_core : ℕ → ℕ → List ℕ → Core
new_core f closure regs =
    record { state = CoroState.Created; regs = regs; frames = record { func = f; pc = 0; base = 0; closure = closure; cont = Cont.Coro } ∷ []; waiting = 0 }

-- "the largest integer key so far .., the start being -1"; "creation's registers and one frame included"
abbrev pub new_rest : ℕ → ℕ → ℕ → Rest
new_rest seq row n = record { closing = false; finalized = false; task = false; seq = seq; row = row; maxregs = n; maxframes = 1; payload = 0; key = 0; largest = 2 ^ 64 - 1; result = 0; signal = 0 }

abbrev pub made : ℕ → ℕ → List ℕ → World → World
made f closure args u =
    let n = (function u f).regs in
    stored (Object.Coro (new_core f closure (filled n args)) (new_rest u.seq (lowest u.setup.limits.rows 0 u.slots) n)) (bytes u f) (numbered u)

-- the tests, then others
abbrev pub creation : ℕ → World → List (Line Step) → List (Line Step)
creation f u more = stop 9 (lacks_memory u (fit_bytes u f)) u ∷ stop 14 (no_slot u || no_row u) u ∷ stop 9 (lacks_memory u (bytes u f)) (numbered u) ∷ more

abbrev pub coro_new : ℕ → ℕ → ℕ → World → Lines Step
coro_new dst f argc u = lines (creation f u []) (accept true Step.Next (put dst (new_word u) (made f 0 (arguments u dst argc) u)))

-- ---- of the function that a register holds: "wrong kind of object or word, wrong argument count"

abbrev pub callee : World → ℕ → ℕ
callee u v = function_of (found u v)

abbrev pub indirect : ℕ → ℕ → World → List (Line Step) → List (Line Step)
indirect v argc u more =
    let f = callee u v in
    stop 1 (dead u v) u ∷ stop 2 (not (eqb (kind (found u v)) 1)) u ∷ stop 2 (not (is_function u f)) u ∷ stop 2 (not (eqb (function u f).params argc)) u ∷ creation f u more

abbrev pub coro_new_indirect : ℕ → ℕ → ℕ → World → Lines Step
coro_new_indirect dst c argc u =
    let v = word u c in
    lines (indirect v argc u []) (accept true Step.Next (put dst (new_word u) (made (callee u v) v (arguments u dst argc) u)))

-- ---- Spawn: the hook is called with the coroutine; the call is charged once more, and starts no cleanup

abbrev pub is_none : Option ℕ → Bool
is_none None = true
is_none (Some n) = false

-- one unit less; "While a close is ready, the fuel left is set aside"
abbrev pub paid : World → World
paid w =
    pick (not (eqb w.fuel.fuel 0)) (fuelled (w.fuel.fuel - 1) w.fuel.bank w.fuel.ready w)
    (pick w.fuel.ready (fuelled 0 (Some (reserve w - 1)) w.fuel.ready w) (fuelled (reserve w - 1) None w.fuel.ready w))

-- 4: a frame more passes the depth limit, or its registers the stack limit
abbrev pub no_room : ℕ → World → Bool
no_room f w = leb w.setup.limits.depth (length w.frames) || ltb w.setup.limits.stack (length w.stack + (function w f).regs)

abbrev pub pushed : ℕ → Cont → World → World
pushed f cont w =
    with_frames (record { func = f; pc = 0; base = length w.stack; closure = 0; cont = cont } ∷ w.frames) (with_stack (w.stack ++ replicate (function w f).regs 0) w)

-- a frame of the hook, with the coroutine in its first register
abbrev pub called : ℕ → ℕ → ℕ → World → World
called hook dst c w = with_stack (set (pushed hook (Cont.Value dst) w).stack (length w.stack) c) (pushed hook (Cont.Value dst) w)

-- pc is stored only if accepted
abbrev pub spawn_with : Option ℕ → ℕ → ℕ → ℕ → ℕ → World → Lines Step
spawn_with hook pc dst c argc u =
    let v = word u c in
    let h = amount hook 0 in
    let m = made (callee u v) v (arguments u dst argc) u in
    lines
    (stop 8 (is_none hook) u ∷ indirect v argc u (stop 10 (used_up m) (bank_back m) ∷ stop 4 (no_room h (pc_stored pc (paid m))) (paid m) ∷ []))
    (accept true Step.Frame (called h dst (new_word u) (pc_stored pc (paid m))))

abbrev pub spawn : ℕ → ℕ → ℕ → ℕ → World → Lines Step
spawn pc dst c argc u = spawn_with u.setup.hook pc dst c argc u
