-- 01's gate, fuel in hand, and what coro_enter tests: a Resume that nothing refuses.
use Rattle.std.specs.Prelude.{◌≡◌, Bool, true, false, not, List, [], ◌∷◌, ℕ, ◌+◌, ◌-◌, ◌*◌, ◌≤◌, ◌<◌, length, get_or, eqb, leb, ltb, Option, Result, Some, None, Ok, Err}
use Rattle.heap.specs.Slot.{width}
use Rattle.heap.specs.Heap.{slots_of, coro_of, place_of}
use Rattle.heap.specs.declared.fault.Fault.{Fault}
use Rattle.heap.specs.declared.object.CoroObj.{CoroObj}
use Rattle.model.specs.State.{is_resumable}
use Rattle.memory_tables.specs.Layout.{base_in}
use Rattle.memory_tables.specs.Does.{Gets}
use Rattle.linked_calls.specs.Words.{machine_in, sizes_in}
use Rattle.linked_switch.specs.Words.{record_at, all}
use Rattle.linked_switch.specs.Enter.{May}

-- words enough for the numbers, which are within the limits
pub record EntersFits (stack frames slots ms : List ℕ) : Type 0 where
  pub words : 25 ≤ length ms
  pub on-stack : (machine_in ms).height ≤ length stack
  pub on-frames : (machine_in ms).depth * 6 ≤ length frames
  pub in-slots : (machine_in ms).count * width ≤ length slots
  pub deep : (machine_in ms).depth ≤ (sizes_in ms).depth
  pub high : (machine_in ms).height ≤ (sizes_in ms).stack

-- ---- the tests, on the words

-- where the top frame's registers begin
abbrev pub top_in : List ℕ → List ℕ → ℕ
top_in frames ms = base_in frames ((machine_in ms).depth - 1)

-- "Every register operand must lie between the top frame's base and the stack's end"
abbrev pub in_top : List ℕ → List ℕ → ℕ → Bool
in_top frames ms r = ltb (top_in frames ms + r) (machine_in ms).height

-- of a coroutine, by its record
abbrev pub entry_tests : CoroObj → List ℕ → List Bool
entry_tests c ms =
    let m = machine_in ms in
    let sizes = sizes_in ms in
    -- Created, Yielded or Awaiting, with frames
    is_resumable c.state ∷ not (eqb c.frames 0)
    -- the depth limit and the stack limit, with what it saved
    ∷ leb (m.depth + c.frames) sizes.depth ∷ leb (m.height + c.regs) sizes.stack ∷ []

-- what the word in register c names
abbrev pub to_enter : List ℕ → List ℕ → List ℕ → List ℕ → ℕ → Result ℕ Fault
to_enter stack frames slots ms c = place_of (coro_of (slots_of (machine_in ms).count slots) (get_or stack (top_in frames ms + c) 0))

-- where it names a coroutine
abbrev pub enters_in : List ℕ → List ℕ → Result ℕ Fault → Bool
enters_in slots ms (Err f) = false
enters_in slots ms (Ok i) = all (entry_tests (record_at slots i) ms)

abbrev pub enter_tests : List ℕ → List ℕ → List ℕ → List ℕ → ℕ → ℕ → ℕ → ℕ → List Bool
enter_tests stack frames slots ms fuel dst c src =
    -- 12: a frame stands; the charge takes a unit of fuel that is there
    leb 1 (machine_in ms).depth ∷ leb 1 fuel
    -- 13: the registers lie in the frame
    ∷ in_top frames ms dst ∷ in_top frames ms c ∷ in_top frames ms src
    -- coro_enter refuses nothing
    ∷ enters_in slots ms (to_enter stack frames slots ms c) ∷ []

unfoldable pub may_enter : List ℕ → List ℕ → List ℕ → List ℕ → ℕ → ℕ → ℕ → ℕ → Bool
may_enter stack frames slots ms fuel dst c src = all (enter_tests stack frames slots ms fuel dst c src)

-- ---- what the tests tell

pub record Enterable (stack frames slots ms : List ℕ) (fuel dst c src i v : ℕ) : Type 0 where
  pub some : 1 ≤ (machine_in ms).depth
  pub paid : 1 ≤ fuel
  pub dst-in : top_in frames ms + dst < (machine_in ms).height
  pub coro-in : top_in frames ms + c < (machine_in ms).height
  pub src-in : top_in frames ms + src < (machine_in ms).height
  pub is : Gets stack frames (machine_in ms).height (machine_in ms).depth c v
  pub may : May slots (machine_in ms) (sizes_in ms) v i

abbrev pub enters : Option (ℕ × ℕ) → Bool
enters (Some p) = true
enters None = false

pub record Entering (stack frames slots ms : List ℕ) (fuel dst c src : ℕ) (r : Option (ℕ × ℕ)) : Type 0 where
  pub at : (i v : ℕ) → r ≡ Some (i, v) → Enterable stack frames slots ms fuel dst c src i v
  -- it says so exactly if the tests are passed
  pub told : enters r ≡ may_enter stack frames slots ms fuel dst c src
