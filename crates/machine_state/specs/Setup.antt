-- machine.rs: Machine::new, on the lent words.
use Rattle.std.specs.Prelude.{◌≡◌, false, List, ℕ, ◌*◌, ◌≤◌, length, get_or, replicate, None}
use Rattle.heap.specs.Table.{Slot, slot}
use Rattle.heap.specs.declared.object.Object as H
use Rattle.heap.specs.declared.object.Object.TheVariants as O
use Rattle.heap.specs.Heap.{TableFits}
use Rattle.model.specs.Program.{Setup}
use Rattle.model.specs.World.{fresh}
use Rattle.memory_tables.specs.Sizes.{setup_words}
use Rattle.memory_world.specs.Told.{told}
use Rattle.memory_world.specs.Memory.{Lent, tabled, Rep, Room, Sized}
use Rattle.memory_world.specs.declared.machine.Machine.{Machine}
use Rattle.memory_world.specs.declared.machine.Sizes.{Sizes}

-- the objects of n functions
abbrev pub function_slots : ℕ → List (Slot H.Object)
function_slots n = tabled (λ i. slot 0 (O.Func i)) 0 n

abbrev pub Cleared : List ℕ → List ℕ → Type 0
Cleared ws ws' = ws' ≡ replicate (length ws) 0

-- the numbers of a machine that has not begun, with n slots taken
abbrev pub start : ℕ → Machine
start n = record { height = 0; depth = 0; active = 0; count = n; ready = 0; finalize = 0; finalizing = false; outcome = told None; used = 0; seq = 0 }

abbrev pub words : List ℕ → List ℕ → List ℕ → List ℕ → List ℕ → List ℕ → List ℕ → List ℕ → List ℕ → Lent
words s f c o r q a z u =
    record { stack = s; frames = f; chain = c; slots = o; saved_stack = r; saved_frames = q; ready = a; finalize = z; setup = u }

-- there is room for the set-up's words, and for a slot of each function
pub record SetUpFits (slots setup given : List ℕ) : Type 0 where
  pub numbers : 14 ≤ length given
  pub within : length given ≤ length setup
  pub objects : TableFits slots (get_or given 13 0)

-- if the words given are a set-up's, and there is room, the words stand for its fresh world
abbrev pub SetsUp : List ℕ → Lent → Machine → Type 0
SetsUp given M m = (s : Setup) (sizes : Sizes) → given ≡ setup_words s → Sized s sizes → Room s M → Rep sizes (fresh s) M m (fresh s).fuel
