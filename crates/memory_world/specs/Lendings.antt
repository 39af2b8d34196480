-- Which slices a function is lent: those, by a way to read one, over whatever the others hold.
use Rattle.std.specs.Prelude.{List, ℕ}
use Rattle.memory_world.specs.Memory.{Lent, Beside, on_stack, on_frames, on_chain, on_slots, on_saved, on_ready, on_finalize, on_setup}

module _ {X : Type 0} where
  abbrev pub none : (X → List ℕ) → Beside → Lent
  none t b = b.words

  abbrev pub frame : X → (X → List ℕ) → Beside → Lent
  frame f t b = on_frames (t f) b.words

  -- the stack and the frames
  abbrev pub top : X → X → (X → List ℕ) → Beside → Lent
  top s f t b = on_stack (t s) (on_frames (t f) b.words)

  abbrev pub top_setup : X → X → X → (X → List ℕ) → Beside → Lent
  top_setup s f u t b = on_stack (t s) (on_frames (t f) (on_setup (t u) b.words))

  abbrev pub table : X → (X → List ℕ) → Beside → Lent
  table o t b = on_slots (t o) b.words

  abbrev pub top_table : X → X → X → (X → List ℕ) → Beside → Lent
  top_table s f o t b = on_stack (t s) (on_frames (t f) (on_slots (t o) b.words))

  -- the slots and the rows
  abbrev pub rows : X → X → X → (X → List ℕ) → Beside → Lent
  rows o r q t b = on_slots (t o) (on_saved (t r) (t q) b.words)

  -- the slots, the rows and the set-up; and with them the stack and the frames
  abbrev pub making : X → X → X → X → (X → List ℕ) → Beside → Lent
  making o r q u t b = on_slots (t o) (on_saved (t r) (t q) (on_setup (t u) b.words))

  abbrev pub top_making : X → X → X → X → X → X → (X → List ℕ) → Beside → Lent
  top_making s f o r q u t b = on_stack (t s) (on_frames (t f) (making o r q u t b))

  -- the six slices that a switch moves words between
  abbrev pub six : X → X → X → X → X → X → (X → List ℕ) → Beside → Lent
  six s f c o r q t b = on_stack (t s) (on_frames (t f) (on_chain (t c) (on_slots (t o) (on_saved (t r) (t q) b.words))))

  -- .. and the cleanup queue; the set-up; all nine
  abbrev pub cleaning : X → X → X → X → X → X → X → (X → List ℕ) → Beside → Lent
  cleaning s f c o r q z t b = six s f c o r q t (record { words = on_finalize (t z) b.words; fuel = b.fuel })

  abbrev pub six_setup : X → X → X → X → X → X → X → (X → List ℕ) → Beside → Lent
  six_setup s f c o r q u t b = six s f c o r q t (record { words = on_setup (t u) b.words; fuel = b.fuel })

  abbrev pub all : X → X → X → X → X → X → X → X → X → (X → List ℕ) → Beside → Lent
  all s f c o r q a z u t b = six s f c o r q t (record { words = on_ready (t a) (on_finalize (t z) (on_setup (t u) b.words)); fuel = b.fuel })

  -- the stack, the frames and the chain; the slots and a queue
  abbrev pub top_chain : X → X → X → (X → List ℕ) → Beside → Lent
  top_chain s f c t b = on_stack (t s) (on_frames (t f) (on_chain (t c) b.words))

  abbrev pub tasks : X → X → (X → List ℕ) → Beside → Lent
  tasks o a t b = on_slots (t o) (on_ready (t a) b.words)

  abbrev pub cleanups : X → X → (X → List ℕ) → Beside → Lent
  cleanups o z t b = on_slots (t o) (on_finalize (t z) b.words)

-- words as they are
abbrev pub plain : List ℕ → List ℕ
plain ws = ws

-- the six by their words
abbrev pub lent : List ℕ → List ℕ → List ℕ → List ℕ → List ℕ → List ℕ → Beside → Lent
lent s f c o r q = six s f c o r q plain
