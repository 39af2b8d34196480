-- What a function on lent words asks and promises: of every world of a kind that the words stood for, what they stand for after it,
-- and what it answers.
use Rattle.std.specs.Prelude.{◌≡◌, true, List, ℕ}
use Rattle.std.specs.Borrow.{Bor, MutBor}
use denote.Triple.Both.{Both}
use Rattle.model.specs.World.{World, After}
use Rattle.model.specs.Sound.{sound}
use Rattle.model.specs.declared.machine.Fuel.{Fuel}
use Rattle.memory_world.specs.Memory.{Lent, Beside, Rep, Room}
use Rattle.memory_world.specs.Rows.{Rowed}
use Rattle.memory_world.specs.declared.machine.Machine.{Machine}
use Rattle.memory_world.specs.declared.machine.Sizes.{Sizes}

-- ---- the numbers, and the fuel if it is given

pub record Numbers : Type 0 where
  pub machine : Machine
  pub fuel : Beside → Fuel

abbrev pub only : Machine → Numbers
only m = record { machine = m; fuel = λ b. b.fuel }

abbrev pub with : Machine → Fuel → Numbers
with m f = record { machine = m; fuel = λ b. f }

-- ---- what is asked; M is of what the function is not lent

-- the words stand for some world of the kind P
pub record SomeWorld (P : World → Type 0) (sizes : Sizes) (M : Beside → Lent) (n : Numbers) : Type 0 where
  pub world : World
  pub beside : Beside
  pub rep : Rep sizes world (M beside) n.machine (n.fuel beside)
  pub known : P world

-- they stand for some sound world, and there are words enough
pub record Ok (sizes : Sizes) (M : Beside → Lent) (n : Numbers) : Type 0 where
  pub world : World
  pub beside : Beside
  pub rep : Rep sizes world (M beside) n.machine (n.fuel beside)
  pub sound : sound world ≡ true
  pub room : Room world.setup (M beside)

-- ---- what is promised

-- of which worlds
abbrev pub Kind : Type 1
Kind = World → Type 0 → Type 0

abbrev pub any : Kind
any w X = X

abbrev pub if_rowed : Kind
if_rowed w X = Rowed w.setup w.slots → X

abbrev pub if_sound : Kind
if_sound w X = sound w ≡ true → X

-- a slice at a function's two moments
pub record Slice : Type 0 where
  pub entry : List ℕ
  pub exit : List ℕ

abbrev pub at_entry : Slice → List ℕ
at_entry s = s.entry

abbrev pub at_exit : Slice → List ℕ
at_exit s = s.exit

-- that of a parameter that is a `&mut`, and of one that is a `&`
abbrev pub of_mut : Both (MutBor (List ℕ)) (MutBor (List ℕ)) → Slice
of_mut s = record { entry = s.entry.now; exit = s.exit.now }

abbrev pub of_ref : Both (Bor (List ℕ)) (Bor (List ℕ)) → Slice
of_ref s = record { entry = s.entry.now; exit = s.exit.now }

-- the lent words at either moment
abbrev pub Lending : Type 0
Lending = (Slice → List ℕ) → Beside → Lent

-- the words stand for what `o` leaves, and the answer is `o`'s
pub record Does {A : Type 0} (sizes : Sizes) (o : After A) (M : Lent) (m : Machine) (f : Fuel) (a : A) : Type 0 where
  pub world : Rep sizes o.world M m f
  pub answer : a ≡ o.answer

-- from the words M to the words M': what is left and answered; what is left; what is answered
abbrev pub Gives : {A : Type 0} → Kind → Sizes → (World → After A) → (Beside → Lent) → Numbers → (Beside → Lent) → Numbers → A → Type 0
Gives K sizes g M n M' n' a = (w : World) (b : Beside) → Rep sizes w (M b) n.machine (n.fuel b) → K w (Does sizes (g w) (M' b) n'.machine (n'.fuel b) a)

abbrev pub Turns : Kind → Sizes → (World → World) → (Beside → Lent) → Numbers → (Beside → Lent) → Numbers → Type 0
Turns K sizes g M n M' n' = (w : World) (b : Beside) → Rep sizes w (M b) n.machine (n.fuel b) → K w (Rep sizes (g w) (M' b) n'.machine (n'.fuel b))

abbrev pub Tells : {A : Type 0} → Sizes → (World → A) → (Beside → Lent) → Numbers → A → Type 0
Tells sizes g M n a = (w : World) (b : Beside) → Rep sizes w (M b) n.machine (n.fuel b) → a ≡ g w

-- a function that changes the machine and answers, one that changes it, one that answers
abbrev pub Met : {A : Type 0} → Kind → Sizes → (World → After A) → Lending → Numbers → Numbers → A → Type 0
Met K sizes g L n n' a = Gives K sizes g (L at_entry) n (L at_exit) n' a

abbrev pub Leaves : Kind → Sizes → (World → World) → Lending → Numbers → Numbers → Type 0
Leaves K sizes g L n n' = Turns K sizes g (L at_entry) n (L at_exit) n'

abbrev pub Reads : {A : Type 0} → Sizes → (World → A) → Lending → Numbers → A → Type 0
Reads sizes g L n a = Tells sizes g (L at_entry) n a

-- a function that is given no sizes serves them all
abbrev pub every : (Sizes → Type 0) → Type 0
every P = (sizes : Sizes) → P sizes
