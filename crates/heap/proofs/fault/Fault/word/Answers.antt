-- `Fault::word` meets its contract: every case but the last has the word 0. Assumes nothing.
use mathlib.Core.Path.{◌≡◌, refl}
use mathlib.Core.List.{List, [], ◌∷◌}
use Prim.Native.Nat.{ℕ}
use types.Run.{OneOf, miss}
use borrow.Enum.Refused.{opened}
use denote.Enum.Declared.{tag_of}
use Rattle.heap.specs.Fault.{word_of}
use Rattle.heap.specs.declared.fault.Fault.{Fault}
use Rattle.heap.specs.declared.fault.Fault.TheVariants as F
use Rattle.heap.specs.contracts.fault.Fault as Fault'
use Rattle.heap.proofs.fault.Fault.word.Goals as goal

-- `Fault::word` meets its contract: every case but the last has the word 0. Assumes nothing.
abbrev others : List ℕ
others = 0 ∷ 1 ∷ 2 ∷ 3 ∷ 4 ∷ 5 ∷ 6 ∷ 7 ∷ 8 ∷ 9 ∷ 10 ∷ 11 ∷ 12 ∷ 13 ∷ 14 ∷ 15 ∷ 16 ∷ []

other : (f : Fault) → OneOf others (tag_of Fault'.the_type f) → 0 ≡ word_of f
other F.None h = refl
other F.NullReference h = refl
other F.TypeError h = refl
other F.InvalidCoroState h = refl
other F.StackOverflow h = refl
other F.CannotSuspend h = refl
other F.CloseIgnored h = refl
other F.ArithOverflow h = refl
other F.NoScheduler h = refl
other F.OutOfMemory h = refl
other F.OutOfFuel h = refl
other F.Unsound h = refl
other F.NoFrame h = refl
other F.BadOperand h = refl
other F.Full h = refl
other F.Busy h = refl
other F.GrantTooLarge h = refl
other (F.Throw w) h = absurd (miss others 17 tt h)

pub returns-in-Throw : goal.returns-in-Throw
returns-in-Throw c = rw c.in-Throw.is

pub returns-in_default : goal.returns-in_default
returns-in_default c = other c.args.self (opened c.in_default.in_default-own.keys2)
