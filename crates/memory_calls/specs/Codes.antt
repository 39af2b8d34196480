-- Faults, result kinds, a pc or none: their codes. A continuation has the codes that a frame stores (tables: Layout).
use Rattle.std.specs.Prelude.{Bool, true, false, ◌&&◌, List, [], ◌∷◌, ℕ, ◌%◌, ◌^◌, get_or, eqb, Option, Some, None}
use Rattle.lists.specs.Pick.{pick}
use Rattle.heap.specs.declared.fault.Fault.{Fault}
use Rattle.heap.specs.declared.fault.Fault.TheVariants as F
use Rattle.heap.specs.declared.heap.ResultKind.{ResultKind}
use Rattle.heap.specs.declared.heap.ResultKind.TheVariants as K

-- registers have 16 bits, argument counts 8, pc and function numbers 32
abbrev pub as_pc : ℕ → ℕ
as_pc n = n % 2 ^ 32

abbrev pub as_reg : ℕ → ℕ
as_reg n = n % 2 ^ 16

abbrev pub as_argc : ℕ → ℕ
as_argc n = n % 2 ^ 8

-- 01: Fault sheet, from 0 on; 17 has its word
abbrev pub faults : List Fault
faults =
    F.None ∷ F.NullReference ∷ F.TypeError ∷ F.InvalidCoroState ∷ F.StackOverflow ∷ F.CannotSuspend ∷ F.CloseIgnored ∷ F.ArithOverflow
    ∷ F.NoScheduler ∷ F.OutOfMemory ∷ F.OutOfFuel ∷ F.Unsound ∷ F.NoFrame ∷ F.BadOperand ∷ F.Full ∷ F.Busy ∷ F.GrantTooLarge ∷ []

abbrev pub fault_of : ℕ → ℕ → Fault
fault_of n w = get_or faults n (F.Throw w)

-- 01: "Result kinds: none, dynamic word, i64, u64."
abbrev pub kind_code : ResultKind → ℕ
kind_code K.None = 0
kind_code K.Dyn = 1
kind_code K.I64 = 2
kind_code K.U64 = 3

abbrev pub kind_of : ℕ → ResultKind
kind_of n = get_or (K.None ∷ K.Dyn ∷ K.I64 ∷ []) n K.U64

-- whether there is a pc, and the pc
abbrev pub opt_code : Option ℕ → ℕ
opt_code None = 0
opt_code (Some pc) = 1

abbrev pub opt_word : Option ℕ → ℕ
opt_word None = 0
opt_word (Some pc) = pc

abbrev pub opt_of : ℕ → ℕ → Option ℕ
opt_of n pc = pick (eqb n 0) None (Some (as_pc pc))

-- the same words
abbrev pub same : List ℕ → List ℕ → Bool
same [] [] = true
same [] (y ∷ ys) = false
same (x ∷ xs) [] = false
same (x ∷ xs) (y ∷ ys) = eqb x y && same xs ys
