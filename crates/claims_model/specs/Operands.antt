-- The operands that a call of 01 can have, by their types: registers have 16 bits, argument counts 8, pc and function numbers 32, words
-- 64. A continuation's register is the machine's to test.
use Rattle.std.specs.Prelude.{ℕ, ◌^◌, Bool, true, ◌&&◌, List, [], ◌∷◌, ltb, Option, Some, None}
use Rattle.heap.specs.Fault.{word_of}
use Rattle.model.specs.declared.call.Op.{Op}

abbrev pub bits : ℕ → ℕ → Bool
bits n x = ltb x (2 ^ n)

abbrev pub are_registers : List ℕ → Bool
are_registers [] = true
are_registers (r ∷ rs) = bits 16 r && are_registers rs

abbrev pub stored : Option ℕ → Bool
stored None = true
stored (Some pc) = bits 32 pc

abbrev pub operands_fit : Op → Bool
operands_fit (Op.CoroNew pc dst f argc) = bits 32 pc && bits 16 dst && bits 32 f && bits 8 argc
operands_fit (Op.CoroNewIndirect pc dst callee argc) = bits 32 pc && are_registers (dst ∷ callee ∷ []) && bits 8 argc
operands_fit (Op.Spawn pc dst callee argc) = bits 32 pc && are_registers (dst ∷ callee ∷ []) && bits 8 argc
operands_fit (Op.Yield pc dst src) = bits 32 pc && are_registers (dst ∷ src ∷ [])
operands_fit (Op.YieldKv pc dst src key) = bits 32 pc && are_registers (dst ∷ src ∷ key ∷ [])
operands_fit (Op.Await pc dst src) = bits 32 pc && are_registers (dst ∷ src ∷ [])
operands_fit (Op.Resume pc dst c src) = bits 32 pc && are_registers (dst ∷ c ∷ src ∷ [])
operands_fit (Op.ResumeThrow pc dst c src) = bits 32 pc && are_registers (dst ∷ c ∷ src ∷ [])
operands_fit (Op.CoroClose pc dst c src) = bits 32 pc && are_registers (dst ∷ c ∷ src ∷ [])
operands_fit (Op.CoroStatus pc dst c) = bits 32 pc && are_registers (dst ∷ c ∷ [])
operands_fit (Op.CoroCurrent pc dst) = bits 32 pc && bits 16 dst
operands_fit (Op.CoroKey pc dst c) = bits 32 pc && are_registers (dst ∷ c ∷ [])
operands_fit (Op.CoroResult pc dst c) = bits 32 pc && are_registers (dst ∷ c ∷ [])
operands_fit (Op.IterNext pc has iter val src) = bits 32 pc && are_registers (has ∷ iter ∷ val ∷ src ∷ [])
operands_fit (Op.Finish kind x) = bits 64 x
operands_fit (Op.Unwind f pc) = bits 64 (word_of f) && stored pc
operands_fit (Op.SpawnTask x) = bits 64 x
operands_fit (Op.HostCall f) = bits 32 f
operands_fit (Op.HostEntry c x) = bits 64 c && bits 64 x
operands_fit (Op.FunctionCall pc f cont) = bits 32 pc && bits 32 f
operands_fit (Op.PutWord r x) = bits 16 r && bits 64 x
operands_fit (Op.MakeIterator x) = bits 64 x
operands_fit Op.TakeOutcome = true
operands_fit (Op.HandOver x) = bits 64 x
operands_fit (Op.Grant n) = bits 64 n
operands_fit Op.StopRun = true
operands_fit Op.Look = true
