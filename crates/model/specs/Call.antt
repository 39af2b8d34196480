-- The calls, and the operands that their types can hold.
use Rattle.std.specs.Prelude.{ℕ, ◌^◌, ◌≡◌, Bool, true, ◌&&◌, List, [], ◌∷◌, ltb, Option, Some, None}
use Rattle.heap.specs.Fault.{word_of}
use Rattle.model.specs.Lists.{each}
use Rattle.model.specs.Program.{Setup}
use Rattle.model.specs.declared.call.Op.{Op}

-- registers have 16 bits, argument counts 8, pc and function numbers 32, words 64
abbrev pub is_reg : ℕ → Bool
is_reg r = ltb r (2 ^ 16)

abbrev pub are_regs : List ℕ → Bool
are_regs rs = each is_reg rs

abbrev pub is_argc : ℕ → Bool
is_argc n = ltb n (2 ^ 8)

abbrev pub is_pc : ℕ → Bool
is_pc pc = ltb pc (2 ^ 32)

abbrev pub is_word : ℕ → Bool
is_word v = ltb v (2 ^ 64)

abbrev pub opt_pc : Option ℕ → Bool
opt_pc None = true
opt_pc (Some pc) = is_pc pc

-- every operand is a value of its type in `Op`; a continuation's register lies in the frame, or the gate refuses it
unfoldable pub typed : Op → Bool
typed (Op.CoroNew pc dst f argc) = is_pc pc && is_reg dst && is_pc f && is_argc argc
typed (Op.CoroNewIndirect pc dst callee argc) = is_pc pc && are_regs (dst ∷ callee ∷ []) && is_argc argc
typed (Op.Spawn pc dst callee argc) = is_pc pc && are_regs (dst ∷ callee ∷ []) && is_argc argc
typed (Op.Yield pc dst src) = is_pc pc && are_regs (dst ∷ src ∷ [])
typed (Op.YieldKv pc dst src key) = is_pc pc && are_regs (dst ∷ src ∷ key ∷ [])
typed (Op.Await pc dst src) = is_pc pc && are_regs (dst ∷ src ∷ [])
typed (Op.Resume pc dst c src) = is_pc pc && are_regs (dst ∷ c ∷ src ∷ [])
typed (Op.ResumeThrow pc dst c src) = is_pc pc && are_regs (dst ∷ c ∷ src ∷ [])
typed (Op.CoroClose pc dst c src) = is_pc pc && are_regs (dst ∷ c ∷ src ∷ [])
typed (Op.CoroStatus pc dst c) = is_pc pc && are_regs (dst ∷ c ∷ [])
typed (Op.CoroCurrent pc dst) = is_pc pc && is_reg dst
typed (Op.CoroKey pc dst c) = is_pc pc && are_regs (dst ∷ c ∷ [])
typed (Op.CoroResult pc dst c) = is_pc pc && are_regs (dst ∷ c ∷ [])
typed (Op.IterNext pc has iter val src) = is_pc pc && are_regs (has ∷ iter ∷ val ∷ src ∷ [])
typed (Op.Finish kind v) = is_word v
typed (Op.Unwind f pc) = is_word (word_of f) && opt_pc pc
typed (Op.SpawnTask v) = is_word v
typed (Op.HostCall f) = is_pc f
typed (Op.HostEntry c v) = is_word c && is_word v
typed (Op.FunctionCall pc f cont) = is_pc pc && is_pc f
typed (Op.PutWord r v) = is_reg r && is_word v
typed (Op.MakeIterator v) = is_word v
typed Op.TakeOutcome = true
typed (Op.HandOver v) = is_word v
typed (Op.Grant n) = is_word n
typed Op.StopRun = true
typed Op.Look = true

-- a number stands for any of these types, so an operation is one with such operands: no other can be written
pub record Operation : Type 0 where
  pub op : Op
  pub within : typed op ≡ true

-- one call: a set-up with its numbers, or an operation
pub data Call : Type 0 where
  SetUp : Setup → Call
  Do : Operation → Call

abbrev pub as_call : (o : Op) → typed o ≡ true → Call
as_call o h = Do (record { op = o; within = h })
