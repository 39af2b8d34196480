-- 01: "Closing list", each of its sentences by itself: no rule of the machine is cited. The test of a set-up is this (`Exactly.antt`).
use Rattle.std.specs.Prelude.{ℕ, zero, suc, ◌^◌, ◌≤◌, ◌<◌, List, [], ◌∷◌, length, Option, Some, None}
use Rattle.model.specs.Program.{Func, Setup}
use Rattle.model.specs.declared.program.Handler.{Handler}

abbrev pub Within : ℕ → ℕ → ℕ → Type 0
Within a b n = (a ≤ n) × (n ≤ b)

abbrev pub All : {A : Type 0} → (A → Type 0) → List A → Type 0
All P [] = Unit {0}
All P (x ∷ xs) = P x × All P xs

-- "each with a catch register of its own frame"; a pc has 32 bits
pub record HandlerFits (regs : ℕ) (h : Handler) : Type 0 where
  pub catch : h.catch < regs
  pub start : h.start < 2 ^ 32
  pub end : h.end < 2 ^ 32
  pub target : h.target < 2 ^ 32

-- "registers 0-256, parameters at most registers. Every function has at most eight handlers"
pub record FunctionFits (f : Func) : Type 0 where
  pub registers : f.regs ≤ 256
  pub parameters : f.params ≤ f.regs
  pub eight : length f.handlers ≤ 8
  pub handlers : All (HandlerFits f.regs) f.handlers

-- function n is there, and has a register
abbrev pub HasRegister : List Func → ℕ → Type 0
HasRegister [] n = ⊥
HasRegister (f ∷ fs) zero = 1 ≤ f.regs
HasRegister (f ∷ fs) (suc n) = HasRegister fs n

-- "Hook: none, or a function with a register."
abbrev pub HookFits : Option ℕ → List Func → Type 0
HookFits None fs = Unit {0}
HookFits (Some n) fs = HasRegister fs n

-- "Depth 1-128, stack 1-1,024 words, rows 1-64, slots 1-4,096 and not fewer than the functions, functions 1-32 .. Costs 0-65,536. Memory
-- limit: any 64-bit number."
pub record ClosingList (s : Setup) : Type 0 where
  pub depth : Within 1 128 s.limits.depth
  pub stack : Within 1 1024 s.limits.stack
  pub rows : Within 1 64 s.limits.rows
  pub slots : Within 1 4096 s.limits.slots
  pub enough : length s.functions ≤ s.limits.slots
  pub functions : Within 1 32 (length s.functions)
  pub each : All FunctionFits s.functions
  pub hook : HookFits s.hook s.functions
  pub frame-cost : s.costs.frame ≤ 65536
  pub coro-cost : s.costs.coro ≤ 65536
  pub object-cost : s.costs.object ≤ 65536
  pub int-cost : s.costs.int ≤ 65536
  pub error-cost : s.costs.error ≤ 65536
  pub iter-cost : s.costs.iter ≤ 65536
  pub memory : s.limits.memory < 2 ^ 64
