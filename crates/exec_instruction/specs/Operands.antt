-- 01: Gate. The operands of a call, tested by three numbers: how many functions there are, the top frame's base, the stack's height.
use Rattle.std.specs.Prelude.{◌≡◌, Bool, true, ℕ, length}
use Rattle.model.specs.World.{World}
use Rattle.model.specs.Frames.{top_base}
use Rattle.model.specs.Calls.{Row, Instruction, OnFrame, OnHost, Unwinds, Grants, Looks, Other}

-- the top frame's registers lie from b to h
pub record Based (w : World) (b h : ℕ) : Type 0 where
  pub base : b ≡ top_base w.frames
  pub height : h ≡ length w.stack

-- .. and there are n functions
pub record Numbered (w : World) (n b h : ℕ) : Type 0 where
  pub functions : n ≡ length w.setup.functions
  pub based : Based w b h

-- a test's result, of every world whose top frame lies so
abbrev pub Tested : ℕ → ℕ → (World → Bool) → Bool → Type 0
Tested base height test r = (w : World) → Based w base height → r ≡ test w

-- whether the operands of a row pass
abbrev pub operands_of : Row → World → Bool
operands_of (Instruction pc operands arm) w = operands w
operands_of (OnFrame operands body) w = operands w
operands_of (OnHost operands body) w = operands w
operands_of (Unwinds f pc) w = true
operands_of (Grants n) w = true
operands_of Looks w = true
operands_of (Other body) w = true

-- of every world with these numbers
abbrev pub Passes : Row → ℕ → ℕ → ℕ → Bool → Type 0
Passes x functions base height r = (w : World) → Numbered w functions base height → r ≡ operands_of x w
