-- 01: Gate, and an instruction behind it, on the lent words.
use Rattle.std.specs.Prelude.{◌≡◌, List, ℕ, ◌^◌, ◌<◌}
use Rattle.model.specs.declared.call.Op.{Op}
use Rattle.memory_world.specs.Memory.{Lent, Beside, on_finalize, on_setup}
use Rattle.memory_world.specs.Lendings.{six}
use Rattle.exec_arm.specs.Arm.{OfInstruction}

-- an instruction's pc
pub record PcIs (o : Op) (pc : ℕ) : Type 0 where
  pub is : OfInstruction o (λ n operands arm. pc ≡ n)
  pub narrow : pc < 2 ^ 32

-- all but the ready queue are lent
module _ {X : Type 0} where
  abbrev pub gating : X → X → X → X → X → X → X → X → (X → List ℕ) → Beside → Lent
  gating s f c o r q z u t b = six s f c o r q t (record { words = on_finalize (t z) (on_setup (t u) b.words); fuel = b.fuel })
