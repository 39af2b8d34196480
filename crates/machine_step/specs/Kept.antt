-- A call on sound words, which are not tested: what it leaves and answers, and that its words may be lent to the next call.
use Rattle.std.specs.Prelude.{◌≡◌, true}
use Rattle.model.specs.World.{World, After, after}
use Rattle.model.specs.Sound.{sound}
use Rattle.model.specs.Call.{typed}
use Rattle.model.specs.Step.{call}
use Rattle.model.specs.declared.call.Op.{Op}
use Rattle.model.specs.declared.call.Answer.{Answer}
use Rattle.model.specs.declared.machine.Fuel.{Fuel}
use Rattle.memory_world.specs.Memory.{Lent, Beside}
use Rattle.memory_world.specs.Contract.{Lending, Numbers, Met, Ok, if_sound, with, at_exit}
use Rattle.memory_world.specs.declared.machine.Machine.{Machine}
use Rattle.memory_world.specs.declared.machine.Sizes.{Sizes}

-- what an operation leaves, and answers
abbrev pub did : Op → World → After Answer
did o w = after (call o w).world (call o w).answer

-- a sound world, and operands that their types hold, as those of any `Op` do (`widths`)
pub record DispatchFits (sizes : Sizes) (M : Beside → Lent) (m : Machine) (fuel : Fuel) (o : Op) : Type 0 where
  pub ok : Ok sizes M (with m fuel)
  pub within : typed o ≡ true

pub record Keeps (sizes : Sizes) (o : Op) (L : Lending) (n n' : Numbers) (a : Answer) : Type 0 where
  -- of every sound world that the words stood for, they stand for what the call leaves, and the answer is the call's
  pub met : Met if_sound sizes (did o) L n n' a
  -- which is sound again
  pub sound : (w : World) → sound w ≡ true → sound (did o w).world ≡ true
  -- so they stand for a sound world, with words enough: the next call may be made
  pub again : Ok sizes (L at_exit) n'
