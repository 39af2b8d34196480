-- machine.rs: apply_cont, finish, on the lent words.
use Rattle.std.specs.Prelude.{◌≡◌, true, ◌-◌, ◌≤◌, length}
use Rattle.model.specs.Sound.{cont_lies}
use Rattle.model.specs.declared.machine.Cont.{Cont}
use Rattle.memory_tables.specs.Layout.{frame_in}
use Rattle.memory_world.specs.Memory.{Lent, Beside}
use Rattle.memory_world.specs.Contract.{Ok, only}
use Rattle.memory_world.specs.declared.machine.Machine.{Machine}
use Rattle.memory_world.specs.declared.machine.Sizes.{Sizes}
use Rattle.machine_state.specs.Way.{way_of}
use Rattle.machine_state.specs.declared.way.Way.{Way}

-- ---- apply_cont

-- a sound world, and a continuation whose register lies in its top frame
pub record ContFits (sizes : Sizes) (M : Beside → Lent) (m : Machine) (c : Cont) : Type 0 where
  pub ok : Ok sizes M (only m)
  pub lies : cont_lies c (length ok.world.stack) ok.world.frames ≡ true

-- ---- finish

-- a sound world with a top frame, and the continuation of that frame
pub record TopFits (sizes : Sizes) (M : Beside → Lent) (m : Machine) (c : Cont) : Type 0 where
  pub ok : Ok sizes M (only m)
  pub some : 1 ≤ m.depth
  pub top : (frame_in (M ok.beside).frames (m.depth - 1)).cont ≡ c

-- .. which is a call's
pub record EndFits (sizes : Sizes) (M : Beside → Lent) (m : Machine) (c : Cont) : Type 0 where
  pub on : TopFits sizes M m c
  pub call : way_of c ≡ Way.Caller
