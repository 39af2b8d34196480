-- Resume on a machine in words, where nothing refuses it.
use Rattle.std.specs.Prelude.{List, ℕ, get_or}
use Rattle.linked_switch.specs.Went.{Holds}
use Rattle.linked_switch.specs.Enters.{Enterable}

pub record ResumeAtFits (stack frames chain slots saved_stack saved_frames ms fs : List ℕ) (pc dst c src v i : ℕ) : Type 0 where
  pub held : Holds stack frames chain slots saved_stack saved_frames ms fs pc
  pub enterable : Enterable stack frames slots ms (get_or fs 0 0) dst c src i v
