-- An outcome in four words: the number of what the coroutine did, the word handed on, and of a failure the function and the pc.
use Rattle.std.specs.Prelude.{ℕ, eqb, Option, Some, None}
use Rattle.lists.specs.Pick.{pick}
use Rattle.model.specs.declared.machine.Stop.{Stop}
use Rattle.memory_world.specs.declared.machine.Told.{Told}

abbrev four : ℕ → ℕ → ℕ → ℕ → Told
four n v f p = record { 0 = n; 1 = v; 2 = f; 3 = p }

-- 0 is no outcome
abbrev pub told : Option Stop → Told
told None = four 0 0 0 0
told (Some (Stop.Yielded v)) = four 1 v 0 0
told (Some (Stop.Awaiting v)) = four 2 v 0 0
told (Some (Stop.Returned v)) = four 3 v 0 0
told (Some (Stop.Failed v f p)) = four 4 v f p
told (Some Stop.CloseIgnored) = four 5 0 0 0

-- the outcome that the words tell
abbrev pub outcome_in : Told → Option Stop
outcome_in t =
    pick (eqb t.0 0) None
    (pick (eqb t.0 1) (Some (Stop.Yielded t.1))
    (pick (eqb t.0 2) (Some (Stop.Awaiting t.1))
    (pick (eqb t.0 3) (Some (Stop.Returned t.1))
    (pick (eqb t.0 4) (Some (Stop.Failed t.1 t.2 t.3))
    (Some Stop.CloseIgnored)))))
