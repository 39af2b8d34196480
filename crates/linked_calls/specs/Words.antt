-- What is passed by value inside, in lent words: a machine's numbers in 13, its set-up's sizes in the 12 after them, the fuel in four.
use Rattle.std.specs.Prelude.{List, [], ◌∷◌, ℕ, get_or, eqb, Option, Some, None}
use Rattle.lists.specs.Pick.{pick}
use Rattle.heap.specs.Slot.{flag, is_set}
use Rattle.model.specs.declared.machine.Fuel.{Fuel}
use Rattle.memory_world.specs.declared.machine.Machine.{Machine}
use Rattle.memory_world.specs.declared.machine.Sizes.{Sizes}

-- ---- the machine's numbers; the last four are the outcome's

abbrev pub machine_words : Machine → List ℕ
machine_words m =
    m.height ∷ m.depth ∷ m.active ∷ m.count ∷ m.ready ∷ m.finalize ∷ flag m.finalizing ∷ m.used ∷ m.seq
    ∷ m.outcome.0 ∷ m.outcome.1 ∷ m.outcome.2 ∷ m.outcome.3 ∷ []

abbrev pub machine_in : List ℕ → Machine
machine_in ws =
    record {
      height = get_or ws 0 0;
      depth = get_or ws 1 0;
      active = get_or ws 2 0;
      count = get_or ws 3 0;
      ready = get_or ws 4 0;
      finalize = get_or ws 5 0;
      finalizing = is_set (get_or ws 6 0);
      outcome = record { 0 = get_or ws 9 0; 1 = get_or ws 10 0; 2 = get_or ws 11 0; 3 = get_or ws 12 0 };
      used = get_or ws 7 0;
      seq = get_or ws 8 0;
    }

-- ---- the sizes: five limits, the words of a row, six costs

abbrev pub sizes_words : Sizes → List ℕ
sizes_words sizes =
    sizes.depth ∷ sizes.stack ∷ sizes.rows ∷ sizes.slots ∷ sizes.memory ∷ sizes.width
    ∷ sizes.costs.frame ∷ sizes.costs.coro ∷ sizes.costs.object ∷ sizes.costs.int ∷ sizes.costs.error ∷ sizes.costs.iter ∷ []

abbrev pub sizes_in : List ℕ → Sizes
sizes_in ws =
    record {
      depth = get_or ws 13 0;
      stack = get_or ws 14 0;
      rows = get_or ws 15 0;
      slots = get_or ws 16 0;
      memory = get_or ws 17 0;
      width = get_or ws 18 0;
      costs = record { frame = get_or ws 19 0; coro = get_or ws 20 0; object = get_or ws 21 0; int = get_or ws 22 0; error = get_or ws 23 0; iter = get_or ws 24 0 };
    }

-- ---- the fuel: what is left, whether some is set aside, how much, whether a cleanup is ready

abbrev pub bank_words : Option ℕ → ℕ → List ℕ
bank_words None r = 0 ∷ 0 ∷ r ∷ []
bank_words (Some n) r = 1 ∷ n ∷ r ∷ []

abbrev pub fuel_words : Fuel → List ℕ
fuel_words f = f.fuel ∷ bank_words f.bank (flag f.ready)

abbrev pub bank_of : ℕ → ℕ → Option ℕ
bank_of n a = pick (eqb n 0) None (Some a)

abbrev pub fuel_in : List ℕ → Fuel
fuel_in ws = record { fuel = get_or ws 0 0; bank = bank_of (get_or ws 1 0) (get_or ws 2 0); ready = is_set (get_or ws 3 0) }
