-- `bvm_try_resume_unchecked` and `bvm_try_yield_unchecked`: a switch that nothing refuses is done on the words; any other is left to `bvm_call_unchecked`.
use Rattle.std.specs.Prelude.{◌≡◌, Bool, true, List, ℕ, Ok}
use Rattle.lists.specs.Parts.{splice}
use Rattle.model.specs.declared.call.Op.{Op}
use Rattle.memory_world.specs.Memory.{Lent, Beside}
use Rattle.memory_calls.specs.Answer.{answer_words}
use Rattle.linked_calls.specs.Host.{host, passes_test, one_or, gave, kept_in}
use Rattle.linked_switch.specs.Went.{goes_on}

-- they are lent the six slices that a switch moves words between; M is of the queues and the set-up, which stay with the host
pub record SwitchFits (M : Beside → Lent) (ms fs : List ℕ) : Type 0 where
  pub beside : Beside
  pub sound : passes_test (host (M beside) ms fs) ≡ true

pub record Switched (o : Op) (goes : Bool) (M M' : Beside → Lent) (ms fs ms' fs' : List ℕ) (r : ℕ) : Type 0 where
  -- 1 exactly if the tests are passed (may_enter, may_leave), else 0
  pub told : r ≡ one_or goes
  -- 0: every word is as it was
  pub left : r ≡ 0 → (b : Beside) → host (M' b) ms' fs' ≡ host (M b) ms fs
  -- 1: with whatever queues and set-up the machine passes, all that `bvm_call_unchecked` leaves and answers; the answer is goesOn's, and is not written
  pub done : r ≡ 1 → (b : Beside) (xs : List ℕ) → passes_test (host (M b) ms fs) ≡ true
      → gave (host (M' b) ms' fs') (splice xs 0 (answer_words goes_on)) 0 ≡ kept_in (host (M b) ms fs) (Ok o) xs
