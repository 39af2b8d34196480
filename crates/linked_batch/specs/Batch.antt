-- A call of a list on a machine in words that is known to be sound, its answer in the eight words at place i; and a list of them.
use Rattle.std.specs.Prelude.{◌≡◌, true, List, ℕ, ◌+◌, ◌*◌, ◌^◌, ◌≤◌, ◌<◌, length, Result}
use Rattle.lists.specs.Chunks.{put_chunk}
use Rattle.memory_calls.specs.Answer.{answer_words}
use Rattle.memory_calls.specs.declared.call.Gate.{Gate}
use Rattle.model.specs.declared.call.Op.{Op}
use Rattle.outer_run.specs.Run.{do_words, count_of, Listed}
use Rattle.linked_calls.specs.Host.{Host, state_of, passes_test, overwritten}
use Rattle.linked_batch.specs.declared.one.Route.{Route}

pub record PutFits (h : Host) (xs : List ℕ) (i : ℕ) : Type 0 where
  pub sound : passes_test h ≡ true
  pub room : i * 8 + 8 ≤ length xs

-- a switch, with a pc of 32 bits
pub record SwitchPutFits (h : Host) (xs : List ℕ) (i pc : ℕ) : Type 0 where
  pub put : PutFits h xs i
  pub narrow : pc < 2 ^ 32

-- a switch goes by its code; its pc has 32 bits, and 0 stands after its operands
pub record Goes (n a d e : ℕ) (r : Route) : Type 0 where
  pub resume : r ≡ Route.Resume → (n ≡ 6) × (a < 2 ^ 32) × (e ≡ 0)
  pub yield : r ≡ Route.Yield → (n ≡ 3) × (a < 2 ^ 32) × (d ≡ 0) × (e ≡ 0)

-- the call at place i, whose words may be fewer than six
pub record OneFits (h : Host) (cs xs : List ℕ) (i : ℕ) : Type 0 where
  pub put : PutFits h xs i
  pub call : i * 6 ≤ length cs

-- what `bvm_call_unchecked` leaves (boundary: kept_in), with the answer at its place; the machine is sound again
pub record One (h : Host) (r : Result Op Gate) (xs : List ℕ) (i : ℕ) (h' : Host) (xs' : List ℕ) : Type 0 where
  pub host : h' ≡ overwritten h (do_words (state_of h) r).state
  pub answers : xs' ≡ put_chunk 8 xs i (answer_words (do_words (state_of h) r).answer)
  pub sound : passes_test h' ≡ true

-- as many calls as the words hold, and words enough for their answers
pub record BatchFits (h : Host) (cs xs : List ℕ) (n : ℕ) : Type 0 where
  pub sound : passes_test h ≡ true
  pub calls : n ≡ count_of (length cs)
  pub room : n * 8 ≤ length xs

pub record Done (h : Host) (cs xs : List ℕ) (n : ℕ) (h' : Host) (xs' : List ℕ) : Type 0 where
  pub listed : Listed (state_of h) cs xs n (state_of h') xs'
  pub written : h' ≡ overwritten h (state_of h')
