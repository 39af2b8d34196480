-- A queue in words: each names a coroutine that is marked, and none stands there twice.
use Rattle.std.specs.Prelude.{Bool, false, ◌&&◌, List, ℕ, ◌*◌, ◌/◌, ◌%◌, ◌^◌, ◌≤◌, eqb, length, get_or, take, Result, Ok, Err}
use Rattle.lists.specs.Pick.{pick}
use Rattle.heap.specs.Slot.{width}
use Rattle.heap.specs.Table.{Slot}
use Rattle.heap.specs.Heap.{coro_of}
use Rattle.heap.specs.declared.object.CoroObj.{CoroObj}
use Rattle.heap.specs.declared.object.Object as H
use Rattle.heap.specs.declared.fault.Fault.{Fault}
use Rattle.model.specs.Lists.{each, distinct}
use Rattle.memory_sound.specs.Words.{rest_ok}

-- what a word names is a coroutine that passes a test
abbrev pub by_coro : (CoroObj → Bool) → Result (ℕ × CoroObj) Fault → Bool
by_coro test (Ok (i, c)) = test c
by_coro test (Err f) = false

-- a task; handed over for a cleanup
abbrev pub mark_of : Bool → CoroObj → Bool
mark_of task c = pick task c.task c.finalized

abbrev pub marks_ok : Bool → List (Slot H.Object) → List ℕ → Bool
marks_ok task xs q = each (λ v. by_coro (mark_of task) (coro_of xs v)) q

-- "queues hold coroutines, each not twice in one queue, the ready queue only tasks and the cleanup queue only finalized ones"
abbrev pub entries_ok : Bool → List (Slot H.Object) → List ℕ → Bool
entries_ok task xs q = marks_ok task xs q && distinct q

-- the first n words, and zeros after them
abbrev pub queue_held : Bool → List (Slot H.Object) → List ℕ → ℕ → Bool
queue_held task xs q n = entries_ok task xs (take n q) && rest_ok q n

-- ---- a set of slots in 64 words

abbrev pub bit_at : ℕ → ℕ → Bool
bit_at w i = eqb (w / 2 ^ i % 2) 1

abbrev pub in_set : List ℕ → ℕ → Bool
in_set ws x = bit_at (get_or ws (x / 64) 0) (x % 64)

-- ---- words enough

pub record QueueAsks (q slots : List ℕ) (n count : ℕ) : Type 0 where
  pub within : n ≤ length q
  pub table : count * width ≤ length slots
  pub few : count ≤ 4096
