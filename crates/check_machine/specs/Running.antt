-- The running coroutines: those of the chain, each its own.
use Rattle.std.specs.Prelude.{ℕ, ◌*◌, ◌≤◌, ◌≡◌, Bool, ◌&&◌, List, map, length, Option, is_some, IfSome}
use Rattle.heap.specs.Word.{slot_of}
use Rattle.heap.specs.Slot.{width}
use Rattle.heap.specs.State.{is_running}
use Rattle.heap.specs.Table.{Slot}
use Rattle.heap.specs.Heap.{coro_of}
use Rattle.heap.specs.declared.object.CoroObj.{CoroObj}
use Rattle.heap.specs.declared.object.Object as H
use Rattle.model.specs.Lists.{each, among, distinct}
use Rattle.model.specs.Sound.{coros}
use Rattle.memory_tables.specs.Layout.{active_of}
use Rattle.memory_tables.specs.Parts.{piled}
use Rattle.check_tables.specs.Queue.{by_coro, in_set}

abbrev pub running : CoroObj → Bool
running c = is_running c.state

-- the words of the n active ones, the top one first
abbrev pub active_words : List ℕ → ℕ → List ℕ
active_words chain n = coros (piled 6 active_of n chain)

-- "each at a Coro frame of a Running coroutine of its own"
abbrev pub running_test : List ℕ → ℕ → List (Slot H.Object) → Bool
running_test chain n xs = each (λ v. by_coro running (coro_of xs v)) (active_words chain n) && distinct (active_words chain n)

pub record RunningAsks (chain slots : List ℕ) (n count : ℕ) : Type 0 where
  pub on_chain : n * 6 ≤ length chain
  pub table : count * width ≤ length slots
  pub few : count ≤ 4096

pub record RunningTold (chain : List ℕ) (n : ℕ) (xs : List (Slot H.Object)) (r : Option (List ℕ)) : Type 0 where
  pub good : is_some r ≡ running_test chain n xs
  pub long : IfSome r (λ set. length set ≡ 64)
  -- the slots that the chain names
  pub set : IfSome r (λ set. (x : ℕ) → in_set set x ≡ among x (map slot_of (active_words chain n)))
