-- coro.rs: start_finalizer on the lent words: a search of the cleanup queue, and what then happens.
use Rattle.std.specs.Prelude.{◌≡◌, Bool, true, false, ◌&&◌, List, [], ◌∷◌, ℕ, suc, ◌*◌, ◌≤◌, ◌<◌, length, get_or, drop, eqb, Result, Err, is_ok}
use Rattle.lists.specs.Pick.{pick}
use Rattle.heap.specs.Fault.{number_of}
use Rattle.heap.specs.Word.{nil}
use Rattle.heap.specs.Heap.{coro_of, slots_of, TableFits}
use Rattle.heap.specs.declared.object.CoroObj.{CoroObj}
use Rattle.heap.specs.declared.fault.Fault.{Fault}
use Rattle.model.specs.State.{is_suspended}
use Rattle.model.specs.World.{World, After, after, with_finalize}
use Rattle.model.specs.Heap.{change_coro}
use Rattle.model.specs.Fuel.{set_finalizing}
use Rattle.model.specs.Coro.{coro_enter}
use Rattle.model.specs.Cleanup.{close, started}
use Rattle.model.specs.declared.coro.Started.{Started}
use Rattle.model.specs.declared.machine.Driver.{Driver}
use Rattle.model.specs.declared.machine.Fuel.{Fuel}
use Rattle.memory_world.specs.Memory.{Lent, Beside, on_finalize}
use Rattle.memory_world.specs.Contract.{Ok, with}
use Rattle.memory_world.specs.declared.machine.Machine.{Machine}
use Rattle.memory_world.specs.declared.machine.Sizes.{Sizes}
use Rattle.coro_enter.specs.Enter.{refusal_of}

-- ---- the search

-- the index of the first that passes the test; their number, if none does
abbrev pub first_of : (ℕ → Bool) → List ℕ → ℕ
first_of p [] = 0
first_of p (x ∷ xs) = pick (p x) 0 (suc (first_of p xs))

-- a coroutine found in the words: it is suspended, and coro_enter accepts it
abbrev pub starts_as : Machine → Sizes → Result (ℕ × CoroObj) Fault → Bool
starts_as m sizes (Err f) = false
starts_as m sizes (Result.Ok (i, c)) = is_suspended c.state && is_ok (refusal_of m.height m.depth sizes c)

-- the coroutine that a word names
abbrev pub starts : List ℕ → Machine → Sizes → ℕ → Bool
starts slots m sizes v = starts_as m sizes (coro_of (slots_of m.count slots) v)

-- the slots lie in the words, the frames and the stack within their limits
pub record MayFits (slots : List ℕ) (m : Machine) (sizes : Sizes) : Type 0 where
  pub table : TableFits slots m.count
  pub depth : m.depth ≤ sizes.depth
  pub height : m.height ≤ sizes.stack

-- .. and so does the queue
pub record SearchFits (slots queue : List ℕ) (m : Machine) (sizes : Sizes) : Type 0 where
  pub may : MayFits slots m sizes
  pub words : m.finalize ≤ length queue

-- ---- what it leads to

-- the cleanup queue alone is lent
module _ {X : Type 0} where
  abbrev pub queue : X → (X → List ℕ) → Beside → Lent
  queue z t b = on_finalize (t z) b.words

-- no word starts: all are taken off
abbrev pub start_none : World → After Started
start_none w = after (set_finalizing false (with_finalize [] w)) (started false (length w.finalize))

-- the word at index i starts: it and those before it are taken off
abbrev pub start_at : ℕ → World → After Started
start_at i w =
    let c = get_or w.finalize i 0 in
    let e = coro_enter c Driver.Finalize (with_finalize (drop (suc i) w.finalize) w) in
    after (set_finalizing true (change_coro c (λ k. k) (close nil) e.world)) (started true (suc i))

-- a sound world, and a word of its queue
pub record StartFits (sizes : Sizes) (M : Beside → Lent) (m : Machine) (fuel : Fuel) (i : ℕ) : Type 0 where
  pub ok : Ok sizes M (with m fuel)
  pub below : i < m.finalize
