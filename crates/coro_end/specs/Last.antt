-- coro.rs: coro_returned, coro_escaped, abort_coros: the innermost coroutine leaves the chain, and ends.
use Rattle.std.specs.Prelude.{List, [], ◌∷◌, ℕ}
use Rattle.heap.specs.declared.object.CoroState.{CoroState}
use Rattle.model.specs.World.{World, with_chain}
use Rattle.model.specs.Coro.{finish_coroutine, fail_all}
use Rattle.model.specs.declared.machine.Active.{Active}
use Rattle.memory_world.specs.Rows.{Rowed}
use Rattle.memory_world.specs.Memory.{Lent, Beside, on_chain, on_slots, on_saved}

-- the chain, the slots and the rows are lent
abbrev pub ending : {X : Type 0} → X → X → X → X → (X → List ℕ) → Beside → Lent
ending c o r q t b = on_chain (t c) (on_slots (t o) (on_saved (t r) (t q) b.words))

-- a world whose rows are in order
abbrev pub InRows : World → Type 0
InRows w = Rowed w.setup w.slots

abbrev pub end_on : List Active → CoroState → ℕ → World → World
end_on [] s result w = w
end_on (a ∷ chain) s result w = finish_coroutine a.coro s result (with_chain chain w)

-- the innermost coroutine, if there is one
abbrev pub end_last : CoroState → ℕ → World → World
end_last s result w = end_on w.chain s result w

-- every active coroutine
abbrev pub fail_active : World → World
fail_active w = with_chain [] (fail_all w.chain w)
