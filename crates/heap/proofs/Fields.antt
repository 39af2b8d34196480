-- Fields of a coroutine read from its slot's words, and replaced there. Assumes nothing.
use mathlib.Core.Path.{◌≡◌, sym, ap, ◌∙◌}
use mathlib.Core.List.{List}
use Prim.Native.Nat.{ℕ}
use Rattle.lists.specs.Chunks.{chunk_at, put_chunk}
use Rattle.heap.specs.Object.{as_closing, as_task, as_finalized, as_entered, as_yielded}
use Rattle.heap.specs.Table.{slot}
use Rattle.heap.specs.Slot.{width, coro_at, slot_words, closing_words, task_words, finalized_words, entered_words, yielded_words, suspended_words}
use Rattle.heap.specs.Heap.{coro_in, put_slot}
use Rattle.heap.specs.declared.object.CoroObj.{CoroObj}
use Rattle.heap.specs.declared.object.Object.TheVariants as O
use Rattle.heap.proofs.Slots.{set-flag, state-back}

-- the words of a coroutine decode to it
pub coro-back : (t : ℕ) (c : CoroObj) → coro_at (slot_words (slot t (O.Coro c))) ≡ c
coro-back t c = rw (state-back c.state, set-flag c.closing, set-flag c.finalized, set-flag c.task)

-- the coroutine c stands at place i
module _ (ws : List ℕ) (i t : ℕ) (c : CoroObj) (here : chunk_at width ws i ≡ slot_words (slot t (O.Coro c))) where
  pub coro-here : coro_in ws i ≡ c
  coro-here = ap coro_at here ∙ coro-back t c

  -- after a function that writes some of its words, its slot is that of the changed coroutine
  pub closes : (ws' : List ℕ) (v : ℕ) → ws' ≡ put_chunk width ws i (closing_words v (chunk_at width ws i)) → ws' ≡ put_slot ws i (slot t (O.Coro (as_closing v c)))
  closes ws' v e = e ∙ ap (λ (z : List ℕ). put_chunk width ws i (closing_words v z)) here

  pub tasks : (ws' : List ℕ) → ws' ≡ put_chunk width ws i (task_words (chunk_at width ws i)) → ws' ≡ put_slot ws i (slot t (O.Coro (as_task c)))
  tasks ws' e = e ∙ ap (λ (z : List ℕ). put_chunk width ws i (task_words z)) here

  pub finalizes : (ws' : List ℕ) → ws' ≡ put_chunk width ws i (finalized_words (chunk_at width ws i)) → ws' ≡ put_slot ws i (slot t (O.Coro (as_finalized c)))
  finalizes ws' e = e ∙ ap (λ (z : List ℕ). put_chunk width ws i (finalized_words z)) here

  pub enters : (ws' : List ℕ) → ws' ≡ put_chunk width ws i (entered_words (chunk_at width ws i)) → ws' ≡ put_slot ws i (slot t (O.Coro (as_entered c)))
  enters ws' e = e ∙ ap (λ (z : List ℕ). put_chunk width ws i (entered_words z)) here

  -- the words that such a yield writes are those of the suspension
  pub yields : (ws' : List ℕ) (regs frames waiting payload key largest : ℕ) → ws' ≡ put_chunk width ws i (yielded_words regs frames waiting payload key largest (chunk_at width ws i))
      → ws' ≡ put_chunk width ws i (suspended_words (as_yielded regs frames waiting payload key largest c) (chunk_at width ws i))
  yields ws' regs frames waiting payload key largest e =
      e ∙ ap (λ (z : List ℕ). put_chunk width ws i (yielded_words regs frames waiting payload key largest z)) here
      ∙ ap (λ (z : List ℕ). put_chunk width ws i (suspended_words (as_yielded regs frames waiting payload key largest c) z)) (sym here)
