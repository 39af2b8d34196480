-- A coroutine's fields read and replaced in the words are those of the world. Assumes nothing.
use mathlib.Core.Path.{◌≡◌, sym, ap, ap₂, ◌∙◌, subst}
use mathlib.Core.Bool.{true, false}
use mathlib.Core.List.{List, []}
use Prim.Native.Nat.{ℕ, ◌<◌}
use native.Mathlib.Omega.{arith}
use lib.ListN.{length, get_or, set, length-map}
use lib.Seq.{set-get_or}
use Rattle.lists.specs.Chunks.{chunk_at, put_chunk}
use Rattle.heap.specs.Word.{slot_of, tag_of}
use Rattle.heap.specs.Table.{Slot, slot, put_object}
use Rattle.heap.specs.Object.{as_closing, as_task, as_finalized}
use Rattle.heap.specs.Slot.{width, slot_words, closing_words, task_words, finalized_words}
use Rattle.heap.specs.Heap.{coro_in, put_slot}
use Rattle.heap.specs.declared.object.CoroObj.{CoroObj}
use Rattle.heap.specs.declared.object.Object as H
use Rattle.heap.specs.declared.object.Object.TheVariants as O
use Rattle.heap.proofs.Fields.{coro-here, closes, tasks, finalizes}
use Rattle.model.specs.Lists.{distinct}
use Rattle.model.specs.State.{is_finished}
use Rattle.model.specs.Object.{Core, Rest, Object, with_task, with_finalized}
use Rattle.model.specs.Rows.{held_rows}
use Rattle.model.specs.Cleanup.{close}
use Rattle.claims_sound.proofs.Point.{Points, finds}
use Rattle.memory_world.specs.Slots.{to_coro, to_slot, to_slots}
use Rattle.memory_world.specs.Memory.{Slots, regs_rows, frames_rows}
use Rattle.memory_world.proofs.Slots.{at_map, put_same}
use Rattle.memory_world.proofs.Tables.{slots_set}
use Rattle.memory_world.proofs.Lookup.{There, there-words, regs-row, frames-row, regs-set, frames-set}

-- the word v names the coroutine c, at place i of the words
module _ (xs : List (Slot Object)) (v i : ℕ) (c : CoroObj) (t : There xs v i c) (ws : List ℕ) (n : ℕ) (s : Slots (to_slots xs) ws n) where
  here : chunk_at width ws i ≡ slot_words (slot (tag_of v) (O.Coro c))
  here = there-words xs v i c t ws n s

  -- what is read there
  pub coro-read : coro_in ws i ≡ to_coro t.core t.rest
  coro-read = coro-here ws i (tag_of v) c here ∙ t.is

  -- the slot of another coroutine written there
  pub coro-put : (k : Core) (r : Rest) (ws' : List ℕ) → ws' ≡ put_slot ws i (slot (tag_of v) (O.Coro (to_coro k r))) → Slots (to_slots (put_object Object.Empty xs (slot_of v) (Object.Coro k r))) ws' n
  coro-put k r ws' e =
      let y : Slot H.Object = slot (tag_of v) (O.Coro (to_coro k r)) in
      let p : Points xs v (Object.Coro t.core t.rest) = finds xs v t.core t.rest t.coro in
      let tag : (get_or (to_slots xs) (slot_of v) (slot 0 O.Empty)).tag ≡ tag_of v = ap (λ (x : Slot H.Object). x.tag) (at_map xs (slot_of v)) ∙ p.tag in
      let same : to_slots (put_object Object.Empty xs (slot_of v) (Object.Coro k r)) ≡ set (to_slots xs) i y =
      put_same xs (slot_of v) (Object.Coro k r)
      ∙ ap₂ (λ (j a : ℕ). set (to_slots xs) j (slot a (O.Coro (to_coro k r)))) (sym t.slot) tag in
      let inside = p.inside in
      let count = s.count in
      let long : length (to_slots xs) ≡ length xs = length-map xs to_slot in
      let at = t.slot in
      subst (λ (z : List (Slot H.Object)). Slots z ws' n) (sym same)
      (subst (λ (z : List ℕ). Slots (set (to_slots xs) i y) z n) (sym e) (slots_set (to_slots xs) ws n i y s (omega arith)))

  -- after the lower crate's functions that write single fields
  abbrev with : Rest → List (Slot Object)
  with r = put_object Object.Empty xs (slot_of v) (Object.Coro t.core r)

  pub closing-put : (ws' : List ℕ) (signal : ℕ) → ws' ≡ put_chunk width ws i (closing_words signal (chunk_at width ws i)) → Slots (to_slots (with (close signal t.rest))) ws' n
  closing-put ws' signal e =
      coro-put t.core (close signal t.rest) ws'
      (closes ws i (tag_of v) c here ws' signal e ∙ ap (λ (x : CoroObj). put_slot ws i (slot (tag_of v) (O.Coro (as_closing signal x)))) t.is)

  pub task-put : (ws' : List ℕ) → ws' ≡ put_chunk width ws i (task_words (chunk_at width ws i)) → Slots (to_slots (with (with_task true t.rest))) ws' n
  task-put ws' e =
      coro-put t.core (with_task true t.rest) ws'
      (tasks ws i (tag_of v) c here ws' e ∙ ap (λ (x : CoroObj). put_slot ws i (slot (tag_of v) (O.Coro (as_task x)))) t.is)

  pub finalized-put : (ws' : List ℕ) → ws' ≡ put_chunk width ws i (finalized_words (chunk_at width ws i)) → Slots (to_slots (with (with_finalized true t.rest))) ws' n
  finalized-put ws' e =
      coro-put t.core (with_finalized true t.rest) ws'
      (finalizes ws i (tag_of v) c here ws' e ∙ ap (λ (x : CoroObj). put_slot ws i (slot (tag_of v) (O.Coro (as_finalized x)))) t.is)

-- the rows hold what they held where an unfinished coroutine keeps its core and its row
module _ (xs : List (Slot Object)) (v : ℕ) (k : Core) (r r' : Rest) (p : Points xs v (Object.Coro k r)) (own : distinct (held_rows xs) ≡ true)
    (live : is_finished k.state ≡ false) (same : r'.row ≡ r.row) (n : ℕ) (h : r.row < n) where
  abbrev after : List (Slot Object)
  after = put_object Object.Empty xs (slot_of v) (Object.Coro k r')

  pub regs-kept : regs_rows n xs ≡ regs_rows n after
  regs-kept =
      sym (set-get_or (regs_rows n xs) r.row []) ∙ ap (set (regs_rows n xs) r.row) (regs-row xs v k r p own live n h) ∙ regs-set xs v k r p own live k r' same live n

  pub frames-kept : frames_rows n xs ≡ frames_rows n after
  frames-kept =
      sym (set-get_or (frames_rows n xs) r.row []) ∙ ap (set (frames_rows n xs) r.row) (frames-row xs v k r p own live n h) ∙ frames-set xs v k r p own live k r' same live n
