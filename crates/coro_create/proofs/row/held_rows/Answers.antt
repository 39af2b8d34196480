-- `held_rows` meets its contract: what is left, marked on the present marks, is the whole marked on none. Assumes nothing.
use Rattle.std.proofs.Common.{◌≡◌, ℕ, ◌+◌, ◌-◌, ◌<◌, ◌≤◌, Bool, true, false, List, length, get_or, drop, set, replicate, sym, refl, ap, ◌∙◌, ⊎_elim, arith, length-set}
use lib.Seq.{drop-length}
use Rattle.lists.proofs.Tables.{length-chunks, chunks-at}
use Rattle.heap.specs.Table.{Slot, slot}
use Rattle.heap.specs.Slot.{width, slot_of_words}
use Rattle.heap.specs.Heap.{slot_in, slots_of}
use Rattle.heap.specs.declared.object.Object as H
use Rattle.heap.specs.declared.object.Object.TheVariants as O
use Rattle.coro_create.specs.Row.{row_of, marked}
use Rattle.coro_create.proofs.Held.{mark-next, mark-none}
use Rattle.coro_create.proofs.row.held_rows.Lts as lts
use Rattle.coro_create.proofs.row.held_rows.Reads as reads
use Rattle.coro_create.proofs.row.held_rows.Tie as tie
use Rattle.coro_create.proofs.row.held_rows.Goals as goal

abbrev Joined-row-lt-NONE : Type 0
Joined-row-lt-NONE = lts.Joined1 tie.the-claims reads.Pre reads.Post goal.the-invariant-loop-i goal.the-decreases-loop-i

-- `held_rows` meets its contract: what is left, marked on the present marks, is the whole marked on none. Assumes nothing.
abbrev none : List Bool
none = replicate {A = Bool} 64 false

-- the slot at place i, whose object holds this row, is marked
next : (ws : List ℕ) (count i row : ℕ) (o : H.Object) (held held' : List Bool) → i < count → o ≡ (slot_in ws i).object → row ≡ row_of o → held' ≡ set held row true
    → marked (slots_of count ws) none ≡ marked (drop i (slots_of count ws)) held
    → marked (slots_of count ws) none ≡ marked (drop (i + 1) (slots_of count ws)) held'
next ws count i row o held held' h e r q v =
    let d : Slot H.Object = slot 0 O.Empty in
    let l : length (slots_of count ws) ≡ count = length-chunks width slot_of_words count ws in
    let s : (get_or (slots_of count ws) i d).object ≡ o = ap (λ (x : Slot H.Object). x.object) (chunks-at width slot_of_words count i ws d h) ∙ sym e in
    v ∙ mark-next (slots_of count ws) held i d (omega arith)
    ∙ ap (λ x. marked (drop (i + 1) (slots_of count ws)) (set held x true)) (ap row_of s ∙ sym r)
    ∙ ap (marked (drop (i + 1) (slots_of count ws))) (sym q)

end : (ws : List ℕ) (count i : ℕ) (held : List Bool) → i ≤ count → count ≤ i → marked (slots_of count ws) none ≡ marked (drop i (slots_of count ws)) held
    → held ≡ marked (slots_of count ws) none
end ws count i held h k v =
    let l : length (slots_of count ws) ≡ count = length-chunks width slot_of_words count ws in
    let e : i ≡ length (slots_of count ws) = omega arith in
    sym (v ∙ ap (λ n. marked (drop n (slots_of count ws)) held) e ∙ ap (λ (xs : List (Slot H.Object)). marked xs held) (drop-length (slots_of count ws)))

-- a row that is no row leaves the marks
marks : (c : Joined-row-lt-NONE) →
    c.if-row-lt-NONE.held ≡ set c.loop-i.held c.row_of-row.result true
marks c =
    ⊎_elim (λ z. z.held-is)
    (λ z. let l = c.loop-i.invariant.1 in let k = z.if-row-lt-NONE.false in z.held-is ∙ sym (mark-none c.loop-i.held c.row_of-row.result (omega arith)))
    c.if-row-lt-NONE.branch-raw

pub loop-i-init : goal.loop-i-init
loop-i-init c = (omega arith, refl, refl)

pub loop-i-preserved : goal.loop-i-preserved
loop-i-preserved c =
    let e = marks c.before in (
      omega arith,
      ap length e ∙ length-set c.loop-i.held c.row_of-row.result true ∙ c.loop-i.invariant.1,
      next c.args.slots.now c.args.count c.loop-i.i c.row_of-row.result c.object_at.result c.loop-i.held
          c.if-row-lt-NONE.held c.loop-i-test.true c.object_at.ensures c.row_of-row.ensures e c.loop-i.invariant.2,
    )

pub returns : goal.returns
returns c = end c.args.slots.now c.args.count c.loop-i.i c.loop-i.held c.loop-i.invariant.0 c.loop-i-test.false c.loop-i.invariant.2
