-- `get` meets its contract: the tests are those of the definition, on the slot that the word numbers. Assumes nothing.
use mathlib.Core.Path.{◌≡◌, refl, sym, ap, ◌∙◌}
use mathlib.Core.List.{List, [], ◌∷◌}
use Prim.Native.Nat.{ℕ}
use types.Run.{OneOf, miss}
use borrow.Enum.Refused.{opened}
use denote.Enum.Declared.{tag_of}
use Rattle.lists.specs.Pick.{pick}
use Rattle.heap.specs.Object.{is_filled}
use Rattle.heap.specs.Table.{get_in}
use Rattle.heap.specs.Heap.{slots_of}
use Rattle.heap.specs.declared.value.Class.{Class}
use Rattle.heap.specs.declared.value.Class.TheVariants as C
use Rattle.heap.specs.declared.object.Object.TheVariants as O
use Rattle.std.specs.Prelude.{Option, None}
use Rattle.heap.specs.contracts.value.Class as Class'
use Rattle.heap.proofs.Lookups.{beyond, other_tag, same_tag}
use Rattle.heap.proofs.heap.get.Goals as goal

-- `get` meets its contract: the tests are those of the definition, on the slot that the word numbers. Assumes nothing.
abbrev look : ℕ → List ℕ → Class → Option ℕ
look n ws k = get_in O.Empty is_filled (slots_of n ws) k

other : (n : ℕ) (ws : List ℕ) (k : Class) → OneOf (0 ∷ 2 ∷ 3 ∷ []) (tag_of Class'.the_type k) → None ≡ look n ws k
other n ws C.Nil h = refl
other n ws (C.Ref o) h = absurd (miss (0 ∷ 2 ∷ 3 ∷ []) 1 tt h)
other n ws (C.Int z) h = refl
other n ws C.Opaque h = refl

pub returns-in_default : goal.returns-in_default
returns-in_default c = other c.args.count c.args.slots.now c.class.result (opened c.in_default.in_default-own.keys2) ∙ ap (look c.args.count c.args.slots.now) c.class.ensures

pub returns-then-count-i : goal.returns-then-count-i
returns-then-count-i c =
    beyond c.args.count c.args.slots.now c.in-Ref.o c.slot-i.result _ c.slot-i.ensures refl c.if-count-i.true
    ∙ ap (look c.args.count c.args.slots.now) (sym c.in-Ref.is ∙ c.class.ensures)

pub returns-then-tag_at-tag : goal.returns-then-tag_at-tag
returns-then-tag_at-tag c =
    other_tag c.args.count c.args.slots.now c.in-Ref.o c.slot-i.result c.tag.result c.slot-i.ensures
    c.tag.ensures c.if-count-i.false (λ e. c.if-tag_at-tag.true (c.tag_at.ensures ∙ e))
    ∙ ap (look c.args.count c.args.slots.now) (sym c.in-Ref.is ∙ c.class.ensures)

pub returns-then-filled_at : goal.returns-then-filled_at
unfolding pick
returns-then-filled_at c =
    same_tag c.args.count c.args.slots.now c.in-Ref.o c.slot-i.result c.tag.result c.slot-i.ensures
    c.tag.ensures _ c.if-count-i.false (sym c.tag_at.ensures ∙ c.if-tag_at-tag.false) (sym c.if-filled_at.true ∙ c.filled_at.ensures)
    ∙ ap (look c.args.count c.args.slots.now) (sym c.in-Ref.is ∙ c.class.ensures)

pub returns-else-filled_at : goal.returns-else-filled_at
unfolding pick
returns-else-filled_at c =
    same_tag c.args.count c.args.slots.now c.in-Ref.o c.slot-i.result c.tag.result c.slot-i.ensures
    c.tag.ensures _ c.if-count-i.false (sym c.tag_at.ensures ∙ c.if-tag_at-tag.false) (sym c.if-filled_at.false ∙ c.filled_at.ensures)
    ∙ ap (look c.args.count c.args.slots.now) (sym c.in-Ref.is ∙ c.class.ensures)
