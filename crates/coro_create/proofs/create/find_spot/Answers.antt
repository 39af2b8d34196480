-- `find_spot` meets its contract, by its tests in order. Assumes nothing.
use Rattle.std.proofs.Common.{◌≡◌, sym, ap, ◌∙◌, ap₂}
use Rattle.heap.specs.Heap.{slots_of, lacks_of}
use Rattle.coro_create.specs.Create.{unless_lacking}
use Rattle.coro_create.proofs.Parts.{spot-full, spot-row}
use Rattle.coro_create.proofs.create.find_spot.Goals as goal

pub returns-then-sizes-row : goal.returns-then-sizes-row
returns-then-sizes-row c =
    let k = c.in_ok-lacks in
    spot-full (slots_of c.args.m.count c.args.slots.now) c.args.m c.args.sizes c.args.regs k.field-0
    (sym k.was ∙ c.lacks.ensures ∙ ap₂ lacks_of c.heap_of-h.ensures c.bytes.ensures) c.lowest_free_row-row.result c.lowest_free_row-row.ensures c.if-sizes-row.true

pub returns : goal.returns
returns c =
    let k = c.in_ok-lacks in
    spot-row (slots_of c.args.m.count c.args.slots.now) c.args.m c.args.sizes c.args.regs k.field-0
    (sym k.was ∙ c.lacks.ensures ∙ ap₂ lacks_of c.heap_of-h.ensures c.bytes.ensures) c.lowest_free_row-row.result c.lowest_free_row-row.ensures c.if-sizes-row.false
