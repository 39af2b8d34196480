-- `lowest_free_row` meets its contract: the marks tell the rows that are held. Assumes nothing.
use Rattle.std.proofs.Common.{Bool, false, List, get_or, ap, ◌∙◌}
use Rattle.heap.specs.Heap.{slots_of}
use Rattle.coro_create.specs.Row.{lowest_by}
use Rattle.coro_create.proofs.Held.{free_in}
use Rattle.coro_create.proofs.row.lowest_free_row.Goals as goal

pub returns : goal.returns
returns c =
    c.lowest.ensures ∙ ap (λ (held : List Bool). lowest_by (λ n. get_or held n false) c.args.rows 0) c.held_rows.ensures
    ∙ free_in (slots_of c.args.count c.args.slots.now) c.args.rows c.requires.1
