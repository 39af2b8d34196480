-- `free_ok` meets its contract: each row is tested. Assumes nothing.
use Rattle.std.proofs.Common.{rules, tests, arith, refl, ◌∙◌, ◌||◌}
use Rattle.std.proofs.lemmas.Iterator.{YieldsList-from_range}
use Rattle.std.proofs.lemmas.Iterator.Search.{all_from_yields_List}
use Rattle.check_tables.proofs.Ranged.{all-range}
use Rattle.check_tables.specs.Queue.{bit_at}
use Rattle.check_machine.specs.Rows.{row_free}
use Rattle.check_machine.proofs.rows.free_ok.Goals as goal

pub returns : goal.returns
returns c =
    let a = c.args in
    all_from_yields_List (λ n. bit_at a.mask n || row_free a.sizes a.saved_stack.now a.saved_frames.now n) _ _ _ c.all.ensures.ran (YieldsList-from_range 0 a.sizes.rows a.sizes.rows refl (omega arith)) (λ x b q k. search (rules, tests))
    ∙ all-range a.sizes.rows _
