-- `handlers_ok` meets its contract: each handler is tested. Assumes nothing.
use Rattle.std.proofs.Common.{rules, tests, arith, refl, ◌∙◌, ◌+◌, ◌*◌}
use Rattle.std.proofs.lemmas.Iterator.{YieldsList-from_range}
use Rattle.std.proofs.lemmas.Iterator.Search.{all_from_yields_List}
use Rattle.model.specs.Program.{handler_ok}
use Rattle.memory_tables.specs.Layout.{handler_from}
use Rattle.check_tables.proofs.Ranged.{all-range}
use Rattle.check_tables.proofs.setup.handlers_ok.Goals as goal

pub returns : goal.returns
returns c =
    let a = c.args in
    all_from_yields_List (λ j. handler_ok a.regs (handler_from a.setup.now (a.at + j * 4))) _ _ _ c.all.ensures.ran (YieldsList-from_range 0 a.n a.n refl (omega arith)) (λ x b q k. search (rules, tests))
    ∙ all-range a.n _
