-- `keep` meets its contract: a count, the words, the pc. Assumes nothing.
use Rattle.std.proofs.Common.{ℕ, ◌+◌, ◌-◌, ◌*◌, List, set, ap, ◌∙◌}
use Rattle.lists.specs.Parts.{part, splice}
use Rattle.furnace.proofs.body.keep.Goals as goal

pub returns : goal.returns
returns c =
    let a = c.args in
    c.put-2.ensures
    ∙ ap (λ (xs : List ℕ). set xs (a.at + 17 + (a.n * 6 - 5)) a.pc)
    (c.copy.ensures ∙ ap (λ (xs : List ℕ). splice xs (a.at + 17) (part (a.floor * 6) (a.n * 6) a.frames.now)) c.put.ensures)
