-- `push_active` meets its contract: a record more. Assumes nothing.
use Rattle.std.proofs.Common.{◌+◌, ◌∷◌, sym, subst}
use Rattle.model.specs.Coro.{active}
use Rattle.memory_tables.specs.Layout.{active_words}
use Rattle.memory_tables.specs.Parts.{Chain}
use Rattle.memory_tables.proofs.Codes.{length-active}
use Rattle.memory_tables.proofs.Doing.{pushes}
use Rattle.memory_tables.proofs.chain.push_active.Goals as goal

pub returns : goal.returns
returns c =
    let z = c.args in
    let a = active z.coro z.floor z.driver in
    λ cs p. subst (λ ws. Chain (a ∷ cs) ws (z.n + 1)) (sym c.put_active.ensures) (pushes active_words length-active z.chain.now z.n a cs c.requires p)
