-- `note_own` meets its contract, arm by arm. Assumes nothing.
use borrow.Enum.Refused.{opened}
use Rattle.std.proofs.Common.{sym, ap, ◌∙◌}
use Rattle.furnace.proofs.Watching.{no-waits}
use Rattle.furnace.specs.Watch.{noted}
use Rattle.furnace.proofs.note.note_own.Goals as goal

pub note_at-requires : goal.note_at-requires
note_at-requires c = c.requires

pub returns-in_default : goal.returns-in_default
returns-in_default c =
    let a = c.args in
    no-waits a.stack.now a.frames.now a.chain.now a.m a.notes.now a.p (opened c.in_default.in_default-own.keys2)

pub returns-in-Waits : goal.returns-in-Waits
returns-in-Waits c =
    let a = c.args in
    c.note_at.ensures ∙ ap (λ x. noted a.stack.now a.frames.now a.chain.now a.m x a.notes.now) (sym c.in-Waits.is)
