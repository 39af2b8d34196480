-- `before` meets its contract. Assumes nothing.
use Rattle.std.proofs.Common.{ap, ◌∙◌}
use Rattle.furnace.specs.Watch.{sent_by, noted}
use Rattle.furnace.proofs.note.before.Goals as goal

pub note_own-requires : goal.note_own-requires
note_own-requires c = c.requires

pub returns : goal.returns
returns c =
    let a = c.args in
    let is = c.part_of-p.ensures in
    let sent = c.sends-sent.ensures ∙ ap (sent_by a.stack.now a.frames.now a.m) is in
    let inner = c.innermost-coro.ensures in
    ((λ k. record { active = a.m.active; coro = inner k; sent = sent k }), c.note_own.ensures ∙ ap (λ x. noted a.stack.now a.frames.now a.chain.now a.m x a.notes.now) is)
