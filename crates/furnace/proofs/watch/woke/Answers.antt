-- `woke` meets its contract: words that are not as many differ. Assumes nothing.
use Rattle.std.proofs.Common.{sym, ◌∙◌}
use Rattle.furnace.specs.Watch.{sent_to}
use Rattle.furnace.proofs.Words.{sent-long, shorter}
use Rattle.furnace.proofs.watch.woke.Goals as goal

pub returns-then-held-back : goal.returns-then-held-back
returns-then-held-back c =
    let a = c.args in
    shorter (sent_to a.sent a.place a.held.now) a.back.now (λ e. c.if-held-back.true (sym (sent-long a.sent a.place a.held.now) ∙ e))
