-- `one_more` meets its contract. Assumes nothing.
use Rattle.std.proofs.Common.{refl}
use Rattle.furnace.proofs.Watching.{more-equal, more-other}
use Rattle.furnace.proofs.note.Count.one_more.Goals as goal

pub returns-then-equal : goal.returns-then-equal
returns-then-equal c = more-equal c.args.self c.args.equal _ _ c.if-equal.true refl refl

pub returns : goal.returns
returns c = more-other c.args.self c.args.equal _ c.if-equal.false refl
