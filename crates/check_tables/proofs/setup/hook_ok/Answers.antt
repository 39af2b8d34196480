-- `hook_ok` meets its contract. Assumes nothing.
use Rattle.check_tables.proofs.Hooks.{none-held, bad-code, no-function, has-register}
use Rattle.check_tables.proofs.setup.hook_ok.Goals as goal

pub returns-then-code-eq0 : goal.returns-then-code-eq0
returns-then-code-eq0 c = none-held c.args.setup.now c.if-code-eq0.true

pub returns-then-code-ne1 : goal.returns-then-code-ne1
returns-then-code-ne1 c = bad-code c.args.setup.now c.if-code-eq0.false c.if-code-ne1.true

pub returns-then-setup-hook : goal.returns-then-setup-hook
returns-then-setup-hook c = no-function c.args.setup.now c.if-code-eq0.false c.if-code-ne1.false c.if-setup-hook.true

pub returns : goal.returns
returns c = has-register c.args.setup.now c.if-code-eq0.false c.if-code-ne1.false c.if-setup-hook.false
