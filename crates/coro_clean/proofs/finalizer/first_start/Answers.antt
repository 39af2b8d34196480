-- `first_start` meets its contract: the first of the words that are left is the first of all. Assumes nothing.
use mathlib.Core.Path.{sym, ◌∙◌}
use Prim.Native.Nat.{◌-◌}
use native.Mathlib.Omega.{arith}
use Rattle.coro_clean.specs.Start.{starts}
use Rattle.coro_clean.proofs.Search.{ahead-start, ahead-hit, ahead-next, ahead-end}
use Rattle.coro_clean.proofs.finalizer.first_start.Goals as goal

pub loop-i-init : goal.loop-i-init
loop-i-init c = (omega arith, ahead-start (starts c.args.slots.now c.args.m c.args.sizes) c.args.finalize.now c.args.m.finalize)

pub bounds-finalize-i : goal.bounds-finalize-i
bounds-finalize-i c = let h = c.requires.words in omega arith

pub may_start-requires : goal.may_start-requires
may_start-requires c = c.requires.may

pub returns-then-may_start : goal.returns-then-may_start
returns-then-may_start c =
    ahead-hit (starts c.args.slots.now c.args.m c.args.sizes) c.args.finalize.now c.args.m.finalize c.loop-i.i
    c.requires.words c.loop-i.invariant.1
    (omega arith) (sym c.may_start.ensures ∙ c.if-may_start.true)

pub loop-i-preserved : goal.loop-i-preserved
loop-i-preserved c = (
  omega arith,
  ahead-next (starts c.args.slots.now c.args.m c.args.sizes) c.args.finalize.now c.args.m.finalize c.loop-i.i
      c.requires.words c.loop-i.invariant.1
      (omega arith) (sym c.may_start.ensures ∙ c.if-may_start.false),
)

pub returns : goal.returns
returns c =
    ahead-end (starts c.args.slots.now c.args.m c.args.sizes) c.args.finalize.now c.args.m.finalize c.loop-i.i
    c.requires.words c.loop-i.invariant.1 (omega arith)
