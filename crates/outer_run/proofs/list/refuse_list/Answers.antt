-- `refuse_list` meets its contract: after j turns the first j answers stand there. Assumes nothing.
use Prim.Native.Nat.{◌-◌}
use native.Mathlib.Omega.{arith}
use Rattle.outer_run.proofs.Along.{refused-start, refused_end, refused-more}
use Rattle.outer_run.proofs.list.refuse_list.Goals as goal

pub loop-j-init : goal.loop-j-init
loop-j-init c = refused-start c.args.answers.now c.args.n

pub put_at-requires : goal.put_at-requires
put_at-requires c =
    let t = c.loop-j-test.true in
    let k = c.loop-j.invariant.long in
    let p = c.requires in
    omega arith

pub overflow_step-j : goal.overflow_step-j
overflow_step-j c =
    let t = c.loop-j-test.true in
    omega (arith, c.well_formed)

pub loop-j-smaller : goal.loop-j-smaller
loop-j-smaller c = let t = c.loop-j-test.true in omega arith

pub loop-j-preserved : goal.loop-j-preserved
loop-j-preserved c = refused-more c.args.answers.now c.args.n c.loop-j.answers _ c.loop-j.j c.requires c.loop-j-test.true c.loop-j.invariant c.put_at.ensures c.put_at.auto.answers

pub shape_of-answers : goal.shape_of-answers
shape_of-answers c = c.loop-j.invariant.long

pub returns : goal.returns
returns c =
    let t = c.loop-j-test.false in
    refused_end c.args.answers.now c.args.n c.loop-j.answers c.loop-j.j (omega arith) c.loop-j.invariant
