-- `widest_catch` meets its contract: read from the last, what was found is the widest of those from j on. Assumes nothing.
use mathlib.Core.Path.{◌∙◌}
use Prim.Native.Nat.{◌-◌}
use native.Mathlib.Omega.{arith}
use Rattle.check_tables.proofs.Widths.{none_yet, one_more, all_done}
use Rattle.check_tables.proofs.catches.widest_catch.Goals as goal

pub loop-j-init : goal.loop-j-init
loop-j-init c = let a = c.args in let ws = a.setup.now in (omega arith, none_yet ws a.at a.n c.requires.few)

pub overflow_mul-c : goal.overflow_mul-c
overflow_mul-c c = omega (arith, c.requires.inside, c.requires.few)

pub overflow_add-c : goal.overflow_add-c
overflow_add-c c = omega (arith, c.requires.inside, c.requires.few)

pub overflow_add-c-in-loop-j : goal.overflow_add-c-in-loop-j
overflow_add-c-in-loop-j c = omega (arith, c.requires.inside, c.requires.few)

pub offset_bounds-setup-at : goal.offset_bounds-setup-at
offset_bounds-setup-at c = omega (arith, c.requires.inside, c.requires.few)

pub bounds-setup-at : goal.bounds-setup-at
bounds-setup-at c = omega (arith, c.requires.inside, c.requires.few)

pub overflow_add-c-in-loop-j-2 : goal.overflow_add-c-in-loop-j-2
overflow_add-c-in-loop-j-2 c = omega (arith, c.requires.small (c.loop-j.j - 1) (omega arith))

pub loop-j-preserved : goal.loop-j-preserved
loop-j-preserved c =
    let a = c.args in let ws = a.setup.now in
    (omega arith, c.max-most.ensures ∙ one_more ws a.at a.n c.requires.few c.loop-j.j c.loop-j.most c.loop-j-test.true (omega arith) c.loop-j.invariant.1)

pub returns : goal.returns
returns c = let a = c.args in let ws = a.setup.now in all_done ws a.at a.n c.requires.few c.loop-j.j c.loop-j.most c.loop-j-test.false c.loop-j.invariant.1
