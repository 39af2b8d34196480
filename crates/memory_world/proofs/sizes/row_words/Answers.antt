-- `row_words` meets its contract: what is left of the functions, with what was found, gives the whole. Assumes nothing.
use mathlib.Core.Path.{sym, ap, ◌∙◌}
use Prim.Native.Nat.{◌+◌, ◌-◌, max}
use native.Mathlib.Omega.{arith}
use lib.ListN.{get_or}
use Rattle.memory_world.proofs.Widest.{widest_in, start, more, end}
use Rattle.memory_world.proofs.sizes.row_words.Goals as goal

pub loop-i-init : goal.loop-i-init
loop-i-init c = let ws = c.args.setup.now in start ws (get_or ws 13 0) (get_or ws 1 0)

pub loop-i-preserved : goal.loop-i-preserved
loop-i-preserved c =
    let ws = c.args.setup.now in
    let i = c.loop-i.i in
    let most = c.loop-i.most in
    let n = get_or ws 13 0 in
    ap (λ k. max k (widest_in ws (i + 1) (n - (i + 1)))) c.larger-most.ensures ∙ sym (more ws i n most (omega arith)) ∙ c.loop-i.invariant

pub returns : goal.returns
returns c =
    let ws = c.args.setup.now in
    let i = c.loop-i.i in
    sym (end ws i (get_or ws 13 0) c.loop-i.most (omega arith)) ∙ c.loop-i.invariant
