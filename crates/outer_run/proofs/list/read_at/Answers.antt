-- `read_at` meets its contract: six words, or what is left. Assumes nothing.
use mathlib.Core.Path.{◌≡◌, ap, ◌∙◌}
use Prim.Native.Nat.{◌+◌, ◌-◌, ◌*◌}
use native.Mathlib.Omega.{arith}
use lib.ListN.{take, drop}
use Rattle.memory_calls.specs.Call.{op_of}
use Rattle.outer_run.proofs.Written.{short}
use Rattle.outer_run.proofs.list.read_at.Goals as goal

pub returns-then-left-lt-CALL_WIDTH : goal.returns-then-left-lt-CALL_WIDTH
returns-then-left-lt-CALL_WIDTH c =
    let ws = c.args.calls.now in
    let a = c.args.i * 6 in
    c.op_of.ensures ∙ ap op_of (short ws a 6 c.if-left-lt-CALL_WIDTH.true)

pub returns : goal.returns
returns c =
    let a = c.args.i * 6 in
    let e : a + 6 - a ≡ 6 = omega arith in
    c.op_of-2.ensures ∙ ap (λ k. op_of (take k (drop a c.args.calls.now))) e
