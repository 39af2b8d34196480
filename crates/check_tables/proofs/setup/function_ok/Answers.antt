-- `function_ok` meets its contract. Assumes nothing.
use mathlib.Core.Path.{◌≡◌, sym, ap, ◌∙◌}
use Prim.Native.Nat.{◌+◌, ◌-◌, ◌*◌}
use native.Mathlib.Omega.{arith}
use borrow.Author.Tests.{not-true, not-false, le-leb, lt-leb}
use lib.ListN.{get_or}
use Rattle.lists.specs.Parts.{part}
use Rattle.lists.specs.Tests.{zeros}
use Rattle.check_tables.proofs.setup.function_ok.Goals as goal

pub returns-then-regs-gt-MOST_REGS : goal.returns-then-regs-gt-MOST_REGS
returns-then-regs-gt-MOST_REGS c =
    let ws = c.args.setup.now in let at = c.args.at in let k = get_or ws (at + 2) 0 in
    sym (rw (lt-leb (get_or ws at 0) 256 c.if-regs-gt-MOST_REGS.true))

pub returns-then-regs-setup : goal.returns-then-regs-setup
returns-then-regs-setup c =
    let ws = c.args.setup.now in let at = c.args.at in let k = get_or ws (at + 2) 0 in
    sym (rw (le-leb (get_or ws at 0) 256 c.if-regs-gt-MOST_REGS.false, lt-leb (get_or ws (at + 1) 0) (get_or ws at 0) c.if-regs-setup.true))

pub returns-then-count : goal.returns-then-count
returns-then-count c =
    let ws = c.args.setup.now in let at = c.args.at in let k = get_or ws (at + 2) 0 in
    sym (rw (le-leb (get_or ws at 0) 256 c.if-regs-gt-MOST_REGS.false, le-leb (get_or ws (at + 1) 0) (get_or ws at 0) c.if-regs-setup.false, lt-leb k 8 c.if-count.true))

pub returns-then-not-handlers_ok : goal.returns-then-not-handlers_ok
returns-then-not-handlers_ok c =
    let ws = c.args.setup.now in let at = c.args.at in let k = get_or ws (at + 2) 0 in
    sym (rw (le-leb (get_or ws at 0) 256 c.if-regs-gt-MOST_REGS.false, le-leb (get_or ws (at + 1) 0) (get_or ws at 0) c.if-regs-setup.false, le-leb k 8 c.if-count.false, sym c.handlers_ok.ensures ∙ c.if-not-handlers_ok.true))

pub returns : goal.returns
returns c =
    let ws = c.args.setup.now in let at = c.args.at in let k = get_or ws (at + 2) 0 in
    let e : at + 35 - (at + 3 + k * 4) ≡ 32 - k * 4 = omega arith in
    c.all_zero.ensures ∙ ap (λ n. zeros (part (at + 3 + k * 4) n ws)) e ∙ sym (rw (
      le-leb (get_or ws at 0) 256 c.if-regs-gt-MOST_REGS.false,
      le-leb (get_or ws (at + 1) 0)
          (get_or ws at 0) c.if-regs-setup.false,
      le-leb k 8 c.if-count.false,
      sym c.handlers_ok.ensures ∙ c.if-not-handlers_ok.false,
    ))
