-- `take_words` meets its contract: after a turn at i the first i words are taken, two in a turn, and one is left or none. Assumes nothing.
use Prim.Native.Nat.{◌≤◌, ◌<◌, ◌+◌}
use mathlib.Core.Path.{◌≡◌, refl, ap, ◌∙◌}
use native.Mathlib.Omega.{arith}
use borrow.Author.Rules.{rules}
use borrow.Author.Fill.{fill_more}
use lib.ListN.{length, get_or, length-set}
use Rattle.lists.proofs.Runs.{copy_more, copy-two, fill-two, ahead-kept, copy-all, fill-all}
use Rattle.lists.proofs.take_words.Goals as goal

pub loop-dst-init : goal.loop-dst-init
loop-dst-init c = (search rules, refl, refl, refl, refl)

pub bounds-src-i-in-loop-dst-3 : goal.bounds-src-i-in-loop-dst-3
bounds-src-i-in-loop-dst-3 c = simp length-set (omega arith)

pub bounds-dst-i-in-loop-dst : goal.bounds-dst-i-in-loop-dst
bounds-dst-i-in-loop-dst c = simp length-set (omega arith)

pub loop-dst-preserved : goal.loop-dst-preserved
loop-dst-preserved c =
    let a = c.args in
    let l = c.loop-dst in
    let h : l.i + 1 < length a.dst.now = search rules in
    let k : l.i + 1 < length a.src.now = search rules in
    let first = ap (λ s. get_or s l.i 0) l.invariant.4 ∙ ahead-kept l.i l.i a.src.now (omega arith) (omega arith) in
    let second = ap (λ s. get_or s (l.i + 1) 0) l.invariant.4 ∙ ahead-kept l.i (l.i + 1) a.src.now (omega arith) (omega arith) in (
      search rules,
      simp length-set l.invariant.1,
      simp length-set l.invariant.2,
      rw (first, second, l.invariant.3) (copy-two l.i a.src.now a.dst.now k h),
      rw l.invariant.4 (fill-two l.i a.src.now k),
    )

pub returns-then-i-dst : goal.returns-then-i-dst
returns-then-i-dst c =
    let a = c.args in
    let l = c.loop-dst in
    let h : l.i < length a.dst.now = search rules in
    let k : l.i < length a.src.now = search rules in
    let all : length a.dst.now ≤ l.i + 1 = search rules in
    let end : l.i + 1 ≡ length a.src.now = search rules in
    let last = ap (λ s. get_or s l.i 0) l.invariant.4 ∙ ahead-kept l.i l.i a.src.now (omega arith) (omega arith) in (
      rw (last, l.invariant.3) (copy_more l.i a.src.now a.dst.now k h ∙ copy-all (l.i + 1) a.src.now a.dst.now c.requires all),
      rw l.invariant.4 (fill_more l.i 0 a.src.now k ∙ fill-all (l.i + 1) a.src.now end),
    )

pub returns-else-i-dst : goal.returns-else-i-dst
returns-else-i-dst c =
    let a = c.args in
    let l = c.loop-dst in
    let h : length a.dst.now ≤ l.i = search rules in
    let k : l.i ≡ length a.src.now = search rules in
    (l.invariant.3 ∙ copy-all l.i a.src.now a.dst.now c.requires h, l.invariant.4 ∙ fill-all l.i a.src.now k)
