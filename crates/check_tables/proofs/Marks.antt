-- A word's coroutine by its mark. Assumes nothing.
use mathlib.Core.Path.{◌≡◌, sym, ap, ◌∙◌}
use mathlib.Core.Bool.{Bool, true, false}
use Prim.Native.Nat.{ℕ}
use Rattle.lists.specs.Pick.{pick, pick_true, pick-false}
use Rattle.heap.specs.declared.fault.Fault.{Fault}
use Rattle.heap.specs.declared.object.CoroObj.{CoroObj}
use Rattle.std.specs.Prelude.{Result, Ok, Err}
use Rattle.check_tables.specs.Queue.{by_coro, mark_of}

module _ (task : Bool) (i : ℕ) (x : CoroObj) (o : Result (ℕ × CoroObj) Fault) (e : o ≡ Ok (i, x)) where
  is-mark : by_coro (mark_of task) o ≡ pick task x.task x.finalized
  is-mark = ap (by_coro (mark_of task)) e

  pub by-task : task ≡ true → x.task ≡ by_coro (mark_of task) o
  by-task t = sym (is-mark ∙ ap (λ b. pick b x.task x.finalized) t ∙ pick_true x.task x.finalized)

  pub by-cleanup : task ≡ false → x.finalized ≡ by_coro (mark_of task) o
  by-cleanup t = sym (is-mark ∙ ap (λ b. pick b x.task x.finalized) t ∙ pick-false x.task x.finalized)
