-- `coro_row` meets its contract, by what the coroutine's test and its state say. Assumes nothing.
use mathlib.Core.Path.{sym, ◌∙◌}
use Rattle.memory_world.specs.Decode.{setup_of}
use Rattle.check_tables.specs.Queue.{in_set}
use Rattle.check_machine.proofs.Coros.{bad-coro, no-row, not-chained, chained-row, saved-frames-row}
use Rattle.check_machine.proofs.rows.coro_row.Goals as goal

pub coro_ok-requires : goal.coro_ok-requires
coro_ok-requires c = c.requires.0.saved

pub returns-then-not-coro_ok : goal.returns-then-not-coro_ok
returns-then-not-coro_ok c =
    let a = c.args in
    bad-coro a.sizes (setup_of a.setup.now) a.saved_stack.now a.saved_frames.now a.c (in_set a.set.now) a.i
    (sym c.coro_ok.ensures ∙ c.if-not-coro_ok.true)

pub returns-then-is_finished : goal.returns-then-is_finished
returns-then-is_finished c =
    let a = c.args in
    no-row a.sizes (setup_of a.setup.now) a.saved_stack.now a.saved_frames.now a.c (in_set a.set.now) a.i
    (sym c.coro_ok.ensures ∙ c.if-not-coro_ok.false) (sym c.is_finished.ensures ∙ c.if-is_finished.true)

pub in_set-requires : goal.in_set-requires
in_set-requires c = (c.requires.1, c.requires.0.long)

pub returns-then-not-in_set : goal.returns-then-not-in_set
returns-then-not-in_set c =
    let a = c.args in
    not-chained a.sizes (setup_of a.setup.now) a.saved_stack.now a.saved_frames.now a.c (in_set a.set.now) a.i
    (sym c.coro_ok.ensures ∙ c.if-not-coro_ok.false) (sym c.is_running.ensures ∙ c.if-is_running.true)
    (sym c.in_set.ensures ∙ c.if-not-in_set.true)

pub returns-else-not-in_set : goal.returns-else-not-in_set
returns-else-not-in_set c =
    let a = c.args in
    chained-row a.sizes (setup_of a.setup.now) a.saved_stack.now a.saved_frames.now a.c (in_set a.set.now) a.i
    (sym c.coro_ok.ensures ∙ c.if-not-coro_ok.false) (sym c.is_finished.ensures ∙ c.if-is_finished.false)
    (sym c.is_running.ensures ∙ c.if-is_running.true) (sym c.in_set.ensures ∙ c.if-not-in_set.false)

pub returns-else-is_running : goal.returns-else-is_running
returns-else-is_running c =
    let a = c.args in
    saved-frames-row a.sizes (setup_of a.setup.now) a.saved_stack.now a.saved_frames.now a.c (in_set a.set.now) a.i
    (sym c.coro_ok.ensures ∙ c.if-not-coro_ok.false) (sym c.is_finished.ensures ∙ c.if-is_finished.false)
    (sym c.is_running.ensures ∙ c.if-is_running.false)
