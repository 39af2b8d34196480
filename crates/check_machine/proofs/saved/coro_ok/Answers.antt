-- `coro_ok` meets its contract: each test fails the whole, and the last decides it. Assumes nothing.
use mathlib.Core.Path.{sym, ◌∙◌}
use native.Mathlib.Omega.{arith}
use Prim.Native.Nat.{◌*◌}
use lib.ListN.{length}
use borrow.Author.Tests.{lt-ltb, le-ltb}
use Rattle.memory_world.specs.Decode.{setup_of}
use Rattle.check_tables.proofs.Bools.{three-1, three-2, three-3}
use Rattle.check_machine.proofs.Coros.{row_inside, sizes-stop, finished, live, frames-few}
use Rattle.check_machine.proofs.saved.coro_ok.Goals as goal

pub returns-then-is_finished : goal.returns-then-is_finished
returns-then-is_finished c =
    let a = c.args in
    c.ended_ok.ensures
    ∙ finished a.sizes (setup_of a.setup.now) a.saved_stack.now a.saved_frames.now a.c (sym c.is_finished.ensures ∙ c.if-is_finished.true)

pub returns-then-not-sizes_ok : goal.returns-then-not-sizes_ok
returns-then-not-sizes_ok c =
    let a = c.args in
    sizes-stop a.sizes (setup_of a.setup.now) a.saved_stack.now a.saved_frames.now a.c
    (sym c.sizes_ok.ensures ∙ c.if-not-sizes_ok.true)

pub returns-then-rows-c : goal.returns-then-rows-c
returns-then-rows-c c =
    let a = c.args in
    three-1 _ _ _ _
    (live a.sizes (setup_of a.setup.now) a.saved_stack.now a.saved_frames.now a.c (sym c.sizes_ok.ensures ∙ c.if-not-sizes_ok.false) (sym c.is_finished.ensures ∙ c.if-is_finished.false))
    (le-ltb a.c.row a.sizes.rows c.if-rows-c.true)

pub row_rest-requires : goal.row_rest-requires
row_rest-requires c =
    let a = c.args in
    row_inside a.sizes.rows a.sizes.width a.c.row (length a.saved_stack.now) c.if-rows-c.false c.requires.on-stack

pub returns-then-not-row_rest : goal.returns-then-not-row_rest
returns-then-not-row_rest c =
    let a = c.args in
    three-2 _ _ _ _
    (live a.sizes (setup_of a.setup.now) a.saved_stack.now a.saved_frames.now a.c (sym c.sizes_ok.ensures ∙ c.if-not-sizes_ok.false) (sym c.is_finished.ensures ∙ c.if-is_finished.false))
    (lt-ltb a.c.row a.sizes.rows c.if-rows-c.false) (sym c.row_rest.ensures ∙ c.if-not-row_rest.true)

pub overflow_mul-sizes : goal.overflow_mul-sizes
overflow_mul-sizes c = omega (arith, c.requires.deep)

pub row_frames-requires : goal.row_frames-requires
row_frames-requires c =
    let a = c.args in
    record {
      row = row_inside a.sizes.rows (a.sizes.depth * 6) a.c.row (length a.saved_frames.now) c.if-rows-c.false c.requires.on-frames;
      inside = frames-few a.sizes a.c (sym c.sizes_ok.ensures ∙ c.if-not-sizes_ok.false);
      catches = c.requires.catches;
      numbers = c.requires.numbers;
    }

pub returns : goal.returns
returns c =
    let a = c.args in
    three-3 _ _ _ _ _
    (live a.sizes (setup_of a.setup.now) a.saved_stack.now a.saved_frames.now a.c (sym c.sizes_ok.ensures ∙ c.if-not-sizes_ok.false) (sym c.is_finished.ensures ∙ c.if-is_finished.false))
    (lt-ltb a.c.row a.sizes.rows c.if-rows-c.false) (sym c.row_rest.ensures ∙ c.if-not-row_rest.false)
    c.row_frames.ensures
