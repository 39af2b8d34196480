-- `finish_coroutine` meets the definition, whether the word names a coroutine or not. Assumes nothing.
use mathlib.Core.Path.{sym, ◌∙◌}
use Rattle.memory_world.specs.Lendings.{rows, plain}
use Rattle.coro_end.proofs.Ending.{slot-fits, free-fits, none-ends, ends}
use Rattle.coro_end.proofs.finish.finish_coroutine.Goals as goal

pub give_back_row-requires : goal.give_back_row-requires
give_back_row-requires c =
    let h = c.requires.held in
    free-fits c.args.sizes (rows c.args.slots.now c.args.saved_stack.now c.args.saved_frames.now plain h.beside)
    c.args.m h.beside.fuel c.args.v.0 h.world h.rep h.known c.in-Ok.i c.in-Ok.c
    (sym c.in-Ok.is ∙ c.coro.ensures)

pub mark_ended-requires : goal.mark_ended-requires
mark_ended-requires c =
    let h = c.requires.held in
    slot-fits c.args.sizes (rows c.args.slots.now c.args.saved_stack.now c.args.saved_frames.now plain h.beside)
    c.args.m h.beside.fuel c.args.v.0 h.world h.rep h.known c.in-Ok.i c.in-Ok.c
    (sym c.in-Ok.is ∙ c.coro.ensures)

pub returns-in-Err : goal.returns-in-Err
returns-in-Err c =
    λ w b rep rowed. none-ends c.args.sizes (rows c.args.slots.now c.args.saved_stack.now c.args.saved_frames.now plain b)
    c.args.m b.fuel c.args.v.0 w rep c.args.s c.args.res _ (sym c.in-Err.is ∙ c.coro.ensures)

pub returns-in-Ok : goal.returns-in-Ok
returns-in-Ok c =
    λ w b rep rowed. ends c.args.sizes (rows c.args.slots.now c.args.saved_stack.now c.args.saved_frames.now plain b)
    c.args.m b.fuel c.args.v.0 w rep rowed c.in-Ok.i c.in-Ok.c
    (sym c.in-Ok.is ∙ c.coro.ensures) c.args.s c.args.res c.requires.ends _ _ _ c.mark_ended.ensures
    c.give_back_row.ensures
