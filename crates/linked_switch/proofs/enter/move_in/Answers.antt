-- `move_in` meets its contract: a row's words and frames go on top. Assumes nothing.
use native.Mathlib.Omega.{arith}
use Rattle.linked_switch.proofs.Places.{regs-place, frames-place, at_regs, at-frames, frames-fit}
use Rattle.linked_switch.proofs.enter.move_in.Goals as goal

pub overflow_mul-at : goal.overflow_mul-at
overflow_mul-at c =
    let at = regs-place c.args.slots.now c.args.machine.now c.args.i c.row_at.result c.row_at.ensures in
    let inside = c.requires.fits.in-saved in
    record { fits = omega (arith, at, inside, c.well_formed) }

pub enter_stack-requires : goal.enter_stack-requires
enter_stack-requires c =
    let at = regs-place c.args.slots.now c.args.machine.now c.args.i c.row_at.result c.row_at.ensures in
    let n = c.regs_at.ensures in
    let room = c.requires.fits.on-stack in
    let inside = c.requires.fits.in-saved in
    (omega (arith, n, room), omega (arith, at, n, inside))

pub overflow_mul-from : goal.overflow_mul-from
overflow_mul-from c =
    let deep = c.requires.fits.deep in
    record { fits = omega (arith, deep, c.well_formed) }

pub overflow_mul-from-2 : goal.overflow_mul-from-2
overflow_mul-from-2 c =
    let at = frames-place c.args.slots.now c.args.machine.now c.args.i c.row_at-2.result c.row_at-2.ensures in
    let inside = c.requires.fits.entering.in-saved in
    record { fits = omega (arith, at, inside, c.well_formed) }

pub enter_frames-requires : goal.enter_frames-requires
enter_frames-requires c =
    let s = c.args.slots.now in let ms = c.args.machine.now in let i = c.args.i in
    frames-fit s ms i c.row_at-2.result c.row_at-2.ensures c.args.frames.now c.args.saved_frames.now c.frames_at.result c.frames_at.ensures c.requires.fits.entering

pub returns : goal.returns
returns c =
    let a = c.args in
    record {
      on-stack = at_regs a.slots.now a.machine.now a.i c.row_at.result c.row_at.ensures a.stack.now a.saved_stack.now _ _ c.regs_at.result
          c.regs_at.ensures c.enter_stack.ensures;
      on-frames = at-frames a.slots.now a.machine.now a.i c.row_at-2.result c.row_at-2.ensures a.frames.now a.saved_frames.now _ _ c.frames_at.result
          c.frames_at.ensures c.enter_frames.ensures;
    }
