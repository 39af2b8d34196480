-- `move_out` meets its contract: registers, then frames. Assumes nothing.
use native.Mathlib.Omega.{arith}
use Rattle.linked_switch.proofs.leave.move_out.Goals as goal

pub bounds-machine-18 : goal.bounds-machine-18
bounds-machine-18 c = let h = c.requires.words in omega (arith, h)

pub overflow_mul-at : goal.overflow_mul-at
overflow_mul-at c = let inside = c.requires.fits.in-saved in record { fits = omega (arith, inside, c.well_formed) }

pub bounds-machine-0 : goal.bounds-machine-0
bounds-machine-0 c = let h = c.requires.words in omega (arith, h)

pub leave_stack-requires : goal.leave_stack-requires
leave_stack-requires c = let fit = c.requires.fits in let inside = fit.in-saved in (fit.under, fit.on-stack, omega (arith, inside))

pub bounds-machine-13 : goal.bounds-machine-13
bounds-machine-13 c = let h = c.requires.words in omega (arith, h)

pub overflow_mul-from : goal.overflow_mul-from
overflow_mul-from c = let deep = c.requires.fits.deep in record { fits = omega (arith, deep, c.well_formed) }

pub overflow_mul-from-2 : goal.overflow_mul-from-2
overflow_mul-from-2 c = let inside = c.requires.fits.leaving.in-saved in record { fits = omega (arith, inside, c.well_formed) }

pub bounds-machine-1 : goal.bounds-machine-1
bounds-machine-1 c = let h = c.requires.words in omega (arith, h)

pub leave_frames-requires : goal.leave_frames-requires
leave_frames-requires c =
    let fit = c.requires.fits.leaving in let inside = fit.in-saved in
    record { under = fit.under; on-frames = fit.on-frames; in-saved = omega (arith, inside); above = fit.above }

pub shape_of-stack : goal.shape_of-stack
shape_of-stack c = c.leave_stack.auto.stack

pub shape_of-frames : goal.shape_of-frames
shape_of-frames c = c.leave_frames.auto.frames

pub shape_of-saved_stack : goal.shape_of-saved_stack
shape_of-saved_stack c = c.leave_stack.auto.saved

pub shape_of-saved_frames : goal.shape_of-saved_frames
shape_of-saved_frames c = c.leave_frames.auto.saved

pub returns : goal.returns
returns c = record { on-stack = c.leave_stack.ensures; on-frames = c.leave_frames.ensures }
