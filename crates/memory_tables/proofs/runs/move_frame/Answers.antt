-- `move_frame` meets its contract: six words stored, and six cleared. Assumes nothing.
use Rattle.std.proofs.Common.{arith, length-set}
use Rattle.memory_tables.specs.Runs.{between}
use Rattle.memory_tables.proofs.Shifts.{frame-moved, frame-cleared, frame-base}
use Rattle.memory_tables.proofs.runs.move_frame.Goals as goal

pub bounds-src-k-8 : goal.bounds-src-k-8
bounds-src-k-8 c = simp length-set (omega arith)

pub bounds-src-k-9 : goal.bounds-src-k-9
bounds-src-k-9 c = simp length-set (omega arith)

pub bounds-src-k-10 : goal.bounds-src-k-10
bounds-src-k-10 c = simp length-set (omega arith)

pub bounds-src-k-11 : goal.bounds-src-k-11
bounds-src-k-11 c = simp length-set (omega arith)

pub bounds-src-k-12 : goal.bounds-src-k-12
bounds-src-k-12 c = simp length-set (omega arith)

pub bounds-dst-i-2 : goal.bounds-dst-i-2
bounds-dst-i-2 c = simp length-set (omega arith)

pub overflow_sub-dst : goal.overflow_sub-dst
overflow_sub-dst c = (frame-base c.args.src.now c.args.k c.args.old c.args.new c.requires.1).0

pub overflow_add-dst-2 : goal.overflow_add-dst-2
overflow_add-dst-2 c = record { fits = (frame-base c.args.src.now c.args.k c.args.old c.args.new c.requires.1).1 }

pub bounds-dst-i-3 : goal.bounds-dst-i-3
bounds-dst-i-3 c = simp length-set (omega arith)

pub bounds-dst-i-4 : goal.bounds-dst-i-4
bounds-dst-i-4 c = simp length-set (omega arith)

pub bounds-dst-i-5 : goal.bounds-dst-i-5
bounds-dst-i-5 c = simp length-set (omega arith)

pub bounds-dst-i-6 : goal.bounds-dst-i-6
bounds-dst-i-6 c = simp length-set (omega arith)

pub shape_of-dst : goal.shape_of-dst
shape_of-dst c = simp length-set

pub shape_of-src : goal.shape_of-src
shape_of-src c = simp length-set

pub returns : goal.returns
returns c =
    let a = c.args in
    let inside = c.requires.1.inside in
    (frame-moved (between a.old a.new) a.dst.now a.src.now a.i a.k c.requires.0 (omega arith), frame-cleared a.src.now a.k (omega arith))
