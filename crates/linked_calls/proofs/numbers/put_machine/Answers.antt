-- `put_machine` meets its contract: thirteen stores are one run. Assumes nothing.
use native.Mathlib.Omega.{arith}
use lib.ListN.{length-set}
use Rattle.memory_tables.proofs.Padded.{sets-splice}
use Rattle.linked_calls.specs.Words.{machine_words}
use Rattle.linked_calls.proofs.numbers.put_machine.Goals as goal

pub bounds-ws-1 : goal.bounds-ws-1
bounds-ws-1 c = simp length-set (omega arith)

pub bounds-ws-2 : goal.bounds-ws-2
bounds-ws-2 c = simp length-set (omega arith)

pub bounds-ws-3 : goal.bounds-ws-3
bounds-ws-3 c = simp length-set (omega arith)

pub bounds-ws-4 : goal.bounds-ws-4
bounds-ws-4 c = simp length-set (omega arith)

pub bounds-ws-5 : goal.bounds-ws-5
bounds-ws-5 c = simp length-set (omega arith)

pub bounds-ws-6 : goal.bounds-ws-6
bounds-ws-6 c = simp length-set (omega arith)

pub bounds-ws-7 : goal.bounds-ws-7
bounds-ws-7 c = simp length-set (omega arith)

pub bounds-ws-8 : goal.bounds-ws-8
bounds-ws-8 c = simp length-set (omega arith)

pub bounds-ws-9 : goal.bounds-ws-9
bounds-ws-9 c = simp length-set (omega arith)

pub bounds-ws-10 : goal.bounds-ws-10
bounds-ws-10 c = simp length-set (omega arith)

pub bounds-ws-11 : goal.bounds-ws-11
bounds-ws-11 c = simp length-set (omega arith)

pub bounds-ws-12 : goal.bounds-ws-12
bounds-ws-12 c = simp length-set (omega arith)

pub shape_of-ws : goal.shape_of-ws
shape_of-ws c = simp length-set

pub returns : goal.returns
returns c = sets-splice c.args.ws.now (machine_words c.args.m) 0 (omega arith)
