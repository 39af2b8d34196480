-- `put_sizes` meets its contract: twelve stores are one run. Assumes nothing.
use native.Mathlib.Omega.{arith}
use lib.ListN.{length-set}
use Rattle.memory_tables.proofs.Padded.{sets-splice}
use Rattle.linked_calls.specs.Words.{sizes_words}
use Rattle.linked_calls.proofs.begin.put_sizes.Goals as goal

pub bounds-ws-13 : goal.bounds-ws-13
bounds-ws-13 c = let h = c.requires in omega arith

pub bounds-ws-14 : goal.bounds-ws-14
bounds-ws-14 c = let h = c.requires in simp length-set (omega arith)

pub bounds-ws-15 : goal.bounds-ws-15
bounds-ws-15 c = let h = c.requires in simp length-set (omega arith)

pub bounds-ws-16 : goal.bounds-ws-16
bounds-ws-16 c = let h = c.requires in simp length-set (omega arith)

pub bounds-ws-17 : goal.bounds-ws-17
bounds-ws-17 c = let h = c.requires in simp length-set (omega arith)

pub bounds-ws-18 : goal.bounds-ws-18
bounds-ws-18 c = let h = c.requires in simp length-set (omega arith)

pub bounds-ws-19 : goal.bounds-ws-19
bounds-ws-19 c = let h = c.requires in simp length-set (omega arith)

pub bounds-ws-20 : goal.bounds-ws-20
bounds-ws-20 c = let h = c.requires in simp length-set (omega arith)

pub bounds-ws-21 : goal.bounds-ws-21
bounds-ws-21 c = let h = c.requires in simp length-set (omega arith)

pub bounds-ws-22 : goal.bounds-ws-22
bounds-ws-22 c = let h = c.requires in simp length-set (omega arith)

pub bounds-ws-23 : goal.bounds-ws-23
bounds-ws-23 c = let h = c.requires in simp length-set (omega arith)

pub bounds-ws-24 : goal.bounds-ws-24
bounds-ws-24 c = let h = c.requires in simp length-set (omega arith)

pub returns : goal.returns
returns c = let h = c.requires in sets-splice c.args.ws.now (sizes_words c.args.sizes) 13 (omega arith)
