-- `deliver` meets the definition, driver by driver. Assumes nothing.
use Rattle.model.specs.declared.machine.Driver.{Driver}
use Rattle.memory_world.specs.Memory.{on_slots}
use Rattle.memory_world.specs.Lendings.{top_table, plain}
use Rattle.coro_end.proofs.Delivery.{told-host, to-driver, to-host, to-cleanup}
use Rattle.coro_end.proofs.deliver.deliver.Goals as goal

pub deliver_resume-answer-requires : goal.deliver_resume-answer-requires
deliver_resume-answer-requires c = c.requires.resumes c.in-Resume.dst c.in-Resume.is

pub deliver_iter-answer-requires : goal.deliver_iter-answer-requires
deliver_iter-answer-requires c = c.requires.iterates c.in-Iter.has c.in-Iter.val c.in-Iter.iter c.in-Iter.is

pub returns-in-Resume : goal.returns-in-Resume
returns-in-Resume c =
    λ l w b rep. to-driver l _ c.args.m c.args.fuel w c.args.e c.args.d
    (Driver.Resume c.in-Resume.dst) c.deliver_resume-answer.result c.in-Resume.is
    (c.deliver_resume-answer.ensures l w (record { words = on_slots c.args.slots.now b.words; fuel = c.args.fuel }) rep)

pub returns-in-Iter : goal.returns-in-Iter
returns-in-Iter c =
    λ l w b rep. to-driver l _ c.args.m c.args.fuel w c.args.e c.args.d
    (Driver.Iter c.in-Iter.has c.in-Iter.val c.in-Iter.iter) c.deliver_iter-answer.result
    c.in-Iter.is (c.deliver_iter-answer.ensures l w (record { words = b.words; fuel = c.args.fuel }) rep)

pub returns-in-Host : goal.returns-in-Host
returns-in-Host c =
    λ l w b rep. to-host l _ c.stopped-n.result c.args.fuel w c.args.e c.args.d
    c.outcome_of-s.result c.in-Host.is c.outcome_of-s.ensures
    (told-host l (top_table c.args.stack.now c.args.frames.now c.args.slots.now plain b) c.args.m c.args.fuel w rep
    c.outcome_of-s.result c.stopped-n.result c.stopped-n.ensures)

pub returns-in-Finalize : goal.returns-in-Finalize
returns-in-Finalize c =
    λ l w b rep. to-cleanup l _ _ _ w c.args.e c.args.d c.in-Finalize.is (c.set_finalizing-did.ensures l w
    (record { words = top_table c.args.stack.now c.args.frames.now c.args.slots.now plain b; fuel = b.fuel }) rep)
