-- `take_handler` meets its contract: a unit, a word and a pc. Assumes nothing.
use mathlib.Core.Path.{sym, ◌∙◌}
use Rattle.memory_world.specs.Lendings.{top, plain}
use Rattle.machine_unwind.proofs.Turning.{handler-unpaid, handler-taken}
use Rattle.machine_unwind.proofs.handler.take_handler.Goals as goal

pub returns-then-is_spent : goal.returns-then-is_spent
returns-then-is_spent c =
    let a = c.args in
    let r = c.charge_plain-did in
    λ l w b rep.
    let M = top a.stack.now a.frames.now plain b in
    handler-unpaid l M a.m r.result.fuel w a.h a.value r.result.answer (sym c.is_spent.ensures ∙ c.if-is_spent.true)
    (r.ensures a.m l w (record { words = M; fuel = b.fuel }) rep)

pub returns : goal.returns
returns c =
    let a = c.args in
    let r = c.charge_plain-did in
    λ l w b rep.
    let M = top a.stack.now a.frames.now plain b in
    let d = r.ensures a.m l w (record { words = M; fuel = b.fuel }) rep in
    handler-taken l M a.m r.result.fuel w a.h a.value r.result.answer _ (sym c.is_spent.ensures ∙ c.if-is_spent.false) d.answer
    (c.store_pc.ensures l _ (record { words = top c.put.new.stack a.frames.now plain b; fuel = r.result.fuel })
    (c.put.ensures l _ (record { words = M; fuel = r.result.fuel }) d.world))
