-- `coro_result` meets the definition, by what the word names and its state. Assumes nothing.
use mathlib.Core.Path.{sym, ap, ◌∙◌}
use Rattle.heap.specs.declared.object.CoroObj.{CoroObj}
use Rattle.heap.proofs.Place.{stands-words}
use borrow.Author.Tests.{not-true, not-false}
use Rattle.model.specs.State.{is_returned}
use Rattle.memory_world.specs.Memory.{on_slots}
use Rattle.memory_world.specs.Lendings.{top_table, plain}
use Rattle.memory_world.proofs.Slotted.{placed, reads-state}
use Rattle.machine_state.proofs.Named.{named_none}
use Rattle.exec_ask.proofs.Asked.{result-refused, result-early, result-told}
use Rattle.exec_ask.proofs.ask.coro_result.Goals as goal

pub state_at-state-requires : goal.state_at-state-requires
state_at-state-requires c =
    stands-words c.args.m.count c.args.slots.now c.reg-v.result c.in-Ok.i
    (sym c.in-Ok.is ∙ c.coro_place.ensures) c.requires.table

pub returns-then-not-is_returned : goal.returns-then-not-is_returned
returns-then-not-is_returned c =
    λ l w b rep. let M = top_table c.args.stack.now c.args.frames.now c.args.slots.now plain b in
    let e = sym c.in-Ok.is ∙ c.coro_place.ensures in
    let t = placed l M c.args.m b.fuel c.reg-v.result w rep _ e in
    result-early l M c.args.m b.fuel w c.args.dst c.args.c c.reg-v.result
    (c.reg-v.ensures w.stack w.frames rep.stack rep.frames).is t.core t.rest t.coro
    (sym (ap is_returned (c.state_at-state.ensures ∙ reads-state l M c.args.m b.fuel c.reg-v.result w rep _ e))
    ∙ sym c.is_returned.ensures ∙ c.if-not-is_returned.true) rep

pub result_at-result-requires : goal.result_at-result-requires
result_at-result-requires c =
    stands-words c.args.m.count c.args.slots.now c.reg-v.result c.in-Ok.i
    (sym c.in-Ok.is ∙ c.coro_place.ensures) c.requires.table

pub returns-in-Err : goal.returns-in-Err
returns-in-Err c =
    λ l w b rep. let M = top_table c.args.stack.now c.args.frames.now c.args.slots.now plain b in
    result-refused l M c.args.m b.fuel w c.args.dst c.args.c c.reg-v.result (c.reg-v.ensures w.stack w.frames rep.stack rep.frames).is _
    (named_none l M c.args.m b.fuel c.reg-v.result w rep _ (sym c.in-Err.is ∙ c.coro_place.ensures)) rep

pub returns-else-not-is_returned : goal.returns-else-not-is_returned
returns-else-not-is_returned c =
    λ l w b rep. let M = top_table c.args.stack.now c.args.frames.now c.args.slots.now plain b in
    let e = sym c.in-Ok.is ∙ c.coro_place.ensures in
    let t = placed l M c.args.m b.fuel c.reg-v.result w rep _ e in
    result-told l _ c.args.m b.fuel w c.args.dst c.args.c c.reg-v.result
    (c.reg-v.ensures w.stack w.frames rep.stack rep.frames).is t.core t.rest t.coro c.result_at-result.result
    (sym (ap is_returned (c.state_at-state.ensures ∙ reads-state l M c.args.m b.fuel c.reg-v.result w rep _ e))
    ∙ sym c.is_returned.ensures ∙ c.if-not-is_returned.false)
    (c.result_at-result.ensures ∙ ap (λ (x : CoroObj). x.result) t.is)
    (c.put.ensures l w (record { words = on_slots c.args.slots.now b.words; fuel = b.fuel }) rep)
