-- `coro_key` meets the definition, by what the word names. Assumes nothing.
use mathlib.Core.Path.{sym, ap, ◌∙◌}
use Rattle.heap.specs.declared.object.CoroObj.{CoroObj}
use Rattle.heap.proofs.Place.{stands-words}
use Rattle.memory_world.specs.Memory.{on_slots}
use Rattle.memory_world.specs.Lendings.{top_table, plain}
use Rattle.memory_world.proofs.Slotted.{placed}
use Rattle.machine_state.proofs.Named.{named_none}
use Rattle.exec_ask.proofs.Asked.{key-refused, key-told}
use Rattle.exec_ask.proofs.ask.coro_key.Goals as goal

pub key_at-key-requires : goal.key_at-key-requires
key_at-key-requires c =
    stands-words c.args.m.count c.args.slots.now c.reg-v.result c.in-Ok.i
    (sym c.in-Ok.is ∙ c.coro_place.ensures) c.requires.table

pub returns-in-Err : goal.returns-in-Err
returns-in-Err c =
    λ l w b rep. let M = top_table c.args.stack.now c.args.frames.now c.args.slots.now plain b in
    key-refused l M c.args.m b.fuel w c.args.dst c.args.c c.reg-v.result (c.reg-v.ensures w.stack w.frames rep.stack rep.frames).is _
    (named_none l M c.args.m b.fuel c.reg-v.result w rep _ (sym c.in-Err.is ∙ c.coro_place.ensures)) rep

pub returns-in-Ok : goal.returns-in-Ok
returns-in-Ok c =
    λ l w b rep. let M = top_table c.args.stack.now c.args.frames.now c.args.slots.now plain b in
    let t = placed l M c.args.m b.fuel c.reg-v.result w rep _ (sym c.in-Ok.is ∙ c.coro_place.ensures) in
    key-told l _ c.args.m b.fuel w c.args.dst c.args.c c.reg-v.result
    (c.reg-v.ensures w.stack w.frames rep.stack rep.frames).is t.core t.rest t.coro
    c.key_at-key.result (c.key_at-key.ensures ∙ ap (λ (x : CoroObj). x.key) t.is)
    (c.put.ensures l w (record { words = on_slots c.args.slots.now b.words; fuel = b.fuel }) rep)
