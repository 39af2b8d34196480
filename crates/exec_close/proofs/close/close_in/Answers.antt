-- `close_in` meets the definition: an entry, and a close. Assumes nothing.
use Rattle.model.specs.Frames.{store_pc}
use Rattle.model.specs.Coro.{coro_enter}
use Rattle.model.specs.Exec.{close_entered}
use Rattle.model.specs.declared.machine.Driver.{Driver}
use Rattle.memory_world.specs.Lendings.{lent}
use Rattle.coro_enter.proofs.Entries.{then-does}
use Rattle.exec_close.proofs.close.close_in.Goals as goal

pub close_entered-step-requires : goal.close_entered-step-requires
close_entered-step-requires c =
    let o = c.requires.ok in
    let did = c.store_enter-did.ensures o.world o.beside o.rep o.sound in
    did.world.slots.within

pub returns : goal.returns
returns c =
    λ w b rep snd. let e = coro_enter c.args.v (Driver.Resume c.args.dst) (store_pc c.args.pc w) in
    let did = c.store_enter-did.ensures w b rep snd in
    let L = c.store_enter-did.new in
    then-does c.args.sizes _ c.store_enter-did.result.machine b.fuel e (close_entered c.args.v c.args.signal)
    c.store_enter-did.result.answer c.close_entered-step.result did.answer
    (c.close_entered-step.ensures c.args.sizes e.world
    (record { words = lent L.stack L.frames L.chain L.slots L.saved_stack L.saved_frames b; fuel = b.fuel }) did.world)
