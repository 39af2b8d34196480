-- `enter_send` meets its contract: an entry, and an arrival. Assumes nothing.
use Rattle.model.specs.Frames.{store_pc}
use Rattle.model.specs.Coro.{coro_enter}
use Rattle.model.specs.Exec.{arrive}
use Rattle.memory_world.specs.Lendings.{lent}
use Rattle.machine_state.proofs.Stored.{store-sounds}
use Rattle.coro_enter.proofs.Entries.{then-does, arrive-fits}
use Rattle.coro_enter.proofs.arrival.enter_send.Goals as goal

pub arrive-step-requires : goal.arrive-step-requires
arrive-step-requires c =
    let o = c.requires.ok in let u = store_pc c.args.pc o.world in
    arrive-fits c.args.sizes _ c.store_enter-did.result.machine _ c.args.v c.args.d u
    c.store_enter-did.result.answer (store-sounds c.args.pc o.world c.requires.narrow o.sound)
    (c.store_enter-did.ensures o.world o.beside o.rep o.sound)

pub returns : goal.returns
returns c =
    λ w b rep snd. let e = coro_enter c.args.v c.args.d (store_pc c.args.pc w) in
    let d = c.store_enter-did.ensures w b rep snd in
    let L = c.store_enter-did.new in
    then-does c.args.sizes _ c.store_enter-did.result.machine b.fuel e (arrive c.args.sent)
    c.store_enter-did.result.answer c.arrive-step.result d.answer
    (c.arrive-step.ensures c.args.sizes e.world
    (record { words = lent L.stack L.frames L.chain L.slots L.saved_stack L.saved_frames b; fuel = b.fuel }) d.world)
