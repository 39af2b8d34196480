-- `host_entry` meets its contract: an entry by the host, and an arrival. Assumes nothing.
use Rattle.model.specs.Coro.{coro_enter}
use Rattle.model.specs.declared.machine.Driver.{Driver}
use Rattle.memory_world.specs.Lendings.{lent}
use Rattle.coro_enter.proofs.Entries.{arrive-fits}
use Rattle.machine_added.proofs.Entering.{host-entered}
use Rattle.machine_added.proofs.entry.host_entry.Goals as goal

pub arrive-requires : goal.arrive-requires
arrive-requires c =
    let o = c.requires in
    arrive-fits c.args.sizes _ c.coro_enter-did.result.machine _ c.args.c Driver.Host o.world c.coro_enter-did.result.answer o.sound
    (c.coro_enter-did.ensures o.world o.beside o.rep o.sound)

pub returns : goal.returns
returns c =
    λ w b rep snd. let did = c.coro_enter-did.ensures w b rep snd in
    let L = c.coro_enter-did.new in
    host-entered c.args.sizes _ c.coro_enter-did.result.machine b.fuel w c.args.c c.args.v
    c.coro_enter-did.result.answer c.arrive.result c.entered_as.result c.entered_as.ensures did.answer
    (c.arrive.ensures c.args.sizes (coro_enter c.args.c Driver.Host w).world
    (record { words = lent L.stack L.frames L.chain L.slots L.saved_stack L.saved_frames b; fuel = b.fuel }) did.world)
