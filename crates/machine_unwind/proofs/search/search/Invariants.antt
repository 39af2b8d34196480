-- `search` meets its contract: what is left of it, done to the present, is the whole done to the start. The measure is the number of
-- frames. Assumes nothing.
use Rattle.memory_world.specs.Lendings.{six_setup, plain}
use Rattle.memory_world.specs.Contract.{with}
use Rattle.machine_unwind.proofs.Along.{Along}
use Rattle.machine_unwind.proofs.search.search.Given as goal

abbrev pub invariant-loop-n : goal.invariant-loop-n
invariant-loop-n l =
    Along l.sizes l.value l.func l.pc (six_setup l.initial.stack l.initial.frames l.initial.chain l.initial.slots l.initial.saved_stack l.initial.saved_frames l.setup plain) (with l.initial.n l.initial.f)
    (six_setup l.stack l.frames l.chain l.slots l.saved_stack l.saved_frames l.setup plain) (with l.n l.f)

abbrev pub decreases-loop-n : goal.decreases-loop-n
decreases-loop-n l = l.n.depth
