-- `enter_at` meets the model: an entry that nothing refuses. Assumes nothing.
use mathlib.Core.Path.{refl}
use native.Mathlib.Omega.{arith}
use Rattle.model.specs.declared.machine.Driver.{Driver}
use Rattle.memory_world.specs.Memory.{Lent, Beside}
use Rattle.memory_world.specs.Lendings.{lent}
use Rattle.linked_calls.specs.Words.{machine_in, sizes_in}
use Rattle.coro_enter.proofs.Entry.{accepted}
use Rattle.linked_switch.specs.Words.{record_at}
use Rattle.linked_switch.proofs.Fits.{found, sum, fit}
use Rattle.linked_switch.proofs.enter.enter_at.Lts as lts
use Rattle.linked_switch.proofs.enter.enter_at.Reads as reads
use Rattle.linked_switch.proofs.enter.enter_at.Tie as tie
use Rattle.linked_switch.proofs.enter.enter_at.Goals as goal

abbrev Start : Type 0
Start = lts.Start tie.the-claims reads.Pre reads.Post

abbrev mem : Start → Beside → Lent
mem c = let a = c.args in lent a.stack.now a.frames.now a.chain.now a.slots.now a.saved_stack.now a.saved_frames.now

pub move_in-requires : goal.move_in-requires
move_in-requires c = record { words = c.requires.words; slot = (sum c.requires).slot; fits = fit c.requires (omega (arith, c.well_formed)) }

pub push_active-requires : goal.push_active-requires
push_active-requires c = (sum c.requires).chain

pub put_entered-requires : goal.put_entered-requires
put_entered-requires c = (sum c.requires).slot

pub returns : goal.returns
returns c =
    let a = c.args in
    λ w b rep snd. accepted (sizes_in a.machine.now) (mem c.before.before.before.before.before.before.before.before.before.before.before.before.before.before.before.before.before.before.before.before.before.before.before.before.before.before.before.before.before.before.before b) (machine_in a.machine.now) b.fuel a.v w rep a.i (record_at a.slots.now a.i) (found c.requires) snd tt
    c.requires.may.fits (Driver.Resume a.dst) _ _ _ _ _ _ _ _ c.move_in.ensures
    c.push_active.ensures c.put_entered.ensures refl refl
