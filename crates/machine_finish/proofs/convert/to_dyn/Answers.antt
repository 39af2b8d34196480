-- `to_dyn` meets the definition, outcome by outcome. Assumes nothing.
use mathlib.Core.Path.{◌≡◌, ap}
use native.Mathlib.Omega.{arith}
use Rattle.memory_world.specs.Lendings.{table, plain}
use Rattle.machine_finish.proofs.Conversion.{dyn-refused, dyn-made}
use Rattle.machine_finish.proofs.convert.to_dyn.Goals as goal

pub to_dyn-requires : goal.to_dyn-requires
to_dyn-requires c =
    let e : c.heap_of.result.slots ≡ c.args.sizes.slots = ap (λ x. x.slots) c.heap_of.ensures in
    let p₁ = c.requires.words in
    let p₂ = c.requires.slots in
    record { words = omega arith; slots = omega arith }

pub returns-in-Err : goal.returns-in-Err
returns-in-Err c =
    let a = c.args in
    λ w b rep.
    dyn-refused a.sizes (table a.slots.now plain b) a.m b.fuel w rep c.to_dyn.new.slots a.kind a.v c.heap_of.result c.to_dyn.result c.to_dyn.ensures
    c.heap_of.ensures c.in-Err.g c.in-Err.is

pub returns-in-Ok : goal.returns-in-Ok
returns-in-Ok c =
    let a = c.args in
    λ w b rep.
    dyn-made a.sizes (table a.slots.now plain b) a.m b.fuel w rep c.to_dyn.new.slots a.kind a.v c.heap_of.result c.to_dyn.result c.to_dyn.ensures
    c.heap_of.ensures c.requires.words c.in-Ok.x c.in-Ok.h c.allocated.result c.in-Ok.is c.allocated.ensures
