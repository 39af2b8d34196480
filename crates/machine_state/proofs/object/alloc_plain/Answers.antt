-- `alloc_plain` meets the definition, outcome by outcome. Assumes nothing.
use mathlib.Core.Path.{◌≡◌, ap, sym, ◌∙◌}
use native.Mathlib.Omega.{arith}
use Rattle.heap.specs.Heap.{alloc_of}
use Rattle.memory_world.specs.Lendings.{table, plain}
use Rattle.machine_state.proofs.Allocation.{plain-refused, plain-made}
use Rattle.machine_state.proofs.object.alloc_plain.Goals as goal

pub alloc-requires : goal.alloc-requires
alloc-requires c =
    let e : c.heap_of.result.slots ≡ c.args.sizes.slots = ap (λ x. x.slots) c.heap_of.ensures in
    let p₁ = c.requires.words in
    let p₂ = c.requires.slots in
    record { words = omega arith; slots = omega arith }

pub returns-in-Err : goal.returns-in-Err
returns-in-Err c =
    let a = c.args in
    λ x e none w b rep.
    plain-refused a.sizes (table a.slots.now plain b) a.m b.fuel w rep a.bytes x none c.alloc.new.slots c.heap_of.result c.alloc.result
    (c.alloc.ensures ∙ ap (alloc_of a.slots.now c.heap_of.result a.bytes) (sym e)) c.heap_of.ensures c.in-Err.g c.in-Err.is

pub returns-in-Ok : goal.returns-in-Ok
returns-in-Ok c =
    let a = c.args in
    λ x e none w b rep.
    plain-made a.sizes (table a.slots.now plain b) a.m b.fuel w rep a.bytes x none c.alloc.new.slots c.heap_of.result c.alloc.result
    (c.alloc.ensures ∙ ap (alloc_of a.slots.now c.heap_of.result a.bytes) (sym e)) c.heap_of.ensures c.requires.words
    c.in-Ok.v c.in-Ok.h
    c.allocated.result c.in-Ok.is c.allocated.ensures
