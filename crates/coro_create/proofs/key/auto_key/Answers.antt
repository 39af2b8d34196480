-- `auto_key` meets the model, outcome by outcome. Assumes nothing.
use Rattle.std.proofs.Common.{◌≡◌, sym, ap, ◌∙◌, arith}
use Rattle.memory_world.specs.Lendings.{table, plain}
use Rattle.coro_create.proofs.Keying.{key-over, key-refused, key-made}
use Rattle.coro_create.proofs.key.auto_key.Goals as goal

pub encode_int-requires : goal.encode_int-requires
encode_int-requires c =
    let e : c.heap_of.result.slots ≡ c.args.sizes.slots = ap (λ x. x.slots) c.heap_of.ensures in
    let p = c.requires in
    let p₁ = p.words in
    let p₂ = p.slots in
    record { words = omega arith; slots = omega arith }

pub returns-in-None : goal.returns-in-None
returns-in-None c =
    λ w b rep snd. key-over c.args.sizes (table c.args.slots.now plain b) c.args.m b.fuel w rep c.args.largest
    (sym c.in-None.is ∙ c.next_key.ensures)

pub returns-in-Err : goal.returns-in-Err
returns-in-Err c =
    λ w b rep snd. key-refused c.args.sizes (table c.args.slots.now plain b) c.args.m b.fuel w rep c.args.largest
    c.in-Some.n (sym c.in-Some.is ∙ c.next_key.ensures) _ c.encode_int.result c.heap_of.result
    c.encode_int.ensures c.heap_of.ensures _ c.in-Err.is

pub returns-in-Ok : goal.returns-in-Ok
returns-in-Ok c =
    λ w b rep snd. key-made c.args.sizes (table c.args.slots.now plain b) c.args.m b.fuel w rep c.args.largest
    c.in-Some.n (sym c.in-Some.is ∙ c.next_key.ensures) _ c.encode_int.result c.heap_of.result
    c.encode_int.ensures c.heap_of.ensures c.requires.words _ _ c.allocated.result c.in-Ok.is
    c.allocated.ensures
