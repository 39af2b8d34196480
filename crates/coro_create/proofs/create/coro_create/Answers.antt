-- `coro_create` meets the model, outcome by outcome. Assumes nothing.
use Rattle.std.proofs.Common.{◌≡◌, ℕ, ◌≤◌, length, sym, ap, ◌∙◌, arith, rules}
use Rattle.heap.specs.Heap.{slots_of, TableFits}
use Rattle.memory_world.specs.Memory.{Lent, Beside}
use Rattle.machine_state.specs.Numbers.{heap_of}
use Rattle.memory_world.specs.Lendings.{making, plain}
use Rattle.coro_create.specs.Create.{spot_of}
use Rattle.std.specs.Prelude.{Ok}
use Rattle.coro_create.proofs.Setting.{Numbers, in-setup, numbers}
use Rattle.coro_create.proofs.Creation.{alloc_told, write-fits, not-created, not-charged, was-created}
use Rattle.coro_create.proofs.create.coro_create.Lts as lts
use Rattle.coro_create.proofs.create.coro_create.Reads as reads
use Rattle.coro_create.proofs.create.coro_create.Tie as tie
use Rattle.coro_create.proofs.create.coro_create.Goals as goal

abbrev Start : Type 0
Start = lts.Start tie.the-claims reads.Pre reads.Post

abbrev After-regs_at-regs : Type 0
After-regs_at-regs = lts.After-regs_at tie.the-claims reads.Pre reads.Post

abbrev In-Row : Type 0
In-Row = lts.Past-After-known_told2 tie.the-claims reads.Pre reads.Post

abbrev mem : Start → Beside → Lent
mem c b = making c.args.slots.now c.args.saved_stack.now c.args.saved_frames.now c.args.setup.now plain b

few : (c : Start) → c.args.n ≤ length c.args.args
few c = let l : length c.args.args ≡ 255 = search rules in let k = c.requires.few in omega arith

room : (c : Start) → TableFits c.args.slots.now c.args.sizes.slots
room c = let z = c.requires.ok.rep.sizes.slots in let r = c.requires.ok.room.slots in omega arith

-- the row that was found
abbrev row : In-Row → ℕ
row c = c.in-Ok.row

found : (c : In-Row) →
    let a = c.args in Ok (row c) ≡ spot_of (slots_of a.m.count a.slots.now) a.m a.sizes c.regs_at-regs.result
found c = sym c.in-Ok.is ∙ c.find_spot.ensures

told : (c : After-regs_at-regs) → Numbers c.args.sizes c.regs_at-regs.result
told c =
    let a = c.args in let o = c.requires.ok in
    numbers a.sizes (mem c.before.before.before.before.before o.beside) a.m o.beside.fuel o.world o.rep a.f o.sound c.requires.function c.regs_at-regs.result c.regs_at-regs.ensures

pub regs_at-regs-requires : goal.regs_at-regs-requires
regs_at-regs-requires c =
    let a = c.args in let o = c.requires.ok in
    in-setup a.sizes (mem c.before.before.before.before.before o.beside) a.m o.beside.fuel o.world o.rep a.f o.sound c.requires.function o.room

pub find_spot-requires : goal.find_spot-requires
find_spot-requires c = let k = told c.before in record { words = c.requires.ok.rep.slots.within; rows = k.rows; bytes = k.first }

pub bytes-charge-requires : goal.bytes-charge-requires
bytes-charge-requires c = (told c.before.before.before.before.before.before).second

pub alloc-requires : goal.alloc-requires
alloc-requires c =
    let e : c.heap_of.result.slots ≡ c.args.sizes.slots = ap (λ x. x.slots) c.heap_of.ensures in
    let k = (told c.before.before.before.before.before.before.before.before.before).slots in let r = room c.before.before.before.before.before.before.before.before.before.before.before.before.before.before in
    record { words = omega arith; slots = omega arith }

pub write_row-requires : goal.write_row-requires
write_row-requires c =
    let a = c.args in let o = c.requires.ok in
    write-fits a.sizes (mem c.before.before.before.before.before.before.before.before.before.before.before.before.before.before.before.before.before.before.before.before o.beside) a.m o.beside.fuel o.world o.rep o.sound a.f a.closure a.n c.regs_at-regs.result a.args
    (few c.before.before.before.before.before.before.before.before.before.before.before.before.before.before.before.before.before.before.before.before) c.requires.function c.regs_at-regs.ensures (row c.before.before.before.before.before.before.before.before.before.before.before.before.before) (found c.before.before.before.before.before.before.before.before.before.before.before.before.before) c.requires.few

pub returns-in-Err : goal.returns-in-Err
returns-in-Err c =
    let a = c.args in
    λ w b rep snd.
    not-created a.sizes (mem c.before.before.before.before.before.before.before.before b) a.m b.fuel w rep snd a.f a.closure a.n c.regs_at-regs.result a.args
    (few c.before.before.before.before.before.before.before.before) c.requires.function c.regs_at-regs.ensures _ (sym c.in-Err.is ∙ c.find_spot.ensures)

pub returns-in-Err-alloc : goal.returns-in-Err-alloc
returns-in-Err-alloc c =
    let a = c.args in
    λ w b rep snd.
    not-charged a.sizes (mem c.before.before.before.before.before.before.before.before.before.before.before.before.before.before.before.before.before.before b) a.m b.fuel w rep snd a.f a.closure a.n c.regs_at-regs.result a.args
    (few c.before.before.before.before.before.before.before.before.before.before.before.before.before.before.before.before.before.before) c.requires.function c.regs_at-regs.ensures (row c.before.before.before.before.before.before.before.before.before.before.before) (found c.before.before.before.before.before.before.before.before.before.before.before) _ c.sequenced-q.result _ c.sequenced-q.ensures
    (alloc_told a.slots.now _ _ _ _ _ _ _ _ _ c.alloc.ensures c.in-Err-alloc.is
    (c.heap_of.ensures ∙ ap (λ q. heap_of q a.sizes) c.sequenced-q.ensures) c.bytes-charge.ensures c.new_object.ensures)

pub returns-in-Ok-alloc : goal.returns-in-Ok-alloc
returns-in-Ok-alloc c =
    let a = c.args in
    λ w b rep snd.
    was-created a.sizes (mem c.before.before.before.before.before.before.before.before.before.before.before.before.before.before.before.before.before.before.before.before.before.before.before.before.before.before b) a.m b.fuel w rep snd a.f a.closure a.n c.regs_at-regs.result a.args
    (few c.before.before.before.before.before.before.before.before.before.before.before.before.before.before.before.before.before.before.before.before.before.before.before.before.before.before) c.requires.function c.regs_at-regs.ensures (row c.before.before.before.before.before.before.before.before.before.before.before.before.before.before.before.before.before.before.before) (found c.before.before.before.before.before.before.before.before.before.before.before.before.before.before.before.before.before.before.before) _ (room c.before.before.before.before.before.before.before.before.before.before.before.before.before.before.before.before.before.before.before.before.before.before.before.before.before.before) c.sequenced-q.result c.allocated.result _ _ _ _
    c.sequenced-q.ensures c.allocated.ensures (alloc_told a.slots.now _ _ _ _ _ _ _ _ _ c.alloc.ensures c.in-Ok-alloc.is
    (c.heap_of.ensures ∙ ap (λ q. heap_of q a.sizes) c.sequenced-q.ensures) c.bytes-charge.ensures c.new_object.ensures) c.write_row.ensures
