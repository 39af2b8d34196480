-- `coro_suspend` meets the model, outcome by outcome. Assumes nothing.
use mathlib.Core.Path.{sym, ap, ◌∙◌}
use Prim.Native.Nat.{◌≤◌}
use native.Mathlib.Omega.{arith}
use Rattle.heap.specs.Heap.{slots_of, coro_of}
use Rattle.std.specs.Prelude.{Ok}
use Rattle.heap.proofs.Place.{none-there, stands, stands-words}
use Rattle.memory_world.specs.Memory.{Lent, Beside}
use Rattle.memory_world.specs.Lendings.{lent}
use Rattle.coro_suspend.proofs.Suspended.{idle, no-frame, not_found}
use Rattle.coro_suspend.proofs.suspend.coro_suspend.Lts as lts
use Rattle.coro_suspend.proofs.suspend.coro_suspend.Reads as reads
use Rattle.coro_suspend.proofs.suspend.coro_suspend.Tie as tie
use Rattle.coro_suspend.proofs.suspend.coro_suspend.Goals as goal

abbrev Start : Type 0
Start = lts.Start tie.the-claims reads.Pre reads.Post

abbrev Else-m-eq0 : Type 0
Else-m-eq0 = lts.Else1 tie.the-claims reads.Pre reads.Post

abbrev mem : Start → Beside → Lent
mem c b = lent c.args.stack.now c.args.frames.now c.args.chain.now c.args.slots.now c.args.saved_stack.now c.args.saved_frames.now b

some : (c : Else-m-eq0) → 1 ≤ c.args.m.active
some c = let h = c.if-m-eq0.false in omega arith

pub returns-then-m-eq0 : goal.returns-then-m-eq0
returns-then-m-eq0 c = λ w b rep snd. idle c.args.sizes (mem c.before.before.before.before.before.before.before.before.before b) c.args.m b.fuel c.args.state c.args.dst c.args.payload c.args.keys w rep c.if-m-eq0.true

pub returns-then-m-a : goal.returns-then-m-a
returns-then-m-a c =
    λ w b rep snd. no-frame c.args.sizes (mem c.before.before.before.before.before.before.before.before.before.before.before.before.before b) c.args.m b.fuel c.args.state c.args.dst c.args.payload
    c.args.keys w rep c.active_at-a.result (some c.before.before.before.before.before) c.active_at-a.ensures c.if-m-a.true

pub coro_place-requires : goal.coro_place-requires
coro_place-requires c = c.requires.ok.rep.slots.within

pub coro_at-c-requires : goal.coro_at-c-requires
coro_at-c-requires c =
    stands-words c.args.m.count c.args.slots.now c.active_at-a.result.coro c.in-Ok.i
    (sym c.in-Ok.is ∙ c.coro_place.ensures) c.requires.ok.rep.slots.within

pub suspend_found-requires : goal.suspend_found-requires
suspend_found-requires c =
    record {
      ok = c.requires.ok;
      state = c.requires.state;
      some = some c.before.before.before.before.before.before.before.before.before.before.before.before.before;
      top = c.active_at-a.ensures;
      floor = c.if-m-a.false;
      coro = ap (λ c₂. Ok (c.in-Ok.i, c₂)) c.coro_at-c.ensures ∙ (stands c.args.m.count c.args.slots.now
          c.active_at-a.result.coro c.in-Ok.i (sym c.in-Ok.is ∙ c.coro_place.ensures)).coro;
    }

pub returns-in-Err : goal.returns-in-Err
returns-in-Err c =
    λ w b rep snd. not_found c.args.sizes (mem c.before.before.before.before.before.before.before.before.before.before.before.before.before.before.before b) c.args.m b.fuel c.args.state c.args.dst c.args.payload
    c.args.keys w rep c.active_at-a.result (some c.before.before.before.before.before.before.before) c.active_at-a.ensures c.if-m-a.false _
    (none-there (coro_of (slots_of c.args.m.count c.args.slots.now) c.active_at-a.result.coro) c.in-Err.field-0
    (sym c.in-Err.is ∙ c.coro_place.ensures))

pub shape_of-stack : goal.shape_of-stack
shape_of-stack c = c.suspend_found.auto.stack

pub shape_of-frames : goal.shape_of-frames
shape_of-frames c = c.suspend_found.auto.frames

pub shape_of-chain-in-Ok : goal.shape_of-chain-in-Ok
shape_of-chain-in-Ok c = c.suspend_found.auto.chain

pub shape_of-slots-in-Ok : goal.shape_of-slots-in-Ok
shape_of-slots-in-Ok c = c.suspend_found.auto.slots

pub shape_of-saved_stack : goal.shape_of-saved_stack
shape_of-saved_stack c = c.suspend_found.auto.saved_stack

pub shape_of-saved_frames : goal.shape_of-saved_frames
shape_of-saved_frames c = c.suspend_found.auto.saved_frames

pub returns-in-Ok : goal.returns-in-Ok
returns-in-Ok c = c.suspend_found.ensures
