-- `finish` meets the definition: without a frame, and by the way of the top frame's continuation. Assumes nothing.
use mathlib.Core.Path.{◌≡◌, sym, ap, ◌∙◌}
use Prim.Native.Nat.{◌-◌, ◌≤◌}
use native.Mathlib.Omega.{arith}
use Rattle.model.specs.World.{World}
use Rattle.model.specs.Machine.{finish}
use Rattle.model.specs.declared.call.Answer.{Answer}
use Rattle.model.specs.declared.machine.Frame.{Frame}
use Rattle.memory_tables.specs.Layout.{frame_in}
use Rattle.memory_world.specs.Memory.{Lent, Beside, Rep, on_chain, on_slots, on_saved}
use Rattle.memory_world.specs.Lendings.{lent}
use Rattle.memory_world.proofs.Does.{does}
use Rattle.machine_state.specs.Frame.{pop_top}
use Rattle.machine_state.proofs.Tops.{no_top}
use Rattle.machine_state.proofs.Ways.{driver-way}
use Rattle.machine_finish.proofs.Ends.{On, on-top, no-frame, finish-out, may-pop}
use Rattle.machine_finish.proofs.finish.finish.Lts as lts
use Rattle.machine_finish.proofs.finish.finish.Reads as reads
use Rattle.machine_finish.proofs.finish.finish.Tie as tie
use Rattle.machine_finish.proofs.finish.finish.Goals as goal

abbrev Start : Type 0
Start = lts.Start tie.the-claims reads.Pre reads.Post

abbrev After-frame_at-f : Type 0
After-frame_at-f = lts.After-frame_at tie.the-claims reads.Pre reads.Post

-- `finish` meets the definition: without a frame, and by the way of the top frame's continuation. Assumes nothing.
abbrev mem : Start → Beside → Lent
mem s = let a = s.args in lent a.stack.now a.frames.now a.chain.now a.slots.now a.saved_stack.now a.saved_frames.now

-- what a pop is not lent, and what the end of a call is not
abbrev under : Start → Beside → Beside
under s b = record { words = on_chain s.args.chain.now (on_slots s.args.slots.now (on_saved s.args.saved_stack.now s.args.saved_frames.now b.words)); fuel = b.fuel }

abbrev beyond : Start → Beside → Beside
beyond s b = record { words = on_chain s.args.chain.now (on_saved s.args.saved_stack.now s.args.saved_frames.now b.words); fuel = b.fuel }

some : (c : After-frame_at-f) → 1 ≤ c.args.m.depth
some c = omega (arith, c.if-m-eq0.false)

read : (c : After-frame_at-f) → let a = c.args in (frame_in a.frames.now (a.m.depth - 1)).cont ≡ c.frame_at-f.result.cont
read c = sym (ap (λ (x : Frame). x.cont) c.frame_at-f.ensures)

top : (c : After-frame_at-f) (w : World) (b : Beside) → Rep c.args.sizes w (mem c.before.before.before.before.before.before.before.before.before.before b) c.args.m c.args.fuel → On w.frames c.frame_at-f.result.cont
top c w b rep = on-top c.args.sizes (mem c.before.before.before.before.before.before.before.before.before.before b) c.args.m c.args.fuel w rep (some c) c.frame_at-f.result.cont (read c)

pub returns-then-m-eq0 : goal.returns-then-m-eq0
returns-then-m-eq0 c =
    let a = c.args in
    λ w b rep snd.
    does a.sizes (mem c.before.before.before.before.before.before.before.before.before.before b) a.m a.fuel (finish a.kind a.v w) w (Answer.Exit c.result_of.result)
    (no-frame a.kind a.v w c.result_of.result (no_top w.frames a.frames.now a.m.depth rep.frames c.if-m-eq0.true) c.result_of.ensures) rep

pub pop-n-requires : goal.pop-n-requires
pop-n-requires c = may-pop c.args.sizes (mem c.before.before.before.before.before.before.before.before.before.before.before.before.before.before.before) c.args.m c.requires (some c.before.before.before.before.before)

pub end_call-did-requires : goal.end_call-did-requires
end_call-did-requires c =
    let o = c.requires in
    record {
      on = record { ok = record { world = o.world; beside = beyond c.before.before.before.before.before.before.before.before.before.before.before.before.before.before.before.before o.beside; rep = o.rep; sound = o.sound; room = o.room }; some = some c.before.before.before.before.before.before; top = read c.before.before.before.before.before.before };
      call = sym c.way_of.ensures ∙ c.in-Caller.is;
    }

pub finish_coro-requires : goal.finish_coro-requires
finish_coro-requires c =
    record {
      ok = c.requires;
      some = some c.before.before.before.before.before.before.before.before;
      top = read c.before.before.before.before.before.before.before.before ∙ driver-way c.frame_at-f.result.cont (sym c.way_of.ensures ∙ c.in-Driver.is);
    }

pub returns-in-Out : goal.returns-in-Out
returns-in-Out c =
    let a = c.args in
    let p = c.pop-n in
    let o = c.result_of-result in
    λ w b rep snd.
    does a.sizes (lent p.new.stack p.new.frames a.chain.now a.slots.now a.saved_stack.now a.saved_frames.now b) p.result a.fuel
    (finish a.kind a.v w) (pop_top w) (Answer.Exit o.result)
    (finish-out a.kind a.v w c.frame_at-f.result.cont (top c.before.before.before.before.before.before.before.before.before.before.before w b rep) o.result (sym c.way_of.ensures ∙ c.in-Out.is) o.ensures)
    (p.ensures a.sizes w (under c.before.before.before.before.before.before.before.before.before.before.before.before.before.before.before.before.before.before.before.before.before (record { words = b.words; fuel = a.fuel })) rep)

pub returns-in-Caller : goal.returns-in-Caller
returns-in-Caller c = λ w b rep snd. c.end_call-did.ensures w (beyond c.before.before.before.before.before.before.before.before.before.before.before.before.before.before.before.before.before.before.before.before.before.before.before.before (record { words = b.words; fuel = c.args.fuel })) rep

pub returns-in-Driver : goal.returns-in-Driver
returns-in-Driver c = c.finish_coro.ensures
