-- `host_entry` meets the definition: its gate, then the entry. Assumes nothing.
use mathlib.Core.Path.{refl}
use native.Mathlib.Omega.{arith}
use Rattle.memory_world.specs.Lendings.{six, plain}
use Rattle.model.specs.declared.call.Op.{Op}
use Rattle.exec_instruction.proofs.Gated.{no_frames, some-frames}
use Rattle.machine_step.proofs.Calls.{as-host, busy, host-past}
use Rattle.machine_step.proofs.gates.host_entry.Goals as goal

pub returns-then-m-ne0 : goal.returns-then-m-ne0
returns-then-m-ne0 c =
    let a = c.args in
    λ w b rep snd. as-host w (Op.HostEntry a.c a.v) _ _ refl
    (busy a.sizes (six a.stack.now a.frames.now a.chain.now a.slots.now a.saved_stack.now a.saved_frames.now plain b) a.m b.fuel w _ _ (some-frames w.frames
    a.frames.now a.m.depth rep.frames (let h = c.if-m-ne0.true in omega arith)) rep)

pub returns : goal.returns
returns c =
    let a = c.args in
    λ w b rep snd. as-host w (Op.HostEntry a.c a.v) _ _ refl
    (host-past a.sizes _ _ b.fuel w _ _ _ (no_frames w.frames a.frames.now a.m.depth rep.frames (let h = c.if-m-ne0.false in omega arith)) refl
    (c.host_entry.ensures w b rep snd))
