-- `host_call` meets the definition: its gate, then the call. Assumes nothing.
use mathlib.Core.Path.{refl, sym, ◌∙◌}
use native.Mathlib.Omega.{arith}
use Rattle.memory_world.specs.Lendings.{top_setup, plain}
use Rattle.model.specs.declared.call.Op.{Op}
use Rattle.exec_instruction.proofs.Gated.{no_frames, some-frames}
use Rattle.machine_step.proofs.Calls.{as-host, busy, host-bad, host-past}
use Rattle.machine_step.proofs.Gating.{function-told, push-fits}
use Rattle.machine_step.proofs.gates.host_call.Goals as goal

pub returns-then-m-ne0 : goal.returns-then-m-ne0
returns-then-m-ne0 c =
    let a = c.args in
    λ w b rep snd. as-host w (Op.HostCall a.f) _ _ refl
    (busy a.sizes (top_setup a.stack.now a.frames.now a.setup.now plain b) a.m b.fuel w _ _ (some-frames w.frames a.frames.now a.m.depth rep.frames (let h = c.if-m-ne0.true in omega arith)) rep)

pub is_function-requires : goal.is_function-requires
is_function-requires c = let k = c.requires.room.setup in omega arith

pub returns-then-not-is_function : goal.returns-then-not-is_function
returns-then-not-is_function c =
    let a = c.args in
    λ w b rep snd. as-host w (Op.HostCall a.f) _ _ refl
    (host-bad a.sizes (top_setup a.stack.now a.frames.now a.setup.now plain b) a.m b.fuel w _ _ (no_frames w.frames a.frames.now a.m.depth rep.frames (let h =
    c.if-m-ne0.false in omega arith)) (function-told a.sizes (top_setup a.stack.now a.frames.now a.setup.now plain b) a.m b.fuel w a.f _ rep c.is_function.ensures ∙ c.if-not-is_function.true) rep)

pub host_call-requires : goal.host_call-requires
host_call-requires c =
    let a = c.args in
    push-fits a.sizes a.stack.now a.frames.now a.setup.now a.m c.requires a.f (sym c.if-not-is_function.false ∙ c.is_function.ensures)

pub returns : goal.returns
returns c =
    let a = c.args in
    λ w b rep snd. as-host w (Op.HostCall a.f) _ _ refl
    (host-past a.sizes _ _ b.fuel w _ _ _ (no_frames w.frames a.frames.now a.m.depth rep.frames (let h = c.if-m-ne0.false in omega arith)) (function-told a.sizes (top_setup a.stack.now a.frames.now a.setup.now plain b) a.m b.fuel w a.f _ rep c.is_function.ensures ∙ c.if-not-is_function.false)
    (c.host_call.ensures w b rep snd))
