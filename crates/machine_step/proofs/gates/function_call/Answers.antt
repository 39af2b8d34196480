-- `function_call` meets the definition: its gate, then the call. Assumes nothing.
use mathlib.Core.Path.{refl, sym, ◌∙◌}
use Prim.Native.Nat.{◌≤◌}
use native.Mathlib.Omega.{arith}
use lib.ListN.{get_or}
use Rattle.memory_world.specs.Lendings.{top_setup, plain}
use Rattle.model.specs.declared.call.Op.{Op}
use Rattle.exec_instruction.proofs.Gated.{no_frames, some-frames, numbered}
use Rattle.machine_step.proofs.Calls.{as-frame, frameless, frame-bad, frame_past}
use Rattle.machine_step.proofs.Gating.{call_fits}
use borrow.Author.Rules.{rules}
use Rattle.machine_step.proofs.gates.function_call.Goals as goal

pub returns-then-m-eq0 : goal.returns-then-m-eq0
returns-then-m-eq0 c =
    let a = c.args in
    λ w b rep snd. as-frame w (Op.FunctionCall a.pc a.f a.cont) _ _ refl
    (frameless a.sizes (top_setup a.stack.now a.frames.now a.setup.now plain b) a.m b.fuel w _ _ (no_frames w.frames a.frames.now a.m.depth rep.frames c.if-m-eq0.true) rep)

pub overflow_sub-m : goal.overflow_sub-m
overflow_sub-m c = let h = c.if-m-eq0.false in omega arith

pub base_at-base-requires : goal.base_at-base-requires
base_at-base-requires c = let h = c.if-m-eq0.false in let k = c.requires.rep.frames.within in omega arith

pub bounds-setup-13 : goal.bounds-setup-13
bounds-setup-13 c = let k = c.requires.room.setup in omega arith

pub returns-then-not-passes : goal.returns-then-not-passes
returns-then-not-passes c =
    let a = c.args in
    λ w b rep snd.
    let some : 1 ≤ a.m.depth = (let h = c.if-m-eq0.false in omega arith) in
    let N = numbered a.sizes w (top_setup a.stack.now a.frames.now a.setup.now plain b) a.m b.fuel (get_or a.setup.now 13 0) c.base_at-base.result rep some refl c.base_at-base.ensures in
    as-frame w (Op.FunctionCall a.pc a.f a.cont) _ _ refl
    (frame-bad a.sizes (top_setup a.stack.now a.frames.now a.setup.now plain b) a.m b.fuel w _ _ (some-frames w.frames a.frames.now a.m.depth rep.frames some)
    (sym (c.passes.ensures w N) ∙ c.if-not-passes.true) rep)

pub function_call-requires : goal.function_call-requires
function_call-requires c =
    let a = c.args in let ok = c.requires in let w = ok.world in let b = ok.beside in let rep = ok.rep in
    let some : 1 ≤ a.m.depth = (let h = c.if-m-eq0.false in omega arith) in
    let N = numbered a.sizes w (top_setup a.stack.now a.frames.now a.setup.now plain b) a.m b.fuel (get_or a.setup.now 13 0) c.base_at-base.result rep some refl c.base_at-base.ensures in
    call_fits a.sizes a.stack.now a.frames.now a.setup.now a.m ok a.pc a.f a.cont some (search rules) (sym (c.passes.ensures w N) ∙ c.if-not-passes.false)

pub returns : goal.returns
returns c =
    let a = c.args in
    λ w b rep snd.
    let some : 1 ≤ a.m.depth = (let h = c.if-m-eq0.false in omega arith) in
    let N = numbered a.sizes w (top_setup a.stack.now a.frames.now a.setup.now plain b) a.m b.fuel (get_or a.setup.now 13 0) c.base_at-base.result rep some refl c.base_at-base.ensures in
    as-frame w (Op.FunctionCall a.pc a.f a.cont) _ _ refl
    (frame_past a.sizes _ _ b.fuel w _ _ _ (some-frames w.frames a.frames.now a.m.depth rep.frames some) (sym (c.passes.ensures w N) ∙ c.if-not-passes.false)
    (c.function_call.ensures w b rep snd))
