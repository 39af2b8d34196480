-- `push_frame` meets its contract, refused or done. Assumes nothing.
use mathlib.Core.Path.{sym, ap, ◌∙◌, subst}
use Rattle.std.specs.Prelude.{Ok}
use Rattle.memory_world.specs.Memory.{Lent, Beside, on_stack, on_frames, on_setup}
use Rattle.memory_world.specs.Contract.{Does}
use Prim.Native.Nat.{◌+◌, ◌^◌, ◌<◌}
use native.Mathlib.Omega.{arith}
use Rattle.model.specs.Machine.{push_frame}
use Rattle.machine_state.specs.Frame.{overflowing, pushed}
use Rattle.machine_state.proofs.Frames.{asked, fitting, push-refused, push-done}
use Rattle.machine_state.proofs.frame.push_frame.Lts as lts
use Rattle.machine_state.proofs.frame.push_frame.Reads as reads
use Rattle.machine_state.proofs.frame.push_frame.Tie as tie
use Rattle.machine_state.proofs.frame.push_frame.Goals as goal

abbrev Start : Type 0
Start = lts.Start tie.the-claims reads.Pre reads.Post

-- `push_frame` meets its contract, refused or done. Assumes nothing.
abbrev mem : Start → Beside → Lent
mem c b = on_stack c.args.stack.now (on_frames c.args.frames.now (on_setup c.args.setup.now b.words))

pub regs_at-n-requires : goal.regs_at-n-requires
regs_at-n-requires c =
    (asked c.args.sizes c.requires.ok.world (mem c.before.before.before.before c.requires.ok.beside) c.args.m c.requires.ok.beside.fuel c.requires.ok.rep
    c.requires.ok.sound c.args.f c.requires.function c.requires.ok.room).function-there

pub overflows-requires : goal.overflows-requires
overflows-requires c =
    (asked c.args.sizes c.requires.ok.world (mem c.before.before.before.before.before c.requires.ok.beside) c.args.m c.requires.ok.beside.fuel c.requires.ok.rep
    c.requires.ok.sound c.args.f c.requires.function c.requires.ok.room).height

pub returns-then-overflows : goal.returns-then-overflows
returns-then-overflows c =
    λ w b rep snd. push-refused c.args.sizes w (mem c.before.before.before.before.before.before.before b) c.args.m b.fuel
    rep snd c.args.f c.requires.function c.args.closure c.args.cont
    (ap (overflowing c.args.m c.args.sizes) (sym c.regs_at-n.ensures) ∙ sym c.overflows.ensures ∙ c.if-overflows.true)

pub push_frame-requires : goal.push_frame-requires
push_frame-requires c =
    (fitting c.args.sizes c.requires.ok.world (mem c.before.before.before.before.before.before.before.before c.requires.ok.beside) c.args.m c.requires.ok.beside.fuel
    c.requires.ok.rep c.requires.ok.sound c.args.f c.requires.function c.args.closure c.args.cont c.requires.ok.room (ap
    (overflowing c.args.m c.args.sizes) (sym c.regs_at-n.ensures) ∙ sym c.overflows.ensures ∙ c.if-overflows.false)).frames

pub grown-requires : goal.grown-requires
grown-requires c =
    let h = fitting c.args.sizes c.requires.ok.world (mem c.before.before.before.before.before.before.before.before.before.before.before c.requires.ok.beside) c.args.m c.requires.ok.beside.fuel
    c.requires.ok.rep c.requires.ok.sound c.args.f c.requires.function c.args.closure c.args.cont c.requires.ok.room
    (ap (overflowing c.args.m c.args.sizes) (sym c.regs_at-n.ensures) ∙ sym c.overflows.ensures ∙ c.if-overflows.false) in
    (subst (λ n. c.args.m.height + n < 2 ^ 64) (sym c.regs_at-n.ensures) h.height, h.depth)

pub returns : goal.returns
returns c =
    λ w b rep snd. let q = c.requires.ok.room.stack in
    let z = c.requires.ok.rep.sizes.stack in
    subst (λ z. Does c.args.sizes (push_frame c.args.f c.args.closure c.args.cont w) (on_frames c.push_frame.new.frames
    (mem c.before.before.before.before.before.before.before.before.before.before.before.before b)) z b.fuel (Ok c.args.m.height)) (sym (c.grown.ensures ∙ ap (pushed c.args.m) c.regs_at-n.ensures))
    (push-done c.args.sizes w (mem c.before.before.before.before.before.before.before.before.before.before.before.before b) c.args.m b.fuel rep snd c.args.f c.requires.function c.args.closure
    c.args.cont (omega arith) (ap (overflowing c.args.m c.args.sizes) (sym c.regs_at-n.ensures)
    ∙ sym c.overflows.ensures ∙ c.if-overflows.false) _ c.push_frame.ensures)
