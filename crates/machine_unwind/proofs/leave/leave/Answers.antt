-- `leave` meets its contract: a frame gone, and its continuation followed. Assumes nothing.
use mathlib.Core.Path.{sym, ap, ◌∙◌, subst}
use borrow.Author.Tests.{not-true, not-false}
use Rattle.model.specs.Frames.{is_coro}
use Rattle.memory_world.specs.Memory.{Lent, Beside, Rep}
use Rattle.memory_world.specs.Lendings.{lent}
use Rattle.machine_state.specs.Frame.{pop_on, pop_top}
use Rattle.machine_state.proofs.Tops.{some-top, pop-fits}
use Rattle.coro_end.proofs.Known.{return_asks}
use Rattle.coro_end.proofs.Ending.{sound-rowed}
use Rattle.machine_unwind.proofs.Handlers.{its-cont}
use Rattle.machine_unwind.proofs.Turning.{pop-rowed, left-plain, left_body}
use Rattle.machine_unwind.proofs.leave.leave.Lts as lts
use Rattle.machine_unwind.proofs.leave.leave.Reads as reads
use Rattle.machine_unwind.proofs.leave.leave.Tie as tie
use Rattle.machine_unwind.proofs.leave.leave.Goals as goal

abbrev Start : Type 0
Start = lts.Start tie.the-claims reads.Pre reads.Post

-- `leave` meets its contract: a frame gone, and its continuation followed. Assumes nothing.
abbrev mem : Start → Beside → Lent
mem c b = lent c.args.stack.now c.args.frames.now c.args.chain.now c.args.slots.now c.args.saved_stack.now c.args.saved_frames.now b

pub pop-n-requires : goal.pop-n-requires
pop-n-requires c =
    let a = c.args in let o = c.requires.ok in
    pop-fits a.sizes (mem c.before.before.before.before.before.before.before.before.before.before.before o.beside) a.m a.fuel o.world o.rep o.sound c.requires.some

pub passed-requires : goal.passed-requires
passed-requires c = sym c.is_coro.ensures ∙ c.if-not-is_coro.true

pub shape_of-stack-then-not-is_coro : goal.shape_of-stack-then-not-is_coro
shape_of-stack-then-not-is_coro c = c.pop-n.auto.stack

pub shape_of-frames-then-not-is_coro : goal.shape_of-frames-then-not-is_coro
shape_of-frames-then-not-is_coro c = c.pop-n.auto.frames

pub returns-then-not-is_coro : goal.returns-then-not-is_coro
returns-then-not-is_coro c =
    let a = c.args in
    λ w b rep snd.
    let t = some-top w.frames a.frames.now a.m.depth rep.frames c.requires.some in
    let e = c.pop-n.new in
    left-plain a.value a.func a.pc a.sizes (lent e.stack e.frames a.chain.now a.slots.now a.saved_stack.now a.saved_frames.now b) c.pop-n.result a.fuel
    w t.top t.rest t.are c.cont_at-k.result (c.cont_at-k.ensures ∙ its-cont w.frames a.frames.now a.m.depth rep.frames t) c.passed.result
    c.passed.ensures (c.pop-n.ensures a.sizes w (record { words = mem c.before.before.before.before.before.before.before.before.before.before.before.before.before.before.before.before.before.before.before b; fuel = a.fuel }) rep)

pub coro_escaped-did-requires : goal.coro_escaped-did-requires
coro_escaped-did-requires c =
    let a = c.args in let o = c.requires.ok in let w = o.world in
    let t = some-top w.frames a.frames.now a.m.depth o.rep.frames c.requires.some in
    let is = c.cont_at-k.ensures ∙ its-cont w.frames a.frames.now a.m.depth o.rep.frames t in
    let e = c.pop-n.new in
    let M = lent e.stack e.frames a.chain.now a.slots.now a.saved_stack.now a.saved_frames.now in
    return_asks w o.sound t.top t.rest t.are (ap is_coro (sym is) ∙ sym c.is_coro.ensures ∙ c.if-not-is_coro.false) a.sizes M c.pop-n.result
    (record { words = o.beside.words; fuel = a.fuel })
    (subst (λ fs. Rep a.sizes (pop_on fs w) (M o.beside) c.pop-n.result a.fuel) t.are
    (c.pop-n.ensures a.sizes w (record { words = mem c.before.before.before.before.before.before.before.before.before.before.before.before.before.before.before.before.before.before.before.before.before.before.before o.beside; fuel = a.fuel }) o.rep))

pub shape_of-stack : goal.shape_of-stack
shape_of-stack c = c.coro_escaped-did.auto.stack ∙ c.pop-n.auto.stack

pub shape_of-frames : goal.shape_of-frames
shape_of-frames c = c.coro_escaped-did.auto.frames ∙ c.pop-n.auto.frames

pub shape_of-chain : goal.shape_of-chain
shape_of-chain c = c.coro_escaped-did.auto.chain

pub shape_of-slots : goal.shape_of-slots
shape_of-slots c = c.coro_escaped-did.auto.slots

pub shape_of-saved_stack : goal.shape_of-saved_stack
shape_of-saved_stack c = c.coro_escaped-did.auto.saved_stack

pub shape_of-saved_frames : goal.shape_of-saved_frames
shape_of-saved_frames c = c.coro_escaped-did.auto.saved_frames

pub returns : goal.returns
returns c =
    let a = c.args in let r = c.coro_escaped-did in let e = r.new in
    λ w b rep snd.
    let t = some-top w.frames a.frames.now a.m.depth rep.frames c.requires.some in
    left_body a.value a.func a.pc a.sizes (lent e.stack e.frames e.chain e.slots e.saved_stack e.saved_frames b) r.result.machine r.result.fuel
    w t.top t.rest t.are c.cont_at-k.result (c.cont_at-k.ensures ∙ its-cont w.frames a.frames.now a.m.depth rep.frames t) r.result.answer c.halted.result
    (sym c.is_coro.ensures ∙ c.if-not-is_coro.false) c.halted.ensures
    (r.ensures (pop_top w) b (c.pop-n.ensures a.sizes w (record { words = mem c.before.before.before.before.before.before.before.before.before.before.before.before.before.before.before.before.before.before.before.before.before.before.before.before.before.before.before.before.before.before.before.before.before.before.before.before.before.before.before.before b; fuel = a.fuel }) rep) (pop-rowed w t.top t.rest t.are (sound-rowed w snd)))
