-- `push_at` meets its contract: refused, nothing is stored; else a pc stored, and a frame pushed. Assumes nothing.
use mathlib.Core.Path.{◌≡◌, refl, sym, ap, ◌∙◌}
use Rattle.model.specs.Frames.{store_pc}
use Rattle.memory_tables.specs.Layout.{function_in}
use Rattle.memory_world.specs.Memory.{Lent, Beside}
use Rattle.memory_world.specs.Lendings.{top_setup, plain}
use Rattle.memory_world.specs.Contract.{only}
use Rattle.memory_world.proofs.Does.{ok-next}
use Rattle.machine_state.specs.Frame.{overflowing}
use Rattle.machine_state.proofs.Frames.{asked}
use Rattle.machine_state.proofs.Stored.{store-sounds}
use Rattle.machine_state.proofs.Calling.{call-refused, call-done}
use Rattle.machine_state.proofs.frame.push_at.Lts as lts
use Rattle.machine_state.proofs.frame.push_at.Reads as reads
use Rattle.machine_state.proofs.frame.push_at.Tie as tie
use Rattle.machine_state.proofs.frame.push_at.Goals as goal

abbrev Start : Type 0
Start = lts.Start tie.the-claims reads.Pre reads.Post

abbrev After-overflows : Type 0
After-overflows = lts.After-overflows tie.the-claims reads.Pre reads.Post

-- `push_at` meets its contract: refused, nothing is stored; else a pc stored, and a frame pushed. Assumes nothing.
-- the ways back that several clauses take
abbrev start_of : After-overflows → Start
start_of c = c.before.before.before.before.before

abbrev mem : Start → Beside → Lent
mem s b = top_setup s.args.stack.now s.args.frames.now s.args.setup.now plain b

-- the words that are lent, to a callee that is lent some of them
abbrev around : Start → Beside → Beside
around s b = record { words = mem s b; fuel = b.fuel }

-- the code's test is that of the function's width
test : (c : After-overflows) →
    let s = start_of c in
    overflowing s.args.m s.args.sizes (function_in s.args.setup.now s.args.f).regs ≡ c.overflows.result
test c =
    ap (overflowing c.args.m c.args.sizes) (sym c.regs_at-n.ensures) ∙ sym c.overflows.ensures

pub regs_at-n-requires : goal.regs_at-n-requires
regs_at-n-requires c =
    let o = c.requires.push.ok in
    (asked c.args.sizes o.world (mem c.before.before.before.before o.beside) c.args.m o.beside.fuel o.rep o.sound c.args.f c.requires.push.function o.room).function-there

pub overflows-requires : goal.overflows-requires
overflows-requires c =
    let o = c.requires.push.ok in
    (asked c.args.sizes o.world (mem c.before.before.before.before.before o.beside) c.args.m o.beside.fuel o.rep o.sound c.args.f c.requires.push.function o.room).height

pub returns-then-overflows : goal.returns-then-overflows
returns-then-overflows c =
    let s = start_of c.before.before in
    λ w b rep snd. call-refused s.args.sizes w (mem s b) s.args.m b.fuel rep snd s.args.f s.requires.push.function s.args.closure s.args.cont s.args.pc
    (test c.before.before ∙ c.if-overflows.true)

pub store_pc-requires : goal.store_pc-requires
store_pc-requires c =
    let s = start_of c.before.before.before in
    let q = s.requires.push.ok.rep.frames.within in
    record { some = s.requires.some; within = q }

pub push_frame-requires : goal.push_frame-requires
push_frame-requires c =
    let s = start_of c.before.before.before.before.before.before.before in
    let o = s.requires.push.ok in
    let frames' = c.store_pc.new.frames in
    record {
      ok =
          ok-next s.args.sizes (mem s) (top_setup s.args.stack.now frames' s.args.setup.now plain) (only s.args.m) (only s.args.m) o (store_pc s.args.pc o.world) refl
          (store-sounds s.args.pc o.world s.requires.narrow o.sound)
          (record { stack = refl; frames = c.store_pc.auto.frames; chain = refl; slots = refl; saved_stack = refl; saved_frames = refl; ready = refl; finalize = refl; setup = refl })
          (c.store_pc.ensures s.args.sizes o.world (around s o.beside) o.rep);
      function = s.requires.push.function;
    }

pub returns : goal.returns
returns c =
    let s = start_of c.before.before.before.before.before.before.before.before.before.before in
    λ w b rep snd.
    call-done s.args.sizes w (mem s b) s.args.m b.fuel rep snd s.args.f s.requires.push.function s.args.closure s.args.cont s.args.pc _ _ _
    (test c.before.before.before.before.before.before.before.before.before.before ∙ c.if-overflows.false)
    (c.push_frame.ensures (store_pc s.args.pc w) b (c.store_pc.ensures s.args.sizes w (around s b) rep) (store-sounds s.args.pc w s.requires.narrow snd))
