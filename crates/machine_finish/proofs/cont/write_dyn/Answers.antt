-- `write_dyn` meets the definition: the word is written, or was refused. Assumes nothing.
use mathlib.Core.Path.{refl, sym, ◌∙◌}
use Rattle.std.specs.Prelude.{Ok, Err}
use Rattle.model.specs.Frames.{put_reg}
use Rattle.model.specs.Heap.{to_dyn}
use Rattle.model.specs.Machine.{apply_cont}
use Rattle.model.specs.declared.machine.Cont.{Cont}
use Rattle.memory_world.specs.Memory.{on_stack, on_frames, on_slots}
use Rattle.memory_world.specs.Lendings.{top_table, plain}
use Rattle.memory_world.proofs.Does.{does}
use Rattle.machine_finish.proofs.Results.{dyn-put, dyn-not, dyn-room, put-fits-dyn}
use Rattle.machine_finish.proofs.cont.write_dyn.Goals as goal

pub to_dyn-did-requires : goal.to_dyn-did-requires
to_dyn-did-requires c =
    let a = c.args in
    dyn-room a.sizes (top_table a.stack.now a.frames.now a.slots.now plain) a.m (Cont.Dyn a.dst) c.requires

pub put-requires : goal.put-requires
put-requires c =
    let a = c.args in
    let o = c.requires.ok in
    let f = c.to_dyn-did in
    let rep = (f.ensures o.world (record { words = on_stack a.stack.now (on_frames a.frames.now o.beside.words); fuel = o.beside.fuel }) o.rep).world in
    put-fits-dyn a.sizes (top_table a.stack.now a.frames.now a.slots.now plain) a.m (Cont.Dyn a.dst) c.requires a.kind a.v a.dst
    (top_table a.stack.now a.frames.now f.new.slots plain o.beside) f.result.machine refl rep

pub returns-in-Ok : goal.returns-in-Ok
returns-in-Ok c =
    let a = c.args in
    let f = c.to_dyn-did in
    let p = c.put in
    λ w b rep.
    let d = f.ensures w (record { words = on_stack a.stack.now (on_frames a.frames.now b.words); fuel = b.fuel }) rep in
    let x = c.in-Ok.x in
    let u = (to_dyn a.kind a.v w).world in
    does a.sizes (top_table p.new.stack a.frames.now f.new.slots plain b) f.result.machine b.fuel (apply_cont (Cont.Dyn a.dst) a.kind a.v w) (put_reg a.dst x u) (Ok tt)
    (dyn-put a.kind a.v w a.dst x (sym c.in-Ok.is ∙ d.answer))
    (p.ensures a.sizes u (record { words = on_slots f.new.slots b.words; fuel = b.fuel }) d.world)

pub returns-in-Err : goal.returns-in-Err
returns-in-Err c =
    let a = c.args in
    let f = c.to_dyn-did in
    λ w b rep.
    let d = f.ensures w (record { words = on_stack a.stack.now (on_frames a.frames.now b.words); fuel = b.fuel }) rep in
    let g = c.in-Err.f in
    does a.sizes (top_table a.stack.now a.frames.now f.new.slots plain b) f.result.machine b.fuel (apply_cont (Cont.Dyn a.dst) a.kind a.v w) (to_dyn a.kind a.v w).world (Err g)
    (dyn-not a.kind a.v w a.dst g (sym c.in-Err.is ∙ d.answer)) d.world
