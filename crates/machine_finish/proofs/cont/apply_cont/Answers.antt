-- `apply_cont` meets the definition, continuation by continuation. Assumes nothing.
use mathlib.Core.Path.{◌≡◌, sym, ap, ◌∙◌, subst}
use mathlib.Core.Bool.{true}
use lib.ListN.{length}
use Rattle.model.specs.Machine.{or_nil, apply_cont}
use Rattle.model.specs.Sound.{cont_lies}
use Rattle.memory_world.specs.Memory.{on_slots}
use Rattle.memory_world.specs.Lendings.{top_table, plain}
use Rattle.memory_world.specs.Contract.{Does}
use Rattle.machine_finish.proofs.Results.{entry-is, discard-is, coro-is, write-none, write-some, value-is, applies, put-fits}
use Rattle.machine_finish.proofs.cont.apply_cont.Goals as goal

pub put-requires : goal.put-requires
put-requires c =
    let a = c.args in let w = c.requires.ok.world in
    put-fits a.sizes (top_table a.stack.now a.frames.now a.slots.now plain) a.m a.cont c.requires c.in-Write.dst
    (ap (λ x. cont_lies x (length w.stack) w.frames) c.in-Write.is)

pub write_dyn-requires : goal.write_dyn-requires
write_dyn-requires c =
    let w = c.requires.ok.world in
    record { ok = c.requires.ok; lies = subst (λ x. cont_lies x (length w.stack) w.frames ≡ true) c.in-Dyn.is c.requires.lies }

pub returns-in-Dyn : goal.returns-in-Dyn
returns-in-Dyn c =
    let a = c.args in let f = c.write_dyn in
    λ w b rep.
    subst (λ y. Does a.sizes (apply_cont y a.kind a.v w) (top_table f.new.stack a.frames.now f.new.slots plain b) f.result.machine b.fuel f.result.answer)
    (sym c.in-Dyn.is) (f.ensures w b rep)

pub put-requires-in-Value : goal.put-requires-in-Value
put-requires-in-Value c =
    let a = c.args in let w = c.requires.ok.world in
    put-fits a.sizes (top_table a.stack.now a.frames.now a.slots.now plain) a.m a.cont c.requires c.in-Value.dst
    (ap (λ x. cont_lies x (length w.stack) w.frames) c.in-Value.is)

pub returns-in-Entry : goal.returns-in-Entry
returns-in-Entry c =
    let a = c.args in
    λ w b rep. applies a.kind a.v w c.in-Entry.is (entry-is a.kind a.v w) rep

pub returns-in-None : goal.returns-in-None
returns-in-None c =
    let a = c.args in
    λ w b rep.
    applies a.kind a.v w c.in-Write.is (write-none a.kind a.v w c.in-Write.dst (sym c.in-None.is ∙ c.result_of-result.ensures)) rep

pub returns-in-Some : goal.returns-in-Some
returns-in-Some c =
    let a = c.args in
    λ w b rep.
    applies a.kind a.v w c.in-Write.is
    (write-some a.kind a.v w c.in-Write.dst c.in-Some.x (sym c.in-Some.is ∙ c.result_of-result.ensures))
    (c.put.ensures a.sizes w (record { words = on_slots a.slots.now b.words; fuel = b.fuel }) rep)

pub returns-in-Value : goal.returns-in-Value
returns-in-Value c =
    let a = c.args in
    λ w b rep.
    applies a.kind a.v w c.in-Value.is
    (value-is a.kind a.v w c.in-Value.dst c.or_nil-x.result (c.or_nil-x.ensures ∙ ap or_nil c.result_of.ensures))
    (c.put-in-Value.ensures a.sizes w (record { words = on_slots a.slots.now b.words; fuel = b.fuel }) rep)

pub returns-in-Discard : goal.returns-in-Discard
returns-in-Discard c =
    let a = c.args in
    λ w b rep. applies a.kind a.v w c.in-Discard.is (discard-is a.kind a.v w) rep

pub returns-in-Coro : goal.returns-in-Coro
returns-in-Coro c =
    let a = c.args in
    λ w b rep. applies a.kind a.v w c.in-Coro.is (coro-is a.kind a.v w) rep
