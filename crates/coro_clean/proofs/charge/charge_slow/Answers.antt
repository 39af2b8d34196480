-- `charge_slow` meets the definition, by the fuel taken back and whether cleanups are ready. Assumes nothing.
use mathlib.Core.Path.{sym, ap, ◌∙◌}
use Rattle.model.specs.Fuel.{unbank}
use Rattle.std.specs.Prelude.{Some}
use Rattle.model.specs.declared.machine.Fuel.{Fuel}
use Rattle.memory_world.specs.Memory.{Lent, Beside}
use Rattle.memory_world.specs.Lendings.{cleaning, plain}
use Rattle.coro_clean.proofs.Paid.{back-rep, slow-spent, slow-paid}
use Rattle.coro_clean.proofs.Starting.{unbank-sounds, unbank-ok}
use Rattle.coro_clean.proofs.Closes.{at_ready, at-idle, paid-again}
use Rattle.coro_clean.proofs.charge.charge_slow.Lts as lts
use Rattle.coro_clean.proofs.charge.charge_slow.Reads as reads
use Rattle.coro_clean.proofs.charge.charge_slow.Tie as tie
use Rattle.coro_clean.proofs.charge.charge_slow.Goals as goal

abbrev Start : Type 0
Start = lts.Start tie.the-claims reads.Pre reads.Post

abbrev mem : Start → Beside → Lent
mem c b = cleaning c.args.stack.now c.args.frames.now c.args.chain.now c.args.slots.now c.args.saved_stack.now
    c.args.saved_frames.now c.args.finalize.now plain b

pub returns-then-f-eq0 : goal.returns-then-f-eq0
returns-then-f-eq0 c =
    λ w b rep snd. slow-spent c.args.sizes (mem c.before.before.before.before.before.before.before.before.before.before.before b) c.args.m c.args.fuel w rep c.unbank-f.result c.unbank-f.ensures
    (Some c.args.pc) c.if-f-eq0.true

pub charge_ready-requires : goal.charge_ready-requires
charge_ready-requires c =
    let p = c.requires in
    record {
      charge = record {
        ok = unbank-ok c.args.sizes (mem c.before.before.before.before.before.before.before.before.before.before.before.before.before.before.before.before.before.before) c.args.m c.args.fuel c.unbank-f.result c.unbank-f.ensures p.ok;
        narrow = p.narrow;
        some = p.some;
      };
      paid = paid-again c.args.fuel c.unbank-f.result c.unbank-f.ensures c.if-f-eq0.false;
    }

pub returns-then-f : goal.returns-then-f
returns-then-f c =
    λ w b rep snd.
    let f = c.unbank-f.result in
    let again = back-rep c.args.sizes (mem c.before.before.before.before.before.before.before.before.before.before.before.before.before.before.before.before.before.before.before.before.before.before.before.before.before.before.before.before.before.before.before.before.before.before b) c.args.m c.args.fuel w rep f c.unbank-f.ensures in
    slow-paid c.args.sizes (mem c.before.before.before.before.before.before.before.before.before.before.before.before.before.before.before.before.before.before.before.before.before.before.before.before.before.before.before.before.before.before.before.before.before.before b) c.args.m c.args.fuel w rep f c.unbank-f.ensures (Some c.args.pc) _ _ _ _ c.if-f-eq0.false
    (at_ready c.args.sizes _ _ _ c.args.pc (unbank w) _ (sym (ap (λ (x : Fuel). x.ready) again.fuel) ∙ c.if-f.true)
    (c.charge_ready.ensures (unbank w) b again (unbank-sounds w snd)))

pub returns : goal.returns
returns c =
    λ w b rep snd.
    let f = c.unbank-f.result in
    let again = back-rep c.args.sizes (mem c.before.before.before.before.before.before.before.before.before.before.before.before.before.before b) c.args.m c.args.fuel w rep f c.unbank-f.ensures in
    slow-paid c.args.sizes (mem c.before.before.before.before.before.before.before.before.before.before.before.before.before.before b) c.args.m c.args.fuel w rep f c.unbank-f.ensures (Some c.args.pc) (mem c.before.before.before.before.before.before.before.before.before.before.before.before.before.before b)
    c.args.m _ _ c.if-f-eq0.false
    (at-idle c.args.sizes (mem c.before.before.before.before.before.before.before.before.before.before.before.before.before.before b) c.args.m _ c.args.pc (unbank w) _ (sym (ap (λ (x : Fuel). x.ready) again.fuel) ∙ c.if-f.false)
    (c.charge_done-did.ensures c.args.m c.args.sizes (unbank w) (record { words = mem c.before.before.before.before.before.before.before.before.before.before.before.before.before.before b; fuel = f }) again))
