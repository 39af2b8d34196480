-- `kept` meets its contract: what `dispatch` left may be lent again. Assumes nothing.
use mathlib.Core.Path.{refl}
use Rattle.memory_world.specs.Memory.{Lent, Beside}
use Rattle.memory_world.specs.Lendings.{all, plain}
use Rattle.memory_world.specs.Contract.{with}
use Rattle.machine_step.proofs.Keeping.{sound-again, next-ok}
use Rattle.machine_step.proofs.kept.kept.Lts as lts
use Rattle.machine_step.proofs.kept.kept.Reads as reads
use Rattle.machine_step.proofs.kept.kept.Tie as tie
use Rattle.machine_step.proofs.kept.kept.Goals as goal

abbrev Start : Type 0
Start = lts.Start tie.the-claims reads.Pre reads.Post

-- `kept` meets its contract: what `dispatch` left may be lent again. Assumes nothing.
abbrev mem : Start → Beside → Lent
mem c = all c.args.stack.now c.args.frames.now c.args.chain.now c.args.slots.now c.args.saved_stack.now c.args.saved_frames.now
    c.args.ready.now c.args.finalize.now c.args.setup.now plain

pub dispatch-requires : goal.dispatch-requires
dispatch-requires c = record { ok = c.requires; within = c.widths.ensures }

pub returns : goal.returns
returns c =
    let a = c.args in let ok = c.requires in
    let within = c.widths.ensures in
    let did = c.dispatch.ensures in
    record {
      met = did;
      sound = sound-again a.op within;
      again = next-ok a.sizes (mem c.before.before.before.before.before.before.before.before.before.before.before.before.before.before.before.before.before.before.before.before.before.before.before.before.before.before.before.before.before.before.before.before.before.before.before.before) (all c.dispatch.new.stack c.dispatch.new.frames c.dispatch.new.chain c.dispatch.new.slots c.dispatch.new.saved_stack c.dispatch.new.saved_frames c.dispatch.new.ready c.dispatch.new.finalize a.setup.now plain)
          (with a.m a.fuel) (with c.dispatch.result.machine c.dispatch.result.fuel) a.op c.dispatch.result.answer within ok
          (record {
            stack = c.dispatch.auto.stack;
            frames = c.dispatch.auto.frames;
            chain = c.dispatch.auto.chain;
            slots = c.dispatch.auto.slots;
            saved_stack = c.dispatch.auto.saved_stack;
            saved_frames = c.dispatch.auto.saved_frames;
            ready = c.dispatch.auto.ready;
            finalize = c.dispatch.auto.finalize;
            setup = refl;
          })
          refl (did ok.world ok.beside ok.rep ok.sound);
    }
