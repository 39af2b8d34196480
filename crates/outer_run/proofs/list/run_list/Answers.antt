-- `run_list` meets its contract: what is left, done to the present, is the whole done to the start. Assumes nothing.
use mathlib.Core.Path.{refl}
use Prim.Native.Nat.{◌-◌, ◌≤◌}
use native.Mathlib.Omega.{arith}
use Rattle.outer_run.proofs.Along.{along-start, along-end, along-next}
use Rattle.outer_run.proofs.Written.{in-calls}
use Rattle.outer_run.proofs.list.run_list.Goals as goal

pub loop-i-init : goal.loop-i-init
loop-i-init c = along-start _ _ _ _ _ c.requires

pub read_at-read-requires : goal.read_at-read-requires
read_at-read-requires c = in-calls c.args.calls.now c.loop-i.i c.args.n c.requires.calls c.loop-i-test.true

pub do_read-did-requires : goal.do_read-did-requires
do_read-did-requires c = c.loop-i.invariant.fits

pub put_at-requires : goal.put_at-requires
put_at-requires c = let r = c.requires.room in let k = c.loop-i.invariant.long in let t = c.loop-i-test.true in omega arith

pub overflow_step-i : goal.overflow_step-i
overflow_step-i c = let t = c.loop-i-test.true in omega arith

pub loop-i-smaller : goal.loop-i-smaller
loop-i-smaller c = let t = c.loop-i-test.true in omega arith

pub loop-i-preserved : goal.loop-i-preserved
loop-i-preserved c =
    let same = c.do_read-did.auto in
    along-next c.loop-i.invariant c.loop-i-test.true c.requires.room
    c.read_at-read.ensures c.do_read-did.ensures c.put_at.ensures
    (record {
      stack = same.stack;
      frames = same.frames;
      chain = same.chain;
      slots = same.slots;
      saved_stack = same.saved_stack;
      saved_frames = same.saved_frames;
      ready = same.ready;
      finalize = same.finalize;
      setup = refl;
    })
    refl c.put_at.auto.answers

pub returns : goal.returns
returns c =
    let over : c.args.n ≤ c.loop-i.i = (let t = c.loop-i-test.false in omega arith) in
    along-end _ _ _ _ _ _ _ _ over c.loop-i.invariant
