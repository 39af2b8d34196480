-- `stop_run` meets its contract: every coroutine failed, then frames and stack emptied. Assumes nothing.
use Rattle.model.specs.Coro.{abort_coros}
use Rattle.memory_world.specs.Memory.{Beside, Rep}
use Rattle.memory_world.specs.Lendings.{lent}
use Rattle.coro_end.proofs.Ending.{sound-rowed}
use Rattle.machine_added.proofs.Stopping.{stopped}
use native.Mathlib.Omega.{arith}
use Rattle.machine_added.proofs.stop.stop_run.Lts as lts
use Rattle.machine_added.proofs.stop.stop_run.Reads as reads
use Rattle.machine_added.proofs.stop.stop_run.Tie as tie
use Rattle.machine_added.proofs.stop.stop_run.Goals as goal

abbrev Start : Type 0
Start = lts.Start tie.the-claims reads.Pre reads.Post

abbrev After-abort_coros-did : Type 0
After-abort_coros-did = lts.After-abort_coros tie.the-claims reads.Pre reads.Post

-- `stop_run` meets its contract: every coroutine failed, then frames and stack emptied. Assumes nothing.
-- the words that are lent, with the fuel that is given
abbrev around : Start → Beside → Beside
around s b = record { words = lent s.args.stack.now s.args.frames.now s.args.chain.now s.args.slots.now s.args.saved_stack.now s.args.saved_frames.now b; fuel = s.args.fuel }

-- where every coroutine has failed
aborted : (c : After-abort_coros-did) →
    let k = c.abort_coros-did in
    Rep c.args.sizes (abort_coros c.requires.world) (lent c.args.stack.now c.args.frames.now k.new.chain k.new.slots k.new.saved_stack k.new.saved_frames c.requires.beside)
    k.result.machine k.result.fuel
aborted c =
    c.abort_coros-did.ensures c.requires.world (around c.before.before.before.before.before.before.before.before.before.before.before c.requires.beside) c.requires.rep (sound-rowed c.requires.world c.requires.sound)

pub abort_coros-did-requires : goal.abort_coros-did-requires
abort_coros-did-requires c =
    let o = c.requires in
    record { world = o.world; beside = around c.before.before.before.before.before.before.before.before.before.before.before o.beside; rep = o.rep; known = sound-rowed o.world o.sound }

pub clear_frames-requires : goal.clear_frames-requires
clear_frames-requires c = (aborted c.before.before.before.before.before.before.before.before.before.before.before.before).frames.within

pub cut-requires : goal.cut-requires
cut-requires c = let h = (aborted c.before.before.before.before.before.before.before.before.before.before.before.before.before.before.before.before).stack.within in (omega arith, h)

pub returns : goal.returns
returns c =
    λ w b rep snd. stopped c.args.sizes _ c.abort_coros-did.result.machine _ _ w _ _
    (c.abort_coros-did.ensures w (around c.before.before.before.before.before.before.before.before.before.before.before.before.before.before.before.before.before.before.before.before.before.before.before.before.before.before.before.before.before.before.before b) rep (sound-rowed w snd)) c.emptied.ensures c.clear_frames.ensures c.cut.ensures
