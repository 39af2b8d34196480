-- `abort_coros` meets the definition: the coroutines, then the flags, then the outcome. Assumes nothing.
use Rattle.memory_world.specs.Lendings.{plain}
use Rattle.coro_end.specs.Last.{ending, fail_active}
use Rattle.coro_end.proofs.Failing.{aborted}
use Rattle.coro_end.proofs.abort.abort_coros.Goals as goal

pub fail_all-failed-requires : goal.fail_all-failed-requires
fail_all-failed-requires c = c.requires

pub returns : goal.returns
returns c =
    let a = c.args in
    let f = c.fail_all-failed in
    let g = c.set_finalizing-did in
    λ w b rep rowed.
    let M = ending f.new.chain f.new.slots f.new.saved_stack f.new.saved_frames plain b in
    aborted a.sizes M g.result.machine g.result.fuel w _ c.told_outcome-none.ensures
    (g.ensures a.sizes (fail_active w) (record { words = M; fuel = b.fuel }) (f.ensures w (record { words = b.words; fuel = a.fuel }) rep rowed))
