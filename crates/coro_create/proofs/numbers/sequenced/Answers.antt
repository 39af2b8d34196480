-- `sequenced` meets its contract: the library's sum wraps. Assumes nothing.
use Rattle.std.proofs.Common.{ap}
use Rattle.memory_world.specs.Numbers.{with_number}
use Rattle.coro_create.proofs.numbers.sequenced.Goals as goal

pub returns : goal.returns
returns c = ap (λ n. with_number n c.args.m) c.wrapping_add_u64.ensures.value
