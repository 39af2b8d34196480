-- `body` meets the definition, by the instruction. Assumes nothing.
use borrow.Enum.Refused.{opened}
use Rattle.exec_arm.proofs.Fitting.{around, as-arm, yield-fits, kv-fits, await-fits}
use Rattle.exec_arm.proofs.Tags.{not-suspending}
use Rattle.exec_arm.proofs.body.body.Goals as goal

pub coro_yield-requires : goal.coro_yield-requires
coro_yield-requires c = yield-fits c.requires c.in-Yield.is

pub yield_kv-requires : goal.yield_kv-requires
yield_kv-requires c = kv-fits c.requires c.in-YieldKv.is

pub coro_await-requires : goal.coro_await-requires
coro_await-requires c = await-fits c.requires c.in-Await.is

pub entering-requires : goal.entering-requires
entering-requires c = c.requires

pub returns-in-Yield : goal.returns-in-Yield
returns-in-Yield c = λ pc t arm q w b rep snd. as-arm q c.in-Yield.is (c.coro_yield.ensures w (around rep) rep snd)

pub returns-in-YieldKv : goal.returns-in-YieldKv
returns-in-YieldKv c = λ pc t arm q w b rep snd. as-arm q c.in-YieldKv.is (c.yield_kv.ensures w (around rep) rep snd)

pub returns-in-Await : goal.returns-in-Await
returns-in-Await c = λ pc t arm q w b rep snd. as-arm q c.in-Await.is (c.coro_await.ensures w (around rep) rep snd)

pub returns-in_default : goal.returns-in_default
returns-in_default c = c.entering.ensures (not-suspending _ (opened c.in_default.in_default-own.keys4))
