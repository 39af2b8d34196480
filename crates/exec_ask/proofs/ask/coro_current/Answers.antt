-- `coro_current` meets the definition: the innermost coroutine is put. Assumes nothing.
use Rattle.memory_world.specs.Memory.{on_chain}
use Rattle.exec_ask.proofs.Asked.{current-told}
use Rattle.exec_ask.proofs.ask.coro_current.Goals as goal

pub current-v-requires : goal.current-v-requires
current-v-requires c = c.requires.running

pub returns : goal.returns
returns c =
    let a = c.args in
    λ l w b rep. current-told l _ a.m b.fuel w a.dst c.current-v.result (c.current-v.ensures w.chain rep.chain)
    (c.put.ensures l w (record { words = on_chain a.chain.now b.words; fuel = b.fuel }) rep)
