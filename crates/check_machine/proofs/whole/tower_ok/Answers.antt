-- `tower_ok` meets its contract: each test fails the whole, and the last decides it. Assumes nothing.
use mathlib.Core.Path.{refl, sym, ◌∙◌}
use Rattle.check_tables.proofs.Bools.{three-1, three-2, three-3}
use Rattle.check_machine.proofs.whole.tower_ok.Goals as goal

pub stack_frames_ok-requires : goal.stack_frames_ok-requires
stack_frames_ok-requires c = record { inside = c.requires.on-frames; catches = c.requires.catches; numbers = c.requires.numbers }

pub returns-then-not-stack_frames_ok : goal.returns-then-not-stack_frames_ok
returns-then-not-stack_frames_ok c = three-1 _ _ _ _ refl (sym c.stack_frames_ok.ensures ∙ c.if-not-stack_frames_ok.true)

pub chain_ok-requires : goal.chain_ok-requires
chain_ok-requires c = record { on_chain = c.requires.on_chain; on-frames = c.requires.on-frames }

pub returns-then-not-chain_ok : goal.returns-then-not-chain_ok
returns-then-not-chain_ok c =
    three-2 _ _ _ _ refl (sym c.stack_frames_ok.ensures ∙ c.if-not-stack_frames_ok.false)
    (sym c.chain_ok.ensures ∙ c.if-not-chain_ok.true)

pub returns : goal.returns
returns c =
    three-3 _ _ _ _ c.rest_ok.result refl (sym c.stack_frames_ok.ensures ∙ c.if-not-stack_frames_ok.false)
    (sym c.chain_ok.ensures ∙ c.if-not-chain_ok.false) c.rest_ok.ensures
