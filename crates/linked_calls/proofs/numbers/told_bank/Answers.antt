-- `told_bank` meets its contract, by cases of the bank. Assumes nothing.
use mathlib.Core.Path.{sym, ap}
use Rattle.heap.specs.Slot.{flag}
use Rattle.linked_calls.specs.Words.{bank_words}
use Rattle.linked_calls.proofs.numbers.told_bank.Goals as goal

pub returns-in-None : goal.returns-in-None
returns-in-None c = sym (ap (λ b. bank_words b (flag c.args.ready)) c.in-None.is)

pub returns-in-Some : goal.returns-in-Some
returns-in-Some c = sym (ap (λ b. bank_words b (flag c.args.ready)) c.in-Some.is)
