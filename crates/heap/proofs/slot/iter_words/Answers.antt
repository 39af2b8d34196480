-- `iter_words` meets its contract: the kind tells whether there is a key. Assumes nothing.
use Rattle.heap.proofs.slot.iter_words.Goals as goal

pub returns-in-None : goal.returns-in-None
returns-in-None c = rw c.in-None.is c.fields.ensures

pub returns-in-Some : goal.returns-in-Some
returns-in-Some c = rw c.in-Some.is c.fields-in-Some.ensures
