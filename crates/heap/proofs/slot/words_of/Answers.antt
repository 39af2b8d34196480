-- `words_of` meets its contract, by cases. Assumes nothing.
use Rattle.heap.proofs.slot.words_of.Goals as goal

pub returns-in-Empty : goal.returns-in-Empty
returns-in-Empty c = rw c.in-Empty.is c.fields.ensures

pub returns-in-Func : goal.returns-in-Func
returns-in-Func c = rw c.in-Func.is c.fields-in-Func.ensures

pub returns-in-Int : goal.returns-in-Int
returns-in-Int c = rw c.in-Int.is c.fields-in-Int.ensures

pub returns-in-Iter : goal.returns-in-Iter
returns-in-Iter c = rw c.in-Iter.is c.iter_words.ensures

pub returns-in-Error : goal.returns-in-Error
returns-in-Error c = rw c.in-Error.is c.fields-in-Error.ensures

pub returns-in-Coro : goal.returns-in-Coro
returns-in-Coro c = rw c.in-Coro.is c.coro_words.ensures
