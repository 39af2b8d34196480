-- Worlds at which one call tells a wrong engine from `step`.
use mathlib.Core.List.{List, [], ◌∷◌, ◌++◌}
use Rattle.model.specs.World.{World, fresh, with_stack}
use Rattle.model.specs.Step.{run_ops}
use Rattle.model.specs.declared.machine.Cont.{Cont}
use Rattle.model.specs.declared.call.Op.{Op}
use Rattle.claims_model.specs.Story as Story
use Rattle.claims_model.specs.Story.{wide, c, f, begin}

-- function 0 stands
unfoldable pub called : World
called = run_ops (fresh wide) (Op.Grant 1000 ∷ Op.HostCall 0 ∷ [])

-- c is there, and has not begun
unfoldable pub waiting : World
waiting = run_ops (fresh wide) (Op.Grant 1000 ∷ Op.HostCall 0 ∷ Op.CoroNew 1 0 0 0 ∷ [])

-- c runs; it holds its own word; it called function 0
unfoldable pub begun : World
begun = run_ops (fresh wide) (begin 0)

unfoldable pub itself : World
itself = run_ops (fresh wide) (begin 0 ++ (Op.PutWord 0 c ∷ []))

unfoldable pub deeper : World
deeper = run_ops (fresh wide) (begin 0 ++ (Story.deeper ∷ []))

-- c, of a closure, holds 11, and called function 1
unfoldable pub inside : World
inside = run_ops (fresh wide) (Op.Grant 1000 ∷ Op.HostCall 0 ∷ Op.PutWord 1 f ∷ Op.CoroNewIndirect 1 0 1 0 ∷ Op.Resume 2 1 0 2 ∷ Op.PutWord 0 11 ∷ Op.FunctionCall 5 1 (Cont.Dyn 2) ∷ Op.PutWord 1 22 ∷ [])

-- c runs, with 7 in its first register
unfoldable pub seven : World
seven = run_ops (fresh wide) (begin 0 ++ (Op.PutWord 0 7 ∷ []))

-- c is suspended, with 7 in its first register; 9 stands in the caller's third
unfoldable pub sleeping : World
sleeping = run_ops (fresh wide) (begin 0 ++ (Op.PutWord 0 7 ∷ Op.Yield 8 3 0 ∷ Op.PutWord 2 9 ∷ []))

-- c is closed with 9: it does not catch that; it catches it; it caught it
unfoldable pub dying : World
dying = run_ops (fresh wide) (begin 0 ++ (Op.Yield 8 3 0 ∷ Op.PutWord 2 9 ∷ Op.CoroClose 3 1 0 2 ∷ []))

unfoldable pub raising : World
raising = run_ops (fresh wide) (begin 1 ++ (Op.Yield 8 3 0 ∷ Op.PutWord 2 9 ∷ Op.CoroClose 3 1 0 2 ∷ []))

unfoldable pub closed : World
closed = run_ops (fresh wide) Story.closed

-- c has returned 7, to function 0; and that is gone too
unfoldable pub returned : World
returned = run_ops (fresh wide) (begin 0 ++ (Story.returns 7 ∷ Op.PutWord 0 c ∷ []))

unfoldable pub over : World
over = run_ops (fresh wide) (begin 0 ++ (Story.returns 5 ∷ Story.finish_none ∷ []))

-- c runs, and has made d, which has not begun; d runs on it
unfoldable pub holding : World
holding = run_ops (fresh wide) (begin 0 ++ (Op.CoroNew 1 0 0 0 ∷ []))

unfoldable pub nested : World
nested = run_ops (fresh wide) (begin 0 ++ (Op.CoroNew 1 0 0 0 ∷ Op.Resume 2 1 0 2 ∷ []))

-- c and d are suspended, and wait for a cleanup
unfoldable pub queued : World
queued = run_ops (fresh wide) (Op.Grant 1000 ∷ Op.HostCall 0 ∷ Op.CoroNew 1 0 0 0 ∷ Op.CoroNew 2 1 0 0 ∷ Op.Resume 3 2 0 3 ∷ Op.Yield 8 3 0 ∷ Op.Resume 4 2 1 3 ∷ Op.Yield 8 3 0 ∷ Op.HandOver c ∷ Op.HandOver Story.d ∷ [])

-- d waits for a cleanup, for which c has gone too deep: the bank pays for what c does
unfoldable pub banked-calls : List Op
banked-calls =
    Op.Grant 1000 ∷ Op.HostCall 0 ∷ Op.CoroNew 1 0 0 0 ∷ Op.CoroNew 2 1 0 0 ∷ Op.Resume 3 2 1 3 ∷ Op.Yield 8 3 0 ∷ Op.Resume 4 2 0 3 ∷ Op.HandOver Story.d
    ∷ Story.deeper ∷ Story.deeper ∷ Story.deeper ∷ Story.deeper ∷ []

unfoldable pub banked : World
banked = run_ops (fresh wide) banked-calls

-- c runs, and a loop over it stands in register 1
unfoldable pub looping : World
looping = run_ops (fresh wide) (begin 0 ++ (Op.PutWord 0 c ∷ Op.MakeIterator c ∷ Op.PutWord 1 Story.d ∷ []))

-- the word of function 0 stands in the fourth register
unfoldable pub closure : World
closure = run_ops (fresh wide) (Op.Grant 1000 ∷ Op.HostCall 0 ∷ Op.PutWord 3 f ∷ [])

-- function 0 stands, and there is no fuel
unfoldable pub unpaid : World
unpaid = run_ops (fresh wide) (Op.HostCall 0 ∷ [])

-- it is not sound: a word of the stack is in use, and no frame stands
abbrev pub unsound : World
unsound = with_stack (5 ∷ []) (fresh wide)
