-- A slot's words decode to the slot, and tables of slots in words: replaced, and with one more. Assumes nothing.
use mathlib.Core.Path.{◌≡◌, refl, ap, ◌∙◌}
use mathlib.Core.Bool.{Bool, true, false}
use mathlib.Core.List.{List, [], ◌∷◌, ◌++◌}
use Prim.Native.Nat.{ℕ, suc, ◌+◌, ◌*◌, ◌≤◌, ◌<◌}
use lib.ListN.{length, get_or, set}
use lib.Dec.{eqb}
use Rattle.lists.specs.Pick.{pick}
use Rattle.lists.proofs.Tables.{chunks-put, chunks-push}
use Rattle.heap.specs.Object.{code_of, state_of, is_filled}
use Rattle.heap.specs.Table.{Slot, slot, push_object}
use Rattle.heap.specs.Slot.{width, flag, is_set, coro_at, object_at, fills, slot_words, slot_of_words}
use Rattle.heap.specs.Heap.{slots_of, put_slot, as_coro}
use Rattle.std.specs.Prelude.{Some, None, Err}
use Rattle.heap.specs.declared.fault.Fault.TheVariants as F
use borrow.Author.Tests.{ne_eqb}
use Rattle.heap.specs.declared.object.CoroState.{CoroState}
use Rattle.heap.specs.declared.object.CoroState.TheVariants as S
use Rattle.heap.specs.declared.object.Object.{Object}
use Rattle.heap.specs.declared.object.Object.TheVariants as O

pub set-flag : (b : Bool) → is_set (flag b) ≡ b
set-flag true = refl
set-flag false = refl

pub state-back : (s : CoroState) → state_of (code_of s) ≡ s
unfolding pick
state-back S.Created = refl
state-back S.Running = refl
state-back S.Yielded = refl
state-back S.Awaiting = refl
state-back S.Returned = refl
state-back S.Failed = refl

object-back : (t : ℕ) (o : Object) → slot_of_words (slot_words (slot t o)) ≡ slot t o
unfolding pick
object-back t O.Empty = refl
object-back t (O.Func f) = refl
object-back t (O.Int n) = refl
object-back t (O.Iter s d None) = rw (set-flag d)
object-back t (O.Iter s d (Some k)) = rw (set-flag d)
object-back t (O.Error e f p w) = refl
object-back t (O.Coro c) = rw (state-back c.state, set-flag c.closing, set-flag c.finalized, set-flag c.task)

pub slot-back : (v : Slot Object) → slot_of_words (slot_words v) ≡ v
slot-back v = object-back v.tag v.object

filled-by : (ws : List ℕ) (a b c d e f : Bool)
    → is_filled
    (pick a (O.Func (get_or ws 2 0))
    (pick b (O.Int (get_or ws 2 0))
    (pick c (O.Iter (get_or ws 2 0) (is_set (get_or ws 3 0)) None)
    (pick d (O.Iter (get_or ws 2 0) (is_set (get_or ws 3 0)) (Some (get_or ws 4 0)))
    (pick e (O.Error (get_or ws 2 0) (get_or ws 3 0) (get_or ws 4 0) (get_or ws 5 0))
    (pick f (O.Coro (coro_at ws))
    O.Empty))))))
    ≡ pick a true (pick b true (pick c true (pick d true (pick e true (pick f true false)))))
unfolding pick
filled-by ws true b c d e f = refl
filled-by ws false true c d e f = refl
filled-by ws false false true d e f = refl
filled-by ws false false false true e f = refl
filled-by ws false false false false true f = refl
filled-by ws false false false false false true = refl
filled-by ws false false false false false false = refl

-- the kind alone tells whether an object is there
pub filled-kind : (ws : List ℕ) → is_filled (object_at ws) ≡ fills (get_or ws 1 0)
filled-kind ws =
    let k = get_or ws 1 0 in
    filled-by ws (eqb k 1) (eqb k 2) (eqb k 3) (eqb k 4) (eqb k 5) (eqb k 6)

coro-by : (ws : List ℕ) (k : ℕ) → k ≡ 6
    → pick (eqb k 1) (O.Func (get_or ws 2 0))
    (pick (eqb k 2) (O.Int (get_or ws 2 0))
    (pick (eqb k 3) (O.Iter (get_or ws 2 0) (is_set (get_or ws 3 0)) None)
    (pick (eqb k 4) (O.Iter (get_or ws 2 0) (is_set (get_or ws 3 0)) (Some (get_or ws 4 0)))
    (pick (eqb k 5) (O.Error (get_or ws 2 0) (get_or ws 3 0) (get_or ws 4 0) (get_or ws 5 0))
    (pick (eqb k 6) (O.Coro (coro_at ws))
    O.Empty)))))
    ≡ O.Coro (coro_at ws)
unfolding pick
coro-by ws k e = rw e

-- kind 6 is a coroutine
pub coro-kind : (ws : List ℕ) → get_or ws 1 0 ≡ 6 → object_at ws ≡ O.Coro (coro_at ws)
coro-kind ws e = coro-by ws (get_or ws 1 0) e

other-by : (ws : List ℕ) (i : ℕ) (a b c d e f : Bool) → f ≡ false
    → as_coro i
    (pick a (O.Func (get_or ws 2 0))
    (pick b (O.Int (get_or ws 2 0))
    (pick c (O.Iter (get_or ws 2 0) (is_set (get_or ws 3 0)) None)
    (pick d (O.Iter (get_or ws 2 0) (is_set (get_or ws 3 0)) (Some (get_or ws 4 0)))
    (pick e (O.Error (get_or ws 2 0) (get_or ws 3 0) (get_or ws 4 0) (get_or ws 5 0))
    (pick f (O.Coro (coro_at ws))
    O.Empty))))))
    ≡ Err F.TypeError
unfolding pick
other-by ws i true b c d e f h = refl
other-by ws i false true c d e f h = refl
other-by ws i false false true d e f h = refl
other-by ws i false false false true e f h = refl
other-by ws i false false false false true f h = refl
other-by ws i false false false false false f h = rw h

-- another is none
pub other-kind : (ws : List ℕ) (i : ℕ) → (get_or ws 1 0 ≡ 6 → ⊥) → as_coro i (object_at ws) ≡ Err F.TypeError
other-kind ws i h =
    let k = get_or ws 1 0 in
    other-by ws i (eqb k 1) (eqb k 2) (eqb k 3) (eqb k 4) (eqb k 5) (eqb k 6) (ne_eqb k 6 h)

words_long : (t : ℕ) (o : Object) → length (slot_words (slot t o)) ≡ 20
words_long t O.Empty = refl
words_long t (O.Func f) = refl
words_long t (O.Int n) = refl
words_long t (O.Iter s d None) = refl
words_long t (O.Iter s d (Some k)) = refl
words_long t (O.Error e f p w) = refl
words_long t (O.Coro c) = refl

pub length-slot : (v : Slot Object) → length (slot_words v) ≡ 20
length-slot v = words_long v.tag v.object

-- slot i replaced, in a table of n slots
pub slots-put : (n i : ℕ) (ws : List ℕ) (v : Slot Object) → i < n → n * 20 ≤ length ws → slots_of n (put_slot ws i v) ≡ set (slots_of n ws) i v
slots-put n i ws v h k = chunks-put width slot_of_words n i ws (slot_words v) h k (length-slot v) ∙ ap (set (slots_of n ws) i) (slot-back v)

-- one slot more
pub slots-push : (n : ℕ) (ws : List ℕ) (o : Object) → n * 20 + 20 ≤ length ws → slots_of (suc n) (put_slot ws n (slot 0 o)) ≡ push_object (slots_of n ws) o
slots-push n ws o k =
    chunks-push width slot_of_words n ws (slot_words (slot 0 o)) k (length-slot (slot 0 o))
    ∙ ap (λ (v : Slot Object). slots_of n ws ++ (v ∷ [])) (slot-back (slot 0 o))
