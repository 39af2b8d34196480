-- On a sound machine the innermost running coroutine is found.
use Prim.Native.Nat.{ℕ, ◌<◌}
use mathlib.Core.Path.{◌≡◌, refl, sym, subst}
use mathlib.Core.Bool.{Bool, true, false, ◌&&◌}
use mathlib.Core.List.{List, ◌∷◌}
use lib.ListN.{length}
use lib.Dec.{ltb, ltb→lt, T}
use Rattle.heap.specs.Table.{Slot, slot, names}
use Rattle.heap.specs.Word.{slot_of}
use Rattle.model.specs.Lists.{each, distinct}
use Rattle.model.specs.Object.{Object, Coroutine, Absent, Is, is_filled}
use Rattle.model.specs.World.{World}
use Rattle.model.specs.Heap.{coro}
use Rattle.model.specs.Sound.{runs, coros, runs_among, running_ok, sound}
use Rattle.model.specs.declared.machine.Active.{Active}
use Rattle.claims_sheet.proofs.Rules.{running}
use Rattle.claims_sheet.proofs.Among.{and_left}

abbrev pub is_absent : Coroutine → Bool
is_absent Absent = true
is_absent (Is k r) = false

-- ---- "of a Running coroutine of its own"

runs-found : (x : Coroutine) → runs x ≡ true → is_absent x ≡ false
runs-found Absent h = sym h
runs-found (Is k r) h = refl

head-runs : (w : World) (chain : List Active) → each (λ a. runs (coro w a.coro)) chain ≡ true → (a : Active) (rest : List Active) → chain ≡ a ∷ rest → runs (coro w a.coro) ≡ true
head-runs w chain h a rest e = and_left (runs (coro w a.coro)) (each (λ x. runs (coro w x.coro)) rest) (subst (λ (c : List Active). each (λ x. runs (coro w x.coro)) c ≡ true) e h)

pub found : (w : World) → sound w ≡ true → (a : Active) (rest : List Active) → w.chain ≡ a ∷ rest → is_absent (coro w a.coro) ≡ false
unfolding running_ok
found w h a rest e =
    runs-found (coro w a.coro)
    (head-runs w w.chain
    (and_left (each (λ x. runs (coro w x.coro)) w.chain) (distinct (coros w.chain))
    (and_left (each (λ x. runs (coro w x.coro)) w.chain && distinct (coros w.chain)) (runs_among (coros w.chain) 0 w.slots) (running w h))) a rest e)

-- ---- a word that names a slot

abbrev pub vacant : Slot Object
vacant = slot 0 Object.Empty

pub inside : (xs : List (Slot Object)) (v : ℕ) → names Object.Empty is_filled xs v ≡ true → slot_of v < length xs
inside xs v h = ltb→lt (slot_of v) (length xs) (subst (λ b. T b) (sym (and_left (ltb (slot_of v) (length xs)) _ h)) tt)
