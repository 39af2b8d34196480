-- coro.rs: auto_key, and a coroutine of the function that a register names: what they make is sound.
use mathlib.Core.Path.{◌≡◌, refl}
use mathlib.Core.Bool.{Bool, true, not}
use Prim.Native.Nat.{ℕ}
use lib.Dec.{eqb}
use borrow.Author.Tests.{not-false}
use Rattle.heap.specs.Int.{next_key}
use Rattle.heap.specs.declared.fault.Fault.{Fault}
use Rattle.std.specs.Prelude.{Option, Result, Some, None, Ok, Err}
use Rattle.model.specs.Program.{func, is_function}
use Rattle.model.specs.Object.{Object}
use Rattle.model.specs.World.{World}
use Rattle.model.specs.Frames.{reg}
use Rattle.model.specs.Heap.{object, not_a}
use Rattle.model.specs.Exec.{window, indirect_to, indirect, key_at, key_exact, auto_key}
use Rattle.claims_sound.proofs.Tests.{picked}
use Rattle.claims_sound.proofs.Sound.{Sound}
use Rattle.claims_sound.proofs.Good.{Good, good, then-good, fine, key_fine, fine-not_a, Still, still}
use Rattle.claims_sound.proofs.Make.{Making, refusing, int-good, create-good}

indirect-to : {ex : Bool} (v dst argc : ℕ) (w : World) → Sound ex w → (o : Object) → Good ex (Making w) (indirect_to o v dst argc w)
indirect-to v dst argc w h Object.Empty = refusing w (not_a w v) h (fine-not_a w v)
indirect-to {ex} v dst argc w h (Object.Func f) =
    picked (Good ex (Making w)) (not (is_function w.setup f)) (λ _. refusing w Fault.TypeError h refl)
    (λ e.
    picked (Good ex (Making w)) (not (eqb (func w.setup f).params argc)) (λ _. refusing w Fault.TypeError h refl)
    (λ _. create-good f v (window dst argc w) w h (not-false (is_function w.setup f) e)))
indirect-to v dst argc w h (Object.Int n) = refusing w (not_a w v) h (fine-not_a w v)
indirect-to v dst argc w h (Object.Iter s d k) = refusing w (not_a w v) h (fine-not_a w v)
indirect-to v dst argc w h (Object.Error e f p x) = refusing w (not_a w v) h (fine-not_a w v)
indirect-to v dst argc w h (Object.Coro k r) = refusing w (not_a w v) h (fine-not_a w v)

pub indirect-good : {ex : Bool} (dst callee argc : ℕ) (w : World) → Sound ex w → Good ex (Making w) (indirect dst callee argc w)
unfolding indirect
indirect-good dst callee argc w h = indirect-to (reg w callee) dst argc w h (object w (reg w callee))

-- ---- auto_key

pub record Keyed (w u : World) (k : Result (ℕ × ℕ) Fault) : Type 0 where
  pub still : Still w u
  pub fine : key_fine k ≡ true

key-at : {ex : Bool} (n : ℕ) (w u : World) (m : Result ℕ Fault) → Sound ex u → Making w u m → Good ex (Keyed w) (key_at n u m)
key-at n w u (Ok k) h p = good h (record { still = p.still; fine = refl })
key-at n w u (Err f) h p = good h (record { still = p.still; fine = p.fine })

pub auto-good : {ex : Bool} (largest : ℕ) (w : World) → Sound ex w → Good ex (Keyed w) (auto_key largest w)
unfolding auto_key
auto-good {ex} largest w h = go (next_key largest)
  where
    go : (x : Option ℕ) → Good ex (Keyed w) (key_exact x w)
    go (Some n) = then-good (key_at n) (int-good n w h) (λ u m k p. key-at n w u m k p)
    go None = good h (record { still = still w; fine = refl })
