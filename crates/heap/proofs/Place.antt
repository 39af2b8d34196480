-- Where a coroutine stands, and its record there. Assumes nothing.
use mathlib.Core.Path.{◌≡◌, refl, sym, ap, ◌∙◌}
use mathlib.Core.Bool.{Bool, true, false}
use mathlib.Core.List.{List}
use Prim.Native.Nat.{ℕ, ◌+◌, ◌*◌, ◌≤◌}
use lib.ListN.{length, get_or}
use lib.Dec.{eqb}
use borrow.Author.Tests.{eqb-true, eqb-false}
use Rattle.lists.specs.Chunks.{chunk_at}
use Rattle.lists.proofs.Tests.{never}
use Rattle.heap.specs.Object.{is_filled}
use Rattle.heap.specs.Table.{get}
use Rattle.heap.specs.Slot.{coro_at, object_at}
use Rattle.heap.specs.Heap.{slots_of, as_coro, coro_by, place_of, coro_of}
use Rattle.heap.specs.declared.fault.Fault.{Fault}
use Rattle.heap.specs.declared.object.Object.TheVariants as O
use Rattle.std.specs.Prelude.{Option, Result, Some, None, Ok, Err}
use Rattle.heap.specs.declared.object.CoroObj.{CoroObj}
use Rattle.heap.proofs.Lookups.{found-words, found-coro}
use Rattle.heap.proofs.Slots.{coro-kind, other-kind}

-- no coroutine
pub none-there : (k : Result (ℕ × CoroObj) Fault) (f : Fault) → Err f ≡ place_of k → Err f ≡ k
none-there (Ok (i, c)) f e = never cc
none-there (Err g) f e = ap Err cc

-- one at place i, with the record that the words there tell
module _ (n : ℕ) (ws : List ℕ) (w i : ℕ) (at : Ok i ≡ place_of (coro_of (slots_of n ws) w)) where
  pub record Stands : Type 0 where
    pub place : Some i ≡ get O.Empty is_filled (slots_of n ws) w
    pub coro : Ok (i, coro_at (chunk_at 20 ws i)) ≡ coro_of (slots_of n ws) w

  abbrev here : ℕ → List ℕ
  here j = chunk_at 20 ws j

  by_kind : (j : ℕ) (b : Bool) → eqb (get_or (here j) 1 0) 6 ≡ b → Ok i ≡ place_of (as_coro j (object_at (here j))) → (i ≡ j) × (Ok (j, coro_at (here j)) ≡ as_coro j (object_at (here j)))
  by_kind j true e q =
      let k = ap (as_coro j) (coro-kind (here j) (eqb-true (get_or (here j) 1 0) 6 e)) in
      let z : Ok i ≡ Ok j = q ∙ ap place_of k in (cc, sym k)
  by_kind j false e q = let z = q ∙ ap place_of (other-kind (here j) j (eqb-false (get_or (here j) 1 0) 6 e)) in never cc

  by_place : (p : Option ℕ) → p ≡ get O.Empty is_filled (slots_of n ws) w → Ok i ≡ place_of (coro_by (slots_of n ws) w p) → Stands
  by_place None q e = never cc
  by_place (Some j) q e =
      let z = by_kind j (eqb (get_or (here j) 1 0) 6) refl (at ∙ ap place_of (sym (found-coro n ws w j q))) in
      record {
        place = ap Some z.0 ∙ q;
        coro = ap (λ k. Ok (k, coro_at (here k))) z.0 ∙ z.1 ∙ found-coro n ws w j q;
      }

  pub stands : Stands
  stands = by_place (get O.Empty is_filled (slots_of n ws) w) refl at

  pub stands-words : n * 20 ≤ length ws → i * 20 + 20 ≤ length ws
  stands-words h = found-words n ws w i stands.place h
