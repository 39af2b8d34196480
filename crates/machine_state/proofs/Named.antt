-- The coroutine that a word names, or none, by the place that the lower crate tells. Assumes nothing.
use mathlib.Core.Path.{◌≡◌, sym, ap, ◌∙◌}
use Prim.Native.Nat.{ℕ}
use Rattle.heap.specs.Heap.{coro_in, slots_of, place_of, coro_of}
use Rattle.heap.specs.declared.fault.Fault.{Fault}
use Rattle.std.specs.Prelude.{Ok, Err}
use Rattle.heap.specs.declared.object.CoroState.{CoroState}
use Rattle.heap.proofs.Place.{none-there}
use Rattle.model.specs.World.{World}
use Rattle.model.specs.Coro.{state_as, coro_state}
use Rattle.model.specs.Heap.{not_a}
use Rattle.model.specs.declared.machine.Fuel.{Fuel}
use Rattle.memory_world.specs.Memory.{Lent, Rep}
use Rattle.memory_world.specs.declared.machine.Machine.{Machine}
use Rattle.memory_world.specs.declared.machine.Sizes.{Sizes}
use Rattle.memory_world.proofs.Lookup.{Lacks, lacks}
use Rattle.memory_world.proofs.Slotted.{in-slots, placed, reads-state}

module _ (l : Sizes) (M : Lent) (m : Machine) (f : Fuel) (v : ℕ) (w : World) (rep : Rep l w M m f) where
  pub named_none : (g : Fault) → Err g ≡ place_of (coro_of (slots_of m.count M.slots) v) → Lacks w.slots v g
  named_none g e = lacks w.slots v g (in-slots l M m f v w rep (Err g) (none-there (coro_of (slots_of m.count M.slots) v) g e))

  -- ---- its state

  pub state-none : (g : Fault) → Err g ≡ place_of (coro_of (slots_of m.count M.slots) v) → Err g ≡ coro_state w v
  state-none g e = let q = named_none g e in ap Err q.fault ∙ ap (λ k. state_as k (not_a w v)) (sym q.coro)

  pub state-at : (i : ℕ) (x : CoroState) → Ok i ≡ place_of (coro_of (slots_of m.count M.slots) v) → x ≡ (coro_in M.slots i).state → Ok x ≡ coro_state w v
  state-at i x e q = ap Ok (q ∙ reads-state l M m f v w rep i e) ∙ ap (λ k. state_as k (not_a w v)) (sym (placed l M m f v w rep i e).coro)
