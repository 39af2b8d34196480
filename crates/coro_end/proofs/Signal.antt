-- Whether the coroutine in the words is being closed by a signal is what the world says. Assumes nothing.
use mathlib.Core.Path.{◌≡◌, sym, ap, ◌∙◌}
use mathlib.Core.Bool.{true, false, ◌&&◌}
use mathlib.Core.List.{List}
use Prim.Native.Nat.{ℕ}
use lib.Dec.{eqb}
use Rattle.heap.specs.Heap.{slots_of, coro_of}
use Rattle.heap.specs.declared.fault.Fault.{Fault}
use Rattle.std.specs.Prelude.{Ok, Err}
use Rattle.heap.specs.declared.object.CoroObj.{CoroObj}
use Rattle.model.specs.World.{World}
use Rattle.model.specs.Heap.{coro}
use Rattle.model.specs.Coro.{closed_by}
use Rattle.memory_world.specs.Slots.{to_slots}
use Rattle.memory_world.specs.Memory.{Slots}
use Rattle.memory_world.proofs.Tables.{slots-are}
use Rattle.memory_world.proofs.Lookup.{there, lacks}

module _ (w : World) (ws : List ℕ) (n v value : ℕ) (s : Slots (to_slots w.slots) ws n) where
  pub none-closed : (f : Fault) → Err f ≡ coro_of (slots_of n ws) v → false ≡ closed_by (coro w v) value
  none-closed f e =
      let q = lacks w.slots v f (e ∙ ap (λ xs. coro_of xs v) (slots-are (to_slots w.slots) ws n s)) in
      ap (λ c. closed_by c value) (sym q.coro)

  module _ (i : ℕ) (c : CoroObj) (found : Ok (i, c) ≡ coro_of (slots_of n ws) v) where
    closed_in : (c.closing && eqb value c.signal) ≡ closed_by (coro w v) value
    closed_in =
        let q = there w.slots v i c (found ∙ ap (λ xs. coro_of xs v) (slots-are (to_slots w.slots) ws n s)) in
        ap (λ (x : CoroObj). x.closing && eqb value x.signal) q.is ∙ ap (λ x. closed_by x value) (sym q.coro)

    pub closing-by : c.closing ≡ true → eqb value c.signal ≡ closed_by (coro w v) value
    closing-by e = sym (ap (λ b. b && eqb value c.signal) e) ∙ closed_in

    pub not-closing : c.closing ≡ false → false ≡ closed_by (coro w v) value
    not-closing e = sym (ap (λ b. b && eqb value c.signal) e) ∙ closed_in
