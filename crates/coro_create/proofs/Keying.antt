-- A new key on the world, outcome by outcome. Assumes nothing.
use Rattle.std.proofs.Common.{◌≡◌, ℕ, ◌*◌, ◌≤◌, List, length, sym, refl, ap, ◌∙◌, subst, ap₂}
use Rattle.heap.specs.Coding.{of_bits}
use Rattle.heap.specs.Int.{inline_of, next_key}
use Rattle.heap.specs.Heap.{out, encode_by, encode_of, TableFits}
use Rattle.heap.specs.declared.fault.Fault.{Fault}
use Rattle.heap.specs.declared.heap.Heap.{Heap}
use Rattle.std.specs.Prelude.{Result, Some, None, Ok, Err}
use Rattle.heap.specs.declared.value.Word.{Word}
use Rattle.model.specs.World.{World, after, and_then}
use Rattle.model.specs.Heap.{encode_int}
use Rattle.model.specs.Exec.{key_at, key_exact, auto_key}
use Rattle.model.specs.declared.machine.Fuel.{Fuel}
use Rattle.memory_world.specs.Memory.{Lent, on_slots, Rep}
use Rattle.memory_world.specs.Contract.{Does}
use Rattle.memory_world.specs.declared.machine.Machine.{Machine}
use Rattle.memory_world.specs.declared.machine.Sizes.{Sizes}
use Rattle.memory_world.proofs.Does.{does}
use Rattle.machine_state.specs.Numbers.{heap_of, allocated}
use Rattle.machine_state.proofs.Integers.{int-cost, int-refused, int-made}

module _ (l : Sizes) (M : Lent) (m : Machine) (fu : Fuel) (w : World) (rep : Rep l w M m fu) where
  -- ---- the key

  module _ (largest : ℕ) where
    pub key-over : None ≡ next_key largest → Does l (auto_key largest w) M m fu (Err Fault.ArithOverflow)
    unfolding auto_key
    key-over e = does l M m fu (auto_key largest w) w (Err Fault.ArithOverflow) (ap (λ x. key_exact x w) (sym e)) rep

    module _ (n : ℕ) (fits : Some n ≡ next_key largest) where
      -- what the integer's word leads to
      model : auto_key largest w ≡ and_then (encode_int n w) (key_at n)
      unfolding auto_key
      model = ap (λ x. key_exact x w) (sym fits)

      keys : (N : Lent) (m' : Machine) (a : Result ℕ Fault) (k : Result (ℕ × ℕ) Fault) → ((u : World) → key_at n u a ≡ after u k) → Does l (encode_int n w) N m' fu a → Does l (auto_key largest w) N m' fu k
      keys N m' a k e d =
          does l N m' fu (auto_key largest w) (encode_int n w).world k (model ∙ ap (key_at n (encode_int n w).world) (sym d.answer) ∙ e (encode_int n w).world) d.world

      module _ (slots' : List ℕ) (r : Result (Word × Heap) Fault) (h : Heap) (told : out r slots' ≡ encode_of M.slots h l.costs.int n) (is-heap : h ≡ heap_of m l) where
        encoded : (r₀ : Result (Word × Heap) Fault) → r ≡ r₀ → out r₀ slots' ≡ encode_by (inline_of (of_bits 63 n)) M.slots (heap_of m l) w.setup.costs.int n
        encoded r₀ e = ap (λ x. out x slots') (sym e) ∙ told ∙ ap₂ (λ x c. encode_of M.slots x c n) is-heap (int-cost l M m fu w rep)

        pub key-refused : (g : Fault) → r ≡ Err g → Does l (auto_key largest w) (on_slots slots' M) m fu (Err g)
        key-refused g e = keys (on_slots slots' M) m (Err g) (Err g) (λ u. refl) (int-refused l M m fu w rep n slots' (inline_of (of_bits 63 n)) g (encoded (Err g) e))

        pub key-made : TableFits M.slots l.slots → (v : Word) (h' : Heap) (m' : Machine) → r ≡ Ok (v, h') → m' ≡ allocated m h' → Does l (auto_key largest w) (on_slots slots' M) m' fu (Ok (v.0, n))
        key-made room v h' m' e em =
            subst (λ y. Does l (auto_key largest w) (on_slots slots' M) y fu (Ok (v.0, n))) (sym em)
            (keys (on_slots slots' M) (allocated m h') (Ok v.0) (Ok (v.0, n)) (λ u. refl) (int-made l M m fu w rep n slots' (inline_of (of_bits 63 n)) v h' room (encoded (Ok (v, h')) e)))
