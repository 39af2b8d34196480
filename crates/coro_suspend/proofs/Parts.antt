-- What a suspension charges, writes and tells, by the tests of the code. Assumes nothing.
use mathlib.Core.Path.{◌≡◌, refl, sym, ap, ◌∙◌}
use mathlib.Core.Bool.{Bool, true, false}
use Prim.Native.Nat.{ℕ, ◌*◌, ◌≤◌}
use native.Mathlib.Omega.{arith}
use native.Mathlib.Nat.{mul-le-mul_right}
use lib.ListN.{length}
use Rattle.lists.specs.Pick.{pick, pick_true, pick-false}
use Rattle.lists.proofs.Tests.{never}
use Rattle.heap.specs.Word.{nil}
use Rattle.heap.specs.Charge.{fits, sat_add, with_used, charge_of}
use Rattle.heap.specs.declared.heap.Heap.{Heap}
use Rattle.std.specs.Prelude.{Option, Some, None, Ok, Err}
use Rattle.heap.specs.declared.fault.Fault.{Fault}
use Rattle.heap.specs.declared.object.CoroState.{CoroState}
use Rattle.model.specs.State.{is_awaiting}
use Rattle.model.specs.Object.{Core, Rest, with_closing, with_signal, with_payload}
use Rattle.model.specs.Coro.{sized, set_keys, unclose, event_of}
use Rattle.model.specs.declared.coro.Event.{Event}
use Rattle.memory_world.specs.Slots.{to_coro}
use Rattle.memory_world.specs.declared.machine.Machine.{Machine}
use Rattle.memory_world.specs.declared.machine.Sizes.{Sizes}
use Rattle.coro_suspend.specs.Suspend.{key_of, ignores, suspended, event_as}

-- a product that 64 bits hold
pub small_product : (a b : ℕ) → a ≤ 128 → b ≤ 65536 → a * b ≤ 8388608
small_product a b p q = let h : a * b ≤ 128 * b = mul-le-mul_right b p in omega arith

-- ---- a charge

-- the numbers that it reads
abbrev pub heap_of : Machine → Sizes → Heap
heap_of m l = record { count = m.count; slots = l.slots; used = m.used; limit = l.memory }

pub spends : (h : Heap) (bytes : ℕ) (g : Fault) → Err g ≡ charge_of h bytes → (fits h.used h.limit bytes ≡ false) × (g ≡ Fault.OutOfMemory)
unfolding pick
spends h bytes g e = go (fits h.used h.limit bytes) e
  where
    go : (b : Bool) → Err g ≡ pick b (Ok (with_used (sat_add h.used bytes) h)) (Err Fault.OutOfMemory) → (b ≡ false) × (g ≡ Fault.OutOfMemory)
    go true q = never cc
    go false q = (refl, cc)

pub pays : (h : Heap) (bytes : ℕ) (g : Heap) → Ok g ≡ charge_of h bytes → (fits h.used h.limit bytes ≡ true) × (g.used ≡ sat_add h.used bytes)
unfolding pick
pays h bytes g e = go (fits h.used h.limit bytes) e
  where
    go : (b : Bool) → Ok g ≡ pick b (Ok (with_used (sat_add h.used bytes) h)) (Err Fault.OutOfMemory) → (b ≡ true) × (g.used ≡ sat_add h.used bytes)
    go true q = let z : g ≡ with_used (sat_add h.used bytes) h = cc in (refl, ap (λ (x : Heap). x.used) z)
    go false q = never cc

-- ---- the record

-- closing and signal, where a close is ignored or not
unclosed : (b : Bool) (k : Core) (r : Rest)
    → to_coro k (pick b (with_closing false (with_signal nil r)) r)
    ≡ record {
      state = k.state;
      closing = pick b false r.closing;
      finalized = r.finalized;
      task = r.task;
      seq = r.seq;
      row = r.row;
      regs = length k.regs;
      frames = length k.frames;
      maxregs = r.maxregs;
      maxframes = r.maxframes;
      waiting = k.waiting;
      payload = r.payload;
      key = r.key;
      largest = r.largest;
      result = r.result;
      signal = pick b nil r.signal;
    }
unfolding pick
unclosed true k r = refl
unclosed false k r = refl

-- the record of what the model leaves
pub suspended-is : (k k' : Core) (r : Rest) (payload : ℕ) (keys : Option (ℕ × ℕ))
    → to_coro k' (unclose k'.state (set_keys keys (with_payload payload (sized k' r))))
    ≡ suspended k'.state (length k'.regs) (length k'.frames) k'.waiting payload keys (to_coro k r)
suspended-is k k' r payload None = unclosed (ignores k'.state r.closing) k' (with_payload payload (sized k' r))
suspended-is k k' r payload (Some (key, largest)) = unclosed (ignores k'.state r.closing) k' (set_keys (Some (key, largest)) (with_payload payload (sized k' r)))

-- ---- the event

pub event-is : (s : CoroState) (payload : ℕ) (keys : Option (ℕ × ℕ)) (r : Rest) → event_of s payload (set_keys keys r) ≡ event_as s payload r.closing (key_of keys r.key)
event-is s payload None r = refl
event-is s payload (Some (key, largest)) r = refl

module _ (s : CoroState) (payload : ℕ) (closing : Bool) (key : ℕ) where
  pub awaits : is_awaiting s ≡ true → Event.Awaiting payload ≡ event_as s payload closing key
  awaits e = sym (ap (λ b. pick b (Event.Awaiting payload) (pick closing Event.CloseIgnored (Event.Yielded payload key))) e ∙ pick_true _ _)

  yields : (b : Bool) → closing ≡ b → is_awaiting s ≡ false → pick b Event.CloseIgnored (Event.Yielded payload key) ≡ event_as s payload closing key
  yields b p e =
      ap (λ c. pick c Event.CloseIgnored (Event.Yielded payload key)) (sym p)
      ∙ sym (ap (λ b. pick b (Event.Awaiting payload) (pick closing Event.CloseIgnored (Event.Yielded payload key))) e ∙ pick-false _ _)

  pub ignored : is_awaiting s ≡ false → closing ≡ true → Event.CloseIgnored ≡ event_as s payload closing key
  ignored e p = sym (pick_true _ _) ∙ yields true p e

  pub yielded : is_awaiting s ≡ false → closing ≡ false → Event.Yielded payload key ≡ event_as s payload closing key
  yielded e p = sym (pick-false _ _) ∙ yields false p e
