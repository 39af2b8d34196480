-- An allocation on the lent words is the world's. Assumes nothing.
use mathlib.Core.Path.{◌≡◌, refl, sym, ap, ap₂, ◌∙◌, subst}
use mathlib.Core.Bool.{Bool, true, false, not}
use mathlib.Core.List.{List}
use Prim.Native.Nat.{ℕ, ◌+◌, ◌*◌, ◌≤◌}
use native.Mathlib.Omega.{arith}
use lib.ListN.{length, length-map}
use lib.Dec.{ltb, leb}
use borrow.Author.Tests.{ltb-true, ltb-false, le-leb, lt-leb}
use Rattle.lists.specs.Pick.{pick}
use Rattle.heap.specs.Word.{reference}
use Rattle.heap.specs.Charge as Charge
use Rattle.heap.specs.Charge.{sat_add}
use Rattle.heap.specs.Table.{Slot, slot, push_object, next_word}
use Rattle.heap.specs.Heap as Heaped
use Rattle.heap.specs.Heap.{out, alloc_of, put_slot, TableFits}
use Rattle.heap.specs.declared.fault.Fault.{Fault}
use Rattle.heap.specs.declared.heap.Heap.{Heap}
use Rattle.std.specs.Prelude.{Result, Ok, Err}
use Rattle.heap.specs.declared.value.Word.{Word}
use Rattle.model.specs.Object.{Object, Absent, as_coro}
use Rattle.model.specs.World.{World, After, after, with_slots, with_used}
use Rattle.model.specs.Heap.{fits, slots_full, refuse, alloc}
use Rattle.model.specs.Sound.{row_words, sound}
use Rattle.lists.proofs.Tests.{never}
use Rattle.claims_sound.proofs.Tests.{no_false}
use Rattle.claims_sound.proofs.Sound.{sound→, facts}
use Rattle.model.specs.declared.machine.Fuel.{Fuel}
use Rattle.memory_tables.specs.Parts.{SavedStack, SavedFrames}
use Rattle.memory_tables.specs.Sizes.{frames_size}
use Rattle.memory_world.specs.Slots.{to_object, to_slot, to_slots}
use Rattle.memory_world.specs.Rows.{owns, row_at}
use Rattle.memory_world.specs.Memory.{Lent, on_slots, on_saved, Slots, Rep, Room, tabled, regs_rows, frames_rows}
use Rattle.memory_world.specs.Numbers.{with_count, with_charged}
use Rattle.memory_world.specs.Contract.{Does}
use Rattle.memory_world.specs.declared.machine.Machine.{Machine}
use Rattle.memory_world.specs.declared.machine.Sizes.{Sizes}
use Rattle.memory_world.proofs.Slots.{push-same}
use Rattle.memory_world.proofs.Does.{does}
use Rattle.memory_world.proofs.Rows.{row_same}
use Rattle.memory_world.proofs.Tables.{slots-push}
use Rattle.memory_world.proofs.Turn.{turn-slots, turn-used}
use Rattle.machine_state.specs.Numbers.{heap_of, allocated}
use Rattle.machine_state.proofs.Pushed.{Done, Lacking, alloc-done, alloc-lacks}

-- ---- the rows after an object that owns none was added

module _ (xs : List (Slot Object)) (o : Object) (plain : as_coro o ≡ Absent) where
  same : (j : ℕ) → row_at j (push_object xs o) ≡ row_at j xs
  same j = row_same xs j o (ap (owns j) plain)

  regs_same : (n : ℕ) → regs_rows n (push_object xs o) ≡ regs_rows n xs
  regs_same n = λ i. tabled (λ j. (same j i).regs) 0 n

  frames-same : (n : ℕ) → frames_rows n (push_object xs o) ≡ frames_rows n xs
  frames-same n = λ i. tabled (λ j. (same j i).frames) 0 n

-- ---- tests

full-not : (a b : ℕ) → leb b a ≡ not (ltb a b)
full-not a b = go (ltb a b) refl
  where
    go : (t : Bool) → ltb a b ≡ t → leb b a ≡ not t
    go true e = lt-leb b a (ltb-true a b e)
    go false e = le-leb b a (ltb-false a b e)

abbrev lacking : Bool → Bool → Result Unit Fault
lacking a b = pick a (pick b (Ok tt) (Err Fault.Full)) (Err Fault.OutOfMemory)

refuses : (a b : Bool) (w : World) (g : Fault) (o : After (Result ℕ Fault)) → Err g ≡ lacking a b
    → pick (not a) (refuse w Fault.OutOfMemory) (pick (not b) (refuse w Fault.Full) o) ≡ refuse w g
unfolding pick
refuses true true w g o e = never cc
refuses true false w g o e = let z : Fault.Full ≡ g = cc in ap (refuse w) z
refuses false b w g o e = let z : Fault.OutOfMemory ≡ g = cc in ap (refuse w) z

passes : (a b : Bool) (w : World) (o : After (Result ℕ Fault)) → a ≡ true → b ≡ true → pick (not a) (refuse w Fault.OutOfMemory) (pick (not b) (refuse w Fault.Full) o) ≡ o
unfolding pick
passes a b w o p q = rw (p, q)

-- ---- one world that the words stand for

module _ (l : Sizes) (M : Lent) (m : Machine) (f : Fuel) (w : World) (rep : Rep l w M m f) where
  pub count-is : m.count ≡ length w.slots
  count-is = rep.slots.count ∙ length-map w.slots to_slot

  pub fits-same : (bytes : ℕ) → fits w bytes ≡ Charge.fits m.used l.memory bytes
  fits-same bytes = sym (ap₂ (λ a b. Charge.fits a b bytes) rep.used rep.sizes.memory)

  pub full-same : slots_full w ≡ not (ltb m.count l.slots)
  full-same = sym (ap₂ (λ a b. leb a b) rep.sizes.slots count-is) ∙ full-not m.count l.slots

  module _ (bytes : ℕ) (o : Object) where
    abbrev pushed : World
    pushed = with_used (sat_add w.used bytes) (with_slots (push_object w.slots o) w)

    abbrev a : Bool
    a = Charge.fits m.used l.memory bytes

    abbrev b : Bool
    b = ltb m.count l.slots

    model : alloc bytes o w ≡ pick (not a) (refuse w Fault.OutOfMemory) (pick (not b) (refuse w Fault.Full) (after pushed (Ok (next_word w.slots))))
    unfolding alloc
    model =
        ap₂ (λ x y. pick (not x) (refuse w Fault.OutOfMemory) (pick y (refuse w Fault.Full) (after pushed (Ok (next_word w.slots))))) (fits-same bytes) full-same

    pub alloc-refused : (ws' : List ℕ) (g : Fault) → Lacking M.slots ws' (heap_of m l) bytes g → Does l (alloc bytes o w) (on_slots ws' M) m f (Err g)
    alloc-refused ws' g k =
        subst (λ z. Does l (alloc bytes o w) (on_slots z M) m f (Err g)) (sym k.words)
        (does l M m f (alloc bytes o w) w (Err g) (model ∙ refuses a b w g _ k.fault) rep)

    module _ (ws' saved_stack' saved_frames' : List ℕ) (h' : Heap) (v : Word) (k : Done M.slots ws' (heap_of m l) h' bytes (to_object o) v) (room : TableFits M.slots l.slots) where
      slots-after : Slots (to_slots (push_object w.slots o)) ws' h'.count
      slots-after =
          let left = ltb-true m.count l.slots k.left in
          let s : Slots (push_object (to_slots w.slots) (to_object o)) (put_slot M.slots m.count (slot 0 (to_object o))) (m.count + 1) =
          slots-push (to_slots w.slots) M.slots m.count (slot 0 (to_object o)) rep.slots (omega arith) in
          subst (λ xs. Slots xs ws' h'.count) (sym (push-same w.slots o))
          (subst (λ z. Slots (push_object (to_slots w.slots) (to_object o)) z h'.count) (sym k.words)
          (subst (λ n. Slots (push_object (to_slots w.slots) (to_object o)) (put_slot M.slots m.count (slot 0 (to_object o))) n) (sym k.count) s))

      pub alloc-made : SavedStack (row_words w.setup) (regs_rows w.setup.limits.rows (push_object w.slots o)) saved_stack'
          → SavedFrames (frames_size w.setup) (frames_rows w.setup.limits.rows (push_object w.slots o)) saved_frames'
          → Does l (alloc bytes o w) (on_slots ws' (on_saved saved_stack' saved_frames' M)) (allocated m h') f (Ok v.0)
      alloc-made on up =
          does l (on_slots ws' (on_saved saved_stack' saved_frames' M)) (allocated m h') f (alloc bytes o w) pushed (Ok v.0)
          (model ∙ passes a b w _ k.fit k.left ∙ ap (λ n. after pushed (Ok n)) (sym (k.word ∙ ap (λ n. reference n 0) count-is)))
          (turn-used l (with_slots (push_object w.slots o) w) (on_slots ws' (on_saved saved_stack' saved_frames' M)) (with_count h'.count m) f
          (turn-slots l w M m f rep (push_object w.slots o) ws' saved_stack' saved_frames' h'.count slots-after on up)
          h'.used (sat_add w.used bytes) (k.used ∙ ap (λ n. sat_add n bytes) rep.used))

    -- an object that owns no row
    module _ (unowned : as_coro o ≡ Absent) (ws' : List ℕ) (h : Heap) (r : Result (Word × Heap) Fault) (told : out r ws' ≡ alloc_of M.slots h bytes (to_object o)) (is-heap : h ≡ heap_of m l) where
      answered : (r₀ : Result (Word × Heap) Fault) → r ≡ r₀ → out r₀ ws' ≡ alloc_of M.slots (heap_of m l) bytes (to_object o)
      answered r₀ e = ap (λ x. out x ws') (sym e) ∙ told ∙ ap (λ x. alloc_of M.slots x bytes (to_object o)) is-heap

      pub plain-refused : (g : Fault) → r ≡ Err g → Does l (alloc bytes o w) (on_slots ws' M) m f (Err g)
      plain-refused g e = alloc-refused ws' g (alloc-lacks M.slots (heap_of m l) bytes (to_object o) ws' g (answered (Err g) e))

      pub plain-made : TableFits M.slots l.slots → (v : Word) (h' : Heap) (m' : Machine) → r ≡ Ok (v, h') → m' ≡ allocated m h' → Does l (alloc bytes o w) (on_slots ws' M) m' f (Ok v.0)
      plain-made room v h' m' e em =
          let s = w.setup in
          subst (λ z. Does l (alloc bytes o w) (on_slots ws' M) z f (Ok v.0)) (sym em)
          (alloc-made ws' M.saved_stack M.saved_frames h' v (alloc-done M.slots (heap_of m l) bytes (to_object o) ws' v h' (answered (Ok (v, h')) e)) room
          (subst (λ z. SavedStack (row_words s) z M.saved_stack) (sym (regs_same w.slots o unowned s.limits.rows)) rep.saved_stack)
          (subst (λ z. SavedFrames (frames_size s) z M.saved_frames) (sym (frames-same w.slots o unowned s.limits.rows)) rep.saved_frames))

-- a sound world, with room: the heap has room
pub heap-room : {l : Sizes} {w : World} {M : Lent} {m : Machine} {f : Fuel} → Rep l w M m f → sound w ≡ true → Room w.setup M → Heaped.Room M.slots (heap_of m l)
heap-room {l} {w} rep snd room =
    let k = (facts w.setup (sound→ {ex = false} w snd (λ z. no_false z)).setup).slots in
    let q = room.slots in
    let z = rep.sizes.slots in
    record { words = omega arith; slots = omega arith }
