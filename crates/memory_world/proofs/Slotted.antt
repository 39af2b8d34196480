-- A slot of the world replaced, in the words; and the rows, which stay where the same coroutine owns one and has saved the same.
-- Assumes nothing.
use mathlib.Core.Path.{◌≡◌, refl, sym, ap, ap₂, ◌∙◌, subst}
use mathlib.Core.Bool.{Bool, true, false, not, ◌&&◌}
use mathlib.Core.List.{List, [], ◌∷◌}
use Prim.Native.Nat.{ℕ, zero, suc, ◌<◌}
use native.Mathlib.Omega.{arith}
use lib.ListN.{length, get_or, set, length-map}
use lib.Dec.{eqb}
use Rattle.lists.specs.Pick.{pick, pick_true, pick-false}
use Rattle.lists.specs.Chunks.{chunk_at}
use Rattle.heap.specs.Word.{slot_of, tag_of}
use Rattle.heap.specs.Table.{Slot, slot, put_object}
use Rattle.heap.specs.Slot.{width, slot_words}
use Rattle.heap.specs.Heap.{SlotFits, coro_in, slots_of, place_of, coro_of, put_slot}
use Rattle.heap.specs.declared.fault.Fault.{Fault}
use Rattle.std.specs.Prelude.{Result, Ok, Err}
use Rattle.heap.specs.declared.object.CoroObj.{CoroObj}
use Rattle.heap.specs.declared.object.Object as H
use Rattle.heap.specs.declared.object.Object.TheVariants as O
use Rattle.heap.proofs.Place.{stands}
use Rattle.model.specs.State.{is_finished}
use Rattle.model.specs.Object.{Core, Rest, Object, Absent, Is, as_coro}
use Rattle.model.specs.World.{World}
use Rattle.model.specs.Heap.{coro, set_object, set_coro, change_as}
use Rattle.model.specs.Sound.{row_words}
use Rattle.model.specs.declared.machine.Fuel.{Fuel}
use Rattle.claims_sound.proofs.Point.{at, Points, finds}
use Rattle.memory_tables.specs.Parts.{SavedStack, SavedFrames}
use Rattle.memory_tables.specs.Sizes.{frames_size}
use Rattle.memory_world.specs.Slots.{to_coro, to_object, to_slot, to_slots}
use Rattle.memory_world.specs.Rows.{owns, saved_by, row_at}
use Rattle.memory_world.specs.Memory.{Lent, Slots, Rep, regs_rows, frames_rows, on_slots, tabled}
use Rattle.memory_world.specs.declared.machine.Machine.{Machine}
use Rattle.memory_world.specs.declared.machine.Sizes.{Sizes}
use Rattle.memory_world.proofs.Slots.{at_map, put_same}
use Rattle.memory_world.proofs.Tables.{slots-are, slots_set, rows-set}
use Rattle.memory_world.proofs.Lookup.{There, there, there-words, lacks}
use Rattle.memory_world.proofs.Turn.{turn-slots}

-- ---- the slot that a word names, replaced

pub slot-inside : (xs : List (Slot Object)) (ws : List ℕ) (n v i : ℕ) (o : Object) → Slots (to_slots xs) ws n → Points xs v o → i ≡ slot_of v → i < n
slot-inside xs ws n v i o s p e =
    let c = s.count in
    let m : length (to_slots xs) ≡ length xs = length-map xs to_slot in
    let k = p.inside in
    omega arith

pub put-slots : (xs : List (Slot Object)) (ws ws' : List ℕ) (n v i : ℕ) (o o' : Object) → Slots (to_slots xs) ws n → Points xs v o → i ≡ slot_of v
    → ws' ≡ put_slot ws i (slot (tag_of v) (to_object o')) → Slots (to_slots (put_object Object.Empty xs (slot_of v) o')) ws' n
put-slots xs ws ws' n v i o o' s p e q =
    let y : Slot H.Object = slot (tag_of v) (to_object o') in
    let tag : (get_or (to_slots xs) (slot_of v) (slot 0 O.Empty)).tag ≡ tag_of v = ap (λ (x : Slot H.Object). x.tag) (at_map xs (slot_of v)) ∙ p.tag in
    let same : to_slots (put_object Object.Empty xs (slot_of v) o') ≡ set (to_slots xs) i y =
    put_same xs (slot_of v) o' ∙ ap₂ (λ j t. set (to_slots xs) j (slot t (to_object o'))) (sym e) tag in
    subst (λ z. Slots z ws' n) (sym same) (subst (λ z. Slots (set (to_slots xs) i y) z n) (sym q) (slots_set (to_slots xs) ws n i y s (slot-inside xs ws n v i o s p e)))

-- ---- the rows, where the object before and the one after own the same row, with the same saved words, or none

row_same : (xs : List (Slot Object)) (i n : ℕ) (y : Slot Object) → owns n (as_coro y.object) ≡ owns n (as_coro (at xs i).object)
    → (owns n (as_coro (at xs i).object) ≡ true → saved_by (as_coro y.object) ≡ saved_by (as_coro (at xs i).object)) → row_at n (set xs i y) ≡ row_at n xs
row_same [] i n y p q = refl
row_same (x ∷ xs) zero n y p q = go (owns n (as_coro x.object)) refl
  where
    go : (b : Bool) → owns n (as_coro x.object) ≡ b → row_at n (y ∷ xs) ≡ row_at n (x ∷ xs)
    go true e =
        ap (λ (b : Bool). pick b (saved_by (as_coro y.object)) (row_at n xs)) (p ∙ e) ∙ pick_true _ _ ∙ q e
        ∙ sym (ap (λ (b : Bool). pick b (saved_by (as_coro x.object)) (row_at n xs)) e ∙ pick_true _ _)
    go false e =
        ap (λ (b : Bool). pick b (saved_by (as_coro y.object)) (row_at n xs)) (p ∙ e) ∙ pick-false _ _
        ∙ sym (ap (λ (b : Bool). pick b (saved_by (as_coro x.object)) (row_at n xs)) e ∙ pick-false _ _)
row_same (x ∷ xs) (suc i) n y p q = ap (pick (owns n (as_coro x.object)) (saved_by (as_coro x.object))) (row_same xs i n y p q)

kept : {A : Type 0} (f g : ℕ → A) (n : ℕ) → ((j : ℕ) → g j ≡ f j) → tabled f 0 n ≡ tabled g 0 n
kept f g n h = sym (rows-set f f n 0 (f 0) refl (λ j d. refl)) ∙ rows-set f g n 0 (f 0) (h 0) (λ j d. h j)

module _ (xs : List (Slot Object)) (v : ℕ) (o o' : Object) (p : Points xs v o) (owner : (n : ℕ) → owns n (as_coro o') ≡ owns n (as_coro o))
    (saved : (n : ℕ) → owns n (as_coro o) ≡ true → saved_by (as_coro o') ≡ saved_by (as_coro o)) where
  abbrev ys : List (Slot Object)
  ys = put_object Object.Empty xs (slot_of v) o'

  row_kept : (n : ℕ) → row_at n ys ≡ row_at n xs
  row_kept n =
      let here = p.here in
      row_same xs (slot_of v) n (slot (at xs (slot_of v)).tag o') (owner n ∙ sym (ap (λ z. owns n (as_coro z)) here))
      (λ e. saved n (sym (ap (λ z. owns n (as_coro z)) here) ∙ e) ∙ sym (ap (λ z. saved_by (as_coro z)) here))

  pub regs-kept : (n : ℕ) → regs_rows n xs ≡ regs_rows n ys
  regs-kept n = kept (λ i. (row_at i xs).regs) (λ i. (row_at i ys).regs) n (λ j. ap (λ q. q.regs) (row_kept j))

  pub frames-kept : (n : ℕ) → frames_rows n xs ≡ frames_rows n ys
  frames-kept n = kept (λ i. (row_at i xs).frames) (λ i. (row_at i ys).frames) n (λ j. ap (λ q. q.frames) (row_kept j))

-- such an object replaced
pub object-rep : (l : Sizes) (M : Lent) (m : Machine) (f : Fuel) (w : World) (v i : ℕ) (o o' : Object) (slots' : List ℕ) → Rep l w M m f → Points w.slots v o → i ≡ slot_of v
    → ((n : ℕ) → owns n (as_coro o') ≡ owns n (as_coro o)) → ((n : ℕ) → owns n (as_coro o) ≡ true → saved_by (as_coro o') ≡ saved_by (as_coro o))
    → slots' ≡ put_slot M.slots i (slot (tag_of v) (to_object o')) → Rep l (set_object v o' w) (on_slots slots' M) m f
object-rep l M m f w v i o o' slots' rep p e owner saved q =
    let n = w.setup.limits.rows in
    turn-slots l w M m f rep (put_object Object.Empty w.slots (slot_of v) o') slots' M.saved_stack M.saved_frames m.count
    (put-slots w.slots M.slots slots' m.count v i o o' rep.slots p e q)
    (subst (λ z. SavedStack (row_words w.setup) z M.saved_stack) (regs-kept w.slots v o o' p owner saved n) rep.saved_stack)
    (subst (λ z. SavedFrames (frames_size w.setup) z M.saved_frames) (frames-kept w.slots v o o' p owner saved n) rep.saved_frames)

-- ---- a coroutine whose marks, keys or signal change

module _ (l : Sizes) (M : Lent) (m : Machine) (f : Fuel) (v : ℕ) (w : World) (rep : Rep l w M m f) where
  pub in-slots : (x : Result (ℕ × CoroObj) Fault) → x ≡ coro_of (slots_of m.count M.slots) v → x ≡ coro_of (to_slots w.slots) v
  in-slots x e = e ∙ ap (λ xs. coro_of xs v) (slots-are (to_slots w.slots) M.slots m.count rep.slots)

  pub coro-absent : (g : Fault) → Err g ≡ coro_of (slots_of m.count M.slots) v → coro w v ≡ Absent
  coro-absent g e = (lacks w.slots v g (in-slots (Err g) e)).coro

  -- where the word names none, nothing changes
  pub rest-absent : (g : Rest → Rest) (x : Fault) → Err x ≡ coro_of (slots_of m.count M.slots) v → Rep l (change_as (coro w v) v (λ k. k) g w) M m f
  rest-absent g x e = subst (λ c. Rep l (change_as c v (λ k. k) g w) M m f) (sym (coro-absent x e)) rep

  module _ (i : ℕ) (c : CoroObj) where
    pub coro-there : Ok (i, c) ≡ coro_of (slots_of m.count M.slots) v → There w.slots v i c
    coro-there found = there w.slots v i c (in-slots (Ok (i, c)) found)

    module _ (t : There w.slots v i c) where
      points : Points w.slots v (Object.Coro t.core t.rest)
      points = finds w.slots v t.core t.rest t.coro

      -- its slot lies in the words
      pub slot-fits : SlotFits M.slots i
      slot-fits =
          let a = slot-inside w.slots M.slots m.count v i (Object.Coro t.core t.rest) rep.slots points t.slot in
          let b = rep.slots.within in
          omega arith

      pub rest-rep : (r' : Rest) (slots' : List ℕ) → r'.row ≡ t.rest.row → slots' ≡ put_slot M.slots i (slot (tag_of v) (O.Coro (to_coro t.core r')))
          → Rep l (set_coro v t.core r' w) (on_slots slots' M) m f
      rest-rep r' slots' row q =
          object-rep l M m f w v i (Object.Coro t.core t.rest) (Object.Coro t.core r') slots' rep points t.slot
          (λ n. ap (λ j. not (is_finished t.core.state) && eqb j n) row) (λ n e. refl) q

-- ---- a coroutine at a place, whose words are read and written there

module _ (l : Sizes) (M : Lent) (m : Machine) (f : Fuel) (v : ℕ) (w : World) (rep : Rep l w M m f) (i : ℕ) (at : Ok i ≡ place_of (coro_of (slots_of m.count M.slots) v)) where
  pub placed : There w.slots v i (coro_in M.slots i)
  placed = coro-there l M m f v w rep i (coro_in M.slots i) (stands m.count M.slots v i at).coro

  pub placed-words : chunk_at width M.slots i ≡ slot_words (slot (tag_of v) (O.Coro (coro_in M.slots i)))
  placed-words = there-words w.slots v i (coro_in M.slots i) placed M.slots m.count rep.slots

  -- what a word of its slot says is so in the world
  pub reads-state : (coro_in M.slots i).state ≡ placed.core.state
  reads-state = ap (λ (x : CoroObj). x.state) placed.is

  -- its slot is written as that of the changed coroutine: h changes its record as g does the rest
  module _ (g : Rest → Rest) (h : CoroObj → CoroObj) (same : (k : Core) (r : Rest) → h (to_coro k r) ≡ to_coro k (g r)) (row : (r : Rest) → (g r).row ≡ r.row) (slots' : List ℕ)
      (written : slots' ≡ put_slot M.slots i (slot (tag_of v) (O.Coro (h (coro_in M.slots i))))) where
    as-changed : slots' ≡ put_slot M.slots i (slot (tag_of v) (O.Coro (to_coro placed.core (g placed.rest))))
    as-changed = written ∙ ap (λ (x : CoroObj). put_slot M.slots i (slot (tag_of v) (O.Coro x))) (ap h placed.is ∙ same placed.core placed.rest)

    pub marks-rep : Rep l (set_coro v placed.core (g placed.rest) w) (on_slots slots' M) m f
    marks-rep = rest-rep l M m f v w rep i (coro_in M.slots i) placed (g placed.rest) slots' (row placed.rest) as-changed

    pub marks-changed : Rep l (change_as (coro w v) v (λ k. k) g w) (on_slots slots' M) m f
    marks-changed = subst (λ x. Rep l (change_as x v (λ k. k) g w) (on_slots slots' M) m f) (sym placed.coro) marks-rep
