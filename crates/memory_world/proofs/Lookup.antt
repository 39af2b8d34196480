-- A coroutine that the lower crate finds in the words is the one that the word names in the world, and its row. Assumes nothing.
use mathlib.Core.Logic.{◌≢◌}
use mathlib.Core.Path.{◌≡◌, refl, sym, ap, ap₂, ◌∙◌}
use mathlib.Core.Bool.{Bool, true, false, not, ◌&&◌}
use mathlib.Core.List.{List, []}
use Prim.Native.Nat.{ℕ, ◌%◌, ◌^◌, ◌<◌}
use native.Mathlib.Omega.{arith}
use lib.ListN.{length, get_or, set, length-map}
use lib.Dec.{eqb, ltb}
use borrow.Author.Tests.{eq-eqb, ne_eqb, ltb-true}
use Rattle.lists.specs.Pick.{pick}
use Rattle.lists.proofs.Tests.{never, and-false}
use Rattle.lists.specs.Chunks.{chunk_at}
use Rattle.lists.proofs.Results.{ok-same}
use Rattle.heap.specs.Word.{nil, slot_of, tag_of, top_of, class_of}
use Rattle.heap.specs.Slot.{slot_words, width}
use Rattle.heap.specs.Coding.{bits_of, of_bits}
use Rattle.heap.specs.Table.{Slot, slot, names, get, get_in, not_a, put_object}
use Rattle.heap.specs.Heap.{as_coro, coro_by, coro_of}
use Rattle.heap.specs.declared.value.Class.{Class}
use Rattle.std.specs.Prelude.{Option, Result, Some, None, Ok, Err}
use Rattle.heap.specs.declared.fault.Fault.{Fault}
use Rattle.heap.specs.declared.object.CoroObj.{CoroObj}
use Rattle.heap.specs.declared.object.Object as H
use Rattle.heap.specs.declared.object.Object.TheVariants as O
use Rattle.model.specs.Lists.{each, distinct}
use Rattle.model.specs.State.{is_finished}
use Rattle.model.specs.Object.{Core, Rest, Object, is_filled, Coroutine, Absent, Is}
use Rattle.model.specs.Object as M
use Rattle.model.specs.Heap.{object_at}
use Rattle.model.specs.Rows.{held_rows}
use Rattle.claims_sound.proofs.Point.{at, coro_in, Points, finds}
use Rattle.claims_sound.proofs.Tests.{among-each}
use Rattle.memory_world.specs.Slots.{to_coro, to_object, to_slot, to_slots}
use Rattle.memory_world.specs.Rows.{owns, saved_by, row_at}
use Rattle.memory_world.specs.Memory.{Slots, regs_rows, frames_rows}
use Rattle.memory_world.proofs.Slots.{at_map, get-same}
use Rattle.memory_world.proofs.Rows.{held_at, row_is, row-own, row_other}
use Rattle.memory_world.proofs.Tables.{slot-words, rows_at, rows-set}

-- ---- none is found

pub record Lacks (xs : List (Slot Object)) (v : ℕ) (f : Fault) : Type 0 where
  pub coro : coro_in xs v ≡ Absent
  pub fault : f ≡ not_a (class_of v) (get Object.Empty is_filled xs v)

-- a coroutine in the world, at the slot that the word tells
pub record There (xs : List (Slot Object)) (v i : ℕ) (c : CoroObj) : Type 0 where
  pub core : Core
  pub rest : Rest
  pub coro : coro_in xs v ≡ Is core rest
  pub is : c ≡ to_coro core rest
  pub slot : i ≡ slot_of v

module _ (xs : List (Slot Object)) (v : ℕ) where
  -- the fault of a word that finds an object of another kind
  pub found-fault : (k : Class) (i : ℕ) → get_in Object.Empty is_filled xs k ≡ Some i → not_a k (Some i) ≡ Fault.TypeError
  found-fault Class.Nil i e = never cc
  found-fault (Class.Ref o) i e = refl
  found-fault (Class.Int n) i e = refl
  found-fault Class.Opaque i e = refl

  by_name : (t : Bool) (i : ℕ) → pick t (Some (slot_of v)) None ≡ Some i → i ≡ slot_of v
  unfolding pick
  by_name true i e = cc
  by_name false i e = never cc

  by-class : (a b c : Bool) (z i : ℕ) → get_in Object.Empty is_filled xs (pick a Class.Nil (pick b (Class.Ref (record { 0 = v })) (pick c (Class.Int z) Class.Opaque))) ≡ Some i → i ≡ slot_of v
  unfolding pick
  by-class true b c z i e = never cc
  by-class false true c z i e = by_name (names Object.Empty is_filled xs v) i e
  by-class false false true z i e = never cc
  by-class false false false z i e = never cc

  -- the slot of a word that finds one
  pub place-slot : (i : ℕ) → get Object.Empty is_filled xs v ≡ Some i → i ≡ slot_of v
  place-slot i e = by-class (eqb v nil) (eqb (top_of v) 1) (eqb (top_of v) 0xFFFE) (bits_of 63 (of_bits 47 (v % 2 ^ 48))) i e

  here : (f : Result (ℕ × CoroObj) Fault) → f ≡ coro_of (to_slots xs) v → f ≡ coro_by (to_slots xs) v (get Object.Empty is_filled xs v)
  here f e = e ∙ ap (coro_by (to_slots xs) v) (get-same xs v)

  other : (o : Object) (i : ℕ) (f : Fault) → Err f ≡ as_coro i (to_object o) → (M.as_coro o ≡ Absent) × (f ≡ Fault.TypeError)
  other Object.Empty i f e = (refl, cc)
  other (Object.Func x) i f e = (refl, cc)
  other (Object.Int x) i f e = (refl, cc)
  other (Object.Iter s d x) i f e = (refl, cc)
  other (Object.Error a b p x) i f e = (refl, cc)
  other (Object.Coro k r) i f e = never cc

  pub lacks : (f : Fault) → Err f ≡ coro_of (to_slots xs) v → Lacks xs v f
  lacks f e = go (get Object.Empty is_filled xs v) refl (here (Err f) e)
    where
      go : (p : Option ℕ) → get Object.Empty is_filled xs v ≡ p → Err f ≡ coro_by (to_slots xs) v p → Lacks xs v f
      go None q e =
          let z : f ≡ not_a (class_of v) None = cc in
          record { coro = ap (λ p. M.as_coro (object_at xs p)) q; fault = z ∙ ap (not_a (class_of v)) (sym q) }
      go (Some i) q e =
          let z = other (at xs i).object i f (e ∙ ap (λ (x : Slot H.Object). as_coro i x.object) (at_map xs i)) in
          record { coro = ap (λ p. M.as_coro (object_at xs p)) q ∙ z.0; fault = z.1 ∙ sym (found-fault (class_of v) i q) ∙ ap (not_a (class_of v)) (sym q) }

  module _ (i : ℕ) (c : CoroObj) where
    record Inside (o : Object) (j : ℕ) : Type 0 where
      core : Core
      rest : Rest
      object : M.as_coro o ≡ Is core rest
      is : c ≡ to_coro core rest
      slot : i ≡ j

    inside : (o : Object) (j : ℕ) → Ok (i, c) ≡ as_coro j (to_object o) → Inside o j
    inside Object.Empty j e = never cc
    inside (Object.Func x) j e = never cc
    inside (Object.Int x) j e = never cc
    inside (Object.Iter s d x) j e = never cc
    inside (Object.Error a b p x) j e = never cc
    inside (Object.Coro k r) j e =
        let same = ok-same e in
        record { core = k; rest = r; object = refl; is = ap (λ (p : ℕ × CoroObj). p.1) same; slot = ap (λ (p : ℕ × CoroObj). p.0) same }

    pub there : Ok (i, c) ≡ coro_of (to_slots xs) v → There xs v i c
    there e = go (get Object.Empty is_filled xs v) refl (here (Ok (i, c)) e)
      where
        go : (p : Option ℕ) → get Object.Empty is_filled xs v ≡ p → Ok (i, c) ≡ coro_by (to_slots xs) v p → There xs v i c
        go None q e = never cc
        go (Some j) q e =
            let z = inside (at xs j).object j (e ∙ ap (λ (x : Slot H.Object). as_coro j x.object) (at_map xs j)) in
            record { core = z.core; rest = z.rest; coro = ap (λ p. M.as_coro (object_at xs p)) q ∙ z.object; is = z.is; slot = z.slot ∙ place-slot j q }

-- the words of its slot
pub there-words : (xs : List (Slot Object)) (v i : ℕ) (c : CoroObj) → There xs v i c → (ws : List ℕ) (n : ℕ) → Slots (to_slots xs) ws n → chunk_at width ws i ≡ slot_words (slot (tag_of v) (O.Coro c))
there-words xs v i c t ws n s =
    let p : Points xs v (Object.Coro t.core t.rest) = finds xs v t.core t.rest t.coro in
    let q = p.inside in
    let e₁ = s.count in
    let e₂ : length (to_slots xs) ≡ length xs = length-map xs to_slot in
    let e₃ = t.slot in
    slot-words (to_slots xs) ws n i s (omega arith)
    ∙ ap (λ j. slot_words (get_or (to_slots xs) j (slot 0 O.Empty))) t.slot
    ∙ ap slot_words (at_map xs (slot_of v))
    ∙ ap₂ (λ a o. slot_words (slot a (to_object o))) p.tag p.here
    ∙ ap (λ (x : CoroObj). slot_words (slot (tag_of v) (O.Coro x))) (sym t.is)

-- ---- its row

owns-row : (k : Core) (r : Rest) (n : ℕ) → is_finished k.state ≡ false → r.row ≡ n → owns n (Is k r) ≡ true
owns-row k r n e q = ap₂ (λ a b. not a && b) e (eq-eqb r.row n q)

owns-other : (k : Core) (r : Rest) (n : ℕ) → n ≢ r.row → owns n (Is k r) ≡ false
owns-other k r n h = ap (λ b. not (is_finished k.state) && b) (ne_eqb r.row n (λ z. h (sym z))) ∙ and-false (not (is_finished k.state))

module _ (xs : List (Slot Object)) (v : ℕ) (k : Core) (r : Rest) (p : Points xs v (Object.Coro k r)) (own : distinct (held_rows xs) ≡ true) (live : is_finished k.state ≡ false) where
  owner : (n : ℕ) → n ≡ r.row → owns n (M.as_coro (at xs (slot_of v)).object) ≡ true
  owner n e = ap (λ o. owns n (M.as_coro o)) p.here ∙ owns-row k r n live (sym e)

  -- what its row holds
  pub row-holds : row_at r.row xs ≡ saved_by (Is k r)
  row-holds = row_is xs (slot_of v) r.row own (owner r.row refl) ∙ ap (λ o. saved_by (M.as_coro o)) p.here

  pub regs-row : (n : ℕ) → r.row < n → get_or (regs_rows n xs) r.row [] ≡ k.regs
  regs-row n h = rows_at (λ i. (row_at i xs).regs) n r.row [] h ∙ ap (λ q. q.regs) row-holds

  pub frames-row : (n : ℕ) → r.row < n → get_or (frames_rows n xs) r.row [] ≡ k.frames
  frames-row n h = rows_at (λ i. (row_at i xs).frames) n r.row [] h ∙ ap (λ q. q.frames) row-holds

  -- there is such a row
  pub row_below : (n : ℕ) → each (λ row. ltb row n) (held_rows xs) ≡ true → r.row < n
  row_below n h = ltb-true r.row n (among-each (λ row. ltb row n) r.row (held_rows xs) h (held_at xs (slot_of v) r.row (owner r.row refl)))

  -- it is replaced by an unfinished one with the same row
  module _ (k' : Core) (r' : Rest) (same : r'.row ≡ r.row) (live' : is_finished k'.state ≡ false) where
    abbrev after : List (Slot Object)
    after = put_object Object.Empty xs (slot_of v) (Object.Coro k' r')

    own_row : row_at r.row after ≡ saved_by (Is k' r')
    own_row = row-own xs (slot_of v) r.row (slot (at xs (slot_of v)).tag (Object.Coro k' r')) p.inside own (owner r.row refl) (owns-row k' r' r.row live' same)

    other_row : (j : ℕ) → j ≢ r.row → row_at j after ≡ row_at j xs
    other_row j d =
        row_other xs (slot_of v) j (slot (at xs (slot_of v)).tag (Object.Coro k' r'))
        (ap (λ o. owns j (M.as_coro o)) p.here ∙ owns-other k r j d) (owns-other k' r' j (λ z. d (z ∙ same)))

    pub regs-set : (n : ℕ) → set (regs_rows n xs) r.row k'.regs ≡ regs_rows n after
    regs-set n = rows-set (λ i. (row_at i xs).regs) (λ i. (row_at i after).regs) n r.row k'.regs (ap (λ q. q.regs) own_row) (λ j d. ap (λ q. q.regs) (other_row j d))

    pub frames-set : (n : ℕ) → set (frames_rows n xs) r.row k'.frames ≡ frames_rows n after
    frames-set n = rows-set (λ i. (row_at i xs).frames) (λ i. (row_at i after).frames) n r.row k'.frames (ap (λ q. q.frames) own_row) (λ j d. ap (λ q. q.frames) (other_row j d))
