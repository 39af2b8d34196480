-- A coroutine's word after its object is replaced; what a sound machine saves of a resumable one.
use Prim.Native.Nat.{ℕ, zero, suc}
use mathlib.Core.Path.{◌≡◌, refl, sym, ap, subst, ◌∙◌}
use mathlib.Core.Bool.{Bool, true, false, ◌&&◌, true≢false, false≢true}
use mathlib.Core.List.{List, [], ◌∷◌, map, ◌++◌}
use lib.ListN.{length, get_or, set, length-set}
use lib.Seq.{get_or-set_same, set-set}
use lib.Dec.{eqb, ltb}
use Rattle.lists.specs.Pick.{pick, pick_true}
use Rattle.heap.specs.Word.{slot_of, tag_of, class_of}
use Rattle.heap.specs.Table.{Slot, slot, names, get_in, put_object}
use Rattle.heap.specs.declared.value.Obj.{Obj}
use Rattle.heap.specs.declared.value.Class.{Class}
use Rattle.std.specs.Prelude.{Option, Some, None}
use Rattle.heap.specs.declared.object.CoroState.{CoroState}
use Rattle.model.specs.Lists.{is_nil, each}
use Rattle.model.specs.State.{is_resumable}
use Rattle.model.specs.Program.{Setup}
use Rattle.model.specs.Object.{Core, Rest, Object, Absent, Is, is_filled, as_coro}
use Rattle.model.specs.World.{World, with_slots, with_stack, with_frames, with_chain}
use Rattle.model.specs.Frames.{raise}
use Rattle.model.specs.Heap.{object_at, place, coro, set_coro, change_as, change_coro}
use Rattle.model.specs.Coro.{sized, active, in_state, entered}
use Rattle.model.specs.Sound.{body_last, frames_over, waits, saved_in, saved_ok, sound}
use Rattle.model.specs.declared.machine.Driver.{Driver}
use Rattle.model.specs.declared.machine.Frame.{Frame}
use Rattle.claims_sheet.proofs.Choice.{both}
use Rattle.claims_sheet.proofs.Rules.{saved}
use Rattle.claims_sheet.proofs.Among.{and_left, and_right}
use Rattle.claims_sheet.proofs.Found.{vacant, inside}

-- ---- the same word finds what was put

-- a word of the reference class is its own handle
handle : (v : ℕ) (o : Obj) → class_of v ≡ Class.Ref o → o.0 ≡ v
handle v o =
    both (λ (c : Class). c ≡ Class.Ref o → o.0 ≡ v) _ (λ e. cc)
    (both (λ (c : Class). c ≡ Class.Ref o → o.0 ≡ v) _ (λ e. cc)
    (both (λ (c : Class). c ≡ Class.Ref o → o.0 ≡ v) _ (λ e. cc) (λ e. cc)))

module _ (xs : List (Slot Object)) (k k' : Core) (r r' : Rest) where
  abbrev stored : ℕ → List (Slot Object)
  stored v = put_object Object.Empty xs (slot_of v) (Object.Coro k' r')

  abbrev new : ℕ → Slot Object
  new v = slot (get_or xs (slot_of v) vacant).tag (Object.Coro k' r')

  found-there : (v : ℕ) → names Object.Empty is_filled xs v ≡ true → get_or (stored v) (slot_of v) vacant ≡ new v
  found-there v h = get_or-set_same xs (slot_of v) (new v) vacant (inside xs v h)

  still-names : (v : ℕ) → names Object.Empty is_filled xs v ≡ true → names Object.Empty is_filled (stored v) v ≡ true
  still-names v h =
      ap (λ n. ltb (slot_of v) n && (eqb (get_or (stored v) (slot_of v) vacant).tag (tag_of v) && is_filled (get_or (stored v) (slot_of v) vacant).object)) (length-set xs (slot_of v) (new v))
      ∙ (ap (λ (s : Slot Object). ltb (slot_of v) (length xs) && (eqb s.tag (tag_of v) && is_filled s.object)) (found-there v h)
      ∙ again (ltb (slot_of v) (length xs)) (eqb (get_or xs (slot_of v) vacant).tag (tag_of v)) _ h)
    where
      again : (a b c : Bool) → a && (b && c) ≡ true → a && (b && true) ≡ true
      again true true c h = refl
      again true false c h = h
      again false b c h = h

  by_names : (v : ℕ) (b : Bool) → names Object.Empty is_filled xs v ≡ b → as_coro (object_at xs (pick b (Some (slot_of v)) None)) ≡ Is k r →
      as_coro (object_at (stored v) (pick (names Object.Empty is_filled (stored v) v) (Some (slot_of v)) None)) ≡ Is k' r'
  unfolding pick
  by_names v true e h =
      ap (λ b. as_coro (object_at (stored v) (pick b (Some (slot_of v)) None))) (still-names v e) ∙ ap (λ (s : Slot Object). as_coro s.object) (found-there v e)
  by_names v false e h = cc

  by-class : (v : ℕ) (c : Class) → ((o : Obj) → c ≡ Class.Ref o → o.0 ≡ v) → as_coro (object_at xs (get_in Object.Empty is_filled xs c)) ≡ Is k r →
      as_coro (object_at (stored v) (get_in Object.Empty is_filled (stored v) c)) ≡ Is k' r'
  by-class v Class.Nil own h = cc
  by-class v (Class.Ref o) own h =
      subst (λ m. as_coro (object_at (stored m) (get_in Object.Empty is_filled (stored m) (Class.Ref o))) ≡ Is k' r') (own o refl)
      (by_names o.0 (names Object.Empty is_filled xs o.0) refl h)
  by-class v (Class.Int z) own h = cc
  by-class v Class.Opaque own h = cc

-- the coroutine of a word is what was put for it
pub put-get : (v : ℕ) (k k' : Core) (r r' : Rest) (w : World) → coro w v ≡ Is k r → coro (set_coro v k' r' w) v ≡ Is k' r'
put-get v k k' r r' w h = by-class w.slots k k' r r' v (class_of v) (handle v) h

-- put twice is put once; the tag stays

tag_stays : (xs : List (Slot Object)) (i : ℕ) (s : Slot Object) → s.tag ≡ (get_or xs i vacant).tag → (get_or (set xs i s) i vacant).tag ≡ (get_or xs i vacant).tag
tag_stays [] i s e = refl
tag_stays (x ∷ xs) zero s e = e
tag_stays (x ∷ xs) (suc i) s e = tag_stays xs i s e

pub put-put : (xs : List (Slot Object)) (i : ℕ) (o p : Object) → put_object Object.Empty (put_object Object.Empty xs i o) i p ≡ put_object Object.Empty xs i p
put-put xs i o p =
    ap (λ t. set (put_object Object.Empty xs i o) i (slot t p)) (tag_stays xs i (slot (get_or xs i vacant).tag o) refl)
    ∙ set-set xs i (slot (get_or xs i vacant).tag o) (slot (get_or xs i vacant).tag p)

-- an entered coroutine whose rest is then changed is entered with that rest
pub entered-then : (v : ℕ) (d : Driver) (k : Core) (r : Rest) (g : Rest → Rest) (w : World) → coro w v ≡ Is k r → g (sized k r) ≡ sized k (g r) → change_coro v (λ x. x) g (entered v d k r w) ≡ entered v d k (g r) w
entered-then v d k r g w h e =
    let k' = in_state CoroState.Running k in
    ap (λ x. change_as x v (λ y. y) g (entered v d k r w)) (put-get v k k' r (sized k r) (stood w) h)
    ∙ ap (λ (xs : List (Slot Object)). with_slots xs (stood w)) (put-put w.slots (slot_of v) (Object.Coro k' (sized k r)) (Object.Coro k' (g (sized k r))))
    ∙ ap (λ x. set_coro v k' x (stood w)) e
  where
    stood : World → World
    stood u = with_chain (active v (length u.frames) d ∷ u.chain) (with_frames (map (raise (length u.stack)) k.frames ++ u.frames) (with_stack (u.stack ++ k.regs) u))

-- ---- a resumable coroutine of a sound machine has a saved frame

each_at : (p : Slot Object → Bool) (xs : List (Slot Object)) (i : ℕ) → each p xs ≡ true → p vacant ≡ true → p (get_or xs i vacant) ≡ true
each_at p [] i h d = d
each_at p (x ∷ xs) zero h d = and_left (p x) (each p xs) h
each_at p (x ∷ xs) (suc i) h d = each_at p xs i (and_right (p x) (each p xs) h) d

body-stands : (fs : List Frame) → body_last fs ≡ true → is_nil fs ≡ false
body-stands [] h = absurd (false≢true h)
body-stands (f ∷ fs) h = refl

saved-by : (s : Setup) (k : Core) (r : Rest) → saved_in s (Is k r) ≡ true → is_resumable k.state ≡ true → body_last k.frames && frames_over s (length k.regs) k.frames ≡ true
saved-by s k r h e =
    and_left (body_last k.frames && frames_over s (length k.regs) k.frames) (waits k)
    (sym (pick_true _ (is_nil k.frames && is_nil k.regs)) ∙ (sym (ap (λ b. pick b (body_last k.frames && frames_over s (length k.regs) k.frames && waits k) (is_nil k.frames && is_nil k.regs)) e) ∙ h))

saved-at : (w : World) (p : Option ℕ) (k : Core) (r : Rest) → each (λ x. saved_in w.setup (as_coro x.object)) w.slots ≡ true → as_coro (object_at w.slots p) ≡ Is k r → saved_in w.setup (Is k r) ≡ true
saved-at w None k r h e = absurd (none e)
  where
    none : Absent ≡ Is k r → ⊥
    none e = true≢false (cc)
saved-at w (Some i) k r h e = subst (λ x. saved_in w.setup x ≡ true) e (each_at (λ x. saved_in w.setup (as_coro x.object)) w.slots i h refl)

-- its frames end in its body, and lie over its words
pub has_body : (w : World) (v : ℕ) (k : Core) (r : Rest) → sound w ≡ true → coro w v ≡ Is k r → is_resumable k.state ≡ true → body_last k.frames && frames_over w.setup (length k.regs) k.frames ≡ true
unfolding saved_ok
has_body w v k r h e s = saved-by w.setup k r (saved-at w (place w v) k r (saved w h) e) s

pub has-frame : (w : World) (v : ℕ) (k : Core) (r : Rest) → sound w ≡ true → coro w v ≡ Is k r → is_resumable k.state ≡ true → is_nil k.frames ≡ false
has-frame w v k r h e s = body-stands k.frames (and_left (body_last k.frames) _ (has_body w v k r h e s))
