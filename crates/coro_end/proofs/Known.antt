-- What soundness tells of the worlds that deliveries and ends are called on: the rows, and the driver's registers. Assumes nothing.
use mathlib.Core.Path.{◌≡◌, refl, sym, ◌∙◌, subst}
use mathlib.Core.Bool.{Bool, true, false}
use mathlib.Core.List.{List, [], ◌∷◌}
use Prim.Native.Nat.{ℕ, zero, suc, ◌^◌, ◌<◌, zero-le}
use native.Mathlib.Omega.{arith}
use lib.ListN.{length, set, take}
use lib.Seq.{length-take-le}
use lib.Dec.{ltb}
use borrow.Author.Tests.{ltb-true, le-leb}
use Rattle.heap.specs.Word.{slot_of}
use Rattle.heap.specs.Table.{Slot, slot}
use Rattle.heap.specs.declared.object.CoroState.{CoroState}
use Rattle.model.specs.Lists.{each}
use Rattle.model.specs.State.{is_finished}
use Rattle.model.specs.Program.{Setup, is_function}
use Rattle.model.specs.Object.{Core, Rest, Object, Is, as_coro}
use Rattle.model.specs.World.{World}
use Rattle.model.specs.Frames.{is_coro, top_pc, pop_to}
use Rattle.model.specs.Coro.{in_state, ended, finish_coroutine}
use Rattle.model.specs.Sound.{row_words, saved_sizes, frame_names, sound}
use Rattle.model.specs.declared.machine.Active.{Active}
use Rattle.model.specs.declared.machine.Frame.{Frame}
use Rattle.claims_sound.proofs.Tests.{no_false, no_true, and_left, and_right, both}
use Rattle.claims_sound.proofs.Point.{at, Points, finds}
use Rattle.claims_sound.proofs.Held.{Rows}
use Rattle.claims_sound.proofs.Slots.{freed-rows}
use Rattle.claims_sound.proofs.Stand.{Stands, plain, body, names_of}
use Rattle.claims_sound.proofs.Tower.{stands-within}
use Rattle.claims_sound.proofs.Sound.{Sound, sound→}
use Rattle.claims_sound.proofs.Coros.{changed}
use Rattle.memory_world.specs.Memory.{Lent, Beside, Rep}
use Rattle.memory_world.specs.declared.machine.Machine.{Machine}
use Rattle.memory_world.specs.declared.machine.Sizes.{Sizes}
use Rattle.coro_end.specs.Finish.{FinishFits}
use Rattle.coro_end.specs.Returned.{last_lies, ReturnFits}
use Rattle.coro_end.proofs.Ending.{sound-rowed}
use Rattle.memory_world.specs.Rows.{Rowed}

-- ---- the rows stay in order when a coroutine ends

each_set : {A : Type 0} (p : A → Bool) (xs : List A) (i : ℕ) (y : A) → each p xs ≡ true → p y ≡ true → each p (set xs i y) ≡ true
each_set p [] i y h e = refl
each_set p (x ∷ xs) zero y h e = both e (and_right (p x) (each p xs) h)
each_set p (x ∷ xs) (suc i) y h e = both (and_left (p x) (each p xs) h) (each_set p xs i y (and_right (p x) (each p xs) h) e)

ended-fits : (u : Setup) (s : CoroState) (result : ℕ) (k : Core) (r : Rest) → saved_sizes u (Is (in_state s k) (ended result r)) ≡ true
ended-fits u s result k r = both (both (both (le-leb 0 (row_words u) zero-le) (le-leb 0 u.limits.depth zero-le)) (le-leb 0 (row_words u) zero-le)) (le-leb 0 u.limits.depth zero-le)

pub finish-rowed : (v : ℕ) (s : CoroState) (result : ℕ) (w : World) → is_finished s ≡ true → Rowed w.setup w.slots → Rowed w.setup (finish_coroutine v s result w).slots
finish-rowed v s result w e h =
    changed (λ x. Rowed w.setup x.slots) w v (in_state s) (ended result) h
    (λ k r q.
    let p : Points w.slots v (Object.Coro k r) = finds w.slots v k r q in
    let rows : Rows w.setup w.slots = record { inside = h.inside; own = h.own } in
    let left = freed-rows p (in_state s k) (ended result r) rows e in
    record {
      own = left.own;
      inside = left.inside;
      saved =
          each_set (λ (x : Slot Object). saved_sizes w.setup (as_coro x.object)) w.slots (slot_of v)
          (slot (at w.slots (slot_of v)).tag (Object.Coro (in_state s k) (ended result r))) h.saved (ended-fits w.setup s result k r);
    })

-- ---- the driver's registers

top-pc : (u : Setup) (fs : List Frame) → each (frame_names u) fs ≡ true → top_pc fs < 2 ^ 32
top-pc u [] e = omega arith
top-pc u (f ∷ fs) e = ltb-true f.pc (2 ^ 32) (and_right (is_function u f.func) (ltb f.pc (2 ^ 32)) (and_left (frame_names u f) (each (frame_names u) fs) e))

-- they lie in the frames fs over n words, whose top frame has a pc of 32 bits
pub record Lies (chain : List Active) (n : ℕ) (fs : List Frame) : Type 0 where
  pub registers : last_lies chain n fs ≡ true
  pub pc : top_pc fs < 2 ^ 32

-- of the frame below a body
body-lies : {u : Setup} {n : ℕ} {f : Frame} {fs : List Frame} {chain : List Active} → is_coro f.cont ≡ true → Stands false u n (f ∷ fs) chain → Lies chain f.base fs
body-lies c (plain q e t r) = no_true (sym c ∙ q)
body-lies {u} {fs} c (body q t k d r) = record { registers = d; pc = top-pc u fs (names_of u r) }

module _ (w : World) (snd : sound w ≡ true) where
  known : Sound false w
  known = sound→ w snd (λ z. no_false z)

  -- a coroutine may end
  pub finish-asks : (l : Sizes) (M : Beside → Lent) (m : Machine) (b : Beside) (s : CoroState) → is_finished s ≡ true → Rep l w (M b) m b.fuel → FinishFits l M m s
  finish-asks l M m b s e rep = record { held = record { world = w; beside = b; rep = rep; known = sound-rowed w snd }; ends = e }

  -- after the body's frame was popped
  module _ (x : Frame) (xs : List Frame) (fr : w.frames ≡ x ∷ xs) (c : is_coro x.cont ≡ true) where
    stood : Stands false w.setup (length w.stack) (x ∷ xs) w.chain
    stood = subst (λ fs. Stands false w.setup (length w.stack) fs w.chain) fr known.tower.stands

    pub popped-lies : Lies w.chain (length (take x.base w.stack)) xs
    popped-lies = subst (λ n. Lies w.chain n xs) (sym (length-take-le x.base w.stack (stands-within stood).within)) (body-lies c stood)

    pub return_asks : (l : Sizes) (M : Beside → Lent) (m : Machine) (b : Beside) → Rep l (pop_to x xs w) (M b) m b.fuel → ReturnFits l M m
    return_asks l M m b rep =
        record { held = record { world = pop_to x xs w; beside = b; rep = rep; known = sound-rowed w snd }; lies = popped-lies.registers; pc = popped-lies.pc }
