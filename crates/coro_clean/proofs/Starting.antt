-- A cleanup that starts, or none, on the world: what the code may rely on, and what each outcome leaves. Assumes nothing.
use mathlib.Core.Path.{◌≡◌, refl, sym, ap, ap₂, ◌∙◌, subst}
use mathlib.Core.Bool.{Bool, true, false, ◌&&◌}
use mathlib.Core.List.{List, [], ◌∷◌, ◌++◌, append-nil}
use Prim.Native.Nat.{ℕ, zero, suc, ◌+◌, ◌-◌, ◌≤◌, ◌<◌}
use native.Mathlib.Omega.{arith}
use native.Mathlib.Nat.{sub_self}
use native.Mathlib.Numerals.{add-one}
use lib.ListN.{length, get_or, take, drop, replicate}
use lib.Seq.{take_at}
use Rattle.heap.specs.Word.{nil}
use Rattle.heap.specs.Heap.{slots_of, coro_of}
use Rattle.heap.specs.Table.{Slot}
use Rattle.std.specs.Prelude.{Result, Err}
use Rattle.heap.specs.declared.fault.Fault.{Fault}
use Rattle.heap.specs.declared.object.CoroObj.{CoroObj}
use Rattle.model.specs.State.{is_suspended}
use Rattle.model.specs.Object.{Rest, Object}
use Rattle.model.specs.World.{World, After, after, with_finalize}
use Rattle.model.specs.Heap.{coro, change_coro}
use Rattle.model.specs.Fuel.{unbank_at, unbank, set_finalizing}
use Rattle.model.specs.Coro.{coro_enter}
use Rattle.model.specs.Cleanup.{coro_suspended, is_entered, close, started, start_finalizer}
use Rattle.model.specs.Sound.{sound}
use Rattle.model.specs.declared.coro.Started.{Started}
use Rattle.model.specs.declared.machine.Driver.{Driver}
use Rattle.model.specs.declared.machine.Fuel.{Fuel}
use Rattle.claims_sound.proofs.Tests.{no_false}
use Rattle.claims_sound.proofs.Queue as I
use Rattle.claims_sound.proofs.Sound.{Sound, sound→, →sound}
use Rattle.claims_sound.proofs.Coros.{cleanups-sound, unbank-sound}
use Rattle.memory_tables.specs.Parts.{Queue, Run}
use Rattle.memory_tables.specs.Does.{QueueDo}
use Rattle.memory_tables.proofs.Parts.{run_of}
use Rattle.memory_world.specs.Memory.{Lent, Beside, Rep, on_finalize}
use Rattle.memory_world.specs.Lendings.{plain, lent, cleaning}
use Rattle.memory_world.specs.Contract.{Ok, Does, only, with}
use Rattle.memory_world.specs.Numbers.{with_cleanups}
use Rattle.memory_world.specs.declared.machine.Machine.{Machine}
use Rattle.memory_world.specs.declared.machine.Sizes.{Sizes}
use Rattle.memory_world.proofs.Does.{room-same}
use Rattle.memory_world.proofs.Turn.{turn-finalize}
use Rattle.memory_world.proofs.Slotted.{coro-absent, coro-there}
use Rattle.machine_state.proofs.Flags.{unbank-rep}
use Rattle.coro_enter.proofs.Accepts.{accepts-if}
use Rattle.coro_clean.specs.Start.{first_of, starts_as, starts, SearchFits, start_none, start_at}
use Rattle.coro_clean.proofs.Search.{first-most, test, starts_none, starts-at}

-- ---- a queue in words

-- its words are the first ones
pub queue-front : (xs ws : List ℕ) (n : ℕ) → Queue xs ws n → take n ws ≡ xs
queue-front xs ws n q = ap (take n) q.are ∙ take_at xs (replicate (length ws - length xs) 0) n (sym q.count)

-- words that are full
run-full : (xs : List ℕ) → Run xs xs (length xs)
run-full xs = run_of (length xs) xs xs (length xs) (sym (ap (λ k. xs ++ replicate {A = ℕ} k 0) (sub_self (length xs)) ∙ append-nil xs)) refl (omega arith)

-- ---- the search's test is the definition's

module _ (l : Sizes) (M : Lent) (m : Machine) (f : Fuel) (w : World) (rep : Rep l w M m f) where
  pub test-same : (c : ℕ) (queue : List ℕ) → test w c queue ≡ starts M.slots m l c
  test-same c queue = go (coro_of (slots_of m.count M.slots) c) refl
    where
      go : (x : Result (ℕ × CoroObj) Fault) → coro_of (slots_of m.count M.slots) c ≡ x → test w c queue ≡ starts_as m l x
      go (Err g) e = ap (λ k. coro_suspended k && is_entered (coro_enter c Driver.Finalize (with_finalize queue w)).answer) (coro-absent l M m f c w rep g (sym e))
      go (Result.Ok (i, o)) e =
          let t = coro-there l M m f c w rep i o (sym e) in
          let shorter = turn-finalize l w M m f rep queue queue (length queue) (run-full queue) in
          ap₂ (λ a b. a && b) (ap coro_suspended t.coro ∙ ap (λ (x : CoroObj). is_suspended x.state) (sym t.is))
          (accepts-if l (on_finalize queue M) (with_cleanups (length queue) m) f c (with_finalize queue w) shorter i o (sym e) Driver.Finalize)

-- ---- fewer words in the queue

queue-drop : (mark : Rest → Bool) {xs : List (Slot Object)} (k : ℕ) (q : List ℕ) → I.Queue mark xs q → I.Queue mark xs (drop k q)
queue-drop mark zero q h = h
queue-drop mark (suc k) [] h = h
queue-drop mark (suc k) (v ∷ q) h = queue-drop mark k q (I.queue-tail mark h)

pub fewer-sound : (w : World) (k : ℕ) → sound w ≡ true → sound (with_finalize (drop k w.finalize) w) ≡ true
fewer-sound w k snd =
    let h : Sound false w = sound→ w snd (λ z. no_false z) in
    →sound (with_finalize (drop k w.finalize) w) (cleanups-sound (drop k w.finalize) w (queue-drop (λ r. r.finalized) k w.finalize h.cleanups) h)

pub unbank-sounds : (w : World) → sound w ≡ true → sound (unbank w) ≡ true
unbank-sounds w snd = →sound {ex = false} (unbank w) (unbank-sound w (sound→ w snd (λ z. no_false z)))

-- ---- what is left

none_left : (xs : List ℕ) (n : ℕ) → n ≡ length xs → drop n xs ≡ []
none_left xs n e = ap (λ k. drop k xs) e ∙ go xs
  where
    go : (ys : List ℕ) → drop (length ys) ys ≡ []
    go [] = refl
    go (y ∷ ys) = go ys

module _ (l : Sizes) (M : Lent) (m : Machine) (f : Fuel) (w : World) (rep : Rep l w M m f) where
  -- words are taken off the front
  pub fewer-rep : (k n : ℕ) (ws : List ℕ) → QueueDo (drop k) M.finalize ws m.finalize n → Rep l (with_finalize (drop k w.finalize) w) (on_finalize ws M) (with_cleanups n m) f
  fewer-rep k n ws takes = turn-finalize l w M m f rep (drop k w.finalize) ws n (takes w.finalize rep.finalize)

  -- all of them
  pub none-rep : (ws : List ℕ) → QueueDo (drop m.finalize) M.finalize ws m.finalize (m.finalize - m.finalize) → Rep l (with_finalize [] w) (on_finalize ws M) (with_cleanups 0 m) f
  none-rep ws takes =
      turn-finalize l w M m f rep [] ws 0
      (subst (λ n. Queue [] ws n) (sub_self m.finalize) (subst (λ xs. Queue xs ws (m.finalize - m.finalize)) (none_left w.finalize m.finalize rep.finalize.count) (takes w.finalize rep.finalize)))

  pub none-does : (M' : Lent) (n : Machine) (g : Fuel) → Rep l (set_finalizing false (with_finalize [] w)) M' n g → Does l (start_none w) M' n g (started false m.finalize)
  none-does M' n g r = record { world = r; answer = ap (started false) rep.finalize.count }

  pub start-does : (i v : ℕ) (M' : Lent) (n : Machine) (g : Fuel) → v ≡ get_or w.finalize i 0
      → Rep l (set_finalizing true (change_coro v (λ k. k) (close nil) (coro_enter v Driver.Finalize (with_finalize (drop (i + 1) w.finalize) w)).world)) M' n g
      → Does l (start_at i w) M' n g (started true (i + 1))
  start-does i v M' n g e r =
      record {
        world =
            subst (λ k. Rep l (set_finalizing true (change_coro (get_or w.finalize i 0) (λ x. x) (close nil) (coro_enter (get_or w.finalize i 0) Driver.Finalize (with_finalize (drop k w.finalize) w)).world)) M' n g) (add-one i)
            (subst (λ c. Rep l (set_finalizing true (change_coro c (λ k. k) (close nil) (coro_enter c Driver.Finalize (with_finalize (drop (i + 1) w.finalize) w)).world)) M' n g) e r);
        answer = ap (started true) (add-one i);
      }

-- ---- the whole, after the fuel was taken back

module _ (l : Sizes) (M : Lent) (m : Machine) (f : Fuel) (w : World) (rep : Rep l (unbank w) M m f) (i : ℕ)
    (found : i ≡ first_of (starts M.slots m l) (take m.finalize M.finalize)) where
  first-is : first_of (starts M.slots m l) w.finalize ≡ i
  first-is = ap (first_of (starts M.slots m l)) (sym (queue-front w.finalize M.finalize m.finalize rep.finalize)) ∙ sym found

  pub finalizer-at : (M' : Lent) (n : Machine) (g : Fuel) (a : Started) → i < m.finalize → Does l (start_at i (unbank w)) M' n g a → Does l (start_finalizer w) M' n g a
  finalizer-at M' n g a h d =
      let k = rep.finalize.count in
      subst (λ o. Does l o M' n g a) (sym (starts-at w (starts M.slots m l) (test-same l M m f (unbank w) rep) i first-is (omega arith))) d

  pub finalizer-none : (M' : Lent) (n : Machine) (g : Fuel) (a : Started) → m.finalize ≤ i → Does l (start_none (unbank w)) M' n g a → Does l (start_finalizer w) M' n g a
  finalizer-none M' n g a h d =
      let k = rep.finalize.count in
      let e = first-is in
      let t = first-most (starts M.slots m l) w.finalize in
      subst (λ o. Does l o M' n g a) (sym (starts_none w (starts M.slots m l) (test-same l M m f (unbank w) rep) (omega arith))) d

-- ---- what the next call may rely on

pub search-fits : (l : Sizes) (M : Lent) (m : Machine) (f : Fuel) (w : World) → Rep l w M m f → sound w ≡ true → SearchFits M.slots M.finalize m l
search-fits l M m f w rep snd =
    let h : Sound false w = sound→ w snd (λ z. no_false z) in
    let a = h.tower.depth in
    let b = h.tower.height in
    let e₁ = rep.frames.count in
    let e₂ = rep.stack.count in
    let z₁ = rep.sizes.depth in
    let z₂ = rep.sizes.stack in
    record { may = record { table = rep.slots.within; depth = omega arith; height = omega arith }; words = rep.finalize.within }

pub unbank-ok : (l : Sizes) (M : Beside → Lent) (m : Machine) (f g : Fuel) → g ≡ unbank_at f.bank f → Ok l M (with m f) → Ok l M (with m g)
unbank-ok l M m f g e o =
    record {
      world = unbank o.world;
      beside = o.beside;
      rep = unbank-rep l (M o.beside) m f o.world o.rep g e;
      sound = unbank-sounds o.world o.sound;
      room = o.room;
    }

module _ (l : Sizes) (m : Machine) (f : Fuel) (stack frames chain slots saved_stack saved_frames finalize finalize' : List ℕ) where
  pub fewer-ok : (k n : ℕ) → Ok l (cleaning stack frames chain slots saved_stack saved_frames finalize plain) (with m f) → QueueDo (drop k) finalize finalize' m.finalize n → length finalize' ≡ length finalize
      → Ok l (lent stack frames chain slots saved_stack saved_frames) (only (with_cleanups n m))
  fewer-ok k n o takes e =
      let b : Beside = record { words = on_finalize finalize' o.beside.words; fuel = f } in
      let M = cleaning stack frames chain slots saved_stack saved_frames finalize plain o.beside in
      let u = with_finalize (drop k o.world.finalize) o.world in
      record {
        world = u;
        beside = b;
        rep = fewer-rep l M m f o.world o.rep k n finalize' takes;
        sound = fewer-sound o.world k o.sound;
        room =
            room-same o.world.setup u.setup M (lent stack frames chain slots saved_stack saved_frames b) refl
            (record { stack = refl; frames = refl; chain = refl; slots = refl; saved_stack = refl; saved_frames = refl; ready = refl; finalize = e; setup = refl }) o.room;
      }
