-- What the code tests are the rules of `sound_words`. Assumes nothing.
use mathlib.Core.Path.{◌≡◌, refl, sym, ap, ap₂, ◌∙◌}
use mathlib.Core.Bool.{Bool, true, false, ◌&&◌}
use mathlib.Core.List.{List, [], ◌∷◌}
use Prim.Native.Nat.{ℕ, ◌≤◌}
use lib.ListN.{length, take}
use lib.Seq.{length-take-le}
use Rattle.lists.specs.Pick.{pick, pick_true, pick-false}
use Rattle.heap.specs.Object as HO
use Rattle.heap.specs.Table.{Slot}
use Rattle.heap.specs.Heap.{slots_of, as_coro, coro_of}
use Rattle.heap.specs.declared.object.Object as H
use Rattle.heap.specs.declared.object.Object.TheVariants as O
use Rattle.model.specs.Lists.{each, distinct}
use Rattle.model.specs.Program.{Setup}
use Rattle.model.specs.Object.{Rest, Object, is_filled, Coroutine, Absent}
use Rattle.model.specs.Object as MO
use Rattle.model.specs.Sound.{frames_over, entry_last, frames_ok, entry_ok, floors_ok, drivers_ok, marked}
use Rattle.model.specs.declared.machine.Fuel.{Fuel}
use Rattle.claims_sound.proofs.Point.{coro_in}
use Rattle.memory_tables.specs.Layout.{frame_of}
use Rattle.memory_tables.specs.Parts.{piled}
use Rattle.memory_world.specs.Memory.{Lent}
use Rattle.memory_world.specs.declared.machine.Machine.{Machine}
use Rattle.memory_world.specs.Decode.{setup_of, object_of, objects_of, world_of}
use Rattle.memory_sound.specs.Words.{rest_ok, frames_held, chain_held}
use Rattle.check_tables.specs.Frames.{stack_frames_ok}
use Rattle.check_tables.specs.Chain.{chain_ok}
use Rattle.check_tables.specs.Queue.{by_coro, mark_of, queue_held}
use Rattle.check_tables.specs.Rules.{Decided}
use Rattle.check_tables.proofs.Named.{test-same}

pub each_same : (p q : ℕ → Bool) → ((v : ℕ) → p v ≡ q v) → (xs : List ℕ) → each p xs ≡ each q xs
each_same p q h [] = refl
each_same p q h (x ∷ xs) = ap₂ (λ a b. a && b) (h x) (each_same p q h xs)

module _ (s : Setup) (M : Lent) where
  pub filled : (o : H.Object) → is_filled (object_of s M o) ≡ HO.is_filled o
  filled O.Empty = refl
  filled (O.Func f) = refl
  filled (O.Int n) = refl
  filled (O.Iter c d k) = refl
  filled (O.Error e f p v) = refl
  filled (O.Coro c) = refl

  task-of : (o : H.Object) → marked (λ r. r.task) (MO.as_coro (object_of s M o)) ≡ by_coro (mark_of true) (as_coro 0 o)
  task-of O.Empty = refl
  task-of (O.Func f) = refl
  task-of (O.Int n) = refl
  task-of (O.Iter c d k) = refl
  task-of (O.Error e f p v) = refl
  task-of (O.Coro c) = sym (pick_true c.task c.finalized)

  cleanup-of : (o : H.Object) → marked (λ r. r.finalized) (MO.as_coro (object_of s M o)) ≡ by_coro (mark_of false) (as_coro 0 o)
  cleanup-of O.Empty = refl
  cleanup-of (O.Func f) = refl
  cleanup-of (O.Int n) = refl
  cleanup-of (O.Iter c d k) = refl
  cleanup-of (O.Error e f p v) = refl
  cleanup-of (O.Coro c) = sym (pick-false c.task c.finalized)

  module _ (task : Bool) (mark : Rest → Bool) (agree : (o : H.Object) → marked mark (MO.as_coro (object_of s M o)) ≡ by_coro (mark_of task) (as_coro 0 o)) (ys : List (Slot H.Object)) (q : List ℕ) (n : ℕ) where
    queue-rule : queue_held task ys q n ≡ ((each (λ v. marked mark (coro_in (objects_of s M ys) v)) (take n q) && distinct (take n q)) && rest_ok q n)
    queue-rule =
        ap (λ t. (t && distinct (take n q)) && rest_ok q n)
        (each_same (λ v. by_coro (mark_of task) (coro_of ys v)) (λ v. marked mark (coro_in (objects_of s M ys) v))
        (λ v. sym (test-same (object_of s M) filled refl (mark_of task) (marked mark) agree refl ys v)) (take n q))

module _ (M : Lent) (m : Machine) (f : Fuel) where
  frames-rule : m.height ≤ length M.stack → stack_frames_ok (setup_of M.setup) M.frames m.depth m.height ≡ (frames_held M.frames m.depth && frames_ok (world_of M m f) && entry_ok (world_of M m f))
  unfolding frames_ok entry_ok
  frames-rule h =
      let fs = piled 6 frame_of m.depth M.frames in
      ap (λ k. frames_held M.frames m.depth && frames_over (setup_of M.setup) k fs && entry_last fs) (sym (length-take-le m.height M.stack h))

  chain-rule : chain_ok M.chain m.active M.frames m.depth ≡ (chain_held M.chain m.active && floors_ok (world_of M m f) && drivers_ok (world_of M m f))
  unfolding floors_ok drivers_ok
  chain-rule = refl

  pub decided : Decided M m f
  decided =
      let s = setup_of M.setup in
      let ys = slots_of m.count M.slots in
      record {
        room = refl;
        counts = refl;
        frames = frames-rule;
        chain = chain-rule;
        ready = queue-rule s M true (λ r. r.task) (task-of s M) ys M.ready m.ready;
        finalize = queue-rule s M false (λ r. r.finalized) (cleanup-of s M) ys M.finalize m.finalize;
      }
