-- A coroutine joins a queue, or does not, on the world. Assumes nothing.
use mathlib.Core.Path.{◌≡◌, refl, sym, ap, ap₂, ◌∙◌, subst}
use mathlib.Core.Bool.{Bool, true, false, not, ◌&&◌, ◌||◌}
use mathlib.Core.List.{List, [], ◌∷◌, ◌++◌}
use Prim.Native.Nat.{ℕ, ◌+◌, ◌≤◌, ◌<◌}
use native.Mathlib.Omega.{arith}
use lib.ListN.{length, set, length-append, length-set}
use Rattle.lists.specs.Chunks.{chunk_at, put_chunk}
use Rattle.heap.specs.Object.{as_task, as_finalized}
use Rattle.heap.specs.Word.{slot_of, tag_of}
use Rattle.heap.specs.Slot.{width, task_words, finalized_words}
use Rattle.heap.specs.Heap.{coro_in, slots_of, place_of, coro_of, put_slot}
use Rattle.heap.specs.Table.{Slot, slot}
use Rattle.heap.specs.declared.fault.Fault.{Fault}
use Rattle.std.specs.Prelude.{Ok, Err}
use Rattle.heap.specs.declared.object.CoroObj.{CoroObj}
use Rattle.heap.specs.declared.object.Object.TheVariants as O
use Rattle.heap.proofs.Fields as H
use Rattle.model.specs.State.{is_suspended, is_resumable}
use Rattle.model.specs.Object.{Rest, Object, Is, with_task, with_finalized}
use Rattle.model.specs.World.{World, after, with_ready, with_finalize}
use Rattle.model.specs.Heap.{set_coro}
use Rattle.model.specs.Fuel.{set_finalizing}
use Rattle.model.specs.Cleanup.{join_ready, spawn_task}
use Rattle.model.specs.Added.{hand_over_as, hand_over}
use Rattle.model.specs.Sound.{sound}
use Rattle.model.specs.declared.call.Answer.{Answer}
use Rattle.model.specs.declared.machine.Fuel.{Fuel}
use Rattle.claims_sound.proofs.Tests.{no_false}
use Rattle.claims_sound.proofs.Queue as I
use Rattle.claims_sound.proofs.Sound.{Sound, sound→}
use Rattle.claims_sound.proofs.Coros.{task-sound, handed-sound}
use Rattle.memory_tables.specs.Does.{QueueDo}
use Rattle.memory_world.specs.Memory.{Lent, Rep, Room, on_slots, on_ready, on_finalize}
use Rattle.memory_world.specs.Contract.{Does}
use Rattle.memory_world.specs.Numbers.{with_waiting, with_cleanups}
use Rattle.memory_world.specs.declared.machine.Machine.{Machine}
use Rattle.memory_world.specs.declared.machine.Sizes.{Sizes}
use Rattle.memory_world.proofs.Does.{does}
use Rattle.memory_world.proofs.Turn.{turn-ready, turn-finalize}
use Rattle.memory_world.proofs.Lookup.{There, lacks}
use Rattle.memory_world.proofs.Slotted.{in-slots, coro-absent, rest-rep, placed, placed-words}
use Rattle.memory_world.proofs.Few.{queue-few}
use Rattle.coro_clean.proofs.Paid.{chosen, passed}

-- ---- room for one more

-- a queue that has one word more is still no longer than the table
joins-room : (mark : Rest → Bool) (xs : List (Slot Object)) (i v : ℕ) (y : Slot Object) (q : List ℕ) (n : ℕ) → I.Queue mark (set xs i y) (q ++ (v ∷ [])) → length xs ≤ n → length q < n
joins-room mark xs i v y q n h k =
    let a = queue-few mark (set xs i y) (q ++ (v ∷ [])) h in
    let b = length-set xs i y in
    let c = length-append q (v ∷ []) in
    omega arith

-- ---- what is owed of the coroutine in slot i, by what its slot says

pub record Tasks (l : Sizes) (M : Lent) (m : Machine) (f : Fuel) (v : ℕ) (w : World) (i : ℕ) : Type 0 where
  pub already : (coro_in M.slots i).task ≡ true → Does l (spawn_task v w) M m f (Ok v)
  pub late : (coro_in M.slots i).task ≡ false → is_resumable (coro_in M.slots i).state ≡ false → Does l (spawn_task v w) M m f (Ok v)
  pub room : sound w ≡ true → Room w.setup M → (coro_in M.slots i).task ≡ false → m.ready < length M.ready
  pub joins : (coro_in M.slots i).task ≡ false → is_resumable (coro_in M.slots i).state ≡ true → (slots' ready' : List ℕ)
      → slots' ≡ put_chunk width M.slots i (task_words (chunk_at width M.slots i)) → QueueDo (λ xs. xs ++ (v ∷ [])) M.ready ready' m.ready (m.ready + 1)
      → Does l (spawn_task v w) (on_slots slots' (on_ready ready' M)) (with_waiting (m.ready + 1) m) f (Ok v)

pub record Hands (l : Sizes) (M : Lent) (m : Machine) (f : Fuel) (v : ℕ) (w : World) (i : ℕ) : Type 0 where
  pub not-suspended : is_suspended (coro_in M.slots i).state ≡ false → Does l (hand_over v w) M m f (Answer.Refused Fault.InvalidCoroState)
  pub twice : is_suspended (coro_in M.slots i).state ≡ true → (coro_in M.slots i).finalized ≡ true → Does l (hand_over v w) M m f (Answer.Refused Fault.InvalidCoroState)
  pub room : sound w ≡ true → Room w.setup M → (coro_in M.slots i).finalized ≡ false → m.finalize < length M.finalize
  -- the flags are set of the world in which its mark is, and its word in the queue
  pub joins : is_suspended (coro_in M.slots i).state ≡ true → (coro_in M.slots i).finalized ≡ false → (slots' finalize' : List ℕ)
      → slots' ≡ put_chunk width M.slots i (finalized_words (chunk_at width M.slots i)) → QueueDo (λ xs. xs ++ (v ∷ [])) M.finalize finalize' m.finalize (m.finalize + 1)
      → (n : Machine) (g : Fuel) → ((u : World) → Rep l u (on_slots slots' (on_finalize finalize' M)) (with_cleanups (m.finalize + 1) m) f
      → Rep l (set_finalizing m.finalizing u) (on_slots slots' (on_finalize finalize' M)) n g) → Does l (hand_over v w) (on_slots slots' (on_finalize finalize' M)) n g Answer.Accepted

module _ (l : Sizes) (M : Lent) (m : Machine) (f : Fuel) (v : ℕ) (w : World) (rep : Rep l w M m f) where
  -- ---- no coroutine

  pub task-refused : (g : Fault) → Err g ≡ coro_of (slots_of m.count M.slots) v → Does l (spawn_task v w) M m f (Err Fault.TypeError)
  unfolding spawn_task
  task-refused g e = does l M m f (spawn_task v w) w (Err Fault.TypeError) (ap (λ c. join_ready c v w) (coro-absent l M m f v w rep g e)) rep

  pub hand-refused : (g : Fault) → Err g ≡ coro_of (slots_of m.count M.slots) v → Does l (hand_over v w) M m f (Answer.Refused g)
  unfolding hand_over
  hand-refused g e =
      let q = lacks w.slots v g (in-slots l M m f v w rep (Err g) e) in
      does l M m f (hand_over v w) w (Answer.Refused g) (ap (λ c. hand_over_as c v w) q.coro ∙ ap (λ x. after w (Answer.Refused x)) (sym q.fault)) rep

  module _ (i : ℕ) (at : Ok i ≡ place_of (coro_of (slots_of m.count M.slots) v)) where
    pub t : There w.slots v i (coro_in M.slots i)
    t = placed l M m f v w rep i at

    -- what the words of its slot say
    state-is : (coro_in M.slots i).state ≡ t.core.state
    state-is = ap (λ (x : CoroObj). x.state) t.is

    task-is : (coro_in M.slots i).task ≡ t.rest.task
    task-is = ap (λ (x : CoroObj). x.task) t.is

    finalized-is : (coro_in M.slots i).finalized ≡ t.rest.finalized
    finalized-is = ap (λ (x : CoroObj). x.finalized) t.is

    -- ---- spawn_task

    may-join : Bool
    may-join = not t.rest.task && is_resumable t.core.state

    as-task : spawn_task v w ≡ join_ready (Is t.core t.rest) v w
    unfolding spawn_task
    as-task = ap (λ c. join_ready c v w) t.coro

    task_stays : may-join ≡ false → Does l (spawn_task v w) M m f (Ok v)
    unfolding may-join
    task_stays e = does l M m f (spawn_task v w) w (Ok v) (as-task ∙ passed _ (after w (Ok v)) may-join e) rep

    pub tasks-at : Tasks l M m f v w i
    unfolding may-join
    tasks-at = record {
      already = λ e. task_stays (ap (λ b. not b && is_resumable t.core.state) (sym task-is ∙ e));
      late = λ e r. task_stays (ap₂ (λ b c. not b && c) (sym task-is ∙ e) (ap is_resumable (sym state-is) ∙ r));
      room = λ snd room e.
          let h : Sound false w = sound→ w snd (λ z. no_false z) in
          let s = task-sound w v t.core t.rest h t.coro (sym task-is ∙ e) in
          let k = h.heap.count in
          let a = joins-room (λ r. r.task) w.slots (slot_of v) v _ w.ready w.setup.limits.slots s.tasks k in
          let c = rep.ready.count in
          let q = room.ready in
          omega arith;
      joins = λ e r slots' ready' mark push.
          let u = with_ready (w.ready ++ (v ∷ [])) w in
          let queued = turn-ready l w M m f rep (w.ready ++ (v ∷ [])) ready' (m.ready + 1) (push w.ready rep.ready) in
          let k = t.core in
          let r' = with_task true t.rest in
          does l (on_slots slots' (on_ready ready' M)) (with_waiting (m.ready + 1) m) f (spawn_task v w) (set_coro v k r' u) (Ok v)
          (as-task ∙ chosen (after (set_coro v k r' u) (Ok v)) _ may-join (ap₂ (λ b c. not b && c) (sym task-is ∙ e) (ap is_resumable (sym state-is) ∙ r)))
          (rest-rep l (on_ready ready' M) (with_waiting (m.ready + 1) m) f v u queued i (coro_in M.slots i) t r' slots' refl
          (H.tasks M.slots i (tag_of v) (coro_in M.slots i) (placed-words l M m f v w rep i at) slots' mark
          ∙ ap (λ (x : CoroObj). put_slot M.slots i (slot (tag_of v) (O.Coro (as_task x)))) t.is));
    }

    -- ---- hand over

    as-handed : hand_over v w ≡ hand_over_as (Is t.core t.rest) v w
    unfolding hand_over
    as-handed = ap (λ c. hand_over_as c v w) t.coro

    unfit : Bool
    unfit = not (is_suspended t.core.state) || t.rest.finalized

    refused : unfit ≡ true → Does l (hand_over v w) M m f (Answer.Refused Fault.InvalidCoroState)
    unfolding unfit
    refused e =
        does l M m f (hand_over v w) w (Answer.Refused Fault.InvalidCoroState) (as-handed ∙ chosen (after w (Answer.Refused Fault.InvalidCoroState)) _ unfit e) rep

    pub hands-at : Hands l M m f v w i
    unfolding unfit
    hands-at = record {
      not-suspended = λ e. refused (ap (λ b. not b || t.rest.finalized) (ap is_suspended (sym state-is) ∙ e));
      twice = λ e d. refused (ap₂ (λ b c. not b || c) (ap is_suspended (sym state-is) ∙ e) (sym finalized-is ∙ d));
      room = λ snd room e.
          let h : Sound false w = sound→ w snd (λ z. no_false z) in
          let s = handed-sound w v t.core t.rest h t.coro (sym finalized-is ∙ e) in
          let k = h.heap.count in
          let a = joins-room (λ r. r.finalized) w.slots (slot_of v) v _ w.finalize w.setup.limits.slots s.cleanups k in
          let c = rep.finalize.count in
          let q = room.finalize in
          omega arith;
      joins = λ e d slots' finalize' mark push n g flags.
          let u = with_finalize (w.finalize ++ (v ∷ [])) w in
          let queued = turn-finalize l w M m f rep (w.finalize ++ (v ∷ [])) finalize' (m.finalize + 1) (push w.finalize rep.finalize) in
          let r' = with_finalized true t.rest in
          let handed = set_coro v t.core r' u in
          let M' = on_slots slots' (on_finalize finalize' M) in
          does l M' n g (hand_over v w) (set_finalizing w.finalizing handed) Answer.Accepted
          (as-handed ∙ passed _ (after (set_finalizing w.finalizing handed) Answer.Accepted) unfit (ap₂ (λ b c. not b || c) (ap is_suspended (sym state-is) ∙ e) (sym finalized-is ∙ d)))
          (subst (λ b. Rep l (set_finalizing b handed) M' n g) rep.finalizing (flags handed
          (rest-rep l (on_finalize finalize' M) (with_cleanups (m.finalize + 1) m) f v u queued i (coro_in M.slots i) t r' slots' refl
          (H.finalizes M.slots i (tag_of v) (coro_in M.slots i) (placed-words l M m f v w rep i at) slots' mark
          ∙ ap (λ (x : CoroObj). put_slot M.slots i (slot (tag_of v) (O.Coro (as_finalized x)))) t.is))));
    }
