-- Moves of the objects: a coroutine changed, entered, left, ended; an iterator marked; the queues and the fuel.
use mathlib.Core.Path.{◌≡◌, refl, sym, ap, ◌∙◌, subst}
use mathlib.Core.Bool.{Bool, true, false, not, ◌&&◌, ◌||◌}
use mathlib.Core.List.{List, [], ◌∷◌, ◌++◌}
use Prim.Native.Nat.{ℕ, ◌-◌, ◌≤◌, max}
use native.Mathlib.Omega.{arith}
use lib.ListN.{length}
use lib.Dec.{eqb, leb}
use borrow.Author.Tests.{leb-true, le-leb, eqb-true, eq-eqb}
use Rattle.lists.specs.Pick.{pick, pick-false}
use Rattle.heap.specs.Table.{Slot}
use Rattle.std.specs.Prelude.{Option, Some, None}
use Rattle.model.specs.declared.machine.Stop.{Stop}
use Rattle.heap.specs.declared.object.CoroState.{CoroState}
use Rattle.model.specs.Lists.{is_nil}
use Rattle.model.specs.State.{is_running, is_resumable, is_finished, is_created}
use Rattle.model.specs.Program.{Setup}
use Rattle.model.specs.Object.{Core, Rest, Object, Coroutine, Absent, Is, with_task, with_finalized}
use Rattle.model.specs.World.{World, with_stack, with_frames, with_chain, with_slots, with_ready, with_finalize, with_finalizing, with_outcome, with_used, with_seq, with_fuel}
use Rattle.model.specs.Heap.{object, coro, set_coro, change_as, change_coro, change_iter_in, set_done, set_key}
use Rattle.model.specs.Fuel.{fuel_of, unbank_at, unbank, arm_at, arm_close, set_ready, set_finalizing, spend}
use Rattle.model.specs.Coro.{in_state, sized, ended}
use Rattle.model.specs.Sound.{saved_sizes, saved_in, body_last, frames_over, waits, runs, coros, row_words, is_none, outcome_range}
use Rattle.model.specs.declared.machine.Active.{Active}
use Rattle.model.specs.declared.machine.Frame.{Frame}
use Rattle.model.specs.declared.machine.Fuel.{Fuel}
use Rattle.claims_sound.proofs.Tests.{no_false, and_left, and_right, both, or_right, picked, negate, or_left}
use Rattle.claims_sound.proofs.Point.{coro_in, Points, points, finds, put}
use Rattle.claims_sound.proofs.Held.{Rows}
use Rattle.claims_sound.proofs.Slots.{ObjectOk, Heap, put_coro, change-heap, enter-heap, leave-heap, same_rows, freed-rows, plain-heap}
use Rattle.claims_sound.proofs.Queue.{Queue, queue-put, queue-plain, queue-join}
use Rattle.claims_sound.proofs.Sound.{Tower, Sound}

-- the rules of the object that a word names
pub object-ok : {ex : Bool} {s : Setup} {vs : List ℕ} {xs : List (Slot Object)} {v : ℕ} {o : Object} → Heap ex s vs xs → Points xs v o → ObjectOk ex s o
object-ok {ex} {s} {vs} {xs} {v} {o} h p = subst (ObjectOk ex s) p.here (h.slots _ p.inside).object

-- ---- what a switch leaves of the rules of one coroutine

-- the largest sizes are within a row
pub max-ok : (s : Setup) (k : Core) (r : Rest) → saved_sizes s (Is k r) ≡ true → (k' : Core) → leb (length k'.regs) (row_words s) ≡ true → leb (length k'.frames) s.limits.depth ≡ true → saved_sizes s (Is k' r) ≡ true
max-ok s k r h k' a b =
    let x = leb (length k.regs) (row_words s) && leb (length k.frames) s.limits.depth in
    let h₁ = and_left (x && leb r.maxregs (row_words s)) (leb r.maxframes s.limits.depth) h in
    both (both (both a b) (and_right x (leb r.maxregs (row_words s)) h₁)) (and_right (x && leb r.maxregs (row_words s)) (leb r.maxframes s.limits.depth) h)

none-saved : (s : Setup) (st : CoroState) (k : Core) (r : Rest) → is_resumable st ≡ false → saved_in s (Is (in_state st k) r) ≡ true
none-saved s st k r e = ap (λ b. pick b (body_last [] && frames_over s 0 [] && waits (in_state st k)) true) e ∙ pick-false _ _

-- .. and stay so, raised to what is saved
sized-ok : (s : Setup) (k : Core) (r : Rest) → saved_sizes s (Is k r) ≡ true → saved_sizes s (Is k (sized k r)) ≡ true
sized-ok s k r h =
    let a = leb (length k.regs) (row_words s) in
    let b = leb (length k.frames) s.limits.depth in
    let c = leb r.maxregs (row_words s) in
    let d = leb r.maxframes s.limits.depth in
    let t = and_left (a && b && c) d h in
    let saved = and_left (a && b) c t in
    let p₁ = leb-true (length k.regs) (row_words s) (and_left a b saved) in
    let p₂ = leb-true (length k.frames) s.limits.depth (and_right a b saved) in
    let p₃ = leb-true r.maxregs (row_words s) (and_right (a && b) c t) in
    let p₄ = leb-true r.maxframes s.limits.depth (and_right (a && b && c) d h) in
    both (both saved (le-leb (max r.maxregs (length k.regs)) (row_words s) (omega arith))) (le-leb (max r.maxframes (length k.frames)) s.limits.depth (omega arith))

pub running-ok : {ex : Bool} (s : Setup) (k : Core) (r : Rest) → ObjectOk ex s (Object.Coro k r) → ObjectOk ex s (Object.Coro (in_state CoroState.Running k) (sized k r))
running-ok s k r h =
    record {
      sizes = max-ok s k (sized k r) (sized-ok s k r h.sizes) (in_state CoroState.Running k) (le-leb 0 (row_words s) (omega arith)) (le-leb 0 s.limits.depth (omega arith));
      saved = none-saved s CoroState.Running k (sized k r) refl;
      rowless = refl;
      range = h.range;
      wide = λ _. refl;
    }

done-idle : (st : CoroState) → is_finished st ≡ true → is_resumable st ≡ false
done-idle CoroState.Created e = no_false e
done-idle CoroState.Running e = no_false e
done-idle CoroState.Yielded e = no_false e
done-idle CoroState.Awaiting e = no_false e
done-idle CoroState.Returned e = refl
done-idle CoroState.Failed e = refl

pub done-still : (st : CoroState) → is_finished st ≡ true → is_running st ≡ false
done-still CoroState.Created e = no_false e
done-still CoroState.Running e = no_false e
done-still CoroState.Yielded e = no_false e
done-still CoroState.Awaiting e = no_false e
done-still CoroState.Returned e = refl
done-still CoroState.Failed e = refl

done-old : (st : CoroState) → is_finished st ≡ true → is_created st ≡ false
done-old CoroState.Created e = no_false e
done-old CoroState.Running e = no_false e
done-old CoroState.Yielded e = no_false e
done-old CoroState.Awaiting e = no_false e
done-old CoroState.Returned e = refl
done-old CoroState.Failed e = refl

pub ended-ok : {ex : Bool} (s : Setup) (st : CoroState) (result : ℕ) (k : Core) (r : Rest) → is_finished st ≡ true → ObjectOk ex s (Object.Coro k r) → ObjectOk ex s (Object.Coro (in_state st k) (ended result r))
ended-ok s st result k r e h =
    let zw = le-leb 0 (row_words s) (omega arith) in
    let zd = le-leb 0 s.limits.depth (omega arith) in
    record {
      sizes = both (both (both zw zd) zw) zd;
      saved = none-saved s st k (ended result r) (done-idle st e);
      rowless = or_right (not (is_finished st)) _ refl;
      range = h.range;
      wide = λ _. or_left (not (is_created st)) _ (negate (done-old st e));
    }

-- ---- the objects replaced

pub heap-move : {ex : Bool} (w : World) (xs : List (Slot Object)) → Sound ex w → Heap ex w.setup (coros w.chain) xs → Queue (λ r. r.task) xs w.ready → Queue (λ r. r.finalized) xs w.finalize
    → Sound ex (with_slots xs w)
heap-move w xs h k t c = record { setup = h.setup; tower = h.tower; heap = k; tasks = t; cleanups = c; room = h.room; banked = h.banked; outcome = h.outcome }

-- what a coroutine that stays as it is may change
pub record SameRest (r r' : Rest) : Type 0 where
  pub row : r'.row ≡ r.row
  pub maxregs : r'.maxregs ≡ r.maxregs
  pub maxframes : r'.maxframes ≡ r.maxframes
  pub task : r.task ≡ true → r'.task ≡ true
  pub finalized : r.finalized ≡ true → r'.finalized ≡ true

pub same_ok : {ex : Bool} (s : Setup) (k : Core) (r r' : Rest) → SameRest r r' → ObjectOk ex s (Object.Coro k r) → ObjectOk ex s (Object.Coro k r')
same_ok s k r r' q h =
    record {
      sizes =
          subst (λ n. (leb (length k.regs) (row_words s) && leb (length k.frames) s.limits.depth && leb r'.maxregs (row_words s) && leb n s.limits.depth) ≡ true) (sym q.maxframes)
          (subst (λ n. (leb (length k.regs) (row_words s) && leb (length k.frames) s.limits.depth && leb n (row_words s) && leb r.maxframes s.limits.depth) ≡ true) (sym q.maxregs) h.sizes);
      saved = h.saved;
      rowless = subst (λ n. (not (is_finished k.state) || eqb n 0) ≡ true) (sym q.row) h.rowless;
      range = h.range;
      wide = h.wide;
    }

module _ {ex : Bool} (w : World) (v : ℕ) (k : Core) (r : Rest) (h : Sound ex w) (e : coro w v ≡ Is k r) where
  here : Points w.slots v (Object.Coro k r)
  here = finds w.slots v k r e

  rest-heap : (r' : Rest) → SameRest r r' → Heap ex w.setup (coros w.chain) (put_coro here k r')
  rest-heap r' q = change-heap here k r' h.heap (same_ok w.setup k r r' q (object-ok h.heap here)) refl (same_rows here k r' h.heap.rows refl q.row)

  -- its marks, keys or signal change
  pub rest-sound : (r' : Rest) → SameRest r r' → Sound ex (set_coro v k r' w)
  rest-sound r' q =
      heap-move w (put_coro here k r') h (rest-heap r' q) (queue-put (λ x. x.task) here k r' q.task h.tasks) (queue-put (λ x. x.finalized) here k r' q.finalized h.cleanups)

  -- it joins the ready queue, the cleanup queue
  pub task-sound : r.task ≡ false → Sound ex (set_coro v k (with_task true r) (with_ready (w.ready ++ (v ∷ [])) w))
  task-sound f =
      let q : SameRest r (with_task true r) = record { row = refl; maxregs = refl; maxframes = refl; task = λ _. refl; finalized = λ z. z } in
      record {
        setup = h.setup;
        tower = h.tower;
        heap = rest-heap (with_task true r) q;
        tasks = queue-join (λ x. x.task) here (with_task true r) f refl h.tasks;
        cleanups = queue-put (λ x. x.finalized) here k (with_task true r) (λ z. z) h.cleanups;
        room = h.room;
        banked = h.banked;
        outcome = h.outcome;
      }

  pub handed-sound : r.finalized ≡ false → Sound ex (set_coro v k (with_finalized true r) (with_finalize (w.finalize ++ (v ∷ [])) w))
  handed-sound f =
      let q : SameRest r (with_finalized true r) = record { row = refl; maxregs = refl; maxframes = refl; task = λ z. z; finalized = λ _. refl } in
      record {
        setup = h.setup;
        tower = h.tower;
        heap = rest-heap (with_finalized true r) q;
        tasks = queue-put (λ x. x.task) here k (with_finalized true r) (λ z. z) h.tasks;
        cleanups = queue-join (λ x. x.finalized) here (with_finalized true r) f refl h.cleanups;
        room = h.room;
        banked = h.banked;
        outcome = h.outcome;
      }

  -- one that does not run ends
  pub idle-sound : (st : CoroState) (result : ℕ) → is_running k.state ≡ false → is_finished st ≡ true → Sound ex (set_coro v (in_state st k) (ended result r) w)
  idle-sound st result i f =
      heap-move w (put_coro here (in_state st k) (ended result r)) h
      (change-heap here (in_state st k) (ended result r) h.heap (ended-ok w.setup st result k r f (object-ok h.heap here)) (done-still st f ∙ sym i) (freed-rows here (in_state st k) (ended result r) h.heap.rows f))
      (queue-put (λ x. x.task) here (in_state st k) (ended result r) (λ z. z) h.tasks) (queue-put (λ x. x.finalized) here (in_state st k) (ended result r) (λ z. z) h.cleanups)

  -- it is entered
  pub enter-sound : (a : Active) (stack : List ℕ) (frames : List Frame) → a.coro ≡ v → is_running k.state ≡ false → is_finished k.state ≡ false → Tower ex w.setup stack frames (a ∷ w.chain)
      → Sound ex (set_coro v (in_state CoroState.Running k) (sized k r) (with_chain (a ∷ w.chain) (with_frames frames (with_stack stack w))))
  enter-sound a stack frames q i f t =
      let k' = in_state CoroState.Running k in
      let r' = sized k r in
      record {
        setup = h.setup;
        tower = t;
        heap =
            subst (λ u. Heap ex w.setup (u ∷ coros w.chain) (put_coro here k' r')) (sym q)
            (enter-heap here k' r' h.heap (running-ok w.setup k r (object-ok h.heap here)) i refl (same_rows here k' r' h.heap.rows (sym f) refl));
        tasks = queue-put (λ x. x.task) here k' r' (λ z. z) h.tasks;
        cleanups = queue-put (λ x. x.finalized) here k' r' (λ z. z) h.cleanups;
        room = h.room;
        banked = h.banked;
        outcome = h.outcome;
      }

-- it leaves the chain, of which it was the last, and the frames with it
module _ {ex : Bool} (w : World) (a : Active) (chain : List Active) (h : Sound ex w) (q : w.chain ≡ a ∷ chain) where
  chained : Heap ex w.setup (a.coro ∷ coros chain) w.slots
  chained = subst (λ c. Heap ex w.setup (coros c) w.slots) q h.heap

  pub last_runs : runs (coro w a.coro) ≡ true
  last_runs = and_left (runs (coro_in w.slots a.coro)) _ chained.running

  module _ (k : Core) (r : Rest) (p : Points w.slots a.coro (Object.Coro k r)) (k' : Core) (r' : Rest) where
    pub left-sound : (stack : List ℕ) (frames : List Frame) (used : ℕ) → ObjectOk ex w.setup (Object.Coro k' r') → is_running k'.state ≡ false → Rows w.setup (put_coro p k' r')
        → (r.task ≡ true → r'.task ≡ true) → (r.finalized ≡ true → r'.finalized ≡ true) → Tower ex w.setup stack frames chain → used ≤ w.setup.limits.memory
        → Sound ex (set_coro a.coro k' r' (with_chain chain (with_frames frames (with_stack stack (with_used used w)))))
    left-sound stack frames used ok i rows mt mf t u =
        record {
          setup = h.setup;
          tower = t;
          heap = leave-heap p k' r' chained ok i rows;
          tasks = queue-put (λ x. x.task) p k' r' mt h.tasks;
          cleanups = queue-put (λ x. x.finalized) p k' r' mf h.cleanups;
          room = u;
          banked = h.banked;
          outcome = h.outcome;
        }

-- ---- a coroutine changed where the word finds one

pub changed : (P : World → Type 0) (w : World) (v : ℕ) (f : Core → Core) (g : Rest → Rest) → P w → ((k : Core) (r : Rest) → coro w v ≡ Is k r → P (set_coro v (f k) (g r) w)) → P (change_coro v f g w)
changed P w v f g no_one some = go (coro w v) refl
  where
    go : (c : Coroutine) → coro w v ≡ c → P (change_as c v f g w)
    go Absent e = no_one
    go (Is k r) e = some k r e

-- ---- iterators

plain_ok : {ex : Bool} (s : Setup) (a : ℕ) (d : Bool) (k : Option ℕ) → ObjectOk ex s (Object.Iter a d k)
plain_ok s a d k = record { sizes = refl; saved = refl; rowless = refl; range = refl; wide = λ _. refl }

iter-sound : {ex : Bool} (w : World) (v : ℕ) (f : Bool → Bool) (g : Option ℕ → Option ℕ) → Sound ex w → Sound ex (change_iter_in (object w v) v f g w)
iter-sound {ex} w v f g h = go (object w v) refl
  where
    go : (o : Object) → object w v ≡ o → Sound ex (change_iter_in o v f g w)
    go Object.Empty e = h
    go (Object.Func n) e = h
    go (Object.Int n) e = h
    go (Object.Iter s d k) e =
        let p = points w.slots v (Object.Iter s d k) refl e in
        heap-move w (put p (Object.Iter s (f d) (g k))) h (plain-heap h.heap p (Object.Iter s (f d) (g k)) refl refl refl (plain_ok w.setup s (f d) (g k)))
        (queue-plain (λ x. x.task) p (Object.Iter s (f d) (g k)) refl h.tasks) (queue-plain (λ x. x.finalized) p (Object.Iter s (f d) (g k)) refl h.cleanups)
    go (Object.Error a b c d) e = h
    go (Object.Coro k r) e = h

pub done-sound : {ex : Bool} (v : ℕ) (w : World) → Sound ex w → Sound ex (set_done v w)
done-sound v w h = iter-sound w v (λ _. true) (λ k. k) h

pub key-sound : {ex : Bool} (v key : ℕ) (w : World) → Sound ex w → Sound ex (set_key v key w)
key-sound v key w h = iter-sound w v (λ d. d) (λ _. Some key) h

-- ---- fuel, flags, outcome

pub fuel-move : {ex : Bool} (w : World) (f : Fuel) (b : Bool) → Sound ex w → (is_none f.bank || eqb f.fuel 0) ≡ true → Sound ex (with_fuel f (with_finalizing b w))
fuel-move w f b h e = record { setup = h.setup; tower = h.tower; heap = h.heap; tasks = h.tasks; cleanups = h.cleanups; room = h.room; banked = e; outcome = h.outcome }

abbrev pub bank_ok : Fuel → Bool
bank_ok f = is_none f.bank || eqb f.fuel 0

unbank-ok : (o : Option ℕ) (f : Fuel) → f.bank ≡ o → bank_ok f ≡ true → bank_ok (unbank_at o f) ≡ true
unbank-ok None f e h = h
unbank-ok (Some n) f e h = refl

pub unbank-sound : {ex : Bool} (w : World) → Sound ex w → Sound ex (unbank w)
unbank-sound w h = fuel-move w (unbank_at w.fuel.bank w.fuel) w.finalizing h (unbank-ok w.fuel.bank w.fuel refl h.banked)

arm-ok : (o : Option ℕ) (f : Fuel) → f.bank ≡ o → bank_ok f ≡ true → bank_ok (arm_at o f) ≡ true
arm-ok None f e h = picked (λ (x : Fuel). bank_ok x ≡ true) f.ready (λ _. refl) (λ _. h)
arm-ok (Some n) f e h = h

pub arm-sound : {ex : Bool} (w : World) → Sound ex w → Sound ex (arm_close w)
arm-sound w h = fuel-move w (arm_at w.fuel.bank w.fuel) w.finalizing h (arm-ok w.fuel.bank w.fuel refl h.banked)

pub finalizing-sound : {ex : Bool} (b : Bool) (w : World) → Sound ex w → Sound ex (set_finalizing b w)
finalizing-sound b w h =
    let n = not b && not (is_nil w.finalize) in
    arm-sound (set_ready n (with_finalizing b w)) (fuel-move w (fuel_of w.fuel.fuel w.fuel.bank n) b h h.banked)

pub spend-sound : {ex : Bool} (w : World) → Sound ex w → Sound ex (spend w)
spend-sound w h = fuel-move w (fuel_of (w.fuel.fuel - 1) w.fuel.bank w.fuel.ready) w.finalizing h (less (is_none w.fuel.bank) w.fuel.fuel h.banked)
  where
    less : (b : Bool) (n : ℕ) → (b || eqb n 0) ≡ true → (b || eqb (n - 1) 0) ≡ true
    less true n e = refl
    less false n e = eq-eqb (n - 1) 0 (let z = eqb-true n 0 e in omega arith)

pub outcome-sound : {ex : Bool} (o : Option Stop) (w : World) → outcome_range o ≡ true → Sound ex w → Sound ex (with_outcome o w)
outcome-sound o w e h = record { setup = h.setup; tower = h.tower; heap = h.heap; tasks = h.tasks; cleanups = h.cleanups; room = h.room; banked = h.banked; outcome = e }

-- the cleanup queue loses coros
pub cleanups-sound : {ex : Bool} (q : List ℕ) (w : World) → Queue (λ r. r.finalized) w.slots q → Sound ex w → Sound ex (with_finalize q w)
cleanups-sound q w e h = record { setup = h.setup; tower = h.tower; heap = h.heap; tasks = h.tasks; cleanups = e; room = h.room; banked = h.banked; outcome = h.outcome }

pub seq-sound : {ex : Bool} (n : ℕ) (w : World) → Sound ex w → Sound ex (with_seq n w)
seq-sound n w h = record { setup = h.setup; tower = h.tower; heap = h.heap; tasks = h.tasks; cleanups = h.cleanups; room = h.room; banked = h.banked; outcome = h.outcome }
