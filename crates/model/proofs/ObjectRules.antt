-- The tests of what is saved, of queues, fuel, unused fields and ranges say yes exactly if their rules of `WellFormed` hold, rule by
-- rule. Assumes nothing.
use mathlib.Core.Logic.{◌↔◌}
use mathlib.Core.Path.{◌≡◌, refl, sym, ap, ◌∙◌, subst}
use mathlib.Core.Bool.{Bool, true, false, not, ◌&&◌, ◌||◌}
use mathlib.Core.List.{List, [], ◌∷◌}
use Prim.Native.Nat.{ℕ, ◌+◌, ◌^◌, ◌≤◌, ◌<◌}
use lib.Dec.{eqb, ltb, leb}
use lib.ListN.{length}
use borrow.Author.Tests.{eqb-true, eq-eqb, leb-true, le-leb, ltb-true, lt-ltb}
use Rattle.lists.specs.Pick.{pick}
use Rattle.heap.specs.Table.{Slot, slot}
use Rattle.std.specs.Prelude.{Option, Some, None}
use Rattle.model.specs.Lists.{is_nil, each, distinct}
use Rattle.model.specs.State.{is_suspended, is_resumable, is_finished}
use Rattle.model.specs.Program.{Setup, between}
use Rattle.model.specs.Object.{Core, Rest, Object, Coroutine, Absent, Is, as_coro}
use Rattle.model.specs.World.{World}
use Rattle.model.specs.Frames.{top_base}
use Rattle.model.specs.Heap.{coro}
use Rattle.model.specs.Sound.{bases_ok, frame_names, conts_lie, catches_lie, frames_over, body_last, waits, saved_in, saved_ok, marked, queue_ok, is_none, fuel_ok, unused_in, rowless, unused_ok, object_range, stop_range, outcome_range, ranges_ok}
use Rattle.model.specs.WellFormed.{At, ◌∈◌, resumable, finished, Coro, Bases, NamesFunction, Continuations, CatchesLie, Waits, Saved, Queue, Ranges}
use Rattle.model.specs.declared.machine.Frame.{Frame}
use Rattle.model.specs.declared.machine.Stop.{Stop}
use Rattle.model.proofs.Tests.{no_false, no_true, and_left, and_right, both, each-imp, or_else, unnegate}
use Rattle.model.proofs.Places.{each-place, place-each, distinct-once, once-distinct}
use Rattle.model.proofs.FrameRules.{nil_is, bases-exactly, names-exactly, conts-exactly, catches-exactly, body-exactly}
use Rattle.model.proofs.SlotRules.{resumable-exactly, suspended-exactly, finished-exactly, as-slot, each-coro, lookup-exactly}

-- ---- frames over n words

pub record Over (s : Setup) (n : ℕ) (fs : List Frame) : Type 0 where
  pub bases : Bases n fs
  pub functions : (f : Frame) → f ∈ fs → NamesFunction s f
  pub continuations : Continuations fs
  pub catches : CatchesLie s n fs

pub over-exactly : (s : Setup) (n : ℕ) (fs : List Frame) → (frames_over s n fs ≡ true) ↔ Over s n fs
over-exactly s n fs =
    let a = bases_ok n fs in
    let b = each (frame_names s) fs in
    let c = conts_lie fs in
    let d = catches_lie s n fs in (
      λ e. record {
        bases = (bases-exactly n fs).0 (and_left a b (and_left (a && b) c (and_left (a && b && c) d e)));
        functions = (names-exactly s fs).0 (and_right a b (and_left (a && b) c (and_left (a && b && c) d e)));
        continuations = (conts-exactly fs).0 (and_right (a && b) c (and_left (a && b && c) d e));
        catches = (catches-exactly s n fs).0 (and_right (a && b && c) d e);
      },
      λ q. both (both (both ((bases-exactly n fs).1 q.bases) ((names-exactly s fs).1 q.functions)) ((conts-exactly fs).1 q.continuations)) ((catches-exactly s n fs).1 q.catches),
    )

-- ---- what is saved

pub waits-exactly : (k : Core) → (k.frames ≡ [] → ⊥) → (waits k ≡ true) ↔ Waits k
waits-exactly k some = (to, λ q. back k.frames refl q)
  where
    to : waits k ≡ true → Waits k
    to e f below h m =
        or_else (not (is_suspended k.state)) (ltb (top_base k.frames + k.waiting) (length k.regs)) e
        (λ n. no_true (sym ((suspended-exactly k.state).1 m) ∙ unnegate (is_suspended k.state) n))
        (λ l. subst (λ (z : List Frame). top_base z + k.waiting < length k.regs) h (ltb-true (top_base k.frames + k.waiting) (length k.regs) l))

    back : (fs : List Frame) → k.frames ≡ fs → Waits k → waits k ≡ true
    back [] h q = absurd (some h)
    back (f ∷ below) h q = go (is_suspended k.state) refl
      where
        go : (b : Bool) → is_suspended k.state ≡ b → (not b || ltb (top_base k.frames + k.waiting) (length k.regs)) ≡ true
        go true e =
            lt-ltb (top_base k.frames + k.waiting) (length k.regs)
            (subst (λ (z : List Frame). top_base z + k.waiting < length k.regs) (sym h) (q f below h ((suspended-exactly k.state).0 e)))
        go false e = refl

saved-body : (s : Setup) (k : Core) → ((body_last k.frames && frames_over s (length k.regs) k.frames && waits k) ≡ true) ↔ Saved s k
saved-body s k =
    let n = length k.regs in
    let fs = k.frames in
    let a = body_last fs in
    let b = frames_over s n fs in (
      λ e. let y = (body-exactly fs).0 (and_left a b (and_left (a && b) (waits k) e)) in
          let o = (over-exactly s n fs).0 (and_right a b (and_left (a && b) (waits k) e)) in
          record {
            body = y;
            bases = o.bases;
            functions = o.functions;
            waiting = (waits-exactly k y.some).0 (and_right (a && b) (waits k) e);
            continuations = o.continuations;
            catches = o.catches;
          },
      λ q. both
          (both ((body-exactly fs).1 q.body) ((over-exactly s n fs).1 (record { bases = q.bases; functions = q.functions; continuations = q.continuations; catches = q.catches })))
          ((waits-exactly k q.body.some).1 q.waiting),
    )

-- a coroutine that is to be resumed has what it needs, any other has nothing
pub record Kept (s : Setup) (k : Core) : Type 0 where
  pub saved : k.state ∈ resumable → Saved s k
  pub frames : (k.state ∈ resumable → ⊥) → k.frames ≡ []
  pub words : (k.state ∈ resumable → ⊥) → k.regs ≡ []

nil-test : {A : Type 0} (xs : List A) → xs ≡ [] → is_nil xs ≡ true
nil-test xs e = ap is_nil e

pub saved-exactly : (s : Setup) (k : Core) (r : Rest) → (saved_in s (Is k r) ≡ true) ↔ Kept s k
unfolding pick
saved-exactly s k r = (to (is_resumable k.state) refl, back (is_resumable k.state) refl)
  where
    a : Bool
    a = body_last k.frames && frames_over s (length k.regs) k.frames && waits k

    b : Bool
    b = is_nil k.frames && is_nil k.regs

    to : (x : Bool) → is_resumable k.state ≡ x → pick x a b ≡ true → Kept s k
    to true h e =
        record {
          saved = λ m. (saved-body s k).0 e;
          frames = λ n. absurd (n ((resumable-exactly k.state).0 h));
          words = λ n. absurd (n ((resumable-exactly k.state).0 h));
        }
    to false h e =
        record {
          saved = λ m. no_true (sym ((resumable-exactly k.state).1 m) ∙ h);
          frames = λ n. nil_is k.frames (and_left (is_nil k.frames) (is_nil k.regs) e);
          words = λ n. nil_is k.regs (and_right (is_nil k.frames) (is_nil k.regs) e);
        }

    back : (x : Bool) → is_resumable k.state ≡ x → Kept s k → pick x a b ≡ true
    back true h q = (saved-body s k).1 (q.saved ((resumable-exactly k.state).0 h))
    back false h q =
        let n : k.state ∈ resumable → ⊥ = λ m. no_true (sym ((resumable-exactly k.state).1 m) ∙ h) in
        both (nil-test k.frames (q.frames n)) (nil-test k.regs (q.words n))

pub saved-ok-exactly : (w : World) → (saved_ok w ≡ true) ↔ ((i t : ℕ) (k : Core) (r : Rest) → Coro w i t k r → Kept w.setup k)
unfolding saved_ok
saved-ok-exactly w =
    let c = each-coro (saved_in w.setup) refl w.slots in
    (λ e i t k r h. (saved-exactly w.setup k r).0 (c.0 e i t k r h), λ q. c.1 (λ i t k r h. (saved-exactly w.setup k r).1 (q i t k r h)))

-- ---- queues

marked-is : (mark : Rest → Bool) (c : Coroutine) → marked mark c ≡ true → (k : Core) × (r : Rest) × (c ≡ Is k r) × (mark r ≡ true)
marked-is mark Absent e = no_false e
marked-is mark (Is k r) e = (k, r, refl, e)

pub queue-exactly : (mark : Rest → Bool) (w : World) (q : List ℕ) → (queue_ok mark w q ≡ true) ↔ Queue (λ r. mark r ≡ true) w q
queue-exactly mark w q =
    let a = each (λ v. marked mark (coro w v)) q in
    let b = distinct q in (
      λ e. record {
        hold =
            λ v h. let (k, r, n, m) = marked-is mark (coro w v) (each-place (λ u. marked mark (coro w u)) q (and_left a b e) h.0 v h.1) in
            (k, r, (lookup-exactly w v k r).0 n, m);
        once = distinct-once q (and_right a b e);
      },
      λ p. both
          (place-each (λ u. marked mark (coro w u)) q (λ i v h. let (k, r, n, m) = p.hold v (i, h) in ap (marked mark) ((lookup-exactly w v k r).1 n) ∙ m))
          (once-distinct q p.once),
    )

-- ---- fuel

pub fuel-exactly : (w : World) → (fuel_ok w ≡ true) ↔ ((bank : ℕ) → w.fuel.bank ≡ Some bank → w.fuel.fuel ≡ 0)
unfolding fuel_ok
fuel-exactly w =
    (λ e n h. eqb-true w.fuel.fuel 0 (subst (λ (z : Option ℕ). (is_none z || eqb w.fuel.fuel 0) ≡ true) h e), λ q. go w.fuel.bank refl q)
  where
    go : (o : Option ℕ) → w.fuel.bank ≡ o → ((bank : ℕ) → w.fuel.bank ≡ Some bank → w.fuel.fuel ≡ 0) → (is_none o || eqb w.fuel.fuel 0) ≡ true
    go None h q = refl
    go (Some n) h q = eq-eqb w.fuel.fuel 0 (q n h)

-- ---- unused

pub tag-exactly : (xs : List (Slot Object)) → (each unused_in xs ≡ true) ↔ ((i t : ℕ) → At i (slot t Object.Empty) xs → t ≡ 0)
tag-exactly xs = (
  λ e i t h. eqb-true t 0 (each-place unused_in xs e i (slot t Object.Empty) h),
  λ q. place-each unused_in xs (λ i x h. go x.tag x.object (λ e. q i x.tag (subst (λ (y : Slot Object). At i y xs) (as-slot x Object.Empty e) h))),
)
  where
    go : (t : ℕ) (o : Object) → (o ≡ Object.Empty → t ≡ 0) → unused_in (slot t o) ≡ true
    go t Object.Empty q = eq-eqb t 0 (q refl)
    go t (Object.Func f) q = refl
    go t (Object.Int n) q = refl
    go t (Object.Iter s d k) q = refl
    go t (Object.Error e f p v) q = refl
    go t (Object.Coro k r) q = refl

rowless-is : (k : Core) (r : Rest) → (rowless (Is k r) ≡ true) ↔ (k.state ∈ finished → r.row ≡ 0)
rowless-is k r = (
  λ e m. or_else (not (is_finished k.state)) (eqb r.row 0) e
      (λ n. no_true (sym ((finished-exactly k.state).1 m) ∙ unnegate (is_finished k.state) n)) (eqb-true r.row 0),
  λ q. go (is_finished k.state) refl q,
)
  where
    go : (b : Bool) → is_finished k.state ≡ b → (k.state ∈ finished → r.row ≡ 0) → (not b || eqb r.row 0) ≡ true
    go true e q = eq-eqb r.row 0 (q ((finished-exactly k.state).0 e))
    go false e q = refl

pub rowless-exactly : (xs : List (Slot Object)) → (each (λ x. rowless (as_coro x.object)) xs ≡ true)
    ↔ ((i t : ℕ) (k : Core) (r : Rest) → At i (slot t (Object.Coro k r)) xs → k.state ∈ finished → r.row ≡ 0)
rowless-exactly xs =
    let c = each-coro rowless refl xs in
    (λ e i t k r h. (rowless-is k r).0 (c.0 e i t k r h), λ q. c.1 (λ i t k r h. (rowless-is k r).1 (q i t k r h)))

-- two tests of each
both-each : {A : Type 0} (p q : A → Bool) (xs : List A) → (each (λ x. p x && q x) xs ≡ true) ↔ ((each p xs ≡ true) × (each q xs ≡ true))
both-each p q xs = (
  λ e. (each-imp (λ x. p x && q x) p (λ x. and_left (p x) (q x)) xs e, each-imp (λ x. p x && q x) q (λ x. and_right (p x) (q x)) xs e),
  λ h. place-each (λ x. p x && q x) xs (λ i x m. both (each-place p xs h.0 i x m) (each-place q xs h.1 i x m)),
)

pub unused-exactly : (w : World) → (unused_ok w ≡ true)
    ↔ (((i t : ℕ) → At i (slot t Object.Empty) w.slots → t ≡ 0) × ((i t : ℕ) (k : Core) (r : Rest) → Coro w i t k r → k.state ∈ finished → r.row ≡ 0))
unfolding unused_ok
unused-exactly w =
    let b = both-each unused_in (λ (x : Slot Object). rowless (as_coro x.object)) w.slots in
    (λ e. ((tag-exactly w.slots).0 (b.0 e).0, (rowless-exactly w.slots).0 (b.0 e).1), λ q. b.1 ((tag-exactly w.slots).1 q.0, (rowless-exactly w.slots).1 q.1))

-- ---- ranges

pub range-exactly : (n : ℕ) (xs : List (Slot Object)) → (each (λ x. ltb x.tag n) xs ≡ true) ↔ ((x : Slot Object) → x ∈ xs → x.tag < n)
range-exactly n xs =
    (λ e x h. ltb-true x.tag n (each-place (λ (y : Slot Object). ltb y.tag n) xs e h.0 x h.1), λ q. place-each (λ (y : Slot Object). ltb y.tag n) xs (λ i x h. lt-ltb x.tag n (q x (i, h))))

abbrev ErrorFits : ℕ → ℕ → ℕ → Type 0
ErrorFits e f pc = (1 ≤ e) × (e ≤ 8) × (f < 2 ^ 32) × (pc < 2 ^ 32)

pub error-exactly : (e f pc v : ℕ) → (object_range (Object.Error e f pc v) ≡ true) ↔ ErrorFits e f pc
error-exactly e f pc v =
    let a = between 1 8 e in
    let b = ltb f (2 ^ 32) in
    let c = ltb pc (2 ^ 32) in (
      λ h. let l = and_left a b (and_left (a && b) c h) in
          (leb-true 1 e (and_left (leb 1 e) (leb e 8) l), leb-true e 8 (and_right (leb 1 e) (leb e 8) l), ltb-true f (2 ^ 32) (and_right a b (and_left (a && b) c h)), ltb-true pc (2 ^ 32) (and_right (a && b) c h)),
      λ q. both (both (both (le-leb 1 e q.0) (le-leb e 8 q.1)) (lt-ltb f (2 ^ 32) q.2)) (lt-ltb pc (2 ^ 32) q.3),
    )

pub record Objects (xs : List (Slot Object)) : Type 0 where
  pub function : (i t f : ℕ) → At i (slot t (Object.Func f)) xs → f < 2 ^ 32
  pub error : (i t e f pc v : ℕ) → At i (slot t (Object.Error e f pc v)) xs → ErrorFits e f pc
  pub waiting : (i t : ℕ) (k : Core) (r : Rest) → At i (slot t (Object.Coro k r)) xs → k.waiting < 2 ^ 16

pub objects-exactly : (xs : List (Slot Object)) → (each (λ x. object_range x.object) xs ≡ true) ↔ Objects xs
objects-exactly xs = (
  λ e. let at = each-place (λ (x : Slot Object). object_range x.object) xs e in
      record {
        function = λ i t f h. ltb-true f (2 ^ 32) (at i (slot t (Object.Func f)) h);
        error = λ i t a f pc v h. (error-exactly a f pc v).0 (at i (slot t (Object.Error a f pc v)) h);
        waiting = λ i t k r h. ltb-true k.waiting (2 ^ 16) (at i (slot t (Object.Coro k r)) h);
      },
  λ q. place-each (λ (x : Slot Object). object_range x.object) xs
      (λ i x h. go i x.tag x.object q h),
)
  where
    go : (i t : ℕ) (o : Object) → Objects xs → At i (slot t o) xs → object_range o ≡ true
    go i t Object.Empty q h = refl
    go i t (Object.Func f) q h = lt-ltb f (2 ^ 32) (q.function i t f h)
    go i t (Object.Int n) q h = refl
    go i t (Object.Iter s d k) q h = refl
    go i t (Object.Error e f pc v) q h = (error-exactly e f pc v).1 (q.error i t e f pc v h)
    go i t (Object.Coro k r) q h = lt-ltb k.waiting (2 ^ 16) (q.waiting i t k r h)

pub outcome-exactly : (o : Option Stop) → (outcome_range o ≡ true) ↔ ((v f pc : ℕ) → o ≡ Some (Stop.Failed v f pc) → (f < 2 ^ 32) × (pc < 2 ^ 32))
outcome-exactly o = (
  λ e v f pc h. let t = subst (λ (z : Option Stop). outcome_range z ≡ true) h e in
      (ltb-true f (2 ^ 32) (and_left (ltb f (2 ^ 32)) (ltb pc (2 ^ 32)) t), ltb-true pc (2 ^ 32) (and_right (ltb f (2 ^ 32)) (ltb pc (2 ^ 32)) t)),
  back o,
)
  where
    stop : (s : Stop) → ((v f pc : ℕ) → Some s ≡ Some (Stop.Failed v f pc) → (f < 2 ^ 32) × (pc < 2 ^ 32)) → stop_range s ≡ true
    stop (Stop.Yielded v) q = refl
    stop (Stop.Awaiting v) q = refl
    stop (Stop.Returned v) q = refl
    stop (Stop.Failed v f pc) q = let (a, b) = q v f pc refl in both (lt-ltb f (2 ^ 32) a) (lt-ltb pc (2 ^ 32) b)
    stop Stop.CloseIgnored q = refl

    back : (o : Option Stop) → ((v f pc : ℕ) → o ≡ Some (Stop.Failed v f pc) → (f < 2 ^ 32) × (pc < 2 ^ 32)) → outcome_range o ≡ true
    back None q = refl
    back (Some s) q = stop s q

pub ranges-exactly : (w : World) → (ranges_ok w ≡ true) ↔ Ranges w
unfolding ranges_ok
ranges-exactly w =
    let xs = w.slots in
    let b = both-each (λ (x : Slot Object). ltb x.tag (2 ^ 16)) (λ (x : Slot Object). object_range x.object) xs in
    let c = each (λ (x : Slot Object). ltb x.tag (2 ^ 16) && object_range x.object) xs in (
      λ e. let l = b.0 (and_left c (outcome_range w.outcome) e) in
          let o = (objects-exactly xs).0 l.1 in
          record {
            tag = (range-exactly (2 ^ 16) xs).0 l.0;
            function = o.function;
            error = o.error;
            waiting = o.waiting;
            outcome = (outcome-exactly w.outcome).0 (and_right c (outcome_range w.outcome) e);
          },
      λ q. both (b.1 ((range-exactly (2 ^ 16) xs).1 q.tag, (objects-exactly xs).1 (record { function = q.function; error = q.error; waiting = q.waiting }))) ((outcome-exactly w.outcome).1 q.outcome),
    )
