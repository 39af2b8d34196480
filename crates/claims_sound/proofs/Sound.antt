-- The rules of 01's "Sound" as one record, from the test and back.
use mathlib.Core.Path.{◌≡◌, refl, sym, ap, ◌∙◌, subst}
use mathlib.Core.Bool.{Bool, true, false, not, ◌&&◌, ◌||◌}
use mathlib.Core.List.{List, [], ◌∷◌}
use Prim.Native.Nat.{ℕ, zero, suc, ◌+◌, ◌^◌, ◌≤◌, ◌<◌}
use native.Mathlib.Nat.{not-suc-le-zero, le_of_suc-le-suc}
use native.Mathlib.Omega.{arith}
use lib.ListN.{length}
use lib.Dec.{eqb, ltb, leb}
use borrow.Author.Tests.{leb-true, le-leb}
use Rattle.heap.specs.Word.{reference}
use Rattle.heap.specs.Table.{Slot, slot}
use Rattle.model.specs.Lists.{each, among, distinct}
use Rattle.model.specs.Program.{Setup, function_ok, hook_ok, limits_ok, costs_ok, between, setup_ok}
use Rattle.model.specs.Object.{Rest, Object, as_coro}
use Rattle.model.specs.World.{World}
use Rattle.model.specs.Heap.{coro}
use Rattle.model.specs.Rows.{held_rows}
use Rattle.model.specs.Sound.{sizes_ok, saved_sizes, saved_sizes_ok, bases_ok, frame_names, conts_lie, catches_lie, frames_ok, entry_ok, floors_ok, drivers_ok, runs, coros, runs_among, running_ok}
use Rattle.model.specs.Sound.{marked, saved_in, saved_ok, rows_ok, queue_ok, queues_ok, is_none, fuel_ok, unused_in, rowless, unused_ok, object_range, outcome_range, ranges_ok, sound}
use Rattle.model.specs.declared.machine.Active.{Active}
use Rattle.model.specs.declared.machine.Frame.{Frame}
use Rattle.claims_sound.specs.Exact.{exact, exact_in, exact_ok}
use Rattle.claims_sound.proofs.Tests.{and_left, and_right, both, each_at, at_each}
use Rattle.claims_sound.proofs.Stand.{Stands, stands, bases-of, names_of, conts-of, catches-of, entry_of, floors-of, drivers-of, widths-of}
use Rattle.claims_sound.proofs.Point.{at, coro_in}
use Rattle.claims_sound.proofs.Slots.{Heap}
use Rattle.claims_sound.proofs.Queue.{Queue}
pub use Rattle.model.proofs.Rules.{Rules, rules, ruled}

pub record Tower (ex : Bool) (s : Setup) (stack : List ℕ) (frames : List Frame) (chain : List Active) : Type 0 where
  pub depth : length frames ≤ s.limits.depth
  pub height : length stack ≤ s.limits.stack
  pub stands : Stands ex s (length stack) frames chain

pub record Sound (ex : Bool) (w : World) : Type 0 where
  pub setup : setup_ok w.setup ≡ true
  pub tower : Tower ex w.setup w.stack w.frames w.chain
  pub heap : Heap ex w.setup (coros w.chain) w.slots
  pub tasks : Queue (λ r. r.task) w.slots w.ready
  pub cleanups : Queue (λ r. r.finalized) w.slots w.finalize
  pub room : w.used ≤ w.setup.limits.memory
  pub banked : (is_none w.fuel.bank || eqb w.fuel.fuel 0) ≡ true
  pub outcome : outcome_range w.outcome ≡ true

-- ---- 01: "Closing list", as facts

pub record Facts (s : Setup) : Type 0 where
  pub deep : 1 ≤ s.limits.depth
  pub depth : s.limits.depth ≤ 128
  pub stack : s.limits.stack ≤ 1024
  pub rows : s.limits.rows ≤ 64
  pub slots : s.limits.slots ≤ 4096
  pub few : length s.functions ≤ 32
  pub fit : length s.functions ≤ s.limits.slots
  pub functions : each function_ok s.functions ≡ true
  pub hook : hook_ok s s.hook ≡ true
  pub frame : s.costs.frame ≤ 65536
  pub coro : s.costs.coro ≤ 65536
  pub object : s.costs.object ≤ 65536

-- four of six facts, in order
six : (a b c d e f : Bool) → (a && b && c && d && e && f) ≡ true → (a ≡ true) × (b ≡ true) × (c ≡ true) × (d ≡ true) × (e ≡ true) × (f ≡ true)
six true true true true true f h = (refl, refl, refl, refl, refl, h)
six true true true true false f h = absurd (let z : true ≡ false = sym h in let y : ◌≡◌ {A = ℕ} 0 1 = cc in omega arith)
six true true true false e f h = absurd (let z : true ≡ false = sym h in let y : ◌≡◌ {A = ℕ} 0 1 = cc in omega arith)
six true true false d e f h = absurd (let z : true ≡ false = sym h in let y : ◌≡◌ {A = ℕ} 0 1 = cc in omega arith)
six true false c d e f h = absurd (let z : true ≡ false = sym h in let y : ◌≡◌ {A = ℕ} 0 1 = cc in omega arith)
six false b c d e f h = absurd (let z : true ≡ false = sym h in let y : ◌≡◌ {A = ℕ} 0 1 = cc in omega arith)

pub facts : (s : Setup) → setup_ok s ≡ true → Facts s
unfolding setup_ok
facts s h =
    let n = length s.functions in
    let l = s.limits in
    let a = six (limits_ok l) (costs_ok s.costs) (between 1 32 n) (leb n l.slots) (each function_ok s.functions) (hook_ok s s.hook) h in
    let b = a.0 in
    let c : (between 1 128 l.depth && between 1 1024 l.stack && between 1 64 l.rows && between 1 4096 l.slots) ≡ true =
    and_left (between 1 128 l.depth && between 1 1024 l.stack && between 1 64 l.rows && between 1 4096 l.slots) (ltb l.memory (2 ^ 64)) b in
    let r : (between 1 128 l.depth && between 1 1024 l.stack && between 1 64 l.rows) ≡ true =
    and_left (between 1 128 l.depth && between 1 1024 l.stack && between 1 64 l.rows) (between 1 4096 l.slots) c in
    let d : (between 1 128 l.depth && between 1 1024 l.stack) ≡ true =
    and_left (between 1 128 l.depth && between 1 1024 l.stack) (between 1 64 l.rows) r in
    let o = s.costs in
    let k = six (leb o.frame 65536) (leb o.coro 65536) (leb o.object 65536) (leb o.int 65536) (leb o.error 65536) (leb o.iter 65536) a.1 in
    let e : between 1 128 l.depth ≡ true = and_left (between 1 128 l.depth) (between 1 1024 l.stack) d in
    record {
      deep = leb-true 1 l.depth (and_left (leb 1 l.depth) (leb l.depth 128) e);
      depth = leb-true l.depth 128 (and_right (leb 1 l.depth) (leb l.depth 128) e);
      stack = leb-true l.stack 1024 (and_right (leb 1 l.stack) (leb l.stack 1024) (and_right (between 1 128 l.depth) (between 1 1024 l.stack) d));
      rows = leb-true l.rows 64 (and_right (leb 1 l.rows) (leb l.rows 64) (and_right (between 1 128 l.depth && between 1 1024 l.stack) (between 1 64 l.rows) r));
      slots = leb-true l.slots 4096 (and_right (leb 1 l.slots) (leb l.slots 4096) (and_right (between 1 128 l.depth && between 1 1024 l.stack && between 1 64 l.rows) (between 1 4096 l.slots) c));
      few = leb-true n 32 (and_right (leb 1 n) (leb n 32) a.2);
      fit = leb-true n l.slots a.3;
      functions = a.4;
      hook = a.5;
      frame = leb-true o.frame 65536 k.0;
      coro = leb-true o.coro 65536 k.1;
      object = leb-true o.object 65536 k.2;
    }

-- ---- the parts

each-words : (p : ℕ → Bool) (chain : List Active) → each p (coros chain) ≡ each (λ a. p a.coro) chain
each-words p [] = refl
each-words p (a ∷ chain) = ap (λ b. p a.coro && b) (each-words p chain)

running-at : (vs : List ℕ) (j : ℕ) (xs : List (Slot Object)) → runs_among vs j xs ≡ true → (i : ℕ) → i < length xs
    → (not (runs (as_coro (at xs i).object)) || among (reference (j + i) (at xs i).tag) vs) ≡ true
running-at vs j [] h i l = absurd (not-suc-le-zero l)
running-at vs j (x ∷ xs) h zero l =
    subst (λ n. (not (runs (as_coro x.object)) || among (reference n x.tag) vs) ≡ true) (omega arith) (and_left (not (runs (as_coro x.object)) || among (reference j x.tag) vs) _ h)
running-at vs j (x ∷ xs) h (suc i) l =
    let e : suc j + i ≡ j + suc i = omega arith in
    subst (λ n. (not (runs (as_coro (at xs i).object)) || among (reference n (at xs i).tag) vs) ≡ true) e
    (running-at vs (suc j) xs (and_right (not (runs (as_coro x.object)) || among (reference j x.tag) vs) _ h) i (le_of_suc-le-suc l))

at-running : (vs : List ℕ) (j : ℕ) (xs : List (Slot Object)) → ((i : ℕ) → i < length xs → (not (runs (as_coro (at xs i).object)) || among (reference (j + i) (at xs i).tag) vs) ≡ true)
    → runs_among vs j xs ≡ true
at-running vs j [] f = refl
at-running vs j (x ∷ xs) f =
    both (subst (λ n. (not (runs (as_coro x.object)) || among (reference n x.tag) vs) ≡ true) (omega arith) (f 0 (omega arith)))
    (at-running vs (suc j) xs
    (λ i l. let e : j + suc i ≡ suc j + i = omega arith in subst (λ n. (not (runs (as_coro (at xs i).object)) || among (reference n (at xs i).tag) vs) ≡ true) e (f (suc i) (omega arith))))

-- what the shut rules say, by their parts
module _ (w : World) where
  tower-of : {ex : Bool} → sizes_ok w ≡ true → frames_ok w ≡ true → entry_ok w ≡ true → floors_ok w ≡ true → drivers_ok w ≡ true → (ex ≡ true → exact_ok w ≡ true) → Tower ex w.setup w.stack w.frames w.chain
  unfolding sizes_ok frames_ok entry_ok floors_ok drivers_ok exact_ok
  tower-of z f e k d y =
      let s = w.setup in
      let n = length w.stack in
      let fs = w.frames in
      let z₁ : leb (length fs) s.limits.depth && leb n s.limits.stack ≡ true =
      and_left (leb (length fs) s.limits.depth && leb n s.limits.stack) (leb (length w.slots) s.limits.slots)
      (and_left (leb (length fs) s.limits.depth && leb n s.limits.stack && leb (length w.slots) s.limits.slots) (leb w.used s.limits.memory) z) in
      let f₁ : (bases_ok n fs && each (frame_names s) fs && conts_lie fs) ≡ true = and_left (bases_ok n fs && each (frame_names s) fs && conts_lie fs) (catches_lie s n fs) f in
      let f₂ : (bases_ok n fs && each (frame_names s) fs) ≡ true = and_left (bases_ok n fs && each (frame_names s) fs) (conts_lie fs) f₁ in
      record {
        depth = leb-true (length fs) s.limits.depth (and_left (leb (length fs) s.limits.depth) (leb n s.limits.stack) z₁);
        height = leb-true n s.limits.stack (and_right (leb (length fs) s.limits.depth) (leb n s.limits.stack) z₁);
        stands =
            stands s n fs w.chain (and_left (bases_ok n fs) (each (frame_names s) fs) f₂) (and_right (bases_ok n fs) (each (frame_names s) fs) f₂)
            (and_right (bases_ok n fs && each (frame_names s) fs) (conts_lie fs) f₁) (and_right (bases_ok n fs && each (frame_names s) fs && conts_lie fs) (catches_lie s n fs) f)
            (λ x. and_left (exact s n fs) (each (λ (x : Slot Object). exact_in s (as_coro x.object)) w.slots) (y x)) e k d;
      }

  heap_of : {ex : Bool} → setup_ok w.setup ≡ true → sizes_ok w ≡ true → saved_sizes_ok w ≡ true → running_ok w ≡ true → saved_ok w ≡ true → rows_ok w ≡ true → unused_ok w ≡ true → ranges_ok w ≡ true
      → (ex ≡ true → exact_ok w ≡ true) → Heap ex w.setup (coros w.chain) w.slots
  unfolding sizes_ok saved_sizes_ok running_ok saved_ok rows_ok unused_ok ranges_ok exact_ok
  heap_of setup z zs r v o u g y =
      let s = w.setup in
      let xs = w.slots in
      let vs = coros w.chain in
      let fs = w.frames in
      let n = length w.stack in
      let z₁ = and_left (leb (length fs) s.limits.depth && leb n s.limits.stack && leb (length xs) s.limits.slots) (leb w.used s.limits.memory) z in
      let r₁ = and_left (each (λ (a : Active). runs (coro_in xs a.coro)) w.chain && distinct vs) (runs_among vs 0 xs) r in
      let r₂ = and_right (each (λ (a : Active). runs (coro_in xs a.coro)) w.chain && distinct vs) (runs_among vs 0 xs) r in
      let g₁ = and_left (each (λ (x : Slot Object). ltb x.tag (2 ^ 16) && object_range x.object) xs) (outcome_range w.outcome) g in
      record {
        small = (facts s setup).slots;
        count = leb-true (length xs) s.limits.slots (and_right (leb (length fs) s.limits.depth && leb n s.limits.stack) (leb (length xs) s.limits.slots) z₁);
        slots =
            λ i l.
            let x = at xs i in
            let u₁ = each_at (λ (x : Slot Object). unused_in x && rowless (as_coro x.object)) xs i (slot 0 Object.Empty) u l in
            let t₁ = each_at (λ (x : Slot Object). ltb x.tag (2 ^ 16) && object_range x.object) xs i (slot 0 Object.Empty) g₁ l in
            record {
              object =
                  record {
                    sizes = each_at (λ (x : Slot Object). saved_sizes s (as_coro x.object)) xs i (slot 0 Object.Empty) zs l;
                    saved = each_at (λ (x : Slot Object). saved_in s (as_coro x.object)) xs i (slot 0 Object.Empty) v l;
                    rowless = and_right (unused_in x) (rowless (as_coro x.object)) u₁;
                    range = and_right (ltb x.tag (2 ^ 16)) (object_range x.object) t₁;
                    wide = λ q. each_at (λ (x : Slot Object). exact_in s (as_coro x.object)) xs i (slot 0 Object.Empty) (and_right (exact s n fs) (each (λ (x : Slot Object). exact_in s (as_coro x.object)) xs) (y q)) l;
                  };
              unused = and_left (unused_in x) (rowless (as_coro x.object)) u₁;
              tag = and_left (ltb x.tag (2 ^ 16)) (object_range x.object) t₁;
              running = subst (λ j. (not (runs (as_coro x.object)) || among (reference j x.tag) vs) ≡ true) (omega arith) (running-at vs 0 xs r₂ i l);
            };
        running = each-words (λ v. runs (coro_in xs v)) w.chain ∙ and_left (each (λ (a : Active). runs (coro_in xs a.coro)) w.chain) (distinct vs) r₁;
        apart = and_right (each (λ (a : Active). runs (coro_in xs a.coro)) w.chain) (distinct vs) r₁;
        rows =
            record {
              inside = and_left (each (λ row. ltb row s.limits.rows) (held_rows xs)) (distinct (held_rows xs)) o;
              own = and_right (each (λ row. ltb row s.limits.rows) (held_rows xs)) (distinct (held_rows xs)) o;
            };
      }

rest-of : {ex : Bool} (w : World) → Rules w → (ex ≡ true → exact_ok w ≡ true) → Sound ex w
unfolding sizes_ok queues_ok fuel_ok ranges_ok
rest-of w r y =
    let s = w.setup in
    let xs = w.slots in
    let fs = w.frames in
    let n = length w.stack in
    let q = queue_ok (λ (x : Rest). x.task) w w.ready in
    let p = queue_ok (λ (x : Rest). x.finalized) w w.finalize in
    let q₁ : q ≡ true = and_left q p r.queues in
    let p₁ : p ≡ true = and_right q p r.queues in
    record {
      setup = r.setup;
      tower = tower-of w r.sizes r.frames r.entry r.floors r.drivers y;
      heap = heap_of w r.setup r.sizes r.saved_sizes r.running r.saved r.rows r.unused r.ranges y;
      tasks = queue-of (λ (x : Rest). x.task) w w.ready q₁;
      cleanups = queue-of (λ (x : Rest). x.finalized) w w.finalize p₁;
      room =
          leb-true w.used s.limits.memory
          (and_right (leb (length fs) s.limits.depth && leb n s.limits.stack && leb (length xs) s.limits.slots) (leb w.used s.limits.memory) r.sizes);
      banked = r.fuel;
      outcome = and_right (each (λ (x : Slot Object). ltb x.tag (2 ^ 16) && object_range x.object) xs) (outcome_range w.outcome) r.ranges;
    }
  where
    queue-of : (mark : Rest → Bool) (w : World) (q : List ℕ) → queue_ok mark w q ≡ true → Queue mark w.slots q
    queue-of mark w q h =
        record { marks = and_left (each (λ v. marked mark (coro_in w.slots v)) q) (distinct q) h; apart = and_right (each (λ v. marked mark (coro_in w.slots v)) q) (distinct q) h }

-- and, if `ex`, every frame is exactly as wide as its function
pub sound→ : {ex : Bool} (w : World) → sound w ≡ true → (ex ≡ true → exact_ok w ≡ true) → Sound ex w
sound→ w h y = rest-of w (rules w h) y

rules-of : {ex : Bool} (w : World) → Sound ex w → Rules w
unfolding sizes_ok saved_sizes_ok frames_ok entry_ok floors_ok drivers_ok running_ok saved_ok rows_ok queues_ok fuel_ok unused_ok ranges_ok
rules-of w h =
    let s = w.setup in
    let xs = w.slots in
    let t = h.tower in
    let k = h.heap in
    let z = slot 0 Object.Empty in
    record {
      setup = h.setup;
      sizes =
          both (both (both (le-leb (length w.frames) s.limits.depth t.depth) (le-leb (length w.stack) s.limits.stack t.height)) (le-leb (length xs) s.limits.slots k.count))
          (le-leb w.used s.limits.memory h.room);
      saved_sizes = at_each (λ (x : Slot Object). saved_sizes s (as_coro x.object)) xs z (λ i l. (k.slots i l).object.sizes);
      frames = both (both (both (bases-of s t.stands) (names_of s t.stands)) (conts-of s t.stands)) (catches-of s t.stands);
      entry = entry_of s t.stands;
      floors = floors-of s t.stands;
      drivers = drivers-of s t.stands;
      running =
          both (both (sym (each-words (λ v. runs (coro_in xs v)) w.chain) ∙ k.running) k.apart)
          (at-running (coros w.chain) 0 xs
          (λ i l. subst (λ j. (not (runs (as_coro (at xs i).object)) || among (reference j (at xs i).tag) (coros w.chain)) ≡ true) (omega arith) (k.slots i l).running));
      saved = at_each (λ (x : Slot Object). saved_in s (as_coro x.object)) xs z (λ i l. (k.slots i l).object.saved);
      rows = both k.rows.inside k.rows.own;
      queues = both (both h.tasks.marks h.tasks.apart) (both h.cleanups.marks h.cleanups.apart);
      fuel = h.banked;
      unused = at_each (λ (x : Slot Object). unused_in x && rowless (as_coro x.object)) xs z (λ i l. both (k.slots i l).unused (k.slots i l).object.rowless);
      ranges = both (at_each (λ (x : Slot Object). ltb x.tag (2 ^ 16) && object_range x.object) xs z (λ i l. both (k.slots i l).tag (k.slots i l).object.range)) h.outcome;
    }

pub →sound : {ex : Bool} (w : World) → Sound ex w → sound w ≡ true
→sound w h = ruled w (rules-of w h)

pub →wide : (w : World) → Sound true w → exact_ok w ≡ true
unfolding exact_ok
→wide w h =
    both (widths-of w.setup h.tower.stands)
    (at_each (λ (x : Slot Object). exact_in w.setup (as_coro x.object)) w.slots (slot 0 Object.Empty) (λ i l. (h.heap.slots i l).object.wide refl))
