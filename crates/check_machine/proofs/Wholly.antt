-- The whole test in code is `sound_words`. Assumes nothing.
use mathlib.Core.Path.{◌≡◌, refl, sym, ap, ◌∙◌, subst}
use mathlib.Core.Bool.{Bool, true, false, not, ◌&&◌, ◌||◌}
use mathlib.Core.List.{List}
use Prim.Native.Nat.{ℕ, ◌^◌, ◌≤◌, ◌<◌}
use native.Mathlib.Omega.{arith}
use lib.ListN.{length, get_or}
use lib.Seq.{length-take-le}
use borrow.Author.Tests.{le-leb}
use Rattle.lists.specs.Parts.{pad}
use Rattle.lists.specs.Tests.{all_below}
use Rattle.lists.proofs.Tests.{holds_at, holds-all}
use Rattle.lists.proofs.Tables.{length-chunks, chunks-at}
use Rattle.heap.specs.Table.{Slot, slot}
use Rattle.heap.specs.Slot.{width, slot_of_words}
use Rattle.heap.specs.Heap.{slot_in, slots_of, coro_of}
use Rattle.heap.specs.declared.object.Object as H
use Rattle.heap.specs.declared.object.Object.TheVariants as O
use Rattle.model.specs.Lists.{each, among, distinct}
use Rattle.model.specs.Program.{Setup, setup_ok}
use Rattle.model.specs.Object.{Object}
use Rattle.model.specs.Object as MO
use Rattle.model.specs.World.{World}
use Rattle.model.specs.Sound.{row_words, bases_ok, frame_names, conts_lie, catches_lie, frames_ok, entry_ok, floors_ok, drivers_ok, runs, marked, queue_ok, fuel_ok, outcome_range, sound}
use Rattle.model.specs.declared.machine.Fuel.{Fuel}
use Rattle.claims_sound.proofs.Tests.{no_false, and_left, and_right, both, each_at, at_each}
use Rattle.claims_sound.proofs.Point.{at, coro_in}
use Rattle.claims_sound.proofs.Slots.{SlotOk}
use Rattle.claims_sound.proofs.Stand.{stands}
use Rattle.claims_sound.proofs.Sound.{Tower, Sound, Rules, rules, facts, sound→, →sound}
use Rattle.memory_tables.specs.Layout.{frame_words, frame_of}
use Rattle.memory_tables.specs.Sizes.{setup_words, saved_stack_size, saved_frames_size}
use Rattle.memory_world.specs.Told.{outcome_in}
use Rattle.memory_world.specs.Memory.{Lent, Room}
use Rattle.memory_world.specs.declared.machine.Machine.{Machine}
use Rattle.memory_world.specs.Words.{sizes_of}
use Rattle.memory_world.specs.Decode.{setup_of, object_of, objects_of, world_of}
use Rattle.memory_sound.specs.Words.{same, rest_ok, setup_held, outcome_held, frames_held, chain_held, slots_held, fits_row, sound_words}
use Rattle.memory_sound.proofs.Held.{length-piled}
use Rattle.memory_sound.proofs.Passed.{Counts, Passed, room_of, counts_of, passed, passes}
use Rattle.memory_sound.proofs.Exactly.{some-row}
use Rattle.check_tables.specs.Frames.{stack_frames_ok}
use Rattle.check_tables.specs.Chain.{chain_ok}
use Rattle.check_tables.specs.Queue.{by_coro, queue_held}
use Rattle.check_tables.proofs.Bools.{iff}
use Rattle.check_tables.proofs.Deciding.{decided}
use Rattle.check_machine.specs.Numbers.{fuel_test}
use Rattle.check_machine.specs.Table.{slot_fits, table_test}
use Rattle.check_machine.specs.Running.{running, active_words, running_test}
use Rattle.check_machine.specs.Rows.{object_fine, free_test, rows_held}
use Rattle.check_machine.specs.Whole.{chained_at, whole_test}
use Rattle.check_machine.specs.Rules.{Decided}
use Rattle.check_machine.proofs.Fitting.{counted, Numbers, numbers_of, setup-room, sizes-fit}
use Rattle.check_machine.proofs.Keeping.{Kept}
use Rattle.check_machine.proofs.Rowing.{at-object, long, held_same, All, each_fits, rows_inside, stack-held, frames-held, rest-stack, rest-frames, owned, all-free}
use Rattle.check_machine.proofs.Slots.{each-runs, chain-word, kept_of, runs_of, fine_of, slot_ok, slot-fits}

module _ (M : Lent) (m : Machine) (f : Fuel) where
  abbrev s : Setup
  s = setup_of M.setup

  abbrev w : World
  w = world_of M m f

  abbrev ys : List (Slot H.Object)
  ys = slots_of m.count M.slots

  abbrev vs : List ℕ
  vs = active_words M.chain m.active

  abbrev d : Slot H.Object
  d = slot 0 O.Empty

  count : length ys ≡ m.count
  count = length-chunks width slot_of_words m.count M.slots

  slot_at : (i : ℕ) → i < m.count → get_or ys i d ≡ slot_in M.slots i
  slot_at i h = chunks-at width slot_of_words m.count i M.slots d h

  abbrev chained : ℕ → Bool
  chained = chained_at M.chain m.active

  abbrev fine : ℕ → Bool
  fine i = object_fine (sizes_of s) s M.saved_stack M.saved_frames chained i (slot_in M.slots i).object

  -- ---- the parts of the test

  record Parts : Type 0 where
    held : setup_held M.setup ≡ true
    numbers : counted M m f ≡ true
    frames : stack_frames_ok s M.frames m.depth m.height ≡ true
    chain : chain_ok M.chain m.active M.frames m.depth ≡ true
    stack : rest_ok M.stack m.height ≡ true
    table : table_test M.slots m.count ≡ true
    running : running_test M.chain m.active ys ≡ true
    slots : all_below m.count fine ≡ true
    own : distinct (rows_held ys) ≡ true
    free : free_test (sizes_of s) M.saved_stack M.saved_frames (λ n. among n (rows_held ys)) ≡ true
    after-stack : rest_ok M.saved_stack (saved_stack_size s) ≡ true
    after-frames : rest_ok M.saved_frames (saved_frames_size s) ≡ true
    ready : queue_held true ys M.ready m.ready ≡ true
    finalize : queue_held false ys M.finalize m.finalize ≡ true

  parts : whole_test M m f ≡ true → Parts
  parts h =
      let a = setup_held M.setup in
      let b = counted M m f in
      let c₁ = stack_frames_ok s M.frames m.depth m.height in
      let c₂ = chain_ok M.chain m.active M.frames m.depth in
      let c₃ = rest_ok M.stack m.height in
      let c = c₁ && c₂ && c₃ in
      let d₁ = table_test M.slots m.count in
      let d₂ = running_test M.chain m.active ys in
      let r₁ = all_below m.count fine in
      let r₂ = distinct (rows_held ys) in
      let r₃ = free_test (sizes_of s) M.saved_stack M.saved_frames (λ n. among n (rows_held ys)) in
      let d₃ = r₁ && r₂ && r₃ in
      let d₄ = rest_ok M.saved_stack (saved_stack_size s) in
      let d₅ = rest_ok M.saved_frames (saved_frames_size s) in
      let e₁ = queue_held true ys M.ready m.ready in
      let e₂ = queue_held false ys M.finalize m.finalize in
      let o = d₁ && d₂ && d₃ && d₄ && d₅ in
      let h₄ = and_left (a && b && c && o) (e₁ && e₂) h in
      let h₃ = and_left (a && b && c) o h₄ in
      let h₂ = and_left (a && b) c h₃ in
      let q = and_right (a && b && c && o) (e₁ && e₂) h in
      let p = and_right (a && b && c) o h₄ in
      let t = and_right (a && b) c h₃ in
      let p₄ = and_left (d₁ && d₂ && d₃ && d₄) d₅ p in
      let p₃ = and_left (d₁ && d₂ && d₃) d₄ p₄ in
      let p₂ = and_left (d₁ && d₂) d₃ p₃ in
      let r = and_right (d₁ && d₂) d₃ p₃ in
      record {
        held = and_left a b h₂;
        numbers = and_right a b h₂;
        frames = and_left c₁ c₂ (and_left (c₁ && c₂) c₃ t);
        chain = and_right c₁ c₂ (and_left (c₁ && c₂) c₃ t);
        stack = and_right (c₁ && c₂) c₃ t;
        table = and_left d₁ d₂ p₂;
        running = and_right d₁ d₂ p₂;
        slots = and_left r₁ r₂ (and_left (r₁ && r₂) r₃ r);
        own = and_right r₁ r₂ (and_left (r₁ && r₂) r₃ r);
        free = and_right (r₁ && r₂) r₃ r;
        after-stack = and_right (d₁ && d₂ && d₃) d₄ p₄;
        after-frames = and_right (d₁ && d₂ && d₃ && d₄) d₅ p;
        ready = and_left e₁ e₂ q;
        finalize = and_right e₁ e₂ q;
      }

  whole : Parts → whole_test M m f ≡ true
  whole p =
      both
      (both (both (both p.held p.numbers) (both (both p.frames p.chain) p.stack))
      (both (both (both (both p.table p.running) (both (both p.slots p.own) p.free)) p.after-stack) p.after-frames))
      (both p.ready p.finalize)

  -- ---- from the test to the rules

  module _ (p : Parts) where
    n : Numbers M m f
    n = numbers_of M m f p.held p.numbers

    accepted : setup_ok s ≡ true
    accepted = and_left (setup_ok s) (same M.setup (pad (length M.setup) (setup_words s))) p.held

    one : 1 ≤ s.limits.rows
    one = some-row s accepted

    run : each (λ v. by_coro running (coro_of ys v)) vs ≡ true
    run = and_left (each (λ v. by_coro running (coro_of ys v)) vs) (distinct vs) p.running

    fits : (i : ℕ) → i < length ys → slot_fits (get_or ys i d) ≡ true
    fits i h = each_at slot_fits ys i d (and_right (slots_held M.slots m.count) (each slot_fits ys) p.table) h

    passes_at : (i : ℕ) → i < length ys → object_fine (sizes_of s) s M.saved_stack M.saved_frames chained i (get_or ys i d).object ≡ true
    passes_at i h =
        let k : i < m.count = let e = count in omega arith in
        ap (λ (y : Slot H.Object). object_fine (sizes_of s) s M.saved_stack M.saved_frames chained i y.object) (slot_at i k) ∙ holds_at m.count i fine k p.slots

    all : All s M ys
    all i h = kept_of s M n.room.saved_stack n.room.saved_frames one chained i (get_or ys i d).object (passes_at i h)

    slot-fine : (i : ℕ) → i < length (objects_of s M ys) → SlotOk false s vs i (at (objects_of s M ys) i)
    slot-fine i g =
        let h : i < length ys = subst (λ x. i < x) (long s M ys) g in
        let z = (sizes-fit M.setup p.held).slots in
        let small : i < 2 ^ 32 = let e = count in let c = n.counts.count in omega arith in
        subst (SlotOk false s vs i) (sym (at-object s M ys i))
        (slot_ok s M vs i (get_or ys i d) (all i h) (fits i h)
        (ap (λ b. not (runs (MO.as_coro (object_of s M (get_or ys i d).object))) || b) (sym (chain-word s M ys vs i run small))
        ∙ runs_of s M n.room.saved_stack n.room.saved_frames one chained i (get_or ys i d).object (passes_at i h)))

    height : m.height ≤ length M.stack
    height = let a = n.room.stack in let b = n.counts.height in omega arith

    framed : (frames_held M.frames m.depth && frames_ok w && entry_ok w) ≡ true
    framed = sym ((decided M m f).frames height) ∙ p.frames

    linked : (chain_held M.chain m.active && floors_ok w && drivers_ok w) ≡ true
    linked = sym (decided M m f).chain ∙ p.chain

    tower : Tower false s w.stack w.frames w.chain
    unfolding frames_ok entry_ok floors_ok drivers_ok
    tower =
        let fs = w.frames in
        let k = length w.stack in
        let a = frames_held M.frames m.depth in
        let b₁ = bases_ok k fs in
        let b₂ = each (frame_names s) fs in
        let b₃ = conts_lie fs in
        let b₄ = catches_lie s k fs in
        let g = and_left (a && frames_ok w) (entry_ok w) framed in
        let e = and_right a (frames_ok w) g in
        let e₃ = and_left (b₁ && b₂ && b₃) b₄ e in
        let e₂ = and_left (b₁ && b₂) b₃ e₃ in
        let x = chain_held M.chain m.active in
        let y = and_left (x && floors_ok w) (drivers_ok w) linked in
        let l₁ = length-piled 6 frame_words frame_of m.depth M.frames in
        let l₂ = length-take-le m.height M.stack height in
        let c = n.counts in
        record {
          depth = omega (arith, c.depth, l₁);
          height = omega (arith, c.height, l₂);
          stands =
              stands s k fs w.chain (and_left b₁ b₂ e₂) (and_right b₁ b₂ e₂) (and_right (b₁ && b₂) b₃ e₃) (and_right (b₁ && b₂ && b₃) b₄ e) (λ z. no_false z)
              (and_right (a && frames_ok w) (entry_ok w) framed) (and_right x (floors_ok w) y) (and_right (x && floors_ok w) (drivers_ok w) linked);
        }

    queued-ready : (queue_ok (λ r. r.task) w w.ready && rest_ok M.ready m.ready) ≡ true
    queued-ready = sym (decided M m f).ready ∙ p.ready

    queued-finalize : (queue_ok (λ r. r.finalized) w w.finalize && rest_ok M.finalize m.finalize) ≡ true
    queued-finalize = sym (decided M m f).finalize ∙ p.finalize

    is-sound : Sound false w
    is-sound =
        let r₁ = each (λ v. marked (λ r. r.task) (coro_in w.slots v)) w.ready in
        let r₂ = distinct w.ready in
        let q₁ = and_left (r₁ && r₂) (rest_ok M.ready m.ready) queued-ready in
        let z₁ = each (λ v. marked (λ r. r.finalized) (coro_in w.slots v)) w.finalize in
        let z₂ = distinct w.finalize in
        let q₂ = and_left (z₁ && z₂) (rest_ok M.finalize m.finalize) queued-finalize in
        record {
          setup = accepted;
          tower = tower;
          heap =
              record {
                small = (facts s accepted).slots;
                count = let a = long s M ys in let b = count in let c = n.counts.count in omega arith;
                slots = slot-fine;
                running = each-runs s M ys vs ∙ run;
                apart = and_right (each (λ v. by_coro running (coro_of ys v)) vs) (distinct vs) p.running;
                rows = record { inside = rows_inside s M ys all p.free; own = ap distinct (held_same s M ys) ∙ p.own };
              };
          tasks = record { marks = and_left r₁ r₂ q₁; apart = and_right r₁ r₂ q₁ };
          cleanups = record { marks = and_left z₁ z₂ q₂; apart = and_right z₁ z₂ q₂ };
          room = n.used;
          banked = n.fuel;
          outcome = and_right (outcome_held m.outcome) (outcome_range (outcome_in m.outcome)) n.outcome;
        }

    all-passed : Passed M m f
    all-passed =
        let u = same M.setup (pad (length M.setup) (setup_words s)) in
        let a = frames_held M.frames m.depth in
        let x = chain_held M.chain m.active in
        record {
          setup = accepted;
          held = and_right (setup_ok s) u p.held;
          room = n.room-ok;
          counts = n.counts-ok;
          outcome = and_left (outcome_held m.outcome) (outcome_range (outcome_in m.outcome)) n.outcome;
          runs = both (both p.stack (and_right (queue_ok (λ r. r.task) w w.ready) (rest_ok M.ready m.ready) queued-ready)) (and_right (queue_ok (λ r. r.finalized) w w.finalize) (rest_ok M.finalize m.finalize) queued-finalize);
          frames = and_left a (frames_ok w) (and_left (a && frames_ok w) (entry_ok w) framed);
          chain = and_left x (floors_ok w) (and_left (x && floors_ok w) (drivers_ok w) linked);
          slots = and_left (slots_held M.slots m.count) (each slot_fits ys) p.table;
          fits = each_fits s M ys all;
          saved_stack = stack-held s M ys all p.free p.after-stack;
          saved_frames = frames-held s M ys all p.free p.after-frames;
          sound = →sound w is-sound;
        }

  -- ---- and back

  module _ (q : Passed M m f) where
    held : setup_held M.setup ≡ true
    held = both q.setup q.held

    room : Room s M
    room = room_of s M q.room (setup-room M.setup held)

    within : Counts s m
    within = counts_of s m q.counts

    some : 1 ≤ s.limits.rows
    some = some-row s q.setup

    law : Rules w
    law = rules w q.sound

    S : Sound false w
    S = sound→ {ex = false} w q.sound (λ z. no_false z)

    slot-law : (i : ℕ) → i < m.count → SlotOk false s vs i (slot (get_or ys i d).tag (object_of s M (get_or ys i d).object))
    slot-law i h =
        let g : i < length (objects_of s M ys) = let a = long s M ys in let b = count in omega arith in
        subst (SlotOk false s vs i) (at-object s M ys i) (S.heap.slots i g)

    running-all : each (λ v. by_coro running (coro_of ys v)) vs ≡ true
    running-all = sym (each-runs s M ys vs) ∙ S.heap.running

    kept_at : (i : ℕ) → i < m.count → Kept s M (get_or ys i d).object
    kept_at i h =
        let o = (slot-law i h).object in
        record {
          sizes = o.sizes;
          saved = o.saved;
          unrowed = o.rowless;
          fits = each_at (λ y. fits_row (row_words s) y.object) ys i d q.fits (let b = count in omega arith);
          row = owned s M ys S.heap.rows.own S.heap.rows.inside q.saved_stack q.saved_frames i;
        }

    fine-at : (i : ℕ) → i < m.count → fine i ≡ true
    fine-at i h =
        let small : i < 2 ^ 32 = let z = (sizes-fit M.setup held).slots in let c = within.count in omega arith in
        sym (ap (λ (y : Slot H.Object). object_fine (sizes_of s) s M.saved_stack M.saved_frames chained i y.object) (slot_at i h))
        ∙ fine_of s M room.saved_stack room.saved_frames some chained i (get_or ys i d).object (kept_at i h)
        (ap (λ b. not (runs (MO.as_coro (object_of s M (get_or ys i d).object))) || b) (chain-word s M ys vs i running-all small) ∙ (slot-law i h).running)

    high : m.height ≤ length M.stack
    high = let a = room.stack in let b = within.height in omega arith

    all-parts : Parts
    all-parts =
        let r₁ = rest_ok M.stack m.height in
        let r₂ = rest_ok M.ready m.ready in
        let r₃ = rest_ok M.finalize m.finalize in
        let rs = and_left (r₁ && r₂) r₃ q.runs in
        record {
          held = held;
          numbers = both (both (both q.room (both q.counts (le-leb m.used s.limits.memory S.room))) (both q.outcome S.outcome)) S.banked;
          frames = (decided M m f).frames high ∙ both (both q.frames law.frames) law.entry;
          chain = (decided M m f).chain ∙ both (both q.chain law.floors) law.drivers;
          stack = and_left r₁ r₂ rs;
          table = both q.slots (at_each slot_fits ys d (λ i h. slot-fits s M vs i (get_or ys i d) (slot-law i (let b = count in omega arith))));
          running = both running-all S.heap.apart;
          slots = holds-all m.count fine fine-at;
          own = sym (ap distinct (held_same s M ys)) ∙ S.heap.rows.own;
          free = all-free s M ys S.heap.rows.own S.heap.rows.inside q.saved_stack q.saved_frames;
          after-stack = rest-stack s M ys S.heap.rows.own S.heap.rows.inside q.saved_stack q.saved_frames;
          after-frames = rest-frames s M ys S.heap.rows.own S.heap.rows.inside q.saved_stack q.saved_frames;
          ready = (decided M m f).ready ∙ both (both S.tasks.marks S.tasks.apart) (and_right r₁ r₂ rs);
          finalize = (decided M m f).finalize ∙ both (both S.cleanups.marks S.cleanups.apart) (and_right (r₁ && r₂) r₃ q.runs);
        }

  pub whole_same : whole_test M m f ≡ sound_words M m f
  whole_same = iff (whole_test M m f) (sound_words M m f) (λ h. passes M m f (all-passed (parts h))) (λ h. whole (all-parts (passed M m f h)))

  fuel-rule : fuel_test f ≡ fuel_ok w
  unfolding fuel_ok
  fuel-rule = refl

  pub tied : Decided M m f
  tied = record { outcome = refl; fuel = fuel-rule; whole = whole_same }
