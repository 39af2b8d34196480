-- Lent words pass the test exactly if they stand for a sound world, with room for its set-up. Assumes nothing.
use mathlib.Core.Path.{◌≡◌, refl, sym, ap, ◌∙◌, subst}
use mathlib.Core.Bool.{Bool, true, false, ◌&&◌}
use mathlib.Core.List.{List, [], ◌∷◌}
use Prim.Native.Nat.{ℕ, ◌+◌, ◌-◌, ◌*◌, ◌^◌, ◌≤◌, ◌<◌}
use native.Mathlib.Omega.{arith}
use native.Mathlib.Nat.{mul-le-mul_right}
use borrow.Author.Tests.{eqb-true, eq-eqb, leb-true, le-leb}
use lib.Dec.{eqb, ltb, leb}
use lib.ListN.{length, replicate, length-append, length-map}
use Rattle.lists.specs.Chunks.{chunk_at}
use Rattle.lists.specs.Parts.{pad}
use Rattle.lists.specs.Tests.{all_below}
use Rattle.lists.proofs.Tests.{holds_at, holds-all}
use Rattle.lists.proofs.Tables.{length-chunk}
use Rattle.heap.specs.Table.{Slot}
use Rattle.heap.specs.Heap.{slots_of}
use Rattle.heap.specs.declared.object.Object as H
use Rattle.model.specs.Lists.{each}
use Rattle.model.specs.Program.{Setup, between, limits_ok, costs_ok, function_ok, hook_ok, setup_ok}
use Rattle.model.specs.Object.{Object, Coroutine, Absent, Is, as_coro}
use Rattle.model.specs.World.{World}
use Rattle.model.specs.Sound.{row_words, saved_sizes, saved_sizes_ok, unused_ok, sound}
use Rattle.model.specs.declared.machine.Frame.{Frame}
use Rattle.model.specs.declared.machine.Fuel.{Fuel}
use Rattle.model.proofs.WellFormed.{exactly as well-formed}
use Rattle.claims_sound.proofs.Tests.{no_false, and_left, and_right, both, picked}
use Rattle.claims_sound.proofs.Stand.{chained}
use Rattle.claims_sound.proofs.Sound.{sound→, Rules, rules}
use Rattle.memory_tables.specs.Layout.{frame_words, frame_of, active_words, active_of}
use Rattle.memory_tables.specs.Parts.{upward}
use Rattle.memory_tables.specs.Sizes.{setup_words, frames_size, saved_stack_size, saved_frames_size}
use Rattle.memory_tables.proofs.Codes.{length-frame, frame_back, length-active, active-back}
use Rattle.memory_tables.proofs.Parts.{length-upward, piled-of}
use Rattle.memory_tables.proofs.Rowed.{in_row-pad}
use Rattle.memory_world.specs.Slots.{to_object, to_slot, to_slots}
use Rattle.memory_world.specs.Rows.{owns, saved_by, Row, row_at}
use Rattle.memory_world.specs.Told.{told, outcome_in}
use Rattle.memory_world.specs.Memory.{Lent, Slots, Rep, Room}
use Rattle.memory_world.specs.declared.machine.Told.{Told}
use Rattle.memory_world.specs.declared.machine.Machine.{Machine}
use Rattle.memory_world.proofs.Tables.{slots-are}
use Rattle.memory_world.proofs.Few.{queue-few}
use Rattle.memory_world.specs.Words.{sizes_of, lengths_of, words_in, words_of, numbers_of}
use Rattle.memory_world.specs.Decode.{setup_of, world_of}
use Rattle.memory_world.proofs.Encoded.{every-world, length-setup}
use Rattle.memory_world.proofs.Decoded.{one-world, sound-words}
use Rattle.memory_sound.specs.Words.{rest_ok, frames_held, outcome_held, fits_row, sound_words}
use Rattle.memory_sound.specs.Exactly.{Stands, Exactly, Tested}
use Rattle.memory_sound.proofs.Held.{same_true, true_same, rest-padded, padded-rest, run-held, held-run, piled-held, held-piled, slots-held, held-slots, row-exact, rows-held, row-chunk, rows-rest}
use Rattle.memory_sound.proofs.Rowed.{RowOk, row_ok, objects-same}
use Rattle.memory_sound.proofs.Passed.{Counts, Passed, room_of, of_room, counts_of, of-counts, passed, passes}

-- ---- numbers

-- at least one row
pub some-row : (s : Setup) → setup_ok s ≡ true → 1 ≤ s.limits.rows
unfolding setup_ok
some-row s h =
    let l = s.limits in
    let n = length s.functions in
    let a = limits_ok l in
    let b = a && costs_ok s.costs in
    let c = b && between 1 32 n in
    let d = c && leb n l.slots in
    let e = d && each function_ok s.functions in
    let k = and_left a (costs_ok s.costs) (and_left b (between 1 32 n) (and_left c (leb n l.slots) (and_left d (each function_ok s.functions) (and_left e (hook_ok s s.hook) h)))) in
    let x = between 1 128 l.depth && between 1 1024 l.stack in
    let y = x && between 1 64 l.rows in
    let r = and_right x (between 1 64 l.rows) (and_left y (between 1 4096 l.slots) (and_left (y && between 1 4096 l.slots) (ltb l.memory (2 ^ 64)) k)) in
    leb-true 1 l.rows (and_left (leb 1 l.rows) (leb l.rows 64) r)

-- an outcome's four words
told_same : (t : Told) → outcome_held t ≡ true → t ≡ told (outcome_in t)
told_same t h =
    let u = told (outcome_in t) in
    let a = eqb u.0 t.0 in
    let b = a && eqb u.1 t.1 in
    let c = b && eqb u.2 t.2 in
    let h₂ = and_left c (eqb u.3 t.3) h in
    let h₁ = and_left b (eqb u.2 t.2) h₂ in
    let e₀ = sym (eqb-true u.0 t.0 (and_left a (eqb u.1 t.1) h₁)) in
    let e₁ = sym (eqb-true u.1 t.1 (and_right a (eqb u.1 t.1) h₁)) in
    let e₂ = sym (eqb-true u.2 t.2 (and_right b (eqb u.2 t.2) h₂)) in
    let e₃ = sym (eqb-true u.3 t.3 (and_right c (eqb u.3 t.3) h)) in
    λ i. record { 0 = e₀ i; 1 = e₁ i; 2 = e₂ i; 3 = e₃ i }

same-told : (t : Told) → t ≡ told (outcome_in t) → outcome_held t ≡ true
same-told t e =
    let q = sym e in
    both (both (both (eq-eqb _ _ (λ i. (q i).0)) (eq-eqb _ _ (λ i. (q i).1))) (eq-eqb _ _ (λ i. (q i).2))) (eq-eqb _ _ (λ i. (q i).3))

-- ---- words that pass stand for what they decode to

module _ (M : Lent) (m : Machine) (f : Fuel) (p : Passed M m f) where
  abbrev s : Setup
  s = setup_of M.setup

  abbrev w : World
  w = world_of M m f

  setup-same : M.setup ≡ pad (length M.setup) (setup_words s)
  setup-same = same_true M.setup (pad (length M.setup) (setup_words s)) p.held

  room : Room s M
  room =
      room_of s M p.room
      (let rest : List ℕ = replicate (length M.setup - length (setup_words s)) 0 in
      let a : length M.setup ≡ length (setup_words s) + length rest = ap length setup-same ∙ length-append (setup_words s) rest in
      let b = length-setup s in
      omega arith)

  counts : Counts s m
  counts = counts_of s m p.counts

  laws : Rules w
  laws = rules w p.sound

  slots_same : to_slots w.slots ≡ slots_of m.count M.slots
  unfolding unused_ok
  slots_same =
      objects-same s M room.saved_stack room.saved_frames (some-row s p.setup) (slots_of m.count M.slots) p.fits
      (sound→ {ex = false} w p.sound (λ z. no_false z)).heap.rows.inside laws.unused

  row : (i : ℕ) → i < s.limits.rows → RowOk s M i (row_at i w.slots)
  unfolding saved_sizes_ok
  row i h = row_ok s M room.saved_stack room.saved_frames i h (slots_of m.count M.slots) p.fits laws.saved_sizes

  -- a row lies in its slice
  inside : (width i : ℕ) (ws : List ℕ) → i < s.limits.rows → s.limits.rows * width ≤ length ws → length (chunk_at width ws i) ≡ width
  inside width i ws h g =
      let k : (i + 1) * width ≤ s.limits.rows * width = mul-le-mul_right width (omega arith) in
      length-chunk width i ws (omega (arith, k))

  -- the words after what a row holds, and its frames
  abbrev regs-rest : ℕ → Bool
  regs-rest i = rest_ok (chunk_at (row_words s) M.saved_stack i) (length (row_at i w.slots).regs)

  abbrev frames-in : ℕ → Bool
  frames-in i = frames_held (chunk_at (frames_size s) M.saved_frames i) (length (row_at i w.slots).frames)

  held_rows : (all_below s.limits.rows regs-rest ≡ true) × (rest_ok M.saved_stack (saved_stack_size s) ≡ true)
  held_rows =
      let a = all_below s.limits.rows regs-rest in let b = rest_ok M.saved_stack (saved_stack_size s) in (and_left a b p.saved_stack, and_right a b p.saved_stack)

  held-frames : (all_below s.limits.rows frames-in ≡ true) × (rest_ok M.saved_frames (saved_frames_size s) ≡ true)
  held-frames =
      let a = all_below s.limits.rows frames-in in let b = rest_ok M.saved_frames (saved_frames_size s) in (and_left a b p.saved_frames, and_right a b p.saved_frames)

  rep : Rep (sizes_of s) w M m f
  rep =
      let a = rest_ok M.stack m.height in
      let b = a && rest_ok M.ready m.ready in
      let c = rest_ok M.finalize m.finalize in
      let k = and_left b c p.runs in
      let n = counts in
      let r = room in
      let W = row_words s in
      let F = frames_size s in
      let S = M.saved_stack in
      let Q = M.saved_frames in
      record {
        sizes = record { depth = refl; stack = refl; rows = refl; slots = refl; memory = refl; width = refl; costs = refl };
        setup = setup-same;
        stack = run-held M.stack m.height (omega arith) (and_left a (rest_ok M.ready m.ready) k);
        frames = piled-held 6 frame_words frame_of m.depth M.frames (omega arith) p.frames;
        chain = piled-held 6 active_words active_of m.active M.chain (omega arith) p.chain;
        slots = subst (λ (xs : List (Slot H.Object)). Slots xs M.slots m.count) (sym slots_same) (slots-held m.count M.slots (omega arith) p.slots);
        saved_stack =
            rows-held (λ (xs : List ℕ). xs) W (λ i. (row_at i w.slots).regs) S s.limits.rows r.saved_stack
            (λ i h.
            let o = row i h in
            let l = inside W i S h r.saved_stack in
            let e = rest-padded (chunk_at W S i) (length (row_at i w.slots).regs) (subst (λ x. length (row_at i w.slots).regs ≤ x) (sym l) o.wide) (holds_at s.limits.rows i regs-rest h held_rows.0) in
            row-exact W (chunk_at W S i) (row_at i w.slots).regs l o.wide (e ∙ ap (pad (length (chunk_at W S i))) (sym o.regs)))
            held_rows.1;
        saved_frames =
            rows-held (upward frame_words) F (λ i. (row_at i w.slots).frames) Q s.limits.rows r.saved_frames
            (λ i h.
            let o = row i h in
            let l = inside F i Q h r.saved_frames in
            let x = length (row_at i w.slots).frames in
            let q = piled-held 6 frame_words frame_of x (chunk_at F Q i) (subst (λ y. x * 6 ≤ y) (sym l) o.deep) (holds_at s.limits.rows i frames-in h held-frames.0) in
            row-exact F (chunk_at F Q i) (upward frame_words (row_at i w.slots).frames) l (subst (λ y. y ≤ F) (sym (length-upward frame_words 6 length-frame (row_at i w.slots).frames)) o.deep)
            (q.are ∙ ap (λ (fs : List Frame). pad (length (chunk_at F Q i)) (upward frame_words fs)) (sym o.frames)))
            held-frames.1;
        ready = run-held M.ready m.ready (omega arith) (and_right a (rest_ok M.ready m.ready) k);
        finalize = run-held M.finalize m.finalize (omega arith) (and_right b c p.runs);
        finalizing = refl;
        outcome = told_same m.outcome p.outcome;
        used = refl;
        seq = refl;
        fuel = refl;
      }

-- ---- words that stand for a sound world pass

-- what a row holds fits it
record Small (s : Setup) (r : Row) : Type 0 where
  wide : length r.regs ≤ row_words s
  deep : length r.frames ≤ s.limits.depth

saved-small : (s : Setup) (c : Coroutine) → saved_sizes s c ≡ true → Small s (saved_by c)
saved-small s Absent h = record { wide = omega arith; deep = omega arith }
saved-small s (Is k r) h =
    let a = leb (length k.regs) (row_words s) in
    let b = leb (length k.frames) s.limits.depth in
    let c = leb r.maxregs (row_words s) in
    let q : (a && b) ≡ true = and_left (a && b) c (and_left (a && b && c) (leb r.maxframes s.limits.depth) h) in
    record { wide = leb-true (length k.regs) (row_words s) (and_left a b q); deep = leb-true (length k.frames) s.limits.depth (and_right a b q) }

row_small : (s : Setup) (xs : List (Slot Object)) (i : ℕ) → each (λ x. saved_sizes s (as_coro x.object)) xs ≡ true → Small s (row_at i xs)
row_small s [] i h = record { wide = omega arith; deep = omega arith }
row_small s (x ∷ xs) i h =
    let c = as_coro x.object in
    picked (Small s) (owns i c) (λ _. saved-small s c (and_left (saved_sizes s c) _ h)) (λ _. row_small s xs i (and_right (saved_sizes s c) _ h))

fits-object : (s : Setup) (o : Object) → saved_sizes s (as_coro o) ≡ true → fits_row (row_words s) (to_object o) ≡ true
fits-object s Object.Empty h = refl
fits-object s (Object.Func f) h = refl
fits-object s (Object.Int n) h = refl
fits-object s (Object.Iter c d k) h = refl
fits-object s (Object.Error e f p v) h = refl
fits-object s (Object.Coro k r) h = le-leb (length k.regs) (row_words s) (saved-small s (Is k r) h).wide

fits_all : (s : Setup) (xs : List (Slot Object)) → each (λ x. saved_sizes s (as_coro x.object)) xs ≡ true → each (λ y. fits_row (row_words s) y.object) (to_slots xs) ≡ true
fits_all s [] h = refl
fits_all s (x ∷ xs) h =
    let t = saved_sizes s (as_coro x.object) in
    both (fits-object s x.object (and_left t _ h)) (fits_all s xs (and_right t _ h))

module _ (M : Lent) (m : Machine) (f : Fuel) (rep : Rep (sizes_of (world_of M m f).setup) (world_of M m f) M m f) (ok : sound (world_of M m f) ≡ true)
    (room : Room (world_of M m f).setup M) where
  sizes : each (λ x. saved_sizes (setup_of M.setup) (as_coro x.object)) (world_of M m f).slots ≡ true
  unfolding saved_sizes_ok
  sizes = (rules (world_of M m f) ok).saved_sizes

  all_pass : Passed M m f
  all_pass =
      let w = world_of M m f in
      let s = w.setup in
      let h = sound→ {ex = false} w ok (λ z. no_false z) in
      let W = row_words s in
      let F = frames_size s in
      let S = M.saved_stack in
      let Q = M.saved_frames in
      let n = s.limits.rows in
      let e₁ = rep.stack.count in
      let e₂ = rep.frames.count in
      let e₃ = rep.chain.count in
      let e₄ = rep.ready.count in
      let e₅ = rep.finalize.count in
      let e₆ : m.count ≡ length w.slots = rep.slots.count ∙ length-map w.slots to_slot in
      let k₁ = h.tower.height in
      let k₂ = h.tower.depth in
      let k₃ = chained h.tower.stands in
      let k₄ = queue-few (λ r. r.task) w.slots w.ready h.tasks in
      let k₅ = queue-few (λ r. r.finalized) w.slots w.finalize h.cleanups in
      let k₆ = h.heap.count in
      record {
        setup = h.setup;
        held = true_same M.setup _ rep.setup;
        room = of_room s M room;
        counts = of-counts s m (record { height = omega arith; depth = omega arith; active = omega arith; count = omega arith; ready = omega arith; finalize = omega arith });
        outcome = same-told m.outcome rep.outcome;
        runs = both (both (held-run _ _ _ rep.stack) (held-run _ _ _ rep.ready)) (held-run _ _ _ rep.finalize);
        frames = held-piled 6 frame_words frame_of length-frame frame_back w.frames M.frames m.depth rep.frames;
        chain = held-piled 6 active_words active_of length-active active-back w.chain M.chain m.active rep.chain;
        slots = held-slots (to_slots w.slots) M.slots m.count rep.slots;
        fits =
            ap (λ (ys : List (Slot H.Object)). each (λ y. fits_row (row_words s) y.object) ys) (slots-are (to_slots w.slots) M.slots m.count rep.slots)
            ∙ fits_all s w.slots sizes;
        saved_stack =
            both
            (holds-all n (λ i. rest_ok (chunk_at W S i) (length (row_at i w.slots).regs))
            (λ i g.
            let xs = (row_at i w.slots).regs in
            ap (λ (c : List ℕ). rest_ok c (length xs)) (row-chunk (λ (z : List ℕ). z) W (λ j. (row_at j w.slots).regs) S n i g rep.saved_stack ∙ in_row-pad W xs (row_small s w.slots i sizes).wide)
            ∙ padded-rest W (length xs) xs refl))
            (rows-rest (λ (z : List ℕ). z) W (λ j. (row_at j w.slots).regs) S n rep.saved_stack);
        saved_frames =
            both
            (holds-all n (λ i. frames_held (chunk_at F Q i) (length (row_at i w.slots).frames))
            (λ i g.
            let fs = (row_at i w.slots).frames in
            let d = (row_small s w.slots i sizes).deep in
            let l = length-upward frame_words 6 length-frame fs in
            let c = row-chunk (upward frame_words) F (λ j. (row_at j w.slots).frames) Q n i g rep.saved_frames ∙ in_row-pad F (upward frame_words fs) (omega arith) in
            held-piled 6 frame_words frame_of length-frame frame_back fs (chunk_at F Q i) (length fs)
            (piled-of frame_words 6 length-frame F fs (chunk_at F Q i) (length fs) c refl (omega arith))))
            (rows-rest (upward frame_words) F (λ j. (row_at j w.slots).frames) Q n rep.saved_frames);
        sound = ok;
      }

-- ---- the law

-- what is a world's words, to the end of each slice, stands for it
its_own : (w : World) (M : Lent) (m : Machine) (f : Fuel) → sound w ≡ true → Room w.setup M → M ≡ words_in (lengths_of M) w → m ≡ numbers_of w → f ≡ w.fuel → Stands M m f w
its_own w M m f e r a b c =
    record {
      rep =
          subst (λ (N : Lent). Rep (sizes_of w.setup) w N m f) (sym a)
          (subst (λ (n : Machine). Rep (sizes_of w.setup) w (words_in (lengths_of M) w) n f) (sym b)
          (subst (λ (g : Fuel). Rep (sizes_of w.setup) w (words_in (lengths_of M) w) (numbers_of w) g) (sym c) (every-world.inside w M e r)));
      sound = e;
      room = r;
    }

exactly : (M : Lent) (m : Machine) (f : Fuel) → Exactly M m f
exactly M m f =
    record {
      stands = standing;
      passes = stood;
      one = λ w h. one-world.decoded h.sound h.rep;
      formed =
          λ e. let h = standing e in
          let k = one-world.exactly h.rep in
          record { formed = well-formed.formed (world_of M m f) h.sound; room = h.room; words = k.0; numbers = k.1 };
      sounds = λ q. stood (world_of M m f) (its_own (world_of M m f) M m f (well-formed.sounds (world_of M m f) q.formed) q.room q.words q.numbers refl);
    }
  where
    standing : sound_words M m f ≡ true → Stands M m f (world_of M m f)
    standing e = let p = passed M m f e in record { rep = rep M m f p; sound = p.sound; room = room M m f p }

    stood : (w : World) → Stands M m f w → sound_words M m f ≡ true
    stood w h =
        let q = sym (one-world.decoded h.sound h.rep) in
        let k = sound-words h.sound h.rep in
        passes M m f (all_pass M m f k.rep k.sound (subst (λ (x : World). Room x.setup M) q h.room))

pub tested : Tested
tested =
    record {
      exactly = exactly;
      own = λ w e. let k = every-world.encoded w e in (exactly (words_of w) (numbers_of w) w.fuel).passes w (record { rep = k.rep; sound = e; room = k.room });
    }
