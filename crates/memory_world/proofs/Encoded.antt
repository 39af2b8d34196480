-- Every sound world has its words. Assumes nothing.
use mathlib.Core.Path.{◌≡◌, refl, sym, ap, ◌∙◌, subst}
use mathlib.Core.Bool.{true, false}
use mathlib.Core.List.{List, []}
use Prim.Native.Nat.{ℕ, ◌+◌, ◌-◌, ◌*◌, ◌≤◌}
use native.Mathlib.Omega.{arith}
use native.Mathlib.Nat.{le_refl}
use lib.ListN.{length, replicate, length-append, length-replicate, length-map}
use Rattle.lists.specs.Chunks.{words}
use Rattle.lists.specs.Parts.{pad}
use Rattle.lists.proofs.Tables.{length-words}
use Rattle.heap.specs.Table.{Slot}
use Rattle.heap.specs.Slot.{slot_words, slot_of_words, width}
use Rattle.std.specs.Prelude.{Option, Some, None}
use Rattle.heap.specs.declared.object.Object as H
use Rattle.heap.proofs.Slots.{length-slot}
use Rattle.model.specs.Program.{Setup, no_func, setup_ok}
use Rattle.model.specs.World.{World, fresh}
use Rattle.model.specs.Sound.{row_words, sound}
use Rattle.model.specs.Example.{example}
use Rattle.claims_sound.proofs.Tests.{no_false}
use Rattle.claims_sound.proofs.Stand.{chained}
use Rattle.claims_sound.proofs.Sound.{Sound, sound→, →sound}
use Rattle.claims_sound.proofs.Fresh.{fresh-sound}
use Rattle.memory_tables.specs.Layout.{frame_words, active_words, function_words}
use Rattle.memory_tables.specs.Parts.{upward, in_row}
use Rattle.memory_tables.specs.Sizes.{setup_words, stack_size, frames_size, chain_size, saved_stack_size, saved_frames_size, slots_size, queue_size, setup_size}
use Rattle.memory_tables.proofs.Codes.{length-frame, length-active, length-function}
use Rattle.memory_tables.proofs.Padded.{length-pad}
use Rattle.memory_tables.proofs.Parts.{run_of, piled-of}
use Rattle.memory_tables.proofs.Rowed.{rows_of}
use Rattle.memory_world.specs.Slots.{to_slot, to_slots}
use Rattle.memory_world.specs.Rows.{row_at}
use Rattle.memory_world.specs.Memory.{Lent, Beside, Slots, regs_rows, frames_rows, Rep, Room}
use Rattle.memory_world.specs.Lendings.{lent}
use Rattle.memory_world.specs.Contract.{Ok, only}
use Rattle.memory_world.proofs.Tables.{length-tabled}
use Rattle.memory_world.proofs.Few.{queue-few}
use Rattle.memory_world.specs.Words.{sizes_of, Lengths, lengths_of, needed, words_in, words_of, numbers_of, beside_of, Encoded, EveryWorld}

-- ---- lengths

pad-long : (cap : ℕ) (xs : List ℕ) → cap ≤ length (pad cap xs)
pad-long cap xs =
    let a = length-append xs (replicate (cap - length xs) 0) in
    let b : length (replicate {A = ℕ} (cap - length xs) 0) ≡ cap - length xs = length-replicate (cap - length xs) 0 in
    omega arith

numbers-long : (s : Setup) (o : Option ℕ) → s.hook ≡ o → length (setup_words s) ≡ 14 + length (words function_words s.functions)
numbers-long s None e = rw e (omega arith)
numbers-long s (Some f) e = rw e (omega arith)

pub length-setup : (s : Setup) → length (setup_words s) ≡ setup_size s
length-setup s = numbers-long s s.hook refl ∙ ap (λ n. 14 + n) (length-words 35 function_words (λ ws. no_func) length-function s.functions)

-- slots in words
slots-of : (cap : ℕ) (xs : List (Slot H.Object)) (ws : List ℕ) (n : ℕ) → ws ≡ pad cap (words slot_words xs) → n ≡ length xs → n * width ≤ cap → Slots xs ws n
slots-of cap xs ws n e c h =
    let u : length (words slot_words xs) ≡ length xs * width = length-words width slot_words slot_of_words length-slot xs in
    let l : length ws ≡ cap = ap length e ∙ length-pad cap (words slot_words xs) (omega arith) in
    record { are = e ∙ ap (λ k. pad k (words slot_words xs)) (sym l); count = c; within = omega arith }

-- ---- the law

-- lengths enough
record Enough (s : Setup) (n : Lengths) : Type 0 where
  stack : stack_size s ≤ n.stack
  frames : frames_size s ≤ n.frames
  chain : chain_size s ≤ n.chain
  slots : slots_size s ≤ n.slots
  saved_stack : saved_stack_size s ≤ n.saved_stack
  saved_frames : saved_frames_size s ≤ n.saved_frames
  ready : queue_size s ≤ n.ready
  finalize : queue_size s ≤ n.finalize
  setup : setup_size s ≤ n.setup

module _ (w : World) (h : Sound false w) (n : Lengths) (k : Enough w.setup n) where
  -- the rows of one width
  rows_fit : {A : Type 0} (rs : List A) (width cap : ℕ) → length rs ≡ w.setup.limits.rows → w.setup.limits.rows * width ≤ cap → length rs * width ≤ cap
  rows_fit rs width cap e g = rw e g

  encodes : Rep (sizes_of w.setup) w (words_in n w) (numbers_of w) w.fuel
  encodes =
      let s = w.setup in
      let M = words_in n w in
      let count = s.limits.rows in
      let deep = h.tower.depth in
      let high = h.tower.height in
      let few-active = chained h.tower.stands in
      let few-slots = h.heap.count in
      let few-tasks = queue-few (λ r. r.task) w.slots w.ready h.tasks in
      let few-cleanups = queue-few (λ r. r.finalized) w.slots w.finalize h.cleanups in
      let long = length-setup s in
      record {
        sizes = record { depth = refl; stack = refl; rows = refl; slots = refl; memory = refl; width = refl; costs = refl };
        setup = ap (λ i. pad i (setup_words s)) (sym (length-pad n.setup (setup_words s) (omega arith)));
        stack = run_of n.stack w.stack M.stack (length w.stack) refl refl (omega arith);
        frames = piled-of frame_words 6 length-frame n.frames w.frames M.frames (length w.frames) refl refl (omega arith);
        chain = piled-of active_words 6 length-active n.chain w.chain M.chain (length w.chain) refl refl (omega arith);
        slots = slots-of n.slots (to_slots w.slots) M.slots (length w.slots) refl (sym (length-map w.slots to_slot)) (omega arith);
        saved_stack =
            rows_of (λ xs. xs) (row_words s) n.saved_stack (regs_rows count w.slots) M.saved_stack [] refl
            (rows_fit (regs_rows count w.slots) (row_words s) n.saved_stack (length-tabled (λ i. (row_at i w.slots).regs) 0 count) k.saved_stack);
        saved_frames =
            rows_of (upward frame_words) (frames_size s) n.saved_frames (frames_rows count w.slots) M.saved_frames [] refl
            (rows_fit (frames_rows count w.slots) (frames_size s) n.saved_frames (length-tabled (λ i. (row_at i w.slots).frames) 0 count) k.saved_frames);
        ready = run_of n.ready w.ready M.ready (length w.ready) refl refl (omega arith);
        finalize = run_of n.finalize w.finalize M.finalize (length w.finalize) refl refl (omega arith);
        finalizing = refl;
        outcome = refl;
        used = refl;
        seq = refl;
        fuel = refl;
      }

enough : (w : World) → Room w.setup (words_of w)
enough w =
    let s = w.setup in
    record {
      stack = pad-long (stack_size s) w.stack;
      frames = pad-long (frames_size s) (upward frame_words w.frames);
      chain = pad-long (chain_size s) (upward active_words w.chain);
      slots = pad-long (slots_size s) (words slot_words (to_slots w.slots));
      saved_stack = pad-long (saved_stack_size s) (words (λ xs. in_row (row_words s) xs) (regs_rows s.limits.rows w.slots));
      saved_frames = pad-long (saved_frames_size s) (words (λ fs. in_row (frames_size s) (upward frame_words fs)) (frames_rows s.limits.rows w.slots));
      ready = pad-long (queue_size s) w.ready;
      finalize = pad-long (queue_size s) w.finalize;
      setup = pad-long (setup_size s) (setup_words s);
    }

least : (s : Setup) → Enough s (needed s)
least s =
    record {
      stack = le_refl (stack_size s);
      frames = le_refl (frames_size s);
      chain = le_refl (chain_size s);
      slots = le_refl (slots_size s);
      saved_stack = le_refl (saved_stack_size s);
      saved_frames = le_refl (saved_frames_size s);
      ready = le_refl (queue_size s);
      finalize = le_refl (queue_size s);
      setup = le_refl (setup_size s);
    }

roomy : {s : Setup} {M : Lent} → Room s M → Enough s (lengths_of M)
roomy r =
    record {
      stack = r.stack;
      frames = r.frames;
      chain = r.chain;
      slots = r.slots;
      saved_stack = r.saved_stack;
      saved_frames = r.saved_frames;
      ready = r.ready;
      finalize = r.finalize;
      setup = r.setup;
    }

plainly : (w : World) → sound w ≡ true → Sound false w
plainly w e = sound→ w e (λ z. no_false z)

encoded : (w : World) → sound w ≡ true → Encoded w
encoded w e = record { rep = encodes w (plainly w e) (needed w.setup) (least w.setup); room = enough w }

required : (w : World) (M : Beside → Lent) → sound w ≡ true → M (beside_of w) ≡ words_of w → Ok (sizes_of w.setup) M (only (numbers_of w))
required w M e own =
    let k = encoded w e in
    record {
      world = w;
      beside = beside_of w;
      rep = subst (λ (N : Lent). Rep (sizes_of w.setup) w N (numbers_of w) w.fuel) (sym own) k.rep;
      sound = e;
      room = subst (λ (N : Lent). Room w.setup N) (sym own) k.room;
    }

-- the six slices of a switch
pub switch-required : (w : World) → sound w ≡ true
    → Ok (sizes_of w.setup) (lent (words_of w).stack (words_of w).frames (words_of w).chain (words_of w).slots (words_of w).saved_stack (words_of w).saved_frames) (only (numbers_of w))
switch-required w e = required w (lent (words_of w).stack (words_of w).frames (words_of w).chain (words_of w).slots (words_of w).saved_stack (words_of w).saved_frames) e refl

-- by computation
accepted : setup_ok example ≡ true
unfolding setup_ok
accepted = refl

pub every-world : EveryWorld
every-world =
    record {
      encoded = encoded;
      inside = λ w M e room. encodes w (plainly w e) (lengths_of M) (roomy room);
      required = required;
      begun = λ s e. required (fresh s) (λ _. words_of (fresh s)) (→sound {ex = true} (fresh s) (fresh-sound s e)) refl;
      accepted = accepted;
    }
