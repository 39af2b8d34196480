-- A sound memory stands for exactly one world: what it decodes to. Assumes nothing.
use mathlib.Core.Path.{◌≡◌, refl, sym, ap, ap₂, ◌∙◌, subst}
use mathlib.Core.Bool.{true, false, ◌&&◌}
use mathlib.Core.List.{List, ◌++◌}
use Prim.Native.Nat.{ℕ, ◌-◌, ◌≤◌, ◌<◌}
use native.Mathlib.Omega.{arith}
use lib.ListN.{length, get_or, take, replicate, length-map}
use lib.Dec.{leb}
use lib.Seq.{ext_get_or}
use borrow.Author.Tests.{leb-true}
use Rattle.lists.specs.Parts.{pad}
use Rattle.heap.specs.Table.{Slot}
use Rattle.heap.specs.Heap.{slots_of}
use Rattle.heap.specs.declared.object.Object as H
use Rattle.model.specs.Lists.{each}
use Rattle.model.specs.Program.{Setup, func, func_of, no_func, function_ok, handler_ok, setup_ok}
use Rattle.model.specs.World.{World}
use Rattle.model.specs.Sound.{sound}
use Rattle.model.specs.declared.machine.Fuel.{Fuel}
use Rattle.claims_sound.proofs.Tests.{and_left, and_right, each_at, no_false}
use Rattle.claims_sound.proofs.Sound.{Sound, sound→, facts}
use Rattle.memory_tables.specs.Layout.{function_in}
use Rattle.memory_tables.specs.Parts.{Run}
use Rattle.memory_tables.specs.Sizes.{setup_words}
use Rattle.memory_tables.proofs.Padded.{take-pad}
use Rattle.memory_tables.proofs.Setups.{limits-back, costs-back, hook-back, functions-count, function-at}
use Rattle.memory_tables.proofs.Decode.{frames-back, chain_back}
use Rattle.memory_world.specs.Slots.{to_slot, to_slots}
use Rattle.memory_world.specs.Told.{outcome_in}
use Rattle.memory_world.specs.Memory.{Lent, Rep}
use Rattle.memory_world.specs.declared.machine.Machine.{Machine}
use Rattle.memory_world.specs.declared.machine.Sizes.{Sizes}
use Rattle.memory_world.proofs.Told.{told_back}
use Rattle.memory_world.proofs.Tables.{slots-are, rows_at, length-tabled}
use Rattle.memory_world.specs.Words.{sizes_of, lengths_of, words_in, numbers_of}
use Rattle.memory_world.specs.Decode.{functions_of, setup_of, objects_of, world_of, SoundWords, OneWorld}
use Rattle.memory_world.proofs.Encoded.{every-world}
use Rattle.memory_world.proofs.Saved.{objects-back}

-- ---- the set-up

module _ (s : Setup) (ok : setup_ok s ≡ true) (rest : List ℕ) where
  few-handlers : (i : ℕ) → i < length s.functions → length (func s i).handlers ≤ 8
  few-handlers i h =
      let f = func s i in
      let a = leb f.regs 256 && leb f.params f.regs in
      let c = leb (length f.handlers) 8 in
      leb-true (length f.handlers) 8 (and_right a c (and_left (a && c) (each (handler_ok f.regs) f.handlers) (each_at function_ok s.functions i no_func (facts s ok).functions h)))

  functions-back : functions_of (setup_words s ++ rest) ≡ s.functions
  functions-back =
      let ws = setup_words s ++ rest in
      let n = functions-count s rest in
      let l : length (functions_of ws) ≡ get_or ws 13 0 = length-tabled (λ i. func_of (function_in ws i)) 0 (get_or ws 13 0) in
      ext_get_or no_func (functions_of ws) s.functions (l ∙ n)
      (λ i h. let g : i < get_or ws 13 0 = omega arith in let k : i < length s.functions = omega arith in
      rows_at (λ j. func_of (function_in ws j)) (get_or ws 13 0) i no_func g ∙ function-at s rest i k (few-handlers i k))

  setup-back : setup_of (setup_words s ++ rest) ≡ s
  setup-back =
      let a = limits-back s rest in
      let b = costs-back s rest in
      let c = hook-back s rest in
      let d = functions-back in
      λ i. record { limits = a i; costs = b i; hook = c i; functions = d i }

-- the set-up is what its words decode to
pub setup-is : (s : Setup) (ws : List ℕ) → setup_ok s ≡ true → ws ≡ pad (length ws) (setup_words s) → setup_of ws ≡ s
setup-is s ws ok e = ap setup_of e ∙ setup-back s ok (replicate (length ws - length (setup_words s)) 0)

-- ---- the world

run-back : (xs ws : List ℕ) (n : ℕ) → Run xs ws n → take n ws ≡ xs
run-back xs ws n r = ap (take n) r.are ∙ take-pad (length ws) n xs r.count

module _ {l : Sizes} {w : World} {M : Lent} {m : Machine} {f : Fuel} (h : Sound false w) (rep : Rep l w M m f) where
  same-setup : setup_of M.setup ≡ w.setup
  same-setup = setup-is w.setup M.setup h.setup rep.setup

  same-slots : objects_of (setup_of M.setup) M (slots_of m.count M.slots) ≡ w.slots
  same-slots =
      ap₂ (λ (s : Setup) (xs : List (Slot H.Object)). objects_of s M xs) same-setup (slots-are (to_slots w.slots) M.slots m.count rep.slots)
      ∙ objects-back w.setup M w.slots h.heap.rows.own h.heap.rows.inside rep.saved_stack rep.saved_frames (λ i k. (h.heap.slots i k).object)

  same-world : world_of M m f ≡ w
  same-world =
      let e₁ = same-setup in
      let e₂ = run-back w.stack M.stack m.height rep.stack in
      let e₃ = frames-back w.frames M.frames m.depth rep.frames in
      let e₄ = chain_back w.chain M.chain m.active rep.chain in
      let e₅ = same-slots in
      let e₆ = run-back w.ready M.ready m.ready rep.ready in
      let e₇ = run-back w.finalize M.finalize m.finalize rep.finalize in
      let e₈ = ap outcome_in rep.outcome ∙ told_back w.outcome in
      λ i.
      record {
        setup = e₁ i;
        stack = e₂ i;
        frames = e₃ i;
        chain = e₄ i;
        slots = e₅ i;
        ready = e₆ i;
        finalize = e₇ i;
        finalizing = rep.finalizing i;
        outcome = e₈ i;
        used = rep.used i;
        seq = rep.seq i;
        fuel = rep.fuel i;
      }

-- ---- the laws

decoded : {l : Sizes} {w : World} {M : Lent} {m : Machine} {f : Fuel} → sound w ≡ true → Rep l w M m f → world_of M m f ≡ w
decoded {l} {w} e rep = same-world (sound→ w e (λ z. no_false z)) rep

-- the sizes are those of the set-up
sized : {l : Sizes} {w : World} {M : Lent} {m : Machine} {f : Fuel} → Rep l w M m f → Rep (sizes_of w.setup) w M m f
sized {l} {w} {M} {m} {f} rep =
    record {
      sizes = record { depth = refl; stack = refl; rows = refl; slots = refl; memory = refl; width = refl; costs = refl };
      setup = rep.setup;
      stack = rep.stack;
      frames = rep.frames;
      chain = rep.chain;
      slots = rep.slots;
      saved_stack = rep.saved_stack;
      saved_frames = rep.saved_frames;
      ready = rep.ready;
      finalize = rep.finalize;
      finalizing = rep.finalizing;
      outcome = rep.outcome;
      used = rep.used;
      seq = rep.seq;
      fuel = rep.fuel;
    }

-- words that stand for a sound world are sound
pub sound-words : {l : Sizes} {w : World} {M : Lent} {m : Machine} {f : Fuel} → sound w ≡ true → Rep l w M m f → SoundWords M m f
sound-words {l} {w} {M} {m} {f} e rep =
    let q = sym (decoded e rep) in
    record { rep = subst (λ (x : World). Rep (sizes_of x.setup) x M m f) q (sized rep); sound = subst (λ (x : World). sound x ≡ true) q e }

-- what stands for a world is its words and its numbers
module _ {l : Sizes} {w : World} {M : Lent} {m : Machine} {f : Fuel} (r : Rep l w M m f) where
  exact-words : M ≡ words_in (lengths_of M) w
  exact-words = λ i.
      record {
        stack = r.stack.are i;
        frames = r.frames.are i;
        chain = r.chain.are i;
        slots = r.slots.are i;
        saved_stack = r.saved_stack.are i;
        saved_frames = r.saved_frames.are i;
        ready = r.ready.are i;
        finalize = r.finalize.are i;
        setup = r.setup i;
      }

  exact-numbers : m ≡ numbers_of w
  exact-numbers =
      let count = r.slots.count ∙ length-map w.slots to_slot in
      λ i.
      record {
        height = r.stack.count i;
        depth = r.frames.count i;
        active = r.chain.count i;
        count = count i;
        ready = r.ready.count i;
        finalize = r.finalize.count i;
        finalizing = r.finalizing i;
        outcome = r.outcome i;
        used = r.used i;
        seq = r.seq i;
      }

pub one-world : OneWorld
one-world =
    record {
      decoded = decoded;
      one = λ e e' r r'. sym (decoded e r) ∙ decoded e' r';
      held = λ {M} {m} {f} h. record { world = world_of M m f; rep = h.rep; sound = h.sound };
      sounds = λ h. sound-words h.sound h.rep;
      back = λ w e. decoded e (every-world.encoded w e).rep;
      exactly = λ r. (exact-words r, exact-numbers r, r.fuel);
    }
