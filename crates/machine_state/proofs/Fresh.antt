-- Cleared words, a set-up's words and its function objects stand for its fresh world. Assumes nothing.
use mathlib.Core.Path.{◌≡◌, refl, sym, ap, ap₂, ◌∙◌, subst}
use mathlib.Core.List.{List, [], ◌∷◌, ◌++◌, append-nil}
use Prim.Native.Nat.{ℕ, zero, suc, ◌+◌, ◌-◌, ◌*◌, ◌≤◌}
use native.Mathlib.Omega.{arith}
use native.Mathlib.Numerals.{add-one}
use native.Mathlib.Nat.{suc-mul, zero-mul, sub-zero}
use lib.ListN.{length, get_or, take, replicate, length-replicate, drop_of_length-le}
use lib.Seq.{take_at}
use Rattle.lists.specs.Pick.{pick-false}
use Rattle.lists.specs.Chunks.{words}
use Rattle.lists.specs.Parts.{pad, splice}
use Rattle.heap.specs.Table.{Slot, slot}
use Rattle.heap.specs.Heap.{put_slot, SlotFits}
use Rattle.heap.specs.declared.object.Object as H
use Rattle.heap.specs.declared.object.Object.TheVariants as O
use Rattle.model.specs.Program.{Func, Setup}
use Rattle.model.specs.Sound.{row_words}
use Rattle.model.specs.World.{fresh, function_objects}
use Rattle.memory_tables.specs.Parts.{Run, Piled, Rows, in_row, upward}
use Rattle.memory_tables.specs.Layout.{frame_words, active_words}
use Rattle.memory_tables.specs.Sizes.{setup_words, frames_size}
use Rattle.memory_tables.proofs.Padded.{zeros-split, length-pad}
use Rattle.memory_tables.proofs.Parts.{run_of}
use Rattle.memory_tables.proofs.Setups.{functions-count}
use Rattle.memory_tables.proofs.Rowed.{rows_of}
use Rattle.memory_world.specs.Rows.{no_row, row_at}
use Rattle.memory_world.specs.Slots.{to_slots}
use Rattle.memory_world.specs.Memory.{Lent, Slots, tabled, Rep, Room, Sized, regs_rows, frames_rows}
use Rattle.memory_world.proofs.Tables.{length-tabled, slots-push}
use Rattle.memory_world.specs.declared.machine.Machine.{Machine}
use Rattle.memory_world.specs.declared.machine.Sizes.{Sizes}
use Rattle.machine_state.specs.Setup.{function_slots, start}

-- a slice written whole
pub whole_row : (ws xs : List ℕ) → length xs ≤ length ws → splice ws 0 (pad (length ws) (take (length xs) xs)) ≡ pad (length ws) xs
whole_row ws xs h =
    let e : take (length xs) xs ≡ xs = ap (take (length xs)) (sym (append-nil xs)) ∙ take_at xs [] (length xs) refl in
    let l : length (pad (length ws) xs) ≡ length ws = length-pad (length ws) xs h in
    ap (λ (z : List ℕ). splice ws 0 (pad (length ws) z)) e
    ∙ ap (λ (z : List ℕ). pad (length ws) xs ++ z) (drop_of_length-le ws {i = length (pad (length ws) xs)} (omega arith))
    ∙ append-nil (pad (length ws) xs)

-- ---- nothing in words of 0

run_none : (n : ℕ) → Run [] (replicate n 0) 0
run_none n = run_of n [] (replicate n 0) 0 (ap (λ (k : ℕ). replicate {A = ℕ} k 0) (sym (sub-zero n))) refl (omega arith)

piled-none : {A : Type 0} (enc : A → List ℕ) (w n : ℕ) → Piled enc w [] (replicate n 0) 0
piled-none enc w n =
    let l : length (replicate {A = ℕ} n 0) ≡ n = length-replicate n 0 in
    record { are = ap (λ (k : ℕ). replicate {A = ℕ} k 0) (sym l ∙ sym (sub-zero (length (replicate {A = ℕ} n 0)))); count = refl; within = omega (arith, zero-mul w) }

module _ {A : Type 0} (enc : A → List ℕ) (w : ℕ) (none : A) (nothing : enc none ≡ []) where
  row-none : in_row w (enc none) ≡ replicate w 0
  row-none =
      ap (in_row w) nothing ∙ ap (λ (z : List ℕ). take w z) (sym (append-nil (replicate w 0)))
      ∙ take_at (replicate w 0) [] w (length-replicate w 0)

  rows-zero : (f : ℕ → A) → ((i : ℕ) → f i ≡ none) → (i n : ℕ) → words (λ x. in_row w (enc x)) (tabled f i n) ≡ replicate (n * w) 0
  rows-zero f h i zero = ap (λ k. replicate k 0) (sym (zero-mul w))
  rows-zero f h i (suc n) =
      let e : suc n * w ≡ w + n * w = omega (arith, suc-mul n w) in
      let k : suc n * w - w ≡ n * w = omega (arith, suc-mul n w) in
      ap₂ (λ (a b : List ℕ). a ++ b) (ap (λ x. in_row w (enc x)) (h i) ∙ row-none) (rows-zero f h (suc i) n ∙ ap (λ j. replicate j 0) (sym k))
      ∙ sym (zeros-split w (suc n * w) (omega (arith, suc-mul n w)))

  rows_none : (f : ℕ → A) → ((i : ℕ) → f i ≡ none) → (n k : ℕ) → n * w ≤ k → Rows enc w (tabled f 0 n) (replicate k 0)
  rows_none f h n k fits =
      let l : length (replicate {A = ℕ} (n * w) 0) ≡ n * w = length-replicate (n * w) 0 in
      let t : length (tabled f 0 n) ≡ n = length-tabled f 0 n in
      rows_of enc w k (tabled f 0 n) (replicate k 0) none
      (zeros-split (n * w) k fits ∙ ap (λ j. replicate (n * w) 0 ++ replicate (k - j) 0) (sym l) ∙ ap (pad k) (sym (rows-zero f h 0 n)))
      (subst (λ j. j * w ≤ k) (sym t) fits)

-- ---- the objects of functions

no_rows : (i k : ℕ) (fs : List Func) → row_at i (function_objects k fs) ≡ no_row
no_rows i k [] = refl
no_rows i k (f ∷ fs) = pick-false _ _ ∙ no_rows i (suc k) fs

same-slots : (k : ℕ) (fs : List Func) → to_slots (function_objects k fs) ≡ tabled (λ i. slot 0 (O.Func i)) k (length fs)
same-slots k [] = refl
same-slots k (f ∷ fs) = ap (λ (z : List (Slot H.Object)). slot 0 (O.Func k) ∷ z) (same-slots (suc k) fs)

-- one more
more-slots : (i n : ℕ) → tabled (λ j. slot 0 (O.Func j)) i (suc n) ≡ tabled (λ j. slot 0 (O.Func j)) i n ++ (slot 0 (O.Func (i + n)) ∷ [])
more-slots i zero = ap (λ k. slot 0 (O.Func k) ∷ []) (let z : i ≡ i + 0 = omega arith in z)
more-slots i (suc n) =
    let z : suc i + n ≡ i + suc n = omega arith in
    ap (λ (y : List (Slot H.Object)). slot 0 (O.Func i) ∷ y)
    (more-slots (suc i) n ∙ ap (λ k. tabled (λ j. slot 0 (O.Func j)) (suc i) n ++ (slot 0 (O.Func k) ∷ [])) z)

pub slots-none : (ws : List ℕ) (n : ℕ) → ws ≡ replicate n 0 → Slots (function_slots 0) ws 0
slots-none ws n e =
    let l : length ws ≡ n = ap length e ∙ length-replicate n 0 in
    record { are = e ∙ ap (λ (k : ℕ). replicate {A = ℕ} k 0) (sym l ∙ sym (sub-zero (length ws))); count = refl; within = omega arith }

pub next-slot : (ws ws' : List ℕ) (i : ℕ) → ws' ≡ put_slot ws i (slot 0 (O.Func i)) → Slots (function_slots i) ws i → SlotFits ws i → Slots (function_slots (i + 1)) ws' (i + 1)
next-slot ws ws' i e s h =
    let z : 0 + i ≡ i = omega arith in
    let one : function_slots (i + 1) ≡ function_slots i ++ (slot 0 (O.Func i) ∷ []) =
    ap function_slots (add-one i) ∙ more-slots 0 i ∙ ap (λ k. function_slots i ++ (slot 0 (O.Func k) ∷ [])) z in
    subst (λ y. Slots y ws' (i + 1)) (sym one)
    (subst (λ y. Slots (function_slots i ++ (slot 0 (O.Func i) ∷ [])) y (i + 1)) (sym e) (slots-push (function_slots i) ws i (slot 0 (O.Func i)) s h))

pub set-up-rep : (s : Setup) (l : Sizes) (M : Lent) (m : Machine) (n : ℕ) (given : List ℕ) → m ≡ start n → given ≡ setup_words s → Sized s l → Room s M → n ≡ get_or given 13 0
    → (a b c d e g h : ℕ) → M.stack ≡ replicate a 0 → M.frames ≡ replicate b 0 → M.chain ≡ replicate c 0 → M.saved_stack ≡ replicate d 0 → M.saved_frames ≡ replicate e 0
    → M.ready ≡ replicate g 0 → M.finalize ≡ replicate h 0 → M.setup ≡ pad (length M.setup) given → Slots (function_slots n) M.slots n
    → Rep l (fresh s) M m (fresh s).fuel
set-up-rep s l M m n given em eg sized room en a b c d e g h e₁ e₂ e₃ e₄ e₅ e₆ e₇ es slots =
    let xs = function_objects 0 s.functions in
    let count : n ≡ length s.functions = en ∙ ap (λ (z : List ℕ). get_or z 13 0) (eg ∙ sym (append-nil (setup_words s))) ∙ functions-count s [] in
    let r₁ = room.saved_stack in
    let r₂ = room.saved_frames in
    let l₁ : length M.saved_stack ≡ d = ap length e₄ ∙ length-replicate d 0 in
    let l₂ : length M.saved_frames ≡ e = ap length e₅ ∙ length-replicate e 0 in
    subst (λ k. Rep l (fresh s) M k (fresh s).fuel) (sym em)
    (record {
      sizes = sized;
      setup = es ∙ ap (pad (length M.setup)) eg;
      stack = subst (λ z. Run [] z 0) (sym e₁) (run_none a);
      frames = subst (λ z. Piled frame_words 6 [] z 0) (sym e₂) (piled-none frame_words 6 b);
      chain = subst (λ z. Piled active_words 6 [] z 0) (sym e₃) (piled-none active_words 6 c);
      slots = subst (λ z. Slots z M.slots n) (ap function_slots count ∙ sym (same-slots 0 s.functions)) slots;
      saved_stack = subst (λ z. Rows (λ x. x) (row_words s) (regs_rows s.limits.rows xs) z) (sym e₄)
          (rows_none (λ x. x) (row_words s) [] refl (λ i. (row_at i xs).regs) (λ i. ap (λ r. r.regs) (no_rows i 0 s.functions)) s.limits.rows d (omega arith));
      saved_frames = subst (λ z. Rows (upward frame_words) (frames_size s) (frames_rows s.limits.rows xs) z) (sym e₅)
          (rows_none (upward frame_words) (frames_size s) [] refl (λ i. (row_at i xs).frames) (λ i. ap (λ r. r.frames) (no_rows i 0 s.functions)) s.limits.rows e (omega arith));
      ready = subst (λ z. Run [] z 0) (sym e₆) (run_none g);
      finalize = subst (λ z. Run [] z 0) (sym e₇) (run_none h);
      finalizing = refl;
      outcome = refl;
      used = refl;
      seq = refl;
      fuel = refl;
    })
