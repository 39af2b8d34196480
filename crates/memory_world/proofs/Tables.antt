-- Slots in words looked up and replaced, and the list of rows after a change of one. Assumes nothing.
use mathlib.Core.Logic.{◌≢◌}
use mathlib.Core.Path.{◌≡◌, refl, sym, ap, ap₂, ◌∙◌, subst}
use mathlib.Core.List.{List, [], ◌∷◌, ◌++◌, append_assoc, append-nil}
use Prim.Native.Nat.{ℕ, zero, suc, ◌+◌, ◌-◌, ◌*◌, ◌≤◌, ◌<◌}
use native.Mathlib.Omega.{arith}
use native.Mathlib.Nat.{le_of_suc-le-suc}
use lib.ListN.{length, get_or, set, take, drop, replicate, length-append, length-set, length-replicate}
use lib.Seq.{drop-drop, take_at, drop_at, take-add}
use Rattle.lists.specs.Chunks.{words, chunk_at, put_chunk}
use Rattle.lists.specs.Parts.{pad}
use Rattle.lists.proofs.Tables.{words-chunks, words-at, length-words}
use Rattle.heap.specs.Table.{Slot, slot}
use Rattle.heap.specs.Slot.{width, slot_words, slot_of_words}
use Rattle.heap.specs.Heap.{slots_of, put_slot, SlotFits}
use Rattle.heap.specs.declared.object.Object as H
use Rattle.heap.proofs.Slots.{slot-back, length-slot}
use Rattle.memory_tables.proofs.Padded.{length-pad, pad-push}
use Rattle.memory_world.specs.Memory.{Slots, tabled}

-- ---- slots in words

-- the words decode to the slots
pub slots-are : (xs : List (Slot H.Object)) (ws : List ℕ) (n : ℕ) → Slots xs ws n → slots_of n ws ≡ xs
slots-are xs ws n s =
    ap₂ (λ k (z : List ℕ). slots_of k z) s.count s.are
    ∙ words-chunks width slot_words slot_of_words length-slot slot-back xs (replicate (length ws - length (words slot_words xs)) 0)

-- the words of slot i
pub slot-words : (xs : List (Slot H.Object)) (ws : List ℕ) (n i : ℕ) → Slots xs ws n → i < n → chunk_at width ws i ≡ slot_words (get_or xs i (slot 0 H.Object.Empty))
slot-words xs ws n i s h =
    let e = s.count in
    ap (λ (z : List ℕ). chunk_at width z i) s.are
    ∙ words-at width slot_words slot_of_words length-slot xs (replicate (length ws - length (words slot_words xs)) 0) i (slot 0 H.Object.Empty) (omega arith)

turn : (i : ℕ) → suc i * width ≡ width + i * width
turn i = omega arith

drop-step : (i : ℕ) (ws : List ℕ) → drop (suc i * width) ws ≡ drop (i * width) (drop width ws)
drop-step i ws = rw (turn, drop-drop)

put_step : (i : ℕ) (ws vs : List ℕ) → put_chunk width ws (suc i) vs ≡ take width ws ++ put_chunk width (drop width ws) i vs
put_step i ws vs = rw (drop-step, turn, take-add, append_assoc)

words-put : (xs : List (Slot H.Object)) (i : ℕ) (y : Slot H.Object) (rest : List ℕ) → i < length xs
    → put_chunk width (words slot_words xs ++ rest) i (slot_words y) ≡ words slot_words (set xs i y) ++ rest
words-put [] i y rest h = absurd (omega arith)
words-put (x ∷ xs) zero y rest h =
    let W : List ℕ = words slot_words xs in
    ap (λ (z : List ℕ). slot_words y ++ drop width z) (append_assoc (slot_words x) W rest)
    ∙ ap (λ (z : List ℕ). slot_words y ++ z) (drop_at (slot_words x) (W ++ rest) width (length-slot x))
    ∙ sym (append_assoc (slot_words y) W rest)
words-put (x ∷ xs) (suc i) y rest h =
    let W : List ℕ = words slot_words xs in
    ap (λ (z : List ℕ). put_chunk width z (suc i) (slot_words y)) (append_assoc (slot_words x) W rest)
    ∙ put_step i (slot_words x ++ (W ++ rest)) (slot_words y)
    ∙ ap₂ (λ (a b : List ℕ). a ++ put_chunk width b i (slot_words y)) (take_at (slot_words x) (W ++ rest) width (length-slot x)) (drop_at (slot_words x) (W ++ rest) width (length-slot x))
    ∙ ap (λ (z : List ℕ). slot_words x ++ z) (words-put xs i y rest (le_of_suc-le-suc h))
    ∙ sym (append_assoc (slot_words x) (words slot_words (set xs i y)) rest)

-- slot i replaced
pub slots_set : (xs : List (Slot H.Object)) (ws : List ℕ) (n i : ℕ) (y : Slot H.Object) → Slots xs ws n → i < n → Slots (set xs i y) (put_slot ws i y) n
slots_set xs ws n i y s h =
    let Z : List ℕ = replicate (length ws - length (words slot_words xs)) 0 in
    let e = s.count in
    let same : length (set xs i y) ≡ length xs = length-set xs i y in
    let long : (ys : List (Slot H.Object)) → length (words slot_words ys) ≡ length ys * width = length-words width slot_words slot_of_words length-slot in
    let words_same : length (words slot_words (set xs i y)) ≡ length (words slot_words xs) = long (set xs i y) ∙ ap (λ k. k * width) same ∙ sym (long xs) in
    let whole : put_slot ws i y ≡ words slot_words (set xs i y) ++ Z =
    ap (λ (z : List ℕ). put_slot z i y) s.are ∙ words-put xs i y Z (omega arith) in
    let k = s.within in
    let lx = long xs in
    let lz : length Z ≡ length ws - length (words slot_words xs) = length-replicate _ 0 in
    let la : length (words slot_words (set xs i y) ++ Z) ≡ length (words slot_words (set xs i y)) + length Z = length-append (words slot_words (set xs i y)) Z in
    let le : length (put_slot ws i y) ≡ length ws = ap length whole ∙ la ∙ (omega arith) in
    record {
      are = whole ∙ ap₂ (λ a b. words slot_words (set xs i y) ++ replicate (a - b) 0) (sym le) (sym words_same);
      count = e ∙ sym same;
      within = subst (λ a. n * width ≤ a) (sym le) k;
    }

words_append : (xs : List (Slot H.Object)) (y : Slot H.Object) → words slot_words (xs ++ (y ∷ [])) ≡ words slot_words xs ++ slot_words y
words_append [] y = append-nil (slot_words y)
words_append (x ∷ xs) y = ap (λ (z : List ℕ). slot_words x ++ z) (words_append xs y) ∙ sym (append_assoc (slot_words x) (words slot_words xs) (slot_words y))

-- one slot more
pub slots-push : (xs : List (Slot H.Object)) (ws : List ℕ) (n : ℕ) (y : Slot H.Object) → Slots xs ws n → SlotFits ws n → Slots (xs ++ (y ∷ [])) (put_slot ws n y) (n + 1)
slots-push xs ws n y s h =
    let W : List ℕ = words slot_words xs in
    let U : List ℕ = slot_words y in
    let L : ℕ = length ws in
    let lv : length U ≡ width = length-slot y in
    let lw : length W ≡ length xs * width = length-words width slot_words slot_of_words length-slot xs in
    let c = s.count in
    let at : n * width ≡ length W = omega arith in
    let la : length (xs ++ (y ∷ [])) ≡ length xs + 1 = length-append xs (y ∷ []) in
    let room : length W + length U ≤ L = omega arith in
    let whole : put_slot ws n y ≡ pad L (words slot_words (xs ++ (y ∷ []))) =
    ap₂ (λ k (z : List ℕ). take k z ++ (U ++ drop width (drop k z))) at s.are
    ∙ ap (λ k. take (length W) (pad L W) ++ (U ++ drop k (drop (length W) (pad L W)))) (sym lv)
    ∙ pad-push L W U room
    ∙ ap (pad L) (sym (words_append xs y)) in
    let lz : length (words slot_words (xs ++ (y ∷ []))) ≡ length W + length U = ap length (words_append xs y) ∙ length-append W U in
    let le : length (put_slot ws n y) ≡ L = ap length whole ∙ length-pad L (words slot_words (xs ++ (y ∷ []))) (omega arith) in
    record {
      are = whole ∙ ap (λ k. pad k (words slot_words (xs ++ (y ∷ [])))) (sym le);
      count = omega arith;
      within = omega arith;
    }

-- ---- the list of rows

pub length-tabled : {A : Type 0} (f : ℕ → A) (i n : ℕ) → length (tabled f i n) ≡ n
length-tabled f i zero = refl
length-tabled f i (suc n) = ap suc (length-tabled f (suc i) n)

tabled-at : {A : Type 0} (f : ℕ → A) (i n j : ℕ) (d : A) → j < n → get_or (tabled f i n) j d ≡ f (i + j)
tabled-at f i zero j d h = absurd (omega arith)
tabled-at f i (suc n) zero d h = ap f (let z : i ≡ i + 0 = omega arith in z)
tabled-at f i (suc n) (suc j) d h = tabled-at f (suc i) n j d (le_of_suc-le-suc h) ∙ ap f (let z : suc i + j ≡ i + suc j = omega arith in z)

tabled-same : {A : Type 0} (f g : ℕ → A) (i n : ℕ) → ((j : ℕ) → i ≤ j → g j ≡ f j) → tabled f i n ≡ tabled g i n
tabled-same f g i zero h = refl
tabled-same f g i (suc n) h = ap₂ (λ x xs. x ∷ xs) (sym (h i (omega arith))) (tabled-same f g (suc i) n (λ j k. h j (omega arith)))

-- one row changed
tabled-set : {A : Type 0} (f g : ℕ → A) (i n k : ℕ) (y : A) → g (i + k) ≡ y → ((j : ℕ) → j ≢ i + k → g j ≡ f j) → set (tabled f i n) k y ≡ tabled g i n
tabled-set f g i zero k y e h = refl
tabled-set f g i (suc n) zero y e h =
    ap₂ (λ x xs. x ∷ xs) (sym e ∙ ap g (let z : i + 0 ≡ i = omega arith in z)) (tabled-same f g (suc i) n (λ j l. h j (λ z. omega arith)))
tabled-set f g i (suc n) (suc k) y e h =
    let z : suc i + k ≡ i + suc k = omega arith in
    ap₂ (λ x xs. x ∷ xs) (sym (h i (λ q. omega arith))) (tabled-set f g (suc i) n k y (ap g z ∙ e) (λ j q. h j (λ p. q (p ∙ sym z))))

-- from 0 on
pub rows_at : {A : Type 0} (f : ℕ → A) (n j : ℕ) (d : A) → j < n → get_or (tabled f 0 n) j d ≡ f j
rows_at f n j d h = tabled-at f 0 n j d h ∙ ap f (let z : 0 + j ≡ j = omega arith in z)

pub rows-set : {A : Type 0} (f g : ℕ → A) (n k : ℕ) (y : A) → g k ≡ y → ((j : ℕ) → j ≢ k → g j ≡ f j) → set (tabled f 0 n) k y ≡ tabled g 0 n
rows-set f g n k y e h =
    let z : 0 + k ≡ k = omega arith in
    tabled-set f g 0 n k y (ap g z ∙ e) (λ j d. h j (λ q. d (q ∙ sym z)))
