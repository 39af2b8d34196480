-- The loops that copy and clear a run of words. Assumes nothing.
use mathlib.Core.Path.{◌≡◌, refl, ap, ◌∙◌}
use mathlib.Core.List.{List, [], ◌∷◌, ◌++◌, append-nil}
use Prim.Native.Nat.{ℕ, zero, suc, ◌+◌, ◌≤◌, ◌<◌}
use native.Mathlib.Nat.{not-suc-le-zero, le_of_suc-le-suc}
use native.Mathlib.Numerals.{add-one}
use native.Mathlib.Omega.{arith}
use borrow.Author.Fill.{fill_more}
use lib.ListN.{length, get_or, take, drop, set, replicate, drop_of_length-le}
use lib.Seq.{take_all}

-- a turn of a loop that copies from the front
copy-suc : (n : ℕ) (s d : List ℕ) → n < length s → n < length d → set (take n s ++ drop n d) n (get_or s n 0) ≡ take (suc n) s ++ drop (suc n) d
copy-suc n [] d h k = absurd (not-suc-le-zero h)
copy-suc n (x ∷ s) [] h k = absurd (not-suc-le-zero k)
copy-suc zero (x ∷ s) (y ∷ d) h k = refl
copy-suc (suc n) (x ∷ s) (y ∷ d) h k = ap (λ (t : List ℕ). x ∷ t) (copy-suc n s d (le_of_suc-le-suc h) (le_of_suc-le-suc k))

pub copy_more : (n : ℕ) (s d : List ℕ) → n < length s → n < length d → set (take n s ++ drop n d) n (get_or s n 0) ≡ take (n + 1) s ++ drop (n + 1) d
copy_more n s d h k = rw add-one (copy-suc n s d h k)

-- the words after those that were cleared are as they were
pub ahead-kept : (n k : ℕ) (s : List ℕ) → n ≤ k → n ≤ length s → get_or (replicate n 0 ++ drop n s) k 0 ≡ get_or s k 0
ahead-kept zero k s h l = refl
ahead-kept (suc n) k [] h l = absurd (not-suc-le-zero l)
ahead-kept (suc n) zero (x ∷ s) h l = absurd (not-suc-le-zero h)
ahead-kept (suc n) (suc k) (x ∷ s) h l = ahead-kept n k s (le_of_suc-le-suc h) (le_of_suc-le-suc l)

-- two turns at once
pub copy-two : (n : ℕ) (s d : List ℕ) → n + 1 < length s → n + 1 < length d → set (set (take n s ++ drop n d) n (get_or s n 0)) (n + 1) (get_or s (n + 1) 0) ≡ take (n + 2) s ++ drop (n + 2) d
copy-two n s d h k =
    let two : n + 1 + 1 ≡ n + 2 = omega arith in
    ap (λ z. set z (n + 1) (get_or s (n + 1) 0)) (copy_more n s d (omega arith) (omega arith)) ∙ copy_more (n + 1) s d h k ∙ ap (λ j. take j s ++ drop j d) two

pub fill-two : (n : ℕ) (s : List ℕ) → n + 1 < length s → set (set (replicate n 0 ++ drop n s) n 0) (n + 1) 0 ≡ replicate (n + 2) 0 ++ drop (n + 2) s
fill-two n s h =
    let two : n + 1 + 1 ≡ n + 2 = omega arith in
    ap (λ z. set z (n + 1) 0) (fill_more n 0 s (omega arith)) ∙ fill_more (n + 1) 0 s h ∙ ap (λ j. replicate j 0 ++ drop j s) two

-- the loops' ends
pub copy-all : (n : ℕ) (s d : List ℕ) → length d ≡ length s → length d ≤ n → take n s ++ drop n d ≡ s
copy-all n s d e h = let k : length s ≤ n = omega arith in simp (take_all n s k, drop_of_length-le d h, append-nil)

pub fill-all : (n : ℕ) (d : List ℕ) → n ≡ length d → replicate n 0 ++ drop n d ≡ replicate (length d) 0
fill-all n d e = let h : length d ≤ n = omega arith in rw (drop_of_length-le d h, append-nil, e)
