-- The laws behind the leaves on runs of words: what a loop has done, and what parts that come back make. Assumes nothing.
use Rattle.std.proofs.Common.{◌≡◌, ℕ, zero, suc, ◌+◌, ◌-◌, ◌*◌, ◌≤◌, ◌≢◌, List, ◌++◌, length, get_or, take, drop, set, replicate, sym, refl, ap, ◌∙◌, ap₂, append_assoc, add-one, arith, length-append, length-drop, length-set, length-take-le, get_or-set_other, drop-drop, take_at, drop_at}
use lib.ListN.{length-replicate}
use Rattle.lists.specs.Parts.{splice, pad}
use Rattle.memory_tables.specs.Runs.{rebase}
use Rattle.memory_tables.proofs.Padded.{zeros-split, back, span}

-- ---- words set aside in zeros

pub drop-zeros : (n m : ℕ) → n ≤ m → drop n (replicate {A = ℕ} m 0) ≡ replicate (m - n) 0
drop-zeros n m h = ap (drop n) (zeros-split n m h) ∙ drop_at (replicate n 0) (replicate (m - n) 0) n (length-replicate n 0)

pub aside : (m n : ℕ) (ys zs : List ℕ) → n ≤ m → length zs ≡ n → ys ≡ zs → ys ++ drop n (replicate m 0) ≡ pad m zs
aside m n ys zs h l e = rw (e, drop-zeros n m h, l)

pub aside-part : (m n : ℕ) (ys zs : List ℕ) → length zs ≡ n → ys ≡ zs → take n (ys ++ drop n (replicate m 0)) ≡ zs
aside-part m n ys zs l e = take_at ys (drop n (replicate m 0)) n (ap length e ∙ l) ∙ e

-- ---- two runs, one after the other

pub splice-splice : (xs ys zs : List ℕ) (at : ℕ) → at ≤ length xs
    → splice (splice xs at ys) (at + length ys) zs ≡ splice xs at (ys ++ zs)
splice-splice xs ys zs at h =
    let pre : List ℕ = take at xs in
    let D : List ℕ = drop (length ys) (drop at xs) in
    let l : length (pre ++ ys) ≡ at + length ys = length-append pre ys ∙ ap (λ n. n + length ys) (length-take-le at xs h) in
    ap (λ (z : List ℕ). splice z (at + length ys) zs) (sym (append_assoc pre ys D))
    ∙ ap₂ (λ (a b : List ℕ). a ++ (zs ++ drop (length zs) b)) (take_at (pre ++ ys) D (at + length ys) l) (drop_at (pre ++ ys) D (at + length ys) l)
    ∙ append_assoc pre ys (zs ++ drop (length zs) D)
    ∙ ap (λ (z : List ℕ). pre ++ z) (sym (append_assoc ys zs (drop (length zs) D)))
    ∙ ap (λ (z : List ℕ). pre ++ ((ys ++ zs) ++ z)) (drop-drop (length zs) (length ys) (drop at xs) ∙ ap (λ n. drop n (drop at xs)) (sym (length-append ys zs)))

-- the rest of a row cleared after words were written to it
pub filled : (rows ys zs xs : List ℕ) (at room n : ℕ) → n ≤ room → at + room ≤ length rows → length xs ≡ n → ys ≡ xs
    → zs ≡ replicate (length (take (at + room - (at + n)) (drop (at + n) (take at rows ++ (ys ++ drop (at + n - at) (drop at rows)))))) 0
    → take (at + n) (take at rows ++ (ys ++ drop (at + n - at) (drop at rows)))
    ++ (zs ++ drop (at + room - (at + n)) (drop (at + n) (take at rows ++ (ys ++ drop (at + n - at) (drop at rows)))))
    ≡ splice rows at (pad room xs)
filled rows ys zs xs at room n h k l e f =
    let mid : List ℕ = take at rows ++ (ys ++ drop (at + n - at) (drop at rows)) in
    let one : mid ≡ splice rows at xs = back rows ys xs at n (at + n - at) (span at n) l e in
    let lm : length mid ≡ length rows =
    let a : length (take at rows) ≡ at = length-take-le at rows (omega arith) in
    let b : length ys ≡ n = ap length e ∙ l in
    let c = length-append ys (drop (at + n - at) (drop at rows)) in
    let d = length-drop (at + n - at) (drop at rows) in
    let g = length-drop at rows in
    length-append (take at rows) (ys ++ drop (at + n - at) (drop at rows)) ∙ (omega arith) in
    let m : at + room - (at + n) ≡ room - n = omega arith in
    let z : zs ≡ replicate (room - n) 0 = f ∙ ap (λ i. replicate i 0) (length-take-le (at + room - (at + n)) (drop (at + n) mid) (let g = length-drop (at + n) mid in omega arith) ∙ m) in
    back mid zs (replicate (room - n) 0) (at + n) (room - n) (at + room - (at + n)) m (length-replicate (room - n) 0) z
    ∙ ap₂ (λ (x : List ℕ) (i : ℕ). splice x (at + i) (replicate (room - n) 0)) one (sym l)
    ∙ splice-splice rows xs (replicate (room - n) 0) at (omega arith)
    ∙ ap (λ i. splice rows at (xs ++ replicate (room - i) 0)) (sym l)

-- ---- bases changed one after the other

module _ (g : ℕ → ℕ) (at : ℕ) where
  pub length-rebase : (n : ℕ) (ws : List ℕ) → length (rebase g n at ws) ≡ length ws
  length-rebase zero ws = refl
  length-rebase (suc n) ws = length-set (rebase g n at ws) (at + n * 6 + 2) (g (get_or ws (at + n * 6 + 2) 0)) ∙ length-rebase n ws
