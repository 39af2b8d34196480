-- Runs of words written one after the other, and the last part of the calls. Assumes nothing.
use mathlib.Core.Path.{◌≡◌, refl, sym, ap, ap₂, ◌∙◌, subst}
use mathlib.Core.Bool.{Bool, true, false}
use mathlib.Core.List.{List, [], ◌∷◌, ◌++◌, append_assoc, append-nil}
use Prim.Native.Nat.{ℕ, ◌+◌, ◌-◌, ◌*◌, ◌/◌, ◌%◌, ◌≤◌, ◌<◌}
use native.Mathlib.Omega.{arith}
use lib.ListN.{length, take, drop, length-append, length-drop, drop_of_length-le}
use lib.Seq.{take_at, drop_at, drop-drop, take_all, length-take-le}
use lib.Dec.{leb, eqb}
use borrow.Author.Tests.{lt-leb, le-leb}
use Rattle.lists.specs.Pick.{pick, pick_true, pick-false}
use Rattle.lists.specs.Parts.{splice}
use Rattle.outer_run.specs.Run.{count_of}

-- what is written after what was written is one run
pub splice-next : (xs ys zs : List ℕ) (at : ℕ) → at + length ys ≤ length xs → splice (splice xs at ys) (at + length ys) zs ≡ splice xs at (ys ++ zs)
splice-next xs ys zs at h =
    let a = take at xs in
    let d = drop (length ys) (drop at xs) in
    let long : length (a ++ ys) ≡ at + length ys = length-append a ys ∙ ap (λ k. k + length ys) (length-take-le at xs (omega arith)) in
    let opened : splice xs at ys ≡ (a ++ ys) ++ d = sym (append_assoc a ys d) in
    let front : take (at + length ys) (splice xs at ys) ≡ a ++ ys = ap (take (at + length ys)) opened ∙ take_at (a ++ ys) d (at + length ys) long in
    let back : drop (at + length ys) (splice xs at ys) ≡ d = ap (drop (at + length ys)) opened ∙ drop_at (a ++ ys) d (at + length ys) long in
    let rest : drop (length zs) d ≡ drop (length (ys ++ zs)) (drop at xs) =
    drop-drop (length zs) (length ys) (drop at xs) ∙ ap (λ k. drop k (drop at xs)) (sym (length-append ys zs)) in
    ap₂ (λ (p q : List ℕ). p ++ (zs ++ drop (length zs) q)) front back
    ∙ ap (λ (q : List ℕ). (a ++ ys) ++ (zs ++ q)) rest
    ∙ append_assoc a ys (zs ++ drop (length (ys ++ zs)) (drop at xs))
    ∙ ap (λ (q : List ℕ). a ++ q) (sym (append_assoc ys zs (drop (length (ys ++ zs)) (drop at xs))))

-- all that is left, if it is fewer than n
pub short : (ws : List ℕ) (a n : ℕ) → length ws - a < n → take (length ws - a) (drop a ws) ≡ take n (drop a ws)
short ws a n h =
    let k = length-drop a ws in
    take_all (length ws - a) (drop a ws) (omega arith) ∙ sym (take_all n (drop a ws) (omega arith))

-- eight words of eight
pub few : (x n : ℕ) → x / 8 < n → leb (n * 8) x ≡ false
few x n h = lt-leb (n * 8) x (omega arith)

pub enough : (x n : ℕ) → n ≤ x / 8 → n * 8 ≤ x
enough x n h = omega arith

-- a part of eight words, all written
pub part-long : (xs : List ℕ) (at : ℕ) → at + 8 ≤ length xs → 8 ≤ length (take (at + 8 - at) (drop at xs))
part-long xs at h =
    let k = length-drop at xs in
    let e : at + 8 - at ≡ 8 = omega arith in
    subst (λ n. 8 ≤ length (take n (drop at xs))) (sym e) (let l = length-take-le 8 (drop at xs) (omega arith) in omega arith)

pub put_back : (xs ys : List ℕ) (at : ℕ) → at + 8 ≤ length xs → (zs : List ℕ) → zs ≡ splice (take (at + 8 - at) (drop at xs)) 0 ys → length ys ≡ 8
    → take at xs ++ (zs ++ drop (at + 8 - at) (drop at xs)) ≡ take at xs ++ (ys ++ drop 8 (drop at xs))
put_back xs ys at h zs e l =
    let k = length-drop at xs in
    let n : at + 8 - at ≡ 8 = omega arith in
    let p = take 8 (drop at xs) in
    let long : length p ≡ 8 = length-take-le 8 (drop at xs) (omega arith) in
    let at-most : length p ≤ 8 = omega arith in
    let whole : splice p 0 ys ≡ ys = ap (λ (q : List ℕ). ys ++ q) (ap (λ m. drop m p) l ∙ drop_of_length-le p at-most) ∙ append-nil ys in
    ap₂ (λ (q : List ℕ) m. take at xs ++ (q ++ drop m (drop at xs))) (e ∙ ap (λ m. splice (take m (drop at xs)) 0 ys) n ∙ whole) n

-- a call that the words hold begins in them
pub in-calls : (cs : List ℕ) (i n : ℕ) → n ≡ count_of (length cs) → i < n → i * 6 ≤ length cs
in-calls cs i n e h = go (eqb (length cs % 6) 0) refl
  where
    go : (b : Bool) → eqb (length cs % 6) 0 ≡ b → i * 6 ≤ length cs
    go true q = let k : n ≡ length cs / 6 + 0 = e ∙ ap (λ z. length cs / 6 + pick z 0 1) q ∙ ap (λ z. length cs / 6 + z) (pick_true 0 1) in omega arith
    go false q = let k : n ≡ length cs / 6 + 1 = e ∙ ap (λ z. length cs / 6 + pick z 0 1) q ∙ ap (λ z. length cs / 6 + z) (pick-false 0 1) in omega arith
