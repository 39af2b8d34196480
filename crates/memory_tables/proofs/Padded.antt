-- Laws of parts, splices and padded words. Assumes nothing.
use Rattle.std.proofs.Common.{◌≡◌, ℕ, ◌+◌, ◌-◌, ◌<◌, ◌≤◌, List, [], ◌∷◌, ◌++◌, length, get_or, take, drop, set, replicate, sym, refl, ap, ◌∙◌, append_assoc, suc-add, zero-add, arith, length-append, length-drop, length-set, length-take-le, get_or-drop, get_or-take, drop-drop, take_at, drop_at}
use native.Mathlib.Numerals.{towards_suc}
use lib.ListN.{length-replicate, replicate-append-replicate, get_or-append}
use lib.Seq.{sets, sets-eq, set-append_left}
use Rattle.lists.specs.Parts.{part, splice, pad}

pub length_part : (at n : ℕ) (xs : List ℕ) → at + n ≤ length xs → length (part at n xs) ≡ n
length_part at n xs h = length-take-le n (drop at xs) (simp length-drop (omega arith))

pub get_d_part : (at n : ℕ) (xs : List ℕ) (i : ℕ) → i < n → get_or (part at n xs) i 0 ≡ get_or xs (at + i) 0
get_d_part at n xs i h = get_or-take n (drop at xs) i 0 h ∙ get_or-drop at xs i 0

pub length-splice : (xs ys : List ℕ) (at : ℕ) → at + length ys ≤ length xs → length (splice xs at ys) ≡ length xs
length-splice xs ys at h =
    let e : length (take at xs) ≡ at = length-take-le at xs (omega arith) in
    simp (length-append, length-drop) (omega (arith, e))

-- ---- a part that was lent comes back: what the borrow checker leaves is a splice

pub span : (a n : ℕ) → a + n - a ≡ n
span a n = omega arith

pub back : (xs ys zs : List ℕ) (at n m : ℕ) → m ≡ n → length zs ≡ n → ys ≡ zs → take at xs ++ (ys ++ drop m (drop at xs)) ≡ splice xs at zs
back xs ys zs at n m k e f = rw (k, f, e)

pub moved : (d s ys : List ℕ) (at from n : ℕ) → from + n ≤ length s → ys ≡ take (from + n - from) (drop from s)
    → take at d ++ (ys ++ drop (at + n - at) (drop at d)) ≡ splice d at (part from n s)
moved d s ys at from n h e = back d ys (part from n s) at n (at + n - at) (span at n) (length_part from n s h) (rw span at e)

pub cleared : (s ys : List ℕ) (from n : ℕ) → from + n ≤ length s → ys ≡ replicate (length (take (from + n - from) (drop from s))) 0
    → take from s ++ (ys ++ drop (from + n - from) (drop from s)) ≡ splice s from (replicate n 0)
cleared s ys from n h e = back s ys (replicate n 0) from n (from + n - from) (span from n) (length-replicate n 0) (rw (span, length_part from n s h) at e)

-- a run of stores is a splice
pub sets-splice : (xs ys : List ℕ) (at : ℕ) → at + length ys ≤ length xs → sets xs at ys ≡ splice xs at ys
sets-splice xs ys at h = sets-eq ys xs at h ∙ append_assoc (take at xs) ys (drop (at + length ys) xs) ∙ ap (λ z. take at xs ++ (ys ++ z)) (sym (drop-drop (length ys) at xs))

pub six-sets : (ws : List ℕ) (at a b c d e f : ℕ) → at + 6 ≤ length ws
    → set (set (set (set (set (set ws at a) (at + 1) b) (at + 2) c) (at + 3) d) (at + 4) e) (at + 5) f ≡ splice ws at (a ∷ b ∷ c ∷ d ∷ e ∷ f ∷ [])
six-sets ws at a b c d e f h =
    let x : set (set (set (set (set (set ws at a) (at + 1) b) (at + 2) c) (at + 3) d) (at + 4) e) (at + 5) f ≡ sets ws at (a ∷ b ∷ c ∷ d ∷ e ∷ f ∷ []) = simp towards_suc in
    x ∙ sets-splice ws (a ∷ b ∷ c ∷ d ∷ e ∷ f ∷ []) at h

-- ---- a write, a store and a part between two lists

pub splice-mid : (pre mid post ys : List ℕ) → length ys ≡ length mid → splice (pre ++ (mid ++ post)) (length pre) ys ≡ pre ++ (ys ++ post)
splice-mid pre mid post ys e =
    rw (take_at pre (mid ++ post) (length pre) refl, drop_at pre (mid ++ post) (length pre) refl, drop_at mid post (length ys) (sym e))

pub part-mid : (pre mid post : List ℕ) (n : ℕ) → length mid ≡ n → part (length pre) n (pre ++ (mid ++ post)) ≡ mid
part-mid pre mid post n e = rw (drop_at pre (mid ++ post) (length pre) refl, take_at mid post n e)

pub set-append-add : (xs ys : List ℕ) (i v : ℕ) → set (xs ++ ys) (length xs + i) v ≡ xs ++ set ys i v
set-append-add [] ys i v = rw (zero-add i)
set-append-add (x ∷ xs) ys i v = rw (suc-add (length xs) i, set-append-add xs ys i v)

pub zeros-split : (n m : ℕ) → n ≤ m → replicate {A = ℕ} m 0 ≡ replicate n 0 ++ replicate (m - n) 0
zeros-split n m h = let e : n + (m - n) ≡ m = omega arith in sym (replicate-append-replicate n (m - n) 0 ∙ ap (λ k. replicate k 0) e)

-- ---- padded words

pub length-pad : (cap : ℕ) (xs : List ℕ) → length xs ≤ cap → length (pad cap xs) ≡ cap
length-pad cap xs h = simp (length-append, length-replicate) (omega arith)

pub pad-set : (cap : ℕ) (xs : List ℕ) (i v : ℕ) → i < length xs → set (pad cap xs) i v ≡ pad cap (set xs i v)
pad-set cap xs i v h = set-append_left xs (replicate (cap - length xs) 0) i v h ∙ ap (λ n. set xs i v ++ replicate (cap - n) 0) (sym (length-set xs i v))

pub pad-get : (cap : ℕ) (xs : List ℕ) (i : ℕ) → i < length xs → get_or (pad cap xs) i 0 ≡ get_or xs i 0
pad-get cap xs i h = get_or-append xs (replicate (cap - length xs) 0) 0 i h

pub take-pad : (cap n : ℕ) (xs : List ℕ) → n ≡ length xs → take n (pad cap xs) ≡ xs
take-pad cap n xs e = take_at xs (replicate (cap - length xs) 0) n (sym e)

-- more zeros
zeros-left : (cap : ℕ) (xs : List ℕ) (k : ℕ) → length xs + k ≤ cap → cap - length xs - k ≡ cap - length (xs ++ replicate k 0)
zeros-left cap xs k h = simp (length-append, length-replicate) (omega arith)

pub pad-zeros : (cap : ℕ) (xs : List ℕ) (k : ℕ) → length xs + k ≤ cap → pad cap xs ≡ pad cap (xs ++ replicate k 0)
pad-zeros cap xs k h =
    ap (λ (y : List ℕ). xs ++ y) (zeros-split k (cap - length xs) (omega arith))
    ∙ ap (λ m. xs ++ (replicate k 0 ++ replicate m 0)) (zeros-left cap xs k h)
    ∙ sym (append_assoc xs (replicate k 0) (replicate (cap - length (xs ++ replicate k 0)) 0))

module _ (cap : ℕ) (xs ys : List ℕ) (fits : length xs + length ys ≤ cap) where
  less : cap - length xs - length ys ≡ cap - length (xs ++ ys)
  less = simp length-append (omega arith)

  opened : pad cap (xs ++ ys) ≡ xs ++ (ys ++ replicate (cap - length (xs ++ ys)) 0)
  opened = append_assoc xs ys _

  pub pad-push : splice (pad cap xs) (length xs) ys ≡ pad cap (xs ++ ys)
  pad-push =
      let z : List ℕ = replicate (length ys) 0 in
      ap (λ l. splice (xs ++ l) (length xs) ys) (zeros-split (length ys) (cap - length xs) (omega arith))
      ∙ splice-mid xs z (replicate (cap - length xs - length ys) 0) ys (sym (length-replicate (length ys) 0))
      ∙ ap (λ k. xs ++ (ys ++ replicate k 0)) less ∙ sym opened

  pub pad-pop : splice (pad cap (xs ++ ys)) (length xs) (replicate (length ys) 0) ≡ pad cap xs
  pad-pop =
      ap (λ l. splice l (length xs) (replicate (length ys) 0)) opened
      ∙ splice-mid xs ys (replicate (cap - length (xs ++ ys)) 0) (replicate (length ys) 0) (length-replicate (length ys) 0)
      ∙ ap (λ k. xs ++ (replicate (length ys) 0 ++ replicate k 0)) (sym less)
      ∙ ap (λ l. xs ++ l) (sym (zeros-split (length ys) (cap - length xs) (omega arith)))

  pub pad-part : part (length xs) (length ys) (pad cap (xs ++ ys)) ≡ ys
  pad-part = ap (part (length xs) (length ys)) opened ∙ part-mid xs ys (replicate (cap - length (xs ++ ys)) 0) (length ys) refl

-- ---- padded words between two lists: emptied, filled, read

module _ (cap : ℕ) (pre xs post : List ℕ) (fits : length xs ≤ cap) where
  within : pre ++ (pad cap xs ++ post) ≡ pre ++ (xs ++ (replicate (cap - length xs) 0 ++ post))
  within = ap (λ l. pre ++ l) (append_assoc xs (replicate (cap - length xs) 0) post)

  joined : pre ++ (replicate (length xs) 0 ++ (replicate (cap - length xs) 0 ++ post)) ≡ pre ++ (replicate cap 0 ++ post)
  joined =
      ap (λ l. pre ++ l)
      (sym (append_assoc (replicate (length xs) 0) (replicate (cap - length xs) 0) post) ∙ ap (λ l. l ++ post) (sym (zeros-split (length xs) cap fits)))

  pub row-empty : splice (pre ++ (pad cap xs ++ post)) (length pre) (replicate (length xs) 0) ≡ pre ++ (replicate cap 0 ++ post)
  row-empty =
      ap (λ l. splice l (length pre) (replicate (length xs) 0)) within
      ∙ splice-mid pre xs (replicate (cap - length xs) 0 ++ post) (replicate (length xs) 0) (length-replicate (length xs) 0) ∙ joined

  pub row-fill : splice (pre ++ (replicate cap 0 ++ post)) (length pre) xs ≡ pre ++ (pad cap xs ++ post)
  row-fill =
      ap (λ l. splice l (length pre) xs) (sym joined)
      ∙ splice-mid pre (replicate (length xs) 0) (replicate (cap - length xs) 0 ++ post) xs (sym (length-replicate (length xs) 0)) ∙ sym within

  pub row-part : part (length pre) (length xs) (pre ++ (pad cap xs ++ post)) ≡ xs
  row-part = ap (part (length pre) (length xs)) within ∙ part-mid pre xs (replicate (cap - length xs) 0 ++ post) (length xs) refl
