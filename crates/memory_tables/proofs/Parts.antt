-- Laws of runs and of piled records in words: a word stored or read, records pushed and popped, decoding. Assumes nothing.
use Rattle.std.proofs.Common.{◌≡◌, ℕ, ◌+◌, ◌-◌, ◌*◌, ◌<◌, ◌≤◌, List, [], ◌∷◌, ◌++◌, length, get_or, take, drop, set, replicate, sym, ap, ◌∙◌, ap₂, append_assoc, append-nil, suc-mul, zero-mul, arith, length-append, length-drop, length-set, take-append-drop, length-take-le, get_or-append-add}
use lib.ListN.{length-replicate}
use Rattle.lists.specs.Parts.{part, splice, pad}
use Rattle.memory_tables.specs.Parts.{Run, Piled, upward}
use Rattle.memory_tables.proofs.Padded.{length-pad, pad-set, pad-get, pad-push, pad-pop, pad-part, pad-zeros, set-append-add, take-pad}

-- ---- runs of words

pub run_of : (cap : ℕ) (xs ws : List ℕ) (n : ℕ) → ws ≡ pad cap xs → n ≡ length xs → length xs ≤ cap → Run xs ws n
run_of cap xs ws n e c h =
    let l : length ws ≡ cap = ap length e ∙ length-pad cap xs h in
    record { are = e ∙ ap (λ k. pad k xs) (sym l); count = c; within = omega arith }

pub run-get : (xs ws : List ℕ) (n i : ℕ) → Run xs ws n → i < n → get_or ws i 0 ≡ get_or xs i 0
run-get xs ws n i r h = let c = r.count in ap (λ (z : List ℕ). get_or z i 0) r.are ∙ pad-get (length ws) xs i (omega arith)

pub run-set : (xs ws : List ℕ) (n i v : ℕ) → Run xs ws n → i < n → Run (set xs i v) (set ws i v) n
run-set xs ws n i v r h =
    let c = r.count in
    let w = r.within in
    let l = length-set xs i v in
    run_of (length ws) (set xs i v) (set ws i v) n (ap (λ (z : List ℕ). set z i v) r.are ∙ pad-set (length ws) xs i v (omega arith)) (omega arith) (omega arith)

-- words written after them
pub run-push : (xs ys ws : List ℕ) (n : ℕ) → Run xs ws n → n + length ys ≤ length ws → Run (xs ++ ys) (splice ws n ys) (n + length ys)
run-push xs ys ws n r h =
    let c = r.count in
    let l = length-append xs ys in
    run_of (length ws) (xs ++ ys) (splice ws n ys) (n + length ys)
    (ap₂ (λ (z : List ℕ) (k : ℕ). splice z k ys) r.are c ∙ pad-push (length ws) xs ys (omega arith)) (omega arith) (omega arith)

-- zeros after them taken in
pub run-grow : (xs ws : List ℕ) (n k : ℕ) → Run xs ws n → n + k ≤ length ws → Run (xs ++ replicate k 0) ws (n + k)
run-grow xs ws n k r h =
    let c = r.count in
    let l = length-append xs (replicate k 0) in
    let z : length (replicate {A = ℕ} k 0) ≡ k = length-replicate k 0 in
    run_of (length ws) (xs ++ replicate k 0) ws (n + k) (r.are ∙ pad-zeros (length ws) xs k (omega arith)) (omega arith) (omega arith)

-- the words from index i on cleared, and read
module _ (xs ws : List ℕ) (n i : ℕ) (r : Run xs ws n) (h : i ≤ n) where
  run-halves : (length (take i xs) ≡ i) × (length (drop i xs) ≡ n - i)
  run-halves = let c = r.count in (length-take-le i xs (omega arith), length-drop i xs ∙ (omega arith))

  pub run-cut : Run (take i xs) (splice ws i (replicate (n - i) 0)) i
  run-cut =
      let c = r.count in
      let w = r.within in
      let p = run-halves.0 in
      let q = run-halves.1 in
      run_of (length ws) (take i xs) (splice ws i (replicate (n - i) 0)) i
      (ap (λ (z : List ℕ). splice z i (replicate (n - i) 0)) (r.are ∙ ap (pad (length ws)) (sym (take-append-drop i xs)))
      ∙ ap₂ (λ a b. splice (pad (length ws) (take i xs ++ drop i xs)) a (replicate b 0)) (sym p) (sym q)
      ∙ pad-pop (length ws) (take i xs) (drop i xs) (omega arith))
      (sym p) (omega arith)

  pub run-part : part i (n - i) ws ≡ drop i xs
  run-part =
      let c = r.count in
      let w = r.within in
      let p = run-halves.0 in
      let q = run-halves.1 in
      ap (part i (n - i)) (r.are ∙ ap (pad (length ws)) (sym (take-append-drop i xs)))
      ∙ ap₂ (λ a b. part a b (pad (length ws) (take i xs ++ drop i xs))) (sym p) (sym q)
      ∙ pad-part (length ws) (take i xs) (drop i xs) (omega arith)

pub run-same : (xs ys ws : List ℕ) (n : ℕ) → Run xs ws n → Run ys ws n → xs ≡ ys
run-same xs ys ws n r s =
    sym (take-pad (length ws) n xs r.count) ∙ ap (take n) (sym r.are) ∙ ap (take n) s.are ∙ take-pad (length ws) n ys s.count

-- ---- piled records

module _ {A : Type 0} (enc : A → List ℕ) where
  pub upward-append : (xs ys : List A) → upward enc (xs ++ ys) ≡ upward enc ys ++ upward enc xs
  upward-append [] ys = sym (append-nil (upward enc ys))
  upward-append (x ∷ xs) ys = ap (λ (z : List ℕ). z ++ enc x) (upward-append xs ys) ∙ append_assoc (upward enc ys) (upward enc xs) (enc x)

module _ {A : Type 0} (enc : A → List ℕ) (w : ℕ) (wide : (x : A) → length (enc x) ≡ w) where
  pub length-upward : (xs : List A) → length (upward enc xs) ≡ length xs * w
  length-upward [] = sym (zero-mul w)
  length-upward (x ∷ xs) =
      length-append (upward enc xs) (enc x) ∙ ap₂ ◌+◌ (length-upward xs) (wide x) ∙ sym (suc-mul (length xs) w)

  pub piled-of : (cap : ℕ) (xs : List A) (ws : List ℕ) (n : ℕ) → ws ≡ pad cap (upward enc xs) → n ≡ length xs → n * w ≤ cap → Piled enc w xs ws n
  piled-of cap xs ws n e c h =
      let u : length (upward enc xs) ≡ n * w = length-upward xs ∙ ap (λ k. k * w) (sym c) in
      let l : length ws ≡ cap = ap length e ∙ length-pad cap (upward enc xs) (omega arith) in
      record { are = e ∙ ap (λ k. pad k (upward enc xs)) (sym l); count = c; within = omega arith }

  -- records ys on top of xs: pushed, popped, read
  module _ (xs ys : List A) (ws : List ℕ) (n m : ℕ) where
    pub piled-push : Piled enc w xs ws n → m ≡ length ys → (n + m) * w ≤ length ws → n * w + m * w ≤ length ws → Piled enc w (ys ++ xs) (splice ws (n * w) (upward enc ys)) (n + m)
    piled-push p e h k =
        let c = p.count in
        let u : length (upward enc xs) ≡ n * w = length-upward xs ∙ ap (λ i. i * w) (sym c) in
        let v : length (upward enc ys) ≡ m * w = length-upward ys ∙ ap (λ i. i * w) (sym e) in
        let l = length-append ys xs in
        piled-of (length ws) (ys ++ xs) (splice ws (n * w) (upward enc ys)) (n + m)
        (ap₂ (λ (z : List ℕ) (i : ℕ). splice z i (upward enc ys)) p.are (sym u)
        ∙ pad-push (length ws) (upward enc xs) (upward enc ys) (omega arith) ∙ ap (pad (length ws)) (sym (upward-append enc ys xs)))
        (omega arith) h

    module _ (p : Piled enc w (ys ++ xs) ws (n + m)) (e : n ≡ length xs) (k : n * w + m * w ≤ length ws) where
      lower-part : length (upward enc xs) ≡ n * w
      lower-part = length-upward xs ∙ ap (λ i. i * w) (sym e)

      upper-part : length (upward enc ys) ≡ m * w
      upper-part = let c = p.count in let l = length-append ys xs in let q : length ys ≡ m = omega arith in length-upward ys ∙ ap (λ i. i * w) q

      pub piled-pop : Piled enc w xs (splice ws (n * w) (replicate (m * w) 0)) n
      piled-pop =
          let u = lower-part in
          let v = upper-part in
          piled-of (length ws) xs (splice ws (n * w) (replicate (m * w) 0)) n
          (ap (λ (z : List ℕ). splice z (n * w) (replicate (m * w) 0)) (p.are ∙ ap (pad (length ws)) (upward-append enc ys xs))
          ∙ ap₂ (λ a b. splice (pad (length ws) (upward enc xs ++ upward enc ys)) a (replicate b 0)) (sym u) (sym v)
          ∙ pad-pop (length ws) (upward enc xs) (upward enc ys) (omega arith))
          e (omega arith)

      pub piled-part : part (n * w) (m * w) ws ≡ upward enc ys
      piled-part =
          let u = lower-part in
          let v = upper-part in
          ap (part (n * w) (m * w)) (p.are ∙ ap (pad (length ws)) (upward-append enc ys xs))
          ∙ ap₂ (λ a b. part a b (pad (length ws) (upward enc xs ++ upward enc ys))) (sym u) (sym v)
          ∙ pad-part (length ws) (upward enc xs) (upward enc ys) (omega arith)

  -- the top record: a word of it read, and stored
  module _ (x : A) (xs : List A) (ws : List ℕ) (n : ℕ) (p : Piled enc w (x ∷ xs) ws n) where
    pub under : length (upward enc xs) ≡ (n - 1) * w
    under = let c = p.count in let e : length xs ≡ n - 1 = omega arith in length-upward xs ∙ ap (λ i. i * w) e

    top-length : length (upward enc xs ++ enc x) ≡ (n - 1) * w + w
    top-length = length-append (upward enc xs) (enc x) ∙ ap₂ ◌+◌ under (wide x)

    pub top-get : (k : ℕ) → k < w → get_or ws ((n - 1) * w + k) 0 ≡ get_or (enc x) k 0
    top-get k h =
        let l = top-length in
        ap (λ (z : List ℕ). get_or z ((n - 1) * w + k) 0) p.are
        ∙ pad-get (length ws) (upward enc xs ++ enc x) ((n - 1) * w + k) (omega arith)
        ∙ ap (λ i. get_or (upward enc xs ++ enc x) (i + k) 0) (sym under)
        ∙ get_or-append-add (upward enc xs) (enc x) k 0

    pub top_set : (k v : ℕ) (y : A) → k < w → set (enc x) k v ≡ enc y → Piled enc w (y ∷ xs) (set ws ((n - 1) * w + k) v) n
    top_set k v y h e =
        let l = top-length in
        piled-of (length ws) (y ∷ xs) (set ws ((n - 1) * w + k) v) n
        (ap (λ (z : List ℕ). set z ((n - 1) * w + k) v) p.are
        ∙ pad-set (length ws) (upward enc xs ++ enc x) ((n - 1) * w + k) v (omega arith)
        ∙ ap (λ i. pad (length ws) (set (upward enc xs ++ enc x) (i + k) v)) (sym under)
        ∙ ap (pad (length ws)) (set-append-add (upward enc xs) (enc x) k v ∙ ap (λ (z : List ℕ). upward enc xs ++ z) e))
        p.count p.within
