-- Laws of a table in words, for any width and any decoding. Assumes nothing.
use mathlib.Core.Path.{◌≡◌, refl, sym, ap, ◌∙◌}
use mathlib.Core.List.{List, [], ◌∷◌, ◌++◌, append_assoc}
use Prim.Native.Nat.{ℕ, zero, suc, ◌+◌, ◌*◌, ◌≤◌, ◌<◌}
use native.Mathlib.Omega.{arith}
use native.Mathlib.Nat.{suc-mul, zero-mul, le_of_suc-le-suc}
use lib.ListN.{length, take, drop, get_or, set, length-drop, length-append, take-append-drop}
use lib.Seq.{drop-drop, take_at, drop_at, take-add, length-take-le, get_or-take, get_or-drop, take-set-le, take-set-lt, drop-set-add, drop-set-lt}
use Rattle.lists.specs.Chunks.{chunks, words, chunk_at, put_chunk}

turn : (w i : ℕ) → suc i * w ≡ w + i * w
turn w i = omega (arith, suc-mul i w)

drop-step : (w i : ℕ) (ws : List ℕ) → drop (suc i * w) ws ≡ drop (i * w) (drop w ws)
drop-step w i ws = rw (turn, drop-drop)

put_step : (w i : ℕ) (ws vs : List ℕ) → put_chunk w ws (suc i) vs ≡ take w ws ++ put_chunk w (drop w ws) i vs
put_step w i ws vs = rw (drop-step, turn, take-add, append_assoc)

-- word k of the record at place i
pub chunk-get : (w i k : ℕ) (ws : List ℕ) → k < w → get_or (chunk_at w ws i) k 0 ≡ get_or ws (i * w + k) 0
chunk-get w i k ws h = get_or-take w (drop (i * w) ws) k 0 h ∙ get_or-drop (i * w) ws k 0

pub length-chunk : (w i : ℕ) (ws : List ℕ) → i * w + w ≤ length ws → length (chunk_at w ws i) ≡ w
length-chunk w i ws h = length-take-le w (drop (i * w) ws) (simp length-drop (omega arith))

-- word k of the record at place i stored
module _ (w i k v : ℕ) (ws : List ℕ) (h : k < w) where
  abbrev at : ℕ
  at = i * w + k

  pub chunk-set : set ws at v ≡ put_chunk w ws i (set (chunk_at w ws i) k v)
  chunk-set =
      sym (take-append-drop (i * w) (set ws at v))
      ∙ rw (take-set-le (i * w) ws at v (omega arith), drop-set-add (i * w) ws k v)
      (ap (λ (l : List ℕ). take (i * w) ws ++ l)
      (sym (take-append-drop w (set (drop (i * w) ws) k v)) ∙ rw (take-set-lt w (drop (i * w) ws) k v h, drop-set-lt w (drop (i * w) ws) k v h)))

  pub chunk-after : chunk_at w (set ws at v) i ≡ set (chunk_at w ws i) k v
  chunk-after = rw (drop-set-add (i * w) ws k v, take-set-lt w (drop (i * w) ws) k v h)

  pub put-after : (us : List ℕ) → put_chunk w (set ws at v) i us ≡ put_chunk w ws i us
  put-after us = rw (take-set-le (i * w) ws at v (omega arith), drop-set-add (i * w) ws k v, drop-set-lt w (drop (i * w) ws) k v h)

-- and another of its words
pub chunk-set-two : (w i k l v u : ℕ) (ws : List ℕ) → k < w → l < w
    → set (set ws (i * w + k) v) (i * w + l) u ≡ put_chunk w ws i (set (set (chunk_at w ws i) k v) l u)
chunk-set-two w i k l v u ws h g =
    chunk-set w i l u (set ws (i * w + k) v) g
    ∙ ap (λ (z : List ℕ). put_chunk w (set ws (i * w + k) v) i (set z l u)) (chunk-after w i k v ws h)
    ∙ put-after w i k v ws h (set (set (chunk_at w ws i) k v) l u)

module _ {A : Type 0} (w : ℕ) (dec : List ℕ → A) where
  pub length-chunks : (n : ℕ) (ws : List ℕ) → length (chunks w dec n ws) ≡ n
  length-chunks zero ws = refl
  length-chunks (suc n) ws = ap suc (length-chunks n (drop w ws))

  -- record i is read from the words at place i
  pub chunks-at : (n i : ℕ) (ws : List ℕ) (d : A) → i < n → get_or (chunks w dec n ws) i d ≡ dec (chunk_at w ws i)
  chunks-at (suc n) zero ws d h = rw zero-mul
  chunks-at (suc n) (suc i) ws d h = rw drop-step (chunks-at n i (drop w ws) d (le_of_suc-le-suc h))
  chunks-at zero i ws d h = elim h [ ]

  -- replacing the words at place i replaces record i
  pub chunks-put : (n i : ℕ) (ws vs : List ℕ) → i < n → n * w ≤ length ws → length vs ≡ w
      → chunks w dec n (put_chunk w ws i vs) ≡ set (chunks w dec n ws) i (dec vs)
  chunks-put (suc n) zero ws vs h k e =
      rw zero-mul (rw (take_at vs (drop w ws) w e, drop_at vs (drop w ws) w e))
  chunks-put (suc n) (suc i) ws vs h k e =
      let q : w ≤ length ws = omega (arith, suc-mul n w) in
      let t : length (take w ws) ≡ w = length-take-le w ws q in
      let r : n * w ≤ length (drop w ws) = rw length-drop (omega (arith, suc-mul n w)) in
      rw put_step
      (rw (take_at (take w ws) (put_chunk w (drop w ws) i vs) w t, drop_at (take w ws) (put_chunk w (drop w ws) i vs) w t)
      (ap (λ (l : List A). dec (take w ws) ∷ l) (chunks-put n i (drop w ws) vs (le_of_suc-le-suc h) r e)))
  chunks-put zero i ws vs h k e = elim h [ ]

  -- the words after n records hold the next one
  pub chunks-push : (n : ℕ) (ws vs : List ℕ) → n * w + w ≤ length ws → length vs ≡ w
      → chunks w dec (suc n) (put_chunk w ws n vs) ≡ chunks w dec n ws ++ (dec vs ∷ [])
  chunks-push zero ws vs k e = rw zero-mul (rw (take_at vs (drop w ws) w e))
  chunks-push (suc n) ws vs k e =
      let q : w ≤ length ws = omega arith in
      let t : length (take w ws) ≡ w = length-take-le w ws q in
      let r : n * w + w ≤ length (drop w ws) = rw length-drop (omega (arith, suc-mul n w)) in
      rw put_step
      (rw (take_at (take w ws) (put_chunk w (drop w ws) n vs) w t, drop_at (take w ws) (put_chunk w (drop w ws) n vs) w t)
      (ap (λ (l : List A). dec (take w ws) ∷ l) (chunks-push n (drop w ws) vs r e)))

-- ---- the words of a list of records, and what they decode to

module _ {A : Type 0} (w : ℕ) (enc : A → List ℕ) (dec : List ℕ → A) where
  pub length-words : ((x : A) → length (enc x) ≡ w) → (xs : List A) → length (words enc xs) ≡ length xs * w
  length-words l [] = sym (zero-mul w)
  length-words l (x ∷ xs) = rw (length-append, l x, length-words l xs) (sym (turn w (length xs)))

  -- the words of records decode to them
  pub words-chunks : ((x : A) → length (enc x) ≡ w) → ((x : A) → dec (enc x) ≡ x) → (xs : List A) (rest : List ℕ)
      → chunks w dec (length xs) (words enc xs ++ rest) ≡ xs
  words-chunks l back [] rest = refl
  words-chunks l back (x ∷ xs) rest =
      rw (append_assoc (enc x) (words enc xs) rest, take_at (enc x) (words enc xs ++ rest) w (l x), drop_at (enc x) (words enc xs ++ rest) w (l x), back x)
      (ap (λ (ys : List A). x ∷ ys) (words-chunks l back xs rest))

  -- record i of them
  pub words-at : ((x : A) → length (enc x) ≡ w) → (xs : List A) (rest : List ℕ) (i : ℕ) (d : A) → i < length xs
      → chunk_at w (words enc xs ++ rest) i ≡ enc (get_or xs i d)
  words-at l [] rest i d h = absurd (omega arith)
  words-at l (x ∷ xs) rest zero d h = rw (zero-mul, append_assoc (enc x) (words enc xs) rest, take_at (enc x) (words enc xs ++ rest) w (l x))
  words-at l (x ∷ xs) rest (suc i) d h =
      rw (drop-step, append_assoc (enc x) (words enc xs) rest, drop_at (enc x) (words enc xs ++ rest) w (l x)) (words-at l xs rest i d (le_of_suc-le-suc h))

  -- words whose records encode to them are the words of their records
  pub chunks-words : (n : ℕ) (ws : List ℕ) → n * w ≤ length ws → ((i : ℕ) → i < n → enc (dec (chunk_at w ws i)) ≡ chunk_at w ws i)
      → words enc (chunks w dec n ws) ++ drop (n * w) ws ≡ ws
  chunks-words zero ws k h = rw zero-mul
  chunks-words (suc n) ws k h =
      let r : n * w ≤ length (drop w ws) = rw length-drop (omega (arith, suc-mul n w)) in
      let first : enc (dec (take w ws)) ≡ take w ws = rw zero-mul at (h 0 (omega arith)) in
      let next = chunks-words n (drop w ws) r (λ i g. rw drop-step at (h (suc i) (omega arith))) in
      rw (first, drop-step, append_assoc (take w ws) (words enc (chunks w dec n (drop w ws))) (drop (n * w) (drop w ws)), next) (take-append-drop w ws)
