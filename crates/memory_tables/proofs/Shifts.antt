-- Frames moved between slices, their bases changed on the way. Assumes nothing.
use Rattle.std.proofs.Common.{◌≡◌, ℕ, zero, suc, ◌+◌, ◌-◌, ◌*◌, ◌^◌, ◌<◌, ◌≤◌, List, [], ◌∷◌, ◌++◌, length, get_or, take, drop, set, replicate, sym, refl, ap, ◌∙◌, subst, ap₂, add-zero, add-one, arith, length-drop, length-take-le, get_or-drop, get_or-take, drop-drop, drop-set-lt, take-add, drop_at}
use lib.ListN.{length-replicate, replicate-append-replicate, get_or-append}
use lib.Seq.{set-append_left, take-set-lt}
use Rattle.lists.specs.Parts.{part, splice}
use Rattle.memory_tables.specs.Runs.{rebase, RebaseFits}
use Rattle.memory_tables.proofs.Padded.{length_part, length-splice, six-sets, set-append-add}
use Rattle.memory_tables.proofs.Moves.{length-rebase, splice-splice}
use Rattle.memory_tables.proofs.Switch.{get_d-splice}

-- ---- one frame

take-six : (zs : List ℕ) → 6 ≤ length zs → take 6 zs ≡ get_or zs 0 0 ∷ get_or zs 1 0 ∷ get_or zs 2 0 ∷ get_or zs 3 0 ∷ get_or zs 4 0 ∷ get_or zs 5 0 ∷ []
take-six [] h = absurd (omega arith)
take-six (a ∷ []) h = absurd (omega arith)
take-six (a ∷ b ∷ []) h = absurd (omega arith)
take-six (a ∷ b ∷ c ∷ []) h = absurd (omega arith)
take-six (a ∷ b ∷ c ∷ d ∷ []) h = absurd (omega arith)
take-six (a ∷ b ∷ c ∷ d ∷ e ∷ []) h = absurd (omega arith)
take-six (a ∷ b ∷ c ∷ d ∷ e ∷ f ∷ zs) h = refl

six-part : (k : ℕ) (ws : List ℕ) → k + 6 ≤ length ws
    → part k 6 ws ≡ get_or ws k 0 ∷ get_or ws (k + 1) 0 ∷ get_or ws (k + 2) 0 ∷ get_or ws (k + 3) 0 ∷ get_or ws (k + 4) 0 ∷ get_or ws (k + 5) 0 ∷ []
six-part k ws h =
    let l = length-drop k ws in
    take-six (drop k ws) (omega arith)
    ∙ rw (get_or-drop k ws 0 0, get_or-drop k ws 1 0, get_or-drop k ws 2 0, get_or-drop k ws 3 0, get_or-drop k ws 4 0, get_or-drop k ws 5 0, add-zero k)

-- a word of a run that was written, changed
set-splice : (ws : List ℕ) (i a b c d e f v : ℕ) → i ≤ length ws → set (splice ws i (a ∷ b ∷ c ∷ d ∷ e ∷ f ∷ [])) (i + 2) v ≡ splice ws i (a ∷ b ∷ v ∷ d ∷ e ∷ f ∷ [])
set-splice ws i a b c d e f v h =
    let D : List ℕ = drop 6 (drop i ws) in
    ap (λ n. set (take i ws ++ ((a ∷ b ∷ c ∷ d ∷ e ∷ f ∷ []) ++ D)) (n + 2) v) (sym (length-take-le i ws h))
    ∙ set-append-add (take i ws) ((a ∷ b ∷ c ∷ d ∷ e ∷ f ∷ []) ++ D) 2 v

module _ (g : ℕ → ℕ) (dst src : List ℕ) (i k : ℕ) (room : i + 6 ≤ length dst) (there : k + 6 ≤ length src) where
  abbrev words : ℕ → List ℕ
  words base = get_or src k 0 ∷ get_or src (k + 1) 0 ∷ base ∷ get_or src (k + 3) 0 ∷ get_or src (k + 4) 0 ∷ get_or src (k + 5) 0 ∷ []

  pub frame-moved :
      set (set (set (set (set (set dst i (get_or src k 0)) (i + 1) (get_or src (k + 1) 0)) (i + 2) (g (get_or src (k + 2) 0))) (i + 3) (get_or src (k + 3) 0)) (i + 4) (get_or src (k + 4) 0)) (i + 5) (get_or src (k + 5) 0)
      ≡ rebase g 1 i (splice dst i (part k 6 src))
  frame-moved =
      let base = get_or src (k + 2) 0 in
      let there-words : List ℕ = splice dst i (words base) in
      let at_base : i + 0 * 6 + 2 ≡ i + 2 = omega arith in
      let got : get_or there-words (i + 2) 0 ≡ base = get_d-splice dst (words base) i 2 (omega arith) (omega arith) in
      six-sets dst i (get_or src k 0) (get_or src (k + 1) 0) (g base) (get_or src (k + 3) 0) (get_or src (k + 4) 0) (get_or src (k + 5) 0) room
      ∙ sym (set-splice dst i (get_or src k 0) (get_or src (k + 1) 0) base (get_or src (k + 3) 0) (get_or src (k + 4) 0) (get_or src (k + 5) 0) (g base) (omega arith))
      ∙ ap (λ v. set there-words (i + 2) (g v)) (sym got)
      ∙ ap (λ n. set there-words n (g (get_or there-words n 0))) (sym at_base)
      ∙ ap (λ (z : List ℕ). rebase g 1 i (splice dst i z)) (sym (six-part k src there))

-- its base may be changed
pub frame-base : (src : List ℕ) (k old new : ℕ) → RebaseFits src k 1 old new → (old ≤ get_or src (k + 2) 0) × (get_or src (k + 2) 0 - old + new < 2 ^ 64)
frame-base src k old new f =
    let here : k + 0 * 6 + 2 ≡ k + 2 = omega arith in
    (subst (λ n. old ≤ get_or src n 0) here (f.above 0 (omega arith)), subst (λ n. get_or src n 0 - old + new < 2 ^ 64) here (f.fits 0 (omega arith)))

pub frame-cleared : (src : List ℕ) (k : ℕ) → k + 6 ≤ length src
    → set (set (set (set (set (set src k 0) (k + 1) 0) (k + 2) 0) (k + 3) 0) (k + 4) 0) (k + 5) 0 ≡ splice src k (replicate 6 0)
frame-cleared src k h = six-sets src k 0 0 0 0 0 0 h

-- ---- frame after frame

-- a run written behind a word that was set
splice-set : (ws zs : List ℕ) (p q v : ℕ) → q < p → p ≤ length ws → splice (set ws q v) p zs ≡ set (splice ws p zs) q v
splice-set ws zs p q v h k =
    let l : length (take p ws) ≡ p = length-take-le p ws k in
    ap₂ (λ (a b : List ℕ). a ++ (zs ++ drop (length zs) b)) (take-set-lt p ws q v h) (drop-set-lt p ws q v h)
    ∙ sym (set-append_left (take p ws) (zs ++ drop (length zs) (drop p ws)) q v (omega arith))

get_d-before : (ws zs : List ℕ) (p q : ℕ) → q < p → p ≤ length ws → get_or (splice ws p zs) q 0 ≡ get_or ws q 0
get_d-before ws zs p q h k =
    let l : length (take p ws) ≡ p = length-take-le p ws k in
    get_or-append (take p ws) (zs ++ drop (length zs) (drop p ws)) 0 q (omega arith) ∙ get_or-take p ws q 0 h

module _ (g : ℕ → ℕ) (at : ℕ) where
  -- bases changed before a run that was written
  rebase-before : (n p : ℕ) (ws zs : List ℕ) → at + n * 6 ≤ p → p ≤ length ws → rebase g n at (splice ws p zs) ≡ splice (rebase g n at ws) p zs
  rebase-before zero p ws zs h k = refl
  rebase-before (suc n) p ws zs h k =
      let q = at + n * 6 + 2 in
      let l = length-rebase g at n ws in
      ap₂ (λ (z : List ℕ) (v : ℕ). set z q (g v)) (rebase-before n p ws zs (omega arith) k) (get_d-before ws zs p q (omega arith) k)
      ∙ sym (splice-set (rebase g n at ws) zs p q (g (get_or ws q 0)) (omega arith) (omega arith))

  module _ (dst src : List ℕ) (from j : ℕ) (room : at + (j * 6 + 6) ≤ length dst) (there : from + (j * 6 + 6) ≤ length src) where
    abbrev pub moved : ℕ → List ℕ
    moved n = splice dst at (part from n src)

    next-part : part from (suc j * 6) src ≡ part from (j * 6) src ++ part (from + j * 6) 6 src
    next-part =
        let e : suc j * 6 ≡ j * 6 + 6 = omega arith in
        ap (λ n. part from n src) e ∙ take-add (j * 6) 6 (drop from src) ∙ ap (λ (z : List ℕ). part from (j * 6) src ++ take 6 z) (drop-drop (j * 6) from src)

    next-moved : moved (suc j * 6) ≡ splice (moved (j * 6)) (at + j * 6) (part (from + j * 6) 6 src)
    next-moved =
        let l : length (part from (j * 6) src) ≡ j * 6 = length_part from (j * 6) src (omega arith) in
        ap (splice dst at) next-part ∙ sym (splice-splice dst (part from (j * 6) src) (part (from + j * 6) 6 src) at (omega arith))
        ∙ ap (λ n. splice (moved (j * 6)) (at + n) (part (from + j * 6) 6 src)) l

    -- one frame more
    pub frames-more : (now left : List ℕ) → now ≡ rebase g j at (moved (j * 6)) → drop (from + j * 6) left ≡ drop (from + j * 6) src
        → rebase g 1 (at + j * 6) (splice now (at + j * 6) (part (from + j * 6) 6 left)) ≡ rebase g (j + 1) at (moved ((j + 1) * 6))
    frames-more now left e kept =
        let six : List ℕ = part (from + j * 6) 6 src in
        let q = at + j * 6 + 2 in
        let la = length_part from (j * 6) src (omega arith) in
        let lb : length (moved (j * 6)) ≡ length dst = length-splice dst (part from (j * 6) src) at (omega arith) in
        let lc = length_part (from + j * 6) 6 src (omega arith) in
        let here : at + j * 6 + 0 * 6 + 2 ≡ q = omega arith in
        let all : rebase g j at (moved (suc j * 6)) ≡ splice now (at + j * 6) six =
        ap (rebase g j at) next-moved ∙ rebase-before j (at + j * 6) (moved (j * 6)) six (omega arith) (omega arith)
        ∙ ap (λ (z : List ℕ). splice z (at + j * 6) six) (sym e) in
        let ld : length now ≡ length dst = ap length e ∙ length-rebase g at j (moved (j * 6)) ∙ lb in
        let base : get_or (moved (suc j * 6)) q 0 ≡ get_or (splice now (at + j * 6) six) q 0 =
        ap (λ (z : List ℕ). get_or z q 0) next-moved ∙ get_d-splice (moved (j * 6)) six (at + j * 6) 2 (omega arith) (omega arith)
        ∙ sym (get_d-splice now six (at + j * 6) 2 (omega arith) (omega arith)) in
        ap (λ (z : List ℕ). rebase g 1 (at + j * 6) (splice now (at + j * 6) (take 6 z))) kept
        ∙ ap (λ n. set (splice now (at + j * 6) six) n (g (get_or (splice now (at + j * 6) six) n 0))) here
        ∙ ap₂ (λ (z : List ℕ) (v : ℕ). set z q (g v)) (sym all) (sym base)
        ∙ ap (λ n. rebase g n at (moved (n * 6))) (sym (add-one j))

-- the words of one frame more are 0
pub zeros-more : (src : List ℕ) (from j : ℕ) → from + (j * 6 + 6) ≤ length src
    → splice (splice src from (replicate (j * 6) 0)) (from + j * 6) (replicate 6 0) ≡ splice src from (replicate ((j + 1) * 6) 0)
zeros-more src from j h =
    let e : j * 6 + 6 ≡ (j + 1) * 6 = omega arith in
    let l : length (replicate {A = ℕ} (j * 6) 0) ≡ j * 6 = length-replicate (j * 6) 0 in
    ap (λ n. splice (splice src from (replicate (j * 6) 0)) (from + n) (replicate 6 0)) (sym l)
    ∙ splice-splice src (replicate (j * 6) 0) (replicate 6 0) from (omega arith)
    ∙ ap (splice src from) (replicate-append-replicate (j * 6) 6 0 ∙ ap (λ n. replicate n 0) e)

-- the words behind those that were cleared
pub behind : (src : List ℕ) (from n : ℕ) → from ≤ length src → drop (from + n) (splice src from (replicate n 0)) ≡ drop (from + n) src
behind src from n h =
    let pre : List ℕ = take from src in
    let Z : List ℕ = replicate n 0 in
    let l : length pre ≡ from = length-take-le from src h in
    let z : length Z ≡ n = length-replicate n 0 in
    sym (drop-drop n from (splice src from Z)) ∙ ap (drop n) (drop_at pre (Z ++ drop (length Z) (drop from src)) from l)
    ∙ drop_at Z (drop (length Z) (drop from src)) n z ∙ ap (λ m. drop m (drop from src)) z ∙ drop-drop n from src

-- what one frame asks of the words behind those that were cleared
pub frame-asks : (src left : List ℕ) (from n j old new : ℕ) → RebaseFits src from n old new → j < n → length left ≡ length src
    → drop (from + j * 6) left ≡ drop (from + j * 6) src → RebaseFits left (from + j * 6) 1 old new
frame-asks src left from n j old new f h l kept =
    let inside = f.inside in
    let word : (i : ℕ) → i < 1 → get_or left (from + j * 6 + i * 6 + 2) 0 ≡ get_or src (from + j * 6 + 2) 0 =
    λ i k.
    let o : from + j * 6 + i * 6 + 2 ≡ from + j * 6 + 2 = omega arith in
    ap (λ x. get_or left x 0) o ∙ sym (get_or-drop (from + j * 6) left 2 0) ∙ ap (λ (z : List ℕ). get_or z 2 0) kept ∙ get_or-drop (from + j * 6) src 2 0 in
    record {
      inside = omega arith;
      above = λ i k. rw (word i k) (f.above j h);
      fits = λ i k. rw (word i k) (f.fits j h);
    }
