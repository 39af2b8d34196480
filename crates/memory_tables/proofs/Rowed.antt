-- Laws of rows in words: a row read, emptied, filled, written. Assumes nothing.
use Rattle.std.proofs.Common.{◌≡◌, ℕ, zero, suc, ◌+◌, ◌-◌, ◌*◌, ◌<◌, ◌≤◌, List, [], ◌∷◌, ◌++◌, length, get_or, take, drop, set, replicate, sym, refl, ap, ◌∙◌, ap₂, append_assoc, le_of_suc-le-suc, suc-mul, zero-mul, arith, length-append, length-set, length-take-le, take_at, drop_at}
use native.Mathlib.Nat.{sub-zero}
use lib.ListN.{length-replicate, replicate-append-replicate}
use Rattle.lists.specs.Chunks.{words}
use Rattle.lists.specs.Parts.{part, splice, pad}
use Rattle.lists.proofs.Tables.{length-words}
use Rattle.memory_tables.specs.Parts.{in_row, Rows, RowIs}
use Rattle.memory_tables.proofs.Padded.{length-pad, row-empty, row-fill, row-part, splice-mid}

pub length-in_row : (w : ℕ) (xs : List ℕ) → length (in_row w xs) ≡ w
length-in_row w xs =
    let a = length-append xs (replicate w 0) in
    let b : length (replicate {A = ℕ} w 0) ≡ w = length-replicate w 0 in
    length-take-le w (xs ++ replicate w 0) (omega arith)

-- words that fit a row stand there padded
pub in_row-pad : (w : ℕ) (xs : List ℕ) → length xs ≤ w → in_row w xs ≡ pad w xs
in_row-pad w xs h =
    let e : (w - length xs) + length xs ≡ w = omega arith in
    ap (λ (z : List ℕ). take w (xs ++ z)) (sym (replicate-append-replicate (w - length xs) (length xs) 0 ∙ ap (λ n. replicate n 0) e))
    ∙ ap (take w) (sym (append_assoc xs (replicate (w - length xs) 0) (replicate (length xs) 0)))
    ∙ take_at (pad w xs) (replicate (length xs) 0) w (length-pad w xs h)

module _ {A : Type 0} (enc : A → List ℕ) (w : ℕ) where
  rowed : A → List ℕ
  rowed x = in_row w (enc x)

  length-rowed : (x : A) → length (in_row w (enc x)) ≡ w
  length-rowed x = length-in_row w (enc x)

  -- the words before and after row r
  record Split (rs : List A) (r : ℕ) (none : A) : Type 0 where
    before : List ℕ
    after : List ℕ
    here : words (λ x. in_row w (enc x)) rs ≡ before ++ (in_row w (enc (get_or rs r none)) ++ after)
    there : (y : A) → words (λ x. in_row w (enc x)) (set rs r y) ≡ before ++ (in_row w (enc y) ++ after)
    start : length before ≡ r * w

  split_at : (rs : List A) (r : ℕ) (none : A) → r < length rs → Split rs r none
  split_at [] r none h = absurd (omega arith)
  split_at (x ∷ rs) zero none h =
      record { before = []; after = words (λ y. in_row w (enc y)) rs; here = refl; there = λ y. refl; start = sym (zero-mul w) }
  split_at (x ∷ rs) (suc r) none h =
      let q : Split rs r none = split_at rs r none (le_of_suc-le-suc h) in
      let R : List ℕ = in_row w (enc x) in
      record {
        before = R ++ q.before;
        after = q.after;
        here = ap (λ (z : List ℕ). R ++ z) q.here ∙ sym (append_assoc R q.before (in_row w (enc (get_or rs r none)) ++ q.after));
        there = λ y. ap (λ (z : List ℕ). R ++ z) (q.there y) ∙ sym (append_assoc R q.before (in_row w (enc y) ++ q.after));
        start = let a = length-rowed x in let b = q.start in length-append R q.before ∙ (omega (arith, suc-mul r w));
      }

  -- row r among the words of a slice
  pub record RowAt (rs : List A) (ws : List ℕ) (r : ℕ) (x : A) : Type 0 where
    pub before : List ℕ
    pub after : List ℕ
    pub here : ws ≡ before ++ (pad w (enc x) ++ after)
    pub there : (y : A) (ws' : List ℕ) → length (enc y) ≤ w → ws' ≡ before ++ (pad w (enc y) ++ after) → Rows enc w (set rs r y) ws'
    pub start : length before ≡ r * w

  pub row_at : (rs : List A) (ws : List ℕ) (r at : ℕ) (x none : A) → Rows enc w rs ws → RowIs enc w rs r at x none → RowAt rs ws r x
  row_at rs ws r at x none p q =
      let s : Split rs r none = split_at rs r none q.among in
      let Z : List ℕ = replicate (length ws - length (words (λ y. in_row w (enc y)) rs)) 0 in
      let long : (ys : List A) → length (words (λ y. in_row w (enc y)) ys) ≡ length ys * w = λ ys. length-words w (λ y. in_row w (enc y)) (λ ws. get_or rs r none) length-rowed ys in
      let regroup : (y : A) → length (enc y) ≤ w → (s.before ++ (in_row w (enc y) ++ s.after)) ++ Z ≡ s.before ++ (pad w (enc y) ++ (s.after ++ Z)) =
      λ y g. append_assoc s.before (in_row w (enc y) ++ s.after) Z
      ∙ ap (λ (z : List ℕ). s.before ++ z) (append_assoc (in_row w (enc y)) s.after Z ∙ ap (λ (z : List ℕ). z ++ (s.after ++ Z)) (in_row-pad w (enc y) g)) in
      record {
        before = s.before;
        after = s.after ++ Z;
        here =
            p.are ∙ ap (λ (z : List ℕ). z ++ Z) (s.here ∙ ap (λ (z : A). s.before ++ (in_row w (enc z) ++ s.after)) q.holds) ∙ regroup x q.fits;
        there = λ y ws' g e.
            let same : length (set rs r y) ≡ length rs = length-set rs r y in
            let words_same : length (words (λ z. in_row w (enc z)) (set rs r y)) ≡ length (words (λ z. in_row w (enc z)) rs) = long (set rs r y) ∙ ap (λ n. n * w) same ∙ sym (long rs) in
            let whole : words (λ z. in_row w (enc z)) (set rs r y) ++ Z ≡ ws' = ap (λ (z : List ℕ). z ++ Z) (s.there y) ∙ regroup y g ∙ sym e in
            let room = p.within in
            let lz : length Z ≡ length ws - length (words (λ z. in_row w (enc z)) rs) = length-replicate _ 0 in
            let la = length-append (words (λ z. in_row w (enc z)) (set rs r y)) Z in
            let lr = long rs in
            let le : length ws' ≡ length ws = sym (ap length whole) ∙ (omega arith) in
            record {
              are = sym whole ∙ ap₂ (λ a b. words (λ z. in_row w (enc z)) (set rs r y) ++ replicate (a - b) 0) (sym le) (sym words_same);
              within = rw (same, le) room;
            };
        start = s.start;
      }

  -- the words of rows
  pub rows_of : (cap : ℕ) (rs : List A) (ws : List ℕ) (none : A) → ws ≡ pad cap (words (λ x. in_row w (enc x)) rs) → length rs * w ≤ cap → Rows enc w rs ws
  rows_of cap rs ws none e h =
      let l : length (words (λ x. in_row w (enc x)) rs) ≡ length rs * w = length-words w (λ x. in_row w (enc x)) (λ ws. none) length-rowed rs in
      let k : length ws ≡ cap = ap length e ∙ length-pad cap (words (λ x. in_row w (enc x)) rs) (omega arith) in
      record { are = e ∙ ap (λ n. pad n (words (λ x. in_row w (enc x)) rs)) (sym k); within = omega arith }

  module _ (rs : List A) (ws : List ℕ) (r at : ℕ) (x none : A) (p : Rows enc w rs ws) (q : RowIs enc w rs r at x none) where
    placed : length (row_at rs ws r at x none p q).before ≡ at
    placed = (row_at rs ws r at x none p q).start ∙ sym q.place

    -- the words that the row holds
    pub rows-part : part at (length (enc x)) ws ≡ enc x
    rows-part =
        let t = row_at rs ws r at x none p q in
        ap₂ (λ n (z : List ℕ). part n (length (enc x)) z) (sym placed) t.here ∙ row-part w t.before (enc x) t.after q.fits

    -- and what follows the row's first word
    pub rows_drop : drop at ws ≡ enc x ++ (replicate (w - length (enc x)) 0 ++ (row_at rs ws r at x none p q).after)
    rows_drop =
        let t = row_at rs ws r at x none p q in
        ap (drop at) t.here ∙ drop_at t.before (pad w (enc x) ++ t.after) at placed ∙ append_assoc (enc x) (replicate (w - length (enc x)) 0) t.after

    -- the row emptied
    pub rows_empty : (y : A) → enc y ≡ [] → Rows enc w (set rs r y) (splice ws at (replicate (length (enc x)) 0))
    rows_empty y e =
        let t = row_at rs ws r at x none p q in
        let l : length (enc y) ≡ 0 = ap length e in
        t.there y (splice ws at (replicate (length (enc x)) 0)) (omega arith)
        (ap₂ (λ n (z : List ℕ). splice z n (replicate (length (enc x)) 0)) (sym placed) t.here
        ∙ row-empty w t.before (enc x) t.after q.fits
        ∙ ap (λ (z : List ℕ). t.before ++ (z ++ t.after)) (sym (ap (pad w) e ∙ ap (λ n. replicate n 0) (sub-zero w))))

    -- an empty row filled
    pub rows_fill : (y : A) → enc x ≡ [] → length (enc y) ≤ w → Rows enc w (set rs r y) (splice ws at (enc y))
    rows_fill y e h =
        let t = row_at rs ws r at x none p q in
        t.there y (splice ws at (enc y)) h
        (ap₂ (λ n (z : List ℕ). splice z n (enc y)) (sym placed)
        (t.here ∙ ap (λ (z : List ℕ). t.before ++ (z ++ t.after)) (ap (pad w) e ∙ ap (λ n. replicate n 0) (sub-zero w)))
        ∙ row-fill w t.before (enc y) t.after h)

    -- a row written whole
    pub rows_write : (y : A) → length (enc y) ≤ w → Rows enc w (set rs r y) (splice ws at (pad w (enc y)))
    rows_write y h =
        let t = row_at rs ws r at x none p q in
        t.there y (splice ws at (pad w (enc y))) h
        (ap₂ (λ n (z : List ℕ). splice z n (pad w (enc y))) (sym placed) t.here
        ∙ splice-mid t.before (pad w (enc x)) t.after (pad w (enc y)) (length-pad w (enc y) h ∙ sym (length-pad w (enc x) q.fits)))
