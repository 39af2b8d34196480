-- What the lists that the words hold tell a caller of entries and suspensions, and a row written at a creation. Assumes nothing.
use Rattle.std.proofs.Common.{◌≡◌, ℕ, suc, ◌+◌, ◌-◌, ◌*◌, ◌^◌, ◌<◌, ◌≤◌, List, [], ◌∷◌, ◌++◌, length, get_or, drop, set, replicate, sym, refl, ap, ◌∙◌, subst, ap₂, append-nil, mul-le-mul_right, suc-mul, arith}
use Rattle.lists.specs.Parts.{splice, pad}
use Rattle.lists.proofs.Tables.{chunk-get}
use Rattle.model.specs.declared.machine.Frame.{Frame}
use Rattle.memory_tables.specs.Layout.{frame_words, frame_of}
use Rattle.memory_tables.specs.Parts.{Frames, Rows, SavedStack, SavedFrames, RowIs, upward, piled}
use Rattle.memory_tables.specs.Does.{EnterFits, LeaveFits}
use Rattle.memory_tables.proofs.Codes.{length-frame, frame_back}
use Rattle.memory_tables.proofs.Padded.{get_d_part}
use Rattle.memory_tables.proofs.Parts.{length-upward}
use Rattle.memory_tables.proofs.Decode.{upward-chunk, upward-back, base-at}
use Rattle.memory_tables.proofs.Rowed.{row_at, rows-part, rows_drop, rows_fill, rows_write}

-- a row lies in its slice
pub row_inside : {A : Type 0} (enc : A → List ℕ) (w : ℕ) (rs : List A) (ws : List ℕ) (r at : ℕ) (x none : A)
    → Rows enc w rs ws → RowIs enc w rs r at x none → at + w ≤ length ws
row_inside enc w rs ws r at x none p q =
    let h : suc r * w ≤ length rs * w = mul-le-mul_right w q.among in
    let k = p.within in
    let e = q.place in
    omega (arith, suc-mul r w)

-- the bases of a row's frames
pub saved-base : (w : ℕ) (rs : List (List Frame)) (saved : List ℕ) (r at : ℕ) (gs : List Frame) (j : ℕ) (d : Frame)
    → SavedFrames w rs saved → RowIs (upward frame_words) w rs r at gs [] → j < length gs
    → get_or saved (at + (j * 6 + 2)) 0 ≡ (get_or gs (length gs - suc j) d).base
saved-base w rs saved r at gs j d p q h =
    let up = upward frame_words in
    let l : length (up gs) ≡ length gs * 6 = length-upward frame_words 6 length-frame gs in
    sym (get_d_part at (length (up gs)) saved (j * 6 + 2) (omega arith))
    ∙ ap (λ (z : List ℕ). get_or z (j * 6 + 2) 0) (rows-part up w rs saved r at gs [] p q ∙ sym (append-nil (up gs)))
    ∙ sym (chunk-get 6 j 2 (up gs ++ []) (omega arith))
    ∙ ap (λ (z : List ℕ). get_or z 2 0) (upward-chunk frame_words 6 length-frame gs [] j d h)

-- the frames of a row are what its words decode to
pub saved-back : (w : ℕ) (rs : List (List Frame)) (saved : List ℕ) (r at n : ℕ) (gs : List Frame) → SavedFrames w rs saved
    → RowIs (upward frame_words) w rs r at gs [] → n ≡ length gs → piled 6 frame_of n (drop at saved) ≡ gs
saved-back w rs saved r at n gs p q e =
    ap₂ (λ (k : ℕ) (z : List ℕ). piled 6 frame_of k z) e (rows_drop (upward frame_words) w rs saved r at gs [] p q)
    ∙ upward-back frame_words 6 length-frame frame_of frame_back gs (replicate (w - length (upward frame_words gs)) 0 ++ (row_at (upward frame_words) w rs saved r at gs [] p q).after)

pub enter-fits : (w : ℕ) (rs : List (List Frame)) (frames saved : List ℕ) (depth r at n by : ℕ) (gs : List Frame) (d : Frame)
    → SavedFrames w rs saved → RowIs (upward frame_words) w rs r at gs [] → n ≡ length gs → (depth + n) * 6 ≤ length frames
    → ((i : ℕ) → i < length gs → (get_or gs i d).base + by < 2 ^ 64) → EnterFits frames saved depth at n by
enter-fits w rs frames saved depth r at n by gs d p q e h small =
    let l : length (upward frame_words gs) ≡ length gs * 6 = length-upward frame_words 6 length-frame gs in
    let f = q.fits in
    let i = row_inside (upward frame_words) w rs saved r at gs [] p q in
    record {
      on-frames = h;
      in-saved = omega arith;
      fits = λ j k. subst (λ x. x + by < 2 ^ 64) (sym (saved-base w rs saved r at gs j d p q (omega arith))) (small (length gs - suc j) (omega arith));
    }

pub leave_fits : (w : ℕ) (rs : List (List Frame)) (frames saved : List ℕ) (depth floor by r at : ℕ) (fs : List Frame) (d : Frame)
    → Frames fs frames depth → SavedFrames w rs saved → RowIs (upward frame_words) w rs r at [] [] → floor ≤ depth → (depth - floor) * 6 ≤ w
    → ((i : ℕ) → i < depth - floor → by ≤ (get_or fs i d).base) → LeaveFits frames saved depth floor by at
leave_fits w rs frames saved depth floor by r at fs d p q i u f high =
    let k = row_inside (upward frame_words) w rs saved r at [] [] q i in
    record {
      under = u;
      on-frames = p.within;
      in-saved = omega arith;
      above = λ j g.
          let e : (floor + j) * 6 + 2 ≡ floor * 6 + j * 6 + 2 = omega arith in
          let m : depth - suc (floor + j) < depth - floor = omega arith in
          subst (λ x. by ≤ x) (sym (ap (λ x. get_or frames x 0) (sym e) ∙ base-at fs frames depth (floor + j) d p (omega arith))) (high (depth - suc (floor + j)) m);
    }

-- ---- a row at a creation: its registers by fill_row, its frame by put_frame

pub fills-row : (w : ℕ) (rs : List (List ℕ)) (saved : List ℕ) (r at : ℕ) (x ys : List ℕ) → SavedStack w rs saved → RowIs (λ zs. zs) w rs r at x []
    → length ys ≤ w → SavedStack w (set rs r ys) (splice saved at (pad w ys))
fills-row w rs saved r at x ys p q h = rows_write (λ zs. zs) w rs saved r at x [] p q ys h

pub frames-row : (w : ℕ) (rs : List (List Frame)) (saved : List ℕ) (r i : ℕ) (f : Frame) → SavedFrames w rs saved → RowIs (upward frame_words) w rs r (i * 6) [] []
    → 6 ≤ w → SavedFrames w (set rs r (f ∷ [])) (splice saved (i * 6) (frame_words f))
frames-row w rs saved r i f p q h = rows_fill (upward frame_words) w rs saved r (i * 6) [] [] p q (f ∷ []) refl h
