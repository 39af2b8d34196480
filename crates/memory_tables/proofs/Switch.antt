-- Entries and suspensions on the lists that the words hold. Assumes nothing.
use Rattle.std.proofs.Common.{◌≡◌, ℕ, ◌+◌, ◌-◌, ◌*◌, ◌^◌, ◌<◌, ◌≤◌, List, [], ◌++◌, map, length, get_or, take, drop, set, replicate, sym, refl, ap, ◌∙◌, subst, ap₂, append_assoc, zero-le, arith, length-append, length-drop, length-set, take-append-drop, length-take-le, get_or-set_same, get_or-append-add, set-set}
use native.Mathlib.Nat.{sub-zero}
use lib.ListN.{length-map, get_or-append}
use Rattle.lists.specs.Parts.{part, splice, pad}
use Rattle.model.specs.Frames.{raise, lower, above, below}
use Rattle.model.specs.declared.machine.Frame.{Frame}
use Rattle.memory_tables.specs.Layout.{frame_words}
use Rattle.memory_tables.specs.Runs.{Moved, rebase, between, RebaseFits}
use Rattle.memory_tables.specs.Parts.{Stack, Frames, SavedStack, SavedFrames, RowIs, upward}
use Rattle.memory_tables.specs.Does.{EntersStack, EntersFrames, EnterFits, LeavesStack, LeavesFrames, LeaveFits}
use Rattle.memory_tables.proofs.Codes.{length-frame}
use Rattle.memory_tables.proofs.Padded.{length_part, get_d_part}
use Rattle.memory_tables.proofs.Parts.{run-push, run-cut, run-part, length-upward, upward-append, piled-of, piled-push, piled-pop, piled-part}
use Rattle.memory_tables.proofs.Rowed.{row_at, rows-part, rows_empty, rows_fill}
use Rattle.memory_tables.proofs.Bases.{move_base, moved-raise, moved-lower, rebase-upward}

-- a word that was written
pub get_d-splice : (xs ys : List ℕ) (at i : ℕ) → at ≤ length xs → i < length ys → get_or (splice xs at ys) (at + i) 0 ≡ get_or ys i 0
get_d-splice xs ys at i h k =
    let D : List ℕ = drop (length ys) (drop at xs) in
    ap (λ n. get_or (splice xs at ys) (n + i) 0) (sym (length-take-le at xs h))
    ∙ get_or-append-add (take at xs) (ys ++ D) i 0 ∙ get_or-append ys D 0 i k

-- the frames gs above fs, with their bases changed
pub rebased : (g : ℕ → ℕ) (fs gs : List Frame) (ws : List ℕ) (n m : ℕ) → Frames (gs ++ fs) ws (n + m) → n ≡ length fs → m ≡ length gs
    → Frames (map (move_base g) gs ++ fs) (rebase g m (n * 6) ws) (n + m)
rebased g fs gs ws n m p e k =
    let up = upward frame_words in
    let new : List Frame = map (move_base g) gs in
    let Z : List ℕ = replicate (length ws - length (up (gs ++ fs))) 0 in
    let lm : length new ≡ length gs = length-map gs (move_base g) in
    let lu : length (up fs) ≡ n * 6 = length-upward frame_words 6 length-frame fs ∙ ap (λ i. i * 6) (sym e) in
    let la : length (gs ++ fs) ≡ length gs + length fs = length-append gs fs in
    let lb : length (new ++ fs) ≡ length new + length fs = length-append new fs in
    let same : length (gs ++ fs) ≡ length (new ++ fs) = omega arith in
    let lw : length (up (gs ++ fs)) ≡ length (up (new ++ fs)) =
    length-upward frame_words 6 length-frame (gs ++ fs) ∙ ap (λ i. i * 6) same ∙ sym (length-upward frame_words 6 length-frame (new ++ fs)) in
    let at_first : ws ≡ up fs ++ (up gs ++ Z) = p.are ∙ ap (λ (z : List ℕ). z ++ Z) (upward-append frame_words gs fs) ∙ append_assoc (up fs) (up gs) Z in
    let whole : rebase g m (n * 6) ws ≡ pad (length ws) (up (new ++ fs)) =
    ap₂ (λ (i : ℕ) (z : List ℕ). rebase g i (n * 6) z) k at_first
    ∙ ap (λ i. rebase g (length gs) i (up fs ++ (up gs ++ Z))) (sym lu)
    ∙ rebase-upward g (up fs) gs Z
    ∙ sym (append_assoc (up fs) (up new) Z)
    ∙ ap₂ (λ (z : List ℕ) (i : ℕ). z ++ replicate (length ws - i) 0) (sym (upward-append frame_words new fs)) lw in
    piled-of frame_words 6 length-frame (length ws) (new ++ fs) (rebase g m (n * 6) ws) (n + m) whole (omega arith) p.within

-- the frames gs of a row, with their bases changed
rows-rebased : (g : ℕ → ℕ) (w : ℕ) (rs : List (List Frame)) (ws : List ℕ) (r at : ℕ) (gs : List Frame) → SavedFrames w rs ws
    → RowIs (upward frame_words) w rs r at gs [] → SavedFrames w (set rs r (map (move_base g) gs)) (rebase g (length gs) at ws)
rows-rebased g w rs ws r at gs p q =
    let up = upward frame_words in
    let new : List Frame = map (move_base g) gs in
    let t = row_at up w rs ws r at gs [] p q in
    let Z : List ℕ = replicate (w - length (up gs)) 0 in
    let lw : length (up gs) ≡ length (up new) =
    length-upward frame_words 6 length-frame gs ∙ ap (λ i. i * 6) (sym (length-map gs (move_base g))) ∙ sym (length-upward frame_words 6 length-frame new) in
    let fits = q.fits in
    t.there new (rebase g (length gs) at ws) (omega arith)
    (ap₂ (λ (i : ℕ) (z : List ℕ). rebase g (length gs) i z) (sym (t.start ∙ sym q.place)) (t.here ∙ ap (λ (z : List ℕ). t.before ++ z) (append_assoc (up gs) Z t.after))
    ∙ rebase-upward g t.before gs (Z ++ t.after)
    ∙ ap (λ (z : List ℕ). t.before ++ z) (sym (append_assoc (up new) Z t.after) ∙ ap (λ i. (up new ++ replicate (w - i) 0) ++ t.after) lw))

-- ---- entries

pub enters-stack : (stack saved stack' saved' : List ℕ) (height at n : ℕ) → height + n ≤ length stack → Moved stack saved stack' saved' height at n
    → EntersStack stack saved stack' saved' height at n
enters-stack stack saved stack' saved' height at n h m w xs ys rs r s q i e =
    let id : List ℕ → List ℕ = λ zs. zs in
    let got : part at n saved ≡ ys = ap (λ k. part at k saved) e ∙ rows-part id w rs saved r at ys [] q i in
    record {
      stack =
          subst (λ (z : List ℕ). Stack (xs ++ ys) z (height + n)) (sym (m.there ∙ ap (splice stack height) got))
          (subst (λ k. Stack (xs ++ ys) (splice stack height ys) (height + k)) (sym e) (run-push xs ys stack height s (omega arith)));
      saved =
          subst (λ (z : List ℕ). SavedStack w (set rs r []) z) (sym (m.here ∙ ap (λ k. splice saved at (replicate k 0)) e))
          (rows_empty id w rs saved r at ys [] q i [] refl);
    }

-- what the move asks
pub enter-asks : (frames saved : List ℕ) (depth at n by : ℕ) → EnterFits frames saved depth at n by → (depth * 6 + n * 6 ≤ length frames) × RebaseFits saved at n 0 by
enter-asks frames saved depth at n by f =
    let inside = f.on-frames in (
      omega arith,
      record {
        inside = f.in-saved;
        above = λ j k. zero-le;
        fits = λ j k.
            let o : at + (j * 6 + 2) ≡ at + j * 6 + 2 = omega arith in
            subst (λ x. x + by < 2 ^ 64) (ap (λ x. get_or saved x 0) o ∙ sym (sub-zero (get_or saved (at + j * 6 + 2) 0))) (f.fits j k);
      },
    )

pub enters-frames : (frames saved mid saved' frames' : List ℕ) (depth at n by : ℕ) → EnterFits frames saved depth at n by
    → Moved frames saved mid saved' (depth * 6) at (n * 6) → frames' ≡ rebase (between 0 by) n (depth * 6) mid
    → EntersFrames frames saved frames' saved' depth at n by
enters-frames frames saved mid saved' frames' depth at n by f m e w fs gs rs r p q i k =
    let up = upward frame_words in
    let inside = f.on-frames in
    let lg : length (up gs) ≡ n * 6 = length-upward frame_words 6 length-frame gs ∙ ap (λ j. j * 6) (sym k) in
    let got : part at (n * 6) saved ≡ up gs = ap (λ j. part at j saved) (sym lg) ∙ rows-part up w rs saved r at gs [] q i in
    let pushed : Frames (gs ++ fs) mid (depth + n) =
    subst (λ (z : List ℕ). Frames (gs ++ fs) z (depth + n)) (sym (m.there ∙ ap (splice frames (depth * 6)) got))
    (piled-push frame_words 6 length-frame fs gs frames depth n p k inside (omega arith)) in
    record {
      frames =
          subst (λ (z : List ℕ). Frames (map (raise by) gs ++ fs) z (depth + n)) (sym e)
          (subst (λ (z : List Frame). Frames (z ++ fs) (rebase (between 0 by) n (depth * 6) mid) (depth + n)) (moved-raise by gs)
          (rebased (between 0 by) fs gs mid depth n pushed p.count k));
      saved =
          subst (λ (z : List ℕ). SavedFrames w (set rs r []) z) (sym (m.here ∙ ap (λ j. splice saved at (replicate j 0)) (sym lg)))
          (rows_empty up w rs saved r at gs [] q i [] refl);
    }

-- ---- suspensions

pub leaves-stack : (stack saved stack' saved' : List ℕ) (height base at : ℕ) → base ≤ height → Moved saved stack saved' stack' at base (height - base)
    → LeavesStack stack saved stack' saved' height base at
leaves-stack stack saved stack' saved' height base at h m w xs rs r s q i k =
    let id : List ℕ → List ℕ = λ zs. zs in
    let c = s.count in
    let l : length (drop base xs) ≡ length xs - base = length-drop base xs in
    record {
      stack = subst (λ (z : List ℕ). Stack (take base xs) z base) (sym m.here) (run-cut xs stack height base s h);
      saved =
          subst (λ (z : List ℕ). SavedStack w (set rs r (drop base xs)) z) (sym (m.there ∙ ap (splice saved at) (run-part xs stack height base s h)))
          (rows_fill id w rs saved r at [] [] q i (drop base xs) refl (omega arith));
    }

pub leave-asks : (frames saved : List ℕ) (depth floor by at : ℕ) → LeaveFits frames saved depth floor by at → ((i : ℕ) → get_or frames i 0 < 2 ^ 64)
    → (at + (depth - floor) * 6 ≤ length saved) × RebaseFits frames (floor * 6) (depth - floor) by 0
leave-asks frames saved depth floor by at f small =
    let u = f.under in
    let on = f.on-frames in (
      f.in-saved,
      record {
        inside = omega arith;
        above = f.above;
        fits = λ j k. let s = small (floor * 6 + j * 6 + 2) in omega arith;
      },
    )

pub leaves-frames : (frames saved mid saved' frames' : List ℕ) (depth floor by at : ℕ) → LeaveFits frames saved depth floor by at
    → Moved saved frames mid frames' at (floor * 6) ((depth - floor) * 6) → saved' ≡ rebase (between by 0) (depth - floor) at mid
    → LeavesFrames frames saved frames' saved' depth floor by at
leaves-frames frames saved mid saved' frames' depth floor by at f m e w fs rs r p q i k =
    let up = upward frame_words in
    let u = f.under in
    let c = p.count in
    let gs : List Frame = above floor fs in
    let hs : List Frame = below floor fs in
    let whole : gs ++ hs ≡ fs = take-append-drop (length fs - floor) fs in
    let lg : length gs ≡ depth - floor = length-take-le (length fs - floor) fs (omega arith) ∙ (omega arith) in
    let lh : floor ≡ length hs = sym (length-drop (length fs - floor) fs ∙ (omega arith)) in
    let lw : length (up gs) ≡ (depth - floor) * 6 = length-upward frame_words 6 length-frame gs ∙ ap (λ j. j * 6) lg in
    let all : floor + (depth - floor) ≡ depth = omega arith in
    let both : Frames (gs ++ hs) frames (floor + (depth - floor)) = subst (λ (z : List Frame). Frames z frames (floor + (depth - floor))) (sym whole) (subst (λ j. Frames fs frames j) (sym all) p) in
    let inside = both.within in
    let kept : SavedFrames w (set rs r gs) mid =
    subst (λ (z : List ℕ). SavedFrames w (set rs r gs) z)
    (sym (m.there ∙ ap (splice saved at) (piled-part frame_words 6 length-frame hs gs frames floor (depth - floor) both lh (omega arith))))
    (rows_fill up w rs saved r at [] [] q i gs refl (omega arith)) in
    let holds : RowIs up w (set rs r gs) r at gs [] =
    record { among = rw (length-set rs r gs) i.among; place = i.place; holds = get_or-set_same rs r gs [] i.among; fits = omega arith } in
    record {
      frames =
          subst (λ (z : List ℕ). Frames hs z floor) (sym m.here)
          (piled-pop frame_words 6 length-frame hs gs frames floor (depth - floor) both lh (omega arith));
      saved =
          subst (λ (z : List ℕ). SavedFrames w (set rs r (map (lower by) gs)) z) (sym (e ∙ ap (λ j. rebase (between by 0) j at mid) (sym lg)))
          (subst (λ (z : List (List Frame)). SavedFrames w z (rebase (between by 0) (length gs) at mid)) (set-set rs r gs (map (move_base (between by 0)) gs) ∙ ap (set rs r) (moved-lower by gs))
          (rows-rebased (between by 0) w (set rs r gs) mid r at gs kept holds));
    }
