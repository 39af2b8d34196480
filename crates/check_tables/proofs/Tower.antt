-- The frames tested from the top down, and the rules that this decides. Assumes nothing.
use mathlib.Core.Path.{◌≡◌, refl, sym, ap, ap₂, ◌∙◌}
use mathlib.Core.Bool.{Bool, true, false, not, ◌&&◌, ◌||◌}
use mathlib.Core.List.{List, [], ◌∷◌}
use Prim.Native.Nat.{ℕ, zero, suc, ◌+◌, ◌-◌, ◌*◌, ◌≤◌, ◌<◌}
use native.Mathlib.Omega.{arith}
use borrow.Author.Tests.{eq-eqb, ne_eqb}
use lib.Dec.{eqb, ltb, leb}
use lib.ListN.{length, get_or}
use Rattle.lists.specs.Pick.{pick}
use Rattle.lists.specs.Chunks.{chunk_at}
use Rattle.lists.proofs.Tests.{and-false}
use Rattle.lists.proofs.Tables.{chunk-get, length-chunk}
use Rattle.model.specs.Lists.{is_nil, each}
use Rattle.model.specs.Program.{Setup, func}
use Rattle.model.specs.Frames.{is_entry, is_coro}
use Rattle.model.specs.Sound.{bases_ok, frame_names, cont_lies, conts_lie, catches_lie, frames_over, entry_last, body_last}
use Rattle.model.specs.declared.machine.Frame.{Frame}
use Rattle.claims_sound.proofs.Tests.{and_left, and_right, both}
use Rattle.memory_tables.specs.Layout.{cont_reg, cont_of, frame_words, frame_of, frame_in}
use Rattle.memory_tables.specs.Parts.{piled}
use Rattle.memory_sound.specs.Words.{same, coded, rest_ok, frames_held}
use Rattle.check_tables.specs.Frames.{cont_held, place_ok, frame_test, frames_test, stack_frames_ok, saved_frames_ok}
use Rattle.check_tables.proofs.Bools.{iff, and-true}

-- ---- the loop

module _ (saved : Bool) (s : Setup) (ws : List ℕ) (i e : ℕ) (whole : Bool) (inv : whole ≡ frames_test saved s ws i e) where
  step : 0 < i → whole ≡ frame_test saved s ws (i - 1) e && frames_test saved s ws (i - 1) (frame_in ws (i - 1)).base
  step h = let k : i ≡ suc (i - 1) = omega arith in inv ∙ ap (λ n. frames_test saved s ws n e) k

  pub frames-stop : (b : Bool) → 0 < i → b ≡ frame_test saved s ws (i - 1) e → b ≡ false → false ≡ whole
  frames-stop b h q z = sym (step h ∙ ap (λ t. t && frames_test saved s ws (i - 1) (frame_in ws (i - 1)).base) (sym q ∙ z))

  pub frames-more : (b : Bool) → 0 < i → b ≡ frame_test saved s ws (i - 1) e → b ≡ true → whole ≡ frames_test saved s ws (i - 1) (get_or ws ((i - 1) * 6 + 2) 0)
  frames-more b h q z =
      step h ∙ ap (λ t. t && frames_test saved s ws (i - 1) (frame_in ws (i - 1)).base) (sym q ∙ z)
      ∙ ap (frames_test saved s ws (i - 1)) (chunk-get 6 (i - 1) 2 ws (omega arith))

  pub frames-end : i ≤ 0 → eqb e 0 ≡ whole
  frames-end h = let k : i ≡ 0 = omega arith in sym (inv ∙ ap (λ n. frames_test saved s ws n e) k)

-- ---- codes

code_same : (c : List ℕ) → length c ≡ 6 → same (frame_words (frame_of c)) c ≡ cont_held (get_or c 4 0) (get_or c 5 0)
code_same [] l = absurd (omega arith)
code_same (a ∷ []) l = absurd (omega arith)
code_same (a ∷ b ∷ []) l = absurd (omega arith)
code_same (a ∷ b ∷ c ∷ []) l = absurd (omega arith)
code_same (a ∷ b ∷ c ∷ d ∷ []) l = absurd (omega arith)
code_same (a ∷ b ∷ c ∷ d ∷ e ∷ []) l = absurd (omega arith)
code_same (a ∷ b ∷ c ∷ d ∷ e ∷ f ∷ g ∷ h) l = absurd (omega arith)
code_same (a ∷ b ∷ c ∷ d ∷ e ∷ f ∷ []) l =
    rw (eq-eqb a a refl, eq-eqb b b refl, eq-eqb c c refl, eq-eqb d d refl, and-true (eqb (cont_reg (cont_of e f)) f))

pub frame_same : (ws : List ℕ) (i : ℕ) → i * 6 + 6 ≤ length ws → same (frame_words (frame_of (chunk_at 6 ws i))) (chunk_at 6 ws i) ≡ cont_held (get_or ws (i * 6 + 4) 0) (get_or ws (i * 6 + 5) 0)
frame_same ws i h =
    code_same (chunk_at 6 ws i) (length-chunk 6 i ws h) ∙ ap₂ cont_held (chunk-get 6 i 4 ws (omega arith)) (chunk-get 6 i 5 ws (omega arith))

-- ---- places

abbrev places : Bool → List Frame → Bool
places saved [] = true
places saved (f ∷ fs) = place_ok saved (is_nil fs) f.cont && places saved fs

entry-places : (fs : List Frame) → entry_last fs ≡ places false fs
unfolding pick
entry-places [] = refl
entry-places (f ∷ fs) = ap (λ t. (not (is_entry f.cont) || is_nil fs) && t) (entry-places fs)

body-places : (fs : List Frame) → body_last fs ≡ not (is_nil fs) && places true fs
unfolding pick
body-places [] = refl
body-places (f ∷ []) = sym (and-true (is_coro f.cont))
body-places (f ∷ g ∷ fs) = ap (λ t. (not (is_coro f.cont) && not (is_entry f.cont)) && t) (body-places (g ∷ fs))

lowest : (i : ℕ) (ws : List ℕ) → is_nil (piled 6 frame_of i ws) ≡ eqb i 0
lowest zero ws = refl
lowest (suc i) ws = sym (ne_eqb (suc i) 0 (λ e. omega arith))

-- ---- the rules

record Facts (saved : Bool) (s : Setup) (ws : List ℕ) (n end : ℕ) : Type 0 where
  codes : coded 6 frame_words frame_of n ws ≡ true
  bases : bases_ok end (piled 6 frame_of n ws) ≡ true
  names : each (frame_names s) (piled 6 frame_of n ws) ≡ true
  conts : conts_lie (piled 6 frame_of n ws) ≡ true
  catches : catches_lie s end (piled 6 frame_of n ws) ≡ true
  stand : places saved (piled 6 frame_of n ws) ≡ true

module _ (saved : Bool) (s : Setup) (ws : List ℕ) where
  facts : (n end : ℕ) → n * 6 ≤ length ws → frames_test saved s ws n end ≡ true → Facts saved s ws n end
  facts zero end l h = record { codes = refl; bases = h; names = refl; conts = refl; catches = refl; stand = refl }
  facts (suc i) end l h =
      let f = frame_in ws i in
      let fs = piled 6 frame_of i ws in
      let a = leb f.base end in
      let b = frame_names s f in
      let c = each (λ x. ltb (f.base + x.catch) end) (func s f.func).handlers in
      let d = cont_held (get_or ws (i * 6 + 4) 0) (get_or ws (i * 6 + 5) 0) in
      let e = place_ok saved (eqb i 0) f.cont in
      let g = cont_lies f.cont f.base fs in
      let t = and_left (frame_test saved s ws i end) (frames_test saved s ws i f.base) h in
      let r = facts i f.base (omega arith) (and_right (frame_test saved s ws i end) (frames_test saved s ws i f.base) h) in
      let t₅ = and_left (a && b && c && d && e) g t in
      let t₄ = and_left (a && b && c && d) e t₅ in
      let t₃ = and_left (a && b && c) d t₄ in
      let t₂ = and_left (a && b) c t₃ in
      record {
        codes = both r.codes (frame_same ws i (omega arith) ∙ and_right (a && b && c) d t₄);
        bases = both (and_left a b t₂) r.bases;
        names = both (and_right a b t₂) r.names;
        conts = both (and_right (a && b && c && d && e) g t) r.conts;
        catches = both (and_right (a && b) c t₃) r.catches;
        stand = both (ap (λ x. place_ok saved x f.cont) (lowest i ws) ∙ and_right (a && b && c && d) e t₅) r.stand;
      }

  tests : (n end : ℕ) → n * 6 ≤ length ws → Facts saved s ws n end → frames_test saved s ws n end ≡ true
  tests zero end l r = r.bases
  tests (suc i) end l r =
      let f = frame_in ws i in
      let fs = piled 6 frame_of i ws in
      let a = leb f.base end in
      let b = frame_names s f in
      let c = each (λ x. ltb (f.base + x.catch) end) (func s f.func).handlers in
      let k = coded 6 frame_words frame_of i ws in
      let d = same (frame_words (frame_of (chunk_at 6 ws i))) (chunk_at 6 ws i) in
      let e = place_ok saved (is_nil fs) f.cont in
      let g = cont_lies f.cont f.base fs in
      both
      (both
      (both
      (both (both (both (and_left a (bases_ok f.base fs) r.bases) (and_left b (each (frame_names s) fs) r.names)) (and_left c (catches_lie s f.base fs) r.catches))
      (sym (frame_same ws i (omega arith)) ∙ and_right k d r.codes))
      (ap (λ x. place_ok saved x f.cont) (sym (lowest i ws)) ∙ and_left e (places saved fs) r.stand))
      (and_left g (conts_lie fs) r.conts))
      (tests i f.base (omega arith)
      (record {
        codes = and_left k d r.codes;
        bases = and_right a (bases_ok f.base fs) r.bases;
        names = and_right b (each (frame_names s) fs) r.names;
        conts = and_right g (conts_lie fs) r.conts;
        catches = and_right c (catches_lie s f.base fs) r.catches;
        stand = and_right e (places saved fs) r.stand;
      }))

  over-of : (n end : ℕ) → Facts saved s ws n end → frames_over s end (piled 6 frame_of n ws) ≡ true
  over-of n end r = both (both (both r.bases r.names) r.conts) r.catches

  of-over : (n end : ℕ) → coded 6 frame_words frame_of n ws ≡ true → frames_over s end (piled 6 frame_of n ws) ≡ true → places saved (piled 6 frame_of n ws) ≡ true → Facts saved s ws n end
  of-over n end k o p =
      let fs = piled 6 frame_of n ws in
      let a = bases_ok end fs in
      let b = each (frame_names s) fs in
      let c = conts_lie fs in
      let d = catches_lie s end fs in
      let o₂ = and_left (a && b && c) d o in
      let o₁ = and_left (a && b) c o₂ in
      record { codes = k; bases = and_left a b o₁; names = and_right a b o₁; conts = and_right (a && b) c o₂; catches = and_right (a && b && c) d o; stand = p }

-- on the stack
pub stack-frames : (s : Setup) (ws : List ℕ) (n end : ℕ) → n * 6 ≤ length ws → (frames_test false s ws n end && rest_ok ws (n * 6)) ≡ stack_frames_ok s ws n end
stack-frames s ws n end l =
    let fs = piled 6 frame_of n ws in
    let t = frames_test false s ws n end in
    let z = rest_ok ws (n * 6) in
    let k = coded 6 frame_words frame_of n ws in
    let o = frames_over s end fs in
    iff (t && z) (stack_frames_ok s ws n end)
    (λ h. let r = facts false s ws n end l (and_left t z h) in both (both (both r.codes (and_right t z h)) (over-of false s ws n end r)) (entry-places fs ∙ r.stand))
    (λ h.
    let u = and_left (k && z && o) (entry_last fs) h in
    let v = and_left (k && z) o u in
    both (tests false s ws n end l (of-over false s ws n end (and_left k z v) (and_right (k && z) o u) (sym (entry-places fs) ∙ and_right (k && z && o) (entry_last fs) h))) (and_right k z v))

-- in a row
some : (n : ℕ) (ws : List ℕ) → 0 < n → not (is_nil (piled 6 frame_of n ws)) ≡ true
some zero ws h = absurd (omega arith)
some (suc n) ws h = refl

pub no_frames : (s : Setup) (ws : List ℕ) (n end : ℕ) → n ≡ 0 → false ≡ saved_frames_ok s ws n end
no_frames s ws n end e = sym (ap (λ k. saved_frames_ok s ws k end) e ∙ and-false (frames_held ws 0 && frames_over s end (piled 6 frame_of 0 ws)))

pub saved-frames : (s : Setup) (ws : List ℕ) (n end : ℕ) → n * 6 ≤ length ws → 0 < n → (frames_test true s ws n end && rest_ok ws (n * 6)) ≡ saved_frames_ok s ws n end
saved-frames s ws n end l p =
    let fs = piled 6 frame_of n ws in
    let t = frames_test true s ws n end in
    let z = rest_ok ws (n * 6) in
    let k = coded 6 frame_words frame_of n ws in
    let o = frames_over s end fs in
    iff (t && z) (saved_frames_ok s ws n end)
    (λ h.
    let r = facts true s ws n end l (and_left t z h) in
    both (both (both r.codes (and_right t z h)) (over-of true s ws n end r)) (body-places fs ∙ both (some n ws p) r.stand))
    (λ h.
    let u = and_left (k && z && o) (body_last fs) h in
    let v = and_left (k && z) o u in
    both
    (tests true s ws n end l
    (of-over true s ws n end (and_left k z v) (and_right (k && z) o u)
    (and_right (not (is_nil fs)) (places true fs) (sym (body-places fs) ∙ and_right (k && z && o) (body_last fs) h))))
    (and_right k z v))
