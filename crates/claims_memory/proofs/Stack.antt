-- An entry, in words of the stack slice. Assumes nothing.
use Prim.Native.Nat.{ℕ, ◌+◌, ◌-◌, ◌≤◌}
use native.Mathlib.Omega.{arith}
use native.Mathlib.Nat.{le_refl}
use mathlib.Core.Path.{◌≡◌, refl, sym, ap, ◌∙◌}
use mathlib.Core.Bool.{Bool, true, false, ◌&&◌, true≢false}
use mathlib.Core.List.{List, [], ◌∷◌, ◌++◌}
use lib.ListN.{length, take, drop, set, length-append}
use lib.Seq.{take-append_seam, drop-append_seam, take-take}
use lib.Dec.{leb}
use borrow.Author.Tests.{leb-true}
use Rattle.model.specs.Lists.{each}
use Rattle.model.specs.Sound.{bases_ok, frame_names, conts_lie, catches_lie, frames_ok}
use Rattle.model.specs.declared.machine.Frame.{Frame}
use Rattle.claims_sound.proofs.Tests.{and_left, and_right}
use Rattle.claims_sound.proofs.Sound.{rules}
use Rattle.memory_tables.proofs.Padded.{set-append-add}
use Rattle.memory_sound.proofs.Exactly.{tested}
use Rattle.claims_model.specs.Engine.{seen_running, state_is}
use Rattle.claims_model.specs.Says.{first_register, Sent, nothing, gets, closes, announced_by}
use Rattle.claims_model.specs.Held.{at, into, AllMoved, waits_in, Held, By, Entered, with_sent, Restored}
use Rattle.claims_model.specs.Demand3.{Enters}
use Rattle.claims_model.specs.Steps.{view_of}
use Rattle.memory_step.specs.Step.{MemoryState, Left, is_sound, decoded, step_words, MemoryCall, SetUp, Do, memory_step}
use Rattle.memory_step.proofs.Kept.{words-kept, refused-words}
use Rattle.memory_step.proofs.Sentences.{clear}
use Rattle.claims_memory.specs.Engine.{memory_op, memory_engine}
use Rattle.claims_memory.specs.Claim.{in_use, Stacked, sent_to, RestoredStack}

-- ---- lists

-- a word set above xs
set-above : (xs ys : List ℕ) (i v : ℕ) → length xs ≤ i → drop (length xs) (set (xs ++ ys) i v) ≡ set ys (i - length xs) v
set-above xs ys i v h =
    let e : length xs + (i - length xs) ≡ i = omega arith in
    ap (λ j. drop (length xs) (set (xs ++ ys) j v)) (sym e) ∙ ap (drop (length xs)) (set-append-add xs ys (i - length xs) v) ∙ drop-append_seam xs (set ys (i - length xs) v)

-- ---- frames

-- bases never fall: one further down is no higher
no-higher : (n : ℕ) (over : List Frame) (f : Frame) (fs : List Frame) → bases_ok n (over ++ (f ∷ fs)) ≡ true → f.base ≤ n
no-higher n [] f fs h = leb-true f.base n (and_left (leb f.base n) (bases_ok f.base fs) h)
no-higher n (g ∷ over) f fs h =
    let a = leb-true g.base n (and_left (leb g.base n) (bases_ok g.base (over ++ (f ∷ fs))) h) in
    let b = no-higher g.base over f fs (and_right (leb g.base n) (bases_ok g.base (over ++ (f ∷ fs))) h) in
    omega (arith, a, b)

top_above : (n : ℕ) (over : List Frame) (f : Frame) (fs : List Frame) → bases_ok n (over ++ (f ∷ fs)) ≡ true → f.base ≤ first_register (over ++ (f ∷ fs))
top_above n [] f fs h = le_refl f.base
top_above n (g ∷ over) f fs h = no-higher g.base over f fs (and_right (leb g.base n) (bases_ok g.base (over ++ (f ∷ fs))) h)

-- the top frame moves as all do
top-moved : (b h p : ℕ) (over : List Frame) (f : Frame) (fs over' : List Frame) (g : Frame) (gs : List Frame)
    → AllMoved b h (at p (over ++ (f ∷ []))) (over' ++ (g ∷ [])) → first_register (over' ++ (g ∷ gs)) + b ≡ first_register (over ++ (f ∷ fs)) + h
top-moved b h p [] f fs [] g gs m = m.0.base
top-moved b h p [] f fs (x ∷ over') g gs m = m.0.base
top-moved b h p (y ∷ over) f fs [] g gs m = m.0.base
top-moved b h p (y ∷ over) f fs (x ∷ over') g gs m = m.0.base

into-top : (over : List Frame) (g : Frame) (gs : List Frame) (r x : ℕ) (xs : List ℕ) → into (over ++ (g ∷ gs)) r x xs ≡ set xs (first_register (over ++ (g ∷ gs)) + r) x
into-top [] g gs r x xs = refl
into-top (f ∷ over) g gs r x xs = refl

-- ---- states

-- the height of sound words counts the words in use
pub height : (s : MemoryState) → is_sound s ≡ true → s.machine.height ≡ length (in_use s)
height s e = ((tested.exactly s.words s.machine s.fuel).stands e).rep.stack.count

bases : (s : MemoryState) → is_sound s ≡ true → bases_ok (length (in_use s)) (memory_engine.view s).frames ≡ true
unfolding frames_ok
bases s e =
    let w = decoded s in
    let n = length w.stack in
    let a = bases_ok n w.frames in
    let b = a && each (frame_names w.setup) w.frames in
    let c = b && conts_lie w.frames in
    and_left a (each (frame_names w.setup) w.frames) (and_left b (conts_lie w.frames) (and_left c (catches_lie w.setup n w.frames) (rules w (words-kept.stands s e)).frames))

-- a call that enters someone finds sound words and leaves sound words
pub record Sounds (s z : MemoryState) : Type 0 where
  pub found : is_sound s ≡ true
  pub left : is_sound z ≡ true

pub sounds : (c : ℕ) (s : MemoryState) (y : MemoryCall) → By (memory_engine.view s) (memory_op y) c → Enters memory_engine c s y → Sounds s (memory_step s y).state
sounds c s (SetUp with_sent) b h = let q = b.says in let z : ◌≡◌ {A = ℕ} 0 1 = cc in absurd (omega arith)
sounds c s (Do o) b h = go (is_sound s) refl
  where
    go : (a : Bool) → is_sound s ≡ a → Sounds s (step_words s o.op).state
    go true e = record { found = e; left = words-kept.kept s o e }
    go false e = absurd (true≢false (sym h.after ∙ ap (λ (x : Left). state_is (view_of (decoded x.state)) seen_running c) (refused-words s o e) ∙ h.before))

module _ (c : ℕ) (s : MemoryState) (y : MemoryCall) (h : Enters memory_engine c s y) (r : Entered (memory_engine.view s) (memory_op y) c (memory_engine.view (memory_step s y).state)) where
  abbrev z : MemoryState
  z = (memory_step s y).state

  ok : Sounds s z
  ok = sounds c s y r.by h

  found-height : s.machine.height ≡ length (in_use s)
  found-height = height s ok.found

  pub stacked : Stacked s z
  stacked =
      let e = found-height in
      let n : z.machine.height ≡ length (in_use s) + length r.words = height z ok.left ∙ ap length r.stack ∙ length-append (in_use s) r.words in
      let l : s.machine.height ≤ z.machine.height = omega (arith, e, n) in
      record {
        below =
            sym (take-take s.machine.height z.machine.height z.words.stack l) ∙ ap (take s.machine.height) r.stack ∙ ap (λ k. take k (in_use s ++ r.words)) e
            ∙ take-append_seam (in_use s) r.words;
        beyond = (clear z ok.left).stack;
      }

  -- the top frame that the entry leaves stands above what the caller has in use
  top-over : length (in_use s) ≤ first_register (r.over ++ (r.body ∷ at r.by.pc (memory_engine.view s).frames))
  top-over =
      let rest = at r.by.pc (memory_engine.view s).frames in
      let a = top_above (length (in_use z)) r.over r.body rest (ap (bases_ok (length (in_use z))) (sym r.frames) ∙ bases z ok.left) in
      let b = r.body-base in
      omega (arith, a, b)

module _ (c : ℕ) (s : MemoryState) (x : MemoryCall) (t : MemoryState) (y : MemoryCall) (h : Enters memory_engine c t y) (r : Restored (memory_engine.view s) (memory_op x) (memory_engine.view t) (memory_op y) c (memory_engine.view (memory_step t y).state)) where
  abbrev E : Entered (memory_engine.view t) (memory_op y) c (memory_engine.view (memory_step t y).state)
  E = r.entered

  abbrev H : Held (memory_engine.view s) c
  H = r.held

  -- what c held, and the register that waits
  abbrev words : List ℕ
  words = drop H.body.base (in_use s)

  abbrev reg : ℕ
  reg = waits_in (announced_by (memory_engine.view s) (memory_op x))

  abbrev top : List Frame
  top = E.over ++ (E.body ∷ at E.by.pc (memory_engine.view t).frames)

  place : first_register top + reg - length (in_use t) ≡ first_register (memory_engine.view s).frames - H.body.base + reg
  place =
      let m = top-moved H.body.base (length (in_use t)) _ H.over H.body H.under E.over E.body (at E.by.pc (memory_engine.view t).frames) r.moved in
      let b = ap first_register H.frames in
      let a = top-over c t y h E in
      omega (arith, m, a, b)

  sent : (o : Sent) → drop (length (in_use t)) (with_sent o (memory_engine.view (memory_step t y).state).frames reg (in_use t ++ words)) ≡ sent_to o (first_register (memory_engine.view s).frames - H.body.base + reg) words
  sent nothing = drop-append_seam (in_use t) words
  sent (closes v) = drop-append_seam (in_use t) words
  sent (gets v) =
      let a = top-over c t y h E in
      ap (λ (fs : List Frame). drop (length (in_use t)) (into fs reg v (in_use t ++ words))) E.frames
      ∙ ap (drop (length (in_use t))) (into-top E.over E.body (at E.by.pc (memory_engine.view t).frames) reg v (in_use t ++ words))
      ∙ set-above (in_use t) words (first_register top + reg) v (omega (arith, a))
      ∙ ap (λ j. set words j v) place

  -- what was held stands above the caller's words
  pub restored : RestoredStack s x t y c (memory_step t y).state
  restored =
      let n = found-height c t y h E in
      record {
        stacked = stacked c t y h E;
        held = H;
        by = E.by;
        above =
            ap (drop t.machine.height) r.words ∙ ap (λ k. drop k (with_sent E.by.sent (memory_engine.view (memory_step t y).state).frames reg (in_use t ++ words))) n
            ∙ sent E.by.sent;
      }
