-- The engines that are wrong in what is put back: demand 3 refuses each by the field that WrongRestored.antt names.
use Prim.Native.Nat.{ℕ, ◌+◌, ◌-◌}
use native.Mathlib.Omega.{arith}
use mathlib.Core.Path.{◌≡◌, refl, sym, ap, ◌∙◌}
use mathlib.Core.Bool.{Bool, true, false, not, ◌&&◌}
use mathlib.Core.List.{List, [], ◌∷◌, ◌++◌, map, append_assoc}
use mathlib.Core.Option.{Option, some}
use lib.ListN.{length, get_or, take, drop, length-append}
use lib.Seq.{take-append_seam}
use Rattle.heap.specs.declared.object.CoroState.{CoroState}
use Rattle.model.specs.World.{World}
use Rattle.model.specs.Call.{Call, typed, as_call}
use Rattle.model.specs.Compute.{computed}
use Rattle.model.specs.declared.machine.Cont.{Cont}
use Rattle.model.specs.declared.machine.Driver.{Driver}
use Rattle.model.specs.declared.machine.Active.{Active}
use Rattle.model.specs.declared.machine.Frame.{Frame}
use Rattle.model.specs.declared.call.Op.{Op}
use Rattle.claims_model.specs.Engine.{Engine, Turn, Seen, View, turn_call, run_turns}
use Rattle.claims_model.specs.Says.{gets, entry, announced_by, whom}
use Rattle.claims_model.specs.Held.{at, Moved, AllMoved, pc_of, waits_in, stepped, with_sent, By, Held, Entered}
use Rattle.claims_model.specs.Demand3.{Demand3}
use Rattle.claims_model.specs.Premises.{runs_in, suspended_in, waits}
use Rattle.claims_model.specs.Story as Story
use Rattle.claims_model.specs.Steps.{view_of}
use Rattle.claims_model.specs.Story.{c}
use Rattle.claims_model.specs.Witness.{frame}
use Rattle.claims_model.specs.Refuted.{Refuted, RefutedAt, RefutedOn, RefutedAtFrame, Each, Stands, standing, NextEntry, entered, restored, held_and_stands, frames_are, words_are}
use Rattle.claims_model.specs.Altered as Altered
use Rattle.claims_model.specs.Altered.{leaving, exiting, seeing, leaving_at, making}
use Rattle.claims_model.specs.WrongRestored as W
use Rattle.claims_model.specs.WrongRestored.{grant_resumes, fourth_word5, unchained, on_top, on_second, tail, of_zero, discards, without_closure, at_one, further, higher, moves_once, restores_with, top_of_zero, first_of5, saves_with, reads_row_of, exchanges_rows, restores_if_seen}
use Rattle.claims_model.proofs.Premises.{waits-true}
use Rattle.claims_model.proofs.Cores.{no_both}
use Rattle.claims_model.proofs.Places.{begun, inside, seven, sleeping}
use Rattle.claims_model.proofs.WrongEntries.{entered_by, left-under, first, second, code_of, floor_in, some_one, last_or, last-is, sent_in, next-entry-at, sent-by, word-by, all_alike, each, pc_alike, pc_is, map-append, on-others}

-- ---- what is put back

abbrev func_alike : (b h : ℕ) (f g : Frame) → Type 0
func_alike b h f g = g.func ≡ f.func

abbrev func_of : Frame → ℕ
func_of f = f.func

abbrev closure_alike : (b h : ℕ) (f g : Frame) → Type 0
closure_alike b h f g = g.closure ≡ f.closure

abbrev closure_of : Frame → ℕ
closure_of f = f.closure

abbrev cont_alike : (b h : ℕ) (f g : Frame) → Type 0
cont_alike b h f g = g.cont ≡ f.cont

abbrev cont_of : Frame → ℕ
cont_of f = code_of f.cont

-- the frames that a suspending call finds of the innermost coroutine
abbrev found : View → List Frame
found v = take (length v.frames - floor_in v.chain) v.frames

module _ {v : View} (r : Held v c) where
  abbrev mine : List Frame
  mine = r.over ++ (r.body ∷ [])

  pub found-mine : found v ≡ mine
  found-mine =
      let whole : v.frames ≡ mine ++ r.under = r.frames ∙ sym (append_assoc r.over (r.body ∷ []) r.under) in
      let n : length (mine ++ r.under) - length r.under ≡ length mine = omega (arith, length-append mine r.under) in
      (λ i. take (length (whole i) - floor_in (r.chain i)) (whole i)) ∙ ap (λ m. take m (mine ++ r.under)) n ∙ take-append_seam mine r.under

  pub base-mine : (g : Frame) → r.body.base ≡ (last_or g (found v)).base
  base-mine g = sym (ap (λ fs. (last_or g fs).base) found-mine ∙ ap (λ f. f.base) (last-is g r.over r.body))

-- it was held, and stands again
module _ {v : View} (x : Option Op) {w : View} {y : Option Op} {z : View} (h : Held v c) (t : Stands w y c z) where
  abbrev moved-from : List Frame
  moved-from = at (stepped t.by.sent (pc_of (announced_by v x))) (mine h)

  abbrev moved_to : List Frame
  moved_to = t.over ++ (t.body ∷ [])

  from_found : moved-from ≡ at (stepped (sent_in (whom w y)) (pc_of (announced_by v x))) (found v)
  from_found = λ i. at (stepped (sent-by t.by i) (pc_of (announced_by v x))) (sym (found-mine h) i)

  -- the frames that stand on the caller's, as many as were found
  pub on-top : (F : (b h : ℕ) (f g : Frame) → Type 0) (g : Frame → ℕ) → ((b h : ℕ) (f j : Frame) → F b h f j → g j ≡ g f) → Each F h.body.base (length w.stack) moved-from moved_to
      → map g z.frames ≡ map g (at (stepped (sent_in (whom w y)) (pc_of (announced_by v x))) (found v)) ++ map g (at t.by.pc w.frames)
  on-top F g alike m =
      let under = at t.by.pc w.frames in
      ap (map g) (on-others t) ∙ map-append g moved_to under ∙ ap (λ l. l ++ map g under) (all_alike F g g alike h.body.base (length w.stack) moved-from moved_to m ∙ ap (map g) from_found)

  pub on-moved : (F : (b h : ℕ) (f g : Frame) → Type 0) (g : Frame → ℕ) → ((b h : ℕ) (f j : Frame) → F b h f j → g j ≡ g f) → ((b h : ℕ) (f j : Frame) → Moved b h f j → F b h f j)
      → AllMoved h.body.base (length w.stack) moved-from moved_to → map g z.frames ≡ map g (at (stepped (sent_in (whom w y)) (pc_of (announced_by v x))) (found v)) ++ map g (at t.by.pc w.frames)
  on-moved F g alike p m = on-top F g alike (each F p h.body.base (length w.stack) moved-from moved_to m)

  -- the word at place i
  pub word-back : z.stack ≡ with_sent t.by.sent z.frames (waits_in (announced_by v x)) (w.stack ++ drop h.body.base v.stack) → (g : Frame) (i : ℕ)
      → get_or z.stack i 0 ≡ get_or (with_sent (sent_in (whom w y)) z.frames (waits_in (announced_by v x)) (w.stack ++ drop (last_or g (found v)).base v.stack)) i 0
  word-back e g i = ap (λ xs. get_or xs i 0) e ∙ (λ j. get_or (with_sent (sent-by t.by j) z.frames (waits_in (announced_by v x)) (w.stack ++ drop (base-mine h g j) v.stack)) i 0)

-- one distance for two frames
abbrev base_alike : (b h : ℕ) (f g : Frame) → Type 0
base_alike b h f g = g.base + b ≡ f.base + h

distances : (b n : ℕ) (fs ks rest : List Frame) (f₁ f₂ : Frame) → fs ≡ f₁ ∷ f₂ ∷ [] → Each base_alike b n fs ks
    → first (map (λ k. k.base) (ks ++ rest)) + f₂.base ≡ second (map (λ k. k.base) (ks ++ rest)) + f₁.base
distances b n [] ks rest f₁ f₂ e h = let z = ap length e in absurd (omega (arith, z))
distances b n (g ∷ []) ks rest f₁ f₂ e h = let z = ap length e in absurd (omega (arith, z))
distances b n (g ∷ k ∷ []) [] rest f₁ f₂ e h = absurd h
distances b n (g ∷ k ∷ []) (k₁ ∷ []) rest f₁ f₂ e h = absurd h.1
distances b n (g ∷ k ∷ []) (k₁ ∷ k₂ ∷ []) rest f₁ f₂ e h =
    let p = h.0 in
    let q = h.1.0 in
    let x = ap (λ fs. first (map (λ k. k.base) fs)) e in
    let y = ap (λ fs. second (map (λ k. k.base) fs)) e in
    omega (arith, p, q, x, y)
distances b n (g ∷ k ∷ []) (k₁ ∷ k₂ ∷ k₃ ∷ ks) rest f₁ f₂ e h = absurd h.1.1
distances b n (g ∷ k ∷ j ∷ fs) ks rest f₁ f₂ e h = let z = ap length e in absurd (omega (arith, z))

two-moved : {v : View} (x : Option Op) {w : View} {y : Option Op} {z : View} (h : Held v c) (t : Stands w y c z) → Each base_alike h.body.base (length w.stack) (moved-from x h t) (moved_to x h t) → (f₁ f₂ : Frame)
    → at (stepped (sent_in (whom w y)) (pc_of (announced_by v x))) (found v) ≡ f₁ ∷ f₂ ∷ [] → first (map (λ k. k.base) z.frames) + f₂.base ≡ second (map (λ k. k.base) z.frames) + f₁.base
two-moved x {w = w} h t m f₁ f₂ e =
    let under = at t.by.pc w.frames in
    ap (λ fs. first (map (λ k. k.base) fs) + f₂.base) (on-others t)
    ∙ distances h.body.base (length w.stack) (moved-from x h t) (moved_to x h t) under f₁ f₂ (from_found x h t ∙ e) m
    ∙ ap (λ fs. second (map (λ k. k.base) fs) + f₁.base) (sym (on-others t))

all_moved : {v : View} (x : Option Op) {w : View} {y : Option Op} {z : View} (h : Held v c) (t : Stands w y c z) → AllMoved h.body.base (length w.stack) (moved-from x h t) (moved_to x h t) → (f₁ f₂ : Frame)
    → at (stepped (sent_in (whom w y)) (pc_of (announced_by v x))) (found v) ≡ f₁ ∷ f₂ ∷ [] → first (map (λ k. k.base) z.frames) + f₂.base ≡ second (map (λ k. k.base) z.frames) + f₁.base
all_moved x {w = w} h t m = two-moved x h t (each base_alike (λ b n f j e. e.base) h.body.base (length w.stack) (moved-from x h t) (moved_to x h t) m)

more-frames : {w : View} {y : Option Op} {z : View} → Entered w y c z → (n : ℕ) → length z.frames ≡ n → length w.frames ≡ n → ⊥
more-frames {w = w} {z = z} t n p q =
    let a = ap length t.frames in
    let b = length-append t.over (t.body ∷ at t.by.pc w.frames) in
    let k = at_length t.by.pc w.frames in
    omega (arith, a, b, k, p, q)
  where
    at_length : (p : ℕ) (fs : List Frame) → length (at p fs) ≡ length fs
    at_length p [] = refl
    at_length p (f ∷ fs) = refl

-- c yields inside the call that it made, and is entered again from one frame deeper
abbrev yields : Option Op
yields = some (Op.Yield 7 3 1)

yield-typed : typed (Op.Yield 7 3 1) ≡ true
unfolding typed
yield-typed = refl

deeper-typed : typed Story.deeper ≡ true
unfolding typed
deeper-typed = refl

put_typed : typed (Op.PutWord 0 c) ≡ true
unfolding typed
put_typed = refl

resume-typed : typed (Op.Resume 9 1 0 2) ≡ true
unfolding typed
resume-typed = refl

abbrev between : List (Turn Call)
between = turn_call (as_call Story.deeper deeper-typed) ∷ turn_call (as_call (Op.PutWord 0 c) put_typed) ∷ []

five : (a b c d e : Bool) → (a && b && not c && d && e) ≡ true → (a ≡ true) × (b ≡ true) × (c ≡ false) × (d ≡ true) × (e ≡ true)
five false b c d e h = no_both h refl
five true false c d e h = no_both h refl
five true true true d e h = no_both h refl
five true true false false e h = no_both h refl
five true true false true e h = (refl, refl, refl, refl, h)

-- where x suspends c, and y is its next entry, of an engine that leaves other worlds
module _ (f : World → Call → World) (s₁ : World) (x : Call) (ts : List (Turn Call)) (y : Call) where
  abbrev s₂ : World
  s₂ = f s₁ x

  abbrev s₃ : World
  s₃ = run_turns (leaving f) s₂ ts

  abbrev met : Bool
  met = runs_in (leaving f) c s₁ && suspended_in (leaving f) c s₂ && not (runs_in (leaving f) c s₃) && runs_in (leaving f) c (f s₃ y) && waits (leaving f) c s₂ ts

  pub next-entry : met ≡ true → NextEntry (leaving f)
  next-entry h =
      let t = five (runs_in (leaving f) c s₁) (suspended_in (leaving f) c s₂) (runs_in (leaving f) c s₃) (runs_in (leaving f) c (f s₃ y)) (waits (leaving f) c s₂ ts) h in
      record { c = c; s = s₁; x = x; waiting = ts; y = y; suspends = record { before = t.0; after = t.1 }; waits = waits-true (leaving f) c s₂ ts t.4; enters = record { before = t.2; after = t.3 } }

-- what it held there
unfoldable was-held : Held (view_of inside) c
unfolding computed inside
was-held = record { over = frame 1 0 8 0 (Cont.Dyn 2) ∷ []; body = frame 0 5 4 Story.f Cont.Coro; under = frame 0 2 0 0 Cont.Entry ∷ []; driver = Driver.Resume 1; outer = []; frames = refl; its_own = refl; chain = refl }

-- what its second resume says; the frames of that caller; the frames that stand, computed
abbrev again : {w : View} {y : Option Op} → whom w y ≡ some (entry c (Driver.Resume 1) (gets 0) 9) → By w y c
again e = record { driver = Driver.Resume 1; sent = gets 0; pc = 9; says = e }

abbrev callers : List Frame
callers = frame 0 9 4 0 Cont.Discard ∷ frame 0 5 0 0 Cont.Entry ∷ []

through : {fs gs : List Frame} (ks : List Frame) → fs ≡ ks → gs ≡ ks → fs ≡ gs
through ks a b = a ∙ sym b

restored-held : RefutedAt restored (λ e a r. r.held) (seeing unchained)
unfolding computed begun
restored-held = (
  next-entry-at c begun (as_call (Op.Yield 8 3 1) refl) [] (as_call (Op.Resume 9 1 0 2) refl) refl refl refl refl refl,
  λ h.
      let n : ◌≡◌ {A = ℕ} 0 1 = ap (λ (l : List Active). some_one l) h.chain in
      absurd (omega (arith, n)),
)

restored-suspended : RefutedAt restored (λ e a r. r.suspended) (leaving_at Altered.grant (λ w z. making c CoroState.Created z))
unfolding computed begun
restored-suspended = (
  next-entry-at c begun (as_call (Op.Yield 8 3 1) refl) (turn_call (as_call (Op.Grant 1) refl) ∷ []) (as_call (Op.Resume 9 1 0 2) refl) refl refl refl refl refl,
  λ h.
      no_both h refl,
)

restored-entered : RefutedAt restored (λ e a r. r.entered) moves_once
unfolding computed inside next-entry
restored-entered = (next-entry moves_once.next inside (as_call (Op.Yield 7 3 1) yield-typed) between (as_call (Op.Resume 9 1 0 2) resume-typed) refl, λ h. more-frames h 2 refl refl)

restored-moved : RefutedOn restored held_and_stands (frames_are AllMoved) (λ e a r. r.moved) (saves_with top_of_zero)
unfolding computed inside next-entry
restored-moved = (
  next-entry (saves_with top_of_zero).next inside (as_call (Op.Yield 7 3 1) yield-typed) between (as_call (Op.Resume 9 1 0 2) resume-typed) refl,
  (was-held, record { by = again refl; over = frame 0 8 12 0 (Cont.Dyn 2) ∷ []; body = frame 0 5 8 Story.f Cont.Coro; frames = through (frame 0 8 12 0 (Cont.Dyn 2) ∷ frame 0 5 8 Story.f Cont.Coro ∷ callers) refl refl }),
  λ g h.
      let q : ◌≡◌ {A = ℕ} 0 1 = ap first (on-moved yields g.0 g.1 func_alike func_of (λ b h f j e. e) (λ b h f j m. m.func) h) in
      absurd (omega (arith, q)),
)

restored-moved-rest : RefutedOn restored held_and_stands (frames_are AllMoved) (λ e a r. r.moved) (restores_with (on_second higher))
unfolding computed inside next-entry
restored-moved-rest = (
  next-entry (restores_with (on_second higher)).next inside (as_call (Op.Yield 7 3 1) yield-typed) between (as_call (Op.Resume 9 1 0 2) resume-typed) refl,
  (was-held, record { by = again refl; over = frame 1 8 12 0 (Cont.Dyn 2) ∷ []; body = frame 0 5 9 Story.f Cont.Coro; frames = through (frame 1 8 12 0 (Cont.Dyn 2) ∷ frame 0 5 9 Story.f Cont.Coro ∷ callers) refl refl }),
  λ g h.
      let q : ◌≡◌ {A = ℕ} 16 17 = all_moved yields g.0 g.1 h (frame 1 8 8 0 (Cont.Dyn 2)) (frame 0 5 4 Story.f Cont.Coro) refl in
      absurd (omega (arith, q)),
)

restored-words : RefutedOn restored held_and_stands words_are (λ e a r. r.words) (saves_with first_of5)
unfolding computed inside next-entry
restored-words = (
  next-entry (saves_with first_of5).next inside (as_call (Op.Yield 7 3 1) yield-typed) between (as_call (Op.Resume 9 1 0 2) resume-typed) refl,
  (was-held, record { by = again refl; over = frame 1 8 12 0 (Cont.Dyn 2) ∷ []; body = frame 0 5 8 Story.f Cont.Coro; frames = through (frame 1 8 12 0 (Cont.Dyn 2) ∷ frame 0 5 8 Story.f Cont.Coro ∷ callers) refl refl }),
  λ g h.
      let q : ◌≡◌ {A = ℕ} 5 11 = word-back yields g.0 g.1 h (frame 0 0 0 0 Cont.Coro) 8 in
      absurd (omega (arith, q)),
)

moved-func : RefutedAtFrame (λ b h f g m. m.func) (restores_with (on_top of_zero))
unfolding computed inside next-entry was-held
moved-func = (
  next-entry (restores_with (on_top of_zero)).next inside (as_call (Op.Yield 7 3 1) yield-typed) between (as_call (Op.Resume 9 1 0 2) resume-typed) refl,
  ((was-held, record { by = again refl; over = frame 0 8 12 0 (Cont.Dyn 2) ∷ []; body = frame 0 5 8 Story.f Cont.Coro; frames = through (frame 0 8 12 0 (Cont.Dyn 2) ∷ frame 0 5 8 Story.f Cont.Coro ∷ callers) refl refl }), (tt, (tt, tt))),
  λ g m.
      let q : ◌≡◌ {A = ℕ} 0 1 = ap first (on-top yields g.0 g.1 func_alike func_of (λ b h f j e. e) m) in
      absurd (omega (arith, q)),
)

moved-pc : RefutedAtFrame (λ b h f g m. m.pc) (restores_with (on_top at_one))
unfolding computed inside next-entry was-held
moved-pc = (
  next-entry (restores_with (on_top at_one)).next inside (as_call (Op.Yield 7 3 1) yield-typed) between (as_call (Op.Resume 9 1 0 2) resume-typed) refl,
  ((was-held, record { by = again refl; over = frame 1 1 12 0 (Cont.Dyn 2) ∷ []; body = frame 0 5 8 Story.f Cont.Coro; frames = through (frame 1 1 12 0 (Cont.Dyn 2) ∷ frame 0 5 8 Story.f Cont.Coro ∷ callers) refl refl }), (tt, (tt, tt))),
  λ g m.
      let q : ◌≡◌ {A = ℕ} 1 8 = ap first (on-top yields g.0 g.1 pc_alike pc_is (λ b h f j e. e) m) in
      absurd (omega (arith, q)),
)

moved-base : RefutedAtFrame (λ b h f g m. m.base) (restores_with (on_top higher))
unfolding computed inside next-entry was-held
moved-base = (
  next-entry (restores_with (on_top higher)).next inside (as_call (Op.Yield 7 3 1) yield-typed) between (as_call (Op.Resume 9 1 0 2) resume-typed) refl,
  ((was-held, record { by = again refl; over = frame 1 8 13 0 (Cont.Dyn 2) ∷ []; body = frame 0 5 8 Story.f Cont.Coro; frames = through (frame 1 8 13 0 (Cont.Dyn 2) ∷ frame 0 5 8 Story.f Cont.Coro ∷ callers) refl refl }), (tt, (tt, tt))),
  λ g m.
      let q : ◌≡◌ {A = ℕ} 17 16 = two-moved yields g.0 g.1 m (frame 1 8 8 0 (Cont.Dyn 2)) (frame 0 5 4 Story.f Cont.Coro) refl in
      absurd (omega (arith, q)),
)

moved-closure : RefutedAtFrame (λ b h f g m. m.closure) (restores_with (map without_closure))
unfolding computed inside next-entry was-held
moved-closure = (
  next-entry (restores_with (map without_closure)).next inside (as_call (Op.Yield 7 3 1) yield-typed) between (as_call (Op.Resume 9 1 0 2) resume-typed) refl,
  ((was-held, record { by = again refl; over = frame 1 8 12 0 (Cont.Dyn 2) ∷ []; body = frame 0 5 8 0 Cont.Coro; frames = through (frame 1 8 12 0 (Cont.Dyn 2) ∷ frame 0 5 8 0 Cont.Coro ∷ callers) refl refl }), (tt, (tt, tt))),
  λ g m.
      let q : ◌≡◌ {A = ℕ} 0 Story.f = ap second (on-top yields g.0 g.1 closure_alike closure_of (λ b h f j e. e) m) in
      absurd (omega (arith, q)),
)

moved-cont : RefutedAtFrame (λ b h f g m. m.cont) (restores_with (on_top discards))
unfolding computed inside next-entry was-held
moved-cont = (
  next-entry (restores_with (on_top discards)).next inside (as_call (Op.Yield 7 3 1) yield-typed) between (as_call (Op.Resume 9 1 0 2) resume-typed) refl,
  ((was-held, record { by = again refl; over = frame 1 8 12 0 Cont.Discard ∷ []; body = frame 0 5 8 Story.f Cont.Coro; frames = through (frame 1 8 12 0 Cont.Discard ∷ frame 0 5 8 Story.f Cont.Coro ∷ callers) refl refl }), (tt, (tt, tt))),
  λ g m.
      let q : ◌≡◌ {A = ℕ} 4 2 = ap first (on-top yields g.0 g.1 cont_alike cont_of (λ b h f j e. ap code_of e) m) in
      absurd (omega (arith, q)),
)

-- ---- demand 3

demand3-entered : Refuted Demand3 (λ e v. v.entered) grant_resumes
demand3-entered h = let a = entered_by.0 in entered_by.1 (h a.c a.s a.y a.enters).by

pub demand3-restored : Refuted Demand3 (λ e v. v.restored) moves_once
demand3-restored h = let a = restored-entered.0 in restored-entered.1 (h a.c a.s a.x a.waiting a.y a.suspends a.waits a.enters).entered

demand3-untouched : Refuted Demand3 (λ e v. v.untouched) (exiting fourth_word5)
demand3-untouched h =
    let a = left-under.0 in
    let r = h a.c a.s a.y a.going a.z a.enters a.goes a.stops in
    left-under.2 r.by r.under

-- ---- more of them

restored-in : (e : Engine) → Demand3 e → (a : NextEntry e) → restored e a
restored-in e d a = d.restored a.c a.s a.x a.waiting a.y a.suspends a.waits a.enters

-- c is suspended with 7, then d with 8: c gets the other's
others-registers : Demand3 (reads_row_of c Story.d) → ⊥
unfolding computed seven next-entry
others-registers d =
    let a = next-entry (reads_row_of c Story.d).next seven (as_call (Op.Yield 8 3 1) refl) (map turn_call (as_call (Op.CoroNew 9 3 0 0) refl ∷ as_call (Op.Resume 10 1 3 2) refl ∷ as_call (Op.PutWord 0 8) refl ∷ as_call (Op.Yield 8 3 1) refl ∷ [])) (as_call (Op.Resume 11 1 0 2) refl) refl in
    let r = restored-in (reads_row_of c Story.d) d a in
    let q : ◌≡◌ {A = ℕ} 8 7 = word-back (some (Op.Yield 8 3 1)) r.held (standing r.entered) r.words (frame 0 0 0 0 Cont.Coro) 4 in
    absurd (omega (arith, q))

rows-exchanged : Demand3 (exchanges_rows c Story.d) → ⊥
unfolding computed seven next-entry
rows-exchanged d =
    let a = next-entry (exchanges_rows c Story.d).next seven (as_call (Op.Yield 8 3 1) refl) (map turn_call (as_call (Op.CoroNew 9 3 0 0) refl ∷ as_call (Op.Resume 10 1 3 2) refl ∷ as_call (Op.PutWord 0 8) refl ∷ as_call (Op.Yield 8 3 1) refl ∷ [])) (as_call (Op.Resume 11 1 0 2) refl) refl in
    let r = restored-in (exchanges_rows c Story.d) d a in
    let q : ◌≡◌ {A = ℕ} 8 7 = word-back (some (Op.Yield 8 3 1)) r.held (standing r.entered) r.words (frame 0 0 0 0 Cont.Coro) 4 in
    absurd (omega (arith, q))

top-dropped : Demand3 (restores_with tail) → ⊥
unfolding computed inside next-entry
top-dropped d =
    let a = next-entry (restores_with tail).next inside (as_call (Op.Yield 7 3 1) yield-typed) between (as_call (Op.Resume 9 1 0 2) resume-typed) refl in
    let r = restored-in (restores_with tail) d a in
    let q : ◌≡◌ {A = ℕ} 0 1 = ap first (on-moved yields r.held (standing r.entered) func_alike func_of (λ b h f j e. e) (λ b h f j m. m.func) r.moved) in
    absurd (omega (arith, q))

stepped-twice : Demand3 (restores_with (on_top further)) → ⊥
unfolding computed inside next-entry
stepped-twice d =
    let a = next-entry (restores_with (on_top further)).next inside (as_call (Op.Yield 7 3 1) yield-typed) between (as_call (Op.Resume 9 1 0 2) resume-typed) refl in
    let r = restored-in (restores_with (on_top further)) d a in
    let q : ◌≡◌ {A = ℕ} 9 8 = ap first (on-moved yields r.held (standing r.entered) pc_alike pc_is (λ b h f j e. e) (λ b h f j m. m.pc) r.moved) in
    absurd (omega (arith, q))

-- c was suspended before the first call, with 7 in its first register: a word is thrown into it, so that none is sent
suspended-one : Seen
suspended-one = record { state = CoroState.Yielded; words = 7 ∷ 0 ∷ 0 ∷ 0 ∷ []; frames = frame 0 8 0 0 Cont.Coro ∷ []; waits = 3; most_words = 4; most_frames = 1; closing = false; signal = 0; result = 0 }

sleeper-gets-others : Demand3 restores_if_seen → ⊥
unfolding computed sleeping suspended-one
sleeper-gets-others d =
    let r = d.entered c (record { world = sleeping; saw = false }) (as_call (Op.ResumeThrow 3 1 0 2) refl) (record { before = refl; after = refl }) in
    let q : ◌≡◌ {A = ℕ} 5 7 = word-by (view_of (restores_if_seen.next (record { world = sleeping; saw = false }) (as_call (Op.ResumeThrow 3 1 0 2) refl)).world) r.by suspended-one (r.saved-words suspended-one refl) 4 in
    absurd (omega (arith, q))

-- NONE OF THEM
pub refuted-restored : W.RefutedRestored
refuted-restored = record { held = restored-held; suspended = restored-suspended; entered = restored-entered; moved = restored-moved; moved-rest = restored-moved-rest; words = restored-words }

pub refuted-moved : W.RefutedMoved
refuted-moved = record { func = moved-func; pc = moved-pc; base = moved-base; closure = moved-closure; cont = moved-cont }

pub wrong-restored : W.WrongRestored
wrong-restored = record { others-registers = others-registers; rows-exchanged = rows-exchanged; top-dropped = top-dropped; stepped-twice = stepped-twice; sleeper-gets-others = sleeper-gets-others }

pub refuted-demand3 : W.RefutedDemand3
refuted-demand3 = record { entered = demand3-entered; restored = demand3-restored; untouched = demand3-untouched }
