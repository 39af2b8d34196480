-- The frames of a coroutine, on the stack and saved, in the claim's words: those over its Coro frame, that frame, those under it.
use Prim.Native.Nat.{ℕ, ◌-◌, ◌≤◌}
use native.Mathlib.Omega.{arith}
use mathlib.Core.Path.{◌≡◌, refl, sym, ap, ◌∙◌, subst}
use mathlib.Core.Bool.{Bool, true, false, ◌&&◌}
use mathlib.Core.List.{List, [], ◌∷◌, ◌++◌, map, append_assoc}
use lib.ListN.{length, take, length-append}
use lib.Seq.{take-append_seam}
use lib.Dec.{eqb, leb}
use borrow.Author.Tests.{eqb-true, leb-true}
use Rattle.model.specs.Lists.{each}
use Rattle.model.specs.Program.{setup_ok}
use Rattle.model.specs.World.{World}
use Rattle.model.specs.Frames.{is_coro, on_top, set_pc, step_pc, raise, lower, above, base_at}
use Rattle.model.specs.Sound.{sizes_ok, saved_sizes_ok, frames_ok, entry_ok, floors_ok, drivers_ok, running_ok, saved_ok, rows_ok, queues_ok, fuel_ok, unused_ok, ranges_ok, sound, beside, matches, bases_ok, frame_names, conts_lie, catches_lie}
use Rattle.model.specs.declared.machine.Cont.{Cont}
use Rattle.model.specs.declared.machine.Active.{Active}
use Rattle.model.specs.declared.machine.Frame.{Frame}
use Rattle.claims_model.specs.Says.{Sent, nothing, gets, closes}
use Rattle.claims_model.specs.Held.{at, pc_after, AllMoved, stepped}
use Rattle.claims_model.proofs.Held.{Seat, frames_with}
use Rattle.claims_model.proofs.Cores.{no_both, and_left, and_right}
use Rattle.claims_model.proofs.Under.{Lift, l-body, l-plain, base-cons, base-here}
use Rattle.claims_model.proofs.Sounds.{Floors, floors}

pub at_top : (p : ℕ) (fs : List Frame) → on_top (set_pc p) fs ≡ at p fs
at_top p [] = refl
at_top p (f ∷ fs) = refl

pub is-coro : (c : Cont) → is_coro c ≡ true → c ≡ Cont.Coro
is-coro Cont.Entry h = no_both h refl
is-coro (Cont.Write r) h = no_both h refl
is-coro (Cont.Dyn r) h = no_both h refl
is-coro (Cont.Value r) h = no_both h refl
is-coro Cont.Discard h = no_both h refl
is-coro Cont.Coro h = refl

-- ---- saved frames, raised by h

pub record Body (h : ℕ) (gs : List Frame) : Type 0 where
  pub over : List Frame
  pub body : Frame
  pub frames : gs ≡ over ++ (body ∷ [])
  pub its_own : body.cont ≡ Cont.Coro
  pub floor : body.base ≡ h

pub raised : (h : ℕ) {fs : List Frame} → Lift fs → Body h (map (raise h) fs)
raised h (l-body {f} e z) = record { over = []; body = raise h f; frames = refl; its_own = is-coro f.cont e; floor = omega (arith, z) }
raised h (l-plain {f} e l) =
    let b = raised h l in
    record { over = raise h f ∷ b.over; body = b.body; frames = ap (λ (gs : List Frame). raise h f ∷ gs) b.frames; its_own = b.its_own; floor = b.floor }

-- ---- frames on the stack: the innermost coroutine's

pub record Cut (fs : List Frame) (a : Active) : Type 0 where
  pub over : List Frame
  pub body : Frame
  pub under : List Frame
  pub frames : fs ≡ over ++ (body ∷ under)
  pub its_own : body.cont ≡ Cont.Coro
  pub floor : a.floor ≡ length under

pub cut : (fs : List Frame) (a : Active) (chain : List Active) → Floors fs (a ∷ chain) → Cut fs a
cut [] a chain h = no_both h refl
cut (f ∷ fs) a chain h = go (is_coro f.cont) refl (cut fs a chain) h
  where
    go : (b : Bool) → is_coro f.cont ≡ b → (Floors fs (a ∷ chain) → Cut fs a) → beside b (λ f fs a. eqb a.floor (length fs)) f fs (a ∷ chain) (matches (λ f fs a. eqb a.floor (length fs)) fs) ≡ true → Cut (f ∷ fs) a
    go true c rest m =
        record { over = []; body = f; under = fs; frames = refl; its_own = is-coro f.cont c; floor = eqb-true a.floor (length fs) (and_left (eqb a.floor (length fs)) (matches (λ f fs a. eqb a.floor (length fs)) fs chain) m) }
    go false c rest m =
        let r = rest m in
        record { over = f ∷ r.over; body = r.body; under = r.under; frames = ap (λ (gs : List Frame). f ∷ gs) r.frames; its_own = r.its_own; floor = r.floor }

pub cut-sound : (w : World) → sound w ≡ true → (a : Active) (chain : List Active) → w.chain ≡ a ∷ chain → Cut w.frames a
unfolding floors_ok
cut-sound w h a chain e = cut w.frames a chain (ap (matches (λ f fs a. eqb a.floor (length fs)) w.frames) (sym e) ∙ floors w h)

-- from its Coro frame up, with the top one at p
above_at : (p : ℕ) (over : List Frame) (body : Frame) (under : List Frame) → above (length under) (at p (over ++ (body ∷ under))) ≡ at p (over ++ (body ∷ []))
above_at p over body under = ap (above (length under)) (split over) ∙ ap (λ n. take n (at p (over ++ (body ∷ [])) ++ under)) count ∙ take-append_seam (at p (over ++ (body ∷ []))) under
  where
    split : (xs : List Frame) → at p (xs ++ (body ∷ under)) ≡ at p (xs ++ (body ∷ [])) ++ under
    split [] = refl
    split (f ∷ fs) = ap (λ (gs : List Frame). set_pc p f ∷ gs) (sym (append_assoc fs (body ∷ []) under))

    count : length (at p (over ++ (body ∷ [])) ++ under) - length under ≡ length (at p (over ++ (body ∷ [])))
    count = omega (arith, length-append (at p (over ++ (body ∷ []))) under)

base-of : (over : List Frame) (body : Frame) (under : List Frame) → base_at (length under) (over ++ (body ∷ under)) ≡ body.base
base-of [] body under = base-here body under
base-of (f ∷ over) body under = base-cons (length under) f (over ++ (body ∷ under)) (omega (arith, length-append over (body ∷ under))) ∙ base-of over body under

base-at : (p : ℕ) (over : List Frame) (body : Frame) (under : List Frame) → base_at (length under) (at p (over ++ (body ∷ under))) ≡ body.base
base-at p [] body under = base-of [] (set_pc p body) under
base-at p (f ∷ over) body under = base-of (set_pc p f ∷ over) body under

-- at the index and in the words that coro_suspend uses
module _ (p : ℕ) (fs : List Frame) (a : Active) (t : Cut fs a) where
  whole : on_top (set_pc p) fs ≡ at p (t.over ++ (t.body ∷ t.under))
  whole = at_top p fs ∙ ap (at p) t.frames

  pub cut-above : above a.floor (on_top (set_pc p) fs) ≡ at p (t.over ++ (t.body ∷ []))
  cut-above = (λ i. above (t.floor i) (whole i)) ∙ above_at p t.over t.body t.under

  pub cut-base : base_at a.floor (on_top (set_pc p) fs) ≡ t.body.base
  cut-base = (λ i. base_at (t.floor i) (whole i)) ∙ base-at p t.over t.body t.under

-- ---- no base is below the Coro frame's

abbrev pub Low : ℕ → List Frame → Type 0
Low b [] = Unit {0}
Low b (f ∷ fs) = (b ≤ f.base) × Low b fs

low : (n : ℕ) (over : List Frame) (body : Frame) (under : List Frame) → bases_ok n (over ++ (body ∷ under)) ≡ true → (body.base ≤ n) × Low body.base (over ++ (body ∷ []))
low n [] body under h = (leb-true body.base n (and_left (leb body.base n) (bases_ok body.base under) h), (omega arith, tt))
low n (f ∷ over) body under h =
    let b : f.base ≤ n = leb-true f.base n (and_left (leb f.base n) (bases_ok f.base (over ++ (body ∷ under))) h) in
    let r = low f.base over body under (and_right (leb f.base n) (bases_ok f.base (over ++ (body ∷ under))) h) in
    let r0 = r.0 in
    (omega (arith, b, r0), (r0, r.1))

frames-part : (p a b c d e f g h i j k : Bool) → (p && a && b && c && d && e && f && g && h && i && j && k) ≡ true → a ≡ true
frames-part false a b c d e f g h i j k q = no_both q refl
frames-part true false b c d e f g h i j k q = no_both q refl
frames-part true true b c d e f g h i j k q = refl

bases : (w : World) → sound w ≡ true → bases_ok (length w.stack) w.frames ≡ true
unfolding sound frames_ok
bases w h =
    let q : frames_ok w ≡ true = frames-part (setup_ok w.setup && sizes_ok w && saved_sizes_ok w) (frames_ok w) (entry_ok w) (floors_ok w) (drivers_ok w) (running_ok w) (saved_ok w) (rows_ok w) (queues_ok w) (fuel_ok w) (unused_ok w) (ranges_ok w) h in
    let n = length w.stack in
    let fs = w.frames in
    let s = w.setup in
    and_left (bases_ok n fs) (each (frame_names s) fs) (and_left (bases_ok n fs && each (frame_names s) fs) (conts_lie fs) (and_left (bases_ok n fs && each (frame_names s) fs && conts_lie fs) (catches_lie s n fs) q))

pub cut_low : (w : World) → sound w ≡ true → (a : Active) (t : Cut w.frames a) → Low t.body.base (t.over ++ (t.body ∷ []))
cut_low w h a t = (low (length w.stack) t.over t.body t.under (ap (bases_ok (length w.stack)) (sym t.frames) ∙ bases w h)).1

-- ---- lowered, perhaps stepped, and raised again

all_moved : (b h : ℕ) (fs : List Frame) → Low b fs → AllMoved b h fs (map (raise h) (map (lower b) fs))
all_moved b h [] l = tt
all_moved b h (f ∷ fs) l = let l0 = l.0 in (record { func = refl; pc = refl; base = omega (arith, l0); closure = refl; cont = refl }, all_moved b h fs l.1)

stays : (b h p : ℕ) (fs : List Frame) → Low b fs → AllMoved b h (at p fs) (map (raise h) (map (lower b) (at p fs)))
stays b h p [] l = tt
stays b h p (f ∷ fs) l = all_moved b h (set_pc p f ∷ fs) l

pub moved : (b h p : ℕ) (sent : Sent) (fs : List Frame) (s : Seat) → Low b fs → s.frames ≡ map (lower b) (at p fs) → AllMoved b h (at (stepped sent p) fs) (map (raise h) (frames_with sent s))
moved b h p nothing fs s l e = subst (λ gs. AllMoved b h (at p fs) (map (raise h) gs)) (sym e) (stays b h p fs l)
moved b h p (closes x) fs s l e = subst (λ gs. AllMoved b h (at p fs) (map (raise h) gs)) (sym e) (stays b h p fs l)
moved b h p (gets x) fs s l e = subst (λ gs. AllMoved b h (at (pc_after p) fs) (map (raise h) (on_top step_pc gs))) (sym e) (go fs l)
  where
    go : (fs : List Frame) → Low b fs → AllMoved b h (at (pc_after p) fs) (map (raise h) (on_top step_pc (map (lower b) (at p fs))))
    go [] l = tt
    go (f ∷ fs) l = let l0 = l.0 in (record { func = refl; pc = refl; base = omega (arith, l0); closure = refl; cont = refl }, all_moved b h fs l.1)
