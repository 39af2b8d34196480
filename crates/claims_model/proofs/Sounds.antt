-- What a sound world says of its chain and of what is saved.
use Prim.Native.Nat.{ℕ, zero, suc}
use mathlib.Core.Path.{◌≡◌, refl, sym, ap, ◌∙◌}
use mathlib.Core.Bool.{Bool, true, false, not, ◌&&◌}
use mathlib.Core.List.{List, [], ◌∷◌}
use lib.ListN.{length, get_or}
use lib.Dec.{eqb, leb}
use borrow.Author.Tests.{eqb-true, not-true}
use Rattle.lists.specs.Pick.{pick, pick_true, pick-false}
use Rattle.heap.specs.Table.{slot}
use Rattle.std.specs.Prelude.{Option, Some, None}
use Rattle.model.specs.Lists.{is_nil, each}
use Rattle.model.specs.State.{is_running, is_resumable}
use Rattle.model.specs.Program.{Setup, setup_ok}
use Rattle.model.specs.Object.{Core, Rest, Object, Coroutine, Absent, Is, as_coro}
use Rattle.model.specs.World.{World}
use Rattle.model.specs.Frames.{is_coro, is_entry}
use Rattle.model.specs.Heap.{place, object_at, coro}
use Rattle.model.specs.Sound.{sizes_ok, saved_sizes_ok, frames_ok, entry_ok, floors_ok, drivers_ok, running_ok, saved_ok, rows_ok, queues_ok, fuel_ok, unused_ok, ranges_ok, sound, matches, runs, coros, runs_among, body_last, bases_ok, frame_names, conts_lie, catches_lie, frames_over, waits, saved_in}
use Rattle.model.specs.Lists.{distinct}
use Rattle.model.specs.declared.machine.Active.{Active}
use Rattle.model.specs.declared.machine.Frame.{Frame}
use Rattle.claims_model.proofs.Held.{core_in, core_at}
use Rattle.claims_model.proofs.Cores.{no_both, and_left, and_right}
use Rattle.claims_model.proofs.Shape.{Apart}
use Rattle.claims_model.proofs.Under.{Lift, l-body, l-plain}

parts : (p a b c d e f g : Bool) → (p && a && b && c && d && e && f && g) ≡ true → (a ≡ true) × (b ≡ true)
parts false a b c d e f g h = no_both h refl
parts true false b c d e f g h = no_both h refl
parts true true false c d e f g h = no_both h refl
parts true true true c d e f g h = (refl, refl)

pub two : (w : World) → sound w ≡ true → (running_ok w ≡ true) × (saved_ok w ≡ true)
unfolding sound
two w h = parts (setup_ok w.setup && sizes_ok w && saved_sizes_ok w && frames_ok w && entry_ok w && floors_ok w && drivers_ok w) (running_ok w) (saved_ok w) (rows_ok w) (queues_ok w) (fuel_ok w) (unused_ok w) (ranges_ok w) h

floors-part : (p a b c d e f g h i : Bool) → (p && a && b && c && d && e && f && g && h && i) ≡ true → a ≡ true
floors-part false a b c d e f g h i q = no_both q refl
floors-part true false b c d e f g h i q = no_both q refl
floors-part true true b c d e f g h i q = refl

pub floors : (w : World) → sound w ≡ true → floors_ok w ≡ true
unfolding sound
floors w h = floors-part (setup_ok w.setup && sizes_ok w && saved_sizes_ok w && frames_ok w && entry_ok w) (floors_ok w) (drivers_ok w) (running_ok w) (saved_ok w) (rows_ok w) (queues_ok w) (fuel_ok w) (unused_ok w) (ranges_ok w) h

-- ---- floors

abbrev pub Floors : List Frame → List Active → Type 0
Floors fs chain = matches (λ f fs a. eqb a.floor (length fs)) fs chain ≡ true

-- ---- the chain runs, so a coroutine that does not run stands apart from it

runs-core : (x : Coroutine) → runs x ≡ is_running (core_in x).state
runs-core Absent = refl
runs-core (Is k r) = refl

apart_of : (w : World) (c : ℕ) → is_running (core_at w c).state ≡ false → (chain : List Active) → each (λ a. runs (coro w a.coro)) chain ≡ true → Apart c chain
apart_of w c n [] h = tt
apart_of w c n (a ∷ chain) h =
    let first : runs (coro w a.coro) ≡ true = and_left (runs (coro w a.coro)) (each (λ a. runs (coro w a.coro)) chain) h in
    let others : each (λ a. runs (coro w a.coro)) chain ≡ true = and_right (runs (coro w a.coro)) (each (λ a. runs (coro w a.coro)) chain) h in
    ((λ q. no_both first (runs-core (coro w a.coro) ∙ ap (λ x. is_running (core_at w x).state) (sym q) ∙ n)), apart_of w c n chain others)

pub apart : (w : World) → sound w ≡ true → (c : ℕ) → is_running (core_at w c).state ≡ false → Apart c w.chain
unfolding running_ok
apart w h c n = apart_of w c n w.chain (and_left (each (λ a. runs (coro w a.coro)) w.chain) (distinct (coros w.chain)) (and_left (each (λ a. runs (coro w a.coro)) w.chain && distinct (coros w.chain)) (runs_among (coros w.chain) 0 w.slots) (two w h).0))

-- ---- what is saved is plain frames over one Coro frame at base 0

lift-of : (fs : List Frame) (n : ℕ) → body_last fs ≡ true → bases_ok n fs ≡ true → Lift fs
lift-of [] n h b = no_both h refl
lift-of (f ∷ []) n h b = l-body (sym (pick_true (is_coro f.cont) (not (is_coro f.cont) && not (is_entry f.cont) && body_last [])) ∙ h) (eqb-true f.base 0 (and_right (leb f.base n) (eqb f.base 0) b))
lift-of (f ∷ g ∷ gs) n h b =
    let p : (not (is_coro f.cont) && not (is_entry f.cont) && body_last (g ∷ gs)) ≡ true = sym (pick-false (is_coro f.cont) (not (is_coro f.cont) && not (is_entry f.cont) && body_last (g ∷ gs))) ∙ h in
    l-plain (not-true (is_coro f.cont) (and_left (not (is_coro f.cont)) (not (is_entry f.cont)) (and_left (not (is_coro f.cont) && not (is_entry f.cont)) (body_last (g ∷ gs)) p)))
    (lift-of (g ∷ gs) f.base (and_right (not (is_coro f.cont) && not (is_entry f.cont)) (body_last (g ∷ gs)) p) (and_right (leb f.base n) (bases_ok f.base (g ∷ gs)) b))

each_at : {A : Type 0} (p : A → Bool) (xs : List A) (i : ℕ) (x : A) → p x ≡ true → each p xs ≡ true → p (get_or xs i x) ≡ true
each_at p [] i x h e = h
each_at p (y ∷ xs) zero x h e = and_left (p y) (each p xs) e
each_at p (y ∷ xs) (suc i) x h e = each_at p xs i x h (and_right (p y) (each p xs) e)

saved-in : (s : Setup) (x : Coroutine) → saved_in s x ≡ true → is_resumable (core_in x).state ≡ true → is_nil (core_in x).frames ≡ false → Lift (core_in x).frames
saved-in s Absent h r n = no_both refl n
saved-in s (Is k r) h e n =
    let p : (body_last k.frames && frames_over s (length k.regs) k.frames && waits k) ≡ true = sym
    (ap (λ b. pick b (body_last k.frames && frames_over s (length k.regs) k.frames && waits k) (is_nil k.frames && is_nil k.regs)) e ∙ pick_true (body_last k.frames && frames_over s (length k.regs) k.frames && waits k) (is_nil k.frames && is_nil k.regs))
    ∙ h in
    let q : (body_last k.frames && frames_over s (length k.regs) k.frames) ≡ true = and_left (body_last k.frames && frames_over s (length k.regs) k.frames) (waits k) p in
    lift-of k.frames (length k.regs) (and_left (body_last k.frames) (frames_over s (length k.regs) k.frames) q) (bases k.frames (length k.regs) (and_right (body_last k.frames) (frames_over s (length k.regs) k.frames) q))
  where
    bases : (fs : List Frame) (m : ℕ) → frames_over s m fs ≡ true → bases_ok m fs ≡ true
    bases fs m h = and_left (bases_ok m fs) (each (frame_names s) fs) (and_left (bases_ok m fs && each (frame_names s) fs) (conts_lie fs) (and_left (bases_ok m fs && each (frame_names s) fs && conts_lie fs) (catches_lie s m fs) h))

pub lifts : (w : World) → sound w ≡ true → (c : ℕ) → is_resumable (core_at w c).state ≡ true → is_nil (core_at w c).frames ≡ false → Lift (core_at w c).frames
unfolding saved_ok
lifts w h c = go (place w c)
  where
    go : (p : Option ℕ) → is_resumable (core_in (as_coro (object_at w.slots p))).state ≡ true → is_nil (core_in (as_coro (object_at w.slots p))).frames ≡ false → Lift (core_in (as_coro (object_at w.slots p))).frames
    go None r n = no_both refl n
    go (Some i) r n = saved-in w.setup (as_coro (get_or w.slots i (slot 0 Object.Empty)).object) (each_at (λ x. saved_in w.setup (as_coro x.object)) w.slots i (slot 0 Object.Empty) refl (two w h).1) r n

-- the innermost coroutine runs
pub first_runs : (w : World) → sound w ≡ true → (a : Active) (chain : List Active) → w.chain ≡ a ∷ chain → is_running (core_at w a.coro).state ≡ true
unfolding running_ok
first_runs w h a chain e =
    let all : each (λ a. runs (coro w a.coro)) (a ∷ chain) ≡ true = ap (each (λ a. runs (coro w a.coro))) (sym e) ∙ and_left (each (λ a. runs (coro w a.coro)) w.chain)
    (distinct (coros w.chain)) (and_left (each (λ a. runs (coro w a.coro)) w.chain && distinct (coros w.chain)) (runs_among (coros w.chain) 0 w.slots) (two w h).0) in
    sym (runs-core (coro w a.coro)) ∙ and_left (runs (coro w a.coro)) (each (λ a. runs (coro w a.coro)) chain) all

-- one that can be resumed has a frame
body-solid : (fs : List Frame) → body_last fs ≡ true → is_nil fs ≡ false
body-solid [] h = no_both h refl
body-solid (f ∷ fs) h = refl

pub solid : (w : World) → sound w ≡ true → (c : ℕ) (k : Core) (r : Rest) → coro w c ≡ Is k r → is_resumable k.state ≡ true → is_nil k.frames ≡ false
unfolding saved_ok
solid w h c k r e s = body-solid k.frames (and_left (body_last k.frames) (frames_over w.setup (length k.regs) k.frames) (and_left (body_last k.frames && frames_over w.setup (length k.regs) k.frames) (waits k) held))
  where
    all : (p : Option ℕ) → saved_in w.setup (as_coro (object_at w.slots p)) ≡ true
    all None = refl
    all (Some i) = each_at (λ x. saved_in w.setup (as_coro x.object)) w.slots i (slot 0 Object.Empty) refl (two w h).1

    held : (body_last k.frames && frames_over w.setup (length k.regs) k.frames && waits k) ≡ true
    held =
        sym (pick_true (body_last k.frames && frames_over w.setup (length k.regs) k.frames && waits k) (is_nil k.frames && is_nil k.regs))
        ∙ ap (λ b. pick b (body_last k.frames && frames_over w.setup (length k.regs) k.frames && waits k) (is_nil k.frames && is_nil k.regs)) (sym s)
        ∙ ap (saved_in w.setup) (sym e) ∙ all (place w c)
