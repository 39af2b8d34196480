-- What soundness says of the innermost running coroutine. Assumes nothing.
use mathlib.Core.Path.{◌≡◌, refl, sym, ap, ◌∙◌, subst}
use mathlib.Core.Bool.{true, false, ◌&&◌}
use mathlib.Core.List.{List, [], ◌∷◌}
use Prim.Native.Nat.{ℕ, zero, suc, ◌-◌, ◌≤◌, ◌<◌}
use native.Mathlib.Omega.{arith}
use native.Mathlib.Nat.{not-suc-le-zero, le_of_suc-le-suc, le_refl}
use lib.ListN.{length, get_or}
use lib.Dec.{leb}
use Rattle.lists.specs.Pick.{pick, pick-false}
use Rattle.heap.specs.Word.{nil}
use Rattle.heap.specs.declared.object.CoroState.{CoroState}
use Rattle.model.specs.Lists.{is_nil, distinct}
use Rattle.model.specs.State.{is_running, is_resumable, is_finished}
use Rattle.model.specs.Object.{Core, Rest, Object, Is}
use Rattle.model.specs.World.{World}
use Rattle.model.specs.Frames.{frame, base_at}
use Rattle.model.specs.Heap.{coro}
use Rattle.model.specs.Rows.{held_rows}
use Rattle.model.specs.Sound.{sound, bases_ok, body_last, frames_over, waits, saved_in, runs}
use Rattle.model.specs.declared.machine.Active.{Active}
use Rattle.model.specs.declared.machine.Cont.{Cont}
use Rattle.model.specs.declared.machine.Frame.{Frame}
use Rattle.claims_sound.proofs.Tests.{no_false, and_left, and_right}
use Rattle.claims_sound.proofs.Stand.{Stands, bases-of}
use Rattle.claims_sound.proofs.Cut.{Cut, cut, base-cut, floor-below}
use Rattle.claims_sound.proofs.Point.{Points, finds}
use Rattle.claims_sound.proofs.Sound.{Sound, sound→, Facts, facts}
use Rattle.claims_sound.proofs.Coros.{object-ok, last_runs}
use Rattle.claims_sound.proofs.States.{running-held}
use Rattle.memory_world.proofs.Lookup.{row_below}
use Rattle.machine_state.proofs.Bases.{bases-under}

-- ---- bases never fall

-- a frame nearer to the top has no lower base
over : (n : ℕ) (fs : List Frame) (d : Frame) → bases_ok n fs ≡ true → (i j : ℕ) → i ≤ j → j < length fs → (get_or fs j d).base ≤ (get_or fs i d).base
over n [] d h i j p k = absurd (not-suc-le-zero k)
over n (f ∷ fs) d h zero zero p k = le_refl f.base
over n (f ∷ fs) d h zero (suc j) p k = bases-under f.base fs d (and_right (leb f.base n) (bases_ok f.base fs) h) j (le_of_suc-le-suc k)
over n (f ∷ fs) d h (suc i) zero p k = absurd (not-suc-le-zero p)
over n (f ∷ fs) d h (suc i) (suc j) p k = over f.base fs d (and_right (leb f.base n) (bases_ok f.base fs) h) i j (le_of_suc-le-suc p) (le_of_suc-le-suc k)

-- ---- a coroutine that runs has saved nothing

running-idle : (s : CoroState) → is_running s ≡ true → is_resumable s ≡ false
running-idle CoroState.Created e = no_false e
running-idle CoroState.Running e = refl
running-idle CoroState.Yielded e = no_false e
running-idle CoroState.Awaiting e = no_false e
running-idle CoroState.Returned e = no_false e
running-idle CoroState.Failed e = no_false e

none : {A : Type 0} (xs : List A) → is_nil xs ≡ true → xs ≡ []
none [] e = refl
none (x ∷ xs) e = no_false e

-- any frame
abbrev pub other : Frame
other = frame 0 0 nil Cont.Discard

-- the coroutine of the innermost active one a, in the sound world w
pub record Innermost (w : World) (a : Active) (k : Core) (r : Rest) : Type 0 where
  pub small : Facts w.setup
  pub points : Points w.slots a.coro (Object.Coro k r)
  pub live : is_finished k.state ≡ false
  pub own : distinct (held_rows w.slots) ≡ true
  pub row : r.row < w.setup.limits.rows
  pub regs : k.regs ≡ []
  pub frames : k.frames ≡ []
  pub depth : length w.frames ≤ w.setup.limits.depth
  pub height : length w.stack ≤ w.setup.limits.stack
  pub floor : a.floor < length w.frames
  pub base : base_at a.floor w.frames ≤ length w.stack
  pub bases : (i : ℕ) → i < length w.frames - a.floor → base_at a.floor w.frames ≤ (get_or w.frames i other).base

pub innermost : (w : World) → sound w ≡ true → (a : Active) (chain : List Active) → w.chain ≡ a ∷ chain → (k : Core) (r : Rest) → coro w a.coro ≡ Is k r → Innermost w a k r
innermost w snd a chain q k r e =
    let s = w.setup in
    let h : Sound false w = sound→ w snd (λ z. no_false z) in
    let p : Points w.slots a.coro (Object.Coro k r) = finds w.slots a.coro k r e in
    let c : Cut false s (length w.stack) w.frames a chain = cut s (subst (Stands false s (length w.stack) w.frames) q h.tower.stands) in
    let run : is_running k.state ≡ true = sym (ap runs e) ∙ last_runs w a chain h q in
    let saved : saved_in s (Is k r) ≡ true = (object-ok h.heap p).saved in
    let empty : (is_nil k.frames && is_nil k.regs) ≡ true =
    sym (ap (λ b. pick b (body_last k.frames && frames_over s (length k.regs) k.frames && waits k) (is_nil k.frames && is_nil k.regs)) (running-idle k.state run) ∙ pick-false _ _) ∙ saved in
    let live : is_finished k.state ≡ false = running-held k.state run in
    let in_stack = c.within in
    let seam : base_at a.floor w.frames ≡ c.b.base = base-cut s c in
    let low : a.floor < length w.frames = floor-below s c in
    record {
      small = facts s h.setup;
      points = p;
      live = live;
      own = h.heap.rows.own;
      row = row_below w.slots a.coro k r p h.heap.rows.own live s.limits.rows h.heap.rows.inside;
      regs = none k.regs (and_right (is_nil k.frames) (is_nil k.regs) empty);
      frames = none k.frames (and_left (is_nil k.frames) (is_nil k.regs) empty);
      depth = h.tower.depth;
      height = h.tower.height;
      floor = low;
      base = omega arith;
      bases = λ i g. over (length w.stack) w.frames other (bases-of s h.tower.stands) i (length w.frames - suc a.floor) (omega arith) (omega arith);
    }
