-- coro_enter keeps a sound world sound.
use mathlib.Core.Path.{◌≡◌, refl, sym, ap, ◌∙◌, subst}
use mathlib.Core.Bool.{Bool, true, not, ◌&&◌, ◌||◌}
use mathlib.Core.List.{List, ◌∷◌, ◌++◌, map}
use Prim.Native.Nat.{ℕ, ◌+◌, ◌≤◌}
use native.Mathlib.Omega.{arith}
use lib.ListN.{length, length-append, length-map}
use lib.Dec.{ltb, eqb}
use borrow.Author.Tests.{ltb-false, not-false}
use Rattle.lists.specs.Pick.{pick, pick_true}
use Rattle.model.specs.Lists.{is_nil, each}
use Rattle.model.specs.State.{is_created, is_resumable}
use Rattle.model.specs.Program.{Setup}
use Rattle.model.specs.Object.{Core, Rest, Coroutine, Absent, Is}
use Rattle.model.specs.World.{World}
use Rattle.model.specs.Frames.{raise}
use Rattle.model.specs.Heap.{coro}
use Rattle.model.specs.Coro.{active, overflows, enter_as, coro_enter, coro_send}
use Rattle.model.specs.Sound.{bases_ok, frame_names, conts_lie, catches_lie, frames_over, body_last, waits, saved_in, driver_lies}
use Rattle.model.specs.declared.machine.Driver.{Driver}
use Rattle.model.specs.declared.machine.Active.{Active}
use Rattle.model.specs.declared.machine.Frame.{Frame}
use Rattle.std.specs.Prelude.{Result}
use Rattle.model.specs.declared.coro.Entered.{Entered}
use Rattle.heap.specs.declared.fault.Fault.{Fault}
use Rattle.claims_sound.specs.Exact.{exact_in, exact}
use Rattle.claims_sound.proofs.Tests.{and_left, and_right, or-first, or-second, picked}
use Rattle.claims_sound.proofs.Stand.{Stands, Lifts, lifts}
use Rattle.claims_sound.proofs.States.{resumable-idle, resumable-held}
use Rattle.claims_sound.proofs.Raise.{enters}
use Rattle.claims_sound.proofs.Point.{finds}
use Rattle.claims_sound.proofs.Sound.{Tower, Sound}
use Rattle.claims_sound.proofs.Tower.{put-sound, next-sound}
use Rattle.claims_sound.proofs.Coros.{object-ok, enter-sound}
use Rattle.claims_sound.proofs.Good.{Good, good, entered_fine, fine-not_a}

-- what a resumable coroutine has saved
saved-lifts : {ex : Bool} (s : Setup) (k : Core) (r : Rest) → saved_in s (Is k r) ≡ true → is_resumable k.state ≡ true → (ex ≡ true → exact_in s (Is k r) ≡ true) → Lifts ex s (length k.regs) k.frames
saved-lifts s k r h e y =
    let n = length k.regs in
    let fs = k.frames in
    let a : (body_last fs && frames_over s n fs && waits k) ≡ true =
    sym (ap (λ b. pick b (body_last fs && frames_over s n fs && waits k) (is_nil fs && is_nil k.regs)) e ∙ pick_true _ _) ∙ h in
    let b : (body_last fs && frames_over s n fs) ≡ true = and_left (body_last fs && frames_over s n fs) (waits k) a in
    let f : frames_over s n fs ≡ true = and_right (body_last fs) (frames_over s n fs) b in
    let f₁ : (bases_ok n fs && each (frame_names s) fs && conts_lie fs) ≡ true = and_left (bases_ok n fs && each (frame_names s) fs && conts_lie fs) (catches_lie s n fs) f in
    let f₂ : (bases_ok n fs && each (frame_names s) fs) ≡ true = and_left (bases_ok n fs && each (frame_names s) fs) (conts_lie fs) f₁ in
    lifts s n fs (and_left (body_last fs) (frames_over s n fs) b) (and_left (bases_ok n fs) (each (frame_names s) fs) f₂) (and_right (bases_ok n fs) (each (frame_names s) fs) f₂)
    (and_right (bases_ok n fs && each (frame_names s) fs) (conts_lie fs) f₁) (and_right (bases_ok n fs && each (frame_names s) fs && conts_lie fs) (catches_lie s n fs) f)
    (λ z. and_left (exact s n fs) (not (is_created k.state) || eqb (length fs) 1) (y z))

-- the saved words and frames over those that stand
tower-enter : {ex : Bool} {s : Setup} {stack : List ℕ} {frames : List Frame} {chain : List Active} (regs : List ℕ) (up : List Frame) (v : ℕ) (d : Driver) → Tower ex s stack frames chain → Lifts ex s (length regs) up
    → driver_lies d (length stack) frames ≡ true → length frames + length up ≤ s.limits.depth → length stack + length regs ≤ s.limits.stack
    → Tower ex s (stack ++ regs) (map (raise (length stack)) up ++ frames) (active v (length frames) d ∷ chain)
tower-enter {ex} {s} {stack} {frames} {chain} regs up v d t l lies deep high =
    let a = length-append stack regs in
    let b = length-append (map (raise (length stack)) up) frames in
    let c = length-map up (raise (length stack)) in
    record {
      depth = omega arith;
      height = omega arith;
      stands =
          subst (λ n. Stands ex s n (map (raise (length stack)) up ++ frames) (active v (length frames) d ∷ chain)) (let z : length regs + length stack ≡ length (stack ++ regs) = omega arith in z)
          (enters s l t.stands refl lies);
    }

-- the driver's registers lie in the top frame
pub enter-good : {ex : Bool} (v : ℕ) (d : Driver) (w : World) → Sound ex w → driver_lies d (length w.stack) w.frames ≡ true → Good ex (λ _ e. entered_fine e ≡ true) (coro_enter v d w)
unfolding coro_enter
enter-good {ex} v d w h lies = go (coro w v) refl
  where
    go : (c : Coroutine) → coro w v ≡ c → Good ex (λ _ e. entered_fine e ≡ true) (enter_as c v d w)
    go Absent e = good h (fine-not_a w v)
    go (Is k r) e =
        let s = w.setup in
        let stack = w.stack in
        let frames = w.frames in
        picked (Good ex (λ _ x. entered_fine x ≡ true)) (not (is_resumable k.state) || is_nil k.frames) (λ _. good h refl)
        (λ may.
        let resumable : is_resumable k.state ≡ true = not-false (is_resumable k.state) (or-first (not (is_resumable k.state)) (is_nil k.frames) may) in
        picked (Good ex (λ _ x. entered_fine x ≡ true)) (overflows k w) (λ _. good h refl)
        (λ room.
        let deep = ltb-false s.limits.depth (length frames + length k.frames) (or-first (ltb s.limits.depth (length frames + length k.frames)) (ltb s.limits.stack (length stack + length k.regs)) room) in
        let high = ltb-false s.limits.stack (length stack + length k.regs) (or-second (ltb s.limits.depth (length frames + length k.frames)) (ltb s.limits.stack (length stack + length k.regs)) room) in
        let ok = object-ok h.heap (finds w.slots v k r e) in
        good
        (enter-sound w v k r h e (active v (length frames) d) (stack ++ k.regs) (map (raise (length stack)) k.frames ++ frames) refl (resumable-idle k.state resumable) (resumable-held k.state resumable)
        (tower-enter k.regs k.frames v d h.tower (saved-lifts s k r ok.saved resumable ok.wide) lies deep high))
        (picked (λ (x : Result Entered Fault). entered_fine x ≡ true) (is_created k.state) (λ _. refl) (λ _. refl))))

-- coro_send
pub send-sound : {ex : Bool} (dst v : ℕ) (w : World) → Sound ex w → Sound ex (coro_send dst v w)
send-sound dst v w h = next-sound _ (put-sound dst v w h)
