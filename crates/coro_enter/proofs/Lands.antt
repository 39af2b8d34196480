-- The register that waits for the sent word lies in the top frame of the coroutine that was entered. Assumes nothing.
use mathlib.Core.Path.{◌≡◌, refl, sym, ap, ◌∙◌, subst}
use mathlib.Core.Bool.{Bool, true, false, not, ◌&&◌, ◌||◌}
use mathlib.Core.List.{List, [], ◌∷◌, ◌++◌, map}
use Prim.Native.Nat.{ℕ, ◌+◌, ◌^◌, ◌<◌}
use native.Mathlib.Omega.{arith}
use lib.ListN.{length, length-append}
use lib.Dec.{ltb}
use borrow.Author.Tests.{ltb-true, not-false}
use Rattle.lists.specs.Pick.{pick, pick_true}
use Rattle.lists.proofs.Tests.{never}
use Rattle.heap.specs.declared.object.CoroState.{CoroState}
use Rattle.model.specs.Lists.{is_nil, each}
use Rattle.model.specs.State.{is_created, is_resumable, is_suspended}
use Rattle.model.specs.Program.{Setup, is_function}
use Rattle.model.specs.Object.{Coroutine, Absent, Is}
use Rattle.model.specs.World.{World, After}
use Rattle.model.specs.Frames.{raise, top_base}
use Rattle.model.specs.Heap.{coro}
use Rattle.model.specs.Coro.{overflows, enter_as, coro_enter}
use Rattle.model.specs.Sound.{sound, bases_ok, frame_names, conts_lie, catches_lie, frames_over, body_last, waits, saved_in}
use Rattle.std.specs.Prelude.{Result, Ok}
use Rattle.model.specs.declared.coro.Entered.{Entered}
use Rattle.heap.specs.declared.fault.Fault.{Fault}
use Rattle.model.specs.declared.machine.Driver.{Driver}
use Rattle.model.specs.declared.machine.Frame.{Frame}
use Rattle.claims_sound.proofs.Tests.{no_false, no_true, and_left, and_right, or-first, or-second, picked}
use Rattle.claims_sound.proofs.Point.{finds}
use Rattle.claims_sound.proofs.Sound.{Sound, sound→}
use Rattle.claims_sound.proofs.Coros.{object-ok}
use Rattle.machine_state.proofs.Lands.{Lands}

suspended-of : (s : CoroState) → is_resumable s ≡ true → is_created s ≡ false → is_suspended s ≡ true
suspended-of CoroState.Created p q = no_true q
suspended-of CoroState.Running p q = no_false p
suspended-of CoroState.Yielded p q = refl
suspended-of CoroState.Awaiting p q = refl
suspended-of CoroState.Returned p q = no_false p
suspended-of CoroState.Failed p q = no_false p

answer-of : (t : Bool) (n x : ℕ) → pick {A = Result Entered Fault} t (Ok Entered.Fresh) (Ok (Entered.Suspended n)) ≡ Ok (Entered.Suspended x) → (t ≡ false) × (n ≡ x)
unfolding pick
answer-of true n x e = never cc
answer-of false n x e = (refl, cc)

frames-land : (s : Setup) (fs gs : List Frame) (stack regs : List ℕ) (u : World) (x : ℕ) → is_nil fs ≡ false → each (frame_names s) fs ≡ true → top_base fs + x < length regs
    → u.frames ≡ map (raise (length stack)) fs ++ gs → u.stack ≡ stack ++ regs → Lands u x
frames-land s [] gs stack regs u x e n h p q = no_true e
frames-land s (f ∷ fs) gs stack regs u x e n h p q =
    let a : frame_names s f ≡ true = and_left (frame_names s f) (each (frame_names s) fs) n in
    let l : length u.stack ≡ length stack + length regs = ap length q ∙ length-append stack regs in
    record {
      top = raise (length stack) f;
      rest = map (raise (length stack)) fs ++ gs;
      are = p;
      inside = omega arith;
      pc = ltb-true f.pc (2 ^ 32) (and_right (is_function s f.func) (ltb f.pc (2 ^ 32)) a);
    }

pub enter-lands : (v : ℕ) (d : Driver) (w : World) → sound w ≡ true → (x : ℕ) → (coro_enter v d w).answer ≡ Ok (Entered.Suspended x) → Lands (coro_enter v d w).world x
unfolding coro_enter
enter-lands v d w snd x q = go (coro w v) refl q
  where
    known : Sound false w
    known = sound→ w snd (λ z. no_false z)

    go : (c : Coroutine) → coro w v ≡ c → (enter_as c v d w).answer ≡ Ok (Entered.Suspended x) → Lands (enter_as c v d w).world x
    go Absent e q = never cc
    go (Is k r) e q =
        let P : After (Result Entered Fault) → Type 0 = λ o. o.answer ≡ Ok (Entered.Suspended x) → Lands o.world x in
        picked P (not (is_resumable k.state) || is_nil k.frames) (λ _ z. never cc)
        (λ fit.
        let may : is_resumable k.state ≡ true = not-false (is_resumable k.state) (or-first (not (is_resumable k.state)) (is_nil k.frames) fit) in
        picked P (overflows k w) (λ _ z. never cc)
        (λ _ z.
        let s = w.setup in
        let n = length k.regs in
        let fs = k.frames in
        let a = answer-of (is_created k.state) k.waiting x z in
        let sus : is_suspended k.state ≡ true = suspended-of k.state may a.0 in
        let h : saved_in s (Is k r) ≡ true = (object-ok known.heap (finds w.slots v k r e)).saved in
        let b : (body_last fs && frames_over s n fs && waits k) ≡ true =
        sym (ap (λ t. pick t (body_last fs && frames_over s n fs && waits k) (is_nil fs && is_nil k.regs)) may ∙ pick_true _ _) ∙ h in
        let over : frames_over s n fs ≡ true = and_right (body_last fs) (frames_over s n fs) (and_left (body_last fs && frames_over s n fs) (waits k) b) in
        let wait : waits k ≡ true = and_right (body_last fs && frames_over s n fs) (waits k) b in
        let low : ltb (top_base fs + k.waiting) n ≡ true = sym (ap (λ t. not t || ltb (top_base fs + k.waiting) n) sus) ∙ wait in
        let b₁ = and_left (bases_ok n fs && each (frame_names s) fs && conts_lie fs) (catches_lie s n fs) over in
        let b₂ = and_left (bases_ok n fs && each (frame_names s) fs) (conts_lie fs) b₁ in
        frames-land s fs w.frames w.stack k.regs _ x (or-second (not (is_resumable k.state)) (is_nil fs) fit) (and_right (bases_ok n fs) (each (frame_names s) fs) b₂)
        (subst (λ y. top_base fs + y < n) a.1 (ltb-true (top_base fs + k.waiting) n low)) refl refl)) q
