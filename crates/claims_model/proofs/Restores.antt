-- Demand 3's first half in the claim's words: what a suspending call found stands again after the next entry.
use Prim.Native.Nat.{ℕ}
use mathlib.Core.Path.{◌≡◌, refl, sym, ap, ◌∙◌, subst}
use mathlib.Core.Bool.{Bool, true, false}
use mathlib.Core.List.{List, [], ◌∷◌, ◌++◌, map, append_assoc}
use mathlib.Core.Option.{some}
use lib.ListN.{length, drop}
use Rattle.lists.specs.Pick.{pick}
use Rattle.heap.specs.declared.fault.Fault.{Fault}
use Rattle.model.specs.State.{is_suspended}
use Rattle.model.specs.Program.{setup_ok}
use Rattle.model.specs.World.{World, fresh}
use Rattle.model.specs.Frames.{on_top, set_pc, raise, lower}
use Rattle.model.specs.Heap.{coro}
use Rattle.model.specs.Gate.{refused}
use Rattle.model.specs.Added.{accepted}
use Rattle.model.specs.Answer.{number_of}
use Rattle.model.specs.Call.{Call, SetUp, Do}
use Rattle.model.specs.Step.{step, told}
use Rattle.claims_model.specs.Engine.{Turn, turn_call, turn_fuel, run_turns}
use Rattle.claims_model.specs.Says.{Announced, announced_by}
use Rattle.claims_model.specs.Held as H
use Rattle.claims_model.specs.Held.{at, AllMoved, pc_of, waits_in, stepped, entered_frames, closed_by, By, Entered, Restored}
use Rattle.claims_model.specs.Demand3 as D
use Rattle.claims_model.specs.Steps.{view_of, model_op, steps}
use Rattle.claims_model.proofs.Entry as E
use Rattle.claims_model.proofs.Entry.{act, pc_by}
use Rattle.claims_model.proofs.Held.{Seat, core_in, core_at, words_with, frames_with}
use Rattle.claims_model.proofs.Split.{next, Suspends, Enters, restarts, Waits}
use Rattle.claims_model.proofs.Cores.{no_both}
use Rattle.claims_model.proofs.Saved.{words-given, frames-with, regs-seen, frames-seen, waits-seen, all-raised}
use Rattle.claims_model.proofs.Events.{run-susp, suspended-one, no-entry}
use Rattle.claims_model.proofs.Under.{lift-with}
use Rattle.claims_model.proofs.Sounds.{lifts}
use Rattle.claims_model.proofs.Calls.{shape}
use Rattle.claims_model.proofs.Claim.{StepCase, anew, same, does, step_case, fresh-absent, entry-sound, Entering, entering, stays-suspended}
use Rattle.claims_model.proofs.Views.{is-runs, is-suspended-core, closer-at, Alike, l-at, l-host, l-finish, l-raise, l-other, says-alike}
use Rattle.claims_model.proofs.Whom as Whom
use Rattle.claims_model.proofs.Whom.{whom-told}
use Rattle.claims_model.proofs.Bodies.{at_top, Body, raised, cut-sound, cut-above, cut-base, Low, cut_low, moved}

-- ---- events

pub enters-old : (c : ℕ) (w : World) (k : Call) → D.Enters steps c w k → Enters c w k
enters-old c w k h = record { before = sym (is-runs w c) ∙ h.before; after = sym (is-runs (next w k) c) ∙ h.after }

pub suspends-old : (c : ℕ) (w : World) (k : Call) → D.Suspends steps c w k → Suspends c w k
suspends-old c w k h = record { before = sym (is-runs w c) ∙ h.before; after = sym (is-suspended-core (next w k) c) ∙ h.after }

-- what is no restart is no accepted set-up
pub restarts-old : (w : World) (k : Call) → (D.Restarts steps w k → ⊥) → restarts k ≡ false
unfolding step pick
restarts-old w (Do o) h = refl
restarts-old w (SetUp s) h = go (setup_ok s) refl
  where
    go : (b : Bool) → setup_ok s ≡ b → setup_ok s ≡ false
    go false e = e
    go true e = absurd (h (record { sets-up = refl; accepted = ap (λ b. number_of (told (pick b (accepted (fresh s)) (refused w Fault.Unsound))).answer) e }))

pub waits-old : (c : ℕ) (w : World) (ts : List (Turn Call)) → D.Waits steps c w ts → Waits c w ts
waits-old c w [] h = tt
waits-old c w (turn_fuel f ∷ ts) h = waits-old c (steps.refuel w f) ts h
waits-old c w (turn_call k ∷ ts) h = (restarts-old w k h.0, (λ e. h.1 (record { before = is-runs w c ∙ e.before; after = is-runs (next w k) c ∙ e.after })), waits-old c (next w k) ts h.2)

-- ---- an entry

unfoldable pub entry-by : (c : ℕ) (w : World) (k : Call) (z : World) → Entering c w k z → By (view_of w) (model_op k) c
entry-by c w (SetUp s) z t = no-entry refl t.by
entry-by c w (Do o) z t = record { driver = t.driver; sent = t.sent; pc = pc_by (act w o.op); says = whom-told w t.healthy o.op ∙ ap (Whom.told (pc_by (act w o.op))) (sym (entry-sound w o t.healthy) ∙ t.by) }

-- its frames, in the claim's words
module _ (c : ℕ) (w : World) (k : Call) (z : World) (t : Entering c w k z) where
  pub back : Body (length w.stack) (map (raise (length w.stack)) (frames_with t.sent (core_at w c)))
  back = raised (length w.stack) (lift-with t.sent (core_at w c) (lifts w t.healthy c t.enter.ready t.enter.solid))

unfoldable pub entered_at : (c : ℕ) (w : World) (k : Call) (z : World) (t : Entering c w k z) → Entered (view_of w) (model_op k) c (view_of z)
unfolding entry-by
entered_at c w (SetUp s) z t = no-entry refl t.by
entered_at c w (Do o) z t =
    let b = back c w (Do o) z t in
    record {
      by = entry-by c w (Do o) z t;
      over = b.over;
      body = b.body;
      words = words_with t.sent (core_at w c);
      frames = t.enter.frames ∙ (λ i. b.frames i ++ at_top (pc_by (act w o.op)) w.frames i) ∙ append_assoc b.over (b.body ∷ []) (at (pc_by (act w o.op)) w.frames);
      stack = t.enter.stack;
      its_own = b.its_own;
      body-base = b.floor;
      chain = t.enter.chain;
      closing = closer-at z c ∙ t.enter.closing ∙ ap (closed_by t.sent) (sym (closer-at w c));
      saved-words = λ x e.
          t.enter.stack ∙ words-given t.sent (core_at w c) w.stack x.words x.waits z.frames (on_top (set_pc (pc_by (act w o.op))) w.frames) t.enter.solid (regs-seen (coro w c) x e) (waits-seen (coro w c) x e t.enter.ready) t.enter.frames;
      saved-frames = λ x e. subst (AllMoved 0 (length w.stack) (entered_frames t.sent x.frames))
          (ap (map (raise (length w.stack))) (ap (entered_frames t.sent) (sym (frames-seen (coro w c) x e)) ∙ sym (frames-with t.sent (core_at w c))) ∙ b.frames) (all-raised (length w.stack) (entered_frames t.sent x.frames));
    }

-- ---- what a suspending call finds

abbrev waits_by : E.Act → ℕ
waits_by (E.at pc ok (E.enters c d x may)) = 0
waits_by (E.at pc ok (E.suspends s dst x)) = dst
waits_by (E.at pc ok E.neither) = 0
waits_by (E.by_host c x) = 0
waits_by (E.finishes kind x) = 0
waits_by E.unwinds = 0
waits_by E.other = 0

pub alike-pc : {a : E.Act} {d : Announced} → Alike a d → pc_of d ≡ pc_by a
alike-pc (l-at pc ok a) = refl
alike-pc (l-host c x) = refl
alike-pc (l-finish kind x) = refl
alike-pc (l-raise f pc) = refl
alike-pc l-other = refl

alike-waits : {a : E.Act} {d : Announced} → Alike a d → waits_in d ≡ waits_by a
alike-waits (l-at pc ok (E.enters c d x may)) = refl
alike-waits (l-at pc ok (E.suspends s dst x)) = refl
alike-waits (l-at pc ok E.neither) = refl
alike-waits (l-host c x) = refl
alike-waits (l-finish kind x) = refl
alike-waits (l-raise f pc) = refl
alike-waits l-other = refl

-- c is suspended with s, which is what k found at v
pub record Found (v : World) (k : Call) (c : ℕ) (s : Seat) : Type 0 where
  pub held : H.Held (view_of v) c
  pub frames : s.frames ≡ map (lower held.body.base) (at (pc_of (announced_by (view_of v) (model_op k))) (held.over ++ (held.body ∷ [])))
  pub regs : s.regs ≡ drop held.body.base v.stack
  pub waiting : s.waiting ≡ waits_in (announced_by (view_of v) (model_op k))
  pub low : Low held.body.base (held.over ++ (held.body ∷ []))

pub found : (c : ℕ) (v : World) (k : Call) → Suspends c v k → Found v k c (core_at (next v k) c)
found c v k h = go (next v k) (step_case v k) h.after
  where
    go : {k : Call} (z : World) → StepCase v k z → is_suspended (core_at z c).state ≡ true → Found v k c (core_at z c)
    go z (anew s e) a = no_both a (ap (λ x. is_suspended (core_in x).state) (fresh-absent s c))
    go z (same k e) a = no_both a (run-susp (core_at v c).state h.before)
    go z (does o e) a =
        let s = suspended-one c (shape v o.op) (run-susp (core_at v c).state h.before) a in
        let t = s.suspend in
        let u = cut-sound v e s.body s.chain t.inmost in
        let mine = ap (core_at z) s.its_own ∙ t.mine in
        let pc : s.pc ≡ pc_of (announced_by (view_of v) (model_op (Do o))) = sym (alike-pc (says-alike v o.op) ∙ ap pc_by s.by) in
        record {
          held = record {
            over = u.over;
            body = u.body;
            under = u.under;
            driver = s.body.driver;
            outer = s.chain;
            frames = u.frames;
            its_own = u.its_own;
            chain = t.inmost ∙ (λ i. record { coro = sym s.its_own i; floor = u.floor i; driver = s.body.driver } ∷ s.chain);
          };
          frames = ap (λ k. k.frames) mine ∙ (λ i. map (lower (cut-base s.pc v.frames s.body u i)) (cut-above s.pc v.frames s.body u i)) ∙ ap (λ p. map (lower u.body.base) (at p (u.over ++ (u.body ∷ [])))) pc;
          regs = ap (λ k. k.regs) mine ∙ ap (λ b. drop b v.stack) (cut-base s.pc v.frames s.body u);
          waiting = ap (λ k. k.waiting) mine ∙ sym (alike-waits (says-alike v o.op) ∙ ap waits_by s.by);
          low = cut_low v e s.body u;
        }

-- ---- and what the entry makes of it

restored-as : (c : ℕ) (v : World) (x : Call) (w : World) (y : Call) (z : World) (s : Seat) → Found v x c s → is_suspended s.state ≡ true → core_at w c ≡ s → Entering c w y z → Restored (view_of v) (model_op x) (view_of w) (model_op y) c (view_of z)
unfolding entry-by entered_at
restored-as c v x w (SetUp n) z s f a e t = no-entry refl t.by
restored-as c v x w (Do o) z s f a e t =
    record {
      held = f.held;
      suspended = is-suspended-core w c ∙ ap (λ k. is_suspended k.state) e ∙ a;
      entered = entered_at c w (Do o) z t;
      moved = subst (AllMoved f.held.body.base (length w.stack) (at (stepped t.sent (pc_of (announced_by (view_of v) (model_op x)))) (f.held.over ++ (f.held.body ∷ [])))) (ap (λ k. map (raise (length w.stack)) (frames_with t.sent k)) (sym e) ∙ (back c w (Do o) z t).frames)
          (moved f.held.body.base (length w.stack) (pc_of (announced_by (view_of v) (model_op x))) t.sent (f.held.over ++ (f.held.body ∷ [])) s f.low f.frames);
      words = t.enter.stack ∙ words-given t.sent (core_at w c) w.stack (drop f.held.body.base v.stack) (waits_in (announced_by (view_of v) (model_op x))) z.frames
          (on_top (set_pc (pc_by (act w o.op))) w.frames) t.enter.solid (ap (λ k. k.regs) e ∙ f.regs) (ap (λ k. k.waiting) e ∙ f.waiting) t.enter.frames;
    }

-- THE FIRST HALF
pub entered : (c : ℕ) (w : World) (y : Call) → D.Enters steps c w y → Entered (view_of w) (model_op y) c (view_of (next w y))
entered c w y h = entered_at c w y (next w y) (entering c w y (enters-old c w y h))

pub restored : (c : ℕ) (v : World) (x : Call) (waiting : List (Turn Call)) (y : Call) → D.Suspends steps c v x → D.Waits steps c (next v x) waiting
    → let w = run_turns steps (next v x) waiting in D.Enters steps c w y → Restored (view_of v) (model_op x) (view_of w) (model_op y) c (view_of (next w y))
restored c v x waiting y h q e = restored-as c v x w y (next w y) (core_at (next v x) c) (found c v x s) s.after is-suspended (entering c w y (enters-old c w y e))
  where
    w : World
    w = run_turns steps (next v x) waiting

    s : Suspends c v x
    s = suspends-old c v x h

    is-suspended : core_at w c ≡ core_at (next v x) c
    is-suspended = (stays-suspended c (core_at (next v x) c) (next v x) waiting (record { is-suspended = s.after; holds = refl }) (waits-old c (next v x) waiting q)).holds
