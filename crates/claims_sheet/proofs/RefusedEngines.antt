-- The cheating engines, each where it differs from the table; and that there are such engines.
use Prim.Native.Nat.{ℕ, ◌+◌}
use mathlib.Core.Path.{◌≡◌, refl, sym, ap, subst, ◌∙◌}
use mathlib.Core.Bool.{Bool, true, false, not, ◌&&◌, true≢false}
use mathlib.Core.List.{List, [], ◌∷◌, ◌++◌, map}
use native.Mathlib.Omega.{arith}
use lib.ListN.{length, set, length-append, length-map}
use lib.Dec.{ltb}
use borrow.Author.Tests.{eq-eqb}
use Rattle.lists.specs.Pick.{pick}
use Rattle.heap.specs.declared.fault.Fault.{Fault}
use Rattle.model.specs.Lists.{is_nil}
use Rattle.model.specs.Program.{Setup, setup_ok}
use Rattle.model.specs.Object.{Core}
use Rattle.model.specs.World.{World, After, after, fresh}
use Rattle.model.specs.Sound.{sound}
use Rattle.model.specs.Answer.{number_of, taken_off}
use Rattle.model.specs.Call.{SetUp, Do, Operation, typed}
use Rattle.model.specs.Gate.{refused}
use Rattle.model.specs.Added.{accepted}
use Rattle.model.specs.Step.{Out, out, told, step}
use Rattle.model.specs.Compute.{computed}
use Rattle.model.specs.declared.machine.Driver.{Driver}
use Rattle.model.specs.declared.machine.Frame.{Frame}
use Rattle.model.specs.declared.call.Op.{Op}
use Rattle.model.specs.declared.call.Answer.{Answer}
use Rattle.claims_sheet.specs.Lines.{says}
use Rattle.claims_sheet.specs.Does.{number, operation}
use Rattle.claims_sheet.specs.Words.{base, found, core_of}
use Rattle.claims_sheet.specs.Moves.{at_pc, in_register, onward, sent, entered}
use Rattle.claims_sheet.specs.Charging.{charged}
use Rattle.claims_sheet.specs.Sheet.{sheet}
use Rattle.claims_sheet.specs.Pep342.{at, held}
use Rattle.claims_sheet.specs.Setters.{with_stack, with_frames}
use Rattle.model.specs.ClosingList.{ClosingList}
use Rattle.claims_sheet.specs.SetUps.{Fresh}
use Rattle.claims_sheet.specs.SmallRuns as SmallRuns
use Rattle.claims_sheet.specs.SmallRuns.{usual, reached, holding, yielded}
use Rattle.claims_sheet.specs.RefusedEngines.{Engine, Keeps, Answers-untried, Restored, Moves-once, always, was_suspended, once, accepting, refuelling, showing, RefusedEngines}
use Rattle.claims_sheet.proofs.Among.{and_left, and_right, not-true}
use Rattle.claims_sheet.proofs.Choice.{both}
use Rattle.claims_sheet.proofs.Sheet.{leads-to}
use Rattle.claims_sheet.proofs.SheetNumbers.{says-number, look-sees, sees-nothing}
use Rattle.claims_sheet.proofs.SetUps.{set-ups}
use Rattle.claims_sheet.proofs.Sentences.{given_by}
use Rattle.claims_sheet.proofs.Pep342.{send}
use Rattle.claims_sheet.proofs.Queue.{queue}
use Rattle.claims_sheet.proofs.Moved.{length_at}

-- an engine that keeps the table gives step's world and answer
module _ (e : Engine) (k : Keeps e) (w : World) (o : Operation) where
  alike : after (e w (Do o)).world (e w (Do o)).answer ≡ after (step w (Do o)).world (step w (Do o)).answer
  alike = k.does w o ∙ sym (leads-to w o)

  number_is : number_of (e w (Do o)).answer ≡ number w o
  number_is = ap (λ (a : After Answer). number_of a.answer) alike

-- ---- what a resumed coroutine stands on

register-is : (fs : List Frame) (r v : ℕ) (xs : List ℕ) → is_nil fs ≡ false → in_register fs r v xs ≡ set xs (base fs + r) v
register-is [] r v xs h = absurd (true≢false h)
register-is (f ∷ fs) r v xs h = refl

stands_on : (xs : List Frame) (ys : List Frame) → is_nil ys ≡ false → is_nil (xs ++ ys) ≡ false
stands_on [] ys h = h
stands_on (x ∷ xs) ys h = refl

stored-stands : (pc : ℕ) (fs : List Frame) → is_nil (at_pc pc fs) ≡ is_nil fs
stored-stands pc [] = refl
stored-stands pc (f ∷ fs) = refl

onward-length : (fs : List Frame) → length (onward fs) ≡ length fs
onward-length [] = refl
onward-length (f ∷ fs) = refl

module _ (pc : ℕ) (w : World) where
  charged-stack : (charged pc w).stack ≡ w.stack
  charged-stack = both (λ (u : World). u.stack ≡ w.stack) _ refl (both (λ (u : World). u.stack ≡ w.stack) _ refl refl)

  charged-stands : is_nil (charged pc w).frames ≡ is_nil w.frames
  charged-stands = both (λ (u : World). is_nil u.frames ≡ is_nil w.frames) _ refl (both (λ (u : World). is_nil u.frames ≡ is_nil w.frames) _ refl (stored-stands pc w.frames))

  charged-length : length (charged pc w).frames ≡ length w.frames
  charged-length = both (λ (u : World). length u.frames ≡ length w.frames) _ refl (both (λ (u : World). length u.frames ≡ length w.frames) _ refl (length_at pc w.frames))

  -- entered, and the word sent
  restored : (v dst r x : ℕ) → is_nil w.frames ≡ false → Restored (core_of (found (at pc w) v)) w (sent r x (entered v (Driver.Resume dst) (at pc w)))
  restored v dst r x h =
      record {
        place = base fs + r;
        sent = x;
        words = register-is fs r x _ (stands_on up z.frames (stored-stands pc (charged pc w).frames ∙ (charged-stands ∙ h))) ∙ ap (λ (xs : List ℕ). set (xs ++ k.regs) (base fs + r) x) charged-stack;
        frames =
            onward-length fs
            ∙ (length-append up z.frames
            ∙ (ap (λ n. n + length z.frames) (length-map k.frames (λ f. record { func = f.func; pc = f.pc; base = f.base + length z.stack; closure = f.closure; cont = f.cont }))
            ∙ ap (λ n. length k.frames + n) (length_at pc (charged pc w).frames ∙ charged-length)));
      }
    where
      z : World
      z = at pc w

      k : Core
      k = core_of (found z v)

      up : List Frame
      up = map (λ f. record { func = f.func; pc = f.pc; base = f.base + length z.stack; closure = f.closure; cont = f.cont }) k.frames

      fs : List Frame
      fs = up ++ z.frames

comes_back : (e : Engine) → Keeps e → Moves-once e → ⊥
comes_back e k m =
    m.lost
    (subst (λ (a : World). Restored (core_of (found (at m.pc m.w) (held m.c m.pc m.w))) m.w a)
    (sym (ap (λ (a : After Answer). a.world) (alike e k m.w (operation (Op.Resume m.pc m.dst m.c m.src) m.fits) ∙ (send m.pc m.dst m.c m.src m.w m.passes).send-suspended m.is-suspended m.fits)))
    (restored m.pc m.w (held m.c m.pc m.w) m.dst _ _ (not-true (is_nil m.w.frames) (and_left (not (is_nil m.w.frames)) _ (and_right (sound m.w) _ m.passes)))))

-- ---- `step` keeps it

set-up-refused : (w : World) (s : Setup) → setup_ok s ≡ false → step w (SetUp s) ≡ told (refused w Fault.Unsound)
unfolding step pick
set-up-refused w s e = ap (λ b. told (pick b (accepted (fresh s)) (refused w Fault.Unsound))) e

set-up-taken : (w : World) (s : Setup) → setup_ok s ≡ true → step w (SetUp s) ≡ told (accepted (fresh s))
unfolding step pick
set-up-taken w s e = ap (λ b. told (pick b (accepted (fresh s)) (refused w Fault.Unsound))) e

step_keeps : Keeps step
step_keeps =
    record {
      does = leads-to;
      refuses = λ w s h. set-up-refused w s (no (setup_ok s) refl h);
      begins = λ w s h. subst (λ (o : Out). Fresh s o.world) (sym (set-up-taken w s (set-ups.accepted s h))) (set-ups.fresh s);
      accepts = λ w s h. ap (λ (o : Out). o.answer) (set-up-taken w s (set-ups.accepted s h));
      sees = look-sees;
      sees-nothing = sees-nothing;
    }
  where
    no : {s : Setup} (b : Bool) → setup_ok s ≡ b → (ClosingList s → ⊥) → setup_ok s ≡ false
    no {s} true e h = absurd (h (set-ups.allowed s e))
    no false e h = e

-- ---- such engines

abbrev new : World
new = reached usual (holding 1 [])

-- the coroutine of function 1 runs on the six words of the caller
abbrev running : World
running = reached usual (SmallRuns.running 1 [])

abbrev old : World
old = reached usual (yielded 1 [])

record Typed : Type 0 where
  resumes : typed (Op.Resume 2 1 0 2) ≡ true

fits : Typed
unfolding typed
fits = record { resumes = refl }

abbrev resuming : Operation
resuming = operation (Op.Resume 2 1 0 2) fits.resumes

untried-10 : Answers-untried 10 (always Fault.OutOfFuel)
unfolding computed
untried-10 = record { w = new; o = resuming; says = refl; unfounded = refl }

untried-9 : Answers-untried 9 (always Fault.OutOfMemory)
unfolding computed
untried-9 = record { w = new; o = resuming; says = refl; unfounded = refl }

moved-once : Moves-once once
unfolding computed
moved-once =
    record {
      w = old;
      pc = 2;
      dst = 1;
      c = 0;
      src = 2;
      fits = fits.resumes;
      passes = refl;
      is-suspended = refl;
      lost = λ r. let z : ◌≡◌ {A = ℕ} 1 2 = r.frames in absurd (omega arith);
    }

stays : (y z : World) (a b : Bool) → b ≡ false → pick (a && b) y z ≡ z
unfolding pick
stays y z true b e = ap (λ t. pick t y z) e
stays y z false b e = refl

first-moved : (w : World) (o : Operation) → was_suspended w (step w (Do o)).world.chain ≡ false → once w (Do o) ≡ step w (Do o)
first-moved w o h =
    let z = (step w (Do o)).world in
    let longer = ltb (length w.chain) (length z.chain) in
    ap (λ (y : World). out (after y (step w (Do o)).answer) (step w (Do o)).seen) (stays (with_stack w.stack (with_frames w.frames z)) z longer (was_suspended w z.chain) h)

-- one frame too many
deep : Setup
deep =
    record {
      limits = record { depth = 129; stack = 10; rows = 2; slots = 8; memory = 4096 };
      costs = usual.costs;
      hook = usual.hook;
      functions = usual.functions;
    }

too-deep : ClosingList deep → ⊥
unfolding deep
too-deep l = let z = l.depth.1 in omega (arith, z)

no-accepting : Keeps accepting → ⊥
no-accepting k = let z : ◌≡◌ {A = ℕ} 0 11 = ap (λ (o : Out). number_of o.answer) (k.refuses new deep too-deep) in absurd (omega (arith, z))

is-usual : ClosingList usual
unfolding computed
is-usual = set-ups.allowed usual refl

no-refuelling : Keeps refuelling → ⊥
unfolding computed
no-refuelling k = let z : ◌≡◌ {A = ℕ} 99 0 = (k.begins new usual is-usual).fuel in absurd (omega (arith, z))

look-typed : typed Op.Look ≡ true
unfolding typed
look-typed = refl

no-showing : Keeps showing → ⊥
unfolding computed
no-showing k = let z : ◌≡◌ {A = ℕ} 8 2 = ap length (k.sees running (operation Op.Look look-typed) refl) in absurd (omega (arith, z))

pub refused-engines : RefusedEngines
refused-engines =
    record {
      keeps = step_keeps;
      no-answer-untried = λ n e k g. true≢false (sym (eq-eqb (number g.w g.o) n (sym (number_is e k g.w g.o) ∙ g.says)) ∙ (given_by n g.w g.o ∙ g.unfounded));
      no-first-only = comes_back;
      no-invention = λ e k i. i.untrue (subst (λ (a : After Answer). length i.w.finalize ≡ taken_off a.answer + length a.world.finalize) (sym (alike e k i.w i.o)) (queue.loss i.w i.o i.instruction));
      no-inactive = λ e k i. i.changes (ap (λ (a : After Answer). a.world) (sym (k.does i.w i.o)) ∙ i.unchanged);
      no-constant = λ e k i.
          true≢false
          (sym (eq-eqb (says (sheet i.o.op i.w)) (says (sheet i.p.op i.w))
          (sym (number_is e k i.w i.o ∙ says-number i.w i.o) ∙ (ap (λ a. number_of a) i.alike ∙ (number_is e k i.w i.p ∙ says-number i.w i.p))))
          ∙ i.apart);
      no-refuser = λ e k i. true≢false (sym (eq-eqb (number_of (e i.w (Do i.o)).answer) 0 (number_is e k i.w i.o ∙ (says-number i.w i.o ∙ i.accepted))) ∙ i.refusal);
      untried-10 = untried-10;
      untried-9 = untried-9;
      moves-once = moved-once;
      moves-first = first-moved;
      no-accepting = no-accepting;
      no-refuelling = no-refuelling;
      no-showing = no-showing;
    }
