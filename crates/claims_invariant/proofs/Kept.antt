-- Soundness is kept: an accepted set-up gives a sound machine, and every call of a list leaves it sound.
use mathlib.Core.Path.{◌≡◌, refl, sym, ap, ◌∙◌, subst}
use mathlib.Core.Bool.{Bool, true, false}
use mathlib.Core.List.{List, [], ◌∷◌, map}
use lib.Dec.{eqb}
use Rattle.lists.specs.Pick.{pick, pick_true, pick-false}
use Rattle.heap.specs.declared.fault.Fault.{Fault}
use Rattle.model.specs.Program.{Setup, setup_ok}
use Rattle.model.specs.World.{World, After, fresh}
use Rattle.model.specs.Machine.{raisable, unwind, unwind_fault, store_some}
use Rattle.model.specs.Gate.{refused}
use Rattle.model.specs.Added.{accepted}
use Rattle.model.specs.Sound.{sound}
use Rattle.model.specs.Answer.{number_of}
use Rattle.model.specs.Call.{Operation, Call, SetUp, Do}
use Rattle.model.specs.Calls.{Row, Instruction, OnFrame, OnHost, Unwinds, Grants, Looks, Other, table}
use Rattle.model.specs.Step.{Out, told, doing, call, tested, step, run}
use Rattle.std.specs.Prelude.{Option, ℕ}
use Rattle.model.specs.declared.call.Op.{Op}
use Rattle.model.specs.declared.call.Answer.{Answer}
use Rattle.claims_invariant.specs.Kept.{raises, well_put, run_untested, SoundnessKept}
use Rattle.claims_invariant.specs.Reachable.{Reachable}
use Rattle.claims_sound.proofs.Tests.{no_true, no_false, unnegate, picked}
use Rattle.claims_sound.proofs.Sound.{Sound, sound→, →sound, →wide}
use Rattle.claims_sound.proofs.Fresh.{fresh-sound}
use Rattle.claims_invariant.proofs.Call.{call-keeps, step-agree, run_agree}

-- ---- one call

-- an operation on a sound machine is not refused for the machine
accepts : (w : World) (o : Op) → sound w ≡ true → tested w o ≡ call o w
unfolding tested
accepts w o e = ap (λ b. pick b (call o w) (told (refused w Fault.Unsound))) e ∙ pick_true _ _

next : {ex : Bool} (w : World) (c : Call) → Sound ex w → Sound ex (step w c).world
unfolding step
next {ex} w (SetUp s) h = picked (λ (x : After Answer). Sound ex x.world) (setup_ok s) (λ ok. fresh-sound s ok) (λ _. h)
next {ex} w (Do o) h = subst (λ (x : Out). Sound ex x.world) (sym (accepts w o.op (→sound w h))) (call-keeps o.op w o.within h).sound

-- ---- lists of calls

runs_on : {ex : Bool} (w : World) (cs : List Call) → Sound ex w → Sound ex (run w cs)
runs_on w [] h = h
runs_on w (c ∷ cs) h = runs_on (step w c).world cs (next w c h)

-- a machine that a list of calls reaches
reached : (s : Setup) (cs : List Call) → setup_ok s ≡ true → Sound true (run (fresh s) cs)
reached s cs e = runs_on (fresh s) cs (fresh-sound s e)

plainly : (w : World) → sound w ≡ true → Sound false w
plainly w e = sound→ w e (λ z. no_false z)

eleven : {ex : Bool} (w : World) (c : Call) → Sound ex w → eqb (number_of (step w c).answer) 11 ≡ true → well_put c ≡ false
unfolding step
eleven w (SetUp s) h n = picked (λ (x : After Answer). eqb (number_of x.answer) 11 ≡ true → setup_ok s ≡ false) (setup_ok s) (λ _ z. no_false z) (λ no z. no) n
eleven w (Do o) h n = go (raises (table o.op)) refl
  where
    go : (b : Bool) → raises (table o.op) ≡ b → b ≡ false
    go true q =
        let f = (call-keeps o.op w o.within h).fine q in
        let m : eqb (number_of (call o.op w).answer) 11 ≡ true = subst (λ (x : Out). eqb (number_of x.answer) 11 ≡ true) (accepts w o.op (→sound w h)) n in
        no_true (sym m ∙ unnegate (eqb (number_of (call o.op w).answer) 11) f)
    go false q = refl

unraisable : (f : Fault) (pc : Option ℕ) (w : World) → raisable f ≡ false → (unwind f pc w).answer ≡ Answer.Refused Fault.Unsound
unfolding unwind
unraisable f pc w e = ap (λ b. (pick b (unwind_fault f (store_some pc w)) (Rattle.model.specs.World.after w (Answer.Refused Fault.Unsound))).answer) e ∙ ap (λ (x : After Answer). x.answer) (pick-false _ _)

refuses : (r : Row) (w : World) → raises r ≡ false → (doing r w).answer ≡ Answer.Refused Fault.Unsound
refuses (Instruction pc operands arm) w e = no_true e
refuses (OnFrame operands body) w e = no_true e
refuses (OnHost operands body) w e = no_true e
refuses (Unwinds f pc) w e = unraisable f pc w e
refuses (Grants n) w e = no_true e
refuses Looks w e = no_true e
refuses (Other body) w e = no_true e

badly : (w : World) (c : Call) → sound w ≡ true → well_put c ≡ false → (step w c).answer ≡ Answer.Refused Fault.Unsound
unfolding step call
badly w (SetUp s) e k = ap (λ b. (pick b (accepted (fresh s)) (refused w Fault.Unsound)).answer) k ∙ ap (λ (x : After Answer). x.answer) (pick-false _ _)
badly w (Do o) e k = ap (λ (x : Out). x.answer) (accepts w o.op e) ∙ refuses (table o.op) w k

once : {ex : Bool} (w : World) (os : List Operation) → Sound ex w → run w (map Do os) ≡ run_untested w os
unfolding step
once w [] h = refl
once w (o ∷ os) h = ap (λ (x : Out). run x.world (map Do os)) (accepts w o.op (→sound w h)) ∙ once (call o.op w).world os (call-keeps o.op w o.within h).sound

pub soundness-kept : SoundnessKept
soundness-kept =
    record {
      kept = λ w o e. →sound _ (next w (Do o) (plainly w e));
      begun = λ s e. →sound {ex = true} (fresh s) (fresh-sound s e);
      lasts = λ s cs e. →sound _ (reached s cs e);
      answers = λ s cs c e n. eleven _ c (reached s cs e) n;
      refused = λ s cs c e b. badly _ c (→sound _ (reached s cs e)) b;
      once = λ w os e. once w os (plainly w e);
    }

pub reachable : Reachable
reachable =
    record {
      exact-kept = λ w o e y. →wide _ (next w (Do o) (sound→ w e (λ _. y)));
      exactly = λ s cs e. →wide _ (reached s cs e);
      agree-kept = step-agree;
      agree = run_agree;
    }
