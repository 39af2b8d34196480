-- The sheet's numbers: each line's is its answer's.
use Prim.Native.Nat.{ℕ}
use mathlib.Core.Path.{◌≡◌, refl, sym, ap, subst, ◌∙◌}
use mathlib.Core.Bool.{Bool, true, false, not}
use mathlib.Core.List.{List, [], ◌∷◌}
use Rattle.lists.specs.Pick.{pick}
use Rattle.heap.specs.declared.fault.Fault.{Fault}
use Rattle.model.specs.Lists.{each}
use Rattle.model.specs.Program.{Setup, setup_ok}
use Rattle.model.specs.World.{World, After, after, fresh}
use Rattle.model.specs.Sound.{sound}
use Rattle.model.specs.Answer.{number_of}
use Rattle.model.specs.Gate as Gate
use Rattle.model.specs.Added.{accepted}
use Rattle.model.specs.Call.{Operation, SetUp, Do}
use Rattle.model.specs.Step.{Out, told, call, tested, step}
use Rattle.model.specs.declared.call.Op.{Op}
use Rattle.model.specs.declared.call.Answer.{Answer}
use Rattle.claims_sheet.specs.Lines.{Line, leads_from, leads, says_from, says}
use Rattle.claims_sheet.specs.OtherCalls as Others
use Rattle.claims_sheet.specs.Sheet.{table_of, sheet, set_up, FaultSheet}
use Rattle.claims_sheet.proofs.Among.{same, and_left, and_right, not-true, not-false}
use Rattle.claims_sheet.proofs.Choice.{both, by-test}
use Rattle.claims_sheet.proofs.OtherCalls.{registers-is}
use Rattle.claims_sheet.proofs.WalkCalls.{tells, tell}
use Rattle.claims_sheet.proofs.Sheet.{holds, leads-to}

-- ---- lines whose number is their answer's

says-one : (b : Bool) (x y : After Answer) (m n : ℕ) → number_of x.answer ≡ m → number_of y.answer ≡ n → number_of (pick b x y).answer ≡ pick b m n
unfolding pick
says-one true x y m n e f = e
says-one false x y m n e f = f

says-from : (ts : List (Line Answer)) (d : Line Answer) → each tells ts ≡ true → tells d ≡ true → number_of (leads_from ts d).answer ≡ says_from ts d
says-from [] d h k = same (number_of d.answer) d.number k
says-from (t ∷ ts) d h k = says-one t.stops _ _ _ _ (same (number_of t.answer) t.number (and_left (tells t) (each tells ts) h)) (says-from ts d (and_right (tells t) (each tells ts) h) k)

pub says-number : (w : World) (o : Operation) → number_of (step w (Do o)).answer ≡ says (sheet o.op w)
says-number w o =
    let t = table_of o.op w in
    let h = and_left (tell t) _ ((holds o.op).right w) in
    ap (λ (x : After Answer). number_of x.answer) (leads-to w o) ∙ says-from (sheet o.op w).tests t.done (and_left (each tells t.tests) _ h) (and_right (each tells t.tests) _ h)

-- ---- set-up, look

set-up-by : (b : Bool) (s : Setup) (w : World) → told (pick b (accepted (fresh s)) (Gate.refused w Fault.Unsound)) ≡ told (pick (not b) (after w (Answer.Refused Fault.Unsound)) (after (fresh s) Answer.Accepted))
unfolding pick
set-up-by true s w = refl
set-up-by false s w = refl

pub sets-up : (w : World) (s : Setup) → step w (SetUp s) ≡ told (leads (set_up s w))
unfolding step
sets-up w s = set-up-by (setup_ok s) s w

-- what a refused set-up has, and an accepted one
pub set-up-has : (P : After Answer → Type 0) (w : World) (s : Setup) → (setup_ok s ≡ false → P (after w (Answer.Refused Fault.Unsound))) → (setup_ok s ≡ true → P (after (fresh s) Answer.Accepted)) →
    P (after (step w (SetUp s)).world (step w (SetUp s)).answer)
set-up-has P w s x y = subst (λ (o : Out). P (after o.world o.answer)) (sym (sets-up w s)) (by-test P (not (setup_ok s)) (λ e. x (not-true (setup_ok s) e)) (λ e. y (not-false (setup_ok s) e)))

sees-by : (b : Bool) (x : Out) (w : World) (l : List ℕ) → x.seen ≡ l → (pick b x (told (Gate.refused w Fault.Unsound))).seen ≡ pick b l []
unfolding pick
sees-by true x w l e = e
sees-by false x w l e = refl

look-call : (o : Op) (w : World) → o ≡ Op.Look → (call o w).seen ≡ Others.registers w.frames w.stack
unfolding call
look-call o w e = ap (λ p. (call p w).seen) e ∙ registers-is w

pub look-sees : (w : World) (o : Operation) → o.op ≡ Op.Look → (step w (Do o)).seen ≡ pick (sound w) (Others.registers w.frames w.stack) []
unfolding step tested
look-sees w o e = sees-by (sound w) (call o.op w) w (Others.registers w.frames w.stack) (look-call o.op w e)

pub sees-nothing : (w : World) (o : Operation) → (o.op ≡ Op.Look → ⊥) → (step w (Do o)).seen ≡ []
unfolding step tested call
sees-nothing w o h = sees-by (sound w) (call o.op w) w [] ((holds o.op).blind w h) ∙ both (λ (l : List ℕ). l ≡ []) (sound w) refl refl

pub fault-sheet : FaultSheet
fault-sheet = record { leads-to = leads-to; set-up = sets-up; says-number = says-number; sees = look-sees; sees-nothing = sees-nothing; numbers = refl }
