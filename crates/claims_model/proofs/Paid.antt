-- An instruction that is paid for, by the fuel or the bank, and that no cleanup comes before; and one that is answered 0 is.
use Prim.Native.Nat.{ℕ}
use native.Mathlib.Omega.{arith}
use mathlib.Core.Path.{◌≡◌, refl, sym, ap, ◌∙◌}
use mathlib.Core.Bool.{Bool, true, false, not, ◌&&◌}
use mathlib.Core.List.{List, [], ◌∷◌}
use mathlib.Core.Option.{Option, none, some, or_else}
use lib.Dec.{eqb}
use Rattle.lists.specs.Pick.{pick, pick-false}
use Rattle.heap.specs.declared.fault.Fault.{Fault}
use Rattle.model.specs.Lists.{is_nil}
use Rattle.model.specs.World.{World, After, after, and_then}
use Rattle.model.specs.Cleanup.{charge}
use Rattle.model.specs.Gate as Gate
use Rattle.model.specs.Gate.{refused, answer_of, instruction}
use Rattle.model.specs.Sound.{sound}
use Rattle.model.specs.Answer.{step_number, number_of}
use Rattle.model.specs.declared.machine.Charge.{Charge}
use Rattle.model.specs.declared.machine.Driver.{Driver}
use Rattle.model.specs.declared.exec.Step.{Step}
use Rattle.std.specs.Prelude.{Some}
use Rattle.model.specs.declared.call.Answer.{Answer}
use Rattle.claims_model.specs.Engine.{View, seen_suspended, state_is}
use Rattle.claims_model.specs.Says.{nothing, closes, fits, Entry, entry, cleaned, banked, charged}
use Rattle.claims_model.specs.Events.{goes_on}
use Rattle.claims_model.specs.Asks.{PaidFor}
use Rattle.claims_model.specs.Steps.{view_of}
use Rattle.claims_model.proofs.Entry as E
use Rattle.claims_model.proofs.Cores.{no_both}
use Rattle.claims_model.proofs.Enters.{ChargeCase, c-done, c-spent, c-close, charge-case}
use Rattle.claims_model.proofs.Instr.{Alike, alike}
use Rattle.claims_model.proofs.Whom.{told, charged-by}
use Rattle.claims_model.proofs.Numbers.{step-number}

pub record Paid (pc : ℕ) (w : World) : Type 0 where
  pub left : World
  pub words : ℕ
  pub is : charge (Some pc) w ≡ after left (Charge.Done words)
  pub alike : Alike pc w left

abbrev hosted : Option Entry → Bool
hosted none = false
hosted (some y) = goes_on y.driver

-- if it would enter a resumed coroutine, whoever that be, it is paid for, and starts no cleanup
pub paid_for : (w : World) → sound w ≡ true → (pc : ℕ) → ((y : Entry) → charged (view_of w) pc (some y) ≡ some y) → Paid pc w
paid_for w h pc f = go (charge (Some pc) w) refl (charge-case pc w) (sym (f (entry 0 (Driver.Resume 0) nothing pc)) ∙ charged-by w h pc e)
  where
    e : E.Entry
    e = E.entry 0 (Driver.Resume 0) nothing

    go : (ch : After Charge) → charge (Some pc) w ≡ ch → ChargeCase pc w ch → told pc e ≡ told pc (E.charged ch.answer w e) → Paid pc w
    go ch q (c-done n v r) s = record { left = v; words = n; is = q; alike = alike r }
    go ch q (c-spent v r) s = no_both refl (ap hosted s)
    go ch q (c-close n u z x t) s = no_both refl (ap hosted (s ∙ ap (told pc) x))

-- its answer is that of its arm
pub paid-number : (w : World) (pc : ℕ) (p : Paid pc w) (ok : Bool) (arm : World → After Step) → is_nil w.frames ≡ false → ok ≡ true → (instruction pc ok arm w).answer ≡ answer_of p.words (arm p.left).answer
unfolding instruction
paid-number w pc p ok arm stand o =
    let tail = and_then (charge (Some pc) w) (Gate.charged arm) in
    ap (λ b. (pick b (refused w Fault.NoFrame) (pick (not ok) (refused w Fault.BadOperand) tail)).answer) stand
    ∙ (ap (λ (x : After Answer). x.answer) (pick-false (refused w Fault.NoFrame) (pick (not ok) (refused w Fault.BadOperand) tail))
    ∙ (ap (λ b. (pick (not b) (refused w Fault.BadOperand) tail).answer) o
    ∙ (ap (λ (x : After Answer). x.answer) (pick-false (refused w Fault.BadOperand) tail)
    ∙ ap (λ (x : After Charge). (and_then x (Gate.charged arm)).answer) p.is)))

-- ---- and one that is answered 0 is

pub record Went (pc : ℕ) (ok : Bool) (arm : World → After Step) (w : World) : Type 0 where
  pub stands : is_nil w.frames ≡ false
  pub within : ok ≡ true
  pub paid : Paid pc w
  pub number : step_number (arm paid.left).answer ≡ 0

pub zero-went : (w : World) (pc : ℕ) (ok : Bool) (arm : World → After Step) → number_of (instruction pc ok arm w).answer ≡ 0 → Went pc ok arm w
unfolding instruction pick
zero-went w pc ok arm = gate (is_nil w.frames) refl ok refl
  where
    spent : (ch : After Charge) → charge (Some pc) w ≡ ch → ChargeCase pc w ch → is_nil w.frames ≡ false → ok ≡ true → number_of (Gate.charged arm ch.world ch.answer).answer ≡ 0 → Went pc ok arm w
    spent ch q (c-done n v r) s o h = record { stands = s; within = o; paid = record { left = v; words = n; is = q; alike = alike r }; number = sym (step-number n (arm v).answer) ∙ h }
    spent ch q (c-spent v r) s o h = absurd (omega (arith, h))
    spent ch q (c-close n u z x t) s o h = absurd (omega (arith, h))

    gate : (a : Bool) → is_nil w.frames ≡ a → (b : Bool) → ok ≡ b
        → number_of (pick a (refused w Fault.NoFrame) (pick (not b) (refused w Fault.BadOperand) (and_then (charge (Some pc) w) (Gate.charged arm)))).answer ≡ 0 → Went pc ok arm w
    gate true e b q h = absurd (omega (arith, h))
    gate false e false q h = absurd (omega (arith, h))
    gate false e true q h = spent (charge (Some pc) w) refl (charge-case pc w) e q h

-- no cleanup is due, whatever the pc
none-cleaned : (v : View) (pc p : ℕ) (q : List ℕ) → cleaned v pc q ≡ none → cleaned v p q ≡ none
unfolding pick
none-cleaned v pc p [] h = refl
none-cleaned v pc p (c ∷ q) h = go (state_is v seen_suspended c && fits v c) (none-cleaned v pc p q) h
  where
    go : (b : Bool) → (cleaned v pc q ≡ none → cleaned v p q ≡ none) → pick b (some (entry c Driver.Finalize (closes 0) pc)) (cleaned v pc q) ≡ none → pick b (some (entry c Driver.Finalize (closes 0) p)) (cleaned v p q) ≡ none
    go true f e = let z : ◌≡◌ {A = ℕ} 0 1 = cc in absurd (omega arith)
    go false f e = f e

-- what is paid at one pc for two entries is paid at any for all: x and z are the cleanups due
any-paid : (a b c : Bool) (x z : Option Entry) (i j y : Entry) → i.coro ≡ 0 → j.coro ≡ 1 → (x ≡ none → z ≡ none) → pick a (pick b none (pick c (or_else x (some i)) (some i))) (some i) ≡ some i
    → pick a (pick b none (pick c (or_else x (some j)) (some j))) (some j) ≡ some j → pick a (pick b none (pick c (or_else z (some y)) (some y))) (some y) ≡ some y
unfolding pick or_else
any-paid false b c x z i j y p q f h k = refl
any-paid true true c x z i j y p q f h k = let o : ◌≡◌ {A = ℕ} 0 1 = cc in absurd (omega arith)
any-paid true false false x z i j y p q f h k = refl
any-paid true false true none z i j y p q f h k = ap (λ o. or_else o (some y)) (f refl)
any-paid true false true (some u) z i j y p q f h k = let o : ◌≡◌ {A = ℕ} 0 1 = cc in absurd (omega arith)

pub for-paid : (w : World) → sound w ≡ true → (pc : ℕ) → Paid pc w → PaidFor (view_of w)
for-paid w h pc t p y =
    let v = view_of w in
    any-paid (eqb w.fuel.fuel 0) (eqb (banked w.fuel.bank) 0) w.fuel.ready (cleaned v pc w.finalize) (cleaned v p w.finalize)
    (entry 0 Driver.Host nothing pc) (entry 1 Driver.Host nothing pc) y refl refl (none-cleaned v pc p w.finalize) (own 0) (own 1)
  where
    own : (c : ℕ) → charged (view_of w) pc (some (entry c Driver.Host nothing pc)) ≡ some (entry c Driver.Host nothing pc)
    own c = let e = E.entry c Driver.Host nothing in charged-by w h pc e ∙ ap (λ (ch : After Charge). told pc (E.charged ch.answer w e)) t.is
