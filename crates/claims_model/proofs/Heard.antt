-- What a suspension answers: its driver decides, and whether the coroutine was being closed.
use Prim.Native.Nat.{ℕ}
use mathlib.Core.Path.{◌≡◌, sym, ap, ◌∙◌}
use mathlib.Core.Bool.{Bool, true}
use mathlib.Core.List.{List, ◌∷◌}
use Rattle.model.specs.State.{is_suspended}
use Rattle.model.specs.World.{World}
use Rattle.model.specs.Heap.{coro}
use Rattle.model.specs.Answer.{number_of}
use Rattle.model.specs.Call.{Call, Do}
use Rattle.model.specs.Step.{step}
use Rattle.model.specs.declared.machine.Active.{Active}
use Rattle.claims_model.specs.Engine.{seen_in}
use Rattle.claims_model.specs.Says.{announced_by}
use Rattle.claims_model.specs.Demand3 as D
use Rattle.claims_model.specs.Events.{is_await, suspension_number, suspension_number_to}
use Rattle.claims_model.specs.Steps.{seen_of, view_of, model_op, steps}
use Rattle.claims_model.proofs.Held.{core_in, core_at}
use Rattle.claims_model.proofs.Split.{next, Suspends}
use Rattle.claims_model.proofs.Cores.{no_both}
use Rattle.claims_model.proofs.Events.{run-susp, suspended-one}
use Rattle.claims_model.proofs.Calls.{shape}
use Rattle.claims_model.proofs.Claim as Claim
use Rattle.claims_model.proofs.Claim.{StepCase, anew, same, step_case, fresh-absent}
use Rattle.claims_model.proofs.Restores.{suspends-old}
use Rattle.claims_model.proofs.Untouched.{closing-seen}
use Rattle.claims_model.proofs.Exact.{number-sound}
use Rattle.claims_model.proofs.Numbers.{told_on, aims_to, call-number}

-- what the innermost is told, in the claim's words
told-seen : (w : World) (a : Active) (chain : List Active) (c : ℕ) (await : Bool) → w.chain ≡ a ∷ chain → c ≡ a.coro → told_on w.chain (coro w) await ≡ suspension_number_to w.chain await (seen_in (λ x. x.closing) (seen_of (coro w c)))
told-seen w a chain c await e q =
    ap (λ cs. told_on cs (coro w) await) e
    ∙ ap (suspension_number a.driver await) (sym (closing-seen (coro w a.coro)))
    ∙ (λ i. suspension_number_to (sym e i) await (seen_in (λ x. x.closing) (seen_of (coro w (sym q i)))))

pub heard : (c : ℕ) (w : World) (k : Call) → D.Suspends steps c w k → number_of (step w k).answer ≡ suspension_number_to w.chain (is_await (announced_by (view_of w) (model_op k))) (seen_in (λ x. x.closing) ((view_of w).coro c))
heard c w k g = go (next w k) (step_case w k) h.after
  where
    h : Suspends c w k
    h = suspends-old c w k g

    go : {k : Call} (z : World) → StepCase w k z → is_suspended (core_at z c).state ≡ true → number_of (step w k).answer ≡ suspension_number_to w.chain (is_await (announced_by (view_of w) (model_op k))) (seen_in (λ x. x.closing) ((view_of w).coro c))
    go z (anew s e) a = no_both a (ap (λ x. is_suspended (core_in x).state) (fresh-absent s c))
    go z (same k e) a = no_both a (run-susp (core_at w c).state h.before)
    go z (Claim.does o e) a =
        let s = suspended-one c (shape w o.op) (run-susp (core_at w c).state h.before) a in
        let await = is_await (announced_by (view_of w) (model_op (Do o))) in
        ap number_of (number-sound w o e) ∙ (call-number w e o.op (ap aims_to s.by)).which s.says.takes ∙ told-seen w s.body s.chain c await s.suspend.inmost s.its_own
