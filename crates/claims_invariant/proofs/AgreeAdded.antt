-- Ready, bank and finalizing agree after the added calls.
use mathlib.Core.Path.{◌≡◌, refl, sym, ap, ◌∙◌}
use mathlib.Core.Bool.{Bool, true, false, not, ◌&&◌, ◌||◌}
use mathlib.Core.List.{List, [], ◌∷◌, ◌++◌}
use Prim.Native.Nat.{ℕ}
use native.Mathlib.Omega.{arith}
use lib.Dec.{eqb}
use Rattle.heap.specs.Word.{nil}
use Rattle.std.specs.Prelude.{Option, Result, Some, None, Ok, Err}
use Rattle.model.specs.declared.coro.Entered.{Entered}
use Rattle.heap.specs.declared.fault.Fault.{Fault}
use Rattle.model.specs.Lists.{is_nil}
use Rattle.model.specs.State.{is_suspended}
use Rattle.model.specs.Object.{Object, Coroutine, Absent, Is, with_finalized}
use Rattle.model.specs.World.{World, with_finalize}
use Rattle.model.specs.Frames.{store_pc}
use Rattle.model.specs.Heap.{coro, set_coro, alloc}
use Rattle.model.specs.Coro.{coro_enter}
use Rattle.model.specs.Machine.{push_frame}
use Rattle.model.specs.Added.{answer_made, pushed_or, host_call, host_arrive, host_entry, function_call, iterator_over, make_iterator, hand_over_as, hand_over, refuel, granted, grant_too_large, grant}
use Rattle.model.specs.Sound.{is_none}
use Rattle.model.specs.declared.machine.Cont.{Cont}
use Rattle.model.specs.declared.machine.Driver.{Driver}
use lib.ListN.{length}
use Rattle.model.specs.declared.machine.Frame.{Frame}
use Rattle.claims_invariant.specs.Reachable.{Agree}
use Rattle.claims_sound.proofs.Tests.{no_true, or_left, or_right, or_else, picked, no_false}
use Rattle.claims_invariant.proofs.Agree.{Ag, Suspended, alloc-agree, set-agree, enter-agree}
use Rattle.claims_invariant.proofs.AgreeMachine.{then-ag, push-agree}
use Rattle.claims_invariant.proofs.AgreeExec.{answer-made}

module _ (w : World) (h : Agree w) where
  pushed-or : (u : World) (m : Result ℕ Fault) → Agree u → Ag (pushed_or w u m)
  pushed-or u (Ok base) k = k
  pushed-or u (Err f) k = h

  pub host-call-agree : (f : ℕ) → Ag (host_call f w)
  unfolding host_call
  host-call-agree f = then-ag (push_frame f nil Cont.Entry w) (pushed_or w) (push-agree f nil Cont.Entry w h) pushed-or

  pub host-entry-agree : (c v : ℕ) → is_nil w.frames ≡ true → Ag (host_entry c v w)
  unfolding host_entry
  host-entry-agree c v e = then-ag (coro_enter c Driver.Host w) (host_arrive v) (enter-agree c Driver.Host w h refl (none w.frames e)) go
    where
      none : (fs : List Frame) → is_nil fs ≡ true → eqb (length fs) 0 ≡ true
      none [] e = refl
      none (f ∷ fs) e = no_false e

      go : (u : World) (e : Result Entered Fault) → Agree u → Ag (host_arrive v u e)
      go u (Ok Entered.Fresh) k = k
      go u (Ok (Entered.Suspended d)) k = k
      go u (Err f) k = k

  pub function-call-agree : (pc f : ℕ) (cont : Cont) → Ag (function_call pc f cont w)
  unfolding function_call
  function-call-agree pc f cont = then-ag (push_frame f nil cont (store_pc pc w)) (pushed_or w) (push-agree f nil cont (store_pc pc w) h) pushed-or

  pub make-iterator-agree : (v : ℕ) → Ag (make_iterator v w)
  unfolding make_iterator
  make-iterator-agree v = go (coro w v)
    where
      go : (c : Coroutine) → Ag (iterator_over c v w)
      go Absent = h
      go (Is k r) = then-ag (alloc w.setup.costs.iter (Object.Iter v false None) w) answer_made (alloc-agree w.setup.costs.iter (Object.Iter v false None) w h) answer-made

  pub hand-over-agree : (v : ℕ) → Ag (hand_over v w)
  unfolding hand_over
  hand-over-agree v = go (coro w v)
    where
      some : (q : List ℕ) → not (is_nil (q ++ (v ∷ []))) ≡ true
      some [] = refl
      some (x ∷ q) = refl

      -- fuel is banked only while none runs, and now the queue is not empty
      reason : (b : Bool) → w.finalizing ≡ b → (is_none w.fuel.bank || (not b && not (is_nil (w.finalize ++ (v ∷ []))))) ≡ true
      reason true e =
          or_else (is_none w.fuel.bank) w.fuel.ready h.bank (λ z. or_left (is_none w.fuel.bank) _ z)
          (λ z. no_true (sym z ∙ h.ready ∙ ap (λ b. not b && not (is_nil w.finalize)) e))
      reason false e = or_right (is_none w.fuel.bank) _ (some w.finalize)

      go : (c : Coroutine) → Ag (hand_over_as c v w)
      go Absent = h
      go (Is k r) =
          picked Ag (not (is_suspended k.state) || r.finalized) (λ _. h)
          (λ _. set-agree w.finalizing (set_coro v k (with_finalized true r) (with_finalize (w.finalize ++ (v ∷ [])) w)) h.hosts (let a = h.active in omega arith) (reason w.finalizing refl))

  pub grant-agree : (n : ℕ) → Ag (grant n w)
  unfolding grant
  grant-agree n =
      picked Ag (grant_too_large n w) (λ _. h)
      (λ _. record { ready = same w.fuel.bank (granted n w) ∙ h.ready; bank = kept w.fuel.bank (granted n w) refl; active = h.active; hosts = h.hosts })
    where
      same : (o : Option ℕ) (m : ℕ) → (refuel o m w.fuel).ready ≡ w.fuel.ready
      same None m = refl
      same (Some b) m = refl

      kept : (o : Option ℕ) (m : ℕ) → w.fuel.bank ≡ o → (is_none (refuel o m w.fuel).bank || (refuel o m w.fuel).ready) ≡ true
      kept None m e = h.bank
      kept (Some b) m e = ap (λ o. is_none o || w.fuel.ready) (sym e) ∙ h.bank
