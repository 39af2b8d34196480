-- finish, unwind and stop run.
use Prim.Native.Nat.{ℕ}
use native.Mathlib.Decide.{ℕ_discrete}
use mathlib.Core.Path.{◌≡◌, refl, sym, ap, ◌∙◌, subst}
use mathlib.Core.Logic.{◌⊎◌, inl, inr}
use mathlib.Core.Bool.{Bool, true, false}
use mathlib.Core.List.{List, [], ◌∷◌}
use mathlib.Core.Option.{none}
use lib.Dec.{eqb, leb}
use Rattle.lists.specs.Pick.{pick}
use Rattle.heap.specs.Word.{nil}
use Rattle.heap.specs.Fault.{number_of, word_of}
use Rattle.heap.specs.declared.fault.Fault.{Fault}
use Rattle.std.specs.Prelude.{Option, Result, Some, None, Ok, Err}
use Rattle.heap.specs.declared.object.CoroState.{CoroState}
use Rattle.model.specs.State.{is_created, is_returned}
use Rattle.model.specs.Program.{func, first_of}
use Rattle.model.specs.World.{World, After, after, and_then, with_chain}
use Rattle.model.specs.Frames.{is_coro, step_pc, set_pc, top_func, top_pc, put_reg, store_pc, next_pc, pop_to}
use Rattle.model.specs.Heap.{coro, alloc, to_dyn}
use Rattle.model.specs.Coro.{finish_coroutine, in_state, ended, deliver_return, returned_on, coro_returned, closed_by, fail_to, escaped_on, coro_escaped, fail_all, abort_coros}
use Rattle.model.specs.Cleanup.{charge}
use Rattle.model.specs.Machine.{result_of, or_nil, write_result, write_made, apply_cont, resume_in, return_made, finish_as, finish_on, finish, caught, stop_or, escape, search_as, search, search_frames, search_made, error_of, unwind_fault, store_some, unwind, raisable}
use Rattle.model.specs.Added.{stop_run}
use Rattle.model.specs.declared.program.Handler.{Handler}
use Rattle.model.specs.declared.machine.Cont.{Cont}
use Rattle.model.specs.declared.machine.Driver.{Driver}
use Rattle.model.specs.declared.machine.Active.{Active}
use Rattle.model.specs.declared.machine.Frame.{Frame}
use Rattle.model.specs.declared.machine.Stop.{Stop}
use Rattle.model.specs.declared.machine.Charge.{Charge}
use Rattle.heap.specs.declared.heap.ResultKind.{ResultKind}
use Rattle.model.specs.declared.call.Answer.{Answer}
use Rattle.claims_model.specs.Delivery.{recorded}
use Rattle.claims_model.proofs.Held.{Seat, core_at, Returns, mem, deliver_to, made_word}
use Rattle.claims_model.proofs.Cores.{m-ending}
use Rattle.claims_model.proofs.Shape as S
use Rattle.claims_model.proofs.Shape.{View, view, over, Ends, Worked, done, tops, puts, pops, fails, Return, Apart}
use Rattle.claims_model.proofs.Under.{keeps-pc, keeps-step}
use Rattle.claims_model.proofs.Enters.{charge-none}
use Rattle.claims_model.proofs.Quiet.{same-worked, alloc_same, dyn-same, finish-ends, finish-told, Still, change-still}
use Rattle.claims_model.proofs.Deliver.{Delivered, return-told}

-- moves, and then perhaps a return of x
pub data Done (x : ℕ) (v : View) (z : World) : Type 0 where
  d-works : Worked none m-ending v (view z) → Done x v z
  d-returns : (u : View) (f : Frame) (fs : List Frame) (a : Active) (chain : List Active) → Worked none m-ending v u → Return u x f fs a chain z → Done x v z

-- after more moves
pub then-done : {x : ℕ} {v u : View} {z : World} → ((y : View) → Worked none m-ending u y → Worked none m-ending v y) → Done x u z → Done x v z
then-done {z = z} g (d-works t) = d-works (g (view z) t)
then-done g (d-returns u f fs a chain t r) = d-returns u f fs a chain (g u t) r

-- ---- the innermost body f goes, and its coroutine returns x

ended-born : (s : CoroState) → is_returned s ≡ true → is_created s ≡ false
ended-born CoroState.Created e = sym e
ended-born CoroState.Running e = refl
ended-born CoroState.Yielded e = refl
ended-born CoroState.Awaiting e = refl
ended-born CoroState.Returned e = refl
ended-born CoroState.Failed e = refl

pub return-done : (x : ℕ) (f : Frame) (fs : List Frame) (w : World) (a : Active) (chain : List Active) → w.frames ≡ f ∷ fs → is_coro f.cont ≡ true → w.chain ≡ a ∷ chain
    → Return (view w) x f fs a chain (deliver_return a.driver x (finish_coroutine a.coro CoroState.Returned x (with_chain chain (pop_to f fs w))))
return-done x f fs w a chain p q r =
    record {
      setup = d.setup ∙ g.setup;
      body = p;
      its_own = q;
      inmost = r;
      ends = let e = finish-ends a.coro CoroState.Returned x v in record { mine = mine e.mine; others = λ u n. d.cores u ∙ e.others u n };
      told = λ h. ap (λ (k : Seat). recorded k.seen) (d.cores a.coro) ∙ finish-told a.coro CoroState.Returned x v refl (ended-born (core_at y a.coro).state (ap (λ (k : Seat). is_returned k.state) (sym (d.cores a.coro)) ∙ h));
      under = d.under ∙ (λ i. deliver_to a.driver (Returns x) (mem (g.stack i) (g.frames i)));
      outer = d.chain ∙ g.chain;
    }
  where
    v : World
    v = with_chain chain (pop_to f fs w)

    y : World
    y = finish_coroutine a.coro CoroState.Returned x v

    g : Still v y
    g = change-still v a.coro (in_state CoroState.Returned) (ended x)

    d : Delivered a.driver (Returns x) y (deliver_return a.driver x y)
    d = return-told a.driver x y

    mine : (core_at y a.coro ≡ over CoroState.Returned (core_at y a.coro).seen (core_at w a.coro)) ⊎ ((is_created (core_at w a.coro).state ≡ true) × (core_at y a.coro ≡ core_at w a.coro))
        → (core_at (deliver_return a.driver x y) a.coro ≡ over CoroState.Returned (core_at (deliver_return a.driver x y) a.coro).seen (core_at w a.coro)) ⊎ ((is_created (core_at w a.coro).state ≡ true) × (core_at (deliver_return a.driver x y) a.coro ≡ core_at w a.coro))
    mine (inl e) = inl (d.cores a.coro ∙ e ∙ ap (λ (k : Seat). over CoroState.Returned k.seen (core_at w a.coro)) (sym (d.cores a.coro)))
    mine (inr e) = inr (e.0, d.cores a.coro ∙ e.1)

-- ---- finish

resume-worked : (w : World) (r : Result Unit Fault) → Worked none m-ending (view w) (view (resume_in w r).world)
resume-worked w (Ok u) = tops step_pc keeps-step tt done
resume-worked w (Err f) = done

-- the chain is empty, or the body's coroutine returns
returned-done : (x : ℕ) (f : Frame) (fs : List Frame) (w : World) → w.frames ≡ f ∷ fs → is_coro f.cont ≡ true → Done x (view w) (coro_returned x (pop_to f fs w))
unfolding coro_returned
returned-done x f fs w p q = go w.chain refl
  where
    go : (cs : List Active) → w.chain ≡ cs → Done x (view w) (returned_on cs x (pop_to f fs w))
    go [] r = d-works (pops f fs refl p (inr r) done)
    go (a ∷ chain) r = d-returns (view w) f fs a chain done (return-done x f fs w a chain p q r)

pub finish-done : (kind : ResultKind) (v : ℕ) (w : World) → Done (made_word (to_dyn kind v w).answer) (view w) (finish kind v w).world
unfolding finish apply_cont
finish-done kind v w = go w.frames refl
  where
    made : After (Result ℕ Fault)
    made = to_dyn kind v w

    written : (dst : ℕ) (u : World) (r : Option ℕ) → Worked none m-ending (view u) (view (write_result dst r u))
    written dst u None = done
    written dst u (Some x) = puts dst x tt done

    writing : (dst : ℕ) (u : World) (r : Option ℕ) {z : View} → Worked none m-ending (view (write_result dst r u)) z → Worked none m-ending (view u) z
    writing dst u None t = t
    writing dst u (Some x) t = puts dst x tt t

    dyn : (dst : ℕ) (u : World) (m : Result ℕ Fault) → Worked none m-ending (view u) (view (resume_in (write_made dst u m).world (write_made dst u m).answer).world)
    dyn dst u (Ok x) = puts dst x tt (resume-worked (put_reg dst x u) (Ok tt))
    dyn dst u (Err f) = resume-worked u (Err f)

    body : (f : Frame) (fs : List Frame) → w.frames ≡ f ∷ fs → is_coro f.cont ≡ true → (m : Result ℕ Fault) → made.answer ≡ m → Done (made_word made.answer) (view made.world) (return_made f fs made.world m).world
    body f fs p q (Ok x) e = subst (λ y. Done y (view made.world) (coro_returned x (pop_to f fs made.world))) (sym (ap made_word e)) (returned-done x f fs made.world ((dyn-same kind v w).frames ∙ p) q)
    body f fs p q (Err y) e = d-works done

    top : (f : Frame) (fs : List Frame) → w.frames ≡ f ∷ fs → (c : Cont) → f.cont ≡ c → Done (made_word made.answer) (view w) (finish_as c f fs kind v w).world
    top f fs p Cont.Entry q = d-works (pops f fs refl p (inl (ap is_coro q)) done)
    top f fs p (Cont.Write dst) q = d-works (pops f fs refl p (inl (ap is_coro q)) (writing dst (pop_to f fs w) (result_of kind v) (resume-worked (write_result dst (result_of kind v) (pop_to f fs w)) (Ok tt))))
    top f fs p (Cont.Dyn dst) q =
        let o = to_dyn kind v (pop_to f fs w) in
        d-works (pops f fs refl p (inl (ap is_coro q)) (same-worked (dyn-same kind v (pop_to f fs w)) (dyn dst o.world o.answer)))
    top f fs p (Cont.Value dst) q = d-works (pops f fs refl p (inl (ap is_coro q)) (puts dst (or_nil (result_of kind v)) tt (resume-worked (put_reg dst (or_nil (result_of kind v)) (pop_to f fs w)) (Ok tt))))
    top f fs p Cont.Discard q = d-works (pops f fs refl p (inl (ap is_coro q)) (resume-worked (pop_to f fs w) (Ok tt)))
    top f fs p Cont.Coro q = then-done (λ y t. same-worked (dyn-same kind v w) t) (body f fs p (ap is_coro q) made.answer refl)

    go : (fs : List Frame) → w.frames ≡ fs → Done (made_word made.answer) (view w) (finish_on fs kind v w).world
    go [] p = d-works done
    go (f ∷ fs) p = top f fs p f.cont refl

-- ---- unwind

-- the body x fails, and then more
pub failing : (x : Frame) (xs : List Frame) (value : ℕ) (w : World) (a : Active) (chain : List Active) → w.frames ≡ x ∷ xs → is_coro x.cont ≡ true → w.chain ≡ a ∷ chain
    → {z : View} → Worked none m-ending (view (finish_coroutine a.coro CoroState.Failed value (with_chain chain (pop_to x xs w)))) z → Worked none m-ending (view w) z
failing x xs value w a chain p q r {z} t =
    let v = with_chain chain (pop_to x xs w) in
    let y = finish_coroutine a.coro CoroState.Failed value v in
    let g = change-still v a.coro (in_state CoroState.Failed) (ended value) in
    fails x xs a chain (core_at y) (refl, refl) p q r (finish-ends a.coro CoroState.Failed value v)
    (subst (λ n. Worked none m-ending n z) (λ i. record { setup = g.setup i; stack = g.stack i; frames = g.frames i; chain = g.chain i; cores = core_at y }) t)

module _ (value f pc : ℕ) where
  -- what the search goes on with, where the frames are xs
  abbrev Next : List Frame → Type 0
  Next xs = (w : World) → w.frames ≡ xs → Done nil (view w) (search xs value f pc w).world

  failed-to : (xs : List Frame) → Next xs → (d : Driver) (s : Stop) (w : World) → w.frames ≡ xs → Done nil (view w) (stop_or (search xs value f pc) (fail_to d s w).world (fail_to d s w).answer).world
  unfolding pick
  failed-to xs next (Driver.Resume dst) s w p = next w p
  failed-to xs next (Driver.Iter has val iter) s w p = next w p
  failed-to xs next Driver.Host s w p = d-works done
  failed-to xs next Driver.Finalize s w p = d-works done

  escaped : (x : Frame) (xs : List Frame) → Next xs → (w : World) → w.frames ≡ x ∷ xs → is_coro x.cont ≡ true → Done nil (view w) (and_then (coro_escaped value f pc (pop_to x xs w)) (stop_or (search xs value f pc))).world
  unfolding coro_escaped pick
  escaped x xs next w p q = go w.chain refl
    where
      u : World
      u = pop_to x xs w

      go : (cs : List Active) → w.chain ≡ cs → Done nil (view w) (and_then (escaped_on cs value f pc u) (stop_or (search xs value f pc))).world
      go [] r = then-done (λ y t. pops x xs refl p (inr r) t) (next u refl)
      go (a ∷ chain) r = test (closed_by (coro u a.coro) value)
        where
          y : World
          y = finish_coroutine a.coro CoroState.Failed value (with_chain chain u)

          test : (b : Bool) → Done nil (view w) (and_then (pick b (after (deliver_return a.driver nil (finish_coroutine a.coro CoroState.Returned nil (with_chain chain u))) true) (fail_to a.driver (Stop.Failed value f pc) y)) (stop_or (search xs value f pc))).world
          test true = d-returns (view w) x xs a chain done (return-done nil x xs w a chain p q r)
          test false = then-done (λ n t. failing x xs value w a chain p q r t) (failed-to xs next a.driver (Stop.Failed value f pc) y (change-still (with_chain chain u) a.coro (in_state CoroState.Failed) (ended value)).frames)

  leaving : (x : Frame) (xs : List Frame) → Next xs → (w : World) → w.frames ≡ x ∷ xs → (c : Cont) → x.cont ≡ c → Done nil (view w) (escape c value f pc (search xs value f pc) (pop_to x xs w)).world
  leaving x xs next w p Cont.Entry q = d-works (pops x xs refl p (inl (ap is_coro q)) done)
  leaving x xs next w p (Cont.Write r) q = then-done (λ y t. pops x xs refl p (inl (ap is_coro q)) t) (next (pop_to x xs w) refl)
  leaving x xs next w p (Cont.Dyn r) q = then-done (λ y t. pops x xs refl p (inl (ap is_coro q)) t) (next (pop_to x xs w) refl)
  leaving x xs next w p (Cont.Value r) q = then-done (λ y t. pops x xs refl p (inl (ap is_coro q)) t) (next (pop_to x xs w) refl)
  leaving x xs next w p Cont.Discard q = then-done (λ y t. pops x xs refl p (inl (ap is_coro q)) t) (next (pop_to x xs w) refl)
  leaving x xs next w p Cont.Coro q = escaped x xs next w p (ap is_coro q)

  pub handled : (h : Handler) (w : World) (ch : Charge) → Worked none m-ending (view w) (view (caught h value w ch).world)
  handled h w (Charge.Done n) = tops (set_pc h.target) (keeps-pc h.target) tt (puts h.catch value tt done)
  handled h w Charge.Spent = done
  handled h w (Charge.Close n) = tops (set_pc h.target) (keeps-pc h.target) tt (puts h.catch value tt done)

  looked : (x : Frame) (xs : List Frame) → Next xs → (w : World) → w.frames ≡ x ∷ xs → (c : Option Handler) → Done nil (view w) (search_as c x xs value f pc (search xs value f pc) w).world
  looked x xs next w p None = leaving x xs next w p x.cont refl
  looked x xs next w p (Some h) = d-works (same-worked (charge-none w) (handled h (charge None w).world (charge None w).answer))

  search-done : (fs : List Frame) → Next fs
  search-done [] w p = d-works done
  search-done (x ∷ xs) w p = looked x xs (search-done xs) w p (first_of x.pc (func w.setup x.func).handlers)

pub unwind-done : (f : Fault) (pc : Option ℕ) (w : World) → Done nil (view w) (unwind f pc w).world
unfolding unwind pick
unwind-done f pc w = valid (raisable f)
  where
    frames : (value : ℕ) (u : World) → Done nil (view u) (search_frames value u).world
    frames value u = search-done value (top_func u.frames) (top_pc u.frames) u.frames u refl

    made : (u : World) (m : Result ℕ Fault) → Done nil (view u) (search_made u m).world
    made u (Ok x) = frames x u
    made u (Err e) = d-works done

    kinds : (u : World) (a b : Bool) → Done nil (view u) (pick a (search_frames (word_of f) u) (pick b (and_then (alloc u.setup.costs.error (error_of f u) u) search_made) (after u (Answer.Refused f)))).world
    kinds u true b = frames (word_of f) u
    kinds u false true = let o = alloc u.setup.costs.error (error_of f u) u in then-done (λ y t. same-worked (alloc_same u.setup.costs.error (error_of f u) u refl) t) (made o.world o.answer)
    kinds u false false = d-works done

    store : (p : Option ℕ) → Done nil (view w) (unwind_fault f (store_some p w)).world
    store None = kinds w (eqb (number_of f) 17) (leb (number_of f) 8)
    store (Some p) = then-done (λ y t. tops (set_pc p) (keeps-pc p) tt t) (kinds (store_pc p w) (eqb (number_of f) 17) (leb (number_of f) 8))

    valid : (b : Bool) → Done nil (view w) (pick b (unwind_fault f (store_some pc w)) (after w (Answer.Refused Fault.Unsound))).world
    valid true = store pc
    valid false = d-works done

-- ---- stop run

fail-apart : (chain : List Active) (w : World) (c : ℕ) → Apart c chain → core_at (fail_all chain w) c ≡ core_at w c
fail-apart [] w c n = refl
fail-apart (a ∷ chain) w c n = fail-apart chain (finish_coroutine a.coro CoroState.Failed nil w) c n.1 ∙ (finish-ends a.coro CoroState.Failed nil w).others c n.0

fail-setup : (chain : List Active) (w : World) → (fail_all chain w).setup ≡ w.setup
fail-setup [] w = refl
fail-setup (a ∷ chain) w = fail-setup chain (finish_coroutine a.coro CoroState.Failed nil w) ∙ (change-still w a.coro (in_state CoroState.Failed) (ended nil)).setup

abbrev Stopped : List Active → World → ℕ → Seat → Type 0
Stopped chain w c k = (Apart c chain × (k ≡ core_at w c)) ⊎ ((k.state ≡ CoroState.Failed) ⊎ ((is_created (core_at w c).state ≡ true) × (k ≡ core_at w c)))

end-failed : (v : ℕ) (w : World) (c : ℕ) → (core_at w c).state ≡ CoroState.Failed → (core_at (finish_coroutine v CoroState.Failed nil w) c).state ≡ CoroState.Failed
end-failed v w c h = go (ℕ_discrete c v)
  where
    e : Ends CoroState.Failed v (core_at w) (core_at (finish_coroutine v CoroState.Failed nil w))
    e = finish-ends v CoroState.Failed nil w

    mine : (core_at (finish_coroutine v CoroState.Failed nil w) v ≡ over CoroState.Failed (core_at (finish_coroutine v CoroState.Failed nil w) v).seen (core_at w v)) ⊎ ((is_created (core_at w v).state ≡ true) × (core_at (finish_coroutine v CoroState.Failed nil w) v ≡ core_at w v))
        → c ≡ v → (core_at (finish_coroutine v CoroState.Failed nil w) v).state ≡ CoroState.Failed
    mine (inl x) q = ap (λ k. k.state) x
    mine (inr x) q = ap (λ k. k.state) x.1 ∙ ap (λ u. (core_at w u).state) (sym q) ∙ h

    go : Dec (c ≡ v) → (core_at (finish_coroutine v CoroState.Failed nil w) c).state ≡ CoroState.Failed
    go (yes q) = ap (λ u. (core_at (finish_coroutine v CoroState.Failed nil w) u).state) q ∙ mine e.mine q
    go (no q) = ap (λ k. k.state) (e.others c q) ∙ h

fail-failed : (chain : List Active) (w : World) (c : ℕ) → (core_at w c).state ≡ CoroState.Failed → (core_at (fail_all chain w) c).state ≡ CoroState.Failed
fail-failed [] w c h = h
fail-failed (a ∷ chain) w c h = fail-failed chain (finish_coroutine a.coro CoroState.Failed nil w) c (end-failed a.coro w c h)

fail-each : (chain : List Active) (w : World) (c : ℕ) → Stopped chain w c (core_at (fail_all chain w) c)
fail-each [] w c = inl (tt, refl)
fail-each (a ∷ chain) w c = go (ℕ_discrete c a.coro) (fail-each chain y c)
  where
    y : World
    y = finish_coroutine a.coro CoroState.Failed nil w

    z : World
    z = fail_all chain y

    e : Ends CoroState.Failed a.coro (core_at w) (core_at y)
    e = finish-ends a.coro CoroState.Failed nil w

    same : core_at y c ≡ core_at w c → is_created (core_at w c).state ≡ true → Stopped chain y c (core_at z c) → Stopped (a ∷ chain) w c (core_at z c)
    same q b (inl x) = inr (inr (b, x.1 ∙ q))
    same q b (inr (inl x)) = inr (inl x)
    same q b (inr (inr x)) = inr (inr (b, x.1 ∙ q))

    mine : (core_at y a.coro ≡ over CoroState.Failed (core_at y a.coro).seen (core_at w a.coro)) ⊎ ((is_created (core_at w a.coro).state ≡ true) × (core_at y a.coro ≡ core_at w a.coro))
        → c ≡ a.coro → Stopped chain y c (core_at z c) → Stopped (a ∷ chain) w c (core_at z c)
    mine (inl x) q s = inr (inl (fail-failed chain y c (ap (λ u. (core_at y u).state) q ∙ ap (λ k. k.state) x)))
    mine (inr x) q s = same (ap (core_at y) q ∙ x.1 ∙ ap (core_at w) (sym q)) (ap (λ u. is_created (core_at w u).state) q ∙ x.0) s

    go : Dec (c ≡ a.coro) → Stopped chain y c (core_at z c) → Stopped (a ∷ chain) w c (core_at z c)
    go (yes q) s = mine e.mine q s
    go (no q) (inl x) = inl ((q, x.0), x.1 ∙ e.others c q)
    go (no q) (inr (inl x)) = inr (inl x)
    go (no q) (inr (inr x)) = inr (inr (ap (λ k. is_created k.state) (sym (e.others c q)) ∙ x.0, x.1 ∙ e.others c q))

pub stop-stops : (w : World) → S.Stop w (stop_run w).world
unfolding stop_run abort_coros
stop-stops w = record { setup = fail-setup w.chain w; apart = fail-apart w.chain w; each = fail-each w.chain w; outer = refl }
