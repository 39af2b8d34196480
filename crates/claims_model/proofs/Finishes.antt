-- finish: who returns by it, what is recorded as its result, and the number that it answers.
use Prim.Native.Nat.{ℕ, ◌%◌, ◌^◌}
use native.Mathlib.Omega.{arith}
use native.Mathlib.Decide.{ℕ_discrete}
use mathlib.Core.Path.{◌≡◌, refl, sym, ap, ◌∙◌, subst}
use mathlib.Core.Logic.{◌⊎◌, inl, inr}
use mathlib.Core.Bool.{Bool, true, false, not}
use mathlib.Core.List.{List, [], ◌∷◌}
use lib.Dec.{eqb}
use borrow.Author.Tests.{eqb-true, eq-eqb}
use Rattle.lists.specs.Pick.{pick}
use Rattle.heap.specs.Word.{nil, slot_of, top_of}
use Rattle.heap.specs.Coding.{bits_of, of_bits}
use Rattle.heap.specs.Fault as Faults
use Rattle.heap.specs.Int.{inline_of, exactly, value_of}
use Rattle.heap.specs.Table.{Slot, get, dyn_int_at, dyn_int_by, dyn_int_of, put_object, push_object, next_word}
use Rattle.heap.specs.declared.value.Class.{Class}
use Rattle.std.specs.Prelude.{Option, Result, Some, None, Ok, Err}
use Rattle.heap.specs.declared.value.Word.{Word}
use Rattle.heap.specs.Charge.{sat_add}
use Rattle.heap.specs.declared.fault.Fault.{Fault}
use Rattle.heap.specs.declared.int.IntTy.{IntTy}
use Rattle.heap.specs.declared.heap.ResultKind.{ResultKind}
use Rattle.heap.specs.declared.object.CoroState.{CoroState}
use Rattle.model.specs.State.{is_running}
use Rattle.model.specs.Object.{Core, Rest, Object, Coroutine, Absent, Is, is_filled, as_coro}
use Rattle.model.specs.World.{World, After, after, with_chain, with_used, with_slots}
use Rattle.model.specs.Frames.{is_coro, next_pc, pop_to}
use Rattle.model.specs.Heap.{object_at, object, coro, int_in, dyn_int, change_as, change_coro, change_iter_in, fits, slots_full, refuse, alloc, encode_at, encode_int, encode_exact, to_dyn}
use Rattle.model.specs.Coro.{in_state, ended, finish_coroutine, deliver_return, returned_on, coro_returned}
use Rattle.model.specs.Machine.{result_of, write_result, write_made, apply_cont, resume_in, return_made, finish_as, finish_on, finish}
use Rattle.model.specs.Answer.{number_of}
use Rattle.model.specs.declared.machine.Cont.{Cont}
use Rattle.model.specs.declared.machine.Driver.{Driver}
use Rattle.model.specs.declared.machine.Active.{Active}
use Rattle.model.specs.declared.machine.Frame.{Frame}
use Rattle.model.specs.declared.call.Answer.{Answer}
use Rattle.claims_model.specs.Delivery.{recorded}
use Rattle.claims_model.specs.Steps.{seen_of}
use Rattle.claims_model.proofs.Held.{core_in, core_at}
use Rattle.claims_model.proofs.Cores.{no_both, coro_in, object_in, Named, named, named-coro, put-here, put-away, set-mine}
use Rattle.claims_model.proofs.Shape.{Ends}
use Rattle.claims_model.proofs.Quiet.{dyn-same}
use Rattle.claims_model.proofs.Endings.{return-done}

-- ---- what is recorded

-- an iterator's mark: no coroutine changes
iter-coros : (v : ℕ) (f : Bool → Bool) (g : Option ℕ → Option ℕ) (w : World) (c : ℕ) → coro (change_iter_in (object w v) v f g w) c ≡ coro w c
iter-coros v f g w c = go (object w v) refl
  where
    same : (s : ℕ) (d : Bool) (k : Option ℕ) → object w v ≡ Object.Iter s d k → (y : Object) → is_filled y ≡ true → as_coro y ≡ Absent → Dec (c ≡ v) → coro_in (put_object Object.Empty w.slots (slot_of v) y) c ≡ coro w c
    same s d k e y p q (yes h) = ap (coro_in (put_object Object.Empty w.slots (slot_of v) y)) h ∙ ap as_coro (put-here w.slots v y (named w.slots v (ap is_filled e)) p) ∙ q ∙ sym (ap as_coro e) ∙ ap (coro w) (sym h)
    same s d k e y p q (no h) = ap as_coro (put-away w.slots v y c (named w.slots v (ap is_filled e)) h)

    go : (o : Object) → object w v ≡ o → coro (change_iter_in o v f g w) c ≡ coro w c
    go Object.Empty e = refl
    go (Object.Func n) e = refl
    go (Object.Int n) e = refl
    go (Object.Iter s d k) e = same s d k e (Object.Iter s (f d) (g k)) refl refl (ℕ_discrete c v)
    go (Object.Error n x p y) e = refl
    go (Object.Coro k r) e = refl

return-coros : (d : Driver) (x : ℕ) (w : World) (c : ℕ) → coro (deliver_return d x w) c ≡ coro w c
return-coros (Driver.Resume dst) x w c = refl
return-coros (Driver.Iter has val iter) x w c = iter-coros iter (λ _. true) (λ k. k) w c
return-coros Driver.Host x w c = refl
return-coros Driver.Finalize x w c = refl

return-records : (d : Driver) (x c : ℕ) (w : World) → is_running (core_at w c).state ≡ true → recorded (seen_of (coro (deliver_return d x (finish_coroutine c CoroState.Returned x w)) c)) ≡ x
return-records d x c w h = ap (λ y. recorded (seen_of y)) (return-coros d x (finish_coroutine c CoroState.Returned x w) c) ∙ go (coro w c) refl
  where
    go : (y : Coroutine) → coro w c ≡ y → recorded (seen_of (coro (change_as y c (in_state CoroState.Returned) (ended x) w) c)) ≡ x
    go Absent e = no_both h (ap (λ y. is_running (core_in y).state) e)
    go (Is k r) e = ap (λ y. recorded (seen_of y)) (set-mine w.slots c e (in_state CoroState.Returned k) (ended x r))

-- ---- integers stay what they are: only coroutines and iterators change

at-object : (xs : List (Slot Object)) (p : Option ℕ) → dyn_int_at Object.Empty is_filled int_in xs p ≡ int_in (object_at xs p)
at-object xs None = refl
at-object xs (Some i) = refl

abbrev pub dyn_in : List (Slot Object) → ℕ → Option ℕ
dyn_in xs v = dyn_int_of Object.Empty is_filled int_in xs v

abbrev by_tests : List (Slot Object) → ℕ → Bool → Bool → Bool → Option ℕ
by_tests xs v a b c = dyn_int_by Object.Empty is_filled int_in xs (pick a Class.Nil (pick b (Class.Ref (record { 0 = v })) (pick c (Class.Int (bits_of 63 (of_bits 47 (v % 2 ^ 48)))) Class.Opaque)))

dyn-alike : (xs ys : List (Slot Object)) (v : ℕ) → object_in ys v ≡ object_in xs v → dyn_in ys v ≡ dyn_in xs v
unfolding pick
dyn-alike xs ys v h = go (eqb v nil) (eqb (top_of v) 1) (eqb (top_of v) 0xFFFE)
  where
    go : (a b c : Bool) → by_tests ys v a b c ≡ by_tests xs v a b c
    go true b c = refl
    go false true c = at-object ys (get Object.Empty is_filled ys v) ∙ ap int_in h ∙ sym (at-object xs (get Object.Empty is_filled xs v))
    go false false true = refl
    go false false false = refl

-- a reference stands for what its object holds
pub dyn-object : (xs : List (Slot Object)) (v : ℕ) → top_of v ≡ 1 → dyn_in xs v ≡ int_in (object_in xs v)
unfolding pick
dyn-object xs v t = go (eqb v nil) (eqb (top_of v) 1) (eqb (top_of v) 0xFFFE) refl (eq-eqb (top_of v) 1 t)
  where
    go : (a b c : Bool) → eqb v nil ≡ a → b ≡ true → by_tests xs v a b c ≡ int_in (object_in xs v)
    go true b c e f = let q : v ≡ 0 = eqb-true v nil e in absurd (omega (arith, q, t))
    go false true c e f = at-object xs (get Object.Empty is_filled xs v)
    go false false c e f = no_both f refl

put-ints : (xs : List (Slot Object)) (c : ℕ) (o : Object) → Named xs c → int_in (object_in xs c) ≡ None → (v n : ℕ) → dyn_in xs v ≡ Some n → dyn_in (put_object Object.Empty xs (slot_of c) o) v ≡ Some n
put-ints xs c o m k v n h = go (ℕ_discrete v c)
  where
    clash : {A : Type 0} → dyn_in xs c ≡ Some n → dyn_in xs c ≡ None → A
    clash p q = let z : ◌≡◌ {A = ℕ} 0 1 = cc in absurd (omega arith)

    go : Dec (v ≡ c) → dyn_in (put_object Object.Empty xs (slot_of c) o) v ≡ Some n
    go (yes q) = clash (ap (dyn_in xs) (sym q) ∙ h) (dyn-object xs c m.top ∙ k)
    go (no q) = dyn-alike xs (put_object Object.Empty xs (slot_of c) o) v (put-away xs c o v m q) ∙ h

coro-int : (o : Object) {k : Core} {r : Rest} → as_coro o ≡ Is k r → int_in o ≡ None
coro-int Object.Empty e = refl
coro-int (Object.Func f) e = refl
coro-int (Object.Int n) e = let z : ◌≡◌ {A = ℕ} 0 1 = cc in absurd (omega arith)
coro-int (Object.Iter s d k) e = refl
coro-int (Object.Error n f p v) e = refl
coro-int (Object.Coro k r) e = refl

change-ints : (w : World) (c : ℕ) (f : Core → Core) (g : Rest → Rest) (v n : ℕ) → dyn_int w v ≡ Some n → dyn_int (change_coro c f g w) v ≡ Some n
change-ints w c f g v n h = go (coro w c) refl
  where
    go : (y : Coroutine) → coro w c ≡ y → dyn_int (change_as y c f g w) v ≡ Some n
    go Absent e = h
    go (Is k r) e = put-ints w.slots c (Object.Coro (f k) (g r)) (named-coro w.slots c e) (coro-int (object w c) e) v n h

return-ints : (d : Driver) (x : ℕ) (w : World) (v n : ℕ) → dyn_int w v ≡ Some n → dyn_int (deliver_return d x w) v ≡ Some n
return-ints (Driver.Resume dst) x w v n h = h
return-ints (Driver.Iter has val iter) x w v n h = go (object w iter) refl
  where
    go : (o : Object) → object w iter ≡ o → dyn_int (change_iter_in o iter (λ _. true) (λ k. k) w) v ≡ Some n
    go Object.Empty e = h
    go (Object.Func i) e = h
    go (Object.Int i) e = h
    go (Object.Iter s d k) e = put-ints w.slots iter (Object.Iter s true k) (named w.slots iter (ap is_filled e)) (ap int_in e) v n h
    go (Object.Error i f p y) e = h
    go (Object.Coro k r) e = h
return-ints Driver.Host x w v n h = h
return-ints Driver.Finalize x w v n h = h

-- ---- what does not convert is refused with 7, 9 or 14: by a test that fails there

module _ (P : ℕ → Bool) (p7 : P 7 ≡ false) (p9 : P 9 ≡ false) (p14 : P 14 ≡ false) where
  abbrev refusal : Result ℕ Fault → Bool
  refusal (Ok v) = false
  refusal (Err f) = P (Faults.number_of f)

  pub refused-alloc : (bytes : ℕ) (o : Object) (w : World) → refusal (alloc bytes o w).answer ≡ false
  unfolding alloc pick
  refused-alloc bytes o w = go (not (fits w bytes)) (slots_full w)
    where
      go : (a b : Bool) → refusal (pick a (refuse w Fault.OutOfMemory) (pick b (refuse w Fault.Full) (after (with_used (sat_add w.used bytes) (with_slots (push_object w.slots o) w)) (Ok (next_word w.slots))))).answer ≡ false
      go true b = p9
      go false true = p14
      go false false = refl

  pub refused-int : (n : ℕ) (w : World) → refusal (encode_int n w).answer ≡ false
  refused-int n w = go (inline_of (of_bits 63 n))
    where
      go : (x : Option Word) → refusal (encode_at x n w).answer ≡ false
      go (Some x) = refl
      go None = refused-alloc w.setup.costs.int (Object.Int n) w

  pub refused-exact : (y : Option ℕ) (w : World) → refusal (encode_exact y w).answer ≡ false
  refused-exact (Some n) w = refused-int n w
  refused-exact None w = p7

  pub refused-dyn : (kind : ResultKind) (x : ℕ) (w : World) → refusal (to_dyn kind x w).answer ≡ false
  unfolding to_dyn
  refused-dyn ResultKind.None x w = refl
  refused-dyn ResultKind.Dyn x w = refl
  refused-dyn ResultKind.I64 x w = refused-exact (exactly (value_of IntTy.I64 x)) w
  refused-dyn ResultKind.U64 x w = refused-exact (exactly (value_of IntTy.U64 x)) w

  -- so it is with a refusal that is at hand
  pub refused-at : {m : Result ℕ Fault} {f : Fault} → refusal m ≡ false → m ≡ Err f → P (Faults.number_of f) ≡ false
  refused-at h e = ap refusal (sym e) ∙ h

abbrev pub is_zero : ℕ → Bool
is_zero n = eqb n 0

-- ---- the cases

abbrev pub body_on : List Frame → Bool
body_on [] = false
body_on (f ∷ fs) = is_coro f.cont

-- the result does not convert
pub record Unmade (kind : ResultKind) (x : ℕ) (w : World) (o : After Answer) : Type 0 where
  pub fault : Fault
  pub refused : (to_dyn kind x w).answer ≡ Err fault
  pub numbered : eqb (number_of o.answer) 0 ≡ false

pub data FinishCase (kind : ResultKind) (x : ℕ) (w : World) (o : After Answer) : Type 0 where
  -- nobody returns: no body is on top, or none is active, or it is refused
  f-other : ((c : ℕ) → coro o.world c ≡ coro w c) → (body_on w.frames ≡ false) ⊎ ((w.chain ≡ []) ⊎ Unmade kind x w o) → FinishCase kind x w o
  f-returns : (f : Frame) (fs : List Frame) (a : Active) (chain : List Active) (y : ℕ) → w.frames ≡ f ∷ fs → is_coro f.cont ≡ true → w.chain ≡ a ∷ chain → (to_dyn kind x w).answer ≡ Ok y → number_of o.answer ≡ 0
      → Ends CoroState.Returned a.coro (core_at w) (core_at o.world) → (is_running (core_at w a.coro).state ≡ true → recorded (seen_of (coro o.world a.coro)) ≡ y)
      → ((v n : ℕ) → dyn_int (to_dyn kind x w).world v ≡ Some n → dyn_int o.world v ≡ Some n) → FinishCase kind x w o

pub finish-case : (kind : ResultKind) (x : ℕ) (w : World) → FinishCase kind x w (finish kind x w)
unfolding finish apply_cont coro_returned pick
finish-case kind x w = go w.frames refl
  where
    made : After (Result ℕ Fault)
    made = to_dyn kind x w

    plain : (f : Frame) (fs : List Frame) → w.frames ≡ f ∷ fs → is_coro f.cont ≡ false → (o : After Answer) → ((c : ℕ) → coro o.world c ≡ coro w c) → FinishCase kind x w o
    plain f fs p q o e = f-other e (inl (ap body_on p ∙ q))

    written : (dst : ℕ) (u : World) (r : Option ℕ) (c : ℕ) → coro (write_result dst r u) c ≡ coro u c
    written dst u None c = refl
    written dst u (Some y) c = refl

    dyn : (dst : ℕ) (u : World) (m : Result ℕ Fault) → ((c : ℕ) → coro u c ≡ coro w c) → (c : ℕ) → coro (resume_in (write_made dst u m).world (write_made dst u m).answer).world c ≡ coro w c
    dyn dst u (Ok y) e c = e c
    dyn dst u (Err f) e c = e c

    body : (f : Frame) (fs : List Frame) → w.frames ≡ f ∷ fs → is_coro f.cont ≡ true → (m : Result ℕ Fault) → made.answer ≡ m → FinishCase kind x w (return_made f fs made.world m)
    body f fs p q (Err y) e = f-other (dyn-same kind x w).coros (inr (inr (record { fault = y; refused = e; numbered = refused-at is_zero refl refl refl (refused-dyn is_zero refl refl refl kind x w) e })))
    body f fs p q (Ok y) e = chained made.world.chain refl
      where
        u : World
        u = made.world

        chained : (cs : List Active) → u.chain ≡ cs → FinishCase kind x w (after (coro_returned y (pop_to f fs u)) Answer.Resume)
        chained [] r = f-other (λ c. ap (λ cs. coro (returned_on cs y (pop_to f fs u)) c) r ∙ (dyn-same kind x w).coros c) (inr (inl (sym (dyn-same kind x w).chain ∙ r)))
        chained (a ∷ chain) r = f-returns f fs a chain y p q (sym (dyn-same kind x w).chain ∙ r) e refl ends tells ints
          where
            z : World
            z = deliver_return a.driver y (finish_coroutine a.coro CoroState.Returned y (with_chain chain (pop_to f fs u)))

            same : returned_on u.chain y (pop_to f fs u) ≡ z
            same = ap (λ cs. returned_on cs y (pop_to f fs u)) r

            ends : Ends CoroState.Returned a.coro (core_at w) (core_at (returned_on u.chain y (pop_to f fs u)))
            ends = subst (λ t. Ends CoroState.Returned a.coro (core_at w) (core_at t)) (sym same) (subst (λ k. Ends CoroState.Returned a.coro k (core_at z)) (λ i c. core_in ((dyn-same kind x w).coros c i)) (return-done y f fs u a chain ((dyn-same kind x w).frames ∙ p) q r).ends)

            ints : (v n : ℕ) → dyn_int u v ≡ Some n → dyn_int (returned_on u.chain y (pop_to f fs u)) v ≡ Some n
            ints v n h = ap (λ t. dyn_int t v) same ∙ return-ints a.driver y (finish_coroutine a.coro CoroState.Returned y (with_chain chain (pop_to f fs u))) v n (change-ints (with_chain chain (pop_to f fs u)) a.coro (in_state CoroState.Returned) (ended y) v n h)

            tells : is_running (core_at w a.coro).state ≡ true → recorded (seen_of (coro (returned_on u.chain y (pop_to f fs u)) a.coro)) ≡ y
            tells h = ap (λ t. recorded (seen_of (coro t a.coro))) same ∙ return-records a.driver y a.coro (with_chain chain (pop_to f fs u)) (ap (λ k. is_running (core_in k).state) ((dyn-same kind x w).coros a.coro) ∙ h)

    top : (f : Frame) (fs : List Frame) → w.frames ≡ f ∷ fs → (c : Cont) → f.cont ≡ c → FinishCase kind x w (finish_as c f fs kind x w)
    top f fs p Cont.Entry q = plain f fs p (ap is_coro q) _ (λ c. refl)
    top f fs p (Cont.Write dst) q = plain f fs p (ap is_coro q) _ (written dst (pop_to f fs w) (result_of kind x))
    top f fs p (Cont.Dyn dst) q =
        let o = to_dyn kind x (pop_to f fs w) in
        plain f fs p (ap is_coro q) _ (dyn dst o.world o.answer (dyn-same kind x (pop_to f fs w)).coros)
    top f fs p (Cont.Value dst) q = plain f fs p (ap is_coro q) _ (λ c. refl)
    top f fs p Cont.Discard q = plain f fs p (ap is_coro q) _ (λ c. refl)
    top f fs p Cont.Coro q = body f fs p (ap is_coro q) made.answer refl

    go : (fs : List Frame) → w.frames ≡ fs → FinishCase kind x w (finish_on fs kind x w)
    go [] p = f-other (λ c. refl) (inl (ap body_on p))
    go (f ∷ fs) p = top f fs p f.cont refl
