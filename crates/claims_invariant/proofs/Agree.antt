-- Ready, bank and finalizing agree with the cleanup queue and the chain, after every function of the machine.
use mathlib.Core.Path.{◌≡◌, refl, sym, ap, ◌∙◌, subst}
use mathlib.Core.Bool.{Bool, true, false, not, ◌&&◌, ◌||◌}
use mathlib.Core.List.{List, [], ◌∷◌}
use Prim.Native.Nat.{ℕ, suc, ◌+◌, ◌*◌, ◌%◌, ◌^◌}
use native.Mathlib.Omega.{arith}
use lib.ListN.{length}
use lib.Dec.{eqb, leb}
use Rattle.heap.specs.Word.{nil}
use Rattle.heap.specs.Coding.{of_bits}
use Rattle.heap.specs.Int.{inline_of, exactly, value_of}
use Rattle.std.specs.Prelude.{Option, Result, Some, None, Ok, Err}
use Rattle.model.specs.declared.coro.Entered.{Entered}
use Rattle.heap.specs.declared.fault.Fault.{Fault}
use Rattle.heap.specs.declared.value.Word.{Word}
use Rattle.heap.specs.declared.int.IntTy.{IntTy}
use Rattle.heap.specs.declared.object.CoroState.{CoroState}
use Rattle.model.specs.Lists.{is_nil}
use Rattle.model.specs.State.{is_resumable}
use Rattle.model.specs.Program.{func}
use Rattle.model.specs.Object.{Core, Rest, Object, Coroutine, Absent, Is}
use Rattle.model.specs.World.{World, After, with_chain, with_finalize, with_finalizing, with_seq}
use Rattle.model.specs.Frames.{store_pc}
use Rattle.model.specs.Heap.{object, coro, set_coro, change_coro, change_iter_in, set_done, set_key, fits, slots_full, alloc, encode_at, encode_int, encode_exact, to_dyn}
use Rattle.model.specs.Rows.{rows_full}
use Rattle.model.specs.Fuel.{unbank_at, unbank, arm_at, arm_close, set_ready, set_finalizing, spend}
use Rattle.model.specs.Coro.{coro_create, entered, overflows, enter_as, coro_enter, saved, growth, suspend_coroutine, suspend_innermost, coro_suspend, deliver, in_state, ended, deliver_return, returned_on, coro_returned, closed_by, fail_to, escaped_on, coro_escaped, fail_all, abort_coros}
use Rattle.model.specs.Cleanup.{join_ready, spawn_task, coro_suspended, is_entered, close, start_from, start_finalizer, charge_done, charge_or, charge_at, charge_slow, charge}
use Rattle.model.specs.Sound.{is_none}
use Rattle.model.specs.declared.machine.Active.{Active}
use Rattle.model.specs.declared.machine.Driver.{Driver}
use Rattle.model.specs.declared.machine.Fuel.{Fuel}
use Rattle.model.specs.declared.machine.Stop.{Stop}
use Rattle.model.specs.declared.coro.Event.{Event}
use Rattle.model.specs.declared.coro.Started.{Started}
use Rattle.heap.specs.declared.heap.ResultKind.{ResultKind}
use Rattle.claims_invariant.specs.Reachable.{final_of, finals, one_if, AgreeOf, Owing, Agree, host_low, hosts_low}
use Rattle.claims_sound.proofs.Tests.{no_false, no_true, or_left, or_right, or_else, and_right, picked, both}
use Rattle.claims_sound.proofs.Coros.{changed}

-- what a function leaves agrees
abbrev pub Ag : {A : Type 0} → After A → Type 0
Ag o = Agree o.world

-- ---- objects: they change nothing of it

pub change-owing : (n : ℕ) (v : ℕ) (f : Core → Core) (g : Rest → Rest) (w : World) → Owing n w → Owing n (change_coro v f g w)
change-owing n v f g w h = changed (λ u. Owing n u) w v f g h (λ k r e. h)

iter-agree : (w : World) (v : ℕ) (f : Bool → Bool) (g : Option ℕ → Option ℕ) → Agree w → (o : Object) → Agree (change_iter_in o v f g w)
iter-agree w v f g h Object.Empty = h
iter-agree w v f g h (Object.Func n) = h
iter-agree w v f g h (Object.Int n) = h
iter-agree w v f g h (Object.Iter s d k) = h
iter-agree w v f g h (Object.Error a b c d) = h
iter-agree w v f g h (Object.Coro k r) = h

pub done-agree : (v : ℕ) (w : World) → Agree w → Agree (set_done v w)
done-agree v w h = iter-agree w v (λ _. true) (λ k. k) h (object w v)

key-agree : (v key : ℕ) (w : World) → Agree w → Agree (set_key v key w)
key-agree v key w h = iter-agree w v (λ d. d) (λ _. Some key) h (object w v)

pub alloc-agree : (bytes : ℕ) (o : Object) (w : World) → Agree w → Ag (alloc bytes o w)
unfolding alloc
alloc-agree bytes o w h = picked Ag (not (fits w bytes)) (λ _. h) (λ _. picked Ag (slots_full w) (λ _. h) (λ _. h))

pub int-agree : (n : ℕ) (w : World) → Agree w → Ag (encode_int n w)
int-agree n w h = go (inline_of (of_bits 63 n))
  where
    go : (i : Option Word) → Ag (encode_at i n w)
    go (Some x) = h
    go None = alloc-agree w.setup.costs.int (Object.Int n) w h

exact-agree : (x : Option ℕ) (w : World) → Agree w → Ag (encode_exact x w)
exact-agree (Some n) w h = int-agree n w h
exact-agree None w h = h

pub dyn-agree : (kind : ResultKind) (v : ℕ) (w : World) → Agree w → Ag (to_dyn kind v w)
unfolding to_dyn
dyn-agree ResultKind.None v w h = h
dyn-agree ResultKind.Dyn v w h = h
dyn-agree ResultKind.I64 v w h = exact-agree (exactly (value_of IntTy.I64 v)) w h
dyn-agree ResultKind.U64 v w h = exact-agree (exactly (value_of IntTy.U64 v)) w h

pub create-agree : (f closure : ℕ) (args : List ℕ) (w : World) → Agree w → Ag (coro_create f closure args w)
unfolding coro_create
create-agree f closure args w h =
    picked Ag (not (fits w (8 * (func w.setup f).regs + w.setup.costs.coro + w.setup.costs.frame))) (λ _. h)
    (λ _. picked Ag (slots_full w || rows_full w) (λ _. h) (λ _. alloc-agree _ _ (with_seq ((w.seq + 1) % 2 ^ 64) w) h))

pub task-agree : (v : ℕ) (w : World) → Agree w → Ag (spawn_task v w)
unfolding spawn_task
task-agree v w h = go (coro w v)
  where
    go : (c : Coroutine) → Ag (join_ready c v w)
    go Absent = h
    go (Is k r) = picked Ag (not r.task && is_resumable k.state) (λ _. h) (λ _. h)

-- ---- fuel

arm-at : (o : Option ℕ) (f : Fuel) → f.bank ≡ o → (is_none f.bank || f.ready) ≡ true → (is_none (arm_at o f).bank || (arm_at o f).ready) ≡ true
arm-at None f e h = picked (λ (x : Fuel). (is_none x.bank || x.ready) ≡ true) f.ready (λ r. r) (λ _. h)
arm-at (Some n) f e h = h

arm-ready : (o : Option ℕ) (f : Fuel) → (arm_at o f).ready ≡ f.ready
arm-ready None f = picked (λ (x : Fuel). x.ready ≡ f.ready) f.ready (λ _. refl) (λ _. refl)
arm-ready (Some n) f = refl

pub arm-agree : (w : World) → Agree w → Agree (arm_close w)
arm-agree w h = record { ready = arm-ready w.fuel.bank w.fuel ∙ h.ready; bank = arm-at w.fuel.bank w.fuel refl h.bank; active = h.active; hosts = h.hosts }

unbank-at : (o : Option ℕ) (f : Fuel) → f.bank ≡ o → is_none (unbank_at o f).bank ≡ true
unbank-at None f e = ap is_none e
unbank-at (Some n) f e = refl

unbank-ready : (o : Option ℕ) (f : Fuel) → (unbank_at o f).ready ≡ f.ready
unbank-ready None f = refl
unbank-ready (Some n) f = refl

pub unbank-agree : (w : World) → Agree w → Agree (unbank w)
unbank-agree w h =
    record {
      ready = unbank-ready w.fuel.bank w.fuel ∙ h.ready;
      bank = or_left (is_none (unbank_at w.fuel.bank w.fuel).bank) _ (unbank-at w.fuel.bank w.fuel refl);
      active = h.active;
      hosts = h.hosts;
    }

pub spend-agree : (w : World) → Agree w → Agree (spend w)
spend-agree w h = record { ready = h.ready; bank = h.bank; active = h.active; hosts = h.hosts }

-- set_finalizing makes them agree, if no fuel is banked without a reason
pub set-agree : (b : Bool) (w : World) → hosts_low w.chain ≡ true → finals w.chain ≡ one_if b → (is_none w.fuel.bank || (not b && not (is_nil w.finalize))) ≡ true → Agree (set_finalizing b w)
set-agree b w hs e k =
    let n = not b && not (is_nil w.finalize) in
    let a : 0 + finals w.chain ≡ one_if b = omega arith in
    arm-agree (set_ready n (with_finalizing b w)) (record { ready = refl; bank = k; active = a; hosts = hs })

-- a cleanup that has left the chain is told
told-agree : (w : World) → Owing 1 w → Agree (set_finalizing false w)
told-agree w h = go w.finalizing refl
  where
    go : (b : Bool) → w.finalizing ≡ b → Agree (set_finalizing false w)
    go true e =
        let a : 1 + finals w.chain ≡ 1 = h.active ∙ ap one_if e in
        let f : finals w.chain ≡ 0 = omega arith in
        let r : w.fuel.ready ≡ false = h.ready ∙ ap (λ b. not b && not (is_nil w.finalize)) e in
        set-agree false w h.hosts f (or_else (is_none w.fuel.bank) w.fuel.ready h.bank (λ z. or_left (is_none w.fuel.bank) _ z) (λ z. no_true (sym z ∙ r)))
    go false e =
        let a : 1 + finals w.chain ≡ 0 = h.active ∙ ap one_if e in
        absurd (omega arith)

-- ---- entries

enter-as : (v : ℕ) (d : Driver) (w : World) (c : Coroutine) → Agree w → final_of d ≡ 0 → host_low d (length w.frames) ≡ true → Ag (enter_as c v d w)
enter-as v d w Absent h z y = h
enter-as v d w (Is k r) h z y =
    picked Ag (not (is_resumable k.state) || is_nil k.frames) (λ _. h)
    (λ _.
    picked Ag (overflows k w) (λ _. h) (λ _. record { ready = h.ready; bank = h.bank; active = let a = h.active in let g : 0 + (final_of d + finals w.chain) ≡ 0 + finals w.chain = omega arith in g ∙ a; hosts = both y h.hosts }))

-- an entry by no cleanup
pub enter-agree : (v : ℕ) (d : Driver) (w : World) → Agree w → final_of d ≡ 0 → host_low d (length w.frames) ≡ true → Ag (coro_enter v d w)
unfolding coro_enter
enter-agree v d w h z y = enter-as v d w (coro w v) h z y

-- an entry by a cleanup, where none runs
record Begins (w u : World) (e : Result Entered Fault) : Type 0 where
  bank : u.fuel ≡ w.fuel
  queue : u.finalize ≡ w.finalize
  active : is_entered e ≡ true → finals u.chain ≡ 1 + finals w.chain
  hosts : hosts_low w.chain ≡ true → hosts_low u.chain ≡ true

begin-as : (v : ℕ) (w : World) (c : Coroutine) → Begins w (enter_as c v Driver.Finalize w).world (enter_as c v Driver.Finalize w).answer
begin-as v w Absent = record { bank = refl; queue = refl; active = λ z. no_false z; hosts = λ z. z }
begin-as v w (Is k r) =
    picked (λ (o : After (Result Entered Fault)). Begins w o.world o.answer) (not (is_resumable k.state) || is_nil k.frames) (λ _. record { bank = refl; queue = refl; active = λ z. no_false z; hosts = λ z. z })
    (λ _.
    picked (λ (o : After (Result Entered Fault)). Begins w o.world o.answer) (overflows k w) (λ _. record { bank = refl; queue = refl; active = λ z. no_false z; hosts = λ z. z })
    (λ _. record { bank = refl; queue = refl; active = λ _. refl; hosts = λ z. z }))

begins : (v : ℕ) (w : World) → Begins w (coro_enter v Driver.Finalize w).world (coro_enter v Driver.Finalize w).answer
unfolding coro_enter
begins v w = begin-as v w (coro w v)

-- ---- suspensions

abbrev pub Suspended : World → Result (Driver × Event) Fault → Type 0
Suspended u (Ok (d, e)) = Owing (final_of d) u
Suspended u (Err f) = Agree u

popped : {b : Bool} {q : List ℕ} {f : Fuel} {c chain : List Active} (a : Active) → c ≡ a ∷ chain → AgreeOf 0 b q f c → AgreeOf (final_of a.driver) b q f chain
popped {c = c} {chain} a e h =
    record {
      ready = h.ready;
      bank = h.bank;
      active = let z = h.active in let y = ap finals e in let x : final_of a.driver + finals chain ≡ 0 + finals c = omega arith in x ∙ z;
      hosts = and_right (host_low a.driver a.floor) _ (subst (λ y. hosts_low y ≡ true) e h.hosts);
    }

module _ (st : CoroState) (dst payload : ℕ) (key : Option (ℕ × ℕ)) (w : World) (h : Agree w) where
  suspend-on : (chain : List Active) → w.chain ≡ chain → Suspended (suspend_innermost chain st dst payload key w).world (suspend_innermost chain st dst payload key w).answer
  suspend-on [] q = h
  suspend-on (a ∷ chain) q = picked (λ (o : After (Result (Driver × Event) Fault)). Suspended o.world o.answer) (leb (length w.frames) a.floor) (λ _. h) (λ _. go (coro w a.coro))
    where
      go : (c : Coroutine) → Suspended (suspend_coroutine c a chain (saved st dst a.floor w) payload key w).world (suspend_coroutine c a chain (saved st dst a.floor w) payload key w).answer
      go Absent = h
      go (Is k r) = picked (λ (o : After (Result (Driver × Event) Fault)). Suspended o.world o.answer) (not (fits w (growth w (saved st dst a.floor w) r))) (λ _. h) (λ _. popped a q h)

  pub suspend-agree : Suspended (coro_suspend st dst payload key w).world (coro_suspend st dst payload key w).answer
  unfolding coro_suspend
  suspend-agree = suspend-on w.chain refl

pub deliver-agree : (d : Driver) (e : Event) (w : World) → Owing (final_of d) w → Ag (deliver d e w)
unfolding deliver
deliver-agree (Driver.Resume dst) (Event.Yielded p k) w h = h
deliver-agree (Driver.Resume dst) (Event.Awaiting p) w h = h
deliver-agree (Driver.Resume dst) Event.CloseIgnored w h = h
deliver-agree (Driver.Iter has val iter) (Event.Yielded p k) w h = key-agree iter k w h
deliver-agree (Driver.Iter has val iter) (Event.Awaiting p) w h = h
deliver-agree (Driver.Iter has val iter) Event.CloseIgnored w h = h
deliver-agree Driver.Host e w h = h
deliver-agree Driver.Finalize e w h = told-agree w h

-- ---- ends

return-agree : (d : Driver) (value : ℕ) (w : World) → Owing (final_of d) w → Agree (deliver_return d value w)
return-agree (Driver.Resume dst) value w h = h
return-agree (Driver.Iter has val iter) value w h = done-agree iter w h
return-agree Driver.Host value w h = h
return-agree Driver.Finalize value w h = told-agree w h

fail-agree : (d : Driver) (s : Stop) (w : World) → Owing (final_of d) w → Ag (fail_to d s w)
fail-agree (Driver.Resume dst) s w h = h
fail-agree (Driver.Iter has val iter) s w h = h
fail-agree Driver.Host s w h = h
fail-agree Driver.Finalize s w h = told-agree w h

pub returned-agree : (value : ℕ) (w : World) → Agree w → Agree (coro_returned value w)
unfolding coro_returned
returned-agree value w h = go w.chain refl
  where
    go : (chain : List Active) → w.chain ≡ chain → Agree (returned_on chain value w)
    go [] e = h
    go (a ∷ chain) e = return-agree a.driver value _ (change-owing (final_of a.driver) a.coro (in_state CoroState.Returned) (ended value) (with_chain chain w) (popped a e h))

pub escaped-agree : (value f pc : ℕ) (w : World) → Agree w → Ag (coro_escaped value f pc w)
unfolding coro_escaped
escaped-agree value f pc w h = go w.chain refl
  where
    go : (chain : List Active) → w.chain ≡ chain → Ag (escaped_on chain value f pc w)
    go [] e = h
    go (a ∷ chain) e =
        picked Ag (closed_by (coro w a.coro) value)
        (λ _. return-agree a.driver nil _ (change-owing (final_of a.driver) a.coro (in_state CoroState.Returned) (ended nil) (with_chain chain w) (popped a e h)))
        (λ _. fail-agree a.driver (Stop.Failed value f pc) _ (change-owing (final_of a.driver) a.coro (in_state CoroState.Failed) (ended value) (with_chain chain w) (popped a e h)))

fail-all : (n : ℕ) (chain : List Active) (w : World) → Owing n w → Owing n (fail_all chain w)
fail-all n [] w h = h
fail-all n (a ∷ chain) w h = fail-all n chain _ (change-owing n a.coro (in_state CoroState.Failed) (ended nil) w h)

-- banked fuel has a reason: a queue that is not empty
bank-queue : (w : World) → Agree w → (is_none w.fuel.bank || (not false && not (is_nil w.finalize))) ≡ true
bank-queue w h =
    or_else (is_none w.fuel.bank) w.fuel.ready h.bank (λ z. or_left (is_none w.fuel.bank) _ z)
    (λ z. or_right (is_none w.fuel.bank) _ (and_right (not w.finalizing) (not (is_nil w.finalize)) (sym h.ready ∙ z)))

pub abort-agree : (w : World) → Agree w → Agree (abort_coros w)
unfolding abort_coros
abort-agree w h = let u = fail_all w.chain w in let k = fail-all 0 w.chain w h in set-agree false (with_chain [] u) refl refl (bank-queue u k)

-- ---- cleanups and charges

start-agree : (queue : List ℕ) (n : ℕ) (w : World) → hosts_low w.chain ≡ true → finals w.chain ≡ 0 → is_none w.fuel.bank ≡ true → Ag (start_from n queue w)
start-agree [] n w hs z b = set-agree false (with_finalize [] w) hs z (or_left (is_none w.fuel.bank) _ b)
start-agree (c ∷ queue) n w hs z b =
    let u = with_finalize queue w in
    let e = coro_enter c Driver.Finalize u in
    let s = begins c u in
    picked Ag (coro_suspended (coro w c) && is_entered e.answer)
    (λ t.
    let v = e.world in
    let a : finals v.chain ≡ 1 = s.active (and_right (coro_suspended (coro w c)) (is_entered e.answer) t) ∙ ap (λ m. 1 + m) z in
    let k : is_none v.fuel.bank ≡ true = ap (λ (f : Fuel). is_none f.bank) s.bank ∙ b in
    changed-set v c (s.hosts hs) a k)
    (λ _. start-agree queue (suc n) w hs z b)
  where
    changed-set : (v : World) (c : ℕ) → hosts_low v.chain ≡ true → finals v.chain ≡ 1 → is_none v.fuel.bank ≡ true → Agree (set_finalizing true (change_coro c (λ k. k) (close nil) v))
    changed-set v c hs a k =
        changed (λ u. Agree (set_finalizing true u)) v c (λ x. x) (close nil) (set-agree true v hs a (or_left (is_none v.fuel.bank) _ k))
        (λ x r e. set-agree true (set_coro c x (close nil r) v) hs a (or_left (is_none v.fuel.bank) _ k))

done-good : (n : ℕ) (w : World) → Agree w → Ag (charge_done n w)
done-good n w h = arm-agree (spend w) (spend-agree w h)

or-agree : (s : After Started) → Ag s → Ag (charge_or s)
or-agree s h = picked Ag s.answer.entered (λ _. h) (λ _. done-good s.answer.taken s.world h)

at_agree : (pc : Option ℕ) (w : World) → Agree w → Ag (charge_at pc w)
unfolding start_finalizer
at_agree None w h = done-good 0 w h
at_agree (Some pc) w h =
    picked Ag w.fuel.ready
    (λ r. or-agree (start_finalizer (store_pc pc w)) (start-agree w.finalize 0 (unbank (store_pc pc w)) h.hosts (idle r) (unbank-at w.fuel.bank w.fuel refl))) (λ _. done-good 0 w h)
  where
    -- a cleanup is ready, so none runs
    idle : w.fuel.ready ≡ true → finals w.chain ≡ 0
    idle r = go w.finalizing refl
      where
        go : (b : Bool) → w.finalizing ≡ b → finals w.chain ≡ 0
        go true e = no_true (sym r ∙ h.ready ∙ ap (λ b. not b && not (is_nil w.finalize)) e)
        go false e = let a : 0 + finals w.chain ≡ 0 = h.active ∙ ap one_if e in omega arith

pub charge-agree : (pc : Option ℕ) (w : World) → Agree w → Ag (charge pc w)
unfolding charge charge_slow
charge-agree pc w h =
    picked Ag (eqb w.fuel.fuel 0) (λ _. picked Ag (eqb (unbank w).fuel.fuel 0) (λ _. unbank-agree w h) (λ _. at_agree pc (unbank w) (unbank-agree w h))) (λ _. spend-agree w h)
