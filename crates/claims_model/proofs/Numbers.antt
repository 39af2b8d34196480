-- A Yield, YieldKv or Await suspends exactly if it is answered 0, 2 or 6; and which of these it is.
use Prim.Native.Nat.{ℕ}
use mathlib.Core.Path.{◌≡◌, refl, sym, ap, ◌∙◌, subst}
use mathlib.Core.Bool.{Bool, true, false, not, ◌||◌}
use mathlib.Core.List.{List, [], ◌∷◌}
use lib.ListN.{length}
use lib.Dec.{eqb, leb}
use borrow.Author.Tests.{eqb-true}
use Rattle.lists.specs.Pick.{pick}
use Rattle.heap.specs.Fault as Faults
use Rattle.heap.specs.Int.{next_key}
use Rattle.heap.specs.declared.fault.Fault.{Fault}
use Rattle.std.specs.Prelude.{Option, Result, Some, None, Ok, Err}
use Rattle.heap.specs.declared.object.CoroState.{CoroState}
use Rattle.model.specs.Lists.{is_nil}
use Rattle.model.specs.State.{is_running, is_awaiting}
use Rattle.model.specs.Object.{Coroutine, Absent, Is}
use Rattle.model.specs.World.{World, After, after, and_then}
use Rattle.model.specs.Frames.{reg, store_pc}
use Rattle.model.specs.Heap.{coro, dyn_int, fits, encode_int}
use Rattle.model.specs.Coro as Coro
use Rattle.model.specs.Coro.{saved, growth, set_keys, suspend_coroutine, suspend_innermost, coro_suspend, deliver}
use Rattle.model.specs.Cleanup.{charge}
use Rattle.model.specs.Gate as Gate
use Rattle.model.specs.Gate.{instruction, refused, answer_of}
use Rattle.model.specs.Exec.{delivered, deliver_all, suspend, largest_in, key_at, key_exact, auto_key, yield_key, yield_on, yield, larger_of, yield_kv_on, yield_kv, await_on, await}
use Rattle.model.specs.Sound.{sound, marked}
use Rattle.model.specs.Answer.{step_number, number_of}
use Rattle.model.specs.Step.{call}
use Rattle.model.specs.declared.machine.Driver.{Driver}
use Rattle.model.specs.declared.machine.Active.{Active}
use Rattle.model.specs.declared.machine.Charge.{Charge}
use Rattle.model.specs.declared.coro.Event.{Event}
use Rattle.model.specs.declared.exec.Step.{Step}
use Rattle.model.specs.declared.call.Op.{Op}
use Rattle.model.specs.declared.call.Answer.{Answer}
use Rattle.claims_model.specs.Says.{Announced, announced}
use Rattle.claims_model.specs.Events.{is_await, suspension_number}
use Rattle.claims_model.specs.Steps.{view_of}
use Rattle.claims_model.proofs.Entry as E
use Rattle.claims_model.proofs.Entry.{yields, yields_kv, waits, resumes, throws, shuts, turns, act}
use Rattle.claims_model.proofs.Tries.{taken, tries, keyed, in_body}
use Rattle.claims_model.proofs.Suspension.{suspends_in, paid_by, takes_by}
use Rattle.claims_model.proofs.Held.{core_in, core_at}
use Rattle.claims_model.proofs.Cores.{no_both, coro_in}
use Rattle.claims_model.proofs.Views.{to-suspend, to-enter, aimless, Kind, k-at, k-host, k-finish, k-raise, k-other, kind-of}
use Rattle.claims_model.proofs.Enters.{Ready, r-same, r-stored, ChargeCase, c-done, c-spent, c-close, charge-case}
use Rattle.claims_model.proofs.Quiet.{key-same}
use Rattle.claims_model.proofs.Deliver.{keys-closing}
use Rattle.claims_model.proofs.Sounds.{first_runs}
use Rattle.claims_model.proofs.Finishes.{refused-int, refused-at}

abbrev pub ok_number : ℕ → Bool
ok_number n = eqb n 0 || eqb n 2 || eqb n 6

-- what the innermost is told
abbrev pub told_on : List Active → (ℕ → Coroutine) → Bool → ℕ
told_on [] f await = 0
told_on (a ∷ chain) f await = suspension_number a.driver await (marked (λ r. r.closing) (f a.coro))

-- n is answered where coro_suspend accepts at w, or does not
pub record Tells (w : World) (await : Bool) (n : ℕ) (b : Bool) : Type 0 where
  pub ok : ok_number n ≡ b
  pub which : b ≡ true → n ≡ told_on w.chain (coro w) await

untold : {w : World} {await : Bool} {n : ℕ} → ok_number n ≡ false → Tells w await n false
untold e = record { ok = e; which = λ h. no_both h refl }

tells_as : {v w : World} {await : Bool} {n : ℕ} {b : Bool} → v.chain ≡ w.chain → ((c : ℕ) → coro v c ≡ coro w c) → Tells v await n b → Tells w await n b
tells_as {await = await} p q t = record { ok = t.ok; which = λ h. t.which h ∙ (λ i. told_on (p i) (λ c. q c i) await) }

-- ---- coro_suspend and its delivery

-- whoever is innermost is there
abbrev Stands : World → Type 0
Stands v = (a : Active) (chain : List Active) → v.chain ≡ a ∷ chain → is_running (core_at v a.coro).state ≡ true

delivered-number : (d : Driver) (e : Event) (w : World) → ok_number (step_number (and_then (deliver d e w) delivered).answer) ≡ true
unfolding deliver pick
delivered-number (Driver.Resume r) (Event.Yielded x key) w = refl
delivered-number (Driver.Resume r) (Event.Awaiting x) w = refl
delivered-number (Driver.Resume r) Event.CloseIgnored w = refl
delivered-number (Driver.Iter has val iter) (Event.Yielded x key) w = refl
delivered-number (Driver.Iter has val iter) (Event.Awaiting x) w = refl
delivered-number (Driver.Iter has val iter) Event.CloseIgnored w = refl
delivered-number Driver.Host e w = refl
delivered-number Driver.Finalize e w = refl

delivered-told : (d : Driver) (await closing : Bool) (x key : ℕ) (w : World)
    → step_number (and_then (deliver d (pick await (Event.Awaiting x) (pick closing Event.CloseIgnored (Event.Yielded x key))) w) delivered).answer ≡ suspension_number d await closing
unfolding deliver pick
delivered-told (Driver.Resume r) true b x key w = refl
delivered-told (Driver.Resume r) false true x key w = refl
delivered-told (Driver.Resume r) false false x key w = refl
delivered-told (Driver.Iter has val iter) true b x key w = refl
delivered-told (Driver.Iter has val iter) false true x key w = refl
delivered-told (Driver.Iter has val iter) false false x key w = refl
delivered-told Driver.Host a b x key w = refl
delivered-told Driver.Finalize a b x key w = refl

suspend-number : (pc : ℕ) (s : CoroState) (dst x : ℕ) (keys : Option (ℕ × ℕ)) (v : World) → Stands v → Tells v (is_awaiting s) (step_number (suspend pc s dst x keys v).answer) (tries pc s dst x v keys)
unfolding coro_suspend pick
suspend-number pc s dst x keys v there = go v.chain refl
  where
    Suits : After (Result (Driver × Event) Fault) → Type 0
    Suits o = Tells v (is_awaiting s) (step_number (and_then o deliver_all).answer) (taken o.answer)

    t : World
    t = store_pc pc v

    found : (a : Active) (chain : List Active) → v.chain ≡ a ∷ chain → (y : Coroutine) → coro v a.coro ≡ y → Suits (suspend_coroutine y a chain (saved s dst a.floor t) x keys t)
    found a chain e Absent q = no_both (there a chain e) (ap (λ y. is_running (core_in y).state) q)
    found a chain e (Is k r) q = test (not (fits t (growth t (saved s dst a.floor t) r)))
      where
        test : (b : Bool) → Suits (pick b (after t (Err Fault.OutOfMemory)) (after (Coro.put_to_sleep a chain (saved s dst a.floor t) x keys r t) (Ok (a.driver, Coro.event_of s x (set_keys keys r)))))
        test true = untold refl
        test false =
            let z = Coro.put_to_sleep a chain (saved s dst a.floor t) x keys r t in
            record {
              ok = delivered-number a.driver (Coro.event_of s x (set_keys keys r)) z;
              which = λ _. delivered-told a.driver (is_awaiting s) (set_keys keys r).closing x (set_keys keys r).key z
                  ∙ ap (suspension_number a.driver (is_awaiting s)) (keys-closing keys r)
                  ∙ ap (λ y. suspension_number a.driver (is_awaiting s) (marked (λ r. r.closing) y)) (sym q)
                  ∙ ap (λ cs. told_on cs (coro v) (is_awaiting s)) (sym e);
            }

    above : (a : Active) (chain : List Active) → v.chain ≡ a ∷ chain → (b : Bool) → Suits (pick b (after t (Err Fault.CannotSuspend)) (suspend_coroutine (coro v a.coro) a chain (saved s dst a.floor t) x keys t))
    above a chain e true = untold refl
    above a chain e false = found a chain e (coro v a.coro) refl

    go : (cs : List Active) → v.chain ≡ cs → Suits (suspend_innermost cs s dst x keys t)
    go [] e = untold refl
    go (a ∷ chain) e = above a chain e (leb (length t.frames) a.floor)

-- ---- the three arms

key-number : (pc dst x : ℕ) (o : After (Result (ℕ × ℕ) Fault)) → ((f : Fault) → o.answer ≡ Err f → ok_number (Faults.number_of f) ≡ false)
    → Stands o.world → Tells o.world false (step_number (yield_key pc dst x o.world o.answer).answer) (keyed (tries pc CoroState.Yielded dst x) o.world o.answer)
key-number pc dst x o h there = go o.answer refl
  where
    go : (a : Result (ℕ × ℕ) Fault) → o.answer ≡ a → Tells o.world false (step_number (yield_key pc dst x o.world a).answer) (keyed (tries pc CoroState.Yielded dst x) o.world a)
    go (Ok (key, largest)) e = suspend-number pc CoroState.Yielded dst x (Some (key, largest)) o.world there
    go (Err f) e = untold (h f e)

abbrev bad : Result (ℕ × ℕ) Fault → Bool
bad (Ok (k, n)) = false
bad (Err g) = ok_number (Faults.number_of g)

key-refused : (largest : ℕ) (w : World) (f : Fault) → (auto_key largest w).answer ≡ Err f → ok_number (Faults.number_of f) ≡ false
unfolding auto_key
key-refused largest w f = go (next_key largest)
  where
    made : (n : ℕ) (u : World) (m : Result ℕ Fault) → (encode_int n w).answer ≡ m → (key_at n u m).answer ≡ Err f → ok_number (Faults.number_of f) ≡ false
    made n u (Ok k) q e = sym (ap bad e)
    made n u (Err g) q e = ap bad (sym e) ∙ refused-at ok_number refl refl refl (refused-int ok_number refl refl refl n w) q

    go : (x : Option ℕ) → (key_exact x w).answer ≡ Err f → ok_number (Faults.number_of f) ≡ false
    go (Some n) e = made n (encode_int n w).world (encode_int n w).answer refl e
    go None e = ap bad (sym e)

yield-number : (pc dst src : ℕ) (v : World) → Stands v → Tells v false (step_number (yield pc dst src v).answer) (suspends_in (Op.Yield pc dst src) v)
unfolding yield
yield-number pc dst src v there = go v.chain refl
  where
    go : (cs : List Active) → v.chain ≡ cs
        → Tells v false (step_number (yield_on cs pc dst src v).answer) (in_body cs (λ a. keyed (tries pc CoroState.Yielded dst (reg v src)) (auto_key (largest_in (coro v a.coro)) v).world (auto_key (largest_in (coro v a.coro)) v).answer))
    go [] e = untold refl
    go (a ∷ chain) e =
        let n = largest_in (coro v a.coro) in
        let g = key-same n v in
        tells_as g.chain g.coros (key-number pc dst (reg v src) (auto_key n v) (key-refused n v) (λ b cs q. ap (λ y. is_running (core_in y).state) (g.coros b.coro) ∙ there b cs (sym g.chain ∙ q)))

yield_kv-number : (pc dst src key : ℕ) (v : World) → Stands v → Tells v false (step_number (yield_kv pc dst src key v).answer) (suspends_in (Op.YieldKv pc dst src key) v)
unfolding yield_kv
yield_kv-number pc dst src key v there = go v.chain
  where
    go : (cs : List Active)
        → Tells v false (step_number (yield_kv_on cs pc dst src key v).answer) (in_body cs (λ a. tries pc CoroState.Yielded dst (reg v src) v (Some (reg v key, larger_of (largest_in (coro v a.coro)) (dyn_int v (reg v key))))))
    go [] = untold refl
    go (a ∷ chain) = suspend-number pc CoroState.Yielded dst (reg v src) (Some (reg v key, larger_of (largest_in (coro v a.coro)) (dyn_int v (reg v key)))) v there

await-number : (pc dst src : ℕ) (v : World) → Stands v → Tells v true (step_number (await pc dst src v).answer) (suspends_in (Op.Await pc dst src) v)
unfolding await
await-number pc dst src v there = go v.chain
  where
    go : (cs : List Active) → Tells v true (step_number (await_on cs pc dst src v).answer) (in_body cs (λ a. tries pc CoroState.Awaiting dst (reg v src) v None))
    go [] = untold refl
    go (a ∷ chain) = suspend-number pc CoroState.Awaiting dst (reg v src) None v there

-- ---- the instruction

pub step-number : (n : ℕ) (s : Step) → number_of (answer_of n s) ≡ step_number s
unfolding pick
step-number n Step.Next = refl
step-number n Step.Frame = refl
step-number n (Step.Unwind f) = refl
step-number n (Step.Fault f) = go (eqb (Faults.number_of f) 10) refl
  where
    go : (b : Bool) → eqb (Faults.number_of f) 10 ≡ b → number_of (pick b (Answer.Unpaid n) (Answer.Stepped (Step.Fault f) n)) ≡ Faults.number_of f
    go true e = sym (eqb-true (Faults.number_of f) 10 e)
    go false e = refl

instr-number : (w : World) → sound w ≡ true → (p : ℕ) (ok : Bool) (arm : World → After Step) (f : World → Bool) (await : Bool) → ((v : World) → Stands v → Tells v await (step_number (arm v).answer) (f v))
    → Tells w await (number_of (instruction p ok arm w).answer) (pick (is_nil w.frames) false (pick (not ok) false (paid_by f (charge (Some p) w).world (charge (Some p) w).answer)))
unfolding instruction pick
instr-number w h p ok arm f await owes = gate (is_nil w.frames) (not ok)
  where
    stands : {v : World} → Ready p w v → Stands v
    stands {v} (r-same a b c d e g) x chain q = ap (λ xs. is_running (core_in (coro_in xs x.coro)).state) e ∙ first_runs w h x chain (sym d ∙ q)
    stands {v} (r-stored s) x chain q = ap (λ xs. is_running (core_in (coro_in xs x.coro)).state) s.slots ∙ first_runs w h x chain (sym s.chain ∙ q)

    alike : {v : World} {n : ℕ} {b : Bool} → Ready p w v → Tells v await n b → Tells w await n b
    alike {v} (r-same a b c d e g) t = tells_as d (λ x. ap (λ xs. coro_in xs x) e) t
    alike {v} (r-stored s) t = tells_as s.chain (λ x. ap (λ xs. coro_in xs x) s.slots) t

    paid : (ch : After Charge) → ChargeCase p w ch → Tells w await (number_of (Gate.charged arm ch.world ch.answer).answer) (paid_by f ch.world ch.answer)
    paid ch (c-done n v r) = subst (λ m. Tells w await m (f v)) (sym (step-number n (arm v).answer)) (alike r (owes v (stands r)))
    paid ch (c-spent v r) = untold refl
    paid ch (c-close n c z x t) = untold refl

    gate : (a b : Bool)
        → Tells w await (number_of (pick a (refused w Fault.NoFrame) (pick b (refused w Fault.BadOperand) (and_then (charge (Some p) w) (Gate.charged arm)))).answer) (pick a false (pick b false (paid_by f (charge (Some p) w).world (charge (Some p) w).answer)))
    gate true b = untold refl
    gate false true = untold refl
    gate false false = paid (charge (Some p) w) (charge-case p w)

-- ---- the calls that are after it

abbrev pub aims_to : E.Act → Bool
aims_to (E.at pc ok (E.enters c d x may)) = false
aims_to (E.at pc ok (E.suspends s dst x)) = true
aims_to (E.at pc ok E.neither) = false
aims_to (E.by_host c x) = false
aims_to (E.finishes kind x) = false
aims_to E.unwinds = false
aims_to E.other = false

kind-number : (w : World) → sound w ≡ true → {o : Op} {a : E.Act} {d : Announced} → Kind w o a d → aims_to a ≡ true
    → Tells w (is_await (announced (view_of w) o)) (number_of (call o w).answer) (takes_by (act w o) (suspends_in o) w)
unfolding call
kind-number w h (k-at e (to-suspend (yields pc dst src))) q = instr-number w h pc _ (yield pc dst src) (suspends_in (Op.Yield pc dst src)) false (yield-number pc dst src)
kind-number w h (k-at e (to-suspend (yields_kv pc dst src key))) q = instr-number w h pc _ (yield_kv pc dst src key) (suspends_in (Op.YieldKv pc dst src key)) false (yield_kv-number pc dst src key)
kind-number w h (k-at e (to-suspend (waits pc dst src))) q = instr-number w h pc _ (await pc dst src) (suspends_in (Op.Await pc dst src)) true (await-number pc dst src)
kind-number w h (k-at e (to-enter (resumes pc dst c src))) q = no_both q refl
kind-number w h (k-at e (to-enter (throws pc dst c src))) q = no_both q refl
kind-number w h (k-at e (to-enter (shuts pc dst c src))) q = no_both q refl
kind-number w h (k-at e (to-enter (turns pc has iter val src))) q = no_both q refl
kind-number w h (k-at e aimless) q = no_both q refl
kind-number w h (k-host c x) q = no_both q refl
kind-number w h (k-finish kind x) q = no_both q refl
kind-number w h (k-raise f pc) q = no_both q refl
kind-number w h (k-other e) q = no_both q refl

pub call-number : (w : World) → sound w ≡ true → (o : Op) → aims_to (act w o) ≡ true → Tells w (is_await (announced (view_of w) o)) (number_of (call o w).answer) (takes_by (act w o) (suspends_in o) w)
call-number w h o q = kind-number w h (kind-of w o) q
