-- The events are what the functions accept: the proof.
use Prim.Native.Nat.{ℕ, ◌+◌}
use mathlib.Core.Path.{◌≡◌, refl, sym, ap, ◌∙◌}
use mathlib.Core.Bool.{Bool, true, false, not, ◌&&◌}
use mathlib.Core.Option.{Option, some}
use lib.ListN.{length}
use borrow.Author.Tests.{le-ltb}
use Rattle.lists.specs.Pick.{pick, pick_true, pick-false}
use Rattle.heap.specs.Word.{nil}
use Rattle.model.specs.State.{is_created, is_running, is_suspended}
use Rattle.model.specs.Object.{Core, Rest, is_done}
use Rattle.model.specs.World.{World, After}
use Rattle.model.specs.Frames.{reg}
use Rattle.model.specs.Heap.{object, coro}
use Rattle.model.specs.Coro.{coro_enter}
use Rattle.model.specs.Cleanup.{coro_suspended, is_entered, charge}
use Rattle.model.specs.Sound.{sound}
use Rattle.model.specs.Call.{Call, SetUp, Do, Operation, as_call}
use Rattle.model.specs.Step.{call}
use Rattle.model.specs.declared.machine.Driver.{Driver}
use Rattle.model.specs.declared.machine.Charge.{Charge}
use Rattle.std.specs.Prelude.{Result, Some}
use Rattle.model.specs.declared.coro.Entered.{Entered}
use Rattle.heap.specs.declared.fault.Fault.{Fault}
use Rattle.model.specs.declared.call.Op.{Op}
use Rattle.claims_model.specs.Says.{Sent, nothing, gets, closes}
use Rattle.claims_model.proofs.Entry.{enters, at, awaits, act, nobody, entry, accepts_as, accepts, sent_to, charged, entry_by, entry_of, driver_of, sent_of, pc_by}
use Rattle.claims_model.proofs.Suspension.{suspends_in, takes_by, suspends_of}
use Rattle.claims_model.proofs.Held.{core_in, core_at}
use Rattle.claims_model.proofs.Split.{next, Suspends, Enters}
use Rattle.claims_model.proofs.Accepted.{inmost, Exactly, Fits, passes, Starts, Acceptance}
use Rattle.claims_model.proofs.Cores.{no_both}
use Rattle.claims_model.proofs.Events.{run-susp, no-entry, who, entry-enters, suspended-one, takes-suspends}
use Rattle.claims_model.proofs.Enters.{EnterCase, e-in, e-out, enter-case, is-in}
use Rattle.claims_model.proofs.Sounds.{first_runs, solid}
use Rattle.claims_model.proofs.Calls.{shape}
use Rattle.claims_model.proofs.Claim.{StepCase, anew, same, does, step_case, fresh-absent, next-sound, entry-sound, entering}

-- ---- exactly

accepts-exactly : (w : World) (c : ℕ) (d : Driver) → is_entered (coro_enter c d w).answer ≡ accepts w c
accepts-exactly w c d = go (coro_enter c d w) (enter-case c d w)
  where
    go : (e : After (Result Entered Fault)) → EnterCase c d w e → is_entered e.answer ≡ accepts w c
    go e (e-in k r h a b m) = is-in (is_created k.state) k.waiting ∙ sym a
    go e (e-out f h) = sym h

entered-exactly : (w : World) (k : Call) (c : ℕ) → Enters c w k → entry_of w k ≡ entry c (driver_of (entry_of w k)) (sent_of (entry_of w k))
entered-exactly w k c h = let t = entering c w k h in t.by ∙ (λ i. entry c (ap driver_of (sym t.by) i) (ap sent_of (sym t.by) i))

pub named-enters : (w : World) (k : Call) (c : ℕ) (d : Driver) (v : Sent) → entry_of w k ≡ entry c d v → Enters c w k
named-enters w k c d v h = let x = go (next w k) (step_case w k) h in record { before = x.0; after = x.1 }
  where
    go : {k : Call} (z : World) → StepCase w k z → entry_of w k ≡ entry c d v → (is_running (core_at w c).state ≡ false) × (is_running (core_at z c).state ≡ true)
    go z (anew s e) q = no-entry refl q
    go z (same k e) q = no-entry e q
    go z (does o e) q = entry-enters c d v (shape w o.op) (sym (entry-sound w o e) ∙ q)

pub takes-sound : (w : World) (o : Operation) → sound w ≡ true → suspends_of w (Do o) ≡ takes_by (act w o.op) (suspends_in o.op) w
takes-sound w o h = ap (λ b. pick b (takes_by (act w o.op) (suspends_in o.op) w) false) h ∙ pick_true (takes_by (act w o.op) (suspends_in o.op) w) false

-- what a suspension says of its call
pub record Suspending (c : ℕ) (w : World) (k : Call) : Type 0 where
  pub takes : suspends_of w k ≡ true
  pub first : inmost w.chain ≡ some c
  pub alone : entry_of w k ≡ nobody

pub suspending : (w : World) (k : Call) (c : ℕ) → Suspends c w k → Suspending c w k
suspending w k c h = go (next w k) (step_case w k) h.after
  where
    go : {k : Call} (z : World) → StepCase w k z → is_suspended (core_at z c).state ≡ true → Suspending c w k
    go z (anew s e) a = no_both a (ap (λ x. is_suspended (core_in x).state) (fresh-absent s c))
    go z (same k e) a = no_both a (run-susp (core_at w c).state h.before)
    go z (does o e) a =
        let t = suspended-one c (shape w o.op) (run-susp (core_at w c).state h.before) a in
        record {
          takes = takes-sound w o e ∙ t.says.takes;
          first = ap inmost t.suspend.inmost ∙ ap {B = Option ℕ} some (sym t.its_own);
          alone = entry-sound w o e ∙ t.says.entry;
        }

pub one_of : {a b : ℕ} {x : Option ℕ} → x ≡ some a → x ≡ some b → a ≡ b
one_of p q = cc

pub suspends-exactly : (w : World) (k : Call) (c : ℕ) → suspends_of w k ≡ true → inmost w.chain ≡ some c → Suspends c w k
suspends-exactly w (SetUp s) c h f = no_both h refl
suspends-exactly w (Do o) c h f =
    let t = takes-suspends (shape w o.op) (sym (takes-sound w o e) ∙ h) in
    let n : t.0.coro ≡ c = one_of (ap inmost t.2) f in
    record {
      before = ap (λ x. is_running (core_at w x).state) (sym n) ∙ first_runs w e t.0 t.1 t.2;
      after = ap (λ x. is_suspended (core_at x c).state) (next-sound w o e) ∙ ap (λ x. is_suspended (core_at (call o.op w).world x).state) (sym n) ∙ t.3;
    }
  where
    healthy : (b : Bool) → sound w ≡ b → sound w ≡ true
    healthy true e = e
    healthy false e = no_both h (ap (λ b. pick b (takes_by (act w o.op) (suspends_in o.op) w) false) e ∙ pick-false (takes_by (act w o.op) (suspends_in o.op) w) false)

    e : sound w ≡ true
    e = healthy (sound w) refl

-- THE EVENTS ARE WHAT THE FUNCTIONS ACCEPT
pub exactly : (w : World) (k : Call) (c : ℕ) → Exactly w k c
exactly w k c =
    record {
      accepted = accepts-exactly w c;
      entered = entered-exactly w k c;
      enters = named-enters w k c;
      suspended = λ h. let t = suspending w k c h in (t.takes, t.first);
      suspends = suspends-exactly w k c;
      one_entry = λ u h g. who (entering c w k h).by (entering u w k g).by;
      one-suspension = λ u h g. one_of (suspending w k c h).first (suspending w k u g).first;
      one-switch = λ u h g. no-entry (suspending w k u g).alone (entering c w k h).by;
    }

-- ---- acceptance

accepts-fits : (w : World) (c : ℕ) (k : Core) (r : Rest) → sound w ≡ true → Fits w c k r → accepts w c ≡ true
accepts-fits w c k r h f =
    ap (λ x. accepts_as x w) f.there
    ∙ rw (f.resumable, solid w h c k r f.there f.resumable, le-ltb w.setup.limits.depth (length w.frames + length k.frames) f.depth, le-ltb w.setup.limits.stack (length w.stack + length k.regs) f.stack)

-- an instruction whose test passes enters whom it names
starts-enters : (w : World) (o : Op) (n : ℕ) (p : ℕ) (ok : Bool) (c : ℕ) (d : Driver) (v : Sent) (may : Bool) → act w o ≡ at p ok (enters c d v may) → (s : Starts w o n) → may ≡ true → accepts w c ≡ true → Enters c w (as_call o s.fits)
starts-enters w o n p ok c d v may e s m a = named-enters w (as_call o s.fits) c d (sent_to (coro w c) v) (entry-sound w (record { op = o; within = s.fits }) s.healthy ∙ ap (λ x. entry_by x w) e ∙ opened)
  where
    gate : ok ≡ true
    gate = sym (ap passes e) ∙ s.gate

    pay : (charge (Some p) w).answer ≡ Charge.Done n
    pay = ap (λ x. (charge (Some x) w).answer) (sym (ap pc_by e)) ∙ s.paid

    opened : entry_by (at p ok (enters c d v may)) w ≡ entry c d (sent_to (coro w c) v)
    opened =
        (λ i. pick (s.frame i) nobody (pick (not (gate i)) nobody (charged (pay i) w (pick (m i && a i) (entry c d (sent_to (coro w c) v)) nobody))))
        ∙ pick-false nobody (pick false nobody (pick true (entry c d (sent_to (coro w c) v)) nobody)) ∙ pick-false nobody (pick true (entry c d (sent_to (coro w c) v)) nobody) ∙ pick_true (entry c d (sent_to (coro w c) v)) nobody

susp-at : (w : World) (c : ℕ) (k : Core) (r : Rest) → Fits w c k r → is_suspended k.state ≡ true → coro_suspended (coro w c) ≡ true
susp-at w c k r f h = ap coro_suspended f.there ∙ h

-- AN ENTRY THAT NOTHING FORBIDS IS ACCEPTED
pub acceptance : (w : World) (n : ℕ) (k : Core) (r : Rest) → Acceptance w n k r
acceptance w n k r =
    record {
      resume = λ pc dst c src s f. starts-enters w (Op.Resume pc dst c src) n pc _ (reg w c) (Driver.Resume dst) (gets (reg w src)) true refl s refl (accepts-fits w (reg w c) k r s.healthy f);
      throw = λ pc dst c src s f h. starts-enters w (Op.ResumeThrow pc dst c src) n pc _ (reg w c) (Driver.Resume dst) nothing (coro_suspended (coro w (reg w c))) refl s (susp-at w (reg w c) k r f h) (accepts-fits w (reg w c) k r s.healthy f);
      close = λ pc dst c src s f h. starts-enters w (Op.CoroClose pc dst c src) n pc _ (reg w c) (Driver.Resume dst) (closes (reg w src)) (coro_suspended (coro w (reg w c))) refl s (susp-at w (reg w c) k r f h) (accepts-fits w (reg w c) k r s.healthy f);
      loop = λ pc has iter val src s f h g. starts-enters w (Op.IterNext pc has iter val src) n pc _ (reg w src) (Driver.Iter has val (reg w iter)) (gets nil) (not (is_done (object w (reg w iter))) && not (awaits (coro w (reg w src)))) refl s
          (ap (λ b. not b && not (awaits (coro w (reg w src)))) h ∙ ap (λ x. not (awaits x)) f.there ∙ ap not g) (accepts-fits w (reg w src) k r s.healthy f);
      host = λ c v t h e f.
          let it = entry c Driver.Host (sent_to (coro w c) (gets v)) in
          named-enters w (as_call (Op.HostEntry c v) t) c Driver.Host (sent_to (coro w c) (gets v))
          (entry-sound w (record { op = Op.HostEntry c v; within = t }) h ∙ (λ i. pick (not (e i)) nobody (pick (accepts-fits w c k r h f i) it nobody))
          ∙ pick-false nobody (pick true it nobody) ∙ pick_true it nobody);
    }
