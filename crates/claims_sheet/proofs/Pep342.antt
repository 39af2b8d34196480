-- PEP 342: send, throw, close and next, read off the table.
use Prim.Native.Nat.{ℕ}
use mathlib.Core.Path.{◌≡◌, refl, ap, ◌∙◌}
use mathlib.Core.Bool.{Bool, true, false, not, ◌||◌}
use mathlib.Core.List.{List, [], ◌∷◌}
use Rattle.lists.specs.Pick.{pick}
use Rattle.heap.specs.declared.fault.Fault.{Fault}
use Rattle.heap.specs.declared.object.CoroState.{CoroState}
use Rattle.model.specs.World.{World, after}
use Rattle.model.specs.declared.machine.Driver.{Driver}
use Rattle.model.specs.declared.exec.Step.{Step}
use Rattle.model.specs.declared.call.Answer.{Answer}
use Rattle.claims_sheet.specs.Lines.{Lines}
use Rattle.claims_sheet.specs.Words.{word, found, dead, no_coroutine, is_coroutine, is_done, core_of, is_in, state, resumable, suspended, too_high}
use Rattle.claims_sheet.specs.Moves.{sent_unless_created, sent, entered}
use Rattle.claims_sheet.specs.Charging.{charged, lost}
use Rattle.claims_sheet.specs.Instructions as Table
use Rattle.claims_sheet.specs.Sheet.{lie}
use Rattle.claims_sheet.specs.Pep342.{pays, at, held, finds, enters, only_created, any_suspended, any_resumable, any_finished, forbidden, Passes, Send, Throw, Close, Next}
use Rattle.claims_sheet.proofs.Among.{and_left, and_right, not-true}
use Rattle.claims_sheet.proofs.Sheet.{leads-to}
use Rattle.claims_sheet.proofs.Led.{past, here, paid, follows, lives}

-- the answer of a line that is no 10
pub stepped : (b : Bool) (v : World) (s : Step) (n : ℕ) → b ≡ false → after v (pick b (Answer.Unpaid n) (Answer.Stepped s n)) ≡ after v (Answer.Stepped s n)
stepped b v s n e = ap (λ a. after v a) (past b (Answer.Unpaid n) e refl)

pub moved : {v u : World} (b : Bool) (s : Step) (n : ℕ) → v ≡ u → b ≡ false → after v (pick b (Answer.Unpaid n) (Answer.Stepped s n)) ≡ after u (Answer.Stepped s n)
moved b s n e f = ap (λ x. after x (pick b (Answer.Unpaid n) (Answer.Stepped s n))) e ∙ stepped b _ s n f

-- ---- a coroutine in one of some states

module _ (ss : List CoroState) (v : ℕ) (z : World) (h : finds ss v z ≡ true) where
  there : is_coroutine (found z v) ≡ true
  there = and_left (is_coroutine (found z v)) _ h

  pub not_dead : dead z v ≡ false
  not_dead = lives (found z v) _ there

  pub not-other : no_coroutine z v ≡ false
  not-other = ap not there

  pub in-state : is_in ss (state z v) ≡ true
  in-state = and_right (is_coroutine (found z v)) _ h

module _ (ss : List CoroState) (v : ℕ) (z : World) (h : enters ss v z ≡ true) where
  pub in_reach : finds ss v z ≡ true
  in_reach = and_left (finds ss v z) _ h

  pub fits : too_high z v ≡ false
  fits = not-true (too_high z v) (and_right (finds ss v z) _ h)

-- ---- send, throw, close

module _ (pc dst c src : ℕ) (w : World) (passes : Passes pc dst c src w) where
  abbrev ok : Bool
  ok = lie (dst ∷ c ∷ src ∷ []) w

  abbrev u : World
  u = charged pc w

  abbrev z : World
  z = at pc w

  abbrev v : ℕ
  v = held c pc w

  abbrev s : CoroState
  s = state z v

  -- what the waiting register gets
  sends : is_in any_suspended s ≡ true → sent_unless_created s (core_of (found z v)).waiting (word u src) (entered v (Driver.Resume dst) z) ≡ sent (core_of (found z v)).waiting (word u src) (entered v (Driver.Resume dst) z)
  sends a = past (is_in only_created s) _ (not-true (is_in only_created s) (follows (λ x. is_in any_suspended x) (λ x. not (is_in only_created x)) refl s a)) refl

  pub send : Send pc dst c src w passes
  send =
      record {
        send-suspended = λ h t.
            let f = in_reach any_suspended v z h in let a = in-state any_suspended v z f in
            leads-to w _ ∙ (paid pc ok (Table.resume pc dst c src) w passes
            ∙ past (dead z v) _ (not_dead any_suspended v z f) (past (no_coroutine z v) _ (not-other any_suspended v z f) (past (not (resumable s)) _ (ap not (follows (λ x. is_in any_suspended x) resumable refl s a)) (past (too_high z v) _ (fits any_suspended v z h)
            (moved _ Step.Frame (lost pc w) (sends a) refl)))));
        send-created = λ h t.
            let f = in_reach only_created v z h in let a = in-state only_created v z f in
            leads-to w _ ∙ (paid pc ok (Table.resume pc dst c src) w passes
            ∙ past (dead z v) _ (not_dead only_created v z f) (past (no_coroutine z v) _ (not-other only_created v z f) (past (not (resumable s)) _ (ap not (follows (λ x. is_in only_created x) resumable refl s a)) (past (too_high z v) _ (fits only_created v z h)
            (moved _ Step.Frame (lost pc w) (here (is_in only_created s) _ a) refl)))));
        send-refused = λ f t.
            let a = in-state forbidden v z f in
            leads-to w _ ∙ (paid pc ok (Table.resume pc dst c src) w passes
            ∙ past (dead z v) _ (not_dead forbidden v z f) (past (no_coroutine z v) _ (not-other forbidden v z f)
            (here (not (resumable s)) _ (follows (λ x. is_in forbidden x) (λ x. not (resumable x)) refl s a) ∙ stepped _ _ (Step.Fault Fault.InvalidCoroState) (lost pc w) refl)));
        send-overflow = λ h t.
            let f = and_left (finds any_resumable v z) (too_high z v) h in
            leads-to w _ ∙ (paid pc ok (Table.resume pc dst c src) w passes
            ∙ past (dead z v) _ (not_dead any_resumable v z f) (past (no_coroutine z v) _ (not-other any_resumable v z f) (past (not (resumable s)) _ (ap not (in-state any_resumable v z f))
            (here (too_high z v) _ (and_right (finds any_resumable v z) (too_high z v) h) ∙ stepped _ _ (Step.Fault Fault.StackOverflow) (lost pc w) refl))));
      }

  pub throw : Throw pc dst c src w passes
  throw =
      record {
        throw-suspended = λ h t.
            let f = in_reach any_suspended v z h in let a = in-state any_suspended v z f in
            leads-to w _ ∙ (paid pc ok (Table.resume_throw pc dst c src) w passes
            ∙ past (dead u v) _ (not_dead any_suspended v z f) (past (no_coroutine u v) _ (not-other any_suspended v z f) (past (is_in only_created s) _ (not-true (is_in only_created s) (follows (λ x. is_in any_suspended x) (λ x. not (is_in only_created x)) refl s a))
            (past (not (resumable s)) _ (ap not (follows (λ x. is_in any_suspended x) resumable refl s a)) (past (too_high z v) _ (fits any_suspended v z h) (stepped _ _ (Step.Unwind (Fault.Throw (word u src))) (lost pc w) refl))))));
        throw-created = λ f t.
            leads-to w _ ∙ (paid pc ok (Table.resume_throw pc dst c src) w passes
            ∙ past (dead u v) _ (not_dead only_created v u f) (past (no_coroutine u v) _ (not-other only_created v u f) (here (is_in only_created s) _ (in-state only_created v u f) ∙ stepped _ _ (Step.Fault (Fault.Throw (word u src))) (lost pc w) refl)));
        throw-refused = λ f t.
            let a = in-state forbidden v z f in
            leads-to w _ ∙ (paid pc ok (Table.resume_throw pc dst c src) w passes
            ∙ past (dead u v) _ (not_dead forbidden v z f) (past (no_coroutine u v) _ (not-other forbidden v z f) (past (is_in only_created s) _ (not-true (is_in only_created s) (follows (λ x. is_in forbidden x) (λ x. not (is_in only_created x)) refl s a))
            (here (not (resumable s)) _ (follows (λ x. is_in forbidden x) (λ x. not (resumable x)) refl s a) ∙ stepped _ _ (Step.Fault Fault.InvalidCoroState) (lost pc w) refl))));
        throw-overflow = λ h t.
            let f = and_left (finds any_suspended v z) (too_high z v) h in let a = in-state any_suspended v z f in
            leads-to w _ ∙ (paid pc ok (Table.resume_throw pc dst c src) w passes
            ∙ past (dead u v) _ (not_dead any_suspended v z f) (past (no_coroutine u v) _ (not-other any_suspended v z f) (past (is_in only_created s) _ (not-true (is_in only_created s) (follows (λ x. is_in any_suspended x) (λ x. not (is_in only_created x)) refl s a))
            (past (not (resumable s)) _ (ap not (follows (λ x. is_in any_suspended x) resumable refl s a)) (here (too_high z v) _ (and_right (finds any_suspended v z) (too_high z v) h) ∙ stepped _ _ (Step.Fault Fault.StackOverflow) (lost pc w) refl)))));
      }

  abbrev running : List CoroState
  running = CoroState.Running ∷ []

  pub close : Close pc dst c src w passes
  close =
      record {
        close-created = λ f t.
            let a = in-state only_created v u f in
            leads-to w _ ∙ (paid pc ok (Table.coro_close pc dst c src) w passes
            ∙ past (dead u v) _ (not_dead only_created v u f) (past (no_coroutine u v) _ (not-other only_created v u f) (past (is_in running s) _ (not-true (is_in running s) (follows (λ x. is_in only_created x) (λ x. not (is_in running x)) refl s a))
            (here (is_in only_created s) _ a ∙ stepped _ _ Step.Next (lost pc w) refl))));
        close-finished = λ f t.
            let a = in-state any_finished v u f in
            leads-to w _ ∙ (paid pc ok (Table.coro_close pc dst c src) w passes
            ∙ past (dead u v) _ (not_dead any_finished v u f) (past (no_coroutine u v) _ (not-other any_finished v u f) (past (is_in running s) _ (not-true (is_in running s) (follows (λ x. is_in any_finished x) (λ x. not (is_in running x)) refl s a))
            (past (is_in only_created s) _ (not-true (is_in only_created s) (follows (λ x. is_in any_finished x) (λ x. not (is_in only_created x)) refl s a))
            (here (not (suspended s)) _ (follows (λ x. is_in any_finished x) (λ x. not (suspended x)) refl s a) ∙ stepped _ _ Step.Next (lost pc w) refl)))));
        close-running = λ f t.
            leads-to w _ ∙ (paid pc ok (Table.coro_close pc dst c src) w passes
            ∙ past (dead u v) _ (not_dead running v u f) (past (no_coroutine u v) _ (not-other running v u f) (here (is_in running s) _ (in-state running v u f) ∙ stepped _ _ (Step.Fault Fault.InvalidCoroState) (lost pc w) refl)));
        close-suspended = λ h t.
            let f = in_reach any_suspended v z h in let a = in-state any_suspended v z f in
            leads-to w _ ∙ (paid pc ok (Table.coro_close pc dst c src) w passes
            ∙ past (dead u v) _ (not_dead any_suspended v z f) (past (no_coroutine u v) _ (not-other any_suspended v z f) (past (is_in running s) _ (not-true (is_in running s) (follows (λ x. is_in any_suspended x) (λ x. not (is_in running x)) refl s a))
            (past (is_in only_created s) _ (not-true (is_in only_created s) (follows (λ x. is_in any_suspended x) (λ x. not (is_in only_created x)) refl s a)) (past (not (suspended s)) _ (ap not a) (past (too_high z v) _ (fits any_suspended v z h)
            (stepped _ _ (Step.Unwind (Fault.Throw (word u src))) (lost pc w) refl)))))));
        close-overflow = λ h t.
            let f = and_left (finds any_suspended v z) (too_high z v) h in let a = in-state any_suspended v z f in
            leads-to w _ ∙ (paid pc ok (Table.coro_close pc dst c src) w passes
            ∙ past (dead u v) _ (not_dead any_suspended v z f) (past (no_coroutine u v) _ (not-other any_suspended v z f) (past (is_in running s) _ (not-true (is_in running s) (follows (λ x. is_in any_suspended x) (λ x. not (is_in running x)) refl s a))
            (past (is_in only_created s) _ (not-true (is_in only_created s) (follows (λ x. is_in any_suspended x) (λ x. not (is_in only_created x)) refl s a)) (past (not (suspended s)) _ (ap not a)
            (here (too_high z v) _ (and_right (finds any_suspended v z) (too_high z v) h) ∙ stepped _ _ (Step.Fault Fault.StackOverflow) (lost pc w) refl))))));
      }

-- ---- next

module _ (pc has iter val src : ℕ) (w : World) (passes : pays pc (lie (has ∷ iter ∷ val ∷ src ∷ []) w) w ≡ true) (goes : is_done (found (charged pc w) (held iter pc w)) ≡ false) where
  abbrev ok' : Bool
  ok' = lie (has ∷ iter ∷ val ∷ src ∷ []) w

  abbrev u' : World
  u' = charged pc w

  abbrev z' : World
  z' = at pc w

  abbrev v' : ℕ
  v' = held src pc w

  abbrev s' : CoroState
  s' = state z' v'

  abbrev own : World → Lines Step
  own = Table.iter_next pc has iter val src

  abbrev yielded : List CoroState
  yielded = CoroState.Yielded ∷ []

  abbrev awaiting : List CoroState
  awaiting = CoroState.Awaiting ∷ []

  abbrev returned : List CoroState
  returned = CoroState.Returned ∷ []

  abbrev failed : List CoroState
  failed = CoroState.Failed ∷ []

  abbrev goes_on : List CoroState
  goes_on = CoroState.Created ∷ yielded

  -- neither done nor returned
  loops : is_in returned s' ≡ false → is_done (found u' (held iter pc w)) || is_in returned s' ≡ false
  loops e = ap (λ b. b || is_in returned s') goes ∙ e

  pub next : Next pc has iter val src w passes goes
  next =
      record {
        next-suspended = λ h t.
            let f = in_reach yielded v' z' h in let a = in-state yielded v' z' f in
            leads-to w _ ∙ (paid pc ok' own w passes
            ∙ past (dead u' v') _ (not_dead yielded v' z' f) (past (no_coroutine u' v') _ (not-other yielded v' z' f)
            (past (is_done (found u' (held iter pc w)) || is_in returned s') _ (loops (not-true (is_in returned s') (follows (λ x. is_in yielded x) (λ x. not (is_in returned x)) refl s' a)))
            (past (is_in awaiting s') _ (not-true (is_in awaiting s') (follows (λ x. is_in yielded x) (λ x. not (is_in awaiting x)) refl s' a)) (past (not (resumable s')) _ (ap not (follows (λ x. is_in yielded x) resumable refl s' a)) (past (too_high z' v') _ (fits yielded v' z' h)
            (moved _ Step.Frame (lost pc w) (past (is_in only_created s') _ (not-true (is_in only_created s') (follows (λ x. is_in yielded x) (λ x. not (is_in only_created x)) refl s' a)) refl) refl)))))));
        next-created = λ h t.
            let f = in_reach only_created v' z' h in let a = in-state only_created v' z' f in
            leads-to w _ ∙ (paid pc ok' own w passes
            ∙ past (dead u' v') _ (not_dead only_created v' z' f) (past (no_coroutine u' v') _ (not-other only_created v' z' f)
            (past (is_done (found u' (held iter pc w)) || is_in returned s') _ (loops (not-true (is_in returned s') (follows (λ x. is_in only_created x) (λ x. not (is_in returned x)) refl s' a)))
            (past (is_in awaiting s') _ (not-true (is_in awaiting s') (follows (λ x. is_in only_created x) (λ x. not (is_in awaiting x)) refl s' a)) (past (not (resumable s')) _ (ap not (follows (λ x. is_in only_created x) resumable refl s' a)) (past (too_high z' v') _ (fits only_created v' z' h)
            (moved _ Step.Frame (lost pc w) (here (is_in only_created s') _ a) refl)))))));
        next-returned = λ f t.
            leads-to w _ ∙ (paid pc ok' own w passes
            ∙ past (dead u' v') _ (not_dead returned v' u' f) (past (no_coroutine u' v') _ (not-other returned v' u' f)
            (here (is_done (found u' (held iter pc w)) || is_in returned s') _ (ap (λ b. b || is_in returned s') goes ∙ in-state returned v' u' f) ∙ stepped _ _ Step.Next (lost pc w) refl)));
        next-failed = λ f t.
            let a = in-state failed v' z' f in
            leads-to w _ ∙ (paid pc ok' own w passes
            ∙ past (dead u' v') _ (not_dead failed v' z' f) (past (no_coroutine u' v') _ (not-other failed v' z' f)
            (past (is_done (found u' (held iter pc w)) || is_in returned s') _ (loops (not-true (is_in returned s') (follows (λ x. is_in failed x) (λ x. not (is_in returned x)) refl s' a)))
            (past (is_in awaiting s') _ (not-true (is_in awaiting s') (follows (λ x. is_in failed x) (λ x. not (is_in awaiting x)) refl s' a))
            (here (not (resumable s')) _ (follows (λ x. is_in failed x) (λ x. not (resumable x)) refl s' a) ∙ stepped _ _ (Step.Fault Fault.InvalidCoroState) (lost pc w) refl)))));
        next-overflow = λ h t.
            let f = and_left (finds goes_on v' z') (too_high z' v') h in let a = in-state goes_on v' z' f in
            leads-to w _ ∙ (paid pc ok' own w passes
            ∙ past (dead u' v') _ (not_dead goes_on v' z' f) (past (no_coroutine u' v') _ (not-other goes_on v' z' f)
            (past (is_done (found u' (held iter pc w)) || is_in returned s') _ (loops (not-true (is_in returned s') (follows (λ x. is_in goes_on x) (λ x. not (is_in returned x)) refl s' a)))
            (past (is_in awaiting s') _ (not-true (is_in awaiting s') (follows (λ x. is_in goes_on x) (λ x. not (is_in awaiting x)) refl s' a)) (past (not (resumable s')) _ (ap not (follows (λ x. is_in goes_on x) resumable refl s' a))
            (here (too_high z' v') _ (and_right (finds goes_on v' z') (too_high z' v') h) ∙ stepped _ _ (Step.Fault Fault.StackOverflow) (lost pc w) refl))))));
      }
