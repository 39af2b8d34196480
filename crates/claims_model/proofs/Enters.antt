-- coro_enter and the charge: what they leave, in the form of an entry.
use Prim.Native.Nat.{ℕ, zero, suc, ◌+◌}
use native.Mathlib.Omega.{arith}
use mathlib.Core.Path.{◌≡◌, refl, sym, ap, ◌∙◌, subst}
use mathlib.Core.Logic.{◌≢◌}
use mathlib.Core.Bool.{Bool, true, false, not, ◌&&◌, ◌||◌}
use mathlib.Core.List.{List, [], ◌∷◌, ◌++◌, map}
use mathlib.Core.Option.{none, some}
use lib.ListN.{length, set}
use lib.Dec.{eqb, ltb}
use Rattle.lists.specs.Pick.{pick, pick_true, pick-false}
use Rattle.heap.specs.Word.{nil}
use Rattle.heap.specs.declared.fault.Fault.{Fault}
use Rattle.heap.specs.declared.object.CoroState.{CoroState}
use Rattle.model.specs.Lists.{is_nil}
use Rattle.model.specs.State.{is_created, is_running, is_resumable}
use Rattle.model.specs.Object.{Core, Rest, Coroutine, Absent, Is}
use Rattle.model.specs.World.{World, After, after, with_finalize}
use Rattle.model.specs.Frames.{on_top, set_pc, step_pc, raise, top_base, put_at, store_pc}
use Rattle.model.specs.Heap.{coro, not_a, set_coro, change_as, change_coro}
use Rattle.model.specs.Fuel.{set_finalizing, unbank, arm_close, spend}
use Rattle.model.specs.Coro.{sized, active, in_state, entered, overflows, enter_as, coro_enter, coro_send}
use Rattle.model.specs.Cleanup.{coro_suspended, is_entered, close, started, start_from, start_finalizer, charge_done, charge_or, charge_at, charge_slow, charge}
use Rattle.model.specs.declared.machine.Driver.{Driver}
use Rattle.model.specs.declared.machine.Frame.{Frame}
use Rattle.model.specs.declared.machine.Charge.{Charge}
use Rattle.std.specs.Prelude.{Result, Some, None, Ok, Err}
use Rattle.model.specs.declared.coro.Entered.{Entered}
use Rattle.model.specs.declared.coro.Started.{Started}
use Rattle.claims_model.specs.Says.{Sent, nothing, gets, closes}
use Rattle.claims_model.specs.Held.{closed_by}
use Rattle.claims_model.proofs.Entry.{nobody, entry, accepts_as, accepts, cleaned}
use Rattle.claims_model.proofs.Held.{Seat, closing_of, seat, core_in, core_at, words_with, frames_with}
use Rattle.claims_model.proofs.Cores.{no_both, coro_in, and_right, set-mine, set_other}
use Rattle.claims_model.proofs.Shape.{Enter}
use Rattle.claims_model.proofs.Quiet.{Same, Calm}

-- ---- coro_enter accepts, or leaves all as it was

pub data EnterCase (v : ℕ) (d : Driver) (u : World) : After (Result Entered Fault) → Type 0 where
  e-in : (k : Core) (r : Rest) → coro u v ≡ Is k r → accepts u v ≡ true → is_resumable k.state ≡ true → is_nil k.frames ≡ false
      → EnterCase v d u (after (entered v d k r u) (pick (is_created k.state) (Ok Entered.Fresh) (Ok (Entered.Suspended k.waiting))))
  e-out : (f : Fault) → accepts u v ≡ false → EnterCase v d u (after u (Err f))

pub enter-case : (v : ℕ) (d : Driver) (u : World) → EnterCase v d u (coro_enter v d u)
unfolding coro_enter pick
enter-case v d u = go (coro u v) refl
  where
    go : (x : Coroutine) → coro u v ≡ x → EnterCase v d u (enter_as x v d u)
    go Absent e = e-out (not_a u v) (ap (λ x. accepts_as x u) e)
    go (Is k r) e = tests (is_resumable k.state) (is_nil k.frames) (overflows k u) refl refl refl
      where
        tests : (a b c : Bool) → is_resumable k.state ≡ a → is_nil k.frames ≡ b → overflows k u ≡ c
            → EnterCase v d u (pick (not a || b) (after u (Err Fault.InvalidCoroState)) (pick c (after u (Err Fault.StackOverflow)) (after (entered v d k r u) (pick (is_created k.state) (Ok Entered.Fresh) (Ok (Entered.Suspended k.waiting))))))
        tests false b c p q o = e-out Fault.InvalidCoroState (ap (λ x. accepts_as x u) e ∙ rw p)
        tests true true c p q o = e-out Fault.InvalidCoroState (ap (λ x. accepts_as x u) e ∙ rw (p, q))
        tests true false true p q o = e-out Fault.StackOverflow (ap (λ x. accepts_as x u) e ∙ rw (p, q, o))
        tests true false false p q o = e-in k r e (ap (λ x. accepts_as x u) e ∙ rw (p, q, o)) p q

-- ---- an entry of v, which holds s, at u, whose frames have the caller's pc already

pub record Raw (u : World) (v : ℕ) (s : Seat) (d : Driver) (sent : Sent) (z : World) : Type 0 where
  pub setup : z.setup ≡ u.setup
  pub stack : z.stack ≡ u.stack ++ words_with sent s
  pub frames : z.frames ≡ map (raise (length u.stack)) (frames_with sent s) ++ u.frames
  pub chain : z.chain ≡ active v (length u.frames) d ∷ u.chain
  pub mine : is_running (core_at z v).state ≡ true
  pub closing : (core_at z v).closing ≡ closed_by sent s.closing
  pub others : (x : ℕ) → x ≢ v → core_at z x ≡ core_at u x

pub set-append-at : (xs ys : List ℕ) (n i a : ℕ) → n ≡ length xs + i → set (xs ++ ys) n a ≡ xs ++ set ys i a
set-append-at [] ys n i a h = let e : n ≡ i = omega arith in ap (λ x. set ys x a) e
set-append-at (x ∷ xs) ys zero i a h = absurd (omega arith)
set-append-at (x ∷ xs) ys (suc n) i a h = ap (λ (l : List ℕ). x ∷ l) (set-append-at xs ys n i a (omega arith))

module _ (v : ℕ) (d : Driver) (u : World) (k : Core) (r : Rest) (e : coro u v ≡ Is k r) where
  raw-mine : is_running (core_at (entered v d k r u) v).state ≡ true
  raw-mine = ap (λ x. is_running (core_in x).state) (set-mine u.slots v e (in_state CoroState.Running k) (sized k r))

  raw-others : (x : ℕ) → x ≢ v → core_at (entered v d k r u) x ≡ core_at u x
  raw-others x n = set_other u.slots v e (in_state CoroState.Running k) (sized k r) x n

  raw-closing : (core_at (entered v d k r u) v).closing ≡ closing_of r
  raw-closing = ap (λ x. (core_in x).closing) (set-mine u.slots v e (in_state CoroState.Running k) (sized k r))

  pub raw-none : Raw u v (seat k r) d nothing (entered v d k r u)
  raw-none = record { setup = refl; stack = refl; frames = refl; chain = refl; mine = raw-mine; closing = raw-closing; others = raw-others }

  pub raw-some : (x : ℕ) → is_nil k.frames ≡ false → Raw u v (seat k r) d (gets x) (coro_send k.waiting x (entered v d k r u))
  raw-some x n = record { setup = refl; stack = words k.frames n; frames = tops k.frames n; chain = refl; mine = raw-mine; closing = raw-closing; others = raw-others }
    where
      words : (fs : List Frame) → is_nil fs ≡ false → put_at (map (raise (length u.stack)) fs ++ u.frames) k.waiting x (u.stack ++ k.regs) ≡ u.stack ++ set k.regs (top_base fs + k.waiting) x
      words [] n = no_both refl n
      words (f ∷ fs) n = set-append-at u.stack k.regs (f.base + length u.stack + k.waiting) (f.base + k.waiting) x (omega arith)

      tops : (fs : List Frame) → is_nil fs ≡ false → on_top step_pc (map (raise (length u.stack)) fs ++ u.frames) ≡ map (raise (length u.stack)) (on_top step_pc fs) ++ u.frames
      tops [] n = no_both refl n
      tops (f ∷ fs) n = refl

  -- and is closed by x
  pub raw-closed : (x : ℕ) → Raw u v (seat k r) d (closes x) (change_coro v (λ k. k) (close x) (entered v d k r u))
  raw-closed x = subst (λ y. Raw u v (seat k r) d (closes x) (change_as y v (λ k. k) (close x) i)) (sym here) (record {
    setup = refl;
    stack = refl;
    frames = refl;
    chain = refl;
    mine = ap (λ y. is_running (core_in y).state) mine;
    closing = ap (λ y. (core_in y).closing) mine ∙ pick_true (some x) none;
    others = λ y n. set_other i.slots v here (in_state CoroState.Running k) (close x (sized k r)) y n ∙ raw-others y n;
  })
    where
      i : World
      i = entered v d k r u

      here : coro i v ≡ Is (in_state CoroState.Running k) (sized k r)
      here = set-mine u.slots v e (in_state CoroState.Running k) (sized k r)

      mine : coro (set_coro v (in_state CoroState.Running k) (close x (sized k r)) i) v ≡ Is (in_state CoroState.Running k) (close x (sized k r))
      mine = set-mine i.slots v here (in_state CoroState.Running k) (close x (sized k r))

  -- where the sent word depends on the state
  pub raw-sent : (x : ℕ) → is_nil k.frames ≡ false → (b : Bool) → Raw u v (seat k r) d (pick b nothing (gets x)) (pick b (entered v d k r u) (coro_send k.waiting x (entered v d k r u)))
  unfolding pick
  raw-sent x n true = raw-none
  raw-sent x n false = raw-some x n

-- then, what touches no core
pub raw-calm : {u z y : World} {v : ℕ} {s : Seat} {d : Driver} {sent : Sent} → Calm z y → Raw u v s d sent z → Raw u v s d sent y
raw-calm {v = v} q t =
    record {
      setup = q.setup ∙ t.setup;
      stack = q.stack ∙ t.stack;
      frames = q.frames ∙ t.frames;
      chain = q.chain ∙ t.chain;
      mine = ap (λ k. is_running k.state) (q.cores v) ∙ t.mine;
      closing = ap (λ k. k.closing) (q.cores v) ∙ t.closing;
      others = λ x n. q.cores x ∙ t.others x n;
    }

-- u is w with the caller's pc stored
pub record Stored (p : ℕ) (w u : World) : Type 0 where
  pub setup : u.setup ≡ w.setup
  pub stack : u.stack ≡ w.stack
  pub frames : u.frames ≡ on_top (set_pc p) w.frames
  pub chain : u.chain ≡ w.chain
  pub slots : u.slots ≡ w.slots
  pub used : u.used ≡ w.used

pub length-top : (g : Frame → Frame) (fs : List Frame) → length (on_top g fs) ≡ length fs
length-top g [] = refl
length-top g (f ∷ fs) = refl

pub coro-slots : (u w : World) → u.slots ≡ w.slots → (v : ℕ) → coro u v ≡ coro w v
coro-slots u w e v = ap (λ xs. coro_in xs v) e

pub enter-raw : {p : ℕ} {w u z : World} {v : ℕ} {d : Driver} {sent : Sent} (k : Core) (r : Rest) → Stored p w u → coro u v ≡ Is k r → is_resumable k.state ≡ true → is_nil k.frames ≡ false → Raw u v (seat k r) d sent z → Enter w p v d sent z
enter-raw {p} {w} {u} {z} {v} {d} {sent} k r s e a b t =
    record {
      setup = t.setup ∙ s.setup;
      ready = ap (λ x. is_resumable x.state) mine ∙ a;
      solid = ap (λ x. is_nil x.frames) mine ∙ b;
      stack = t.stack ∙ ap (λ x. x ++ words_with sent (seat k r)) s.stack ∙ ap (λ x. w.stack ++ words_with sent x) (sym mine);
      frames = t.frames ∙ ap (λ x. map (raise (length x)) (frames_with sent (seat k r)) ++ u.frames) s.stack ∙ ap (λ x. map (raise (length w.stack)) (frames_with sent (seat k r)) ++ x)
          s.frames ∙ ap (λ x. map (raise (length w.stack)) (frames_with sent x) ++ on_top (set_pc p) w.frames) (sym mine);
      chain = t.chain ∙ ap (λ x. active v x d ∷ u.chain) (ap length s.frames ∙ length-top (set_pc p) w.frames) ∙ ap (λ x. active v (length w.frames) d ∷ x) s.chain;
      mine = t.mine;
      closing = t.closing ∙ ap (λ x. closed_by sent x.closing) (sym mine);
      others = λ x n. t.others x n ∙ ap core_in (coro-slots u w s.slots x);
    }
  where
    mine : core_at w v ≡ seat k r
    mine = ap core_in (sym (coro-slots u w s.slots v) ∙ e)

-- coro_enter's tests read the limits, the heights and the coroutine
pub accepts-reads : (w u : World) → u.setup ≡ w.setup → length u.frames ≡ length w.frames → u.stack ≡ w.stack → u.slots ≡ w.slots → (v : ℕ) → accepts u v ≡ accepts w v
accepts-reads w u a b c e v = go (coro u v) ∙ ap (λ x. accepts_as x w) (coro-slots u w e v)
  where
    over : (k : Core) → overflows k u ≡ overflows k w
    over k = λ i. ltb (a i).limits.depth (b i + length k.frames) || ltb (a i).limits.stack (length (c i) + length k.regs)

    go : (x : Coroutine) → accepts_as x u ≡ accepts_as x w
    go Absent = refl
    go (Is k r) = ap (λ b. is_resumable k.state && not (is_nil k.frames) && not b) (over k)

pub accepts-stored : {p : ℕ} {w u : World} → Stored p w u → (v : ℕ) → accepts u v ≡ accepts w v
accepts-stored {p} {w} {u} s v = accepts-reads w u s.setup (ap length s.frames ∙ length-top (set_pc p) w.frames) s.stack s.slots v

pub cleaned-stored : {p : ℕ} {w u : World} → Stored p w u → (q : List ℕ) → cleaned q u ≡ cleaned q w
cleaned-stored s [] = refl
cleaned-stored {p} {w} {u} s (c ∷ q) = λ i. pick (coro_suspended (coro-slots u w s.slots c i) && accepts-stored s c i) (entry c Driver.Finalize (closes nil)) (cleaned-stored s q i)

-- ---- start_finalizer, at u, which is w with the caller's pc

pub data StartCase (p : ℕ) (w u : World) (q : List ℕ) : After Started → Type 0 where
  s-some : (c n : ℕ) (z : World) → cleaned q u ≡ entry c Driver.Finalize (closes nil) → Enter w p c Driver.Finalize (closes nil) z → StartCase p w u q (after z (started true n))
  s-none : (n : ℕ) (v : World) → cleaned q u ≡ nobody → Stored p w v → StartCase p w u q (after v (started false n))

pub is-in : (b : Bool) (x : ℕ) → is_entered (pick b (Ok Entered.Fresh) (Ok (Entered.Suspended x))) ≡ true
unfolding pick
is-in true x = refl
is-in false x = refl

pub start-case : (p : ℕ) (w u : World) → Stored p w u → (n : ℕ) (q : List ℕ) → StartCase p w u q (start_from n q u)
start-case p w u s n [] = s-none n (set_finalizing false (with_finalize [] u)) refl (record { setup = s.setup; stack = s.stack; frames = s.frames; chain = s.chain; slots = s.slots; used = s.used })
start-case p w u s n (c ∷ q) = go (coro_enter c Driver.Finalize (with_finalize q u)) (enter-case c Driver.Finalize (with_finalize q u)) (start-case p w u s (suc n) q)
  where
    v : World
    v = with_finalize q u

    sv : Stored p w v
    sv = record { setup = s.setup; stack = s.stack; frames = s.frames; chain = s.chain; slots = s.slots; used = s.used }

    same : (x : Coroutine) → accepts_as x v ≡ accepts_as x u
    same Absent = refl
    same (Is k r) = refl

    later : (a : After Started) → StartCase p w u q a → cleaned (c ∷ q) u ≡ cleaned q u → StartCase p w u (c ∷ q) a
    later a (s-some c n z e t) h = s-some c n z (h ∙ e) t
    later a (s-none n v e t) h = s-none n v (h ∙ e) t

    choose : (a b : Bool) (x y : After Started) → (coro_suspended (coro u c) && a) ≡ b → accepts u c ≡ a → (b ≡ true → cleaned (c ∷ q) u ≡ entry c Driver.Finalize (closes nil) → StartCase p w u (c ∷ q) x) → StartCase p w u q y → StartCase p w u (c ∷ q) (pick b x y)
    choose a true x y e h f g = subst (StartCase p w u (c ∷ q)) (sym (pick_true x y)) (f refl (ap
        (λ b. pick (coro_suspended (coro u c) && b) (entry c Driver.Finalize (closes nil)) (cleaned q u)) h ∙ ap (λ b. pick b (entry c Driver.Finalize (closes nil)) (cleaned q u)) e ∙ pick_true
        (entry c Driver.Finalize (closes nil)) (cleaned q u)))
    choose a false x y e h f g = subst (StartCase p w u (c ∷ q)) (sym (pick-false x y)) (later y g
        (ap (λ b. pick (coro_suspended (coro u c) && b) (entry c Driver.Finalize (closes nil)) (cleaned q u)) h ∙ ap (λ b. pick b (entry c Driver.Finalize (closes nil)) (cleaned q u)) e ∙ pick-false (entry c Driver.Finalize (closes nil)) (cleaned q u)))

    go : (e : After (Result Entered Fault)) → EnterCase c Driver.Finalize v e → StartCase p w u q (start_from (suc n) q u)
        → StartCase p w u (c ∷ q) (pick (coro_suspended (coro u c) && is_entered e.answer) (after (set_finalizing true (change_coro c (λ k. k) (close nil) e.world)) (started true (suc n))) (start_from (suc n) q u))
    go e (e-out f h) g = choose false (coro_suspended (coro u c) && false) _ _ refl (sym (same (coro u c)) ∙ h) (λ b. no_both (and_right (coro_suspended (coro u c)) false b) refl) g
    go e (e-in k r h a b m) g =
        subst (λ y. StartCase p w u (c ∷ q) (pick (coro_suspended (coro u c) && y) (after (set_finalizing true (change_coro c (λ k. k) (close nil) (entered c Driver.Finalize k r v))) (started true (suc n))) (start_from (suc n) q u))) (sym (is-in (is_created k.state) k.waiting))
        (choose true (coro_suspended (coro u c) && true) _ _ refl (sym (same (coro u c)) ∙ a) (λ y z. s-some c (suc n) _ z (enter-raw k r sv h b m calm)) g)
      where
        i : World
        i = entered c Driver.Finalize k r v

        calm : Raw v c (seat k r) Driver.Finalize (closes nil) (set_finalizing true (change_coro c (λ k. k) (close nil) i))
        calm = let t = raw-closed c Driver.Finalize v k r h nil in record { setup = t.setup; stack = t.stack; frames = t.frames; chain = t.chain; mine = t.mine; closing = t.closing; others = t.others }

-- ---- the charge

-- v is w after a charge that started nothing: as it was, or with the caller's pc
pub data Ready (p : ℕ) (w v : World) : Type 0 where
  r-same : v.setup ≡ w.setup → v.stack ≡ w.stack → v.frames ≡ w.frames → v.chain ≡ w.chain → v.slots ≡ w.slots → v.used ≡ w.used → Ready p w v
  r-stored : Stored p w v → Ready p w v

pub data ChargeCase (p : ℕ) (w : World) : After Charge → Type 0 where
  c-done : (n : ℕ) (v : World) → Ready p w v → ChargeCase p w (after v (Charge.Done n))
  c-spent : (v : World) → Ready p w v → ChargeCase p w (after v Charge.Spent)
  c-close : (n c : ℕ) (z : World) → cleaned w.finalize w ≡ entry c Driver.Finalize (closes nil) → Enter w p c Driver.Finalize (closes nil) z → ChargeCase p w (after z (Charge.Close n))

pub charge-case : (p : ℕ) (w : World) → ChargeCase p w (charge (Some p) w)
unfolding charge charge_slow start_finalizer pick
charge-case p w = fast (eqb w.fuel.fuel 0)
  where
    u : World
    u = unbank (store_pc p (unbank w))

    su : Stored p w u
    su = record { setup = refl; stack = refl; frames = refl; chain = refl; slots = refl; used = refl }

    start : (a : After Started) → StartCase p w u w.finalize a → ChargeCase p w (charge_or a)
    start a (s-some c n z e t) = c-close n c z (sym (cleaned-stored su w.finalize) ∙ e) t
    start a (s-none n v e t) = c-done n (arm_close (spend v)) (r-stored (record { setup = t.setup; stack = t.stack; frames = t.frames; chain = t.chain; slots = t.slots; used = t.used }))

    ready : (b : Bool) → ChargeCase p w (pick b (charge_or (start_from 0 w.finalize u)) (charge_done 0 (unbank w)))
    ready true = start (start_from 0 w.finalize u) (start-case p w u su 0 w.finalize)
    ready false = c-done 0 (arm_close (spend (unbank w))) (r-same refl refl refl refl refl refl)

    slow : (b : Bool) → ChargeCase p w (pick b (after (unbank w) Charge.Spent) (charge_at (Some p) (unbank w)))
    slow true = c-spent (unbank w) (r-same refl refl refl refl refl refl)
    slow false = ready (unbank w).fuel.ready

    fast : (b : Bool) → ChargeCase p w (pick b (charge_slow (Some p) w) (after (spend w) (Charge.Done 0)))
    fast true = slow (eqb (unbank w).fuel.fuel 0)
    fast false = c-done 0 (spend w) (r-same refl refl refl refl refl refl)

-- without a pc nothing is touched but fuel
pub charge-none : (w : World) → Same w (charge None w).world
unfolding charge charge_slow pick
charge-none w = fast (eqb w.fuel.fuel 0)
  where
    slow : (b : Bool) → Same w (pick b (after (unbank w) Charge.Spent) (charge_at None (unbank w))).world
    slow true = record { setup = refl; stack = refl; frames = refl; chain = refl; coros = λ c. refl }
    slow false = record { setup = refl; stack = refl; frames = refl; chain = refl; coros = λ c. refl }

    fast : (b : Bool) → Same w (pick b (charge_slow None w) (after (spend w) (Charge.Done 0))).world
    fast true = slow (eqb (unbank w).fuel.fuel 0)
    fast false = record { setup = refl; stack = refl; frames = refl; chain = refl; coros = λ c. refl }
