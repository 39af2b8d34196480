-- The arms that enter: Resume, ResumeThrow, CoroClose, iter_next; and host entry.
use Prim.Native.Nat.{ℕ}
use mathlib.Core.Path.{◌≡◌, refl, sym, ap, ◌∙◌, subst}
use mathlib.Core.Bool.{Bool, true, false, not, ◌&&◌, ◌||◌}
use mathlib.Core.Option.{Option, none, some}
use Rattle.lists.specs.Pick.{pick, pick_true, pick-false}
use Rattle.heap.specs.Word.{nil}
use Rattle.heap.specs.declared.fault.Fault.{Fault}
use Rattle.heap.specs.declared.object.CoroState.{CoroState}
use Rattle.model.specs.Lists.{is_nil}
use Rattle.model.specs.State.{is_created, is_awaiting, is_returned, is_suspended, is_resumable}
use Rattle.model.specs.Object.{Core, Rest, Coroutine, Absent, Is, is_done}
use Rattle.model.specs.World.{World, After, and_then}
use Rattle.model.specs.Frames.{set_pc, reg, store_pc}
use Rattle.model.specs.Heap.{object, coro, not_a, change_coro, set_done}
use Rattle.model.specs.Coro.{state_as, in_state, ended, entered, overflows, coro_enter, coro_send, finish_coroutine}
use Rattle.model.specs.Cleanup.{coro_suspended, close}
use Rattle.model.specs.Exec as Exec
use Rattle.model.specs.Exec.{fault, arrive, resume, throw_entered, throw_to, resume_throw, close_entered, close_in, close_to, coro_close, iter_on, iter_next}
use Rattle.model.specs.declared.machine.Driver.{Driver}
use Rattle.std.specs.Prelude.{Result, Ok, Err}
use Rattle.model.specs.declared.coro.Entered.{Entered}
use Rattle.claims_model.specs.Says.{Sent, nothing, gets, closes}
use Rattle.claims_model.specs.Touches.{May, may}
use Rattle.claims_model.proofs.Entry.{enters, awaits, nobody, entry, accepts_as, accepts, sent_to}
use Rattle.claims_model.proofs.Held.{core_in, core_at}
use Rattle.claims_model.proofs.Cores.{no_both, busy, m-plain, m-undoing}
use Rattle.claims_model.proofs.Shape.{View, view, Stores, Worked, done, quiet, tops, puts, Enter, mode_by, anyway}
use Rattle.claims_model.proofs.Under.{keeps-pc}
use Rattle.claims_model.proofs.Enters.{EnterCase, e-in, e-out, enter-case, raw-none, raw-sent, raw-calm, raw-closed, enter-raw, Stored, coro-slots, accepts-stored}
use Rattle.claims_model.proofs.Instr.{Arm, a-works, a-enters}
use Rattle.claims_model.proofs.Quiet.{Calm, calm-worked, done-calm, finish-ends, unborn-ends, change-still}

-- ---- coro_enter with the caller's pc, and then a tail

stored : (p : ℕ) (v : World) → Stored p v (store_pc p v)
stored p v = record { setup = refl; stack = refl; frames = refl; chain = refl; slots = refl; used = refl }

-- the world that is left, where the word x is sent; where nothing is
abbrev pub sent_w : ℕ → World → Result Entered Fault → World
sent_w x w (Ok Entered.Fresh) = w
sent_w x w (Ok (Entered.Suspended d)) = coro_send d x w
sent_w x w (Err f) = w

abbrev pub tail_w : (World → World) → World → Result Entered Fault → World
tail_w g w (Ok Entered.Fresh) = g w
tail_w g w (Ok (Entered.Suspended d)) = g w
tail_w g w (Err f) = w

-- an entry was accepted and leaves z, or was refused
pub data Tried (m : Option May) (v : World) (p c : ℕ) (d : Driver) (s : Sent) (z : World) : Type 0 where
  t-in : accepts v c ≡ true → is_resumable (core_at v c).state ≡ true → Enter v p c d (sent_to (coro v c) s) z → Tried m v p c d s z
  t-out : accepts v c ≡ false → Worked m m-plain (view v) (view z) → Tried m v p c d s z

sent-pick : (b : Bool) (x y : ℕ) (w : World) → pick b w (coro_send y x w) ≡ sent_w x w (pick b (Ok Entered.Fresh) (Ok (Entered.Suspended y)))
unfolding pick
sent-pick true x y w = refl
sent-pick false x y w = refl

tail-pick : (b : Bool) (y : ℕ) (g : World → World) (w : World) → g w ≡ tail_w g w (pick b (Ok Entered.Fresh) (Ok (Entered.Suspended y)))
unfolding pick
tail-pick true y g w = refl
tail-pick false y g w = refl

pick-none : (b : Bool) → pick b nothing nothing ≡ nothing
unfolding pick
pick-none true = refl
pick-none false = refl

-- u is v with the caller's pc
pub try-at : {m : Option May} (v : World) (p c : ℕ) (d : Driver) (x : ℕ) (u : World) → Stored p v u → Worked m m-plain (view v) (view u) → let e = coro_enter c d u in Tried m v p c d (gets x) (sent_w x e.world e.answer)
try-at {m} v p c d x u s w = go (coro_enter c d u) (enter-case c d u)
  where
    same : coro v c ≡ coro u c
    same = sym (coro-slots u v s.slots c)

    go : (e : After (Result Entered Fault)) → EnterCase c d u e → Tried m v p c d (gets x) (sent_w x e.world e.answer)
    go e (e-out f h) = t-out (sym (accepts-stored s c) ∙ h) w
    go e (e-in k r h a b n) =
        t-in (sym (accepts-stored s c) ∙ a) (ap (λ y. is_resumable (core_in y).state) (same ∙ h) ∙ b)
        (subst (λ t. Enter v p c d t (sent_w x (entered c d k r u) (pick (is_created k.state) (Ok Entered.Fresh) (Ok (Entered.Suspended k.waiting))))) (sym (ap (λ y. sent_to y (gets x)) (same ∙ h)))
        (subst (Enter v p c d (pick (is_created k.state) nothing (gets x))) (sent-pick (is_created k.state) x k.waiting (entered c d k r u))
        (enter-raw k r s h b n (raw-sent c d u k r h x n (is_created k.state)))))

pub try-sent : {m : Option May} (v : World) (p c : ℕ) (d : Driver) (x : ℕ) → Stores m (set_pc p) → let e = coro_enter c d (store_pc p v) in Tried m v p c d (gets x) (sent_w x e.world e.answer)
try-sent v p c d x may = try-at v p c d x (store_pc p v) (stored p v) (tops (set_pc p) (keeps-pc p) may done)

pub try-silent : {m : Option May} (v : World) (p c : ℕ) (d : Driver) (g : World → World) → ((w : World) → Calm w (g w)) → Stores m (set_pc p) → let e = coro_enter c d (store_pc p v) in Tried m v p c d nothing (tail_w g e.world e.answer)
try-silent {m} v p c d g calm may = go (coro_enter c d u) (enter-case c d u)
  where
    u : World
    u = store_pc p v

    go : (e : After (Result Entered Fault)) → EnterCase c d u e → Tried m v p c d nothing (tail_w g e.world e.answer)
    go e (e-out f h) = t-out (sym (accepts-stored (stored p v) c) ∙ h) (tops (set_pc p) (keeps-pc p) may done)
    go e (e-in k r h a b n) =
        t-in (sym (accepts-stored (stored p v) c) ∙ a) (ap (λ y. is_resumable (core_in y).state) h ∙ b)
        (subst (λ s. Enter v p c d s (tail_w g i (pick (is_created k.state) (Ok Entered.Fresh) (Ok (Entered.Suspended k.waiting))))) (sym (ap (λ y. sent_to y nothing) h ∙ pick-none (is_created k.state)))
        (subst (Enter v p c d nothing) (tail-pick (is_created k.state) k.waiting g i)
        (enter-raw k r (stored p v) h b n (raw-calm (calm i) (raw-none c d u k r h)))))
      where
        i : World
        i = entered c d k r u

-- one that has begun is closed by x
pub try-closed : {m : Option May} (v : World) (p c : ℕ) (d : Driver) (x : ℕ) (k : Core) (r : Rest) → coro v c ≡ Is k r → is_created k.state ≡ false → Stores m (set_pc p)
    → let e = coro_enter c d (store_pc p v) in Tried m v p c d (closes x) (tail_w (change_coro c (λ k. k) (close x)) e.world e.answer)
try-closed {m} v p c d x k₀ r₀ here begun may = go (coro_enter c d u) (enter-case c d u)
  where
    u : World
    u = store_pc p v

    go : (e : After (Result Entered Fault)) → EnterCase c d u e → Tried m v p c d (closes x) (tail_w (change_coro c (λ k. k) (close x)) e.world e.answer)
    go e (e-out f h) = t-out (sym (accepts-stored (stored p v) c) ∙ h) (tops (set_pc p) (keeps-pc p) may done)
    go e (e-in k r h a b n) =
        t-in (sym (accepts-stored (stored p v) c) ∙ a) (ap (λ y. is_resumable (core_in y).state) h ∙ b)
        (subst (λ s. Enter v p c d s (tail_w (change_coro c (λ k. k) (close x)) i (pick (is_created k.state) (Ok Entered.Fresh) (Ok (Entered.Suspended k.waiting))))) (sym (ap (λ y. sent_to y (closes x)) here ∙ ap (λ t. pick t nothing (closes x)) begun ∙ pick-false nothing (closes x)))
        (subst (Enter v p c d (closes x)) (tail-pick (is_created k.state) k.waiting (change_coro c (λ k. k) (close x)) i)
        (enter-raw k r (stored p v) h b n (raw-closed c d u k r h x))))
      where
        i : World
        i = entered c d k r u

-- what an arm owes whose test `may` passes exactly if it tries
pub tried-arm : {m : Option May} {v z : World} {p c : ℕ} {d : Driver} {s : Sent} (may : Bool) → may ≡ true → Tried m v p c d s z → Arm m v p (enters c d s may) false z
tried-arm {m} {v} {z} {p} {c} {d} {s} may e (t-in a r t) = a-enters refl c d (sent_to (coro v c) s) (λ i. (ap (λ b. pick (b && accepts v c) (entry c d (sent_to (coro v c) s)) nobody) e
    ∙ ap (λ b. pick b (entry c d (sent_to (coro v c) s)) nobody) a ∙ pick_true (entry c d (sent_to (coro v c) s)) nobody) i) t
tried-arm {m} {v} {z} {p} {c} {d} {s} may e (t-out a t) = a-works refl (ap (λ b. pick (b && accepts v c) (entry c d (sent_to (coro v c) s)) nobody) e ∙ ap (λ b. pick b (entry c d (sent_to (coro v c) s)) nobody) a ∙ pick-false (entry c d (sent_to (coro v c) s)) nobody) (anyway t)

pub may-not : {m : Option May} {v z : World} {p c : ℕ} {d : Driver} {s : Sent} (may : Bool) → may ≡ false → Worked m (mode_by (enters c d s may)) (view v) (view z) → Arm m v p (enters c d s may) false z
may-not {v = v} {c = c} {d = d} {s = s} may e t = a-works refl (ap (λ b. pick (b && accepts v c) (entry c d (sent_to (coro v c) s)) nobody) e ∙ pick-false (entry c d (sent_to (coro v c) s)) nobody) t

-- ---- Resume

arrive-world : (x : ℕ) (w : World) (e : Result Entered Fault) → sent_w x w e ≡ (arrive x w e).world
arrive-world x w (Ok Entered.Fresh) = refl
arrive-world x w (Ok (Entered.Suspended d)) = refl
arrive-world x w (Err f) = refl

pub resume-arm : (p dst c src : ℕ) (v : World) → Arm (may (some p) none false) v p (enters (reg v c) (Driver.Resume dst) (gets (reg v src)) true) false (resume p dst c src v).world
unfolding resume
resume-arm p dst c src v =
    let e = coro_enter (reg v c) (Driver.Resume dst) (store_pc p v) in
    tried-arm true refl (subst (Tried (may (some p) none false) v p (reg v c) (Driver.Resume dst) (gets (reg v src))) (arrive-world (reg v src) e.world e.answer) (try-sent v p (reg v c) (Driver.Resume dst) (reg v src) (p, refl, refl)))

-- ---- ResumeThrow

susp-of : (s : CoroState) → is_created s ≡ false → is_resumable s ≡ is_suspended s
susp-of CoroState.Created e = no_both refl e
susp-of CoroState.Running e = refl
susp-of CoroState.Yielded e = refl
susp-of CoroState.Awaiting e = refl
susp-of CoroState.Returned e = refl
susp-of CoroState.Failed e = refl

pub created-susp : (s : CoroState) → is_created s ≡ true → is_suspended s ≡ false
created-susp CoroState.Created e = refl
created-susp CoroState.Running e = refl
created-susp CoroState.Yielded e = sym e
created-susp CoroState.Awaiting e = sym e
created-susp CoroState.Returned e = refl
created-susp CoroState.Failed e = refl

calm-none : (w : World) → Calm w w
calm-none w = record { setup = refl; stack = refl; frames = refl; chain = refl; cores = λ c. refl }

thrown-world : (x : ℕ) (w : World) (e : Result Entered Fault) → tail_w (λ y. y) w e ≡ (throw_entered x w e).world
thrown-world x w (Ok Entered.Fresh) = refl
thrown-world x w (Ok (Entered.Suspended d)) = refl
thrown-world x w (Err f) = refl

-- a coroutine that has not begun ends
kill-worked : {m : Option May} (c : ℕ) (s : CoroState) (x : ℕ) (v : World) → busy s ≡ false → is_created s ≡ false → is_created (core_at v c).state ≡ true → {z : View} → Worked m (m-undoing c) (view (finish_coroutine c s x v)) z → Worked m (m-undoing c) (view v) z
kill-worked {m} c s x v b n h {z} t =
    let g = change-still v c (in_state s) (ended x) in
    quiet (core_at (finish_coroutine c s x v)) (unborn-ends c s (core_at v) (core_at (finish_coroutine c s x v)) b n h (finish-ends c s x v))
    (subst (λ y. Worked m (m-undoing c) y z) (λ i. record { setup = g.setup i; stack = g.stack i; frames = g.frames i; chain = g.chain i; cores = core_at (finish_coroutine c s x v) }) t)

-- an arm that tries where the coroutine is suspended; b: whether it is
tried-susp : {m : Option May} {v z : World} {p c : ℕ} {d : Driver} {s : Sent} (b : Bool) → coro_suspended (coro v c) ≡ b → (is_resumable (core_at v c).state ≡ true → b ≡ true) → Tried m v p c d s z → Arm m v p (enters c d s (coro_suspended (coro v c))) false z
tried-susp {v = v} {c = c} true e h t = tried-arm (coro_suspended (coro v c)) e t
tried-susp {v = v} {c = c} false e h (t-in a r t) = no_both (h r) refl
tried-susp {v = v} {c = c} false e h (t-out a t) = may-not (coro_suspended (coro v c)) e (anyway t)

pub throw-arm : (p dst c src : ℕ) (v : World) → Arm (may (some p) none false) v p (enters (reg v c) (Driver.Resume dst) nothing (coro_suspended (coro v (reg v c)))) false (resume_throw p dst c src v).world
unfolding resume_throw pick
throw-arm p dst c src v = go (coro v n) refl
  where
    n : ℕ
    n = reg v c

    x : ℕ
    x = reg v src

    d : Driver
    d = Driver.Resume dst

    tried : Tried (may (some p) none false) v p n d nothing (and_then (coro_enter n d (store_pc p v)) (throw_entered x)).world
    tried = let e = coro_enter n d (store_pc p v) in subst (Tried (may (some p) none false) v p n d nothing) (thrown-world x e.world e.answer) (try-silent v p n d (λ y. y) calm-none (p, refl, refl))

    test : (k : Core) (r : Rest) → coro v n ≡ Is k r → (b : Bool) → is_created k.state ≡ b
        → Arm (may (some p) none false) v p (enters n d nothing (coro_suspended (coro v n))) false (pick b (fault (finish_coroutine n CoroState.Failed x v) (Fault.Throw x)) (and_then (coro_enter n d (store_pc p v)) (throw_entered x))).world
    test k r e true h = may-not (coro_suspended (coro v n)) (ap coro_suspended e ∙ created-susp k.state h) (kill-worked n CoroState.Failed x v refl refl (ap (λ y. is_created (core_in y).state) e ∙ h) done)
    test k r e false h = tried-susp (is_suspended k.state) (ap coro_suspended e) (λ q. sym (susp-of k.state h) ∙ sym (ap (λ y. is_resumable (core_in y).state) e) ∙ q) tried

    go : (y : Coroutine) → coro v n ≡ y → Arm (may (some p) none false) v p (enters n d nothing (coro_suspended (coro v n))) false (throw_to (state_as y (not_a v n)) p dst n x v).world
    go Absent e = may-not (coro_suspended (coro v n)) (ap coro_suspended e) done
    go (Is k r) e = test k r e (is_created k.state) refl

-- ---- CoroClose

closing-world : (c x : ℕ) (w : World) (e : Result Entered Fault) → tail_w (change_coro c (λ k. k) (close x)) w e ≡ (close_entered c x w e).world
closing-world c x w (Ok Entered.Fresh) = refl
closing-world c x w (Ok (Entered.Suspended d)) = refl
closing-world c x w (Err f) = refl

pub close-arm : (p dst c src : ℕ) (v : World) → Arm (may (some p) (some dst) false) v p (enters (reg v c) (Driver.Resume dst) (closes (reg v src)) (coro_suspended (coro v (reg v c)))) false (coro_close p dst c src v).world
unfolding coro_close
close-arm p dst c src v = go (coro v n) refl
  where
    n : ℕ
    n = reg v c

    x : ℕ
    x = reg v src

    d : Driver
    d = Driver.Resume dst

    tried : (k : Core) (r : Rest) → coro v n ≡ Is k r → is_created k.state ≡ false → Tried (may (some p) (some dst) false) v p n d (closes x) (close_in p dst n x v).world
    tried k r h b = let e = coro_enter n d (store_pc p v) in subst (Tried (may (some p) (some dst) false) v p n d (closes x)) (closing-world n x e.world e.answer) (try-closed v p n d x k r h b (p, refl, refl))

    states : (k : Core) (r : Rest) → coro v n ≡ Is k r → (s : CoroState) → k.state ≡ s → Arm (may (some p) (some dst) false) v p (enters n d (closes x) (coro_suspended (coro v n))) false (close_to (Ok s) p dst n x v).world
    states k r e CoroState.Created h = may-not (coro_suspended (coro v n)) (ap coro_suspended e ∙ ap is_suspended h) (kill-worked n CoroState.Returned nil v refl refl (ap (λ y. is_created (core_in y).state) e ∙ ap is_created h) (puts dst nil refl done))
    states k r e CoroState.Running h = may-not (coro_suspended (coro v n)) (ap coro_suspended e ∙ ap is_suspended h) done
    states k r e CoroState.Yielded h = tried-arm (coro_suspended (coro v n)) (ap coro_suspended e ∙ ap is_suspended h) (tried k r e (ap is_created h))
    states k r e CoroState.Awaiting h = tried-arm (coro_suspended (coro v n)) (ap coro_suspended e ∙ ap is_suspended h) (tried k r e (ap is_created h))
    states k r e CoroState.Returned h = may-not (coro_suspended (coro v n)) (ap coro_suspended e ∙ ap is_suspended h) (puts dst nil refl done)
    states k r e CoroState.Failed h = may-not (coro_suspended (coro v n)) (ap coro_suspended e ∙ ap is_suspended h) (puts dst nil refl done)

    go : (y : Coroutine) → coro v n ≡ y → Arm (may (some p) (some dst) false) v p (enters n d (closes x) (coro_suspended (coro v n))) false (close_to (state_as y (not_a v n)) p dst n x v).world
    go Absent e = may-not (coro_suspended (coro v n)) (ap coro_suspended e) done
    go (Is k r) e = states k r e k.state refl

-- ---- iter_next

refused-arm : {m : Option May} {v z : World} {p c : ℕ} {d : Driver} {s : Sent} (may : Bool) → accepts v c ≡ false → Worked m (mode_by (enters c d s may)) (view v) (view z) → Arm m v p (enters c d s may) false z
refused-arm {v = v} {c = c} {d = d} {s = s} true a t = a-works refl (ap (λ b. pick b (entry c d (sent_to (coro v c) s)) nobody) a ∙ pick-false (entry c d (sent_to (coro v c) s)) nobody) t
refused-arm {v = v} {c = c} {d = d} {s = s} false a t = a-works refl (pick-false (entry c d (sent_to (coro v c) s)) nobody) t

pub returned-not : (s : CoroState) → is_returned s ≡ true → is_resumable s ≡ false
returned-not CoroState.Created e = sym e
returned-not CoroState.Running e = refl
returned-not CoroState.Yielded e = sym e
returned-not CoroState.Awaiting e = sym e
returned-not CoroState.Returned e = refl
returned-not CoroState.Failed e = refl

-- a turn of the loop over the iterator x may enter its source n
abbrev pub may_turn : ℕ → ℕ → World → Bool
may_turn x n v = not (is_done (object v x)) && not (awaits (coro v n))

turn-arm : (p has x val n : ℕ) (v : World) → Arm (may (some p) (some has) false) v p (enters n (Driver.Iter has val x) (gets nil) (may_turn x n v)) false (iter_on (state_as (coro v n) (not_a v n)) p has x val n v).world
unfolding pick
turn-arm p has x val n v = go (coro v n) refl
  where
    d : Driver
    d = Driver.Iter has val x

    tried : Tried (may (some p) (some has) false) v p n d (gets nil) (and_then (coro_enter n d (store_pc p v)) (arrive nil)).world
    tried = let e = coro_enter n d (store_pc p v) in subst (Tried (may (some p) (some has) false) v p n d (gets nil)) (arrive-world nil e.world e.answer) (try-sent v p n d nil (p, refl, refl))

    over : Worked (may (some p) (some has) false) m-plain (view v) (view (Exec.put has 0 (set_done x v)).world)
    over = calm-worked (done-calm x v) (puts has 0 refl done)

    tests : (k : Core) (r : Rest) → coro v n ≡ Is k r → (a b c : Bool) → is_done (object v x) ≡ a → is_returned k.state ≡ b → is_awaiting k.state ≡ c
        → Arm (may (some p) (some has) false) v p (enters n d (gets nil) (may_turn x n v)) false (pick (a || b) (Exec.put has 0 (set_done x v)) (pick c (fault v Fault.TypeError) (and_then (coro_enter n d (store_pc p v)) (arrive nil)))).world
    tests k r e true b c q s t = may-not (may_turn x n v) (ap (λ y. not y && not (awaits (coro v n))) q) over
    tests k r e false true c q s t = refused-arm (may_turn x n v) (ap (λ y. accepts_as y v) e ∙ ap (λ y. y && not (is_nil k.frames) && not (overflows k v)) (returned-not k.state s)) over
    tests k r e false false true q s t = may-not (may_turn x n v) (ap (λ y. not y && not (awaits (coro v n))) q ∙ ap (λ y. not (awaits y)) e ∙ ap not t) done
    tests k r e false false false q s t = tried-arm (may_turn x n v) (ap (λ y. not y && not (awaits (coro v n))) q ∙ ap (λ y. not (awaits y)) e ∙ ap not t) tried

    go : (y : Coroutine) → coro v n ≡ y → Arm (may (some p) (some has) false) v p (enters n d (gets nil) (may_turn x n v)) false (iter_on (state_as y (not_a v n)) p has x val n v).world
    go Absent e = refused-arm (may_turn x n v) (ap (λ y. accepts_as y v) e) done
    go (Is k r) e = tests k r e (is_done (object v x)) (is_returned k.state) (is_awaiting k.state) refl refl refl

pub iter-arm : (p has iter val src : ℕ) (v : World)
    → Arm (may (some p) (some has) false) v p (enters (reg v src) (Driver.Iter has val (reg v iter)) (gets nil) (may_turn (reg v iter) (reg v src) v)) false (iter_next p has iter val src v).world
unfolding iter_next
iter-arm p has iter val src v = turn-arm p has (reg v iter) val (reg v src) v
