-- An engine that follows another keeps what the other promises, field by field. Assumes nothing.
use Prim.Native.Nat.{ℕ, ◌+◌, ◌-◌, ◌*◌}
use mathlib.Core.Path.{◌≡◌, sym, ap, ◌∙◌, subst}
use mathlib.Core.Logic.{◌⊎◌}
use mathlib.Core.Bool.{Bool, true, ◌||◌}
use mathlib.Core.List.{List, [], ◌∷◌, ◌++◌}
use mathlib.Core.Option.{none, some}
use lib.ListN.{length, drop}
use lib.Dec.{eqb}
use Rattle.lists.specs.Pick.{pick}
use Rattle.std.specs.Prelude.{Some}
use Rattle.heap.specs.declared.object.CoroState.{CoroState}
use Rattle.model.specs.declared.machine.Cont.{Cont}
use Rattle.claims_model.specs.Engine.{Seen, View, Engine, Turn, run_turns, seen_created, seen_running, seen_awaiting, seen_returned, seen_in, state_is}
use Rattle.claims_model.specs.Says.{register_word, announced_by, lie, Entry, charged, whom}
use Rattle.claims_model.specs.Held.{at, into, Held, closer, By, Entered, Restored}
use Rattle.claims_model.specs.Delivery.{recorded, LeftBelow, result_of}
use Rattle.claims_model.specs.Demand3.{Enters, Suspends, Stops, Restarts, Waits, Goes, Demand3}
use Rattle.claims_model.specs.Events.{inmost, Healthy, raised, unwind_number_at, entry_number, who_suspends, is_await, suspension_number_to, who_returns, Lost, ended_as, lives, ends_unbegun, rests, Events}
use Rattle.claims_model.specs.Touches.{Touched, Called, Finished, Touches}
use Rattle.claims_model.specs.Made.{arguments, made, Named, Hooked, Creates}
use Rattle.claims_model.specs.Asks.{Pays, Exact, code_in, or_nil, Asks}
use Rattle.claims_model.specs.Promise.{is_suspension, bytes_fit, Roomy, IntFits, Accepts, Eleven, Soundness, Fresh, SetUps, top_registers, Looks, with_fuel, Refuels, NotEmpty}
use Rattle.claims_model.proofs.Premises.{Premises}
use Rattle.claims_memory.proofs.Follows.{Follows, Sight, sight, same, along, ran}
use Rattle.claims_memory.proofs.Follows.{up-enters, down-enters, up-suspends, down-suspends, up-returns, down-returns, up-fails, down-fails, up-leaves, down-leaves, up-restarts, down-restarts, up-healthy, down-healthy, up-waits, down-waits, up-goes, down-goes}

module _ (e d : Engine) (f : Follows e d) where
  -- what holds of all that d shows of a call holds of what e shows, and back
  down : (P : Sight → Type 0) (s : e.State) (k : e.Call) → P (sight d (f.to s) (f.by s k)) → P (sight e s k)
  down P s k = subst P (same e d f s k)

  up : (P : Sight → Type 0) (s : e.State) (k : e.Call) → P (sight e s k) → P (sight d (f.to s) (f.by s k))
  up P s k = subst P (sym (same e d f s k))

  -- ---- demand 3

  restored : Demand3 d → (c : ℕ) (s : e.State) (x : e.Call) (waiting : List (Turn e.Call)) (y : e.Call) → Suspends e c s x → Waits e c (e.next s x) waiting
      → let t = run_turns e (e.next s x) waiting in Enters e c t y → Restored (e.view s) (e.op x) (e.view t) (e.op y) c (e.view (e.next t y))
  restored p c s x waiting y h w g =
      let s₁ = e.next s x in
      let t = run_turns e s₁ waiting in
      let x' = f.by s x in
      let y' = f.by t y in
      let ws = along e d f s₁ waiting in
      let at = ap (λ z. run_turns d z ws) (f.next s x) ∙ ran e d f s₁ waiting in
      let w' = subst (λ z. Waits d c z ws) (sym (f.next s x)) (up-waits e d f c s₁ waiting w) in
      let there = subst (λ z. Enters d c z y' → Restored (d.view (f.to s)) (d.op x') (d.view z) (d.op y') c (d.view (d.next z y'))) at (p.restored c (f.to s) x' ws y' (up-suspends e d f s x c h) w') in
      down (λ v. Restored (e.view s) (e.op x) v.before v.op c v.after) t y
      (down (λ v. Restored v.before v.op (d.view (f.to t)) (d.op y') c (d.view (d.next (f.to t) y'))) s x (there (up-enters e d f t y c g)))

  untouched : Demand3 d → (c : ℕ) (s : e.State) (y : e.Call) (going : List (Turn e.Call)) (z : e.Call) → Enters e c s y → Goes e c (e.next s y) going
      → let t = run_turns e (e.next s y) going in Stops e c t z → LeftBelow (e.view s) (e.op y) c (e.view t) (e.op z) (e.view (e.next t z))
  untouched p c s y going z h w g =
      let s₁ = e.next s y in
      let t = run_turns e s₁ going in
      let y' = f.by s y in
      let z' = f.by t z in
      let gs = along e d f s₁ going in
      let at = ap (λ u. run_turns d u gs) (f.next s y) ∙ ran e d f s₁ going in
      let w' = subst (λ u. Goes d c u gs) (sym (f.next s y)) (up-goes e d f c s₁ going w) in
      let there = subst (λ u. Stops d c u z' → LeftBelow (d.view (f.to s)) (d.op y') c (d.view u) (d.op z') (d.view (d.next u z'))) at (p.untouched c (f.to s) y' gs z' (up-enters e d f s y c h) w') in
      down (λ v. LeftBelow (e.view s) (e.op y) c v.before v.op v.after) t z
      (down (λ v. LeftBelow v.before v.op c (d.view (f.to t)) (d.op z') (d.view (d.next (f.to t) z'))) s y (there (up-leaves e d f t z c g)))

  pub demand3 : Demand3 d → Demand3 e
  demand3 p =
      record {
        entered = λ c s y h. down (λ v. Entered v.before v.op c v.after) s y (p.entered c (f.to s) (f.by s y) (up-enters e d f s y c h));
        restored = restored p;
        untouched = untouched p;
      }

  -- ---- events

  abbrev suspended-is : ℕ → Sight → Type 0
  suspended-is c v = who_suspends v.before (announced_by v.before v.op) v.number ≡ some c

  abbrev returned-is : ℕ → Sight → Type 0
  returned-is c v = who_returns v.before (announced_by v.before v.op) v.number ≡ some c

  abbrev lost-in : ℕ → Sight → Type 0
  lost-in c v = Lost v.before v.number c v.op

  pub events : Events d → Events e
  events p =
      record {
        enters = λ c s k h. down (λ v. By v.before v.op c) s k (p.enters c (f.to s) (f.by s k) (up-enters e d f s k c h));
        entered = λ c s k ok h. down-enters e d f s k c (p.entered c (f.to s) (f.by s k) (up-healthy e d f s ok) (up (λ v. By v.before v.op c) s k h));
        answered = λ c s k h. down (λ v. (b : By v.before v.op c) → v.number ≡ entry_number (state_is v.before seen_created c) b.sent) s k (p.answered c (f.to s) (f.by s k) (up-enters e d f s k c h));
        resumed = λ s k pc dst r src o n.
            down-enters e d f s k (register_word (e.view s) r) (subst (λ v. Enters d (register_word v r) (f.to s) (f.by s k)) (f.view s) (p.resumed (f.to s) (f.by s k) pc dst r src (f.op s k ∙ o) (up (λ v. v.number ≡ 0) s k n)));
        hosted = λ c s k x o n. down-enters e d f s k c (p.hosted c (f.to s) (f.by s k) x (f.op s k ∙ o) (up (λ v. v.number ≡ 0) s k n));
        turned = λ s k pc has iter val src o n i q.
            down-enters e d f s k (register_word (e.view s) src)
            (subst (λ v. Enters d (register_word v src) (f.to s) (f.by s k)) (f.view s)
            (p.turned (f.to s) (f.by s k) pc has iter val src (f.op s k ∙ o) (up (λ v. v.number ≡ 0) s k n) (ap (λ v. v.done (register_word v iter)) (f.view s) ∙ i) (ap (λ v. state_is v seen_returned (register_word v src)) (f.view s) ∙ q)));
        threw = λ s k pc dst r src o n i.
            let t = p.threw (f.to s) (f.by s k) pc dst r src (f.op s k ∙ o) (up (λ v. v.number ≡ 17) s k n) (ap (λ v. state_is v seen_created (register_word v r)) (f.view s) ∙ i) in (t.0, down-enters e d f s k t.0 t.1);
        closed_in = λ s k pc dst r src o n.
            let t = p.closed_in (f.to s) (f.by s k) pc dst r src (f.op s k ∙ o) (up (λ v. v.number ≡ 17) s k n) in (t.0, down-enters e d f s k t.0 t.1);
        suspends = λ c s k h. down (suspended-is c) s k (p.suspends c (f.to s) (f.by s k) (up-suspends e d f s k c h));
        suspended = λ c s k h. down-suspends e d f s k c (p.suspended c (f.to s) (f.by s k) (up (suspended-is c) s k h));
        heard = λ c s k h.
            down (λ v. v.number ≡ suspension_number_to v.before.chain (is_await (announced_by v.before v.op)) (seen_in (λ x. x.closing) (v.before.coro c))) s k (p.heard c (f.to s) (f.by s k) (up-suspends e d f s k c h));
        returns = λ c s k h. down (returned-is c) s k (p.returns c (f.to s) (f.by s k) (up-returns e d f s k c h));
        returned = λ c s k ok h. down-returns e d f s k c (p.returned c (f.to s) (f.by s k) (up-healthy e d f s ok) (up (returned-is c) s k h));
        fails = λ c s k h. down (lost-in c) s k (p.fails c (f.to s) (f.by s k) (up-fails e d f s k c h));
        failed = λ c s k ok r h. down-fails e d f s k c (p.failed c (f.to s) (f.by s k) (up-healthy e d f s ok) (ap (λ v. state_is v seen_running c) (f.view s) ∙ r) (up (lost-in c) s k h));
        spoilt = λ c s k g pc x h o r.
            down (λ v. v.after.coro c ≡ ended_as CoroState.Failed x) s k (p.spoilt c (f.to s) (f.by s k) g pc x (up-fails e d f s k c h) (f.op s k ∙ o) (ap (λ v. raised v g) (f.view s) ∙ r));
        stopped = λ c s k h o. down (λ v. v.after.coro c ≡ ended_as CoroState.Failed 0) s k (p.stopped c (f.to s) (f.by s k) (up-fails e d f s k c h) (f.op s k ∙ o));
        closes-created = λ c s k pc dst r src o i n u.
            down (λ v. v.after.coro c ≡ pick (eqb v.number 0) (ended_as CoroState.Returned 0) (v.before.coro c)) s k
            (p.closes-created c (f.to s) (f.by s k) pc dst r src (f.op s k ∙ o) (ap (λ v. register_word v r) (f.view s) ∙ i) (ap (λ v. state_is v seen_created c) (f.view s) ∙ n) (up (λ v. whom v.before v.op ≡ none) s k u));
        throws-created = λ c s k pc dst r src o i n u.
            down (λ v. v.after.coro c ≡ pick (eqb v.number 17) (ended_as CoroState.Failed (register_word v.before src)) (v.before.coro c)) s k
            (p.throws-created c (f.to s) (f.by s k) pc dst r src (f.op s k ∙ o) (ap (λ v. register_word v r) (f.view s) ∙ i) (ap (λ v. state_is v seen_created c) (f.view s) ∙ n) (up (λ v. whom v.before v.op ≡ none) s k u));
        integer = λ c s k kind x h o i.
            down (λ v. v.after.integer (recorded (v.after.coro c)) ≡ Some x) s k (p.integer c (f.to s) (f.by s k) kind x (up-returns e d f s k c h) (f.op s k ∙ o) i);
        word = λ c s k kind x h o i.
            down (λ v. recorded (v.after.coro c) ≡ result_of kind x 0) s k (p.word c (f.to s) (f.by s k) kind x (up-returns e d f s k c h) (f.op s k ∙ o) i);
        closed = λ c s k g pc h o. down (λ v. recorded (v.after.coro c) ≡ 0) s k (p.closed c (f.to s) (f.by s k) g pc (up-returns e d f s k c h) (f.op s k ∙ o));
        yielded = λ c s k h.
            down (λ v. closer (v.after.coro c) ≡ pick (state_is v.after seen_awaiting c) (closer (v.before.coro c)) none) s k (p.yielded c (f.to s) (f.by s k) (up-suspends e d f s k c h));
        closing = λ c s k r h g l.
            down (λ v. closer (v.after.coro c) ≡ closer (v.before.coro c)) s k
            (p.closing c (f.to s) (f.by s k) (λ x. r (down-restarts e d f s k x)) (λ x. h (down-enters e d f s k c x)) (λ x. g (down-suspends e d f s k c x)) (up (λ v. state_is v.after lives c ≡ true) s k l));
        awaited = λ c s k h. down (λ v. state_is v.after seen_awaiting c ≡ is_await (announced_by v.before v.op)) s k (p.awaited c (f.to s) (f.by s k) (up-suspends e d f s k c h));
        still = λ c s k r h l. down (λ v. v.after.coro c ≡ v.before.coro c) s k (p.still c (f.to s) (f.by s k) (λ x. r (down-restarts e d f s k x)) (λ x. h (down-enters e d f s k c x)) (up (λ v. state_is v.before rests c ≡ true) s k l));
        unbegun = λ c s k r h l u.
            down (λ v. v.after.coro c ≡ v.before.coro c) s k
            (p.unbegun c (f.to s) (f.by s k) (λ x. r (down-restarts e d f s k x)) (λ x. h (down-enters e d f s k c x)) (up (λ v. state_is v.before seen_created c ≡ true) s k l)
            (λ x y. u (down (λ v. ends_unbegun (announced_by v.before v.op) ≡ some c) s k x) (down (λ v. whom v.before v.op ≡ none) s k y)));
        runs_on = λ c s k r h a b g.
            down (λ v. state_is v.after seen_running c ≡ true) s k
            (p.runs_on c (f.to s) (f.by s k) (λ x. r (down-restarts e d f s k x)) (up (λ v. state_is v.before seen_running c ≡ true) s k h) (λ x. a (down-suspends e d f s k c x)) (λ x. b (down-returns e d f s k c x)) (λ x. g (down-fails e d f s k c x)));
        comes = λ c s k h. down (λ v. (v.after.coro c ≡ none) ⊎ (state_is v.after seen_created c ≡ true)) s k (p.comes c (f.to s) (f.by s k) (up (λ v. v.before.coro c ≡ none) s k h));
        fixed = λ s k r. down (λ v. v.after.rules ≡ v.before.rules) s k (p.fixed (f.to s) (f.by s k) (λ x. r (down-restarts e d f s k x)));
        one-switch = λ c u s k h g. p.one-switch c u (f.to s) (f.by s k) (up-enters e d f s k c h) (up-suspends e d f s k u g);
        no_return = λ c u s k h g. p.no_return c u (f.to s) (f.by s k) (up-enters e d f s k c h) (up-returns e d f s k u g);
        one-leaves = λ c u s k h g. p.one-leaves c u (f.to s) (f.by s k) (up-suspends e d f s k c h) (up-returns e d f s k u g);
      }

  pub touches : Touches d → Touches e
  touches p =
      record {
        touched = λ s k o m q l h g.
            down (λ v. Touched m v.before v.after) s k (p.touched (f.to s) (f.by s k) o m (f.op s k ∙ q) l (λ c x. h c (down-enters e d f s k c x)) (λ c x. g c (down-suspends e d f s k c x)));
        finished = λ s k kind x g gs o q b n.
            down (λ v. v.before.frames ≡ g ∷ gs → Finished g gs v.before v.after) s k (λ r. p.finished (f.to s) (f.by s k) kind x g gs (f.op s k ∙ o) r b (f.number s k ∙ n)) q;
        called = λ s k pc g cont o n. down (λ v. Called g cont (at pc v.before.frames) v.before v.after) s k (p.called (f.to s) (f.by s k) pc g cont (f.op s k ∙ o) (f.number s k ∙ n));
        host_called = λ s k g o n. down (λ v. Called g Cont.Entry [] v.before v.after) s k (p.host_called (f.to s) (f.by s k) g (f.op s k ∙ o) (f.number s k ∙ n));
        put = λ s k r x o n. down (λ v. v.after.stack ≡ into v.before.frames r x v.before.stack) s k (p.put (f.to s) (f.by s k) r x (f.op s k ∙ o) (f.number s k ∙ n));
      }

  -- who was not there, and is seen as x after the call
  abbrev come-as : (View → Type 0) → ℕ → Seen → Sight → Type 0
  come-as P c x v = v.before.coro c ≡ none → v.after.coro c ≡ some x → P v.before

  pub creates : Creates d → Creates e
  creates p =
      record {
        new = λ c s k pc dst n argc x o. down (come-as (λ v. x ≡ made v.rules n 0 (arguments v dst argc)) c x) s k (p.new c (f.to s) (f.by s k) pc dst n argc x (f.op s k ∙ o));
        indirect = λ c s k pc dst r argc x o.
            down (come-as (λ v. (n : ℕ) × (x ≡ made v.rules n (register_word v r) (arguments v dst argc))) c x) s k (p.indirect c (f.to s) (f.by s k) pc dst r argc x (f.op s k ∙ o));
        spawned = λ c s k pc dst r argc x o.
            down (come-as (λ v. (n : ℕ) × (x ≡ made v.rules n (register_word v r) (arguments v dst argc))) c x) s k (p.spawned c (f.to s) (f.by s k) pc dst r argc x (f.op s k ∙ o));
        named = λ s k pc dst n argc o q.
            down (λ v. Named v.before dst (made v.before.rules n 0 (arguments v.before dst argc)) v.after) s k (p.named (f.to s) (f.by s k) pc dst n argc (f.op s k ∙ o) (f.number s k ∙ q));
        named-indirect = λ s k pc dst r argc o q.
            down (λ v. (n : ℕ) × Named v.before dst (made v.before.rules n (register_word v.before r) (arguments v.before dst argc)) v.after) s k
            (p.named-indirect (f.to s) (f.by s k) pc dst r argc (f.op s k ∙ o) (f.number s k ∙ q));
        hooked = λ s k pc dst r argc o q.
            down (λ v. (n : ℕ) × Hooked v.before pc dst (made v.before.rules n (register_word v.before r) (arguments v.before dst argc)) v.after) s k
            (p.hooked (f.to s) (f.by s k) pc dst r argc (f.op s k ∙ o) (f.number s k ∙ q));
      }

  -- ---- acceptance

  -- what is seen of a state in which c has room to suspend, and n bytes more
  Roomily : ℕ → ℕ → View → Type 0
  Roomily n c v =
      ((pc : ℕ) (y : Entry) → charged v pc (some y) ≡ some y) × (held : Held v c) × (seen : Seen) × (v.coro c ≡ some seen)
      × (bytes_fit v (n + ((length (drop held.body.base v.stack) - seen.most_words) * 8 + (length (held.over ++ (held.body ∷ [])) - seen.most_frames) * v.rules.frame_cost)) ≡ true)

  roomy : (n c : ℕ) (s : e.State) → Roomy e n c s → Roomy d n c (f.to s)
  unfolding Roomily
  roomy n c s r =
      let (paid, held, seen, there, grows) = subst (Roomily n c) (sym (f.view s)) (r.paid, r.held, r.seen, r.there, r.grows) in
      record { healthy = up-healthy e d f s r.healthy; paid = paid; held = held; seen = seen; there = there; grows = grows }

  roomy-down : (n c : ℕ) (s : e.State) → Roomy d n c (f.to s) → Roomy e n c s
  unfolding Roomily
  roomy-down n c s r =
      let (paid, held, seen, there, grows) = subst (Roomily n c) (f.view s) (r.paid, r.held, r.seen, r.there, r.grows) in
      record { healthy = down-healthy e d f s r.healthy; paid = paid; held = held; seen = seen; there = there; grows = grows }

  -- the operands lie in the frame
  lying : (s : e.State) (rs : List ℕ) → lie (e.view s) rs ≡ true → lie (d.view (f.to s)) rs ≡ true
  lying s rs l = ap (λ v. lie v rs) (f.view s) ∙ l

  pays : (s : e.State) → Pays e s → Pays d (f.to s)
  pays s r = record {
    healthy = up-healthy e d f s r.healthy;
    stands = ap (λ v. eqb (length v.frames) 0) (f.view s) ∙ r.stands;
    paid = λ pc y. ap (λ v. charged v pc (some y)) (f.view s) ∙ r.paid pc y;
  }

  pays-down : (s : e.State) → Pays d (f.to s) → Pays e s
  pays-down s r = record {
    healthy = down-healthy e d f s r.healthy;
    stands = ap (λ v. eqb (length v.frames) 0) (sym (f.view s)) ∙ r.stands;
    paid = λ pc y. ap (λ v. charged v pc (some y)) (sym (f.view s)) ∙ r.paid pc y;
  }

  -- answered 0 exactly where d answers it
  exact : (s : e.State) (k : e.Call) (rs : List ℕ) {a b : Bool} → a ≡ b → Exact d (f.to s) (f.by s k) rs a → Exact e s k rs b
  exact s k rs q (only, then) = (
    λ n. let t = only (f.number s k ∙ n) in record { pays = pays-down s t.pays; lies = ap (λ v. lie v rs) (sym (f.view s)) ∙ t.lies; passes = sym q ∙ t.passes },
    λ t. sym (f.number s k) ∙ then (record { pays = pays s t.pays; lies = lying s rs t.lies; passes = q ∙ t.passes }),
  )

  pub asks : Asks d → Asks e
  asks p =
      record {
        status-if = λ s k pc dst r o. exact s k (dst ∷ r ∷ []) (ap (λ v. state_is v (λ x. true) (register_word v r)) (f.view s)) (p.status-if (f.to s) (f.by s k) pc dst r (f.op s k ∙ o));
        current-if = λ s k pc dst o. exact s k (dst ∷ []) (λ i. true) (p.current-if (f.to s) (f.by s k) pc dst (f.op s k ∙ o));
        key-if = λ s k pc dst r o. exact s k (dst ∷ r ∷ []) (ap (λ v. state_is v (λ x. true) (register_word v r)) (f.view s)) (p.key-if (f.to s) (f.by s k) pc dst r (f.op s k ∙ o));
        result-if = λ s k pc dst r o. exact s k (dst ∷ r ∷ []) (ap (λ v. state_is v seen_returned (register_word v r)) (f.view s)) (p.result-if (f.to s) (f.by s k) pc dst r (f.op s k ∙ o));
        status = λ s k pc dst r o n. down (λ v. v.after.stack ≡ into v.before.frames dst (code_in (v.before.coro (register_word v.before r))) v.before.stack) s k (p.status (f.to s) (f.by s k) pc dst r (f.op s k ∙ o) (f.number s k ∙ n));
        current = λ s k pc dst o n. down (λ v. v.after.stack ≡ into v.before.frames dst (or_nil (inmost v.before.chain)) v.before.stack) s k (p.current (f.to s) (f.by s k) pc dst (f.op s k ∙ o) (f.number s k ∙ n));
        result = λ s k pc dst r o n. down (λ v. v.after.stack ≡ into v.before.frames dst (recorded (v.before.coro (register_word v.before r))) v.before.stack) s k (p.result (f.to s) (f.by s k) pc dst r (f.op s k ∙ o) (f.number s k ∙ n));
      }

  pub accepts : Accepts d → Accepts e
  accepts p =
      record {
        await = λ c s k pc dst src r o l. ap is_suspension (sym (f.number s k)) ∙ p.await c (f.to s) (f.by s k) pc dst src (roomy 0 c s r) (f.op s k ∙ o) (lying s (dst ∷ src ∷ []) l);
        yield-kv = λ c s k pc dst src key r o l. ap is_suspension (sym (f.number s k)) ∙ p.yield-kv c (f.to s) (f.by s k) pc dst src key (roomy 0 c s r) (f.op s k ∙ o) (lying s (dst ∷ src ∷ key ∷ []) l);
        yield = λ c s k pc dst src r full o l.
            let r' = subst (λ n. Roomy d n c (f.to s)) (ap (λ v. v.rules.int_cost) (sym (f.view s))) (roomy (e.view s).rules.int_cost c s r) in
            ap (λ n. is_suspension n || eqb n 7) (sym (f.number s k)) ∙ p.yield c (f.to s) (f.by s k) pc dst src r' (ap (λ v. v.full) (f.view s) ∙ full) (f.op s k ∙ o) (lying s (dst ∷ src ∷ []) l);
        close-created = λ s k pc dst r src m o l n.
            sym (f.number s k) ∙ p.close-created (f.to s) (f.by s k) pc dst r src (pays s m) (f.op s k ∙ o) (lying s (dst ∷ r ∷ src ∷ []) l) (ap (λ v. state_is v seen_created (register_word v r)) (f.view s) ∙ n);
        throw-created = λ s k pc dst r src m o l n.
            sym (f.number s k) ∙ p.throw-created (f.to s) (f.by s k) pc dst r src (pays s m) (f.op s k ∙ o) (lying s (dst ∷ r ∷ src ∷ []) l) (ap (λ v. state_is v seen_created (register_word v r)) (f.view s) ∙ n);
        integer = λ s k kind x ok o m converts. sym (f.number s k) ∙ p.integer (f.to s) (f.by s k) kind x (up-healthy e d f s ok) (f.op s k ∙ o) (subst IntFits (sym (f.view s)) m) converts;
        finish = λ s k kind x ok o plain. sym (f.number s k) ∙ p.finish (f.to s) (f.by s k) kind x (up-healthy e d f s ok) (f.op s k ∙ o) plain;
        throw = λ s k x pc ok o. down (λ v. v.number ≡ unwind_number_at v.before x pc) s k (p.throw (f.to s) (f.by s k) x pc (up-healthy e d f s ok) (f.op s k ∙ o));
        raise = λ s k g pc x ok o n r.
            down (λ v. v.number ≡ pick (bytes_fit v.before v.before.rules.error_cost) (pick v.before.full 14 (unwind_number_at v.before x pc)) 9) s k
            (p.raise (f.to s) (f.by s k) g pc x (up-healthy e d f s ok) (f.op s k ∙ o) n (ap (λ v. raised v g) (f.view s) ∙ r));
        pass = λ s k g pc ok o r. sym (f.number s k) ∙ p.pass (f.to s) (f.by s k) g pc (up-healthy e d f s ok) (f.op s k ∙ o) (ap (λ v. raised v g) (f.view s) ∙ r);
      }

  -- ---- soundness

  pub soundness : Soundness d → Soundness e
  soundness p =
      record {
        begun = λ s k h. down-healthy e d f (e.next s k) (subst (Healthy d) (f.next s k) (p.begun (f.to s) (f.by s k) (up-restarts e d f s k h)));
        kept = λ s k h. down-healthy e d f (e.next s k) (subst (Healthy d) (f.next s k) (p.kept (f.to s) (f.by s k) (up-healthy e d f s h)));
        refuelled = λ s x g h. down-healthy e d f (e.refuel s x) (subst (Healthy d) (f.refuel s x) (p.refuelled (f.to s) x g (up-healthy e d f s h)));
        eleven = λ s k h n. down (λ v. Eleven v.before v.op) s k (p.eleven (f.to s) (f.by s k) (up-healthy e d f s h) (f.number s k ∙ n));
      }

  -- ---- set-ups and looks

  pub set-ups : SetUps d → SetUps e
  set-ups p =
      record {
        begun = λ s k h. down (λ v. Fresh v.after) s k (p.begun (f.to s) (f.by s k) (up-restarts e d f s k h));
        given = λ s k h. sym (f.asks s k h) ∙ down (λ v. d.asks (f.by s k) ≡ some v.after.rules) s k (p.given (f.to s) (f.by s k) (up-restarts e d f s k h));
        refused = λ s k o n. down (λ v. (v.number ≡ 11) × (v.after ≡ v.before)) s k (p.refused (f.to s) (f.by s k) (f.op s k ∙ o) (λ x. n (sym (f.number s k) ∙ x)));
      }

  pub looks : Looks d → Looks e
  looks p =
      record {
        sees = λ s h. sym (f.look s) ∙ p.sees (f.to s) (up-healthy e d f s h) ∙ ap (λ v. top_registers v.frames v.stack) (f.view s);
        unseen = λ s h. sym (f.look s) ∙ p.unseen (f.to s) (λ x. h (down-healthy e d f s x));
        unmoved = λ s k o. down (λ v. v.after ≡ v.before) s k (p.unmoved (f.to s) (f.by s k) (f.op s k ∙ o));
      }

  pub refuels : Refuels d → Refuels e
  refuels p s x = sym (f.view (e.refuel s x)) ∙ ap d.view (sym (f.refuel s x)) ∙ p (f.to s) x ∙ ap (with_fuel x) (f.view s)

  -- ---- not empty

  -- calls of e that follow such a split of d's
  module _ (start : e.State) (first : e.Call) (before : List (Turn e.Call)) (x : e.Call) (waiting : List (Turn e.Call)) (y : e.Call) (going : List (Turn e.Call)) (z : e.Call) (c : ℕ) where
    abbrev s₁ : e.State
    s₁ = run_turns e (e.next start first) before

    abbrev s₂ : e.State
    s₂ = e.next s₁ x

    abbrev s₃ : e.State
    s₃ = run_turns e s₂ waiting

    abbrev s₄ : e.State
    s₄ = e.next s₃ y

    abbrev s₅ : e.State
    s₅ = run_turns e s₄ going

    abbrev ws : List (Turn d.Call)
    ws = along e d f s₂ waiting

    abbrev gs : List (Turn d.Call)
    gs = along e d f s₄ going

    pub not-empty : Restarts e start first → Roomy d (d.view (f.to s₁)).rules.int_cost c (f.to s₁) → IntFits (d.view (f.to s₁)) → Premises d c (f.to s₁) (f.by s₁ x) ws (f.by s₃ y) gs (f.by s₅ z) → NotEmpty e
    not-empty r has makes p =
        let at₂ = f.next s₁ x in
        let at₃ : run_turns d (d.next (f.to s₁) (f.by s₁ x)) ws ≡ f.to s₃ = ap (λ u. run_turns d u ws) at₂ ∙ ran e d f s₂ waiting in
        let at₄ : d.next (run_turns d (d.next (f.to s₁) (f.by s₁ x)) ws) (f.by s₃ y) ≡ f.to s₄ = ap (λ u. d.next u (f.by s₃ y)) at₃ ∙ f.next s₃ y in
        let at₅ : run_turns d (d.next (run_turns d (d.next (f.to s₁) (f.by s₁ x)) ws) (f.by s₃ y)) gs ≡ f.to s₅ = ap (λ u. run_turns d u gs) at₄ ∙ ran e d f s₄ going in
        record {
          start = start;
          first = first;
          accepted = r;
          before = before;
          x = x;
          waiting = waiting;
          y = y;
          going = going;
          z = z;
          c = c;
          suspends = down-suspends e d f s₁ x c p.suspends;
          roomy = subst (λ v. Roomy e v.rules.int_cost c s₁) (f.view s₁) (roomy-down (d.view (f.to s₁)).rules.int_cost c s₁ has);
          makes = subst IntFits (f.view s₁) makes;
          waits = down-waits e d f c s₂ waiting (subst (λ u. Waits d c u ws) at₂ p.waits);
          enters = down-enters e d f s₃ y c (subst (λ u. Enters d c u (f.by s₃ y)) at₃ p.enters);
          goes = down-goes e d f c s₄ going (subst (λ u. Goes d c u gs) at₄ p.goes);
          stops = down-leaves e d f s₅ z c (subst (λ u. Stops d c u (f.by s₅ z)) at₅ p.leaves);
        }
