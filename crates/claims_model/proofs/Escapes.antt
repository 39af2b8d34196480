-- unwind: who returns by it. The frames are searched as the claim's `escaped` does.
use Prim.Native.Nat.{ℕ}
use mathlib.Core.Path.{◌≡◌, refl, sym, ap, ◌∙◌, subst}
use mathlib.Core.Logic.{◌≢◌, inl, inr}
use mathlib.Core.Bool.{Bool, true, false, ◌&&◌, ◌||◌}
use mathlib.Core.List.{List, [], ◌∷◌}
use mathlib.Core.Option.{Option, none, some}
use lib.Dec.{eqb}
use Rattle.lists.specs.Pick.{pick}
use Rattle.heap.specs.Word.{nil}
use Rattle.heap.specs.Table.{Slot}
use Rattle.heap.specs.declared.object.CoroState.{CoroState}
use Rattle.model.specs.Program.{func, first_of, covers}
use Rattle.model.specs.Object.{Core, Rest, Object, Coroutine, Absent, Is, as_coro}
use Rattle.model.specs.World.{World, After, after, and_then, with_chain}
use Rattle.model.specs.Frames.{is_coro, pop_to}
use Rattle.model.specs.Heap.{coro, change_as, change_coro}
use Rattle.model.specs.Coro.{in_state, ended, finish_coroutine, deliver_return, closed_by, fail_to, escaped_on, coro_escaped}
use Rattle.model.specs.Cleanup.{charge}
use Rattle.model.specs.Machine.{caught, stop_or, escape, search_as, search}
use Rattle.model.specs.Answer.{number_of}
use Rattle.model.specs.declared.program.Handler.{Handler}
use Rattle.std.specs.Prelude.{Option as RustOption, Some, None}
use Rattle.model.specs.declared.machine.Cont.{Cont}
use Rattle.model.specs.declared.machine.Driver.{Driver}
use Rattle.model.specs.declared.machine.Active.{Active}
use Rattle.model.specs.declared.machine.Frame.{Frame}
use Rattle.model.specs.declared.machine.Stop.{Stop}
use Rattle.model.specs.declared.call.Answer.{Answer}
use Rattle.claims_model.specs.Engine as Engine
use Rattle.claims_model.specs.Engine.{seen_in}
use Rattle.claims_model.specs.Events as Events
use Rattle.claims_model.specs.Events.{goes_on, escaped}
use Rattle.claims_model.specs.Steps.{seen_of}
use Rattle.claims_model.proofs.Cores.{coro_in, put-away, named-coro, m-ending}
use Rattle.claims_model.proofs.Shape.{View, view, Worked, done, pops, Return, Apart}
use Rattle.claims_model.proofs.Enters.{charge-none}
use Rattle.claims_model.proofs.Quiet.{same-worked, Still, change-still}
use Rattle.claims_model.proofs.Endings.{return-done, failing, handled}

-- ---- moves, and then perhaps a return

pub data Ended (v : View) (o : After Answer) : Option ℕ → Type 0 where
  e-works : Worked none m-ending v (view o.world) → Ended v o none
  e-returns : (u : View) (f : Frame) (fs : List Frame) (a : Active) (chain : List Active) → Worked none m-ending v u → Return u nil f fs a chain o.world → number_of o.answer ≡ 0 → Ended v o (some a.coro)

pub then-ended : {v u : View} {o : After Answer} {who : Option ℕ} → ((y : View) → Worked none m-ending u y → Worked none m-ending v y) → Ended u o who → Ended v o who
then-ended {o = o} g (e-works t) = e-works (g (view o.world) t)
then-ended g (e-returns u f fs a chain t r n) = e-returns u f fs a chain (g u t) r n

-- ---- handlers

pub data Looks (hs : List Handler) (pc : ℕ) : RustOption Handler → Bool → Type 0 where
  nothing : Looks hs pc None false
  found : (h : Handler) → Looks hs pc (Some h) true

pub looks : (hs : List Handler) (pc : ℕ) → Looks hs pc (first_of pc hs) (Events.caught hs pc)
unfolding pick
looks [] pc = nothing
looks (h ∷ hs) pc = go (covers pc h) (looks hs pc)
  where
    more : {c : RustOption Handler} {b : Bool} → Looks hs pc c b → Looks (h ∷ hs) pc c b
    more nothing = nothing
    more (found h) = found h

    go : (b : Bool) → Looks hs pc (first_of pc hs) (Events.caught hs pc) → Looks (h ∷ hs) pc (pick b (Some h) (first_of pc hs)) (b || Events.caught hs pc)
    go true l = found h
    go false l = more l

-- ---- w is seen as v, as far as the search reads it

abbrev pub AllSeen : Engine.View → List (Slot Object) → List Active → Type 0
AllSeen v xs [] = Unit {0}
AllSeen v xs (a ∷ chain) = (seen_of (coro_in xs a.coro) ≡ v.coro a.coro) × Apart a.coro chain × AllSeen v xs chain

pub record Sees (v : Engine.View) (w : World) : Type 0 where
  pub handlers : (f : ℕ) → v.rules.handlers f ≡ (func w.setup f).handlers
  pub coros : AllSeen v w.slots w.chain

-- the end of another coroutine
apart-coro : (c : ℕ) (f : Core → Core) (g : Rest → Rest) (w : World) (u : ℕ) → u ≢ c → coro (change_coro c f g w) u ≡ coro w u
apart-coro c f g w u n = go (coro w c) refl
  where
    go : (y : Coroutine) → coro w c ≡ y → coro (change_as y c f g w) u ≡ coro w u
    go Absent e = refl
    go (Is k r) e = ap as_coro (put-away w.slots c (Object.Coro (f k) (g r)) u (named-coro w.slots c e) n)

all_apart : (v : Engine.View) (w u : World) (c : ℕ) → ((x : ℕ) → x ≢ c → coro u x ≡ coro w x) → (chain : List Active) → Apart c chain → AllSeen v w.slots chain → AllSeen v u.slots chain
all_apart v w u c e [] n h = tt
all_apart v w u c e (a ∷ chain) n h = (ap seen_of (e a.coro (λ q. n.0 (sym q))) ∙ h.0, h.1, all_apart v w u c e chain n.1 h.2)

closed-seen : (v : Engine.View) (k : Coroutine) (c x : ℕ) → seen_of k ≡ v.coro c → seen_in (λ k. k.closing && eqb x k.signal) (v.coro c) ≡ closed_by k x
closed-seen v k c x e = ap (seen_in (λ k. k.closing && eqb x k.signal)) (sym e) ∙ go k
  where
    go : (k : Coroutine) → seen_in (λ k. k.closing && eqb x k.signal) (seen_of k) ≡ closed_by k x
    go Absent = refl
    go (Is k r) = refl

-- ---- a body's frame x goes, and with it the innermost coroutine a

abbrev pub failed_by : ℕ → Frame → List Frame → Active → List Active → World → World
failed_by value x xs a chain w = finish_coroutine a.coro CoroState.Failed value (with_chain chain (pop_to x xs w))

pub failed-still : (value : ℕ) (x : Frame) (xs : List Frame) (a : Active) (chain : List Active) (w : World) → Still (with_chain chain (pop_to x xs w)) (failed_by value x xs a chain w)
failed-still value x xs a chain w = change-still (with_chain chain (pop_to x xs w)) a.coro (in_state CoroState.Failed) (ended value)

-- the others are seen as before
pub fail-sees : (v : Engine.View) (x : Frame) (xs : List Frame) (value : ℕ) (w : World) (a : Active) (chain : List Active) → Sees v w → AllSeen v w.slots (a ∷ chain)
    → Sees v (failed_by value x xs a chain w)
fail-sees v x xs value w a chain h all =
    let u = with_chain chain (pop_to x xs w) in
    let y = failed_by value x xs a chain w in
    let g = failed-still value x xs a chain w in
    record {
      handlers = λ n. h.handlers n ∙ ap (λ s. (func s n).handlers) (sym g.setup);
      coros = subst (AllSeen v y.slots) (sym g.chain) (all_apart v w y a.coro (apart-coro a.coro (in_state CoroState.Failed) (ended value) u) chain all.1 all.2);
    }

-- .. and the search goes on, or ends with its driver
abbrev pub failed_on : (World → After Answer) → ℕ → ℕ → ℕ → Frame → List Frame → Active → List Active → World → After Answer
failed_on next value f pc x xs a chain w = let o = fail_to a.driver (Stop.Failed value f pc) (failed_by value x xs a chain w) in stop_or next o.world o.answer

-- a returns if its own signal closed it, as it is seen, and fails otherwise: what holds of both holds of the escape
pub by-signal : (v : Engine.View) (value f pc : ℕ) (next : World → After Answer) (x : Frame) (xs : List Frame) (w : World) (a : Active) (chain : List Active) → AllSeen v w.slots (a ∷ chain)
    → {A : Type 0} (G : After Answer → A → Type 0) (s t : A)
    → G (after (deliver_return a.driver nil (finish_coroutine a.coro CoroState.Returned nil (with_chain chain (pop_to x xs w)))) Answer.Stopped) s
    → G (failed_on next value f pc x xs a chain w) t
    → G (and_then (escaped_on (a ∷ chain) value f pc (pop_to x xs w)) (stop_or next)) (pick (seen_in (λ k. k.closing && eqb value k.signal) (v.coro a.coro)) s t)
unfolding pick
by-signal v value f pc next x xs w a chain all G s t returned failed =
    subst (λ b. G (left b) (pick (seen_in (λ k. k.closing && eqb value k.signal) (v.coro a.coro)) s t)) (closed-seen v (coro w a.coro) a.coro value all.0)
    (test (seen_in (λ k. k.closing && eqb value k.signal) (v.coro a.coro)))
  where
    left : Bool → After Answer
    left b = and_then (pick b (after (deliver_return a.driver nil (finish_coroutine a.coro CoroState.Returned nil (with_chain chain (pop_to x xs w)))) true) (fail_to a.driver (Stop.Failed value f pc) (failed_by value x xs a chain w))) (stop_or next)

    test : (b : Bool) → G (left b) (pick b s t)
    test true = returned
    test false = failed

-- ---- the search

module _ (v : Engine.View) (value f pc : ℕ) where
  abbrev Next : List Frame → Type 0
  Next xs = (w : World) → w.frames ≡ xs → Sees v w → Ended (view w) (search xs value f pc w) (escaped v value xs w.chain)

  failed-to : (xs : List Frame) → Next xs → (d : Driver) (s : Stop) (w : World) → w.frames ≡ xs → Sees v w → Ended (view w) (stop_or (search xs value f pc) (fail_to d s w).world (fail_to d s w).answer) (pick (goes_on d) (escaped v value xs w.chain) none)
  unfolding pick
  failed-to xs next (Driver.Resume dst) s w p h = next w p h
  failed-to xs next (Driver.Iter has val iter) s w p h = next w p h
  failed-to xs next Driver.Host s w p h = e-works done
  failed-to xs next Driver.Finalize s w p h = e-works done

  body-left : (x : Frame) (xs : List Frame) → Next xs → (w : World) → w.frames ≡ x ∷ xs → is_coro x.cont ≡ true → Sees v w → (cs : List Active) → w.chain ≡ cs
      → Ended (view w) (and_then (escaped_on cs value f pc (pop_to x xs w)) (stop_or (search xs value f pc))) (Events.escape_from Cont.Coro v value cs (escaped v value xs))
  unfolding pick
  body-left x xs next w p q h [] r = subst (λ cs. Ended (view w) (search xs value f pc (pop_to x xs w)) (escaped v value xs cs)) r (then-ended (λ y t. pops x xs refl p (inr r) t) (next (pop_to x xs w) refl (record { handlers = h.handlers; coros = h.coros })))
  body-left x xs next w p q h (a ∷ chain) r =
      let all = subst (AllSeen v w.slots) r h.coros in
      let g = failed-still value x xs a chain w in
      by-signal v value f pc (search xs value f pc) x xs w a chain all (Ended (view w)) (some a.coro) (pick (goes_on a.driver) (escaped v value xs chain) none)
      (e-returns (view w) x xs a chain done (return-done nil x xs w a chain p q r) refl)
      (subst (λ cs. Ended (view w) (failed_on (search xs value f pc) value f pc x xs a chain w) (pick (goes_on a.driver) (escaped v value xs cs) none)) g.chain
      (then-ended (λ n t. failing x xs value w a chain p q r t) (failed-to xs next a.driver (Stop.Failed value f pc) (failed_by value x xs a chain w) g.frames (fail-sees v x xs value w a chain h all))))

  leaving : (x : Frame) (xs : List Frame) → Next xs → (w : World) → w.frames ≡ x ∷ xs → Sees v w → (c : Cont) → x.cont ≡ c → Ended (view w) (escape c value f pc (search xs value f pc) (pop_to x xs w)) (Events.escape_from c v value w.chain (escaped v value xs))
  unfolding coro_escaped
  leaving x xs next w p h Cont.Entry q = e-works (pops x xs refl p (inl (ap is_coro q)) done)
  leaving x xs next w p h (Cont.Write r) q = then-ended (λ y t. pops x xs refl p (inl (ap is_coro q)) t) (next (pop_to x xs w) refl (record { handlers = h.handlers; coros = h.coros }))
  leaving x xs next w p h (Cont.Dyn r) q = then-ended (λ y t. pops x xs refl p (inl (ap is_coro q)) t) (next (pop_to x xs w) refl (record { handlers = h.handlers; coros = h.coros }))
  leaving x xs next w p h (Cont.Value r) q = then-ended (λ y t. pops x xs refl p (inl (ap is_coro q)) t) (next (pop_to x xs w) refl (record { handlers = h.handlers; coros = h.coros }))
  leaving x xs next w p h Cont.Discard q = then-ended (λ y t. pops x xs refl p (inl (ap is_coro q)) t) (next (pop_to x xs w) refl (record { handlers = h.handlers; coros = h.coros }))
  leaving x xs next w p h Cont.Coro q = body-left x xs next w p (ap is_coro q) h w.chain refl

  looked : (x : Frame) (xs : List Frame) → Next xs → (w : World) → w.frames ≡ x ∷ xs → Sees v w → {c : RustOption Handler} {b : Bool} → Looks (func w.setup x.func).handlers x.pc c b
      → Ended (view w) (search_as c x xs value f pc (search xs value f pc) w) (pick b none (Events.escape_from x.cont v value w.chain (escaped v value xs)))
  unfolding pick
  looked x xs next w p h nothing = leaving x xs next w p h x.cont refl
  looked x xs next w p h (found n) = e-works (same-worked (charge-none w) (handled value f pc n (charge None w).world (charge None w).answer))

  pub search-ended : (fs : List Frame) → Next fs
  search-ended [] w p h = e-works done
  search-ended (x ∷ xs) w p h = subst
      (λ hs. Ended (view w) (search (x ∷ xs) value f pc w) (pick (Events.caught hs x.pc) none (Events.escape_from x.cont v value w.chain (escaped v value xs)))) (sym (h.handlers x.func))
      (looked x xs (search-ended xs) w p h (looks (func w.setup x.func).handlers x.pc))
