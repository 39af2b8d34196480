-- unwind and finish at a sound machine: who returns is whom the claim names.
use Prim.Native.Nat.{ℕ}
use mathlib.Core.Path.{◌≡◌, refl, sym, ap, ◌∙◌, subst}
use mathlib.Core.Logic.{◌⊎◌, inl, inr}
use mathlib.Core.Bool.{Bool, true, false, not, ◌&&◌, ◌||◌}
use mathlib.Core.List.{List, [], ◌∷◌}
use mathlib.Core.Option.{Option, none, some}
use lib.Dec.{eqb}
use borrow.Author.Tests.{eq-eqb, not-true}
use Rattle.lists.specs.Pick.{pick}
use Rattle.heap.specs.Table.{Slot, next_word, push_object}
use Rattle.heap.specs.Charge.{sat_add}
use Rattle.heap.specs.declared.fault.Fault.{Fault}
use Rattle.model.specs.Program.{func}
use Rattle.model.specs.Lists.{each, among, distinct}
use Rattle.model.specs.World.{World, After, after, and_then, with_used, with_slots}
use Rattle.model.specs.Object.{Object, Absent, as_coro}
use Rattle.model.specs.Frames.{set_pc, store_pc, top_func, top_pc}
use Rattle.model.specs.Heap.{coro, alloc, fits, slots_full, refuse}
use Rattle.model.specs.Machine.{error_of, search_frames, search_made, store_some, unwind}
use Rattle.model.specs.Sound.{sound, running_ok, runs, coros, runs_among}
use Rattle.model.specs.Answer.{number_of}
use Rattle.model.specs.declared.machine.Active.{Active}
use Rattle.model.specs.declared.machine.Frame.{Frame}
use Rattle.std.specs.Prelude.{Option as RustOption, Result, Some, None, Ok}
use Rattle.model.specs.declared.call.Answer.{Answer}
use Rattle.claims_model.specs.Engine as Engine
use Rattle.claims_model.specs.Held.{at}
use Rattle.claims_model.specs.Events.{escaped, raised, raised_at}
use Rattle.claims_model.specs.Steps.{seen_of, view_of}
use Rattle.claims_model.proofs.Cores.{no_both, and_left, and_right, coro_in, object_in, push-cases, m-ending}
use Rattle.claims_model.proofs.Shape.{View, view, Worked, done, tops, Apart}
use Rattle.claims_model.proofs.Under.{keeps-pc}
use Rattle.claims_model.proofs.Events.{or_left, or_right}
use Rattle.claims_model.proofs.Quiet.{Same, same-worked}
use Rattle.claims_model.proofs.Sounds.{two}
use Rattle.claims_model.proofs.Bodies.{at_top}
use Rattle.claims_model.proofs.Escapes.{Ended, e-works, e-returns, then-ended, AllSeen, Sees, search-ended}

-- ---- a sound world is seen as it is

apart-among : (c : ℕ) (chain : List Active) → among c (coros chain) ≡ false → Apart c chain
apart-among c [] h = tt
apart-among c (a ∷ chain) h = ((λ q. no_both (eq-eqb c a.coro q) (or_left (eqb c a.coro) (among c (coros chain)) h)), apart-among c chain (or_right (eqb c a.coro) (among c (coros chain)) h))

all_seen : (w : World) (chain : List Active) → distinct (coros chain) ≡ true → AllSeen (view_of w) w.slots chain
all_seen w [] h = tt
all_seen w (a ∷ chain) h = (refl, apart-among a.coro chain (not-true (among a.coro (coros chain)) (and_left (not (among a.coro (coros chain))) (distinct (coros chain)) h)), all_seen w chain (and_right (not (among a.coro (coros chain))) (distinct (coros chain)) h))

pub sees : (w : World) → sound w ≡ true → Sees (view_of w) w
unfolding running_ok
sees w h = record {
  handlers = λ f. refl;
  coros = all_seen w w.chain (and_right (each (λ a. runs (coro w a.coro)) w.chain) (distinct (coros w.chain)) (and_left (each (λ a. runs (coro w a.coro)) w.chain && distinct (coros w.chain)) (runs_among (coros w.chain) 0 w.slots) (two w h).0));
}

pub all_same : (v : Engine.View) (xs ys : List (Slot Object)) → ((c : ℕ) → coro_in ys c ≡ coro_in xs c) → (chain : List Active) → AllSeen v xs chain → AllSeen v ys chain
all_same v xs ys e [] h = tt
all_same v xs ys e (a ∷ chain) h = (ap seen_of (e a.coro) ∙ h.0, h.1, all_same v xs ys e chain h.2)

-- a new object that is no coroutine
pub push-coros : (xs : List (Slot Object)) (o : Object) → as_coro o ≡ Absent → (c : ℕ) → coro_in (push_object xs o) c ≡ coro_in xs c
push-coros xs o n c = go (push-cases xs o c)
  where
    go : (object_in (push_object xs o) c ≡ object_in xs c) ⊎ ((object_in xs c ≡ Object.Empty) × (object_in (push_object xs o) c ≡ o)) → coro_in (push_object xs o) c ≡ coro_in xs c
    go (inl e) = ap as_coro e
    go (inr e) = ap as_coro e.1 ∙ n ∙ sym (ap as_coro e.0)

-- ---- unwind

-- a return is answered 0
abbrev pub counted : Answer → Option ℕ → Option ℕ
counted a who = pick (eqb (number_of a) 0) who none

nobody : (b : Bool) → ◌≡◌ {A = Option ℕ} (pick b none none) none
unfolding pick
nobody true = refl
nobody false = refl

ended-counted : {v : View} {o : After Answer} {who : Option ℕ} → Ended v o who → Ended v o (counted o.answer who)
unfolding pick
ended-counted {v} {o} (e-works t) = subst (Ended v o) (sym (nobody (eqb (number_of o.answer) 0))) (e-works t)
ended-counted {v} {o} (e-returns u f fs a chain t r n) = subst (λ m. Ended v o (pick (eqb m 0) (some a.coro) none)) (sym n) (e-returns u f fs a chain t r n)

ended-none : {v : View} {o : After Answer} → Worked none m-ending v (view o.world) → (b : Bool) → Ended v o (pick b none none)
unfolding pick
ended-none t true = e-works t
ended-none t false = e-works t

module _ (w : World) (h : sound w ≡ true) where
  -- a word is raised at u, which is w but for objects and the top pc
  frames-ended : (x : ℕ) (fs : List Frame) (u : World) → Sees (view_of w) u → u.frames ≡ fs → u.chain ≡ w.chain → Ended (view u) (search_frames x u) (escaped (view_of w) x fs w.chain)
  frames-ended x fs u s p q = subst (λ cs. Ended (view u) (search_frames x u) (escaped (view_of w) x fs cs)) q (subst (λ gs. Ended (view u) (search_frames x u) (escaped (view_of w) x gs u.chain)) p (search-ended (view_of w) x (top_func u.frames) (top_pc u.frames) u.frames u refl s))

  stored-works : (pc : RustOption ℕ) {z : View} → Worked none m-ending (view (store_some pc w)) z → Worked none m-ending (view w) z
  stored-works None t = t
  stored-works (Some p) t = tops (set_pc p) (keeps-pc p) tt t

  pub stored-sees : (pc : RustOption ℕ) → Sees (view_of w) (store_some pc w)
  stored-sees None = sees w h
  stored-sees (Some p) = let s = sees w h in record { handlers = s.handlers; coros = s.coros }

  pub word-ended : (x : ℕ) (pc : RustOption ℕ) → Ended (view w) (search_frames x (store_some pc w)) (raised_at (view_of w) (some x) pc)
  word-ended x None = frames-ended x w.frames w (sees w h) refl refl
  word-ended x (Some p) = then-ended (λ y t. tops (set_pc p) (keeps-pc p) tt t) (frames-ended x (at p w.frames) (store_pc p w) (stored-sees (Some p)) (at_top p w.frames) refl)

  -- with the error object made
  pub made-sees : (f : Fault) (u : World) → u.slots ≡ w.slots → u.setup ≡ w.setup → u.chain ≡ w.chain → Sees (view_of w) (with_used (sat_add u.used u.setup.costs.error) (with_slots (push_object u.slots (error_of f u)) u))
  made-sees f u es e q =
      let ys = push_object u.slots (error_of f u) in
      let here : (c : ℕ) → coro_in ys c ≡ coro_in w.slots c = λ c. push-coros u.slots (error_of f u) refl c ∙ ap (λ xs. coro_in xs c) es in
      record {
        handlers = λ n. ap (λ s. (func s n).handlers) (sym e);
        coros = subst (AllSeen (view_of w) ys) (sym q) (all_same (view_of w) w.slots ys here w.chain (sees w h).coros);
      }

  object-at : (f : Fault) (u : World) (fs : List Frame) → u.slots ≡ w.slots → u.setup ≡ w.setup → u.frames ≡ fs → u.chain ≡ w.chain
      → let o = and_then (alloc u.setup.costs.error (error_of f u) u) search_made in Ended (view u) o (counted o.answer (escaped (view_of w) (next_word w.slots) fs w.chain))
  unfolding alloc pick
  object-at f u fs es e p q = go (not (fits u u.setup.costs.error)) (slots_full u)
    where
      y : World
      y = with_used (sat_add u.used u.setup.costs.error) (with_slots (push_object u.slots (error_of f u)) u)

      made : (a b : Bool) → After (Result ℕ Fault)
      made a b = pick a (refuse u Fault.OutOfMemory) (pick b (refuse u Fault.Full) (after y (Ok (next_word u.slots))))

      same : Same u y
      same = record { setup = refl; stack = refl; frames = refl; chain = refl; coros = push-coros u.slots (error_of f u) refl }

      go : (a b : Bool) → Ended (view u) (and_then (made a b) search_made) (counted (and_then (made a b) search_made).answer (escaped (view_of w) (next_word w.slots) fs w.chain))
      go true b = e-works done
      go false true = e-works done
      go false false = ended-counted (then-ended (λ z t. same-worked same t) (subst (λ xs. Ended (view y) (search_frames (next_word u.slots) y) (escaped (view_of w) (next_word xs) fs w.chain)) es (frames-ended (next_word u.slots) fs y (made-sees f u es e q) p q)))

  object-ended : (f : Fault) (pc : RustOption ℕ) → let u = store_some pc w in let o = and_then (alloc u.setup.costs.error (error_of f u) u) search_made in Ended (view w) o (counted o.answer (raised_at (view_of w) (some (next_word w.slots)) pc))
  object-ended f None = object-at f w w.frames refl refl refl refl
  object-ended f (Some p) = then-ended (λ y t. tops (set_pc p) (keeps-pc p) tt t) (object-at f (store_pc p w) (at p w.frames) refl refl (at_top p w.frames) refl)

  -- WHO RETURNS BY AN UNWIND
  pub unwind-ended : (f : Fault) (pc : RustOption ℕ) → Ended (view w) (unwind f pc w) (counted (unwind f pc w).answer (raised_at (view_of w) (raised (view_of w) f) pc))
  unfolding unwind pick
  unwind-ended Fault.None pc = e-works done
  unwind-ended Fault.NullReference pc = object-ended Fault.NullReference pc
  unwind-ended Fault.TypeError pc = object-ended Fault.TypeError pc
  unwind-ended Fault.InvalidCoroState pc = object-ended Fault.InvalidCoroState pc
  unwind-ended Fault.StackOverflow pc = object-ended Fault.StackOverflow pc
  unwind-ended Fault.CannotSuspend pc = object-ended Fault.CannotSuspend pc
  unwind-ended Fault.CloseIgnored pc = object-ended Fault.CloseIgnored pc
  unwind-ended Fault.ArithOverflow pc = object-ended Fault.ArithOverflow pc
  unwind-ended Fault.NoScheduler pc = object-ended Fault.NoScheduler pc
  unwind-ended Fault.OutOfMemory pc = e-works (stored-works pc done)
  unwind-ended Fault.OutOfFuel pc = e-works (stored-works pc done)
  unwind-ended Fault.Unsound pc = e-works done
  unwind-ended Fault.NoFrame pc = e-works done
  unwind-ended Fault.BadOperand pc = e-works done
  unwind-ended Fault.Full pc = e-works done
  unwind-ended Fault.Busy pc = e-works done
  unwind-ended Fault.GrantTooLarge pc = e-works done
  unwind-ended (Fault.Throw x) pc = ended-counted (word-ended x pc)
