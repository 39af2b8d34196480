-- What an unwind answers: the frames are searched as the claim's `unwind_number` does.
use Prim.Native.Nat.{ℕ}
use mathlib.Core.Path.{◌≡◌, refl, sym, ap, ◌∙◌, subst}
use mathlib.Core.Bool.{Bool, true, false, not, ◌||◌}
use mathlib.Core.List.{List, [], ◌∷◌}
use mathlib.Core.Option.{none, some}
use lib.Dec.{eqb}
use borrow.Author.Tests.{eqb-true}
use Rattle.lists.specs.Pick.{pick}
use Rattle.heap.specs.Table.{next_word, push_object}
use Rattle.heap.specs.Charge.{sat_add}
use Rattle.heap.specs.Fault as Faults
use Rattle.heap.specs.declared.fault.Fault.{Fault}
use Rattle.std.specs.Prelude.{Option, Result, Some, None, Ok}
use Rattle.heap.specs.declared.object.CoroState.{CoroState}
use Rattle.model.specs.Program.{func}
use Rattle.model.specs.Object.{Core, Rest, Coroutine, Absent, Is}
use Rattle.model.specs.World.{World, After, after, and_then, with_chain, with_used, with_slots}
use Rattle.model.specs.Frames.{pop_to, store_pc, top_func, top_pc}
use Rattle.model.specs.Heap.{coro, change_as, change_coro, alloc, fits, slots_full, refuse}
use Rattle.model.specs.Fuel.{unbank_at, unbank, spend}
use Rattle.model.specs.Coro.{in_state, ended, fail_to, escaped_on, coro_escaped}
use Rattle.model.specs.Cleanup.{charge_at, charge_slow, charge}
use Rattle.model.specs.Machine.{caught, stop_or, escape, take_handler, search_as, search, error_of, search_frames, search_made, store_some, unwind}
use Rattle.model.specs.Sound.{sound}
use Rattle.model.specs.Answer.{number_of}
use Rattle.model.specs.declared.program.Handler.{Handler}
use Rattle.model.specs.declared.machine.Cont.{Cont}
use Rattle.model.specs.declared.machine.Driver.{Driver}
use Rattle.model.specs.declared.machine.Active.{Active}
use Rattle.model.specs.declared.machine.Frame.{Frame}
use Rattle.model.specs.declared.machine.Fuel.{Fuel}
use Rattle.model.specs.declared.machine.Stop.{Stop}
use Rattle.model.specs.declared.machine.Charge.{Charge}
use Rattle.claims_model.specs.Engine as Engine
use Rattle.claims_model.specs.Says.{banked}
use Rattle.claims_model.specs.Held.{at}
use Rattle.claims_model.specs.Events as Events
use Rattle.claims_model.specs.Events.{goes_on, raised, handled, ending, unwind_number, unwind_number_at}
use Rattle.claims_model.specs.Promise.{bytes_fit}
use Rattle.claims_model.specs.Steps.{view_of}
use Rattle.claims_model.proofs.Bodies.{at_top}
use Rattle.claims_model.proofs.Escapes.{Looks, nothing, found, looks, AllSeen, Sees, failed_by, failed-still, fail-sees, by-signal}
use Rattle.claims_model.proofs.Unwinds.{sees, stored-sees, made-sees}
use Rattle.claims_model.proofs.Exact.{no-some, one-some}

change-fuel : (c : ℕ) (f : Core → Core) (g : Rest → Rest) (w : World) → (change_coro c f g w).fuel ≡ w.fuel
change-fuel c f g w = go (coro w c)
  where
    go : (y : Coroutine) → (change_as y c f g w).fuel ≡ w.fuel
    go Absent = refl
    go (Is k r) = refl

-- ---- a handler's unit

handler-number : (n : Handler) (value : ℕ) (w : World) → number_of (take_handler n value w).answer ≡ pick (eqb w.fuel.fuel 0) (pick (eqb (banked w.fuel.bank) 0) 10 0) 0
unfolding charge charge_slow pick
handler-number n value w = fast (eqb w.fuel.fuel 0) refl
  where
    tail : After Charge → ℕ
    tail ch = number_of (caught n value ch.world ch.answer).answer

    left : (b : Option ℕ) → eqb w.fuel.fuel 0 ≡ true → (unbank_at b w.fuel).fuel ≡ banked b
    left None q = eqb-true w.fuel.fuel 0 q
    left (Some m) q = refl

    slow : (b : Bool) → tail (pick b (after (unbank w) Charge.Spent) (charge_at None (unbank w))) ≡ pick b 10 0
    slow true = refl
    slow false = refl

    fast : (b : Bool) → eqb w.fuel.fuel 0 ≡ b → tail (pick b (charge_slow None w) (after (spend w) (Charge.Done 0))) ≡ pick b (pick (eqb (banked w.fuel.bank) 0) 10 0) 0
    fast false q = refl
    fast true q = slow (eqb (unbank w).fuel.fuel 0) ∙ ap (λ m. pick (eqb m 0) 10 0) (left w.fuel.bank q)

-- ---- the search

module _ (v : Engine.View) (value f pc : ℕ) where
  abbrev Next : List Frame → Type 0
  Next xs = (w : World) → w.frames ≡ xs → Sees v w → w.fuel ≡ v.fuel → number_of (search xs value f pc w).answer ≡ unwind_number v value xs w.chain

  failed-to : (xs : List Frame) → Next xs → (d : Driver) (s : Stop) (w : World) → w.frames ≡ xs → Sees v w → w.fuel ≡ v.fuel
      → number_of (stop_or (search xs value f pc) (fail_to d s w).world (fail_to d s w).answer).answer ≡ pick (goes_on d) (unwind_number v value xs w.chain) 0
  unfolding pick
  failed-to xs next (Driver.Resume dst) s w p h e = next w p h e
  failed-to xs next (Driver.Iter has val iter) s w p h e = next w p h e
  failed-to xs next Driver.Host s w p h e = refl
  failed-to xs next Driver.Finalize s w p h e = refl

  popped : (x : Frame) (xs : List Frame) → Next xs → (w : World) → Sees v w → w.fuel ≡ v.fuel → number_of (search xs value f pc (pop_to x xs w)).answer ≡ unwind_number v value xs w.chain
  popped x xs next w h e = next (pop_to x xs w) refl (record { handlers = h.handlers; coros = h.coros }) e

  body-left : (x : Frame) (xs : List Frame) → Next xs → (w : World) → Sees v w → w.fuel ≡ v.fuel → (cs : List Active) → w.chain ≡ cs
      → number_of (and_then (escaped_on cs value f pc (pop_to x xs w)) (stop_or (search xs value f pc))).answer ≡ ending Cont.Coro v value cs (unwind_number v value xs)
  unfolding pick
  body-left x xs next w h e [] r = popped x xs next w h e ∙ ap (unwind_number v value xs) r
  body-left x xs next w h e (a ∷ chain) r =
      let all = subst (AllSeen v w.slots) r h.coros in
      let g = failed-still value x xs a chain w in
      by-signal v value f pc (search xs value f pc) x xs w a chain all (λ o n. number_of o.answer ≡ n) 0 (pick (goes_on a.driver) (unwind_number v value xs chain) 0) refl
      (failed-to xs next a.driver (Stop.Failed value f pc) (failed_by value x xs a chain w) g.frames (fail-sees v x xs value w a chain h all)
      (change-fuel a.coro (in_state CoroState.Failed) (ended value) (with_chain chain (pop_to x xs w)) ∙ e)
      ∙ ap (λ cs. pick (goes_on a.driver) (unwind_number v value xs cs) 0) g.chain)

  leaving : (x : Frame) (xs : List Frame) → Next xs → (w : World) → Sees v w → w.fuel ≡ v.fuel → (c : Cont) → number_of (escape c value f pc (search xs value f pc) (pop_to x xs w)).answer ≡ ending c v value w.chain (unwind_number v value xs)
  unfolding coro_escaped
  leaving x xs next w h e Cont.Entry = refl
  leaving x xs next w h e (Cont.Write r) = popped x xs next w h e
  leaving x xs next w h e (Cont.Dyn r) = popped x xs next w h e
  leaving x xs next w h e (Cont.Value r) = popped x xs next w h e
  leaving x xs next w h e Cont.Discard = popped x xs next w h e
  leaving x xs next w h e Cont.Coro = body-left x xs next w h e w.chain refl

  looked : (x : Frame) (xs : List Frame) → Next xs → (w : World) → Sees v w → w.fuel ≡ v.fuel → {c : Option Handler} {b : Bool}
      → Looks (func w.setup x.func).handlers x.pc c b → number_of (search_as c x xs value f pc (search xs value f pc) w).answer ≡ pick b (handled v) (ending x.cont v value w.chain (unwind_number v value xs))
  unfolding pick
  looked x xs next w h e nothing = leaving x xs next w h e x.cont
  looked x xs next w h e (found n) = handler-number n value w ∙ ap (λ (t : Fuel). pick (eqb t.fuel 0) (pick (eqb (banked t.bank) 0) 10 0) 0) e

  pub search-ends : (fs : List Frame) → Next fs
  search-ends [] w p h e = refl
  search-ends (x ∷ xs) w p h e =
      subst (λ hs. number_of (search (x ∷ xs) value f pc w).answer ≡ pick (Events.caught hs x.pc) (handled v) (ending x.cont v value w.chain (unwind_number v value xs))) (sym (h.handlers x.func))
      (looked x xs (search-ends xs) w h e (looks (func w.setup x.func).handlers x.pc))

-- ---- unwind

module _ (w : World) (h : sound w ≡ true) where
  -- a word is raised at u, which is w but for objects and the top pc
  frames-end : (x : ℕ) (fs : List Frame) (u : World) → Sees (view_of w) u → u.frames ≡ fs → u.chain ≡ w.chain → u.fuel ≡ w.fuel → number_of (search_frames x u).answer ≡ unwind_number (view_of w) x fs w.chain
  frames-end x fs u s p q e = search-ends (view_of w) x (top_func u.frames) (top_pc u.frames) u.frames u refl s e ∙ (λ i. unwind_number (view_of w) x (p i) (q i))

  word-ends : (x : ℕ) (pc : Option ℕ) → number_of (search_frames x (store_some pc w)).answer ≡ unwind_number_at (view_of w) x pc
  word-ends x None = frames-end x w.frames w (sees w h) refl refl refl
  word-ends x (Some p) = frames-end x (at p w.frames) (store_pc p w) (stored-sees w h (Some p)) (at_top p w.frames) refl refl

  object-at : (f : Fault) (u : World) (fs : List Frame) → u.slots ≡ w.slots → u.setup ≡ w.setup → u.frames ≡ fs → u.chain ≡ w.chain → u.fuel ≡ w.fuel
      → number_of (and_then (alloc u.setup.costs.error (error_of f u) u) search_made).answer ≡ pick (fits u u.setup.costs.error) (pick (slots_full u) 14 (unwind_number (view_of w) (next_word w.slots) fs w.chain)) 9
  unfolding alloc pick
  object-at f u fs es e p q t = go (fits u u.setup.costs.error) (slots_full u)
    where
      y : World
      y = with_used (sat_add u.used u.setup.costs.error) (with_slots (push_object u.slots (error_of f u)) u)

      made : (a b : Bool) → After (Result ℕ Fault)
      made a b = pick a (refuse u Fault.OutOfMemory) (pick b (refuse u Fault.Full) (after y (Ok (next_word u.slots))))

      go : (a b : Bool) → number_of (and_then (made (not a) b) search_made).answer ≡ pick a (pick b 14 (unwind_number (view_of w) (next_word w.slots) fs w.chain)) 9
      go false b = refl
      go true true = refl
      go true false = frames-end (next_word u.slots) fs y (made-sees w h f u es e q) p q t ∙ ap (λ xs. unwind_number (view_of w) (next_word xs) fs w.chain) es

  abbrev Made : ℕ → Option ℕ → ℕ
  Made x pc = let v = view_of w in pick (bytes_fit v v.rules.error_cost) (pick v.full 14 (unwind_number_at v x pc)) 9

  object-ends : (f : Fault) (pc : Option ℕ) (x : ℕ) → next_word w.slots ≡ x → let u = store_some pc w in number_of (and_then (alloc u.setup.costs.error (error_of f u) u) search_made).answer ≡ Made x pc
  object-ends f None x e = object-at f w w.frames refl refl refl refl refl ∙ ap (λ y. Made y None) e
  object-ends f (Some p) x e = object-at f (store_pc p w) (at p w.frames) refl refl (at_top p w.frames) refl refl ∙ ap (λ y. Made y (Some p)) e

  pub throw-answer : (x : ℕ) (pc : Option ℕ) → number_of (unwind (Fault.Throw x) pc w).answer ≡ unwind_number_at (view_of w) x pc
  unfolding unwind pick
  throw-answer x pc = word-ends x pc

  pub raise-answer : (f : Fault) (pc : Option ℕ) (x : ℕ) → ((y : ℕ) → f ≡ Fault.Throw y → ⊥) → raised (view_of w) f ≡ some x → number_of (unwind f pc w).answer ≡ Made x pc
  unfolding unwind pick
  raise-answer Fault.None pc x n e = no-some refl e
  raise-answer Fault.NullReference pc x n e = object-ends Fault.NullReference pc x (one-some refl e)
  raise-answer Fault.TypeError pc x n e = object-ends Fault.TypeError pc x (one-some refl e)
  raise-answer Fault.InvalidCoroState pc x n e = object-ends Fault.InvalidCoroState pc x (one-some refl e)
  raise-answer Fault.StackOverflow pc x n e = object-ends Fault.StackOverflow pc x (one-some refl e)
  raise-answer Fault.CannotSuspend pc x n e = object-ends Fault.CannotSuspend pc x (one-some refl e)
  raise-answer Fault.CloseIgnored pc x n e = object-ends Fault.CloseIgnored pc x (one-some refl e)
  raise-answer Fault.ArithOverflow pc x n e = object-ends Fault.ArithOverflow pc x (one-some refl e)
  raise-answer Fault.NoScheduler pc x n e = object-ends Fault.NoScheduler pc x (one-some refl e)
  raise-answer Fault.OutOfMemory pc x n e = no-some refl e
  raise-answer Fault.OutOfFuel pc x n e = no-some refl e
  raise-answer Fault.Unsound pc x n e = no-some refl e
  raise-answer Fault.NoFrame pc x n e = no-some refl e
  raise-answer Fault.BadOperand pc x n e = no-some refl e
  raise-answer Fault.Full pc x n e = no-some refl e
  raise-answer Fault.Busy pc x n e = no-some refl e
  raise-answer Fault.GrantTooLarge pc x n e = no-some refl e
  raise-answer (Fault.Throw y) pc x n e = absurd (n y refl)

  pub pass-answer : (f : Fault) (pc : Option ℕ) → raised (view_of w) f ≡ none → number_of (unwind f pc w).answer ≡ pick (eqb (Faults.number_of f) 9 || eqb (Faults.number_of f) 10) (Faults.number_of f) 11
  unfolding unwind pick
  pass-answer Fault.None pc e = refl
  pass-answer Fault.NullReference pc e = no-some e refl
  pass-answer Fault.TypeError pc e = no-some e refl
  pass-answer Fault.InvalidCoroState pc e = no-some e refl
  pass-answer Fault.StackOverflow pc e = no-some e refl
  pass-answer Fault.CannotSuspend pc e = no-some e refl
  pass-answer Fault.CloseIgnored pc e = no-some e refl
  pass-answer Fault.ArithOverflow pc e = no-some e refl
  pass-answer Fault.NoScheduler pc e = no-some e refl
  pass-answer Fault.OutOfMemory pc e = refl
  pass-answer Fault.OutOfFuel pc e = refl
  pass-answer Fault.Unsound pc e = refl
  pass-answer Fault.NoFrame pc e = refl
  pass-answer Fault.BadOperand pc e = refl
  pass-answer Fault.Full pc e = refl
  pass-answer Fault.Busy pc e = refl
  pass-answer Fault.GrantTooLarge pc e = refl
  pass-answer (Fault.Throw x) pc e = no-some e refl
