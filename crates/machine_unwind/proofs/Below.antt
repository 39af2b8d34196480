-- A turn of a sound world is a turn of the definition's search: it ends there, or goes on below, in a sound world. Assumes nothing.
use mathlib.Core.Path.{◌≡◌, refl, sym, ap, ◌∙◌, subst}
use mathlib.Core.Bool.{Bool, true, false}
use mathlib.Core.List.{List, [], ◌∷◌}
use Prim.Native.Nat.{ℕ, ◌^◌, ◌<◌}
use native.Mathlib.Omega.{arith}
use lib.ListN.{length}
use lib.Dec.{ltb}
use borrow.Author.Tests.{lt-ltb}
use Rattle.lists.specs.Pick.{pick}
use Rattle.heap.specs.declared.object.CoroState.{CoroState}
use Rattle.model.specs.Program.{Setup}
use Rattle.model.specs.World.{World, After, with_chain}
use Rattle.model.specs.Frames.{is_coro, pop_to}
use Rattle.model.specs.Heap.{coro}
use Rattle.model.specs.Coro.{in_state, ended, finish_coroutine, closed_by, fail_to, escaped_on, coro_escaped}
use Rattle.model.specs.Cleanup.{charge}
use Rattle.model.specs.Machine.{caught, stop_or, escape, search_as, handler_of, search}
use Rattle.model.specs.Sound.{sound}
use Rattle.model.specs.declared.call.Answer.{Answer}
use Rattle.std.specs.Prelude.{Option, Some, None}
use Rattle.model.specs.declared.machine.Active.{Active}
use Rattle.model.specs.declared.machine.Charge.{Charge}
use Rattle.model.specs.declared.machine.Cont.{Cont}
use Rattle.model.specs.declared.machine.Driver.{Driver}
use Rattle.model.specs.declared.machine.Frame.{Frame}
use Rattle.model.specs.declared.machine.Stop.{Stop}
use Rattle.model.specs.declared.program.Handler.{Handler}
use Rattle.claims_sound.proofs.Tests.{no_false, no_true, picked}
use Rattle.claims_sound.proofs.Sound.{→sound}
use Rattle.claims_sound.proofs.Tower.{pop-sound}
use Rattle.claims_sound.proofs.Coros.{changed}
use Rattle.claims_sound.proofs.End.{escaped-good}
use Rattle.machine_state.proofs.Tops.{known}
use Rattle.machine_unwind.specs.Turns.{on, goes_on, turn_on, turn, search_from}

-- ---- an escape that goes on leaves the set-up

abbrev Stays : Setup → After Bool → Type 0
Stays s o = o.answer ≡ false → o.world.setup ≡ s

fail-stays : (s : Setup) (d : Driver) (t : Stop) (u : World) → u.setup ≡ s → Stays s (fail_to d t u)
fail-stays s (Driver.Resume dst) t u e = λ _. e
fail-stays s (Driver.Iter has val iter) t u e = λ _. e
fail-stays s Driver.Host t u e = λ z. no_true z
fail-stays s Driver.Finalize t u e = λ z. no_true z

escaped-stays : (value fn pc : ℕ) (w : World) → Stays w.setup (coro_escaped value fn pc w)
unfolding coro_escaped
escaped-stays value fn pc w = go w.chain
  where
    go : (chain : List Active) → Stays w.setup (escaped_on chain value fn pc w)
    go [] = λ _. refl
    go (a ∷ chain) =
        picked (Stays w.setup) (closed_by (coro w a.coro) value) (λ _ z. no_true z)
        (λ _. fail-stays w.setup a.driver (Stop.Failed value fn pc) (finish_coroutine a.coro CoroState.Failed value (with_chain chain w))
        (changed (λ u. u.setup ≡ w.setup) (with_chain chain w) a.coro (in_state CoroState.Failed) (ended value) refl (λ k r e. refl)))

-- ---- a turn

module _ (value fn pc : ℕ) where
  -- the search goes on in u
  pub record Below (w u : World) : Type 0 where
    pub sound : sound u ≡ true
    pub setup : u.setup ≡ w.setup
    pub fewer : length u.frames < length w.frames
    pub same : search_from value fn pc w ≡ search_from value fn pc u

  pub record Steps (w : World) (o : After Answer) : Type 0 where
    pub on : goes_on o.answer ≡ true → Below w o.world
    pub ends : goes_on o.answer ≡ false → search_from value fn pc w ≡ o

  -- a handler ends it
  taken-ends : (h : Handler) (u : World) (c : Charge) → goes_on (caught h value u c).answer ≡ false
  taken-ends h u (Charge.Done n) = refl
  taken-ends h u Charge.Spent = refl
  taken-ends h u (Charge.Close n) = refl

  module _ (w : World) (snd : sound w ≡ true) (x : Frame) (xs : List Frame) (are : w.frames ≡ x ∷ xs) where
    abbrev found : Option Handler
    found = handler_of x w

    abbrev next : World → After Answer
    next = search xs value fn pc

    search_is : search_from value fn pc w ≡ search_as found x xs value fn pc next w
    unfolding search_from
    search_is = ap (λ fs. search fs value fn pc w) are

    turn_is : turn value fn pc w ≡ search_as found x xs value fn pc on w
    unfolding turn
    turn_is = ap (λ fs. turn_on fs value fn pc w) are

    -- below the frame that is gone
    below : (u : World) → sound u ≡ true → u.setup ≡ w.setup → u.frames ≡ xs → search_from value fn pc w ≡ next u → Below w u
    unfolding search_from
    below u s e f q =
        let n = ap length are in
        let k = ap length f in
        record { sound = s; setup = e; fewer = omega arith; same = q ∙ ap (λ fs. search fs value fn pc u) (sym f) }

    popped : (e : is_coro x.cont ≡ false) → search_from value fn pc w ≡ next (pop_to x xs w) → Below w (pop_to x xs w)
    popped e q = below (pop_to x xs w) (→sound (pop_to x xs w) (pop-sound x xs w are e (known w snd))) refl refl q

    abbrev escaped : After Bool
    escaped = coro_escaped value fn pc (pop_to x xs w)

    body : ltb fn (2 ^ 32) ≡ true → ltb pc (2 ^ 32) ≡ true → is_coro x.cont ≡ true → search_from value fn pc w ≡ stop_or next escaped.world escaped.answer → Steps w (stop_or on escaped.world escaped.answer)
    unfolding pick
    body a b c q = go escaped.answer refl q
      where
        go : (stops : Bool) → escaped.answer ≡ stops → search_from value fn pc w ≡ stop_or next escaped.world stops → Steps w (stop_or on escaped.world stops)
        go true e q = record { on = λ z. no_false z; ends = λ _. q }
        go false e q =
            let good = escaped-good w x xs (known w snd) are c value fn pc a b in
            record { on = λ _. below escaped.world (→sound escaped.world good.sound) (escaped-stays value fn pc (pop_to x xs w) e) (good.fact e) q; ends = λ z. no_true z }

    leaves : ltb fn (2 ^ 32) ≡ true → ltb pc (2 ^ 32) ≡ true → (k : Cont) → x.cont ≡ k → search_from value fn pc w ≡ escape k value fn pc next (pop_to x xs w) → Steps w (escape k value fn pc on (pop_to x xs w))
    leaves a b Cont.Entry e q = record { on = λ z. no_false z; ends = λ _. q }
    leaves a b (Cont.Write r) e q = record { on = λ _. popped (ap is_coro e) q; ends = λ z. no_true z }
    leaves a b (Cont.Dyn r) e q = record { on = λ _. popped (ap is_coro e) q; ends = λ z. no_true z }
    leaves a b (Cont.Value r) e q = record { on = λ _. popped (ap is_coro e) q; ends = λ z. no_true z }
    leaves a b Cont.Discard e q = record { on = λ _. popped (ap is_coro e) q; ends = λ z. no_true z }
    leaves a b Cont.Coro e q = body a b (ap is_coro e) q

    pub turn-steps : fn < 2 ^ 32 → pc < 2 ^ 32 → Steps w (turn value fn pc w)
    turn-steps a b = subst (Steps w) (sym turn_is) (go found search_is)
      where
        go : (c : Option Handler) → search_from value fn pc w ≡ search_as c x xs value fn pc next w → Steps w (search_as c x xs value fn pc on w)
        go None q = leaves (lt-ltb fn (2 ^ 32) a) (lt-ltb pc (2 ^ 32) b) x.cont refl q
        go (Some h) q = let p = charge None w in record { on = λ z. no_true (sym z ∙ taken-ends h p.world p.answer); ends = λ _. q }
