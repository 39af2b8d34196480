-- unwind: who fails by it. The frames are searched as the claim's `lost` does.
use Prim.Native.Nat.{ℕ}
use native.Mathlib.Decide.{ℕ_discrete}
use mathlib.Core.Path.{◌≡◌, refl, sym, ap, ◌∙◌, subst}
use mathlib.Core.Logic.{◌⊎◌, inl, inr}
use mathlib.Core.Bool.{Bool, true, false, ◌||◌}
use mathlib.Core.List.{List, [], ◌∷◌}
use lib.Dec.{eqb}
use borrow.Author.Tests.{eqb-true, eqb-false}
use Rattle.lists.specs.Pick.{pick}
use Rattle.heap.specs.Word.{nil}
use Rattle.heap.specs.declared.object.CoroState.{CoroState}
use Rattle.model.specs.State.{is_created, is_running}
use Rattle.model.specs.Program.{func}
use Rattle.model.specs.Object.{Coroutine, Absent, Is}
use Rattle.model.specs.World.{World, After, and_then, with_chain}
use Rattle.model.specs.Frames.{is_coro, pop_to}
use Rattle.model.specs.Heap.{coro}
use Rattle.model.specs.Coro.{fail_to, escaped_on, coro_escaped}
use Rattle.model.specs.Cleanup.{charge}
use Rattle.model.specs.Machine.{caught, stop_or, escape, search_as, search}
use Rattle.model.specs.Answer.{number_of}
use Rattle.std.specs.Prelude.{Option, None}
use Rattle.model.specs.declared.program.Handler.{Handler}
use Rattle.model.specs.declared.machine.Cont.{Cont}
use Rattle.model.specs.declared.machine.Driver.{Driver}
use Rattle.model.specs.declared.machine.Active.{Active}
use Rattle.model.specs.declared.machine.Frame.{Frame}
use Rattle.model.specs.declared.machine.Stop.{Stop}
use Rattle.model.specs.declared.machine.Charge.{Charge}
use Rattle.model.specs.declared.call.Answer.{Answer}
use Rattle.claims_model.specs.Engine as Engine
use Rattle.claims_model.specs.Engine.{seen_in, state_is}
use Rattle.claims_model.specs.Events as Events
use Rattle.claims_model.specs.Events.{among, goes_on, losing, lost, ended_as}
use Rattle.claims_model.specs.Steps.{seen_of}
use Rattle.claims_model.proofs.Held.{Seat, core_in, core_at}
use Rattle.claims_model.proofs.Cores.{no_both}
use Rattle.claims_model.proofs.Shape.{over, Ends}
use Rattle.claims_model.proofs.Events.{run-born}
use Rattle.claims_model.proofs.Enters.{charge-none}
use Rattle.claims_model.proofs.Views.{runs-state}
use Rattle.claims_model.proofs.Quiet.{finish-ends, Still}
use Rattle.claims_model.proofs.Ended.{run-seen}
use Rattle.claims_model.proofs.Endings.{return-done}
use Rattle.claims_model.proofs.Escapes.{Looks, nothing, found, looks, AllSeen, Sees, failed_by, failed_on, failed-still, fail-sees, by-signal}

-- an error object could not be made
abbrev pub unmade : Answer → Bool
unmade a = eqb (number_of a) 9 || eqb (number_of a) 14

abbrev pub is_failed : CoroState → Bool
is_failed s = Events.seen_failed s

-- it has failed, with the result x
abbrev pub Dead : ℕ → Seat → Type 0
Dead x k = (k.state ≡ CoroState.Failed) × (k.seen ≡ ended_as CoroState.Failed x)

pub dead-same : {x : ℕ} {k l : Seat} → l ≡ k → Dead x k → Dead x l
dead-same e h = (ap (λ (y : Seat). y.state) e ∙ h.0, ap (λ (y : Seat). y.seen) e ∙ h.1)

-- of those that ran at w these have failed of the word x, and no other has
pub record Loses (x : ℕ) (w : World) (o : After Answer) (xs : List ℕ) : Type 0 where
  pub gone : (c : ℕ) → among c xs ≡ true → (is_running (core_at w c).state ≡ true) × Dead x (core_at o.world c)
  pub stays : (c : ℕ) → among c xs ≡ false → is_running (core_at w c).state ≡ true → is_failed (core_at o.world c).state ≡ false
  pub failed : (c : ℕ) → Dead x (core_at w c) → Dead x (core_at o.world c)
  pub made : unmade o.answer ≡ false

pub run-fails : (s : CoroState) → is_running s ≡ true → is_failed s ≡ false
run-fails CoroState.Created h = refl
run-fails CoroState.Running h = refl
run-fails CoroState.Yielded h = refl
run-fails CoroState.Awaiting h = refl
run-fails CoroState.Returned h = refl
run-fails CoroState.Failed h = sym h

-- nobody
pub loses-none : {x : ℕ} (w : World) (o : After Answer) → ((c : ℕ) → core_at o.world c ≡ core_at w c) → unmade o.answer ≡ false → Loses x w o []
loses-none w o e m = record {
  gone = λ c h. no_both h refl;
  stays = λ c h r. ap (λ k. is_failed k.state) (e c) ∙ run-fails (core_at w c).state r;
  failed = λ c h. dead-same (e c) h;
  made = m;
}

-- one that returns has not failed
loses-return : {x : ℕ} (w : World) (o : After Answer) (v : ℕ) → Ends CoroState.Returned v (core_at w) (core_at o.world) → is_running (core_at w v).state ≡ true → unmade o.answer ≡ false → Loses x w o []
loses-return {x} w o v e b m = record {
  gone = λ c h. no_both h refl;
  stays = λ c h r. not-failed c r (ℕ_discrete c v);
  failed = λ c h. still c h (ℕ_discrete c v);
  made = m;
}
  where
    mine : (core_at o.world v ≡ over CoroState.Returned (core_at o.world v).seen (core_at w v)) ⊎ ((is_created (core_at w v).state ≡ true) × (core_at o.world v ≡ core_at w v)) → is_failed (core_at o.world v).state ≡ false
    mine (inl x) = ap (λ k. is_failed k.state) x
    mine (inr x) = no_both x.0 (run-born (core_at w v).state b)

    not-failed : (c : ℕ) → is_running (core_at w c).state ≡ true → Dec (c ≡ v) → is_failed (core_at o.world c).state ≡ false
    not-failed c r (yes q) = ap (λ x. is_failed (core_at o.world x).state) q ∙ mine e.mine
    not-failed c r (no q) = ap (λ k. is_failed k.state) (e.others c q) ∙ run-fails (core_at w c).state r

    still : (c : ℕ) → Dead x (core_at w c) → Dec (c ≡ v) → Dead x (core_at o.world c)
    still c h (yes q) = no_both b (ap (λ x. is_running (core_at w x).state) (sym q) ∙ ap is_running h.0)
    still c h (no q) = dead-same (e.others c q) h

either : (a b : Bool) → (a || b) ≡ true → (a ≡ true) ⊎ (b ≡ true)
either true b h = inl refl
either false b h = inr h

neither : (a b : Bool) → (a || b) ≡ false → (a ≡ false) × (b ≡ false)
neither true b h = no_both refl h
neither false b h = (refl, h)

-- v fails, at y, and then others
loses-more : (x : ℕ) (w y : World) (o : After Answer) (v : ℕ) (xs : List ℕ) → Ends CoroState.Failed v (core_at w) (core_at y) → (core_at y v).seen ≡ ended_as CoroState.Failed x
    → is_running (core_at w v).state ≡ true → Loses x y o xs → Loses x w o (v ∷ xs)
loses-more x w y o v xs e d b l = record {
  gone = λ c h. first c (either (eqb c v) (among c xs) h);
  stays = λ c h r. let n = neither (eqb c v) (among c xs) h in l.stays c n.1 (ap (λ k. is_running k.state) (e.others c (eqb-false c v n.0)) ∙ r);
  failed = λ c h. l.failed c (before c h (ℕ_discrete c v));
  made = l.made;
}
  where
    mine : (core_at y v ≡ over CoroState.Failed (core_at y v).seen (core_at w v)) ⊎ ((is_created (core_at w v).state ≡ true) × (core_at y v ≡ core_at w v)) → (core_at y v).state ≡ CoroState.Failed
    mine (inl x) = ap (λ k. k.state) x
    mine (inr x) = no_both x.0 (run-born (core_at w v).state b)

    at-v : (c : ℕ) → c ≡ v → Dead x (core_at y c)
    at-v c q = dead-same (ap (core_at y) q) (mine e.mine, d)

    here : (c : ℕ) → c ≡ v → (is_running (core_at w c).state ≡ true) × Dead x (core_at o.world c)
    here c q = (ap (λ x. is_running (core_at w x).state) q ∙ b, l.failed c (at-v c q))

    before : (c : ℕ) → Dead x (core_at w c) → Dec (c ≡ v) → Dead x (core_at y c)
    before c h (yes q) = at-v c q
    before c h (no q) = dead-same (e.others c q) h

    other : (c : ℕ) → (is_running (core_at y c).state ≡ true) × Dead x (core_at o.world c) → Dec (c ≡ v) → (is_running (core_at w c).state ≡ true) × Dead x (core_at o.world c)
    other c h (yes q) = here c q
    other c h (no q) = (ap (λ k. is_running k.state) (sym (e.others c q)) ∙ h.0, h.1)

    first : (c : ℕ) → (eqb c v ≡ true) ⊎ (among c xs ≡ true) → (is_running (core_at w c).state ≡ true) × Dead x (core_at o.world c)
    first c (inl q) = here c (eqb-true c v q)
    first c (inr q) = other c (l.gone c q) (ℕ_discrete c v)

-- all of the chain run
abbrev pub AllRun : Engine.View → List Active → Type 0
AllRun v [] = Unit {0}
AllRun v (a ∷ chain) = (state_is v Engine.seen_running a.coro ≡ true) × AllRun v chain

-- ---- the search

module _ (v : Engine.View) (value f pc : ℕ) where
  abbrev Next : List Frame → Type 0
  Next xs = (w : World) → w.frames ≡ xs → Sees v w → AllRun v w.chain → Loses value w (search xs value f pc w) (lost v value xs w.chain)

  failed-to : (xs : List Frame) → Next xs → (d : Driver) (s : Stop) (w : World) → w.frames ≡ xs → Sees v w → AllRun v w.chain → Loses value w (stop_or (search xs value f pc) (fail_to d s w).world (fail_to d s w).answer) (pick (goes_on d) (lost v value xs w.chain) [])
  unfolding pick
  failed-to xs next (Driver.Resume dst) s w p h r = next w p h r
  failed-to xs next (Driver.Iter has val iter) s w p h r = next w p h r
  failed-to xs next Driver.Host s w p h r = loses-none w _ (λ c. refl) refl
  failed-to xs next Driver.Finalize s w p h r = loses-none w _ (λ c. refl) refl

  seen-runs : (x : Coroutine) (c : ℕ) → seen_of x ≡ v.coro c → state_is v Engine.seen_running c ≡ true → is_running (core_in x).state ≡ true
  seen-runs x c e h = go x (ap (seen_in (λ y. Engine.seen_running y.state)) e ∙ h)
    where
      go : (x : Coroutine) → seen_in (λ y. Engine.seen_running y.state) (seen_of x) ≡ true → is_running (core_in x).state ≡ true
      go Absent q = no_both q refl
      go (Is k r) q = sym (runs-state k.state) ∙ q

  popped : (x : Frame) (xs : List Frame) → Next xs → (w : World) → Sees v w → AllRun v w.chain → Loses value w (search xs value f pc (pop_to x xs w)) (lost v value xs w.chain)
  popped x xs next w h rs = let l = next (pop_to x xs w) refl (record { handlers = h.handlers; coros = h.coros }) rs in record { gone = l.gone; stays = l.stays; failed = l.failed; made = l.made }

  body-left : (x : Frame) (xs : List Frame) → Next xs → (w : World) → w.frames ≡ x ∷ xs → is_coro x.cont ≡ true → Sees v w → AllRun v w.chain → (cs : List Active) → w.chain ≡ cs
      → Loses value w (and_then (escaped_on cs value f pc (pop_to x xs w)) (stop_or (search xs value f pc))) (losing Cont.Coro v value cs (lost v value xs))
  unfolding pick
  body-left x xs next w p q h rs [] r = subst (λ cs. Loses value w (search xs value f pc (pop_to x xs w)) (lost v value xs cs)) r (popped x xs next w h rs)
  body-left x xs next w p q h rs (a ∷ chain) r =
      by-signal v value f pc (search xs value f pc) x xs w a chain all (Loses value w) [] (a.coro ∷ pick (goes_on a.driver) (lost v value xs chain) []) (loses-return w _ a.coro (return-done nil x xs w a chain p q r).ends ran refl)
      (let e = finish-ends a.coro CoroState.Failed value u in
      loses-more value w (failed_by value x xs a chain w) rest a.coro (pick (goes_on a.driver) (lost v value xs chain) []) (record { mine = e.mine; others = e.others }) (run-seen a.coro CoroState.Failed value u refl ran) ran then)
    where
      u : World
      u = with_chain chain (pop_to x xs w)

      all : AllSeen v w.slots (a ∷ chain)
      all = subst (AllSeen v w.slots) r h.coros

      runs : AllRun v (a ∷ chain)
      runs = subst (AllRun v) r rs

      ran : is_running (core_at w a.coro).state ≡ true
      ran = seen-runs (coro w a.coro) a.coro all.0 runs.0

      still : Still u (failed_by value x xs a chain w)
      still = failed-still value x xs a chain w

      rest : After Answer
      rest = failed_on (search xs value f pc) value f pc x xs a chain w

      then : Loses value (failed_by value x xs a chain w) rest (pick (goes_on a.driver) (lost v value xs chain) [])
      then = subst (λ cs. Loses value (failed_by value x xs a chain w) rest (pick (goes_on a.driver) (lost v value xs cs) [])) still.chain
          (failed-to xs next a.driver (Stop.Failed value f pc) (failed_by value x xs a chain w) still.frames (fail-sees v x xs value w a chain h all) (subst (AllRun v) (sym still.chain) runs.1))

  leaving : (x : Frame) (xs : List Frame) → Next xs → (w : World) → w.frames ≡ x ∷ xs → Sees v w → AllRun v w.chain → (c : Cont) → x.cont ≡ c → Loses value w (escape c value f pc (search xs value f pc) (pop_to x xs w)) (losing c v value w.chain (lost v value xs))
  unfolding coro_escaped
  leaving x xs next w p h rs Cont.Entry q = loses-none w _ (λ c. refl) refl
  leaving x xs next w p h rs (Cont.Write r) q = popped x xs next w h rs
  leaving x xs next w p h rs (Cont.Dyn r) q = popped x xs next w h rs
  leaving x xs next w p h rs (Cont.Value r) q = popped x xs next w h rs
  leaving x xs next w p h rs Cont.Discard q = popped x xs next w h rs
  leaving x xs next w p h rs Cont.Coro q = body-left x xs next w p (ap is_coro q) h rs w.chain refl

  looked : (x : Frame) (xs : List Frame) → Next xs → (w : World) → w.frames ≡ x ∷ xs → Sees v w → AllRun v w.chain → {c : Option Handler} {b : Bool}
      → Looks (func w.setup x.func).handlers x.pc c b → Loses value w (search_as c x xs value f pc (search xs value f pc) w) (pick b [] (losing x.cont v value w.chain (lost v value xs)))
  unfolding pick
  looked x xs next w p h rs nothing = leaving x xs next w p h rs x.cont refl
  looked x xs next w p h rs (found n) = handled (charge None w).answer
    where
      handled : (ch : Charge) → Loses value w (caught n value (charge None w).world ch) []
      handled (Charge.Done i) = loses-none w _ (λ c. ap core_in ((charge-none w).coros c)) refl
      handled Charge.Spent = loses-none w _ (λ c. ap core_in ((charge-none w).coros c)) refl
      handled (Charge.Close i) = loses-none w _ (λ c. ap core_in ((charge-none w).coros c)) refl

  pub search-loses : (fs : List Frame) → Next fs
  search-loses [] w p h rs = loses-none w _ (λ c. refl) refl
  search-loses (x ∷ xs) w p h rs =
      subst (λ hs. Loses value w (search (x ∷ xs) value f pc w) (pick (Events.caught hs x.pc) [] (losing x.cont v value w.chain (lost v value xs)))) (sym (h.handlers x.func))
      (looked x xs (search-loses xs) w p h rs (looks (func w.setup x.func).handlers x.pc))
