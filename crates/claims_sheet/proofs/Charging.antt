-- The sheet's lines for the gate and the charge of an instruction.
use Prim.Native.Nat.{ℕ, suc, ◌+◌, ◌-◌}
use mathlib.Core.Path.{◌≡◌, refl, ap, ◌∙◌}
use mathlib.Core.Bool.{Bool, true, false, not, ◌&&◌, ◌||◌, true≢false, false≢true}
use mathlib.Core.List.{List, [], ◌∷◌}
use native.Mathlib.Omega.{arith}
use lib.ListN.{get_or, drop}
use lib.Dec.{eqb}
use Rattle.lists.specs.Pick.{pick}
use Rattle.heap.specs.declared.fault.Fault.{Fault}
use Rattle.std.specs.Prelude.{Option, Result, Some, None, Ok, Err}
use Rattle.model.specs.declared.coro.Entered.{Entered}
use Rattle.heap.specs.declared.object.CoroState.{CoroState}
use Rattle.model.specs.Lists.{is_nil}
use Rattle.model.specs.State.{is_created, is_suspended, is_resumable}
use Rattle.model.specs.Object.{Core, Rest, Object, Coroutine, Is, as_coro}
use Rattle.model.specs.World.{World, After, after, with_finalize, with_finalizing, with_fuel}
use Rattle.model.specs.Frames.{store_pc}
use Rattle.model.specs.Heap.{coro, change_coro}
use Rattle.model.specs.Fuel.{unbank, unbank_at, set_finalizing, spend}
use Rattle.model.specs.Coro as Coros
use Rattle.model.specs.Coro.{overflows, enter_as, coro_enter}
use Rattle.model.specs.Cleanup.{coro_suspended, is_entered, close, started, start_from, start_finalizer, charge_done, charge_or, charge_at, charge_slow, charge}
use Rattle.model.specs.declared.machine.Driver.{Driver}
use Rattle.model.specs.declared.machine.Fuel.{Fuel}
use Rattle.model.specs.declared.machine.Charge.{Charge}
use Rattle.model.specs.declared.coro.Started.{Started}
use Rattle.claims_sheet.specs.Words.{found, is_coroutine, core_of, rest_of, state, suspended}
use Rattle.claims_sheet.specs.Moves.{pc_stored, entered, entered_closing}
use Rattle.claims_sheet.specs.Charging.{amount, reserve, fuelled, used_up, bank_back, searches, closable, queue_from, taken, cleanup, charged, lost}
use Rattle.claims_sheet.proofs.Among.{and_left}
use Rattle.claims_sheet.proofs.Moved.{stored, coro-is, closing-is}
use Rattle.claims_sheet.proofs.Asking.{Saved}

-- ---- the bank

pub unbank-is : (w : World) → unbank w ≡ bank_back w
unbank-is w = ap (λ f. with_fuel f w) (go w.fuel.bank w.fuel refl)
  where
    go : (b : Option ℕ) (f : Fuel) → f.bank ≡ b → unbank_at b f ≡ record { fuel = amount b f.fuel; bank = None; ready = f.ready }
    go None f e = λ i. record { fuel = f.fuel; bank = e i; ready = f.ready }
    go (Some n) f e = refl

-- ---- the search

pub suspends : (s : CoroState) → is_suspended s ≡ suspended s
suspends CoroState.Created = refl
suspends CoroState.Running = refl
suspends CoroState.Yielded = refl
suspends CoroState.Awaiting = refl
suspends CoroState.Returned = refl
suspends CoroState.Failed = refl

abbrev entered_by : Coroutine → ℕ → World → Bool
entered_by x c y = coro_suspended x && is_entered (enter_as x c Driver.Finalize y).answer

starts_by : (s : CoroState) (none high b : Bool) (y : World) (z : After (Result Entered Fault)) (d : ℕ) → z.answer ≡ pick b (Ok Entered.Fresh) (Ok (Entered.Suspended d)) → (is_resumable s ≡ true → none ≡ false) →
    is_suspended s && is_entered (pick (not (is_resumable s) || none) (after y (Err Fault.InvalidCoroState)) (pick high (after y (Err Fault.StackOverflow)) z)).answer ≡ suspended s && not high
unfolding pick
starts_by CoroState.Created none high b y z d e h = refl
starts_by CoroState.Running none high b y z d e h = refl
starts_by CoroState.Yielded none high b y z d e h = go none high b (h refl) e
  where
    go : (none high b : Bool) → none ≡ false → z.answer ≡ pick b (Ok Entered.Fresh) (Ok (Entered.Suspended d)) →
        is_entered (pick none (after y (Err Fault.InvalidCoroState)) (pick high (after y (Err Fault.StackOverflow)) z)).answer ≡ not high
    go true high b h e = absurd (true≢false h)
    go false true b h e = refl
    go false false true h e = ap is_entered e
    go false false false h e = ap is_entered e
starts_by CoroState.Awaiting none high b y z d e h = go none high b (h refl) e
  where
    go : (none high b : Bool) → none ≡ false → z.answer ≡ pick b (Ok Entered.Fresh) (Ok (Entered.Suspended d)) →
        is_entered (pick none (after y (Err Fault.InvalidCoroState)) (pick high (after y (Err Fault.StackOverflow)) z)).answer ≡ not high
    go true high b h e = absurd (true≢false h)
    go false true b h e = refl
    go false false true h e = ap is_entered e
    go false false false h e = ap is_entered e
starts_by CoroState.Returned none high b y z d e h = refl
starts_by CoroState.Failed none high b y z d e h = refl

abbrev OfSaved : Object → Type 0
OfSaved o = (k : Core) (r : Rest) → as_coro o ≡ Is k r → is_resumable k.state ≡ true → is_nil k.frames ≡ false

abbrev high_for : Object → World → Bool
high_for o y = overflows (core_of o) y

closable-as : (o : Object) (c : ℕ) (y : World) → OfSaved o → entered_by (as_coro o) c y ≡ is_coroutine o && (suspended (core_of o).state && not (high_for o y))
closable-as Object.Empty c y h = refl
closable-as (Object.Func f) c y h = refl
closable-as (Object.Int n) c y h = refl
closable-as (Object.Iter s d k) c y h = refl
closable-as (Object.Error e f p x) c y h = refl
closable-as (Object.Coro k r) c y h = starts_by k.state (is_nil k.frames) (overflows k y) (is_created k.state) y _ k.waiting refl (h k r refl)

goes_by : (s : CoroState) (none high : Bool) (y : World) (z : After (Result Entered Fault)) → (is_resumable s ≡ true → none ≡ false) → suspended s && not high ≡ true →
    pick (not (is_resumable s) || none) (after y (Err Fault.InvalidCoroState)) (pick high (after y (Err Fault.StackOverflow)) z) ≡ z
unfolding pick
goes_by CoroState.Created none high y z h k = absurd (false≢true k)
goes_by CoroState.Running none high y z h k = absurd (false≢true k)
goes_by CoroState.Yielded true high y z h k = absurd (true≢false (h refl))
goes_by CoroState.Yielded false true y z h k = absurd (false≢true k)
goes_by CoroState.Yielded false false y z h k = refl
goes_by CoroState.Awaiting true high y z h k = absurd (true≢false (h refl))
goes_by CoroState.Awaiting false true y z h k = absurd (false≢true k)
goes_by CoroState.Awaiting false false y z h k = refl
goes_by CoroState.Returned none high y z h k = absurd (false≢true k)
goes_by CoroState.Failed none high y z h k = absurd (false≢true k)

goes-as : (o : Object) (c : ℕ) (y : World) → OfSaved o → is_coroutine o && (suspended (core_of o).state && not (high_for o y)) ≡ true →
    (enter_as (as_coro o) c Driver.Finalize y).world ≡ Coros.entered c Driver.Finalize (core_of o) (rest_of o) y
goes-as Object.Empty c y h k = absurd (false≢true k)
goes-as (Object.Func f) c y h k = absurd (false≢true k)
goes-as (Object.Int n) c y h k = absurd (false≢true k)
goes-as (Object.Iter s d q) c y h k = absurd (false≢true k)
goes-as (Object.Error e f p x) c y h k = absurd (false≢true k)
goes-as (Object.Coro k r) c y h t = ap (λ (a : After (Result Entered Fault)). a.world) (goes_by k.state (is_nil k.frames) (overflows k y) y _ (h k r refl) t)

-- the search from a world whose bank is taken back
module _ (n : ℕ) (rd : Bool) (y₀ : World) (saved : Saved y₀) where
  abbrev y : World
  y = fuelled n None rd y₀

  abbrev begun : List ℕ → World
  begun l = fuelled n None false (with_finalizing true (entered_closing 0 (get_or l 0 0) Driver.Finalize (with_finalize (drop 1 l) y)))

  abbrev gone : World
  gone = fuelled n None false (with_finalizing false (with_finalize [] y))

  abbrev found_first : List ℕ → ℕ → After Started
  found_first l m = pick (not (is_nil l)) (after (begun l) (started true m)) (after gone (started false m))

  of-saved : (c : ℕ) → OfSaved (found y c)
  of-saved c k r e = saved c k r (coro-is y₀ c ∙ e)

  closable-is : (c : ℕ) (q : List ℕ) → coro_suspended (coro y c) && is_entered (coro_enter c Driver.Finalize (with_finalize q y)).answer ≡ closable y c
  unfolding coro_enter
  closable-is c q = ap (λ x. entered_by x c (with_finalize q y)) (coro-is y c) ∙ closable-as (found y c) c (with_finalize q y) (of-saved c)

  closed_is : (c : ℕ) (q : List ℕ) → closable y c ≡ true → set_finalizing true (change_coro c (λ k. k) (close 0) (coro_enter c Driver.Finalize (with_finalize q y)).world) ≡ begun (c ∷ q)
  unfolding coro_enter pick
  closed_is c q h =
      ap (λ x. set_finalizing true (change_coro c (λ k. k) (close 0) (enter_as x c Driver.Finalize (with_finalize q y)).world)) (coro-is y c)
      ∙ (ap (λ x. set_finalizing true (change_coro c (λ k. k) (close 0) x)) (goes-as (found y c) c (with_finalize q y) (of-saved c) h)
      ∙ ap (λ x. set_finalizing true x) (closing-is 0 c Driver.Finalize (with_finalize q y) (and_left (is_coroutine (found y c)) _ h)))

  nothing-found : (m : ℕ) → start_from m [] y ≡ found_first [] (m + 0)
  unfolding pick
  nothing-found m =
      let k : m ≡ m + 0 = omega arith in
      ap (λ k. after gone (started false k)) k

  abbrev closed_as : ℕ → List ℕ → ℕ → After Started
  closed_as c q m = after (set_finalizing true (change_coro c (λ k. k) (close 0) (coro_enter c Driver.Finalize (with_finalize q y)).world)) (started true (suc m))

  one_more : (m c : ℕ) (q : List ℕ) (b : Bool) → closable y c ≡ b → start_from (suc m) q y ≡ found_first (queue_from y q) (suc m + taken y q) →
      pick b (closed_as c q m) (start_from (suc m) q y) ≡ found_first (pick b (c ∷ q) (queue_from y q)) (m + pick b 1 (suc (taken y q)))
  unfolding pick
  one_more m c q true e ih =
      let k : suc m ≡ m + 1 = omega arith in
      λ i. after (closed_is c q e i) (started true (k i))
  one_more m c q false e ih =
      let k : suc m + taken y q ≡ m + suc (taken y q) = omega arith in
      ih ∙ ap (λ j. found_first (queue_from y q) j) k

  start_is : (m : ℕ) (q : List ℕ) → start_from m q y ≡ found_first (queue_from y q) (m + taken y q)
  start_is m [] = nothing-found m
  start_is m (c ∷ q) = ap (λ b. pick b (closed_as c q m) (start_from (suc m) q y)) (closable-is c q) ∙ one_more m c q (closable y c) refl (start_is (suc m) q)

-- ---- the charge

from-same : (y z : World) → ((c : ℕ) → closable y c ≡ closable z c) → (q : List ℕ) → queue_from y q ≡ queue_from z q
from-same y z h [] = refl
from-same y z h (c ∷ q) = λ i. pick (h c i) (c ∷ q) (from-same y z h q i)

taken-same : (y z : World) → ((c : ℕ) → closable y c ≡ closable z c) → (q : List ℕ) → taken y q ≡ taken z q
taken-same y z h [] = refl
taken-same y z h (c ∷ q) = λ i. pick (h c i) 1 (suc (taken-same y z h q i))

-- what the choices of a charge come to
combine : (a b r e : Bool) (bk sp c g one none : World) (t : ℕ) (x : After Charge) → (r ≡ false → x ≡ after one (Charge.Done 0)) → charge_done t g ≡ after none (Charge.Done t) →
    pick a (pick b (after bk Charge.Spent) (pick r (charge_or (pick e (after c (started true t)) (after g (started false t)))) x)) (after sp (Charge.Done 0))
    ≡ pick (a && b) (after bk Charge.Spent) (pick ((a && r) && e) (after c (Charge.Close (pick (a && r) t 0))) (after (pick (not a) sp (pick (not r) one none)) (Charge.Done (pick (a && r) t 0))))
unfolding pick
combine false b r e bk sp c g one none t x h k = refl
combine true true r e bk sp c g one none t x h k = refl
combine true false true true bk sp c g one none t x h k = refl
combine true false true false bk sp c g one none t x h k = k
combine true false false e bk sp c g one none t x h k = h refl

module _ (pc : ℕ) (w : World) (saved : Saved w) where
  abbrev z : World
  z = pc_stored pc w

  abbrev y₁ : World
  y₁ = pc_stored pc (bank_back w)

  search_is : start_finalizer (store_pc pc (bank_back w))
      ≡ pick (not (is_nil (queue_from z w.finalize))) (after (cleanup pc w) (started true (taken z w.finalize))) (after (gone (reserve w) w.fuel.ready z saved) (started false (taken z w.finalize)))
  unfolding start_finalizer
  search_is =
      ap (λ x. start_finalizer x) (stored pc (bank_back w))
      ∙ (start_is (reserve w) w.fuel.ready z saved 0 w.finalize
      ∙ (λ i. found_first (reserve w) w.fuel.ready z saved (from-same y₁ z (λ c. refl) w.finalize i) (count i)))
    where
      count : 0 + taken y₁ w.finalize ≡ taken z w.finalize
      count =
          let k : 0 + taken y₁ w.finalize ≡ taken y₁ w.finalize = omega arith in
          k ∙ taken-same y₁ z (λ c. refl) w.finalize

  unarmed : (rd : Bool) → rd ≡ false → with_fuel (pick rd (record { fuel = 0; bank = Some (reserve w - 1); ready = rd }) (record { fuel = reserve w - 1; bank = None; ready = rd })) w ≡ fuelled (reserve w - 1) None false w
  unfolding pick
  unarmed true h = absurd (true≢false h)
  unarmed false h = refl

  none_left : charge_done (taken z w.finalize) (gone (reserve w) w.fuel.ready z saved)
      ≡ after (fuelled (reserve w - 1) None false (with_finalizing false (with_finalize [] z))) (Charge.Done (taken z w.finalize))
  unfolding pick
  none_left = refl

  pub charge-is : charge (Some pc) w
      ≡ pick (used_up w) (after (bank_back w) Charge.Spent) (pick (searches w && not (is_nil (queue_from z w.finalize))) (after (cleanup pc w) (Charge.Close (lost pc w))) (after (charged pc w) (Charge.Done (lost pc w))))
  unfolding charge charge_slow
  charge-is =
      ap (λ x. pick (eqb w.fuel.fuel 0) (pick (eqb x.fuel.fuel 0) (after x Charge.Spent) (charge_at (Some pc) x)) (after (spend w) (Charge.Done 0))) (unbank-is w)
      ∙ (ap (λ s. pick (eqb w.fuel.fuel 0) (pick (eqb (reserve w) 0) (after (bank_back w) Charge.Spent) (pick w.fuel.ready (charge_or s) (charge_done 0 (bank_back w)))) (after (spend w) (Charge.Done 0))) search_is
      ∙ combine (eqb w.fuel.fuel 0) (eqb (reserve w) 0) w.fuel.ready (not (is_nil (queue_from z w.finalize))) (bank_back w) (spend w) (cleanup pc w) _ _ _ (taken z w.finalize) (charge_done 0 (bank_back w))
      (λ e. ap (λ x. after x (Charge.Done 0)) (unarmed w.fuel.ready e)) none_left)
