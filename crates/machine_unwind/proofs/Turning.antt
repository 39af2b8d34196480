-- What a turn does on the world, by what the code did: a handler taken, a frame left. Assumes nothing.
use mathlib.Core.Path.{◌≡◌, refl, sym, ap, ◌∙◌, subst}
use mathlib.Core.Bool.{Bool, true, false}
use mathlib.Core.List.{List, [], ◌∷◌}
use Prim.Native.Nat.{ℕ}
use Rattle.lists.proofs.Tests.{never}
use Rattle.heap.specs.declared.fault.Fault.{Fault}
use Rattle.model.specs.World.{World, After, after, and_then, with_stack}
use Rattle.model.specs.Frames.{is_coro, set_pc, on_top, put_at, put_reg, store_pc}
use Rattle.model.specs.Coro.{coro_escaped}
use Rattle.model.specs.Cleanup.{charge}
use Rattle.model.specs.Machine.{caught, stop_or, escape, take_handler, search_as}
use Rattle.model.specs.declared.call.Answer.{Answer}
use Rattle.std.specs.Prelude.{Some, None}
use Rattle.model.specs.declared.machine.Charge.{Charge}
use Rattle.model.specs.declared.machine.Cont.{Cont}
use Rattle.model.specs.declared.machine.Frame.{Frame}
use Rattle.model.specs.declared.machine.Fuel.{Fuel}
use Rattle.model.specs.declared.program.Handler.{Handler}
use Rattle.claims_sound.proofs.Tests.{no_false, no_true}
use Rattle.memory_world.specs.Memory.{Lent, Rep}
use Rattle.memory_world.specs.Rows.{Rowed}
use Rattle.memory_world.specs.Contract.{Does}
use Rattle.memory_world.specs.declared.machine.Machine.{Machine}
use Rattle.memory_world.specs.declared.machine.Sizes.{Sizes}
use Rattle.memory_world.proofs.Does.{does}
use Rattle.machine_state.specs.Frame.{pop_on, pop_top}
use Rattle.machine_unwind.specs.Turns.{is_spent, on, handler_on, handler_in, Passes, Halts, leave_on, leave, turn_on, turn}

-- ---- a handler

-- a pc stored does not move the registers
put_under : (fs : List Frame) (pc r v : ℕ) (xs : List ℕ) → put_at fs r v xs ≡ put_at (on_top (set_pc pc) fs) r v xs
put_under [] pc r v xs = refl
put_under (f ∷ fs) pc r v xs = refl

store-put : (w : World) (pc r v : ℕ) → store_pc pc (put_reg r v w) ≡ put_reg r v (store_pc pc w)
store-put w pc r v = ap (λ xs. with_stack xs (store_pc pc w)) (put_under w.frames pc r v w.stack)

-- a handler by its charge: no unit, or the word in its register
spent-caught : (h : Handler) (value : ℕ) (u : World) (c : Charge) → is_spent c ≡ true → caught h value u c ≡ after u (Answer.Refused Fault.OutOfFuel)
spent-caught h value u (Charge.Done n) e = no_false e
spent-caught h value u Charge.Spent e = refl
spent-caught h value u (Charge.Close n) e = no_false e

paid-caught : (h : Handler) (value : ℕ) (u : World) (c : Charge) → is_spent c ≡ false → caught h value u c ≡ after (put_reg h.catch value (store_pc h.target u)) Answer.Caught
paid-caught h value u (Charge.Done n) e = refl
paid-caught h value u Charge.Spent e = no_true e
paid-caught h value u (Charge.Close n) e = refl

module _ (l : Sizes) (M : Lent) (m : Machine) (f : Fuel) (w : World) (h : Handler) (value : ℕ) (c : Charge) where
  abbrev paid : After Charge
  paid = charge None w

  by-charge : c ≡ paid.answer → take_handler h value w ≡ caught h value paid.world c
  by-charge e = ap (caught h value paid.world) (sym e)

  pub handler-unpaid : is_spent c ≡ true → Does l paid M m f c → Does l (take_handler h value w) M m f (Answer.Refused Fault.OutOfFuel)
  handler-unpaid q d = does l M m f (take_handler h value w) paid.world (Answer.Refused Fault.OutOfFuel) (by-charge d.answer ∙ spent-caught h value paid.world c q) d.world

  pub handler-taken : (M' : Lent) → is_spent c ≡ false → c ≡ paid.answer → Rep l (store_pc h.target (put_reg h.catch value paid.world)) M' m f → Does l (take_handler h value w) M' m f Answer.Caught
  handler-taken M' q e rep =
      does l M' m f (take_handler h value w) (put_reg h.catch value (store_pc h.target paid.world)) Answer.Caught (by-charge e ∙ paid-caught h value paid.world c q)
      (subst (λ u. Rep l u M' m f) (store-put paid.world h.target h.catch value) rep)

-- ---- a frame left

-- the rows stay in order
pub pop-rowed : (w : World) (x : Frame) (xs : List Frame) → w.frames ≡ x ∷ xs → Rowed w.setup w.slots → Rowed (pop_top w).setup (pop_top w).slots
pop-rowed w x xs are h = subst (λ fs. Rowed (pop_on fs w).setup (pop_on fs w).slots) (sym are) h

module _ (value fn pc : ℕ) where
  escapes : (k : Cont) (u : World) → is_coro k ≡ true → escape k value fn pc on u ≡ and_then (coro_escaped value fn pc u) (stop_or on)
  escapes Cont.Entry u e = no_false e
  escapes (Cont.Write r) u e = no_false e
  escapes (Cont.Dyn r) u e = no_false e
  escapes (Cont.Value r) u e = no_false e
  escapes Cont.Discard u e = no_false e
  escapes Cont.Coro u e = refl

  pub leave-is : (w : World) (x : Frame) (xs : List Frame) → w.frames ≡ x ∷ xs → leave value fn pc w ≡ escape x.cont value fn pc on (pop_top w)
  unfolding leave
  leave-is w x xs are = go w.frames are
    where
      go : (fs : List Frame) → fs ≡ x ∷ xs → leave_on fs value fn pc w ≡ escape x.cont value fn pc on (pop_on fs w)
      go fs e = subst (λ gs. leave_on gs value fn pc w ≡ escape x.cont value fn pc on (pop_on gs w)) (sym e) refl

  module _ (l : Sizes) (M : Lent) (m : Machine) (f : Fuel) (w : World) (x : Frame) (xs : List Frame) (are : w.frames ≡ x ∷ xs) (k : Cont) (is : k ≡ x.cont) where
    left : leave value fn pc w ≡ escape k value fn pc on (pop_top w)
    left = leave-is w x xs are ∙ ap (λ y. escape y value fn pc on (pop_top w)) (sym is)

    pub left-plain : (t : Answer) → Passes k value t → Rep l (pop_top w) M m f → Does l (leave value fn pc w) M m f t
    left-plain t e rep = does l M m f (leave value fn pc w) (pop_top w) t (left ∙ e (pop_top w) fn pc) rep

    pub left_body : (stops : Bool) (t : Answer) → is_coro k ≡ true → Halts stops t → Does l (coro_escaped value fn pc (pop_top w)) M m f stops → Does l (leave value fn pc w) M m f t
    left_body stops t q e d =
        let o = coro_escaped value fn pc (pop_top w) in
        does l M m f (leave value fn pc w) o.world t (left ∙ escapes k (pop_top w) q ∙ ap (stop_or on o.world) (sym d.answer) ∙ e o.world) d.world

-- ---- a turn

module _ (l : Sizes) (M : Lent) (m : Machine) (f : Fuel) (w : World) (value fn pc : ℕ) (t : Answer) where
  pub turn-takes : (h : Handler) → Some h ≡ handler_in w → Does l (take_handler h value w) M m f t → Does l (turn value fn pc w) M m f t
  unfolding turn
  turn-takes h e d = subst (λ o. Does l o M m f t) (go w.frames e) d
    where
      go : (fs : List Frame) → Some h ≡ handler_on fs w → take_handler h value w ≡ turn_on fs value fn pc w
      go [] q = never cc
      go (x ∷ xs) q = ap (λ c. search_as c x xs value fn pc on w) q

  pub turn-leaves : None ≡ handler_in w → Does l (leave value fn pc w) M m f t → Does l (turn value fn pc w) M m f t
  unfolding turn leave
  turn-leaves e d = subst (λ o. Does l o M m f t) (go w.frames e) d
    where
      go : (fs : List Frame) → None ≡ handler_on fs w → leave_on fs value fn pc w ≡ turn_on fs value fn pc w
      go [] q = refl
      go (x ∷ xs) q = ap (λ c. search_as c x xs value fn pc on w) q
