-- `row_of` meets its contract, by the kind of object and by the state. Assumes nothing.
use Rattle.std.proofs.Common.{◌≡◌, Bool, true, false, sym, ap, ◌∙◌}
use mathlib.Core.Logic.{◌⊎◌, inl, inr}
use Rattle.lists.specs.Pick.{pick, pick_true, pick-false}
use Rattle.heap.specs.declared.object.CoroState.{CoroState}
use Rattle.heap.specs.declared.object.CoroObj.{CoroObj}
use Rattle.heap.specs.declared.object.Object.{Object}
use Rattle.heap.specs.declared.object.Object.TheVariants as O
use Rattle.model.specs.State.{is_finished}
use Rattle.coro_create.specs.Row.{row_of}
use Rattle.coro_create.proofs.row.row_of.Goals as goal

-- the states of the two arms
going : (s : CoroState) → (s ≡ CoroState.Created) ⊎ ((s ≡ CoroState.Running) ⊎ ((s ≡ CoroState.Yielded) ⊎ (s ≡ CoroState.Awaiting))) → is_finished s ≡ false
going s (inl e) = ap is_finished e
going s (inr (inl e)) = ap is_finished e
going s (inr (inr (inl e))) = ap is_finished e
going s (inr (inr (inr e))) = ap is_finished e

ended : (s : CoroState) → (s ≡ CoroState.Returned) ⊎ (s ≡ CoroState.Failed) → is_finished s ≡ true
ended s (inl e) = ap is_finished e
ended s (inr e) = ap is_finished e

finished : (o : Object) (c : CoroObj) → o ≡ O.Coro c → is_finished c.state ≡ true → 64 ≡ row_of o
finished o c e f = sym (ap row_of e ∙ ap (λ (b : Bool). pick b 64 c.row) f ∙ pick_true _ _)

unfinished : (o : Object) (c : CoroObj) → o ≡ O.Coro c → is_finished c.state ≡ false → c.row ≡ row_of o
unfinished o c e f = sym (ap row_of e ∙ ap (λ (b : Bool). pick b 64 c.row) f ∙ pick-false _ _)

pub returns-in-Created : goal.returns-in-Created
returns-in-Created c = unfinished _ _ c.in-Coro.is (going _ c.in-Created.is)

pub returns-in-Returned : goal.returns-in-Returned
returns-in-Returned c = finished _ _ c.in-Coro.is (ended _ c.in-Returned.is)
