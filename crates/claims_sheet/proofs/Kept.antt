-- What the table's moves keep: the set-up, the cleanup queue, and that no slot is empty.
use Prim.Native.Nat.{ℕ, zero, suc}
use mathlib.Core.Path.{◌≡◌, refl, ap}
use mathlib.Core.Bool.{Bool, true, false, not, false≢true}
use mathlib.Core.List.{List, [], ◌∷◌, ◌++◌}
use lib.ListN.{set}
use lib.Dec.{eqb}
use Rattle.heap.specs.Table.{Slot, slot}
use Rattle.std.specs.Prelude.{Option, Some}
use Rattle.heap.specs.declared.heap.ResultKind.{ResultKind}
use Rattle.heap.specs.declared.object.CoroState.{CoroState}
use Rattle.model.specs.Lists.{each}
use Rattle.model.specs.Program.{Setup}
use Rattle.model.specs.Object.{Rest, Object}
use Rattle.model.specs.World.{World, with_chain}
use Rattle.model.specs.declared.machine.Active.{Active}
use Rattle.model.specs.declared.machine.Driver.{Driver}
use Rattle.model.specs.declared.machine.Stop.{Stop}
use Rattle.claims_sheet.specs.Words.{found, kind, is_nothing}
use Rattle.claims_sheet.specs.Moves.{replaced, iterator, marked, entered_as, sent_unless_created, finished_with}
use Rattle.claims_sheet.specs.Makings.{stored}
use Rattle.claims_sheet.specs.Suspending.{delivered}
use Rattle.claims_sheet.specs.Endings.{is_object, converted, handed_back, innermost_finished, returned}
use Rattle.claims_sheet.specs.OtherCalls.{stopped}
use Rattle.claims_sheet.proofs.Among.{and_left, and_right, both_true}
use Rattle.claims_sheet.proofs.Choice.{both, by-test}

-- an object stands in every slot
abbrev pub filled : List (Slot Object) → Bool
filled xs = each (λ x. not (is_nothing x.object)) xs

pub record StaysIn (s : Setup) (xs : List (Slot Object)) (t : Setup) (ys : List (Slot Object)) : Type 0 where
  pub setup : t ≡ s
  pub full : filled xs ≡ true → filled ys ≡ true

-- the world x has the set-up of u, and no empty slot if u has none
abbrev pub Stays : World → World → Type 0
Stays u x = StaysIn u.setup u.slots x.setup x.slots

pub stays : (u : World) → Stays u u
stays u = record { setup = refl; full = λ h. h }

pub record KeptIn (q : List ℕ) (s : Setup) (xs : List (Slot Object)) (q' : List ℕ) (t : Setup) (ys : List (Slot Object)) : Type 0 where
  pub queue : q' ≡ q
  pub stays : StaysIn s xs t ys

-- and the queue of u
abbrev pub Kept : World → World → Type 0
Kept u x = KeptIn u.finalize u.setup u.slots x.finalize x.setup x.slots

pub same-world : (u : World) → Kept u u
same-world u = record { queue = refl; stays = stays u }

pub set-filled : (xs : List (Slot Object)) (i : ℕ) (y : Slot Object) → is_nothing y.object ≡ false → filled xs ≡ true → filled (set xs i y) ≡ true
set-filled [] i y e h = refl
set-filled (x ∷ xs) zero y e h = both_true (not (is_nothing y.object)) (filled xs) (ap not e) (and_right (not (is_nothing x.object)) (filled xs) h)
set-filled (x ∷ xs) (suc i) y e h = both_true (not (is_nothing x.object)) _ (and_left (not (is_nothing x.object)) (filled xs) h) (set-filled xs i y e (and_right (not (is_nothing x.object)) (filled xs) h))

push-filled : (xs : List (Slot Object)) (y : Slot Object) → is_nothing y.object ≡ false → filled xs ≡ true → filled (xs ++ (y ∷ [])) ≡ true
push-filled [] y e h = both_true (not (is_nothing y.object)) true (ap not e) refl
push-filled (x ∷ xs) y e h = both_true (not (is_nothing x.object)) _ (and_left (not (is_nothing x.object)) (filled xs) h) (push-filled xs y e (and_right (not (is_nothing x.object)) (filled xs) h))

iterates : (o : Object) (f : Bool → Bool) (g : Option ℕ → Option ℕ) → eqb (kind o) 3 ≡ true → is_nothing (iterator f g o) ≡ false
iterates Object.Empty f g h = absurd (false≢true h)
iterates (Object.Func n) f g h = refl
iterates (Object.Int n) f g h = refl
iterates (Object.Iter s d k) f g h = refl
iterates (Object.Error e n p x) f g h = refl
iterates (Object.Coro k r) f g h = refl

module _ (u : World) where
  pub puts : (v : ℕ) (o : Object) (x : World) → is_nothing o ≡ false → Kept u x → Kept u (replaced v o x)
  puts v o x e k = record { queue = k.queue; stays = record { setup = k.stays.setup; full = λ h. set-filled x.slots _ _ e (k.stays.full h) } }

  pub adds : (o : Object) (bytes : ℕ) (x : World) → is_nothing o ≡ false → Kept u x → Kept u (stored o bytes x)
  adds o bytes x e k = record { queue = k.queue; stays = record { setup = k.stays.setup; full = λ h. push-filled x.slots (slot 0 o) e (k.stays.full h) } }

  pub marks : (v : ℕ) (f : Bool → Bool) (g : Option ℕ → Option ℕ) (x : World) → Kept u x → Kept u (marked v f g x)
  marks v f g x k = by-test (λ y. Kept u y) (eqb (kind (found x v)) 3) (λ e. puts v (iterator f g (found x v)) x (iterates (found x v) f g e) k) (λ _. k)

  pub enters-kept : (r : Rest) (v : ℕ) (d : Driver) (x : World) → Kept u x → Kept u (entered_as r v d x)
  enters-kept r v d x k = record { queue = k.queue; stays = record { setup = k.stays.setup; full = λ h. set-filled x.slots _ _ refl (k.stays.full h) } }

  pub gives-kept : (s : CoroState) (r v : ℕ) (x : World) → Kept u x → Kept u (sent_unless_created s r v x)
  gives-kept s r v x k = both (λ y. Kept u y) _ k k

  pub finished-kept : (v : ℕ) (s : CoroState) (result : ℕ) (x : World) → Kept u x → Kept u (finished_with v s result x)
  finished-kept v s result x k = both (λ y. Kept u y) _ (record { queue = k.queue; stays = record { setup = k.stays.setup; full = λ h. set-filled x.slots _ _ refl (k.stays.full h) } }) k

  pub delivers-kept : (d : Driver) (payload key : ℕ) (s : Stop) (x : World) → Kept u x → Kept u (delivered d payload key s x)
  delivers-kept (Driver.Resume dst) payload key s x k = k
  delivers-kept (Driver.Iter has val iter) payload key s x k = marks iter (λ d. d) (λ _. Some key) x k
  delivers-kept Driver.Host payload key s x k = k
  delivers-kept Driver.Finalize payload key s x k = k

  pub hands-kept : (d : Driver) (v : ℕ) (x : World) → Kept u x → Kept u (handed_back d v x)
  hands-kept (Driver.Resume dst) v x k = k
  hands-kept (Driver.Iter has val iter) v x k = marks iter (λ _. true) (λ o. o) x k
  hands-kept Driver.Host v x k = k
  hands-kept Driver.Finalize v x k = k

  pub innermost-kept : (chain : List Active) (s : CoroState) (v : ℕ) (x : World) → Kept u x → Kept u (innermost_finished chain s v x)
  innermost-kept [] s v x k = k
  innermost-kept (a ∷ chain) s v x k = finished-kept a.coro s v (with_chain chain x) k

  pub returns-kept : (chain : List Active) (v : ℕ) (x : World) → Kept u x → Kept u (returned chain v x)
  returns-kept [] v x k = k
  returns-kept (a ∷ chain) v x k = hands-kept a.driver v _ (innermost-kept (a ∷ chain) CoroState.Returned v x k)

  pub converts-kept : (c : ResultKind) (v : ℕ) (x : World) → Kept u x → Kept u (converted c v x)
  converts-kept c v x k = both (λ y. Kept u y) (is_object c v) (adds (Object.Int v) x.setup.costs.int x refl k) k

  pub stops-kept : (chain : List Active) (x : World) → Kept u x → Kept u (stopped chain x)
  stops-kept [] x k = k
  stops-kept (a ∷ chain) x k = stops-kept chain _ (finished-kept a.coro CoroState.Failed 0 x k)
