-- The function that a word calls in the words is the one that it calls in the world; indirect creates it. Assumes nothing.
use mathlib.Core.Path.{◌≡◌, refl, sym, ap, ◌∙◌, subst}
use mathlib.Core.Bool.{Bool, true, false, not}
use mathlib.Core.List.{List}
use Prim.Native.Nat.{ℕ, ◌<◌}
use native.Mathlib.Omega.{arith}
use lib.ListN.{get_or}
use lib.Dec.{eqb, ltb}
use borrow.Author.Tests.{ltb-true, eq-eqb, ne_eqb}
use Rattle.lists.specs.Pick.{pick}
use Rattle.lists.proofs.Tests.{never}
use Rattle.heap.specs.Word.{class_of}
use Rattle.heap.specs.Table.{Slot, slot_at, get}
use Rattle.heap.specs.Table as Table
use Rattle.heap.specs.Heap.{slots_of}
use Rattle.heap.specs.Kind.{as_callee, callee_by, callee_of}
use Rattle.heap.specs.declared.fault.Fault.{Fault}
use Rattle.std.specs.Prelude.{Option, Result, Some, None, Ok, Err}
use Rattle.heap.specs.declared.object.Object as H
use Rattle.model.specs.Program.{Setup, func, is_function}
use Rattle.model.specs.Object.{Object, is_filled}
use Rattle.model.specs.World.{World, After}
use Rattle.model.specs.Frames.{reg}
use Rattle.model.specs.Heap.{object_at, object, not_a, refuse}
use Rattle.model.specs.Coro.{coro_create}
use Rattle.model.specs.Exec.{window, indirect_to, indirect, coro_new_indirect, put_made}
use Rattle.model.specs.declared.exec.Step.{Step}
use Rattle.model.specs.declared.machine.Fuel.{Fuel}
use Rattle.memory_tables.specs.Layout.{function_in}
use Rattle.memory_tables.specs.Sizes.{functions_of}
use Rattle.memory_tables.proofs.Setups.{functions-in, params_in, is-function-in}
use Rattle.memory_world.specs.Slots.{to_object, to_slots}
use Rattle.memory_world.specs.Memory.{Lent, Rep, Room}
use Rattle.memory_world.specs.Contract.{Does}
use Rattle.memory_world.specs.declared.machine.Machine.{Machine}
use Rattle.memory_world.specs.declared.machine.Sizes.{Sizes}
use Rattle.memory_world.proofs.Does.{does}
use Rattle.memory_world.proofs.Slots.{at_map, get-same}
use Rattle.memory_world.proofs.Tables.{slots-are}
use Rattle.memory_world.proofs.Lookup.{found-fault}
use Rattle.machine_state.proofs.Frames.{chosen, passed}
use Rattle.coro_create.proofs.Setting.{named_in}
use Rattle.exec_make.specs.Indirect.{callee_in, taking, called, CalledFits}
use Rattle.exec_make.proofs.Newly.{made-put}

-- ---- the function that a word names

as-callee : (o : Object) → as_callee (to_object o) ≡ callee_in o Fault.TypeError
as-callee Object.Empty = refl
as-callee (Object.Func f) = refl
as-callee (Object.Int n) = refl
as-callee (Object.Iter s d k) = refl
as-callee (Object.Error e f p x) = refl
as-callee (Object.Coro k r) = refl

callee-in : (xs : List (Slot Object)) (v : ℕ) →
    let p = get Object.Empty is_filled xs v in callee_of (to_slots xs) v ≡ callee_in (object_at xs p) (Table.not_a (class_of v) p)
callee-in xs v = ap (callee_by (to_slots xs) v) (get-same xs v) ∙ go (get Object.Empty is_filled xs v) refl
  where
    go : (p : Option ℕ) → get Object.Empty is_filled xs v ≡ p → callee_by (to_slots xs) v p ≡ callee_in (object_at xs p) (Table.not_a (class_of v) p)
    go None q = refl
    go (Some i) q =
        let o = (slot_at Object.Empty is_filled xs i).object in
        ap (λ (x : Slot H.Object). as_callee x.object) (at_map xs i) ∙ as-callee o ∙ ap (callee_in o) (sym (found-fault xs v (class_of v) i q))

-- ---- the function that it calls, by the tests of the words

module _ (l : Sizes) (w : World) (M : Lent) (m : Machine) (fuel : Fuel) (rep : Rep l w M m fuel) (v argc : ℕ) where
  abbrev s : Setup
  s = w.setup

  callee-is : (c : Result ℕ Fault) → c ≡ callee_of (slots_of m.count M.slots) v → c ≡ callee_in (object w v) (not_a w v)
  callee-is c e = e ∙ ap (λ xs. callee_of xs v) (slots-are (to_slots w.slots) M.slots m.count rep.slots) ∙ callee-in w.slots v

  pub no-callee : (g : Fault) → Err g ≡ callee_of (slots_of m.count M.slots) v → Err g ≡ called v argc w
  no-callee g e = ap (taking s argc) (callee-is (Err g) e)

  module _ (f : ℕ) (e : Ok f ≡ callee_of (slots_of m.count M.slots) v) where
    opened : taking s argc (Ok f) ≡ called v argc w
    opened = ap (taking s argc) (callee-is (Ok f) e)

    pub no-function : ltb f (functions_of M.setup) ≡ false → Err Fault.TypeError ≡ called v argc w
    no-function t = sym (chosen _ _ (not (is_function s f)) (ap not (sym (is-function-in s M.setup rep.setup f) ∙ t))) ∙ opened

    module _ (t : ltb f (functions_of M.setup) ≡ true) where
      count-is : (function_in M.setup f).params ≡ (func s f).params
      count-is = params_in s M.setup rep.setup f (ltb-true f (functions_of M.setup) t)

      counted : pick (not (eqb (func s f).params argc)) (Err Fault.TypeError) (Ok f) ≡ called v argc w
      counted = sym (passed _ _ (not (is_function s f)) (ap not (sym (is-function-in s M.setup rep.setup f) ∙ t))) ∙ opened

      pub other-count : ((function_in M.setup f).params ≡ argc → ⊥) → Err Fault.TypeError ≡ called v argc w
      other-count n = sym (chosen _ _ (not (eqb (func s f).params argc)) (ap not (ne_eqb (func s f).params argc (λ z. n (count-is ∙ z))))) ∙ counted

      pub is-callee : (function_in M.setup f).params ≡ argc → Ok f ≡ called v argc w
      is-callee n = sym (passed _ _ (not (eqb (func s f).params argc)) (ap not (eq-eqb (func s f).params argc (sym count-is ∙ n)))) ∙ counted

-- the words that this asks for
pub called-fits : (l : Sizes) (w : World) (M : Lent) (m : Machine) (fuel : Fuel) → Rep l w M m fuel → Room w.setup M → CalledFits M.slots M.setup m.count
called-fits l w M m fuel rep room =
    let n = functions-in w.setup M.setup rep.setup in let r = room.setup in
    record { table = rep.slots.within; functions = omega arith }

-- a function that is called is one of the set-up's
taken-function : (s : Setup) (argc f : ℕ) (c : Result ℕ Fault) → Ok f ≡ taking s argc c → is_function s f ≡ true
unfolding pick
taken-function s argc f (Err g) e = never cc
taken-function s argc f (Ok x) e = go (is_function s x) refl (eqb (func s x).params argc) e
  where
    go : (a : Bool) → is_function s x ≡ a → (b : Bool) → Ok f ≡ pick (not a) (Err Fault.TypeError) (pick (not b) (Err Fault.TypeError) (Ok x)) → is_function s f ≡ true
    go true h true e = let z : f ≡ x = cc in ap (is_function s) z ∙ h
    go true h false e = never cc
    go false h b e = never cc

pub called-function : (l : Sizes) (w : World) (M : Lent) (m : Machine) (fuel : Fuel) → Rep l w M m fuel → (v argc f : ℕ) → Ok f ≡ called v argc w → f < get_or M.setup 13 0
called-function l w M m fuel rep v argc f e = named_in l M m fuel w rep f (taken-function w.setup argc f (callee_in (object w v) (not_a w v)) e)

-- ---- indirect, by the function that is called

abbrev create_as : Result ℕ Fault → ℕ → ℕ → ℕ → World → After (Result ℕ Fault)
create_as (Err g) v dst argc w = refuse w g
create_as (Ok f) v dst argc w = coro_create f v (window dst argc w) w

to-create : (v dst argc : ℕ) (w : World) (o : Object) → indirect_to o v dst argc w ≡ create_as (taking w.setup argc (callee_in o (not_a w v))) v dst argc w
unfolding pick
to-create v dst argc w Object.Empty = refl
to-create v dst argc w (Object.Func f) = go (is_function w.setup f) (eqb (func w.setup f).params argc)
  where
    go : (a b : Bool) → pick (not a) (refuse w Fault.TypeError) (pick (not b) (refuse w Fault.TypeError) (coro_create f v (window dst argc w) w))
        ≡ create_as (pick (not a) (Err Fault.TypeError) (pick (not b) (Err Fault.TypeError) (Ok f))) v dst argc w
    go true true = refl
    go true false = refl
    go false b = refl
to-create v dst argc w (Object.Int n) = refl
to-create v dst argc w (Object.Iter s d k) = refl
to-create v dst argc w (Object.Error e f p x) = refl
to-create v dst argc w (Object.Coro k r) = refl

module _ (w : World) (dst callee argc : ℕ) where
  indirect-is : (v : ℕ) → v ≡ reg w callee → (c : Result ℕ Fault) → c ≡ called v argc w → indirect dst callee argc w ≡ create_as c v dst argc w
  unfolding indirect
  indirect-is v ev c ec = ap (λ x. indirect_to (object w x) x dst argc w) (sym ev) ∙ to-create v dst argc w (object w v) ∙ ap (λ t. create_as t v dst argc w) (sym ec)

  module _ (l : Sizes) (M : Lent) (m : Machine) (fuel : Fuel) (v : ℕ) (ev : v ≡ reg w callee) where
    pub indirect-refused : (g : Fault) → Err g ≡ called v argc w → Rep l w M m fuel → Does l (indirect dst callee argc w) M m fuel (Err g)
    indirect-refused g e rep = does l M m fuel (indirect dst callee argc w) w (Err g) (indirect-is v ev (Err g) e) rep

    pub indirect-made : (f : ℕ) (a : Result ℕ Fault) → Ok f ≡ called v argc w → Does l (coro_create f v (window dst argc w) w) M m fuel a → Does l (indirect dst callee argc w) M m fuel a
    indirect-made f a e d = subst (λ o. Does l o M m fuel a) (sym (indirect-is v ev (Ok f) e)) d

  pub indirect-met : (l : Sizes) (M : Lent) (m : Machine) (fuel : Fuel) (a : Result ℕ Fault) (s : Step) → a ≡ (indirect dst callee argc w).answer
      → Does l (put_made dst (indirect dst callee argc w).world a) M m fuel s → Does l (coro_new_indirect dst callee argc w) M m fuel s
  unfolding coro_new_indirect
  indirect-met l M m fuel a s e d = made-put l M m fuel (indirect dst callee argc w) dst a s e d
