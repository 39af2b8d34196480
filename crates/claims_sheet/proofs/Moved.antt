-- What the sheet says is done is what the machine does: registers, pcs, ends, entries.
use Prim.Native.Nat.{ℕ}
use mathlib.Core.Path.{◌≡◌, refl, ap, ◌∙◌}
use mathlib.Core.Bool.{Bool, true, false, not, false≢true}
use mathlib.Core.List.{List, [], ◌∷◌}
use lib.ListN.{length}
use lib.Dec.{eqb}
use Rattle.lists.specs.Pick.{pick}
use Rattle.heap.specs.declared.fault.Fault.{Fault}
use Rattle.std.specs.Prelude.{Option}
use Rattle.heap.specs.declared.object.CoroState.{CoroState}
use Rattle.model.specs.Object.{Core, Rest, Object, Coroutine, Absent, Is, as_coro}
use Rattle.model.specs.World.{World, After, and_then, with_stack, with_frames}
use Rattle.model.specs.Frames.{on_top, set_pc, step_pc, top_base, put_at, reg, put_reg, store_pc}
use Rattle.model.specs.Heap.{object, coro, not_a, change_as, change_coro, change_iter_in}
use Rattle.model.specs.Coro.{coro_send, finish_coroutine}
use Rattle.model.specs.Cleanup.{close}
use Rattle.model.specs.declared.machine.Driver.{Driver}
use Rattle.model.specs.declared.machine.Frame.{Frame}
use Rattle.claims_sheet.specs.Words.{base, word, found, kind, is_nothing, is_coroutine, dead, no_coroutine, core_of, rest_of}
use Rattle.claims_sheet.specs.Moves.{at_pc, pc_stored, onward, in_register, put, sent, replaced, iterator, marked, finished_with, entered, entered_closing}
use Rattle.claims_sheet.proofs.Words.{object-found, not_a_lem}
use Rattle.claims_sheet.proofs.Among.{and_left}
use Rattle.claims_sheet.proofs.Lookup.{entered-then}

-- ---- choices

-- below a test
pub below : {A : Type 0} (b : Bool) (x : A) {y y' : A} → y ≡ y' → pick b x y ≡ pick b x y'
below b x e = ap (λ y. pick b x y) e

pub below-if : {A : Type 0} (b : Bool) (x : A) {y y' : A} → (b ≡ false → y ≡ y') → pick b x y ≡ pick b x y'
unfolding pick
below-if true x e = refl
below-if false x e = e refl

pub then_one : {A B : Type 0} (g : World → A → After B) (a : Bool) (x y : After A) → and_then (pick a x y) g ≡ pick a (and_then x g) (and_then y g)
unfolding pick
then_one g true x y = refl
then_one g false x y = refl

pub then-two : {A B : Type 0} (g : World → A → After B) (a b : Bool) (x y z : After A) → and_then (pick a x (pick b y z)) g ≡ pick a (and_then x g) (pick b (and_then y g) (and_then z g))
then-two g a b x y z = then_one g a x (pick b y z) ∙ below a (and_then x g) (then_one g b y z)

-- ---- the top frame

pub length_at : (pc : ℕ) (fs : List Frame) → length (at_pc pc fs) ≡ length fs
length_at pc [] = refl
length_at pc (f ∷ fs) = refl

pub base-is : (fs : List Frame) → top_base fs ≡ base fs
base-is [] = refl
base-is (f ∷ fs) = refl

pub word-is : (w : World) (r : ℕ) → reg w r ≡ word w r
word-is w r = rw (base-is w.frames)

pub stored : (pc : ℕ) (w : World) → store_pc pc w ≡ pc_stored pc w
stored pc w = ap (λ fs. with_frames fs w) (go w.frames)
  where
    go : (fs : List Frame) → on_top (set_pc pc) fs ≡ at_pc pc fs
    go [] = refl
    go (f ∷ fs) = refl

pub onward-is : (fs : List Frame) → on_top step_pc fs ≡ onward fs
onward-is [] = refl
onward-is (f ∷ fs) = refl

register-is : (fs : List Frame) (r v : ℕ) (xs : List ℕ) → put_at fs r v xs ≡ in_register fs r v xs
register-is [] r v xs = refl
register-is (f ∷ fs) r v xs = refl

pub put_is : (r v : ℕ) (w : World) → put_reg r v w ≡ put r v w
put_is r v w = ap (λ xs. with_stack xs w) (register-is w.frames r v w.stack)

pub sent_is : (r v : ℕ) (w : World) → coro_send r v w ≡ sent r v w
sent_is r v w = rw (onward-is w.frames, register-is w.frames r v w.stack)

-- ---- objects

pub coro-is : (w : World) (v : ℕ) → coro w v ≡ as_coro (found w v)
coro-is w v = ap (λ o. as_coro o) (object-found w v)

kinds : {B : Type 0} (act : Coroutine → Fault → B) (o : Object) (b : Bool) → (b ≡ true → is_nothing o ≡ true) →
    act (as_coro o) (pick b Fault.NullReference Fault.TypeError) ≡ pick b (act Absent Fault.NullReference) (pick (not (is_coroutine o)) (act Absent Fault.TypeError) (act (Is (core_of o) (rest_of o)) Fault.TypeError))
unfolding pick
kinds act Object.Empty true h = refl
kinds act Object.Empty false h = refl
kinds act (Object.Func f) true h = refl
kinds act (Object.Func f) false h = refl
kinds act (Object.Int n) true h = refl
kinds act (Object.Int n) false h = refl
kinds act (Object.Iter s d k) true h = refl
kinds act (Object.Iter s d k) false h = refl
kinds act (Object.Error e f p x) true h = refl
kinds act (Object.Error e f p x) false h = refl
kinds act (Object.Coro k r) true h = absurd (false≢true (h refl))
kinds act (Object.Coro k r) false h = refl

-- 1, then 2, then what is done with the coroutine
pub by_kind : {B : Type 0} (act : Coroutine → Fault → B) (w : World) (v : ℕ) →
    act (coro w v) (not_a w v) ≡ pick (dead w v) (act Absent Fault.NullReference) (pick (no_coroutine w v) (act Absent Fault.TypeError) (act (Is (core_of (found w v)) (rest_of (found w v))) Fault.TypeError))
by_kind act w v =
    ap (λ x. act x (not_a w v)) (coro-is w v) ∙ (ap (λ f. act (as_coro (found w v)) f) (not_a_lem w v) ∙ kinds act (found w v) (dead w v) (and_left (is_nothing (found w v)) _))

-- a coroutine changed, where the word finds one
changed-as : (o : Object) (v : ℕ) (f : Core → Core) (g : Rest → Rest) (w : World) → change_as (as_coro o) v f g w ≡ pick (is_coroutine o) (replaced v (Object.Coro (f (core_of o)) (g (rest_of o))) w) w
unfolding pick
changed-as Object.Empty v f g w = refl
changed-as (Object.Func n) v f g w = refl
changed-as (Object.Int n) v f g w = refl
changed-as (Object.Iter s d k) v f g w = refl
changed-as (Object.Error e n p x) v f g w = refl
changed-as (Object.Coro k r) v f g w = refl

pub changed-is : (v : ℕ) (f : Core → Core) (g : Rest → Rest) (w : World) → change_coro v f g w ≡ pick (is_coroutine (found w v)) (replaced v (Object.Coro (f (core_of (found w v))) (g (rest_of (found w v)))) w) w
changed-is v f g w = ap (λ x. change_as x v f g w) (coro-is w v) ∙ changed-as (found w v) v f g w

pub finished-is : (v : ℕ) (s : CoroState) (result : ℕ) (w : World) → finish_coroutine v s result w ≡ finished_with v s result w
finished-is v s result w = changed-is v _ _ w

-- a coroutine that is entered, and then marked closing
pub coroutine : (o : Object) → is_coroutine o ≡ true → as_coro o ≡ Is (core_of o) (rest_of o)
coroutine Object.Empty h = absurd (false≢true h)
coroutine (Object.Func n) h = absurd (false≢true h)
coroutine (Object.Int n) h = absurd (false≢true h)
coroutine (Object.Iter s d k) h = absurd (false≢true h)
coroutine (Object.Error e n p x) h = absurd (false≢true h)
coroutine (Object.Coro k r) h = refl

pub closing-is : (signal v : ℕ) (d : Driver) (w : World) → is_coroutine (found w v) ≡ true → change_coro v (λ k. k) (close signal) (entered v d w) ≡ entered_closing signal v d w
closing-is signal v d w h = entered-then v d (core_of (found w v)) (rest_of (found w v)) (close signal) w (coro-is w v ∙ coroutine (found w v) h) refl

-- an iterator changed, where the word finds one
marked-as : (o : Object) (v : ℕ) (f : Bool → Bool) (g : Option ℕ → Option ℕ) (w : World) → change_iter_in o v f g w ≡ pick (eqb (kind o) 3) (replaced v (iterator f g o) w) w
unfolding pick
marked-as Object.Empty v f g w = refl
marked-as (Object.Func n) v f g w = refl
marked-as (Object.Int n) v f g w = refl
marked-as (Object.Iter s d k) v f g w = refl
marked-as (Object.Error e n p x) v f g w = refl
marked-as (Object.Coro k r) v f g w = refl

pub marked-is : (v : ℕ) (f : Bool → Bool) (g : Option ℕ → Option ℕ) (w : World) → change_iter_in (object w v) v f g w ≡ marked v f g w
marked-is v f g w = ap (λ o. change_iter_in o v f g w) (object-found w v) ∙ marked-as (found w v) v f g w
