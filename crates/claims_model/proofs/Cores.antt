-- The cores of coroutines by their words, and what the object table's moves do to them. Two words that find objects in one slot
-- are one word.
use Prim.Native.Nat.{ℕ, ◌+◌, ◌*◌, ◌/◌, ◌%◌, ◌^◌, ◌≤◌, ◌<◌}
use native.Mathlib.Nat.{div-add-mod', div-div-eq-div-mul}
use native.Mathlib.Omega.{arith}
use native.Mathlib.Decide.{ℕ_discrete}
use mathlib.Core.Path.{◌≡◌, refl, sym, ap, ◌∙◌}
use mathlib.Core.Logic.{◌≢◌, ◌⊎◌, inl, inr}
use mathlib.Core.Bool.{Bool, true, false, ◌&&◌, ◌||◌}
use mathlib.Core.List.{List, [], ◌∷◌, ◌++◌}
use mathlib.Core.Option.{none}
use lib.ListN.{length, get_or, set, length-set, length-append, get_or-append}
use lib.Seq.{get_or-set_same, get_or-set_other, get_or_at}
use lib.Dec.{eqb, ltb}
use borrow.Author.Tests.{eqb-true, ltb-true, ltb-false, lt-ltb, le-ltb, eq-eqb, ne_eqb}
use Rattle.lists.specs.Pick.{pick, pick_true, pick-false}
use Rattle.heap.specs.Word.{nil, slot_of, tag_of, top_of}
use Rattle.heap.specs.Table.{Slot, slot, get, put_object, push_object}
use Rattle.std.specs.Prelude.{Option, Some, None}
use Rattle.heap.specs.declared.object.CoroState.{CoroState}
use Rattle.model.specs.State.{is_created, is_running, is_suspended}
use Rattle.model.specs.Object.{Core, Rest, Object, is_filled, Coroutine, Is, as_coro}
use Rattle.model.specs.Heap.{object_at}
use Rattle.claims_model.specs.Held.{closer}
use Rattle.claims_model.specs.Steps.{seen_of}
use Rattle.claims_model.proofs.Held.{Seat, core_in}
pub use Rattle.lists.proofs.Tests.{and_left, and_right}

-- false and true are not one
pub no_both : {A : Type 0} {b : Bool} → b ≡ true → b ≡ false → A
no_both p q = let z : ◌≡◌ {A = ℕ} 0 1 = cc in absurd (omega arith)

abbrev pub object_in : List (Slot Object) → ℕ → Object
object_in xs v = object_at xs (get Object.Empty is_filled xs v)

abbrev pub find : List (Slot Object) → ℕ → Slot Object
find xs i = get_or xs i (slot 0 Object.Empty)

abbrev pub names_in : List (Slot Object) → ℕ → Bool
names_in xs v = ltb (slot_of v) (length xs) && (eqb (find xs (slot_of v)).tag (tag_of v) && is_filled (find xs (slot_of v)).object)

-- ---- a word is a reference, or finds nothing in any table

abbrev pub Reads : ℕ → Type 0
Reads v = (xs : List (Slot Object)) → object_in xs v ≡ pick (names_in xs v) (find xs (slot_of v)).object Object.Empty

abbrev pub Lookup : ℕ → Type 0
Lookup v = ((top_of v ≡ 1) × Reads v) ⊎ ((xs : List (Slot Object)) → object_in xs v ≡ Object.Empty)

pick-object : (b : Bool) (xs : List (Slot Object)) (i : ℕ) → object_at xs (pick b (Some i) None) ≡ pick b (find xs i).object Object.Empty
unfolding pick
pick-object true xs i = refl
pick-object false xs i = refl

pub lookup : (v : ℕ) → Lookup v
unfolding pick
lookup v = go (eqb v nil) (eqb (top_of v) 1) (eqb (top_of v) 0xFFFE) refl refl refl
  where
    go : (a b c : Bool) → eqb v nil ≡ a → eqb (top_of v) 1 ≡ b → eqb (top_of v) 0xFFFE ≡ c → Lookup v
    go true b c e f g = inr (λ xs. rw e)
    go false true c e f g = inl (eqb-true (top_of v) 1 f, λ xs. rw (e, f) (pick-object (names_in xs v) xs (slot_of v)))
    go false false true e f g = inr (λ xs. rw (e, f, g))
    go false false false e f g = inr (λ xs. rw (e, f, g))

-- a reference is its slot and tag
same_parts : (a b n : ℕ) → a / n ≡ b / n → a % n ≡ b % n → a ≡ b
same_parts a b n p q = sym (div-add-mod' a n) ∙ ap (λ x. x * n + a % n) p ∙ ap (λ x. b / n * n + x) q ∙ div-add-mod' b n

pub one_word : (v u : ℕ) → top_of v ≡ 1 → top_of u ≡ 1 → slot_of v ≡ slot_of u → tag_of v ≡ tag_of u → v ≡ u
one_word v u p q s t = same_parts v u (2 ^ 32) (same_parts (v / 2 ^ 32) (u / 2 ^ 32) (2 ^ 16) (div-div-eq-div-mul v (2 ^ 32) (2 ^ 16) ∙ p ∙ sym q ∙ sym (div-div-eq-div-mul u (2 ^ 32) (2 ^ 16))) t) s

-- a word that finds an object
pub record Named (xs : List (Slot Object)) (v : ℕ) : Type 0 where
  pub top : top_of v ≡ 1
  pub inside : slot_of v < length xs
  pub tag : (find xs (slot_of v)).tag ≡ tag_of v
  pub reads : Reads v

pub named : (xs : List (Slot Object)) (v : ℕ) → is_filled (object_in xs v) ≡ true → Named xs v
named xs v e = go (lookup v)
  where
    a : Bool
    a = ltb (slot_of v) (length xs)

    b : Bool
    b = eqb (find xs (slot_of v)).tag (tag_of v)

    c : Bool
    c = is_filled (find xs (slot_of v)).object

    inner : (n : Bool) → (a && (b && c)) ≡ n → top_of v ≡ 1 → Reads v → Named xs v
    inner false n p h = no_both e (ap is_filled (h xs ∙ ap (λ t. pick t (find xs (slot_of v)).object Object.Empty) n ∙ pick-false (find xs (slot_of v)).object Object.Empty))
    inner true n p h =
        record {
          top = p;
          inside = ltb-true (slot_of v) (length xs) (and_left a (b && c) n);
          tag = eqb-true (find xs (slot_of v)).tag (tag_of v) (and_left b c (and_right a (b && c) n));
          reads = h;
        }

    go : Lookup v → Named xs v
    go (inr h) = no_both e (ap is_filled (h xs))
    go (inl (p, h)) = inner (a && (b && c)) refl p h

-- ---- an object put into a slot

pub put-apart : (xs : List (Slot Object)) (i : ℕ) (o : Object) (v : ℕ) → slot_of v ≢ i → object_in (put_object Object.Empty xs i o) v ≡ object_in xs v
put-apart xs i o v n = go (lookup v)
  where
    x : Slot Object
    x = slot (find xs i).tag o

    go : Lookup v → object_in (set xs i x) v ≡ object_in xs v
    go (inr h) = h (set xs i x) ∙ sym (h xs)
    go (inl (p, h)) = h (set xs i x) ∙ same ∙ sym (h xs)
      where
        same : pick (names_in (set xs i x) v) (find (set xs i x) (slot_of v)).object Object.Empty ≡ pick (names_in xs v) (find xs (slot_of v)).object Object.Empty
        same = rw (length-set xs i x, get_or-set_other xs i (slot_of v) x (slot 0 Object.Empty) n)

-- what a word finds after a put into its slot
pub put-here : (xs : List (Slot Object)) (v : ℕ) (o : Object) → Named xs v → is_filled o ≡ true → object_in (put_object Object.Empty xs (slot_of v) o) v ≡ o
put-here xs v o n f =
    n.reads (set xs (slot_of v) x)
    ∙ rw (length-set xs (slot_of v) x, get_or-set_same xs (slot_of v) x (slot 0 Object.Empty) n.inside, lt-ltb (slot_of v) (length xs) n.inside, eq-eqb (find xs (slot_of v)).tag (tag_of v) n.tag, f) (pick_true o Object.Empty)
  where
    x : Slot Object
    x = slot (find xs (slot_of v)).tag o

-- another word finds what it found
pub put-away : (xs : List (Slot Object)) (v : ℕ) (o : Object) (u : ℕ) → Named xs v → u ≢ v → object_in (put_object Object.Empty xs (slot_of v) o) u ≡ object_in xs u
put-away xs v o u n d = go (ℕ_discrete (slot_of u) (slot_of v)) (lookup u)
  where
    x : Slot Object
    x = slot (find xs (slot_of v)).tag o

    go : Dec (slot_of u ≡ slot_of v) → Lookup u → object_in (set xs (slot_of v) x) u ≡ object_in xs u
    go (no q) l = put-apart xs (slot_of v) o u q
    go (yes q) (inr h) = h (set xs (slot_of v) x) ∙ sym (h xs)
    go (yes q) (inl (p, h)) = h (set xs (slot_of v) x) ∙ none (set xs (slot_of v) x) (ap (λ y. y.tag) (ap (find (set xs (slot_of v) x)) q ∙ get_or-set_same xs (slot_of v) x (slot 0 Object.Empty) n.inside) ∙ n.tag) ∙ sym (none xs (ap (λ i. (find xs i).tag) q ∙ n.tag)) ∙ sym (h xs)
      where
        none : (ys : List (Slot Object)) → (find ys (slot_of u)).tag ≡ tag_of v → pick (names_in ys u) (find ys (slot_of u)).object Object.Empty ≡ Object.Empty
        none ys t = go2 (ltb (slot_of u) (length ys)) (is_filled (find ys (slot_of u)).object)
          where
            differs : eqb (find ys (slot_of u)).tag (tag_of u) ≡ false
            differs = ne_eqb (find ys (slot_of u)).tag (tag_of u) (λ e. d (one_word u v p n.top q (sym e ∙ t)))

            go2 : (a b : Bool) → pick (a && (eqb (find ys (slot_of u)).tag (tag_of u) && b)) (find ys (slot_of u)).object Object.Empty ≡ Object.Empty
            go2 true b = rw differs (pick-false (find ys (slot_of u)).object Object.Empty)
            go2 false b = pick-false (find ys (slot_of u)).object Object.Empty

-- ---- an object in a new slot: each word finds what it found, or it found nothing and finds the new one
pub push-cases : (xs : List (Slot Object)) (o : Object) (v : ℕ) → (object_in (push_object xs o) v ≡ object_in xs v) ⊎ ((object_in xs v ≡ Object.Empty) × (object_in (push_object xs o) v ≡ o))
push-cases xs o v = go (lookup v)
  where
    ys : List (Slot Object)
    ys = xs ++ (slot 0 o ∷ [])

    old : (ltb (slot_of v) (length xs) ≡ true) → pick (names_in ys v) (find ys (slot_of v)).object Object.Empty ≡ pick (names_in xs v) (find xs (slot_of v)).object Object.Empty
    old l =
        let h : slot_of v < length xs = ltb-true (slot_of v) (length xs) l in
        let k : slot_of v < length ys = omega (arith, length-append xs (slot 0 o ∷ [])) in
        rw (get_or-append xs (slot 0 o ∷ []) (slot 0 Object.Empty) (slot_of v) h, lt-ltb (slot_of v) (length ys) k, l)

    new : (n : Bool) → names_in ys v ≡ n → Reads v → length xs ≤ slot_of v → (object_in ys v ≡ object_in xs v) ⊎ ((object_in xs v ≡ Object.Empty) × (object_in ys v ≡ o))
    new false n h l = inl (h ys ∙ ap (λ t. pick t (find ys (slot_of v)).object Object.Empty) n ∙ pick-false (find ys (slot_of v)).object Object.Empty ∙ sym (nothing h l))
      where
        nothing : Reads v → length xs ≤ slot_of v → object_in xs v ≡ Object.Empty
        nothing h l = h xs ∙ rw (le-ltb (slot_of v) (length xs) l) (pick-false (find xs (slot_of v)).object Object.Empty)
    new true n h l = inr (nothing h l, h ys ∙ ap (λ t. pick t (find ys (slot_of v)).object Object.Empty) n ∙ pick_true (find ys (slot_of v)).object Object.Empty ∙ ap (λ y. y.object) here)
      where
        nothing : Reads v → length xs ≤ slot_of v → object_in xs v ≡ Object.Empty
        nothing h l = h xs ∙ rw (le-ltb (slot_of v) (length xs) l) (pick-false (find xs (slot_of v)).object Object.Empty)

        inside : slot_of v < length ys
        inside = ltb-true (slot_of v) (length ys) (and_left (ltb (slot_of v) (length ys)) (eqb (find ys (slot_of v)).tag (tag_of v) && is_filled (find ys (slot_of v)).object) n)

        here : find ys (slot_of v) ≡ slot 0 o
        here = get_or_at xs (slot 0 o) [] (slot 0 Object.Empty) (slot_of v) (omega (arith, inside, length-append xs (slot 0 o ∷ [])))

    go : Lookup v → (object_in ys v ≡ object_in xs v) ⊎ ((object_in xs v ≡ Object.Empty) × (object_in ys v ≡ o))
    go (inr h) = inl (h ys ∙ sym (h xs))
    go (inl (p, h)) = go2 (ltb (slot_of v) (length xs)) refl
      where
        go2 : (b : Bool) → ltb (slot_of v) (length xs) ≡ b → (object_in ys v ≡ object_in xs v) ⊎ ((object_in xs v ≡ Object.Empty) × (object_in ys v ≡ o))
        go2 true l = inl (h ys ∙ old l ∙ sym (h xs))
        go2 false l = new (names_in ys v) refl h (ltb-false (slot_of v) (length xs) l)

-- ---- the cores

abbrev pub coro_in : List (Slot Object) → ℕ → Coroutine
coro_in xs v = as_coro (object_in xs v)

abbrev pub cores : List (Slot Object) → ℕ → Seat
cores xs v = core_in (coro_in xs v)

abbrev pub busy : CoroState → Bool
busy s = is_running s || is_suspended s

-- whom a call may end, beside whom it enters or suspends: nobody; those that run; or one that has not begun
pub data Mode : Type 0 where
  m-plain : Mode
  m-ending : Mode
  m-undoing : ℕ → Mode

-- the core of c before and after: the same, or it has not begun and neither runs nor is suspended now; then nothing was there and it is new, or the call ends it
pub data Kept (b : Mode) (c : ℕ) (k l : Seat) : Type 0 where
  kept : l ≡ k → Kept b c k l
  unborn : is_created k.state ≡ true → busy l.state ≡ false → (is_created l.state ≡ true → l.closing ≡ k.closing) → ((k.seen ≡ none) × (is_created l.state ≡ true)) ⊎ (b ≡ m-undoing c) → Kept b c k l

filled : (o : Object) {k : Core} {r : Rest} → as_coro o ≡ Is k r → is_filled o ≡ true
filled Object.Empty e = let z : ◌≡◌ {A = ℕ} 0 1 = cc in absurd (omega arith)
filled (Object.Func f) e = refl
filled (Object.Int n) e = refl
filled (Object.Iter s d k) e = refl
filled (Object.Error n f p v) e = refl
filled (Object.Coro k r) e = refl

pub named-coro : (xs : List (Slot Object)) (v : ℕ) {k : Core} {r : Rest} → coro_in xs v ≡ Is k r → Named xs v
named-coro xs v e = named xs v (filled (object_in xs v) e)

module _ (xs : List (Slot Object)) (v : ℕ) {k : Core} {r : Rest} (e : coro_in xs v ≡ Is k r) where
  -- a coroutine replaced: itself, and others
  pub set-mine : (k' : Core) (r' : Rest) → coro_in (put_object Object.Empty xs (slot_of v) (Object.Coro k' r')) v ≡ Is k' r'
  set-mine k' r' = ap as_coro (put-here xs v (Object.Coro k' r') (named-coro xs v e) refl)

  pub set_other : (k' : Core) (r' : Rest) (u : ℕ) → u ≢ v → cores (put_object Object.Empty xs (slot_of v) (Object.Coro k' r')) u ≡ cores xs u
  set_other k' r' u n = ap (λ o. core_in (as_coro o)) (put-away xs v (Object.Coro k' r') u (named-coro xs v e) n)

  -- the rest of a coroutine replaced, in what is not seen: no core changes
  pub set_rest : (r' : Rest) → seen_of (Is k r') ≡ seen_of (Is k r) → (u : ℕ) → cores (put_object Object.Empty xs (slot_of v) (Object.Coro k r')) u ≡ cores xs u
  set_rest r' m u = go (ℕ_discrete u v)
    where
      go : Dec (u ≡ v) → cores (put_object Object.Empty xs (slot_of v) (Object.Coro k r')) u ≡ cores xs u
      go (yes q) = ap (cores (put_object Object.Empty xs (slot_of v) (Object.Coro k r'))) q ∙ ap core_in (set-mine k r')
          ∙ (λ i. record { state = k.state; regs = k.regs; frames = k.frames; waiting = k.waiting; closing = closer (m i); seen = m i }) ∙ sym (ap core_in e) ∙ ap (cores xs) (sym q)
      go (no q) = set_other k r' u q

-- an iterator replaced
pub set-iter : (xs : List (Slot Object)) (v : ℕ) (s : ℕ) (d d' : Bool) (o o' : Option ℕ) → object_in xs v ≡ Object.Iter s d o → (u : ℕ) → cores (put_object Object.Empty xs (slot_of v) (Object.Iter s d' o')) u ≡ cores xs u
set-iter xs v s d d' o o' e u = go (ℕ_discrete u v)
  where
    n : Named xs v
    n = named xs v (ap is_filled e)

    go : Dec (u ≡ v) → cores (put_object Object.Empty xs (slot_of v) (Object.Iter s d' o')) u ≡ cores xs u
    go (yes q) = ap (cores (put_object Object.Empty xs (slot_of v) (Object.Iter s d' o'))) q ∙ ap (λ x. core_in (as_coro x)) (put-here xs v (Object.Iter s d' o') n refl) ∙ sym (ap (λ x. core_in (as_coro x)) e) ∙ ap (cores xs) (sym q)
    go (no q) = ap (λ x. core_in (as_coro x)) (put-away xs v (Object.Iter s d' o') u n q)
