-- The line that a call is led to: past tests that do not stop it, and what every line has.
use Prim.Native.Nat.{ℕ}
use mathlib.Core.Path.{◌≡◌, refl, ap}
use mathlib.Core.Bool.{Bool, true, false, not, ◌&&◌, ◌||◌, true≢false, false≢true}
use mathlib.Core.List.{List, [], ◌∷◌, map}
use lib.ListN.{get_or, drop}
use Rattle.lists.specs.Pick.{pick}
use Rattle.heap.specs.declared.object.CoroState.{CoroState}
use Rattle.model.specs.Lists.{is_nil, each}
use Rattle.model.specs.Object.{Object}
use Rattle.model.specs.World.{World, After, after}
use Rattle.model.specs.Sound.{sound}
use Rattle.model.specs.declared.exec.Step.{Step}
use Rattle.claims_sheet.specs.Lines.{Line, Lines, leads_from, refuse}
use Rattle.claims_sheet.specs.Words.{is_nothing, is_coroutine}
use Rattle.claims_sheet.specs.Charging.{used_up, starts, charged, lost, as_answer, instruction}
use Rattle.claims_sheet.specs.Pep342.{pays}
use Rattle.claims_sheet.proofs.Among.{and_left, and_right, not-true}
use Rattle.claims_sheet.proofs.Choice.{by-test}

-- ---- past a test, and at one

pub past : {A : Type 0} (b : Bool) (x : A) {y z : A} → b ≡ false → y ≡ z → pick b x y ≡ z
unfolding pick
past true x e f = absurd (true≢false e)
past false x e f = f

pub here : {A : Type 0} (b : Bool) {x : A} (y : A) → b ≡ true → pick b x y ≡ x
unfolding pick
here true y e = refl
here false y e = absurd (false≢true e)

-- ---- what every line that stops has, the line that is led to has

abbrev pub All : {A : Type 0} → (A → Type 0) → List A → Type 0
All P [] = Unit {0}
All P (t ∷ ts) = P t × All P ts

abbrev pub Every : {A : Type 0} → (After A → Type 0) → List (Line A) → Type 0
Every P ts = All (λ t. t.stops ≡ true → P (after t.left t.answer)) ts

pub led : {A : Type 0} (P : After A → Type 0) (ts : List (Line A)) (d : Line A) → Every P ts → P (after d.left d.answer) → P (leads_from ts d)
led P [] d h k = k
led P (t ∷ ts) d h k = by-test P t.stops h.0 (λ _. led P ts d h.1 k)

-- .. where each line knows that none before it stopped the call
abbrev pub InTurn : {A : Type 0} → (After A → Type 0) → List (Line A) → Line A → Type 0
InTurn P [] d = P (after d.left d.answer)
InTurn P (t ∷ ts) d = (t.stops ≡ true → P (after t.left t.answer)) × (t.stops ≡ false → InTurn P ts d)

pub led-in-turn : {A : Type 0} (P : After A → Type 0) (ts : List (Line A)) (d : Line A) → InTurn P ts d → P (leads_from ts d)
led-in-turn P [] d h = h
led-in-turn P (t ∷ ts) d h = by-test P t.stops h.0 (λ e. led-in-turn P ts d (h.1 e))

pub in-turn : {A : Type 0} (P : After A → Type 0) (ts : List (Line A)) (d : Line A) → Every P ts → P (after d.left d.answer) → InTurn P ts d
in-turn P [] d h k = k
in-turn P (t ∷ ts) d h k = (h.0, λ _. in-turn P ts d h.1 k)

-- .. a test of the answer alone
abbrev pub all : {A : Type 0} → (A → Bool) → List (Line A) → Line A → Bool
all p ts d = each (λ l. p l.answer) ts && p d.answer

pub led-answer : {A : Type 0} (p : A → Bool) (ts : List (Line A)) (d : Line A) → all p ts d ≡ true → p (leads_from ts d).answer ≡ true
led-answer p ts d h = led (λ a. p a.answer ≡ true) ts d (go ts (and_left (each (λ l. p l.answer) ts) (p d.answer) h)) (and_right (each (λ l. p l.answer) ts) (p d.answer) h)
  where
    go : (ts : List (Line _)) → each (λ l. p l.answer) ts ≡ true → Every (λ a. p a.answer ≡ true) ts
    go [] h = tt
    go (t ∷ ts) h = (λ _. and_left (p t.answer) (each (λ l. p l.answer) ts) h, go ts (and_right (p t.answer) (each (λ l. p l.answer) ts) h))

-- .. what follows, line by line, from an equation of two lists
pub line-by-line : {A B : Type 0} (f g : A → B) (P : A → Type 0) → B → ((t : A) → f t ≡ g t → P t) → (ts : List A) → map f ts ≡ map g ts → All P ts
line-by-line f g P b h [] e = tt
line-by-line f g P b h (t ∷ ts) e = (h t (ap (λ xs. get_or xs 0 b) e), line-by-line f g P b h ts (ap (λ xs. drop 1 xs) e))

-- ---- an instruction that pays comes to its own lines

pub paid : (pc : ℕ) (ok : Bool) (own : World → Lines Step) (w : World) → pays pc ok w ≡ true →
    leads_from (refuse 11 (not (sound w)) w ∷ (instruction pc ok own w).tests) (instruction pc ok own w).done
    ≡ leads_from (map (as_answer (lost pc w)) (own (charged pc w)).tests) (as_answer (lost pc w) (own (charged pc w)).done)
paid pc ok own w h =
    past (not (sound w)) _ (ap not (and_left (sound w) _ h))
    (past (is_nil w.frames) _ (not-true (is_nil w.frames) (and_left (not (is_nil w.frames)) _ two))
    (past (not ok) _ (ap not (and_left ok _ three)) (past (used_up w) _ (not-true (used_up w) (and_left (not (used_up w)) _ four)) (past (starts pc w) _ (not-true (starts pc w) (and_right (not (used_up w)) _ four)) refl))))
  where
    two : not (is_nil w.frames) && (ok && (not (used_up w) && not (starts pc w))) ≡ true
    two = and_right (sound w) _ h

    three : ok && (not (used_up w) && not (starts pc w)) ≡ true
    three = and_right (not (is_nil w.frames)) _ two

    four : not (used_up w) && not (starts pc w) ≡ true
    four = and_right ok _ three

-- ---- states

abbrev pub states : List CoroState
states = CoroState.Created ∷ CoroState.Running ∷ CoroState.Yielded ∷ CoroState.Awaiting ∷ CoroState.Returned ∷ CoroState.Failed ∷ []

implied : (a b : Bool) → not a || b ≡ true → a ≡ true → b ≡ true
implied true b h e = h
implied false b h e = absurd (false≢true e)

-- a test that follows from another in each state
pub follows : (p q : CoroState → Bool) → each (λ s. not (p s) || q s) states ≡ true → (s : CoroState) → p s ≡ true → q s ≡ true
follows p q h s = implied (p s) (q s) (go s)
  where
    f : CoroState → Bool
    f s = not (p s) || q s

    r1 : each f (CoroState.Running ∷ CoroState.Yielded ∷ CoroState.Awaiting ∷ CoroState.Returned ∷ CoroState.Failed ∷ []) ≡ true
    r1 = and_right (f CoroState.Created) _ h

    r2 : each f (CoroState.Yielded ∷ CoroState.Awaiting ∷ CoroState.Returned ∷ CoroState.Failed ∷ []) ≡ true
    r2 = and_right (f CoroState.Running) _ r1

    r3 : each f (CoroState.Awaiting ∷ CoroState.Returned ∷ CoroState.Failed ∷ []) ≡ true
    r3 = and_right (f CoroState.Yielded) _ r2

    r4 : each f (CoroState.Returned ∷ CoroState.Failed ∷ []) ≡ true
    r4 = and_right (f CoroState.Awaiting) _ r3

    go : (s : CoroState) → not (p s) || q s ≡ true
    go CoroState.Created = and_left (f CoroState.Created) _ h
    go CoroState.Running = and_left (f CoroState.Running) _ r1
    go CoroState.Yielded = and_left (f CoroState.Yielded) _ r2
    go CoroState.Awaiting = and_left (f CoroState.Awaiting) _ r3
    go CoroState.Returned = and_left (f CoroState.Returned) _ r4
    go CoroState.Failed = and_left (f CoroState.Failed) _ (and_right (f CoroState.Returned) _ r4)

-- a coroutine is something
pub lives : (o : Object) (b : Bool) → is_coroutine o ≡ true → is_nothing o && b ≡ false
lives Object.Empty b h = absurd (false≢true h)
lives (Object.Func f) b h = refl
lives (Object.Int n) b h = refl
lives (Object.Iter s d k) b h = refl
lives (Object.Error e f p v) b h = refl
lives (Object.Coro k r) b h = refl
