-- A machine in words that passes its test, and what a call leaves of it. Assumes nothing.
use mathlib.Core.Path.{◌≡◌, refl, sym, ap, ap₂, ◌∙◌, subst}
use mathlib.Core.Bool.{Bool, true, false, ◌&&◌, ◌||◌}
use mathlib.Core.List.{List}
use Prim.Native.Nat.{ℕ, ◌≤◌, ◌<◌}
use lib.ListN.{length, get_or}
use lib.Dec.{eqb, leb}
use borrow.Author.Tests.{eqb-true, leb-true, le-leb, lt-leb}
use Rattle.lists.specs.Pick.{pick, pick_true, pick-false}
use Rattle.lists.specs.Parts.{splice}
use Rattle.heap.specs.declared.fault.Fault.{Fault}
use Rattle.model.specs.Answer.{number_of}
use Rattle.model.specs.declared.call.Answer.{Answer}
use Rattle.model.specs.declared.program.Costs.{Costs}
use Rattle.model.specs.declared.machine.Fuel.{Fuel}
use Rattle.claims_sound.proofs.Tests.{and_left, and_right}
use Rattle.memory_world.specs.Memory.{Lent}
use Rattle.memory_world.specs.declared.machine.Machine.{Machine}
use Rattle.memory_world.specs.declared.machine.Sizes.{Sizes}
use Rattle.machine_state.specs.declared.called.Called.{Called}
use Rattle.memory_world.specs.Words.{sizes_of}
use Rattle.memory_world.specs.Decode.{setup_of}
use Rattle.memory_calls.specs.Answer.{answer_words}
use Rattle.std.specs.Prelude.{Result}
use Rattle.memory_calls.specs.declared.call.Gate.{Gate}
use Rattle.model.specs.declared.call.Op.{Op}
use Rattle.memory_step.specs.Step.{MemoryState, Left, is_sound}
use Rattle.outer_call.specs.State.{state, gives, SoundFits}
use Rattle.outer_run.specs.Run.{do_words, Reads}
use Rattle.linked_calls.specs.Words.{machine_in, machine_words, sizes_in, fuel_in, fuel_words}
use Rattle.linked_calls.specs.Host.{numbers_ok, same_costs, same_sizes, sizes_held, Host, host, state_of, passes_test, Gave, gave, tells, overwritten, kept_in, do_in, short, call_in}

-- sizes that are the same
and_same : (p : Bool) (x y : ℕ) → (p && eqb x y) ≡ true → (p ≡ true) × (x ≡ y)
and_same p x y h = (and_left p (eqb x y) h, eqb-true x y (and_right p (eqb x y) h))

costs-same : (c d : Costs) → same_costs c d ≡ true → c ≡ d
costs-same c d h =
    let two = eqb c.frame d.frame && eqb c.coro d.coro in
    let three = two && eqb c.object d.object in
    let four = three && eqb c.int d.int in
    let five = four && eqb c.error d.error in
    let iter = and_same five c.iter d.iter h in
    let error = and_same four c.error d.error iter.0 in
    let int = and_same three c.int d.int error.0 in
    let object = and_same two c.object d.object int.0 in
    let coro = and_same (eqb c.frame d.frame) c.coro d.coro object.0 in
    let frame = eqb-true c.frame d.frame coro.0 in
    λ i. record { frame = frame i; coro = coro.1 i; object = object.1 i; int = int.1 i; error = error.1 i; iter = iter.1 i }

pub sizes-same : (a b : Sizes) → same_sizes a b ≡ true → a ≡ b
sizes-same a b h =
    let two = eqb a.depth b.depth && eqb a.stack b.stack in
    let three = two && eqb a.rows b.rows in
    let four = three && eqb a.slots b.slots in
    let five = four && eqb a.memory b.memory in
    let limits = five && eqb a.width b.width in
    let costs = costs-same a.costs b.costs (and_right limits (same_costs a.costs b.costs) h) in
    let width = and_same five a.width b.width (and_left limits (same_costs a.costs b.costs) h) in
    let memory = and_same four a.memory b.memory width.0 in
    let slots = and_same three a.slots b.slots memory.0 in
    let rows = and_same two a.rows b.rows slots.0 in
    let stack = and_same (eqb a.depth b.depth) a.stack b.stack rows.0 in
    let depth = eqb-true a.depth b.depth stack.0 in
    λ i. record { depth = depth i; stack = stack.1 i; rows = rows.1 i; slots = slots.1 i; memory = memory.1 i; width = width.1 i; costs = costs i }

-- ---- the numbers' words

module _ (ms fs : List ℕ) where
  abbrev flags : Bool
  flags = eqb (get_or fs 1 0) 1 || eqb (get_or fs 1 0) 0 && eqb (get_or fs 2 0) 0

  pub long-numbers : numbers_ok ms fs ≡ true → (25 ≤ length ms) × (4 ≤ length fs)
  long-numbers h =
      let a = leb 25 (length ms) in
      let b = a && leb 4 (length fs) in
      let c = b && leb (get_or ms 6 0) 1 in
      let k = and_left b (leb (get_or ms 6 0) 1) (and_left c (leb (get_or fs 3 0) 1) (and_left (c && leb (get_or fs 3 0) 1) flags h)) in
      (leb-true 25 (length ms) (and_left a (leb 4 (length fs)) k), leb-true 4 (length fs) (and_right a (leb 4 (length fs)) k))

-- ---- the test

module _ (h : Host) where
  pub fails-numbers : numbers_ok h.machine h.fuel ≡ false → false ≡ passes_test h
  unfolding passes_test
  fails-numbers e = sym (ap (λ a. a && is_sound (state_of h) && sizes_held h.machine h.words.setup) e)

  pub fails-sound : numbers_ok h.machine h.fuel ≡ true → is_sound (state_of h) ≡ false → false ≡ passes_test h
  unfolding passes_test
  fails-sound e k = sym (ap₂ (λ a b. a && b && sizes_held h.machine h.words.setup) e k)

  pub all_tested : numbers_ok h.machine h.fuel ≡ true → is_sound (state_of h) ≡ true → sizes_held h.machine h.words.setup ≡ passes_test h
  unfolding passes_test
  all_tested e k = sym (ap₂ (λ a b. a && b && sizes_held h.machine h.words.setup) e k)

  -- of what was read
  pub read-sound : (b : Bool) (m : Machine) (f : Fuel) → m ≡ machine_in h.machine → f ≡ fuel_in h.fuel → b ≡ is_sound (state h.words m f) → b ≡ is_sound (state_of h)
  read-sound b m f a c e = e ∙ (λ i. is_sound (state h.words (a i) (c i)))

-- ---- a machine that passes

module _ (h : Host) (e : passes_test h ≡ true) where
  abbrev nums : Bool
  nums = numbers_ok h.machine h.fuel

  abbrev held : Bool
  held = sizes_held h.machine h.words.setup

  pub numbers : nums ≡ true
  unfolding passes_test
  numbers = and_left nums (is_sound (state_of h)) (and_left (nums && is_sound (state_of h)) held e)

  pub sound : is_sound (state_of h) ≡ true
  unfolding passes_test
  sound = and_right nums (is_sound (state_of h)) (and_left (nums && is_sound (state_of h)) held e)

  pub sizes : sizes_in h.machine ≡ sizes_of (setup_of h.words.setup)
  unfolding passes_test
  sizes = sizes-same _ _ (and_right (nums && is_sound (state_of h)) held e)

  -- what is read from its words may be called
  pub may_read : (m : Machine) (f : Fuel) (l : Sizes) → m ≡ machine_in h.machine → f ≡ fuel_in h.fuel → l ≡ sizes_in h.machine → SoundFits l (state h.words m f)
  may_read m f l a b c = record { sound = (λ i. is_sound (state h.words (a i) (b i))) ∙ sound; sizes = c ∙ sizes }

-- what a call leaves, in words
pub left_in : (h : Host) (r : Result Op Gate) (xs : List ℕ) (m : Machine) (f : Fuel) (k : Result Op Gate) (M' : Lent) (d : Called Answer) (ms' fs' xs' : List ℕ) (n : ℕ)
    → m ≡ machine_in h.machine → f ≡ fuel_in h.fuel → k ≡ r → Reads (state h.words m f) k (gives M' d)
    → ms' ≡ splice h.machine 0 (machine_words d.machine) → fs' ≡ splice h.fuel 0 (fuel_words d.fuel) → xs' ≡ splice xs 0 (answer_words d.answer) → n ≡ number_of d.answer
    → gave (host M' ms' fs') xs' n ≡ kept_in h r xs
left_in h r xs m f k M' d ms' fs' xs' n a b c did e₁ e₂ e₃ e₄ =
    let q : gives M' d ≡ do_words (state_of h) r = did.is ∙ (λ i. do_words (state h.words (a i) (b i)) (c i)) in
    (λ i. gave (host M' (e₁ i) (e₂ i)) (e₃ i) (e₄ i))
    ∙ (λ i. tells (overwritten h (q i).state) (q i).answer xs)

-- ---- by the test

module _ (h : Host) (r : Result Op Gate) (xs : List ℕ) (g : Gave) where
  pub done : (ok : Bool) → ok ≡ true → g ≡ kept_in h r xs → g ≡ do_in ok h r xs
  done ok e q = q ∙ sym (ap (λ b. do_in b h r xs) e ∙ pick_true _ _)

  pub refused : (ok : Bool) → ok ≡ false → g ≡ tells h (Answer.Refused Fault.Unsound) xs → g ≡ do_in ok h r xs
  refused ok e q = q ∙ sym (ap (λ b. do_in b h r xs) e ∙ pick-false _ _)

  pub called : 8 ≤ length xs → (ok : Bool) → ok ≡ passes_test h → g ≡ do_in ok h r xs → g ≡ call_in h r xs
  unfolding call_in
  called w ok e q =
      q ∙ ap (λ b. do_in b h r xs) e ∙ sym (ap (λ b. pick b (do_in (passes_test h) h r xs) (gave h xs (short (passes_test h)))) (le-leb 8 (length xs) w) ∙ pick_true _ _)

  pub too_short : length xs < 8 → g ≡ gave h xs (short (passes_test h)) → g ≡ call_in h r xs
  unfolding call_in
  too_short w q = q ∙ sym (ap (λ b. pick b (do_in (passes_test h) h r xs) (gave h xs (short (passes_test h)))) (lt-leb 8 (length xs) w) ∙ pick-false _ _)
