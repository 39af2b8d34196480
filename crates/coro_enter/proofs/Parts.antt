-- What an entry refuses, and what it answers, by the tests of the code. Assumes nothing.
use mathlib.Core.Path.{◌≡◌, refl, sym, ap, ◌∙◌}
use mathlib.Core.Bool.{Bool, true, false, not, ◌||◌}
use Prim.Native.Nat.{ℕ, ◌+◌, ◌-◌, ◌≤◌, ◌<◌}
use native.Mathlib.Omega.{arith}
use lib.Dec.{eqb, ltb}
use borrow.Author.Tests.{eq-eqb, ne_eqb, lt-ltb, le-ltb}
use Rattle.lists.specs.Pick.{pick, pick_true, pick-false}
use Rattle.heap.specs.declared.fault.Fault.{Fault}
use Rattle.heap.specs.declared.object.CoroObj.{CoroObj}
use Rattle.heap.specs.declared.object.CoroState.{CoroState}
use Rattle.model.specs.State.{is_created, is_resumable}
use Rattle.std.specs.Prelude.{Result, Ok, Err}
use Rattle.model.specs.declared.coro.Entered.{Entered}
use Rattle.claims_sound.proofs.Tests.{no_false, no_true}
use Rattle.memory_world.specs.declared.machine.Sizes.{Sizes}
use Rattle.coro_enter.specs.Enter.{refusal_of, entered_as}

abbrev verdict : Bool → Bool → Bool → Bool → Result Unit Fault
verdict a b c d = pick (not a || b) (Err Fault.InvalidCoroState) (pick (c || d) (Err Fault.StackOverflow) (Ok tt))

first : (a b c d : Bool) → a ≡ false → Err Fault.InvalidCoroState ≡ verdict a b c d
unfolding pick
first true b c d e = no_true e
first false b c d e = refl

second : (a b c d : Bool) → b ≡ true → Err Fault.InvalidCoroState ≡ verdict a b c d
unfolding pick
second true true c d e = refl
second true false c d e = no_false e
second false b c d e = refl

third : (a b c d : Bool) → a ≡ true → b ≡ false → c ≡ true → Err Fault.StackOverflow ≡ verdict a b c d
unfolding pick
third true false true d p q e = refl
third true false false d p q e = no_false e
third true true c d p q e = no_true q
third false b c d p q e = no_false p

fourth : (a b c d : Bool) → a ≡ true → b ≡ false → d ≡ true → Err Fault.StackOverflow ≡ verdict a b c d
unfolding pick
fourth true false true d p q e = refl
fourth true false false true p q e = refl
fourth true false false false p q e = no_false e
fourth true true c d p q e = no_true q
fourth false b c d p q e = no_false p

fifth : (a b c d : Bool) → a ≡ true → b ≡ false → c ≡ false → d ≡ false → Ok tt ≡ verdict a b c d
unfolding pick
fifth true false false false p q e f = refl
fifth true false false true p q e f = no_true f
fifth true false true d p q e f = no_true e
fifth true true c d p q e f = no_true q
fifth false b c d p q e f = no_false p

module _ (h d : ℕ) (l : Sizes) (c : CoroObj) where
  abbrev over : Bool
  over = ltb l.depth (d + c.frames)

  abbrev tall : Bool
  tall = ltb l.stack (h + c.regs)

  pub by_state : is_resumable c.state ≡ false → Err Fault.InvalidCoroState ≡ refusal_of h d l c
  by_state e = first (is_resumable c.state) (eqb c.frames 0) over tall e

  pub by-none : c.frames ≡ 0 → Err Fault.InvalidCoroState ≡ refusal_of h d l c
  by-none e = second (is_resumable c.state) (eqb c.frames 0) over tall (eq-eqb c.frames 0 e)

  module _ (may : is_resumable c.state ≡ true) (some : c.frames ≡ 0 → ⊥) where
    pub by-depth : d ≤ l.depth → l.depth - d < c.frames → Err Fault.StackOverflow ≡ refusal_of h d l c
    by-depth i k = third (is_resumable c.state) (eqb c.frames 0) over tall may (ne_eqb c.frames 0 some) (lt-ltb l.depth (d + c.frames) (omega arith))

    pub by-stack : h ≤ l.stack → l.stack - h < c.regs → Err Fault.StackOverflow ≡ refusal_of h d l c
    by-stack i k = fourth (is_resumable c.state) (eqb c.frames 0) over tall may (ne_eqb c.frames 0 some) (lt-ltb l.stack (h + c.regs) (omega arith))

    pub by-nothing : d ≤ l.depth → h ≤ l.stack → c.frames ≤ l.depth - d → c.regs ≤ l.stack - h → Ok tt ≡ refusal_of h d l c
    by-nothing i j k n =
        fifth (is_resumable c.state) (eqb c.frames 0) over tall may (ne_eqb c.frames 0 some)
        (le-ltb l.depth (d + c.frames) (omega arith)) (le-ltb l.stack (h + c.regs) (omega arith))

-- ---- the answer

pub fresh-as : (c : CoroObj) → c.state ≡ CoroState.Created → (Ok Entered.Fresh) ≡ entered_as c
fresh-as c e = sym (ap (λ s. pick (is_created s) (Ok Entered.Fresh) (Ok (Entered.Suspended c.waiting))) e ∙ pick_true _ _)

pub waits-as : (c : CoroObj) → is_created c.state ≡ false → Ok (Entered.Suspended c.waiting) ≡ entered_as c
waits-as c e = sym (ap (λ s. pick s (Ok Entered.Fresh) (Ok (Entered.Suspended c.waiting))) e ∙ pick-false _ _)
