-- A machine's numbers and fuel, written in words and read back. Assumes nothing.
use Prim.Native.Nat.{ℕ, zero, suc, ◌+◌, ◌≤◌}
use native.Mathlib.Omega.{arith}
use mathlib.Core.Path.{◌≡◌, refl, sym, ap, ap₂, ◌∙◌}
use mathlib.Core.Bool.{Bool, true, false, ◌&&◌, ◌||◌}
use mathlib.Core.List.{List, [], ◌∷◌, ◌++◌}
use lib.ListN.{length, get_or, drop}
use lib.Seq.{get_or-drop}
use lib.Dec.{eqb, leb}
use borrow.Author.Tests.{leb-true, eqb-true, eq-eqb, ne_eqb}
use Rattle.lists.specs.Pick.{pick, pick_true, pick-false}
use Rattle.lists.specs.Parts.{splice}
use Rattle.heap.specs.Slot.{flag, is_set}
use Rattle.std.specs.Prelude.{Option, Some, None}
use Rattle.model.specs.declared.machine.Fuel.{Fuel}
use Rattle.claims_sound.proofs.Tests.{and_left, and_right, both, no_false}
use Rattle.memory_tables.proofs.Padded.{length-splice}
use Rattle.memory_world.specs.declared.machine.Machine.{Machine}
use Rattle.memory_world.specs.declared.machine.Sizes.{Sizes}
use Rattle.linked_calls.specs.Words.{machine_in, machine_words, sizes_in, fuel_in, fuel_words, bank_of, bank_words}
use Rattle.linked_calls.specs.Host.{numbers_ok, same_sizes}

-- ---- flags

flag-back : (b : Bool) → is_set (flag b) ≡ b
flag-back true = refl
flag-back false = refl

flag_small : (b : Bool) → leb (flag b) 1 ≡ true
flag_small true = refl
flag_small false = refl

set_back : (n : ℕ) → leb n 1 ≡ true → flag (is_set n) ≡ n
set_back zero e = refl
set_back (suc zero) e = refl
set_back (suc (suc n)) e = let h = leb-true (suc (suc n)) 1 e in absurd (omega arith)

-- ---- the machine's numbers

pub machine-back : (ms : List ℕ) (m : Machine) → machine_in (splice ms 0 (machine_words m)) ≡ m
machine-back ms m =
    ap
    (λ b.
    record {
      height = m.height;
      depth = m.depth;
      active = m.active;
      count = m.count;
      ready = m.ready;
      finalize = m.finalize;
      finalizing = b;
      outcome = m.outcome;
      used = m.used;
      seq = m.seq;
    })
    (flag-back m.finalizing)

-- the sizes after them stay
pub sizes-stay : (ms : List ℕ) (m : Machine) → sizes_in (splice ms 0 (machine_words m)) ≡ sizes_in ms
sizes-stay ms m =
    let at : (k : ℕ) → get_or (drop 13 ms) k 0 ≡ get_or ms (13 + k) 0 = λ k. get_or-drop 13 ms k 0 in
    λ i.
    record {
      depth = at 0 i;
      stack = at 1 i;
      rows = at 2 i;
      slots = at 3 i;
      memory = at 4 i;
      width = at 5 i;
      costs = record { frame = at 6 i; coro = at 7 i; object = at 8 i; int = at 9 i; error = at 10 i; iter = at 11 i };
    }

-- the n words from place i on
abbrev from : ℕ → ℕ → List ℕ → List ℕ
from zero i ws = []
from (suc n) i ws = get_or ws i 0 ∷ from n (suc i) ws

cons_drop : (i : ℕ) (ws : List ℕ) → suc i ≤ length ws → get_or ws i 0 ∷ drop (suc i) ws ≡ drop i ws
cons_drop i [] h = absurd (omega arith)
cons_drop zero (w ∷ ws) h = refl
cons_drop (suc i) (w ∷ ws) h = cons_drop i ws (omega arith)

from-drop : (n i : ℕ) (ws : List ℕ) → n + i ≤ length ws → from n i ws ++ drop (n + i) ws ≡ drop i ws
from-drop zero i ws h = let e : 0 + i ≡ i = omega arith in ap (λ k. drop k ws) e
from-drop (suc n) i ws h =
    let e : n + suc i ≡ suc n + i = omega arith in
    ap (λ k. get_or ws i 0 ∷ (from n (suc i) ws ++ drop k ws)) (sym e) ∙ ap (λ (z : List ℕ). get_or ws i 0 ∷ z) (from-drop n (suc i) ws (omega arith)) ∙ cons_drop i ws (omega arith)

-- written back as they were read
pub same-machine : (ms : List ℕ) → 25 ≤ length ms → leb (get_or ms 6 0) 1 ≡ true → splice ms 0 (machine_words (machine_in ms)) ≡ ms
same-machine ms h e =
    ap (λ f. (from 6 0 ms ++ (f ∷ from 6 7 ms)) ++ drop 13 ms) (set_back (get_or ms 6 0) e) ∙ from-drop 13 0 ms (omega arith)

-- ---- the fuel

fuel-as : (fs : List ℕ) (n : ℕ) (b : Option ℕ) (r : Bool) → let f : Fuel = record { fuel = n; bank = b; ready = r } in fuel_in (splice fs 0 (fuel_words f)) ≡ f
fuel-as fs n None r = λ i. record { fuel = n; bank = pick_true None (Some 0) i; ready = flag-back r i }
fuel-as fs n (Some a) r = λ i. record { fuel = n; bank = pick-false None (Some a) i; ready = flag-back r i }

pub fuel-back : (fs : List ℕ) (f : Fuel) → fuel_in (splice fs 0 (fuel_words f)) ≡ f
fuel-back fs f = fuel-as fs f.fuel f.bank f.ready

-- 1 and an amount, or 0 and 0
abbrev pub bank_set : List ℕ → Bool
bank_set fs = eqb (get_or fs 1 0) 1 || eqb (get_or fs 1 0) 0 && eqb (get_or fs 2 0) 0

bank-same : (c a r : ℕ) → (eqb c 1 || eqb c 0 && eqb a 0) ≡ true → bank_words (bank_of c a) r ≡ c ∷ a ∷ r ∷ []
bank-same zero a r e = ap (λ b. bank_words b r) (pick_true None (Some a)) ∙ ap (λ n. 0 ∷ n ∷ r ∷ []) (sym (eqb-true a 0 e))
bank-same (suc zero) a r e = ap (λ b. bank_words b r) (pick-false None (Some a))
bank-same (suc (suc c)) a r e =
    let one = ne_eqb (suc (suc c)) 1 (λ q. omega (arith, q)) in
    let none = ne_eqb (suc (suc c)) 0 (λ q. omega (arith, q)) in
    no_false (sym (ap₂ (λ x y. x || y && eqb a 0) one none) ∙ e)

pub same-fuel : (fs : List ℕ) → 4 ≤ length fs → leb (get_or fs 3 0) 1 ≡ true → bank_set fs ≡ true → splice fs 0 (fuel_words (fuel_in fs)) ≡ fs
same-fuel fs h e b =
    ap (λ (z : List ℕ). splice fs 0 (get_or fs 0 0 ∷ z)) (bank-same (get_or fs 1 0) (get_or fs 2 0) (flag (is_set (get_or fs 3 0))) b)
    ∙ ap (λ r. (from 3 0 fs ++ (r ∷ [])) ++ drop 4 fs) (set_back (get_or fs 3 0) e) ∙ from-drop 4 0 fs (omega arith)

-- ---- what is written passes

fuel-set : (fs : List ℕ) (n : ℕ) (b : Option ℕ) (r : Bool) → let ws = splice fs 0 (fuel_words (record { fuel = n; bank = b; ready = r })) in (leb (get_or ws 3 0) 1 && bank_set ws) ≡ true
fuel-set fs n None r = both (flag_small r) refl
fuel-set fs n (Some a) r = both (flag_small r) refl

fuel-long : (fs : List ℕ) (n : ℕ) (b : Option ℕ) (r : Bool) → 4 ≤ length fs → length (splice fs 0 (fuel_words (record { fuel = n; bank = b; ready = r }))) ≡ length fs
fuel-long fs n None r h = length-splice fs (n ∷ 0 ∷ 0 ∷ flag r ∷ []) 0 h
fuel-long fs n (Some a) r h = length-splice fs (n ∷ 1 ∷ a ∷ flag r ∷ []) 0 h

module _ (ms fs : List ℕ) where
  -- the five tests of the numbers
  pub numbers-all : leb 25 (length ms) ≡ true → leb 4 (length fs) ≡ true → leb (get_or ms 6 0) 1 ≡ true → (leb (get_or fs 3 0) 1 && bank_set fs) ≡ true → numbers_ok ms fs ≡ true
  numbers-all a b c d =
      both (both (both (both a b) c) (and_left (leb (get_or fs 3 0) 1) (bank_set fs) d)) (and_right (leb (get_or fs 3 0) 1) (bank_set fs) d)

  pub numbers-each : numbers_ok ms fs ≡ true → (leb 25 (length ms) ≡ true) × (leb 4 (length fs) ≡ true) × (leb (get_or ms 6 0) 1 ≡ true) × ((leb (get_or fs 3 0) 1 && bank_set fs) ≡ true)
  numbers-each h =
      let a = leb 25 (length ms) in
      let b = a && leb 4 (length fs) in
      let c = b && leb (get_or ms 6 0) 1 in
      let r = leb (get_or fs 3 0) 1 in
      let h₄ : (c && r) ≡ true = and_left (c && r) (bank_set fs) h in
      let h₃ : c ≡ true = and_left c r h₄ in
      let h₂ : b ≡ true = and_left b (leb (get_or ms 6 0) 1) h₃ in
      (and_left a (leb 4 (length fs)) h₂, and_right a (leb 4 (length fs)) h₂, and_right b (leb (get_or ms 6 0) 1) h₃, both (and_right c r h₄) (and_right (c && r) (bank_set fs) h))

  -- numbers and fuel written over words that are long enough
  pub written-ok : (m : Machine) (f : Fuel) → leb 25 (length ms) ≡ true → leb 4 (length fs) ≡ true → numbers_ok (splice ms 0 (machine_words m)) (splice fs 0 (fuel_words f)) ≡ true
  written-ok m f a b =
      let h = leb-true 25 (length ms) a in
      let k = leb-true 4 (length fs) b in
      both
      (both
      (both
      (both (ap (leb 25) (length-splice ms (machine_words m) 0 (omega arith)) ∙ a) (ap (leb 4) (fuel-long fs f.fuel f.bank f.ready k) ∙ b))
      (flag_small m.finalizing))
      (and_left _ _ (fuel-set fs f.fuel f.bank f.ready)))
      (and_right (leb (get_or (splice fs 0 (fuel_words f)) 3 0) 1) _ (fuel-set fs f.fuel f.bank f.ready))

-- the same sizes
pub sizes-self : (l : Sizes) → same_sizes l l ≡ true
sizes-self l =
    let e : (n : ℕ) → eqb n n ≡ true = λ n. eq-eqb n n refl in
    let c = l.costs in
    both
    (both (both (both (both (both (e l.depth) (e l.stack)) (e l.rows)) (e l.slots)) (e l.memory)) (e l.width))
    (both (both (both (both (both (e c.frame) (e c.coro)) (e c.object)) (e c.int)) (e c.error)) (e c.iter))
