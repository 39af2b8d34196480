-- A machine in words that is known to be sound, and a call done on its words. Assumes nothing.
use mathlib.Core.Path.{◌≡◌, refl, sym, ap, ap₂, ◌∙◌}
use mathlib.Core.Bool.{Bool, true, false, ◌&&◌, ◌||◌}
use mathlib.Core.List.{List, [], ◌∷◌, ◌++◌}
use Prim.Native.Nat.{ℕ, zero, suc, ◌^◌, ◌≤◌, ◌<◌}
use native.Mathlib.Omega.{arith}
use lib.ListN.{length, get_or, drop}
use lib.Dec.{eqb, leb}
use borrow.Author.Tests.{eqb-true, leb-true}
use Rattle.lists.specs.Pick.{pick, pick_true, pick-false}
use Rattle.lists.specs.Parts.{splice}
use Rattle.heap.specs.Slot.{flag, is_set}
use Rattle.std.specs.Prelude.{Option, Result, Some, None}
use Rattle.model.specs.declared.call.Op.{Op}
use Rattle.claims_sound.proofs.Tests.{no_false, and_left, and_right}
use Rattle.claims_sound.proofs.Sound.{Sound, sound→}
use Rattle.memory_world.specs.Memory.{Lent, Beside}
use Rattle.memory_world.specs.Lendings.{lent}
use Rattle.memory_world.specs.Contract.{Ok, Gives, if_sound, with}
use Rattle.memory_world.proofs.Does.{SameLengths}
use Rattle.machine_step.specs.Kept.{did}
use Rattle.memory_calls.specs.Answer.{answer_words}
use Rattle.memory_step.specs.Step.{Left, left, step_words}
use Rattle.outer_call.specs.State.{state}
use Rattle.outer_call.proofs.Stepping.{may-call, stepped}
use Rattle.linked_calls.specs.Words.{machine_in, machine_words, sizes_in, bank_of, bank_words, fuel_in, fuel_words}
use Rattle.linked_calls.specs.Host.{Host, host, state_of, passes_test, gave, tells, overwritten, kept_in}
use Rattle.linked_calls.proofs.Hosts as Tested
use Rattle.linked_switch.specs.Words.{Numbers, Fuelled}
use Rattle.linked_switch.specs.Went.{Holds, goes_on, Went}
use Rattle.linked_switch.specs.Enters.{EntersFits}
use Rattle.linked_switch.specs.Leaves.{LeavesFits}
use Rattle.linked_switch.proofs.Peel.{peel}
use Rattle.linked_switch.proofs.Leaving.{standing}

-- ---- words that pass the test are those of the numbers that they tell

flagged : (n : ℕ) → n ≤ 1 → flag (is_set n) ≡ n
flagged zero h = refl
flagged (suc zero) h = refl
flagged (suc (suc n)) h = absurd (omega arith)

abbrev Tells : List ℕ → Type 0
Tells ws = get_or ws 6 0 ≤ 1 → Numbers ws ws

tells-numbers : (ws : List ℕ) → 13 ≤ length ws → Tells ws
tells-numbers ws h₀ =
    peel Tells 12 ws h₀ (λ a as₁ h₁.
    peel (λ z. Tells (a ∷ z)) 11 as₁ h₁ (λ b as₂ h₂.
    peel (λ z. Tells (a ∷ b ∷ z)) 10 as₂ h₂ (λ c as₃ h₃.
    peel (λ z. Tells (a ∷ b ∷ c ∷ z)) 9 as₃ h₃ (λ d as₄ h₄.
    peel (λ z. Tells (a ∷ b ∷ c ∷ d ∷ z)) 8 as₄ h₄ (λ e as₅ h₅.
    peel (λ z. Tells (a ∷ b ∷ c ∷ d ∷ e ∷ z)) 7 as₅ h₅ (λ f as₆ h₆.
    peel (λ z. Tells (a ∷ b ∷ c ∷ d ∷ e ∷ f ∷ z)) 6 as₆ h₆ (λ g as₇ h₇.
    peel (λ z. Tells (a ∷ b ∷ c ∷ d ∷ e ∷ f ∷ g ∷ z)) 5 as₇ h₇ (λ u as₈ h₈.
    peel (λ z. Tells (a ∷ b ∷ c ∷ d ∷ e ∷ f ∷ g ∷ u ∷ z)) 4 as₈ h₈ (λ s as₉ h₉.
    peel (λ z. Tells (a ∷ b ∷ c ∷ d ∷ e ∷ f ∷ g ∷ u ∷ s ∷ z)) 3 as₉ h₉ (λ k bs₀ i₀.
    peel (λ z. Tells (a ∷ b ∷ c ∷ d ∷ e ∷ f ∷ g ∷ u ∷ s ∷ k ∷ z)) 2 bs₀ i₀ (λ v bs₁ i₁.
    peel (λ z. Tells (a ∷ b ∷ c ∷ d ∷ e ∷ f ∷ g ∷ u ∷ s ∷ k ∷ v ∷ z)) 1 bs₁ i₁ (λ x bs₂ i₂.
    peel (λ z. Tells (a ∷ b ∷ c ∷ d ∷ e ∷ f ∷ g ∷ u ∷ s ∷ k ∷ v ∷ x ∷ z)) 0 bs₂ i₂ (λ y rest i₃ t.
    ap (λ z. a ∷ b ∷ c ∷ d ∷ e ∷ f ∷ z ∷ u ∷ s ∷ k ∷ v ∷ x ∷ y ∷ rest) (sym (flagged g t)))))))))))))))

tells-bank : (b a r : ℕ) → (eqb b 1 || eqb b 0 && eqb a 0) ≡ true → b ∷ a ∷ r ∷ [] ≡ bank_words (bank_of b a) r
tells-bank b a r h = go (eqb b 1) refl h
  where
    go : (t : Bool) → eqb b 1 ≡ t → (t || eqb b 0 && eqb a 0) ≡ true → b ∷ a ∷ r ∷ [] ≡ bank_words (bank_of b a) r
    go true e k =
        let z = eqb-true b 1 e in
        ap (λ x. x ∷ a ∷ r ∷ []) z ∙ sym (ap (λ x. bank_words (bank_of x a) r) z ∙ ap (λ (y : Option ℕ). bank_words y r) (pick-false None (Some a)))
    go false e k =
        let y = eqb-true b 0 (and_left (eqb b 0) (eqb a 0) k) in
        let z = eqb-true a 0 (and_right (eqb b 0) (eqb a 0) k) in
        ap₂ (λ p q. p ∷ q ∷ r ∷ []) y z ∙ sym (ap₂ (λ p q. bank_words (bank_of p q) r) y z ∙ ap (λ (x : Option ℕ). bank_words x r) (pick_true None (Some 0)))

abbrev Fuels : List ℕ → Type 0
Fuels ws = get_or ws 3 0 ≤ 1 → (eqb (get_or ws 1 0) 1 || eqb (get_or ws 1 0) 0 && eqb (get_or ws 2 0) 0) ≡ true → Fuelled ws ws

tells-fuel : (ws : List ℕ) → 4 ≤ length ws → Fuels ws
tells-fuel ws h₀ =
    peel Fuels 3 ws h₀ (λ f as₁ h₁.
    peel (λ z. Fuels (f ∷ z)) 2 as₁ h₁ (λ b as₂ h₂.
    peel (λ z. Fuels (f ∷ b ∷ z)) 1 as₂ h₂ (λ a as₃ h₃.
    peel (λ z. Fuels (f ∷ b ∷ a ∷ z)) 0 as₃ h₃ (λ r rest h₄ t k.
    ap (λ (z : List ℕ). splice (f ∷ b ∷ a ∷ r ∷ rest) 0 (f ∷ z)) (ap (λ x. b ∷ a ∷ x ∷ []) (sym (flagged r t)) ∙ tells-bank b a (flag (is_set r)) k)))))

-- ---- a machine that passes the test

module _ (h : Host) (e : passes_test h ≡ true) where
  abbrev ms : List ℕ
  ms = h.machine

  abbrev fs : List ℕ
  fs = h.fuel

  abbrev flags : Bool
  flags = eqb (get_or fs 1 0) 1 || eqb (get_or fs 1 0) 0 && eqb (get_or fs 2 0) 0

  abbrev lengths : Bool
  lengths = leb 25 (length ms) && leb 4 (length fs)

  pub long : (25 ≤ length ms) × (4 ≤ length fs)
  long = Tested.long-numbers ms fs (Tested.numbers h e)

  marks : (lengths && leb (get_or ms 6 0) 1 && leb (get_or fs 3 0) 1) ≡ true
  marks = and_left (lengths && leb (get_or ms 6 0) 1 && leb (get_or fs 3 0) 1) flags (Tested.numbers h e)

  telling : Numbers ms ms
  telling =
      let k = and_left (lengths && leb (get_or ms 6 0) 1) (leb (get_or fs 3 0) 1) marks in
      let z = long.0 in
      tells-numbers ms (omega arith) (leb-true (get_or ms 6 0) 1 (and_right lengths (leb (get_or ms 6 0) 1) k))

  fuelling : Fuelled fs fs
  fuelling =
      tells-fuel fs long.1 (leb-true (get_or fs 3 0) 1 (and_right (lengths && leb (get_or ms 6 0) 1) (leb (get_or fs 3 0) 1) marks))
      (and_right (lengths && leb (get_or ms 6 0) 1 && leb (get_or fs 3 0) 1) flags (Tested.numbers h e))

  abbrev beside : Beside
  beside = record { words = h.words; fuel = fuel_in fs }

  ok : Ok (sizes_in ms) (λ b. h.words) (with (machine_in ms) (fuel_in fs))
  ok = may-call h.words (machine_in ms) (fuel_in fs) (sizes_in ms) (record { sound = Tested.sound h e; sizes = Tested.sizes h e })

  pub holds : (pc : ℕ) → pc < 2 ^ 32
      → Holds h.words.stack h.words.frames h.words.chain h.words.slots h.words.saved_stack h.words.saved_frames ms fs pc
  holds pc narrow =
      record {
        words = long.0;
        tank = long.1;
        numbers = telling;
        fuelled = fuelling;
        narrow = narrow;
        ok = record { world = ok.world; beside = beside; rep = ok.rep; sound = ok.sound; room = ok.room };
      }

  -- its numbers are within the limits
  pub enters-fit : EntersFits h.words.stack h.words.frames h.words.slots ms
  enters-fit =
      let r = ok.rep in
      let known : Sound false ok.world = sound→ ok.world ok.sound (λ z. no_false z) in
      let d₁ = known.tower.depth in
      let d₂ = r.frames.count in
      let d₃ = r.sizes.depth in
      let h₁ = known.tower.height in
      let h₂ = r.stack.count in
      let h₃ = r.sizes.stack in
      record { words = long.0; on-stack = r.stack.within; on-frames = r.frames.within; in-slots = r.slots.within; deep = omega (arith, d₁, d₂, d₃); high = omega (arith, h₁, h₂, h₃) }

  pub leaves-fit : LeavesFits h.words.frames h.words.chain h.words.slots ms
  leaves-fit =
      let r = ok.rep in
      let stands = standing (sizes_in ms) h.words (machine_in ms) (fuel_in fs) ok.world r ok.sound in
      record { words = long.0; on-frames = r.frames.within; on_chain = r.chain.within; in-slots = r.slots.within; floor = λ z. (stands z).0; base = λ z. (stands z).1 }

  -- a switch that was done on its words is the call
  module _ (xs : List ℕ) (o : Op) (stack' frames' chain' slots' saved_stack' saved_frames' ms' fs' xs' : List ℕ) where
    abbrev left-words : Lent
    left-words = lent stack' frames' chain' slots' saved_stack' saved_frames' beside

    pub went-in : SameLengths h.words left-words
        → Went o (lent h.words.stack h.words.frames h.words.chain h.words.slots h.words.saved_stack h.words.saved_frames)
        (lent stack' frames' chain' slots' saved_stack' saved_frames') ms fs ms' fs'
        → xs' ≡ splice xs 0 (answer_words goes_on) → gave (host left-words ms' fs') xs' 0 ≡ kept_in h (Result.Ok o) xs
    went-in same w told =
        let m = machine_in ms in
        let f = fuel_in fs in
        let met : Gives if_sound (sizes_in ms) (did o) (λ b. h.words) (with m f) (λ b. left-words) (with (machine_in ms') (fuel_in fs')) goes_on = λ u b rep snd. w.met u beside rep snd in
        let d : left (state left-words (machine_in ms') (fuel_in fs')) goes_on ≡ step_words (state_of h) o =
        stepped h.words left-words m (machine_in ms') f (fuel_in fs') (sizes_in ms) o goes_on (record { sound = Tested.sound h e; sizes = Tested.sizes h e }) same met in
        let p = w.numbers in
        let q = w.fuel in
        (λ i. gave (host left-words (p i) (q i)) (told i) 0) ∙ ap (λ (x : Left). tells (overwritten h x.state) x.answer xs) d
