-- A batch's loop: what is left of it, done to the present, is the whole done to the start. Assumes nothing.
use mathlib.Core.Path.{◌≡◌, refl, sym, ap, ◌∙◌, subst}
use mathlib.Core.Bool.{Bool, true, false}
use mathlib.Core.List.{List}
use Prim.Native.Nat.{ℕ, ◌+◌, ◌*◌, ◌≤◌, ◌<◌}
use native.Mathlib.Omega.{arith}
use lib.ListN.{length}
use Rattle.lists.specs.Pick.{pick_true, pick-false}
use Rattle.lists.specs.Parts.{splice}
use Rattle.std.specs.Prelude.{Option, Some, None}
use Rattle.model.specs.declared.machine.Fuel.{Fuel}
use Rattle.memory_world.specs.Memory.{Lent}
use Rattle.memory_world.specs.declared.machine.Sizes.{Sizes}
use Rattle.memory_world.specs.Words.{sizes_of}
use Rattle.memory_world.specs.Decode.{setup_of}
use Rattle.memory_world.proofs.Does.{SameLengths}
use Rattle.memory_step.specs.Step.{MemoryState, is_sound}
use Rattle.outer_run.specs.Run.{do_words, count_of, read_in}
use Rattle.outer_run.proofs.Along.{Along, along-start, along-more, along-end}
use Rattle.linked_calls.specs.Words.{fuel_words}
use Rattle.linked_calls.specs.Host.{Host, host, state_of, passes_test, one_or, gave, overwritten, run_host}
use Rattle.linked_calls.proofs.Hosts as Tested
use Rattle.linked_calls.proofs.Others.{run-done}
use Rattle.claims_linked.proofs.Words.{machine-back, fuel-back}
use Rattle.linked_switch.proofs.Hosts.{holds}
use Rattle.linked_batch.specs.Batch.{One, BatchFits, Done}

-- ---- numbers and fuel written over their words, and written again

over-back : (h : Host) (s : MemoryState) → state_of (overwritten h s) ≡ s
over-back h s = λ i. record { words = s.words; machine = machine-back h.machine s.machine i; fuel = fuel-back h.fuel s.fuel i }

fuel-twice : (fs : List ℕ) (m n : ℕ) (a b : Option ℕ) (p q : Bool) → let f : Fuel = record { fuel = m; bank = a; ready = p } in let g : Fuel = record { fuel = n; bank = b; ready = q } in
    splice (splice fs 0 (fuel_words f)) 0 (fuel_words g) ≡ splice fs 0 (fuel_words g)
fuel-twice fs m n None None p q = refl
fuel-twice fs m n None (Some y) p q = refl
fuel-twice fs m n (Some x) None p q = refl
fuel-twice fs m n (Some x) (Some y) p q = refl

over-over : (h : Host) (s t : MemoryState) → overwritten (overwritten h s) t ≡ overwritten h t
over-over h s t =
    let f = s.fuel in
    let g = t.fuel in
    let e = fuel-twice h.fuel f.fuel g.fuel f.bank g.bank f.ready g.ready in
    λ i. host t.words (overwritten h t).machine (e i)

-- ---- the test as a number

pub no-pass : (b : Bool) (r : ℕ) → r ≡ one_or b → r ≡ 0 → b ≡ false
no-pass false r e z = refl
no-pass true r e z = let k : r ≡ 1 = e ∙ pick_true 1 0 in absurd (omega (arith, k, z))

pub passed : (b : Bool) (r : ℕ) → r ≡ one_or b → (r ≡ 0 → ⊥) → b ≡ true
passed true r e z = refl
passed false r e z = absurd (z (e ∙ pick-false 1 0))

-- ---- the loop

module _ (h₀ : Host) (cs xs₀ : List ℕ) (n : ℕ) where
  abbrev sizes : Sizes
  sizes = sizes_of (setup_of h₀.words.setup)

  pub record Going (h : Host) (xs : List ℕ) (i : ℕ) : Type 0 where
    pub along : Along sizes cs xs₀ n (state_of h₀) (state_of h) xs i
    pub written : h ≡ overwritten h₀ (state_of h)
    pub sound : passes_test h ≡ true
    pub machine : length h.machine ≡ length h₀.machine
    pub fuel : length h.fuel ≡ length h₀.fuel

  pub going_start : BatchFits h₀ cs xs₀ n → Going h₀ xs₀ 0
  going_start b =
      let k = holds h₀ b.sound 0 (omega arith) in
      let p = k.numbers in
      let q = k.fuelled in
      record {
        along =
            along-start sizes cs xs₀ n (state_of h₀)
            (record { fits = record { sound = Tested.sound h₀ b.sound; sizes = refl }; calls = b.calls; room = b.room });
        written = λ j. host h₀.words (p j) (q j);
        sound = b.sound;
        machine = refl;
        fuel = refl;
      }

  module _ (h : Host) (xs : List ℕ) (i : ℕ) (g : Going h xs i) where
    pub going_more : i < n → n * 8 ≤ length xs₀ → (h' : Host) (xs' : List ℕ) → One h (read_in cs i) xs i h' xs' → SameLengths h.words h'.words → h'.words.setup ≡ h.words.setup
        → length h'.machine ≡ length h.machine → length h'.fuel ≡ length h.fuel → length xs' ≡ length xs → Going h' xs' (i + 1)
    going_more t room h' xs' o same us wide tank long =
        let d = do_words (state_of h) (read_in cs i) in
        let at : state_of h' ≡ d.state = ap state_of o.host ∙ over-back h d.state in
        let ws : h'.words ≡ d.state.words = ap (λ (k : Host). k.words) o.host in
        record {
          along =
              subst (λ s. Along sizes cs xs₀ n (state_of h₀) s xs' (i + 1)) (sym at)
              (along-more sizes cs xs₀ n (state_of h₀) (state_of h) xs i g.along t room d xs'
              (record { is = refl; again = ap is_sound (sym at) ∙ Tested.sound h' o.sound }) o.answers
              (subst (λ M. SameLengths h.words M) ws same) (ap (λ (M : Lent). M.setup) (sym ws) ∙ us) long);
          written = o.host ∙ ap (λ (k : Host). overwritten k d.state) g.written ∙ over-over h₀ (state_of h) d.state ∙ ap (overwritten h₀) (sym at);
          sound = o.sound;
          machine = wide ∙ g.machine;
          fuel = tank ∙ g.fuel;
        }

    pub going_end : n ≤ i → Done h₀ cs xs₀ n h xs
    going_end w = record { listed = along-end sizes cs xs₀ n (state_of h₀) (state_of h) xs i w g.along; written = g.written }

  -- ---- all of it is what a run leaves

  pub batch-done : passes_test h₀ ≡ true → n ≡ count_of (length cs) → n * 8 ≤ length xs₀ → (h' : Host) (xs' : List ℕ) → Done h₀ cs xs₀ n h' xs' → gave h' xs' 0 ≡ run_host h₀ cs xs₀
  batch-done e k room h' xs' d =
      run-done h₀ cs xs₀ n k room true (sym e) refl (state_of h₀) (state_of h') refl h'.machine h'.fuel xs' d.listed
      (ap (λ (z : Host). z.machine) d.written) (ap (λ (z : Host). z.fuel) d.written)
