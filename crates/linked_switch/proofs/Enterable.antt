-- What the tests of a Resume tell. Assumes nothing.
use mathlib.Core.Path.{◌≡◌, refl, sym, ap, ◌∙◌, subst}
use mathlib.Core.Bool.{true, false, not}
use mathlib.Core.List.{List}
use Prim.Native.Nat.{ℕ, ◌+◌, ◌≤◌, ◌<◌}
use native.Mathlib.Omega.{arith}
use lib.ListN.{get_or}
use borrow.Author.Tests.{eq-eqb, ne_eqb, lt-ltb, le-ltb, le-leb, lt-leb}
use Rattle.lists.proofs.Tests.{never}
use Rattle.heap.specs.declared.fault.Fault.{Fault}
use Rattle.std.specs.Prelude.{Some, None, Ok, Err}
use Rattle.model.specs.State.{is_resumable}
use Rattle.claims_sound.proofs.Tests.{both}
use Rattle.linked_calls.specs.Words.{machine_in, sizes_in}
use Rattle.linked_switch.specs.Words.{record_at}
use Rattle.linked_switch.specs.Enters.{top_in, entry_tests, enters_in, to_enter, enter_tests, may_enter, Enterable, Entering}
use Rattle.linked_switch.proofs.Tests.{fails}

module _ {stack frames slots ms : List ℕ} {fuel dst c src : ℕ} where
  -- ---- a test that is not passed

  refused : (n : ℕ) → get_or (enter_tests stack frames slots ms fuel dst c src) n true ≡ false → Entering stack frames slots ms fuel dst c src None
  unfolding may_enter
  refused n e = record { at = λ i v q. never cc; told = sym (fails (enter_tests stack frames slots ms fuel dst c src) n e) }

  pub no-frame : (machine_in ms).depth ≡ 0 → Entering stack frames slots ms fuel dst c src None
  no-frame e = refused 0 (lt-leb 1 (machine_in ms).depth (omega arith))

  pub no_fuel : fuel ≡ 0 → Entering stack frames slots ms fuel dst c src None
  no_fuel e = refused 1 (lt-leb 1 fuel (omega arith))

  pub no-dst : (machine_in ms).height ≤ top_in frames ms + dst → Entering stack frames slots ms fuel dst c src None
  no-dst h = refused 2 (le-ltb (top_in frames ms + dst) (machine_in ms).height h)

  pub no-coro : (machine_in ms).height ≤ top_in frames ms + c → Entering stack frames slots ms fuel dst c src None
  no-coro h = refused 3 (le-ltb (top_in frames ms + c) (machine_in ms).height h)

  pub no_src : (machine_in ms).height ≤ top_in frames ms + src → Entering stack frames slots ms fuel dst c src None
  no_src h = refused 4 (le-ltb (top_in frames ms + src) (machine_in ms).height h)

  pub no_place : {f : Fault} → Err f ≡ to_enter stack frames slots ms c → Entering stack frames slots ms fuel dst c src None
  no_place e = refused 5 (ap (enters_in slots ms) (sym e))

  module _ {i : ℕ} (found : Ok i ≡ to_enter stack frames slots ms c) where
    kept_out : (n : ℕ) → get_or (entry_tests (record_at slots i) ms) n true ≡ false → Entering stack frames slots ms fuel dst c src None
    kept_out n e = refused 5 (ap (enters_in slots ms) (sym found) ∙ fails (entry_tests (record_at slots i) ms) n e)

    pub no-state : is_resumable (record_at slots i).state ≡ false → Entering stack frames slots ms fuel dst c src None
    no-state e = kept_out 0 e

    pub no_frames : (record_at slots i).frames ≡ 0 → Entering stack frames slots ms fuel dst c src None
    no_frames e = kept_out 1 (ap not (eq-eqb (record_at slots i).frames 0 e))

    pub no-depth : (sizes_in ms).depth < (machine_in ms).depth + (record_at slots i).frames → Entering stack frames slots ms fuel dst c src None
    no-depth h = kept_out 2 (lt-leb ((machine_in ms).depth + (record_at slots i).frames) (sizes_in ms).depth h)

    pub no_stack : (sizes_in ms).stack < (machine_in ms).height + (record_at slots i).regs → Entering stack frames slots ms fuel dst c src None
    no_stack h = kept_out 3 (lt-leb ((machine_in ms).height + (record_at slots i).regs) (sizes_in ms).stack h)

    -- ---- all are passed

    module _ (state : is_resumable (record_at slots i).state ≡ true) (some : (record_at slots i).frames ≡ 0 → ⊥) (deep : (machine_in ms).depth + (record_at slots i).frames ≤ (sizes_in ms).depth) (high : (machine_in ms).height + (record_at slots i).regs ≤ (sizes_in ms).stack) where
      all-passed : {v : ℕ} → Enterable stack frames slots ms fuel dst c src i v → may_enter stack frames slots ms fuel dst c src ≡ true
      unfolding may_enter
      all-passed h =
          let base = top_in frames ms in
          let entry = both state (both (ap not (ne_eqb (record_at slots i).frames 0 some)) (both (le-leb ((machine_in ms).depth + (record_at slots i).frames) (sizes_in ms).depth deep)
          (both (le-leb ((machine_in ms).height + (record_at slots i).regs) (sizes_in ms).stack high) refl))) in
          both (le-leb 1 (machine_in ms).depth h.some) (both (le-leb 1 fuel h.paid) (both (lt-ltb (base + dst) (machine_in ms).height h.dst-in) (both (lt-ltb (base + c) (machine_in ms).height h.coro-in)
          (both (lt-ltb (base + src) (machine_in ms).height h.src-in) (both (ap (enters_in slots ms) (sym found) ∙ entry) refl)))))

      pub at_slot : {v : ℕ} → Enterable stack frames slots ms fuel dst c src i v → Entering stack frames slots ms fuel dst c src (Some (i, v))
      at_slot {v} h =
          record {
            at = λ j u e.
                let p : ◌≡◌ {A = ℕ × ℕ} (i, v) (j, u) = cc in
                subst (λ (z : ℕ × ℕ). Enterable stack frames slots ms fuel dst c src z.0 z.1) p h;
            told = sym (all-passed h);
          }
