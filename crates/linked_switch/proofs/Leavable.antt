-- What the tests of a Yield tell. Assumes nothing.
use mathlib.Core.Path.{◌≡◌, refl, sym, ap, ◌∙◌, subst}
use mathlib.Core.Bool.{true, false, not}
use mathlib.Core.List.{List, [], ◌∷◌}
use Prim.Native.Nat.{ℕ, ◌+◌, ◌-◌, ◌≤◌, ◌<◌}
use native.Mathlib.Omega.{arith}
use lib.ListN.{get_or}
use types.Run.{OneOf, miss}
use denote.Enum.Declared.{tag_of}
use borrow.Author.Tests.{lt-ltb, le-ltb, le-leb, lt-leb}
use Rattle.lists.proofs.Tests.{never}
use Rattle.heap.specs.Coding.{of_bits}
use Rattle.heap.specs.Int.{inline_of, next_key}
use Rattle.heap.specs.declared.fault.Fault.{Fault}
use Rattle.std.specs.Prelude.{Option, Some, None, Ok, Err}
use Rattle.model.specs.declared.machine.Active.{Active}
use Rattle.model.specs.declared.machine.Driver.{Driver}
use Rattle.model.specs.contracts.machine.Driver as Driver'
use Rattle.memory_tables.specs.Layout.{base_in}
use Rattle.claims_sound.proofs.Tests.{both}
use Rattle.linked_calls.specs.Words.{machine_in}
use Rattle.linked_switch.specs.Words.{record_at}
use Rattle.linked_switch.specs.Enters.{top_in}
use Rattle.linked_switch.specs.Leave.{innermost_in}
use Rattle.linked_switch.specs.Leaves.{has_word, key_fits, by_resume, exit_tests, leaves_in, to_leave, leave_tests, may_leave, Leavable, Leaving}
use Rattle.linked_switch.specs.declared.leaves.Sleeper.{Sleeper}
use Rattle.linked_switch.proofs.Tests.{fails}

-- another driver
pub not-resume : (d : Driver) → OneOf (1 ∷ 2 ∷ 3 ∷ []) (tag_of Driver'.the_type d) → by_resume d ≡ false
not-resume (Driver.Resume r) h = absurd (miss (1 ∷ 2 ∷ 3 ∷ []) 0 tt h)
not-resume (Driver.Iter has val iter) h = refl
not-resume Driver.Host h = refl
not-resume Driver.Finalize h = refl

-- the innermost coroutine, and where its body begins
abbrev inner : List ℕ → List ℕ → Active
inner chain ms = innermost_in chain (machine_in ms)

abbrev base : List ℕ → List ℕ → List ℕ → ℕ
base frames chain ms = base_in frames (inner chain ms).floor

module _ {frames chain slots ms : List ℕ} {fuel dst src : ℕ} where
  -- ---- a test that is not passed

  refused : (n : ℕ) → get_or (leave_tests frames chain slots ms fuel dst src) n true ≡ false → Leaving frames chain slots ms fuel dst src None
  unfolding may_leave
  refused n e = record { at = λ s q. never cc; told = sym (fails (leave_tests frames chain slots ms fuel dst src) n e) }

  -- the None of a `?`
  pub as-none : {r : Option Sleeper} → r ≡ None → Leaving frames chain slots ms fuel dst src None → Leaving frames chain slots ms fuel dst src r
  as-none e h = subst (λ r. Leaving frames chain slots ms fuel dst src r) (sym e) h

  pub no-frame : (machine_in ms).depth ≡ 0 → Leaving frames chain slots ms fuel dst src None
  no-frame e = refused 0 (lt-leb 1 (machine_in ms).depth (omega arith))

  pub no_fuel : fuel ≡ 0 → Leaving frames chain slots ms fuel dst src None
  no_fuel e = refused 1 (lt-leb 1 fuel (omega arith))

  pub none_runs : (machine_in ms).active ≡ 0 → Leaving frames chain slots ms fuel dst src None
  none_runs e = refused 2 (lt-leb 1 (machine_in ms).active (omega arith))

  pub no-dst : (machine_in ms).height ≤ top_in frames ms + dst → Leaving frames chain slots ms fuel dst src None
  no-dst h = refused 3 (le-ltb (top_in frames ms + dst) (machine_in ms).height h)

  pub no_src : (machine_in ms).height ≤ top_in frames ms + src → Leaving frames chain slots ms fuel dst src None
  no_src h = refused 4 (le-ltb (top_in frames ms + src) (machine_in ms).height h)

  pub no-resume : by_resume (inner chain ms).driver ≡ false → Leaving frames chain slots ms fuel dst src None
  no-resume e = refused 5 e

  pub no_place : {f : Fault} → Err f ≡ to_leave chain slots ms → Leaving frames chain slots ms fuel dst src None
  no_place e = refused 6 (ap (leaves_in frames chain slots ms) (sym e))

  module _ {i : ℕ} (found : Ok i ≡ to_leave chain slots ms) where
    kept_in : (n : ℕ) → get_or (exit_tests frames chain (record_at slots i) ms) n true ≡ false → Leaving frames chain slots ms fuel dst src None
    kept_in n e = refused 6 (ap (leaves_in frames chain slots ms) (sym found) ∙ fails (exit_tests frames chain (record_at slots i) ms) n e)

    pub closing : (record_at slots i).closing ≡ true → Leaving frames chain slots ms fuel dst src None
    closing e = kept_in 0 (ap not e)

    pub too_wide : (record_at slots i).maxregs < (machine_in ms).height - base frames chain ms → Leaving frames chain slots ms fuel dst src None
    too_wide h = kept_in 1 (lt-leb ((machine_in ms).height - base frames chain ms) (record_at slots i).maxregs h)

    pub too-deep : (record_at slots i).maxframes < (machine_in ms).depth - (inner chain ms).floor → Leaving frames chain slots ms fuel dst src None
    too-deep h = kept_in 2 (lt-leb ((machine_in ms).depth - (inner chain ms).floor) (record_at slots i).maxframes h)

    pub no_key : None ≡ next_key (record_at slots i).largest → Leaving frames chain slots ms fuel dst src None
    no_key e = kept_in 3 (ap key_fits (sym e))

    pub no_word : {n : ℕ} → Some n ≡ next_key (record_at slots i).largest → None ≡ inline_of (of_bits 63 n) → Leaving frames chain slots ms fuel dst src None
    no_word e f = kept_in 3 (ap key_fits (sym e) ∙ ap has_word (sym f))

    -- ---- all are passed

    all-passed : {to key largest : ℕ} → Leavable frames chain slots ms fuel dst src i to key largest → may_leave frames chain slots ms fuel dst src ≡ true
    unfolding may_leave
    all-passed h =
        let low = top_in frames ms in
        let m = h.may in
        let keyed = ap key_fits (sym h.keyed.next) ∙ ap has_word (sym h.keyed.inline) in
        let exit = both (ap not m.unclosed) (both (le-leb ((machine_in ms).height - base frames chain ms) (record_at slots i).maxregs m.wide)
        (both (le-leb ((machine_in ms).depth - (inner chain ms).floor) (record_at slots i).maxframes m.deep) (both keyed refl))) in
        both (le-leb 1 (machine_in ms).depth h.some) (both (le-leb 1 fuel h.paid) (both (le-leb 1 (machine_in ms).active m.running)
        (both (lt-ltb (low + dst) (machine_in ms).height h.dst-in) (both (lt-ltb (low + src) (machine_in ms).height h.src-in)
        (both (ap by_resume h.driven) (both (ap (leaves_in frames chain slots ms) (sym found) ∙ exit) refl))))))

    pub at_slot : {to key largest : ℕ} → Leavable frames chain slots ms fuel dst src i to key largest → Leaving frames chain slots ms fuel dst src (Some (record { slot = i; to = to; key = key; largest = largest }))
    at_slot {to} {key} {largest} h =
        record {
          at = λ s e.
              let p : ◌≡◌ {A = Sleeper} (record { slot = i; to = to; key = key; largest = largest }) s = cc in
              subst (λ (z : Sleeper). Leavable frames chain slots ms fuel dst src z.slot z.to z.key z.largest) p h;
          told = sym (all-passed h);
        }
