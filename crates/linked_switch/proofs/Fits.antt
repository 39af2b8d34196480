-- What an entry, and a suspension, that nothing refuses may take of the machine. Assumes nothing.
use mathlib.Core.Path.{◌≡◌, refl, sym, subst}
use mathlib.Core.List.{List}
use Prim.Native.Nat.{ℕ, ◌+◌, ◌*◌, ◌^◌, ◌≤◌, ◌<◌}
use lib.ListN.{length}
use Rattle.heap.specs.Heap.{SlotFits, slots_of, coro_of}
use Rattle.heap.specs.declared.fault.Fault.{Fault}
use Rattle.std.specs.Prelude.{Ok}
use Rattle.heap.proofs.Place.{stands}
use Rattle.memory_world.specs.Memory.{Lent}
use Rattle.memory_world.specs.Lendings.{lent}
use Rattle.coro_enter.specs.Enter.{MoveFits}
use Rattle.coro_enter.proofs.Entry.{Sums, sums, move-fits}
use Rattle.coro_suspend.specs.Suspend.{LeaveFit}
use Rattle.linked_calls.specs.Words.{machine_in, sizes_in}
use Rattle.linked_switch.specs.Words.{record_at}
use Rattle.linked_switch.specs.Enter.{EnterAtFits, EnterFits}
use Rattle.linked_switch.specs.Leave.{LeaveAtFits}
use Rattle.linked_switch.proofs.Leaving.{slot, before, fits-as}

pub at-fits : {stack frames chain slots saved_stack saved_frames ms : List ℕ} {pc src v i : ℕ} → EnterFits stack frames chain slots saved_stack saved_frames ms pc src v i
    → EnterAtFits stack frames chain slots saved_stack saved_frames ms v i
at-fits h = record { words = h.words; ok = h.entry.ok; may = h.may }

module _ {stack frames chain slots saved_stack saved_frames ms : List ℕ} {v i : ℕ} (h : EnterAtFits stack frames chain slots saved_stack saved_frames ms v i) where
  abbrev mem : Lent
  mem = lent stack frames chain slots saved_stack saved_frames h.ok.beside

  pub found : Ok (i, record_at slots i) ≡ coro_of (slots_of (machine_in ms).count slots) v
  found = (stands (machine_in ms).count slots v i h.may.found).coro

  pub sum : Sums (sizes_in ms) mem (machine_in ms) h.ok.beside.fuel v h.ok.world h.ok.rep i (record_at slots i) found h.ok.sound tt h.may.fits
  sum =
      let ok = h.ok in
      sums (sizes_in ms) mem (machine_in ms) ok.beside.fuel v ok.world ok.rep i (record_at slots i) found ok.sound tt h.may.fits ok.room

  pub fit : length stack < 2 ^ 64 → MoveFits stack frames saved_stack saved_frames (machine_in ms).height (machine_in ms).depth (sizes_in ms) (record_at slots i)
  fit =
      let ok = h.ok in
      move-fits (sizes_in ms) mem (machine_in ms) ok.beside.fuel v ok.world ok.rep i (record_at slots i) found ok.sound tt h.may.fits ok.room

module _ {stack frames chain slots saved_stack saved_frames ms : List ℕ} {i floor base : ℕ} (h : LeaveAtFits stack frames chain slots saved_stack saved_frames ms i floor base) where
  abbrev words : Lent
  words = lent stack frames chain slots saved_stack saved_frames h.ok.beside

  pub slot_at : SlotFits slots i
  slot_at = let ok = h.ok in slot (sizes_in ms) words (machine_in ms) ok.beside.fuel ok.world ok.rep ok.sound i h.may 0 0 0 0

  -- the body begins on the stack
  pub under : base ≤ (machine_in ms).height
  under =
      let ok = h.ok in
      subst (λ b. b ≤ (machine_in ms).height) (sym h.at_base)
      (before (sizes_in ms) words (machine_in ms) ok.beside.fuel ok.world ok.rep ok.sound i h.may 0 0 0 0).under

  pub leave_fits : (row : ℕ) → row ≡ (record_at slots i).row → LeaveFit stack frames saved_stack saved_frames (machine_in ms) (sizes_in ms) row floor base
  leave_fits row e =
      let ok = h.ok in
      fits-as (sizes_in ms) words (machine_in ms) ok.beside.fuel ok.world ok.rep ok.sound i h.may 0 0 0 0 row floor base e h.at-floor h.at_base ok.room
