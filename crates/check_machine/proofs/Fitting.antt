-- An accepted set-up with room: its sizes are small, and the tables lie in their slices. Assumes nothing.
use mathlib.Core.Path.{◌≡◌}
use mathlib.Core.Bool.{Bool, true, ◌&&◌}
use mathlib.Core.List.{List, [], ◌∷◌}
use Prim.Native.Nat.{ℕ, ◌≤◌}
use native.Mathlib.Omega.{arith}
use native.Mathlib.Nat.{max-le}
use lib.Dec.{leb}
use lib.ListN.{length}
use borrow.Author.Tests.{leb-true}
use Rattle.lists.specs.Parts.{pad}
use Rattle.model.specs.Lists.{each}
use Rattle.model.specs.Program.{Func, Setup, function_ok, handler_ok, setup_ok}
use Rattle.model.specs.Sound.{widest}
use Rattle.model.specs.declared.machine.Fuel.{Fuel}
use Rattle.claims_sound.proofs.Tests.{and_left, and_right}
use Rattle.claims_sound.proofs.Sound.{facts}
use Rattle.memory_tables.specs.Sizes.{setup_words, setup_size}
use Rattle.memory_world.specs.Memory.{Lent, Room}
use Rattle.memory_world.specs.declared.machine.Machine.{Machine}
use Rattle.memory_world.specs.Sizes.{SetupFits}
use Rattle.memory_world.specs.Words.{sizes_of}
use Rattle.memory_world.specs.Decode.{setup_of}
use Rattle.memory_world.proofs.Widest.{held_fits}
use Rattle.memory_sound.specs.Words.{same, setup_held, room_ok, counts_ok}
use Rattle.memory_sound.proofs.Held.{same_true}
use Rattle.memory_sound.proofs.Passed.{Counts, room_of, counts_of}
use Rattle.check_tables.specs.Frames.{Catches}
use Rattle.check_tables.specs.Room.{counts_test, SizesFit}
use Rattle.check_tables.proofs.OneFrame.{functions-long}
use Rattle.check_machine.specs.Numbers.{outcome_test, fuel_test}
use Rattle.check_machine.specs.Whole.{numbers_test, TowerFits, ObjectsFit, QueuesFit}

-- ---- the set-up

widest-few : (fs : List Func) → each function_ok fs ≡ true → widest fs ≤ 256
widest-few [] e = omega arith
widest-few (f ∷ fs) e =
    let a = leb f.regs 256 in
    let b = leb f.params f.regs in
    let c = leb (length f.handlers) 8 in
    let d = each (handler_ok f.regs) f.handlers in
    let p = and_left (function_ok f) (each function_ok fs) e in
    max-le (leb-true f.regs 256 (and_left a b (and_left (a && b) c (and_left (a && b && c) d p)))) (widest-few fs (and_right (function_ok f) (each function_ok fs) e))

module _ (ws : List ℕ) (held : setup_held ws ≡ true) where
  abbrev s : Setup
  s = setup_of ws

  accepted : setup_ok s ≡ true
  accepted = and_left (setup_ok s) (same ws (pad (length ws) (setup_words s))) held

  pub setup-fits : SetupFits ws
  setup-fits = held_fits s ws (same_true ws (pad (length ws) (setup_words s)) (and_right (setup_ok s) (same ws (pad (length ws) (setup_words s))) held))

  pub sizes-fit : SizesFit (sizes_of s)
  sizes-fit =
      let f = facts s accepted in
      let w = widest-few s.functions f.functions in
      let h = f.stack in
      record { depth = f.depth; slots = f.slots; rows = f.rows; width = max-le (omega arith) (omega arith) }

  pub setup-room : setup_size s ≤ length ws
  setup-room = let h = setup-fits.functions in let e = functions-long ws in omega arith

-- ---- the tables

abbrev pub counted : Lent → Machine → Fuel → Bool
counted M m f =
    numbers_test (sizes_of (setup_of M.setup)) (length M.stack) (length M.frames) (length M.chain) (length M.slots) (length M.saved_stack) (length M.saved_frames) (length M.ready) (length M.finalize) m f

pub record Numbers (M : Lent) (m : Machine) (f : Fuel) : Type 0 where
  pub room-ok : room_ok (setup_of M.setup) M ≡ true
  pub counts-ok : counts_ok (setup_of M.setup) m ≡ true
  pub used : m.used ≤ (setup_of M.setup).limits.memory
  pub outcome : outcome_test m.outcome ≡ true
  pub fuel : fuel_test f ≡ true
  pub room : Room (setup_of M.setup) M
  pub counts : Counts (setup_of M.setup) m

module _ (M : Lent) (m : Machine) (f : Fuel) (held : setup_held M.setup ≡ true) (e : counted M m f ≡ true) where
  pub numbers_of : Numbers M m f
  numbers_of =
      let s = setup_of M.setup in
      let a = room_ok s M in
      let b = counts_test (sizes_of s) m in
      let c = outcome_test m.outcome in
      let d = fuel_test f in
      let e₂ = and_left (a && b && c) d e in
      let e₁ = and_left (a && b) c e₂ in
      let r = and_left a b e₁ in
      let k = and_right a b e₁ in
      let u = leb m.used s.limits.memory in
      let n = and_left (counts_ok s m) u k in
      record {
        room-ok = r;
        counts-ok = n;
        used = leb-true m.used s.limits.memory (and_right (counts_ok s m) u k);
        outcome = and_right (a && b) c e₂;
        fuel = and_right (a && b && c) d e;
        room = room_of s M r (setup-room M.setup held);
        counts = counts_of s m n;
      }

  module _ (need : List ℕ) (catches : Catches (setup_of M.setup) need) where
    pub tower-fits : TowerFits M.frames M.chain need M.setup m
    tower-fits =
        let n = numbers_of in
        let r = n.room in
        let c = n.counts in
        record { on-frames = omega (arith, r.frames, c.depth); on_chain = omega (arith, r.chain, c.active); catches = catches; numbers = (setup-fits M.setup held).numbers }

    pub objects-fit : ObjectsFit M.chain M.slots M.saved_stack M.saved_frames need M.setup (sizes_of (setup_of M.setup)) m
    objects-fit =
        let n = numbers_of in
        let r = n.room in
        let c = n.counts in
        let z = sizes-fit M.setup held in
        record {
          on_chain = omega (arith, r.chain, c.active);
          table = omega (arith, r.slots, c.count);
          few = omega (arith, z.slots, c.count);
          on-stack = r.saved_stack;
          on-frames = r.saved_frames;
          rows = z.rows;
          deep = z.depth;
          wide = z.width;
          catches = catches;
          numbers = (setup-fits M.setup held).numbers;
        }

  pub queues-fit : QueuesFit M.ready M.finalize M.slots m
  queues-fit =
      let n = numbers_of in
      let r = n.room in
      let c = n.counts in
      let z = sizes-fit M.setup held in
      record {
        on-ready = omega (arith, r.ready, c.ready);
        on-finalize = omega (arith, r.finalize, c.finalize);
        table = omega (arith, r.slots, c.count);
        few = omega (arith, z.slots, c.count);
      }
