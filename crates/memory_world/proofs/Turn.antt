-- One field changed: the words and numbers stand for the world with that field changed, and the others stay. Assumes nothing.
use mathlib.Core.Path.{◌≡◌, refl}
use mathlib.Core.Bool.{Bool}
use mathlib.Core.List.{List}
use Prim.Native.Nat.{ℕ}
use lib.ListN.{length}
use Rattle.lists.specs.Parts.{pad}
use Rattle.heap.specs.Table.{Slot}
use Rattle.model.specs.Object.{Object}
use Rattle.model.specs.World.{World, with_stack, with_frames, with_chain, with_slots, with_ready, with_finalize, with_finalizing, with_outcome, with_used, with_seq, with_fuel}
use Rattle.model.specs.Sound.{row_words}
use Rattle.model.specs.declared.machine.Active.{Active}
use Rattle.model.specs.declared.machine.Frame.{Frame}
use Rattle.model.specs.declared.machine.Fuel.{Fuel}
use Rattle.std.specs.Prelude.{Option}
use Rattle.model.specs.declared.machine.Stop.{Stop}
use Rattle.memory_tables.specs.Parts.{Stack, Frames, Chain, Queue, SavedStack, SavedFrames}
use Rattle.memory_tables.specs.Sizes.{setup_words, frames_size}
use Rattle.memory_world.specs.Slots.{to_slots}
use Rattle.memory_world.specs.Told.{told}
use Rattle.memory_world.specs.Memory.{Lent, Sized, Slots, regs_rows, frames_rows, Rep, on_stack, on_frames, on_chain, on_slots, on_saved, on_ready, on_finalize}
use Rattle.memory_world.specs.Numbers.{with_height, with_depth, with_active, with_count, with_waiting, with_cleanups, with_running, with_told, with_charged, with_number}
use Rattle.memory_world.specs.declared.machine.Machine.{Machine}
use Rattle.memory_world.specs.declared.machine.Sizes.{Sizes}

-- `Rep`, field by field
rep-of : {l : Sizes} {w : World} {M : Lent} {m : Machine} {f : Fuel} → Sized w.setup l → M.setup ≡ pad (length M.setup) (setup_words w.setup)
    → Stack w.stack M.stack m.height → Frames w.frames M.frames m.depth → Chain w.chain M.chain m.active
    → Slots (to_slots w.slots) M.slots m.count → SavedStack (row_words w.setup) (regs_rows w.setup.limits.rows w.slots) M.saved_stack
    → SavedFrames (frames_size w.setup) (frames_rows w.setup.limits.rows w.slots) M.saved_frames → Queue w.ready M.ready m.ready
    → Queue w.finalize M.finalize m.finalize → m.finalizing ≡ w.finalizing → m.outcome ≡ told w.outcome → m.used ≡ w.used → m.seq ≡ w.seq
    → f ≡ w.fuel → Rep l w M m f
rep-of a b c d e g h i j k n o p q r = record {
  sizes = a;
  setup = b;
  stack = c;
  frames = d;
  chain = e;
  slots = g;
  saved_stack = h;
  saved_frames = i;
  ready = j;
  finalize = k;
  finalizing = n;
  outcome = o;
  used = p;
  seq = q;
  fuel = r;
}

module _ (l : Sizes) (w : World) (M : Lent) (m : Machine) (f : Fuel) (rep : Rep l w M m f) where
  pub turn-stack : (xs ws : List ℕ) (n : ℕ) → Stack xs ws n → Rep l (with_stack xs w) (on_stack ws M) (with_height n m) f
  turn-stack xs ws n s =
      rep-of rep.sizes rep.setup s rep.frames rep.chain rep.slots rep.saved_stack rep.saved_frames rep.ready rep.finalize rep.finalizing rep.outcome rep.used rep.seq rep.fuel

  pub turn-frames : (fs : List Frame) (ws : List ℕ) (n : ℕ) → Frames fs ws n → Rep l (with_frames fs w) (on_frames ws M) (with_depth n m) f
  turn-frames fs ws n s =
      rep-of rep.sizes rep.setup rep.stack s rep.chain rep.slots rep.saved_stack rep.saved_frames rep.ready rep.finalize rep.finalizing rep.outcome rep.used rep.seq rep.fuel

  pub turn-chain : (cs : List Active) (ws : List ℕ) (n : ℕ) → Chain cs ws n → Rep l (with_chain cs w) (on_chain ws M) (with_active n m) f
  turn-chain cs ws n s =
      rep-of rep.sizes rep.setup rep.stack rep.frames s rep.slots rep.saved_stack rep.saved_frames rep.ready rep.finalize rep.finalizing rep.outcome rep.used rep.seq rep.fuel

  -- the slots, and with them what the rows hold
  pub turn-slots : (xs : List (Slot Object)) (ws rs qs : List ℕ) (n : ℕ) → Slots (to_slots xs) ws n → SavedStack (row_words w.setup) (regs_rows w.setup.limits.rows xs) rs
      → SavedFrames (frames_size w.setup) (frames_rows w.setup.limits.rows xs) qs → Rep l (with_slots xs w) (on_slots ws (on_saved rs qs M)) (with_count n m) f
  turn-slots xs ws rs qs n s r q =
      rep-of rep.sizes rep.setup rep.stack rep.frames rep.chain s r q rep.ready rep.finalize rep.finalizing rep.outcome rep.used rep.seq rep.fuel

  pub turn-ready : (q ws : List ℕ) (n : ℕ) → Queue q ws n → Rep l (with_ready q w) (on_ready ws M) (with_waiting n m) f
  turn-ready q ws n s =
      rep-of rep.sizes rep.setup rep.stack rep.frames rep.chain rep.slots rep.saved_stack rep.saved_frames s rep.finalize rep.finalizing rep.outcome rep.used rep.seq rep.fuel

  pub turn-finalize : (q ws : List ℕ) (n : ℕ) → Queue q ws n → Rep l (with_finalize q w) (on_finalize ws M) (with_cleanups n m) f
  turn-finalize q ws n s =
      rep-of rep.sizes rep.setup rep.stack rep.frames rep.chain rep.slots rep.saved_stack rep.saved_frames rep.ready s rep.finalizing rep.outcome rep.used rep.seq rep.fuel

  pub turn-finalizing : (b : Bool) → Rep l (with_finalizing b w) M (with_running b m) f
  turn-finalizing b =
      rep-of rep.sizes rep.setup rep.stack rep.frames rep.chain rep.slots rep.saved_stack rep.saved_frames rep.ready rep.finalize refl rep.outcome rep.used rep.seq rep.fuel

  pub turn-outcome : (o : Option Stop) → Rep l (with_outcome o w) M (with_told (told o) m) f
  turn-outcome o =
      rep-of rep.sizes rep.setup rep.stack rep.frames rep.chain rep.slots rep.saved_stack rep.saved_frames rep.ready rep.finalize rep.finalizing refl rep.used rep.seq rep.fuel

  pub turn-used : (n k : ℕ) → n ≡ k → Rep l (with_used k w) M (with_charged n m) f
  turn-used n k e =
      rep-of rep.sizes rep.setup rep.stack rep.frames rep.chain rep.slots rep.saved_stack rep.saved_frames rep.ready rep.finalize rep.finalizing rep.outcome e rep.seq rep.fuel

  pub turn-seq : (n k : ℕ) → n ≡ k → Rep l (with_seq k w) M (with_number n m) f
  turn-seq n k e =
      rep-of rep.sizes rep.setup rep.stack rep.frames rep.chain rep.slots rep.saved_stack rep.saved_frames rep.ready rep.finalize rep.finalizing rep.outcome rep.used e rep.fuel

  pub turn-fuel : (g h : Fuel) → g ≡ h → Rep l (with_fuel h w) M m g
  turn-fuel g h e =
      rep-of rep.sizes rep.setup rep.stack rep.frames rep.chain rep.slots rep.saved_stack rep.saved_frames rep.ready rep.finalize rep.finalizing rep.outcome rep.used rep.seq e
