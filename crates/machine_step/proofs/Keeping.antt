-- The words that a call leaves may be lent to the next. Assumes nothing.
use mathlib.Core.Path.{◌≡◌, refl, sym, ap, ap₂, ◌∙◌, subst}
use mathlib.Core.Bool.{true}
use Prim.Native.Nat.{ℕ, ◌+◌, ◌*◌, ◌≤◌}
use lib.ListN.{length, get_or}
use Rattle.heap.specs.Slot as Slot
use Rattle.model.specs.Program.{Setup}
use Rattle.model.specs.World.{World}
use Rattle.model.specs.Call.{typed}
use Rattle.model.specs.Sound.{sound, row_words}
use Rattle.model.specs.Step.{call}
use Rattle.model.specs.declared.call.Op.{Op}
use Rattle.model.specs.declared.call.Answer.{Answer}
use Rattle.model.specs.declared.machine.Fuel.{Fuel}
use Rattle.claims_sound.proofs.Tests.{no_false}
use Rattle.claims_sound.proofs.Sound.{sound→, →sound}
use Rattle.claims_invariant.proofs.Call.{call-keeps}
use Rattle.memory_tables.proofs.Setups.{functions-in}
use Rattle.memory_world.specs.Memory.{Lent, Beside, Sized, Rep, Room}
use Rattle.memory_world.specs.Contract.{Numbers, Ok, Does}
use Rattle.memory_world.specs.declared.machine.Machine.{Machine}
use Rattle.memory_world.specs.declared.machine.Sizes.{Sizes}
use Rattle.memory_world.proofs.Does.{SameLengths, room-same}
use Rattle.machine_step.specs.Kept.{did}

-- a call leaves a sound world sound
pub sound-again : (o : Op) → typed o ≡ true → (w : World) → sound w ≡ true → sound (call o w).world ≡ true
sound-again o t w s = →sound (call o w).world (call-keeps o w t (sound→ w s (λ z. no_false z))).sound

-- set-ups of the same sizes ask for the same room
resized : (s s' : Setup) (l : Sizes) (M : Lent) → Sized s l → Sized s' l → length s.functions ≡ length s'.functions → Room s M → Room s' M
resized s s' l M a b n r =
    let depth = sym a.depth ∙ b.depth in
    let stack = sym a.stack ∙ b.stack in
    let rows = sym a.rows ∙ b.rows in
    let slots = sym a.slots ∙ b.slots in
    let width = sym a.width ∙ b.width in
    record {
      stack = subst (λ k. k ≤ length M.stack) stack r.stack;
      frames = subst (λ k. k * 6 ≤ length M.frames) depth r.frames;
      chain = subst (λ k. k * 6 ≤ length M.chain) depth r.chain;
      slots = subst (λ k. k * Slot.width ≤ length M.slots) slots r.slots;
      saved_stack = subst (λ k. k ≤ length M.saved_stack) (ap₂ (λ x y. x * y) rows width) r.saved_stack;
      saved_frames = subst (λ k. k ≤ length M.saved_frames) (ap₂ (λ x y. x * (y * 6)) rows depth) r.saved_frames;
      ready = subst (λ k. k ≤ length M.ready) slots r.ready;
      finalize = subst (λ k. k ≤ length M.finalize) slots r.finalize;
      setup = subst (λ k. 14 + k * 35 ≤ length M.setup) n r.setup;
    }

same-functions : (l : Sizes) (w u : World) (M M' : Lent) (m m' : Machine) (f f' : Fuel) → Rep l w M m f → Rep l u M' m' f' → M'.setup ≡ M.setup → length w.setup.functions ≡ length u.setup.functions
same-functions l w u M M' m m' f f' a b e =
    sym (functions-in w.setup M.setup a.setup) ∙ ap (λ ws. get_or ws 13 0) (sym e) ∙ functions-in u.setup M'.setup b.setup

pub next-ok : (l : Sizes) (M M' : Beside → Lent) (n n' : Numbers) (o : Op) (a : Answer) → typed o ≡ true → (k : Ok l M n) → SameLengths (M k.beside) (M' k.beside)
    → (M' k.beside).setup ≡ (M k.beside).setup → Does l (did o k.world) (M' k.beside) n'.machine (n'.fuel k.beside) a → Ok l M' n'
next-ok l M M' n n' o a t k e s d =
    let w = k.world in
    let u = (call o w).world in
    let b = k.beside in
    record {
      world = u;
      beside = b;
      rep = d.world;
      sound = sound-again o t w k.sound;
      room = resized w.setup u.setup l (M' b) k.rep.sizes d.world.sizes (same-functions l w u (M b) (M' b) n.machine n'.machine (n.fuel b) (n'.fuel b) k.rep d.world s)
          (room-same w.setup w.setup (M b) (M' b) refl e k.room);
    }
