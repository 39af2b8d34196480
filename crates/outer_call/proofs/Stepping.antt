-- What stands for what a call leaves is `step_words`. Assumes nothing.
use mathlib.Core.Path.{◌≡◌, sym, ap, ◌∙◌, subst}
use mathlib.Core.Bool.{true, false}
use Rattle.lists.specs.Pick.{pick, pick_true, pick-false}
use Rattle.heap.specs.declared.fault.Fault.{Fault}
use Rattle.model.specs.Program.{Setup}
use Rattle.model.specs.World.{World}
use Rattle.model.specs.Step.{call}
use Rattle.model.specs.declared.call.Op.{Op}
use Rattle.model.specs.declared.call.Answer.{Answer}
use Rattle.model.specs.declared.machine.Fuel.{Fuel}
use Rattle.memory_world.specs.Memory.{Lent, Beside, Sized, Rep}
use Rattle.memory_world.specs.Contract.{Numbers, Ok, Does, Gives, if_sound, with}
use Rattle.memory_world.specs.declared.machine.Machine.{Machine}
use Rattle.memory_world.specs.declared.machine.Sizes.{Sizes}
use Rattle.memory_world.proofs.Does.{SameLengths}
use Rattle.memory_world.specs.Words.{Lengths, sizes_of, lengths_of, words_in}
use Rattle.memory_world.specs.Decode.{setup_of, world_of}
use Rattle.memory_world.specs.Sizes.{SetupFits}
use Rattle.memory_world.proofs.Widest.{held_fits}
use Rattle.memory_world.proofs.Decoded.{one-world}
use Rattle.memory_sound.specs.Exactly.{Stands}
use Rattle.memory_sound.proofs.Exactly.{tested}
use Rattle.memory_step.specs.Step.{MemoryState, Left, left, refuses, state_in, is_sound, decoded, step_words}
use Rattle.machine_step.specs.Kept.{did}
use Rattle.outer_call.specs.State.{state, SoundFits}

-- as long as before
pub same-lengths : (M M' : Lent) → SameLengths M M' → lengths_of M' ≡ lengths_of M
same-lengths M M' q =
    λ i.
    record {
      stack = q.stack i;
      frames = q.frames i;
      chain = q.chain i;
      slots = q.slots i;
      saved_stack = q.saved_stack i;
      saved_frames = q.saved_frames i;
      ready = q.ready i;
      finalize = q.finalize i;
      setup = q.setup i;
    }

-- sizes that fit are those of the set-up
sized : (s : Setup) (l : Sizes) → Sized s l → l ≡ sizes_of s
sized s l k =
    λ i.
    record {
      depth = k.depth i;
      stack = k.stack i;
      rows = k.rows i;
      slots = k.slots i;
      memory = k.memory i;
      width = k.width i;
      costs = k.costs i;
    }

-- what stands for a world, in slices as long as before
pub exact : (l : Sizes) (w : World) (M M' : Lent) (m : Machine) (f : Fuel) → lengths_of M' ≡ lengths_of M → Rep l w M' m f → state M' m f ≡ state_in (lengths_of M) w
exact l w M M' m f q r =
    let x = one-world.exactly r in
    let e = x.0 ∙ ap (λ (n : Lengths). words_in n w) q in
    λ i. record { words = e i; machine = x.1 i; fuel = x.2 i }

module _ (M : Lent) (m : Machine) (f : Fuel) where
  pub stands : is_sound (state M m f) ≡ true → Stands M m f (world_of M m f)
  stands e = (tested.exactly M m f).stands e

  -- what `sizes` asks
  pub setup-fits : is_sound (state M m f) ≡ true → SetupFits M.setup
  setup-fits e = held_fits (setup_of M.setup) M.setup (stands e).rep.setup

  -- what `kept` asks
  pub may-call : (l : Sizes) → SoundFits l (state M m f) → Ok l (λ b. M) (with m f)
  may-call l h =
      let s = stands h.sound in
      record {
        world = world_of M m f;
        beside = record { words = M; fuel = f };
        rep = subst (λ (k : Sizes). Rep k (world_of M m f) M m f) (sym h.sizes) s.rep;
        sound = s.sound;
        room = s.room;
      }

  -- what may be lent again is sound
  pub sound-again : (l : Sizes) → Ok l (λ b. M) (with m f) → is_sound (state M m f) ≡ true
  sound-again l k =
      let e = sized k.world.setup l k.rep.sizes in
      (tested.exactly M m f).passes k.world (record { rep = subst (λ (x : Sizes). Rep x k.world M m f) e k.rep; sound = k.sound; room = k.room })

  pub refused : (o : Op) → is_sound (state M m f) ≡ false → refuses (state M m f) Fault.Unsound ≡ step_words (state M m f) o
  unfolding step_words
  refused o e =
      let s = state M m f in
      let w = call o (decoded s) in
      sym (ap (λ b. pick b (left (state_in (lengths_of M) w.world) w.answer) (refuses s Fault.Unsound)) e ∙ pick-false _ _)

module _ (M M' : Lent) (m m' : Machine) (f f' : Fuel) (l : Sizes) (o : Op) (a : Answer) where
  pub stepped : SoundFits l (state M m f) → SameLengths M M' → Gives if_sound l (did o) (λ b. M) (with m f) (λ b. M') (with m' f') a → left (state M' m' f') a ≡ step_words (state M m f) o
  unfolding step_words may-call
  stepped h q met =
      let s = state M m f in
      let k = may-call M m f l h in
      let w = call o (decoded s) in
      let d = met k.world k.beside k.rep k.sound in
      let e = exact l w.world M M' m' f' (same-lengths M M' q) d.world in
      let p = d.answer in
      (λ i. left (e i) (p i))
      ∙ sym (ap (λ b. pick b (left (state_in (lengths_of M) w.world) w.answer) (refuses s Fault.Unsound)) h.sound ∙ pick_true _ _)
