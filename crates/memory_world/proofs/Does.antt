-- What a function left: its outcome by an equation, and the room for the next one. Assumes nothing.
use mathlib.Core.Path.{◌≡◌, refl, sym, subst, ◌∙◌}
use mathlib.Core.Bool.{true}
use Prim.Native.Nat.{ℕ, ◌≤◌}
use lib.ListN.{length}
use Rattle.model.specs.Program.{Setup}
use Rattle.model.specs.World.{World, After, after}
use Rattle.model.specs.Sound.{sound}
use Rattle.model.specs.declared.machine.Fuel.{Fuel}
use Rattle.memory_world.specs.Memory.{Lent, Beside, Rep, Room}
use Rattle.memory_world.specs.Contract.{Numbers, Ok, Does}
use Rattle.memory_world.specs.declared.machine.Machine.{Machine}
use Rattle.memory_world.specs.declared.machine.Sizes.{Sizes}

pub does : {A : Type 0} (l : Sizes) (M : Lent) (m : Machine) (f : Fuel) (o : After A) (w : World) (a : A) → o ≡ after w a → Rep l w M m f → Does l o M m f a
does l M m f o w a e r = subst (λ z. Does l z M m f a) (sym e) (record { world = r; answer = refl })

-- no slice grows or shrinks
pub record SameLengths (M M' : Lent) : Type 0 where
  pub stack : length M'.stack ≡ length M.stack
  pub frames : length M'.frames ≡ length M.frames
  pub chain : length M'.chain ≡ length M.chain
  pub slots : length M'.slots ≡ length M.slots
  pub saved_stack : length M'.saved_stack ≡ length M.saved_stack
  pub saved_frames : length M'.saved_frames ≡ length M.saved_frames
  pub ready : length M'.ready ≡ length M.ready
  pub finalize : length M'.finalize ≡ length M.finalize
  pub setup : length M'.setup ≡ length M.setup

longer : (n a b : ℕ) → b ≡ a → n ≤ a → n ≤ b
longer n a b e h = subst (λ x. n ≤ x) (sym e) h

pub alike : (M : Lent) → SameLengths M M
alike M = record { stack = refl; frames = refl; chain = refl; slots = refl; saved_stack = refl; saved_frames = refl; ready = refl; finalize = refl; setup = refl }

pub then-alike : (M M' M'' : Lent) → SameLengths M M' → SameLengths M' M'' → SameLengths M M''
then-alike M M' M'' a b =
    record {
      stack = b.stack ∙ a.stack;
      frames = b.frames ∙ a.frames;
      chain = b.chain ∙ a.chain;
      slots = b.slots ∙ a.slots;
      saved_stack = b.saved_stack ∙ a.saved_stack;
      saved_frames = b.saved_frames ∙ a.saved_frames;
      ready = b.ready ∙ a.ready;
      finalize = b.finalize ∙ a.finalize;
      setup = b.setup ∙ a.setup;
    }

pub room-same : (s s' : Setup) (M M' : Lent) → s' ≡ s → SameLengths M M' → Room s M → Room s' M'
room-same s s' M M' e k q =
    subst (λ x. Room x M') (sym e)
    (record {
      stack = longer _ _ _ k.stack q.stack;
      frames = longer _ _ _ k.frames q.frames;
      chain = longer _ _ _ k.chain q.chain;
      slots = longer _ _ _ k.slots q.slots;
      saved_stack = longer _ _ _ k.saved_stack q.saved_stack;
      saved_frames = longer _ _ _ k.saved_frames q.saved_frames;
      ready = longer _ _ _ k.ready q.ready;
      finalize = longer _ _ _ k.finalize q.finalize;
      setup = longer _ _ _ k.setup q.setup;
    })

-- a sound world after a sound world: the next function may be called
pub ok-next : (l : Sizes) (M M' : Beside → Lent) (n n' : Numbers) (o : Ok l M n) (u : World) → u.setup ≡ o.world.setup → sound u ≡ true → SameLengths (M o.beside) (M' o.beside)
    → Rep l u (M' o.beside) n'.machine (n'.fuel o.beside) → Ok l M' n'
ok-next l M M' n n' o u e s k rep =
    record { world = u; beside = o.beside; rep = rep; sound = s; room = room-same o.world.setup u.setup (M o.beside) (M' o.beside) e k o.room }
