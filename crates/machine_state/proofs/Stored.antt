-- What holds after a pc was stored. Assumes nothing.
use mathlib.Core.Path.{◌≡◌, refl}
use mathlib.Core.Bool.{true, false}
use mathlib.Core.List.{List}
use Prim.Native.Nat.{ℕ, ◌^◌, ◌<◌}
use lib.ListN.{length}
use borrow.Author.Tests.{lt-ltb}
use Rattle.model.specs.World.{World}
use Rattle.model.specs.Frames.{store_pc}
use Rattle.model.specs.Sound.{sound}
use Rattle.claims_sound.proofs.Tests.{no_false}
use Rattle.claims_sound.proofs.Sound.{sound→, →sound}
use Rattle.claims_sound.proofs.Tower.{store-sound}
use Rattle.memory_world.specs.Memory.{Rep}
use Rattle.memory_world.specs.Lendings.{lent}
use Rattle.memory_world.specs.Contract.{Numbers, Ok}
use Rattle.memory_world.specs.declared.machine.Sizes.{Sizes}
use Rattle.memory_world.proofs.Does.{ok-next}

pub store-sounds : (pc : ℕ) (w : World) → pc < 2 ^ 32 → sound w ≡ true → sound (store_pc pc w) ≡ true
store-sounds pc w h snd = →sound {ex = false} (store_pc pc w) (store-sound pc w (lt-ltb pc (2 ^ 32) h) (sound→ w snd (λ z. no_false z)))

module _ (l : Sizes) (n : Numbers) (stack frames chain slots saved_stack saved_frames : List ℕ) where
  pub stored_ok : (frames' : List ℕ) (pc : ℕ) → length frames' ≡ length frames → pc < 2 ^ 32
      → (o : Ok l (lent stack frames chain slots saved_stack saved_frames) n)
      → Rep l (store_pc pc o.world) (lent stack frames' chain slots saved_stack saved_frames o.beside) n.machine (n.fuel o.beside)
      → Ok l (lent stack frames' chain slots saved_stack saved_frames) n
  stored_ok frames' pc e h o rep =
      ok-next l _ (lent stack frames' chain slots saved_stack saved_frames) n n o (store_pc pc o.world) refl (store-sounds pc o.world h o.sound)
      (record { stack = refl; frames = e; chain = refl; slots = refl; saved_stack = refl; saved_frames = refl; ready = refl; finalize = refl; setup = refl }) rep
