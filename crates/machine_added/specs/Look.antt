-- 01: "Look: a look at the top frame hands back its registers as part of the lent words"
use Rattle.std.specs.Prelude.{◌≡◌, List, [], ◌∷◌, ℕ, ◌-◌, ◌*◌, ◌≤◌, length, take, drop}
use Rattle.model.specs.World.{World}
use Rattle.model.specs.Frames.{top_base}
use Rattle.model.specs.Added.{registers}
use Rattle.model.specs.declared.machine.Frame.{Frame}
use Rattle.memory_world.specs.Memory.{Beside, on_frames, Rep}
use Rattle.memory_world.specs.declared.machine.Machine.{Machine}
use Rattle.memory_world.specs.declared.machine.Sizes.{Sizes}
use Rattle.machine_added.specs.declared.look.Span.{Span}

pub record LookFits (frames : List ℕ) (m : Machine) : Type 0 where
  pub within : m.depth * 6 ≤ length frames

-- without a frame, 0
abbrev pub end_on : List Frame → List ℕ → ℕ
end_on [] xs = 0
end_on (f ∷ fs) xs = length xs

-- from the top frame's base to the stack's end; that part of the stack's words is its registers
pub record Seen (w : World) (ws : List ℕ) (s : Span) : Type 0 where
  pub start : s.start ≡ top_base w.frames
  pub end : s.end ≡ end_on w.frames w.stack
  pub part : take (s.end - s.start) (drop s.start ws) ≡ registers w

-- of every world that the words stand for
abbrev pub Sees : List ℕ → Machine → Span → Type 0
Sees frames m s = (sizes : Sizes) (w : World) (b : Beside) → Rep sizes w (on_frames frames b.words) m b.fuel → Seen w b.words.stack s
