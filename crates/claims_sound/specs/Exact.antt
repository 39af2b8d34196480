-- How wide frames are on every reachable machine: no rule of "Sound", but kept with it.
use Rattle.std.specs.Prelude.{ℕ, ◌+◌, Bool, true, false, not, ◌&&◌, ◌||◌, List, [], ◌∷◌, length, eqb}
use Rattle.model.specs.Lists.{is_nil, each}
use Rattle.model.specs.Program.{Setup, func}
use Rattle.model.specs.State.{is_created}
use Rattle.model.specs.Object.{Coroutine, Absent, Is, as_coro}
use Rattle.model.specs.World.{World}
use Rattle.model.specs.Frames.{is_entry, is_coro}
use Rattle.model.specs.declared.machine.Cont.{Cont}
use Rattle.model.specs.declared.machine.Frame.{Frame}

-- at the bottom stands an Entry or a Coro frame
abbrev pub rooted : Cont → List Frame → Bool
rooted c fs = is_entry c || is_coro c || not (is_nil fs)

-- each of the frames over n words is exactly as wide as its function, and the bottom one is Entry or Coro
abbrev pub exact : Setup → ℕ → List Frame → Bool
exact s n [] = true
exact s n (f ∷ fs) = eqb n (f.base + (func s f.func).regs) && rooted f.cont fs && exact s f.base fs

-- a Created coroutine has one frame
abbrev pub exact_in : Setup → Coroutine → Bool
exact_in s Absent = true
exact_in s (Is k r) = exact s (length k.regs) k.frames && (not (is_created k.state) || eqb (length k.frames) 1)

-- on the stack and saved
unfoldable pub exact_ok : World → Bool
exact_ok w = exact w.setup (length w.stack) w.frames && each (λ x. exact_in w.setup (as_coro x.object)) w.slots
