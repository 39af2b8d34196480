-- Whether coro_suspend accepts, at a world.
use Prim.Native.Nat.{ℕ}
use mathlib.Core.Bool.{Bool, true, false}
use mathlib.Core.List.{List, [], ◌∷◌}
use Rattle.heap.specs.declared.object.CoroState.{CoroState}
use Rattle.model.specs.World.{World}
use Rattle.model.specs.Frames.{store_pc}
use Rattle.model.specs.Coro.{coro_suspend}
use Rattle.model.specs.declared.machine.Active.{Active}
use Rattle.std.specs.Prelude.{Option, Result, Some, Ok, Err}
use Rattle.model.specs.declared.machine.Driver.{Driver}
use Rattle.model.specs.declared.coro.Event.{Event}
use Rattle.heap.specs.declared.fault.Fault.{Fault}

abbrev pub taken : Result (Driver × Event) Fault → Bool
taken (Ok (d, e)) = true
taken (Err f) = false

-- coro_suspend accepts at w, with the pc stored
abbrev pub tries : ℕ → CoroState → ℕ → ℕ → World → Option (ℕ × ℕ) → Bool
tries pc s dst payload w keys = taken (coro_suspend s dst payload keys (store_pc pc w)).answer

-- the key that auto_key made, or it refused
abbrev pub keyed : (World → Option (ℕ × ℕ) → Bool) → World → Result (ℕ × ℕ) Fault → Bool
keyed f w (Ok (key, largest)) = f w (Some (key, largest))
keyed f w (Err e) = false

-- in the innermost active coroutine, if there is one
abbrev pub in_body : List Active → (Active → Bool) → Bool
in_body [] f = false
in_body (a ∷ chain) f = f a
