-- After a suspension the driver's registers lie in the frame that is on top again. Assumes nothing.
use mathlib.Core.Path.{◌≡◌, refl, sym, ap, ◌∙◌, subst}
use mathlib.Core.Bool.{true, false, not}
use mathlib.Core.List.{List, [], ◌∷◌}
use Prim.Native.Nat.{ℕ, ◌+◌, ◌-◌, ◌*◌, ◌^◌, ◌<◌}
use native.Mathlib.Omega.{arith}
use lib.ListN.{length, get_or, take, length-take}
use lib.Dec.{ltb, leb}
use borrow.Author.Tests.{ltb-true}
use Rattle.lists.proofs.Tables.{chunk-get}
use Rattle.lists.proofs.Tests.{never}
use Rattle.lists.proofs.Results.{ok-same}
use Rattle.heap.specs.declared.object.CoroState.{CoroState}
use Rattle.model.specs.Lists.{each}
use Rattle.model.specs.Program.{Setup, is_function}
use Rattle.model.specs.Object.{Coroutine, Absent, Is}
use Rattle.model.specs.World.{World, After}
use Rattle.model.specs.Frames.{base_at}
use Rattle.model.specs.Heap.{coro, fits}
use Rattle.model.specs.Coro.{saved, growth, suspend_coroutine, suspend_innermost, coro_suspend}
use Rattle.model.specs.Sound.{sound, frame_names, lies_under, driver_lies}
use Rattle.model.specs.declared.coro.Event.{Event}
use Rattle.std.specs.Prelude.{Option, Result, Ok}
use Rattle.heap.specs.declared.fault.Fault.{Fault}
use Rattle.model.specs.declared.machine.Active.{Active}
use Rattle.model.specs.declared.machine.Driver.{Driver}
use Rattle.model.specs.declared.machine.Frame.{Frame}
use Rattle.model.specs.declared.machine.Fuel.{Fuel}
use Rattle.claims_sound.proofs.Tests.{no_false, and_left, and_right, picked}
use Rattle.claims_sound.proofs.Stand.{Stands, names_of}
use Rattle.claims_sound.proofs.Cut.{Cut, cut, base-cut, below-cut}
use Rattle.claims_sound.proofs.Sound.{Sound, sound→}
use Rattle.memory_tables.specs.Parts.{Frames}
use Rattle.memory_tables.proofs.Decode.{top_frame}
use Rattle.memory_tables.proofs.Doing.{reg-fits}
use Rattle.memory_world.specs.Memory.{Lent, Rep}
use Rattle.memory_world.specs.declared.machine.Machine.{Machine}
use Rattle.memory_world.specs.declared.machine.Sizes.{Sizes}
use Rattle.machine_state.specs.Send.{SendFits}
use Rattle.machine_state.proofs.Lands.{Lands, Receives, receives}

module _ (st : CoroState) (dst payload : ℕ) (keys : Option (ℕ × ℕ)) (w : World) (snd : sound w ≡ true) (d : Driver) (event : Event) where
  known : Sound false w
  known = sound→ w snd (λ z. no_false z)

  -- what holds of a suspension that is done
  abbrev Lie : After (Result (Driver × Event) Fault) → Type 0
  Lie o = o.answer ≡ Ok (d, event) → Receives o.world d

  module _ (a : Active) (chain : List Active) (q : w.chain ≡ a ∷ chain) where
    c : Cut false w.setup (length w.stack) w.frames a chain
    c = cut w.setup (subst (Stands false w.setup (length w.stack) w.frames) q known.tower.stands)

    lie-as : (k : Coroutine) → Lie (suspend_coroutine k a chain (saved st dst a.floor w) payload keys w)
    lie-as Absent = λ z. never cc
    lie-as (Is k r) =
        let s = w.setup in
        let b = base_at a.floor w.frames in
        let seam : b ≡ c.b.base = base-cut s c in
        let in_stack = c.within in
        let high : length (take b w.stack) ≡ c.b.base = length-take b w.stack ∙ (omega arith) in
        picked Lie (not (fits w (growth w (saved st dst a.floor w) r))) (λ _ z. never cc)
        (λ _ z.
        let e : a.driver ≡ d = ap (λ (p : Driver × Event). p.0) (ok-same z) in
        subst (Receives _) e (receives s _ a.driver c.b.base c.low c.driver (names_of s c.lows) (below-cut s c) high))

  lie-on : (chain : List Active) → w.chain ≡ chain → Lie (suspend_innermost chain st dst payload keys w)
  lie-on [] q = λ z. never cc
  lie-on (a ∷ chain) q = picked Lie (leb (length w.frames) a.floor) (λ _ z. never cc) (λ _. lie-as a chain q (coro w a.coro))

  pub suspend-lands : (coro_suspend st dst payload keys w).answer ≡ Ok (d, event) → Receives (coro_suspend st dst payload keys w).world d
  unfolding coro_suspend
  suspend-lands = lie-on w.chain refl
