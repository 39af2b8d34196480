-- A coroutine's return, and its escape, on the world: it ends, and its driver is told. Assumes nothing.
use mathlib.Core.Path.{◌≡◌, sym, ap, ap₂, ◌∙◌, subst}
use mathlib.Core.Bool.{Bool, true, false}
use mathlib.Core.List.{List}
use Prim.Native.Nat.{ℕ, ◌-◌, ◌^◌, ◌≤◌, ◌<◌}
use lib.ListN.{length}
use Rattle.heap.specs.Word.{nil}
use Rattle.heap.specs.declared.object.CoroState.{CoroState}
use Rattle.model.specs.State.{is_finished}
use Rattle.model.specs.World.{World, after}
use Rattle.model.specs.Frames.{top_pc}
use Rattle.model.specs.Heap.{coro}
use Rattle.model.specs.Coro.{deliver_return, returned_on, coro_returned, closed_by, fail_to, escaped_on, coro_escaped}
use Rattle.model.specs.Sound.{driver_lies}
use Rattle.model.specs.declared.machine.Active.{Active}
use Rattle.model.specs.declared.machine.Driver.{Driver}
use Rattle.model.specs.declared.machine.Frame.{Frame}
use Rattle.model.specs.declared.machine.Fuel.{Fuel}
use Rattle.model.specs.declared.machine.Stop.{Stop}
use Rattle.claims_sound.proofs.Good.{Still}
use Rattle.memory_tables.specs.Layout.{active_in}
use Rattle.memory_world.specs.Memory.{Lent, Beside, on_stack, on_frames, Rep}
use Rattle.memory_world.specs.Lendings.{lent, plain}
use Rattle.memory_world.specs.Contract.{Does, Turns, if_rowed, only}
use Rattle.memory_world.specs.declared.machine.Machine.{Machine}
use Rattle.memory_world.specs.declared.machine.Sizes.{Sizes}
use Rattle.memory_world.proofs.Does.{does}
use Rattle.machine_state.proofs.Frames.{chosen, passed}
use Rattle.coro_end.specs.Deliver.{DriverFits}
use Rattle.coro_end.specs.Finish.{FinishFits}
use Rattle.coro_end.specs.Last.{ending, end_on, end_last}
use Rattle.coro_end.specs.Returned.{last_lies, ReturnFits}
use Rattle.coro_end.proofs.Innermost.{Last, none_here, last, end-still}
use Rattle.coro_end.proofs.Registers.{driver-fits}

module _ (l : Sizes) (M : Lent) (m : Machine) (f : Fuel) (w : World) where
  -- ---- a return

  pub none-active : (value : ℕ) → Rep l w M m f → m.active ≡ 0 → Rep l (coro_returned value w) M m f
  unfolding coro_returned
  none-active value rep e = subst (λ cs. Rep l (returned_on cs value w) M m f) (sym (none_here l M m f w rep e)) rep

  pub returned : (value : ℕ) (a : Active) (top : Last w.chain a) → Rep l (deliver_return a.driver value (end_last CoroState.Returned value w)) M m f → Rep l (coro_returned value w) M m f
  unfolding coro_returned
  returned value a top =
      subst (λ cs. Rep l (deliver_return a.driver value (end_on cs CoroState.Returned value w)) M m f → Rep l (returned_on cs value w) M m f) (sym top.are) (λ rep. rep)

  -- ---- an escape of the word value, raised at pc of function fn

  module _ (value fn pc : ℕ) where
    pub none-escaped : Rep l w M m f → m.active ≡ 0 → Does l (coro_escaped value fn pc w) M m f false
    unfolding coro_escaped
    none-escaped rep e = does l M m f (coro_escaped value fn pc w) w false (ap (λ cs. escaped_on cs value fn pc w) (none_here l M m f w rep e)) rep

    module _ (a : Active) (top : Last w.chain a) where
      closes : closed_by (coro w a.coro) value ≡ true → coro_escaped value fn pc w ≡ after (coro_returned nil w) true
      unfolding coro_escaped coro_returned
      closes e = subst (λ cs. escaped_on cs value fn pc w ≡ after (returned_on cs nil w) true) (sym top.are) (chosen _ _ _ e)

      pub close-succeeds : closed_by (coro w a.coro) value ≡ true → Rep l (coro_returned nil w) M m f → Does l (coro_escaped value fn pc w) M m f true
      close-succeeds e rep = does l M m f (coro_escaped value fn pc w) (coro_returned nil w) true (closes e) rep

      failing : closed_by (coro w a.coro) value ≡ false → coro_escaped value fn pc w ≡ fail_to a.driver (Stop.Failed value fn pc) (end_last CoroState.Failed value w)
      unfolding coro_escaped
      failing e =
          subst (λ cs. escaped_on cs value fn pc w ≡ fail_to a.driver (Stop.Failed value fn pc) (end_on cs CoroState.Failed value w)) (sym top.are)
          (passed _ _ _ e)

      pub fails : (stops : Bool) → closed_by (coro w a.coro) value ≡ false → Does l (fail_to a.driver (Stop.Failed value fn pc) (end_last CoroState.Failed value w)) M m f stops
          → Does l (coro_escaped value fn pc w) M m f stops
      fails stops e did = subst (λ o. Does l o M m f stops) (sym (failing e)) did

-- by the driver
pub fail-by : (l : Sizes) (M : Lent) (m : Machine) (f : Fuel) (w : World) (d x : Driver) (s : Stop) (stops : Bool) → d ≡ x → Does l (fail_to x s w) M m f stops → Does l (fail_to d s w) M m f stops
fail-by l M m f w d x s stops e did = subst (λ y. Does l (fail_to y s w) M m f stops) (sym e) did

-- ---- what the code may rely on

module _ (l : Sizes) (m : Machine) (stack frames chain slots saved_stack saved_frames : List ℕ) (fits : ReturnFits l (lent stack frames chain slots saved_stack saved_frames) m) where
  abbrev w : World
  w = fits.held.world

  abbrev beside : Beside
  beside = record { words = on_stack stack (on_frames frames fits.held.beside.words); fuel = fits.held.beside.fuel }

  pub end_fits : (s : CoroState) → is_finished s ≡ true → FinishFits l (ending chain slots saved_stack saved_frames plain) m s
  end_fits s e = record { held = record { world = w; beside = beside; rep = fits.held.rep; known = fits.held.known }; ends = e }

  module _ (a : Active) (some : 1 ≤ m.active) (is : a ≡ active_in chain (m.active - 1)) where
    top : Last w.chain a
    top = last l (lent stack frames chain slots saved_stack saved_frames fits.held.beside) m fits.held.beside.fuel w fits.held.rep a some is

    -- after its end the driver may be told
    pub return_fits : (chain' slots' saved_stack' saved_frames' : List ℕ) (n : Machine) (s : CoroState) (result : ℕ)
        → Turns if_rowed l (end_last s result) (ending chain slots saved_stack saved_frames plain) (only m) (ending chain' slots' saved_stack' saved_frames' plain) (only n)
        → DriverFits stack frames slots' n a.driver
    return_fits chain' slots' saved_stack' saved_frames' n s result did =
        let u = end_last s result w in
        let rep = did w beside fits.held.rep fits.held.known in
        let k : Still w u = end-still s result w in
        driver-fits u.stack u.frames stack frames slots' n a.driver rep.stack rep.frames rep.slots.within
        (ap₂ (λ (xs : List ℕ) (fs : List Frame). driver_lies a.driver (length xs) fs) k.stack k.frames
        ∙ sym (ap (λ cs. last_lies cs (length w.stack) w.frames) top.are) ∙ fits.lies)
        (subst (λ (fs : List Frame). top_pc fs < 2 ^ 32) (sym k.frames) fits.pc)
