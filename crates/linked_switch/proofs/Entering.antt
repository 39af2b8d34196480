-- A Resume that nothing refuses, on the world: what its parts leave. Assumes nothing.
use mathlib.Core.Path.{◌≡◌, subst}
use mathlib.Core.List.{List}
use Prim.Native.Nat.{ℕ}
use Rattle.model.specs.World.{World, with_stack}
use Rattle.model.specs.Frames.{put_at, on_top, set_pc, step_pc, store_pc}
use Rattle.model.specs.Coro.{coro_send}
use Rattle.model.specs.declared.machine.Fuel.{Fuel}
use Rattle.memory_tables.specs.Does.{FramesDo}
use Rattle.memory_world.specs.Memory.{Lent, Rep, on_stack, on_frames}
use Rattle.memory_world.specs.declared.machine.Machine.{Machine}
use Rattle.memory_world.specs.declared.machine.Sizes.{Sizes}
use Rattle.memory_world.proofs.Turn.{turn-stack, turn-frames}
use Rattle.machine_state.specs.Send.{SendFits}
use Rattle.linked_switch.specs.Enter.{Sends}

-- ---- a pc stored, a word sent

module _ (l : Sizes) (w : World) (M : Lent) (m : Machine) (f : Fuel) (rep : Rep l w M m f) where
  pub stored-rep : (frames' : List ℕ) (pc : ℕ) → FramesDo (on_top (set_pc pc)) M.frames frames' m.depth m.depth → Rep l (store_pc pc w) (on_frames frames' M) m f
  stored-rep frames' pc d = turn-frames l w M m f rep (on_top (set_pc pc) w.frames) frames' m.depth (d w.frames rep.frames)

  sent-rep : (stack' frames' : List ℕ) (x y : ℕ) → Sends M.stack M.frames stack' frames' m.height m.depth x y → Rep l (coro_send x y w) (on_frames frames' (on_stack stack' M)) m f
  sent-rep stack' frames' x y s =
      let xs = put_at w.frames x y w.stack in
      turn-frames l (with_stack xs w) (on_stack stack' M) m f
      (turn-stack l w M m f rep xs stack' m.height (s.put w.stack w.frames rep.stack rep.frames)) (on_top step_pc w.frames) frames' m.depth (s.stepped w.frames rep.frames)

  pub sends-rep : (stack' frames' : List ℕ) (h d r v x y : ℕ) → h ≡ m.height → d ≡ m.depth → r ≡ x → v ≡ y → Sends M.stack M.frames stack' frames' h d r v
      → Rep l (coro_send x y w) (on_frames frames' (on_stack stack' M)) m f
  sends-rep stack' frames' h d r v x y eh ed er ev s =
      sent-rep stack' frames' x y
      (subst (λ z. Sends M.stack M.frames stack' frames' m.height m.depth x z) ev
      (subst (λ z. Sends M.stack M.frames stack' frames' m.height m.depth z v) er
      (subst (λ z. Sends M.stack M.frames stack' frames' m.height z r v) ed
      (subst (λ z. Sends M.stack M.frames stack' frames' z d r v) eh s))))

pub send-fits : (stack frames : List ℕ) (h d r x y z : ℕ) → x ≡ h → y ≡ d → z ≡ r → SendFits stack frames x y z → SendFits stack frames h d r
send-fits stack frames h d r x y z eh ed er s =
    subst (λ n. SendFits stack frames h d n) er (subst (λ n. SendFits stack frames h n z) ed (subst (λ n. SendFits stack frames n y z) eh s))
