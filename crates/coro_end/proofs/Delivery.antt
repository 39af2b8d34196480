-- Deliveries on the world: a word sent, an outcome, and the cases of a driver and an event. Assumes nothing.
use mathlib.Core.Path.{◌≡◌, refl, sym, ap, subst}
use mathlib.Core.Bool.{false}
use mathlib.Core.List.{List}
use Prim.Native.Nat.{ℕ}
use native.Mathlib.Omega.{arith}
use lib.ListN.{length}
use Rattle.heap.specs.declared.fault.Fault.{Fault}
use Rattle.model.specs.World.{World, with_outcome}
use Rattle.model.specs.Frames.{put_at, put_reg}
use Rattle.model.specs.Fuel.{set_finalizing}
use Rattle.model.specs.Coro.{coro_send, outcome_of, deliver, deliver_return}
use Rattle.model.specs.declared.coro.Event.{Event}
use Rattle.model.specs.declared.machine.Driver.{Driver}
use Rattle.model.specs.declared.machine.Fuel.{Fuel}
use Rattle.std.specs.Prelude.{Result, Some, Ok, Err}
use Rattle.model.specs.declared.machine.Stop.{Stop}
use Rattle.memory_tables.specs.Does.{RegFits, Puts}
use Rattle.memory_world.specs.Memory.{Lent, on_stack, on_frames, Rep}
use Rattle.memory_world.specs.Contract.{Does}
use Rattle.memory_world.specs.declared.machine.Machine.{Machine}
use Rattle.memory_world.specs.declared.machine.Sizes.{Sizes}
use Rattle.memory_world.specs.Lendings.{top, plain}
use Rattle.memory_world.specs.Contract.{any, only, every, Turns}
use Rattle.memory_world.proofs.Turn.{turn-stack, turn-outcome}
use Rattle.machine_state.specs.Send.{SendFits}
use Rattle.memory_world.proofs.Does.{does}
use Rattle.coro_end.specs.Deliver.{iter_yielded, stopped}

-- ---- what is asked after a word was put into a register

pub reg-still : (stack stack' frames : List ℕ) (height depth r : ℕ) → length stack' ≡ length stack → RegFits stack frames height depth r → RegFits stack' frames height depth r
reg-still stack stack' frames height depth r e f =
    record { some = f.some; on-frames = f.on-frames; below = f.below; on-stack = let h = f.on-stack in omega arith }

pub send-still : (stack stack' frames : List ℕ) (height depth r : ℕ) → length stack' ≡ length stack → SendFits stack frames height depth r → SendFits stack' frames height depth r
send-still stack stack' frames height depth r e f = record { reg = reg-still stack stack' frames height depth r e f.reg; pc = f.pc }

-- ---- moves

module _ (l : Sizes) (M : Lent) (m : Machine) (f : Fuel) (w : World) (rep : Rep l w M m f) where
  pub sent : (stack' frames' : List ℕ) (r v : ℕ) → every (λ l. Turns any l (coro_send r v) (top M.stack M.frames plain) (only m) (top stack' frames' plain) (only m))
      → Rep l (coro_send r v w) (on_stack stack' (on_frames frames' M)) m f
  sent stack' frames' r v k = k l w (record { words = M; fuel = f }) rep

  pub put : (stack' : List ℕ) (r v : ℕ) → Puts M.stack M.frames stack' m.height m.depth r v → Rep l (put_reg r v w) (on_stack stack' M) m f
  put stack' r v k = turn-stack l w M m f rep (put_at w.frames r v w.stack) stack' m.height (k w.stack w.frames rep.stack rep.frames)

  pub told-host : (s : Stop) (n : Machine) → n ≡ stopped s m → Rep l (with_outcome (Some s) w) M n f
  told-host s n e =
      subst (λ k. Rep l (with_outcome (Some s) w) M k f) (sym e)
      (turn-outcome l w M m f rep (Some s))

-- ---- by the event

module _ (l : Sizes) (M : Lent) (m : Machine) (f : Fuel) (w : World) (e : Event) where
  pub resume-yielded : (dst p k : ℕ) → e ≡ Event.Yielded p k → Rep l (coro_send dst p w) M m f → Does l (deliver (Driver.Resume dst) e w) M m f (Ok tt)
  unfolding deliver
  resume-yielded dst p k q rep = does l M m f (deliver (Driver.Resume dst) e w) (coro_send dst p w) (Ok tt) (ap (λ x. deliver (Driver.Resume dst) x w) q) rep

  pub resume-awaiting : (dst p : ℕ) → e ≡ Event.Awaiting p → Rep l (coro_send dst p w) M m f → Does l (deliver (Driver.Resume dst) e w) M m f (Ok tt)
  unfolding deliver
  resume-awaiting dst p q rep = does l M m f (deliver (Driver.Resume dst) e w) (coro_send dst p w) (Ok tt) (ap (λ x. deliver (Driver.Resume dst) x w) q) rep

  pub resume-ignored : (dst : ℕ) → e ≡ Event.CloseIgnored → Rep l w M m f → Does l (deliver (Driver.Resume dst) e w) M m f (Err Fault.CloseIgnored)
  unfolding deliver
  resume-ignored dst q rep = does l M m f (deliver (Driver.Resume dst) e w) w (Err Fault.CloseIgnored) (ap (λ x. deliver (Driver.Resume dst) x w) q) rep

  module _ (has val iter : ℕ) where
    pub iter-yielded : (p k : ℕ) → e ≡ Event.Yielded p k → Rep l (iter_yielded has val iter p k w) M m f → Does l (deliver (Driver.Iter has val iter) e w) M m f (Ok tt)
    unfolding deliver
    iter-yielded p k q rep =
        does l M m f (deliver (Driver.Iter has val iter) e w) (iter_yielded has val iter p k w) (Ok tt) (ap (λ x. deliver (Driver.Iter has val iter) x w) q) rep

    pub iter-awaiting : (p : ℕ) → e ≡ Event.Awaiting p → Rep l w M m f → Does l (deliver (Driver.Iter has val iter) e w) M m f (Err Fault.TypeError)
    unfolding deliver
    iter-awaiting p q rep = does l M m f (deliver (Driver.Iter has val iter) e w) w (Err Fault.TypeError) (ap (λ x. deliver (Driver.Iter has val iter) x w) q) rep

    pub iter-ignored : e ≡ Event.CloseIgnored → Rep l w M m f → Does l (deliver (Driver.Iter has val iter) e w) M m f (Err Fault.CloseIgnored)
    unfolding deliver
    iter-ignored q rep = does l M m f (deliver (Driver.Iter has val iter) e w) w (Err Fault.CloseIgnored) (ap (λ x. deliver (Driver.Iter has val iter) x w) q) rep

  -- ---- by the driver

  module _ (d : Driver) where
    -- a driver whose delivery is known
    pub to-driver : (x : Driver) (a : Result Unit Fault) → d ≡ x → Does l (deliver x e w) M m f a → Does l (deliver d e w) M m f a
    to-driver x a q did = subst (λ y. Does l (deliver y e w) M m f a) (sym q) did

    pub to-host : (s : Stop) → d ≡ Driver.Host → s ≡ outcome_of e → Rep l (with_outcome (Some s) w) M m f → Does l (deliver d e w) M m f (Ok tt)
    unfolding deliver
    to-host s q r rep =
        to-driver Driver.Host (Ok tt) q
        (does l M m f (deliver Driver.Host e w) (with_outcome (Some s) w) (Ok tt) (ap (λ x. record { world = with_outcome (Some x) w; answer = Ok tt }) (sym r)) rep)

    pub to-cleanup : d ≡ Driver.Finalize → Rep l (set_finalizing false w) M m f → Does l (deliver d e w) M m f (Ok tt)
    unfolding deliver
    to-cleanup q rep = to-driver Driver.Finalize (Ok tt) q (does l M m f (deliver Driver.Finalize e w) (set_finalizing false w) (Ok tt) refl rep)

pub return-to : (l : Sizes) (M : Lent) (m : Machine) (f : Fuel) (w : World) (d x : Driver) (v : ℕ) → d ≡ x → Rep l (deliver_return x v w) M m f → Rep l (deliver_return d v w) M m f
return-to l M m f w d x v q rep = subst (λ y. Rep l (deliver_return y v w) M m f) (sym q) rep
