-- Stop run: the frames and the stack emptied, after every coroutine has failed. Assumes nothing.
use mathlib.Core.Path.{◌≡◌, refl, sym, subst}
use mathlib.Core.List.{List, []}
use Prim.Native.Nat.{ℕ}
use lib.ListN.{take}
use Rattle.model.specs.World.{World, with_stack, with_frames}
use Rattle.model.specs.Coro.{abort_coros}
use Rattle.model.specs.Added.{stop_run}
use Rattle.model.specs.declared.call.Answer.{Answer}
use Rattle.model.specs.declared.machine.Fuel.{Fuel}
use Rattle.memory_tables.specs.Does.{StackDo, FramesDo}
use Rattle.memory_world.specs.Memory.{Lent, Rep, on_stack, on_frames}
use Rattle.memory_world.specs.Contract.{Does}
use Rattle.memory_world.specs.Numbers.{with_depth}
use Rattle.memory_world.specs.declared.machine.Machine.{Machine}
use Rattle.memory_world.specs.declared.machine.Sizes.{Sizes}
use Rattle.memory_world.proofs.Turn.{turn-stack, turn-frames}
use Rattle.machine_added.specs.Stop.{emptied}

pub stopped : (l : Sizes) (M : Lent) (m n : Machine) (f : Fuel) (w : World) (stack' frames' : List ℕ) → Rep l (abort_coros w) M m f → n ≡ emptied m
    → FramesDo (λ _. []) M.frames frames' m.depth 0 → StackDo (take 0) M.stack stack' m.height 0
    → Does l (stop_run w) (on_stack stack' (on_frames frames' M)) n f Answer.Accepted
unfolding stop_run
stopped l M m n f w stack' frames' rep e gone cut =
    let u = abort_coros w in
    let a = turn-frames l u M m f rep [] frames' 0 (gone u.frames rep.frames) in
    subst (λ k. Does l (stop_run w) (on_stack stack' (on_frames frames' M)) k f Answer.Accepted) (sym e)
    (record { world = turn-stack l (with_frames [] u) (on_frames frames' M) (with_depth 0 m) f a [] stack' 0 (cut u.stack rep.stack); answer = refl })
