-- An entry is accepted exactly where the words show no refusal. Assumes nothing.
use mathlib.Core.Path.{◌≡◌, refl, sym, ap, ◌∙◌}
use mathlib.Core.Bool.{Bool, true, false}
use Prim.Native.Nat.{ℕ}
use Rattle.lists.specs.Pick.{pick}
use Rattle.heap.specs.Heap.{slots_of, coro_of}
use Rattle.heap.specs.declared.fault.Fault.{Fault}
use Rattle.std.specs.Prelude.{Result, Ok, Err, is_ok}
use Rattle.model.specs.declared.coro.Entered.{Entered}
use Rattle.heap.specs.declared.object.CoroObj.{CoroObj}
use Rattle.model.specs.State.{is_created}
use Rattle.model.specs.World.{World, after}
use Rattle.model.specs.Coro.{entered, overflows, coro_enter}
use Rattle.model.specs.Cleanup.{is_entered}
use Rattle.model.specs.declared.machine.Driver.{Driver}
use Rattle.model.specs.declared.machine.Fuel.{Fuel}
use Rattle.memory_world.specs.Memory.{Lent, Rep}
use Rattle.memory_world.specs.declared.machine.Machine.{Machine}
use Rattle.memory_world.specs.declared.machine.Sizes.{Sizes}
use Rattle.coro_enter.specs.Enter.{refusal_of}
use Rattle.coro_enter.proofs.Entry.{in-world, verdict, unfit, same-verdict, model-enter}

no-verdict : (a b t : Bool) (w u : World) (x : ℕ)
    → is_entered (pick a (after w (Err Fault.InvalidCoroState)) (pick b (after w (Err Fault.StackOverflow)) (after u (pick t (Ok Entered.Fresh) (Ok (Entered.Suspended x)))))).answer
    ≡ is_ok (verdict a b)
unfolding pick
no-verdict true b t w u x = refl
no-verdict false true t w u x = refl
no-verdict false false true w u x = refl
no-verdict false false false w u x = refl

module _ (l : Sizes) (M : Lent) (m : Machine) (f : Fuel) (v : ℕ) (w : World) (rep : Rep l w M m f) (i : ℕ) (c : CoroObj) (found : Ok (i, c) ≡ coro_of (slots_of m.count M.slots) v) where
  pub accepts-if : (d : Driver) → is_entered (coro_enter v d w).answer ≡ is_ok (refusal_of m.height m.depth l c)
  accepts-if d =
      let t = in-world l M m f v w rep i c found in
      let k = t.core in
      ap (λ o. is_entered o.answer) (model-enter l M m f v w rep i c found d)
      ∙ no-verdict (unfit l M m f v w rep i c found) (overflows k w) (is_created k.state) w (entered v d k t.rest w) k.waiting
      ∙ ap (λ (g : Result Unit Fault). is_ok g) (sym (same-verdict l M m f v w rep i c found))
