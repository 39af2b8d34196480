-- `function_objects` meets its contract: after i turns the objects of i functions stand there. Assumes nothing.
use Prim.Native.Nat.{◌-◌}
use mathlib.Core.Path.{◌≡◌, refl, ◌∙◌, subst}
use native.Mathlib.Omega.{arith}
use lib.ListN.{length}
use Rattle.memory_world.specs.Memory.{Slots}
use Rattle.machine_state.specs.Setup.{function_slots}
use Rattle.machine_state.proofs.Fresh.{slots-none, next-slot}
use Rattle.machine_state.proofs.setup.function_objects.Goals as goal

pub loop-i-init : goal.loop-i-init
loop-i-init c = (omega arith, refl, slots-none _ (length c.args.slots.now) c.clear_words.ensures)

pub put_slot-requires : goal.put_slot-requires
put_slot-requires c =
    let k : length c.clear_words.new.s ≡ length c.args.slots.now = c.clear_words.auto.s in
    let a = c.loop-i.invariant.0 in
    let b = c.loop-i.invariant.1 in
    let t = c.loop-i-test.true in
    let p = c.requires in
    omega arith

pub loop-i-preserved : goal.loop-i-preserved
loop-i-preserved c =
    let k : length c.clear_words.new.s ≡ length c.args.slots.now = c.clear_words.auto.s in
    let a = c.loop-i.invariant.0 in
    let b = c.loop-i.invariant.1 in
    let t = c.loop-i-test.true in
    let p = c.requires in (
      omega arith,
      c.put_slot.auto.slots ∙ c.loop-i.invariant.1,
      next-slot c.loop-i.slots _ c.loop-i.i c.put_slot.ensures c.loop-i.invariant.2 (omega arith),
    )

pub shape_of-slots : goal.shape_of-slots
shape_of-slots c = c.loop-i.invariant.1 ∙ c.clear_words.auto.s

pub returns : goal.returns
returns c =
    let a = c.loop-i.invariant.0 in
    let t = c.loop-i-test.false in
    let e : c.loop-i.i ≡ c.args.n = omega arith in
    subst (λ k. Slots (function_slots k) c.loop-i.slots k) e c.loop-i.invariant.2
