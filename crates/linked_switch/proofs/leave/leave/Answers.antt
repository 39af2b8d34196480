-- `leave` meets its contract: a pc stored, a suspension, the numbers, and the delivery. Assumes nothing.
use mathlib.Core.Path.{◌≡◌, ap, ap₂, ◌∙◌}
use Prim.Native.Nat.{◌+◌, ◌-◌, ◌*◌, ◌≤◌}
use native.Mathlib.Omega.{arith}
use lib.ListN.{length, set}
use Rattle.model.specs.declared.machine.Active.{Active}
use Rattle.memory_tables.specs.Layout.{base_in}
use Rattle.memory_world.specs.Memory.{Lent, Beside}
use Rattle.memory_world.specs.Lendings.{lent}
use Rattle.linked_calls.specs.Words.{machine_in}
use Rattle.linked_switch.specs.Leave.{innermost_in}
use Rattle.linked_switch.proofs.Storing.{base_kept, leave-asks, leave-sends, leave-done}
use Rattle.linked_switch.proofs.leave.leave.Lts as lts
use Rattle.linked_switch.proofs.leave.leave.Reads as reads
use Rattle.linked_switch.proofs.leave.leave.Tie as tie
use Rattle.linked_switch.proofs.leave.leave.Goals as goal

abbrev Start : Type 0
Start = lts.Start tie.the-claims reads.Pre reads.Post

abbrev After-active_at-a : Type 0
After-active_at-a = lts.After-active_at tie.the-claims reads.Pre reads.Post

abbrev After-base_at-base : Type 0
After-base_at-base = lts.After-base_at tie.the-claims reads.Pre reads.Post

abbrev After-leave_at : Type 0
After-leave_at = lts.After-leave_at tie.the-claims reads.Pre reads.Post

-- what the suspension leaves
abbrev left-words : After-leave_at → Beside → Lent
left-words c = let s = c.leave_at.new in lent s.stack s.frames s.chain s.slots s.saved_stack s.saved_frames

-- its floor
floored : (c : After-active_at-a) →
    let a = c.args in c.active_at-a.result.floor ≡ (innermost_in a.chain.now (machine_in a.machine.now)).floor
floored c = ap (λ (x : Active). x.floor) c.active_at-a.ensures

-- where the body begins
base_read : (c : After-base_at-base) →
    let a = c.args in
    c.base_at-base.result ≡ base_in c.store_pc.new.frames (innermost_in a.chain.now (machine_in a.machine.now)).floor
base_read c = c.base_at-base.ensures ∙ ap (base_in c.store_pc.new.frames) (floored c.before)

-- a coroutine runs: its words are there
chained : (c : Start) → ((machine_in c.args.machine.now).active - 1) * 6 + 6 ≤ length c.args.chain.now
chained c = let h = c.requires.run.ok.rep.chain.within in let r = c.requires.may.running in omega (arith, h, r)

pub active_at-a-requires : goal.active_at-a-requires
active_at-a-requires c = chained c.before.before.before.before.before.before.before.before.before.before.before.before.before.before.before.before.before

pub base_at-base-requires : goal.base_at-base-requires
base_at-base-requires c =
    let k = c.store_pc.auto.frames in
    let f = c.requires.may.floor in let h = c.requires.sent.on-frames in let e = floored c.before in omega (arith, f, h, e, k)

pub leave_at-requires : goal.leave_at-requires
leave_at-requires c =
    let s = c.store_pc in
    leave-asks c.requires s.new.frames s.ensures s.auto.frames _ _ (floored c.before.before.before.before.before.before.before) (base_read c.before.before.before.before.before.before)

pub put_numbers-requires : goal.put_numbers-requires
put_numbers-requires c = c.requires.words

pub send-requires : goal.send-requires
send-requires c =
    let s = c.store_pc in
    leave-sends c.requires s.new.frames s.ensures c.args.dst c.reg-payload.result c.active_at-a.result.floor c.base_at-base.result
    (left-words c.before.before.before.before.before.before.before.before.before.before.before.before.before.before.before.before.before.before.before) c.leave_at.ensures

pub shape_of-stack : goal.shape_of-stack
shape_of-stack c = c.send.auto.stack ∙ c.leave_at.auto.stack

pub shape_of-frames : goal.shape_of-frames
shape_of-frames c = c.send.auto.frames ∙ c.leave_at.auto.frames ∙ c.store_pc.auto.frames

pub shape_of-chain : goal.shape_of-chain
shape_of-chain c = c.leave_at.auto.chain

pub shape_of-slots : goal.shape_of-slots
shape_of-slots c = c.leave_at.auto.slots

pub shape_of-saved_stack : goal.shape_of-saved_stack
shape_of-saved_stack c = c.leave_at.auto.saved_stack

pub shape_of-saved_frames : goal.shape_of-saved_frames
shape_of-saved_frames c = c.leave_at.auto.saved_frames

pub shape_of-machine : goal.shape_of-machine
shape_of-machine c = c.put_numbers.auto.machine

pub returns : goal.returns
returns c =
    let s = c.store_pc in
    let ms = c.args.machine.now in let eb = base_read c.before.before.before.before.before.before.before.before.before.before.before.before.before.before.before.before.before.before.before.before.before.before.before.before.before.before.before.before.before.before.before in let ef = floored c.before.before.before.before.before.before.before.before.before.before.before.before.before.before.before.before.before.before.before.before.before.before.before.before.before.before.before.before.before.before.before.before in (
      c.put_numbers.ensures ∙ ap₂ (λ x y. set (set (set ms 0 x) 1 y) 2 ((machine_in ms).active - 1)) (eb ∙ base_kept c.requires s.new.frames s.ensures) ef,
      λ w b rep snd. leave-done c.requires s.new.frames s.ensures c.args.dst c.reg-payload.result c.active_at-a.result.floor c.base_at-base.result
          (left-words c.before.before.before.before.before.before.before.before.before.before.before.before.before.before.before.before.before.before.before.before.before.before.before.before) c.leave_at.ensures c.reg-payload.ensures ef eb w b _ _ c.send.ensures rep snd,
    )
