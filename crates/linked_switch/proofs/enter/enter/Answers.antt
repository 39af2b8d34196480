-- `enter` meets the model: a pc stored, an entry, the numbers, and the word that is sent. Assumes nothing.
use mathlib.Core.Path.{◌≡◌, sym, ap, ap₂, ◌∙◌}
use Prim.Native.Nat.{◌+◌}
use native.Mathlib.Omega.{arith}
use lib.ListN.{set}
use Rattle.model.specs.State.{is_created}
use Rattle.memory_world.specs.Memory.{Lent, Beside}
use Rattle.memory_world.specs.Lendings.{lent}
use Rattle.coro_enter.specs.Enter.{grown}
use Rattle.linked_calls.specs.Words.{machine_in}
use Rattle.linked_switch.specs.Words.{entered_over, record_at}
use Rattle.linked_switch.proofs.Fits.{at-fits, sum, fit}
use Rattle.linked_switch.proofs.Storing.{enter-asks, enter-sends, enter-fresh, enter-sent}
use Rattle.linked_switch.proofs.enter.enter.Lts as lts
use Rattle.linked_switch.proofs.enter.enter.Reads as reads
use Rattle.linked_switch.proofs.enter.enter.Tie as tie
use Rattle.linked_switch.proofs.enter.enter.Goals as goal

abbrev After-enter_at : Type 0
After-enter_at = lts.After-enter_at tie.the-claims reads.Pre reads.Post

abbrev After-put_numbers : Type 0
After-put_numbers = lts.After-put_numbers tie.the-claims reads.Pre reads.Post

abbrev After-is_created : Type 0
After-is_created = lts.After-is_created tie.the-claims reads.Pre reads.Post

-- what the entry leaves
abbrev left-words : After-enter_at → Beside → Lent
left-words c = let s = c.enter_at.new in lent s.stack s.frames s.chain s.slots s.saved_stack s.saved_frames

-- what the numbers' words hold
told : (c : After-put_numbers) →
    let a = c.args in c.put_numbers.new.machine ≡ entered_over (grown (machine_in a.machine.now) (record_at a.slots.now a.i)) a.machine.now
told c =
    let ms = c.args.machine.now in
    c.put_numbers.ensures ∙ ap₂ (λ x y. set (set (set ms 0 ((machine_in ms).height + x)) 1 ((machine_in ms).depth + y)) 2 ((machine_in ms).active + 1))
    c.regs_at-regs.ensures c.frames_at-deep.ensures

-- whether it is new, by its state
new : (c : After-is_created) → let a = c.args in c.is_created.result ≡ is_created (record_at a.slots.now a.i).state
new c = c.is_created.ensures ∙ ap is_created c.state_at-state.ensures

pub state_at-state-requires : goal.state_at-state-requires
state_at-state-requires c = (sum (at-fits c.requires)).slot

pub regs_at-regs-requires : goal.regs_at-regs-requires
regs_at-regs-requires c = (sum (at-fits c.requires)).slot

pub frames_at-deep-requires : goal.frames_at-deep-requires
frames_at-deep-requires c = (sum (at-fits c.requires)).slot

pub waiting_at-waiting-requires : goal.waiting_at-waiting-requires
waiting_at-waiting-requires c = (sum (at-fits c.requires)).slot

pub enter_at-requires : goal.enter_at-requires
enter_at-requires c = let s = c.store_pc in enter-asks c.requires s.new.frames s.ensures s.auto.frames

pub bounds-machine-0-2 : goal.bounds-machine-0-2
bounds-machine-0-2 c = let h = c.requires.words in omega (arith, h)

pub overflow_add-height : goal.overflow_add-height
overflow_add-height c =
    let n = c.regs_at-regs.ensures in
    let h = (fit (at-fits c.requires) (omega arith)).on-stack in record { fits = omega (arith, h, n) }

pub bounds-machine-1-3 : goal.bounds-machine-1-3
bounds-machine-1-3 c = let h = c.requires.words in omega (arith, h)

pub overflow_add-depth : goal.overflow_add-depth
overflow_add-depth c =
    let n = c.frames_at-deep.ensures in
    let h = (fit (at-fits c.requires) (omega arith)).entering.on-frames in record { fits = omega (arith, h, n) }

pub bounds-machine-2 : goal.bounds-machine-2
bounds-machine-2 c = let h = c.requires.words in omega (arith, h)

pub overflow_add-active : goal.overflow_add-active
overflow_add-active c = let h = (sum (at-fits c.requires)).chain in record { fits = omega (arith, h) }

pub put_numbers-requires : goal.put_numbers-requires
put_numbers-requires c = c.requires.words

pub send-requires : goal.send-requires
send-requires c =
    let s = c.store_pc in
    enter-sends c.requires s.new.frames s.ensures c.args.dst (left-words c.before.before.before.before.before.before.before.before.before.before.before.before.before.before.before.before.before.before.before.before.before.before.before.before) c.enter_at.ensures _ _ _
    c.regs_at-regs.ensures c.frames_at-deep.ensures c.waiting_at-waiting.ensures (sym (new c.before.before.before.before) ∙ c.if-not-is_created.true)

pub shape_of-frames-then-not-is_created : goal.shape_of-frames-then-not-is_created
shape_of-frames-then-not-is_created c = c.send.auto.frames ∙ c.enter_at.auto.frames ∙ c.store_pc.auto.frames

pub returns-then-not-is_created : goal.returns-then-not-is_created
returns-then-not-is_created c =
    let s = c.store_pc in (
      told c.before.before.before.before.before.before.before.before.before.before.before.before,
      λ w b rep snd. enter-sent c.requires s.new.frames s.ensures c.args.dst (left-words c.before.before.before.before.before.before.before.before.before.before.before.before.before.before.before.before.before.before.before.before.before.before.before.before.before.before.before.before.before) c.enter_at.ensures _ _ _ _
          c.reg-sent.ensures c.regs_at-regs.ensures c.frames_at-deep.ensures c.waiting_at-waiting.ensures
          (sym (new c.before.before.before.before.before.before.before.before.before) ∙ c.if-not-is_created.true) w b _ _ c.send.ensures rep snd,
    )

pub shape_of-frames-else-not-is_created : goal.shape_of-frames-else-not-is_created
shape_of-frames-else-not-is_created c = c.enter_at.auto.frames ∙ c.store_pc.auto.frames

pub returns-else-not-is_created : goal.returns-else-not-is_created
returns-else-not-is_created c =
    let s = c.store_pc in (
      told c.before.before.before.before.before,
      enter-fresh c.requires s.new.frames s.ensures c.args.dst (left-words c.before.before.before.before.before.before.before.before.before.before.before.before.before.before.before.before.before.before.before.before.before.before) c.enter_at.ensures
          (sym (new c.before.before) ∙ c.if-not-is_created.false),
    )
