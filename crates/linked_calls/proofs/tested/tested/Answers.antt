-- `tested` meets its contract: each test fails the whole, and the last decides it. Assumes nothing.
use mathlib.Core.Path.{◌≡◌, sym, ◌∙◌}
use mathlib.Core.Bool.{true}
use Rattle.memory_world.specs.Memory.{Lent}
use Rattle.memory_world.specs.Lendings.{plain}
use Rattle.outer_call.specs.State.{nine}
use Rattle.outer_call.proofs.Stepping.{setup-fits}
use Rattle.linked_calls.specs.Host.{numbers_ok, Host, host}
use Rattle.linked_calls.proofs.Hosts.{long-numbers, fails-numbers, fails-sound, all_tested, read-sound}
use Rattle.linked_calls.proofs.tested.tested.Lts as lts
use Rattle.linked_calls.proofs.tested.tested.Reads as reads
use Rattle.linked_calls.proofs.tested.tested.Tie as tie
use Rattle.linked_calls.proofs.tested.tested.Goals as goal

abbrev Start : Type 0
Start = lts.Start tie.the-claims reads.Pre reads.Post

abbrev Else-not-numbers_ok : Type 0
Else-not-numbers_ok = lts.Else1 tie.the-claims reads.Pre reads.Post

-- `tested` meets its contract: each test fails the whole, and the last decides it. Assumes nothing.
abbrev mem : Start → Lent
mem c = nine c.args.stack.now c.args.frames.now c.args.chain.now c.args.slots.now c.args.saved_stack.now c.args.saved_frames.now c.args.ready.now c.args.finalize.now c.args.setup.now plain

abbrev of : Start → Host
of c = host (mem c) c.args.machine.now c.args.fuel.now

passed : (c : Else-not-numbers_ok) → numbers_ok c.args.machine.now c.args.fuel.now ≡ true
passed c = sym c.numbers_ok.ensures ∙ c.if-not-numbers_ok.false

pub returns-then-not-numbers_ok : goal.returns-then-not-numbers_ok
returns-then-not-numbers_ok c = fails-numbers (of c.before.before.before.before.before.before.before.before.before.before.before.before.before.before) (sym c.numbers_ok.ensures ∙ c.if-not-numbers_ok.true)

pub machine_of-m-requires : goal.machine_of-m-requires
machine_of-m-requires c = let a = c.args in (long-numbers a.machine.now a.fuel.now (passed c.before)).0

pub fuel_of-f-requires : goal.fuel_of-f-requires
fuel_of-f-requires c = let a = c.args in (long-numbers a.machine.now a.fuel.now (passed c.before.before)).1

pub returns-then-not-sound_words : goal.returns-then-not-sound_words
returns-then-not-sound_words c =
    let h = of c.before.before.before.before.before.before.before.before.before.before.before.before.before.before.before.before.before.before in
    fails-sound h (passed c.before.before.before.before.before)
    (sym (read-sound h c.sound_words.result c.machine_of-m.result c.fuel_of-f.result c.machine_of-m.ensures c.fuel_of-f.ensures c.sound_words.ensures)
    ∙ c.if-not-sound_words.true)

pub sizes_held-requires : goal.sizes_held-requires
sizes_held-requires c =
    let a = c.args in
    record {
      numbers = (long-numbers a.machine.now a.fuel.now (passed c.before.before.before.before.before)).0;
      setup = setup-fits (mem c.before.before.before.before.before.before.before.before.before.before.before.before.before.before.before.before.before.before) c.machine_of-m.result c.fuel_of-f.result (sym c.sound_words.ensures ∙ c.if-not-sound_words.false);
    }

pub returns : goal.returns
returns c =
    let h = of c.before.before.before.before.before.before.before.before.before.before.before.before.before.before.before.before.before.before.before in
    c.sizes_held.ensures
    ∙ all_tested h (passed c.before.before.before.before.before.before)
    (sym (read-sound h c.sound_words.result c.machine_of-m.result c.fuel_of-f.result c.machine_of-m.ensures c.fuel_of-f.ensures c.sound_words.ensures)
    ∙ c.if-not-sound_words.false)
