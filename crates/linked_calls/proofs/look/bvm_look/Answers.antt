-- `bvm_look` meets its contract: by the test and by room for the two places. Assumes nothing.
use mathlib.Core.Path.{sym, ◌∙◌}
use native.Mathlib.Omega.{arith}
use lib.ListN.{length-set}
use Rattle.memory_world.specs.Memory.{Lent}
use Rattle.memory_world.specs.Lendings.{plain}
use Rattle.outer_call.specs.State.{nine}
use Rattle.linked_calls.specs.Host.{Host, host}
use Rattle.linked_calls.proofs.Others.{look-short, looked-at, not-looked}
use Rattle.linked_calls.proofs.look.bvm_look.Lts as lts
use Rattle.linked_calls.proofs.look.bvm_look.Reads as reads
use Rattle.linked_calls.proofs.look.bvm_look.Tie as tie
use Rattle.linked_calls.proofs.look.bvm_look.Goals as goal

abbrev Start : Type 0
Start = lts.Start tie.the-claims reads.Pre reads.Post

-- `bvm_look` meets its contract: by the test and by room for the two places. Assumes nothing.
abbrev mem : Start → Lent
mem c = nine c.args.stack.now c.args.frames.now c.args.chain.now c.args.slots.now c.args.saved_stack.now c.args.saved_frames.now c.args.ready.now c.args.finalize.now c.args.setup.now plain

abbrev of : Start → Host
of c = host (mem c) c.args.machine.now c.args.fuel.now

pub returns-then-span-lt-SPAN_WIDTH : goal.returns-then-span-lt-SPAN_WIDTH
returns-then-span-lt-SPAN_WIDTH c = look-short (of c.before.before.before.before.before.before.before.before.before.before.before.before.before.before.before.before) c.args.span.now c.if-span-lt-SPAN_WIDTH.true c.tested-ok.result c.tested-ok.ensures c.short.result c.short.ensures

pub bounds-span-0 : goal.bounds-span-0
bounds-span-0 c = let h = c.if-span-lt-SPAN_WIDTH.false in omega arith

pub bounds-span-1 : goal.bounds-span-1
bounds-span-1 c = let h = c.if-span-lt-SPAN_WIDTH.false in simp length-set (omega arith)

pub returns-then-not-ok : goal.returns-then-not-ok
returns-then-not-ok c = not-looked (of c.before.before.before.before.before.before.before.before.before.before.before.before.before.before.before.before) c.args.span.now c.if-span-lt-SPAN_WIDTH.false c.tested-ok.result c.tested-ok.ensures c.if-not-ok.true

pub span_in-s-requires : goal.span_in-s-requires
span_in-s-requires c = sym c.tested-ok.ensures ∙ c.if-not-ok.false

pub bounds-span-0-2 : goal.bounds-span-0-2
bounds-span-0-2 c = let h = c.if-span-lt-SPAN_WIDTH.false in omega arith

pub bounds-span-1-2 : goal.bounds-span-1-2
bounds-span-1-2 c = let h = c.if-span-lt-SPAN_WIDTH.false in simp length-set (omega arith)

pub returns : goal.returns
returns c = looked-at (of c.before.before.before.before.before.before.before.before.before.before.before.before.before.before.before.before.before) c.args.span.now c.if-span-lt-SPAN_WIDTH.false c.tested-ok.result c.tested-ok.ensures c.if-not-ok.false c.span_in-s.result c.span_in-s.ensures
