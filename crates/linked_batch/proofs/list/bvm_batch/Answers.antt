-- `bvm_batch` meets its contract: no room, refused, or all calls done. Assumes nothing.
use mathlib.Core.Path.{◌≡◌, refl, sym, ap, ◌∙◌}
use mathlib.Core.Bool.{true, false}
use Prim.Native.Nat.{◌*◌, ◌/◌, ◌≤◌}
use native.Mathlib.Omega.{arith}
use lib.ListN.{length}
use Rattle.lists.specs.Pick.{pick_true, pick-false}
use Rattle.memory_world.specs.Memory.{Lent}
use Rattle.memory_world.specs.Lendings.{plain}
use Rattle.outer_call.specs.State.{nine}
use Rattle.outer_run.proofs.Written.{enough}
use Rattle.linked_calls.specs.Host.{Host, host, passes_test, short}
use Rattle.linked_calls.proofs.Others.{run_short, run-refused}
use Rattle.linked_batch.proofs.Going.{no-pass, passed, batch-done}
use Rattle.linked_batch.proofs.list.bvm_batch.Lts as lts
use Rattle.linked_batch.proofs.list.bvm_batch.Reads as reads
use Rattle.linked_batch.proofs.list.bvm_batch.Tie as tie
use Rattle.linked_batch.proofs.list.bvm_batch.Goals as goal

abbrev Start : Type 0
Start = lts.Start tie.the-claims reads.Pre reads.Post

abbrev Else-answers-n : Type 0
Else-answers-n = lts.Else1 tie.the-claims reads.Pre reads.Post

abbrev Else-ok-eq0-2 : Type 0
Else-ok-eq0-2 = lts.Else3 tie.the-claims reads.Pre reads.Post

-- `bvm_batch` meets its contract: no room, refused, or all calls done. Assumes nothing.
abbrev mem : Start → Lent
mem c =
    let a = c.args in
    nine a.stack.now a.frames.now a.chain.now a.slots.now a.saved_stack.now a.saved_frames.now a.ready.now a.finalize.now a.setup.now plain

abbrev of : Start → Host
of c = host (mem c) c.args.machine.now c.args.fuel.now

room : (c : Else-answers-n) → c.count-n.result * 8 ≤ length c.args.answers.now
room c =
    let n = c.count-n.result in let xs = c.args.answers.now in
    enough (length xs) n (let h = c.if-answers-n.false in let z : n ≤ length xs / 8 = omega arith in z)

-- it passed
sure : (c : Else-ok-eq0-2) → passes_test (of c.before.before.before.before.before.before.before.before.before.before.before.before.before.before.before.before.before) ≡ true
sure c = passed _ c.bvm_sound-ok.result c.bvm_sound-ok.ensures c.if-ok-eq0-2.false

pub returns-then-ok-eq0 : goal.returns-then-ok-eq0
returns-then-ok-eq0 c =
    let a = c.args in
    run_short (of c.before.before.before.before.before.before.before.before.before.before.before.before.before.before.before.before.before.before) a.calls.now a.answers.now c.count-n.result c.count-n.ensures c.if-answers-n.true (passes_test (of c.before.before.before.before.before.before.before.before.before.before.before.before.before.before.before.before.before.before)) refl 11
    (sym (ap short (no-pass _ c.bvm_sound-ok.result c.bvm_sound-ok.ensures c.if-ok-eq0.true) ∙ pick-false 14 11))

pub returns-then-answers-n : goal.returns-then-answers-n
returns-then-answers-n c =
    let a = c.args in
    run_short (of c.before.before.before.before.before.before.before.before.before.before.before.before.before.before.before.before.before.before) a.calls.now a.answers.now c.count-n.result c.count-n.ensures c.if-answers-n.true (passes_test (of c.before.before.before.before.before.before.before.before.before.before.before.before.before.before.before.before.before.before)) refl 14
    (sym (ap short (passed _ c.bvm_sound-ok.result c.bvm_sound-ok.ensures c.if-ok-eq0.false) ∙ pick_true 14 11))

pub refuse_list-requires : goal.refuse_list-requires
refuse_list-requires c = room c.before.before.before

pub returns-then-ok-eq0-2 : goal.returns-then-ok-eq0-2
returns-then-ok-eq0-2 c =
    let a = c.args in
    run-refused (of c.before.before.before.before.before.before.before.before.before.before.before.before.before.before.before.before.before.before.before.before.before.before) a.calls.now a.answers.now c.count-n.result c.count-n.ensures (room c.before.before.before.before.before.before) (passes_test (of c.before.before.before.before.before.before.before.before.before.before.before.before.before.before.before.before.before.before.before.before.before.before)) refl
    (no-pass (passes_test (of c.before.before.before.before.before.before.before.before.before.before.before.before.before.before.before.before.before.before.before.before.before.before)) c.bvm_sound-ok.result c.bvm_sound-ok.ensures c.if-ok-eq0-2.true) _ c.refuse_list.ensures

pub do_list-requires : goal.do_list-requires
do_list-requires c = record { sound = sure c.before.before.before.before.before.before.before.before.before.before.before.before; calls = c.count-n.ensures; room = room c.before.before.before.before.before.before.before.before.before.before.before.before.before }

pub shape_of-stack : goal.shape_of-stack
shape_of-stack c = c.do_list.auto.stack

pub shape_of-frames : goal.shape_of-frames
shape_of-frames c = c.do_list.auto.frames

pub shape_of-chain : goal.shape_of-chain
shape_of-chain c = c.do_list.auto.chain

pub shape_of-slots : goal.shape_of-slots
shape_of-slots c = c.do_list.auto.slots

pub shape_of-saved_stack : goal.shape_of-saved_stack
shape_of-saved_stack c = c.do_list.auto.saved_stack

pub shape_of-saved_frames : goal.shape_of-saved_frames
shape_of-saved_frames c = c.do_list.auto.saved_frames

pub shape_of-ready : goal.shape_of-ready
shape_of-ready c = c.do_list.auto.ready

pub shape_of-finalize : goal.shape_of-finalize
shape_of-finalize c = c.do_list.auto.finalize

pub shape_of-machine : goal.shape_of-machine
shape_of-machine c = c.do_list.auto.machine

pub shape_of-fuel : goal.shape_of-fuel
shape_of-fuel c = c.do_list.auto.fuel

pub shape_of-answers : goal.shape_of-answers
shape_of-answers c = c.do_list.auto.answers

pub returns : goal.returns
returns c =
    let a = c.args in
    batch-done (of c.before.before.before.before.before.before.before.before.before.before.before.before.before.before.before.before.before.before.before.before.before.before.before.before.before.before.before.before.before.before.before.before.before.before.before.before.before.before.before.before.before.before.before.before.before.before.before.before.before.before.before.before) a.calls.now a.answers.now c.count-n.result (sure c.before.before.before.before.before.before.before.before.before.before.before.before.before.before.before.before.before.before.before.before.before.before.before.before.before.before.before.before.before.before.before.before.before.before.before) c.count-n.ensures (room c.before.before.before.before.before.before.before.before.before.before.before.before.before.before.before.before.before.before.before.before.before.before.before.before.before.before.before.before.before.before.before.before.before.before.before.before) _ _ c.do_list.ensures
