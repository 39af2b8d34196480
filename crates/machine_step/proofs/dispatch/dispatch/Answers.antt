-- `dispatch` meets the definition, by the operation. Assumes nothing.
use borrow.Enum.Refused.{opened}
use mathlib.Core.Path.{refl}
use Rattle.exec_arm.proofs.Fitting.{around}
use Rattle.machine_step.proofs.Calls.{as_row, as_same, as-instruction, made_of, lent_ok}
use Rattle.machine_step.proofs.Ranges.{unwind-narrow, are-instructions}
use Rattle.machine_step.proofs.dispatch.dispatch.Goals as goal

pub finish-did-requires : goal.finish-did-requires
finish-did-requires c = let ok = c.requires.ok in lent_ok ok ok.rep ok.room

pub unwind-did-requires : goal.unwind-did-requires
unwind-did-requires c =
    let ok = c.requires.ok in
    record { ok = lent_ok ok ok.rep ok.room; narrow = unwind-narrow c.args.op _ _ c.in-Unwind.is c.requires.within }

pub spawn_task-did-requires : goal.spawn_task-did-requires
spawn_task-did-requires c = let ok = c.requires.ok in record { sizes = c.args.sizes; ok = lent_ok ok ok.rep ok.room }

pub host_call-did-requires : goal.host_call-did-requires
host_call-did-requires c = let ok = c.requires.ok in lent_ok ok ok.rep ok.room

pub host_entry-did-requires : goal.host_entry-did-requires
host_entry-did-requires c = let ok = c.requires.ok in lent_ok ok ok.rep ok.room

pub function_call-did-requires : goal.function_call-did-requires
function_call-did-requires c = let ok = c.requires.ok in lent_ok ok ok.rep ok.room

pub put_word-answer-requires : goal.put_word-answer-requires
put_word-answer-requires c = let ok = c.requires.ok in lent_ok ok ok.rep ok.room

pub make_iterator-did-requires : goal.make_iterator-did-requires
make_iterator-did-requires c = let ok = c.requires.ok in lent_ok ok ok.rep ok.room

pub hand_over-did-requires : goal.hand_over-did-requires
hand_over-did-requires c = let ok = c.requires.ok in record { sizes = c.args.sizes; ok = lent_ok ok ok.rep ok.room }

pub stop_run-did-requires : goal.stop_run-did-requires
stop_run-did-requires c = let ok = c.requires.ok in lent_ok ok ok.rep ok.room

pub instruction-requires : goal.instruction-requires
instruction-requires c = let ok = c.requires.ok in lent_ok ok ok.rep ok.room

pub shape_of-stack-in-Finish : goal.shape_of-stack-in-Finish
shape_of-stack-in-Finish c = search

pub shape_of-frames-in-Finish : goal.shape_of-frames-in-Finish
shape_of-frames-in-Finish c = search

pub shape_of-chain-in-Finish : goal.shape_of-chain-in-Finish
shape_of-chain-in-Finish c = search

pub shape_of-slots-in-Finish : goal.shape_of-slots-in-Finish
shape_of-slots-in-Finish c = search

pub shape_of-saved_stack-in-Finish : goal.shape_of-saved_stack-in-Finish
shape_of-saved_stack-in-Finish c = search

pub shape_of-saved_frames-in-Finish : goal.shape_of-saved_frames-in-Finish
shape_of-saved_frames-in-Finish c = search

pub returns-in-Finish : goal.returns-in-Finish
returns-in-Finish c = λ w b rep snd. as_row w c.in-Finish.is (c.finish-did.ensures w (around rep) rep snd)

pub shape_of-stack-in-Unwind : goal.shape_of-stack-in-Unwind
shape_of-stack-in-Unwind c = search

pub shape_of-frames-in-Unwind : goal.shape_of-frames-in-Unwind
shape_of-frames-in-Unwind c = search

pub shape_of-chain-in-Unwind : goal.shape_of-chain-in-Unwind
shape_of-chain-in-Unwind c = search

pub shape_of-slots-in-Unwind : goal.shape_of-slots-in-Unwind
shape_of-slots-in-Unwind c = search

pub shape_of-saved_stack-in-Unwind : goal.shape_of-saved_stack-in-Unwind
shape_of-saved_stack-in-Unwind c = search

pub shape_of-saved_frames-in-Unwind : goal.shape_of-saved_frames-in-Unwind
shape_of-saved_frames-in-Unwind c = search

pub returns-in-Unwind : goal.returns-in-Unwind
returns-in-Unwind c = λ w b rep snd. as_row w c.in-Unwind.is (c.unwind-did.ensures w (around rep) rep snd)

pub shape_of-slots-in-SpawnTask : goal.shape_of-slots-in-SpawnTask
shape_of-slots-in-SpawnTask c = search

pub shape_of-ready : goal.shape_of-ready
shape_of-ready c = search

pub returns-in-SpawnTask : goal.returns-in-SpawnTask
returns-in-SpawnTask c = λ w b rep snd. as_row w c.in-SpawnTask.is (made_of (c.spawn_task-did.ensures _ w (around rep) rep) c.made_as-answer.ensures)

pub shape_of-stack-in-HostCall : goal.shape_of-stack-in-HostCall
shape_of-stack-in-HostCall c = search

pub shape_of-frames-in-HostCall : goal.shape_of-frames-in-HostCall
shape_of-frames-in-HostCall c = search

pub returns-in-HostCall : goal.returns-in-HostCall
returns-in-HostCall c = λ w b rep snd. as_same w c.in-HostCall.is (c.host_call-did.ensures w (around rep) rep snd)

pub shape_of-stack-in-HostEntry : goal.shape_of-stack-in-HostEntry
shape_of-stack-in-HostEntry c = search

pub shape_of-frames-in-HostEntry : goal.shape_of-frames-in-HostEntry
shape_of-frames-in-HostEntry c = search

pub shape_of-chain-in-HostEntry : goal.shape_of-chain-in-HostEntry
shape_of-chain-in-HostEntry c = search

pub shape_of-slots-in-HostEntry : goal.shape_of-slots-in-HostEntry
shape_of-slots-in-HostEntry c = search

pub shape_of-saved_stack-in-HostEntry : goal.shape_of-saved_stack-in-HostEntry
shape_of-saved_stack-in-HostEntry c = search

pub shape_of-saved_frames-in-HostEntry : goal.shape_of-saved_frames-in-HostEntry
shape_of-saved_frames-in-HostEntry c = search

pub returns-in-HostEntry : goal.returns-in-HostEntry
returns-in-HostEntry c = λ w b rep snd. as_same w c.in-HostEntry.is (c.host_entry-did.ensures w (around rep) rep snd)

pub shape_of-stack-in-FunctionCall : goal.shape_of-stack-in-FunctionCall
shape_of-stack-in-FunctionCall c = search

pub shape_of-frames-in-FunctionCall : goal.shape_of-frames-in-FunctionCall
shape_of-frames-in-FunctionCall c = search

pub returns-in-FunctionCall : goal.returns-in-FunctionCall
returns-in-FunctionCall c = λ w b rep snd. as_same w c.in-FunctionCall.is (c.function_call-did.ensures w (around rep) rep snd)

pub shape_of-stack-in-PutWord : goal.shape_of-stack-in-PutWord
shape_of-stack-in-PutWord c = search

pub shape_of-frames-in-PutWord : goal.shape_of-frames-in-PutWord
shape_of-frames-in-PutWord c = search

pub returns-in-PutWord : goal.returns-in-PutWord
returns-in-PutWord c = λ w b rep snd. as_same w c.in-PutWord.is (c.put_word-answer.ensures w (around rep) rep snd)

pub shape_of-slots-in-MakeIterator : goal.shape_of-slots-in-MakeIterator
shape_of-slots-in-MakeIterator c = search

pub returns-in-MakeIterator : goal.returns-in-MakeIterator
returns-in-MakeIterator c = λ w b rep snd. as_row w c.in-MakeIterator.is (c.make_iterator-did.ensures w (around rep) rep snd)

pub returns-in-TakeOutcome : goal.returns-in-TakeOutcome
returns-in-TakeOutcome c = λ w b rep snd. as_row w c.in-TakeOutcome.is (c.take_outcome-did.ensures _ w (around rep) rep)

pub shape_of-slots-in-HandOver : goal.shape_of-slots-in-HandOver
shape_of-slots-in-HandOver c = search

pub shape_of-finalize-in-HandOver : goal.shape_of-finalize-in-HandOver
shape_of-finalize-in-HandOver c = search

pub returns-in-HandOver : goal.returns-in-HandOver
returns-in-HandOver c = λ w b rep snd. as_row w c.in-HandOver.is (c.hand_over-did.ensures _ w (around rep) rep)

pub returns-in-Grant : goal.returns-in-Grant
returns-in-Grant c = λ w b rep snd. as_row w c.in-Grant.is (c.grant-did.ensures _ w (around rep) rep)

pub shape_of-stack-in-StopRun : goal.shape_of-stack-in-StopRun
shape_of-stack-in-StopRun c = search

pub shape_of-frames-in-StopRun : goal.shape_of-frames-in-StopRun
shape_of-frames-in-StopRun c = search

pub shape_of-chain-in-StopRun : goal.shape_of-chain-in-StopRun
shape_of-chain-in-StopRun c = search

pub shape_of-slots-in-StopRun : goal.shape_of-slots-in-StopRun
shape_of-slots-in-StopRun c = search

pub shape_of-saved_stack-in-StopRun : goal.shape_of-saved_stack-in-StopRun
shape_of-saved_stack-in-StopRun c = search

pub shape_of-saved_frames-in-StopRun : goal.shape_of-saved_frames-in-StopRun
shape_of-saved_frames-in-StopRun c = search

pub returns-in-StopRun : goal.returns-in-StopRun
returns-in-StopRun c = λ w b rep snd. as_row w c.in-StopRun.is (c.stop_run-did.ensures w (around rep) rep snd)

pub returns-in-Look : goal.returns-in-Look
returns-in-Look c = λ w b rep snd. as_row w c.in-Look.is (record { world = rep; answer = refl })

pub shape_of-stack-in_default : goal.shape_of-stack-in_default
shape_of-stack-in_default c = search

pub shape_of-frames-in_default : goal.shape_of-frames-in_default
shape_of-frames-in_default c = search

pub shape_of-chain-in_default : goal.shape_of-chain-in_default
shape_of-chain-in_default c = search

pub shape_of-slots-in_default : goal.shape_of-slots-in_default
shape_of-slots-in_default c = search

pub shape_of-saved_stack-in_default : goal.shape_of-saved_stack-in_default
shape_of-saved_stack-in_default c = search

pub shape_of-saved_frames-in_default : goal.shape_of-saved_frames-in_default
shape_of-saved_frames-in_default c = search

pub shape_of-finalize-in_default : goal.shape_of-finalize-in_default
shape_of-finalize-in_default c = search

pub returns-in_default : goal.returns-in_default
returns-in_default c =
    let o = c.args.op in
    λ w b rep snd. as-instruction _ _ _ _ w o _ (are-instructions o (opened c.in_default.in_default-own.keys14)) (λ pc t arm q. c.instruction.ensures pc t arm q w (around rep) rep snd)
