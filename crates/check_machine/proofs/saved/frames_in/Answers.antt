-- `frames_in` meets its contract, by the coroutine's state. Assumes nothing.
use mathlib.Core.Path.{sym, ◌∙◌}
use Rattle.memory_world.specs.Decode.{setup_of}
use Rattle.check_machine.proofs.Waiting.{resumable-frames, has-frames, has-regs, has-none}
use Rattle.check_machine.proofs.saved.frames_in.Goals as goal

pub returns-then-is_resumable : goal.returns-then-is_resumable
returns-then-is_resumable c =
    let a = c.args in
    c.frames_saved.ensures ∙ sym
    (resumable-frames (setup_of a.setup.now) a.ws.now a.c (sym c.is_resumable.ensures ∙ c.if-is_resumable.true))

pub returns-then-c-ne0 : goal.returns-then-c-ne0
returns-then-c-ne0 c =
    let a = c.args in
    has-frames (setup_of a.setup.now) a.ws.now a.c (sym c.is_resumable.ensures ∙ c.if-is_resumable.false) c.if-c-ne0.true

pub returns-then-c-ne0-2 : goal.returns-then-c-ne0-2
returns-then-c-ne0-2 c =
    let a = c.args in
    has-regs (setup_of a.setup.now) a.ws.now a.c (sym c.is_resumable.ensures ∙ c.if-is_resumable.false) c.if-c-ne0.false
    c.if-c-ne0-2.true

pub returns : goal.returns
returns c =
    let a = c.args in
    has-none (setup_of a.setup.now) a.ws.now a.c (sym c.is_resumable.ensures ∙ c.if-is_resumable.false) c.if-c-ne0.false
    c.if-c-ne0-2.false c.rest_ok.result c.rest_ok.ensures
