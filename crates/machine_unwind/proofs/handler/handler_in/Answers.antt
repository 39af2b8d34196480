-- `handler_in` meets its contract: the words of the top frame, and the search in its function's record. Assumes nothing.
use mathlib.Core.Path.{sym, ap₂, ◌∙◌, subst}
use Prim.Native.Nat.{◌+◌, ◌*◌, ◌≤◌}
use lib.ListN.{length}
use Rattle.model.specs.Program.{first_of, func_of}
use Rattle.memory_tables.specs.Layout.{function_in}
use Rattle.machine_unwind.specs.Fits.{frame_setup}
use Rattle.memory_world.specs.Lendings.{plain}
use Rattle.machine_unwind.proofs.Handlers.{handler-read}
use Rattle.machine_unwind.proofs.handler.handler_in.Goals as goal

pub handler_at-requires : goal.handler_at-requires
handler_at-requires c =
    let e = c.func_at-f.ensures in let setup = c.args.setup.now in
    (subst (λ i. 14 + i * 35 + 35 ≤ length setup) (sym e) c.requires.there, subst (λ i. (function_in setup i).count ≤ 8) (sym e) c.requires.few)

pub returns : goal.returns
returns c =
    let a = c.args in
    λ l w b rep.
    handler-read l (frame_setup a.frames.now a.setup.now plain b) a.m b.fuel w rep c.requires c.handler_at.result
    (c.handler_at.ensures ∙ ap₂ (λ i p. first_of p (func_of (function_in a.setup.now i)).handlers) c.func_at-f.ensures c.pc_at-pc.ensures)
