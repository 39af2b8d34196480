-- `handler_at` meets its contract. Assumes nothing.
use Rattle.std.proofs.Common.{◌≤◌, sym, ap, ◌∙◌, subst}
use Rattle.model.specs.Program.{first_of, func_of}
use Rattle.model.specs.declared.program.Function.{Function}
use Rattle.memory_tables.proofs.program.handler_at.Goals as goal

pub first_handler-requires : goal.first_handler-requires
first_handler-requires c = subst (λ (f : Function). f.count ≤ 8) (sym c.function_at-f.ensures) c.requires.1

pub returns : goal.returns
returns c = c.first_handler.ensures ∙ ap (λ (f : Function). first_of c.args.pc (func_of f).handlers) c.function_at-f.ensures
