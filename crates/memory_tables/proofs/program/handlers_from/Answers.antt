-- `handlers_from` meets its contract: eight reads. Assumes nothing.
use Rattle.memory_tables.proofs.program.handlers_from.Goals as goal

pub returns : goal.returns
returns c =
    rw (
      c.handler_from.ensures,
      c.handler_from-2.ensures,
      c.handler_from-3.ensures,
      c.handler_from-4.ensures,
      c.handler_from-5.ensures,
      c.handler_from-6.ensures,
      c.handler_from-7.ensures,
      c.handler_from-8.ensures,
    )
