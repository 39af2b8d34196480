-- `set_up` meets its contract. Assumes nothing.
use mathlib.Core.Path.{refl, sym, ap, ◌∙◌}
use lib.ListN.{length}
use Rattle.lists.specs.Parts.{pad}
use Rattle.machine_state.proofs.Fresh.{set-up-rep}
use Rattle.machine_state.proofs.setup.set_up.Goals as goal

pub returns : goal.returns
returns c =
    λ s l e sized room.
    set-up-rep s l _ _ _ c.args.given.now c.none.ensures e sized room refl (length c.args.stack.now) (length c.args.frames.now)
    (length c.args.chain.now) (length c.args.saved_stack.now) (length c.args.saved_frames.now) (length c.args.ready.now)
    (length c.args.finalize.now)
    c.clear_tables.ensures.0 c.clear_tables.ensures.1 c.clear_tables.ensures.2
    c.clear_tables.ensures.3 c.clear_tables.ensures.4
    c.clear_words.ensures c.clear_words-2.ensures (c.put_setup.ensures
    ∙ ap (λ n. pad n c.args.given.now) (sym c.put_setup.auto.setup)) c.function_objects.ensures
