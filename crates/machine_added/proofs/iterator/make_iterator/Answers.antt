-- `make_iterator` meets its contract: refused, or an object made. Assumes nothing.
use mathlib.Core.Path.{refl, sym, ap, ◌∙◌}
use mathlib.Core.Bool.{false}
use Rattle.std.specs.Prelude.{None}
use Rattle.model.specs.Object.{Object}
use Rattle.machine_state.proofs.Allocation.{heap-room}
use Rattle.machine_added.proofs.Iterators.{not-over, over}
use Rattle.machine_added.proofs.iterator.make_iterator.Goals as goal

pub alloc_plain-did-requires : goal.alloc_plain-did-requires
alloc_plain-did-requires c = heap-room c.requires.rep c.requires.sound c.requires.room

pub returns-in-Err : goal.returns-in-Err
returns-in-Err c = λ w b rep snd. not-over c.args.sizes _ c.args.m b.fuel w c.args.v _ (sym c.in-Err.is ∙ c.coro_state.ensures c.args.sizes w b rep) rep

pub returns-in-Ok : goal.returns-in-Ok
returns-in-Ok c =
    λ w b rep snd. over c.args.sizes _ _ b.fuel w c.args.v _ _ _ c.args.sizes.costs.iter
    (sym c.in-Ok.is ∙ c.coro_state.ensures c.args.sizes w b rep) (ap (λ k. k.iter) rep.sizes.costs) c.made_as.ensures
    (c.alloc_plain-did.ensures (Object.Iter c.args.v false None) refl refl w b rep)
