-- `kind_of` meets its contract, by the number. Assumes nothing.
use mathlib.Core.Path.{sym}
use native.Mathlib.Omega.{arith}
use lib.ListN.{get_or-eq_default}
use mathlib.Core.List.{[], ◌∷◌}
use Rattle.heap.specs.declared.heap.ResultKind.TheVariants as K
use Rattle.memory_calls.proofs.codes.kind_of.Goals as goal

pub returns-in-0 : goal.returns-in-0
returns-in-0 c = rw c.in-0.is

pub returns-in-1 : goal.returns-in-1
returns-in-1 c = rw c.in-1.is

pub returns-in-2 : goal.returns-in-2
returns-in-2 c = rw c.in-2.is

pub returns-in-3-to-18446744073709551615 : goal.returns-in-3-to-18446744073709551615
returns-in-3-to-18446744073709551615 c = sym (get_or-eq_default (K.None ∷ K.Dyn ∷ K.I64 ∷ []) K.U64 {n = c.args.n} (omega arith))
