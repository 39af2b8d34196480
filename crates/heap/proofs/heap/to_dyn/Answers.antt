-- `to_dyn` meets its contract, by the kind of the result. Assumes nothing.
use mathlib.Core.Path.{ap, sym, ◌∙◌}
use Prim.Native.Nat.{ℕ}
use Rattle.heap.specs.Heap.{out, to_dyn}
use Rattle.heap.specs.declared.heap.ResultKind.{ResultKind}
use Rattle.std.specs.Prelude.{Ok}
use Rattle.heap.proofs.heap.to_dyn.Goals as goal

pub returns-in-None : goal.returns-in-None
returns-in-None c =
    let a = c.args in
    ap (λ (w : ℕ). out (Ok (record { 0 = w }, a.h)) a.slots.now) c.nil.ensures
    ∙ ap (λ (k : ResultKind). to_dyn k a.slots.now a.h a.bytes a.n) (sym c.in-None.is)

pub returns-in-Dyn : goal.returns-in-Dyn
returns-in-Dyn c = let a = c.args in ap (λ (k : ResultKind). to_dyn k a.slots.now a.h a.bytes a.n) (sym c.in-Dyn.is)

pub returns-in-I64 : goal.returns-in-I64
returns-in-I64 c = let a = c.args in c.int_to_dyn.ensures ∙ ap (λ (k : ResultKind). to_dyn k a.slots.now a.h a.bytes a.n) (sym c.in-I64.is)

pub returns-in-U64 : goal.returns-in-U64
returns-in-U64 c = let a = c.args in c.int_to_dyn-in-U64.ensures ∙ ap (λ (k : ResultKind). to_dyn k a.slots.now a.h a.bytes a.n) (sym c.in-U64.is)
