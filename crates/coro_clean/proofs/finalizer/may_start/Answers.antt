-- `may_start` meets its contract: no coroutine, one that is not suspended, one that is. Assumes nothing.
use mathlib.Core.Path.{◌≡◌, sym, ap, ◌∙◌}
use mathlib.Core.List.{List}
use Prim.Native.Nat.{ℕ}
use Rattle.heap.specs.Heap.{slots_of, coro_of, place_of, coro_in}
use Rattle.heap.specs.declared.object.CoroObj.{CoroObj}
use Rattle.std.specs.Prelude.{Ok}
use Rattle.heap.proofs.Place.{none-there, stands, stands-words}
use Rattle.coro_clean.proofs.Search.{starts-not, starts-not-suspended, starts-suspended}
use Rattle.coro_clean.proofs.finalizer.may_start.Goals as goal

-- the coroutine that was found, with its record
found : (n : ℕ) (ws : List ℕ) (v i : ℕ) (o : CoroObj) → Ok i ≡ place_of (coro_of (slots_of n ws) v) → o ≡ coro_in ws i → Ok (i, o) ≡ coro_of (slots_of n ws) v
found n ws v i o e p = ap (λ x. Ok (i, x)) p ∙ (stands n ws v i e).coro

pub coro_at-c-requires : goal.coro_at-c-requires
coro_at-c-requires c = stands-words c.args.m.count c.args.slots.now c.args.v.0 c.in-Ok.i (sym c.in-Ok.is ∙ c.coro_place.ensures) c.requires.table

pub returns-then-not-is_suspended : goal.returns-then-not-is_suspended
returns-then-not-is_suspended c =
    let a = c.args in
    starts-not-suspended a.slots.now a.m a.sizes a.v.0 c.in-Ok.i c.coro_at-c.result
    (found a.m.count a.slots.now a.v.0 c.in-Ok.i c.coro_at-c.result (sym c.in-Ok.is ∙ c.coro_place.ensures) c.coro_at-c.ensures)
    (sym c.is_suspended.ensures ∙ c.if-not-is_suspended.true)

pub returns-in-Err : goal.returns-in-Err
returns-in-Err c =
    starts-not c.args.slots.now c.args.m c.args.sizes c.args.v.0 _
    (none-there (coro_of (slots_of c.args.m.count c.args.slots.now) c.args.v.0) _ (sym c.in-Err.is ∙ c.coro_place.ensures))

pub returns-else-not-is_suspended : goal.returns-else-not-is_suspended
returns-else-not-is_suspended c =
    let a = c.args in
    c.is_ok.ensures.value
    ∙ starts-suspended a.slots.now a.m a.sizes a.v.0 c.in-Ok.i c.coro_at-c.result
    (found a.m.count a.slots.now a.v.0 c.in-Ok.i c.coro_at-c.result (sym c.in-Ok.is ∙ c.coro_place.ensures) c.coro_at-c.ensures)
    c.refusal.result
    (sym c.is_suspended.ensures ∙ c.if-not-is_suspended.false) c.refusal.ensures
