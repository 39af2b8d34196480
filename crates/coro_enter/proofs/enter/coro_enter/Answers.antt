-- `coro_enter` meets the model, outcome by outcome. Assumes nothing.
use mathlib.Core.Path.{◌≡◌, sym, ap, ◌∙◌}
use mathlib.Core.List.{List}
use Prim.Native.Nat.{ℕ}
use native.Mathlib.Omega.{arith}
use Rattle.heap.specs.Heap.{slots_of, coro_of, place_of, coro_in}
use Rattle.std.specs.Prelude.{Ok}
use Rattle.heap.specs.declared.object.CoroObj.{CoroObj}
use Rattle.heap.proofs.Place.{none-there, stands, stands-words}
use Rattle.memory_world.specs.Lendings.{lent}
use Rattle.coro_enter.proofs.Entry.{ok-before, ok-moves, ok-sums, not_found, refused, accepted}
use Rattle.coro_enter.proofs.enter.coro_enter.Goals as goal

-- the coroutine that was found, with its record
found : (n : ℕ) (ws : List ℕ) (v i : ℕ) (o : CoroObj) → Ok i ≡ place_of (coro_of (slots_of n ws) v) → o ≡ coro_in ws i → Ok (i, o) ≡ coro_of (slots_of n ws) v
found n ws v i o e p = ap (λ x. Ok (i, x)) p ∙ (stands n ws v i e).coro

pub coro_at-c-requires : goal.coro_at-c-requires
coro_at-c-requires c =
    stands-words c.args.m.count c.args.slots.now c.args.v.0 c.in-Ok.i
    (sym c.in-Ok.is ∙ c.coro_place.ensures) c.requires.rep.slots.within

pub refusal-requires : goal.refusal-requires
refusal-requires c =
    let a = c.args in
    ok-before c.requires a.v.0 (found a.m.count a.slots.now a.v.0 c.in-Ok.i c.coro_at-c.result (sym c.in-Ok.is ∙ c.coro_place.ensures) c.coro_at-c.ensures)

pub returns-in-Err-refusal : goal.returns-in-Err-refusal
returns-in-Err-refusal c =
    let a = c.args in
    λ w b rep snd. refused a.sizes (lent a.stack.now a.frames.now a.chain.now a.slots.now a.saved_stack.now a.saved_frames.now b) a.m b.fuel a.v.0 w rep c.in-Ok.i c.coro_at-c.result
    (found a.m.count a.slots.now a.v.0 c.in-Ok.i c.coro_at-c.result (sym c.in-Ok.is ∙ c.coro_place.ensures) c.coro_at-c.ensures)
    a.d c.in-Err-refusal.fault (sym c.in-Err-refusal.is ∙ c.refusal.ensures)

pub move_in-requires : goal.move_in-requires
move_in-requires c =
    let a = c.args in
    ok-moves c.requires a.v.0 (found a.m.count a.slots.now a.v.0 c.in-Ok.i c.coro_at-c.result (sym c.in-Ok.is ∙ c.coro_place.ensures) c.coro_at-c.ensures)
    (sym c.in-Ok-refusal.is ∙ c.refusal.ensures) (omega (arith, c.well_formed))

pub push_active-requires : goal.push_active-requires
push_active-requires c =
    let a = c.args in
    (ok-sums c.requires a.v.0 (found a.m.count a.slots.now a.v.0 c.in-Ok.i c.coro_at-c.result (sym c.in-Ok.is ∙ c.coro_place.ensures) c.coro_at-c.ensures) (sym c.in-Ok-refusal.is ∙ c.refusal.ensures)).chain

pub put_entered-requires : goal.put_entered-requires
put_entered-requires c =
    let a = c.args in
    (ok-sums c.requires a.v.0 (found a.m.count a.slots.now a.v.0 c.in-Ok.i c.coro_at-c.result (sym c.in-Ok.is ∙ c.coro_place.ensures) c.coro_at-c.ensures) (sym c.in-Ok-refusal.is ∙ c.refusal.ensures)).slot

pub entered-requires : goal.entered-requires
entered-requires c =
    let a = c.args in
    let s = ok-sums c.requires a.v.0 (found a.m.count a.slots.now a.v.0 c.in-Ok.i c.coro_at-c.result (sym c.in-Ok.is ∙ c.coro_place.ensures) c.coro_at-c.ensures) (sym c.in-Ok-refusal.is ∙ c.refusal.ensures) in
    let h₁ = s.height in let h₂ = s.depth in let h₃ = s.active in
    (omega (arith, h₁), omega (arith, h₂), omega (arith, h₃))

pub returns-in-Err : goal.returns-in-Err
returns-in-Err c =
    let a = c.args in
    λ w b rep snd. not_found a.sizes (lent a.stack.now a.frames.now a.chain.now a.slots.now a.saved_stack.now a.saved_frames.now b) a.m b.fuel a.v.0 w rep a.d
    _ (none-there (coro_of (slots_of a.m.count a.slots.now) a.v.0) c.in-Err.f
    (sym c.in-Err.is ∙ c.coro_place.ensures))

pub returns-in-Ok-refusal : goal.returns-in-Ok-refusal
returns-in-Ok-refusal c =
    let a = c.args in
    λ w b rep snd. accepted a.sizes (lent a.stack.now a.frames.now a.chain.now a.slots.now a.saved_stack.now a.saved_frames.now b) a.m b.fuel a.v.0 w rep c.in-Ok.i c.coro_at-c.result
    (found a.m.count a.slots.now a.v.0 c.in-Ok.i c.coro_at-c.result (sym c.in-Ok.is ∙ c.coro_place.ensures) c.coro_at-c.ensures)
    snd tt (sym c.in-Ok-refusal.is ∙ c.refusal.ensures) a.d _ _ _ _ _ _ c.entered.result c.entered_as.result
    c.move_in.ensures c.push_active.ensures c.put_entered.ensures c.entered_as.ensures c.entered.ensures
