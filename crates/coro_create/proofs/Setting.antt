-- What a creation knows of the set-up: its function's registers, and numbers that are small. Assumes nothing.
use Rattle.std.proofs.Common.{◌≡◌, ℕ, ◌+◌, ◌*◌, ◌^◌, ◌<◌, ◌≤◌, true, false, ◌&&◌, leb, length, get_or, sym, ap, subst, arith, ltb-true, leb-true}
use Rattle.model.specs.Lists.{each}
use Rattle.model.specs.Program.{Func, Setup, func, no_func, is_function, function_ok, handler_ok}
use Rattle.model.specs.World.{World}
use Rattle.model.specs.Sound.{sound}
use Rattle.model.specs.declared.machine.Fuel.{Fuel}
use Rattle.claims_sound.proofs.Tests.{and_left, no_false, each_at}
use Rattle.claims_sound.proofs.Sound.{Sound, sound→, facts}
use Rattle.memory_tables.specs.Layout.{function_in}
use Rattle.memory_tables.proofs.Setups.{functions-in, regs-in}
use Rattle.memory_world.specs.Memory.{Lent, Rep, Room}
use Rattle.memory_world.specs.declared.machine.Machine.{Machine}
use Rattle.memory_world.specs.declared.machine.Sizes.{Sizes}
use Rattle.coro_create.specs.Create.{bytes_of}

-- "registers 0-256"
narrow : (f : Func) → function_ok f ≡ true → f.regs ≤ 256
narrow f h =
    let a = leb f.regs 256 in
    let b = leb f.params f.regs in
    let c = leb (length f.handlers) 8 in
    leb-true f.regs 256 (and_left a b (and_left (a && b) c (and_left (a && b && c) (each (handler_ok f.regs) f.handlers) h)))

-- ---- the function of a creation, in one world that the words stand for

pub known : (w : World) → sound w ≡ true → Sound false w
known w snd = sound→ w snd (λ z. no_false z)

-- the sizes of a sound world, and the bytes of a coroutine
pub record Numbers (l : Sizes) (regs : ℕ) : Type 0 where
  pub rows : l.rows ≤ 64
  pub slots : l.slots ≤ 4096
  pub deep : 1 ≤ l.depth
  pub first : bytes_of regs l.costs.coro l.costs.frame < 2 ^ 64
  pub second : bytes_of regs l.costs.object l.costs.frame < 2 ^ 64

module _ (l : Sizes) (M : Lent) (m : Machine) (fu : Fuel) (w : World) (rep : Rep l w M m fu) (f : ℕ) where
  abbrev s : Setup
  s = w.setup

  -- a function of the world is one of the words
  pub named_in : is_function s f ≡ true → f < get_or M.setup 13 0
  named_in e = subst (λ n. f < n) (sym (functions-in s M.setup rep.setup)) (ltb-true f (length s.functions) e)

  module _ (snd : sound w ≡ true) (named : f < get_or M.setup 13 0) where
    pub one_of : f < length s.functions
    one_of = subst (λ n. f < n) (functions-in s M.setup rep.setup) named

    is-narrow : (func s f).regs ≤ 256
    is-narrow = narrow (func s f) (each_at function_ok s.functions f no_func (facts s (known w snd).setup).functions one_of)

    pub regs-is : (function_in M.setup f).regs ≡ (func s f).regs
    regs-is = regs-in s M.setup rep.setup f named

    pub numbers : (regs : ℕ) → regs ≡ (function_in M.setup f).regs → Numbers l regs
    numbers regs e =
        let k = facts s (known w snd).setup in
        let g = facts s (known w snd).setup in
        let r = is-narrow in
        let ei = regs-is in
        let k₁ = k.rows in
        let k₂ = k.frame in
        let k₃ = k.coro in
        let k₄ = k.object in
        let g₁ = g.deep in
        let g₂ = g.slots in
        let z₁ = rep.sizes.rows in
        let z₂ = rep.sizes.slots in
        let z₃ = rep.sizes.depth in
        let c = rep.sizes.costs in
        let c₁ : l.costs.frame ≡ s.costs.frame = ap (λ x. x.frame) c in
        let c₂ : l.costs.coro ≡ s.costs.coro = ap (λ x. x.coro) c in
        let c₃ : l.costs.object ≡ s.costs.object = ap (λ x. x.object) c in
        record { rows = omega arith; slots = omega arith; deep = omega arith; first = omega arith; second = omega arith }

    -- the function's first word
    pub in-setup : Room s M → 14 + f * 35 < length M.setup
    in-setup room = let r = room.setup in let o = one_of in omega arith
