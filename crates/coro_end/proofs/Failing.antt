-- Every active coroutine fails, one after the other, from the innermost on. Assumes nothing.
use mathlib.Core.Path.{◌≡◌, refl, sym, ap, ◌∙◌, subst}
use mathlib.Core.Bool.{false}
use mathlib.Core.List.{List, [], ◌∷◌}
use Prim.Native.Nat.{ℕ, ◌≤◌, ◌<◌}
use native.Mathlib.Omega.{arith}
use lib.ListN.{length}
use Rattle.heap.specs.Word.{nil}
use Rattle.heap.specs.declared.object.CoroState.{CoroState}
use Rattle.model.specs.Object.{Coroutine, Absent, Is}
use Rattle.model.specs.World.{World, with_chain}
use Rattle.model.specs.Heap.{coro, change_as}
use Rattle.model.specs.Coro.{in_state, ended, finish_coroutine, fail_all, abort_coros}
use Rattle.model.specs.Fuel.{set_finalizing}
use Rattle.model.specs.declared.machine.Active.{Active}
use Rattle.model.specs.declared.machine.Fuel.{Fuel}
use Rattle.std.specs.Prelude.{None}
use Rattle.memory_tables.specs.Parts.{Chain}
use Rattle.memory_world.specs.Memory.{Lent, Beside, Rep}
use Rattle.memory_world.specs.Contract.{SomeWorld, Turns, if_rowed, only}
use Rattle.memory_world.specs.Numbers.{with_told}
use Rattle.memory_world.specs.Told.{told}
use Rattle.memory_world.specs.declared.machine.Machine.{Machine}
use Rattle.memory_world.specs.declared.machine.Sizes.{Sizes}
use Rattle.memory_world.specs.declared.machine.Told.{Told}
use Rattle.memory_world.proofs.Turn.{turn-chain, turn-outcome}
use Rattle.memory_world.proofs.Does.{SameLengths, alike, then-alike}
use Rattle.coro_end.specs.Last.{InRows, end_on, end_last, fail_active}
use Rattle.coro_end.proofs.Innermost.{none_here, end-rowed}

-- ---- an end does not look at the chain

chain-apart : (v : ℕ) (s : CoroState) (result : ℕ) (cs : List Active) (w : World) → finish_coroutine v s result (with_chain cs w) ≡ with_chain cs (finish_coroutine v s result w)
chain-apart v s result cs w = go (coro w v)
  where
    go : (o : Coroutine) → change_as o v (in_state s) (ended result) (with_chain cs w) ≡ with_chain cs (change_as o v (in_state s) (ended result) w)
    go Absent = refl
    go (Is k r) = refl

all_apart : (ds cs : List Active) (w : World) → with_chain [] (fail_all ds (with_chain cs w)) ≡ with_chain [] (fail_all ds w)
all_apart [] cs w = refl
all_apart (a ∷ ds) cs w =
    ap (λ u. with_chain [] (fail_all ds u)) (chain-apart a.coro CoroState.Failed nil cs w) ∙ all_apart ds cs (finish_coroutine a.coro CoroState.Failed nil w)

-- the innermost one first, then the others
fail-next : (w : World) (cs : List Active) → 1 ≤ length cs → fail_active (end_on cs CoroState.Failed nil w) ≡ with_chain [] (fail_all cs w)
fail-next w [] h = absurd (omega arith)
fail-next w (a ∷ cs) h =
    ap fail_active (chain-apart a.coro CoroState.Failed nil cs w) ∙ all_apart cs cs (finish_coroutine a.coro CoroState.Failed nil w)

shorter : (w : World) (cs : List Active) → 1 ≤ length cs → length (end_on cs CoroState.Failed nil w).chain < length cs
shorter w [] h = absurd (omega arith)
shorter w (a ∷ cs) h =
    let e : length (finish_coroutine a.coro CoroState.Failed nil (with_chain cs w)).chain ≡ length cs = ap (λ (u : World). length u.chain) (chain-apart a.coro CoroState.Failed nil cs w) in
    omega arith

-- ---- one world that the words stand for

module _ (l : Sizes) (M : Lent) (m : Machine) (f : Fuel) (w : World) where
  pub none-fails : Rep l w M m f → m.active ≡ 0 → Rep l (fail_active w) M m f
  none-fails rep e =
      let none = none_here l M m f w rep e in
      subst (λ cs. Rep l (with_chain [] (fail_all cs w)) M m f) (sym none)
      (turn-chain l w M m f rep [] M.chain m.active (subst (λ cs. Chain cs M.chain m.active) none rep.chain))

  -- one has failed: one less is active
  pub fewer : Rep l w M m f → 1 ≤ m.active → (M' : Lent) (n : Machine) (g : Fuel) → Rep l (end_last CoroState.Failed nil w) M' n g → n.active < m.active
  fewer rep h M' n g did =
      let a = rep.chain.count in
      let b = did.chain.count in
      let k = shorter w w.chain (omega arith) in
      omega arith

  pub aborted : (t : Told) → t ≡ told None → Rep l (set_finalizing false (fail_active w)) M m f → Rep l (abort_coros w) M (with_told t m) f
  unfolding abort_coros
  aborted t e rep = subst (λ (x : Told). Rep l (abort_coros w) M (with_told x m) f) (sym e) (turn-outcome l (set_finalizing false (fail_active w)) M m f rep None)

-- ---- the loop: those that are left fail in the present world as all do in that of the start

pub record Rest (l : Sizes) (w : World) (M : Lent) (m : Machine) (f : Fuel) : Type 0 where
  pub world : World
  pub rep : Rep l world M m f
  pub rowed : InRows world
  pub same : fail_active w ≡ fail_active world

pub record Along (l : Sizes) (M₀ : Beside → Lent) (m₀ : Machine) (M : Beside → Lent) (m : Machine) : Type 0 where
  pub some : SomeWorld InRows l M (only m)
  pub kept : (b : Beside) → SameLengths (M₀ b) (M b)
  pub rest : (w : World) (b : Beside) → Rep l w (M₀ b) m₀ b.fuel → InRows w → Rest l w (M b) m b.fuel

pub along-start : (l : Sizes) (M : Beside → Lent) (m : Machine) → SomeWorld InRows l M (only m) → Along l M m M m
along-start l M m o = record { some = o; kept = λ b. alike (M b); rest = λ w b rep rowed. record { world = w; rep = rep; rowed = rowed; same = refl } }

module _ {l : Sizes} {M₀ : Beside → Lent} {m₀ : Machine} {M : Beside → Lent} {m : Machine} (at : Along l M₀ m₀ M m) where
  -- none is left
  pub along-none : m.active ≡ 0 → Turns if_rowed l fail_active M₀ (only m₀) M (only m)
  along-none e w b rep rowed =
      let r = at.rest w b rep rowed in
      subst (λ u. Rep l u (M b) m b.fuel) (sym r.same) (none-fails l (M b) m b.fuel r.world r.rep e)

  -- one more has failed
  module _ (left : 1 ≤ m.active) (M' : Beside → Lent) (n : Machine) (did : Turns if_rowed l (end_last CoroState.Failed nil) M (only m) M' (only n)) where
    pub along-fewer : n.active < m.active
    along-fewer =
        let o = at.some in
        fewer l (M o.beside) m o.beside.fuel o.world o.rep left (M' o.beside) n o.beside.fuel (did o.world o.beside o.rep o.known)

    next : (w : World) (b : Beside) → Rep l w (M b) m b.fuel → fail_active w ≡ fail_active (end_last CoroState.Failed nil w)
    next w b rep = let n = rep.chain.count in sym (fail-next w w.chain (omega arith))

    pub along-more : ((b : Beside) → SameLengths (M b) (M' b)) → Along l M₀ m₀ M' n
    along-more same =
        let o = at.some in
        record {
          some =
              record {
                world = end_last CoroState.Failed nil o.world;
                beside = o.beside;
                rep = did o.world o.beside o.rep o.known;
                known = end-rowed CoroState.Failed nil o.world refl o.known;
              };
          kept = λ b. then-alike (M₀ b) (M b) (M' b) (at.kept b) (same b);
          rest =
              λ w b rep rowed.
              let r = at.rest w b rep rowed in
              record {
                world = end_last CoroState.Failed nil r.world;
                rep = did r.world b r.rep r.rowed;
                rowed = end-rowed CoroState.Failed nil r.world refl r.rowed;
                same = r.same ∙ next r.world b r.rep;
              };
        }
