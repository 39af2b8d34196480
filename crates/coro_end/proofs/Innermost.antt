-- The innermost coroutine is taken off the chain, and ends. Assumes nothing.
use mathlib.Core.Path.{◌≡◌, refl, sym, ap, ◌∙◌, subst}
use mathlib.Core.Bool.{true}
use mathlib.Core.List.{List, [], ◌∷◌}
use Prim.Native.Nat.{ℕ, ◌-◌, ◌≤◌}
use native.Mathlib.Omega.{arith}
use lib.ListN.{length, drop}
use Rattle.heap.specs.declared.object.CoroState.{CoroState}
use Rattle.model.specs.State.{is_finished}
use Rattle.model.specs.World.{World, with_chain}
use Rattle.model.specs.Coro.{in_state, ended, finish_coroutine}
use Rattle.model.specs.declared.machine.Active.{Active}
use Rattle.model.specs.declared.machine.Fuel.{Fuel}
use Rattle.claims_sound.proofs.Coros.{changed}
use Rattle.claims_sound.proofs.Good.{Still, still}
use Rattle.memory_tables.specs.Layout.{active_in}
use Rattle.memory_tables.specs.Parts.{Chain}
use Rattle.memory_tables.specs.Does.{ChainDo}
use Rattle.memory_tables.proofs.Decode.{top-active}
use Rattle.memory_world.specs.Memory.{Lent, on_chain, Rep}
use Rattle.memory_world.specs.Rows.{Rowed}
use Rattle.memory_world.specs.Numbers.{with_active}
use Rattle.memory_world.specs.Lendings.{rows, plain}
use Rattle.memory_world.specs.declared.machine.Machine.{Machine}
use Rattle.memory_world.specs.declared.machine.Sizes.{Sizes}
use Rattle.memory_world.proofs.Turn.{turn-chain}
use Rattle.coro_end.specs.Finish.{FinishFits}
use Rattle.coro_end.specs.Last.{ending, InRows, end_on, end_last}
use Rattle.coro_end.proofs.Known.{finish-rowed}

-- the innermost coroutine, and those outside it
pub record Last (chain : List Active) (a : Active) : Type 0 where
  pub rest : List Active
  pub are : chain ≡ a ∷ rest

module _ (l : Sizes) (M : Lent) (m : Machine) (f : Fuel) (w : World) (rep : Rep l w M m f) where
  -- none is active
  pub none_here : m.active ≡ 0 → w.chain ≡ []
  none_here e = go w.chain (sym rep.chain.count ∙ e)
    where
      go : (cs : List Active) → length cs ≡ 0 → cs ≡ []
      go [] q = refl
      go (a ∷ cs) q = absurd (omega arith)

  pub last : (a : Active) → 1 ≤ m.active → a ≡ active_in M.chain (m.active - 1) → Last w.chain a
  last a h e = go w.chain rep.chain
    where
      go : (cs : List Active) → Chain cs M.chain m.active → Last cs a
      go [] p = let c = p.count in absurd (omega arith)
      go (x ∷ cs) p = record { rest = cs; are = ap (λ y. y ∷ cs) (sym (e ∙ top-active x cs M.chain m.active p)) }

  pub popped : (a : Active) (top : Last w.chain a) (chain' : List ℕ) → ChainDo (drop 1) M.chain chain' m.active (m.active - 1)
      → Rep l (with_chain top.rest w) (on_chain chain' M) (with_active (m.active - 1) m) f
  popped a top chain' pops =
      turn-chain l w M m f rep top.rest chain' (m.active - 1) (subst (λ cs. Chain (drop 1 cs) chain' (m.active - 1)) top.are (pops w.chain rep.chain))

  pub none-ends-last : (s : CoroState) (result : ℕ) → m.active ≡ 0 → Rep l (end_last s result w) M m f
  none-ends-last s result e = subst (λ cs. Rep l (end_on cs s result w) M m f) (sym (none_here e)) rep

pub ends_last : (l : Sizes) (M : Lent) (m : Machine) (f : Fuel) (w : World) (s : CoroState) (result : ℕ) (a : Active) (top : Last w.chain a)
    → Rep l (finish_coroutine a.coro s result (with_chain top.rest w)) M m f → Rep l (end_last s result w) M m f
ends_last l M m f w s result a top rep = subst (λ cs. Rep l (end_on cs s result w) M m f) (sym top.are) rep

-- what its end asks
pub finish-fits : (l : Sizes) (m : Machine) (chain slots saved_stack saved_frames : List ℕ) (s : CoroState) → FinishFits l (ending chain slots saved_stack saved_frames plain) m s
    → (a : Active) → 1 ≤ m.active → a ≡ active_in chain (m.active - 1) → (chain' : List ℕ) → ChainDo (drop 1) chain chain' m.active (m.active - 1)
    → FinishFits l (rows slots saved_stack saved_frames plain) (with_active (m.active - 1) m) s
finish-fits l m chain slots saved_stack saved_frames s fits a some is chain' pops =
    let h = fits.held in
    let M = ending chain slots saved_stack saved_frames plain h.beside in
    let top = last l M m h.beside.fuel h.world h.rep a some is in
    record {
      held =
          record {
            world = with_chain top.rest h.world;
            beside = record { words = on_chain chain' h.beside.words; fuel = h.beside.fuel };
            rep = popped l M m h.beside.fuel h.world h.rep a top chain' pops;
            known = h.known;
          };
      ends = fits.ends;
    }

-- ---- what stays

pub end-still : (s : CoroState) (result : ℕ) (w : World) → Still w (end_last s result w)
end-still s result w = go w.chain
  where
    go : (cs : List Active) → Still w (end_on cs s result w)
    go [] = still w
    go (a ∷ cs) =
        changed (Still w) (with_chain cs w) a.coro (in_state s) (ended result) (record { setup = refl; stack = refl; frames = refl })
        (λ k r e. record { setup = refl; stack = refl; frames = refl })

pub end-rowed : (s : CoroState) (result : ℕ) (w : World) → is_finished s ≡ true → InRows w → InRows (end_last s result w)
end-rowed s result w e h = subst (λ u. Rowed u (end_last s result w).slots) (sym (end-still s result w).setup) (go w.chain)
  where
    go : (cs : List Active) → Rowed w.setup (end_on cs s result w).slots
    go [] = h
    go (a ∷ cs) = finish-rowed a.coro s result (with_chain cs w) e h
