-- Look: from the top frame's base to the stack's end stand its registers. Assumes nothing.
use mathlib.Core.Path.{◌≡◌, refl, sym, ap, ap₂, ◌∙◌, subst}
use mathlib.Core.Bool.{Bool, true, false}
use mathlib.Core.List.{List, [], ◌∷◌}
use Prim.Native.Nat.{ℕ, zero, suc, ◌+◌, ◌-◌, ◌*◌, ◌≤◌}
use native.Mathlib.Omega.{arith}
use lib.ListN.{length, get_or, take, drop, replicate, length-drop}
use lib.Dec.{leb}
use borrow.Author.Tests.{leb-true, leb-false}
use native.Mathlib.Nat.{le_of_suc-le-suc}
use lib.Seq.{drop-append-le, take_at}
use Rattle.lists.specs.Parts.{pad}
use Rattle.model.specs.World.{World}
use Rattle.model.specs.Frames.{top_base}
use Rattle.model.specs.Added.{registers_on, registers}
use Rattle.model.specs.declared.machine.Frame.{Frame}
use Rattle.model.specs.declared.machine.Fuel.{Fuel}
use Rattle.memory_tables.specs.Layout.{base_in}
use Rattle.memory_tables.specs.Parts.{Frames, Stack}
use Rattle.memory_world.specs.Memory.{Lent, Rep}
use Rattle.memory_world.specs.declared.machine.Machine.{Machine}
use Rattle.memory_world.specs.declared.machine.Sizes.{Sizes}
use Rattle.machine_state.proofs.Frames.{top-base}
use Rattle.machine_added.specs.Look.{end_on}

past : (b : ℕ) (xs : List ℕ) → length xs ≤ b → drop b xs ≡ []
past zero [] h = refl
past zero (x ∷ xs) h = absurd (omega arith)
past (suc b) [] h = refl
past (suc b) (x ∷ xs) h = past b xs (le_of_suc-le-suc h)

inside : (xs ws : List ℕ) (n b : ℕ) → Stack xs ws n → b ≤ n → take (n - b) (drop b ws) ≡ drop b xs
inside xs ws n b s h =
    let c = s.count in
    let Z : List ℕ = replicate (length ws - length xs) 0 in
    ap (λ (z : List ℕ). take (n - b) (drop b z)) s.are
    ∙ ap (take (n - b)) (drop-append-le b xs Z (omega arith))
    ∙ take_at (drop b xs) Z (n - b) (length-drop b xs ∙ ap (λ k. k - b) (sym c))

-- padded words from b to the end of the list
span : (xs ws : List ℕ) (n b : ℕ) → Stack xs ws n → take (n - b) (drop b ws) ≡ drop b xs
span xs ws n b s = go (leb b n) refl
  where
    go : (t : Bool) → leb b n ≡ t → take (n - b) (drop b ws) ≡ drop b xs
    go true e = inside xs ws n b s (leb-true b n e)
    go false e =
        let h = leb-false b n e in
        let c = s.count in
        ap (λ k. take k (drop b ws)) (let z : n - b ≡ 0 = omega arith in z) ∙ sym (past b xs (omega arith))

module _ (l : Sizes) (w : World) (M : Lent) (m : Machine) (f : Fuel) (rep : Rep l w M m f) where
  pub none_seen : m.depth ≡ 0 → take 0 (drop 0 M.stack) ≡ registers w
  unfolding registers
  none_seen e = go w.frames (sym rep.frames.count ∙ e)
    where
      go : (fs : List Frame) → length fs ≡ 0 → [] ≡ registers_on fs w.stack
      go [] q = refl
      go (x ∷ fs) q = absurd (omega arith)

  pub seen : (start : ℕ) → start ≡ base_in M.frames (m.depth - 1) → 1 ≤ m.depth → take (m.height - start) (drop start M.stack) ≡ registers w
  unfolding registers
  seen start e h = ap (λ b. take (m.height - b) (drop b M.stack)) e ∙ go w.frames rep.frames
    where
      go : (fs : List Frame) → Frames fs M.frames m.depth
          → take (m.height - base_in M.frames (m.depth - 1)) (drop (base_in M.frames (m.depth - 1)) M.stack) ≡ registers_on fs w.stack
      go [] p = let c = p.count in absurd (omega arith)
      go (x ∷ fs) p = span w.stack M.stack m.height _ rep.stack ∙ ap (λ k. drop k w.stack) (top-base x fs M.frames m.depth p)

  -- where it begins and ends
  pub none-base : m.depth ≡ 0 → 0 ≡ top_base w.frames
  none-base e = go w.frames (sym rep.frames.count ∙ e)
    where
      go : (fs : List Frame) → length fs ≡ 0 → 0 ≡ top_base fs
      go [] q = refl
      go (x ∷ fs) q = absurd (omega arith)

  pub none_end : m.depth ≡ 0 → 0 ≡ end_on w.frames w.stack
  none_end e = go w.frames (sym rep.frames.count ∙ e)
    where
      go : (fs : List Frame) → length fs ≡ 0 → 0 ≡ end_on fs w.stack
      go [] q = refl
      go (x ∷ fs) q = absurd (omega arith)

  pub some-base : 1 ≤ m.depth → base_in M.frames (m.depth - 1) ≡ top_base w.frames
  some-base h = go w.frames rep.frames
    where
      go : (fs : List Frame) → Frames fs M.frames m.depth → base_in M.frames (m.depth - 1) ≡ top_base fs
      go [] p = let c = p.count in absurd (omega arith)
      go (x ∷ fs) p = top-base x fs M.frames m.depth p

  pub some_end : 1 ≤ m.depth → m.height ≡ end_on w.frames w.stack
  some_end h = go w.frames rep.frames
    where
      go : (fs : List Frame) → Frames fs M.frames m.depth → m.height ≡ end_on fs w.stack
      go [] p = let c = p.count in absurd (omega arith)
      go (x ∷ fs) p = rep.stack.count
