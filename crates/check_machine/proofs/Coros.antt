-- A coroutine's test by its parts, and the row that it holds. Assumes (nothing_saved c).
use mathlib.Core.Path.{◌≡◌, refl, sym, ap, ◌∙◌}
use mathlib.Core.Bool.{Bool, true, false, not, ◌&&◌, ◌||◌}
use mathlib.Core.List.{List}
use Prim.Native.Nat.{ℕ, suc, ◌+◌, ◌*◌, ◌≤◌, ◌<◌}
use native.Mathlib.Omega.{arith}
use native.Mathlib.Nat.{suc-mul, mul-le-mul_right}
use lib.Dec.{eqb, ltb, leb}
use borrow.Author.Tests.{leb-true, le-leb}
use Rattle.lists.specs.Pick.{pick, pick_true, pick-false}
use Rattle.lists.specs.Chunks.{chunk_at}
use Rattle.lists.proofs.Tests.{and-false}
use Rattle.heap.specs.State.{is_running, is_finished}
use Rattle.heap.specs.declared.object.CoroState.{CoroState}
use Rattle.heap.specs.declared.object.CoroObj.{CoroObj}
use Rattle.model.specs.Program.{Setup}
use Rattle.memory_world.specs.declared.machine.Sizes.{Sizes}
use Rattle.claims_sound.proofs.Tests.{and_left, and_right}
use Rattle.memory_sound.specs.Words.{rest_ok}
use Rattle.check_tables.proofs.Bools.{and-true}
use Rattle.check_machine.specs.Saved.{largest_in, sizes_in, nothing_saved, frames_in, coro_test}
use Rattle.check_machine.specs.Rows.{coro_fine, coro_row}

-- a row lies in its slice
pub row_inside : (n w i k : ℕ) → i < n → n * w ≤ k → i * w + w ≤ k
row_inside n w i k h g = let q : suc i * w ≤ n * w = mul-le-mul_right w h in omega (arith, suc-mul i w)

-- its frames fit a row
pub frames-few : (l : Sizes) (c : CoroObj) → sizes_in l c ≡ true → c.frames * 6 ≤ l.depth * 6
frames-few l c e =
    let a = leb c.regs l.width in
    let b = leb c.frames l.depth in
    let d = leb c.maxregs l.width in
    let q = leb-true c.frames l.depth (and_right a b (and_left (a && b) d (and_left (a && b && d) (leb c.maxframes l.depth) e))) in
    omega arith

-- a finished one's test by its parts
module _ (l : Sizes) (c : CoroObj) where
  pub saved-some : nothing_saved c ≡ false → false ≡ (sizes_in l c && nothing_saved c)
  saved-some e = sym (ap (λ t. sizes_in l c && t) e ∙ and-false (sizes_in l c))

  pub saved-none : c.row ≡ 0 → c.frames ≡ 0 → c.regs ≡ 0 → (sizes_in l c && nothing_saved c) ≡ largest_in l c
  saved-none a b d = rw (a, b, d, le-leb 0 l.width (omega arith), le-leb 0 l.depth (omega arith)) (and-true _)

-- a finished one does not run
pub ended-rests : (t : CoroState) → is_finished t ≡ true → is_running t ≡ false
ended-rests CoroState.Created e = refl
ended-rests CoroState.Running e = sym e
ended-rests CoroState.Yielded e = refl
ended-rests CoroState.Awaiting e = refl
ended-rests CoroState.Returned e = refl
ended-rests CoroState.Failed e = refl

module _ (l : Sizes) (s : Setup) (stack frames : List ℕ) (c : CoroObj) where
  abbrev pub in_row : Bool
  in_row = ltb c.row l.rows && rest_ok (chunk_at l.width stack c.row) c.regs && frames_in s (chunk_at (l.depth * 6) frames c.row) c

  pub sizes-stop : sizes_in l c ≡ false → false ≡ coro_test l s stack frames c
  sizes-stop e = sym (ap (λ t. t && pick (is_finished c.state) (nothing_saved c) in_row) e)

  sized : sizes_in l c ≡ true → coro_test l s stack frames c ≡ pick (is_finished c.state) (nothing_saved c) in_row
  sized e = ap (λ t. t && pick (is_finished c.state) (nothing_saved c) in_row) e

  pub finished : is_finished c.state ≡ true → (sizes_in l c && nothing_saved c) ≡ coro_test l s stack frames c
  finished f = sym (ap (λ t. sizes_in l c && t) (ap (λ t. pick t (nothing_saved c) in_row) f ∙ pick_true (nothing_saved c) in_row))

  pub ended : sizes_in l c ≡ true → is_finished c.state ≡ true → nothing_saved c ≡ coro_test l s stack frames c
  ended e f = sym (ap (λ t. t && nothing_saved c) e) ∙ finished f

  pub live : sizes_in l c ≡ true → is_finished c.state ≡ false → in_row ≡ coro_test l s stack frames c
  live e f = sym (sized e ∙ ap (λ t. pick t (nothing_saved c) in_row) f ∙ pick-false (nothing_saved c) in_row)

  -- ---- the row

  module _ (chained : ℕ → Bool) (i : ℕ) where
    pub refused : coro_fine l s stack frames chained i c ≡ false → 65 ≡ coro_row l s stack frames chained i c
    refused e = sym (ap (λ t. pick t (pick (is_finished c.state) 64 c.row) 65) e ∙ pick-false _ _)

    pub passed : coro_fine l s stack frames chained i c ≡ true → coro_row l s stack frames chained i c ≡ pick (is_finished c.state) 64 c.row
    passed e = ap (λ t. pick t (pick (is_finished c.state) 64 c.row) 65) e ∙ pick_true _ _

    pub bad-coro : coro_test l s stack frames c ≡ false → 65 ≡ coro_row l s stack frames chained i c
    bad-coro e = refused (ap (λ t. t && (not (is_running c.state) || chained i)) e)

    module _ (ok : coro_test l s stack frames c ≡ true) where
      by-run : (r b : Bool) → is_running c.state ≡ r → chained i ≡ b → coro_fine l s stack frames chained i c ≡ (not r || b)
      by-run r b e f = rw (ok, e, f)

      pub no-row : is_finished c.state ≡ true → 64 ≡ coro_row l s stack frames chained i c
      no-row f = sym (passed (by-run false (chained i) (ended-rests c.state f) refl) ∙ ap (λ t. pick t 64 c.row) f ∙ pick_true _ _)

      pub not-chained : is_running c.state ≡ true → chained i ≡ false → 65 ≡ coro_row l s stack frames chained i c
      not-chained e f = refused (by-run true false e f)

      pub chained-row : is_finished c.state ≡ false → is_running c.state ≡ true → chained i ≡ true → c.row ≡ coro_row l s stack frames chained i c
      chained-row g e f = sym (passed (by-run true true e f) ∙ ap (λ t. pick t 64 c.row) g ∙ pick-false _ _)

      pub saved-frames-row : is_finished c.state ≡ false → is_running c.state ≡ false → c.row ≡ coro_row l s stack frames chained i c
      saved-frames-row g e = sym (passed (by-run false (chained i) e refl) ∙ ap (λ t. pick t 64 c.row) g ∙ pick-false _ _)
