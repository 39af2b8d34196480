-- The hook's two words, case by case. Assumes nothing.
use mathlib.Core.Path.{◌≡◌, sym}
use mathlib.Core.Bool.{false}
use mathlib.Core.List.{List}
use Prim.Native.Nat.{ℕ, ◌+◌, ◌*◌, ◌≤◌, ◌<◌}
use native.Mathlib.Omega.{arith}
use borrow.Author.Tests.{eq-eqb, ne_eqb, lt-ltb, le-ltb}
use lib.Dec.{eqb, ltb}
use lib.ListN.{get_or}
use Rattle.lists.specs.Pick.{pick}
use Rattle.model.specs.Program.{func, func_of, no_func}
use Rattle.memory_tables.specs.Layout.{function_in}
use Rattle.memory_world.proofs.Tables.{rows_at}
use Rattle.memory_world.specs.Decode.{setup_of}
use Rattle.check_tables.specs.Setup.{hook_test}
use Rattle.check_tables.proofs.Bools.{and-true}
use Rattle.check_tables.proofs.OneFrame.{functions-long}

module _ (ws : List ℕ) where
  abbrev code : ℕ
  code = get_or ws 11 0

  abbrev hook : ℕ
  hook = get_or ws 12 0

  -- no hook, and no function
  pub none-held : code ≡ 0 → eqb hook 0 ≡ hook_test ws
  unfolding pick
  none-held e = sym (rw (eq-eqb code 0 e, ne_eqb code 1 (λ q. omega arith), and-true (eqb hook 0)))

  pub bad-code : (code ≡ 0 → ⊥) → (code ≡ 1 → ⊥) → false ≡ hook_test ws
  bad-code a b = sym (rw (ne_eqb code 1 b, ne_eqb code 0 a))

  module _ (a : code ≡ 0 → ⊥) (b : code ≡ 1) where
    pub no-function : get_or ws 13 0 ≤ hook → false ≡ hook_test ws
    unfolding pick
    no-function h = sym (rw (ne_eqb code 0 a, eq-eqb code 1 b, functions-long ws, le-ltb hook (get_or ws 13 0) h))

    pub has-register : hook < get_or ws 13 0 → ltb 0 (get_or ws (14 + hook * 35) 0) ≡ hook_test ws
    unfolding pick
    has-register h =
        let e : func (setup_of ws) hook ≡ func_of (function_in ws hook) = rows_at (λ j. func_of (function_in ws j)) (get_or ws 13 0) hook no_func h in
        sym (rw (ne_eqb code 0 a, eq-eqb code 1 b, functions-long ws, lt-ltb hook (get_or ws 13 0) h, e))
