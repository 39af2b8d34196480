-- `setup_held` meets its contract: each test fails the whole, and the last decides it. Assumes nothing.
use mathlib.Core.Path.{◌≡◌, sym, ap, ◌∙◌}
use mathlib.Core.Bool.{Bool, true, false}
use mathlib.Core.List.{List, [], ◌∷◌}
use Prim.Native.Nat.{ℕ, ◌+◌, ◌*◌, ◌≤◌}
use native.Mathlib.Omega.{arith}
use borrow.Author.Tests.{not-true, not-false, le-leb, lt-leb}
use lib.ListN.{length, get_or}
use lib.Dec.{leb}
use Rattle.lists.specs.Tests.{all_below}
use Rattle.model.specs.Program.{between, limits_ok, costs_ok}
use Rattle.memory_tables.specs.Sizes.{limits_of, costs_of}
use Rattle.memory_sound.specs.Words.{rest_ok, setup_held}
use Rattle.check_tables.specs.Setup.{long_test, function_test, hook_test}
use Rattle.check_tables.proofs.Bools.{Left, from, pass, stop, last}
use Rattle.check_tables.proofs.Closing.{long_of, setup-test}
use Rattle.check_tables.proofs.setup.setup_held.Lts as lts
use Rattle.check_tables.proofs.setup.setup_held.Reads as reads
use Rattle.check_tables.proofs.setup.setup_held.Tie as tie
use Rattle.check_tables.proofs.setup.setup_held.Goals as goal

abbrev Start : Type 0
Start = lts.Start tie.the-claims reads.Pre reads.Post

abbrev After-long_ok : Type 0
After-long_ok = lts.After-long_ok tie.the-claims reads.Pre reads.Post

abbrev Else-not-long_ok : Type 0
Else-not-long_ok = lts.Else1 tie.the-claims reads.Pre reads.Post

abbrev After-limits_ok : Type 0
After-limits_ok = lts.After-limits_ok tie.the-claims reads.Pre reads.Post

abbrev Else-not-limits_ok : Type 0
Else-not-limits_ok = lts.Else2 tie.the-claims reads.Pre reads.Post

abbrev After-costs_ok : Type 0
After-costs_ok = lts.After-costs_ok tie.the-claims reads.Pre reads.Post

abbrev Else-not-costs_ok : Type 0
Else-not-costs_ok = lts.Else3 tie.the-claims reads.Pre reads.Post

abbrev Else-setup : Type 0
Else-setup = lts.Else4 tie.the-claims reads.Pre reads.Post

abbrev Else-not-functions_ok : Type 0
Else-not-functions_ok = lts.Else5 tie.the-claims reads.Pre reads.Post

-- `setup_held` meets its contract: each test fails the whole, and the last decides it. Assumes nothing.
abbrev tests : List ℕ → List Bool
tests ws =
    long_test ws ∷ limits_ok (limits_of ws) ∷ costs_ok (costs_of ws) ∷ leb (get_or ws 13 0) (get_or ws 3 0)
    ∷ all_below (get_or ws 13 0) (λ i. function_test ws (14 + i * 35)) ∷ hook_test ws ∷ rest_ok ws (14 + get_or ws 13 0 * 35) ∷ []

-- the first n have passed
abbrev Passed : ℕ → Start → Type 0
Passed n c = let ws = c.args.setup.now in Left (from n (tests ws)) (setup_held ws)

begun : (c : Start) → Passed 0 c
begun c = record { is = setup-test c.args.setup.now }

long : (c : After-long_ok) (b : Bool) → c.long_ok.result ≡ b → long_test c.args.setup.now ≡ b
long c b e = sym c.long_ok.ensures ∙ e

limits : (c : After-limits_ok) (b : Bool) → c.limits_ok.result ≡ b → limits_ok (limits_of c.args.setup.now) ≡ b
limits c b e = sym (ap limits_ok c.limits.ensures) ∙ sym c.limits_ok.ensures ∙ e

costs : (c : After-costs_ok) (b : Bool) → c.costs_ok.result ≡ b → costs_ok (costs_of c.args.setup.now) ≡ b
costs c b e = sym (ap costs_ok c.costs.ensures) ∙ sym c.costs_ok.ensures ∙ e

passed-1 : (c : Else-not-long_ok) → Passed 1 c.before.before.before
passed-1 c = pass (begun c.before.before.before) (long c.before true c.if-not-long_ok.false)

passed-2 : (c : Else-not-limits_ok) → Passed 2 c.before.before.before.before.before.before.before
passed-2 c = pass (passed-1 c.before.before.before.before) (limits c.before true c.if-not-limits_ok.false)

passed-3 : (c : Else-not-costs_ok) → Passed 3 c.before.before.before.before.before.before.before.before.before.before
passed-3 c = pass (passed-2 c.before.before.before) (costs c.before true c.if-not-costs_ok.false)

passed-4 : (c : Else-setup) → Passed 4 c.before.before.before.before.before.before.before.before.before.before.before.before.before
passed-4 c = pass (passed-3 c.before.before.before) (le-leb _ _ c.if-setup.false)

passed-5 : (c : Else-not-functions_ok) → Passed 5 c.before.before.before.before.before.before.before.before.before.before.before.before.before.before.before
passed-5 c = pass (passed-4 c.before.before) (sym c.functions_ok.ensures ∙ c.if-not-functions_ok.false)

-- words enough for the numbers and the functions
enough : (c : Else-not-long_ok) → let ws = c.args.setup.now in
    (14 ≤ length ws) × (14 + get_or ws 13 0 * 35 ≤ length ws) × (between 1 32 (get_or ws 13 0) ≡ true)
enough c = long_of c.args.setup.now (long c.before true c.if-not-long_ok.false)

pub returns-then-not-long_ok : goal.returns-then-not-long_ok
returns-then-not-long_ok c = stop (begun c.before.before.before.before) (long c.before.before false c.if-not-long_ok.true)

pub bounds-setup-13 : goal.bounds-setup-13
bounds-setup-13 c = omega (arith, enough c.before.before)

pub limits-requires : goal.limits-requires
limits-requires c = omega (arith, enough c.before.before)

pub returns-then-not-limits_ok : goal.returns-then-not-limits_ok
returns-then-not-limits_ok c = stop (passed-1 c.before.before.before.before.before) (limits c.before.before false c.if-not-limits_ok.true)

pub costs-requires : goal.costs-requires
costs-requires c = omega (arith, enough c.before.before.before.before.before)

pub returns-then-not-costs_ok : goal.returns-then-not-costs_ok
returns-then-not-costs_ok c = stop (passed-2 c.before.before.before.before) (costs c.before.before false c.if-not-costs_ok.true)

pub bounds-setup-3 : goal.bounds-setup-3
bounds-setup-3 c = omega (arith, enough c.before.before.before.before.before.before.before.before.before)

pub bounds-setup-13-2 : goal.bounds-setup-13-2
bounds-setup-13-2 c = omega (arith, enough c.before.before.before.before.before.before.before.before.before.before)

pub returns-then-setup : goal.returns-then-setup
returns-then-setup c = stop (passed-3 c.before.before.before.before) (lt-leb _ _ c.if-setup.true)

pub functions_ok-requires : goal.functions_ok-requires
functions_ok-requires c = omega (arith, enough c.before.before.before.before.before.before.before.before.before.before.before)

pub returns-then-not-functions_ok : goal.returns-then-not-functions_ok
returns-then-not-functions_ok c = stop (passed-4 c.before.before.before) (sym c.functions_ok.ensures ∙ c.if-not-functions_ok.true)

pub hook_ok-requires : goal.hook_ok-requires
hook_ok-requires c = let l = enough c.before.before.before.before.before.before.before.before.before.before.before.before.before in record { numbers = l.0; functions = l.1 }

pub returns-then-not-hook_ok : goal.returns-then-not-hook_ok
returns-then-not-hook_ok c = stop (passed-5 c.before.before.before) (sym c.hook_ok.ensures ∙ c.if-not-hook_ok.true)

pub overflow_mul-n : goal.overflow_mul-n
overflow_mul-n c = omega (arith, enough c.before.before.before.before.before.before.before.before.before.before.before.before.before.before.before)

pub overflow_add-n : goal.overflow_add-n
overflow_add-n c = omega (arith, enough c.before.before.before.before.before.before.before.before.before.before.before.before.before.before.before)

pub returns : goal.returns
returns c = last (pass (passed-5 c.before.before.before.before) (sym c.hook_ok.ensures ∙ c.if-not-hook_ok.false)) c.rest_ok.ensures
