-- `first_of` meets its contract: no handler passed covers the pc. Assumes nothing.
use Rattle.std.proofs.Common.{◌≡◌, ℕ, ◌+◌, ◌<◌, Bool, true, false, List, length, get_or, take, drop, sym, ◌∙◌, add-one, drop-cons}
use Rattle.lists.specs.Pick.{pick, pick_true, pick-false}
use Rattle.model.specs.Program.{covers, first_of}
use Rattle.model.specs.declared.program.Handler.{Handler}
use Rattle.std.specs.Prelude.{Option, Some}
use Rattle.memory_tables.proofs.program.first_of.Goals as goal

-- the search from place i on looks at the handler there
look : (pc i : ℕ) (hs : List Handler) (d : Handler) → i < length hs
    → first_of pc (drop i hs) ≡ pick (covers pc (get_or hs i d)) (Some (get_or hs i d)) (first_of pc (drop (i + 1) hs))
look pc i hs d h = rw (add-one, drop-cons hs i d h)

yes : (b : Bool) (x y : Option Handler) → b ≡ true → pick b x y ≡ x
yes b x y e = rw e (pick_true x y)

no : (b : Bool) (x y : Option Handler) → b ≡ false → pick b x y ≡ y
no b x y e = rw e (pick-false x y)

abbrev none : Handler
none = record { start = 0; end = 0; target = 0; catch = 0 }

pub returns-then-covered : goal.returns-then-covered
returns-then-covered c =
    let a = c.args in
    sym (c.loop-h.invariant ∙ look a.pc c.loop-h.h-index (take a.n a.hs) none c.loop-h-test.true ∙ yes _ _ _ (sym c.covered.ensures ∙ c.if-covered.true))

pub loop-h-preserved : goal.loop-h-preserved
loop-h-preserved c =
    let a = c.args in
    c.loop-h.invariant ∙ look a.pc c.loop-h.h-index (take a.n a.hs) none c.loop-h-test.true ∙ no _ _ _ (sym c.covered.ensures ∙ c.if-covered.false)
