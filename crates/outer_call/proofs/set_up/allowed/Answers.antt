-- `allowed` meets its contract: each test fails the whole, and the last decides it. Assumes nothing.
use mathlib.Core.Path.{◌≡◌, sym, ◌∙◌}
use mathlib.Core.Bool.{true}
use native.Mathlib.Omega.{arith}
use Rattle.memory_sound.specs.Words.{setup_held}
use Rattle.outer_call.specs.SetUp.{lengths}
use Rattle.outer_call.proofs.Begun.{given-fits, sizes-fit, not-held, no_room, all_told}
use Rattle.outer_call.proofs.set_up.allowed.Lts as lts
use Rattle.outer_call.proofs.set_up.allowed.Reads as reads
use Rattle.outer_call.proofs.set_up.allowed.Tie as tie
use Rattle.outer_call.proofs.set_up.allowed.Goals as goal

abbrev Else-not-setup_held : Type 0
Else-not-setup_held = lts.Else1 tie.the-claims reads.Pre reads.Post

-- `allowed` meets its contract: each test fails the whole, and the last decides it. Assumes nothing.
held : (c : Else-not-setup_held) → setup_held c.args.given.now ≡ true
held c = sym c.setup_held.ensures ∙ c.if-not-setup_held.false

pub returns-then-not-setup_held : goal.returns-then-not-setup_held
returns-then-not-setup_held c =
    let a = c.args in
    λ M e. not-held a.given.now M (lengths a.stack a.frames a.chain a.slots a.saved_stack a.saved_frames a.ready a.finalize a.setup) e (sym c.setup_held.ensures ∙ c.if-not-setup_held.true)

pub sizes-sizes-requires : goal.sizes-sizes-requires
sizes-sizes-requires c = given-fits c.args.given.now (held c.before)

pub room_ok-requires : goal.room_ok-requires
room_ok-requires c = sizes-fit c.args.given.now (held c.before.before) c.sizes-sizes.result c.sizes-sizes.ensures.words

pub returns-then-not-room_ok : goal.returns-then-not-room_ok
returns-then-not-room_ok c =
    let a = c.args in
    λ M e. no_room a.given.now M (lengths a.stack a.frames a.chain a.slots a.saved_stack a.saved_frames a.ready a.finalize
    a.setup) e (held c.before.before.before.before) c.sizes-sizes.result c.sizes-sizes.ensures.words
    (sym c.room_ok.ensures ∙ c.if-not-room_ok.true)

pub bounds-given-13 : goal.bounds-given-13
bounds-given-13 c = let f = given-fits c.args.given.now (held c.before.before.before.before.before) in let h = f.numbers in omega arith

pub overflow_mul-result : goal.overflow_mul-result
overflow_mul-result c = let f = given-fits c.args.given.now (held c.before.before.before.before.before) in let h = f.functions in omega (arith, c.well_formed)

pub overflow_add-result : goal.overflow_add-result
overflow_add-result c = let f = given-fits c.args.given.now (held c.before.before.before.before.before) in let h = f.functions in omega (arith, c.well_formed)

pub returns : goal.returns
returns c =
    let a = c.args in
    λ M e. all_told a.given.now M (lengths a.stack a.frames a.chain a.slots a.saved_stack a.saved_frames a.ready
    a.finalize a.setup) e (held c.before.before.before.before.before) c.sizes-sizes.result c.sizes-sizes.ensures.words
    (sym c.room_ok.ensures ∙ c.if-not-room_ok.false)
