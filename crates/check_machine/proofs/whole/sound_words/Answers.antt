-- `sound_words` meets its contract: each part fails the whole, and the last decides it. Assumes nothing.
use mathlib.Core.Path.{◌≡◌, sym, ap, ◌∙◌, subst}
use mathlib.Core.Bool.{Bool, true, false}
use mathlib.Core.List.{List, [], ◌∷◌}
use Prim.Native.Nat.{ℕ}
use lib.ListN.{length}
use borrow.Author.Tests.{not-false}
use Rattle.memory_world.specs.Memory.{Lent}
use Rattle.memory_world.specs.declared.machine.Sizes.{Sizes}
use Rattle.memory_world.specs.Words.{sizes_of}
use Rattle.memory_world.specs.Decode.{setup_of}
use Rattle.memory_sound.specs.Words.{setup_held, sound_words}
use Rattle.check_tables.specs.Room.{SizesFit}
use Rattle.check_tables.proofs.Bools.{Left, from, pass, stop, last}
use Rattle.check_machine.specs.Whole.{lent_of, numbers_test, tower_test, objects_test, queues_test, ObjectsFit}
use Rattle.check_machine.proofs.Fitting.{counted, setup-fits, sizes-fit, tower-fits, objects-fit, queues-fit}
use Rattle.check_machine.proofs.Wholly.{whole_same}
use Rattle.check_machine.proofs.whole.sound_words.Lts as lts
use Rattle.check_machine.proofs.whole.sound_words.Reads as reads
use Rattle.check_machine.proofs.whole.sound_words.Tie as tie
use Rattle.check_machine.proofs.whole.sound_words.Goals as goal

abbrev Start : Type 0
Start = lts.Start tie.the-claims reads.Pre reads.Post

abbrev Else-not-setup_held : Type 0
Else-not-setup_held = lts.Else1 tie.the-claims reads.Pre reads.Post

abbrev After-numbers_ok : Type 0
After-numbers_ok = lts.After-numbers_ok tie.the-claims reads.Pre reads.Post

abbrev Else-not-numbers_ok : Type 0
Else-not-numbers_ok = lts.Else2 tie.the-claims reads.Pre reads.Post

abbrev Else-not-tower_ok : Type 0
Else-not-tower_ok = lts.Else3 tie.the-claims reads.Pre reads.Post

abbrev After-objects_ok : Type 0
After-objects_ok = lts.After-objects_ok tie.the-claims reads.Pre reads.Post

-- `sound_words` meets its contract: each part fails the whole, and the last decides it. Assumes nothing.
abbrev lent : Start → Lent
lent c = let a = c.args in lent_of a.stack.now a.frames.now a.chain.now a.slots.now a.saved.now a.asleep.now a.ready.now a.finalize.now a.setup.now

abbrev numbers-by : Start → Sizes → Bool
numbers-by c l =
    let M = lent c in
    numbers_test l (length M.stack) (length M.frames) (length M.chain) (length M.slots) (length M.saved_stack) (length M.saved_frames) (length M.ready)
    (length M.finalize) c.args.m c.args.fuel

abbrev objects-by : Start → Sizes → Bool
objects-by c l = let M = lent c in objects_test l (setup_of M.setup) M.chain M.slots M.saved_stack M.saved_frames c.args.m

abbrev tests : Start → List Bool
tests c =
    let M = lent c in let m = c.args.m in let s = setup_of M.setup in
    setup_held M.setup ∷ counted M m c.args.fuel ∷ tower_test s M.stack M.frames M.chain m ∷ objects-by c (sizes_of s)
    ∷ queues_test M.ready M.finalize M.slots m ∷ []

-- the first n have passed
abbrev Passed : ℕ → Start → Type 0
Passed n c = Left (from n (tests c)) (sound_words (lent c) c.args.m c.args.fuel)

begun : (c : Start) → Passed 0 c
begun c = record { is = whole_same (lent c) c.args.m c.args.fuel }

-- what each part told
held : (c : Else-not-setup_held) → setup_held c.args.setup.now ≡ true
held c = sym c.setup_held.ensures ∙ c.if-not-setup_held.false

numbers : (c : After-numbers_ok) (b : Bool) → c.numbers_ok.result ≡ b → counted (lent c.before.before.before.before.before.before.before.before.before.before.before.before.before) c.args.m c.args.fuel ≡ b
numbers c b e = sym (ap (numbers-by c.before.before.before.before.before.before.before.before.before.before.before.before.before) c.sizes-sizes.ensures.words) ∙ sym c.numbers_ok.ensures ∙ e

ready : (c : Else-not-numbers_ok) → counted (lent c.before.before.before.before.before.before.before.before.before.before.before.before.before.before) c.args.m c.args.fuel ≡ true
ready c = numbers c.before true c.if-not-numbers_ok.false

objects : (c : After-objects_ok) (b : Bool) → c.objects_ok.result ≡ b → objects-by c.before.before.before.before.before.before.before.before.before.before.before.before.before.before.before.before.before.before.before.before (sizes_of (setup_of c.args.setup.now)) ≡ b
objects c b e = sym (ap (objects-by c.before.before.before.before.before.before.before.before.before.before.before.before.before.before.before.before.before.before.before.before) c.sizes-sizes.ensures.words) ∙ sym c.objects_ok.ensures ∙ e

passed-1 : (c : Else-not-setup_held) → Passed 1 c.before.before.before.before.before.before.before.before.before.before.before
passed-1 c = pass (begun c.before.before.before.before.before.before.before.before.before.before.before) (held c)

passed-2 : (c : Else-not-numbers_ok) → Passed 2 c.before.before.before.before.before.before.before.before.before.before.before.before.before.before
passed-2 c = pass (passed-1 c.before.before.before) (ready c)

passed-3 : (c : Else-not-tower_ok) → Passed 3 c.before.before.before.before.before.before.before.before.before.before.before.before.before.before.before.before.before.before
passed-3 c = pass (passed-2 c.before.before.before.before) (sym c.tower_ok.ensures ∙ c.if-not-tower_ok.false)

pub returns-then-not-setup_held : goal.returns-then-not-setup_held
returns-then-not-setup_held c = stop (begun c.before.before.before.before.before.before.before.before.before.before.before.before) (sym c.setup_held.ensures ∙ c.if-not-setup_held.true)

pub sizes-sizes-requires : goal.sizes-sizes-requires
sizes-sizes-requires c = setup-fits c.args.setup.now (held c.before)

pub numbers_ok-requires : goal.numbers_ok-requires
numbers_ok-requires c = subst SizesFit (sym c.sizes-sizes.ensures.words) (sizes-fit c.args.setup.now (held c.before.before))

pub returns-then-not-numbers_ok : goal.returns-then-not-numbers_ok
returns-then-not-numbers_ok c = stop (passed-1 c.before.before.before.before) (numbers c.before.before false c.if-not-numbers_ok.true)

pub catches-need-requires : goal.catches-need-requires
catches-need-requires c = held c.before.before.before.before

pub tower_ok-requires : goal.tower_ok-requires
tower_ok-requires c = tower-fits (lent c.before.before.before.before.before.before.before.before.before.before.before.before.before.before.before.before.before) c.args.m c.args.fuel (held c.before.before.before.before.before.before) (ready c.before.before.before) _ c.catches-need.ensures

pub returns-then-not-tower_ok : goal.returns-then-not-tower_ok
returns-then-not-tower_ok c = stop (passed-2 c.before.before.before.before.before) (sym c.tower_ok.ensures ∙ c.if-not-tower_ok.true)

pub objects_ok-requires : goal.objects_ok-requires
objects_ok-requires c =
    let a = c.args in
    subst
    (λ (l : Sizes). ObjectsFit a.chain.now a.slots.now a.saved.now a.asleep.now c.catches-need.result a.setup.now l a.m)
    (sym c.sizes-sizes.ensures.words)
    (objects-fit (lent c.before.before.before.before.before.before.before.before.before.before.before.before.before.before.before.before.before.before.before.before) a.m a.fuel (held c.before.before.before.before.before.before.before.before.before) (ready c.before.before.before.before.before.before) _ c.catches-need.ensures)

pub returns-then-not-objects_ok : goal.returns-then-not-objects_ok
returns-then-not-objects_ok c = stop (passed-3 c.before.before.before.before) (objects c.before.before false c.if-not-objects_ok.true)

pub queues_ok-requires : goal.queues_ok-requires
queues_ok-requires c = queues-fit (lent c.before.before.before.before.before.before.before.before.before.before.before.before.before.before.before.before.before.before.before.before.before.before) c.args.m c.args.fuel (held c.before.before.before.before.before.before.before.before.before.before.before) (ready c.before.before.before.before.before.before.before.before)

pub returns : goal.returns
returns c = last (pass (passed-3 c.before.before.before.before.before) (objects c.before.before.before true c.if-not-objects_ok.false)) c.queues_ok.ensures
