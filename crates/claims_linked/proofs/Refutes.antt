-- What each field of the linked calls' records refuses: a linked function that is wrong at one place, and there alone. A record stands as a hypothesis:
-- so a field that says less is refused at its own theorem.
use Prim.Native.Nat.{ℕ, suc, ◌-◌, ◌*◌, ◌≤◌, ◌<◌}
use native.Mathlib.Omega.{arith}
use mathlib.Core.Path.{◌≡◌, sym, ap, ◌∙◌}
use mathlib.Core.Bool.{Bool, true, false, true≢false}
use mathlib.Core.List.{List, [], ◌∷◌, ◌++◌, map}
use lib.ListN.{length, get_or, drop}
use Rattle.lists.specs.Chunks.{words}
use Rattle.lists.specs.Parts.{part, splice}
use Rattle.lists.specs.Pick.{pick}
use Rattle.heap.specs.declared.fault.Fault.{Fault}
use Rattle.model.specs.Lists.{is_nil, each, among}
use Rattle.model.specs.Answer as Said
use Rattle.model.specs.Call.{is_word, typed, Operation}
use Rattle.model.specs.declared.call.Op.{Op}
use Rattle.model.specs.declared.call.Answer.{Answer}
use Rattle.memory_world.specs.Words.{sizes_of}
use Rattle.memory_world.specs.Decode.{setup_of}
use Rattle.memory_calls.specs.Call.{refusal, op_of, op_words}
use Rattle.memory_calls.specs.Answer.{answer_words}
use Rattle.memory_calls.specs.declared.call.Gate.{Gate}
use Rattle.std.specs.Prelude.{Result, Ok, Err}
use Rattle.claims_model.specs.Engine.{Turn, turn_call, run_turns}
use Rattle.memory_step.specs.Step.{MemoryState, is_sound, decoded, looked, set_up_ok, MemoryCall, Do, memory_step}
use Rattle.memory_step.specs.Sentences.{unchanging}
use Rattle.claims_memory.specs.Engine.{memory_engine}
use Rattle.outer_run.specs.Run.{run_words, count_of, calls_in}
use Rattle.linked_calls.specs.Words.{sizes_in}
use Rattle.linked_calls.specs.Host.{Host, host, state_of, passes_test, Gave, short, call_in, Granted, Looked, look_in, set_up_in, run_host}
use Rattle.claims_linked.specs.Batch.{Calls, Batch}
use Rattle.claims_linked.specs.Library.{NoFault, Passes, HasRoom, sevens, Library}
use Rattle.claims_linked.specs.Linked.{Link, left_by_all, AllFit, TurnsOfAll, Linked}

-- ---- a call

module _ (p : Library) (call : Host → Result Op Gate → List ℕ → Gave) (same : (h : Host) (r : Result Op Gate) (xs : List ℕ) → call h r xs ≡ call_in h r xs) where
  -- another number, other words of the answer
  told-number : (h : Host) (o : Operation) (xs : List ℕ) → passes_test h ≡ true → 8 ≤ length xs → ((call h (Ok o.op) xs).number ≡ Said.number_of (memory_step (state_of h) (Do o)).answer → ⊥) → ⊥
  told-number h o xs e l wrong = wrong (ap (λ (g : Gave). g.number) (same h (Ok o.op) xs) ∙ (p.told h o xs e l).1)

  told-answer : (h : Host) (o : Operation) (xs : List ℕ) → passes_test h ≡ true → 8 ≤ length xs → ((call h (Ok o.op) xs).answer ≡ splice xs 0 (answer_words (memory_step (state_of h) (Do o)).answer) → ⊥) → ⊥
  told-answer h o xs e l wrong = wrong (ap (λ (g : Gave). g.answer) (same h (Ok o.op) xs) ∙ (p.told h o xs e l).0)

  -- words that are no call change the machine; so does 13; no such fault is accepted
  no_call : (h : Host) (ws xs : List ℕ) (g : Gate) → passes_test h ≡ true → 8 ≤ length xs → op_of ws ≡ Err g → ((call h (op_of ws) xs).host ≡ h → ⊥) → ⊥
  no_call h ws xs g e l q wrong = wrong (ap (λ (x : Gave). x.host) (same h (op_of ws) xs ∙ p.no_call h ws xs g e l q))

  unchanged : (h : Host) (ws xs : List ℕ) → each is_word ws ≡ true → (call h (op_of ws) xs).number ≡ 13 → ((call h (op_of ws) xs).host ≡ h → ⊥) → ⊥
  unchanged h ws xs w n wrong =
      let s = same h (op_of ws) xs in
      wrong (ap (λ (x : Gave). x.host) s ∙ p.unchanged h ws xs w (ap (λ m. among m unchanging) (sym (ap (λ (x : Gave). x.number) s) ∙ n)))

  no-fault : (h : Host) (ws xs : List ℕ) → each is_word ws ≡ true → 8 ≤ length xs → NoFault (op_of ws) → (call h (op_of ws) xs).number ≡ 0 → ⊥
  no-fault h ws xs w l q n = let z : ◌≡◌ {A = ℕ} 0 11 = sym n ∙ (ap (λ (x : Gave). x.number) (same h (op_of ws) xs) ∙ p.no-fault h ws xs w l q) in omega (arith, z)

  -- without room the answer is written; a machine that does not pass is changed; the host's own words are
  no-room-call : (h : Host) (r : Result Op Gate) (xs : List ℕ) → length xs < 8 → ((call h r xs).answer ≡ xs → ⊥) → ⊥
  no-room-call h r xs l wrong = wrong (ap (λ (x : Gave). x.answer) (same h r xs ∙ (p.no_room h xs).call r l))

  untested-call : (h : Host) (r : Result Op Gate) (xs : List ℕ) → passes_test h ≡ false → 8 ≤ length xs → ((call h r xs).host ≡ h → ⊥) → ⊥
  untested-call h r xs e l wrong = wrong (ap (λ (x : Gave). x.host) (same h r xs ∙ (p.untested h xs e).call r l))

  beyond-machine : (h : Host) (r : Result Op Gate) (xs : List ℕ) → (drop 25 (call h r xs).host.machine ≡ drop 25 h.machine → ⊥) → ⊥
  beyond-machine h r xs wrong = wrong (ap (λ (x : Gave). drop 25 x.host.machine) (same h r xs) ∙ (p.beyond h r [] xs).0.machine)

  beyond-fuel : (h : Host) (r : Result Op Gate) (xs : List ℕ) → (drop 4 (call h r xs).host.fuel ≡ drop 4 h.fuel → ⊥) → ⊥
  beyond-fuel h r xs wrong = wrong (ap (λ (x : Gave). drop 4 x.host.fuel) (same h r xs) ∙ (p.beyond h r [] xs).0.fuel)

-- ---- a run

module _ (p : Library) (batch : Host → List ℕ → List ℕ → Gave) (same : (h : Host) (cs xs : List ℕ) → batch h cs xs ≡ run_host h cs xs) where
  answered : (h : Host) (cs xs : List ℕ) → passes_test h ≡ true → count_of (length cs) * 8 ≤ length xs → (batch h cs xs).number ≡ 11 → ⊥
  answered h cs xs e l n = let z : ◌≡◌ {A = ℕ} 11 0 = sym n ∙ (ap (λ (x : Gave). x.number) (same h cs xs) ∙ (p.answered h cs xs e l).1) in omega (arith, z)

  answers : (h : Host) (cs xs : List ℕ) → passes_test h ≡ true → count_of (length cs) * 8 ≤ length xs
      → ((batch h cs xs).answer ≡ splice xs 0 (words answer_words (run_words (state_of h) (calls_in (count_of (length cs)) cs)).answers) → ⊥) → ⊥
  answers h cs xs e l wrong = wrong (ap (λ (x : Gave). x.answer) (same h cs xs) ∙ (p.answered h cs xs e l).0)

  -- 14, and the machine is changed; without room another number
  not-run : (h : Host) (cs xs : List ℕ) → (batch h cs xs).number ≡ 14 → ((batch h cs xs).host ≡ h → ⊥) → ⊥
  not-run h cs xs n wrong =
      let s = same h cs xs in
      wrong (ap (λ (x : Gave). x.host) s ∙ p.not-run h cs xs (λ z. let y : ◌≡◌ {A = ℕ} 14 0 = sym n ∙ (ap (λ (x : Gave). x.number) s ∙ z) in omega (arith, y)))

  no-room-run : (h : Host) (cs xs : List ℕ) → length xs < count_of (length cs) * 8 → ((batch h cs xs).number ≡ short (passes_test h) → ⊥) → ⊥
  no-room-run h cs xs l wrong = wrong (ap (λ (x : Gave). x.number) (same h cs xs ∙ (p.no_room h xs).run cs l))

-- ---- a set-up

module _ (p : Library) (begin : Host → List ℕ → List ℕ → Gave) (same : (h : Host) (given xs : List ℕ) → begin h given xs ≡ set_up_in h given xs) where
  -- a bad one is accepted; a good one is not, or leaves a machine that does not pass; without room the answer is written
  bad-set-up : (h : Host) (given xs : List ℕ) → 8 ≤ length xs → set_up_ok given h.words ≡ false → (begin h given xs).number ≡ 0 → ⊥
  bad-set-up h given xs l e n =
      let z : ◌≡◌ {A = ℕ} 0 11 = sym n ∙ ap (λ (x : Gave). x.number) (same h given xs ∙ p.bad-set-up h given xs l (λ _ q. true≢false (sym q ∙ e))) in
      omega (arith, z)

  begins-number : (h : Host) (given xs : List ℕ) → HasRoom h xs → set_up_ok given h.words ≡ true → (begin h given xs).number ≡ 11 → ⊥
  begins-number h given xs r e n = let z : ◌≡◌ {A = ℕ} 11 0 = sym n ∙ (ap (λ (x : Gave). x.number) (same h given xs) ∙ (p.set-up h given xs r e).number) in omega (arith, z)

  begins-passes : (h : Host) (given xs : List ℕ) → HasRoom h xs → set_up_ok given h.words ≡ true → passes_test (begin h given xs).host ≡ false → ⊥
  begins-passes h given xs r e n = true≢false (sym (ap (λ (x : Gave). passes_test x.host) (same h given xs) ∙ (p.set-up h given xs r e).passes) ∙ n)

  no-room-set-up : (h : Host) (given xs : List ℕ) → length xs < 8 → ((begin h given xs).answer ≡ xs → ⊥) → ⊥
  no-room-set-up h given xs l wrong = wrong (ap (λ (x : Gave). x.answer) (same h given xs ∙ (p.no_room h xs).set-up given l))

-- ---- a grant, a look

no-room-grant : Library → (h : Host) (n : ℕ) (xs fs' xs' : List ℕ) (r : ℕ) → length xs < 8 → Granted h n xs fs' xs' r → (xs' ≡ xs → ⊥) → ⊥
no-room-grant p h n xs fs' xs' r l g wrong = wrong ((p.no_room h xs).grant n fs' xs' r l g).1

untested-grant : Library → (h : Host) (n : ℕ) (xs fs' xs' : List ℕ) (r : ℕ) → passes_test h ≡ false → 8 ≤ length xs → Granted h n xs fs' xs' r → r ≡ 0 → ⊥
untested-grant p h n xs fs' xs' r e l g z = let y : ◌≡◌ {A = ℕ} 0 11 = sym z ∙ ((p.untested h xs e).grant n fs' xs' r l g).2 in omega (arith, y)

module _ (p : Library) (look : Host → List ℕ → Looked) (same : (h : Host) (zs : List ℕ) → look h zs ≡ look_in h zs) where
  -- a look is refused; it tells one word more; a machine that does not pass is looked at
  sees : (h : Host) (zs : List ℕ) → passes_test h ≡ true → 2 ≤ length zs → (look h zs).number ≡ 11 → ⊥
  sees h zs e l n = let z : ◌≡◌ {A = ℕ} 11 0 = sym n ∙ ap (λ (x : Looked). x.number) (same h zs ∙ p.sees h zs e l) in omega (arith, z)

  looks : (h : Host) (zs : List ℕ) → passes_test h ≡ true → 2 ≤ length zs
      → (let span = (look h zs).span in length (part (get_or span 0 0) (get_or span 1 0 - get_or span 0 0) h.words.stack) ≡ suc (length (looked (state_of h)))) → ⊥
  looks h zs e l n =
      let z = sym n ∙ ap (λ (xs : List ℕ). length xs) (ap (λ (x : Looked). part (get_or x.span 0 0) (get_or x.span 1 0 - get_or x.span 0 0) h.words.stack) (same h zs) ∙ p.looks h zs e l) in
      omega (arith, z)

  untested-look : (h : Host) (zs : List ℕ) → passes_test h ≡ false → 2 ≤ length zs → (look h zs).number ≡ 0 → ⊥
  untested-look h zs e l n = let z : ◌≡◌ {A = ℕ} 0 11 = sym n ∙ ap (λ (x : Looked). x.number) (same h zs ∙ (p.untested h zs e).look l) in omega (arith, z)

-- ---- the test

module _ (p : Library) (test : Host → Bool) (same : (h : Host) → test h ≡ passes_test h) where
  -- it lets words of 7 pass; it refuses a machine that has all; it refuses the fuel of another machine that it lets pass
  fails : test sevens ≡ true → ⊥
  fails e = true≢false (sym e ∙ (same sevens ∙ p.fails))

  exactly : (h : Host) → Passes h → test h ≡ false → ⊥
  exactly h q e = true≢false (sym (same h ∙ p.exactly h q) ∙ e)

  any_fuel : (h g : Host) → test h ≡ true → test g ≡ true → test (host h.words h.machine g.fuel) ≡ false → ⊥
  any_fuel h g a b e = true≢false (sym (same (host h.words h.machine g.fuel) ∙ p.any_fuel h g (sym (same h) ∙ a) (sym (same g) ∙ b)) ∙ e)

  -- it lets a machine pass with 24 words; with three words of fuel; with a flag, or an outcome, beyond its range; with sizes that are not its set-up's; that is
  -- not well-formed
  short-machine : (h : Host) → test h ≡ true → length h.machine < 25 → ⊥
  short-machine h e l = let z = (p.passing h (sym (same h) ∙ e)).machine in omega (arith, z, l)

  short-fuel : (h : Host) → test h ≡ true → length h.fuel < 4 → ⊥
  short-fuel h e l = let z = (p.passing h (sym (same h) ∙ e)).fuel in omega (arith, z, l)

  wrong-ready : (h : Host) → test h ≡ true → get_or h.fuel 3 0 ≡ 2 → ⊥
  wrong-ready h e n = let z = (p.passing h (sym (same h) ∙ e)).ready in omega (arith, z, n)

  wrong-outcome : (h : Host) → test h ≡ true → get_or h.machine 9 0 ≡ 6 → ⊥
  wrong-outcome h e n = let z = (p.passing h (sym (same h) ∙ e)).outcome in omega (arith, z, n)

  wrong-sizes : (h : Host) → test h ≡ true → (sizes_in h.machine ≡ sizes_of (setup_of h.words.setup) → ⊥) → ⊥
  wrong-sizes h e wrong = wrong (p.passing h (sym (same h) ∙ e)).sizes

  ill-formed : (h : Host) → test h ≡ true → is_sound (state_of h) ≡ false → ⊥
  ill-formed h e n = true≢false (sym (p.passing h (sym (same h) ∙ e)).sound ∙ n)

-- ---- lists of linked calls

module _ (p : Linked) where
  -- a reader takes an operand beyond its type; it does not know words that say a call
  within : (read : List ℕ → Result Op Gate) → ((ws : List ℕ) → read ws ≡ op_of ws) → (ws : List ℕ) (o : Op) → each is_word ws ≡ true → read ws ≡ Ok o → typed o ≡ false → ⊥
  within read same ws o w e t = true≢false (sym (p.within ws o w (sym (same ws) ∙ e)) ∙ t)

  said : (read : List ℕ → Result Op Gate) → ((ws : List ℕ) → read ws ≡ op_of ws) → (o : Op) → typed o ≡ true → (read (op_words o) ≡ Ok o → ⊥) → ⊥
  said read same o t wrong = wrong (same (op_words o) ∙ p.said o t)

  -- a list that is no list of turns; a list that leaves a machine that does not pass
  turns : (h : Host) (ls : List Link) → AllFit h ls → ((ts : List (Turn MemoryCall)) → TurnsOfAll ls ts → ⊥) → ⊥
  turns h ls f wrong = wrong (p.turns h ls f).0 (p.turns h ls f).1

  passes : (h : Host) (ls : List Link) → passes_test h ≡ true → AllFit h ls → passes_test (left_by_all h ls) ≡ false → ⊥
  passes h ls e f n = true≢false (sym (p.passes h ls e f) ∙ n)

module _ (p : Batch) where
  -- what is read is no list of calls
  listed : (n : ℕ) (cs : List ℕ) → each is_word cs ≡ true → ((ks : List MemoryCall) → Calls (calls_in n cs) ks → ⊥) → ⊥
  listed n cs w wrong = let l = p.listed n cs w in wrong l.list l.calls

  -- an answer is left out; words that are no call are accepted
  long-answers : (s : MemoryState) (rs : List (Result Op Gate)) → suc (length (run_words s rs).answers) ≡ length rs → ⊥
  long-answers s rs n = let z = p.long s rs in omega (arith, z, n)

  refused : (s : MemoryState) (rs : List (Result Op Gate)) (ks : List MemoryCall) (g : Gate) (more : List (Result Op Gate)) → Calls rs ks
      → let t = run_turns memory_engine s (map turn_call ks) in let n = Said.number_of (Answer.Refused (pick (is_sound t) (refusal g (is_nil (decoded t).frames)) Fault.Unsound)) in
      (Said.number_of (get_or (run_words s (rs ++ (Err g ∷ more))).answers (length rs) Answer.Accepted) ≡ n → ⊥) → ⊥
  refused s rs ks g more q wrong = wrong (ap (λ a. Said.number_of a) (p.refused s rs ks g more Answer.Accepted q))
