-- What each field of the sheet's records refuses: a machine that is wrong at one place, which the field tells from `step` there. `step` stays shut, and a
-- record stands as a hypothesis: so where a field says less, its own theorem fails.
use Prim.Native.Nat.{ℕ}
use mathlib.Core.Path.{◌≡◌, refl, sym, ap, subst, ◌∙◌}
use mathlib.Core.Bool.{true, false, true≢false, false≢true}
use mathlib.Core.Option.{Option, none, some}
use mathlib.Core.List.{List, [], ◌∷◌, map}
use lib.ListN.{length, drop}
use lib.Dec.{eqb, leb}
use borrow.Author.Tests.{eq-eqb}
use Rattle.lists.specs.Pick.{pick}
use Rattle.heap.specs.Coding.{in_range}
use Rattle.heap.specs.Table.{Slot, slot}
use Rattle.heap.specs.declared.fault.Fault.{Fault}
use Rattle.std.specs.Prelude.{Some, None}
use Rattle.model.specs.Program.{Setup, setup_ok}
use Rattle.model.specs.Lists.{is_nil, among}
use Rattle.model.specs.Sound.{is_none, sound}
use Rattle.model.specs.Object.{Rest, Object}
use Rattle.model.specs.World.{World, After, after, fresh}
use Rattle.model.specs.Answer.{number_of, word_of, step_of}
use Rattle.model.specs.Call.{Call, SetUp, Do, Operation, typed, as_call}
use Rattle.model.specs.Step.{Out, out, told, step}
use Rattle.model.specs.Compute.{computed}
use Rattle.model.specs.ClosingList.{ClosingList}
use Rattle.model.proofs.ClosingList.{allowed}
use Rattle.model.specs.declared.exec.Step.{Step}
use Rattle.model.specs.declared.machine.Active.{Active}
use Rattle.model.specs.declared.machine.Frame.{Frame}
use Rattle.model.specs.declared.machine.Stop.{Stop}
use Rattle.model.specs.declared.call.Op.{Op}
use Rattle.model.specs.declared.call.Answer.{Answer}
use Rattle.claims_sheet.specs.Setters.{with_stack, with_frames, with_chain, with_slots, with_ready, with_finalize, with_finalizing, with_outcome, with_used, with_seq, with_fuel, with_maxregs, with_maxframes}
use Rattle.claims_sheet.specs.Lines.{Lines, lines, says, refuse}
use Rattle.claims_sheet.specs.Does.{operation}
use Rattle.claims_sheet.specs.Words.{found, is_nothing, is_coroutine, core_of, rest_of, no_slot}
use Rattle.claims_sheet.specs.Suspending as Suspending
use Rattle.claims_sheet.specs.Unwinding.{top_pc}
use Rattle.claims_sheet.specs.Sheet.{lie, sheet, FaultSheet}
use Rattle.claims_sheet.specs.Sentences.{gives, FullAfter9, Sentences}
use Rattle.claims_sheet.specs.Answers.{is_instruction, outcome_word, Answers}
use Rattle.claims_sheet.specs.Pep342 as Pep342
use Rattle.claims_sheet.specs.Pep342.{pays, at, held, enters, Passes}
use Rattle.claims_sheet.specs.Yields.{next_key}
use Rattle.claims_sheet.specs.Charging.{charged}
use Rattle.claims_sheet.specs.Mistakes.{Runs, Paid, Among, Mistakes}
use Rattle.claims_sheet.specs.SetUps.{Fresh}
use Rattle.claims_sheet.specs.SmallRuns.{small, usual, c, run, holding, running}
use Rattle.claims_sheet.specs.Premises.{top_of}
use Rattle.claims_sheet.specs.RefusedEngines.{Engine, Keeps, always, accepting, showing}

-- it does what `step` does
abbrev pub Steps : Engine → Type 0
Steps e = (w : World) (k : Call) → e w k ≡ step w k

pub differ : {m n : ℕ} → m ≡ n → eqb m n ≡ false → ⊥
differ {m} {n} e h = true≢false (sym (eq-eqb m n e) ∙ h)

-- a list that is not empty, a list of one, a coroutine, taken apart
pub split : (fs : List Frame) → is_nil fs ≡ false → fs ≡ top_of fs ∷ drop 1 fs
split [] h = absurd (true≢false h)
split (f ∷ fs) h = refl

alone : (as' : List Active) → is_nil as' ≡ false → is_nil (drop 1 as') ≡ true → as' ≡ Suspending.innermost_active as' ∷ []
alone [] h k = absurd (true≢false h)
alone (a ∷ []) h k = refl
alone (a ∷ b ∷ as') h k = absurd (false≢true k)

parts : (o : Object) → is_coroutine o ≡ true → o ≡ Object.Coro (core_of o) (rest_of o)
parts Object.Empty h = absurd (false≢true h)
parts (Object.Func n) h = absurd (false≢true h)
parts (Object.Int n) h = absurd (false≢true h)
parts (Object.Iter s d k) h = absurd (false≢true h)
parts (Object.Error e n p v) h = absurd (false≢true h)
parts (Object.Coro k r) h = refl

-- ---- machines, and places

-- 129 frames: one too many
abbrev deep : Setup
deep =
    record {
      limits = record { depth = 129; stack = 10; rows = 2; slots = 8; memory = 4096 };
      costs = usual.costs;
      hook = usual.hook;
      functions = usual.functions;
    }

-- set-ups: it answers a word; what they leave is changed
abbrev naming : Engine
naming w (SetUp s) = told (after (fresh s) (Answer.Word 7))
naming w (Do o) = step w (Do o)

abbrev leaving : (World → World) → Engine
leaving f w (SetUp s) = told (after (f (fresh s)) Answer.Accepted)
leaving f w (Do o) = step w (Do o)

-- every call sees a word; every answer is this
abbrev telling : Engine
telling w k = out (after (step w k).world (step w k).answer) (7 ∷ [])

abbrev answering : Answer → Engine
answering a w k = out (after (step w k).world a) (step w k).seen

-- what a call leaves is changed
abbrev pub changing : (World → World) → Engine
changing f w k = out (after (f (step w k).world) (step w k).answer) (step w k).seen

abbrev new : World
new = run (holding 1 [])

abbrev inside : World
inside = run (running 1 [])

abbrev is_some : Option Step → ℕ
is_some none = 0
is_some (some s) = 1

-- ---- FaultSheet

sheet-set-up : FaultSheet → Steps accepting → ⊥
unfolding pick setup_ok
sheet-set-up p is = differ (ap (λ (o : Out). number_of o.answer) (is (fresh usual) (SetUp deep) ∙ p.set-up (fresh usual) deep)) refl

sheet-says-number : FaultSheet → Steps (always Fault.OutOfFuel) → (w : World) (o : Operation) → eqb 10 (says (sheet o.op w)) ≡ false → ⊥
sheet-says-number p is w o h = differ (ap (λ (x : Out). number_of x.answer) (is w (Do o)) ∙ p.says-number w o) h

sheet-sees-nothing : FaultSheet → Steps telling → (w : World) (o : Operation) → (o.op ≡ Op.Look → ⊥) → ⊥
sheet-sees-nothing p is w o h = differ (ap (λ (x : Out). length x.seen) (is w (Do o)) ∙ ap (λ (xs : List ℕ). length xs) (p.sees-nothing w o h)) refl

-- ---- Sentences

given : Sentences → Steps (always Fault.OutOfFuel) → (w : World) (o : Operation) → gives 10 (sheet o.op w) ≡ false → ⊥
given p is w o h = true≢false (ap (λ (x : Out). eqb (number_of x.answer) 10) (is w (Do o)) ∙ (p.given 10 w o ∙ h))

given-set-up : Sentences → Steps accepting → ⊥
unfolding pick setup_ok
given-set-up p is = differ (ap (λ (o : Out). number_of o.answer) (is (fresh usual) (SetUp deep)) ∙ p.given-set-up (fresh usual) deep) refl

-- a table that tests for a slot first
abbrev slot_first : Op → World → Lines Answer
slot_first o w = lines (refuse 14 (no_slot w) w ∷ (sheet o w).tests) (sheet o w).done

full-after-9 : Sentences → ((o : Op) (w : World) → slot_first o w ≡ sheet o w) → ⊥
unfolding computed
full-after-9 p is =
    let o = operation (Op.Resume 2 1 0 2) refl in
    true≢false (subst (λ (s : Lines Answer). FullAfter9 s.tests) (sym (is o.op new)) (p.full-after-9 new o)).0

full : Sentences → Steps (always Fault.Full) → ⊥
unfolding computed
full p is =
    let o = operation (Op.Grant 1) refl in
    false≢true (p.full new usual [] o refl (sym (ap (λ (o : Out). number_of o.answer) (is (step new (SetUp usual)).world (Do o)))))

-- ---- Answers

set-up-word : Answers → Steps naming → ⊥
set-up-word p is = differ (ap (λ (o : Out). word_of o.answer) (is (fresh usual) (SetUp usual)) ∙ p.set-up-word (fresh usual) usual) refl

-- make iterator answers nil
iterator : Answers → Steps (answering (Answer.Word 0)) → (w : World) (v : ℕ) (t : typed (Op.MakeIterator v) ≡ true) → ⊥
unfolding pick
iterator p is w v t =
    let same = is w (Do (operation (Op.MakeIterator v) t)) in
    true≢false (ap (λ (o : Out). is_nothing (found o.world (word_of o.answer))) same ∙ ap is_nothing (p.iterator w v t (sym (ap (λ (o : Out). number_of o.answer) same))))

-- 11, and a call that is no instruction, with a Step
no_step : Answers → Steps (answering (Answer.Stepped (Step.Fault Fault.Unsound) 0)) → (w : World) (k : Call) → ⊥
no_step p is w k =
    let same = is w k in
    differ (ap (λ (o : Out). is_some (step_of o.answer)) same ∙ ap is_some (p.no_step w k (sym (ap (λ (o : Out). among (number_of o.answer) (11 ∷ 12 ∷ 13 ∷ 15 ∷ 16 ∷ [])) same)))) refl

no-instruction : Answers → Steps (answering (Answer.Stepped Step.Next 0)) → (w : World) (o : Operation) → is_instruction o.op ≡ false → ⊥
no-instruction p is w o h = differ (ap (λ (o : Out). is_some (step_of o.answer)) (is w (Do o)) ∙ ap is_some (p.no-instruction w o h)) refl

look : Answers → Steps showing → (w : World) (t : typed Op.Look ≡ true) (f : Frame) (fs : List Frame) → sound w ≡ true → w.frames ≡ f ∷ fs → eqb (length w.stack) (length (drop f.base w.stack)) ≡ false → ⊥
look p is w t f fs s e h = differ (ap (λ (o : Out). length o.seen) (is w (as_call Op.Look t)) ∙ ap (λ (xs : List ℕ). length xs) (p.look w t f fs s e)) h

look-empty : Answers → Steps telling → (w : World) (t : typed Op.Look ≡ true) → w.frames ≡ [] → ⊥
look-empty p is w t e = differ (ap (λ (o : Out). length o.seen) (is w (as_call Op.Look t)) ∙ ap (λ (xs : List ℕ). length xs) (p.look-empty w t e)) refl

no-look : Answers → Steps telling → (w : World) (o : Operation) → (o.op ≡ Op.Look → ⊥) → ⊥
no-look p is w o h = differ (ap (λ (x : Out). length x.seen) (is w (Do o)) ∙ ap (λ (xs : List ℕ). length xs) (p.no-look w o h)) refl

-- ---- Mistakes

-- the largest sizes are forgotten; the coroutine is lost; the memory figure is 7
abbrev forgotten : (Rest → Rest) → Object → Object
forgotten f Object.Empty = Object.Empty
forgotten f (Object.Func n) = Object.Func n
forgotten f (Object.Int n) = Object.Int n
forgotten f (Object.Iter s d k) = Object.Iter s d k
forgotten f (Object.Error e n p v) = Object.Error e n p v
forgotten f (Object.Coro k r) = Object.Coro k (f r)

abbrev pub forget : (Rest → Rest) → Slot Object → Slot Object
forget f s = slot s.tag (forgotten f s.object)

abbrev pub forgetting : (Rest → Rest) → Engine
forgetting f = changing (λ z. with_slots (map (forget f) z.slots) z)

abbrev losing : Engine
losing = changing (λ z. with_slots [] z)

abbrev charging : Engine
charging = changing (with_used 7)

runs : Runs inside (rest_of (found inside c)) 2 1
unfolding computed
runs =
    record {
      active = Suspending.innermost_active inside.chain;
      outer = [];
      core = core_of (found inside c);
      over = [];
      body = top_of inside.frames;
      under = drop 1 inside.frames;
      chain = alone inside.chain refl refl;
      its_own = parts (found inside c) refl;
      stands = split inside.frames refl;
      floor = refl;
      words = refl;
      frames = refl;
    }

kept : Mistakes → (e : Engine) → Steps e → (t : typed (Op.Await 8 0 0) ≡ true) → Paid (e inside (Do (operation (Op.Await 8 0 0) t))).world c
unfolding computed runs
kept p e is t = subst (λ (x : Out). Paid x.world c) (sym (is inside (Do (operation (Op.Await 8 0 0) t)))) (p.size-kept 8 0 0 inside t refl (rest_of (found inside c)) 2 1 runs refl)

paid-found : Mistakes → Steps losing → ⊥
unfolding computed
paid-found p is = false≢true (ap is_coroutine (kept p losing is refl).found)

-- what is found there
words-in : {z : World} {v : ℕ} → Paid z v → leb (length (core_of (found z v)).regs) (rest_of (found z v)).maxregs ≡ true
words-in {z} {v} q = let e : leb (length (core_of (found z v)).regs) (rest_of (found z v)).maxregs ≡ leb (length q.core.regs) q.rest.maxregs = ap (λ o. leb (length (core_of o).regs) (rest_of o).maxregs) q.found in e ∙ q.words

frames-in : {z : World} {v : ℕ} → Paid z v → leb (length (core_of (found z v)).frames) (rest_of (found z v)).maxframes ≡ true
frames-in {z} {v} q = let e : leb (length (core_of (found z v)).frames) (rest_of (found z v)).maxframes ≡ leb (length q.core.frames) q.rest.maxframes = ap (λ o. leb (length (core_of o).frames) (rest_of o).maxframes) q.found in e ∙ q.frames

paid-words : Mistakes → Steps (forgetting (with_maxregs 0)) → ⊥
unfolding computed
paid-words p is = false≢true (words-in (kept p (forgetting (with_maxregs 0)) is refl))

paid-frames : Mistakes → Steps (forgetting (with_maxframes 0)) → ⊥
unfolding computed
paid-frames p is = false≢true (frames-in (kept p (forgetting (with_maxframes 0)) is refl))

size-once : Mistakes → Steps charging → (pc dst src : ℕ) (w : World) (t : typed (Op.Await pc dst src) ≡ true) → pays pc (lie (dst ∷ src ∷ []) w) w ≡ true →
    (r : Rest) (m n : ℕ) → Runs w r m n → leb m r.maxregs ≡ true → leb n r.maxframes ≡ true → eqb 7 w.used ≡ false → ⊥
size-once p is pc dst src w t h r m n q a b = differ (ap (λ (x : Out). x.world.used) (is w (Do (operation (Op.Await pc dst src) t))) ∙ p.size-once pc dst src w t h r m n q a b)

-- ---- any machine that is wrong there

module _ (p : Mistakes) (e : Engine) (is : Steps e) where
  size-entered : (pc dst c src : ℕ) (w : World) → Passes pc dst c src w → (t : typed (Op.Resume pc dst c src) ≡ true) → let v = held c pc w in enters Pep342.any_suspended v (at pc w) ≡ true →
      (leb (length (core_of (found (at pc w) v)).regs) (rest_of (found (e w (Do (operation (Op.Resume pc dst c src) t))).world v)).maxregs ≡ true → ⊥) → ⊥
  size-entered pc dst c src w h t q wrong =
      let v = held c pc w in
      wrong (ap (λ (x : Out). leb (length (core_of (found (at pc w) v)).regs) (rest_of (found x.world v)).maxregs) (is w (Do (operation (Op.Resume pc dst c src) t))) ∙ (p.size-entered pc dst c src w h t q).0)

  -- 5 or 7 with the pc stored
  yield-5 : (pc dst src : ℕ) (w : World) (t : typed (Op.Yield pc dst src) ≡ true) → pays pc (lie (dst ∷ src ∷ []) w) w ≡ true → is_nil (charged pc w).chain ≡ true →
      (top_pc (e w (Do (operation (Op.Yield pc dst src) t))).world.frames ≡ top_pc (charged pc w).frames → ⊥) → ⊥
  yield-5 pc dst src w t h q wrong = wrong (ap (λ (x : Out). top_pc x.world.frames) (is w (Do (operation (Op.Yield pc dst src) t))) ∙ ap (λ (x : After Answer). top_pc x.world.frames) (p.yield-5 pc dst src w t h q))

  yield-kv-5 : (pc dst src key : ℕ) (w : World) (t : typed (Op.YieldKv pc dst src key) ≡ true) → pays pc (lie (dst ∷ src ∷ key ∷ []) w) w ≡ true → is_nil (charged pc w).chain ≡ true →
      (top_pc (e w (Do (operation (Op.YieldKv pc dst src key) t))).world.frames ≡ top_pc (charged pc w).frames → ⊥) → ⊥
  yield-kv-5 pc dst src key w t h q wrong = wrong (ap (λ (x : Out). top_pc x.world.frames) (is w (Do (operation (Op.YieldKv pc dst src key) t))) ∙ ap (λ (x : After Answer). top_pc x.world.frames) (p.yield-kv-5 pc dst src key w t h q))

  await-5 : (pc dst src : ℕ) (w : World) (t : typed (Op.Await pc dst src) ≡ true) → pays pc (lie (dst ∷ src ∷ []) w) w ≡ true → is_nil (charged pc w).chain ≡ true →
      (top_pc (e w (Do (operation (Op.Await pc dst src) t))).world.frames ≡ top_pc (charged pc w).frames → ⊥) → ⊥
  await-5 pc dst src w t h q wrong = wrong (ap (λ (x : Out). top_pc x.world.frames) (is w (Do (operation (Op.Await pc dst src) t))) ∙ ap (λ (x : After Answer). top_pc x.world.frames) (p.await-5 pc dst src w t h q))

  yield-7 : (pc dst src : ℕ) (w : World) (t : typed (Op.Yield pc dst src) ≡ true) → pays pc (lie (dst ∷ src ∷ []) w) w ≡ true → is_nil (charged pc w).chain ≡ false → in_range 63 (next_key (charged pc w)) ≡ false →
      (top_pc (e w (Do (operation (Op.Yield pc dst src) t))).world.frames ≡ top_pc (charged pc w).frames → ⊥) → ⊥
  yield-7 pc dst src w t h q r wrong = wrong (ap (λ (x : Out). top_pc x.world.frames) (is w (Do (operation (Op.Yield pc dst src) t))) ∙ ap (λ (x : After Answer). top_pc x.world.frames) (p.yield-7 pc dst src w t h q r))

-- ---- Keeps, and what an accepted set-up leaves

closes : ClosingList usual
unfolding computed
closes = allowed usual refl

accepts : Keeps naming → ⊥
accepts k = differ (ap (λ a. word_of a) (k.accepts (fresh usual) usual closes)) refl

sees-nothing : Keeps telling → ⊥
unfolding computed
sees-nothing k = differ (ap (λ (xs : List ℕ). length xs) (k.sees-nothing new (operation (Op.Resume 2 1 0 2) refl) (λ h. true≢false (ap is_instruction h)))) refl

left : (f : World → World) → Keeps (leaving f) → Fresh usual (f (fresh usual))
left f k = k.begins (fresh usual) usual closes

fresh-setup : Keeps (leaving (λ z. fresh (small 2 8 4095 None))) → ⊥
fresh-setup k = differ (ap (λ (s : Setup). s.limits.memory) (left (λ z. fresh (small 2 8 4095 None)) k).setup) refl

fresh-stack : Keeps (leaving (with_stack (7 ∷ []))) → ⊥
fresh-stack k = differ (ap (λ (xs : List ℕ). length xs) (left (with_stack (7 ∷ [])) k).stack) refl

fresh-frames : Keeps (leaving (with_frames (top_of [] ∷ []))) → ⊥
fresh-frames k = differ (ap (λ (xs : List Frame). length xs) (left (with_frames (top_of [] ∷ [])) k).frames) refl

fresh-chain : Keeps (leaving (with_chain (Suspending.innermost_active [] ∷ []))) → ⊥
fresh-chain k = differ (ap (λ (xs : List Active). length xs) (left (with_chain (Suspending.innermost_active [] ∷ [])) k).chain) refl

fresh-slots : Keeps (leaving (with_slots [])) → ⊥
fresh-slots k = (left (with_slots []) k).slots

fresh-ready : Keeps (leaving (with_ready (7 ∷ []))) → ⊥
fresh-ready k = differ (ap (λ (xs : List ℕ). length xs) (left (with_ready (7 ∷ [])) k).ready) refl

fresh-finalize : Keeps (leaving (with_finalize (7 ∷ []))) → ⊥
fresh-finalize k = differ (ap (λ (xs : List ℕ). length xs) (left (with_finalize (7 ∷ [])) k).finalize) refl

fresh-finalizing : Keeps (leaving (with_finalizing true)) → ⊥
fresh-finalizing k = true≢false (left (with_finalizing true) k).finalizing

fresh-outcome : Keeps (leaving (with_outcome (Some (Stop.Yielded 7)))) → ⊥
fresh-outcome k = differ (ap outcome_word (left (with_outcome (Some (Stop.Yielded 7))) k).outcome) refl

fresh-used : Keeps (leaving (with_used 7)) → ⊥
fresh-used k = differ (left (with_used 7) k).used refl

fresh-seq : Keeps (leaving (with_seq 7)) → ⊥
fresh-seq k = differ (left (with_seq 7) k).seq refl

abbrev banking : World → World
banking = with_fuel (record { fuel = 0; bank = Some 7; ready = false })

fresh-bank : Keeps (leaving banking) → ⊥
fresh-bank k = false≢true (ap is_none (left banking k).bank)
