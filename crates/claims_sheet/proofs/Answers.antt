-- The word and the Step of every answer, and what a look sees.
use Prim.Native.Nat.{ℕ, ◌+◌, ◌/◌, ◌%◌, ◌^◌, ◌<◌, ◌≤◌}
use mathlib.Core.Path.{◌≡◌, refl, sym, ap, ap₂, subst, ◌∙◌}
use mathlib.Core.Bool.{Bool, true, false, not, ◌&&◌, ◌||◌, false≢true}
use mathlib.Core.List.{List, [], ◌∷◌, ◌++◌}
use mathlib.Core.Option.{Option, none, some}
use native.Mathlib.Omega.{arith}
use lib.ListN.{length, get_or}
use lib.Dec.{eqb, ltb, leb}
use borrow.Author.Tests.{leb-true, eq-eqb, le-leb, lt-ltb}
use Rattle.lists.specs.Pick.{pick}
use Rattle.heap.specs.Table.{Slot, slot}
use Rattle.std.specs.Prelude.{None}
use Rattle.model.specs.Lists.{each, among}
use Rattle.model.specs.Program.{setup_ok, limits_ok, costs_ok, function_ok, hook_ok, between}
use Rattle.model.specs.Object.{Object}
use Rattle.model.specs.World.{World, After, after}
use Rattle.model.specs.Sound.{sizes_ok, sound}
use Rattle.model.specs.Answer.{number_of, word_of, step_of}
use Rattle.model.specs.Call.{Call, SetUp, Do, Operation, typed}
use Rattle.model.specs.Step.{step}
use Rattle.model.specs.declared.machine.Frame.{Frame}
use Rattle.model.specs.declared.exec.Step.{Step}
use Rattle.model.specs.declared.call.Op.{Op}
use Rattle.model.specs.declared.call.Answer.{Answer}
use Rattle.claims_sheet.specs.Lines.{leads}
use Rattle.claims_sheet.specs.Does.{number, operation}
use Rattle.claims_sheet.specs.Words.{found, is_reference}
use Rattle.claims_sheet.specs.Makings.{stored}
use Rattle.claims_sheet.specs.OtherCalls as Others
use Rattle.claims_sheet.specs.Sheet.{table_of, sheet}
use Rattle.claims_sheet.specs.Sentences.{unchanging}
use Rattle.claims_sheet.specs.Answers.{word_for, thrown_for, is_instruction, Answers}
use Rattle.claims_sheet.proofs.Among.{and_left, and_right, and-false, not-false}
use Rattle.claims_sheet.proofs.Choice.{both, by-test}
use Rattle.claims_sheet.proofs.Rules.{set-up, sizes}
use Rattle.claims_sheet.proofs.WalkCalls.{is_none, bare, tell, fit}
use Rattle.claims_sheet.proofs.Sheet.{holds, leads-to}
use Rattle.claims_sheet.proofs.SheetNumbers.{set-up-has, look-sees, sees-nothing}
use Rattle.claims_sheet.proofs.Led.{here, led, led-answer}
use Rattle.claims_sheet.proofs.AnswerSteps.{Right, refused, answered}
use Rattle.claims_sheet.proofs.AnswerWords as Words
use Rattle.claims_sheet.proofs.AnswerWords.{Worded}

-- ---- no Step: of a call that is no instruction, and of a number that changes nothing

none_is : (a : Answer) → bare a ≡ true → step_of a ≡ none
none_is a h = go (step_of a) h
  where
    go : (s : Option Step) → is_none s ≡ true → s ≡ none
    go none h = refl
    go (some s) h = absurd (false≢true h)

bare-by : (b c : Bool) → b || c ≡ true → c ≡ false → b ≡ true
bare-by true c h k = refl
bare-by false c h k = absurd (false≢true (sym k ∙ h))

answer-is : (w : World) (o : Operation) → (step w (Do o)).answer ≡ (leads (sheet o.op w)).answer
answer-is w o = ap (λ (a : After Answer). a.answer) (leads-to w o)

module _ (w : World) (o : Operation) where
  abbrev a : Answer
  a = (step w (Do o)).answer

  fitting : fit (is_instruction o.op) a ≡ true
  fitting =
      ap (λ a. fit (is_instruction o.op) a) (answer-is w o)
      ∙ led-answer (fit (is_instruction o.op)) (sheet o.op w).tests (sheet o.op w).done (and_right (tell (table_of o.op w)) _ ((holds o.op).right w))

  no-instruction : is_instruction o.op ≡ false → step_of a ≡ none
  no-instruction e = none_is a (bare-by (bare a) _ fitting (ap (λ i. i && not (among (number_of a) unchanging)) e))

  no-step-by : among (number_of a) unchanging ≡ true → step_of a ≡ none
  no-step-by k = none_is a (bare-by (bare a) _ fitting (ap (λ n. is_instruction o.op && not n) k ∙ and-false (is_instruction o.op)))

no-step-of : (w : World) (c : Call) → among (number_of (step w c).answer) (11 ∷ 12 ∷ 13 ∷ 15 ∷ 16 ∷ []) ≡ true → step_of (step w c).answer ≡ none
no-step-of w (SetUp s) h = set-up-has (λ a. step_of a.answer ≡ none) w s (λ _. refl) (λ _. refl)
no-step-of w (Do o) h = no-step-by w o h

-- ---- the iterator that was made

at-end : (xs : List (Slot Object)) (s : Slot Object) → get_or (xs ++ (s ∷ [])) (length xs) (slot 0 Object.Empty) ≡ s
at-end [] s = refl
at-end (x ∷ xs) s = at-end xs s

-- the word of the next slot
module _ (n : ℕ) (h : n < 2 ^ 32) where
  abbrev v : ℕ
  v = 2 ^ 48 + n

  in-range : is_reference v ≡ true
  in-range = ap₂ ◌&&◌ (le-leb (2 ^ 48) v (omega (arith, h))) (lt-ltb v (2 ^ 49) (omega (arith, h)))

  low : v % 2 ^ 32 ≡ n
  low = omega (arith, h)

  high : v / 2 ^ 32 % 2 ^ 16 ≡ 0
  high = omega (arith, h)

lookup : (xs : List (Slot Object)) (o : Object) (w : World) (bytes : ℕ) → w.slots ≡ xs → length xs < 2 ^ 32 → found (stored o bytes w) (2 ^ 48 + length xs) ≡ o
lookup xs o w bytes e h =
    ap (λ (ys : List (Slot Object)). let s = get_or (ys ++ (slot 0 o ∷ [])) ((2 ^ 48 + length xs) % 2 ^ 32) (slot 0 Object.Empty) in
    pick (is_reference (2 ^ 48 + length xs) && eqb s.tag ((2 ^ 48 + length xs) / 2 ^ 32 % 2 ^ 16)) s.object Object.Empty) e
    ∙ (ap (λ i. let s = get_or (xs ++ (slot 0 o ∷ [])) i (slot 0 Object.Empty) in pick (is_reference (2 ^ 48 + length xs) && eqb s.tag ((2 ^ 48 + length xs) / 2 ^ 32 % 2 ^ 16)) s.object Object.Empty) (low (length xs) h)
    ∙ (ap (λ (s : Slot Object). pick (is_reference (2 ^ 48 + length xs) && eqb s.tag ((2 ^ 48 + length xs) / 2 ^ 32 % 2 ^ 16)) s.object Object.Empty) (at-end xs (slot 0 o))
    ∙ here (is_reference (2 ^ 48 + length xs) && eqb 0 ((2 ^ 48 + length xs) / 2 ^ 32 % 2 ^ 16)) Object.Empty
    (ap₂ (λ a b. a && eqb 0 b) (in-range (length xs) h) (high (length xs) h))))

few : (w : World) → sound w ≡ true → length w.slots < 2 ^ 32
unfolding sizes_ok setup_ok
few w h =
    let l = w.setup.limits in
    let low = leb (length w.frames) l.depth && leb (length w.stack) l.stack in
    let within = between 1 128 l.depth && between 1 1024 l.stack && between 1 64 l.rows in
    let f = w.setup.functions in
    let u = and_left (low && leb (length w.slots) l.slots) (leb w.used l.memory) (sizes w h) in
    let a : length w.slots ≤ l.slots = leb-true (length w.slots) l.slots (and_right low (leb (length w.slots) l.slots) u) in
    let e = and_left (limits_ok l && costs_ok w.setup.costs && between 1 32 (length f) && leb (length f) l.slots && each function_ok f) (hook_ok w.setup w.setup.hook) (set-up w h) in
    let d = and_left (limits_ok l && costs_ok w.setup.costs && between 1 32 (length f) && leb (length f) l.slots) (each function_ok f) e in
    let c = and_left (limits_ok l && costs_ok w.setup.costs && between 1 32 (length f)) (leb (length f) l.slots) d in
    let i = and_left (limits_ok l) (costs_ok w.setup.costs) (and_left (limits_ok l && costs_ok w.setup.costs) (between 1 32 (length f)) c) in
    let j = and_right within (between 1 4096 l.slots) (and_left (within && between 1 4096 l.slots) (ltb l.memory (2 ^ 64)) i) in
    let b : l.slots ≤ 4096 = leb-true l.slots 4096 (and_right (leb 1 l.slots) (leb l.slots 4096) j) in
    omega (arith, a, b)

no : {b : Bool} {A : Type 0} → b ≡ true → false ≡ true → A
no e h = absurd (false≢true h)

made-is : (w : World) (v : ℕ) → sound w ≡ true → let a = leads (table_of (Op.MakeIterator v) w) in eqb (number_of a.answer) 0 ≡ true → found a.world (word_of a.answer) ≡ Object.Iter v false None
made-is w v s =
    led (λ (a : After Answer). eqb (number_of a.answer) 0 ≡ true → found a.world (word_of a.answer) ≡ Object.Iter v false None) (table_of (Op.MakeIterator v) w).tests (table_of (Op.MakeIterator v) w).done
    (no, (no, (no, (no, tt)))) (λ _. lookup w.slots (Object.Iter v false None) w w.setup.costs.iter refl (few w s))

iterator-made : (w : World) (v : ℕ) (t : typed (Op.MakeIterator v) ≡ true) → let o = operation (Op.MakeIterator v) t in number w o ≡ 0 →
    found (step w (Do o)).world (word_of (step w (Do o)).answer) ≡ Object.Iter v false None
iterator-made w v t h =
    ap (λ (a : After Answer). found a.world (word_of a.answer)) (leads-to w (operation (Op.MakeIterator v) t))
    ∙ by-test (λ (a : After Answer). eqb (number_of a.answer) 0 ≡ true → found a.world (word_of a.answer) ≡ Object.Iter v false None) (not (sound w)) (λ _ e. absurd (false≢true e)) (λ s. made-is w v (not-false (sound w) s))
    (ap (λ a. eqb (number_of a) 0) (sym (answer-is w (operation (Op.MakeIterator v) t))) ∙ ap (λ n. eqb n 0) h)

-- ---- 11 first

worded : (m n : ℕ) (w : World) (o : Operation) → eqb 11 m ≡ false → Worded m n (leads (table_of o.op w)) → number w o ≡ m → word_of (step w (Do o)).answer ≡ n
worded m n w o e h k =
    (subst (λ a. Worded m n a) (sym (leads-to w o)) (both (λ a. Worded m n a) (not (sound w)) (Words.no e refl) h)).is (eq-eqb (number w o) m k)

step_is : (w : World) (o : Operation) → is_instruction o.op ≡ true → Right w (after (step w (Do o)).world (step w (Do o)).answer)
step_is w o i = subst (λ a. Right w a) (sym (leads-to w o)) (both (λ a. Right w a) (not (sound w)) (refused w refl) ((answered o.op).steps w i))

pub answers : Answers
answers =
    record {
      word = λ w o. worded 0 (word_for o.op w) w o refl ((answered o.op).words w);
      set-up-word = λ w s. set-up-has (λ a. word_of a.answer ≡ 0) w s (λ _. refl) (λ _. refl);
      iterator = iterator-made;
      thrown-word = λ w o. worded 17 (thrown_for o.op w) w o refl ((answered o.op).thrown w);
      no_step = no-step-of;
      no-instruction = no-instruction;
      step_is = λ w o i. (step_is w o i).is;
      look = λ w t f fs s e. look-sees w (operation Op.Look t) refl ∙ (here (sound w) [] s ∙ ap (λ (g : List Frame). Others.registers g w.stack) e);
      look-empty = λ w t e. look-sees w (operation Op.Look t) refl ∙ (ap (λ (g : List Frame). pick (sound w) (Others.registers g w.stack) []) e ∙ both (λ (l : List ℕ). l ≡ []) (sound w) refl refl);
      no-look = sees-nothing;
    }
