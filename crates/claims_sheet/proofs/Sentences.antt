-- 01's sentences about all answers, from the table.
use Prim.Native.Nat.{ℕ, suc, ◌≤◌}
use mathlib.Core.Path.{◌≡◌, refl, sym, ap, ◌∙◌}
use mathlib.Core.Bool.{Bool, true, false, not, ◌&&◌, ◌||◌, true≢false, false≢true}
use mathlib.Core.List.{List, [], ◌∷◌}
use native.Mathlib.Omega.{arith}
use lib.ListN.{length}
use lib.Dec.{eqb, leb}
use borrow.Author.Tests.{leb-true, leb-false, eq-eqb}
use Rattle.lists.specs.Pick.{pick}
use Rattle.heap.specs.Fault as Faults
use Rattle.heap.specs.Table.{Slot}
use Rattle.heap.specs.declared.fault.Fault.{Fault}
use Rattle.model.specs.Lists.{among}
use Rattle.model.specs.Program.{Func, Setup, setup_ok}
use Rattle.model.specs.Object.{Object}
use Rattle.model.specs.World.{World, After, function_objects}
use Rattle.model.specs.Sound.{sizes_ok, sound}
use Rattle.model.specs.Answer.{number_of, word_of}
use Rattle.model.specs.Call.{Call, SetUp, Do, Operation}
use Rattle.model.specs.Step.{step, run}
use Rattle.model.specs.declared.machine.Frame.{Frame}
use Rattle.model.specs.declared.exec.Step.{Step}
use Rattle.model.specs.declared.call.Op.{Op}
use Rattle.model.specs.declared.call.Answer.{Answer}
use Rattle.claims_sheet.specs.Lines.{Line, leads, says_from, says}
use Rattle.claims_sheet.specs.Does.{number}
use Rattle.claims_sheet.specs.Words.{is_nothing, no_slot}
use Rattle.claims_sheet.specs.Makings.{no_row}
use Rattle.claims_sheet.specs.Sheet.{table_of, sheet}
use Rattle.claims_sheet.specs.Sentences.{gives_from, gives, taken_of, every_slot, unchanging, Sentences}
use Rattle.claims_sheet.proofs.Among.{and_left, and_right, same}
use Rattle.claims_sheet.proofs.Rules.{sizes}
use Rattle.claims_sheet.proofs.Sheet.{holds, leads-to}
use Rattle.claims_sheet.proofs.SheetNumbers.{says-number, set-up-has}
use Rattle.claims_sheet.proofs.Led.{here, past}
use Rattle.claims_sheet.proofs.Kept.{filled}
use Rattle.claims_sheet.proofs.Walk.{by-stop, none}
use Rattle.claims_sheet.proofs.WalkCalls.{Fact, no}

-- ---- "given exactly if"

gives_one : (b : Bool) (m n k : ℕ) (r : Bool) → eqb k n ≡ r → eqb (pick b m k) n ≡ b && eqb m n || not b && r
unfolding pick
gives_one true m n k r e = sym (or-none (eqb m n))
  where
    or-none : (x : Bool) → x || false ≡ x
    or-none true = refl
    or-none false = refl
gives_one false m n k r e = e

gives-from : (n : ℕ) (ts : List (Line Answer)) (d : Line Answer) → eqb (says_from ts d) n ≡ gives_from n ts d
gives-from n [] d = refl
gives-from n (t ∷ ts) d = gives_one t.stops t.number n (says_from ts d) (gives_from n ts d) (gives-from n ts d)

-- ---- what changes nothing; slots

-- 11 first
fact : (w : World) (o : Op) → Fact w (says (sheet o w)) (leads (sheet o w)).world
fact w o = by-stop (λ m x. Fact w m x) (not (sound w)) _ _ _ _ (no w refl) (λ _. (holds o).fact w)

done-is : (w : World) (o : Operation) → (step w (Do o)).world ≡ (leads (sheet o.op w)).world
done-is w o = ap (λ (a : After Answer). a.world) (leads-to w o)

stays : (w : World) (c : Call) → among (number_of (step w c).answer) unchanging ≡ true → (step w c).world ≡ w
stays w (SetUp s) = set-up-has (λ a. among (number_of a.answer) unchanging ≡ true → a.world ≡ w) w s (λ _ _. refl) (λ _ h. absurd (false≢true h))
stays w (Do o) = λ h. done-is w o ∙ (fact w o.op).calm (ap (λ n. among n unchanging) (sym (says-number w o)) ∙ h)

new-filled : (i : ℕ) (fs : List Func) → filled (function_objects i fs) ≡ true
new-filled i [] = refl
new-filled i (f ∷ fs) = new-filled (suc i) fs

steps-filled : (w : World) (c : Call) → filled w.slots ≡ true → filled (step w c).world.slots ≡ true
steps-filled w (SetUp s) h = set-up-has (λ a. filled a.world.slots ≡ true) w s (λ _. h) (λ _. new-filled 0 s.functions)
steps-filled w (Do o) h = ap (λ (x : World). filled x.slots) (done-is w o) ∙ (fact w o.op).stays.full h

run-filled : (w : World) (cs : List Call) → filled w.slots ≡ true → filled (run w cs).slots ≡ true
run-filled w [] h = h
run-filled w (c ∷ cs) h = run-filled (step w c).world cs (steps-filled w c h)

accepted-filled : (w : World) (s : Setup) → setup_ok s ≡ true → filled (step w (SetUp s)).world.slots ≡ true
accepted-filled w s h = set-up-has (λ a. filled a.world.slots ≡ true) w s (λ e. absurd (true≢false (sym h ∙ e))) (λ _. new-filled 0 s.functions)

reached-filled : (w : World) (s : Setup) (cs : List Call) → setup_ok s ≡ true → filled (run w (SetUp s ∷ cs)).slots ≡ true
reached-filled w s cs h = run-filled (step w (SetUp s)).world cs (accepted-filled w s h)

all-taken : (xs : List (Slot Object)) → filled xs ≡ true → taken_of xs ≡ length xs
unfolding pick
all-taken [] h = refl
all-taken (x ∷ xs) h = go (is_nothing x.object) (and_left (not (is_nothing x.object)) (filled xs) h) (all-taken xs (and_right (not (is_nothing x.object)) (filled xs) h))
  where
    go : (b : Bool) → not b ≡ true → taken_of xs ≡ length xs → pick b (taken_of xs) (suc (taken_of xs)) ≡ suc (length xs)
    go true e k = absurd (false≢true e)
    go false e k = ap suc k

at-most : (n m : ℕ) → n ≤ m → leb m n ≡ eqb n m
at-most n m l = go (leb m n) refl
  where
    go : (b : Bool) → leb m n ≡ b → b ≡ eqb n m
    go true e =
        let k = leb-true m n e in
        sym (eq-eqb n m (omega (arith, l, k)))
    go false e = sym (other (eqb n m) refl)
      where
        other : (c : Bool) → eqb n m ≡ c → c ≡ false
        other true f =
            let k = leb-false m n e in
            let j = same n m f in
            absurd (omega (arith, k, j))
        other false f = refl

slots-exact : (v : World) → filled v.slots ≡ true → sound v ≡ true → no_slot v ≡ every_slot v
unfolding sizes_ok
slots-exact v h s =
    at-most (length v.slots) v.setup.limits.slots
    (leb-true (length v.slots) v.setup.limits.slots
    (and_right (leb (length v.frames) v.setup.limits.depth && leb (length v.stack) v.setup.limits.stack) (leb (length v.slots) v.setup.limits.slots)
    (and_left (leb (length v.frames) v.setup.limits.depth && leb (length v.stack) v.setup.limits.stack && leb (length v.slots) v.setup.limits.slots) (leb v.used v.setup.limits.memory) (sizes v s))))
    ∙ ap (λ n. eqb n v.setup.limits.slots) (sym (all-taken v.slots h))

-- an answer but 11 is a sound machine's
sound-by : (v : World) (o : Operation) → number v o ≡ 14 → sound v ≡ true
sound-by v o h = go (sound v) refl
  where
    go : (b : Bool) → sound v ≡ b → b ≡ true
    go true e = refl
    go false e = absurd (false≢true (sym (ap (λ b. eqb (pick (not b) 11 (says_from (table_of o.op v).tests (table_of o.op v).done)) 14) e ∙ eleven) ∙ (ap (λ n. eqb n 14) (sym (says-number v o)) ∙ ap (λ n. eqb n 14) h)))
      where
        eleven : eqb (pick true 11 (says_from (table_of o.op v).tests (table_of o.op v).done)) 14 ≡ false
        eleven = ap (λ n. eqb n 14) (here true (says_from (table_of o.op v).tests (table_of o.op v).done) refl)

full_by : (v : World) (o : Operation) → filled v.slots ≡ true → number v o ≡ 14 → every_slot v || no_row v ≡ true
full_by v o f h =
    ap (λ b. b || no_row v) (sym (slots-exact v f (sound-by v o h)))
    ∙ (fact v o.op).lack (ap (λ n. eqb n 14) (sym (says-number v o) ∙ h))

-- ---- words of refusals

pub fault-word : (f : Fault) → eqb (Faults.number_of f) 17 ≡ false → Faults.word_of f ≡ 0
fault-word Fault.None h = refl
fault-word Fault.NullReference h = refl
fault-word Fault.TypeError h = refl
fault-word Fault.InvalidCoroState h = refl
fault-word Fault.StackOverflow h = refl
fault-word Fault.CannotSuspend h = refl
fault-word Fault.CloseIgnored h = refl
fault-word Fault.ArithOverflow h = refl
fault-word Fault.NoScheduler h = refl
fault-word Fault.OutOfMemory h = refl
fault-word Fault.OutOfFuel h = refl
fault-word Fault.Unsound h = refl
fault-word Fault.NoFrame h = refl
fault-word Fault.BadOperand h = refl
fault-word Fault.Full h = refl
fault-word Fault.Busy h = refl
fault-word Fault.GrantTooLarge h = refl
fault-word (Fault.Throw v) h = absurd (true≢false h)

no-17 : (n : ℕ) → among n (0 ∷ 17 ∷ []) ≡ false → eqb n 17 ≡ false
no-17 n h = (none (eqb n 17) false (none (eqb n 0) (eqb n 17 || false) h).1).0

zero_word : (a : Answer) → among (number_of a) (0 ∷ 17 ∷ []) ≡ false → word_of a ≡ 0
zero_word Answer.Accepted h = refl
zero_word (Answer.Word v) h = absurd (true≢false h)
zero_word (Answer.Refused f) h = fault-word f (no-17 (Faults.number_of f) h)
zero_word (Answer.Stepped Step.Next n) h = refl
zero_word (Answer.Stepped Step.Frame n) h = refl
zero_word (Answer.Stepped (Step.Fault f) n) h = fault-word f (no-17 (Faults.number_of f) h)
zero_word (Answer.Stepped (Step.Unwind f) n) h = fault-word f (no-17 (Faults.number_of f) h)
zero_word (Answer.Cleanup n) h = refl
zero_word (Answer.Unpaid n) h = refl
zero_word (Answer.Exit v) h = absurd (true≢false h)
zero_word Answer.Resume h = refl
zero_word Answer.Caught h = refl
zero_word Answer.Stopped h = refl
zero_word (Answer.Took o) h = absurd (true≢false h)

pub given_by : (n : ℕ) (w : World) (o : Operation) → eqb (number w o) n ≡ gives n (sheet o.op w)
given_by n w o = ap (λ m. eqb m n) (says-number w o) ∙ gives-from n (sheet o.op w).tests (sheet o.op w).done

pub sentences : Sentences
sentences =
    record {
      given = given_by;
      given-set-up = λ w s. set-up-has (λ a. number_of a.answer ≡ pick (not (setup_ok s)) 11 0) w s (λ e. sym (here (not (setup_ok s)) 0 (ap not e))) (λ e. sym (past (not (setup_ok s)) 11 (ap not e) refl));
      unchanged = stays;
      set-up-stays = λ w o. ap (λ (x : World). x.setup) (done-is w o) ∙ (fact w o.op).stays.setup;
      full-after-9 = λ w o. (refl, (holds o.op).full w _);
      slots-taken = λ w s cs h k. slots-exact (run w (SetUp s ∷ cs)) (reached-filled w s cs h) k;
      full = λ w s cs o h k. full_by (run w (SetUp s ∷ cs)) o (reached-filled w s cs h) k;
      refused-word = λ w c h. zero_word (step w c).answer h;
    }
