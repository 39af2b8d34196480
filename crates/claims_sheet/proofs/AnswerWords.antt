-- The word of an accepted answer, and of a 17, from the table.
use Prim.Native.Nat.{ℕ, ◌+◌}
use mathlib.Core.Path.{◌≡◌, refl, sym, ap, subst, ◌∙◌}
use mathlib.Core.Bool.{Bool, true, false, not, ◌||◌, false≢true}
use mathlib.Core.List.{List, [], ◌∷◌}
use lib.ListN.{get_or}
use lib.Dec.{eqb, leb}
use Rattle.lists.specs.Pick.{pick}
use Rattle.heap.specs.Fault as Faults
use Rattle.heap.specs.declared.fault.Fault.{Fault}
use Rattle.heap.specs.declared.heap.ResultKind.{ResultKind}
use Rattle.model.specs.World.{World, After, after}
use Rattle.model.specs.Answer.{number_of, word_of}
use Rattle.model.specs.declared.machine.Cont.{Cont}
use Rattle.model.specs.declared.machine.Frame.{Frame}
use Rattle.std.specs.Prelude.{Option, Some, None}
use Rattle.model.specs.declared.call.Op.{Op}
use Rattle.model.specs.declared.call.Answer.{Answer}
use Rattle.claims_sheet.specs.Lines.{Lines, leads}
use Rattle.claims_sheet.specs.Words.{base, word}
use Rattle.claims_sheet.specs.Moves.{at_pc}
use Rattle.claims_sheet.specs.Charging.{starts, charged}
use Rattle.claims_sheet.specs.Makings.{new_word}
use Rattle.claims_sheet.specs.Endings.{finish_by, finish_on, result}
use Rattle.claims_sheet.specs.Unwinding as Unwinding
use Rattle.claims_sheet.specs.Sheet.{table_of}
use Rattle.claims_sheet.specs.Answers.{exit_by, exit_word, word_for, raised_by, thrown_for}
use Rattle.claims_sheet.proofs.Among.{same}
use Rattle.claims_sheet.proofs.Choice.{both, by-test}
use Rattle.claims_sheet.proofs.Sentences.{fault-word}
use Rattle.claims_sheet.proofs.Led.{here, past, Every, led, led-in-turn, all, led-answer}
use Rattle.claims_sheet.proofs.Finishing.{or-nil-is}

-- an answer of number m has the word n
pub record Worded (m n : ℕ) (a : After Answer) : Type 0 where
  pub is : eqb (number_of a.answer) m ≡ true → word_of a.answer ≡ n

-- a number that is not m
pub no : {m n : ℕ} {b : Bool} {a : Answer} {x : World} → eqb (number_of a) m ≡ false → b ≡ true → Worded m n (after x a)
no e _ = record { is = λ h. absurd (false≢true (sym e ∙ h)) }

-- an answer's word is n
at : {m n : ℕ} {b : Bool} {a : Answer} {x : World} → word_of a ≡ n → b ≡ true → Worded m n (after x a)
at e _ = record { is = λ _. e }

-- ---- calls whose answers of a number have the word 0

abbrev plain : ℕ → Answer → Bool
plain m a = not (eqb (number_of a) m) || eqb (word_of a) 0

abbrev pub wordless : ℕ → Lines Answer → Bool
wordless m s = all (plain m) s.tests s.done

pub plainly : (m : ℕ) (s : Lines Answer) → wordless m s ≡ true → Worded m 0 (leads s)
plainly m s h = record { is = go (leads s).answer (eqb (number_of (leads s).answer) m) (led-answer (plain m) s.tests s.done h) }
  where
    go : (a : Answer) (b : Bool) → not b || eqb (word_of a) 0 ≡ true → b ≡ true → word_of a ≡ 0
    go a true h k = same (word_of a) 0 h
    go a false h k = absurd (false≢true k)

-- ---- finish

finish-words : (c : Cont) (f : Frame) (fs : List Frame) (k : ResultKind) (v : ℕ) (w : World) → Worded 0 (exit_by c (result k v)) (leads (finish_by c f fs k v w))
unfolding pick
finish-words Cont.Entry f fs k v w = record { is = λ _. or-nil-is (result k v) }
finish-words (Cont.Write r) f fs k v w = record { is = λ _. refl }
finish-words (Cont.Dyn r) f fs k v w = plainly 0 (finish_by (Cont.Dyn r) f fs k v w) refl
finish-words (Cont.Value r) f fs k v w = record { is = λ _. refl }
finish-words Cont.Discard f fs k v w = record { is = λ _. refl }
finish-words Cont.Coro f fs k v w = plainly 0 (finish_by Cont.Coro f fs k v w) refl

pub finish-on-words : (fs : List Frame) (k : ResultKind) (v : ℕ) (w : World) → Worded 0 (exit_word fs (result k v)) (leads (finish_on fs k v w))
finish-on-words [] k v w = record { is = λ _. or-nil-is (result k v) }
finish-on-words (f ∷ fs) k v w = finish-words f.cont f fs k v w

-- it throws nothing
finish-thrown : (c : Cont) (f : Frame) (fs : List Frame) (k : ResultKind) (v : ℕ) (w : World) → Worded 17 0 (leads (finish_by c f fs k v w))
unfolding pick
finish-thrown Cont.Entry f fs k v w = plainly 17 (finish_by Cont.Entry f fs k v w) refl
finish-thrown (Cont.Write r) f fs k v w = plainly 17 (finish_by (Cont.Write r) f fs k v w) refl
finish-thrown (Cont.Dyn r) f fs k v w = plainly 17 (finish_by (Cont.Dyn r) f fs k v w) refl
finish-thrown (Cont.Value r) f fs k v w = plainly 17 (finish_by (Cont.Value r) f fs k v w) refl
finish-thrown Cont.Discard f fs k v w = plainly 17 (finish_by Cont.Discard f fs k v w) refl
finish-thrown Cont.Coro f fs k v w = plainly 17 (finish_by Cont.Coro f fs k v w) refl

pub finish-on-thrown : (fs : List Frame) (k : ResultKind) (v : ℕ) (w : World) → Worded 17 0 (leads (finish_on fs k v w))
unfolding pick
finish-on-thrown [] k v w = plainly 17 (finish_on [] k v w) refl
finish-on-thrown (f ∷ fs) k v w = finish-thrown f.cont f fs k v w

-- ---- unwind: the search's 0 has no word, its 17 has what is raised

search-words : (fs : List Frame) (value f pc : ℕ) (w : World) → Every (λ a. Worded 0 0 a) (Unwinding.search fs value f pc w)
search-words [] value f pc w = (no refl, tt)
search-words (x ∷ xs) value f pc w = (no refl, (at refl, (no refl, (at refl, (at refl, search-words xs value f pc (Unwinding.left x xs value w))))))

search-thrown : (fs : List Frame) (value f pc : ℕ) (w : World) → Every (λ a. Worded 17 value a) (Unwinding.search fs value f pc w)
search-thrown [] value f pc w = (at refl, tt)
search-thrown (x ∷ xs) value f pc w = (no refl, (no refl, (at refl, (no refl, (no refl, search-thrown xs value f pc (Unwinding.left x xs value w))))))

module _ (e : Fault) (pc : Option ℕ) (w : World) where
  abbrev n : ℕ
  n = Faults.number_of e

  abbrev z : World
  z = Unwinding.given_pc_stored pc w

  abbrev t : Lines Answer
  t = table_of (Op.Unwind e pc) w

  -- a fault of number 0 has no word
  none : {x : World} → Worded 0 0 (after x (Answer.Refused e))
  none = record { is = λ h. fault-word e (ap (λ m. eqb m 17) (same n 0 h)) }

  pub unwind-words : Worded 0 0 (leads t)
  unwind-words =
      led (λ a. Worded 0 0 a) t.tests t.done
      (no refl, (λ _. none, (no refl, (no refl, both (λ ts. Every (λ a. Worded 0 0 a) ts) (leb n 8) (search-words z.frames (new_word z) _ _ (Unwinding.error_stored n z)) (search-words z.frames (Faults.word_of e) _ _ z))))) none

  abbrev raised : ℕ
  raised = thrown_for (Op.Unwind e pc) w

  -- a fault of number 17 has its own
  own : {x : World} → Worded 17 raised (after x (Answer.Refused e))
  own = record { is = λ h. sym (past (leb n 8) _ (ap (λ m. leb m 8) (same n 17 h)) refl) }

  new_word_lem : (pc : Option ℕ) → new_word (Unwinding.given_pc_stored pc w) ≡ new_word w
  new_word_lem None = refl
  new_word_lem (Some p) = refl

  searched : (value : ℕ) (x : World) → value ≡ raised → Every (λ a. Worded 17 raised a) (Unwinding.search_from_top value x)
  searched value x h = subst (λ v. Every (λ a. Worded 17 v a) (Unwinding.search_from_top value x)) h (search-thrown x.frames value _ _ x)

  pub unwind-thrown : Worded 17 raised (leads t)
  unwind-thrown =
      led (λ a. Worded 17 raised a) t.tests t.done (
        no refl,
        (
          λ _. own,
          (
            no refl,
            (
              no refl,
              by-test (λ ts. Every (λ a. Worded 17 raised a) ts) (leb n 8) (λ h. searched (new_word z) (Unwinding.error_stored n z) (new_word_lem pc ∙ sym (here (leb n 8) (Faults.word_of e) h)))
                  (λ h. searched (Faults.word_of e) z (sym (past (leb n 8) _ h refl))),
            ),
          ),
        ),
      ) own

-- ---- a word that an instruction raises: the charge leaves the registers

module _ (pc src : ℕ) (w : World) where
  at_base : (fs : List Frame) → base (at_pc pc fs) ≡ base fs
  at_base [] = refl
  at_base (f ∷ fs) = refl

  register : word (charged pc w) src ≡ word w src
  register = both (λ (x : World). word x src ≡ word w src) _ refl (both (λ (x : World). word x src ≡ word w src) _ refl (ap (λ b. get_or w.stack (b + src) 0) (at_base w.frames)))

  -- no cleanup has started
  raises : starts pc w ≡ false → word (charged pc w) src ≡ raised_by pc src w
  raises h = sym (past (starts pc w) 0 h (sym register))

  -- one has
  cleans : starts pc w ≡ true → 0 ≡ raised_by pc src w
  cleans h = sym (here (starts pc w) (word w src) h)

module _ (w : World) where
  abbrev Thrown : Op → Type 0
  Thrown o = Worded 17 (thrown_for o w) (leads (table_of o w))

  pub throw-thrown : (pc dst c src : ℕ) → Thrown (Op.ResumeThrow pc dst c src)
  unfolding pick
  throw-thrown pc dst c src =
      let t = table_of (Op.ResumeThrow pc dst c src) w in
      led-in-turn (λ a. Worded 17 (raised_by pc src w) a) t.tests t.done (
        no refl,
        λ _. (
          no refl,
          λ _. (no refl, λ _. (λ h. at (cleans pc src w h) refl, λ h. (no refl, λ _. (no refl, λ _. (at (raises pc src w h), λ _. (no refl, λ _. (no refl, λ _. at (raises pc src w h) refl))))))),
        ),
      )

  pub close-thrown : (pc dst c src : ℕ) → Thrown (Op.CoroClose pc dst c src)
  unfolding pick
  close-thrown pc dst c src =
      let t = table_of (Op.CoroClose pc dst c src) w in
      led-in-turn (λ a. Worded 17 (raised_by pc src w) a) t.tests t.done (
        no refl,
        λ _. (
          no refl,
          λ _. (no refl, λ _. (λ h. at (cleans pc src w h) refl, λ h. (no refl, λ _. (no refl, λ _. (no refl, λ _. (no refl, λ _. (no refl, λ _. (no refl, λ _. at (raises pc src w h) refl)))))))),
        ),
      )

-- ---- spawn task, make iterator and take outcome answer a word

pub task-words : (v : ℕ) (w : World) → Worded 0 v (leads (table_of (Op.SpawnTask v) w))
task-words v w = let t = table_of (Op.SpawnTask v) w in led (λ a. Worded 0 v a) t.tests t.done (no refl, tt) (at refl refl)

pub iterator-words : (v : ℕ) (w : World) → Worded 0 (word_for (Op.MakeIterator v) w) (leads (table_of (Op.MakeIterator v) w))
iterator-words v w = let t = table_of (Op.MakeIterator v) w in led (λ a. Worded 0 (new_word w) a) t.tests t.done (no refl, (no refl, (no refl, (no refl, tt)))) (at refl refl)

pub outcome-words : (w : World) → Worded 0 (word_for Op.TakeOutcome w) (leads (table_of Op.TakeOutcome w))
outcome-words w = record { is = λ _. refl }
