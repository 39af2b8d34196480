-- An answer is told by its words: two with the same words are the same. Assumes nothing.
use mathlib.Core.Path.{◌≡◌, refl, sym, ap, ◌∙◌}
use mathlib.Core.List.{List, [], ◌∷◌}
use mathlib.Core.Option.{some}
use Prim.Native.Nat.{ℕ}
use lib.ListN.{get_or}
use Rattle.lists.specs.Pick.{pick}
use Rattle.std.specs.Prelude.{Option, Some, None}
use Rattle.model.specs.Answer.{step_number, step_word, outcome_word}
use Rattle.model.specs.declared.exec.Step.{Step}
use Rattle.model.specs.declared.machine.Stop.{Stop}
use Rattle.model.specs.declared.call.Answer.{Answer}
use Rattle.memory_world.specs.Told.{told}
use Rattle.memory_world.specs.declared.machine.Told.{Told}
use Rattle.memory_calls.specs.Answer.{step_code, answer_words, answer_in}
use Rattle.memory_calls.proofs.Back.{fault-back}

pub answer_back : (a : Answer) → answer_in (answer_words a) ≡ a
unfolding pick
answer_back Answer.Accepted = refl
answer_back (Answer.Word v) = refl
answer_back (Answer.Refused f) = rw (fault-back f)
answer_back (Answer.Stepped Step.Next n) = refl
answer_back (Answer.Stepped Step.Frame n) = refl
answer_back (Answer.Stepped (Step.Fault f) n) = rw (fault-back f)
answer_back (Answer.Stepped (Step.Unwind f) n) = rw (fault-back f)
answer_back (Answer.Cleanup n) = refl
answer_back (Answer.Unpaid n) = refl
answer_back (Answer.Exit None) = refl
answer_back (Answer.Exit (Some v)) = refl
answer_back Answer.Resume = refl
answer_back Answer.Caught = refl
answer_back Answer.Stopped = refl
answer_back (Answer.Took None) = refl
answer_back (Answer.Took (Some (Stop.Yielded v))) = refl
answer_back (Answer.Took (Some (Stop.Awaiting v))) = refl
answer_back (Answer.Took (Some (Stop.Returned v))) = refl
answer_back (Answer.Took (Some (Stop.Failed v f pc))) = refl
answer_back (Answer.Took (Some Stop.CloseIgnored)) = refl

pub answers-differ : (a b : Answer) → answer_words a ≡ answer_words b → a ≡ b
answers-differ a b e = sym (answer_back a) ∙ ap answer_in e ∙ answer_back b

-- ---- an instruction's, and an outcome's

pub stepped : (x y z : ℕ) (s : Step) (n : ℕ) → x ∷ y ∷ z ∷ [] ≡ step_number s ∷ step_word s ∷ step_code (some s) ∷ []
    → x ∷ y ∷ z ∷ n ∷ 3 ∷ 0 ∷ 0 ∷ 0 ∷ [] ≡ answer_words (Answer.Stepped s n)
stepped x y z s n e = ap (λ (l : List ℕ). get_or l 0 0 ∷ get_or l 1 0 ∷ get_or l 2 0 ∷ n ∷ 3 ∷ 0 ∷ 0 ∷ 0 ∷ []) e

told-word : (o : Option Stop) → (told o).1 ≡ outcome_word o
told-word None = refl
told-word (Some (Stop.Yielded v)) = refl
told-word (Some (Stop.Awaiting v)) = refl
told-word (Some (Stop.Returned v)) = refl
told-word (Some (Stop.Failed v f pc)) = refl
told-word (Some Stop.CloseIgnored) = refl

pub took : (t : Told) (o : Option Stop) → t ≡ told o → 0 ∷ t.1 ∷ 0 ∷ 0 ∷ 11 ∷ t.0 ∷ t.2 ∷ t.3 ∷ [] ≡ answer_words (Answer.Took o)
took t o e =
    ap (λ (k : Told). 0 ∷ k.1 ∷ 0 ∷ 0 ∷ 11 ∷ k.0 ∷ k.2 ∷ k.3 ∷ []) e
    ∙ ap (λ (v : ℕ). 0 ∷ v ∷ 0 ∷ 0 ∷ 11 ∷ (told o).0 ∷ (told o).2 ∷ (told o).3 ∷ []) (told-word o)
