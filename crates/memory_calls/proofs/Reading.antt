-- A call is what its words say, if they are the words that it is written in. Assumes nothing.
use mathlib.Core.Path.{◌≡◌, refl, sym, ap, ◌∙◌}
use mathlib.Core.Bool.{Bool, true, false}
use mathlib.Core.List.{List, [], ◌∷◌}
use Prim.Native.Nat.{ℕ}
use native.Mathlib.Omega.{arith}
use borrow.Author.Tests.{ne_eqb}
use lib.ListN.{length, get_or}
use lib.Dec.{eqb}
use Rattle.lists.specs.Pick.{pick, pick_true, pick-false}
use Rattle.model.specs.declared.call.Op.{Op}
use Rattle.memory_calls.specs.Codes.{same}
use Rattle.memory_calls.specs.Call.{op_by, op_in, six, op_words, gate_by, gate_in, op_of}
use Rattle.memory_calls.specs.declared.call.Gate.{Gate}
use Rattle.std.specs.Prelude.{Ok, Err}
use Rattle.memory_calls.proofs.Back.{same-are}

-- what the test says of the words
tested : (ws : List ℕ) (op : Op) (w : List ℕ) (r b : Bool) → op ≡ op_in ws → w ≡ op_words op → r ≡ same w ws → r ≡ b → same (op_words (op_in ws)) ws ≡ b
tested ws op w r b h k e t = ap (λ (o : Op). same (op_words o) ws) (sym h) ∙ ap (λ (x : List ℕ). same x ws) (sym k) ∙ sym e ∙ t

pub read_is : (ws : List ℕ) (op : Op) (w : List ℕ) (r : Bool) → op ≡ op_in ws → w ≡ op_words op → r ≡ same w ws → r ≡ true → Ok op ≡ op_of ws
read_is ws op w r h k e t =
    let x = Ok (op_in ws) in
    let y = Err (gate_in ws) in
    ap Ok h ∙ sym (ap (λ (b : Bool). pick b x y) (tested ws op w r true h k e t) ∙ pick_true x y)

none : (ws : List ℕ) → same (op_words (op_in ws)) ws ≡ false → Err (gate_in ws) ≡ op_of ws
none ws e =
    let x = Ok (op_in ws) in
    let y = Err (gate_in ws) in
    sym (ap (λ (b : Bool). pick b x y) e ∙ pick-false x y)

pub read-not : (n a b c d e : ℕ) (op : Op) (w : List ℕ) (r : Bool) (f : Gate) → op ≡ op_by n a b c d e → w ≡ op_words op → r ≡ same w (six n a b c d e) → r ≡ false → f ≡ gate_by n a
    → Err f ≡ op_of (six n a b c d e)
read-not n a b c d e op w r f h k s t g =
    let ws = six n a b c d e in
    ap Err (g ∙ sym (pick_true (gate_by n a) Gate.Operand)) ∙ none ws (tested ws op w r false h k s t)

-- ---- as many words

length-op : (o : Op) → length (op_words o) ≡ 6
length-op (Op.CoroNew pc dst f argc) = refl
length-op (Op.CoroNewIndirect pc dst callee argc) = refl
length-op (Op.Spawn pc dst callee argc) = refl
length-op (Op.Yield pc dst src) = refl
length-op (Op.YieldKv pc dst src key) = refl
length-op (Op.Await pc dst src) = refl
length-op (Op.Resume pc dst c src) = refl
length-op (Op.ResumeThrow pc dst c src) = refl
length-op (Op.CoroClose pc dst c src) = refl
length-op (Op.CoroStatus pc dst c) = refl
length-op (Op.CoroCurrent pc dst) = refl
length-op (Op.CoroKey pc dst c) = refl
length-op (Op.CoroResult pc dst c) = refl
length-op (Op.IterNext pc has iter val src) = refl
length-op (Op.Finish kind v) = refl
length-op (Op.Unwind f pc) = refl
length-op (Op.SpawnTask v) = refl
length-op (Op.HostCall f) = refl
length-op (Op.HostEntry c v) = refl
length-op (Op.FunctionCall pc f k) = refl
length-op (Op.PutWord r v) = refl
length-op (Op.MakeIterator v) = refl
length-op Op.TakeOutcome = refl
length-op (Op.HandOver v) = refl
length-op (Op.Grant n) = refl
length-op Op.StopRun = refl
length-op Op.Look = refl

-- other than six words are none
pub other_length : (ws : List ℕ) → (length ws ≡ 6 → ⊥) → Err Gate.Operand ≡ op_of ws
other_length ws h = go (same (op_words (op_in ws)) ws) refl
  where
    go : (b : Bool) → same (op_words (op_in ws)) ws ≡ b → Err Gate.Operand ≡ op_of ws
    go true e = absurd (h (ap length (sym (same-are (op_words (op_in ws)) ws e)) ∙ length-op (op_in ws)))
    go false e = ap Err (sym (rw (ne_eqb (length ws) 6 h) (pick-false (gate_by (get_or ws 0 0) (get_or ws 1 0)) Gate.Operand))) ∙ none ws e

-- six are those at their places
pub as-six : (ws : List ℕ) → length ws ≡ 6 → six (get_or ws 0 0) (get_or ws 1 0) (get_or ws 2 0) (get_or ws 3 0) (get_or ws 4 0) (get_or ws 5 0) ≡ ws
as-six [] h = absurd (omega arith)
as-six (a ∷ []) h = absurd (omega arith)
as-six (a ∷ b ∷ []) h = absurd (omega arith)
as-six (a ∷ b ∷ c ∷ []) h = absurd (omega arith)
as-six (a ∷ b ∷ c ∷ d ∷ []) h = absurd (omega arith)
as-six (a ∷ b ∷ c ∷ d ∷ e ∷ []) h = absurd (omega arith)
as-six (a ∷ b ∷ c ∷ d ∷ e ∷ f ∷ []) h = refl
as-six (a ∷ b ∷ c ∷ d ∷ e ∷ f ∷ g ∷ ws) h = absurd (omega arith)
