-- A call is read back from its words, and what is read is written in the same words. Assumes nothing.
use mathlib.Core.Path.{◌≡◌, refl, sym, ap, ◌∙◌}
use mathlib.Core.Bool.{Bool, true, false, ◌&&◌}
use mathlib.Core.List.{List, [], ◌∷◌}
use Prim.Native.Nat.{ℕ, ◌^◌, ◌%◌, ◌<◌}
use native.Mathlib.Nat.{mod-eq_of_lt}
use borrow.Author.Tests.{eqb-true, eq-eqb, ltb-true}
use lib.Dec.{eqb, ltb}
use Rattle.lists.specs.Pick.{pick, pick_true, pick-false}
use Rattle.lists.proofs.Tests.{and_left, and_right, never}
use Rattle.heap.specs.Fault.{number_of, word_of}
use Rattle.heap.specs.declared.fault.Fault.{Fault}
use Rattle.heap.specs.declared.fault.Fault.TheVariants as F
use Rattle.heap.specs.declared.heap.ResultKind.{ResultKind}
use Rattle.heap.specs.declared.heap.ResultKind.TheVariants as K
use Rattle.heap.specs.Slot.{flag}
use Rattle.model.specs.Call.{is_reg, are_regs, is_argc, is_pc, is_word, opt_pc, typed}
use Rattle.std.specs.Prelude.{Option, Result, Some, None, Ok, Err}
use Rattle.memory_calls.specs.declared.call.Gate.{Gate}
use Rattle.model.specs.declared.call.Op.{Op}
use Rattle.memory_tables.proofs.Codes.{cont-back}
use Rattle.memory_calls.specs.Codes.{as_pc, as_reg, as_argc, fault_of, kind_code, kind_of, opt_code, opt_word, opt_of, same}
use Rattle.memory_calls.specs.Call.{op_in, op_words, gate_in, op_of}

-- ---- the same words

pub same-all : (xs : List ℕ) → same xs xs ≡ true
same-all [] = refl
same-all (x ∷ xs) = rw (eq-eqb x x refl, same-all xs)

pub same-are : (xs ys : List ℕ) → same xs ys ≡ true → xs ≡ ys
same-are [] [] e = refl
same-are [] (y ∷ ys) e = never cc
same-are (x ∷ xs) [] e = never cc
same-are (x ∷ xs) (y ∷ ys) e = rw (eqb-true x y (and_left (eqb x y) (same xs ys) e), same-are xs ys (and_right (eqb x y) (same xs ys) e))

-- ---- operands

pub fault-back : (f : Fault) → fault_of (number_of f) (word_of f) ≡ f
fault-back F.None = refl
fault-back F.NullReference = refl
fault-back F.TypeError = refl
fault-back F.InvalidCoroState = refl
fault-back F.StackOverflow = refl
fault-back F.CannotSuspend = refl
fault-back F.CloseIgnored = refl
fault-back F.ArithOverflow = refl
fault-back F.NoScheduler = refl
fault-back F.OutOfMemory = refl
fault-back F.OutOfFuel = refl
fault-back F.Unsound = refl
fault-back F.NoFrame = refl
fault-back F.BadOperand = refl
fault-back F.Full = refl
fault-back F.Busy = refl
fault-back F.GrantTooLarge = refl
fault-back (F.Throw w) = refl

kind-back : (k : ResultKind) → kind_of (kind_code k) ≡ k
kind-back K.None = refl
kind-back K.Dyn = refl
kind-back K.I64 = refl
kind-back K.U64 = refl

pc-back : (n : ℕ) → is_pc n ≡ true → as_pc n ≡ n
pc-back n e = mod-eq_of_lt (ltb-true n (2 ^ 32) e)

reg-back : (n : ℕ) → is_reg n ≡ true → as_reg n ≡ n
reg-back n e = mod-eq_of_lt (ltb-true n (2 ^ 16) e)

argc-back : (n : ℕ) → is_argc n ≡ true → as_argc n ≡ n
argc-back n e = mod-eq_of_lt (ltb-true n (2 ^ 8) e)

opt-back : (p : Option ℕ) → opt_pc p ≡ true → opt_of (opt_code p) (opt_word p) ≡ p
unfolding pick
opt-back None e = refl
opt-back (Some pc) e = rw (pc-back pc e)

-- a pc, then registers
one-back : (pc r : ℕ) → (is_pc pc && is_reg r) ≡ true → (as_pc pc ≡ pc) × (as_reg r ≡ r)
one-back pc r e = (pc-back pc (and_left (is_pc pc) (is_reg r) e), reg-back r (and_right (is_pc pc) (is_reg r) e))

abbrev Regs : List ℕ → Type 0
Regs [] = Unit
Regs (r ∷ rs) = (as_reg r ≡ r) × Regs rs

regs-back : (rs : List ℕ) → are_regs rs ≡ true → Regs rs
regs-back [] e = tt
regs-back (r ∷ rs) e = (reg-back r (and_left (is_reg r) (are_regs rs) e), regs-back rs (and_right (is_reg r) (are_regs rs) e))

pc-regs : (pc : ℕ) (rs : List ℕ) → (is_pc pc && are_regs rs) ≡ true → (as_pc pc ≡ pc) × Regs rs
pc-regs pc rs e = (pc-back pc (and_left (is_pc pc) (are_regs rs) e), regs-back rs (and_right (is_pc pc) (are_regs rs) e))

-- a pc, two registers and an argument count
counted : (pc dst callee argc : ℕ) → (is_pc pc && are_regs (dst ∷ callee ∷ []) && is_argc argc) ≡ true → (as_pc pc ≡ pc) × Regs (dst ∷ callee ∷ []) × (as_argc argc ≡ argc)
counted pc dst callee argc e =
    let rs = are_regs (dst ∷ callee ∷ []) in
    let l = and_left (is_pc pc && rs) (is_argc argc) e in
    (pc-back pc (and_left (is_pc pc) rs l), regs-back (dst ∷ callee ∷ []) (and_right (is_pc pc) rs l), argc-back argc (and_right (is_pc pc && rs) (is_argc argc) e))

new-back : (pc dst f argc : ℕ) → (is_pc pc && is_reg dst && is_pc f && is_argc argc) ≡ true → (as_pc pc ≡ pc) × (as_reg dst ≡ dst) × (as_pc f ≡ f) × (as_argc argc ≡ argc)
new-back pc dst f argc e =
    let l = and_left (is_pc pc && is_reg dst && is_pc f) (is_argc argc) e in
    let o = one-back pc dst (and_left (is_pc pc && is_reg dst) (is_pc f) l) in
    (o.0, o.1, pc-back f (and_right (is_pc pc && is_reg dst) (is_pc f) l), argc-back argc (and_right (is_pc pc && is_reg dst && is_pc f) (is_argc argc) e))

-- ---- calls

pub op-back : (o : Op) → typed o ≡ true → op_in (op_words o) ≡ o
unfolding typed
op-back (Op.CoroNew pc dst f argc) e = let t = new-back pc dst f argc e in rw (t.0, t.1, t.2, t.3)
op-back (Op.CoroNewIndirect pc dst callee argc) e = let t = counted pc dst callee argc e in rw (t.0, t.1.0, t.1.1.0, t.2)
op-back (Op.Spawn pc dst callee argc) e = let t = counted pc dst callee argc e in rw (t.0, t.1.0, t.1.1.0, t.2)
op-back (Op.Yield pc dst src) e = let t = pc-regs pc (dst ∷ src ∷ []) e in rw (t.0, t.1.0, t.1.1.0)
op-back (Op.YieldKv pc dst src key) e = let t = pc-regs pc (dst ∷ src ∷ key ∷ []) e in rw (t.0, t.1.0, t.1.1.0, t.1.1.1.0)
op-back (Op.Await pc dst src) e = let t = pc-regs pc (dst ∷ src ∷ []) e in rw (t.0, t.1.0, t.1.1.0)
op-back (Op.Resume pc dst c src) e = let t = pc-regs pc (dst ∷ c ∷ src ∷ []) e in rw (t.0, t.1.0, t.1.1.0, t.1.1.1.0)
op-back (Op.ResumeThrow pc dst c src) e = let t = pc-regs pc (dst ∷ c ∷ src ∷ []) e in rw (t.0, t.1.0, t.1.1.0, t.1.1.1.0)
op-back (Op.CoroClose pc dst c src) e = let t = pc-regs pc (dst ∷ c ∷ src ∷ []) e in rw (t.0, t.1.0, t.1.1.0, t.1.1.1.0)
op-back (Op.CoroStatus pc dst c) e = let t = pc-regs pc (dst ∷ c ∷ []) e in rw (t.0, t.1.0, t.1.1.0)
op-back (Op.CoroCurrent pc dst) e = let t = one-back pc dst e in rw (t.0, t.1)
op-back (Op.CoroKey pc dst c) e = let t = pc-regs pc (dst ∷ c ∷ []) e in rw (t.0, t.1.0, t.1.1.0)
op-back (Op.CoroResult pc dst c) e = let t = pc-regs pc (dst ∷ c ∷ []) e in rw (t.0, t.1.0, t.1.1.0)
op-back (Op.IterNext pc has iter val src) e = let t = pc-regs pc (has ∷ iter ∷ val ∷ src ∷ []) e in rw (t.0, t.1.0, t.1.1.0, t.1.1.1.0, t.1.1.1.1.0)
op-back (Op.Finish kind v) e = rw (kind-back kind)
op-back (Op.Unwind f pc) e = rw (fault-back f, opt-back pc (and_right (is_word (word_of f)) (opt_pc pc) e))
op-back (Op.SpawnTask v) e = refl
op-back (Op.HostCall f) e = rw (pc-back f e)
op-back (Op.HostEntry c v) e = refl
op-back (Op.FunctionCall pc f k) e = rw (pc-back pc (and_left (is_pc pc) (is_pc f) e), pc-back f (and_right (is_pc pc) (is_pc f) e), cont-back k)
op-back (Op.PutWord r v) e = rw (reg-back r (and_left (is_reg r) (is_word v) e))
op-back (Op.MakeIterator v) e = refl
op-back Op.TakeOutcome e = refl
op-back (Op.HandOver v) e = refl
op-back (Op.Grant n) e = refl
op-back Op.StopRun e = refl
op-back Op.Look e = refl

-- every call is read back
pub read_back : (o : Op) → typed o ≡ true → op_of (op_words o) ≡ Ok o
read_back o e = ap (λ (x : Op). pick (same (op_words x) (op_words o)) (Ok x) (Err (gate_in (op_words o)))) (op-back o e) ∙ rw (same-all (op_words o)) (pick_true (Ok o) (Err (gate_in (op_words o))))

-- what is read, if anything, and whether it is a call
abbrev got : Op → Result Op Gate → Op
got o (Ok x) = x
got o (Err f) = o

abbrev is_call : Result Op Gate → Bool
is_call (Ok x) = true
is_call (Err f) = false

-- what is read is the table's, and is written in the same words
pub read-in : (ws : List ℕ) (o : Op) → op_of ws ≡ Ok o → (op_in ws ≡ o) × (op_words o ≡ ws)
unfolding pick
read-in ws o = go (same (op_words (op_in ws)) ws) refl
  where
    go : (b : Bool) → same (op_words (op_in ws)) ws ≡ b → pick b (Ok (op_in ws)) (Err (gate_in ws)) ≡ Ok o → (op_in ws ≡ o) × (op_words o ≡ ws)
    go true t e = let h = ap (got o) e in (h, ap op_words (sym h) ∙ same-are (op_words (op_in ws)) ws t)
    go false t e = never (ap (λ (r : Result Op Gate). flag (is_call r)) e)

-- so words are those of at most one call, and a call has one form
pub written_back : (ws : List ℕ) (o : Op) → op_of ws ≡ Ok o → op_words o ≡ ws
written_back ws o e = (read-in ws o e).1
