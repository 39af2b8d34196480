-- What is read from 64-bit words has operands that their types hold. Assumes nothing.
use mathlib.Core.Path.{◌≡◌, refl, subst}
use mathlib.Core.Bool.{Bool, true, false}
use mathlib.Core.List.{List, [], ◌∷◌}
use Prim.Native.Nat.{ℕ, zero, suc, ◌^◌, ◌%◌}
use native.Mathlib.Omega.{arith}
use borrow.Author.Tests.{lt-ltb}
use lib.Dec.{eqb, ltb}
use lib.ListN.{get_or}
use Rattle.lists.specs.Pick.{pick}
use Rattle.heap.specs.Fault.{word_of}
use Rattle.heap.specs.declared.fault.Fault.{Fault}
use Rattle.model.specs.Lists.{each, each_first, each-rest}
use Rattle.model.specs.Call.{is_reg, is_argc, is_pc, is_word, opt_pc, typed}
use Rattle.std.specs.Prelude.{Some, None, Ok}
use Rattle.model.specs.declared.call.Op.{Op}
use Rattle.memory_calls.specs.Codes.{as_pc, as_reg, as_argc, faults, fault_of, opt_of}
use Rattle.memory_calls.specs.Call.{table, op_by, op_of}
use Rattle.memory_calls.proofs.Back.{read-in}

-- a test of each element and of the default is one of whatever stands at a place
each-get : {A : Type 0} (p : A → Bool) (xs : List A) (i : ℕ) (d : A) → each p xs ≡ true → p d ≡ true → p (get_or xs i d) ≡ true
each-get p [] i d e h = h
each-get p (x ∷ xs) zero d e h = each_first p x xs e
each-get p (x ∷ xs) (suc i) d e h = each-get p xs i d (each-rest p x xs e) h

pc-is : (n : ℕ) → is_pc (as_pc n) ≡ true
pc-is n = lt-ltb (n % 2 ^ 32) (2 ^ 32) (omega arith)

reg-is : (n : ℕ) → is_reg (as_reg n) ≡ true
reg-is n = lt-ltb (n % 2 ^ 16) (2 ^ 16) (omega arith)

argc-is : (n : ℕ) → is_argc (as_argc n) ≡ true
argc-is n = lt-ltb (n % 2 ^ 8) (2 ^ 8) (omega arith)

opt-is : (n pc : ℕ) → opt_pc (opt_of n pc) ≡ true
unfolding pick
opt-is n pc = go (eqb n 0)
  where
    go : (b : Bool) → opt_pc (pick b None (Some (as_pc pc))) ≡ true
    go true = refl
    go false = pc-is pc

fault-is : (n w : ℕ) → is_word w ≡ true → is_word (word_of (fault_of n w)) ≡ true
fault-is n w h = each-get (λ (f : Fault). is_word (word_of f)) faults n (Fault.Throw w) refl h

table_is : (a b c d e : ℕ) → is_word a ≡ true → is_word b ≡ true → each typed (table a b c d e) ≡ true
unfolding typed
table_is a b c d e ha hb =
    rw (pc-is a, pc-is b, pc-is c, reg-is a, reg-is b, reg-is c, reg-is d, reg-is e, argc-is d, ha, hb, fault-is a b hb, opt-is c d)

by-is : (n a b c d e : ℕ) → is_word a ≡ true → is_word b ≡ true → typed (op_by n a b c d e) ≡ true
unfolding typed
by-is n a b c d e ha hb = each-get typed (table a b c d e) n Op.Look (table_is a b c d e ha hb) refl

word_at : (ws : List ℕ) (i : ℕ) → each is_word ws ≡ true → is_word (get_or ws i 0) ≡ true
word_at ws i h = each-get is_word ws i 0 h refl

pub read-typed : (ws : List ℕ) (o : Op) → each is_word ws ≡ true → op_of ws ≡ Ok o → typed o ≡ true
read-typed ws o h e =
    subst (λ (x : Op). typed x ≡ true) (read-in ws o e).0
    (by-is (get_or ws 0 0) (get_or ws 1 0) (get_or ws 2 0) (get_or ws 3 0) (get_or ws 4 0) (get_or ws 5 0) (word_at ws 1 h) (word_at ws 2 h))
