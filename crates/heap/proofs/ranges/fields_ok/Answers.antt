-- `fields_ok` meets its contract: what the tests so far leave decides the whole. Assumes nothing.
use mathlib.Core.Path.{◌≡◌, refl, sym, ap, ap₂, ◌∙◌}
use mathlib.Core.Bool.{Bool, ◌&&◌}
use mathlib.Core.List.{List, [], ◌∷◌}
use Prim.Native.Nat.{ℕ, zero, suc, ◌-◌, ◌≤◌}
use native.Mathlib.Omega.{arith}
use borrow.Author.Tests.{le-leb, lt-leb}
use lib.Dec.{leb}
use lib.ListN.{length, get_or, drop, length-drop, replicate}
use lib.Seq.{take_all}
use Rattle.lists.specs.Tests.{zeros}
use Rattle.heap.specs.Slot.{fields_of}
use Rattle.heap.specs.Ranges.{ranges_of, within}
use Rattle.heap.proofs.Within.{from_zero, at_zero}
use Rattle.heap.proofs.ranges.fields_ok.Lts as lts
use Rattle.heap.proofs.ranges.fields_ok.Reads as reads
use Rattle.heap.proofs.ranges.fields_ok.Tie as tie
use Rattle.heap.proofs.ranges.fields_ok.Goals as goal

abbrev Start : Type 0
Start = lts.Start tie.the-claims reads.Pre reads.Post

abbrev Else-tag-s : Type 0
Else-tag-s = lts.Else1 tie.the-claims reads.Pre reads.Post

abbrev Else-kind-s : Type 0
Else-kind-s = lts.Else2 tie.the-claims reads.Pre reads.Post

abbrev Else-not-between : Type 0
Else-not-between = lts.Else3 tie.the-claims reads.Pre reads.Post

abbrev Else-b-s : Type 0
Else-b-s = lts.Else4 tie.the-claims reads.Pre reads.Post

abbrev Else-c-s : Type 0
Else-c-s = lts.Else5 tie.the-claims reads.Pre reads.Post

abbrev Else-d-s : Type 0
Else-d-s = lts.Else6 tie.the-claims reads.Pre reads.Post

-- `fields_ok` meets its contract: what the tests so far leave decides the whole. Assumes nothing.
-- words of which none is used
unused : (n : ℕ) (xs : List ℕ) → length xs ≡ n → within (ranges_of (replicate {A = ℕ} n 0) (replicate {A = ℕ} n 0)) xs ≡ zeros xs
unused zero [] e = refl
unused zero (x ∷ xs) e = absurd (omega arith)
unused (suc n) [] e = absurd (omega arith)
unused (suc n) (x ∷ xs) e = let h : length xs ≡ n = omega arith in ap₂ ◌&&◌ (at_zero x) (unused n xs h)

-- ---- the tests that are left
abbrev word : Start → ℕ → ℕ
word z k = get_or z.args.s.now k 0

abbrev from6 : Start → Bool
from6 z = zeros (drop 6 z.args.s.now)

abbrev from5 : Start → Bool
from5 z = leb (word z 5) z.args.d && from6 z

abbrev from4 : Start → Bool
from4 z = leb (word z 4) z.args.c && from5 z

abbrev from3 : Start → Bool
from3 z = leb (word z 3) z.args.b && from4 z

abbrev from2 : Start → Bool
from2 z = (leb z.args.least (word z 2) && leb (word z 2) z.args.a) && from3 z

abbrev from1 : Start → Bool
from1 z = leb (word z 1) z.args.kind && from2 z

abbrev whole : Start → Bool
whole z = within (ranges_of (fields_of 0 0 z.args.least 0 0 0) (fields_of z.args.tag z.args.kind z.args.a z.args.b z.args.c z.args.d)) z.args.s.now

-- six words and the rest
split : (s : List ℕ) (l t k a b c d : ℕ) → length s ≡ 20
    → within (ranges_of (fields_of 0 0 l 0 0 0) (fields_of t k a b c d)) s
    ≡ (leb (get_or s 0 0) t && (leb (get_or s 1 0) k && ((leb l (get_or s 2 0) && leb (get_or s 2 0) a) && (leb (get_or s 3 0) b && (leb (get_or s 4 0) c && (leb (get_or s 5 0) d && zeros (drop 6 s)))))))
split [] l t k a b c d e = absurd (omega arith)
split (x ∷ []) l t k a b c d e = absurd (omega arith)
split (x ∷ y ∷ []) l t k a b c d e = absurd (omega arith)
split (x ∷ y ∷ z ∷ []) l t k a b c d e = absurd (omega arith)
split (x ∷ y ∷ z ∷ u ∷ []) l t k a b c d e = absurd (omega arith)
split (x ∷ y ∷ z ∷ u ∷ v ∷ []) l t k a b c d e = absurd (omega arith)
split (x ∷ y ∷ z ∷ u ∷ v ∷ w ∷ xs) l t k a b c d e =
    let n : length xs ≡ 14 = omega arith in
    rw (from_zero x t, from_zero y k, from_zero u b, from_zero v c, from_zero w d, unused 14 xs n)

begin : (z : Start) → whole z ≡ (leb (word z 0) z.args.tag && from1 z)
begin z = let a = z.args in split a.s.now a.least a.tag a.kind a.a a.b a.c a.d z.requires

abbrev at1 : Else-tag-s → Start
at1 c = c.before.before.before

past1 : (c : Else-tag-s) → whole (at1 c) ≡ from1 (at1 c)
past1 c = let z = at1 c in begin z ∙ (rw (le-leb (word z 0) z.args.tag c.if-tag-s.false))

abbrev at2 : Else-kind-s → Start
at2 c = at1 c.before.before

past2 : (c : Else-kind-s) → whole (at2 c) ≡ from2 (at2 c)
past2 c = let z = at2 c in past1 c.before.before ∙ (rw (le-leb (word z 1) z.args.kind c.if-kind-s.false))

abbrev at3 : Else-not-between → Start
at3 c = at2 c.before.before.before

past3 : (c : Else-not-between) → whole (at3 c) ≡ from3 (at3 c)
past3 c = let z = at3 c in past2 c.before.before.before ∙ ap (λ (b : Bool). b && from3 z) (sym c.between.ensures ∙ c.if-not-between.false)

abbrev at4 : Else-b-s → Start
at4 c = at3 c.before.before

past4 : (c : Else-b-s) → whole (at4 c) ≡ from4 (at4 c)
past4 c = let z = at4 c in past3 c.before.before ∙ (rw (le-leb (word z 3) z.args.b c.if-b-s.false))

abbrev at5 : Else-c-s → Start
at5 c = at4 c.before.before

past5 : (c : Else-c-s) → whole (at5 c) ≡ from5 (at5 c)
past5 c = let z = at5 c in past4 c.before.before ∙ (rw (le-leb (word z 4) z.args.c c.if-c-s.false))

abbrev at6 : Else-d-s → Start
at6 c = at5 c.before.before

past6 : (c : Else-d-s) → whole (at6 c) ≡ from6 (at6 c)
past6 c = let z = at6 c in past5 c.before.before ∙ (rw (le-leb (word z 5) z.args.d c.if-d-s.false))

pub returns-then-tag-s : goal.returns-then-tag-s
returns-then-tag-s c = sym (begin c.before.before.before.before ∙ (rw (lt-leb (word c.before.before.before.before 0) c.args.tag c.if-tag-s.true)))

pub returns-then-kind-s : goal.returns-then-kind-s
returns-then-kind-s c = let z = at1 c.before.before.before in sym (past1 c.before.before.before ∙ (rw (lt-leb (word z 1) z.args.kind c.if-kind-s.true)))

pub returns-then-not-between : goal.returns-then-not-between
returns-then-not-between c =
    let z = at2 c.before.before.before.before in
    sym (past2 c.before.before.before.before ∙ ap (λ (b : Bool). b && from3 z) (sym c.between.ensures ∙ c.if-not-between.true))

pub returns-then-b-s : goal.returns-then-b-s
returns-then-b-s c = let z = at3 c.before.before.before in sym (past3 c.before.before.before ∙ (rw (lt-leb (word z 3) z.args.b c.if-b-s.true)))

pub returns-then-c-s : goal.returns-then-c-s
returns-then-c-s c = let z = at4 c.before.before.before in sym (past4 c.before.before.before ∙ (rw (lt-leb (word z 4) z.args.c c.if-c-s.true)))

pub returns-then-d-s : goal.returns-then-d-s
returns-then-d-s c = let z = at5 c.before.before.before in sym (past5 c.before.before.before ∙ (rw (lt-leb (word z 5) z.args.d c.if-d-s.true)))

pub returns : goal.returns
returns c =
    let s = (at6 c.before.before.before).args.s.now in
    let n : length (drop 6 s) ≤ length s - 6 = simp length-drop (omega arith) in
    c.all_zero.ensures ∙ ap zeros (take_all (length s - 6) (drop 6 s) n) ∙ sym (past6 c.before.before.before)
