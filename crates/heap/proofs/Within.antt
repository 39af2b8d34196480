-- One word within its range, and a coroutine's words within theirs. Assumes nothing.
use mathlib.Core.Path.{◌≡◌, refl}
use mathlib.Core.Bool.{Bool, true, false, ◌&&◌}
use mathlib.Core.List.{List, [], ◌∷◌}
use Prim.Native.Nat.{ℕ, zero, suc, ◌-◌, ◌/◌, ◌^◌, ◌≤◌, ◌<◌}
use native.Mathlib.Omega.{arith}
use borrow.Author.Tests.{le-leb, lt-leb, eq-eqb, ne_eqb, ltb-true, ltb-false}
use lib.Dec.{leb, ltb, eqb}
use lib.ListN.{length, get_or}
use Rattle.lists.specs.Tests.{zeros}
use Rattle.heap.specs.Ranges.{kinds, within}

pub from_zero : (w m : ℕ) → (leb 0 w && leb w m) ≡ leb w m
from_zero w m = rw (le-leb 0 w (omega arith))

pub at_zero : (x : ℕ) → (leb 0 x && leb x 0) ≡ eqb x 0
at_zero zero = refl
at_zero (suc x) =
    let n : suc x ≡ 0 → ⊥ = λ e. omega arith in
    rw (lt-leb (suc x) 0 (omega arith), ne_eqb (suc x) 0 n, le-leb 0 (suc x) (omega arith))

inside : (w m : ℕ) → w ≤ m → (leb 0 w && leb w m) ≡ true
inside w m h = rw (from_zero w m, le-leb w m h)

any_word : (w : ℕ) → w < 2 ^ 64 → (leb 0 w && leb w (2 ^ 64 - 1)) ≡ true
any_word w h = inside w (2 ^ 64 - 1) (omega arith)

-- a number of bits: nothing is left above them
half-word : (w : ℕ) → (leb 0 w && leb w (2 ^ 16 - 1)) ≡ eqb (w / 65536) 0
half-word w = rw (from_zero w (2 ^ 16 - 1)) (go (ltb w 65536) refl)
  where
    go : (b : Bool) → ltb w 65536 ≡ b → leb w (2 ^ 16 - 1) ≡ eqb (w / 65536) 0
    go true e = let h = ltb-true w 65536 e in rw (le-leb w (2 ^ 16 - 1) (omega arith), eq-eqb (w / 65536) 0 (omega arith))
    go false e =
        let h = ltb-false w 65536 e in
        let n : w / 65536 ≡ 0 → ⊥ = λ z. omega arith in
        rw (lt-leb w (2 ^ 16 - 1) (omega arith), ne_eqb (w / 65536) 0 n)

flag_word : (w : ℕ) → (leb 0 w && leb w 1) ≡ eqb (w / 2) 0
flag_word w = rw (from_zero w 1) (go (ltb w 2) refl)
  where
    go : (b : Bool) → ltb w 2 ≡ b → leb w 1 ≡ eqb (w / 2) 0
    go true e = let h = ltb-true w 2 e in rw (le-leb w 1 (omega arith), eq-eqb (w / 2) 0 (omega arith))
    go false e =
        let h = ltb-false w 2 e in
        let n : w / 2 ≡ 0 → ⊥ = λ z. omega arith in
        rw (lt-leb w 1 (omega arith), ne_eqb (w / 2) 0 n)

swap : (a b c : Bool) → (a && (b && c)) ≡ (b && (a && c))
swap true b c = refl
swap false true c = refl
swap false false c = refl

-- what a coroutine's words hold above their bits
abbrev pub above : List ℕ → List ℕ
above s =
    get_or s 0 0 / 65536 ∷ get_or s 3 0 / 2 ∷ get_or s 4 0 / 2 ∷ get_or s 5 0 / 2 ∷ get_or s 12 0 / 65536 ∷ get_or s 18 0 ∷ get_or s 19 0 ∷ []

-- its state, and nothing above
pub coro-row : (s : List ℕ) → length s ≡ 20 → get_or s 1 0 ≡ 6 → ((i : ℕ) → get_or s i 0 < 2 ^ 64) → within (get_or kinds 6 []) s ≡ (leb (get_or s 2 0) 5 && zeros (above s))
coro-row [] n k f = absurd (omega arith)
coro-row (x₀ ∷ []) n k f = absurd (omega arith)
coro-row (x₀ ∷ x₁ ∷ []) n k f = absurd (omega arith)
coro-row (x₀ ∷ x₁ ∷ x₂ ∷ []) n k f = absurd (omega arith)
coro-row (x₀ ∷ x₁ ∷ x₂ ∷ x₃ ∷ []) n k f = absurd (omega arith)
coro-row (x₀ ∷ x₁ ∷ x₂ ∷ x₃ ∷ x₄ ∷ []) n k f = absurd (omega arith)
coro-row (x₀ ∷ x₁ ∷ x₂ ∷ x₃ ∷ x₄ ∷ x₅ ∷ []) n k f = absurd (omega arith)
coro-row (x₀ ∷ x₁ ∷ x₂ ∷ x₃ ∷ x₄ ∷ x₅ ∷ x₆ ∷ []) n k f = absurd (omega arith)
coro-row (x₀ ∷ x₁ ∷ x₂ ∷ x₃ ∷ x₄ ∷ x₅ ∷ x₆ ∷ x₇ ∷ []) n k f = absurd (omega arith)
coro-row (x₀ ∷ x₁ ∷ x₂ ∷ x₃ ∷ x₄ ∷ x₅ ∷ x₆ ∷ x₇ ∷ x₈ ∷ []) n k f = absurd (omega arith)
coro-row (x₀ ∷ x₁ ∷ x₂ ∷ x₃ ∷ x₄ ∷ x₅ ∷ x₆ ∷ x₇ ∷ x₈ ∷ x₉ ∷ []) n k f = absurd (omega arith)
coro-row (x₀ ∷ x₁ ∷ x₂ ∷ x₃ ∷ x₄ ∷ x₅ ∷ x₆ ∷ x₇ ∷ x₈ ∷ x₉ ∷ x₁₀ ∷ []) n k f = absurd (omega arith)
coro-row (x₀ ∷ x₁ ∷ x₂ ∷ x₃ ∷ x₄ ∷ x₅ ∷ x₆ ∷ x₇ ∷ x₈ ∷ x₉ ∷ x₁₀ ∷ x₁₁ ∷ []) n k f = absurd (omega arith)
coro-row (x₀ ∷ x₁ ∷ x₂ ∷ x₃ ∷ x₄ ∷ x₅ ∷ x₆ ∷ x₇ ∷ x₈ ∷ x₉ ∷ x₁₀ ∷ x₁₁ ∷ x₁₂ ∷ []) n k f = absurd (omega arith)
coro-row (x₀ ∷ x₁ ∷ x₂ ∷ x₃ ∷ x₄ ∷ x₅ ∷ x₆ ∷ x₇ ∷ x₈ ∷ x₉ ∷ x₁₀ ∷ x₁₁ ∷ x₁₂ ∷ x₁₃ ∷ []) n k f = absurd (omega arith)
coro-row (x₀ ∷ x₁ ∷ x₂ ∷ x₃ ∷ x₄ ∷ x₅ ∷ x₆ ∷ x₇ ∷ x₈ ∷ x₉ ∷ x₁₀ ∷ x₁₁ ∷ x₁₂ ∷ x₁₃ ∷ x₁₄ ∷ []) n k f = absurd (omega arith)
coro-row (x₀ ∷ x₁ ∷ x₂ ∷ x₃ ∷ x₄ ∷ x₅ ∷ x₆ ∷ x₇ ∷ x₈ ∷ x₉ ∷ x₁₀ ∷ x₁₁ ∷ x₁₂ ∷ x₁₃ ∷ x₁₄ ∷ x₁₅ ∷ []) n k f = absurd (omega arith)
coro-row (x₀ ∷ x₁ ∷ x₂ ∷ x₃ ∷ x₄ ∷ x₅ ∷ x₆ ∷ x₇ ∷ x₈ ∷ x₉ ∷ x₁₀ ∷ x₁₁ ∷ x₁₂ ∷ x₁₃ ∷ x₁₄ ∷ x₁₅ ∷ x₁₆ ∷ []) n k f = absurd (omega arith)
coro-row (x₀ ∷ x₁ ∷ x₂ ∷ x₃ ∷ x₄ ∷ x₅ ∷ x₆ ∷ x₇ ∷ x₈ ∷ x₉ ∷ x₁₀ ∷ x₁₁ ∷ x₁₂ ∷ x₁₃ ∷ x₁₄ ∷ x₁₅ ∷ x₁₆ ∷ x₁₇ ∷ []) n k f = absurd (omega arith)
coro-row (x₀ ∷ x₁ ∷ x₂ ∷ x₃ ∷ x₄ ∷ x₅ ∷ x₆ ∷ x₇ ∷ x₈ ∷ x₉ ∷ x₁₀ ∷ x₁₁ ∷ x₁₂ ∷ x₁₃ ∷ x₁₄ ∷ x₁₅ ∷ x₁₆ ∷ x₁₇ ∷ x₁₈ ∷ []) n k f = absurd (omega arith)
coro-row (x₀ ∷ x₁ ∷ x₂ ∷ x₃ ∷ x₄ ∷ x₅ ∷ x₆ ∷ x₇ ∷ x₈ ∷ x₉ ∷ x₁₀ ∷ x₁₁ ∷ x₁₂ ∷ x₁₃ ∷ x₁₄ ∷ x₁₅ ∷ x₁₆ ∷ x₁₇ ∷ x₁₈ ∷ x₁₉ ∷ y ∷ ys) n k f = absurd (omega arith)
coro-row (x₀ ∷ x₁ ∷ x₂ ∷ x₃ ∷ x₄ ∷ x₅ ∷ x₆ ∷ x₇ ∷ x₈ ∷ x₉ ∷ x₁₀ ∷ x₁₁ ∷ x₁₂ ∷ x₁₃ ∷ x₁₄ ∷ x₁₅ ∷ x₁₆ ∷ x₁₇ ∷ x₁₈ ∷ x₁₉ ∷ []) n k f =
    rw (half-word x₀, inside x₁ 6 (omega arith), from_zero x₂ 5, flag_word x₃, flag_word x₄, flag_word x₅)
    (rw (any_word x₆ (f 6), any_word x₇ (f 7), any_word x₈ (f 8), any_word x₉ (f 9), any_word x₁₀ (f 10), any_word x₁₁ (f 11), half-word x₁₂)
    (rw (any_word x₁₃ (f 13), any_word x₁₄ (f 14), any_word x₁₅ (f 15), any_word x₁₆ (f 16), any_word x₁₇ (f 17), at_zero x₁₈, at_zero x₁₉)
    (swap (eqb (x₀ / 65536) 0) (leb x₂ 5) _)))
