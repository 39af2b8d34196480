-- The code of a continuation, and what it says of it. Assumes nothing.
use mathlib.Core.Path.{◌≡◌, refl, sym, ap, ◌∙◌}
use mathlib.Core.Bool.{Bool, true, false, ◌&&◌}
use mathlib.Core.List.{List}
use Prim.Native.Nat.{ℕ, zero, suc, ◌+◌, ◌-◌, ◌*◌, ◌≤◌, ◌<◌}
use native.Mathlib.Omega.{arith}
use borrow.Author.Tests.{eq-eqb, ne_eqb, ltb-true, ltb-false, lt-ltb, le-ltb}
use lib.Dec.{eqb, ltb}
use lib.ListN.{get_or}
use Rattle.lists.specs.Pick.{pick}
use Rattle.lists.proofs.Tables.{chunk-get}
use Rattle.model.specs.Frames.{is_coro}
use Rattle.model.specs.Sound.{lies_under}
use Rattle.model.specs.declared.machine.Cont.{Cont}
use Rattle.memory_tables.specs.Layout.{cont_of, frame_of}
use Rattle.memory_tables.specs.Parts.{piled}
use Rattle.lists.proofs.Tests.{and-false}
use Rattle.check_tables.specs.Frames.{cont_test}
use Rattle.check_tables.proofs.Bools.{and-true}

-- from the fifth on
past : (n r : ℕ) → 5 ≤ n → cont_of n r ≡ Cont.Coro
unfolding pick
past n r h =
    rw (ne_eqb n 0 (λ e. omega arith), ne_eqb n 1 (λ e. omega arith), ne_eqb n 2 (λ e. omega arith), ne_eqb n 3 (λ e. omega arith), ne_eqb n 4 (λ e. omega arith))

pub coro-code : (n r : ℕ) → is_coro (cont_of n r) ≡ ltb 4 n
unfolding pick
coro-code zero r = refl
coro-code (suc zero) r = refl
coro-code (suc (suc zero)) r = refl
coro-code (suc (suc (suc zero))) r = refl
coro-code (suc (suc (suc (suc zero)))) r = refl
coro-code (suc (suc (suc (suc (suc n))))) r = let k : ℕ = suc (suc (suc (suc (suc n)))) in rw (past k r (omega arith), lt-ltb 4 k (omega arith))

-- the frame below
under : (ws : List ℕ) (i r end : ℕ) → lies_under r end (piled 6 frame_of (suc i) ws) ≡ ltb (get_or ws (i * 6 + 2) 0 + r) end
under ws i r end = rw (chunk-get 6 i 2 ws (omega arith))

below : (ws : List ℕ) (i r end : ℕ) → 0 < i → lies_under r end (piled 6 frame_of i ws) ≡ ltb (get_or ws ((i - 1) * 6 + 2) 0 + r) end
below ws i r end h =
    let e : i ≡ suc (i - 1) = omega arith in
    ap (λ n. lies_under r end (piled 6 frame_of n ws)) e ∙ under ws (i - 1) r end

pub under-near : (ws : List ℕ) (i r end : ℕ) → 0 < i → get_or ws ((i - 1) * 6 + 2) 0 < end
    → ltb r (end - get_or ws ((i - 1) * 6 + 2) 0) ≡ lies_under r end (piled 6 frame_of i ws)
under-near ws i r end h g = go (ltb r (end - get_or ws ((i - 1) * 6 + 2) 0)) refl ∙ sym (below ws i r end h)
  where
    go : (t : Bool) → ltb r (end - get_or ws ((i - 1) * 6 + 2) 0) ≡ t → ltb r (end - get_or ws ((i - 1) * 6 + 2) 0) ≡ ltb (get_or ws ((i - 1) * 6 + 2) 0 + r) end
    go true e = let k = ltb-true r (end - get_or ws ((i - 1) * 6 + 2) 0) e in e ∙ sym (lt-ltb (get_or ws ((i - 1) * 6 + 2) 0 + r) end (omega arith))
    go false e = let k = ltb-false r (end - get_or ws ((i - 1) * 6 + 2) 0) e in e ∙ sym (le-ltb (get_or ws ((i - 1) * 6 + 2) 0 + r) end (omega arith))

pub under-far : (ws : List ℕ) (i r end : ℕ) → 0 < i → end ≤ get_or ws ((i - 1) * 6 + 2) 0 → lies_under r end (piled 6 frame_of i ws) ≡ false
under-far ws i r end h g = below ws i r end h ∙ le-ltb (get_or ws ((i - 1) * 6 + 2) 0 + r) end (omega arith)

-- ---- a continuation in words: its code, its register, and where it may stand

-- Entry on no saved frame
no_body : (a b : Bool) → false ≡ ((a && pick b false false) && true)
unfolding pick
no_body true true = refl
no_body true false = refl
no_body false b = refl

pub entry-saved : (saved : Bool) (ws : List ℕ) (i n r base : ℕ) → n ≡ 0 → saved ≡ true → false ≡ cont_test saved ws i n r base
unfolding pick
entry-saved saved ws i n r base e s = rw (e, s) (no_body (eqb 0 r) (eqb i 0))

pub entry-reg : (saved : Bool) (ws : List ℕ) (i n r base : ℕ) → n ≡ 0 → (r ≡ 0 → ⊥) → false ≡ cont_test saved ws i n r base
unfolding pick
entry-reg saved ws i n r base e h = rw (e, ne_eqb 0 r (λ z. h (sym z)))

-- Entry at the bottom only
pub entry-low : (saved : Bool) (ws : List ℕ) (i n r base : ℕ) → n ≡ 0 → saved ≡ false → r ≡ 0 → eqb i 0 ≡ cont_test saved ws i n r base
unfolding pick
entry-low saved ws i n r base e s z = rw (e, s, z) (sym (and-true (eqb i 0)))

-- a register lies in the frame below: none does under the lowest
plain-lies : (saved : Bool) (ws : List ℕ) (i r base : ℕ) → (pick saved (pick (eqb i 0) false true) true && lies_under r base (piled 6 frame_of i ws)) ≡ lies_under r base (piled 6 frame_of i ws)
unfolding pick
plain-lies true ws zero r base = refl
plain-lies true ws (suc i) r base = rw (ne_eqb (suc i) 0 (λ e. omega arith))
plain-lies false ws i r base = refl

pub with-reg : (saved : Bool) (ws : List ℕ) (i n r base : ℕ) (b : Bool) → (n ≡ 0 → ⊥) → n < 4 → b ≡ lies_under r base (piled 6 frame_of i ws) → b ≡ cont_test saved ws i n r base
unfolding pick
with-reg saved ws i zero r base b h g e = absurd (h refl)
with-reg saved ws i (suc zero) r base b h g e = e ∙ sym (rw (eq-eqb r r refl) (plain-lies saved ws i r base))
with-reg saved ws i (suc (suc zero)) r base b h g e = e ∙ sym (rw (eq-eqb r r refl) (plain-lies saved ws i r base))
with-reg saved ws i (suc (suc (suc zero))) r base b h g e = e ∙ sym (rw (eq-eqb r r refl) (plain-lies saved ws i r base))
with-reg saved ws i (suc (suc (suc (suc n)))) r base b h g e = absurd (omega arith)

-- a code past the sixth is none
past-none : (saved : Bool) (ws : List ℕ) (i n r base : ℕ) → 6 ≤ n → cont_test saved ws i n r base ≡ false
unfolding pick
past-none saved ws i n r base h = rw (past n r (omega arith), ne_eqb 5 n (λ e. omega arith))

-- Discard and Coro have no register
pub no-reg : (saved : Bool) (ws : List ℕ) (i n r base : ℕ) → 4 ≤ n → (r ≡ 0 → ⊥) → false ≡ cont_test saved ws i n r base
unfolding pick
no-reg saved ws i zero r base g h = absurd (omega arith)
no-reg saved ws i (suc zero) r base g h = absurd (omega arith)
no-reg saved ws i (suc (suc zero)) r base g h = absurd (omega arith)
no-reg saved ws i (suc (suc (suc zero))) r base g h = absurd (omega arith)
no-reg saved ws i (suc (suc (suc (suc zero)))) r base g h = rw (ne_eqb 0 r (λ z. h (sym z)))
no-reg saved ws i (suc (suc (suc (suc (suc n))))) r base g h =
    let k : ℕ = suc (suc (suc (suc (suc n)))) in
    sym (rw (past k r (omega arith), ne_eqb 0 r (λ z. h (sym z)), and-false (eqb 5 k)))

-- Discard and Coro on the stack, at the bottom of a row, and over it
pub on-stack : (saved : Bool) (ws : List ℕ) (i n r base : ℕ) → 4 ≤ n → r ≡ 0 → saved ≡ false → ltb n 6 ≡ cont_test saved ws i n r base
unfolding pick
on-stack saved ws i zero r base g z s = absurd (omega arith)
on-stack saved ws i (suc zero) r base g z s = absurd (omega arith)
on-stack saved ws i (suc (suc zero)) r base g z s = absurd (omega arith)
on-stack saved ws i (suc (suc (suc zero))) r base g z s = absurd (omega arith)
on-stack saved ws i (suc (suc (suc (suc zero)))) r base g z s = rw (z, s)
on-stack saved ws i (suc (suc (suc (suc (suc zero))))) r base g z s = rw (z, s)
on-stack saved ws i (suc (suc (suc (suc (suc (suc n)))))) r base g z s =
    let k : ℕ = suc (suc (suc (suc (suc (suc n))))) in
    le-ltb k 6 (omega arith) ∙ sym (past-none saved ws i k r base (omega arith))

pub in-row-low : (saved : Bool) (ws : List ℕ) (i n r base : ℕ) → 4 ≤ n → r ≡ 0 → saved ≡ true → i ≡ 0 → eqb n 5 ≡ cont_test saved ws i n r base
unfolding pick
in-row-low saved ws i zero r base g z s e = absurd (omega arith)
in-row-low saved ws i (suc zero) r base g z s e = absurd (omega arith)
in-row-low saved ws i (suc (suc zero)) r base g z s e = absurd (omega arith)
in-row-low saved ws i (suc (suc (suc zero))) r base g z s e = absurd (omega arith)
in-row-low saved ws i (suc (suc (suc (suc zero)))) r base g z s e = rw (z, s, e)
in-row-low saved ws i (suc (suc (suc (suc (suc zero))))) r base g z s e = rw (z, s, e)
in-row-low saved ws i (suc (suc (suc (suc (suc (suc n)))))) r base g z s e =
    let k : ℕ = suc (suc (suc (suc (suc (suc n))))) in
    ne_eqb k 5 (λ q. omega arith) ∙ sym (past-none saved ws i k r base (omega arith))

pub in-row-over : (saved : Bool) (ws : List ℕ) (i n r base : ℕ) → 4 ≤ n → r ≡ 0 → saved ≡ true → (i ≡ 0 → ⊥) → eqb n 4 ≡ cont_test saved ws i n r base
unfolding pick
in-row-over saved ws i zero r base g z s e = absurd (omega arith)
in-row-over saved ws i (suc zero) r base g z s e = absurd (omega arith)
in-row-over saved ws i (suc (suc zero)) r base g z s e = absurd (omega arith)
in-row-over saved ws i (suc (suc (suc zero))) r base g z s e = absurd (omega arith)
in-row-over saved ws i (suc (suc (suc (suc zero)))) r base g z s e = rw (z, s, ne_eqb i 0 e)
in-row-over saved ws i (suc (suc (suc (suc (suc zero))))) r base g z s e = rw (z, s, ne_eqb i 0 e)
in-row-over saved ws i (suc (suc (suc (suc (suc (suc n)))))) r base g z s e =
    let k : ℕ = suc (suc (suc (suc (suc (suc n))))) in
    ne_eqb k 4 (λ q. omega arith) ∙ sym (past-none saved ws i k r base (omega arith))
