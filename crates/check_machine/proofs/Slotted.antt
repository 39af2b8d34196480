-- The table of ranges says of a slot's words what codes, flags and fields must hold. Assumes nothing.
use mathlib.Core.Path.{◌≡◌, refl, sym, ap, ◌∙◌, subst}
use mathlib.Core.Bool.{Bool, true, false, ◌&&◌}
use mathlib.Core.List.{List, [], ◌∷◌}
use Prim.Native.Nat.{ℕ, zero, suc, ◌+◌, ◌*◌, ◌-◌, ◌^◌, ◌≤◌, ◌<◌}
use native.Mathlib.Omega.{arith}
use lib.Dec.{eqb, ltb, leb}
use lib.ListN.{length, get_or, drop, replicate, get_or-eq_default}
use borrow.Author.Tests.{le-leb, leb-true, lt-ltb, ltb-true, ltb-false, eq-eqb, eqb-true}
use Rattle.lists.specs.Chunks.{chunk_at}
use Rattle.lists.specs.Tests.{all_below, zeros}
use Rattle.lists.proofs.Tests.{holds_at, holds-all}
use Rattle.lists.proofs.Tables.{length-chunk, length-chunks, chunks-at, chunk-get}
use Rattle.heap.specs.Object.{code_of}
use Rattle.heap.specs.Table.{slot}
use Rattle.heap.specs.Slot.{width, flag, slot_words, slot_of_words}
use Rattle.heap.specs.Heap.{slots_of}
use Rattle.heap.specs.Ranges.{Range, unused, kinds, within, slot_ok, table_ok}
use Rattle.std.specs.Prelude.{Some, None}
use Rattle.heap.specs.declared.object.CoroState.{CoroState}
use Rattle.heap.specs.declared.object.Object as H
use Rattle.heap.specs.declared.object.Object.TheVariants as O
use Rattle.heap.proofs.Valid.{In, facts, slot_same}
use Rattle.model.specs.Lists.{each}
use Rattle.claims_sound.proofs.Tests.{and_left, and_right, both, each_at, at_each}
use Rattle.memory_sound.specs.Words.{same}
use Rattle.memory_sound.proofs.Held.{same_true, true_same}
use Rattle.check_tables.proofs.Bools.{iff}
use Rattle.check_machine.specs.Table.{slot_fits, table_test}

pub of-facts : (rs : List Range) (ws : List ℕ) → In rs ws → within rs ws ≡ true
of-facts [] [] h = refl
of-facts [] (w ∷ ws) h = absurd h
of-facts (r ∷ rs) [] h = absurd h
of-facts (r ∷ rs) (w ∷ ws) h = both (both (le-leb r.least w h.0.0) (le-leb w r.most h.0.1)) (of-facts rs ws h.1)

flag_small : (b : Bool) → flag b ≤ 1
flag_small true = omega arith
flag_small false = omega arith

code-small : (t : CoroState) → code_of t ≤ 5
code-small CoroState.Created = omega arith
code-small CoroState.Running = omega arith
code-small CoroState.Yielded = omega arith
code-small CoroState.Awaiting = omega arith
code-small CoroState.Returned = omega arith
code-small CoroState.Failed = omega arith

-- words that are not used
unused-in : (n : ℕ) → In (unused n) (replicate n 0)
unused-in zero = tt
unused-in (suc n) = ((omega arith, omega arith), unused-in n)

abbrev Small : List ℕ → Type 0
Small ws = (i : ℕ) → get_or ws i 0 < 2 ^ 64

-- what fits lies in its ranges
fits_in : (t : ℕ) (o : H.Object) → Small (slot_words (slot t o)) → slot_fits (slot t o) ≡ true → slot_ok (slot_words (slot t o)) ≡ true
fits_in t O.Empty b h =
    let z = eqb-true t 0 (and_right (ltb t (2 ^ 16) && true) (eqb t 0) h) in
    of-facts (get_or kinds 0 []) (slot_words (slot t O.Empty))
    ((omega arith, omega arith), ((omega arith, omega arith), unused-in 18))
fits_in t (O.Func f) b h =
    let p = and_left (ltb t (2 ^ 16) && ltb f (2 ^ 32)) true h in
    let x = ltb-true t (2 ^ 16) (and_left (ltb t (2 ^ 16)) (ltb f (2 ^ 32)) p) in
    let y = ltb-true f (2 ^ 32) (and_right (ltb t (2 ^ 16)) (ltb f (2 ^ 32)) p) in
    of-facts (get_or kinds 1 []) (slot_words (slot t (O.Func f)))
    ((omega arith, omega arith), ((omega arith, omega arith), ((omega arith, omega arith), unused-in 17)))
fits_in t (O.Int n) b h =
    let x = ltb-true t (2 ^ 16) (and_left (ltb t (2 ^ 16)) true (and_left (ltb t (2 ^ 16) && true) true h)) in
    let y = b 2 in
    of-facts (get_or kinds 2 []) (slot_words (slot t (O.Int n)))
    ((omega arith, omega arith), ((omega arith, omega arith), ((omega arith, omega arith), unused-in 17)))
fits_in t (O.Iter s d None) b h =
    let x = ltb-true t (2 ^ 16) (and_left (ltb t (2 ^ 16)) true (and_left (ltb t (2 ^ 16) && true) true h)) in
    let y = b 2 in
    let z = flag_small d in
    of-facts (get_or kinds 3 []) (slot_words (slot t (O.Iter s d None)))
    ((omega arith, omega arith), ((omega arith, omega arith), ((omega arith, omega arith), ((omega arith, omega arith), unused-in 16))))
fits_in t (O.Iter s d (Some k)) b h =
    let x = ltb-true t (2 ^ 16) (and_left (ltb t (2 ^ 16)) true (and_left (ltb t (2 ^ 16) && true) true h)) in
    let y = b 2 in
    let z = flag_small d in
    let u = b 4 in
    of-facts (get_or kinds 4 []) (slot_words (slot t (O.Iter s d (Some k))))
    ((omega arith, omega arith), ((omega arith, omega arith), ((omega arith, omega arith), ((omega arith, omega arith), ((omega arith, omega arith), unused-in 15)))))
fits_in t (O.Error e f p v) b h =
    let r = leb 1 e && leb e 8 in
    let q = and_left (ltb t (2 ^ 16) && (r && ltb f (2 ^ 32) && ltb p (2 ^ 32))) true h in
    let x = ltb-true t (2 ^ 16) (and_left (ltb t (2 ^ 16)) (r && ltb f (2 ^ 32) && ltb p (2 ^ 32)) q) in
    let o = and_right (ltb t (2 ^ 16)) (r && ltb f (2 ^ 32) && ltb p (2 ^ 32)) q in
    let o₂ = and_left (r && ltb f (2 ^ 32)) (ltb p (2 ^ 32)) o in
    let o₁ = and_left r (ltb f (2 ^ 32)) o₂ in
    let y₁ = leb-true 1 e (and_left (leb 1 e) (leb e 8) o₁) in
    let y₂ = leb-true e 8 (and_right (leb 1 e) (leb e 8) o₁) in
    let y₃ = ltb-true f (2 ^ 32) (and_right r (ltb f (2 ^ 32)) o₂) in
    let y₄ = ltb-true p (2 ^ 32) (and_right (r && ltb f (2 ^ 32)) (ltb p (2 ^ 32)) o) in
    let z = b 5 in
    of-facts (get_or kinds 5 []) (slot_words (slot t (O.Error e f p v))) (
      (omega arith, omega arith),
      (
        (omega arith, omega arith),
        (
          (omega arith, omega arith),
          (
            (omega arith, omega arith),
            (
              (omega arith, omega arith),
              (
                (omega arith, omega arith),
                unused-in 14,
              ),
            ),
          ),
        ),
      ),
    )
fits_in t (O.Coro c) b h =
    let p = and_left (ltb t (2 ^ 16) && ltb c.waiting (2 ^ 16)) true h in
    let x = ltb-true t (2 ^ 16) (and_left (ltb t (2 ^ 16)) (ltb c.waiting (2 ^ 16)) p) in
    let y = ltb-true c.waiting (2 ^ 16) (and_right (ltb t (2 ^ 16)) (ltb c.waiting (2 ^ 16)) p) in
    let z₁ = code-small c.state in
    let z₂ = flag_small c.closing in
    let z₃ = flag_small c.finalized in
    let z₄ = flag_small c.task in
    let b₁ = b 6 in
    let b₂ = b 7 in
    let b₃ = b 8 in
    let b₄ = b 9 in
    let b₅ = b 10 in
    let b₆ = b 11 in
    let b₇ = b 13 in
    let b₈ = b 14 in
    let b₉ = b 15 in
    let c₁ = b 16 in
    let c₂ = b 17 in
    of-facts (get_or kinds 6 []) (slot_words (slot t (O.Coro c))) (
      (omega arith, omega arith),
      (
        (omega arith, omega arith),
        (
          (omega arith, omega arith),
          (
            (omega arith, omega arith),
            (
              (omega arith, omega arith),
              (
                (omega arith, omega arith),
                (
                  (omega arith, omega arith),
                  (
                    (omega arith, omega arith),
                    (
                      (omega arith, omega arith),
                      (
                        (omega arith, omega arith),
                        (
                          (omega arith, omega arith),
                          (
                            (omega arith, omega arith),
                            (
                              (omega arith, omega arith),
                              (
                                (omega arith, omega arith),
                                (
                                  (omega arith, omega arith),
                                  (
                                    (omega arith, omega arith),
                                    ((omega arith, omega arith), ((omega arith, omega arith), unused-in 2)),
                                  ),
                                ),
                              ),
                            ),
                          ),
                        ),
                      ),
                    ),
                  ),
                ),
              ),
            ),
          ),
        ),
      ),
    )

in-fits : (t : ℕ) (o : H.Object) → slot_ok (slot_words (slot t o)) ≡ true → slot_fits (slot t o) ≡ true
in-fits t O.Empty h =
    let q = facts (get_or kinds 0 []) (slot_words (slot t O.Empty)) h in
    both (both (lt-ltb t (2 ^ 16) (omega (arith, q.0.1))) refl) (eq-eqb t 0 (omega (arith, q.0.1)))
in-fits t (O.Func f) h =
    let q = facts (get_or kinds 1 []) (slot_words (slot t (O.Func f))) h in
    both (both (lt-ltb t (2 ^ 16) (omega (arith, q.0.1))) (lt-ltb f (2 ^ 32) (omega (arith, q.1.1.0.1)))) refl
in-fits t (O.Int n) h =
    let q = facts (get_or kinds 2 []) (slot_words (slot t (O.Int n))) h in
    both (both (lt-ltb t (2 ^ 16) (omega (arith, q.0.1))) refl) refl
in-fits t (O.Iter s d None) h =
    let q = facts (get_or kinds 3 []) (slot_words (slot t (O.Iter s d None))) h in
    both (both (lt-ltb t (2 ^ 16) (omega (arith, q.0.1))) refl) refl
in-fits t (O.Iter s d (Some k)) h =
    let q = facts (get_or kinds 4 []) (slot_words (slot t (O.Iter s d (Some k)))) h in
    both (both (lt-ltb t (2 ^ 16) (omega (arith, q.0.1))) refl) refl
in-fits t (O.Error e f p v) h =
    let q = facts (get_or kinds 5 []) (slot_words (slot t (O.Error e f p v))) h in
    both
    (both (lt-ltb t (2 ^ 16) (omega (arith, q.0.1)))
    (both (both (both (le-leb 1 e q.1.1.0.0) (le-leb e 8 q.1.1.0.1)) (lt-ltb f (2 ^ 32) (omega (arith, q.1.1.1.0.1)))) (lt-ltb p (2 ^ 32) (omega (arith, q.1.1.1.1.0.1)))))
    refl
in-fits t (O.Coro c) h =
    let q = facts (get_or kinds 6 []) (slot_words (slot t (O.Coro c))) h in
    both (both (lt-ltb t (2 ^ 16) (omega (arith, q.0.1))) (lt-ltb c.waiting (2 ^ 16) (omega (arith, q.1.1.1.1.1.1.1.1.1.1.1.1.0.1)))) refl

-- a slot's words
abbrev pub slot_held : List ℕ → Bool
slot_held ws = same (slot_words (slot_of_words ws)) ws

pub slot-test : (ws : List ℕ) → length ws ≡ width → Small ws → slot_ok ws ≡ (slot_held ws && slot_fits (slot_of_words ws))
slot-test ws n b =
    let x = slot_of_words ws in
    iff (slot_ok ws) (slot_held ws && slot_fits x)
    (λ h.
    let e = slot_same ws n h in
    both (true_same (slot_words x) ws e) (in-fits x.tag x.object (ap slot_ok e ∙ h)))
    (λ h.
    let e = same_true (slot_words x) ws (and_left (slot_held ws) (slot_fits x) h) in
    sym (ap slot_ok e)
    ∙ fits_in x.tag x.object (subst Small (sym e) b) (and_right (slot_held ws) (slot_fits x) h))

-- all slots, and zeros after them
module _ (ws : List ℕ) (n : ℕ) (room : n * width ≤ length ws) (small : Small ws) where
  small-chunk : (i : ℕ) → i < n → Small (chunk_at width ws i)
  small-chunk i h k = go (ltb k width) refl
    where
      go : (t : Bool) → ltb k width ≡ t → get_or (chunk_at width ws i) k 0 < 2 ^ 64
      go true e = subst (λ v. v < 2 ^ 64) (sym (chunk-get width i k ws (ltb-true k width e))) (small (i * width + k))
      go false e =
          let l = length-chunk width i ws (omega arith) in
          let past : length (chunk_at width ws i) ≤ k = omega (arith, ltb-false k width e) in
          subst (λ v. v < 2 ^ 64) (sym (get_or-eq_default (chunk_at width ws i) 0 past)) (omega arith)

  at_slot : (i : ℕ) → i < n → slot_ok (chunk_at width ws i) ≡ (slot_held (chunk_at width ws i) && slot_fits (slot_of_words (chunk_at width ws i)))
  at_slot i h = slot-test (chunk_at width ws i) (length-chunk width i ws (omega arith)) (small-chunk i h)

  pub table_same : table_ok n ws ≡ table_test ws n
  table_same =
      let t : ℕ → Bool = λ i. slot_ok (chunk_at width ws i) in
      let u : ℕ → Bool = λ i. slot_held (chunk_at width ws i) in
      let v : ℕ → Bool = λ i. slot_fits (slot_of_words (chunk_at width ws i)) in
      let z = zeros (drop (n * width) ws) in
      let fits = each slot_fits (slots_of n ws) in
      let at : (i : ℕ) → i < n → get_or (slots_of n ws) i (slot 0 O.Empty) ≡ slot_of_words (chunk_at width ws i) = λ i h. chunks-at width slot_of_words n i ws (slot 0 O.Empty) h in
      let long = length-chunks width slot_of_words n ws in
      iff (table_ok n ws) (table_test ws n)
      (λ h.
      let a = and_left (all_below n t) z h in
      let one : (i : ℕ) → i < n → (u i && v i) ≡ true = λ i k. sym (at_slot i k) ∙ holds_at n i t k a in
      both (both (holds-all n u (λ i k. and_left (u i) (v i) (one i k))) (and_right (all_below n t) z h))
      (at_each slot_fits (slots_of n ws) (slot 0 O.Empty) (λ i k. let l : i < n = omega arith in ap slot_fits (at i l) ∙ and_right (u i) (v i) (one i l))))
      (λ h.
      let held = and_left (all_below n u && z) fits h in
      both
      (holds-all n t
      (λ i k.
      at_slot i k
      ∙ both (holds_at n i u k (and_left (all_below n u) z held)) (sym (ap slot_fits (at i k)) ∙ each_at slot_fits (slots_of n ws) i (slot 0 O.Empty) (and_right (all_below n u && z) fits h) (let l = long in omega arith))))
      (and_right (all_below n u) z held))
