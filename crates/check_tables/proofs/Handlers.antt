-- A function's words: what they decode to has them exactly if the words of handlers that it has not are 0. Assumes nothing.
use mathlib.Core.Path.{◌≡◌, refl, sym, ap, ap₂, ◌∙◌}
use mathlib.Core.Bool.{true}
use mathlib.Core.List.{List, [], ◌∷◌, ◌++◌}
use Prim.Native.Nat.{ℕ, zero, suc, ◌+◌, ◌-◌, ◌*◌, ◌≤◌, ◌<◌}
use native.Mathlib.Omega.{arith}
use native.Mathlib.Nat.{le_of_suc-le-suc}
use lib.ListN.{length, get_or, take, drop, replicate, length-take, replicate-append-replicate}
use lib.Seq.{length-take-le, drop-cons, drop-drop, take-nil, get_or-take}
use Rattle.lists.specs.Parts.{part}
use Rattle.lists.specs.Tests.{zeros}
use Rattle.lists.proofs.Tests.{zeros-are, are-zeros, holds_at, holds-all}
use Rattle.model.specs.Lists.{each}
use Rattle.model.specs.Program.{Func, handler_ok, func_of}
use Rattle.model.specs.declared.program.Handler.{Handler}
use Rattle.claims_sound.proofs.Tests.{each_at, at_each}
use Rattle.memory_tables.specs.Layout.{handler_words, handler_from, handlers_from, handlers_words, function_words, function_from}
use Rattle.memory_tables.proofs.Padded.{length_part}
use Rattle.check_tables.specs.Setup.{handlers_test}
use Rattle.check_tables.proofs.Bools.{iff}

-- ---- parts of parts

pub drop-take : (k n : ℕ) (xs : List ℕ) → drop k (take n xs) ≡ take (n - k) (drop k xs)
drop-take zero n xs = ap (λ m. take m xs) (let e : n ≡ n - 0 = omega arith in e)
drop-take (suc k) zero xs = ap (λ m. take m (drop (suc k) xs)) (let e : 0 ≡ 0 - suc k = omega arith in e)
drop-take (suc k) (suc n) [] = sym (take-nil (suc n - suc k))
drop-take (suc k) (suc n) (x ∷ xs) = drop-take k n xs ∙ ap (λ m. take m (drop k xs)) (let e : n - k ≡ suc n - suc k = omega arith in e)

pub drop-part : (at k n : ℕ) (xs : List ℕ) → drop k (part at n xs) ≡ part (at + k) (n - k) xs
drop-part at k n xs = drop-take k n (drop at xs) ∙ ap (take (n - k)) (drop-drop k at xs)

pub one_more : (at n : ℕ) (xs : List ℕ) → at < length xs → part at (suc n) xs ≡ get_or xs at 0 ∷ part (at + 1) n xs
one_more at n xs h = ap (take (suc n)) (drop-cons xs at 0 h) ∙ ap (λ k. get_or xs at 0 ∷ part k n xs) (let e : suc at ≡ at + 1 = omega arith in e)

-- the four words of a handler
four : (at n : ℕ) (ws : List ℕ) → at + 4 ≤ length ws → part at (4 + n) ws ≡ handler_words (handler_from ws at) ++ part (at + 4) n ws
four at n ws h =
    let e₂ : at + 1 + 1 ≡ at + 2 = omega arith in
    let e₃ : at + 2 + 1 ≡ at + 3 = omega arith in
    let e₄ : at + 3 + 1 ≡ at + 4 = omega arith in
    let m₃ : 4 + n ≡ suc (3 + n) = omega arith in
    let m₂ : 3 + n ≡ suc (2 + n) = omega arith in
    let m₁ : 2 + n ≡ suc (1 + n) = omega arith in
    let m₀ : 1 + n ≡ suc n = omega arith in
    rw (
      m₃,
      one_more at (3 + n) ws (omega arith),
      m₂,
      one_more (at + 1) (2 + n) ws (omega arith),
      e₂,
      m₁,
      one_more (at + 2) (1 + n) ws (omega arith),
      e₃,
      m₀,
      one_more (at + 3) n ws (omega arith),
      e₄,
    )

-- ---- handlers

none-words : (n : ℕ) → handlers_words n [] ≡ replicate (n * 4) 0
none-words zero = refl
none-words (suc n) =
    let e : 4 + n * 4 ≡ suc n * 4 = omega arith in
    ap (λ (z : List ℕ). replicate 4 0 ++ z) (none-words n) ∙ replicate-append-replicate 4 (n * 4) 0 ∙ ap (λ m. replicate m 0) e

-- the words after those of the handlers are 0
rest-words : (n : ℕ) (hs : List Handler) → length hs ≤ n → zeros (drop (length hs * 4) (handlers_words n hs)) ≡ true
rest-words n [] h = ap zeros (none-words n) ∙ are-zeros (n * 4)
rest-words zero (x ∷ hs) h = absurd (omega arith)
rest-words (suc n) (x ∷ hs) h =
    let e : suc (length hs) * 4 ≡ suc (suc (suc (suc (length hs * 4)))) = omega arith in
    ap (λ k. zeros (drop k (handlers_words (suc n) (x ∷ hs)))) e ∙ rest-words n hs (le_of_suc-le-suc h)

pub handlers-long : (n : ℕ) (ws : List ℕ) (at : ℕ) → length (handlers_from n ws at) ≡ n
handlers-long zero ws at = refl
handlers-long (suc n) ws at = ap suc (handlers-long n ws (at + 4))

pub handlers-at : (n j at : ℕ) (ws : List ℕ) (d : Handler) → j < n → get_or (handlers_from n ws at) j d ≡ handler_from ws (at + j * 4)
handlers-at zero j at ws d h = absurd (omega arith)
handlers-at (suc n) zero at ws d h = ap (handler_from ws) (let e : at ≡ at + 0 * 4 = omega arith in e)
handlers-at (suc n) (suc j) at ws d h = handlers-at n j (at + 4) ws d (le_of_suc-le-suc h) ∙ ap (handler_from ws) (let e : at + 4 + j * 4 ≡ at + suc j * 4 = omega arith in e)

-- k handlers of n, with zeros after them
same-handlers : (n k at : ℕ) (ws : List ℕ) → k ≤ n → at + n * 4 ≤ length ws → zeros (drop (k * 4) (part at (n * 4) ws)) ≡ true
    → handlers_words n (take k (handlers_from n ws at)) ≡ part at (n * 4) ws
same-handlers n zero at ws h l z =
    let p : List ℕ = part at (n * 4) ws in
    none-words n ∙ sym (zeros-are p z ∙ ap (λ m. replicate m 0) (length_part at (n * 4) ws l))
same-handlers zero (suc k) at ws h l z = absurd (omega arith)
same-handlers (suc n) (suc k) at ws h l z =
    let m : suc n * 4 ≡ 4 + n * 4 = omega arith in
    let j : suc k * 4 ≡ suc (suc (suc (suc (k * 4)))) = omega arith in
    let f = four at (n * 4) ws (omega arith) in
    let e : part at (suc n * 4) ws ≡ handler_words (handler_from ws at) ++ part (at + 4) (n * 4) ws = ap (λ i. part at i ws) m ∙ f in
    let z₄ : zeros (drop (k * 4) (part (at + 4) (n * 4) ws)) ≡ true = sym (ap₂ (λ i (x : List ℕ). zeros (drop i x)) j e) ∙ z in
    ap (λ (x : List ℕ). handler_words (handler_from ws at) ++ x) (same-handlers n k (at + 4) ws (le_of_suc-le-suc h) (omega arith) z₄) ∙ sym e

-- ---- the tests of the handlers that it has

pub each-handler : (ws : List ℕ) (at n regs : ℕ) → n ≤ 8 → each (handler_ok regs) (take n (handlers_from 8 ws at)) ≡ handlers_test ws at n regs
each-handler ws at n regs h =
    let hs = take n (handlers_from 8 ws at) in
    let d = handler_from ws 0 in
    let l : length hs ≡ n = length-take-le n (handlers_from 8 ws at) (let e = handlers-long 8 ws at in omega arith) in
    let here : (j : ℕ) → j < n → get_or hs j d ≡ handler_from ws (at + j * 4) = λ j g. get_or-take n (handlers_from 8 ws at) j d g ∙ handlers-at 8 j at ws d (omega arith) in
    iff (each (handler_ok regs) hs) (handlers_test ws at n regs)
    (λ e. holds-all n (λ j. handler_ok regs (handler_from ws (at + j * 4))) (λ j g. sym (ap (handler_ok regs) (here j g)) ∙ each_at (handler_ok regs) hs j d e (omega arith)))
    (λ e. at_each (handler_ok regs) hs d (λ j g. let k : j < n = omega arith in ap (handler_ok regs) (here j k) ∙ holds_at n j (λ i. handler_ok regs (handler_from ws (at + i * 4))) k e))

-- ---- the 35 words

module _ (ws : List ℕ) (at : ℕ) (inside : at + 35 ≤ length ws) where
  abbrev count : ℕ
  count = get_or ws (at + 2) 0

  abbrev fn : Func
  fn = func_of (function_from ws at)

  -- three numbers and eight handlers
  opened : part at 35 ws ≡ get_or ws at 0 ∷ get_or ws (at + 1) 0 ∷ get_or ws (at + 2) 0 ∷ part (at + 3) 32 ws
  opened =
      let e₂ : at + 1 + 1 ≡ at + 2 = omega arith in
      let e₃ : at + 2 + 1 ≡ at + 3 = omega arith in
      rw (one_more at 34 ws (omega arith), one_more (at + 1) 33 ws (omega arith), e₂, one_more (at + 2) 32 ws (omega arith), e₃)

  pub function-same : count ≤ 8 → zeros (part (at + 3 + count * 4) (32 - count * 4) ws) ≡ true → function_words fn ≡ part at 35 ws
  function-same h z =
      let l : length fn.handlers ≡ count = length-take-le count (handlers_from 8 ws (at + 3)) (let e = handlers-long 8 ws (at + 3) in omega arith) in
      let hs = same-handlers 8 count (at + 3) ws h (omega arith) (ap zeros (drop-part (at + 3) (count * 4) 32 ws) ∙ z) in
      ap₂ (λ (n : ℕ) (x : List ℕ). get_or ws at 0 ∷ get_or ws (at + 1) 0 ∷ n ∷ x) l hs ∙ sym opened

  same_parts : function_words fn ≡ part at 35 ws → (length fn.handlers ≡ count) × (handlers_words 8 fn.handlers ≡ part (at + 3) 32 ws)
  same_parts e =
      let q = e ∙ opened in
      (ap (λ (x : List ℕ). get_or x 2 0) q, ap (λ (x : List ℕ). drop 3 x) q)

  pub few-handlers : function_words fn ≡ part at 35 ws → count ≤ 8
  few-handlers e =
      let l = (same_parts e).0 in
      let t = length-take count (handlers_from 8 ws (at + 3)) in
      let u = handlers-long 8 ws (at + 3) in
      omega arith

  pub rest-zero : function_words fn ≡ part at 35 ws → zeros (part (at + 3 + count * 4) (32 - count * 4) ws) ≡ true
  rest-zero e =
      let p = same_parts e in
      let k = few-handlers e in
      let r = rest-words 8 fn.handlers (let l = p.0 in omega arith) in
      ap zeros (sym (drop-part (at + 3) (count * 4) 32 ws)) ∙ ap₂ (λ n (x : List ℕ). zeros (drop (n * 4) x)) (sym p.0) (sym p.1) ∙ r
