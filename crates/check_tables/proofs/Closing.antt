-- The set-up's words pass the tests of 01's closing list exactly if they are those of an accepted set-up. Assumes nothing.
use mathlib.Core.Path.{◌≡◌, refl, sym, ap, ap₂, ◌∙◌, subst}
use mathlib.Core.Bool.{Bool, true, false, ◌&&◌, ◌||◌}
use mathlib.Core.List.{List, [], ◌∷◌, ◌++◌}
use Prim.Native.Nat.{ℕ, ◌+◌, ◌-◌, ◌*◌, ◌≤◌, ◌<◌}
use native.Mathlib.Omega.{arith}
use borrow.Author.Tests.{eqb-true, eq-eqb, ne_eqb, leb-true, le-leb}
use lib.Dec.{eqb, leb}
use lib.ListN.{length, get_or, take, drop, replicate, length-take}
use lib.Seq.{drop-drop, take-add}
use Rattle.lists.specs.Pick.{pick}
use Rattle.lists.specs.Chunks.{chunk_at, words}
use Rattle.lists.specs.Parts.{part, pad}
use Rattle.lists.specs.Tests.{all_below, zeros}
use Rattle.lists.proofs.Tests.{holds_at, holds-all}
use Rattle.lists.proofs.Tables.{words-at}
use Rattle.std.specs.Prelude.{Option, Some, None}
use Rattle.model.specs.Lists.{each}
use Rattle.model.specs.Program.{Func, Setup, func_of, no_func, between, limits_ok, costs_ok, handler_ok, function_ok, hook_ok, setup_ok}
use Rattle.claims_sound.proofs.Tests.{and_left, and_right, both, each_at, at_each}
use Rattle.memory_tables.specs.Layout.{function_in, function_words, handlers_from}
use Rattle.memory_tables.specs.Sizes.{hook_words, numbers_words, setup_words, limits_of, costs_of, hook_of}
use Rattle.memory_tables.proofs.Codes.{length-function}
use Rattle.memory_world.proofs.Tables.{rows_at}
use Rattle.memory_world.specs.Decode.{functions_of, setup_of}
use Rattle.memory_world.proofs.Encoded.{length-setup}
use Rattle.memory_world.proofs.Widest.{held_fits}
use Rattle.memory_sound.specs.Words.{same, rest_ok, setup_held}
use Rattle.memory_sound.proofs.Held.{same_true, true_same, rest-padded, padded-rest, tabled-all}
use Rattle.check_tables.specs.Setup.{handlers_test, function_test, hook_test, long_test, setup_test}
use Rattle.check_tables.proofs.Bools.{iff}
use Rattle.check_tables.proofs.Handlers.{one_more, each-handler, function-same, few-handlers, rest-zero}
use Rattle.check_tables.proofs.OneFrame.{functions-long}

-- ---- the rules of a set-up

record Parts (s : Setup) : Type 0 where
  limits : limits_ok s.limits ≡ true
  costs : costs_ok s.costs ≡ true
  some : between 1 32 (length s.functions) ≡ true
  fit : leb (length s.functions) s.limits.slots ≡ true
  each : each function_ok s.functions ≡ true
  hook : hook_ok s s.hook ≡ true

parts : (s : Setup) → setup_ok s ≡ true → Parts s
unfolding setup_ok
parts s h =
    let n = length s.functions in
    let a = limits_ok s.limits in
    let b = a && costs_ok s.costs in
    let c = b && between 1 32 n in
    let d = c && leb n s.limits.slots in
    let e = d && each function_ok s.functions in
    let h₅ = and_left e (hook_ok s s.hook) h in
    let h₄ = and_left d (each function_ok s.functions) h₅ in
    let h₃ = and_left c (leb n s.limits.slots) h₄ in
    let h₂ = and_left b (between 1 32 n) h₃ in
    record {
      limits = and_left a (costs_ok s.costs) h₂;
      costs = and_right a (costs_ok s.costs) h₂;
      some = and_right b (between 1 32 n) h₃;
      fit = and_right c (leb n s.limits.slots) h₄;
      each = and_right d (each function_ok s.functions) h₅;
      hook = and_right e (hook_ok s s.hook) h;
    }

of_parts : (s : Setup) → Parts s → setup_ok s ≡ true
unfolding setup_ok
of_parts s p = both (both (both (both (both p.limits p.costs) p.some) p.fit) p.each) p.hook

-- ---- a function

module _ (ws : List ℕ) where
  abbrev f : ℕ → Func
  f i = func_of (function_in ws i)

  abbrev n : ℕ
  n = get_or ws 13 0

  -- its test is what a set-up asks of it, and of its words
  function-test : (i : ℕ) → 14 + i * 35 + 35 ≤ length ws → function_test ws (14 + i * 35) ≡ true → (function_ok (f i) ≡ true) × (function_words (f i) ≡ part (14 + i * 35) 35 ws)
  function-test i l h =
      let at = 14 + i * 35 in
      let k = get_or ws (at + 2) 0 in
      let r = get_or ws at 0 in
      let a = leb r 256 in
      let b = leb (get_or ws (at + 1) 0) r in
      let c = leb k 8 in
      let d = handlers_test ws (at + 3) k r in
      let e = zeros (part (at + 3 + k * 4) (32 - k * 4) ws) in
      let h₄ = and_left (a && b && c && d) e h in
      let h₃ = and_left (a && b && c) d h₄ in
      let few = leb-true k 8 (and_right (a && b) c h₃) in
      let w = function-same ws at l few (and_right (a && b && c && d) e h) in
      (both (both (and_left (a && b) c h₃) (le-leb (length (f i).handlers) 8 (few-of i few))) (each-handler ws (at + 3) k r few ∙ and_right (a && b && c) d h₄), w)
    where
      few-of : (j : ℕ) → get_or ws (14 + j * 35 + 2) 0 ≤ 8 → length (f j).handlers ≤ 8
      few-of j g = let t = length-take (get_or ws (14 + j * 35 + 2) 0) (handlers_from 8 ws (14 + j * 35 + 3)) in omega arith

  test-function : (i : ℕ) → 14 + i * 35 + 35 ≤ length ws → function_ok (f i) ≡ true → function_words (f i) ≡ part (14 + i * 35) 35 ws → function_test ws (14 + i * 35) ≡ true
  test-function i l h w =
      let at = 14 + i * 35 in
      let k = get_or ws (at + 2) 0 in
      let r = get_or ws at 0 in
      let a = leb r 256 && leb (get_or ws (at + 1) 0) r in
      let c = leb (length (f i).handlers) 8 in
      let d = each (handler_ok r) (f i).handlers in
      let few = few-handlers ws at l w in
      let h₂ = and_left (a && c) d h in
      both (both (both (and_left a c h₂) (le-leb k 8 few)) (sym (each-handler ws (at + 3) k r few) ∙ and_right (a && c) d h)) (rest-zero ws at l w)

  -- the words of function i, past the numbers
  function-chunk : (i : ℕ) → chunk_at 35 (drop 14 ws) i ≡ part (14 + i * 35) 35 ws
  function-chunk i = ap (take 35) (drop-drop (i * 35) 14 ws)

  function-inside : (i : ℕ) → i < n → 14 + n * 35 ≤ length ws → 14 + i * 35 + 35 ≤ length ws
  function-inside i h g = omega arith

  -- ---- the hook

  hook-words : (eqb (get_or ws 11 0) 1 || eqb (get_or ws 11 0) 0 && eqb (get_or ws 12 0) 0) ≡ true → hook_words (hook_of ws) ≡ get_or ws 11 0 ∷ get_or ws 12 0 ∷ []
  unfolding pick
  hook-words h = go (eqb (get_or ws 11 0) 0) refl
    where
      or-false : (x y : Bool) → (x || false && y) ≡ true → x ≡ true
      or-false true y e = refl
      or-false false y e = e

      go : (t : Bool) → eqb (get_or ws 11 0) 0 ≡ t → hook_words (pick t None (Some (get_or ws 12 0))) ≡ get_or ws 11 0 ∷ get_or ws 12 0 ∷ []
      go true e =
          let z = eqb-true (get_or ws 11 0) 0 e in
          let one : eqb (get_or ws 11 0) 1 ≡ false = ne_eqb (get_or ws 11 0) 1 (λ q. omega arith) in
          let y : eqb (get_or ws 12 0) 0 ≡ true = sym (rw (one, e)) ∙ h in
          ap₂ (λ (a b : ℕ). a ∷ b ∷ []) (sym z) (sym (eqb-true (get_or ws 12 0) 0 y))
      go false e = let x = eqb-true (get_or ws 11 0) 1 (or-false (eqb (get_or ws 11 0) 1) (eqb (get_or ws 12 0) 0) (sym (ap (λ t. eqb (get_or ws 11 0) 1 || t && eqb (get_or ws 12 0) 0) e) ∙ h)) in
          ap (λ (a : ℕ). a ∷ get_or ws 12 0 ∷ []) (sym x)

  words-hook : hook_words (hook_of ws) ≡ get_or ws 11 0 ∷ get_or ws 12 0 ∷ [] → (eqb (get_or ws 11 0) 1 || eqb (get_or ws 11 0) 0 && eqb (get_or ws 12 0) 0) ≡ true
  unfolding pick
  words-hook h = go (eqb (get_or ws 11 0) 0) refl h
    where
      or-one : (x : Bool) → (true || x) ≡ true
      or-one x = refl

      go : (t : Bool) → eqb (get_or ws 11 0) 0 ≡ t → hook_words (pick t None (Some (get_or ws 12 0))) ≡ get_or ws 11 0 ∷ get_or ws 12 0 ∷ [] → (eqb (get_or ws 11 0) 1 || t && eqb (get_or ws 12 0) 0) ≡ true
      go true e q =
          let z = eqb-true (get_or ws 11 0) 0 e in
          let y : 0 ≡ get_or ws 12 0 = ap (λ (l : List ℕ). get_or l 1 0) q in
          rw (ne_eqb (get_or ws 11 0) 1 (λ u. omega arith)) (eq-eqb (get_or ws 12 0) 0 (sym y))
      go false e q =
          let x : 1 ≡ get_or ws 11 0 = ap (λ (l : List ℕ). get_or l 0 0) q in
          ap (λ t. t || false && eqb (get_or ws 12 0) 0) (eq-eqb (get_or ws 11 0) 1 (sym x))

  -- ---- the words of what they decode to

  numbers : 14 ≤ length ws → hook_words (hook_of ws) ≡ get_or ws 11 0 ∷ get_or ws 12 0 ∷ [] → take 14 ws ≡ numbers_words (setup_of ws)
  numbers h e =
      let m : take 14 ws ≡ part 0 14 ws = refl in
      m
      ∙ (rw (
        one_more 0 13 ws (omega arith),
        one_more 1 12 ws (omega arith),
        one_more 2 11 ws (omega arith),
        one_more 3 10 ws (omega arith),
        one_more 4 9 ws (omega arith),
        one_more 5 8 ws (omega arith),
        one_more 6 7 ws (omega arith),
        one_more 7 6 ws (omega arith),
        one_more 8 5 ws (omega arith),
        one_more 9 4 ws (omega arith),
        one_more 10 3 ws (omega arith),
        one_more 11 2 ws (omega arith),
        one_more 12 1 ws (omega arith),
        one_more 13 0 ws (omega arith),
        e,
        functions-long ws,
      ))

  whole : 14 ≤ length ws → 14 + n * 35 ≤ length ws → hook_words (hook_of ws) ≡ get_or ws 11 0 ∷ get_or ws 12 0 ∷ []
      → ((i : ℕ) → i < n → function_words (f i) ≡ part (14 + i * 35) 35 ws) → rest_ok ws (14 + n * 35) ≡ true → ws ≡ pad (length ws) (setup_words (setup_of ws))
  whole l m e g z =
      rest-padded ws (14 + n * 35) m z
      ∙ ap (pad (length ws))
      (take-add 14 (n * 35) ws
      ∙ ap₂ (λ (a b : List ℕ). a ++ b) (numbers l e) (sym (tabled-all function_words 35 f (drop 14 ws) n (λ j h. g j h ∙ sym (function-chunk j)))))

  -- ---- both ways

  module _ (held : ws ≡ pad (length ws) (setup_words (setup_of ws))) where
    abbrev rest : List ℕ
    rest = replicate (length ws - length (setup_words (setup_of ws))) 0

    -- past the numbers
    after : (o : Option ℕ) → hook_of ws ≡ o → drop 14 ws ≡ words function_words (functions_of ws) ++ rest
    after None e = ap (drop 14) held ∙ (rw e)
    after (Some x) e = ap (drop 14) held ∙ (rw e)

    words_of : (i : ℕ) → i < n → function_words (f i) ≡ part (14 + i * 35) 35 ws
    words_of i h =
        let k : i < length (functions_of ws) = rw (functions-long ws) h in
        sym
        (sym (function-chunk i) ∙ ap (λ (z : List ℕ). chunk_at 35 z i) (after (hook_of ws) refl)
        ∙ words-at 35 function_words (λ z. no_func) length-function (functions_of ws) rest i no_func k ∙ ap function_words (rows_at f n i no_func h))

    hook-of : (o : Option ℕ) → hook_of ws ≡ o → hook_words (hook_of ws) ≡ get_or ws 11 0 ∷ get_or ws 12 0 ∷ []
    hook-of None e = rw e (ap₂ (λ (a b : ℕ). a ∷ b ∷ []) (sym (ap (λ (z : List ℕ). get_or z 11 0) held ∙ (rw e))) (sym (ap (λ (z : List ℕ). get_or z 12 0) held ∙ (rw e))))
    hook-of (Some x) e = rw e (ap₂ (λ (a b : ℕ). a ∷ b ∷ []) (sym (ap (λ (z : List ℕ). get_or z 11 0) held ∙ (rw e))) (sym (ap (λ (z : List ℕ). get_or z 12 0) held ∙ (rw e))))

  pub long_of : long_test ws ≡ true → (14 ≤ length ws) × (14 + n * 35 ≤ length ws) × (between 1 32 n ≡ true)
  long_of h =
      let a = leb 14 (length ws) in
      let b = between 1 32 n in
      let c = leb (14 + n * 35) (length ws) in
      let k = and_left (a && b) c h in
      (leb-true 14 (length ws) (and_left a b k), leb-true (14 + n * 35) (length ws) (and_right (a && b) c h), and_right a b k)

  pub setup-test : setup_test ws ≡ setup_held ws
  setup-test =
      let s = setup_of ws in
      let t : ℕ → Bool = λ i. function_test ws (14 + i * 35) in
      let a = long_test ws in
      let b = a && limits_ok (limits_of ws) in
      let c = b && costs_ok (costs_of ws) in
      let d = c && leb n (get_or ws 3 0) in
      let e = d && all_below n t in
      let g = e && hook_test ws in
      let coded = eqb (get_or ws 11 0) 1 || eqb (get_or ws 11 0) 0 && eqb (get_or ws 12 0) 0 in
      let u = setup_ok s in
      let v = same ws (pad (length ws) (setup_words s)) in
      iff (setup_test ws) (setup_held ws)
      (λ h.
      let h₆ = and_left g (rest_ok ws (14 + n * 35)) h in
      let h₅ = and_left e (hook_test ws) h₆ in
      let h₄ = and_left d (all_below n t) h₅ in
      let h₃ = and_left c (leb n (get_or ws 3 0)) h₄ in
      let h₂ = and_left b (costs_ok (costs_of ws)) h₃ in
      let l = long_of (and_left a (limits_ok (limits_of ws)) h₂) in
      let fns = and_right d (all_below n t) h₅ in
      let one : (i : ℕ) → i < n → (function_ok (f i) ≡ true) × (function_words (f i) ≡ part (14 + i * 35) 35 ws) = λ i k. function-test i (function-inside i k l.1) (holds_at n i t k fns) in
      let hk = and_right e (hook_test ws) h₆ in
      both
      (of_parts s
      (record {
        limits = and_right a (limits_ok (limits_of ws)) h₂;
        costs = and_right b (costs_ok (costs_of ws)) h₃;
        some = ap (between 1 32) (functions-long ws) ∙ l.2;
        fit = ap (λ x. leb x (get_or ws 3 0)) (functions-long ws) ∙ and_right c (leb n (get_or ws 3 0)) h₄;
        each = at_each function_ok (functions_of ws) no_func (λ i k. let j : i < n = subst (λ x. i < x) (functions-long ws) k in ap function_ok (rows_at f n i no_func j) ∙ (one i j).0);
        hook = and_right coded (hook_ok s (hook_of ws)) hk;
      }))
      (true_same ws (pad (length ws) (setup_words s))
      (whole l.0 l.1 (hook-words (and_left coded (hook_ok s (hook_of ws)) hk)) (λ i k. (one i k).1) (and_right g (rest_ok ws (14 + n * 35)) h))))
      (λ h.
      let p = parts s (and_left u v h) in
      let q = same_true ws (pad (length ws) (setup_words s)) (and_right u v h) in
      let fits = held_fits s ws q in
      let long = functions-long ws in
      both
      (both
      (both
      (both
      (both (both (both (both (le-leb 14 (length ws) fits.numbers) (sym (ap (between 1 32) long) ∙ p.some)) (le-leb (14 + n * 35) (length ws) fits.functions)) p.limits) p.costs)
      (sym (ap (λ x. leb x (get_or ws 3 0)) long) ∙ p.fit))
      (holds-all n t
      (λ i k.
      test-function i (function-inside i k fits.functions)
      (sym (ap function_ok (rows_at f n i no_func k)) ∙ each_at function_ok (functions_of ws) i no_func p.each (subst (λ x. i < x) (sym long) k)) (words_of q i k))))
      (both (words-hook (hook-of q (hook_of ws) refl)) p.hook))
      (ap (λ (z : List ℕ). rest_ok z (14 + n * 35)) q
      ∙ padded-rest (length ws) (14 + n * 35) (setup_words s) (length-setup s ∙ ap (λ x. 14 + x * 35) long)))
