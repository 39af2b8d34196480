-- The widest catch register of each function, read from the set-up's words. Assumes nothing.
use mathlib.Core.Path.{◌≡◌, refl, sym, ap, ap₂, ◌∙◌, subst}
use mathlib.Core.Bool.{Bool, true, false, ◌&&◌}
use mathlib.Core.List.{List, []}
use Prim.Native.Nat.{ℕ, suc, ◌+◌, ◌-◌, ◌*◌, ◌^◌, ◌≤◌, ◌<◌, max}
use native.Mathlib.Omega.{arith}
use borrow.Author.Tests.{eqb-true, eqb-false, ltb-true, leb-true}
use lib.Dec.{eqb, ltb, leb}
use lib.ListN.{length, get_or, take, drop, set, replicate, length-set, drop_of_length-le}
use lib.Seq.{length-take-le, drop-cons, get_or-take, get_or-set_same, get_or-set_other}
use Rattle.lists.specs.Parts.{part}
use Rattle.lists.specs.Tests.{all_below, zeros}
use Rattle.lists.proofs.Tests.{holds_at}
use Rattle.model.specs.Program.{between, limits_ok, costs_ok, handler_ok, func, func_of, no_func}
use Rattle.model.specs.declared.program.Handler.{Handler}
use Rattle.claims_sound.proofs.Tests.{and_left, and_right}
use Rattle.memory_tables.specs.Layout.{handler_from, handlers_from, function_in}
use Rattle.memory_tables.specs.Sizes.{limits_of, costs_of}
use Rattle.memory_world.proofs.Tables.{rows_at}
use Rattle.memory_world.specs.Decode.{setup_of}
use Rattle.memory_sound.specs.Words.{rest_ok, setup_held}
use Rattle.check_tables.specs.Setup.{handlers_test, function_test, hook_test, long_test, setup_test}
use Rattle.check_tables.specs.Frames.{catch_width, Catches}
use Rattle.check_tables.specs.Catch.{CatchFits}
use Rattle.check_tables.proofs.Handlers.{handlers-long, handlers-at}
use Rattle.check_tables.proofs.OneFrame.{functions-long}
use Rattle.check_tables.proofs.Closing.{long_of, setup-test}

-- ---- the handlers of one function, from the last to the first

module _ (ws : List ℕ) (at n : ℕ) (few : n ≤ 8) where
  abbrev hs : List Handler
  hs = take n (handlers_from 8 ws at)

  long : length hs ≡ n
  long = length-take-le n (handlers_from 8 ws at) (let e = handlers-long 8 ws at in omega arith)

  pub none_yet : 0 ≡ catch_width (drop n hs)
  none_yet = let l = long in ap catch_width (sym (drop_of_length-le hs {i = n} (omega arith)))

  pub one_more : (j most : ℕ) → 0 < j → j ≤ n → most ≡ catch_width (drop j hs) → max (get_or ws (at + (j - 1) * 4 + 3) 0 + 1) most ≡ catch_width (drop (j - 1) hs)
  one_more j most p h e =
      let l = long in
      let d = handler_from ws 0 in
      let s : suc (j - 1) ≡ j = omega arith in
      let x : get_or hs (j - 1) d ≡ handler_from ws (at + (j - 1) * 4) = get_or-take n (handlers_from 8 ws at) (j - 1) d (omega arith) ∙ handlers-at 8 (j - 1) at ws d (omega arith) in
      sym
      (ap catch_width (drop-cons hs (j - 1) d (omega arith))
      ∙ ap₂ (λ (z : Handler) (k : ℕ). max (z.catch + 1) (catch_width (drop k hs))) x s
      ∙ ap (max (get_or ws (at + (j - 1) * 4 + 3) 0 + 1)) (sym e))

  pub all_done : (j most : ℕ) → j ≤ 0 → most ≡ catch_width (drop j hs) → most ≡ catch_width hs
  all_done j most h e = let z : j ≡ 0 = omega arith in e ∙ ap (λ k. catch_width (drop k hs)) z

-- ---- what an accepted set-up says of each function

record Accepted (ws : List ℕ) : Type 0 where
  numbers : 14 ≤ length ws
  words : 14 + get_or ws 13 0 * 35 ≤ length ws
  few : get_or ws 13 0 ≤ 32
  each : all_below (get_or ws 13 0) (λ i. function_test ws (14 + i * 35)) ≡ true

accepted : (ws : List ℕ) → setup_held ws ≡ true → Accepted ws
accepted ws h =
    let n = get_or ws 13 0 in
    let t : ℕ → Bool = λ i. function_test ws (14 + i * 35) in
    let a = long_test ws in
    let b = a && limits_ok (limits_of ws) in
    let c = b && costs_ok (costs_of ws) in
    let d = c && leb n (get_or ws 3 0) in
    let e = d && all_below n t in
    let g = e && hook_test ws in
    let h₆ = and_left g (rest_ok ws (14 + n * 35)) (setup-test ws ∙ h) in
    let h₅ = and_left e (hook_test ws) h₆ in
    let h₄ = and_left d (all_below n t) h₅ in
    let h₃ = and_left c (leb n (get_or ws 3 0)) h₄ in
    let l = long_of ws (and_left a (limits_ok (limits_of ws)) (and_left b (costs_ok (costs_of ws)) h₃)) in
    record { numbers = l.0; words = l.1; few = leb-true n 32 (and_right (leb 1 n) (leb n 32) l.2); each = and_right d (all_below n t) h₅ }

pub record Function (ws : List ℕ) (i : ℕ) : Type 0 where
  pub fits : CatchFits ws (14 + i * 35 + 3) (get_or ws (14 + i * 35 + 2) 0)
  pub inside : 14 + i * 35 + 35 ≤ length ws
  pub below : i < 32

pub record SetupFacts (ws : List ℕ) : Type 0 where
  pub numbers : 14 ≤ length ws
  pub few : get_or ws 13 0 ≤ 32
  pub each : (i : ℕ) → i < get_or ws 13 0 → Function ws i

pub setup-facts : (ws : List ℕ) → setup_held ws ≡ true → SetupFacts ws
setup-facts ws held =
    let k = accepted ws held in
    let w = k.words in
    let f = k.few in
    record {
      numbers = k.numbers;
      few = f;
      each = λ i h.
          let at = 14 + i * 35 in
          let n = get_or ws (at + 2) 0 in
          let r = get_or ws at 0 in
          let t = holds_at (get_or ws 13 0) i (λ j. function_test ws (14 + j * 35)) h k.each in
          let a = leb r 256 in
          let b = leb (get_or ws (at + 1) 0) r in
          let c = leb n 8 in
          let d = handlers_test ws (at + 3) n r in
          let t₄ = and_left (a && b && c && d) (zeros (part (at + 3 + n * 4) (32 - n * 4) ws)) t in
          let t₃ = and_left (a && b && c) d t₄ in
          let t₂ = and_left (a && b) c t₃ in
          let eight = leb-true n 8 (and_right (a && b) c t₃) in
          let wide = leb-true r 256 (and_left a b t₂) in
          record {
            fits =
                record {
                  few = eight;
                  inside = omega arith;
                  small = λ j g.
                      let x = handler_from ws (at + 3 + j * 4) in
                      let o = holds_at n j (λ q. handler_ok r (handler_from ws (at + 3 + q * 4))) g (and_right (a && b && c) d t₄) in
                      let o₁ = ltb x.catch r in
                      let o₂ = ltb x.start (2 ^ 32) in
                      let o₃ = ltb x.end (2 ^ 32) in
                      let o₄ = ltb x.target (2 ^ 32) in
                      let m = ltb-true x.catch r (and_left o₁ o₂ (and_left (o₁ && o₂) o₃ (and_left (o₁ && o₂ && o₃) o₄ o))) in
                      omega arith;
                };
            inside = omega arith;
            below = omega arith;
          };
    }

-- ---- all functions

-- of function i
abbrev pub width : List ℕ → ℕ → ℕ
width ws i = catch_width (func_of (function_in ws i)).handlers

pub kept : (ws need : List ℕ) (i v : ℕ) → i < length need → ((j : ℕ) → j < i → get_or need j 0 ≡ width ws j) → v ≡ width ws i → (j : ℕ) → j < i + 1 → get_or (set need i v) j 0 ≡ width ws j
kept ws need i v l h e j g = go (eqb j i) refl
  where
    go : (b : Bool) → eqb j i ≡ b → get_or (set need i v) j 0 ≡ width ws j
    go true q = let z = eqb-true j i q in ap (λ k. get_or (set need i v) k 0) z ∙ get_or-set_same need i v 0 l ∙ e ∙ ap (width ws) (sym z)
    go false q = let d = eqb-false j i q in get_or-set_other need i j v 0 d ∙ h j (omega arith)

pub told : (ws need : List ℕ) (i : ℕ) → get_or ws 13 0 ≤ 32 → get_or ws 13 0 ≤ i → length need ≡ 32 → ((j : ℕ) → j < i → get_or need j 0 ≡ width ws j) → Catches (setup_of ws) need
told ws need i few all l h =
    let n = functions-long ws in
    record {
      long = l;
      few = omega arith;
      widths = λ j g. let k : j < get_or ws 13 0 = omega arith in
          h j (omega arith) ∙ sym (ap (λ f. catch_width f.handlers) (rows_at (λ q. func_of (function_in ws q)) (get_or ws 13 0) j no_func k));
    }
