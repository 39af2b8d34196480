-- The set-up read from its words. Assumes nothing.
use Rattle.std.proofs.Common.{◌≡◌, ℕ, zero, suc, ◌+◌, ◌-◌, ◌*◌, ◌<◌, ◌≤◌, ltb, List, ◌++◌, length, get_or, drop, replicate, sym, refl, ap, ◌∙◌, add-zero, arith, get_or-drop}
use Rattle.lists.specs.Pick.{pick}
use Rattle.lists.specs.Chunks.{chunk_at, words}
use Rattle.lists.specs.Parts.{pad}
use Rattle.lists.proofs.Tables.{chunk-get, words-at}
use Rattle.std.specs.Prelude.{Option, Some, None}
use Rattle.model.specs.Program.{Setup, func, func_of, no_func, is_function}
use Rattle.memory_tables.specs.Layout.{handlers_from, function_from, function_in, function_words}
use Rattle.memory_tables.specs.Sizes.{setup_words, limits_of, costs_of, hook_of, functions_of}
use Rattle.memory_tables.proofs.Codes.{length-function, function-back}

pub limits-back : (s : Setup) (rest : List ℕ) → limits_of (setup_words s ++ rest) ≡ s.limits
limits-back s rest = refl

pub costs-back : (s : Setup) (rest : List ℕ) → costs_of (setup_words s ++ rest) ≡ s.costs
costs-back s rest = refl

hooked : (s : Setup) (rest : List ℕ) (o : Option ℕ) → s.hook ≡ o → hook_of (setup_words s ++ rest) ≡ o
unfolding pick
hooked s rest None e = rw e
hooked s rest (Some f) e = rw e

pub hook-back : (s : Setup) (rest : List ℕ) → hook_of (setup_words s ++ rest) ≡ s.hook
hook-back s rest = hooked s rest s.hook refl

counted : (s : Setup) (rest : List ℕ) (o : Option ℕ) → s.hook ≡ o → get_or (setup_words s ++ rest) 13 0 ≡ length s.functions
counted s rest None e = rw e
counted s rest (Some f) e = rw e

pub functions-count : (s : Setup) (rest : List ℕ) → get_or (setup_words s ++ rest) 13 0 ≡ length s.functions
functions-count s rest = counted s rest s.hook refl

after : (s : Setup) (rest : List ℕ) (o : Option ℕ) → s.hook ≡ o → drop 14 (setup_words s ++ rest) ≡ words function_words s.functions ++ rest
after s rest None e = rw e
after s rest (Some f) e = rw e

-- ---- handlers and functions, from one list at an offset and from another at none

shift-handlers : (n k at : ℕ) (ws cs : List ℕ) → ((i : ℕ) → i < k + n * 4 → get_or ws (at + i) 0 ≡ get_or cs i 0) → handlers_from n ws (at + k) ≡ handlers_from n cs k
shift-handlers zero k at ws cs same = refl
shift-handlers (suc n) k at ws cs same =
    let e₁ : at + k + 1 ≡ at + (k + 1) = omega arith in
    let e₂ : at + k + 2 ≡ at + (k + 2) = omega arith in
    let e₃ : at + k + 3 ≡ at + (k + 3) = omega arith in
    let e₄ : at + k + 4 ≡ at + (k + 4) = omega arith in
    let more : handlers_from n ws (at + (k + 4)) ≡ handlers_from n cs (k + 4) = shift-handlers n (k + 4) at ws cs (λ i h. same i (omega arith)) in
    rw (e₁, e₂, e₃, e₄, same k (omega arith), same (k + 1) (omega arith), same (k + 2) (omega arith), same (k + 3) (omega arith), more)

shift-function : (at : ℕ) (ws cs : List ℕ) → ((i : ℕ) → i < 35 → get_or ws (at + i) 0 ≡ get_or cs i 0) → function_from ws at ≡ function_from cs 0
shift-function at ws cs same =
    let first : get_or ws at 0 ≡ get_or cs 0 0 = ap (λ i. get_or ws i 0) (sym (add-zero at)) ∙ same 0 (omega arith) in
    let hs : handlers_from 8 ws (at + 3) ≡ handlers_from 8 cs 3 = shift-handlers 8 3 at ws cs same in
    let one = same 1 (omega arith) in
    let two = same 2 (omega arith) in
    λ i. record { regs = first i; params = one i; handlers = hs i; count = two i }

-- word j of function i
function-word : (s : Setup) (rest : List ℕ) (i j : ℕ) → i < length s.functions → j < 35
    → get_or (setup_words s ++ rest) (14 + i * 35 + j) 0 ≡ get_or (function_words (func s i)) j 0
function-word s rest i j h g =
    let ws : List ℕ = setup_words s ++ rest in
    let e : 14 + i * 35 + j ≡ 14 + (i * 35 + j) = omega arith in
    ap (λ n. get_or ws n 0) e ∙ sym (get_or-drop 14 ws (i * 35 + j) 0) ∙ sym (chunk-get 35 i j (drop 14 ws) g)
    ∙ ap (λ (z : List ℕ). get_or (chunk_at 35 z i) j 0) (after s rest s.hook refl)
    ∙ ap (λ (z : List ℕ). get_or z j 0) (words-at 35 function_words (λ z. no_func) length-function s.functions rest i no_func h)

-- function i of a set-up is read from its words
pub function-at : (s : Setup) (rest : List ℕ) (i : ℕ) → i < length s.functions → length (func s i).handlers ≤ 8
    → func_of (function_in (setup_words s ++ rest) i) ≡ func s i
function-at s rest i h k =
    ap func_of (shift-function (14 + i * 35) (setup_words s ++ rest) (function_words (func s i)) (λ j g. function-word s rest i j h g)) ∙ function-back (func s i) k

-- ---- words that hold a set-up, and zeros after it

module _ (s : Setup) (ws : List ℕ) (held : ws ≡ pad (length ws) (setup_words s)) where
  abbrev rest : List ℕ
  rest = replicate (length ws - length (setup_words s)) 0

  -- word 13 is the number of functions
  pub functions-in : get_or ws 13 0 ≡ length s.functions
  functions-in = ap (λ (z : List ℕ). get_or z 13 0) held ∙ functions-count s rest

  -- the registers of a function
  pub regs-in : (i : ℕ) → i < get_or ws 13 0 → (function_in ws i).regs ≡ (func s i).regs
  regs-in i h =
      let n = functions-in in
      ap (λ (z : List ℕ). get_or z (14 + i * 35) 0) held
      ∙ ap (λ k. get_or (setup_words s ++ rest) k 0) (sym (add-zero (14 + i * 35)))
      ∙ function-word s rest i 0 (omega arith) (omega arith)

  -- its parameters, and the number of its handlers
  field_in : (i j : ℕ) → i < get_or ws 13 0 → j < 35 → get_or ws (14 + i * 35 + j) 0 ≡ get_or (function_words (func s i)) j 0
  field_in i j h g = let n = functions-in in ap (λ (z : List ℕ). get_or z (14 + i * 35 + j) 0) held ∙ function-word s rest i j (omega arith) g

  pub params_in : (i : ℕ) → i < get_or ws 13 0 → (function_in ws i).params ≡ (func s i).params
  params_in i h = field_in i 1 h (omega arith)

  pub count-in : (i : ℕ) → i < get_or ws 13 0 → (function_in ws i).count ≡ length (func s i).handlers
  count-in i h = field_in i 2 h (omega arith)

  -- the whole function
  pub function-in : (i : ℕ) → i < get_or ws 13 0 → length (func s i).handlers ≤ 8 → func_of (function_in ws i) ≡ func s i
  function-in i h k = let n = functions-in in ap (λ (z : List ℕ). func_of (function_in z i)) held ∙ function-at s rest i (omega arith) k

  -- whether a number is a function's, and the hook
  pub is-function-in : (f : ℕ) → ltb f (functions_of ws) ≡ is_function s f
  is-function-in f = ap (ltb f) functions-in

  pub hook-in : hook_of ws ≡ s.hook
  hook-in = ap hook_of held ∙ hook-back s rest
