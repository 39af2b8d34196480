-- The loop over the functions' register counts, and the sizes of a set-up. Assumes nothing.
use mathlib.Core.Path.{◌≡◌, ap, ◌∙◌}
use mathlib.Core.List.{List}
use Prim.Native.Nat.{ℕ, suc, ◌+◌, ◌-◌, ◌*◌, ◌≤◌, ◌<◌, max}
use native.Mathlib.Omega.{arith}
use native.Mathlib.Nat.{sub-zero}
use lib.ListN.{length, get_or, replicate, length-append}
use Rattle.lists.specs.Parts.{pad}
use Rattle.model.specs.Program.{Setup, func_of}
use Rattle.model.specs.Sound.{widest, row_words}
use Rattle.model.specs.declared.program.Limits.{Limits}
use Rattle.model.specs.declared.program.Costs.{Costs}
use Rattle.memory_tables.specs.Layout.{function_in}
use Rattle.memory_tables.specs.Sizes.{setup_words, limits_of, costs_of}
use Rattle.memory_tables.proofs.Setups.{functions-in}
use Rattle.memory_world.specs.Memory.{tabled, Sized}
use Rattle.memory_world.specs.declared.machine.Sizes.{Sizes}
use Rattle.memory_world.specs.Words.{sizes_of}
use Rattle.memory_world.specs.Decode.{setup_of}
use Rattle.memory_world.specs.Sizes.{SetupFits, SizesTold}
use Rattle.memory_world.proofs.Encoded.{length-setup}
use Rattle.memory_world.proofs.Decoded.{setup-is}

-- the widest of the n functions from i on
abbrev pub widest_in : List ℕ → ℕ → ℕ → ℕ
widest_in ws i n = widest (tabled (λ j. func_of (function_in ws j)) i n)

pub start : (ws : List ℕ) (n k : ℕ) → max k (widest_in ws 0 (n - 0)) ≡ max k (widest_in ws 0 n)
start ws n k = ap (λ m. max k (widest_in ws 0 m)) (sub-zero n)

pub more : (ws : List ℕ) (i n k : ℕ) → i < n → max k (widest_in ws i (n - i)) ≡ max (max k (get_or ws (14 + i * 35) 0)) (widest_in ws (i + 1) (n - (i + 1)))
more ws i n k h =
    let e : n - i ≡ suc (n - (i + 1)) = omega arith in
    let s : suc i ≡ i + 1 = omega arith in
    let r = get_or ws (14 + i * 35) 0 in
    let a : (x : ℕ) → max k (max r x) ≡ max (max k r) x = λ x. omega arith in
    ap (λ m. max k (widest_in ws i m)) e ∙ a (widest_in ws (suc i) (n - (i + 1))) ∙ ap (λ j. max (max k r) (widest_in ws j (n - (i + 1)))) s

pub end : (ws : List ℕ) (i n k : ℕ) → n ≤ i → max k (widest_in ws i (n - i)) ≡ k
end ws i n k h =
    let e : n - i ≡ 0 = omega arith in
    let z : max k 0 ≡ k = omega arith in
    ap (λ m. max k (widest_in ws i m)) e ∙ z

-- ---- the sizes of what the words decode to

pub told : (ws : List ℕ) (l : Limits) (c : Costs) (n : ℕ) → l ≡ limits_of ws → c ≡ costs_of ws → n ≡ row_words (setup_of ws)
    → SizesTold ws (record { depth = l.depth; stack = l.stack; rows = l.rows; slots = l.slots; memory = l.memory; width = n; costs = c })
told ws l c n p q r =
    let e : record { depth = l.depth; stack = l.stack; rows = l.rows; slots = l.slots; memory = l.memory; width = n; costs = c } ≡ sizes_of (setup_of ws) =
    λ i. record { depth = (p i).depth; stack = (p i).stack; rows = (p i).rows; slots = (p i).slots; memory = (p i).memory; width = r i; costs = q i } in
    record { words = e; setup = λ s ok held. e ∙ ap sizes_of (setup-is s ws ok held) }

-- words that hold a set-up are long enough
pub held_fits : (s : Setup) (ws : List ℕ) → ws ≡ pad (length ws) (setup_words s) → SetupFits ws
held_fits s ws e =
    let rest : List ℕ = replicate (length ws - length (setup_words s)) 0 in
    let a : length ws ≡ length (setup_words s) + length rest = ap length e ∙ length-append (setup_words s) rest in
    let b : length (setup_words s) ≡ 14 + length s.functions * 35 = length-setup s in
    let c : get_or ws 13 0 ≡ length s.functions = functions-in s ws e in
    record { numbers = omega arith; functions = omega arith }

-- the sizes of a set-up are what `Rep` asks for
pub sizes-sized : {s : Setup} {l : Sizes} → l ≡ sizes_of s → Sized s l
sizes-sized e =
    record {
      depth = ap (λ (l : Sizes). l.depth) e;
      stack = ap (λ (l : Sizes). l.stack) e;
      rows = ap (λ (l : Sizes). l.rows) e;
      slots = ap (λ (l : Sizes). l.slots) e;
      memory = ap (λ (l : Sizes). l.memory) e;
      width = ap (λ (l : Sizes). l.width) e;
      costs = ap (λ (l : Sizes). l.costs) e;
    }
