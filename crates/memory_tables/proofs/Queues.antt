-- Queues: words read, and taken off the front in one move. Assumes nothing.
use Rattle.std.proofs.Common.{◌≡◌, ℕ, ◌+◌, ◌-◌, ◌<◌, ◌≤◌, List, ◌++◌, length, get_or, take, drop, set, replicate, sym, ap, ◌∙◌, subst, ap₂, append_assoc, arith, length-append, length-drop, length-take-le, get_or-drop, take_at, get_or-append-add}
use lib.Seq.{drop-append-le}
use Rattle.lists.specs.Parts.{part}
use Rattle.lists.proofs.Runs.{copy_more}
use Rattle.memory_tables.specs.Runs.{lowered}
use Rattle.memory_tables.specs.Parts.{Queue}
use Rattle.memory_tables.specs.Does.{QueueDo, StackDo, Peeks}
use Rattle.memory_tables.proofs.Parts.{run_of, run-get}

-- a turn of the loop that moves words to the front
pub lower-more : (from n : ℕ) (s : List ℕ) → n + from < length s
    → set (lowered from n s) n (get_or (lowered from n s) (n + from) 0) ≡ lowered from (n + 1) s
lower-more from n s h =
    let d = length-drop from s in
    let l : length (part from n s) ≡ n = length-take-le n (drop from s) (omega arith) in
    let c : from + n ≡ n + from = omega arith in
    let e : get_or (lowered from n s) (n + from) 0 ≡ get_or (drop from s) n 0 =
    ap (λ i. get_or (lowered from n s) (i + from) 0) (sym l)
    ∙ get_or-append-add (part from n s) (drop n s) from 0 ∙ get_or-drop n s from 0 ∙ ap (λ i. get_or s i 0) (sym c) ∙ sym (get_or-drop from s n 0) in
    ap (set (lowered from n s) n) e ∙ copy_more n (drop from s) s (omega arith) (omega arith)

module _ (xs ws : List ℕ) (n k : ℕ) (h : k ≤ n) (q : Queue xs ws n) where
  abbrev rest : ℕ
  rest = n - k

  kept : length (drop k xs) ≡ rest
  kept = let c = q.count in length-drop k xs ∙ (omega arith)

  -- moved to the front, the last words stand twice
  twice : Queue (drop k xs ++ drop rest xs) (lowered k rest ws) n
  twice =
      let c = q.count in
      let w = q.within in
      let Z : List ℕ = replicate (length ws - length xs) 0 in
      let d = length-drop rest xs in
      let e = kept in
      let l : length (drop k xs ++ drop rest xs) ≡ length xs = length-append (drop k xs) (drop rest xs) ∙ (omega arith) in
      let front : part k rest (xs ++ Z) ≡ drop k xs = ap (take rest) (drop-append-le k xs Z (omega arith)) ∙ take_at (drop k xs) Z rest kept in
      run_of (length ws) (drop k xs ++ drop rest xs) (lowered k rest ws) n
      (ap (lowered k rest) q.are
      ∙ ap₂ (λ (a b : List ℕ). a ++ b) front (drop-append-le rest xs Z (omega arith))
      ∙ sym (append_assoc (drop k xs) (drop rest xs) Z)
      ∙ ap (λ i. (drop k xs ++ drop rest xs) ++ replicate (length ws - i) 0) (sym l))
      (omega arith) (omega arith)

pub takes_front : (ws mid ws' : List ℕ) (n k : ℕ) → k ≤ n → mid ≡ lowered k (n - k) ws → StackDo (take (n - k)) mid ws' n (n - k) → QueueDo (drop k) ws ws' n (n - k)
takes_front ws mid ws' n k h e cut xs q =
    let all : List ℕ = drop k xs ++ drop (n - k) xs in
    subst (λ (z : List ℕ). Queue z ws' (n - k)) (take_at (drop k xs) (drop (n - k) xs) (n - k) (kept xs ws n k h q))
    (cut all (subst (λ (z : List ℕ). Queue all z n) (sym e) (twice xs ws n k h q)))

pub peeks : (ws : List ℕ) (i : ℕ) → Peeks ws i (get_or ws i 0)
peeks ws i xs n q h = record { is = run-get xs ws n i q h }
