-- Runs of words in a list: a part, a run written over it, and words padded with zeros.
use Rattle.std.specs.Prelude.{ℕ, ◌-◌, List, ◌++◌, length, take, drop, replicate}

-- the n words from index at
abbrev pub part : ℕ → ℕ → List ℕ → List ℕ
part at n xs = take n (drop at xs)

-- xs with ys written over it from index at
abbrev pub splice : List ℕ → ℕ → List ℕ → List ℕ
splice xs at ys = take at xs ++ (ys ++ drop (length ys) (drop at xs))

-- xs in `cap` words, the rest 0
abbrev pub pad : ℕ → List ℕ → List ℕ
pad cap xs = xs ++ replicate (cap - length xs) 0
