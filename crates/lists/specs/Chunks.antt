-- A list of words as a table of records of w words each.
use Rattle.std.specs.Prelude.{ℕ, zero, suc, ◌*◌, List, [], ◌∷◌, ◌++◌, take, drop}

-- the w words at place i
abbrev pub chunk_at : ℕ → List ℕ → ℕ → List ℕ
chunk_at w ws i = take w (drop (i * w) ws)

-- the w words at place i replaced
abbrev pub put_chunk : ℕ → List ℕ → ℕ → List ℕ → List ℕ
put_chunk w ws i vs = take (i * w) ws ++ (vs ++ drop w (drop (i * w) ws))

module _ {A : Type 0} (w : ℕ) (decode : List ℕ → A) where
  -- the first n records
  abbrev pub chunks : ℕ → List ℕ → List A
  chunks zero ws = []
  chunks (suc n) ws = decode (take w ws) ∷ chunks n (drop w ws)

module _ {A : Type 0} (encode : A → List ℕ) where
  -- the words of records, in order
  abbrev pub words : List A → List ℕ
  words [] = []
  words (x ∷ xs) = encode x ++ words xs
