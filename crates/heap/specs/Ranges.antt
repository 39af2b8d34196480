-- What each word of a slot can hold: the table of ranges, a row for each kind. Words within their row are a slot's words.
use Rattle.std.specs.Prelude.{ℕ, ◌*◌, ◌-◌, ◌^◌, Bool, true, false, ◌&&◌, List, [], ◌∷◌, get_or, drop, replicate, leb}
use Rattle.lists.specs.Chunks.{chunk_at}
use Rattle.lists.specs.Tests.{all_below, zeros}
use Rattle.heap.specs.Slot.{width}

pub record Range : Type 0 where
  pub least : ℕ
  pub most : ℕ

abbrev pub range : ℕ → ℕ → Range
range a b = record { least = a; most = b }

abbrev pub word : Range
word = range 0 (2 ^ 64 - 1)

abbrev pub bits32 : Range
bits32 = range 0 (2 ^ 32 - 1)

abbrev pub bits16 : Range
bits16 = range 0 (2 ^ 16 - 1)

abbrev pub flags : Range
flags = range 0 1

abbrev pub states : Range
states = range 0 5

-- the faults that an unwinding turns into an object
abbrev pub errors : Range
errors = range 1 8

abbrev pub unused : ℕ → List Range
unused n = replicate n (range 0 0)

-- empty; function; integer; iterator without a key; iterator with one; error; coroutine
abbrev pub kinds : List (List Range)
kinds =
    unused 20
    ∷ (bits16 ∷ range 0 1 ∷ bits32 ∷ unused 17)
    ∷ (bits16 ∷ range 0 2 ∷ word ∷ unused 17)
    ∷ (bits16 ∷ range 0 3 ∷ word ∷ flags ∷ unused 16)
    ∷ (bits16 ∷ range 0 4 ∷ word ∷ flags ∷ word ∷ unused 15)
    ∷ (bits16 ∷ range 0 5 ∷ errors ∷ bits32 ∷ bits32 ∷ word ∷ unused 14)
    ∷ (bits16 ∷ range 0 6 ∷ states ∷ flags ∷ flags ∷ flags ∷ word ∷ word ∷ word ∷ word ∷ word ∷ word ∷ bits16 ∷ word ∷ word ∷ word ∷ word ∷ word ∷ unused 2)
    ∷ []

-- ranges from their least and their greatest values
abbrev pub ranges_of : List ℕ → List ℕ → List Range
ranges_of [] [] = []
ranges_of [] (b ∷ bs) = []
ranges_of (a ∷ as') [] = []
ranges_of (a ∷ as') (b ∷ bs) = range a b ∷ ranges_of as' bs

-- each word lies in its range
abbrev pub within : List Range → List ℕ → Bool
within [] [] = true
within [] (w ∷ ws) = false
within (r ∷ rs) [] = false
within (r ∷ rs) (w ∷ ws) = (leb r.least w && leb w r.most) && within rs ws

-- the words of a slot: each within the row of its kind
abbrev pub slot_ok : List ℕ → Bool
slot_ok ws = within (get_or kinds (get_or ws 1 0) []) ws

-- n slots, and zeros after them
abbrev pub table_ok : ℕ → List ℕ → Bool
table_ok n ws = all_below n (λ i. slot_ok (chunk_at width ws i)) && zeros (drop (n * width) ws)
