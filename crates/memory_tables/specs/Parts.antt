-- What the lent words hold, a predicate for each table. Words that are not in use are 0.
use Rattle.std.specs.Prelude.{◌≡◌, ℕ, zero, suc, ◌*◌, ◌<◌, ◌≤◌, List, [], ◌∷◌, ◌++◌, length, take, replicate, slice_index_or}
use Rattle.lists.specs.Chunks.{words, chunk_at}
use Rattle.lists.specs.Parts.{pad}
use Rattle.model.specs.declared.machine.Frame.{Frame}
use Rattle.model.specs.declared.machine.Active.{Active}
use Rattle.memory_tables.specs.Layout.{frame_words, active_words}

-- ---- words in their order: the stack, from the bottom up, and a queue, from its front

pub record Run (xs ws : List ℕ) (n : ℕ) : Type 0 where
  pub are : ws ≡ pad (length ws) xs
  pub count : n ≡ length xs
  pub within : n ≤ length ws

abbrev pub Stack : List ℕ → List ℕ → ℕ → Type 0
Stack xs ws n = Run xs ws n

abbrev pub Queue : List ℕ → List ℕ → ℕ → Type 0
Queue xs ws n = Run xs ws n

-- ---- records that stand top first in a list and bottom first in the words

module _ {A : Type 0} (enc : A → List ℕ) where
  abbrev pub upward : List A → List ℕ
  upward [] = []
  upward (x ∷ xs) = upward xs ++ enc x

pub record Piled {A : Type 0} (enc : A → List ℕ) (w : ℕ) (xs : List A) (ws : List ℕ) (n : ℕ) : Type 0 where
  pub are : ws ≡ pad (length ws) (upward enc xs)
  pub count : n ≡ length xs
  pub within : n * w ≤ length ws

abbrev pub Frames : List Frame → List ℕ → ℕ → Type 0
Frames fs ws n = Piled frame_words 6 fs ws n

abbrev pub Chain : List Active → List ℕ → ℕ → Type 0
Chain cs ws n = Piled active_words 6 cs ws n

-- what n records decode to, top first
module _ {A : Type 0} (w : ℕ) (dec : List ℕ → A) where
  abbrev pub piled : ℕ → List ℕ → List A
  piled zero ws = []
  piled (suc n) ws = dec (chunk_at w ws n) ∷ piled n ws

-- ---- rows of w words each: row r from index r * w on

-- words in a row
abbrev pub in_row : ℕ → List ℕ → List ℕ
in_row w xs = take w (xs ++ replicate w 0)

pub record Rows {A : Type 0} (enc : A → List ℕ) (w : ℕ) (rs : List A) (ws : List ℕ) : Type 0 where
  pub are : ws ≡ pad (length ws) (words (λ x. in_row w (enc x)) rs)
  pub within : length rs * w ≤ length ws

-- saved registers and saved frames
abbrev pub SavedStack : ℕ → List (List ℕ) → List ℕ → Type 0
SavedStack w rs ws = Rows (λ xs. xs) w rs ws

abbrev pub SavedFrames : ℕ → List (List Frame) → List ℕ → Type 0
SavedFrames w rs ws = Rows (upward frame_words) w rs ws

-- words from index at on are row r, and hold x
pub record RowIs {A : Type 0} (enc : A → List ℕ) (w : ℕ) (rs : List A) (r at : ℕ) (x none : A) : Type 0 where
  pub among : r < length rs
  pub place : at ≡ r * w
  pub holds : slice_index_or rs r none ≡ x
  pub fits : length (enc x) ≤ w
