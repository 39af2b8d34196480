-- What the functions of the parts do: for every list that the words held, the list that they hold after.
use Rattle.std.specs.Prelude.{◌≡◌, ℕ, ◌+◌, ◌-◌, ◌*◌, ◌^◌, ◌<◌, ◌≤◌, List, [], ◌++◌, map, length, take, drop, slice_index, slice_set}
use Rattle.model.specs.Frames.{top_base, put_at, raise, lower, above, below}
use Rattle.model.specs.declared.machine.Frame.{Frame}
use Rattle.model.specs.declared.machine.Active.{Active}
use Rattle.memory_tables.specs.Layout.{frame_words, base_in}
use Rattle.memory_tables.specs.Parts.{Stack, Queue, Frames, Chain, SavedStack, SavedFrames, RowIs, upward}

abbrev pub FramesDo : (List Frame → List Frame) → List ℕ → List ℕ → ℕ → ℕ → Type 0
FramesDo f ws ws' n n' = (fs : List Frame) → Frames fs ws n → Frames (f fs) ws' n'

abbrev pub ChainDo : (List Active → List Active) → List ℕ → List ℕ → ℕ → ℕ → Type 0
ChainDo f ws ws' n n' = (cs : List Active) → Chain cs ws n → Chain (f cs) ws' n'

abbrev pub StackDo : (List ℕ → List ℕ) → List ℕ → List ℕ → ℕ → ℕ → Type 0
StackDo f ws ws' n n' = (xs : List ℕ) → Stack xs ws n → Stack (f xs) ws' n'

abbrev pub QueueDo : (List ℕ → List ℕ) → List ℕ → List ℕ → ℕ → ℕ → Type 0
QueueDo f ws ws' n n' = (xs : List ℕ) → Queue xs ws n → Queue (f xs) ws' n'

-- ---- a register of the top frame

pub record RegFits (stack frames : List ℕ) (height depth r : ℕ) : Type 0 where
  pub some : 1 ≤ depth
  pub on-frames : depth * 6 ≤ length frames
  pub below : base_in frames (depth - 1) + r < height
  pub on-stack : height ≤ length stack

abbrev pub Puts : List ℕ → List ℕ → List ℕ → ℕ → ℕ → ℕ → ℕ → Type 0
Puts stack frames stack' height depth r v =
    (xs : List ℕ) (fs : List Frame) → Stack xs stack height → Frames fs frames depth → Stack (put_at fs r v xs) stack' height

pub record Got (xs : List ℕ) (fs : List Frame) (r v : ℕ) : Type 0 where
  pub is : v ≡ slice_index xs (top_base fs + r)

abbrev pub Gets : List ℕ → List ℕ → ℕ → ℕ → ℕ → ℕ → Type 0
Gets stack frames height depth r v = (xs : List ℕ) (fs : List Frame) → Stack xs stack height → Frames fs frames depth → Got xs fs r v

-- ---- a word of a queue

pub record Peeked (xs : List ℕ) (i r : ℕ) : Type 0 where
  pub is : r ≡ slice_index xs i

abbrev pub Peeks : List ℕ → ℕ → ℕ → Type 0
Peeks ws i r = (xs : List ℕ) (n : ℕ) → Queue xs ws n → i < n → Peeked xs i r

-- ---- an entry: a row's registers and frames go on top, and the row is empty

pub record StackEntered (w : ℕ) (xs ys : List ℕ) (rs : List (List ℕ)) (r : ℕ) (ws vs : List ℕ) (height : ℕ) : Type 0 where
  pub stack : Stack (xs ++ ys) ws height
  pub saved : SavedStack w (slice_set rs r []) vs

abbrev pub EntersStack : List ℕ → List ℕ → List ℕ → List ℕ → ℕ → ℕ → ℕ → Type 0
EntersStack stack saved stack' saved' height at n =
    (w : ℕ) (xs ys : List ℕ) (rs : List (List ℕ)) (r : ℕ) → Stack xs stack height → SavedStack w rs saved → RowIs (λ zs. zs) w rs r at ys [] → n ≡ length ys
    → StackEntered w xs ys rs r stack' saved' (height + n)

pub record FramesEntered (w by : ℕ) (fs gs : List Frame) (rs : List (List Frame)) (r : ℕ) (ws vs : List ℕ) (depth : ℕ) : Type 0 where
  pub frames : Frames (map (raise by) gs ++ fs) ws depth
  pub saved : SavedFrames w (slice_set rs r []) vs

abbrev pub EntersFrames : List ℕ → List ℕ → List ℕ → List ℕ → ℕ → ℕ → ℕ → ℕ → Type 0
EntersFrames frames saved frames' saved' depth at n by =
    (w : ℕ) (fs gs : List Frame) (rs : List (List Frame)) (r : ℕ) → Frames fs frames depth → SavedFrames w rs saved → RowIs (upward frame_words) w rs r at gs []
    → n ≡ length gs → FramesEntered w by fs gs rs r frames' saved' (depth + n)

pub record EnterFits (frames saved : List ℕ) (depth at n by : ℕ) : Type 0 where
  pub on-frames : (depth + n) * 6 ≤ length frames
  pub in-saved : at + n * 6 ≤ length saved
  pub fits : (j : ℕ) → j < n → slice_index saved (at + (j * 6 + 2)) + by < 2 ^ 64

-- ---- a suspension: the words from `base` up and the frames from `floor` up go to an empty row

pub record StackLeft (w base : ℕ) (xs : List ℕ) (rs : List (List ℕ)) (r : ℕ) (ws vs : List ℕ) : Type 0 where
  pub stack : Stack (take base xs) ws base
  pub saved : SavedStack w (slice_set rs r (drop base xs)) vs

abbrev pub LeavesStack : List ℕ → List ℕ → List ℕ → List ℕ → ℕ → ℕ → ℕ → Type 0
LeavesStack stack saved stack' saved' height base at =
    (w : ℕ) (xs : List ℕ) (rs : List (List ℕ)) (r : ℕ) → Stack xs stack height → SavedStack w rs saved → RowIs (λ zs. zs) w rs r at [] [] → height - base ≤ w
    → StackLeft w base xs rs r stack' saved'

pub record FramesLeft (w floor by : ℕ) (fs : List Frame) (rs : List (List Frame)) (r : ℕ) (ws vs : List ℕ) : Type 0 where
  pub frames : Frames (below floor fs) ws floor
  pub saved : SavedFrames w (slice_set rs r (map (lower by) (above floor fs))) vs

abbrev pub LeavesFrames : List ℕ → List ℕ → List ℕ → List ℕ → ℕ → ℕ → ℕ → ℕ → Type 0
LeavesFrames frames saved frames' saved' depth floor by at =
    (w : ℕ) (fs : List Frame) (rs : List (List Frame)) (r : ℕ) → Frames fs frames depth → SavedFrames w rs saved → RowIs (upward frame_words) w rs r at [] []
    → (depth - floor) * 6 ≤ w → FramesLeft w floor by fs rs r frames' saved'

pub record LeaveFits (frames saved : List ℕ) (depth floor by at : ℕ) : Type 0 where
  pub under : floor ≤ depth
  pub on-frames : depth * 6 ≤ length frames
  pub in-saved : at + (depth - floor) * 6 ≤ length saved
  pub above : (j : ℕ) → j < depth - floor → by ≤ slice_index frames (floor * 6 + j * 6 + 2)
