-- 01: "Sound", a second time: each clause of its paragraph as a proposition, under its words. Types and list functions are cited, and no test of the
-- machine; `sound` says yes exactly if this holds (`Exactly.antt`). Frames and chain stand top first.
use Rattle.std.specs.Prelude.{ℕ, zero, suc, ◌+◌, ◌*◌, ◌^◌, ◌≤◌, ◌<◌, ◌≡◌, true, List, [], ◌∷◌, ◌++◌, length, Some}
use Rattle.heap.specs.Table.{Slot, slot}
use Rattle.heap.specs.declared.object.CoroState.{CoroState}
use Rattle.model.specs.Program.{Func, Setup}
use Rattle.model.specs.ClosingList.{ClosingList}
use Rattle.model.specs.Object.{Core, Rest, Object}
use Rattle.model.specs.World.{World}
use Rattle.model.specs.declared.program.Handler.{Handler}
use Rattle.model.specs.declared.machine.Cont.{Cont}
use Rattle.model.specs.declared.machine.Driver.{Driver}
use Rattle.model.specs.declared.machine.Active.{Active}
use Rattle.model.specs.declared.machine.Frame.{Frame}
use Rattle.model.specs.declared.machine.Stop.{Stop}

infix 20 ◌∈◌ ◌ends_in◌
-- ---- places in a list

-- x stands at place i
abbrev pub At : {A : Type 0} → ℕ → A → List A → Type 0
At i x [] = ⊥
At zero x (y ∷ ys) = x ≡ y
At (suc i) x (y ∷ ys) = At i x ys

-- x stands in the list
abbrev pub ◌∈◌ : {A : Type 0} → A → List A → Type 0
x ∈ xs = (i : ℕ) × At i x xs

-- the list ends in ys. Frames that end in f ∷ below have a frame f on the frames below; if they end in f ∷ [], f is at the bottom
abbrev pub ◌ends_in◌ : {A : Type 0} → List A → List A → Type 0
xs ends_in ys = (before : List _) × (xs ≡ before ++ ys)

-- ---- coroutines in slots

abbrev pub resumable : List CoroState
resumable = CoroState.Created ∷ CoroState.Yielded ∷ CoroState.Awaiting ∷ []

abbrev pub suspended : List CoroState
suspended = CoroState.Yielded ∷ CoroState.Awaiting ∷ []

abbrev pub finished : List CoroState
finished = CoroState.Returned ∷ CoroState.Failed ∷ []

-- slot i, with tag t, holds the coroutine k, r
abbrev pub Coro : World → ℕ → ℕ → Core → Rest → Type 0
Coro w i t k r = At i (slot t (Object.Coro k r)) w.slots

-- "References are 2^48 up to 2^49 - 1: slot in bits 0-31, tag in bits 32-47."
abbrev pub word_of : ℕ → ℕ → ℕ
word_of i t = 2 ^ 48 + t * 2 ^ 32 + i

-- the word v names the coroutine k, r. "A lookup needs a filled slot with an equal tag."
pub record Names (w : World) (v : ℕ) (k : Core) (r : Rest) : Type 0 where
  pub slot : ℕ
  pub tag : ℕ
  pub low : slot < 2 ^ 32
  pub high : tag < 2 ^ 16
  pub word : v ≡ word_of slot tag
  pub holds : Coro w slot tag k r

-- ---- "sizes within limits"

pub record Sizes (w : World) : Type 0 where
  pub frames : length w.frames ≤ w.setup.limits.depth
  pub stack : length w.stack ≤ w.setup.limits.stack
  pub slots : length w.slots ≤ w.setup.limits.slots
  pub memory : w.used ≤ w.setup.limits.memory

-- a row has room for n words: it is as wide as the stack, or as the widest function
pub data FitsRow (s : Setup) (n : ℕ) : Type 0 where
  like-stack : n ≤ s.limits.stack → FitsRow s n
  like-function : (f : Func) → f ∈ s.functions → n ≤ f.regs → FitsRow s n

-- what a coroutine has saved, and its largest saved sizes
pub record SavedSizes (s : Setup) (k : Core) (r : Rest) : Type 0 where
  pub words : FitsRow s (length k.regs)
  pub frames : length k.frames ≤ s.limits.depth
  pub most-words : FitsRow s r.maxregs
  pub most-frames : r.maxframes ≤ s.limits.depth

-- ---- frames over n words, on the stack or saved

-- "frame bases begin at 0, never fall and stay within the stack, which is empty without a frame"
pub record Bases (n : ℕ) (fs : List Frame) : Type 0 where
  pub begin : (f : Frame) → fs ends_in (f ∷ []) → f.base ≡ 0
  pub never-fall : (g f : Frame) (below : List Frame) → fs ends_in (g ∷ f ∷ below) → f.base ≤ g.base
  pub within : (f : Frame) → f ∈ fs → f.base ≤ n
  pub empty : fs ≡ [] → n ≡ 0

-- "every frame, saved ones too, names a function"; a pc has 32 bits
pub record NamesFunction (s : Setup) (f : Frame) : Type 0 where
  pub function : f.func < length s.functions
  pub pc : f.pc < 2 ^ 32

-- register r lies in the frame just below f, whose words end where f begins
abbrev pub LiesBelow : Frame → List Frame → ℕ → Type 0
LiesBelow f [] r = ⊥
LiesBelow f (g ∷ below) r = g.base + r < f.base

-- the registers that a continuation and a driver name
abbrev pub cont_registers : Cont → List ℕ
cont_registers Cont.Entry = []
cont_registers (Cont.Write r) = r ∷ []
cont_registers (Cont.Dyn r) = r ∷ []
cont_registers (Cont.Value r) = r ∷ []
cont_registers Cont.Discard = []
cont_registers Cont.Coro = []

abbrev pub driver_registers : Driver → List ℕ
driver_registers (Driver.Resume r) = r ∷ []
driver_registers (Driver.Iter has val iter) = has ∷ val ∷ []
driver_registers Driver.Host = []
driver_registers Driver.Finalize = []

-- ".. continuation .. registers lie in their frame": the caller's
abbrev pub Continuations : List Frame → Type 0
Continuations fs = (f : Frame) (below : List Frame) (r : ℕ) → fs ends_in (f ∷ below) → r ∈ cont_registers f.cont → LiesBelow f below r

-- the catch registers of f, whose words end before the word `end`
abbrev pub Catches : Setup → Frame → ℕ → Type 0
Catches s f end = (p : Func) (h : Handler) → At f.func p s.functions → h ∈ p.handlers → f.base + h.catch < end

-- ".. and catch registers lie in their frame": it ends where the frame on it begins, the top one with the n words
pub record CatchesLie (s : Setup) (n : ℕ) (fs : List Frame) : Type 0 where
  pub top : (f : Frame) (below : List Frame) → fs ≡ f ∷ below → Catches s f n
  pub under : (g f : Frame) (below : List Frame) → fs ends_in (g ∷ f ∷ below) → Catches s f g.base

-- ---- the chain

-- "active floors rise, each at a Coro frame .., and no other frame is Coro"; a floor is the number of frames below
pub record Floors (w : World) : Type 0 where
  pub rise : (b a : Active) (rest : List Active) → w.chain ends_in (b ∷ a ∷ rest) → a.floor < b.floor
  pub at-coro : (a : Active) → a ∈ w.chain → (f : Frame) × (below : List Frame) × (w.frames ends_in (f ∷ below)) × (f.cont ≡ Cont.Coro) × (a.floor ≡ length below)
  pub no_other : (f : Frame) (below : List Frame) → w.frames ends_in (f ∷ below) → f.cont ≡ Cont.Coro → (a : Active) × (a ∈ w.chain) × (a.floor ≡ length below)

-- ".. of a Running coroutine of its own, .. no other coroutine Running"
pub record Running (w : World) : Type 0 where
  pub runs : (a : Active) → a ∈ w.chain → (k : Core) × (r : Rest) × Names w a.coro k r × (k.state ≡ CoroState.Running)
  pub own : (i j : ℕ) (a b : Active) → At i a w.chain → At j b w.chain → a.coro ≡ b.coro → i ≡ j
  pub no_other : (i t : ℕ) (k : Core) (r : Rest) → Coro w i t k r → k.state ≡ CoroState.Running → (a : Active) × (a ∈ w.chain) × (a.coro ≡ word_of i t)

-- ".. driver .. registers lie in their frame": the one just below the frame at the floor
abbrev pub Drivers : World → Type 0
Drivers w =
    (a : Active) (f : Frame) (below : List Frame) (r : ℕ)
    → a ∈ w.chain → w.frames ends_in (f ∷ below) → a.floor ≡ length below → r ∈ driver_registers a.driver → LiesBelow f below r

-- ---- what is saved

-- "at least one saved frame, the first Coro .., the rest neither Coro nor Entry"
pub record Body (fs : List Frame) : Type 0 where
  pub some : fs ≡ [] → ⊥
  pub first : (f : Frame) → fs ends_in (f ∷ []) → f.cont ≡ Cont.Coro
  pub no-coro : (g f : Frame) (below : List Frame) → fs ends_in (g ∷ f ∷ below) → g.cont ≡ Cont.Coro → ⊥
  pub no-entry : (g f : Frame) (below : List Frame) → fs ends_in (g ∷ f ∷ below) → g.cont ≡ Cont.Entry → ⊥

-- "waiting .. registers lie in their frame": of one that is suspended, in its top frame
abbrev pub Waits : Core → Type 0
Waits k = (f : Frame) (below : List Frame) → k.frames ≡ f ∷ below → k.state ∈ suspended → f.base + k.waiting < length k.regs

-- of a Created, Yielded or Awaiting one; what is said of every frame holds of saved ones too
pub record Saved (s : Setup) (k : Core) : Type 0 where
  pub body : Body k.frames
  -- "at base 0, .. bases never falling and within its saved words"
  pub bases : Bases (length k.regs) k.frames
  pub functions : (f : Frame) → f ∈ k.frames → NamesFunction s f
  pub waiting : Waits k
  pub continuations : Continuations k.frames
  pub catches : CatchesLie s (length k.regs) k.frames

-- "one row per unfinished coroutine, its own"
pub record Rows (w : World) : Type 0 where
  pub one : (i t : ℕ) (k : Core) (r : Rest) → Coro w i t k r → (k.state ∈ finished → ⊥) → r.row < w.setup.limits.rows
  pub own : (i j t u : ℕ) (k l : Core) (r q : Rest) → Coro w i t k r → Coro w j u l q
      → (k.state ∈ finished → ⊥) → (l.state ∈ finished → ⊥) → r.row ≡ q.row → i ≡ j

-- ---- queues

-- "queues hold coroutines, each not twice in one queue", and only such as `Marked` says
pub record Queue (Marked : Rest → Type 0) (w : World) (q : List ℕ) : Type 0 where
  pub hold : (v : ℕ) → v ∈ q → (k : Core) × (r : Rest) × Names w v k r × Marked r
  pub once : (i j v : ℕ) → At i v q → At j v q → i ≡ j

-- ---- what is not in use, and ranges

-- "words not in use are 0", as far as a world shows them: the tag of an empty slot, the row of a finished coroutine, and what a row
-- holds of one that is not to be resumed
pub record Unused (w : World) : Type 0 where
  pub tag : (i t : ℕ) → At i (slot t Object.Empty) w.slots → t ≡ 0
  pub row : (i t : ℕ) (k : Core) (r : Rest) → Coro w i t k r → k.state ∈ finished → r.row ≡ 0
  pub words : (i t : ℕ) (k : Core) (r : Rest) → Coro w i t k r → (k.state ∈ resumable → ⊥) → k.regs ≡ []
  pub frames : (i t : ℕ) (k : Core) (r : Rest) → Coro w i t k r → (k.state ∈ resumable → ⊥) → k.frames ≡ []

-- what fields of 16 and 32 bits can hold; an error's number is 1 to 8
pub record Ranges (w : World) : Type 0 where
  pub tag : (x : Slot Object) → x ∈ w.slots → x.tag < 2 ^ 16
  pub function : (i t f : ℕ) → At i (slot t (Object.Func f)) w.slots → f < 2 ^ 32
  pub error : (i t e f pc v : ℕ) → At i (slot t (Object.Error e f pc v)) w.slots → (1 ≤ e) × (e ≤ 8) × (f < 2 ^ 32) × (pc < 2 ^ 32)
  pub waiting : (i t : ℕ) (k : Core) (r : Rest) → Coro w i t k r → k.waiting < 2 ^ 16
  pub outcome : (v f pc : ℕ) → w.outcome ≡ Some (Stop.Failed v f pc) → (f < 2 ^ 32) × (pc < 2 ^ 32)

-- ---- 01: "Sound", clause by clause

pub record WellFormed (w : World) : Type 0 where
  pub setup : ClosingList w.setup
  -- "sizes within limits"
  pub sizes : Sizes w
  pub saved-sizes : (i t : ℕ) (k : Core) (r : Rest) → Coro w i t k r → SavedSizes w.setup k r
  -- "frame bases begin at 0, never fall and stay within the stack, which is empty without a frame"
  pub bases : Bases (length w.stack) w.frames
  -- "every frame, saved ones too, names a function": saved ones by `Saved`
  pub functions : (f : Frame) → f ∈ w.frames → NamesFunction w.setup f
  -- "active floors rise, each at a Coro frame of a Running coroutine of its own, and no other frame is Coro, no other coroutine Running"
  pub floors : Floors w
  pub running : Running w
  -- "Entry only at the bottom"
  pub entry : (f : Frame) (below : List Frame) → w.frames ends_in (f ∷ below) → f.cont ≡ Cont.Entry → below ≡ []
  -- "a Created, Yielded or Awaiting one has at least one saved frame, the first Coro at base 0, the rest neither Coro nor Entry, bases
  -- never falling and within its saved words"
  pub saved : (i t : ℕ) (k : Core) (r : Rest) → Coro w i t k r → k.state ∈ resumable → Saved w.setup k
  -- "one row per unfinished coroutine, its own"
  pub rows : Rows w
  -- "waiting, driver, continuation and catch registers lie in their frame": those of saved frames by `Saved`
  pub drivers : Drivers w
  pub continuations : Continuations w.frames
  pub catches : CatchesLie w.setup (length w.stack) w.frames
  -- "queues hold coroutines, each not twice in one queue, the ready queue only tasks and the cleanup queue only finalized ones"
  pub ready : Queue (λ r. r.task ≡ true) w w.ready
  pub cleanup : Queue (λ r. r.finalized ≡ true) w w.finalize
  -- "fuel 0 while banked"
  pub fuel : (bank : ℕ) → w.fuel.bank ≡ Some bank → w.fuel.fuel ≡ 0
  -- "words not in use are 0"
  pub unused : Unused w
  pub ranges : Ranges w
