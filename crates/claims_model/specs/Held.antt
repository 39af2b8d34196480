-- What a suspending call finds of a coroutine, and what an entry makes of it: frame by frame, and field by field.
use Rattle.std.specs.Prelude.{ℕ, ◌+◌, ◌%◌, ◌^◌, true, ◌≡◌, List, [], ◌∷◌, ◌++◌, length, drop, set}
use Rattle.std.proofs.Math.Option.{Option, none, some}
use Rattle.lists.specs.Pick.{pick}
use Rattle.model.specs.declared.machine.Cont.{Cont}
use Rattle.model.specs.declared.machine.Driver.{Driver}
use Rattle.model.specs.declared.machine.Active.{Active}
use Rattle.model.specs.declared.machine.Frame.{Frame}
use Rattle.model.specs.declared.call.Op.{Op}
use Rattle.claims_model.specs.Engine.{Seen, View, state_is, seen_suspended}
use Rattle.claims_model.specs.Says.{Sent, nothing, gets, closes, Aim, enter, suspend, neither, Announced, instr, hosts, finishes, raises, other, announced_by, entry, whom}

-- ---- frames, field by field

-- the frames with the top one at the pc p
abbrev pub at : ℕ → List Frame → List Frame
at p [] = []
at p (f ∷ fs) = record { func = f.func; pc = p; base = f.base; closure = f.closure; cont = f.cont } ∷ fs

-- 01: "its pc steps by 1, wrapping at 2^32"
abbrev pub pc_after : ℕ → ℕ
pc_after p = (p + 1) % 2 ^ 32

-- the stack with x in the register r of the top frame
abbrev pub into : List Frame → ℕ → ℕ → List ℕ → List ℕ
into [] r x xs = xs
into (f ∷ fs) r x xs = set xs (f.base + r) x

-- g is f, moved: so far above h as f is above b
pub record Moved (b h : ℕ) (f g : Frame) : Type 0 where
  pub func : g.func ≡ f.func
  pub pc : g.pc ≡ f.pc
  pub base : g.base + b ≡ f.base + h
  pub closure : g.closure ≡ f.closure
  pub cont : g.cont ≡ f.cont

abbrev pub AllMoved : ℕ → ℕ → List Frame → List Frame → Type 0
AllMoved b h [] [] = Unit {0}
AllMoved b h [] (g ∷ gs) = ⊥
AllMoved b h (f ∷ fs) [] = ⊥
AllMoved b h (f ∷ fs) (g ∷ gs) = Moved b h f g × AllMoved b h fs gs

-- ---- suspended

-- where an instruction stands, and the register that a suspension names
abbrev pub pc_of : Announced → ℕ
pc_of (instr pc ok a) = pc
pc_of (hosts c x) = 0
pc_of (finishes kind x) = 0
pc_of (raises f pc) = 0
pc_of other = 0

abbrev pub waits_in : Announced → ℕ
waits_in (instr pc ok (enter c d x may)) = 0
waits_in (instr pc ok (suspend await dst x)) = dst
waits_in (instr pc ok neither) = 0
waits_in (hosts c x) = 0
waits_in (finishes kind x) = 0
waits_in (raises f pc) = 0
waits_in other = 0

-- c is innermost: its Coro frame, with frames over it and under it. 01: "held are its Coro frame with all frames above it, and the words
-- from that frame's base up". By `chain` its floor is how many stand under that frame, so over, body and under are the only such split
pub record Held (v : View) (c : ℕ) : Type 0 where
  pub over : List Frame
  pub body : Frame
  pub under : List Frame
  pub driver : Driver
  pub outer : List Active
  pub frames : v.frames ≡ over ++ (body ∷ under)
  pub its_own : body.cont ≡ Cont.Coro
  pub chain : v.chain ≡ record { coro = c; floor = length under; driver = driver } ∷ outer

-- ---- entered

-- the call k at w enters c: so it says itself, or a cleanup is due
pub record By (w : View) (k : Option Op) (c : ℕ) : Type 0 where
  pub driver : Driver
  pub sent : Sent
  pub pc : ℕ
  pub says : whom w k ≡ some (entry c driver sent pc)

-- the word by which a coroutine is being closed; an entry may close it
abbrev pub closer : Option Seen → Option ℕ
closer none = none
closer (some x) = pick x.closing (some x.signal) none

abbrev pub closed_by : Sent → Option ℕ → Option ℕ
closed_by nothing m = m
closed_by (gets x) m = m
closed_by (closes x) m = some x

-- what is sent: a step of the pc, and the word in the register r of the top frame
abbrev pub stepped : Sent → ℕ → ℕ
stepped nothing p = p
stepped (gets x) p = pc_after p
stepped (closes x) p = p

abbrev pub with_sent : Sent → List Frame → ℕ → List ℕ → List ℕ
with_sent nothing fs r xs = xs
with_sent (gets x) fs r xs = into fs r x xs
with_sent (closes x) fs r xs = xs

-- saved frames as an entry leaves them: the top one's pc a step further, if a word is sent
abbrev pub entered_frames : Sent → List Frame → List Frame
entered_frames s [] = []
entered_frames s (f ∷ fs) = at (stepped s f.pc) (f ∷ fs)

-- k at w enters c and leaves z: c's frames and words on those of the caller, whose pc is k's
pub record Entered (w : View) (k : Option Op) (c : ℕ) (z : View) : Type 0 where
  pub by : By w k c
  pub over : List Frame
  pub body : Frame
  pub words : List ℕ
  pub frames : z.frames ≡ over ++ (body ∷ at by.pc w.frames)
  pub stack : z.stack ≡ w.stack ++ words
  pub its_own : body.cont ≡ Cont.Coro
  pub body-base : body.base ≡ length w.stack
  pub chain : z.chain ≡ record { coro = c; floor = length w.frames; driver = by.driver } ∷ w.chain
  pub closing : closer (z.coro c) ≡ closed_by by.sent (closer (w.coro c))
  -- Created or suspended, it has the words and frames that it is seen to have saved, moved to the caller's height, and no other; with the sent
  -- word, if any, in the register that waits. 01: "A Created one ignores the sent word.": nothing is sent to it (`own_entry` of Says.antt)
  pub saved-words : (x : Seen) → w.coro c ≡ some x → z.stack ≡ with_sent by.sent z.frames x.waits (w.stack ++ x.words)
  pub saved-frames : (x : Seen) → w.coro c ≡ some x → AllMoved 0 (length w.stack) (entered_frames by.sent x.frames) (over ++ (body ∷ []))

-- x at v suspended c, and y at w enters it and leaves z: what x found, moved from its Coro frame's base to the caller's height
pub record Restored (v : View) (x : Option Op) (w : View) (y : Option Op) (c : ℕ) (z : View) : Type 0 where
  pub held : Held v c
  -- it is suspended when it is entered, so that what is sent to it arrives
  pub suspended : state_is w seen_suspended c ≡ true
  pub entered : Entered w y c z
  -- its frames, from its Coro frame up: function, closure and continuation of each are those that x found, and every base is moved by one
  -- distance; the top one's pc is x's, a step further if a word is sent
  pub moved : let held_frames = held.over ++ (held.body ∷ []) in let entry_pc = stepped entered.by.sent (pc_of (announced_by v x)) in
      AllMoved held.body.base (length w.stack) (at entry_pc held_frames) (entered.over ++ (entered.body ∷ []))
  -- the whole stack: the caller's as y found it, and on it every word that c held from its Coro frame's base up, and no other; with the
  -- sent word, if any, in the register that x named
  pub words : z.stack ≡ with_sent entered.by.sent z.frames (waits_in (announced_by v x)) (w.stack ++ drop held.body.base v.stack)
