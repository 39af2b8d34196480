-- The shape of a call: what it does to stack, frames, chain and cores. Moves at and above the innermost body; or an entry; or a
-- suspension; or such moves and then a return; or the end of the run.
use Prim.Native.Nat.{ℕ}
use native.Mathlib.Omega.{arith}
use mathlib.Core.Path.{◌≡◌}
use mathlib.Core.Logic.{◌≢◌, ◌⊎◌, inl, inr}
use mathlib.Core.Bool.{Bool, true, false}
use mathlib.Core.List.{List, [], ◌∷◌, ◌++◌, map}
use mathlib.Core.Option.{Option, none, some}
use lib.ListN.{length, take}
use Rattle.heap.specs.declared.object.CoroState.{CoroState}
use Rattle.model.specs.Lists.{is_nil}
use Rattle.model.specs.State.{is_created, is_running, is_suspended, is_returned, is_resumable}
use Rattle.model.specs.Program.{Setup}
use Rattle.model.specs.World.{World}
use Rattle.model.specs.Frames.{is_coro, on_top, set_pc, raise, below, base_at, put_at}
use Rattle.model.specs.Heap.{coro}
use Rattle.model.specs.Coro.{active}
use Rattle.model.specs.Sound.{marked}
use Rattle.model.specs.declared.machine.Driver.{Driver}
use Rattle.model.specs.declared.machine.Active.{Active}
use Rattle.model.specs.declared.machine.Frame.{Frame}
use Rattle.model.specs.declared.call.Op.{Op}
use Rattle.claims_model.specs.Engine.{Seen}
use Rattle.claims_model.specs.Says.{Sent, nothing, gets, closes}
use Rattle.claims_model.specs.Held.{closed_by}
use Rattle.claims_model.specs.Delivery.{recorded}
use Rattle.claims_model.specs.Touches.{May, may_touch}
use Rattle.claims_model.proofs.Entry as E
use Rattle.claims_model.proofs.Entry.{suspends, Act, at, by_host, finishes, unwinds, other, act, Entry, nobody, entry, entry_by, pc_by}
use Rattle.claims_model.proofs.Suspension.{suspends_in, takes_by}
use Rattle.claims_model.proofs.Held.{Seat, core_at, held_as, words_with, frames_with, Returns, event_as, event_by, mem, deliver_to}
use Rattle.claims_model.proofs.Cores.{Mode, m-plain, m-ending, m-undoing, Kept, kept, unborn}

-- what a switch moves
pub record View : Type 0 where
  pub setup : Setup
  pub stack : List ℕ
  pub frames : List Frame
  pub chain : List Active
  pub cores : ℕ → Seat

abbrev pub view : World → View
view w = record { setup = w.setup; stack = w.stack; frames = w.frames; chain = w.chain; cores = core_at w }

-- nothing is saved any more, and nothing closes it
abbrev pub over : CoroState → Option Seen → Seat → Seat
over s x k = record { state = s; regs = []; frames = []; waiting = k.waiting; closing = none; seen = x }

-- v ends in a state, and all others are as they were
pub record Ends (s : CoroState) (v : ℕ) (k l : ℕ → Seat) : Type 0 where
  pub mine : (l v ≡ over s (l v).seen (k v)) ⊎ ((is_created (k v).state ≡ true) × (l v ≡ k v))
  pub others : (u : ℕ) → u ≢ v → l u ≡ k u

-- a frame keeps its base and its continuation
pub record Keeps (g : Frame → Frame) : Type 0 where
  pub base : (f : Frame) → (g f).base ≡ f.base
  pub cont : (f : Frame) → (g f).cont ≡ f.cont

abbrev pub top_v : (Frame → Frame) → View → View
top_v g v = record { setup = v.setup; stack = v.stack; frames = on_top g v.frames; chain = v.chain; cores = v.cores }

abbrev pub put_v : ℕ → ℕ → View → View
put_v r x v = record { setup = v.setup; stack = put_at v.frames r x v.stack; frames = v.frames; chain = v.chain; cores = v.cores }

abbrev pub push_v : Frame → List ℕ → View → View
push_v f xs v = record { setup = v.setup; stack = v.stack ++ xs; frames = f ∷ v.frames; chain = v.chain; cores = v.cores }

abbrev pub pop_v : Frame → List Frame → View → View
pop_v f fs v = record { setup = v.setup; stack = take f.base v.stack; frames = fs; chain = v.chain; cores = v.cores }

abbrev pub cores_v : (ℕ → Seat) → View → View
cores_v k v = record { setup = v.setup; stack = v.stack; frames = v.frames; chain = v.chain; cores = k }

abbrev pub end_v : Frame → List Frame → List Active → (ℕ → Seat) → View → View
end_v f fs chain k v = record { setup = v.setup; stack = take f.base v.stack; frames = fs; chain = chain; cores = k }

-- what a call may do that is limited so: store its pc, write its register, put a frame on top; with no limit, what it likes
abbrev pub Stores : Option May → (Frame → Frame) → Type 0
Stores none g = Unit {0}
Stores (some m) g = (p : ℕ) × (m.pc ≡ some p) × (g ≡ set_pc p)

abbrev pub Writes : Option May → ℕ → Type 0
Writes none r = Unit {0}
Writes (some m) r = m.register ≡ some r

abbrev pub Calls : Option May → Type 0
Calls none = Unit {0}
Calls (some m) = m.calls ≡ true

-- moves, from the first to the last
pub data Worked (m : Option May) (b : Mode) : View → View → Type 0 where
  done : {v : View} → Worked m b v v
  -- cores that have not begun
  quiet : {v z : View} (k : ℕ → Seat) → ((c : ℕ) → Kept b c (v.cores c) (k c)) → Worked m b (cores_v k v) z → Worked m b v z
  -- the top frame's pc
  tops : {v z : View} (g : Frame → Frame) → Keeps g → Stores m g → Worked m b (top_v g v) z → Worked m b v z
  puts : {v z : View} (r x : ℕ) → Writes m r → Worked m b (put_v r x v) z → Worked m b v z
  -- a frame goes on top, which is the last move
  pushes : {v : View} (f : Frame) (xs : List ℕ) → Calls m → is_coro f.cont ≡ false → f.base ≡ length v.stack → Worked m b v (push_v f xs v)
  -- a frame goes, if there is no limit
  pops : {v z : View} (f : Frame) (fs : List Frame) → m ≡ none → v.frames ≡ f ∷ fs → (is_coro f.cont ≡ false) ⊎ (v.chain ≡ []) → Worked m b (pop_v f fs v) z → Worked m b v z
  -- a body goes, and its coroutine fails, if b lets it
  fails : {v z : View} (f : Frame) (fs : List Frame) (a : Active) (chain : List Active) (k : ℕ → Seat) → (b ≡ m-ending) × (m ≡ none) → v.frames ≡ f ∷ fs → is_coro f.cont ≡ true → v.chain ≡ a ∷ chain
      → Ends CoroState.Failed a.coro v.cores k → Worked m b (end_v f fs chain k v) z → Worked m b v z

-- what ends nobody is allowed to any call
kept-anyway : {b : Mode} {c : ℕ} {k l : Seat} → Kept m-plain c k l → Kept b c k l
kept-anyway (kept e) = kept e
kept-anyway (unborn a b m (inl n)) = unborn a b m (inl n)
kept-anyway (unborn a b m (inr n)) = let z : ◌≡◌ {A = ℕ} 0 1 = cc in absurd (omega arith)

pub anyway : {m : Option May} {b : Mode} {v z : View} → Worked m m-plain v z → Worked m b v z
anyway done = done
anyway (quiet k q t) = quiet k (λ c. kept-anyway (q c)) (anyway t)
anyway (tops g e s t) = tops g e s (anyway t)
anyway (puts r x a t) = puts r x a (anyway t)
anyway (pushes f xs a p q) = pushes f xs a p q
anyway (pops f fs free p q t) = pops f fs free p q (anyway t)
anyway (fails f fs a chain k y p q r e t) = let no = y.0 in let z : ◌≡◌ {A = ℕ} 0 1 = cc in absurd (omega arith)

-- c is entered at w, and z is left; p is the caller's pc
pub record Enter (w : World) (p c : ℕ) (d : Driver) (sent : Sent) (z : World) : Type 0 where
  pub setup : z.setup ≡ w.setup
  pub ready : is_resumable (core_at w c).state ≡ true
  pub solid : is_nil (core_at w c).frames ≡ false
  pub stack : z.stack ≡ w.stack ++ words_with sent (core_at w c)
  pub frames : z.frames ≡ map (raise (length w.stack)) (frames_with sent (core_at w c)) ++ on_top (set_pc p) w.frames
  pub chain : z.chain ≡ active c (length w.frames) d ∷ w.chain
  pub mine : is_running (core_at z c).state ≡ true
  pub closing : (core_at z c).closing ≡ closed_by sent (core_at w c).closing
  pub others : (u : ℕ) → u ≢ c → core_at z u ≡ core_at w u

-- the innermost coroutine a is suspended at w, and z is left
pub record Suspend (w : World) (p : ℕ) (s : CoroState) (dst x : ℕ) (a : Active) (chain : List Active) (z : World) : Type 0 where
  pub setup : z.setup ≡ w.setup
  pub inmost : w.chain ≡ a ∷ chain
  pub is-suspended : is_suspended s ≡ true
  pub mine : core_at z a.coro ≡ held_as (core_at z a.coro).seen (core_at w a.coro).closing s dst a.floor (base_at a.floor (on_top (set_pc p) w.frames)) (on_top (set_pc p) w.frames) w.stack
  pub others : (u : ℕ) → u ≢ a.coro → Kept m-plain u (core_at w u) (core_at z u)
  pub under : mem z.stack z.frames ≡ deliver_to a.driver (event_as (marked (λ r. r.closing) (coro w a.coro)) s x) (mem (take (base_at a.floor (on_top (set_pc p) w.frames)) w.stack) (below a.floor (on_top (set_pc p) w.frames)))
  pub outer : z.chain ≡ chain

-- the body f of the innermost coroutine a returns x at v, and z is left
pub record Return (v : View) (x : ℕ) (f : Frame) (fs : List Frame) (a : Active) (chain : List Active) (z : World) : Type 0 where
  pub setup : z.setup ≡ v.setup
  pub body : v.frames ≡ f ∷ fs
  pub its_own : is_coro f.cont ≡ true
  pub inmost : v.chain ≡ a ∷ chain
  pub ends : Ends CoroState.Returned a.coro v.cores (core_at z)
  pub told : is_returned (core_at z a.coro).state ≡ true → recorded (core_at z a.coro).seen ≡ x
  pub under : mem z.stack z.frames ≡ deliver_to a.driver (Returns x) (mem (take f.base v.stack) fs)
  pub outer : z.chain ≡ chain

abbrev pub Apart : ℕ → List Active → Type 0
Apart c [] = Unit {0}
Apart c (a ∷ chain) = (c ≢ a.coro) × Apart c chain

-- every coroutine of the chain fails, and all others are as they were
pub record Stop (w z : World) : Type 0 where
  pub setup : z.setup ≡ w.setup
  pub apart : (c : ℕ) → Apart c w.chain → core_at z c ≡ core_at w c
  pub each : (c : ℕ) → (Apart c w.chain × (core_at z c ≡ core_at w c)) ⊎ (((core_at z c).state ≡ CoroState.Failed) ⊎ ((is_created (core_at w c).state ≡ true) × (core_at z c ≡ core_at w c)))
  pub outer : z.chain ≡ []

-- whom the call enters, and whether coro_suspend accepts in it
pub record Says (w : World) (o : Op) (e : Entry) (b : Bool) : Type 0 where
  pub entry : entry_by (act w o) w ≡ e
  pub takes : takes_by (act w o) (suspends_in o) w ≡ b

-- finish and unwind
abbrev pub is_ending : Act → Bool
is_ending (at pc ok a) = false
is_ending (by_host c v) = false
is_ending (finishes kind v) = true
is_ending unwinds = true
is_ending other = false

-- whom a call may end
abbrev pub mode_by : E.Aim → Mode
mode_by (E.enters c d nothing may) = m-undoing c
mode_by (E.enters c d (gets x) may) = m-plain
mode_by (E.enters c d (closes x) may) = m-undoing c
mode_by (E.suspends s dst x) = m-plain
mode_by E.neither = m-plain

abbrev pub mode_of : Act → Mode
mode_of (at pc ok a) = mode_by a
mode_of (by_host c v) = m-plain
mode_of (finishes kind v) = m-ending
mode_of unwinds = m-ending
mode_of other = m-plain

pub data Shape (w : World) (o : Op) (z : World) : Type 0 where
  works : Says w o nobody false → (b : Mode) → mode_of (act w o) ≡ b → Worked (may_touch o) b (view w) (view z) → Shape w o z
  enters : (c : ℕ) (d : Driver) (sent : Sent) → Says w o (entry c d sent) false → Enter w (pc_by (act w o)) c d sent z → Shape w o z
  suspended : (p : ℕ) (ok : Bool) (s : CoroState) (dst x : ℕ) (a : Active) (chain : List Active) → Says w o nobody true → act w o ≡ at p ok (suspends s dst x) → Suspend w p s dst x a chain z → Shape w o z
  returns : (v : View) (x : ℕ) (f : Frame) (fs : List Frame) (a : Active) (chain : List Active) → Says w o nobody false → (is_ending (act w o) ≡ true) × (may_touch o ≡ none)
      → ((c : ℕ) → event_by (act w o) w c ≡ Returns x) → Worked none m-ending (view w) v → Return v x f fs a chain z → Shape w o z
  stops : Says w o nobody false → o ≡ Op.StopRun → Stop w z → Shape w o z
