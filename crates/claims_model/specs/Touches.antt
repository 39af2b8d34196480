-- What a call leaves of the script that runs. One that enters nobody and suspends nobody, and is no set-up, finish, unwind or stop, changes of
-- the frames that it finds at most the top one's pc, which becomes its own, of their words at most the register that it names, and of the chain
-- nothing; and three kinds of calls may put one frame on top. A finish of a called frame takes it away, and writes one register of its caller.
use Rattle.std.specs.Prelude.{ℕ, ◌≡◌, ◌⊎◌, Bool, true, false, List, [], ◌∷◌, ◌++◌, length, take, replicate}
use Rattle.std.proofs.Math.Option.{Option, none, some}
use Rattle.heap.specs.declared.heap.ResultKind.{ResultKind}
use Rattle.model.specs.declared.machine.Cont.{Cont}
use Rattle.model.specs.declared.machine.Frame.{Frame}
use Rattle.model.specs.declared.call.Op.{Op}
use Rattle.claims_model.specs.Engine.{View, Engine}
use Rattle.claims_model.specs.Held.{at, into}
use Rattle.claims_model.specs.Delivery.{onward}
use Rattle.claims_model.specs.Demand3.{Enters, Suspends}
use Rattle.claims_model.specs.Events.{is_body}

pub record May : Type 0 where
  -- the pc that it may store, and the register that it may write, of the top frame
  pub pc : Option ℕ
  pub register : Option ℕ
  -- whether it may put a frame on top
  pub calls : Bool

abbrev pub may : Option ℕ → Option ℕ → Bool → Option May
may p r b = some (record { pc = p; register = r; calls = b })

-- where nobody is entered or suspended; a finish, an unwind and a stop move more than this
abbrev pub may_touch : Op → Option May
may_touch (Op.CoroNew pc dst f argc) = may (some pc) (some dst) false
may_touch (Op.CoroNewIndirect pc dst callee argc) = may (some pc) (some dst) false
may_touch (Op.Spawn pc dst callee argc) = may (some pc) none true
may_touch (Op.Yield pc dst src) = may (some pc) none false
may_touch (Op.YieldKv pc dst src key) = may (some pc) none false
may_touch (Op.Await pc dst src) = may (some pc) none false
may_touch (Op.Resume pc dst c src) = may (some pc) none false
may_touch (Op.ResumeThrow pc dst c src) = may (some pc) none false
may_touch (Op.CoroClose pc dst c src) = may (some pc) (some dst) false
may_touch (Op.CoroStatus pc dst c) = may (some pc) (some dst) false
may_touch (Op.CoroCurrent pc dst) = may (some pc) (some dst) false
may_touch (Op.CoroKey pc dst c) = may (some pc) (some dst) false
may_touch (Op.CoroResult pc dst c) = may (some pc) (some dst) false
may_touch (Op.IterNext pc has iter val src) = may (some pc) (some has) false
may_touch (Op.Finish kind x) = none
may_touch (Op.Unwind f pc) = none
may_touch (Op.SpawnTask x) = may none none false
may_touch (Op.HostCall f) = may none none true
may_touch (Op.HostEntry c x) = may none none false
may_touch (Op.FunctionCall pc f cont) = may (some pc) none true
may_touch (Op.PutWord r x) = may none (some r) false
may_touch (Op.MakeIterator x) = may none none false
may_touch Op.TakeOutcome = may none none false
may_touch (Op.HandOver x) = may none none false
may_touch (Op.Grant n) = may none none false
may_touch Op.StopRun = none
may_touch Op.Look = may none none false

abbrev pub storing : Option ℕ → List Frame → List Frame
storing none fs = fs
storing (some p) fs = at p fs

abbrev pub writing : Option ℕ → List Frame → ℕ → List ℕ → List ℕ
writing none fs x xs = xs
writing (some r) fs x xs = into fs r x xs

-- nothing, or one frame, if it may, from the height h on, with its words
pub data Over (calls : Bool) (h : ℕ) : List Frame → List ℕ → Type 0 where
  bare : Over calls h [] []
  one : calls ≡ true → (f : Frame) (xs : List ℕ) → f.base ≡ h → Over calls h (f ∷ []) xs

pub record Touched (m : May) (v z : View) : Type 0 where
  -- the frames that it found, with its pc or without; on them `over`
  pub own : List Frame
  pub stored : (own ≡ v.frames) ⊎ (own ≡ storing m.pc v.frames)
  pub over : List Frame
  pub frames : z.frames ≡ over ++ own
  -- the words that it found, but for what stands now in the register that it may write; on them those of `over`
  pub word : ℕ
  pub words : List ℕ
  pub stack : z.stack ≡ writing m.register v.frames word v.stack ++ words
  pub calls : Over m.calls (length v.stack) over words
  pub chain : z.chain ≡ v.chain

-- a call of the function f stands on the frames fs, with zeros in its registers
pub record Called (f : ℕ) (cont : Cont) (fs : List Frame) (v z : View) : Type 0 where
  pub frames : z.frames ≡ record { func = f; pc = 0; base = length v.stack; closure = 0; cont = cont } ∷ fs
  pub stack : z.stack ≡ v.stack ++ replicate (v.rules.registers f) 0

-- the register that a called frame's result goes to, and the frames under it, where it finishes: the caller steps on
abbrev pub target : Cont → Option ℕ
target Cont.Entry = none
target (Cont.Write r) = some r
target (Cont.Dyn r) = some r
target (Cont.Value r) = some r
target Cont.Discard = none
target Cont.Coro = none

abbrev pub go_on : Cont → List Frame → List Frame
go_on Cont.Entry fs = fs
go_on (Cont.Write r) fs = onward fs
go_on (Cont.Dyn r) fs = onward fs
go_on (Cont.Value r) fs = onward fs
go_on Cont.Discard fs = onward fs
go_on Cont.Coro fs = fs

-- the frame f on fs is gone with its words; in its target stands some word
pub record Finished (f : Frame) (fs : List Frame) (v z : View) : Type 0 where
  pub frames : z.frames ≡ go_on f.cont fs
  pub word : ℕ
  pub stack : z.stack ≡ writing (target f.cont) fs word (take f.base v.stack)
  pub chain : z.chain ≡ v.chain

pub record Touches (e : Engine) : Type 0 where
  pub touched : (s : e.State) (k : e.Call) (o : Op) (m : May) → e.op k ≡ some o → may_touch o ≡ some m → ((c : ℕ) → Enters e c s k → ⊥) → ((c : ℕ) → Suspends e c s k → ⊥)
      → Touched m (e.view s) (e.view (e.next s k))
  -- a finish of a frame that is no body, where it is accepted
  pub finished : (s : e.State) (k : e.Call) (kind : ResultKind) (x : ℕ) (f : Frame) (fs : List Frame) → e.op k ≡ some (Op.Finish kind x) → (e.view s).frames ≡ f ∷ fs → is_body f.cont ≡ false → e.number s k ≡ 0
      → Finished f fs (e.view s) (e.view (e.next s k))
  -- where they are accepted, a function call and a host call put the frame of their function on top, and a put word puts its word
  pub called : (s : e.State) (k : e.Call) (pc f : ℕ) (cont : Cont) → e.op k ≡ some (Op.FunctionCall pc f cont) → e.number s k ≡ 0 → Called f cont (at pc (e.view s).frames) (e.view s) (e.view (e.next s k))
  pub host_called : (s : e.State) (k : e.Call) (f : ℕ) → e.op k ≡ some (Op.HostCall f) → e.number s k ≡ 0 → Called f Cont.Entry [] (e.view s) (e.view (e.next s k))
  pub put : (s : e.State) (k : e.Call) (r x : ℕ) → e.op k ≡ some (Op.PutWord r x) → e.number s k ≡ 0 → (e.view (e.next s k)).stack ≡ into (e.view s).frames r x (e.view s).stack
