-- How one field of a claim refuses an engine. The type of a refutation is made from the field's own type, which is read off its projection:
-- so a field that says nothing refuses nobody.
use Rattle.std.specs.Prelude.{ℕ, ◌≡◌, ◌⊎◌, true, false, List, [], ◌∷◌, ◌++◌, length, drop}
use Rattle.std.proofs.Math.Option.{Option, some}
use Rattle.heap.specs.declared.heap.ResultKind.{ResultKind}
use Rattle.model.specs.declared.machine.Cont.{Cont}
use Rattle.model.specs.declared.machine.Driver.{Driver}
use Rattle.model.specs.declared.machine.Active.{Active}
use Rattle.model.specs.declared.machine.Frame.{Frame}
use Rattle.model.specs.declared.call.Op.{Op}
use Rattle.claims_model.specs.Engine.{View, Engine, Turn, run_turns, state_is}
use Rattle.claims_model.specs.Says.{register_word, announced_by}
use Rattle.claims_model.specs.Held.{at, Moved, pc_of, waits_in, stepped, with_sent, closer, closed_by, Held, By, Entered, Restored}
use Rattle.claims_model.specs.Delivery.{event_given, stack_frames, delivered_to, LeftBelow}
use Rattle.claims_model.specs.Demand3.{Enters, Suspends, Stops, Restarts, Waits, Goes}
use Rattle.claims_model.specs.Events.{is_body}
use Rattle.claims_model.specs.Touches.{May, may_touch, storing, Over, Touched, Called, Finished}
use Rattle.claims_model.specs.Made.{arguments, made, Came, Named, Hooked}
use Rattle.claims_model.specs.Asks.{Pays, Admits}
use Rattle.claims_model.specs.Promise.{Fresh, NotEmpty}

-- what a field of a record says of an engine
abbrev pub Said : (R : Engine → Type 0) {F : Engine → Type 0} → ((e : Engine) → R e → F e) → Engine → Type 0
Said R {F} field e = F e

-- ---- of a record of an engine: what its field says of the engine does not hold

abbrev pub Refuted : (R : Engine → Type 0) {F : Engine → Type 0} → ((e : Engine) → R e → F e) → Engine → Type 0
Refuted R {F} field e = F e → ⊥

-- where the field speaks of other things that the record has, its ground: there are such things, and of none is said what holds. `F` is the
-- field's type over the ground, which its projection has to have
abbrev pub RefutedIn : (R : Engine → Type 0) {G : Engine → Type 0} (ground : (e : Engine) → R e → G e) (F : (e : Engine) → G e → Type 0) → ((e : Engine) (v : R e) → F e (ground e v)) → Engine → Type 0
RefutedIn R {G} ground F field e = G e × ((g : G e) → F e g → ⊥)

-- ---- of a record that such a field asks of one case: in some case of the engine what its field says does not hold

abbrev pub RefutedAt : {A : Engine → Type 0} (R : (e : Engine) → A e → Type 0) {F : (e : Engine) → A e → Type 0} → ((e : Engine) (a : A e) → R e a → F e a) → Engine → Type 0
RefutedAt {A} R {F} field e = (a : A e) × (F e a → ⊥)

abbrev pub RefutedOn : {A : Engine → Type 0} (R : (e : Engine) → A e → Type 0) {G : (e : Engine) → A e → Type 0} (ground : (e : Engine) (a : A e) → R e a → G e a) (F : (e : Engine) (a : A e) → G e a → Type 0)
    → ((e : Engine) (a : A e) (r : R e a) → F e a (ground e a r)) → Engine → Type 0
RefutedOn {A} R {G} ground F field e = (a : A e) × G e a × ((g : G e a) → F e a g → ⊥)

-- y enters c
pub record Entering (e : Engine) : Type 0 where
  pub c : ℕ
  pub s : e.State
  pub y : e.Call
  pub enters : Enters e c s y

abbrev pub entered : (e : Engine) → Entering e → Type 0
entered e a = Entered (e.view a.s) (e.op a.y) a.c (e.view (e.next a.s a.y))

abbrev pub by : (e : Engine) → Entering e → Type 0
by e a = By (e.view a.s) (e.op a.y) a.c

-- the chain, and who is being closed, as `Entered` says them
abbrev pub chain_is : (e : Engine) (a : Entering e) → by e a → Type 0
chain_is e a g = let w = e.view a.s in (e.view (e.next a.s a.y)).chain ≡ record { coro = a.c; floor = length w.frames; driver = g.driver } ∷ w.chain

abbrev pub closing_is : (e : Engine) (a : Entering e) → by e a → Type 0
closing_is e a g = closer ((e.view (e.next a.s a.y)).coro a.c) ≡ closed_by g.sent (closer ((e.view a.s).coro a.c))

-- what the call says, and two parts of the frames; and where these are the frames
abbrev pub entry_parts : (e : Engine) (a : Entering e) → entered e a → by e a × List Frame × Frame
entry_parts e a r = (r.by, r.over, r.body)

pub record Stands (w : View) (k : Option Op) (c : ℕ) (z : View) : Type 0 where
  pub by : By w k c
  pub over : List Frame
  pub body : Frame
  pub frames : z.frames ≡ over ++ (body ∷ at by.pc w.frames)

abbrev pub standing : {w : View} {k : Option Op} {c : ℕ} {z : View} → Entered w k c z → Stands w k c z
standing r = record { by = r.by; over = r.over; body = r.body; frames = r.frames }

abbrev pub stands : (e : Engine) (a : Entering e) → entered e a → Stands (e.view a.s) (e.op a.y) a.c (e.view (e.next a.s a.y))
stands e a r = standing r

-- x suspends c, and y is its next entry
pub record NextEntry (e : Engine) : Type 0 where
  pub c : ℕ
  pub s : e.State
  pub x : e.Call
  pub waiting : List (Turn e.Call)
  pub y : e.Call
  pub suspends : Suspends e c s x
  pub waits : Waits e c (e.next s x) waiting
  pub enters : Enters e c (run_turns e (e.next s x) waiting) y

abbrev pub restored : (e : Engine) → NextEntry e → Type 0
restored e a = let t = run_turns e (e.next a.s a.x) a.waiting in Restored (e.view a.s) (e.op a.x) (e.view t) (e.op a.y) a.c (e.view (e.next t a.y))

abbrev pub held : (e : Engine) → NextEntry e → Type 0
held e a = Held (e.view a.s) a.c

-- three parts of the frames; where these are the frames; and what the chain has of it
abbrev pub thirds : (e : Engine) (a : NextEntry e) → held e a → List Frame × Frame × List Frame
thirds e a r = (r.over, r.body, r.under)

pub record Splits (v : View) : Type 0 where
  pub over : List Frame
  pub body : Frame
  pub under : List Frame
  pub frames : v.frames ≡ over ++ (body ∷ under)

abbrev pub splits : (e : Engine) (a : NextEntry e) → held e a → Splits (e.view a.s)
splits e a r = record { over = r.over; body = r.body; under = r.under; frames = r.frames }

abbrev pub linked : (e : Engine) (a : NextEntry e) → held e a → List Frame × Driver × List Active
linked e a r = (r.under, r.driver, r.outer)

-- what c held, and where it stands again
abbrev pub HeldAndStands : (e : Engine) → NextEntry e → Type 0
HeldAndStands e a = let t = run_turns e (e.next a.s a.x) a.waiting in held e a × Stands (e.view t) (e.op a.y) a.c (e.view (e.next t a.y))

abbrev pub held_and_stands : (e : Engine) (a : NextEntry e) → restored e a → HeldAndStands e a
held_and_stands e a r = (r.held, standing r.entered)

-- the frames that it held, and those that stand, are as M says, from its Coro frame's base to the caller's height
abbrev pub frames_are : ((b h : ℕ) → List Frame → List Frame → Type 0) → (e : Engine) (a : NextEntry e) → HeldAndStands e a → Type 0
frames_are M e a g =
    let t = run_turns e (e.next a.s a.x) a.waiting in let frames = g.0.over ++ (g.0.body ∷ []) in
    M g.0.body.base (length (e.view t).stack) (at (stepped g.1.by.sent (pc_of (announced_by (e.view a.s) (e.op a.x)))) frames) (g.1.over ++ (g.1.body ∷ []))

-- the stack, as `Restored.words` says it
abbrev pub words_are : (e : Engine) (a : NextEntry e) → HeldAndStands e a → Type 0
words_are e a g =
    let v = e.view a.s in let t = run_turns e (e.next a.s a.x) a.waiting in let z = e.view (e.next t a.y) in
    z.stack ≡ with_sent g.1.by.sent z.frames (waits_in (announced_by v (e.op a.x))) ((e.view t).stack ++ drop g.0.body.base v.stack)

-- the frames one by one
abbrev pub Each : ((b h : ℕ) (f g : Frame) → Type 0) → (b h : ℕ) → List Frame → List Frame → Type 0
Each F b h [] [] = Unit {0}
Each F b h [] (g ∷ gs) = ⊥
Each F b h (f ∷ fs) [] = ⊥
Each F b h (f ∷ fs) (g ∷ gs) = F b h f g × Each F b h fs gs

-- of a frame that an entry moves: where c is entered again with as many frames as it held, not every one of them has the field
abbrev pub RefutedAtFrame : {F : (b h : ℕ) (f g : Frame) → Type 0} → ((b h : ℕ) (f g : Frame) → Moved b h f g → F b h f g) → Engine → Type 0
RefutedAtFrame {F} field e = (a : NextEntry e) × ((g : HeldAndStands e a) × frames_are (Each (λ b h f j. Unit {0})) e a g) × ((g : HeldAndStands e a) → frames_are (Each F) e a g → ⊥)

-- y enters c, and z is where it next yields, awaits or returns
pub record Leave (e : Engine) : Type 0 where
  pub c : ℕ
  pub s : e.State
  pub y : e.Call
  pub going : List (Turn e.Call)
  pub z : e.Call
  pub enters : Enters e c s y
  pub goes : Goes e c (e.next s y) going
  pub stops : Stops e c (run_turns e (e.next s y) going) z

abbrev pub left : (e : Engine) → Leave e → Type 0
left e a = let t = run_turns e (e.next a.s a.y) a.going in LeftBelow (e.view a.s) (e.op a.y) a.c (e.view t) (e.op a.z) (e.view (e.next t a.z))

-- what is left, as `Left.under` says it
abbrev pub under_is : (e : Engine) (a : Leave e) → By (e.view a.s) (e.op a.y) a.c → Type 0
under_is e a g =
    let w = e.view a.s in let t = run_turns e (e.next a.s a.y) a.going in let v = e.view t in let z = e.view (e.next t a.z) in
    stack_frames z.stack z.frames ≡ delivered_to g.driver (event_given v (announced_by v (e.op a.z)) a.c z) (stack_frames w.stack (at g.pc w.frames))

-- a call that enters and suspends nobody, and is no set-up, finish, unwind or stop
pub record Touch (e : Engine) : Type 0 where
  pub s : e.State
  pub k : e.Call
  pub o : Op
  pub m : May
  pub op : e.op k ≡ some o
  pub may : may_touch o ≡ some m
  pub no-entry : (c : ℕ) → Enters e c s k → ⊥
  pub no-suspension : (c : ℕ) → Suspends e c s k → ⊥

abbrev pub touched : (e : Engine) → Touch e → Type 0
touched e a = Touched a.m (e.view a.s) (e.view (e.next a.s a.k))

-- what it found and what stands over that: `stored`, `frames` and `calls` speak of the two together, so each is refuted where the others hold
abbrev pub FramesThere : (e : Engine) → Touch e → List Frame → List Frame → Type 0
FramesThere e a own over = (e.view (e.next a.s a.k)).frames ≡ over ++ own

abbrev pub StoredThere : (e : Engine) → Touch e → List Frame → Type 0
StoredThere e a own = let fs = (e.view a.s).frames in (own ≡ fs) ⊎ (own ≡ storing a.m.pc fs)

abbrev pub CallsThere : (e : Engine) → Touch e → List Frame → List ℕ → Type 0
CallsThere e a over words = Over a.m.calls (length (e.view a.s).stack) over words

abbrev pub but_stored : (e : Engine) (a : Touch e) → touched e a → (own : List Frame) × (over : List Frame) × (words : List ℕ) × FramesThere e a own over × CallsThere e a over words
but_stored e a r = (r.own, r.over, r.words, r.frames, r.calls)

abbrev pub but_frames : (e : Engine) (a : Touch e) → touched e a → (own : List Frame) × (over : List Frame) × (words : List ℕ) × StoredThere e a own × CallsThere e a over words
but_frames e a r = (r.own, r.over, r.words, r.stored, r.calls)

abbrev pub but_calls : (e : Engine) (a : Touch e) → touched e a → (own : List Frame) × (over : List Frame) × (words : List ℕ) × StoredThere e a own × FramesThere e a own over
but_calls e a r = (r.own, r.over, r.words, r.stored, r.frames)

abbrev pub written : (e : Engine) (a : Touch e) → touched e a → ℕ × List ℕ
written e a r = (r.word, r.words)

-- an accepted finish of a frame that is no body
pub record Finish (e : Engine) : Type 0 where
  pub s : e.State
  pub k : e.Call
  pub kind : ResultKind
  pub x : ℕ
  pub f : Frame
  pub fs : List Frame
  pub op : e.op k ≡ some (Op.Finish kind x)
  pub frames : (e.view s).frames ≡ f ∷ fs
  pub called : is_body f.cont ≡ false
  pub accepted : e.number s k ≡ 0

abbrev pub finished : (e : Engine) → Finish e → Type 0
finished e a = Finished a.f a.fs (e.view a.s) (e.view (e.next a.s a.k))

-- an accepted function call
pub record Calling (e : Engine) : Type 0 where
  pub s : e.State
  pub k : e.Call
  pub pc : ℕ
  pub f : ℕ
  pub cont : Cont
  pub op : e.op k ≡ some (Op.FunctionCall pc f cont)
  pub accepted : e.number s k ≡ 0

abbrev pub called : (e : Engine) → Calling e → Type 0
called e a = Called a.f a.cont (at a.pc (e.view a.s).frames) (e.view a.s) (e.view (e.next a.s a.k))

-- an accepted CoroNew
pub record Creation (e : Engine) : Type 0 where
  pub s : e.State
  pub k : e.Call
  pub pc : ℕ
  pub dst : ℕ
  pub f : ℕ
  pub argc : ℕ
  pub op : e.op k ≡ some (Op.CoroNew pc dst f argc)
  pub accepted : e.number s k ≡ 0

abbrev pub named : (e : Engine) → Creation e → Type 0
named e a = let v = e.view a.s in Named v a.dst (made v.rules a.f 0 (arguments v a.dst a.argc)) (e.view (e.next a.s a.k))

abbrev pub came : (e : Engine) → Creation e → Type 0
came e a = let v = e.view a.s in Came v (made v.rules a.f 0 (arguments v a.dst a.argc)) (e.view (e.next a.s a.k))

-- an accepted Spawn, of a function f
pub record Spawning (e : Engine) : Type 0 where
  pub s : e.State
  pub k : e.Call
  pub pc : ℕ
  pub dst : ℕ
  pub r : ℕ
  pub argc : ℕ
  pub op : e.op k ≡ some (Op.Spawn pc dst r argc)
  pub accepted : e.number s k ≡ 0

abbrev pub hooked : (e : Engine) → Spawning e → Type 0
hooked e a = let v = e.view a.s in (f : ℕ) × Hooked v a.pc a.dst (made v.rules f (register_word v a.r) (arguments v a.dst a.argc)) (e.view (e.next a.s a.k))

-- a CoroStatus that is answered 0
pub record Asking (e : Engine) : Type 0 where
  pub s : e.State
  pub k : e.Call
  pub pc : ℕ
  pub dst : ℕ
  pub r : ℕ
  pub op : e.op k ≡ some (Op.CoroStatus pc dst r)
  pub accepted : e.number s k ≡ 0

abbrev pub admits : (e : Engine) → Asking e → Type 0
admits e a = let v = e.view a.s in Admits e a.s (a.dst ∷ a.r ∷ []) (state_is v (λ x. true) (register_word v a.r))

abbrev pub pays : (e : Engine) → Asking e → Type 0
pays e a = Pays e a.s

-- an accepted set-up
pub record Restart (e : Engine) : Type 0 where
  pub s : e.State
  pub k : e.Call
  pub restarts : Restarts e s k

abbrev pub fresh : (e : Engine) → Restart e → Type 0
fresh e a = Fresh (e.view (e.next a.s a.k))

-- ---- one list of calls

pub record Listed (S C : Type 0) : Type 0 where
  pub start : S
  pub first : C
  pub before : List (Turn C)
  pub x : C
  pub waiting : List (Turn C)
  pub y : C
  pub going : List (Turn C)
  pub z : C
  pub c : ℕ

abbrev pub listed : (e : Engine) → NotEmpty e → Listed e.State e.Call
listed e v = record { start = v.start; first = v.first; before = v.before; x = v.x; waiting = v.waiting; y = v.y; going = v.going; z = v.z; c = v.c }

module _ (e : Engine) (l : Listed e.State e.Call) where
  abbrev pub before_x : e.State
  before_x = run_turns e (e.next l.start l.first) l.before

  abbrev pub before_y : e.State
  before_y = run_turns e (e.next before_x l.x) l.waiting

  abbrev pub before_z : e.State
  before_z = run_turns e (e.next before_y l.y) l.going

  abbrev pub Suspended : Type 0
  Suspended = Suspends e l.c before_x l.x

  abbrev pub Waited : Type 0
  Waited = Waits e l.c (e.next before_x l.x) l.waiting

  abbrev pub EnteredBy : Type 0
  EnteredBy = Enters e l.c before_y l.y

  abbrev pub Gone : Type 0
  Gone = Goes e l.c (e.next before_y l.y) l.going

  abbrev pub LeftBy : Type 0
  LeftBy = Stops e l.c before_z l.z

-- a list in which all of these hold but one
abbrev pub but_waits : (e : Engine) → NotEmpty e → (l : Listed e.State e.Call) × Suspended e l × EnteredBy e l × Gone e l × LeftBy e l
but_waits e v = (listed e v, v.suspends, v.enters, v.goes, v.stops)

abbrev pub but_enters : (e : Engine) → NotEmpty e → (l : Listed e.State e.Call) × Suspended e l × Waited e l × Gone e l × LeftBy e l
but_enters e v = (listed e v, v.suspends, v.waits, v.goes, v.stops)

abbrev pub but_goes : (e : Engine) → NotEmpty e → (l : Listed e.State e.Call) × Suspended e l × Waited e l × EnteredBy e l × LeftBy e l
but_goes e v = (listed e v, v.suspends, v.waits, v.enters, v.stops)

abbrev pub but_leaves : (e : Engine) → NotEmpty e → (l : Listed e.State e.Call) × Suspended e l × Waited e l × EnteredBy e l × Gone e l
but_leaves e v = (listed e v, v.suspends, v.waits, v.enters, v.goes)
