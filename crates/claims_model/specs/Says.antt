-- What a call announces, in words of the claims' own: its operands and the registers that they name, limits, the charge, the cleanup that may
-- come first. And so whom it enters, by which driver, with what word.
use Rattle.std.specs.Prelude.{ℕ, ◌+◌, Bool, true, false, not, ◌&&◌, ◌||◌, List, [], ◌∷◌, length, get_or, eqb, ltb, leb, Option as RustOption, Some, None}
use Rattle.std.proofs.Math.Option.{Option, none, some, or_else}
use Rattle.lists.specs.Pick.{pick}
use Rattle.heap.specs.declared.fault.Fault.{Fault}
use Rattle.heap.specs.declared.object.CoroState.{CoroState}
use Rattle.heap.specs.declared.heap.ResultKind.{ResultKind}
use Rattle.model.specs.declared.machine.Driver.{Driver}
use Rattle.model.specs.declared.machine.Frame.{Frame}
use Rattle.model.specs.declared.machine.Fuel.{Fuel}
use Rattle.model.specs.declared.call.Op.{Op}
use Rattle.claims_model.specs.Engine.{Seen, View, seen_created, seen_awaiting, seen_suspended, seen_in, state_is}

-- ---- the top frame's registers

abbrev pub first_register : List Frame → ℕ
first_register [] = 0
first_register (f ∷ fs) = f.base

abbrev pub register_word : View → ℕ → ℕ
register_word v r = get_or v.stack (first_register v.frames + r) 0

-- 01: "Every register operand must lie between the top frame's base and the stack's end", and so the last of a window does
abbrev pub lie : View → List ℕ → Bool
lie v [] = true
lie v (r ∷ rs) = ltb (first_register v.frames + r) (length v.stack) && lie v rs

abbrev pub window : View → ℕ → ℕ → Bool
window v dst argc = leb (first_register v.frames + dst + 1 + argc) (length v.stack)

-- ---- the calls

-- what a coroutine is entered with: a word for the register that waits, a word that closes it, or neither
pub data Sent : Type 0 where
  nothing : Sent
  gets : ℕ → Sent
  closes : ℕ → Sent

pub data Aim : Type 0 where
  -- to enter the coroutine that a word names: driver, what it is entered with, and whether the call may (a test of states beyond `fits`)
  enter : ℕ → Driver → Sent → Bool → Aim
  -- to suspend: an await or not, the register that waits, the payload
  suspend : Bool → ℕ → ℕ → Aim
  neither : Aim

pub data Announced : Type 0 where
  -- an instruction: its pc, whether its operands lie in the frame (and its function is one), and what it is after
  instr : ℕ → Bool → Aim → Announced
  -- the host enters a coroutine, with a word
  hosts : ℕ → ℕ → Announced
  finishes : ResultKind → ℕ → Announced
  raises : Fault → RustOption ℕ → Announced
  other : Announced

abbrev pub announced : View → Op → Announced
announced v (Op.CoroNew pc dst f argc) = instr pc (lie v (dst ∷ []) && window v dst argc && ltb f v.rules.functions) neither
announced v (Op.CoroNewIndirect pc dst callee argc) = instr pc (lie v (dst ∷ callee ∷ []) && window v dst argc) neither
announced v (Op.Spawn pc dst callee argc) = instr pc (lie v (dst ∷ callee ∷ []) && window v dst argc) neither
announced v (Op.Yield pc dst src) = instr pc (lie v (dst ∷ src ∷ [])) (suspend false dst (register_word v src))
announced v (Op.YieldKv pc dst src key) = instr pc (lie v (dst ∷ src ∷ key ∷ [])) (suspend false dst (register_word v src))
announced v (Op.Await pc dst src) = instr pc (lie v (dst ∷ src ∷ [])) (suspend true dst (register_word v src))
announced v (Op.Resume pc dst c src) = instr pc (lie v (dst ∷ c ∷ src ∷ [])) (enter (register_word v c) (Driver.Resume dst) (gets (register_word v src)) true)
announced v (Op.ResumeThrow pc dst c src) = instr pc (lie v (dst ∷ c ∷ src ∷ [])) (enter (register_word v c) (Driver.Resume dst) nothing (state_is v seen_suspended (register_word v c)))
announced v (Op.CoroClose pc dst c src) = instr pc (lie v (dst ∷ c ∷ src ∷ [])) (enter (register_word v c) (Driver.Resume dst) (closes (register_word v src)) (state_is v seen_suspended (register_word v c)))
announced v (Op.CoroStatus pc dst c) = instr pc (lie v (dst ∷ c ∷ [])) neither
announced v (Op.CoroCurrent pc dst) = instr pc (lie v (dst ∷ [])) neither
announced v (Op.CoroKey pc dst c) = instr pc (lie v (dst ∷ c ∷ [])) neither
announced v (Op.CoroResult pc dst c) = instr pc (lie v (dst ∷ c ∷ [])) neither
announced v (Op.IterNext pc has iter val src) =
    instr pc (lie v (has ∷ iter ∷ val ∷ src ∷ [])) (enter (register_word v src) (Driver.Iter has val (register_word v iter)) (gets 0) (not (v.done (register_word v iter)) && not (state_is v seen_awaiting (register_word v src))))
announced v (Op.Finish kind x) = finishes kind x
announced v (Op.Unwind f pc) = raises f pc
announced v (Op.SpawnTask x) = other
announced v (Op.HostCall f) = other
announced v (Op.HostEntry c x) = hosts c x
announced v (Op.FunctionCall pc f cont) = other
announced v (Op.PutWord r x) = other
announced v (Op.MakeIterator x) = other
announced v Op.TakeOutcome = other
announced v (Op.HandOver x) = other
announced v (Op.Grant n) = other
announced v Op.StopRun = other
announced v Op.Look = other

-- a set-up does none of these
abbrev pub announced_by : View → Option Op → Announced
announced_by v none = other
announced_by v (some o) = announced v o

-- ---- who is entered

pub record Entry : Type 0 where
  pub coro : ℕ
  pub driver : Driver
  pub sent : Sent
  -- where the caller stands
  pub pc : ℕ

abbrev pub entry : ℕ → Driver → Sent → ℕ → Entry
entry c d x pc = record { coro = c; driver = d; sent = x; pc = pc }

-- 01: "not Created, Yielded or Awaiting (3); frames plus saved frames above the depth limit, or stack plus saved registers above the
-- stack limit (4; equality passes)"
abbrev pub fits : View → ℕ → Bool
fits v c = seen_in (λ x. (seen_created x.state || seen_suspended x.state) && leb (length v.frames + length x.frames) v.rules.depth && leb (length v.stack + length x.words) v.rules.height) (v.coro c)

-- the call's own entry. 01: "A Created one ignores the sent word."
abbrev pub own_entry : View → ℕ → Aim → Option Entry
own_entry v pc (enter c d x may) = pick (may && fits v c) (some (entry c d (pick (state_is v seen_created c) nothing x) pc)) none
own_entry v pc (suspend await dst x) = none
own_entry v pc neither = none

-- a cleanup: the first of the queue that is suspended and fits is closed, by nil
abbrev pub cleaned : View → ℕ → List ℕ → Option Entry
cleaned v pc [] = none
cleaned v pc (c ∷ queue) = pick (state_is v seen_suspended c && fits v c) (some (entry c Driver.Finalize (closes 0) pc)) (cleaned v pc queue)

-- what fuel 0 leaves to spend: the bank
abbrev pub banked : RustOption ℕ → ℕ
banked None = 0
banked (Some n) = n

-- who is entered once it is charged, y being the call's own: with fuel, y; with neither fuel nor bank, nobody; with a bank and cleanups
-- ready, one that is cleaned up, else y; with a bank only, y
abbrev pub charged : View → ℕ → Option Entry → Option Entry
charged v pc y = pick (eqb v.fuel.fuel 0) (pick (eqb (banked v.fuel.bank) 0) none (pick v.fuel.ready (or_else (cleaned v pc v.queue) y) y)) y

abbrev pub whom_by : View → Announced → Option Entry
whom_by v (instr pc ok a) = pick (eqb (length v.frames) 0) none (pick ok (charged v pc (own_entry v pc a)) none)
whom_by v (hosts c x) = pick (eqb (length v.frames) 0) (own_entry v 0 (enter c Driver.Host (gets x) true)) none
whom_by v (finishes kind x) = none
whom_by v (raises f pc) = none
whom_by v other = none

abbrev pub whom : View → Option Op → Option Entry
whom v k = whom_by v (announced_by v k)
