-- THE SHEET's form: of each call its tests in order, each with its number, what it answers, and what has been done before it.
use Rattle.std.specs.Prelude.{ℕ, Bool, List, [], ◌∷◌, get_or}
use Rattle.lists.specs.Pick.{pick}
use Rattle.heap.specs.declared.fault.Fault.{Fault}
use Rattle.model.specs.World.{World, After, after}
use Rattle.model.specs.declared.exec.Step.{Step}
use Rattle.model.specs.declared.call.Answer.{Answer}

-- one test: the number, whether the call stops here, what it then answers, and the world as it stands here
pub record Line (A : Type 0) : Type 0 where
  pub number : ℕ
  pub stops : Bool
  pub answer : A
  pub left : World

-- the tests in order; and what is left and answered where none stops the call
pub record Lines (A : Type 0) : Type 0 where
  pub tests : List (Line A)
  pub done : Line A

module _ {A : Type 0} where
  abbrev pub lines : List (Line A) → Line A → Lines A
  lines ts d = record { tests = ts; done = d }

  -- THE RULE: the answer is that of the first test that stops the call, and the world is what stood there; else what is done
  abbrev pub leads_from : List (Line A) → Line A → After A
  leads_from [] d = after d.left d.answer
  leads_from (t ∷ ts) d = pick t.stops (after t.left t.answer) (leads_from ts d)

  abbrev pub leads : Lines A → After A
  leads s = leads_from s.tests s.done

  -- its number
  abbrev pub says_from : List (Line A) → Line A → ℕ
  says_from [] d = d.number
  says_from (t ∷ ts) d = pick t.stops t.number (says_from ts d)

  abbrev pub says : Lines A → ℕ
  says s = says_from s.tests s.done

-- 01's numbers 0 to 16; 17 comes with its word
abbrev pub faults : List Fault
faults =
    Fault.None ∷ Fault.NullReference ∷ Fault.TypeError ∷ Fault.InvalidCoroState ∷ Fault.StackOverflow ∷ Fault.CannotSuspend ∷ Fault.CloseIgnored
    ∷ Fault.ArithOverflow ∷ Fault.NoScheduler ∷ Fault.OutOfMemory ∷ Fault.OutOfFuel ∷ Fault.Unsound ∷ Fault.NoFrame ∷ Fault.BadOperand ∷ Fault.Full
    ∷ Fault.Busy ∷ Fault.GrantTooLarge ∷ []

abbrev pub fault : ℕ → Fault
fault n = get_or faults n Fault.None

-- ---- lines

abbrev pub line : {A : Type 0} → ℕ → Bool → A → World → Line A
line n b a w = record { number = n; stops = b; answer = a; left = w }

-- an instruction's own test, as Step::Fault
abbrev pub stop : ℕ → Bool → World → Line Step
stop n b w = line n b (Step.Fault (fault n)) w

-- .. as an unwinding
abbrev pub raise : ℕ → Bool → World → Line Step
raise n b w = line n b (Step.Unwind (fault n)) w

-- a test of a gate, or of a call that is no instruction
abbrev pub refuse : ℕ → Bool → World → Line Answer
refuse n b w = line n b (Answer.Refused (fault n)) w

-- accepted: 0
abbrev pub accept : {A : Type 0} → Bool → A → World → Line A
accept b a w = line 0 b a w
