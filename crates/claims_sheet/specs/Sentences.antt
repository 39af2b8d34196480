-- 01: "Fault sheet", its sentences about all answers, as theorems about `step` that the table gives.
use Rattle.std.specs.Prelude.{ℕ, suc, ◌≡◌, Bool, true, false, not, ◌&&◌, ◌||◌, List, [], ◌∷◌, eqb}
use Rattle.lists.specs.Pick.{pick}
use Rattle.heap.specs.Table.{Slot}
use Rattle.model.specs.Lists.{among}
use Rattle.model.specs.Program.{Setup, setup_ok}
use Rattle.model.specs.Object.{Object}
use Rattle.model.specs.World.{World}
use Rattle.model.specs.Sound.{sound}
use Rattle.model.specs.Answer.{number_of, word_of}
use Rattle.model.specs.Call.{Call, SetUp, Do, Operation}
use Rattle.model.specs.Step.{step, run}
use Rattle.model.specs.declared.call.Answer.{Answer}
use Rattle.claims_sheet.specs.Lines.{Line, Lines, says}
use Rattle.claims_sheet.specs.Does.{number}
use Rattle.claims_sheet.specs.Words.{is_nothing, no_slot}
use Rattle.claims_sheet.specs.Makings.{no_row}
use Rattle.claims_sheet.specs.Sheet.{sheet, set_up}

-- ---- "given exactly if": a test of that number stops the call, and none before it

abbrev pub gives_from : ℕ → List (Line Answer) → Line Answer → Bool
gives_from n [] d = eqb d.number n
gives_from n (t ∷ ts) d = t.stops && eqb t.number n || not t.stops && gives_from n ts d

abbrev pub gives : ℕ → Lines Answer → Bool
gives n s = gives_from n s.tests s.done

-- ---- 14

-- "14 is tested right after memory and leaves what 9 leaves there": the line before, and those after it
abbrev pub Behind9 : Line Answer → List (Line Answer) → Type 0
Behind9 l [] = Unit {0}
Behind9 l (t ∷ ts) = (eqb t.number 14 && t.stops ≡ true → (l.number ≡ 9) × (l.left ≡ t.left)) × Behind9 t ts

abbrev pub FullAfter9 : List (Line Answer) → Type 0
FullAfter9 [] = Unit {0}
FullAfter9 (t ∷ ts) = (eqb t.number 14 ≡ false) × Behind9 t ts

-- the slots that an object stands in
abbrev pub taken_of : List (Slot Object) → ℕ
taken_of [] = 0
taken_of (x ∷ xs) = pick (is_nothing x.object) (taken_of xs) (suc (taken_of xs))

-- "every slot taken"
abbrev pub every_slot : World → Bool
every_slot w = eqb (taken_of w.slots) w.setup.limits.slots

-- ---- words

-- "11, 12, 13, 15, 16 change no word."
abbrev pub unchanging : List ℕ
unchanging = 11 ∷ 12 ∷ 13 ∷ 15 ∷ 16 ∷ []

pub record Sentences : Type 0 where
  pub given : (n : ℕ) (w : World) (o : Operation) → eqb (number w o) n ≡ gives n (sheet o.op w)
  pub given-set-up : (w : World) (s : Setup) → number_of (step w (SetUp s)).answer ≡ says (set_up s w)
  pub unchanged : (w : World) (c : Call) → among (number_of (step w c).answer) unchanging ≡ true → (step w c).world ≡ w
  -- no call but a set-up changes the set-up
  pub set-up-stays : (w : World) (o : Operation) → (step w (Do o)).world.setup ≡ w.setup
  pub full-after-9 : (w : World) (o : Operation) → FullAfter9 (sheet o.op w).tests
  -- 14's "every slot taken": no slot of a machine that calls reach is empty, so its test says what 01 says
  pub slots-taken : (w : World) (s : Setup) (cs : List Call) → setup_ok s ≡ true → let v = run w (SetUp s ∷ cs) in sound v ≡ true → no_slot v ≡ every_slot v
  -- 14 | every slot taken, or every row held by an unfinished coroutine
  pub full : (w : World) (s : Setup) (cs : List Call) (o : Operation) → setup_ok s ≡ true → let v = run w (SetUp s ∷ cs) in number v o ≡ 14 → every_slot v || no_row v ≡ true
  -- "A refused answer's word is 0, except for 17."
  pub refused-word : (w : World) (c : Call) → among (number_of (step w c).answer) (0 ∷ 17 ∷ []) ≡ false → word_of (step w c).answer ≡ 0
