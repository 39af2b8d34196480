-- Which operations are instructions, and by the tags that a match leaves, which are not. Assumes nothing.
use mathlib.Core.Path.{◌≡◌, refl, sym, ap, ◌∙◌, subst}
use mathlib.Core.Bool.{Bool, true, false}
use mathlib.Core.List.{List, [], ◌∷◌, ◌++◌}
use mathlib.Core.Logic.{◌⊎◌, inl, inr}
use Prim.Native.Nat.{ℕ}
use lib.Dec.{T}
use mir.Val.{has_key}
use types.Run.{OneOf, hit, miss}
use denote.Enum.Declared.{tag_of}
use Rattle.model.specs.Lists.{each}
use Rattle.model.specs.World.{World, After, after}
use Rattle.model.specs.Calls.{Row, Instruction, OnFrame, OnHost, Unwinds, Grants, Looks, Other, table}
use Rattle.model.specs.declared.call.Op.{Op}
use Rattle.model.specs.declared.exec.Step.{Step}
use Rattle.model.specs.contracts.call.Op as Op'
use Rattle.claims_sound.proofs.Tests.{no_true, and_left, and_right}
use Rattle.exec_arm.specs.Arm.{OfInstruction, Suspending, yields, yields-kv, awaits, Entering, resumes, throws, closes, draws}

abbrev pub is_instruction : Row → Bool
is_instruction (Instruction pc operands arm) = true
is_instruction (OnFrame operands body) = false
is_instruction (OnHost operands body) = false
is_instruction (Unwinds f pc) = false
is_instruction (Grants n) = false
is_instruction Looks = false
is_instruction (Other body) = false

-- ---- the groups by their places in call.rt: Op, as a match has them

abbrev suspending : List ℕ
suspending = 3 ∷ 4 ∷ 5 ∷ []

abbrev entering : List ℕ
entering = 6 ∷ 7 ∷ 8 ∷ 13 ∷ []

abbrev staying : List ℕ
staying = 0 ∷ 1 ∷ 2 ∷ 9 ∷ 10 ∷ 11 ∷ 12 ∷ []

abbrev keep : Bool → ℕ → List ℕ → List ℕ
keep true k ks = ks
keep false k ks = k ∷ ks

abbrev but : List ℕ → List ℕ → List ℕ
but ks [] = []
but ks (j ∷ js) = keep (has_key ks j) j (but ks js)

abbrev others : List ℕ → List ℕ
others ks = but ks (0 ∷ 1 ∷ 2 ∷ 3 ∷ 4 ∷ 5 ∷ 6 ∷ 7 ∷ 8 ∷ 9 ∷ 10 ∷ 11 ∷ 12 ∷ 13 ∷ 14 ∷ 15 ∷ 16 ∷ 17 ∷ 18 ∷ 19 ∷ 20 ∷ 21 ∷ 22 ∷ 23 ∷ 24 ∷ 25 ∷ 26 ∷ [])

-- one of the others
abbrev pub NoneOf : List ℕ → Op → Type 0
NoneOf ks o = OneOf (others ks) (tag_of Op'.the_type o)

pub not-suspending : (o : Op) → NoneOf suspending o → Suspending o → ⊥
not-suspending o n (yields a b d) = miss (others suspending) 3 tt n
not-suspending o n (yields-kv a b d h) = miss (others suspending) 4 tt n
not-suspending o n (awaits a b d) = miss (others suspending) 5 tt n

pub not-entering : (o : Op) → NoneOf entering o → Entering o → ⊥
not-entering o n (resumes a b d h) = miss (others entering) 6 tt n
not-entering o n (throws a b d h) = miss (others entering) 7 tt n
not-entering o n (closes a b d h) = miss (others entering) 8 tt n
not-entering o n (draws a b d h g) = miss (others entering) 13 tt n

-- an operation of no group is no instruction
no-instruction : (o : Op) → (Suspending o → ⊥) → (Entering o → ⊥) → NoneOf staying o → is_instruction (table o) ≡ false
no-instruction (Op.CoroNew a b d h) s e n = absurd (miss (others staying) 0 tt n)
no-instruction (Op.CoroNewIndirect a b d h) s e n = absurd (miss (others staying) 1 tt n)
no-instruction (Op.Spawn a b d h) s e n = absurd (miss (others staying) 2 tt n)
no-instruction (Op.Yield a b d) s e n = absurd (s (yields a b d))
no-instruction (Op.YieldKv a b d h) s e n = absurd (s (yields-kv a b d h))
no-instruction (Op.Await a b d) s e n = absurd (s (awaits a b d))
no-instruction (Op.Resume a b d h) s e n = absurd (e (resumes a b d h))
no-instruction (Op.ResumeThrow a b d h) s e n = absurd (e (throws a b d h))
no-instruction (Op.CoroClose a b d h) s e n = absurd (e (closes a b d h))
no-instruction (Op.CoroStatus a b d) s e n = absurd (miss (others staying) 9 tt n)
no-instruction (Op.CoroCurrent a b) s e n = absurd (miss (others staying) 10 tt n)
no-instruction (Op.CoroKey a b d) s e n = absurd (miss (others staying) 11 tt n)
no-instruction (Op.CoroResult a b d) s e n = absurd (miss (others staying) 12 tt n)
no-instruction (Op.IterNext a b d h g) s e n = absurd (e (draws a b d h g))
no-instruction (Op.Finish a b) s e n = refl
no-instruction (Op.Unwind a b) s e n = refl
no-instruction (Op.SpawnTask a) s e n = refl
no-instruction (Op.HostCall a) s e n = refl
no-instruction (Op.HostEntry a b) s e n = refl
no-instruction (Op.FunctionCall a b d) s e n = refl
no-instruction (Op.PutWord a b) s e n = refl
no-instruction (Op.MakeIterator a) s e n = refl
no-instruction Op.TakeOutcome s e n = refl
no-instruction (Op.HandOver a) s e n = refl
no-instruction (Op.Grant a) s e n = refl
no-instruction Op.StopRun s e n = refl
no-instruction Op.Look s e n = refl

-- .. of which anything can be said as of an instruction
pub no-group : (o : Op) (said : ℕ → (World → Bool) → (World → After Step) → Type 0) → (Suspending o → ⊥) → (Entering o → ⊥) → NoneOf staying o → OfInstruction o said
no-group o said s e n pc operands arm q = no_true (sym (ap is_instruction q) ∙ no-instruction o s e n)

at_key : (js : List ℕ) (x k : ℕ) → has_key js k ≡ true → x ≡ k → OneOf js x
at_key js x k h e = hit js x (subst T (sym (ap (has_key js) e ∙ h)) tt)

wider : (ks js : List ℕ) (x : ℕ) → each (has_key js) ks ≡ true → OneOf ks x → OneOf js x
wider [] js x h e = absurd e
wider (k ∷ []) js x h e = at_key js x k (and_left (has_key js k) true h) e
wider (k ∷ (i ∷ ks)) js x h (inl e) = at_key js x k (and_left (has_key js k) (each (has_key js) (i ∷ ks)) h) e
wider (k ∷ (i ∷ ks)) js x h (inr r) = wider (i ∷ ks) js x (and_right (has_key js k) (each (has_key js) (i ∷ ks)) h) r

-- by the tags that a match of every instruction leaves
pub no_arm : (o : Op) (said : ℕ → (World → Bool) → (World → After Step) → Type 0) → NoneOf (suspending ++ (entering ++ staying)) o → OfInstruction o said
no_arm o said h = no-group o said (not-suspending o (wider (others (suspending ++ (entering ++ staying))) (others suspending) _ refl h))
    (not-entering o (wider (others (suspending ++ (entering ++ staying))) (others entering) _ refl h)) (wider (others (suspending ++ (entering ++ staying))) (others staying) _ refl h)

-- the pc, and the arm, of a row
abbrev pub pc_of : Row → ℕ
pc_of (Instruction pc operands arm) = pc
pc_of (OnFrame operands body) = 0
pc_of (OnHost operands body) = 0
pc_of (Unwinds f pc) = 0
pc_of (Grants n) = 0
pc_of Looks = 0
pc_of (Other body) = 0

abbrev pub arm_of : Row → World → After Step
arm_of (Instruction pc operands arm) w = arm w
arm_of (OnFrame operands body) w = after w Step.Next
arm_of (OnHost operands body) w = after w Step.Next
arm_of (Unwinds f pc) w = after w Step.Next
arm_of (Grants n) w = after w Step.Next
arm_of Looks w = after w Step.Next
arm_of (Other body) w = after w Step.Next
