-- Which operations are instructions, and the range of an unwind's pc. Assumes nothing.
use mathlib.Core.Path.{◌≡◌, refl, subst}
use mathlib.Core.Bool.{true}
use mathlib.Core.List.{List, [], ◌∷◌}
use Prim.Native.Nat.{ℕ}
use types.Run.{OneOf, miss}
use denote.Enum.Declared.{tag_of}
use Rattle.heap.specs.Fault.{word_of}
use Rattle.heap.specs.declared.fault.Fault.{Fault}
use Rattle.model.specs.Call.{is_word, opt_pc, typed}
use Rattle.model.specs.Calls.{table}
use Rattle.std.specs.Prelude.{Option}
use Rattle.model.specs.declared.call.Op.{Op}
use Rattle.model.specs.contracts.call.Op as Op'
use Rattle.claims_sound.proofs.Tests.{and_right}
use Rattle.exec_arm.proofs.Tags.{is_instruction}

-- the tags that the other arms leave
abbrev pub instructions : List ℕ
instructions = 0 ∷ 1 ∷ 2 ∷ 3 ∷ 4 ∷ 5 ∷ 6 ∷ 7 ∷ 8 ∷ 9 ∷ 10 ∷ 11 ∷ 12 ∷ 13 ∷ []

pub are-instructions : (o : Op) → OneOf instructions (tag_of Op'.the_type o) → is_instruction (table o) ≡ true
are-instructions (Op.CoroNew a b d e) h = refl
are-instructions (Op.CoroNewIndirect a b d e) h = refl
are-instructions (Op.Spawn a b d e) h = refl
are-instructions (Op.Yield a b d) h = refl
are-instructions (Op.YieldKv a b d e) h = refl
are-instructions (Op.Await a b d) h = refl
are-instructions (Op.Resume a b d e) h = refl
are-instructions (Op.ResumeThrow a b d e) h = refl
are-instructions (Op.CoroClose a b d e) h = refl
are-instructions (Op.CoroStatus a b d) h = refl
are-instructions (Op.CoroCurrent a b) h = refl
are-instructions (Op.CoroKey a b d) h = refl
are-instructions (Op.CoroResult a b d) h = refl
are-instructions (Op.IterNext a b d e g) h = refl
are-instructions (Op.Finish a b) h = absurd (miss instructions 14 tt h)
are-instructions (Op.Unwind a b) h = absurd (miss instructions 15 tt h)
are-instructions (Op.SpawnTask a) h = absurd (miss instructions 16 tt h)
are-instructions (Op.HostCall a) h = absurd (miss instructions 17 tt h)
are-instructions (Op.HostEntry a b) h = absurd (miss instructions 18 tt h)
are-instructions (Op.FunctionCall a b d) h = absurd (miss instructions 19 tt h)
are-instructions (Op.PutWord a b) h = absurd (miss instructions 20 tt h)
are-instructions (Op.MakeIterator a) h = absurd (miss instructions 21 tt h)
are-instructions Op.TakeOutcome h = absurd (miss instructions 22 tt h)
are-instructions (Op.HandOver a) h = absurd (miss instructions 23 tt h)
are-instructions (Op.Grant a) h = absurd (miss instructions 24 tt h)
are-instructions Op.StopRun h = absurd (miss instructions 25 tt h)
are-instructions Op.Look h = absurd (miss instructions 26 tt h)

pub unwind-narrow : (o : Op) (f : Fault) (pc : Option ℕ) → o ≡ Op.Unwind f pc → typed o ≡ true → opt_pc pc ≡ true
unfolding typed
unwind-narrow o f pc e t = and_right (is_word (word_of f)) (opt_pc pc) (subst (λ z. typed z ≡ true) e t)
