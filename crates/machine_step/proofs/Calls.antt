-- A call by the row of its operation. Assumes nothing.
use mathlib.Core.Path.{◌≡◌, refl, sym, ap, ◌∙◌, subst}
use mathlib.Core.Bool.{Bool, true, false, not}
use Prim.Native.Nat.{ℕ}
use Rattle.lists.specs.Pick.{pick, pick_true, pick-false}
use Rattle.heap.specs.declared.fault.Fault.{Fault}
use Rattle.model.specs.Lists.{is_nil}
use Rattle.model.specs.World.{World, After, after, and_then}
use Rattle.model.specs.Gate.{refused, on_frame, on_host, instruction}
use Rattle.model.specs.Added.{answer_made}
use Rattle.model.specs.Calls.{Row, Instruction, OnFrame, OnHost, Unwinds, Grants, Looks, Other, table}
use Rattle.model.specs.Step.{doing, call}
use Rattle.model.specs.declared.call.Op.{Op}
use Rattle.model.specs.declared.call.Answer.{Answer}
use Rattle.std.specs.Prelude.{Result, Err}
use Rattle.model.specs.declared.machine.Fuel.{Fuel}
use Rattle.memory_world.specs.Memory.{Lent, Beside, Rep, Room}
use Rattle.memory_world.specs.Contract.{Numbers, Ok, Does}
use Rattle.memory_world.specs.declared.machine.Machine.{Machine}
use Rattle.memory_world.specs.declared.machine.Sizes.{Sizes}
use Rattle.claims_sound.proofs.Tests.{no_false}
use Rattle.memory_world.proofs.Does.{does}
use Rattle.machine_added.proofs.Iterators.{made_as, made-any}
use Rattle.exec_arm.specs.Arm.{OfInstruction}
use Rattle.exec_arm.proofs.Tags.{is_instruction}
use Rattle.exec_arm.proofs.Fitting.{around}
use Rattle.machine_step.specs.Kept.{did}

-- what a row leaves, and answers
abbrev pub row_did : Row → World → After Answer
row_did x w = after (doing x w).world (doing x w).answer

module _ {l : Sizes} {M : Lent} {m : Machine} {f : Fuel} {a : Answer} where
  -- of an operation whose row is known
  by_row : (w : World) (o : Op) (x : Row) → table o ≡ x → Does l (row_did x w) M m f a → Does l (did o w) M m f a
  unfolding call
  by_row w o x e d = subst (λ z. Does l (row_did z w) M m f a) (sym e) d

  -- of an operation that is known, by its row; and by the call itself
  pub as_row : {o x : Op} (w : World) → o ≡ x → Does l (row_did (table x) w) M m f a → Does l (did o w) M m f a
  as_row {o} {x} w e d = by_row w o (table x) (ap table e) d

  pub as_same : {o x : Op} (w : World) → o ≡ x → Does l (did x w) M m f a → Does l (did o w) M m f a
  as_same w e d = subst (λ z. Does l (did z w) M m f a) (sym e) d

  pub as-host : (w : World) (o : Op) (operands : World → Bool) (body : World → After Answer) → table o ≡ OnHost operands body → Does l (on_host (operands w) body w) M m f a → Does l (did o w) M m f a
  as-host w o operands body e d = by_row w o (OnHost operands body) e d

  pub as-frame : (w : World) (o : Op) (operands : World → Bool) (body : World → After Answer) → table o ≡ OnFrame operands body → Does l (on_frame (operands w) body w) M m f a → Does l (did o w) M m f a
  as-frame w o operands body e d = by_row w o (OnFrame operands body) e d

  -- an answer that is the word made
  pub made_of : {o : After (Result ℕ Fault)} {b : Result ℕ Fault} → Does l o M m f b → ((z : World) → a ≡ (answer_made z b).answer) → Does l (and_then o answer_made) M m f a
  made_of {o} {b} d q =
      does l M m f (and_then o answer_made) o.world a
      (made o.world o.answer ∙ ap (λ y. after o.world (made_as y)) (sym d.answer) ∙ ap (after o.world) (sym (q o.world ∙ made-any o.world b))) d.world
    where
      made : (u : World) (y : Result ℕ Fault) → answer_made u y ≡ after u (made_as y)
      made u (Result.Ok k) = refl
      made u (Err k) = refl

-- an instruction
pub as-instruction : (l : Sizes) (M : Lent) (m : Machine) (f : Fuel) (w : World) (o : Op) (a : Answer) → is_instruction (table o) ≡ true
    → OfInstruction o (λ pc operands arm. Does l (instruction pc (operands w) arm w) M m f a) → Does l (did o w) M m f a
as-instruction l M m f w o a t d = go (table o) refl t
  where
    go : (x : Row) → table o ≡ x → is_instruction x ≡ true → Does l (did o w) M m f a
    go (Instruction pc operands arm) q e = by_row w o (Instruction pc operands arm) q (d pc operands arm q)
    go (OnFrame operands body) q e = no_false e
    go (OnHost operands body) q e = no_false e
    go (Unwinds g pc) q e = no_false e
    go (Grants n) q e = no_false e
    go Looks q e = no_false e
    go (Other body) q e = no_false e

-- a callee may be lent some of sound words
pub lent_ok : {l : Sizes} {M N : Beside → Lent} {n k : Numbers} (ok : Ok l M n) → Rep l ok.world (N (around ok.rep)) k.machine (k.fuel (around ok.rep))
    → Room ok.world.setup (N (around ok.rep)) → Ok l N k
lent_ok ok rep room = record { world = ok.world; beside = around ok.rep; rep = rep; sound = ok.sound; room = room }

-- ---- the gates

module _ (l : Sizes) (M : Lent) (m : Machine) (f : Fuel) (w : World) (t : Bool) (body : World → After Answer) where
  pub busy : is_nil w.frames ≡ false → Rep l w M m f → Does l (on_host t body w) M m f (Answer.Refused Fault.Busy)
  unfolding on_host
  busy e rep =
      does l M m f (on_host t body w) w (Answer.Refused Fault.Busy)
      (ap (λ b. pick (not b) (refused w Fault.Busy) (pick (not t) (refused w Fault.BadOperand) (body w))) e ∙ pick_true _ _) rep

  idle : is_nil w.frames ≡ true → on_host t body w ≡ pick (not t) (refused w Fault.BadOperand) (body w)
  unfolding on_host
  idle e = ap (λ b. pick (not b) (refused w Fault.Busy) (pick (not t) (refused w Fault.BadOperand) (body w))) e ∙ pick-false _ _

  pub host-bad : is_nil w.frames ≡ true → t ≡ false → Rep l w M m f → Does l (on_host t body w) M m f (Answer.Refused Fault.BadOperand)
  host-bad e k rep =
      does l M m f (on_host t body w) w (Answer.Refused Fault.BadOperand) (idle e ∙ ap (λ b. pick (not b) (refused w Fault.BadOperand) (body w)) k ∙ pick_true _ _) rep

  pub host-past : (a : Answer) → is_nil w.frames ≡ true → t ≡ true → Does l (body w) M m f a → Does l (on_host t body w) M m f a
  host-past a e k d = subst (λ z. Does l z M m f a) (sym (idle e ∙ ap (λ b. pick (not b) (refused w Fault.BadOperand) (body w)) k ∙ pick-false _ _)) d

  pub frameless : is_nil w.frames ≡ true → Rep l w M m f → Does l (on_frame t body w) M m f (Answer.Refused Fault.NoFrame)
  unfolding on_frame
  frameless e rep =
      does l M m f (on_frame t body w) w (Answer.Refused Fault.NoFrame)
      (ap (λ b. pick b (refused w Fault.NoFrame) (pick (not t) (refused w Fault.BadOperand) (body w))) e ∙ pick_true _ _) rep

  framed : is_nil w.frames ≡ false → on_frame t body w ≡ pick (not t) (refused w Fault.BadOperand) (body w)
  unfolding on_frame
  framed e = ap (λ b. pick b (refused w Fault.NoFrame) (pick (not t) (refused w Fault.BadOperand) (body w))) e ∙ pick-false _ _

  pub frame-bad : is_nil w.frames ≡ false → t ≡ false → Rep l w M m f → Does l (on_frame t body w) M m f (Answer.Refused Fault.BadOperand)
  frame-bad e k rep =
      does l M m f (on_frame t body w) w (Answer.Refused Fault.BadOperand) (framed e ∙ ap (λ b. pick (not b) (refused w Fault.BadOperand) (body w)) k ∙ pick_true _ _) rep

  pub frame_past : (a : Answer) → is_nil w.frames ≡ false → t ≡ true → Does l (body w) M m f a → Does l (on_frame t body w) M m f a
  frame_past a e k d = subst (λ z. Does l z M m f a) (sym (framed e ∙ ap (λ b. pick (not b) (refused w Fault.BadOperand) (body w)) k ∙ pick-false _ _)) d
