-- What a function of the model leaves is sound, and what it answers is as stated; no answer is 11.
use mathlib.Core.Path.{◌≡◌, refl, ap, ◌∙◌}
use mathlib.Core.Bool.{Bool, true, false, not}
use mathlib.Core.List.{List, [], ◌∷◌}
use Prim.Native.Nat.{ℕ, ◌+◌}
use lib.ListN.{length}
use lib.Dec.{eqb, ltb}
use Rattle.heap.specs.Fault as Faults
use Rattle.heap.specs.Table as Table
use Rattle.heap.specs.Word.{class_of}
use Rattle.heap.specs.declared.fault.Fault.{Fault}
use Rattle.heap.specs.declared.value.Class.{Class}
use Rattle.std.specs.Prelude.{Option, Result, Some, None, Ok, Err}
use Rattle.model.specs.declared.machine.Driver.{Driver}
use Rattle.model.specs.declared.coro.Entered.{Entered}
use Rattle.model.specs.declared.coro.Event.{Event}
use Rattle.model.specs.Lists.{is_nil}
use Rattle.model.specs.World.{World, After, after, and_then}
use Rattle.model.specs.Frames.{top_base}
use Rattle.model.specs.Heap.{place, not_a}
use Rattle.model.specs.Gate.{in_frame}
use Rattle.model.specs.Answer.{number_of}
use Rattle.model.specs.Sound.{lies_under}
use Rattle.model.specs.declared.machine.Frame.{Frame}
use Rattle.model.specs.declared.exec.Step.{Step}
use Rattle.model.specs.declared.call.Answer.{Answer}
use Rattle.claims_sound.proofs.Tests.{no_true}
use Rattle.claims_sound.proofs.Sound.{Sound}

pub record Good (ex : Bool) {A : Type 0} (P : World → A → Type 0) (o : After A) : Type 0 where
  pub sound : Sound ex o.world
  pub fact : P o.world o.answer

pub good : {ex : Bool} {A : Type 0} {P : World → A → Type 0} {w : World} {a : A} → Sound ex w → P w a → Good ex P (after w a)
good h p = record { sound = h; fact = p }

pub then-good : {ex : Bool} {A B : Type 0} {P : World → A → Type 0} {Q : World → B → Type 0} {o : After A} (g : World → A → After B) → Good ex P o → ((w : World) (a : A) → Sound ex w → P w a → Good ex Q (g w a)) → Good ex Q (and_then o g)
then-good {o = o} g h f = f o.world o.answer h.sound h.fact

-- ---- answers other than 11

abbrev pub fine : Fault → Bool
fine f = not (eqb (Faults.number_of f) 11)

abbrev pub made_fine : Result ℕ Fault → Bool
made_fine (Ok v) = true
made_fine (Err f) = fine f

abbrev pub passed_fine : Result Unit Fault → Bool
passed_fine (Ok u) = true
passed_fine (Err f) = fine f

abbrev pub entered_fine : Result Entered Fault → Bool
entered_fine (Ok Entered.Fresh) = true
entered_fine (Ok (Entered.Suspended d)) = true
entered_fine (Err f) = fine f

abbrev pub suspension_fine : Result (Driver × Event) Fault → Bool
suspension_fine (Ok (d, e)) = true
suspension_fine (Err f) = fine f

abbrev pub key_fine : Result (ℕ × ℕ) Fault → Bool
key_fine (Ok (k, n)) = true
key_fine (Err f) = fine f

abbrev pub step_fine : Step → Bool
step_fine Step.Next = true
step_fine Step.Frame = true
step_fine (Step.Fault f) = fine f
step_fine (Step.Unwind f) = fine f

abbrev pub answer_fine : Answer → Bool
answer_fine a = not (eqb (number_of a) 11)

pub fine-not_a : (w : World) (v : ℕ) → fine (not_a w v) ≡ true
fine-not_a w v = go (class_of v) (place w v)
  where
    go : (c : Class) (p : Option ℕ) → fine (Table.not_a c p) ≡ true
    go Class.Nil p = refl
    go (Class.Ref o) None = refl
    go (Class.Ref o) (Some i) = refl
    go (Class.Int z) p = refl
    go Class.Opaque p = refl

-- ---- what stays

-- the same set-up, stack and frames
pub record Still (w u : World) : Type 0 where
  pub setup : u.setup ≡ w.setup
  pub stack : u.stack ≡ w.stack
  pub frames : u.frames ≡ w.frames

-- the same set-up, and the top frame where it was
pub record Calm (w u : World) : Type 0 where
  pub setup : u.setup ≡ w.setup
  pub height : length u.stack ≡ length w.stack
  pub base : top_base u.frames ≡ top_base w.frames
  pub some : is_nil u.frames ≡ is_nil w.frames

pub still : (w : World) → Still w w
still w = record { setup = refl; stack = refl; frames = refl }

pub calm : (w : World) → Calm w w
calm w = record { setup = refl; height = refl; base = refl; some = refl }

pub still-calm : {w u : World} → Still w u → Calm w u
still-calm h = record { setup = h.setup; height = ap length h.stack; base = ap top_base h.frames; some = ap is_nil h.frames }

pub calm-then : {w u t : World} → Calm w u → Calm u t → Calm w t
calm-then h k = record { setup = k.setup ∙ h.setup; height = k.height ∙ h.height; base = k.base ∙ h.base; some = k.some ∙ h.some }

-- a register of the top frame, and that there is one
pub record InTop (w : World) (r : ℕ) : Type 0 where
  pub some : is_nil w.frames ≡ false
  pub inside : in_frame w r ≡ true

pub calm-top : {w u : World} (r : ℕ) → Calm w u → InTop w r → InTop u r
calm-top {w} {u} r h t =
    record {
      some = h.some ∙ t.some;
      inside = ap (λ n. ltb (n + r) (length u.stack)) h.base ∙ ap (λ n. ltb (top_base w.frames + r) n) h.height ∙ t.inside;
    }

-- it lies in the frame just below what comes next
pub top-under : (w : World) (r : ℕ) → InTop w r → lies_under r (length w.stack) w.frames ≡ true
top-under w r t = go w.frames t.some t.inside
  where
    go : (fs : List Frame) → is_nil fs ≡ false → ltb (top_base fs + r) (length w.stack) ≡ true → lies_under r (length w.stack) fs ≡ true
    go [] e h = no_true e
    go (f ∷ fs) e h = h
