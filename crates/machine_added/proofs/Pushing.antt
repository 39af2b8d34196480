-- Host call and function call: a frame pushed, or refused with nothing changed. Assumes nothing.
use mathlib.Core.Path.{◌≡◌, refl, sym, ap, ◌∙◌, subst}
use Prim.Native.Nat.{ℕ}
use Rattle.heap.specs.Word.{nil}
use Rattle.model.specs.World.{World, After, after, and_then}
use Rattle.model.specs.Frames.{put_reg, store_pc}
use Rattle.model.specs.Machine.{push_frame}
use Rattle.model.specs.Added.{host_call, function_call, put_word}
use Rattle.model.specs.Added as Added
use Rattle.std.specs.Prelude.{Result, Ok, Err}
use Rattle.heap.specs.declared.fault.Fault.{Fault}
use Rattle.model.specs.declared.call.Answer.{Answer}
use Rattle.model.specs.declared.machine.Cont.{Cont}
use Rattle.model.specs.declared.machine.Fuel.{Fuel}
use Rattle.claims_sound.proofs.Tests.{picked}
use Rattle.memory_world.specs.Memory.{Lent, Rep}
use Rattle.memory_world.specs.Contract.{Does}
use Rattle.memory_world.specs.declared.machine.Machine.{Machine}
use Rattle.memory_world.specs.declared.machine.Sizes.{Sizes}
use Rattle.machine_state.specs.Frame.{pushed_or, push_at}

-- what was pushed, as an answer
abbrev pushed_as : Result ℕ Fault → Answer
pushed_as (Ok base) = Answer.Accepted
pushed_as (Err f) = Answer.Refused f

in-any : (w : World) (a : Result ℕ Fault) → (Added.pushed_or w w a).answer ≡ pushed_as a
in-any w (Ok b) = refl
in-any w (Err f) = refl

abbrev told : After (Result ℕ Fault) → After Answer
told o = after o.world (pushed_as o.answer)

back : (w u : World) (a : Result ℕ Fault) → told (pushed_or w u a) ≡ Added.pushed_or w u a
back w u (Ok b) = refl
back w u (Err f) = refl

-- a refused frame leaves the world
pushes-back : (f closure : ℕ) (cont : Cont) (w : World) → push_frame f closure cont w ≡ and_then (push_frame f closure cont w) (pushed_or w)
unfolding push_frame
pushes-back f closure cont w = picked (λ (o : After (Result ℕ Fault)). o ≡ and_then o (pushed_or w)) _ (λ _. refl) (λ _. refl)

module _ (l : Sizes) (M : Lent) (m : Machine) (fuel : Fuel) (w : World) (a : Result ℕ Fault) (x : Answer) where
  answered : (o : After (Result ℕ Fault)) (p : After Answer) → told o ≡ p → ((v u : World) → x ≡ (Added.pushed_or v u a).answer) → Does l o M m fuel a → Does l p M m fuel x
  answered o p e q d = subst (λ (z : After Answer). Does l z M m fuel x) e (record { world = d.world; answer = q w w ∙ in-any w a ∙ ap pushed_as d.answer })

  pub host_called : (f : ℕ) → ((v u : World) → x ≡ (Added.pushed_or v u a).answer) → Does l (push_frame f nil Cont.Entry w) M m fuel a → Does l (host_call f w) M m fuel x
  unfolding host_call
  host_called f = answered (push_frame f nil Cont.Entry w) (host_call f w) (ap told (pushes-back f nil Cont.Entry w) ∙ back w (push_frame f nil Cont.Entry w).world (push_frame f nil Cont.Entry w).answer)

  pub function-called : (pc f : ℕ) (cont : Cont) → ((v u : World) → x ≡ (Added.pushed_or v u a).answer) → Does l (push_at pc f nil cont w) M m fuel a → Does l (function_call pc f cont w) M m fuel x
  unfolding function_call push_at
  function-called pc f cont = answered (push_at pc f nil cont w) (function_call pc f cont w) (back w (push_frame f nil cont (store_pc pc w)).world (push_frame f nil cont (store_pc pc w)).answer)

-- ---- put word

pub word-put : (l : Sizes) (M : Lent) (m : Machine) (fuel : Fuel) (w : World) (r v : ℕ) → Rep l (put_reg r v w) M m fuel → Does l (put_word r v w) M m fuel Answer.Accepted
unfolding put_word
word-put l M m fuel w r v rep = record { world = rep; answer = refl }
