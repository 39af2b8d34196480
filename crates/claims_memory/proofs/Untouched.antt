-- A yield, an await or a return, in words of the stack slice. Assumes nothing.
use Prim.Native.Nat.{ℕ}
use mathlib.Core.Path.{◌≡◌, refl, sym, ap, ◌∙◌}
use mathlib.Core.Bool.{Bool, true, false, ◌||◌, false≢true}
use mathlib.Core.List.{List, [], ◌∷◌}
use mathlib.Core.Option.{Option, none, some}
use lib.ListN.{length, length-set}
use Rattle.heap.specs.declared.object.CoroState.{CoroState}
use Rattle.model.specs.declared.machine.Driver.{Driver}
use Rattle.model.specs.declared.machine.Frame.{Frame}
use Rattle.claims_model.specs.Engine.{Seen, seen_running, seen_suspended, seen_returned, seen_in, state_is}
use Rattle.claims_model.specs.Held.{into}
use Rattle.claims_model.specs.Delivery as Delivery
use Rattle.claims_model.specs.Delivery.{Event, StackFrames, put, delivered_to}
use Rattle.claims_model.specs.Demand3.{Enters, Stops}
use Rattle.memory_step.specs.Step as Outer
use Rattle.memory_step.specs.Step.{MemoryState, is_sound, step_words, set_up_ok, set_up_words, MemoryCall, SetUp, Do, memory_step}
use Rattle.memory_step.proofs.Kept.{words-kept, refused-words, refused-set-up}
use Rattle.memory_step.proofs.Sentences.{clear}
use Rattle.claims_memory.specs.Engine.{memory_op, memory_engine}
use Rattle.claims_memory.specs.Claim.{UntouchedStack}
use Rattle.claims_memory.proofs.Stack.{height, sounds}

-- ---- a delivery keeps the height

into-long : (fs : List Frame) (r x : ℕ) (xs : List ℕ) → length (into fs r x xs) ≡ length xs
into-long [] r x xs = refl
into-long (f ∷ fs) r x xs = length-set xs _ x

put-long : (r x : ℕ) (m : StackFrames) → length (put r x m).stack ≡ length m.stack
put-long r x m = into-long m.frames r x m.stack

deliver-long : (d : Driver) (e : Event) (m : StackFrames) → length (delivered_to d e m).stack ≡ length m.stack
deliver-long (Driver.Resume r) (Event.YieldOf x) m = put-long r x m
deliver-long (Driver.Resume r) (Event.AwaitOf x) m = put-long r x m
deliver-long (Driver.Resume r) Event.Ignores m = refl
deliver-long (Driver.Resume r) (Event.ReturnOf x) m = put-long r x m
deliver-long (Driver.Iter has val iter) (Event.YieldOf x) m = put-long has 1 (put val x m) ∙ put-long val x m
deliver-long (Driver.Iter has val iter) (Event.AwaitOf x) m = refl
deliver-long (Driver.Iter has val iter) Event.Ignores m = refl
deliver-long (Driver.Iter has val iter) (Event.ReturnOf x) m = put-long has 0 m
deliver-long Driver.Host e m = refl
deliver-long Driver.Finalize e m = refl

-- ---- who leaves leaves sound words

-- no state runs and has left
apart : {A : Type 0} (s : CoroState) → seen_running s ≡ true → (seen_suspended s || seen_returned s) ≡ true → A
apart CoroState.Created p q = absurd (false≢true p)
apart CoroState.Running p q = absurd (false≢true q)
apart CoroState.Yielded p q = absurd (false≢true p)
apart CoroState.Awaiting p q = absurd (false≢true p)
apart CoroState.Returned p q = absurd (false≢true p)
apart CoroState.Failed p q = absurd (false≢true p)

apart_in : {A : Type 0} (x : Option Seen) → seen_in (λ y. seen_running y.state) x ≡ true → seen_in (λ y. seen_suspended y.state || seen_returned y.state) x ≡ true → A
apart_in none p q = absurd (false≢true p)
apart_in (some x) p q = apart x.state p q

-- so a call that changes nothing lets nobody leave
unmoved : {A : Type 0} (c : ℕ) (t : MemoryState) (z : MemoryCall) → (memory_step t z).state ≡ t → Stops memory_engine c t z → A
unmoved c t z e h = apart_in ((memory_engine.view t).coro c) h.before (ap (λ (x : MemoryState). state_is (memory_engine.view x) (λ y. seen_suspended y || seen_returned y) c) (sym e) ∙ h.after)

leaves-sound : (c : ℕ) (t : MemoryState) (z : MemoryCall) → Stops memory_engine c t z → is_sound (memory_step t z).state ≡ true
leaves-sound c t (SetUp given) h = go (set_up_ok given t.words) refl
  where
    go : (b : Bool) → set_up_ok given t.words ≡ b → is_sound (set_up_words t given).state ≡ true
    go true e = words-kept.begun t given e
    go false e = unmoved c t (SetUp given) (ap (λ (x : Outer.Left). x.state) (refused-set-up t given e)) h
leaves-sound c t (Do o) h = go (is_sound t) refl
  where
    go : (b : Bool) → is_sound t ≡ b → is_sound (step_words t o.op).state ≡ true
    go true e = words-kept.kept t o e
    go false e = unmoved c t (Do o) (ap (λ (x : Outer.Left). x.state) (refused-words t o e)) h

pub untouched : (c : ℕ) (s : MemoryState) (y : MemoryCall) (t : MemoryState) (z : MemoryCall) → Enters memory_engine c s y → Stops memory_engine c t z
    → Delivery.LeftBelow (memory_engine.view s) (memory_op y) c (memory_engine.view t) (memory_op z) (memory_engine.view (memory_step t z).state) → UntouchedStack s y c t z (memory_step t z).state
untouched c s y t z h g l =
    let u = (memory_step t z).state in
    let ok = leaves-sound c t z g in
    let below = ap (λ (m : StackFrames). m.stack) l.under in
    record {
      by = l.by;
      height = height u ok ∙ ap length below ∙ deliver-long l.by.driver _ _ ∙ sym (height s (sounds c s y l.by h).found);
      below = below;
      beyond = (clear u ok).stack;
    }
