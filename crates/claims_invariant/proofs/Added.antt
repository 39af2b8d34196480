-- The added calls keep a sound world sound, and none answers 11.
use mathlib.Core.Path.{◌≡◌, refl, sym, ap, ◌∙◌}
use mathlib.Core.Bool.{Bool, true, false, not, ◌&&◌, ◌||◌}
use Prim.Native.Nat.{ℕ, ◌^◌}
use lib.ListN.{length}
use lib.Dec.{eqb, ltb}
use Rattle.heap.specs.Word.{nil}
use Rattle.std.specs.Prelude.{Option, Result, Some, None, Ok, Err}
use Rattle.model.specs.declared.coro.Entered.{Entered}
use Rattle.heap.specs.declared.fault.Fault.{Fault}
use Rattle.model.specs.Lists.{is_nil}
use Rattle.model.specs.State.{is_suspended}
use Rattle.model.specs.Program.{is_function}
use Rattle.model.specs.Object.{Object, Coroutine, Absent, Is}
use Rattle.model.specs.World.{World, and_then}
use Rattle.model.specs.Frames.{is_entry, is_coro, store_pc}
use Rattle.model.specs.Heap.{coro}
use Rattle.model.specs.Cleanup.{spawn_task}
use Rattle.model.specs.Added.{answer_made, pushed_or, host_call, host_arrive, host_entry, cont_allowed, function_call, put_word, iterator_over, make_iterator, take_outcome, hand_over_as, hand_over, refuel, granted, grant_too_large, grant, stop_run}
use Rattle.model.specs.Sound.{cont_lies, is_none}
use Rattle.model.specs.declared.machine.Cont.{Cont}
use Rattle.model.specs.declared.machine.Driver.{Driver}
use Rattle.model.specs.declared.machine.Fuel.{Fuel}
use Rattle.claims_sound.proofs.Tests.{no_false, and_left, and_right, or-second, picked, or_right, negate}
use Rattle.claims_sound.proofs.Sound.{Sound}
use Rattle.claims_sound.proofs.Tower.{put-sound, store-sound}
use Rattle.claims_sound.proofs.Coros.{handed-sound, finalizing-sound, outcome-sound, fuel-move, bank_ok}
use Rattle.claims_sound.proofs.Make.{alloc-plain}
use Rattle.claims_sound.proofs.Enter.{enter-good, send-sound}
use Rattle.claims_sound.proofs.End.{abort-sound}
use Rattle.claims_sound.proofs.Charge.{task-good, calm-store}
use Rattle.claims_invariant.proofs.Unwind.{Fine, push-good}
use Rattle.claims_sound.proofs.Good.{Good, good, then-good, made_fine, entered_fine, fine-not_a, calm-top, top-under}

pushed-or : {ex : Bool} (w u : World) (m : Result ℕ Fault) → Sound ex w → Sound ex u → made_fine m ≡ true → Good ex Fine (pushed_or w u m)
pushed-or w u (Ok base) h k e = good k refl
pushed-or w u (Err f) h k e = good h e

answer-made : {ex : Bool} (u : World) (m : Result ℕ Fault) → Sound ex u → made_fine m ≡ true → Good ex Fine (answer_made u m)
answer-made u (Ok v) h e = good h refl
answer-made u (Err f) h e = good h e

pub host-call-good : {ex : Bool} (f : ℕ) (w : World) → is_nil w.frames ≡ true → is_function w.setup f ≡ true → Sound ex w → Good ex Fine (host_call f w)
unfolding host_call
host-call-good f w empty is h = then-good (pushed_or w) (push-good f nil Cont.Entry w h is refl empty refl refl) (λ u m k e. pushed-or w u m h k e)

host-arrive : {ex : Bool} (v : ℕ) (u : World) (e : Result Entered Fault) → Sound ex u → entered_fine e ≡ true → Good ex Fine (host_arrive v u e)
host-arrive v u (Ok Entered.Fresh) h f = good h refl
host-arrive v u (Ok (Entered.Suspended d)) h f = good (send-sound d v u h) refl
host-arrive v u (Err x) h f = good h f

pub host-entry-good : {ex : Bool} (c v : ℕ) (w : World) → Sound ex w → Good ex Fine (host_entry c v w)
unfolding host_entry
host-entry-good c v w h = then-good (host_arrive v) (enter-good c Driver.Host w h refl) (λ u e k f. host-arrive v u e k f)

-- a continuation that is allowed is neither Coro nor Entry, and its register lies in the top frame
cont-coro : (w : World) (c : Cont) → cont_allowed w c ≡ true → is_coro c ≡ false
cont-coro w Cont.Entry e = refl
cont-coro w (Cont.Write r) e = refl
cont-coro w (Cont.Dyn r) e = refl
cont-coro w (Cont.Value r) e = refl
cont-coro w Cont.Discard e = refl
cont-coro w Cont.Coro e = no_false e

cont-entry : (w : World) (c : Cont) (b : Bool) → cont_allowed w c ≡ true → (not (is_entry c) || b) ≡ true
cont-entry w Cont.Entry b e = no_false e
cont-entry w (Cont.Write r) b e = refl
cont-entry w (Cont.Dyn r) b e = refl
cont-entry w (Cont.Value r) b e = refl
cont-entry w Cont.Discard b e = refl
cont-entry w Cont.Coro b e = no_false e

cont-lies : (pc : ℕ) (w : World) (c : Cont) → is_nil w.frames ≡ false → cont_allowed w c ≡ true → cont_lies c (length w.stack) (store_pc pc w).frames ≡ true
cont-lies pc w Cont.Entry s e = refl
cont-lies pc w (Cont.Write r) s e = top-under (store_pc pc w) r (calm-top r (calm-store pc w) (record { some = s; inside = e }))
cont-lies pc w (Cont.Dyn r) s e = top-under (store_pc pc w) r (calm-top r (calm-store pc w) (record { some = s; inside = e }))
cont-lies pc w (Cont.Value r) s e = top-under (store_pc pc w) r (calm-top r (calm-store pc w) (record { some = s; inside = e }))
cont-lies pc w Cont.Discard s e = refl
cont-lies pc w Cont.Coro s e = refl

pub function-call-good : {ex : Bool} (pc f : ℕ) (cont : Cont) (w : World) → ltb pc (2 ^ 32) ≡ true → is_nil w.frames ≡ false → (is_function w.setup f && cont_allowed w cont) ≡ true → Sound ex w → Good ex Fine (function_call pc f cont w)
unfolding function_call
function-call-good pc f cont w p some both h =
    let c : cont_allowed w cont ≡ true = and_right (is_function w.setup f) (cont_allowed w cont) both in
    then-good (pushed_or w)
    (push-good f nil cont (store_pc pc w) (store-sound pc w p h) (and_left (is_function w.setup f) (cont_allowed w cont) both) (cont-coro w cont c) (cont-entry w cont (is_nil (store_pc pc w).frames) c)
    (cont-lies pc w cont some c) (or_right (is_entry cont || is_coro cont) _ (negate ((calm-store pc w).some ∙ some))))
    (λ u m k e. pushed-or w u m h k e)

pub put-word-good : {ex : Bool} (r v : ℕ) (w : World) → Sound ex w → Good ex Fine (put_word r v w)
unfolding put_word
put-word-good r v w h = good (put-sound r v w h) refl

pub make-iterator-good : {ex : Bool} (v : ℕ) (w : World) → Sound ex w → Good ex Fine (make_iterator v w)
unfolding make_iterator
make-iterator-good {ex} v w h = go (coro w v)
  where
    go : (c : Coroutine) → Good ex Fine (iterator_over c v w)
    go Absent = good h (fine-not_a w v)
    go (Is k r) =
        then-good answer_made (alloc-plain w.setup.costs.iter (Object.Iter v false None) w h (record { sizes = refl; saved = refl; rowless = refl; range = refl; wide = λ _. refl }) refl refl)
        (λ u m s p. answer-made u m s p.fine)

pub take-outcome-good : {ex : Bool} (w : World) → Sound ex w → Good ex Fine (take_outcome w)
unfolding take_outcome
take-outcome-good w h = good (outcome-sound None w refl h) refl

pub hand-over-good : {ex : Bool} (v : ℕ) (w : World) → Sound ex w → Good ex Fine (hand_over v w)
unfolding hand_over
hand-over-good {ex} v w h = go (coro w v) refl
  where
    go : (c : Coroutine) → coro w v ≡ c → Good ex Fine (hand_over_as c v w)
    go Absent e = good h (fine-not_a w v)
    go (Is k r) e =
        picked (Good ex Fine) (not (is_suspended k.state) || r.finalized) (λ _. good h refl)
        (λ t. good (finalizing-sound w.finalizing _ (handed-sound w v k r h e (or-second (not (is_suspended k.state)) r.finalized t))) refl)

refuel-ok : (o : Option ℕ) (n : ℕ) (f : Fuel) → f.bank ≡ o → bank_ok f ≡ true → bank_ok (refuel o n f) ≡ true
refuel-ok None n f e h = ap (λ b. is_none b || eqb n 0) e
refuel-ok (Some b) n f e h = ap (λ o. is_none o || eqb f.fuel 0) (sym e) ∙ h

pub grant-good : {ex : Bool} (n : ℕ) (w : World) → Sound ex w → Good ex Fine (grant n w)
unfolding grant
grant-good {ex} n w h =
    picked (Good ex Fine) (grant_too_large n w) (λ _. good h refl)
    (λ _. good (fuel-move w (refuel w.fuel.bank (granted n w) w.fuel) w.finalizing h (refuel-ok w.fuel.bank (granted n w) w.fuel refl h.banked)) refl)

pub stop-run-good : {ex : Bool} (w : World) → Sound ex w → Good ex Fine (stop_run w)
unfolding stop_run
stop-run-good w h = good (abort-sound w h) refl

pub spawn-task-good : {ex : Bool} (v : ℕ) (w : World) → Sound ex w → Good ex Fine (and_then (spawn_task v w) answer_made)
spawn-task-good v w h = then-good answer_made (task-good v w h) (λ u m k e. answer-made u m k e)
