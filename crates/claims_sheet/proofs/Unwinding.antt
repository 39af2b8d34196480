-- The sheet's lines for `unwind`.
use Prim.Native.Nat.{ℕ}
use mathlib.Core.Path.{◌≡◌, refl, sym, ap, ◌∙◌}
use mathlib.Core.Bool.{Bool, true, false, not, ◌&&◌, ◌||◌}
use mathlib.Core.List.{List, [], ◌∷◌}
use lib.Dec.{eqb, leb}
use Rattle.lists.specs.Pick.{pick, pick_true, pick-false}
use Rattle.heap.specs.Fault.{number_of, word_of}
use Rattle.heap.specs.declared.fault.Fault.{Fault}
use Rattle.heap.specs.declared.object.CoroState.{CoroState}
use Rattle.model.specs.Lists.{is_nil}
use Rattle.model.specs.Program as Program
use Rattle.model.specs.Object.{Object, as_coro}
use Rattle.model.specs.World.{World, After, after, and_then, with_chain}
use Rattle.model.specs.Frames as Frames
use Rattle.model.specs.Frames.{put_reg}
use Rattle.model.specs.Heap.{coro, alloc}
use Rattle.model.specs.Coro as Coros
use Rattle.model.specs.Cleanup.{charge}
use Rattle.model.specs.Machine as Machine
use Rattle.model.specs.declared.program.Handler.{Handler}
use Rattle.std.specs.Prelude.{Option, Some, None}
use Rattle.model.specs.declared.machine.Active.{Active}
use Rattle.model.specs.declared.machine.Charge.{Charge}
use Rattle.model.specs.declared.machine.Cont.{Cont}
use Rattle.model.specs.declared.machine.Driver.{Driver}
use Rattle.model.specs.declared.machine.Frame.{Frame}
use Rattle.model.specs.declared.machine.Stop.{Stop}
use Rattle.model.specs.declared.call.Answer.{Answer}
use Rattle.claims_sheet.specs.Lines.{Line, leads_from, leads, fault, line}
use Rattle.claims_sheet.specs.Words.{found, rest_of, lacks_memory, no_slot}
use Rattle.claims_sheet.specs.Moves.{pc_stored, put}
use Rattle.claims_sheet.specs.Charging.{used_up, bank_back}
use Rattle.claims_sheet.specs.Makings.{paid, new_word}
use Rattle.claims_sheet.specs.Suspending.{asks}
use Rattle.claims_sheet.specs.Endings.{popped, innermost_finished, returned}
use Rattle.claims_sheet.specs.Unwinding as Table
use Rattle.claims_sheet.specs.Unwinding.{covering, takers, taker, is_entry, is_body, own_signal, driven, failed_to, failed, left, given_pc_stored, error_stored}
use Rattle.claims_sheet.proofs.Moved.{stored, put_is, coro-is, finished-is, then-two, then_one}
use Rattle.claims_sheet.proofs.Makings.{paid-is}
use Rattle.claims_sheet.proofs.Suspending.{cleaning-is}
use Rattle.claims_sheet.proofs.Finishing.{returned-is}

-- ---- the handler

caught_of : List Handler → Option Handler
caught_of [] = None
caught_of (h ∷ hs) = Some h

caught-by : (b : Bool) (h : Handler) (hs l : List Handler) → pick b (Some h) (caught_of l) ≡ caught_of (pick b (h ∷ hs) l)
unfolding pick caught_of
caught-by true h hs l = refl
caught-by false h hs l = refl

caught-is : (pc : ℕ) (hs : List Handler) → Program.first_of pc hs ≡ caught_of (covering pc hs)
unfolding caught_of
caught-is pc [] = refl
caught-is pc (h ∷ hs) = ap (λ c. pick (Program.covers pc h) (Some h) c) (caught-is pc hs) ∙ caught-by (Program.covers pc h) h hs (covering pc hs)

takes : (h : Handler) (value : ℕ) (w : World) → and_then (charge None w) (Machine.caught h value)
    ≡ pick (used_up w) (after (bank_back w) (Answer.Refused Fault.OutOfFuel)) (after (put h.catch value (pc_stored h.target (paid w))) Answer.Caught)
takes h value w =
    ap (λ (x : After Charge). and_then x (Machine.caught h value)) (paid-is w)
    ∙ (then_one (Machine.caught h value) (used_up w) (after (bank_back w) Charge.Spent) (after (paid w) (Charge.Done 0))
    ∙ ap (λ x. pick (used_up w) (after (bank_back w) (Answer.Refused Fault.OutOfFuel)) (after x Answer.Caught)) (ap (λ x. put_reg h.catch value x) (stored h.target (paid w)) ∙ put_is h.catch value (pc_stored h.target (paid w))))

-- ---- a word that leaves a coroutine's body

signal-as : (o : Object) (value : ℕ) → Coros.closed_by (as_coro o) value ≡ (rest_of o).closing && eqb value (rest_of o).signal
signal-as Object.Empty value = refl
signal-as (Object.Func f) value = refl
signal-as (Object.Int n) value = refl
signal-as (Object.Iter s d k) value = refl
signal-as (Object.Error e f p v) value = refl
signal-as (Object.Coro k r) value = refl

signal-is : (w : World) (v value : ℕ) → Coros.closed_by (coro w v) value ≡ (rest_of (found w v)).closing && eqb value (rest_of (found w v)).signal
signal-is w v value = ap (λ x. Coros.closed_by x value) (coro-is w v) ∙ signal-as (found w v) value

fails-to : (d : Driver) (s : Stop) (y : World) (next : World → After Answer) → and_then (Coros.fail_to d s y) (Machine.stop_or next) ≡ pick (not (asks d)) (after (failed_to d s y) Answer.Stopped) (next y)
unfolding pick
fails-to (Driver.Resume r) s y next = refl
fails-to (Driver.Iter has val it) s y next = refl
fails-to Driver.Host s y next = refl
fails-to Driver.Finalize s y next = ap (λ x. after x Answer.Stopped) (cleaning-is false y)

escapes-by : (b : Bool) (x : World) (y : After Bool) (next : World → After Answer) → and_then (pick b (after x true) y) (Machine.stop_or next) ≡ pick b (after x Answer.Stopped) (and_then y (Machine.stop_or next))
unfolding pick
escapes-by true x y next = refl
escapes-by false x y next = refl

module _ (x : Frame) (xs : List Frame) (value f pc : ℕ) (d : Line Answer) (ih : (u : World) → Machine.search xs value f pc u ≡ leads_from (Table.search xs value f pc u) d) where
  abbrev next : World → After Answer
  next = Machine.search xs value f pc

  abbrev rest : Cont → List Active → World → World → After Answer
  rest c cs w p =
      pick (is_entry c) (after p (Answer.Refused (Fault.Throw value)))
      (pick (is_body c && own_signal cs value w) (after (returned cs 0 p) Answer.Stopped)
      (pick (is_body c && driven cs) (after (failed cs value f pc p) Answer.Stopped)
      (leads_from (Table.search xs value f pc (pick (is_body c) (innermost_finished cs CoroState.Failed value p) p)) d)))

  body-escapes : (a : Active) (chain : List Active) (w : World) →
      and_then (Coros.escaped_on (a ∷ chain) value f pc (popped x xs (with_chain (a ∷ chain) w))) (Machine.stop_or next)
      ≡ pick (own_signal (a ∷ chain) value (with_chain (a ∷ chain) w)) (after (returned (a ∷ chain) 0 (popped x xs (with_chain (a ∷ chain) w))) Answer.Stopped)
      (pick (driven (a ∷ chain)) (after (failed (a ∷ chain) value f pc (popped x xs (with_chain (a ∷ chain) w))) Answer.Stopped)
      (leads_from (Table.search xs value f pc (innermost_finished (a ∷ chain) CoroState.Failed value (popped x xs (with_chain (a ∷ chain) w)))) d))
  body-escapes a chain w =
      escapes-by (Coros.closed_by (coro p a.coro) value) _ _ next
      ∙ (λ i. pick (signal-is p a.coro value i) (after (returned-is (a ∷ chain) 0 p i) Answer.Stopped) (fails i))
    where
      p : World
      p = popped x xs (with_chain (a ∷ chain) w)

      y : World
      y = innermost_finished (a ∷ chain) CoroState.Failed value p

      fails : and_then (Coros.fail_to a.driver (Stop.Failed value f pc) (Coros.finish_coroutine a.coro CoroState.Failed value (with_chain chain p))) (Machine.stop_or next)
          ≡ pick (driven (a ∷ chain)) (after (failed (a ∷ chain) value f pc p) Answer.Stopped) (leads_from (Table.search xs value f pc y) d)
      fails =
          ap (λ z. and_then (Coros.fail_to a.driver (Stop.Failed value f pc) z) (Machine.stop_or next)) (finished-is a.coro CoroState.Failed value (with_chain chain p))
          ∙ (fails-to a.driver (Stop.Failed value f pc) y next ∙ ap (λ t. pick (driven (a ∷ chain)) (after (failed (a ∷ chain) value f pc p) Answer.Stopped) t) (ih y))

  escape-is : (c : Cont) (cs : List Active) (w : World) → Machine.escape c value f pc next (popped x xs (with_chain cs w)) ≡ rest c cs (with_chain cs w) (popped x xs (with_chain cs w))
  unfolding pick Coros.coro_escaped
  escape-is Cont.Entry cs w = refl
  escape-is (Cont.Write r) cs w = ih (popped x xs (with_chain cs w))
  escape-is (Cont.Dyn r) cs w = ih (popped x xs (with_chain cs w))
  escape-is (Cont.Value r) cs w = ih (popped x xs (with_chain cs w))
  escape-is Cont.Discard cs w = ih (popped x xs (with_chain cs w))
  escape-is Cont.Coro [] w = ih (popped x xs (with_chain [] w))
  escape-is Cont.Coro (a ∷ chain) w = body-escapes a chain w

  frame-by : (l : List Handler) (w : World) →
      Machine.search_as (caught_of l) x xs value f pc next w
      ≡ pick (not (is_nil l) && used_up w) (after (bank_back w) (Answer.Refused Fault.OutOfFuel))
      (pick (not (is_nil l)) (after (put (taker l).catch value (pc_stored (taker l).target (paid w))) Answer.Caught) (rest x.cont w.chain w (popped x xs w)))
  unfolding caught_of
  frame-by [] w = escape-is x.cont w.chain w ∙ (sym (pick-false _ (rest x.cont w.chain w (popped x xs w))) ∙ sym (pick-false _ _))
  frame-by (h ∷ hs) w =
      takes h value w
      ∙ ap (λ t. pick (used_up w) (after (bank_back w) (Answer.Refused Fault.OutOfFuel)) t) (sym (pick_true (after (put h.catch value (pc_stored h.target (paid w))) Answer.Caught) (rest x.cont w.chain w (popped x xs w))))

search_is : (fs : List Frame) (value f pc : ℕ) (d : Line Answer) (w : World) → Machine.search fs value f pc w ≡ leads_from (Table.search fs value f pc w) d
search_is [] value f pc d w = sym (pick_true (after w (Answer.Refused (Fault.Throw value))) (after d.left d.answer))
search_is (x ∷ xs) value f pc d w =
    ap (λ c. Machine.search_as c x xs value f pc (Machine.search xs value f pc) w) (caught-is x.pc (Program.func w.setup x.func).handlers)
    ∙ frame-by x xs value f pc d (search_is xs value f pc d) (takers x w) w

-- ---- what is raised

func-is : (fs : List Frame) → Frames.top_func fs ≡ Table.top_func fs
func-is [] = refl
func-is (f ∷ fs) = refl

pc-is : (fs : List Frame) → Frames.top_pc fs ≡ Table.top_pc fs
pc-is [] = refl
pc-is (f ∷ fs) = refl

raised_is : (value : ℕ) (d : Line Answer) (w : World) → Machine.search_frames value w ≡ leads_from (Table.search_from_top value w) d
raised_is value d w =
    (λ i. Machine.search w.frames value (func-is w.frames i) (pc-is w.frames i) w) ∙ search_is w.frames value (Table.top_func w.frames) (Table.top_pc w.frames) d w

error-is : (n : ℕ) (d : Line Answer) (z : World) →
    and_then (alloc z.setup.costs.error (Object.Error n (Frames.top_func z.frames) (Frames.top_pc z.frames) 0) z) Machine.search_made
    ≡ pick (lacks_memory z z.setup.costs.error) (after z (Answer.Refused Fault.OutOfMemory)) (pick (no_slot z) (after z (Answer.Refused Fault.Full)) (leads_from (Table.search_from_top (new_word z) (error_stored n z)) d))
unfolding alloc
error-is n d z =
    (λ i. and_then (alloc z.setup.costs.error (Object.Error n (func-is z.frames i) (pc-is z.frames i) 0) z) Machine.search_made)
    ∙ (then-two Machine.search_made (lacks_memory z z.setup.costs.error) (no_slot z) _ _ _
    ∙ ap (λ t. pick (lacks_memory z z.setup.costs.error) (after z (Answer.Refused Fault.OutOfMemory)) (pick (no_slot z) (after z (Answer.Refused Fault.Full)) t)) (raised_is (new_word z) d (error_stored n z)))

abbrev at : Fault → World → World → After Answer
at e z w = pick (Machine.raisable e) (Machine.unwind_fault e z) (after w (Answer.Refused Fault.Unsound))

abbrev lines_at : Fault → World → World → After Answer
lines_at e z w =
    let n = number_of e in
    pick (eqb n 0 || (leb 11 n && not (eqb n 17))) (after w (Answer.Refused Fault.Unsound))
    (pick (eqb n 9 || eqb n 10) (after z (Answer.Refused e))
    (pick (leb n 8 && lacks_memory z z.setup.costs.error) (after z (Answer.Refused Fault.OutOfMemory))
    (pick (leb n 8 && no_slot z) (after z (Answer.Refused Fault.Full))
    (leads_from (pick (leb n 8) (Table.search_from_top (new_word z) (error_stored n z)) (Table.search_from_top (word_of e) z)) (line n true (Answer.Refused e) z)))))

unwinds : (e : Fault) (z w : World) → at e z w ≡ lines_at e z w
unfolding pick
unwinds Fault.None z w = refl
unwinds Fault.NullReference z w = error-is 1 (line 1 true (Answer.Refused (fault 1)) z) z
unwinds Fault.TypeError z w = error-is 2 (line 2 true (Answer.Refused (fault 2)) z) z
unwinds Fault.InvalidCoroState z w = error-is 3 (line 3 true (Answer.Refused (fault 3)) z) z
unwinds Fault.StackOverflow z w = error-is 4 (line 4 true (Answer.Refused (fault 4)) z) z
unwinds Fault.CannotSuspend z w = error-is 5 (line 5 true (Answer.Refused (fault 5)) z) z
unwinds Fault.CloseIgnored z w = error-is 6 (line 6 true (Answer.Refused (fault 6)) z) z
unwinds Fault.ArithOverflow z w = error-is 7 (line 7 true (Answer.Refused (fault 7)) z) z
unwinds Fault.NoScheduler z w = error-is 8 (line 8 true (Answer.Refused (fault 8)) z) z
unwinds Fault.OutOfMemory z w = refl
unwinds Fault.OutOfFuel z w = refl
unwinds Fault.Unsound z w = refl
unwinds Fault.NoFrame z w = refl
unwinds Fault.BadOperand z w = refl
unwinds Fault.Full z w = refl
unwinds Fault.Busy z w = refl
unwinds Fault.GrantTooLarge z w = refl
unwinds (Fault.Throw v) z w = raised_is v (line 17 true (Answer.Refused (Fault.Throw v)) z) z

given_is : (pc : Option ℕ) (w : World) → Machine.store_some pc w ≡ given_pc_stored pc w
given_is None w = refl
given_is (Some pc) w = stored pc w

pub unwind-is : (e : Fault) (pc : Option ℕ) (w : World) → Machine.unwind e pc w ≡ leads (Table.unwind e pc w)
unfolding Machine.unwind
unwind-is e pc w = ap (λ z. at e z w) (given_is pc w) ∙ unwinds e (given_pc_stored pc w) w
