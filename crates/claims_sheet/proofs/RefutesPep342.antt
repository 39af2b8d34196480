-- What each field of the PEP 342 records refuses: a machine that stops every call with 10 (or 9), or that is wrong in what it leaves, wherever the premises are
-- met; they are met at the places of specs/Premises.antt. `step` stays shut, and a record stands as a hypothesis, as in Refutes.
use Prim.Native.Nat.{ℕ, ◌+◌}
use native.Mathlib.Omega.{arith}
use mathlib.Core.Path.{◌≡◌, refl, sym, ap, ◌∙◌}
use mathlib.Core.Bool.{Bool, true, false, not, ◌&&◌, ◌||◌, true≢false}
use mathlib.Core.List.{List, [], ◌∷◌, ◌++◌}
use lib.ListN.{length}
use lib.Dec.{eqb}
use borrow.Author.Tests.{eq-eqb}
use Rattle.heap.specs.Fault as Faults
use Rattle.heap.specs.declared.fault.Fault.{Fault}
use Rattle.heap.specs.declared.heap.ResultKind.{ResultKind}
use Rattle.heap.specs.declared.object.CoroState.{CoroState}
use Rattle.model.specs.Lists.{is_nil, each, among}
use Rattle.model.specs.World.{World, After}
use Rattle.model.specs.Sound.{sound}
use Rattle.model.specs.Answer.{number_of}
use Rattle.model.specs.Call.{Operation, Do, typed}
use Rattle.model.specs.Step.{Out}
use Rattle.model.specs.declared.program.Handler.{Handler}
use Rattle.model.specs.declared.machine.Cont.{Cont}
use Rattle.model.specs.declared.machine.Frame.{Frame}
use Rattle.model.specs.declared.exec.Step.{Step}
use Rattle.std.specs.Prelude.{Option, None}
use Rattle.model.specs.declared.call.Op.{Op}
use Rattle.model.specs.declared.call.Answer.{Answer}
use Rattle.claims_sheet.specs.Setters.{with_slots, with_finalize}
use Rattle.claims_sheet.specs.Lines.{Lines}
use Rattle.claims_sheet.specs.Does.{does, operation}
use Rattle.claims_sheet.specs.Words.{found, is_coroutine, is_done, core_of, rest_of, state, suspended, too_high, lacks_memory, no_slot}
use Rattle.claims_sheet.specs.Moves.{pc_stored, finished_with}
use Rattle.claims_sheet.specs.Charging.{charged, reserve, used_up, searches, queue_from, instruction}
use Rattle.claims_sheet.specs.Makings.{paid}
use Rattle.claims_sheet.specs.Suspending.{asks, is_loop}
use Rattle.claims_sheet.specs.Yields.{keyed}
use Rattle.claims_sheet.specs.Endings.{too_large, is_object}
use Rattle.claims_sheet.specs.Unwinding.{covering, takers, own_signal, driven}
use Rattle.claims_sheet.specs.Sheet.{lie, table_of}
use Rattle.claims_sheet.specs.Answers.{is_instruction}
use Rattle.claims_sheet.specs.Pep342.{pays, at, held, finds, enters, only_created, any_suspended, any_resumable, any_finished, forbidden, Passes, Send, Throw, Close, Next}
use Rattle.claims_sheet.specs.Pep342Yields.{suspends, closing, driver, keyable, Yielding}
use Rattle.claims_sheet.specs.Pep342Ends.{thrown, covers, Comes, Ending, Handlers}
use Rattle.claims_sheet.specs.Pep342Closes.{Closing}
use Rattle.claims_sheet.specs.Pep342Deletion.{Deletion}
use Rattle.claims_sheet.specs.Pep342Departs.{Later, Missed}
use Rattle.claims_sheet.specs.RefusedEngines.{Engine, always}
use Rattle.claims_sheet.proofs.Choice.{both}
use Rattle.claims_sheet.proofs.Refutes.{Steps, differ, changing}

-- every call is answered with this fault
stopped : (f : Fault) (w : World) (o : Operation) → Steps (always f) → {a : After Answer} → does w o ≡ a → eqb (Faults.number_of f) (number_of a.answer) ≡ false → ⊥
stopped f w o is e h = differ (ap (λ (x : Out). number_of x.answer) (is w (Do o)) ∙ ap (λ (x : After Answer). number_of x.answer) e) h

abbrev Ten : Type 0
Ten = Steps (always Fault.OutOfFuel)

abbrev Nine : Type 0
Nine = Steps (always Fault.OutOfMemory)

-- ---- send, throw, close, next

module _ (p : (pc dst c src : ℕ) (w : World) (h : Passes pc dst c src w) → Send pc dst c src w h) (is : Ten) (pc dst c src : ℕ) (w : World) (h : Passes pc dst c src w) where
  send-suspended : (t : typed (Op.Resume pc dst c src) ≡ true) → enters any_suspended (held c pc w) (at pc w) ≡ true → ⊥
  send-suspended t q = stopped Fault.OutOfFuel w (operation (Op.Resume pc dst c src) t) is ((p pc dst c src w h).send-suspended q t) refl

  send-created : (t : typed (Op.Resume pc dst c src) ≡ true) → enters only_created (held c pc w) (at pc w) ≡ true → ⊥
  send-created t q = stopped Fault.OutOfFuel w (operation (Op.Resume pc dst c src) t) is ((p pc dst c src w h).send-created q t) refl

  send-refused : (t : typed (Op.Resume pc dst c src) ≡ true) → finds forbidden (held c pc w) (at pc w) ≡ true → ⊥
  send-refused t q = stopped Fault.OutOfFuel w (operation (Op.Resume pc dst c src) t) is ((p pc dst c src w h).send-refused q t) refl

  send-overflow : (t : typed (Op.Resume pc dst c src) ≡ true) → finds any_resumable (held c pc w) (at pc w) && too_high (at pc w) (held c pc w) ≡ true → ⊥
  send-overflow t q = stopped Fault.OutOfFuel w (operation (Op.Resume pc dst c src) t) is ((p pc dst c src w h).send-overflow q t) refl

module _ (p : (pc dst c src : ℕ) (w : World) (h : Passes pc dst c src w) → Throw pc dst c src w h) (is : Ten) (pc dst c src : ℕ) (w : World) (h : Passes pc dst c src w) where
  throw-suspended : (t : typed (Op.ResumeThrow pc dst c src) ≡ true) → enters any_suspended (held c pc w) (at pc w) ≡ true → ⊥
  throw-suspended t q = stopped Fault.OutOfFuel w (operation (Op.ResumeThrow pc dst c src) t) is ((p pc dst c src w h).throw-suspended q t) refl

  throw-created : (t : typed (Op.ResumeThrow pc dst c src) ≡ true) → finds only_created (held c pc w) (charged pc w) ≡ true → ⊥
  throw-created t q = stopped Fault.OutOfFuel w (operation (Op.ResumeThrow pc dst c src) t) is ((p pc dst c src w h).throw-created q t) refl

  throw-refused : (t : typed (Op.ResumeThrow pc dst c src) ≡ true) → finds forbidden (held c pc w) (at pc w) ≡ true → ⊥
  throw-refused t q = stopped Fault.OutOfFuel w (operation (Op.ResumeThrow pc dst c src) t) is ((p pc dst c src w h).throw-refused q t) refl

  throw-overflow : (t : typed (Op.ResumeThrow pc dst c src) ≡ true) → finds any_suspended (held c pc w) (at pc w) && too_high (at pc w) (held c pc w) ≡ true → ⊥
  throw-overflow t q = stopped Fault.OutOfFuel w (operation (Op.ResumeThrow pc dst c src) t) is ((p pc dst c src w h).throw-overflow q t) refl

module _ (p : (pc dst c src : ℕ) (w : World) (h : Passes pc dst c src w) → Close pc dst c src w h) (is : Ten) (pc dst c src : ℕ) (w : World) (h : Passes pc dst c src w) where
  close-created : (t : typed (Op.CoroClose pc dst c src) ≡ true) → finds only_created (held c pc w) (charged pc w) ≡ true → ⊥
  close-created t q = stopped Fault.OutOfFuel w (operation (Op.CoroClose pc dst c src) t) is ((p pc dst c src w h).close-created q t) refl

  close-finished : (t : typed (Op.CoroClose pc dst c src) ≡ true) → finds any_finished (held c pc w) (charged pc w) ≡ true → ⊥
  close-finished t q = stopped Fault.OutOfFuel w (operation (Op.CoroClose pc dst c src) t) is ((p pc dst c src w h).close-finished q t) refl

  close-running : (t : typed (Op.CoroClose pc dst c src) ≡ true) → finds (CoroState.Running ∷ []) (held c pc w) (charged pc w) ≡ true → ⊥
  close-running t q = stopped Fault.OutOfFuel w (operation (Op.CoroClose pc dst c src) t) is ((p pc dst c src w h).close-running q t) refl

  close-suspended : (t : typed (Op.CoroClose pc dst c src) ≡ true) → enters any_suspended (held c pc w) (at pc w) ≡ true → ⊥
  close-suspended t q = stopped Fault.OutOfFuel w (operation (Op.CoroClose pc dst c src) t) is ((p pc dst c src w h).close-suspended q t) refl

  close-overflow : (t : typed (Op.CoroClose pc dst c src) ≡ true) → finds any_suspended (held c pc w) (at pc w) && too_high (at pc w) (held c pc w) ≡ true → ⊥
  close-overflow t q = stopped Fault.OutOfFuel w (operation (Op.CoroClose pc dst c src) t) is ((p pc dst c src w h).close-overflow q t) refl

module _ (p : (pc has iter val src : ℕ) (w : World) (h : pays pc (lie (has ∷ iter ∷ val ∷ src ∷ []) w) w ≡ true) (g : is_done (found (charged pc w) (held iter pc w)) ≡ false) → Next pc has iter val src w h g)
    (is : Ten) (pc has iter val src : ℕ) (w : World) (h : pays pc (lie (has ∷ iter ∷ val ∷ src ∷ []) w) w ≡ true) (g : is_done (found (charged pc w) (held iter pc w)) ≡ false) where
  next-suspended : (t : typed (Op.IterNext pc has iter val src) ≡ true) → enters (CoroState.Yielded ∷ []) (held src pc w) (at pc w) ≡ true → ⊥
  next-suspended t q = stopped Fault.OutOfFuel w (operation (Op.IterNext pc has iter val src) t) is ((p pc has iter val src w h g).next-suspended q t) refl

  next-created : (t : typed (Op.IterNext pc has iter val src) ≡ true) → enters only_created (held src pc w) (at pc w) ≡ true → ⊥
  next-created t q = stopped Fault.OutOfFuel w (operation (Op.IterNext pc has iter val src) t) is ((p pc has iter val src w h g).next-created q t) refl

  next-returned : (t : typed (Op.IterNext pc has iter val src) ≡ true) → finds (CoroState.Returned ∷ []) (held src pc w) (charged pc w) ≡ true → ⊥
  next-returned t q = stopped Fault.OutOfFuel w (operation (Op.IterNext pc has iter val src) t) is ((p pc has iter val src w h g).next-returned q t) refl

  next-failed : (t : typed (Op.IterNext pc has iter val src) ≡ true) → finds (CoroState.Failed ∷ []) (held src pc w) (at pc w) ≡ true → ⊥
  next-failed t q = stopped Fault.OutOfFuel w (operation (Op.IterNext pc has iter val src) t) is ((p pc has iter val src w h g).next-failed q t) refl

  next-overflow : (t : typed (Op.IterNext pc has iter val src) ≡ true) → finds (CoroState.Created ∷ CoroState.Yielded ∷ []) (held src pc w) (at pc w) && too_high (at pc w) (held src pc w) ≡ true → ⊥
  next-overflow t q = stopped Fault.OutOfFuel w (operation (Op.IterNext pc has iter val src) t) is ((p pc has iter val src w h g).next-overflow q t) refl

-- ---- yields, awaits, returns

module _ (p : Yielding) (is : Ten) (pc dst src : ℕ) (w : World) where
  abbrev z : World
  z = pc_stored pc (keyed (charged pc w))

  module _ (t : typed (Op.Yield pc dst src) ≡ true) (h : pays pc (lie (dst ∷ src ∷ []) w) w ≡ true) (k : not (is_nil (charged pc w).chain) && keyable (charged pc w) ≡ true) (s : suspends z ≡ true) where
    yield-delivers : closing z ≡ false → ⊥
    yield-delivers c = stopped Fault.OutOfFuel w (operation (Op.Yield pc dst src) t) is ((p.yields pc dst src w t h k s).yield-delivers c) refl

    yield-closing : closing z ≡ true → asks (driver z) ≡ true → ⊥
    yield-closing c a = stopped Fault.OutOfFuel w (operation (Op.Yield pc dst src) t) is ((p.yields pc dst src w t h k s).yield-closing c a) refl

    yield-closing-quiet : closing z ≡ true → asks (driver z) ≡ false → ⊥
    yield-closing-quiet c a = stopped Fault.OutOfFuel w (operation (Op.Yield pc dst src) t) is ((p.yields pc dst src w t h k s).yield-closing-quiet c a) refl

  yields-kv : (key : ℕ) (t : typed (Op.YieldKv pc dst src key) ≡ true) → pays pc (lie (dst ∷ src ∷ key ∷ []) w) w ≡ true → suspends (pc_stored pc (charged pc w)) ≡ true → closing (pc_stored pc (charged pc w)) ≡ false → ⊥
  yields-kv key t h s c = stopped Fault.OutOfFuel w (operation (Op.YieldKv pc dst src key) t) is ((p.yields-kv pc dst src key w t h s).yield-delivers c) refl

  module _ (t : typed (Op.Await pc dst src) ≡ true) (h : pays pc (lie (dst ∷ src ∷ []) w) w ≡ true) (s : suspends (pc_stored pc (charged pc w)) ≡ true) where
    await-delivers : is_loop (driver (pc_stored pc (charged pc w))) ≡ false → ⊥
    await-delivers l = stopped Fault.OutOfFuel w (operation (Op.Await pc dst src) t) is (p.await-delivers pc dst src w t h s l) refl

    await-in-loop : is_loop (driver (pc_stored pc (charged pc w))) ≡ true → ⊥
    await-in-loop l = stopped Fault.OutOfFuel w (operation (Op.Await pc dst src) t) is (p.await-in-loop pc dst src w t h s l) refl

return-delivers : Yielding → Ten → (kind : ResultKind) (v : ℕ) (w : World) (t : typed (Op.Finish kind v) ≡ true) (x : Frame) (xs : List Frame) → sound w ≡ true → w.frames ≡ x ∷ xs → x.cont ≡ Cont.Coro →
    too_large kind v ≡ false → is_object kind v && lacks_memory w w.setup.costs.int ≡ false → is_object kind v && no_slot w ≡ false → ⊥
return-delivers p is kind v w t x xs s e b l m n = stopped Fault.OutOfFuel w (operation (Op.Finish kind v) t) is (p.return-delivers kind v w t x xs s e b l m n) refl

-- ---- a raised word

module _ (p : (e : Fault) (pc : Option ℕ) (w : World) (t : typed (Op.Unwind e pc) ≡ true) (above : List Frame) (x : Frame) (xs : List Frame) (u : World) (h : Comes e pc w above x xs u) → Ending e pc w t above x xs u h)
    (e : Fault) (pc : Option ℕ) (w : World) (t : typed (Op.Unwind e pc) ≡ true) (above : List Frame) (x : Frame) (xs : List Frame) (u : World) (c : Comes e pc w above x xs u) where
  caught : Ten → (h : Handler) (hs : List Handler) → takers x u ≡ h ∷ hs → used_up u ≡ false → ⊥
  caught is h hs k n = stopped Fault.OutOfFuel w (operation (Op.Unwind e pc) t) is ((p e pc w t above x xs u c).caught h hs k n) refl

  caught-unpaid : Nine → (h : Handler) (hs : List Handler) → takers x u ≡ h ∷ hs → used_up u ≡ true → ⊥
  caught-unpaid is h hs k n = stopped Fault.OutOfMemory w (operation (Op.Unwind e pc) t) is ((p e pc w t above x xs u c).caught-unpaid h hs k n) refl

  signal-escapes : Ten → is_nil (takers x u) ≡ true → x.cont ≡ Cont.Coro → own_signal u.chain (thrown e pc w) u ≡ true → ⊥
  signal-escapes is k b o = stopped Fault.OutOfFuel w (operation (Op.Unwind e pc) t) is ((p e pc w t above x xs u c).signal-escapes k b o) refl

  escapes-driven : Ten → is_nil (takers x u) ≡ true → x.cont ≡ Cont.Coro → own_signal u.chain (thrown e pc w) u ≡ false → driven u.chain ≡ true → ⊥
  escapes-driven is k b o d = stopped Fault.OutOfFuel w (operation (Op.Unwind e pc) t) is ((p e pc w t above x xs u c).escapes-driven k b o d) refl

  uncaught : Ten → is_nil (takers x u) ≡ true → x.cont ≡ Cont.Entry → ⊥
  uncaught is k b = stopped Fault.OutOfFuel w (operation (Op.Unwind e pc) t) is ((p e pc w t above x xs u c).uncaught k b) refl

-- no handler takes the word; one that does not cover the pc does; a handler is free
module _ (p : Handlers) (find : ℕ → List Handler → List Handler) (same : (pc : ℕ) (hs : List Handler) → find pc hs ≡ covering pc hs) where
  first : (pc : ℕ) (before : List Handler) (h : Handler) (hs : List Handler) → each (λ x. not (covers pc x)) before ≡ true → covers pc h ≡ true → find pc (before ++ (h ∷ hs)) ≡ [] → ⊥
  first pc before h hs b c e = true≢false (ap (λ (l : List Handler). is_nil l) (sym e ∙ (same pc (before ++ (h ∷ hs)) ∙ p.first pc before h hs b c)))

  none : (pc : ℕ) (hs : List Handler) → each (λ x. not (covers pc x)) hs ≡ true → is_nil (find pc hs) ≡ false → ⊥
  none pc hs b e = true≢false (sym (ap (λ (l : List Handler). is_nil l) (same pc hs ∙ p.none pc hs b)) ∙ e)

one_unit : Handlers → (pay : World → World) → ((w : World) → pay w ≡ paid w) → (w : World) → sound w ≡ true → used_up w ≡ false → pay w ≡ w → ⊥
one_unit p pay same w s u e = let z : reserve w + 1 ≡ reserve w = ap (λ (x : World). reserve x + 1) (sym e ∙ same w) ∙ p.one_unit w s u in omega (arith, z)

-- ---- two calls

module _ (p : (pc dst c src : ℕ) (w : World) (h : Passes pc dst c src w) (s : enters any_suspended (held c pc w) (at pc w) ≡ true) → Closing pc dst c src w h s) (is : Ten)
    (pc dst c src : ℕ) (w : World) (h : Passes pc dst c src w) (s : enters any_suspended (held c pc w) (at pc w) ≡ true) (u : typed (Op.Unwind (Fault.Throw (held src pc w)) None) ≡ true)
    (un : each (λ f. is_nil (takers f (at pc w))) (core_of (found (at pc w) (held c pc w))).frames ≡ true) where
  close-uncaught : (t : typed (Op.CoroClose pc dst c src) ≡ true) → sound (does w (operation (Op.CoroClose pc dst c src) t)).world ≡ true → ⊥
  close-uncaught t g = stopped Fault.OutOfFuel (does w (operation (Op.CoroClose pc dst c src) t)).world (operation (Op.Unwind (Fault.Throw (held src pc w)) None) u) is ((p pc dst c src w h s).close-uncaught t u un g) refl

  throw-uncaught : (t : typed (Op.ResumeThrow pc dst c src) ≡ true) (x : Frame) (xs : List Frame) (k : Handler) (ks : List Handler) → (rest_of (found (at pc w) (held c pc w))).closing ≡ false →
      sound (does w (operation (Op.ResumeThrow pc dst c src) t)).world ≡ true → (at pc w).frames ≡ x ∷ xs → takers x (finished_with (held c pc w) CoroState.Failed (held src pc w) (at pc w)) ≡ k ∷ ks →
      used_up (finished_with (held c pc w) CoroState.Failed (held src pc w) (at pc w)) ≡ false → ⊥
  throw-uncaught t x xs k ks q g e l n =
      stopped Fault.OutOfFuel (does w (operation (Op.ResumeThrow pc dst c src) t)).world (operation (Op.Unwind (Fault.Throw (held src pc w)) None) u) is
      ((p pc dst c src w h s).throw-uncaught t u x xs k ks un q g e l n) refl

-- ---- deletion, and what departs

hand-over : Deletion → Ten → (w : World) (v : ℕ) (t : typed (Op.HandOver v) ≡ true) → sound w ≡ true → is_coroutine (found w v) ≡ true → suspended (state w v) ≡ true → (rest_of (found w v)).finalized ≡ false → ⊥
hand-over p is w v t s c a f = stopped Fault.OutOfFuel w (operation (Op.HandOver v) t) is (p.hand-over w v t s c a f) refl

hand-over-refused : Deletion → Ten → (w : World) (v : ℕ) (t : typed (Op.HandOver v) ≡ true) → sound w ≡ true → is_coroutine (found w v) ≡ true → not (suspended (state w v)) || (rest_of (found w v)).finalized ≡ true → ⊥
hand-over-refused p is w v t s c a = stopped Fault.OutOfFuel w (operation (Op.HandOver v) t) is (p.hand-over-refused w v t s c a) refl

cleanup-starts : Deletion → Ten → (w : World) (o : Operation) (pc : ℕ) (ok : Bool) (own : World → Lines Step) (c : ℕ) (queue : List ℕ) → table_of o.op w ≡ instruction pc ok own w → sound w ≡ true →
    is_nil w.frames ≡ false → ok ≡ true → used_up w ≡ false → searches w ≡ true → queue_from (pc_stored pc w) w.finalize ≡ c ∷ queue → ⊥
cleanup-starts p is w o pc ok own c queue e s f k u a q = stopped Fault.OutOfFuel w o is (p.cleanup-starts w o pc ok own c queue e s f k u a q) refl

-- a resumed one is closing no more
still-closing : Later → (e : Engine) → Steps e → (pc dst c src : ℕ) (w : World) → Passes pc dst c src w → (t : typed (Op.Resume pc dst c src) ≡ true) → let v = held c pc w in enters any_suspended v (at pc w) ≡ true →
    ((rest_of (found (e w (Do (operation (Op.Resume pc dst c src) t))).world v)).closing ≡ (rest_of (found (at pc w) v)).closing → ⊥) → ⊥
still-closing p e is pc dst c src w h t q wrong =
    wrong (ap (λ (x : Out). (rest_of (found x.world (held c pc w))).closing) (is w (Do (operation (Op.Resume pc dst c src) t))) ∙ (p.still-closing pc dst c src w h t q).0)

-- a word stays in the queue
never-closed : Missed → Steps (changing (with_finalize (7 ∷ []))) → (w : World) (pc dst c : ℕ) (t : typed (Op.CoroCurrent pc dst) ≡ true) (s : typed (Op.HandOver c) ≡ true) →
    sound w ≡ true → is_nil w.frames ≡ false → lie (dst ∷ []) w ≡ true → used_up w ≡ false → searches w ≡ true → w.finalize ≡ c ∷ [] →
    is_coroutine (found w c) ≡ true → (rest_of (found w c)).finalized ≡ true → too_high (pc_stored pc w) c ≡ true → ⊥
never-closed p is w pc dst c t s a b d e f g h i j =
    differ (ap (λ (x : Out). length x.world.finalize) (is w (Do (operation (Op.CoroCurrent pc dst) t))) ∙ ap (λ (xs : List ℕ). length xs) (p.never-closed w pc dst c t s a b d e f g h i j).0) refl

-- what was passed: a word stays in the queue, it does, it is gone, a hand over of it is 10
module _ (p : Missed) (w : World) (o : Operation) (pc : ℕ) (ok : Bool) (own : World → Lines Step) (before : List ℕ) (c : ℕ) (t : typed (Op.HandOver c) ≡ true) (i : is_instruction o.op ≡ true)
    (e : table_of o.op w ≡ instruction pc ok own w) (s : sound w ≡ true) (f : is_nil w.frames ≡ false) (k : ok ≡ true) (n : used_up w ≡ false) (g : searches w ≡ true)
    (q : w.finalize ≡ before ++ (c ∷ [])) (b : is_nil (queue_from (pc_stored pc w) before) ≡ true) (h : suspended (state w c) ≡ true) (j : too_high (pc_stored pc w) c ≡ true) where
  never-passed : Steps (changing (with_finalize (7 ∷ []))) → ⊥
  never-passed is = differ (ap (λ (x : Out). length x.world.finalize) (is w (Do o)) ∙ ap (λ (xs : List ℕ). length xs) (p.never-passed w o pc ok own before c [] t i e s f k n g q b h j).0) refl

  never-queued : Steps (changing (with_finalize (c ∷ []))) → ⊥
  never-queued is =
      true≢false (sym (ap (λ x. x || false) (eq-eqb c c refl)) ∙ (ap (λ (x : Out). among c x.world.finalize) (is w (Do o)) ∙ (p.never-passed w o pc ok own before c [] t i e s f k n g q b h j).1))

  never-gone : Steps (changing (with_slots [])) → is_coroutine (found w c) ≡ true → ⊥
  never-gone is l =
      true≢false (sym l ∙ (ap is_coroutine (sym (ap (λ (x : Out). found x.world c) (is w (Do o)) ∙ (p.never-passed w o pc ok own before c [] t i e s f k n g q b h j).2)) ∙ both (λ y. is_coroutine y ≡ false) _ refl refl))

  never-again : Ten → sound (does w o).world ≡ true → ⊥
  never-again is l = stopped Fault.OutOfFuel (does w o).world (operation (Op.HandOver c) t) is ((p.never-passed w o pc ok own before c [] t i e s f k n g q b h j).3 l) refl

spent : Missed → Nine → (w : World) (o : Operation) (pc : ℕ) (ok : Bool) (own : World → Lines Step) → table_of o.op w ≡ instruction pc ok own w → sound w ≡ true → is_nil w.frames ≡ false → ok ≡ true → used_up w ≡ true → ⊥
spent p is w o pc ok own e s f k u = stopped Fault.OutOfMemory w o is (p.spent w o pc ok own e s f k u) refl
