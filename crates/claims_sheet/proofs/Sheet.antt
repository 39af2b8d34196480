-- The sheet: what holds of each call and its lines; every call leads to the first line that stops it.
use Prim.Native.Nat.{ℕ, ◌+◌, ◌^◌}
use mathlib.Core.Path.{◌≡◌, refl, sym, ap, subst, ◌∙◌}
use mathlib.Core.Bool.{Bool, true, false, not, ◌&&◌, true≢false}
use mathlib.Core.List.{List, [], ◌∷◌, map}
use lib.ListN.{length}
use lib.Dec.{eqb, leb, ltb}
use borrow.Author.Tests.{ltb-true}
use Rattle.lists.specs.Pick.{pick, pick-false}
use Rattle.heap.specs.Fault as Faults
use Rattle.heap.specs.declared.fault.Fault.{Fault}
use Rattle.std.specs.Prelude.{Some, None}
use Rattle.model.specs.Lists.{is_nil, each}
use Rattle.model.specs.Program as Program
use Rattle.model.specs.Object.{Object, as_coro}
use Rattle.model.specs.World.{World, After, after, and_then}
use Rattle.model.specs.Heap.{coro}
use Rattle.model.specs.Cleanup.{charge}
use Rattle.model.specs.Sound.{sound}
use Rattle.model.specs.Gate as Gate
use Rattle.model.specs.Gate.{in_frame, all_in, window_in, answer_of, stepped}
use Rattle.model.specs.declared.machine.Active.{Active}
use Rattle.model.specs.declared.machine.Charge.{Charge}
use Rattle.model.specs.declared.machine.Driver.{Driver}
use Rattle.model.specs.declared.exec.Step.{Step}
use Rattle.model.specs.Call.{Operation, Do, typed}
use Rattle.model.specs.Calls.{Row, Instruction, table}
use Rattle.model.specs.Step.{Out, told, doing, call, tested, step}
use Rattle.model.specs.declared.call.Op.{Op}
use Rattle.model.specs.declared.call.Answer.{Answer}
use Rattle.claims_sheet.specs.Lines.{Line, Lines, leads_from, leads, says}
use Rattle.claims_sheet.specs.Words.{lies, found, core_of, rest_of, state, is_coroutine}
use Rattle.claims_sheet.specs.Suspending.{innermost_active}
use Rattle.claims_sheet.specs.Charging.{used_up, bank_back, starts, cleanup, charged, lost, as_answer, instruction}
use Rattle.claims_sheet.specs.Instructions as Asked
use Rattle.claims_sheet.specs.Makings as Makings
use Rattle.claims_sheet.specs.Yields as Yields
use Rattle.claims_sheet.specs.Sheet.{lie, window_lies, table_of, sheet}
use Rattle.claims_sheet.specs.Answers.{is_instruction}
use Rattle.claims_sheet.specs.Sentences.{Behind9}
use Rattle.claims_sheet.proofs.Among.{same, and_left, and_right, not-true}
use Rattle.claims_sheet.proofs.Choice.{both}
use Rattle.claims_sheet.proofs.Floors.{not_stuck}
use Rattle.claims_sheet.proofs.Found as Found
use Rattle.claims_sheet.proofs.Found.{is_absent}
use Rattle.claims_sheet.proofs.Lookup.{has-frame}
use Rattle.claims_sheet.proofs.Moved.{below, base-is, coro-is}
use Rattle.claims_sheet.proofs.Asking.{Saved, then-two, resume-is, resume-throw-is, coro-close-is, iter-next-is, coro-status-is, coro-current-is, coro-key-is, coro-result-is}
use Rattle.claims_sheet.proofs.Makings.{coro-new-is, coro-new-indirect-is, spawn-is}
use Rattle.claims_sheet.proofs.Yields.{yield-is, yield-kv-is, await-is}
use Rattle.claims_sheet.proofs.Finishing.{finish-is}
use Rattle.claims_sheet.proofs.Unwinding.{unwind-is}
use Rattle.claims_sheet.proofs.Charging.{charge-is}
use Rattle.claims_sheet.proofs.Suspending.{Sane, sane-stored}
use Rattle.claims_sheet.proofs.OtherCalls.{spawn-task-is, host-call-is, host-entry-is, function-call-is, put-word-is, make-iterator-is, take-outcome-is, hand-over-is, grant-is, stop-run-is}
use Rattle.claims_sheet.proofs.Kept.{stays, same-world, set-filled, adds, enters-kept, gives-kept, stops-kept}
use Rattle.claims_sheet.proofs.Walk.{Owns, new-owns, new-indirect-owns, spawn-owns, yield-owns, yield-kv-owns, await-owns, resume-owns, throw-owns, close-owns, asks-owns, next-owns}
use Rattle.claims_sheet.proofs.WalkCalls.{Fact, instruction-facts, Facts, no, to, is14, finish-on, unwind-fact, by, granted-facts, task-facts, rights, finish-on-right, unwind-right, never, no-14, finish-on-14, unwind-14}

-- ---- what a sound machine has

sound-saved : (w : World) → sound w ≡ true → Saved w
sound-saved w h v k r e s = has-frame w v k r h e s

present : (o : Object) → is_absent (as_coro o) ≡ false → is_coroutine o ≡ true
present Object.Empty h = absurd (true≢false h)
present (Object.Func f) h = absurd (true≢false h)
present (Object.Int n) h = absurd (true≢false h)
present (Object.Iter s d k) h = absurd (true≢false h)
present (Object.Error e f p v) h = absurd (true≢false h)
present (Object.Coro k r) h = refl

sound-runs : (w : World) → sound w ≡ true → (cs : List Active) → w.chain ≡ cs → is_nil cs ≡ false → is_coroutine (found w (innermost_active cs).coro) ≡ true
sound-runs w h [] e k = absurd (true≢false k)
sound-runs w h (a ∷ chain) e k = present (found w a.coro) (ap (λ x. is_absent x) (sym (coro-is w a.coro)) ∙ Found.found w h a chain e)

sound-inside : (w : World) → sound w ≡ true → (cs : List Active) → w.chain ≡ cs → is_nil cs ≡ false → leb (length w.frames) (innermost_active cs).floor ≡ false
sound-inside w h [] e k = absurd (true≢false k)
sound-inside w h (a ∷ chain) e k = not_stuck w h a chain e

pub sound-sane : (w : World) → sound w ≡ true → Sane w
sound-sane w h = record { runs = sound-runs w h w.chain refl; inside = sound-inside w h w.chain refl }

-- .. and still once its charge is taken
charged-saved : (pc : ℕ) (w : World) → Saved w → Saved (charged pc w)
charged-saved pc w s = both (λ u. Saved u) _ s (both (λ u. Saved u) _ s s)

charged-sane : (pc : ℕ) (w : World) → Sane w → Sane (charged pc w)
charged-sane pc w s =
    both (λ u. Sane u) _ (record { runs = s.runs; inside = s.inside })
    (both (λ u. Sane u) _ (record { runs = s.runs; inside = s.inside }) (record { runs = s.runs; inside = (sane-stored pc w s).inside }))

-- ---- an instruction's own lines, as answers

abbrev pub well_at : ℕ → Step → Bool
well_at m Step.Next = eqb m 0
well_at m Step.Frame = eqb m 0
well_at m (Step.Fault f) = eqb m (Faults.number_of f)
well_at m (Step.Unwind f) = eqb m (Faults.number_of f) && not (eqb m 10)

abbrev pub well : Line Step → Bool
well l = well_at l.number l.answer

well-answer : (n m : ℕ) (s : Step) → well_at m s ≡ true → answer_of n s ≡ pick (eqb m 10) (Answer.Unpaid n) (Answer.Stepped s n)
well-answer n m Step.Next h = subst (λ k. Answer.Stepped Step.Next n ≡ pick (eqb k 10) (Answer.Unpaid n) (Answer.Stepped Step.Next n)) (sym (same m 0 h)) (sym (pick-false (Answer.Unpaid n) (Answer.Stepped Step.Next n)))
well-answer n m Step.Frame h = subst (λ k. Answer.Stepped Step.Frame n ≡ pick (eqb k 10) (Answer.Unpaid n) (Answer.Stepped Step.Frame n)) (sym (same m 0 h)) (sym (pick-false (Answer.Unpaid n) (Answer.Stepped Step.Frame n)))
well-answer n m (Step.Fault f) h = ap (λ k. pick (eqb k 10) (Answer.Unpaid n) (Answer.Stepped (Step.Fault f) n)) (sym (same m (Faults.number_of f) h))
well-answer n m (Step.Unwind f) h =
    sym (ap (λ b. pick b (Answer.Unpaid n) (Answer.Stepped (Step.Unwind f) n)) (not-true (eqb m 10) (and_right (eqb m (Faults.number_of f)) (not (eqb m 10)) h)) ∙ pick-false (Answer.Unpaid n) (Answer.Stepped (Step.Unwind f) n))

told-one : (n : ℕ) (b : Bool) (x : After Step) (y : After Answer) (z : After Step) → and_then x (stepped n) ≡ y → and_then (pick b x z) (stepped n) ≡ pick b y (and_then z (stepped n))
unfolding pick
told-one n true x y z e = e
told-one n false x y z e = refl

told-lines : (n : ℕ) (ts : List (Line Step)) (d : Line Step) → each well ts ≡ true → well d ≡ true → and_then (leads_from ts d) (stepped n) ≡ leads_from (map (as_answer n) ts) (as_answer n d)
told-lines n [] d h k = ap (λ a. after d.left a) (well-answer n d.number d.answer k)
told-lines n (t ∷ ts) d h k =
    told-one n t.stops (after t.left t.answer) _ (leads_from ts d) (ap (λ a. after t.left a) (well-answer n t.number t.answer (and_left (well_at t.number t.answer) (each well ts) h)))
    ∙ below _ _ (told-lines n ts d (and_right (well_at t.number t.answer) (each well ts) h) k)

-- ---- the gate, the charge, and then the instruction's own lines

pub instruction-is : (pc : ℕ) (ok operands : Bool) (arm : World → After Step) (own : World → Lines Step) (w : World) → sound w ≡ true → ok ≡ operands →
    ((u : World) → Saved u → Sane u → arm u ≡ leads (own u)) → ((u : World) → each well (own u).tests && well (own u).done ≡ true) →
    Gate.instruction pc ok arm w ≡ leads (instruction pc operands own w)
unfolding Gate.instruction
instruction-is pc ok operands arm own w h e does wells =
    below _ _ (λ i. pick (not (e i)) (Gate.refused w Fault.BadOperand) (behind i))
  where
    u : World
    u = charged pc w

    n : ℕ
    n = lost pc w

    o : Lines Step
    o = own u

    behind : and_then (charge (Some pc) w) (Gate.charged arm)
        ≡ pick (used_up w) (after (bank_back w) (Answer.Stepped (Step.Fault Fault.OutOfFuel) 0)) (pick (starts pc w) (after (cleanup pc w) (Answer.Cleanup n)) (leads_from (map (as_answer n) o.tests) (as_answer n o.done)))
    behind =
        ap (λ (x : After Charge). and_then x (Gate.charged arm)) (charge-is pc w (sound-saved w h))
        ∙ (then-two (Gate.charged arm) (used_up w) (used_up w) (starts pc w) (after (bank_back w) Charge.Spent) (after (cleanup pc w) (Charge.Close n)) (after u (Charge.Done n)) refl
        ∙ below _ _ (below _ _ (ap (λ (x : After Step). and_then x (stepped n)) (does u (charged-saved pc w (sound-saved w h)) (charged-sane pc w (sound-sane w h)))
        ∙ told-lines n o.tests o.done (and_left (each well o.tests) (well o.done) (wells u)) (and_right (each well o.tests) (well o.done) (wells u)))))

-- ---- operands

lie-is : (rs : List ℕ) (w : World) → all_in rs w ≡ lie rs w
lie-is rs w = ap (λ b. each (λ r. ltb (b + r) (length w.stack)) rs) (base-is w.frames)

window-is : (rs : List ℕ) (dst argc : ℕ) (w : World) → all_in rs w && window_in w dst argc ≡ lie rs w && window_lies dst argc w
window-is rs dst argc w = ap (λ b. each (λ r. ltb (b + r) (length w.stack)) rs && leb (b + dst + 1 + argc) (length w.stack)) (base-is w.frames)

new_is : (dst f argc : ℕ) (w : World) → in_frame w dst && window_in w dst argc && Program.is_function w.setup f ≡ lies w dst && window_lies dst argc w && Makings.is_function w f
new_is dst f argc w = ap (λ b. ltb (b + dst) (length w.stack) && leb (b + dst + 1 + argc) (length w.stack) && Makings.is_function w f) (base-is w.frames)

-- ---- what holds of a call o, which does what the row r says, has the lines s, and is an instruction or not

abbrev done-by : Out → After Answer
done-by x = after x.world x.answer

-- an instruction's lines
abbrev pub behind : ℕ → (World → Bool) → (World → Lines Step) → World → Lines Answer
behind pc operands own w = instruction pc (operands w) own w

pub record Instructs (s : World → Lines Answer) : Type 0 where
  pub pc : ℕ
  pub operands : World → Bool
  pub own : World → Lines Step
  pub is : (w : World) → s w ≡ behind pc operands own w
  pub owns : (u : World) → Owns u (own u)

pub record Holds (o : Op) (r : Row) (s : World → Lines Answer) (i : Bool) : Type 0 where
  pub is : (w : World) → typed o ≡ true → sound w ≡ true → done-by (doing r w) ≡ leads (s w)
  -- only a look sees
  pub blind : (w : World) → (o ≡ Op.Look → ⊥) → (doing r w).seen ≡ []
  -- its lines: their numbers, 14 behind 9, and what the one that stops it leaves
  pub right : (w : World) → rights i (s w) ≡ true
  pub full : (w : World) (l : Line Answer) → Behind9 l (s w).tests
  pub fact : (w : World) → Fact w (says (s w)) (leads (s w)).world
  pub instructs : i ≡ true → Instructs s

-- no line is 14
abbrev plain : Bool → Lines Answer → Bool
plain i s = rights i s && each (λ l. not (eqb l.number 14)) s.tests

module _ {o : Op} {r : Row} {s : World → Lines Answer} (is : (w : World) → typed o ≡ true → sound w ≡ true → done-by (doing r w) ≡ leads (s w))
    (blind : (w : World) → (o ≡ Op.Look → ⊥) → (doing r w).seen ≡ []) where
  other : ((w : World) → Fact w (says (s w)) (leads (s w)).world) → ((w : World) → rights false (s w) ≡ true) → ((w : World) (l : Line Answer) → Behind9 l (s w).tests) → Holds o r s false
  other fact right full = record { is = is; blind = blind; right = right; full = full; fact = fact; instructs = never }

  plainly : ((w : World) → Facts w (s w)) → ((w : World) → plain false (s w) ≡ true) → Holds o r s false
  plainly facts h = other (λ w. by w (s w) (facts w)) (λ w. and_left (rights false (s w)) _ (h w)) (λ w l. no-14 l (s w).tests (and_right (rights false (s w)) _ (h w)))

module _ {o : Op} (pc : ℕ) {ok operands : World → Bool} {arm : World → After Step} (own : World → Lines Step) (passes : (w : World) → ok w ≡ operands w)
    (does : (u : World) → Saved u → Sane u → arm u ≡ leads (own u)) (owns : (u : World) → Owns u (own u)) (wells : (u : World) → each well (own u).tests && well (own u).done ≡ true) where
  instructing : ((w : World) → rights true (behind pc operands own w) ≡ true) → ((w : World) (l : Line Answer) → Behind9 l (behind pc operands own w).tests) →
      Holds o (Instruction pc ok arm) (behind pc operands own) true
  instructing right full =
      record {
        is = λ w _ h. instruction-is pc (ok w) (operands w) arm own w h (passes w) does wells;
        blind = λ w _. refl;
        right = right;
        full = full;
        fact = λ w. by w (behind pc operands own w) (instruction-facts pc (operands w) own w (owns (charged pc w)));
        instructs = λ _. record { pc = pc; operands = operands; own = own; is = λ w. refl; owns = owns };
      }

  steps : ((w : World) → plain true (behind pc operands own w) ≡ true) → Holds o (Instruction pc ok arm) (behind pc operands own) true
  steps h = instructing (λ w. and_left (rights true (behind pc operands own w)) _ (h w)) (λ w l. no-14 l (behind pc operands own w).tests (and_right (rights true (behind pc operands own w)) _ (h w)))

  -- one that can answer 14
  fills : ((w : World) → rights true (behind pc operands own w) ≡ true) → ((w : World) (l : Line Answer) → Behind9 l (map (as_answer (lost pc w)) (own (charged pc w)).tests)) →
      Holds o (Instruction pc ok arm) (behind pc operands own) true
  fills right full = instructing right (λ w l. (never, (never, (never, (never, full w _)))))

-- ---- THE TABLE: every call

pub holds : (o : Op) → Holds o (table o) (λ w. table_of o w) (is_instruction o)
unfolding typed pick
holds (Op.CoroNew pc dst f argc) =
    fills pc (Makings.coro_new dst f argc) (new_is dst f argc) (λ u _ _. coro-new-is dst f argc u) (λ u. new-owns u dst f argc) (λ u. refl) (λ w. refl)
    (λ w l. (never, (λ _. (refl, refl), (never, tt))))
holds (Op.CoroNewIndirect pc dst c argc) =
    fills pc (Makings.coro_new_indirect dst c argc) (window-is (dst ∷ c ∷ []) dst argc) (λ u _ _. coro-new-indirect-is dst c argc u) (λ u. new-indirect-owns u dst c argc) (λ u. refl) (λ w. refl)
    (λ w l. (never, (never, (never, (never, (never, (λ _. (refl, refl), (never, tt))))))))
holds (Op.Spawn pc dst c argc) =
    fills pc (Makings.spawn pc dst c argc) (window-is (dst ∷ c ∷ []) dst argc) (λ u _ _. spawn-is pc dst c argc u) (λ u. spawn-owns u pc dst c argc) (λ u. refl) (λ w. refl)
    (λ w l. (never, (never, (never, (never, (never, (never, (λ _. (refl, refl), (never, (never, (never, tt)))))))))))
holds (Op.Yield pc dst src) =
    fills pc (Yields.yield pc dst src) (lie-is (dst ∷ src ∷ [])) (λ u _ s. yield-is pc dst src u s) (λ u. yield-owns u pc dst src) (λ u. refl) (λ w. refl)
    (λ w l. (never, (never, (never, (λ _. (refl, refl), (never, (never, tt)))))))
holds (Op.YieldKv pc dst src key) =
    steps pc (Yields.yield_kv pc dst src key) (lie-is (dst ∷ src ∷ key ∷ [])) (λ u _ s. yield-kv-is pc dst src key u s) (λ u. yield-kv-owns u pc dst src key) (λ u. refl) (λ w. refl)
holds (Op.Await pc dst src) = steps pc (Yields.await pc dst src) (lie-is (dst ∷ src ∷ [])) (λ u _ s. await-is pc dst src u s) (λ u. await-owns u pc dst src) (λ u. refl) (λ w. refl)
holds (Op.Resume pc dst c src) = steps pc (Asked.resume pc dst c src) (lie-is (dst ∷ c ∷ src ∷ [])) (λ u s _. resume-is pc dst c src u s) (λ u. resume-owns u pc dst c src) (λ u. refl) (λ w. refl)
holds (Op.ResumeThrow pc dst c src) =
    steps pc (Asked.resume_throw pc dst c src) (lie-is (dst ∷ c ∷ src ∷ [])) (λ u s _. resume-throw-is pc dst c src u s) (λ u. throw-owns u pc dst c src) (λ u. refl) (λ w. refl)
holds (Op.CoroClose pc dst c src) =
    steps pc (Asked.coro_close pc dst c src) (lie-is (dst ∷ c ∷ src ∷ [])) (λ u s _. coro-close-is pc dst c src u s) (λ u. close-owns u pc dst c src) (λ u. refl) (λ w. refl)
holds (Op.CoroStatus pc dst c) =
    steps pc (Asked.coro_status dst c) (lie-is (dst ∷ c ∷ [])) (λ u _ _. coro-status-is dst c u) (λ u. asks-owns u (Asked.coro_status dst c u) refl refl) (λ u. refl) (λ w. refl)
holds (Op.CoroCurrent pc dst) = steps pc (Asked.coro_current dst) (lie-is (dst ∷ [])) (λ u _ _. coro-current-is dst u) (λ u. asks-owns u (Asked.coro_current dst u) refl refl) (λ u. refl) (λ w. refl)
holds (Op.CoroKey pc dst c) = steps pc (Asked.coro_key dst c) (lie-is (dst ∷ c ∷ [])) (λ u _ _. coro-key-is dst c u) (λ u. asks-owns u (Asked.coro_key dst c u) refl refl) (λ u. refl) (λ w. refl)
holds (Op.CoroResult pc dst c) =
    steps pc (Asked.coro_result dst c) (lie-is (dst ∷ c ∷ [])) (λ u _ _. coro-result-is dst c u) (λ u. asks-owns u (Asked.coro_result dst c u) refl refl) (λ u. refl) (λ w. refl)
holds (Op.IterNext pc has iter val src) =
    steps pc (Asked.iter_next pc has iter val src) (lie-is (has ∷ iter ∷ val ∷ src ∷ [])) (λ u s _. iter-next-is pc has iter val src u s) (λ u. next-owns u pc has iter val src) (λ u. refl) (λ w. refl)
holds (Op.Finish kind v) =
    other (λ w t _. finish-is kind v w (ltb-true v (2 ^ 64) t)) (λ w _. refl) (λ w. by w (table_of (Op.Finish kind v) w) (finish-on w w.frames kind v))
    (λ w. finish-on-right w.frames kind v w) (λ w l. finish-on-14 w.frames kind v w l)
holds (Op.Unwind f pc) = other (λ w _ _. unwind-is f pc w) (λ w _. refl) (unwind-fact f pc) (unwind-right f pc) (unwind-14 f pc)
holds (Op.SpawnTask v) = plainly (λ w _ _. spawn-task-is v w) (λ w _. refl) (task-facts v) (λ w. refl)
holds (Op.HostCall f) = plainly (λ w _ _. host-call-is f w) (λ w _. refl) (λ w. ((no w refl, (no w refl, (no w refl, tt))), to w _ (stays w) refl)) (λ w. refl)
holds (Op.HostEntry c v) =
    plainly (λ w _ h. host-entry-is c v w (sound-saved w h)) (λ w _. refl)
    (λ w. (
      (no w refl, (no w refl, (no w refl, (no w refl, (no w refl, tt))))),
      to w _ (gives-kept w (state w c) (core_of (found w c)).waiting v _ (enters-kept w (rest_of (found w c)) c Driver.Host w (same-world w))).stays refl,
    )) (λ w. refl)
holds (Op.FunctionCall pc f cont) = plainly (λ w _ _. function-call-is pc f cont w) (λ w _. refl) (λ w. ((no w refl, (no w refl, (no w refl, tt))), to w _ (stays w) refl)) (λ w. refl)
holds (Op.PutWord r v) = plainly (λ w _ _. put-word-is r v w) (λ w _. refl) (λ w. ((no w refl, (no w refl, tt)), to w _ (stays w) refl)) (λ w. refl)
holds (Op.MakeIterator v) =
    other (λ w _ _. make-iterator-is v w) (λ w _. refl)
    (λ w. by w (table_of (Op.MakeIterator v) w) (
      (no w refl, (no w refl, (no w refl, (λ e. is14 w w (stays w) e, tt)))),
      to w _ (adds w (Object.Iter v false None) w.setup.costs.iter w refl (same-world w)).stays refl,
    ))
    (λ w. refl) (λ w l. (never, (never, (never, (λ _. (refl, refl), tt)))))
holds Op.TakeOutcome = plainly (λ w _ _. take-outcome-is w) (λ w _. refl) (λ w. (tt, to w _ (stays w) refl)) (λ w. refl)
holds (Op.HandOver v) =
    plainly (λ w _ _. hand-over-is v w) (λ w _. refl)
    (λ w. ((no w refl, (no w refl, (no w refl, tt))), to w _ (record { setup = refl; full = λ h. set-filled w.slots _ _ refl h }) refl)) (λ w. refl)
holds (Op.Grant n) = plainly (λ w _ _. grant-is n w) (λ w _. refl) (λ w. ((no w refl, tt), granted-facts w w.fuel.bank _)) (λ w. refl)
holds Op.StopRun = plainly (λ w _ _. stop-run-is w) (λ w _. refl) (λ w. (tt, to w _ (stops-kept w w.chain w (same-world w)).stays refl)) (λ w. refl)
holds Op.Look = plainly (λ w _ _. refl) (λ w h. absurd (h refl)) (λ w. (tt, to w w (stays w) refl)) (λ w. refl)

-- ---- a call on any machine

tested-by : (b : Bool) (x : Out) (y : After Answer) (w : World) → (b ≡ true → done-by x ≡ y) → done-by (pick b x (told (Gate.refused w Fault.Unsound))) ≡ pick (not b) (after w (Answer.Refused Fault.Unsound)) y
unfolding pick
tested-by true x y w e = e refl
tested-by false x y w e = refl

pub leads-to : (w : World) (o : Operation) → done-by (step w (Do o)) ≡ leads (sheet o.op w)
unfolding step tested call
leads-to w o = tested-by (sound w) (call o.op w) (leads (table_of o.op w)) w ((holds o.op).is w o.within)
