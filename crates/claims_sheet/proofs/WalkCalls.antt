-- Every line of every call: which numbers leave the machine as it was, where 14 stands, and that no slot is emptied.
use Prim.Native.Nat.{ℕ}
use mathlib.Core.Path.{◌≡◌, refl, sym, ap, subst, ◌∙◌}
use mathlib.Core.Bool.{Bool, true, false, not, ◌&&◌, ◌||◌, true≢false, false≢true}
use mathlib.Core.List.{List, [], ◌∷◌, map}
use mathlib.Core.Option.{Option, none, some}
use lib.Dec.{eqb, leb}
use borrow.Author.Tests.{eq-eqb}
use Rattle.lists.specs.Pick.{pick}
use Rattle.heap.specs.Fault.{number_of, word_of}
use Rattle.heap.specs.declared.fault.Fault.{Fault}
use Rattle.heap.specs.declared.heap.ResultKind.{ResultKind}
use Rattle.heap.specs.declared.object.CoroState.{CoroState}
use Rattle.std.specs.Prelude.{Option as RustOption, Some, None}
use Rattle.model.specs.Lists.{each, among}
use Rattle.model.specs.World.{World, with_finalize}
use Rattle.model.specs.Answer as Answers
use Rattle.model.specs.Answer.{step_of}
use Rattle.model.specs.declared.machine.Cont.{Cont}
use Rattle.model.specs.declared.machine.Driver.{Driver}
use Rattle.model.specs.declared.machine.Frame.{Frame}
use Rattle.model.specs.declared.machine.Stop.{Stop}
use Rattle.model.specs.declared.exec.Step.{Step}
use Rattle.model.specs.declared.call.Op.{Op}
use Rattle.model.specs.declared.call.Answer.{Answer}
use Rattle.claims_sheet.specs.Lines.{Line, Lines, leads_from, says_from, line, refuse}
use Rattle.claims_sheet.specs.Words.{no_slot}
use Rattle.claims_sheet.specs.Moves.{pc_stored, put}
use Rattle.claims_sheet.specs.Charging.{bank_back, charged, lost, as_answer, instruction}
use Rattle.claims_sheet.specs.Makings.{no_row, new_word, paid}
use Rattle.claims_sheet.specs.Suspending.{innermost_active}
use Rattle.claims_sheet.specs.Endings.{popped, dynamic, converted, is_object, finish_by, finish_on, conversion, innermost_finished, returned}
use Rattle.claims_sheet.specs.Unwinding as Unwinding
use Rattle.claims_sheet.specs.Unwinding.{left, search, given_pc_stored, error_stored, failed_to}
use Rattle.claims_sheet.specs.OtherCalls as Others
use Rattle.claims_sheet.specs.Sheet.{table_of}
use Rattle.claims_sheet.specs.Sentences.{unchanging, Behind9}
use Rattle.claims_sheet.proofs.Among.{same, and_left, and_right, not-true}
use Rattle.claims_sheet.proofs.Choice.{both}
use Rattle.claims_sheet.proofs.Led.{all}
use Rattle.claims_sheet.proofs.Kept.{Stays, stays, Kept, same-world, set-filled, adds, enters-kept, innermost-kept, returns-kept, converts-kept}
use Rattle.claims_sheet.proofs.Walk as Walk
use Rattle.claims_sheet.proofs.Walk.{EveryLine, by-stop, led-line, map-lines, lacking, Own, Owns}

-- a line of a call on w that stops it with the number m, and leaves x
pub record Fact (w : World) (m : ℕ) (x : World) : Type 0 where
  pub stays : Stays w x
  pub lack : eqb m 14 ≡ true → lacking w ≡ true
  pub calm : among m unchanging ≡ true → x ≡ w

-- ---- an instruction: its gate, its charge, its own lines

module _ (pc : ℕ) (ok : Bool) (own : World → Lines Step) (w : World) (owns : Owns (charged pc w) (own (charged pc w))) where
  abbrev u : World
  u = charged pc w

  charged-stays : Stays w u
  charged-stays = both (λ (x : World). Stays w x) _ (stays w) (both (λ (x : World). Stays w x) _ (stays w) (stays w))

  charged-lacking : lacking u ≡ lacking w
  charged-lacking = both (λ x. lacking x ≡ lacking w) _ refl (both (λ x. lacking x ≡ lacking w) _ refl refl)

  own-fact : (m : ℕ) (x : World) → Own u m x → Fact w m x
  own-fact m x o = record { stays = record { setup = o.kept.stays.setup ∙ charged-stays.setup; full = λ h. o.kept.stays.full (charged-stays.full h) }; lack = λ e. sym charged-lacking ∙ o.lack e; calm = λ e. absurd (true≢false (sym e ∙ o.calm)) }

  own-facts : {A : Type 0} (ts : List (Line A)) → EveryLine (Own u) ts → EveryLine (Fact w) ts
  own-facts [] h = tt
  own-facts (t ∷ ts) h = (λ e. own-fact t.number t.left (h.0 e), own-facts ts h.1)

  still : (m : ℕ) → eqb m 14 ≡ false → Fact w m w
  still m e = record { stays = stays w; lack = λ k. absurd (true≢false (sym k ∙ e)); calm = λ _. refl }

  pub instruction-facts : EveryLine (Fact w) (instruction pc ok own w).tests × Fact w (instruction pc ok own w).done.number (instruction pc ok own w).done.left
  instruction-facts = (
    (
      λ _. still 12 refl,
      (
        λ _. still 13 refl,
        (
          λ _. record { stays = stays w; lack = λ e. absurd (false≢true e); calm = λ e. absurd (false≢true e) },
          (
            λ _. record { stays = (enters-kept w _ _ Driver.Finalize (with_finalize _ (pc_stored pc w)) (record { queue = refl; stays = stays w })).stays; lack = λ e. absurd (false≢true e); calm = λ e. absurd (false≢true e) },
            own-facts (map (as_answer (lost pc w)) (own u).tests) (map-lines (Own u) (lost pc w) (own u).tests owns.0),
          ),
        ),
      ),
    ),
    own-fact (own u).done.number (own u).done.left owns.1,
  )

-- ---- the other calls

abbrev pub Facts : World → Lines Answer → Type 0
Facts w s = EveryLine (Fact w) s.tests × Fact w s.done.number s.done.left

module _ (w : World) where
  -- a refusal that leaves the machine as it was
  pub no : {m : ℕ} {b : Bool} → eqb m 14 ≡ false → b ≡ true → Fact w m w
  no e _ = record { stays = stays w; lack = λ k. absurd (true≢false (sym k ∙ e)); calm = λ _. refl }

  -- a number that is neither 14 nor one that changes nothing
  pub to : {m : ℕ} (x : World) → Stays w x → eqb m 14 || among m unchanging ≡ false → Fact w m x
  to {m} x f h = let n = Walk.none (eqb m 14) (among m unchanging) h in record { stays = f; lack = λ e. absurd (true≢false (sym e ∙ n.0)); calm = λ e. absurd (true≢false (sym e ∙ n.1)) }

  -- 14
  pub is14 : (x : World) → Stays w x → no_slot w ≡ true → Fact w 14 x
  is14 x f e = record { stays = f; lack = λ _. ap (λ t. t || no_row w) e; calm = λ k. absurd (false≢true k) }

  -- finish
  converts : (c : ResultKind) (v : ℕ) (x : World) → Stays w x → no_slot x ≡ no_slot w → EveryLine (Fact w) (conversion c v x)
  converts c v x f e = (λ _. to x f refl, (λ _. to x f refl, (λ h. is14 x f (sym e ∙ and_right (is_object c v) (no_slot x) h), tt)))

  finish-by : (c : Cont) (f : Frame) (fs : List Frame) (r : ResultKind) (v : ℕ) → Facts w (finish_by c f fs r v w)
  finish-by Cont.Entry f fs r v = (tt, to (popped f fs w) (stays w) refl)
  finish-by (Cont.Write dst) f fs r v = (tt, written r)
    where
      written : (r : ResultKind) → Fact w 0 (finish_by (Cont.Write dst) f fs r v w).done.left
      written ResultKind.None = to _ (stays w) refl
      written ResultKind.Dyn = to _ (stays w) refl
      written ResultKind.I64 = to _ (stays w) refl
      written ResultKind.U64 = to _ (stays w) refl
  finish-by (Cont.Dyn dst) f fs r v =
      (converts r v (popped f fs w) (stays w) refl, to (finish_by (Cont.Dyn dst) f fs r v w).done.left (converts-kept w r v (popped f fs w) (record { queue = refl; stays = stays w })).stays refl)
  finish-by (Cont.Value dst) f fs r v = (tt, to (finish_by (Cont.Value dst) f fs r v w).done.left (stays w) refl)
  finish-by Cont.Discard f fs r v = (tt, to (finish_by Cont.Discard f fs r v w).done.left (stays w) refl)
  finish-by Cont.Coro f fs r v = (
    converts r v w (stays w) refl,
    to (finish_by Cont.Coro f fs r v w).done.left (returns-kept w w.chain (dynamic r v w) (popped f fs (converted r v w)) (converts-kept w r v w (same-world w))).stays refl,
  )

  pub finish-on : (fs : List Frame) (r : ResultKind) (v : ℕ) → Facts w (finish_on fs r v w)
  finish-on [] r v = (tt, to w (stays w) refl)
  finish-on (f ∷ fs) r v = finish-by f.cont f fs r v

  -- unwind: from x, which keeps what w keeps
  fails : (d : Driver) (s : Stop) (x : World) → Kept w x → Kept w (failed_to d s x)
  fails (Driver.Resume dst) s x k = k
  fails (Driver.Iter has val iter) s x k = k
  fails Driver.Host s x k = k
  fails Driver.Finalize s x k = k

  searches : (fs : List Frame) (value f pc : ℕ) (x : World) → Kept w x → EveryLine (Fact w) (search fs value f pc x)
  searches [] value f pc x k = (λ _. to x k.stays refl, tt)
  searches (y ∷ ys) value f pc x k = (
    λ _. to (bank_back x) k.stays refl,
    (
      λ _. to (put (Unwinding.taker (Unwinding.takers y x)).catch value (pc_stored (Unwinding.taker (Unwinding.takers y x)).target (paid x))) (both (λ (z : World). Stays w z) _ k.stays (both (λ (z : World). Stays w z) _ k.stays k.stays)) refl,
      (
        λ _. to (popped y ys x) k.stays refl,
        (
          λ _. to (returned x.chain 0 (popped y ys x)) (returns-kept w x.chain 0 (popped y ys x) k).stays refl,
          (
            λ _. to (Unwinding.failed x.chain value f pc (popped y ys x)) (fails (innermost_active x.chain).driver (Stop.Failed value f pc) _ (innermost-kept w x.chain CoroState.Failed value (popped y ys x) k)).stays refl,
            searches ys value f pc (left y ys value x) (both (λ z. Kept w z) _ (innermost-kept w x.chain CoroState.Failed value (popped y ys x) k) k),
          ),
        ),
      ),
    ),
  )

-- unwind's numbers: the first test leaves 1 to 10 and 17
raisable : (e : Fault) → eqb (number_of e) 0 || (leb 11 (number_of e) && not (eqb (number_of e) 17)) ≡ false → eqb (number_of e) 14 || among (number_of e) unchanging ≡ false
raisable Fault.None h = refl
raisable Fault.NullReference h = refl
raisable Fault.TypeError h = refl
raisable Fault.InvalidCoroState h = refl
raisable Fault.StackOverflow h = refl
raisable Fault.CannotSuspend h = refl
raisable Fault.CloseIgnored h = refl
raisable Fault.ArithOverflow h = refl
raisable Fault.NoScheduler h = refl
raisable Fault.OutOfMemory h = refl
raisable Fault.OutOfFuel h = refl
raisable Fault.Unsound h = absurd (true≢false h)
raisable Fault.NoFrame h = absurd (true≢false h)
raisable Fault.BadOperand h = absurd (true≢false h)
raisable Fault.Full h = absurd (true≢false h)
raisable Fault.Busy h = absurd (true≢false h)
raisable Fault.GrantTooLarge h = absurd (true≢false h)
raisable (Fault.Throw v) h = refl

module _ (e : Fault) (pc : RustOption ℕ) (w : World) where
  abbrev z : World
  z = given_pc_stored pc w

  given-kept : Kept w z
  given-kept = go pc
    where
      go : (pc : RustOption ℕ) → Kept w (given_pc_stored pc w)
      go None = same-world w
      go (Some p) = same-world w

  given-slots : no_slot z ≡ no_slot w
  given-slots = go pc
    where
      go : (pc : RustOption ℕ) → no_slot (given_pc_stored pc w) ≡ no_slot w
      go None = refl
      go (Some p) = refl

  abbrev raised : List (Line Answer)
  raised = pick (leb (number_of e) 8) (Unwinding.search_from_top (new_word z) (error_stored (number_of e) z)) (Unwinding.search_from_top (word_of e) z)

  raised-facts : EveryLine (Fact w) raised
  raised-facts =
      both (λ (ts : List (Line Answer)). EveryLine (Fact w) ts) (leb (number_of e) 8)
      (searches w z.frames (new_word z) _ _ (error_stored (number_of e) z) (adds w _ z.setup.costs.error z refl given-kept))
      (searches w z.frames (word_of e) _ _ z given-kept)

  -- the first test stops it, or the others go by their numbers
  pub unwind-fact : Fact w (says_from (table_of (Op.Unwind e pc) w).tests (table_of (Op.Unwind e pc) w).done) (leads_from (table_of (Op.Unwind e pc) w).tests (table_of (Op.Unwind e pc) w).done).world
  unwind-fact =
      by-stop (λ m x. Fact w m x) (eqb (number_of e) 0 || (leb 11 (number_of e) && not (eqb (number_of e) 17))) _ _ _ _ (no w refl)
      (λ h.
      led-line (λ m x. Fact w m x)
      (line (number_of e) (eqb (number_of e) 9 || eqb (number_of e) 10) (Answer.Refused e) z ∷ refuse 9 _ z ∷ refuse 14 (leb (number_of e) 8 && no_slot z) z ∷ raised) (line (number_of e) true (Answer.Refused e) z)
      (λ _. to w z given-kept.stays (raisable e h), (λ _. to w z given-kept.stays refl, (λ k. is14 w z given-kept.stays (sym given-slots ∙ and_right (leb (number_of e) 8) (no_slot z) k), raised-facts)))
      (to w z given-kept.stays (raisable e h)))

-- ---- from its lines to what a call leaves

pub by : (w : World) (s : Lines Answer) → Facts w s → Fact w (says_from s.tests s.done) (leads_from s.tests s.done).world
by w s h = led-line (λ m x. Fact w m x) s.tests s.done h.0 h.1

pub granted-facts : (w : World) (b : RustOption ℕ) (n : ℕ) → Fact w 0 (Others.granted b n w)
granted-facts w None n = to w (Others.granted None n w) (stays w) refl
granted-facts w (Some m) n = to w (Others.granted (Some m) n w) (stays w) refl

pub task-facts : (v : ℕ) (w : World) → Facts w (Others.spawn_task v w)
task-facts v w = ((no w refl, tt), to w (Others.spawn_task v w).done.left (both (λ (x : World). Stays w x) _ (record { setup = refl; full = λ h. set-filled w.slots _ _ refl h }) (stays w)) refl)

-- ---- a line's number is its answer's; only an instruction's answer has a Step, and not with a number that changes nothing

abbrev pub is_none : Option Step → Bool
is_none none = true
is_none (some s) = false

abbrev pub bare : Answer → Bool
bare a = is_none (step_of a)

abbrev pub tells : Line Answer → Bool
tells l = eqb (Answers.number_of l.answer) l.number

abbrev pub fit : Bool → Answer → Bool
fit i a = bare a || (i && not (among (Answers.number_of a) unchanging))

abbrev pub tell : Lines Answer → Bool
tell s = each tells s.tests && tells s.done

abbrev pub rights : Bool → Lines Answer → Bool
rights i s = tell s && all (fit i) s.tests s.done

finish-right : (c : Cont) (f : Frame) (fs : List Frame) (k : ResultKind) (v : ℕ) (w : World) → rights false (finish_by c f fs k v w) ≡ true
finish-right Cont.Entry f fs k v w = refl
finish-right (Cont.Write r) f fs k v w = refl
finish-right (Cont.Dyn r) f fs k v w = refl
finish-right (Cont.Value r) f fs k v w = refl
finish-right Cont.Discard f fs k v w = refl
finish-right Cont.Coro f fs k v w = refl

pub finish-on-right : (fs : List Frame) (k : ResultKind) (v : ℕ) (w : World) → rights false (finish_on fs k v w) ≡ true
finish-on-right [] k v w = refl
finish-on-right (f ∷ fs) k v w = finish-right f.cont f fs k v w

abbrev found_right : List (Line Answer) → Bool
found_right ts = each tells ts && each (λ l. fit false l.answer) ts

search-right : (fs : List Frame) (value f pc : ℕ) (w : World) → found_right (search fs value f pc w) ≡ true
search-right [] value f pc w = refl
search-right (x ∷ xs) value f pc w = search-right xs value f pc (left x xs value w)

pub unwind-right : (e : Fault) (pc : RustOption ℕ) (w : World) → rights false (Unwinding.unwind e pc w) ≡ true
unwind-right e pc w = λ i. ((own i && and_left (each tells (raised e pc w)) _ found i) && own i) && (and_right (each tells (raised e pc w)) _ found i && true)
  where
    own : eqb (number_of e) (number_of e) ≡ true
    own = eq-eqb (number_of e) (number_of e) refl

    found : found_right (raised e pc w) ≡ true
    found = both (λ (ts : List (Line Answer)). found_right ts ≡ true) (leb (number_of e) 8)
        (search-right (z e pc w).frames (new_word (z e pc w)) _ _ _) (search-right (z e pc w).frames (word_of e) _ _ _)

-- ---- 14 behind 9

pub never : {A : Type 0} → false ≡ true → A
never h = absurd (false≢true h)

pub no-14 : (l : Line Answer) (ts : List (Line Answer)) → each (λ t. not (eqb t.number 14)) ts ≡ true → Behind9 l ts
no-14 l [] h = tt
no-14 l (t ∷ ts) h =
    let is = eqb t.number 14 in (λ e. never (sym (not-true is (and_left (not is) _ h)) ∙ and_left is t.stops e), no-14 t ts (and_right (not is) _ h))

search-14 : (fs : List Frame) (value f pc : ℕ) (w : World) (l : Line Answer) → Behind9 l (search fs value f pc w)
search-14 [] value f pc w l = (never, tt)
search-14 (x ∷ xs) value f pc w l = (never, (never, (never, (never, (never, search-14 xs value f pc (left x xs value w) _)))))

finish-14 : (c : Cont) (f : Frame) (fs : List Frame) (k : ResultKind) (v : ℕ) (w : World) (l : Line Answer) → Behind9 l (finish_by c f fs k v w).tests
finish-14 Cont.Entry f fs k v w l = tt
finish-14 (Cont.Write r) f fs k v w l = tt
finish-14 (Cont.Dyn r) f fs k v w l = (never, (never, (λ _. (refl, refl), tt)))
finish-14 (Cont.Value r) f fs k v w l = tt
finish-14 Cont.Discard f fs k v w l = tt
finish-14 Cont.Coro f fs k v w l = (never, (never, (λ _. (refl, refl), tt)))

pub finish-on-14 : (fs : List Frame) (k : ResultKind) (v : ℕ) (w : World) (l : Line Answer) → Behind9 l (finish_on fs k v w).tests
finish-on-14 [] k v w l = tt
finish-on-14 (f ∷ fs) k v w l = finish-14 f.cont f fs k v w l

nine-ten : {A : Type 0} (n : ℕ) → eqb n 14 && (eqb n 9 || eqb n 10) ≡ true → A
nine-ten n h = never (subst (λ m. eqb m 9 || eqb m 10 ≡ true) (same n 14 (and_left (eqb n 14) _ h)) (and_right (eqb n 14) _ h))

pub unwind-14 : (e : Fault) (pc : RustOption ℕ) (w : World) (l : Line Answer) → Behind9 l (Unwinding.unwind e pc w).tests
unwind-14 e pc w l =
    let n = number_of e in
    let y = z e pc w in
    let found = both (λ (ts : List (Line Answer)). Behind9 (refuse 14 (leb n 8 && no_slot y) y) ts) (leb n 8) (search-14 y.frames (new_word y) _ _ _ _) (search-14 y.frames (word_of e) _ _ _ _) in
    (never, (nine-ten n, (never, (λ _. (refl, refl), found))))
