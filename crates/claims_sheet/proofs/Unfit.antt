-- A suspended coroutine that does not fit stays as it was at every instruction.
use Prim.Native.Nat.{ℕ, zero, suc, ◌+◌, ◌-◌, ◌/◌, ◌%◌, ◌^◌}
use mathlib.Core.Path.{◌≡◌, refl, sym, ap, ◌∙◌}
use mathlib.Core.Bool.{Bool, true, false, not, ◌&&◌, ◌||◌, true≢false, false≢true}
use mathlib.Core.List.{List, [], ◌∷◌, ◌++◌, map}
use lib.ListN.{length, get_or, drop}
use lib.Seq.{get_or-set_other}
use lib.Dec.{eqb, ltb}
use Rattle.lists.specs.Pick.{pick}
use Rattle.heap.specs.Table.{Slot, slot}
use Rattle.std.specs.Prelude.{Option, Some, None}
use Rattle.heap.specs.declared.object.CoroState.{CoroState}
use Rattle.model.specs.Lists.{is_nil, each, distinct}
use Rattle.model.specs.Object.{Core, Rest, Object, as_coro}
use Rattle.model.specs.World.{World, After}
use Rattle.model.specs.Heap.{coro}
use Rattle.model.specs.Sound.{runs, coros, runs_among, running_ok, sound}
use Rattle.model.specs.Call.{Operation}
use Rattle.model.specs.declared.machine.Active.{Active}
use Rattle.model.specs.declared.machine.Driver.{Driver}
use Rattle.model.specs.declared.machine.Frame.{Frame}
use Rattle.model.specs.declared.machine.Stop.{Stop}
use Rattle.model.specs.declared.exec.Step.{Step}
use Rattle.model.specs.declared.call.Op.{Op}
use Rattle.model.specs.declared.call.Answer.{Answer}
use Rattle.claims_sheet.specs.Setters.{with_finalize, with_finalizing}
use Rattle.claims_sheet.specs.Lines.{Line, Lines, leads_from, refuse}
use Rattle.claims_sheet.specs.Does.{does}
use Rattle.claims_sheet.specs.Words.{word, lies, arguments, is_reference, found, kind, is_nothing, is_coroutine, core_of, is_in, state, suspended, too_high, no_coroutine}
use Rattle.claims_sheet.specs.Moves.{at_pc, pc_stored, replaced, iterator, marked, entered_as, finished_with}
use Rattle.claims_sheet.specs.Charging.{reserve, fuelled, queue_from, closable, searches, starts, cleanup, charged, lost, as_answer, instruction}
use Rattle.claims_sheet.specs.Instructions as Table
use Rattle.claims_sheet.specs.Makings as Makings
use Rattle.claims_sheet.specs.Suspending as Suspending
use Rattle.claims_sheet.specs.Suspending.{innermost_active, suspended_with, delivered}
use Rattle.claims_sheet.specs.Yields as Yields
use Rattle.claims_sheet.specs.Sheet.{table_of, lie, window_lies}
use Rattle.claims_sheet.specs.Answers.{is_instruction}
use Rattle.claims_sheet.proofs.Among.{and_left, and_right, not-true, not-false, and-true}
use Rattle.claims_sheet.proofs.Choice.{both, by-test}
use Rattle.claims_sheet.proofs.Rules.{running}
use Rattle.claims_sheet.proofs.Moved.{coro-is}
use Rattle.claims_sheet.proofs.Led.{InTurn, led-in-turn, follows, lives}
use Rattle.claims_sheet.proofs.Sheet.{leads-to}

-- ---- two words of which a test finds one

abbrev none : Slot Object
none = slot 0 Object.Empty

in-slot : (w : World) (v : ℕ) → is_nothing (found w v) ≡ false → found w v ≡ (get_or w.slots (v % 2 ^ 32) none).object
in-slot w v = by-test (λ o. is_nothing o ≡ false → o ≡ (get_or w.slots (v % 2 ^ 32) none).object) _ (λ _ _. refl) (λ _ h. absurd (true≢false h))

pub object : (o : Object) → is_coroutine o ≡ true → is_nothing o ≡ false
object o h = sym (and-true (is_nothing o)) ∙ lives o true h

abbrev finding : ℕ → Slot Object → Object
finding c s = pick (is_reference c && eqb s.tag (c / 2 ^ 32 % 2 ^ 16)) s.object Object.Empty

module _ (p : Object → Bool) (w : World) (c v : ℕ) (a : is_nothing (found w c) ≡ false) (b : is_nothing (found w v) ≡ false) (fails : p (found w c) ≡ false) (passes : p (found w v) ≡ true) where
  apart : c % 2 ^ 32 ≡ v % 2 ^ 32 → ⊥
  apart e = true≢false (sym passes ∙ (ap p (in-slot w v b ∙ (ap (λ i. (get_or w.slots i none).object) (sym e) ∙ sym (in-slot w c a))) ∙ fails))

  pub elsewhere : (o : Object) → found (replaced v o w) c ≡ found w c
  elsewhere o = ap (finding c) (get_or-set_other w.slots (v % 2 ^ 32) (c % 2 ^ 32) _ none apart)

longer : (xs ys : List (Slot Object)) (i : ℕ) → is_nothing (get_or xs i none).object ≡ false → get_or (xs ++ ys) i none ≡ get_or xs i none
longer [] ys i h = absurd (true≢false h)
longer (x ∷ xs) ys zero h = refl
longer (x ∷ xs) ys (suc i) h = longer xs ys i h

appended : (w : World) (c : ℕ) (o : Object) (bytes : ℕ) → is_coroutine (found w c) ≡ true → found (Makings.stored o bytes w) c ≡ found w c
appended w c o bytes h = ap (finding c) (longer w.slots (slot 0 o ∷ []) (c % 2 ^ 32) (ap is_nothing (sym (in-slot w c (object (found w c) h))) ∙ object (found w c) h))

-- ---- an instruction's own lines, in u

-- too many frames or words to stand above those of u
abbrev high : World → Object → Bool
high u o = ltb u.setup.limits.depth (length u.frames + length (core_of o).frames) || ltb u.setup.limits.stack (length u.stack + length (core_of o).regs)

abbrev runs_now : Object → Bool
runs_now o = is_coroutine o && is_in (CoroState.Running ∷ []) (core_of o).state

pub record Waits (c : ℕ) (u : World) : Type 0 where
  pub there : is_coroutine (found u c) ≡ true
  pub waits : suspended (state u c) ≡ true
  pub unfit : (pc : ℕ) → high (pc_stored pc u) (found u c) ≡ true
  pub inner : is_nil u.chain ≡ false → runs_now (found u (innermost_active u.chain).coro) ≡ true

module _ (c : ℕ) where
  abbrev Same : World → World → Type 0
  Same u x = found x c ≡ found u c

  abbrev Turns : World → Lines Step → Type 0
  Turns u s = InTurn (λ (a : After Step). Same u a.world) s.tests s.done

  module _ (u : World) (h : Waits c u) where
    mine : is_nothing (found u c) ≡ false
    mine = object (found u c) h.there

    enters : (r : Rest) (pc v : ℕ) (d : Driver) → no_coroutine u v ≡ false → too_high (pc_stored pc u) v ≡ false → Same u (entered_as r v d (pc_stored pc u))
    enters r pc v d k f =
        elsewhere (λ o. not (high (pc_stored pc u) o)) u c v mine (object (found u v) (not-false (is_coroutine (found u v)) k)) (ap not (h.unfit pc)) (ap not f) _

    created : (v : ℕ) → is_in (CoroState.Created ∷ []) (state u v) ≡ true → (s : CoroState) (x : ℕ) → Same u (finished_with v s x u)
    created v e s x =
        by-test (λ y. Same u y) (is_coroutine (found u v))
        (λ k. elsewhere (λ o. is_in (CoroState.Created ∷ []) (core_of o).state) u c v mine (object (found u v) k) (not-true _ (follows suspended (λ t. not (is_in (CoroState.Created ∷ []) t)) refl (state u c) h.waits)) e _) (λ _. refl)

  -- an iterator's mark
  iterates : (o : Object) → is_coroutine o ≡ true → eqb (kind o) 3 ≡ false
  iterates Object.Empty e = absurd (false≢true e)
  iterates (Object.Func n) e = refl
  iterates (Object.Int n) e = refl
  iterates (Object.Iter s d k) e = absurd (false≢true e)
  iterates (Object.Error e n p x) q = refl
  iterates (Object.Coro k r) e = refl

  something : (o : Object) → eqb (kind o) 3 ≡ true → is_nothing o ≡ false
  something Object.Empty e = absurd (false≢true e)
  something (Object.Func n) e = refl
  something (Object.Int n) e = refl
  something (Object.Iter s d k) e = refl
  something (Object.Error e n p x) q = refl
  something (Object.Coro k r) e = refl

  marks : (x : World) (v : ℕ) (f : Bool → Bool) (g : Option ℕ → Option ℕ) → is_coroutine (found x c) ≡ true → Same x (marked v f g x)
  marks x v f g e =
      by-test (λ y. Same x y) (eqb (kind (found x v)) 3)
      (λ k. elsewhere (λ o. eqb (kind o) 3) x c v (object (found x c) e) (something (found x v) k) (iterates (found x c) e) k (iterator f g (found x v))) (λ _. refl)

  delivers : (d : Driver) (payload key : ℕ) (s : Stop) (x : World) → is_coroutine (found x c) ≡ true → Same x (delivered d payload key s x)
  delivers (Driver.Resume dst) payload key s x e = refl
  delivers (Driver.Iter has val iter) payload key s x e = marks x iter (λ d. d) (λ _. Some key) e
  delivers Driver.Host payload key s x e = refl
  delivers Driver.Finalize payload key s x e = refl

  module _ (u : World) (h : Waits c u) where
    suspends : (k : Core) (r : Rest) → is_nil u.chain ≡ false → Same u (suspended_with k r u)
    suspends k r e =
        let i = (innermost_active u.chain).coro in
        elsewhere runs_now u c i (mine u h) (object (found u i) (and_left (is_coroutine (found u i)) _ (h.inner e)))
        (ap (λ b. b && is_in (CoroState.Running ∷ []) (state u c)) h.there ∙ not-true _ (follows suspended (λ t. not (is_in (CoroState.Running ∷ []) t)) refl (state u c) h.waits)) (h.inner e) (Object.Coro k r)

    resume-turns : (pc dst r src : ℕ) → Turns u (Table.resume pc dst r src u)
    resume-turns pc dst r src = (
      λ _. refl,
      λ _. (λ _. refl, λ k. (λ _. refl, λ _. (λ _. refl, λ f. both (λ y. Same u y) _ (enters u h _ pc (word u r) (Driver.Resume dst) k f) (enters u h _ pc (word u r) (Driver.Resume dst) k f)))),
    )

    throw-turns : (pc dst r src : ℕ) → Turns u (Table.resume_throw pc dst r src u)
    throw-turns pc dst r src = (
      λ _. refl,
      λ _. (λ _. refl, λ k. (λ e. created u h (word u r) e CoroState.Failed (word u src), λ _. (λ _. refl, λ _. (λ _. refl, λ f. enters u h _ pc (word u r) (Driver.Resume dst) k f)))),
    )

    close-turns : (pc dst r src : ℕ) → Turns u (Table.coro_close pc dst r src u)
    close-turns pc dst r src = (
      λ _. refl,
      λ _. (λ _. refl, λ k. (λ _. refl, λ _. (λ e. created u h (word u r) e CoroState.Returned 0, λ _. (λ _. refl, λ _. (λ _. refl, λ f. enters u h _ pc (word u r) (Driver.Resume dst) k f))))),
    )

    next-turns : (pc has iter val src : ℕ) → Turns u (Table.iter_next pc has iter val src u)
    next-turns pc has iter val src = (
      λ _. refl,
      λ _. (
        λ _. refl,
        λ k. (
          λ _. marks u (word u iter) (λ _. true) (λ o. o) h.there,
          λ _. (λ _. refl, λ _. (λ _. refl, λ _. (λ _. refl, λ f. both (λ y. Same u y) _ (enters u h _ pc (word u src) (Driver.Iter has val (word u iter)) k f) (enters u h _ pc (word u src) (Driver.Iter has val (word u iter)) k f)))),
        ),
      ),
    )

    made-same : (f closure : ℕ) (args : List ℕ) → Same u (Makings.made f closure args u)
    made-same f closure args = appended u c _ (Makings.bytes u f) h.there

    new-turns : (dst f argc : ℕ) → Turns u (Makings.coro_new dst f argc u)
    new-turns dst f argc = (λ _. refl, λ _. (λ _. refl, λ _. (λ _. refl, λ _. made-same f 0 (arguments u dst argc))))

    indirect-turns : (v argc : ℕ) (more : List (Line Step)) (d : Line Step) → InTurn (λ (a : After Step). Same u a.world) more d → InTurn (λ (a : After Step). Same u a.world) (Makings.indirect v argc u more) d
    indirect-turns v argc more d k = (λ _. refl, λ _. (λ _. refl, λ _. (λ _. refl, λ _. (λ _. refl, λ _. (λ _. refl, λ _. (λ _. refl, λ _. (λ _. refl, λ _. k)))))))

    new-indirect-turns : (dst r argc : ℕ) → Turns u (Makings.coro_new_indirect dst r argc u)
    new-indirect-turns dst r argc = indirect-turns (word u r) argc [] (Makings.coro_new_indirect dst r argc u).done (made-same (Makings.callee u (word u r)) (word u r) (arguments u dst argc))

    spawn-turns : (pc dst r argc : ℕ) → Turns u (Makings.spawn pc dst r argc u)
    spawn-turns pc dst r argc =
        let m = made-same (Makings.callee u (word u r)) (word u r) (arguments u dst argc) in
        let p : Same u (Makings.paid (Makings.made (Makings.callee u (word u r)) (word u r) (arguments u dst argc) u)) = both (λ y. Same u y) _ m (both (λ y. Same u y) _ m m) in
        (λ _. refl, λ _. indirect-turns (word u r) argc (drop 8 (Makings.spawn pc dst r argc u).tests) (Makings.spawn pc dst r argc u).done (λ _. m, λ _. (λ _. p, λ _. p)))

  yields-turns : (u v : World) → Waits c v → Same u v → is_nil v.chain ≡ false → (pc dst payload key largest : ℕ) →
      InTurn (λ (a : After Step). Same u a.world) (Yields.yields pc dst payload key largest v) (Yields.yield_ends pc dst payload key largest v)
  yields-turns u v h s e pc dst payload key largest =
      let z = pc_stored pc v in
      let y : Same v (Yields.suspended_by_yield dst payload key largest z) = suspends v h _ _ e in
      (λ _. s, λ _. (λ _. y ∙ s, λ _. delivers (innermost_active z.chain).driver payload key (pick (Suspending.rest_here z).closing Stop.CloseIgnored (Stop.Yielded payload)) (Yields.suspended_by_yield dst payload key largest z) (ap is_coroutine y ∙ h.there) ∙ (y ∙ s)))

  module _ (u : World) (h : Waits c u) where
    keyed-waits : is_nil u.chain ≡ false → (b : Bool) (n bytes : ℕ) → let v = pick b (Makings.stored (Object.Int n) bytes u) u in Waits c v × Same u v × (is_nil v.chain ≡ false)
    keyed-waits e b n bytes = both (λ v. Waits c v × Same u v × (is_nil v.chain ≡ false)) b (longer-waits, same, e) (h, refl, e)
      where
        same : Same u (Makings.stored (Object.Int n) bytes u)
        same = appended u c (Object.Int n) bytes h.there

        longer-waits : Waits c (Makings.stored (Object.Int n) bytes u)
        longer-waits =
            record {
              there = ap is_coroutine same ∙ h.there;
              waits = ap (λ x. suspended (core_of x).state) same ∙ h.waits;
              unfit = λ pc. ap (high (pc_stored pc u)) same ∙ h.unfit pc;
              inner = λ k. ap runs_now (appended u (innermost_active u.chain).coro (Object.Int n) bytes (and_left (is_coroutine (found u (innermost_active u.chain).coro)) _ (h.inner k))) ∙ h.inner k;
            }

    yield-turns : (pc dst src : ℕ) → Turns u (Yields.yield pc dst src u)
    yield-turns pc dst src = (
      λ _. refl,
      λ e. (
        λ _. refl,
        λ _. (
          λ _. refl,
          λ _. (
            λ _. refl,
            λ _. let k = keyed-waits e (Yields.is_large (Yields.key_bits u)) (Yields.key_bits u) u.setup.costs.int in yields-turns u (Yields.keyed u) k.0 k.1 k.2 pc dst (word u src) (Yields.key_word u) (Yields.key_bits u),
          ),
        ),
      ),
    )

    yield-kv-turns : (pc dst src key : ℕ) → Turns u (Yields.yield_kv pc dst src key u)
    yield-kv-turns pc dst src key = (λ _. refl, λ e. yields-turns u u h refl e pc dst (word u src) (word u key) (Yields.raised_largest (Suspending.rest_here u).largest (Yields.integer_of u (word u key))))

    await-turns : (pc dst src : ℕ) → Turns u (Yields.await pc dst src u)
    await-turns pc dst src = (
      λ _. refl,
      λ e.
          let z = pc_stored pc u in
          let y : Same u (Yields.suspended_by_await dst (word u src) z) = suspends u h _ _ e in
          (λ _. refl, λ _. (λ _. y, λ _. delivers (innermost_active z.chain).driver (word u src) 0 (Stop.Awaiting (word u src)) (Yields.suspended_by_await dst (word u src) z) (ap is_coroutine y ∙ h.there) ∙ y)),
    )

-- ---- every instruction

pub record Turned (c : ℕ) (s : World → Lines Answer) : Type 0 where
  pub pc : ℕ
  pub operands : World → Bool
  pub own : World → Lines Step
  pub is : (w : World) → s w ≡ instruction pc (operands w) own w
  pub turns : (u : World) → Waits c u → Turns c u (own u)

turned : (c : ℕ) (o : Op) → is_instruction o ≡ true → Turned c (table_of o)
turned c (Op.CoroNew pc dst f argc) h = record { pc = pc; operands = λ w. lies w dst && window_lies dst argc w && Makings.is_function w f; own = Makings.coro_new dst f argc; is = λ w. refl; turns = λ u k. new-turns c u k dst f argc }
turned c (Op.CoroNewIndirect pc dst r argc) h = record { pc = pc; operands = λ w. lie (dst ∷ r ∷ []) w && window_lies dst argc w; own = Makings.coro_new_indirect dst r argc; is = λ w. refl; turns = λ u k. new-indirect-turns c u k dst r argc }
turned c (Op.Spawn pc dst r argc) h = record { pc = pc; operands = λ w. lie (dst ∷ r ∷ []) w && window_lies dst argc w; own = Makings.spawn pc dst r argc; is = λ w. refl; turns = λ u k. spawn-turns c u k pc dst r argc }
turned c (Op.Yield pc dst src) h = record { pc = pc; operands = λ w. lie (dst ∷ src ∷ []) w; own = Yields.yield pc dst src; is = λ w. refl; turns = λ u k. yield-turns c u k pc dst src }
turned c (Op.YieldKv pc dst src key) h = record { pc = pc; operands = λ w. lie (dst ∷ src ∷ key ∷ []) w; own = Yields.yield_kv pc dst src key; is = λ w. refl; turns = λ u k. yield-kv-turns c u k pc dst src key }
turned c (Op.Await pc dst src) h = record { pc = pc; operands = λ w. lie (dst ∷ src ∷ []) w; own = Yields.await pc dst src; is = λ w. refl; turns = λ u k. await-turns c u k pc dst src }
turned c (Op.Resume pc dst r src) h = record { pc = pc; operands = λ w. lie (dst ∷ r ∷ src ∷ []) w; own = Table.resume pc dst r src; is = λ w. refl; turns = λ u k. resume-turns c u k pc dst r src }
turned c (Op.ResumeThrow pc dst r src) h = record { pc = pc; operands = λ w. lie (dst ∷ r ∷ src ∷ []) w; own = Table.resume_throw pc dst r src; is = λ w. refl; turns = λ u k. throw-turns c u k pc dst r src }
turned c (Op.CoroClose pc dst r src) h = record { pc = pc; operands = λ w. lie (dst ∷ r ∷ src ∷ []) w; own = Table.coro_close pc dst r src; is = λ w. refl; turns = λ u k. close-turns c u k pc dst r src }
turned c (Op.CoroStatus pc dst r) h = record { pc = pc; operands = λ w. lie (dst ∷ r ∷ []) w; own = Table.coro_status dst r; is = λ w. refl; turns = λ u k. (λ _. refl, λ _. (λ _. refl, λ _. refl)) }
turned c (Op.CoroCurrent pc dst) h = record { pc = pc; operands = λ w. lie (dst ∷ []) w; own = Table.coro_current dst; is = λ w. refl; turns = λ u k. refl }
turned c (Op.CoroKey pc dst r) h = record { pc = pc; operands = λ w. lie (dst ∷ r ∷ []) w; own = Table.coro_key dst r; is = λ w. refl; turns = λ u k. (λ _. refl, λ _. (λ _. refl, λ _. refl)) }
turned c (Op.CoroResult pc dst r) h = record { pc = pc; operands = λ w. lie (dst ∷ r ∷ []) w; own = Table.coro_result dst r; is = λ w. refl; turns = λ u k. (λ _. refl, λ _. (λ _. refl, λ _. (λ _. refl, λ _. refl))) }
turned c (Op.IterNext pc has iter val src) h = record { pc = pc; operands = λ w. lie (has ∷ iter ∷ val ∷ src ∷ []) w; own = Table.iter_next pc has iter val src; is = λ w. refl; turns = λ u k. next-turns c u k pc has iter val src }
turned c (Op.Finish kind v) h = absurd (false≢true h)
turned c (Op.Unwind f pc) h = absurd (false≢true h)
turned c (Op.SpawnTask v) h = absurd (false≢true h)
turned c (Op.HostCall f) h = absurd (false≢true h)
turned c (Op.HostEntry r v) h = absurd (false≢true h)
turned c (Op.FunctionCall pc f cont) h = absurd (false≢true h)
turned c (Op.PutWord r v) h = absurd (false≢true h)
turned c (Op.MakeIterator v) h = absurd (false≢true h)
turned c Op.TakeOutcome h = absurd (false≢true h)
turned c (Op.HandOver v) h = absurd (false≢true h)
turned c (Op.Grant n) h = absurd (false≢true h)
turned c Op.StopRun h = absurd (false≢true h)
turned c Op.Look h = absurd (false≢true h)

answered : (Q : World → Type 0) (n : ℕ) (ts : List (Line Step)) (d : Line Step) → InTurn (λ (a : After Step). Q a.world) ts d → InTurn (λ (a : After Answer). Q a.world) (map (as_answer n) ts) (as_answer n d)
answered Q n [] d h = h
answered Q n (t ∷ ts) d h = (h.0, λ e. answered Q n ts d (h.1 e))

-- ---- the charge

pub as_many : (pc : ℕ) (fs : List Frame) → length (at_pc pc fs) ≡ length fs
as_many pc [] = refl
as_many pc (f ∷ fs) = refl

opens : (z : World) (q : List ℕ) → is_nil (queue_from z q) ≡ false → closable z (get_or (queue_from z q) 0 0) ≡ true
opens z [] h = absurd (true≢false h)
opens z (x ∷ q) h = by-test (λ l. is_nil l ≡ false → closable z (get_or l 0 0) ≡ true) (closable z x) (λ e _. e) (λ _. opens z q) h

pub unclosable : (a b e : Bool) → e ≡ true → a && (b && not e) ≡ false
unclosable true true true h = refl
unclosable true false true h = refl
unclosable false b true h = refl
unclosable a b false h = absurd (false≢true h)

runs-is : (o : Object) → runs (as_coro o) ≡ true → runs_now o ≡ true
runs-is Object.Empty h = absurd (false≢true h)
runs-is (Object.Func f) h = absurd (false≢true h)
runs-is (Object.Int n) h = absurd (false≢true h)
runs-is (Object.Iter s d k) h = absurd (false≢true h)
runs-is (Object.Error e f p x) h = absurd (false≢true h)
runs-is (Object.Coro k r) h = now k.state h
  where
    now : (s : CoroState) → runs (as_coro (Object.Coro (record { state = s; regs = []; frames = []; waiting = 0 }) r)) ≡ true → is_in (CoroState.Running ∷ []) s ≡ true
    now CoroState.Created h = absurd (false≢true h)
    now CoroState.Running h = refl
    now CoroState.Yielded h = absurd (false≢true h)
    now CoroState.Awaiting h = absurd (false≢true h)
    now CoroState.Returned h = absurd (false≢true h)
    now CoroState.Failed h = absurd (false≢true h)

module _ (w : World) (c : ℕ) (s : sound w ≡ true) (there : is_coroutine (found w c) ≡ true) (waits : suspended (state w c) ≡ true) (unfit : too_high w c ≡ true) where
  -- whatever pc is stored
  unfits : (fs : List Frame) → length fs ≡ length w.frames → ltb w.setup.limits.depth (length fs + length (core_of (found w c)).frames) || ltb w.setup.limits.stack (length w.stack + length (core_of (found w c)).regs) ≡ true
  unfits fs e = ap (λ n. ltb w.setup.limits.depth (n + length (core_of (found w c)).frames) || ltb w.setup.limits.stack (length w.stack + length (core_of (found w c)).regs)) e ∙ unfit

  inner-runs : (chain : List Active) → each (λ a. runs (coro w a.coro)) chain ≡ true → is_nil chain ≡ false → runs_now (found w (innermost_active chain).coro) ≡ true
  inner-runs [] h e = absurd (true≢false e)
  inner-runs (a ∷ chain) h e = runs-is (found w a.coro) (ap runs (sym (coro-is w a.coro)) ∙ and_left (runs (coro w a.coro)) _ h)

  inner : is_nil w.chain ≡ false → runs_now (found w (innermost_active w.chain).coro) ≡ true
  unfolding running_ok
  inner =
      inner-runs w.chain
      (and_left (each (λ x. runs (coro w x.coro)) w.chain) (distinct (coros w.chain))
      (and_left (each (λ x. runs (coro w x.coro)) w.chain && distinct (coros w.chain)) (runs_among (coros w.chain) 0 w.slots) (running w s)))

  module _ (pc : ℕ) where
    begins : starts pc w ≡ true → found (cleanup pc w) c ≡ found w c
    begins h =
        let z = pc_stored pc w in
        let v = get_or (queue_from z w.finalize) 0 0 in
        let o = opens z w.finalize (not-true (is_nil (queue_from z w.finalize)) (and_right (searches w) _ h)) in
        elsewhere (λ x. is_coroutine x && (suspended (core_of x).state && not (high z x))) w c v (object (found w c) there) (object (found w v) (and_left (is_coroutine (found w v)) _ o))
        (unclosable (is_coroutine (found w c)) (suspended (state w c)) (high z (found w c)) (unfits (at_pc pc w.frames) (as_many pc w.frames))) o _

    abbrev Still : World → Type 0
    Still u = Waits c u × (found u c ≡ found w c)

    plain : (n : ℕ) (bank : Option ℕ) (ready : Bool) → Still (fuelled n bank ready w)
    plain n bank ready = (record { there = there; waits = waits; unfit = λ p. unfits (at_pc p w.frames) (as_many p w.frames); inner = inner }, refl)

    searched : (n : ℕ) (bank : Option ℕ) (ready : Bool) → Still (fuelled n bank ready (with_finalizing false (with_finalize [] (pc_stored pc w))))
    searched n bank ready = (record { there = there; waits = waits; unfit = λ p. unfits (at_pc p (at_pc pc w.frames)) (as_many p (at_pc pc w.frames) ∙ as_many pc w.frames); inner = inner }, refl)

    still-waits : Still (charged pc w)
    still-waits =
        both Still (not (eqb w.fuel.fuel 0)) (plain (w.fuel.fuel - 1) w.fuel.bank w.fuel.ready)
        (both Still (not w.fuel.ready) (plain (reserve w - 1) None false) (searched (reserve w - 1) None false))

  pub stays : (o : Operation) → is_instruction o.op ≡ true → found (does w o).world c ≡ found w c
  stays o i =
      let t = turned c o.op i in
      let k = still-waits t.pc in
      ap (λ (a : After Answer). found a.world c) (leads-to w o ∙ ap (λ (l : Lines Answer). leads_from (refuse 11 (not (sound w)) w ∷ l.tests) l.done) (t.is w))
      ∙ led-in-turn (λ (a : After Answer). found a.world c ≡ found w c) (refuse 11 (not (sound w)) w ∷ (instruction t.pc (t.operands w) t.own w).tests) (instruction t.pc (t.operands w) t.own w).done
      (λ _. refl, λ _. (λ _. refl, λ _. (λ _. refl, λ _. (λ _. refl, λ _. (begins t.pc, λ _. answered (λ x. found x c ≡ found w c) (lost t.pc w) (t.own (charged t.pc w)).tests (t.own (charged t.pc w)).done (own-lines t k))))))
    where
      own-lines : (t : Turned c (table_of o.op)) → Waits c (charged t.pc w) × (found (charged t.pc w) c ≡ found w c) →
          InTurn (λ (a : After Step). found a.world c ≡ found w c) (t.own (charged t.pc w)).tests (t.own (charged t.pc w)).done
      own-lines t k = from (charged t.pc w) (t.own (charged t.pc w)).tests (t.own (charged t.pc w)).done k.1 (t.turns (charged t.pc w) k.0)
        where
          from : (u : World) (ts : List (Line Step)) (d : Line Step) → found u c ≡ found w c → InTurn (λ (a : After Step). found a.world c ≡ found u c) ts d → InTurn (λ (a : After Step). found a.world c ≡ found w c) ts d
          from u [] d e h = h ∙ e
          from u (l ∷ ts) d e h = (λ g. h.0 g ∙ e, λ g. from u ts d e (h.1 g))
