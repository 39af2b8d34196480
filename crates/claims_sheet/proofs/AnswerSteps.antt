-- The Step of an instruction's answer: whether another frame or coroutine is on top of what each line leaves. The table of every call's words and Steps.
use Prim.Native.Nat.{ℕ, suc}
use mathlib.Core.Path.{◌≡◌, refl, sym, ap, ◌∙◌}
use mathlib.Core.Bool.{Bool, true, false, not, ◌&&◌, true≢false}
use mathlib.Core.List.{List, [], ◌∷◌, map}
use mathlib.Core.Option.{Option, none, some}
use native.Mathlib.Omega.{arith}
use lib.ListN.{length, drop}
use lib.Dec.{eqb}
use borrow.Author.Tests.{eq-eqb}
use Rattle.lists.specs.Pick.{pick}
use Rattle.heap.specs.declared.fault.Fault.{Fault}
use Rattle.heap.specs.declared.object.CoroState.{CoroState}
use Rattle.model.specs.Lists.{is_nil, among}
use Rattle.model.specs.World.{World, After, after, with_stack}
use Rattle.model.specs.Answer.{number_of, word_of, step_of}
use Rattle.model.specs.declared.machine.Active.{Active}
use Rattle.model.specs.declared.machine.Driver.{Driver}
use Rattle.model.specs.declared.machine.Frame.{Frame}
use Rattle.model.specs.declared.machine.Stop.{Stop}
use Rattle.model.specs.declared.exec.Step.{Step}
use Rattle.model.specs.declared.call.Op.{Op}
use Rattle.model.specs.declared.call.Answer.{Answer}
use Rattle.claims_sheet.specs.Lines.{Line, Lines, leads, stop}
use Rattle.claims_sheet.specs.Words.{lies, word, arguments, is_in, state}
use Rattle.claims_sheet.specs.Moves.{pc_stored, iterator_done, entered, sent_unless_created, finished_with}
use Rattle.claims_sheet.specs.Charging.{amount, used_up, bank_back, charged, lost, as_answer, instruction}
use Rattle.claims_sheet.specs.Instructions as Asked
use Rattle.claims_sheet.specs.Makings as Makings
use Rattle.claims_sheet.specs.Suspending.{innermost_active, rest_here, delivered}
use Rattle.claims_sheet.specs.Yields as Yields
use Rattle.claims_sheet.specs.Sheet.{lie, window_lies, table_of}
use Rattle.claims_sheet.specs.Answers.{word_for, thrown_for, is_instruction, moves, step_for}
use Rattle.claims_sheet.proofs.Among.{same, and_left, and_right}
use Rattle.claims_sheet.proofs.Choice.{both}
use Rattle.claims_sheet.proofs.Led.{Every, InTurn, led-in-turn, in-turn, line-by-line}
use Rattle.claims_sheet.proofs.Moved.{length_at}
use Rattle.claims_sheet.proofs.WalkCalls.{never}
use Rattle.claims_sheet.proofs.Sheet.{behind}
use Rattle.claims_sheet.proofs.AnswerWords.{Worded, wordless, plainly, finish-on-words, finish-on-thrown, unwind-words, unwind-thrown, throw-thrown, close-thrown, task-words, iterator-words, outcome-words}

-- ---- counts

one_less : (c : List Active) → is_nil c ≡ false → suc (length (drop 1 c)) ≡ length c
one_less [] h = absurd (true≢false h)
one_less (a ∷ c) h = refl

apart : (m n : ℕ) → (m ≡ n → ⊥) → eqb m n ≡ false
apart m n h = go (eqb m n) refl
  where
    go : (b : Bool) → eqb m n ≡ b → b ≡ false
    go true e = absurd (h (same m n e))
    go false e = refl

and-false : (a b : Bool) → b ≡ false → not (a && b) ≡ true
and-false true b h = ap not h
and-false false b h = refl

-- as many frames and active coroutines in x as in u
record AlikeIn (fs gs : List Frame) (c d : List Active) : Type 0 where
  frames : length gs ≡ length fs
  chain : length d ≡ length c

abbrev Alike : World → World → Type 0
Alike u x = AlikeIn u.frames x.frames u.chain x.chain

alike : (u : World) → Alike u u
alike u = record { frames = refl; chain = refl }

finished-alike : (v : ℕ) (s : CoroState) (result : ℕ) (u : World) → Alike u (finished_with v s result u)
finished-alike v s result u = both (λ x. Alike u x) _ (alike u) (alike u)

marked-alike : (v : ℕ) (u : World) → Alike u (iterator_done v u)
marked-alike v u = both (λ x. Alike u x) _ (alike u) (alike u)

paid-alike : (u : World) → Alike u (Makings.paid u)
paid-alike u = both (λ x. Alike u x) _ (alike u) (both (λ x. Alike u x) _ (alike u) (alike u))

keyed-alike : (u : World) → Alike u (Yields.keyed u)
keyed-alike u = both (λ x. Alike u x) _ (alike u) (alike u)

charged-alike : (pc : ℕ) (u : World) → Alike u (charged pc u)
charged-alike pc u = both (λ x. Alike u x) _ (alike u) (both (λ x. Alike u x) _ (alike u) (record { frames = length_at pc u.frames; chain = refl }))

keyed-chain : (u : World) → (Yields.keyed u).chain ≡ u.chain
keyed-chain u = both (λ (x : World). x.chain ≡ u.chain) _ refl refl

-- a delivery leaves the chain
delivered-chain : (d : Driver) (payload key : ℕ) (s : Stop) (x : World) → (delivered d payload key s x).chain ≡ x.chain
delivered-chain (Driver.Resume dst) payload key s x = refl
delivered-chain (Driver.Iter has val iter) payload key s x = both (λ (y : World). y.chain ≡ x.chain) _ refl refl
delivered-chain Driver.Host payload key s x = refl
delivered-chain Driver.Finalize payload key s x = refl

-- ---- a line's Step is the one that its number, its word and the counts say

module _ (w : World) where
  pub record Right (a : After Answer) : Type 0 where
    pub is : among (number_of a.answer) (11 ∷ 12 ∷ 13 ∷ []) ≡ false → step_of a.answer ≡ some (step_for (number_of a.answer) (word_of a.answer) (moves w a.world))

  -- the Step that goes with b
  abbrev Fits : Bool → Answer → Type 0
  Fits b a = step_of a ≡ some (step_for (number_of a) (word_of a) b)

  right : (b : Bool) (a : Answer) (x : World) → moves w x ≡ b → Fits b a → Right (after x a)
  right b a x m h = record { is = λ _. h ∙ ap (λ t. some (step_for (number_of a) (word_of a) t)) (sym m) }

  pub refused : {f : Fault} → among (number_of (Answer.Refused f)) (11 ∷ 12 ∷ 13 ∷ []) ≡ true → Right (after w (Answer.Refused f))
  refused e = record { is = λ h. absurd (true≢false (sym e ∙ h)) }

  -- in u there are as many as in w
  module _ (u : World) (s : Alike w u) where
    stays : {x : World} {a : Answer} → Alike u x → Fits false a → Right (after x a)
    stays {x} {a} e = right false a x (ap (λ b. not (b && eqb (length x.chain) (length w.chain))) (eq-eqb _ _ (e.frames ∙ s.frames)) ∙ ap not (eq-eqb _ _ (e.chain ∙ s.chain)))

    -- one is entered, or has suspended
    chains : {x : World} {a : Answer} → (length x.chain ≡ length w.chain → ⊥) → Fits true a → Right (after x a)
    chains {x} {a} h = right true a x (and-false (eqb (length x.frames) (length w.frames)) (eqb (length x.chain) (length w.chain)) (apart _ _ h))

    enters : {x : World} {a : Answer} → length x.chain ≡ suc (length u.chain) → Fits true a → Right (after x a)
    enters e =
        chains (λ h.
        let k : suc (length w.chain) ≡ length w.chain = ap suc (sym s.chain) ∙ (sym e ∙ h) in
        omega (arith, k))

    leaves : {x : World} {a : Answer} → suc (length x.chain) ≡ length u.chain → Fits true a → Right (after x a)
    leaves e =
        chains (λ h.
        let k : suc (length w.chain) ≡ length w.chain = ap suc (sym h) ∙ (e ∙ s.chain) in
        omega (arith, k))

    -- a frame more
    calls : {x : World} {a : Answer} → length x.frames ≡ suc (length u.frames) → Fits true a → Right (after x a)
    calls {x} {a} e =
        right true a x
        (ap (λ b. not (b && eqb (length x.chain) (length w.chain))) (apart _ _ (λ h.
        let k : suc (length w.frames) ≡ length w.frames = ap suc (sym s.frames) ∙ (sym e ∙ h) in
        omega (arith, k))))

    gives : {a : Answer} (st : CoroState) (r v : ℕ) (x : World) → length x.chain ≡ suc (length u.chain) → Fits true a → Right (after (sent_unless_created st r v x) a)
    gives {a} st r v x e h = both (λ (y : World). Right (after y a)) (is_in (CoroState.Created ∷ []) st) (enters e h) (enters e h)

  as_is : Alike w w
  as_is = alike w

  module _ (pc : ℕ) where
    -- what the charge leaves, and that with its pc stored
    abbrev u : World
    u = charged pc w

    su : Alike w u
    su = charged-alike pc w

    still : Alike u u
    still = alike u

    stored : Alike u (pc_stored pc u)
    stored = record { frames = length_at pc u.frames; chain = refl }

    -- an instruction's own lines, and where each has what is asked
    abbrev Turns : List (Line Step) → Line Step → Type 0
    Turns ts d = InTurn (λ a. Right a) (map (as_answer (lost pc w)) ts) (as_answer (lost pc w) d)

    abbrev Told : Lines Step → Type 0
    Told s = Turns s.tests s.done

    turn : (ts : List (Line Step)) (d : Line Step) → Every (λ a. Right a) (map (as_answer (lost pc w)) ts) → Right (after d.left (as_answer (lost pc w) d).answer) → Turns ts d
    turn ts d h k = in-turn (λ a. Right a) (map (as_answer (lost pc w)) ts) (as_answer (lost pc w) d) h k

    -- behind the gate and the charge
    gate : (ok : Bool) (own : World → Lines Step) → Told (own u) → Right (leads (instruction pc ok own w))
    unfolding pick
    gate ok own h =
        led-in-turn (λ a. Right a) (instruction pc ok own w).tests (instruction pc ok own w).done
        (λ _. refused refl, λ _. (λ _. refused refl, λ _. (λ _. stays w as_is as_is refl, λ _. (λ _. enters w as_is refl refl, λ _. h))))

    module _ (dst c src : ℕ) where
      resumes : Told (Asked.resume pc dst c src u)
      unfolding pick
      resumes =
          turn (Asked.resume pc dst c src u).tests (Asked.resume pc dst c src u).done
          (λ _. stays u su stored refl, (λ _. stays u su stored refl, (λ _. stays u su stored refl, (λ _. stays u su stored refl, tt))))
          (gives u su (state u (word u c)) _ _ (entered (word u c) (Driver.Resume dst) (pc_stored pc u)) refl refl)

      throws : Told (Asked.resume_throw pc dst c src u)
      unfolding pick
      throws =
          turn (Asked.resume_throw pc dst c src u).tests (Asked.resume_throw pc dst c src u).done
          (λ _. stays u su still refl, (λ _. stays u su still refl, (λ _. stays u su (finished-alike (word u c) CoroState.Failed (word u src) u) refl, (λ _. stays u su stored refl, (λ _. stays u su stored refl, tt)))))
          (enters u su refl refl)

      closes : Told (Asked.coro_close pc dst c src u)
      unfolding pick
      closes =
          turn (Asked.coro_close pc dst c src u).tests (Asked.coro_close pc dst c src u).done
          (λ _. stays u su still refl, (λ _. stays u su still refl, (λ _. stays u su still refl, (λ _. stays u su (finished-alike (word u c) CoroState.Returned 0 u) refl, (λ _. stays u su still refl, (λ _. stays u su stored refl, tt))))))
          (enters u su refl refl)

    nexts : (has iter val src : ℕ) → Told (Asked.iter_next pc has iter val src u)
    unfolding pick
    nexts has iter val src =
        turn (Asked.iter_next pc has iter val src u).tests (Asked.iter_next pc has iter val src u).done
        (λ _. stays u su still refl, (λ _. stays u su still refl, (λ _. stays u su (marked-alike (word u iter) u) refl, (λ _. stays u su still refl, (λ _. stays u su stored refl, (λ _. stays u su stored refl, tt))))))
        (gives u su (state u (word u src)) _ _ (entered (word u src) (Driver.Iter has val (word u iter)) (pc_stored pc u)) refl refl)

    -- an instruction that asks: each line leaves u but for its registers, and has the Step that goes on in the frame
    abbrev asked : Line Answer → World × Option Step
    asked l = (with_stack [] l.left, step_of l.answer)

    abbrev goes_on : Line Answer → World × Option Step
    goes_on l = (with_stack [] u, some (step_for (number_of l.answer) (word_of l.answer) false))

    asks-right : (l : Line Answer) → asked l ≡ goes_on l → Right (after l.left l.answer)
    asks-right l e = stays u su (record { frames = ap (λ p. length p.0.frames) e; chain = ap (λ p. length p.0.chain) e }) (ap (λ p. p.1) e)

    asks : (s : Lines Step) → let ts = map (as_answer (lost pc w)) s.tests in let d = as_answer (lost pc w) s.done in map asked ts ≡ map goes_on ts → asked d ≡ goes_on d → Told s
    asks s e d =
        turn s.tests s.done
        (line-by-line asked goes_on (λ l. l.stops ≡ true → Right (after l.left l.answer)) (u, none) (λ l h _. asks-right l h) (map (as_answer (lost pc w)) s.tests) e)
        (asks-right (as_answer (lost pc w) s.done) d)

    -- creations: the tests, then others
    Lasts : List (Line Step) → Type 0
    Lasts ts = Every (λ a. Right a) (map (as_answer (lost pc w)) ts)

    creates : (f : ℕ) (more : List (Line Step)) → Lasts more → Lasts (Makings.creation f u more)
    unfolding pick Lasts
    creates f more h = (λ _. stays u su still refl, (λ _. stays u su still refl, (λ _. stays u su still refl, h)))

    finds : (v argc : ℕ) (more : List (Line Step)) → Lasts more → Lasts (Makings.indirect v argc u more)
    unfolding pick Lasts
    finds v argc more h = (λ _. stays u su still refl, (λ _. stays u su still refl, (λ _. stays u su still refl, (λ _. stays u su still refl, creates (Makings.callee u v) more h))))

    makes : (dst f argc : ℕ) → Told (Makings.coro_new dst f argc u)
    unfolding pick Lasts
    makes dst f argc = turn (Makings.coro_new dst f argc u).tests (Makings.coro_new dst f argc u).done (creates f [] tt) (stays u su still refl)

    makes-of : (dst c argc : ℕ) → Told (Makings.coro_new_indirect dst c argc u)
    unfolding pick Lasts
    makes-of dst c argc = turn (Makings.coro_new_indirect dst c argc u).tests (Makings.coro_new_indirect dst c argc u).done (finds (word u c) argc [] tt) (stays u su still refl)

    module _ (dst c argc : ℕ) where
      abbrev made : World
      made = Makings.made (Makings.callee u (word u c)) (word u c) (arguments u dst argc) u

      abbrev last : List (Line Step)
      last = stop 10 (used_up made) (bank_back made) ∷ stop 4 (Makings.no_room (amount u.setup.hook 0) (pc_stored pc (Makings.paid made))) (Makings.paid made) ∷ []

      spawns : Told (Makings.spawn pc dst c argc u)
      unfolding pick Lasts
      spawns =
          turn (Makings.spawn pc dst c argc u).tests (Makings.spawn pc dst c argc u).done
          (λ _. stays u su still refl, finds (word u c) argc last (λ _. stays u su still refl, (λ _. stays u su (paid-alike made) refl, tt)))
          (calls u su (ap suc (length_at pc (Makings.paid made).frames ∙ (paid-alike made).frames)) refl)

    -- yields: v is u, its key made; the chain is not empty
    module _ (v : World) (s : Alike u v) (same-chain : v.chain ≡ u.chain) (some-run : is_nil u.chain ≡ false) (dst payload : ℕ) where
      abbrev z : World
      z = pc_stored pc v

      sz : Alike u z
      sz = record { frames = length_at pc v.frames ∙ s.frames; chain = s.chain }

      shorter : (x : World) → x.chain ≡ drop 1 v.chain → suc (length x.chain) ≡ length u.chain
      shorter x e = ap (λ c. suc (length c)) e ∙ (one_less v.chain (ap is_nil same-chain ∙ some-run) ∙ ap length same-chain)

      yields : (key largest : ℕ) → Turns (Yields.yields pc dst payload key largest v) (Yields.yield_ends pc dst payload key largest v)
      unfolding pick
      yields key largest =
          turn (Yields.yields pc dst payload key largest v) (Yields.yield_ends pc dst payload key largest v)
          (λ _. stays u su sz refl, (λ _. leaves u su (shorter (Yields.suspended_by_yield dst payload key largest z) refl) refl, tt))
          (leaves u su (shorter (Yields.yield_ends pc dst payload key largest v).left (delivered-chain (innermost_active z.chain).driver payload key _ (Yields.suspended_by_yield dst payload key largest z))) refl)

      awaits : Turns (Yields.awaits pc dst payload v) (Yields.await_ends pc dst payload v)
      unfolding pick
      awaits =
          turn (Yields.awaits pc dst payload v) (Yields.await_ends pc dst payload v)
          (λ _. stays u su sz refl, (λ _. leaves u su (shorter (Yields.suspended_by_await dst payload z) refl) refl, tt))
          (leaves u su (shorter (Yields.await_ends pc dst payload v).left (delivered-chain (innermost_active z.chain).driver payload 0 _ (Yields.suspended_by_await dst payload z))) refl)

    yield-told : (dst src : ℕ) → Told (Yields.yield pc dst src u)
    unfolding pick
    yield-told dst src = (
      λ _. stays u su still refl,
      λ e. (λ _. stays u su still refl, λ _. (λ _. stays u su still refl, λ _. (λ _. stays u su still refl, λ _. yields (Yields.keyed u) (keyed-alike u) (keyed-chain u) e dst (word u src) (Yields.key_word u) (Yields.key_bits u)))),
    )

    yield-kv-told : (dst src key : ℕ) → Told (Yields.yield_kv pc dst src key u)
    unfolding pick
    yield-kv-told dst src key = (λ _. stays u su still refl, λ e. yields u still refl e dst (word u src) (word u key) (Yields.raised_largest (rest_here u).largest (Yields.integer_of u (word u key))))

    await-told : (dst src : ℕ) → Told (Yields.await pc dst src u)
    unfolding pick
    await-told dst src = (λ _. stays u su still refl, λ e. awaits u still refl e dst (word u src))

-- ---- THE TABLE: the words of every call's 0 and 17, and the Step of an instruction

pub record Answered (s : World → Lines Answer) (word raised : World → ℕ) (i : Bool) : Type 0 where
  pub words : (w : World) → Worded 0 (word w) (leads (s w))
  pub thrown : (w : World) → Worded 17 (raised w) (leads (s w))
  pub steps : (w : World) → i ≡ true → Right w (leads (s w))

-- each 0 and 17 has the word 0
abbrev silent : Lines Answer → Bool
silent s = wordless 0 s && wordless 17 s

module _ (pc : ℕ) (operands : World → Bool) (own : World → Lines Step) (told : (w : World) → Told w pc (own (charged pc w))) where
  -- an instruction that throws
  throwing : {thrown : World → ℕ} → ((w : World) → wordless 0 (behind pc operands own w) ≡ true) → ((w : World) → Worded 17 (thrown w) (leads (behind pc operands own w))) →
      Answered (behind pc operands own) (λ w. 0) thrown true
  throwing h thrown = record { words = λ w. plainly 0 (behind pc operands own w) (h w); thrown = thrown; steps = λ w _. gate w pc (operands w) own (told w) }

  -- any other
  stepping : ((w : World) → silent (behind pc operands own w) ≡ true) → Answered (behind pc operands own) (λ w. 0) (λ w. 0) true
  stepping h =
      throwing (λ w. and_left (wordless 0 (behind pc operands own w)) _ (h w)) (λ w. plainly 17 (behind pc operands own w) (and_right (wordless 0 (behind pc operands own w)) _ (h w)))

other : {s : World → Lines Answer} {word thrown : World → ℕ} → ((w : World) → Worded 0 (word w) (leads (s w))) → ((w : World) → Worded 17 (thrown w) (leads (s w))) → Answered s word thrown false
other words thrown = record { words = words; thrown = thrown; steps = λ w. never }

silently : {s : World → Lines Answer} → ((w : World) → silent (s w) ≡ true) → Answered s (λ w. 0) (λ w. 0) false
silently {s} h = other (λ w. plainly 0 (s w) (and_left (wordless 0 (s w)) _ (h w))) (λ w. plainly 17 (s w) (and_right (wordless 0 (s w)) _ (h w)))

pub answered : (o : Op) → Answered (λ w. table_of o w) (λ w. word_for o w) (λ w. thrown_for o w) (is_instruction o)
unfolding pick
answered (Op.CoroNew pc dst f argc) = stepping pc (λ w. lies w dst && window_lies dst argc w && Makings.is_function w f) (Makings.coro_new dst f argc) (λ w. makes w pc dst f argc) (λ w. refl)
answered (Op.CoroNewIndirect pc dst c argc) = stepping pc (λ w. lie (dst ∷ c ∷ []) w && window_lies dst argc w) (Makings.coro_new_indirect dst c argc) (λ w. makes-of w pc dst c argc) (λ w. refl)
answered (Op.Spawn pc dst c argc) = stepping pc (λ w. lie (dst ∷ c ∷ []) w && window_lies dst argc w) (Makings.spawn pc dst c argc) (λ w. spawns w pc dst c argc) (λ w. refl)
answered (Op.Yield pc dst src) = stepping pc (lie (dst ∷ src ∷ [])) (Yields.yield pc dst src) (λ w. yield-told w pc dst src) (λ w. refl)
answered (Op.YieldKv pc dst src key) = stepping pc (lie (dst ∷ src ∷ key ∷ [])) (Yields.yield_kv pc dst src key) (λ w. yield-kv-told w pc dst src key) (λ w. refl)
answered (Op.Await pc dst src) = stepping pc (lie (dst ∷ src ∷ [])) (Yields.await pc dst src) (λ w. await-told w pc dst src) (λ w. refl)
answered (Op.Resume pc dst c src) = stepping pc (lie (dst ∷ c ∷ src ∷ [])) (Asked.resume pc dst c src) (λ w. resumes w pc dst c src) (λ w. refl)
answered (Op.ResumeThrow pc dst c src) = throwing pc (lie (dst ∷ c ∷ src ∷ [])) (Asked.resume_throw pc dst c src) (λ w. throws w pc dst c src) (λ w. refl) (λ w. throw-thrown w pc dst c src)
answered (Op.CoroClose pc dst c src) = throwing pc (lie (dst ∷ c ∷ src ∷ [])) (Asked.coro_close pc dst c src) (λ w. closes w pc dst c src) (λ w. refl) (λ w. close-thrown w pc dst c src)
answered (Op.CoroStatus pc dst c) = stepping pc (lie (dst ∷ c ∷ [])) (Asked.coro_status dst c) (λ w. asks w pc (Asked.coro_status dst c (charged pc w)) refl refl) (λ w. refl)
answered (Op.CoroCurrent pc dst) = stepping pc (lie (dst ∷ [])) (Asked.coro_current dst) (λ w. asks w pc (Asked.coro_current dst (charged pc w)) refl refl) (λ w. refl)
answered (Op.CoroKey pc dst c) = stepping pc (lie (dst ∷ c ∷ [])) (Asked.coro_key dst c) (λ w. asks w pc (Asked.coro_key dst c (charged pc w)) refl refl) (λ w. refl)
answered (Op.CoroResult pc dst c) = stepping pc (lie (dst ∷ c ∷ [])) (Asked.coro_result dst c) (λ w. asks w pc (Asked.coro_result dst c (charged pc w)) refl refl) (λ w. refl)
answered (Op.IterNext pc has iter val src) = stepping pc (lie (has ∷ iter ∷ val ∷ src ∷ [])) (Asked.iter_next pc has iter val src) (λ w. nexts w pc has iter val src) (λ w. refl)
answered (Op.Finish kind v) = other (λ w. finish-on-words w.frames kind v w) (λ w. finish-on-thrown w.frames kind v w)
answered (Op.Unwind f pc) = other (unwind-words f pc) (unwind-thrown f pc)
answered (Op.SpawnTask v) = other (task-words v) (λ w. plainly 17 (table_of (Op.SpawnTask v) w) refl)
answered (Op.HostCall f) = silently (λ w. refl)
answered (Op.HostEntry c v) = silently (λ w. refl)
answered (Op.FunctionCall pc f cont) = silently (λ w. refl)
answered (Op.PutWord r v) = silently (λ w. refl)
answered (Op.MakeIterator v) = other (iterator-words v) (λ w. plainly 17 (table_of (Op.MakeIterator v) w) refl)
answered Op.TakeOutcome = other outcome-words (λ w. plainly 17 (table_of Op.TakeOutcome w) refl)
answered (Op.HandOver v) = silently (λ w. refl)
answered (Op.Grant n) = silently (λ w. refl)
answered Op.StopRun = silently (λ w. refl)
answered Op.Look = silently (λ w. refl)
