-- PEP 342: a coroutine yields, awaits or returns, read off the table.
use Prim.Native.Nat.{ℕ}
use mathlib.Core.Path.{◌≡◌, refl, ap, ◌∙◌}
use mathlib.Core.Bool.{Bool, true, false, not, ◌&&◌}
use mathlib.Core.List.{List, [], ◌∷◌, map}
use Rattle.heap.specs.Coding.{in_range}
use Rattle.heap.specs.declared.fault.Fault.{Fault}
use Rattle.heap.specs.declared.heap.ResultKind.{ResultKind}
use Rattle.model.specs.Lists.{is_nil}
use Rattle.model.specs.World.{World, After, after}
use Rattle.model.specs.Sound.{sound}
use Rattle.model.specs.Call.{typed}
use Rattle.model.specs.declared.machine.Cont.{Cont}
use Rattle.model.specs.declared.machine.Frame.{Frame}
use Rattle.model.specs.declared.machine.Stop.{Stop}
use Rattle.model.specs.declared.exec.Step.{Step}
use Rattle.model.specs.declared.call.Op.{Op}
use Rattle.model.specs.declared.call.Answer.{Answer}
use Rattle.claims_sheet.specs.Lines.{leads_from, leads}
use Rattle.claims_sheet.specs.Does.{does, operation}
use Rattle.claims_sheet.specs.Words.{word, lacks_memory, no_slot}
use Rattle.claims_sheet.specs.Moves.{pc_stored}
use Rattle.claims_sheet.specs.Charging.{charged, lost, as_answer}
use Rattle.claims_sheet.specs.Suspending.{rest_here, growth, asks, is_loop, delivered}
use Rattle.claims_sheet.specs.Yields as Table
use Rattle.claims_sheet.specs.Yields.{next_key, key_bits, is_large, keyed, key_word, integer_of, raised_largest, suspended_by_yield, suspended_by_await, yield_ends}
use Rattle.claims_sheet.specs.Endings.{popped, too_large, is_object, converted, dynamic, returned, finish_by, finish_on}
use Rattle.claims_sheet.specs.Sheet.{lie}
use Rattle.claims_sheet.specs.Pep342.{pays, leaves, held}
use Rattle.claims_sheet.specs.Pep342Yields.{suspends, closing, driver, keyable, Yields, Yielding}
use Rattle.claims_sheet.proofs.Among.{and_left, and_right, not-true}
use Rattle.claims_sheet.proofs.Sheet.{leads-to}
use Rattle.claims_sheet.proofs.Led.{past, here, paid}
use Rattle.claims_sheet.proofs.Pep342.{stepped, moved}

-- ---- the last lines of a yield

module _ (pc dst payload key largest : ℕ) (v : World) (n : ℕ) where
  abbrev z : World
  z = pc_stored pc v

  abbrev to : After Answer
  to = leads_from (map (as_answer n) (Table.yields pc dst payload key largest v)) (as_answer n (yield_ends pc dst payload key largest v))

  module _ (Ends : World → Step → Type 0) (h : suspends z ≡ true) (leads : (x : World) (s : Step) → to ≡ after x (Answer.Stepped s n) → Ends x s) where
    short : lacks_memory z (growth z) ≡ false
    short = not-true (lacks_memory z (growth z)) (and_right (not (is_nil z.chain)) _ h)

    pub yields-by : Yields pc dst payload key largest z Ends
    yields-by =
        record {
          yield-delivers = λ c.
              leads _ Step.Frame
              (past (lacks_memory z (growth z)) _ short (past (closing z && asks (driver z)) _ (ap (λ b. b && asks (driver z)) c)
              (moved _ Step.Frame n (ap (λ s. delivered (driver z) payload key s (suspended_by_yield dst payload key largest z)) (past (closing z) Stop.CloseIgnored c refl)) refl)));
          yield-closing = λ c a.
              leads _ (Step.Unwind Fault.CloseIgnored)
              (past (lacks_memory z (growth z)) _ short (here (closing z && asks (driver z)) _ (ap (λ b. b && asks (driver z)) c ∙ a) ∙ stepped _ _ (Step.Unwind Fault.CloseIgnored) n refl));
          yield-closing-quiet = λ c a.
              leads _ Step.Frame
              (past (lacks_memory z (growth z)) _ short (past (closing z && asks (driver z)) _ (ap (λ b. b && asks (driver z)) c ∙ a)
              (moved _ Step.Frame n (ap (λ s. delivered (driver z) payload key s (suspended_by_yield dst payload key largest z)) (here (closing z) (Stop.Yielded payload) c)) refl)));
        }

-- ---- Yield, YieldKv, Await

yields-to : (pc dst src : ℕ) (w : World) (t : typed (Op.Yield pc dst src) ≡ true) → let u = charged pc w in
    pays pc (lie (dst ∷ src ∷ []) w) w ≡ true → not (is_nil u.chain) && keyable u ≡ true → suspends (pc_stored pc (keyed u)) ≡ true →
    Yields pc dst (held src pc w) (key_word u) (key_bits u) (pc_stored pc (keyed u)) (λ v s. does w (operation (Op.Yield pc dst src) t) ≡ leaves pc w v s)
yields-to pc dst src w t p k h =
    yields-by pc dst (word u src) (key_word u) (key_bits u) (keyed u) (lost pc w) _ h
    (λ x s e.
    leads-to w _ ∙ (paid pc (lie (dst ∷ src ∷ []) w) (Table.yield pc dst src) w p
    ∙ past (is_nil u.chain) _ (not-true (is_nil u.chain) (and_left (not (is_nil u.chain)) _ k))
    (past (not (in_range 63 (next_key u))) _ (ap not (and_left (in_range 63 (next_key u)) _ able))
    (past large9 _ (not-true large9 (and_left (not large9) (not large14) more)) (past large14 _ (not-true large14 (and_right (not large9) (not large14) more)) e)))))
  where
    u : World
    u = charged pc w

    large9 : Bool
    large9 = is_large (key_bits u) && lacks_memory u u.setup.costs.int

    large14 : Bool
    large14 = is_large (key_bits u) && no_slot u

    able : keyable u ≡ true
    able = and_right (not (is_nil u.chain)) _ k

    more : not large9 && not large14 ≡ true
    more = and_right (in_range 63 (next_key u)) _ able

yields-kv-to : (pc dst src key : ℕ) (w : World) (t : typed (Op.YieldKv pc dst src key) ≡ true) → let u = charged pc w in
    pays pc (lie (dst ∷ src ∷ key ∷ []) w) w ≡ true → suspends (pc_stored pc u) ≡ true →
    Yields pc dst (held src pc w) (held key pc w) (raised_largest (rest_here u).largest (integer_of u (held key pc w))) (pc_stored pc u) (λ v s. does w (operation (Op.YieldKv pc dst src key) t) ≡ leaves pc w v s)
yields-kv-to pc dst src key w t p h =
    let u = charged pc w in
    yields-by pc dst (word u src) (word u key) (raised_largest (rest_here u).largest (integer_of u (word u key))) u (lost pc w) _ h
    (λ x s e.
    leads-to w _ ∙ (paid pc (lie (dst ∷ src ∷ key ∷ []) w) (Table.yield_kv pc dst src key) w p
    ∙ past (is_nil u.chain) _ (not-true (is_nil u.chain) (and_left (not (is_nil u.chain)) _ h)) e))

module _ (pc dst src : ℕ) (w : World) (t : typed (Op.Await pc dst src) ≡ true) (p : pays pc (lie (dst ∷ src ∷ []) w) w ≡ true) (h : suspends (pc_stored pc (charged pc w)) ≡ true) where
  abbrev u : World
  u = charged pc w

  abbrev stored : World
  stored = pc_stored pc u

  awaits-as : (x : After Answer) → leads_from (map (as_answer (lost pc w)) (Table.awaits pc dst (word u src) u)) (as_answer (lost pc w) (Table.await_ends pc dst (word u src) u)) ≡ x → does w (operation (Op.Await pc dst src) t) ≡ x
  awaits-as x e =
      leads-to w _ ∙ (paid pc (lie (dst ∷ src ∷ []) w) (Table.await pc dst src) w p
      ∙ past (is_nil u.chain) _ (not-true (is_nil u.chain) (and_left (not (is_nil u.chain)) _ h)) e)

  fits : lacks_memory stored (growth stored) ≡ false
  fits = not-true (lacks_memory stored (growth stored)) (and_right (not (is_nil u.chain)) _ h)

  await-to : is_loop (driver stored) ≡ false → let q = held src pc w in does w (operation (Op.Await pc dst src) t) ≡ leaves pc w (delivered (driver stored) q 0 (Stop.Awaiting q) (suspended_by_await dst q stored)) Step.Frame
  await-to l = awaits-as _ (past (lacks_memory stored (growth stored)) _ fits (past (is_loop (driver stored)) _ l (stepped _ _ Step.Frame (lost pc w) refl)))

  await-loop : is_loop (driver stored) ≡ true → does w (operation (Op.Await pc dst src) t) ≡ leaves pc w (suspended_by_await dst (held src pc w) stored) (Step.Unwind Fault.TypeError)
  await-loop l = awaits-as _ (past (lacks_memory stored (growth stored)) _ fits (here (is_loop (driver stored)) _ l ∙ stepped _ _ (Step.Unwind Fault.TypeError) (lost pc w) refl))

-- ---- finish, of a body

returns_to : (kind : ResultKind) (v : ℕ) (w : World) (t : typed (Op.Finish kind v) ≡ true) (x : Frame) (xs : List Frame) → sound w ≡ true → w.frames ≡ x ∷ xs → x.cont ≡ Cont.Coro →
    too_large kind v ≡ false → is_object kind v && lacks_memory w w.setup.costs.int ≡ false → is_object kind v && no_slot w ≡ false →
    does w (operation (Op.Finish kind v) t) ≡ after (returned w.chain (dynamic kind v w) (popped x xs (converted kind v w))) Answer.Resume
returns_to kind v w t x xs s f c a b d =
    leads-to w _
    ∙ past (not (sound w)) _ (ap not s)
    (ap (λ (fs : List Frame). leads (finish_on fs kind v w)) f
    ∙ (ap (λ k. leads (finish_by k x xs kind v w)) c
    ∙ past (too_large kind v) _ a (past (is_object kind v && lacks_memory w w.setup.costs.int) _ b (past (is_object kind v && no_slot w) _ d refl))))

pub yielding : Yielding
yielding =
    record {
      yields = yields-to;
      yields-kv = yields-kv-to;
      await-delivers = λ pc dst src w t p h l. await-to pc dst src w t p h l;
      await-in-loop = λ pc dst src w t p h l. await-loop pc dst src w t p h l;
      return-delivers = returns_to;
    }
