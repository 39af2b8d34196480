-- PEP 342: the departures over more than one call, read off the table.
use Prim.Native.Nat.{ℕ, ◌+◌, ◌-◌}
use mathlib.Core.Path.{◌≡◌, refl, sym, ap, ◌∙◌}
use mathlib.Core.Bool.{Bool, true, false, not, ◌&&◌, ◌||◌, true≢false, false≢true}
use mathlib.Core.List.{List, [], ◌∷◌, ◌++◌}
use native.Mathlib.Omega.{arith}
use lib.ListN.{length, get_or, drop}
use lib.Dec.{eqb, ltb}
use Rattle.lists.specs.Pick.{pick}
use Rattle.heap.specs.declared.object.CoroState.{CoroState}
use Rattle.std.specs.Prelude.{Option, Some, None}
use Rattle.model.specs.Lists.{is_nil, each, among, distinct}
use Rattle.model.specs.Object.{Object, as_coro}
use Rattle.model.specs.World.{World, After, after}
use Rattle.model.specs.Heap.{coro}
use Rattle.model.specs.Answer.{taken_off}
use Rattle.model.specs.Sound.{marked, queue_ok, queues_ok, sound}
use Rattle.model.specs.Call.{Operation, typed}
use Rattle.model.specs.declared.exec.Step.{Step}
use Rattle.model.specs.declared.call.Op.{Op}
use Rattle.model.specs.declared.call.Answer.{Answer}
use Rattle.claims_sheet.specs.Setters.{with_chain, with_finalize, with_finalizing}
use Rattle.claims_sheet.specs.Lines.{Lines, leads_from, refuse}
use Rattle.claims_sheet.specs.Does.{does, operation}
use Rattle.claims_sheet.specs.Words.{found, is_coroutine, core_of, rest_of, state, suspended, too_high}
use Rattle.claims_sheet.specs.Moves.{pc_stored, put, emptied, at_least, finished_with}
use Rattle.claims_sheet.specs.Charging.{amount, reserve, fuelled, used_up, searches, closable, queue_from, taken, charged, lost, instruction}
use Rattle.claims_sheet.specs.Endings.{popped, handed_back, returned}
use Rattle.claims_sheet.specs.Instructions as Table
use Rattle.claims_sheet.specs.Sheet.{table_of, lie}
use Rattle.claims_sheet.specs.Answers.{is_instruction}
use Rattle.claims_sheet.specs.Pep342.{pays, at, held, enters, any_suspended, Passes}
use Rattle.claims_sheet.specs.Pep342Departs.{Later, Escaped, Missed}
use Rattle.claims_sheet.proofs.Among.{and_left, and_right, not-true}
use Rattle.claims_sheet.proofs.Choice.{both}
use Rattle.claims_sheet.proofs.Rules.{queues}
use Rattle.claims_sheet.proofs.Moved.{coro-is}
use Rattle.claims_sheet.proofs.Sheet.{leads-to}
use Rattle.claims_sheet.proofs.Led.{past, here, paid}
use Rattle.claims_sheet.proofs.Walk.{none}
use Rattle.claims_sheet.proofs.Pep342.{stepped, in_reach, send}
use Rattle.claims_sheet.proofs.Pep342Ends.{ending}
use Rattle.claims_sheet.proofs.Pep342Closes.{found-new}
use Rattle.claims_sheet.proofs.Pep342Deletion.{deletion}
use Rattle.claims_sheet.proofs.Queue.{found_none, queue}
use Rattle.claims_sheet.proofs.Unfit.{as_many, unclosable, stays}

-- ---- a close that awaited

-- what is beside the core of a sleeper once it is resumed
module _ (pc dst c src : ℕ) (w : World) (passes : Passes pc dst c src w) (t : typed (Op.Resume pc dst c src) ≡ true) (h : enters any_suspended (held c pc w) (at pc w) ≡ true) where
  abbrev suspended-in : Object
  suspended-in = found (at pc w) (held c pc w)

  pub rest-resumed : rest_of (found (does w (operation (Op.Resume pc dst c src) t)).world (held c pc w)) ≡ at_least (core_of suspended-in) (rest_of suspended-in)
  rest-resumed =
      let v = held c pc w in
      ap (λ (y : After Answer). rest_of (found y.world v)) ((send pc dst c src w passes).send-suspended h t)
      ∙ ap (λ o. rest_of o)
      (found-new v (at pc w) (and_left (is_coroutine suspended-in) _ (in_reach any_suspended v (at pc w) h)) (emptied CoroState.Running (core_of suspended-in)) (at_least (core_of suspended-in) (rest_of suspended-in)))

pub later : Later
later = record { still-closing = λ pc dst c src w passes t h. let e = rest-resumed pc dst c src w passes t h in (ap (λ y. y.closing) e, ap (λ y. y.signal) e) }

pub escaped : Escaped
escaped =
    record {
      signal-later = λ e pc w t above x xs u comes a chain dst none body is by own.
          (ending e pc w t above x xs u comes).signal-escapes none body own
          ∙ (ap (λ cs. after (returned cs 0 (popped x xs u)) Answer.Stopped) is
          ∙ ap (λ y. after (handed_back y 0 (finished_with a.coro CoroState.Returned 0 (with_chain chain (popped x xs u)))) Answer.Stopped) by);
    }

-- ---- cleanups that do not come

-- a charge whose search finds none
module _ (w : World) (pc : ℕ) (g : searches w ≡ true) where
  no-fuel : eqb w.fuel.fuel 0 ≡ true
  no-fuel = and_left (eqb w.fuel.fuel 0) _ g

  emptied-is : charged pc w ≡ fuelled (reserve w - 1) None false (with_finalizing false (with_finalize [] (pc_stored pc w)))
  emptied-is = past (not (eqb w.fuel.fuel 0)) _ (ap not no-fuel) (past (not w.fuel.ready) _ (ap not (and_right (eqb w.fuel.fuel 0) _ g)) refl)

module _ (w : World) (pc dst c : ℕ) (t : typed (Op.CoroCurrent pc dst) ≡ true) (q : w.finalize ≡ c ∷ []) (high : too_high (pc_stored pc w) c ≡ true) where
  abbrev stored : World
  stored = pc_stored pc w

  none-ahead : queue_from stored w.finalize ≡ []
  none-ahead = ap (queue_from stored) q ∙ past (closable stored c) _ (unclosable (is_coroutine (found stored c)) (suspended (state stored c)) (too_high stored c) high) refl

  passes : sound w ≡ true → is_nil w.frames ≡ false → lie (dst ∷ []) w ≡ true → used_up w ≡ false → pays pc (lie (dst ∷ []) w) w ≡ true
  passes s f l n = all (sound w) (is_nil w.frames) (lie (dst ∷ []) w) (used_up w) (searches w) (is_nil (queue_from stored w.finalize)) s f l n (ap is_nil none-ahead)
    where
      all : (a b e u g m : Bool) → a ≡ true → b ≡ false → e ≡ true → u ≡ false → m ≡ true → a && (not b && (e && (not u && not (g && not m)))) ≡ true
      all true false true false true true p₁ p₂ p₃ p₄ p₅ = refl
      all true false true false false true p₁ p₂ p₃ p₄ p₅ = refl
      all false b e u g m p₁ p₂ p₃ p₄ p₅ = absurd (false≢true p₁)
      all true true e u g m p₁ p₂ p₃ p₄ p₅ = absurd (true≢false p₂)
      all true false false u g m p₁ p₂ p₃ p₄ p₅ = absurd (false≢true p₃)
      all true false true true g m p₁ p₂ p₃ p₄ p₅ = absurd (true≢false p₄)
      all true false true false g false p₁ p₂ p₃ p₄ p₅ = absurd (false≢true p₅)

  told : pays pc (lie (dst ∷ []) w) w ≡ true → does w (operation (Op.CoroCurrent pc dst) t) ≡ after (put dst (Table.innermost (charged pc w).chain) (charged pc w)) (Answer.Stepped Step.Next (lost pc w))
  told h = leads-to w _ ∙ (paid pc (lie (dst ∷ []) w) (Table.coro_current dst) w h ∙ stepped _ _ Step.Next (lost pc w) refl)

-- the search comes to c, and passes it
module _ (z : World) (c : ℕ) (behind : List ℕ) where
  passed : closable z c ≡ false → (before : List ℕ) → is_nil (queue_from z before) ≡ true → queue_from z (before ++ (c ∷ behind)) ≡ queue_from z behind
  unfolding pick
  passed shut [] h = past (closable z c) _ shut refl
  passed shut (x ∷ before) h = go (closable z x) h (passed shut before)
    where
      go : (b : Bool) → is_nil (pick b (x ∷ before) (queue_from z before)) ≡ true → (is_nil (queue_from z before) ≡ true → queue_from z (before ++ (c ∷ behind)) ≡ queue_from z behind) →
          pick b (x ∷ (before ++ (c ∷ behind))) (queue_from z (before ++ (c ∷ behind))) ≡ queue_from z behind
      go true h more = absurd (false≢true h)
      go false h more = more h

  stands : (p : ℕ → Bool) (before : List ℕ) → each p (before ++ (c ∷ behind)) ≡ true → p c ≡ true
  stands p [] h = and_left (p c) _ h
  stands p (x ∷ before) h = stands p before (and_right (p x) _ h)

  once : (before : List ℕ) → distinct (before ++ (c ∷ behind)) ≡ true → among c behind ≡ false
  once [] h = not-true (among c behind) (and_left (not (among c behind)) _ h)
  once (x ∷ before) h = once before (and_right (not (among x (before ++ (c ∷ behind)))) _ h)

not-searched : (n : ℕ) (z : World) (q : List ℕ) → among n q ≡ false → among n (queue_from z q) ≡ false
not-searched n z [] h = refl
not-searched n z (x ∷ q) h = both (λ l. among n l ≡ false) (closable z x) h (not-searched n z q (none (eqb n x) (among n q) h).1)

not-dropped : (n : ℕ) (q : List ℕ) → among n q ≡ false → among n (drop 1 q) ≡ false
not-dropped n [] h = refl
not-dropped n (x ∷ q) h = (none (eqb n x) (among n q) h).1

parts : (l : List ℕ) → is_nil l ≡ false → l ≡ get_or l 0 0 ∷ drop 1 l
parts [] h = absurd (true≢false h)
parts (x ∷ l) h = refl

empty : (l : List ℕ) → length l ≡ 0 → l ≡ []
empty [] h = refl
empty (x ∷ l) h = let z : ⊥ = omega (arith, h) in absurd z

no-rest : (l : List ℕ) → is_nil l ≡ true → drop 1 l ≡ []
no-rest [] h = refl
no-rest (x ∷ l) h = absurd (false≢true h)

-- what stands in the queue was handed over
handed : (o : Object) → marked (λ r. r.finalized) (as_coro o) ≡ true → (is_coroutine o ≡ true) × ((rest_of o).finalized ≡ true)
handed Object.Empty h = absurd (false≢true h)
handed (Object.Func f) h = absurd (false≢true h)
handed (Object.Int n) h = absurd (false≢true h)
handed (Object.Iter s d k) h = absurd (false≢true h)
handed (Object.Error e f p x) h = absurd (false≢true h)
handed (Object.Coro k r) h = (refl, h)

module _ (w : World) (o : Operation) (pc : ℕ) (ok : Bool) (own : World → Lines Step) (before : List ℕ) (c : ℕ) (behind : List ℕ) (i : is_instruction o.op ≡ true) (e : table_of o.op w ≡ instruction pc ok own w)
    (s : sound w ≡ true) (f : is_nil w.frames ≡ false) (k : ok ≡ true) (n : used_up w ≡ false) (g : searches w ≡ true) (q : w.finalize ≡ before ++ (c ∷ behind)) (b : is_nil (queue_from (pc_stored pc w) before) ≡ true)
    (waits : suspended (state w c) ≡ true) (high : too_high (pc_stored pc w) c ≡ true) where
  abbrev z : World
  z = pc_stored pc w

  abbrev ahead : List ℕ
  ahead = queue_from z w.finalize

  abbrev u : World
  u = (does w o).world

  ahead-is : ahead ≡ queue_from z behind
  ahead-is = ap (queue_from z) q ∙ passed z c behind (unclosable (is_coroutine (found w c)) (suspended (state w c)) (too_high z c) high) before b

  queue-ok : queue_ok (λ r. r.finalized) w (before ++ (c ∷ behind)) ≡ true
  unfolding queues_ok
  queue-ok = ap (queue_ok (λ r. r.finalized) w) (sym q) ∙ and_right (queue_ok (λ r. r.task) w w.ready) (queue_ok (λ r. r.finalized) w w.finalize) (queues w s)

  mine : (is_coroutine (found w c) ≡ true) × ((rest_of (found w c)).finalized ≡ true)
  mine = handed (found w c) (ap (marked (λ r. r.finalized)) (sym (coro-is w c)) ∙ stands w c behind (λ v. marked (λ r. r.finalized) (coro w v)) before (and_left (each (λ v. marked (λ r. r.finalized) (coro w v)) (before ++ (c ∷ behind))) _ queue-ok))

  same : found u c ≡ found w c
  same = stays w c s mine.0 waits (ap (λ m. ltb w.setup.limits.depth (m + length (core_of (found w c)).frames) || ltb w.setup.limits.stack (length w.stack + length (core_of (found w c)).regs)) (sym (as_many pc w.frames)) ∙ high) o i

  takes : taken_off (does w o).answer ≡ taken z w.finalize
  takes = queue.count w o pc ok own e ∙ here (sound w && (not (is_nil w.frames) && (ok && (not (used_up w) && searches w)))) 0 (all (sound w) (is_nil w.frames) ok (used_up w) (searches w) s f k n g)
    where
      all : (a b c d e : Bool) → a ≡ true → b ≡ false → c ≡ true → d ≡ false → e ≡ true → a && (not b && (c && (not d && e))) ≡ true
      all a b c d e h₁ h₂ h₃ h₄ h₅ = λ j. h₁ j && (not (h₂ j) && (h₃ j && (not (h₄ j) && h₅ j)))

  none_found : is_nil ahead ≡ true → u.finalize ≡ []
  none_found h =
      let l = queue.loss w o i in let t = found_none z w.finalize h in let a = takes in
      empty u.finalize (let r : length u.finalize ≡ 0 = omega (arith, l, t, a) in r)

  queue-left : (m : Bool) → is_nil ahead ≡ m → u.finalize ≡ drop 1 ahead
  queue-left true h = none_found h ∙ sym (no-rest ahead h)
  queue-left false h = ap (λ (y : After Answer). y.world.finalize) (deletion.cleanup-starts w o pc ok own (get_or ahead 0 0) (drop 1 ahead) e s f k n g (parts ahead h))

  queue-is : u.finalize ≡ drop 1 (queue_from z behind)
  queue-is = queue-left (is_nil ahead) refl ∙ ap (λ (l : List ℕ). drop 1 l) ahead-is

  off : among c u.finalize ≡ false
  off =
      ap (among c) queue-is
      ∙ not-dropped c (queue_from z behind) (not-searched c z behind (once w c behind before (and_right (each (λ v. marked (λ r. r.finalized) (coro w v)) (before ++ (c ∷ behind))) (distinct (before ++ (c ∷ behind))) queue-ok)))

or-true : (a b : Bool) → b ≡ true → a || b ≡ true
or-true true b h = refl
or-true false b h = h

-- a charge without a bank
plainly : (n : ℕ) (b : Option ℕ) (ready spare : Bool) → b ≡ None → eqb n 0 ≡ spare → (eqb n 0 && eqb (amount b n) 0 ≡ false) → spare ≡ false
plainly n None ready true e f h = absurd (true≢false (sym (ap (λ x. x && x) f) ∙ h))
plainly n None ready false e f h = refl
plainly n (Some m) ready spare e f h = cc

pub missed : Missed
missed =
    record {
      never-closed = λ w pc dst c t s snd f l n g q there mark high.
          let u = (does w (operation (Op.CoroCurrent pc dst) t)).world in
          let e : u ≡ put dst (Table.innermost (charged pc w).chain) (charged pc w) = ap (λ (y : After Answer). y.world) (told w pc dst c t q high (passes w pc dst c t q high snd f l n)) in
          let gone : u.finalize ≡ [] = ap (λ (y : World). y.finalize) e ∙ ap (λ (y : World). y.finalize) (emptied-is w pc g) in
          let same : found u c ≡ found w c = ap (λ y. found y c) e ∙ ap (λ y. found y c) (emptied-is w pc g) in
          (gone, same, λ k. deletion.hand-over-refused u c s k (ap is_coroutine same ∙ there) (or-true (not (suspended (state u c))) _ (ap (λ o. (rest_of o).finalized) same ∙ mark)));
      never-passed = λ w o pc ok own before c behind t i e s f k n g q b waits high.
          let u = (does w o).world in
          let m = mine w o pc ok own before c behind i e s f k n g q b waits high in
          let is = same w o pc ok own before c behind i e s f k n g q b waits high in (
            queue-is w o pc ok own before c behind i e s f k n g q b waits high,
            off w o pc ok own before c behind i e s f k n g q b waits high,
            is,
            λ h. deletion.hand-over-refused u c t h (ap is_coroutine is ∙ m.0) (or-true (not (suspended (state u c))) _ (ap (λ y. (rest_of y).finalized) is ∙ m.1)),
          );
      spent = λ w o pc ok own e s f k n.
          leads-to w o
          ∙ (ap (λ (l : Lines Answer). leads_from (refuse 11 (not (sound w)) w ∷ l.tests) l.done) e
          ∙ past (not (sound w)) _ (ap not s) (past (is_nil w.frames) _ f (past (not ok) _ (ap not k) (here (used_up w) _ n))));
      unarmed = λ w pc e n.
          let some : eqb w.fuel.fuel 0 ≡ false = plainly w.fuel.fuel w.fuel.bank w.fuel.ready (eqb w.fuel.fuel 0) e refl n in (
            ap (λ b. (b && w.fuel.ready) && not (is_nil (queue_from (pc_stored pc w) w.finalize))) some,
            here (not (eqb w.fuel.fuel 0)) _ (ap not some) ∙ ap (λ b. fuelled (w.fuel.fuel - 1) b w.fuel.ready w) e,
          );
    }
