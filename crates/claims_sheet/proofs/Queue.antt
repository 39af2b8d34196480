-- The queue words that an instruction takes off.
use Prim.Native.Nat.{ℕ, suc, ◌+◌}
use mathlib.Core.Path.{◌≡◌, refl, sym, ap, subst, ◌∙◌}
use mathlib.Core.Bool.{Bool, true, false, not, ◌&&◌, true≢false, false≢true}
use mathlib.Core.List.{List, [], ◌∷◌, map}
use native.Mathlib.Omega.{arith}
use lib.ListN.{length, drop}
use lib.Dec.{eqb}
use Rattle.lists.specs.Pick.{pick}
use Rattle.model.specs.Lists.{is_nil}
use Rattle.model.specs.World.{World, After, after}
use Rattle.model.specs.Sound.{sound}
use Rattle.model.specs.Answer.{taken_off}
use Rattle.model.specs.Call.{Do, Operation}
use Rattle.model.specs.Step.{step}
use Rattle.model.specs.declared.exec.Step.{Step}
use Rattle.model.specs.declared.call.Op.{Op}
use Rattle.model.specs.declared.call.Answer.{Answer}
use Rattle.claims_sheet.specs.Lines.{Line, Lines, leads_from, leads, refuse}
use Rattle.claims_sheet.specs.Moves.{pc_stored}
use Rattle.claims_sheet.specs.Charging.{used_up, searches, starts, closable, queue_from, taken, charged, lost, as_answer, instruction}
use Rattle.claims_sheet.specs.Sheet.{table_of, sheet}
use Rattle.claims_sheet.specs.Answers.{is_instruction}
use Rattle.claims_sheet.specs.Queue.{Queue}
use Rattle.claims_sheet.proofs.Among.{and_left, and_right, not-true, not-false}
use Rattle.claims_sheet.proofs.Choice.{both}
use Rattle.claims_sheet.proofs.Sheet.{holds, leads-to}
use Rattle.claims_sheet.proofs.Led.{here, Every, led-in-turn, in-turn}
use Rattle.claims_sheet.proofs.Walk.{EveryLine, Own, Owns}

-- ---- the search

found-one : (w : World) (q : List ℕ) → is_nil (queue_from w q) ≡ false → taken w q + length (drop 1 (queue_from w q)) ≡ length q
unfolding pick
found-one w [] h = absurd (true≢false h)
found-one w (c ∷ q) h = go (closable w c) (found-one w q) h
  where
    go : (b : Bool) → (is_nil (queue_from w q) ≡ false → taken w q + length (drop 1 (queue_from w q)) ≡ length q) → is_nil (pick b (c ∷ q) (queue_from w q)) ≡ false → pick b 1 (suc (taken w q)) + length (drop 1 (pick b (c ∷ q) (queue_from w q))) ≡ suc (length q)
    go true more h = omega arith
    go false more h = let e = more h in omega (arith, e)

pub found_none : (w : World) (q : List ℕ) → is_nil (queue_from w q) ≡ true → taken w q ≡ length q
unfolding pick
found_none w [] h = refl
found_none w (c ∷ q) h = go (closable w c) (found_none w q) h
  where
    go : (b : Bool) → (is_nil (queue_from w q) ≡ true → taken w q ≡ length q) → is_nil (pick b (c ∷ q) (queue_from w q)) ≡ true → pick b 1 (suc (taken w q)) ≡ suc (length q)
    go true more h = absurd (false≢true h)
    go false more h = ap suc (more h)

module _ (pc : ℕ) (w : World) where
  abbrev z : World
  z = pc_stored pc w

  abbrev q : List ℕ
  q = w.finalize

  spent : (f r : Bool) (A B C : World) → A.finalize ≡ q → B.finalize ≡ q → C.finalize ≡ [] → (f && r) && not (is_nil (queue_from z q)) ≡ false →
      pick (f && r) (taken z q) 0 + length (pick (not f) A (pick (not r) B C)).finalize ≡ length q
  unfolding pick
  spent true true A B C a b c h = let e = found_none z q (not-false (is_nil (queue_from z q)) h) in let l : length C.finalize ≡ 0 = ap (λ x. length x) c in omega (arith, e, l)
  spent true false A B C a b c h = let l : length B.finalize ≡ length q = ap (λ x. length x) b in omega (arith, l)
  spent false r A B C a b c h = let l : length A.finalize ≡ length q = ap (λ x. length x) a in omega (arith, l)

  all-lost : starts pc w ≡ false → lost pc w + length (charged pc w).finalize ≡ length q
  all-lost h = spent (eqb w.fuel.fuel 0) w.fuel.ready _ _ _ refl refl refl h

  -- ---- an instruction

  abbrev Loses : After Answer → Type 0
  Loses a = length q ≡ taken_off a.answer + length a.world.finalize

  own_line : (x : World) (b : Bool) (s : Step) → starts pc w ≡ false → x.finalize ≡ (charged pc w).finalize → Loses (after x (pick b (Answer.Unpaid (lost pc w)) (Answer.Stepped s (lost pc w))))
  own_line x b s h e = both (λ (a : Answer). length q ≡ taken_off a + length x.finalize) b same same
    where
      same : length q ≡ lost pc w + length x.finalize
      same = sym (all-lost h) ∙ ap (λ l. lost pc w + length l) (sym e)

  own-lines : (ts : List (Line Step)) → starts pc w ≡ false → EveryLine (Own (charged pc w)) ts → Every Loses (map (as_answer (lost pc w)) ts)
  own-lines [] h o = tt
  own-lines (t ∷ ts) h o = (λ e. own_line t.left (eqb t.number 10) t.answer h (o.0 e).kept.queue, own-lines ts h o.1)

  loses : (ok : Bool) (own : World → Lines Step) → Owns (charged pc w) (own (charged pc w)) → Loses (leads_from (refuse 11 (not (sound w)) w ∷ (instruction pc ok own w).tests) (instruction pc ok own w).done)
  loses ok own o =
      led-in-turn Loses (refuse 11 (not (sound w)) w ∷ (instruction pc ok own w).tests) (instruction pc ok own w).done (
        λ _. nothing,
        λ _. (
          λ _. nothing,
          λ _. (
            λ _. nothing,
            λ _. (
              λ _. nothing,
              λ _. (
                cleaned,
                λ h. in-turn Loses (map (as_answer (lost pc w)) (own u).tests) (as_answer (lost pc w) (own u).done) (own-lines (own u).tests h o.0)
                    (own_line (own u).done.left (eqb (own u).done.number 10) (own u).done.answer h o.1.kept.queue),
              ),
            ),
          ),
        ),
      )
    where
      u : World
      u = charged pc w

      nothing : length q ≡ 0 + length q
      nothing = omega arith

      cleaned : starts pc w ≡ true → length q ≡ lost pc w + length (drop 1 (queue_from z q))
      cleaned h =
          let e = found-one z q (not-true (is_nil (queue_from z q)) (and_right (searches w) _ h)) in
          let l : lost pc w ≡ taken z q = here (searches w) 0 (and_left (searches w) _ h) in
          omega (arith, e, l)

-- ---- the count

own-count : (n : ℕ) (ts : List (Line Step)) (d : Line Step) → taken_off (leads_from (map (as_answer n) ts) (as_answer n d)).answer ≡ n
own-count n [] d = both (λ (a : Answer). taken_off a ≡ n) _ refl refl
own-count n (t ∷ ts) d = both (λ (a : After Answer). taken_off a.answer ≡ n) t.stops (both (λ (a : Answer). taken_off a ≡ n) _ refl refl) (own-count n ts d)

counted : (s f k p r : Bool) (t : ℕ) (a b c d e : After Answer) → taken_off a.answer ≡ 0 → taken_off b.answer ≡ 0 → taken_off c.answer ≡ 0 → taken_off d.answer ≡ 0 → taken_off e.answer ≡ pick r t 0 →
    taken_off (pick (not s) a (pick f b (pick (not k) c (pick p d e)))).answer ≡ pick (s && (not f && (k && (not p && r)))) t 0
unfolding pick
counted true true k p r t a b c d e ha hb hc hd he = hb
counted true false true true r t a b c d e ha hb hc hd he = hd
counted true false true false r t a b c d e ha hb hc hd he = he
counted true false false p r t a b c d e ha hb hc hd he = hc
counted false f k p r t a b c d e ha hb hc hd he = ha

count_by : (w : World) (o : Operation) (pc : ℕ) (ok : Bool) (own : World → Lines Step) → table_of o.op w ≡ instruction pc ok own w →
    taken_off (step w (Do o)).answer ≡ pick (sound w && (not (is_nil w.frames) && (ok && (not (used_up w) && searches w)))) (taken (pc_stored pc w) w.finalize) 0
count_by w o pc ok own e =
    ap (λ (a : After Answer). taken_off a.answer) (leads-to w o)
    ∙ (ap (λ (l : Lines Answer). taken_off (leads_from (refuse 11 (not (sound w)) w ∷ l.tests) l.done).answer) e
    ∙ counted (sound w) (is_nil w.frames) ok (used_up w) (searches w) (taken (pc_stored pc w) w.finalize) _ _ _ _ _ refl refl refl refl
    (both (λ (a : After Answer). taken_off a.answer ≡ lost pc w) (starts pc w) refl (own-count (lost pc w) (own (charged pc w)).tests (own (charged pc w)).done)))

loss-by : (w : World) (o : Op) → is_instruction o ≡ true → let a = leads (sheet o w) in length w.finalize ≡ taken_off a.answer + length a.world.finalize
loss-by w o i =
    let h = (holds o).instructs i in
    subst (λ (s : Lines Answer). Loses h.pc w (leads_from (refuse 11 (not (sound w)) w ∷ s.tests) s.done)) (sym (h.is w))
    (loses h.pc w (h.operands w) h.own (h.owns (charged h.pc w)))

pub queue : Queue
queue = record { loss = λ w o i. subst (λ (a : After Answer). length w.finalize ≡ taken_off a.answer + length a.world.finalize) (sym (leads-to w o)) (loss-by w o.op i); count = count_by }
