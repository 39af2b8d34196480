-- PEP 342: deletion, read off the table.
use Prim.Native.Nat.{ℕ}
use mathlib.Core.Path.{◌≡◌, refl, ap, ◌∙◌}
use mathlib.Core.Bool.{Bool, true, false, not, ◌&&◌, ◌||◌}
use mathlib.Core.List.{List, ◌∷◌}
use lib.ListN.{get_or, drop}
use Rattle.std.specs.Prelude.{None}
use Rattle.model.specs.Lists.{is_nil}
use Rattle.model.specs.World.{World, After, after, with_finalize, with_finalizing}
use Rattle.model.specs.Sound.{sound}
use Rattle.model.specs.Call.{Operation, typed}
use Rattle.model.specs.declared.machine.Driver.{Driver}
use Rattle.model.specs.declared.exec.Step.{Step}
use Rattle.model.specs.declared.call.Op.{Op}
use Rattle.model.specs.declared.call.Answer.{Answer}
use Rattle.claims_sheet.specs.Lines.{Lines, leads_from, refuse}
use Rattle.claims_sheet.specs.Does.{does, operation}
use Rattle.claims_sheet.specs.Words.{found, dead, no_coroutine, is_coroutine, rest_of, state, suspended}
use Rattle.claims_sheet.specs.Moves.{pc_stored, entered_closing}
use Rattle.claims_sheet.specs.Charging.{reserve, fuelled, used_up, searches, starts, queue_from, taken, cleanup, instruction}
use Rattle.claims_sheet.specs.Sheet.{table_of}
use Rattle.claims_sheet.specs.Pep342Deletion.{Deletion}
use Rattle.claims_sheet.proofs.Sheet.{leads-to}
use Rattle.claims_sheet.proofs.Led.{past, here, lives}

module _ (w : World) (v : ℕ) (t : typed (Op.HandOver v) ≡ true) (s : sound w ≡ true) (c : is_coroutine (found w v) ≡ true) where
  abbrev no : Bool
  no = not (suspended (state w v)) || (rest_of (found w v)).finalized

  handed : (x : After Answer) → leads_from (drop 2 (table_of (Op.HandOver v) w).tests) (table_of (Op.HandOver v) w).done ≡ x → does w (operation (Op.HandOver v) t) ≡ x
  handed x e = leads-to w _ ∙ past (not (sound w)) _ (ap not s) (past (dead w v) _ (lives (found w v) _ c) (past (no_coroutine w v) _ (ap not c) e))

module _ (w : World) (o : Operation) (pc : ℕ) (ok : Bool) (own : World → Lines Step) (c : ℕ) (queue : List ℕ) (e : table_of o.op w ≡ instruction pc ok own w) where
  abbrev z : World
  z = pc_stored pc w

  abbrev closed : List ℕ → World
  closed q = fuelled (reserve w) None false (with_finalizing true (entered_closing 0 (get_or q 0 0) Driver.Finalize (with_finalize (drop 1 q) z)))

  cleans : sound w ≡ true → is_nil w.frames ≡ false → ok ≡ true → used_up w ≡ false → searches w ≡ true → queue_from z w.finalize ≡ c ∷ queue →
      does w o ≡ after (closed (c ∷ queue)) (Answer.Cleanup (taken z w.finalize))
  cleans s f k u g q =
      leads-to w o
      ∙ (ap (λ (l : Lines Answer). leads_from (refuse 11 (not (sound w)) w ∷ l.tests) l.done) e
      ∙ past (not (sound w)) _ (ap not s) (past (is_nil w.frames) _ f (past (not ok) _ (ap not k) (past (used_up w) _ u
      (here (starts pc w) _ (ap (λ b. b && not (is_nil (queue_from z w.finalize))) g ∙ ap (λ l. not (is_nil l)) q)
      ∙ (ap (λ n. after (cleanup pc w) (Answer.Cleanup n)) (here (searches w) 0 g) ∙ ap (λ l. after (closed l) (Answer.Cleanup (taken z w.finalize))) q))))))

pub deletion : Deletion
deletion =
    record {
      hand-over = λ w v t s c h f. handed w v t s c _ (past (no w v t s c) _ (ap (λ b. not b || (rest_of (found w v)).finalized) h ∙ f) refl);
      hand-over-refused = λ w v t s c h. handed w v t s c _ (here (no w v t s c) _ h);
      cleanup-starts = λ w o pc ok own c queue e s f k u g q. cleans w o pc ok own c queue e s f k u g q;
    }
