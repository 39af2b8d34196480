-- The sheet's lines for `finish`.
use Prim.Native.Nat.{ℕ, ◌^◌, ◌<◌}
use mathlib.Core.Path.{◌≡◌, refl, sym, ap, ◌∙◌}
use mathlib.Core.Bool.{Bool, true, false, not, ◌&&◌}
use mathlib.Core.List.{List, [], ◌∷◌}
use lib.Dec.{leb, ltb}
use borrow.Author.Tests.{ltb-true, ltb-false, lt-leb}
use Rattle.lists.specs.Pick.{pick, pick_true, pick-false}
use Rattle.heap.specs.Coding.{in_range, of_bits}
use Rattle.heap.proofs.Coding.{bits-of, of_range}
use Rattle.heap.specs.declared.fault.Fault.{Fault}
use Rattle.std.specs.Prelude.{Option, Result, Some, None, Ok, Err}
use Rattle.heap.specs.declared.heap.ResultKind.{ResultKind}
use Rattle.heap.specs.declared.object.CoroState.{CoroState}
use Rattle.model.specs.World.{World, After, after, and_then, with_chain, with_frames}
use Rattle.model.specs.Frames.{next_pc, put_reg}
use Rattle.model.specs.Heap.{encode_int, encode_exact, to_dyn}
use Rattle.model.specs.Coro as Coros
use Rattle.model.specs.Machine as Machine
use Rattle.model.specs.declared.machine.Active.{Active}
use Rattle.model.specs.declared.machine.Cont.{Cont}
use Rattle.model.specs.declared.machine.Driver.{Driver}
use Rattle.model.specs.declared.machine.Frame.{Frame}
use Rattle.model.specs.declared.call.Answer.{Answer}
use Rattle.claims_sheet.specs.Lines.{leads_from, leads, accept}
use Rattle.claims_sheet.specs.Words.{lacks_memory, no_slot}
use Rattle.claims_sheet.specs.Moves.{put, iterator_done, finished_with}
use Rattle.claims_sheet.specs.Endings as Table
use Rattle.claims_sheet.specs.Endings.{popped, result, too_large, is_object, converted, dynamic, conversion, handed_back, returned, stepped, written, or_nil, finish_by, finish_on}
use Rattle.claims_sheet.proofs.Choice.{both}
use Rattle.claims_sheet.proofs.Words.{le-true}
use Rattle.claims_sheet.proofs.Moved.{below, onward-is, put_is, sent_is, marked-is, finished-is}
use Rattle.claims_sheet.proofs.Suspending.{cleaning-is}
use Rattle.claims_sheet.proofs.Yields.{encode-is}

-- ---- a result as a dynamic word

abbrev Converts : ResultKind → ℕ → World → Type 0
Converts k v x =
    to_dyn k v x
    ≡ pick (too_large k v) (after x (Err Fault.ArithOverflow)) (pick (is_object k v && lacks_memory x x.setup.costs.int) (after x (Err Fault.OutOfMemory))
    (pick (is_object k v && no_slot x) (after x (Err Fault.Full)) (after (converted k v x) (Ok (dynamic k v x)))))

not-lt : (m n : ℕ) → not (ltb m n) ≡ leb n m
not-lt m n = go (ltb m n) refl
  where
    go : (b : Bool) → ltb m n ≡ b → not b ≡ leb n m
    go true e = sym (lt-leb n m (ltb-true m n e))
    go false e = sym (le-true n m (ltb-false m n e))

convert-by : (v : ℕ) (x : World) (b : Bool) → encode_exact (pick b (Some v) None) x ≡ pick (not b) (after x (Err Fault.ArithOverflow)) (encode_int v x)
unfolding pick
convert-by v x true = refl
convert-by v x false = refl

converts : (k : ResultKind) (v : ℕ) (x : World) → v < 2 ^ 64 → Converts k v x
unfolding to_dyn pick
converts ResultKind.None v x h = refl
converts ResultKind.Dyn v x h = refl
converts ResultKind.I64 v x h =
    (λ i. encode_exact (pick (ranged i) (Some (bits-of 63 v h i)) None) x) ∙ encode-is v x
  where
    ranged : in_range 63 (of_bits 63 v) ≡ true
    ranged = le-true _ _ (of_range 63 v h)
converts ResultKind.U64 v x h = convert-by v x (ltb v (2 ^ 63)) ∙ (λ i. pick (not-lt v (2 ^ 63) i) (after x (Err Fault.ArithOverflow)) (encode-is v x i))

module _ {B : Type 0} (g : World → Result ℕ Fault → After B) (k : ResultKind) (v : ℕ) (x : World) (h : v < 2 ^ 64) where
  convert-then : (a b c : Bool) (y : World) (n : ℕ) → and_then (pick a (after x (Err Fault.ArithOverflow)) (pick b (after x (Err Fault.OutOfMemory)) (pick c (after x (Err Fault.Full)) (after y (Ok n))))) g
      ≡ pick a (g x (Err Fault.ArithOverflow)) (pick b (g x (Err Fault.OutOfMemory)) (pick c (g x (Err Fault.Full)) (g y (Ok n))))
  unfolding pick
  convert-then true b c y n = refl
  convert-then false true c y n = refl
  convert-then false false true y n = refl
  convert-then false false false y n = refl

  convert-is : and_then (to_dyn k v x) g
      ≡ pick (too_large k v) (g x (Err Fault.ArithOverflow)) (pick (is_object k v && lacks_memory x x.setup.costs.int) (g x (Err Fault.OutOfMemory))
      (pick (is_object k v && no_slot x) (g x (Err Fault.Full)) (g (converted k v x) (Ok (dynamic k v x)))))
  convert-is = ap (λ (e : After (Result ℕ Fault)). and_then e g) (converts k v x h) ∙ convert-then (too_large k v) (is_object k v && lacks_memory x x.setup.costs.int) (is_object k v && no_slot x) (converted k v x) (dynamic k v x)

-- ---- returns

pub handed-is : (d : Driver) (v : ℕ) (w : World) → Coros.deliver_return d v w ≡ handed_back d v w
handed-is (Driver.Resume dst) v w = sent_is dst v w
handed-is (Driver.Iter has val it) v w = ap (λ x. Coros.coro_send has 0 x) (marked-is it (λ _. true) (λ k. k) w) ∙ sent_is has 0 (iterator_done it w)
handed-is Driver.Host v w = refl
handed-is Driver.Finalize v w = cleaning-is false w

pub returned-is : (cs : List Active) (v : ℕ) (w : World) → Coros.returned_on cs v w ≡ returned cs v w
returned-is [] v w = refl
returned-is (a ∷ chain) v w =
    ap (λ x. Coros.deliver_return a.driver v x) (finished-is a.coro CoroState.Returned v (with_chain chain w)) ∙ handed-is a.driver v (finished_with a.coro CoroState.Returned v (with_chain chain w))

-- ---- by continuation

stepped-is : (w : World) → next_pc w ≡ stepped w
stepped-is w = ap (λ fs. with_frames fs w) (onward-is w.frames)

resumed : (w w' : World) → w ≡ w' → Machine.resume_in w (Ok tt) ≡ after (stepped w') Answer.Resume
resumed w w' e = ap (λ x. after x Answer.Resume) (ap (λ x. next_pc x) e ∙ stepped-is w')

result-is : (k : ResultKind) (v : ℕ) → Machine.result_of k v ≡ result k v
result-is ResultKind.None v = refl
result-is ResultKind.Dyn v = refl
result-is ResultKind.I64 v = refl
result-is ResultKind.U64 v = refl

written_is : (r : ℕ) (o : Option ℕ) (w : World) → Machine.write_result r o w ≡ written r o w
written_is r None w = refl
written_is r (Some v) w = put_is r v w

pub or-nil-is : (o : Option ℕ) → Machine.or_nil o ≡ or_nil o
or-nil-is None = refl
or-nil-is (Some v) = refl

through-dyn : (r : ℕ) (k : ResultKind) (v : ℕ) (x : World) → v < 2 ^ 64 →
    and_then (to_dyn k v x) (λ w m. and_then (Machine.write_made r w m) Machine.resume_in) ≡ leads_from (conversion k v x) (accept true Answer.Resume (stepped (put r (dynamic k v x) (converted k v x))))
through-dyn r k v x h =
    convert-is (λ w m. and_then (Machine.write_made r w m) Machine.resume_in) k v x h
    ∙ (λ i. pick (too_large k v) (after x (Answer.Refused Fault.ArithOverflow)) (pick (is_object k v && lacks_memory x x.setup.costs.int) (after x (Answer.Refused Fault.OutOfMemory)) (pick (is_object k v && no_slot x) (after x (Answer.Refused Fault.Full))
    (resumed (put_reg r (dynamic k v x) (converted k v x)) (put r (dynamic k v x) (converted k v x)) (put_is r (dynamic k v x) (converted k v x)) i))))

same-chain : (k : ResultKind) (v : ℕ) (w : World) → (converted k v w).chain ≡ w.chain
same-chain k v w = both (λ (x : World). x.chain ≡ w.chain) _ refl refl

through-coro : (f : Frame) (fs : List Frame) (k : ResultKind) (v : ℕ) (w : World) → v < 2 ^ 64 → Machine.finish_coro f fs k v w ≡ leads (finish_by Cont.Coro f fs k v w)
unfolding Coros.coro_returned
through-coro f fs k v w h =
    convert-is (Machine.return_made f fs) k v w h
    ∙ below _ _ (below _ _ (below _ _ (ap (λ x. after x Answer.Resume) (ap (λ c. Coros.returned_on c n x) (same-chain k v w) ∙ returned-is w.chain n x))))
  where
    n : ℕ
    n = dynamic k v w

    x : World
    x = popped f fs (converted k v w)

finish-by : (c : Cont) (f : Frame) (fs : List Frame) (k : ResultKind) (v : ℕ) (w : World) → v < 2 ^ 64 → Machine.finish_as c f fs k v w ≡ leads (finish_by c f fs k v w)
unfolding Machine.apply_cont
finish-by Cont.Entry f fs k v w h = ap (λ o. after (popped f fs w) (Answer.Exit o)) (result-is k v)
finish-by (Cont.Write r) f fs k v w h = resumed _ _ (ap (λ o. Machine.write_result r o (popped f fs w)) (result-is k v) ∙ written_is r (result k v) (popped f fs w))
finish-by (Cont.Dyn r) f fs k v w h = through-dyn r k v (popped f fs w) h
finish-by (Cont.Value r) f fs k v w h =
    resumed _ _ (ap (λ o. put_reg r (Machine.or_nil o) (popped f fs w)) (result-is k v) ∙ (ap (λ n. put_reg r n (popped f fs w)) (or-nil-is (result k v)) ∙ put_is r (or_nil (result k v)) (popped f fs w)))
finish-by Cont.Discard f fs k v w h = resumed (popped f fs w) (popped f fs w) refl
finish-by Cont.Coro f fs k v w h = through-coro f fs k v w h

finish-on : (fs : List Frame) (k : ResultKind) (v : ℕ) (w : World) → v < 2 ^ 64 → Machine.finish_on fs k v w ≡ leads (finish_on fs k v w)
finish-on [] k v w h = ap (λ o. after w (Answer.Exit o)) (result-is k v)
finish-on (f ∷ fs) k v w h = finish-by f.cont f fs k v w h

pub finish-is : (k : ResultKind) (v : ℕ) (w : World) → v < 2 ^ 64 → Machine.finish k v w ≡ leads (Table.finish k v w)
unfolding Machine.finish
finish-is k v w h = finish-on w.frames k v w h
