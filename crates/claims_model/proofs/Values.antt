-- A result that is an integer is recorded as a word that stands for it.
use Prim.Native.Nat.{ℕ, ◌^◌, ◌<◌}
use native.Mathlib.Omega.{arith}
use native.Mathlib.Decide.{ℕ_discrete}
use mathlib.Core.Path.{◌≡◌, refl, sym, ap, ◌∙◌, subst}
use mathlib.Core.Bool.{Bool, true, false, not, ◌&&◌}
use mathlib.Core.List.{List, [], ◌∷◌, ◌++◌}
use mathlib.Core.Option.{some}
use lib.IntN.{ℤ, pos}
use lib.ListN.{length, length-append}
use lib.Seq.{get_or_at}
use lib.Signed.{mag}
use lib.Dec.{eqb, ltb}
use borrow.Author.Tests.{ltb-true, lt-ltb, eq-eqb}
use Rattle.lists.specs.Pick.{pick, pick_true}
use Rattle.heap.specs.Word.{slot_of, tag_of, reference, int_word}
use Rattle.heap.specs.Coding.{in_range, bits_of, of_bits}
use Rattle.heap.specs.Charge.{sat_add}
use Rattle.heap.specs.Int.{exactly, inline_of}
use Rattle.heap.specs.Table.{Slot, slot, get_in, dyn_int_by, next_word, push_object}
use Rattle.std.specs.Prelude.{Option, Result, Some, None, Ok, Err}
use Rattle.heap.specs.declared.value.Word.{Word}
use Rattle.heap.specs.declared.fault.Fault.{Fault}
use Rattle.heap.specs.declared.heap.ResultKind.{ResultKind}
use Rattle.heap.proofs.Coding.{bits-of, of_range}
use Rattle.heap.proofs.Words.{class-ref, class_int}
use Rattle.model.specs.State.{is_running, is_returned}
use Rattle.model.specs.Object.{Object, is_filled}
use Rattle.model.specs.World.{World, After, after, with_used, with_slots}
use Rattle.model.specs.Heap.{object_at, coro, fits, slots_full, refuse, alloc, encode_at, encode_int, encode_exact, to_dyn, int_in, dyn_int}
use Rattle.model.specs.Machine.{finish}
use Rattle.model.specs.Sound.{sound}
use Rattle.model.specs.Call.{Call, typed}
use Rattle.model.specs.Step.{call}
use Rattle.model.specs.declared.call.Op.{Op}
use Rattle.model.specs.declared.call.Answer.{Answer}
use Rattle.claims_sound.proofs.Sound.{sound→}
use Rattle.claims_model.specs.Delivery.{recorded, result_of}
use Rattle.claims_model.specs.Events as Said
use Rattle.claims_model.specs.Events.{is_integer}
use Rattle.claims_model.specs.Promise.{converts}
use Rattle.claims_model.specs.Steps.{seen_of, model_op, steps}
use Rattle.claims_model.proofs.Held.{core_in, core_at}
use Rattle.claims_model.proofs.Split.{next}
use Rattle.claims_model.proofs.Cores.{no_both, object_in, find}
use Rattle.claims_model.proofs.Claim.{StepCase, anew, same, does, step_case, fresh-absent}
use Rattle.claims_model.proofs.Views.{is-runs, is-ended}
use Rattle.claims_model.proofs.Finishes.{FinishCase, f-other, f-returns, finish-case, dyn_in, dyn-object}
use Rattle.claims_model.proofs.Returned.{run-returned}
use Rattle.claims_model.proofs.Exact.{some-op}

-- ---- a new integer's word

pub new-object : (xs : List (Slot Object)) (o : Object) → length xs < 2 ^ 32 → is_filled o ≡ true → object_in (push_object xs o) (next_word xs) ≡ o
new-object xs o l f =
    ap (λ c. object_at ys (get_in Object.Empty is_filled ys c)) (class-ref (length xs) 0 l (omega arith))
    ∙ (ap (λ b. object_at ys (pick b (Some (slot_of w)) None)) named
    ∙ (ap (object_at ys) (pick_true (Some (slot_of w)) None) ∙ ap (λ s. s.object) here))
  where
    w : ℕ
    w = next_word xs

    ys : List (Slot Object)
    ys = xs ++ (slot 0 o ∷ [])

    slots : slot_of (reference (length xs) 0) ≡ length xs
    slots = omega (arith, l)

    here : find (xs ++ (slot 0 o ∷ [])) (slot_of (reference (length xs) 0)) ≡ slot 0 o
    here = get_or_at xs (slot 0 o) [] (slot 0 Object.Empty) (slot_of (reference (length xs) 0)) (sym slots)

    inside : ltb (slot_of (reference (length xs) 0)) (length (xs ++ (slot 0 o ∷ []))) ≡ true
    inside = lt-ltb (slot_of (reference (length xs) 0)) (length (xs ++ (slot 0 o ∷ []))) (omega (arith, slots, length-append xs (slot 0 o ∷ [])))

    tagged : eqb (find (xs ++ (slot 0 o ∷ [])) (slot_of (reference (length xs) 0))).tag (tag_of (reference (length xs) 0)) ≡ true
    tagged = ap (λ s. eqb s.tag (tag_of (reference (length xs) 0))) here ∙ eq-eqb 0 (tag_of (reference (length xs) 0)) (omega (arith, l))

    named : (ltb (slot_of (reference (length xs) 0)) (length (xs ++ (slot 0 o ∷ []))) && (eqb (find (xs ++ (slot 0 o ∷ [])) (slot_of (reference (length xs) 0))).tag (tag_of (reference (length xs) 0)) && is_filled (find (xs ++ (slot 0 o ∷ [])) (slot_of (reference (length xs) 0))).object)) ≡ true
    named = λ i. inside i && (tagged i && (ap (λ s. is_filled s.object) here ∙ f) i)

new-int : (xs : List (Slot Object)) (n : ℕ) → length xs < 2 ^ 32 → dyn_in (push_object xs (Object.Int n)) (next_word xs) ≡ Some n
new-int xs n l = dyn-object (push_object xs (Object.Int n)) (next_word xs) (omega (arith, l)) ∙ ap int_in (new-object xs (Object.Int n) l refl)

word-of : Result ℕ Fault → ℕ
word-of (Ok y) = y
word-of (Err f) = 0

exact-in : (z : ℤ) → in_range 63 z ≡ true → exactly z ≡ Some (bits_of 63 z)
exact-in z q = ap (λ b. pick b (Some (bits_of 63 z)) None) q ∙ pick_true (Some (bits_of 63 z)) None

signed-in : (x : ℕ) → x < 2 ^ 64 → exactly (of_bits 63 x) ≡ Some x
signed-in x l = exact-in (of_bits 63 x) (lt-ltb (mag (of_bits 63 x)) (2 ^ 63) (of_range 63 x l)) ∙ ap Some (bits-of 63 x l)

module _ (w : World) (h : sound w ≡ true) where
  pub few : length w.slots < 2 ^ 32
  few = let k = (sound→ {ex = false} w h (λ z. no_both z refl)).heap in let a = k.count in let b = k.small in omega (arith, a, b)

  encoded : (n y : ℕ) → n < 2 ^ 64 → (encode_int n w).answer ≡ Ok y → dyn_int (encode_int n w).world y ≡ Some n
  unfolding alloc pick word-of
  encoded n y l e = go (in_range 47 (of_bits 63 n)) refl e
    where
      object : (a b : Bool)
          → let o = pick a (refuse w Fault.OutOfMemory) (pick b (refuse w Fault.Full) (after (with_used (sat_add w.used w.setup.costs.int) (with_slots (push_object w.slots (Object.Int n)) w)) (Ok (next_word w.slots)))) in
          o.answer ≡ Ok y → dyn_int o.world y ≡ Some n
      object true b e = let z : ◌≡◌ {A = ℕ} 0 1 = cc in absurd (omega arith)
      object false true e = let z : ◌≡◌ {A = ℕ} 0 1 = cc in absurd (omega arith)
      object false false e = subst (λ v. dyn_in (push_object w.slots (Object.Int n)) v ≡ Some n) (ap word-of e) (new-int w.slots n few)

      go : (b : Bool) → in_range 47 (of_bits 63 n) ≡ b → let i : Option Word = pick b (Some (record { 0 = int_word (of_bits 63 n) })) None in (encode_at i n w).answer ≡ Ok y → dyn_int (encode_at i n w).world y ≡ Some n
      go true q e =
          subst (λ v. dyn_in w.slots v ≡ Some n) (ap word-of e)
          (ap (dyn_int_by Object.Empty is_filled int_in w.slots) (class_int (of_bits 63 n) (ltb-true (mag (of_bits 63 n)) (2 ^ 47) q)) ∙ ap Some (bits-of 63 n l))
      go false q e = object (not (fits w w.setup.costs.int)) (slots_full w) e

  made-int : (kind : ResultKind) (x y : ℕ) → is_integer kind ≡ true → x < 2 ^ 64 → (to_dyn kind x w).answer ≡ Ok y → dyn_int (to_dyn kind x w).world y ≡ Some x
  unfolding to_dyn pick
  made-int ResultKind.None x y k l e = no_both k refl
  made-int ResultKind.Dyn x y k l e = no_both k refl
  made-int ResultKind.I64 x y k l e =
      let q = signed-in x l in
      ap (λ t. dyn_int (encode_exact t w).world y) q ∙ encoded x y l (ap (λ t. (encode_exact t w).answer) (sym q) ∙ e)
  made-int ResultKind.U64 x y k l e = go (in_range 63 (pos x)) e
    where
      go : (b : Bool) → let t : Option ℕ = pick b (Some x) None in (encode_exact t w).answer ≡ Ok y → dyn_int (encode_exact t w).world y ≡ Some x
      go true e = encoded x y l e
      go false e = let z : ◌≡◌ {A = ℕ} 0 1 = cc in absurd (omega arith)

module _ (w : World) where
  -- and what converts, where an object can be made, is made
  can-encode : (n : ℕ) → fits w w.setup.costs.int ≡ true → slots_full w ≡ false → (f : Fault) → (encode_int n w).answer ≡ Err f → ⊥
  unfolding alloc pick
  can-encode n a b f e = go (inline_of (of_bits 63 n)) e
    where
      object : (x y : Bool) → x ≡ false → y ≡ false → (pick x (refuse w Fault.OutOfMemory)
          (pick y (refuse w Fault.Full) (after (with_used (sat_add w.used w.setup.costs.int) (with_slots (push_object w.slots (Object.Int n)) w)) (Ok (next_word w.slots))))).answer ≡ Err f → ⊥
      object true y p q e = no_both refl p
      object false true p q e = no_both refl q
      object false false p q e = let z : ◌≡◌ {A = ℕ} 0 1 = cc in absurd (omega arith)

      go : (i : Option Word) → (encode_at i n w).answer ≡ Err f → ⊥
      go (Some x) e = let z : ◌≡◌ {A = ℕ} 0 1 = cc in absurd (omega arith)
      go None e = object (not (fits w w.setup.costs.int)) (slots_full w) (ap not a) b e

  pub can-make : (kind : ResultKind) (x : ℕ) → x < 2 ^ 64 → converts kind x ≡ true → fits w w.setup.costs.int ≡ true → slots_full w ≡ false → (f : Fault) → (to_dyn kind x w).answer ≡ Err f → ⊥
  unfolding to_dyn
  can-make ResultKind.None x l k a b f e = let z : ◌≡◌ {A = ℕ} 0 1 = cc in absurd (omega arith)
  can-make ResultKind.Dyn x l k a b f e = let z : ◌≡◌ {A = ℕ} 0 1 = cc in absurd (omega arith)
  can-make ResultKind.I64 x l k a b f e = can-encode x a b f (ap (λ t. (encode_exact t w).answer) (sym (signed-in x l)) ∙ e)
  can-make ResultKind.U64 x l k a b f e = can-encode x a b f (ap (λ t. (encode_exact t w).answer) (sym (exact-in (pos x) k)) ∙ e)

-- ---- the result of a finish

finish-int : (kind : ResultKind) (x : ℕ) (w : World) → sound w ≡ true → x < 2 ^ 64 → is_integer kind ≡ true → (c : ℕ) (o : After Answer) → is_running (core_at w c).state ≡ true
    → is_returned (core_at o.world c).state ≡ true → FinishCase kind x w o → dyn_int o.world (recorded (seen_of (coro o.world c))) ≡ Some x
finish-int kind x w h l k c o b r (f-other e n) = no_both r (ap (λ y. is_returned (core_in y).state) (e c) ∙ run-returned (core_at w c).state b)
finish-int kind x w h l k c o b r (f-returns f fs a chain y p q i m n ends tells ints) = go (ℕ_discrete c a.coro)
  where
    go : Dec (c ≡ a.coro) → dyn_int o.world (recorded (seen_of (coro o.world c))) ≡ Some x
    go (yes u) =
        ap (λ v. dyn_int o.world (recorded (seen_of (coro o.world v)))) u
        ∙ (ap (dyn_int o.world) (tells (ap (λ v. is_running (core_at w v).state) (sym u) ∙ b)) ∙ ints y x (made-int w h kind x y k l m))
    go (no u) = no_both r (ap (λ y. is_returned y.state) (ends.others c u) ∙ run-returned (core_at w c).state b)

finish-at : (w : World) (c : ℕ) (kind : ResultKind) (x : ℕ) → sound w ≡ true → x < 2 ^ 64 → is_integer kind ≡ true → is_running (core_at w c).state ≡ true
    → let z = (call (Op.Finish kind x) w).world in is_returned (core_at z c).state ≡ true → dyn_int z (recorded (seen_of (coro z c))) ≡ Some x
unfolding call
finish-at w c kind x s l i b r = finish-int kind x w s l i c (finish kind x w) b r (finish-case kind x w)

pub word_in : (o : Op) (kind : ResultKind) (x : ℕ) → o ≡ Op.Finish kind x → typed o ≡ true → x < 2 ^ 64
unfolding typed
word_in o kind x e t = ltb-true x (2 ^ 64) (ap typed (sym e) ∙ t)

pub integer : (c : ℕ) (w : World) (k : Call) (kind : ResultKind) (x : ℕ) → Said.Returns steps c w k → model_op k ≡ some (Op.Finish kind x) → is_integer kind ≡ true → dyn_int (next w k) (recorded (seen_of (coro (next w k) c))) ≡ Some x
integer c w k kind x g e i = go (next w k) (step_case w k) (sym (is-ended (next w k) c) ∙ g.after) e
  where
    ran : is_running (core_at w c).state ≡ true
    ran = sym (is-runs w c) ∙ g.before

    finished : (o : Op) → o ≡ Op.Finish kind x → x < 2 ^ 64 → sound w ≡ true → is_returned (core_at (call o w).world c).state ≡ true → dyn_int (call o w).world (recorded (seen_of (coro (call o w).world c))) ≡ Some x
    finished o q l s a = ap (λ p. dyn_int (call p w).world (recorded (seen_of (coro (call p w).world c)))) q ∙ finish-at w c kind x s l i ran (ap (λ p. is_returned (core_at (call p w).world c).state) (sym q) ∙ a)

    go : {k : Call} (z : World) → StepCase w k z → is_returned (core_at z c).state ≡ true → model_op k ≡ some (Op.Finish kind x) → dyn_int z (recorded (seen_of (coro z c))) ≡ Some x
    go z (anew s e) a q = no_both a (ap (λ x. is_returned (core_in x).state) (fresh-absent s c))
    go z (same k e) a q = no_both a (run-returned (core_at w c).state ran)
    go z (does o e) a q = finished o.op (some-op q) (word_in o.op kind x (some-op q) o.within) e a

-- ---- a word, or none, is recorded as it is returned

word_made : {a b : ℕ} → ◌≡◌ {A = Result ℕ Fault} (Ok a) (Ok b) → a ≡ b
word_made e = cc

plain-made : (kind : ResultKind) (x y : ℕ) (w : World) → is_integer kind ≡ false → (to_dyn kind x w).answer ≡ Ok y → y ≡ result_of kind x 0
unfolding to_dyn
plain-made ResultKind.None x y w p e = sym (word_made e)
plain-made ResultKind.Dyn x y w p e = sym (word_made e)
plain-made ResultKind.I64 x y w p e = no_both refl p
plain-made ResultKind.U64 x y w p e = no_both refl p

finish-word : (kind : ResultKind) (x : ℕ) (w : World) → is_integer kind ≡ false → (c : ℕ) (o : After Answer) → is_running (core_at w c).state ≡ true
    → is_returned (core_at o.world c).state ≡ true → FinishCase kind x w o → recorded (seen_of (coro o.world c)) ≡ result_of kind x 0
finish-word kind x w k c o b r (f-other e n) = no_both r (ap (λ y. is_returned (core_in y).state) (e c) ∙ run-returned (core_at w c).state b)
finish-word kind x w k c o b r (f-returns f fs a chain y p q i m n ends tells ints) = go (ℕ_discrete c a.coro)
  where
    go : Dec (c ≡ a.coro) → recorded (seen_of (coro o.world c)) ≡ result_of kind x 0
    go (yes u) = ap (λ v. recorded (seen_of (coro o.world v))) u ∙ (tells (ap (λ v. is_running (core_at w v).state) (sym u) ∙ b) ∙ plain-made kind x y w k m)
    go (no u) = no_both r (ap (λ y. is_returned y.state) (ends.others c u) ∙ run-returned (core_at w c).state b)

word_at : (w : World) (c : ℕ) (kind : ResultKind) (x : ℕ) → is_integer kind ≡ false → is_running (core_at w c).state ≡ true
    → let z = (call (Op.Finish kind x) w).world in is_returned (core_at z c).state ≡ true → recorded (seen_of (coro z c)) ≡ result_of kind x 0
unfolding call
word_at w c kind x i b r = finish-word kind x w i c (finish kind x w) b r (finish-case kind x w)

pub word : (c : ℕ) (w : World) (k : Call) (kind : ResultKind) (x : ℕ) → Said.Returns steps c w k → model_op k ≡ some (Op.Finish kind x) → is_integer kind ≡ false
    → recorded (seen_of (coro (next w k) c)) ≡ result_of kind x 0
word c w k kind x g e i = go (next w k) (step_case w k) (sym (is-ended (next w k) c) ∙ g.after) e
  where
    ran : is_running (core_at w c).state ≡ true
    ran = sym (is-runs w c) ∙ g.before

    finished : (o : Op) → o ≡ Op.Finish kind x → is_returned (core_at (call o w).world c).state ≡ true → recorded (seen_of (coro (call o w).world c)) ≡ result_of kind x 0
    finished o q a = ap (λ p. recorded (seen_of (coro (call p w).world c))) q ∙ word_at w c kind x i ran (ap (λ p. is_returned (core_at (call p w).world c).state) (sym q) ∙ a)

    go : {k : Call} (z : World) → StepCase w k z → is_returned (core_at z c).state ≡ true → model_op k ≡ some (Op.Finish kind x) → recorded (seen_of (coro z c)) ≡ result_of kind x 0
    go z (anew s e) a q = no_both a (ap (λ x. is_returned (core_in x).state) (fresh-absent s c))
    go z (same k e) a q = no_both a (run-returned (core_at w c).state ran)
    go z (does o e) a q = finished o.op (some-op q) a
