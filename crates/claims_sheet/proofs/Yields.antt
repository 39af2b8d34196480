-- The sheet's lines for Yield, YieldKv and Await: their keys, and the tests before the suspension.
use Prim.Native.Nat.{ℕ, zero, suc, ◌/◌, ◌%◌, ◌^◌}
use mathlib.Core.Path.{◌≡◌, refl, sym, ap, subst, ◌∙◌}
use mathlib.Core.Bool.{Bool, true, false, not, ◌&&◌, true≢false, false≢true}
use mathlib.Core.List.{List, [], ◌∷◌, ◌++◌}
use lib.ListN.{get_or, drop}
use lib.Dec.{eqb}
use Rattle.lists.specs.Pick.{pick, pick_true, pick-false}
use Rattle.heap.specs.Coding.{in_range, bits_of, of_bits}
use Rattle.heap.specs.Word.{int_word, top_of}
use Rattle.heap.specs.Table.{Slot, slot, get, dyn_int_at, dyn_int_by}
use Rattle.heap.specs.declared.fault.Fault.{Fault}
use Rattle.std.specs.Prelude.{Option, Result, Some, None, Ok, Err}
use Rattle.heap.specs.declared.value.Class.{Class}
use Rattle.heap.specs.declared.object.CoroState.{CoroState}
use Rattle.model.specs.Lists.{is_nil}
use Rattle.model.specs.Object.{Object, is_filled}
use Rattle.model.specs.World.{World, After, after, and_then, with_chain}
use Rattle.model.specs.Frames.{reg}
use Rattle.model.specs.Heap.{object_at, object, coro, alloc, encode_at, encode_int, int_in, dyn_int}
use Rattle.model.specs.Exec as Exec
use Rattle.model.specs.declared.machine.Active.{Active}
use Rattle.claims_sheet.specs.Lines.{leads_from, leads}
use Rattle.claims_sheet.specs.Words.{word, is_reference, found, is_coroutine, rest_of, lacks_memory, no_slot}
use Rattle.claims_sheet.specs.Makings.{stored, new_word}
use Rattle.claims_sheet.specs.Suspending.{innermost_active, rest_here}
use Rattle.claims_sheet.specs.Yields as Table
use Rattle.claims_sheet.specs.Yields.{yields, yield_ends, awaits, await_ends, next_key, key_bits, is_large, keyed, key_word, bits_in, integer_of, raised_largest}
use Rattle.claims_sheet.proofs.Choice.{both}
use Rattle.claims_sheet.proofs.Among.{same}
use Rattle.claims_sheet.proofs.Words.{top_one, nil-first, object-found}
use Rattle.claims_sheet.proofs.Moved.{below, word-is, coro-is, coroutine}
use Rattle.claims_sheet.proofs.Suspending.{Sane, yields-is, awaits-is}

-- ---- Await

await-by : (cs : List Active) (pc dst src : ℕ) (u : World) → Sane (with_chain cs u) → Exec.await_on cs pc dst src (with_chain cs u) ≡ leads (Table.await pc dst src (with_chain cs u))
await-by [] pc dst src u sane = sym (pick_true _ _)
await-by (a ∷ chain) pc dst src u sane =
    ap (λ p. Exec.suspend pc CoroState.Awaiting dst p None (with_chain (a ∷ chain) u)) (word-is u src)
    ∙ (awaits-is (a ∷ chain) pc dst (word u src) u refl sane
    ∙ sym (pick-false _ (leads_from (awaits pc dst (word u src) (with_chain (a ∷ chain) u)) (await_ends pc dst (word u src) (with_chain (a ∷ chain) u)))))

pub await-is : (pc dst src : ℕ) (u : World) → Sane u → Exec.await pc dst src u ≡ leads (Table.await pc dst src u)
unfolding Exec.await
await-is pc dst src u sane = await-by u.chain pc dst src u sane

-- ---- the integer that a word is or names

bits_in_lem : (o : Object) → int_in o ≡ bits_in o
bits_in_lem Object.Empty = refl
bits_in_lem (Object.Func f) = refl
bits_in_lem (Object.Int n) = refl
bits_in_lem (Object.Iter s d k) = refl
bits_in_lem (Object.Error e f p v) = refl
bits_in_lem (Object.Coro k r) = refl

at_place : (xs : List (Slot Object)) (p : Option ℕ) → dyn_int_at Object.Empty is_filled int_in xs p ≡ int_in (object_at xs p)
at_place xs None = refl
at_place xs (Some i) = refl

module _ (w : World) (v z : ℕ) where
  integer-by : (n r i : Bool) → (n ≡ true → i ≡ false) → (r ≡ true → i ≡ false) → (n ≡ true → object w v ≡ Object.Empty) → (n ≡ false → r ≡ false → object w v ≡ Object.Empty) →
      dyn_int_by Object.Empty is_filled int_in w.slots (pick n Class.Nil (pick r (Class.Ref (record { 0 = v })) (pick i (Class.Int z) Class.Opaque))) ≡ pick i (Some z) (int_in (object w v))
  unfolding pick
  integer-by true r true h k e f = absurd (true≢false (h refl))
  integer-by true r false h k e f = ap (λ o. int_in o) (sym (e refl))
  integer-by false true true h k e f = absurd (true≢false (k refl))
  integer-by false true false h k e f = at_place w.slots (get Object.Empty is_filled w.slots v)
  integer-by false false true h k e f = refl
  integer-by false false false h k e f = ap (λ o. int_in o) (sym (f refl refl))

no-object : (w : World) (v : ℕ) → is_reference v ≡ false → object w v ≡ Object.Empty
no-object w v h =
    let s = get_or w.slots (v % 2 ^ 32) (slot 0 Object.Empty) in
    object-found w v
    ∙ (ap (λ b. pick (b && eqb s.tag (v / 2 ^ 32 % 2 ^ 16)) s.object Object.Empty) h ∙ pick-false s.object Object.Empty)

integer-is : (w : World) (v : ℕ) → dyn_int w v ≡ integer_of w v
integer-is w v =
    integer-by w v (bits_of 63 (of_bits 47 (v % 2 ^ 48))) (eqb v 0) (eqb (top_of v) 1) (eqb (top_of v) 0xFFFE)
    (λ h. subst (λ x. eqb (top_of x) 0xFFFE ≡ false) (sym (same v 0 h)) refl)
    (λ h. subst (λ x. eqb x 0xFFFE ≡ false) (sym (same (top_of v) 1 h)) refl)
    (λ h. no-object w v (sym (top_one v) ∙ nil-first v h))
    (λ h k. no-object w v (sym (top_one v) ∙ k))
    ∙ ap (λ o. pick (eqb (top_of v) 0xFFFE) (Some (bits_of 63 (of_bits 47 (v % 2 ^ 48)))) o) (ap (λ o. int_in o) (object-found w v) ∙ bits_in_lem (found w v))

-- ---- YieldKv

raised_is : (l : ℕ) (o : Option ℕ) → Exec.larger_of l o ≡ raised_largest l o
raised_is l None = refl
raised_is l (Some n) = refl

largest-is : (w : World) (v : ℕ) → is_coroutine (found w v) ≡ true → Exec.largest_in (coro w v) ≡ (rest_of (found w v)).largest
largest-is w v h = ap (λ x. Exec.largest_in x) (coro-is w v ∙ coroutine (found w v) h)

yield-kv-by : (cs : List Active) (pc dst src key : ℕ) (u : World) → Sane (with_chain cs u) → Exec.yield_kv_on cs pc dst src key (with_chain cs u) ≡ leads (Table.yield_kv pc dst src key (with_chain cs u))
yield-kv-by [] pc dst src key u sane = sym (pick_true _ _)
yield-kv-by (a ∷ chain) pc dst src key u sane =
    let W = with_chain (a ∷ chain) u in
    let l = raised_largest (rest_here W).largest (integer_of W (word u key)) in
    ap (λ p. Exec.suspend pc CoroState.Yielded dst p (Some (reg u key, Exec.larger_of (Exec.largest_in (coro W a.coro)) (dyn_int W (reg u key)))) W) (word-is u src)
    ∙ (ap (λ k. Exec.suspend pc CoroState.Yielded dst (word u src) (Some (k, Exec.larger_of (Exec.largest_in (coro W a.coro)) (dyn_int W k))) W) (word-is u key)
    ∙ (ap (λ m. Exec.suspend pc CoroState.Yielded dst (word u src) (Some (word u key, m)) W)
    (ap (λ x. Exec.larger_of x (dyn_int W (word u key))) (largest-is W a.coro (sane.runs refl)) ∙ (ap (λ o. Exec.larger_of (rest_here W).largest o) (integer-is W (word u key)) ∙ raised_is (rest_here W).largest (integer_of W (word u key))))
    ∙ (yields-is (a ∷ chain) pc dst (word u src) (word u key) l u refl sane
    ∙ sym (pick-false _ (leads_from (yields pc dst (word u src) (word u key) l W) (yield_ends pc dst (word u src) (word u key) l W))))))

pub yield-kv-is : (pc dst src key : ℕ) (u : World) → Sane u → Exec.yield_kv pc dst src key u ≡ leads (Table.yield_kv pc dst src key u)
unfolding Exec.yield_kv
yield-kv-is pc dst src key u sane = yield-kv-by u.chain pc dst src key u sane

-- ---- Yield

-- a new object hides none
grown : (xs : List (Slot Object)) (s : Slot Object) (i : ℕ) → is_coroutine (get_or xs i (slot 0 Object.Empty)).object ≡ true → get_or (xs ++ (s ∷ [])) i (slot 0 Object.Empty) ≡ get_or xs i (slot 0 Object.Empty)
grown [] s i h = absurd (false≢true h)
grown (x ∷ xs) s zero h = refl
grown (x ∷ xs) s (suc i) h = grown xs s i h

still-by : (a t t' : Bool) (o o' : Object) → (is_coroutine o ≡ true → (t ≡ t') × (o ≡ o')) → is_coroutine (pick (a && t) o Object.Empty) ≡ true → is_coroutine (pick (a && t') o' Object.Empty) ≡ true
unfolding pick
still-by true true t' o o' f h = subst (λ b. is_coroutine (pick b o' Object.Empty) ≡ true) (f h).0 (subst (λ x. is_coroutine x ≡ true) (f h).1 h)
still-by true false t' o o' f h = absurd (false≢true h)
still-by false t t' o o' f h = absurd (false≢true h)

still-found : (o : Object) (bytes : ℕ) (w : World) (v : ℕ) → is_coroutine (found w v) ≡ true → is_coroutine (found (stored o bytes w) v) ≡ true
still-found o bytes w v h =
    let i = v % 2 ^ 32 in
    let t = v / 2 ^ 32 % 2 ^ 16 in
    let none = slot 0 Object.Empty in
    still-by (is_reference v) (eqb (get_or w.slots i none).tag t) (eqb (get_or (w.slots ++ (slot 0 o ∷ [])) i none).tag t) (get_or w.slots i none).object (get_or (w.slots ++ (slot 0 o ∷ [])) i none).object
    (λ c. let e = sym (grown w.slots (slot 0 o) i c) in (ap (λ (s : Slot Object). eqb s.tag t) e, ap (λ (s : Slot Object). s.object) e)) h

sane-keyed : (u : World) → Sane u → Sane (keyed u)
sane-keyed u sane =
    both (λ w. Sane w) _ (record { runs = λ h. still-found (Object.Int (key_bits u)) u.setup.costs.int u (innermost_active u.chain).coro (sane.runs h); inside = sane.inside }) sane

keyed-chain : (u : World) → is_nil u.chain ≡ false → is_nil (keyed u).chain ≡ false
keyed-chain u h = both (λ (w : World). is_nil w.chain ≡ false) _ h h

-- conv.rs: encode_int
module _ (n : ℕ) (u : World) where
  abbrev with_object : World
  with_object = stored (Object.Int n) u.setup.costs.int u

  encode-by : (b : Bool) (x : ℕ) → encode_at (pick b (Some (record { 0 = x })) None) n u
      ≡ pick (not b && lacks_memory u u.setup.costs.int) (after u (Err Fault.OutOfMemory)) (pick (not b && no_slot u) (after u (Err Fault.Full))
      (after (pick (not b) with_object u) (Ok (pick (not b) (new_word u) x))))
  unfolding pick alloc
  encode-by true x = refl
  encode-by false x = refl

  pub encode-is : encode_int n u
      ≡ pick (is_large n && lacks_memory u u.setup.costs.int) (after u (Err Fault.OutOfMemory)) (pick (is_large n && no_slot u) (after u (Err Fault.Full))
      (after (pick (is_large n) with_object u) (Ok (pick (is_large n) (new_word u) (int_word (of_bits 63 n))))))
  encode-is = encode-by (in_range 47 (of_bits 63 n)) (int_word (of_bits 63 n))

module _ {B : Type 0} (g : World → Result (ℕ × ℕ) Fault → After B) (n : ℕ) (u : World) where
  key-by : (r a b : Bool) (s : World) (x : ℕ) (e : After (Result ℕ Fault)) → e ≡ pick a (after u (Err Fault.OutOfMemory)) (pick b (after u (Err Fault.Full)) (after s (Ok x))) →
      and_then (pick r (and_then e (Exec.key_at n)) (after u (Err Fault.ArithOverflow))) g
      ≡ pick (not r) (g u (Err Fault.ArithOverflow)) (pick a (g u (Err Fault.OutOfMemory)) (pick b (g u (Err Fault.Full)) (g s (Ok (x, n)))))
  unfolding pick
  key-by false a b s x e h = refl
  key-by true true b s x e h = ap (λ y. and_then (and_then y (Exec.key_at n)) g) h
  key-by true false true s x e h = ap (λ y. and_then (and_then y (Exec.key_at n)) g) h
  key-by true false false s x e h = ap (λ y. and_then (and_then y (Exec.key_at n)) g) h

  exact-by : (r : Bool) → Exec.key_exact (pick r (Some n) None) u ≡ pick r (and_then (encode_int n u) (Exec.key_at n)) (after u (Err Fault.ArithOverflow))
  unfolding pick
  exact-by true = refl
  exact-by false = refl

  auto-is : (r : Bool) → and_then (Exec.key_exact (pick r (Some n) None) u) g
      ≡ pick (not r) (g u (Err Fault.ArithOverflow)) (pick (is_large n && lacks_memory u u.setup.costs.int) (g u (Err Fault.OutOfMemory))
      (pick (is_large n && no_slot u) (g u (Err Fault.Full)) (g (pick (is_large n) (with_object n u) u) (Ok (pick (is_large n) (new_word u) (int_word (of_bits 63 n)), n)))))
  auto-is r =
      ap (λ (y : After (Result (ℕ × ℕ) Fault)). and_then y g) (exact-by r)
      ∙ key-by r (is_large n && lacks_memory u u.setup.costs.int) (is_large n && no_slot u) (pick (is_large n) (with_object n u) u) (pick (is_large n) (new_word u) (int_word (of_bits 63 n))) (encode_int n u) (encode-is n u)

yield-by : (cs : List Active) (pc dst src : ℕ) (u : World) → Sane (with_chain cs u) → Exec.yield_on cs pc dst src (with_chain cs u) ≡ leads (Table.yield pc dst src (with_chain cs u))
unfolding Exec.auto_key
yield-by [] pc dst src u sane = sym (pick_true _ _)
yield-by (a ∷ chain) pc dst src u sane =
    let W = with_chain (a ∷ chain) u in
    ap (λ p. and_then (Exec.auto_key (Exec.largest_in (coro W a.coro)) W) (Exec.yield_key pc dst p)) (word-is u src)
    ∙ (ap (λ l. and_then (Exec.auto_key l W) (Exec.yield_key pc dst (word u src))) (largest-is W a.coro (sane.runs refl))
    ∙ (auto-is (Exec.yield_key pc dst (word u src)) (key_bits W) W (in_range 63 (next_key W))
    ∙ (below _ _ (below _ _ (below _ _ (yields-is (keyed W).chain pc dst (word u src) (key_word W) (key_bits W) (keyed W) (keyed-chain W refl) (sane-keyed W sane))))
    ∙ sym (pick-false _ (leads_from (drop 1 (Table.yield pc dst src W).tests) (Table.yield pc dst src W).done)))))

pub yield-is : (pc dst src : ℕ) (u : World) → Sane u → Exec.yield pc dst src u ≡ leads (Table.yield pc dst src u)
unfolding Exec.yield
yield-is pc dst src u sane = yield-by u.chain pc dst src u sane
