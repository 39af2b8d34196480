-- The sheet's lines for the instructions that make a coroutine.
use Prim.Native.Nat.{ℕ, zero, suc, ◌+◌, ◌-◌}
use mathlib.Core.Path.{◌≡◌, refl, sym, ap, ◌∙◌}
use mathlib.Core.Bool.{Bool, true, false, not, ◌&&◌, ◌||◌, false≢true}
use mathlib.Core.List.{List, [], ◌∷◌}
use native.Mathlib.Omega.{arith}
use lib.ListN.{drop}
use lib.Dec.{eqb, leb}
use Rattle.lists.specs.Pick.{pick, pick_true, pick-false}
use Rattle.heap.specs.Table.{Slot}
use Rattle.heap.specs.declared.fault.Fault.{Fault}
use Rattle.std.specs.Prelude.{Option, Result, Some, None, Ok, Err}
use Rattle.heap.specs.declared.object.CoroState.{CoroState}
use Rattle.model.specs.Lists.{among}
use Rattle.model.specs.State.{is_finished}
use Rattle.model.specs.Object.{Object, as_coro}
use Rattle.model.specs.World.{World, After, after, and_then, with_fuel}
use Rattle.model.specs.Frames.{store_pc}
use Rattle.model.specs.Heap.{object, not_a, refuse, alloc}
use Rattle.model.specs.Rows.{held_by, held_rows, lowest_free, rows_full}
use Rattle.model.specs.Coro as Coros
use Rattle.model.specs.Cleanup.{charge, charge_slow}
use Rattle.model.specs.Fuel.{spend, arm_close}
use Rattle.model.specs.Machine.{push_frame}
use Rattle.model.specs.Exec as Exec
use Rattle.model.specs.declared.machine.Cont.{Cont}
use Rattle.model.specs.declared.machine.Charge.{Charge}
use Rattle.model.specs.declared.exec.Step.{Step}
use Rattle.claims_sheet.specs.Lines.{leads_from, leads}
use Rattle.claims_sheet.specs.Words.{word, arguments, found, kind, is_nothing, dead, function_of, is_in, lacks_memory, no_slot}
use Rattle.claims_sheet.specs.Moves.{pc_stored}
use Rattle.claims_sheet.specs.Charging.{reserve, fuelled, used_up, bank_back}
use Rattle.claims_sheet.specs.Makings as Table
use Rattle.claims_sheet.specs.Makings.{holds, row_held, held_from, lowest, no_row, new_word, numbered, fit_bytes, bytes, made, callee, is_function, function, paid, no_room, called}
use Rattle.claims_sheet.proofs.Among.{and_left}
use Rattle.claims_sheet.proofs.Words.{le-true, true-le, object-found, not_a_lem}
use Rattle.claims_sheet.proofs.Moved.{below, base-is, word-is, stored, then_one}
use Rattle.claims_sheet.proofs.Asking.{next-is}
use Rattle.claims_sheet.proofs.Charging.{unbank-is}

-- ---- rows

finishes : (s : CoroState) → is_finished s ≡ is_in (CoroState.Returned ∷ CoroState.Failed ∷ []) s
finishes CoroState.Created = refl
finishes CoroState.Running = refl
finishes CoroState.Yielded = refl
finishes CoroState.Awaiting = refl
finishes CoroState.Returned = refl
finishes CoroState.Failed = refl

in_row : (n row : ℕ) (rows : List ℕ) (b b' h : Bool) → b ≡ b' → among n rows ≡ h → among n (pick b rows (row ∷ rows)) ≡ (not b' && eqb n row) || h
unfolding pick
in_row n row rows b true h e f = ap (λ t. among n (pick t rows (row ∷ rows))) e ∙ f
in_row n row rows b false h e f = ap (λ t. among n (pick t rows (row ∷ rows))) e ∙ ap (λ t. eqb n row || t) f

held_by_lem : (n : ℕ) (o : Object) (rows : List ℕ) (h : Bool) → among n rows ≡ h → among n (held_by (as_coro o) rows) ≡ holds n o || h
held_by_lem n Object.Empty rows h f = f
held_by_lem n (Object.Func x) rows h f = f
held_by_lem n (Object.Int x) rows h f = f
held_by_lem n (Object.Iter s d k) rows h f = f
held_by_lem n (Object.Error e x p v) rows h f = f
held_by_lem n (Object.Coro k r) rows h f = in_row n r.row rows (is_finished k.state) _ h (finishes k.state) f

held-is : (n : ℕ) (xs : List (Slot Object)) → among n (held_rows xs) ≡ row_held n xs
held-is n [] = refl
held-is n (x ∷ xs) = held_by_lem n x.object (held_rows xs) (row_held n xs) (held-is n xs)

lowest-is : (k n : ℕ) (xs : List (Slot Object)) → lowest_free k n (held_rows xs) ≡ lowest k n xs
lowest-is zero n xs = refl
lowest-is (suc k) n xs = λ i. pick (held-is n xs i) (lowest-is k (suc n) xs i) n

not_within : (m n : ℕ) → n + suc m ≡ n + suc m → leb (n + suc m) n ≡ false
not_within m n h = go (leb (n + suc m) n) refl
  where
    go : (b : Bool) → leb (n + suc m) n ≡ b → b ≡ false
    go true e =
        let l = true-le (n + suc m) n e in
        absurd (omega arith)
    go false e = refl

row_by : (k n : ℕ) (b : Bool) (l : ℕ) (h : Bool) → leb (suc n + k) l ≡ h → leb (n + suc k) (pick b l n) ≡ b && h
unfolding pick
row_by k n true l h e =
    let q : n + suc k ≡ suc n + k = omega arith in
    ap (λ x. leb x l) q ∙ e
row_by k n false l h e = not_within k n refl

full_from : (k n : ℕ) (xs : List (Slot Object)) → leb (n + k) (lowest k n xs) ≡ held_from k n xs
full_from zero n xs = le-true (n + 0) n (omega arith)
full_from (suc k) n xs = row_by k n (row_held n xs) (lowest k (suc n) xs) (held_from k (suc n) xs) (full_from k (suc n) xs)

no-row : (w : World) → rows_full w ≡ no_row w
no-row w =
    let k = w.setup.limits.rows in
    let q : k ≡ 0 + k = omega arith in
    ap (λ l. leb k l) (lowest-is k 0 w.slots) ∙ (ap (λ x. leb x (lowest k 0 w.slots)) q ∙ full_from k 0 w.slots)

-- ---- creation

module _ {B : Type 0} (g : World → Result ℕ Fault → After B) where
  created-by : (a s r b : Bool) (u v m : World) (x : ℕ) →
      and_then (pick a (refuse u Fault.OutOfMemory) (pick (s || r) (refuse u Fault.Full) (pick b (refuse v Fault.OutOfMemory) (pick s (refuse v Fault.Full) (after m (Ok x)))))) g
      ≡ pick a (g u (Err Fault.OutOfMemory)) (pick (s || r) (g u (Err Fault.Full)) (pick b (g v (Err Fault.OutOfMemory)) (g m (Ok x))))
  unfolding pick
  created-by true s r b u v m x = refl
  created-by false true r b u v m x = refl
  created-by false false true b u v m x = refl
  created-by false false false true u v m x = refl
  created-by false false false false u v m x = refl

  -- the tests of a creation, in order
  pub create-is : (f closure : ℕ) (args : List ℕ) (u : World) →
      and_then (Coros.coro_create f closure args u) g
      ≡ pick (lacks_memory u (fit_bytes u f)) (g u (Err Fault.OutOfMemory)) (pick (no_slot u || no_row u) (g u (Err Fault.Full))
      (pick (lacks_memory u (bytes u f)) (g (numbered u) (Err Fault.OutOfMemory)) (g (made f closure args u) (Ok (new_word u)))))
  unfolding Coros.coro_create alloc
  create-is f closure args u =
      ap (λ row. tried (no_slot u || rows_full u) (object row)) (lowest-is u.setup.limits.rows 0 u.slots)
      ∙ (ap (λ b. tried (no_slot u || b) (object (lowest u.setup.limits.rows 0 u.slots))) (no-row u)
      ∙ created-by (lacks_memory u (fit_bytes u f)) (no_slot u) (no_row u) (lacks_memory u (bytes u f)) u (numbered u) (made f closure args u) (new_word u))
    where
      n : ℕ
      n = (function u f).regs

      object : ℕ → Object
      object row = Object.Coro (Table.new_core f closure (Table.filled n args)) (Table.new_rest u.seq row n)

      tried : Bool → Object → After B
      tried full o = and_then (pick (lacks_memory u (fit_bytes u f)) (refuse u Fault.OutOfMemory) (pick full (refuse u Fault.Full) (alloc (bytes u f) o (numbered u)))) g

arguments-is : (dst argc : ℕ) (u : World) → Exec.window dst argc u ≡ arguments u dst argc
arguments-is dst argc u = rw (base-is u.frames)

pub coro-new-is : (dst f argc : ℕ) (u : World) → Exec.coro_new dst f argc u ≡ leads (Table.coro_new dst f argc u)
unfolding Exec.coro_new
coro-new-is dst f argc u =
    ap (λ args. and_then (Coros.coro_create f 0 args u) (Exec.put_made dst)) (arguments-is dst argc u)
    ∙ (create-is (Exec.put_made dst) f 0 (arguments u dst argc) u ∙ below _ _ (below _ _ (below _ _ (next-is dst (new_word u) m m refl))))
  where
    m : World
    m = made f 0 (arguments u dst argc) u

-- ---- of the function that a register holds

module _ {B : Type 0} (g : World → Result ℕ Fault → After B) (v argc : ℕ) (args : List ℕ) (u : World) where
  abbrev found-function : ℕ → After (Result ℕ Fault)
  found-function f =
      pick (not (is_function u f)) (refuse u Fault.TypeError) (pick (not (eqb (function u f).params argc)) (refuse u Fault.TypeError) (Coros.coro_create f v args u))

  called-as : Object → Fault → After (Result ℕ Fault)
  called-as Object.Empty e = refuse u e
  called-as (Object.Func f) e = found-function f
  called-as (Object.Int n) e = refuse u e
  called-as (Object.Iter s d k) e = refuse u e
  called-as (Object.Error c f p x) e = refuse u e
  called-as (Object.Coro k r) e = refuse u e

  abbrev then-create : ℕ → After B
  then-create f =
      pick (not (is_function u f)) (g u (Err Fault.TypeError)) (pick (not (eqb (function u f).params argc)) (g u (Err Fault.TypeError)) (and_then (Coros.coro_create f v args u) g))

  then_found : (a b : Bool) (f : ℕ) →
      and_then (pick a (refuse u Fault.TypeError) (pick b (refuse u Fault.TypeError) (Coros.coro_create f v args u))) g
      ≡ pick a (g u (Err Fault.TypeError)) (pick b (g u (Err Fault.TypeError)) (and_then (Coros.coro_create f v args u) g))
  unfolding pick
  then_found true b f = refl
  then_found false true f = refl
  then_found false false f = refl

  by-function : (o : Object) (b : Bool) → (b ≡ true → is_nothing o ≡ true) →
      and_then (called-as o (pick b Fault.NullReference Fault.TypeError)) g
      ≡ pick b (g u (Err Fault.NullReference)) (pick (not (eqb (kind o) 1)) (g u (Err Fault.TypeError)) (then-create (function_of o)))
  unfolding pick called-as
  by-function Object.Empty true h = refl
  by-function Object.Empty false h = refl
  by-function (Object.Func f) true h = absurd (false≢true (h refl))
  by-function (Object.Func f) false h = then_found (not (is_function u f)) (not (eqb (function u f).params argc)) f
  by-function (Object.Int n) true h = refl
  by-function (Object.Int n) false h = refl
  by-function (Object.Iter s d k) true h = refl
  by-function (Object.Iter s d k) false h = refl
  by-function (Object.Error e f p x) true h = refl
  by-function (Object.Error e f p x) false h = refl
  by-function (Object.Coro k r) true h = refl
  by-function (Object.Coro k r) false h = refl

module _ {B : Type 0} (g : World → Result ℕ Fault → After B) (dst v argc : ℕ) (u : World) where
  indirect-as : (o : Object) → Exec.indirect_to o v dst argc u ≡ called-as g v argc (Exec.window dst argc u) u o (not_a u v)
  unfolding called-as
  indirect-as Object.Empty = refl
  indirect-as (Object.Func f) = refl
  indirect-as (Object.Int n) = refl
  indirect-as (Object.Iter s d k) = refl
  indirect-as (Object.Error e f p x) = refl
  indirect-as (Object.Coro k r) = refl

  abbrev f₀ : ℕ
  f₀ = callee u v

  pub indirect-is : and_then (Exec.indirect_to (object u v) v dst argc u) g
      ≡ pick (dead u v) (g u (Err Fault.NullReference)) (pick (not (eqb (kind (found u v)) 1)) (g u (Err Fault.TypeError))
      (pick (not (is_function u f₀)) (g u (Err Fault.TypeError)) (pick (not (eqb (function u f₀).params argc)) (g u (Err Fault.TypeError))
      (pick (lacks_memory u (fit_bytes u f₀)) (g u (Err Fault.OutOfMemory)) (pick (no_slot u || no_row u) (g u (Err Fault.Full))
      (pick (lacks_memory u (bytes u f₀)) (g (numbered u) (Err Fault.OutOfMemory)) (g (made f₀ v (arguments u dst argc) u) (Ok (new_word u)))))))))
  indirect-is =
      ap (λ (x : After (Result ℕ Fault)). and_then x g) (indirect-as (object u v))
      ∙ (ap (λ o. and_then (called-as g v argc (Exec.window dst argc u) u o (not_a u v)) g) (object-found u v)
      ∙ (ap (λ e. and_then (called-as g v argc (Exec.window dst argc u) u (found u v) e) g) (not_a_lem u v)
      ∙ (by-function g v argc (Exec.window dst argc u) u (found u v) (dead u v) (and_left (is_nothing (found u v)) _)
      ∙ below _ _ (below _ _ (below _ _ (below _ _ (ap (λ args. and_then (Coros.coro_create f₀ v args u) g) (arguments-is dst argc u) ∙ create-is g f₀ v (arguments u dst argc) u)))))))

pub coro-new-indirect-is : (dst c argc : ℕ) (u : World) → Exec.coro_new_indirect dst c argc u ≡ leads (Table.coro_new_indirect dst c argc u)
unfolding Exec.coro_new_indirect Exec.indirect
coro-new-indirect-is dst c argc u =
    ap (λ v. and_then (Exec.indirect_to (object u v) v dst argc u) (Exec.put_made dst)) (word-is u c)
    ∙ (indirect-is (Exec.put_made dst) dst (word u c) argc u
    ∙ below _ _ (below _ _ (below _ _ (below _ _ (below _ _ (below _ _ (below _ _ (next-is dst (new_word u) m m refl))))))))
  where
    m : World
    m = made (callee u (word u c)) (word u c) (arguments u dst argc) u

-- ---- Spawn

paid-by : (a b : Bool) (bk sp x : World) → pick a (pick b (after bk Charge.Spent) (after x (Charge.Done 0))) (after sp (Charge.Done 0)) ≡ pick (a && b) (after bk Charge.Spent) (after (pick (not a) sp x) (Charge.Done 0))
unfolding pick
paid-by true true bk sp x = refl
paid-by true false bk sp x = refl
paid-by false b bk sp x = refl

armed : (rd : Bool) (n : ℕ) (w : World) → with_fuel (pick rd (record { fuel = 0; bank = Some n; ready = rd }) (record { fuel = n; bank = None; ready = rd })) w ≡ pick rd (fuelled 0 (Some n) rd w) (fuelled n None rd w)
unfolding pick
armed true n w = refl
armed false n w = refl

-- a charge without a pc
pub paid-is : (w : World) → charge None w ≡ pick (used_up w) (after (bank_back w) Charge.Spent) (after (paid w) (Charge.Done 0))
unfolding charge charge_slow
paid-is w =
    ap (λ x. pick (eqb w.fuel.fuel 0) (pick (eqb x.fuel.fuel 0) (after x Charge.Spent) (after (arm_close (spend x)) (Charge.Done 0))) (after (spend w) (Charge.Done 0))) (unbank-is w)
    ∙ (ap (λ x. pick (eqb w.fuel.fuel 0) (pick (eqb (reserve w) 0) (after (bank_back w) Charge.Spent) (after x (Charge.Done 0))) (after (spend w) (Charge.Done 0))) (armed w.fuel.ready (reserve w - 1) w)
    ∙ paid-by (eqb w.fuel.fuel 0) (eqb (reserve w) 0) (bank_back w) (spend w) _)

pushes : (hook pc dst c : ℕ) (y : World) → and_then (push_frame hook 0 (Cont.Value dst) (store_pc pc y)) (Exec.hooked y c)
    ≡ pick (no_room hook (pc_stored pc y)) (after y (Step.Fault Fault.StackOverflow)) (after (called hook dst c (pc_stored pc y)) Step.Frame)
unfolding push_frame
pushes hook pc dst c y =
    ap (λ z. and_then (push_frame hook 0 (Cont.Value dst) z) (Exec.hooked y c)) (stored pc y)
    ∙ then_one (Exec.hooked y c) (no_room hook (pc_stored pc y)) _ _

hooks : (hook pc dst c : ℕ) (m : World) →
    and_then (charge None m) (Exec.call_hook hook pc dst c)
    ≡ pick (used_up m) (after (bank_back m) (Step.Fault Fault.OutOfFuel)) (pick (no_room hook (pc_stored pc (paid m))) (after (paid m) (Step.Fault Fault.StackOverflow)) (after (called hook dst c (pc_stored pc (paid m))) Step.Frame))
hooks hook pc dst c m =
    ap (λ (x : After Charge). and_then x (Exec.call_hook hook pc dst c)) (paid-is m)
    ∙ (then_one (Exec.call_hook hook pc dst c) (used_up m) _ _ ∙ below _ _ (pushes hook pc dst c (paid m)))

spawn-some : (hook pc dst c argc : ℕ) (u : World) →
    Exec.spawn_with (Some hook) pc dst c argc u ≡ leads_from (drop 1 (Table.spawn_with (Some hook) pc dst c argc u).tests) (Table.spawn_with (Some hook) pc dst c argc u).done
unfolding Exec.indirect
spawn-some hook pc dst c argc u =
    ap (λ v. and_then (Exec.indirect_to (object u v) v dst argc u) (Exec.spawn_made hook pc dst)) (word-is u c)
    ∙ (indirect-is (Exec.spawn_made hook pc dst) dst (word u c) argc u
    ∙ below _ _ (below _ _ (below _ _ (below _ _ (below _ _ (below _ _ (below _ _ (hooks hook pc dst (new_word u) m))))))))
  where
    m : World
    m = made (callee u (word u c)) (word u c) (arguments u dst argc) u

spawn-by : (hook : Option ℕ) (pc dst c argc : ℕ) (u : World) → Exec.spawn_with hook pc dst c argc u ≡ leads (Table.spawn_with hook pc dst c argc u)
spawn-by None pc dst c argc u = sym (pick_true _ _)
spawn-by (Some hook) pc dst c argc u = spawn-some hook pc dst c argc u ∙ sym (pick-false _ _)

pub spawn-is : (pc dst c argc : ℕ) (u : World) → Exec.spawn pc dst c argc u ≡ leads (Table.spawn pc dst c argc u)
unfolding Exec.spawn
spawn-is pc dst c argc u = spawn-by u.setup.hook pc dst c argc u
