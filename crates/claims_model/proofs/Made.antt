-- What a creation makes. Assumes nothing.
use Prim.Native.Nat.{ℕ, ◌+◌, ◌*◌, ◌%◌, ◌^◌}
use native.Mathlib.Omega.{arith}
use mathlib.Core.Path.{◌≡◌, refl, sym, ap, ◌∙◌}
use mathlib.Core.Logic.{◌⊎◌, inl, inr}
use mathlib.Core.Bool.{Bool, true, false, not, ◌||◌}
use mathlib.Core.List.{List}
use mathlib.Core.Option.{Option, none, some}
use lib.Dec.{eqb}
use Rattle.lists.specs.Pick.{pick}
use Rattle.heap.specs.Word.{nil}
use Rattle.heap.specs.Charge.{sat_add}
use Rattle.heap.specs.Table.{push_object, next_word}
use Rattle.heap.specs.declared.fault.Fault.{Fault}
use Rattle.std.specs.Prelude.{Option as RustOption, Result, Some, None, Ok, Err}
use Rattle.model.specs.Program.{func, is_function}
use Rattle.model.specs.Object.{Object, Coroutine, Absent, Is, as_coro}
use Rattle.model.specs.World.{World, After, after, and_then, with_slots, with_used, with_seq}
use Rattle.model.specs.Frames.{reg, store_pc}
use Rattle.model.specs.Heap.{object, coro, fits, slots_full, refuse, alloc}
use Rattle.model.specs.Rows.{rows_full, free_row}
use Rattle.model.specs.Coro.{new_regs, new_core, new_rest, coro_create}
use Rattle.model.specs.Cleanup.{charge}
use Rattle.model.specs.Machine.{push_frame}
use Rattle.model.specs.Exec.{put_made, window, coro_new, indirect_to, indirect, coro_new_indirect, hooked, call_hook, spawn_made, spawn_with, spawn}
use Rattle.model.specs.Gate.{refused}
use Rattle.model.specs.Sound.{sound}
use Rattle.model.specs.Call.{Call, SetUp, Do}
use Rattle.model.specs.Step as M
use Rattle.model.specs.Step.{call, tested, step}
use Rattle.model.specs.declared.machine.Cont.{Cont}
use Rattle.model.specs.declared.machine.Charge.{Charge}
use Rattle.model.specs.declared.call.Op.{Op}
use Rattle.claims_model.specs.Engine.{Seen}
use Rattle.claims_model.specs.Says.{register_word}
use Rattle.claims_model.specs.Made.{arguments, made, Creates}
use Rattle.claims_model.specs.Steps.{seen_of, rules_of, view_of, model_op, steps}
use Rattle.claims_model.specs.Refuted.{Said}
use Rattle.claims_model.proofs.Held.{Seat, core_in, core_at}
use Rattle.claims_model.proofs.Cores.{object_in, push-cases}
use Rattle.claims_model.proofs.Enters.{charge-none}
use Rattle.claims_model.proofs.Instr.{Alike, coro-alike}
use Rattle.claims_model.proofs.Arms.{PushCase, p-in, p-out, push_case}
use Rattle.claims_model.proofs.Views.{seen_at}
use Rattle.claims_model.proofs.Exact.{some-op}
use Rattle.claims_model.proofs.Undone.{instr-any, reg-alike, word-reg}
use Rattle.claims_model.proofs.Named.{window-alike, named, named-indirect, hook-called}

no_one : {A : Type 0} {s : Option Seen} {x : Seen} → s ≡ none → s ≡ some x → A
no_one p q = let z : ◌≡◌ {A = ℕ} 0 1 = cc in absurd (omega arith)

seen-is : {x y : Seen} → ◌≡◌ {A = Option Seen} (some x) (some y) → y ≡ x
seen-is e = cc

-- ---- the creation

module _ (v : World) (c : ℕ) (e : coro v c ≡ Absent) where
  absent : (core_at v c).seen ≡ none
  absent = ap (λ y. (core_in y).seen) e

  create-made : (f closure : ℕ) (args : List ℕ) (x : Seen) → (core_at (coro_create f closure args v).world c).seen ≡ some x → x ≡ made (rules_of v.setup) f closure args
  unfolding coro_create alloc pick
  create-made f closure args x =
      go (not (fits v (8 * n + v.setup.costs.coro + v.setup.costs.frame))) (slots_full v || rows_full v) (not (fits u (8 * n + v.setup.costs.object + v.setup.costs.frame))) (slots_full u)
    where
      n : ℕ
      n = (func v.setup f).regs

      u : World
      u = with_seq ((v.seq + 1) % 2 ^ 64) v

      o : Object
      o = Object.Coro (new_core f closure (new_regs n args)) (new_rest v.seq (free_row v) n)

      bytes : ℕ
      bytes = 8 * n + v.setup.costs.object + v.setup.costs.frame

      grown : After (Result ℕ Fault)
      grown = after (with_used (sat_add u.used bytes) (with_slots (push_object u.slots o) u)) (Ok (next_word u.slots))

      found : (object_in (push_object v.slots o) c ≡ object_in v.slots c) ⊎ ((object_in v.slots c ≡ Object.Empty) × (object_in (push_object v.slots o) c ≡ o)) → (core_in (as_coro (object_in (push_object v.slots o) c))).seen ≡ some x
          → x ≡ made (rules_of v.setup) f closure args
      found (inl q) h = no_one (ap (λ y. (core_in (as_coro y)).seen) q ∙ absent) h
      found (inr q) h = seen-is (sym (ap (λ y. (core_in (as_coro y)).seen) q.1) ∙ h)

      go : (a b d g : Bool)
          → (core_at (pick a (refuse v Fault.OutOfMemory) (pick b (refuse v Fault.Full) (pick d (refuse u Fault.OutOfMemory) (pick g (refuse u Fault.Full) grown)))).world c).seen ≡ some x
          → x ≡ made (rules_of v.setup) f closure args
      go true b d g h = no_one absent h
      go false true d g h = no_one absent h
      go false false true g h = no_one absent h
      go false false false true h = no_one absent h
      go false false false false h = found (push-cases v.slots o c) h

  indirect-made : (dst callee argc : ℕ) (x : Seen) → (core_at (indirect dst callee argc v).world c).seen ≡ some x → (f : ℕ) × (x ≡ made (rules_of v.setup) f (reg v callee) (window dst argc v))
  unfolding indirect pick
  indirect-made dst callee argc x = go (object v r)
    where
      r : ℕ
      r = reg v callee

      tests : (f : ℕ) (a b : Bool) → (core_at (pick a (refuse v Fault.TypeError) (pick b (refuse v Fault.TypeError) (coro_create f r (window dst argc v) v))).world c).seen ≡ some x → (f : ℕ) × (x ≡ made (rules_of v.setup) f r (window dst argc v))
      tests f true b h = no_one absent h
      tests f false true h = no_one absent h
      tests f false false h = (f, create-made f r (window dst argc v) x h)

      go : (o : Object) → (core_at (indirect_to o r dst argc v).world c).seen ≡ some x → (f : ℕ) × (x ≡ made (rules_of v.setup) f r (window dst argc v))
      go Object.Empty h = no_one absent h
      go (Object.Func f) h = tests f (not (is_function v.setup f)) (not (eqb (func v.setup f).params argc)) h
      go (Object.Int i) h = no_one absent h
      go (Object.Iter s d k) h = no_one absent h
      go (Object.Error i f p y) h = no_one absent h
      go (Object.Coro k y) h = no_one absent h

-- ---- and then a register, or the hook's frame: no coroutine changes

put-core : (dst : ℕ) (u : World) (m : Result ℕ Fault) (c : ℕ) → core_at (put_made dst u m).world c ≡ core_at u c
put-core dst u (Ok x) c = refl
put-core dst u (Err f) c = refl

hook-core : (hook pc dst y : ℕ) (u : World) (c : ℕ) → core_at (and_then (push_frame hook nil (Cont.Value dst) (store_pc pc u)) (hooked u y)).world c ≡ core_at u c
hook-core hook pc dst y u c = go (push_frame hook nil (Cont.Value dst) (store_pc pc u)) (push_case hook nil (Cont.Value dst) (store_pc pc u))
  where
    go : (o : After (Result ℕ Fault)) → PushCase hook nil (Cont.Value dst) (store_pc pc u) o → core_at (hooked u y o.world o.answer).world c ≡ core_at u c
    go o (p-in n) = refl
    go o (p-out f) = refl

spawn-core : (hook pc dst : ℕ) (u : World) (m : Result ℕ Fault) (c : ℕ) → core_at (spawn_made hook pc dst u m).world c ≡ core_at u c
spawn-core hook pc dst u (Err f) c = refl
spawn-core hook pc dst u (Ok y) c = paid (charge None u).world (charge None u).answer ∙ ap core_in ((charge-none u).coros c)
  where
    paid : (t : World) (x : Charge) → core_at (call_hook hook pc dst y t x).world c ≡ core_at t c
    paid t (Charge.Done n) = hook-core hook pc dst y t c
    paid t Charge.Spent = refl
    paid t (Charge.Close n) = hook-core hook pc dst y t c

-- ---- the calls

abbrev NewBy : World → ℕ → ℕ → ℕ → Seen → Type 0
NewBy w dst f argc x = x ≡ made (rules_of w.setup) f 0 (arguments (view_of w) dst argc)

abbrev MadeBy : World → ℕ → ℕ → ℕ → Seen → Type 0
MadeBy w dst r argc x = (f : ℕ) × (x ≡ made (rules_of w.setup) f (register_word (view_of w) r) (arguments (view_of w) dst argc))

module _ (w : World) (c : ℕ) (e : coro w c ≡ Absent) where
  here : {p : ℕ} {v : World} → Alike p w v → coro v c ≡ Absent
  here a = coro-alike a c ∙ e

  new-made : (pc dst f argc : ℕ) (x : Seen) → (core_at (call (Op.CoroNew pc dst f argc) w).world c).seen ≡ some x → NewBy w dst f argc x
  unfolding call coro_new
  new-made pc dst f argc =
      instr-any w c e (λ s. (x : Seen) → s ≡ some x → NewBy w dst f argc x) (λ x q. no_one (absent w c e) q) pc _ (coro_new dst f argc)
      (λ v a x q. let o = coro_create f nil (window dst argc v) v in
      create-made v c (here a) f nil (window dst argc v) x (sym (ap (λ (y : Seat). y.seen) (put-core dst o.world o.answer c)) ∙ q) ∙ (λ i. made (rules_of (a.setup i)) f 0 (window-alike a dst argc i)))

  by_register : {p : ℕ} (v : World) → Alike p w v → (dst r argc : ℕ) (x : Seen) → (core_at (indirect dst r argc v).world c).seen ≡ some x → MadeBy w dst r argc x
  by_register v a dst r argc x q =
      let t = indirect-made v c (here a) dst r argc x q in
      (t.0, t.1 ∙ (λ i. made (rules_of (a.setup i)) t.0 ((reg-alike a r ∙ sym (word-reg w r)) i) (window-alike a dst argc i)))

  indirect-by : (pc dst r argc : ℕ) (x : Seen) → (core_at (call (Op.CoroNewIndirect pc dst r argc) w).world c).seen ≡ some x → MadeBy w dst r argc x
  unfolding call coro_new_indirect
  indirect-by pc dst r argc =
      instr-any w c e (λ s. (x : Seen) → s ≡ some x → MadeBy w dst r argc x) (λ x q. no_one (absent w c e) q) pc _ (coro_new_indirect dst r argc)
      (λ v a x q. let o = indirect dst r argc v in by_register v a dst r argc x (sym (ap (λ (y : Seat). y.seen) (put-core dst o.world o.answer c)) ∙ q))

  spawn-by : (pc dst r argc : ℕ) (x : Seen) → (core_at (call (Op.Spawn pc dst r argc) w).world c).seen ≡ some x → MadeBy w dst r argc x
  unfolding call spawn
  spawn-by pc dst r argc = instr-any w c e (λ s. (x : Seen) → s ≡ some x → MadeBy w dst r argc x) (λ x q. no_one (absent w c e) q) pc _ (spawn pc dst r argc) (λ v a x q. with-hook v a v.setup.hook x q)
    where
      with-hook : {p : ℕ} (v : World) → Alike p w v → (h : RustOption ℕ) (x : Seen) → (core_at (spawn_with h pc dst r argc v).world c).seen ≡ some x → MadeBy w dst r argc x
      with-hook v a None x q = no_one (absent v c (here a)) q
      with-hook v a (Some hook) x q = let o = indirect dst r argc v in by_register v a dst r argc x (sym (ap (λ (y : Seat). y.seen) (spawn-core hook pc dst o.world o.answer c)) ∙ q)

-- by a step
stepped : (c : ℕ) (w : World) (k : Call) (o : Op) (Q : Seen → Type 0) → ((e : coro w c ≡ Absent) (x : Seen) → (core_at (call o w).world c).seen ≡ some x → Q x)
    → (x : Seen) → model_op k ≡ some o → (view_of w).coro c ≡ none → (view_of (step w k).world).coro c ≡ some x → Q x
unfolding step tested pick
stepped c w (SetUp s) o Q f x q n = let z : ◌≡◌ {A = ℕ} 0 1 = cc in absurd (omega arith)
stepped c w (Do j) o Q f x q n = go (sound w)
  where
    gone : (y : Coroutine) → seen_of y ≡ none → y ≡ Absent
    gone Absent h = refl
    gone (Is k r) h = let z : ◌≡◌ {A = ℕ} 0 1 = cc in absurd (omega arith)

    go : (b : Bool) → (view_of (pick b (call j.op w) (M.told (refused w Fault.Unsound))).world).coro c ≡ some x → Q x
    go true h = f (gone (coro w c) n) x (seen_at (call o w).world c ∙ ap (λ p. (view_of (call p w).world).coro c) (sym (some-op q)) ∙ h)
    go false h = no_one n h

-- WHAT IS MADE
named-said : Said Creates (λ e v. v.named) steps
named-said = named

pub creates : Creates steps
creates =
    record {
      new = λ c w k pc dst f argc. stepped c w k (Op.CoroNew pc dst f argc) (NewBy w dst f argc) (λ e. new-made w c e pc dst f argc);
      indirect = λ c w k pc dst r argc. stepped c w k (Op.CoroNewIndirect pc dst r argc) (MadeBy w dst r argc) (λ e. indirect-by w c e pc dst r argc);
      spawned = λ c w k pc dst r argc. stepped c w k (Op.Spawn pc dst r argc) (MadeBy w dst r argc) (λ e. spawn-by w c e pc dst r argc);
      named = named-said;
      named-indirect = named-indirect;
      hooked = hook-called;
    }
