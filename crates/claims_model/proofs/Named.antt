-- A creation that is accepted: the new coroutine is there, under a word that named nobody, and a register has that word. Assumes nothing.
use Prim.Native.Nat.{ℕ, zero, suc, ◌+◌, ◌-◌, ◌*◌, ◌%◌, ◌^◌, ◌<◌}
use native.Mathlib.Omega.{arith}
use mathlib.Core.Path.{◌≡◌, refl, sym, ap, ◌∙◌, subst}
use mathlib.Core.Bool.{Bool, true, false, not, ◌&&◌, ◌||◌}
use mathlib.Core.List.{List, [], ◌∷◌, ◌++◌}
use mathlib.Core.Option.{none, some}
use lib.ListN.{length, take, drop, set, replicate}
use lib.Dec.{eqb, ltb, leb}
use borrow.Author.Tests.{ltb-true, le-ltb}
use Rattle.lists.specs.Pick.{pick, pick-false}
use Rattle.heap.specs.Word.{nil, class_of, slot_of, tag_of, reference}
use Rattle.heap.specs.Fault as Faults
use Rattle.heap.specs.Charge.{sat_add}
use Rattle.heap.specs.Table.{Slot, get_in, push_object, next_word}
use Rattle.heap.specs.declared.fault.Fault.{Fault}
use Rattle.std.specs.Prelude.{Option, Result, Some, None, Ok, Err}
use Rattle.heap.proofs.Words.{class-ref}
use Rattle.model.specs.Lists.{is_nil}
use Rattle.model.specs.Program.{Setup, func, is_function, hook_ok}
use Rattle.model.specs.Object.{Object, is_filled, as_coro}
use Rattle.model.specs.World.{World, After, after, and_then, with_stack, with_frames, with_slots, with_used, with_seq}
use Rattle.model.specs.Frames.{frame, on_top, set_pc, reg, put_at, put_reg, store_pc}
use Rattle.model.specs.Heap.{object_at, place, object, not_a, fits, slots_full, refuse, alloc}
use Rattle.model.specs.Rows.{rows_full, free_row}
use Rattle.model.specs.Coro.{new_regs, new_core, new_rest, coro_create}
use Rattle.model.specs.Cleanup.{charge}
use Rattle.model.specs.Machine.{push_frame}
use Rattle.model.specs.Exec.{put_made, window, coro_new, indirect_to, indirect, coro_new_indirect, hooked, call_hook, spawn_made, spawn_with, spawn}
use Rattle.model.specs.Gate as Gate
use Rattle.model.specs.Gate.{refused, instruction}
use Rattle.model.specs.Sound.{sound}
use Rattle.model.specs.Answer.{step_number, number_of}
use Rattle.model.specs.Call.{Call}
use Rattle.model.specs.Step as M
use Rattle.model.specs.Step.{call, tested, step}
use Rattle.model.specs.declared.machine.Cont.{Cont}
use Rattle.model.specs.declared.machine.Frame.{Frame}
use Rattle.model.specs.declared.machine.Charge.{Charge}
use Rattle.model.specs.declared.exec.Step.{Step}
use Rattle.model.specs.declared.call.Op.{Op}
use Rattle.claims_sound.proofs.Sound.{facts, sound→}
use Rattle.claims_model.specs.Engine.{Seen}
use Rattle.claims_model.specs.Says.{register_word}
use Rattle.claims_model.specs.Held.{into}
use Rattle.claims_model.specs.Made.{arguments, made, Came, Named, Hooked}
use Rattle.claims_model.specs.Steps.{seen_of, rules_of, view_of, model_op}
use Rattle.claims_model.proofs.Held.{core_in, core_at}
use Rattle.claims_model.proofs.Cores.{no_both, and_right, object_in, find}
use Rattle.claims_model.proofs.Quiet.{Same}
use Rattle.claims_model.proofs.Enters.{set-append-at, ChargeCase, c-done, c-spent, c-close, charge-case, charge-none}
use Rattle.claims_model.proofs.Instr.{Alike, alike}
use Rattle.claims_model.proofs.Views.{seen_at, base-top}
use Rattle.claims_model.proofs.Bodies.{at_top}
use Rattle.claims_model.proofs.Numbers.{step-number}
use Rattle.claims_model.proofs.Resumed.{absent-number, zero-not}
use Rattle.claims_model.proofs.Values.{new-object, few}
use Rattle.claims_model.proofs.Undone.{reg-alike, word-reg}
use Rattle.claims_model.proofs.Touches.{put-storing, stepped}

-- ---- an instruction that is answered 0 has done its arm

pub instr-zero : (w : World) (p : ℕ) (ok : Bool) (arm : World → After Step) (P : World → Type 0) → ((v : World) → Alike p w v → step_number (arm v).answer ≡ 0 → P (arm v).world) → number_of (instruction p ok arm w).answer ≡ 0 → P (instruction p ok arm w).world
unfolding instruction pick
instr-zero w p ok arm P owes = gate (is_nil w.frames) ok
  where
    paid : (ch : After Charge) → ChargeCase p w ch → number_of (Gate.charged arm ch.world ch.answer).answer ≡ 0 → P (Gate.charged arm ch.world ch.answer).world
    paid ch (c-done n v r) h = owes v (alike r) (sym (step-number n (arm v).answer) ∙ h)
    paid ch (c-spent v r) h = absurd (omega (arith, h))
    paid ch (c-close n u z x t) h = absurd (omega (arith, h))

    gate : (a b : Bool) → let o = pick a (refused w Fault.NoFrame) (pick (not b) (refused w Fault.BadOperand) (and_then (charge (Some p) w) (Gate.charged arm))) in number_of o.answer ≡ 0 → P o.world
    gate true b h = absurd (omega (arith, h))
    gate false false h = absurd (omega (arith, h))
    gate false true h = paid (charge (Some p) w) (charge-case p w) h

-- and a call that is, has found a sound machine
pub tested-zero : (w : World) (o : Op) (P : World → Type 0) → (sound w ≡ true → number_of (call o w).answer ≡ 0 → P (call o w).world) → number_of (tested w o).answer ≡ 0 → P (tested w o).world
unfolding tested pick
tested-zero w o P f = go (sound w) refl
  where
    go : (b : Bool) → sound w ≡ b → let t = pick b (call o w) (M.told (refused w Fault.Unsound)) in number_of t.answer ≡ 0 → P t.world
    go true e n = f e n
    go false e n = absurd (omega (arith, n))

-- ---- the creation

-- the next word names nothing
next-empty : (xs : List (Slot Object)) → length xs < 2 ^ 32 → object_in xs (next_word xs) ≡ Object.Empty
next-empty xs l =
    ap (λ c. object_at xs (get_in Object.Empty is_filled xs c)) (class-ref (length xs) 0 l (omega arith))
    ∙ ap (λ b. object_at xs (pick (b && (eqb (find xs (slot_of w)).tag (tag_of w) && is_filled (find xs (slot_of w)).object)) (Some (slot_of w)) None))
    (le-ltb (slot_of w) (length xs) (omega (arith, l)))
    ∙ ap (object_at xs) (pick-false (Some (slot_of w)) None)
  where
    w : ℕ
    w = reference (length xs) 0

-- of what a creation leaves: a new coroutine under the next word, and nothing else that is read here; or a refusal
data Birth (v : World) (P : Seen → Type 0) : After (Result ℕ Fault) → Type 0 where
  b-in : (u : World) (x : Seen) → P x → (core_at u (next_word v.slots)).seen ≡ some x → u.setup ≡ v.setup → u.stack ≡ v.stack → u.frames ≡ v.frames
      → Birth v P (after u (Ok (next_word v.slots)))
  b-out : (u : World) (f : Fault) → (Faults.number_of f ≡ 0 → ⊥) → Birth v P (after u (Err f))

module _ (v : World) (l : length v.slots < 2 ^ 32) where
  create-born : (f closure : ℕ) (args : List ℕ) (P : Seen → Type 0) → P (made (rules_of v.setup) f closure args) → Birth v P (coro_create f closure args v)
  unfolding coro_create alloc pick
  create-born f closure args P h = go (not (fits v (8 * n + v.setup.costs.coro + v.setup.costs.frame))) (slots_full v || rows_full v) (not (fits u bytes)) (slots_full u)
    where
      n : ℕ
      n = (func v.setup f).regs

      u : World
      u = with_seq ((v.seq + 1) % 2 ^ 64) v

      new : Object
      new = Object.Coro (new_core f closure (new_regs n args)) (new_rest v.seq (free_row v) n)

      bytes : ℕ
      bytes = 8 * n + v.setup.costs.object + v.setup.costs.frame

      grown : World
      grown = with_used (sat_add u.used bytes) (with_slots (push_object u.slots new) u)

      last : After (Result ℕ Fault)
      last = after grown (Ok (next_word u.slots))

      go : (a b d g : Bool) → Birth v P (pick a (refuse v Fault.OutOfMemory) (pick b (refuse v Fault.Full) (pick d (refuse u Fault.OutOfMemory) (pick g (refuse u Fault.Full) last))))
      go true b d g = b-out v Fault.OutOfMemory (λ e. omega (arith, e))
      go false true d g = b-out v Fault.Full (λ e. omega (arith, e))
      go false false true g = b-out u Fault.OutOfMemory (λ e. omega (arith, e))
      go false false false true = b-out u Fault.Full (λ e. omega (arith, e))
      go false false false false = b-in grown (made (rules_of v.setup) f closure args) h (ap (λ y. (core_in (as_coro y)).seen) (new-object v.slots new l refl)) refl refl refl

  indirect-born : (dst r argc : ℕ) (P : Seen → Type 0) → ((f : ℕ) → P (made (rules_of v.setup) f (reg v r) (window dst argc v))) → Birth v P (indirect dst r argc v)
  unfolding indirect pick
  indirect-born dst r argc P h = go (object v y)
    where
      y : ℕ
      y = reg v r

      tests : (f : ℕ) (a b : Bool) → Birth v P (pick a (refuse v Fault.TypeError) (pick b (refuse v Fault.TypeError) (coro_create f y (window dst argc v) v)))
      tests f true b = b-out v Fault.TypeError (λ e. omega (arith, e))
      tests f false true = b-out v Fault.TypeError (λ e. omega (arith, e))
      tests f false false = create-born f y (window dst argc v) P (h f)

      none-there : Birth v P (refuse v (not_a v y))
      none-there = b-out v (not_a v y) (absent-number 0 zero-not (class_of y) (place v y))

      go : (x : Object) → Birth v P (indirect_to x y dst argc v)
      go Object.Empty = none-there
      go (Object.Func f) = tests f (not (is_function v.setup f)) (not (eqb (func v.setup f).params argc))
      go (Object.Int i) = none-there
      go (Object.Iter s d k) = none-there
      go (Object.Error i f p x) = none-there
      go (Object.Coro k x) = none-there

-- ---- as it is seen

pub window-alike : {p : ℕ} {w v : World} → Alike p w v → (dst argc : ℕ) → window dst argc v ≡ arguments (view_of w) dst argc
window-alike {p} {w} {v} a dst argc = (λ i. take argc (drop (a.base i + dst + 1) (a.stack i))) ∙ ap (λ b. take argc (drop (b + dst + 1) w.stack)) (sym (base-top w.frames))

top-put : (p : ℕ) (fs : List Frame) (r x : ℕ) (xs : List ℕ) → put_at (on_top (set_pc p) fs) r x xs ≡ put_at fs r x xs
top-put p [] r x xs = refl
top-put p (f ∷ fs) r x xs = refl

-- a register of the top frame, where v reads as w
pub put-alike : {p : ℕ} {w v : World} → Alike p w v → (r x : ℕ) → put_at v.frames r x v.stack ≡ into w.frames r x w.stack
put-alike {p} {w} {v} a r x =
    sym (top-put p v.frames r x v.stack) ∙ (λ i. put_at (a.tops i) r x (a.stack i)) ∙ top-put p w.frames r x w.stack ∙ put-storing none w.frames r x w.stack

-- the hook's first register
first-set : (xs : List ℕ) (n x : ℕ) → 0 < n → set (xs ++ replicate n 0) (length xs) x ≡ xs ++ (x ∷ replicate (n - 1) 0)
first-set xs n x h = set-append-at xs (replicate n 0) (length xs) 0 x (omega arith) ∙ ap (λ ys. xs ++ ys) (go n h)
  where
    go : (n : ℕ) → 0 < n → set (replicate n 0) 0 x ≡ x ∷ replicate (n - 1) 0
    go zero h = absurd (omega (arith, h))
    go (suc n) h = let e : n ≡ suc n - 1 = omega arith in ap (λ m. x ∷ replicate {A = ℕ} m 0) e

module _ {p : ℕ} {w v : World} (h : sound w ≡ true) (a : Alike p w v) where
  few-alike : length v.slots < 2 ^ 32
  few-alike = let q : length v.slots ≡ length w.slots = ap length a.slots in omega (arith, few w h, q)

  came : (x : Seen) (z : World) → (core_at z (next_word v.slots)).seen ≡ some x → Came (view_of w) x (view_of z)
  came x z t =
      record {
        unused = ap (λ y. seen_of (as_coro y)) (next-empty w.slots (few w h));
        there = sym (seen_at z (next_word w.slots)) ∙ ap (λ xs. (core_at z (next_word xs)).seen) (sym a.slots) ∙ t;
      }

  -- a register has it
  put-named : (dst : ℕ) (P : Seen → Type 0) (o : After (Result ℕ Fault)) → Birth v P o → step_number (put_made dst o.world o.answer).answer ≡ 0
      → (x : Seen) × P x × Named (view_of w) dst x (view_of (put_made dst o.world o.answer).world)
  put-named dst P o (b-out u f q) n = absurd (q n)
  put-named dst P o (b-in u x q t s xs fs) n = (
    x,
    q,
    record {
      came = came x (put_reg dst (next_word v.slots) u) t;
      names = (λ i. put_at (fs i) dst (next_word v.slots) (xs i)) ∙ put-alike a dst (next_word v.slots) ∙ ap (λ ys. into w.frames dst (next_word ys) w.stack) a.slots;
    },
  )

  -- the hook has it
  spawn-hooked : (hook dst : ℕ) (P : Seen → Type 0) (o : After (Result ℕ Fault)) → 0 < (func w.setup hook).regs → Birth v P o → step_number (spawn_made hook p dst o.world o.answer).answer ≡ 0
      → (x : Seen) × P x × Hooked (view_of w) p dst x (view_of (spawn_made hook p dst o.world o.answer).world)
  unfolding push_frame pick
  spawn-hooked hook dst P o g (b-out u f q) n = absurd (q n)
  spawn-hooked hook dst P o g (b-in u x q t s xs fs) n = paid (charge None u).world (charge None u).answer (charge-none u) n
    where
      c : ℕ
      c = next_word v.slots

      on-top : (z : World) → Same u z → let r = and_then (push_frame hook nil (Cont.Value dst) (store_pc p z)) (hooked z c) in step_number r.answer ≡ 0
          → (x : Seen) × P x × Hooked (view_of w) p dst x (view_of r.world)
      on-top z m = go (leb z.setup.limits.depth (length (store_pc p z).frames) || ltb z.setup.limits.stack (length z.stack + (func z.setup hook).regs))
        where
          y : World
          y = store_pc p z

          setups : z.setup ≡ w.setup
          setups = m.setup ∙ s ∙ a.setup

          stacks : z.stack ≡ w.stack
          stacks = m.stack ∙ xs ∙ a.stack

          left : World
          left = with_frames (frame hook (length z.stack) nil (Cont.Value dst) ∷ y.frames) (with_stack (z.stack ++ replicate (func z.setup hook).regs 0) y)

          go : (b : Bool) → let r = and_then (pick b (refuse y Fault.StackOverflow) (after left (Ok (length z.stack)))) (hooked z c) in step_number r.answer ≡ 0
              → (x : Seen) × P x × Hooked (view_of w) p dst x (view_of r.world)
          go true n = absurd (omega (arith, n))
          go false n = (
            x,
            q,
            record {
              came = came x (with_stack (set left.stack (length z.stack) c) left) (ap (λ k. (core_in k).seen) (m.coros c) ∙ t);
              hook = hook;
              frames = λ i. frame hook (length (stacks i)) nil (Cont.Value dst) ∷ (ap (on_top (set_pc p)) (m.frames ∙ fs) ∙ a.tops ∙ at_top p w.frames) i;
              stack = (λ i. set (stacks i ++ replicate (func (setups i) hook).regs 0) (length (stacks i)) (next_word (a.slots i)))
                  ∙ first-set w.stack (func w.setup hook).regs (next_word w.slots) g;
            },
          )

      paid : (z : World) (k : Charge) → Same u z → step_number (call_hook hook p dst c z k).answer ≡ 0 → (x : Seen) × P x × Hooked (view_of w) p dst x (view_of (call_hook hook p dst c z k).world)
      paid z (Charge.Done i) m n = on-top z m n
      paid z Charge.Spent m n = absurd (omega (arith, n))
      paid z (Charge.Close i) m n = on-top z m n

-- ---- the calls

abbrev NewIs : World → ℕ → ℕ → ℕ → Seen
NewIs w dst f argc = made (rules_of w.setup) f 0 (arguments (view_of w) dst argc)

abbrev OfIs : World → ℕ → ℕ → ℕ → ℕ → Seen
OfIs w dst r argc f = made (rules_of w.setup) f (register_word (view_of w) r) (arguments (view_of w) dst argc)

abbrev NamedBy : ℕ → ℕ → ℕ → World → World → Type 0
NamedBy dst f argc w z = Named (view_of w) dst (NewIs w dst f argc) (view_of z)

abbrev NamedOf : ℕ → ℕ → ℕ → World → World → Type 0
NamedOf dst r argc w z = (f : ℕ) × Named (view_of w) dst (OfIs w dst r argc f) (view_of z)

abbrev HookedOf : ℕ → ℕ → ℕ → ℕ → World → World → Type 0
HookedOf pc dst r argc w z = (f : ℕ) × Hooked (view_of w) pc dst (OfIs w dst r argc f) (view_of z)

module _ (w : World) (h : sound w ≡ true) where
  abbrev Of : ℕ → ℕ → ℕ → Seen → Type 0
  Of dst r argc x = (f : ℕ) × (x ≡ OfIs w dst r argc f)

  of-alike : {p : ℕ} {v : World} → Alike p w v → (dst r argc f : ℕ) → Of dst r argc (made (rules_of v.setup) f (reg v r) (window dst argc v))
  of-alike a dst r argc f = (f, λ i. made (rules_of (a.setup i)) f ((reg-alike a r ∙ sym (word-reg w r)) i) (window-alike a dst argc i))

  new-named : (pc dst f argc : ℕ) → number_of (call (Op.CoroNew pc dst f argc) w).answer ≡ 0 → NamedBy dst f argc w (call (Op.CoroNew pc dst f argc) w).world
  unfolding call coro_new
  new-named pc dst f argc =
      instr-zero w pc _ (coro_new dst f argc) (NamedBy dst f argc w)
      (λ v a n.
      let xs = window dst argc v in
      let P : Seen → Type 0 = λ x. x ≡ NewIs w dst f argc in
      let (x, q, t) = put-named h a dst P (coro_create f nil xs v) (create-born v (few-alike h a) f nil xs P (λ i. made (rules_of (a.setup i)) f 0 (window-alike a dst argc i))) n in
      subst (λ x. Named (view_of w) dst x (view_of (coro_new dst f argc v).world)) q t)

  indirect-named : (pc dst r argc : ℕ) → number_of (call (Op.CoroNewIndirect pc dst r argc) w).answer ≡ 0 → NamedOf dst r argc w (call (Op.CoroNewIndirect pc dst r argc) w).world
  unfolding call coro_new_indirect
  indirect-named pc dst r argc =
      instr-zero w pc _ (coro_new_indirect dst r argc) (NamedOf dst r argc w)
      (λ v a n.
      let (x, q, t) = put-named h a dst (Of dst r argc) (indirect dst r argc v) (indirect-born v (few-alike h a) dst r argc (Of dst r argc) (of-alike a dst r argc)) n in
      (q.0, subst (λ x. Named (view_of w) dst x (view_of (coro_new_indirect dst r argc v).world)) q.1 t))

  spawned : (pc dst r argc : ℕ) → number_of (call (Op.Spawn pc dst r argc) w).answer ≡ 0 → HookedOf pc dst r argc w (call (Op.Spawn pc dst r argc) w).world
  unfolding call spawn
  spawned pc dst r argc = instr-zero w pc _ (spawn pc dst r argc) (HookedOf pc dst r argc w) (λ v a. by v a v.setup.hook (ap (λ (s : Setup). s.hook) (sym a.setup)))
    where
      by : (v : World) → Alike pc w v → (k : Option ℕ) → w.setup.hook ≡ k → step_number (spawn_with k pc dst r argc v).answer ≡ 0 → HookedOf pc dst r argc w (spawn_with k pc dst r argc v).world
      by v a None e n = absurd (omega (arith, n))
      by v a (Some hook) e n =
          let s = w.setup in
          let ok : (is_function s hook && ltb 0 (func s hook).regs) ≡ true = ap (hook_ok s) (sym e) ∙ (facts s (sound→ {ex = false} w h (λ z. no_both z refl)).setup).hook in
          let (x, q, t) = spawn-hooked h a hook dst (Of dst r argc) (indirect dst r argc v) (ltb-true 0 (func s hook).regs (and_right (is_function s hook) (ltb 0 (func s hook).regs) ok))
          (indirect-born v (few-alike h a) dst r argc (Of dst r argc) (of-alike a dst r argc)) n in
          (q.0, subst (λ x. Hooked (view_of w) pc dst x (view_of (spawn_with (Some hook) pc dst r argc v).world)) q.1 t)

pub named : (w : World) (k : Call) (pc dst f argc : ℕ) → model_op k ≡ some (Op.CoroNew pc dst f argc) → number_of (step w k).answer ≡ 0 → NamedBy dst f argc w (step w k).world
named w k pc dst f argc = let o = Op.CoroNew pc dst f argc in stepped (NamedBy dst f argc) o (λ w. tested-zero w o (NamedBy dst f argc w) (λ h. new-named w h pc dst f argc)) w k

pub named-indirect : (w : World) (k : Call) (pc dst r argc : ℕ) → model_op k ≡ some (Op.CoroNewIndirect pc dst r argc) → number_of (step w k).answer ≡ 0 → NamedOf dst r argc w (step w k).world
named-indirect w k pc dst r argc = let o = Op.CoroNewIndirect pc dst r argc in stepped (NamedOf dst r argc) o (λ w. tested-zero w o (NamedOf dst r argc w) (λ h. indirect-named w h pc dst r argc)) w k

pub hook-called : (w : World) (k : Call) (pc dst r argc : ℕ) → model_op k ≡ some (Op.Spawn pc dst r argc) → number_of (step w k).answer ≡ 0 → HookedOf pc dst r argc w (step w k).world
hook-called w k pc dst r argc = let o = Op.Spawn pc dst r argc in stepped (HookedOf pc dst r argc) o (λ w. tested-zero w o (HookedOf pc dst r argc w) (λ h. spawned w h pc dst r argc)) w k
