-- Moves that touch no stack, no frame and no chain: objects made, rests changed, coroutines ended that never ran.
use Prim.Native.Nat.{ℕ, ◌+◌, ◌*◌, ◌%◌, ◌^◌}
use native.Mathlib.Decide.{ℕ_discrete}
use mathlib.Core.Path.{◌≡◌, refl, sym, ap, ◌∙◌, subst}
use mathlib.Core.Logic.{◌⊎◌, inl, inr}
use mathlib.Core.Bool.{Bool, true, false, not, ◌||◌}
use mathlib.Core.List.{List, []}
use mathlib.Core.Option.{Option, none, some}
use lib.Dec.{eqb}
use Rattle.lists.specs.Pick.{pick, pick-false}
use Rattle.heap.specs.Word.{nil}
use Rattle.heap.specs.Charge.{sat_add}
use Rattle.heap.specs.Coding.{of_bits}
use Rattle.heap.specs.Int.{inline_of, exactly, value_of, next_key}
use Rattle.heap.specs.Table.{push_object, next_word}
use Rattle.heap.specs.declared.fault.Fault.{Fault}
use Rattle.std.specs.Prelude.{Option as RustOption, Result, Some, None, Ok, Err}
use Rattle.heap.specs.declared.value.Word.{Word}
use Rattle.heap.specs.declared.int.IntTy.{IntTy}
use Rattle.heap.specs.declared.object.CoroState.{CoroState}
use Rattle.model.specs.State.{is_created}
use Rattle.model.specs.Object.{Core, Rest, Object, Coroutine, Absent, Is, as_coro}
use Rattle.model.specs.World.{World, After, after, with_slots, with_used, with_seq}
use Rattle.model.specs.Program.{func, is_function}
use Rattle.model.specs.Frames.{reg}
use Rattle.model.specs.Heap.{object, coro, change_as, change_coro, change_iter_in, set_done, set_key, fits, slots_full, refuse, alloc, encode_at, encode_int, encode_exact, to_dyn}
use Rattle.model.specs.Rows.{rows_full, free_row}
use Rattle.model.specs.Coro.{new_regs, new_core, new_rest, coro_create, in_state, ended, finish_coroutine}
use Rattle.model.specs.Exec.{key_exact, key_at, auto_key, indirect_to, indirect, window}
use Rattle.heap.specs.declared.heap.ResultKind.{ResultKind}
use Rattle.claims_model.specs.Delivery.{recorded}
use Rattle.claims_model.specs.Touches.{May}
use Rattle.claims_model.specs.Steps.{seen_of}
use Rattle.claims_model.proofs.Held.{Seat, core_in, core_at}
use Rattle.claims_model.proofs.Cores.{no_both, busy, Mode, m-undoing, Kept, kept, unborn, object_in, push-cases, set-mine, set_other, set-iter}
use Rattle.claims_model.proofs.Shape.{View, view, over, Ends, Worked, quiet}

new-idle : (s : CoroState) → is_created s ≡ true → busy s ≡ false
new-idle CoroState.Created e = refl
new-idle CoroState.Running e = no_both e refl
new-idle CoroState.Yielded e = no_both e refl
new-idle CoroState.Awaiting e = no_both e refl
new-idle CoroState.Returned e = refl
new-idle CoroState.Failed e = refl

-- v is w with objects added, of coroutines new ones only
pub record Grown (w v : World) : Type 0 where
  pub setup : v.setup ≡ w.setup
  pub stack : v.stack ≡ w.stack
  pub frames : v.frames ≡ w.frames
  pub chain : v.chain ≡ w.chain
  pub finds : (c : ℕ) → (coro v c ≡ coro w c) ⊎ ((coro w c ≡ Absent) × (is_created (core_at v c).state ≡ true) × ((core_at v c).closing ≡ none))

pub grown-none : {w : World} → Grown w w
grown-none = record { setup = refl; stack = refl; frames = refl; chain = refl; finds = λ c. inl refl }

pub grown-kept : {b : Mode} {w v : World} → Grown w v → (c : ℕ) → Kept b c (core_at w c) (core_at v c)
grown-kept {b} {w} {v} g c = go (g.finds c)
  where
    go : (coro v c ≡ coro w c) ⊎ ((coro w c ≡ Absent) × (is_created (core_at v c).state ≡ true) × ((core_at v c).closing ≡ none)) → Kept b c (core_at w c) (core_at v c)
    go (inl e) = kept (ap core_in e)
    go (inr e) = unborn (ap (λ x. is_created (core_in x).state) e.0) (new-idle (core_at v c).state e.1) (λ _. e.2 ∙ sym (ap (λ x. (core_in x).closing) e.0)) (inl (ap (λ x. (core_in x).seen) e.0, e.1))

pub grown-worked : {m : Option May} {b : Mode} {w v : World} → Grown w v → {z : View} → Worked m b (view v) z → Worked m b (view w) z
grown-worked {m} {b} {w} {v} g {z} t = quiet (core_at v) (grown-kept g) (subst (λ x. Worked m b x z) (λ i. record { setup = g.setup i; stack = g.stack i; frames = g.frames i; chain = g.chain i; cores = core_at v }) t)

-- ---- alloc and what calls it

pub alloc-grown : (bytes : ℕ) (o : Object) (w : World) → is_created (core_in (as_coro o)).state ≡ true → (core_in (as_coro o)).closing ≡ none → Grown w (alloc bytes o w).world
unfolding alloc pick
alloc-grown bytes o w b m = go (not (fits w bytes)) (slots_full w)
  where
    found : (c : ℕ) → (object_in (push_object w.slots o) c ≡ object_in w.slots c) ⊎ ((object_in w.slots c ≡ Object.Empty) × (object_in (push_object w.slots o) c ≡ o))
        → (as_coro (object_in (push_object w.slots o) c) ≡ coro w c) ⊎ ((coro w c ≡ Absent) × (is_created (core_in (as_coro (object_in (push_object w.slots o) c))).state ≡ true) × ((core_in (as_coro (object_in (push_object w.slots o) c))).closing ≡ none))
    found c (inl e) = inl (ap as_coro e)
    found c (inr e) = inr (ap as_coro e.0, ap (λ x. is_created (core_in (as_coro x)).state) e.1 ∙ b, ap (λ x. (core_in (as_coro x)).closing) e.1 ∙ m)

    go : (x y : Bool) → Grown w (pick x (refuse w Fault.OutOfMemory) (pick y (refuse w Fault.Full) (after (with_used (sat_add w.used bytes) (with_slots (push_object w.slots o) w)) (Ok (next_word w.slots))))).world
    go true y = grown-none
    go false true = grown-none
    go false false = record { setup = refl; stack = refl; frames = refl; chain = refl; finds = λ c. found c (push-cases w.slots o c) }

pub create-grown : (f closure : ℕ) (args : List ℕ) (w : World) → Grown w (coro_create f closure args w).world
unfolding coro_create pick
create-grown f closure args w = go (not (fits w (8 * n + w.setup.costs.coro + w.setup.costs.frame))) (slots_full w || rows_full w)
  where
    n : ℕ
    n = (func w.setup f).regs

    made : After (Result ℕ Fault)
    made = alloc (8 * n + w.setup.costs.object + w.setup.costs.frame) (Object.Coro (new_core f closure (new_regs n args)) (new_rest w.seq (free_row w) n)) (with_seq ((w.seq + 1) % 2 ^ 64) w)

    inner : Grown w made.world
    inner =
        let g = alloc-grown (8 * n + w.setup.costs.object + w.setup.costs.frame) (Object.Coro (new_core f closure (new_regs n args)) (new_rest w.seq (free_row w) n)) (with_seq ((w.seq + 1) % 2 ^ 64) w) refl (pick-false (some nil) none) in
        record { setup = g.setup; stack = g.stack; frames = g.frames; chain = g.chain; finds = g.finds }

    go : (x y : Bool) → Grown w (pick x (refuse w Fault.OutOfMemory) (pick y (refuse w Fault.Full) made)).world
    go true y = grown-none
    go false true = grown-none
    go false false = inner

-- v is w with objects added that are no coroutines
pub record Same (w v : World) : Type 0 where
  pub setup : v.setup ≡ w.setup
  pub stack : v.stack ≡ w.stack
  pub frames : v.frames ≡ w.frames
  pub chain : v.chain ≡ w.chain
  pub coros : (c : ℕ) → coro v c ≡ coro w c

pub same_none : {w : World} → Same w w
same_none = record { setup = refl; stack = refl; frames = refl; chain = refl; coros = λ c. refl }

pub same-worked : {m : Option May} {b : Mode} {w v : World} → Same w v → {z : View} → Worked m b (view v) z → Worked m b (view w) z
same-worked {m} {b} {w} {v} g {z} t = subst (λ x. Worked m b x z) (λ i. record { setup = g.setup i; stack = g.stack i; frames = g.frames i; chain = g.chain i; cores = λ c. core_in (g.coros c i) }) t

pub alloc_same : (bytes : ℕ) (o : Object) (w : World) → as_coro o ≡ Absent → Same w (alloc bytes o w).world
unfolding alloc pick
alloc_same bytes o w b = go (not (fits w bytes)) (slots_full w)
  where
    found : (c : ℕ) → (object_in (push_object w.slots o) c ≡ object_in w.slots c) ⊎ ((object_in w.slots c ≡ Object.Empty) × (object_in (push_object w.slots o) c ≡ o)) → as_coro (object_in (push_object w.slots o) c) ≡ coro w c
    found c (inl e) = ap as_coro e
    found c (inr e) = ap as_coro e.1 ∙ b ∙ sym (ap as_coro e.0)

    go : (x y : Bool) → Same w (pick x (refuse w Fault.OutOfMemory) (pick y (refuse w Fault.Full) (after (with_used (sat_add w.used bytes) (with_slots (push_object w.slots o) w)) (Ok (next_word w.slots))))).world
    go true y = same_none
    go false true = same_none
    go false false = record { setup = refl; stack = refl; frames = refl; chain = refl; coros = λ c. found c (push-cases w.slots o c) }

pub encode_same : (n : ℕ) (w : World) → Same w (encode_int n w).world
encode_same n w = go (inline_of (of_bits 63 n))
  where
    go : (x : RustOption Word) → Same w (encode_at x n w).world
    go (Some x) = same_none
    go None = alloc_same w.setup.costs.int (Object.Int n) w refl

exact_same : (x : RustOption ℕ) (w : World) → Same w (encode_exact x w).world
exact_same (Some n) w = encode_same n w
exact_same None w = same_none

pub dyn-same : (kind : ResultKind) (v : ℕ) (w : World) → Same w (to_dyn kind v w).world
unfolding to_dyn
dyn-same ResultKind.None v w = same_none
dyn-same ResultKind.Dyn v w = same_none
dyn-same ResultKind.I64 v w = exact_same (exactly (value_of IntTy.I64 v)) w
dyn-same ResultKind.U64 v w = exact_same (exactly (value_of IntTy.U64 v)) w

pub key-same : (largest : ℕ) (w : World) → Same w (auto_key largest w).world
unfolding auto_key
key-same largest w = go (next_key largest)
  where
    made : (n : ℕ) (o : After (Result ℕ Fault)) → Same w o.world → Same w (key_at n o.world o.answer).world
    made n o g = cases o.answer
      where
        cases : (m : Result ℕ Fault) → Same w (key_at n o.world m).world
        cases (Ok k) = g
        cases (Err f) = g

    go : (x : RustOption ℕ) → Same w (key_exact x w).world
    go (Some n) = made n (encode_int n w) (encode_same n w)
    go None = same_none

pub indirect-grown : (dst callee argc : ℕ) (w : World) → Grown w (indirect dst callee argc w).world
unfolding indirect pick
indirect-grown dst callee argc w = go (object w v)
  where
    v : ℕ
    v = reg w callee

    tests : (f : ℕ) (a b : Bool) → Grown w (pick a (refuse w Fault.TypeError) (pick b (refuse w Fault.TypeError) (coro_create f v (window dst argc w) w))).world
    tests f true b = grown-none
    tests f false true = grown-none
    tests f false false = create-grown f v (window dst argc w) w

    go : (o : Object) → Grown w (indirect_to o v dst argc w).world
    go Object.Empty = grown-none
    go (Object.Func f) = tests f (not (is_function w.setup f)) (not (eqb (func w.setup f).params argc))
    go (Object.Int n) = grown-none
    go (Object.Iter s d k) = grown-none
    go (Object.Error e f p x) = grown-none
    go (Object.Coro k r) = grown-none

-- ---- an iterator's mark or key: no core changes

pub record Calm (w v : World) : Type 0 where
  pub setup : v.setup ≡ w.setup
  pub stack : v.stack ≡ w.stack
  pub frames : v.frames ≡ w.frames
  pub chain : v.chain ≡ w.chain
  pub cores : (c : ℕ) → core_at v c ≡ core_at w c

pub calm-worked : {m : Option May} {b : Mode} {w v : World} → Calm w v → {z : View} → Worked m b (view v) z → Worked m b (view w) z
calm-worked {m} {b} {w} {v} g {z} t = subst (λ x. Worked m b x z) (λ i. record { setup = g.setup i; stack = g.stack i; frames = g.frames i; chain = g.chain i; cores = λ c. g.cores c i }) t

iter-calm : (v : ℕ) (f : Bool → Bool) (g : RustOption ℕ → RustOption ℕ) (w : World) → Calm w (change_iter_in (object w v) v f g w)
iter-calm v f g w = go (object w v) refl
  where
    none : Calm w w
    none = record { setup = refl; stack = refl; frames = refl; chain = refl; cores = λ c. refl }

    go : (o : Object) → object w v ≡ o → Calm w (change_iter_in o v f g w)
    go Object.Empty e = none
    go (Object.Func n) e = none
    go (Object.Int n) e = none
    go (Object.Iter s d k) e = record { setup = refl; stack = refl; frames = refl; chain = refl; cores = set-iter w.slots v s d (f d) k (g k) e }
    go (Object.Error n x p y) e = none
    go (Object.Coro k r) e = none

pub done-calm : (v : ℕ) (w : World) → Calm w (set_done v w)
done-calm v w = iter-calm v (λ _. true) (λ k. k) w

pub key-calm : (v key : ℕ) (w : World) → Calm w (set_key v key w)
key-calm v key w = iter-calm v (λ d. d) (λ _. Some key) w

-- ---- the end of a coroutine

pub finish-ends : (v : ℕ) (s : CoroState) (result : ℕ) (w : World) → Ends s v (core_at w) (core_at (finish_coroutine v s result w))
finish-ends v s result w = go (coro w v) refl
  where
    go : (x : Coroutine) → coro w v ≡ x → Ends s v (core_at w) (core_at (change_as x v (in_state s) (ended result) w))
    go Absent e = record { mine = inr (ap (λ x. is_created (core_in x).state) e, refl); others = λ u n. refl }
    go (Is k r) e = record { mine = inl (all ∙ ap (λ x. over s x (core_at w v)) (sym (ap (λ (y : Seat). y.seen) all))); others = set_other w.slots v e (in_state s k) (ended result r) }
      where
        all : core_at (change_as (Is k r) v (in_state s) (ended result) w) v ≡ over s (seen_of (Is (in_state s k) (ended result r))) (core_at w v)
        all =
            ap core_in (set-mine w.slots v e (in_state s k) (ended result r))
            ∙ (λ i. record { state = s; regs = []; frames = []; waiting = k.waiting; closing = pick-false {A = Option ℕ} (some nil) none i; seen = seen_of (Is (in_state s k) (ended result r)) })
            ∙ ap (over s (seen_of (Is (in_state s k) (ended result r)))) (sym (ap core_in e))

-- .. and its result is told
pub finish-told : (v : ℕ) (s : CoroState) (result : ℕ) (w : World) → is_created s ≡ false → is_created (core_at (finish_coroutine v s result w) v).state ≡ false → recorded (core_at (finish_coroutine v s result w) v).seen ≡ result
finish-told v s result w n = go (coro w v) refl
  where
    go : (x : Coroutine) → coro w v ≡ x → is_created (core_at (change_as x v (in_state s) (ended result) w) v).state ≡ false → recorded (core_at (change_as x v (in_state s) (ended result) w) v).seen ≡ result
    go Absent e h = no_both (ap (λ x. is_created (core_in x).state) e) h
    go (Is k r) e h = ap (λ x. recorded (core_in x).seen) (set-mine w.slots v e (in_state s k) (ended result r))

-- one that has not begun ends without a run
pub unborn-ends : (v : ℕ) (s : CoroState) (k l : ℕ → Seat) → busy s ≡ false → is_created s ≡ false → is_created (k v).state ≡ true → Ends s v k l → (c : ℕ) → Kept (m-undoing v) c (k c) (l c)
unborn-ends v s k l b n h e c = go (ℕ_discrete c v)
  where
    mine : (l v ≡ over s (l v).seen (k v)) ⊎ ((is_created (k v).state ≡ true) × (l v ≡ k v)) → Kept (m-undoing v) v (k v) (l v)
    mine (inl x) = unborn h (ap (λ y. busy y.state) x ∙ b) (λ q. no_both q (ap (λ y. is_created y.state) x ∙ n)) (inr refl)
    mine (inr x) = kept x.1

    go : Dec (c ≡ v) → Kept (m-undoing v) c (k c) (l c)
    go (yes q) = subst (λ x. Kept (m-undoing v) x (k x) (l x)) (sym q) (mine e.mine)
    go (no q) = kept (e.others c q)

-- ---- a coroutine changed

pub record Still (w v : World) : Type 0 where
  pub setup : v.setup ≡ w.setup
  pub stack : v.stack ≡ w.stack
  pub frames : v.frames ≡ w.frames
  pub chain : v.chain ≡ w.chain

pub change-still : (w : World) (c : ℕ) (f : Core → Core) (g : Rest → Rest) → Still w (change_coro c f g w)
change-still w c f g = go (coro w c)
  where
    go : (x : Coroutine) → Still w (change_as x c f g w)
    go Absent = record { setup = refl; stack = refl; frames = refl; chain = refl }
    go (Is k r) = record { setup = refl; stack = refl; frames = refl; chain = refl }
