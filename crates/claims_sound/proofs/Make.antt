-- heap.rs: alloc; coro_create; integers as words: what they make is sound.
use mathlib.Core.Path.{◌≡◌, refl, ap, ◌∙◌, subst}
use mathlib.Core.Bool.{Bool, true, false, not, ◌||◌}
use mathlib.Core.List.{List, [], ◌∷◌}
use Prim.Native.Nat.{ℕ, zero, suc, ◌+◌, ◌-◌, ◌*◌, ◌%◌, ◌^◌, ◌≤◌, ◌<◌}
use native.Mathlib.Nat.{not-suc-le-zero, le_of_suc-le-suc}
use native.Mathlib.Omega.{arith}
use lib.ListN.{length, get_or, replicate, length-append, length-replicate}
use lib.Dec.{leb}
use borrow.Author.Tests.{ltb-true, lt-ltb, leb-true, leb-false, le-leb, not-false}
use Rattle.lists.specs.Pick.{pick_true}
use Rattle.heap.specs.Coding.{of_bits}
use Rattle.heap.specs.Charge.{sat_add}
use Rattle.heap.specs.Int.{inline_of, exactly, value_of}
use Rattle.heap.specs.Table.{slot, push_object}
use Rattle.heap.specs.declared.fault.Fault.{Fault}
use Rattle.std.specs.Prelude.{Option, Result, Some, None, Err}
use Rattle.heap.specs.declared.value.Word.{Word}
use Rattle.heap.specs.declared.int.IntTy.{IntTy}
use Rattle.model.specs.Program.{Func, Setup, func, no_func, is_function}
use Rattle.model.specs.Object.{Object, is_filled, Absent, as_coro}
use Rattle.model.specs.World.{World, After, with_seq}
use Rattle.model.specs.Frames.{frame}
use Rattle.model.specs.Heap.{fits, slots_full, refuse, alloc, encode_at, encode_int, encode_exact, to_dyn}
use Rattle.model.specs.Rows.{held_rows, lowest_free, free_row, rows_full}
use Rattle.model.specs.Coro.{new_regs, new_core, new_rest, coro_create}
use Rattle.model.specs.Sound.{runs, widest, row_words}
use Rattle.model.specs.declared.machine.Cont.{Cont}
use Rattle.heap.specs.declared.heap.ResultKind.{ResultKind}
use Rattle.claims_sound.proofs.Tests.{both, or-second, picked}
use Rattle.claims_sound.proofs.Stand.{Fits, Lifts, l-body, last_of, over-of, widths-saved}
use Rattle.claims_sound.proofs.Held.{Rows, rows-push, row-of, lowest-free}
use Rattle.claims_sound.proofs.Slots.{ObjectOk, push-heap, plain_rows}
use Rattle.claims_sound.proofs.Queue.{queue-push}
use Rattle.claims_sound.proofs.Sound.{Sound, Facts, facts}
use Rattle.claims_sound.proofs.Tower.{fits-new}
use Rattle.claims_sound.proofs.Coros.{seq-sound}
use Rattle.claims_sound.proofs.Good.{Good, good, made_fine, Still, still}

-- what was made: the stack and frames stand, and no refusal is 11
pub record Making (w u : World) (m : Result ℕ Fault) : Type 0 where
  pub still : Still w u
  pub fine : made_fine m ≡ true

pub refusing : {ex : Bool} (w : World) (f : Fault) → Sound ex w → made_fine (Err f) ≡ true → Good ex (Making w) (refuse w f)
refusing w f h e = good h (record { still = still w; fine = e })

pub making-from : {ex : Bool} {w u : World} {o : After (Result ℕ Fault)} → Still w u → Good ex (Making u) o → Good ex (Making w) o
making-from k g =
    let z = g.fact.still in
    record {
      sound = g.sound;
      fact = record { still = record { setup = z.setup ∙ k.setup; stack = z.stack ∙ k.stack; frames = z.frames ∙ k.frames }; fine = g.fact.fine };
    }

pub alloc-good : {ex : Bool} (bytes : ℕ) (o : Object) (w : World) → Sound ex w → ObjectOk ex w.setup o → is_filled o ≡ true → runs (as_coro o) ≡ false → Rows w.setup (push_object w.slots o) → Good ex (Making w) (alloc bytes o w)
unfolding alloc
alloc-good {ex} bytes o w h ok f run rows =
    picked (Good ex (Making w)) (not (fits w bytes)) (λ _. refusing w Fault.OutOfMemory h refl)
    (λ room.
    picked (Good ex (Making w)) (slots_full w) (λ _. refusing w Fault.Full h refl)
    (λ free.
    good
    (record {
      setup = h.setup;
      tower = h.tower;
      heap = push-heap h.heap o ok f run (leb-false w.setup.limits.slots (length w.slots) free) rows;
      tasks = queue-push (λ r. r.task) o h.tasks;
      cleanups = queue-push (λ r. r.finalized) o h.cleanups;
      room = leb-true (sat_add w.used bytes) w.setup.limits.memory (not-false (fits w bytes) room);
      banked = h.banked;
      outcome = h.outcome;
    })
    (record { still = record { setup = refl; stack = refl; frames = refl }; fine = refl })))

-- an object that is no coroutine
pub alloc-plain : {ex : Bool} (bytes : ℕ) (o : Object) (w : World) → Sound ex w → ObjectOk ex w.setup o → is_filled o ≡ true → as_coro o ≡ Absent → Good ex (Making w) (alloc bytes o w)
alloc-plain bytes o w h ok f a = alloc-good bytes o w h ok f (ap runs a) (plain_rows w.setup w.slots o a h.heap.rows)

-- ---- integers as words

encode-good : {ex : Bool} (n : ℕ) (w : World) → Sound ex w → (i : Option Word) → Good ex (Making w) (encode_at i n w)
encode-good n w h (Some x) = good h (record { still = still w; fine = refl })
encode-good n w h None = alloc-plain w.setup.costs.int (Object.Int n) w h (record { sizes = refl; saved = refl; rowless = refl; range = refl; wide = λ _. refl }) refl refl

pub int-good : {ex : Bool} (n : ℕ) (w : World) → Sound ex w → Good ex (Making w) (encode_int n w)
int-good n w h = encode-good n w h (inline_of (of_bits 63 n))

exact-good : {ex : Bool} (x : Option ℕ) (w : World) → Sound ex w → Good ex (Making w) (encode_exact x w)
exact-good (Some n) w h = int-good n w h
exact-good None w h = refusing w Fault.ArithOverflow h refl

pub dyn-good : {ex : Bool} (kind : ResultKind) (v : ℕ) (w : World) → Sound ex w → Good ex (Making w) (to_dyn kind v w)
unfolding to_dyn
dyn-good ResultKind.None v w h = good h (record { still = still w; fine = refl })
dyn-good ResultKind.Dyn v w h = good h (record { still = still w; fine = refl })
dyn-good ResultKind.I64 v w h = exact-good (exactly (value_of IntTy.I64 v)) w h
dyn-good ResultKind.U64 v w h = exact-good (exactly (value_of IntTy.U64 v)) w h

-- ---- coro_create

pub length-new_regs : (n : ℕ) (args : List ℕ) → length (new_regs n args) ≡ n
length-new_regs n args =
    picked (λ (x : List ℕ). length x ≡ n) (leb (length args) n)
    (λ e. let l = leb-true (length args) n e in let a = length-append args (replicate (n - length args) 0) in let b = length-replicate {A = ℕ} (n - length args) 0 in omega arith) (λ e. length-replicate n 0)

pub regs-widest : (fs : List Func) (f : ℕ) → f < length fs → (get_or fs f no_func).regs ≤ widest fs
regs-widest [] f l = absurd (not-suc-le-zero l)
regs-widest (x ∷ fs) zero l = omega arith
regs-widest (x ∷ fs) (suc f) l = let h = regs-widest fs f (le_of_suc-le-suc l) in omega arith

new_ok : {ex : Bool} (s : Setup) (f closure seq row : ℕ) (args : List ℕ) → Facts s → is_function s f ≡ true → ObjectOk ex s (Object.Coro (new_core f closure (new_regs (func s f).regs args)) (new_rest seq row (func s f).regs))
new_ok {ex} s f closure seq row args k e =
    let n = (func s f).regs in
    let len = length-new_regs n args in
    let wide : n ≤ row_words s = let h = regs-widest s.functions f (ltb-true f (length s.functions) e) in omega arith in
    let deep = le-leb 1 s.limits.depth k.deep in
    let t : Fits ex s (length (new_regs n args)) (frame f 0 closure Cont.Coro) [] =
    subst (λ m. Fits ex s m (frame f 0 closure Cont.Coro) []) (let z : 0 + n ≡ length (new_regs n args) = omega arith in z) (fits-new s f 0 closure Cont.Coro [] k e refl refl) in
    let l : Lifts ex s (length (new_regs n args)) (frame f 0 closure Cont.Coro ∷ []) = l-body refl refl t in
    record {
      sizes = both (both (both (le-leb (length (new_regs n args)) (row_words s) (omega arith)) deep) (le-leb n (row_words s) wide)) deep;
      saved = pick_true _ _ ∙ both (both (last_of s l) (over-of s l)) refl;
      rowless = refl;
      range = refl;
      wide = λ z. both (widths-saved s l z) refl;
    }

pub create-good : {ex : Bool} (f closure : ℕ) (args : List ℕ) (w : World) → Sound ex w → is_function w.setup f ≡ true → Good ex (Making w) (coro_create f closure args w)
unfolding coro_create
create-good {ex} f closure args w h e =
    let s = w.setup in
    let n = (func s f).regs in
    let u = with_seq ((w.seq + 1) % 2 ^ 64) w in
    let k = new_core f closure (new_regs n args) in
    let r = new_rest w.seq (free_row w) n in
    picked (Good ex (Making w)) (not (fits w (8 * n + s.costs.coro + s.costs.frame))) (λ _. refusing w Fault.OutOfMemory h refl)
    (λ _.
    picked (Good ex (Making w)) (slots_full w || rows_full w) (λ _. refusing w Fault.Full h refl)
    (λ free.
    let low : free_row w < s.limits.rows = leb-false s.limits.rows (free_row w) (or-second (slots_full w) (rows_full w) free) in
    let below : lowest_free s.limits.rows 0 (held_rows w.slots) < 0 + s.limits.rows = omega arith in
    making-from {w = w} {u = u} (record { setup = refl; stack = refl; frames = refl })
    (alloc-good (8 * n + s.costs.object + s.costs.frame) (Object.Coro k r) u (seq-sound ((w.seq + 1) % 2 ^ 64) w h) (new_ok s f closure w.seq (free_row w) args (facts s h.setup) e) refl refl
    (rows-push s w.slots (slot 0 (Object.Coro k r)) (free_row w) (row-of k r refl) (lt-ltb (free_row w) s.limits.rows low) (lowest-free s.limits.rows 0 (held_rows w.slots) below) h.heap.rows))))
