-- A suspension for which there is room is accepted, and so is a result.
use Prim.Native.Nat.{ℕ, suc, ◌+◌, ◌-◌, ◌*◌, ◌^◌, ◌≤◌, min}
use mathlib.Core.Path.{◌≡◌, refl, sym, ap, ◌∙◌}
use mathlib.Core.Bool.{Bool, true, false, not, ◌||◌}
use mathlib.Core.List.{List, [], ◌∷◌, ◌++◌}
use mathlib.Core.Option.{Option, none, some}
use native.Mathlib.Omega.{arith}
use lib.ListN.{length, drop, length-append, length-map}
use lib.Dec.{eqb, leb}
use borrow.Author.Tests.{leb-true, le-leb, lt-leb}
use Rattle.lists.specs.Pick.{pick, pick-false}
use Rattle.heap.specs.Charge.{sat_add}
use Rattle.heap.specs.Coding.{of_bits}
use Rattle.heap.specs.Int.{inline_of, next_key}
use Rattle.heap.specs.Table.{push_object, next_word}
use Rattle.heap.specs.declared.fault.Fault.{Fault}
use Rattle.std.specs.Prelude.{Option as RustOption, Result, Some, None, Ok, Err}
use Rattle.model.specs.declared.coro.Event.{Event}
use Rattle.heap.specs.declared.value.Word.{Word}
use Rattle.heap.specs.declared.object.CoroState.{CoroState}
use Rattle.model.specs.Lists.{is_nil}
use Rattle.model.specs.Object.{Core, Rest, Object, Coroutine, Absent, Is}
use Rattle.model.specs.World.{World, After, after, and_then, with_used, with_slots}
use Rattle.model.specs.Frames.{lower, above, base_at, on_top, set_pc, reg, store_pc}
use Rattle.model.specs.Heap.{coro, dyn_int, fits, slots_full, refuse, alloc, encode_at}
use Rattle.model.specs.Coro as Coro
use Rattle.model.specs.Coro.{saved, growth, suspend_coroutine, suspend_innermost, coro_suspend}
use Rattle.model.specs.Cleanup.{charge}
use Rattle.model.specs.Exec.{largest_in, larger_of, key_at, key_exact, auto_key, yield_key, yield_on, yield}
use Rattle.model.specs.Gate as Gate
use Rattle.model.specs.Gate.{refused, all_in, answer_of, instruction}
use Rattle.model.specs.Sound.{sound}
use Rattle.model.specs.Answer.{number_of}
use Rattle.model.specs.Call.{Call, SetUp, Do}
use Rattle.model.specs.Step.{call, step}
use Rattle.model.specs.declared.machine.Active.{Active}
use Rattle.model.specs.declared.machine.Charge.{Charge}
use Rattle.model.specs.declared.machine.Driver.{Driver}
use Rattle.model.specs.declared.machine.Frame.{Frame}
use Rattle.model.specs.declared.exec.Step.{Step}
use Rattle.model.specs.declared.call.Op.{Op}
use Rattle.model.specs.declared.call.Answer.{Answer}
use Rattle.claims_model.specs.Engine.{Seen}
use Rattle.claims_model.specs.Says.{nothing, lie, Entry, entry, charged}
use Rattle.claims_model.specs.Held.{at}
use Rattle.claims_model.specs.Events.{goes_on}
use Rattle.claims_model.specs.Promise.{is_suspension, Roomy}
use Rattle.claims_model.specs.Steps.{seen_of, view_of, model_op, steps}
use Rattle.claims_model.proofs.Entry as E
use Rattle.claims_model.proofs.Tries.{taken, tries, keyed, in_body}
use Rattle.claims_model.proofs.Suspension.{suspends_in, paid_by}
use Rattle.claims_model.proofs.Cores.{no_both}
use Rattle.claims_model.proofs.Quiet.{Same, same_none, alloc_same}
use Rattle.claims_model.proofs.Enters.{length-top, ChargeCase, c-done, c-spent, c-close, charge-case}
use Rattle.claims_model.proofs.Instr.{Alike, alike, coro-alike}
use Rattle.claims_model.proofs.Views.{base-top}
use Rattle.claims_model.proofs.Whom.{told, charged-by}
use Rattle.claims_model.proofs.Paid.{Paid, paid_for, paid-number}
use Rattle.claims_model.proofs.Bodies.{Cut, cut-above, cut-base}
use Rattle.claims_model.proofs.Exact.{healthy-sound, number-sound, some-op}
use Rattle.claims_model.proofs.Numbers.{step-number, call-number}

stands : (over : List Frame) (body : Frame) (under : List Frame) → is_nil (over ++ (body ∷ under)) ≡ false
stands [] body under = refl
stands (f ∷ over) body under = refl

at_length : (p : ℕ) (fs : List Frame) → length (at p fs) ≡ length fs
at_length p [] = refl
at_length p (f ∷ fs) = refl

-- what is seen of the most that was saved
most_words : Option Seen → ℕ
most_words none = 0
most_words (some x) = x.most_words

most_frames : Option Seen → ℕ
most_frames none = 0
most_frames (some x) = x.most_frames

-- what it would save beyond the most
abbrev grown : (w : World) (n c : ℕ) → Roomy steps n c w → ℕ
grown w n c m = (length (drop m.held.body.base w.stack) - m.seen.most_words) * 8 + (length (m.held.over ++ (m.held.body ∷ [])) - m.seen.most_frames) * w.setup.costs.frame

-- fewer bytes are within the limit too
room-less : (a b c d l k : ℕ) → a + b ≤ c + d → l ≡ k → leb (min (c + d) (2 ^ 64 - 1)) l ≡ true → leb (min (a + b) (2 ^ 64 - 1)) k ≡ true
room-less a b c d l k p e h =
    let q : min (c + d) (2 ^ 64 - 1) ≤ l = leb-true (min (c + d) (2 ^ 64 - 1)) l h in
    le-leb (min (a + b) (2 ^ 64 - 1)) k (omega (arith, p, e, q))

-- u is w but for the top pc, bytes and objects
record Near (pc : ℕ) (w u : World) : Type 0 where
  setup : u.setup ≡ w.setup
  stack : u.stack ≡ w.stack
  tops : on_top (set_pc pc) u.frames ≡ on_top (set_pc pc) w.frames
  chain : u.chain ≡ w.chain
  coros : (c : ℕ) → coro u c ≡ coro w c

near : {pc : ℕ} {w v u : World} → Alike pc w v → Same v u → Near pc w u
near {pc} a s =
    record {
      setup = s.setup ∙ a.setup;
      stack = s.stack ∙ a.stack;
      tops = ap (on_top (set_pc pc)) s.frames ∙ a.tops;
      chain = s.chain ∙ a.chain;
      coros = λ c. s.coros c ∙ coro-alike a c;
    }

module _ (w : World) (n c : ℕ) (m : Roomy steps n c w) where
  well : sound w ≡ true
  well = healthy-sound w m.healthy

  abbrev a : Active
  a = record { coro = c; floor = length m.held.under; driver = m.held.driver }

  abbrev t : Cut w.frames a
  t = record { over = m.held.over; body = m.held.body; under = m.held.under; frames = m.held.frames; its_own = m.held.its_own; floor = refl }

  -- at u, which is w but for the pc, n bytes at most and an object; its own words are as they were
  module _ (u : World) (pc : ℕ) (same : Near pc w u) (paid : u.used ≤ w.used + n) (dst x : ℕ) (st : CoroState) (keys : RustOption (ℕ × ℕ)) where
    abbrev v : World
    v = store_pc pc u

    abbrev K : Core
    K = saved st dst a.floor v

    inside : leb (length (on_top (set_pc pc) u.frames)) (length m.held.under) ≡ false
    inside =
        let e : length (on_top (set_pc pc) u.frames) ≡ length w.frames = ap (λ (fs : List Frame). length fs) same.tops ∙ length-top (set_pc pc) w.frames in
        let f : length w.frames ≡ length m.held.over + suc (length m.held.under) = ap (λ (fs : List Frame). length fs) m.held.frames ∙ length-append m.held.over (m.held.body ∷ m.held.under) in
        lt-leb (length (on_top (set_pc pc) u.frames)) (length m.held.under) (omega (arith, e, f))

    words : length K.regs ≡ length (drop m.held.body.base w.stack)
    words = (λ i. length (drop (base_at a.floor (same.tops i)) (same.stack i))) ∙ ap (λ b. length (drop b w.stack)) (cut-base pc w.frames a t)

    frames : length K.frames ≡ length (m.held.over ++ (m.held.body ∷ []))
    frames =
        length-map (above a.floor (on_top (set_pc pc) u.frames)) (lower (base_at a.floor (on_top (set_pc pc) u.frames)))
        ∙ (ap (λ (fs : List Frame). length (above a.floor fs)) same.tops
        ∙ (ap (λ (fs : List Frame). length fs) (cut-above pc w.frames a t) ∙ at_length pc (m.held.over ++ (m.held.body ∷ []))))

    fits-still : (r : Rest) → m.seen.most_words ≡ r.maxregs → m.seen.most_frames ≡ r.maxframes → fits v (growth v K r) ≡ true
    fits-still r e f =
        let g : growth v K r ≡ grown w n c m = λ i. (words i - sym e i) * 8 + (frames i - sym f i) * (same.setup i).costs.frame in
        let l : w.setup.limits.memory ≡ u.setup.limits.memory = ap (λ s. s.limits.memory) (sym same.setup) in
        room-less u.used (growth v K r) w.used (n + grown w n c m) w.setup.limits.memory u.setup.limits.memory (omega (arith, paid, g)) l m.grows

    found : (y : Coroutine) → seen_of y ≡ some m.seen → taken (suspend_coroutine y a m.held.outer K x keys v).answer ≡ true
    unfolding most_words most_frames
    found Absent q = let z : ◌≡◌ {A = ℕ} 0 1 = cc in absurd (omega arith)
    found (Is k r) q =
        ap (λ b. taken (pick (not b) (after v (Err Fault.OutOfMemory)) (after (Coro.put_to_sleep a m.held.outer K x keys r v) (Ok (a.driver, Coro.event_of st x (Coro.set_keys keys r))))).answer) (fits-still r (sym (ap most_words q)) (sym (ap most_frames q)))
        ∙ ap (λ (y : After (Result (Driver × Event) Fault)). taken y.answer) (pick-false (after v (Err Fault.OutOfMemory)) (after (Coro.put_to_sleep a m.held.outer K x keys r v) (Ok (a.driver, Coro.event_of st x (Coro.set_keys keys r)))))

    accepted : tries pc st dst x u keys ≡ true
    unfolding coro_suspend
    accepted =
        ap (λ (cs : List Active). taken (suspend_innermost cs st dst x keys v).answer) (same.chain ∙ m.held.chain)
        ∙ (ap (λ b. taken (pick b (after v (Err Fault.CannotSuspend)) (suspend_coroutine (coro u c) a m.held.outer K x keys v)).answer) inside
        ∙ (ap (λ (y : After (Result (Driver × Event) Fault)). taken y.answer) (pick-false (after v (Err Fault.CannotSuspend)) (suspend_coroutine (coro u c) a m.held.outer K x keys v))
        ∙ found (coro u c) (ap seen_of (same.coros c) ∙ m.there)))

  -- an instruction whose operands lie takes it, at the world that the charge leaves
  module _ (pc : ℕ) where
    abbrev p : Paid pc w
    p = paid_for w well pc (m.paid pc)

    abbrev u : World
    u = p.left

    beside : Near pc w u
    beside = near p.alike same_none

    still : u.used ≤ w.used + n
    still = let e = p.alike.used in omega (arith, e)

    stand : is_nil w.frames ≡ false
    stand = ap (λ (fs : List Frame). is_nil fs) m.held.frames ∙ stands m.held.over m.held.body m.held.under

    takes : (ok : Bool) (f : World → Bool) → ok ≡ true → f u ≡ true →
        pick (is_nil w.frames) false (pick (not ok) false (paid_by f (charge (Some pc) w).world (charge (Some pc) w).answer)) ≡ true
    takes ok f o h =
        let tail : Bool = paid_by f (charge (Some pc) w).world (charge (Some pc) w).answer in
        ap (λ b. pick b false (pick (not ok) false tail)) stand
        ∙ (pick-false false (pick (not ok) false tail)
        ∙ (ap (λ b. pick (not b) false tail) o
        ∙ (pick-false false tail
        ∙ (ap (λ (x : After Charge). paid_by f x.world x.answer) p.is ∙ h))))

    -- the innermost is c
    inner : (f : Active → Bool) → f a ≡ true → in_body u.chain f ≡ true
    inner f h = ap (λ (cs : List Active). in_body cs f) (beside.chain ∙ m.held.chain) ∙ h

  pub await-takes : (k : Call) (pc dst src : ℕ) → model_op k ≡ some (Op.Await pc dst src) → lie (view_of w) (dst ∷ src ∷ []) ≡ true → is_suspension (number_of (step w k).answer) ≡ true
  await-takes (SetUp s) pc dst src e l = let z : ◌≡◌ {A = ℕ} 0 1 = cc in absurd (omega arith)
  await-takes (Do o) pc dst src e l =
      ap (λ x. is_suspension (number_of x)) (number-sound w o well)
      ∙ (ap (λ q. is_suspension (number_of (call q w).answer)) (some-op e)
      ∙ ((call-number w well (Op.Await pc dst src) refl).ok
      ∙ takes pc (all_in (dst ∷ src ∷ []) w) (suspends_in (Op.Await pc dst src)) (rw (← base-top w.frames) l)
      (inner pc (λ _. tries pc CoroState.Awaiting dst (reg (u pc) src) (u pc) None) (accepted (u pc) pc (beside pc) (still pc) dst (reg (u pc) src) CoroState.Awaiting None))))

  pub kv-takes : (k : Call) (pc dst src key : ℕ) → model_op k ≡ some (Op.YieldKv pc dst src key) → lie (view_of w) (dst ∷ src ∷ key ∷ []) ≡ true → is_suspension (number_of (step w k).answer) ≡ true
  kv-takes (SetUp s) pc dst src key e l = let z : ◌≡◌ {A = ℕ} 0 1 = cc in absurd (omega arith)
  kv-takes (Do o) pc dst src key e l =
      let keys : Active → RustOption (ℕ × ℕ) = λ b. Some (reg (u pc) key, larger_of (largest_in (coro (u pc) b.coro)) (dyn_int (u pc) (reg (u pc) key))) in
      ap (λ x. is_suspension (number_of x)) (number-sound w o well)
      ∙ (ap (λ q. is_suspension (number_of (call q w).answer)) (some-op e)
      ∙ ((call-number w well (Op.YieldKv pc dst src key) refl).ok
      ∙ takes pc (all_in (dst ∷ src ∷ key ∷ []) w) (suspends_in (Op.YieldKv pc dst src key)) (rw (← base-top w.frames) l)
      (inner pc (λ b. tries pc CoroState.Yielded dst (reg (u pc) src) (u pc) (keys b)) (accepted (u pc) pc (beside pc) (still pc) dst (reg (u pc) src) CoroState.Yielded (keys a)))))

  -- ---- a Yield: its key is made, or there is none (7)

  module _ (cost : n ≡ w.setup.costs.int) (slot : slots_full w ≡ false) (pc : ℕ) where
    abbrev y : World
    y = u pc

    abbrev largest : ℕ
    largest = largest_in (coro y c)

    setup : y.setup ≡ w.setup
    setup = (p pc).alike.setup

    affords : fits y y.setup.costs.int ≡ true
    affords =
        let e = (p pc).alike.used in
        let i : y.setup.costs.int ≡ w.setup.costs.int = ap (λ s. s.costs.int) setup in
        room-less y.used y.setup.costs.int w.used (n + grown w n c m) w.setup.limits.memory y.setup.limits.memory (omega (arith, cost, e, i)) (ap (λ s. s.limits.memory) (sym setup)) m.grows

    room : slots_full y ≡ false
    room = (λ i. leb (setup i).limits.slots (length ((p pc).alike.slots i))) ∙ slot

    key-made : (dst x : ℕ) (k : ℕ) → next_key largest ≡ Some k → keyed (tries pc CoroState.Yielded dst x) (auto_key largest y).world (auto_key largest y).answer ≡ true
    unfolding auto_key alloc pick
    key-made dst x k e = ap (λ z. keyed (tries pc CoroState.Yielded dst x) (key_exact z y).world (key_exact z y).answer) e ∙ go (inline_of (of_bits 63 k))
      where
        made : World
        made = with_used (sat_add y.used y.setup.costs.int) (with_slots (push_object y.slots (Object.Int k)) y)

        object : (b d : Bool) → b ≡ false → d ≡ false
            → let o = pick b (refuse y Fault.OutOfMemory) (pick d (refuse y Fault.Full) (after made (Ok (next_word y.slots)))) in Same y o.world
            → keyed (tries pc CoroState.Yielded dst x) (and_then o (key_at k)).world (and_then o (key_at k)).answer ≡ true
        object true d p q g = no_both refl p
        object false true p q g = no_both refl q
        object false false b q g =
            let e = (p pc).alike.used in
            let i : y.setup.costs.int ≡ w.setup.costs.int = ap (λ s. s.costs.int) setup in
            accepted made pc (near (p pc).alike g) (omega (arith, cost, e, i)) dst x CoroState.Yielded (Some (next_word y.slots, k))

        go : (i : RustOption Word) → keyed (tries pc CoroState.Yielded dst x) (and_then (encode_at i k y) (key_at k)).world (and_then (encode_at i k y) (key_at k)).answer ≡ true
        go (Some z) = accepted y pc (beside pc) (still pc) dst x CoroState.Yielded (Some (z.0, k))
        go None = object (not (fits y y.setup.costs.int)) (slots_full y) (ap not affords) room (let g = alloc_same y.setup.costs.int (Object.Int k) y refl in record { setup = g.setup; stack = g.stack; frames = g.frames; chain = g.chain; coros = g.coros })

    seven : (dst src : ℕ) → next_key largest ≡ None → (yield pc dst src y).answer ≡ Step.Fault Fault.ArithOverflow
    unfolding yield auto_key
    seven dst src e =
        ap (λ (cs : List Active). (yield_on cs pc dst src y).answer) ((beside pc).chain ∙ m.held.chain)
        ∙ ap (λ z. (and_then (key_exact z y) (yield_key pc dst (reg y src))).answer) e

    pub yield-takes : (k : Call) (dst src : ℕ) → model_op k ≡ some (Op.Yield pc dst src) → lie (view_of w) (dst ∷ src ∷ []) ≡ true → (is_suspension (number_of (step w k).answer) || eqb (number_of (step w k).answer) 7) ≡ true
    unfolding call
    yield-takes (SetUp s) dst src e l = let z : ◌≡◌ {A = ℕ} 0 1 = cc in absurd (omega arith)
    yield-takes (Do o) dst src e l = ap (λ x. is_suspension (number_of x) || eqb (number_of x) 7) (number-sound w o well ∙ ap (λ q. (call q w).answer) (some-op e)) ∙ go (next_key largest) refl
      where
        ok : all_in (dst ∷ src ∷ []) w ≡ true
        ok = rw (← base-top w.frames) l

        first : (b d : Bool) → b ≡ true → (b || d) ≡ true
        first b d h = ap (λ x. x || d) h

        go : (z : RustOption ℕ) → next_key largest ≡ z → (is_suspension (number_of (call (Op.Yield pc dst src) w).answer) || eqb (number_of (call (Op.Yield pc dst src) w).answer) 7) ≡ true
        go (Some k) q =
            first (is_suspension (number_of (call (Op.Yield pc dst src) w).answer)) (eqb (number_of (call (Op.Yield pc dst src) w).answer) 7)
            ((call-number w well (Op.Yield pc dst src) refl).ok
            ∙ takes pc (all_in (dst ∷ src ∷ []) w) (suspends_in (Op.Yield pc dst src)) ok
            (inner pc (λ b. keyed (tries pc CoroState.Yielded dst (reg y src)) (auto_key (largest_in (coro y b.coro)) y).world (auto_key (largest_in (coro y b.coro)) y).answer) (key-made dst (reg y src) k q)))
        go None q =
            ap (λ n. is_suspension n || eqb n 7)
            (ap number_of (paid-number w pc (p pc) (all_in (dst ∷ src ∷ []) w) (yield pc dst src) (stand pc) ok ∙ ap (answer_of (p pc).words) (seven dst src q)) ∙ step-number (p pc).words (Step.Fault Fault.ArithOverflow))
