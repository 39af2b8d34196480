-- 01: the three mistakes.
use Prim.Native.Nat.{ℕ, zero, suc, ◌+◌, ◌-◌, ◌*◌, ◌/◌, ◌%◌, ◌^◌, ◌≤◌, ◌<◌, max}
use mathlib.Core.Path.{◌≡◌, refl, sym, ap, ◌∙◌, subst}
use mathlib.Core.Bool.{Bool, true, false, not, ◌&&◌, true≢false}
use mathlib.Core.List.{List, [], ◌∷◌, ◌++◌, map}
use native.Mathlib.Nat.{zero-mul}
use native.Mathlib.Omega.{arith}
use lib.ListN.{length, take, drop, set, get_or, length-append, length-map}
use lib.Seq.{get_or-set_same}
use lib.Dec.{eqb, ltb, leb}
use borrow.Author.Tests.{leb-true, le-leb, ltb-true, ltb-false}
use Rattle.lists.specs.Pick.{pick}
use Rattle.heap.specs.Coding.{in_range}
use Rattle.heap.specs.Table.{Slot, slot}
use Rattle.heap.specs.declared.fault.Fault.{Fault}
use Rattle.std.specs.Prelude.{Some, None}
use Rattle.heap.specs.declared.object.CoroState.{CoroState}
use Rattle.model.specs.Lists.{is_nil, each}
use Rattle.model.specs.Program.{between, limits_ok, costs_ok, function_ok, hook_ok, setup_ok}
use Rattle.model.specs.Object.{Core, Rest, Object}
use Rattle.model.specs.World.{World, After, with_finalize, with_finalizing}
use Rattle.model.specs.Sound.{sizes_ok, sound}
use Rattle.model.specs.Call.{typed}
use Rattle.model.specs.declared.machine.Driver.{Driver}
use Rattle.model.specs.declared.machine.Active.{Active}
use Rattle.model.specs.declared.machine.Frame.{Frame}
use Rattle.model.specs.declared.machine.Stop.{Stop}
use Rattle.model.specs.declared.exec.Step.{Step}
use Rattle.model.specs.declared.call.Op.{Op}
use Rattle.model.specs.declared.call.Answer.{Answer}
use Rattle.claims_sheet.specs.Does.{does, operation}
use Rattle.claims_sheet.specs.Words as Memory
use Rattle.claims_sheet.specs.Words.{is_reference, found, kind, core_of, rest_of, base, lacks_memory}
use Rattle.claims_sheet.specs.Moves.{at_pc, pc_stored, onward, in_register, put, sent, replaced, iterator, at_least}
use Rattle.claims_sheet.specs.Charging.{fuelled, reserve, charged, lost}
use Rattle.claims_sheet.specs.Suspending.{innermost_active, held_frames, floor_base, saved_core, rest_here, saved_rest, growth, is_loop, delivered}
use Rattle.claims_sheet.specs.Yields as Table
use Rattle.claims_sheet.specs.Yields.{suspended_by_yield, suspended_by_await, next_key, raised_largest, integer_of}
use Rattle.claims_sheet.specs.Sheet.{lie}
use Rattle.claims_sheet.specs.Pep342.{pays, at, held}
use Rattle.claims_sheet.specs.Pep342Yields.{suspends, closing, driver}
use Rattle.claims_sheet.specs.Mistakes.{Runs, Paid, Among, LastOne, Mistakes}
use Rattle.claims_sheet.proofs.Choice.{both}
use Rattle.claims_sheet.proofs.Rules.{set-up, sizes}
use Rattle.claims_sheet.proofs.Sheet.{leads-to}
use Rattle.claims_sheet.proofs.Led.{past, here, paid}
use Rattle.claims_sheet.proofs.Pep342.{stepped}
use Rattle.claims_sheet.proofs.Pep342Yields.{yielding}
use Rattle.claims_sheet.proofs.Pep342Departs.{rest-resumed}
use Rattle.lists.proofs.Tests.{and_left, and_right}
use Rattle.claims_sheet.proofs.Moved.{length_at}

nothing-over : (m n c : ℕ) → leb m n ≡ true → (m - n) * c ≡ 0
nothing-over m n c h =
    let l = leb-true m n h in
    let z : m - n ≡ 0 = omega (arith, l) in
    ap (λ x. x * c) z ∙ zero-mul c

-- ---- the charge, and then the pc: what they leave

record Same (pc : ℕ) (w z : World) : Type 0 where
  pub setup : z.setup ≡ w.setup
  pub stack : z.stack ≡ w.stack
  pub frames : z.frames ≡ at_pc pc w.frames
  pub chain : z.chain ≡ w.chain
  pub slots : z.slots ≡ w.slots
  pub used : z.used ≡ w.used

once_more : (pc : ℕ) (fs : List Frame) → at_pc pc (at_pc pc fs) ≡ at_pc pc fs
once_more pc [] = refl
once_more pc (f ∷ fs) = refl

same : (pc : ℕ) (w : World) → Same pc w (at pc w)
unfolding pick
same pc w = go (not (eqb w.fuel.fuel 0)) (not w.fuel.ready)
  where
    go : (a b : Bool) → Same pc w (pc_stored pc (pick a (fuelled (w.fuel.fuel - 1) w.fuel.bank w.fuel.ready w) (pick b (fuelled (reserve w - 1) None false w) (fuelled (reserve w - 1) None false (with_finalizing false (with_finalize [] (pc_stored pc w)))))))
    go true b = record { setup = refl; stack = refl; frames = refl; chain = refl; slots = refl; used = refl }
    go false true = record { setup = refl; stack = refl; frames = refl; chain = refl; slots = refl; used = refl }
    go false false = record { setup = refl; stack = refl; frames = once_more pc w.frames; chain = refl; slots = refl; used = refl }

-- ---- what is held of the innermost coroutine

-- the test of `found`, and what a slot holds
abbrev reads : ℕ → Slot Object → Object
reads v s = pick (is_reference v && eqb s.tag (v / 2 ^ 32 % 2 ^ 16)) s.object Object.Empty

bases : (pc : ℕ) (fs : List Frame) → map (λ f. f.base) (at_pc pc fs) ≡ map (λ f. f.base) fs
bases pc [] = refl
bases pc (f ∷ fs) = refl

base-of : (over : List Frame) (body : Frame) (under : List Frame) → get_or (map (λ f. f.base) (over ++ (body ∷ under))) (length (over ++ (body ∷ under)) - suc (length under)) 0 ≡ body.base
base-of [] body under =
    let e : suc (length under) - suc (length under) ≡ 0 = omega arith in
    ap (λ n. get_or (body.base ∷ map (λ f. f.base) under) n 0) e
base-of (f ∷ over) body under =
    let l = length-append over (body ∷ under) in
    let e : suc (length (over ++ (body ∷ under))) - suc (length under) ≡ suc (length (over ++ (body ∷ under)) - suc (length under)) = omega (arith, l) in
    ap (λ n. get_or (f.base ∷ map (λ f. f.base) (over ++ (body ∷ under))) n 0) e ∙ base-of over body under

taken : (n : ℕ) (fs : List Frame) → length (take n fs) ≤ n
taken zero fs = omega arith
taken (suc n) [] = omega arith
taken (suc n) (f ∷ fs) = let h = taken n fs in omega (arith, h)

module _ (pc : ℕ) (w : World) (r : Rest) (m n : ℕ) (h : Runs w r m n) where
  abbrev z : World
  z = at pc w

  k : Same pc w (at pc w)
  k = same pc w

  inmost : z.chain ≡ h.active ∷ h.outer
  inmost = k.chain ∙ h.chain

  floor-of : (innermost_active z.chain).floor ≡ length h.under
  floor-of = ap (λ c. (innermost_active c).floor) inmost ∙ h.floor

  stood : z.frames ≡ at_pc pc (h.over ++ (h.body ∷ h.under))
  stood = k.frames ∙ ap (at_pc pc) h.stands

  numbered : length z.frames ≡ length (h.over ++ (h.body ∷ h.under))
  numbered = ap (λ (fs : List Frame). length fs) stood ∙ length_at pc (h.over ++ (h.body ∷ h.under))

  based : floor_base z ≡ h.body.base
  based =
      (λ i. get_or (map (λ f. f.base) (stood i)) (numbered i - suc (floor-of i)) 0)
      ∙ (ap (λ bs. get_or bs (length (h.over ++ (h.body ∷ h.under)) - suc (length h.under)) 0) (bases pc (h.over ++ (h.body ∷ h.under))) ∙ base-of h.over h.body h.under)

  words_of : length (drop (floor_base z) z.stack) ≡ m
  words_of = (λ i. length (drop (based i) (k.stack i))) ∙ h.words

  frames-of : length (held_frames z) ≤ n
  frames-of =
      let a = taken (length z.frames - (innermost_active z.chain).floor) z.frames in
      let b = length-append h.over (h.body ∷ h.under) in
      let c = h.frames in
      let d = numbered in
      let e = floor-of in
      omega (arith, a, b, c, d, e)

  rest-of : rest_here z ≡ r
  rest-of =
      let c = h.active.coro in
      ap (λ (cs : List Active). rest_of (found z (innermost_active cs).coro)) inmost
      ∙ (ap (λ (xs : List (Slot Object)). rest_of (reads c (get_or xs (c % 2 ^ 32) (slot 0 Object.Empty)))) k.slots ∙ ap rest_of h.its_own)

  grows-not : leb m r.maxregs ≡ true → leb n r.maxframes ≡ true → growth z ≡ 0
  grows-not p q =
      let f = frames-of in
      let b = leb-true n r.maxframes q in
      let l : leb (length (held_frames z)) r.maxframes ≡ true = le-leb (length (held_frames z)) r.maxframes (omega (arith, f, b)) in
      (λ i. (words_of i - (rest-of i).maxregs) * 8 + (length (held_frames z) - (rest-of i).maxframes) * z.setup.costs.frame)
      ∙ (ap (λ x. x + (length (held_frames z) - r.maxframes) * z.setup.costs.frame) (nothing-over m r.maxregs 8 p) ∙ ap (λ x. 0 + x) (nothing-over (length (held_frames z)) r.maxframes z.setup.costs.frame l))

-- the memory figure of a sound machine is within its limit, and so below 2^64
memory-within : (w : World) → sound w ≡ true → (leb w.used w.setup.limits.memory ≡ true) × (ltb w.setup.limits.memory (2 ^ 64) ≡ true)
unfolding sizes_ok setup_ok
memory-within w h =
    let l = w.setup.limits in
    let s = w.setup in (
      and_right (leb (length w.frames) l.depth && leb (length w.stack) l.stack && leb (length w.slots) l.slots) (leb w.used l.memory) (sizes w h),
      and_right (between 1 128 l.depth && between 1 1024 l.stack && between 1 64 l.rows && between 1 4096 l.slots) (ltb l.memory (2 ^ 64))
          (and_left (limits_ok l) (costs_ok s.costs)
          (and_left (limits_ok l && costs_ok s.costs) (between 1 32 (length s.functions))
          (and_left (limits_ok l && costs_ok s.costs && between 1 32 (length s.functions)) (leb (length s.functions) l.slots)
          (and_left (limits_ok l && costs_ok s.costs && between 1 32 (length s.functions) && leb (length s.functions) l.slots) (each function_ok s.functions)
          (and_left (limits_ok l && costs_ok s.costs && between 1 32 (length s.functions) && leb (length s.functions) l.slots && each function_ok s.functions) (hook_ok s s.hook) (set-up w h)))))),
    )

told-used : (d : Driver) (p : ℕ) (s : Stop) (v : World) → is_loop d ≡ false → (delivered d p 0 s v).used ≡ v.used
told-used (Driver.Resume dst) p s v h = refl
told-used (Driver.Iter has val iter) p s v h = absurd (true≢false h)
told-used Driver.Host p s v h = refl
told-used Driver.Finalize p s v h = refl

once : (pc dst src : ℕ) (w : World) (t : typed (Op.Await pc dst src) ≡ true) → pays pc (lie (dst ∷ src ∷ []) w) w ≡ true → (r : Rest) (m n : ℕ) → Runs w r m n → leb m r.maxregs ≡ true → leb n r.maxframes ≡ true →
    (does w (operation (Op.Await pc dst src) t)).world.used ≡ w.used
once pc dst src w t p r m n h a b = go (is_loop (driver (at pc w))) refl
  where
    e : growth (at pc w) ≡ 0
    e = grows-not pc w r m n h a b

    in_use : (leb w.used w.setup.limits.memory ≡ true) × (ltb w.setup.limits.memory (2 ^ 64) ≡ true)
    in_use = memory-within w (and_left (sound w) _ p)

    unchanged : Memory.used_with (at pc w) (growth (at pc w)) ≡ w.used
    unchanged =
        let x = leb-true w.used w.setup.limits.memory in_use.0 in
        let y = ltb-true w.setup.limits.memory (2 ^ 64) in_use.1 in
        let u = (same pc w).used in
        omega (arith, x, y, e, u)

    fits : lacks_memory (at pc w) (growth (at pc w)) ≡ false
    fits = (λ i. not (leb (unchanged i) ((same pc w).setup i).limits.memory)) ∙ ap not in_use.0

    able : suspends (at pc w) ≡ true
    able = λ i. not (is_nil (((same pc w).chain ∙ h.chain) i)) && not (fits i)

    go : (l : Bool) → is_loop (driver (at pc w)) ≡ l → (does w (operation (Op.Await pc dst src) t)).world.used ≡ w.used
    go false l = ap (λ (o : After Answer). o.world.used) (yielding.await-delivers pc dst src w t p able l) ∙ (told-used (driver (at pc w)) (held src pc w) (Stop.Awaiting (held src pc w)) _ l ∙ unchanged)
    go true l = ap (λ (o : After Answer). o.world.used) (yielding.await-in-loop pc dst src w t p able l) ∙ unchanged

-- ---- what was paid for is kept

outside : (xs : List (Slot Object)) (i : ℕ) → length xs ≤ i → get_or xs i (slot 0 Object.Empty) ≡ slot 0 Object.Empty
outside [] i h = refl
outside (x ∷ xs) zero h = absurd (omega (arith, h))
outside (x ∷ xs) (suc i) h = outside xs i (omega (arith, h))

no-object : {A : Type 0} (b : Bool) {k : Core} {r : Rest} → pick b Object.Empty Object.Empty ≡ Object.Coro k r → A
unfolding pick
no-object true e = let z : ◌≡◌ {A = ℕ} 0 1 = cc in absurd (omega arith)
no-object false e = let z : ◌≡◌ {A = ℕ} 0 1 = cc in absurd (omega arith)

there : (xs : List (Slot Object)) (v : ℕ) {k : Core} {r : Rest} → reads v (get_or xs (v % 2 ^ 32) (slot 0 Object.Empty)) ≡ Object.Coro k r → v % 2 ^ 32 < length xs
there xs v e = go (ltb (v % 2 ^ 32) (length xs)) refl
  where
    go : (b : Bool) → ltb (v % 2 ^ 32) (length xs) ≡ b → v % 2 ^ 32 < length xs
    go true h = ltb-true (v % 2 ^ 32) (length xs) h
    go false h = no-object (is_reference v && eqb 0 (v / 2 ^ 32 % 2 ^ 16)) (ap (reads v) (sym (outside xs (v % 2 ^ 32) (ltb-false (v % 2 ^ 32) (length xs) h))) ∙ e)

-- another coroutine in its place is found there
in_place : (b : Bool) (o : Object) {k : Core} {r : Rest} (x : Object) → pick b x Object.Empty ≡ Object.Coro k r → pick b o Object.Empty ≡ o
unfolding pick
in_place true o x e = refl
in_place false o x e = let z : ◌≡◌ {A = ℕ} 0 1 = cc in absurd (omega arith)

replaced-found : (xs : List (Slot Object)) (v : ℕ) (o : Object) {k : Core} {r : Rest} → reads v (get_or xs (v % 2 ^ 32) (slot 0 Object.Empty)) ≡ Object.Coro k r
    → reads v (get_or (set xs (v % 2 ^ 32) (slot (get_or xs (v % 2 ^ 32) (slot 0 Object.Empty)).tag o)) (v % 2 ^ 32) (slot 0 Object.Empty)) ≡ o
replaced-found xs v o e =
    let s = get_or xs (v % 2 ^ 32) (slot 0 Object.Empty) in
    ap (reads v) (get_or-set_same xs (v % 2 ^ 32) (slot s.tag o) (slot 0 Object.Empty) (there xs v e)) ∙ in_place (is_reference v && eqb s.tag (v / 2 ^ 32 % 2 ^ 16)) o s.object e

told-slots : (d : Driver) (p : ℕ) (s : Stop) (v : World) → is_loop d ≡ false → (delivered d p 0 s v).slots ≡ v.slots
told-slots (Driver.Resume dst) p s v h = refl
told-slots (Driver.Iter has val iter) p s v h = absurd (true≢false h)
told-slots Driver.Host p s v h = refl
told-slots Driver.Finalize p s v h = refl

kept : (pc dst src : ℕ) (w : World) (t : typed (Op.Await pc dst src) ≡ true) → pays pc (lie (dst ∷ src ∷ []) w) w ≡ true → (r : Rest) (m n : ℕ) (h : Runs w r m n) → suspends (at pc w) ≡ true →
    Paid (does w (operation (Op.Await pc dst src) t)).world h.active.coro
kept pc dst src w t p r m n h a = go (is_loop (driver (at pc w))) refl
  where
    x : World
    x = suspended_by_await dst (held src pc w) (at pc w)

    here-now : reads h.active.coro (get_or (at pc w).slots (h.active.coro % 2 ^ 32) (slot 0 Object.Empty)) ≡ Object.Coro h.core r
    here-now = ap (λ (xs : List (Slot Object)). reads h.active.coro (get_or xs (h.active.coro % 2 ^ 32) (slot 0 Object.Empty))) (same pc w).slots ∙ h.its_own

    sleeper : Object
    sleeper = Object.Coro (saved_core CoroState.Awaiting dst (at pc w)) (saved_rest (at pc w) (held src pc w) (rest_here (at pc w)))

    found_in : found x h.active.coro ≡ sleeper
    found_in =
        ap (λ c. found (replaced c sleeper (at pc w)) h.active.coro) (ap (λ c. (innermost_active c).coro) ((same pc w).chain ∙ h.chain))
        ∙ replaced-found (at pc w).slots h.active.coro sleeper here-now

    paid-in : (v : World) → v.slots ≡ x.slots → Paid v h.active.coro
    paid-in v e =
        record {
          core = saved_core CoroState.Awaiting dst (at pc w);
          rest = saved_rest (at pc w) (held src pc w) (rest_here (at pc w));
          found = ap (λ (xs : List (Slot Object)). reads h.active.coro (get_or xs (h.active.coro % 2 ^ 32) (slot 0 Object.Empty))) e ∙ found_in;
          words = le-leb _ (max (rest_here (at pc w)).maxregs (length (drop (floor_base (at pc w)) (at pc w).stack))) (omega arith);
          frames = let l = length-map {B = Frame} (held_frames (at pc w)) (λ f. record { func = f.func; pc = f.pc; base = f.base - floor_base (at pc w); closure = f.closure; cont = f.cont }) in
              le-leb _ (max (rest_here (at pc w)).maxframes (length (held_frames (at pc w)))) (omega (arith, l));
        }

    go : (l : Bool) → is_loop (driver (at pc w)) ≡ l → Paid (does w (operation (Op.Await pc dst src) t)).world h.active.coro
    go false l = paid-in _ (ap (λ (o : After Answer). o.world.slots) (yielding.await-delivers pc dst src w t p a l) ∙ told-slots (driver (at pc w)) (held src pc w) (Stop.Awaiting (held src pc w)) x l)
    go true l = paid-in _ (ap (λ (o : After Answer). o.world.slots) (yielding.await-in-loop pc dst src w t p a l))

-- ---- what was saved

among : (k : Core) (r : Rest) → Among k (at_least k r)
among k r = (le-leb _ (max r.maxregs (length k.regs)) (omega arith), le-leb _ (max r.maxframes (length k.frames)) (omega arith))

-- ---- `val` before `has`

twice : (fs : List Frame) (r v : ℕ) (xs : List ℕ) → is_nil fs ≡ false → in_register fs r 1 (in_register fs r v xs) ≡ set (set xs (base (onward fs) + r) v) (base (onward fs) + r) 1
twice [] r v xs h = absurd (true≢false h)
twice (f ∷ fs) r v xs h = refl

stepped-nil : (fs : List Frame) → is_nil (onward fs) ≡ is_nil fs
stepped-nil [] = refl
stepped-nil (f ∷ fs) = refl

last_one : (r iter payload key : ℕ) (s : Stop) (u : World) → LastOne r payload (delivered (Driver.Iter r r iter) payload key s u)
last_one r iter payload key s u =
    both (λ (x : World). LastOne r payload (sent r 1 (put r payload x))) (eqb (kind (found u iter)) 3) (wrote (replaced iter (iterator (λ d. d) (λ k. Some key) (found u iter)) u)) (wrote u)
  where
    wrote : (x : World) → LastOne r payload (sent r 1 (put r payload x))
    wrote x h = (x.stack, twice x.frames r payload x.stack (sym (stepped-nil x.frames) ∙ h))

first : (pc dst src key : ℕ) (w : World) (t : typed (Op.YieldKv pc dst src key) ≡ true) (r iter : ℕ) → pays pc (lie (dst ∷ src ∷ key ∷ []) w) w ≡ true →
    suspends (at pc w) ≡ true → closing (at pc w) ≡ false → driver (at pc w) ≡ Driver.Iter r r iter → LastOne r (held src pc w) (does w (operation (Op.YieldKv pc dst src key) t)).world
first pc dst src key w t r iter p h c d =
    let v = suspended_by_yield dst (held src pc w) (held key pc w) (raised_largest (rest_here (charged pc w)).largest (integer_of (charged pc w) (held key pc w))) (at pc w) in
    let q : Stop = Stop.Yielded (held src pc w) in
    subst (λ (o : After Answer). LastOne r (held src pc w) o.world) (sym ((yielding.yields-kv pc dst src key w t p h).yield-delivers c))
    (subst (λ e. LastOne r (held src pc w) (delivered e (held src pc w) (held key pc w) q v)) (sym d) (last_one r iter (held src pc w) (held key pc w) q v))

pub mistakes : Mistakes
mistakes =
    record {
      size-kept = kept;
      size-once = once;
      size-entered = λ pc dst c src w passes t h.
          let o = found (at pc w) (held c pc w) in subst (λ r. Among (core_of o) r) (sym (rest-resumed pc dst c src w passes t h)) (among (core_of o) (rest_of o));
      val-first = first;
      yield-5 = λ pc dst src w t p h.
          leads-to w _ ∙ (paid pc (lie (dst ∷ src ∷ []) w) (Table.yield pc dst src) w p ∙ (here (is_nil (charged pc w).chain) _ h ∙ stepped _ _ (Step.Fault Fault.CannotSuspend) (lost pc w) refl));
      yield-kv-5 = λ pc dst src key w t p h.
          leads-to w _ ∙ (paid pc (lie (dst ∷ src ∷ key ∷ []) w) (Table.yield_kv pc dst src key) w p ∙ (here (is_nil (charged pc w).chain) _ h ∙ stepped _ _ (Step.Fault Fault.CannotSuspend) (lost pc w) refl));
      await-5 = λ pc dst src w t p h.
          leads-to w _ ∙ (paid pc (lie (dst ∷ src ∷ []) w) (Table.await pc dst src) w p ∙ (here (is_nil (charged pc w).chain) _ h ∙ stepped _ _ (Step.Fault Fault.CannotSuspend) (lost pc w) refl));
      yield-7 = λ pc dst src w t p h k.
          leads-to w _ ∙ (paid pc (lie (dst ∷ src ∷ []) w) (Table.yield pc dst src) w p
          ∙ past (is_nil (charged pc w).chain) _ h (here (not (in_range 63 (next_key (charged pc w)))) _ (ap not k) ∙ stepped _ _ (Step.Fault Fault.ArithOverflow) (lost pc w) refl));
    }
