-- What a call leaves of the script that runs, read off its moves. Assumes nothing.
use Prim.Native.Nat.{ℕ, ◌+◌}
use native.Mathlib.Omega.{arith}
use mathlib.Core.Path.{◌≡◌, refl, sym, ap, ◌∙◌, subst}
use mathlib.Core.Logic.{◌⊎◌, inl, inr}
use mathlib.Core.Bool.{Bool, true, false, not, ◌&&◌, ◌||◌}
use mathlib.Core.List.{List, [], ◌∷◌, ◌++◌, append-nil}
use mathlib.Core.Option.{Option, none, some}
use lib.ListN.{length, get_or, take, replicate, length-set}
use lib.Seq.{set-get_or, set-set}
use lib.Dec.{eqb, leb, ltb}
use borrow.Author.Tests.{eq-eqb}
use Rattle.lists.specs.Pick.{pick}
use Rattle.heap.specs.Word.{nil}
use Rattle.heap.specs.Fault as Faults
use Rattle.heap.specs.declared.fault.Fault.{Fault}
use Rattle.std.specs.Prelude.{Option as RustOption, Result, Some, None, Ok, Err}
use Rattle.heap.specs.declared.heap.ResultKind.{ResultKind}
use Rattle.model.specs.Lists.{is_nil}
use Rattle.model.specs.State.{is_running, is_suspended}
use Rattle.model.specs.Program.{func, is_function}
use Rattle.model.specs.World.{World, after, and_then, with_stack, with_frames}
use Rattle.model.specs.Frames.{frame, on_top, set_pc, step_pc, put_at, store_pc, next_pc, pop_to}
use Rattle.model.specs.Heap.{refuse, to_dyn}
use Rattle.model.specs.Machine.{push_frame, result_of, or_nil, write_result, write_made, apply_cont, resume_in, finish_as, finish_on, finish}
use Rattle.model.specs.Gate.{refused, all_in, on_frame, on_host}
use Rattle.model.specs.Added.{pushed_or, host_call, cont_allowed, function_call, put_word}
use Rattle.model.specs.Sound.{sound}
use Rattle.model.specs.Answer.{number_of}
use Rattle.model.specs.Call.{Call, SetUp, Do}
use Rattle.model.specs.Step.{call, tested, step, told}
use Rattle.model.specs.declared.machine.Cont.{Cont}
use Rattle.model.specs.declared.machine.Frame.{Frame}
use Rattle.model.specs.declared.machine.Active.{Active}
use Rattle.model.specs.declared.call.Op.{Op}
use Rattle.model.specs.declared.call.Answer.{Answer}
use Rattle.claims_model.specs.Held.{at, into}
use Rattle.claims_model.specs.Delivery.{onward}
use Rattle.claims_model.specs.Demand3 as D
use Rattle.claims_model.specs.Events.{is_body}
use Rattle.claims_model.specs.Touches.{May, may_touch, storing, writing, Over, bare, one, Touched, Called, target, go_on, Finished, Touches}
use Rattle.claims_model.specs.Steps.{view_of, model_op, steps}
use Rattle.claims_model.specs.Refuted.{Said}
use Rattle.claims_model.proofs.Held.{core_at}
use Rattle.claims_model.proofs.Split.{next}
use Rattle.claims_model.proofs.Cores.{no_both, Mode, m-plain}
use Rattle.claims_model.proofs.Shape as S
use Rattle.claims_model.proofs.Shape.{View, view, Stores, Worked, done, quiet, tops, puts, pushes, pops, fails, top_v, put_v, Shape}
use Rattle.claims_model.proofs.Quiet.{Same, dyn-same}
use Rattle.claims_model.proofs.Finishes.{is_zero, refused-dyn, refused-at}
use Rattle.claims_model.proofs.Events.{ready-run}
use Rattle.claims_model.proofs.Sounds.{first_runs}
use Rattle.claims_model.proofs.Calls.{shape}
use Rattle.claims_model.proofs.Claim.{StepCase, anew, same, does, step_case}
use Rattle.claims_model.proofs.Views.{is-runs, is-suspended-core}
use Rattle.claims_model.proofs.Bodies.{at_top}
use Rattle.claims_model.proofs.Exact.{some-op}

no-limit : {A : Type 0} {m : May} → ◌≡◌ {A = Option May} (some m) none → A
no-limit e = let z : ◌≡◌ {A = ℕ} 0 1 = cc in absurd (omega arith)

-- ---- frames and words

-- what stands in the register
standing : Option ℕ → List Frame → List ℕ → ℕ
standing none fs xs = 0
standing (some r) [] xs = 0
standing (some r) (f ∷ fs) xs = get_or xs (f.base + r) 0

stands : (r : Option ℕ) (fs : List Frame) (xs : List ℕ) → xs ≡ writing r fs (standing r fs xs) xs
unfolding standing
stands none fs xs = refl
stands (some r) [] xs = refl
stands (some r) (f ∷ fs) xs = sym (set-get_or xs (f.base + r) 0)

top-twice : (p : ℕ) (fs : List Frame) → on_top (set_pc p) (at p fs) ≡ at p fs
top-twice p [] = refl
top-twice p (f ∷ fs) = refl

put-twice : (fs : List Frame) (r x y : ℕ) (xs : List ℕ) → into fs r x (into fs r y xs) ≡ into fs r x xs
put-twice [] r x y xs = refl
put-twice (f ∷ fs) r x y xs = set-set xs (f.base + r) y x

pub put-storing : (o : Option ℕ) (fs : List Frame) (r x : ℕ) (xs : List ℕ) → put_at (storing o fs) r x xs ≡ into fs r x xs
put-storing none [] r x xs = refl
put-storing none (f ∷ fs) r x xs = refl
put-storing (some p) [] r x xs = refl
put-storing (some p) (f ∷ fs) r x xs = refl

length-writing : (o : Option ℕ) (fs : List Frame) (x : ℕ) (xs : List ℕ) → length (writing o fs x xs) ≡ length xs
length-writing none fs x xs = refl
length-writing (some r) [] x xs = refl
length-writing (some r) (f ∷ fs) x xs = length-set xs (f.base + r) x

-- ---- moves

-- u is v, but for the pc and the register that may be touched
record Near (m : May) (v u : View) : Type 0 where
  stored : (u.frames ≡ v.frames) ⊎ (u.frames ≡ storing m.pc v.frames)
  word : ℕ
  stack : u.stack ≡ writing m.register v.frames word v.stack
  chain : u.chain ≡ v.chain

-- .. and perhaps a frame stands on it
record Left (m : May) (v z : View) : Type 0 where
  own : List Frame
  stored : (own ≡ v.frames) ⊎ (own ≡ storing m.pc v.frames)
  over : List Frame
  frames : z.frames ≡ over ++ own
  word : ℕ
  words : List ℕ
  stack : z.stack ≡ writing m.register v.frames word v.stack ++ words
  calls : Over m.calls (length v.stack) over words
  chain : z.chain ≡ v.chain

module _ (m : May) (v : View) where
  near_none : Near m v v
  near_none = record { stored = inl refl; word = standing m.register v.frames v.stack; stack = stands m.register v.frames v.stack; chain = refl }

  near-top : (u : View) (g : Frame → Frame) → Stores (some m) g → Near m v u → Near m v (top_v g u)
  near-top u g (p, e, q) n = record { stored = inr (go n.stored); word = n.word; stack = n.stack; chain = n.chain }
    where
      go : (u.frames ≡ v.frames) ⊎ (u.frames ≡ storing m.pc v.frames) → on_top g u.frames ≡ storing m.pc v.frames
      go (inl x) = (λ i. on_top (q i) (x i)) ∙ at_top p v.frames ∙ ap (λ o. storing o v.frames) (sym e)
      go (inr x) = (λ i. on_top (q i) (x i)) ∙ ap (λ o. on_top (set_pc p) (storing o v.frames)) e ∙ top-twice p v.frames ∙ ap (λ o. storing o v.frames) (sym e)

  near-put : (u : View) (r x : ℕ) → m.register ≡ some r → Near m v u → Near m v (put_v r x u)
  near-put u r x e n =
      record {
        stored = n.stored;
        word = x;
        stack = go n.stored ∙ ap (into v.frames r x) n.stack ∙ ap (λ o. into v.frames r x (writing o v.frames n.word v.stack)) e
            ∙ put-twice v.frames r x n.word v.stack ∙ ap (λ o. writing o v.frames x v.stack) (sym e);
        chain = n.chain;
      }
    where
      go : (u.frames ≡ v.frames) ⊎ (u.frames ≡ storing m.pc v.frames) → put_at u.frames r x u.stack ≡ into v.frames r x u.stack
      go (inl q) = ap (λ fs. put_at fs r x u.stack) q ∙ put-storing none v.frames r x u.stack
      go (inr q) = ap (λ fs. put_at fs r x u.stack) q ∙ put-storing m.pc v.frames r x u.stack

  walk : {b : Mode} {u z : View} → Near m v u → Worked (some m) b u z → Left m v z
  walk {u = u} n done = record {
    own = u.frames;
    stored = n.stored;
    over = [];
    frames = refl;
    word = n.word;
    words = [];
    stack = n.stack ∙ sym (append-nil (writing m.register v.frames n.word v.stack));
    calls = bare;
    chain = n.chain;
  }
  walk n (quiet k q t) = walk (record { stored = n.stored; word = n.word; stack = n.stack; chain = n.chain }) t
  walk {u = u} n (tops g e s t) = walk (near-top u g s n) t
  walk {u = u} n (puts r x a t) = walk (near-put u r x a n) t
  walk {u = u} n (pushes f xs a p q) = record {
    own = u.frames;
    stored = n.stored;
    over = f ∷ [];
    frames = refl;
    word = n.word;
    words = xs;
    stack = ap (λ (l : List ℕ). l ++ xs) n.stack;
    calls = one a f xs (q ∙ ap length n.stack ∙ length-writing m.register v.frames n.word v.stack);
    chain = n.chain;
  }
  walk n (pops f fs free p q t) = no-limit free
  walk n (fails f fs a chain k y p q r e t) = no-limit y.1

-- ---- calls

seen : {m : May} (w z : World) → Left m (view w) (view z) → Touched m (view_of w) (view_of z)
seen w z t = record { own = t.own; stored = t.stored; over = t.over; frames = t.frames; word = t.word; words = t.words; stack = t.stack; calls = t.calls; chain = t.chain }

-- nobody is entered, and nobody is suspended
abbrev Still : World → World → Type 0
Still w z = (c : ℕ) → (is_running (core_at w c).state ≡ false → is_running (core_at z c).state ≡ true → ⊥) × (is_running (core_at w c).state ≡ true → is_suspended (core_at z c).state ≡ true → ⊥)

shaped : {m : May} {w z : World} {o : Op} → sound w ≡ true → Shape w o z → may_touch o ≡ some m → Still w z → Left m (view w) (view z)
shaped {m} {w} {z} h (S.works s b q t) l i = walk m (view w) (near_none m (view w)) (subst (λ x. Worked x b (view w) (view z)) l t)
shaped {m} {w} {z} h (S.enters c d sent s t) l i = absurd ((i c).0 (ready-run (core_at w c).state t.ready) t.mine)
shaped {m} {w} {z} h (S.suspended p ok s dst x a chain e q t) l i = absurd ((i a.coro).1 (first_runs w h a chain t.inmost) (ap (λ k. is_suspended k.state) t.mine ∙ t.is-suspended))
shaped {m} {w} {z} h (S.returns v x f fs a chain e en g t u) l i = no-limit (sym l ∙ en.1)
shaped {m} {w} {z} h (S.stops s q t) l i = no-limit (sym l ∙ ap may_touch q)

touched : (w : World) (k : Call) (o : Op) (m : May) → model_op k ≡ some o → may_touch o ≡ some m → ((c : ℕ) → D.Enters steps c w k → ⊥) → ((c : ℕ) → D.Suspends steps c w k → ⊥) → Touched m (view_of w) (view_of (next w k))
touched w k o m e l i j =
    seen w (next w k) (go (next w k) (step_case w k) e (λ c. (
      (λ a b. i c (record { before = is-runs w c ∙ a; after = is-runs (next w k) c ∙ b })),
      (λ a b. j c (record { before = is-runs w c ∙ a; after = is-suspended-core (next w k) c ∙ b })),
    )))
  where
    go : {k : Call} (z : World) → StepCase w k z → model_op k ≡ some o → Still w z → Left m (view w) (view z)
    go z (anew s x) e i = let q : ◌≡◌ {A = ℕ} 0 1 = cc in absurd (omega arith)
    go z (same k x) e i = walk m (view w) {b = m-plain} (near_none m (view w)) done
    go z (does p h) e i = shaped h (shape w p.op) (ap may_touch (some-op e) ∙ l) i

-- ---- where they are accepted: function call, host call, put word

called-tested : (w : World) (pc f : ℕ) (cont : Cont) → let o = tested w (Op.FunctionCall pc f cont) in number_of o.answer ≡ 0 → Called f cont (at pc w.frames) (view_of w) (view_of o.world)
unfolding tested call on_frame function_call push_frame pick
called-tested w pc f cont =
    go (sound w) (is_nil w.frames) (is_function w.setup f && cont_allowed w cont) (leb w.setup.limits.depth (length u.frames) || ltb w.setup.limits.stack (length w.stack + (func w.setup f).regs))
  where
    u : World
    u = store_pc pc w

    left : World
    left = with_frames (frame f (length w.stack) nil cont ∷ u.frames) (with_stack (w.stack ++ replicate (func w.setup f).regs 0) u)

    go : (a b c d : Bool) → let o = pick a (told (pick b (refused w Fault.NoFrame) (pick (not c) (refused w Fault.BadOperand) (and_then (pick d (refuse u Fault.StackOverflow) (after left (Ok (length w.stack)))) (pushed_or w))))) (told (refused w Fault.Unsound)) in
        number_of o.answer ≡ 0 → Called f cont (at pc w.frames) (view_of w) (view_of o.world)
    go true false true false n = record { frames = ap (λ (fs : List Frame). frame f (length w.stack) nil cont ∷ fs) (at_top pc w.frames); stack = refl }
    go true false true true n = absurd (omega (arith, n))
    go true false false d n = absurd (omega (arith, n))
    go true true c d n = absurd (omega (arith, n))
    go false b c d n = absurd (omega (arith, n))

host-tested : (w : World) (f : ℕ) → let o = tested w (Op.HostCall f) in number_of o.answer ≡ 0 → Called f Cont.Entry [] (view_of w) (view_of o.world)
unfolding tested call on_host host_call push_frame pick
host-tested w f = go (sound w) (is_nil w.frames) refl (is_function w.setup f) (leb w.setup.limits.depth (length w.frames) || ltb w.setup.limits.stack (length w.stack + (func w.setup f).regs))
  where
    left : World
    left = with_frames (frame f (length w.stack) nil Cont.Entry ∷ w.frames) (with_stack (w.stack ++ replicate (func w.setup f).regs 0) w)

    none-stands : (fs : List Frame) → is_nil fs ≡ true → fs ≡ []
    none-stands [] h = refl
    none-stands (g ∷ fs) h = no_both h refl

    go : (a b : Bool) → is_nil w.frames ≡ b → (c d : Bool)
        → let o = pick a (told (pick (not b) (refused w Fault.Busy) (pick (not c) (refused w Fault.BadOperand) (and_then (pick d (refuse w Fault.StackOverflow) (after left (Ok (length w.stack)))) (pushed_or w))))) (told (refused w Fault.Unsound)) in
        number_of o.answer ≡ 0 → Called f Cont.Entry [] (view_of w) (view_of o.world)
    go true true e true false n = record { frames = ap (λ (fs : List Frame). frame f (length w.stack) nil Cont.Entry ∷ fs) (none-stands w.frames e); stack = refl }
    go true true e true true n = absurd (omega (arith, n))
    go true true e false d n = absurd (omega (arith, n))
    go true false e c d n = absurd (omega (arith, n))
    go false b e c d n = absurd (omega (arith, n))

put-tested : (w : World) (r x : ℕ) → number_of (tested w (Op.PutWord r x)).answer ≡ 0 → (tested w (Op.PutWord r x)).world.stack ≡ into w.frames r x w.stack
unfolding tested call on_frame put_word pick
put-tested w r x = go (sound w) (is_nil w.frames) (all_in (r ∷ []) w)
  where
    go : (a b c : Bool) → let o = pick a (told (pick b (refused w Fault.NoFrame) (pick (not c) (refused w Fault.BadOperand) (put_word r x w)))) (told (refused w Fault.Unsound)) in
        number_of o.answer ≡ 0 → o.world.stack ≡ into w.frames r x w.stack
    go true false true n = put-storing none w.frames r x w.stack
    go true true c n = absurd (omega (arith, n))
    go true false false n = absurd (omega (arith, n))
    go false b c n = absurd (omega (arith, n))

-- ---- a finish of a frame that is no body

on-ward : (fs : List Frame) → on_top step_pc fs ≡ onward fs
on-ward [] = refl
on-ward (f ∷ fs) = refl

module _ (kind : ResultKind) (x : ℕ) (f : Frame) (fs : List Frame) (w : World) where
  -- f, whose continuation is c, is gone
  record Gone (c : Cont) (z : World) : Type 0 where
    frames : z.frames ≡ go_on c fs
    word : ℕ
    stack : z.stack ≡ writing (target c) fs word (take f.base w.stack)
    chain : z.chain ≡ w.chain

  words : List ℕ
  words = take f.base w.stack

  wrote : (dst : ℕ) (r : RustOption ℕ) → (y : ℕ) × ((write_result dst r (pop_to f fs w)).stack ≡ into fs dst y words)
  unfolding words
  wrote dst None = (standing (some dst) fs words, stands (some dst) fs words)
  wrote dst (Some y) = (y, put-storing none fs dst y words)

  wrote-frames : (dst : ℕ) (r : RustOption ℕ) → (write_result dst r (pop_to f fs w)).frames ≡ fs
  wrote-frames dst None = refl
  wrote-frames dst (Some y) = refl

  wrote-chain : (dst : ℕ) (r : RustOption ℕ) → (write_result dst r (pop_to f fs w)).chain ≡ w.chain
  wrote-chain dst None = refl
  wrote-chain dst (Some y) = refl

  converted : (dst : ℕ) (t : World) (m : Result ℕ Fault) → Same (pop_to f fs w) t → ((e : Fault) → m ≡ Err e → eqb (Faults.number_of e) 0 ≡ false) → number_of (and_then (write_made dst t m) resume_in).answer ≡ 0 → Gone (Cont.Dyn dst) (and_then (write_made dst t m) resume_in).world
  unfolding pick words
  converted dst t (Ok y) g r n = record { frames = ap (on_top step_pc) g.frames ∙ on-ward fs; word = y; stack = (λ i. put_at (g.frames i) dst y (g.stack i)) ∙ put-storing none fs dst y words; chain = g.chain }
  converted dst t (Err e) g r n = no_both (eq-eqb (Faults.number_of e) 0 n) (r e refl)

  finished_as : (c : Cont) → is_body c ≡ false → number_of (finish_as c f fs kind x w).answer ≡ 0 → Gone c (finish_as c f fs kind x w).world
  unfolding apply_cont pick words
  finished_as Cont.Entry b n = record { frames = refl; word = 0; stack = refl; chain = refl }
  finished_as (Cont.Write dst) b n =
      let r = result_of kind x in
      record { frames = ap (on_top step_pc) (wrote-frames dst r) ∙ on-ward fs; word = (wrote dst r).0; stack = (wrote dst r).1; chain = wrote-chain dst r }
  finished_as (Cont.Dyn dst) b n = let o = to_dyn kind x (pop_to f fs w) in converted dst o.world o.answer (dyn-same kind x (pop_to f fs w))
      (λ e q. refused-at is_zero refl refl refl (refused-dyn is_zero refl refl refl kind x (pop_to f fs w)) q) n
  finished_as (Cont.Value dst) b n = record { frames = on-ward fs; word = or_nil (result_of kind x); stack = put-storing none fs dst (or_nil (result_of kind x)) words; chain = refl }
  finished_as Cont.Discard b n = record { frames = on-ward fs; word = 0; stack = refl; chain = refl }
  finished_as Cont.Coro b n = no_both refl b

  finished-tested : w.frames ≡ f ∷ fs → is_body f.cont ≡ false → let o = tested w (Op.Finish kind x) in number_of o.answer ≡ 0 → Finished f fs (view_of w) (view_of o.world)
  unfolding tested call finish pick words
  finished-tested p b = go (sound w)
    where
      on : number_of (finish_on w.frames kind x w).answer ≡ 0 → Gone f.cont (finish_on w.frames kind x w).world
      on = subst (λ gs. number_of (finish_on gs kind x w).answer ≡ 0 → Gone f.cont (finish_on gs kind x w).world) (sym p) (finished_as f.cont b)

      go : (a : Bool) → let o = pick a (told (finish kind x w)) (told (refused w Fault.Unsound)) in number_of o.answer ≡ 0 → Finished f fs (view_of w) (view_of o.world)
      go true n = let t = on n in record { frames = t.frames; word = t.word; stack = t.stack; chain = t.chain }
      go false n = absurd (omega (arith, n))

-- by a step: what holds of every call that is answered 0
pub stepped : (P : World → World → Type 0) (o : Op) → ((w : World) → number_of (tested w o).answer ≡ 0 → P w (tested w o).world) → (w : World) (k : Call) → model_op k ≡ some o → number_of (step w k).answer ≡ 0 → P w (step w k).world
unfolding step
stepped P o f w (SetUp s) e n = let z : ◌≡◌ {A = ℕ} 0 1 = cc in absurd (omega arith)
stepped P o f w (Do p) e n = subst (λ q. number_of (tested w q).answer ≡ 0 → P w (tested w q).world) (sym (some-op e)) (f w) n

-- WHAT IS LEFT ALONE
put-said : Said Touches (λ e v. v.put) steps
put-said = λ w k r x. stepped (λ w z. z.stack ≡ into w.frames r x w.stack) (Op.PutWord r x) (λ w. put-tested w r x) w k

pub touches : Touches steps
touches =
    record {
      touched = touched;
      finished = λ w k kind x f fs q p b n.
          stepped (λ w z. w.frames ≡ f ∷ fs → Finished f fs (view_of w) (view_of z)) (Op.Finish kind x) (λ w n p. finished-tested kind x f fs w p b n) w k q n p;
      called = λ w k pc f cont. stepped (λ w z. Called f cont (at pc w.frames) (view_of w) (view_of z)) (Op.FunctionCall pc f cont) (λ w. called-tested w pc f cont) w k;
      host_called = λ w k f. stepped (λ w z. Called f Cont.Entry [] (view_of w) (view_of z)) (Op.HostCall f) (λ w. host-tested w f) w k;
      put = put-said;
    }
