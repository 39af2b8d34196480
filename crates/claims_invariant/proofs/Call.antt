-- Every call keeps a sound world sound, and answers 11 only to an unwind with no such fault; ready, bank and finalizing agree after it.
use mathlib.Core.Path.{◌≡◌, refl, ap, ◌∙◌}
use mathlib.Core.Bool.{Bool, true, false, not, ◌&&◌}
use mathlib.Core.List.{List, [], ◌∷◌}
use Prim.Native.Nat.{ℕ, ◌^◌}
use lib.Dec.{eqb, ltb}
use borrow.Author.Tests.{not-false}
use Rattle.heap.specs.Fault as Faults
use Rattle.heap.specs.declared.fault.Fault.{Fault}
use Rattle.model.specs.Lists.{is_nil, each_first, each-rest}
use Rattle.model.specs.Program.{is_function, Setup, setup_ok}
use Rattle.model.specs.World.{World, After, fresh}
use Rattle.model.specs.Gate.{in_frame, all_in, window_in, answer_of, stepped, charged, instruction, on_frame, on_host}
use Rattle.model.specs.Cleanup.{spawn_task, charge}
use Rattle.model.specs.Machine.{raisable}
use Rattle.model.specs.Added.{answer_made, put_word, take_outcome, stop_run}
use Rattle.model.specs.Sound.{sound}
use Rattle.model.specs.Call.{is_pc, is_reg, are_regs, is_argc, is_word, opt_pc, typed, Operation, Call, SetUp, Do}
use Rattle.model.specs.Calls.{Row, Instruction, OnFrame, OnHost, Unwinds, Grants, Looks, Other, table}
use Rattle.model.specs.Step.{Out, told, doing, call, tested, step, run}
use Rattle.model.specs.declared.machine.Charge.{Charge}
use Rattle.model.specs.declared.exec.Step.{Step}
use Rattle.std.specs.Prelude.{Option, Some}
use Rattle.model.specs.declared.call.Op.{Op}
use Rattle.model.specs.declared.call.Answer.{Answer}
use Rattle.claims_invariant.specs.Kept.{raises}
use Rattle.claims_invariant.specs.Reachable.{Agree}
use Rattle.claims_sound.proofs.Tests.{no_true, and_left, and_right, picked}
use Rattle.claims_sound.proofs.Sound.{Sound}
use Rattle.claims_sound.proofs.Charge.{Charging, charge-good}
use Rattle.claims_invariant.proofs.Unwind.{Fine, finish-good, unwind-good}
use Rattle.claims_invariant.proofs.Exec.{Stepping, new-good, new-indirect-good, spawn-good, yield-good, yield_kv-good, await-good, resume-good, throw-good, close-good, Asks, asks-good, asks-agree, status-asks, current-asks, key-asks, result-asks, iter-good}
use Rattle.claims_invariant.proofs.Added.{host-call-good, host-entry-good, function-call-good, put-word-good, make-iterator-good, take-outcome-good, hand-over-good, grant-good, stop-run-good, spawn-task-good}
use Rattle.claims_invariant.proofs.Agree.{Ag, task-agree, abort-agree, charge-agree}
use Rattle.claims_invariant.proofs.AgreeMachine.{then-ag, finish-agree, unwind-agree}
use Rattle.claims_invariant.proofs.AgreeExec.{answer-made, new-agree, new-indirect-agree, spawn-agree, yield-agree, yield_kv-agree, await-agree, resume-agree, throw-agree, close-agree, iter-agree}
use Rattle.claims_invariant.proofs.AgreeAdded.{host-call-agree, host-entry-agree, function-call-agree, make-iterator-agree, hand-over-agree, grant-agree}
use Rattle.claims_sound.proofs.Good.{Good, good, then-good, step_fine, answer_fine, Calm, InTop, calm-top}

-- ---- the gate

step-fine : (n : ℕ) (s : Step) → step_fine s ≡ true → answer_fine (answer_of n s) ≡ true
step-fine n Step.Next e = refl
step-fine n Step.Frame e = refl
step-fine n (Step.Fault f) e = picked (λ (a : Answer). answer_fine a ≡ true) (eqb (Faults.number_of f) 10) (λ _. refl) (λ _. e)
step-fine n (Step.Unwind f) e = e

charged-good : {ex : Bool} (pc : ℕ) (arm : World → After Step) (w u : World) (c : Charge) → Sound ex u → (Calm w u → Good ex Stepping (arm u)) → Charging (Some pc) w u c → Good ex Fine (charged arm u c)
charged-good pc arm w u (Charge.Done n) h f q = then-good (stepped n) (f q) (λ t s k e. good k (step-fine n s e))
charged-good pc arm w u Charge.Spent h f q = good h refl
charged-good pc arm w u (Charge.Close n) h f q = good h refl

instruction-good : {ex : Bool} (pc : ℕ) (operands : Bool) (arm : World → After Step) (w : World) → ltb pc (2 ^ 32) ≡ true → Sound ex w
    → (operands ≡ true → is_nil w.frames ≡ false → (u : World) → Sound ex u → Calm w u → Good ex Stepping (arm u)) → Good ex Fine (instruction pc operands arm w)
unfolding instruction
instruction-good {ex} pc operands arm w p h f =
    picked (Good ex Fine) (is_nil w.frames) (λ _. good h refl)
    (λ some.
    picked (Good ex Fine) (not operands) (λ _. good h refl)
    (λ ok. then-good (charged arm) (charge-good (Some pc) w p h) (λ u c k q. charged-good pc arm w u c k (λ l. f (not-false operands ok) some u k l) q)))

-- a register that passed the gate lies in the top frame after the charge
passed : (w u : World) (r : ℕ) → is_nil w.frames ≡ false → in_frame w r ≡ true → Calm w u → InTop u r
passed w u r s e l = calm-top r l (record { some = s; inside = e })

-- ---- what a call o owes, by the row that it has: that it keeps soundness, and that ready, bank and finalizing still agree

module _ (ex : Bool) where
  abbrev Acts : ℕ → (World → Bool) → (World → After Step) → Type 0
  Acts pc operands arm =
      (ltb pc (2 ^ 32) ≡ true) × (((w u : World) → operands w ≡ true → is_nil w.frames ≡ false → Sound ex u → Calm w u → Good ex Stepping (arm u)) × ((u : World) → Agree u → Ag (arm u)))

  abbrev Owes : Op → Row → Type 0
  Owes o (Instruction pc operands arm) = Acts pc operands arm
  Owes o (OnFrame operands body) = ((w : World) → is_nil w.frames ≡ false → operands w ≡ true → Sound ex w → Good ex Fine (body w)) × ((u : World) → Agree u → Ag (body u))
  Owes o (OnHost operands body) =
      ((w : World) → is_nil w.frames ≡ true → operands w ≡ true → Sound ex w → Good ex Fine (body w)) × ((u : World) → Agree u → is_nil u.frames ≡ true → Ag (body u))
  Owes o (Unwinds f pc) = (opt_pc pc ≡ true) × (o ≡ Op.Unwind f pc)
  Owes o (Grants n) = Unit {0}
  Owes o Looks = Unit {0}
  Owes o (Other body) = ((w : World) → Sound ex w → Good ex Fine (body w)) × ((u : World) → Agree u → Ag (body u))

  -- an instruction at pc whose first register is d: both are of their types, and d has passed the gate
  module _ (pc d : ℕ) (rs : List ℕ) (e : (is_pc pc && are_regs (d ∷ rs)) ≡ true) where
    at-pc : is_pc pc ≡ true
    at-pc = and_left (is_pc pc) _ e

    first-in : (w u : World) → all_in (d ∷ rs) w ≡ true → is_nil w.frames ≡ false → Calm w u → InTop u d
    first-in w u ok some l = passed w u d some (each_first (in_frame w) d rs ok) l

    acts : {arm : World → After Step} → ((u : World) → Sound ex u → is_pc pc ≡ true → is_reg d ≡ true → InTop u d → Good ex Stepping (arm u)) → ((u : World) → Agree u → Ag (arm u)) →
        Acts pc (all_in (d ∷ rs)) arm
    acts keeps agrees = (at-pc, (λ w u ok some k l. keeps u k at-pc (each_first is_reg d rs (and_right (is_pc pc) _ e)) (first-in w u ok some l), agrees))

    asks : {arm : World → After Step} → ((u : World) → Asks d u (arm u)) → Acts pc (all_in (d ∷ rs)) arm
    asks does = acts (λ u k _ _ _. asks-good (does u) k) (λ u k. asks-agree (does u) k)

  -- THE TABLE
  owes : (o : Op) → typed o ≡ true → Owes o (table o)
  unfolding typed put_word take_outcome stop_run
  owes (Op.CoroNew pc dst f argc) e = (
    and_left (is_pc pc) (is_reg dst) (and_left (is_pc pc && is_reg dst) (is_pc f) (and_left (is_pc pc && is_reg dst && is_pc f) (is_argc argc) e)),
    (λ w u ok some k l. new-good dst f argc u k (ap (λ s. is_function s f) l.setup ∙ and_right (in_frame w dst && window_in w dst argc) _ ok), λ u k. new-agree u k dst f argc),
  )
  owes (Op.CoroNewIndirect pc dst callee argc) e =
      let t = and_left (is_pc pc && are_regs (dst ∷ callee ∷ [])) (is_argc argc) e in
      (at-pc pc dst (callee ∷ []) t, (λ w u ok some k l. new-indirect-good dst callee argc u k, λ u k. new-indirect-agree u k dst callee argc))
  owes (Op.Spawn pc dst callee argc) e =
      let t = and_left (is_pc pc && are_regs (dst ∷ callee ∷ [])) (is_argc argc) e in
      let p = at-pc pc dst (callee ∷ []) t in (
        p,
        (
          λ w u ok some k l. spawn-good pc dst callee argc u k p (first-in pc dst (callee ∷ []) t w u (and_left (all_in (dst ∷ callee ∷ []) w) _ ok) some l),
          λ u k. spawn-agree u k pc dst callee argc,
        ),
      )
  owes (Op.Yield pc dst src) e = acts pc dst (src ∷ []) e (λ u k p r t. yield-good pc dst u k p r t src) (λ u k. yield-agree u k pc dst src)
  owes (Op.YieldKv pc dst src key) e = acts pc dst (src ∷ key ∷ []) e (λ u k p r t. yield_kv-good pc dst u k p r t src key) (λ u k. yield_kv-agree u k pc dst src key)
  owes (Op.Await pc dst src) e = acts pc dst (src ∷ []) e (λ u k p r t. await-good pc dst u k p r t src) (λ u k. await-agree u k pc dst src)
  owes (Op.Resume pc dst c src) e = acts pc dst (c ∷ src ∷ []) e (λ u k p _ t. resume-good pc dst u k p t c src) (λ u k. resume-agree u k pc dst c src)
  owes (Op.ResumeThrow pc dst c src) e = acts pc dst (c ∷ src ∷ []) e (λ u k p _ t. throw-good pc dst u k p t c src) (λ u k. throw-agree u k pc dst c src)
  owes (Op.CoroClose pc dst c src) e = acts pc dst (c ∷ src ∷ []) e (λ u k p _ t. close-good pc dst u k p t c src) (λ u k. close-agree u k pc dst c src)
  owes (Op.CoroStatus pc dst c) e = asks pc dst (c ∷ []) e (λ u. status-asks dst u c)
  owes (Op.CoroCurrent pc dst) e = (and_left (is_pc pc) (is_reg dst) e, (λ w u ok some k l. asks-good (current-asks dst u) k, λ u k. asks-agree (current-asks dst u) k))
  owes (Op.CoroKey pc dst c) e = asks pc dst (c ∷ []) e (λ u. key-asks dst u c)
  owes (Op.CoroResult pc dst c) e = asks pc dst (c ∷ []) e (λ u. result-asks dst u c)
  owes (Op.IterNext pc has iter val src) e =
      let p = at-pc pc has (iter ∷ val ∷ src ∷ []) e in (
        p,
        (
          λ w u ok some k l.
              iter-good pc has iter val src u k p (first-in pc has (iter ∷ val ∷ src ∷ []) e w u ok some l)
              (passed w u val some (each_first (in_frame w) val (src ∷ []) (each-rest (in_frame w) iter (val ∷ src ∷ []) (each-rest (in_frame w) has (iter ∷ val ∷ src ∷ []) ok))) l),
          λ u k. iter-agree u k pc has iter val src,
        ),
      )
  owes (Op.Finish kind v) e = (finish-good kind v, finish-agree kind v)
  owes (Op.Unwind f pc) e = (and_right (is_word (Faults.word_of f)) (opt_pc pc) e, refl)
  owes (Op.SpawnTask v) e = (spawn-task-good v, λ u k. then-ag (spawn_task v u) answer_made (task-agree v u k) answer-made)
  owes (Op.HostCall f) e = (host-call-good f, λ u k empty. host-call-agree u k f)
  owes (Op.HostEntry c v) e = (λ w empty ok h. host-entry-good c v w h, λ u k empty. host-entry-agree u k c v empty)
  owes (Op.FunctionCall pc f cont) e = (λ w some ok h. function-call-good pc f cont w (and_left (is_pc pc) (is_pc f) e) some ok h, λ u k. function-call-agree u k pc f cont)
  owes (Op.PutWord r v) e = (λ w some ok h. put-word-good r v w h, λ u k. k)
  owes (Op.MakeIterator v) e = (make-iterator-good v, λ u k. make-iterator-agree u k v)
  owes Op.TakeOutcome e = (take-outcome-good, λ u k. k)
  owes (Op.HandOver v) e = (hand-over-good v, λ u k. hand-over-agree u k v)
  owes (Op.Grant n) e = tt
  owes Op.StopRun e = (stop-run-good, abort-agree)
  owes Op.Look e = tt

-- ---- every call

pub record Keeps (ex : Bool) (r : Row) (x : Out) : Type 0 where
  pub sound : Sound ex x.world
  pub fine : raises r ≡ true → answer_fine x.answer ≡ true

by-good : {ex : Bool} (r : Row) (a : After Answer) → Good ex Fine a → Keeps ex r (told a)
by-good r a g = record { sound = g.sound; fine = λ _. g.fact }

row_keeps : (ex : Bool) (o : Op) (r : Row) (w : World) → Owes ex o r → Sound ex w → Keeps ex r (doing r w)
unfolding on_frame on_host
row_keeps ex o (Instruction pc operands arm) w (p, (arms, _)) h = by-good (Instruction pc operands arm) _ (instruction-good pc (operands w) arm w p h (λ ok some u k l. arms w u ok some k l))
row_keeps ex o (OnFrame operands body) w owed h =
    by-good (OnFrame operands body) _
    (picked (Good ex Fine) (is_nil w.frames) (λ _. good h refl) (λ some. picked (Good ex Fine) (not (operands w)) (λ _. good h refl) (λ ok. owed.0 w some (not-false (operands w) ok) h)))
row_keeps ex o (OnHost operands body) w owed h =
    by-good (OnHost operands body) _
    (picked (Good ex Fine) (not (is_nil w.frames)) (λ _. good h refl)
    (λ empty. picked (Good ex Fine) (not (operands w)) (λ _. good h refl) (λ ok. owed.0 w (not-false (is_nil w.frames) empty) (not-false (operands w) ok) h)))
row_keeps ex o (Unwinds f pc) w owed h = let g = unwind-good f pc w owed.0 h in record { sound = g.sound; fine = g.fact }
row_keeps ex o (Grants n) w owed h = by-good (Grants n) _ (grant-good n w h)
row_keeps ex o Looks w owed h = record { sound = h; fine = λ _. refl }
row_keeps ex o (Other body) w owed h = by-good (Other body) _ (owed.0 w h)

pub call-keeps : {ex : Bool} (o : Op) (w : World) → typed o ≡ true → Sound ex w → Keeps ex (table o) (call o w)
unfolding call
call-keeps {ex} o w e h = row_keeps ex o (table o) w (owes ex o e) h

-- ---- only an unwind can be given what it does not take

pub record Unwound (o : Op) : Type 0 where
  pub fault : Fault
  pub pc : Option ℕ
  pub is : o ≡ Op.Unwind fault pc
  pub bad : raisable fault ≡ false

row-unwound : (o : Op) (r : Row) → Owes false o r → raises r ≡ false → Unwound o
row-unwound o (Instruction pc operands arm) owed h = no_true h
row-unwound o (OnFrame operands body) owed h = no_true h
row-unwound o (OnHost operands body) owed h = no_true h
row-unwound o (Unwinds f pc) owed h = record { fault = f; pc = pc; is = owed.1; bad = h }
row-unwound o (Grants n) owed h = no_true h
row-unwound o Looks owed h = no_true h
row-unwound o (Other body) owed h = no_true h

pub unwound : (o : Op) → typed o ≡ true → raises (table o) ≡ false → Unwound o
unwound o e = row-unwound o (table o) (owes false o e)

-- ---- ready, bank and finalizing agree

module _ (w : World) (h : Agree w) where
  instruction-agree : (pc : ℕ) (operands : Bool) (arm : World → After Step) → ((u : World) → Agree u → Ag (arm u)) → Ag (instruction pc operands arm w)
  unfolding instruction
  instruction-agree pc operands arm f =
      picked Ag (is_nil w.frames) (λ _. h) (λ _. picked Ag (not operands) (λ _. h) (λ _. then-ag (charge (Some pc) w) (charged arm) (charge-agree (Some pc) w h) go))
    where
      go : (u : World) (c : Charge) → Agree u → Ag (charged arm u c)
      go u (Charge.Done n) k = f u k
      go u Charge.Spent k = k
      go u (Charge.Close n) k = k

row-agree : (o : Op) (r : Row) (w : World) → Owes false o r → Agree w → Agree (doing r w).world
unfolding on_frame on_host
row-agree o (Instruction pc operands arm) w owed h = instruction-agree w h pc (operands w) arm owed.1.1
row-agree o (OnFrame operands body) w owed h = picked Ag (is_nil w.frames) (λ _. h) (λ _. picked Ag (not (operands w)) (λ _. h) (λ _. owed.1 w h))
row-agree o (OnHost operands body) w owed h =
    picked Ag (not (is_nil w.frames)) (λ _. h) (λ empty. picked Ag (not (operands w)) (λ _. h) (λ _. owed.1 w h (not-false (is_nil w.frames) empty)))
row-agree o (Unwinds f pc) w owed h = unwind-agree f pc w h
row-agree o (Grants n) w owed h = grant-agree w h n
row-agree o Looks w owed h = h
row-agree o (Other body) w owed h = owed.1 w h

call-agree : (w : World) → Agree w → (o : Operation) → Agree (call o.op w).world
unfolding call
call-agree w h o = row-agree o.op (table o.op) w (owes false o.op o.within) h

fresh-agree : (s : Setup) → Agree (fresh s)
fresh-agree s = record { ready = refl; bank = refl; active = refl; hosts = refl }

pub step-agree : (w : World) (c : Call) → Agree w → Agree (step w c).world
unfolding step tested
step-agree w (SetUp s) h = picked (λ (x : After Answer). Agree x.world) (setup_ok s) (λ _. fresh-agree s) (λ _. h)
step-agree w (Do o) h = picked (λ (x : Out). Agree x.world) (sound w) (λ _. call-agree w h o) (λ _. h)

pub run_agree : (s : Setup) (cs : List Call) → Agree (run (fresh s) cs)
run_agree s cs = go (fresh s) cs (fresh-agree s)
  where
    go : (w : World) (cs : List Call) → Agree w → Agree (run w cs)
    go w [] h = h
    go w (c ∷ cs) h = go (step w c).world cs (step-agree w c h)
