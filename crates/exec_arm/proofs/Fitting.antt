-- What the arms of an instruction ask, from its gate: a sound world, registers of the top frame, a pc of 32 bits. Assumes nothing.
use mathlib.Core.Path.{◌≡◌, refl, sym, ap, ◌∙◌, subst}
use mathlib.Core.Bool.{Bool, true, false, ◌&&◌}
use mathlib.Core.List.{List, [], ◌∷◌}
use Prim.Native.Nat.{ℕ, ◌+◌, ◌-◌, ◌*◌, ◌^◌, ◌≤◌, ◌<◌}
use native.Mathlib.Omega.{arith}
use lib.ListN.{length, get_or}
use borrow.Author.Tests.{ltb-true, leb-true}
use Rattle.model.specs.Lists.{is_nil}
use Rattle.model.specs.Program.{is_function}
use Rattle.model.specs.World.{World, After}
use Rattle.model.specs.Frames.{top_base}
use Rattle.model.specs.Gate.{in_frame, all_in, window_in}
use Rattle.model.specs.Calls.{Instruction, table}
use Rattle.model.specs.declared.call.Op.{Op}
use Rattle.model.specs.declared.exec.Step.{Step}
use Rattle.model.specs.declared.machine.Frame.{Frame}
use Rattle.model.specs.declared.machine.Fuel.{Fuel}
use Rattle.claims_sound.proofs.Tests.{no_true, and_left, and_right, each_at}
use Rattle.memory_tables.specs.Layout.{base_in}
use Rattle.memory_tables.specs.Parts.{Frames}
use Rattle.memory_tables.specs.Does.{RegFits}
use Rattle.memory_tables.proofs.Doing.{reg-fits}
use Rattle.memory_tables.proofs.Setups.{functions-in}
use Rattle.memory_world.specs.Memory.{Lent, Beside, Rep, on_chain, on_setup}
use Rattle.memory_world.specs.Lendings.{lent, six_setup, top_making, plain}
use Rattle.memory_world.specs.Contract.{Ok, Does, only}
use Rattle.memory_world.specs.declared.machine.Machine.{Machine}
use Rattle.memory_world.specs.declared.machine.Sizes.{Sizes}
use Rattle.machine_state.proofs.Frames.{top-base}
use Rattle.exec_make.specs.New.{NewFits}
use Rattle.exec_make.specs.Indirect.{IndirectFits}
use Rattle.exec_make.specs.Spawn.{SpawnFits}
use Rattle.exec_enter.specs.Resume.{ResumeFits}
use Rattle.exec_close.specs.Close.{CloseFits}
use Rattle.exec_iter.specs.Iter.{NextFits}
use Rattle.exec_ask.specs.Ask.{AskFits, CurrentFits}
use Rattle.exec_yield.specs.Yielding.{YieldFits, YieldKvFits}
use Rattle.exec_arm.specs.Arm.{Past}
use Rattle.exec_arm.proofs.Tags.{arm_of}

some-frame : (fs : List Frame) → is_nil fs ≡ false → 1 ≤ length fs
some-frame [] e = no_true e
some-frame (f ∷ fs) e = omega arith

-- all that the words stand in, for a call that is lent some of them
abbrev pub around : {l : Sizes} {w : World} {M : Lent} {m : Machine} {f : Fuel} → Rep l w M m f → Beside
around {l} {w} {M} {m} {f} rep = record { words = M; fuel = f }

-- an arm's outcome, by the operation
pub as-arm : {l : Sizes} {M : Lent} {m : Machine} {f : Fuel} {w : World} {o x : Op} {a : Step} {pc : ℕ} {operands : World → Bool} {arm : World → After Step}
    → table o ≡ Instruction pc operands arm → o ≡ x → Does l (arm_of (table x) w) M m f a → Does l (arm w) M m f a
as-arm {l} {M} {m} {f} {w} {o} {x} {a} q e d = subst (λ g. Does l (g w) M m f a) (ap arm_of (sym (ap table e) ∙ q)) d

module _ {l : Sizes} {s f c o r q u : List ℕ} {m : Machine} {fuel : Fuel} {op : Op} (p : Past l (six_setup s f c o r q u plain) m fuel op) where
  abbrev w : World
  w = p.ok.world

  abbrev b : Beside
  b = p.ok.beside

  -- ---- the worlds that the arms are lent

  six-ok : Ok l (lent s f c o r q) (only m)
  six-ok = record { world = w; beside = record { words = on_setup u b.words; fuel = fuel }; rep = p.ok.rep; sound = p.ok.sound; room = p.ok.room }

  making-ok : Ok l (top_making s f o r q u plain) (only m)
  making-ok = record { world = w; beside = record { words = on_chain c b.words; fuel = fuel }; rep = p.ok.rep; sound = p.ok.sound; room = p.ok.room }

  -- ---- the operands

  reg_in : (k : ℕ) → in_frame w k ≡ true → RegFits s f m.height m.depth k
  reg_in k e = reg-fits w.stack w.frames s f m.height m.depth k p.ok.rep.stack p.ok.rep.frames (some-frame w.frames p.some) (ltb-true _ _ e)

  regs-in : (ks : List ℕ) (i : ℕ) → all_in ks w ≡ true → i < length ks → RegFits s f m.height m.depth (get_or ks i 0)
  regs-in ks i e h = reg_in (get_or ks i 0) (each_at (in_frame w) ks i 0 e h)

  base-is : (fs : List Frame) → w.frames ≡ fs → is_nil fs ≡ false → base_in f (m.depth - 1) ≡ top_base w.frames
  base-is [] e h = no_true h
  base-is (x ∷ fs) e h = top-base x fs f m.depth (subst (λ z. Frames z f m.depth) e p.ok.rep.frames) ∙ sym (ap top_base e)

  window-fits : (dst argc : ℕ) → window_in w dst argc ≡ true → base_in f (m.depth - 1) + dst + 1 + argc ≤ m.height
  window-fits dst argc e =
      let k = leb-true (top_base w.frames + dst + 1 + argc) (length w.stack) e in
      let z = base-is w.frames refl p.some in
      let n = p.ok.rep.stack.count in
      omega arith

  function-in : (g : ℕ) → is_function w.setup g ≡ true → g < get_or u 13 0
  function-in g e = subst (λ n. g < n) (sym (functions-in w.setup u p.ok.rep.setup)) (ltb-true _ _ e)

  -- ---- each arm

  resuming : (pc dst k src : ℕ) → all_in (dst ∷ k ∷ src ∷ []) w ≡ true → pc < 2 ^ 32 → ResumeFits l s f c o r q m pc k src
  resuming pc dst k src t n =
      let ks = dst ∷ k ∷ src ∷ [] in
      record { ok = six-ok; narrow = n; coro = regs-in ks 1 t (omega arith); sent = regs-in ks 2 t (omega arith) }

  pub resume-fits : {pc dst k src : ℕ} → op ≡ Op.Resume pc dst k src → ResumeFits l s f c o r q m pc k src
  resume-fits {pc} {dst} {k} {src} e = resuming pc dst k src (p.passed _ _ _ (ap table e)) (p.narrow _ _ _ (ap table e))

  pub throw-fits : {pc dst k src : ℕ} → op ≡ Op.ResumeThrow pc dst k src → ResumeFits l s f c o r q m pc k src
  throw-fits {pc} {dst} {k} {src} e = resuming pc dst k src (p.passed _ _ _ (ap table e)) (p.narrow _ _ _ (ap table e))

  pub close-fits : {pc dst k src : ℕ} → op ≡ Op.CoroClose pc dst k src → CloseFits l s f c o r q m pc dst k src
  close-fits {pc} {dst} {k} {src} e =
      let ks = dst ∷ k ∷ src ∷ [] in
      record {
        ok = six-ok;
        narrow = p.narrow _ _ _ (ap table e);
        result = regs-in ks 0 (p.passed _ _ _ (ap table e)) (omega arith);
        coro = regs-in ks 1 (p.passed _ _ _ (ap table e)) (omega arith);
        signal = regs-in ks 2 (p.passed _ _ _ (ap table e)) (omega arith);
      }

  pub next_fits : {pc has iter val src : ℕ} → op ≡ Op.IterNext pc has iter val src → NextFits l s f c o r q m pc has iter src
  next_fits {pc} {has} {iter} {val} {src} e =
      let ks = has ∷ iter ∷ val ∷ src ∷ [] in
      record {
        ok = six-ok;
        narrow = p.narrow _ _ _ (ap table e);
        flag = regs-in ks 0 (p.passed _ _ _ (ap table e)) (omega arith);
        iterator = regs-in ks 1 (p.passed _ _ _ (ap table e)) (omega arith);
        source = regs-in ks 3 (p.passed _ _ _ (ap table e)) (omega arith);
      }

  yielding : (pc dst src : ℕ) (ks : List ℕ) → all_in (dst ∷ src ∷ ks) w ≡ true → pc < 2 ^ 32 → YieldFits l s f c o r q m pc src
  yielding pc dst src ks t n = record { ok = six-ok; narrow = n; sent = regs-in (dst ∷ src ∷ ks) 1 t (omega arith) }

  pub yield-fits : {pc dst src : ℕ} → op ≡ Op.Yield pc dst src → YieldFits l s f c o r q m pc src
  yield-fits {pc} {dst} {src} e = yielding pc dst src [] (p.passed _ _ _ (ap table e)) (p.narrow _ _ _ (ap table e))

  pub await-fits : {pc dst src : ℕ} → op ≡ Op.Await pc dst src → YieldFits l s f c o r q m pc src
  await-fits {pc} {dst} {src} e = yielding pc dst src [] (p.passed _ _ _ (ap table e)) (p.narrow _ _ _ (ap table e))

  pub kv-fits : {pc dst src key : ℕ} → op ≡ Op.YieldKv pc dst src key → YieldKvFits l s f c o r q m pc src key
  kv-fits {pc} {dst} {src} {key} e =
      record { plain = yielding pc dst src (key ∷ []) (p.passed _ _ _ (ap table e)) (p.narrow _ _ _ (ap table e)); named = regs-in (dst ∷ src ∷ key ∷ []) 2 (p.passed _ _ _ (ap table e)) (omega arith) }

  pub new-fits : {pc dst g argc : ℕ} → op ≡ Op.CoroNew pc dst g argc → argc ≤ 255 → NewFits l s f o r q u m dst g argc
  new-fits {pc} {dst} {g} {argc} e few =
      let t = p.passed _ _ _ (ap table e) in
      let both = and_left (in_frame w dst && window_in w dst argc) (is_function w.setup g) t in
      record {
        ok = making-ok;
        function = function-in g (and_right (in_frame w dst && window_in w dst argc) (is_function w.setup g) t);
        few = few;
        reg = reg_in dst (and_left (in_frame w dst) (window_in w dst argc) both);
        window = window-fits dst argc (and_right (in_frame w dst) (window_in w dst argc) both);
      }

  calling : (dst callee argc : ℕ) → (all_in (dst ∷ callee ∷ []) w && window_in w dst argc) ≡ true → argc ≤ 255 → IndirectFits l s f o r q u m dst callee argc
  calling dst callee argc t few =
      let ks = dst ∷ callee ∷ [] in
      let in_both = and_left (all_in ks w) (window_in w dst argc) t in
      record {
        ok = making-ok;
        few = few;
        reg = regs-in ks 0 in_both (omega arith);
        holder = regs-in ks 1 in_both (omega arith);
        window = window-fits dst argc (and_right (all_in ks w) (window_in w dst argc) t);
      }

  pub indirect-fits : {pc dst callee argc : ℕ} → op ≡ Op.CoroNewIndirect pc dst callee argc → argc ≤ 255 → IndirectFits l s f o r q u m dst callee argc
  indirect-fits {pc} {dst} {callee} {argc} e few = calling dst callee argc (p.passed _ _ _ (ap table e)) few

  pub spawn-fits : {pc dst callee argc : ℕ} → op ≡ Op.Spawn pc dst callee argc → argc ≤ 255 → SpawnFits l s f o r q u m pc dst callee argc
  spawn-fits {pc} {dst} {callee} {argc} e few = record { indirect = calling dst callee argc (p.passed _ _ _ (ap table e)) few; narrow = p.narrow _ _ _ (ap table e) }

  pub ask-fits : {pc dst k : ℕ} {arm : World → After Step} → table op ≡ Instruction pc (all_in (dst ∷ k ∷ [])) arm → AskFits s f o m dst k
  ask-fits {pc} {dst} {k} e =
      let ks = dst ∷ k ∷ [] in let t = p.passed _ _ _ e in
      record { table = p.ok.rep.slots.within; result = regs-in ks 0 t (omega arith); coro = regs-in ks 1 t (omega arith) }

  pub current-fits : {pc dst : ℕ} → op ≡ Op.CoroCurrent pc dst → CurrentFits s f c m dst
  current-fits {pc} {dst} e = record { running = p.ok.rep.chain.within; result = regs-in (dst ∷ []) 0 (p.passed _ _ _ (ap table e)) (omega arith) }
