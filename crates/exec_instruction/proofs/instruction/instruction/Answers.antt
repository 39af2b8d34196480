-- `instruction` meets the definition: its gate, its charge, its arm. Assumes nothing.
use mathlib.Core.Path.{◌≡◌, refl, sym, ◌∙◌}
use mathlib.Core.Bool.{Bool, true}
use Prim.Native.Nat.{ℕ, ◌≤◌}
use native.Mathlib.Omega.{arith}
use Rattle.model.specs.World.{World, After}
use Rattle.model.specs.Calls.{Instruction, table}
use Rattle.std.specs.Prelude.{Some}
use Rattle.model.specs.declared.exec.Step.{Step}
use Rattle.memory_world.specs.Memory.{Beside, Rep}
use Rattle.memory_world.specs.Lendings.{plain}
use Rattle.coro_clean.proofs.Charged.{charged-sound, narrow-pc}
use Rattle.exec_arm.proofs.Fitting.{around}
use Rattle.exec_instruction.specs.Instruction.{gating}
use Rattle.exec_instruction.proofs.Gated.{no_frames, has-frame, gate-told, answered, no-frame, bad-operand, spent, closed, done, charge-ok, arm-fits}
use Rattle.exec_instruction.proofs.instruction.instruction.Lts as lts
use Rattle.exec_instruction.proofs.instruction.instruction.Reads as reads
use Rattle.exec_instruction.proofs.instruction.instruction.Tie as tie
use Rattle.exec_instruction.proofs.instruction.instruction.Goals as goal

abbrev Start : Type 0
Start = lts.Start tie.the-claims reads.Pre reads.Post

abbrev Else-m-eq0 : Type 0
Else-m-eq0 = lts.Else1 tie.the-claims reads.Pre reads.Post

abbrev After-passes : Type 0
After-passes = lts.After-passes tie.the-claims reads.Pre reads.Post

abbrev Else-not-passes : Type 0
Else-not-passes = lts.Else2 tie.the-claims reads.Pre reads.Post

-- there is a frame; the operands pass as the instruction says
some : (c : Else-m-eq0) → 1 ≤ c.args.m.depth
some c = let h = c.if-m-eq0.false in omega arith

abbrev Stands : Start → World → Beside → Type 0
Stands c w b =
    let a = c.args in
    Rep a.sizes w (gating a.stack.now a.frames.now a.chain.now a.slots.now a.saved_stack.now a.saved_frames.now a.finalize.now a.setup.now plain b) a.m a.fuel

told : (c : After-passes) (w : World) (b : Beside) {pc : ℕ} {t : World → Bool} {arm : World → After Step} → table c.args.op ≡ Instruction pc t arm
    → Stands c.before.before.before.before.before.before.before.before.before.before.before.before.before.before w b → t w ≡ c.passes.result
told c w b q rep = gate-told rep (some c.before.before.before.before) q refl c.base_at-base.ensures c.passes.ensures

passed : (c : Else-not-passes) (w : World) (b : Beside) {pc : ℕ} {t : World → Bool} {arm : World → After Step} → table c.args.op ≡ Instruction pc t arm
    → Stands c.before.before.before.before.before.before.before.before.before.before.before.before.before.before.before w b → t w ≡ true
passed c w b q rep = told c.before w b q rep ∙ c.if-not-passes.false

pub returns-then-m-eq0 : goal.returns-then-m-eq0
returns-then-m-eq0 c = λ pc t arm q w b rep snd. no-frame _ _ _ _ w pc (t w) arm (no_frames w.frames _ _ rep.frames c.if-m-eq0.true) rep

pub overflow_sub-m : goal.overflow_sub-m
overflow_sub-m c = let h = some c.before.before in omega arith

pub base_at-base-requires : goal.base_at-base-requires
base_at-base-requires c = let h = some c.before.before in let k = c.requires.rep.frames.within in omega arith

pub bounds-setup-13 : goal.bounds-setup-13
bounds-setup-13 c = let k = c.requires.room.setup in omega arith

pub returns-then-not-passes : goal.returns-then-not-passes
returns-then-not-passes c = λ pc t arm q w b rep snd. bad-operand _ _ _ _ w pc (t w) arm (has-frame rep (some c.before.before.before.before.before.before)) (told c.before.before w b q rep ∙ c.if-not-passes.true) rep

pub charge-paid-requires : goal.charge-paid-requires
charge-paid-requires c = record { ok = charge-ok c.requires; narrow = c.pc_of.ensures.narrow; some = some c.before.before.before.before.before.before.before.before.before.before.before.before.before.before }

pub body-did-requires : goal.body-did-requires
body-did-requires c =
    let ok = c.requires in let k = c.charge-paid.auto in
    arm-fits ok (some c.before.before.before.before.before.before.before.before.before.before.before.before.before.before.before.before.before.before.before.before.before.before.before.before.before.before.before.before.before.before.before.before.before.before.before.before.before.before) refl c.base_at-base.ensures
    (λ w N. sym c.if-not-passes.false ∙ c.passes.ensures w N) c.pc_of.ensures
    (record {
      stack = k.stack;
      frames = k.frames;
      chain = k.chain;
      slots = k.slots;
      saved_stack = k.saved_stack;
      saved_frames = k.saved_frames;
      ready = refl;
      finalize = k.finalize;
      setup = refl;
    })
    (answered c.in-Done.is (c.charge-paid.ensures ok.world (charge-ok ok).beside ok.rep ok.sound))

pub shape_of-stack-in-Spent : goal.shape_of-stack-in-Spent
shape_of-stack-in-Spent c = search

pub shape_of-frames-in-Spent : goal.shape_of-frames-in-Spent
shape_of-frames-in-Spent c = search

pub shape_of-chain-in-Spent : goal.shape_of-chain-in-Spent
shape_of-chain-in-Spent c = search

pub shape_of-slots-in-Spent : goal.shape_of-slots-in-Spent
shape_of-slots-in-Spent c = search

pub shape_of-saved_stack-in-Spent : goal.shape_of-saved_stack-in-Spent
shape_of-saved_stack-in-Spent c = search

pub shape_of-saved_frames-in-Spent : goal.shape_of-saved_frames-in-Spent
shape_of-saved_frames-in-Spent c = search

pub shape_of-finalize-in-Spent : goal.shape_of-finalize-in-Spent
shape_of-finalize-in-Spent c = search

pub returns-in-Spent : goal.returns-in-Spent
returns-in-Spent c =
    λ pc t arm q w b rep snd. spent _ _ _ _ w pc (t w) arm (has-frame rep (some c.before.before.before.before.before.before.before.before.before.before.before.before.before.before.before.before.before.before.before.before.before.before.before.before.before.before.before.before.before.before.before.before)) (passed c.before.before.before.before.before.before.before.before.before.before.before.before.before.before.before.before.before.before.before.before.before.before.before.before.before.before.before w b q rep) _ (c.pc_of.ensures.is pc t arm q)
    (answered c.in-Spent.is (c.charge-paid.ensures w (around rep) rep snd))

pub shape_of-stack-in-Close : goal.shape_of-stack-in-Close
shape_of-stack-in-Close c = search

pub shape_of-frames-in-Close : goal.shape_of-frames-in-Close
shape_of-frames-in-Close c = search

pub shape_of-chain-in-Close : goal.shape_of-chain-in-Close
shape_of-chain-in-Close c = search

pub shape_of-slots-in-Close : goal.shape_of-slots-in-Close
shape_of-slots-in-Close c = search

pub shape_of-saved_stack-in-Close : goal.shape_of-saved_stack-in-Close
shape_of-saved_stack-in-Close c = search

pub shape_of-saved_frames-in-Close : goal.shape_of-saved_frames-in-Close
shape_of-saved_frames-in-Close c = search

pub shape_of-finalize-in-Close : goal.shape_of-finalize-in-Close
shape_of-finalize-in-Close c = search

pub returns-in-Close : goal.returns-in-Close
returns-in-Close c =
    λ pc t arm q w b rep snd. closed _ _ _ _ w pc (t w) arm (has-frame rep (some c.before.before.before.before.before.before.before.before.before.before.before.before.before.before.before.before.before.before.before.before.before.before.before.before.before.before.before.before.before.before.before.before)) (passed c.before.before.before.before.before.before.before.before.before.before.before.before.before.before.before.before.before.before.before.before.before.before.before.before.before.before.before w b q rep) _ (c.pc_of.ensures.is pc t arm q) _
    (answered c.in-Close.is (c.charge-paid.ensures w (around rep) rep snd))

pub shape_of-stack-in-Done : goal.shape_of-stack-in-Done
shape_of-stack-in-Done c = c.body-did.auto.stack ∙ c.charge-paid.auto.stack

pub shape_of-frames-in-Done : goal.shape_of-frames-in-Done
shape_of-frames-in-Done c = c.body-did.auto.frames ∙ c.charge-paid.auto.frames

pub shape_of-chain-in-Done : goal.shape_of-chain-in-Done
shape_of-chain-in-Done c = c.body-did.auto.chain ∙ c.charge-paid.auto.chain

pub shape_of-slots-in-Done : goal.shape_of-slots-in-Done
shape_of-slots-in-Done c = c.body-did.auto.slots ∙ c.charge-paid.auto.slots

pub shape_of-saved_stack-in-Done : goal.shape_of-saved_stack-in-Done
shape_of-saved_stack-in-Done c = c.body-did.auto.saved_stack ∙ c.charge-paid.auto.saved_stack

pub shape_of-saved_frames-in-Done : goal.shape_of-saved_frames-in-Done
shape_of-saved_frames-in-Done c = c.body-did.auto.saved_frames ∙ c.charge-paid.auto.saved_frames

pub shape_of-finalize-in-Done : goal.shape_of-finalize-in-Done
shape_of-finalize-in-Done c = c.charge-paid.auto.finalize

pub returns-in-Done : goal.returns-in-Done
returns-in-Done c =
    λ pc t arm q w b rep snd.
    let paid = c.charge-paid.ensures w (around rep) rep snd in
    done _ _ _ _ w pc (t w) arm (has-frame rep (some c.before.before.before.before.before.before.before.before.before.before.before.before.before.before.before.before.before.before.before.before.before.before.before.before.before.before.before.before.before.before.before.before.before.before.before.before.before.before.before.before.before.before.before.before.before.before.before.before.before.before.before.before.before.before)) (passed c.before.before.before.before.before.before.before.before.before.before.before.before.before.before.before.before.before.before.before.before.before.before.before.before.before.before.before.before.before.before.before.before.before.before.before.before.before.before.before.before.before.before.before.before.before.before.before.before.before w b q rep) _ (c.pc_of.ensures.is pc t arm q) _ _ _ (sym c.in-Done.is ∙ paid.answer)
    (c.body-did.ensures pc t arm q _ (around paid.world) paid.world (charged-sound (Some c.pc_of.result) w (narrow-pc _ c.pc_of.ensures.narrow) snd))
    c.answer_of-answer.ensures
