-- An instruction on the world: its gate, its charge, its arm. Assumes nothing.
use mathlib.Core.Path.{◌≡◌, refl, sym, ap, ap₂, ◌∙◌, subst}
use mathlib.Core.Bool.{Bool, true, false, not}
use mathlib.Core.List.{List, [], ◌∷◌}
use Prim.Native.Nat.{ℕ, ◌-◌, ◌*◌, ◌+◌, ◌^◌, ◌≤◌, ◌<◌}
use native.Mathlib.Omega.{arith}
use lib.ListN.{length, get_or}
use borrow.Author.Tests.{eq-eqb, ne_eqb}
use Rattle.lists.specs.Pick.{pick, pick_true, pick-false}
use Rattle.heap.specs.Fault.{number_of}
use Rattle.heap.specs.declared.fault.Fault.{Fault}
use Rattle.model.specs.Lists.{is_nil}
use Rattle.model.specs.World.{World, After, after, and_then}
use Rattle.model.specs.Frames.{top_base}
use Rattle.model.specs.Cleanup.{charge}
use Rattle.model.specs.Gate.{refused, answer_of, charged, instruction}
use Rattle.model.specs.Calls.{Row, Instruction, table}
use Rattle.model.specs.Sound.{sound}
use Rattle.std.specs.Prelude.{Some}
use Rattle.model.specs.declared.call.Op.{Op}
use Rattle.model.specs.declared.call.Answer.{Answer}
use Rattle.model.specs.declared.exec.Step.{Step}
use Rattle.model.specs.declared.machine.Charge.{Charge}
use Rattle.model.specs.declared.machine.Frame.{Frame}
use Rattle.model.specs.declared.machine.Fuel.{Fuel}
use Rattle.claims_sound.proofs.Tests.{no_true}
use Rattle.claims_sound.proofs.Good.{Calm}
use Rattle.memory_tables.specs.Layout.{base_in}
use Rattle.memory_tables.specs.Parts.{Frames}
use Rattle.memory_tables.proofs.Setups.{functions-in}
use Rattle.memory_world.specs.Memory.{Lent, Beside, Rep, on_finalize, on_setup}
use Rattle.memory_world.specs.Lendings.{cleaning, six_setup, plain}
use Rattle.memory_world.specs.Contract.{Ok, Does, with}
use Rattle.memory_world.specs.declared.machine.Machine.{Machine}
use Rattle.memory_world.specs.declared.machine.Sizes.{Sizes}
use Rattle.memory_world.proofs.Does.{SameLengths, room-same, does}
use Rattle.machine_state.proofs.Frames.{top-base}
use Rattle.coro_clean.proofs.Charged.{charged-sound, charged-calm, narrow-pc}
use Rattle.exec_arm.specs.Arm.{Past}
use Rattle.exec_instruction.specs.Operands.{Numbered, operands_of, Passes}
use Rattle.exec_instruction.specs.Instruction.{gating, PcIs}

-- ---- the numbers of the world that the words stand for

pub no_frames : (fs : List Frame) (ws : List ℕ) (n : ℕ) → Frames fs ws n → n ≡ 0 → is_nil fs ≡ true
no_frames [] ws n p e = refl
no_frames (f ∷ fs) ws n p e = let c = p.count in absurd (omega arith)

pub some-frames : (fs : List Frame) (ws : List ℕ) (n : ℕ) → Frames fs ws n → 1 ≤ n → is_nil fs ≡ false
some-frames [] ws n p h = let c = p.count in absurd (omega arith)
some-frames (f ∷ fs) ws n p h = refl

base-in : (fs : List Frame) (ws : List ℕ) (n : ℕ) → Frames fs ws n → 1 ≤ n → base_in ws (n - 1) ≡ top_base fs
base-in [] ws n p h = let c = p.count in absurd (omega arith)
base-in (f ∷ fs) ws n p h = top-base f fs ws n p

pub numbered : (l : Sizes) (w : World) (M : Lent) (m : Machine) (f : Fuel) (functions base : ℕ) → Rep l w M m f → 1 ≤ m.depth → functions ≡ get_or M.setup 13 0
    → base ≡ base_in M.frames (m.depth - 1) → Numbered w functions base m.height
numbered l w M m f functions base rep some e b = record {
  functions = e ∙ functions-in w.setup M.setup rep.setup;
  based = record { base = b ∙ base-in w.frames M.frames m.depth rep.frames some; height = rep.stack.count };
}

module _ {l : Sizes} {w : World} {M : Lent} {m : Machine} {f : Fuel} (rep : Rep l w M m f) (some : 1 ≤ m.depth) where
  pub has-frame : is_nil w.frames ≡ false
  has-frame = some-frames w.frames M.frames m.depth rep.frames some

  -- what was told of the operands is the instruction's own test
  pub gate-told : {functions base pc : ℕ} {t : World → Bool} {arm : World → After Step} {x : Row} {r : Bool} → x ≡ Instruction pc t arm → functions ≡ get_or M.setup 13 0
      → base ≡ base_in M.frames (m.depth - 1) → Passes x functions base m.height r → t w ≡ r
  gate-told {functions} {base} q e b pass = ap (λ y. operands_of y w) (sym q) ∙ sym (pass w (numbered l w M m f functions base rep some e b))

-- they stay where the world is calm
calmed : (w u : World) (n b h : ℕ) → Calm w u → Numbered w n b h → Numbered u n b h
calmed w u n b h c k = record {
  functions = k.functions ∙ ap (λ s. length s.functions) (sym c.setup);
  based = record { base = k.based.base ∙ sym c.base; height = k.based.height ∙ sym c.height };
}

-- ---- answers

pub answered : {A : Type 0} {l : Sizes} {M : Lent} {m : Machine} {f : Fuel} {o : After A} {a b : A} → a ≡ b → Does l o M m f a → Does l o M m f b
answered {A} {l} {M} {m} {f} {o} e d = subst (Does l o M m f) e d

pub unpaid-as : (n : ℕ) (s : Step) (f : Fault) → s ≡ Step.Fault f → number_of f ≡ 10 → Answer.Unpaid n ≡ answer_of n s
unpaid-as n s f e k = sym (ap (answer_of n) e ∙ ap (λ t. pick t (Answer.Unpaid n) (Answer.Stepped (Step.Fault f) n)) (eq-eqb (number_of f) 10 k) ∙ pick_true _ _)

pub fault-as : (n : ℕ) (s : Step) (f : Fault) → s ≡ Step.Fault f → (number_of f ≡ 10 → ⊥) → Answer.Stepped (Step.Fault f) n ≡ answer_of n s
fault-as n s f e k =
    sym (ap (answer_of n) e ∙ ap (λ t. pick t (Answer.Unpaid n) (Answer.Stepped (Step.Fault f) n)) (ne_eqb (number_of f) 10 k) ∙ pick-false _ _)

pub stepped-as : (n : ℕ) (s x : Step) → s ≡ x → Answer.Stepped x n ≡ answer_of n x → Answer.Stepped s n ≡ answer_of n s
stepped-as n s x e k = subst (λ z. Answer.Stepped z n ≡ answer_of n z) (sym e) k

-- ---- outcome by outcome

module _ (l : Sizes) (M : Lent) (m : Machine) (f : Fuel) (w : World) (pc : ℕ) (t : Bool) (arm : World → After Step) where
  abbrev paid : After Charge
  paid = charge (Some pc) w

  abbrev gated : After Answer
  gated = instruction pc t arm w

  pub no-frame : is_nil w.frames ≡ true → Rep l w M m f → Does l gated M m f (Answer.Refused Fault.NoFrame)
  unfolding instruction
  no-frame e rep =
      does l M m f gated w (Answer.Refused Fault.NoFrame)
      (ap (λ b. pick b (refused w Fault.NoFrame) (pick (not t) (refused w Fault.BadOperand) (and_then paid (charged arm)))) e ∙ pick_true _ _) rep

  past-frame : is_nil w.frames ≡ false → gated ≡ pick (not t) (refused w Fault.BadOperand) (and_then paid (charged arm))
  unfolding instruction
  past-frame e = ap (λ b. pick b (refused w Fault.NoFrame) (pick (not t) (refused w Fault.BadOperand) (and_then paid (charged arm)))) e ∙ pick-false _ _

  pub bad-operand : is_nil w.frames ≡ false → t ≡ false → Rep l w M m f → Does l gated M m f (Answer.Refused Fault.BadOperand)
  bad-operand e fails rep =
      does l M m f gated w (Answer.Refused Fault.BadOperand)
      (past-frame e ∙ ap (λ b. pick (not b) (refused w Fault.BadOperand) (and_then paid (charged arm))) fails ∙ pick_true _ _) rep

  -- past the gate, with the pc that was charged
  module _ (e : is_nil w.frames ≡ false) (holds : t ≡ true) (n : ℕ) (is : n ≡ pc) where
    abbrev given : After Charge
    given = charge (Some n) w

    at-charge : gated ≡ and_then given (charged arm)
    at-charge =
        past-frame e ∙ ap (λ b. pick (not b) (refused w Fault.BadOperand) (and_then paid (charged arm))) holds ∙ pick-false _ _
        ∙ ap (λ p. and_then (charge (Some p) w) (charged arm)) (sym is)

    pub spent : Does l given M m f Charge.Spent → Does l gated M m f (Answer.Stepped (Step.Fault Fault.OutOfFuel) 0)
    spent d = does l M m f gated given.world _ (at-charge ∙ ap (charged arm given.world) (sym d.answer)) d.world

    pub closed : (k : ℕ) → Does l given M m f (Charge.Close k) → Does l gated M m f (Answer.Cleanup k)
    closed k d = does l M m f gated given.world _ (at-charge ∙ ap (charged arm given.world) (sym d.answer)) d.world

    pub done : (k : ℕ) (s : Step) (a : Answer) → Charge.Done k ≡ given.answer → Does l (arm given.world) M m f s → a ≡ answer_of k s → Does l gated M m f a
    done k s a q d z =
        let o = arm given.world in
        does l M m f gated o.world a
        (at-charge ∙ ap (charged arm given.world) (sym q) ∙ ap (λ y. after o.world (answer_of k y)) (sym d.answer) ∙ ap (after o.world) (sym z)) d.world

-- ---- what is asked

module _ {l : Sizes} {s f c o r q₀ z u : List ℕ} {m : Machine} {fuel : Fuel} (ok : Ok l (gating s f c o r q₀ z u plain) (with m fuel)) where
  abbrev pub charge-ok : Ok l (cleaning s f c o r q₀ z plain) (with m fuel)
  charge-ok = record { world = ok.world; beside = record { words = on_setup u ok.beside.words; fuel = ok.beside.fuel }; rep = ok.rep; sound = ok.sound; room = ok.room }

  -- the arm, after a charge
  pub arm-fits : {s' f' c' o' r' q' z' : List ℕ} {m' : Machine} {fuel' : Fuel} {op : Op} {pc functions base n : ℕ} → 1 ≤ m.depth → functions ≡ get_or u 13 0 → base ≡ base_in f (m.depth - 1)
      → Passes (table op) functions base m.height true → PcIs op pc
      → SameLengths (cleaning s f c o r q₀ z plain charge-ok.beside) (cleaning s' f' c' o' r' q' z' plain charge-ok.beside)
      → Does l (charge (Some pc) ok.world) (cleaning s' f' c' o' r' q' z' plain charge-ok.beside) m' fuel' (Charge.Done n)
      → Past l (six_setup s' f' c' o' r' q' u plain) m' fuel' op
  arm-fits {s'} {f'} {c'} {o'} {r'} {q'} {z'} {m'} {fuel'} {op} {pc} {functions} {base} {n} some e b pass is k d =
      let w = ok.world in
      let narrow = narrow-pc pc is.narrow in
      let calm = charged-calm (Some pc) w narrow ok.sound n (sym d.answer) in
      let after-charge = (charge (Some pc) w).world in
      let M = cleaning s f c o r q₀ z plain charge-ok.beside in
      let M' = cleaning s' f' c' o' r' q' z' plain charge-ok.beside in
      record {
        ok = record {
          world = after-charge;
          beside = record { words = on_finalize z' ok.beside.words; fuel = ok.beside.fuel };
          rep = d.world;
          sound = charged-sound (Some pc) w narrow ok.sound;
          room = room-same w.setup after-charge.setup M M' calm.setup k ok.room;
        };
        some = calm.some ∙ some-frames w.frames f m.depth ok.rep.frames some;
        passed = λ n t arm q. ap (λ x. operands_of x after-charge) (sym q)
            ∙ sym (pass after-charge (calmed w after-charge functions base m.height calm (numbered l w (gating s f c o r q₀ z u plain ok.beside) m fuel functions base ok.rep some e b)));
        narrow = λ n t arm q. subst (λ p. p < 2 ^ 32) (is.is n t arm q) is.narrow;
      }
