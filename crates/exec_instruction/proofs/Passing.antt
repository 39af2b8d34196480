-- The tests of operands, by numbers and on worlds. Assumes nothing.
use mathlib.Core.Path.{◌≡◌, refl, sym, ap, ap₂, ◌∙◌}
use mathlib.Core.Bool.{Bool, true, false, ◌&&◌}
use mathlib.Core.List.{List, [], ◌∷◌}
use Prim.Native.Nat.{ℕ, ◌+◌, ◌-◌, ◌≤◌, ◌<◌}
use native.Mathlib.Omega.{arith}
use lib.ListN.{length}
use lib.Dec.{ltb, leb}
use borrow.Author.Tests.{ltb-true, ltb-false, leb-true, leb-false, lt-ltb, le-ltb, le-leb, lt-leb}
use types.Run.{OneOf, miss}
use denote.Enum.Declared.{tag_of}
use Rattle.model.specs.Lists.{each}
use Rattle.model.specs.Program.{is_function}
use Rattle.model.specs.World.{World}
use Rattle.model.specs.Frames.{top_base}
use Rattle.model.specs.Gate.{in_frame, all_in, window_in}
use Rattle.model.specs.Added.{cont_allowed}
use Rattle.model.specs.Calls.{table}
use Rattle.model.specs.declared.call.Op.{Op}
use Rattle.model.specs.declared.machine.Cont.{Cont}
use Rattle.model.specs.contracts.call.Op as Op'
use Rattle.exec_instruction.specs.Operands.{Based, Numbered, operands_of}

-- ---- by numbers

in-below : (base height r : ℕ) → base < height → ltb r (height - base) ≡ ltb (base + r) height
in-below base height r h = go (ltb r (height - base)) refl
  where
    go : (t : Bool) → ltb r (height - base) ≡ t → t ≡ ltb (base + r) height
    go true e = let k = ltb-true r (height - base) e in sym (lt-ltb (base + r) height (omega arith))
    go false e = let k = ltb-false r (height - base) e in sym (le-ltb (base + r) height (omega arith))

window-below : (base height dst argc : ℕ) → base < height → leb (dst + 1 + argc) (height - base) ≡ leb (base + dst + 1 + argc) height
window-below base height dst argc h = go (leb (dst + 1 + argc) (height - base)) refl
  where
    go : (t : Bool) → leb (dst + 1 + argc) (height - base) ≡ t → t ≡ leb (base + dst + 1 + argc) height
    go true e = let k = leb-true (dst + 1 + argc) (height - base) e in sym (le-leb (base + dst + 1 + argc) height (omega arith))
    go false e = let k = leb-false (dst + 1 + argc) (height - base) e in sym (lt-leb (base + dst + 1 + argc) height (omega arith))

-- ---- on a world with these numbers

pub and_at : {r a b x y : Bool} → r ≡ (a && b) → a ≡ x → b ≡ y → r ≡ (x && y)
and_at e p q = e ∙ ap₂ (λ s t. s && t) p q

module _ (w : World) (base height : ℕ) (k : Based w base height) where
  frame_at : (r : ℕ) → ltb (base + r) height ≡ in_frame w r
  frame_at r = ap₂ (λ x y. ltb (x + r) y) k.base k.height

  window-at : (dst argc : ℕ) → leb (base + dst + 1 + argc) height ≡ window_in w dst argc
  window-at dst argc = ap₂ (λ x y. leb (x + dst + 1 + argc) y) k.base k.height

  pub frame_below : (r : ℕ) → base < height → ltb r (height - base) ≡ in_frame w r
  frame_below r h = in-below base height r h ∙ frame_at r

  pub frame-above : (r : ℕ) → height ≤ base → false ≡ in_frame w r
  frame-above r h = sym (le-ltb (base + r) height (omega arith)) ∙ frame_at r

  pub under-below : (dst argc : ℕ) → base < height → leb (dst + 1 + argc) (height - base) ≡ window_in w dst argc
  under-below dst argc h = window-below base height dst argc h ∙ window-at dst argc

  pub under-above : (dst argc : ℕ) → height ≤ base → false ≡ window_in w dst argc
  under-above dst argc h = sym (lt-leb (base + dst + 1 + argc) height (omega arith)) ∙ window-at dst argc

pub function-at : (w : World) (functions base height : ℕ) → Numbered w functions base height → (f : ℕ) → ltb f functions ≡ is_function w.setup f
function-at w functions base height k f = ap (ltb f) k.functions

-- the test of an operation that is known
pub tested-as : {o x : Op} {r : Bool} (w : World) → o ≡ x → r ≡ operands_of (table x) w → r ≡ operands_of (table o) w
tested-as w e h = h ∙ sym (ap (λ z. operands_of (table z) w) e)

-- ---- calls that name neither a register nor a function

abbrev pub plain : List ℕ
plain = 14 ∷ 15 ∷ 16 ∷ 18 ∷ 21 ∷ 22 ∷ 23 ∷ 24 ∷ 25 ∷ 26 ∷ []

pub no-operands : (o : Op) (w : World) → OneOf plain (tag_of Op'.the_type o) → true ≡ operands_of (table o) w
no-operands (Op.CoroNew a b d e) w h = absurd (miss plain 0 tt h)
no-operands (Op.CoroNewIndirect a b d e) w h = absurd (miss plain 1 tt h)
no-operands (Op.Spawn a b d e) w h = absurd (miss plain 2 tt h)
no-operands (Op.Yield a b d) w h = absurd (miss plain 3 tt h)
no-operands (Op.YieldKv a b d e) w h = absurd (miss plain 4 tt h)
no-operands (Op.Await a b d) w h = absurd (miss plain 5 tt h)
no-operands (Op.Resume a b d e) w h = absurd (miss plain 6 tt h)
no-operands (Op.ResumeThrow a b d e) w h = absurd (miss plain 7 tt h)
no-operands (Op.CoroClose a b d e) w h = absurd (miss plain 8 tt h)
no-operands (Op.CoroStatus a b d) w h = absurd (miss plain 9 tt h)
no-operands (Op.CoroCurrent a b) w h = absurd (miss plain 10 tt h)
no-operands (Op.CoroKey a b d) w h = absurd (miss plain 11 tt h)
no-operands (Op.CoroResult a b d) w h = absurd (miss plain 12 tt h)
no-operands (Op.IterNext a b d e g) w h = absurd (miss plain 13 tt h)
no-operands (Op.Finish a b) w h = refl
no-operands (Op.Unwind a b) w h = refl
no-operands (Op.SpawnTask a) w h = refl
no-operands (Op.HostCall a) w h = absurd (miss plain 17 tt h)
no-operands (Op.HostEntry a b) w h = refl
no-operands (Op.FunctionCall a b d) w h = absurd (miss plain 19 tt h)
no-operands (Op.PutWord a b) w h = absurd (miss plain 20 tt h)
no-operands (Op.MakeIterator a) w h = refl
no-operands Op.TakeOutcome w h = refl
no-operands (Op.HandOver a) w h = refl
no-operands (Op.Grant a) w h = refl
no-operands Op.StopRun w h = refl
no-operands Op.Look w h = refl
