-- After a charge: the world is sound, and, where the charge is done, the instruction's registers lie where they lay. Assumes nothing.
use mathlib.Core.Path.{◌≡◌, refl, sym, ◌∙◌, subst}
use mathlib.Core.Bool.{true, false}
use mathlib.Core.List.{List, [], ◌∷◌}
use Prim.Native.Nat.{ℕ, ◌+◌, ◌-◌, ◌*◌, ◌^◌, ◌≤◌, ◌<◌}
use native.Mathlib.Omega.{arith}
use lib.ListN.{length, get_or}
use borrow.Author.Tests.{lt-ltb}
use Rattle.model.specs.Lists.{is_nil}
use Rattle.model.specs.World.{World}
use Rattle.model.specs.Frames.{top_base}
use Rattle.model.specs.Call.{opt_pc}
use Rattle.model.specs.Cleanup.{charge}
use Rattle.model.specs.Sound.{sound}
use Rattle.std.specs.Prelude.{Option, Some}
use Rattle.model.specs.declared.machine.Charge.{Charge}
use Rattle.model.specs.declared.machine.Frame.{Frame}
use Rattle.model.specs.declared.machine.Fuel.{Fuel}
use Rattle.claims_sound.proofs.Tests.{no_false, no_true}
use Rattle.claims_sound.proofs.Sound.{sound→, →sound}
use Rattle.claims_sound.proofs.Good.{Good, Calm}
use Rattle.claims_sound.proofs.Charge.{Charging, charge-good}
use Rattle.memory_tables.specs.Layout.{base_in}
use Rattle.memory_tables.specs.Parts.{Frames}
use Rattle.memory_tables.specs.Does.{RegFits}
use Rattle.memory_tables.proofs.Doing.{reg-fits}
use Rattle.memory_world.specs.Memory.{Lent, Beside, Rep}
use Rattle.memory_world.specs.Contract.{Ok, Does, with}
use Rattle.memory_world.specs.declared.machine.Machine.{Machine}
use Rattle.memory_world.specs.declared.machine.Sizes.{Sizes}
use Rattle.memory_world.proofs.Does.{SameLengths, ok-next}
use Rattle.machine_state.proofs.Frames.{top-base}

-- ---- the world

module _ (pc : Option ℕ) (w : World) (narrow : opt_pc pc ≡ true) (snd : sound w ≡ true) where
  well : Good false (Charging pc w) (charge pc w)
  well = charge-good pc w narrow (sound→ w snd (λ z. no_false z))

  -- whatever the answer
  pub charged-sound : sound (charge pc w).world ≡ true
  charged-sound = →sound (charge pc w).world well.sound

  -- done: the same set-up, height and top base
  pub charged-calm : (n : ℕ) → (charge pc w).answer ≡ Charge.Done n → Calm w (charge pc w).world
  charged-calm n e = subst (Charging pc w (charge pc w).world) e well.fact

  pub spent-calm : (charge pc w).answer ≡ Charge.Spent → Calm w (charge pc w).world
  spent-calm e = subst (Charging pc w (charge pc w).world) e well.fact

-- a pc of 32 bits
pub narrow-pc : (pc : ℕ) → pc < 2 ^ 32 → opt_pc (Some pc) ≡ true
narrow-pc pc h = lt-ltb pc (2 ^ 32) h

-- ---- the words

-- the instruction may be called
pub charged-ok : (l : Sizes) (M M' : Beside → Lent) (m m' : Machine) (f f' : Fuel) (pc : Option ℕ) (n : ℕ) → opt_pc pc ≡ true → (o : Ok l M (with m f)) → SameLengths (M o.beside) (M' o.beside)
    → Does l (charge pc o.world) (M' o.beside) m' f' (Charge.Done n) → Ok l M' (with m' f')
charged-ok l M M' m m' f f' pc n narrow o k d =
    ok-next l M M' (with m f) (with m' f') o (charge pc o.world).world (charged-calm pc o.world narrow o.sound n (sym d.answer)).setup (charged-sound pc o.world narrow o.sound) k d.world

some-frame : (fs : List Frame) → is_nil fs ≡ false → 1 ≤ length fs
some-frame [] e = no_true e
some-frame (f ∷ fs) e = omega arith

-- the base of the top frame
base-in : (fs : List Frame) (ws : List ℕ) (n : ℕ) → Frames fs ws n → 1 ≤ n → base_in ws (n - 1) ≡ top_base fs
base-in [] ws n p h = absurd (let c = p.count in omega arith)
base-in (f ∷ fs) ws n p h = top-base f fs ws n p

filled : (fs : List Frame) → 1 ≤ length fs → is_nil fs ≡ false
filled [] h = absurd (omega arith)
filled (f ∷ fs) h = refl

-- its registers lie in the top frame as before
pub charged-reg : (l : Sizes) (M M' : Lent) (m m' : Machine) (f f' : Fuel) (w u : World) (r : ℕ) → Rep l w M m f → Rep l u M' m' f' → Calm w u → RegFits M.stack M.frames m.height m.depth r
    → RegFits M'.stack M'.frames m'.height m'.depth r
charged-reg l M M' m m' f f' w u r rep rep' calm fits =
    let c = rep.frames.count in
    let s = fits.some in
    let one : 1 ≤ length w.frames = omega arith in
    let b = base-in w.frames M.frames m.depth rep.frames fits.some in
    let e = calm.base in
    let h = calm.height in
    let k = fits.below in
    let n = rep.stack.count in
    reg-fits u.stack u.frames M'.stack M'.frames m'.height m'.depth r rep'.stack rep'.frames (some-frame u.frames (calm.some ∙ filled w.frames one)) (omega arith)
