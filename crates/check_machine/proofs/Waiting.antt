-- The waiting register in the top frame of a row; the frames of an unfinished coroutine. Assumes nothing.
use mathlib.Core.Path.{◌≡◌, refl, sym, ap, ◌∙◌}
use mathlib.Core.Bool.{Bool, true, false, not, ◌&&◌, ◌||◌}
use mathlib.Core.List.{List}
use Prim.Native.Nat.{ℕ, zero, suc, ◌+◌, ◌*◌, ◌-◌, ◌≤◌, ◌<◌}
use native.Mathlib.Omega.{arith}
use lib.Dec.{eqb, ltb}
use lib.ListN.{get_or}
use borrow.Author.Tests.{ne_eqb, eq-eqb}
use Rattle.lists.specs.Pick.{pick, pick_true, pick-false}
use Rattle.heap.specs.State.{is_suspended, is_resumable}
use Rattle.heap.specs.declared.object.CoroObj.{CoroObj}
use Rattle.model.specs.Program.{Setup}
use Rattle.model.specs.Frames.{top_base}
use Rattle.model.specs.Sound.{lies_under, frames_over}
use Rattle.memory_tables.specs.Layout.{frame_of}
use Rattle.memory_tables.specs.Parts.{piled}
use Rattle.claims_sound.proofs.Tests.{no_false, and_right}
use Rattle.memory_sound.specs.Words.{rest_ok, frames_held}
use Rattle.check_tables.specs.Frames.{saved_frames_ok}
use Rattle.check_tables.proofs.Conts.{under-near, under-far}
use Rattle.check_machine.specs.Saved.{waits_in, frames_in}

-- of some frames, the top one
pub top-lies : (ws : List ℕ) (n r end : ℕ) → 0 < n → ltb (top_base (piled 6 frame_of n ws) + r) end ≡ lies_under r end (piled 6 frame_of n ws)
top-lies ws zero r end h = absurd (omega arith)
top-lies ws (suc n) r end h = refl

module _ (ws : List ℕ) (c : CoroObj) where
  module _ (e : is_suspended c.state ≡ true) (some : 0 < c.frames) where
    waiting : waits_in ws c ≡ lies_under c.waiting c.regs (piled 6 frame_of c.frames ws)
    waiting = ap (λ t. not t || ltb (top_base (piled 6 frame_of c.frames ws) + c.waiting) c.regs) e ∙ top-lies ws c.frames c.waiting c.regs some

    pub waits-far : c.regs ≤ get_or ws ((c.frames - 1) * 6 + 2) 0 → false ≡ waits_in ws c
    waits-far h = sym (waiting ∙ under-far ws c.frames c.waiting c.regs some h)

    pub waits-near : get_or ws ((c.frames - 1) * 6 + 2) 0 < c.regs → ltb c.waiting (c.regs - get_or ws ((c.frames - 1) * 6 + 2) 0) ≡ waits_in ws c
    waits-near h = under-near ws c.frames c.waiting c.regs some h ∙ sym waiting

-- what passes has some frame
pub some-frame : (s : Setup) (ws : List ℕ) (n end : ℕ) → saved_frames_ok s ws n end ≡ true → 0 < n
some-frame s ws zero end e = no_false (and_right (frames_held ws 0 && frames_over s end (piled 6 frame_of 0 ws)) false e)
some-frame s ws (suc n) end e = omega arith

module _ (s : Setup) (ws : List ℕ) (c : CoroObj) where
  abbrev frames : Bool
  frames = saved_frames_ok s ws c.frames c.regs && waits_in ws c

  abbrev nothing : Bool
  nothing = eqb c.frames 0 && eqb c.regs 0 && rest_ok ws 0

  pub resumable-frames : is_resumable c.state ≡ true → frames_in s ws c ≡ frames
  resumable-frames e = ap (λ t. pick t frames nothing) e ∙ pick_true frames nothing

  pub running-frames : is_resumable c.state ≡ false → frames_in s ws c ≡ nothing
  running-frames e = ap (λ t. pick t frames nothing) e ∙ pick-false frames nothing

  pub has-frames : is_resumable c.state ≡ false → (c.frames ≡ 0 → ⊥) → false ≡ frames_in s ws c
  has-frames e h = sym (running-frames e ∙ (rw (ne_eqb c.frames 0 h)))

  pub has-regs : is_resumable c.state ≡ false → c.frames ≡ 0 → (c.regs ≡ 0 → ⊥) → false ≡ frames_in s ws c
  has-regs e f h = sym (running-frames e ∙ (rw (eq-eqb c.frames 0 f, ne_eqb c.regs 0 h)))

  pub has-none : is_resumable c.state ≡ false → c.frames ≡ 0 → c.regs ≡ 0 → (b : Bool) → b ≡ rest_ok ws 0 → b ≡ frames_in s ws c
  has-none e f h b q = q ∙ sym (running-frames e ∙ (rw (eq-eqb c.frames 0 f, eq-eqb c.regs 0 h)))
