-- Frames in words, tested from the top down: what is left below decides the whole.
use Rattle.std.specs.Prelude.{ℕ, zero, suc, ◌+◌, ◌*◌, ◌≤◌, ◌<◌, max, ◌≡◌, Bool, not, ◌&&◌, ◌||◌, List, [], ◌∷◌, length, get_or, eqb, ltb, leb}
use Rattle.lists.specs.Pick.{pick}
use Rattle.model.specs.Lists.{each}
use Rattle.model.specs.Program.{Setup, func}
use Rattle.model.specs.Frames.{is_entry, is_coro}
use Rattle.model.specs.Sound.{frame_names, cont_lies, body_last, entry_last, frames_over}
use Rattle.model.specs.declared.machine.Cont.{Cont}
use Rattle.model.specs.declared.program.Handler.{Handler}
use Rattle.memory_tables.specs.Layout.{cont_code, cont_reg, cont_of, frame_of, frame_in}
use Rattle.memory_tables.specs.Parts.{piled}
use Rattle.memory_world.specs.Decode.{setup_of}
use Rattle.memory_sound.specs.Words.{frames_held}

-- a continuation's code is one of six, and a register stands only where it has one
abbrev pub cont_held : ℕ → ℕ → Bool
cont_held code r = eqb (cont_code (cont_of code r)) code && eqb (cont_reg (cont_of code r)) r

-- where a continuation may stand: saved frames are a body and plain ones over it, others have Entry at the bottom only
abbrev pub place_ok : Bool → Bool → Cont → Bool
place_ok saved lowest k = pick saved (pick lowest (is_coro k) (not (is_coro k) && not (is_entry k))) (not (is_entry k) || lowest)

-- a continuation in words, of frame i, which begins at `base`
abbrev pub cont_test : Bool → List ℕ → ℕ → ℕ → ℕ → ℕ → Bool
cont_test saved ws i code r base = cont_held code r && place_ok saved (eqb i 0) (cont_of code r) && cont_lies (cont_of code r) base (piled 6 frame_of i ws)

-- frame i, which ends at `end`
abbrev pub frame_test : Bool → Setup → List ℕ → ℕ → ℕ → Bool
frame_test saved s ws i end =
    let f = frame_in ws i in
    leb f.base end && frame_names s f && each (λ h. ltb (f.base + h.catch) end) (func s f.func).handlers
    && cont_held (get_or ws (i * 6 + 4) 0) (get_or ws (i * 6 + 5) 0) && place_ok saved (eqb i 0) f.cont && cont_lies f.cont f.base (piled 6 frame_of i ws)

-- n frames over `end` words
abbrev pub frames_test : Bool → Setup → List ℕ → ℕ → ℕ → Bool
frames_test saved s ws zero end = eqb end 0
frames_test saved s ws (suc i) end = frame_test saved s ws i end && frames_test saved s ws i (frame_in ws i).base

-- ---- the rules

-- the frames on the stack: codes and zeros, "frame bases ..", "every frame .. names a function", "Entry only at the bottom"
abbrev pub stack_frames_ok : Setup → List ℕ → ℕ → ℕ → Bool
stack_frames_ok s ws n height = frames_held ws n && frames_over s height (piled 6 frame_of n ws) && entry_last (piled 6 frame_of n ws)

-- the frames of a row: "at least one saved frame, the first Coro .., the rest neither Coro nor Entry"
abbrev pub saved_frames_ok : Setup → List ℕ → ℕ → ℕ → Bool
saved_frames_ok s ws n regs = frames_held ws n && frames_over s regs (piled 6 frame_of n ws) && body_last (piled 6 frame_of n ws)

-- ---- the widest catch register

-- one more than the largest
abbrev pub catch_width : List Handler → ℕ
catch_width [] = 0
catch_width (h ∷ hs) = max (h.catch + 1) (catch_width hs)

-- of each function
pub record Catches (s : Setup) (need : List ℕ) : Type 0 where
  pub long : length need ≡ 32
  pub few : length s.functions < 33
  pub widths : (i : ℕ) → i < length s.functions → get_or need i 0 ≡ catch_width (func s i).handlers

-- ---- words enough

pub record FrameFits (ws need : List ℕ) (setup : List ℕ) (i : ℕ) : Type 0 where
  pub inside : i * 6 + 6 ≤ length ws
  pub catches : Catches (setup_of setup) need
  pub numbers : 14 ≤ length setup

pub record FramesFit (ws need : List ℕ) (setup : List ℕ) (n : ℕ) : Type 0 where
  pub inside : n * 6 ≤ length ws
  pub catches : Catches (setup_of setup) need
  pub numbers : 14 ≤ length setup
