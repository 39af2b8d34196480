-- What a coroutine has saved, in the words of its row.
use Rattle.std.specs.Prelude.{ℕ, ◌+◌, ◌*◌, ◌≤◌, Bool, not, ◌&&◌, ◌||◌, List, eqb, ltb, leb, length}
use Rattle.lists.specs.Pick.{pick}
use Rattle.lists.specs.Chunks.{chunk_at}
use Rattle.heap.specs.State.{is_suspended, is_resumable, is_finished}
use Rattle.heap.specs.declared.object.CoroObj.{CoroObj}
use Rattle.model.specs.Program.{Setup}
use Rattle.model.specs.Frames.{top_base}
use Rattle.memory_tables.specs.Layout.{frame_of}
use Rattle.memory_tables.specs.Parts.{piled}
use Rattle.memory_world.specs.declared.machine.Sizes.{Sizes}
use Rattle.memory_world.specs.Decode.{setup_of}
use Rattle.memory_sound.specs.Words.{rest_ok}
use Rattle.check_tables.specs.Frames.{saved_frames_ok, Catches}

-- the largest sizes so far
abbrev pub largest_in : Sizes → CoroObj → Bool
largest_in sizes c = leb c.maxregs sizes.width && leb c.maxframes sizes.depth

-- "sizes within limits"
abbrev pub sizes_in : Sizes → CoroObj → Bool
sizes_in sizes c = leb c.regs sizes.width && leb c.frames sizes.depth && leb c.maxregs sizes.width && leb c.maxframes sizes.depth

-- "waiting .. registers lie in their frame"
abbrev pub waits_in : List ℕ → CoroObj → Bool
waits_in ws c = not (is_suspended c.state) || ltb (top_base (piled 6 frame_of c.frames ws) + c.waiting) c.regs

-- "a Created, Yielded or Awaiting one has at least one saved frame ..", in the words ws of its row; a Running one has nothing there
abbrev pub frames_in : Setup → List ℕ → CoroObj → Bool
frames_in s ws c =
    pick (is_resumable c.state) (saved_frames_ok s ws c.frames c.regs && waits_in ws c)
    (eqb c.frames 0 && eqb c.regs 0 && rest_ok ws 0)

-- no row, and nothing saved
abbrev pub nothing_saved : CoroObj → Bool
nothing_saved c = eqb c.row 0 && eqb c.frames 0 && eqb c.regs 0

-- a finished one has no row and nothing saved; another has a row, with zeros after what is saved there
abbrev pub coro_test : Sizes → Setup → List ℕ → List ℕ → CoroObj → Bool
coro_test sizes s stack frames c =
    sizes_in sizes c
    && pick (is_finished c.state) (nothing_saved c)
    (ltb c.row sizes.rows && rest_ok (chunk_at sizes.width stack c.row) c.regs && frames_in s (chunk_at (sizes.depth * 6) frames c.row) c)

-- ---- words enough

pub record RowFits (ws need setup : List ℕ) (i w n : ℕ) : Type 0 where
  pub row : i * w + w ≤ length ws
  pub inside : n * 6 ≤ w
  pub catches : Catches (setup_of setup) need
  pub numbers : 14 ≤ length setup

pub record SavedFits (stack frames need setup : List ℕ) (sizes : Sizes) : Type 0 where
  pub on-stack : sizes.rows * sizes.width ≤ length stack
  pub on-frames : sizes.rows * (sizes.depth * 6) ≤ length frames
  pub few : sizes.rows ≤ 64
  pub deep : sizes.depth ≤ 128
  pub wide : sizes.width ≤ 1024
  pub catches : Catches (setup_of setup) need
  pub numbers : 14 ≤ length setup
