-- coro.rs: the parts of coro_enter, by the coroutine's record.
use Rattle.std.specs.Prelude.{not, ◌||◌, List, ℕ, ◌+◌, ◌*◌, ◌≤◌, length, eqb, ltb, Result, Ok, Err}
use Rattle.lists.specs.Pick.{pick}
use Rattle.heap.specs.declared.fault.Fault.{Fault}
use Rattle.heap.specs.declared.object.CoroObj.{CoroObj}
use Rattle.model.specs.State.{is_created, is_resumable}
use Rattle.model.specs.declared.coro.Entered.{Entered}
use Rattle.memory_tables.specs.Does.{EntersStack, EntersFrames, EnterFits}
use Rattle.memory_world.specs.declared.machine.Machine.{Machine}
use Rattle.memory_world.specs.declared.machine.Sizes.{Sizes}

-- whether it may be entered, or why not
abbrev pub refusal_of : ℕ → ℕ → Sizes → CoroObj → Result Unit Fault
refusal_of height depth sizes c =
    pick (not (is_resumable c.state) || eqb c.frames 0) (Err Fault.InvalidCoroState)
    (pick (ltb sizes.depth (depth + c.frames) || ltb sizes.stack (height + c.regs)) (Err Fault.StackOverflow)
    (Ok tt))

abbrev pub entered_as : CoroObj → Result Entered Fault
entered_as c = pick (is_created c.state) (Ok Entered.Fresh) (Ok (Entered.Suspended c.waiting))

abbrev pub grown : Machine → CoroObj → Machine
grown m c =
    record {
      height = m.height + c.regs;
      depth = m.depth + c.frames;
      active = m.active + 1;
      count = m.count;
      ready = m.ready;
      finalize = m.finalize;
      finalizing = m.finalizing;
      outcome = m.outcome;
      used = m.used;
      seq = m.seq;
    }

-- ---- the row's words go on top

pub record MoveFits (stack frames saved_stack saved_frames : List ℕ) (height depth : ℕ) (sizes : Sizes) (c : CoroObj) : Type 0 where
  pub on-stack : height + c.regs ≤ length stack
  pub in-saved : c.row * sizes.width + c.regs ≤ length saved_stack
  pub deep : sizes.depth * 6 ≤ length frames
  pub entering : EnterFits frames saved_frames depth (c.row * (sizes.depth * 6)) c.frames height

pub record Moves (stack frames saved_stack saved_frames stack' frames' saved_stack' saved_frames' : List ℕ) (height depth : ℕ) (sizes : Sizes) (c : CoroObj) : Type 0 where
  pub on-stack : EntersStack stack saved_stack stack' saved_stack' height (c.row * sizes.width) c.regs
  pub on-frames : EntersFrames frames saved_frames frames' saved_frames' depth (c.row * (sizes.depth * 6)) c.frames height
