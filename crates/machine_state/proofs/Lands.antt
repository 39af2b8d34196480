-- A register that a word is sent to lies in the top frame of a world, and so in its words. Assumes nothing.
use mathlib.Core.Path.{◌≡◌, sym, ap, ◌∙◌, subst}
use mathlib.Core.Bool.{true}
use mathlib.Core.List.{List, [], ◌∷◌}
use Prim.Native.Nat.{ℕ, ◌+◌, ◌-◌, ◌*◌, ◌^◌, ◌<◌}
use native.Mathlib.Omega.{arith}
use lib.ListN.{length, get_or}
use lib.Dec.{ltb}
use borrow.Author.Tests.{ltb-true}
use Rattle.lists.proofs.Tables.{chunk-get}
use Rattle.model.specs.Lists.{each}
use Rattle.model.specs.Program.{Setup, is_function}
use Rattle.model.specs.World.{World}
use Rattle.model.specs.Sound.{frame_names, lies_under, driver_lies}
use Rattle.model.specs.declared.machine.Driver.{Driver}
use Rattle.model.specs.declared.machine.Frame.{Frame}
use Rattle.model.specs.declared.machine.Fuel.{Fuel}
use Rattle.claims_sound.proofs.Tests.{no_false, and_left, and_right}
use Rattle.memory_tables.specs.Parts.{Frames}
use Rattle.memory_tables.proofs.Decode.{top_frame}
use Rattle.memory_tables.proofs.Doing.{reg-fits}
use Rattle.memory_world.specs.Memory.{Lent, Rep}
use Rattle.memory_world.specs.declared.machine.Machine.{Machine}
use Rattle.memory_world.specs.declared.machine.Sizes.{Sizes}
use Rattle.machine_state.specs.Send.{SendFits}

pub record Lands (u : World) (x : ℕ) : Type 0 where
  pub top : Frame
  pub rest : List Frame
  pub are : u.frames ≡ top ∷ rest
  pub inside : top.base + x < length u.stack
  pub pc : top.pc < 2 ^ 32

-- a register that lies in the top frame of a world, in its words
pub lands-fits : (l : Sizes) (M : Lent) (m : Machine) (fuel : Fuel) (u : World) (x : ℕ) → Rep l u M m fuel → Lands u x → SendFits M.stack M.frames m.height m.depth x
lands-fits l M m fuel u x rep t =
    let fs : Frames (t.top ∷ t.rest) M.frames m.depth = subst (λ z. Frames z M.frames m.depth) t.are rep.frames in
    let pc : get_or M.frames ((m.depth - 1) * 6 + 1) 0 ≡ t.top.pc = sym (chunk-get 6 (m.depth - 1) 1 M.frames (omega arith)) ∙ ap (λ g. g.pc) (top_frame t.top t.rest M.frames m.depth fs) in
    record {
      reg = reg-fits u.stack (t.top ∷ t.rest) M.stack M.frames m.height m.depth x rep.stack fs (omega arith) t.inside;
      pc = subst (λ z. z < 2 ^ 32) (sym pc) t.pc;
    }

-- what a driver receives in, after the frames of its coroutine are gone
pub record Receives (u : World) (d : Driver) : Type 0 where
  pub resume : (x : ℕ) → d ≡ Driver.Resume x → Lands u x
  pub has : (x val iter : ℕ) → d ≡ Driver.Iter x val iter → Lands u x
  pub val : (has x iter : ℕ) → d ≡ Driver.Iter has x iter → Lands u x

pub lies-land : (s : Setup) (u : World) (x end : ℕ) (fs : List Frame) → lies_under x end fs ≡ true → each (frame_names s) fs ≡ true → u.frames ≡ fs → length u.stack ≡ end → Lands u x
lies-land s u x end [] t n p q = no_false t
lies-land s u x end (f ∷ fs) t n p q =
    let a : frame_names s f ≡ true = and_left (frame_names s f) (each (frame_names s) fs) n in
    record {
      top = f;
      rest = fs;
      are = p;
      inside = subst (λ z. f.base + x < z) (sym q) (ltb-true (f.base + x) end t);
      pc = ltb-true f.pc (2 ^ 32) (and_right (is_function s f.func) (ltb f.pc (2 ^ 32)) a);
    }

pub receives : (s : Setup) (u : World) (d : Driver) (end : ℕ) (fs : List Frame) → driver_lies d end fs ≡ true → each (frame_names s) fs ≡ true → u.frames ≡ fs → length u.stack ≡ end → Receives u d
receives s u d end fs t n p q =
    record {
      resume = λ x e. lies-land s u x end fs (sym (ap (λ y. driver_lies y end fs) e) ∙ t) n p q;
      has = λ x val iter e. lies-land s u x end fs (and_left (lies_under x end fs) (lies_under val end fs) (sym (ap (λ y. driver_lies y end fs) e) ∙ t)) n p q;
      val = λ has x iter e. lies-land s u x end fs (and_right (lies_under has end fs) (lies_under x end fs) (sym (ap (λ y. driver_lies y end fs) e) ∙ t)) n p q;
    }
