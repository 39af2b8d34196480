-- The handler of the top frame, in the words: it is read there, and its catch register lies there. Assumes nothing.
use mathlib.Core.Path.{◌≡◌, sym, ap, ap₂, ◌∙◌, subst}
use mathlib.Core.Bool.{true, ◌&&◌}
use mathlib.Core.List.{List, ◌∷◌}
use Prim.Native.Nat.{ℕ, ◌+◌, ◌-◌, ◌≤◌, ◌<◌}
use native.Mathlib.Omega.{arith}
use lib.ListN.{length, get_or}
use lib.Dec.{ltb, leb}
use borrow.Author.Tests.{ltb-true, leb-true}
use Rattle.model.specs.Program.{Setup, Func, func, func_of, no_func, is_function, first_of, function_ok}
use Rattle.model.specs.World.{World}
use Rattle.model.specs.Sound.{lies_under, sound}
use Rattle.model.specs.declared.machine.Frame.{Frame}
use Rattle.model.specs.declared.machine.Fuel.{Fuel}
use Rattle.std.specs.Prelude.{Option, Some}
use Rattle.model.specs.declared.program.Handler.{Handler}
use Rattle.claims_sound.proofs.Tests.{and_left, and_right, each_at}
use Rattle.claims_sound.proofs.Sound.{facts}
use Rattle.claims_sound.proofs.Raised.{first-in}
use Rattle.memory_tables.specs.Parts.{Frames}
use Rattle.memory_tables.proofs.Tops.{top-func, top-pc, top-cont}
use Rattle.memory_tables.specs.Layout.{func_in, pc_in, cont_in, function_in}
use Rattle.memory_tables.specs.Does.{RegFits}
use Rattle.memory_tables.proofs.Setups.{functions-in, count-in, function-in}
use Rattle.memory_world.specs.Memory.{Lent, Rep, Room}
use Rattle.memory_world.specs.declared.machine.Machine.{Machine}
use Rattle.memory_world.specs.declared.machine.Sizes.{Sizes}
use Rattle.machine_state.proofs.Tops.{Top, some-top, known, names_in, top-fits, reg_in}
use Rattle.machine_unwind.specs.Turns.{handler_on, handler_in}
use Rattle.machine_unwind.specs.Fits.{HandlerFits}

-- ---- the words of the top frame

module _ (fs : List Frame) (ws : List ℕ) (n : ℕ) (p : Frames fs ws n) (t : Top fs ws n) where
  these : Frames (t.top ∷ t.rest) ws n
  these = subst (λ gs. Frames gs ws n) t.are p

  pub its-func : func_in ws (n - 1) ≡ t.top.func
  its-func = top-func t.top t.rest ws n these

  pub its-pc : pc_in ws (n - 1) ≡ t.top.pc
  its-pc = top-pc t.top t.rest ws n these

  pub its-cont : cont_in ws (n - 1) ≡ t.top.cont
  its-cont = top-cont t.top t.rest ws n these

-- ---- its handler is read

module _ (l : Sizes) (M : Lent) (m : Machine) (f : Fuel) (w : World) (rep : Rep l w M m f) where
  abbrev i : ℕ
  i = func_in M.frames (m.depth - 1)

  pub handler-read : HandlerFits M.frames M.setup m.depth → (c : Option Handler) → c ≡ first_of (pc_in M.frames (m.depth - 1)) (func_of (function_in M.setup i)).handlers → c ≡ handler_in w
  handler-read h c e =
      let t = some-top w.frames M.frames m.depth rep.frames h.some in
      let few = h.few in
      let n = count-in w.setup M.setup rep.setup i h.function in
      let is = function-in w.setup M.setup rep.setup i h.function (omega arith) in
      e ∙ ap₂ (λ p (g : Func). first_of p g.handlers) (its-pc w.frames M.frames m.depth rep.frames t) (is ∙ ap (func w.setup) (its-func w.frames M.frames m.depth rep.frames t))
      ∙ sym (ap (λ fs. handler_on fs w) t.are)

-- ---- of a sound world

module _ (l : Sizes) (M : Lent) (m : Machine) (f : Fuel) (w : World) (rep : Rep l w M m f) (snd : sound w ≡ true) (some : 1 ≤ m.depth) where
  abbrev s : Setup
  s = w.setup

  top : Top w.frames M.frames m.depth
  top = some-top w.frames M.frames m.depth rep.frames some

  names : is_function s top.top.func ≡ true
  names = and_left (is_function s top.top.func) _ (top-fits w snd top.top top.rest top.are).named

  eight : length (func s top.top.func).handlers ≤ 8
  eight =
      let g = func s top.top.func in
      let ok = each_at function_ok s.functions top.top.func no_func (facts s (known w snd).setup).functions (ltb-true top.top.func (length s.functions) names) in
      leb-true (length g.handlers) 8 (and_right (leb g.regs 256 && leb g.params g.regs) _ (and_left (leb g.regs 256 && leb g.params g.regs && leb (length g.handlers) 8) _ ok))

  pub handler-fits : Room s M → HandlerFits M.frames M.setup m.depth
  handler-fits room =
      let e : func_in M.frames (m.depth - 1) ≡ top.top.func = its-func w.frames M.frames m.depth rep.frames top in
      let lt = ltb-true top.top.func (length s.functions) names in
      let n = functions-in s M.setup rep.setup in
      let q = room.setup in
      let function : func_in M.frames (m.depth - 1) < get_or M.setup 13 0 = omega arith in
      let few = count-in s M.setup rep.setup (func_in M.frames (m.depth - 1)) function ∙ ap (λ j. length (func s j).handlers) e in
      let most = eight in
      record { some = some; within = rep.frames.within; function = function; there = omega arith; few = omega arith }

  -- the register of a handler that is found
  pub catch-fits : (h : Handler) → Some h ≡ handler_in w → RegFits M.stack M.frames m.height m.depth h.catch
  catch-fits h e =
      let x = top.top in
      let q : first_of x.pc (func s x.func).handlers ≡ Some h = sym (e ∙ ap (λ fs. handler_on fs w) top.are) in
      let lies = first-in (λ g. ltb (x.base + g.catch) (length w.stack)) x.pc (func s x.func).handlers h (top-fits w snd x top.rest top.are).catch q in
      reg_in l M m f w rep s (names_in w snd) h.catch (subst (λ fs. lies_under h.catch (length w.stack) fs ≡ true) (sym top.are) lies)
