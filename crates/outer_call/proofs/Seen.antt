-- What a look hands back: a part of the stack's slice. Assumes nothing.
use mathlib.Core.Path.{◌≡◌, refl, sym, ap, ◌∙◌, subst}
use mathlib.Core.Bool.{Bool, true, false}
use mathlib.Core.List.{List, [], ◌∷◌}
use Prim.Native.Nat.{ℕ, ◌-◌, ◌≤◌}
use native.Mathlib.Omega.{arith}
use lib.ListN.{length, take, drop, length-drop}
use lib.Dec.{leb}
use borrow.Author.Tests.{leb-true, eqb-true}
use Rattle.lists.specs.Pick.{pick, pick_true, pick-false}
use Rattle.model.specs.World.{World}
use Rattle.model.specs.Frames.{top_base}
use Rattle.model.specs.Sound.{bases_ok, sound}
use Rattle.model.specs.Added.{registers_on, registers}
use Rattle.model.specs.declared.machine.Frame.{Frame}
use Rattle.model.specs.declared.machine.Fuel.{Fuel}
use Rattle.claims_sound.proofs.Tests.{no_false, and_left}
use Rattle.claims_sound.proofs.Stand.{bases-of}
use Rattle.claims_sound.proofs.Sound.{sound→}
use Rattle.memory_world.specs.Memory.{Lent, Beside}
use Rattle.memory_world.specs.declared.machine.Machine.{Machine}
use Rattle.memory_world.specs.Words.{sizes_of}
use Rattle.memory_world.specs.Decode.{world_of}
use Rattle.machine_added.specs.Look.{LookFits, Sees, Seen, end_on}
use Rattle.machine_added.specs.declared.look.Span.{Span}
use Rattle.memory_step.specs.Step.{is_sound, decoded, looked}
use Rattle.outer_call.specs.State.{state}
use Rattle.outer_call.specs.Look.{Placed}
use Rattle.outer_call.proofs.Stepping.{stands}

-- the top frame begins within the stack
pub within : (w : World) → sound w ≡ true → top_base w.frames ≤ end_on w.frames w.stack
within w e = go w.frames (bases-of w.setup (sound→ {ex = false} w e (λ z. no_false z)).tower.stands)
  where
    go : (fs : List Frame) → bases_ok (length w.stack) fs ≡ true → top_base fs ≤ end_on fs w.stack
    go [] h = omega arith
    go (f ∷ fs) h = leb-true f.base (length w.stack) (and_left (leb f.base (length w.stack)) (bases_ok f.base fs) h)

-- and the words in use end with it
pub whole : (w : World) → sound w ≡ true → length w.stack ≡ end_on w.frames w.stack
whole w e = go w.frames (bases-of w.setup (sound→ {ex = false} w e (λ z. no_false z)).tower.stands)
  where
    go : (fs : List Frame) → bases_ok (length w.stack) fs ≡ true → length w.stack ≡ end_on fs w.stack
    go [] h = eqb-true (length w.stack) 0 h
    go (f ∷ fs) h = refl

-- as many registers as the words between
pub as_many : (w : World) → length (registers w) ≡ end_on w.frames w.stack - top_base w.frames
unfolding registers
as_many w = go w.frames
  where
    go : (fs : List Frame) → length (registers_on fs w.stack) ≡ end_on fs w.stack - top_base fs
    go [] = refl
    go (f ∷ fs) = length-drop f.base w.stack

ends : (w : World) → end_on w.frames w.stack ≤ length w.stack
ends w = go w.frames
  where
    go : (fs : List Frame) → end_on fs w.stack ≤ length w.stack
    go [] = omega arith
    go (f ∷ fs) = omega arith

-- a part of the slice
pub record Part (M : Lent) (m : Machine) (f : Fuel) (s : Span) : Type 0 where
  pub order : s.start ≤ s.end
  pub inside : s.end ≤ length M.stack
  pub is : take (s.end - s.start) (drop s.start M.stack) ≡ looked (state M m f)

module _ (M : Lent) (m : Machine) (f : Fuel) where
  pub look-fits : is_sound (state M m f) ≡ true → LookFits M.frames m
  look-fits e = record { within = (stands M m f e).rep.frames.within }

  found : (s : Span) → is_sound (state M m f) ≡ true → Sees M.frames m s → Part M m f s
  found s e sees =
      let k = stands M m f e in
      let w = world_of M m f in
      let b : Beside = record { words = M; fuel = f } in
      let d = sees (sizes_of w.setup) w b k.rep in
      let p = within w k.sound in
      let q = ends w in
      let c = k.rep.stack.count in
      let a = k.rep.stack.within in
      let x = d.start in
      let y = d.end in
      record {
        order = subst (λ i. i ≤ s.end) (sym x) (subst (λ i. top_base w.frames ≤ i) (sym y) p);
        inside = subst (λ i. i ≤ length M.stack) (sym y) (omega arith);
        is = d.part ∙ sym (ap (λ t. pick t (registers (decoded (state M m f))) []) e ∙ pick_true _ _);
      }

  nothing : (s : Span) → is_sound (state M m f) ≡ false → s ≡ record { start = 0; end = 0 } → Part M m f s
  nothing s e h =
      let z : record { start = 0; end = 0 } ≡ s = sym h in
      subst (λ (x : Span). Part M m f x) z
      (record { order = omega arith; inside = omega arith; is = sym (ap (λ t. pick t (registers (decoded (state M m f))) []) e ∙ pick-false _ _) })

  pub part_of : (ok : Bool) (s : Span) → ok ≡ is_sound (state M m f) → Placed ok M.frames m s → Part M m f s
  part_of true s h p = found s (sym h) (p.sees refl)
  part_of false s h p = nothing s (sym h) (p.empty refl)
