-- How `unwind` starts: the given pc stored, the error object made, the first handler one of the function's.
use mathlib.Core.Path.{◌≡◌, refl, subst}
use mathlib.Core.Bool.{Bool, true}
use mathlib.Core.List.{List, [], ◌∷◌}
use Prim.Native.Nat.{ℕ, ◌^◌}
use native.Mathlib.Omega.{arith}
use lib.ListN.{length}
use lib.Dec.{ltb}
use borrow.Author.Tests.{ltb-true, lt-ltb}
use Rattle.lists.specs.Pick.{pick}
use Rattle.lists.proofs.Tests.{never}
use Rattle.heap.specs.Fault as Faults
use Rattle.heap.specs.declared.fault.Fault.{Fault}
use Rattle.model.specs.Lists.{each}
use Rattle.model.specs.Program.{Setup, func, is_function, covers, first_of, between}
use Rattle.model.specs.World.{World}
use Rattle.model.specs.Frames.{top_func, top_pc}
use Rattle.model.specs.Heap.{alloc}
use Rattle.model.specs.Machine.{error_of, store_some}
use Rattle.model.specs.Call.{opt_pc}
use Rattle.model.specs.Sound.{frame_names}
use Rattle.model.specs.declared.program.Handler.{Handler}
use Rattle.std.specs.Prelude.{Option, Some, None}
use Rattle.model.specs.declared.machine.Frame.{Frame}
use Rattle.claims_sound.proofs.Tests.{and_left, and_right, both, picked}
use Rattle.claims_sound.proofs.Stand.{names_of}
use Rattle.claims_sound.proofs.Sound.{Sound, Facts, facts}
use Rattle.claims_sound.proofs.Tower.{store-sound}
use Rattle.claims_sound.proofs.Make.{Making, alloc-plain}
use Rattle.claims_sound.proofs.Good.{Good}

-- the handler found is one of the function's
pub first-in : (p : Handler → Bool) (pc : ℕ) (hs : List Handler) (h : Handler) → each p hs ≡ true → first_of pc hs ≡ Some h → p h ≡ true
first-in p pc [] h e q = never cc
first-in p pc (x ∷ hs) h e q = go (covers pc x) q (λ z. first-in p pc hs h (and_right (p x) _ e) z)
  where
    same : Some x ≡ Some h → x ≡ h
    same z = cc

    go : (b : Bool) → pick b (Some x) (first_of pc hs) ≡ Some h → (first_of pc hs ≡ Some h → p h ≡ true) → p h ≡ true
    go b z next = picked (λ (c : Option Handler). c ≡ Some h → p h ≡ true) b (λ _ z. subst (λ y. p y ≡ true) (same z) (and_left (p x) _ e)) (λ _ z. next z) z

-- the functions and pcs of frames have 32 bits
named_small : {s : Setup} (f : Frame) → Facts s → frame_names s f ≡ true → ltb f.func (2 ^ 32) ≡ true
named_small {s} f k e =
    let a = ltb-true f.func (length s.functions) (and_left (is_function s f.func) _ e) in
    let b = k.few in
    lt-ltb f.func (2 ^ 32) (omega arith)

top-func-small : (s : Setup) (fs : List Frame) → Facts s → each (frame_names s) fs ≡ true → ltb (top_func fs) (2 ^ 32) ≡ true
top-func-small s [] k e = refl
top-func-small s (f ∷ fs) k e = named_small f k (and_left (frame_names s f) _ e)

top-pc-small : (s : Setup) (fs : List Frame) → each (frame_names s) fs ≡ true → ltb (top_pc fs) (2 ^ 32) ≡ true
top-pc-small s [] e = refl
top-pc-small s (f ∷ fs) e = and_right (is_function s f.func) (ltb f.pc (2 ^ 32)) (and_left (frame_names s f) _ e)

module _ {ex : Bool} (w : World) (h : Sound ex w) where
  pub func-small : ltb (top_func w.frames) (2 ^ 32) ≡ true
  func-small = top-func-small w.setup w.frames (facts w.setup h.setup) (names_of w.setup h.tower.stands)

  pub pc-small : ltb (top_pc w.frames) (2 ^ 32) ≡ true
  pc-small = top-pc-small w.setup w.frames (names_of w.setup h.tower.stands)

-- an error object that tells where it was raised
pub error-good : {ex : Bool} (f : Fault) (w : World) → Sound ex w → between 1 8 (Faults.number_of f) ≡ true → Good ex (Making w) (alloc w.setup.costs.error (error_of f w) w)
error-good f w h from =
    alloc-plain w.setup.costs.error (error_of f w) w h
    (record { sizes = refl; saved = refl; rowless = refl; range = both (both from (func-small w h)) (pc-small w h); wide = λ _. refl }) refl refl

pub some-sound : {ex : Bool} (pc : Option ℕ) (w : World) → opt_pc pc ≡ true → Sound ex w → Sound ex (store_some pc w)
some-sound None w e h = h
some-sound (Some pc) w e h = store-sound pc w e h
