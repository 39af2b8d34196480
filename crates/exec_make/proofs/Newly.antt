-- A creation with its argument window, and CoroNew, on the world. Assumes nothing.
use mathlib.Core.Path.{◌≡◌, sym, ap, ◌∙◌, subst}
use mathlib.Core.Bool.{true}
use mathlib.Core.List.{List, [], ◌∷◌}
use Prim.Native.Nat.{ℕ, suc, ◌+◌, ◌-◌, ◌*◌, ◌≤◌, ◌<◌}
use native.Mathlib.Omega.{arith}
use lib.ListN.{length, get_or, take, drop, replicate, length-drop}
use borrow.Author.Tests.{lt-ltb}
use lib.Seq.{drop-append-le, take-append-le}
use Rattle.lists.specs.Parts.{part, pad}
use Rattle.heap.specs.Word.{nil}
use Rattle.heap.specs.declared.fault.Fault.{Fault}
use Rattle.model.specs.World.{World, After, and_then}
use Rattle.model.specs.Frames.{top_base, put_reg}
use Rattle.model.specs.Coro.{coro_create}
use Rattle.model.specs.Exec.{window, put_made, coro_new}
use Rattle.model.specs.Sound.{sound}
use Rattle.std.specs.Prelude.{Result, Ok, Err}
use Rattle.model.specs.declared.exec.Step.{Step}
use Rattle.model.specs.declared.machine.Cont.{Cont}
use Rattle.model.specs.declared.machine.Frame.{Frame}
use Rattle.model.specs.declared.machine.Fuel.{Fuel}
use Rattle.claims_sound.proofs.Good.{Still}
use Rattle.claims_sound.proofs.Make.{create-good}
use Rattle.memory_tables.specs.Layout.{base_in}
use Rattle.memory_tables.specs.Does.{RegFits}
use Rattle.memory_tables.proofs.Padded.{length_part, take-pad}
use Rattle.memory_tables.proofs.Decode.{base-at}
use Rattle.memory_world.specs.Memory.{Lent, Rep}
use Rattle.memory_world.specs.Contract.{Does}
use Rattle.memory_world.specs.declared.machine.Machine.{Machine}
use Rattle.memory_world.specs.declared.machine.Sizes.{Sizes}
use Rattle.memory_world.proofs.Does.{does}
use Rattle.coro_create.proofs.Setting.{known, one_of}

-- ---- the word of what was made

module _ (l : Sizes) (M : Lent) (m : Machine) (f : Fuel) (w : World) (dst : ℕ) (a : Result ℕ Fault) where
  pub made_word : (v : ℕ) → a ≡ Ok v → Rep l (put_reg dst v w) M m f → Does l (put_made dst w a) M m f Step.Next
  made_word v e rep = does l M m f (put_made dst w a) (put_reg dst v w) Step.Next (ap (put_made dst w) e) rep

  pub made-refused : (g : Fault) → a ≡ Err g → Rep l w M m f → Does l (put_made dst w a) M m f (Step.Fault g)
  made-refused g e rep = does l M m f (put_made dst w a) w (Step.Fault g) (ap (put_made dst w) e) rep

-- ---- the argument window, in the words

pub part-pad : (at n : ℕ) (xs ws : List ℕ) → ws ≡ pad (length ws) xs → at + n ≤ length xs → part at n ws ≡ part at n xs
part-pad at n xs ws e h =
    let Z : List ℕ = replicate (length ws - length xs) 0 in
    let d : length (drop at xs) ≡ length xs - at = length-drop at xs in
    ap (part at n) e ∙ ap (λ (z : List ℕ). take n z) (drop-append-le at xs Z (omega arith)) ∙ take-append-le n (drop at xs) Z (omega arith)

pub aside-is : (at n : ℕ) (ws args : List ℕ) → n ≤ 255 → at + n ≤ length ws → args ≡ pad 255 (part at n ws) → take n args ≡ part at n ws
aside-is at n ws args few h e = ap (take n) e ∙ take-pad 255 n (part at n ws) (sym (length_part at n ws h))

-- ---- the argument window of a world

module _ (l : Sizes) (w : World) (M : Lent) (m : Machine) (fuel : Fuel) (rep : Rep l w M m fuel) where
  -- the window starts after register dst of the top frame
  pub window-is : (dst argc at : ℕ) (args : List ℕ) → RegFits M.stack M.frames m.height m.depth dst → argc ≤ 255 → at ≡ base_in M.frames (m.depth - 1) + dst + 1
      → at + argc ≤ m.height → args ≡ pad 255 (part at argc M.stack) → take argc args ≡ window dst argc w
  window-is dst argc at args fits few ea h e =
      let d : Frame = record { func = 0; pc = 0; base = 0; closure = 0; cont = Cont.Entry } in
      let s = fits.some in
      let c₁ = rep.frames.count in
      let c₂ = rep.stack.count in
      let n = rep.stack.within in
      let base : base_in M.frames (m.depth - 1) ≡ top_base w.frames = base-at w.frames M.frames m.depth (m.depth - 1) d rep.frames (omega arith) ∙ top-is w.frames m.depth d c₁ s in
      aside-is at argc M.stack args few (omega arith) e
      ∙ part-pad at argc w.stack M.stack rep.stack.are (omega arith)
      ∙ ap (λ k. part k argc w.stack) (ea ∙ ap (λ b. b + dst + 1) base)
    where
      top-is : (fs : List Frame) (n : ℕ) (d : Frame) → n ≡ length fs → 1 ≤ n → (get_or fs (n - suc (n - 1)) d).base ≡ top_base fs
      top-is [] n d c s = absurd (omega arith)
      top-is (f ∷ fs) n d c s = ap (λ k. (get_or (f ∷ fs) k d).base) (let z : n - suc (n - 1) ≡ 0 = omega arith in z)

-- arguments that are the window
pub with-window : (l : Sizes) (w : World) (M : Lent) (m : Machine) (fuel : Fuel) (a : Result ℕ Fault) (f closure : ℕ) (args window : List ℕ) → args ≡ window → Does l (coro_create f closure args w) M m fuel a
    → Does l (coro_create f closure window w) M m fuel a
with-window l w M m fuel a f closure args window e d = subst (λ x. Does l (coro_create f closure x w) M m fuel a) e d

-- ---- what a creation leaves as it was

-- the stack and the frames: a register of the top frame is one still
pub still-fits : (l : Sizes) (w u : World) (M M' : Lent) (m n : Machine) (fuel fuel' : Fuel) (dst : ℕ) → Still w u → Rep l w M m fuel → Rep l u M' n fuel'
    → RegFits M.stack M.frames m.height m.depth dst → RegFits M.stack M.frames n.height n.depth dst
still-fits l w u M M' m n fuel fuel' dst kept rep rep' fits =
    let h : n.height ≡ m.height = rep'.stack.count ∙ ap length kept.stack ∙ sym rep.stack.count in
    let d : n.depth ≡ m.depth = rep'.frames.count ∙ ap length kept.frames ∙ sym rep.frames.count in
    subst (λ k. RegFits M.stack M.frames k n.depth dst) (sym h) (subst (λ k. RegFits M.stack M.frames m.height k dst) (sym d) fits)

pub create-still : (l : Sizes) (M : Lent) (m : Machine) (fuel : Fuel) (w : World) → Rep l w M m fuel → sound w ≡ true → (f closure : ℕ) (args : List ℕ) → f < get_or M.setup 13 0
    → Still w (coro_create f closure args w).world
create-still l M m fuel w rep snd f closure args named =
    (create-good f closure args w (known w snd) (lt-ltb f (length w.setup.functions) (one_of l M m fuel w rep f snd named))).fact.still

-- ---- the instruction

-- something is made, and then its word is put
pub made-put : (l : Sizes) (M : Lent) (m : Machine) (fuel : Fuel) (o : After (Result ℕ Fault)) (dst : ℕ) (a : Result ℕ Fault) (s : Step) → a ≡ o.answer → Does l (put_made dst o.world a) M m fuel s
    → Does l (and_then o (put_made dst)) M m fuel s
made-put l M m fuel o dst a s e d = subst (λ x. Does l (put_made dst o.world x) M m fuel s) e d

pub new-met : (l : Sizes) (M : Lent) (m : Machine) (fuel : Fuel) (w : World) (dst f argc : ℕ) (a : Result ℕ Fault) (s : Step) →
    let o = coro_create f nil (window dst argc w) w in a ≡ o.answer → Does l (put_made dst o.world a) M m fuel s → Does l (coro_new dst f argc w) M m fuel s
unfolding coro_new
new-met l M m fuel w dst f argc a s e d = made-put l M m fuel (coro_create f nil (window dst argc w) w) dst a s e d
