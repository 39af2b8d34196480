-- The top frame of a world, in its words: what may be read of it, and what may be done with it. Assumes nothing.
use mathlib.Core.Path.{◌≡◌, refl, sym, ap, ◌∙◌, subst}
use mathlib.Core.Bool.{true, false}
use mathlib.Core.List.{List, [], ◌∷◌}
use Prim.Native.Nat.{ℕ, ◌+◌, ◌-◌, ◌*◌, ◌^◌, ◌≤◌, ◌<◌}
use native.Mathlib.Omega.{arith}
use lib.ListN.{length, get_or}
use lib.Seq.{length-take-le}
use lib.Dec.{ltb}
use borrow.Author.Tests.{ltb-true}
use Rattle.lists.proofs.Tables.{chunk-get}
use Rattle.model.specs.Lists.{each}
use Rattle.model.specs.Program.{Setup, is_function}
use Rattle.model.specs.World.{World}
use Rattle.model.specs.Frames.{is_coro, pop_to}
use Rattle.model.specs.Sound.{frame_names, lies_under, cont_lies, sound}
use Rattle.model.specs.declared.machine.Frame.{Frame}
use Rattle.model.specs.declared.machine.Fuel.{Fuel}
use Rattle.claims_sound.proofs.Tests.{no_false, and_left, and_right}
use Rattle.claims_sound.proofs.Stand.{Fits, Stands, names_of}
use Rattle.claims_sound.proofs.Sound.{Sound, sound→, →sound}
use Rattle.claims_sound.proofs.Tower.{stands-within, pop-sound}
use Rattle.memory_tables.specs.Layout.{frame_in}
use Rattle.memory_tables.specs.Parts.{Frames}
use Rattle.memory_tables.specs.Does.{RegFits}
use Rattle.memory_tables.proofs.Decode.{top_frame}
use Rattle.memory_world.specs.Memory.{Lent, Beside, Rep}
use Rattle.memory_world.specs.Contract.{Numbers, Ok}
use Rattle.memory_world.specs.declared.machine.Machine.{Machine}
use Rattle.memory_world.specs.declared.machine.Sizes.{Sizes}
use Rattle.memory_world.proofs.Does.{SameLengths, room-same}
use Rattle.machine_state.specs.Frame.{StepFits, PopFits, pop_on, pop_top}
use Rattle.machine_state.proofs.Frames.{top-base}
use Rattle.machine_state.proofs.Lands.{lies-land, lands-fits}

-- ---- the frame that the words tell

pub record Top (fs : List Frame) (ws : List ℕ) (n : ℕ) : Type 0 where
  pub top : Frame
  pub rest : List Frame
  pub are : fs ≡ top ∷ rest
  pub is : frame_in ws (n - 1) ≡ top

pub no_top : (fs : List Frame) (ws : List ℕ) (n : ℕ) → Frames fs ws n → n ≡ 0 → fs ≡ []
no_top [] ws n p e = refl
no_top (f ∷ fs) ws n p e = let c = p.count in absurd (omega arith)

pub some-top : (fs : List Frame) (ws : List ℕ) (n : ℕ) → Frames fs ws n → 1 ≤ n → Top fs ws n
some-top [] ws n p h = let c = p.count in absurd (omega arith)
some-top (f ∷ fs) ws n p h = record { top = f; rest = fs; are = refl; is = top_frame f fs ws n p }

-- ---- its pc and its registers

module _ (l : Sizes) (M : Lent) (m : Machine) (f : Fuel) (w : World) (rep : Rep l w M m f) (s : Setup) (names : each (frame_names s) w.frames ≡ true) where
  pub step_fits : StepFits M.frames m.depth
  step_fits = record { within = rep.frames.within; narrow = λ h. go (some-top w.frames M.frames m.depth rep.frames h) }
    where
      go : Top w.frames M.frames m.depth → get_or M.frames ((m.depth - 1) * 6 + 1) 0 < 2 ^ 32
      go t =
          let n : each (frame_names s) (t.top ∷ t.rest) ≡ true = subst (λ fs. each (frame_names s) fs ≡ true) t.are names in
          let small = ltb-true t.top.pc (2 ^ 32) (and_right (is_function s t.top.func) (ltb t.top.pc (2 ^ 32)) (and_left (frame_names s t.top) (each (frame_names s) t.rest) n)) in
          subst (λ k. k < 2 ^ 32) (sym (sym (chunk-get 6 (m.depth - 1) 1 M.frames (omega arith)) ∙ ap (λ g. g.pc) t.is)) small

  pub reg_in : (r : ℕ) → lies_under r (length w.stack) w.frames ≡ true → RegFits M.stack M.frames m.height m.depth r
  reg_in r lies = (lands-fits l M m f w r rep (lies-land s w r (length w.stack) w.frames lies names refl refl)).reg

-- ---- of a sound world

pub known : (w : World) → sound w ≡ true → Sound false w
known w snd = sound→ w snd (λ z. no_false z)

pub names_in : (w : World) → sound w ≡ true → each (frame_names w.setup) w.frames ≡ true
names_in w snd = names_of w.setup (known w snd).tower.stands

module _ (w : World) (snd : sound w ≡ true) (x : Frame) (xs : List Frame) (are : w.frames ≡ x ∷ xs) where
  pub top-fits : Fits false w.setup (length w.stack) x xs
  top-fits = stands-within (subst (λ fs. Stands false w.setup (length w.stack) fs w.chain) are (known w snd).tower.stands)

  -- what its continuation names lies in the frame below
  pub cont-under : cont_lies x.cont (length (pop_top w).stack) (pop_top w).frames ≡ true
  cont-under =
      subst (λ fs. cont_lies x.cont (length (pop_on fs w).stack) (pop_on fs w).frames ≡ true) (sym are)
      (subst (λ n. cont_lies x.cont n xs ≡ true) (sym (length-take-le x.base w.stack top-fits.within)) top-fits.lies)

  pub pop-sounds : is_coro x.cont ≡ false → sound (pop_top w) ≡ true
  pop-sounds c = subst (λ fs. sound (pop_on fs w) ≡ true) (sym are) (→sound (pop_to x xs w) (pop-sound x xs w are c (known w snd)))

pub pop-fits : (l : Sizes) (M : Lent) (m : Machine) (f : Fuel) (w : World) → Rep l w M m f → sound w ≡ true → 1 ≤ m.depth → PopFits M.stack M.frames m
pop-fits l M m f w rep snd h =
    let t = some-top w.frames M.frames m.depth rep.frames h in
    let p : Frames (t.top ∷ t.rest) M.frames m.depth = subst (λ fs. Frames fs M.frames m.depth) t.are rep.frames in
    let b = top-base t.top t.rest M.frames m.depth p in
    let k = (top-fits w snd t.top t.rest t.are).within in
    let e = rep.stack.count in
    record { depth = record { some = h; within = rep.frames.within }; base = omega arith; height = rep.stack.within }

pub popped-setup : (fs : List Frame) (w : World) → (pop_on fs w).setup ≡ w.setup
popped-setup [] w = refl
popped-setup (f ∷ fs) w = refl

-- the next function may be called after a call's frame is gone
abbrev pub pop_ok : (l : Sizes) (M M' : Beside → Lent) (n n' : Numbers) (o : Ok l M n) (x : Frame) (xs : List Frame) → o.world.frames ≡ x ∷ xs → is_coro x.cont ≡ false
    → SameLengths (M o.beside) (M' o.beside) → Rep l (pop_top o.world) (M' o.beside) n'.machine (n'.fuel o.beside) → Ok l M' n'
pop_ok l M M' n n' o x xs are c same rep =
    record {
      world = pop_top o.world;
      beside = o.beside;
      rep = rep;
      sound = pop-sounds o.world o.sound x xs are c;
      room = room-same o.world.setup (pop_top o.world).setup (M o.beside) (M' o.beside) (popped-setup o.world.frames o.world) same o.room;
    }
