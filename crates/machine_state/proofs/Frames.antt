-- Frames pushed and gone, on the world. Assumes nothing.
use mathlib.Core.Path.{◌≡◌, refl, sym, ap, ap₂, ◌∙◌, subst}
use mathlib.Core.Bool.{Bool, true, false, ◌||◌}
use mathlib.Core.List.{List, [], ◌∷◌, ◌++◌}
use Prim.Native.Nat.{ℕ, ◌+◌, ◌-◌, ◌*◌, ◌^◌, ◌≤◌, ◌<◌}
use native.Mathlib.Omega.{arith}
use lib.ListN.{length, get_or, take, drop, replicate}
use lib.Dec.{ltb, leb}
use borrow.Author.Tests.{le-leb, lt-leb, lt-ltb, le-ltb, ltb-false, leb-false}
use Rattle.lists.specs.Pick.{pick}
use Rattle.heap.specs.declared.fault.Fault.{Fault}
use Rattle.model.specs.Program.{Setup, func}
use Rattle.model.specs.World.{World, After, after, with_stack, with_frames}
use Rattle.model.specs.Frames.{frame, step_pc, on_top, next_pc}
use Rattle.model.specs.Machine.{push_frame}
use Rattle.model.specs.Sound.{sound}
use Rattle.std.specs.Prelude.{Result, Ok, Err}
use Rattle.model.specs.declared.machine.Cont.{Cont}
use Rattle.model.specs.declared.machine.Frame.{Frame}
use Rattle.model.specs.declared.machine.Fuel.{Fuel}
use Rattle.claims_sound.proofs.Tests.{no_false, no_true, or-first, or-second}
use Rattle.claims_sound.proofs.Sound.{Sound, sound→, facts}
use Rattle.memory_tables.specs.Layout.{function_in, base_in}
use Rattle.memory_tables.specs.Does.{FramesDo, StackDo}
use Rattle.memory_tables.specs.Parts.{Frames}
use Rattle.memory_tables.proofs.Parts.{run-grow}
use Rattle.memory_tables.proofs.Decode.{top_frame}
use Rattle.lists.proofs.Tables.{chunk-get}
use Rattle.memory_tables.proofs.Setups.{functions-in, regs-in}
use Rattle.memory_world.specs.Memory.{Lent, Rep, Room, on_stack, on_frames}
use Rattle.memory_world.specs.Contract.{Does}
use Rattle.memory_world.specs.Numbers.{with_height, with_depth}
use Rattle.memory_world.specs.declared.machine.Machine.{Machine}
use Rattle.memory_world.specs.declared.machine.Sizes.{Sizes}
use Rattle.memory_world.proofs.Turn.{turn-stack, turn-frames}
use Rattle.machine_state.specs.Frame.{overflowing, pushed, pop_on, pop_top}

pub chosen : {A : Type 0} (x y : A) (b : Bool) → b ≡ true → pick b x y ≡ x
unfolding pick
chosen x y true e = refl
chosen x y false e = no_false e

pub passed : {A : Type 0} (x y : A) (b : Bool) → b ≡ false → pick b x y ≡ y
unfolding pick
passed x y true e = no_true e
passed x y false e = refl

-- ---- whether a frame fits

module _ (m : Machine) (l : Sizes) (n : ℕ) where
  pub too-deep : l.depth ≤ m.depth → true ≡ overflowing m l n
  too-deep h = sym (ap (λ b. b || ltb l.stack (m.height + n)) (le-leb l.depth m.depth h))

  pub too_wide : m.depth < l.depth → m.height ≤ l.stack → l.stack - m.height < n → true ≡ overflowing m l n
  too_wide h k g = sym (ap₂ (λ a b. a || b) (lt-leb l.depth m.depth h) (lt-ltb l.stack (m.height + n) (omega arith)))

  pub room-left : m.depth < l.depth → m.height ≤ l.stack → n ≤ l.stack - m.height → false ≡ overflowing m l n
  room-left h k g = sym (ap₂ (λ a b. a || b) (lt-leb l.depth m.depth h) (le-ltb l.stack (m.height + n) (omega arith)))

pub top-base : (f : Frame) (fs : List Frame) (ws : List ℕ) (n : ℕ) → Frames (f ∷ fs) ws n → base_in ws (n - 1) ≡ f.base
top-base f fs ws n p = sym (chunk-get 6 (n - 1) 2 ws (omega arith)) ∙ ap (λ g. g.base) (top_frame f fs ws n p)

-- ---- one world that the words stand for

module _ (l : Sizes) (w : World) (M : Lent) (m : Machine) (fuel : Fuel) (rep : Rep l w M m fuel) where
  -- the top frame gone
  pub pop-rep : 1 ≤ m.depth → (stack' frames' : List ℕ) (base : ℕ) → base ≡ base_in M.frames (m.depth - 1) → StackDo (take base) M.stack stack' m.height base
      → FramesDo (drop 1) M.frames frames' m.depth (m.depth - 1)
      → Rep l (pop_top w) (on_stack stack' (on_frames frames' M)) (with_height base (with_depth (m.depth - 1) m)) fuel
  pop-rep some stack' frames' base eb cut gone = go w.frames rep.frames b
    where
      M' : Lent
      M' = on_stack stack' (on_frames frames' M)

      m' : Machine
      m' = with_height base (with_depth (m.depth - 1) m)

      u : World
      u = with_stack (take base w.stack) w

      b : Rep l (with_frames (drop 1 w.frames) u) M' m' fuel
      b =
          turn-frames l u (on_stack stack' M) (with_height base m) fuel (turn-stack l w M m fuel rep (take base w.stack) stack' base (cut w.stack rep.stack))
          (drop 1 w.frames) frames' (m.depth - 1) (gone w.frames rep.frames)

      go : (fs : List Frame) → Frames fs M.frames m.depth → Rep l (with_frames (drop 1 fs) u) M' m' fuel → Rep l (pop_on fs w) M' m' fuel
      go [] p q = let c = p.count in absurd (omega arith)
      go (f ∷ fs) p q = subst (λ k. Rep l (with_frames fs (with_stack (take k w.stack) w)) M' m' fuel) (eb ∙ top-base f fs M.frames m.depth p) q

  -- the pc of a top frame steps, or there is none
  pub none-steps : m.depth ≡ 0 → Rep l (next_pc w) M m fuel
  none-steps e = subst (λ (fs : List Frame). Rep l (with_frames fs w) M m fuel) (go w.frames (sym rep.frames.count ∙ e)) rep
    where
      go : (fs : List Frame) → length fs ≡ 0 → fs ≡ on_top step_pc fs
      go [] p = refl
      go (f ∷ fs) p = absurd (omega arith)

  module _ (snd : sound w ≡ true) (f : ℕ) (function : f < get_or M.setup 13 0) where
    abbrev s : Setup
    s = w.setup

    known : Sound false w
    known = sound→ w snd (λ z. no_false z)

    among : f < length s.functions
    among = subst (λ k. f < k) (functions-in s M.setup rep.setup) function

    pub record Asked : Type 0 where
      pub function-there : 14 + f * 35 < length M.setup
      pub height : m.height ≤ l.stack

    pub asked : Room s M → Asked
    asked room =
        let a = among in
        let q = room.setup in
        let e = rep.stack.count in
        let z = rep.sizes.stack in
        let h = known.tower.height in
        record { function-there = omega arith; height = omega arith }

    module _ (closure : ℕ) (cont : Cont) where
      abbrev n : ℕ
      n = (function_in M.setup f).regs

      width_is : n ≡ (func s f).regs
      width_is = regs-in s M.setup rep.setup f function

      pub same_test : (leb s.limits.depth (length w.frames) || ltb s.limits.stack (length w.stack + (func s f).regs)) ≡ overflowing m l n
      same_test =
          ap₂ (λ a b. leb a (length w.frames) || ltb b (length w.stack + (func s f).regs)) (sym rep.sizes.depth) (sym rep.sizes.stack)
          ∙ ap₂ (λ a b. leb l.depth a || ltb l.stack (b + (func s f).regs)) (sym rep.frames.count) (sym rep.stack.count)
          ∙ ap (λ a. leb l.depth m.depth || ltb l.stack (m.height + a)) (sym width_is)

      pub push-refused : overflowing m l n ≡ true → Does l (push_frame f closure cont w) M m fuel (Err Fault.StackOverflow)
      unfolding push_frame
      push-refused e =
          subst (λ (z : After (Result ℕ Fault)). Does l z M m fuel (Err Fault.StackOverflow)) (sym (chosen _ _ _ (same_test ∙ e)))
          (record { world = rep; answer = refl })

      pub record Fitting : Type 0 where
        pub frames : m.depth * 6 + 6 ≤ length M.frames
        pub height : m.height + n < 2 ^ 64
        pub depth : m.depth + 1 < 2 ^ 64

      pub fitting : Room s M → overflowing m l n ≡ false → Fitting
      fitting room e =
          let f₁ = (facts s known.setup).depth in
          let f₂ = (facts s known.setup).stack in
          let a = leb-false l.depth m.depth (or-first (leb l.depth m.depth) (ltb l.stack (m.height + n)) e) in
          let b = ltb-false l.stack (m.height + n) (or-second (leb l.depth m.depth) (ltb l.stack (m.height + n)) e) in
          let q₁ = room.frames in
          let q₂ = room.stack in
          let z₁ = rep.sizes.depth in
          let z₂ = rep.sizes.stack in
          record { frames = omega arith; height = omega arith; depth = omega arith }

      pub push-done : l.stack ≤ length M.stack → overflowing m l n ≡ false → (frames' : List ℕ) → FramesDo (λ fs. frame f m.height closure cont ∷ fs) M.frames frames' m.depth (m.depth + 1)
          → Does l (push_frame f closure cont w) (on_frames frames' M) (pushed m n) fuel (Ok m.height)
      unfolding push_frame
      push-done q e frames' pushes =
          let b = ltb-false l.stack (m.height + n) (or-second (leb l.depth m.depth) (ltb l.stack (m.height + n)) e) in
          let grow = run-grow w.stack M.stack m.height n rep.stack (omega arith) in
          let x : World = with_stack (w.stack ++ replicate n 0) w in
          let u = turn-stack l w M m fuel rep (w.stack ++ replicate n 0) M.stack (m.height + n) grow in
          let t = turn-frames l x M (with_height (m.height + n) m) fuel u (frame f m.height closure cont ∷ w.frames) frames' (m.depth + 1) (pushes w.frames rep.frames) in
          subst (λ (o : After (Result ℕ Fault)). Does l o (on_frames frames' M) (pushed m n) fuel (Ok m.height))
          (sym (passed _ _ _ (same_test ∙ e)
          ∙ ap₂ (λ k base. after (with_frames (frame f base closure cont ∷ w.frames) (with_stack (w.stack ++ replicate k 0) w)) (Ok base)) (sym width_is) (sym rep.stack.count)))
          (record { world = t; answer = refl })
