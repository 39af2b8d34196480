-- Spawn on the world: a creation, a unit paid, and the hook's frame. Assumes nothing.
use mathlib.Core.Path.{◌≡◌, refl, sym, ap, ◌∙◌, subst}
use mathlib.Core.Bool.{Bool, true, false, ◌||◌}
use mathlib.Core.List.{List, [], ◌∷◌, ◌++◌}
use Prim.Native.Nat.{ℕ, ◌+◌, ◌≤◌, ◌<◌}
use native.Mathlib.Omega.{arith}
use native.Mathlib.Nat.{add-zero}
use lib.ListN.{length, get_or, set, replicate, length-append, length-replicate}
use lib.Dec.{ltb, leb}
use borrow.Author.Tests.{ltb-true}
use types.Run.{OneOf, miss}
use denote.Enum.Declared.{tag_of}
use Rattle.lists.specs.Pick.{pick}
use Rattle.lists.proofs.Tests.{never}
use Rattle.heap.specs.Word.{nil}
use Rattle.heap.specs.declared.fault.Fault.{Fault}
use Rattle.std.specs.Prelude.{Option, Result, Some, None, Ok, Err}
use Rattle.model.specs.Program.{func, is_function, hook_ok}
use Rattle.model.specs.World.{World, After, after, and_then, with_stack, with_frames}
use Rattle.model.specs.Frames.{frame, top_base, put_at, put_reg, store_pc}
use Rattle.model.specs.Heap.{refuse}
use Rattle.model.specs.Cleanup.{charge}
use Rattle.model.specs.Machine.{push_frame}
use Rattle.model.specs.Exec.{indirect, hooked, call_hook, spawn_made, spawn_with, spawn}
use Rattle.model.specs.Sound.{sound}
use Rattle.model.specs.declared.exec.Step.{Step}
use Rattle.model.specs.declared.machine.Charge.{Charge}
use Rattle.model.specs.contracts.machine.Charge as Charge'
use Rattle.model.specs.declared.machine.Cont.{Cont}
use Rattle.model.specs.declared.machine.Frame.{Frame}
use Rattle.model.specs.declared.machine.Fuel.{Fuel}
use Rattle.claims_sound.proofs.Tests.{and_left, and_right}
use Rattle.claims_sound.proofs.Sound.{→sound, facts}
use Rattle.claims_sound.proofs.Charge.{charge-good}
use Rattle.claims_sound.proofs.Made.{indirect-good}
use Rattle.memory_tables.specs.Does.{RegFits}
use Rattle.memory_tables.specs.Layout.{function_in}
use Rattle.memory_tables.specs.Sizes.{hook_of}
use Rattle.memory_tables.proofs.Setups.{hook-in, regs-in}
use Rattle.memory_tables.proofs.Doing.{reg-fits}
use Rattle.memory_world.specs.Memory.{Lent, Rep}
use Rattle.memory_world.specs.Lendings.{top_making, plain}
use Rattle.memory_world.specs.Contract.{Does}
use Rattle.memory_world.specs.declared.machine.Machine.{Machine}
use Rattle.memory_world.specs.declared.machine.Sizes.{Sizes}
use Rattle.memory_world.proofs.Does.{does, room-same}
use Rattle.machine_state.specs.Frame.{pushed_or, push_at, PushFits}
use Rattle.coro_create.proofs.Setting.{known, named_in}
use Rattle.exec_make.specs.Spawn.{hook_frame, hook_paid, HookFits, SpawnFits}
use Rattle.exec_make.proofs.Newly.{still-fits}

-- ---- the hook is a function with a register

pub record Hook (M : Lent) (hook : ℕ) : Type 0 where
  pub function : hook < get_or M.setup 13 0
  pub register : 1 ≤ (function_in M.setup hook).regs

pub hook-there : (l : Sizes) (w : World) (M : Lent) (m : Machine) (fuel : Fuel) → Rep l w M m fuel → sound w ≡ true → (hook : ℕ) → Some hook ≡ hook_of M.setup → Hook M hook
hook-there l w M m fuel rep snd hook e =
    let s = w.setup in
    let ok : hook_ok s (Some hook) ≡ true = ap (hook_ok s) (e ∙ hook-in s M.setup rep.setup) ∙ (facts s (known w snd).setup).hook in
    let named = named_in l M m fuel w rep hook (and_left (is_function s hook) (ltb 0 (func s hook).regs) ok) in
    let wide = ltb-true 0 (func s hook).regs (and_right (is_function s hook) (ltb 0 (func s hook).regs) ok) in
    let same = regs-in s M.setup rep.setup hook named in
    record { function = named; register = omega arith }

-- what its call asks, after the creation
pub hook-asks : {l : Sizes} {stack frames slots saved_stack saved_frames setup slots' saved_stack' saved_frames' : List ℕ} {m n : Machine} {pc dst callee argc : ℕ}
    → (p : SpawnFits l stack frames slots saved_stack saved_frames setup m pc dst callee argc) (hook : ℕ) → Some hook ≡ hook_of setup
    → Rep l (indirect dst callee argc p.indirect.ok.world).world (top_making stack frames slots' saved_stack' saved_frames' setup plain p.indirect.ok.beside) n p.indirect.ok.beside.fuel
    → length slots' ≡ length slots → length saved_stack' ≡ length saved_stack → length saved_frames' ≡ length saved_frames → HookFits l stack frames setup n pc hook
hook-asks {l} {stack} {frames} {slots} {saved_stack} {saved_frames} {setup} {slots'} {saved_stack'} {saved_frames'} {m} {n} {pc} {dst} {callee} {argc} p hook e rep k₁ k₂ k₃ =
    let o = p.indirect.ok in
    let M = top_making stack frames slots saved_stack saved_frames setup plain o.beside in
    let M' = top_making stack frames slots' saved_stack' saved_frames' setup plain o.beside in
    let u = (indirect dst callee argc o.world).world in
    let made = indirect-good dst callee argc o.world (known o.world o.sound) in
    let there = hook-there l o.world M m o.beside.fuel o.rep o.sound hook e in
    let fits = still-fits l o.world u M M' m n o.beside.fuel o.beside.fuel dst made.fact.still o.rep rep p.indirect.reg in
    let room = room-same o.world.setup u.setup M M' made.fact.still.setup
    (record { stack = refl; frames = refl; chain = refl; slots = k₁; saved_stack = k₂; saved_frames = k₃; ready = refl; finalize = refl; setup = refl }) o.room in
    let pushes : PushFits l stack frames setup n hook =
    record { ok = record { world = u; beside = record { words = M'; fuel = o.beside.fuel }; rep = rep; sound = →sound u made.sound; room = room }; function = there.function } in
    record { call = record { push = pushes; some = fits.some; narrow = p.narrow }; register = there.register }

-- ---- the hook's frame, by the frame that a call pushes

module _ (hook pc dst c : ℕ) (w : World) where
  abbrev pushing : After (Result ℕ Fault)
  pushing = push_at pc hook nil (Cont.Value dst) w

  -- refused or not, the hook's frame goes by the answer of the push
  hook-by : hook_frame hook pc dst c w ≡ and_then pushing (hooked w c)
  unfolding push_at
  hook-by = go (push_frame hook nil (Cont.Value dst) (store_pc pc w)).world (push_frame hook nil (Cont.Value dst) (store_pc pc w)).answer
    where
      go : (u : World) (a : Result ℕ Fault) → hooked w c u a ≡ and_then (pushed_or w u a) (hooked w c)
      go u (Ok base) = refl
      go u (Err f) = refl

  -- ---- what a push leaves

  abbrev wide : ℕ
  wide = (func w.setup hook).regs

  abbrev new : World
  new = with_frames (frame hook (length w.stack) nil (Cont.Value dst) ∷ (store_pc pc w).frames) (with_stack (w.stack ++ replicate wide 0) (store_pc pc w))

  -- by the test of its room
  abbrev out : Bool → After (Result ℕ Fault)
  out t = and_then (pick t (refuse (store_pc pc w) Fault.StackOverflow) (after new (Ok (length w.stack)))) (pushed_or w)

  record Pushed (o : After (Result ℕ Fault)) (base : ℕ) : Type 0 where
    rest : List Frame
    frames : o.world.frames ≡ frame hook base nil (Cont.Value dst) ∷ rest
    stack : length o.world.stack ≡ base + wide

  by-test : (t : Bool) (base : ℕ) → Ok base ≡ (out t).answer → Pushed (out t) base
  unfolding pick
  by-test true base e = never cc
  by-test false base e =
      let z : base ≡ length w.stack = cc in
      let a : length (w.stack ++ replicate wide 0) ≡ length w.stack + length (replicate {A = ℕ} wide 0) = length-append w.stack (replicate wide 0) in
      let r : length (replicate {A = ℕ} wide 0) ≡ wide = length-replicate wide 0 in
      record { rest = (store_pc pc w).frames; frames = ap (λ k. frame hook k nil (Cont.Value dst) ∷ (store_pc pc w).frames) (sym z); stack = omega arith }

  pushed : (base : ℕ) → Ok base ≡ pushing.answer → Pushed pushing base
  unfolding push_at push_frame
  pushed base e =
      by-test (leb w.setup.limits.depth (length (store_pc pc w).frames) || ltb w.setup.limits.stack (length w.stack + wide)) base e

  -- refused, nothing was stored
  left : (g : Fault) → Err g ≡ pushing.answer → pushing.world ≡ w
  unfolding push_at
  left g e = go (push_frame hook nil (Cont.Value dst) (store_pc pc w)).world (push_frame hook nil (Cont.Value dst) (store_pc pc w)).answer e
    where
      go : (u : World) (a : Result ℕ Fault) → Err g ≡ (pushed_or w u a).answer → (pushed_or w u a).world ≡ w
      go u (Ok base) e = never cc
      go u (Err f) e = refl

  module _ (l : Sizes) (M : Lent) (n : Machine) (fuel : Fuel) where
    pub hook-refused : (g : Fault) → Err g ≡ pushing.answer → Rep l pushing.world M n fuel → Does l (hook_frame hook pc dst c w) M n fuel (Step.Fault g)
    hook-refused g e rep =
        does l M n fuel (hook_frame hook pc dst c w) w (Step.Fault g) (hook-by ∙ ap (hooked w c pushing.world) (sym e)) (subst (λ x. Rep l x M n fuel) (left g e) rep)

    module _ (base : ℕ) (e : Ok base ≡ pushing.answer) where
      -- the first register of the hook's frame
      pub hook-fits : Rep l pushing.world M n fuel → 1 ≤ wide → RegFits M.stack M.frames n.height n.depth 0
      hook-fits rep h =
          let u = pushing.world in
          let p = pushed base e in
          let some : length u.frames ≡ length (frame hook base nil (Cont.Value dst) ∷ p.rest) = ap length p.frames in
          let top : top_base u.frames ≡ base = ap top_base p.frames in
          let tall = p.stack in
          reg-fits u.stack u.frames M.stack M.frames n.height n.depth 0 rep.stack rep.frames (omega arith) (omega arith)

      first : put_reg 0 c pushing.world ≡ with_stack (set pushing.world.stack base c) pushing.world
      first =
          let u = pushing.world in
          ap (λ fs. with_stack (put_at fs 0 c u.stack) u) (pushed base e).frames ∙ ap (λ k. with_stack (set u.stack k c) u) (add-zero base)

      pub hook-done : Rep l (put_reg 0 c pushing.world) M n fuel → Does l (hook_frame hook pc dst c w) M n fuel Step.Frame
      hook-done rep =
          does l M n fuel (hook_frame hook pc dst c w) (with_stack (set pushing.world.stack base c) pushing.world) Step.Frame
          (hook-by ∙ ap (hooked w c pushing.world) (sym e)) (subst (λ x. Rep l x M n fuel) first rep)

-- ---- its unit

pub paid-sound : (w : World) → sound w ≡ true → sound (charge None w).world ≡ true
paid-sound w snd = →sound (charge None w).world (charge-good None w refl (known w snd)).sound

module _ (hook pc dst c : ℕ) (w : World) (l : Sizes) (M : Lent) (n : Machine) (fuel : Fuel) where
  pub not-paid : Does l (charge None w) M n fuel Charge.Spent → Does l (hook_paid hook pc dst c w) M n fuel (Step.Fault Fault.OutOfFuel)
  not-paid d =
      does l M n fuel (hook_paid hook pc dst c w) (charge None w).world (Step.Fault Fault.OutOfFuel)
      (ap (call_hook hook pc dst c (charge None w).world) (sym d.answer)) d.world

  -- any other answer of a charge is a unit paid
  going_on : (u : World) (a : Charge) → OneOf (0 ∷ 2 ∷ []) (tag_of Charge'.the_type a) → call_hook hook pc dst c u a ≡ hook_frame hook pc dst c u
  going_on u (Charge.Done k) h = refl
  going_on u Charge.Spent h = absurd (miss (0 ∷ 2 ∷ []) 1 tt h)
  going_on u (Charge.Close k) h = refl

  pub was-paid : (a : Charge) (s : Step) → OneOf (0 ∷ 2 ∷ []) (tag_of Charge'.the_type a) → a ≡ (charge None w).answer
      → Does l (hook_frame hook pc dst c (charge None w).world) M n fuel s → Does l (hook_paid hook pc dst c w) M n fuel s
  was-paid a s h e d =
      let u = (charge None w).world in
      subst (λ o. Does l o M n fuel s) (sym (going_on u a h) ∙ ap (call_hook hook pc dst c u) e) d

-- ---- Spawn, by the set-up's hook and what indirect answers

module _ (l : Sizes) (w : World) (M : Lent) (m : Machine) (fuel : Fuel) (rep : Rep l w M m fuel) (pc dst callee argc : ℕ) where
  by-hook : (o : Option ℕ) → o ≡ hook_of M.setup → spawn pc dst callee argc w ≡ spawn_with o pc dst callee argc w
  unfolding spawn
  by-hook o e = ap (λ x. spawn_with x pc dst callee argc w) (sym (e ∙ hook-in w.setup M.setup rep.setup))

  pub no-hook : None ≡ hook_of M.setup → Does l (spawn pc dst callee argc w) M m fuel (Step.Fault Fault.NoScheduler)
  no-hook e = does l M m fuel (spawn pc dst callee argc w) w (Step.Fault Fault.NoScheduler) (by-hook None e) rep

  module _ (hook : ℕ) (e : Some hook ≡ hook_of M.setup) (M' : Lent) (n : Machine) (g : Fuel) where
    pub spawn-refused : (a : Result ℕ Fault) (f : Fault) → a ≡ Err f → Does l (indirect dst callee argc w) M' n g a → Does l (spawn pc dst callee argc w) M' n g (Step.Fault f)
    spawn-refused a f ea d =
        let o = indirect dst callee argc w in
        does l M' n g (spawn pc dst callee argc w) o.world (Step.Fault f) (by-hook (Some hook) e ∙ ap (spawn_made hook pc dst o.world) (sym d.answer ∙ ea)) d.world

    pub spawn-called : (c : ℕ) (s : Step) → Ok c ≡ (indirect dst callee argc w).answer → Does l (hook_paid hook pc dst c (indirect dst callee argc w).world) M' n g s
        → Does l (spawn pc dst callee argc w) M' n g s
    spawn-called c s ec d =
        let o = indirect dst callee argc w in
        subst (λ x. Does l x M' n g s) (sym (by-hook (Some hook) e ∙ ap (spawn_made hook pc dst o.world) (sym ec))) d
