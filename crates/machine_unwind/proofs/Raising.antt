-- What is raised and where, a pc stored, and an unwinding, on the world. Assumes nothing.
use mathlib.Core.Path.{◌≡◌, refl, sym, ap, ap₂, ◌∙◌, subst}
use mathlib.Core.Bool.{Bool, true, false, ◌||◌}
use mathlib.Core.List.{List, []}
use Prim.Native.Nat.{ℕ, ◌-◌, ◌^◌, ◌≤◌, ◌<◌}
use native.Mathlib.Omega.{arith}
use lib.Dec.{eqb, leb}
use borrow.Author.Tests.{ltb-true, le-leb, lt-leb, eq-eqb, ne_eqb}
use Rattle.lists.specs.Pick.{pick, pick_true, pick-false}
use Rattle.heap.specs.Word.{nil}
use Rattle.heap.specs.Fault.{number_of, word_of}
use Rattle.heap.specs.declared.fault.Fault.{Fault}
use Rattle.model.specs.Object.{Object}
use Rattle.model.specs.Program.{between}
use Rattle.model.specs.World.{World, After, after, and_then, with_frames}
use Rattle.model.specs.Frames.{set_pc, on_top, top_func, top_pc}
use Rattle.model.specs.Heap.{alloc}
use Rattle.model.specs.Call.{opt_pc}
use Rattle.model.specs.Machine.{search, search_frames, search_made, error_of, unwind_fault, store_some, raisable, unwind}
use Rattle.model.specs.Sound.{sound}
use Rattle.model.specs.declared.call.Answer.{Answer}
use Rattle.std.specs.Prelude.{Option, Result, Some, None, Err}
use Rattle.model.specs.declared.machine.Frame.{Frame}
use Rattle.model.specs.declared.machine.Fuel.{Fuel}
use Rattle.claims_sound.proofs.Tests.{no_true, and_left, both, or_else, picked}
use Rattle.claims_sound.proofs.Good.{Still, still}
use Rattle.claims_sound.proofs.Raised.{func-small, pc-small, error-good, some-sound}
use Rattle.claims_sound.proofs.Sound.{→sound}
use Rattle.memory_tables.specs.Layout.{func_in, pc_in}
use Rattle.memory_world.specs.Memory.{Lent, Beside, Rep}
use Rattle.memory_world.specs.Contract.{Ok, Does, with}
use Rattle.memory_world.specs.declared.machine.Machine.{Machine}
use Rattle.memory_world.specs.declared.machine.Sizes.{Sizes}
use Rattle.memory_world.proofs.Does.{does, SameLengths, ok-next}
use Rattle.machine_state.proofs.Tops.{no_top, some-top, known}
use Rattle.machine_unwind.specs.Turns.{search_from, origin_of, thrown}
use Rattle.machine_unwind.specs.Fits.{SearchFits}
use Rattle.machine_unwind.specs.declared.turn.Origin.{Origin}
use Rattle.machine_unwind.proofs.Handlers.{its-func, its-pc}

-- ---- which faults are raised

abbrev range : ℕ → Bool
range n = between 1 10 n || eqb n 17

module _ (f : Fault) (n : ℕ) (is : n ≡ number_of f) where
  by-range : (b : Bool) → range n ≡ b → b ≡ raisable f
  by-range b e = sym e ∙ ap range is

  pub raises-word : n ≡ 17 → true ≡ raisable f
  raises-word e = by-range true (ap range e)

  pub raises-none : n ≡ 0 → false ≡ raisable f
  raises-none e = by-range false (ap range e)

  pub raises-some : (n ≡ 17 → ⊥) → (n ≡ 0 → ⊥) → leb n 10 ≡ raisable f
  raises-some a b = by-range (leb n 10) (rw (le-leb 1 n (omega (arith, b)), ne_eqb n 17 a) (or_off (leb n 10)))
    where
      or_off : (t : Bool) → (t || false) ≡ t
      or_off true = refl
      or_off false = refl

-- ---- where

none-there : (l : Sizes) (M : Lent) (m : Machine) (fuel : Fuel) (w : World) → Rep l w M m fuel → (pc : ℕ) → w.frames ≡ [] → Rep l (store_some (Some pc) w) M m fuel
none-there l M m fuel w rep pc e = subst (λ fs. Rep l (with_frames fs w) M m fuel) (go w.frames e) rep
  where
    go : (fs : List Frame) → fs ≡ [] → fs ≡ on_top (set_pc pc) fs
    go fs q = q ∙ ap (on_top (set_pc pc)) (sym q)

pub origin-small : (w : World) → sound w ≡ true → ((origin_of w).func < 2 ^ 32) × ((origin_of w).pc < 2 ^ 32)
origin-small w snd = (ltb-true _ _ (func-small w (known w snd)), ltb-true _ _ (pc-small w (known w snd)))

module _ (l : Sizes) (M : Lent) (m : Machine) (fuel : Fuel) (w : World) (rep : Rep l w M m fuel) where
  pub origin-none : m.depth ≡ 0 → (at : Origin) → at ≡ record { func = 0; pc = 0 } → at ≡ origin_of w
  origin-none e at q = q ∙ sym (ap (λ fs. record { func = top_func fs; pc = top_pc fs }) (no_top w.frames M.frames m.depth rep.frames e))

  pub origin-top : 1 ≤ m.depth → (f pc : ℕ) → f ≡ func_in M.frames (m.depth - 1) → pc ≡ pc_in M.frames (m.depth - 1) → record { func = f; pc = pc } ≡ origin_of w
  origin-top h f pc p q =
      let t = some-top w.frames M.frames m.depth rep.frames h in
      let a = p ∙ its-func w.frames M.frames m.depth rep.frames t in
      let b = q ∙ its-pc w.frames M.frames m.depth rep.frames t in
      (λ i. record { func = a i; pc = b i }) ∙ sym (ap (λ fs. record { func = top_func fs; pc = top_pc fs }) t.are)

  -- a pc that is given, without a frame
  pub none-stored : m.depth ≡ 0 → (pc : Option ℕ) → Rep l (store_some pc w) M m fuel
  none-stored e None = rep
  none-stored e (Some pc) = none-there l M m fuel w rep pc (no_top w.frames M.frames m.depth rep.frames e)

-- ---- what

module _ (l : Sizes) (M : Lent) (m : Machine) (fuel : Fuel) (w : World) (f : Fault) (at : Origin) (there : at ≡ origin_of w) (n : ℕ) (is : n ≡ number_of f) where
  by_number : (b c : Bool) → eqb n 17 ≡ b → leb n 8 ≡ c
      → thrown f w ≡ pick b (after w (Result.Ok (word_of f))) (pick c (alloc w.setup.costs.error (error_of f w) w) (after w (Err f)))
  unfolding thrown
  by_number b c p q = ap₂ (λ x y. pick x (after w (Result.Ok (word_of f))) (pick y (alloc w.setup.costs.error (error_of f w) w) (after w (Err f)))) (ap (λ k. eqb k 17) (sym is) ∙ p) (ap (λ k. leb k 8) (sym is) ∙ q)

  pub thrown-word : n ≡ 17 → (v : ℕ) → v ≡ word_of f → Rep l w M m fuel → Does l (thrown f w) M m fuel (Result.Ok v)
  thrown-word e v q rep = does l M m fuel (thrown f w) w (Result.Ok v) (by_number true (leb n 8) (eq-eqb n 17 e) refl ∙ pick_true _ _ ∙ ap (λ x. after w (Result.Ok x)) (sym q)) rep

  error-there : Object.Error n at.func at.pc nil ≡ error_of f w
  error-there = ap₂ (λ k (x : Origin). Object.Error k x.func x.pc nil) is there

  pub thrown-object : (n ≡ 17 → ⊥) → n ≤ 8 → (bytes : ℕ) (a : Result ℕ Fault) → bytes ≡ w.setup.costs.error → Does l (alloc bytes (Object.Error n at.func at.pc nil) w) M m fuel a → Does l (thrown f w) M m fuel a
  thrown-object e h bytes a q d =
      subst (λ o. Does l o M m fuel a) (ap₂ (λ x y. alloc x y w) q error-there ∙ sym (by_number false true (ne_eqb n 17 e) (le-leb n 8 h) ∙ pick-false _ _ ∙ pick_true _ _)) d

  pub thrown-passes : (n ≡ 17 → ⊥) → 8 < n → Rep l w M m fuel → Does l (thrown f w) M m fuel (Err f)
  thrown-passes e h rep = does l M m fuel (thrown f w) w (Err f) (by_number false false (ne_eqb n 17 e) (lt-leb n 8 h) ∙ pick-false _ _ ∙ pick-false _ _) rep

-- an error object leaves a sound world, with the same frames
pub record Raised (w u : World) : Type 0 where
  pub sound : sound u ≡ true
  pub still : Still w u

pub thrown-good : (f : Fault) (w : World) → sound w ≡ true → raisable f ≡ true → Raised w (thrown f w).world
unfolding thrown
thrown-good f w snd range =
    picked (λ (o : After (Result ℕ Fault)). Raised w o.world) (eqb (number_of f) 17) (λ _. same)
    (λ other.
    picked (λ (o : After (Result ℕ Fault)). Raised w o.world) (leb (number_of f) 8)
    (λ small.
    let from : between 1 8 (number_of f) ≡ true = both (or_else (between 1 10 (number_of f)) (eqb (number_of f) 17) range (λ z. and_left (leb 1 (number_of f)) (leb (number_of f) 10) z) (λ z. no_true (sym z ∙ other))) small in
    let made = error-good f w (known w snd) from in
    record { sound = →sound _ made.sound; still = made.fact.still })
    (λ _. same))
  where
    same : Raised w w
    same = record { sound = snd; still = still w }

-- what it asks then of the words
pub raised-fits : (l : Sizes) (M M' : Beside → Lent) (m m' : Machine) (fuel : Fuel) (o : Ok l M (with m fuel)) (f : Fault) → raisable f ≡ true → (at : Origin) → at ≡ origin_of o.world
    → SameLengths (M o.beside) (M' o.beside) → Rep l (thrown f o.world).world (M' o.beside) m' fuel → SearchFits l M' m' fuel at.func at.pc
raised-fits l M M' m m' fuel o f e at is same rep =
    let g = thrown-good f o.world o.sound e in
    let k = origin-small o.world o.sound in
    record {
      ok = ok-next l M M' (with m fuel) (with m' fuel) o (thrown f o.world).world g.still.setup g.sound same rep;
      func = subst (λ (x : Origin). x.func < 2 ^ 32) (sym is) k.0;
      pc = subst (λ (x : Origin). x.pc < 2 ^ 32) (sym is) k.1;
    }

-- ---- and what follows

module _ (f : Fault) (w : World) where
  raise-is : unwind_fault f w ≡ and_then (thrown f w) search_made
  unfolding thrown pick
  raise-is = go (eqb (number_of f) 17) (leb (number_of f) 8)
    where
      a : After (Result ℕ Fault)
      a = alloc w.setup.costs.error (error_of f w) w

      go : (b c : Bool) → pick b (search_frames (word_of f) w) (pick c (and_then a search_made) (after w (Answer.Refused f))) ≡ and_then (pick b (after w (Result.Ok (word_of f))) (pick c a (after w (Err f)))) search_made
      go true c = refl
      go false true = refl
      go false false = refl

  module _ (l : Sizes) (M : Lent) (m : Machine) (fuel : Fuel) where
    abbrev what : After (Result ℕ Fault)
    what = thrown f w

    pub raise-refused : (g : Fault) (a : Result ℕ Fault) → a ≡ Err g → Does l what M m fuel a → Does l (unwind_fault f w) M m fuel (Answer.Refused g)
    raise-refused g a e d = does l M m fuel (unwind_fault f w) what.world (Answer.Refused g) (raise-is ∙ ap (search_made what.world) (sym d.answer ∙ e)) d.world

    pub raise-searched : (v : ℕ) (a : Result ℕ Fault) (at : Origin) → a ≡ Result.Ok v → a ≡ what.answer → at ≡ origin_of w → what.world.frames ≡ w.frames → (x : Answer)
        → Does l (search_from v at.func at.pc what.world) M m fuel x → Does l (unwind_fault f w) M m fuel x
    unfolding search_from
    raise-searched v a at e q is same x d =
        let u = what.world in
        subst (λ o. Does l o M m fuel x)
        (ap (λ (y : Origin). search u.frames v y.func y.pc u) is ∙ ap (λ fs. search u.frames v (top_func fs) (top_pc fs) u) (sym same) ∙ sym (raise-is ∙ ap (search_made u) (sym q ∙ e))) d

pub some-sounds : (pc : Option ℕ) (w : World) → opt_pc pc ≡ true → sound w ≡ true → sound (store_some pc w) ≡ true
some-sounds pc w e snd = →sound (store_some pc w) (some-sound pc w e (known w snd))

pub some-setup : (pc : Option ℕ) (w : World) → (store_some pc w).setup ≡ w.setup
some-setup None w = refl
some-setup (Some pc) w = refl

module _ (l : Sizes) (M : Lent) (m : Machine) (fuel : Fuel) (w : World) (f : Fault) (pc : Option ℕ) where
  pub unwind-refused : raisable f ≡ false → Rep l w M m fuel → Does l (unwind f pc w) M m fuel (Answer.Refused Fault.Unsound)
  unfolding unwind
  unwind-refused e rep = does l M m fuel _ w (Answer.Refused Fault.Unsound) (ap (λ b. pick b (unwind_fault f (store_some pc w)) (after w (Answer.Refused Fault.Unsound))) e ∙ pick-false _ _) rep

  pub unwind-raises : (a : Answer) → raisable f ≡ true → Does l (unwind_fault f (store_some pc w)) M m fuel a → Does l (unwind f pc w) M m fuel a
  unfolding unwind
  unwind-raises a e d = subst (λ o. Does l o M m fuel a) (sym (ap (λ b. pick b (unwind_fault f (store_some pc w)) (after w (Answer.Refused Fault.Unsound))) e ∙ pick_true _ _)) d
