-- Yield, YieldKv and Await on the world. Assumes nothing.
use mathlib.Core.Path.{◌≡◌, refl, sym, ap, ap₂, ◌∙◌, subst}
use mathlib.Core.Bool.{true, false, not}
use mathlib.Core.List.{List, [], ◌∷◌}
use Prim.Native.Nat.{ℕ, zero, suc, ◌-◌, ◌^◌, ◌≤◌, ◌<◌}
use native.Mathlib.Omega.{arith}
use lib.ListN.{length}
use Rattle.heap.specs.declared.fault.Fault.{Fault}
use Rattle.heap.specs.declared.object.CoroState.{CoroState}
use Rattle.model.specs.World.{World, After, and_then}
use Rattle.model.specs.Frames.{reg}
use Rattle.heap.specs.Coding.{of_bits}
use Rattle.heap.specs.Int.{inline_of, next_key}
use Rattle.std.specs.Prelude.{Option, Result, Some, None, Err}
use Rattle.heap.specs.declared.value.Word.{Word}
use Rattle.model.specs.Object.{Object}
use Rattle.model.specs.Heap.{coro, fits, slots_full, alloc, encode_at, encode_int}
use Rattle.model.specs.Exec.{largest_in, key_at, key_exact, auto_key, suspend, yield_key, yield_on, yield, yield_kv_on, yield_kv, await_on, await}
use Rattle.model.specs.Sound.{sound}
use Rattle.model.specs.declared.exec.Step.{Step}
use Rattle.model.specs.declared.machine.Active.{Active}
use Rattle.model.specs.declared.machine.Fuel.{Fuel}
use Rattle.claims_sound.proofs.Tests.{no_false, picked}
use Rattle.claims_sound.proofs.Sound.{sound→, →sound}
use Rattle.claims_sound.proofs.Made.{auto-good}
use Rattle.memory_tables.specs.Layout.{active_in}
use Rattle.memory_tables.specs.Parts.{Chain}
use Rattle.memory_tables.proofs.Decode.{top-active}
use Rattle.memory_world.specs.Memory.{Lent, Rep, Room}
use Rattle.memory_world.specs.Lendings.{lent}
use Rattle.memory_world.specs.Contract.{Ok, Does, only}
use Rattle.memory_world.specs.declared.machine.Machine.{Machine}
use Rattle.memory_world.specs.declared.machine.Sizes.{Sizes}
use Rattle.memory_world.proofs.Does.{does}
use Rattle.exec_yield.specs.Suspend.{RunFits}
use Rattle.exec_yield.specs.Yielding.{keys_for}

-- ---- whether a coroutine runs

pub some-active : (n : ℕ) → (n ≡ 0 → ⊥) → 1 ≤ n
some-active zero h = absurd (h refl)
some-active (suc n) h = omega arith

none_runs : (cs : List Active) → 0 ≡ length cs → cs ≡ []
none_runs [] e = refl
none_runs (a ∷ cs) e = absurd (omega arith)

pub record Innermost (cs : List Active) : Type 0 where
  pub active : Active
  pub rest : List Active
  pub are : cs ≡ active ∷ rest

one-runs : (cs : List Active) → 1 ≤ length cs → Innermost cs
one-runs [] h = absurd (omega arith)
one-runs (a ∷ cs) h = record { active = a; rest = cs; are = refl }

module _ (l : Sizes) (w : World) (M : Lent) (m : Machine) (f : Fuel) (rep : Rep l w M m f) where
  pub idle : m.active ≡ 0 → w.chain ≡ []
  idle e = none_runs w.chain (sym e ∙ rep.chain.count)

  pub runs : 1 ≤ m.active → Innermost w.chain
  runs h = one-runs w.chain (subst (λ n. 1 ≤ n) rep.chain.count h)

  -- the innermost one in the words
  pub innermost : (h : 1 ≤ m.active) → active_in M.chain (m.active - 1) ≡ (runs h).active
  innermost h = top-active (runs h).active (runs h).rest M.chain m.active (subst (λ cs. Chain cs M.chain m.active) (runs h).are rep.chain)

-- ---- the three instructions, where none runs, and where one does

module _ (l : Sizes) (M : Lent) (m : Machine) (f : Fuel) (w : World) (pc dst src : ℕ) where
  pub await-idle : w.chain ≡ [] → Rep l w M m f → Does l (await pc dst src w) M m f (Step.Fault Fault.CannotSuspend)
  unfolding await
  await-idle e rep = does l M m f (await pc dst src w) w (Step.Fault Fault.CannotSuspend) (ap (λ cs. await_on cs pc dst src w) e) rep

  pub await-runs : (i : Innermost w.chain) (p : ℕ) (s : Step) → p ≡ reg w src → Does l (suspend pc CoroState.Awaiting dst p None w) M m f s → Does l (await pc dst src w) M m f s
  unfolding await
  await-runs i p s e d =
      subst (λ o. Does l o M m f s) (ap (λ x. suspend pc CoroState.Awaiting dst x None w) e ∙ sym (ap (λ cs. await_on cs pc dst src w) i.are)) d

  pub kv-idle : (key : ℕ) → w.chain ≡ [] → Rep l w M m f → Does l (yield_kv pc dst src key w) M m f (Step.Fault Fault.CannotSuspend)
  unfolding yield_kv
  kv-idle key e rep = does l M m f (yield_kv pc dst src key w) w (Step.Fault Fault.CannotSuspend) (ap (λ cs. yield_kv_on cs pc dst src key w) e) rep

  pub kv-runs : (key : ℕ) (i : Innermost w.chain) (p v k : ℕ) (keys : Option (ℕ × ℕ)) (s : Step) → p ≡ reg w src → v ≡ i.active.coro → k ≡ reg w key → keys ≡ keys_for v k w
      → Does l (suspend pc CoroState.Yielded dst p keys w) M m f s → Does l (yield_kv pc dst src key w) M m f s
  unfolding yield_kv
  kv-runs key i p v k keys s ep ev ek es d =
      subst (λ o. Does l o M m f s)
      (ap₂ (λ x y. suspend pc CoroState.Yielded dst x y w) ep (es ∙ ap₂ (λ x y. keys_for x y w) ev ek) ∙ sym (ap (λ cs. yield_kv_on cs pc dst src key w) i.are)) d

  pub yield-idle : w.chain ≡ [] → Rep l w M m f → Does l (yield pc dst src w) M m f (Step.Fault Fault.CannotSuspend)
  unfolding yield
  yield-idle e rep = does l M m f (yield pc dst src w) w (Step.Fault Fault.CannotSuspend) (ap (λ cs. yield_on cs pc dst src w) e) rep

  pub yield-runs : (i : Innermost w.chain) (p v largest : ℕ) (key : Result (ℕ × ℕ) Fault) (s : Step) → p ≡ reg w src → v ≡ i.active.coro → largest ≡ largest_in (coro w v)
      → key ≡ (auto_key largest w).answer → Does l (yield_key pc dst p (auto_key largest w).world key) M m f s → Does l (yield pc dst src w) M m f s
  unfolding yield
  yield-runs i p v largest key s ep ev el ek d =
      subst (λ o. Does l o M m f s)
      (ap₂ (λ x k. yield_key pc dst x (auto_key largest w).world k) ep ek
      ∙ ap (λ x. and_then (auto_key x w) (yield_key pc dst (reg w src))) (el ∙ ap (λ x. largest_in (coro w x)) ev)
      ∙ sym (ap (λ cs. yield_on cs pc dst src w) i.are)) d

-- ---- a yield whose key was made, or not

module _ (l : Sizes) (M : Lent) (m : Machine) (f : Fuel) (w : World) (pc dst p : ℕ) (a : Result (ℕ × ℕ) Fault) (s : Step) where
  pub keyed-yield : (key largest : ℕ) → a ≡ Result.Ok (key, largest) → Does l (suspend pc CoroState.Yielded dst p (Some (key, largest)) w) M m f s → Does l (yield_key pc dst p w a) M m f s
  keyed-yield key largest e d = subst (λ o. Does l o M m f s) (sym (ap (yield_key pc dst p w) e)) d

pub unkeyed-yield : (l : Sizes) (M : Lent) (m : Machine) (f : Fuel) (w : World) (pc dst p : ℕ) (a : Result (ℕ × ℕ) Fault) (g : Fault) → a ≡ Err g → Rep l w M m f
    → Does l (yield_key pc dst p w a) M m f (Step.Fault g)
unkeyed-yield l M m f w pc dst p a g e rep = does l M m f (yield_key pc dst p w a) w (Step.Fault g) (ap (yield_key pc dst p w) e) rep

-- ---- before and after a key

alloc-chain : (bytes : ℕ) (o : Object) (w : World) → (alloc bytes o w).world.chain ≡ w.chain
unfolding alloc
alloc-chain bytes o w =
    let P : After (Result ℕ Fault) → Type 0 = λ x. x.world.chain ≡ w.chain in
    picked P (not (fits w bytes)) (λ _. refl) (λ _. picked P (slots_full w) (λ _. refl) (λ _. refl))

encode-chain : (i : Option Word) (n : ℕ) (w : World) → (encode_at i n w).world.chain ≡ w.chain
encode-chain (Some x) n w = refl
encode-chain None n w = alloc-chain w.setup.costs.int (Object.Int n) w

key-at-chain : (n : ℕ) (w : World) (a : Result ℕ Fault) → (key_at n w a).world.chain ≡ w.chain
key-at-chain n w (Result.Ok k) = refl
key-at-chain n w (Err f) = refl

pub key-chain : (largest : ℕ) (w : World) → (auto_key largest w).world.chain ≡ w.chain
unfolding auto_key
key-chain largest w = go (next_key largest)
  where
    go : (x : Option ℕ) → (key_exact x w).world.chain ≡ w.chain
    go (Some n) = key-at-chain n (encode_int n w).world (encode_int n w).answer ∙ encode-chain (inline_of (of_bits 63 n)) n w
    go None = refl

pub key-sounds : (largest : ℕ) (w : World) → sound w ≡ true → sound (auto_key largest w).world ≡ true
key-sounds largest w snd = →sound {ex = false} _ (auto-good largest w (sound→ w snd (λ z. no_false z))).sound

module _ (l : Sizes) (m n : Machine) (stack frames chain slots saved_stack saved_frames slots' : List ℕ) (largest pc : ℕ) where
  pub key-run : (o : Ok l (lent stack frames chain slots saved_stack saved_frames) (only m)) → length slots' ≡ length slots → 1 ≤ m.active → pc < 2 ^ 32
      → Rep l (auto_key largest o.world).world (lent stack frames chain slots' saved_stack saved_frames o.beside) n o.beside.fuel
      → RunFits l stack frames chain slots' saved_stack saved_frames n pc
  key-run o e h narrow rep =
      let same : (auto_key largest o.world).world.setup ≡ o.world.setup = (auto-good largest o.world (sound→ {ex = false} o.world o.sound (λ z. no_false z))).fact.still.setup in
      let q = o.room in
      let z = q.slots in
      let c₁ = o.rep.chain.count in
      let c₂ = rep.chain.count in
      let c₃ : length (auto_key largest o.world).world.chain ≡ length o.world.chain = ap length (key-chain largest o.world) in
      record {
        ok =
            record {
              world = (auto_key largest o.world).world;
              beside = o.beside;
              rep = rep;
              sound = key-sounds largest o.world o.sound;
              room = subst (λ x. Room x (lent stack frames chain slots' saved_stack saved_frames o.beside)) (sym same)
                  (record { stack = q.stack; frames = q.frames; chain = q.chain; slots = omega arith; saved_stack = q.saved_stack; saved_frames = q.saved_frames; ready = q.ready; finalize = q.finalize; setup = q.setup });
            };
        running = omega arith;
        narrow = narrow;
      }
