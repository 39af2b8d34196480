-- The count in a cleanup's answer is the queue's loss. Assumes nothing.
use mathlib.Core.Path.{◌≡◌, refl, sym, ap, ap₂, ◌∙◌}
use mathlib.Core.Bool.{Bool, ◌&&◌}
use mathlib.Core.List.{List, [], ◌∷◌}
use Prim.Native.Nat.{ℕ, zero, suc, ◌+◌, ◌-◌, ◌≤◌}
use native.Mathlib.Omega.{arith}
use lib.ListN.{length, take, drop, length-drop}
use Rattle.lists.specs.Pick.{pick}
use Rattle.lists.specs.Parts.{pad}
use Rattle.heap.specs.Word.{nil}
use Rattle.model.specs.Object.{Core, Rest, Coroutine, Absent, Is}
use Rattle.model.specs.World.{World, After, with_finalize}
use Rattle.model.specs.Heap.{coro, change_as, change_coro}
use Rattle.model.specs.Fuel.{unbank}
use Rattle.model.specs.Coro.{enter_as, coro_enter}
use Rattle.model.specs.Cleanup.{close, start_from, start_finalizer}
use Rattle.std.specs.Prelude.{Result}
use Rattle.model.specs.declared.coro.Entered.{Entered}
use Rattle.heap.specs.declared.fault.Fault.{Fault}
use Rattle.model.specs.declared.coro.Started.{Started}
use Rattle.model.specs.declared.machine.Driver.{Driver}
use Rattle.model.specs.declared.machine.Fuel.{Fuel}
use Rattle.claims_sound.proofs.Tests.{picked}
use Rattle.memory_world.specs.Memory.{Lent, Rep}
use Rattle.memory_world.specs.Contract.{Does}
use Rattle.memory_world.specs.declared.machine.Machine.{Machine}
use Rattle.memory_world.specs.declared.machine.Sizes.{Sizes}
use Rattle.coro_clean.specs.Loss.{Lost, LostWords, Loss}
use Rattle.coro_clean.proofs.Starting.{queue-front}
use Rattle.coro_clean.proofs.Search.{test}

-- ---- an entry leaves the queue alone

enter-queue : (v : ℕ) (d : Driver) (w : World) → (coro_enter v d w).world.finalize ≡ w.finalize
unfolding coro_enter
enter-queue v d w = go (coro w v)
  where
    go : (c : Coroutine) → (enter_as c v d w).world.finalize ≡ w.finalize
    go Absent = refl
    go (Is k r) = picked (λ (o : After (Result Entered Fault)). o.world.finalize ≡ w.finalize) _ (λ _. refl) (λ _. picked (λ (o : After (Result Entered Fault)). o.world.finalize ≡ w.finalize) _ (λ _. refl) (λ _. refl))

change-queue : (v : ℕ) (f : Core → Core) (g : Rest → Rest) (w : World) → (change_coro v f g w).finalize ≡ w.finalize
change-queue v f g w = go (coro w v)
  where
    go : (c : Coroutine) → (change_as c v f g w).finalize ≡ w.finalize
    go Absent = refl
    go (Is k r) = refl

-- ---- the search, n words having been taken off before

record Took (n : ℕ) (queue : List ℕ) (o : After Started) : Type 0 where
  least : n ≤ o.answer.taken
  most : o.answer.taken ≤ n + length queue
  rest : o.world.finalize ≡ drop (o.answer.taken - n) queue

took : (n : ℕ) (queue : List ℕ) (w : World) → Took n queue (start_from n queue w)
took n [] w = record { least = omega arith; most = omega arith; rest = sym (nothing (n - n)) }
  where
    nothing : (k : ℕ) → drop {A = ℕ} k [] ≡ []
    nothing zero = refl
    nothing (suc k) = refl
took n (c ∷ queue) w =
    let next = took (suc n) queue w in
    picked (Took n (c ∷ queue)) (test w c queue)
    (λ _.
    record {
      least = omega arith;
      most = omega arith;
      rest =
          change-queue c (λ k. k) (close nil) (coro_enter c Driver.Finalize (with_finalize queue w)).world ∙ enter-queue c Driver.Finalize (with_finalize queue w)
          ∙ ap (λ k. drop k (c ∷ queue)) (let z : suc zero ≡ suc n - n = omega arith in z);
    })
    (λ _.
    let least = next.least in
    let most = next.most in
    record {
      least = omega arith;
      most = omega arith;
      rest = next.rest ∙ ap (λ k. drop k (c ∷ queue)) (let z : suc ((start_from (suc n) queue w).answer.taken - suc n) ≡ (start_from (suc n) queue w).answer.taken - n = omega arith in z);
    })

lost : (w : World) → Lost w
unfolding start_finalizer
lost w =
    let t = took 0 w.finalize (unbank w) in
    let most = t.most in
    let s : (start_finalizer w).answer.taken - 0 ≡ (start_finalizer w).answer.taken = omega arith in
    let rest : (start_finalizer w).world.finalize ≡ drop (start_finalizer w).answer.taken w.finalize = t.rest ∙ ap (λ k. drop k w.finalize) s in
    let l : length (start_finalizer w).world.finalize ≡ length w.finalize - (start_finalizer w).answer.taken = ap length rest ∙ length-drop (start_finalizer w).answer.taken w.finalize in
    record { rest = rest; count = omega arith }

lost-words : (l : Sizes) (w : World) (M M' : Lent) (m m' : Machine) (f f' : Fuel) (a : Started) → Rep l w M m f → Does l (start_finalizer w) M' m' f' a → LostWords M M' m m' a
lost-words l w M M' m m' f f' a rep did =
    let t = lost w in
    let k = rep.finalize.count in
    let k' = did.world.finalize.count in
    let e : a.taken ≡ (start_finalizer w).answer.taken = ap (λ s. s.taken) did.answer in
    let n = t.count in
    record {
      words =
          did.world.finalize.are
          ∙ ap (pad (length M'.finalize)) (t.rest ∙ ap₂ (λ i (q : List ℕ). drop i q) (sym e) (sym (queue-front w.finalize M.finalize m.finalize rep.finalize)));
      count = omega arith;
    }

pub loss : Loss
loss = record { world = lost; words = lost-words }
