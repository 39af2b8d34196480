-- The search of the cleanup queue: the first word that starts, in the words and in the definition. Assumes nothing.
use mathlib.Core.Path.{◌≡◌, refl, sym, ap, ap₂, ◌∙◌}
use mathlib.Core.Bool.{Bool, true, false, ◌&&◌}
use mathlib.Core.List.{List, [], ◌∷◌}
use Prim.Native.Nat.{ℕ, zero, suc, ◌+◌, ◌≤◌, ◌<◌}
use native.Mathlib.Omega.{arith}
use native.Mathlib.Nat.{le_of_suc-le-suc}
use native.Mathlib.Numerals.{add-one}
use lib.ListN.{length, get_or, take, drop}
use lib.Dec.{eqb}
use lib.Seq.{drop-cons, length-take-le, get_or-take}
use Rattle.lists.specs.Pick.{pick, pick_true, pick-false}
use Rattle.heap.specs.Fault.{number_of}
use Rattle.heap.specs.Heap.{slots_of, coro_of}
use Rattle.heap.specs.Word.{nil}
use Rattle.heap.specs.declared.fault.Fault.{Fault}
use Rattle.std.specs.Prelude.{Result, Ok, Err, is_ok}
use Rattle.heap.specs.declared.object.CoroObj.{CoroObj}
use Rattle.model.specs.State.{is_suspended}
use Rattle.model.specs.World.{World, After, after, with_finalize}
use Rattle.model.specs.Heap.{coro, change_coro}
use Rattle.model.specs.Fuel.{unbank, set_finalizing}
use Rattle.model.specs.Coro.{coro_enter}
use Rattle.model.specs.Cleanup.{coro_suspended, is_entered, close, started, start_from, start_finalizer}
use Rattle.model.specs.declared.coro.Started.{Started}
use Rattle.model.specs.declared.machine.Driver.{Driver}
use Rattle.memory_world.specs.declared.machine.Machine.{Machine}
use Rattle.memory_world.specs.declared.machine.Sizes.{Sizes}
use Rattle.coro_enter.specs.Enter.{refusal_of}
use Rattle.coro_clean.specs.Start.{first_of, starts_as, starts, start_none, start_at}
use Rattle.coro_clean.proofs.Paid.{chosen, passed}

-- ---- the first of a list

module _ (p : ℕ → Bool) where
  first-here : (x : ℕ) (xs : List ℕ) → p x ≡ true → first_of p (x ∷ xs) ≡ 0
  first-here x xs e = chosen 0 (suc (first_of p xs)) (p x) e

  first-later : (x : ℕ) (xs : List ℕ) → p x ≡ false → first_of p (x ∷ xs) ≡ suc (first_of p xs)
  first-later x xs e = passed 0 (suc (first_of p xs)) (p x) e

  pub first-most : (xs : List ℕ) → first_of p xs ≤ length xs
  first-most [] = omega arith
  first-most (x ∷ xs) = go (p x) refl (first-most xs)
    where
      go : (b : Bool) → p x ≡ b → first_of p xs ≤ length xs → first_of p (x ∷ xs) ≤ suc (length xs)
      go true e h = let z = first-here x xs e in omega arith
      go false e h = let z = first-later x xs e in omega arith

  hit : (xs : List ℕ) (i : ℕ) → i < length xs → p (get_or xs i 0) ≡ true → first_of p (drop i xs) ≡ 0
  hit xs i h e = ap (first_of p) (drop-cons xs i 0 h) ∙ first-here (get_or xs i 0) (drop (suc i) xs) e

  miss : (xs : List ℕ) (i : ℕ) → i < length xs → p (get_or xs i 0) ≡ false → first_of p (drop i xs) ≡ suc (first_of p (drop (i + 1) xs))
  miss xs i h e =
      ap (first_of p) (drop-cons xs i 0 h) ∙ first-later (get_or xs i 0) (drop (suc i) xs) e ∙ ap (λ k. suc (first_of p (drop k xs))) (sym (add-one i))

  past : (xs : List ℕ) (i : ℕ) → length xs ≤ i → first_of p (drop i xs) ≡ 0
  past [] zero h = refl
  past [] (suc i) h = refl
  past (x ∷ xs) zero h = absurd (omega arith)
  past (x ∷ xs) (suc i) h = past xs i (le_of_suc-le-suc h)

  -- ---- a loop over the first n words

  module _ (ws : List ℕ) (n : ℕ) where
    -- i are passed: the first of the others is the first of all
    abbrev pub Ahead : ℕ → Type 0
    Ahead i = i + first_of p (drop i (take n ws)) ≡ first_of p (take n ws)

    pub ahead-start : Ahead 0
    ahead-start = let z : 0 + first_of p (take n ws) ≡ first_of p (take n ws) = omega arith in z

    module _ (i : ℕ) (fits : n ≤ length ws) (a : Ahead i) where
      long : length (take n ws) ≡ n
      long = length-take-le n ws fits

      here : (b : Bool) → i < n → p (get_or ws i 0) ≡ b → p (get_or (take n ws) i 0) ≡ b
      here b h e = ap p (get_or-take n ws i 0 h) ∙ e

      pub ahead-hit : i < n → p (get_or ws i 0) ≡ true → i ≡ first_of p (take n ws)
      ahead-hit h e = let k = long in let z = hit (take n ws) i (omega arith) (here true h e) in omega arith

      pub ahead-next : i < n → p (get_or ws i 0) ≡ false → Ahead (i + 1)
      ahead-next h e = let k = long in let z = miss (take n ws) i (omega arith) (here false h e) in omega arith

      pub ahead-end : n ≤ i → i ≡ first_of p (take n ws)
      ahead-end h = let k = long in let z = past (take n ws) i (omega arith) in omega arith

-- ---- the test of a word, by the code's tests

module _ (slots : List ℕ) (m : Machine) (l : Sizes) (v : ℕ) where
  pub starts-not : (g : Fault) → Err g ≡ coro_of (slots_of m.count slots) v → false ≡ starts slots m l v
  starts-not g e = ap (starts_as m l) e

  module _ (i : ℕ) (c : CoroObj) (found : Ok (i, c) ≡ coro_of (slots_of m.count slots) v) where
    pub starts-not-suspended : is_suspended c.state ≡ false → false ≡ starts slots m l v
    starts-not-suspended e = sym (ap (λ b. b && is_ok (refusal_of m.height m.depth l c)) e) ∙ ap (starts_as m l) found

    pub starts-suspended : (f : Result Unit Fault) → is_suspended c.state ≡ true → f ≡ refusal_of m.height m.depth l c → is_ok f ≡ starts slots m l v
    starts-suspended f e r =
        ap (λ (g : Result Unit Fault). is_ok g) r ∙ sym (ap (λ b. b && is_ok (refusal_of m.height m.depth l c)) e) ∙ ap (starts_as m l) found

-- ---- the definition goes the same way

-- its test of a word
abbrev pub test : World → ℕ → List ℕ → Bool
test w c queue = coro_suspended (coro w c) && is_entered (coro_enter c Driver.Finalize (with_finalize queue w)).answer

abbrev started_from : ℕ → ℕ → List ℕ → World → After Started
started_from n i queue w =
    let c = get_or queue i 0 in
    after (set_finalizing true (change_coro c (λ k. k) (close nil) (coro_enter c Driver.Finalize (with_finalize (drop (suc i) queue) w)).world)) (started true (n + suc i))

module _ (w : World) (p : ℕ → Bool) (same : (c : ℕ) (queue : List ℕ) → test w c queue ≡ p c) where
  abbrev emptied : ℕ → After Started
  emptied n = after (set_finalizing false (with_finalize [] w)) (started false n)

  none_from : (n : ℕ) (queue : List ℕ) → first_of p queue ≡ length queue → start_from n queue w ≡ emptied (n + length queue)
  none_from n [] e = ap emptied (let z : n ≡ n + 0 = omega arith in z)
  none_from n (c ∷ queue) e = go (p c) refl (none_from (suc n) queue)
    where
      go : (b : Bool) → p c ≡ b → (first_of p queue ≡ length queue → start_from (suc n) queue w ≡ emptied (suc n + length queue)) → start_from n (c ∷ queue) w ≡ emptied (n + suc (length queue))
      go true t next = absurd (let z = first-here p c queue t in omega arith)
      go false t next =
          let z = first-later p c queue t in
          passed _ (start_from (suc n) queue w) (test w c queue) (same c queue ∙ t) ∙ next (omega arith)
          ∙ ap emptied (let y : suc n + length queue ≡ n + suc (length queue) = omega arith in y)

  some-from : (n i : ℕ) (queue : List ℕ) → first_of p queue ≡ i → i < length queue → start_from n queue w ≡ started_from n i queue w
  some-from n i [] e h = absurd (omega arith)
  some-from n i (c ∷ queue) e h = go (p c) refl (λ j. some-from (suc n) j queue) i e h
    where
      go : (b : Bool) → p c ≡ b → ((j : ℕ) → first_of p queue ≡ j → j < length queue → start_from (suc n) queue w ≡ started_from (suc n) j queue w) → (j : ℕ)
          → first_of p (c ∷ queue) ≡ j → j < length (c ∷ queue) → start_from n (c ∷ queue) w ≡ started_from n j (c ∷ queue) w
      go true t next zero q k =
          chosen _ (start_from (suc n) queue w) (test w c queue) (same c queue ∙ t)
          ∙ ap (λ m. after (started_from n 0 (c ∷ queue) w).world (started true m)) (let y : suc n ≡ n + suc 0 = omega arith in y)
      go true t next (suc j) q k = absurd (let z = first-here p c queue t in omega arith)
      go false t next zero q k = absurd (let z = first-later p c queue t in omega arith)
      go false t next (suc j) q k =
          let z = first-later p c queue t in
          passed _ (start_from (suc n) queue w) (test w c queue) (same c queue ∙ t) ∙ next j (omega arith) (le_of_suc-le-suc k)
          ∙ ap (λ m. after (started_from n (suc j) (c ∷ queue) w).world (started true m)) (let y : suc n + suc j ≡ n + suc (suc j) = omega arith in y)

-- of the world whose fuel is taken back
module _ (w : World) (p : ℕ → Bool) (same : (c : ℕ) (queue : List ℕ) → test (unbank w) c queue ≡ p c) where
  pub starts_none : first_of p w.finalize ≡ length w.finalize → start_finalizer w ≡ start_none (unbank w)
  unfolding start_finalizer
  starts_none e = none_from (unbank w) p same 0 w.finalize e ∙ ap (λ k. after (start_none (unbank w)).world (started false k)) (let y : 0 + length w.finalize ≡ length w.finalize = omega arith in y)

  pub starts-at : (i : ℕ) → first_of p w.finalize ≡ i → i < length w.finalize → start_finalizer w ≡ start_at i (unbank w)
  unfolding start_finalizer
  starts-at i e h = some-from (unbank w) p same 0 i w.finalize e h ∙ ap (λ k. after (start_at i (unbank w)).world (started true k)) (let y : 0 + suc i ≡ suc i = omega arith in y)
