-- A list of linked calls is a list of turns. Assumes nothing.
use Prim.Native.Nat.{ℕ, ◌≤◌}
use native.Mathlib.Omega.{arith}
use mathlib.Core.Path.{◌≡◌, refl, sym, ap, ◌∙◌, subst}
use mathlib.Core.Bool.{Bool, true, false}
use mathlib.Core.List.{List, [], ◌∷◌, ◌++◌, map}
use lib.ListN.{length}
use lib.Dec.{leb}
use borrow.Author.Tests.{le-leb}
use Rattle.lists.specs.Pick.{pick}
use Rattle.model.specs.Lists.{each}
use Rattle.model.specs.Call.{is_word, typed, Operation}
use Rattle.model.specs.declared.call.Op.{Op}
use Rattle.claims_sound.proofs.Tests.{both}
use Rattle.memory_calls.specs.Call.{op_of}
use Rattle.std.specs.Prelude.{Ok}
use Rattle.memory_calls.proofs.Back.{read_back}
use Rattle.memory_calls.proofs.Typed.{read-typed}
use Rattle.claims_model.specs.Engine.{Turn, turn_call, turn_fuel, run_turns}
use Rattle.claims_model.specs.Demand3.{Enters, Suspends, Stops, Waits, Goes}
use Rattle.memory_step.specs.Step.{MemoryState, Left, set_up_ok, set_up_words, step_words, MemoryCall, SetUp, Do, memory_step}
use Rattle.memory_step.proofs.Kept.{refused-set-up}
use Rattle.claims_memory.specs.Engine.{memory_engine}
use Rattle.claims_memory.specs.Claim.{RestoredStack, UntouchedStack}
use Rattle.claims_memory.proofs.Claim.{claim}
use Rattle.outer_run.specs.Run.{count_of, do_words}
use Rattle.linked_calls.specs.Words.{fuel_in}
use Rattle.linked_calls.specs.Host.{Host, host, state_of, passes_test, Gave, kept_in, call_in, long, set_up_in}
use Rattle.linked_calls.proofs.Hosts.{numbers, sound}
use Rattle.claims_linked.specs.Batch.{Calls, none, BatchCalls}
use Rattle.claims_linked.specs.Linked as Linked
use Rattle.claims_linked.specs.Linked.{Link, bvm-set-up, bvm-call, bvm-call-unchecked, bvm-grant, bvm-run, bvm-switch, other-fuel, left_by, left_by_all, Fits, AllFit, TurnsOf, a-set-up, a_call, a-call-unchecked, a-grant, a-run, a-switch, a-record, TurnsOfAll, more, Restores, Comes, Between}
use Rattle.claims_linked.proofs.Answered.{kept, begun-by, set-up-is}
use Rattle.claims_linked.proofs.Batch.{first, listed, batch}
use Rattle.claims_linked.proofs.Library.{over-back, keeps, call_stays, library}
use Rattle.claims_linked.proofs.Words.{numbers-each}

-- what a link leaves passes, and is what its turns leave
record Leaves (h z : Host) (ts : List (Turn MemoryCall)) : Type 0 where
  passes : passes_test z ≡ true
  state : state_of z ≡ run_turns memory_engine (state_of h) ts

-- ---- a set-up

module _ (h : Host) (given xs : List ℕ) (e : passes_test h ≡ true) (room : 8 ≤ length xs) where
  -- with room for the answer, numbers and fuel
  roomy : set_up_in h given xs ≡ begun-by h given xs true true (set_up_ok given h.words)
  roomy =
      let t = numbers-each h.machine h.fuel (numbers h e) in
      let wide : long h ≡ true = both t.0 t.1 in
      set-up-is h given xs ∙ (λ i. begun-by h given xs (le-leb 8 (length xs) room i) (wide i) (set_up_ok given h.words))

  number_by : (ok : Bool) → (begun-by h given xs true true ok).number ≡ pick ok 0 11
  unfolding pick
  number_by true = refl
  number_by false = refl

  number_is : (ok : Bool) → set_up_ok given h.words ≡ ok → (set_up_in h given xs).number ≡ pick ok 0 11
  number_is ok q = ap (λ (g : Gave). g.number) (roomy ∙ ap (begun-by h given xs true true) q) ∙ number_by ok

  sets-up : Leaves h (set_up_in h given xs).host (turn_call (SetUp given) ∷ [])
  unfolding pick
  sets-up = go (set_up_ok given h.words) refl
    where
      go : (ok : Bool) → set_up_ok given h.words ≡ ok → Leaves h (set_up_in h given xs).host (turn_call (SetUp given) ∷ [])
      go true q = let n = number_is true q in record { passes = library.begun h given xs n; state = library.sets-up h given xs n }
      go false q =
          let n = number_is false q in
          let same = library.not-begun h given xs (λ z. omega (arith, n, z)) in
          record { passes = ap passes_test same ∙ e; state = ap state_of same ∙ ap (λ (x : Left). x.state) (sym (refused-set-up (state_of h) given q)) }

-- ---- a call in words

called : (h : Host) (ws xs : List ℕ) (ks : List MemoryCall) → passes_test h ≡ true → Fits h (bvm-call ws xs) → Calls (op_of ws ∷ []) ks → Leaves h (call_in h (op_of ws) xs).host (map turn_call ks)
called h ws xs ks e (w, room) c =
    record {
      passes = library.called h ws xs w e;
      state = ap (λ (g : Gave). state_of g.host) (sym (kept h (op_of ws) xs e room)) ∙ over-back h (do_words (state_of h) (op_of ws)).state
          ∙ batch.left (state_of h) (op_of ws ∷ []) ks c;
    }

-- ---- a switch

switched : (h : Host) (o : Operation) → passes_test h ≡ true → Leaves h (left_by h (bvm-switch o.op)) (turn_call (Do o) ∷ [])
switched h o e =
    let s = (step_words (state_of h) o.op).state in
    record { passes = keeps h s e (call_stays (state_of h) o (sound h e)); state = over-back h s }

-- ---- each

one : (h : Host) {l : Link} {ts : List (Turn MemoryCall)} → passes_test h ≡ true → Fits h l → TurnsOf l ts → Leaves h (left_by h l) ts
one h e f (a-set-up given xs) = sets-up h given xs e f
one h e f (a_call ws xs ks c) = called h ws xs ks e f c
one h e f (a-call-unchecked ws xs ks c) =
    let same = ap (λ (g : Gave). g.host) (kept h (op_of ws) xs e f.1) in
    let t = called h ws xs ks e f c in
    record { passes = ap passes_test same ∙ t.passes; state = ap state_of same ∙ t.state }
one h e f (a-grant n xs o q) =
    record {
      passes = library.granted h n xs _ _ _ f.0 e (record { fuel = refl; answer = refl; number = refl });
      state = ap state_of (sym (library.grants h n xs f.0)) ∙ ap (λ (p : Op). state_of (call_in h (Ok p) xs).host) (sym q) ∙ library.calls h o xs e f.1;
    }
one h e f (a-run cs xs ks c) = record { passes = library.ran h cs xs f.0 e; state = library.runs h cs xs ks e f.1 c }
one h e f (a-switch o p q) = subst (λ (x : Op). Leaves h (left_by h (bvm-switch x)) (turn_call (Do p) ∷ [])) q (switched h p e)
one h e f (a-record fs) = record { passes = f; state = refl }

-- ---- lists

run-append : (s : MemoryState) (ts us : List (Turn MemoryCall)) → run_turns memory_engine s (ts ++ us) ≡ run_turns memory_engine (run_turns memory_engine s ts) us
run-append s [] us = refl
run-append s (turn_call k ∷ ts) us = run-append (memory_step s k).state ts us
run-append s (turn_fuel f ∷ ts) us = run-append (memory_engine.refuel s f) ts us

all : (h : Host) {ls : List Link} {ts : List (Turn MemoryCall)} → passes_test h ≡ true → AllFit h ls → TurnsOfAll ls ts → Leaves h (left_by_all h ls) ts
all h e f Linked.none = record { passes = e; state = refl }
all h e f (more l ls ts us i a) =
    let t = one h e f.0 i in
    let r = all (left_by h l) t.passes f.1 a in
    record { passes = r.passes; state = r.state ∙ ap (λ s. run_turns memory_engine s us) t.state ∙ sym (run-append (state_of h) ts us) }

granting : (n : ℕ) → is_word n ≡ true → (o : Operation) × (o.op ≡ Op.Grant n)
unfolding typed
granting n w = (record { op = Op.Grant n; within = w }, refl)

words-listed : (ws : List ℕ) → each is_word ws ≡ true → BatchCalls (op_of ws ∷ [])
words-listed ws w = first ws (op_of ws) [] w refl (record { list = []; calls = none })

turns-one : (h : Host) (l : Link) → Fits h l → (ts : List (Turn MemoryCall)) × TurnsOf l ts
turns-one h (bvm-set-up given xs) f = (turn_call (SetUp given) ∷ [], a-set-up given xs)
turns-one h (bvm-call ws xs) f = let t = words-listed ws f.0 in (map turn_call t.list, a_call ws xs t.list t.calls)
turns-one h (bvm-call-unchecked ws xs) f = let t = words-listed ws f.0 in (map turn_call t.list, a-call-unchecked ws xs t.list t.calls)
turns-one h (bvm-grant n xs) f = let (o, q) = granting n f.0 in (turn_call (Do o) ∷ [], a-grant n xs o q)
turns-one h (bvm-run cs xs) f = let t = listed (count_of (length cs)) cs f.0 in (map turn_call t.list, a-run cs xs t.list t.calls)
turns-one h (bvm-switch o) f = let p : Operation = record { op = o; within = f } in (turn_call (Do p) ∷ [], a-switch o p refl)
turns-one h (other-fuel fs) f = (turn_fuel (fuel_in fs) ∷ [], a-record fs)

turns : (h : Host) (ls : List Link) → AllFit h ls → (ts : List (Turn MemoryCall)) × TurnsOfAll ls ts
turns h [] f = ([], Linked.none)
turns h (l ∷ ls) f =
    let (ts, i) = turns-one h l f.0 in
    let (us, a) = turns (left_by h l) ls f.1 in (ts ++ us, more l ls ts us i a)

-- ---- the Claim

module _ (c : ℕ) (s u t z : MemoryState) (k l : MemoryCall) (ts : List (Turn MemoryCall)) (p : u ≡ (memory_step s k).state) (q : t ≡ run_turns memory_engine u ts) (r : z ≡ (memory_step t l).state) where
  there : t ≡ run_turns memory_engine (memory_step s k).state ts
  there = q ∙ ap (λ v. run_turns memory_engine v ts) p

  restores : Restores c s k u ts t l z
  restores a w g =
      subst (λ (v : MemoryState). RestoredStack s k t l c v) (sym r) (subst (λ (v : MemoryState). RestoredStack s k v l c (memory_step v l).state) (sym there)
      (claim.restored c s k ts l a (subst (λ (v : MemoryState). Waits memory_engine c v ts) p w) (subst (λ (v : MemoryState). Enters memory_engine c v l) there g)))

  comes : Comes c s k u ts t l z
  comes a w g =
      subst (λ (v : MemoryState). UntouchedStack s k c t l v) (sym r) (subst (λ (v : MemoryState). UntouchedStack s k c v l (memory_step v l).state) (sym there)
      (claim.untouched c s k ts l a (subst (λ (v : MemoryState). Goes memory_engine c v ts) p w) (subst (λ (v : MemoryState). Stops memory_engine c v l) there g)))

module _ (c : ℕ) (h : Host) (x : Link) (k : MemoryCall) (ls : List Link) (ts : List (Turn MemoryCall)) (y : Link) (l : MemoryCall) (b : Between h x k ls ts y l) where
  abbrev h₁ : Host
  h₁ = left_by h x

  abbrev h₂ : Host
  h₂ = left_by_all h₁ ls

  starts : Leaves h h₁ (turn_call k ∷ [])
  starts = one h b.passes b.first.0 b.first.1

  goes_by : Leaves h₁ h₂ ts
  goes_by = all h₁ starts.passes b.between.0 b.between.1

  ends : Leaves h₂ (left_by h₂ y) (turn_call l ∷ [])
  ends = one h₂ goes_by.passes b.last.0 b.last.1

  restored : Restores c (state_of h) k (state_of h₁) ts (state_of h₂) l (state_of (left_by h₂ y))
  restored = restores c (state_of h) (state_of h₁) (state_of h₂) (state_of (left_by h₂ y)) k l ts starts.state goes_by.state ends.state

  untouched : Comes c (state_of h) k (state_of h₁) ts (state_of h₂) l (state_of (left_by h₂ y))
  untouched = comes c (state_of h) (state_of h₁) (state_of h₂) (state_of (left_by h₂ y)) k l ts starts.state goes_by.state ends.state

pub linked : Linked.Linked
linked =
    record {
      within = read-typed;
      said = read_back;
      turns = turns;
      leaves = λ h ls ts e f a. (all h e f a).state;
      passes = λ h ls e f. let (ts, a) = turns h ls f in (all h e f a).passes;
      restored = restored;
      untouched = untouched;
    }
