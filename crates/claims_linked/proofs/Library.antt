-- What a program that links the library may rely on. Assumes nothing.
use Prim.Native.Nat.{ℕ, ◌-◌, ◌*◌, ◌≤◌}
use native.Mathlib.Omega.{arith}
use mathlib.Core.Path.{◌≡◌, refl, sym, ap, ap₂, ◌∙◌}
use mathlib.Core.Bool.{Bool, true, false, ◌&&◌}
use mathlib.Core.Logic.{◌⊎◌, inl, inr}
use mathlib.Core.List.{List, map}
use lib.ListN.{length, get_or, replicate}
use lib.Dec.{leb}
use borrow.Author.Tests.{leb-true, le-leb}
use Rattle.lists.specs.Pick.{pick, pick_true}
use Rattle.lists.specs.Parts.{splice}
use Rattle.heap.specs.Fault.{number_of}
use Rattle.heap.specs.declared.fault.Fault.{Fault}
use Rattle.model.specs.World.{World, After, with_fuel}
use Rattle.model.specs.Gate.{refused}
use Rattle.model.specs.Added.{refuel, grant_too_large, grant}
use Rattle.model.specs.Added as Added
use Rattle.model.specs.Compute.{computed}
use Rattle.model.specs.Lists.{is_nil, each, among}
use Rattle.model.specs.Call.{is_word, typed, Operation}
use Rattle.model.specs.Step.{Out, call}
use Rattle.model.specs.declared.call.Op.{Op}
use Rattle.model.specs.declared.call.Answer.{Answer}
use Rattle.claims_sound.proofs.Tests.{and_left, and_right, both, no_true}
use Rattle.claims_sheet.proofs.Sentences as Sheet
use Rattle.memory_tables.proofs.Padded.{length-splice}
use Rattle.memory_world.specs.declared.machine.Machine.{Machine}
use Rattle.memory_world.specs.declared.machine.Sizes.{Sizes}
use Rattle.memory_world.specs.Words.{sizes_of, lengths_of}
use Rattle.memory_world.specs.Decode.{setup_of}
use Rattle.memory_calls.specs.Call.{refusal, op_of, op_words}
use Rattle.memory_calls.specs.declared.call.Gate.{Gate}
use Rattle.std.specs.Prelude.{Result, Ok, Err}
use Rattle.memory_calls.proofs.Back.{read_back}
use Rattle.memory_calls.proofs.Typed.{read-typed}
use Rattle.claims_model.specs.Engine as Engine
use Rattle.claims_model.specs.Engine.{run_turns}
use Rattle.memory_step.specs.Step.{MemoryState, Left, state_in, is_sound, decoded, step_words, set_up_ok, set_up_words, MemoryCall, Do, memory_step}
use Rattle.memory_step.specs.Sentences.{unchanging, NoSuchFault}
use Rattle.memory_step.proofs.Kept as Kept
use Rattle.memory_step.proofs.Kept.{words-kept}
use Rattle.memory_step.proofs.Sentences.{sentences}
use Rattle.claims_memory.specs.Engine.{memory_engine}
use Rattle.claims_memory.proofs.Fuel as Fuel
use Rattle.outer_run.specs.Run.{do_words, run_words, count_of, calls_in, written}
use Rattle.linked_calls.specs.Words.{machine_words, sizes_in, sizes_words, fuel_in, fuel_words}
use Rattle.linked_calls.specs.Host.{numbers_ok, same_sizes, Host, host, state_of, passes_test, Gave, gave, tells, overwritten, kept_in, call_in, Granted, fresh_in, long, set_up_in, run_host}
use Rattle.linked_calls.proofs.Hosts.{numbers, sound, sizes}
use Rattle.claims_linked.specs.Batch.{Calls, none, is, not}
use Rattle.claims_linked.specs.Library.{NoFault, unknown, none-such, Passes, HasRoom, Begins, smallest, sevens, Library}
use Rattle.claims_linked.proofs.Answered.{kept, told, by, call-is, begun-by, set-up-is, not-begun, bad-set-up, all, ran-by, run_is, answered, not-run, no_room, untested}
use Rattle.claims_linked.proofs.Batch.{listed, batch}
use Rattle.claims_linked.proofs.Beyond.{beyond}
use Rattle.claims_linked.proofs.Look.{sees, looks}
use Rattle.claims_linked.proofs.Passing.{bank-set, passing}
use Rattle.claims_linked.proofs.Words.{machine-back, sizes-stay, same-machine, fuel-back, bank_set, same-fuel, numbers-all, numbers-each, written-ok, sizes-self}

-- ---- a state written over a machine's words

pub over-back : (h : Host) (s : MemoryState) → state_of (overwritten h s) ≡ s
over-back h s = λ i. record { words = s.words; machine = machine-back h.machine s.machine i; fuel = fuel-back h.fuel s.fuel i }

over-same : (h : Host) → numbers_ok h.machine h.fuel ≡ true → overwritten h (state_of h) ≡ h
over-same h e =
    let t = numbers-each h.machine h.fuel e in
    let p = same-machine h.machine (leb-true 25 (length h.machine) t.0) t.2 in
    let r = leb (get_or h.fuel 3 0) 1 in
    let q = same-fuel h.fuel (leb-true 4 (length h.fuel) t.1) (and_left r (bank_set h.fuel) t.3) (and_right r (bank_set h.fuel) t.3) in
    λ i. host h.words (p i) (q i)

-- three tests
passes : (h : Host) → numbers_ok h.machine h.fuel ≡ true → is_sound (state_of h) ≡ true → sizes_in h.machine ≡ sizes_of (setup_of h.words.setup) → passes_test h ≡ true
unfolding passes_test
passes h a b c = both (both a b) (ap (λ (l : Sizes). same_sizes l (sizes_of (setup_of h.words.setup))) c ∙ sizes-self (sizes_of (setup_of h.words.setup)))

exactly : (h : Host) → Passes h → passes_test h ≡ true
exactly h p =
    let ms = h.machine in
    let fs = h.fuel in
    passes h
    (numbers-all ms fs (le-leb 25 (length ms) p.machine) (le-leb 4 (length fs) p.fuel) (le-leb (get_or ms 6 0) 1 p.running)
    (both (le-leb (get_or fs 3 0) 1 p.ready) (bank-set (get_or fs 1 0) (get_or fs 2 0) p.bank)))
    p.sound p.sizes

-- the set-up stays, and the words are sound
pub record Stays (s t : MemoryState) : Type 0 where
  pub sound : is_sound t ≡ true
  pub setup : setup_of t.words.setup ≡ setup_of s.words.setup

pub keeps : (h : Host) (t : MemoryState) → passes_test h ≡ true → Stays (state_of h) t → passes_test (overwritten h t) ≡ true
keeps h t e k =
    let n = numbers-each h.machine h.fuel (numbers h e) in
    passes (overwritten h t) (written-ok h.machine h.fuel t.machine t.fuel n.0 n.1) (ap is_sound (over-back h t) ∙ k.sound)
    (sizes-stay h.machine t.machine ∙ sizes h e ∙ ap sizes_of (sym k.setup))

-- ---- a call

stays-set-up : (s : MemoryState) (o : Operation) → is_sound s ≡ true → setup_of (step_words s o.op).state.words.setup ≡ setup_of s.words.setup
stays-set-up s o e =
    ap (λ (w : World). w.setup) (words-kept.leaves s o e)
    ∙ ap (λ (x : Out). x.world.setup) (sym (Kept.untested (decoded s) o (words-kept.stands s e)))
    ∙ (Sheet.sentences).set-up-stays (decoded s) o

pub call_stays : (s : MemoryState) (o : Operation) → is_sound s ≡ true → Stays s (step_words s o.op).state
call_stays s o e = record { sound = words-kept.kept s o e; setup = stays-set-up s o e }

read_stays : (s : MemoryState) (ws : List ℕ) (r : Result Op Gate) → each is_word ws ≡ true → op_of ws ≡ r → is_sound s ≡ true → Stays s (do_words s r).state
read_stays s ws (Ok o) w q e = call_stays s (record { op = o; within = read-typed ws o w q }) e
read_stays s ws (Err g) w q e = record { sound = e; setup = refl }

called-by : (h : Host) (ws xs : List ℕ) → each is_word ws ≡ true → passes_test h ≡ true → (room : Bool) → passes_test (by h (op_of ws) xs room true).host ≡ true
unfolding pick
called-by h ws xs w e true = keeps h (do_words (state_of h) (op_of ws)).state e (read_stays (state_of h) ws (op_of ws) w refl (sound h e))
called-by h ws xs w e false = e

called : (h : Host) (ws xs : List ℕ) → each is_word ws ≡ true → passes_test h ≡ true → passes_test (call_in h (op_of ws) xs).host ≡ true
called h ws xs w e =
    ap (λ (g : Gave). passes_test g.host) (call-is h (op_of ws) xs ∙ ap (by h (op_of ws) xs (leb 8 (length xs))) e) ∙ called-by h ws xs w e (leb 8 (length xs))

calls : (h : Host) (o : Operation) (xs : List ℕ) → passes_test h ≡ true → 8 ≤ length xs → state_of (call_in h (Ok o.op) xs).host ≡ (memory_step (state_of h) (Do o)).state
calls h o xs e w =
    ap (λ (g : Gave). state_of g.host) (sym (kept h (Ok o.op) xs e w)) ∙ over-back h (step_words (state_of h) o.op).state

unchanged-by : (h : Host) (ws xs : List ℕ) (r : Result Op Gate) → each is_word ws ≡ true → op_of ws ≡ r → (room ok : Bool) → passes_test h ≡ ok
    → among (by h r xs room ok).number unchanging ≡ true → (by h r xs room ok).host ≡ h
unfolding pick
unchanged-by h ws xs r w q false ok e n = refl
unchanged-by h ws xs r w q true false e n = refl
unchanged-by h ws xs (Err g) w q true true e n = over-same h (numbers h e)
unchanged-by h ws xs (Ok o) w q true true e n =
    ap (overwritten h) (sentences.unchanged (state_of h) (Do (record { op = o; within = read-typed ws o w q })) n) ∙ over-same h (numbers h e)

unchanged : (h : Host) (ws xs : List ℕ) → each is_word ws ≡ true → among (call_in h (op_of ws) xs).number unchanging ≡ true → (call_in h (op_of ws) xs).host ≡ h
unchanged h ws xs w n =
    let p = call-is h (op_of ws) xs in
    ap (λ (g : Gave). g.host) p
    ∙ unchanged-by h ws xs (op_of ws) w refl (leb 8 (length xs)) (passes_test h) refl (sym (ap (λ (g : Gave). among g.number unchanging) p) ∙ n)

no_call : (h : Host) (ws xs : List ℕ) (g : Gate) → passes_test h ≡ true → 8 ≤ length xs → op_of ws ≡ Err g
    → call_in h (op_of ws) xs ≡ tells h (Answer.Refused (refusal g (is_nil (decoded (state_of h)).frames))) xs
no_call h ws xs g e w q =
    let p = over-same h (numbers h e) in
    let f = refusal g (is_nil (decoded (state_of h)).frames) in
    let k : pick (is_sound (state_of h)) f Fault.Unsound ≡ f = ap (λ b. pick b f Fault.Unsound) (sound h e) ∙ pick_true f Fault.Unsound in
    ap (λ (r : Result Op Gate). call_in h r xs) q ∙ sym (kept h (Err g) xs e w) ∙ (λ i. tells (p i) (Answer.Refused (k i)) xs)

-- ---- 11

-- no other test answers it
only-fault : (g : Gate) (b : Bool) → number_of (refusal g b) ≡ 11 → NoFault (Err g)
unfolding pick
only-fault Gate.NoFault b n = unknown
only-fault Gate.Frame true n = absurd (omega (arith, n))
only-fault Gate.Frame false n = absurd (omega (arith, n))
only-fault Gate.Host true n = absurd (omega (arith, n))
only-fault Gate.Host false n = absurd (omega (arith, n))
only-fault Gate.Operand b n = absurd (omega (arith, n))

eleven-by : (h : Host) (ws xs : List ℕ) (r : Result Op Gate) → each is_word ws ≡ true → op_of ws ≡ r → (room ok : Bool) → passes_test h ≡ ok → (by h r xs room ok).number ≡ 11 → (passes_test h ≡ false) ⊎ NoFault r
unfolding pick
eleven-by h ws xs r w q false true e n = absurd (omega (arith, n))
eleven-by h ws xs r w q false false e n = inl e
eleven-by h ws xs r w q true false e n = inl e
eleven-by h ws xs (Err g) w q true true e n =
    let b = is_nil (decoded (state_of h)).frames in
    inr (only-fault g b (sym (ap (λ t. number_of (pick t (refusal g b) Fault.Unsound)) (sound h e)) ∙ n))
eleven-by h ws xs (Ok o) w q true true e n = go (sentences.eleven (state_of h) (record { op = o; within = read-typed ws o w q }) n)
  where
    go : (is_sound (state_of h) ≡ false) ⊎ NoSuchFault o → (passes_test h ≡ false) ⊎ NoFault (Ok o)
    go (inl x) = no_true (sym (sound h e) ∙ x)
    go (inr x) = inr (none-such o x)

eleven : (h : Host) (ws xs : List ℕ) → each is_word ws ≡ true → (call_in h (op_of ws) xs).number ≡ 11 → (passes_test h ≡ false) ⊎ NoFault (op_of ws)
eleven h ws xs w n =
    eleven-by h ws xs (op_of ws) w refl (leb 8 (length xs)) (passes_test h) refl (sym (ap (λ (g : Gave). g.number) (call-is h (op_of ws) xs)) ∙ n)

no-fault-by : (h : Host) (ws xs : List ℕ) {r : Result Op Gate} → each is_word ws ≡ true → op_of ws ≡ r → (ok : Bool) → passes_test h ≡ ok → NoFault r → (by h r xs true ok).number ≡ 11
unfolding pick
no-fault-by h ws xs w q false e k = refl
no-fault-by h ws xs w q true e unknown = ap (λ b. number_of (pick b Fault.Unsound Fault.Unsound)) (sound h e)
no-fault-by h ws xs w q true e (none-such o k) = sentences.no-fault (state_of h) (record { op = o; within = read-typed ws o w q }) k

no-fault : (h : Host) (ws xs : List ℕ) → each is_word ws ≡ true → 8 ≤ length xs → NoFault (op_of ws) → (call_in h (op_of ws) xs).number ≡ 11
no-fault h ws xs w l k =
    ap (λ (g : Gave). g.number) (call-is h (op_of ws) xs ∙ ap (λ b. by h (op_of ws) xs b (passes_test h)) (le-leb 8 (length xs) l))
    ∙ no-fault-by h ws xs w refl (passes_test h) refl k

-- ---- the fuel of another machine

any_fuel : (h g : Host) → passes_test h ≡ true → passes_test g ≡ true → passes_test (host h.words h.machine g.fuel) ≡ true
any_fuel h g e d =
    let a = numbers-each h.machine h.fuel (numbers h e) in
    let b = numbers-each g.machine g.fuel (numbers g d) in
    passes (host h.words h.machine g.fuel) (numbers-all h.machine g.fuel a.0 b.1 a.2 b.3)
    ((Fuel.any_fuel).any (state_of h) (fuel_in g.fuel) (sound h e) ((Fuel.any_fuel).own (state_of g) (sound g d))) (sizes h e)

-- ---- a grant

grant-words : (n : ℕ) → is_word n ≡ true → each is_word (op_words (Op.Grant n)) ≡ true
grant-words n w = both refl (both w refl)

granted : (h : Host) (n : ℕ) (xs fs' xs' : List ℕ) (r : ℕ) → is_word n ≡ true → passes_test h ≡ true → Granted h n xs fs' xs' r → passes_test (host h.words h.machine fs') ≡ true
unfolding typed
granted h n xs fs' xs' r w e g =
    let o = Op.Grant n in
    let after = (call_in h (Ok o) xs).host in
    let k : passes_test after ≡ true =
    ap (λ (x : Result Op Gate). passes_test (call_in h x xs).host) (sym (read_back o w)) ∙ called h (op_words o) xs (grant-words n w) e in
    ap (λ (fs : List ℕ). passes_test (host h.words h.machine fs)) g.fuel ∙ any_fuel h after e k

-- of the world only the fuel changes
abbrev grant-by : ℕ → World → Bool → After Answer
grant-by n w b = pick b (refused w Fault.GrantTooLarge) (Added.accepted (with_fuel (refuel w.fuel.bank (Added.granted n w) w.fuel) w))

grant-fuel : (n : ℕ) (w : World) (b : Bool) → (grant-by n w b).world ≡ with_fuel (grant-by n w b).world.fuel w
unfolding pick
grant-fuel n w true = refl
grant-fuel n w false = refl

grant-world : (n : ℕ) (w : World) → (call (Op.Grant n) w).world ≡ with_fuel (call (Op.Grant n) w).world.fuel w
unfolding call grant
grant-world n w = grant-fuel n w (grant_too_large n w)

module _ (s : MemoryState) (n : ℕ) (w : is_word n ≡ true) (e : is_sound s ≡ true) where
  abbrev after-grant : MemoryState
  after-grant = (step_words s (Op.Grant n)).state

  grant-state : after-grant ≡ state_in (lengths_of s.words) (with_fuel (call (Op.Grant n) (decoded s)).world.fuel (decoded s))
  unfolding typed
  grant-state =
      ap (λ (x : Left). x.state) (words-kept.once s (record { op = Op.Grant n; within = w }) e)
      ∙ ap (state_in (lengths_of s.words)) (grant-world n (decoded s))

  same-words : after-grant.words ≡ s.words
  same-words = ap (λ (x : MemoryState). x.words) grant-state ∙ ap (λ (x : MemoryState). x.words) (words-kept.own s e)

  same_numbers : after-grant.machine ≡ s.machine
  same_numbers = ap (λ (x : MemoryState). x.machine) grant-state ∙ ap (λ (x : MemoryState). x.machine) (words-kept.own s e)

grants-by : (h : Host) (n : ℕ) (xs : List ℕ) → is_word n ≡ true → (room ok : Bool) → passes_test h ≡ ok
    → let after = (by h (Ok (Op.Grant n)) xs room ok).host in after ≡ host h.words h.machine after.fuel
unfolding pick
grants-by h n xs w false ok e = refl
grants-by h n xs w true false e = refl
grants-by h n xs w true true e =
    let s = state_of h in
    let p = same-words s n w (sound h e) in
    let t = numbers-each h.machine h.fuel (numbers h e) in
    let q =
    ap (λ (m : Machine). splice h.machine 0 (machine_words m)) (same_numbers s n w (sound h e))
    ∙ same-machine h.machine (leb-true 25 (length h.machine) t.0) t.2 in
    λ i. host (p i) (q i) (splice h.fuel 0 (fuel_words (step_words s (Op.Grant n)).state.fuel))

grants : (h : Host) (n : ℕ) (xs : List ℕ) → is_word n ≡ true → let after = (call_in h (Ok (Op.Grant n)) xs).host in after ≡ host h.words h.machine after.fuel
grants h n xs w =
    let p = ap (λ (g : Gave). g.host) (call-is h (Ok (Op.Grant n)) xs) in
    p ∙ grants-by h n xs w (leb 8 (length xs)) (passes_test h) refl ∙ sym (ap (λ (x : Host). host h.words h.machine x.fuel) p)

-- ---- a set-up

-- the sizes after the numbers leave these
fresh-state : (h : Host) (given : List ℕ) → state_of (fresh_in h given) ≡ (set_up_words (state_of h) given).state
fresh-state h given =
    let s = (set_up_words (state_of h) given).state in
    λ i. record { words = s.words; machine = machine-back h.machine s.machine i; fuel = fuel-back h.fuel s.fuel i }

fresh-passes : (h : Host) (given : List ℕ) → long h ≡ true → set_up_ok given h.words ≡ true → passes_test (fresh_in h given) ≡ true
fresh-passes h given l e =
    let s = (set_up_words (state_of h) given).state in
    let ms = h.machine in
    let a = leb-true 25 (length ms) (and_left (leb 25 (length ms)) (leb 4 (length h.fuel)) l) in
    let b = leb-true 4 (length h.fuel) (and_right (leb 25 (length ms)) (leb 4 (length h.fuel)) l) in
    let n = written-ok ms h.fuel s.machine s.fuel (le-leb 25 (length ms) a) (le-leb 4 (length h.fuel) b) in
    let k = numbers-each (splice ms 0 (machine_words s.machine)) (splice h.fuel 0 (fuel_words s.fuel)) n in
    let w = sizes_words (sizes_of (setup_of given)) in
    let ks = splice ms 0 (machine_words s.machine) in
    let long : length ks ≡ length ms = length-splice ms (machine_words s.machine) 0 (omega arith) in
    let full : leb 25 (length (splice ks 13 w)) ≡ true = le-leb 25 (length (splice ks 13 w)) (let z = length-splice ks w 13 (omega arith) in omega arith) in
    passes (fresh_in h given) (numbers-all (splice ks 13 w) (splice h.fuel 0 (fuel_words s.fuel)) full k.1 k.2 k.3)
    (ap is_sound (fresh-state h given) ∙ words-kept.begun (state_of h) given e)
    (ap (λ (x : World). sizes_of x.setup) (sym (words-kept.anew (state_of h) given e)))

begun-as : (h : Host) (given xs : List ℕ) (room wide ok : Bool) → long h ≡ wide → set_up_ok given h.words ≡ ok → (begun-by h given xs room wide ok).number ≡ 0
    → ((begun-by h given xs room wide ok).host ≡ fresh_in h given) × (wide ≡ true) × (ok ≡ true)
unfolding pick
begun-as h given xs false false ok l e n = absurd (omega (arith, n))
begun-as h given xs false true false l e n = absurd (omega (arith, n))
begun-as h given xs false true true l e n = absurd (omega (arith, n))
begun-as h given xs true false ok l e n = absurd (omega (arith, n))
begun-as h given xs true true false l e n = absurd (omega (arith, n))
begun-as h given xs true true true l e n = (refl, refl, refl)

module _ (h : Host) (given xs : List ℕ) (n : (set_up_in h given xs).number ≡ 0) where
  accepted : ((set_up_in h given xs).host ≡ fresh_in h given) × (long h ≡ true) × (set_up_ok given h.words ≡ true)
  accepted =
      let p = set-up-is h given xs in
      let b = begun-as h given xs (leb 8 (length xs)) (long h) (set_up_ok given h.words) refl refl (sym (ap (λ (g : Gave). g.number) p) ∙ n) in
      (ap (λ (g : Gave). g.host) p ∙ b.0, b.1, b.2)

  begun : passes_test (set_up_in h given xs).host ≡ true
  begun = ap passes_test accepted.0 ∙ fresh-passes h given accepted.1 accepted.2

  sets-up : state_of (set_up_in h given xs).host ≡ (set_up_words (state_of h) given).state
  sets-up = ap state_of accepted.0 ∙ fresh-state h given

-- with room and of good words, whatever the machine was
accepted-by : (h : Host) (given xs : List ℕ) → begun-by h given xs true true true ≡ tells (fresh_in h given) Answer.Accepted xs
unfolding pick
accepted-by h given xs = refl

set-up : (h : Host) (given xs : List ℕ) → HasRoom h xs → set_up_ok given h.words ≡ true → Begins h given xs
set-up h given xs r e =
    let l : long h ≡ true = both (le-leb 25 (length h.machine) r.machine) (le-leb 4 (length h.fuel) r.fuel) in
    let p =
    set-up-is h given xs ∙ ap (λ b. begun-by h given xs b (long h) (set_up_ok given h.words)) (le-leb 8 (length xs) r.answer)
    ∙ ap₂ (begun-by h given xs true) l e ∙ accepted-by h given xs in
    record {
      number = ap (λ (g : Gave). g.number) p;
      answer = ap (λ (g : Gave). g.answer) p;
      passes = ap (λ (g : Gave). passes_test g.host) p ∙ fresh-passes h given l e;
    }

-- ---- one that is accepted, and a machine that does not pass

smallest-good : set_up_ok smallest sevens.words ≡ true
unfolding computed
smallest-good = refl

some : Begins sevens smallest (replicate 8 7)
some = set-up sevens smallest (replicate 8 7) (record { answer = omega arith; machine = omega arith; fuel = omega arith }) smallest-good

fails : passes_test sevens ≡ false
unfolding passes_test
fails = refl

-- ---- a batch

run-stays : (s : MemoryState) {rs : List (Result Op Gate)} {ks : List MemoryCall} → Calls rs ks → is_sound s ≡ true → Stays s (run_words s rs).state
run-stays s none e = record { sound = e; setup = refl }
run-stays s (is o rs ks c) e =
    let a = call_stays s o e in
    let b = run-stays (step_words s o.op).state c a.sound in
    record { sound = b.sound; setup = b.setup ∙ a.setup }
run-stays s (not g rs ks c) e = run-stays s c e

module _ (h : Host) (cs xs : List ℕ) where
  with-room : (ran-by h cs xs true true).host ≡ overwritten h (all h cs xs).state
  unfolding pick
  with-room = refl

  runs : (ks : List MemoryCall) → passes_test h ≡ true → count_of (length cs) * 8 ≤ length xs → Calls (calls_in (count_of (length cs)) cs) ks → state_of (run_host h cs xs).host ≡ run_turns memory_engine (state_of h) (map Engine.turn_call ks)
  runs ks e w c =
      let p = run_is h cs xs ∙ ap₂ (ran-by h cs xs) (le-leb (count_of (length cs) * 8) (length xs) w) e in
      ap state_of (ap (λ (g : Gave). g.host) p ∙ with-room) ∙ over-back h (all h cs xs).state ∙ batch.left (state_of h) (calls_in (count_of (length cs)) cs) ks c

  ran-as : each is_word cs ≡ true → passes_test h ≡ true → (room : Bool) → passes_test (ran-by h cs xs room true).host ≡ true
  unfolding pick
  ran-as w e true = keeps h (all h cs xs).state e (run-stays (state_of h) (listed (count_of (length cs)) cs w).calls (sound h e))
  ran-as w e false = e

  ran : each is_word cs ≡ true → passes_test h ≡ true → passes_test (run_host h cs xs).host ≡ true
  ran w e = ap (λ (g : Gave). passes_test g.host) (run_is h cs xs ∙ ap (ran-by h cs xs (leb (count_of (length cs) * 8) (length xs))) e) ∙ ran-as w e (leb (count_of (length cs) * 8) (length xs))

pub library : Library
library =
    record {
      sets-up = sets-up;
      calls = calls;
      runs = runs;
      set-up = set-up;
      bad-set-up = bad-set-up;
      fails = fails;
      some = some;
      begun = begun;
      called = called;
      ran = ran;
      granted = granted;
      grants = grants;
      any_fuel = any_fuel;
      kept = kept;
      told = told;
      answered = answered;
      not-begun = not-begun;
      not-run = not-run;
      no_room = no_room;
      no_call = no_call;
      unchanged = unchanged;
      untested = untested;
      eleven = eleven;
      no-fault = no-fault;
      passing = passing;
      exactly = exactly;
      beyond = beyond;
      sees = sees;
      looks = looks;
    }
