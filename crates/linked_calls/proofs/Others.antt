-- A grant, a look, a set-up and a run on a machine in words. Assumes nothing.
use mathlib.Core.Path.{◌≡◌, refl, sym, ap, ap₂, ◌∙◌, subst}
use mathlib.Core.Bool.{Bool, true, false, ◌&&◌}
use mathlib.Core.List.{List, [], ◌∷◌}
use Prim.Native.Nat.{ℕ, ◌-◌, ◌*◌, ◌/◌, ◌≤◌, ◌<◌}
use native.Mathlib.Omega.{arith}
use lib.ListN.{length, set}
use lib.Dec.{leb}
use borrow.Author.Tests.{le-leb, lt-leb}
use Rattle.lists.specs.Pick.{pick, pick_true, pick-false}
use Rattle.lists.specs.Parts.{splice}
use Rattle.heap.specs.declared.fault.Fault.{Fault}
use Rattle.model.specs.Answer.{number_of}
use Rattle.model.specs.Added.{grant, registers}
use Rattle.model.specs.Frames.{top_base}
use Rattle.model.specs.declared.call.Op.{Op}
use Rattle.model.specs.declared.call.Answer.{Answer}
use Rattle.model.specs.declared.machine.Fuel.{Fuel}
use Rattle.memory_tables.proofs.Padded.{sets-splice}
use Rattle.memory_world.specs.Memory.{Lent}
use Rattle.memory_world.specs.Contract.{Gives, any, with}
use Rattle.memory_world.specs.declared.machine.Machine.{Machine}
use Rattle.memory_world.specs.declared.machine.Sizes.{Sizes}
use Rattle.memory_world.specs.Words.{Lengths, sizes_of}
use Rattle.memory_world.specs.Decode.{setup_of}
use Rattle.memory_world.specs.Sizes.{SetupFits}
use Rattle.machine_state.specs.declared.called.Called.{Called}
use Rattle.machine_added.specs.Look.{end_on}
use Rattle.machine_added.specs.declared.look.Span.{Span}
use Rattle.machine_added.specs.declared.fuel.GrantDid.{GrantDid}
use Rattle.memory_calls.specs.Answer.{answer_words}
use Rattle.std.specs.Prelude.{Result, Ok}
use Rattle.memory_calls.specs.declared.call.Gate.{Gate}
use Rattle.memory_step.specs.Step.{MemoryState, Left, refuses, is_sound, decoded, looked, step_words, set_up_ok, set_up_words}
use Rattle.outer_call.specs.State.{state, gives}
use Rattle.outer_call.specs.SetUp.{begins}
use Rattle.outer_call.proofs.Stepping.{stands}
use Rattle.outer_call.proofs.Seen.{within, whole, as_many}
use Rattle.outer_call.proofs.Begun.{given-fits, is_held, accepts, refuses-it}
use Rattle.outer_grant.proofs.Stepping as Law
use Rattle.outer_run.specs.Run.{run_words, count_of, calls_in, written, refusals, Listed}
use Rattle.outer_run.proofs.Written.{few}
use Rattle.linked_calls.specs.Words.{machine_in, machine_words, sizes_words, fuel_in, fuel_words}
use Rattle.linked_calls.specs.Host.{Host, host, state_of, passes_test, Gave, gave, tells, overwritten, kept_in, do_in, short, call_in, Granted, Looked, saw, look_in, Spans, fresh_in, begin_in, long, LongAs, set_up_in, run_host}
use Rattle.linked_calls.proofs.Hosts.{sound, done, refused, called, too_short}

-- ---- a grant

granted-by : (h : Host) (n : ℕ) (xs : List ℕ) (g : Gave) → g ≡ call_in h (Ok (Op.Grant n)) xs → (fs' xs' : List ℕ) (r : ℕ) → fs' ≡ g.host.fuel → xs' ≡ g.answer → r ≡ g.number → Granted h n xs fs' xs' r
granted-by h n xs g q fs' xs' r a b c =
    record { fuel = a ∙ ap (λ (x : Gave). x.host.fuel) q; answer = b ∙ ap (λ (x : Gave). x.answer) q; number = c ∙ ap (λ (x : Gave). x.number) q }

module _ (h : Host) (n : ℕ) (xs : List ℕ) where
  abbrev read : Result Op Gate
  read = Ok (Op.Grant n)

  pub grant-short : length xs < 8 → (ok : Bool) → ok ≡ passes_test h → (r : ℕ) → r ≡ short ok → Granted h n xs h.fuel xs r
  grant-short w ok known r e =
      let g = gave h xs (short (passes_test h)) in granted-by h n xs g (too_short h read xs g w refl) h.fuel xs r refl refl (e ∙ ap short known)

  module _ (room : 8 ≤ length xs) (ok : Bool) (known : ok ≡ passes_test h) where
    pub grant-refused : ok ≡ false → (xs' : List ℕ) (r : ℕ) → xs' ≡ splice xs 0 (answer_words (Answer.Refused Fault.Unsound)) → r ≡ number_of (Answer.Refused Fault.Unsound) → Granted h n xs h.fuel xs' r
    grant-refused e xs' r a b =
        let g = tells h (Answer.Refused Fault.Unsound) xs in
        granted-by h n xs g (called h read xs g room ok known (refused h read xs g ok e refl)) h.fuel xs' r refl a b

    pub grant-done : ok ≡ true → (m : Machine) (f : Fuel) (d : GrantDid) → m ≡ machine_in h.machine → f ≡ fuel_in h.fuel
        → ((l : Sizes) → Gives any l (grant n) (λ b. b.words) (with m f) (λ b. b.words) (with m d.fuel) d.answer) → (fs' xs' : List ℕ) (r : ℕ)
        → fs' ≡ splice h.fuel 0 (fuel_words d.fuel) → xs' ≡ splice xs 0 (answer_words d.answer) → r ≡ number_of d.answer → Granted h n xs fs' xs' r
    grant-done e m f d a b met fs' xs' r p₁ p₂ p₃ =
        let g = kept_in h read xs in
        let s = sound h (sym known ∙ e) in
        let q = Law.granted h.words m f n ((λ i. is_sound (state h.words (a i) (b i))) ∙ s) d.fuel d.answer met in
        let w = q ∙ (λ i. step_words (state h.words (a i) (b i)) (Op.Grant n)) in
        granted-by h n xs g (called h read xs g room ok known (done h read xs g ok e refl)) fs' xs' r
        (p₁ ∙ ap (λ (x : Left). splice h.fuel 0 (fuel_words x.state.fuel)) w)
        (p₂ ∙ ap (λ (x : Left). splice xs 0 (answer_words x.answer)) w)
        (p₃ ∙ ap (λ (x : Left). number_of x.answer) w)

-- ---- a look

module _ (h : Host) (zs : List ℕ) where
  abbrev top : List ℕ
  top = let w = decoded (state_of h) in top_base w.frames ∷ end_on w.frames w.stack ∷ []

  abbrev tried : Bool → Looked
  tried b = pick b (saw (splice zs 0 top) 0) (saw (splice zs 0 (0 ∷ 0 ∷ [])) 11)

  abbrev cut : Looked
  cut = saw zs (short (passes_test h))

  pub look-short : length zs < 2 → (ok : Bool) → ok ≡ passes_test h → (r : ℕ) → r ≡ short ok → saw zs r ≡ look_in h zs
  unfolding look_in
  look-short e ok known r q = ap (saw zs) (q ∙ ap short known) ∙ sym (ap (λ b. pick b (tried (passes_test h)) cut) (lt-leb 2 (length zs) e) ∙ pick-false _ _)

  look-long : 2 ≤ length zs → tried (passes_test h) ≡ look_in h zs
  unfolding look_in
  look-long e = sym (ap (λ b. pick b (tried (passes_test h)) cut) (le-leb 2 (length zs) e) ∙ pick_true _ _)

  module _ (room : 2 ≤ length zs) (ok : Bool) (known : ok ≡ passes_test h) where
    stored : (a b : ℕ) → set (set zs 0 a) 1 b ≡ splice zs 0 (a ∷ b ∷ [])
    stored a b = sets-splice zs (a ∷ b ∷ []) 0 room

    pub looked-at : ok ≡ true → (s : Span) → Spans h s → saw (set (set zs 0 s.start) 1 s.end) 0 ≡ look_in h zs
    looked-at e s d =
        let x = d.start in
        let y = d.end in
        ap (λ (z : List ℕ). saw z 0) (stored s.start s.end ∙ (λ i. splice zs 0 (x i ∷ y i ∷ [])))
        ∙ sym (ap tried (sym known ∙ e) ∙ pick_true _ _) ∙ look-long room

    pub not-looked : ok ≡ false → saw (set (set zs 0 0) 1 0) 11 ≡ look_in h zs
    not-looked e = ap (λ (z : List ℕ). saw z 11) (stored 0 0) ∙ sym (ap tried (sym known ∙ e) ∙ pick-false _ _) ∙ look-long room

-- of a part that is what a look hands back, by its length
module _ (h : Host) (e : passes_test h ≡ true) (m : Machine) (f : Fuel) (is : m ≡ machine_in h.machine) (fuelled : f ≡ fuel_in h.fuel) where
  abbrev at : MemoryState
  at = state_of h

  look-sound : is_sound (state h.words m f) ≡ true
  look-sound = (λ i. is_sound (state h.words (is i) (fuelled i))) ∙ sound h e

  high : m.height ≡ end_on (decoded at).frames (decoded at).stack
  high =
      let k = stands h.words at.machine at.fuel (sound h e) in
      ap (λ (x : Machine). x.height) is ∙ k.rep.stack.count ∙ whole (decoded at) k.sound

  pub may-see : true ≡ is_sound (state h.words m f)
  may-see = sym look-sound

  pub spans : (xs : List ℕ) → xs ≡ looked (state h.words m f)
      → (length xs ≤ m.height) × Spans h (record { start = m.height - length xs; end = m.height })
  spans xs q =
      let w = decoded at in
      let k = stands h.words at.machine at.fuel (sound h e) in
      let p : xs ≡ registers w = q ∙ (λ i. looked (state h.words (is i) (fuelled i))) ∙ ap (λ b. pick b (registers w) []) (sound h e) ∙ pick_true _ _ in
      let l : length xs ≡ end_on w.frames w.stack - top_base w.frames = ap length p ∙ as_many w in
      let b = within w k.sound in
      (omega (arith, l, b, high), record { start = omega (arith, l, b, high); end = high })

-- ---- a set-up

-- what `set_up` gave, of the numbers and the fuel read, and the number told
pub record Tried (h : Host) (given : List ℕ) (M' : Lent) (d : Called Answer) (n : ℕ) : Type 0 where
  pub machine : Machine
  pub fuel : Fuel
  pub machine-is : machine ≡ machine_in h.machine
  pub fuel-is : fuel ≡ fuel_in h.fuel
  pub did : gives M' d ≡ set_up_words (state h.words machine fuel) given
  pub told : n ≡ number_of d.answer

module _ (h : Host) (given xs : List ℕ) where
  abbrev ok-words : Bool
  ok-words = set_up_ok given h.words

  module _ {M' : Lent} {d : Called Answer} {n : ℕ} (t : Tried h given M' d n) where
    made : gives M' d ≡ set_up_words (state_of h) given
    made = t.did ∙ (λ i. set_up_words (state h.words (t.machine-is i) (t.fuel-is i)) given)

    when-ok : ok-words ≡ true → gives M' d ≡ begins h.words given
    when-ok e = made ∙ sym (accepts (state_of h) given e)

    when-not : ok-words ≡ false → gives M' d ≡ refuses (state_of h) Fault.Unsound
    when-not e = made ∙ sym (refuses-it (state_of h) given e)

    -- by its number
    pub accepted : n ≡ 0 → ok-words ≡ true
    accepted z = go ok-words refl
      where
        go : (b : Bool) → ok-words ≡ b → ok-words ≡ true
        go true e = e
        go false e = let q : n ≡ 11 = t.told ∙ ap (λ (x : Left). number_of x.answer) (when-not e) in absurd (omega arith)

    pub not-accepted : (n ≡ 0 → ⊥) → ok-words ≡ false
    not-accepted z = go ok-words refl
      where
        go : (b : Bool) → ok-words ≡ b → ok-words ≡ false
        go false e = e
        go true e = absurd (z (t.told ∙ ap (λ (x : Left). number_of x.answer) (when-ok e)))

    pub begin-refused : (n ≡ 0 → ⊥) → (xs' : List ℕ) → xs' ≡ splice xs 0 (answer_words d.answer) → gave (host M' h.machine h.fuel) xs' n ≡ begin_in h given xs
    begin-refused z xs' e =
        let k = not-accepted z in
        let q = when-not k in
        (λ i. gave (host M' h.machine h.fuel) (e i) (t.told i))
        ∙ (λ i. gave (host (q i).state.words h.machine h.fuel) (splice xs 0 (answer_words (q i).answer)) (number_of (q i).answer))
        ∙ sym (ap (λ b. pick b (tells (fresh_in h given) Answer.Accepted xs) (tells h (Answer.Refused Fault.Unsound) xs)) k ∙ pick-false _ _)

    pub begin-done : n ≡ 0 → (l : Sizes) → l ≡ sizes_of (setup_of given) → (ks ms' fs' xs' : List ℕ) → ks ≡ splice h.machine 0 (machine_words d.machine) → ms' ≡ splice ks 13 (sizes_words l)
        → fs' ≡ splice h.fuel 0 (fuel_words d.fuel) → xs' ≡ splice xs 0 (answer_words d.answer) → gave (host M' ms' fs') xs' n ≡ begin_in h given xs
    begin-done z l e ks ms' fs' xs' p₀ p₁ p₂ p₃ =
        let k = accepted z in
        let q = made in
        let y : d.answer ≡ Answer.Accepted = ap (λ (x : Left). x.answer) (when-ok k) in
        let u = p₁ ∙ ap₂ (λ (v : List ℕ) (k : Sizes). splice v 13 (sizes_words k)) p₀ e in
        let v = p₃ ∙ ap (λ (x : Answer). splice xs 0 (answer_words x)) y in
        let x = t.told ∙ ap number_of y in
        (λ i. gave (host M' (u i) (p₂ i)) (v i) (x i))
        ∙ (λ i. gave (host (q i).state.words (splice (splice h.machine 0 (machine_words (q i).state.machine)) 13 (sizes_words (sizes_of (setup_of given)))) (splice h.fuel 0 (fuel_words (q i).state.fuel)))
        (splice xs 0 (answer_words Answer.Accepted)) (number_of Answer.Accepted))
        ∙ sym (ap (λ b. pick b (tells (fresh_in h given) Answer.Accepted xs) (tells h (Answer.Refused Fault.Unsound) xs)) k ∙ pick_true _ _)

  pub fits-given : ok-words ≡ true → SetupFits given
  fits-given e = given-fits given (is_held given h.words e)

  -- room for the answer, the numbers and the fuel
  abbrev roomy : Bool → Gave
  roomy t = pick t (begin_in h given xs) (tells h (Answer.Refused Fault.Unsound) xs)

  abbrev none_told : Gave
  none_told = gave h xs (short (long h && ok-words))

  pub set-up-short : length xs < 8 → (b : Bool) → b ≡ (long h && ok-words) → (r : ℕ) → r ≡ short b → gave h xs r ≡ set_up_in h given xs
  unfolding set_up_in
  set-up-short e b k r q = ap (gave h xs) (q ∙ ap short k) ∙ sym (ap (λ t. pick t (roomy (long h)) none_told) (lt-leb 8 (length xs) e) ∙ pick-false _ _)

  long-answer : 8 ≤ length xs → roomy (long h) ≡ set_up_in h given xs
  unfolding set_up_in
  long-answer e = sym (ap (λ t. pick t (roomy (long h)) none_told) (le-leb 8 (length xs) e) ∙ pick_true _ _)

  no_room : 8 ≤ length xs → long h ≡ false → (xs' : List ℕ) (r : ℕ) → xs' ≡ splice xs 0 (answer_words (Answer.Refused Fault.Unsound)) → r ≡ number_of (Answer.Refused Fault.Unsound)
      → gave h xs' r ≡ set_up_in h given xs
  no_room w e xs' r p q = (λ i. gave h (p i) (q i)) ∙ sym (ap roomy e ∙ pick-false _ _) ∙ long-answer w

  pub short-machine : 8 ≤ length xs → length h.machine < 25 → (xs' : List ℕ) (r : ℕ) → xs' ≡ splice xs 0 (answer_words (Answer.Refused Fault.Unsound)) → r ≡ number_of (Answer.Refused Fault.Unsound)
      → gave h xs' r ≡ set_up_in h given xs
  short-machine w e = no_room w (ap (λ t. t && leb 4 (length h.fuel)) (lt-leb 25 (length h.machine) e))

  pub short-fuel : 8 ≤ length xs → 25 ≤ length h.machine → length h.fuel < 4 → (xs' : List ℕ) (r : ℕ) → xs' ≡ splice xs 0 (answer_words (Answer.Refused Fault.Unsound)) → r ≡ number_of (Answer.Refused Fault.Unsound)
      → gave h xs' r ≡ set_up_in h given xs
  short-fuel w k e = no_room w (ap₂ (λ t u. t && u) (le-leb 25 (length h.machine) k) (lt-leb 4 (length h.fuel) e))

  pub set-up-made : 8 ≤ length xs → 25 ≤ length h.machine → 4 ≤ length h.fuel → (g : Gave) → g ≡ begin_in h given xs → g ≡ set_up_in h given xs
  set-up-made w k e g q = q ∙ sym (ap roomy (ap₂ (λ t u. t && u) (le-leb 25 (length h.machine) k) (le-leb 4 (length h.fuel) e)) ∙ pick_true _ _) ∙ long-answer w

-- whether it is accepted, by the lengths
pub no-machine : (h : Host) (given : List ℕ) (n : Lengths) (m f : ℕ) → LongAs h n m f → m < 25 → false ≡ (long h && set_up_ok given h.words)
no-machine h given n m f l e =
    let k : length h.machine < 25 = subst (λ i. i < 25) (sym l.machine) e in
    sym (ap (λ b. b && leb 4 (length h.fuel) && set_up_ok given h.words) (lt-leb 25 (length h.machine) k))

module _ (h : Host) (given : List ℕ) (n : Lengths) (m f : ℕ) (l : LongAs h n m f) (w : 25 ≤ m) where
  wide : 25 ≤ length h.machine
  wide = subst (λ i. 25 ≤ i) (sym l.machine) w

  pub no_fuel : f < 4 → false ≡ (long h && set_up_ok given h.words)
  no_fuel e =
      let k : length h.fuel < 4 = subst (λ i. i < 4) (sym l.fuel) e in
      sym (ap₂ (λ a b. a && b && set_up_ok given h.words) (le-leb 25 (length h.machine) wide) (lt-leb 4 (length h.fuel) k))

  pub long-all : 4 ≤ f → (b : Bool) → b ≡ set_up_ok given h.words → b ≡ (long h && set_up_ok given h.words)
  long-all e b q =
      let k : 4 ≤ length h.fuel = subst (λ i. 4 ≤ i) (sym l.fuel) e in
      q ∙ sym (ap₂ (λ a c. a && c && set_up_ok given h.words) (le-leb 25 (length h.machine) wide) (le-leb 4 (length h.fuel) k))

-- ---- a run

module _ (h : Host) (cs xs : List ℕ) where
  abbrev n : ℕ
  n = count_of (length cs)

  abbrev ran : Bool → Gave
  ran t = let u = run_words (state_of h) (calls_in n cs) in pick t (gave (overwritten h u.state) (written xs 0 u.answers) 0) (gave h (written xs 0 (refusals n)) 11)

  abbrev not-ran : Gave
  not-ran = gave h xs (short (passes_test h))

  pub run_short : (k : ℕ) → k ≡ n → length xs / 8 < k → (ok : Bool) → ok ≡ passes_test h → (r : ℕ) → r ≡ short ok → gave h xs r ≡ run_host h cs xs
  unfolding run_host
  run_short k e w ok known r q =
      ap (gave h xs) (q ∙ ap short known)
      ∙ sym (ap (λ t. pick t (ran (passes_test h)) not-ran) (sym (ap (λ z. leb (z * 8) (length xs)) e) ∙ few (length xs) k w) ∙ pick-false _ _)

  room_for : (k : ℕ) → k ≡ n → k * 8 ≤ length xs → ran (passes_test h) ≡ run_host h cs xs
  unfolding run_host
  room_for k e w = sym (ap (λ t. pick t (ran (passes_test h)) not-ran) (sym (ap (λ z. leb (z * 8) (length xs)) e) ∙ le-leb (k * 8) (length xs) w) ∙ pick_true _ _)

  module _ (k : ℕ) (e : k ≡ n) (w : k * 8 ≤ length xs) (ok : Bool) (known : ok ≡ passes_test h) where
    pub run-refused : ok ≡ false → (xs' : List ℕ) → xs' ≡ written xs 0 (refusals k) → gave h xs' 11 ≡ run_host h cs xs
    run-refused z xs' p = ap (λ (y : List ℕ). gave h y 11) (p ∙ ap (λ j. written xs 0 (refusals j)) e) ∙ sym (ap ran (sym known ∙ z) ∙ pick-false _ _) ∙ room_for k e w

    pub run-done : ok ≡ true → (s s' : MemoryState) → s ≡ state_of h → (ms' fs' xs' : List ℕ) → Listed s cs xs k s' xs'
        → ms' ≡ splice h.machine 0 (machine_words s'.machine) → fs' ≡ splice h.fuel 0 (fuel_words s'.fuel) → gave (host s'.words ms' fs') xs' 0 ≡ run_host h cs xs
    run-done z s s' is ms' fs' xs' did p q =
        let d = subst (λ j. Listed (state_of h) cs xs j s' xs') e (subst (λ (y : MemoryState). Listed y cs xs k s' xs') is did) in
        let u = d.state in
        let v = d.answers in
        (λ i. gave (host s'.words (p i) (q i)) xs' 0)
        ∙ (λ i. gave (overwritten h (u i)) (v i) 0)
        ∙ sym (ap ran (sym known ∙ z) ∙ pick_true _ _) ∙ room_for k e w
