-- What the functions answer, and what they leave where they do not do what was asked.
use Prim.Native.Nat.{ℕ, ◌*◌, ◌≤◌, ◌<◌}
use mathlib.Core.Path.{◌≡◌, refl, sym, ap, ap₂, ◌∙◌}
use mathlib.Core.Bool.{Bool, true, false, ◌&&◌}
use mathlib.Core.List.{List, [], ◌∷◌}
use lib.ListN.{length}
use lib.Dec.{leb}
use borrow.Author.Tests.{leb-true, le-leb, lt-leb}
use Rattle.lists.specs.Pick.{pick, pick-false}
use Rattle.lists.specs.Chunks.{words}
use Rattle.lists.specs.Parts.{splice}
use Rattle.heap.specs.declared.fault.Fault.{Fault}
use Rattle.model.specs.Answer.{number_of}
use Rattle.model.specs.Frames.{top_base}
use Rattle.model.specs.Call.{Operation}
use Rattle.model.specs.declared.call.Op.{Op}
use Rattle.model.specs.declared.call.Answer.{Answer}
use Rattle.claims_sound.proofs.Tests.{and_left, and_right}
use Rattle.memory_calls.specs.Answer.{answer_words}
use Rattle.std.specs.Prelude.{Result, Ok}
use Rattle.memory_calls.specs.declared.call.Gate.{Gate}
use Rattle.machine_added.specs.Look.{end_on}
use Rattle.memory_step.specs.Step.{decoded, set_up_ok, Do, memory_step}
use Rattle.outer_run.specs.Run.{Ran, run_words, count_of, calls_in, written, refusals}
use Rattle.linked_calls.specs.Host.{Host, state_of, passes_test, Gave, gave, tells, overwritten, do_in, kept_in, short, call_in, Granted, fresh_in, long, set_up_in, Looked, saw, look_in, run_host}
use Rattle.linked_calls.proofs.Hosts.{done}
use Rattle.linked_calls.proofs.Hosts as Hosts
use Rattle.claims_linked.specs.Library.{HasRoom, NoRoom, Untested}

-- ---- a call

pub kept : (h : Host) (r : Result Op Gate) (xs : List ℕ) → passes_test h ≡ true → 8 ≤ length xs → kept_in h r xs ≡ call_in h r xs
kept h r xs e w = Hosts.called h r xs (kept_in h r xs) w true (sym e) (done h r xs (kept_in h r xs) true refl refl)

pub told : (h : Host) (o : Operation) (xs : List ℕ) → passes_test h ≡ true → 8 ≤ length xs
    → let a = (memory_step (state_of h) (Do o)).answer in ((call_in h (Ok o.op) xs).answer ≡ splice xs 0 (answer_words a)) × ((call_in h (Ok o.op) xs).number ≡ number_of a)
told h o xs e w = let p = sym (kept h (Ok o.op) xs e w) in (ap (λ (g : Gave). g.answer) p, ap (λ (g : Gave). g.number) p)

-- by room for the answer, and by the test
abbrev pub by : Host → Result Op Gate → List ℕ → Bool → Bool → Gave
by h r xs room ok = pick room (pick ok (kept_in h r xs) (tells h (Answer.Refused Fault.Unsound) xs)) (gave h xs (short ok))

pub call-is : (h : Host) (r : Result Op Gate) (xs : List ℕ) → call_in h r xs ≡ by h r xs (leb 8 (length xs)) (passes_test h)
unfolding call_in
call-is h r xs = refl

no_answer : (h : Host) (r : Result Op Gate) (xs : List ℕ) → length xs < 8 → call_in h r xs ≡ gave h xs (short (passes_test h))
no_answer h r xs w = call-is h r xs ∙ ap (λ b. by h r xs b (passes_test h)) (lt-leb 8 (length xs) w) ∙ pick-false _ _

by-none : (h : Host) (r : Result Op Gate) (xs : List ℕ) → by h r xs true false ≡ tells h (Answer.Refused Fault.Unsound) xs
unfolding pick
by-none h r xs = refl

pub not-passed : (h : Host) (r : Result Op Gate) (xs : List ℕ) → passes_test h ≡ false → 8 ≤ length xs → call_in h r xs ≡ tells h (Answer.Refused Fault.Unsound) xs
not-passed h r xs e w = call-is h r xs ∙ ap₂ (by h r xs) (le-leb 8 (length xs) w) e ∙ by-none h r xs

-- a grant, by what the call gives
grant-gave : (h : Host) (n : ℕ) (xs fs' xs' : List ℕ) (r : ℕ) (g : Gave) → call_in h (Ok (Op.Grant n)) xs ≡ g → Granted h n xs fs' xs' r → (fs' ≡ g.host.fuel) × (xs' ≡ g.answer) × (r ≡ g.number)
grant-gave h n xs fs' xs' r g p k =
    (k.fuel ∙ ap (λ (x : Gave). x.host.fuel) p, k.answer ∙ ap (λ (x : Gave). x.answer) p, k.number ∙ ap (λ (x : Gave). x.number) p)

-- ---- a look

-- by room for the two places, and by the test
abbrev looked-by : Host → List ℕ → Bool → Bool → Looked
looked-by h zs room ok =
    let w = decoded (state_of h) in
    pick room (pick ok (saw (splice zs 0 (top_base w.frames ∷ end_on w.frames w.stack ∷ [])) 0) (saw (splice zs 0 (0 ∷ 0 ∷ [])) 11)) (saw zs (short ok))

look_is : (h : Host) (zs : List ℕ) → look_in h zs ≡ looked-by h zs (leb 2 (length zs)) (passes_test h)
unfolding look_in
look_is h zs = refl

sees-nothing : (h : Host) (zs : List ℕ) → looked-by h zs true false ≡ saw (splice zs 0 (0 ∷ 0 ∷ [])) 11
unfolding pick
sees-nothing h zs = refl

unseen : (h : Host) (zs : List ℕ) → passes_test h ≡ false → 2 ≤ length zs → look_in h zs ≡ saw (splice zs 0 (0 ∷ 0 ∷ [])) 11
unseen h zs e w = look_is h zs ∙ ap₂ (looked-by h zs) (le-leb 2 (length zs) w) e ∙ sees-nothing h zs

no-places : (h : Host) (zs : List ℕ) → length zs < 2 → look_in h zs ≡ saw zs (short (passes_test h))
no-places h zs w = look_is h zs ∙ ap (λ b. looked-by h zs b (passes_test h)) (lt-leb 2 (length zs) w) ∙ pick-false _ _

-- ---- a set-up

-- by room for the answer, for numbers and fuel, and by the set-up's own test
abbrev pub begun-by : Host → List ℕ → List ℕ → Bool → Bool → Bool → Gave
begun-by h given xs room wide ok =
    let no = tells h (Answer.Refused Fault.Unsound) xs in
    pick room (pick wide (pick ok (tells (fresh_in h given) Answer.Accepted xs) no) no) (gave h xs (short (wide && ok)))

pub set-up-is : (h : Host) (given xs : List ℕ) → set_up_in h given xs ≡ begun-by h given xs (leb 8 (length xs)) (long h) (set_up_ok given h.words)
unfolding set_up_in
set-up-is h given xs = refl

not-begun-by : (h : Host) (given xs : List ℕ) (room wide ok : Bool) → ((begun-by h given xs room wide ok).number ≡ 0 → ⊥) → (begun-by h given xs room wide ok).host ≡ h
unfolding pick
not-begun-by h given xs false wide ok n = refl
not-begun-by h given xs true false ok n = refl
not-begun-by h given xs true true false n = refl
not-begun-by h given xs true true true n = absurd (n refl)

pub not-begun : (h : Host) (given xs : List ℕ) → ((set_up_in h given xs).number ≡ 0 → ⊥) → (set_up_in h given xs).host ≡ h
not-begun h given xs n =
    let p = set-up-is h given xs in
    ap (λ (g : Gave). g.host) p
    ∙ not-begun-by h given xs (leb 8 (length xs)) (long h) (set_up_ok given h.words) (λ z. n (ap (λ (g : Gave). g.number) p ∙ z))

begun-none : (h : Host) (given xs : List ℕ) → length xs < 8 → set_up_in h given xs ≡ gave h xs (short (long h && set_up_ok given h.words))
begun-none h given xs w =
    set-up-is h given xs ∙ ap (λ b. begun-by h given xs b (long h) (set_up_ok given h.words)) (lt-leb 8 (length xs) w) ∙ pick-false _ _

room_of : (h : Host) (xs : List ℕ) → 8 ≤ length xs → long h ≡ true → HasRoom h xs
room_of h xs w e =
    let a = leb 25 (length h.machine) in
    let b = leb 4 (length h.fuel) in
    record { answer = w; machine = leb-true 25 (length h.machine) (and_left a b e); fuel = leb-true 4 (length h.fuel) (and_right a b e) }

refused-by : (h : Host) (given xs : List ℕ) (wide ok : Bool) → (wide ≡ true → ok ≡ true → ⊥) → begun-by h given xs true wide ok ≡ tells h (Answer.Refused Fault.Unsound) xs
unfolding pick
refused-by h given xs false ok n = refl
refused-by h given xs true false n = refl
refused-by h given xs true true n = absurd (n refl refl)

pub bad-set-up : (h : Host) (given xs : List ℕ) → 8 ≤ length xs → (HasRoom h xs → set_up_ok given h.words ≡ true → ⊥) → set_up_in h given xs ≡ tells h (Answer.Refused Fault.Unsound) xs
bad-set-up h given xs w n =
    set-up-is h given xs ∙ ap (λ b. begun-by h given xs b (long h) (set_up_ok given h.words)) (le-leb 8 (length xs) w)
    ∙ refused-by h given xs (long h) (set_up_ok given h.words) (λ l e. n (room_of h xs w l) e)

-- ---- a run

module _ (h : Host) (cs xs : List ℕ) where
  abbrev pub count : ℕ
  count = count_of (length cs)

  abbrev pub all : Ran
  all = run_words (state_of h) (calls_in count cs)

  -- by room for the answers, and by the test
  abbrev pub ran-by : Bool → Bool → Gave
  ran-by room ok =
      pick room (pick ok (gave (overwritten h all.state) (written xs 0 all.answers) 0) (gave h (written xs 0 (refusals count)) 11)) (gave h xs (short ok))

  pub run_is : run_host h cs xs ≡ ran-by (leb (count * 8) (length xs)) (passes_test h)
  unfolding run_host
  run_is = refl

  all_done : ran-by true true ≡ gave (overwritten h all.state) (written xs 0 all.answers) 0
  unfolding pick
  all_done = refl

  pub answered : passes_test h ≡ true → count * 8 ≤ length xs → ((run_host h cs xs).answer ≡ splice xs 0 (words answer_words all.answers)) × ((run_host h cs xs).number ≡ 0)
  answered e w =
      let p = run_is ∙ ap₂ ran-by (le-leb (count * 8) (length xs) w) e ∙ all_done in
      (ap (λ (g : Gave). g.answer) p, ap (λ (g : Gave). g.number) p)

  not-run-by : (room ok : Bool) → ((ran-by room ok).number ≡ 0 → ⊥) → (ran-by room ok).host ≡ h
  unfolding pick
  not-run-by false ok n = refl
  not-run-by true false n = refl
  not-run-by true true n = absurd (n refl)

  pub not-run : ((run_host h cs xs).number ≡ 0 → ⊥) → (run_host h cs xs).host ≡ h
  not-run n =
      ap (λ (g : Gave). g.host) run_is ∙ not-run-by (leb (count * 8) (length xs)) (passes_test h) (λ z. n (ap (λ (g : Gave). g.number) run_is ∙ z))

  no-answers : length xs < count * 8 → run_host h cs xs ≡ gave h xs (short (passes_test h))
  no-answers w = run_is ∙ ap (λ b. ran-by b (passes_test h)) (lt-leb (count * 8) (length xs) w) ∙ pick-false _ _

  none-run : ran-by true false ≡ gave h (written xs 0 (refusals count)) 11
  unfolding pick
  none-run = refl

  refused_all : passes_test h ≡ false → count * 8 ≤ length xs → run_host h cs xs ≡ gave h (written xs 0 (refusals count)) 11
  refused_all e w = run_is ∙ ap₂ ran-by (le-leb (count * 8) (length xs) w) e ∙ none-run

-- ---- an answer that does not fit; a machine that does not pass

pub no_room : (h : Host) (xs : List ℕ) → NoRoom h xs
no_room h xs =
    record {
      call = λ r w. no_answer h r xs w;
      run = λ cs w. no-answers h cs xs w;
      look = λ w. no-places h xs w;
      set-up = λ given w. begun-none h given xs w;
      grant = λ n fs' xs' r w k. grant-gave h n xs fs' xs' r (gave h xs (short (passes_test h))) (no_answer h (Ok (Op.Grant n)) xs w) k;
    }

pub untested : (h : Host) (xs : List ℕ) → passes_test h ≡ false → Untested h xs
untested h xs e =
    record {
      call = λ r w. not-passed h r xs e w;
      run = λ cs w. refused_all h cs xs e w;
      look = λ w. unseen h xs e w;
      grant = λ n fs' xs' r w k. grant-gave h n xs fs' xs' r (tells h (Answer.Refused Fault.Unsound) xs) (not-passed h (Ok (Op.Grant n)) xs e w) k;
    }
