-- A run's loop: what is left of it, done to the present, is the whole done to the start. Assumes nothing.
use mathlib.Core.Path.{◌≡◌, refl, sym, ap, ap₂, ◌∙◌, subst}
use mathlib.Core.List.{List, [], ◌∷◌, ◌++◌}
use Prim.Native.Nat.{ℕ, suc, ◌+◌, ◌-◌, ◌*◌, ◌≤◌, ◌<◌}
use native.Mathlib.Omega.{arith}
use lib.ListN.{length, take, drop, take-append-drop}
use lib.Seq.{drop-drop}
use Rattle.lists.specs.Chunks.{put_chunk, words}
use Rattle.lists.specs.Parts.{splice}
use Rattle.heap.specs.declared.fault.Fault.{Fault}
use Rattle.model.specs.declared.call.Answer.{Answer}
use Rattle.memory_world.specs.Memory.{Lent}
use Rattle.memory_world.specs.declared.machine.Sizes.{Sizes}
use Rattle.memory_world.proofs.Does.{SameLengths, alike, then-alike}
use Rattle.memory_world.specs.Words.{sizes_of}
use Rattle.memory_world.specs.Decode.{setup_of}
use Rattle.memory_calls.specs.Answer.{answer_words}
use Rattle.std.specs.Prelude.{Result}
use Rattle.memory_calls.specs.declared.call.Gate.{Gate}
use Rattle.model.specs.declared.call.Op.{Op}
use Rattle.memory_step.specs.Step.{MemoryState, Left, is_sound}
use Rattle.outer_call.specs.State.{SoundFits}
use Rattle.outer_run.specs.Run.{do_words, Ran, run_words, count_of, read_in, calls_in, written, refusals, Reads, ListFits, Listed}
use Rattle.outer_run.proofs.Written.{splice-next}

module _ (l : Sizes) (cs xs₀ : List ℕ) (n : ℕ) (s₀ : MemoryState) where
  -- the calls from place i on
  abbrev pub left_at : ℕ → List (Result Op Gate)
  left_at i = calls_in (n - i) (drop (i * 6) cs)

  pub record Along (s : MemoryState) (xs : List ℕ) (i : ℕ) : Type 0 where
    pub fits : SoundFits l s
    pub within : i ≤ n
    pub lengths : SameLengths s₀.words s.words
    pub long : length xs ≡ length xs₀
    pub state : (run_words s (left_at i)).state ≡ (run_words s₀ (calls_in n cs)).state
    pub answers : written xs (i * 8) (run_words s (left_at i)).answers ≡ written xs₀ 0 (run_words s₀ (calls_in n cs)).answers

  pub along-start : ListFits l s₀ cs xs₀ n → Along s₀ xs₀ 0
  along-start h =
      let e : n - 0 ≡ n = omega arith in
      record {
        fits = h.fits;
        within = omega arith;
        lengths = alike s₀.words;
        long = refl;
        state = ap (λ k. (run_words s₀ (calls_in k cs)).state) e;
        answers = ap (λ k. written xs₀ 0 (run_words s₀ (calls_in k cs)).answers) e;
      }

  pub along-end : (s : MemoryState) (xs : List ℕ) (i : ℕ) → n ≤ i → Along s xs i → Listed s₀ cs xs₀ n s xs
  along-end s xs i h a =
      let w = a.within in
      let e : n - i ≡ 0 = omega arith in
      record {
        state = sym (ap (λ k. (run_words s (calls_in k (drop (i * 6) cs))).state) e) ∙ a.state;
        answers = sym (take-append-drop (i * 8) xs) ∙ sym (ap (λ k. written xs (i * 8) (run_words s (calls_in k (drop (i * 6) cs))).answers) e) ∙ a.answers;
      }

  next : (i : ℕ) → i < n → left_at i ≡ read_in cs i ∷ left_at (i + 1)
  next i h =
      let e : n - i ≡ suc (n - (i + 1)) = omega arith in
      let p : i * 6 + 6 ≡ (i + 1) * 6 = omega arith in
      ap (λ k. calls_in k (drop (i * 6) cs)) e
      ∙ ap (λ (z : List ℕ). read_in cs i ∷ calls_in (n - (i + 1)) z) (drop-drop 6 (i * 6) cs ∙ ap (λ k. drop k cs) p)

  module _ (s : MemoryState) (xs : List ℕ) (i : ℕ) (a : Along s xs i) (h : i < n) (room : n * 8 ≤ length xs₀) where
    pub along-more : (d : Left) (xs' : List ℕ) → Reads s (read_in cs i) d → xs' ≡ put_chunk 8 xs i (answer_words d.answer) → SameLengths s.words d.state.words
        → d.state.words.setup ≡ s.words.setup → length xs' ≡ length xs → Along d.state xs' (i + 1)
    along-more d xs' r e q u g =
        let rs = left_at (i + 1) in
        let A = answer_words d.answer in
        let at : MemoryState → Ran = λ x. run_words x rs in
        let W : MemoryState → List ℕ = λ x. words answer_words (at x).answers in
        let step = next i h in
        let D = do_words s (read_in cs i) in
        let is : d ≡ D = r.is in
        let p : i * 8 + 8 ≡ (i + 1) * 8 = omega arith in
        let big : i * 8 + 8 ≤ length xs = let z = a.long in omega arith in
        record {
          fits = record { sound = r.again; sizes = a.fits.sizes ∙ ap (λ ws. sizes_of (setup_of ws)) (sym u) };
          within = omega arith;
          lengths = then-alike s₀.words s.words d.state.words a.lengths q;
          long = g ∙ a.long;
          state = ap (λ (x : Left). (at x.state).state) is ∙ sym (ap (λ (z : List (Result Op Gate)). (run_words s z).state) step) ∙ a.state;
          answers =
              ap₂ (λ (ys : List ℕ) k. splice ys k (W d.state)) e (sym p)
              ∙ splice-next xs A (W d.state) (i * 8) big
              ∙ ap (λ (x : Left). splice xs (i * 8) (answer_words x.answer ++ W x.state)) is
              ∙ sym (ap (λ (z : List (Result Op Gate)). written xs (i * 8) (run_words s z).answers) step)
              ∙ a.answers;
        }

-- the next turn, by what was read, done and put
pub along-next : {l : Sizes} {cs xs₀ xs xs' : List ℕ} {n i : ℕ} {s₀ s : MemoryState} {r : Result Op Gate} {d : Left} → Along l cs xs₀ n s₀ s xs i → i < n → n * 8 ≤ length xs₀ → r ≡ read_in cs i
    → Reads s r d → xs' ≡ put_chunk 8 xs i (answer_words d.answer) → SameLengths s.words d.state.words → d.state.words.setup ≡ s.words.setup → length xs' ≡ length xs
    → Along l cs xs₀ n s₀ d.state xs' (i + 1)
along-next {l} {cs} {xs₀} {xs} {xs'} {n} {i} {s₀} {s} {r} {d} a h room e did = along-more l cs xs₀ n s₀ s xs i a h room d xs' (subst (λ z. Reads s z d) e did)

-- ---- refused, one after the other

module _ (xs₀ : List ℕ) (n : ℕ) where
  pub record Refused (xs : List ℕ) (i : ℕ) : Type 0 where
    pub within : i ≤ n
    pub long : length xs ≡ length xs₀
    pub same : written xs (i * 8) (refusals (n - i)) ≡ written xs₀ 0 (refusals n)

  pub refused-start : Refused xs₀ 0
  refused-start = let e : n - 0 ≡ n = omega arith in record { within = omega arith; long = refl; same = ap (λ k. written xs₀ 0 (refusals k)) e }

  pub refused_end : (xs : List ℕ) (i : ℕ) → n ≤ i → Refused xs i → xs ≡ written xs₀ 0 (refusals n)
  refused_end xs i h a =
      let w = a.within in
      let e : n - i ≡ 0 = omega arith in
      sym (take-append-drop (i * 8) xs) ∙ sym (ap (λ k. written xs (i * 8) (refusals k)) e) ∙ a.same

  pub refused-more : (xs xs' : List ℕ) (i : ℕ) → n * 8 ≤ length xs₀ → i < n → Refused xs i → xs' ≡ put_chunk 8 xs i (answer_words (Answer.Refused Fault.Unsound)) → length xs' ≡ length xs
      → Refused xs' (i + 1)
  refused-more xs xs' i room h a e g =
      let A = answer_words (Answer.Refused Fault.Unsound) in
      let W = words answer_words (refusals (n - (i + 1))) in
      let k : n - i ≡ suc (n - (i + 1)) = omega arith in
      let p : i * 8 + 8 ≡ (i + 1) * 8 = omega arith in
      let big : i * 8 + 8 ≤ length xs = let z = a.long in omega arith in
      record {
        within = omega arith;
        long = g ∙ a.long;
        same =
            ap₂ (λ (ys : List ℕ) j. splice ys j W) e (sym p)
            ∙ splice-next xs A W (i * 8) big
            ∙ sym (ap (λ j. written xs (i * 8) (refusals j)) k)
            ∙ a.same;
      }
