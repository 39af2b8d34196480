-- Frames of a sleeper, noted and compared, case by case. Assumes nothing.
use Rattle.std.proofs.Common.{◌≡◌, ℕ, ◌+◌, ◌-◌, ◌*◌, ◌/◌, ◌%◌, ◌^◌, ◌<◌, ◌≤◌, Bool, true, false, ◌&&◌, eqb, ltb, leb, List, length, get_or, sym, refl, ap, ◌∙◌, ap₂, ltb-true, le-ltb, lt-ltb, eq-eqb, ne_eqb, le-leb, leb-true}
use borrow.Author.Tests.{lt-leb}
use Rattle.lists.specs.Pick.{pick, pick_true, pick-false}
use Rattle.lists.specs.Tests.{all_below}
use Rattle.lists.proofs.Tests.{fails-at}
use Rattle.claims_sound.proofs.Tests.{and_left, and_right}
use Rattle.furnace.specs.Watch.{frames_fit, top_pc, word_back, noted_frames, frames_back}

-- ---- whether they can be noted

pub record Fit (frames : List ℕ) (floor depth : ℕ) : Type 0 where
  pub some : floor < depth
  pub few : depth - floor ≤ 2
  pub whole : depth ≤ length frames / 6

module _ (frames : List ℕ) (floor depth : ℕ) where
  pub fitting : frames_fit frames floor depth ≡ true → Fit frames floor depth
  fitting h =
      let rest = and_right (ltb floor depth) _ h in
      record {
        some = ltb-true floor depth (and_left (ltb floor depth) _ h);
        few = leb-true (depth - floor) 2 (and_left (leb (depth - floor) 2) _ rest);
        whole = leb-true depth (length frames / 6) (and_right (leb (depth - floor) 2) _ rest);
      }

  pub no-frame : depth ≤ floor → false ≡ frames_fit frames floor depth
  no-frame h = rw (le-ltb floor depth h)

  pub many-frames : floor < depth → 2 < depth - floor → false ≡ frames_fit frames floor depth
  many-frames a h = rw (lt-ltb floor depth a, lt-leb (depth - floor) 2 h)

  pub whole-frames : floor < depth → depth - floor ≤ 2 → leb depth (length frames / 6) ≡ frames_fit frames floor depth
  whole-frames a b = rw (lt-ltb floor depth a, le-leb (depth - floor) 2 b)

-- ---- a word of them again

module _ (sent : Bool) (n from to p was is : ℕ) where
  abbrev stepped : ℕ
  stepped = (was % 2 ^ 32 + 1) % 2 ^ 32

  abbrev base : Bool
  base = eqb (is - to) (was - from)

  abbrev other : Bool → Bool → Bool
  other s t = pick (s && t) (eqb is stepped) (eqb is was)

  pub base_back : (a b : ℕ) → p % 6 ≡ 2 → a ≡ is - to → b ≡ was - from → eqb a b ≡ word_back sent n from to p was is
  base_back a b h e f = ap₂ eqb e f ∙ sym (ap (λ (t : Bool). pick t base (other sent (eqb p (top_pc n)))) (eq-eqb (p % 6) 2 h) ∙ pick_true base (other sent (eqb p (top_pc n))))

  module _ (h : p % 6 ≡ 2 → ⊥) where
    no-base : word_back sent n from to p was is ≡ other sent (eqb p (top_pc n))
    no-base = ap (λ (t : Bool). pick t base (other sent (eqb p (top_pc n)))) (ne_eqb (p % 6) 2 h) ∙ pick-false base (other sent (eqb p (top_pc n)))

    pub pc-back : sent ≡ true → (k : ℕ) → k ≡ top_pc n → p ≡ k → eqb is stepped ≡ word_back sent n from to p was is
    pc-back s k e f = sym (no-base ∙ ap₂ other s (eq-eqb p (top_pc n) (f ∙ e)) ∙ pick_true (eqb is stepped) (eqb is was))

    pub other-back : sent ≡ true → (k : ℕ) → k ≡ top_pc n → (p ≡ k → ⊥) → eqb is was ≡ word_back sent n from to p was is
    other-back s k e f = sym (no-base ∙ ap₂ other s (ne_eqb p (top_pc n) (λ g. f (g ∙ sym e))) ∙ pick-false (eqb is stepped) (eqb is was))

    pub unsent-back : sent ≡ false → eqb is was ≡ word_back sent n from to p was is
    unsent-back s = sym (no-base ∙ ap (λ (t : Bool). other t (eqb p (top_pc n))) s ∙ pick-false (eqb is stepped) (eqb is was))

-- ---- all of them

and-false : (b : Bool) → (b && false) ≡ false
and-false true = refl
and-false false = refl

module _ (frames : List ℕ) (floor depth : ℕ) (notes : List ℕ) (at : ℕ) (sent : Bool) (from to n : ℕ) (is : n ≡ noted_frames notes at) where
  abbrev pub test : ℕ → ℕ → Bool
  test k p = word_back sent k from to p (get_or notes (at + 17 + p) 0) (get_or frames (floor * 6 + p) 0)

  abbrev all : ℕ → ℕ → Bool
  all k d = eqb d k && all_below (k * 6) (test k)

  there : all n (depth - floor) ≡ frames_back frames floor depth notes at sent from to
  there = ap (λ (k : ℕ). all k (depth - floor)) is

  pub other-many : (d : ℕ) → d ≡ depth - floor → (d ≡ n → ⊥) → false ≡ frames_back frames floor depth notes at sent from to
  other-many d e h = sym (ap (λ (b : Bool). b && all_below (n * 6) (test n)) (ne_eqb d n h)) ∙ ap (all n) e ∙ there

  pub one-differs : (p : ℕ) → p < n * 6 → test n p ≡ false → false ≡ frames_back frames floor depth notes at sent from to
  one-differs p h e = sym (ap (λ (b : Bool). eqb (depth - floor) n && b) (fails-at (n * 6) p (test n) h e) ∙ and-false (eqb (depth - floor) n)) ∙ there

  pub each_back : (d p : ℕ) → d ≡ depth - floor → d ≡ n → p ≡ n * 6 → all_below p (test n) ≡ true → true ≡ frames_back frames floor depth notes at sent from to
  each_back d p e f h k = sym (ap₂ ◌&&◌ (eq-eqb d n f) (sym (ap (λ (x : ℕ). all_below x (test n)) h) ∙ k)) ∙ ap (all n) e ∙ there
