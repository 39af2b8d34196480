-- The chain beside the frames: the words' tests, and the rules that they decide. Assumes nothing.
use mathlib.Core.Path.{◌≡◌, refl, sym, ap, ap₂, ◌∙◌}
use mathlib.Core.Bool.{Bool, true, false, ◌&&◌}
use mathlib.Core.List.{List, [], ◌∷◌}
use Prim.Native.Nat.{ℕ, zero, suc, ◌+◌, ◌-◌, ◌*◌, ◌≤◌, ◌<◌}
use native.Mathlib.Omega.{arith}
use borrow.Author.Tests.{eqb-true, eq-eqb, ne_eqb, lt-ltb, le-ltb}
use lib.Dec.{eqb, ltb}
use lib.ListN.{length, get_or}
use Rattle.lists.specs.Pick.{pick, pick_true, pick-false}
use Rattle.lists.specs.Chunks.{chunk_at}
use Rattle.lists.proofs.Tables.{chunk-get, length-chunk}
use Rattle.model.specs.Frames.{is_coro}
use Rattle.model.specs.Sound.{lies_under, driver_lies, beside, matches}
use Rattle.model.specs.declared.machine.Driver.{Driver}
use Rattle.model.specs.declared.machine.Frame.{Frame}
use Rattle.model.specs.declared.machine.Active.{Active}
use Rattle.claims_sound.proofs.Tests.{no_false, and_left, and_right, both}
use Rattle.memory_tables.specs.Layout.{driver_code, driver_first, driver_second, driver_third, driver_of, frame_words, frame_of, frame_in, active_words, active_of, active_in}
use Rattle.memory_tables.specs.Parts.{piled}
use Rattle.memory_tables.proofs.Codes.{active-read}
use Rattle.memory_sound.specs.Words.{same, coded, rest_ok}
use Rattle.memory_sound.proofs.Held.{length-piled}
use Rattle.check_tables.specs.Chain.{driver_held, driver_in, active_test, chain_test, chain_ok}
use Rattle.check_tables.proofs.Bools.{iff, and-true, eqb-flip}
use Rattle.check_tables.proofs.Conts.{coro-code}

-- ---- a driver's words

late : (n a b c : ℕ) → 3 ≤ n → driver_of n a b c ≡ Driver.Finalize
unfolding pick
late n a b c h = rw (ne_eqb n 0 (λ e. omega arith), ne_eqb n 1 (λ e. omega arith), ne_eqb n 2 (λ e. omega arith))

module _ (n a b c : ℕ) where
  pub iter-held : n ≡ 1 → true ≡ driver_held n a b c
  unfolding pick
  iter-held e = rw (e, eq-eqb a a refl, eq-eqb b b refl, eq-eqb c c refl)

  pub past-held : 3 < n → false ≡ driver_held n a b c
  past-held h = sym (ap (λ d. eqb (driver_code d) n && (eqb (driver_first d) a && (eqb (driver_second d) b && eqb (driver_third d) c))) (late n a b c (omega arith)) ∙ (rw (ne_eqb 3 n (λ e. omega arith))))

-- a driver without a second and a third number
plain : (n a b c : ℕ) → (n ≡ 1 → ⊥) → n ≤ 3 → driver_held n a b c ≡ (pick (eqb n 0) true (eqb 0 a) && (eqb 0 b && eqb 0 c))
unfolding pick
plain zero a b c h l = rw (eq-eqb a a refl)
plain (suc zero) a b c h l = absurd (h refl)
plain (suc (suc zero)) a b c h l = refl
plain (suc (suc (suc zero))) a b c h l = refl
plain (suc (suc (suc (suc n)))) a b c h l = absurd (omega arith)

module _ (n a b c : ℕ) (h : n ≡ 1 → ⊥) (l : n ≤ 3) where
  and_no : (x y : Bool) → (x && (false && y)) ≡ false
  and_no true y = refl
  and_no false y = refl

  and_last : (x : Bool) → (x && (true && false)) ≡ false
  and_last true = refl
  and_last false = refl

  pub second-not : (b ≡ 0 → ⊥) → false ≡ driver_held n a b c
  second-not q = sym (plain n a b c h l ∙ ap (λ t. pick (eqb n 0) true (eqb 0 a) && (t && eqb 0 c)) (ne_eqb 0 b (λ e. q (sym e))) ∙ and_no (pick (eqb n 0) true (eqb 0 a)) (eqb 0 c))

  pub third-not : b ≡ 0 → (c ≡ 0 → ⊥) → false ≡ driver_held n a b c
  third-not p q =
      sym
      (plain n a b c h l ∙ ap₂ (λ t u. pick (eqb n 0) true (eqb 0 a) && (t && u)) (eq-eqb 0 b (sym p)) (ne_eqb 0 c (λ e. q (sym e)))
      ∙ and_last (pick (eqb n 0) true (eqb 0 a)))

  pub first-free : b ≡ 0 → c ≡ 0 → n ≡ 0 → true ≡ driver_held n a b c
  unfolding pick
  first-free p q e = sym (plain n a b c h l ∙ (rw (eq-eqb 0 b (sym p), eq-eqb 0 c (sym q), eq-eqb n 0 e)))

  pub first-zero : b ≡ 0 → c ≡ 0 → (n ≡ 0 → ⊥) → eqb a 0 ≡ driver_held n a b c
  unfolding pick
  first-zero p q e = eqb-flip a 0 ∙ sym (plain n a b c h l ∙ (rw (eq-eqb 0 b (sym p), eq-eqb 0 c (sym q), ne_eqb n 0 e, and-true (eqb 0 a))))

-- ---- a driver's registers

module _ (n a b c end : ℕ) (fs : List Frame) where
  pub far-lies : 1 < n → true ≡ driver_lies (driver_of n a b c) end fs
  unfolding pick
  far-lies h = go n h
    where
      go : (m : ℕ) → 1 < m → true ≡ driver_lies (driver_of m a b c) end fs
      go zero l = absurd (omega arith)
      go (suc zero) l = absurd (omega arith)
      go (suc (suc zero)) l = refl
      go (suc (suc (suc m))) l = sym (ap (λ d. driver_lies d end fs) (late (suc (suc (suc m))) a b c (omega arith)))

  module _ (x : Bool) (e : x ≡ lies_under a end fs) where
    pub first_out : n ≤ 1 → x ≡ false → false ≡ driver_lies (driver_of n a b c) end fs
    unfolding pick
    first_out h z = go n h
      where
        go : (m : ℕ) → m ≤ 1 → false ≡ driver_lies (driver_of m a b c) end fs
        go zero l = sym (sym e ∙ z)
        go (suc zero) l = sym (ap (λ t. t && lies_under b end fs) (sym e ∙ z))
        go (suc (suc m)) l = absurd (omega arith)

    pub only-first : n ≡ 0 → x ≡ true → true ≡ driver_lies (driver_of n a b c) end fs
    unfolding pick
    only-first h z = rw h (sym (sym e ∙ z))

    pub then-second : (y : Bool) → n ≤ 1 → (n ≡ 0 → ⊥) → x ≡ true → y ≡ lies_under b end fs → y ≡ driver_lies (driver_of n a b c) end fs
    unfolding pick
    then-second y h p z q = let k : n ≡ 1 = omega arith in rw k (q ∙ sym (ap (λ t. t && lies_under b end fs) (sym e ∙ z)))

-- ---- the active one at a frame

module _ (chain frames : List ℕ) (k i : ℕ) where
  abbrev held : Bool
  held = driver_held (get_or chain (k * 6 + 2) 0) (get_or chain (k * 6 + 3) 0) (get_or chain (k * 6 + 4) 0) (get_or chain (k * 6 + 5) 0)

  abbrev lies : Bool
  lies = driver_lies (driver_in chain k) (get_or frames (i * 6 + 2) 0) (piled 6 frame_of i frames)

  pub other-floor : (get_or chain (k * 6 + 1) 0 ≡ i → ⊥) → false ≡ active_test chain frames k i
  other-floor h = sym (ap (λ t. t && held && lies) (ne_eqb (get_or chain (k * 6 + 1) 0) i h))

  pub bad-driver : get_or chain (k * 6 + 1) 0 ≡ i → (b : Bool) → b ≡ held → b ≡ false → false ≡ active_test chain frames k i
  bad-driver e b p q = sym (ap₂ (λ t u. t && u && lies) (eq-eqb (get_or chain (k * 6 + 1) 0) i e) (sym p ∙ q))

  pub last-lies : get_or chain (k * 6 + 1) 0 ≡ i → (b c : Bool) → b ≡ held → b ≡ true → c ≡ lies → c ≡ active_test chain frames k i
  last-lies e b c p q r = r ∙ sym (ap₂ (λ t u. t && u && lies) (eq-eqb (get_or chain (k * 6 + 1) 0) i e) (sym p ∙ q))

-- ---- the loop

module _ (chain frames : List ℕ) (i k : ℕ) (whole : Bool) (inv : whole ≡ chain_test chain frames i k) (some : 0 < i) where
  abbrev j : ℕ
  j = i - 1

  abbrev code : ℕ
  code = get_or frames (j * 6 + 4) 0

  down : i ≡ suc j
  down = omega arith

  pub none_left : 4 < code → k ≡ 0 → false ≡ whole
  none_left h e =
      sym
      (inv ∙ ap₂ (chain_test chain frames) down e ∙ ap (λ t. pick t false (chain_test chain frames j zero)) (lt-ltb 4 code h)
      ∙ pick_true false (chain_test chain frames j zero))

  module _ (h : 4 < code) (more : 0 < k) where
    step : whole ≡ (active_test chain frames (k - 1) j && chain_test chain frames j (k - 1))
    step =
        let e : k ≡ suc (k - 1) = omega arith in
        let rest : Bool = active_test chain frames (k - 1) j && chain_test chain frames j (k - 1) in
        inv ∙ ap₂ (chain_test chain frames) down e ∙ ap (λ t. pick t rest (chain_test chain frames j (suc (k - 1)))) (lt-ltb 4 code h)
        ∙ pick_true rest (chain_test chain frames j (suc (k - 1)))

    pub active-stop : (b : Bool) → b ≡ active_test chain frames (k - 1) j → b ≡ false → false ≡ whole
    active-stop b p q = sym (step ∙ ap (λ t. t && chain_test chain frames j (k - 1)) (sym p ∙ q))

    pub active-more : (b : Bool) → b ≡ active_test chain frames (k - 1) j → b ≡ true → whole ≡ chain_test chain frames j (k - 1)
    active-more b p q = step ∙ ap (λ t. t && chain_test chain frames j (k - 1)) (sym p ∙ q)

  pub plain_more : code ≤ 4 → whole ≡ chain_test chain frames j k
  plain_more h = inv ∙ ap (λ n. chain_test chain frames n k) down ∙ go k
    where
      go : (n : ℕ) → chain_test chain frames (suc j) n ≡ chain_test chain frames j n
      go zero = ap (λ t. pick t false (chain_test chain frames j zero)) (le-ltb 4 code h) ∙ pick-false false (chain_test chain frames j zero)
      go (suc n) =
          let rest : Bool = active_test chain frames n j && chain_test chain frames j n in
          ap (λ t. pick t rest (chain_test chain frames j (suc n))) (le-ltb 4 code h) ∙ pick-false rest (chain_test chain frames j (suc n))

pub chain-end : (chain frames : List ℕ) (i k : ℕ) (whole : Bool) → whole ≡ chain_test chain frames i k → i ≤ 0 → eqb k 0 ≡ whole
chain-end chain frames i k whole inv h = let e : i ≡ 0 = omega arith in sym (inv ∙ ap (λ n. chain_test chain frames n k) e)

-- ---- codes, and what a record reads

code_same : (c : List ℕ) → length c ≡ 6 → same (active_words (active_of c)) c ≡ driver_held (get_or c 2 0) (get_or c 3 0) (get_or c 4 0) (get_or c 5 0)
code_same [] l = absurd (omega arith)
code_same (a ∷ []) l = absurd (omega arith)
code_same (a ∷ b ∷ []) l = absurd (omega arith)
code_same (a ∷ b ∷ c ∷ []) l = absurd (omega arith)
code_same (a ∷ b ∷ c ∷ d ∷ []) l = absurd (omega arith)
code_same (a ∷ b ∷ c ∷ d ∷ e ∷ []) l = absurd (omega arith)
code_same (a ∷ b ∷ c ∷ d ∷ e ∷ f ∷ g ∷ h) l = absurd (omega arith)
code_same (a ∷ b ∷ c ∷ d ∷ e ∷ f ∷ []) l = rw (eq-eqb a a refl, eq-eqb b b refl, and-true (eqb (driver_third (driver_of c d e f)) f))

module _ (chain frames : List ℕ) where
  active-same : (k : ℕ) → k * 6 + 6 ≤ length chain → same (active_words (active_of (chunk_at 6 chain k))) (chunk_at 6 chain k) ≡ driver_held (get_or chain (k * 6 + 2) 0) (get_or chain (k * 6 + 3) 0) (get_or chain (k * 6 + 4) 0) (get_or chain (k * 6 + 5) 0)
  active-same k h =
      let C = chunk_at 6 chain k in
      code_same C (length-chunk 6 k chain h)
      ∙ ap₂ (λ x y. driver_held x y (get_or C 4 0) (get_or C 5 0)) (chunk-get 6 k 2 chain (omega arith)) (chunk-get 6 k 3 chain (omega arith))
      ∙ ap₂ (λ x y. driver_held (get_or chain (k * 6 + 2) 0) (get_or chain (k * 6 + 3) 0) x y) (chunk-get 6 k 4 chain (omega arith)) (chunk-get 6 k 5 chain (omega arith))

  read : (k : ℕ) → record { coro = get_or chain (k * 6) 0; floor = get_or chain (k * 6 + 1) 0; driver = driver_in chain k } ≡ active_in chain k
  read k = active-read chain k (driver_in chain k) refl

  coro-at : (i : ℕ) → is_coro (frame_in frames i).cont ≡ ltb 4 (get_or frames (i * 6 + 4) 0)
  coro-at i = coro-code (get_or (chunk_at 6 frames i) 4 0) (get_or (chunk_at 6 frames i) 5 0) ∙ ap (ltb 4) (chunk-get 6 i 4 frames (omega arith))

  -- ---- the rules

  abbrev floor_test : Frame → List Frame → Active → Bool
  floor_test f fs a = eqb a.floor (length fs)

  abbrev driver_test : Frame → List Frame → Active → Bool
  driver_test f fs a = driver_lies a.driver f.base fs

  -- what the two tests ask of an active one
  floor-is : (i k : ℕ) → floor_test (frame_in frames i) (piled 6 frame_of i frames) (active_in chain k) ≡ eqb (get_or chain (k * 6 + 1) 0) i
  floor-is i k = ap₂ eqb (sym (ap (λ (a : Active). a.floor) (read k))) (length-piled 6 frame_words frame_of i frames)

  driver-is : (i k : ℕ) → driver_test (frame_in frames i) (piled 6 frame_of i frames) (active_in chain k) ≡ driver_lies (driver_in chain k) (get_or frames (i * 6 + 2) 0) (piled 6 frame_of i frames)
  driver-is i k = ap₂ (λ d b. driver_lies d b (piled 6 frame_of i frames)) (sym (ap (λ (a : Active). a.driver) (read k))) (chunk-get 6 i 2 frames (omega arith))

  record Facts (i k : ℕ) : Type 0 where
    codes : coded 6 active_words active_of k chain ≡ true
    floors : matches floor_test (piled 6 frame_of i frames) (piled 6 active_of k chain) ≡ true
    drivers : matches driver_test (piled 6 frame_of i frames) (piled 6 active_of k chain) ≡ true

  -- one frame more, by whether it is Coro
  over : (test : Frame → List Frame → Active → Bool) (i : ℕ) (b : Bool) (cs : List Active) → ltb 4 (get_or frames (i * 6 + 4) 0) ≡ b
      → matches test (piled 6 frame_of (suc i) frames) cs ≡ beside b test (frame_in frames i) (piled 6 frame_of i frames) cs (matches test (piled 6 frame_of i frames))
  over test i b cs e = ap (λ t. beside t test (frame_in frames i) (piled 6 frame_of i frames) cs (matches test (piled 6 frame_of i frames))) (coro-at i ∙ e)

  module _ (i : ℕ) where
    abbrev coro : Bool
    coro = ltb 4 (get_or frames (i * 6 + 4) 0)

    abbrev fs : List Frame
    fs = piled 6 frame_of i frames

    more-none : (b : Bool) → coro ≡ b → pick b false (chain_test chain frames i zero) ≡ true → (chain_test chain frames i zero ≡ true → Facts i zero) → Facts (suc i) zero
    unfolding pick
    more-none true e q next = no_false q
    more-none false e q next =
        let r = next q in record { codes = refl; floors = over floor_test i false [] e ∙ r.floors; drivers = over driver_test i false [] e ∙ r.drivers }

    back_none : (b : Bool) → coro ≡ b → Facts (suc i) zero → (Facts i zero → chain_test chain frames i zero ≡ true) → pick b false (chain_test chain frames i zero) ≡ true
    unfolding pick
    back_none true e r next = no_false (sym (over floor_test i true [] e) ∙ r.floors)
    back_none false e r next = next (record { codes = refl; floors = sym (over floor_test i false [] e) ∙ r.floors; drivers = sym (over driver_test i false [] e) ∙ r.drivers })

    module _ (k : ℕ) (l : suc k * 6 ≤ length chain) where
      abbrev cs : List Active
      cs = piled 6 active_of (suc k) chain

      abbrev here : Bool
      here = active_test chain frames k i

      abbrev below : Bool
      below = chain_test chain frames i k

      more-some : (b : Bool) → coro ≡ b → pick b (here && below) (chain_test chain frames i (suc k)) ≡ true → (below ≡ true → Facts i k)
          → (chain_test chain frames i (suc k) ≡ true → Facts i (suc k)) → Facts (suc i) (suc k)
      unfolding pick
      more-some true e q one all =
          let t = and_left here below q in
          let r = one (and_right here below q) in
          let x = eqb (get_or chain (k * 6 + 1) 0) i in
          let y = driver_held (get_or chain (k * 6 + 2) 0) (get_or chain (k * 6 + 3) 0) (get_or chain (k * 6 + 4) 0) (get_or chain (k * 6 + 5) 0) in
          let z = driver_lies (driver_in chain k) (get_or frames (i * 6 + 2) 0) fs in
          let xy = and_left (x && y) z t in
          record {
            codes = both r.codes (active-same k (omega arith) ∙ and_right x y xy);
            floors = over floor_test i true cs e ∙ both (floor-is i k ∙ and_left x y xy) r.floors;
            drivers = over driver_test i true cs e ∙ both (driver-is i k ∙ and_right (x && y) z t) r.drivers;
          }
      more-some false e q one all =
          let r = all q in record { codes = r.codes; floors = over floor_test i false cs e ∙ r.floors; drivers = over driver_test i false cs e ∙ r.drivers }

      back_some : (b : Bool) → coro ≡ b → Facts (suc i) (suc k) → (Facts i k → below ≡ true) → (Facts i (suc k) → chain_test chain frames i (suc k) ≡ true)
          → pick b (here && below) (chain_test chain frames i (suc k)) ≡ true
      unfolding pick
      back_some true e r one all =
          let f₁ = sym (over floor_test i true cs e) ∙ r.floors in
          let d₁ = sym (over driver_test i true cs e) ∙ r.drivers in
          let ft = floor_test (frame_in frames i) fs (active_in chain k) in
          let dt = driver_test (frame_in frames i) fs (active_in chain k) in
          let fr = matches floor_test fs (piled 6 active_of k chain) in
          let dr = matches driver_test fs (piled 6 active_of k chain) in
          let kc = coded 6 active_words active_of k chain in
          let ks = same (active_words (active_of (chunk_at 6 chain k))) (chunk_at 6 chain k) in
          both
          (both (both (sym (floor-is i k) ∙ and_left ft fr f₁) (sym (active-same k (omega arith)) ∙ and_right kc ks r.codes)) (sym (driver-is i k) ∙ and_left dt dr d₁))
          (one (record { codes = and_left kc ks r.codes; floors = and_right ft fr f₁; drivers = and_right dt dr d₁ }))
      back_some false e r one all =
          all (record { codes = r.codes; floors = sym (over floor_test i false cs e) ∙ r.floors; drivers = sym (over driver_test i false cs e) ∙ r.drivers })

  facts : (i k : ℕ) → k * 6 ≤ length chain → chain_test chain frames i k ≡ true → Facts i k
  facts zero zero l h = record { codes = refl; floors = refl; drivers = refl }
  facts zero (suc k) l h = absurd (let e = eqb-true (suc k) 0 h in omega arith)
  facts (suc i) zero l h = more-none i (coro i) refl h (facts i zero l)
  facts (suc i) (suc k) l h = more-some i k l (coro i) refl h (facts i k (omega arith)) (facts i (suc k) l)

  tests : (i k : ℕ) → k * 6 ≤ length chain → Facts i k → chain_test chain frames i k ≡ true
  tests zero zero l r = refl
  tests zero (suc k) l r = no_false r.floors
  tests (suc i) zero l r = back_none i (coro i) refl r (tests i zero l)
  tests (suc i) (suc k) l r = back_some i k l (coro i) refl r (tests i k (omega arith)) (tests i (suc k) l)

  pub chain-rules : (n depth : ℕ) → n * 6 ≤ length chain → (chain_test chain frames depth n && rest_ok chain (n * 6)) ≡ chain_ok chain n frames depth
  chain-rules n depth l =
      let t = chain_test chain frames depth n in
      let z = rest_ok chain (n * 6) in
      let k = coded 6 active_words active_of n chain in
      let a = matches floor_test (piled 6 frame_of depth frames) (piled 6 active_of n chain) in
      let b = matches driver_test (piled 6 frame_of depth frames) (piled 6 active_of n chain) in
      iff (t && z) (chain_ok chain n frames depth)
      (λ h. let r = facts depth n l (and_left t z h) in both (both (both r.codes (and_right t z h)) r.floors) r.drivers)
      (λ h.
      let u = and_left (k && z && a) b h in
      let v = and_left (k && z) a u in
      both (tests depth n l (record { codes = and_left k z v; floors = and_right (k && z) a u; drivers = and_right (k && z && a) b h })) (and_right k z v))
