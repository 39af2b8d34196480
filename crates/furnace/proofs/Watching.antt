-- What is seen, noted and counted, case by case. Assumes nothing.
use Rattle.std.proofs.Common.{◌≡◌, ℕ, suc, ◌+◌, ◌-◌, ◌%◌, ◌^◌, ◌<◌, ◌≤◌, Bool, true, false, not, ◌&&◌, eqb, List, [], ◌∷◌, length, get_or, take, drop, sym, refl, ap, ◌∙◌, ap₂, le-ltb, lt-ltb, eq-eqb, ne_eqb, le-leb}
use Rattle.std.specs.Prelude.{Option, None, Some, is_some}
use borrow.Author.Tests.{lt-leb, not-true, not-false}
use types.Run.{OneOf, miss}
use denote.Enum.Declared.{tag_of}
use Rattle.lists.specs.Pick.{pick, pick_true, pick-false}
use Rattle.lists.specs.Parts.{part}
use Rattle.heap.specs.Word.{nil}
use Rattle.model.specs.Answer.{number_of}
use Rattle.model.specs.declared.call.Op.{Op}
use Rattle.model.specs.declared.call.Answer.{Answer}
use Rattle.model.specs.contracts.call.Op as Op'
use Rattle.memory_world.specs.declared.machine.Machine.{Machine}
use Rattle.memory_tables.proofs.Padded.{span}
use Rattle.memory_calls.specs.Codes.{same}
use Rattle.furnace.specs.declared.watch.Part.{Part}
use Rattle.furnace.specs.declared.note.Seen.{Seen}
use Rattle.furnace.specs.declared.note.Count.{Count}
use Rattle.furnace.specs.Watch.{coro_in, floor_in, owner_in, top_base, own_base, part_of, sent_by, arriving, note_of, note_fits, frames_fit, note, note_frames, noted_at, noted, at_most, noted_words, sent_to, one_more, frames_back, is_back, entering, counted}
use Rattle.furnace.specs.contracts.watch.Part as Part'
use Rattle.furnace.proofs.Words.{clamped}

-- ---- whose a frame is: of k running coroutines, by the last of them

module _ (chain : List ℕ) (n i k : ℕ) (all : owner_in chain n i ≡ owner_in chain k i) where
  abbrev last : ℕ → Bool → ℕ
  last j b = pick b (coro_in chain j) (owner_in chain j i)

  pub owns : (j : ℕ) → suc j ≡ k → floor_in chain j ≤ i → coro_in chain j ≡ owner_in chain n i
  owns j e h = sym (all ∙ sym (ap (λ (m : ℕ). owner_in chain m i) e) ∙ ap (last j) (le-leb (floor_in chain j) i h) ∙ pick_true (coro_in chain j) (owner_in chain j i))

  pub owns_not : (j : ℕ) → suc j ≡ k → i < floor_in chain j → owner_in chain n i ≡ owner_in chain j i
  owns_not j e h = all ∙ sym (ap (λ (m : ℕ). owner_in chain m i) e) ∙ ap (last j) (lt-leb (floor_in chain j) i h) ∙ pick-false (coro_in chain j) (owner_in chain j i)

  pub owns_none : k ≡ 0 → nil ≡ owner_in chain n i
  owns_none e = sym (all ∙ ap (λ (m : ℕ). owner_in chain m i) e)

-- ---- a call

abbrev others : List ℕ
others = 0 ∷ 1 ∷ 2 ∷ 7 ∷ 8 ∷ 9 ∷ 10 ∷ 11 ∷ 12 ∷ 14 ∷ 15 ∷ 16 ∷ 17 ∷ 19 ∷ 20 ∷ 21 ∷ 22 ∷ 23 ∷ 24 ∷ 25 ∷ 26 ∷ []

pub no_part : (o : Op) → OneOf others (tag_of Op'.the_type o) → Part.Neither ≡ part_of o
no_part (Op.CoroNew a b d e) h = refl
no_part (Op.CoroNewIndirect a b d e) h = refl
no_part (Op.Spawn a b d e) h = refl
no_part (Op.Yield a b d) h = absurd (miss others 3 tt h)
no_part (Op.YieldKv a b d e) h = absurd (miss others 4 tt h)
no_part (Op.Await a b d) h = absurd (miss others 5 tt h)
no_part (Op.Resume a b d e) h = absurd (miss others 6 tt h)
no_part (Op.ResumeThrow a b d e) h = refl
no_part (Op.CoroClose a b d e) h = refl
no_part (Op.CoroStatus a b d) h = refl
no_part (Op.CoroCurrent a b) h = refl
no_part (Op.CoroKey a b d) h = refl
no_part (Op.CoroResult a b d) h = refl
no_part (Op.IterNext a b d e g) h = absurd (miss others 13 tt h)
no_part (Op.Finish a b) h = refl
no_part (Op.Unwind a b) h = refl
no_part (Op.SpawnTask a) h = refl
no_part (Op.HostCall a) h = refl
no_part (Op.HostEntry a b) h = absurd (miss others 18 tt h)
no_part (Op.FunctionCall a b d) h = refl
no_part (Op.PutWord a b) h = refl
no_part (Op.MakeIterator a) h = refl
no_part Op.TakeOutcome h = refl
no_part (Op.HandOver a) h = refl
no_part (Op.Grant a) h = refl
no_part Op.StopRun h = refl
no_part Op.Look h = refl

module _ (stack frames : List ℕ) (m : Machine) where
  pub sends-word : (p : Part) (r b x : ℕ) → p ≡ Part.Sends r → b ≡ top_base frames m → x ≡ get_or stack (b + r) 0 → Some x ≡ sent_by stack frames m p
  sends-word p r b x e f g =
      let h = g ∙ ap (λ (y : ℕ). get_or stack (y + r) 0) f in
      ap Some h ∙ ap (sent_by stack frames m) (sym e)

  pub no-sends : (p : Part) → OneOf (0 ∷ 3 ∷ []) (tag_of Part'.the_type p) → None ≡ sent_by stack frames m p
  no-sends (Part.Waits r pc) h = refl
  no-sends (Part.Sends r) h = absurd (miss (0 ∷ 3 ∷ []) 1 tt h)
  no-sends (Part.Hands x) h = absurd (miss (0 ∷ 3 ∷ []) 2 tt h)
  no-sends Part.Neither h = refl

pub arrives-whole : (n : ℕ) (s : Option ℕ) → n ≡ 0 → s ≡ arriving n s
arrives-whole n s h = sym (ap (λ (b : Bool). pick b s None) (eq-eqb n 0 h) ∙ pick_true s None)

pub arrives-none : (n : ℕ) (s : Option ℕ) → (n ≡ 0 → ⊥) → None ≡ arriving n s
arrives-none n s h = sym (ap (λ (b : Bool). pick b s None) (ne_eqb n 0 h) ∙ pick-false s None)

-- ---- a note of who runs

no-and : (a b : Bool) → b ≡ false → (a && b) ≡ false
no-and true b e = e
no-and false b e = refl

module _ (stack frames chain : List ℕ) (m : Machine) (r pc : ℕ) (notes : List ℕ) where
  abbrev fits : ℕ → ℕ → ℕ → Bool
  fits own top floor = note_fits stack own top m.height r && frames_fit frames floor m.depth

  abbrev runs : Bool
  runs = not (eqb m.active 0)

  -- the note, and what is left where the tests say b
  abbrev it : ℕ → ℕ → ℕ → List ℕ
  it own top floor =
      let at = note_of (coro_in chain (m.active - 1)) in
      note_frames frames at floor (m.depth - floor) pc (note stack at (m.height - own) (top - own + r) own notes)

  abbrev leaves : ℕ → ℕ → ℕ → Bool → List ℕ
  leaves own top floor b = pick b (it own top floor) notes

  pub nobody-noted : m.active ≡ 0 → notes ≡ noted_at stack frames chain m r pc notes
  nobody-noted h =
      let own = own_base frames chain m in
      let top = top_base frames m in
      let floor = floor_in chain (m.active - 1) in
      sym (ap (λ (b : Bool). leaves own top floor (not b && fits own top floor)) (eq-eqb m.active 0 h) ∙ pick-false (it own top floor) notes)

  module _ (own top floor : ℕ) (b : Bool) (p : own ≡ own_base frames chain m) (q : top ≡ top_base frames m) (s : floor ≡ floor_in chain (m.active - 1)) (f : b ≡ fits own top floor) where
    there : leaves own top floor (runs && fits own top floor) ≡ noted_at stack frames chain m r pc notes
    there =
        ap₂ (λ (x y : ℕ). leaves x y floor (runs && fits x y floor)) p q
        ∙ ap (λ (z : ℕ). leaves (own_base frames chain m) (top_base frames m) z (runs && fits (own_base frames chain m) (top_base frames m) z)) s

    pub none-noted : not b ≡ true → notes ≡ noted_at stack frames chain m r pc notes
    none-noted h = sym (ap (leaves own top floor) (no-and runs (fits own top floor) (sym f ∙ not-true b h)) ∙ pick-false (it own top floor) notes) ∙ there

    pub one-noted : not b ≡ false → (m.active ≡ 0 → ⊥) → (at above : ℕ) → at ≡ note_of (coro_in chain (m.active - 1)) → above ≡ top - own
        → (ns ks : List ℕ) → ns ≡ note stack at (m.height - own) (above + r) own notes → ks ≡ note_frames frames at floor (m.depth - floor) pc ns
        → ks ≡ noted_at stack frames chain m r pc notes
    one-noted h k at above e g ns ks is also =
        also
        ∙ ap (note_frames frames at floor (m.depth - floor) pc) is
        ∙ ap₂ (λ (x y : ℕ). note_frames frames x floor (m.depth - floor) pc (note stack x (m.height - own) (y + r) own notes)) e g
        ∙ sym (ap (λ (c : Bool). leaves own top floor (not c && fits own top floor)) (ne_eqb m.active 0 k) ∙ ap (leaves own top floor) (sym f ∙ not-false b h) ∙ pick_true (it own top floor) notes)
        ∙ there

module _ (stack frames chain : List ℕ) (m : Machine) where
  pub no-waits : (notes : List ℕ) (p : Part) → OneOf (1 ∷ 2 ∷ 3 ∷ []) (tag_of Part'.the_type p) → notes ≡ noted stack frames chain m p notes
  no-waits notes (Part.Waits r pc) h = absurd (miss (1 ∷ 2 ∷ 3 ∷ []) 0 tt h)
  no-waits notes (Part.Sends r) h = refl
  no-waits notes (Part.Hands x) h = refl
  no-waits notes Part.Neither h = refl

  -- ---- a wake

  pub woken-is : (s : Option ℕ) (notes : List ℕ) (at n : ℕ) (c : Count) (own e start low : ℕ) (words bodies b : Bool) → n ≡ noted_words notes at → own ≡ own_base frames chain m
      → e ≡ at_most (length stack) m.height → start ≡ at_most e own → low ≡ floor_in chain (m.active - 1)
      → words ≡ same (sent_to s (get_or notes (at + 1) 0) (take (at + 3 + n - (at + 3)) (drop (at + 3) notes))) (take (e - start) (drop start stack))
      → bodies ≡ frames_back frames low m.depth notes at (is_some s) (get_or notes (at + 2) 0) own → b ≡ words && bodies → (d : Count) → d ≡ one_more c b
      → d ≡ one_more c (is_back stack frames chain m s notes at)
  woken-is s notes at n c own e start low words bodies b many o p q f w g both d is =
      let back = clamped stack own m.height start e p q ∙ ap (λ (x : ℕ). part x (m.height - x) stack) o in
      let held = ap (λ (k : ℕ). take k (drop (at + 3) notes)) (span (at + 3) n) ∙ ap (λ (k : ℕ). part (at + 3) k notes) many in
      let one = w ∙ ap₂ (λ (x y : List ℕ). same (sent_to s (get_or notes (at + 1) 0) x) y) held back in
      let two = g ∙ ap₂ (λ (x y : ℕ). frames_back frames x m.depth notes at (is_some s) (get_or notes (at + 2) 0) y) f o in
      is ∙ ap (one_more c) (both ∙ ap₂ ◌&&◌ one two)

  module _ (s : Option ℕ) (notes : List ℕ) (c : Count) (at n : ℕ) (is : at ≡ note_of (coro_in chain (m.active - 1))) (e : n ≡ noted_words notes at) where
    abbrev woken : ℕ → Count
    woken x = one_more c (is_back stack frames chain m s notes x)

    found : pick (eqb n 0) c (woken at) ≡ entering stack frames chain m s notes c
    found = ap (λ (k : ℕ). pick (eqb k 0) c (woken at)) e ∙ ap (λ (x : ℕ). pick (eqb (noted_words notes x) 0) c (woken x)) is

    pub starts : n ≡ 0 → c ≡ entering stack frames chain m s notes c
    starts h = sym (ap (λ (b : Bool). pick b c (woken at)) (eq-eqb n 0 h) ∙ pick_true c (woken at)) ∙ found

    pub wakes : (n ≡ 0 → ⊥) → (d : Count) → d ≡ woken at → d ≡ entering stack frames chain m s notes c
    wakes h d f = f ∙ sym (ap (λ (b : Bool). pick b c (woken at)) (ne_eqb n 0 h) ∙ pick-false c (woken at)) ∙ found

  module _ (a : Answer) (was : Seen) (notes : List ℕ) (c : Count) where
    abbrev by : ℕ → Count
    by n = entering stack frames chain m (arriving n was.sent) notes c

    pub enters : (n : ℕ) (s : Option ℕ) → n ≡ number_of a → was.active < m.active → s ≡ arriving n was.sent → (d : Count) → d ≡ entering stack frames chain m s notes c
        → d ≡ counted stack frames chain m (number_of a) was notes c
    enters n s e h f d is =
        is
        ∙ ap (λ (x : Option ℕ). entering stack frames chain m x notes c) f
        ∙ ap by e
        ∙ sym (ap (λ (b : Bool). pick b (by (number_of a)) c) (lt-ltb was.active m.active h) ∙ pick_true (by (number_of a)) c)

    pub stays : m.active ≤ was.active → c ≡ counted stack frames chain m (number_of a) was notes c
    stays h = sym (ap (λ (b : Bool). pick b (by (number_of a)) c) (le-ltb was.active m.active h) ∙ pick-false (by (number_of a)) c)

-- ---- one wake more

pub more-equal : (c : Count) (b : Bool) (w e : ℕ) → b ≡ true → w ≡ (c.wakes + 1) % 2 ^ 64 → e ≡ (c.equal + 1) % 2 ^ 64 → record { wakes = w; equal = e } ≡ one_more c b
more-equal c b w e h p q =
    let r = q ∙ sym (ap (λ (x : Bool). pick x ((c.equal + 1) % 2 ^ 64) c.equal) h ∙ pick_true ((c.equal + 1) % 2 ^ 64) c.equal) in
    λ k. record { wakes = p k; equal = r k }

pub more-other : (c : Count) (b : Bool) (w : ℕ) → b ≡ false → w ≡ (c.wakes + 1) % 2 ^ 64 → record { wakes = w; equal = c.equal } ≡ one_more c b
more-other c b w h p =
    let r = sym (ap (λ (x : Bool). pick x ((c.equal + 1) % 2 ^ 64) c.equal) h ∙ pick-false ((c.equal + 1) % 2 ^ 64) c.equal) in
    λ k. record { wakes = p k; equal = r k }
