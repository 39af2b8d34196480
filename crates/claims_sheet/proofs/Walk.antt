-- Every line of the instructions: their numbers, where 14 stands, and what is kept.
use Prim.Native.Nat.{ℕ}
use mathlib.Core.Path.{◌≡◌, refl, sym, ap, ◌∙◌}
use mathlib.Core.Bool.{Bool, true, false, ◌&&◌, ◌||◌, true≢false}
use mathlib.Core.List.{List, [], ◌∷◌, map}
use lib.Dec.{eqb}
use Rattle.lists.specs.Pick.{pick}
use Rattle.heap.specs.declared.object.CoroState.{CoroState}
use Rattle.model.specs.Lists.{among}
use Rattle.model.specs.World.{World, After, with_stack}
use Rattle.model.specs.declared.machine.Driver.{Driver}
use Rattle.model.specs.declared.machine.Stop.{Stop}
use Rattle.model.specs.declared.exec.Step.{Step}
use Rattle.claims_sheet.specs.Lines.{Line, Lines, leads_from, says_from, stop}
use Rattle.claims_sheet.specs.Words.{word, arguments, state, no_slot}
use Rattle.claims_sheet.specs.Moves.{pc_stored}
use Rattle.claims_sheet.specs.Charging.{amount, used_up, bank_back, as_answer}
use Rattle.claims_sheet.specs.Makings as Makings
use Rattle.claims_sheet.specs.Makings.{no_row}
use Rattle.claims_sheet.specs.Instructions as Asked
use Rattle.claims_sheet.specs.Suspending as Suspending
use Rattle.claims_sheet.specs.Yields as Yields
use Rattle.claims_sheet.specs.Sentences.{unchanging}
use Rattle.claims_sheet.proofs.Among.{and_right}
use Rattle.claims_sheet.proofs.Choice.{both}
use Rattle.claims_sheet.proofs.Led.{All, line-by-line}
use Rattle.claims_sheet.proofs.Kept.{filled, Kept, same-world, set-filled, adds, marks, enters-kept, gives-kept, finished-kept, delivers-kept}

-- ---- lines by their numbers

abbrev pub EveryLine : {A : Type 0} → (ℕ → World → Type 0) → List (Line A) → Type 0
EveryLine P ts = All (λ t. t.stops ≡ true → P t.number t.left) ts

pub by-stop : {A : Type 0} (P : ℕ → World → Type 0) (b : Bool) (x y : After A) (m n : ℕ) → (b ≡ true → P m x.world) → (b ≡ false → P n y.world) → P (pick b m n) (pick b x y).world
unfolding pick
by-stop P true x y m n p q = p refl
by-stop P false x y m n p q = q refl

pub led-line : {A : Type 0} (P : ℕ → World → Type 0) (ts : List (Line A)) (d : Line A) → EveryLine P ts → P d.number d.left → P (says_from ts d) (leads_from ts d).world
led-line P [] d h k = k
led-line P (t ∷ ts) d h k = by-stop P t.stops _ _ _ _ h.0 (λ _. led-line P ts d h.1 k)

pub map-lines : (P : ℕ → World → Type 0) (n : ℕ) (ts : List (Line Step)) → EveryLine P ts → EveryLine P (map (as_answer n) ts)
map-lines P n [] h = tt
map-lines P n (t ∷ ts) h = (h.0, map-lines P n ts h.1)

-- ---- 14's tests

abbrev pub lacking : World → Bool
lacking w = no_slot w || no_row w

slotless : (w : World) (b : Bool) → b && no_slot w ≡ true → lacking w ≡ true
slotless w b h = ap (λ t. t || no_row w) (and_right b (no_slot w) h)

-- ---- an instruction's own lines, in u

pub record Own (u : World) (m : ℕ) (x : World) : Type 0 where
  pub kept : Kept u x
  pub lack : eqb m 14 ≡ true → lacking u ≡ true
  pub calm : among m unchanging ≡ false

abbrev pub Owns : World → Lines Step → Type 0
Owns u s = EveryLine (Own u) s.tests × Own u s.done.number s.done.left

pub none : (a b : Bool) → a || b ≡ false → (a ≡ false) × (b ≡ false)
none true b h = absurd (true≢false h)
none false b h = (refl, h)

module _ (u : World) where
  -- a number that is neither 14 nor one that changes nothing
  ok : {m : ℕ} {x : World} → Kept u x → eqb m 14 || among m unchanging ≡ false → Own u m x
  ok {m} k h = record { kept = k; lack = λ e. absurd (true≢false (sym e ∙ (none (eqb m 14) (among m unchanging) h).0)); calm = (none (eqb m 14) (among m unchanging) h).1 }

  -- 14
  is14 : lacking u ≡ true → Own u 14 u
  is14 h = record { kept = same-world u; lack = λ _. h; calm = refl }

  k : Kept u u
  k = same-world u

  module _ (pc dst c src : ℕ) where
    pub resume-owns : Owns u (Asked.resume pc dst c src u)
    resume-owns = (
      (λ _. ok k refl, (λ _. ok k refl, (λ _. ok k refl, (λ _. ok k refl, tt)))),
      ok (gives-kept u (state u (word u c)) _ _ _ (enters-kept u _ (word u c) (Driver.Resume dst) (pc_stored pc u) k)) refl,
    )

    pub throw-owns : Owns u (Asked.resume_throw pc dst c src u)
    throw-owns =
        ((λ _. ok k refl, (λ _. ok k refl, (λ _. ok (finished-kept u (word u c) CoroState.Failed (word u src) u k) refl, (λ _. ok k refl, (λ _. ok k refl, tt))))), ok (enters-kept u _ (word u c) (Driver.Resume dst) (pc_stored pc u) k) refl)

    pub close-owns : Owns u (Asked.coro_close pc dst c src u)
    close-owns =
        ((λ _. ok k refl, (λ _. ok k refl, (λ _. ok k refl, (λ _. ok (finished-kept u (word u c) CoroState.Returned 0 u k) refl, (λ _. ok k refl, (λ _. ok k refl, tt)))))), ok (enters-kept u _ (word u c) (Driver.Resume dst) (pc_stored pc u) k) refl)

  pub next-owns : (pc has iter val src : ℕ) → Owns u (Asked.iter_next pc has iter val src u)
  next-owns pc has iter val src = (
    (λ _. ok k refl, (λ _. ok k refl, (λ _. ok (marks u (word u iter) (λ _. true) (λ o. o) u k) refl, (λ _. ok k refl, (λ _. ok k refl, (λ _. ok k refl, tt)))))),
    ok (gives-kept u (state u (word u src)) _ _ _ (enters-kept u _ (word u src) (Driver.Iter has val (word u iter)) (pc_stored pc u) k)) refl,
  )

  -- an instruction that asks: each line leaves u but for its registers, and has a number that is neither 14 nor one that changes nothing
  abbrev asked : Line Step → World × Bool
  asked l = (with_stack [] l.left, eqb l.number 14 || among l.number unchanging)

  asks-own : (l : Line Step) → asked l ≡ (with_stack [] u, false) → Own u l.number l.left
  asks-own l e = ok (record { queue = ap (λ p. p.0.finalize) e; stays = record { setup = ap (λ p. p.0.setup) e; full = λ f. ap (λ p. filled p.0.slots) e ∙ f } }) (ap (λ p. p.1) e)

  pub asks-owns : (s : Lines Step) → map asked s.tests ≡ map (λ l. (with_stack [] u, false)) s.tests → asked s.done ≡ (with_stack [] u, false) → Owns u s
  asks-owns s e d = (line-by-line asked (λ l. (with_stack [] u, false)) (λ l. l.stops ≡ true → Own u l.number l.left) (u, false) (λ l k _. asks-own l k) s.tests e, asks-own s.done d)

  made_kept : (f closure : ℕ) (args : List ℕ) → Kept u (Makings.made f closure args u)
  made_kept f closure args = adds u _ (Makings.bytes u f) (Makings.numbered u) refl k

  creation-owns : (f : ℕ) (more : List (Line Step)) → EveryLine (Own u) more → EveryLine (Own u) (Makings.creation f u more)
  creation-owns f more h = (λ _. ok k refl, (λ e. is14 e, (λ _. ok k refl, h)))

  indirect-owns : (v argc : ℕ) (more : List (Line Step)) → EveryLine (Own u) more → EveryLine (Own u) (Makings.indirect v argc u more)
  indirect-owns v argc more h = (λ _. ok k refl, (λ _. ok k refl, (λ _. ok k refl, (λ _. ok k refl, creation-owns (Makings.callee u v) more h))))

  pub new-owns : (dst f argc : ℕ) → Owns u (Makings.coro_new dst f argc u)
  new-owns dst f argc = (creation-owns f [] tt, ok (made_kept f 0 (arguments u dst argc)) refl)

  pub new-indirect-owns : (dst c argc : ℕ) → Owns u (Makings.coro_new_indirect dst c argc u)
  new-indirect-owns dst c argc = (indirect-owns (word u c) argc [] tt, ok (made_kept (Makings.callee u (word u c)) (word u c) (arguments u dst argc)) refl)

  module _ (pc dst c argc : ℕ) where
    abbrev made : World
    made = Makings.made (Makings.callee u (word u c)) (word u c) (arguments u dst argc) u

    made-owns : Kept u made
    made-owns = made_kept (Makings.callee u (word u c)) (word u c) (arguments u dst argc)

    paid-owns : Kept u (Makings.paid made)
    paid-owns = both (λ y. Kept u y) _ made-owns (both (λ y. Kept u y) _ made-owns made-owns)

    abbrev last : List (Line Step)
    last = stop 10 (used_up made) (bank_back made) ∷ stop 4 (Makings.no_room (amount u.setup.hook 0) (pc_stored pc (Makings.paid made))) (Makings.paid made) ∷ []

    last-owns : EveryLine (Own u) last
    last-owns = (λ _. ok made-owns refl, (λ _. ok paid-owns refl, tt))

    pub spawn-owns : Owns u (Makings.spawn pc dst c argc u)
    spawn-owns = ((λ _. ok k refl, indirect-owns (word u c) argc last last-owns), ok paid-owns refl)

  yielded-kept : (pc dst payload key largest : ℕ) (v : World) → Kept u v → Kept u (Yields.suspended_by_yield dst payload key largest (pc_stored pc v))
  yielded-kept pc dst payload key largest v h = record { queue = h.queue; stays = record { setup = h.stays.setup; full = λ f. set-filled v.slots _ _ refl (h.stays.full f) } }

  awaited-kept : (pc dst payload : ℕ) → Kept u (Yields.suspended_by_await dst payload (pc_stored pc u))
  awaited-kept pc dst payload = record { queue = refl; stays = record { setup = refl; full = λ f. set-filled u.slots _ _ refl f } }

  yields-owns : (pc dst payload key largest : ℕ) (v : World) → Kept u v → EveryLine (Own u) (Yields.yields pc dst payload key largest v)
  yields-owns pc dst payload key largest v h = (λ _. ok h refl, (λ _. ok (yielded-kept pc dst payload key largest v h) refl, tt))

  ends-owns : (pc dst payload key largest : ℕ) (v : World) → Kept u v → Kept u (Yields.yield_ends pc dst payload key largest v).left
  ends-owns pc dst payload key largest v h =
      delivers-kept u (Suspending.innermost_active v.chain).driver payload key (pick (Suspending.rest_here (pc_stored pc v)).closing Stop.CloseIgnored (Stop.Yielded payload)) (Yields.suspended_by_yield dst payload key largest (pc_stored pc v))
      (yielded-kept pc dst payload key largest v h)

  keyed-kept : Kept u (Yields.keyed u)
  keyed-kept = both (λ y. Kept u y) _ (adds u _ u.setup.costs.int u refl k) k

  pub yield-owns : (pc dst src : ℕ) → Owns u (Yields.yield pc dst src u)
  yield-owns pc dst src = (
    (λ _. ok k refl, (λ _. ok k refl, (λ _. ok k refl, (λ e. is14 (slotless u (Yields.is_large (Yields.key_bits u)) e), yields-owns pc dst (word u src) (Yields.key_word u) (Yields.key_bits u) (Yields.keyed u) keyed-kept)))),
    ok (ends-owns pc dst (word u src) (Yields.key_word u) (Yields.key_bits u) (Yields.keyed u) keyed-kept) refl,
  )

  pub yield-kv-owns : (pc dst src key : ℕ) → Owns u (Yields.yield_kv pc dst src key u)
  yield-kv-owns pc dst src key =
      let l = Yields.raised_largest (Suspending.rest_here u).largest (Yields.integer_of u (word u key)) in
      ((λ _. ok k refl, yields-owns pc dst (word u src) (word u key) l u k), ok (ends-owns pc dst (word u src) (word u key) l u k) refl)

  pub await-owns : (pc dst src : ℕ) → Owns u (Yields.await pc dst src u)
  await-owns pc dst src = (
    (λ _. ok k refl, (λ _. ok k refl, (λ _. ok (awaited-kept pc dst (word u src)) refl, tt))),
    ok (delivers-kept u (Suspending.innermost_active u.chain).driver (word u src) 0 (Stop.Awaiting (word u src)) (Yields.suspended_by_await dst (word u src) (pc_stored pc u)) (awaited-kept pc dst (word u src))) refl,
  )
