-- PEP 342: a word that is raised, from the top frame down, read off the table.
use Prim.Native.Nat.{ℕ, zero, suc, ◌+◌, ◌-◌}
use mathlib.Core.Path.{◌≡◌, refl, ap, ◌∙◌}
use mathlib.Core.Bool.{Bool, true, false, not, ◌&&◌, ◌||◌, true≢false, false≢true}
use mathlib.Core.List.{List, [], ◌∷◌, ◌++◌}
use native.Mathlib.Omega.{arith}
use lib.ListN.{drop}
use lib.Dec.{eqb}
use Rattle.lists.specs.Pick.{pick}
use Rattle.heap.specs.Fault.{number_of}
use Rattle.heap.specs.declared.fault.Fault.{Fault}
use Rattle.std.specs.Prelude.{Option, Some, None}
use Rattle.model.specs.Lists.{is_nil, each}
use Rattle.model.specs.World.{World, After, after}
use Rattle.model.specs.Sound.{sound, fuel_ok, is_none}
use Rattle.model.specs.Call.{typed}
use Rattle.model.specs.declared.program.Handler.{Handler}
use Rattle.model.specs.declared.machine.Frame.{Frame}
use Rattle.model.specs.declared.call.Op.{Op}
use Rattle.model.specs.declared.call.Answer.{Answer}
use Rattle.claims_sheet.specs.Lines.{Line, leads_from, leads, line}
use Rattle.claims_sheet.specs.Does.{does, operation}
use Rattle.claims_sheet.specs.Words.{lacks_memory, no_slot}
use Rattle.claims_sheet.specs.Moves.{pc_stored, put}
use Rattle.claims_sheet.specs.Charging.{amount, reserve, fuelled, used_up}
use Rattle.claims_sheet.specs.Makings.{paid}
use Rattle.claims_sheet.specs.Unwinding.{covering, takers, taker, is_entry, is_body, own_signal, driven, left, search, given_pc_stored, top_func, top_pc}
use Rattle.claims_sheet.specs.Sheet.{sheet}
use Rattle.claims_sheet.specs.Pep342Ends.{raises, thrown, risen, lets, lets_all, arrived, Comes, covers, Ending, Handlers}
use Rattle.claims_sheet.proofs.Among.{and_left, and_right, and-false, not-true}
use Rattle.claims_sheet.proofs.Rules.{fuel}
use Rattle.claims_sheet.proofs.Sheet.{leads-to}
use Rattle.claims_sheet.proofs.Led.{past, here}

-- ---- through a frame, and through many

neither : (b o d : Bool) → b && (o || d) ≡ false → (b && o ≡ false) × (b && d ≡ false)
neither true true d h = absurd (true≢false h)
neither true false d h = (refl, h)
neither false o d h = (refl, refl)

module _ (value f pc : ℕ) (d : Line Answer) where
  pub lets-past : (x : Frame) (xs : List Frame) (w : World) → lets x value w ≡ true → leads_from (search (x ∷ xs) value f pc w) d ≡ leads_from (search xs value f pc (left x xs value w)) d
  lets-past x xs w h =
      past (catches && used_up w) _ (ap (λ b. b && used_up w) none)
      (past catches _ none (past (is_entry x.cont) _ (not-true (is_entry x.cont) (and_left (not (is_entry x.cont)) _ more)) (past (is_body x.cont && own_signal w.chain value w) _ stays.0 (past (is_body x.cont && driven w.chain) _ stays.1 refl))))
    where
      catches : Bool
      catches = not (is_nil (takers x w))

      none : catches ≡ false
      none = ap not (and_left (is_nil (takers x w)) _ h)

      more : not (is_entry x.cont) && not (is_body x.cont && (own_signal w.chain value w || driven w.chain)) ≡ true
      more = and_right (is_nil (takers x w)) _ h

      stays : (is_body x.cont && own_signal w.chain value w ≡ false) × (is_body x.cont && driven w.chain ≡ false)
      stays = neither (is_body x.cont) (own_signal w.chain value w) (driven w.chain) (not-true _ (and_right (not (is_entry x.cont)) _ more))

  all_past : (above below : List Frame) (w : World) → lets_all above below value w ≡ true → leads_from (search (above ++ below) value f pc w) d ≡ leads_from (search below value f pc (arrived above below value w)) d
  all_past [] below w h = refl
  all_past (x ∷ above) below w h =
      lets-past x (above ++ below) w (and_left (lets x value w) _ h) ∙ all_past above below (left x (above ++ below) value w) (and_right (lets x value w) _ h)

  -- at a frame that catches
  pub taken-by : (x : Frame) (xs : List Frame) (u : World) (h : Handler) (hs : List Handler) → takers x u ≡ h ∷ hs → used_up u ≡ false →
      leads_from (search (x ∷ xs) value f pc u) d ≡ after (put h.catch value (pc_stored h.target (paid u))) Answer.Caught
  taken-by x xs u h hs e n =
      past (not (is_nil (takers x u)) && used_up u) _ (ap (λ b. not (is_nil (takers x u)) && b) n ∙ and-false (not (is_nil (takers x u))))
      (here (not (is_nil (takers x u))) _ (ap (λ l. not (is_nil l)) e) ∙ ap (λ l. after (put (taker l).catch value (pc_stored (taker l).target (paid u))) Answer.Caught) e)

  -- at one that does not
  pub not_taken : (x : Frame) (xs : List Frame) (u : World) (y : After Answer) → is_nil (takers x u) ≡ true → leads_from (drop 2 (search (x ∷ xs) value f pc u)) d ≡ y → leads_from (search (x ∷ xs) value f pc u) d ≡ y
  not_taken x xs u y e k = past (not (is_nil (takers x u)) && used_up u) _ (ap (λ b. not b && used_up u) e) (past (not (is_nil (takers x u))) _ (ap not e) k)

-- ---- what is raised

climbs : {A : Type 0} (s l f : Bool) (x y z : A) {r : A} → s && (not l && not f) ≡ true → pick (not s) x (pick l y (pick f z r)) ≡ r
unfolding pick
climbs true true f x y z h = absurd (false≢true h)
climbs true false true x y z h = absurd (false≢true h)
climbs true false false x y z h = refl
climbs false l f x y z h = absurd (false≢true h)

module _ (pc : Option ℕ) (w : World) where
  abbrev Rises : Fault → Type 0
  Rises e =
      raises e pc w ≡ true →
      leads (sheet (Op.Unwind e pc) w) ≡ leads_from (search (risen e pc w).frames (thrown e pc w) (top_func (risen e pc w).frames) (top_pc (risen e pc w).frames) (risen e pc w)) (line (number_of e) true (Answer.Refused e) (given_pc_stored pc w))

  never : raises Fault.None pc w ≡ true → ⊥
  never h = false≢true (and_right (sound w) false h)

  error : {r : After Answer} → let z = given_pc_stored pc w in sound w && (not (lacks_memory z z.setup.costs.error) && not (no_slot z)) ≡ true →
      pick (not (sound w)) (after w (Answer.Refused Fault.Unsound)) (pick (lacks_memory z z.setup.costs.error) (after z (Answer.Refused Fault.OutOfMemory)) (pick (no_slot z) (after z (Answer.Refused Fault.Full)) r)) ≡ r
  error h = climbs (sound w) _ _ _ _ _ h

  pub rises : (e : Fault) → Rises e
  unfolding pick
  rises Fault.None h = absurd (never h)
  rises Fault.NullReference h = error h
  rises Fault.TypeError h = error h
  rises Fault.InvalidCoroState h = error h
  rises Fault.StackOverflow h = error h
  rises Fault.CannotSuspend h = error h
  rises Fault.CloseIgnored h = error h
  rises Fault.ArithOverflow h = error h
  rises Fault.NoScheduler h = error h
  rises Fault.OutOfMemory h = absurd (never h)
  rises Fault.OutOfFuel h = absurd (never h)
  rises Fault.Unsound h = absurd (never h)
  rises Fault.NoFrame h = absurd (never h)
  rises Fault.BadOperand h = absurd (never h)
  rises Fault.Full h = absurd (never h)
  rises Fault.Busy h = absurd (never h)
  rises Fault.GrantTooLarge h = absurd (never h)
  rises (Fault.Throw v) h = past (not (sound w)) _ (ap not (and_left (sound w) true h)) refl

-- ---- where it ends

module _ (e : Fault) (pc : Option ℕ) (w : World) (t : typed (Op.Unwind e pc) ≡ true) (above : List Frame) (x : Frame) (xs : List Frame) (u : World) (c : Comes e pc w above x xs u) where
  abbrev value : ℕ
  value = thrown e pc w

  abbrev from : World
  from = risen e pc w

  abbrev last : Line Answer
  last = line (number_of e) true (Answer.Refused e) (given_pc_stored pc w)

  abbrev f : ℕ
  f = top_func from.frames

  abbrev at : ℕ
  at = top_pc from.frames

  comes-to : (y : After Answer) → leads_from (search (x ∷ xs) value f at u) last ≡ y → does w (operation (Op.Unwind e pc) t) ≡ y
  comes-to y k =
      leads-to w _
      ∙ (rises pc w e c.raised
      ∙ (ap (λ (fs : List Frame). leads_from (search fs value f at from) last) c.frames
      ∙ (all_past value f at last above (x ∷ xs) from c.through
      ∙ (ap (λ z. leads_from (search (x ∷ xs) value f at z) last) c.arrives
      ∙ k))))

  pub ending : Ending e pc w t above x xs u c
  ending =
      record {
        caught = λ h hs k n. comes-to _ (taken-by value f at last x xs u h hs k n);
        caught-unpaid = λ h hs k n. comes-to _ (here (not (is_nil (takers x u)) && used_up u) _ (ap (λ l. not (is_nil l) && used_up u) k ∙ n));
        signal-escapes = λ k b s.
            comes-to _ (not_taken value f at last x xs u _ k (past (is_entry x.cont) _ (ap is_entry b) (here (is_body x.cont && own_signal u.chain value u) _ (ap (λ y. is_body y && own_signal u.chain value u) b ∙ s))));
        escapes-driven = λ k b s v.
            comes-to _
            (not_taken value f at last x xs u _ k (past (is_entry x.cont) _ (ap is_entry b) (past (is_body x.cont && own_signal u.chain value u) _ (ap (λ y. is_body y && own_signal u.chain value u) b ∙ s)
            (here (is_body x.cont && driven u.chain) _ (ap (λ y. is_body y && driven u.chain) b ∙ v)))));
        uncaught = λ k b. comes-to _ (not_taken value f at last x xs u _ k (here (is_entry x.cont) _ (ap is_entry b)));
      }

-- ---- handlers, and what one costs

firsts : (pc : ℕ) (before : List Handler) (h : Handler) (hs : List Handler) → each (λ x. not (covers pc x)) before ≡ true → covers pc h ≡ true → covering pc (before ++ (h ∷ hs)) ≡ h ∷ hs
firsts pc [] h hs b c = here (covers pc h) _ c
firsts pc (x ∷ before) h hs b c = past (covers pc x) _ (not-true (covers pc x) (and_left (not (covers pc x)) _ b)) (firsts pc before h hs (and_right (not (covers pc x)) _ b) c)

nones : (pc : ℕ) (hs : List Handler) → each (λ x. not (covers pc x)) hs ≡ true → covering pc hs ≡ []
nones pc [] b = refl
nones pc (x ∷ hs) b = past (covers pc x) _ (not-true (covers pc x) (and_left (not (covers pc x)) _ b)) (nones pc hs (and_right (not (covers pc x)) _ b))

less : (n : ℕ) → eqb n 0 ≡ false → n - 1 + 1 ≡ n
less zero h = absurd (true≢false h)
less (suc n) h = omega arith

spares : (n : ℕ) (b : Option ℕ) (w : World) (ready zero : Bool) → eqb n 0 ≡ zero → is_none b || zero ≡ true → zero && eqb (amount b n) 0 ≡ false →
    amount (pick (not zero) b (pick ready (Some (amount b n - 1)) None)) (pick (not zero) (n - 1) (pick ready 0 (amount b n - 1))) + 1 ≡ amount b n
unfolding pick
spares n b w ready true e h k = go ready (less (amount b n) k)
  where
    go : (r : Bool) → amount b n - 1 + 1 ≡ amount b n → amount (pick r (Some (amount b n - 1)) None) (pick r 0 (amount b n - 1)) + 1 ≡ amount b n
    go true l = l
    go false l = l
spares n None w ready false e h k = less n e
spares n (Some m) w ready false e h k = absurd (false≢true h)

unit : (w : World) → sound w ≡ true → used_up w ≡ false → reserve (paid w) + 1 ≡ reserve w
unfolding fuel_ok pick
unit w h k = go (eqb w.fuel.fuel 0) w.fuel.ready ∙ spares w.fuel.fuel w.fuel.bank w w.fuel.ready (eqb w.fuel.fuel 0) refl (fuel w h) k
  where
    m : ℕ
    m = reserve w - 1

    go : (zero ready : Bool) →
        reserve (pick (not zero) (fuelled (w.fuel.fuel - 1) w.fuel.bank w.fuel.ready w) (pick ready (fuelled 0 (Some m) w.fuel.ready w) (fuelled m None w.fuel.ready w))) + 1
        ≡ amount (pick (not zero) w.fuel.bank (pick ready (Some m) None)) (pick (not zero) (w.fuel.fuel - 1) (pick ready 0 m)) + 1
    go true true = refl
    go true false = refl
    go false ready = refl

pub handlers : Handlers
handlers = record { first = firsts; none = nones; one_unit = unit }
