-- Whom a call enters: what the claim says is what the proof's `entry_by` says, on a sound machine.
use Prim.Native.Nat.{ℕ, ◌+◌}
use native.Mathlib.Omega.{arith}
use mathlib.Core.Path.{◌≡◌, refl, sym, ap, ◌∙◌}
use mathlib.Core.Bool.{Bool, true, false, not, ◌&&◌, ◌||◌}
use mathlib.Core.List.{List, [], ◌∷◌}
use mathlib.Core.Option.{Option, none, some, or_else}
use lib.ListN.{length}
use lib.Dec.{eqb, ltb, leb}
use borrow.Author.Tests.{leb-true, leb-false, le-ltb, lt-ltb, eqb-true, ne_eqb}
use Rattle.lists.specs.Pick.{pick}
use Rattle.std.specs.Prelude.{Option as RustOption, Some, None}
use Rattle.model.specs.Lists.{is_nil}
use Rattle.model.specs.State.{is_resumable}
use Rattle.model.specs.Object.{Coroutine, Absent, Is}
use Rattle.model.specs.World.{World, After, after}
use Rattle.model.specs.Frames.{store_pc}
use Rattle.model.specs.Heap.{coro}
use Rattle.model.specs.Fuel.{unbank, unbank_at, spend}
use Rattle.model.specs.Cleanup.{coro_suspended, start_from, start_finalizer, charge_done, charge_or, charge_at, charge_slow, charge}
use Rattle.model.specs.Sound.{sound}
use Rattle.model.specs.declared.machine.Driver.{Driver}
use Rattle.model.specs.declared.machine.Frame.{Frame}
use Rattle.model.specs.declared.machine.Fuel.{Fuel}
use Rattle.model.specs.declared.machine.Charge.{Charge}
use Rattle.model.specs.declared.coro.Started.{Started}
use Rattle.model.specs.declared.call.Op.{Op}
use Rattle.claims_model.specs.Engine.{seen_created, seen_suspended, seen_in, state_is}
use Rattle.claims_model.specs.Says.{Announced, Entry, entry, fits, own_entry, cleaned, banked, charged, whom_by, whom, nothing, gets, closes}
use Rattle.claims_model.specs.Steps.{seen_of, view_of}
use Rattle.claims_model.proofs.Entry as E
use Rattle.claims_model.proofs.Entry.{accepts, accepts_as, sent_to, aimed, pc_by, entry_by, act}
use Rattle.claims_model.proofs.Enters.{Stored, StartCase, s-some, s-none, start-case, cleaned-stored}
use Rattle.claims_model.proofs.Sounds.{solid}
use Rattle.claims_model.proofs.Views.{new-state, ready-state, is-suspended-coro, Alike, l-at, l-host, l-finish, l-raise, l-other, aim_of, says-alike}

-- ---- an entry in the claim's words

abbrev pub told : ℕ → E.Entry → Option Entry
told pc E.nobody = none
told pc (E.entry c d x) = some (entry c d x pc)

told-pick : (pc : ℕ) (b : Bool) (x y : E.Entry) → pick b (told pc x) (told pc y) ≡ told pc (pick b x y)
unfolding pick
told-pick pc true x y = refl
told-pick pc false x y = refl

-- ---- coro_enter's test

leb-ltb : (a b : ℕ) → leb a b ≡ not (ltb b a)
leb-ltb a b = go (leb a b) refl
  where
    go : (t : Bool) → leb a b ≡ t → t ≡ not (ltb b a)
    go true e = sym (ap not (le-ltb b a (leb-true a b e)))
    go false e = sym (ap not (lt-ltb b a (leb-false a b e)))

neither-over : (a b : Bool) → (not a && not b) ≡ not (a || b)
neither-over true b = refl
neither-over false b = refl

none_of : (m : Bool) (y z : Option Entry) → pick (m && false) y z ≡ z
unfolding pick
none_of true y z = refl
none_of false y z = refl

module _ (w : World) (h : sound w ≡ true) where
  fits-as : (c : ℕ) (x : Coroutine) → coro w c ≡ x → seen_in (λ x. (seen_created x.state || seen_suspended x.state) && leb (length w.frames + length x.frames) w.setup.limits.depth && leb (length w.stack + length x.words) w.setup.limits.stack) (seen_of x) ≡ accepts_as x w
  fits-as c Absent e = refl
  fits-as c (Is k r) e = ap (λ b. b && leb (length w.frames + length k.frames) w.setup.limits.depth && leb (length w.stack + length k.regs) w.setup.limits.stack) (ready-state k.state) ∙ go (is_resumable k.state) refl
    where
      d : Bool
      d = ltb w.setup.limits.depth (length w.frames + length k.frames)

      s : Bool
      s = ltb w.setup.limits.stack (length w.stack + length k.regs)

      go : (b : Bool) → is_resumable k.state ≡ b → (b && leb (length w.frames + length k.frames) w.setup.limits.depth && leb (length w.stack + length k.regs) w.setup.limits.stack) ≡ (b && not (is_nil k.frames) && not (d || s))
      go false q = refl
      go true q =
          (λ i. leb-ltb (length w.frames + length k.frames) w.setup.limits.depth i && leb-ltb (length w.stack + length k.regs) w.setup.limits.stack i)
          ∙ neither-over d s ∙ ap (λ b. not b && not (d || s)) (sym (solid w h c k r e q))

  pub fits-accepts : (c : ℕ) → fits (view_of w) c ≡ accepts w c
  fits-accepts c = fits-as c (coro w c) refl

  named-aimed : (pc : ℕ) (a : E.Aim) → own_entry (view_of w) pc (aim_of a) ≡ told pc (aimed a w)
  named-aimed pc (E.suspends s dst x) = refl
  named-aimed pc E.neither = refl
  named-aimed pc (E.enters c d x may) =
      ap (λ b. pick (may && b) (some (entry c d (pick (state_is (view_of w) seen_created c) nothing x) pc)) none) (fits-accepts c)
      ∙ go (coro w c) ∙ told-pick pc (may && accepts w c) (E.entry c d (sent_to (coro w c) x)) E.nobody
    where
      go : (y : Coroutine) → pick (may && accepts_as y w) (some (entry c d (pick (seen_in (λ x. seen_created x.state) (seen_of y)) nothing x) pc)) none ≡ pick (may && accepts_as y w) (told pc (E.entry c d (sent_to y x))) (told pc E.nobody)
      go Absent = none_of may (some (entry c d (pick false nothing x) pc)) none ∙ sym (none_of may (some (entry c d nothing pc)) none)
      go (Is k r) = ap (λ b. pick (may && accepts_as (Is k r) w) (some (entry c d (pick b nothing x) pc)) none) (new-state k.state)

  cleaned-told : (pc : ℕ) (q : List ℕ) → cleaned (view_of w) pc q ≡ told pc (E.cleaned q w)
  cleaned-told pc [] = refl
  cleaned-told pc (c ∷ q) =
      (λ i. pick (is-suspended-coro w c i && fits-accepts c i) (some (entry c Driver.Finalize (closes 0) pc)) (cleaned-told pc q i))
      ∙ told-pick pc (coro_suspended (coro w c) && accepts w c) (E.entry c Driver.Finalize (closes 0)) (E.cleaned q w)

-- ---- the charge

abbrev first : E.Entry → E.Entry → E.Entry
first E.nobody y = y
first (E.entry c d x) y = E.entry c d x

told-first : (pc : ℕ) (x y : E.Entry) → or_else (told pc x) (told pc y) ≡ told pc (first x y)
unfolding or_else
told-first pc E.nobody y = refl
told-first pc (E.entry c d x) y = refl

charge-says : (p : ℕ) (w : World) (e : E.Entry)
    → E.charged (charge (Some p) w).answer w e ≡ pick (eqb w.fuel.fuel 0) (pick (eqb (banked w.fuel.bank) 0) E.nobody (pick w.fuel.ready (first (E.cleaned w.finalize w) e) e)) e
unfolding charge charge_slow start_finalizer pick
charge-says p w e = fast (eqb w.fuel.fuel 0) refl
  where
    u : World
    u = unbank (store_pc p (unbank w))

    su : Stored p w u
    su = record { setup = refl; stack = refl; frames = refl; chain = refl; slots = refl; used = refl }

    start : (a : After Started) → StartCase p w u w.finalize a → E.charged (charge_or a).answer w e ≡ first (E.cleaned w.finalize w) e
    start a (s-some c n z q t) = let x = sym (cleaned-stored su w.finalize) ∙ q in x ∙ ap (λ y. first y e) (sym x)
    start a (s-none n v q t) = ap (λ y. first y e) (sym (sym (cleaned-stored su w.finalize) ∙ q))

    ready : (b : Bool) → E.charged (pick b (charge_or (start_from 0 w.finalize u)) (charge_done 0 (unbank w))).answer w e ≡ pick b (first (E.cleaned w.finalize w) e) e
    ready true = start (start_from 0 w.finalize u) (start-case p w u su 0 w.finalize)
    ready false = refl

    same-ready : (b : RustOption ℕ) (f : Fuel) → (unbank_at b f).ready ≡ f.ready
    same-ready None f = refl
    same-ready (Some n) f = refl

    left : (b : RustOption ℕ) → eqb w.fuel.fuel 0 ≡ true → (unbank_at b w.fuel).fuel ≡ banked b
    left None q = eqb-true w.fuel.fuel 0 q
    left (Some n) q = refl

    slow : (b : Bool) → E.charged (pick b (after (unbank w) Charge.Spent) (charge_at (Some p) (unbank w))).answer w e ≡ pick b E.nobody (pick w.fuel.ready (first (E.cleaned w.finalize w) e) e)
    slow true = refl
    slow false = ready (unbank w).fuel.ready ∙ ap (λ b. pick b (first (E.cleaned w.finalize w) e) e) (same-ready w.fuel.bank w.fuel)

    fast : (b : Bool) → eqb w.fuel.fuel 0 ≡ b → E.charged (pick b (charge_slow (Some p) w) (after (spend w) (Charge.Done 0))).answer w e ≡ pick b (pick (eqb (banked w.fuel.bank) 0) E.nobody (pick w.fuel.ready (first (E.cleaned w.finalize w) e) e)) e
    fast false q = refl
    fast true q = slow (eqb (unbank w).fuel.fuel 0) ∙ ap (λ n. pick (eqb n 0) E.nobody (pick w.fuel.ready (first (E.cleaned w.finalize w) e) e)) (left w.fuel.bank q)

-- ---- whom

pub is_none : (fs : List Frame) → eqb (length fs) 0 ≡ is_nil fs
is_none [] = refl
is_none (f ∷ fs) = ne_eqb (length (f ∷ fs)) 0 (λ e. omega (arith, e))

not-pick : (b : Bool) {A : Type 0} (x y : A) → pick b x y ≡ pick (not b) y x
unfolding pick
not-pick true x y = refl
not-pick false x y = refl

module _ (w : World) (h : sound w ≡ true) where
  -- with whoever was to be entered
  pub charged-by : (pc : ℕ) (e : E.Entry) → charged (view_of w) pc (told pc e) ≡ told pc (E.charged (charge (Some pc) w).answer w e)
  charged-by pc e =
      (λ i. pick (eqb w.fuel.fuel 0) (pick (eqb (banked w.fuel.bank) 0) none (pick w.fuel.ready (or_else (cleaned-told w h pc w.finalize i) (told pc e)) (told pc e))) (told pc e))
      ∙ ap (λ y. pick (eqb w.fuel.fuel 0) (pick (eqb (banked w.fuel.bank) 0) none (pick w.fuel.ready y (told pc e))) (told pc e)) (told-first pc q e)
      ∙ ap (λ y. pick (eqb w.fuel.fuel 0) (pick (eqb (banked w.fuel.bank) 0) none y) (told pc e)) (told-pick pc w.fuel.ready (first q e) e)
      ∙ ap (λ y. pick (eqb w.fuel.fuel 0) y (told pc e)) (told-pick pc (eqb (banked w.fuel.bank) 0) E.nobody (pick w.fuel.ready (first q e) e))
      ∙ told-pick pc (eqb w.fuel.fuel 0) (pick (eqb (banked w.fuel.bank) 0) E.nobody (pick w.fuel.ready (first q e) e)) e
      ∙ ap (told pc) (sym (charge-says pc w e))
    where
      q : E.Entry
      q = E.cleaned w.finalize w

  charged-told : (pc : ℕ) (a : E.Aim) → charged (view_of w) pc (own_entry (view_of w) pc (aim_of a)) ≡ told pc (E.charged (charge (Some pc) w).answer w (aimed a w))
  charged-told pc a = ap (charged (view_of w) pc) (named-aimed w h pc a) ∙ charged-by pc (aimed a w)

  whom-alike : {a : E.Act} {d : Announced} → Alike a d → whom_by (view_of w) d ≡ told (pc_by a) (entry_by a w)
  whom-alike (l-at pc ok a) =
      let x = E.charged (charge (Some pc) w).answer w (aimed a w) in
      (λ i. pick (is_none w.frames i) none (pick ok (charged-told pc a i) none))
      ∙ ap (pick (is_nil w.frames) none) (not-pick ok (told pc x) none ∙ told-pick pc (not ok) E.nobody x)
      ∙ told-pick pc (is_nil w.frames) E.nobody (pick (not ok) E.nobody x)
  whom-alike (l-host c x) =
      let y = aimed (E.enters c Driver.Host (gets x) true) w in
      (λ i. pick (is_none w.frames i) (named-aimed w h 0 (E.enters c Driver.Host (gets x) true) i) none)
      ∙ not-pick (is_nil w.frames) (told 0 y) none ∙ told-pick 0 (not (is_nil w.frames)) E.nobody y
  whom-alike (l-finish kind x) = refl
  whom-alike (l-raise f pc) = refl
  whom-alike l-other = refl

  -- WHO IS ENTERED
  pub whom-told : (o : Op) → whom (view_of w) (some o) ≡ told (pc_by (act w o)) (entry_by (act w o) w)
  whom-told o = whom-alike (says-alike w o)
