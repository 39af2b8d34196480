-- PEP 342: close and throw, whole: two calls on a coroutine that catches nothing.
use Prim.Native.Nat.{ℕ, suc, ◌+◌}
use mathlib.Core.Path.{◌≡◌, refl, sym, ap, subst, ◌∙◌}
use mathlib.Core.Bool.{Bool, true, false, not, ◌&&◌, ◌||◌, true≢false, false≢true}
use mathlib.Core.List.{List, [], ◌∷◌, ◌++◌, map}
use native.Mathlib.Omega.{arith}
use lib.ListN.{length, take}
use lib.Seq.{take-append_seam}
use lib.Dec.{eqb, leb}
use borrow.Author.Tests.{eq-eqb}
use Rattle.lists.specs.Pick.{pick}
use Rattle.heap.specs.declared.fault.Fault.{Fault}
use Rattle.heap.specs.declared.object.CoroState.{CoroState}
use Rattle.model.specs.Lists.{is_nil, each}
use Rattle.model.specs.State.{is_resumable}
use Rattle.model.specs.Object.{Core, Rest, Object, Is, as_coro, with_closing, with_signal}
use Rattle.model.specs.World.{World, After, after, with_stack, with_frames, with_slots}
use Rattle.model.specs.Frames.{is_coro}
use Rattle.model.specs.Frames as Frames
use Rattle.model.specs.Heap.{coro}
use Rattle.model.specs.Sound.{sound, bases_ok, body_last, frames_over}
use Rattle.model.specs.Call.{typed}
use Rattle.model.specs.declared.program.Handler.{Handler}
use Rattle.model.specs.declared.machine.Cont.{Cont}
use Rattle.model.specs.declared.machine.Driver.{Driver}
use Rattle.model.specs.declared.machine.Frame.{Frame}
use Rattle.std.specs.Prelude.{None}
use Rattle.model.specs.declared.call.Op.{Op}
use Rattle.model.specs.declared.call.Answer.{Answer}
use Rattle.claims_sheet.specs.Lines.{Line, leads_from, line}
use Rattle.claims_sheet.specs.Does.{does, operation}
use Rattle.claims_sheet.specs.Words.{found, is_coroutine, core_of, rest_of, state, is_in, resumable}
use Rattle.claims_sheet.specs.Moves.{pc_stored, put, emptied, finished_rest, replaced, finished_with, sent, at_least, entered_as}
use Rattle.claims_sheet.specs.Charging.{used_up, charged}
use Rattle.claims_sheet.specs.Makings.{paid}
use Rattle.claims_sheet.specs.Endings.{innermost_finished, popped}
use Rattle.claims_sheet.specs.Unwinding.{takers, is_entry, is_body, search, top_func, top_pc}
use Rattle.claims_sheet.specs.Pep342.{at, held, enters, any_suspended, Passes}
use Rattle.claims_sheet.specs.Pep342Closes.{Closing}
use Rattle.claims_sheet.proofs.Among.{and_left, and_right, not-true, same}
use Rattle.claims_sheet.proofs.Choice.{both}
use Rattle.claims_sheet.proofs.Lookup.{put-get, put-put, has_body}
use Rattle.claims_sheet.proofs.Moved.{coro-is, coroutine}
use Rattle.claims_sheet.proofs.Asking.{resumes}
use Rattle.claims_sheet.proofs.Sheet.{leads-to}
use Rattle.claims_sheet.proofs.Led.{past, here, follows}
use Rattle.claims_sheet.proofs.Pep342.{in_reach, in-state, close, throw}
use Rattle.claims_sheet.proofs.Pep342Ends.{lets-past, taken-by, not_taken, rises}

-- ---- continuations

entry-is : (c : Cont) → Frames.is_entry c ≡ is_entry c
entry-is Cont.Entry = refl
entry-is (Cont.Write r) = refl
entry-is (Cont.Dyn r) = refl
entry-is (Cont.Value r) = refl
entry-is Cont.Discard = refl
entry-is Cont.Coro = refl

body_is : (c : Cont) → is_coro c ≡ is_body c
body_is Cont.Entry = refl
body_is (Cont.Write r) = refl
body_is (Cont.Dyn r) = refl
body_is (Cont.Value r) = refl
body_is Cont.Discard = refl
body_is Cont.Coro = refl

body-no-entry : (c : Cont) → is_body c ≡ true → is_entry c ≡ false
body-no-entry Cont.Entry h = absurd (false≢true h)
body-no-entry (Cont.Write r) h = refl
body-no-entry (Cont.Dyn r) h = refl
body-no-entry (Cont.Value r) h = refl
body-no-entry Cont.Discard h = refl
body-no-entry Cont.Coro h = refl

-- ---- frames that stand h words higher fall one after the other

take-over : (n : ℕ) (xs ys : List ℕ) → take (n + length xs) (xs ++ ys) ≡ xs ++ take n ys
take-over n [] ys = ap (λ m. take m ys) (let e : n + 0 ≡ n = omega arith in e)
take-over n (x ∷ xs) ys = ap (λ m. take m (x ∷ (xs ++ ys))) (let e : n + suc (length xs) ≡ suc (n + length xs) = omega arith in e) ∙ ap (λ zs. x ∷ zs) (take-over n xs ys)

abbrev up : ℕ → Frame → Frame
up h f = record { func = f.func; pc = f.pc; base = f.base + h; closure = f.closure; cont = f.cont }

module _ (S : List ℕ) (F : List Frame) (value f pc : ℕ) (d : Line Answer) (W : World) where
  abbrev on : List Frame → List ℕ → World
  on fs ys = with_frames fs (with_stack (S ++ ys) W)

  falls : (end : After Answer) → ((x : Frame) (ys : List ℕ) → is_body x.cont ≡ true → is_nil (takers x W) ≡ true → x.base ≡ 0 → leads_from (search (up (length S) x ∷ F) value f pc (on (up (length S) x ∷ F) ys)) d ≡ end) →
      (n : ℕ) (fs : List Frame) (ys : List ℕ) → body_last fs ≡ true → bases_ok n fs ≡ true → each (λ x. is_nil (takers x W)) fs ≡ true →
      leads_from (search (map (up (length S)) fs ++ F) value f pc (on (map (up (length S)) fs ++ F) ys)) d ≡ end
  unfolding pick
  falls end ends n [] ys b k t = absurd (false≢true b)
  falls end ends n (x ∷ []) ys b k t =
      ends x ys (sym (body_is x.cont) ∙ b) (and_left (is_nil (takers x W)) true t) (same x.base 0 (and_right (leb x.base n) (eqb x.base 0) k))
  falls end ends n (x ∷ y ∷ fs) ys b k t =
      lets-past value f pc d (up (length S) x) (map (up (length S)) (y ∷ fs) ++ F) (on (map (up (length S)) (x ∷ y ∷ fs) ++ F) ys) (leaves (is_nil (takers x W)) (is_entry x.cont) (is_body x.cont) _ (and_left (is_nil (takers x W)) _ t) no-entry no_body)
      ∙ (ap (λ z. leads_from (search (map (up (length S)) (y ∷ fs) ++ F) value f pc z) d) (gone (is_body x.cont) no_body)
      ∙ falls end ends x.base (y ∷ fs) (take x.base ys) (and_right plain (body_last (y ∷ fs)) b) (and_right (leb x.base n) (bases_ok x.base (y ∷ fs)) k) (and_right (is_nil (takers x W)) _ t))
    where
      plain : Bool
      plain = not (is_coro x.cont) && not (Frames.is_entry x.cont)

      no_body : is_body x.cont ≡ false
      no_body = sym (body_is x.cont) ∙ not-true (is_coro x.cont) (and_left (not (is_coro x.cont)) (not (Frames.is_entry x.cont)) (and_left plain (body_last (y ∷ fs)) b))

      no-entry : is_entry x.cont ≡ false
      no-entry = sym (entry-is x.cont) ∙ not-true (Frames.is_entry x.cont) (and_right (not (is_coro x.cont)) (not (Frames.is_entry x.cont)) (and_left plain (body_last (y ∷ fs)) b))

      leaves : (a e c q : Bool) → a ≡ true → e ≡ false → c ≡ false → a && (not e && not (c && q)) ≡ true
      leaves true true c q p r s = absurd (true≢false r)
      leaves true false true q p r s = absurd (true≢false s)
      leaves true false false q p r s = refl
      leaves false e c q p r s = absurd (false≢true p)

      gone : (c : Bool) → c ≡ false → let w = on (map (up (length S)) (x ∷ y ∷ fs) ++ F) ys in let p = popped (up (length S) x) (map (up (length S)) (y ∷ fs) ++ F) w in
          pick c (innermost_finished w.chain CoroState.Failed value p) p ≡ on (map (up (length S)) (y ∷ fs) ++ F) (take x.base ys)
      gone true e = absurd (true≢false e)
      gone false e = ap (λ xs. with_frames (map (up (length S)) (y ∷ fs) ++ F) (with_stack xs W)) (take-over x.base S ys)

-- ---- a coroutine that was entered ends as if it had not been

coro-found : (o : Object) (k : Core) (r : Rest) → as_coro o ≡ Is k r → o ≡ Object.Coro k r
coro-found Object.Empty k r e = absurd (true≢false cc)
coro-found (Object.Func f) k r e = absurd (true≢false cc)
coro-found (Object.Int n) k r e = absurd (true≢false cc)
coro-found (Object.Iter s d i) k r e = absurd (true≢false cc)
coro-found (Object.Error n f p x) k r e = absurd (true≢false cc)
coro-found (Object.Coro k' r') k r e = cc

module _ (v : ℕ) (z : World) (lives : is_coroutine (found z v) ≡ true) where
  abbrev k : Core
  k = core_of (found z v)

  abbrev r : Rest
  r = rest_of (found z v)

  is : coro z v ≡ Is k r
  is = coro-is z v ∙ coroutine (found z v) lives

  module _ (k' : Core) (r' : Rest) where
    pub found-new : found (replaced v (Object.Coro k' r') z) v ≡ Object.Coro k' r'
    found-new = coro-found _ k' r' (sym (coro-is (replaced v (Object.Coro k' r') z) v) ∙ put-get v k k' r r' z is)

    ends-alike : (s : CoroState) (result : ℕ) → emptied s k' ≡ emptied s k → finished_rest result r' ≡ finished_rest result r → finished_with v s result (replaced v (Object.Coro k' r') z) ≡ finished_with v s result z
    ends-alike s result e f =
        ap (λ o. pick (is_coroutine o) (replaced v (Object.Coro (emptied s (core_of o)) (finished_rest result (rest_of o))) y) y) found-new
        ∙ (here true _ refl
        ∙ (ap (λ xs. with_slots xs z) (put-put z.slots _ (Object.Coro k' r') (Object.Coro (emptied s k') (finished_rest result r')))
        ∙ ((λ i. replaced v (Object.Coro (e i) (f i)) z)
        ∙ sym (here (is_coroutine (found z v)) z lives))))
      where
        y : World
        y = replaced v (Object.Coro k' r') z

-- ---- the two calls

-- what a sound machine has saved of a resumable coroutine, and still has once an instruction is charged
abbrev Bodied : World → Type 0
Bodied w = (v : ℕ) (k : Core) (r : Rest) → coro w v ≡ Is k r → is_resumable k.state ≡ true → body_last k.frames && frames_over w.setup (length k.regs) k.frames ≡ true

charged-bodied : (pc : ℕ) (w : World) → Bodied w → Bodied (charged pc w)
charged-bodied pc w s = both (λ u. Bodied u) _ s (both (λ u. Bodied u) _ s s)

module _ (pc dst c src : ℕ) (w : World) (passes : Passes pc dst c src w) (is-suspended : enters any_suspended (held c pc w) (at pc w) ≡ true) where
  abbrev z : World
  z = at pc w

  abbrev v : ℕ
  v = held c pc w

  abbrev e : ℕ
  e = held src pc w

  there : is_coroutine (found z v) ≡ true
  there = and_left (is_coroutine (found z v)) _ (in_reach any_suspended v z is-suspended)

  abbrev core : Core
  core = core_of (found z v)

  abbrev rest : Rest
  rest = rest_of (found z v)

  whole : body_last core.frames && frames_over z.setup (length core.regs) core.frames ≡ true
  whole =
      charged-bodied pc w (λ x k r f g. has_body w x k r (and_left (sound w) _ passes) f g) v core rest (coro-is z v ∙ coroutine (found z v) there)
      (resumes core.state ∙ follows (λ x. is_in any_suspended x) resumable refl core.state (in-state any_suspended v z (in_reach any_suspended v z is-suspended)))

  bases : bases_ok (length core.regs) core.frames ≡ true
  bases = and_left (bases_ok (length core.regs) core.frames) _ (and_left _ _ (and_left _ _ (and_right (body_last core.frames) _ whole)))

  floor : (b : ℕ) (ys : List ℕ) → b ≡ 0 → take (b + length z.stack) (z.stack ++ ys) ≡ z.stack
  floor b ys h = ap (λ m. take m (z.stack ++ ys)) (let q : b + length z.stack ≡ length z.stack = omega (arith, h) in q) ∙ take-append_seam z.stack ys

  -- a word raised in the coroutine, entered with the rest r'
  module _ (r' : Rest) where
    abbrev I : World
    I = entered_as r' v (Driver.Resume dst) z

    abbrev last : Line Answer
    last = line 17 true (Answer.Refused (Fault.Throw e)) I

    abbrev f : ℕ
    f = top_func I.frames

    abbrev p : ℕ
    p = top_pc I.frames

    -- the body alone is left of it, with the words ys
    abbrev stood : Frame → List ℕ → World
    stood x ys = with_frames (up (length z.stack) x ∷ z.frames) (with_stack (z.stack ++ ys) I)

    abbrev Ends : After Answer → Type 0
    Ends end = (x : Frame) (ys : List ℕ) → is_body x.cont ≡ true → is_nil (takers x I) ≡ true → x.base ≡ 0 → leads_from (search (up (length z.stack) x ∷ z.frames) e f p (stood x ys)) last ≡ end

    raised-in : (s : typed (Op.Unwind (Fault.Throw e) None) ≡ true) (end : After Answer) → each (λ f. is_nil (takers f z)) core.frames ≡ true → Ends end → (E : World) → I ≡ E → sound E ≡ true →
        does E (operation (Op.Unwind (Fault.Throw e) None) s) ≡ end
    unfolding pick
    raised-in s end un ends E entry h =
        subst (λ (b : World). sound b ≡ true → does b (operation (Op.Unwind (Fault.Throw e) None) s) ≡ end) entry
        (λ g. leads-to I _ ∙ (rises None I (Fault.Throw e) (ap (λ b. b && true) g)
        ∙ falls z.stack z.frames e f p last I end ends (length core.regs) core.frames core.regs (and_left (body_last core.frames) _ whole) bases un)) h

    abbrev inside : World
    inside = replaced v (Object.Coro (emptied CoroState.Running core) (at_least core r')) z

    rest-inside : rest_of (found inside v) ≡ at_least core r'
    rest-inside = ap (λ o. rest_of o) (found-new v z there (emptied CoroState.Running core) (at_least core r'))

    -- it has finished, and its frame is gone
    leaves-with : (s : CoroState) (result : ℕ) (x : Frame) (ys : List ℕ) → x.base ≡ 0 → finished_rest result r' ≡ finished_rest result rest →
        finished_with v s result (with_stack (take (x.base + length z.stack) (z.stack ++ ys)) inside) ≡ finished_with v s result z
    leaves-with s result x ys q o = ap (λ xs. finished_with v s result (with_stack xs inside)) (floor x.base ys q) ∙ ends-alike v z there (emptied CoroState.Running core) (at_least core r') s result refl o

  abbrev signalled : Rest
  signalled = with_closing true (with_signal e rest)

  closes_at : Ends signalled (after (sent dst 0 (finished_with v CoroState.Returned 0 z)) Answer.Stopped)
  closes_at x ys b n q =
      let own = (rest_of (found (inside signalled) v)).closing && eqb e (rest_of (found (inside signalled) v)).signal in
      not_taken e (f signalled) (p signalled) (last signalled) (up (length z.stack) x) z.frames (stood signalled x ys) _ n
      (past (is_entry x.cont) _ (body-no-entry x.cont b)
      (here (is_body x.cont && own) _ (ap (λ t. t && own) b ∙ (ap (λ r. r.closing && eqb e r.signal) (rest-inside signalled) ∙ eq-eqb e e refl))
      ∙ ap (λ y. after (sent dst 0 y) Answer.Stopped) (leaves-with signalled CoroState.Returned 0 x ys q refl)))

  lets_by : (a c b q : Bool) → a ≡ true → c ≡ false → q ≡ false → a && (not c && not (b && q)) ≡ true
  lets_by true false true true p r s = absurd (true≢false s)
  lets_by true false true false p r s = refl
  lets_by true false false q p r s = refl
  lets_by true true b q p r s = absurd (true≢false r)
  lets_by false c b q p r s = absurd (false≢true p)

  abbrev gone : World
  gone = finished_with v CoroState.Failed e z

  throws-at : rest.closing ≡ false → (x : Frame) (xs : List Frame) (h : Handler) (hs : List Handler) → z.frames ≡ x ∷ xs → takers x gone ≡ h ∷ hs → used_up gone ≡ false →
      Ends rest (after (put h.catch e (pc_stored h.target (paid gone))) Answer.Caught)
  throws-at quiet x xs h hs fs k n y ys b m q =
      lets-past e (f rest) (p rest) (last rest) (up (length z.stack) y) z.frames (stood rest y ys) (lets_by (is_nil (takers y (I rest))) (is_entry y.cont) (is_body y.cont) _ m (body-no-entry y.cont b) not_own)
      ∙ (ap (λ u. leads_from (search z.frames e (f rest) (p rest) u) (last rest)) (here (is_body y.cont) _ b ∙ leaves-with rest CoroState.Failed e y ys q refl)
      ∙ (ap (λ (g : List Frame). leads_from (search g e (f rest) (p rest) gone) (last rest)) fs
      ∙ taken-by e (f rest) (p rest) (last rest) x xs gone h hs k n))
    where
      not_own : ((rest_of (found (inside rest) v)).closing && eqb e (rest_of (found (inside rest) v)).signal) || false ≡ false
      not_own = ap (λ r. (r.closing && eqb e r.signal) || false) (rest-inside rest) ∙ ap (λ t. (t && eqb e rest.signal) || false) quiet

  pub closing : Closing pc dst c src w passes is-suspended
  closing =
      record {
        close-uncaught = λ t s un h. raised-in signalled s _ un closes_at _ (sym (ap (λ (a : After Answer). a.world) ((close pc dst c src w passes).close-suspended is-suspended t))) h;
        throw-uncaught = λ t s x xs h hs un quiet g fs k n. raised-in rest s _ un (throws-at quiet x xs h hs fs k n) _ (sym (ap (λ (a : After Answer). a.world) ((throw pc dst c src w passes).throw-suspended is-suspended t))) g;
      }
