-- The sheet's lines for the instructions that ask for a coroutine: entries, CoroStatus, CoroCurrent, CoroKey, CoroResult.
use Prim.Native.Nat.{ℕ}
use mathlib.Core.Path.{◌≡◌, refl, ap, ◌∙◌}
use mathlib.Core.Bool.{Bool, true, false, not, ◌||◌}
use mathlib.Core.List.{List, [], ◌∷◌}
use Rattle.lists.specs.Pick.{pick}
use Rattle.heap.specs.Word.{nil}
use Rattle.heap.specs.Object.{code_of}
use Rattle.heap.specs.declared.fault.Fault.{Fault}
use Rattle.heap.specs.declared.object.CoroState.{CoroState}
use Rattle.model.specs.Lists.{is_nil}
use Rattle.model.specs.State.{is_created, is_awaiting, is_returned, is_resumable}
use Rattle.model.specs.Object as Objects
use Rattle.model.specs.Object.{Core, Rest, Object, Coroutine, Absent, Is, as_coro}
use Rattle.model.specs.World.{World, After, after, and_then}
use Rattle.model.specs.Frames.{reg, store_pc}
use Rattle.model.specs.Heap.{object, coro, not_a}
use Rattle.model.specs.Coro.{state_as, coro_state, enter_as, coro_enter, finish_coroutine}
use Rattle.model.specs.Exec as Exec
use Rattle.model.specs.declared.machine.Active.{Active}
use Rattle.model.specs.declared.machine.Driver.{Driver}
use Rattle.std.specs.Prelude.{Result, Ok, Err}
use Rattle.model.specs.declared.coro.Entered.{Entered}
use Rattle.model.specs.declared.exec.Step.{Step}
use Rattle.claims_sheet.specs.Lines.{leads}
use Rattle.claims_sheet.specs.Words.{word, found, is_coroutine, dead, no_coroutine, is_done, core_of, code, is_in, state, resumable, suspended, too_high}
use Rattle.claims_sheet.specs.Moves.{pc_stored, put, sent, entered, entered_closing}
use Rattle.claims_sheet.specs.Instructions as Table
use Rattle.claims_sheet.proofs.Words.{object-found}
use Rattle.claims_sheet.proofs.Moved.{below, below-if, word-is, stored, put_is, sent_is, coro-is, by_kind, finished-is, closing-is, marked-is}
use Rattle.claims_sheet.proofs.Among.{not-false}

-- ---- coro_enter

-- a resumable coroutine has a saved frame
abbrev pub Saved : World → Type 0
Saved w = (v : ℕ) (k : Core) (r : Rest) → coro w v ≡ Is k r → is_resumable k.state ≡ true → is_nil k.frames ≡ false

pub resumes : (s : CoroState) → is_resumable s ≡ resumable s
resumes CoroState.Created = refl
resumes CoroState.Running = refl
resumes CoroState.Yielded = refl
resumes CoroState.Awaiting = refl
resumes CoroState.Returned = refl
resumes CoroState.Failed = refl

pub creates : (s : CoroState) → is_created s ≡ is_in (CoroState.Created ∷ []) s
creates CoroState.Created = refl
creates CoroState.Running = refl
creates CoroState.Yielded = refl
creates CoroState.Awaiting = refl
creates CoroState.Returned = refl
creates CoroState.Failed = refl

refusal : (a b : Bool) → (a ≡ true → b ≡ false) → not a || b ≡ not a
refusal true b h = h refl
refusal false b h = refl

forbids : (o : Object) → ((k : Core) (r : Rest) → as_coro o ≡ Is k r → is_resumable k.state ≡ true → is_nil k.frames ≡ false) →
    not (is_resumable (core_of o).state) || is_nil (core_of o).frames ≡ not (resumable (core_of o).state)
forbids Object.Empty h = refl
forbids (Object.Func f) h = refl
forbids (Object.Int n) h = refl
forbids (Object.Iter s d k) h = refl
forbids (Object.Error e f p x) h = refl
forbids (Object.Coro k r) h = refusal (is_resumable k.state) (is_nil k.frames) (h k r refl) ∙ ap not (resumes k.state)

pub then-two : {A B : Type 0} (g : World → A → After B) (a a' b : Bool) (x y z : After A) → a ≡ a' → and_then (pick a x (pick b y z)) g ≡ pick a' (and_then x g) (pick b (and_then y g) (and_then z g))
unfolding pick
then-two g a a' b x y z e = ap (λ t. and_then (pick t x (pick b y z)) g) e ∙ go a' b
  where
    go : (a b : Bool) → and_then (pick a x (pick b y z)) g ≡ pick a (and_then x g) (pick b (and_then y g) (and_then z g))
    go true b = refl
    go false true = refl
    go false false = refl

module _ {B : Type 0} (g : World → Result Entered Fault → After B) (v : ℕ) (d : Driver) (z : World) (saved : Saved z) where
  entry : Coroutine → Fault → After (Result Entered Fault)
  entry Absent f = after z (Err f)
  entry (Is k r) f = enter_as (Is k r) v d z

  entry-is : (x : Coroutine) → enter_as x v d z ≡ entry x (not_a z v)
  unfolding entry
  entry-is Absent = refl
  entry-is (Is k r) = refl

  -- the tests of an entry, in order
  pub enter-is : and_then (coro_enter v d z) g
      ≡ pick (dead z v) (g z (Err Fault.NullReference)) (pick (no_coroutine z v) (g z (Err Fault.TypeError))
      (pick (not (resumable (state z v))) (g z (Err Fault.InvalidCoroState)) (pick (too_high z v) (g z (Err Fault.StackOverflow))
      (g (entered v d z) (pick (is_created (state z v)) (Ok Entered.Fresh) (Ok (Entered.Suspended (core_of (found z v)).waiting)))))))
  unfolding coro_enter entry
  enter-is =
      ap (λ (e : After (Result Entered Fault)). and_then e g) (entry-is (coro z v))
      ∙ (by_kind (λ x f. and_then (entry x f) g) z v
      ∙ below _ _ (below _ _ (then-two g _ _ (too_high z v) _ _ _ (forbids (found z v) (λ k r e. saved v k r (coro-is z v ∙ e))))))

-- tests that have passed pass again, below one to three others
module _ {A : Type 0} where
  again : (a b c : Bool) (x y m x' y' z : A) → pick a x (pick b y (pick c m (pick a x' (pick b y' z)))) ≡ pick a x (pick b y (pick c m z))
  unfolding pick
  again true b c x y m x' y' z = refl
  again false true c x y m x' y' z = refl
  again false false c x y m x' y' z = refl

  again_two : (a b c d : Bool) (x y m n x' y' z : A) → pick a x (pick b y (pick c m (pick d n (pick a x' (pick b y' z))))) ≡ pick a x (pick b y (pick c m (pick d n z)))
  unfolding pick
  again_two true b c d x y m n x' y' z = refl
  again_two false true c d x y m n x' y' z = refl
  again_two false false c d x y m n x' y' z = refl

  again-three : (a b c d e : Bool) (x y m n o x' y' z : A) → pick a x (pick b y (pick c m (pick d n (pick e o (pick a x' (pick b y' z)))))) ≡ pick a x (pick b y (pick c m (pick d n (pick e o z))))
  unfolding pick
  again-three true b c d e x y m n o x' y' z = refl
  again-three false true c d e x y m n o x' y' z = refl
  again-three false false c d e x y m n o x' y' z = refl

-- ---- Resume, ResumeThrow, CoroClose, iter_next

arrive-is : (s d : ℕ) (w : World) (b b' : Bool) → b ≡ b' → Exec.arrive s w (pick b (Ok Entered.Fresh) (Ok (Entered.Suspended d))) ≡ after (pick b' w (sent d s w)) Step.Frame
unfolding pick
arrive-is s d w b b' e = ap (λ t. Exec.arrive s w (pick t (Ok Entered.Fresh) (Ok (Entered.Suspended d)))) e ∙ go b'
  where
    go : (b : Bool) → Exec.arrive s w (pick b (Ok Entered.Fresh) (Ok (Entered.Suspended d))) ≡ after (pick b w (sent d s w)) Step.Frame
    go true = refl
    go false = ap (λ u. after u Step.Frame) (sent_is d s w)

pub resume-is : (pc dst c src : ℕ) (u : World) → Saved u → Exec.resume pc dst c src u ≡ leads (Table.resume pc dst c src u)
unfolding Exec.resume
resume-is pc dst c src u saved =
    ap (λ v. and_then (coro_enter v (Driver.Resume dst) (store_pc pc u)) (Exec.arrive (reg u src))) (word-is u c)
    ∙ (ap (λ s. and_then (coro_enter (word u c) (Driver.Resume dst) (store_pc pc u)) (Exec.arrive s)) (word-is u src)
    ∙ (ap (λ z. and_then (coro_enter (word u c) (Driver.Resume dst) z) (Exec.arrive (word u src))) (stored pc u)
    ∙ (enter-is (Exec.arrive (word u src)) (word u c) (Driver.Resume dst) (pc_stored pc u) saved
    ∙ below _ _ (below _ _ (below _ _ (below _ _ (arrive-is (word u src) _ _ _ _ (creates (state u (word u c))))))))))

throw-is : (s d : ℕ) (w : World) (b : Bool) → Exec.throw_entered s w (pick b (Ok Entered.Fresh) (Ok (Entered.Suspended d))) ≡ after w (Step.Unwind (Fault.Throw s))
unfolding pick
throw-is s d w true = refl
throw-is s d w false = refl

pub two-tests : {A : Type 0} (a a' : Bool) {x x' y y' : A} → a ≡ a' → x ≡ x' → y ≡ y' → pick a x y ≡ pick a' x' y'
two-tests a a' e f g = λ i. pick (e i) (f i) (g i)

-- an entry by an instruction, whose pc is stored first; g is what is done once it is in
abbrev inside : {B : Type 0} → (World → Result Entered Fault → After B) → After B → World → ℕ → After B
inside g done z v =
    pick (dead z v) (g z (Err Fault.NullReference)) (pick (no_coroutine z v) (g z (Err Fault.TypeError))
    (pick (not (resumable (state z v))) (g z (Err Fault.InvalidCoroState)) (pick (too_high z v) (g z (Err Fault.StackOverflow)) done)))

goes_in : {B : Type 0} (g : World → Result Entered Fault → After B) (v : ℕ) (d : Driver) (pc : ℕ) (u : World) → Saved u → (done : After B) →
    g (entered v d (pc_stored pc u)) (pick (is_created (state u v)) (Ok Entered.Fresh) (Ok (Entered.Suspended (core_of (found u v)).waiting))) ≡ done →
    and_then (coro_enter v d (store_pc pc u)) g ≡ inside g done (pc_stored pc u) v
goes_in g v d pc u saved done e =
    ap (λ z. and_then (coro_enter v d z) g) (stored pc u) ∙ (enter-is g v d (pc_stored pc u) saved ∙ below _ _ (below _ _ (below _ _ (below _ _ e))))

pub resume-throw-is : (pc dst c src : ℕ) (u : World) → Saved u → Exec.resume_throw pc dst c src u ≡ leads (Table.resume_throw pc dst c src u)
unfolding Exec.resume_throw
resume-throw-is pc dst c src u saved =
    ap (λ x. Exec.throw_to (coro_state u x) pc dst x (reg u src) u) (word-is u c)
    ∙ (ap (λ s. Exec.throw_to (coro_state u v) pc dst v s u) (word-is u src)
    ∙ (by_kind (λ x f. Exec.throw_to (state_as x f) pc dst v err u) u v
    ∙ (below _ _ (below _ _ (two-tests _ _ (creates (state u v)) (ap (λ z. after z (Step.Fault (Fault.Throw err))) (finished-is v CoroState.Failed err u))
    (goes_in (Exec.throw_entered err) v (Driver.Resume dst) pc u saved _ (throw-is err _ _ _))))
    ∙ again (dead u v) (no_coroutine u v) _ _ _ _ _ _ _)))
  where
    v : ℕ
    v = word u c

    err : ℕ
    err = word u src

close-is : (s d v : ℕ) (by : Driver) (w : World) (b : Bool) → is_coroutine (found w v) ≡ true →
    Exec.close_entered v s (entered v by w) (pick b (Ok Entered.Fresh) (Ok (Entered.Suspended d))) ≡ after (entered_closing s v by w) (Step.Unwind (Fault.Throw s))
unfolding pick
close-is s d v by w true h = ap (λ u. after u (Step.Unwind (Fault.Throw s))) (closing-is s v by w h)
close-is s d v by w false h = ap (λ u. after u (Step.Unwind (Fault.Throw s))) (closing-is s v by w h)

closes : (s : CoroState) (pc dst c signal : ℕ) (u : World) →
    Exec.close_to (Ok s) pc dst c signal u
    ≡ pick (is_in (CoroState.Running ∷ []) s) (Exec.fault u Fault.InvalidCoroState) (pick (is_in (CoroState.Created ∷ []) s) (Exec.put dst nil (finish_coroutine c CoroState.Returned nil u))
    (pick (not (suspended s)) (Exec.put dst nil u) (Exec.close_in pc dst c signal u)))
unfolding pick
closes CoroState.Created pc dst c signal u = refl
closes CoroState.Running pc dst c signal u = refl
closes CoroState.Yielded pc dst c signal u = refl
closes CoroState.Awaiting pc dst c signal u = refl
closes CoroState.Returned pc dst c signal u = refl
closes CoroState.Failed pc dst c signal u = refl

-- a suspended one is resumable
once : {A : Type 0} (s : CoroState) (x y z : A) → pick (not (suspended s)) x (pick (not (resumable s)) y z) ≡ pick (not (suspended s)) x z
unfolding pick
once CoroState.Created x y z = refl
once CoroState.Running x y z = refl
once CoroState.Yielded x y z = refl
once CoroState.Awaiting x y z = refl
once CoroState.Returned x y z = refl
once CoroState.Failed x y z = refl

pub next-is : (dst v : ℕ) (u u' : World) → u ≡ u' → Exec.put dst v u ≡ after (put dst v u') Step.Next
next-is dst v u u' e = ap (λ z. Exec.put dst v z) e ∙ ap (λ z. after z Step.Next) (put_is dst v u')

pub coro-close-is : (pc dst c src : ℕ) (u : World) → Saved u → Exec.coro_close pc dst c src u ≡ leads (Table.coro_close pc dst c src u)
unfolding Exec.coro_close
coro-close-is pc dst c src u saved =
    ap (λ x. Exec.close_to (coro_state u x) pc dst x (reg u src) u) (word-is u c)
    ∙ (ap (λ s. Exec.close_to (coro_state u v) pc dst v s u) (word-is u src)
    ∙ (by_kind (λ x f. Exec.close_to (state_as x f) pc dst v signal u) u v
    ∙ (below _ _ (below-if _ _ (λ is. closes (state u v) pc dst v signal u
    ∙ below _ _ (two-tests _ _ refl (next-is dst 0 _ _ (finished-is v CoroState.Returned 0 u)) (two-tests _ _ refl (next-is dst 0 u u refl)
    (goes_in (Exec.close_entered v signal) v (Driver.Resume dst) pc u saved _ (close-is signal _ v _ (pc_stored pc u) _ (not-false _ is)))))))
    ∙ (again-three (dead u v) (no_coroutine u v) _ _ _ _ _ _ _ _ _ _ _
    ∙ below _ _ (below _ _ (below _ _ (below _ _ (once s _ _ _))))))))
  where
    v : ℕ
    v = word u c

    signal : ℕ
    signal = word u src

    s : CoroState
    s = state u v

returns : (s : CoroState) → is_returned s ≡ is_in (CoroState.Returned ∷ []) s
returns CoroState.Created = refl
returns CoroState.Running = refl
returns CoroState.Yielded = refl
returns CoroState.Awaiting = refl
returns CoroState.Returned = refl
returns CoroState.Failed = refl

awaits : (s : CoroState) → is_awaiting s ≡ is_in (CoroState.Awaiting ∷ []) s
awaits CoroState.Created = refl
awaits CoroState.Running = refl
awaits CoroState.Yielded = refl
awaits CoroState.Awaiting = refl
awaits CoroState.Returned = refl
awaits CoroState.Failed = refl

done-is : (o : Object) → Objects.is_done o ≡ is_done o
done-is Object.Empty = refl
done-is (Object.Func f) = refl
done-is (Object.Int n) = refl
done-is (Object.Iter s d k) = refl
done-is (Object.Error e f p x) = refl
done-is (Object.Coro k r) = refl

pub iter-next-is : (pc has iter val src : ℕ) (u : World) → Saved u → Exec.iter_next pc has iter val src u ≡ leads (Table.iter_next pc has iter val src u)
unfolding Exec.iter_next
iter-next-is pc has iter val src u saved =
    ap (λ x. Exec.iter_on (coro_state u x) pc has (reg u iter) val x u) (word-is u src)
    ∙ (ap (λ x. Exec.iter_on (coro_state u v) pc has x val v u) (word-is u iter)
    ∙ (by_kind (λ x f. Exec.iter_on (state_as x f) pc has it val v u) u v
    ∙ (below _ _ (below _ _ (two-tests _ _ over (next-is has 0 _ _ (marked-is it (λ _. true) (λ k. k) u)) (two-tests _ _ (awaits s) refl
    (goes_in (Exec.arrive 0) v (Driver.Iter has val it) pc u saved _ (arrive-is 0 _ _ _ _ (creates s))))))
    ∙ again_two (dead u v) (no_coroutine u v) _ _ _ _ _ _ _ _ _)))
  where
    v : ℕ
    v = word u src

    it : ℕ
    it = word u iter

    s : CoroState
    s = state u v

    over : Objects.is_done (object u it) || is_returned s ≡ is_done (found u it) || is_in (CoroState.Returned ∷ []) s
    over = ap (λ o. Objects.is_done o || is_returned s) (object-found u it) ∙ (ap (λ b. b || is_returned s) (done-is (found u it)) ∙ ap (λ b. is_done (found u it) || b) (returns s))

-- ---- CoroStatus, CoroCurrent, CoroKey, CoroResult

codes : (s : CoroState) → code_of s ≡ code s
codes CoroState.Created = refl
codes CoroState.Running = refl
codes CoroState.Yielded = refl
codes CoroState.Awaiting = refl
codes CoroState.Returned = refl
codes CoroState.Failed = refl

pub coro-status-is : (dst c : ℕ) (u : World) → Exec.coro_status dst c u ≡ leads (Table.coro_status dst c u)
unfolding Exec.coro_status
coro-status-is dst c u =
    ap (λ v. Exec.status_of (coro_state u v) dst u) (word-is u c)
    ∙ (by_kind (λ x f. Exec.status_of (state_as x f) dst u) u (word u c)
    ∙ below _ _ (below _ _ (ap (λ n. Exec.put dst n u) (codes (state u (word u c))) ∙ next-is dst _ u u refl)))

current-is : (chain : List Active) → Exec.current chain ≡ Table.innermost chain
current-is [] = refl
current-is (a ∷ chain) = refl

pub coro-current-is : (dst : ℕ) (u : World) → Exec.coro_current dst u ≡ leads (Table.coro_current dst u)
unfolding Exec.coro_current
coro-current-is dst u = ap (λ n. Exec.put dst n u) (current-is u.chain) ∙ next-is dst _ u u refl

pub coro-key-is : (dst c : ℕ) (u : World) → Exec.coro_key dst c u ≡ leads (Table.coro_key dst c u)
unfolding Exec.coro_key
coro-key-is dst c u =
    ap (λ v. Exec.key_of (coro u v) (not_a u v) dst u) (word-is u c)
    ∙ (by_kind (λ x f. Exec.key_of x f dst u) u (word u c) ∙ below _ _ (below _ _ (next-is dst _ u u refl)))

turned : {A : Type 0} (b b' : Bool) (x y : A) → b ≡ b' → pick b x y ≡ pick (not b') y x
unfolding pick
turned b true x y e = ap (λ t. pick t x y) e
turned b false x y e = ap (λ t. pick t x y) e

pub coro-result-is : (dst c : ℕ) (u : World) → Exec.coro_result dst c u ≡ leads (Table.coro_result dst c u)
unfolding Exec.coro_result
coro-result-is dst c u =
    ap (λ v. Exec.result_in (coro u v) (not_a u v) dst u) (word-is u c)
    ∙ (by_kind (λ x f. Exec.result_in x f dst u) u (word u c)
    ∙ below _ _ (below _ _ (turned _ _ _ _ (returns (state u (word u c))) ∙ below _ _ (next-is dst _ u u refl))))
