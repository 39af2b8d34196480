-- The engines that are wrong in an entry or in what is left: demand 3 refuses each by the field that WrongRestored.antt names.
use Prim.Native.Nat.{ℕ, ◌+◌}
use native.Mathlib.Omega.{arith}
use mathlib.Core.Path.{◌≡◌, refl, sym, ap, ◌∙◌}
use mathlib.Core.Logic.{◌⊎◌, inl, inr}
use mathlib.Core.Bool.{true, false}
use mathlib.Core.List.{List, [], ◌∷◌, ◌++◌, map, append_assoc}
use mathlib.Core.Option.{Option, none, some}
use lib.ListN.{length, get_or, take, length-append}
use Rattle.heap.specs.declared.object.CoroState.{CoroState}
use Rattle.model.specs.World.{with_frames, with_chain}
use Rattle.model.specs.Call.{as_call}
use Rattle.model.specs.Compute.{computed}
use Rattle.model.specs.declared.machine.Cont.{Cont}
use Rattle.model.specs.declared.machine.Active.{Active}
use Rattle.model.specs.declared.machine.Driver.{Driver}
use Rattle.model.specs.declared.machine.Frame.{Frame}
use Rattle.model.specs.declared.call.Op.{Op}
use Rattle.claims_model.specs.Engine.{Engine, Turn, Seen, View, run_turns}
use Rattle.claims_model.specs.Says.{Sent, nothing, closes, Entry, entry, announced_by, whom}
use Rattle.claims_model.specs.Held.{at, Moved, AllMoved, closer, closed_by, stepped, with_sent, entered_frames, By}
use Rattle.claims_model.specs.Delivery.{event_given, StackFrames, stack_frames, delivered_to}
use Rattle.claims_model.specs.Steps.{view_of}
use Rattle.claims_model.specs.Premises.{runs_in, suspended_in, left_in, waits}
use Rattle.claims_model.specs.Story.{c, d}
use Rattle.claims_model.specs.Witness.{frame}
use Rattle.claims_model.specs.Refuted as R
use Rattle.claims_model.specs.Refuted.{RefutedAt, RefutedOn, Each, Stands, NextEntry, entered, by, chain_is, closing_is, entry_parts, stands, left, under_is}
use Rattle.claims_model.specs.Altered.{seeing, exiting, beginning}
use Rattle.claims_model.specs.WrongRestored as W
use Rattle.claims_model.specs.WrongRestored.{grant_resumes, begins_with, under_top, fourth_word5, floor0, hosted, marked, closing_ends, each_seen, bodies_seen, on_top, discards, at_one, further, higher, first_word5}
use Rattle.claims_model.proofs.Premises.{waits-true}
use Rattle.claims_model.proofs.Places.{waiting, holding, sleeping}

-- ---- small things

abbrev pub first : List ℕ → ℕ
first [] = 0
first (x ∷ xs) = x

abbrev pub second : List ℕ → ℕ
second [] = 0
second (x ∷ xs) = first xs

abbrev pub code_of : Cont → ℕ
code_of Cont.Entry = 0
code_of (Cont.Write r) = 1
code_of (Cont.Dyn r) = 2
code_of (Cont.Value r) = 3
code_of Cont.Discard = 4
code_of Cont.Coro = 5

abbrev pub floor_in : List Active → ℕ
floor_in [] = 0
floor_in (a ∷ chain) = a.floor

abbrev pub some_one : List Active → ℕ
some_one [] = 0
some_one (a ∷ chain) = 1

abbrev driver_code : Driver → ℕ
driver_code Driver.Host = 0
driver_code (Driver.Resume r) = 1
driver_code (Driver.Iter has val iter) = 2
driver_code Driver.Finalize = 3

abbrev driven_in : List Active → ℕ
driven_in [] = 4
driven_in (a ∷ chain) = driver_code a.driver

abbrev pub head_or : Frame → List Frame → Frame
head_or g [] = g
head_or g (f ∷ fs) = f

abbrev pub last_or : Frame → List Frame → Frame
last_or g [] = g
last_or g (f ∷ fs) = last_or f fs

pub last-is : (g : Frame) (fs : List Frame) (f : Frame) → last_or g (fs ++ (f ∷ [])) ≡ f
last-is g [] f = refl
last-is g (h ∷ fs) f = last-is h fs f

pub last-two : (g : Frame) (fs : List Frame) (b f : Frame) → last_or g (fs ++ (b ∷ f ∷ [])) ≡ f
last-two g [] b f = refl
last-two g (h ∷ fs) b f = last-two h fs b f

-- of two frames, what stands over another is the first
pub first_of : (over : List Frame) (b x f g : Frame) → f ∷ g ∷ [] ≡ over ++ (b ∷ x ∷ []) → b ≡ f
first_of [] b x f g e = sym (ap (head_or b) e)
first_of (o ∷ over) b x f g e =
    let n = ap length e in
    let m = length-append over (b ∷ x ∷ []) in
    absurd (omega (arith, n, m))

-- it is one of the two
pub one_of : (over : List Frame) (b : Frame) (under : List Frame) (f g : Frame) → f ∷ g ∷ [] ≡ over ++ (b ∷ under) → (b ≡ f) ⊎ (b ≡ g)
one_of [] b under f g e = inl (sym (ap (head_or b) e))
one_of (o ∷ []) b under f g e = inr (sym (ap (λ fs. head_or b (W.tail fs)) e))
one_of (o ∷ p ∷ over) b under f g e =
    let n = ap length e in
    let m = length-append over (b ∷ under) in
    absurd (omega (arith, n, m))

abbrev pub sent_in : Option Entry → Sent
sent_in none = nothing
sent_in (some e) = e.sent

abbrev pub pc_in : Option Entry → ℕ
pc_in none = 0
pc_in (some e) = e.pc

abbrev pub driver_in : Option Entry → Driver
driver_in none = Driver.Host
driver_in (some e) = e.driver

pub no_one : {y : Entry} → ◌≡◌ {A = Option Entry} none (some y) → ⊥
no_one e = let z : ◌≡◌ {A = ℕ} 0 1 = cc in absurd (omega arith)

pub no_word : {x : ℕ} → ◌≡◌ {A = Option ℕ} none (some x) → ⊥
no_word e = let z : ◌≡◌ {A = ℕ} 0 1 = cc in absurd (omega arith)

-- ---- cases, by computation

abbrev pub entry_at : {e : Engine} (c : ℕ) (s : e.State) (y : e.Call) → runs_in e c s ≡ false → runs_in e c (e.next s y) ≡ true → R.Entering e
entry_at c s y a b = record { c = c; s = s; y = y; enters = record { before = a; after = b } }

abbrev pub next-entry-at : {e : Engine} (c : ℕ) (s : e.State) (x : e.Call) (waiting : List (Turn e.Call)) (y : e.Call) → runs_in e c s ≡ true → suspended_in e c (e.next s x) ≡ true → waits e c (e.next s x) waiting ≡ true
    → runs_in e c (run_turns e (e.next s x) waiting) ≡ false → runs_in e c (e.next (run_turns e (e.next s x) waiting) y) ≡ true → NextEntry e
next-entry-at {e} c s x waiting y a b h f g =
    record { c = c; s = s; x = x; waiting = waiting; y = y; suspends = record { before = a; after = b }; waits = waits-true e c (e.next s x) waiting h; enters = record { before = f; after = g } }

-- it is entered and stops at once
abbrev pub leave-at : {e : Engine} (c : ℕ) (s : e.State) (y z : e.Call) → runs_in e c s ≡ false → runs_in e c (e.next s y) ≡ true → runs_in e c (e.next s y) ≡ true → left_in e c (e.next (e.next s y) z) ≡ true → R.Leave e
leave-at c s y z a b f g = record { c = c; s = s; y = y; going = []; z = z; enters = record { before = a; after = b }; goes = tt; stops = record { before = f; after = g } }

-- ---- entries

-- what is seen of c, which has not begun
abbrev pub fresh-one : Seen
fresh-one = record { state = CoroState.Created; words = 0 ∷ 0 ∷ 0 ∷ 0 ∷ []; frames = frame 0 0 0 0 Cont.Coro ∷ []; waits = 0; most_words = 4; most_frames = 1; closing = false; signal = 0; result = 0 }

module _ {u : ℕ} {w : View} {y : Option Op} (b : By w y u) where
  pub sent-by : b.sent ≡ sent_in (whom w y)
  sent-by = ap sent_in (sym b.says)

  pub pc-by : b.pc ≡ pc_in (whom w y)
  pc-by = ap pc_in (sym b.says)

  pub driver-by : b.driver ≡ driver_in (whom w y)
  driver-by = ap driver_in (sym b.says)

-- what the call says is sent
pub closed-by : {w : View} {y : Option Op} {m : Option ℕ} (b : By w y c) → m ≡ closed_by b.sent (closer (w.coro c)) → m ≡ closed_by (sent_in (whom w y)) (closer (w.coro c))
closed-by {w} b h = h ∙ ap (λ s. closed_by s (closer (w.coro c))) (sent-by b)

pub word-by : {w : View} {y : Option Op} (z : View) (b : By w y c) (x : Seen) → z.stack ≡ with_sent b.sent z.frames x.waits (w.stack ++ x.words) → (i : ℕ)
    → get_or z.stack i 0 ≡ get_or (with_sent (sent_in (whom w y)) z.frames x.waits (w.stack ++ x.words)) i 0
word-by {w} z b x h i = ap (λ xs. get_or xs i 0) h ∙ ap (λ s. get_or (with_sent s z.frames x.waits (w.stack ++ x.words)) i 0) (sent-by b)

-- frames that have something alike
module _ (F : (b h : ℕ) (f g : Frame) → Type 0) (g k : Frame → ℕ) (alike : (b h : ℕ) (f j : Frame) → F b h f j → k j ≡ g f) where
  pub all_alike : (b n : ℕ) (fs ks : List Frame) → Each F b n fs ks → map k ks ≡ map g fs
  all_alike b n [] [] h = refl
  all_alike b n [] (j ∷ js) h = absurd h
  all_alike b n (f ∷ fs) [] h = absurd h
  all_alike b n (f ∷ fs) (j ∷ js) h = λ i. alike b n f j h.0 i ∷ all_alike b n fs js h.1 i

-- each frame that was moved has the field
module _ (F : (b h : ℕ) (f g : Frame) → Type 0) (p : (b h : ℕ) (f g : Frame) → Moved b h f g → F b h f g) where
  pub each : (b n : ℕ) (fs ks : List Frame) → AllMoved b n fs ks → Each F b n fs ks
  each b n [] [] m = tt
  each b n [] (j ∷ js) m = absurd m
  each b n (f ∷ fs) [] m = absurd m
  each b n (f ∷ fs) (j ∷ js) m = (p b n f j m.0, each b n fs js m.1)

abbrev pub pc_alike : (b h : ℕ) (f g : Frame) → Type 0
pc_alike b h f g = g.pc ≡ f.pc

abbrev pub pc_is : Frame → ℕ
pc_is f = f.pc

pub map-append : (g : Frame → ℕ) (xs ys : List Frame) → map g (xs ++ ys) ≡ map g xs ++ map g ys
map-append g [] ys = refl
map-append g (x ∷ xs) ys = ap (λ (l : List ℕ). g x ∷ l) (map-append g xs ys)

-- c's frames, over and body, stand on others
pub on-others : {w : View} {y : Option Op} {z : View} (t : Stands w y c z) → z.frames ≡ (t.over ++ (t.body ∷ [])) ++ at t.by.pc w.frames
on-others {w} t = t.frames ∙ sym (append_assoc t.over (t.body ∷ []) (at t.by.pc w.frames))

-- the first frame's pc, where c's saved frames are those of fs
pub first-pc : {w : View} {y : Option Op} {z : View} (t : Stands w y c z) (fs : List Frame) (n : ℕ) → AllMoved 0 n fs (t.over ++ (t.body ∷ [])) → map pc_is z.frames ≡ map pc_is fs ++ map pc_is (at t.by.pc w.frames)
first-pc {w} t fs n m =
    let mine = t.over ++ (t.body ∷ []) in
    ap (map pc_is) (on-others t) ∙ map-append pc_is mine (at t.by.pc w.frames)
    ∙ ap (λ l. l ++ map pc_is (at t.by.pc w.frames)) (all_alike pc_alike pc_is pc_is (λ b h f j e. e) 0 n fs mine (each pc_alike (λ b h f g m. m.pc) 0 n fs mine m))

by-says : RefutedOn by (λ e a r. entry a.c r.driver r.sent r.pc) (λ e a g. whom (e.view a.s) (e.op a.y) ≡ some g) (λ e a r. r.says) grant_resumes
unfolding computed waiting
by-says = (entry_at c waiting (as_call (Op.Grant 1) refl) refl refl, entry c Driver.Host nothing 0, λ g h. no_one h)

pub entered_by : RefutedAt entered (λ e a r. r.by) grant_resumes
unfolding computed waiting
entered_by = (entry_at c waiting (as_call (Op.Grant 1) refl) refl refl, λ h. no_one h.says)

-- what a resume says
abbrev resumes : {u : ℕ} {w : View} {y : Option Op} → whom w y ≡ some (entry u (Driver.Resume 1) nothing 2) → By w y u
resumes e = record { driver = Driver.Resume 1; sent = nothing; pc = 2; says = e }

entered-frames : RefutedOn entered entry_parts (λ e a g. (e.view (e.next a.s a.y)).frames ≡ g.1 ++ (g.2 ∷ at g.0.pc (e.view a.s).frames)) (λ e a r. r.frames) (begins_with (under_top at_one))
unfolding computed waiting
entered-frames = (
  entry_at c waiting (as_call (Op.Resume 2 1 0 2) refl) refl refl,
  (resumes refl, [], frame 0 0 0 0 Cont.Coro),
  λ g h.
      let q : ◌≡◌ {A = ℕ} 1 2 = ap (λ fs. (last_or g.2 fs).pc) h ∙ ap pc_is (last-two g.2 g.1 g.2 (frame 0 g.0.pc 0 0 Cont.Entry)) ∙ pc-by g.0 in
      absurd (omega (arith, q)),
)

entered-stack : RefutedOn entered (λ e a r. r.words) (λ e a g. (e.view (e.next a.s a.y)).stack ≡ (e.view a.s).stack ++ g) (λ e a r. r.stack) (beginning fourth_word5)
unfolding computed waiting
entered-stack = (entry_at c waiting (as_call (Op.Resume 2 1 0 2) refl) refl refl, [], λ g h. let q : ◌≡◌ {A = ℕ} 5 0 = ap (λ xs. get_or xs 3 0) h in absurd (omega (arith, q)))

entered-its-own : RefutedOn entered stands (λ e a g. g.body.cont ≡ Cont.Coro) (λ e a r. r.its_own) (seeing (each_seen discards))
unfolding computed waiting
entered-its-own = (
  entry_at c waiting (as_call (Op.Resume 2 1 0 2) refl) refl refl,
  record { by = resumes refl; over = []; body = frame 0 0 4 0 Cont.Discard; frames = refl },
  λ g h.
      let q : ◌≡◌ {A = ℕ} 4 5 = ap (λ f. code_of f.cont) (sym (first_of g.over g.body _ _ _ g.frames)) ∙ ap code_of h in
      absurd (omega (arith, q)),
)

entered-body-base : RefutedOn entered stands (λ e a g. g.body.base ≡ length (e.view a.s).stack) (λ e a r. r.body-base) (seeing (bodies_seen higher))
unfolding computed waiting
entered-body-base = (
  entry_at c waiting (as_call (Op.Resume 2 1 0 2) refl) refl refl,
  record { by = resumes refl; over = []; body = frame 0 0 5 0 Cont.Coro; frames = refl },
  λ g h.
      let q : ◌≡◌ {A = ℕ} 5 4 = ap (λ f. f.base) (sym (first_of g.over g.body _ _ _ g.frames)) ∙ h in
      absurd (omega (arith, q)),
)

entered-chain : RefutedOn entered (λ e a r. r.by) chain_is (λ e a r. r.chain) (beginning (λ w z. with_chain (map floor0 z.chain) z))
unfolding computed waiting
entered-chain = (entry_at c waiting (as_call (Op.Resume 2 1 0 2) refl) refl refl, resumes refl, λ g h. let q : ◌≡◌ {A = ℕ} 0 1 = ap floor_in h in absurd (omega (arith, q)))

entered-chain-driver : RefutedOn entered (λ e a r. r.by) chain_is (λ e a r. r.chain) (beginning (λ w z. with_chain (map hosted z.chain) z))
unfolding computed waiting
entered-chain-driver = (
  entry_at c waiting (as_call (Op.Resume 2 1 0 2) refl) refl refl,
  resumes refl,
  λ g h.
      let q : ◌≡◌ {A = ℕ} 0 1 = ap driven_in h ∙ ap driver_code (driver-by g) in
      absurd (omega (arith, q)),
)

-- c makes d and resumes it
entered-chain-outer : RefutedOn entered (λ e a r. r.by) chain_is (λ e a r. r.chain) (beginning (λ w z. with_chain (take 1 z.chain) z))
unfolding computed holding
entered-chain-outer = (entry_at d holding (as_call (Op.Resume 2 1 0 2) refl) refl refl, resumes refl, λ g h. let q : ◌≡◌ {A = ℕ} 1 2 = ap length h in absurd (omega (arith, q)))

entered-closing-unasked : RefutedOn entered (λ e a r. r.by) closing_is (λ e a r. r.closing) (beginning (λ w z. marked true z.chain z))
unfolding computed waiting
entered-closing-unasked = (entry_at c waiting (as_call (Op.Resume 2 1 0 2) refl) refl refl, resumes refl, λ g h. no_word (sym (closed-by g h)))

entered-closing : RefutedOn entered (λ e a r. r.by) closing_is (λ e a r. r.closing) closing_ends
unfolding computed sleeping
entered-closing = (entry_at c sleeping (as_call (Op.CoroClose 3 1 0 2) refl) refl refl, record { driver = Driver.Resume 1; sent = closes 9; pc = 3; says = refl }, λ g h. no_word (closed-by g h))

entered-saved-words : RefutedOn entered (λ e a r. r.by)
    (λ e a g. let w = e.view a.s in let z = e.view (e.next a.s a.y) in (x : Seen) → w.coro a.c ≡ some x → z.stack ≡ with_sent g.sent z.frames x.waits (w.stack ++ x.words))
    (λ e a r. r.saved-words) (beginning first_word5)
unfolding computed waiting
entered-saved-words = (
  entry_at c waiting (as_call (Op.Resume 2 1 0 2) refl) refl refl,
  resumes refl,
  λ g h.
      let q : ◌≡◌ {A = ℕ} 5 0 = word-by (view_of ((beginning first_word5).next waiting (as_call (Op.Resume 2 1 0 2) refl))) g fresh-one (h fresh-one refl) 4 in
      absurd (omega (arith, q)),
)

entered-saved-frames : RefutedOn entered stands
    (λ e a g. let w = e.view a.s in (x : Seen) → w.coro a.c ≡ some x → AllMoved 0 (length w.stack) (entered_frames g.by.sent x.frames) (g.over ++ (g.body ∷ [])))
    (λ e a r. r.saved-frames) (begins_with (on_top at_one))
unfolding computed waiting
entered-saved-frames = (
  entry_at c waiting (as_call (Op.Resume 2 1 0 2) refl) refl refl,
  record { by = resumes refl; over = []; body = frame 0 1 4 0 Cont.Coro; frames = refl },
  λ g h.
      let q : ◌≡◌ {A = ℕ} 1 0 = ap first (first-pc g (entered_frames g.by.sent (frame 0 0 0 0 Cont.Coro ∷ [])) 4 (h fresh-one refl)) ∙ ap (λ s. stepped s 0) (sent-by g.by) in
      absurd (omega (arith, q)),
)

-- ---- what is left

frames-below : {u : ℕ} {w : View} {y : Option Op} (v : View) (k : Option Op) (z : View) (b : By w y u) → stack_frames z.stack z.frames ≡ delivered_to b.driver (event_given v (announced_by v k) u z) (stack_frames w.stack (at b.pc w.frames))
    → z.frames ≡ (delivered_to (driver_in (whom w y)) (event_given v (announced_by v k) u z) (stack_frames w.stack (at (pc_in (whom w y)) w.frames))).frames
frames-below {u} {w} v k z b h =
    ap (λ (m : StackFrames). m.frames) h ∙ (λ i. (delivered_to (driver-by b i) (event_given v (announced_by v k) u z) (stack_frames w.stack (at (pc-by b i) w.frames))).frames)

word_below : {w : View} {y : Option Op} (v : View) (k : Option Op) (z : View) (b : By w y c) → stack_frames z.stack z.frames ≡ delivered_to b.driver (event_given v (announced_by v k) c z) (stack_frames w.stack (at b.pc w.frames))
    → (i : ℕ) → get_or z.stack i 0 ≡ get_or (delivered_to (driver_in (whom w y)) (event_given v (announced_by v k) c z) (stack_frames w.stack (at b.pc w.frames))).stack i 0
word_below {w} v k z b h i =
    ap (λ (m : StackFrames). get_or m.stack i 0) h ∙ ap (λ d. get_or (delivered_to d (event_given v (announced_by v k) c z) (stack_frames w.stack (at b.pc w.frames))).stack i 0) (driver-by b)

left_by : RefutedAt left (λ e a r. r.by) grant_resumes
unfolding computed waiting
left_by = (leave-at c waiting (as_call (Op.Grant 1) refl) (as_call (Op.Yield 3 0 1) refl) refl refl refl refl, λ h. no_one h.says)

pub left-under : RefutedOn left (λ e a r. r.by) under_is (λ e a r. r.under) (exiting fourth_word5)
unfolding computed waiting
left-under = (
  leave-at c waiting (as_call (Op.Resume 2 1 0 2) refl) (as_call (Op.Yield 3 0 1) refl) refl refl refl refl,
  resumes refl,
  λ g h.
      let at-yield = (exiting fourth_word5).next waiting (as_call (Op.Resume 2 1 0 2) refl) in
      let q : ◌≡◌ {A = ℕ} 5 0 = word_below (view_of at-yield) (some (Op.Yield 3 0 1)) (view_of ((exiting fourth_word5).next at-yield (as_call (Op.Yield 3 0 1) refl))) g h 3 in
      absurd (omega (arith, q)),
)

left-under-caller : RefutedOn left (λ e a r. r.by) under_is (λ e a r. r.under) (exiting (λ w z. with_frames (on_top further z.frames) z))
unfolding computed waiting
left-under-caller = (
  leave-at c waiting (as_call (Op.Resume 2 1 0 2) refl) (as_call (Op.Yield 3 0 1) refl) refl refl refl refl,
  resumes refl,
  λ g h.
      let e = exiting (λ w z. with_frames (on_top further z.frames) z) in
      let at-yield = e.next waiting (as_call (Op.Resume 2 1 0 2) refl) in
      let q : ◌≡◌ {A = ℕ} 4 3 = ap (λ fs. first (map pc_is fs)) (frames-below (view_of at-yield) (some (Op.Yield 3 0 1)) (view_of (e.next at-yield (as_call (Op.Yield 3 0 1) refl))) g h) in
      absurd (omega (arith, q)),
)

-- d yields to c, under which function 0 stands
left-under-frames : RefutedOn left (λ e a r. r.by) under_is (λ e a r. r.under) (exiting (λ w z. with_frames (under_top higher z.frames) z))
unfolding computed holding
left-under-frames = (
  leave-at d holding (as_call (Op.Resume 2 1 0 2) refl) (as_call (Op.Yield 3 0 1) refl) refl refl refl refl,
  resumes refl,
  λ g h.
      let e = exiting (λ w z. with_frames (under_top higher z.frames) z) in
      let at-yield = e.next holding (as_call (Op.Resume 2 1 0 2) refl) in
      let q : ◌≡◌ {A = ℕ} 1 0 = ap (λ fs. second (map (λ f. f.base) fs)) (frames-below (view_of at-yield) (some (Op.Yield 3 0 1)) (view_of (e.next at-yield (as_call (Op.Yield 3 0 1) refl))) g h) in
      absurd (omega (arith, q)),
)

left-chain : RefutedAt left (λ e a r. r.chain) (exiting (λ w z. with_chain w.chain z))
unfolding computed waiting
left-chain = (
  leave-at c waiting (as_call (Op.Resume 2 1 0 2) refl) (as_call (Op.Yield 3 0 1) refl) refl refl refl refl,
  λ h.
      let q : ◌≡◌ {A = ℕ} 1 0 = ap some_one h in
      absurd (omega (arith, q)),
)

-- NONE OF THEM
pub refuted-by : W.RefutedBy
refuted-by = record { says = by-says }

pub refuted-entered : W.RefutedEntered
refuted-entered =
    record {
      by = entered_by;
      frames = entered-frames;
      stack = entered-stack;
      its_own = entered-its-own;
      body-base = entered-body-base;
      chain = entered-chain;
      chain-driver = entered-chain-driver;
      chain-outer = entered-chain-outer;
      closing = entered-closing;
      closing-unasked = entered-closing-unasked;
      saved-words = entered-saved-words;
      saved-frames = entered-saved-frames;
    }

pub refuted-left : W.RefutedLeftBelow
refuted-left = record { by = left_by; under = left-under; under-caller = left-under-caller; under-frames = left-under-frames; chain = left-chain }
