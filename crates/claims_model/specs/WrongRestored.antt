-- Engines that are wrong in one thing of an entry, of what is put back, or of what a coroutine leaves, and else are `step`; and the field of
-- demand 3 that refuses each (`WrongEntries`, `WrongHeld` and `WrongRestored` of `proofs/`).
use Rattle.std.specs.Prelude.{ℕ, ◌+◌, ◌≡◌, Bool, true, false, not, ◌&&◌, ◌||◌, List, [], ◌∷◌, ◌++◌, map, length, take, set, ltb}
use Rattle.std.proofs.Math.Option.{Option, none, some}
use Rattle.lists.specs.Pick.{pick}
use Rattle.heap.specs.declared.object.CoroState.{CoroState}
use Rattle.model.specs.Object.{Core, Coroutine, Absent, Is, with_closing}
use Rattle.model.specs.World.{World, with_stack, with_frames, with_chain, with_fuel}
use Rattle.model.specs.Heap.{coro, change_coro}
use Rattle.model.specs.Answer.{number_of}
use Rattle.model.specs.Call.{Call}
use Rattle.model.specs.Step.{tested, step}
use Rattle.model.specs.declared.machine.Cont.{Cont}
use Rattle.model.specs.declared.machine.Driver.{Driver}
use Rattle.model.specs.declared.machine.Active.{Active}
use Rattle.model.specs.declared.machine.Frame.{Frame}
use Rattle.model.specs.declared.call.Op.{Op}
use Rattle.claims_model.specs.Engine.{Seen, View, Engine, seen_running, seen_suspended, state_is}
use Rattle.claims_model.specs.Says.{entry, whom}
use Rattle.claims_model.specs.Held.{at, AllMoved, with_sent, entered_frames}
use Rattle.claims_model.specs.Demand3.{Demand3}
use Rattle.claims_model.specs.Events.{is_body}
use Rattle.claims_model.specs.Steps.{view_of, model_op, model_asks, looks}
use Rattle.claims_model.specs.Story.{c, d}
use Rattle.claims_model.specs.Refuted as R
use Rattle.claims_model.specs.Refuted.{Refuted, RefutedAt, RefutedOn, RefutedAtFrame, entered, by, chain_is, closing_is, entry_parts, stands, restored, held, thirds, splits, linked, frames_are, words_are, left, under_is}
use Rattle.claims_model.specs.Altered as Altered
use Rattle.claims_model.specs.Altered.{leaving, seeing, leaving_at, entering, exiting, beginning, making}

-- ---- entries

-- a grant resumes whom register 0 names
abbrev pub grant_resumes : Engine
grant_resumes = leaving_at Altered.grant (λ w z. (tested w (Op.Resume 2 1 0 2)).world)

abbrev pub on_top : (Frame → Frame) → List Frame → List Frame
on_top g [] = []
on_top g (f ∷ fs) = g f ∷ fs

abbrev pub under_top : (Frame → Frame) → List Frame → List Frame
under_top g [] = []
under_top g (f ∷ fs) = f ∷ map g fs

abbrev pub on_second : (Frame → Frame) → List Frame → List Frame
on_second g [] = []
on_second g (f ∷ fs) = f ∷ on_top g fs

-- a frame at pc 1, one instruction further, one word higher, of function 0, without its closure, with Discard for its continuation
abbrev pub at_one : Frame → Frame
at_one f = record { func = f.func; pc = 1; base = f.base; closure = f.closure; cont = f.cont }

abbrev pub further : Frame → Frame
further f = record { func = f.func; pc = f.pc + 1; base = f.base; closure = f.closure; cont = f.cont }

abbrev pub higher : Frame → Frame
higher f = record { func = f.func; pc = f.pc; base = f.base + 1; closure = f.closure; cont = f.cont }

abbrev pub of_zero : Frame → Frame
of_zero f = record { func = 0; pc = f.pc; base = f.base; closure = f.closure; cont = f.cont }

abbrev pub without_closure : Frame → Frame
without_closure f = record { func = f.func; pc = f.pc; base = f.base; closure = 0; cont = f.cont }

abbrev pub discards : Frame → Frame
discards f = record { func = f.func; pc = f.pc; base = f.base; closure = f.closure; cont = Cont.Discard }

-- the frames that a first entry leaves are altered
abbrev pub begins_with : (List Frame → List Frame) → Engine
begins_with g = beginning (λ w z. with_frames (g z.frames) z)

-- 5 stands in the first word above the caller's
abbrev pub first_word5 : World → World → World
first_word5 w z = with_stack (set z.stack (length w.stack) 5) z

-- 5 stands in the stack's fourth word
abbrev pub fourth_word5 : World → World → World
fourth_word5 w z = with_stack (set z.stack 3 5) z

-- the chain has floor 0 for whoever runs
abbrev pub floor0 : Active → Active
floor0 a = record { coro = a.coro; floor = 0; driver = a.driver }

-- the host for a driver
abbrev pub hosted : Active → Active
hosted a = record { coro = a.coro; floor = a.floor; driver = Driver.Host }

-- whoever runs innermost is being closed, or is not
abbrev pub marked : Bool → List Active → World → World
marked m [] z = z
marked m (a ∷ chain) z = change_coro a.coro (λ k. k) (with_closing m) z

abbrev pub closing_ends : Engine
closing_ends = leaving (λ w k. let z = (step w k).world in marked false z.chain z)

-- each frame is seen altered, where it stands and where it is saved
abbrev pub saved_seen : (Frame → Frame) → Option Seen → Option Seen
saved_seen g none = none
saved_seen g (some x) = some (record { state = x.state; words = x.words; frames = map g x.frames; waits = x.waits; most_words = x.most_words; most_frames = x.most_frames; closing = x.closing; signal = x.signal; result = x.result })

abbrev pub each_seen : (Frame → Frame) → View → View
each_seen g v = record { stack = v.stack; frames = map g v.frames; chain = v.chain; coro = λ u. saved_seen g (v.coro u); done = v.done; queue = v.queue; fuel = v.fuel; rules = v.rules; fresh = v.fresh; full = v.full; integer = v.integer; used = v.used }

-- so are the frames that stand on another, and the saved ones
abbrev pub on_others : (Frame → Frame) → List Frame → List Frame
on_others g [] = []
on_others g (f ∷ []) = f ∷ []
on_others g (f ∷ h ∷ fs) = g f ∷ on_others g (h ∷ fs)

abbrev pub bodies_seen : (Frame → Frame) → View → View
bodies_seen g v = record { stack = v.stack; frames = on_others g v.frames; chain = v.chain; coro = λ u. saved_seen g (v.coro u); done = v.done; queue = v.queue; fuel = v.fuel; rules = v.rules; fresh = v.fresh; full = v.full; integer = v.integer; used = v.used }

pub record RefutedBy : Type 0 where
  pub says : RefutedOn by (λ e a r. entry a.c r.driver r.sent r.pc) (λ e a g. whom (e.view a.s) (e.op a.y) ≡ some g) (λ e a r. r.says) grant_resumes

pub record RefutedEntered : Type 0 where
  pub by : RefutedAt entered (λ e a r. r.by) grant_resumes
  pub frames : RefutedOn entered entry_parts (λ e a g. (e.view (e.next a.s a.y)).frames ≡ g.1 ++ (g.2 ∷ at g.0.pc (e.view a.s).frames)) (λ e a r. r.frames) (begins_with (under_top at_one))
  pub stack : RefutedOn entered (λ e a r. r.words) (λ e a g. (e.view (e.next a.s a.y)).stack ≡ (e.view a.s).stack ++ g) (λ e a r. r.stack) (beginning fourth_word5)
  pub its_own : RefutedOn entered stands (λ e a g. g.body.cont ≡ Cont.Coro) (λ e a r. r.its_own) (seeing (each_seen discards))
  pub body-base : RefutedOn entered stands (λ e a g. g.body.base ≡ length (e.view a.s).stack) (λ e a r. r.body-base) (seeing (bodies_seen higher))
  pub chain : RefutedOn entered (λ e a r. r.by) chain_is (λ e a r. r.chain) (beginning (λ w z. with_chain (map floor0 z.chain) z))
  pub chain-driver : RefutedOn entered (λ e a r. r.by) chain_is (λ e a r. r.chain) (beginning (λ w z. with_chain (map hosted z.chain) z))
  pub chain-outer : RefutedOn entered (λ e a r. r.by) chain_is (λ e a r. r.chain) (beginning (λ w z. with_chain (take 1 z.chain) z))
  pub closing : RefutedOn entered (λ e a r. r.by) closing_is (λ e a r. r.closing) closing_ends
  pub closing-unasked : RefutedOn entered (λ e a r. r.by) closing_is (λ e a r. r.closing) (beginning (λ w z. marked true z.chain z))
  pub saved-words : RefutedOn entered (λ e a r. r.by)
      (λ e a g. let w = e.view a.s in let z = e.view (e.next a.s a.y) in (x : Seen) → w.coro a.c ≡ some x → z.stack ≡ with_sent g.sent z.frames x.waits (w.stack ++ x.words))
      (λ e a r. r.saved-words) (beginning first_word5)
  pub saved-frames : RefutedOn entered stands
      (λ e a g. let w = e.view a.s in (x : Seen) → w.coro a.c ≡ some x → AllMoved 0 (length w.stack) (entered_frames g.by.sent x.frames) (g.over ++ (g.body ∷ [])))
      (λ e a r. r.saved-frames) (begins_with (on_top at_one))

-- ---- what is put back

-- nothing is seen of the chain; no frame is seen; each frame is seen with Discard
abbrev pub unchained : View → View
unchained v = record { stack = v.stack; frames = v.frames; chain = []; coro = v.coro; done = v.done; queue = v.queue; fuel = v.fuel; rules = v.rules; fresh = v.fresh; full = v.full; integer = v.integer; used = v.used }

abbrev pub framed : (List Frame → List Frame) → View → View
framed g v = record { stack = v.stack; frames = g v.frames; chain = v.chain; coro = v.coro; done = v.done; queue = v.queue; fuel = v.fuel; rules = v.rules; fresh = v.fresh; full = v.full; integer = v.integer; used = v.used }

pub record RefutedHeld : Type 0 where
  pub frames : RefutedOn held thirds (λ e a g. (e.view a.s).frames ≡ g.0 ++ (g.1 ∷ g.2)) (λ e a r. r.frames) (seeing (framed (λ fs. [])))
  pub its_own : RefutedOn held splits (λ e a g. g.body.cont ≡ Cont.Coro) (λ e a r. r.its_own) (seeing (framed (map discards)))
  pub chain : RefutedOn held linked (λ e a g. (e.view a.s).chain ≡ record { coro = a.c; floor = length g.0; driver = g.1 } ∷ g.2) (λ e a r. r.chain) (seeing unchained)

-- 01: "moving rows at the first entry and later only changing states": the entry of a suspended one leaves stack and frames
abbrev pub was_suspended : World → List Active → Bool
was_suspended w [] = false
was_suspended w (a ∷ chain) = state_is (view_of w) seen_suspended a.coro

abbrev pub moves_once : Engine
moves_once = entering (λ w z. pick (was_suspended w z.chain) (with_stack w.stack (with_frames w.frames z)) z)

-- where a coroutine is entered again inside a call that it made, so that a callee is on top
abbrev pub callee_on_top : List Frame → Bool
callee_on_top [] = false
callee_on_top (f ∷ fs) = not (is_body f.cont)

abbrev pub entering_called : (World → World → World) → Engine
entering_called f = entering (λ w z. pick (callee_on_top z.frames) (f w z) z)

abbrev pub restores_with : (List Frame → List Frame) → Engine
restores_with g = entering_called (λ w z. with_frames (g z.frames) z)

-- who leaves has something else saved, and is entered with that: function 0 in its top frame; 5 for its first word
abbrev pub left_with : (Core → Core) → List Active → World → World
left_with g [] z = z
left_with g (a ∷ chain) z = change_coro a.coro g (λ r. r) z

abbrev pub saves_with : (Core → Core) → Engine
saves_with g = exiting (λ w z. left_with g w.chain z)

abbrev pub top_of_zero : Core → Core
top_of_zero k = record { state = k.state; regs = k.regs; frames = on_top of_zero k.frames; waiting = k.waiting }

abbrev pub first_of5 : Core → Core
first_of5 k = record { state = k.state; regs = set k.regs 0 5; frames = k.frames; waiting = k.waiting }

pub record RefutedRestored : Type 0 where
  pub held : RefutedAt restored (λ e a r. r.held) (seeing unchained)
  -- a grant makes of c one that has not begun
  pub suspended : RefutedAt restored (λ e a r. r.suspended) (leaving_at Altered.grant (λ w z. making c CoroState.Created z))
  pub entered : RefutedAt restored (λ e a r. r.entered) moves_once
  pub moved : RefutedOn restored R.held_and_stands (frames_are AllMoved) (λ e a r. r.moved) (saves_with top_of_zero)
  pub moved-rest : RefutedOn restored R.held_and_stands (frames_are AllMoved) (λ e a r. r.moved) (restores_with (on_second higher))
  pub words : RefutedOn restored R.held_and_stands words_are (λ e a r. r.words) (saves_with first_of5)

pub record RefutedMoved : Type 0 where
  pub func : RefutedAtFrame (λ b h f g m. m.func) (restores_with (on_top of_zero))
  pub pc : RefutedAtFrame (λ b h f g m. m.pc) (restores_with (on_top at_one))
  pub base : RefutedAtFrame (λ b h f g m. m.base) (restores_with (on_top higher))
  pub closure : RefutedAtFrame (λ b h f g m. m.closure) (restores_with (map without_closure))
  pub cont : RefutedAtFrame (λ b h f g m. m.cont) (restores_with (on_top discards))

-- ---- what is left

pub record RefutedLeftBelow : Type 0 where
  pub by : RefutedAt left (λ e a r. r.by) grant_resumes
  pub under : RefutedOn left (λ e a r. r.by) under_is (λ e a r. r.under) (exiting fourth_word5)
  -- the stack is left as it has to be: the calling frame's pc steps twice; the frames under that one are a word higher
  pub under-caller : RefutedOn left (λ e a r. r.by) under_is (λ e a r. r.under) (exiting (λ w z. with_frames (on_top further z.frames) z))
  pub under-frames : RefutedOn left (λ e a r. r.by) under_is (λ e a r. r.under) (exiting (λ w z. with_frames (under_top higher z.frames) z))
  -- who leaves stays in the chain
  pub chain : RefutedAt left (λ e a r. r.chain) (exiting (λ w z. with_chain w.chain z))

pub record RefutedDemand3 : Type 0 where
  pub entered : Refuted Demand3 (λ e v. v.entered) grant_resumes
  pub restored : Refuted Demand3 (λ e v. v.restored) moves_once
  pub untouched : Refuted Demand3 (λ e v. v.untouched) (exiting fourth_word5)

-- ---- more of them

-- a core with what a coroutine has saved
abbrev pub saved_by : Coroutine → Core → Core
saved_by Absent k = k
saved_by (Is j r) k = record { state = k.state; regs = j.regs; frames = j.frames; waiting = k.waiting }

-- an entry of c, while c and d are suspended, reads d's row: what d saved is put on the stack, and d stays suspended
abbrev pub reads_row_of : ℕ → ℕ → Engine
reads_row_of c d =
    leaving (λ w k. let z = (step w k).world in
    pick (state_is (view_of w) seen_suspended c && state_is (view_of w) seen_suspended d && state_is (view_of z) seen_running c) (step (change_coro c (saved_by (coro w d)) (λ r. r) w) k).world z)

-- where d is suspended while c is, what they saved is exchanged
abbrev pub exchanges_rows : ℕ → ℕ → Engine
exchanges_rows c d =
    leaving (λ w k. let z = (step w k).world in
    pick (state_is (view_of w) seen_suspended c && state_is (view_of w) seen_running d && state_is (view_of z) seen_suspended d) (change_coro c (saved_by (coro z d)) (λ r. r) (change_coro d (saved_by (coro z c)) (λ r. r) z)) z)

abbrev pub tail : List Frame → List Frame
tail [] = []
tail (f ∷ fs) = fs

-- it knows whether a call has suspended anybody: before that, a suspended one is entered with 5 for its first word. So it is `step` in every list
-- in which a call suspended whoever is entered again
pub record Counting : Type 0 where
  pub world : World
  pub saw : Bool

abbrev pub restores_if_seen : Engine
restores_if_seen =
    record {
      State = Counting;
      Call = Call;
      op = model_op;
      asks = model_asks;
      view = λ s. view_of s.world;
      next = λ s k. let w = s.world in let z = (step w k).world in record {
        world = pick (ltb (length w.chain) (length z.chain) && was_suspended w z.chain && not s.saw) (first_word5 w z) z;
        saw = s.saw || ltb (length z.chain) (length w.chain);
      };
      refuel = λ s f. record { world = with_fuel f s.world; saw = s.saw };
      number = λ s k. number_of (step s.world k).answer;
      look = λ s. looks s.world;
    }

pub record WrongRestored : Type 0 where
  pub others-registers : Demand3 (reads_row_of c d) → ⊥
  pub rows-exchanged : Demand3 (exchanges_rows c d) → ⊥
  pub top-dropped : Demand3 (restores_with tail) → ⊥
  pub stepped-twice : Demand3 (restores_with (on_top further)) → ⊥
  pub sleeper-gets-others : Demand3 restores_if_seen → ⊥
