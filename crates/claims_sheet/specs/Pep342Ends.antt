-- PEP 342: a word that is raised, from the top frame down: caught, or let out of a coroutine, or uncaught. The table of sentences is
-- docs/rules/PEP342.md.
use Rattle.std.specs.Prelude.{ℕ, ◌+◌, ◌≡◌, Bool, true, false, not, ◌&&◌, ◌||◌, List, [], ◌∷◌, ◌++◌, eqb, ltb, leb, Option}
use Rattle.lists.specs.Pick.{pick}
use Rattle.heap.specs.Fault.{number_of, word_of}
use Rattle.heap.specs.declared.fault.Fault.{Fault}
use Rattle.model.specs.Lists.{is_nil, each}
use Rattle.model.specs.World.{World, after}
use Rattle.model.specs.Sound.{sound}
use Rattle.model.specs.Call.{typed}
use Rattle.model.specs.declared.program.Handler.{Handler}
use Rattle.model.specs.declared.machine.Cont.{Cont}
use Rattle.model.specs.declared.machine.Frame.{Frame}
use Rattle.model.specs.declared.call.Op.{Op}
use Rattle.model.specs.declared.call.Answer.{Answer}
use Rattle.claims_sheet.specs.Does.{does, operation}
use Rattle.claims_sheet.specs.Words.{lacks_memory, no_slot}
use Rattle.claims_sheet.specs.Moves.{pc_stored, put}
use Rattle.claims_sheet.specs.Charging.{reserve, used_up, bank_back}
use Rattle.claims_sheet.specs.Makings.{new_word, paid}
use Rattle.claims_sheet.specs.Endings.{popped, returned}
use Rattle.claims_sheet.specs.Unwinding.{covering, takers, is_entry, is_body, own_signal, driven, failed, left, given_pc_stored, top_func, top_pc, error_stored}

-- ---- what is raised: 17's word, or the error object of 1 to 8

abbrev pub raises : Fault → Option ℕ → World → Bool
raises e pc w =
    let n = number_of e in
    let z = given_pc_stored pc w in
    sound w && (eqb n 17 || leb 1 n && (leb n 8 && (not (lacks_memory z z.setup.costs.error) && not (no_slot z))))

abbrev pub thrown : Fault → Option ℕ → World → ℕ
thrown e pc w = pick (leb (number_of e) 8) (new_word (given_pc_stored pc w)) (word_of e)

abbrev pub risen : Fault → Option ℕ → World → World
risen e pc w = pick (leb (number_of e) 8) (error_stored (number_of e) (given_pc_stored pc w)) (given_pc_stored pc w)

-- ---- the frames that it leaves: nothing catches there, and it is neither the host's nor the body of a coroutine that stops it

abbrev pub lets : Frame → ℕ → World → Bool
lets x value w = is_nil (takers x w) && (not (is_entry x.cont) && not (is_body x.cont && (own_signal w.chain value w || driven w.chain)))

-- all of `above` are left, one after the other; a coroutine whose body is left is Failed
abbrev pub lets_all : List Frame → List Frame → ℕ → World → Bool
lets_all [] below value w = true
lets_all (x ∷ above) below value w = lets x value w && lets_all above below value (left x (above ++ below) value w)

abbrev pub arrived : List Frame → List Frame → ℕ → World → World
arrived [] below value w = w
arrived (x ∷ above) below value w = arrived above below value (left x (above ++ below) value w)

-- a word is raised, leaves the frames `above`, and comes to frame x over xs in the world u
pub record Comes (e : Fault) (pc : Option ℕ) (w : World) (above : List Frame) (x : Frame) (xs : List Frame) (u : World) : Type 0 where
  pub raised : raises e pc w ≡ true
  pub frames : (risen e pc w).frames ≡ above ++ (x ∷ xs)
  pub through : lets_all above (x ∷ xs) (thrown e pc w) (risen e pc w) ≡ true
  pub arrives : arrived above (x ∷ xs) (thrown e pc w) (risen e pc w) ≡ u

-- the handler covers pc
abbrev pub covers : ℕ → Handler → Bool
covers pc h = leb h.start pc && ltb pc h.end

pub record Ending (e : Fault) (pc : Option ℕ) (w : World) (t : typed (Op.Unwind e pc) ≡ true) (above : List Frame) (x : Frame) (xs : List Frame) (u : World) (comes : Comes e pc w above x xs u) : Type 0 where
  -- a handler takes it: the frame goes on at the handler's target, with the word in its register, for one unit
  pub caught : (h : Handler) (hs : List Handler) → takers x u ≡ h ∷ hs → used_up u ≡ false →
      does w (operation (Op.Unwind e pc) t) ≡ after (put h.catch (thrown e pc w) (pc_stored h.target (paid u))) Answer.Caught
  -- .. or 10: the frames above are gone, and the bank is taken back
  pub caught-unpaid : (h : Handler) (hs : List Handler) → takers x u ≡ h ∷ hs → used_up u ≡ true → does w (operation (Op.Unwind e pc) t) ≡ after (bank_back u) (Answer.Refused Fault.OutOfFuel)
  -- a closing coroutine lets its own signal escape: Returned with nil, which is delivered, and the search ends
  pub signal-escapes : is_nil (takers x u) ≡ true → x.cont ≡ Cont.Coro → own_signal u.chain (thrown e pc w) u ≡ true →
      does w (operation (Op.Unwind e pc) t) ≡ after (returned u.chain 0 (popped x xs u)) Answer.Stopped
  -- any other escape from one that the host or a cleanup drives: Failed; the host finds it as the outcome, a cleanup ends
  pub escapes-driven : is_nil (takers x u) ≡ true → x.cont ≡ Cont.Coro → own_signal u.chain (thrown e pc w) u ≡ false → driven u.chain ≡ true →
      does w (operation (Op.Unwind e pc) t) ≡ after (failed u.chain (thrown e pc w) (top_func (risen e pc w).frames) (top_pc (risen e pc w).frames) (popped x xs u)) Answer.Stopped
  -- nobody catches: 17 with the word
  pub uncaught : is_nil (takers x u) ≡ true → x.cont ≡ Cont.Entry → does w (operation (Op.Unwind e pc) t) ≡ after (popped x xs u) (Answer.Refused (Fault.Throw (thrown e pc w)))

pub record Handlers : Type 0 where
  -- "the first in program order with start ≤ pc < end"
  pub first : (pc : ℕ) (before : List Handler) (h : Handler) (hs : List Handler) → each (λ x. not (covers pc x)) before ≡ true → covers pc h ≡ true → covering pc (before ++ (h ∷ hs)) ≡ h ∷ hs
  pub none : (pc : ℕ) (hs : List Handler) → each (λ x. not (covers pc x)) hs ≡ true → covering pc hs ≡ []
  -- one unit
  pub one_unit : (w : World) → sound w ≡ true → used_up w ≡ false → reserve (paid w) + 1 ≡ reserve w
