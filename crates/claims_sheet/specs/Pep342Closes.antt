-- PEP 342: close() of a coroutine that catches nothing, and throw() into one, whole: two calls, and what the caller then has. It may be
-- suspended inside a function call. The table of sentences is docs/rules/PEP342.md.
use Rattle.std.specs.Prelude.{ℕ, ◌≡◌, true, false, List, ◌∷◌, None}
use Rattle.heap.specs.declared.fault.Fault.{Fault}
use Rattle.heap.specs.declared.object.CoroState.{CoroState}
use Rattle.model.specs.Lists.{is_nil, each}
use Rattle.model.specs.World.{World, after}
use Rattle.model.specs.Sound.{sound}
use Rattle.model.specs.Call.{typed}
use Rattle.model.specs.declared.program.Handler.{Handler}
use Rattle.model.specs.declared.machine.Frame.{Frame}
use Rattle.model.specs.declared.call.Op.{Op}
use Rattle.model.specs.declared.call.Answer.{Answer}
use Rattle.claims_sheet.specs.Does.{does, operation}
use Rattle.claims_sheet.specs.Words.{found, core_of, rest_of}
use Rattle.claims_sheet.specs.Moves.{pc_stored, put, sent, finished_with}
use Rattle.claims_sheet.specs.Charging.{used_up}
use Rattle.claims_sheet.specs.Makings.{paid}
use Rattle.claims_sheet.specs.Unwinding.{takers}
use Rattle.claims_sheet.specs.Pep342.{at, held, enters, any_suspended, Passes}

pub record Closing (pc dst c src : ℕ) (w : World) (passes : Passes pc dst c src w) (is-suspended : enters any_suspended (held c pc w) (at pc w) ≡ true) : Type 0 where
  -- no handler of its frames covers where they stand: once it is closed and its signal raised, it is Returned with nil, which the
  -- caller finds in its register, one instruction on. Nothing else is left of it (that the machine in between is sound is `Promise`'s).
  pub close-uncaught : (t : typed (Op.CoroClose pc dst c src) ≡ true) (s : typed (Op.Unwind (Fault.Throw (held src pc w)) None) ≡ true) →
      let v = held c pc w in let between = (does w (operation (Op.CoroClose pc dst c src) t)).world in
      each (λ f. is_nil (takers f (at pc w))) (core_of (found (at pc w) v)).frames ≡ true → sound between ≡ true →
      does between (operation (Op.Unwind (Fault.Throw (held src pc w)) None) s) ≡ after (sent dst 0 (finished_with v CoroState.Returned 0 (at pc w))) Answer.Stopped
  -- a thrown word falls through it: it is Failed, and the caller's handler takes the word
  pub throw-uncaught : (t : typed (Op.ResumeThrow pc dst c src) ≡ true) (s : typed (Op.Unwind (Fault.Throw (held src pc w)) None) ≡ true) (x : Frame) (xs : List Frame) (h : Handler) (hs : List Handler) →
      let v = held c pc w in let e = held src pc w in let between = (does w (operation (Op.ResumeThrow pc dst c src) t)).world in let u = finished_with v CoroState.Failed e (at pc w) in
      each (λ f. is_nil (takers f (at pc w))) (core_of (found (at pc w) v)).frames ≡ true → (rest_of (found (at pc w) v)).closing ≡ false → sound between ≡ true →
      (at pc w).frames ≡ x ∷ xs → takers x u ≡ h ∷ hs → used_up u ≡ false →
      does between (operation (Op.Unwind (Fault.Throw e) None) s) ≡ after (put h.catch e (pc_stored h.target (paid u))) Answer.Caught
