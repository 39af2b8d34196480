-- PEP 342: a coroutine that was sent to, thrown into or closed yields, awaits or returns, whoever drives it. The table of PEP 342's
-- sentences is docs/rules/PEP342.md.
use Rattle.std.specs.Prelude.{ℕ, ◌≡◌, Bool, true, false, not, ◌&&◌, List, [], ◌∷◌}
use Rattle.heap.specs.Coding.{in_range}
use Rattle.heap.specs.declared.fault.Fault.{Fault}
use Rattle.heap.specs.declared.heap.ResultKind.{ResultKind}
use Rattle.model.specs.Lists.{is_nil}
use Rattle.model.specs.World.{World, after}
use Rattle.model.specs.Sound.{sound}
use Rattle.model.specs.Call.{typed}
use Rattle.model.specs.declared.machine.Cont.{Cont}
use Rattle.model.specs.declared.machine.Driver.{Driver}
use Rattle.model.specs.declared.machine.Frame.{Frame}
use Rattle.model.specs.declared.machine.Stop.{Stop}
use Rattle.model.specs.declared.exec.Step.{Step}
use Rattle.model.specs.declared.call.Op.{Op}
use Rattle.model.specs.declared.call.Answer.{Answer}
use Rattle.claims_sheet.specs.Does.{does, operation}
use Rattle.claims_sheet.specs.Words.{lacks_memory, no_slot}
use Rattle.claims_sheet.specs.Moves.{pc_stored}
use Rattle.claims_sheet.specs.Charging.{charged}
use Rattle.claims_sheet.specs.Suspending.{innermost_active, rest_here, growth, asks, is_loop, delivered}
use Rattle.claims_sheet.specs.Yields.{next_key, key_bits, is_large, keyed, key_word, integer_of, raised_largest, suspended_by_yield, suspended_by_await}
use Rattle.claims_sheet.specs.Endings.{popped, too_large, is_object, converted, dynamic, returned}
use Rattle.claims_sheet.specs.Sheet.{lie}
use Rattle.claims_sheet.specs.Pep342.{pays, leaves, held}

-- a coroutine runs, and its suspension can be paid for in z
abbrev pub suspends : World → Bool
suspends z = not (is_nil z.chain) && not (lacks_memory z (growth z))

-- .. and is being closed, or not
abbrev pub closing : World → Bool
closing z = (rest_here z).closing

abbrev pub driver : World → Driver
driver z = (innermost_active z.chain).driver

-- the key can be made: it is in range, and inline, or there is memory and a slot for it
abbrev pub keyable : World → Bool
keyable u = in_range 63 (next_key u) && (not (is_large (key_bits u) && lacks_memory u u.setup.costs.int) && not (is_large (key_bits u) && no_slot u))

-- what a yield of `payload` comes to, from z in which its key is made, whoever drives it: "Resume .. Iterator .. Host .. Cleanup driver"
pub record Yields (pc dst payload key largest : ℕ) (z : World) (Ends : World → Step → Type 0) : Type 0 where
  -- the yielded word is what send, throw or close leaves in its register, a loop in its own, a run by the host as its outcome
  pub yield-delivers : closing z ≡ false → Ends (delivered (driver z) payload key (Stop.Yielded payload) (suspended_by_yield dst payload key largest z)) Step.Frame
  -- but where it is being closed that is an error: 6, raised in whoever closes it
  pub yield-closing : closing z ≡ true → asks (driver z) ≡ true → Ends (suspended_by_yield dst payload key largest z) (Step.Unwind Fault.CloseIgnored)
  -- the host finds it as the outcome; a cleanup ends
  pub yield-closing-quiet : closing z ≡ true → asks (driver z) ≡ false → Ends (delivered (driver z) payload key Stop.CloseIgnored (suspended_by_yield dst payload key largest z)) Step.Frame

pub record Yielding : Type 0 where
  pub yields : (pc dst src : ℕ) (w : World) (t : typed (Op.Yield pc dst src) ≡ true) → let u = charged pc w in
      pays pc (lie (dst ∷ src ∷ []) w) w ≡ true → not (is_nil u.chain) && keyable u ≡ true → suspends (pc_stored pc (keyed u)) ≡ true →
      Yields pc dst (held src pc w) (key_word u) (key_bits u) (pc_stored pc (keyed u)) (λ v s. does w (operation (Op.Yield pc dst src) t) ≡ leaves pc w v s)
  pub yields-kv : (pc dst src key : ℕ) (w : World) (t : typed (Op.YieldKv pc dst src key) ≡ true) → let u = charged pc w in
      pays pc (lie (dst ∷ src ∷ key ∷ []) w) w ≡ true → suspends (pc_stored pc u) ≡ true →
      Yields pc dst (held src pc w) (held key pc w) (raised_largest (rest_here u).largest (integer_of u (held key pc w))) (pc_stored pc u) (λ v s. does w (operation (Op.YieldKv pc dst src key) t) ≡ leaves pc w v s)
  -- an await is delivered too, and stays closing; in a loop: 2
  pub await-delivers : (pc dst src : ℕ) (w : World) (t : typed (Op.Await pc dst src) ≡ true) → let z = pc_stored pc (charged pc w) in let p = held src pc w in
      pays pc (lie (dst ∷ src ∷ []) w) w ≡ true → suspends z ≡ true → is_loop (driver z) ≡ false →
      does w (operation (Op.Await pc dst src) t) ≡ leaves pc w (delivered (driver z) p 0 (Stop.Awaiting p) (suspended_by_await dst p z)) Step.Frame
  pub await-in-loop : (pc dst src : ℕ) (w : World) (t : typed (Op.Await pc dst src) ≡ true) → let z = pc_stored pc (charged pc w) in
      pays pc (lie (dst ∷ src ∷ []) w) w ≡ true → suspends z ≡ true → is_loop (driver z) ≡ true →
      does w (operation (Op.Await pc dst src) t) ≡ leaves pc w (suspended_by_await dst (held src pc w) z) (Step.Unwind Fault.TypeError)
  -- a returned result of any kind, as a word, is what whoever drives it gets
  pub return-delivers : (kind : ResultKind) (v : ℕ) (w : World) (t : typed (Op.Finish kind v) ≡ true) (x : Frame) (xs : List Frame) → sound w ≡ true → w.frames ≡ x ∷ xs → x.cont ≡ Cont.Coro →
      too_large kind v ≡ false → is_object kind v && lacks_memory w w.setup.costs.int ≡ false → is_object kind v && no_slot w ≡ false →
      does w (operation (Op.Finish kind v) t) ≡ after (returned w.chain (dynamic kind v w) (popped x xs (converted kind v w))) Answer.Resume
