-- 01: "Mistakes to keep out. Charging a saved size twice. Writing `has` before `val`. Storing pc before Yield's 5 or 7."
use Rattle.std.specs.Prelude.{ℕ, suc, ◌+◌, ◌≡◌, true, false, List, [], ◌∷◌, ◌++◌, length, drop, set, leb}
use Rattle.heap.specs.Coding.{in_range}
use Rattle.heap.specs.declared.fault.Fault.{Fault}
use Rattle.model.specs.Lists.{is_nil}
use Rattle.model.specs.Object.{Core, Rest, Object}
use Rattle.model.specs.World.{World}
use Rattle.model.specs.Call.{typed}
use Rattle.model.specs.declared.machine.Driver.{Driver}
use Rattle.model.specs.declared.machine.Active.{Active}
use Rattle.model.specs.declared.machine.Frame.{Frame}
use Rattle.model.specs.declared.exec.Step.{Step}
use Rattle.model.specs.declared.call.Op.{Op}
use Rattle.claims_sheet.specs.Does.{does, operation}
use Rattle.claims_sheet.specs.Words.{found, core_of, rest_of, base}
use Rattle.claims_sheet.specs.Charging.{charged}
use Rattle.claims_sheet.specs.Yields.{next_key}
use Rattle.claims_sheet.specs.Sheet.{lie}
use Rattle.claims_sheet.specs.Pep342.{pays, leaves, at, held, enters, any_suspended, Passes}
use Rattle.claims_sheet.specs.Pep342Yields.{suspends, closing, driver}

-- the innermost coroutine has the rest r, and its Coro frame, with all frames above it, m words and n frames
pub record Runs (w : World) (r : Rest) (m n : ℕ) : Type 0 where
  pub active : Active
  pub outer : List Active
  pub core : Core
  pub over : List Frame
  pub body : Frame
  pub under : List Frame
  pub chain : w.chain ≡ active ∷ outer
  pub its_own : found w active.coro ≡ Object.Coro core r
  pub stands : w.frames ≡ over ++ (body ∷ under)
  pub floor : active.floor ≡ length under
  pub words : length (drop body.base w.stack) ≡ m
  pub frames : suc (length over) ≡ n

-- c is suspended, with no more saved than its largest sizes
pub record Paid (w : World) (c : ℕ) : Type 0 where
  pub core : Core
  pub rest : Rest
  pub found : found w c ≡ Object.Coro core rest
  pub words : leb (length core.regs) rest.maxregs ≡ true
  pub frames : leb (length core.frames) rest.maxframes ≡ true

-- so much is saved, and is among the largest sizes
abbrev pub Among : Core → Rest → Type 0
Among k r = (leb (length k.regs) r.maxregs ≡ true) × (leb (length k.frames) r.maxframes ≡ true)

-- where a frame stands, p and then 1 were written to its register r
abbrev pub LastOne : ℕ → ℕ → World → Type 0
LastOne r p v = is_nil v.frames ≡ false → (xs : List ℕ) × (v.stack ≡ set (set xs (base v.frames + r) p) (base v.frames + r) 1)

pub record Mistakes : Type 0 where
  -- a suspension keeps the sizes that it paid for
  pub size-kept : (pc dst src : ℕ) (w : World) (t : typed (Op.Await pc dst src) ≡ true) → pays pc (lie (dst ∷ src ∷ []) w) w ≡ true → (r : Rest) (m n : ℕ) (h : Runs w r m n) → suspends (at pc w) ≡ true →
      Paid (does w (operation (Op.Await pc dst src) t)).world h.active.coro
  -- and sizes that were paid for cost nothing: a suspension of no more than the largest ones leaves the memory as it was
  pub size-once : (pc dst src : ℕ) (w : World) (t : typed (Op.Await pc dst src) ≡ true) → pays pc (lie (dst ∷ src ∷ []) w) w ≡ true → (r : Rest) (m n : ℕ) → Runs w r m n → leb m r.maxregs ≡ true → leb n r.maxframes ≡ true →
      (does w (operation (Op.Await pc dst src) t)).world.used ≡ w.used
  -- what an entry finds saved is such a size, whatever was recorded
  pub size-entered : (pc dst c src : ℕ) (w : World) → Passes pc dst c src w → (t : typed (Op.Resume pc dst c src) ≡ true) → let v = held c pc w in enters any_suspended v (at pc w) ≡ true →
      Among (core_of (found (at pc w) v)) (rest_of (found (does w (operation (Op.Resume pc dst c src) t)).world v))
  -- a loop's `val` is written first, then `has`: with one register for both, 1 stays
  pub val-first : (pc dst src key : ℕ) (w : World) (t : typed (Op.YieldKv pc dst src key) ≡ true) (r iter : ℕ) → pays pc (lie (dst ∷ src ∷ key ∷ []) w) w ≡ true →
      suspends (at pc w) ≡ true → closing (at pc w) ≡ false → driver (at pc w) ≡ Driver.Iter r r iter →
      LastOne r (held src pc w) (does w (operation (Op.YieldKv pc dst src key) t)).world
  -- 5 and 7 leave what the charge left: the pc is not stored
  pub yield-5 : (pc dst src : ℕ) (w : World) (t : typed (Op.Yield pc dst src) ≡ true) → pays pc (lie (dst ∷ src ∷ []) w) w ≡ true → is_nil (charged pc w).chain ≡ true →
      does w (operation (Op.Yield pc dst src) t) ≡ leaves pc w (charged pc w) (Step.Fault Fault.CannotSuspend)
  pub yield-kv-5 : (pc dst src key : ℕ) (w : World) (t : typed (Op.YieldKv pc dst src key) ≡ true) → pays pc (lie (dst ∷ src ∷ key ∷ []) w) w ≡ true → is_nil (charged pc w).chain ≡ true →
      does w (operation (Op.YieldKv pc dst src key) t) ≡ leaves pc w (charged pc w) (Step.Fault Fault.CannotSuspend)
  pub await-5 : (pc dst src : ℕ) (w : World) (t : typed (Op.Await pc dst src) ≡ true) → pays pc (lie (dst ∷ src ∷ []) w) w ≡ true → is_nil (charged pc w).chain ≡ true →
      does w (operation (Op.Await pc dst src) t) ≡ leaves pc w (charged pc w) (Step.Fault Fault.CannotSuspend)
  pub yield-7 : (pc dst src : ℕ) (w : World) (t : typed (Op.Yield pc dst src) ≡ true) → pays pc (lie (dst ∷ src ∷ []) w) w ≡ true → is_nil (charged pc w).chain ≡ false →
      in_range 63 (next_key (charged pc w)) ≡ false → does w (operation (Op.Yield pc dst src) t) ≡ leaves pc w (charged pc w) (Step.Fault Fault.ArithOverflow)
