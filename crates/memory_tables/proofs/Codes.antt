-- A record's words decode to the record. Assumes nothing.
use Rattle.std.proofs.Common.{◌≡◌, ℕ, zero, suc, ◌+◌, ◌*◌, ◌≤◌, List, [], ◌∷◌, length, get_or, refl, add-zero, arith}
use Rattle.lists.specs.Pick.{pick}
use Rattle.lists.proofs.Tables.{chunk-get}
use Rattle.model.specs.Program.{Func, func_of}
use Rattle.model.specs.declared.machine.Cont.{Cont}
use Rattle.model.specs.declared.machine.Driver.{Driver}
use Rattle.model.specs.declared.machine.Frame.{Frame}
use Rattle.model.specs.declared.machine.Active.{Active}
use Rattle.model.specs.declared.program.Handler.{Handler}
use Rattle.memory_tables.specs.Layout.{cont_code, cont_reg, cont_of, frame_words, frame_of, driver_code, driver_first, driver_second, driver_third, driver_of, active_words, active_of, frame_in, active_in, handlers_words, function_words, function_from}

pub cont-back : (k : Cont) → cont_of (cont_code k) (cont_reg k) ≡ k
unfolding pick
cont-back Cont.Entry = refl
cont-back (Cont.Write r) = refl
cont-back (Cont.Dyn r) = refl
cont-back (Cont.Value r) = refl
cont-back Cont.Discard = refl
cont-back Cont.Coro = refl

pub frame_back : (f : Frame) → frame_of (frame_words f) ≡ f
frame_back f = rw (cont-back f.cont)

pub length-frame : (f : Frame) → length (frame_words f) ≡ 6
length-frame f = refl

pub driver-back : (d : Driver) → driver_of (driver_code d) (driver_first d) (driver_second d) (driver_third d) ≡ d
unfolding pick
driver-back (Driver.Resume r) = refl
driver-back (Driver.Iter has val iter) = refl
driver-back Driver.Host = refl
driver-back Driver.Finalize = refl

pub active-back : (a : Active) → active_of (active_words a) ≡ a
active-back a = rw (driver-back a.driver)

pub length-active : (a : Active) → length (active_words a) ≡ 6
length-active a = refl

-- ---- functions

pub length-handlers : (n : ℕ) (hs : List Handler) → length (handlers_words n hs) ≡ n * 4
length-handlers zero hs = refl
length-handlers (suc n) [] = let e = length-handlers n [] in omega arith
length-handlers (suc n) (h ∷ hs) = let e = length-handlers n hs in omega arith

pub length-function : (f : Func) → length (function_words f) ≡ 35
length-function f = let e = length-handlers 8 f.handlers in omega arith

-- a function of at most eight handlers is what its words decode to
handlers-back : (f : Func) (hs : List Handler) → length hs ≤ 8 → f.handlers ≡ hs → func_of (function_from (function_words f) 0) ≡ f
handlers-back f [] h e = rw e
handlers-back f (h₀ ∷ []) h e = rw e
handlers-back f (h₀ ∷ h₁ ∷ []) h e = rw e
handlers-back f (h₀ ∷ h₁ ∷ h₂ ∷ []) h e = rw e
handlers-back f (h₀ ∷ h₁ ∷ h₂ ∷ h₃ ∷ []) h e = rw e
handlers-back f (h₀ ∷ h₁ ∷ h₂ ∷ h₃ ∷ h₄ ∷ []) h e = rw e
handlers-back f (h₀ ∷ h₁ ∷ h₂ ∷ h₃ ∷ h₄ ∷ h₅ ∷ []) h e = rw e
handlers-back f (h₀ ∷ h₁ ∷ h₂ ∷ h₃ ∷ h₄ ∷ h₅ ∷ h₆ ∷ []) h e = rw e
handlers-back f (h₀ ∷ h₁ ∷ h₂ ∷ h₃ ∷ h₄ ∷ h₅ ∷ h₆ ∷ h₇ ∷ []) h e = rw e
handlers-back f (h₀ ∷ h₁ ∷ h₂ ∷ h₃ ∷ h₄ ∷ h₅ ∷ h₆ ∷ h₇ ∷ h₈ ∷ hs) h e = absurd (omega arith)

pub function-back : (f : Func) → length f.handlers ≤ 8 → func_of (function_from (function_words f) 0) ≡ f
function-back f h = handlers-back f f.handlers h refl

-- ---- records read word by word

pub frame-read : (ws : List ℕ) (i : ℕ) (k : Cont) → k ≡ cont_of (get_or ws (i * 6 + 4) 0) (get_or ws (i * 6 + 5) 0)
    → record { func = get_or ws (i * 6) 0; pc = get_or ws (i * 6 + 1) 0; base = get_or ws (i * 6 + 2) 0; closure = get_or ws (i * 6 + 3) 0; cont = k } ≡ frame_in ws i
frame-read ws i k e =
    rw (
      e,
      chunk-get 6 i 0 ws (omega arith),
      chunk-get 6 i 1 ws (omega arith),
      chunk-get 6 i 2 ws (omega arith),
      chunk-get 6 i 3 ws (omega arith),
      chunk-get 6 i 4 ws (omega arith),
      chunk-get 6 i 5 ws (omega arith),
      add-zero (i * 6),
    )

pub active-read : (ws : List ℕ) (i : ℕ) (d : Driver) → d ≡ driver_of (get_or ws (i * 6 + 2) 0) (get_or ws (i * 6 + 3) 0) (get_or ws (i * 6 + 4) 0) (get_or ws (i * 6 + 5) 0)
    → record { coro = get_or ws (i * 6) 0; floor = get_or ws (i * 6 + 1) 0; driver = d } ≡ active_in ws i
active-read ws i d e =
    rw (
      e,
      chunk-get 6 i 0 ws (omega arith),
      chunk-get 6 i 1 ws (omega arith),
      chunk-get 6 i 2 ws (omega arith),
      chunk-get 6 i 3 ws (omega arith),
      chunk-get 6 i 4 ws (omega arith),
      chunk-get 6 i 5 ws (omega arith),
      add-zero (i * 6),
    )
