-- The test of a set-up is 01's closing list, rule by rule. Assumes nothing.
use Prim.Native.Nat.{ℕ, zero, suc, ◌^◌, ◌<◌}
use native.Mathlib.Omega.{arith}
use mathlib.Core.Path.{◌≡◌, refl}
use mathlib.Core.Bool.{Bool, true, ◌&&◌}
use mathlib.Core.List.{List, [], ◌∷◌}
use lib.ListN.{length, get_or}
use lib.Dec.{ltb, leb}
use borrow.Author.Tests.{leb-true, ltb-true, le-leb, lt-ltb}
use Rattle.std.specs.Prelude.{Option, Some, None}
use Rattle.model.specs.Lists as Lists
use Rattle.model.specs.Lists.{each_first, each-rest}
use Rattle.model.specs.Program.{Func, Setup, no_func, func, is_function, between, limits_ok, costs_ok, handler_ok, function_ok, hook_ok, setup_ok}
use Rattle.model.specs.ClosingList.{Within, All, HandlerFits, FunctionFits, HasRegister, HookFits, ClosingList}
use Rattle.model.specs.declared.program.Handler.{Handler}
use Rattle.model.proofs.Tests.{and_left, and_right}

four : (a b c d : Bool) → (a && b && c && d) ≡ true → (a ≡ true) × (b ≡ true) × (c ≡ true) × (d ≡ true)
four a b c d h = let i = and_left (a && b && c) d h in (and_left a b (and_left (a && b) c i), and_right a b (and_left (a && b) c i), and_right (a && b) c i, and_right (a && b && c) d h)

five : (a b c d e : Bool) → (a && b && c && d && e) ≡ true → (a ≡ true) × (b ≡ true) × (c ≡ true) × (d ≡ true) × (e ≡ true)
five a b c d e h = let (p, q, r, t) = four a b c d (and_left (a && b && c && d) e h) in (p, q, r, t, and_right (a && b && c && d) e h)

six : (a b c d e f : Bool) → (a && b && c && d && e && f) ≡ true → (a ≡ true) × (b ≡ true) × (c ≡ true) × (d ≡ true) × (e ≡ true) × (f ≡ true)
six a b c d e f h = let (p, q, r, t, u) = five a b c d e (and_left (a && b && c && d && e) f h) in (p, q, r, t, u, and_right (a && b && c && d && e) f h)

-- ---- ranges and lists

within : (a b n : ℕ) → between a b n ≡ true → Within a b n
within a b n h = (leb-true a n (and_left (leb a n) (leb n b) h), leb-true n b (and_right (leb a n) (leb n b) h))

within-back : (a b n : ℕ) → Within a b n → between a b n ≡ true
within-back a b n h = λ i. le-leb a n h.0 i && le-leb n b h.1 i

module _ {A : Type 0} (p : A → Bool) (P : A → Type 0) where
  all : ((x : A) → p x ≡ true → P x) → (xs : List A) → Lists.each p xs ≡ true → All P xs
  all f [] h = tt
  all f (x ∷ xs) h = (f x (each_first p x xs h), all f xs (each-rest p x xs h))

  all_back : ((x : A) → P x → p x ≡ true) → (xs : List A) → All P xs → Lists.each p xs ≡ true
  all_back f [] h = refl
  all_back f (x ∷ xs) h = λ i. f x h.0 i && all_back f xs h.1 i

-- ---- functions

handler-fits : (regs : ℕ) (h : Handler) → handler_ok regs h ≡ true → HandlerFits regs h
handler-fits regs h q =
    let (a, b, c, d) = four (ltb h.catch regs) (ltb h.start (2 ^ 32)) (ltb h.end (2 ^ 32)) (ltb h.target (2 ^ 32)) q in
    record { catch = ltb-true h.catch regs a; start = ltb-true h.start (2 ^ 32) b; end = ltb-true h.end (2 ^ 32) c; target = ltb-true h.target (2 ^ 32) d }

handler-back : (regs : ℕ) (h : Handler) → HandlerFits regs h → handler_ok regs h ≡ true
handler-back regs h q = λ i. lt-ltb h.catch regs q.catch i && lt-ltb h.start (2 ^ 32) q.start i && lt-ltb h.end (2 ^ 32) q.end i && lt-ltb h.target (2 ^ 32) q.target i

function-fits : (f : Func) → function_ok f ≡ true → FunctionFits f
function-fits f q =
    let (a, b, c, d) = four (leb f.regs 256) (leb f.params f.regs) (leb (length f.handlers) 8) (Lists.each (handler_ok f.regs) f.handlers) q in
    record {
      registers = leb-true f.regs 256 a;
      parameters = leb-true f.params f.regs b;
      eight = leb-true (length f.handlers) 8 c;
      handlers = all (handler_ok f.regs) (HandlerFits f.regs) (handler-fits f.regs) f.handlers d;
    }

function-back : (f : Func) → FunctionFits f → function_ok f ≡ true
function-back f q =
    let d = all_back (handler_ok f.regs) (HandlerFits f.regs) (handler-back f.regs) f.handlers q.handlers in
    λ i. le-leb f.regs 256 q.registers i && le-leb f.params f.regs q.parameters i && le-leb (length f.handlers) 8 q.eight i && d i

-- ---- the hook

has-register : (fs : List Func) (n : ℕ) → n < length fs → 0 < (get_or fs n no_func).regs → HasRegister fs n
has-register [] n l r = absurd (omega (arith, l))
has-register (f ∷ fs) zero l r = r
has-register (f ∷ fs) (suc n) l r = has-register fs n (omega (arith, l)) r

register-back : (fs : List Func) (n : ℕ) → HasRegister fs n → (n < length fs) × (0 < (get_or fs n no_func).regs)
register-back [] n h = absurd h
register-back (f ∷ fs) zero h = (omega arith, h)
register-back (f ∷ fs) (suc n) h = let (l, r) = register-back fs n h in (omega (arith, l), r)

hook-fits : (s : Setup) (h : Option ℕ) → hook_ok s h ≡ true → HookFits h s.functions
hook-fits s None q = tt
hook-fits s (Some n) q = has-register s.functions n (ltb-true n (length s.functions) (and_left (is_function s n) (ltb 0 (func s n).regs) q)) (ltb-true 0 (func s n).regs (and_right (is_function s n) (ltb 0 (func s n).regs) q))

hook-back : (s : Setup) (h : Option ℕ) → HookFits h s.functions → hook_ok s h ≡ true
hook-back s None q = refl
hook-back s (Some n) q = let (l, r) = register-back s.functions n q in λ i. lt-ltb n (length s.functions) l i && lt-ltb 0 (func s n).regs r i

-- ---- the whole list

pub allowed : (s : Setup) → setup_ok s ≡ true → ClosingList s
unfolding setup_ok
allowed s h =
    let n = length s.functions in
    let l = s.limits in
    let o = s.costs in
    let (a, b, c, d, e, f) = six (limits_ok l) (costs_ok o) (between 1 32 n) (leb n l.slots) (Lists.each function_ok s.functions) (hook_ok s s.hook) h in
    let (p, q, r, t, m) = five (between 1 128 l.depth) (between 1 1024 l.stack) (between 1 64 l.rows) (between 1 4096 l.slots) (ltb l.memory (2 ^ 64)) a in
    let (u, v, w, x, y, z) = six (leb o.frame 65536) (leb o.coro 65536) (leb o.object 65536) (leb o.int 65536) (leb o.error 65536) (leb o.iter 65536) b in
    record {
      depth = within 1 128 l.depth p;
      stack = within 1 1024 l.stack q;
      rows = within 1 64 l.rows r;
      slots = within 1 4096 l.slots t;
      enough = leb-true n l.slots d;
      functions = within 1 32 n c;
      each = all function_ok FunctionFits function-fits s.functions e;
      hook = hook-fits s s.hook f;
      frame-cost = leb-true o.frame 65536 u;
      coro-cost = leb-true o.coro 65536 v;
      object-cost = leb-true o.object 65536 w;
      int-cost = leb-true o.int 65536 x;
      error-cost = leb-true o.error 65536 y;
      iter-cost = leb-true o.iter 65536 z;
      memory = ltb-true l.memory (2 ^ 64) m;
    }

pub accepted : (s : Setup) → ClosingList s → setup_ok s ≡ true
unfolding setup_ok
accepted s q =
    let n = length s.functions in
    let l = s.limits in
    let o = s.costs in
    let limits : limits_ok l ≡ true =
    λ i. within-back 1 128 l.depth q.depth i && within-back 1 1024 l.stack q.stack i && within-back 1 64 l.rows q.rows i && within-back 1 4096 l.slots q.slots i && lt-ltb l.memory (2 ^ 64) q.memory i in
    let costs : costs_ok o ≡ true =
    λ i. le-leb o.frame 65536 q.frame-cost i && le-leb o.coro 65536 q.coro-cost i && le-leb o.object 65536 q.object-cost i && le-leb o.int 65536 q.int-cost i && le-leb o.error 65536 q.error-cost i && le-leb o.iter 65536 q.iter-cost i in
    let few = within-back 1 32 n q.functions in
    let enough = le-leb n l.slots q.enough in
    let every = all_back function_ok FunctionFits function-back s.functions q.each in
    let hook = hook-back s s.hook q.hook in
    λ i. limits i && costs i && few i && enough i && every i && hook i
