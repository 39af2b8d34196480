-- Moves of the stack and the frames, and what they keep: a pc stored, a register written, a frame pushed or popped.
use mathlib.Core.Path.{◌≡◌, refl, sym, ap, ◌∙◌, subst}
use mathlib.Core.Bool.{Bool, true, false, not, ◌&&◌, ◌||◌}
use mathlib.Core.List.{List, [], ◌∷◌, ◌++◌}
use Prim.Native.Nat.{ℕ, ◌+◌, ◌%◌, ◌^◌, ◌≤◌, ◌<◌}
use native.Mathlib.Omega.{arith}
use lib.ListN.{length, take, replicate, length-append, length-set, length-replicate}
use lib.Seq.{length-take-le}
use lib.Dec.{ltb, leb}
use borrow.Author.Tests.{ltb-true, lt-ltb}
use Rattle.model.specs.Lists.{is_nil, each}
use Rattle.model.specs.Program.{Setup, func, no_func, is_function, function_ok, handler_ok}
use Rattle.model.specs.World.{World, with_stack, with_frames}
use Rattle.model.specs.Frames.{is_entry, is_coro, frame, set_pc, step_pc, on_top, put_at, put_reg, store_pc, next_pc, pop_to}
use Rattle.model.specs.Sound.{cont_lies}
use Rattle.model.specs.declared.machine.Cont.{Cont}
use Rattle.model.specs.declared.machine.Frame.{Frame}
use Rattle.model.specs.declared.machine.Active.{Active}
use Rattle.model.specs.declared.program.Handler.{Handler}
use Rattle.claims_sound.specs.Exact.{rooted}
use Rattle.claims_sound.proofs.Tests.{no_true, and_left, and_right, both, each-imp, each_at}
use Rattle.claims_sound.proofs.Stand.{Fits, Stands, ground, plain, body}
use Rattle.claims_sound.proofs.Sound.{Tower, Sound, Facts}

-- ---- the top frame's pc

length-top : (g : Frame → Frame) (fs : List Frame) → length (on_top g fs) ≡ length fs
length-top g [] = refl
length-top g (f ∷ fs) = refl

module _ {s : Setup} (pc : Frame → ℕ) (in-range : (f : Frame) → ltb (pc f) (2 ^ 32) ≡ true) where
  fits-pc : {ex : Bool} {n : ℕ} {f : Frame} {fs : List Frame} → Fits ex s n f fs → Fits ex s n (set_pc (pc f) f) fs
  fits-pc {n} {f} {fs} t = record { within = t.within; named = both (and_left (is_function s f.func) _ t.named) (in-range f); lies = t.lies; catch = t.catch; wide = t.wide; root = t.root }

  stands-pc : {ex : Bool} {n : ℕ} {fs : List Frame} {chain : List Active} → Stands ex s n fs chain → Stands ex s n (on_top (λ f. set_pc (pc f) f) fs) chain
  stands-pc (ground z) = ground z
  stands-pc (plain q e t r) = plain q e (fits-pc t) r
  stands-pc (body q t k d r) = body q (fits-pc t) k d r

  pub tower-pc : {ex : Bool} {stack : List ℕ} {frames : List Frame} {chain : List Active} → Tower ex s stack frames chain → Tower ex s stack (on_top (λ f. set_pc (pc f) f) frames) chain
  tower-pc {stack} {frames} {chain} t =
      record { depth = subst (λ n. n ≤ s.limits.depth) (sym (length-top (λ f. set_pc (pc f) f) frames)) t.depth; height = t.height; stands = stands-pc t.stands }

-- ---- a register

pub tower-stack : {ex : Bool} {s : Setup} {stack stack' : List ℕ} {frames : List Frame} {chain : List Active} → length stack' ≡ length stack → Tower ex s stack frames chain → Tower ex s stack' frames chain
tower-stack {ex} {s} {stack} {stack'} {frames} {chain} e t =
    record { depth = t.depth; height = subst (λ n. n ≤ s.limits.stack) (sym e) t.height; stands = subst (λ n. Stands ex s n frames chain) (sym e) t.stands }

pub length-put_at : (fs : List Frame) (r v : ℕ) (xs : List ℕ) → length (put_at fs r v xs) ≡ length xs
length-put_at [] r v xs = refl
length-put_at (f ∷ fs) r v xs = length-set xs (f.base + r) v

-- ---- on worlds

-- the stack and the frames replaced
pub tower-move : {ex : Bool} (w : World) (stack : List ℕ) (frames : List Frame) → Sound ex w → Tower ex w.setup stack frames w.chain → Sound ex (with_stack stack (with_frames frames w))
tower-move w stack frames h t =
    record { setup = h.setup; tower = t; heap = h.heap; tasks = h.tasks; cleanups = h.cleanups; room = h.room; banked = h.banked; outcome = h.outcome }

pub store-sound : {ex : Bool} (pc : ℕ) (w : World) → ltb pc (2 ^ 32) ≡ true → Sound ex w → Sound ex (store_pc pc w)
store-sound pc w e h = tower-move w w.stack (on_top (set_pc pc) w.frames) h (tower-pc (λ f. pc) (λ f. e) h.tower)

step_range : (f : Frame) → ltb ((f.pc + 1) % 2 ^ 32) (2 ^ 32) ≡ true
step_range f = lt-ltb ((f.pc + 1) % 2 ^ 32) (2 ^ 32) (omega arith)

pub next-sound : {ex : Bool} (w : World) → Sound ex w → Sound ex (next_pc w)
next-sound w h = tower-move w w.stack (on_top step_pc w.frames) h (tower-pc (λ f. (f.pc + 1) % 2 ^ 32) step_range h.tower)

pub put-sound : {ex : Bool} (r v : ℕ) (w : World) → Sound ex w → Sound ex (put_reg r v w)
put-sound r v w h = tower-move w (put_at w.frames r v w.stack) w.frames h (tower-stack (length-put_at w.frames r v w.stack) h.tower)

-- ---- a frame pushed

-- the catch registers of a function lie among its registers
catches-fit : (hs : List Handler) (b n : ℕ) → each (handler_ok n) hs ≡ true → each (λ h. ltb (b + h.catch) (b + n)) hs ≡ true
catches-fit hs b n e =
    each-imp (handler_ok n) (λ (h : Handler). ltb (b + h.catch) (b + n))
    (λ x q. lt-ltb (b + x.catch) (b + n) (let z = ltb-true x.catch n (first x q) in omega arith)) hs e
  where
    first : (x : Handler) → handler_ok n x ≡ true → ltb x.catch n ≡ true
    first x q =
        and_left (ltb x.catch n) (ltb x.start (2 ^ 32)) (and_left (ltb x.catch n && ltb x.start (2 ^ 32)) (ltb x.end (2 ^ 32)) (and_left (ltb x.catch n && ltb x.start (2 ^ 32) && ltb x.end (2 ^ 32)) (ltb x.target (2 ^ 32)) q))

-- a function's record is in order
pub function-ok : (s : Setup) (f : ℕ) → Facts s → is_function s f ≡ true → function_ok (func s f) ≡ true
function-ok s f k e = each_at function_ok s.functions f no_func k.functions (ltb-true f (length s.functions) e)

pub handlers-ok : (s : Setup) (f : ℕ) → Facts s → is_function s f ≡ true → each (handler_ok (func s f).regs) (func s f).handlers ≡ true
handlers-ok s f k e =
    let g = func s f in
    and_right (leb g.regs 256 && leb g.params g.regs && leb (length g.handlers) 8) (each (handler_ok g.regs) g.handlers) (function-ok s f k e)

-- a new frame over fs, at word b, with the registers of its function
pub fits-new : {ex : Bool} (s : Setup) (f b closure : ℕ) (cont : Cont) (fs : List Frame) → Facts s → is_function s f ≡ true → cont_lies cont b fs ≡ true → rooted cont fs ≡ true → Fits ex s (b + (func s f).regs) (frame f b closure cont) fs
fits-new s f b closure cont fs k e l rt =
    record { within = omega arith; named = both e refl; lies = l; catch = catches-fit (func s f).handlers b (func s f).regs (handlers-ok s f k e); wide = λ _. refl; root = λ _. rt }

pub tower-push : {ex : Bool} {s : Setup} {stack : List ℕ} {frames : List Frame} {chain : List Active} (f closure : ℕ) (cont : Cont) → Facts s → Tower ex s stack frames chain → is_function s f ≡ true → is_coro cont ≡ false
    → (not (is_entry cont) || is_nil frames) ≡ true → cont_lies cont (length stack) frames ≡ true → rooted cont frames ≡ true → length frames < s.limits.depth → length stack + (func s f).regs ≤ s.limits.stack
    → Tower ex s (stack ++ replicate (func s f).regs 0) (frame f (length stack) closure cont ∷ frames) chain
tower-push {ex} {s} {stack} {frames} {chain} f closure cont k t e q i l rt d h =
    let n = (func s f).regs in
    let len : length (stack ++ replicate n 0) ≡ length stack + n = length-append stack (replicate n 0) ∙ ap (λ m. length stack + m) (length-replicate n 0) in
    record {
      depth = d;
      height = subst (λ m. m ≤ s.limits.stack) (sym len) h;
      stands = subst (λ m. Stands ex s m (frame f (length stack) closure cont ∷ frames) chain) (sym len) (plain q i (fits-new s f (length stack) closure cont frames k e l rt) t.stands);
    }

-- ---- a frame popped

pub stands-pop : {ex : Bool} {s : Setup} {n : ℕ} {f : Frame} {fs : List Frame} {chain : List Active} → is_coro f.cont ≡ false → Stands ex s n (f ∷ fs) chain → Stands ex s f.base fs chain
stands-pop c (plain q e t r) = r
stands-pop c (body q t k d r) = no_true (sym q ∙ c)

pub stands-within : {ex : Bool} {s : Setup} {n : ℕ} {f : Frame} {fs : List Frame} {chain : List Active} → Stands ex s n (f ∷ fs) chain → Fits ex s n f fs
stands-within (plain q e t r) = t
stands-within (body q t k d r) = t

-- the stack up to a base at which frames stand
pub tower-take : {ex : Bool} {s : Setup} {stack : List ℕ} {frames : List Frame} {chain : List Active} (b : ℕ) → Tower ex s stack frames chain → b ≤ length stack → (fs : List Frame) (rest : List Active)
    → length fs ≤ length frames → Stands ex s b fs rest → Tower ex s (take b stack) fs rest
tower-take {ex} {s} {stack} b t l fs rest m r =
    let len : length (take b stack) ≡ b = length-take-le b stack l in
    let d = t.depth in
    let h = t.height in
    record { depth = omega arith; height = omega arith; stands = subst (λ n. Stands ex s n fs rest) (sym len) r }

pub tower-pop : {ex : Bool} {s : Setup} {stack : List ℕ} {f : Frame} {fs : List Frame} {chain : List Active} → is_coro f.cont ≡ false → Tower ex s stack (f ∷ fs) chain → Tower ex s (take f.base stack) fs chain
tower-pop {s} {stack} {f} {fs} {chain} c t = tower-take f.base t (stands-within t.stands).within fs chain (omega arith) (stands-pop c t.stands)

pub pop-sound : {ex : Bool} (f : Frame) (fs : List Frame) (w : World) → w.frames ≡ f ∷ fs → is_coro f.cont ≡ false → Sound ex w → Sound ex (pop_to f fs w)
pop-sound {ex} f fs w e c h = tower-move w (take f.base w.stack) fs h (tower-pop c (subst (λ x. Tower ex w.setup w.stack x w.chain) e h.tower))
