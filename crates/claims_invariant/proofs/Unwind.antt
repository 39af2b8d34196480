-- push_frame, finish and unwind keep a sound world sound, and none answers 11 but an unwind with no such fault.
use mathlib.Core.Path.{◌≡◌, refl, sym, ap, ◌∙◌, subst}
use mathlib.Core.Bool.{Bool, true, false, not, ◌&&◌, ◌||◌}
use mathlib.Core.List.{List, [], ◌∷◌, ◌++◌}
use Prim.Native.Nat.{ℕ, ◌+◌, ◌^◌}
use native.Mathlib.Omega.{arith}
use lib.ListN.{length, replicate}
use lib.Dec.{eqb, ltb, leb}
use borrow.Author.Tests.{ltb-false, leb-true, leb-false, ne_eqb}
use Rattle.heap.specs.Fault as Faults
use Rattle.heap.specs.declared.fault.Fault.{Fault}
use Rattle.std.specs.Prelude.{Option, Result, Some, None, Err}
use Rattle.model.specs.Lists.{is_nil, each}
use Rattle.model.specs.Program.{func, is_function, first_of, between, handler_ok}
use Rattle.model.specs.World.{World, After, and_then}
use Rattle.model.specs.Frames.{is_entry, is_coro, frame, top_func, top_pc, pop_to}
use Rattle.model.specs.Machine.{push_frame, result_of, or_nil, write_result, write_made, apply_cont, resume_in, return_made, finish_as, finish_on, finish, caught, stop_or, escape, search_as, search, search_frames, search_made, unwind_fault, store_some, raisable, unwind}
use Rattle.model.specs.Call.{opt_pc}
use Rattle.model.specs.Sound.{cont_lies, frame_names}
use Rattle.model.specs.declared.program.Handler.{Handler}
use Rattle.model.specs.declared.machine.Cont.{Cont}
use Rattle.model.specs.declared.machine.Frame.{Frame}
use Rattle.model.specs.declared.machine.Charge.{Charge}
use Rattle.heap.specs.declared.heap.ResultKind.{ResultKind}
use Rattle.model.specs.declared.call.Answer.{Answer}
use Rattle.claims_sound.specs.Exact.{rooted}
use Rattle.claims_sound.proofs.Tests.{no_true, and_left, and_right, both, negate, or-first, or-second, or_else, picked}
use Rattle.claims_sound.proofs.Stand.{names_of}
use Rattle.claims_sound.proofs.Sound.{Sound, facts}
use Rattle.claims_sound.proofs.Tower.{tower-move, tower-push, store-sound, next-sound, put-sound, pop-sound, handlers-ok}
use Rattle.claims_sound.proofs.Make.{dyn-good}
use Rattle.claims_sound.proofs.End.{returned-sound, escaped-good}
use Rattle.claims_sound.proofs.Charge.{charge-good}
use Rattle.claims_sound.proofs.Raised.{first-in, func-small, pc-small, error-good, some-sound}
use Rattle.claims_sound.proofs.Good.{Good, good, then-good, fine, made_fine, passed_fine, answer_fine}

-- ---- push_frame

pub push-good : {ex : Bool} (f closure : ℕ) (cont : Cont) (w : World) → Sound ex w → is_function w.setup f ≡ true → is_coro cont ≡ false → (not (is_entry cont) || is_nil w.frames) ≡ true
    → cont_lies cont (length w.stack) w.frames ≡ true → rooted cont w.frames ≡ true → Good ex (λ _ m. made_fine m ≡ true) (push_frame f closure cont w)
unfolding push_frame
push-good {ex} f closure cont w h e q i l rt =
    let s = w.setup in
    let n = (func s f).regs in
    let base = length w.stack in
    picked (Good ex (λ _ m. made_fine m ≡ true)) (leb s.limits.depth (length w.frames) || ltb s.limits.stack (base + n)) (λ _. good h refl)
    (λ room.
    good
    (tower-move w (w.stack ++ replicate n 0) (frame f base closure cont ∷ w.frames) h
    (tower-push f closure cont (facts s h.setup) h.tower e q i l rt (leb-false s.limits.depth (length w.frames) (or-first (leb s.limits.depth (length w.frames)) (ltb s.limits.stack (base + n)) room))
    (ltb-false s.limits.stack (base + n) (or-second (leb s.limits.depth (length w.frames)) (ltb s.limits.stack (base + n)) room))))
    refl)

-- ---- finish

abbrev pub Fine : World → Answer → Type 0
Fine w a = answer_fine a ≡ true

abbrev Ok : World → Result Unit Fault → Type 0
Ok w r = passed_fine r ≡ true

write-sound : {ex : Bool} (dst : ℕ) (v : Option ℕ) (w : World) → Sound ex w → Sound ex (write_result dst v w)
write-sound dst None w h = h
write-sound dst (Some v) w h = put-sound dst v w h

write-good : {ex : Bool} (dst : ℕ) (u : World) (m : Result ℕ Fault) → Sound ex u → made_fine m ≡ true → Good ex Ok (write_made dst u m)
write-good dst u (Result.Ok v) h e = good (put-sound dst v u h) refl
write-good dst u (Err f) h e = good h e

apply-good : {ex : Bool} (c : Cont) (kind : ResultKind) (v : ℕ) (w : World) → Sound ex w → Good ex Ok (apply_cont c kind v w)
unfolding apply_cont
apply-good Cont.Entry kind v w h = good h refl
apply-good (Cont.Write dst) kind v w h = good (write-sound dst (result_of kind v) w h) refl
apply-good (Cont.Dyn dst) kind v w h = then-good (write_made dst) (dyn-good kind v w h) (λ u m k p. write-good dst u m k p.fine)
apply-good (Cont.Value dst) kind v w h = good (put-sound dst (or_nil (result_of kind v)) w h) refl
apply-good Cont.Discard kind v w h = good h refl
apply-good Cont.Coro kind v w h = good h refl

resume-good : {ex : Bool} (u : World) (r : Result Unit Fault) → Sound ex u → passed_fine r ≡ true → Good ex Fine (resume_in u r)
resume-good u (Result.Ok x) h e = good (next-sound u h) refl
resume-good u (Err f) h e = good h e

return-made : {ex : Bool} (f : Frame) (fs : List Frame) (u : World) (m : Result ℕ Fault) → Sound ex u → u.frames ≡ f ∷ fs → is_coro f.cont ≡ true → made_fine m ≡ true → Good ex Fine (return_made f fs u m)
return-made f fs u (Result.Ok v) h e c p = good (returned-sound u f fs h e c v) refl
return-made f fs u (Err x) h e c p = good h p

finish-on : {ex : Bool} (kind : ResultKind) (v : ℕ) (w : World) → Sound ex w → (fs : List Frame) → w.frames ≡ fs → Good ex Fine (finish_on fs kind v w)
finish-on kind v w h [] e = good h refl
finish-on {ex} kind v w h (f ∷ fs) e = go f.cont refl
  where
    plainly : (c : Cont) → f.cont ≡ c → is_coro c ≡ false → Good ex Fine (and_then (apply_cont c kind v (pop_to f fs w)) resume_in)
    plainly c q p = then-good resume_in (apply-good c kind v (pop_to f fs w) (pop-sound f fs w e (ap is_coro q ∙ p) h)) (λ u x k t. resume-good u x k t)

    go : (c : Cont) → f.cont ≡ c → Good ex Fine (finish_as c f fs kind v w)
    go Cont.Entry q = good (pop-sound f fs w e (ap is_coro q) h) refl
    go (Cont.Write dst) q = plainly (Cont.Write dst) q refl
    go (Cont.Dyn dst) q = plainly (Cont.Dyn dst) q refl
    go (Cont.Value dst) q = plainly (Cont.Value dst) q refl
    go Cont.Discard q = plainly Cont.Discard q refl
    go Cont.Coro q = then-good (return_made f fs) (dyn-good kind v w h) (λ u m k p. return-made f fs u m k (p.still.frames ∙ e) (ap is_coro q) p.fine)

pub finish-good : {ex : Bool} (kind : ResultKind) (v : ℕ) (w : World) → Sound ex w → Good ex Fine (finish kind v w)
unfolding finish
finish-good kind v w h = finish-on kind v w h w.frames refl

-- ---- unwind

caught-good : {ex : Bool} (h : Handler) (value : ℕ) (u : World) (c : Charge) → ltb h.target (2 ^ 32) ≡ true → Sound ex u → Good ex Fine (caught h value u c)
caught-good h value u (Charge.Done n) t k = good (put-sound h.catch value _ (store-sound h.target u t k)) refl
caught-good h value u Charge.Spent t k = good k refl
caught-good h value u (Charge.Close n) t k = good (put-sound h.catch value _ (store-sound h.target u t k)) refl

stop-or : {ex : Bool} (next : World → After Answer) (xs : List Frame) → ((u : World) → Sound ex u → u.frames ≡ xs → Good ex Fine (next u)) → (u : World) (b : Bool) → Sound ex u → (b ≡ false → u.frames ≡ xs) → Good ex Fine (stop_or next u b)
stop-or {ex} next xs ih u b k f = picked (Good ex Fine) b (λ _. good k refl) (λ e. ih u k (f e))

module _ (value fn pc : ℕ) (a : ltb fn (2 ^ 32) ≡ true) (b : ltb pc (2 ^ 32) ≡ true) where
  escape-good : {ex : Bool} (x : Frame) (xs : List Frame) (w : World) → Sound ex w → w.frames ≡ x ∷ xs → ((u : World) → Sound ex u → u.frames ≡ xs → Good ex Fine (search xs value fn pc u)) → (c : Cont) → x.cont ≡ c
      → Good ex Fine (escape c value fn pc (search xs value fn pc) (pop_to x xs w))
  escape-good x xs w h e ih Cont.Entry q = good (pop-sound x xs w e (ap is_coro q) h) refl
  escape-good x xs w h e ih (Cont.Write r) q = ih (pop_to x xs w) (pop-sound x xs w e (ap is_coro q) h) refl
  escape-good x xs w h e ih (Cont.Dyn r) q = ih (pop_to x xs w) (pop-sound x xs w e (ap is_coro q) h) refl
  escape-good x xs w h e ih (Cont.Value r) q = ih (pop_to x xs w) (pop-sound x xs w e (ap is_coro q) h) refl
  escape-good x xs w h e ih Cont.Discard q = ih (pop_to x xs w) (pop-sound x xs w e (ap is_coro q) h) refl
  escape-good x xs w h e ih Cont.Coro q =
      then-good (stop_or (search xs value fn pc)) (escaped-good w x xs h e (ap is_coro q) value fn pc a b) (λ u s k f. stop-or (search xs value fn pc) xs ih u s k f)

  search-good : {ex : Bool} (fs : List Frame) (w : World) → Sound ex w → w.frames ≡ fs → Good ex Fine (search fs value fn pc w)
  search-good [] w h e = good h refl
  search-good {ex} (x ∷ xs) w h e = go (first_of x.pc (func w.setup x.func).handlers) refl (λ u k q. search-good xs u k q)
    where
      go : (c : Option Handler) → first_of x.pc (func w.setup x.func).handlers ≡ c → ((u : World) → Sound ex u → u.frames ≡ xs → Good ex Fine (search xs value fn pc u))
          → Good ex Fine (search_as c x xs value fn pc (search xs value fn pc) w)
      go None q ih = escape-good x xs w h e ih x.cont refl
      go (Some y) q ih =
          let s = w.setup in
          let names : each (frame_names s) (x ∷ xs) ≡ true = subst (λ fs. each (frame_names s) fs ≡ true) e (names_of s h.tower.stands) in
          let is : is_function s x.func ≡ true = and_left (is_function s x.func) _ (and_left (frame_names s x) (each (frame_names s) xs) names) in
          let ok : handler_ok (func s x.func).regs y ≡ true =
          first-in (handler_ok (func s x.func).regs) x.pc (func s x.func).handlers y (handlers-ok s x.func (facts s h.setup) is) q in
          let t : ltb y.target (2 ^ 32) ≡ true = and_right (ltb y.catch (func s x.func).regs && ltb y.start (2 ^ 32) && ltb y.end (2 ^ 32)) (ltb y.target (2 ^ 32)) ok in
          then-good (caught y value) (charge-good None w refl h) (λ u c k p. caught-good y value u c t k)

module _ {ex : Bool} (w : World) (h : Sound ex w) where
  frames-good : (value : ℕ) → Good ex Fine (search_frames value w)
  frames-good value = search-good value (top_func w.frames) (top_pc w.frames) (func-small w h) (pc-small w h) w.frames w h refl

made-good : {ex : Bool} (u : World) (m : Result ℕ Fault) → Sound ex u → made_fine m ≡ true → Good ex Fine (search_made u m)
made-good u (Result.Ok v) h e = frames-good u h v
made-good u (Err f) h e = good h e

fault-good : {ex : Bool} (f : Fault) (w : World) → Sound ex w → (between 1 10 (Faults.number_of f) || eqb (Faults.number_of f) 17) ≡ true → Good ex Fine (unwind_fault f w)
fault-good {ex} f w h range =
    let n = Faults.number_of f in
    picked (Good ex Fine) (eqb n 17) (λ _. frames-good w h (Faults.word_of f))
    (λ other.
    let low : between 1 10 n ≡ true = or_else (between 1 10 n) (eqb n 17) range (λ z. z) (λ z. no_true (sym z ∙ other)) in
    picked (Good ex Fine) (leb n 8)
    (λ small.
    let from : between 1 8 n ≡ true = both (and_left (leb 1 n) _ low) small in
    then-good search_made (error-good f w h from) (λ u m k p. made-good u m k p.fine))
    (λ _. good h (negate (ne_eqb n 11 (λ z. let t = leb-true n 10 (and_right (leb 1 n) (leb n 10) low) in omega arith)))))

pub unwind-good : {ex : Bool} (f : Fault) (pc : Option ℕ) (w : World) → opt_pc pc ≡ true → Sound ex w → Good ex (λ _ a. raisable f ≡ true → answer_fine a ≡ true) (unwind f pc w)
unfolding unwind
unwind-good {ex} f pc w e h =
    picked (Good ex (λ _ a. raisable f ≡ true → answer_fine a ≡ true)) (raisable f)
    (λ t. let g = fault-good f (store_some pc w) (some-sound pc w e h) t in record { sound = g.sound; fact = λ _. g.fact }) (λ t. good h (λ z. no_true (sym z ∙ t)))
