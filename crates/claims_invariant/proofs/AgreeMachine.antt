-- Ready, bank and finalizing agree after push_frame, finish and unwind.
use mathlib.Core.Bool.{Bool, ◌||◌}
use mathlib.Core.List.{List, [], ◌∷◌}
use Prim.Native.Nat.{ℕ, ◌+◌}
use lib.ListN.{length}
use lib.Dec.{eqb, ltb, leb}
use Rattle.heap.specs.Fault as Faults
use Rattle.heap.specs.declared.fault.Fault.{Fault}
use Rattle.std.specs.Prelude.{Option, Result, Some, None, Ok, Err}
use Rattle.model.specs.Program.{func, first_of}
use Rattle.model.specs.World.{World, After, and_then}
use Rattle.model.specs.Frames.{top_func, top_pc, pop_to}
use Rattle.model.specs.Heap.{alloc, to_dyn}
use Rattle.model.specs.Coro.{coro_escaped}
use Rattle.model.specs.Cleanup.{charge}
use Rattle.model.specs.Machine.{push_frame, result_of, write_result, write_made, apply_cont, resume_in, return_made, finish_as, finish_on, finish, caught, stop_or, escape, search_as, search, search_made, error_of, unwind_fault, store_some, raisable, unwind}
use Rattle.model.specs.declared.program.Handler.{Handler}
use Rattle.model.specs.declared.machine.Cont.{Cont}
use Rattle.model.specs.declared.machine.Frame.{Frame}
use Rattle.model.specs.declared.machine.Charge.{Charge}
use Rattle.heap.specs.declared.heap.ResultKind.{ResultKind}
use Rattle.model.specs.declared.call.Answer.{Answer}
use Rattle.claims_invariant.specs.Reachable.{Agree}
use Rattle.claims_sound.proofs.Tests.{picked}
use Rattle.claims_invariant.proofs.Agree.{Ag, alloc-agree, dyn-agree, returned-agree, escaped-agree, charge-agree}

pub then-ag : {A B : Type 0} (o : After A) (g : World → A → After B) → Ag o → ((u : World) (a : A) → Agree u → Ag (g u a)) → Ag (and_then o g)
then-ag o g h f = f o.world o.answer h

-- ---- frames, finish, unwind

pub push-agree : (f closure : ℕ) (cont : Cont) (w : World) → Agree w → Ag (push_frame f closure cont w)
unfolding push_frame
push-agree f closure cont w h = picked Ag (leb w.setup.limits.depth (length w.frames) || ltb w.setup.limits.stack (length w.stack + (func w.setup f).regs)) (λ _. h) (λ _. h)

pub write-agree : (dst : ℕ) (v : Option ℕ) (w : World) → Agree w → Agree (write_result dst v w)
write-agree dst None w h = h
write-agree dst (Some v) w h = h

pub write-made : (dst : ℕ) (u : World) (m : Result ℕ Fault) → Agree u → Ag (write_made dst u m)
write-made dst u (Ok v) h = h
write-made dst u (Err f) h = h

pub apply-agree : (c : Cont) (kind : ResultKind) (v : ℕ) (w : World) → Agree w → Ag (apply_cont c kind v w)
unfolding apply_cont
apply-agree Cont.Entry kind v w h = h
apply-agree (Cont.Write dst) kind v w h = write-agree dst (result_of kind v) w h
apply-agree (Cont.Dyn dst) kind v w h = then-ag (to_dyn kind v w) (write_made dst) (dyn-agree kind v w h) (write-made dst)
apply-agree (Cont.Value dst) kind v w h = h
apply-agree Cont.Discard kind v w h = h
apply-agree Cont.Coro kind v w h = h

pub resume-in : (u : World) (r : Result Unit Fault) → Agree u → Ag (resume_in u r)
resume-in u (Ok x) h = h
resume-in u (Err f) h = h

pub return-made : (f : Frame) (fs : List Frame) (u : World) (m : Result ℕ Fault) → Agree u → Ag (return_made f fs u m)
return-made f fs u (Ok v) h = returned-agree v (pop_to f fs u) h
return-made f fs u (Err x) h = h

pub finish-as : (c : Cont) (f : Frame) (fs : List Frame) (kind : ResultKind) (v : ℕ) (w : World) → Agree w → Ag (finish_as c f fs kind v w)
finish-as Cont.Entry f fs kind v w h = h
finish-as (Cont.Write dst) f fs kind v w h = then-ag (apply_cont (Cont.Write dst) kind v (pop_to f fs w)) resume_in (apply-agree (Cont.Write dst) kind v (pop_to f fs w) h) resume-in
finish-as (Cont.Dyn dst) f fs kind v w h = then-ag (apply_cont (Cont.Dyn dst) kind v (pop_to f fs w)) resume_in (apply-agree (Cont.Dyn dst) kind v (pop_to f fs w) h) resume-in
finish-as (Cont.Value dst) f fs kind v w h = then-ag (apply_cont (Cont.Value dst) kind v (pop_to f fs w)) resume_in (apply-agree (Cont.Value dst) kind v (pop_to f fs w) h) resume-in
finish-as Cont.Discard f fs kind v w h = then-ag (apply_cont Cont.Discard kind v (pop_to f fs w)) resume_in (apply-agree Cont.Discard kind v (pop_to f fs w) h) resume-in
finish-as Cont.Coro f fs kind v w h = then-ag (to_dyn kind v w) (return_made f fs) (dyn-agree kind v w h) (return-made f fs)

pub finish-agree : (kind : ResultKind) (v : ℕ) (w : World) → Agree w → Ag (finish kind v w)
unfolding finish
finish-agree kind v w h = go w.frames
  where
    go : (fs : List Frame) → Ag (finish_on fs kind v w)
    go [] = h
    go (f ∷ fs) = finish-as f.cont f fs kind v w h

pub caught-agree : (y : Handler) (value : ℕ) (u : World) (c : Charge) → Agree u → Ag (caught y value u c)
caught-agree y value u (Charge.Done n) h = h
caught-agree y value u Charge.Spent h = h
caught-agree y value u (Charge.Close n) h = h

pub stop-or : (next : World → After Answer) → ((u : World) → Agree u → Ag (next u)) → (u : World) (b : Bool) → Agree u → Ag (stop_or next u b)
stop-or next f u b h = picked Ag b (λ _. h) (λ _. f u h)

pub escape-agree : (c : Cont) (value fn pc : ℕ) (next : World → After Answer) → ((u : World) → Agree u → Ag (next u)) → (w : World) → Agree w → Ag (escape c value fn pc next w)
escape-agree Cont.Entry value fn pc next f w h = h
escape-agree (Cont.Write r) value fn pc next f w h = f w h
escape-agree (Cont.Dyn r) value fn pc next f w h = f w h
escape-agree (Cont.Value r) value fn pc next f w h = f w h
escape-agree Cont.Discard value fn pc next f w h = f w h
escape-agree Cont.Coro value fn pc next f w h = then-ag (coro_escaped value fn pc w) (stop_or next) (escaped-agree value fn pc w h) (stop-or next f)

pub search-agree : (fs : List Frame) (value fn pc : ℕ) (w : World) → Agree w → Ag (search fs value fn pc w)
search-agree [] value fn pc w h = h
search-agree (x ∷ xs) value fn pc w h = go (first_of x.pc (func w.setup x.func).handlers) (λ u k. search-agree xs value fn pc u k)
  where
    go : (c : Option Handler) → ((u : World) → Agree u → Ag (search xs value fn pc u)) → Ag (search_as c x xs value fn pc (search xs value fn pc) w)
    go None next = escape-agree x.cont value fn pc (search xs value fn pc) next (pop_to x xs w) h
    go (Some y) next = then-ag (charge None w) (caught y value) (charge-agree None w h) (caught-agree y value)

pub search-made : (u : World) (m : Result ℕ Fault) → Agree u → Ag (search_made u m)
search-made u (Ok v) h = search-agree u.frames v (top_func u.frames) (top_pc u.frames) u h
search-made u (Err f) h = h

pub fault-agree : (f : Fault) (w : World) → Agree w → Ag (unwind_fault f w)
fault-agree f w h =
    picked Ag (eqb (Faults.number_of f) 17) (λ _. search-agree w.frames (Faults.word_of f) (top_func w.frames) (top_pc w.frames) w h)
    (λ _. picked Ag (leb (Faults.number_of f) 8) (λ _. then-ag (alloc w.setup.costs.error (error_of f w) w) search_made (alloc-agree w.setup.costs.error (error_of f w) w h) search-made) (λ _. h))

pub some-agree : (pc : Option ℕ) (w : World) → Agree w → Agree (store_some pc w)
some-agree None w h = h
some-agree (Some pc) w h = h

pub unwind-agree : (f : Fault) (pc : Option ℕ) (w : World) → Agree w → Ag (unwind f pc w)
unfolding unwind
unwind-agree f pc w h = picked Ag (raisable f) (λ _. fault-agree f (store_some pc w) (some-agree pc w h)) (λ _. h)
