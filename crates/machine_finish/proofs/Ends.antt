-- The end of the top frame on the world, by its continuation. Assumes nothing.
use mathlib.Core.Path.{◌≡◌, refl, sym, ap, ◌∙◌, subst}
use mathlib.Core.Bool.{true, false}
use mathlib.Core.List.{List, [], ◌∷◌}
use Prim.Native.Nat.{ℕ, ◌-◌, ◌≤◌}
use native.Mathlib.Omega.{arith}
use lib.ListN.{length}
use borrow.Author.Tests.{eq-eqb, ne_eqb}
use Rattle.lists.proofs.Tests.{never}
use Rattle.heap.specs.Fault.{number_of}
use Rattle.heap.specs.declared.fault.Fault.{Fault}
use Rattle.heap.specs.declared.heap.ResultKind.{ResultKind}
use Rattle.std.specs.Prelude.{Option, Result, Err}
use Rattle.model.specs.Lists.{each}
use Rattle.model.specs.World.{World, after, and_then}
use Rattle.model.specs.Frames.{is_coro, next_pc, pop_to}
use Rattle.model.specs.Heap.{to_dyn}
use Rattle.model.specs.Coro.{coro_returned}
use Rattle.model.specs.Machine.{result_of, apply_cont, resume_in, return_made, finish_as, finish_on, finish}
use Rattle.model.specs.Sound.{frame_names, cont_lies, sound}
use Rattle.model.specs.declared.call.Answer.{Answer}
use Rattle.model.specs.declared.machine.Cont.{Cont}
use Rattle.model.specs.declared.machine.Frame.{Frame}
use Rattle.model.specs.declared.machine.Fuel.{Fuel}
use Rattle.claims_sound.proofs.Sound.{→sound}
use Rattle.claims_sound.proofs.Make.{dyn-good}
use Rattle.memory_tables.specs.Layout.{frame_in}
use Rattle.memory_world.specs.Memory.{Lent, Beside, Rep}
use Rattle.memory_world.specs.Contract.{Does, Ok, only}
use Rattle.memory_world.specs.declared.machine.Machine.{Machine}
use Rattle.memory_world.specs.declared.machine.Sizes.{Sizes}
use Rattle.memory_world.proofs.Does.{does, SameLengths}
use Rattle.machine_state.specs.Frame.{StepFits, PopFits, pop_on, pop_top}
use Rattle.machine_state.specs.Way.{way_of}
use Rattle.machine_state.specs.declared.way.Way.{Way}
use Rattle.machine_state.proofs.Frames.{chosen, passed}
use Rattle.machine_state.proofs.Tops.{some-top, step_fits, known, names_in, cont-under, pop-sounds, pop-fits, pop_ok}
use Rattle.machine_state.proofs.Ways.{out-way, caller-way}
use Rattle.coro_end.specs.Returned.{ReturnFits}
use Rattle.coro_end.proofs.Known.{return_asks}
use Rattle.machine_finish.specs.Finish.{ContFits, TopFits, EndFits}
use Rattle.machine_finish.proofs.Results.{dyn-still, apply-frames}

-- ---- the caller goes on, or not

module _ (l : Sizes) (M : Lent) (m : Machine) (f : Fuel) (w : World) (r : Result Unit Fault) where
  pub resumes : (u : Unit) → r ≡ Result.Ok u → Rep l (next_pc w) M m f → Does l (resume_in w r) M m f Answer.Resume
  resumes u e rep = does l M m f (resume_in w r) (next_pc w) Answer.Resume (ap (resume_in w) e) rep

  pub resumes-not : (g : Fault) → r ≡ Err g → Rep l w M m f → Does l (resume_in w r) M m f (Answer.Refused g)
  resumes-not g e rep = does l M m f (resume_in w r) w (Answer.Refused g) (ap (resume_in w) e) rep

-- ---- the definition, by the continuation of the top frame

pub record On (fs : List Frame) (c : Cont) : Type 0 where
  pub top : Frame
  pub rest : List Frame
  pub are : fs ≡ top ∷ rest
  pub is : top.cont ≡ c

-- the continuation that the words tell
pub on-top : (l : Sizes) (M : Lent) (m : Machine) (f : Fuel) (w : World) → Rep l w M m f → 1 ≤ m.depth → (c : Cont) → (frame_in M.frames (m.depth - 1)).cont ≡ c → On w.frames c
on-top l M m f w rep some c e =
    let t = some-top w.frames M.frames m.depth rep.frames some in
    record { top = t.top; rest = t.rest; are = t.are; is = sym (ap (λ (x : Frame). x.cont) t.is) ∙ e }

pub no-frame : (kind : ResultKind) (v : ℕ) (w : World) (o : Option ℕ) → w.frames ≡ [] → o ≡ result_of kind v → finish kind v w ≡ after w (Answer.Exit o)
unfolding finish
no-frame kind v w o e r = ap (λ fs. finish_on fs kind v w) e ∙ ap (λ y. after w (Answer.Exit y)) (sym r)

module _ (kind : ResultKind) (v : ℕ) (w : World) (c : Cont) (t : On w.frames c) where
  pub finish-as : finish kind v w ≡ finish_as c t.top t.rest kind v w
  unfolding finish
  finish-as = ap (λ fs. finish_on fs kind v w) t.are ∙ ap (λ k. finish_as k t.top t.rest kind v w) t.is

  pub finish-out : (o : Option ℕ) → way_of c ≡ Way.Out → o ≡ result_of kind v → finish kind v w ≡ after (pop_top w) (Answer.Exit o)
  finish-out o q r =
      finish-as ∙ ap (λ k. finish_as k t.top t.rest kind v w) (out-way c q) ∙ ap (λ y. after (pop_to t.top t.rest w) (Answer.Exit y)) (sym r)
      ∙ ap (λ fs. after (pop_on fs w) (Answer.Exit o)) (sym t.are)

  pub finish-call : way_of c ≡ Way.Caller → finish kind v w ≡ and_then (apply_cont c kind v (pop_top w)) resume_in
  finish-call q = finish-as ∙ to-caller c q ∙ ap (λ fs. and_then (apply_cont c kind v (pop_on fs w)) resume_in) (sym t.are)
    where
      to-caller : (k : Cont) → way_of k ≡ Way.Caller → finish_as k t.top t.rest kind v w ≡ and_then (apply_cont k kind v (pop_to t.top t.rest w)) resume_in
      to-caller Cont.Entry e = never cc
      to-caller (Cont.Write r) e = refl
      to-caller (Cont.Dyn r) e = refl
      to-caller (Cont.Value r) e = refl
      to-caller Cont.Discard e = refl
      to-caller Cont.Coro e = never cc

-- ---- the frame goes

pub may-pop : (l : Sizes) (M : Beside → Lent) (m : Machine) (o : Ok l M (only m)) → 1 ≤ m.depth → PopFits (M o.beside).stack (M o.beside).frames m
may-pop l M m o some = pop-fits l (M o.beside) m o.beside.fuel o.world o.rep o.sound some

-- ---- a call

module _ (l : Sizes) (M : Beside → Lent) (m : Machine) (c : Cont) (fits : EndFits l M m c) where
  abbrev w : World
  w = fits.on.ok.world

  abbrev b : Beside
  b = fits.on.ok.beside

  t : On w.frames c
  t = on-top l (M b) m b.fuel w fits.on.ok.rep fits.on.some c fits.on.top

  plainly : is_coro t.top.cont ≡ false
  plainly = ap is_coro t.is ∙ caller-way c fits.call

  module _ (M' : Beside → Lent) (n : Machine) (rep : Rep l (pop_top w) (M' b) n b.fuel) where
    pub end-applies : SameLengths (M b) (M' b) → ContFits l M' n c
    end-applies same =
        record {
          ok = pop_ok l M M' (only m) (only n) fits.on.ok t.top t.rest t.are plainly same rep;
          lies = subst (λ x. cont_lies x (length (pop_top w).stack) (pop_top w).frames ≡ true) t.is (cont-under w fits.on.ok.sound t.top t.rest t.are);
        }

    pub end-steps : (kind : ResultKind) (v : ℕ) (N : Lent) (k : Machine) → Rep l (apply_cont c kind v (pop_top w)).world N k b.fuel → StepFits N.frames k.depth
    end-steps kind v N k did =
        let u = pop_top w in
        let snd = pop-sounds w fits.on.ok.sound t.top t.rest t.are plainly in
        step_fits l N k b.fuel (apply_cont c kind v u).world did u.setup
        (subst (λ (fs : List Frame). each (frame_names u.setup) fs ≡ true) (sym (apply-frames c kind v u snd)) (names_in u snd))

-- the result was applied, and the caller went on or not
pub call_ends : (l : Sizes) (N : Lent) (n : Machine) (f : Fuel) (w : World) (c : Cont) (kind : ResultKind) (v : ℕ) → On w.frames c → way_of c ≡ Way.Caller → (g : Result Unit Fault) (a : Answer)
    → g ≡ (apply_cont c kind v (pop_top w)).answer → Does l (resume_in (apply_cont c kind v (pop_top w)).world g) N n f a → Does l (finish kind v w) N n f a
call_ends l N n f w c kind v t q g a e next =
    subst (λ z. Does l z N n f a) (sym (finish-call kind v w c t q)) (subst (λ x. Does l (resume_in (apply_cont c kind v (pop_top w)).world x) N n f a) e next)

-- ---- a body

module _ (kind : ResultKind) (v : ℕ) (w : World) (snd : sound w ≡ true) where
  pub dyn-sounds : sound (to_dyn kind v w).world ≡ true
  dyn-sounds = →sound (to_dyn kind v w).world (dyn-good kind v w (known w snd)).sound

  pub dyn-top : (t : On w.frames Cont.Coro) → (to_dyn kind v w).world.frames ≡ t.top ∷ t.rest
  dyn-top t = (dyn-still kind v w snd).frames ∙ t.are

-- the top frame of a world gone
pub popped-to : (l : Sizes) (M : Lent) (m : Machine) (f : Fuel) (u : World) (x : Frame) (xs : List Frame) → u.frames ≡ x ∷ xs → Rep l (pop_top u) M m f → Rep l (pop_to x xs u) M m f
popped-to l M m f u x xs are rep = subst (λ fs. Rep l (pop_on fs u) M m f) are rep

module _ (l : Sizes) (M : Beside → Lent) (m : Machine) (fits : TopFits l M m Cont.Coro) (kind : ResultKind) (v : ℕ) where
  abbrev w₀ : World
  w₀ = fits.ok.world

  abbrev b₀ : Beside
  b₀ = fits.ok.beside

  abbrev u₀ : World
  u₀ = (to_dyn kind v w₀).world

  t₀ : On w₀.frames Cont.Coro
  t₀ = on-top l (M b₀) m b₀.fuel w₀ fits.ok.rep fits.some Cont.Coro fits.top

  are₀ : u₀.frames ≡ t₀.top ∷ t₀.rest
  are₀ = dyn-top kind v w₀ fits.ok.sound t₀

  -- the result has been converted
  pub body-pops : (N : Lent) (n : Machine) → Rep l u₀ N n b₀.fuel → PopFits N.stack N.frames n
  body-pops N n rep =
      let count = rep.frames.count ∙ ap length are₀ in
      pop-fits l N n b₀.fuel u₀ rep (dyn-sounds kind v w₀ fits.ok.sound) (omega arith)

  -- .. and the frame is gone
  pub body-asks : (N : Beside → Lent) (n : Machine) → Rep l (pop_top u₀) (N b₀) n b₀.fuel → ReturnFits l N n
  body-asks N n rep =
      return_asks u₀ (dyn-sounds kind v w₀ fits.ok.sound) t₀.top t₀.rest are₀ (ap is_coro t₀.is) l N n b₀
      (popped-to l (N b₀) n b₀.fuel u₀ t₀.top t₀.rest are₀ rep)

module _ (l : Sizes) (N : Lent) (n : Machine) (f : Fuel) (w : World) (kind : ResultKind) (v : ℕ) (t : On w.frames Cont.Coro) where
  abbrev u : World
  u = (to_dyn kind v w).world

  pub body_refused : (g : Fault) → Err g ≡ (to_dyn kind v w).answer → Rep l u N n f → Does l (finish kind v w) N n f (Answer.Refused g)
  body_refused g e rep = does l N n f (finish kind v w) u (Answer.Refused g) (finish-as kind v w Cont.Coro t ∙ ap (return_made t.top t.rest u) (sym e)) rep

  pub body-returns : (z : ℕ) → Result.Ok z ≡ (to_dyn kind v w).answer → Rep l (coro_returned z (pop_to t.top t.rest u)) N n f → Does l (finish kind v w) N n f Answer.Resume
  body-returns z e rep =
      does l N n f (finish kind v w) (coro_returned z (pop_to t.top t.rest u)) Answer.Resume (finish-as kind v w Cont.Coro t ∙ ap (return_made t.top t.rest u) (sym e)) rep
