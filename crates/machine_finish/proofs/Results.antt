-- A result into the top frame, continuation by continuation. Assumes nothing.
use mathlib.Core.Path.{◌≡◌, refl, sym, ap, ◌∙◌, subst}
use mathlib.Core.Bool.{true}
use mathlib.Core.List.{List}
use Prim.Native.Nat.{ℕ}
use lib.ListN.{length}
use Rattle.heap.specs.Heap as Heaped
use Rattle.heap.specs.declared.fault.Fault.{Fault}
use Rattle.heap.specs.declared.heap.ResultKind.{ResultKind}
use Rattle.std.specs.Prelude.{Option, Result, Some, None, Ok, Err}
use Rattle.model.specs.Lists.{each}
use Rattle.model.specs.World.{World, after}
use Rattle.model.specs.Frames.{put_reg}
use Rattle.model.specs.Heap.{to_dyn}
use Rattle.model.specs.Machine.{result_of, or_nil, write_result, write_made, apply_cont}
use Rattle.model.specs.Sound.{frame_names, lies_under, cont_lies, sound}
use Rattle.model.specs.declared.machine.Cont.{Cont}
use Rattle.model.specs.declared.machine.Frame.{Frame}
use Rattle.model.specs.declared.machine.Fuel.{Fuel}
use Rattle.claims_sound.proofs.Good.{Still}
use Rattle.claims_sound.proofs.Make.{dyn-good}
use Rattle.memory_tables.specs.Does.{RegFits}
use Rattle.memory_world.specs.Memory.{Lent, Beside, Rep}
use Rattle.memory_world.specs.Contract.{Does}
use Rattle.memory_world.specs.declared.machine.Machine.{Machine}
use Rattle.memory_world.specs.declared.machine.Sizes.{Sizes}
use Rattle.memory_world.proofs.Does.{does}
use Rattle.machine_state.specs.Numbers.{heap_of}
use Rattle.machine_state.proofs.Allocation.{heap-room}
use Rattle.machine_state.proofs.Tops.{known, names_in, reg_in}
use Rattle.machine_finish.specs.Finish.{ContFits}

-- ---- what it leaves

module _ (kind : ResultKind) (v : ℕ) (w : World) where
  pub entry-is : apply_cont Cont.Entry kind v w ≡ after w (Ok tt)
  unfolding apply_cont
  entry-is = refl

  pub discard-is : apply_cont Cont.Discard kind v w ≡ after w (Ok tt)
  unfolding apply_cont
  discard-is = refl

  pub coro-is : apply_cont Cont.Coro kind v w ≡ after w (Ok tt)
  unfolding apply_cont
  coro-is = refl

  pub write-none : (dst : ℕ) → None ≡ result_of kind v → apply_cont (Cont.Write dst) kind v w ≡ after w (Ok tt)
  unfolding apply_cont
  write-none dst e = ap (λ o. after (write_result dst o w) (Ok tt)) (sym e)

  pub write-some : (dst x : ℕ) → Some x ≡ result_of kind v → apply_cont (Cont.Write dst) kind v w ≡ after (put_reg dst x w) (Ok tt)
  unfolding apply_cont
  write-some dst x e = ap (λ o. after (write_result dst o w) (Ok tt)) (sym e)

  pub value-is : (dst x : ℕ) → x ≡ or_nil (result_of kind v) → apply_cont (Cont.Value dst) kind v w ≡ after (put_reg dst x w) (Ok tt)
  unfolding apply_cont
  value-is dst x e = ap (λ y. after (put_reg dst y w) (Ok tt)) (sym e)

  pub dyn-put : (dst x : ℕ) → Ok x ≡ (to_dyn kind v w).answer → apply_cont (Cont.Dyn dst) kind v w ≡ after (put_reg dst x (to_dyn kind v w).world) (Ok tt)
  unfolding apply_cont
  dyn-put dst x e = ap (write_made dst (to_dyn kind v w).world) (sym e)

  pub dyn-not : (dst : ℕ) (g : Fault) → Err g ≡ (to_dyn kind v w).answer → apply_cont (Cont.Dyn dst) kind v w ≡ after (to_dyn kind v w).world (Err g)
  unfolding apply_cont
  dyn-not dst g e = ap (write_made dst (to_dyn kind v w).world) (sym e)

  -- of a continuation that is known
  pub applies : {l : Sizes} {M : Lent} {m : Machine} {f : Fuel} {c x : Cont} {u : World} → c ≡ x → apply_cont x kind v w ≡ after u (Ok tt)
      → Rep l u M m f → Does l (apply_cont c kind v w) M m f (Ok tt)
  applies {l} {M} {m} {f} {c} {x} {u} e q rep = does l M m f (apply_cont c kind v w) u (Ok tt) (ap (λ y. apply_cont y kind v w) e ∙ q) rep

-- ---- what stays

pub dyn-still : (kind : ResultKind) (v : ℕ) (w : World) → sound w ≡ true → Still w (to_dyn kind v w).world
dyn-still kind v w snd = (dyn-good kind v w (known w snd)).fact.still

made-frames : (dst : ℕ) (u : World) (a : Result ℕ Fault) → (write_made dst u a).world.frames ≡ u.frames
made-frames dst u (Ok v) = refl
made-frames dst u (Err f) = refl

result-frames : (dst : ℕ) (o : Option ℕ) (w : World) → (write_result dst o w).frames ≡ w.frames
result-frames dst None w = refl
result-frames dst (Some v) w = refl

pub apply-frames : (c : Cont) (kind : ResultKind) (v : ℕ) (w : World) → sound w ≡ true → (apply_cont c kind v w).world.frames ≡ w.frames
unfolding apply_cont
apply-frames Cont.Entry kind v w snd = refl
apply-frames (Cont.Write dst) kind v w snd = result-frames dst (result_of kind v) w
apply-frames (Cont.Dyn dst) kind v w snd = made-frames dst (to_dyn kind v w).world (to_dyn kind v w).answer ∙ (dyn-still kind v w snd).frames
apply-frames (Cont.Value dst) kind v w snd = refl
apply-frames Cont.Discard kind v w snd = refl
apply-frames Cont.Coro kind v w snd = refl

-- ---- what the code may rely on

module _ (l : Sizes) (M : Beside → Lent) (m : Machine) (c : Cont) (fits : ContFits l M m c) where
  abbrev w : World
  w = fits.ok.world

  abbrev b : Beside
  b = fits.ok.beside

  -- the register that the continuation names
  pub put-fits : (r : ℕ) → cont_lies c (length w.stack) w.frames ≡ lies_under r (length w.stack) w.frames → RegFits (M b).stack (M b).frames m.height m.depth r
  put-fits r e = reg_in l (M b) m b.fuel w fits.ok.rep w.setup (names_in w fits.ok.sound) r (sym e ∙ fits.lies)

  pub dyn-room : Heaped.Room (M b).slots (heap_of m l)
  dyn-room = heap-room fits.ok.rep fits.ok.sound fits.ok.room

  -- .. after a conversion
  pub put-fits-dyn : (kind : ResultKind) (v r : ℕ) (M' : Lent) (n : Machine) → cont_lies c (length w.stack) w.frames ≡ lies_under r (length w.stack) w.frames
      → Rep l (to_dyn kind v w).world M' n b.fuel → RegFits M'.stack M'.frames n.height n.depth r
  put-fits-dyn kind v r M' n e rep =
      let u = (to_dyn kind v w).world in
      let k = dyn-still kind v w fits.ok.sound in
      reg_in l M' n b.fuel u rep w.setup (subst (λ (fs : List Frame). each (frame_names w.setup) fs ≡ true) (sym k.frames) (names_in w fits.ok.sound)) r
      (ap (λ (xs : List ℕ). lies_under r (length xs) u.frames) k.stack ∙ ap (λ (fs : List Frame). lies_under r (length w.stack) fs) k.frames ∙ sym e ∙ fits.lies)
