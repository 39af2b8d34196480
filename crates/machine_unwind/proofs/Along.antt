-- The search on the words, turn after turn: what is left of it, done to the present world, is the whole done to the start.
-- Assumes nothing.
use mathlib.Core.Path.{◌≡◌, refl, sym, ap, ◌∙◌}
use mathlib.Core.Bool.{true, false}
use mathlib.Core.List.{[]}
use Prim.Native.Nat.{ℕ, ◌^◌, ◌≤◌, ◌<◌}
use native.Mathlib.Omega.{arith}
use Rattle.heap.specs.declared.fault.Fault.{Fault}
use Rattle.model.specs.World.{World, after}
use Rattle.model.specs.Machine.{search}
use Rattle.model.specs.Sound.{sound}
use Rattle.model.specs.declared.call.Answer.{Answer}
use Rattle.model.specs.declared.machine.Fuel.{Fuel}
use Rattle.memory_world.specs.Memory.{Lent, Beside, Rep}
use Rattle.memory_world.specs.Contract.{Numbers, Ok, Gives, if_sound}
use Rattle.memory_world.specs.declared.machine.Machine.{Machine}
use Rattle.memory_world.specs.declared.machine.Sizes.{Sizes}
use Rattle.memory_world.proofs.Does.{does, SameLengths, alike, then-alike, ok-next}
use Rattle.machine_state.proofs.Tops.{no_top, some-top}
use Rattle.machine_unwind.specs.Turns.{goes_on, turn, search_from}
use Rattle.machine_unwind.proofs.Below.{Below, Steps, turn-steps}

module _ (l : Sizes) (value fn pc : ℕ) where
  -- the words stand for a sound world, in which the search from w goes on
  pub record Rest (w : World) (M : Lent) (m : Machine) (f : Fuel) : Type 0 where
    pub world : World
    pub rep : Rep l world M m f
    pub sound : sound world ≡ true
    pub same : search_from value fn pc w ≡ search_from value fn pc world

  pub record Along (M₀ : Beside → Lent) (n₀ : Numbers) (M : Beside → Lent) (n : Numbers) : Type 0 where
    pub ok : Ok l M n
    pub kept : (b : Beside) → SameLengths (M₀ b) (M b)
    pub rest : (w : World) (b : Beside) → Rep l w (M₀ b) n₀.machine (n₀.fuel b) → sound w ≡ true → Rest w (M b) n.machine (n.fuel b)

  pub along-start : (M : Beside → Lent) (n : Numbers) → Ok l M n → Along M n M n
  along-start M n o = record { ok = o; kept = λ b. alike (M b); rest = λ w b rep snd. record { world = w; rep = rep; sound = snd; same = refl } }

  none_left : (w : World) → w.frames ≡ [] → search_from value fn pc w ≡ after w (Answer.Refused (Fault.Throw value))
  unfolding search_from
  none_left w e = ap (λ fs. search fs value fn pc w) e

module _ {l : Sizes} {value fn pc : ℕ} {M₀ : Beside → Lent} {n₀ : Numbers} {M : Beside → Lent} {n : Numbers} (at : Along l value fn pc M₀ n₀ M n) where
  -- no frame is left
  pub along-none : n.machine.depth ≡ 0 → Gives if_sound l (search_from value fn pc) M₀ n₀ M n (Answer.Refused (Fault.Throw value))
  along-none e w b rep snd =
      let r = at.rest w b rep snd in
      does l (M b) n.machine (n.fuel b) (search_from value fn pc w) r.world (Answer.Refused (Fault.Throw value))
      (r.same ∙ none_left l value fn pc r.world (no_top r.world.frames (M b).frames n.machine.depth r.rep.frames e)) r.rep

  -- one turn more
  module _ (some : 1 ≤ n.machine.depth) (a : fn < 2 ^ 32) (z : pc < 2 ^ 32) (M' : Beside → Lent) (n' : Numbers) (t : Answer) (did : Gives if_sound l (turn value fn pc) M n M' n' t) where
    steps : (w : World) (b : Beside) → Rep l w (M b) n.machine (n.fuel b) → sound w ≡ true → Steps value fn pc w (turn value fn pc w)
    steps w b rep snd =
        let x = some-top w.frames (M b).frames n.machine.depth rep.frames some in
        turn-steps value fn pc w snd x.top x.rest x.are a z

    pub along-ends : goes_on t ≡ false → Gives if_sound l (search_from value fn pc) M₀ n₀ M' n' t
    along-ends e w b rep snd =
        let r = at.rest w b rep snd in
        let d = did r.world b r.rep r.sound in
        let o = turn value fn pc r.world in
        does l (M' b) n'.machine (n'.fuel b) (search_from value fn pc w) o.world t
        (r.same ∙ (steps r.world b r.rep r.sound).ends (ap goes_on (sym d.answer) ∙ e) ∙ ap (after o.world) (sym d.answer)) d.world

    module _ (same : (b : Beside) → SameLengths (M b) (M' b)) (e : goes_on t ≡ true) where
      below : (w : World) (b : Beside) → Rep l w (M b) n.machine (n.fuel b) → sound w ≡ true → Below value fn pc w (turn value fn pc w).world
      below w b rep snd = (steps w b rep snd).on (ap goes_on (sym (did w b rep snd).answer) ∙ e)

      pub along-fewer : n'.machine.depth < n.machine.depth
      along-fewer =
          let o = at.ok in
          let k = (below o.world o.beside o.rep o.sound).fewer in
          let p = o.rep.frames.count in
          let q = (did o.world o.beside o.rep o.sound).world.frames.count in
          omega arith

      pub along-more : Along l value fn pc M₀ n₀ M' n'
      along-more =
          let o = at.ok in
          let k = below o.world o.beside o.rep o.sound in
          record {
            ok = ok-next l M M' n n' o (turn value fn pc o.world).world k.setup k.sound (same o.beside) (did o.world o.beside o.rep o.sound).world;
            kept = λ b. then-alike (M₀ b) (M b) (M' b) (at.kept b) (same b);
            rest =
                λ w b rep snd.
                let r = at.rest w b rep snd in
                let j = below r.world b r.rep r.sound in
                record { world = (turn value fn pc r.world).world; rep = (did r.world b r.rep r.sound).world; sound = j.sound; same = r.same ∙ j.same };
          }
