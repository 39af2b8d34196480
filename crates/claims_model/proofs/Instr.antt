-- An instruction: its gate, its charge, and then what its arm owes.
use Prim.Native.Nat.{ℕ}
use mathlib.Core.Path.{◌≡◌, refl, sym, ap, ◌∙◌, subst}
use mathlib.Core.Bool.{Bool, true, false, not, ◌&&◌}
use mathlib.Core.List.{List, [], ◌∷◌, ◌++◌, map}
use mathlib.Core.Option.{Option}
use lib.ListN.{length, take}
use Rattle.lists.specs.Pick.{pick}
use Rattle.heap.specs.Table.{Slot}
use Rattle.heap.specs.declared.fault.Fault.{Fault}
use Rattle.heap.specs.declared.object.CoroState.{CoroState}
use Rattle.model.specs.Lists.{is_nil}
use Rattle.model.specs.State.{is_resumable}
use Rattle.model.specs.Object.{Object}
use Rattle.model.specs.World.{World, After, and_then}
use Rattle.model.specs.Frames.{on_top, set_pc, top_base, raise, below, base_at}
use Rattle.model.specs.Heap.{coro}
use Rattle.model.specs.Coro.{active}
use Rattle.model.specs.Sound.{marked}
use Rattle.model.specs.Cleanup.{charge}
use Rattle.model.specs.Gate as Gate
use Rattle.model.specs.Gate.{instruction, refused}
use Rattle.model.specs.declared.machine.Driver.{Driver}
use Rattle.model.specs.declared.machine.Active.{Active}
use Rattle.model.specs.declared.machine.Frame.{Frame}
use Rattle.model.specs.declared.machine.Charge.{Charge}
use Rattle.model.specs.declared.exec.Step.{Step}
use Rattle.std.specs.Prelude.{Some}
use Rattle.model.specs.declared.call.Op.{Op}
use Rattle.claims_model.specs.Says.{Sent}
use Rattle.claims_model.specs.Held.{closed_by}
use Rattle.claims_model.specs.Touches.{May, may_touch}
use Rattle.claims_model.proofs.Entry.{Aim, enters, suspends, neither, at, act, Entry, nobody, entry, accepts, sent_to, aimed, charged, entry_by, pc_by}
use Rattle.claims_model.proofs.Suspension.{suspends_in, paid_by, takes_by}
use Rattle.claims_model.proofs.Held.{core_in, core_at, words_with, frames_with, held_as, event_as, mem, deliver_to}
use Rattle.claims_model.proofs.Cores.{coro_in, Kept, Mode, m-plain}
use Rattle.claims_model.proofs.Shape as S
use Rattle.claims_model.proofs.Shape.{View, view, Stores, Worked, done, tops, Enter, Suspend, Shape, mode_by, mode_of}
use Rattle.claims_model.proofs.Under.{keeps-pc}
use Rattle.claims_model.proofs.Enters.{length-top, coro-slots, accepts-reads, Ready, r-same, r-stored, ChargeCase, c-done, c-spent, c-close, charge-case}

-- ---- v reads as w, but for the top pc

pub record Alike (p : ℕ) (w v : World) : Type 0 where
  pub setup : v.setup ≡ w.setup
  pub stack : v.stack ≡ w.stack
  pub tops : on_top (set_pc p) v.frames ≡ on_top (set_pc p) w.frames
  pub count : length v.frames ≡ length w.frames
  pub base : top_base v.frames ≡ top_base w.frames
  pub chain : v.chain ≡ w.chain
  pub slots : v.slots ≡ w.slots
  pub used : v.used ≡ w.used

base-top : (p : ℕ) (fs : List Frame) → top_base (on_top (set_pc p) fs) ≡ top_base fs
base-top p [] = refl
base-top p (f ∷ fs) = refl

top-top : (p : ℕ) (fs : List Frame) → on_top (set_pc p) (on_top (set_pc p) fs) ≡ on_top (set_pc p) fs
top-top p [] = refl
top-top p (f ∷ fs) = refl

pub alike : {p : ℕ} {w v : World} → Ready p w v → Alike p w v
alike {p} {w} {v} (r-same a b c d e g) =
    record {
      setup = a;
      stack = b;
      tops = ap (on_top (set_pc p)) c;
      count = ap length c;
      base = ap top_base c;
      chain = d;
      slots = e;
      used = g;
    }
alike {p} {w} {v} (r-stored s) =
    record {
      setup = s.setup;
      stack = s.stack;
      tops = ap (on_top (set_pc p)) s.frames ∙ top-top p w.frames;
      count = ap length s.frames ∙ length-top (set_pc p) w.frames;
      base = ap top_base s.frames ∙ base-top p w.frames;
      chain = s.chain;
      slots = s.slots;
      used = s.used;
    }

-- and then more, if it may store that pc
ready-works : {m : Option May} {p : ℕ} {w v : World} → Stores m (set_pc p) → Ready p w v → (b : Mode) (z : View) → Worked m b (view v) z → Worked m b (view w) z
ready-works {m} {p} {w} {v} may (r-same a b c d e g) n z t = subst (λ x. Worked m n x z) (λ i. record { setup = a i; stack = b i; frames = c i; chain = d i; cores = λ x. core_in (coro_in (e i) x) }) t
ready-works {m} {p} {w} {v} may (r-stored s) n z t =
    tops (set_pc p) (keeps-pc p) may (subst (λ x. Worked m n x z) (λ i. record { setup = s.setup i; stack = s.stack i; frames = s.frames i; chain = s.chain i; cores = λ x. core_in (coro_in (s.slots i) x) }) t)

module _ {p : ℕ} {w v : World} (a : Alike p w v) where
  pub coro-alike : (c : ℕ) → coro v c ≡ coro w c
  coro-alike c = coro-slots v w a.slots c

  pub core-alike : (c : ℕ) → core_at v c ≡ core_at w c
  core-alike c = ap core_in (coro-alike c)

  pub accepts-alike : (c : ℕ) → accepts v c ≡ accepts w c
  accepts-alike = accepts-reads w v a.setup a.count a.stack a.slots

  pub aimed-alike : (x : Aim) → aimed x v ≡ aimed x w
  aimed-alike (enters c d s may) = λ i. pick (may && accepts-alike c i) (entry c d (sent_to (coro-alike c i) s)) nobody
  aimed-alike (suspends s dst x) = refl
  aimed-alike neither = refl

  pub enter-alike : {c : ℕ} {d : Driver} {sent : Sent} {z : World} → Enter v p c d sent z → Enter w p c d sent z
  enter-alike {c} {d} {sent} {z} t =
      record {
        setup = t.setup ∙ a.setup;
        ready = ap (λ x. is_resumable x.state) (sym (core-alike c)) ∙ t.ready;
        solid = ap (λ x. is_nil x.frames) (sym (core-alike c)) ∙ t.solid;
        stack = t.stack ∙ (λ i. a.stack i ++ words_with sent (core-alike c i));
        frames = t.frames ∙ (λ i. map (raise (length (a.stack i))) (frames_with sent (core-alike c i)) ++ a.tops i);
        chain = t.chain ∙ (λ i. active c (a.count i) d ∷ a.chain i);
        mine = t.mine;
        closing = t.closing ∙ ap (λ x. closed_by sent x.closing) (core-alike c);
        others = λ u n. t.others u n ∙ core-alike u;
      }

  pub suspend-alike : {s : CoroState} {dst x : ℕ} {b : Active} {rs : List Active} {z : World} → Suspend v p s dst x b rs z → Suspend w p s dst x b rs z
  suspend-alike {s} {dst} {x} {b} {rs} {z} t =
      record {
        setup = t.setup ∙ a.setup;
        inmost = sym a.chain ∙ t.inmost;
        is-suspended = t.is-suspended;
        mine = t.mine ∙ (λ i. held_as (core_at z b.coro).seen (core-alike b.coro i).closing s dst b.floor (base_at b.floor (a.tops i)) (a.tops i) (a.stack i));
        others = λ u n. subst (λ k. Kept m-plain u k (core_at z u)) (core-alike u) (t.others u n);
        under = t.under ∙ (λ i. deliver_to b.driver (event_as (marked (λ r. r.closing) (coro-alike b.coro i)) s x) (mem (take (base_at b.floor (a.tops i)) (a.stack i)) (below b.floor (a.tops i))));
        outer = t.outer;
      }

-- ---- what an arm owes, at the world v that its charge left

-- m: what it may touch; t: whether coro_suspend accepts in it
pub data Arm (m : Option May) (v : World) (p : ℕ) (x : Aim) (t : Bool) (z : World) : Type 0 where
  a-works : t ≡ false → aimed x v ≡ nobody → Worked m (mode_by x) (view v) (view z) → Arm m v p x t z
  a-enters : t ≡ false → (c : ℕ) (d : Driver) (sent : Sent) → aimed x v ≡ entry c d sent → Enter v p c d sent z → Arm m v p x t z
  a-suspends : t ≡ true → (s : CoroState) (dst y : ℕ) (a : Active) (chain : List Active) → x ≡ suspends s dst y → Suspend v p s dst y a chain z → Arm m v p x t z

-- F: what the instruction is after, read off the top base, the stack and the slots
pub instr-shape : (w : World) (o : Op) (p : ℕ) (ok : Bool) (F : ℕ → List ℕ → List (Slot Object) → Aim) (arm : World → After Step) → act w o ≡ at p ok (F (top_base w.frames) w.stack w.slots)
    → Stores (may_touch o) (set_pc p) → ((v : World) → Arm (may_touch o) v p (F (top_base v.frames) v.stack v.slots) (suspends_in o v) (arm v).world) → Shape w o (instruction p ok arm w).world
unfolding instruction pick
instr-shape w o p ok F arm e may owes = gate (is_nil w.frames) ok refl refl
  where
    aim : World → Aim
    aim u = F (top_base u.frames) u.stack u.slots

    aim_same : {v : World} → Alike p w v → aim v ≡ aim w
    aim_same a = λ i. F (a.base i) (a.stack i) (a.slots i)

    by : entry_by (act w o) w ≡ pick (is_nil w.frames) nobody (pick (not ok) nobody (charged (charge (Some p) w).answer w (aimed (aim w) w)))
    by = ap (λ x. entry_by x w) e

    held : takes_by (act w o) (suspends_in o) w ≡ pick (is_nil w.frames) false (pick (not ok) false (paid_by (suspends_in o) (charge (Some p) w).world (charge (Some p) w).answer))
    held = ap (λ x. takes_by x (suspends_in o) w) e

    at-pc : pc_by (act w o) ≡ p
    at-pc = ap pc_by e

    entering : {c : ℕ} {d : Driver} {sent : Sent} {z : World} → S.Says w o (entry c d sent) false → Enter w p c d sent z → Shape w o z
    entering {c} {d} {sent} {z} q t = S.enters c d sent q (subst (λ x. Enter w x c d sent z) (sym at-pc) t)

    aims : {v : World} → Alike p w v → entry_by (act w o) w ≡ aimed (aim w) w → {y : Entry} → aimed (aim v) v ≡ y → entry_by (act w o) w ≡ y
    aims {v} a q x = q ∙ sym (aimed-alike a (aim w)) ∙ ap (λ y. aimed y v) (sym (aim_same a)) ∙ x

    armed : {v : World} (z : World) → Ready p w v → Alike p w v → entry_by (act w o) w ≡ aimed (aim w) w → takes_by (act w o) (suspends_in o) w ≡ suspends_in o v → Arm (may_touch o) v p (aim v) (suspends_in o v) z → Shape w o z
    armed {v} z r a q h (a-works b x t) = S.works (record { entry = aims a q x; takes = h ∙ b }) (mode_by (aim v)) (ap mode_of e ∙ ap mode_by (sym (aim_same a))) (ready-works may r (mode_by (aim v)) (view z) t)
    armed {v} z r a q h (a-enters b c d sent x t) = entering (record { entry = aims a q x; takes = h ∙ b }) (enter-alike a t)
    armed {v} z r a q h (a-suspends b s dst y n chain x t) =
        let k : aim w ≡ suspends s dst y = sym (aim_same a) ∙ x in
        S.suspended p ok s dst y n chain (record { entry = q ∙ ap (λ m. aimed m w) k; takes = h ∙ b }) (e ∙ ap (at p ok) k) (suspend-alike a t)

    paid : (ch : After Charge) → entry_by (act w o) w ≡ charged ch.answer w (aimed (aim w) w) → takes_by (act w o) (suspends_in o) w ≡ paid_by (suspends_in o) ch.world ch.answer → ChargeCase p w ch → Shape w o (Gate.charged arm ch.world ch.answer).world
    paid ch q h (c-done n v r) = armed (arm v).world r (alike r) q h (owes v)
    paid ch q h (c-spent v r) = S.works (record { entry = q; takes = h }) (mode_of (act w o)) refl (ready-works may r (mode_of (act w o)) (view v) done)
    paid ch q h (c-close n c z x t) = entering (record { entry = q ∙ x; takes = h }) t

    gate : (a b : Bool) → is_nil w.frames ≡ a → ok ≡ b → Shape w o (pick a (refused w Fault.NoFrame) (pick (not b) (refused w Fault.BadOperand) (and_then (charge (Some p) w) (Gate.charged arm)))).world
    gate true b x y = S.works (record {
      entry = by ∙ ap (λ t. pick t nobody (pick (not ok) nobody (charged (charge (Some p) w).answer w (aimed (aim w) w)))) x;
      takes = held ∙ ap
          (λ t. pick t false (pick (not ok) false (paid_by (suspends_in o) (charge (Some p) w).world (charge (Some p) w).answer))) x;
    }) (mode_of (act w o)) refl done
    gate false false x y = S.works (record {
      entry = by ∙ (λ i. pick (x i) nobody (pick (not (y i)) nobody (charged (charge (Some p) w).answer w (aimed (aim w) w))));
      takes = held ∙
          (λ i. pick (x i) false (pick (not (y i)) false (paid_by (suspends_in o) (charge (Some p) w).world (charge (Some p) w).answer)));
    }) (mode_of (act w o)) refl done
    gate false true x y =
        paid (charge (Some p) w) (by ∙ (λ i. pick (x i) nobody (pick (not (y i)) nobody (charged (charge (Some p) w).answer w (aimed (aim w) w)))))
        (held ∙ (λ i. pick (x i) false (pick (not (y i)) false (paid_by (suspends_in o) (charge (Some p) w).world (charge (Some p) w).answer)))) (charge-case p w)
