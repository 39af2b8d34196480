-- A suspension that charges nothing and closes nothing: its record, and its charge. Assumes nothing.
use mathlib.Core.Path.{◌≡◌, sym, ap, ap₂, ◌∙◌}
use mathlib.Core.Bool.{Bool, true, false, ◌&&◌}
use Prim.Native.Nat.{ℕ, ◌+◌, ◌-◌, ◌*◌, ◌^◌, ◌≤◌, ◌<◌, max}
use native.Mathlib.Omega.{arith}
use lib.ListN.{length}
use lib.Dec.{leb, ltb}
use borrow.Author.Tests.{le-leb, ltb-true}
use Rattle.lists.specs.Pick.{pick, pick_true, pick-false}
use Rattle.heap.specs.Object.{as_yielded}
use Rattle.heap.specs.Word.{nil}
use Rattle.heap.specs.Charge.{fits, sat_add, with_used, charge_of}
use Rattle.heap.specs.declared.heap.Heap.{Heap}
use Rattle.std.specs.Prelude.{Some, Ok, Err}
use Rattle.heap.specs.declared.fault.Fault.{Fault}
use Rattle.heap.specs.declared.object.CoroObj.{CoroObj}
use Rattle.heap.specs.declared.object.CoroState.{CoroState}
use Rattle.model.specs.Lists.{each}
use Rattle.model.specs.Program.{Setup, between, limits_ok, costs_ok, function_ok, hook_ok, setup_ok}
use Rattle.model.specs.World.{World}
use Rattle.model.specs.Sound.{sound}
use Rattle.model.specs.declared.machine.Fuel.{Fuel}
use Rattle.claims_sound.proofs.Tests.{no_false, and_left, and_right}
use Rattle.claims_sound.proofs.Sound.{Sound, sound→}
use Rattle.memory_world.specs.Memory.{Lent, Rep}
use Rattle.memory_world.specs.declared.machine.Machine.{Machine}
use Rattle.memory_world.specs.declared.machine.Sizes.{Sizes}
use Rattle.coro_suspend.specs.Suspend.{growth_of, ignores, suspended, shrunk}
use Rattle.coro_suspend.proofs.Parts.{heap_of}

-- ---- the record: its largest sizes and its closing mark stay

pub suspends : (c : CoroObj) (regs frames dst payload key largest : ℕ) → c.closing ≡ false → regs ≤ c.maxregs → frames ≤ c.maxframes
    → as_yielded regs frames dst payload key largest c ≡ suspended CoroState.Yielded regs frames dst payload (Some (key, largest)) c
suspends c regs frames dst payload key largest mark wide deep =
    let b = c.closing in
    let p : b ≡ pick (ignores CoroState.Yielded b) false b = mark ∙ sym (ap (λ x. pick (ignores CoroState.Yielded x) false x) mark ∙ pick-false false false) in
    let q : c.maxregs ≡ max c.maxregs regs = omega arith in
    let r : c.maxframes ≡ max c.maxframes frames = omega arith in
    let s : c.signal ≡ pick (ignores CoroState.Yielded b) nil c.signal = sym (ap (λ x. pick (ignores CoroState.Yielded x) nil c.signal) mark ∙ pick-false nil c.signal) in
    λ i.
    record {
      state = CoroState.Yielded;
      closing = p i;
      finalized = c.finalized;
      task = c.task;
      seq = c.seq;
      row = c.row;
      regs = regs;
      frames = frames;
      maxregs = q i;
      maxframes = r i;
      waiting = dst;
      payload = payload;
      key = key;
      largest = largest;
      result = c.result;
      signal = s i;
    }

-- ---- the charge: nothing

memory-small : (s : Setup) → setup_ok s ≡ true → s.limits.memory < 2 ^ 64
unfolding setup_ok
memory-small s h =
    let l = s.limits in
    let a = limits_ok l && costs_ok s.costs in
    let b = a && between 1 32 (length s.functions) in
    let c = b && leb (length s.functions) l.slots in
    let d = c && each function_ok s.functions in
    let z = and_left (limits_ok l) (costs_ok s.costs) (and_left a (between 1 32 (length s.functions)) (and_left b (leb (length s.functions) l.slots)
    (and_left c (each function_ok s.functions) (and_left d (hook_ok s s.hook) h)))) in
    ltb-true l.memory (2 ^ 64)
    (and_right (between 1 128 l.depth && between 1 1024 l.stack && between 1 64 l.rows && between 1 4096 l.slots) (ltb l.memory (2 ^ 64)) z)

module _ (l : Sizes) (M : Lent) (m : Machine) (f : Fuel) (w : World) (rep : Rep l w M m f) (snd : sound w ≡ true) (c : CoroObj) (regs frames : ℕ) (wide : regs ≤ c.maxregs) (deep : frames ≤ c.maxframes) where
  abbrev grow : ℕ
  grow = growth_of l c regs frames

  known : Sound false w
  known = sound→ w snd (λ z. no_false z)

  grows-not : grow ≡ 0
  grows-not =
      let a : regs - c.maxregs ≡ 0 = omega arith in
      let b : frames - c.maxframes ≡ 0 = omega arith in
      ap₂ (λ x y. x * 8 + y * l.costs.frame) a b ∙ (omega arith)

  within : (m.used ≤ l.memory) × (l.memory < 2 ^ 64)
  within =
      let a = known.room in
      let b = rep.used in
      let d = rep.sizes.memory in
      let e = memory-small w.setup known.setup in
      (omega arith, omega arith)

  used-stays : sat_add m.used grow ≡ m.used
  used-stays = let a = within.0 in let b = within.1 in ap (sat_add m.used) grows-not ∙ (omega arith)

  abbrev pub charged : Heap
  charged = with_used (sat_add m.used grow) (heap_of m l)

  pub paid : Ok charged ≡ charge_of (heap_of m l) grow
  paid =
      let a = within.0 in
      let e : fits m.used l.memory grow ≡ true = ap (λ n. leb n l.memory) used-stays ∙ le-leb m.used l.memory a in
      sym (ap (λ b. pick b (Ok charged) (Err Fault.OutOfMemory)) e ∙ pick_true _ _)

  pub shrinks : (base floor : ℕ) → shrunk m base floor m.used ≡ shrunk m base floor charged.used
  shrinks base floor = ap (shrunk m base floor) (sym used-stays)
