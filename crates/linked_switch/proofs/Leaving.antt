-- A Yield that nothing refuses, on the world: what its parts leave. Assumes nothing.
use mathlib.Core.Path.{◌≡◌, refl, sym, ap, ap₂, ◌∙◌, subst}
use mathlib.Core.Bool.{true, false}
use mathlib.Core.List.{List, [], ◌∷◌}
use Prim.Native.Nat.{ℕ, zero, suc, ◌+◌, ◌-◌, ◌*◌, ◌≤◌, ◌<◌}
use native.Mathlib.Omega.{arith}
use lib.ListN.{length, get_or, drop}
use Rattle.lists.specs.Pick.{pick_true}
use Rattle.lists.specs.Chunks.{chunk_at, put_chunk}
use Rattle.heap.specs.Coding.{of_bits}
use Rattle.heap.specs.Int.{inline_of, next_key}
use Rattle.heap.specs.Word.{tag_of}
use Rattle.heap.specs.Object.{as_yielded}
use Rattle.heap.specs.Slot.{width, yielded_words}
use Rattle.heap.specs.Heap.{SlotFits, slots_of, coro_of}
use Rattle.heap.specs.declared.fault.Fault.{Fault}
use Rattle.std.specs.Prelude.{Option, Result, Some, None, Ok}
use Rattle.heap.specs.declared.value.Word.{Word}
use Rattle.heap.specs.declared.object.CoroObj.{CoroObj}
use Rattle.heap.specs.declared.object.CoroState.{CoroState}
use Rattle.heap.proofs.Fields as H
use Rattle.heap.proofs.Place.{stands, stands-words}
use Rattle.model.specs.World.{World, After, after, and_then}
use Rattle.model.specs.Frames.{reg, base_at, on_top, set_pc, store_pc}
use Rattle.model.specs.Coro.{coro_send, coro_suspend, deliver}
use Rattle.model.specs.Exec.{key_at, key_exact, auto_key, suspend, yield}
use Rattle.model.specs.Heap.{encode_at}
use Rattle.model.specs.Sound.{sound}
use Rattle.model.specs.declared.coro.Event.{Event}
use Rattle.model.specs.declared.exec.Step.{Step}
use Rattle.model.specs.declared.machine.Active.{Active}
use Rattle.model.specs.declared.machine.Driver.{Driver}
use Rattle.model.specs.declared.machine.Frame.{Frame}
use Rattle.model.specs.declared.machine.Fuel.{Fuel}
use Rattle.claims_sound.proofs.Tests.{no_false}
use Rattle.claims_sound.proofs.Stand.{Stands}
use Rattle.claims_sound.proofs.Cut.{Cut, cut, base-cut, floor-below}
use Rattle.claims_sound.proofs.Sound.{Sound, sound→}
use Rattle.memory_tables.specs.Layout.{base_in}
use Rattle.memory_tables.specs.Does.{ChainDo}
use Rattle.memory_tables.proofs.Decode.{base-at}
use Rattle.memory_world.specs.Memory.{Lent, Rep, Room}
use Rattle.memory_world.specs.Contract.{Does}
use Rattle.memory_world.specs.declared.machine.Machine.{Machine}
use Rattle.memory_world.specs.declared.machine.Sizes.{Sizes}
use Rattle.memory_world.proofs.Slotted.{placed-words}
use Rattle.machine_state.specs.Send.{SendFits}
use Rattle.coro_suspend.specs.Suspend.{LeaveFit, MovedOut, shrunk}
use Rattle.coro_suspend.proofs.Parts.{yielded}
use Rattle.coro_suspend.proofs.Innermost.{other}
use Rattle.coro_suspend.proofs.Suspended as Suspended
use Rattle.exec_yield.proofs.Settled.{drives, deliver-done, suspended}
use Rattle.exec_yield.proofs.Keys.{largest-at}
use Rattle.exec_yield.proofs.Yields.{runs, innermost, yield-runs, keyed-yield}
use Rattle.linked_switch.specs.Words.{record_at}
use Rattle.linked_switch.specs.Leave.{innermost_in, May, Keyed, suspends_by, told_to}
use Rattle.linked_switch.proofs.Uncharged.{suspends, charged, paid, shrinks}

-- ---- the suspension

module _ (l : Sizes) (M : Lent) (m : Machine) (f : Fuel) (w : World) (rep : Rep l w M m f) (snd : sound w ≡ true) (i : ℕ) (may : May M.frames M.chain M.slots m i) (dst payload key largest : ℕ) where
  abbrev pub a : Active
  a = innermost_in M.chain m

  abbrev c : CoroObj
  c = record_at M.slots i

  abbrev keys : Option (ℕ × ℕ)
  keys = Some (key, largest)

  abbrev base : ℕ
  base = base_in M.frames a.floor

  pub found : Ok (i, c) ≡ coro_of (slots_of m.count M.slots) a.coro
  found = (stands m.count M.slots a.coro i may.found).coro

  pub slot : SlotFits M.slots i
  slot = stands-words m.count M.slots a.coro i may.found rep.slots.within

  pub before : Suspended.Before l M m f CoroState.Yielded dst payload keys w rep a may.running refl may.floor i c found base refl snd
  before = Suspended.before l M m f CoroState.Yielded dst payload keys w rep a may.running refl may.floor i c found base refl snd

  pub leave-fit : Room w.setup M → LeaveFit M.stack M.frames M.saved_stack M.saved_frames m l c.row a.floor base
  leave-fit room = Suspended.leave-fit l M m f CoroState.Yielded dst payload keys w rep a may.running refl may.floor i c found base refl snd room

  -- by the numbers that the code read
  pub fits-as : (row floor b : ℕ) → row ≡ c.row → floor ≡ a.floor → b ≡ base → Room w.setup M → LeaveFit M.stack M.frames M.saved_stack M.saved_frames m l row floor b
  fits-as row floor b er ef eb room =
      subst (λ z. LeaveFit M.stack M.frames M.saved_stack M.saved_frames m l row floor z) (sym eb)
      (subst (λ z. LeaveFit M.stack M.frames M.saved_stack M.saved_frames m l row z base) (sym ef)
      (subst (λ z. LeaveFit M.stack M.frames M.saved_stack M.saved_frames m l z a.floor base) (sym er) (leave-fit room)))

  module _ (stack' frames' chain' slots' saved_stack' saved_frames' : List ℕ) where
    abbrev M' : Lent
    M' = record { stack = stack'; frames = frames'; chain = chain'; slots = slots'; saved_stack = saved_stack'; saved_frames = saved_frames'; ready = M.ready; finalize = M.finalize; setup = M.setup }

    leaves : MovedOut M.stack M.frames M.saved_stack M.saved_frames stack' frames' saved_stack' saved_frames' m l c.row a.floor base
        → ChainDo (drop 1) M.chain chain' m.active (m.active - 1)
        → slots' ≡ put_chunk width M.slots i (yielded_words (m.height - base) (m.depth - a.floor) dst payload key largest (chunk_at width M.slots i))
        → Does l (suspends_by dst payload key largest w) M' (shrunk m base a.floor m.used) f (told_to a.driver payload key)
    leaves moves pop mark =
        let regs = m.height - base in
        let deep = m.depth - a.floor in
        let d = as_yielded regs deep dst payload key largest c in
        Suspended.accepted l M m f CoroState.Yielded dst payload keys w rep a may.running refl may.floor i c found base refl snd stack' frames' chain' slots' saved_stack' saved_frames'
        (charged l M m f w rep snd c regs deep may.wide may.deep) d (shrunk m base a.floor m.used) (Event.Yielded payload key) refl
        (paid l M m f w rep snd c regs deep may.wide may.deep) moves pop (suspends c regs deep dst payload key largest may.unclosed may.wide may.deep)
        (H.yields M.slots i (tag_of a.coro) c (placed-words l M m f a.coro w rep i may.found) slots' regs deep dst payload key largest mark)
        (yielded CoroState.Yielded payload c.closing key refl may.unclosed)
        (shrinks l M m f w rep snd c regs deep may.wide may.deep base a.floor)

    -- by the numbers that the code read
    pub left : (row floor b regs deep : ℕ) → row ≡ c.row → floor ≡ a.floor → b ≡ base → regs ≡ m.height - b → deep ≡ m.depth - floor
        → MovedOut M.stack M.frames M.saved_stack M.saved_frames stack' frames' saved_stack' saved_frames' m l row floor b
        → ChainDo (drop 1) M.chain chain' m.active (m.active - 1)
        → slots' ≡ put_chunk width M.slots i (yielded_words regs deep dst payload key largest (chunk_at width M.slots i))
        → Does l (suspends_by dst payload key largest w) M' (shrunk m b floor m.used) f (told_to a.driver payload key)
    left row floor b regs deep er ef eb en ed moves pop mark =
        let moved = subst (λ z. MovedOut M.stack M.frames M.saved_stack M.saved_frames stack' frames' saved_stack' saved_frames' m l c.row a.floor z) eb
        (subst (λ z. MovedOut M.stack M.frames M.saved_stack M.saved_frames stack' frames' saved_stack' saved_frames' m l c.row z b) ef
        (subst (λ z. MovedOut M.stack M.frames M.saved_stack M.saved_frames stack' frames' saved_stack' saved_frames' m l z floor b) er moves)) in
        let p : regs ≡ m.height - base = en ∙ ap (λ z. m.height - z) eb in
        let q : deep ≡ m.depth - a.floor = ed ∙ ap (λ z. m.depth - z) ef in
        subst (λ z. Does l (suspends_by dst payload key largest w) M' (shrunk m b z m.used) f (told_to a.driver payload key)) (sym ef)
        (subst (λ z. Does l (suspends_by dst payload key largest w) M' (shrunk m z a.floor m.used) f (told_to a.driver payload key)) (sym eb)
        (leaves moved pop (mark ∙ ap₂ (λ x y. put_chunk width M.slots i (yielded_words x y dst payload key largest (chunk_at width M.slots i))) p q)))

-- ---- where the innermost coroutine stands

pub standing : (l : Sizes) (M : Lent) (m : Machine) (f : Fuel) (w : World) → Rep l w M m f → sound w ≡ true → 1 ≤ m.active
    → let a = innermost_in M.chain m in (a.floor < m.depth) × (base_in M.frames a.floor ≤ m.height)
standing l M m f w rep snd h =
    let a = innermost_in M.chain m in
    let s = w.setup in
    let q = Suspended.chain-is l M m f CoroState.Yielded 0 0 None w rep a h refl in
    let known : Sound false w = sound→ w snd (λ z. no_false z) in
    let c : Cut false s (length w.stack) w.frames a (drop 1 w.chain) = cut s (subst (Stands false s (length w.stack) w.frames) q known.tower.stands) in
    let low : a.floor < length w.frames = floor-below s c in
    let seam : base_at a.floor w.frames ≡ c.b.base = base-cut s c in
    let e₁ = rep.frames.count in
    let e₂ = rep.stack.count in
    let on = c.within in
    let deep : a.floor < m.depth = omega arith in
    let is : base_in M.frames a.floor ≡ base_at a.floor w.frames =
    base-at w.frames M.frames m.depth a.floor other rep.frames deep ∙ ap (λ n. (get_or w.frames (n - suc a.floor) other).base) rep.frames.count in
    (deep, omega arith)

-- ---- a pc stored in the top frame leaves the bases

base_stays : (pc : ℕ) (fs : List Frame) (k : ℕ) → (get_or (on_top (set_pc pc) fs) k other).base ≡ (get_or fs k other).base
base_stays pc [] k = refl
base_stays pc (x ∷ fs) zero = refl
base_stays pc (x ∷ fs) (suc k) = refl

pub same_base : (l : Sizes) (w : World) (M M' : Lent) (m : Machine) (f : Fuel) (pc floor : ℕ) → Rep l w M m f → Rep l (store_pc pc w) M' m f → floor < m.depth
    → base_in M'.frames floor ≡ base_in M.frames floor
same_base l w M M' m f pc floor r r' h =
    base-at (store_pc pc w).frames M'.frames m.depth floor other r'.frames h ∙ base_stays pc w.frames (m.depth - suc floor)
    ∙ sym (base-at w.frames M.frames m.depth floor other r.frames h)

-- ---- the key

pub key-made : (so_far key largest : ℕ) (w : World) → Some largest ≡ next_key so_far → Some (record { 0 = key }) ≡ inline_of (of_bits 63 largest)
    → after w (Ok (key, largest)) ≡ auto_key so_far w
unfolding auto_key
key-made so_far key largest w e h =
    ap (λ (x : Option Word). and_then (encode_at x largest w) (key_at largest)) h ∙ ap (λ (x : Option ℕ). key_exact x w) e

-- ---- the whole

module _ (l : Sizes) (M M'' : Lent) (m n : Machine) (f : Fuel) (w : World) (rep : Rep l w M m f) (i : ℕ) (may : May M.frames M.chain M.slots m i) (pc dst src payload key largest to : ℕ) where
  abbrev u : World
  u = (coro_suspend CoroState.Yielded dst payload (Some (key, largest)) (store_pc pc w)).world

  pub yields : Keyed M.slots i key largest → payload ≡ reg w src
      → told_to (Driver.Resume to) payload key ≡ (coro_suspend CoroState.Yielded dst payload (Some (key, largest)) (store_pc pc w)).answer
      → Rep l (coro_send to payload u) M'' n f → Does l (yield pc dst src w) M'' n f Step.Frame
  unfolding deliver
  yields keyed sent told rep'' =
      let a = innermost_in M.chain m in
      let c = record_at M.slots i in
      let keys = Some (key, largest) in
      let did : Does l (deliver (Driver.Resume to) (Event.Yielded payload key) u) M'' n f (Ok tt) = record { world = rep''; answer = refl } in
      let e = told_to (Driver.Resume to) payload key in
      let made = key-made c.largest key largest w keyed.next keyed.inline in
      let done = suspended l M'' n f w pc CoroState.Yielded dst payload keys e Step.Frame told
      (deliver-done l M'' n f u e (Driver.Resume to) (Event.Yielded payload key) (Ok tt) Step.Frame refl did refl) in
      yield-runs l M'' n f w pc dst src (runs l w M m f rep may.running) payload a.coro c.largest (Ok (key, largest)) Step.Frame sent
      (ap (λ (x : Active). x.coro) (innermost l w M m f rep may.running))
      (largest-at l M m f w rep a.coro i c (stands m.count M.slots a.coro i may.found).coro)
      (ap (λ (x : After (Result (ℕ × ℕ) Fault)). x.answer) made)
      (keyed-yield l M'' n f (auto_key c.largest w).world pc dst payload (Ok (key, largest)) Step.Frame key largest refl
      (subst (λ (z : World). Does l (suspend pc CoroState.Yielded dst payload keys z) M'' n f Step.Frame) (ap (λ (x : After (Result (ℕ × ℕ) Fault)). x.world) made) done))
