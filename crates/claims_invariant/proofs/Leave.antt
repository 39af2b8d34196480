-- A coroutine suspends or ends: coro_suspend, deliver, coro_returned, coro_escaped keep a sound world sound.
use mathlib.Core.Path.{◌≡◌, refl, sym, ap, ◌∙◌, subst}
use mathlib.Core.Bool.{Bool, true, not, ◌&&◌}
use mathlib.Core.List.{List, [], ◌∷◌, ◌++◌, map}
use Prim.Native.Nat.{ℕ, ◌+◌, ◌-◌, ◌^◌, ◌≤◌, ◌<◌, max}
use native.Mathlib.Omega.{arith}
use lib.ListN.{length, take, length-append, length-map, length-drop}
use lib.Dec.{ltb, leb}
use borrow.Author.Tests.{ltb-true, lt-ltb, leb-true, le-leb, not-false}
use Rattle.lists.specs.Pick.{pick, pick_true}
use Rattle.heap.specs.Charge.{sat_add}
use Rattle.heap.specs.declared.object.CoroState.{CoroState}
use Rattle.model.specs.Lists.{is_nil}
use Rattle.model.specs.State.{is_awaiting, is_running, is_suspended, is_finished, is_created}
use Rattle.model.specs.Program.{Setup}
use Rattle.model.specs.Object.{Core, Rest, Object, Coroutine, Absent, Is, with_payload}
use Rattle.model.specs.World.{World}
use Rattle.model.specs.Frames.{top_base, lower, above, below, base_at}
use Rattle.model.specs.Heap.{coro, fits}
use Rattle.model.specs.Coro.{saved, sized, growth, set_keys, unclose, suspend_coroutine, suspend_innermost, coro_suspend}
use Rattle.model.specs.Gate.{in_frame}
use Rattle.model.specs.Sound.{row_words, body_last, frames_over, waits, runs}
use Rattle.model.specs.declared.machine.Active.{Active}
use Rattle.std.specs.Prelude.{Option, Some, None}
use Rattle.claims_sound.proofs.Tests.{and_left, and_right, both, or_left, or_right, picked, negate}
use Rattle.claims_sound.proofs.Stand.{Stands, Lifts, last_of, over-of, widths-saved}
use Rattle.claims_sound.proofs.States.{suspended-idle, suspended-held, suspended-old, suspended-resumable, running-held}
use Rattle.claims_sound.proofs.Cut.{Cut, cut, above-cut, below-cut, base-cut, top-cut}
use Rattle.claims_sound.proofs.Point.{finds}
use Rattle.claims_sound.proofs.Slots.{ObjectOk, same_rows}
use Rattle.claims_sound.proofs.Sound.{Tower, Sound}
use Rattle.claims_sound.proofs.Tower.{tower-take}
use Rattle.claims_sound.proofs.Coros.{object-ok, SameRest, same_ok, last_runs, left-sound}
use Rattle.claims_sound.proofs.Good.{Good, good, suspension_fine}

-- ---- coro_suspend

-- what a suspension writes beside the saved words and frames
keys-same : (key : Option (ℕ × ℕ)) (r : Rest) → SameRest r (set_keys key r)
keys-same None r = record { row = refl; maxregs = refl; maxframes = refl; task = λ z. z; finalized = λ z. z }
keys-same (Some (k, n)) r = record { row = refl; maxregs = refl; maxframes = refl; task = λ z. z; finalized = λ z. z }

unclose-same : (st : CoroState) (r r' : Rest) → SameRest r r' → SameRest r (unclose st r')
unclose-same st r r' q =
    picked (SameRest r) (not (is_awaiting st) && r'.closing)
    (λ _. record { row = q.row; maxregs = q.maxregs; maxframes = q.maxframes; task = q.task; finalized = q.finalized }) (λ _. q)

suspended-rest : (k : Core) (payload : ℕ) (key : Option (ℕ × ℕ)) (r : Rest) → SameRest (sized k r) (unclose k.state (set_keys key (with_payload payload (sized k r))))
suspended-rest k payload key r =
    let q = keys-same key (with_payload payload (sized k r)) in
    unclose-same k.state (sized k r) (set_keys key (with_payload payload (sized k r)))
    (record { row = q.row; maxregs = q.maxregs; maxframes = q.maxframes; task = q.task; finalized = q.finalized })

-- what is saved, with its sizes
sized-ok : {ex : Bool} (s : Setup) (k₀ : Core) (r : Rest) (k : Core) → ObjectOk ex s (Object.Coro k₀ r) → length k.regs ≤ row_words s → length k.frames ≤ s.limits.depth → is_suspended k.state ≡ true → Lifts ex s (length k.regs) k.frames
    → top_base k.frames + k.waiting < length k.regs → ltb k.waiting (2 ^ 16) ≡ true → ObjectOk ex s (Object.Coro k (sized k r))
sized-ok s k₀ r k h a b st l wait small =
    let n = length k.regs in
    let fs = k.frames in
    let x = leb (length k₀.regs) (row_words s) && leb (length k₀.frames) s.limits.depth in
    let h₁ = leb-true r.maxregs (row_words s) (and_right x (leb r.maxregs (row_words s)) (and_left (x && leb r.maxregs (row_words s)) (leb r.maxframes s.limits.depth) h.sizes)) in
    let h₂ = leb-true r.maxframes s.limits.depth (and_right (x && leb r.maxregs (row_words s)) (leb r.maxframes s.limits.depth) h.sizes) in
    record {
      sizes =
          both (both (both (le-leb n (row_words s) a) (le-leb (length fs) s.limits.depth b)) (le-leb (max r.maxregs n) (row_words s) (omega arith))) (le-leb (max r.maxframes (length fs)) s.limits.depth (omega arith));
      saved =
          ap (λ c. pick c (body_last fs && frames_over s n fs && waits k) (is_nil fs && is_nil k.regs)) (suspended-resumable k.state st) ∙ pick_true _ _
          ∙ both (both (last_of s l) (over-of s l)) (or_right (not (is_suspended k.state)) _ (lt-ltb (top_base fs + k.waiting) n wait));
      rowless = or_left (not (is_finished k.state)) _ (ap not (suspended-held k.state st));
      range = small;
      wide = λ z. both (widths-saved s l z) (or_left (not (is_created k.state)) _ (negate (suspended-old k.state st)));
    }

module _ {ex : Bool} (st : CoroState) (dst payload : ℕ) (key : Option (ℕ × ℕ)) (w : World) (h : Sound ex w) (is : is_suspended st ≡ true) (small : ltb dst (2 ^ 16) ≡ true) (inside : in_frame w dst ≡ true) where
  module _ (a : Active) (chain : List Active) (q : w.chain ≡ a ∷ chain) where
    sliced : Cut ex w.setup (length w.stack) w.frames a chain
    sliced = cut w.setup (subst (Stands ex w.setup (length w.stack) w.frames) q h.tower.stands)

    seam : base_at a.floor w.frames ≡ sliced.b.base
    seam = base-cut w.setup sliced

    new-frames : (saved st dst a.floor w).frames ≡ map (lower sliced.b.base) (sliced.up ++ (sliced.b ∷ []))
    new-frames = ap (λ n. map (lower n) (above a.floor w.frames)) seam ∙ ap (map (lower sliced.b.base)) (above-cut w.setup sliced)

    new-length : length (saved st dst a.floor w).regs ≡ length w.stack - sliced.b.base
    new-length = length-drop (base_at a.floor w.frames) w.stack ∙ ap (λ n. length w.stack - n) seam

    new-lifts : Lifts ex w.setup (length (saved st dst a.floor w).regs) (saved st dst a.floor w).frames
    new-lifts =
        subst (λ n. Lifts ex w.setup n (saved st dst a.floor w).frames) (sym new-length)
        (subst (Lifts ex w.setup (length w.stack - sliced.b.base)) (sym new-frames) sliced.lifted)

    saved-ok : (k : Core) (r : Rest) → ObjectOk ex w.setup (Object.Coro k r) → ObjectOk ex w.setup (Object.Coro (saved st dst a.floor w) (sized (saved st dst a.floor w) r))
    saved-ok k r ok =
        let t = h.tower in
        let th = t.height in
        let td = t.depth in
        let n = new-length in
        let c = ap length new-frames in
        let c₁ = length-map (sliced.up ++ (sliced.b ∷ [])) (lower sliced.b.base) in
        let c₂ = length-append sliced.up (sliced.b ∷ []) in
        let c₃ = length-append sliced.up (sliced.b ∷ sliced.low) in
        let c₄ = ap length sliced.split in
        let top : top_base (saved st dst a.floor w).frames ≡ top_base w.frames - sliced.b.base = ap top_base new-frames ∙ top-cut w.setup sliced in
        let above : sliced.b.base ≤ top_base w.frames = sliced.top in
        let under = ltb-true (top_base w.frames + dst) (length w.stack) inside in
        sized-ok w.setup k r (saved st dst a.floor w) ok (omega arith) (omega arith) is new-lifts (omega arith) small

    lower-tower : Tower ex w.setup (take (base_at a.floor w.frames) w.stack) (below a.floor w.frames) chain
    lower-tower =
        let e = below-cut w.setup sliced in
        let c₃ = length-append sliced.up (sliced.b ∷ sliced.low) in
        let c₄ = ap length sliced.split in
        let i : base_at a.floor w.frames ≤ length w.stack = let z = seam in let y = sliced.within in omega arith in
        let l : length (below a.floor w.frames) ≤ length w.frames = let z = ap length e in omega arith in
        tower-take (base_at a.floor w.frames) h.tower i (below a.floor w.frames) chain l
        (subst (λ n. Stands ex w.setup n (below a.floor w.frames) chain) (sym seam) (subst (λ fs. Stands ex w.setup sliced.b.base fs chain) (sym e) sliced.lows))

    suspend-as : (c : Coroutine) → coro w a.coro ≡ c → Good ex (λ _ x. suspension_fine x ≡ true) (suspend_coroutine c a chain (saved st dst a.floor w) payload key w)
    suspend-as Absent e = good h refl
    suspend-as (Is k r) e =
        let s = w.setup in
        let k' = saved st dst a.floor w in
        let r' = unclose st (set_keys key (with_payload payload (sized k' r))) in
        let p = finds w.slots a.coro k r e in
        let same : SameRest (sized k' r) r' = suspended-rest k' payload key r in
        let run : is_running k.state ≡ true = sym (ap runs e) ∙ last_runs w a chain h q in
        picked (Good ex (λ _ x. suspension_fine x ≡ true)) (not (fits w (growth w k' r))) (λ _. good h refl)
        (λ room.
        good
        (left-sound w a chain h q k r p k' r' (take (base_at a.floor w.frames) w.stack) (below a.floor w.frames) (sat_add w.used (growth w k' r))
        (same_ok s k' (sized k' r) r' same (saved-ok k r (object-ok h.heap p))) (suspended-idle st is)
        (same_rows p k' r' h.heap.rows (suspended-held st is ∙ sym (running-held k.state run)) same.row) same.task same.finalized lower-tower
        (leb-true (sat_add w.used (growth w k' r)) s.limits.memory (not-false (fits w (growth w k' r)) room)))
        refl)

  suspend-on : (chain : List Active) → w.chain ≡ chain → Good ex (λ _ x. suspension_fine x ≡ true) (suspend_innermost chain st dst payload key w)
  suspend-on [] q = good h refl
  suspend-on (a ∷ chain) q =
      picked (Good ex (λ _ x. suspension_fine x ≡ true)) (leb (length w.frames) a.floor) (λ _. good h refl) (λ _. suspend-as a chain q (coro w a.coro) refl)

  pub suspend-good : Good ex (λ _ x. suspension_fine x ≡ true) (coro_suspend st dst payload key w)
  unfolding coro_suspend
  suspend-good = suspend-on w.chain refl
