-- A suspension on the world: what the code may rely on, and what each outcome leaves. Assumes nothing.
use mathlib.Core.Path.{◌≡◌, refl, sym, ap, ap₂, ◌∙◌, subst}
use mathlib.Core.Bool.{true, false, not}
use mathlib.Core.List.{List, [], ◌∷◌, map}
use Prim.Native.Nat.{ℕ, suc, ◌+◌, ◌-◌, ◌*◌, ◌≤◌, ◌<◌}
use native.Mathlib.Omega.{arith}
use lib.ListN.{length, get_or, take, drop, set, length-map, length-take, length-drop}
use lib.Dec.{leb}
use borrow.Author.Tests.{le-leb, lt-leb}
use Rattle.lists.specs.Pick.{pick, pick_true, pick-false}
use Rattle.lists.specs.Chunks.{chunk_at, put_chunk}
use Rattle.heap.specs.Slot.{suspended_words, width}
use Rattle.heap.specs.Word.{slot_of, tag_of}
use Rattle.heap.specs.Charge as Charge
use Rattle.heap.specs.Charge.{sat_add, charge_of}
use Rattle.heap.specs.Table.{Slot, slot, put_object}
use Rattle.heap.specs.Heap.{slots_of, coro_of, put_slot, SlotFits}
use Rattle.heap.specs.declared.fault.Fault.{Fault}
use Rattle.heap.specs.declared.heap.Heap.{Heap}
use Rattle.std.specs.Prelude.{Option, Result, None, Ok, Err}
use Rattle.model.specs.declared.machine.Driver.{Driver}
use Rattle.heap.specs.declared.object.CoroObj.{CoroObj}
use Rattle.heap.specs.declared.object.CoroState.{CoroState}
use Rattle.heap.specs.declared.object.Object as H
use Rattle.heap.specs.declared.object.Object.TheVariants as O
use Rattle.model.specs.State.{is_suspended, is_finished}
use Rattle.model.specs.Program.{Setup}
use Rattle.model.specs.Object.{Core, Rest, Object, with_payload}
use Rattle.model.specs.World.{World, After, after}
use Rattle.model.specs.Frames.{lower, above, below, base_at}
use Rattle.model.specs.Heap.{coro, fits}
use Rattle.model.specs.Coro.{saved, sized, growth, set_keys, unclose, event_of, put_to_sleep, suspend_coroutine, suspend_innermost, coro_suspend}
use Rattle.model.specs.Sound.{row_words, sound}
use Rattle.model.specs.declared.coro.Event.{Event}
use Rattle.model.specs.declared.machine.Active.{Active}
use Rattle.model.specs.declared.machine.Fuel.{Fuel}
use Rattle.claims_sound.proofs.States.{suspended-held}
use Rattle.memory_tables.specs.Layout.{frame_words, active_in, base_in}
use Rattle.memory_tables.specs.Parts.{Chain, Stack, SavedStack, SavedFrames, RowIs, upward}
use Rattle.memory_tables.specs.Does.{ChainDo, StackLeft, FramesLeft}
use Rattle.memory_tables.specs.Sizes.{frames_size}
use Rattle.memory_tables.proofs.Decode.{base-at, top-active}
use Rattle.memory_tables.proofs.Fits.{row_inside, leave_fits}
use Rattle.memory_world.specs.Slots.{to_slot, to_coro, to_slots}
use Rattle.memory_world.specs.Memory.{Lent, Slots, Rep, Room, regs_rows, frames_rows}
use Rattle.memory_world.specs.Lendings.{lent}
use Rattle.memory_world.specs.Contract.{Does}
use Rattle.memory_world.specs.Rows.{row_at}
use Rattle.memory_world.specs.declared.machine.Machine.{Machine}
use Rattle.memory_world.specs.declared.machine.Sizes.{Sizes}
use Rattle.memory_world.proofs.Slots.{at_map, put_same}
use Rattle.memory_world.proofs.Tables.{slots-are, slots_set, length-tabled}
use Rattle.memory_world.proofs.Lookup.{There, there, there-words, lacks, regs-row, frames-row, regs-set, frames-set}
use Rattle.memory_world.proofs.Does.{does}
use Rattle.memory_world.proofs.Turn.{turn-used, turn-stack, turn-frames, turn-chain, turn-slots}
use Rattle.coro_suspend.specs.Suspend.{growth_of, key_of, suspended, event_as, shrunk, LeaveFit, MovedOut, Found}
use Rattle.coro_suspend.proofs.Parts.{heap_of, spends, pays, suspended-is, event-is}
use Rattle.coro_suspend.proofs.Innermost.{Innermost, innermost, other}

-- ---- the chain's top

no-chain : (cs : List Active) → length cs ≡ 0 → cs ≡ []
no-chain [] e = refl
no-chain (a ∷ cs) e = absurd (omega arith)

top-is : (cs : List Active) (ws : List ℕ) (n : ℕ) (a : Active) → Chain cs ws n → 1 ≤ n → a ≡ active_in ws (n - 1) → cs ≡ a ∷ drop 1 cs
top-is [] ws n a p h e = absurd (let z = p.count in omega arith)
top-is (b ∷ cs) ws n a p h e = ap (λ x. x ∷ cs) (sym (e ∙ top-active b cs ws n p))

-- ---- one world that the words stand for

module _ (l : Sizes) (M : Lent) (m : Machine) (f : Fuel) (st : CoroState) (dst payload : ℕ) (keys : Option (ℕ × ℕ)) (w : World) (rep : Rep l w M m f) where
  abbrev goal : After (Result (Driver × Event) Fault)
  goal = coro_suspend st dst payload keys w

  -- nothing runs
  pub idle : m.active ≡ 0 → Does l goal M m f (Err Fault.CannotSuspend)
  unfolding coro_suspend
  idle e =
      does l M m f goal w (Err Fault.CannotSuspend)
      (ap (λ c. suspend_innermost c st dst payload keys w) (no-chain w.chain (sym rep.chain.count ∙ e))) rep

  module _ (a : Active) (some : 1 ≤ m.active) (top : a ≡ active_in M.chain (m.active - 1)) where
    abbrev rest : List Active
    rest = drop 1 w.chain

    pub chain-is : w.chain ≡ a ∷ rest
    chain-is = top-is w.chain M.chain m.active a rep.chain some top

    -- what is saved
    abbrev k' : Core
    k' = saved st dst a.floor w

    abbrev found_as : After (Result (Driver × Event) Fault)
    found_as = suspend_coroutine (coro w a.coro) a rest k' payload keys w

    abbrev stopped : After (Result (Driver × Event) Fault)
    stopped = after w (Err Fault.CannotSuspend)

    model-top : goal ≡ pick (leb (length w.frames) a.floor) stopped found_as
    unfolding coro_suspend
    model-top = ap (λ c. suspend_innermost c st dst payload keys w) chain-is

    -- no frame of its own
    pub no-frame : m.depth ≤ a.floor → Does l goal M m f (Err Fault.CannotSuspend)
    no-frame h =
        let e = rep.frames.count in
        does l M m f goal w (Err Fault.CannotSuspend)
        (model-top ∙ ap (λ b. pick b stopped found_as) (le-leb (length w.frames) a.floor (omega arith)) ∙ pick_true _ _) rep

    module _ (deep : a.floor < m.depth) where
      model-deep : goal ≡ found_as
      model-deep =
          let e = rep.frames.count in
          model-top ∙ ap (λ b. pick b stopped found_as) (lt-leb (length w.frames) a.floor (omega arith)) ∙ pick-false _ _

      -- its word names no coroutine
      pub not_found : (g : Fault) → Err g ≡ coro_of (slots_of m.count M.slots) a.coro → Does l goal M m f (Err Fault.TypeError)
      not_found g e =
          let q = lacks w.slots a.coro g (e ∙ ap (λ xs. coro_of xs a.coro) (slots-are (to_slots w.slots) M.slots m.count rep.slots)) in
          does l M m f goal w (Err Fault.TypeError) (model-deep ∙ ap (λ c. suspend_coroutine c a rest k' payload keys w) q.coro) rep

      -- it is in slot i, and the base of its body is read
      module _ (i : ℕ) (c : CoroObj) (found : Ok (i, c) ≡ coro_of (slots_of m.count M.slots) a.coro) (base : ℕ) (read : base ≡ base_in M.frames a.floor) where
        pub in-world : There w.slots a.coro i c
        in-world = there w.slots a.coro i c (found ∙ ap (λ xs. coro_of xs a.coro) (slots-are (to_slots w.slots) M.slots m.count rep.slots))

        abbrev k : Core
        k = in-world.core

        abbrev r : Rest
        r = in-world.rest

        -- that base, and what is saved, by the words
        base-is : base ≡ base_at a.floor w.frames
        base-is = read ∙ base-at w.frames M.frames m.depth a.floor other rep.frames deep ∙ ap (λ n. (get_or w.frames (n - suc a.floor) other).base) rep.frames.count

        regs_count : m.height - base ≡ length k'.regs
        regs_count = ap₂ (λ h b. h - b) rep.stack.count base-is ∙ sym (length-drop (base_at a.floor w.frames) w.stack)

        frames-count : m.depth - a.floor ≡ length k'.frames
        frames-count =
            let e = rep.frames.count in
            let n = length w.frames - a.floor in
            let t : length (above a.floor w.frames) ≡ m.depth - a.floor = length-take n w.frames ∙ (omega arith) in
            sym (length-map (above a.floor w.frames) (lower (base_at a.floor w.frames)) ∙ t)

        abbrev grow : ℕ
        grow = growth_of l c (m.height - base) (m.depth - a.floor)

        grow-is : grow ≡ growth w k' r
        grow-is =
            ap₂ (λ (x : CoroObj) y. (m.height - base - x.maxregs) * 8 + (m.depth - a.floor - x.maxframes) * y) in-world.is (ap (λ z. z.frame) rep.sizes.costs)
            ∙ ap₂ (λ x y. (x - r.maxregs) * 8 + (y - r.maxframes) * w.setup.costs.frame) regs_count frames-count

        fits-is : Charge.fits m.used l.memory grow ≡ fits w (growth w k' r)
        fits-is =
            ap₂ (λ x y. Charge.fits x y grow) rep.used rep.sizes.memory
            ∙ ap (λ n. Charge.fits w.used w.setup.limits.memory n) grow-is

        abbrev lacking : After (Result (Driver × Event) Fault)
        lacking = after w (Err Fault.OutOfMemory)

        abbrev left : After (Result (Driver × Event) Fault)
        left = after (put_to_sleep a rest k' payload keys r w) (Ok (a.driver, event_of st payload (set_keys keys r)))

        model-found : goal ≡ pick (not (fits w (growth w k' r))) lacking left
        model-found = model-deep ∙ ap (λ x. suspend_coroutine x a rest k' payload keys w) in-world.coro

        -- the charge is refused
        pub spent : (g : Fault) → Err g ≡ charge_of (heap_of m l) grow → Does l goal M m f (Err g)
        spent g e =
            let z = spends (heap_of m l) grow g e in
            subst (λ x. Does l goal M m f (Err x)) (sym z.1)
            (does l M m f goal w (Err Fault.OutOfMemory) (model-found ∙ ap (λ b. pick (not b) lacking left) (sym fits-is ∙ z.0) ∙ pick_true _ _) rep)

        module _ (snd : sound w ≡ true) where
          abbrev s : Setup
          s = w.setup

          known : Innermost w a k r
          known = innermost w snd a rest chain-is k r in-world.coro

          -- what is known before anything moves
          pub record Before : Type 0 where
            pub under : base ≤ m.height
            pub regs : m.height - base ≤ 1024
            pub frames : m.depth - a.floor ≤ 128
            pub cost : l.costs.frame ≤ 65536
            pub chain : m.active * 6 ≤ length M.chain
            pub slot : SlotFits M.slots i

          pub below-count : i < m.count
          below-count =
              let e₁ = rep.slots.count in
              let e₂ : length (to_slots w.slots) ≡ length w.slots = length-map w.slots to_slot in
              let p = known.points.inside in
              let q = in-world.slot in
              omega arith

          pub before : Before
          before =
              let e₁ = rep.frames.count in
              let e₂ = rep.stack.count in
              let e₃ = base-is in
              let b = known.base in
              let d = known.depth in
              let h = known.height in
              let n = known.small in
              let n₁ = n.depth in
              let n₂ = n.stack in
              let n₃ = n.frame in
              let z : l.costs.frame ≡ s.costs.frame = ap (λ z. z.frame) rep.sizes.costs in
              let t = below-count in
              let t₁ = rep.slots.within in
              record { under = omega arith; regs = omega arith; frames = omega arith; cost = omega arith; chain = rep.chain.within; slot = omega arith }

          regs-is : RowIs (λ xs. xs) (row_words s) (regs_rows s.limits.rows w.slots) r.row (c.row * l.width) [] []
          regs-is =
              let n : length (regs_rows s.limits.rows w.slots) ≡ s.limits.rows = length-tabled (λ j. (row_at j w.slots).regs) 0 s.limits.rows in
              record {
                among = subst (λ z. r.row < z) (sym n) known.row;
                place = ap₂ (λ a b. a * b) (ap (λ x. x.row) in-world.is) rep.sizes.width;
                holds = regs-row w.slots a.coro k r known.points known.own known.live s.limits.rows known.row ∙ known.regs;
                fits = omega arith;
              }

          frames-is : RowIs (upward frame_words) (frames_size s) (frames_rows s.limits.rows w.slots) r.row (c.row * (l.depth * 6)) [] []
          frames-is =
              let n : length (frames_rows s.limits.rows w.slots) ≡ s.limits.rows = length-tabled (λ j. (row_at j w.slots).frames) 0 s.limits.rows in
              record {
                among = subst (λ z. r.row < z) (sym n) known.row;
                place = ap₂ (λ a b. a * (b * 6)) (ap (λ x. x.row) in-world.is) rep.sizes.depth;
                holds = frames-row w.slots a.coro k r known.points known.own known.live s.limits.rows known.row ∙ known.frames;
                fits = omega arith;
              }

          wide : m.height - base ≤ row_words s
          wide = let e = rep.stack.count in let h = known.height in omega arith

          tall : (m.depth - a.floor) * 6 ≤ frames_size s
          tall = let e = rep.frames.count in let h = known.depth in omega arith

          pub leave-fit : Room s M → LeaveFit M.stack M.frames M.saved_stack M.saved_frames m l c.row a.floor base
          leave-fit room =
              let q = room.frames in
              let z = rep.sizes.depth in
              let e = rep.frames.count in
              let t = row_inside (λ xs. xs) (row_words s) (regs_rows s.limits.rows w.slots) M.saved_stack r.row (c.row * l.width) [] [] rep.saved_stack regs-is in
              let y = wide in
              record {
                under = before.under;
                on-stack = rep.stack.within;
                in-saved = omega arith;
                deep = omega arith;
                leaving =
                    leave_fits (frames_size s) (frames_rows s.limits.rows w.slots) M.frames M.saved_frames m.depth a.floor base r.row (c.row * (l.depth * 6)) w.frames other
                    rep.frames rep.saved_frames frames-is (omega arith) tall
                    (λ j h. let b = known.bases j (omega arith) in let x = base-is in omega arith);
              }

          -- the suspension
          module _ (stack' frames' chain' slots' saved_stack' saved_frames' : List ℕ) where
            abbrev r' : Rest
            r' = unclose st (set_keys keys (with_payload payload (sized k' r)))

            abbrev d : CoroObj
            d = suspended st (m.height - base) (m.depth - a.floor) dst payload keys c

            record_is : to_coro k' r' ≡ d
            record_is =
                suspended-is k k' r payload keys
                ∙ ap₂ (λ x y. suspended st x y dst payload keys (to_coro k r)) (sym regs_count) (sym frames-count)
                ∙ ap (λ x. suspended st (m.height - base) (m.depth - a.floor) dst payload keys x) (sym in-world.is)

            row_same : r'.row ≡ r.row
            row_same = ap (λ x. x.row) (suspended-is k k' r payload keys)

            slots-after : slots' ≡ put_slot M.slots i (slot (tag_of a.coro) (O.Coro d)) → Slots (to_slots (put_to_sleep a rest k' payload keys r w).slots) slots' m.count
            slots-after e =
                let v = a.coro in
                let y : Slot H.Object = slot (tag_of v) (O.Coro d) in
                let o : Object = Object.Coro k' r' in
                let tag : (get_or (to_slots w.slots) (slot_of v) (slot 0 O.Empty)).tag ≡ tag_of v = ap (λ (x : Slot H.Object). x.tag) (at_map w.slots (slot_of v)) ∙ known.points.tag in
                let same : to_slots (put_object Object.Empty w.slots (slot_of v) o) ≡ set (to_slots w.slots) i y =
                put_same w.slots (slot_of v) o
                ∙ ap₂ (λ t (x : CoroObj). set (to_slots w.slots) (slot_of v) (slot t (O.Coro x))) tag record_is
                ∙ ap (λ j. set (to_slots w.slots) j y) (sym in-world.slot) in
                subst (λ xs. Slots xs slots' m.count) (sym same)
                (subst (λ z. Slots (set (to_slots w.slots) i y) z m.count) (sym e) (slots_set (to_slots w.slots) M.slots m.count i y rep.slots below-count))

            abbrev M' : Lent
            M' = record { stack = stack'; frames = frames'; chain = chain'; slots = slots'; saved_stack = saved_stack'; saved_frames = saved_frames'; ready = M.ready; finalize = M.finalize; setup = M.setup }

            event-same : event_of st payload (set_keys keys r) ≡ event_as st payload c.closing (key_of keys c.key)
            event-same = event-is st payload keys r ∙ ap (λ (x : CoroObj). event_as st payload x.closing (key_of keys x.key)) (sym in-world.is)

            done : (g : Heap) → is_suspended st ≡ true → Ok g ≡ charge_of (heap_of m l) grow
                → MovedOut M.stack M.frames M.saved_stack M.saved_frames stack' frames' saved_stack' saved_frames' m l c.row a.floor base
                → ChainDo (drop 1) M.chain chain' m.active (m.active - 1)
                → slots' ≡ put_slot M.slots i (slot (tag_of a.coro) (O.Coro d))
                → Does l goal M' (shrunk m base a.floor g.used) f (Ok (a.driver, event_as st payload c.closing (key_of keys c.key)))
            done g is paid moves pop mark =
                let b = base_at a.floor w.frames in
                let pay = pays (heap_of m l) grow g paid in
                let rs = regs_rows s.limits.rows w.slots in
                let gs = frames_rows s.limits.rows w.slots in
                let held : is_finished k'.state ≡ false = suspended-held st is in
                let on : StackLeft (row_words s) base w.stack rs r.row stack' saved_stack' = moves.on-stack (row_words s) w.stack rs r.row rep.stack rep.saved_stack regs-is wide in
                let up : FramesLeft (frames_size s) a.floor base w.frames gs r.row frames' saved_frames' = moves.on-frames (frames_size s) w.frames gs r.row rep.frames rep.saved_frames frames-is tall in
                let answer = Ok (a.driver, event_as st payload c.closing (key_of keys c.key)) in
                does l M' (shrunk m base a.floor g.used) f goal (put_to_sleep a rest k' payload keys r w) answer
                (model-found ∙ ap (λ t. pick (not t) lacking left) (sym fits-is ∙ pay.0) ∙ pick-false _ _
                ∙ ap (λ t. after (put_to_sleep a rest k' payload keys r w) (Ok (a.driver, t))) event-same)
                (turn-slots l _ _ _ f
                (turn-chain l _ _ _ f
                (turn-frames l _ _ _ f
                (turn-stack l _ _ _ f (turn-used l w M m f rep g.used (sat_add w.used (growth w k' r)) (pay.1 ∙ ap₂ (λ x y. sat_add x y) rep.used grow-is))
                (take b w.stack) stack' base (subst (λ n. Stack (take n w.stack) stack' base) base-is on.stack))
                (below a.floor w.frames) frames' a.floor up.frames)
                rest chain' (m.active - 1) (pop w.chain rep.chain))
                (put_to_sleep a rest k' payload keys r w).slots slots' saved_stack' saved_frames' m.count (slots-after mark)
                (subst (λ z. SavedStack (row_words s) z saved_stack')
                (ap (λ n. set rs r.row (drop n w.stack)) base-is ∙ regs-set w.slots a.coro k r known.points known.own known.live k' r' row_same held s.limits.rows) on.saved)
                (subst (λ z. SavedFrames (frames_size s) z saved_frames')
                (ap (λ n. set gs r.row (map (lower n) (above a.floor w.frames))) base-is ∙ frames-set w.slots a.coro k r known.points known.own known.live k' r' row_same held s.limits.rows) up.saved))

            pub accepted : (g : Heap) (x : CoroObj) (n : Machine) (event : Event) → is_suspended st ≡ true → Ok g ≡ charge_of (heap_of m l) grow
                → MovedOut M.stack M.frames M.saved_stack M.saved_frames stack' frames' saved_stack' saved_frames' m l c.row a.floor base
                → ChainDo (drop 1) M.chain chain' m.active (m.active - 1)
                → x ≡ d
                → slots' ≡ put_chunk width M.slots i (suspended_words x (chunk_at width M.slots i))
                → event ≡ event_as st payload c.closing x.key
                → n ≡ shrunk m base a.floor g.used
                → Does l goal M' n f (Ok (a.driver, event))
            accepted g x n event is paid moves pop ex mark ee en =
                subst (λ z. Does l goal M' z f (Ok (a.driver, event))) (sym en)
                (subst (λ z. Does l goal M' (shrunk m base a.floor g.used) f (Ok (a.driver, z)))
                (sym (ee ∙ ap (λ (y : CoroObj). event_as st payload c.closing y.key) ex))
                (done g is paid moves pop (mark ∙ ap₂ (λ y z. put_chunk width M.slots i (suspended_words y z)) ex (there-words w.slots a.coro i c in-world M.slots m.count rep.slots))))

-- ---- the same, where the innermost coroutine was found

module _ {l : Sizes} {stack frames chain slots saved_stack saved_frames : List ℕ} {m : Machine} {st : CoroState} {a : Active} {i : ℕ} {c : CoroObj} {base : ℕ}
    (p : Found l stack frames chain slots saved_stack saved_frames m st a i c) (read : base ≡ base_in frames a.floor) where
  abbrev M₀ : Lent
  M₀ = lent stack frames chain slots saved_stack saved_frames p.ok.beside

  pub found_before : Before l M₀ m p.ok.beside.fuel st 0 0 None p.ok.world p.ok.rep a p.some p.top p.floor i c p.coro base read p.ok.sound
  found_before = before l M₀ m p.ok.beside.fuel st 0 0 None p.ok.world p.ok.rep a p.some p.top p.floor i c p.coro base read p.ok.sound

  pub found-leaves : LeaveFit stack frames saved_stack saved_frames m l c.row a.floor base
  found-leaves =
      leave-fit l M₀ m p.ok.beside.fuel st 0 0 None p.ok.world p.ok.rep a p.some p.top p.floor i c p.coro base read p.ok.sound p.ok.room
