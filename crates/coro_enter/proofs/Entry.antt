-- An entry on the world: what the code may rely on, and what each outcome leaves. Assumes nothing.
use mathlib.Core.Path.{◌≡◌, refl, sym, ap, ap₂, ◌∙◌, subst}
use mathlib.Core.Bool.{Bool, true, false, not, ◌&&◌, ◌||◌}
use mathlib.Core.List.{List, [], ◌∷◌, ◌++◌, map}
use Prim.Native.Nat.{ℕ, suc, ◌+◌, ◌*◌, ◌^◌, ◌≤◌, ◌<◌}
use native.Mathlib.Omega.{arith}
use lib.ListN.{length, get_or, set, length-map}
use lib.Dec.{eqb, ltb, leb}
use borrow.Author.Tests.{leb-true, ltb-false, not-false, ne_eqb}
use Rattle.lists.proofs.Tests.{never}
use Rattle.lists.specs.Pick.{pick, pick_true}
use Rattle.lists.specs.Chunks.{chunk_at, put_chunk}
use Rattle.heap.specs.Object.{as_entered}
use Rattle.heap.specs.Slot.{entered_words, width}
use Rattle.heap.specs.Word.{slot_of, tag_of}
use Rattle.heap.specs.Table.{Slot, slot, put_object}
use Rattle.heap.specs.Heap.{slots_of, coro_of, put_slot, SlotFits}
use Rattle.heap.specs.declared.fault.Fault.{Fault}
use Rattle.std.specs.Prelude.{Result, Err}
use Rattle.model.specs.declared.coro.Entered.{Entered}
use Rattle.heap.specs.declared.object.CoroObj.{CoroObj}
use Rattle.heap.specs.declared.object.CoroState.{CoroState}
use Rattle.heap.specs.declared.object.Object as H
use Rattle.heap.specs.declared.object.Object.TheVariants as O
use Rattle.model.specs.Lists.{is_nil, each, distinct}
use Rattle.model.specs.State.{is_created, is_resumable, is_finished}
use Rattle.model.specs.Object.{Core, Rest, Object, Is}
use Rattle.model.specs.World.{World, After, after}
use Rattle.model.specs.Frames.{raise}
use Rattle.model.specs.Rows.{held_rows}
use Rattle.model.specs.Coro.{active, in_state, sized, entered, overflows, enter_as, coro_enter}
use Rattle.model.specs.Sound.{row_words, sound, bases_ok, frame_names, conts_lie, catches_lie, frames_over, body_last, waits, saved_in, saved_sizes}
use Rattle.model.specs.Program.{Setup}
use Rattle.model.specs.declared.machine.Cont.{Cont}
use Rattle.model.specs.declared.machine.Driver.{Driver}
use Rattle.model.specs.declared.machine.Frame.{Frame}
use Rattle.model.specs.declared.machine.Fuel.{Fuel}
use Rattle.claims_sound.proofs.Tests.{no_false, no_true, and_left, and_right, or-first, or-second}
use Rattle.claims_sound.proofs.Point.{Points, finds}
use Rattle.claims_sound.proofs.Stand.{chained}
use Rattle.claims_sound.proofs.Sound.{Sound, sound→}
use Rattle.claims_sound.proofs.Coros.{object-ok}
use Rattle.claims_sound.proofs.States.{resumable-held}
use Rattle.memory_tables.specs.Layout.{frame_words}
use Rattle.memory_tables.specs.Parts.{Frames, Chain, SavedStack, SavedFrames, RowIs, upward}
use Rattle.memory_tables.specs.Does.{ChainDo, StackEntered, FramesEntered}
use Rattle.memory_tables.specs.Sizes.{frames_size}
use Rattle.memory_tables.proofs.Codes.{length-frame}
use Rattle.memory_tables.proofs.Parts.{length-upward}
use Rattle.memory_tables.proofs.Fits.{row_inside, enter-fits}
use Rattle.memory_world.specs.Slots.{to_slot, to_slots}
use Rattle.memory_world.specs.Memory.{Lent, Beside, Slots, Rep, Room, regs_rows, frames_rows}
use Rattle.memory_world.specs.Contract.{Does, Ok, only}
use Rattle.memory_world.specs.Rows.{row_at}
use Rattle.memory_world.specs.declared.machine.Machine.{Machine}
use Rattle.memory_world.specs.declared.machine.Sizes.{Sizes}
use Rattle.memory_world.proofs.Slots.{at_map, put_same}
use Rattle.memory_world.proofs.Tables.{slots-are, slots_set, length-tabled}
use Rattle.memory_world.proofs.Lookup.{There, there, there-words, lacks, regs-row, frames-row, row_below, regs-set, frames-set}
use Rattle.coro_enter.specs.Enter.{refusal_of, entered_as, grown, MoveFits, Moves}
use Rattle.machine_state.proofs.Bases.{bases-under}
use Rattle.memory_world.proofs.Does.{does}
use Rattle.memory_world.proofs.Turn.{turn-stack, turn-frames, turn-chain, turn-slots}

-- ---- lists

nil-length : {A : Type 0} (xs : List A) → eqb (length xs) 0 ≡ is_nil xs
nil-length [] = refl
nil-length (x ∷ xs) = ne_eqb (suc (length xs)) 0 (λ z. omega arith)

some-frame : (fs : List Frame) → is_nil fs ≡ false → 1 ≤ length fs
some-frame [] e = no_true e
some-frame (f ∷ fs) e = omega arith

-- ---- the verdict

abbrev pub verdict : Bool → Bool → Result Unit Fault
verdict a b = pick a (Err Fault.InvalidCoroState) (pick b (Err Fault.StackOverflow) (Result.Ok tt))

refuses : (a b : Bool) (f : Fault) (w : World) (o : After (Result Entered Fault)) → Err f ≡ verdict a b
    → pick a (after w (Err Fault.InvalidCoroState)) (pick b (after w (Err Fault.StackOverflow)) o) ≡ after w (Err f)
unfolding pick
refuses true b f w o e = let z : Fault.InvalidCoroState ≡ f = cc in ap (λ g. after w (Err g)) z
refuses false true f w o e = let z : Fault.StackOverflow ≡ f = cc in ap (λ g. after w (Err g)) z
refuses false false f w o e = never cc

passes : (a b : Bool) (u : Unit) → Result.Ok u ≡ verdict a b → (a ≡ false) × (b ≡ false)
unfolding pick
passes true b u e = never cc
passes false true u e = never cc
passes false false u e = (refl, refl)

accepts : (a b : Bool) (w : World) (o : After (Result Entered Fault)) → a ≡ false → b ≡ false
    → pick a (after w (Err Fault.InvalidCoroState)) (pick b (after w (Err Fault.StackOverflow)) o) ≡ o
unfolding pick
accepts false false w o p q = refl
accepts false true w o p q = no_true q
accepts true b w o p q = no_true p

-- ---- one world that the words stand for

-- there is room for a coroutine that may be entered
pub record Grows (l : Sizes) (M : Lent) (m : Machine) (i : ℕ) (c : CoroObj) : Type 0 where
  pub chain : m.active * 6 + 6 ≤ length M.chain
  pub slot : SlotFits M.slots i
  pub height : m.height + c.regs ≤ l.stack
  pub depth : m.depth + c.frames ≤ l.depth
  pub active : m.active + 1 ≤ l.depth

module _ (l : Sizes) (M : Lent) (m : Machine) (f : Fuel) (v : ℕ) (w : World) (rep : Rep l w M m f) where
  -- no coroutine is found
  pub not_found : (d : Driver) (g : Fault) → Err g ≡ coro_of (slots_of m.count M.slots) v → Does l (coro_enter v d w) M m f (Err g)
  unfolding coro_enter
  not_found d g e =
      let q = lacks w.slots v g (e ∙ ap (λ xs. coro_of xs v) (slots-are (to_slots w.slots) M.slots m.count rep.slots)) in
      does l M m f (coro_enter v d w) w (Err g) (ap (λ k. enter_as k v d w) q.coro ∙ ap (λ x. after w (Err x)) (sym q.fault)) rep

  module _ (i : ℕ) (c : CoroObj) (found : Result.Ok (i, c) ≡ coro_of (slots_of m.count M.slots) v) where
    pub in-world : There w.slots v i c
    in-world = there w.slots v i c (found ∙ ap (λ xs. coro_of xs v) (slots-are (to_slots w.slots) M.slots m.count rep.slots))

    abbrev k : Core
    k = in-world.core

    abbrev r : Rest
    r = in-world.rest

    abbrev pub unfit : Bool
    unfit = not (is_resumable k.state) || is_nil k.frames

    pub same-verdict : refusal_of m.height m.depth l c ≡ verdict unfit (overflows k w)
    same-verdict =
        ap (refusal_of m.height m.depth l) in-world.is
        ∙ ap (λ b. verdict (not (is_resumable k.state) || b) (ltb l.depth (m.depth + length k.frames) || ltb l.stack (m.height + length k.regs))) (nil-length k.frames)
        ∙ ap₂ (λ x y. verdict unfit (ltb x (m.depth + length k.frames) || ltb y (m.height + length k.regs))) rep.sizes.depth rep.sizes.stack
        ∙ ap₂ (λ x y. verdict unfit (ltb w.setup.limits.depth (x + length k.frames) || ltb w.setup.limits.stack (y + length k.regs))) rep.frames.count rep.stack.count

    pub model-enter : (d : Driver) → coro_enter v d w ≡ enter_as (Is k r) v d w
    unfolding coro_enter
    model-enter d = ap (λ x. enter_as x v d w) in-world.coro

    pub refused : (d : Driver) (g : Fault) → Err g ≡ refusal_of m.height m.depth l c → Does l (coro_enter v d w) M m f (Err g)
    refused d g e =
        does l M m f (coro_enter v d w) w (Err g)
        (model-enter d ∙ refuses unfit (overflows k w) g w (after (entered v d k r w) (pick (is_created k.state) (Result.Ok Entered.Fresh) (Result.Ok (Entered.Suspended k.waiting)))) (e ∙ same-verdict)) rep

    module _ (snd : sound w ≡ true) where
      abbrev s : Setup
      s = w.setup

      known : Sound false w
      known = sound→ w snd (λ z. no_false z)

      points : Points w.slots v (Object.Coro k r)
      points = finds w.slots v k r in-world.coro

      -- what is known before the refusals are tested
      pub record Before : Type 0 where
        pub depth : m.depth ≤ l.depth
        pub height : m.height ≤ l.stack
        pub below : i < m.count
        pub active : m.active ≤ m.depth

      pub before : Before
      before =
          let a = known.tower.depth in
          let b = known.tower.height in
          let e₁ = rep.frames.count in
          let e₂ = rep.stack.count in
          let e₃ = rep.chain.count in
          let e₄ = rep.slots.count in
          let e₅ : length (to_slots w.slots) ≡ length w.slots = length-map w.slots to_slot in
          let z₁ = rep.sizes.depth in
          let z₂ = rep.sizes.stack in
          let p = points.inside in
          let q = in-world.slot in
          let ch = chained known.tower.stands in
          record { depth = omega arith; height = omega arith; below = omega arith; active = omega arith }

      -- what is known when nothing is refused
      module _ (u : Unit) (told : Result.Ok u ≡ refusal_of m.height m.depth l c) where
        clear : (unfit ≡ false) × (overflows k w ≡ false)
        clear = passes unfit (overflows k w) u (told ∙ same-verdict)

        may : is_resumable k.state ≡ true
        may = not-false (is_resumable k.state) (or-first (not (is_resumable k.state)) (is_nil k.frames) clear.0)

        live : is_finished k.state ≡ false
        live = resumable-held k.state may

        deep : length w.frames + length k.frames ≤ s.limits.depth
        deep = ltb-false s.limits.depth (length w.frames + length k.frames) (or-first (ltb s.limits.depth (length w.frames + length k.frames)) (ltb s.limits.stack (length w.stack + length k.regs)) clear.1)

        high : length w.stack + length k.regs ≤ s.limits.stack
        high = ltb-false s.limits.stack (length w.stack + length k.regs) (or-second (ltb s.limits.depth (length w.frames + length k.frames)) (ltb s.limits.stack (length w.stack + length k.regs)) clear.1)

        some : 1 ≤ length k.frames
        some = some-frame k.frames (or-second (not (is_resumable k.state)) (is_nil k.frames) clear.0)

        own : distinct (held_rows w.slots) ≡ true
        own = known.heap.rows.own

        row : r.row < s.limits.rows
        row = row_below w.slots v k r points own live s.limits.rows known.heap.rows.inside

        fits : (length k.regs ≤ row_words s) × (length k.frames ≤ s.limits.depth)
        fits =
            let h : saved_sizes s (Is k r) ≡ true = (object-ok known.heap points).sizes in
            let a₁ = and_left (leb (length k.regs) (row_words s) && leb (length k.frames) s.limits.depth && leb r.maxregs (row_words s)) (leb r.maxframes s.limits.depth) h in
            let a₂ = and_left (leb (length k.regs) (row_words s) && leb (length k.frames) s.limits.depth) (leb r.maxregs (row_words s)) a₁ in (
              leb-true (length k.regs) (row_words s) (and_left (leb (length k.regs) (row_words s)) (leb (length k.frames) s.limits.depth) a₂),
              leb-true (length k.frames) s.limits.depth (and_right (leb (length k.regs) (row_words s)) (leb (length k.frames) s.limits.depth) a₂),
            )

        bases : bases_ok (length k.regs) k.frames ≡ true
        bases =
            let n = length k.regs in
            let fs = k.frames in
            let h : saved_in s (Is k r) ≡ true = (object-ok known.heap points).saved in
            let a : (body_last fs && frames_over s n fs && waits k) ≡ true =
            sym (ap (λ b. pick b (body_last fs && frames_over s n fs && waits k) (is_nil fs && is_nil k.regs)) may ∙ pick_true _ _) ∙ h in
            let b = and_right (body_last fs) (frames_over s n fs) (and_left (body_last fs && frames_over s n fs) (waits k) a) in
            let b₁ = and_left (bases_ok n fs && each (frame_names s) fs && conts_lie fs) (catches_lie s n fs) b in
            let b₂ = and_left (bases_ok n fs && each (frame_names s) fs) (conts_lie fs) b₁ in
            and_left (bases_ok n fs) (each (frame_names s) fs) b₂

        regs-is : RowIs (λ xs. xs) (row_words s) (regs_rows s.limits.rows w.slots) r.row (c.row * l.width) k.regs []
        regs-is =
            let n : length (regs_rows s.limits.rows w.slots) ≡ s.limits.rows = length-tabled (λ j. (row_at j w.slots).regs) 0 s.limits.rows in
            record {
              among = subst (λ z. r.row < z) (sym n) row;
              place = ap₂ (λ a b. a * b) (ap (λ x. x.row) in-world.is) rep.sizes.width;
              holds = regs-row w.slots v k r points own live s.limits.rows row;
              fits = fits.0;
            }

        frames-is : RowIs (upward frame_words) (frames_size s) (frames_rows s.limits.rows w.slots) r.row (c.row * (l.depth * 6)) k.frames []
        frames-is =
            let n : length (frames_rows s.limits.rows w.slots) ≡ s.limits.rows = length-tabled (λ j. (row_at j w.slots).frames) 0 s.limits.rows in
            let u : length (upward frame_words k.frames) ≡ length k.frames * 6 = length-upward frame_words 6 length-frame k.frames in
            let y = fits.1 in
            record {
              among = subst (λ z. r.row < z) (sym n) row;
              place = ap₂ (λ a b. a * (b * 6)) (ap (λ x. x.row) in-world.is) rep.sizes.depth;
              holds = frames-row w.slots v k r points own live s.limits.rows row;
              fits = omega arith;
            }

        regs_count : c.regs ≡ length k.regs
        regs_count = ap (λ x. x.regs) in-world.is

        frames-count : c.frames ≡ length k.frames
        frames-count = ap (λ x. x.frames) in-world.is

        pub move-fits : Room s M → length M.stack < 2 ^ 64 → MoveFits M.stack M.frames M.saved_stack M.saved_frames m.height m.depth l c
        move-fits room small =
            let q₁ = room.stack in
            let q₂ = room.frames in
            let z₁ = rep.sizes.depth in
            let z₂ = rep.sizes.stack in
            let e₁ = rep.stack.count in
            let e₂ = rep.frames.count in
            let c₁ = regs_count in
            let c₂ = frames-count in
            let d₁ = deep in
            let d₂ = high in
            let t = row_inside (λ xs. xs) (row_words s) (regs_rows s.limits.rows w.slots) M.saved_stack r.row (c.row * l.width) k.regs [] rep.saved_stack regs-is in
            let y = fits.0 in
            let none-frame : Frame = record { func = 0; pc = 0; base = 0; closure = 0; cont = Cont.Entry } in
            record {
              on-stack = omega arith;
              in-saved = omega arith;
              deep = omega arith;
              entering =
                  enter-fits (frames_size s) (frames_rows s.limits.rows w.slots) M.frames M.saved_frames m.depth r.row (c.row * (l.depth * 6)) c.frames m.height k.frames none-frame
                  rep.saved_frames frames-is frames-count (omega arith)
                  (λ j h. let b = bases-under (length k.regs) k.frames none-frame bases j h in omega arith);
            }

        abbrev pub Sums : Type 0
        Sums = Grows l M m i c

        pub sums : Room s M → Sums
        sums room =
            let q = room.chain in
            let z₁ = rep.sizes.depth in
            let z₂ = rep.sizes.stack in
            let e₁ = rep.stack.count in
            let e₂ = rep.frames.count in
            let c₁ = regs_count in
            let c₂ = frames-count in
            let d₁ = deep in
            let d₂ = high in
            let b = before in
            let b₁ = b.active in
            let b₂ = b.below in
            let p = some in
            let n = rep.slots.within in
            record { chain = omega arith; slot = omega arith; height = omega arith; depth = omega arith; active = omega arith }

        -- the entry
        module _ (d : Driver) (stack' frames' chain' slots' saved_stack' saved_frames' : List ℕ) where
          slots-after : slots' ≡ put_slot M.slots i (slot (tag_of v) (O.Coro (as_entered c))) → Slots (to_slots (entered v d k r w).slots) slots' m.count
          slots-after e =
              let y : Slot H.Object = slot (tag_of v) (O.Coro (as_entered c)) in
              let o : Object = Object.Coro (in_state CoroState.Running k) (sized k r) in
              let tag : (get_or (to_slots w.slots) (slot_of v) (slot 0 O.Empty)).tag ≡ tag_of v = ap (λ (x : Slot H.Object). x.tag) (at_map w.slots (slot_of v)) ∙ points.tag in
              let same : to_slots (put_object Object.Empty w.slots (slot_of v) o) ≡ set (to_slots w.slots) i y =
              put_same w.slots (slot_of v) o
              ∙ ap₂ (λ t (x : CoroObj). set (to_slots w.slots) (slot_of v) (slot t (O.Coro (as_entered x)))) tag (sym in-world.is)
              ∙ ap (λ j. set (to_slots w.slots) j y) (sym in-world.slot) in
              subst (λ xs. Slots xs slots' m.count) (sym same)
              (subst (λ z. Slots (set (to_slots w.slots) i y) z m.count) (sym e) (slots_set (to_slots w.slots) M.slots m.count i y rep.slots before.below))

          abbrev M' : Lent
          M' = record { stack = stack'; frames = frames'; chain = chain'; slots = slots'; saved_stack = saved_stack'; saved_frames = saved_frames'; ready = M.ready; finalize = M.finalize; setup = M.setup }

          done : (a : Result Entered Fault)
              → Moves M.stack M.frames M.saved_stack M.saved_frames stack' frames' saved_stack' saved_frames' m.height m.depth l c
              → ChainDo (λ cs. active v m.depth d ∷ cs) M.chain chain' m.active (m.active + 1)
              → slots' ≡ put_slot M.slots i (slot (tag_of v) (O.Coro (as_entered c)))
              → a ≡ entered_as c
              → Does l (coro_enter v d w) M' (grown m c) f a
          done a moves push mark ea =
              let k' : Core = in_state CoroState.Running k in
              let answer : a ≡ pick (is_created k.state) (Result.Ok Entered.Fresh) (Result.Ok (Entered.Suspended k.waiting)) = ea ∙ ap entered_as in-world.is in
              let rs = regs_rows s.limits.rows w.slots in
              let gs = frames_rows s.limits.rows w.slots in
              let on : StackEntered (row_words s) w.stack k.regs rs r.row stack' saved_stack' (m.height + c.regs) =
              moves.on-stack (row_words s) w.stack k.regs rs r.row rep.stack rep.saved_stack regs-is regs_count in
              let up : FramesEntered (frames_size s) m.height w.frames k.frames gs r.row frames' saved_frames' (m.depth + c.frames) =
              moves.on-frames (frames_size s) w.frames k.frames gs r.row rep.frames rep.saved_frames frames-is frames-count in
              does l M' (grown m c) f (coro_enter v d w) (entered v d k r w) a
              (model-enter d
              ∙ accepts unfit (overflows k w) w (after (entered v d k r w) (pick (is_created k.state) (Result.Ok Entered.Fresh) (Result.Ok (Entered.Suspended k.waiting)))) clear.0 clear.1
              ∙ ap (after (entered v d k r w)) (sym answer))
              (turn-slots l _ _ _ f
              (turn-chain l _ _ _ f
              (turn-frames l _ _ _ f
              (turn-stack l w M m f rep (w.stack ++ k.regs) stack' (m.height + c.regs) on.stack)
              (map (raise (length w.stack)) k.frames ++ w.frames) frames' (m.depth + c.frames) (subst (λ n. Frames (map (raise n) k.frames ++ w.frames) frames' (m.depth + c.frames)) rep.stack.count up.frames))
              (active v (length w.frames) d ∷ w.chain) chain' (m.active + 1) (subst (λ n. Chain (active v n d ∷ w.chain) chain' (m.active + 1)) rep.frames.count (push w.chain rep.chain)))
              (entered v d k r w).slots slots' saved_stack' saved_frames' m.count (slots-after mark)
              (subst (λ z. SavedStack (row_words s) z saved_stack') (regs-set w.slots v k r points own live k' (sized k r) refl refl s.limits.rows) on.saved)
              (subst (λ z. SavedFrames (frames_size s) z saved_frames') (frames-set w.slots v k r points own live k' (sized k r) refl refl s.limits.rows) up.saved))

          pub accepted : (n : Machine) (a : Result Entered Fault)
              → Moves M.stack M.frames M.saved_stack M.saved_frames stack' frames' saved_stack' saved_frames' m.height m.depth l c
              → ChainDo (λ cs. active v m.depth d ∷ cs) M.chain chain' m.active (m.active + 1)
              → slots' ≡ put_chunk width M.slots i (entered_words (chunk_at width M.slots i))
              → a ≡ entered_as c
              → n ≡ grown m c
              → Does l (coro_enter v d w) M' n f a
          accepted n a moves push mark ea en =
              let here = there-words w.slots v i c in-world M.slots m.count rep.slots in
              subst (λ z. Does l (coro_enter v d w) M' z f a) (sym en)
              (done a moves push (mark ∙ ap (λ z. put_chunk width M.slots i (entered_words z)) here) ea)

-- ---- the same, of what the contract asks

module _ {l : Sizes} {M : Beside → Lent} {m : Machine} {i : ℕ} {c : CoroObj} (o : Ok l M (only m)) (v : ℕ) (found : Result.Ok (i, c) ≡ coro_of (slots_of m.count (M o.beside).slots) v) where
  pub ok-before : (m.depth ≤ l.depth) × (m.height ≤ l.stack)
  ok-before = let b = before l (M o.beside) m o.beside.fuel v o.world o.rep i c found o.sound in (b.depth, b.height)

  module _ {u : Unit} (told : Result.Ok u ≡ refusal_of m.height m.depth l c) where
    pub ok-moves : length (M o.beside).stack < 2 ^ 64
        → MoveFits (M o.beside).stack (M o.beside).frames (M o.beside).saved_stack (M o.beside).saved_frames m.height m.depth l c
    ok-moves = move-fits l (M o.beside) m o.beside.fuel v o.world o.rep i c found o.sound u told o.room

    pub ok-sums : Grows l (M o.beside) m i c
    ok-sums = sums l (M o.beside) m o.beside.fuel v o.world o.rep i c found o.sound u told o.room
