-- A creation on the world: what the code may rely on, and what each outcome leaves. Assumes nothing.
use Rattle.std.proofs.Common.{◌≡◌, ℕ, ◌+◌, ◌*◌, ◌%◌, ◌^◌, ◌<◌, ◌≤◌, Bool, true, false, not, ◌||◌, ltb, leb, List, [], ◌∷◌, length, get_or, take, set, sym, refl, ap, ◌∙◌, subst, ap₂, subst₂, mul_assoc, arith, leb-false}
use Rattle.lists.specs.Pick.{pick}
use Rattle.lists.specs.Parts.{splice, pad}
use Rattle.lists.proofs.Tests.{never}
use Rattle.heap.specs.Charge as Charge
use Rattle.heap.specs.Table.{Slot}
use Rattle.heap.specs.Heap.{slots_of, out, alloc_of, TableFits}
use Rattle.heap.specs.declared.fault.Fault.{Fault}
use Rattle.heap.specs.declared.heap.Heap.{Heap}
use Rattle.std.specs.Prelude.{Result, Ok, Err}
use Rattle.heap.specs.declared.object.CoroObj.{CoroObj}
use Rattle.heap.specs.declared.object.Object as HO
use Rattle.heap.specs.declared.object.Object.TheVariants as O
use Rattle.heap.specs.declared.value.Word.{Word}
use Rattle.model.specs.Lists.{among}
use Rattle.model.specs.Program.{Setup, func}
use Rattle.model.specs.Object.{Object}
use Rattle.model.specs.World.{World, After, with_seq}
use Rattle.model.specs.Frames.{frame}
use Rattle.model.specs.Heap.{fits, slots_full, refuse, alloc}
use Rattle.model.specs.Rows.{held_rows, lowest_free, free_row, rows_full}
use Rattle.model.specs.Coro.{new_regs, new_core, new_rest, coro_create}
use Rattle.model.specs.Sound.{row_words, sound}
use Rattle.model.specs.declared.machine.Cont.{Cont}
use Rattle.model.specs.declared.machine.Frame.{Frame}
use Rattle.model.specs.declared.machine.Fuel.{Fuel}
use Rattle.claims_sound.proofs.Sound.{facts}
use Rattle.claims_sound.proofs.Make.{length-new_regs, regs-widest}
use Rattle.claims_sound.proofs.Held.{lowest-free}
use Rattle.memory_tables.specs.Layout.{function_in, frame_words}
use Rattle.memory_tables.specs.Parts.{SavedStack, SavedFrames, RowIs, upward}
use Rattle.memory_tables.specs.Sizes.{frames_size}
use Rattle.memory_tables.proofs.Rowed.{rows_fill}
use Rattle.memory_tables.proofs.Fits.{row_inside, frames-row}
use Rattle.memory_world.specs.Slots.{to_object, to_slots}
use Rattle.memory_world.specs.Rows.{row_at}
use Rattle.memory_world.specs.Memory.{Lent, on_slots, on_saved, Rep, regs_rows, frames_rows}
use Rattle.memory_world.specs.Contract.{Does}
use Rattle.memory_world.specs.declared.machine.Machine.{Machine}
use Rattle.memory_world.specs.declared.machine.Sizes.{Sizes}
use Rattle.memory_world.proofs.Rows.{nobody}
use Rattle.memory_world.proofs.Turn.{turn-seq}
use Rattle.memory_world.proofs.Tables.{slots-are, rows_at, length-tabled}
use Rattle.memory_world.proofs.Does.{does}
use Rattle.machine_state.specs.Numbers.{heap_of, allocated}
use Rattle.coro_create.specs.Numbers.{sequenced}
use Rattle.coro_create.specs.Row.{held_in}
use Rattle.coro_create.specs.Create.{bytes_of, unless_lacking, spot_of, new_object, copied_of, WriteFits, Writes}
use Rattle.coro_create.proofs.Held.{free-same}
use Rattle.machine_state.proofs.Pushed.{alloc-done, alloc-lacks}
use Rattle.machine_state.proofs.Allocation.{fits-same, full-same, alloc-refused, alloc-made}
use Rattle.coro_create.proofs.Setting.{known, one_of, regs-is, numbers}
use Rattle.coro_create.proofs.NewRow.{regs-new, frames-new, regs_written}

-- ---- the tests of the code and of the model

abbrev spot_by : Bool → Bool → Bool → ℕ → Result ℕ Fault
spot_by a b c row = unless_lacking (pick a (pick b (Ok tt) (Err Fault.Full)) (Err Fault.OutOfMemory)) (pick c (Err Fault.Full) (Ok row))

abbrev create_by : Bool → Bool → Bool → World → After (Result ℕ Fault) → After (Result ℕ Fault)
create_by a b c w o = pick (not a) (refuse w Fault.OutOfMemory) (pick (b || c) (refuse w Fault.Full) o)

lacking : (a b c : Bool) (row : ℕ) (w : World) (o : After (Result ℕ Fault)) (g : Fault) → Err g ≡ spot_by a b c row → create_by a (not b) c w o ≡ refuse w g
unfolding pick
lacking true true true row w o g e = let z : Fault.Full ≡ g = cc in ap (refuse w) z
lacking true true false row w o g e = never cc
lacking true false c row w o g e = let z : Fault.Full ≡ g = cc in ap (refuse w) z
lacking false b c row w o g e = let z : Fault.OutOfMemory ≡ g = cc in ap (refuse w) z

record Free (i rows row : ℕ) : Type 0 where
  is : i ≡ row
  below : i < rows

free : (a b : Bool) (i rows row : ℕ) (w : World) (o : After (Result ℕ Fault)) → Ok i ≡ spot_by a b (leb rows row) row → (create_by a (not b) (leb rows row) w o ≡ o) × Free i rows row
unfolding pick
free a b i rows row w o = go a b (leb rows row) refl
  where
    go : (a b c : Bool) → leb rows row ≡ c → Ok i ≡ spot_by a b c row → (create_by a (not b) c w o ≡ o) × Free i rows row
    go true true true p e = never cc
    go true true false p e = let z : i ≡ row = cc in (refl, record { is = z; below = subst (λ n. n < rows) (sym z) (leb-false rows row p) })
    go true false c p e = never cc
    go false b c p e = never cc

-- an allocation of a coroutine, by what its arguments are
pub alloc_told : (ws ws' : List ℕ) (h h₀ : Heap) (b b₀ : ℕ) (o o₀ : CoroObj) (r r₀ : Result (Word × Heap) Fault) → out r ws' ≡ alloc_of ws h b (O.Coro o) → r ≡ r₀ → h ≡ h₀ → b ≡ b₀ → o ≡ o₀
    → out r₀ ws' ≡ alloc_of ws h₀ b₀ (O.Coro o₀)
alloc_told ws ws' h h₀ b b₀ o o₀ r r₀ e er eh eb eo = ap (λ x. out x ws') (sym er) ∙ e ∙ λ i. alloc_of ws (eh i) (eb i) (O.Coro (eo i))

-- ---- one sound world that the words stand for

module _ (l : Sizes) (M : Lent) (m : Machine) (fu : Fuel) (w : World) (rep : Rep l w M m fu) (snd : sound w ≡ true) (f closure n regs : ℕ) (array : List ℕ) (few : n ≤ length array)
    (named : f < get_or M.setup 13 0) (is-regs : regs ≡ (function_in M.setup f).regs) where
  abbrev s : Setup
  s = w.setup

  abbrev args : List ℕ
  args = take n array

  abbrev xs : List (Slot HO.Object)
  xs = slots_of m.count M.slots

  abbrev row : ℕ
  row = lowest_free l.rows 0 (held_in xs)

  regs-in : (func s f).regs ≡ regs
  regs-in = sym (is-regs ∙ regs-is l M m fu w rep f snd named)

  rows_in : s.limits.rows ≤ 64
  rows_in = (facts s (known w snd).setup).rows

  row_is : free_row w ≡ row
  row_is =
      sym (free-same w.slots s.limits.rows rows_in)
      ∙ ap₂ (λ k ys. lowest_free k 0 (held_in ys)) (sym rep.sizes.rows) (sym (slots-are (to_slots w.slots) M.slots m.count rep.slots))

  abbrev bytes : ℕ
  bytes = bytes_of (func s f).regs s.costs.object s.costs.frame

  abbrev core : Object
  core = Object.Coro (new_core f closure (new_regs (func s f).regs args)) (new_rest w.seq (free_row w) (func s f).regs)

  abbrev next : World
  next = with_seq ((w.seq + 1) % 2 ^ 64) w

  first-is : bytes_of (func s f).regs s.costs.coro s.costs.frame ≡ bytes_of regs l.costs.coro l.costs.frame
  first-is = ap₂ (λ r c. bytes_of r c.coro c.frame) regs-in (sym rep.sizes.costs)

  -- the model by the code's tests
  model : coro_create f closure args w ≡ create_by (Charge.fits m.used l.memory (bytes_of regs l.costs.coro l.costs.frame)) (not (ltb m.count l.slots)) (leb l.rows row) w (alloc bytes core next)
  unfolding coro_create
  model =
      ap (λ a. create_by a (slots_full w) (rows_full w) w (alloc bytes core next)) (ap (fits w) first-is ∙ fits-same l M m fu w rep (bytes_of regs l.costs.coro l.costs.frame))
      ∙ ap₂ (λ b c. create_by (Charge.fits m.used l.memory (bytes_of regs l.costs.coro l.costs.frame)) b c w (alloc bytes core next)) (full-same l M m fu w rep)
      (ap₂ (λ a b. leb a b) (sym rep.sizes.rows) row_is)

  pub not-created : (g : Fault) → Err g ≡ spot_of xs m l regs → Does l (coro_create f closure args w) M m fu (Err g)
  not-created g e = does l M m fu (coro_create f closure args w) w (Err g) (model ∙ lacking _ _ _ row w _ g e) rep

  module _ (i : ℕ) (told : Ok i ≡ spot_of xs m l regs) where
    opened : (coro_create f closure args w ≡ alloc bytes core next) × Free i l.rows row
    opened = let z = free (Charge.fits m.used l.memory (bytes_of regs l.costs.coro l.costs.frame)) (ltb m.count l.slots) i l.rows row w (alloc bytes core next) told in (model ∙ z.0, z.1)

    pub below : i < l.rows
    below = opened.1.below

    at-free : i ≡ free_row w
    at-free = opened.1.is ∙ sym row_is

    in_rows : i < s.limits.rows
    in_rows = subst (λ k. i < k) rep.sizes.rows below

    nobodys : among (free_row w) (held_rows w.slots) ≡ false
    nobodys =
        let e = at-free in
        let b = in_rows in
        let k : lowest_free s.limits.rows 0 (held_rows w.slots) < 0 + s.limits.rows = omega arith in
        lowest-free s.limits.rows 0 (held_rows w.slots) k

    -- ---- the row

    empty : row_at i w.slots ≡ record { regs = []; frames = [] }
    empty = nobody w.slots i (subst (λ k. among k (held_rows w.slots) ≡ false) (sym at-free) nobodys)

    regs-at : RowIs (λ zs. zs) (row_words s) (regs_rows s.limits.rows w.slots) i (i * l.width) [] []
    regs-at =
        let k : length (regs_rows s.limits.rows w.slots) ≡ s.limits.rows = length-tabled (λ j. (row_at j w.slots).regs) 0 s.limits.rows in
        record {
          among = subst (λ z. i < z) (sym k) in_rows;
          place = ap (λ x. i * x) rep.sizes.width;
          holds = rows_at (λ j. (row_at j w.slots).regs) s.limits.rows i [] in_rows ∙ ap (λ q. q.regs) empty;
          fits = omega arith;
        }

    frames-at : RowIs (upward frame_words) (frames_size s) (frames_rows s.limits.rows w.slots) i (i * l.depth * 6) [] []
    frames-at =
        let k : length (frames_rows s.limits.rows w.slots) ≡ s.limits.rows = length-tabled (λ j. (row_at j w.slots).frames) 0 s.limits.rows in
        record {
          among = subst (λ z. i < z) (sym k) in_rows;
          place = mul_assoc i l.depth 6 ∙ ap (λ x. i * (x * 6)) rep.sizes.depth;
          holds = rows_at (λ j. (row_at j w.slots).frames) s.limits.rows i [] in_rows ∙ ap (λ q. q.frames) empty;
          fits = omega arith;
        }

    wide : regs ≤ row_words s
    wide = let e = regs-in in let h = regs-widest s.functions f (one_of l M m fu w rep f snd named) in omega arith

    deep : 6 ≤ frames_size s
    deep = let d = (numbers l M m fu w rep f snd named regs is-regs).deep in let e = rep.sizes.depth in omega arith

    pub write-fits : n ≤ 255 → WriteFits M.saved_stack M.saved_frames l i regs n
    write-fits h =
        let a = row_inside (λ zs. zs) (row_words s) (regs_rows s.limits.rows w.slots) M.saved_stack i (i * l.width) [] [] rep.saved_stack regs-at in
        let b = row_inside (upward frame_words) (frames_size s) (frames_rows s.limits.rows w.slots) M.saved_frames i (i * l.depth * 6) [] [] rep.saved_frames frames-at in
        let k = wide in
        let d = deep in
        record { few = h; stack = omega arith; frames = omega arith }

    -- ---- the outcomes

    object-is : O.Coro (new_object m.seq i regs) ≡ to_object core
    object-is =
        let e₁ : m.seq ≡ w.seq = rep.seq in
        let e₂ : i ≡ free_row w = at-free in
        let e₃ : regs ≡ (func s f).regs = sym regs-in in
        let e₄ : regs ≡ length (new_regs (func s f).regs args) = e₃ ∙ sym (length-new_regs (func s f).regs args) in
        λ j. O.Coro (record { state = (new_object 0 0 0).state; closing = false; finalized = false; task = false; seq = e₁ j; row = e₂ j; regs = e₄ j; frames = 1; maxregs = e₃ j; maxframes = 1; waiting = 0; payload = 0; key = 0; largest = (new_object 0 0 0).largest; result = 0; signal = 0 })

    bytes-are : bytes_of regs l.costs.object l.costs.frame ≡ bytes
    bytes-are = sym (ap₂ (λ r c. bytes_of r c.object c.frame) regs-in (sym rep.sizes.costs))

    next-rep : Rep l next M (sequenced m) fu
    next-rep = turn-seq l w M m fu rep ((m.seq + 1) % 2 ^ 64) ((w.seq + 1) % 2 ^ 64) (ap (λ k. (k + 1) % 2 ^ 64) rep.seq)

    module _ (slots' : List ℕ) where
      abbrev Allocated : Result (Word × Heap) Fault → Type 0
      Allocated r = out r slots' ≡ alloc_of M.slots (heap_of m l) (bytes_of regs l.costs.object l.costs.frame) (O.Coro (new_object m.seq i regs))

      as-model : (r : Result (Word × Heap) Fault) → Allocated r → out r slots' ≡ alloc_of M.slots (heap_of m l) bytes (to_object core)
      as-model r e = e ∙ ap₂ (alloc_of M.slots (heap_of m l)) bytes-are object-is

      -- 01: "(9; the number has moved)"
      pub not-charged : (q : Machine) (g : Fault) → q ≡ sequenced m → Allocated (Err g) → Does l (coro_create f closure args w) (on_slots slots' M) q fu (Err g)
      not-charged q g eq e =
          subst₂ (λ z y. Does l z (on_slots slots' M) y fu (Err g)) (sym opened.0) (sym eq)
          (alloc-refused l M (sequenced m) fu next next-rep bytes core slots' g (alloc-lacks M.slots (heap_of m l) bytes (to_object core) slots' g (as-model (Err g) e)))

      pub was-created : TableFits M.slots l.slots → (q r : Machine) (v : Word) (h' : Heap) (saved_stack' saved_frames' : List ℕ) → q ≡ sequenced m → r ≡ allocated q h' → Allocated (Ok (v, h'))
          → Writes M.saved_stack M.saved_frames saved_stack' saved_frames' l i regs f closure array n
          → Does l (coro_create f closure args w) (on_slots slots' (on_saved saved_stack' saved_frames' M)) r fu (Ok v.0)
      was-created room q r v h' saved_stack' saved_frames' eq er e k =
          let N = on_slots slots' (on_saved saved_stack' saved_frames' M) in
          let R : List ℕ = new_regs (func s f).regs args in
          let B : List Frame = frame f 0 closure Cont.Coro ∷ [] in
          let len = length-new_regs (func s f).regs args in
          let re = regs-in in
          let wd = wide in
          let words : pad regs (take (copied_of n regs) array) ≡ R = regs_written n regs array few ∙ ap (λ r. new_regs r args) (sym regs-in) in
          let rs = regs_rows s.limits.rows w.slots in
          let gs = frames_rows s.limits.rows w.slots in
          let on : SavedStack (row_words s) (set rs i R) saved_stack' =
          subst (λ z. SavedStack (row_words s) (set rs i R) z) (sym (k.stack ∙ ap (splice M.saved_stack (i * l.width)) words))
          (rows_fill (λ zs. zs) (row_words s) rs M.saved_stack i (i * l.width) [] [] rep.saved_stack regs-at R refl (omega arith)) in
          let up : SavedFrames (frames_size s) (set gs i B) saved_frames' =
          subst (λ z. SavedFrames (frames_size s) (set gs i B) z) (sym k.frames)
          (frames-row (frames_size s) gs M.saved_frames i (i * l.depth) (frame f 0 closure Cont.Coro) rep.saved_frames frames-at deep) in
          subst₂ (λ z y. Does l z N y fu (Ok v.0)) (sym opened.0) (sym (er ∙ ap (λ x. allocated x h') eq))
          (alloc-made l M (sequenced m) fu next next-rep bytes core slots' saved_stack' saved_frames' h' v
          (alloc-done M.slots (heap_of m l) bytes (to_object core) slots' v h' (as-model (Ok (v, h')) e)) room
          (subst (λ z. SavedStack (row_words s) z saved_stack') (ap (λ j. set rs j R) at-free ∙ regs-new w.slots f closure w.seq (free_row w) (func s f).regs R nobodys s.limits.rows) on)
          (subst (λ z. SavedFrames (frames_size s) z saved_frames') (ap (λ j. set gs j B) at-free ∙ frames-new w.slots f closure w.seq (free_row w) (func s f).regs R nobodys s.limits.rows) up))
