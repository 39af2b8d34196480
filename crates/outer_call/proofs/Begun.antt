-- An accepted set-up leaves its fresh world. Assumes nothing.
use mathlib.Core.Path.{◌≡◌, refl, sym, ap, ap₂, ◌∙◌, subst}
use mathlib.Core.Bool.{Bool, true, false, ◌&&◌}
use mathlib.Core.List.{List, [], ◌∷◌, ◌++◌, append-nil}
use Prim.Native.Nat.{ℕ, ◌+◌, ◌-◌, ◌*◌, ◌≤◌, max}
use native.Mathlib.Omega.{arith}
use lib.ListN.{length, get_or, take, drop, replicate}
use lib.Seq.{take_at}
use lib.Dec.{leb}
use borrow.Author.Tests.{leb-true}
use Rattle.lists.specs.Pick.{pick, pick_true, pick-false}
use Rattle.lists.specs.Parts.{pad}
use Rattle.heap.specs.declared.fault.Fault.{Fault}
use Rattle.model.specs.Lists.{each}
use Rattle.model.specs.Program.{Setup, Func, function_ok, setup_ok}
use Rattle.model.specs.World.{fresh}
use Rattle.model.specs.Sound.{row_words, widest}
use Rattle.model.specs.declared.call.Answer.{Answer}
use Rattle.model.specs.declared.machine.Fuel.{Fuel}
use Rattle.claims_sound.proofs.Tests.{and_left, and_right}
use Rattle.claims_sound.proofs.Sound.{facts}
use Rattle.memory_tables.specs.Sizes.{setup_words, setup_size}
use Rattle.memory_tables.proofs.Setups.{functions-count, functions-in}
use Rattle.memory_world.specs.Memory.{Lent, Room, Rep}
use Rattle.memory_world.specs.declared.machine.Machine.{Machine}
use Rattle.memory_world.specs.declared.machine.Sizes.{Sizes}
use Rattle.memory_world.proofs.Does.{SameLengths, room-same}
use Rattle.machine_state.specs.Setup.{SetUpFits, SetsUp}
use Rattle.memory_world.specs.Words.{Lengths, lengths_of, sizes_of}
use Rattle.memory_world.specs.Decode.{setup_of}
use Rattle.memory_world.specs.Sizes.{SetupFits}
use Rattle.memory_world.proofs.Encoded.{length-setup}
use Rattle.memory_world.proofs.Widest.{held_fits, sizes-sized}
use Rattle.memory_sound.specs.Words.{same, setup_held, room_ok}
use Rattle.memory_sound.proofs.Held.{same_true}
use Rattle.memory_sound.proofs.Passed.{room_of}
use Rattle.check_tables.specs.Room.{room_test, SizesFit}
use Rattle.memory_step.specs.Step.{MemoryState, Left, left, refuses, state_in, set_up_ok, set_up_words}
use Rattle.outer_call.specs.State.{state}
use Rattle.outer_call.specs.SetUp.{lengths, begins}
use Rattle.outer_call.proofs.Stepping.{same-lengths, exact}

-- ---- the words given

module _ (ws : List ℕ) (h : setup_held ws ≡ true) where
  abbrev s : Setup
  s = setup_of ws

  ok : setup_ok s ≡ true
  ok = and_left (setup_ok s) (same ws (pad (length ws) (setup_words s))) h

  pub held : ws ≡ pad (length ws) (setup_words s)
  held = same_true ws (pad (length ws) (setup_words s)) (and_right (setup_ok s) (same ws (pad (length ws) (setup_words s))) h)

  pub given-fits : SetupFits ws
  given-fits = held_fits s ws held

  pub counted : get_or ws 13 0 ≡ length s.functions
  counted = functions-in s ws held

  narrow : (fs : List Func) → each function_ok fs ≡ true → widest fs ≤ 256
  narrow [] e = omega arith
  narrow (f ∷ fs) e =
      let k = and_left (function_ok f) (each function_ok fs) e in
      let a : f.regs ≤ 256 = leb-true f.regs 256 (first f k) in
      let b = narrow fs (and_right (function_ok f) (each function_ok fs) e) in omega arith
    where
      first : (f : Func) → function_ok f ≡ true → leb f.regs 256 ≡ true
      first f k = and_left (leb f.regs 256) _ (and_left _ _ (and_left _ _ k))

  pub sizes-fit : (l : Sizes) → l ≡ sizes_of s → SizesFit l
  sizes-fit l e =
      let k = facts s ok in
      let w = narrow s.functions k.functions in
      let st = k.stack in
      subst SizesFit (sym e) (record { depth = k.depth; slots = k.slots; rows = k.rows; width = omega arith })

  -- the set-up's own words
  pub own : take (14 + get_or ws 13 0 * 35) ws ≡ setup_words s
  own =
      let n = 14 + get_or ws 13 0 * 35 in
      let e : length (setup_words s) ≡ n = length-setup s ∙ ap (λ k. 14 + k * 35) (sym counted) in
      ap (take n) held ∙ take_at (setup_words s) (replicate (length ws - length (setup_words s)) 0) n e

  -- as the code takes them
  pub own-part : take (14 + get_or ws 13 0 * 35 - 0) (drop 0 ws) ≡ setup_words s
  own-part = let n = 14 + get_or ws 13 0 * 35 in ap (λ k. take k ws) (let z : n - 0 ≡ n = omega arith in z) ∙ own

-- ---- the tests

module _ (ws : List ℕ) (M : Lent) (n : Lengths) (q : lengths_of M ≡ n) where
  abbrev test_of : Lengths → Sizes → Bool
  test_of k l = room_test l k.stack k.frames k.chain k.slots k.saved_stack k.saved_frames k.ready k.finalize

  pub not-held : setup_held ws ≡ false → false ≡ set_up_ok ws M
  not-held h = sym (ap (λ a. a && room_ok (setup_of ws) M && leb (setup_size (setup_of ws)) (length M.setup)) h)

  module _ (h : setup_held ws ≡ true) (l : Sizes) (e : l ≡ sizes_of (setup_of ws)) where
    room-is : test_of n l ≡ room_ok (setup_of ws) M
    room-is = ap₂ test_of (sym q) e

    pub no_room : test_of n l ≡ false → false ≡ set_up_ok ws M
    no_room k = sym (ap₂ (λ a b. a && b && leb (setup_size (setup_of ws)) (length M.setup)) h (sym room-is ∙ k))

    pub all_told : test_of n l ≡ true → leb (14 + get_or ws 13 0 * 35) n.setup ≡ set_up_ok ws M
    all_told k =
        ap₂ (λ c u. leb (14 + c * 35) u) (counted ws h) (ap (λ (x : Lengths). x.setup) (sym q))
        ∙ sym (ap₂ (λ a b. a && b && leb (setup_size (setup_of ws)) (length M.setup)) h (sym room-is ∙ k))

-- ---- accepted

module _ (ws : List ℕ) (M : Lent) (h : set_up_ok ws M ≡ true) where
  abbrev u : Setup
  u = setup_of ws

  pub is_held : setup_held ws ≡ true
  is_held = and_left (setup_held ws) (room_ok u M) (and_left (setup_held ws && room_ok u M) (leb (setup_size u) (length M.setup)) h)

  room : Room u M
  room =
      room_of u M (and_right (setup_held ws) (room_ok u M) (and_left (setup_held ws && room_ok u M) (leb (setup_size u) (length M.setup)) h))
      (leb-true (setup_size u) (length M.setup) (and_right (setup_held ws && room_ok u M) (leb (setup_size u) (length M.setup)) h))

  pub fits : (vs : List ℕ) → vs ≡ setup_words u → SetUpFits M.slots M.setup vs
  fits vs e =
      let r = room in
      let k = facts u (ok ws is_held) in
      let l : length vs ≡ setup_size u = ap length e ∙ length-setup u in
      let a = r.setup in
      let b = r.slots in
      let c = k.fit in
      let g : get_or vs 13 0 ≡ length u.functions = ap (λ (z : List ℕ). get_or z 13 0) (e ∙ sym (append-nil (setup_words u))) ∙ functions-count u [] in
      record { numbers = omega arith; within = omega arith; objects = omega arith }

  pub begun : (M' : Lent) (m : Machine) (f : Fuel) (vs : List ℕ) → SameLengths M M' → vs ≡ setup_words u → f ≡ (fresh u).fuel → SetsUp vs M' m → left (state M' m f) Answer.Accepted ≡ begins M ws
  begun M' m f vs q e p d =
      let r = d u (sizes_of u) e (sizes-sized refl) (room-same u u M M' refl q room) in
      let x = exact (sizes_of u) (fresh u) M M' m f (same-lengths M M' q) (subst (λ (y : Fuel). Rep (sizes_of u) (fresh u) M' m y) (sym p) r) in
      λ i. left (x i) Answer.Accepted

-- ---- the call

module _ (s : MemoryState) (ws : List ℕ) where
  pub accepts : set_up_ok ws s.words ≡ true → begins s.words ws ≡ set_up_words s ws
  unfolding set_up_words
  accepts h = sym (ap (λ b. pick b (begins s.words ws) (refuses s Fault.Unsound)) h ∙ pick_true _ _)

  pub refuses-it : set_up_ok ws s.words ≡ false → refuses s Fault.Unsound ≡ set_up_words s ws
  unfolding set_up_words
  refuses-it h = sym (ap (λ b. pick b (begins s.words ws) (refuses s Fault.Unsound)) h ∙ pick-false _ _)
