-- Lent words and worlds, and that every call keeps the words sound. Assumes nothing.
use mathlib.Core.Path.{◌≡◌, refl, sym, ap, ◌∙◌, subst}
use mathlib.Core.Bool.{Bool, true, false, ◌&&◌}
use mathlib.Core.List.{List}
use Prim.Native.Nat.{ℕ, ◌≤◌}
use lib.ListN.{length}
use lib.Dec.{leb}
use borrow.Author.Tests.{leb-true}
use Rattle.lists.specs.Pick.{pick, pick_true, pick-false}
use Rattle.lists.specs.Parts.{pad}
use Rattle.heap.specs.declared.fault.Fault.{Fault}
use Rattle.model.specs.Program.{Setup, setup_ok}
use Rattle.model.specs.World.{World, fresh}
use Rattle.model.specs.Sound.{sound}
use Rattle.model.specs.Gate.{refused}
use Rattle.model.specs.Call.{Operation}
use Rattle.model.specs.Call as Model
use Rattle.model.specs.Step.{Out, told, call, tested, step}
use Rattle.claims_sound.proofs.Tests.{and_left, and_right}
use Rattle.claims_invariant.proofs.Kept.{soundness-kept}
use Rattle.claims_sheet.proofs.Sentences.{sentences}
use Rattle.memory_tables.specs.Sizes.{setup_words, stack_size, frames_size, chain_size, saved_stack_size, saved_frames_size, slots_size, queue_size, setup_size}
use Rattle.memory_world.specs.Memory.{Lent, Room}
use Rattle.memory_world.specs.Words.{Lengths, lengths_of, words_in, numbers_of}
use Rattle.memory_world.specs.Decode.{setup_of}
use Rattle.memory_world.proofs.Encoded.{every-world}
use Rattle.memory_world.proofs.Decoded.{one-world}
use Rattle.memory_sound.specs.Words.{same, setup_held, room_ok}
use Rattle.memory_sound.specs.Exactly.{Stands}
use Rattle.memory_sound.proofs.Passed.{room_of}
use Rattle.memory_sound.proofs.Exactly as Words
use Rattle.memory_step.specs.Step as Outer
use Rattle.memory_step.specs.Step.{MemoryState, Left, refuses, state_in, is_sound, decoded, step_sound, step_words, set_up_ok, begins, set_up_words, MemoryCall, SetUp, Do}
use Rattle.memory_step.specs.Kept.{Kept}
use Rattle.memory_step.proofs.Lengths.{same-lengths}

-- ---- a sound world in slices with room

-- slices of the same lengths have it
same-room : (s : Setup) (M N : Lent) → lengths_of N ≡ lengths_of M → Room s M → Room s N
same-room s M N q r =
    let p = sym q in
    record {
      stack = subst (λ (n : Lengths). stack_size s ≤ n.stack) p r.stack;
      frames = subst (λ (n : Lengths). frames_size s ≤ n.frames) p r.frames;
      chain = subst (λ (n : Lengths). chain_size s ≤ n.chain) p r.chain;
      slots = subst (λ (n : Lengths). slots_size s ≤ n.slots) p r.slots;
      saved_stack = subst (λ (n : Lengths). saved_stack_size s ≤ n.saved_stack) p r.saved_stack;
      saved_frames = subst (λ (n : Lengths). saved_frames_size s ≤ n.saved_frames) p r.saved_frames;
      ready = subst (λ (n : Lengths). queue_size s ≤ n.ready) p r.ready;
      finalize = subst (λ (n : Lengths). queue_size s ≤ n.finalize) p r.finalize;
      setup = subst (λ (n : Lengths). setup_size s ≤ n.setup) p r.setup;
    }

module _ (w : World) (M : Lent) (e : sound w ≡ true) (r : Room w.setup M) where
  in-slices : Stands (words_in (lengths_of M) w) (numbers_of w) w.fuel w
  in-slices = record { rep = every-world.inside w M e r; sound = e; room = same-room w.setup M (words_in (lengths_of M) w) (same-lengths w M e r) r }

  pub back : decoded (state_in (lengths_of M) w) ≡ w
  back = ((Words.tested).exactly (words_in (lengths_of M) w) (numbers_of w) w.fuel).one w in-slices

  pub passes : is_sound (state_in (lengths_of M) w) ≡ true
  passes = ((Words.tested).exactly (words_in (lengths_of M) w) (numbers_of w) w.fuel).passes w in-slices

-- ---- sound words

module _ (s : MemoryState) (e : is_sound s ≡ true) where
  stood : Stands s.words s.machine s.fuel (decoded s)
  stood = ((Words.tested).exactly s.words s.machine s.fuel).stands e

  pub own : state_in (lengths_of s.words) (decoded s) ≡ s
  own =
      let q = one-world.exactly stood.rep in
      λ i. record { words = sym q.0 i; machine = sym q.1 i; fuel = sym q.2 i }

-- ---- a call

-- on a sound world it is tested in vain
pub untested : (w : World) (o : Operation) → sound w ≡ true → step w (Model.Do o) ≡ call o.op w
unfolding step tested
untested w o e = ap (λ b. pick b (call o.op w) (told (refused w Fault.Unsound))) e ∙ pick_true _ _

-- what a call leaves is sound, and has the same set-up
module _ (s : MemoryState) (o : Operation) (e : is_sound s ≡ true) where
  abbrev after : World
  after = (call o.op (decoded s)).world

  after_is : (step (decoded s) (Model.Do o)).world ≡ after
  after_is = ap (λ (x : Out). x.world) (untested (decoded s) o (stood s e).sound)

  after-sound : sound after ≡ true
  after-sound = ap sound (sym after_is) ∙ soundness-kept.kept (decoded s) o (stood s e).sound

  after-room : Room after.setup s.words
  after-room =
      let p = ap (λ (x : World). x.setup) (sym after_is) ∙ sentences.set-up-stays (decoded s) o in
      subst (λ (u : Setup). Room u s.words) (sym p) (stood s e).room

  pub stepped : step_words s o.op ≡ step_sound s o.op
  unfolding step_words
  stepped = ap (λ b. pick b (step_sound s o.op) (refuses s Fault.Unsound)) e ∙ pick_true _ _

  kept : is_sound (step_words s o.op).state ≡ true
  kept = ap (λ (x : Left). is_sound x.state) stepped ∙ passes after s.words after-sound after-room

  leaves : decoded (step_words s o.op).state ≡ after
  leaves = ap (λ (x : Left). decoded x.state) stepped ∙ back after s.words after-sound after-room

  kept-lengths : lengths_of (step_words s o.op).state.words ≡ lengths_of s.words
  kept-lengths = ap (λ (x : Left). lengths_of x.state.words) stepped ∙ same-lengths after s.words after-sound after-room

-- words that are not sound stay
pub refused-words : (s : MemoryState) (o : Operation) → is_sound s ≡ false → step_words s o.op ≡ refuses s Fault.Unsound
unfolding step_words
refused-words s o e = ap (λ b. pick b (step_sound s o.op) (refuses s Fault.Unsound)) e ∙ pick-false _ _

-- ---- a set-up

module _ (s : MemoryState) (given : List ℕ) (e : set_up_ok given s.words ≡ true) where
  abbrev begun-as : Setup
  begun-as = setup_of given

  pub given-ok : setup_ok begun-as ≡ true
  given-ok =
      let a = setup_held given in
      let b = room_ok begun-as s.words in
      let c = leb (setup_size begun-as) (length s.words.setup) in
      and_left (setup_ok begun-as) (same given (pad (length given) (setup_words begun-as))) (and_left a b (and_left (a && b) c e))

  given-room : Room begun-as s.words
  given-room =
      let a = setup_held given in
      let b = room_ok begun-as s.words in
      let c = leb (setup_size begun-as) (length s.words.setup) in
      room_of begun-as s.words (and_right a b (and_left (a && b) c e)) (leb-true (setup_size begun-as) (length s.words.setup) (and_right (a && b) c e))

  given-sound : sound (fresh begun-as) ≡ true
  given-sound = soundness-kept.begun begun-as given-ok

  pub set-up : set_up_words s given ≡ begins s given
  unfolding set_up_words
  set-up = ap (λ b. pick b (begins s given) (refuses s Fault.Unsound)) e ∙ pick_true _ _

  begun : is_sound (set_up_words s given).state ≡ true
  begun = ap (λ (x : Left). is_sound x.state) set-up ∙ passes (fresh begun-as) s.words given-sound given-room

  anew : decoded (set_up_words s given).state ≡ fresh begun-as
  anew = ap (λ (x : Left). decoded x.state) set-up ∙ back (fresh begun-as) s.words given-sound given-room

  begun-lengths : lengths_of (set_up_words s given).state.words ≡ lengths_of s.words
  begun-lengths = ap (λ (x : Left). lengths_of x.state.words) set-up ∙ same-lengths (fresh begun-as) s.words given-sound given-room

pub refused-set-up : (s : MemoryState) (given : List ℕ) → set_up_ok given s.words ≡ false → set_up_words s given ≡ refuses s Fault.Unsound
unfolding set_up_words
refused-set-up s given e = ap (λ b. pick b (begins s given) (refuses s Fault.Unsound)) e ∙ pick-false _ _

-- ---- both

lengths : (s : MemoryState) (k : MemoryCall) → lengths_of (Outer.memory_step s k).state.words ≡ lengths_of s.words
lengths s (SetUp given) = go (set_up_ok given s.words) refl
  where
    go : (b : Bool) → set_up_ok given s.words ≡ b → lengths_of (set_up_words s given).state.words ≡ lengths_of s.words
    go true e = begun-lengths s given e
    go false e = ap (λ (x : Left). lengths_of x.state.words) (refused-set-up s given e)
lengths s (Do o) = go (is_sound s) refl
  where
    go : (b : Bool) → is_sound s ≡ b → lengths_of (step_words s o.op).state.words ≡ lengths_of s.words
    go true e = kept-lengths s o e
    go false e = ap (λ (x : Left). lengths_of x.state.words) (refused-words s o e)

pub words-kept : Kept
words-kept =
    record {
      back = back;
      passes = passes;
      long = same-lengths;
      stands = λ s e. (stood s e).sound;
      room = λ s e. (stood s e).room;
      own = own;
      kept = kept;
      leaves = leaves;
      once = stepped;
      begun = begun;
      anew = anew;
      lengths = lengths;
    }
