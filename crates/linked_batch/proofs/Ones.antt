-- One call on a machine that passes the test: what it leaves, and that it passes again. Assumes nothing.
use mathlib.Core.Path.{◌≡◌, refl, sym, ap, ◌∙◌, subst}
use mathlib.Core.Bool.{true, false}
use mathlib.Core.List.{List, [], ◌∷◌, ◌++◌}
use Prim.Native.Nat.{ℕ, ◌+◌, ◌-◌, ◌*◌, ◌^◌, ◌≤◌, ◌<◌}
use native.Mathlib.Omega.{arith}
use lib.ListN.{length, get_or, take, drop, length-drop}
use lib.Seq.{take_all}
use Rattle.lists.specs.Pick.{pick, pick_true}
use Rattle.lists.specs.Chunks.{chunk_at, put_chunk}
use Rattle.lists.specs.Parts.{splice}
use Rattle.lists.proofs.Tables.{length-chunk}
use Rattle.heap.specs.declared.fault.Fault.{Fault}
use Rattle.model.specs.Lists.{each}
use Rattle.model.specs.Call.{is_word, are_regs, is_pc, typed}
use Rattle.model.specs.declared.call.Op.{Op}
use Rattle.model.specs.declared.call.Answer.{Answer}
use Rattle.claims_sound.proofs.Tests.{no_false, both}
use Rattle.claims_sound.proofs.Sound.{Sound, sound→, facts}
use Rattle.machine_step.proofs.InRange as InRange
use Rattle.machine_step.proofs.InRange.{word}
use Rattle.memory_calls.specs.Call.{six, op_of, op_words}
use Rattle.memory_calls.specs.Answer.{answer_words}
use Rattle.memory_calls.specs.declared.call.Gate.{Gate}
use Rattle.std.specs.Prelude.{Result, Ok, Err}
use Rattle.memory_calls.proofs.Back.{read_back}
use Rattle.memory_calls.proofs.Reading.{as-six, other_length}
use Rattle.memory_step.specs.Step.{is_sound}
use Rattle.outer_run.specs.Run.{do_words, read_in}
use Rattle.outer_run.proofs.Written.{put_back}
use Rattle.linked_calls.specs.Host.{Host, host, state_of, passes_test, Gave, gave, overwritten, kept_in}
use Rattle.linked_calls.proofs.Hosts as Tested
use Rattle.claims_linked.proofs.Library.{library}
use Rattle.linked_switch.specs.Went.{goes_on}
use Rattle.linked_switch.proofs.Hosts.{holds}
use Rattle.linked_batch.specs.Batch.{One}

-- six words of 64 bits
pub all_words : (n a b c d e : ℕ) → n < 2 ^ 64 → a < 2 ^ 64 → b < 2 ^ 64 → c < 2 ^ 64 → d < 2 ^ 64 → e < 2 ^ 64 → each is_word (six n a b c d e) ≡ true
all_words n a b c d e h₁ h₂ h₃ h₄ h₅ h₆ = both (word n h₁) (both (word a h₂) (both (word b h₃) (both (word c h₄) (both (word d h₅) (both (word e h₆) refl)))))

-- ---- operands of the types' widths

pub resume-typed : (pc dst c src : ℕ) → pc < 2 ^ 32 → dst < 2 ^ 16 → c < 2 ^ 16 → src < 2 ^ 16 → typed (Op.Resume pc dst c src) ≡ true
unfolding typed
resume-typed pc dst c src a b d e =
    InRange.both (is_pc pc) (are_regs (dst ∷ c ∷ src ∷ [])) (InRange.pc pc a) (InRange.and-regs dst (c ∷ src ∷ []) b (InRange.and-regs c (src ∷ []) d (InRange.and-regs src [] e refl)))

pub yield-typed : (pc dst src : ℕ) → pc < 2 ^ 32 → dst < 2 ^ 16 → src < 2 ^ 16 → typed (Op.Yield pc dst src) ≡ true
unfolding typed
yield-typed pc dst src a b d =
    InRange.both (is_pc pc) (are_regs (dst ∷ src ∷ [])) (InRange.pc pc a) (InRange.and-regs dst (src ∷ []) b (InRange.and-regs src [] d refl))

-- ---- the words at place i

pub no_call : (cs : List ℕ) (i : ℕ) → i * 6 ≤ length cs → length cs - i * 6 < 6 → Err Gate.Operand ≡ read_in cs i
no_call cs i w h =
    let k = length-drop (i * 6) cs in
    let l : length (chunk_at 6 cs i) ≡ length (drop (i * 6) cs) = ap length (take_all 6 (drop (i * 6) cs) (omega arith)) in
    other_length (chunk_at 6 cs i) (λ z. omega (arith, k, l, z, h))

six-words : (cs : List ℕ) (i : ℕ) → i * 6 + 6 ≤ length cs
    → let ws = chunk_at 6 cs i in op_of (six (get_or ws 0 0) (get_or ws 1 0) (get_or ws 2 0) (get_or ws 3 0) (get_or ws 4 0) (get_or ws 5 0)) ≡ read_in cs i
six-words cs i h = ap op_of (as-six (chunk_at 6 cs i) (length-chunk 6 i cs h))

pub words-read : {n a b c d e : ℕ} (cs : List ℕ) (i : ℕ) → i * 6 + 6 ≤ length cs → let ws = chunk_at 6 cs i in
    n ≡ get_or ws 0 0 → a ≡ get_or ws 1 0 → b ≡ get_or ws 2 0 → c ≡ get_or ws 3 0 → d ≡ get_or ws 4 0 → e ≡ get_or ws 5 0 → op_of (six n a b c d e) ≡ read_in cs i
words-read cs i full p q r s t u = (λ j. op_of (six (p j) (q j) (r j) (s j) (t j) (u j))) ∙ six-words cs i full

pub of-read : {h h' : Host} {r r' : Result Op Gate} {xs xs' : List ℕ} {i : ℕ} → r ≡ r' → One h r xs i h' xs' → One h r' xs i h' xs'
of-read {h} {h'} {xs = xs} {xs' = xs'} {i = i} e o = subst (λ z. One h z xs i h' xs') e o

-- ---- a call

abbrev pub blank : List ℕ
blank = 0 ∷ 0 ∷ 0 ∷ 0 ∷ 0 ∷ 0 ∷ 0 ∷ 0 ∷ []

module _ (h : Host) (e : passes_test h ≡ true) where
  passes-again : (ws : List ℕ) → each is_word ws ≡ true → passes_test (overwritten h (do_words (state_of h) (op_of ws)).state) ≡ true
  passes-again ws w =
      let k : 8 ≤ 8 = omega arith in
      ap (λ (g : Gave). passes_test g.host) (library.kept h (op_of ws) blank e k) ∙ library.called h ws blank w e

  -- .. that `bvm_call_unchecked` did, of which the answer stands in its part
  pub kept-one : (ws : List ℕ) → each is_word ws ≡ true → (xs : List ℕ) (i : ℕ) → i * 8 + 8 ≤ length xs → (h' : Host) (p' : List ℕ) (n : ℕ)
      → gave h' p' n ≡ kept_in h (op_of ws) (take (i * 8 + 8 - i * 8) (drop (i * 8) xs))
      → One h (op_of ws) xs i h' (take (i * 8) xs ++ (p' ++ drop (i * 8 + 8 - i * 8) (drop (i * 8) xs)))
  kept-one ws w xs i room h' p' n q =
      let d = do_words (state_of h) (op_of ws) in
      let is : h' ≡ overwritten h d.state = ap (λ (g : Gave). g.host) q in
      record { host = is; answers = put_back xs (answer_words d.answer) (i * 8) room p' (ap (λ (g : Gave). g.answer) q) refl; sound = ap passes_test is ∙ passes-again ws w }

  -- .. that was done on the words
  pub switch-one : (o : Op) → typed o ≡ true → each is_word (op_words o) ≡ true → (xs xs' : List ℕ) (i : ℕ) (h' : Host)
      → gave h' (splice blank 0 (answer_words goes_on)) 0 ≡ kept_in h (Ok o) blank → xs' ≡ put_chunk 8 xs i (answer_words goes_on) → One h (op_of (op_words o)) xs i h' xs'
  switch-one o t w xs xs' i h' q put =
      let d = do_words (state_of h) (op_of (op_words o)) in
      let r : gave h' (splice blank 0 (answer_words goes_on)) 0 ≡ kept_in h (op_of (op_words o)) blank = q ∙ ap (λ (z : Result Op Gate). kept_in h z blank) (sym (read_back o t)) in
      let is : h' ≡ overwritten h d.state = ap (λ (g : Gave). g.host) r in
      let said : answer_words goes_on ≡ answer_words d.answer = ap (λ (g : Gave). take 8 g.answer) r in
      record { host = is; answers = put ∙ ap (put_chunk 8 xs i) said; sound = ap passes_test is ∙ passes-again (op_words o) w }

  -- .. that is none
  pub no_one : (xs xs' : List ℕ) (i : ℕ) (r : Result Op Gate) → Err Gate.Operand ≡ r → xs' ≡ put_chunk 8 xs i (answer_words (Answer.Refused Fault.BadOperand)) → One h r xs i h xs'
  no_one xs xs' i r n put =
      let k = holds h e 0 (omega arith) in
      let p = k.numbers in
      let q = k.fuelled in
      let f : pick (is_sound (state_of h)) Fault.BadOperand Fault.Unsound ≡ Fault.BadOperand =
      ap (λ b. pick b Fault.BadOperand Fault.Unsound) (Tested.sound h e) ∙ pick_true Fault.BadOperand Fault.Unsound in
      subst (λ z. One h z xs i h xs') n
      (record { host = λ j. host h.words (p j) (q j); answers = put ∙ ap (λ (z : Fault). put_chunk 8 xs i (answer_words (Answer.Refused z))) (sym f); sound = e })

  -- its stack is short, so a register in its top frame has 16 bits
  pub low : get_or h.machine 0 0 ≤ 1024
  low =
      let k = (holds h e 0 (omega arith)).ok in
      let known : Sound false k.world = sound→ k.world k.sound (λ z. no_false z) in
      let s = (facts k.world.setup known.setup).stack in
      let a = known.tower.height in
      let b = k.rep.stack.count in
      omega (arith, s, a, b)
