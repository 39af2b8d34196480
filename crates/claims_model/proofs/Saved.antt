-- What a coroutine has saved, as an entry puts it on the stack: its words with the one sent, and its frames.
use Prim.Native.Nat.{ℕ, ◌+◌}
use native.Mathlib.Omega.{arith}
use mathlib.Core.Path.{◌≡◌, refl, sym, ap, ◌∙◌}
use mathlib.Core.Bool.{true, false}
use mathlib.Core.List.{List, [], ◌∷◌, ◌++◌, map}
use mathlib.Core.Option.{Option, none, some}
use lib.ListN.{length, set}
use Rattle.heap.specs.declared.object.CoroState.{CoroState}
use Rattle.model.specs.Lists.{is_nil}
use Rattle.model.specs.State.{is_resumable}
use Rattle.model.specs.Object.{Coroutine, Absent, Is}
use Rattle.model.specs.Frames.{on_top, step_pc, raise, top_base}
use Rattle.model.specs.declared.machine.Frame.{Frame}
use Rattle.claims_model.specs.Engine.{Seen}
use Rattle.claims_model.specs.Says.{Sent, nothing, gets, closes}
use Rattle.claims_model.specs.Held.{AllMoved, into, with_sent, entered_frames}
use Rattle.claims_model.specs.Steps.{waits_of, seen_of}
use Rattle.claims_model.proofs.Held.{Seat, core_in, words_with, frames_with}
use Rattle.claims_model.proofs.Cores.{no_both}
use Rattle.claims_model.proofs.Enters.{set-append-at}

-- the sent word, in the waiting register of the frame that is now on top
pub words-given : (sent : Sent) (s : Seat) (xs ys : List ℕ) (dst : ℕ) (gs fs : List Frame) → is_nil s.frames ≡ false → s.regs ≡ ys → s.waiting ≡ dst → gs ≡ map (raise (length xs)) (frames_with sent s) ++ fs → xs ++ words_with sent s ≡ with_sent sent gs dst (xs ++ ys)
words-given nothing s xs ys dst gs fs n r q e = ap (λ (l : List ℕ). xs ++ l) r
words-given (closes x) s xs ys dst gs fs n r q e = ap (λ (l : List ℕ). xs ++ l) r
words-given (gets x) s xs ys dst gs fs n r q e = go s.frames n ∙ ap (λ hs. into hs dst x (xs ++ ys)) (sym e)
  where
    go : (hs : List Frame) → is_nil hs ≡ false → xs ++ set s.regs (top_base hs + s.waiting) x ≡ into (map (raise (length xs)) (on_top step_pc hs) ++ fs) dst x (xs ++ ys)
    go [] n = no_both refl n
    go (f ∷ hs) n = (λ i. xs ++ set (r i) (f.base + q i) x) ∙ sym (set-append-at xs ys (f.base + length xs + dst) (f.base + dst) x (omega arith))

-- the frames that a coroutine is entered with
pub frames-with : (sent : Sent) (s : Seat) → frames_with sent s ≡ entered_frames sent s.frames
frames-with sent s = go sent s.frames
  where
    go : (sent : Sent) (fs : List Frame) → frames_with sent (record { state = s.state; regs = s.regs; frames = fs; waiting = s.waiting; closing = s.closing; seen = s.seen }) ≡ entered_frames sent fs
    go nothing [] = refl
    go nothing (f ∷ fs) = refl
    go (gets x) [] = refl
    go (gets x) (f ∷ fs) = refl
    go (closes x) [] = refl
    go (closes x) (f ∷ fs) = refl

-- ---- as it is seen

saved_words : Option Seen → List ℕ
saved_words none = []
saved_words (some x) = x.words

saved_frames : Option Seen → List Frame
saved_frames none = []
saved_frames (some x) = x.frames

regs-saved : (y : Coroutine) → (core_in y).regs ≡ saved_words (seen_of y)
unfolding saved_words
regs-saved Absent = refl
regs-saved (Is k r) = refl

pub regs-seen : (y : Coroutine) (x : Seen) → seen_of y ≡ some x → (core_in y).regs ≡ x.words
unfolding saved_words
regs-seen y x e = regs-saved y ∙ ap saved_words e

frames-saved : (y : Coroutine) → (core_in y).frames ≡ saved_frames (seen_of y)
unfolding saved_frames
frames-saved Absent = refl
frames-saved (Is k r) = refl

pub frames-seen : (y : Coroutine) (x : Seen) → seen_of y ≡ some x → (core_in y).frames ≡ x.frames
unfolding saved_frames
frames-seen y x e = frames-saved y ∙ ap saved_frames e

waits_in : Option Seen → ℕ
waits_in none = 0
waits_in (some x) = x.waits

waits-saved : (y : Coroutine) → is_resumable (core_in y).state ≡ true → (core_in y).waiting ≡ waits_in (seen_of y)
unfolding waits_in
waits-saved Absent h = refl
waits-saved (Is k r) h = go k.state h
  where
    go : (s : CoroState) → is_resumable s ≡ true → k.waiting ≡ waits_of s k.waiting
    go CoroState.Created h = refl
    go CoroState.Running h = no_both h refl
    go CoroState.Yielded h = refl
    go CoroState.Awaiting h = refl
    go CoroState.Returned h = no_both h refl
    go CoroState.Failed h = no_both h refl

pub waits-seen : (y : Coroutine) (x : Seen) → seen_of y ≡ some x → is_resumable (core_in y).state ≡ true → (core_in y).waiting ≡ x.waits
unfolding waits_in
waits-seen y x e h = waits-saved y h ∙ ap waits_in e

pub all-raised : (h : ℕ) (fs : List Frame) → AllMoved 0 h fs (map (raise h) fs)
all-raised h [] = tt
all-raised h (f ∷ fs) = (record { func = refl; pc = refl; base = omega arith; closure = refl; cont = refl }, all-raised h fs)
