-- What a look hands back, on a machine in words. Assumes nothing.
use Prim.Native.Nat.{ℕ, zero, suc, ◌-◌, ◌≤◌}
use native.Mathlib.Omega.{arith}
use mathlib.Core.Path.{◌≡◌, refl, sym, ap, ap₂, ◌∙◌}
use mathlib.Core.Bool.{Bool, true}
use mathlib.Core.List.{List, [], ◌∷◌}
use lib.ListN.{length, get_or, take, drop}
use lib.Dec.{leb}
use borrow.Author.Tests.{le-leb}
use Rattle.lists.specs.Pick.{pick, pick_true}
use Rattle.lists.specs.Parts.{part, splice}
use Rattle.model.specs.Frames.{top_base}
use Rattle.model.specs.Added.{registers_on, registers}
use Rattle.model.specs.declared.machine.Frame.{Frame}
use Rattle.machine_added.specs.Look.{end_on}
use Rattle.memory_step.specs.Step.{MemoryState, decoded, looked}
use Rattle.outer_call.proofs.Stepping.{stands}
use Rattle.linked_calls.specs.Host.{Host, state_of, passes_test, short, Looked, saw, look_in}
use Rattle.linked_calls.proofs.Hosts.{sound}

take_none : (k : ℕ) → take {A = ℕ} k [] ≡ []
take_none zero = refl
take_none (suc k) = refl

part-drop : (b n : ℕ) (xs : List ℕ) → take (n - b) (drop b xs) ≡ drop b (take n xs)
part-drop zero n xs = let e : n - 0 ≡ n = omega arith in ap (λ k. take k xs) e
part-drop (suc b) zero xs = let e : 0 - suc b ≡ 0 = omega arith in ap (λ k. take k (drop (suc b) xs)) e
part-drop (suc b) (suc n) [] = take_none (suc n - suc b)
part-drop (suc b) (suc n) (x ∷ xs) = let e : suc n - suc b ≡ n - b = omega arith in ap (λ k. take k (drop b xs)) e ∙ part-drop b n xs

abbrev span-in : Host → List ℕ
span-in h = let w = decoded (state_of h) in top_base w.frames ∷ end_on w.frames w.stack ∷ []

abbrev seen_by : Host → List ℕ → Bool → Bool → Looked
seen_by h zs room ok = pick room (pick ok (saw (splice zs 0 (span-in h)) 0) (saw (splice zs 0 (0 ∷ 0 ∷ [])) 11)) (saw zs (short ok))

look_is : (h : Host) (zs : List ℕ) → look_in h zs ≡ seen_by h zs (leb 2 (length zs)) (passes_test h)
unfolding look_in
look_is h zs = refl

look-done : (h : Host) (zs : List ℕ) → seen_by h zs true true ≡ saw (splice zs 0 (span-in h)) 0
unfolding pick
look-done h zs = refl

registers-part : (s : MemoryState) → s.machine.height ≡ length (decoded s).stack → (fs : List Frame)
    → part (top_base fs) (end_on fs (decoded s).stack - top_base fs) s.words.stack ≡ registers_on fs (decoded s).stack
registers-part s c [] = refl
registers-part s c (f ∷ fs) =
    ap (λ n. take (n - f.base) (drop f.base s.words.stack)) (sym c) ∙ part-drop f.base s.machine.height s.words.stack

pub sees : (h : Host) (zs : List ℕ) → passes_test h ≡ true → 2 ≤ length zs → look_in h zs ≡ saw (splice zs 0 (span-in h)) 0
sees h zs e l = look_is h zs ∙ ap₂ (seen_by h zs) (le-leb 2 (length zs) l) e ∙ look-done h zs

pub looks : (h : Host) (zs : List ℕ) → passes_test h ≡ true → 2 ≤ length zs
    → let span = (look_in h zs).span in part (get_or span 0 0) (get_or span 1 0 - get_or span 0 0) h.words.stack ≡ looked (state_of h)
unfolding registers
looks h zs e l =
    let s = state_of h in
    let p = ap (λ (x : Looked). x.span) (sees h zs e l) in
    let c = (stands s.words s.machine s.fuel (sound h e)).rep.stack.count in
    ap (λ (span : List ℕ). part (get_or span 0 0) (get_or span 1 0 - get_or span 0 0) h.words.stack) p
    ∙ registers-part s c (decoded s).frames
    ∙ sym (ap (λ b. pick b (registers (decoded s)) []) (sound h e) ∙ pick_true _ _)
