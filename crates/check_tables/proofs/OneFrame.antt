-- One frame's test on its six words. Assumes nothing.
use mathlib.Core.Path.{◌≡◌, refl, sym, ap, ◌∙◌}
use mathlib.Core.Bool.{Bool, true, false, ◌&&◌}
use mathlib.Core.List.{List, [], ◌∷◌}
use Prim.Native.Nat.{ℕ, ◌+◌, ◌-◌, ◌*◌, ◌^◌, ◌≤◌, ◌<◌, max}
use native.Mathlib.Omega.{arith}
use borrow.Author.Tests.{ltb-true, ltb-false, leb-true, leb-false, lt-ltb, le-ltb, le-leb, lt-leb}
use lib.Dec.{eqb, ltb, leb}
use lib.ListN.{length, get_or}
use Rattle.model.specs.Lists.{each}
use Rattle.model.specs.Program.{Setup, func, func_of}
use Rattle.model.specs.Sound.{frame_names, cont_lies}
use Rattle.model.specs.declared.machine.Frame.{Frame}
use Rattle.model.specs.declared.program.Handler.{Handler}
use Rattle.memory_tables.specs.Layout.{cont_of, frame_of, function_in}
use Rattle.memory_tables.specs.Parts.{piled}
use Rattle.memory_tables.proofs.Codes.{frame-read}
use Rattle.memory_world.proofs.Tables.{length-tabled}
use Rattle.memory_world.specs.Decode.{setup_of}
use Rattle.check_tables.specs.Frames.{cont_held, place_ok, cont_test, frame_test, catch_width, Catches}

-- ---- catch registers

wider : (b e c k : ℕ) → b ≤ e → ltb (b + c) e && leb k (e - b) ≡ leb (max (c + 1) k) (e - b)
wider b e c k h = go (ltb (b + c) e) (leb k (e - b)) refl refl
  where
    go : (x y : Bool) → ltb (b + c) e ≡ x → leb k (e - b) ≡ y → x && y ≡ leb (max (c + 1) k) (e - b)
    go true true p q = let u = ltb-true (b + c) e p in let v = leb-true k (e - b) q in sym (le-leb (max (c + 1) k) (e - b) (omega arith))
    go true false p q = let v = leb-false k (e - b) q in sym (lt-leb (max (c + 1) k) (e - b) (omega arith))
    go false y p q = let u = ltb-false (b + c) e p in sym (lt-leb (max (c + 1) k) (e - b) (omega arith))

-- each lies in its frame exactly if the widest does
catch-all : (hs : List Handler) (b e : ℕ) → b ≤ e → each (λ h. ltb (b + h.catch) e) hs ≡ leb (catch_width hs) (e - b)
catch-all [] b e h = sym (le-leb 0 (e - b) (omega arith))
catch-all (x ∷ hs) b e h = ap (λ t. ltb (b + x.catch) e && t) (catch-all hs b e h) ∙ wider b e x.catch (catch_width hs) h

pub functions-long : (ws : List ℕ) → length (setup_of ws).functions ≡ get_or ws 13 0
functions-long ws = length-tabled (λ i. func_of (function_in ws i)) 0 (get_or ws 13 0)

-- ---- the six words

module _ (saved : Bool) (setup ws : List ℕ) (i end : ℕ) where
  abbrev s : Setup
  s = setup_of setup

  -- the test of a frame
  abbrev by : Frame → Bool
  by f =
      leb f.base end && frame_names s f && each (λ h. ltb (f.base + h.catch) end) (func s f.func).handlers
      && cont_held (get_or ws (i * 6 + 4) 0) (get_or ws (i * 6 + 5) 0) && place_ok saved (eqb i 0) f.cont && cont_lies f.cont f.base (piled 6 frame_of i ws)

  abbrev fn : ℕ
  fn = get_or ws (i * 6) 0

  abbrev pc : ℕ
  pc = get_or ws (i * 6 + 1) 0

  abbrev base : ℕ
  base = get_or ws (i * 6 + 2) 0

  abbrev code : ℕ
  code = get_or ws (i * 6 + 4) 0

  abbrev reg : ℕ
  reg = get_or ws (i * 6 + 5) 0

  abbrev words : Bool
  words =
      leb base end && (ltb fn (length s.functions) && ltb pc (2 ^ 32)) && each (λ h. ltb (base + h.catch) end) (func s fn).handlers
      && cont_held code reg && place_ok saved (eqb i 0) (cont_of code reg) && cont_lies (cont_of code reg) base (piled 6 frame_of i ws)

  by-words : words ≡ frame_test saved s ws i end
  by-words = ap by (frame-read ws i (cont_of code reg) refl)

  pub stop-base : end < base → false ≡ frame_test saved s ws i end
  stop-base h = sym (rw (lt-leb base end h)) ∙ by-words

  module _ (h : base ≤ end) where
    pub stop-func : get_or setup 13 0 ≤ fn → false ≡ frame_test saved s ws i end
    stop-func g = sym (rw (le-leb base end h, functions-long setup, le-ltb fn (get_or setup 13 0) g)) ∙ by-words

    module _ (g : fn < get_or setup 13 0) where
      pub stop-pc : 2 ^ 32 ≤ pc → false ≡ frame_test saved s ws i end
      stop-pc k = sym (rw (le-leb base end h, functions-long setup, lt-ltb fn (get_or setup 13 0) g, le-ltb pc (2 ^ 32) k)) ∙ by-words

      module _ (k : pc < 2 ^ 32) (need : List ℕ) (fits : Catches s need) where
        catches : each (λ x. ltb (base + x.catch) end) (func s fn).handlers ≡ leb (get_or need fn 0) (end - base)
        catches =
            let n = functions-long setup in
            catch-all (func s fn).handlers base end h ∙ ap (λ x. leb x (end - base)) (sym (fits.widths fn (omega arith)))

        abbrev rest : Bool
        rest = leb (get_or need fn 0) (end - base) && cont_held code reg && place_ok saved (eqb i 0) (cont_of code reg) && cont_lies (cont_of code reg) base (piled 6 frame_of i ws)

        so_far : rest ≡ frame_test saved s ws i end
        so_far = sym (rw (le-leb base end h, functions-long setup, lt-ltb fn (get_or setup 13 0) g, lt-ltb pc (2 ^ 32) k, catches)) ∙ by-words

        pub stop-catch : end - base < get_or need fn 0 → false ≡ frame_test saved s ws i end
        stop-catch q = sym (rw (lt-leb (get_or need fn 0) (end - base) q)) ∙ so_far

        module _ (q : get_or need fn 0 ≤ end - base) where
          pub last : (b : Bool) → b ≡ cont_test saved ws i code reg base → b ≡ frame_test saved s ws i end
          last b e = e ∙ sym (rw (le-leb (get_or need fn 0) (end - base) q)) ∙ so_far
