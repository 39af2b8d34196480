-- An accepted set-up gives a sound machine.
use mathlib.Core.Path.{◌≡◌, refl, sym, ap, ◌∙◌, subst}
use mathlib.Core.Bool.{Bool, true}
use mathlib.Core.List.{List, [], ◌∷◌}
use Prim.Native.Nat.{ℕ, zero, suc, ◌+◌, ◌^◌, ◌≤◌, ◌<◌}
use native.Mathlib.Nat.{not-suc-le-zero, le_of_suc-le-suc}
use native.Mathlib.Omega.{arith}
use lib.ListN.{length}
use lib.Dec.{ltb}
use borrow.Author.Tests.{lt-ltb}
use Rattle.heap.specs.Table.{slot}
use Rattle.model.specs.Lists.{each, distinct}
use Rattle.model.specs.Program.{Func, Setup, setup_ok}
use Rattle.model.specs.Object.{Object}
use Rattle.model.specs.World.{function_objects, fresh}
use Rattle.model.specs.Rows.{held_rows}
use Rattle.claims_sound.proofs.Stand.{ground}
use Rattle.claims_sound.proofs.Point.{at}
use Rattle.claims_sound.proofs.Slots.{SlotOk}
use Rattle.claims_sound.proofs.Queue.{queue-none}
use Rattle.claims_sound.proofs.Sound.{Sound, facts}

length_functions : (i : ℕ) (fs : List Func) → length (function_objects i fs) ≡ length fs
length_functions i [] = refl
length_functions i (f ∷ fs) = ap suc (length_functions (suc i) fs)

no_rows : (i : ℕ) (fs : List Func) → held_rows (function_objects i fs) ≡ []
no_rows i [] = refl
no_rows i (f ∷ fs) = no_rows (suc i) fs

function-at : {ex : Bool} (s : Setup) (j : ℕ) (fs : List Func) → j + length fs ≤ 32 → (i : ℕ) → i < length (function_objects j fs) → SlotOk ex s [] i (at (function_objects j fs) i)
function-at {ex} s j fs few i l = subst (SlotOk ex s [] i) (sym (is j fs i l)) (ok (j + i) (let e = length_functions j fs in omega arith))
  where
    is : (j : ℕ) (fs : List Func) (i : ℕ) → i < length (function_objects j fs) → at (function_objects j fs) i ≡ slot 0 (Object.Func (j + i))
    is j [] i l = absurd (not-suc-le-zero l)
    is j (f ∷ fs) zero l = ap (λ n. slot 0 (Object.Func n)) (let z : j ≡ j + 0 = omega arith in z)
    is j (f ∷ fs) (suc i) l = is (suc j) fs i (le_of_suc-le-suc l) ∙ ap (λ n. slot 0 (Object.Func n)) (let z : suc j + i ≡ j + suc i = omega arith in z)

    ok : (n : ℕ) → n < 32 → SlotOk ex s [] i (slot 0 (Object.Func n))
    ok n m = record { object = record { sizes = refl; saved = refl; rowless = refl; range = lt-ltb n (2 ^ 32) (omega arith); wide = λ _. refl }; unused = refl; tag = refl; running = refl }

pub fresh-sound : {ex : Bool} (s : Setup) → setup_ok s ≡ true → Sound ex (fresh s)
fresh-sound s e =
    let k = facts s e in
    let k₀ = k.fit in
    let k₁ = k.few in
    let len = length_functions 0 s.functions in
    record {
      setup = e;
      tower = record { depth = omega arith; height = omega arith; stands = ground refl };
      heap =
          record {
            small = k.slots;
            count = omega arith;
            slots = function-at s 0 s.functions (omega arith);
            running = refl;
            apart = refl;
            rows =
                record {
                  inside = ap (each (λ row. ltb row s.limits.rows)) (no_rows 0 s.functions);
                  own = ap distinct (no_rows 0 s.functions);
                };
          };
      tasks = queue-none (λ r. r.task);
      cleanups = queue-none (λ r. r.finalized);
      room = omega arith;
      banked = refl;
      outcome = refl;
    }
