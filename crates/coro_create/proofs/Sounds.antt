-- A creation and a new key keep a world sound. Assumes nothing.
use Rattle.std.proofs.Common.{◌≡◌, ℕ, true, List, sym, refl, subst}
use Rattle.heap.specs.Int.{next_key}
use Rattle.std.specs.Prelude.{Option, Result, Some, None, Ok, Err}
use Rattle.heap.specs.declared.fault.Fault.{Fault}
use Rattle.model.specs.Program.{is_function}
use Rattle.model.specs.World.{World}
use Rattle.model.specs.Heap.{encode_int}
use Rattle.model.specs.Coro.{coro_create}
use Rattle.model.specs.Exec.{key_at, key_exact, auto_key}
use Rattle.model.specs.Sound.{sound}
use Rattle.claims_sound.proofs.Sound.{→sound}
use Rattle.claims_sound.proofs.Make.{int-good, create-good}
use Rattle.coro_create.proofs.Setting.{known}

pub create-sound : (f closure : ℕ) (args : List ℕ) (w : World) → sound w ≡ true → is_function w.setup f ≡ true → sound (coro_create f closure args w).world ≡ true
create-sound f closure args w h e = →sound (coro_create f closure args w).world (create-good f closure args w (known w h) e).sound

key-world : (n : ℕ) (w : World) (a : Result ℕ Fault) → (key_at n w a).world ≡ w
key-world n w (Ok k) = refl
key-world n w (Err f) = refl

pub key-sound : (largest : ℕ) (w : World) → sound w ≡ true → sound (auto_key largest w).world ≡ true
unfolding auto_key
key-sound largest w h = go (next_key largest)
  where
    go : (x : Option ℕ) → sound (key_exact x w).world ≡ true
    go (Some n) =
        subst (λ u. sound u ≡ true) (sym (key-world n (encode_int n w).world (encode_int n w).answer)) (→sound (encode_int n w).world (int-good n w (known w h)).sound)
    go None = h
