-- The chain of running coroutines beside the frames, from the top down.
use Rattle.std.specs.Prelude.{Bool, false, ◌&&◌, List, ℕ, zero, suc, ◌+◌, ◌*◌, ◌≤◌, eqb, ltb, length, get_or}
use Rattle.lists.specs.Pick.{pick}
use Rattle.model.specs.Sound.{matches, driver_lies}
use Rattle.model.specs.declared.machine.Driver.{Driver}
use Rattle.memory_tables.specs.Layout.{driver_code, driver_first, driver_second, driver_third, driver_of, frame_of, active_of}
use Rattle.memory_tables.specs.Parts.{piled}
use Rattle.memory_sound.specs.Words.{chain_held}

-- a driver's code is one of four, and a number stands only where it has one
abbrev pub driver_held : ℕ → ℕ → ℕ → ℕ → Bool
driver_held code a b c =
    let d = driver_of code a b c in
    eqb (driver_code d) code && (eqb (driver_first d) a && (eqb (driver_second d) b && eqb (driver_third d) c))

-- the driver of the active one at place k
abbrev pub driver_in : List ℕ → ℕ → Driver
driver_in ws k = driver_of (get_or ws (k * 6 + 2) 0) (get_or ws (k * 6 + 3) 0) (get_or ws (k * 6 + 4) 0) (get_or ws (k * 6 + 5) 0)

-- the active one at place k, whose body is frame i
abbrev pub active_test : List ℕ → List ℕ → ℕ → ℕ → Bool
active_test chain frames k i =
    eqb (get_or chain (k * 6 + 1) 0) i && driver_held (get_or chain (k * 6 + 2) 0) (get_or chain (k * 6 + 3) 0) (get_or chain (k * 6 + 4) 0) (get_or chain (k * 6 + 5) 0)
    && driver_lies (driver_in chain k) (get_or frames (i * 6 + 2) 0) (piled 6 frame_of i frames)

-- k active ones and i frames: one at each Coro frame, and none left
module _ (chain frames : List ℕ) where
  abbrev pub chain_test : ℕ → ℕ → Bool
  chain_test zero k = eqb k 0
  chain_test (suc i) zero = pick (ltb 4 (get_or frames (i * 6 + 4) 0)) false (chain_test i zero)
  chain_test (suc i) (suc k) = pick (ltb 4 (get_or frames (i * 6 + 4) 0)) (active_test chain frames k i && chain_test i k) (chain_test i (suc k))

-- "active floors rise, each at a Coro frame .., and no other frame is Coro"; ".. driver .. registers lie in their frame"; codes and
-- zeros after them
abbrev pub chain_ok : List ℕ → ℕ → List ℕ → ℕ → Bool
chain_ok chain n frames depth =
    chain_held chain n && matches (λ f fs a. eqb a.floor (length fs)) (piled 6 frame_of depth frames) (piled 6 active_of n chain)
    && matches (λ f fs a. driver_lies a.driver f.base fs) (piled 6 frame_of depth frames) (piled 6 active_of n chain)

pub record ChainFits (chain frames : List ℕ) (n depth : ℕ) : Type 0 where
  pub on_chain : n * 6 ≤ length chain
  pub on-frames : depth * 6 ≤ length frames
