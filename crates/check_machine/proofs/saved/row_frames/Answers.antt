-- `row_frames` meets its contract: the part that is lent is the row's words. Assumes nothing.
use mathlib.Core.Path.{◌≡◌, ap, ◌∙◌}
use Prim.Native.Nat.{ℕ, ◌+◌, ◌*◌, ◌-◌}
use native.Mathlib.Omega.{arith}
use lib.ListN.{take, drop}
use Rattle.memory_world.specs.Decode.{setup_of}
use Rattle.check_machine.specs.Saved.{frames_in}
use Rattle.check_machine.proofs.saved.row_frames.Goals as goal

pub returns : goal.returns
returns c =
    let a = c.args in
    let b = a.i * a.w in
    let e : (b + a.w) - b ≡ a.w = omega arith in
    c.frames_in.ensures ∙ ap (λ (n : ℕ). frames_in (setup_of a.setup.now) (take n (drop b a.ws.now)) a.c) e
