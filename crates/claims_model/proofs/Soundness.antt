-- Soundness is kept by every call, beside demand 3: the statements are those of the crate invariant. Assumes nothing.
use Rattle.claims_invariant.specs.Kept.{SoundnessKept}
use Rattle.claims_invariant.specs.Reachable.{Reachable}
use Rattle.claims_invariant.proofs.Kept as Kept

pub soundness-kept : SoundnessKept
soundness-kept = Kept.soundness-kept

pub reachable : Reachable
reachable = Kept.reachable
