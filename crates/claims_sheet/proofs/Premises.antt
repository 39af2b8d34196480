-- The premises of the PEP 342 theorems are met, by computation.
use mathlib.Core.Path.{refl}
use Rattle.model.specs.Compute.{computed}
use Rattle.claims_sheet.specs.Premises.{Premises}

pub premises : Premises
unfolding computed
premises =
    record {
      send-suspended = refl;
      send-created = refl;
      send-refused = refl;
      send-overflow = refl;
      throw-created = refl;
      throw-overflow = refl;
      close-finished = refl;
      close-running = refl;
      next-suspended = refl;
      next-created = refl;
      next-returned = refl;
      next-failed = refl;
      next-overflow = refl;
      yield-delivers = refl;
      yield-closing = refl;
      yield-closing-quiet = refl;
      yield-kv = refl;
      await-delivers = refl;
      await-in-loop = refl;
      return-delivers = refl;
      caught-at = refl;
      caught-unpaid = refl;
      signal-escapes = refl;
      escapes-driven = refl;
      uncaught = refl;
      close-uncaught = refl;
      throw-uncaught = refl;
      hand-over = refl;
      hand-over-refused = refl;
      cleanup-starts = refl;
      still-closing = refl;
      signal-later = refl;
      never-closed = refl;
      never-passed = refl;
      spent = refl;
      unarmed = refl;
      sizes = refl;
      val-first = refl;
      yield-5 = refl;
      yield-7 = refl;
    }
