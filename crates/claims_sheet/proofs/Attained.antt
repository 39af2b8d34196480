-- Every line of the table is reached, by computation.
use mathlib.Core.Path.{refl}
use Rattle.model.specs.Compute.{computed}
use Rattle.claims_sheet.specs.Attained.{Attained}

pub attained : Attained
unfolding computed
attained =
    record {
      gate = refl;
      coro-new = refl;
      rows_taken = refl;
      coro-new-indirect = refl;
      spawn = refl;
      yield = refl;
      yield-kv = refl;
      await = refl;
      resume = refl;
      resume-throw = refl;
      coro-close = refl;
      coro-status = refl;
      coro-key = refl;
      coro-result = refl;
      iter-next = refl;
      finish = refl;
      finish-body = refl;
      unwind = refl;
      unwind-on = refl;
      spawn-task = refl;
      host-call = refl;
      host-entry = refl;
      function-call = refl;
      put_word = refl;
      make-iterator = refl;
      take-outcome = refl;
      hand-over = refl;
      grant = refl;
      stop-run = refl;
      look = refl;
    }
