-- Whether coro_suspend accepts in a call. 01: "A yield (YieldKv too) or await counts if `coro_suspend` accepts, also where 2 or 6
-- follows".
use mathlib.Core.Bool.{Bool, false, not}
use Rattle.lists.specs.Pick.{pick}
use Rattle.model.specs.Lists.{is_nil}
use Rattle.model.specs.World.{World}
use Rattle.model.specs.Cleanup.{charge}
use Rattle.model.specs.Sound.{sound}
use Rattle.model.specs.Call.{Call, SetUp, Do}
use Rattle.model.specs.declared.machine.Charge.{Charge}
use Rattle.std.specs.Prelude.{Some}
use Rattle.model.specs.declared.call.Op.{Op}
use Rattle.claims_model.proofs.Entry.{Act, at, by_host, finishes, unwinds, other, act, Plan, suspending, entering, hosting, finishing, unwinding, asking, idle, plan, suspend_ok}

-- whether the instruction comes to coro_suspend, and it accepts, at the world that the charge left
abbrev pub suspends_by : {o : Op} → Plan o → World → Bool
suspends_by (suspending i) w = suspend_ok i w
suspends_by (entering i) w = false
suspends_by (hosting c v) w = false
suspends_by (finishing kind v) w = false
suspends_by (unwinding f pc) w = false
suspends_by (asking e d) w = false
suspends_by (idle e d) w = false

abbrev pub suspends_in : Op → World → Bool
suspends_in o w = suspends_by (plan o) w

abbrev pub paid_by : (World → Bool) → World → Charge → Bool
paid_by f w (Charge.Done n) = f w
paid_by f w Charge.Spent = false
paid_by f w (Charge.Close n) = false

abbrev pub takes_by : Act → (World → Bool) → World → Bool
takes_by (at pc ok a) f w = pick (is_nil w.frames) false (pick (not ok) false (paid_by f (charge (Some pc) w).world (charge (Some pc) w).answer))
takes_by (by_host c v) f w = false
takes_by (finishes kind v) f w = false
takes_by unwinds f w = false
takes_by other f w = false

-- whether coro_suspend accepts in the call k at w
abbrev pub suspends_of : World → Call → Bool
suspends_of w (SetUp s) = false
suspends_of w (Do o) = pick (sound w) (takes_by (act w o.op) (suspends_in o.op) w) false
