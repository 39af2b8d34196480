-- THE SHEET of the gate and the charge. 01: "Order: 11, 12, 13, then `exec::charge` (10), then the instruction's own tests".
use Rattle.std.specs.Prelude.{ℕ, suc, ◌-◌, Bool, true, false, not, ◌&&◌, List, [], ◌∷◌, map, get_or, drop, eqb, Option, Some, None}
use Rattle.lists.specs.Pick.{pick}
use Rattle.heap.specs.declared.fault.Fault.{Fault}
use Rattle.model.specs.Lists.{is_nil}
use Rattle.model.specs.World.{World}
use Rattle.model.specs.declared.machine.Driver.{Driver}
use Rattle.model.specs.declared.exec.Step.{Step}
use Rattle.model.specs.declared.call.Answer.{Answer}
use Rattle.claims_sheet.specs.Setters.{with_finalize, with_finalizing, with_fuel}
use Rattle.claims_sheet.specs.Lines.{Line, Lines, lines, line, refuse}
use Rattle.claims_sheet.specs.Words.{found, is_coroutine, state, suspended, too_high}
use Rattle.claims_sheet.specs.Moves.{pc_stored, entered_closing}

-- ---- the fuel

-- the bank's amount, if there is one, else the fuel
abbrev pub amount : Option ℕ → ℕ → ℕ
amount None n = n
amount (Some b) n = b

abbrev pub reserve : World → ℕ
reserve w = amount w.fuel.bank w.fuel.fuel

abbrev pub fuelled : ℕ → Option ℕ → Bool → World → World
fuelled n bank ready w = with_fuel (record { fuel = n; bank = bank; ready = ready }) w

-- 10: "bank and fuel both used up"
abbrev pub used_up : World → Bool
used_up w = eqb w.fuel.fuel 0 && eqb (reserve w) 0

-- the bank is taken back
abbrev pub bank_back : World → World
bank_back w = fuelled (reserve w) None w.fuel.ready w

-- ---- the search for a cleanup: "fuel, a pc and cleanups ready", and the fuel in hand used up

abbrev pub searches : World → Bool
searches w = eqb w.fuel.fuel 0 && w.fuel.ready

-- c can be closed now: suspended, and it fits
abbrev pub closable : World → ℕ → Bool
closable w c = is_coroutine (found w c) && (suspended (state w c) && not (too_high w c))

-- the queue from the first that can be closed on
abbrev pub queue_from : World → List ℕ → List ℕ
queue_from w [] = []
queue_from w (c ∷ queue) = pick (closable w c) (c ∷ queue) (queue_from w queue)

-- the words looked at, that one included
abbrev pub taken : World → List ℕ → ℕ
taken w [] = 0
taken w (c ∷ queue) = pick (closable w c) 1 (suc (taken w queue))

-- "it stores pc first"; the cleanup is entered, marked closing with nil, and takes no unit
abbrev pub cleanup : ℕ → World → World
cleanup pc w =
    let z = pc_stored pc w in
    let queue = queue_from z w.finalize in
    fuelled (reserve w) None false (with_finalizing true (entered_closing 0 (get_or queue 0 0) Driver.Finalize (with_finalize (drop 1 queue) z)))

-- the charge starts one
abbrev pub starts : ℕ → World → Bool
starts pc w = searches w && not (is_nil (queue_from (pc_stored pc w) w.finalize))

-- ---- the charge is taken: one unit less; a search that found none has emptied the queue

abbrev pub charged : ℕ → World → World
charged pc w =
    pick (not (eqb w.fuel.fuel 0)) (fuelled (w.fuel.fuel - 1) w.fuel.bank w.fuel.ready w)
    (pick (not w.fuel.ready) (fuelled (reserve w - 1) None false w)
    (fuelled (reserve w - 1) None false (with_finalizing false (with_finalize [] (pc_stored pc w)))))

-- the queue words that it took off
abbrev pub lost : ℕ → World → ℕ
lost pc w = pick (searches w) (taken (pc_stored pc w) w.finalize) 0

-- ---- an instruction: its own lines, with the queue words that the charge took off. A 10 of its own is Spawn's at its hook.

abbrev pub as_answer : ℕ → Line Step → Line Answer
as_answer n l = line l.number l.stops (pick (eqb l.number 10) (Answer.Unpaid n) (Answer.Stepped l.answer n)) l.left

abbrev pub instruction : ℕ → Bool → (World → Lines Step) → World → Lines Answer
instruction pc operands own w =
    let n = lost pc w in
    let o = own (charged pc w) in
    lines
    (refuse 12 (is_nil w.frames) w
    ∷ refuse 13 (not operands) w
    ∷ line 10 (used_up w) (Answer.Stepped (Step.Fault Fault.OutOfFuel) 0) (bank_back w)
    ∷ line 17 (starts pc w) (Answer.Cleanup n) (cleanup pc w)
    ∷ map (as_answer n) o.tests)
    (as_answer n o.done)
