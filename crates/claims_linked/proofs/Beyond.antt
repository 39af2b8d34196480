-- The words after the machine's 25 and the fuel's four are not written. Assumes nothing.
use Prim.Native.Nat.{ℕ, ◌*◌}
use mathlib.Core.Path.{◌≡◌, refl, sym, subst}
use mathlib.Core.Bool.{Bool, true, false}
use mathlib.Core.List.{List}
use lib.ListN.{length, drop}
use lib.Seq.{drop-drop}
use lib.Dec.{leb}
use Rattle.lists.specs.Parts.{splice}
use Rattle.lists.specs.Pick.{pick}
use Rattle.std.specs.Prelude.{Option, Result, Some, None}
use Rattle.memory_calls.specs.declared.call.Gate.{Gate}
use Rattle.model.specs.declared.call.Op.{Op}
use Rattle.model.specs.declared.machine.Fuel.{Fuel}
use Rattle.memory_world.specs.declared.machine.Machine.{Machine}
use Rattle.memory_step.specs.Step.{MemoryState, set_up_ok, set_up_words}
use Rattle.outer_run.specs.Run.{do_words}
use Rattle.linked_calls.specs.Words.{machine_words, fuel_words}
use Rattle.linked_calls.specs.Host.{Host, state_of, passes_test, Gave, overwritten, call_in, fresh_in, long, set_up_in, run_host}
use Rattle.claims_linked.specs.Library.{Beyond}
use Rattle.claims_linked.proofs.Answered.{by, call-is, begun-by, set-up-is, all, count, ran-by, run_is}

numbers-rest : (ms : List ℕ) (m : Machine) → drop 25 (splice ms 0 (machine_words m)) ≡ drop 25 ms
numbers-rest ms m = drop-drop 12 13 ms

fuel-as : (fs : List ℕ) (n : ℕ) (b : Option ℕ) (r : Bool) → drop 4 (splice fs 0 (fuel_words (record { fuel = n; bank = b; ready = r }))) ≡ drop 4 fs
fuel-as fs n None r = refl
fuel-as fs n (Some a) r = refl

fuel-rest : (fs : List ℕ) (f : Fuel) → drop 4 (splice fs 0 (fuel_words f)) ≡ drop 4 fs
fuel-rest fs f = fuel-as fs f.fuel f.bank f.ready

over-rest : (h : Host) (s : MemoryState) → Beyond h (overwritten h s)
over-rest h s = record { machine = numbers-rest h.machine s.machine; fuel = fuel-rest h.fuel s.fuel }

same : (h : Host) → Beyond h h
same h = record { machine = refl; fuel = refl }

called-rest : (h : Host) (r : Result Op Gate) (xs : List ℕ) (room ok : Bool) → Beyond h (by h r xs room ok).host
unfolding pick
called-rest h r xs false ok = same h
called-rest h r xs true false = same h
called-rest h r xs true true = over-rest h (do_words (state_of h) r).state

ran-rest : (h : Host) (cs xs : List ℕ) (room ok : Bool) → Beyond h (ran-by h cs xs room ok).host
unfolding pick
ran-rest h cs xs false ok = same h
ran-rest h cs xs true false = same h
ran-rest h cs xs true true = over-rest h (all h cs xs).state

fresh-rest : (h : Host) (given : List ℕ) → Beyond h (fresh_in h given)
fresh-rest h given = record { machine = drop-drop 12 13 h.machine; fuel = fuel-rest h.fuel (set_up_words (state_of h) given).state.fuel }

begun-rest : (h : Host) (given xs : List ℕ) (room wide ok : Bool) → Beyond h (begun-by h given xs room wide ok).host
unfolding pick
begun-rest h given xs false wide ok = same h
begun-rest h given xs true false ok = same h
begun-rest h given xs true true false = same h
begun-rest h given xs true true true = fresh-rest h given

pub beyond : (h : Host) (r : Result Op Gate) (ws xs : List ℕ) → Beyond h (call_in h r xs).host × Beyond h (run_host h ws xs).host × Beyond h (set_up_in h ws xs).host
beyond h r ws xs =
    let at : (g k : Gave) → g ≡ k → Beyond h k.host → Beyond h g.host = λ g k p b. subst (λ (x : Gave). Beyond h x.host) (sym p) b in (
      at (call_in h r xs) _ (call-is h r xs) (called-rest h r xs (leb 8 (length xs)) (passes_test h)),
      at (run_host h ws xs) _ (run_is h ws xs) (ran-rest h ws xs (leb (count h ws xs * 8) (length xs)) (passes_test h)),
      at (set_up_in h ws xs) _ (set-up-is h ws xs) (begun-rest h ws xs (leb 8 (length xs)) (long h) (set_up_ok ws h.words)),
    )
