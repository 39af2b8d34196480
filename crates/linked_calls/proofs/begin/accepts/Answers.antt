-- `accepts` meets its contract: by the lengths, then as `allowed` says. Assumes nothing.
use Rattle.linked_calls.proofs.Others.{no-machine, no_fuel, long-all}
use Rattle.linked_calls.proofs.begin.accepts.Goals as goal

pub returns-then-machine-lt-MACHINE_WIDTH : goal.returns-then-machine-lt-MACHINE_WIDTH
returns-then-machine-lt-MACHINE_WIDTH c h l = let a = c.args in no-machine h a.given.now _ a.machine a.fuel l c.if-machine-lt-MACHINE_WIDTH.true

pub returns-then-fuel-lt-FUEL_WIDTH : goal.returns-then-fuel-lt-FUEL_WIDTH
returns-then-fuel-lt-FUEL_WIDTH c h l = let a = c.args in no_fuel h a.given.now _ a.machine a.fuel l c.if-machine-lt-MACHINE_WIDTH.false c.if-fuel-lt-FUEL_WIDTH.true

pub returns : goal.returns
returns c h l =
    let a = c.args in
    long-all h a.given.now _ a.machine a.fuel l c.if-machine-lt-MACHINE_WIDTH.false c.if-fuel-lt-FUEL_WIDTH.false c.allowed.result (c.allowed.ensures h.words l.words)
