-- `fail_to` meets the definition, driver by driver. Assumes nothing.
use mathlib.Core.Path.{refl}
use mathlib.Core.Bool.{true, false}
use Rattle.model.specs.declared.machine.Driver.{Driver}
use Rattle.coro_end.proofs.Delivery.{told-host}
use Rattle.coro_end.proofs.Homecoming.{fail-by}
use Rattle.coro_end.proofs.escaped.fail_to.Goals as goal

pub returns-in-Resume : goal.returns-in-Resume
returns-in-Resume c =
    let a = c.args in
    λ l w b rep. fail-by l b.words a.m a.fuel w a.d _ a.s false c.in-Resume.is (record { world = rep; answer = refl })

pub returns-in-Iter : goal.returns-in-Iter
returns-in-Iter c =
    let a = c.args in
    λ l w b rep. fail-by l b.words a.m a.fuel w a.d _ a.s false c.in-Iter.is (record { world = rep; answer = refl })

pub returns-in-Host : goal.returns-in-Host
returns-in-Host c =
    let a = c.args in
    λ l w b rep.
    fail-by l b.words c.stopped-n.result a.fuel w a.d Driver.Host a.s true c.in-Host.is
    (record { world = told-host l b.words a.m a.fuel w rep a.s c.stopped-n.result c.stopped-n.ensures; answer = refl })

pub returns-in-Finalize : goal.returns-in-Finalize
returns-in-Finalize c =
    let a = c.args in
    let did = c.set_finalizing-did in
    λ l w b rep.
    fail-by l b.words did.result.machine did.result.fuel w a.d Driver.Finalize a.s true c.in-Finalize.is
    (record { world = did.ensures l w b rep; answer = refl })
