-- `deliver_all` meets its contract, arm by arm. Assumes nothing.
use Rattle.exec_yield.proofs.Settled.{deliver-done, deliver-refused}
use Rattle.exec_yield.proofs.suspending.deliver_all.Goals as goal

pub deliver-did-requires : goal.deliver-did-requires
deliver-did-requires c = c.requires.drives c.in-Ok.driver c.in-Ok.event c.in-Ok.is

pub returns-in-Ok : goal.returns-in-Ok
returns-in-Ok c =
    λ l w b rep. deliver-done l _ _ _ w c.args.a c.in-Ok.driver c.in-Ok.event _ _ c.in-Ok.is
    (c.deliver-did.ensures l w b rep) c.stepped_by-step.ensures

pub returns-in-Err : goal.returns-in-Err
returns-in-Err c = λ l w b rep. deliver-refused l _ _ _ w c.args.a c.in-Err.f c.in-Err.is rep
