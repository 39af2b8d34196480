-- `entering` meets the definition, by the instruction that enters. Assumes nothing.
use borrow.Enum.Refused.{opened}
use Rattle.exec_arm.proofs.Fitting.{around, as-arm, resume-fits, throw-fits, close-fits, next_fits}
use Rattle.exec_arm.proofs.Tags.{not-entering}
use Rattle.exec_arm.proofs.entering.entering.Goals as goal

pub resume-did-requires : goal.resume-did-requires
resume-did-requires c = resume-fits c.requires c.in-Resume.is

pub resume_throw-did-requires : goal.resume_throw-did-requires
resume_throw-did-requires c = throw-fits c.requires c.in-ResumeThrow.is

pub coro_close-did-requires : goal.coro_close-did-requires
coro_close-did-requires c = close-fits c.requires c.in-CoroClose.is

pub iter_next-did-requires : goal.iter_next-did-requires
iter_next-did-requires c = next_fits c.requires c.in-IterNext.is

pub staying-requires : goal.staying-requires
staying-requires c = c.requires

pub returns-in-Resume : goal.returns-in-Resume
returns-in-Resume c = λ s pc t arm q w b rep snd. as-arm q c.in-Resume.is (c.resume-did.ensures w (around rep) rep snd)

pub returns-in-ResumeThrow : goal.returns-in-ResumeThrow
returns-in-ResumeThrow c = λ s pc t arm q w b rep snd. as-arm q c.in-ResumeThrow.is (c.resume_throw-did.ensures w (around rep) rep snd)

pub returns-in-CoroClose : goal.returns-in-CoroClose
returns-in-CoroClose c = λ s pc t arm q w b rep snd. as-arm q c.in-CoroClose.is (c.coro_close-did.ensures w (around rep) rep snd)

pub returns-in-IterNext : goal.returns-in-IterNext
returns-in-IterNext c = λ s pc t arm q w b rep snd. as-arm q c.in-IterNext.is (c.iter_next-did.ensures w (around rep) rep snd)

pub returns-in_default : goal.returns-in_default
returns-in_default c =
    λ s.
    c.staying.ensures s (not-entering _ (opened c.in_default.in_default-own.keys5))
