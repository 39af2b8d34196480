-- `resume` meets the definition: the words of two registers, an entry and an arrival. Assumes nothing.
use Rattle.exec_enter.proofs.Sent.{resumed}
use Rattle.exec_enter.proofs.resume.resume.Goals as goal

pub enter_send-requires : goal.enter_send-requires
enter_send-requires c =
    let p = c.requires in
    record { ok = p.ok; narrow = p.narrow; some = p.coro.some }

pub returns : goal.returns
returns c =
    λ w b rep snd. resumed c.args.sizes _ _ b.fuel w c.args.pc c.args.dst c.args.c c.args.src c.reg-v.result c.reg-sent.result _
    (c.reg-v.ensures w.stack w.frames rep.stack rep.frames).is (c.reg-sent.ensures w.stack w.frames rep.stack rep.frames).is
    (c.enter_send.ensures w b rep snd)
