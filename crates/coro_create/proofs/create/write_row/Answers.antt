-- `write_row` meets its contract: the registers, then the frame. Assumes nothing.
use Rattle.std.proofs.Common.{◌*◌, take, ap, ◌∙◌, arith}
use Rattle.lists.specs.Parts.{splice, pad}
use Rattle.coro_create.proofs.Parts.{copied-fits}
use Rattle.coro_create.proofs.create.write_row.Goals as goal

pub fill_row-requires : goal.fill_row-requires
fill_row-requires c =
    let k = copied-fits c.args.n c.args.regs in
    let e = c.copied-k.ensures in
    let p = c.requires in
    let few = p.few in
    let on = p.stack in
    (omega arith, omega arith, omega arith)

pub returns : goal.returns
returns c =
    record {
      stack = c.fill_row.ensures ∙ ap (λ k. splice c.args.saved_stack.now (c.args.row * c.args.sizes.width)
          (pad c.args.regs (take k c.args.args))) c.copied-k.ensures;
      frames = c.put_frame.ensures;
    }
