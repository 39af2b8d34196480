-- `op_by` meets its contract, by the code. Assumes nothing.
use mathlib.Core.Path.{◌≡◌, sym}
use lib.ListN.{get_or-eq_default}
use Rattle.model.specs.declared.call.Op.{Op}
use Rattle.memory_calls.specs.Codes.{as_pc, as_reg, as_argc}
use Rattle.memory_calls.specs.Call.{table}
use Rattle.memory_calls.proofs.Past.{past}
use Rattle.memory_calls.proofs.written.op_by.Lts as lts
use Rattle.memory_calls.proofs.written.op_by.Reads as reads
use Rattle.memory_calls.proofs.written.op_by.Tie as tie
use Rattle.memory_calls.proofs.written.op_by.Goals as goal

abbrev After-as_argc-nd : Type 0
After-as_argc-nd = lts.After-as_argc tie.the-claims reads.Pre reads.Post

-- `op_by` meets its contract, by the code. Assumes nothing.
-- the operands, narrowed; z is the place after the last
pa : (z : After-as_argc-nd) → z.as_pc-pa.result ≡ as_pc z.args.a
pa z = z.as_pc-pa.ensures

pb : (z : After-as_argc-nd) → z.as_pc-pb.result ≡ as_pc z.args.b
pb z = z.as_pc-pb.ensures

pc : (z : After-as_argc-nd) → z.as_pc-pc.result ≡ as_pc z.args.c
pc z = z.as_pc-pc.ensures

ra : (z : After-as_argc-nd) → z.as_reg-ra.result ≡ as_reg z.args.a
ra z = z.as_reg-ra.ensures

rb : (z : After-as_argc-nd) → z.as_reg-rb.result ≡ as_reg z.args.b
rb z = z.as_reg-rb.ensures

rc : (z : After-as_argc-nd) → z.as_reg-rc.result ≡ as_reg z.args.c
rc z = z.as_reg-rc.ensures

rd : (z : After-as_argc-nd) → z.as_reg-rd.result ≡ as_reg z.args.d
rd z = z.as_reg-rd.ensures

re : (z : After-as_argc-nd) → z.as_reg-re.result ≡ as_reg z.args.e
re z = z.as_reg-re.ensures

nd : (z : After-as_argc-nd) → z.as_argc-nd.result ≡ as_argc z.args.d
nd z = z.as_argc-nd.ensures

pub returns-in-0 : goal.returns-in-0
returns-in-0 c = rw (c.in-0.is, pa c.before, rb c.before, pc c.before, nd c.before)

pub returns-in-1 : goal.returns-in-1
returns-in-1 c = rw (c.in-1.is, pa c.before, rb c.before, rc c.before, nd c.before)

pub returns-in-2 : goal.returns-in-2
returns-in-2 c = rw (c.in-2.is, pa c.before, rb c.before, rc c.before, nd c.before)

pub returns-in-3 : goal.returns-in-3
returns-in-3 c = rw (c.in-3.is, pa c.before, rb c.before, rc c.before)

pub returns-in-4 : goal.returns-in-4
returns-in-4 c = rw (c.in-4.is, pa c.before, rb c.before, rc c.before, rd c.before)

pub returns-in-5 : goal.returns-in-5
returns-in-5 c = rw (c.in-5.is, pa c.before, rb c.before, rc c.before)

pub returns-in-6 : goal.returns-in-6
returns-in-6 c = rw (c.in-6.is, pa c.before, rb c.before, rc c.before, rd c.before)

pub returns-in-7 : goal.returns-in-7
returns-in-7 c = rw (c.in-7.is, pa c.before, rb c.before, rc c.before, rd c.before)

pub returns-in-8 : goal.returns-in-8
returns-in-8 c = rw (c.in-8.is, pa c.before, rb c.before, rc c.before, rd c.before)

pub returns-in-9 : goal.returns-in-9
returns-in-9 c = rw (c.in-9.is, pa c.before, rb c.before, rc c.before)

pub returns-in-10 : goal.returns-in-10
returns-in-10 c = rw (c.in-10.is, pa c.before, rb c.before)

pub returns-in-11 : goal.returns-in-11
returns-in-11 c = rw (c.in-11.is, pa c.before, rb c.before, rc c.before)

pub returns-in-12 : goal.returns-in-12
returns-in-12 c = rw (c.in-12.is, pa c.before, rb c.before, rc c.before)

pub returns-in-13 : goal.returns-in-13
returns-in-13 c = rw (c.in-13.is, pa c.before, rb c.before, rc c.before, rd c.before, re c.before)

pub returns-in-14 : goal.returns-in-14
returns-in-14 c = rw (c.in-14.is, c.kind_of.ensures)

pub returns-in-15 : goal.returns-in-15
returns-in-15 c = rw (c.in-15.is, c.fault_of.ensures, c.opt_of.ensures)

pub returns-in-16 : goal.returns-in-16
returns-in-16 c = rw c.in-16.is

pub returns-in-17 : goal.returns-in-17
returns-in-17 c = rw (c.in-17.is, pa c.before)

pub returns-in-18 : goal.returns-in-18
returns-in-18 c = rw c.in-18.is

pub returns-in-19 : goal.returns-in-19
returns-in-19 c = rw (c.in-19.is, pa c.before.before, pb c.before.before, c.cont_of.ensures)

pub returns-in-20 : goal.returns-in-20
returns-in-20 c = rw (c.in-20.is, ra c.before)

pub returns-in-21 : goal.returns-in-21
returns-in-21 c = rw c.in-21.is

pub returns-in-22 : goal.returns-in-22
returns-in-22 c = rw c.in-22.is

pub returns-in-23 : goal.returns-in-23
returns-in-23 c = rw c.in-23.is

pub returns-in-24 : goal.returns-in-24
returns-in-24 c = rw c.in-24.is

pub returns-in-25 : goal.returns-in-25
returns-in-25 c = rw c.in-25.is

pub returns-in-26-to-18446744073709551615 : goal.returns-in-26-to-18446744073709551615
returns-in-26-to-18446744073709551615 c =
    let g = c.args in
    sym (get_or-eq_default (table g.a g.b g.c g.d g.e) Op.Look {n = g.n} (past g.n 26 c.in-26-to-18446744073709551615.in-26-to-18446744073709551615-own.rest))
