-- A body's frame by its way. Assumes nothing.
use mathlib.Core.Path.{◌≡◌, refl}
use mathlib.Core.Bool.{false}
use Rattle.lists.proofs.Tests.{never}
use Rattle.model.specs.Frames.{is_coro}
use Rattle.model.specs.declared.machine.Cont.{Cont}
use Rattle.machine_state.specs.Way.{way_of}
use Rattle.machine_state.specs.declared.way.Way.{Way}

pub out-way : (c : Cont) → way_of c ≡ Way.Out → c ≡ Cont.Entry
out-way Cont.Entry e = refl
out-way (Cont.Write r) e = never cc
out-way (Cont.Dyn r) e = never cc
out-way (Cont.Value r) e = never cc
out-way Cont.Discard e = never cc
out-way Cont.Coro e = never cc

pub caller-way : (c : Cont) → way_of c ≡ Way.Caller → is_coro c ≡ false
caller-way Cont.Entry e = refl
caller-way (Cont.Write r) e = refl
caller-way (Cont.Dyn r) e = refl
caller-way (Cont.Value r) e = refl
caller-way Cont.Discard e = refl
caller-way Cont.Coro e = never cc

pub driver-way : (c : Cont) → way_of c ≡ Way.Driver → c ≡ Cont.Coro
driver-way Cont.Entry e = never cc
driver-way (Cont.Write r) e = never cc
driver-way (Cont.Dyn r) e = never cc
driver-way (Cont.Value r) e = never cc
driver-way Cont.Discard e = never cc
driver-way Cont.Coro e = refl
