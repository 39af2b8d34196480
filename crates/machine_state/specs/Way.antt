-- machine.rs: Cont, where a frame's result goes.
use Rattle.model.specs.declared.machine.Cont.{Cont}
use Rattle.machine_state.specs.declared.way.Way.{Way}

abbrev pub way_of : Cont → Way
way_of Cont.Entry = Way.Out
way_of (Cont.Write r) = Way.Caller
way_of (Cont.Dyn r) = Way.Caller
way_of (Cont.Value r) = Way.Caller
way_of Cont.Discard = Way.Caller
way_of Cont.Coro = Way.Driver
