-- The objects of a world as the lower crate's slots: a coroutine's saved registers and frames are counted there, and stand in its
-- row.
use Rattle.std.specs.Prelude.{ℕ, List, map, length}
use Rattle.heap.specs.Table.{Slot, slot}
use Rattle.heap.specs.declared.object.CoroObj.{CoroObj}
use Rattle.heap.specs.declared.object.Object.TheVariants as O
use Rattle.heap.specs.declared.object.Object as H
use Rattle.model.specs.Object.{Core, Rest, Object}

abbrev pub to_coro : Core → Rest → CoroObj
to_coro k r =
    record {
      state = k.state;
      closing = r.closing;
      finalized = r.finalized;
      task = r.task;
      seq = r.seq;
      row = r.row;
      regs = length k.regs;
      frames = length k.frames;
      maxregs = r.maxregs;
      maxframes = r.maxframes;
      waiting = k.waiting;
      payload = r.payload;
      key = r.key;
      largest = r.largest;
      result = r.result;
      signal = r.signal;
    }

abbrev pub to_object : Object → H.Object
to_object Object.Empty = O.Empty
to_object (Object.Func f) = O.Func f
to_object (Object.Int n) = O.Int n
to_object (Object.Iter s d k) = O.Iter s d k
to_object (Object.Error e f p v) = O.Error e f p v
to_object (Object.Coro k r) = O.Coro (to_coro k r)

abbrev pub to_slot : Slot Object → Slot H.Object
to_slot x = slot x.tag (to_object x.object)

abbrev pub to_slots : List (Slot Object) → List (Slot H.Object)
to_slots xs = map to_slot xs
