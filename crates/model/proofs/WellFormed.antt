-- A machine is sound exactly if it is well-formed. Assumes nothing.
use mathlib.Core.Logic.{◌↔◌}
use mathlib.Core.Path.{◌≡◌}
use mathlib.Core.Bool.{true, ◌&&◌}
use lib.ListN.{length}
use Rattle.model.specs.Lists.{each, distinct}
use Rattle.model.specs.World.{World}
use Rattle.model.specs.Object.{Rest}
use Rattle.model.specs.Heap.{coro}
use Rattle.model.specs.Sound.{frames_ok, entry_ok, runs, coros, runs_among, running_ok, queue_ok, queues_ok, sound}
use Rattle.model.specs.WellFormed.{Running, Queue, WellFormed}
use Rattle.model.specs.Exactly.{Exactly}
use Rattle.model.specs.declared.machine.Active.{Active}
use Rattle.model.proofs.Tests.{and_left, and_right, both}
use Rattle.model.proofs.Rules.{rules, ruled}
use Rattle.model.proofs.ClosingList.{allowed, accepted}
use Rattle.model.proofs.FrameRules.{entry-exactly, EntryLast}
use Rattle.model.proofs.ChainRules.{floors-exactly, drivers-exactly}
use Rattle.model.proofs.SlotRules.{sizes-exactly, saved-sizes-exactly, runs-exactly, own-exactly, others-exactly}
use Rattle.model.proofs.RowRules.{rows-exactly}
use Rattle.model.proofs.ObjectRules.{Over, over-exactly, saved-ok-exactly, queue-exactly, fuel-exactly, unused-exactly, ranges-exactly}

frames-exactly : (w : World) → (frames_ok w ≡ true) ↔ Over w.setup (length w.stack) w.frames
unfolding frames_ok
frames-exactly w = over-exactly w.setup (length w.stack) w.frames

entry-ok-exactly : (w : World) → (entry_ok w ≡ true) ↔ EntryLast w.frames
unfolding entry_ok
entry-ok-exactly w = entry-exactly w.frames

running-exactly : (w : World) → (running_ok w ≡ true) ↔ Running w
unfolding running_ok
running-exactly w =
    let a = each (λ (x : Active). runs (coro w x.coro)) w.chain in
    let b = distinct (coros w.chain) in
    let c = runs_among (coros w.chain) 0 w.slots in (
      λ e. record {
        runs = (runs-exactly w).0 (and_left a b (and_left (a && b) c e));
        own = (own-exactly w.chain).0 (and_right a b (and_left (a && b) c e));
        no_other = (others-exactly w).0 (and_right (a && b) c e);
      },
      λ q. both (both ((runs-exactly w).1 q.runs) ((own-exactly w.chain).1 q.own)) ((others-exactly w).1 q.no_other),
    )

queues-exactly : (w : World) → (queues_ok w ≡ true) ↔ (Queue (λ r. r.task ≡ true) w w.ready × Queue (λ r. r.finalized ≡ true) w w.finalize)
unfolding queues_ok
queues-exactly w =
    let a = queue_ok (λ (r : Rest). r.task) w w.ready in
    let b = queue_ok (λ (r : Rest). r.finalized) w w.finalize in
    let t = queue-exactly (λ r. r.task) w w.ready in
    let c = queue-exactly (λ r. r.finalized) w w.finalize in
    (λ e. (t.0 (and_left a b e), c.0 (and_right a b e)), λ q. both (t.1 q.0) (c.1 q.1))

formed : (w : World) → sound w ≡ true → WellFormed w
formed w h =
    let q = rules w h in
    let over = (frames-exactly w).0 q.frames in
    let kept = (saved-ok-exactly w).0 q.saved in
    let queues = (queues-exactly w).0 q.queues in
    let unused = (unused-exactly w).0 q.unused in
    record {
      setup = allowed w.setup q.setup;
      sizes = (sizes-exactly w).0 q.sizes;
      saved-sizes = (saved-sizes-exactly w).0 q.saved_sizes;
      bases = over.bases;
      functions = over.functions;
      floors = (floors-exactly w).0 q.floors;
      running = (running-exactly w).0 q.running;
      entry = (entry-ok-exactly w).0 q.entry;
      saved = λ i t k r c. (kept i t k r c).saved;
      rows = (rows-exactly w).0 q.rows;
      drivers = (drivers-exactly w q.floors).0 q.drivers;
      continuations = over.continuations;
      catches = over.catches;
      ready = queues.0;
      cleanup = queues.1;
      fuel = (fuel-exactly w).0 q.fuel;
      unused = record { tag = unused.0; row = unused.1; words = λ i t k r c. (kept i t k r c).words; frames = λ i t k r c. (kept i t k r c).frames };
      ranges = (ranges-exactly w).0 q.ranges;
    }

sounds : (w : World) → WellFormed w → sound w ≡ true
sounds w q =
    let floors = (floors-exactly w).1 q.floors in
    ruled w
    (record {
      setup = accepted w.setup q.setup;
      sizes = (sizes-exactly w).1 q.sizes;
      saved_sizes = (saved-sizes-exactly w).1 q.saved-sizes;
      frames = (frames-exactly w).1 (record { bases = q.bases; functions = q.functions; continuations = q.continuations; catches = q.catches });
      entry = (entry-ok-exactly w).1 q.entry;
      floors = floors;
      drivers = (drivers-exactly w floors).1 q.drivers;
      running = (running-exactly w).1 q.running;
      saved = (saved-ok-exactly w).1 (λ i t k r c. record { saved = q.saved i t k r c; frames = q.unused.frames i t k r c; words = q.unused.words i t k r c });
      rows = (rows-exactly w).1 q.rows;
      queues = (queues-exactly w).1 (q.ready, q.cleanup);
      fuel = (fuel-exactly w).1 q.fuel;
      unused = (unused-exactly w).1 (q.unused.tag, q.unused.row);
      ranges = (ranges-exactly w).1 q.ranges;
    })

-- the theorem
pub exactly : Exactly
exactly = record { closing = allowed; accepted = accepted; formed = formed; sounds = sounds }
