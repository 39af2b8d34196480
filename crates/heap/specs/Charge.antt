-- heap.rs: fits, charge and alloc's tests, on the table's numbers.
use Rattle.std.specs.Prelude.{ℕ, ◌+◌, ◌-◌, ◌^◌, min, Bool, ltb, leb, Result, Ok, Err}
use Rattle.lists.specs.Pick.{pick}
use Rattle.heap.specs.declared.fault.Fault.{Fault}
use Rattle.heap.specs.declared.fault.Fault.TheVariants as F
use Rattle.heap.specs.declared.heap.Heap.{Heap}

-- saturating_add
abbrev pub sat_add : ℕ → ℕ → ℕ
sat_add a b = min (a + b) (2 ^ 64 - 1)

-- heap.rs: fits, whether `bytes` more are within the limit
abbrev pub fits : ℕ → ℕ → ℕ → Bool
fits used limit bytes = leb (sat_add used bytes) limit

-- the bytes charged; the slots taken
abbrev pub with_used : ℕ → Heap → Heap
with_used n h = record { count = h.count; slots = h.slots; used = n; limit = h.limit }

abbrev pub with_count : ℕ → Heap → Heap
with_count n h = record { count = n; slots = h.slots; used = h.used; limit = h.limit }

-- heap.rs: charge
abbrev pub charge_of : Heap → ℕ → Result Heap Fault
charge_of h bytes = pick (fits h.used h.limit bytes) (Ok (with_used (sat_add h.used bytes) h)) (Err Fault.OutOfMemory)

-- alloc's tests, in order: memory (9), then a free slot. 01: "14 is tested right after memory"
abbrev pub lacks : ℕ → ℕ → ℕ → ℕ → ℕ → Result Unit Fault
lacks used limit bytes count slots = pick (fits used limit bytes) (pick (ltb count slots) (Ok tt) (Err F.Full)) (Err F.OutOfMemory)
