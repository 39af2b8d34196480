-- The slots in words: codes, flags and unused words as `slots_held` has them, and what each field can hold.
use Rattle.std.specs.Prelude.{ℕ, ◌^◌, Bool, true, ◌&&◌, ◌||◌, List, eqb, ltb}
use Rattle.lists.specs.Chunks.{chunk_at}
use Rattle.lists.specs.Tests.{all_below}
use Rattle.heap.specs.Slot.{width}
use Rattle.heap.specs.Ranges.{slot_ok}
use Rattle.heap.specs.Object.{is_filled}
use Rattle.heap.specs.Table.{Slot}
use Rattle.heap.specs.Heap.{slots_of}
use Rattle.heap.specs.declared.object.Object as H
use Rattle.heap.specs.declared.object.Object.TheVariants as O
use Rattle.model.specs.Lists.{each}
use Rattle.model.specs.Program.{between}
use Rattle.memory_sound.specs.Words.{slots_held}

-- what fields of 16 and 32 bits and codes can hold
abbrev pub object_fits : H.Object → Bool
object_fits O.Empty = true
object_fits (O.Func f) = ltb f (2 ^ 32)
object_fits (O.Int n) = true
object_fits (O.Iter s d k) = true
object_fits (O.Error e f p v) = between 1 8 e && ltb f (2 ^ 32) && ltb p (2 ^ 32)
object_fits (O.Coro c) = ltb c.waiting (2 ^ 16)

-- a tag has 16 bits; an empty slot has none
abbrev pub slot_fits : Slot H.Object → Bool
slot_fits x = ltb x.tag (2 ^ 16) && object_fits x.object && (is_filled x.object || eqb x.tag 0)

-- each slot's words within the ranges of their kind
abbrev pub ranges_test : List ℕ → ℕ → Bool
ranges_test ws n = all_below n (λ i. slot_ok (chunk_at width ws i))

abbrev pub table_test : List ℕ → ℕ → Bool
table_test ws n = slots_held ws n && each slot_fits (slots_of n ws)
