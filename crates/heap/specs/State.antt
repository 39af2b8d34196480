-- heap.rs: CoroState's questions.
use Rattle.std.specs.Prelude.{Bool, true, false}
use Rattle.heap.specs.declared.object.CoroState.{CoroState}

abbrev pub is_created : CoroState → Bool
is_created CoroState.Created = true
is_created CoroState.Running = false
is_created CoroState.Yielded = false
is_created CoroState.Awaiting = false
is_created CoroState.Returned = false
is_created CoroState.Failed = false

abbrev pub is_running : CoroState → Bool
is_running CoroState.Created = false
is_running CoroState.Running = true
is_running CoroState.Yielded = false
is_running CoroState.Awaiting = false
is_running CoroState.Returned = false
is_running CoroState.Failed = false

abbrev pub is_awaiting : CoroState → Bool
is_awaiting CoroState.Created = false
is_awaiting CoroState.Running = false
is_awaiting CoroState.Yielded = false
is_awaiting CoroState.Awaiting = true
is_awaiting CoroState.Returned = false
is_awaiting CoroState.Failed = false

abbrev pub is_returned : CoroState → Bool
is_returned CoroState.Created = false
is_returned CoroState.Running = false
is_returned CoroState.Yielded = false
is_returned CoroState.Awaiting = false
is_returned CoroState.Returned = true
is_returned CoroState.Failed = false

-- Yielded or Awaiting
abbrev pub is_suspended : CoroState → Bool
is_suspended CoroState.Created = false
is_suspended CoroState.Running = false
is_suspended CoroState.Yielded = true
is_suspended CoroState.Awaiting = true
is_suspended CoroState.Returned = false
is_suspended CoroState.Failed = false

-- is_resumable: Created, Yielded or Awaiting
abbrev pub is_resumable : CoroState → Bool
is_resumable CoroState.Created = true
is_resumable CoroState.Running = false
is_resumable CoroState.Yielded = true
is_resumable CoroState.Awaiting = true
is_resumable CoroState.Returned = false
is_resumable CoroState.Failed = false

-- Returned or Failed
abbrev pub is_finished : CoroState → Bool
is_finished CoroState.Created = false
is_finished CoroState.Running = false
is_finished CoroState.Yielded = false
is_finished CoroState.Awaiting = false
is_finished CoroState.Returned = true
is_finished CoroState.Failed = true
