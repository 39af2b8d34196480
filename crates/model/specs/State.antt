-- The state of a coroutine: the lower crate's questions.
pub use Rattle.heap.specs.State.{is_created, is_running, is_awaiting, is_returned, is_suspended, is_resumable, is_finished}
