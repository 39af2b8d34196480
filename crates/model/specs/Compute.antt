-- Runs that compute: a proof under `unfolding computed` opens every definition of a call.
use Rattle.lists.specs.Pick.{pick}
use Rattle.model.specs.Program.{setup_ok}
use Rattle.model.specs.Heap.{alloc, to_dyn}
use Rattle.model.specs.Coro.{coro_create, coro_enter, coro_suspend, deliver, coro_returned, coro_escaped, abort_coros}
use Rattle.model.specs.Cleanup.{spawn_task, start_finalizer, charge_slow, charge}
use Rattle.model.specs.Machine.{push_frame, apply_cont, finish, unwind}
use Rattle.model.specs.Exec.{coro_new, indirect, coro_new_indirect, spawn, auto_key, yield, yield_kv, await, resume, resume_throw, coro_close, coro_status, coro_current, coro_key, coro_result, iter_next}
use Rattle.model.specs.Gate.{instruction, on_frame, on_host}
use Rattle.model.specs.Added.{host_call, host_entry, function_call, put_word, make_iterator, take_outcome, hand_over, grant, stop_run, registers}
use Rattle.model.specs.Sound.{sizes_ok, saved_sizes_ok, frames_ok, entry_ok, floors_ok, drivers_ok, running_ok, saved_ok, rows_ok, queues_ok, fuel_ok, unused_ok, ranges_ok, sound}
use Rattle.model.specs.Call.{typed}
use Rattle.model.specs.Step.{call, tested, step}

unfoldable pub computed : {A : Type 0} → A → A
unfolding pick setup_ok alloc to_dyn coro_create coro_enter coro_suspend deliver coro_returned coro_escaped abort_coros spawn_task start_finalizer charge_slow
    charge push_frame apply_cont finish unwind coro_new indirect coro_new_indirect spawn auto_key yield yield_kv await resume resume_throw coro_close
    coro_status coro_current coro_key coro_result iter_next instruction on_frame on_host host_call host_entry function_call put_word make_iterator
    take_outcome hand_over grant stop_run registers sizes_ok saved_sizes_ok frames_ok entry_ok floors_ok drivers_ok running_ok saved_ok rows_ok queues_ok
    fuel_ok unused_ok ranges_ok sound typed call tested step
computed x = x
