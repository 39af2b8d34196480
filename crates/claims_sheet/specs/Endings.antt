-- THE SHEET of `finish`, by the top frame's continuation, and of `unwind`, frame by frame.
use Rattle.std.specs.Prelude.{ℕ, ◌^◌, Bool, true, false, ◌&&◌, List, [], ◌∷◌, take, leb, Option, Some, None}
use Rattle.lists.specs.Pick.{pick}
use Rattle.heap.specs.Coding.{of_bits}
use Rattle.heap.specs.Word.{int_word}
use Rattle.heap.specs.declared.heap.ResultKind.{ResultKind}
use Rattle.heap.specs.declared.object.CoroState.{CoroState}
use Rattle.model.specs.Object.{Object}
use Rattle.model.specs.World.{World}
use Rattle.model.specs.declared.machine.Active.{Active}
use Rattle.model.specs.declared.machine.Cont.{Cont}
use Rattle.model.specs.declared.machine.Driver.{Driver}
use Rattle.model.specs.declared.machine.Frame.{Frame}
use Rattle.model.specs.declared.machine.Stop.{Stop}
use Rattle.model.specs.declared.call.Answer.{Answer}
use Rattle.claims_sheet.specs.Setters.{with_stack, with_frames, with_chain, with_outcome}
use Rattle.claims_sheet.specs.Lines.{Line, Lines, lines, refuse, accept}
use Rattle.claims_sheet.specs.Words.{lacks_memory, no_slot}
use Rattle.claims_sheet.specs.Moves.{onward, put, sent, iterator_done, finished_with}
use Rattle.claims_sheet.specs.Makings.{stored, new_word}
use Rattle.claims_sheet.specs.Suspending.{cleaning}
use Rattle.claims_sheet.specs.Yields.{is_large}

-- the top frame goes, with its words
abbrev pub popped : Frame → List Frame → World → World
popped f fs w = with_frames fs (with_stack (take f.base w.stack) w)

-- ---- results: "none, dynamic word, i64, u64"

abbrev pub result : ResultKind → ℕ → Option ℕ
result ResultKind.None v = None
result ResultKind.Dyn v = Some v
result ResultKind.I64 v = Some v
result ResultKind.U64 v = Some v

-- 7: "A u64 above 2^63 - 1 gives 7."
abbrev pub too_large : ResultKind → ℕ → Bool
too_large ResultKind.None v = false
too_large ResultKind.Dyn v = false
too_large ResultKind.I64 v = false
too_large ResultKind.U64 v = leb (2 ^ 63) v

-- an integer that is not inline is an object
abbrev pub is_object : ResultKind → ℕ → Bool
is_object ResultKind.None v = false
is_object ResultKind.Dyn v = false
is_object ResultKind.I64 v = is_large v
is_object ResultKind.U64 v = is_large v

abbrev pub converted : ResultKind → ℕ → World → World
converted k v w = pick (is_object k v) (stored (Object.Int v) w.setup.costs.int w) w

abbrev pub dynamic : ResultKind → ℕ → World → ℕ
dynamic ResultKind.None v w = 0
dynamic ResultKind.Dyn v w = v
dynamic ResultKind.I64 v w = pick (is_large v) (new_word w) (int_word (of_bits 63 v))
dynamic ResultKind.U64 v w = pick (is_large v) (new_word w) (int_word (of_bits 63 v))

abbrev pub conversion : ResultKind → ℕ → World → List (Line Answer)
conversion k v w = refuse 7 (too_large k v) w ∷ refuse 9 (is_object k v && lacks_memory w w.setup.costs.int) w ∷ refuse 14 (is_object k v && no_slot w) w ∷ []

-- ---- a coroutine returns: what its driver gets

abbrev pub handed_back : Driver → ℕ → World → World
handed_back (Driver.Resume dst) v w = sent dst v w
handed_back (Driver.Iter has val iter) v w = sent has 0 (iterator_done iter w)
handed_back Driver.Host v w = with_outcome (Some (Stop.Returned v)) w
handed_back Driver.Finalize v w = cleaning false w

-- the innermost one has finished
abbrev pub innermost_finished : List Active → CoroState → ℕ → World → World
innermost_finished [] s v w = w
innermost_finished (a ∷ chain) s v w = finished_with a.coro s v (with_chain chain w)

abbrev pub returned : List Active → ℕ → World → World
returned [] v w = w
returned (a ∷ chain) v w = handed_back a.driver v (innermost_finished (a ∷ chain) CoroState.Returned v w)

-- ---- finish: through Dyn a refusal leaves the frame gone, through Coro everything as it was

abbrev pub stepped : World → World
stepped w = with_frames (onward w.frames) w

abbrev pub written : ℕ → Option ℕ → World → World
written r None w = w
written r (Some v) w = put r v w

abbrev pub or_nil : Option ℕ → ℕ
or_nil None = 0
or_nil (Some v) = v

abbrev pub finish_by : Cont → Frame → List Frame → ResultKind → ℕ → World → Lines Answer
finish_by Cont.Entry f fs k v w = lines [] (accept true (Answer.Exit (result k v)) (popped f fs w))
finish_by (Cont.Write r) f fs k v w = lines [] (accept true Answer.Resume (stepped (written r (result k v) (popped f fs w))))
finish_by (Cont.Dyn r) f fs k v w = lines (conversion k v (popped f fs w)) (accept true Answer.Resume (stepped (put r (dynamic k v (popped f fs w)) (converted k v (popped f fs w)))))
finish_by (Cont.Value r) f fs k v w = lines [] (accept true Answer.Resume (stepped (put r (or_nil (result k v)) (popped f fs w))))
finish_by Cont.Discard f fs k v w = lines [] (accept true Answer.Resume (stepped (popped f fs w)))
finish_by Cont.Coro f fs k v w = lines (conversion k v w) (accept true Answer.Resume (returned w.chain (dynamic k v w) (popped f fs (converted k v w))))

abbrev pub finish_on : List Frame → ResultKind → ℕ → World → Lines Answer
finish_on [] k v w = lines [] (accept true (Answer.Exit (result k v)) w)
finish_on (f ∷ fs) k v w = finish_by f.cont f fs k v w

abbrev pub finish : ResultKind → ℕ → World → Lines Answer
finish k v w = finish_on w.frames k v w
