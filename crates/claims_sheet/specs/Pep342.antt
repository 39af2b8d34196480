-- What this machine keeps of PEP 342: send, throw, close and next, as one short theorem about `step` for each sentence. The table
-- of sentences is docs/rules/PEP342.md; what the coroutine does then is in Pep342Yields, Pep342Ends and Pep342Closes, deletion in
-- Pep342Deletion.
use Rattle.std.specs.Prelude.{ℕ, ◌≡◌, Bool, true, false, not, ◌&&◌, List, [], ◌∷◌}
use Rattle.heap.specs.declared.fault.Fault.{Fault}
use Rattle.heap.specs.declared.object.CoroState.{CoroState}
use Rattle.model.specs.Lists.{is_nil}
use Rattle.model.specs.World.{World, After, after}
use Rattle.model.specs.Sound.{sound}
use Rattle.model.specs.Call.{typed}
use Rattle.model.specs.declared.machine.Driver.{Driver}
use Rattle.model.specs.declared.exec.Step.{Step}
use Rattle.model.specs.declared.call.Op.{Op}
use Rattle.model.specs.declared.call.Answer.{Answer}
use Rattle.claims_sheet.specs.Does.{does, operation}
use Rattle.claims_sheet.specs.Words.{word, found, is_coroutine, is_done, core_of, is_in, state, too_high}
use Rattle.claims_sheet.specs.Moves.{pc_stored, put, sent, iterator_done, entered, entered_closing, finished_with}
use Rattle.claims_sheet.specs.Charging.{used_up, starts, charged, lost}
use Rattle.claims_sheet.specs.Sheet.{lie}

-- an instruction at pc of a sound machine passes its gate and its charge, which starts no cleanup; ok: its registers lie in the frame
abbrev pub pays : ℕ → Bool → World → Bool
pays pc ok w = sound w && (not (is_nil w.frames) && (ok && (not (used_up w) && not (starts pc w))))

-- .. and leaves v, with its Step
abbrev pub leaves : ℕ → World → World → Step → After Answer
leaves pc w v s = after v (Answer.Stepped s (lost pc w))

-- the machine once it is charged, and once its pc is stored
abbrev pub at : ℕ → World → World
at pc w = pc_stored pc (charged pc w)

-- the coroutine that register r holds
abbrev pub held : ℕ → ℕ → World → ℕ
held r pc w = word (charged pc w) r

-- v finds a coroutine in one of these states ..
abbrev pub finds : List CoroState → ℕ → World → Bool
finds ss v w = is_coroutine (found w v) && is_in ss (state w v)

-- .. that fits on the frames and the stack
abbrev pub enters : List CoroState → ℕ → World → Bool
enters ss v w = finds ss v w && not (too_high w v)

abbrev pub only_created : List CoroState
only_created = CoroState.Created ∷ []

abbrev pub any_suspended : List CoroState
any_suspended = CoroState.Yielded ∷ CoroState.Awaiting ∷ []

-- .. or new
abbrev pub any_resumable : List CoroState
any_resumable = CoroState.Created ∷ any_suspended

abbrev pub any_finished : List CoroState
any_finished = CoroState.Returned ∷ CoroState.Failed ∷ []

abbrev pub forbidden : List CoroState
forbidden = CoroState.Running ∷ any_finished

-- ---- send

module _ (pc dst c src : ℕ) (w : World) where
  abbrev pub Passes : Type 0
  Passes = pays pc (lie (dst ∷ c ∷ src ∷ []) w) w ≡ true

  abbrev pub Resumes : World → Step → Type 0
  Resumes v s = (t : typed (Op.Resume pc dst c src) ≡ true) → does w (operation (Op.Resume pc dst c src) t) ≡ leaves pc w v s

  abbrev pub Throws : World → Step → Type 0
  Throws v s = (t : typed (Op.ResumeThrow pc dst c src) ≡ true) → does w (operation (Op.ResumeThrow pc dst c src) t) ≡ leaves pc w v s

  abbrev pub Closes : World → Step → Type 0
  Closes v s = (t : typed (Op.CoroClose pc dst c src) ≡ true) → does w (operation (Op.CoroClose pc dst c src) t) ≡ leaves pc w v s

pub record Send (pc dst c src : ℕ) (w : World) (passes : Passes pc dst c src w) : Type 0 where
  -- a suspended coroutine goes on behind its yield, with the sent word in its waiting register
  pub send-suspended : let v = held c pc w in enters any_suspended v (at pc w) ≡ true →
      Resumes pc dst c src w (sent (core_of (found (at pc w) v)).waiting (held src pc w) (entered v (Driver.Resume dst) (at pc w))) Step.Frame
  -- a new one starts, whatever was sent
  pub send-created : let v = held c pc w in enters only_created v (at pc w) ≡ true → Resumes pc dst c src w (entered v (Driver.Resume dst) (at pc w)) Step.Frame
  -- a running or finished one: 3
  pub send-refused : finds forbidden (held c pc w) (at pc w) ≡ true → Resumes pc dst c src w (at pc w) (Step.Fault Fault.InvalidCoroState)
  -- no room: 4
  pub send-overflow : let v = held c pc w in finds any_resumable v (at pc w) && too_high (at pc w) v ≡ true → Resumes pc dst c src w (at pc w) (Step.Fault Fault.StackOverflow)

pub record Throw (pc dst c src : ℕ) (w : World) (passes : Passes pc dst c src w) : Type 0 where
  -- thrown at the point where it is suspended: it is entered, nothing is sent, and the word is raised there
  pub throw-suspended : let v = held c pc w in enters any_suspended v (at pc w) ≡ true →
      Throws pc dst c src w (entered v (Driver.Resume dst) (at pc w)) (Step.Unwind (Fault.Throw (held src pc w)))
  -- at the start of its body: it fails, nothing of it runs, and the word is raised in the caller
  pub throw-created : let v = held c pc w in finds only_created v (charged pc w) ≡ true →
      Throws pc dst c src w (finished_with v CoroState.Failed (held src pc w) (charged pc w)) (Step.Fault (Fault.Throw (held src pc w)))
  -- into a running or finished one: 3
  pub throw-refused : finds forbidden (held c pc w) (at pc w) ≡ true → Throws pc dst c src w (at pc w) (Step.Fault Fault.InvalidCoroState)
  -- no room: 4
  pub throw-overflow : let v = held c pc w in finds any_suspended v (at pc w) && too_high (at pc w) v ≡ true → Throws pc dst c src w (at pc w) (Step.Fault Fault.StackOverflow)

pub record Close (pc dst c src : ℕ) (w : World) (passes : Passes pc dst c src w) : Type 0 where
  -- a Created one has finished, without running
  pub close-created : let v = held c pc w in finds only_created v (charged pc w) ≡ true → Closes pc dst c src w (put dst 0 (finished_with v CoroState.Returned 0 (charged pc w))) Step.Next
  -- a finished one: nothing is done, and nil answered
  pub close-finished : finds any_finished (held c pc w) (charged pc w) ≡ true → Closes pc dst c src w (put dst 0 (charged pc w)) Step.Next
  pub close-running : finds (CoroState.Running ∷ []) (held c pc w) (charged pc w) ≡ true → Closes pc dst c src w (charged pc w) (Step.Fault Fault.InvalidCoroState)
  -- a suspended one is entered, is marked closing with the signal, and the signal is raised where it is suspended
  pub close-suspended : let v = held c pc w in enters any_suspended v (at pc w) ≡ true →
      Closes pc dst c src w (entered_closing (held src pc w) v (Driver.Resume dst) (at pc w)) (Step.Unwind (Fault.Throw (held src pc w)))
  -- no room: 4, and it is not marked closing
  pub close-overflow : let v = held c pc w in finds any_suspended v (at pc w) && too_high (at pc w) v ≡ true → Closes pc dst c src w (at pc w) (Step.Fault Fault.StackOverflow)

-- ---- next, in a loop

module _ (pc has iter val src : ℕ) (w : World) where
  abbrev pub Loops : World → Step → Type 0
  Loops v s = (t : typed (Op.IterNext pc has iter val src) ≡ true) → does w (operation (Op.IterNext pc has iter val src) t) ≡ leaves pc w v s

pub record Next (pc has iter val src : ℕ) (w : World) (passes : pays pc (lie (has ∷ iter ∷ val ∷ src ∷ []) w) w ≡ true)
    (goes : is_done (found (charged pc w) (held iter pc w)) ≡ false) : Type 0 where
  -- nil is sent
  pub next-suspended : let v = held src pc w in enters (CoroState.Yielded ∷ []) v (at pc w) ≡ true →
      Loops pc has iter val src w (sent (core_of (found (at pc w) v)).waiting 0 (entered v (Driver.Iter has val (held iter pc w)) (at pc w))) Step.Frame
  pub next-created : let v = held src pc w in enters only_created v (at pc w) ≡ true → Loops pc has iter val src w (entered v (Driver.Iter has val (held iter pc w)) (at pc w)) Step.Frame
  -- one that has returned ends the loop; one that has failed: 3
  pub next-returned : finds (CoroState.Returned ∷ []) (held src pc w) (charged pc w) ≡ true → Loops pc has iter val src w (put has 0 (iterator_done (held iter pc w) (charged pc w))) Step.Next
  pub next-failed : finds (CoroState.Failed ∷ []) (held src pc w) (at pc w) ≡ true → Loops pc has iter val src w (at pc w) (Step.Fault Fault.InvalidCoroState)
  -- no room: 4
  pub next-overflow : let v = held src pc w in finds (CoroState.Created ∷ CoroState.Yielded ∷ []) v (at pc w) && too_high (at pc w) v ≡ true → Loops pc has iter val src w (at pc w) (Step.Fault Fault.StackOverflow)
