-- A switch once its pc is stored: what its parts ask, and what they leave together. Assumes nothing.
use mathlib.Core.Path.{◌≡◌, refl, sym, ap, ap₂, ◌∙◌, subst}
use mathlib.Core.Bool.{true, false}
use mathlib.Core.List.{List}
use Prim.Native.Nat.{ℕ, ◌+◌, ◌-◌, ◌≤◌}
use lib.ListN.{length}
use Rattle.lists.specs.Pick.{pick, pick_true}
use Rattle.heap.specs.declared.object.CoroState.{CoroState}
use Rattle.heap.specs.declared.object.CoroObj.{CoroObj}
use Rattle.model.specs.State.{is_created}
use Rattle.model.specs.World.{World}
use Rattle.model.specs.Frames.{on_top, set_pc, store_pc, reg}
use Rattle.model.specs.Coro.{coro_enter}
use Rattle.model.specs.Exec.{yield, arrive}
use Rattle.model.specs.Sound.{sound}
use Rattle.std.specs.Prelude.{Result, Some}
use Rattle.model.specs.declared.coro.Entered.{Entered}
use Rattle.model.specs.declared.coro.Event.{Event}
use Rattle.model.specs.declared.exec.Step.{Step}
use Rattle.model.specs.declared.machine.Driver.{Driver}
use Rattle.memory_tables.specs.Layout.{base_in}
use Rattle.memory_tables.specs.Does.{FramesDo, Gets}
use Rattle.memory_world.specs.Memory.{Lent, Beside, Rep, on_stack, on_frames}
use Rattle.memory_world.specs.Lendings.{lent}
use Rattle.memory_world.specs.Contract.{Does, Gives, Ok, if_sound, only}
use Rattle.memory_world.specs.declared.machine.Machine.{Machine}
use Rattle.machine_state.specs.Send.{SendFits}
use Rattle.machine_state.proofs.Stored.{store-sounds, stored_ok}
use Rattle.coro_enter.specs.Enter.{grown, entered_as}
use Rattle.coro_enter.proofs.Entries.{then-does, arrive-fresh, arrive-sent, arrive-fits}
use Rattle.coro_enter.proofs.Parts.{waits-as}
use Rattle.exec_yield.proofs.Settled.{drives}
use Rattle.linked_calls.specs.Words.{machine_in, sizes_in}
use Rattle.linked_switch.specs.Words.{record_at}
use Rattle.linked_switch.specs.Enter.{EnterAtFits, EnterFits, Sends, enters_by, resumes_by}
use Rattle.linked_switch.specs.Leave.{innermost_in, LeaveAtFits, LeaveFits, suspends_by, told_to, shrunk_to, left_in}
use Rattle.linked_switch.proofs.Entering.{stored-rep, sends-rep, send-fits}
use Rattle.linked_switch.proofs.Leaving.{same_base, yields}

-- ---- an entry

module _ {stack frames chain slots saved_stack saved_frames ms : List ℕ} {pc src v i : ℕ} (h : EnterFits stack frames chain slots saved_stack saved_frames ms pc src v i)
    (frames' : List ℕ) (put : FramesDo (on_top (set_pc pc)) frames frames' (machine_in ms).depth (machine_in ms).depth) where
  abbrev was : Beside → Lent
  was = lent stack frames chain slots saved_stack saved_frames

  abbrev now : Beside → Lent
  now = lent stack frames' chain slots saved_stack saved_frames

  abbrev k : CoroObj
  k = record_at slots i

  stored : (w : World) (b : Beside) → Rep (sizes_in ms) w (was b) (machine_in ms) b.fuel → Rep (sizes_in ms) (store_pc pc w) (now b) (machine_in ms) b.fuel
  stored w b rep = stored-rep (sizes_in ms) w (was b) (machine_in ms) b.fuel rep frames' pc put

  pub enter-asks : length frames' ≡ length frames → EnterAtFits stack frames' chain slots saved_stack saved_frames ms v i
  enter-asks same =
      let o = h.entry.ok in
      let ok = stored_ok (sizes_in ms) (only (machine_in ms)) stack frames chain slots saved_stack saved_frames frames' pc same h.entry.narrow o (stored o.world o.beside o.rep) in
      record { words = h.words; ok = ok; may = h.may }

  module _ (dst : ℕ) (M : Beside → Lent) (entry : Gives if_sound (sizes_in ms) (enters_by v dst) now (only (machine_in ms)) M (only (grown (machine_in ms) k)) (entered_as k)) where
    entered : (w : World) (b : Beside) → Rep (sizes_in ms) w (was b) (machine_in ms) b.fuel → sound w ≡ true
        → Does (sizes_in ms) (enters_by v dst (store_pc pc w)) (M b) (grown (machine_in ms) k) b.fuel (entered_as k)
    entered w b rep snd = entry (store_pc pc w) b (stored w b rep) (store-sounds pc w h.entry.narrow snd)

    -- a coroutine that has begun waits in a register
    pub enter-sends : (regs deep waits : ℕ) → regs ≡ k.regs → deep ≡ k.frames → waits ≡ k.waiting → is_created k.state ≡ false
        → let b = h.entry.ok.beside in SendFits (M b).stack (M b).frames ((machine_in ms).height + regs) ((machine_in ms).depth + deep) waits
    enter-sends regs deep waits er ed ew begun =
        let o = h.entry.ok in
        send-fits _ _ _ _ _ _ _ k.waiting (ap (λ n. (machine_in ms).height + n) (sym er)) (ap (λ n. (machine_in ms).depth + n) (sym ed)) (sym ew)
        ((arrive-fits (sizes_in ms) (M o.beside) (grown (machine_in ms) k) o.beside.fuel v (Driver.Resume dst) (store_pc pc o.world) (entered_as k)
        (store-sounds pc o.world h.entry.narrow o.sound) (entered o.world o.beside o.rep o.sound)).waits k.waiting (sym (waits-as k begun)))

    pub enter-fresh : is_created k.state ≡ true → Gives if_sound (sizes_in ms) (resumes_by pc dst src v) was (only (machine_in ms)) M (only (grown (machine_in ms) k)) Step.Frame
    enter-fresh new w b rep snd =
        let d = entered w b rep snd in let e = enters_by v dst (store_pc pc w) in
        let fresh : entered_as k ≡ (Result.Ok Entered.Fresh) = ap (λ t. pick t (Result.Ok Entered.Fresh) (Result.Ok (Entered.Suspended k.waiting))) new ∙ pick_true _ _ in
        then-does (sizes_in ms) (M b) (grown (machine_in ms) k) b.fuel e (arrive (reg w src)) (entered_as k) Step.Frame d.answer
        (arrive-fresh (sizes_in ms) (M b) (grown (machine_in ms) k) b.fuel e.world (entered_as k) (reg w src) fresh d.world)

    pub enter-sent : (sent regs deep waits : ℕ) → Gets stack frames (machine_in ms).height (machine_in ms).depth src sent → regs ≡ k.regs → deep ≡ k.frames → waits ≡ k.waiting → is_created k.state ≡ false
        → (w : World) (b : Beside) (stack'' frames'' : List ℕ) → Sends (M b).stack (M b).frames stack'' frames'' ((machine_in ms).height + regs) ((machine_in ms).depth + deep) waits sent
        → Rep (sizes_in ms) w (was b) (machine_in ms) b.fuel → sound w ≡ true
        → Does (sizes_in ms) (resumes_by pc dst src v w) (on_frames frames'' (on_stack stack'' (M b))) (grown (machine_in ms) k) b.fuel Step.Frame
    enter-sent sent regs deep waits got er ed ew begun w b stack'' frames'' did rep snd =
        let d = entered w b rep snd in let e = enters_by v dst (store_pc pc w) in let n = grown (machine_in ms) k in
        then-does (sizes_in ms) _ n b.fuel e (arrive (reg w src)) (entered_as k) Step.Frame d.answer
        (arrive-sent (sizes_in ms) _ n b.fuel e.world (entered_as k) (reg w src) k.waiting (sym (waits-as k begun))
        (sends-rep (sizes_in ms) e.world (M b) n b.fuel d.world stack'' frames'' _ _ _ _ k.waiting (reg w src)
        (ap (λ n. (machine_in ms).height + n) er) (ap (λ n. (machine_in ms).depth + n) ed) ew (got w.stack w.frames rep.stack rep.frames).is did))

-- ---- a suspension

module _ {stack frames chain slots saved_stack saved_frames ms : List ℕ} {pc src i to key largest : ℕ} (h : LeaveFits stack frames chain slots saved_stack saved_frames ms pc src i to key largest)
    (frames' : List ℕ) (put : FramesDo (on_top (set_pc pc)) frames frames' (machine_in ms).depth (machine_in ms).depth) where
  abbrev before : Beside → Lent
  before = lent stack frames chain slots saved_stack saved_frames

  abbrev after : Beside → Lent
  after = lent stack frames' chain slots saved_stack saved_frames

  abbrev a : ℕ
  a = (innermost_in chain (machine_in ms)).floor

  rep-stored : (w : World) (b : Beside) → Rep (sizes_in ms) w (before b) (machine_in ms) b.fuel → Rep (sizes_in ms) (store_pc pc w) (after b) (machine_in ms) b.fuel
  rep-stored w b rep = stored-rep (sizes_in ms) w (before b) (machine_in ms) b.fuel rep frames' pc put

  -- the body begins where it did
  pub base_kept : base_in frames' a ≡ base_in frames a
  base_kept =
      let o = h.run.ok in
      same_base (sizes_in ms) o.world (before o.beside) (after o.beside) (machine_in ms) o.beside.fuel pc a o.rep (rep-stored o.world o.beside o.rep) h.may.floor

  pub leave-asks : length frames' ≡ length frames → (floor base : ℕ) → floor ≡ a → base ≡ base_in frames' a → LeaveAtFits stack frames' chain slots saved_stack saved_frames ms i floor base
  leave-asks same floor base ef eb =
      let o = h.run.ok in let may = h.may in
      record {
        words = h.words;
        ok = stored_ok (sizes_in ms) (only (machine_in ms)) stack frames chain slots saved_stack saved_frames frames' pc same h.run.narrow o (rep-stored o.world o.beside o.rep);
        may =
            record {
              running = may.running;
              floor = may.floor;
              found = may.found;
              unclosed = may.unclosed;
              wide = subst (λ z. (machine_in ms).height - z ≤ (record_at slots i).maxregs) (sym base_kept) may.wide;
              deep = may.deep;
            };
        at-floor = ef;
        at_base = eb;
      }

  module _ (dst payload floor base : ℕ) (M : Beside → Lent)
      (left : Gives if_sound (sizes_in ms) (suspends_by dst payload key largest) after (only (machine_in ms)) M (only (shrunk_to ms base floor))
      (told_to (innermost_in chain (machine_in ms)).driver payload key)) where
    -- a Resume waits for it
    told : told_to (innermost_in chain (machine_in ms)).driver payload key ≡ told_to (Driver.Resume to) payload key
    told = ap (λ (d : Driver). told_to d payload key) h.driven

    suspended : (w : World) (b : Beside) → Rep (sizes_in ms) w (before b) (machine_in ms) b.fuel → sound w ≡ true
        → Does (sizes_in ms) (suspends_by dst payload key largest (store_pc pc w)) (M b) (shrunk_to ms base floor) b.fuel (told_to (innermost_in chain (machine_in ms)).driver payload key)
    suspended w b rep snd = left (store_pc pc w) b (rep-stored w b rep) (store-sounds pc w h.run.narrow snd)

    pub leave-sends : let b = h.run.ok.beside in SendFits (M b).stack (M b).frames base floor to
    leave-sends =
        let o = h.run.ok in
        ((drives (sizes_in ms) (M o.beside) (shrunk_to ms base floor) o.beside.fuel CoroState.Yielded dst payload (Some (key, largest)) (store_pc pc o.world)
        (store-sounds pc o.world h.run.narrow o.sound) _ (suspended o.world o.beside o.rep o.sound)).drives (Driver.Resume to) (Event.Yielded payload key) told).resumes to refl

    pub leave-done : Gets stack frames (machine_in ms).height (machine_in ms).depth src payload → floor ≡ a → base ≡ base_in frames' a
        → (w : World) (b : Beside) (stack'' frames'' : List ℕ) → Sends (M b).stack (M b).frames stack'' frames'' base floor to payload
        → Rep (sizes_in ms) w (before b) (machine_in ms) b.fuel → sound w ≡ true
        → Does (sizes_in ms) (yield pc dst src w) (on_frames frames'' (on_stack stack'' (M b))) (left_in frames chain ms) b.fuel Step.Frame
    leave-done got ef eb w b stack'' frames'' did rep snd =
        let d = suspended w b rep snd in let M'' = on_frames frames'' (on_stack stack'' (M b)) in
        subst (λ (z : Machine). Does (sizes_in ms) (yield pc dst src w) M'' z b.fuel Step.Frame) (ap₂ (λ x y. shrunk_to ms x y) (eb ∙ base_kept) ef)
        (yields (sizes_in ms) (before b) M'' (machine_in ms) (shrunk_to ms base floor) b.fuel w rep i h.may pc dst src payload key largest to h.keyed
        (got w.stack w.frames rep.stack rep.frames).is (sym told ∙ d.answer)
        (sends-rep (sizes_in ms) (suspends_by dst payload key largest (store_pc pc w)).world (M b) (shrunk_to ms base floor) b.fuel d.world stack'' frames'' base floor to payload to payload
        refl refl refl refl did))
