-- A machine whose numbers and fuel are in words too: when it is sound, and what a call leaves of it.
use Rattle.std.specs.Prelude.{◌≡◌, Bool, true, ◌&&◌, ◌||◌, List, [], ◌∷◌, ℕ, ◌*◌, ◌≤◌, length, get_or, eqb, leb, Result, Ok}
use Rattle.lists.specs.Pick.{pick}
use Rattle.lists.specs.Parts.{splice}
use Rattle.heap.specs.declared.fault.Fault.{Fault}
use Rattle.model.specs.Answer.{number_of}
use Rattle.model.specs.Frames.{top_base}
use Rattle.model.specs.declared.program.Costs.{Costs}
use Rattle.model.specs.declared.call.Op.{Op}
use Rattle.model.specs.declared.call.Answer.{Answer}
use Rattle.memory_world.specs.Memory.{Lent}
use Rattle.memory_world.specs.declared.machine.Sizes.{Sizes}
use Rattle.memory_world.specs.Words.{Lengths, lengths_of, sizes_of}
use Rattle.memory_world.specs.Decode.{setup_of}
use Rattle.memory_world.specs.Sizes.{SetupFits}
use Rattle.memory_calls.specs.Answer.{answer_words}
use Rattle.memory_calls.specs.declared.call.Gate.{Gate}
use Rattle.machine_added.specs.Look.{end_on}
use Rattle.machine_added.specs.declared.look.Span.{Span}
use Rattle.memory_step.specs.Step.{MemoryState, is_sound, decoded, set_up_ok, set_up_words}
use Rattle.outer_call.specs.State.{state}
use Rattle.outer_run.specs.Run.{do_words, run_words, count_of, calls_in, written, refusals}
use Rattle.linked_calls.specs.Words.{machine_in, machine_words, sizes_in, sizes_words, fuel_in, fuel_words}

pub record Host : Type 0 where
  pub words : Lent
  pub machine : List ℕ
  pub fuel : List ℕ

abbrev pub host : Lent → List ℕ → List ℕ → Host
host M ms fs = record { words = M; machine = ms; fuel = fs }

-- what the words tell
abbrev pub state_of : Host → MemoryState
state_of h = state h.words (machine_in h.machine) (fuel_in h.fuel)

-- ---- sound: words enough; a flag is 0 or 1, and an amount is set aside only where there is a bank

abbrev pub numbers_ok : List ℕ → List ℕ → Bool
numbers_ok ms fs =
    leb 25 (length ms) && leb 4 (length fs) && leb (get_or ms 6 0) 1 && leb (get_or fs 3 0) 1
    && (eqb (get_or fs 1 0) 1 || eqb (get_or fs 1 0) 0 && eqb (get_or fs 2 0) 0)

abbrev pub same_costs : Costs → Costs → Bool
same_costs c d =
    eqb c.frame d.frame && eqb c.coro d.coro && eqb c.object d.object && eqb c.int d.int && eqb c.error d.error
    && eqb c.iter d.iter

abbrev pub same_sizes : Sizes → Sizes → Bool
same_sizes a b =
    eqb a.depth b.depth && eqb a.stack b.stack && eqb a.rows b.rows && eqb a.slots b.slots && eqb a.memory b.memory
    && eqb a.width b.width && same_costs a.costs b.costs

-- the sizes beside the numbers are the set-up's
abbrev pub sizes_held : List ℕ → List ℕ → Bool
sizes_held ms us = same_sizes (sizes_in ms) (sizes_of (setup_of us))

unfoldable pub passes_test : Host → Bool
passes_test h = numbers_ok h.machine h.fuel && is_sound (state_of h) && sizes_held h.machine h.words.setup

abbrev pub one_or : Bool → ℕ
one_or b = pick b 1 0

-- ---- what a function leaves: the machine, the words of the answer, and what it returns

pub record Gave : Type 0 where
  pub host : Host
  pub answer : List ℕ
  pub number : ℕ

abbrev pub gave : Host → List ℕ → ℕ → Gave
gave h xs n = record { host = h; answer = xs; number = n }

abbrev pub tells : Host → Answer → List ℕ → Gave
tells h a xs = gave h (splice xs 0 (answer_words a)) (number_of a)

-- numbers and fuel are written over their words
abbrev pub overwritten : Host → MemoryState → Host
overwritten h s = host s.words (splice h.machine 0 (machine_words s.machine)) (splice h.fuel 0 (fuel_words s.fuel))

-- a call in words, on a sound machine
abbrev pub kept_in : Host → Result Op Gate → List ℕ → Gave
kept_in h r xs = let d = do_words (state_of h) r in tells (overwritten h d.state) d.answer xs

-- everything as found, and 11
abbrev pub do_in : Bool → Host → Result Op Gate → List ℕ → Gave
do_in ok h r xs = pick ok (kept_in h r xs) (tells h (Answer.Refused Fault.Unsound) xs)

-- without room for the answer only a number is returned: 11 first, then 14
abbrev pub short : Bool → ℕ
short ok = pick ok 14 11

unfoldable pub call_in : Host → Result Op Gate → List ℕ → Gave
call_in h r xs = pick (leb 8 (length xs)) (do_in (passes_test h) h r xs) (gave h xs (short (passes_test h)))

-- ---- a grant: the call, of which the fuel's words and the answer are written

pub record Granted (h : Host) (n : ℕ) (xs fs' xs' : List ℕ) (r : ℕ) : Type 0 where
  pub fuel : fs' ≡ (call_in h (Ok (Op.Grant n)) xs).host.fuel
  pub answer : xs' ≡ (call_in h (Ok (Op.Grant n)) xs).answer
  pub number : r ≡ (call_in h (Ok (Op.Grant n)) xs).number

-- ---- a look: where the top frame's registers begin and end on the stack, 0 and 0 without a frame

pub record Looked : Type 0 where
  pub span : List ℕ
  pub number : ℕ

abbrev pub saw : List ℕ → ℕ → Looked
saw zs n = record { span = zs; number = n }

unfoldable pub look_in : Host → List ℕ → Looked
look_in h zs =
    let w = decoded (state_of h) in
    pick (leb 2 (length zs))
    (pick (passes_test h) (saw (splice zs 0 (top_base w.frames ∷ end_on w.frames w.stack ∷ [])) 0) (saw (splice zs 0 (0 ∷ 0 ∷ [])) 11))
    (saw zs (short (passes_test h)))

-- ---- a set-up, which does not test what was there

-- the fresh machine, and the sizes of its set-up after its numbers
abbrev pub fresh_in : Host → List ℕ → Host
fresh_in h given =
    let s = (set_up_words (state_of h) given).state in
    host s.words (splice (splice h.machine 0 (machine_words s.machine)) 13 (sizes_words (sizes_of (setup_of given)))) (splice h.fuel 0 (fuel_words s.fuel))

abbrev pub begin_in : Host → List ℕ → List ℕ → Gave
begin_in h given xs = pick (set_up_ok given h.words) (tells (fresh_in h given) Answer.Accepted xs) (tells h (Answer.Refused Fault.Unsound) xs)

-- words enough for the numbers and the fuel
abbrev pub long : Host → Bool
long h = leb 25 (length h.machine) && leb 4 (length h.fuel)

unfoldable pub set_up_in : Host → List ℕ → List ℕ → Gave
set_up_in h given xs =
    pick (leb 8 (length xs))
    (pick (long h) (begin_in h given xs) (tells h (Answer.Refused Fault.Unsound) xs))
    (gave h xs (short (long h && set_up_ok given h.words)))

-- ---- a run: on a machine that is not sound each answer is 11

unfoldable pub run_host : Host → List ℕ → List ℕ → Gave
run_host h cs xs =
    let n = count_of (length cs) in
    let t = run_words (state_of h) (calls_in n cs) in
    pick (leb (n * 8) (length xs))
    (pick (passes_test h) (gave (overwritten h t.state) (written xs 0 t.answers) 0) (gave h (written xs 0 (refusals n)) 11))
    (gave h xs (short (passes_test h)))

-- ---- what the functions ask

pub record HoldFits (ms us : List ℕ) : Type 0 where
  pub numbers : 25 ≤ length ms
  pub setup : SetupFits us

pub record DoFits (ok : Bool) (h : Host) (xs : List ℕ) : Type 0 where
  pub known : ok ≡ passes_test h
  pub room : 8 ≤ length xs

pub record KeptFits (h : Host) (xs : List ℕ) : Type 0 where
  pub sound : passes_test h ≡ true
  pub room : 8 ≤ length xs

-- where the top frame's registers begin and end
pub record Spans (h : Host) (s : Span) : Type 0 where
  pub start : s.start ≡ top_base (decoded (state_of h)).frames
  pub end : s.end ≡ end_on (decoded (state_of h)).frames (decoded (state_of h)).stack

-- slices of such lengths
pub record LongAs (h : Host) (n : Lengths) (m f : ℕ) : Type 0 where
  pub words : lengths_of h.words ≡ n
  pub machine : length h.machine ≡ m
  pub fuel : length h.fuel ≡ f

pub record BeginFits (ms fs xs : List ℕ) : Type 0 where
  pub machine : 25 ≤ length ms
  pub fuel : 4 ≤ length fs
  pub answer : 8 ≤ length xs
