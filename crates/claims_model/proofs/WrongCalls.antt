-- The engines that make another coroutine, or answer wrongly what is asked: one call tells each, by the field that WrongCalls.antt names.
use Prim.Native.Nat.{ℕ, ◌-◌}
use native.Mathlib.Omega.{arith}
use mathlib.Core.Path.{◌≡◌, refl, ap, ◌∙◌}
use mathlib.Core.Bool.{Bool, false}
use mathlib.Core.List.{List, [], ◌∷◌, ◌++◌}
use mathlib.Core.Option.{Option, none, some}
use lib.ListN.{length, replicate, get_or}
use Rattle.lists.specs.Pick.{pick}
use Rattle.model.specs.World.{World, fresh}
use Rattle.model.specs.Frames.{top_func, top_pc}
use Rattle.model.specs.Step as M
use Rattle.model.specs.Step.{step}
use Rattle.model.specs.Answer.{number_of}
use Rattle.model.specs.Call.{SetUp, Do, as_call}
use Rattle.model.specs.Compute.{computed}
use Rattle.model.specs.declared.machine.Cont.{Cont}
use Rattle.model.specs.declared.machine.Frame.{Frame}
use Rattle.model.specs.declared.machine.Driver.{Driver}
use Rattle.model.specs.declared.call.Op.{Op}
use Rattle.claims_model.specs.Engine.{Seen, seen_created, seen_in, state_is}
use Rattle.claims_model.specs.Says.{register_word, nothing, Entry, entry}
use Rattle.claims_model.specs.Held.{at}
use Rattle.claims_model.specs.Events.{Healthy}
use Rattle.claims_model.specs.Made.{arguments, made, Came, Creates}
use Rattle.claims_model.specs.Asks.{Admits, Asks}
use Rattle.claims_model.specs.Steps.{view_of, look-typed, steps}
use Rattle.claims_model.specs.Story as Story
use Rattle.claims_model.specs.Story.{wide, c}
use Rattle.claims_model.specs.Refuted.{RefutedOn, Refuted, RefutedAt, called, named, came, hooked, admits, pays}
use Rattle.claims_model.specs.Altered as Altered
use Rattle.claims_model.specs.Altered.{is_a, leaving_at, answering_at, answering_for, refusing}
use Rattle.claims_model.specs.WrongRestored.{first_word5}
use Rattle.claims_model.specs.WrongCalls as W
use Rattle.claims_model.specs.WrongCalls.{stores_pc9, creating, fives, without_closures, of_one, creates, unnamed, unmade, creates_again, writing9}
use Rattle.claims_model.proofs.Cores.{no_both}
use Rattle.claims_model.proofs.Exact.{some-op}
use Rattle.claims_model.proofs.Asks.{asks}
use Rattle.claims_model.proofs.WrongTouches.{status-writes-two}
use Rattle.claims_model.proofs.Places as Places
use Rattle.claims_model.proofs.Places.{waiting, begun, returned, closure, unpaid, unsound}

-- ---- small things

no_one : {y : Entry} → ◌≡◌ {A = Option Entry} none (some y) → ⊥
no_one e = let z : ◌≡◌ {A = ℕ} 0 1 = cc in absurd (omega arith)

abbrev top_closure : List Frame → ℕ
top_closure [] = 0
top_closure (f ∷ fs) = f.closure

-- a look at a sound machine answers 0, though calls of another kind are refused
pub refusing-healthy : (n m : ℕ) (w : World) → is_a n (some Op.Look) ≡ false → number_of (M.tested w Op.Look).answer ≡ 0 → Healthy (refusing n m) w
unfolding pick step
refusing-healthy n m w e h (SetUp s) k = let z : ◌≡◌ {A = ℕ} 0 1 = cc in absurd (omega arith)
refusing-healthy n m w e h (Do o) k = ap (λ p. pick (is_a n (some p)) m (number_of (M.tested w p).answer)) (some-op k) ∙ ap (λ b. pick b m (number_of (M.tested w Op.Look).answer)) e ∙ h

-- ---- creations

pub creates-new : Refuted Creates (λ e v. v.new) (creates fives)
unfolding computed Places.called
creates-new h =
    let q : ◌≡◌ {A = ℕ} 5 0 = ap (λ (x : Seen). get_or x.words 0 0) (h c Places.called (as_call (Op.CoroNew 1 0 0 0) refl) 1 0 0 0 _ refl refl refl) in
    absurd (omega (arith, q))

creates-indirect : Refuted Creates (λ e v. v.indirect) (creates without_closures)
unfolding computed closure
creates-indirect h =
    let q : ◌≡◌ {A = ℕ} 0 Story.f = ap (λ (x : Seen). top_closure x.frames) (h c closure (as_call (Op.CoroNewIndirect 1 0 3 0) refl) 1 0 3 0 _ refl refl refl).1 in
    absurd (omega (arith, q))

creates-spawned : Refuted Creates (λ e v. v.spawned) (creates without_closures)
unfolding computed closure
creates-spawned h =
    let q : ◌≡◌ {A = ℕ} 0 Story.f = ap (λ (x : Seen). top_closure x.frames) (h c closure (as_call (Op.Spawn 1 0 3 0) refl) 1 0 3 0 _ refl refl refl).1 in
    absurd (omega (arith, q))

creates-named : Refuted Creates (λ e v. v.named) (creating unnamed)
unfolding computed Places.called
creates-named h = let q : ◌≡◌ {A = ℕ} 0 c = ap (λ xs. get_or xs 0 0) (h Places.called (as_call (Op.CoroNew 1 0 0 0) refl) 1 0 0 0 refl refl).names in absurd (omega (arith, q))

creates-named-indirect : Refuted Creates (λ e v. v.named-indirect) (creating unnamed)
unfolding computed closure
creates-named-indirect h =
    let q : ◌≡◌ {A = ℕ} 0 c = ap (λ xs. get_or xs 0 0) (h closure (as_call (Op.CoroNewIndirect 1 0 3 0) refl) 1 0 3 0 refl refl).1.names in
    absurd (omega (arith, q))

creates-hooked : Refuted Creates (λ e v. v.hooked) (creating unmade)
unfolding computed closure
creates-hooked h = no_both {b = false} (ap (seen_in (λ x. seen_created x.state)) (h closure (as_call (Op.Spawn 1 0 3 0) refl) 1 0 3 0 refl refl).1.came.there) refl

came-unused : RefutedAt came (λ e a r. r.unused) creates_again
unfolding computed waiting
came-unused = (
  record { s = waiting; k = (as_call (Op.CoroNew 1 0 0 0) refl); pc = 1; dst = 0; f = 0; argc = 0; op = refl; accepted = refl },
  λ h.
      no_both {b = state_is (view_of waiting) seen_created c} refl (ap (seen_in (λ x. seen_created x.state)) h),
)

came-there : RefutedAt came (λ e a r. r.there) (creating unmade)
unfolding computed Places.called
came-there = (
  record { s = Places.called; k = (as_call (Op.CoroNew 1 0 0 0) refl); pc = 1; dst = 0; f = 0; argc = 0; op = refl; accepted = refl },
  λ h.
      no_both {b = false} (ap (seen_in (λ x. seen_created x.state)) h) refl,
)

named-came : RefutedAt named (λ e a r. r.came) (creating unmade)
unfolding computed Places.called
named-came = (
  record { s = Places.called; k = (as_call (Op.CoroNew 1 0 0 0) refl); pc = 1; dst = 0; f = 0; argc = 0; op = refl; accepted = refl },
  λ h.
      no_both {b = false} (ap (seen_in (λ x. seen_created x.state)) h.there) refl,
)

named-names : RefutedAt named (λ e a r. r.names) (creating unnamed)
unfolding computed Places.called
named-names = (
  record { s = Places.called; k = (as_call (Op.CoroNew 1 0 0 0) refl); pc = 1; dst = 0; f = 0; argc = 0; op = refl; accepted = refl },
  λ h.
      let q : ◌≡◌ {A = ℕ} 0 c = ap (λ xs. get_or xs 0 0) h in
      absurd (omega (arith, q)),
)

hooked-came : RefutedOn hooked (λ e a r. r.0) (λ e a g. let v = e.view a.s in Came v (made v.rules g (register_word v a.r) (arguments v a.dst a.argc)) (e.view (e.next a.s a.k))) (λ e a r. r.1.came)
    (creating unmade)
unfolding computed closure
hooked-came = (
  record { s = closure; k = (as_call (Op.Spawn 1 0 3 0) refl); pc = 1; dst = 0; r = 3; argc = 0; op = refl; accepted = refl },
  0,
  λ g h.
      no_both {b = false} (ap (seen_in (λ x. seen_created x.state)) h.there) refl,
)

hooked-frames : RefutedOn hooked (λ e a r. r.1.hook)
    (λ e a g. let v = e.view a.s in (e.view (e.next a.s a.k)).frames ≡ record { func = g; pc = 0; base = length v.stack; closure = 0; cont = Cont.Value a.dst } ∷ at a.pc v.frames) (λ e a r. r.1.frames)
    (leaving_at Altered.spawn stores_pc9)
unfolding computed closure
hooked-frames = (
  record { s = closure; k = (as_call (Op.Spawn 1 0 3 0) refl); pc = 1; dst = 0; r = 3; argc = 0; op = refl; accepted = refl },
  0,
  λ g h.
      let q : ◌≡◌ {A = ℕ} 9 0 = ap top_pc h in
      absurd (omega (arith, q)),
)

hooked-stack : RefutedOn hooked (λ e a r. r.1.hook) (λ e a g. let v = e.view a.s in (e.view (e.next a.s a.k)).stack ≡ v.stack ++ (v.fresh ∷ replicate (v.rules.registers g - 1) 0)) (λ e a r. r.1.stack)
    (leaving_at Altered.spawn first_word5)
unfolding computed closure
hooked-stack = (
  record { s = closure; k = (as_call (Op.Spawn 1 0 3 0) refl); pc = 1; dst = 0; r = 3; argc = 0; op = refl; accepted = refl },
  0,
  λ g h.
      let q : ◌≡◌ {A = ℕ} 5 c = ap (λ xs. get_or xs 4 0) h in
      absurd (omega (arith, q)),
)

-- ---- the asking calls

pub asks-status-if : Refuted Asks (λ e v. v.status-if) (answering_for 1 0)
unfolding computed begun
asks-status-if h = no_both ((h begun (as_call (Op.CoroStatus 9 1 2) refl) 9 1 2 refl).0 refl).passes refl

-- there is no fuel
asks-current-if : Refuted Asks (λ e v. v.current-if) (answering_at Altered.coro_current 0)
unfolding computed unpaid
asks-current-if h = no_one (((h unpaid (as_call (Op.CoroCurrent 9 1) refl) 9 1 refl).0 refl).pays.paid 0 (entry 0 Driver.Host nothing 0))

asks-key-if : Refuted Asks (λ e v. v.key-if) (answering_for 1 0)
unfolding computed begun
asks-key-if h = no_both ((h begun (as_call (Op.CoroKey 9 1 2) refl) 9 1 2 refl).0 refl).passes refl

asks-result-if : Refuted Asks (λ e v. v.result-if) (answering_for 3 0)
unfolding computed waiting
asks-result-if h = no_both ((h waiting (as_call (Op.CoroResult 9 1 0) refl) 9 1 0 refl).0 refl).passes refl

asks-status : Refuted Asks (λ e v. v.status) (writing9 Altered.coro_status)
unfolding computed waiting
asks-status h = let q : ◌≡◌ {A = ℕ} 9 0 = ap (λ xs. get_or xs 1 0) (h waiting (as_call (Op.CoroStatus 9 1 0) refl) 9 1 0 refl refl) in absurd (omega (arith, q))

asks-current : Refuted Asks (λ e v. v.current) (writing9 Altered.coro_current)
unfolding computed begun
asks-current h = let q : ◌≡◌ {A = ℕ} 9 c = ap (λ xs. get_or xs 5 0) (h begun (as_call (Op.CoroCurrent 9 1) refl) 9 1 refl refl) in absurd (omega (arith, q))

asks-result : Refuted Asks (λ e v. v.result) (writing9 Altered.coro_result)
unfolding computed returned
asks-result h = let q : ◌≡◌ {A = ℕ} 9 7 = ap (λ xs. get_or xs 1 0) (h returned (as_call (Op.CoroResult 9 1 0) refl) 9 1 0 refl refl) in absurd (omega (arith, q))

-- a call of a kind that is refused, where `step` answers it 0
refused-admits : (n : ℕ) (w : World) {rs : List ℕ} {ok : Bool} → is_a n (some Op.Look) ≡ false → Admits steps w rs ok → Admits (refusing n 9) w rs ok
unfolding step
refused-admits n w e a =
    record { pays = record { healthy = refusing-healthy n 9 w e (a.pays.healthy (as_call Op.Look look-typed) refl); stands = a.pays.stands; paid = a.pays.paid }; lies = a.lies; passes = a.passes }

status-refused : Refuted Asks (λ e v. v.status-if) (refusing Altered.coro_status 9)
unfolding computed waiting
status-refused h =
    let k = as_call (Op.CoroStatus 9 1 0) refl in
    let q : ◌≡◌ {A = ℕ} 9 0 = (h waiting k 9 1 0 refl).1 (refused-admits Altered.coro_status waiting refl ((asks.status-if waiting k 9 1 0 refl).0 refl)) in
    absurd (omega (arith, q))

current-refused : Refuted Asks (λ e v. v.current-if) (refusing Altered.coro_current 9)
unfolding computed waiting
current-refused h =
    let k = as_call (Op.CoroCurrent 9 1) refl in
    let q : ◌≡◌ {A = ℕ} 9 0 = (h waiting k 9 1 refl).1 (refused-admits Altered.coro_current waiting refl ((asks.current-if waiting k 9 1 refl).0 refl)) in
    absurd (omega (arith, q))

key-refused : Refuted Asks (λ e v. v.key-if) (refusing Altered.coro_key 9)
unfolding computed waiting
key-refused h =
    let k = as_call (Op.CoroKey 9 1 0) refl in
    let q : ◌≡◌ {A = ℕ} 9 0 = (h waiting k 9 1 0 refl).1 (refused-admits Altered.coro_key waiting refl ((asks.key-if waiting k 9 1 0 refl).0 refl)) in
    absurd (omega (arith, q))

result-refused : Refuted Asks (λ e v. v.result-if) (refusing Altered.coro_result 9)
unfolding computed returned
result-refused h =
    let k = as_call (Op.CoroResult 9 1 0) refl in
    let q : ◌≡◌ {A = ℕ} 9 0 = (h returned k 9 1 0 refl).1 (refused-admits Altered.coro_result returned refl ((asks.result-if returned k 9 1 0 refl).0 refl)) in
    absurd (omega (arith, q))

admits-pays : RefutedAt admits (λ e a r. r.pays) (answering_at Altered.coro_status 0)
unfolding computed unpaid
admits-pays = (
  record { s = unpaid; k = (as_call (Op.CoroStatus 9 1 0) refl); pc = 9; dst = 1; r = 0; op = refl; accepted = refl },
  λ h.
      no_one (h.paid 0 (entry 0 Driver.Host nothing 0)),
)

admits-lies : RefutedAt admits (λ e a r. r.lies) (answering_at Altered.coro_status 0)
unfolding computed waiting
admits-lies = (record { s = waiting; k = (as_call (Op.CoroStatus 9 9 0) refl); pc = 9; dst = 9; r = 0; op = refl; accepted = refl }, λ h. no_both h refl)

admits-passes : RefutedAt admits (λ e a r. r.passes) (answering_at Altered.coro_status 0)
unfolding computed begun
admits-passes = (record { s = begun; k = (as_call (Op.CoroStatus 9 1 2) refl); pc = 9; dst = 1; r = 2; op = refl; accepted = refl }, λ h. no_both h refl)

pays-healthy : RefutedAt pays (λ e a r. r.healthy) (answering_at Altered.coro_status 0)
unfolding computed
pays-healthy = (
  record { s = unsound; k = (as_call (Op.CoroStatus 9 1 0) refl); pc = 9; dst = 1; r = 0; op = refl; accepted = refl },
  λ h.
      let q : ◌≡◌ {A = ℕ} 11 0 = h (as_call Op.Look refl) refl in
      absurd (omega (arith, q)),
)

pays-stands : RefutedAt pays (λ e a r. r.stands) (answering_at Altered.coro_status 0)
unfolding computed
pays-stands = (record { s = (fresh wide); k = (as_call (Op.CoroStatus 9 1 0) refl); pc = 9; dst = 1; r = 0; op = refl; accepted = refl }, λ h. no_both refl h)

pays-paid : RefutedAt pays (λ e a r. r.paid) (answering_at Altered.coro_status 0)
unfolding computed unpaid
pays-paid = (
  record { s = unpaid; k = (as_call (Op.CoroStatus 9 1 0) refl); pc = 9; dst = 1; r = 0; op = refl; accepted = refl },
  λ h.
      no_one (h 0 (entry 0 Driver.Host nothing 0)),
)

-- ---- more of them

other-function : Creates (creates of_one) → ⊥
unfolding computed Places.called
other-function v =
    let q : ◌≡◌ {A = ℕ} 1 0 = ap (λ (x : Seen). top_func x.frames) (v.new c Places.called (as_call (Op.CoroNew 1 0 0 0) refl) 1 0 0 0 _ refl refl refl) in
    absurd (omega (arith, q))

-- NONE OF THEM
pub refuted-creates : W.RefutedCreates
refuted-creates = record { new = creates-new; indirect = creates-indirect; spawned = creates-spawned; named = creates-named; named-indirect = creates-named-indirect; hooked = creates-hooked }

pub refuted-came : W.RefutedCame
refuted-came = record { unused = came-unused; there = came-there }

pub refuted-named : W.RefutedNamed
refuted-named = record { came = named-came; names = named-names }

pub refuted-hooked : W.RefutedHooked
refuted-hooked = record { came = hooked-came; frames = hooked-frames; stack = hooked-stack }

pub refuted-asks : W.RefutedAsks
refuted-asks =
    record {
      status-if = asks-status-if;
      current-if = asks-current-if;
      key-if = asks-key-if;
      result-if = asks-result-if;
      status = asks-status;
      current = asks-current;
      result = asks-result;
    }

pub refused-asks : W.RefusedAsks
refused-asks = record { status-if = status-refused; current-if = current-refused; key-if = key-refused; result-if = result-refused }

pub refuted-admits : W.RefutedAdmits
refuted-admits = record { pays = admits-pays; lies = admits-lies; passes = admits-passes }

pub refuted-pays : W.RefutedPays
refuted-pays = record { healthy = pays-healthy; stands = pays-stands; paid = pays-paid }

pub wrong-calls : W.WrongCalls
wrong-calls = record { other-function = other-function; status-writes-two = status-writes-two }
