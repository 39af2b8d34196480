-- The asking calls: exactly when they are answered 0, and what they write then: the stack as it was, with the word asked for in the register
-- dst. A coroutine's key is not seen, so what CoroKey writes is not said.
use Rattle.std.specs.Prelude.{ℕ, ◌≡◌, Bool, true, false, List, [], ◌∷◌, length, eqb}
use Rattle.std.proofs.Math.Option.{Option, none, some}
use Rattle.model.specs.declared.call.Op.{Op}
use Rattle.claims_model.specs.Engine.{Seen, View, Engine, code, seen_returned, state_is}
use Rattle.claims_model.specs.Says.{register_word, lie, Entry, charged}
use Rattle.claims_model.specs.Held.{into}
use Rattle.claims_model.specs.Delivery.{recorded}
use Rattle.claims_model.specs.Events.{Healthy, inmost}

-- ---- an instruction that is paid for

-- by the fuel or the bank, and no cleanup comes first: of `charged`'s four cases (Says.antt) those that leave it to the call whom it enters
abbrev pub PaidFor : View → Type 0
PaidFor v = (pc : ℕ) (y : Entry) → charged v pc (some y) ≡ some y

-- one of the top frame
pub record Pays (e : Engine) (s : e.State) : Type 0 where
  pub healthy : Healthy e s
  pub stands : eqb (length (e.view s).frames) 0 ≡ false
  pub paid : PaidFor (e.view s)

-- ---- the calls

-- it is paid for, its registers rs lie in the frame, and it passes a test of its own
pub record Admits (e : Engine) (s : e.State) (rs : List ℕ) (ok : Bool) : Type 0 where
  pub pays : Pays e s
  pub lies : lie (e.view s) rs ≡ true
  pub passes : ok ≡ true

-- then it is answered 0, and only then
abbrev pub Exact : (e : Engine) → e.State → e.Call → List ℕ → Bool → Type 0
Exact e s k rs ok = (e.number s k ≡ 0 → Admits e s rs ok) × (Admits e s rs ok → e.number s k ≡ 0)

abbrev pub code_in : Option Seen → ℕ
code_in none = 0
code_in (some x) = code x.state

-- nil, which is 0, where there is none
abbrev pub or_nil : Option ℕ → ℕ
or_nil none = 0
or_nil (some c) = c

pub record Asks (e : Engine) : Type 0 where
  -- the register r names a coroutine; for CoroResult, one that has returned
  pub status-if : (s : e.State) (k : e.Call) (pc dst r : ℕ) → e.op k ≡ some (Op.CoroStatus pc dst r) → Exact e s k (dst ∷ r ∷ []) (state_is (e.view s) (λ x. true) (register_word (e.view s) r))
  pub current-if : (s : e.State) (k : e.Call) (pc dst : ℕ) → e.op k ≡ some (Op.CoroCurrent pc dst) → Exact e s k (dst ∷ []) true
  pub key-if : (s : e.State) (k : e.Call) (pc dst r : ℕ) → e.op k ≡ some (Op.CoroKey pc dst r) → Exact e s k (dst ∷ r ∷ []) (state_is (e.view s) (λ x. true) (register_word (e.view s) r))
  pub result-if : (s : e.State) (k : e.Call) (pc dst r : ℕ) → e.op k ≡ some (Op.CoroResult pc dst r) → Exact e s k (dst ∷ r ∷ []) (state_is (e.view s) seen_returned (register_word (e.view s) r))
  -- what they write
  pub status : (s : e.State) (k : e.Call) (pc dst r : ℕ) → e.op k ≡ some (Op.CoroStatus pc dst r) → e.number s k ≡ 0
      → let v = e.view s in (e.view (e.next s k)).stack ≡ into v.frames dst (code_in (v.coro (register_word v r))) v.stack
  pub current : (s : e.State) (k : e.Call) (pc dst : ℕ) → e.op k ≡ some (Op.CoroCurrent pc dst) → e.number s k ≡ 0
      → let v = e.view s in (e.view (e.next s k)).stack ≡ into v.frames dst (or_nil (inmost v.chain)) v.stack
  pub result : (s : e.State) (k : e.Call) (pc dst r : ℕ) → e.op k ≡ some (Op.CoroResult pc dst r) → e.number s k ≡ 0
      → let v = e.view s in (e.view (e.next s k)).stack ≡ into v.frames dst (recorded (v.coro (register_word v r))) v.stack
