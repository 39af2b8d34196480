-- What a creation makes. A coroutine that was not there before a CoroNew, CoroNewIndirect or Spawn, and is there after it, has the arguments in
-- its first registers, zeros in the others, and one frame, in which its function begins. Its word named no coroutine before.
use Rattle.std.specs.Prelude.{ℕ, ◌+◌, ◌-◌, ◌≡◌, false, List, [], ◌∷◌, ◌++◌, length, take, drop, replicate, leb}
use Rattle.std.proofs.Math.Option.{none, some}
use Rattle.lists.specs.Pick.{pick}
use Rattle.heap.specs.declared.object.CoroState.{CoroState}
use Rattle.model.specs.declared.machine.Cont.{Cont}
use Rattle.model.specs.declared.call.Op.{Op}
use Rattle.claims_model.specs.Engine.{Seen, Rules, View, Engine}
use Rattle.claims_model.specs.Says.{first_register, register_word}
use Rattle.claims_model.specs.Held.{at, into}

-- the words after the register dst of the top frame
abbrev pub arguments : View → ℕ → ℕ → List ℕ
arguments v dst argc = take argc (drop (first_register v.frames + dst + 1) v.stack)

-- 01: "More arguments than registers: all registers 0."
abbrev pub filled : ℕ → List ℕ → List ℕ
filled n xs = pick (leb (length xs) n) (xs ++ replicate (n - length xs) 0) (replicate n 0)

-- a coroutine of the function f
abbrev pub made : Rules → ℕ → ℕ → List ℕ → Seen
made r f closure xs =
    record {
      state = CoroState.Created;
      words = filled (r.registers f) xs;
      frames = record { func = f; pc = 0; base = 0; closure = closure; cont = Cont.Coro } ∷ [];
      waits = 0;
      most_words = r.registers f;
      most_frames = 1;
      closing = false;
      signal = 0;
      result = 0;
    }

-- it is there under the word that was next, which named nobody
pub record Came (v : View) (x : Seen) (z : View) : Type 0 where
  pub unused : v.coro v.fresh ≡ none
  pub there : z.coro v.fresh ≡ some x

-- and that word is in the register dst
pub record Named (v : View) (dst : ℕ) (x : Seen) (z : View) : Type 0 where
  pub came : Came v x z
  pub names : z.stack ≡ into v.frames dst v.fresh v.stack

-- or in the first register of the hook, which is called; which function that is, is not seen
pub record Hooked (v : View) (pc dst : ℕ) (x : Seen) (z : View) : Type 0 where
  pub came : Came v x z
  pub hook : ℕ
  pub frames : z.frames ≡ record { func = hook; pc = 0; base = length v.stack; closure = 0; cont = Cont.Value dst } ∷ at pc v.frames
  pub stack : z.stack ≡ v.stack ++ (v.fresh ∷ replicate (v.rules.registers hook - 1) 0)

pub record Creates (e : Engine) : Type 0 where
  pub new : (c : ℕ) (s : e.State) (k : e.Call) (pc dst f argc : ℕ) (x : Seen) → e.op k ≡ some (Op.CoroNew pc dst f argc) → (e.view s).coro c ≡ none → (e.view (e.next s k)).coro c ≡ some x
      → x ≡ made (e.view s).rules f 0 (arguments (e.view s) dst argc)
  -- the register r holds its closure; which function f that is of is not seen
  pub indirect : (c : ℕ) (s : e.State) (k : e.Call) (pc dst r argc : ℕ) (x : Seen) → e.op k ≡ some (Op.CoroNewIndirect pc dst r argc) → (e.view s).coro c ≡ none → (e.view (e.next s k)).coro c ≡ some x
      → (f : ℕ) × (x ≡ made (e.view s).rules f (register_word (e.view s) r) (arguments (e.view s) dst argc))
  pub spawned : (c : ℕ) (s : e.State) (k : e.Call) (pc dst r argc : ℕ) (x : Seen) → e.op k ≡ some (Op.Spawn pc dst r argc) → (e.view s).coro c ≡ none → (e.view (e.next s k)).coro c ≡ some x
      → (f : ℕ) × (x ≡ made (e.view s).rules f (register_word (e.view s) r) (arguments (e.view s) dst argc))
  -- where they are accepted, they have made one
  pub named : (s : e.State) (k : e.Call) (pc dst f argc : ℕ) → e.op k ≡ some (Op.CoroNew pc dst f argc) → e.number s k ≡ 0
      → Named (e.view s) dst (made (e.view s).rules f 0 (arguments (e.view s) dst argc)) (e.view (e.next s k))
  pub named-indirect : (s : e.State) (k : e.Call) (pc dst r argc : ℕ) → e.op k ≡ some (Op.CoroNewIndirect pc dst r argc) → e.number s k ≡ 0
      → (f : ℕ) × Named (e.view s) dst (made (e.view s).rules f (register_word (e.view s) r) (arguments (e.view s) dst argc)) (e.view (e.next s k))
  pub hooked : (s : e.State) (k : e.Call) (pc dst r argc : ℕ) → e.op k ≡ some (Op.Spawn pc dst r argc) → e.number s k ≡ 0
      → (f : ℕ) × Hooked (e.view s) pc dst (made (e.view s).rules f (register_word (e.view s) r) (arguments (e.view s) dst argc)) (e.view (e.next s k))
