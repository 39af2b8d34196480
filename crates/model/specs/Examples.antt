-- 01: "P1 to P8 (depth limit 4, stack limit 10)", by computation.
use Rattle.std.specs.Prelude.{ℕ, ◌-◌, ◌^◌, ◌≡◌, refl, Bool, true, false, List, [], ◌∷◌, ◌++◌, pos, negsuc, Some, None}
use Rattle.heap.specs.Word.{int_word}
use Rattle.heap.specs.declared.fault.Fault.{Fault}
use Rattle.model.specs.Object.{Object}
use Rattle.model.specs.Heap.{object, coro}
use Rattle.model.specs.Sound.{marked}
use Rattle.model.specs.Answer.{taken_off}
use Rattle.model.specs.Step.{tested}
use Rattle.model.specs.Example.{c, d, holding, reached, number, look}
use Rattle.model.specs.Compute.{computed}
use Rattle.model.specs.declared.machine.Cont.{Cont}
use Rattle.heap.specs.declared.heap.ResultKind.{ResultKind}
use Rattle.model.specs.declared.call.Op.{Op}

-- ---- runs of the example

-- P1: it yields from its second frame, to a caller of one frame; then the caller calls, and holds it one frame deeper
abbrev pub two_frames : List Op
two_frames = holding 1 0 ++ (Op.Resume 2 1 0 1 ∷ Op.FunctionCall 7 0 Cont.Discard ∷ Op.Yield 8 0 0 ∷ [])

abbrev pub deeper : List Op
deeper = Op.FunctionCall 3 0 Cont.Discard ∷ Op.PutWord 0 c ∷ []

-- P3: it yields with key k, then without, and the caller asks for the second key
abbrev pub keyed : ℕ → List Op
keyed k =
    holding 3 1
    ++ (Op.Resume 2 1 0 1 ∷ Op.PutWord 1 k ∷ Op.YieldKv 7 0 0 1 ∷ Op.Resume 3 1 0 1 ∷ Op.Yield 8 0 0 ∷ Op.CoroKey 4 1 0 ∷ [])

-- P4, P6: an i64 n comes back as a dynamic word, in register r of the caller
abbrev pub integer : ℕ → ℕ → List Op
integer r n = Op.FunctionCall 6 0 (Cont.Dyn r) ∷ Op.Finish ResultKind.I64 n ∷ []

-- P7: it yielded where it catches, and is closed with the word 9
abbrev pub closing : List Op
closing =
    holding 3 5
    ++ (Op.Resume 2 1 0 1 ∷ Op.Yield 8 0 0 ∷ Op.PutWord 2 9 ∷ Op.CoroClose 3 1 0 2 ∷ Op.Unwind (Fault.Throw 9) None ∷ [])

abbrev pub is_closing : List Op → Bool
is_closing cs = marked (λ r. r.closing) (coro (reached cs) c)

-- P8: it yielded, is handed over while three units are left, and returns, entered by the host
abbrev pub handed_over : List Op
handed_over =
    Op.Grant 3 ∷ Op.HostCall 3 ∷ Op.CoroNew 1 0 1 0 ∷ Op.Resume 2 1 0 1 ∷ Op.Yield 8 0 0 ∷ Op.StopRun
    ∷ Op.Grant 3 ∷ Op.HandOver c ∷ Op.HostEntry c 0 ∷ Op.Finish ResultKind.None 0 ∷ Op.HostCall 3 ∷ []

-- ---- "one list under one theorem"

pub record P1-to-P8 : Type 0 where
  -- "Frames 2 + saved 2 enters; 3 + 2 is 4."
  pub depth-enters : number (two_frames ++ deeper) (Op.Resume 4 0 0 0) ≡ 0
  pub depth-passed : number (two_frames ++ (deeper ++ deeper)) (Op.Resume 4 0 0 0) ≡ 4
  -- "Stack 6 + saved 4 enters; 7 + 4 is 4."
  pub stack-enters : number (holding 3 2) (Op.Resume 2 1 0 1) ≡ 0
  pub stack-passed : number (holding 4 2) (Op.Resume 2 1 0 1) ≡ 4
  -- "First key 0; after keyed 5, 6; after keyed -9 alone, 0."
  pub first_key : look (holding 1 1 ++ (Op.Resume 2 1 0 1 ∷ Op.Yield 8 0 0 ∷ Op.CoroKey 4 1 0 ∷ [])) ≡ c ∷ int_word (pos 0) ∷ []
  pub after-five : look (keyed (int_word (pos 5))) ≡ c ∷ int_word (pos 6) ∷ 0 ∷ 0 ∷ 0 ∷ 0 ∷ []
  pub after-minus-nine : look (keyed (int_word (negsuc 8))) ≡ c ∷ int_word (pos 0) ∷ 0 ∷ 0 ∷ 0 ∷ 0 ∷ []
  -- "Largest 2^63 - 1: 7."
  pub no-next-key : number (holding 1 1 ++ (Op.Resume 2 1 0 1 ∷ (integer 1 (2 ^ 63 - 1) ++ (Op.YieldKv 7 0 0 1 ∷ Op.Resume 3 1 0 1 ∷ [])))) (Op.Yield 8 0 0) ≡ 7
  -- "-1 is FFFEFFFFFFFFFFFF (hex)."
  pub minus_one : look (holding 1 1 ++ integer 1 (2 ^ 64 - 1)) ≡ c ∷ 0xFFFEFFFFFFFFFFFF ∷ []
  -- "2^47 is an object."
  pub large : look (holding 1 1 ++ integer 1 (2 ^ 47)) ≡ c ∷ d ∷ []
  pub large-object : object (reached (holding 1 1 ++ integer 1 (2 ^ 47))) (d) ≡ Object.Int (2 ^ 47)
  -- "Closing: yield 6, await stays closing."
  pub yield-ignores : number closing (Op.Yield 60 0 0) ≡ 6
  pub yield-clears : is_closing (closing ++ (Op.Yield 60 0 0 ∷ [])) ≡ false
  pub await-stays : is_closing (closing ++ (Op.Await 60 0 0 ∷ [])) ≡ true
  -- "Fuel 0, bank 3, ready, queue of one Returned: done, fuel 2, no bank, one word taken off."
  pub banked : (reached handed_over).fuel ≡ record { fuel = 0; bank = Some 3; ready = true }
  pub queued : (reached handed_over).finalize ≡ c ∷ []
  pub done : number handed_over (Op.CoroCurrent 5 0) ≡ 0
  pub spent : (tested (reached handed_over) (Op.CoroCurrent 5 0)).world.fuel ≡ record { fuel = 2; bank = None; ready = false }
  pub taken : taken_off (tested (reached handed_over) (Op.CoroCurrent 5 0)).answer ≡ 1

pub p1-to-p8 : P1-to-P8
unfolding computed
p1-to-p8 =
    record {
      depth-enters = refl;
      depth-passed = refl;
      stack-enters = refl;
      stack-passed = refl;
      first_key = refl;
      after-five = refl;
      after-minus-nine = refl;
      no-next-key = refl;
      minus_one = refl;
      large = refl;
      large-object = refl;
      yield-ignores = refl;
      yield-clears = refl;
      await-stays = refl;
      banked = refl;
      queued = refl;
      done = refl;
      spent = refl;
      taken = refl;
    }
