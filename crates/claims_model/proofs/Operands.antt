-- An operation that can be written is one of the model's.
use mathlib.Core.Path.{◌≡◌, refl}
use Rattle.model.specs.Call.{typed}
use Rattle.std.specs.Prelude.{Some, None}
use Rattle.model.specs.declared.call.Op.{Op}
use Rattle.claims_model.specs.Operands.{operands_fit}

pub as-typed : (o : Op) → typed o ≡ operands_fit o
unfolding typed
as-typed (Op.CoroNew pc dst f argc) = refl
as-typed (Op.CoroNewIndirect pc dst callee argc) = refl
as-typed (Op.Spawn pc dst callee argc) = refl
as-typed (Op.Yield pc dst src) = refl
as-typed (Op.YieldKv pc dst src key) = refl
as-typed (Op.Await pc dst src) = refl
as-typed (Op.Resume pc dst c src) = refl
as-typed (Op.ResumeThrow pc dst c src) = refl
as-typed (Op.CoroClose pc dst c src) = refl
as-typed (Op.CoroStatus pc dst c) = refl
as-typed (Op.CoroCurrent pc dst) = refl
as-typed (Op.CoroKey pc dst c) = refl
as-typed (Op.CoroResult pc dst c) = refl
as-typed (Op.IterNext pc has iter val src) = refl
as-typed (Op.Finish kind x) = refl
as-typed (Op.Unwind f None) = refl
as-typed (Op.Unwind f (Some pc)) = refl
as-typed (Op.SpawnTask x) = refl
as-typed (Op.HostCall f) = refl
as-typed (Op.HostEntry c x) = refl
as-typed (Op.FunctionCall pc f cont) = refl
as-typed (Op.PutWord r x) = refl
as-typed (Op.MakeIterator x) = refl
as-typed Op.TakeOutcome = refl
as-typed (Op.HandOver x) = refl
as-typed (Op.Grant n) = refl
as-typed Op.StopRun = refl
as-typed Op.Look = refl
