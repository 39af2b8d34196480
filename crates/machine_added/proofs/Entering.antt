-- Host entry is an entry by the host, and an arrival. Assumes nothing.
use mathlib.Core.Path.{◌≡◌, refl, sym, ap, subst}
use Prim.Native.Nat.{ℕ}
use Rattle.model.specs.World.{World, after}
use Rattle.model.specs.Coro.{coro_enter}
use Rattle.model.specs.Exec.{arrive}
use Rattle.model.specs.Added.{host_arrive, host_entry}
use Rattle.model.specs.declared.call.Answer.{Answer}
use Rattle.std.specs.Prelude.{Result, Ok, Err}
use Rattle.model.specs.declared.coro.Entered.{Entered}
use Rattle.heap.specs.declared.fault.Fault.{Fault}
use Rattle.model.specs.declared.exec.Step.{Step}
use Rattle.model.specs.declared.machine.Driver.{Driver}
use Rattle.model.specs.declared.machine.Fuel.{Fuel}
use Rattle.memory_world.specs.Memory.{Lent}
use Rattle.memory_world.specs.Contract.{Does}
use Rattle.memory_world.specs.declared.machine.Machine.{Machine}
use Rattle.memory_world.specs.declared.machine.Sizes.{Sizes}
use Rattle.coro_enter.proofs.Entries.{then-does}

-- an entry that is not refused is accepted
pub accepts : (v : ℕ) (w : World) (a : Result Entered Fault) (e : Entered) → a ≡ Ok e → Answer.Accepted ≡ (host_arrive v w a).answer
accepts v w a Entered.Fresh q = sym (ap (λ x. (host_arrive v w x).answer) q)
accepts v w a (Entered.Suspended d) q = sym (ap (λ x. (host_arrive v w x).answer) q)

-- what an arrival leaves, with the host's answer
arrives : (v : ℕ) (w : World) (a : Result Entered Fault) → after (arrive v w a).world (host_arrive v w a).answer ≡ host_arrive v w a
arrives v w (Ok Entered.Fresh) = refl
arrives v w (Ok (Entered.Suspended d)) = refl
arrives v w (Err f) = refl

pub host-entered : (l : Sizes) (M : Lent) (m : Machine) (f : Fuel) (w : World) (c v : ℕ) (a : Result Entered Fault) (s : Step) (x : Answer) → ((n : ℕ) (u : World) → x ≡ (host_arrive n u a).answer) → a ≡ (coro_enter c Driver.Host w).answer
    → Does l (arrive v (coro_enter c Driver.Host w).world a) M m f s → Does l (host_entry c v w) M m f x
unfolding host_entry
host-entered l M m f w c v a s x q e d =
    let o = coro_enter c Driver.Host w in
    then-does l M m f o (host_arrive v) a x e
    (subst (λ z. Does l z M m f x) (arrives v o.world a) (record { world = d.world; answer = q v o.world }))
