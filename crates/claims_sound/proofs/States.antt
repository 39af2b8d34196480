-- Which states run, hold a row, or have saved something.
use mathlib.Core.Path.{◌≡◌, refl}
use mathlib.Core.Bool.{true, false}
use Rattle.heap.specs.State.{is_created, is_running, is_resumable, is_suspended, is_finished}
use Rattle.heap.specs.declared.object.CoroState.{CoroState}
use Rattle.claims_sound.proofs.Tests.{no_false}

pub resumable-idle : (st : CoroState) → is_resumable st ≡ true → is_running st ≡ false
resumable-idle CoroState.Created e = refl
resumable-idle CoroState.Running e = no_false e
resumable-idle CoroState.Yielded e = refl
resumable-idle CoroState.Awaiting e = refl
resumable-idle CoroState.Returned e = refl
resumable-idle CoroState.Failed e = refl

pub resumable-held : (st : CoroState) → is_resumable st ≡ true → is_finished st ≡ false
resumable-held CoroState.Created e = refl
resumable-held CoroState.Running e = no_false e
resumable-held CoroState.Yielded e = refl
resumable-held CoroState.Awaiting e = refl
resumable-held CoroState.Returned e = no_false e
resumable-held CoroState.Failed e = no_false e

pub suspended-idle : (st : CoroState) → is_suspended st ≡ true → is_running st ≡ false
suspended-idle CoroState.Created e = no_false e
suspended-idle CoroState.Running e = no_false e
suspended-idle CoroState.Yielded e = refl
suspended-idle CoroState.Awaiting e = refl
suspended-idle CoroState.Returned e = no_false e
suspended-idle CoroState.Failed e = no_false e

pub suspended-held : (st : CoroState) → is_suspended st ≡ true → is_finished st ≡ false
suspended-held CoroState.Created e = no_false e
suspended-held CoroState.Running e = no_false e
suspended-held CoroState.Yielded e = refl
suspended-held CoroState.Awaiting e = refl
suspended-held CoroState.Returned e = no_false e
suspended-held CoroState.Failed e = no_false e

pub suspended-old : (st : CoroState) → is_suspended st ≡ true → is_created st ≡ false
suspended-old CoroState.Created e = no_false e
suspended-old CoroState.Running e = no_false e
suspended-old CoroState.Yielded e = refl
suspended-old CoroState.Awaiting e = refl
suspended-old CoroState.Returned e = no_false e
suspended-old CoroState.Failed e = no_false e

pub suspended-resumable : (st : CoroState) → is_suspended st ≡ true → is_resumable st ≡ true
suspended-resumable CoroState.Created e = no_false e
suspended-resumable CoroState.Running e = no_false e
suspended-resumable CoroState.Yielded e = refl
suspended-resumable CoroState.Awaiting e = refl
suspended-resumable CoroState.Returned e = no_false e
suspended-resumable CoroState.Failed e = no_false e

pub running-held : (st : CoroState) → is_running st ≡ true → is_finished st ≡ false
running-held CoroState.Created e = no_false e
running-held CoroState.Running e = refl
running-held CoroState.Yielded e = no_false e
running-held CoroState.Awaiting e = no_false e
running-held CoroState.Returned e = no_false e
running-held CoroState.Failed e = no_false e
