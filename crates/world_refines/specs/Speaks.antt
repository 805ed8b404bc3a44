-- What a session, and a device, have of the requests of their client.
use Rattle.std.specs.Prelude.{ℕ, ◌≡◌, Bool, true, false, Option, Some, None, List, [], ◌∷◌}
use Rattle.option_desc.specs.declared.descriptor.Descriptor.{Descriptor}
use Rattle.device_api.specs.State.{DeviceState}
use Rattle.saned_requests.specs.declared.session.AwaitedAuthorization.{AwaitedAuthorization}
use Rattle.saned_requests.specs.declared.session.Session.{Session}
use Rattle.client_replies.specs.declared.progress.Progress.{Progress}
use Rattle.client_replies.specs.declared.progress.Progress.TheVariants as stages
use Rattle.system_model.specs.AbstractMessages.{Challenge, AbstractRequest, Init, Set, Start}
use Rattle.system_model.specs.Devices.{Make, descriptors_in_force}
use Rattle.system_model.specs.AbstractDevices.{AbstractDevice}
use Rattle.system_model.specs.SystemStates.{JobState, SystemState, make_for, device_for}

-- ---- a session

-- it was greeted, or INIT is its next request
abbrev pub IsGreeted : Bool → List AbstractRequest → Type 0
IsGreeted true todo = Unit {0}
IsGreeted false todo = (rest : List AbstractRequest) × (todo ≡ Init ∷ rest)

-- it awaits AUTHORIZE where it does by the model: for the device of this name, and the challenge is the resource that
-- it sent
abbrev pub Awaits : List ℕ → Option AwaitedAuthorization → Option Challenge → Type 0
Awaits name None sent = sent ≡ None
Awaits name (Some awaited) sent = (awaited.name ≡ name) × (sent ≡ Some awaited.resource)

-- **what a session and a device have of requests (`SpeaksAs`, `Awaits`, `SetsAsHeld`)**: a session was greeted, or INIT
-- is its next request. It awaits AUTHORIZE just when it does by the model, for the job's device and with the resource
-- that was sent. A SET and a START come first among the requests on the way, and a SET is of an option as the client's
-- device has it.
pub record SpeaksAs (name : List ℕ) (p : JobState) (session : Session DeviceState) : Type 0 where
  pub greeted : IsGreeted session.greeted p.todo
  pub awaits : Awaits name session.awaited p.session.awaited

-- where it goes on
abbrev pub Speaks : List ℕ → JobState → Option (Session DeviceState) → Type 0
Speaks name p None = Unit {0}
Speaks name p (Some session) = SpeaksAs name p session

-- ---- a client

-- **what a client waits for (`WaitsQuietly`)**: no client is between two pages, and behind AUTHORIZE's word none of its
-- requests is on the way.
pub record WaitsQuietly (progress : Progress) (todo : List AbstractRequest) : Type 0 where
  -- no client is between two pages
  pub unturned : progress ≡ stages.Turning → ⊥
  -- behind AUTHORIZE's word nothing is on the way to the daemon
  pub silent : progress ≡ stages.Reopening → todo ≡ []

-- ---- a device

-- no SET and no START is among them
abbrev pub SetsNothing : List AbstractRequest → Type 0
SetsNothing [] = Unit {0}
SetsNothing (Set n value ∷ todo) = ⊥
SetsNothing (Start ∷ todo) = ⊥
SetsNothing (q ∷ todo) = SetsNothing todo

-- a SET and a START come first, and a SET is of an option as client i's device has it
abbrev pub SetsAsHeld : ℕ → Make → List Descriptor → AbstractDevice → List AbstractRequest → Type 0
SetsAsHeld i make known dev [] = Unit {0}
SetsAsHeld i make known dev (Set n value ∷ todo) = (dev.holder ≡ Some i)
    × (known ≡ descriptors_in_force make dev.options) × SetsNothing todo
SetsAsHeld i make known dev (q ∷ todo) = SetsNothing todo

abbrev pub AsksAsHeld : SystemState → ℕ → Type 0
AsksAsHeld s i = SetsAsHeld i (make_for s i) (s.job i).client.known (device_for s i) (s.job i).todo
