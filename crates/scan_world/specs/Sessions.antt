-- WHAT STANDS OF A JOB in a world: its session, what that has, and what its client waits for; and what came to it.
use Rattle.std.specs.Prelude.{ℕ, ◌≡◌, ◌≢◌, Some, List, [], slice_get}
use Rattle.device_api.specs.State.{DeviceState}
use Rattle.dispatch.specs.declared.table.place.Lease.{Lease}
use Rattle.saned_requests.specs.declared.session.Session.{Session}
use Rattle.saned_requests.specs.Holding.{held_by}
use Rattle.saned_core.specs.declared.session_slot.SessionId.{SessionId}
use Rattle.saned_core.specs.DaemonStates.{session_of}
use Rattle.client_replies.specs.declared.progress.Progress.{Progress}
use Rattle.client_replies.specs.declared.progress.Progress.TheVariants as stages
use Rattle.scan_job.specs.declared.outcome.Outcome.TheVariants.{Running}
use Rattle.event_world.specs.declared.endpoint.Endpoint.{Endpoint}
use Rattle.event_world.specs.declared.event.Event.{Event}
use Rattle.event_world.specs.declared.event.Event.TheVariants.{ToDaemon}
use Rattle.event_world.specs.declared.event.JobEvent.{JobEvent}
use Rattle.event_world.specs.JobEvents.{Can}
use Rattle.event_world.specs.Worlds.{WorldCore}
use Rattle.world_refines.specs.WorldRefinement.{IsNobodys}
use Rattle.strangers.specs.Busy.{LeasesNamed}
use Rattle.scan_world.specs.Histories.{History, Moment}

-- **has (`SessionAt`, `Has`, `StrangerHas`)**: the session of a job in a world is the one that its connection leads to.
-- It has a device of a name if a word of it stands for a lease of that. A stranger has a device if a session has it
-- that is no job's.
--
-- endpoint i is linked to the session
pub record SessionAt (w : WorldCore) (i : ℕ) (s : Session DeviceState) : Type 0 where
  pub endpoint : Endpoint
  pub is_there : slice_get w.endpoints i ≡ Some endpoint
  pub id : SessionId
  pub linked : endpoint.link ≡ Some id
  pub stands : session_of w.daemon id.number ≡ Some s

-- the session of job i has this device, of that name: a word of it stands for a lease of the device
pub record Has (w : WorldCore) (i : ℕ) (name : List ℕ) (d : DeviceState) : Type 0 where
  pub session : Session DeviceState
  pub at : SessionAt w i session
  pub word : ℕ
  pub lease : Lease DeviceState
  pub held : held_by session.held word ≡ Some lease
  pub is : lease.device ≡ d
  pub named : d.info.name ≡ name

-- a session that no endpoint has, so a stranger's, has a device of that name
pub record StrangerHas (w : WorldCore) (name : List ℕ) : Type 0 where
  pub number : ℕ
  pub nobodys : IsNobodys w number
  pub leases : LeasesNamed w number name

-- the event can happen to job i
abbrev pub CanAt : WorldCore → ℕ → JobEvent → Type 0
CanAt w i x = (p : Endpoint) × (slice_get w.endpoints i ≡ Some p) × Can w.daemon p x

-- this is so of the endpoint of job i
abbrev pub AtJob : WorldCore → ℕ → (Endpoint → Type 0) → Type 0
AtJob w i Is = (p : Endpoint) × (slice_get w.endpoints i ≡ Some p) × Is p

-- the answer to GET_DEVICES
abbrev pub IsAtList : Progress → Type 0
IsAtList stages.Listing = Unit {0}
IsAtList progress = ⊥

-- to OPEN, or to AUTHORIZE and so to the OPEN before it
abbrev pub IsAtOpen : Progress → Type 0
IsAtOpen stages.Opening = Unit {0}
IsAtOpen (stages.Allowing resource answer) = Unit {0}
IsAtOpen progress = ⊥

-- to START
abbrev pub IsAtStart : Progress → Type 0
IsAtStart (stages.Starting first) = Unit {0}
IsAtStart progress = ⊥

-- ---- what came to the job

-- **came to a job (`CameAsItRan`, `Happened`, `Asked`, `AtJob`, `IsAtList`, `IsAtOpen`, `IsAtStart`)**: an event of a
-- job that came as it ran and changed the world. `Asked` is such a delivery of the last bytes of a request, while its
-- client waited for the answer: to a list, to the device's opening, with its authorization, or to a start.
--
-- job i ran in front of the event, which changed the world
abbrev pub CameAsItRan : ℕ → WorldCore → WorldCore → Type 0
CameAsItRan i before behind = AtJob before i (λ p. p.client.outcome ≡ Running) × (behind ≢ before)

-- an event that came to job i
abbrev pub Happened : History → WorldCore → ℕ → Event → Type 0
Happened h w i e = (at : Moment h w e) × CameAsItRan i at.before at.behind

-- the delivery to the daemon of the last bytes of a request, whose answer the client of job i waited for
pub record Asked (h : History) (w : WorldCore) (i : ℕ) (Waits : Progress → Type 0) : Type 0 where
  pub n : ℕ
  pub at : Moment h w (ToDaemon i n)
  pub came : CameAsItRan i at.before at.behind
  pub waits : AtJob at.before i (λ p. Waits p.client.progress)
  -- where the session goes on, nothing that its client wrote is on its way
  pub whole : (s : Session DeviceState) (now : SessionAt at.behind i s) → now.endpoint.client.out ≡ []
