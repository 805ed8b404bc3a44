-- A daemon and the endpoints of some jobs, and what events make of them.
use Rattle.std.specs.Prelude.{ℕ, ◌≡◌, ◌≤◌, ◌<◌, List, [], ◌∷◌, All, Some, None, length, slice_get, slice_set}
use Rattle.page_picture.specs.Source.{SourceState}
use Rattle.page_sources.specs.declared.kinds.Source.{Source}
use Rattle.device_api.specs.State.{DeviceState}
use Rattle.dispatch.specs.RegistryFault.{HaveOwnNames, AreRegistrable}
use Rattle.dispatch.specs.Table.{after_unplug, fresh_table}
use Rattle.md5_auth.specs.declared.users.Entry.{Entry}
use Rattle.md5_auth.specs.Challenges.{HasGiven}
use Rattle.scan_job.specs.declared.job.Job.{Job}
use Rattle.scan_job.specs.JobSize.{HasCount, HasJobSize}
use Rattle.saned_requests.specs.declared.session.StringSize.TheVariants.{OfText}
use Rattle.saned_core.specs.DaemonStates.{DaemonState, core}
use Rattle.saned_core.specs.Loading as daemon
use Rattle.event_world.specs.declared.event.Event.{Event}
use Rattle.event_world.specs.declared.event.Event.TheVariants.{Connect, ToDaemon, ToClient, DataConnect, DataTurn}
use Rattle.event_world.specs.declared.event.Event.TheVariants.{DataToClient, LoseControl, LoseImage, Cancel, Load}
use Rattle.event_world.specs.declared.event.Event.TheVariants.{Unplug}
use Rattle.event_world.specs.declared.event.JobEvent.{JobEvent}
use Rattle.event_world.specs.declared.event.JobEvent.TheVariants as job_events
use Rattle.event_world.specs.declared.endpoint.Endpoint.{Endpoint}
use Rattle.event_world.specs.declared.world_fault.WorldFault.{WorldFault}
use Rattle.event_world.specs.declared.world_fault.WorldFault.TheVariants as faults
use Rattle.event_world.specs.Endpoints.{IsNew}
use Rattle.event_world.specs.JobEvents.{Happens}

-- **a world (`WorldState`, `AreNew`, `HasWorldFault`, `HasFaultAmong`, `IsInitialWorld`)**: the daemon and the
-- endpoints. In a new one each job has its endpoint, to which nothing has happened, and the devices are reset.
-- `HasWorldFault` says why there is no world of these devices and jobs: the first fault in its order.
--
-- A world whose devices are seen as S.
pub record WorldState (S : Type 0) : Type 0 where
  pub daemon : DaemonState S
  pub endpoints : List Endpoint

-- with each device seen as its state
abbrev pub seen_world : {D S : Type 0} → (D → S) → WorldState D → WorldState S
seen_world f w = record { daemon = core f w.daemon; endpoints = w.endpoints }

abbrev pub WorldCore : Type 0
WorldCore = WorldState DeviceState

-- ---- a new one

-- each job has its endpoint, to which nothing has happened
abbrev pub AreNew : List Job → List Endpoint → Type 0
AreNew [] [] = Unit {0}
AreNew [] (p ∷ endpoints) = ⊥
AreNew (job ∷ jobs) [] = ⊥
AreNew (job ∷ jobs) (p ∷ endpoints) = IsNew job p × AreNew jobs endpoints

-- a client takes the job
abbrev pub IsFitJob : Job → Type 0
IsFitJob job = HasJobSize job × HasCount job.task

-- jobs that a world takes
abbrev pub MayRun : List Job → Type 0
MayRun jobs = (length jobs ≤ 8) × All IsFitJob jobs

-- the first fault of jobs, in the order of the tests; where memory ran out they have none
abbrev pub HasWorldFault : WorldFault → List Job → Type 0
HasWorldFault faults.SameName jobs = ⊥
HasWorldFault faults.TooManyDevices jobs = ⊥
HasWorldFault faults.TooManyJobs jobs = 8 < length jobs
HasWorldFault faults.BadJob jobs = (length jobs ≤ 8) × ¬ All IsFitJob jobs
HasWorldFault faults.NoMem jobs = MayRun jobs

-- the same of devices and jobs: the faults of devices come before those of jobs
abbrev pub HasFaultAmong : WorldFault → List DeviceState → List Job → Type 0
HasFaultAmong faults.SameName devices jobs = ¬ HaveOwnNames devices
HasFaultAmong faults.TooManyDevices devices jobs = HaveOwnNames devices × (16 < length devices)
HasFaultAmong faults.TooManyJobs devices jobs = AreRegistrable devices × HasWorldFault faults.TooManyJobs jobs
HasFaultAmong faults.BadJob devices jobs = AreRegistrable devices × HasWorldFault faults.BadJob jobs
HasFaultAmong faults.NoMem devices jobs = AreRegistrable devices × HasWorldFault faults.NoMem jobs

-- a new daemon of these devices, each of them reset, and a new endpoint for each job
pub record IsInitialWorld (devices : List DeviceState) (users : List Entry) (seed : List ℕ) (jobs : List Job)
    (w : WorldCore) : Type 0 where
  pub registry : w.daemon.registry ≡ fresh_table devices
  pub users_are : w.daemon.users ≡ users
  pub strings : w.daemon.strings ≡ OfText
  pub challenges : HasGiven seed 0 w.daemon.stream
  pub sessions : w.daemon.slots ≡ None ∷ None ∷ None ∷ None ∷ None ∷ None ∷ None ∷ None ∷ []
  pub opened : w.daemon.opened ≡ 0
  pub endpoints : AreNew jobs w.endpoints

-- ---- events

-- **leads, runs (`AtEndpoint`, `Leads`, `Runs`)**: an event of a job happens to its endpoint, and no other endpoint
-- changes. A page is laid in, and a device taken out, by the daemon's calls. A list of events happens one after
-- another.
--
-- It happens to the job of that place, by the daemon and its endpoint; no other endpoint changes. Where there is no
-- such job nothing does.
pub record AtEndpoint (w : WorldCore) (i : ℕ) (job_event : JobEvent) (v : WorldCore) : Type 0 where
  pub happens : (p : Endpoint) → slice_get w.endpoints i ≡ Some p
      → (q : Endpoint) × Happens w.daemon p job_event v.daemon q × (v.endpoints ≡ slice_set w.endpoints i q)
  pub beyond : length w.endpoints ≤ i → v ≡ w

-- what an event makes of a world; the source of a page that is laid in shows it
abbrev pub Leads : (Source → SourceState) → Event → WorldCore → WorldCore → Type 0
Leads source (Connect i) w v = AtEndpoint w i job_events.Connect v
Leads source (ToDaemon i n) w v = AtEndpoint w i (job_events.ToDaemon n) v
Leads source (ToClient i n) w v = AtEndpoint w i (job_events.ToClient n) v
Leads source (DataConnect i) w v = AtEndpoint w i job_events.DataConnect v
Leads source (DataTurn i) w v = AtEndpoint w i job_events.DataTurn v
Leads source (DataToClient i n) w v = AtEndpoint w i (job_events.DataToClient n) v
Leads source (LoseControl i) w v = AtEndpoint w i job_events.LoseControl v
Leads source (LoseImage i) w v = AtEndpoint w i job_events.LoseImage v
Leads source (Cancel i) w v = AtEndpoint w i job_events.Cancel v
Leads source (Load name page) w v = v ≡ record w { daemon = daemon.core_after_load w.daemon name (source page) }
Leads source (Unplug name) w v =
    v ≡ record w { daemon = record w.daemon { registry = after_unplug w.daemon.registry name } }

-- events one after another
abbrev pub Runs : (Source → SourceState) → List Event → WorldCore → WorldCore → Type 0
Runs source [] w v = v ≡ w
Runs source (e ∷ es) w v = (u : WorldCore) × Leads source e w u × Runs source es u v
