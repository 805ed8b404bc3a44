-- A new world: nothing has happened.
use Rattle.std.specs.Prelude.{ℕ, ◌≡◌, Bool, Option, Some, None, List, [], ◌∷◌, All, length, map, slice_get}
use Rattle.std.specs.Prelude.{slice_index_or}
use Rattle.sane_fixed.specs.declared.byte_order.ByteOrder.TheVariants.{Little}
use Rattle.page_picture.specs.declared.scene.DeviceKind.TheVariants.{Feeder}
use Rattle.md5_auth.specs.declared.users.Entry.{Entry}
use Rattle.frame_join.specs.FrameHistory.{empty_history}
use Rattle.device_api.specs.ScannerLimits.{HasLimits}
use Rattle.sane_fixed.specs.declared.device_info.DeviceInfo.{DeviceInfo}
use Rattle.device_api.specs.State.{DeviceState}
use Rattle.dispatch.specs.RegistryFault.{HaveOwnNames}
use Rattle.dispatch.specs.Table.{fresh_table}
use Rattle.saned_core.specs.DaemonStates.{Core}
use Rattle.scan_job.specs.declared.job.Job.{Job}
use Rattle.system_model.specs.Devices.{Make}
use Rattle.system_model.specs.ModelPromises.{initial_state}
use Rattle.daemon_refines.specs.ContextRefinement.{HaveSources}
use Rattle.daemon_refines.specs.Cores.{fresh_devices}
use Rattle.event_world.specs.declared.endpoint.Endpoint.{Endpoint}
use Rattle.event_world.specs.Worlds.{AreNew, IsFitJob, WorldCore}
use Rattle.world_refines.specs.GhostStates.{Ghost, Wires, abstract_job}
use Rattle.world_refines.specs.WorldRefinement.{HasNoStrangers, WorldRefines, numbers_from}
use Rattle.world_refines.specs.Costs.{Pays}

-- a daemon of these devices, with whatever users; no session was opened yet
pub record IsNewDaemon (devices : List DeviceState) (core : Core) : Type 0 where
  pub registry : core.registry ≡ fresh_table devices
  pub slots : core.slots ≡ None ∷ None ∷ None ∷ None ∷ None ∷ None ∷ None ∷ None ∷ []
  pub opened : core.opened ≡ 0

-- of the page sources that are ever in a device: whether one can fail, and whether each gives its page's rows at each
-- pass
pub record PageSources : Type 0 where
  pub fallible : Bool
  pub steady : Bool

-- what never changes of a device, with that; a place without a device matters to nobody
abbrev pub make_of : PageSources → Option DeviceState → Make
make_of sources None = record { model = Feeder; order = Little; fallible = sources.fallible; steady = sources.steady }
make_of sources (Some s) =
    record { model = s.setup.scene.kind; order = s.setup.order; fallible = sources.fallible; steady = sources.steady }

-- the sources of the pages that the devices were handed in with are such
abbrev pub HaveSourcesAt : (ℕ → PageSources) → List DeviceState → Type 0
HaveSourcesAt sources devices = (k : ℕ) (s : DeviceState) → slice_get devices k ≡ Some s
    → HaveSources (make_of (sources k) (Some s)) s.pages

-- what a client has written before its connection is made
abbrev pub wires_of : Option Endpoint → Wires
wires_of None = record { up = []; asking = []; down = []; telling = []; image = None }
wires_of (Some p) = record { up = p.client.out; asking = []; down = []; telling = []; image = None }

abbrev pub info_of_state : DeviceState → DeviceInfo
info_of_state s = s.info

-- **a new world (`initial_ghost`, `NewWorldsRefine`, `NewWorldsAreAlone`, `NewWorldsPay`)**: of each job nothing is
-- told. All clients are as at first, all devices lie in their places, no session stands, and nothing is on the way but
-- what clients have written before they are connected. Its jobs have moves enough for all that is to come.
--
-- Of these jobs nothing is told yet. (The other job stands for those that there are not.)
abbrev pub initial_ghost : (ℕ → PageSources) → List Job → Job → List DeviceState → List Entry → List Endpoint → Ghost
initial_ghost sources jobs other devices users endpoints =
    let infos = map info_of_state devices in
    record {
      system = initial_state (λ k. make_of (sources k) (slice_get devices k)) (fresh_devices devices) (λ i.
          abstract_job users infos (slice_index_or jobs i other)) (numbers_from 0 infos);
      users = users;
      infos = infos;
      count = length jobs;
      jobs = λ i. slice_index_or jobs i other;
      wires = λ i. wires_of (slice_get endpoints i);
      history = λ i. empty_history;
      pages = λ i. [];
    }

-- a new world stands for that
abbrev pub NewWorldsRefine : Type 0
NewWorldsRefine =
    (sources : ℕ → PageSources) (jobs : List Job) (other : Job) (devices : List DeviceState) (w : WorldCore)
    → AreNew jobs w.endpoints → IsNewDaemon devices w.daemon → HaveOwnNames devices → All HasLimits devices
    → HaveSourcesAt sources devices → All IsFitJob jobs
    → WorldRefines (initial_ghost sources jobs other devices w.daemon.users w.endpoints) w

-- no session stands there yet
abbrev pub NewWorldsAreAlone : Type 0
NewWorldsAreAlone = (devices : List DeviceState) (w : WorldCore) → IsNewDaemon devices w.daemon → HasNoStrangers w

-- its jobs have moves enough for all that is to come
abbrev pub NewWorldsPay : Type 0
NewWorldsPay = (sources : ℕ → PageSources) (jobs : List Job) (other : Job) (devices : List DeviceState) (w : WorldCore)
    → AreNew jobs w.endpoints → All IsFitJob jobs
    → Pays (initial_ghost sources jobs other devices w.daemon.users w.endpoints) w
