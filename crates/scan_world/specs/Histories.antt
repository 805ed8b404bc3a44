-- What was handed to a world over all its calls, and what strangers did meanwhile; that it led to the world, and each
-- of its events with the worlds around it.
use Rattle.std.specs.Prelude.{ℕ, ◌≡◌, ◌++◌, List, [], ◌∷◌, All, Contains}
use Rattle.page_sources.specs.SourceView.{source_state}
use Rattle.md5_auth.specs.Challenges.{HasGiven}
use Rattle.md5_auth.specs.declared.users.Entry.{Entry}
use Rattle.device_api.specs.ScannerLimits.{HasLimits}
use Rattle.device_api.specs.State.{DeviceState}
use Rattle.dispatch.specs.RegistryFault.{HaveOwnNames}
use Rattle.scan_job.specs.declared.job.Job.{Job}
use Rattle.event_world.specs.declared.event.Event.{Event}
use Rattle.event_world.specs.Worlds.{AreNew, IsFitJob, Leads, Runs, WorldCore}
use Rattle.world_refines.specs.NewWorlds.{IsNewDaemon}
use Rattle.world_refines.specs.MainTheorem.{AreTrueLoads}
use Rattle.strangers.specs.Among.{StrangerAct}
use Rattle.strangers.specs.Together.{JointEvent, RunsAmong, events_among}
use Rattle.strangers.specs.Together.JointEvent.{OfJobs, OfStranger}

-- **history (`History`, `begun`, `and_then`, `of_jobs`, `LedTo`)**: the devices, users, seed and jobs that a world was
-- made of, and all that came since, in its order: events of jobs and devices, and acts of strangers. `begun`: nothing
-- happened yet. `and_then`: then these events. `LedTo`: a new world of them, and what came then, led to this world, and
-- each device and page was within its limits.
pub record History : Type 0 where
  pub devices : List DeviceState
  pub users : List Entry
  pub seed : List ℕ
  pub jobs : List Job
  pub events : List JointEvent

-- these devices, users, seed and jobs, and nothing has happened
abbrev pub begun : List DeviceState → List Entry → List ℕ → List Job → History
begun devices users seed jobs = record { devices = devices; users = users; seed = seed; jobs = jobs; events = [] }

-- these events, and nothing of strangers
abbrev pub of_jobs : List Event → List JointEvent
of_jobs [] = []
of_jobs (e ∷ es) = OfJobs e ∷ of_jobs es

-- and then these events
abbrev pub and_then : History → List Event → History
and_then h events = record h { events = h.events ++ of_jobs events }

-- **among what came (`HasEvent`, `HasNoActs`)**: that this event came; that no stranger did anything.
abbrev pub HasEvent : History → Event → Type 0
HasEvent h e = Contains h.events (OfJobs e)

-- no act in it is a stranger's
abbrev pub HasNoActs : History → Type 0
HasNoActs h = (a : StrangerAct) → Contains h.events (OfStranger a) → ⊥

-- a new world of these devices, users, seed and jobs, and then what came, led to this one; each device and page was
-- within its limits
pub record LedTo (h : History) (w : WorldCore) : Type 0 where
  pub first : WorldCore
  pub endpoints : AreNew h.jobs first.endpoints
  pub daemon : IsNewDaemon h.devices first.daemon
  pub users_are : first.daemon.users ≡ h.users
  pub seeded : HasGiven h.seed 0 first.daemon.stream
  pub names : HaveOwnNames h.devices
  pub limits : All HasLimits h.devices
  pub fit : All IsFitJob h.jobs
  pub loads : AreTrueLoads source_state (events_among h.events)
  pub runs : RunsAmong source_state h.events first w

-- **steps (`EachStep`)**: events led on, one after another, and of each of them, with the worlds in front of it and
-- behind it, this is so.
abbrev pub EachStep : (Event → WorldCore → WorldCore → Type 0) → List Event → WorldCore → WorldCore → Type 0
EachStep Did [] w v = v ≡ w
EachStep Did (e ∷ es) w v = (u : WorldCore) × Leads source_state e w u × Did e w u × EachStep Did es u v

-- **moment (`Moment`, `history_up_to`)**: an event of a history that led to a world. What came before it led to the
-- world in front of it. From the world behind it, what came after it led on. `history_up_to` is the history of what
-- came first alone.
--
-- the same, of these alone
abbrev pub history_up_to : History → List JointEvent → History
history_up_to h events = record h { events = events }

-- An event of a history that led to the world w. What came in front of it led to the world before it. It led from there
-- to the one behind it, and what came later led from there to w.
pub record Moment (h : History) (w : WorldCore) (e : Event) : Type 0 where
  pub front : List JointEvent
  pub back : List JointEvent
  pub split : h.events ≡ front ++ OfJobs e ∷ back
  pub before : WorldCore
  pub led_before : LedTo (record h { events = front }) before
  pub behind : WorldCore
  pub leads : Runs source_state (e ∷ []) before behind
  pub rest : RunsAmong source_state back behind w
