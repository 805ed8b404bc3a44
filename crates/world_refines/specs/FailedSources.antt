-- What fails in an event: a source, if the device that a job's session held is stopped behind it and its source has
-- counted that; or the saying of a reply, if the session answers a request with one that passes a limit of the wire.
use Rattle.std.specs.Prelude.{ℕ, ◌≡◌, ◌⊎◌, ◌++◌, Any, Bool, true, false, Some, List, [], ◌∷◌, slice_get}
use Rattle.page_picture.specs.Source.{SourceState}
use Rattle.page_sources.specs.declared.kinds.Source.{Source}
use Rattle.device_api.specs.State.{DeviceState, HasStopped, after_cancel}
use Rattle.wire_message.specs.declared.message.Request.{Request}
use Rattle.dispatch.specs.declared.table.place.Lease.{Lease}
use Rattle.saned_requests.specs.declared.request_answer.RequestAnswer.{RequestAnswer}
use Rattle.saned_requests.specs.RequestAnswers.{Answers as AnswersRequest, RequestContext}
use Rattle.scan_job.specs.declared.job.Job.{Job}
use Rattle.client_replies.specs.Asking.{request_for}
use Rattle.client_replies.specs.ProtocolStates.{target_of}
use Rattle.saned_requests.specs.declared.session.Session.{Session}
use Rattle.saned_requests.specs.Holding.{held_by}
use Rattle.saned_requests.specs.LeaseLaws.{IsIn}
use Rattle.saned_core.specs.declared.session_slot.SessionId.{SessionId}
use Rattle.saned_core.specs.DaemonStates.{Core, session_of}
use Rattle.daemon_refines.specs.Failures.{HasBytesLeft}
use Rattle.saned_core.specs.Feeding.{IsUnsaid, core_context, replies_to}
use Rattle.system_model.specs.Actions.{Answers, Breaks, TurnsFault}
use Rattle.system_model.specs.SystemStates.{SystemState}
use Rattle.system_model.specs.Transitions.{By, IsUnderWay, Transition, after_transition}
use Rattle.event_world.specs.declared.event.Event.{Event}
use Rattle.event_world.specs.declared.endpoint.Endpoint.{Endpoint}
use Rattle.event_world.specs.Worlds.{Leads, Runs, WorldCore}
use Rattle.world_refines.specs.GhostStates.{Ghost}

-- ---- in an event

-- the session of that number holds the lease by that word
pub record HoldsLease (core : Core) (n word : ℕ) (lease : Lease DeviceState) : Type 0 where
  pub session : Session DeviceState
  pub stands : session_of core n ≡ Some session
  pub held : held_by session.held word ≡ Some lease

-- **failed in (`FailedIn`, `HoldsLease`, `IsInSome`, `HasFailed`, `AllAlong`, `FailsSo`, `FailsIn`, `FailsInSome`,
-- `InEvent`)**: the session of a job held the device of a name in a world, and its page's source failed and counted
-- that. In the daemon behind the event it holds the device stopped, or the device lies so in its place. That is so of
-- one of some events, of the world in front of it and the daemon behind; along steps, each of the state that it is
-- taken in; of a turn that fails by the model, and of a START, while its job is under way.
pub record FailedIn (before : WorldCore) (behind : Core) (i : ℕ) (name : List ℕ) : Type 0 where
  pub endpoint : Endpoint
  pub is_there : slice_get before.endpoints i ≡ Some endpoint
  pub id : SessionId
  pub linked : endpoint.link ≡ Some id
  pub word : ℕ
  pub lease : Lease DeviceState
  pub held : HoldsLease before.daemon id.number word lease
  pub named : lease.device.info.name ≡ name
  pub after : DeviceState
  pub stopped : HasStopped lease.device after
  pub amid : HasBytesLeft lease.device lease.device.phase
  pub left : HoldsLease behind id.number word (record lease { device = after })
      ⊎ IsIn (after_cancel after) lease.place behind.registry

-- **cut in (`CutIn`)**: the session of a job, of the users, the devices and itself as they stand in a world, answers
-- the request that its client wrote and waits for. A reply to it passes a limit of the wire, or has no spelling.
pub record CutIn (before : WorldCore) (i : ℕ) (job : Job) : Type 0 where
  pub endpoint : Endpoint
  pub is_there : slice_get before.endpoints i ≡ Some endpoint
  pub id : SessionId
  pub linked : endpoint.link ≡ Some id
  pub session : Session DeviceState
  pub stands : session_of before.daemon id.number ≡ Some session
  pub request : Request
  -- this very request: its option, its value, its name
  pub waits : request_for (target_of job) endpoint.client.notes.word endpoint.client.progress ≡ Some request
  pub said : RequestAnswer
  pub then_is : RequestContext
  pub answers : AnswersRequest before.daemon.users (core_context before.daemon session) request said then_is
  pub unsaid : Any IsUnsaid (replies_to said)

-- in an event a source of a job's device failed, or a reply to it could not be said
abbrev pub InEvent : Bool → WorldCore → Core → ℕ → Job → Type 0
InEvent true before behind i job = FailedIn before behind i job.device
InEvent false before behind i job = CutIn before i job

-- ---- in one of some events

-- one of the events is such, of the world in front of it and the daemon behind it
pub record IsInSome (source : Source → SourceState) (events : List Event) (w v : WorldCore)
    (Holds : WorldCore → Core → Type 0) : Type 0 where
  pub front : List Event
  pub event : Event
  pub back : List Event
  pub split : events ≡ front ++ event ∷ back
  pub before : WorldCore
  pub comes : Runs source front w before
  pub behind : WorldCore
  pub leads : Leads source event before behind
  pub rest : Runs source back behind v
  pub holds : Holds before behind.daemon

-- ---- the steps of the model

-- each of them is such, of the state that it is taken in
abbrev pub AllAlong : (SystemState → Transition → Type 0) → SystemState → List Transition → Type 0
AllAlong Holds s [] = Unit {0}
AllAlong Holds s (x ∷ xs) = Holds s x × AllAlong Holds (after_transition s x) xs

-- if a source of a job's device fails by the model, while the job is under way, that is so of the job; and so if its
-- session breaks off at a reply
abbrev pub FailsSo : (Bool → ℕ → Type 0) → SystemState → Transition → Type 0
FailsSo Failed s (By i (Answers challenge (Some fault))) = IsUnderWay (s.job i).client.stage → Failed true i
FailsSo Failed s (By i (TurnsFault fault)) = Failed true i
FailsSo Failed s (By i (Breaks false)) = IsUnderWay (s.job i).client.stage → Failed false i
FailsSo Failed s x = Unit {0}

-- of the steps that an event takes
abbrev pub FailsIn : Ghost → WorldCore → Core → SystemState → Transition → Type 0
FailsIn t w core = FailsSo (λ b i. InEvent b w core i (t.jobs i))

-- and of those of all events
abbrev pub HasFailed : (Source → SourceState) → List Event → Ghost → WorldCore → WorldCore → Bool → ℕ → Type 0
HasFailed source events t w v b i = IsInSome source events w v (λ before behind. InEvent b before behind i (t.jobs i))

abbrev pub FailsInSome : (Source → SourceState) → List Event → Ghost → WorldCore → WorldCore → SystemState → Transition
    → Type 0
FailsInSome source events t w v = FailsSo (HasFailed source events t w v)
