-- What a world stands for.
use Rattle.std.specs.Prelude.{ℕ, ◌≡◌, ◌≢◌, ◌<◌, ◌≤◌, ◌+◌, ◌⊎◌, ◌++◌, suc, Bool, true, false, not, is_some, Option}
use Rattle.std.specs.Prelude.{if◌then◌else◌, Some, None, IsSome, option_map, List, [], ◌∷◌, length, map, slice_get}
use Rattle.std.specs.List.{AllByRecursion}
use Rattle.sane_fixed.specs.declared.status.Status.{Status}
use Rattle.netpbm.specs.Picture.{Picture}
use Rattle.page_picture.specs.Page.{IsPageView}
use Rattle.page_picture.specs.Shows.{ShowsFrames}
use Rattle.md5_auth.specs.declared.users.Entry.{Entry}
use Rattle.frame_join.specs.FrameHistory.{JoinHistory, IsJoined, is_joined}
use Rattle.device_api.specs.State.{DeviceState, HeldPage}
use Rattle.sane_fixed.specs.declared.device_info.DeviceInfo.{DeviceInfo}
use Rattle.dispatch.specs.declared.table.place.Lease.{Lease}
use Rattle.dispatch.specs.declared.table.place.Place.{Place}
use Rattle.dispatch.specs.declared.table.place.Slot.{Slot}
use Rattle.dispatch.specs.declared.table.place.Slot.TheVariants.{In, Out, Gone}
use Rattle.saned_requests.specs.declared.session.Session.{Session}
use Rattle.saned_core.specs.declared.session_slot.SessionSlot.{SessionSlot}
use Rattle.saned_core.specs.declared.session_slot.SessionId.{SessionId}
use Rattle.saned_core.specs.DaemonStates.{Core, replies_in, session_slot_of, session_in, session_of}
use Rattle.saned_core.specs.Feeding.{input_in}
use Rattle.scan_job.specs.JobSize.{HasCount}
use Rattle.scan_job.specs.declared.job.Job.{Job}
use Rattle.scan_job.specs.declared.job.Task.{Task}
use Rattle.scan_job.specs.declared.outcome.Outcome.{Outcome}
use Rattle.client_replies.specs.declared.progress.Progress.TheVariants as stages
use Rattle.client_replies.specs.ProtocolStates.{target_of, is_batch, is_running}
use Rattle.net_client.specs.ClientStates.{ClientRepresents, protocol_of}
use Rattle.system_model.specs.AbstractMessages.{Init}
use Rattle.system_model.specs.Devices.{Make}
use Rattle.system_model.specs.Client.{ClientView, JobStage, Idle, Running, Done, Ended, Greeting, with_progress}
use Rattle.system_model.specs.Causes.{IsCauseAmong, LinkOutOfMemory}
use Rattle.system_model.specs.AbstractDevices.{Begin, AbstractDevice, is_held_by}
use Rattle.system_model.specs.Daemon.{TransferState, Quiet, Waiting, Streaming, Ending}
use Rattle.system_model.specs.SystemStates.{JobState}
use Rattle.system_model.specs.AbstractSessions.{AbstractSession as RuledSession, one_word_session}
use Rattle.system_model.specs.Transitions.{IsUnderWay}
use Rattle.system_model.specs.Invariants.{Invariant}
use Rattle.client_refines.specs.ClientRefinement.{ClientRefines}
use Rattle.daemon_refines.specs.ContextRefinement.{TableRefines}
use Rattle.daemon_refines.specs.Cores.{SessionRefines}
use Rattle.event_world.specs.declared.endpoint.Image.{Image}
use Rattle.event_world.specs.declared.endpoint.Endpoint.{Endpoint}
use Rattle.event_world.specs.FileDraining.{HasFiles}
use Rattle.event_world.specs.JobEvents.{is_done}
use Rattle.event_world.specs.Worlds.{WorldCore}
use Rattle.world_refines.specs.GhostStates.{Ghost, Wires, name_at, place_of_info, abstract_job}
use Rattle.world_refines.specs.Wires.{FlightMatches, SpellsAsked, SpellsReplies}
use Rattle.world_refines.specs.WorldPending.{Pends}
use Rattle.world_refines.specs.Speaks.{AsksAsHeld, Speaks, WaitsQuietly}
use Rattle.frame_join.specs.PictureText.{IsPictureFile}

-- ---- the client and its files

-- the client of a job that is not connected yet waits for its greeting; by the model it waits for nothing
abbrev pub client_at_greeting : JobStage → ClientView → ClientView
client_at_greeting Idle m = with_progress Greeting m
client_at_greeting (Running g) m = m
client_at_greeting Done m = m
client_at_greeting (Ended status why) m = m

-- the last page of a batch that is done is laid by as the others are
abbrev pub is_laid : Task → Outcome → JoinHistory → Bool
is_laid task outcome past = if is_done outcome then (if is_batch task then is_joined past.ended else false) else false

abbrev pub KeepsFiles : Bool → JoinHistory → List JoinHistory → Endpoint → Type 0
KeepsFiles false past pages endpoint = HasFiles past.given pages endpoint
KeepsFiles true past pages endpoint = HasFiles [] (pages ++ past ∷ []) endpoint

-- a finished page: its frames are a whole picture, and its file denotes what they show
pub record IsFinished (past : JoinHistory) : Type 0 where
  pub joined : IsJoined past
  pub denotes : (picture : Picture) → ShowsFrames past.ended picture → IsPictureFile past.given picture

-- the client reads as the model's client view, of what its joins were told and gave
pub record EndpointClientRefines (place : DeviceInfo → ℕ) (job : Job) (past : JoinHistory) (pages : List JoinHistory)
    (p : JobState) (endpoint : Endpoint) : Type 0 where
  pub task : endpoint.task ≡ job.task
  pub target : endpoint.client.target ≡ target_of job
  -- while it runs it knows its device by the first word
  pub word : is_running endpoint.client.outcome ≡ true → endpoint.client.notes.word ≡ 0
  pub over : is_running endpoint.client.outcome ≡ false → endpoint.client.progress ≡ stages.Over
  pub serves : ClientRepresents past endpoint.client
  pub reads
      : ClientRefines place (target_of job) p.session.job (map (λ (q : JoinHistory).
      q.ended) pages) (protocol_of endpoint.client past) (client_at_greeting p.client.stage p.client)
  pub idle : p.client.stage ≡ Idle → endpoint.was_connected ≡ false
  pub begun : endpoint.was_connected ≡ false → (p.client.stage ≡ Idle) ⊎ (IsUnderWay p.client.stage → ⊥)
  pub files : KeepsFiles (is_laid job.task endpoint.client.outcome past) past pages endpoint
  pub finished : (k : ℕ) (q : JoinHistory) → slice_get pages k ≡ Some q → IsFinished q
  -- a job of one page has none before it, and the file of a job that is done is whole
  pub alone : is_batch job.task ≡ false → pages ≡ []
  pub done : is_done endpoint.client.outcome ≡ true → is_joined past.ended ≡ true → IsFinished past

-- ---- the connections

abbrev pub image_bytes : Image → List ℕ
image_bytes image = image.bytes

-- what is on the way
pub record WiresMatch (wires : Wires) (slot : Option (SessionSlot DeviceState)) (endpoint : Endpoint) : Type 0 where
  pub up : endpoint.client.out ≡ wires.up
  pub asking : input_in slot ≡ wires.asking
  pub down : replies_in slot ≡ wires.down
  pub telling : endpoint.client.input.rest ≡ wires.telling
  pub image : option_map image_bytes endpoint.image ≡ wires.image

-- a frame that streams, or that is to be ended, has no end yet
abbrev pub HasNoEnd : TransferState → Option Status → Type 0
HasNoEnd Quiet ending = Unit {0}
HasNoEnd Waiting ending = Unit {0}
HasNoEnd Streaming ending = ending ≡ None
HasNoEnd Ending ending = ending ≡ None

-- and what it means by the model
pub record Means (place : DeviceInfo → ℕ) (job : Job) (wires : Wires) (p : JobState)
    (endpoint : Endpoint) : Type 0 where
  pub linked : p.linked ≡ is_some endpoint.link
  pub before : endpoint.was_connected ≡ false → (endpoint.link ≡ None) × (endpoint.is_over ≡ false)
  pub over : p.linked ≡ true → endpoint.is_over ≡ not p.served
  pub calm : p.served ≡ false → p.session.transfer ≡ Quiet
  pub image : IsSome wires.image → p.image ≡ true
  pub last : (image : Image) → endpoint.image ≡ Some image → image.is_last ≡ is_some p.session.ending
  pub unended : HasNoEnd p.session.transfer p.session.ending
  -- what a client that is not connected yet has written is its greeting
  pub first : p.client.stage ≡ Idle → SpellsAsked job p.client (Init ∷ []) wires.up
  pub up : p.served ≡ true → SpellsAsked job p.client p.todo (wires.asking ++ wires.up)
  pub down : IsUnderWay p.client.stage
      → SpellsReplies place endpoint.client.progress p.due (wires.telling ++ wires.down)
  pub flow : FlightMatches p.client.stage p.session.transfer endpoint.client.progress endpoint.client.phase wires.image
      p.session.flight p.session.ending
  pub starved : IsCauseAmong LinkOutOfMemory p.session.met → endpoint.out_of_memory ≡ true

-- ---- the daemon

-- the slot of an endpoint's session
abbrev pub slot_of_link : Core → Option SessionId → Option (SessionSlot DeviceState)
slot_of_link core None = None
slot_of_link core (Some id) = session_slot_of core.slots id.number

-- by the model client i's session has one device word, for the device that the job names
abbrev pub session_by : ℕ → (ℕ → AbstractDevice) → JobState → RuledSession
session_by i device p =
    one_word_session (is_held_by i (device p.session.job.wants).holder) p.session.job.wants p.session.transfer
    p.session.awaited

abbrev pub LinkRefines : ℕ → (ℕ → Make) → Core → Option SessionId → (ℕ → AbstractDevice) → RuledSession → Type 0
LinkRefines i make core None device s = ⊥
LinkRefines i make core (Some id) device s = SessionRefines i make core id.number device s

-- the session goes on, and is that of the model; or it is over, or there is none, and nothing is held
abbrev pub IsServed : ℕ → (ℕ → Make) → Core → Option SessionId → Bool → (ℕ → AbstractDevice) → RuledSession → Type 0
IsServed i make core link true device s = LinkRefines i make core link device s
IsServed i make core link false device s = (session_in (slot_of_link core link) ≡ None)
    × TableRefines i make [] core.registry device

-- a page whose source gives its rows at each pass is a page view
abbrev pub IsFaithfulPage : HeldPage → Type 0
IsFaithfulPage held = held.steady ≡ true → IsPageView held.page

abbrev pub IsFaithful : DeviceState → Type 0
IsFaithful s = AllByRecursion IsFaithfulPage s.pages

abbrev pub IsFaithfulSlot : Slot DeviceState → Type 0
IsFaithfulSlot (In s) = IsFaithful s
IsFaithfulSlot Out = Unit {0}
IsFaithfulSlot Gone = Unit {0}

abbrev pub IsFaithfulPlace : Place DeviceState → Type 0
IsFaithfulPlace p = IsFaithfulSlot p.slot

abbrev pub IsFaithfulLease : Option (Lease DeviceState) → Type 0
IsFaithfulLease None = Unit {0}
IsFaithfulLease (Some l) = IsFaithful l.device

abbrev pub IsFaithfulSession : Option (Session DeviceState) → Type 0
IsFaithfulSession None = Unit {0}
IsFaithfulSession (Some session) = AllByRecursion IsFaithfulLease session.held

abbrev pub IsFaithfulSessionSlot : Option (SessionSlot DeviceState) → Type 0
IsFaithfulSessionSlot None = Unit {0}
IsFaithfulSessionSlot (Some slot) = IsFaithfulSession slot.session

-- so are all devices, in their places and lent
pub record AreFaithful (core : Core) : Type 0 where
  pub lying : AllByRecursion IsFaithfulPlace core.registry
  pub lent : AllByRecursion IsFaithfulSessionSlot core.slots

-- all numbers of sessions are below this one
abbrev pub IsBelow : ℕ → Option (SessionSlot DeviceState) → Type 0
IsBelow n None = Unit {0}
IsBelow n (Some slot) = slot.number < n

abbrev pub info_at : Place DeviceState → DeviceInfo
info_at p = p.info

-- the numbers from k on, one for each of these
abbrev pub numbers_from : {X : Type 0} → ℕ → List X → List ℕ
numbers_from k [] = []
numbers_from k (x ∷ xs) = k ∷ numbers_from (suc k) xs

-- no two of these have one name
abbrev pub HaveDifferentNames : List DeviceInfo → Type 0
HaveDifferentNames infos = (j k : ℕ) (name : List ℕ) → name_at infos j ≡ Some name → name_at infos k ≡ Some name → j ≡ k

-- the places that were shown to a client, if any were, are below this number
abbrev pub AreListedBelow : ℕ → Option (List ℕ) → Type 0
AreListedBelow n None = Unit {0}
AreListedBelow n (Some places) = AllByRecursion (λ (k : ℕ). k < n) places

-- ---- the world

-- the endpoint of a job is what stands of it
pub record EndpointRefines (users : List Entry) (infos : List DeviceInfo) (job : Job) (make : ℕ → Make)
    (device : ℕ → AbstractDevice) (i : ℕ) (p : JobState) (wires : Wires) (past : JoinHistory) (pages : List JoinHistory)
    (core : Core) (endpoint : Endpoint) : Type 0 where
  pub job_is : p.session.job ≡ abstract_job users infos job
  pub exchanges : EndpointClientRefines (place_of_info infos) job past pages p endpoint
  pub carries : WiresMatch wires (slot_of_link core endpoint.link) endpoint
  pub means : Means (place_of_info infos) job wires p endpoint
  pub served : IsServed i make core endpoint.link p.served device (session_by i device p)
  pub speaks : Speaks job.device p (session_in (slot_of_link core endpoint.link))
  pub waits : WaitsQuietly endpoint.client.progress p.todo
  pub pends : Pends endpoint.client.outcome endpoint.client.progress endpoint.client.phase wires

abbrev pub EndpointRefinesAt : Ghost → Core → ℕ → Endpoint → Type 0
EndpointRefinesAt t core i endpoint =
    EndpointRefines t.users t.infos (t.jobs i) t.system.make t.system.device i (t.system.job i) (t.wires i)
    (t.history i) (t.pages i) core endpoint

-- where there is no job nothing happens
pub record IsNobody (t : Ghost) (i : ℕ) : Type 0 where
  pub stage : (t.system.job i).client.stage ≡ Idle
  pub linked : (t.system.job i).linked ≡ false
  pub transfer : (t.system.job i).session.transfer ≡ Quiet
  pub image : (t.wires i).image ≡ None

-- what never changes is the world's
pub record IsOf (t : Ghost) (w : WorldCore) : Type 0 where
  pub count : t.count ≡ length w.endpoints
  pub users : t.users ≡ w.daemon.users
  pub infos : t.infos ≡ map info_at w.daemon.registry
  pub apart : HaveDifferentNames t.infos
  pub places : t.system.places ≡ numbers_from 0 t.infos
  -- no job asks for more pages than a batch may have
  pub counts : (i : ℕ) → i < t.count → HasCount (t.jobs i).task

-- no two endpoints have one session
abbrev pub HaveOwn : WorldCore → Type 0
HaveOwn w = (i j : ℕ) (a b : Endpoint) (x y : SessionId) → slice_get w.endpoints i ≡ Some a
    → slice_get w.endpoints j ≡ Some b → a.link ≡ Some x → b.link ≡ Some y → x.number ≡ y.number → i ≡ j

-- some endpoint has the session of that number
pub record IsLinked (endpoints : List Endpoint) (n : ℕ) : Type 0 where
  pub place : ℕ
  pub endpoint : Endpoint
  pub id : SessionId
  pub at : slice_get endpoints place ≡ Some endpoint
  pub link : endpoint.link ≡ Some id
  pub number : id.number ≡ n

-- no two slots have one number
abbrev pub HaveDifferentNumbers : List (Option (SessionSlot DeviceState)) → Type 0
HaveDifferentNumbers slots =
    (j k : ℕ) (a b : SessionSlot DeviceState) → slice_get slots j ≡ Some (Some a) → slice_get slots k ≡ Some (Some b)
    → a.number ≡ b.number → j ≡ k

-- the session of that number is no endpoint's
abbrev pub IsNobodys : WorldCore → ℕ → Type 0
IsNobodys w n =
    (j : ℕ) (endpoint : Endpoint) (id : SessionId) → slice_get w.endpoints j ≡ Some endpoint → endpoint.link ≡ Some id
    → id.number ≢ n

-- by the model it is that of a client behind all jobs
abbrev pub stranger_of : WorldCore → ℕ → ℕ
stranger_of w n = length w.endpoints + n

-- **sessions of strangers (`StrangerStands`, `IsNobodys`, `stranger_of`)**: each session that no endpoint has is by the
-- model that of a client behind all jobs: any session, with up to four devices. A client of a number that has no
-- session, or whose session an endpoint has, holds nothing.
pub record StrangerStands (t : Ghost) (w : WorldCore) (n : ℕ) : Type 0 where
  -- he has a session, any one, with up to four devices
  pub sits : (session : Session DeviceState) → session_of w.daemon n ≡ Some session → IsNobodys w n
      → (s : RuledSession) × SessionRefines (stranger_of w n) t.system.make w.daemon n t.system.device s
  -- or none, and holds nothing
  pub rests : (session_of w.daemon n ≡ None) ⊎ IsLinked w.endpoints n
      → TableRefines (stranger_of w n) t.system.make [] w.daemon.registry t.system.device

-- **without strangers (`HasNoStrangers`, `IsLinked`)**: each slot of the daemon is for the session of an endpoint.
abbrev pub HasNoStrangers : WorldCore → Type 0
HasNoStrangers w =
    (k : ℕ) (slot : SessionSlot DeviceState) → slice_get w.daemon.slots k ≡ Some (Some slot)
    → IsLinked w.endpoints slot.number

-- where the sources of its device give their rows, the pages that a job started are page views
abbrev pub AreStartedViews : (ℕ → Make) → JobState → Type 0
AreStartedViews make p = (make p.session.job.wants).steady ≡ true
    → AllByRecursion (λ (b : Begin). IsPageView b.page) p.session.started

-- **refines (`WorldRefines`, `EndpointRefines`, `EndpointClientRefines`, `WiresMatch`, `Means`, `IsServed`)**: each
-- job's endpoint is what stands of the job. Its client reads as the client view of the model, and its files are those
-- of its joins. The bytes are those on its connections, and mean what the model has on the way. Its session, if it goes
-- on, is that of the model, and speaks as they do. A frame that streams or is to be ended has no end yet. No two slots
-- are for one session, no two endpoints have one, and a session that no endpoint has is a stranger's. The devices'
-- sources are steady and their pages page views. The places that were shown to a list are those of devices
-- (`AreListedBelow`). What stands by the model is sound.
pub record WorldRefines (t : Ghost) (w : WorldCore) : Type 0 where
  pub sound : Invariant t.system
  pub asks : (i : ℕ) → AsksAsHeld t.system i
  pub shown : (i : ℕ) → AreListedBelow (length t.infos) (t.system.job i).session.shown
  pub is_of : IsOf t w
  pub endpoints : (i : ℕ) (endpoint : Endpoint) → slice_get w.endpoints i ≡ Some endpoint
      → EndpointRefinesAt t w.daemon i endpoint
  pub beyond : (i : ℕ) → length w.endpoints ≤ i → IsNobody t i
  pub strangers : (n : ℕ) → StrangerStands t w n
  pub own : HaveOwn w
  pub links : (i : ℕ) (endpoint : Endpoint) (id : SessionId) → slice_get w.endpoints i ≡ Some endpoint
      → endpoint.link ≡ Some id → id.number < w.daemon.opened
  pub slots : AllByRecursion (IsBelow w.daemon.opened) w.daemon.slots
  pub apart : HaveDifferentNumbers w.daemon.slots
  pub faithful : AreFaithful w.daemon
  pub begun : (i : ℕ) → AreStartedViews t.system.make (t.system.job i)
