-- The daemon's rules: what is answered to a request of a session that goes on, and what that leaves.
use Rattle.std.specs.Prelude.{ℕ, ◌+◌, ◌/◌, ◌≡◌, ◌≢◌, ◌==◌, ◌⊎◌, Bool, true, false, if◌then◌else◌, Option, Some, None}
use Rattle.std.specs.Prelude.{Result, Ok, Err, List, [], ◌++◌, slice_get, codes}
use Rattle.rand_chacha.specs.ChaCha.{ChaCha}
use Rattle.sane_fixed.specs.declared.status.Status.{Status}
use Rattle.sane_fixed.specs.declared.status.Status.TheVariants as statuses
use Rattle.sane_fixed.specs.declared.info.Info.{Info}
use Rattle.sane_fixed.specs.declared.no_mem.NoMem.{NoMem}
use Rattle.sane_fixed.specs.declared.kind.Kind.{Kind}
use Rattle.sane_fixed.specs.declared.frame_format.FrameFormat.TheVariants.{Gray}
use Rattle.sane_fixed.specs.declared.byte_order.ByteOrder.{ByteOrder}
use Rattle.sane_fixed.specs.declared.byte_order.ByteOrder.TheVariants.{Little}
use Rattle.sane_fixed.specs.declared.params.Params.{Params}
use Rattle.option_desc.specs.declared.descriptor.Descriptor.{Descriptor}
use Rattle.option_desc.specs.declared.value.Value.{Value}
use Rattle.option_desc.specs.declared.value.Value.TheVariants as options
use Rattle.device_api.specs.Options.{descriptors_of}
use Rattle.device_api.specs.State.{DeviceState, Starts, get_answer, set_answer, after_set, params_of}
use Rattle.md5_auth.specs.declared.users.Entry.{Entry}
use Rattle.md5_auth.specs.Allowed.{NamesBackend, SentAllows}
use Rattle.md5_auth.specs.Challenges.{HasGiven, challenge_at}
use Rattle.dispatch.specs.Backend.{IsBackendOf}
use Rattle.dispatch.specs.declared.table.place.Lease.{Lease}
use Rattle.dispatch.specs.declared.table.place.Place.{Place}
use Rattle.dispatch.specs.Table.{Table, table, find_name, take_answer, after_take_answer, listed_infos, after_give_back}
use Rattle.wire_message.specs.declared.message.ControlAction.{ControlAction}
use Rattle.wire_message.specs.declared.message.ControlAction.TheVariants.{GetValue, SetValue}
use Rattle.wire_message.specs.declared.message.WireValue.{WireValue}
use Rattle.wire_message.specs.declared.message.Request.{Request}
use Rattle.wire_message.specs.declared.message.Request.TheVariants as requests
use Rattle.wire_message.specs.declared.message.Reply.{Reply}
use Rattle.wire_message.specs.declared.message.Reply.TheVariants as replies
use Rattle.saned_requests.specs.declared.request_answer.RequestAnswer.{RequestAnswer}
use Rattle.saned_requests.specs.declared.request_answer.RequestAnswer.TheVariants.{One, Two, Last}
use Rattle.saned_requests.specs.declared.session.DataPhase.{DataPhase}
use Rattle.saned_requests.specs.declared.session.DataPhase.TheVariants.{Quiet, Waiting, Streaming, Ending}
use Rattle.saned_requests.specs.declared.session.AwaitedAuthorization.{AwaitedAuthorization}
use Rattle.saned_requests.specs.declared.session.Session.{Session}
use Rattle.saned_requests.specs.declared.session.StringSize.{StringSize}
use Rattle.saned_requests.specs.OptionValues.{sent_as, size_of, value_asked}
use Rattle.saned_requests.specs.Holding.{seen_session, held_by, on_word, with_device, free_word, cancelled_lease}

abbrev pub no_mem : NoMem
no_mem = record {}

-- **request context (`RequestContext`)**: what a request may change: its session, the table of devices, and whence the
-- next challenge comes.
pub record RequestContext : Type 0 where
  pub session : Session DeviceState
  pub registry : Table
  pub stream : ChaCha

abbrev pub ContextOutcome : Type 0
ContextOutcome = RequestAnswer × RequestContext

-- the outcome is this one
abbrev pub IsContextOutcome : ContextOutcome → RequestAnswer → RequestContext → Type 0
IsContextOutcome outcome said new = (said ≡ outcome.0) × (new ≡ outcome.1)

abbrev pub Yields : Reply × RequestContext → Reply → RequestContext → Type 0
Yields outcome reply new = (reply ≡ outcome.0) × (new ≡ outcome.1)

abbrev pub with_held : RequestContext → List (Option (Lease DeviceState)) → RequestContext
with_held d held = record d { session = record d.session { held = held } }

abbrev pub with_data_phase : RequestContext → DataPhase → RequestContext
with_data_phase d c = record d { session = record d.session { transfer = c } }

-- the session ends
abbrev pub session_ended : RequestContext → ContextOutcome
session_ended d = (Last None, d)

-- ---- INIT

abbrev pub own_version : ℕ
own_version = 16777219

abbrev pub greeting : ℕ → RequestAnswer
greeting version =
    if version / 16777216 == 1 then One (replies.Init statuses.Good own_version)
    else Last (Some (replies.Init statuses.Inval own_version))

abbrev pub greet : RequestContext → ℕ → ContextOutcome
greet d version = (greeting version, record d { session = record d.session { greeted = true } })

-- ---- OPEN and AUTHORIZE

abbrev pub refusal : Status → Reply
refusal status = replies.Open status 0 []

-- what a take answers, and what it leaves
abbrev pub reply_of_take : RequestContext → ℕ → Result (Lease DeviceState) Status → Reply × RequestContext
reply_of_take d word (Ok lease) = (
  replies.Open statuses.Good word [],
  record d {
    session = record d.session { held = on_word (λ _. Some lease) d.session.held word };
    registry =
        after_take_answer d.registry (Ok lease);
  },
)
reply_of_take d word (Err status) = (refusal status, d)

abbrev pub take_into : RequestContext → List ℕ → Option ℕ → Reply × RequestContext
take_into d name None = (refusal statuses.Unsupported, d)
take_into d name (Some word) = reply_of_take d word (take_answer d.registry name)

abbrev pub take_device : RequestContext → List ℕ → Reply × RequestContext
take_device d name = take_into d name (free_word d.session.held)

-- the text is the next challenge
abbrev pub Challenges : ChaCha → List ℕ → ChaCha → Type 0
Challenges old text new = (seed : List ℕ) (k : ℕ) → HasGiven seed k old
    → (text ≡ challenge_at seed k) × HasGiven seed (k + 1) new

abbrev pub resource_of : List ℕ → List ℕ → List ℕ
resource_of backend challenge = backend ++ (codes "$MD5$" ++ challenge)

-- a users line names the backend: AUTHORIZE is awaited
pub record AsksAuthorization (users : List Entry) (d : RequestContext) (name : List ℕ) (said : RequestAnswer)
    (new : RequestContext) : Type 0 where
  pub backend : List ℕ
  pub challenge : List ℕ
  pub stream : ChaCha
  pub backend_is : IsBackendOf name backend
  pub named : NamesBackend users backend
  pub challenges : Challenges d.stream challenge stream
  pub said_is : said ≡ One (replies.Open statuses.Good 0 (resource_of backend challenge))
  pub new_is : new
      ≡ record d {
        session =
            record d.session { awaited = Some (record { name = name; resource = resource_of backend challenge }) };
        stream =
            stream;
      }

-- nothing was done but that a challenge was drawn, or not even that
abbrev pub Draws : RequestContext → RequestContext → Type 0
Draws d new = (new ≡ d)
    ⊎ ((challenge : List ℕ) × (stream : ChaCha) × Challenges d.stream challenge stream
    × (new ≡ record d { stream = stream }))

-- no users line does: the device is taken at once
pub record OpensNow (users : List Entry) (d : RequestContext) (name : List ℕ) (said : RequestAnswer)
    (new : RequestContext) : Type 0 where
  pub backend : List ℕ
  pub backend_is : IsBackendOf name backend
  pub unnamed : ¬ NamesBackend users backend
  pub taken : IsContextOutcome (One (take_device d name).0, (take_device d name).1) said new

abbrev pub OpensAt : List Entry → RequestContext → List ℕ → Option ℕ → Option ℕ → RequestAnswer → RequestContext
    → Type 0
OpensAt users d name None place said new = IsContextOutcome (One (refusal statuses.Unsupported), d) said new
OpensAt users d name (Some word) None said new = IsContextOutcome (One (refusal statuses.Inval), d) said new
OpensAt users d name (Some word) (Some place) said new = AsksAuthorization users d name said new
    ⊎ OpensNow users d name said new

abbrev pub OpensDevice : List Entry → RequestContext → List ℕ → RequestAnswer → RequestContext → Type 0
OpensDevice users d name said new = OpensAt users d name (free_word d.session.held) (find_name name d.registry) said new

abbrev pub with_awaited : RequestContext → AwaitedAuthorization → RequestContext
with_awaited d awaited = record d { session = record d.session { awaited = Some awaited } }

abbrev pub without_awaited : RequestContext → RequestContext
without_awaited d = record d { session = record d.session { awaited = None } }

abbrev pub reply_if_allowed : Bool → RequestContext → List ℕ → Reply × RequestContext
reply_if_allowed true d name = take_device d name
reply_if_allowed false d name = (refusal statuses.AccessDenied, d)

-- the resource is the one sent, and some line allows the user by the digest sent
abbrev pub MayOpen : List Entry → AwaitedAuthorization → List ℕ → List ℕ → List ℕ → Type 0
MayOpen users awaited resource user password = (resource ≡ awaited.resource)
    × ((backend : List ℕ) × IsBackendOf awaited.name backend × SentAllows users user backend resource password)

pub record Authorizes (users : List Entry) (d : RequestContext) (awaited : AwaitedAuthorization)
    (resource user password : List ℕ) (said : RequestAnswer) (new : RequestContext) : Type 0 where
  pub allowed : Bool
  pub yes_where : allowed ≡ true → MayOpen users awaited resource user password
  pub no_where : allowed ≡ false → ¬ MayOpen users awaited resource user password
  pub gives
      : IsContextOutcome (
        Two replies.Authorize (reply_if_allowed allowed (without_awaited d) awaited.name).0,
        (reply_if_allowed allowed (without_awaited d) awaited.name).1,
      ) said new

-- ---- a device word

abbrev pub data_phase_off : DataPhase → ℕ → DataPhase
data_phase_off Quiet word = Quiet
data_phase_off (Waiting w) word = if w == word then Quiet else Waiting w
data_phase_off (Streaming w) word = if w == word then Ending else Streaming w
data_phase_off Ending word = Ending

abbrev pub close_lease : RequestContext → ℕ → Option (Lease DeviceState) → RequestContext
close_lease d word None = d
close_lease d word (Some lease) =
    record d {
      session =
          record d.session
          { held = on_word (λ _. None) d.session.held word; transfer = data_phase_off d.session.transfer word };
      registry =
          after_give_back d.registry lease;
    }

abbrev pub close : RequestContext → ℕ → ContextOutcome
close d word = (One replies.Close, close_lease d word (held_by d.session.held word))

abbrev pub cancel_held : RequestContext → ℕ → Option (Lease DeviceState) → RequestContext
cancel_held d word None = d
cancel_held d word (Some lease) =
    record d {
      session =
          record d.session
          { held = on_word cancelled_lease d.session.held word; transfer = data_phase_off d.session.transfer word };
    }

abbrev pub cancel : RequestContext → ℕ → ContextOutcome
cancel d word = (One replies.Cancel, cancel_held d word (held_by d.session.held word))

abbrev pub options_of_lease : Option (Lease DeviceState) → List Descriptor
options_of_lease None = []
options_of_lease (Some lease) = descriptors_of lease.device.setup

abbrev pub options_reply : RequestContext → ℕ → ContextOutcome
options_reply d word = (One (replies.GetOptionDescriptors (options_of_lease (held_by d.session.held word))), d)

abbrev pub no_params : Params
no_params =
    record { format = Gray; last_frame = false; bytes_per_line = 0; pixels_per_line = 0; lines = Some 0; depth = 0 }

abbrev pub params_reply_of : Option (Lease DeviceState) → Reply
params_reply_of None = replies.GetParameters statuses.Inval no_params
params_reply_of (Some lease) = replies.GetParameters statuses.Good (params_of lease.device)

abbrev pub params_reply : RequestContext → ℕ → ContextOutcome
params_reply d word = (One (params_reply_of (held_by d.session.held word)), d)

-- ---- CONTROL_OPTION

abbrev pub no_info : Info
no_info = record { 0 = 0 }

-- a refusal gives the request's value back
abbrev pub refused_control : Status → Kind → WireValue → Reply
refused_control status kind value = replies.ControlOption status no_info kind value []

abbrev pub kind_of : Option Descriptor → Kind → Kind
kind_of None kind = kind
kind_of (Some desc) kind = desc.kind

-- a GET tells the option's own type; its value is as long as the session's string values are
abbrev pub got_reply : StringSize → DeviceState → ℕ → Kind → WireValue → Result Value Status → Reply
got_reply strings s n kind value (Ok v) =
    replies.ControlOption statuses.Good no_info (kind_of (slice_get (descriptors_of s.setup) n) kind)
    (sent_as strings (size_of (slice_get (descriptors_of s.setup) n)) v) []
got_reply strings s n kind value (Err status) = refused_control status kind value

-- what a SET answers, and the device behind it
abbrev pub did_set : StringSize → DeviceState → ℕ → Kind → WireValue → Result (Value × Info) Status
    → Reply × DeviceState
did_set strings s n kind value (Ok given) = (
  replies.ControlOption statuses.Good given.1 kind
      (sent_as strings (size_of (slice_get (descriptors_of s.setup) n)) given.0) [],
  after_set s n given.0,
)
did_set strings s n kind value (Err status) = (refused_control status kind value, s)

abbrev pub set_asked : StringSize → DeviceState → ℕ → Kind → WireValue → Option Value → Reply × DeviceState
set_asked strings s n kind value None = (refused_control statuses.Inval kind value, s)
set_asked strings s n kind value (Some asked) = did_set strings s n kind value (set_answer s n asked)

-- an option that is not there has no type to test: the device's own set answers
abbrev pub asked_at : Option Descriptor → Kind → WireValue → Option Value
asked_at None kind value = Some (options.Flag false)
asked_at (Some desc) kind value = value_asked desc kind value

abbrev pub set_at : StringSize → DeviceState → ℕ → Kind → WireValue → Option Descriptor → Reply × DeviceState
set_at strings s n kind value desc = set_asked strings s n kind value (asked_at desc kind value)

abbrev pub control_device : StringSize → DeviceState → ℕ → ControlAction → Kind → WireValue → Reply × DeviceState
control_device strings s n GetValue kind value = (got_reply strings s n kind value (get_answer s n), s)
control_device strings s n SetValue kind value = set_at strings s n kind value (slice_get (descriptors_of s.setup) n)

-- the same of what a word stands for
abbrev pub control_lease : StringSize → Option (Lease DeviceState) → ℕ → ControlAction → Kind → WireValue
    → Reply × Option (Lease DeviceState)
control_lease strings None n action kind value = (refused_control statuses.Inval kind value, None)
control_lease strings (Some lease) n action kind value = (
  (control_device strings lease.device n action kind value).0,
  with_device lease (control_device strings lease.device n action kind value).1,
)

abbrev pub control_held : StringSize → List (Option (Lease DeviceState)) → ℕ → ℕ → ControlAction → Kind → WireValue
    → Reply × List (Option (Lease DeviceState))
control_held strings held word n action kind value = (
  (control_lease strings (held_by held word) n action kind value).0,
  on_word (λ _. (control_lease strings (held_by held word) n action kind value).1) held word,
)

abbrev pub control : RequestContext → ℕ → ℕ → ControlAction → Kind → WireValue → ContextOutcome
control d word n action kind value = (
  One (control_held d.session.strings d.session.held word n action kind value).0,
  with_held d (control_held d.session.strings d.session.held word n action kind value).1,
)

-- the reply is told, or memory runs out for it: then nothing was done, or all of it
abbrev pub GivesReply : {S : Type 0} → Reply × S → Result Reply NoMem → S → S → Type 0
GivesReply outcome (Ok reply) old new = (reply ≡ outcome.0) × (new ≡ outcome.1)
GivesReply outcome (Err _) old new = (new ≡ old) ⊎ (new ≡ outcome.1)

-- ---- START

-- the reply, and where the frame is then
abbrev pub start_reply : Status → ℕ → ByteOrder → Reply
start_reply status port order = replies.Start status port order []

abbrev pub start_answer : DataPhase → ℕ → ℕ → ByteOrder → Result Unit Status → Reply × DataPhase
start_answer c port word order (Ok _) = (start_reply statuses.Good port order, Waiting word)
start_answer c port word order (Err status) = (start_reply status 0 order, c)

-- the device answers, or finds no memory
pub record StartsDevice (c : DataPhase) (port word : ℕ) (lease : Lease DeviceState)
    (told : Result (Reply × DataPhase) NoMem) (new : Option (Lease DeviceState)) : Type 0 where
  pub answer : Result Unit Status
  pub after : DeviceState
  pub starts : Starts lease.device answer after
  pub new_is : new ≡ with_device lease after
  pub told_is : ((answer ≢ Err statuses.NoMem) × (told ≡ Ok (start_answer c port word lease.device.setup.order answer)))
      ⊎ ((answer ≡ Err statuses.NoMem) × (told ≡ Err no_mem))

abbrev pub StartsInDataPhase : DataPhase → ℕ → ℕ → Lease DeviceState → Result (Reply × DataPhase) NoMem
    → Option (Lease DeviceState) → Type 0
StartsInDataPhase Quiet port word lease told new = StartsDevice Quiet port word lease told new
StartsInDataPhase (Waiting w) port word lease told new =
    (told ≡ Ok (start_reply statuses.DeviceBusy 0 lease.device.setup.order, Waiting w)) × (new ≡ Some lease)
StartsInDataPhase (Streaming w) port word lease told new =
    (told ≡ Ok (start_reply statuses.DeviceBusy 0 lease.device.setup.order, Streaming w)) × (new ≡ Some lease)
StartsInDataPhase Ending port word lease told new =
    (told ≡ Ok (start_reply statuses.DeviceBusy 0 lease.device.setup.order, Ending)) × (new ≡ Some lease)

abbrev pub StartsLease : DataPhase → ℕ → ℕ → Option (Lease DeviceState) → Result (Reply × DataPhase) NoMem
    → Option (Lease DeviceState) → Type 0
StartsLease c port word None told new = (told ≡ Ok (start_reply statuses.Inval 0 Little, c)) × (new ≡ None)
StartsLease c port word (Some lease) told new = StartsInDataPhase c port word lease told new

-- the same of a session's device word
pub record StartsWord (d : RequestContext) (word : ℕ) (told : Result (Reply × DataPhase) NoMem)
    (new : RequestContext) : Type 0 where
  pub lease : Option (Lease DeviceState)
  pub starts : StartsLease d.session.transfer d.session.port word (held_by d.session.held word) told lease
  pub new_is : new ≡ with_held d (on_word (λ _. lease) d.session.held word)

-- and of what a session holds
pub record StartsHeld (c : DataPhase) (port : ℕ) (held : List (Option (Lease DeviceState))) (word : ℕ)
    (told : Result (Reply × DataPhase) NoMem) (new : List (Option (Lease DeviceState))) : Type 0 where
  pub lease : Option (Lease DeviceState)
  pub starts : StartsLease c port word (held_by held word) told lease
  pub new_is : new ≡ on_word (λ _. lease) held word

pub record AnswersStart (d : RequestContext) (word : ℕ) (said : RequestAnswer) (new : RequestContext) : Type 0 where
  pub reply : Reply
  pub transfer : DataPhase
  pub held : RequestContext
  pub starts : StartsWord d word (Ok (reply, transfer)) held
  pub gives : IsContextOutcome (One reply, with_data_phase held transfer) said new

-- ---- all requests

abbrev pub devices_answer : Table → RequestAnswer
devices_answer registry = One (replies.GetDevices statuses.Good (listed_infos registry))

abbrev pub devices_reply : RequestContext → ContextOutcome
devices_reply d = (devices_answer d.registry, d)

-- a session that was greeted, and awaits no AUTHORIZE
abbrev pub AnswersFree : List Entry → RequestContext → Request → RequestAnswer → RequestContext → Type 0
AnswersFree users d (requests.Init version user) said new = IsContextOutcome (greet d version) said new
AnswersFree users d requests.GetDevices said new = IsContextOutcome (devices_reply d) said new
AnswersFree users d (requests.Open name) said new = OpensDevice users d name said new
AnswersFree users d (requests.Close word) said new = IsContextOutcome (close d word) said new
AnswersFree users d (requests.GetOptionDescriptors word) said new = IsContextOutcome (options_reply d word) said new
AnswersFree users d (requests.ControlOption word option action kind value) said new =
    IsContextOutcome (control d word option action kind value) said new
AnswersFree users d (requests.GetParameters word) said new = IsContextOutcome (params_reply d word) said new
AnswersFree users d (requests.Start word) said new = AnswersStart d word said new
AnswersFree users d (requests.Cancel word) said new = IsContextOutcome (cancel d word) said new
AnswersFree users d (requests.Authorize resource user password) said new = IsContextOutcome (session_ended d) said new
AnswersFree users d requests.Exit said new = IsContextOutcome (session_ended d) said new

-- AUTHORIZE alone is answered while it is awaited
abbrev pub AnswersAwaiting : List Entry → RequestContext → AwaitedAuthorization → Request → RequestAnswer
    → RequestContext → Type 0
AnswersAwaiting users d awaited (requests.Authorize resource user password) said new =
    Authorizes users d awaited resource user password said new
AnswersAwaiting users d awaited _ said new = IsContextOutcome (session_ended d) said new

abbrev pub AnswersGreeted : List Entry → RequestContext → Option AwaitedAuthorization → Request → RequestAnswer
    → RequestContext → Type 0
AnswersGreeted users d None request said new = AnswersFree users d request said new
AnswersGreeted users d (Some awaited) request said new = AnswersAwaiting users d awaited request said new

-- the first request is INIT
abbrev pub first_answer : RequestContext → Request → ContextOutcome
first_answer d (requests.Init version user) = greet d version
first_answer d _ = session_ended d

abbrev pub AnswersBy : Bool → List Entry → RequestContext → Request → RequestAnswer → RequestContext → Type 0
AnswersBy false users d request said new = IsContextOutcome (first_answer d request) said new
AnswersBy true users d request said new = AnswersGreeted users d d.session.awaited request said new

-- **answers (`Answers`)**: what is said to a request and what it leaves, by whether the session was greeted, whether
-- AUTHORIZE is awaited, and the request; one definition for each request. Said is one reply, AUTHORIZE's two, or the
-- session ends with it.
abbrev pub Answers : List Entry → RequestContext → Request → RequestAnswer → RequestContext → Type 0
Answers users d request said new = AnswersBy d.session.greeted users d request said new

-- the request context of a session, with each device seen as its state
abbrev pub request_context : {D : Type 0} → (D → DeviceState) → Session D → List (Place D) → ChaCha → RequestContext
request_context f session registry stream =
    record { session = seen_session f session; registry = table f registry; stream = stream }

-- ---- out of memory

-- what a lack of memory leaves of a request, by whether it takes any
abbrev pub OutOfMemoryFree : RequestContext → Request → RequestContext → Type 0
OutOfMemoryFree d requests.GetDevices new = new ≡ d
OutOfMemoryFree d (requests.Open name) new = Draws d new
OutOfMemoryFree d (requests.GetOptionDescriptors word) new = new ≡ d
OutOfMemoryFree d (requests.ControlOption word option action kind value) new = (new ≡ d)
    ⊎ (new ≡ (control d word option action kind value).1)
OutOfMemoryFree d (requests.Start word) new = StartsWord d word (Err no_mem) new
OutOfMemoryFree d _ new = ⊥

abbrev pub OutOfMemoryGreeted : RequestContext → Option AwaitedAuthorization → Request → RequestContext → Type 0
OutOfMemoryGreeted d None request new = OutOfMemoryFree d request new
OutOfMemoryGreeted d (Some awaited) request new = ⊥

abbrev pub OutOfMemoryBy : Bool → RequestContext → Request → RequestContext → Type 0
OutOfMemoryBy false d request new = ⊥
OutOfMemoryBy true d request new = OutOfMemoryGreeted d d.session.awaited request new

-- **out of memory (`OutOfMemoryAt`)**: what a request leaves when it runs out of memory: nothing was done, except that
-- OPEN may have drawn a challenge, SET may have been made, and START leaves the device at rest.
abbrev pub OutOfMemoryAt : RequestContext → Request → RequestContext → Type 0
OutOfMemoryAt d request new = OutOfMemoryBy d.session.greeted d request new

-- Where memory ran out for a request: while it was answered, or for the bytes of its replies, when all was done. The
-- session ends then.
pub data RequestOutOfMemory (users : List Entry) (d : RequestContext) (request : Request)
    (new : RequestContext) : Type 0 where
  Under : OutOfMemoryAt d request new → RequestOutOfMemory users d request new
  All : (said : RequestAnswer) → Answers users d request said new → RequestOutOfMemory users d request new
