-- A request of a session that was greeted, as a call by the model.
use Rattle.std.specs.Prelude.{ℕ, ◌≡◌, ◌/◌, true, Option, Some, None, List}
use Rattle.md5_auth.specs.declared.users.Entry.{Entry}
use Rattle.option_desc.specs.declared.value.Value.{Value}
use Rattle.wire_message.specs.declared.message.ControlAction.TheVariants.{GetValue, SetValue}
use Rattle.wire_message.specs.declared.message.Request.{Request as Asked}
use Rattle.wire_message.specs.declared.message.Request.TheVariants as requests
use Rattle.saned_requests.specs.declared.request_answer.RequestAnswer.{RequestAnswer}
use Rattle.saned_requests.specs.declared.session.AwaitedAuthorization.{AwaitedAuthorization}
use Rattle.saned_requests.specs.Holding.{held_by}
use Rattle.saned_requests.specs.RequestAnswers.{Answers, RequestContext, MayOpen}
use Rattle.system_model.specs.AbstractMessages.{Authorize, Cancel, Challenge, Close, Describe, Exit, Get, GetDevices}
use Rattle.system_model.specs.AbstractMessages.{Init, Open, Parameters, AbstractRequest, Set, Start, same_text}
use Rattle.system_model.specs.Devices.{Make}
use Rattle.system_model.specs.AbstractDevices.{AbstractDevice}
use Rattle.system_model.specs.Daemon.{Environment, FailureCounts}
use Rattle.system_model.specs.SystemStates.{with_entry}
use Rattle.system_model.specs.AbstractSessions.{AddressedRequest, AbstractSession, answer_call}
use Rattle.daemon_refines.specs.ContextRefinement.{Names, ContextRefines}
use Rattle.daemon_refines.specs.Agreeing.{Agrees, manner}
use Rattle.daemon_refines.specs.DeviceWords.{AsksFor, MayFailAt}
use Rattle.daemon_refines.specs.Failures.{IsCounted}
use Rattle.daemon_refines.specs.WholeSessions.{IsGuardedAt, IsJudged, IsOtherRequest}

-- the device word that a request has
abbrev pub device_word_of : Asked → ℕ
device_word_of (requests.Close word) = word
device_word_of (requests.GetOptionDescriptors word) = word
device_word_of (requests.ControlOption word option action kind value) = word
device_word_of (requests.GetParameters word) = word
device_word_of (requests.Start word) = word
device_word_of (requests.Cancel word) = word
device_word_of _ = 0

abbrev pub IsFor : AbstractRequest → ℕ → AddressedRequest → Type 0
IsFor request word call = (call.request ≡ request) × (call.word ≡ word)

-- INIT is of the daemon's major, OPEN is for the place of its name, and the value of a SET is of its option's type
abbrev pub IsFreeCall : List Entry → RequestContext → (ℕ → AbstractDevice) → Asked → AddressedRequest
    → (ℕ → Environment) → Type 0
IsFreeCall users d table (requests.Init version user) call x = (call.request ≡ Init) × (version / 16777216 ≡ 1)
IsFreeCall users d table requests.GetDevices call x = call.request ≡ GetDevices
IsFreeCall users d table (requests.Open name) call x = (call.request ≡ Open) × Names name d.registry table call.place
    × IsGuardedAt users d name (x call.place).guarded
IsFreeCall users d table (requests.Close word) call x = IsFor Close word call
IsFreeCall users d table (requests.GetOptionDescriptors word) call x = IsFor Describe word call
IsFreeCall users d table (requests.ControlOption word n GetValue kind value) call x = IsFor (Get n) word call
IsFreeCall users d table (requests.ControlOption word n SetValue kind value) call x = (v : Value)
    × AsksFor (held_by d.session.held word) n kind value v × IsFor (Set n v) word call
IsFreeCall users d table (requests.GetParameters word) call x = IsFor Parameters word call
IsFreeCall users d table (requests.Start word) call x = IsFor Start word call
IsFreeCall users d table (requests.Cancel word) call x = IsFor Cancel word call
IsFreeCall users d table (requests.Authorize resource user password) call x = (answer : Challenge)
    × (call.request ≡ Authorize answer)
IsFreeCall users d table requests.Exit call x = call.request ≡ Exit

-- while AUTHORIZE is awaited, for the challenge that was sent and its place
abbrev pub IsAwaitedCall : List Entry → AwaitedAuthorization → Challenge → ℕ → Asked → AddressedRequest
    → (ℕ → Environment) → Type 0
IsAwaitedCall users awaited sent place (requests.Authorize resource user password) call x =
    (answer : Challenge) × (call.request ≡ Authorize answer)
    × IsJudged (MayOpen users awaited resource user password) (same_text answer sent) ((x place).allows sent)
IsAwaitedCall users awaited sent place _ call x = IsOtherRequest call.request

abbrev pub IsCallBy : List Entry → RequestContext → (ℕ → AbstractDevice) → Option AwaitedAuthorization
    → Option (Challenge × ℕ) → Asked → AddressedRequest → (ℕ → Environment) → Type 0
IsCallBy users d table None sent q call x = IsFreeCall users d table q call x
IsCallBy users d table (Some awaited) None q call x = ⊥
IsCallBy users d table (Some awaited) (Some (sent, place)) q call x = IsAwaitedCall users awaited sent place q call x

-- **call of a request (`IsCall`)**: the request as the model has it, at its word and its place: an INIT of the daemon's
-- major; a SET whose value is of its option's type; an OPEN, and whether a users line names its backend; an AUTHORIZE,
-- and whether it is allowed.
abbrev pub IsCall : List Entry → RequestContext → (ℕ → AbstractDevice) → AbstractSession → Asked → AddressedRequest
    → (ℕ → Environment) → Type 0
IsCall users d table s q call x = IsCallBy users d table d.session.awaited s.awaited q call x

-- the surroundings, with what chance brings at a place
abbrev pub with_chance : (ℕ → Environment) → ℕ → Challenge → Option FailureCounts → ℕ → Environment
with_chance x place challenge fault = with_entry x place (record (x place) { challenge = challenge; fault = fault })

-- some challenge is drawn, and the page's source fails and counts that, or not
pub record RequestServed (i : ℕ) (make : ℕ → Make) (d : RequestContext) (table : ℕ → AbstractDevice)
    (s : AbstractSession) (q : Asked) (call : AddressedRequest) (x : ℕ → Environment) (said : RequestAnswer)
    (new : RequestContext) : Type 0 where
  pub challenge : Challenge
  pub fault : Option FailureCounts
  pub may : MayFailAt make (s.words call.word) fault
  pub counted : IsCounted d.session.held new.session.held call.word fault
  pub agrees
      : Agrees i make (manner d (device_word_of q)) q
      (answer_call i make table s (with_chance x call.place challenge fault) s.awaited call) said new

-- any request that is a call is answered as the model says
abbrev pub RequestsAgree : Type 0
RequestsAgree =
    (i : ℕ) (make : ℕ → Make) (users : List Entry) (d : RequestContext) (table : ℕ → AbstractDevice)
    (s : AbstractSession) (q : Asked) (call : AddressedRequest) (x : ℕ → Environment) (said : RequestAnswer)
    (new : RequestContext) →
    ContextRefines i make d table s → d.session.greeted ≡ true → IsCall users d table s q call x
    → Answers users d q said new → RequestServed i make d table s q call x said new
