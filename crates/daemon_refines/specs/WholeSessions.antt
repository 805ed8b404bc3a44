-- Requests to a whole session, by the daemon and by the model.
use Rattle.std.specs.Prelude.{ℕ, ◌≡◌, ◌≢◌, ◌⊎◌, ◌/◌, ◌+◌, ◌∷◌, Bool, true, false, Some, None, List, [], if◌then◌else◌}
use Rattle.sane_fixed.specs.declared.status.Status.TheVariants as code
use Rattle.sane_fixed.specs.declared.device_info.DeviceInfo.{DeviceInfo}
use Rattle.md5_auth.specs.declared.users.Entry.{Entry}
use Rattle.md5_auth.specs.Allowed.{NamesBackend}
use Rattle.dispatch.specs.Backend.{IsBackendOf}
use Rattle.dispatch.specs.Table.{Table, find_name, listed_infos}
use Rattle.wire_message.specs.declared.message.Request.{Request as Asked}
use Rattle.wire_message.specs.declared.message.Request.TheVariants as requests
use Rattle.wire_message.specs.declared.message.Reply.TheVariants as replies
use Rattle.saned_requests.specs.declared.request_answer.RequestAnswer.{RequestAnswer}
use Rattle.saned_requests.specs.declared.request_answer.RequestAnswer.TheVariants.{Last}
use Rattle.saned_requests.specs.declared.session.AwaitedAuthorization.{AwaitedAuthorization}
use Rattle.saned_requests.specs.Holding.{free_word}
use Rattle.saned_requests.specs.RequestAnswers.{Authorizes, RequestContext, MayOpen, OpensDevice, devices_reply, greet}
use Rattle.saned_requests.specs.RequestAnswers.{session_ended, own_version}
use Rattle.saned_core.specs.Feeding.{table_let_go}
use Rattle.system_model.specs.AbstractMessages.{Authorize, Challenge, Exit, GetDevices, Init, Open, AbstractRequest}
use Rattle.system_model.specs.AbstractMessages.{same_text}
use Rattle.system_model.specs.Devices.{Make}
use Rattle.system_model.specs.AbstractDevices.{AbstractDevice}
use Rattle.system_model.specs.Daemon.{Environment}
use Rattle.system_model.specs.AbstractSessions.{AddressedRequest, AbstractSession, all_over, answer_call}
use Rattle.daemon_refines.specs.ContextRefinement.{Names, ContextRefines, TableRefines}
use Rattle.daemon_refines.specs.Agreeing.{Agrees, AgreesOn, manner}

-- INIT of the major that is the daemon's own; the model has no other
abbrev pub InitAgrees : Type 0
InitAgrees =
    (i : ℕ) (make : ℕ → Make) (d : RequestContext) (table : ℕ → AbstractDevice) (s : AbstractSession)
    (x : ℕ → Environment) (version word place : ℕ) (user : List ℕ) →
    ContextRefines i make d table s → d.session.awaited ≡ None → version / 16777216 ≡ 1 →
    AgreesOn i make d word (requests.Init version user)
    (answer_call i make table s x None (record { request = Init; word = word; place = place })) (greet d version)

-- another ends the session, as every end does by the model
pub record GreetsNobody (i : ℕ) (make : ℕ → Make) (d : RequestContext) (table : ℕ → AbstractDevice)
    (s : AbstractSession) (version : ℕ) : Type 0 where
  pub said : (greet d version).0 ≡ Last (Some (replies.Init code.Inval own_version))
  pub ends : TableRefines i make [] (table_let_go (greet d version).1) (all_over i table s).table

abbrev pub InitEnds : Type 0
InitEnds =
    (i : ℕ) (make : ℕ → Make) (d : RequestContext) (table : ℕ → AbstractDevice) (s : AbstractSession) (version : ℕ)
    → ContextRefines i make d table s → version / 16777216 ≢ 1 →
    GreetsNobody i make d table s version

-- GET_DEVICES
abbrev pub DevicesAgree : Type 0
DevicesAgree =
    (i : ℕ) (make : ℕ → Make) (d : RequestContext) (table : ℕ → AbstractDevice) (s : AbstractSession)
    (x : ℕ → Environment) (word place : ℕ) →
    ContextRefines i make d table s → d.session.awaited ≡ None →
    AgreesOn i make d word requests.GetDevices
    (answer_call i make table s x None (record { request = GetDevices; word = word; place = place }))
    (devices_reply d)

-- what is told of the places that are listed by the model
abbrev pub infos_for : (ℕ → AbstractDevice) → ℕ → Table → List DeviceInfo
infos_for table k [] = []
infos_for table k (p ∷ t) = if (table k).listed then p.info ∷ infos_for table (k + 1) t else infos_for table (k + 1) t

-- the devices that are told are those of the places that the model lists
abbrev pub ListsAgree : Type 0
ListsAgree =
    (i : ℕ) (make : ℕ → Make) (d : RequestContext) (table : ℕ → AbstractDevice) (s : AbstractSession)
    → ContextRefines i make d table s → listed_infos d.registry ≡ infos_for table 0 d.registry

-- EXIT, an AUTHORIZE that nothing asked for, and any other request while it is awaited end the session
abbrev pub IsLast : AbstractRequest → Type 0
IsLast Exit = Unit {0}
IsLast (Authorize challenge) = Unit {0}
IsLast _ = ⊥

abbrev pub IsOtherRequest : AbstractRequest → Type 0
IsOtherRequest (Authorize challenge) = ⊥
IsOtherRequest _ = Unit {0}

abbrev pub EndsAgree : Type 0
EndsAgree =
    (i : ℕ) (make : ℕ → Make) (d : RequestContext) (table : ℕ → AbstractDevice) (s : AbstractSession)
    (x : ℕ → Environment) (call : AddressedRequest) (q : Asked) (word : ℕ) →
    ContextRefines i make d table s → IsLast call.request
    → AgreesOn i make d word q (answer_call i make table s x None call) (session_ended d)

abbrev pub OthersEnd : Type 0
OthersEnd =
    (i : ℕ) (make : ℕ → Make) (d : RequestContext) (table : ℕ → AbstractDevice) (s : AbstractSession)
    (x : ℕ → Environment) (call : AddressedRequest) (q : Asked) (word : ℕ) (sent : Challenge) (p : ℕ) →
    ContextRefines i make d table s → IsOtherRequest call.request
    → AgreesOn i make d word q (answer_call i make table s x (Some (sent, p)) call) (session_ended d)

-- whether a users line names the backend of this name
abbrev pub IsGuarded : List Entry → List ℕ → Bool → Type 0
IsGuarded users name true = (backend : List ℕ) → IsBackendOf name backend → NamesBackend users backend
IsGuarded users name false = (backend : List ℕ) → IsBackendOf name backend → ¬ NamesBackend users backend

-- it matters where a word is free and the name is listed
abbrev pub IsGuardedAt : List Entry → RequestContext → List ℕ → Bool → Type 0
IsGuardedAt users d name guarded = free_word d.session.held ≢ None → find_name name d.registry ≢ None
    → IsGuarded users name guarded

-- OPEN: with the challenge that was drawn, if one was
abbrev pub OpenAgrees : Type 0
OpenAgrees =
    (i : ℕ) (make : ℕ → Make) (users : List Entry) (d : RequestContext) (table : ℕ → AbstractDevice)
    (s : AbstractSession) (name : List ℕ) (word place : ℕ) (said : RequestAnswer) (new : RequestContext) →
    ContextRefines i make d table s → d.session.awaited ≡ None → Names name d.registry table place
    → OpensDevice users d name said new →
    (challenge : Challenge)
    × ((x : ℕ → Environment) → (x place).challenge ≡ challenge → IsGuardedAt users d name (x place).guarded →
    Agrees i make (manner d word) (requests.Open name)
    (answer_call i make table s x None (record { request = Open; word = word; place = place })) said new)

-- the answer is to the challenge that was sent, and is allowed, just where the daemon lets it
pub record IsJudged (may : Type 0) (same allows : Bool) : Type 0 where
  pub yes_where : may → (same ≡ true) × (allows ≡ true)
  pub no_where : ¬ may → (same ≡ false) ⊎ (allows ≡ false)

-- AUTHORIZE that is awaited
abbrev pub AuthorizeAgrees : Type 0
AuthorizeAgrees =
    (i : ℕ) (make : ℕ → Make) (users : List Entry) (d : RequestContext) (table : ℕ → AbstractDevice)
    (s : AbstractSession) (awaited : AwaitedAuthorization) (resource user password : List ℕ) (answer sent : Challenge)
    (word place at : ℕ) (said : RequestAnswer) (new : RequestContext) (x : ℕ → Environment) →
    ContextRefines i make d table s → d.session.awaited ≡ Some awaited → s.awaited ≡ Some (sent, place) →
    IsJudged (MayOpen users awaited resource user password) (same_text answer sent) ((x place).allows sent) →
    Authorizes users d awaited resource user password said new →
    Agrees i make (manner d word) (requests.Authorize resource user password)
    (answer_call i make table s x (Some (
      sent,
      place,
    )) (record { request = Authorize answer; word = word; place = at })) said new
