-- A piece of bytes for a session: its requests, one after another, by the model.
use Rattle.std.specs.Prelude.{ℕ, ◌≡◌, ◌⊎◌, true, Option, None, List, [], ◌∷◌}
use Rattle.md5_auth.specs.declared.users.Entry.{Entry}
use Rattle.sane_fixed.specs.declared.kind.Kind.{Kind}
use Rattle.sane_fixed.specs.declared.status.Status.TheVariants as code
use Rattle.wire_message.specs.declared.message.ControlAction.TheVariants.{SetValue}
use Rattle.wire_message.specs.declared.message.Request.{Request as Asked}
use Rattle.wire_message.specs.declared.message.Request.TheVariants as requests
use Rattle.wire_message.specs.declared.message.WireValue.{WireValue}
use Rattle.saned_requests.specs.declared.request_answer.RequestAnswer.{RequestAnswer}
use Rattle.saned_requests.specs.declared.request_answer.RequestAnswer.TheVariants.{One}
use Rattle.saned_requests.specs.Holding.{held_by}
use Rattle.saned_requests.specs.RequestAnswers.{RequestContext, refused_control}
use Rattle.saned_core.specs.declared.session_slot.Fed.{Fed}
use Rattle.saned_core.specs.declared.session_slot.Fed.TheVariants.{Standing, Over, Starved}
use Rattle.saned_core.specs.Feeding as daemon
use Rattle.saned_core.specs.Feeding.{DecodesRequests}
use Rattle.saned_core.specs.Inside.{FeedsContext}
use Rattle.system_model.specs.AbstractMessages.{Challenge}
use Rattle.system_model.specs.Devices.{Make}
use Rattle.system_model.specs.AbstractDevices.{AbstractDevice, device_let_go}
use Rattle.system_model.specs.Daemon.{Environment, FailureCounts}
use Rattle.system_model.specs.AbstractSessions.{AddressedRequest, FullEffect, AbstractSession, answer_call}
use Rattle.daemon_refines.specs.ContextRefinement.{ContextRefines, TableRefines}
use Rattle.daemon_refines.specs.Agreeing.{Agrees, manner}
use Rattle.daemon_refines.specs.DeviceWords.{AsksNone, MayFailAt}
use Rattle.daemon_refines.specs.Failures.{IsCounted}
use Rattle.daemon_refines.specs.ModelRequests.{IsCall, with_chance, device_word_of}
use Rattle.daemon_refines.specs.OtherSessions.{LeavesOthers}

-- it was greeted, or awaits nothing
abbrev pub IsSessionBegun : RequestContext → Type 0
IsSessionBegun d = (d.session.greeted ≡ true) ⊎ (d.session.awaited ≡ None)

-- what comes of a call by the model, with this challenge and this fault
abbrev pub effect_by_model : ℕ → (ℕ → Make) → (ℕ → AbstractDevice) → AbstractSession → (ℕ → Environment)
    → AddressedRequest → Challenge → Option FailureCounts → FullEffect
effect_by_model i make table s x call challenge fault =
    answer_call i make table s (with_chance x call.place challenge fault) s.awaited call

-- a request that the session goes on behind: it is a call by the model, or a SET whose value is not of its option's
-- type
pub data ServesRequest (i : ℕ) (make : ℕ → Make) (users : List Entry) (d : RequestContext) (table : ℕ → AbstractDevice)
    (s : AbstractSession) (q : Asked) (said : RequestAnswer) (new : RequestContext) (t : ℕ → AbstractDevice)
    (u : AbstractSession) : Type 0 where
  ByTheRules : (call : AddressedRequest) → (x : ℕ → Environment) → (challenge : Challenge)
      → (fault : Option FailureCounts) → IsCall users d table s q call x → MayFailAt make (s.words call.word) fault
      → IsCounted d.session.held new.session.held call.word fault →
      Agrees i make (manner d (device_word_of q)) q (effect_by_model i make table s x call challenge fault) said new →
      t ≡ (effect_by_model i make table s x call challenge fault).table
      → u ≡ (effect_by_model i make table s x call challenge fault).session
      → ServesRequest i make users d table s q said new t u
  OfAnotherType : (word n : ℕ) → (kind : Kind) → (value : WireValue)
      → q ≡ requests.ControlOption word n SetValue kind value → AsksNone (held_by d.session.held word) n kind value →
      said ≡ One (refused_control code.Inval kind value) → new ≡ d → t ≡ table → u ≡ s
      → ServesRequest i make users d table s q said new t u

-- **fed (`ServesRequests`, `SessionContinues`, `EndsSession`, `IsFed`)**: requests come one after another. Each is a
-- call by the model or a SET of another type, and the request context is shown behind each. The session goes on behind
-- them, or it ended behind them or behind one more, with all given back.
abbrev pub ServesRequests : ℕ → (ℕ → Make) → List Entry → RequestContext → (ℕ → AbstractDevice) → AbstractSession
    → List Asked → RequestContext → (ℕ → AbstractDevice) → AbstractSession → Type 0
ServesRequests i make users d table s [] new t u = (new ≡ d) × (t ≡ table) × (u ≡ s)
ServesRequests i make users d table s (q ∷ qs) new t u =
    (said : RequestAnswer) × (mid : RequestContext) × (devices : ℕ → AbstractDevice) × (session : AbstractSession)
    × ServesRequest i make users d table s q said mid devices session × ContextRefines i make mid devices session
    × ServesRequests i make users mid devices session qs new t u

-- the session goes on: the request context behind the requests is shown again, and others are left what they hold
pub record SessionContinues (i : ℕ) (make : ℕ → Make) (users : List Entry) (d : RequestContext)
    (table : ℕ → AbstractDevice) (s : AbstractSession) (asked : List Asked) (new : RequestContext) : Type 0 where
  pub devices : ℕ → AbstractDevice
  pub session : AbstractSession
  pub runs : ServesRequests i make users d table s asked new devices session
  pub shows : ContextRefines i make new devices session
  pub begun : IsSessionBegun new
  pub others : LeavesOthers i d.registry new.registry table devices

-- the devices, once one more request was served, or as they were
pub data ClosesSession (i : ℕ) (make : ℕ → Make) (users : List Entry) (d : RequestContext) (table : ℕ → AbstractDevice)
    (s : AbstractSession) (new : RequestContext) (t : ℕ → AbstractDevice) : Type 0 where
  AtOnce : t ≡ table → ClosesSession i make users d table s new t
  BehindOne : (q : Asked) → (said : RequestAnswer) → (u : AbstractSession)
      → ServesRequest i make users d table s q said new t u → ClosesSession i make users d table s new t

-- the session is over: all that it holds is given back, and others are left what they hold
pub record EndsSession (i : ℕ) (make : ℕ → Make) (users : List Entry) (d : RequestContext) (table : ℕ → AbstractDevice)
    (s : AbstractSession) (asked : List Asked) (new : RequestContext) : Type 0 where
  pub mid : RequestContext
  pub so_far : SessionContinues i make users d table s asked mid
  pub devices : ℕ → AbstractDevice
  pub closes : ClosesSession i make users mid so_far.devices so_far.session new devices
  pub back : TableRefines i make [] (daemon.table_let_go new) (λ k. device_let_go i (devices k))
  pub others : LeavesOthers i d.registry (daemon.table_let_go new) table (λ k. device_let_go i (devices k))

-- by what becomes of the session
abbrev pub IsFed : Fed → ℕ → (ℕ → Make) → List Entry → RequestContext → (ℕ → AbstractDevice) → AbstractSession → List ℕ
    → List ℕ → List ℕ → RequestContext → Type 0
IsFed Standing i make users d table s old piece rest new = (asked : List Asked) × DecodesRequests old piece asked rest
    × SessionContinues i make users d table s asked new
IsFed Over i make users d table s old piece rest new = (left : List ℕ) × (asked : List Asked)
    × DecodesRequests old piece asked left × EndsSession i make users d table s asked new
IsFed Starved i make users d table s old piece rest new = (left : List ℕ) × (asked : List Asked)
    × DecodesRequests old piece asked left × EndsSession i make users d table s asked new

-- whatever bytes come, also where memory runs out
abbrev pub FeedsAgree : Type 0
FeedsAgree =
    (i : ℕ) (make : ℕ → Make) (users : List Entry) (d : RequestContext) (table : ℕ → AbstractDevice)
    (s : AbstractSession) (old piece rest text : List ℕ) (fed : Fed) (new : RequestContext) →
    ContextRefines i make d table s → IsSessionBegun d
    → FeedsContext fed (record { users = users; context = d; before = old; piece = piece })
    (record { context = new; rest = rest; text = text }) → IsFed fed i make users d table s old piece rest new
