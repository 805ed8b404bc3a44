-- The sessions of a daemon, each as a session of a client by the model.
use Rattle.std.specs.Prelude.{ℕ, ◌≡◌, ◌≢◌, Option, Some, None, List, [], slice_get, false}
use Rattle.sane_fixed.specs.declared.byte_order.ByteOrder.TheVariants.{Little}
use Rattle.page_picture.specs.declared.scene.DeviceKind.TheVariants.{Flatbed}
use Rattle.rand_chacha.specs.ChaCha.{ChaCha}
use Rattle.md5_auth.specs.declared.users.Entry.{Entry}
use Rattle.device_api.specs.State.{DeviceState, after_reset}
use Rattle.device_api.specs.Values as values
use Rattle.dispatch.specs.Table.{Table, fresh_table}
use Rattle.saned_requests.specs.declared.session.Session.{Session as RequestSession}
use Rattle.saned_requests.specs.declared.session.StringSize.{StringSize}
use Rattle.saned_requests.specs.Holding.{fresh_session}
use Rattle.saned_requests.specs.RequestAnswers.{RequestContext}
use Rattle.saned_core.specs.declared.session_slot.Fed.{Fed}
use Rattle.saned_core.specs.declared.session_slot.Fed.TheVariants.{Standing, Over, Starved}
use Rattle.saned_core.specs.DaemonStates.{Core, session_slot_of, session_of}
use Rattle.saned_core.specs.Feeding.{Feeds, core_context, input_in}
use Rattle.system_model.specs.Devices.{Make}
use Rattle.system_model.specs.AbstractDevices.{AbstractDevice, Resting, device_let_go}
use Rattle.system_model.specs.Daemon.{Quiet}
use Rattle.system_model.specs.AbstractSessions.{AbstractSession}
use Rattle.daemon_refines.specs.ContextRefinement.{ContextRefines, HaveSources, TableRefines, abstract_device}
use Rattle.daemon_refines.specs.ContextRefinement.{abstract_device_as}
use Rattle.daemon_refines.specs.Feeds.{IsSessionBegun, IsFed}

-- ---- what stands at the beginning

-- the devices of a new registry; past the last no device is listed
abbrev pub fresh_device : Option DeviceState → AbstractDevice
fresh_device None = record (abstract_device_as None (values.defaults Flatbed Little) [] Resting) { listed = false }
fresh_device (Some s) = abstract_device None (after_reset s)

abbrev pub fresh_devices : List DeviceState → ℕ → AbstractDevice
fresh_devices ss k = fresh_device (slice_get ss k)

-- each is of the kind and the byte order that never change, and its pages' sources are such as is said of them
pub record IsOfMake (make : Make) (s : DeviceState) : Type 0 where
  pub sources : HaveSources make s.pages
  pub kind : make.model ≡ s.setup.scene.kind
  pub order : make.order ≡ s.setup.order

-- a new registry shows its devices, held by nobody
abbrev pub RegistriesRefine : Type 0
RegistriesRefine =
    (i : ℕ) (make : ℕ → Make) (ss : List DeviceState)
    → ((k : ℕ) (s : DeviceState) → slice_get ss k ≡ Some s → IsOfMake (make k) s)
    → TableRefines i make [] (fresh_table ss) (fresh_devices ss)

-- a session that was just opened
abbrev pub new_session : AbstractSession
new_session = record { words = λ w. None; transfer = Quiet; framed = 0; awaited = None }

-- it is shown where nothing is held by its client
abbrev pub OpeningsRefine : Type 0
OpeningsRefine =
    (i : ℕ) (make : ℕ → Make) (strings : StringSize) (port : ℕ) (registry : Table) (stream : ChaCha)
    (table : ℕ → AbstractDevice) → TableRefines i make [] registry table →
    ContextRefines i make (record { session = fresh_session strings port; registry = registry; stream = stream }) table
    new_session

-- ---- a piece for one of the sessions

-- **a daemon's session (`SessionRefines`, `CoreFed`, `SessionRefinesAs`)**: the session of a number is shown, with the
-- table and the challenges that all share. A piece for it, or another call, makes this of it and of the others.
--
-- the session of that number is this one of client i
pub record SessionRefines (i : ℕ) (make : ℕ → Make) (core : Core) (n : ℕ) (table : ℕ → AbstractDevice)
    (s : AbstractSession) : Type 0 where
  pub session : RequestSession DeviceState
  pub stands : session_of core n ≡ Some session
  pub shows : ContextRefines i make (core_context core session) table s
  pub begun : IsSessionBegun (core_context core session)

-- the devices behind a piece
abbrev pub devices_behind : (fed : Fed) (i : ℕ) (make : ℕ → Make) (users : List Entry) (d : RequestContext)
    (table : ℕ → AbstractDevice) (s : AbstractSession) (old piece rest : List ℕ) (new : RequestContext)
    → IsFed fed i make users d table s old piece rest new → ℕ → AbstractDevice
devices_behind Standing i make users d table s old piece rest new ran k = ran.2.devices k
devices_behind Over i make users d table s old piece rest new ran k = device_let_go i (ran.3.devices k)
devices_behind Starved i make users d table s old piece rest new ran k = device_let_go i (ran.3.devices k)

-- its session goes on, or all that it held is given back
abbrev pub RefinesAfterFeed : Fed → ℕ → (ℕ → Make) → Core → ℕ → (ℕ → AbstractDevice) → Type 0
RefinesAfterFeed Standing i make new n devices = (s : AbstractSession) × SessionRefines i make new n devices s
RefinesAfterFeed Over i make new n devices = TableRefines i make [] new.registry devices
RefinesAfterFeed Starved i make new n devices = TableRefines i make [] new.registry devices

pub record CoreFed (i : ℕ) (make : ℕ → Make) (n : ℕ) (old : Core) (session : RequestSession DeviceState)
    (table : ℕ → AbstractDevice) (s : AbstractSession) (piece : List ℕ) (fed : Fed) (new : Core) : Type 0 where
  pub context : RequestContext
  pub rest : List ℕ
  pub ran : IsFed fed i make old.users (core_context old session) table s (input_in (session_slot_of old.slots n)) piece
      rest context
  pub own : RefinesAfterFeed fed i make new n
      (devices_behind fed i make old.users (core_context old session) table s (input_in (session_slot_of old.slots n))
      piece rest context ran)
  pub others : (j m : ℕ) (u : AbstractSession) → j ≢ i → m ≢ n → SessionRefines j make old m table u →
      SessionRefines j make new m
      (devices_behind fed i make old.users (core_context old session) table s (input_in (session_slot_of old.slots n))
      piece rest context ran) u

-- the session that was fed ran by the model, and each of another client stands as it stood
abbrev pub CoreFeeds : Type 0
CoreFeeds =
    (i : ℕ) (make : ℕ → Make) (n : ℕ) (old : Core) (table : ℕ → AbstractDevice) (s : AbstractSession) (piece : List ℕ)
    (fed : Fed) (new : Core) →
    (stands : SessionRefines i make old n table s) → Feeds n old piece fed new
    → CoreFed i make n old stands.session table s piece fed new
