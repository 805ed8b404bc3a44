-- A request context of the daemon, as the model sees it.
use Rattle.std.specs.Prelude.{ℕ, ◌≡◌, ◌≢◌, ◌⊎◌, true, false, Option, Some, None, option_map, List, map, length}
use Rattle.std.specs.Prelude.{slice_get}
use Rattle.std.specs.List.{AllByRecursion}
use Rattle.page_picture.specs.Page.{PageView}
use Rattle.scan_frames.specs.declared.setup.Setup.{Setup}
use Rattle.device_api.specs.ScannerLimits.{IsAllowed}
use Rattle.device_api.specs.State.{DeviceState, HeldPage, Phase as AnyPhase, feeds, left_behind}
use Rattle.device_api.specs.State.Phase.{AtRest as Rest, Between as Amid, Reading as Read}
use Rattle.dispatch.specs.declared.table.place.Slot.{Slot}
use Rattle.dispatch.specs.declared.table.place.Slot.TheVariants.{In, Out, Gone}
use Rattle.dispatch.specs.declared.table.place.Place.{Place}
use Rattle.dispatch.specs.declared.table.place.Lease.{Lease}
use Rattle.dispatch.specs.Table.{Table, IsLeaseOf, find_name}
use Rattle.saned_requests.specs.declared.session.DataPhase.{DataPhase as WordCarriage}
use Rattle.saned_requests.specs.declared.session.DataPhase.TheVariants as word
use Rattle.saned_requests.specs.declared.session.AwaitedAuthorization.{AwaitedAuthorization}
use Rattle.saned_requests.specs.Holding.{held_by, free_word}
use Rattle.saned_requests.specs.RequestAnswers.{RequestContext}
use Rattle.scan_laws.specs.Passes as scan
use Rattle.system_model.specs.AbstractMessages.{Challenge}
use Rattle.system_model.specs.Devices.{Make}
use Rattle.system_model.specs.AbstractDevices.{AbstractDevice, ScanPhase, Resting, Between, Reading}
use Rattle.system_model.specs.Daemon.{TransferState, Quiet, Waiting, Streaming, Ending}
use Rattle.system_model.specs.AbstractSessions.{AbstractSession}

-- where a scanner is in its scan
abbrev pub phase_at : scan.ScanPlace → ScanPhase
phase_at scan.Resting = Resting
phase_at (scan.Waiting last more) = Between last more
phase_at (scan.Giving frame rest more) = Reading frame rest more

-- the pages that starts at rest take: the first of a feeder that scans is no more among them
abbrev pub pages_to_come : AnyPhase → DeviceState → List HeldPage
pages_to_come (Rest c) s = s.pages
pages_to_come (Amid ended) s = left_behind (feeds s) s.pages
pages_to_come (Read pass given) s = left_behind (feeds s) s.pages

abbrev pub page_views : List HeldPage → List PageView
page_views pages = map (λ (held : HeldPage). held.page) pages

abbrev pub tray_of : DeviceState → List PageView
tray_of s = page_views (pages_to_come s.phase s)

abbrev pub abstract_device_as : Option ℕ → Setup → List PageView → ScanPhase → AbstractDevice
abstract_device_as holder options tray phase =
    record { listed = true; holder = holder; options = options; tray = tray; phase = phase }

-- **seen (`abstract_device`, `tray_of`, `phase_at`)**: a scanner and its holder, as a listed device of the model. It
-- has its options, and the pages that starts at rest take; the first page of a feeder that scans is no longer among
-- them. It is at rest, or has the frame that ended last and those to come, or the frame under way with what is left of
-- it and those after it.
abbrev pub abstract_device : Option ℕ → DeviceState → AbstractDevice
abstract_device holder s = abstract_device_as holder s.setup (tray_of s) (phase_at (scan.place_of s))

-- the source of a page can fail only in a device of which that is said, and gives its page's rows at each pass where
-- that is said
pub record HasSource (make : Make) (held : HeldPage) : Type 0 where
  pub infallible : make.fallible ≡ false → held.infallible ≡ true
  pub steady : make.steady ≡ true → held.steady ≡ true

abbrev pub HaveSources : Make → List HeldPage → Type 0
HaveSources make pages = AllByRecursion (HasSource make) pages

-- **made (`IsMade`)**: what always holds of it: the kind and the byte order that never change, options within their
-- limits, and a phase that a scan comes to.
pub record IsMade (make : Make) (s : DeviceState) : Type 0 where
  pub sources : HaveSources make s.pages
  pub kind : make.model ≡ s.setup.scene.kind
  pub order : make.order ≡ s.setup.order
  pub allowed : IsAllowed s.setup
  pub in_scan : scan.IsInScan s

-- client i's session holds the device of this place, by that word
pub record HoldsPlace (held : List (Option (Lease DeviceState))) (k : ℕ) : Type 0 where
  pub word : ℕ
  pub lease : Lease DeviceState
  pub stands : held_by held word ≡ Some lease
  pub place : lease.place ≡ k

-- another holds it
pub record IsAway (i : ℕ) (dev : AbstractDevice) : Type 0 where
  pub other : ℕ
  pub holder : dev.holder ≡ Some other
  pub no_own : other ≢ i

-- what stands in a place of that name
abbrev pub SlotRefines : ℕ → Make → List (Option (Lease DeviceState)) → ℕ → AbstractDevice → List ℕ → Slot DeviceState
    → Type 0
SlotRefines i make held k dev name Gone = (dev.listed ≡ false) × (dev.holder ≡ None)
SlotRefines i make held k dev name (In s) = (dev ≡ abstract_device None s) × IsMade make s × (s.info.name ≡ name)
SlotRefines i make held k dev name Out = (dev.listed ≡ true) × (HoldsPlace held k ⊎ IsAway i dev)

abbrev pub PlaceRefines : ℕ → Make → List (Option (Lease DeviceState)) → ℕ → AbstractDevice → Option (Place DeviceState)
    → Type 0
PlaceRefines i make held k dev None = (dev.listed ≡ false) × (dev.holder ≡ None)
PlaceRefines i make held k dev (Some p) = SlotRefines i make held k dev p.info.name p.slot

-- the device of a lease
pub record LeaseRefines (i : ℕ) (make : ℕ → Make) (registry : Table) (table : ℕ → AbstractDevice)
    (l : Lease DeviceState) : Type 0 where
  pub device : table l.place ≡ abstract_device (Some i) l.device
  pub made : IsMade (make l.place) l.device
  pub own : IsLeaseOf l registry

-- all devices, in the table and leased to client i
pub record TableRefines (i : ℕ) (make : ℕ → Make) (held : List (Option (Lease DeviceState))) (registry : Table)
    (table : ℕ → AbstractDevice) : Type 0 where
  pub leases : (w : ℕ) (l : Lease DeviceState) → held_by held w ≡ Some l → LeaseRefines i make registry table l
  pub apart : (w v : ℕ) (l m : Lease DeviceState) → held_by held w ≡ Some l → held_by held v ≡ Some m
      → l.place ≡ m.place → w ≡ v
  pub places : (k : ℕ) → PlaceRefines i (make k) held k (table k) (slice_get registry k)

-- the frame, and the device word that it is one of
abbrev pub TransferRefines : WordCarriage → TransferState → ℕ → Type 0
TransferRefines word.Quiet c framed = c ≡ Quiet
TransferRefines (word.Waiting w) c framed = (c ≡ Waiting) × (framed ≡ w)
TransferRefines (word.Streaming w) c framed = (c ≡ Streaming) × (framed ≡ w)
TransferRefines word.Ending c framed = c ≡ Ending

-- the device of a word is read
pub record IsReadBy (held : List (Option (Lease DeviceState))) (w : ℕ) : Type 0 where
  pub lease : Lease DeviceState
  pub stands : held_by held w ≡ Some lease
  pub pass : ℕ
  pub given : ℕ
  pub phase : lease.device.phase ≡ Read pass given

-- a frame that waits or streams is of a device that is read
abbrev pub FrameIsRead : WordCarriage → List (Option (Lease DeviceState)) → Type 0
FrameIsRead word.Quiet held = Unit {0}
FrameIsRead (word.Waiting w) held = IsReadBy held w
FrameIsRead (word.Streaming w) held = IsReadBy held w
FrameIsRead word.Ending held = Unit {0}

-- the place of a name; a name that is not listed is read as a place that is not
abbrev pub NamesPlace : Option ℕ → (ℕ → AbstractDevice) → ℕ → Type 0
NamesPlace None table k = (table k).listed ≡ false
NamesPlace (Some p) table k = p ≡ k

-- **names (`Names`)**: the place of a name; a name that nobody has is read as a place that is not listed.
abbrev pub Names : List ℕ → Table → (ℕ → AbstractDevice) → ℕ → Type 0
Names name registry table k = NamesPlace (find_name name registry) table k

-- an OPEN that waits for its AUTHORIZE: there is a free word for it
abbrev pub IsAwaited : List (Option (Lease DeviceState)) → Table → (ℕ → AbstractDevice) → Option AwaitedAuthorization
    → Option (Challenge × ℕ) → Type 0
IsAwaited held registry table None sent = sent ≡ None
IsAwaited held registry table (Some a) None = ⊥
IsAwaited held registry table (Some a) (Some sent) = Names a.name registry table sent.1 × (free_word held ≢ None)

-- **refines (`ContextRefines`, `TableRefines`)**: a request context is this session of client i, and these devices. The
-- session's four words are the places of its leases. It has the same frame, and of a frame that waits or streams the
-- word, whose device is read. It awaits the same, and has a word free for that. Each leased device is seen as held by
-- client i, no two of one place. A device in its place is seen as held by nobody, an unplugged one as not listed. A
-- device that is out is held by a word of this session or by another client.
pub record ContextRefines (i : ℕ) (make : ℕ → Make) (d : RequestContext) (table : ℕ → AbstractDevice)
    (s : AbstractSession) : Type 0 where
  pub words : (w : ℕ) → s.words w ≡ option_map (λ (l : Lease DeviceState). l.place) (held_by d.session.held w)
  pub four : length d.session.held ≡ 4
  pub transfer : TransferRefines d.session.transfer s.transfer s.framed
  pub frame : FrameIsRead d.session.transfer d.session.held
  pub awaited : IsAwaited d.session.held d.registry table d.session.awaited s.awaited
  pub devices : TableRefines i make d.session.held d.registry table
