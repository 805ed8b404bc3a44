-- WHAT IS PROMISED of a job that was handed to a world.
use Rattle.std.specs.Prelude.{ℕ, ◌≡◌, true, Some, List, Contains}
use Rattle.netpbm.specs.Picture.{Picture}
use Rattle.netpbm.specs.Pnm.{Denotes}
use Rattle.page_picture.specs.Meaning.{meaning_of}
use Rattle.page_sources.specs.SourceView.{source_state}
use Rattle.page_sources.specs.declared.kinds.Source.{Source}
use Rattle.scan_frames.specs.declared.setup.Setup.{Setup}
use Rattle.page_picture.specs.Page.{PageView}
use Rattle.device_api.specs.State.{DeviceState, HeldPage, held_from, is_at_rest, page_of}
use Rattle.device_api.specs.InForce.{Placement}
use Rattle.device_api.specs.Values.{defaults}
use Rattle.scan_job.specs.declared.job.Job.{Job}
use Rattle.event_world.specs.declared.event.Event.TheVariants.{Load}
use Rattle.event_world.specs.Worlds.{WorldCore}
use Rattle.scan_world.specs.Histories.{HasEvent, History}
use Rattle.scan_world.specs.Sessions.{Asked, AtJob, Happened, Has, IsAtStart}
use Rattle.scan_world.specs.Settings.{AreSettingsPut}
use Rattle.frame_join.specs.PictureText.{picture_text}

-- **scan (`CameInTime`, `IsSteady`, `Settled`, `StartedOn`, `IsScan`)**: a page came in time if it was in a device of a
-- name as the world was made, or came for one as the job ran and changed the world. A page that the daemon refused, as
-- one for a full tray, changed nothing. `IsSteady`: each of them is steady. `Settled`: the device that a job names,
-- with the options that its settings put in force there, each given the nearest admitted value. `StartedOn`: a job
-- asked for a start while so many of its pages were finished, on this page, which its session's device, at rest, had
-- first. `IsScan`: a file denotes exactly what the settings mean on such a page, that of such a start.
pub data CameInTime (h : History) (w : WorldCore) (i : ℕ) (name : List ℕ) (held : HeldPage) : Type 0 where
  FromFirst : (device : DeviceState) → Contains h.devices device → device.info.name ≡ name → Contains device.pages held
      → CameInTime h w i name held
  AsItRan : (source : Source) → Happened h w i (Load name source) → held_from (source_state source) ≡ held
      → CameInTime h w i name held

-- each of them is of a source that gives the page's rows at each pass
abbrev pub IsSteady : History → WorldCore → ℕ → List ℕ → Type 0
IsSteady h w i name = (held : HeldPage) → CameInTime h w i name held → held.steady ≡ true

-- the device that the job names, and the options that its settings put in force there: from its defaults on, each in
-- turn was given the nearest admitted value
pub record Settled (h : History) (job : Job) : Type 0 where
  pub device : DeviceState
  pub is_there : Contains h.devices device
  pub named : device.info.name ≡ job.device
  pub setup : Setup
  pub placed : List Placement
  pub in_force : AreSettingsPut (defaults device.setup.scene.kind device.setup.order) job.settings.items placed setup

-- Job i asked for a start as so many pages of it were finished, and its session had the device at rest, with this
-- page first.
pub record StartedOn (h : History) (w : WorldCore) (i : ℕ) (job : Job) (count : ℕ) (page : PageView) : Type 0 where
  pub asked : Asked h w i IsAtStart
  pub finished : AtJob asked.at.before i (λ p. p.finished ≡ count)
  pub device : DeviceState
  pub has : Has asked.at.before i job.device device
  pub rests : is_at_rest device.phase ≡ true
  pub first : page_of device ≡ page

-- a file that denotes exactly the picture that the job's settings mean on a page. The page came for its device, and the
-- job asked for a start of it behind so many pages
pub record IsScan (h : History) (w : WorldCore) (i : ℕ) (job : Job) (count : ℕ) (file : List ℕ) : Type 0 where
  pub settled : Settled h job
  pub held : HeldPage
  pub came : CameInTime h w i job.device held
  pub started : StartedOn h w i job count held.page
  pub picture : Picture
  pub meant : meaning_of held.page settled.setup.scene ≡ Some picture
  pub denotes : Denotes file picture
  -- and it is the one that is written for that picture, byte by byte
  pub own : file ≡ picture_text picture

-- **came for a device (`CameFor`)**: a page that was in a device of a name as the world was made, or that an event
-- brought for one at any time, taken or not.
pub data CameFor (h : History) (name : List ℕ) (held : HeldPage) : Type 0 where
  AtFirst : (device : DeviceState) → Contains h.devices device → device.info.name ≡ name → Contains device.pages held
      → CameFor h name held
  WithEvent : (source : Source) → HasEvent h (Load name source) → held_from (source_state source) ≡ held
      → CameFor h name held
