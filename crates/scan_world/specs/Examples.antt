-- What the worked examples come to.
use Rattle.std.specs.Prelude.{ℕ, ◌≡◌, Bool, Some, List, [], ◌∷◌}
use Rattle.sane_fixed.specs.declared.byte_order.ByteOrder.TheVariants.{Little}
use Rattle.netpbm.specs.Picture.{Picture}
use Rattle.netpbm.specs.Pnm.{Denotes}
use Rattle.page_picture.specs.Page.{PageView}
use Rattle.page_picture.specs.Meaning.{meaning_of}
use Rattle.page_picture.specs.declared.scene.DeviceKind.TheVariants.{Flatbed}
use Rattle.scan_frames.specs.declared.setup.Setup.{Setup}
use Rattle.device_api.specs.InForce.{Placement}
use Rattle.device_api.specs.Values.{defaults}
use Rattle.sane_fixed.specs.declared.status.Status.TheVariants.{DeviceBusy}
use Rattle.scan_job.specs.declared.job.Job.{Job}
use Rattle.scan_job.specs.declared.outcome.Why.TheVariants.{Answer}
use Rattle.event_world.specs.declared.event.Event.{Event}
use Rattle.event_world.specs.declared.event.Event.TheVariants.{Connect, ToDaemon, ToClient}
use Rattle.event_world.specs.Worlds.{WorldCore}
use Rattle.scan_world.specs.Histories.{History, LedTo}
use Rattle.scan_world.specs.Settings.{AreSettingsPut}
use Rattle.scan_world.specs.Endings.{IsEndingExplained}
use Rattle.frame_join.specs.PictureText.{picture_text}

-- **examples (`IsScanOf`, `until_busy`, `HasExplanation`)**: a file of exactly the picture that a job's settings mean
-- on one page, put on a flatbed at its defaults; the events by which one client has a device and another one asks for
-- it; that this one's ending is explained, in a world to which a history of these two led.
pub record IsScanOf (page : PageView) (job : Job) (bytes : List ℕ) : Type 0 where
  pub setup : Setup
  pub placed : List Placement
  pub in_force : AreSettingsPut (defaults Flatbed Little) job.settings.items placed setup
  pub picture : Picture
  pub meant : meaning_of page setup.scene ≡ Some picture
  pub denotes : Denotes bytes picture
  pub own : bytes ≡ picture_text picture

-- by these the first client opens the device, and then the second one, which asks for it, is answered
abbrev pub until_busy : List Event
until_busy =
    Connect 0 ∷ ToDaemon 0 4096 ∷ ToClient 0 4096 ∷ ToDaemon 0 4096
    ∷ Connect 1 ∷ ToDaemon 1 4096 ∷ ToClient 1 4096 ∷ ToDaemon 1 4096 ∷ ToClient 1 4096 ∷ []

-- of some history of these two jobs it is explained that the second was told busy
pub record HasExplanation (first second : Job) : Type 0 where
  pub history : History
  pub jobs : history.jobs ≡ first ∷ second ∷ []
  pub world : WorldCore
  pub led : LedTo history world
  pub starved : Bool
  pub caused : IsEndingExplained history world 1 second starved DeviceBusy Answer
