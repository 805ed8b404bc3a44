-- What follows from the contracts of both programs, where they acted together.
use Rattle.std.specs.Prelude.{ℕ, ◌≡◌, true, Some, Ok, List, [], ◌∷◌, Contains, slice_get}
use Rattle.std.specs.Io.KnownBytes.{Appends}
use Rattle.hex.specs.Hex.{decode_of}
use Rattle.netpbm.specs.Picture.{Picture}
use Rattle.page_picture.specs.Meaning.{meaning_of}
use Rattle.page_sources.specs.PageFile.{TellsPage}
use Rattle.frame_join.specs.PictureText.{picture_text}
use Rattle.scan_frames.specs.declared.setup.Setup.{Setup}
use Rattle.device_api.specs.InForce.{Placement}
use Rattle.device_api.specs.State.{DeviceState, HeldPage}
use Rattle.device_api.specs.Values.{defaults}
use Rattle.scan_job.specs.declared.job.Task.TheVariants.{Scan}
use Rattle.net_client.specs.ClientStates.{ClientState}
use Rattle.config_pages.specs.Pages.{hex_digits}
use Rattle.dispatch.specs.ConfigLines.{device_name}
use Rattle.dispatch.specs.declared.config_line.ConfigLine.{ConfigLine}
use Rattle.recorded.specs.Names.{named_behind}
use Rattle.interleaving.specs.HandingOn.{Owner}
use Rattle.programs_refine.specs.LedInto.{Interleaves}
use Rattle.programs_refine.specs.Programs.{Acts}
use Rattle.programs_refine.specs.ToldAmong.{AllLoopsAreToldAmong}
use Rattle.saned_serve.specs.Serving.{DaemonAndListeners, ServeLimits}
use Rattle.scan_world.specs.Settings.{AreSettingsPut}
use Rattle.scanimage_cli.specs.Programs.{ProgramOutputs}
use Rattle.scanimage_cli.specs.Whole.{HasRunFor, ProgramState}
use Rattle.scanimage_cli.specs.declared.planning.Destination.{Destination}
use Rattle.scanimage_cli.specs.declared.planning.Destination.TheVariants.{StandardOutput, Path, Folder}
use Rattle.scanimage_cli.specs.declared.planning.Location.TheVariants.{There}
use Rattle.scanimage_cli.specs.declared.planning.Remote.{Remote}
use Rattle.programs_lead.specs.Exits.{ActTogether, AreConnected, DaemonExit, NetExit, jobs_of}

-- ---- each exit status 0 at a host is such a run

pub record IsExitOf (words : List (List ℕ)) (was now : ProgramState) (remote : Remote) : Type 0 where
  pub exit : NetExit
  pub words_are : exit.words ≡ words
  pub begun : exit.was ≡ was
  pub ended : exit.now ≡ now
  pub host : exit.remote ≡ remote

abbrev pub WellAtHostsAreExits : Type 0
WellAtHostsAreExits = (words : List (List ℕ)) (was now : ProgramState) (ran : HasRunFor words was now)
    (remote : Remote) → ran.plan.location ≡ There remote → IsExitOf words was now remote

-- ---- they interleave, and lead to a world

-- the client of each run at its end is this one
abbrev pub AreLastClients : List NetExit → (ℕ → ClientState) → Type 0
AreLastClients exits last = (i : ℕ) (e : NetExit) → slice_get exits i ≡ Some e → last i ≡ e.done.ran.loop.last

abbrev pub limits_of : DaemonExit → ServeLimits
limits_of d = record { sessions = d.served.plan.options.sessions; idle_turns = d.served.plan.options.idle_turns }

abbrev pub begun_of : DaemonExit → DaemonAndListeners
begun_of d = record { daemon = d.served.first; listeners = d.served.serves.began }

abbrev pub ended_of : DaemonExit → DaemonAndListeners
ended_of d = record { daemon = d.served.serves.last; listeners = d.served.serves.listened }

abbrev pub ExitsInterleave : Type 0
ExitsInterleave = (daemon : DaemonExit) (exits : List NetExit) (acts : Acts) (last : ℕ → ClientState)
    → ActTogether daemon exits acts → AreLastClients exits last
    → Interleaves (limits_of daemon) (begun_of daemon) (ended_of daemon) daemon.served.serves.end (jobs_of exits) acts
    last

-- all that a world promises is told of each run, over the scanners of the daemon's config
abbrev pub ExitsLead : Type 0
ExitsLead = (daemon : DaemonExit) (exits : List NetExit) (owner : Owner) (acts : Acts) (last : ℕ → ClientState)
    → ActTogether daemon exits acts → AreConnected owner exits acts → AreLastClients exits last
    → AllLoopsAreToldAmong daemon.served.devices (jobs_of exits) owner daemon.served.first acts last

-- ---- the file of a scan

-- where the file of a scan was to go its output took this text, behind the name where it has one
abbrev pub TookAt : Destination → List ℕ → ProgramOutputs → ProgramOutputs → Type 0
TookAt StandardOutput text was now = Appends was.out now.out text
TookAt (Path path) text was now = (before : List ℕ) → was.files.named ≡ Some before
    → Appends (Some (named_behind before path)) now.files.named text
TookAt Folder text was now = ⊥

-- **the picture of a scanner's page (`IsPictureOf`)**: on the scanner of that name the settings of the command line put
-- these options in force, each given the nearest admitted value. The text is the file of the picture that they mean on
-- a page of that scanner.
pub record IsPictureOf (devices : List DeviceState) (e : NetExit) (text : List ℕ) : Type 0 where
  pub device : DeviceState
  pub is_there : Contains devices device
  pub named : device.info.name ≡ e.remote.device
  pub setup : Setup
  pub placed : List Placement
  pub in_force
      : AreSettingsPut (defaults device.setup.scene.kind device.setup.order) e.ran.plan.job.settings.items placed setup
  pub held : HeldPage
  pub has : Contains device.pages held
  pub picture : Picture
  pub meant : meaning_of held.page setup.scene ≡ Some picture
  pub is : text ≡ picture_text picture

-- each page of the scanners of that name is steady
abbrev pub AreSteadyPages : List DeviceState → List ℕ → Type 0
AreSteadyPages devices name = (device : DeviceState) → Contains devices device → device.info.name ≡ name
    → (held : HeldPage) → Contains device.pages held → held.steady ≡ true

-- **both programs scan (`ExitsScan`)**: where they acted together, and are connected, exit status 0 of a scan at a host
-- says that its output took exactly the file of the picture that the words' settings mean on a page of the scanner in
-- saned's config.
abbrev pub ExitsScan : Type 0
ExitsScan = (daemon : DaemonExit) (exits : List NetExit) (owner : Owner) (acts : Acts)
    → ActTogether daemon exits acts → AreConnected owner exits acts
    → (i : ℕ) (e : NetExit) → slice_get exits i ≡ Some e → e.ran.plan.job.task ≡ Scan
    → AreSteadyPages daemon.served.devices e.remote.device
    → (text : List ℕ) × IsPictureOf daemon.served.devices e text
    × TookAt e.ran.plan.job.destination text e.was.outputs e.now.outputs

-- ---- and the pages of its config

-- the text of a page that stands in its line
pub record StandsInLine (line : ConfigLine) (file : List ℕ) : Type 0 where
  pub page : List ℕ
  pub only : line.pages.items ≡ page ∷ []
  pub digits : List ℕ
  pub hex : hex_digits page ≡ Some digits
  pub spelled : decode_of digits ≡ Ok file

-- a scanner whose line has one page, which stands in it, has that page, and it is steady
abbrev pub LinesArePages : Type 0
LinesArePages = (daemon : DaemonExit) (line : ConfigLine) (file : List ℕ) → Contains daemon.served.lines line
    → StandsInLine line file → (device : DeviceState) → Contains daemon.served.devices device
    → device.info.name ≡ device_name line.kind line.index → (held : HeldPage) → Contains device.pages held
    → (held.steady ≡ true) × TellsPage file line.dpi held.page
