-- The lie against a scan among strangers.
use Rattle.std.specs.Prelude.{ℕ, ◌≡◌, true, Some, List, ◌∷◌, slice_get}
use Rattle.netpbm.specs.Picture.{Picture, SamePicture}
use Rattle.netpbm.specs.Pnm.{Denotes}
use Rattle.page_picture.specs.Meaning.{meaning_of}
use Rattle.page_picture.specs.Source.{SourceState}
use Rattle.page_sources.specs.declared.kinds.Source.{Source}
use Rattle.scan_job.specs.declared.job.Task.TheVariants as tasks
use Rattle.scan_job.specs.declared.outcome.Outcome.TheVariants.{Done}
use Rattle.scan_job.specs.declared.report.Reports.{Reports}
use Rattle.system_model.specs.AbstractDevices.{Begin}
use Rattle.system_model.specs.SystemStates.{JobState, make_for}
use Rattle.event_world.specs.declared.endpoint.Endpoint.{Endpoint}
use Rattle.event_world.specs.Worlds.{WorldCore}
use Rattle.world_refines.specs.GhostStates.{Ghost, job_state}
use Rattle.strangers.specs.Together.{JointEvent, KeptAmongStrangers, RunsAmong}

-- **the lie (`MeansOther`, `PictureIsNoStrangers`)**: whatever strangers do, the file of a scan that is done is of no
-- other picture than the one that its settings mean on the page of its first start, if its device's sources are steady.
abbrev pub MeansOther : JobState → Picture → Type 0
MeansOther p picture = (begin : Begin) (later : List Begin) (meant : Picture) → p.session.started ≡ begin ∷ later
    → meaning_of begin.page begin.options.scene ≡ Some meant → SamePicture picture meant → ⊥

abbrev pub PictureIsNoStrangers : Type 0
PictureIsNoStrangers =
    (source : Source → SourceState) (xs : List JointEvent) (t : Ghost) (w v : WorldCore) (run : RunsAmong source xs w v)
    → (k : KeptAmongStrangers source xs t w v run) → (i : ℕ) (endpoint : Endpoint) (reports : Reports)
    (file : List ℕ) (picture : Picture) → slice_get v.endpoints i ≡ Some endpoint
    → (k.all.ghost_then.jobs i).task ≡ tasks.Scan → endpoint.client.outcome ≡ Done reports
    → endpoint.file ≡ Some file → (make_for k.all.ghost_then.system i).steady ≡ true → Denotes file picture
    → MeansOther (job_state k.all.ghost_then i) picture → ⊥
