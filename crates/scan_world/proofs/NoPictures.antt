-- Where a start finds no picture: the request was START, the job's settings were in force, and mean no picture on the page.
use Rattle.std.specs.Prelude.{option_map, if◌then◌else◌}
use Rattle.std.proofs.Common.{◌≡◌, ◌∙◌, ◌≢◌, ℕ, List, [], ◌∷◌, Bool, true, false, Some, None, inl, inr, refl, sym, ap}
use Rattle.page_picture.specs.Extent.{extent_of}
use Rattle.page_picture.specs.Meaning.{meaning_of, picture_of}
use Rattle.scan_frames.specs.Frames.{frame_of, frames_of, has_picture, takes_colors}
use Rattle.scan_laws.specs.SetAndJoin as rules
use Rattle.system_model.specs.AbstractMessages.{AbstractRequest, Start}
use Rattle.device_api.specs.Kinds.{Page}
use Rattle.system_model.specs.Devices.{Make, OptionsInForce, picture_frames}
use Rattle.system_model.specs.AbstractDevices.{AbstractDevice}
use Rattle.system_model.specs.Client.{JobStage, Idle, Running, Done, Ended, AbstractProgress, Starting, ClientView, request_awaited}
use Rattle.system_model.specs.SystemStates.{SessionView, JobState}
use Rattle.system_model.specs.Transitions.{IsUnderWay}
use Rattle.system_model.specs.Sync.{InSync, Pauses, Ready, Scans}
use Rattle.system_model.specs.Invariants.{StageInvariant}
use Rattle.scan_world.proofs.Options.{IsForced}

-- ---- at a START the settings are in force

-- client i holds the device, and its settings are in force there
abbrev pub IsSet : ℕ → Make → SessionView → AbstractDevice → Type 0
IsSet i k b dev = (dev.holder ≡ Some i) × IsForced k b dev

ready_set : (i : ℕ) (k : Make) (b : SessionView) (m : ClientView) (dev : AbstractDevice) → Ready i k b m dev → IsSet i k b dev
ready_set i k b m dev h = (h.held.mine, (m.reports, h.settled.forced ∙ ap (λ (o : OptionsInForce). Some (record { options = o; reports = m.reports })) (sym h.held.options_are)))

pauses_set : (i : ℕ) (k : Make) (b : SessionView) (m : ClientView) (dev : AbstractDevice) → Pauses i k b m dev → IsSet i k b dev
pauses_set i k b m dev h = (h.held.mine, (m.reports, h.continues.settled.forced ∙ ap (λ (o : OptionsInForce). Some (record { options = o; reports = m.reports })) (sym h.held.options_are)))

-- what is asked begins with a start
abbrev pub is_start : List AbstractRequest → Bool
is_start (Start ∷ rest) = true
is_start asked = false

synced_set : (i : ℕ) (k : Make) (b : SessionView) (m : ClientView) (dev : AbstractDevice) (g : AbstractProgress) (rest : List AbstractRequest) → Start ∷ rest ≡ request_awaited g → InSync i k b m dev g → IsSet i k b dev
synced_set i k b m dev Starting rest e (inl h) = ready_set i k b m dev h
synced_set i k b m dev Starting rest e (inr h) = pauses_set i k b m dev h
synced_set i k b m dev g rest e h = absurd (let clash : true ≡ false = ap is_start e in cc)

none_asked : {A : Type 0} (todo rest : List AbstractRequest) → todo ≡ [] → todo ≡ Start ∷ rest → A
none_asked todo rest none e = absurd (let clash : [] ≡ Start ∷ rest = sym none ∙ e in cc)

pub starting : (i : ℕ) (k : Make) (p : JobState) (dev : AbstractDevice) (stage : JobStage) (rest : List AbstractRequest) → IsUnderWay stage → StageInvariant i k p dev stage → p.todo ≡ Start ∷ rest → IsSet i k p.session dev
starting i k p dev Idle rest on h e = none_asked p.todo rest h.1 e
starting i k p dev (Running g) rest on (inl h) e = synced_set i k p.session p.client dev g rest (sym e ∙ h.todo) h.in_sync
starting i k p dev (Running g) rest on (inr (inl h)) e = none_asked p.todo rest h.todo e
starting i k p dev (Running g) rest on (inr (inr h)) e = none_asked p.todo rest h.todo e
starting i k p dev Done rest on h e = absurd on
starting i k p dev (Ended status why) rest on h e = absurd on

synced_scans : (i : ℕ) (k : Make) (b : SessionView) (m : ClientView) (dev : AbstractDevice) (g : AbstractProgress) (rest : List AbstractRequest) → Start ∷ rest ≡ request_awaited g → InSync i k b m dev g → Scans b.job.task
synced_scans i k b m dev Starting rest e (inl h) = h.scans
synced_scans i k b m dev Starting rest e (inr h) = h.continues.scans
synced_scans i k b m dev g rest e h = absurd (let clash : true ≡ false = ap is_start e in cc)

pub starting_scans : (i : ℕ) (k : Make) (p : JobState) (dev : AbstractDevice) (stage : JobStage) (rest : List AbstractRequest) → IsUnderWay stage → StageInvariant i k p dev stage → p.todo ≡ Start ∷ rest → Scans p.session.job.task
starting_scans i k p dev Idle rest on h e = none_asked p.todo rest h.1 e
starting_scans i k p dev (Running g) rest on (inl h) e = synced_scans i k p.session p.client dev g rest (sym e ∙ h.todo) h.in_sync
starting_scans i k p dev (Running g) rest on (inr (inl h)) e = none_asked p.todo rest h.todo e
starting_scans i k p dev (Running g) rest on (inr (inr h)) e = none_asked p.todo rest h.todo e
starting_scans i k p dev Done rest on h e = absurd on
starting_scans i k p dev (Ended status why) rest on h e = absurd on

-- ---- no frames are no picture

some_frames : (b : Bool) (o : OptionsInForce) (page : Page) → (if b then frame_of o page 0 ∷ frame_of o page 1 ∷ frame_of o page 2 ∷ [] else frame_of o page 0 ∷ []) ≢ []
some_frames true o page e = let clash : frame_of o page 0 ∷ frame_of o page 1 ∷ frame_of o page 2 ∷ [] ≡ [] = e in cc
some_frames false o page e = let clash : frame_of o page 0 ∷ [] ≡ [] = e in cc

no_extent : (o : OptionsInForce) (page : Page) → has_picture o page ≡ false → extent_of page o.scene ≡ None
no_extent o page is = rw is refl

meant_if : (o : OptionsInForce) (page : Page) (b : Bool) → has_picture o page ≡ b → (if b then frames_of o page else []) ≡ [] → meaning_of page o.scene ≡ None
meant_if o page true is e = absurd (some_frames (takes_colors o.scene.kind o.scene.mode) o page e)
meant_if o page false is e = ap (option_map (picture_of page o.scene)) (no_extent o page is)

pub no_meaning : (k : Make) (o : OptionsInForce) (page : Page) → picture_frames k o page ≡ [] → meaning_of page o.scene ≡ None
unfolding picture_frames rules.frames_given
no_meaning k o page e = meant_if o page (has_picture o page) refl e
