-- THE NUMBERS OF STAGES: what runs has one, and what they are where no reply is on the way.
use Rattle.std.proofs.Common.{◌≡◌, ◌∙◌, ◌≤◌, ℕ, List, [], ◌∷◌, Bool, true, false, Option, Some, None, refl, ap, length, arith}
use Rattle.sane_fixed.specs.declared.status.Status.{Status}
use Rattle.sane_fixed.specs.declared.params.Params.{Params}
use Rattle.system_model.specs.AbstractMessages.{AbstractReply}
use Rattle.system_model.specs.Client.{ClientView, JobStage, Idle, Running, Done, Ended, AbstractProgress, Greeting, Listing, Opening, Allowing, Describing, Putting, Getting, Starting, Shaping, Imaging}
use Rattle.system_model.specs.AbstractDevices.{AbstractDevice, ScanPhase, Resting, Between, Reading}
use Rattle.system_model.specs.Daemon.{TransferState, Quiet, Waiting, Streaming, Ending}
use Rattle.system_model.specs.SystemStates.{SessionView, JobState}
use Rattle.system_model.specs.Transitions.{IsUnderWay}
use Rattle.system_model.specs.Variant.{flow_variant, start_variant, image_variant, progress_variant, later_pages, stage_variant_of, running_variant, control_variant_at}

pub flow_two : (ph : ScanPhase) (t : ℕ) → 2 ≤ flow_variant ph t
flow_two Resting t = omega arith
flow_two (Between last more) t = omega arith
flow_two (Reading f rest more) t = omega arith

starts_two : (ph : ScanPhase) (t : ℕ) → 2 ≤ start_variant ph t
starts_two Resting t = omega arith
starts_two (Between last more) t = omega arith
starts_two (Reading f rest more) t = omega arith

images_two : (e : Option Status) (c : TransferState) (ph : ScanPhase) (t : ℕ) → 2 ≤ image_variant e c ph t
images_two None Waiting ph t = let h = flow_two ph t in omega arith
images_two None Quiet ph t = flow_two ph t
images_two None Streaming ph t = flow_two ph t
images_two None Ending ph t = flow_two ph t
images_two (Some s) c ph t = omega arith

pub asks_two : (g : AbstractProgress) (n t : ℕ) (ph : ScanPhase) (c : TransferState) (e : Option Status) → 2 ≤ progress_variant g n t ph c e
asks_two Greeting n t ph c e = omega arith
asks_two Listing n t ph c e = omega arith
asks_two Opening n t ph c e = omega arith
asks_two (Allowing x) n t ph c e = omega arith
asks_two (Describing left) n t ph c e = omega arith
asks_two (Putting o v w left) n t ph c e = omega arith
asks_two (Getting o left) n t ph c e = omega arith
asks_two Starting n t ph c e = starts_two ph t
asks_two Shaping n t ph c e = omega arith
asks_two (Imaging params heard) n t ph c e = images_two e c ph t

pub runs_two : (due : List AbstractReply) (g : AbstractProgress) (b : SessionView) (m : ClientView) (dev : AbstractDevice) → 2 ≤ running_variant true due g b m dev
runs_two [] g b m dev = asks_two g (length b.job.settings) (later_pages b.job m) dev.phase b.transfer b.ending
runs_two (r ∷ due) g b m dev = omega arith

runs_one : (s : Bool) (due : List AbstractReply) (g : AbstractProgress) (b : SessionView) (m : ClientView) (dev : AbstractDevice) → 1 ≤ running_variant s due g b m dev
runs_one false due g b m dev = omega arith
runs_one true due g b m dev = let h = runs_two due g b m dev in omega arith

pub at_least : (st : JobStage) (p : JobState) (dev : AbstractDevice) → IsUnderWay st → 1 ≤ control_variant_at st p dev
at_least Idle p dev u = omega arith
at_least (Running g) p dev u = runs_one p.served p.due g p.session p.client dev
at_least Done p dev u = absurd u
at_least (Ended s w) p dev u = absurd u

-- where no reply is on the way
pub quiet : (st : JobStage) (p : JobState) (dev : AbstractDevice) → p.served ≡ true → p.due ≡ [] → control_variant_at st p dev ≡ stage_variant_of st p.session p.client dev
quiet Idle p dev s d = refl
quiet (Running g) p dev s d = ap (λ (x : Bool). running_variant x p.due g p.session p.client dev) s ∙ ap (λ (x : List AbstractReply). running_variant true x g p.session p.client dev) d
quiet Done p dev s d = refl
quiet (Ended x w) p dev s d = refl

-- in an image
pub image_is : (params : Params) (heard : List ℕ) (p : JobState) (dev : AbstractDevice) (e : Option Status) (c : TransferState) (ph : ScanPhase) → p.served ≡ true → p.due ≡ [] → p.session.ending ≡ e → p.session.transfer ≡ c → dev.phase ≡ ph →
    control_variant_at (Running (Imaging params heard)) p dev ≡ image_variant e c ph (later_pages p.session.job p.client)
image_is params heard p dev e c ph s d x y z =
    quiet (Running (Imaging params heard)) p dev s d ∙ ap (λ (v : Option Status). image_variant v p.session.transfer dev.phase (later_pages p.session.job p.client)) x
    ∙ ap (λ (v : TransferState). image_variant e v dev.phase (later_pages p.session.job p.client)) y ∙ ap (λ (v : ScanPhase). image_variant e c v (later_pages p.session.job p.client)) z
