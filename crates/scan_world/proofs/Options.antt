-- While a frame streams the options of its device are those that the job's settings put in force.
use Rattle.std.proofs.Common.{◌≡◌, ◌∙◌, ℕ, List, Some, inl, inr, sym, ap}
use Rattle.system_model.specs.AbstractMessages.{AbstractReport}
use Rattle.system_model.specs.Devices.{Make, OptionsInForce}
use Rattle.system_model.specs.AbstractInForce.{abstract_in_force}
use Rattle.system_model.specs.Client.{JobStage, Idle, Running, Done, Ended, AbstractProgress, Greeting, Listing, Opening, Allowing, Describing, Putting, Getting, Starting, Shaping, Imaging, ClientView}
use Rattle.system_model.specs.AbstractDevices.{AbstractDevice}
use Rattle.system_model.specs.Daemon.{TransferState, Quiet, Waiting, Streaming, Ending}
use Rattle.system_model.specs.SystemStates.{SessionView, JobState}
use Rattle.system_model.specs.Transitions.{IsUnderWay}
use Rattle.system_model.specs.Sync.{InSync, Images, DataUnderWay, Scans}
use Rattle.system_model.specs.Invariants.{IsCalm, StageInvariant}

-- its options are in force
abbrev pub IsForced : Make → SessionView → AbstractDevice → Type 0
IsForced k b dev = (reports : List AbstractReport) × (abstract_in_force k b.job.settings ≡ Some (record { options = dev.options; reports = reports }))

-- of a job that scans they are
abbrev pub IsStreamed : Make → SessionView → AbstractDevice → Type 0
IsStreamed k b dev = IsForced k b dev × Scans b.job.task

quiet : {A : Type 0} (b : SessionView) → b.transfer ≡ Quiet → b.transfer ≡ Streaming → A
quiet b q s = absurd (let clash : Quiet ≡ Streaming = sym q ∙ s in cc)

waiting : {A : Type 0} (b : SessionView) → b.transfer ≡ Waiting → b.transfer ≡ Streaming → A
waiting b q s = absurd (let clash : Waiting ≡ Streaming = sym q ∙ s in cc)

images : (i : ℕ) (k : Make) (b : SessionView) (m : ClientView) (dev : AbstractDevice) (params : _) (heard : List ℕ) → b.transfer ≡ Streaming → (h : Images i k b m dev params heard) → DataUnderWay i k b dev h.continues.begin.options h.more heard h.rest → IsStreamed k b dev
images i k b m dev params heard s h (inl f) = ((m.reports, h.continues.settled.forced ∙ ap (λ (o : OptionsInForce). Some (record { options = o; reports = m.reports })) (sym f.held.options_are)), h.continues.scans)
images i k b m dev params heard s h (inr (inl f)) = quiet b f.transfer s
images i k b m dev params heard s h (inr (inr (inl f))) = quiet b f.transfer s
images i k b m dev params heard s h (inr (inr (inr f))) = quiet b f.transfer s

synced : (i : ℕ) (k : Make) (b : SessionView) (m : ClientView) (dev : AbstractDevice) (g : AbstractProgress) → b.transfer ≡ Streaming → InSync i k b m dev g → IsStreamed k b dev
synced i k b m dev Greeting s h = quiet b h.transfer s
synced i k b m dev Listing s h = quiet b h.0.transfer s
synced i k b m dev Opening s h = quiet b h.0.transfer s
synced i k b m dev (Allowing c) s h = quiet b h.0.transfer s
synced i k b m dev (Describing left) s h = quiet b h.1.still.transfer s
synced i k b m dev (Putting n value wish left) s h = quiet b h.settles.still.transfer s
synced i k b m dev (Getting n left) s h = quiet b h.still.transfer s
synced i k b m dev Starting s (inl h) = quiet b h.still.transfer s
synced i k b m dev Starting s (inr h) = quiet b h.still.transfer s
synced i k b m dev Shaping s h = waiting b h.transfer s
synced i k b m dev (Imaging params heard) s h = images i k b m dev params heard s h h.carries

calm : {A : Type 0} (c : TransferState) → c ≡ Streaming → IsCalm c → A
calm Quiet e h = absurd (let clash : Quiet ≡ Streaming = e in cc)
calm Waiting e h = absurd (let clash : Waiting ≡ Streaming = e in cc)
calm Streaming e h = absurd h
calm Ending e h = absurd h

pub streaming : (i : ℕ) (k : Make) (p : JobState) (dev : AbstractDevice) (stage : JobStage) → IsUnderWay stage → StageInvariant i k p dev stage → p.session.transfer ≡ Streaming → IsStreamed k p.session dev
streaming i k p dev Idle on h s = quiet p.session h.3.transfer s
streaming i k p dev (Running g) on (inl h) s = synced i k p.session p.client dev g s h.in_sync
streaming i k p dev (Running g) on (inr (inl h)) s = calm p.session.transfer s h.calm
streaming i k p dev (Running g) on (inr (inr h)) s = quiet p.session h.transfer s
streaming i k p dev Done on h s = absurd on
streaming i k p dev (Ended status why) on h s = absurd on
