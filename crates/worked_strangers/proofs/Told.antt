-- What the functions answer, of the facts that their calls give.
use Rattle.std.specs.Prelude.{◌≢◌, All, option_and_then, option_map, slice_get}
use Rattle.std.proofs.Common.{◌≡◌, ◌∙◌, ℕ, zero, suc, List, [], ◌∷◌, Option, Some, None, refl, sym, ap, subst, arith}
use Rattle.md5_auth.specs.declared.users.Entry.{Entry}
use Rattle.page_picture.specs.Page.{PageView}
use Rattle.page_sources.specs.SourceView.{source_state}
use Rattle.sane_fixed.specs.declared.status.Status.TheVariants.{DeviceBusy}
use Rattle.device_api.specs.ScannerLimits.{HasLimits}
use Rattle.saned_core.specs.DaemonStates.{Core}
use Rattle.scan_job.specs.declared.job.Job.{Job}
use Rattle.scan_job.specs.declared.job.Task.TheVariants as tasks
use Rattle.scan_job.specs.declared.outcome.Outcome.TheVariants.{Done, Ended}
use Rattle.scan_job.specs.declared.outcome.Why.TheVariants.{Answer}
use Rattle.scan_job.specs.declared.report.Reports.{Reports}
use Rattle.event_world.specs.declared.endpoint.Endpoint.{Endpoint}
use Rattle.event_world.specs.Rounds.{RoundsRunOut}
use Rattle.event_world.specs.declared.world_fault.WorldFault.{WorldFault}
use Rattle.event_world.specs.declared.world_fault.WorldFault.TheVariants as faults
use Rattle.event_world.specs.Worlds.{AreNew, HasWorldFault, IsFitJob, MayRun, WorldCore}
use Rattle.world_refines.specs.NewWorlds.{IsNewDaemon}
use Rattle.scan_world.specs.Calls.{file_answered, outcome_at}
use Rattle.scan_world.specs.Examples.{IsScanOf}
use Rattle.worked_worlds.specs.Worked.{flatbed_with}
use Rattle.worked_strangers.specs.Inside.{LawsBelow, HasGone, HasLeased}
use Rattle.worked_strangers.specs.Histories.{BusyAmong, IsNotDone, ScannedAmong, UnscannedAmong}
use Rattle.worked_strangers.proofs.Joined.{world_of}
use Rattle.worked_strangers.proofs.Ending.{IsBeside, busy_among, file_meant, scanned_among, taken, unscanned_among}

-- the daemon with its strangers, and the job beside it
pub record Facts (name : List ℕ) (page : PageView) (users : List Entry) (job : Job) (d e f : Core) (w : WorldCore) : Type 0 where
  pub asked : List ℕ
  pub same : asked ≡ name
  pub devices : IsNewDaemon (flatbed_with name page ∷ []) d
  pub users_are : d.users ≡ users
  pub limits : HasLimits (flatbed_with name page)
  pub has : HasLeased asked d e
  pub jobs : List Job
  pub only : jobs ≡ job ∷ []
  pub new : AreNew jobs w.endpoints
  pub may : MayRun jobs
  pub daemon : w.daemon ≡ f

beside : (name : List ℕ) (page : PageView) (users : List Entry) (job : Job) (d e f : Core) (w : WorldCore) → Facts name page users job d e f w → IsBeside name page users job d e w.endpoints
beside name page users job d e f w h = record {
  devices = h.devices;
  users_are = h.users_are;
  limits = h.limits;
  jobs = subst (λ (js : List Job). AreNew js w.endpoints) h.only h.new;
  fit = (subst MayRun h.only h.may).1;
  has = subst (λ (n : List ℕ). HasLeased n d e) h.same h.has;
}

same_world : (f : Core) (w : WorldCore) → w.daemon ≡ f → w ≡ world_of f w.endpoints
same_world f w is = ap (λ (c : Core). world_of c w.endpoints) is

-- how many were opened until one had the flatbed
pub two_opened : (name asked : List ℕ) (page : PageView) (d e : Core) → asked ≡ name → IsNewDaemon (flatbed_with name page ∷ []) d → HasLeased asked d e → e.opened ≡ 2
two_opened name asked page d e same new has = (taken name page d e new (subst (λ (n : List ℕ). HasLeased n d e) same has)).alone.opened

pub busy_by : LawsBelow → (name : List ℕ) (page : PageView) (users : List Entry) (job : Job) (d e : Core) (w v : WorldCore) → Facts name page users job d e e w → RoundsRunOut source_state w v → outcome_at v 0 ≡ Some (Ended DeviceBusy Answer) → BusyAmong name page users job
busy_by below name page users job d e w v h r busy = busy_among below.kept below.goes name page users job d e w.endpoints v (beside name page users job d e e w h) (subst (λ (x : WorldCore). RoundsRunOut source_state x v) (same_world e w h.daemon) r) busy

pub scanned_by : LawsBelow → (name : List ℕ) (page : PageView) (users : List Entry) (job : Job) (d e f : Core) (w v : WorldCore) (reports : Reports) (file copy : List ℕ) → Facts name page users job d e f w → HasGone e f → RoundsRunOut source_state w v → outcome_at v 0 ≡ Some (Done reports) → Some file ≡ file_answered v 0 → copy ≡ file → ScannedAmong name page users job copy
scanned_by below name page users job d e f w v reports file copy h g r done is same =
    subst (ScannedAmong name page users job) (sym same)
    (scanned_among below.kept below.goes name page users job d e f w.endpoints v reports file (beside name page users job d e f w h) g (subst (λ (x : WorldCore). RoundsRunOut source_state x v) (same_world f w h.daemon) r) done (sym is))

pub unscanned_by : LawsBelow → (name : List ℕ) (page : PageView) (users : List Entry) (job : Job) (d e f : Core) (w v : WorldCore) → Facts name page users job d e f w → HasGone e f → RoundsRunOut source_state w v → IsNotDone v → UnscannedAmong name page users job
unscanned_by below name page users job d e f w v h g r undone =
    unscanned_among below.kept below.goes name page users job d e f w.endpoints v (beside name page users job d e f w h) g (subst (λ (x : WorldCore). RoundsRunOut source_state x v) (same_world f w h.daemon) r) undone

pub meant_by : LawsBelow → (name : List ℕ) (page : PageView) (users : List Entry) (job : Job) (d e f : Core) (w v : WorldCore) (reports : Reports) (file copy : List ℕ) → Facts name page users job d e f w → HasGone e f → RoundsRunOut source_state w v → outcome_at v 0 ≡ Some (Done reports) → Some file ≡ file_answered v 0 → copy ≡ file → job.task ≡ tasks.Scan → IsScanOf page job copy
meant_by below name page users job d e f w v reports file copy h g r done is same scan = by (slice_get v.endpoints 0) refl
  where
    by : (o : Option Endpoint) → slice_get v.endpoints 0 ≡ o → IsScanOf page job copy
    by None at = absurd (let clash : Some file ≡ None = is ∙ ap (option_and_then (λ (p : Endpoint). p.file)) at in cc)
    by (Some endpoint) at =
        let there : Some endpoint.client.outcome ≡ Some (Done reports) = sym (ap (option_map (λ (p : Endpoint). p.client.outcome)) at) ∙ done in
        let file_is : endpoint.file ≡ Some file = sym (ap (option_and_then (λ (p : Endpoint). p.file)) at) ∙ sym is in
        subst (IsScanOf page job) (sym same)
        (file_meant below name page users job d e f w.endpoints v endpoint reports file (beside name page users job d e f w h) g (subst (λ (x : WorldCore). RoundsRunOut source_state x v) (same_world f w h.daemon) r) at (let own : endpoint.client.outcome ≡ Done reports = cc in own) file_is scan)

-- ---- why there is no world

all_one : (job : Job) → IsFitJob job → All IsFitJob (job ∷ [])
all_one job h zero d within = h
all_one job h (suc k) d within = absurd (omega (arith, within))

-- a fault of one job that is fit is want of memory
memory_alone : (fault : WorldFault) (job : Job) → HasWorldFault fault (job ∷ []) → IsFitJob job → fault ≡ faults.NoMem
memory_alone faults.SameName job never fit = absurd never
memory_alone faults.TooManyDevices job never fit = absurd never
memory_alone faults.TooManyJobs job many fit = absurd (omega (arith, many))
memory_alone faults.BadJob job (few, bad) fit = absurd (bad (all_one job fit))
memory_alone faults.NoMem job may fit = refl

pub refused_by : (fault : WorldFault) (jobs : List Job) (job : Job) → jobs ≡ job ∷ [] → HasWorldFault fault jobs → fault ≢ faults.NoMem → ¬ IsFitJob job
refused_by fault jobs job only has other fit = other (memory_alone fault job (subst (HasWorldFault fault) only has) fit)
