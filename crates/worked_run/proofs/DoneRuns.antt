-- A run at rest whose job is done.
use Rattle.std.proofs.Common.{◌≡◌, ◌∙◌, ◌⊎◌, ℕ, None, List, [], ◌∷◌, false, refl, inl, inr, ap, subst}
use Rattle.std.proofs.lemmas.List.Elements.{All-from_recursion}
use Rattle.netpbm.specs.Pnm.{Denotes}
use Rattle.device_api.specs.State.{DeviceState}
use Rattle.frame_join.proofs.StreamLaws.{nothing_is_not_whole}
use Rattle.scan_job.specs.declared.job.Job.{Job}
use Rattle.scan_job.specs.declared.job.Task.TheVariants as tasks
use Rattle.scan_job.specs.declared.outcome.Outcome.TheVariants.{Done}
use Rattle.scan_job.specs.declared.report.Reports.{Reports}
use Rattle.scan_job.specs.JobSize.{HasCount}
use Rattle.client_replies.specs.ProtocolStates.{is_running}
use Rattle.net_client.specs.ClientStates.{ClientState, IsNewClient}
use Rattle.net_jobs.specs.JobSteps.{StepsLead, files_by_steps, given_by_steps}
use Rattle.saned_core.specs.DaemonStates.{Core}
use Rattle.interleaving.specs.Interleavings.{job_journal}
use Rattle.event_world.specs.Worlds.{WorldCore}
use Rattle.scan_world.specs.Histories.{History}
use Rattle.scan_world.specs.Page.{IsScan, IsSteady}
use Rattle.interleaving.proofs.Parts.{in_parts}
use Rattle.programs_refine.specs.StepTraffic.{traffic_of}
use Rattle.programs_refine.specs.Keeping.{AllLoopsAreKept, AreFit, ProgramsKeepAll, history_of}
use Rattle.programs_refine.specs.Programs.{HasOpenedNone, WentOut}
use Rattle.programs_refine.specs.WorkedRuns.{owned_by_first}
use Rattle.programs_refine.proofs.WorkedRuns.{first_owned, one_job}
use Rattle.worked_run.specs.DoneRuns.{IsDoneRun, IsKeptRun}
use Rattle.worked_run.specs.UnderWay.{IsAtRest}

pub is_done_run : (job : Job) (start d : Core) (c : ClientState) (reports : Reports) (file : List ℕ) → HasOpenedNone start → HasCount job.task → IsAtRest false job start d c file → c.outcome ≡ Done reports → IsDoneRun job start reports file
is_done_run job start d c reports file new count r done =
    let u = r.under_way in
    record {
      acts = u.acts;
      last = c;
      run = record {
        new = new;
        owns = first_owned job;
        counts = All-from_recursion (λ (j : Job). HasCount j.task) (job ∷ []) (count, tt);
        loops = record {
          first = λ i. u.first;
          fresh = λ i other e. one_job job other i (λ k j. IsNewClient j u.first) e u.fresh;
          loops = λ i other e. one_job job other i (λ k j. StepsLead u.first (job_journal k u.acts) c) e u.steps;
        };
        end = d;
        before = None;
        after = u.after;
        serves = u.serves;
        hands_on = ((in_parts traffic_of owned_by_first u.acts).0 u.hands_on).0;
        from_daemon = ((in_parts traffic_of owned_by_first u.acts).0 u.hands_on).1;
      };
      done = done;
      went_out = u.view.given ∙ r.gave;
    }

-- an empty text is no scan, so the file is what went out last
scan_of : (h : History) (v : WorldCore) (job : Job) (Batch : Type 0) (turned finished : List (List ℕ)) (last text file : List ℕ) → last ≡ file → IsScan h v 0 job 0 text → WentOut Batch turned last finished text → IsScan h v 0 job 0 file
scan_of h v job Batch turned finished last text file is scan (inl went) = subst (λ (t : List ℕ). IsScan h v 0 job 0 t) (went.1 ∙ is) scan
scan_of h v job Batch turned finished last text file is scan (inr went) = absurd (nothing_is_not_whole (scan.picture, subst (λ (t : List ℕ). Denotes t scan.picture) went.2 scan.denotes))

file_is_scan : (devices : List DeviceState) (job : Job) (d : Core) (reports : Reports) (file : List ℕ) → (is : IsDoneRun job d reports file) → (kept : AllLoopsAreKept devices (job ∷ []) d is.acts (λ i. is.last)) → job.task ≡ tasks.Scan
    → IsSteady (history_of devices kept.seed (job ∷ []) d kept.events) kept.v 0 job.device → IsScan (history_of devices kept.seed (job ∷ []) d kept.events) kept.v 0 job 0 file
file_is_scan devices job d reports file is kept scan steady =
    let k = kept.each 0 job refl (ap is_running is.done) in
    scan_of (history_of devices kept.seed (job ∷ []) d kept.events) kept.v job _ (files_by_steps (job_journal 0 is.acts)) k.ends.finished (given_by_steps (job_journal 0 is.acts)) k.ends.text file is.went_out
    (k.file.scanned reports k.ends.text steady scan is.done refl) k.ends.went_out

pub is_kept_run : ProgramsKeepAll → (devices : List DeviceState) (job : Job) (d : Core) (reports : Reports) (file : List ℕ) → AreFit devices (job ∷ []) d → IsDoneRun job d reports file → IsKeptRun devices job d reports file
is_kept_run all devices job d reports file fit is =
    let kept = all devices (job ∷ []) owned_by_first d is.acts (λ i. is.last) fit is.run in
    record { is = is; kept = kept; scanned = file_is_scan devices job d reports file is kept }
