-- The job of a plan: its size, and what ends it where it scans nothing.
use Rattle.std.proofs.Common.{Option, ◌≡◌, ◌≢◌, ◌∙◌, ℕ, List, [], refl, sym, ap, subst, ◌≤◌, length, arith, Some}
use Rattle.std.specs.Prelude.{All, codes}
use Rattle.sane_fixed.specs.declared.status.Status.TheVariants as statuses
use Rattle.scan_frames.specs.declared.setup.Setup.{Setup}
use Rattle.device_api.specs.InForce.{Placement, in_force}
use Rattle.device_api.specs.State.{DeviceState}
use Rattle.scan_job.specs.JobSize.{HasJobSize, IsBatch, IsJobText}
use Rattle.scan_job.specs.declared.job.Job.{Job}
use Rattle.scan_job.specs.declared.job.Task.{Task}
use Rattle.scan_job.specs.declared.job.Task.TheVariants.{Scan}
use Rattle.scan_job.specs.declared.outcome.Why.TheVariants as whys
use Rattle.local_job.specs.LocalRun.{IsTakenJob, settings_put}
use Rattle.scanimage_cli.specs.Causes.{EndsPlanned}
use Rattle.scanimage_cli.specs.Doing.{EndsJob}
use Rattle.scanimage_cli.specs.Ending.{ended_by}
use Rattle.scanimage_cli.specs.JobOutputs.{JobOutputs}
use Rattle.scanimage_cli.specs.Programs.{AskedHere, IsJobOf, asked_here}
use Rattle.scanimage_cli.specs.declared.planning.Input.TheVariants.{StandardInput}
use Rattle.scanimage_cli.specs.declared.planning.Plan.{Plan}
use Rattle.worked_programs.proofs.Plans.{PlansHere}
use Rattle.scanimage_cli.specs.declared.ending.Ending.{Ending}
use Rattle.scanimage_cli.specs.declared.ending.Ending.TheVariants.{Ended}
use Rattle.scanimage_cli.specs.declared.planning.Destination.{Destination}
use Rattle.scanimage_cli.specs.declared.planning.Destination.TheVariants.{StandardOutput, Path}

abbrev pub AreShort : List (List ℕ × List ℕ) → Type 0
AreShort items = (length items ≤ 64) × All (λ (setting : List ℕ × List ℕ). IsJobText setting.0 × IsJobText setting.1) items

short_by : (text own : List ℕ) → text ≡ own → IsJobText own → IsJobText text
short_by text own same short = subst IsJobText (sym same) short

-- the job of what is asked for, on the device of that name
pub record AsksFor (asked : AskedHere) (name : List ℕ) (task : Task) (items : List (List ℕ × List ℕ)) : Type 0 where
  pub task_is : asked.plan.task ≡ task
  pub settings_are : asked.plan.settings.items ≡ items
  pub user_is : asked.plan.user ≡ codes "user"
  pub password_is : asked.password ≡ []
  pub short_name : IsJobText name
  pub short : AreShort items

pub asks_for : (plan : Plan) (named : Option (List ℕ)) (items : List (List ℕ × List ℕ)) (task : Task) (destination : Destination) (name : List ℕ)
    → PlansHere plan (Some StandardInput) named items task destination → IsJobText name → AreShort items
    → AsksFor (asked_here named plan.job []) name task items
asks_for plan named items task destination name p short_name short = record {
  task_is = p.task_is;
  settings_are = p.settings_are;
  user_is = p.user_is;
  password_is = refl;
  short_name = short_name;
  short = short;
}

module _ (asked : AskedHere) (name : List ℕ) (task : Task) (items : List (List ℕ × List ℕ)) (for : AsksFor asked name task items) (job : Job)
    (own : IsJobOf asked.plan asked.password job) (called : job.device ≡ name) where
  pub job_task : job.task ≡ task
  job_task = own.task ∙ for.task_is

  pub job_items : job.settings.items ≡ items
  job_items = ap (λ s. s.items) own.settings_are ∙ for.settings_are

  pub job_size : HasJobSize job
  job_size =
      let short : AreShort job.settings.items = subst AreShort (sym job_items) for.short in
      record {
        few = short.0;
        user = short_by job.user (codes "user") (own.user ∙ for.user_is) (omega arith);
        password = short_by job.password [] (own.password_is ∙ for.password_is) (omega arith);
        device = short_by job.device name called for.short_name;
        settings = short.1;
      }

  pub job_taken : (IsBatch task → ⊥) → IsTakenJob job
  job_taken one = record { size = job_size; one_file = λ batch. one (subst IsBatch job_task batch) }

-- a job that scans nothing, and whose settings are in force, ends for want of memory alone
pub plain_end : (job : Job) (old new : DeviceState) (forced : Setup × List Placement) (ending : Ending) → IsTakenJob job
    → in_force old.setup.scene.kind old.setup.order (settings_put job.task job.settings.items) ≡ Some forced → job.task ≢ Scan
    → EndsJob old job new ending → ending ≡ Ended statuses.NoMem whys.Memory
plain_end job old new forced ending taken put none ends = ends.told ∙ ap ended_by (ends.reason.put forced (record { taken = taken; put = put }) none)

-- where the job has one file
abbrev pub IsOne : Destination → Type 0
IsOne destination = (job : Job) (device : DeviceState × DeviceState) (was now : JobOutputs) (ending : Ending)
    → EndsPlanned destination job device was now ending → EndsJob device.0 job device.1 ending

pub one_on_output : (destination : Destination) → destination ≡ StandardOutput → IsOne destination
one_on_output destination is = subst IsOne (sym is) (λ job device was now ending ends. ends)

pub one_on_path : (destination : Destination) (path : List ℕ) → destination ≡ Path path → IsOne destination
one_on_path destination path is = subst IsOne (sym is) (λ job device was now ending ends. ends)
