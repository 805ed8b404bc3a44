-- How large a job may be.
use Rattle.std.specs.Prelude.{ℕ, ◌≤◌, ◌<◌, Option, Some, None, List, All, length}
use Rattle.scan_job.specs.declared.job.Job.{Job}
use Rattle.scan_job.specs.declared.job.JobFault.{JobFault}
use Rattle.scan_job.specs.declared.job.JobFault.TheVariants.{TooManySettings, TextTooLong, NoMem, BadCount}
use Rattle.scan_job.specs.declared.job.Task.{Task}
use Rattle.scan_job.specs.declared.job.Task.TheVariants as tasks

-- a text of a job
abbrev pub IsJobText : List ℕ → Type 0
IsJobText text = length text ≤ 1023

-- **size of a job (`HasJobSize`)**: at most 64 settings, and no text of more than 1,023 bytes.
pub record HasJobSize (job : Job) : Type 0 where
  pub few : length job.settings.items ≤ 64
  pub user : IsJobText job.user
  pub password : IsJobText job.password
  pub device : IsJobText job.device
  pub settings : All (λ setting. IsJobText setting.0 × IsJobText setting.1) job.settings.items

-- the task scans pages to a file each
abbrev pub IsBatch : Task → Type 0
IsBatch tasks.List = ⊥
IsBatch tasks.Show = ⊥
IsBatch tasks.SetOnly = ⊥
IsBatch tasks.Scan = ⊥
IsBatch (tasks.Batch count) = Unit {0}

-- a batch is one of 1 to 16 pages
abbrev pub HasCount : Task → Type 0
HasCount tasks.List = Unit {0}
HasCount tasks.Show = Unit {0}
HasCount tasks.SetOnly = Unit {0}
HasCount tasks.Scan = Unit {0}
HasCount (tasks.Batch count) = (1 ≤ count) × (count ≤ 16)

-- the fault of a job that is refused, or none
abbrev pub HasJobFault : Job → Option JobFault → Type 0
HasJobFault job None = HasJobSize job × HasCount job.task
HasJobFault job (Some TooManySettings) = 64 < length job.settings.items
HasJobFault job (Some TextTooLong) = (length job.settings.items ≤ 64) × (HasJobSize job → ⊥)
-- out of memory comes last
HasJobFault job (Some NoMem) = HasJobSize job × HasCount job.task
HasJobFault job (Some BadCount) = HasJobSize job × (HasCount job.task → ⊥)
