-- What the outputs of a job hold, and what a job leaves of them that does not end well.
use Rattle.std.specs.Prelude.{ℕ, ◌+◌, ◌≡◌, ◌⊎◌, Option, List, [], ◌∷◌, ◌++◌, All, length}
use Rattle.netpbm.specs.Pnm.{IsWhole}
use Rattle.netpbm.specs.NoFile.{HoldsNoFile}
use Rattle.recorded.specs.Names.{IsNamed}
use Rattle.scan_job.specs.FileOutputs.{AreLeft, TakesBack, refused_output}
use Rattle.scan_job.specs.Shelves.{Stock, ReturnedOutput}
use Rattle.scan_job.specs.declared.job.Task.TheVariants.{Scan, Batch}
use Rattle.local_job.specs.LocalPages.{outputs_from}
use Rattle.local_job.specs.LocalRun.{LeavesNoFile}
use Rattle.scanimage_cli.specs.CallStreams.{FilesHeld, files_held}
use Rattle.scanimage_cli.specs.declared.planning.Destination.{Destination}
use Rattle.scanimage_cli.specs.declared.planning.Destination.TheVariants.{StandardOutput, Path, Folder}
use Rattle.scanimage_cli.specs.declared.planning.JobPlan.{JobPlan}

-- what standard output holds, and the outputs of files, where they tell
pub record JobOutputs : Type 0 where
  pub out : Option (List ℕ)
  pub files : FilesHeld

abbrev pub job_outputs : Option (List ℕ) → Option (List ℕ) → Option Stock → JobOutputs
job_outputs out named stock = record { out = out; files = files_held named stock }

-- a shelf kept whole files, numbered from 1, and was given back one output more at most, which it refused, or of which
-- no front is a whole file
pub record LeavesPages (was now : Option Stock) : Type 0 where
  pub texts : List (List ℕ)
  pub whole : All IsWhole texts
  pub last : List ℕ
  pub left : List ReturnedOutput
  pub is_left : AreLeft (length texts + 1) last left
  pub unfinished : HoldsNoFile last ⊎ (left ≡ refused_output (length texts + 1) last ∷ [])
  pub outputs : TakesBack was (outputs_from 1 texts ++ left) now

-- **no file is left of a job that does not end well (`LeavesNone`, `LeavesPages`, `LeavesNoneOfPlan`)**: no front of
-- what its output took is a whole file, on standard output or in the one file that was named, and no other output was
-- touched. A batch leaves the files of its finished pages. A job without a file touches none.
abbrev pub LeavesNone : Destination → JobOutputs → JobOutputs → Type 0
LeavesNone StandardOutput was now = LeavesNoFile was.out now.out × (now.files ≡ was.files)
LeavesNone (Path path) was now = ((now.files.named ≡ was.files.named)
    ⊎ ((begun : Option (List ℕ)) × IsNamed path was.files.named begun × LeavesNoFile begun now.files.named))
    × (now.out ≡ was.out) × (now.files.stock ≡ was.files.stock)
LeavesNone Folder was now = LeavesPages was.files.stock now.files.stock × (now.out ≡ was.out)
    × (now.files.named ≡ was.files.named)

-- the same of a plan, whose list or table may be printed in part
pub record LeavesNoneOfPlan (plan : JobPlan) (was now : JobOutputs) : Type 0 where
  pub scan : plan.task ≡ Scan → LeavesNone plan.destination was now
  pub batch : (count : ℕ) → plan.task ≡ Batch count → LeavesNone plan.destination was now
  pub spares : plan.destination ≡ StandardOutput → now.files ≡ was.files
