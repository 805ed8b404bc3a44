-- What the words of scanimage's command line have it do.
use Rattle.std.specs.Prelude.{ℕ, ◌≡◌, ◌⊎◌, if◌then◌else◌, Option, Some, None, option_map, List, [], codes}
use Rattle.std.specs.Str.{bytes_eq}
use Rattle.sane_fixed.specs.declared.status.Status.TheVariants.{NoMem}
use Rattle.scan_job.specs.declared.job.Task.{Task}
use Rattle.scan_job.specs.declared.job.Task.TheVariants.{List as ListTask, Show, SetOnly, Scan, Batch}
use Rattle.scan_job.specs.declared.outcome.Why.TheVariants.{Memory}
use Rattle.scanimage_cli.specs.Asked.{task_asked, IsLocal, IsAskedOf, HasConfig, IsRightBatch, port_asked}
use Rattle.scanimage_cli.specs.ScanimageOptions.{AreScanimageOptions}
use Rattle.scanimage_cli.specs.WordCut.{split_of}
use Rattle.scanimage_cli.specs.declared.ending.Ending.{Ending}
use Rattle.scanimage_cli.specs.declared.ending.Ending.TheVariants.{BadCommandLine, Ended}
use Rattle.scanimage_cli.specs.declared.options.Options.{Options}
use Rattle.scanimage_cli.specs.declared.planning.Destination.{Destination}
use Rattle.scanimage_cli.specs.declared.planning.Destination.TheVariants as destinations
use Rattle.scanimage_cli.specs.declared.planning.Input.{Input}
use Rattle.scanimage_cli.specs.declared.planning.Input.TheVariants as inputs
use Rattle.scanimage_cli.specs.declared.planning.Location.{Location}
use Rattle.scanimage_cli.specs.declared.planning.Location.TheVariants.{Here, There}
use Rattle.scanimage_cli.specs.declared.planning.Plan.{Plan}

-- what is read as the config: `-` is standard input, anything else a path
abbrev pub input_named : List ℕ → Input
input_named path = if bytes_eq path (codes "-") then inputs.StandardInput else inputs.Path path

-- who asks, where nobody is named
abbrev pub user_or_anybody : Option (List ℕ) → List ℕ
user_or_anybody None = codes "user"
user_or_anybody (Some user) = user

-- the file that is named, or else standard output
abbrev pub output_or_standard : Option (List ℕ) → Destination
output_or_standard None = destinations.StandardOutput
output_or_standard (Some path) = destinations.Path path

-- where the file of a task goes: only a scan has one that can be named, and the files of a batch go to the current
-- folder
abbrev pub destination_of : Task → Option (List ℕ) → Destination
destination_of ListTask path = destinations.StandardOutput
destination_of Show path = destinations.StandardOutput
destination_of SetOnly path = destinations.StandardOutput
destination_of Scan path = output_or_standard path
destination_of (Batch count) path = destinations.Folder

-- the device is here, the named one or the first, or at the host, port and name that are asked
abbrev pub IsLocationOf : Options → Location → Type 0
IsLocationOf options (Here device) = IsLocal options × (device ≡ options.device_name)
IsLocationOf options (There remote) = IsAskedOf options remote.host remote.device × (remote.port ≡ port_asked options)
    × (remote.dial_first ≡ options.dial_first)

-- what is asked of this machine has a config, and a batch has files of its own
pub record IsComplete (options : Options) : Type 0 where
  pub config : HasConfig options
  pub batch : IsRightBatch options

-- each part of the plan is what the options say of it, and its settings those of the command line, of which a list has
-- none
pub record IsPlanned (options : Options) (settings : List (List ℕ × List ℕ)) (plan : Plan) : Type 0 where
  pub config : plan.config ≡ option_map input_named options.config
  pub password_file : plan.password_file ≡ options.password_file
  pub location : IsLocationOf options plan.location
  pub user : plan.job.user ≡ user_or_anybody options.user
  pub settings_are : plan.job.settings.items ≡ (if options.list_devices then [] else settings)
  pub task : plan.job.task ≡ task_asked options
  pub destination : plan.job.destination ≡ destination_of plan.job.task options.output_file

-- **the plan of a command line (`IsPlanOf`, `IsPlanned`)**: the words are split, the program's words have these
-- options, which are complete, and each part of the plan is what they say: what is read as config and password, where
-- the device is, who asks, the settings, the task, and where its file goes.
pub record IsPlanOf (words : List (List ℕ)) (plan : Plan) : Type 0 where
  pub program : List (List ℕ)
  pub settings : List (List ℕ × List ℕ)
  pub options : Options
  pub split : split_of words ≡ Some (program, settings)
  pub read : AreScanimageOptions program options
  pub complete : IsComplete options
  pub planned : IsPlanned options settings plan

-- options with which there is no plan: for want of memory, or since they are not complete
abbrev pub RefusesOptions : Options → Ending → Type 0
RefusesOptions options ending = (ending ≡ Ended NoMem Memory) ⊎ ((ending ≡ BadCommandLine) × (IsComplete options → ⊥))

-- **a command line without a plan (`IsPlanRefusal`)**: there is no memory for a plan. Or the command line is told as
-- bad, and no plan is one of these words.
abbrev pub IsPlanRefusal : List (List ℕ) → Ending → Type 0
IsPlanRefusal words ending = (ending ≡ Ended NoMem Memory)
    ⊎ ((ending ≡ BadCommandLine) × ((plan : Plan) → IsPlanOf words plan → ⊥))
