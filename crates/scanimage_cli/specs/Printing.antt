-- What a job that is done prints.
use Rattle.std.specs.Prelude.{ℕ, ◌≡◌, ◌<◌, ◌⊎◌, Bool, true, List, [], Option, length, take}
use Rattle.std.specs.Io.KnownBytes.{Appends}
use Rattle.scan_job.specs.declared.job.Task.{Task}
use Rattle.scan_job.specs.declared.job.Task.TheVariants.{List as ListTask, Show, SetOnly, Scan, Batch}
use Rattle.scan_job.specs.declared.report.Reports.{Reports}
use Rattle.scanimage_cli.specs.DeviceList.{device_lines}
use Rattle.scanimage_cli.specs.OptionTable.{table_text}
use Rattle.scanimage_cli.specs.RoundedLines.{rounded_text}
use Rattle.scanimage_cli.specs.declared.printed.Printout.{Printout}

-- a job that lists devices prints the list of them, one that shows options their table, and no other anything
abbrev pub printed_table : Task → List ℕ → List ℕ → Reports → List ℕ
printed_table ListTask prefix device reports = device_lines prefix reports.devices
printed_table Show prefix device reports = table_text device reports.options
printed_table SetOnly prefix device reports = []
printed_table Scan prefix device reports = []
printed_table (Batch count) prefix device reports = []

-- **prints (`Prints`, `printed_table`)**: the list of devices of a job that lists, the table of options of one that
-- shows them, nothing else on standard output; and a line for each report whose info has INEXACT.
--
-- and beside it a line of each setting that was rounded
pub record Prints (task : Task) (prefix device : List ℕ) (reports : Reports) (printed : Printout) : Type 0 where
  pub table : printed.table.items ≡ printed_table task prefix device reports
  pub rounded : printed.rounded.items ≡ rounded_text reports.settings

-- **printed, or an output failed (`TakesOrFails`)**: the writer took all of the lines; or it took a proper front of
-- them, and it is noted that an output failed.
abbrev pub TakesOrFails : Option (List ℕ) → Option (List ℕ) → List ℕ → Bool → Type 0
TakesOrFails old new lines failed = Appends old new lines
    ⊎ ((n : ℕ) × (n < length lines) × Appends old new (take n lines) × (failed ≡ true))
