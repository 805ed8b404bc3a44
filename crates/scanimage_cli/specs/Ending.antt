-- The exit statuses of scanimage, and the lines that tell its endings.
use Rattle.std.specs.Prelude.{ℕ, ◌≡◌, ◌≢◌, ◌∷◌, [], ⊤, List, Option, Some, None, codes, decimal}
use Rattle.std.specs.List.{concat}
use Rattle.sane_fixed.specs.Status.{status_code, status_name}
use Rattle.sane_fixed.specs.declared.status.Status.TheVariants.{Inval, NoMem}
use Rattle.scan_job.specs.declared.job.Job.{Job}
use Rattle.scan_job.specs.declared.outcome.Why.TheVariants.{Memory, Setting, Sink}
use Rattle.scan_job.specs.declared.stop.Stop.{Stop}
use Rattle.scan_job.specs.JobSize.{HasJobFault}
use Rattle.scan_job.specs.Why.{why_word}
use Rattle.dispatch.specs.ConfigReasons.{config_reason_text}
use Rattle.config_pages.specs.Texts.{no_page_text}
use Rattle.config_pages.specs.declared.devices.DeviceFault.{DeviceFault}
use Rattle.config_pages.specs.declared.devices.DeviceFault.TheVariants as faults
use Rattle.config_pages.specs.declared.devices.DeviceFault.TheVariants.{NoPage}
use Rattle.scanimage_cli.specs.declared.options.OptionsFault.{OptionsFault}
use Rattle.scanimage_cli.specs.declared.options.OptionsFault.TheVariants.{Bad}
use Rattle.scanimage_cli.specs.declared.options.OptionsFault.TheVariants as option_faults
use Rattle.scanimage_cli.specs.declared.word_cut.SplitFault.{SplitFault}
use Rattle.scanimage_cli.specs.declared.word_cut.SplitFault.TheVariants as split_faults
use Rattle.scanimage_cli.specs.declared.ending.Ending.{Ending}
use Rattle.scanimage_cli.specs.declared.ending.Ending.TheVariants.{BadCommandLine, CannotRead, Config, Page, Ended}

-- **exit statuses (`exit_status`)**: 64 for the command line, 65 for files that it names, and else the number of the
-- status.
abbrev pub exit_status : Ending → ℕ
exit_status BadCommandLine = 64
exit_status (CannotRead path) = 65
exit_status (Config fault) = 65
exit_status (Page line why) = 65
exit_status (Ended status why) = status_code status

-- an ending whose exit status is not 0
abbrev pub IsFailure : Ending → Type 0
IsFailure ending = exit_status ending ≢ 0

-- **told of an output (`IsOfOutput`)**: the cause that an ending names is that an output did not take what it was
-- given.
abbrev pub IsOfOutput : Ending → Type 0
IsOfOutput BadCommandLine = ⊥
IsOfOutput (CannotRead path) = ⊥
IsOfOutput (Config fault) = ⊥
IsOfOutput (Page line why) = ⊥
IsOfOutput (Ended status why) = why ≡ Sink

-- **told of a job (`IsOfJob`)**: an ending is a status and its cause, and none of the command line or of a file that it
-- names.
abbrev pub IsOfJob : Ending → Type 0
IsOfJob BadCommandLine = ⊥
IsOfJob (CannotRead path) = ⊥
IsOfJob (Config fault) = ⊥
IsOfJob (Page line why) = ⊥
IsOfJob (Ended status why) = ⊤

-- a line of the config has no scanner: its page is not there, or there is no memory
abbrev pub ended_by_device : ℕ → DeviceFault → Ending
ended_by_device line (NoPage why) = Page line why
ended_by_device line faults.NoMem = Ended NoMem Memory

-- the words of the command line cannot be split, or the program's own are no options; or there is no memory for them
abbrev pub ended_by_split : SplitFault → Ending
ended_by_split split_faults.Bad = BadCommandLine
ended_by_split split_faults.NoMem = Ended NoMem Memory

abbrev pub ended_by_options : OptionsFault → Ending
ended_by_options Bad = BadCommandLine
ended_by_options option_faults.NoMem = Ended NoMem Memory

-- a job that stopped is told by its status and why
abbrev pub ended_by : Stop → Ending
ended_by stop = Ended stop.status stop.why

-- **refused for its size (`JobIsRefusedAs`)**: a job with a fault of its size ends as INVAL, setting, and no other is
-- refused so.
--
-- a job that is too large, or a batch of none or too many pages, ends as a setting that is refused
abbrev pub JobIsRefusedAs : Job → Option Ending → Type 0
JobIsRefusedAs job None = HasJobFault job None
JobIsRefusedAs job (Some ending) = (ending ≡ Ended Inval Setting) × (HasJobFault job None → ⊥)

-- a line of the config that is refused, and why
abbrev pub config_line_text : ℕ → List ℕ → List ℕ
config_line_text line reason =
    concat (codes "scanimage: config line " ∷ decimal line ∷ codes ": " ∷ reason ∷ codes "\n" ∷ [])

-- **the line of an ending (`ending_line`)**: that the command line is bad; the file that cannot be read; the line of
-- the config and why it is refused or its page not there; or the status and its cause.
abbrev pub ending_line : Ending → List ℕ
ending_line BadCommandLine = codes "scanimage: bad command line\n"
ending_line (CannotRead path) = concat (codes "scanimage: cannot read " ∷ path ∷ codes "\n" ∷ [])
ending_line (Config fault) = config_line_text fault.line (config_reason_text fault.reason)
ending_line (Page line why) = config_line_text line (no_page_text why)
ending_line (Ended status why) =
    concat (codes "scanimage: " ∷ status_name status ∷ codes " (" ∷ why_word why ∷ codes ")\n" ∷ [])
