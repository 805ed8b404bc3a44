-- The exit statuses of saned.
use Rattle.std.specs.Prelude.{ℕ, ◌≡◌, ◌≢◌, ◌⊎◌}
use Rattle.config_pages.specs.declared.devices.DeviceFault.{DeviceFault}
use Rattle.config_pages.specs.declared.devices.DeviceFault.TheVariants.{NoPage, NoMem}
use Rattle.saned_cli.specs.declared.daemon_ending.DaemonEnding.{DaemonEnding}
use Rattle.saned_cli.specs.declared.daemon_options.DaemonOptionsFault.{DaemonOptionsFault}
use Rattle.saned_cli.specs.declared.daemon_options.DaemonOptionsFault.TheVariants.{Bad}
use Rattle.saned_cli.specs.declared.daemon_options.DaemonOptionsFault.TheVariants as option_faults
use Rattle.saned_cli.specs.declared.daemon_ending.DaemonEnding.TheVariants.{BadCommandLine, BadSeed, CannotRead, Config}
use Rattle.saned_cli.specs.declared.daemon_ending.DaemonEnding.TheVariants.{Page, Users, CannotListen}
use Rattle.saned_cli.specs.declared.daemon_ending.DaemonEnding.TheVariants.{NoMemory, CannotWrite}

-- 64 for the command line, 65 for what it names, 9 for a port that cannot be had or a text that cannot be written, and
-- 10 for lack of memory
abbrev pub daemon_exit_status : DaemonEnding → ℕ
daemon_exit_status BadCommandLine = 64
daemon_exit_status BadSeed = 65
daemon_exit_status (CannotRead path) = 65
daemon_exit_status (Config fault) = 65
daemon_exit_status (Page line why) = 65
daemon_exit_status (Users fault) = 65
daemon_exit_status CannotListen = 9
daemon_exit_status NoMemory = 10
daemon_exit_status CannotWrite = 9

-- an ending whose exit status is not 0
abbrev pub IsDaemonFailure : DaemonEnding → Type 0
IsDaemonFailure ending = daemon_exit_status ending ≢ 0

-- as the program begins to serve its port cannot be had, or there is no memory
abbrev pub IsServeFailure : DaemonEnding → Type 0
IsServeFailure ending = (ending ≡ CannotListen) ⊎ (ending ≡ NoMemory)

-- the words of the command line are no options, or there is no memory
abbrev pub daemon_ended_by_options : DaemonOptionsFault → DaemonEnding
daemon_ended_by_options Bad = BadCommandLine
daemon_ended_by_options option_faults.NoMem = NoMemory

-- a line of the config has no scanner: its page is not there, or there is no memory
abbrev pub daemon_ended_by_device : ℕ → DeviceFault → DaemonEnding
daemon_ended_by_device line (NoPage why) = Page line why
daemon_ended_by_device line NoMem = NoMemory
