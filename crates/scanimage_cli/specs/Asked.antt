-- What the options of the program ask for.
use Rattle.std.specs.Prelude.{ℕ, ◌≡◌, ◌++◌, if◌then◌else◌, false, Option, Some, None, IsSome, IsTrue, IfSome, List, []}
use Rattle.std.specs.Prelude.{Contains, codes}
use Rattle.text_lines.specs.Lines.{SplitsAtFirst}
use Rattle.scan_job.specs.declared.job.Task.{Task}
use Rattle.scan_job.specs.declared.job.Task.TheVariants.{List as ListTask, Show, SetOnly, Scan, Batch}
use Rattle.scanimage_cli.specs.declared.options.Options.{Options}

-- the pages of a batch: as many as the option says, or the most
abbrev pub pages_asked : Option ℕ → ℕ
pages_asked None = 16
pages_asked (Some count) = count

-- **what is asked for (`task_asked`, `IsLocal`, `HasConfig`)**: a list goes before a table, that before settings alone,
-- and those before a scan; of this machine is a list without a host, and anything else of a device that is none of the
-- net; what is asked of this machine needs a config.
abbrev pub task_asked : Options → Task
task_asked options =
    if options.list_devices then ListTask
    else (if options.all_options then Show
    else (if options.dont_scan then SetOnly
    else (if options.batch then Batch (pages_asked options.batch_count)
    else Scan)))

-- **what is asked of the net (`IsNetName`, `IsNetNameOf`, `IsAskedOf`, `port_asked`)**: `net:`, and a colon further on;
-- its host is what stands before the first such colon, the device's own name what stands behind it; a list asks the
-- host of `--net` for no device, all else the host of the named device for that device; the port is the one that is
-- said, or 6566.
--
-- `net:`, and then a host and a name with a colon between them
abbrev pub IsNetName : List ℕ → Type 0
IsNetName name = (rest : List ℕ) × (name ≡ codes "net:" ++ rest) × Contains rest 58

-- the host and the device's own name in such a name: the host ends at its first colon
pub record IsNetNameOf (name host device : List ℕ) : Type 0 where
  pub rest : List ℕ
  pub name_is : name ≡ codes "net:" ++ rest
  pub parts : SplitsAtFirst 58 rest host device

-- a list without a host, or anything else of a device that is none of the net
pub record IsLocal (options : Options) : Type 0 where
  pub list : IsTrue options.list_devices → options.net ≡ None
  pub device : options.list_devices ≡ false → IfSome options.device_name (λ name. ¬ IsNetName name)

-- what is asked of this machine needs a config
abbrev pub HasConfig : Options → Type 0
HasConfig options = IsLocal options → IsSome options.config

-- the host that is asked, and the device there: a list asks for none, all else for the named one
pub record IsAskedOf (options : Options) (host device : List ℕ) : Type 0 where
  pub list : IsTrue options.list_devices → (options.net ≡ Some host) × (device ≡ [])
  pub named : options.list_devices ≡ false
      → (name : List ℕ) × (options.device_name ≡ Some name) × IsNetNameOf name host device

-- the port that is said, or else that of SANE's daemon
abbrev pub port_or_default : Option ℕ → ℕ
port_or_default None = 6566
port_or_default (Some port) = port

abbrev pub port_asked : Options → ℕ
port_asked options = port_or_default options.port

-- a batch has files of its own, and a count is that of a batch
pub record IsRightBatch (options : Options) : Type 0 where
  pub own_files : IsTrue options.batch → options.output_file ≡ None
  pub counted : IsSome options.batch_count → IsTrue options.batch
