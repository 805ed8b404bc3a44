-- Where the file of a job is to go, and what it prints.
use Rattle.std.proofs.Common.{ℕ, List, []}
use Rattle.std.specs.Prelude.{⊤}
use Rattle.scan_job.specs.declared.job.Task.{Task}
use Rattle.scan_job.specs.declared.job.Task.TheVariants.{List as ListTask, Show, SetOnly, Scan, Batch}
use Rattle.scanimage_cli.specs.declared.planning.Destination.{Destination}
use Rattle.scanimage_cli.specs.declared.planning.Destination.TheVariants.{StandardOutput, Path, Folder}

abbrev pub IsOut : Destination → Type 0
IsOut StandardOutput = ⊤
IsOut (Path path) = ⊥
IsOut Folder = ⊥

abbrev pub IsPath : Destination → Type 0
IsPath StandardOutput = ⊥
IsPath (Path path) = ⊤
IsPath Folder = ⊥

abbrev pub IsFolder : Destination → Type 0
IsFolder StandardOutput = ⊥
IsFolder (Path path) = ⊥
IsFolder Folder = ⊤

abbrev pub IsListing : Task → Type 0
IsListing ListTask = ⊤
IsListing Show = ⊥
IsListing SetOnly = ⊥
IsListing Scan = ⊥
IsListing (Batch count) = ⊥

abbrev pub path_of : Destination → List ℕ
path_of StandardOutput = []
path_of (Path path) = path
path_of Folder = []
