-- The settings that were given another value than they asked for.
use Rattle.std.specs.Prelude.{◌%◌, ◌==◌, Bool}
use Rattle.scan_job.specs.declared.report.Report.{Report}

-- INEXACT, the lowest bit, stands in the report's info
abbrev pub is_rounded : Report → Bool
is_rounded report = report.info.0 % 2 == 1
