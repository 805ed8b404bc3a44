use Rattle.std.proofs.Common.{◌≡◌, ◌++◌, drop}
use Rattle.std.specs.Prelude.{map}
use Rattle.std.specs.List.{concat}
use Rattle.scanimage_cli.specs.RoundedLines.{report_line}
use Rattle.scanimage_cli.proofs.rounding.rounded_lines.Given as goal

abbrev pub invariant-loop-report : goal.invariant-loop-report
invariant-loop-report l = l.lines.items ++ concat (map report_line (drop l.report-index l.reports)) ≡ concat (map report_line l.reports)
