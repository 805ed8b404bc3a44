use Rattle.std.proofs.Common.{rules, ◌≡◌, ◌∷◌, ◌+◌, drop}
use Rattle.local_job.proofs.Puts.{cut_at}
use Rattle.scanimage_cli.specs.RoundedLines.{report_line}
use Rattle.scanimage_cli.proofs.JoinLemmas.{more_lines}
use Rattle.scanimage_cli.proofs.rounding.rounded_lines.Goals as goal

pub loop-report-preserved : goal.loop-report-preserved
loop-report-preserved c =
    let cut : drop c.loop-report.report-index c.args.reports.now ≡ c.report-item.result ∷ drop (c.loop-report.report-index + 1) c.args.reports.now = search (rules, cut_at c.args.reports.now c.loop-report.report-index c.report-item.result) in
    more_lines report_line c.loop-report.lines.items _ _ _ c.report-item.result _ cut c.in_ok-add_report.ensures c.loop-report.invariant
