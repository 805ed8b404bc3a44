use Rattle.std.proofs.Common.{drop, map}
use Rattle.std.specs.Prelude.{All}
use Rattle.page_sources.specs.SourceView.{source_state}
use Rattle.device_api.specs.ScannerLimits.{IsHeldPage}
use Rattle.device_api.specs.State.{held_from}
use Rattle.virtual_scanner.proofs.tray.see_limits.Given as goal

-- if those that follow have the limits, all have
abbrev pub invariant-loop-page : goal.invariant-loop-page
invariant-loop-page l = All IsHeldPage (map held_from (map source_state (drop l.page-index l.tray))) → All IsHeldPage (map held_from (map source_state l.tray))
