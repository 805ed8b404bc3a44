use Rattle.std.proofs.Common.{◌≡◌, ◌++◌, drop}
use Rattle.std.specs.List.{filter_map}
use Rattle.scanimage_cli.specs.WordCut.{named_setting}
use Rattle.scanimage_cli.proofs.split.named_settings.Given as goal

abbrev pub invariant-loop-item : goal.invariant-loop-item
invariant-loop-item l = l.settings.items ++ filter_map named_setting (drop l.item-index l.items) ≡ filter_map named_setting l.items
