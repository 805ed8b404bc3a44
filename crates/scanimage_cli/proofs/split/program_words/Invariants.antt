use Rattle.std.proofs.Common.{◌≡◌, ◌++◌, drop}
use Rattle.std.specs.List.{filter_map}
use Rattle.scanimage_cli.specs.WordCut.{program_word}
use Rattle.scanimage_cli.proofs.split.program_words.Given as goal

abbrev pub invariant-loop-item : goal.invariant-loop-item
invariant-loop-item l = l.words.items ++ filter_map program_word (drop l.item-index l.items) ≡ filter_map program_word l.items
