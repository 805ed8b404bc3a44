use Rattle.std.proofs.Common.{◌≡◌, drop}
use Rattle.scanimage_cli.specs.ScanimageOptions.{has_flag}
use Rattle.scanimage_cli.proofs.options.has_flag.Given as goal

abbrev pub invariant-loop-word : goal.invariant-loop-word
invariant-loop-word l = has_flag l.option (drop l.word-index l.words) ≡ has_flag l.option l.words
