use Rattle.std.proofs.Common.{◌≡◌, drop}
use Rattle.scanimage_cli.specs.ScanimageOptions.{program_option_value}
use Rattle.scanimage_cli.proofs.options.program_option_value.Given as goal

abbrev pub invariant-loop-word : goal.invariant-loop-word
invariant-loop-word l = program_option_value l.option (drop l.word-index l.words) ≡ program_option_value l.option l.words
